-- A list of documents with weights, by the word that a dictionary stores for it: 0 is the empty list.
use Rattle.std.specs.Prelude.{◌≡◌, ℕ, zero, suc, ℤ, pos, ◌<◌, Bool, nat_le, List, []}
use Rattle.std.specs.BTreeMap.{insert_entry, is_at}
use Rattle.std.specs.List.{AllByRecursion}
use Rattle.std.specs.List.Sorted.{IsStrictlySortedBy}
use Rattle.std.specs.Map.{keys_of, remove_entry}
use Rattle.std.specs.Ordering.{nat_cmp}
use Rattle.entry_ref.specs.Records.{Records}
use Rattle.frozen_btree.specs.Changes.{levels}
use Rattle.attr_types.specs.Lawful.{IsDocNumber}
use Rattle.image_format.specs.declared.TheConstants.{FIRST_VECTOR}
use Rattle.image_format.specs.Postings.{ListForm, short, tree, vector, list_form, postings_at, postings_reach, IsPostingList}

-- the documents of a list, each with its weight
abbrev pub list_at : Records → ℕ → List (ℕ × ℤ)
list_at m zero = []
list_at m (suc word) = postings_at m (list_form (suc word))

-- the documents of a list with one more, or with another weight for it
abbrev pub with_document : Records → ℕ → ℕ → ℤ → List (ℕ × ℤ)
with_document m word doc weight = insert_entry nat_cmp (list_at m word) doc weight

-- the documents of a list but one
abbrev pub without_document : Records → ℕ → ℕ → List (ℕ × ℤ)
without_document m word doc = remove_entry (is_at (nat_cmp doc)) (list_at m word)

-- the references of its records
abbrev pub list_reach : Records → ℕ → List ℕ
list_reach m zero = []
list_reach m (suc word) = postings_reach m (list_form (suc word))

-- the number of levels of nodes, which is 0 for a short list
abbrev pub form_levels : Records → ListForm → ℕ
form_levels m (short ref) = 0
form_levels m (tree root) = levels m root
form_levels m (vector root) = levels m root

abbrev pub list_levels : Records → ℕ → ℕ
list_levels m word = form_levels m (list_form word)

-- a list is well formed, and its documents ascend
pub record IsList (m : Records) (word : ℕ) : Type 0 where
  pub form : 0 < word → IsPostingList m (list_form word)
  pub ascends : IsStrictlySortedBy nat_cmp (keys_of (list_at m word))
  pub numbers : AllByRecursion IsDocNumber (keys_of (list_at m word))

-- documents that ascend
pub record AreDocuments (docs : List (ℕ × ℤ)) : Type 0 where
  pub ascends : IsStrictlySortedBy nat_cmp (keys_of docs)
  pub numbers : AllByRecursion IsDocNumber (keys_of docs)

-- each weight is 1, as in a bit vector
abbrev pub AreOnes : List (ℕ × ℤ) → Type 0
AreOnes docs = AllByRecursion (λ e. e.1 ≡ pos 1) docs

-- it is a bit vector
abbrev pub is_vector : ℕ → Bool
is_vector word = nat_le FIRST_VECTOR word

-- it is not a bit vector
abbrev pub IsPlain : ℕ → Type 0
IsPlain word = word < FIRST_VECTOR
