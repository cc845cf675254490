-- The weights of a document in lists, and its score by them.
use Rattle.std.specs.Prelude.{ℕ, ℤ, pos, Bool, List, [], Option, Some, None, unwrap_or}
use Rattle.std.specs.BTreeMap.{is_at}
use Rattle.std.specs.List.{list_any}
use Rattle.std.specs.Map.{keys_of, lookup}
use Rattle.std.specs.Ordering.{nat_cmp}
use Rattle.entry_ref.specs.Records.{Records}
use Rattle.image_format.specs.Postings.{list_form, postings_at, IsPostingList}
use Rattle.index_model.specs.Index.{Index, list_of}
use Rattle.attr_types.specs.declared.part.Part.{Part}
use Rattle.index_model.specs.Postings.{HaveDocNumbers}
use Rattle.index_model.specs.Sets.{has}

-- the weight of a document in a list, or 0 if the list lacks it
abbrev pub weight_in_list : ℕ → List (ℕ × ℤ) → ℤ
weight_in_list doc list = unwrap_or (lookup (is_at (nat_cmp doc)) list) (pos 0)

-- the list of a dictionary's word, or no documents if there is no word
abbrev pub word_list : Records → Option ℕ → List (ℕ × ℤ)
word_list m None = []
word_list m (Some word) = postings_at m (list_form word)

abbrev pub IsListWord : Records → Option ℕ → Type 0
IsListWord m None = Unit {0}
IsListWord m (Some word) = IsPostingList m (list_form word) × HaveDocNumbers (postings_at m (list_form word))

-- the list of some part's value has the document
abbrev pub is_found : List Part → Index → ℕ → Bool
is_found parts index doc = list_any (λ part. has (keys_of (list_of part.value index)) doc) parts
