-- The lists of values, by the words that a dictionary stores for them.
use Rattle.std.specs.Prelude.{◌≡◌, ℕ, ◌≤◌, ◌&&◌, Bool, List, map, Some}
use Rattle.std.specs.List.{list_all, list_any, AllByRecursion}
use Rattle.std.specs.Map.{keys_of}
use Rattle.entry_ref.specs.Records.{Records}
use Rattle.image_format.specs.Postings.{list_form, postings_at}
use Rattle.image_format.specs.declared.TheConstants.{FIRST_VECTOR}
use Rattle.index_model.specs.Found.{found}
use Rattle.index_model.specs.Index.{Index}
use Rattle.index_model.specs.Sets.{has}
use Rattle.attr_types.specs.Query.{tree_of}
use Rattle.attr_types.specs.declared.query.Query.{Query}
use Rattle.query_eval.specs.Weights.{IsListWord}

-- a list has a document
abbrev pub list_has : Records → ℕ → ℕ → Bool
list_has m list doc = has (keys_of (postings_at m (list_form list))) doc

-- exactly the documents that are in both lists
abbrev pub AreInBoth : Records → ℕ → ℕ → List ℕ → Type 0
AreInBoth m first second docs = (doc : ℕ) → has docs doc ≡ (list_has m first doc && list_has m second doc)

-- all of the lists have it, or some of them do
abbrev pub all_have : Records → List ℕ → ℕ → Bool
all_have m lists doc = list_all (λ list. list_has m list doc) lists

abbrev pub some_has : Records → List ℕ → ℕ → Bool
some_has m lists doc = list_any (λ list. list_has m list doc) lists

abbrev pub AreListWords : Records → List ℕ → Type 0
AreListWords m lists = AllByRecursion (λ list. IsListWord m (Some list)) lists

-- the word of a list that is a bit vector
pub record IsVectorWord (m : Records) (list : ℕ) : Type 0 where
  pub vector : FIRST_VECTOR ≤ list
  pub word : IsListWord m (Some list)

abbrev pub AreVectorWords : Records → List ℕ → Type 0
AreVectorWords m lists = AllByRecursion (IsVectorWord m) lists

-- the lists of members: each has the documents that its member matches
pub record AreListsOf (m : Records) (lists : List ℕ) (queries : List Query) (indexes : List Index) : Type 0 where
  pub words : AreListWords m lists
  pub documents : (doc : ℕ) → map (λ list. list_has m list doc) lists ≡ map (λ query. found (tree_of query) indexes doc) queries
