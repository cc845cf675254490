-- The indexes that dictionaries represent.
use Rattle.std.specs.Prelude.{◌≡◌, ℕ, suc, ◌+◌, ◌*◌, ◌<◌, ◌^◌, true, List, [], ◌∷◌, length, map, Option, Some, None}
use Rattle.std.specs.List.{AllByRecursion}
use Rattle.entry_ref.specs.Records.{Records}
use Rattle.image_format.specs.Images.{dictionary_at}
use Rattle.image_format.specs.Postings.{index_of}
use Rattle.index_model.specs.Index.{Index}
use Rattle.attr_types.specs.Query.{tree_of, query_trees, and}
use Rattle.attr_types.specs.declared.field.Field.{Field}
use Rattle.attr_types.specs.declared.query.Query.{Query}
use Rattle.index_model.specs.Sets.{has}
use Rattle.index_model.specs.Found.{found}
use Rattle.query_eval.specs.Parts.{IsIndexed}
use Rattle.query_eval.specs.declared.dictionary.Dictionary.{Dictionary}

-- each dictionary and its lists are well formed
abbrev pub AreIndexed : (bits : ℕ) → Records → List (Dictionary bits) → Type 0
AreIndexed bits m dictionaries = AllByRecursion (λ d. IsIndexed d.values m d.root) dictionaries

abbrev pub indexes_in : (bits : ℕ) → Records → List (Dictionary bits) → List Index
indexes_in bits m dictionaries = map (λ d. index_of d.values m d.root) dictionaries

-- the dictionaries of attributes, from number `i` on
abbrev pub dictionaries_at : (bits : ℕ) → Records → ℕ → ℕ → List Field → List (Dictionary bits)
dictionaries_at bits m root i [] = []
dictionaries_at bits m root i (field ∷ fields) =
    record { root = dictionary_at m root i; values = field.value } ∷ dictionaries_at bits m root (suc i) fields

-- the root record has a word for each dictionary, which fits in a reference
abbrev pub HasDictionaries : Records → ℕ → ℕ → List Field → Type 0
HasDictionaries m root i [] = Unit {0}
HasDictionaries m root i (field ∷ fields) =
    (0 < root → 2 + 2 * i < length (m root)) × (dictionary_at m root i < 2 ^ 32) × HasDictionaries m root (suc i) fields

-- exactly the documents that all of these queries match
abbrev pub AreCommon : List ℕ → List Query → List Index → Type 0
AreCommon docs queries indexes = (doc : ℕ) → has docs doc ≡ found (and (query_trees queries)) indexes doc

-- a query matches all of these documents
abbrev pub IsMatched : List ℕ → Query → List Index → Type 0
IsMatched docs query indexes = (doc : ℕ) → has docs doc ≡ true → found (tree_of query) indexes doc ≡ true

-- if there is a query, it matches all of these documents
abbrev pub AreMatched : List ℕ → Option Query → List Index → Type 0
AreMatched docs None indexes = Unit {0}
AreMatched docs (Some query) indexes = IsMatched docs query indexes
