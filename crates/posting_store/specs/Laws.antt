-- Posting lists, as laws.
use Rattle.std.specs.Prelude.{◌≡◌, ℕ, ◌<◌, length}
use Rattle.entry_ref.specs.Records.{Records, SameAt, AllThere}
use Rattle.posting_store.specs.Lists.{list_at, list_reach, IsList}

-- the empty list
abbrev pub NothingIsList : Type 0
NothingIsList = (m : Records) → IsList m 0

-- a list stays the same, with its documents, while its records stay the same
abbrev pub ListStays : Type 0
ListStays = (m n : Records) (word : ℕ) → SameAt (list_reach m word) m n → IsList m word → IsList n word × (list_at n word ≡ list_at m word)

-- every list but 0 has a document
abbrev pub ListHasDocuments : Type 0
ListHasDocuments = (m : Records) (word : ℕ) → IsList m word → 0 < word → 0 < length (list_at m word)

-- the records of a list exist
abbrev pub ListIsThere : Type 0
ListIsThere = (m : Records) (word : ℕ) → IsList m word → AllThere (list_reach m word) m
