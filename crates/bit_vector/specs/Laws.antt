-- Bit vectors, as laws.
use Rattle.std.specs.Prelude.{◌≡◌, ℕ, ◌<◌, length}
use Rattle.std.specs.List.Sorted.{IsStrictlySortedBy}
use Rattle.std.specs.Map.{keys_of}
use Rattle.std.specs.Ordering.{nat_cmp}
use Rattle.entry_ref.specs.Records.{Records, SameAt, AllThere}
use Rattle.bit_vector.specs.Vectors.{vector_at, vector_reach, IsVector}

-- the empty set
abbrev pub NothingIsVector : Type 0
NothingIsVector = (m : Records) → IsVector m 0

-- a bit vector stays the same, with its documents, while its records stay the same
abbrev pub VectorStays : Type 0
VectorStays = (m n : Records) (root : ℕ) → SameAt (vector_reach m root) m n → IsVector m root
    → IsVector n root × (vector_at n root ≡ vector_at m root)

-- its documents ascend
abbrev pub VectorAscends : Type 0
VectorAscends = (m : Records) (root : ℕ) → IsVector m root → IsStrictlySortedBy nat_cmp (keys_of (vector_at m root))

-- every root but 0 has a document
abbrev pub VectorHasDocuments : Type 0
VectorHasDocuments = (m : Records) (root : ℕ) → IsVector m root → 0 < root → 0 < length (vector_at m root)

-- its records exist
abbrev pub VectorIsThere : Type 0
VectorIsThere = (m : Records) (root : ℕ) → IsVector m root → AllThere (vector_reach m root) m
