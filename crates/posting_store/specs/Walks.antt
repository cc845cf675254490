-- Positions in a list.
use Rattle.std.specs.Prelude.{◌≡◌, ℕ, ℤ, pos, ◌<◌, ◌^◌, List, [], ◌∷◌, map, take, drop, slice_index}
use Rattle.std.specs.List.{AllByRecursion}
use Rattle.std.specs.Map.{keys_of}
use Rattle.entry_ref.specs.Records.{Records}
use Rattle.tree_read.specs.SearchPlaces.{IsAt, HasPair, pairs_from}
use Rattle.attr_types.specs.Lawful.{IsDocNumber}
use Rattle.image_format.specs.Words.{unpacked, weight_in_bits}
use Rattle.array_store.specs.Arrays.{IsArray}
use Rattle.bit_vector.specs.Walks.{documents_from, HasDocument, IsVectorPlace}
use Rattle.posting_store.specs.declared.cursor.PostingCursor.{PostingCursor}
use Rattle.posting_store.specs.declared.cursor.PostingCursor.TheVariants.{Short, Tree, Vector}

-- the postings from a position on
abbrev pub postings_from : {bits : ℕ} → Records → PostingCursor bits → List (ℕ × ℤ)
postings_from m (Short list count at) = map unpacked (drop at (take count (drop 1 (m list))))
postings_from m (Tree at) = map (λ p. (p.0, weight_in_bits p.1)) (pairs_from m at)
postings_from m (Vector at) = map (λ doc. (doc, pos 1)) (documents_from m at)

-- a posting follows
abbrev pub HasPosting : {bits : ℕ} → PostingCursor bits → Type 0
HasPosting (Short list count at) = at < count
HasPosting (Tree at) = HasPair at
HasPosting (Vector at) = HasDocument at

-- the position is in a record, a tree or a bit vector
abbrev pub StandsInList : {bits : ℕ} → Records → PostingCursor bits → Type 0
StandsInList m (Short list count at) = at < count → IsArray (m list) × (count ≡ slice_index (m list) 0)
StandsInList m (Tree at) = IsAt m at × AllByRecursion (λ p. p.1 < 2 ^ 32) (pairs_from m at)
StandsInList m (Vector at) = IsVectorPlace m at

-- the position is in a list
pub record IsListPlace {bits : ℕ} (m : Records) (at : PostingCursor bits) : Type 0 where
  pub stands : StandsInList m at
  pub numbers : AllByRecursion IsDocNumber (keys_of (postings_from m at))

abbrev pub first_doc : List (ℕ × ℤ) → ℕ
first_doc [] = 0
first_doc (e ∷ es) = e.0

abbrev pub first_weight : List (ℕ × ℤ) → ℤ
first_weight [] = pos 0
first_weight (e ∷ es) = e.1
