-- Positions in a bit vector.
use Rattle.std.specs.Prelude.{◌≡◌, ◌/◌, ◌%◌, ◌<◌, ℕ, nat_le, true, List, [], ◌∷◌, map, filter, length}
use Rattle.std.specs.List.{AllByRecursion}
use Rattle.std.specs.List.Sorted.{IsStrictlySortedBy}
use Rattle.std.specs.Ordering.{nat_cmp}
use Rattle.entry_ref.specs.Records.{Records}
use Rattle.tree_read.specs.SearchPlaces.{CursorPlace, IsAt, HasPair, pairs_from, first_key, first_value}
use Rattle.attr_types.specs.Lawful.{IsDocNumber}
use Rattle.image_format.specs.Postings.{IsBlock}
use Rattle.image_format.specs.declared.TheConstants.{BLOCK_DOCUMENTS}
use Rattle.index_model.specs.Sets.{in_words}
use Rattle.bit_vector.specs.Vectors.{blocks_documents}
use Rattle.bit_vector.specs.declared.cursor.VectorCursor.{VectorCursor}

-- the documents from a position on
abbrev pub documents_from : {bits : ℕ} → Records → VectorCursor bits → List ℕ
documents_from m at = filter (nat_le at.doc) (blocks_documents m (pairs_from m at.blocks))

-- a document follows
abbrev pub HasDocument : {bits : ℕ} → VectorCursor bits → Type 0
HasDocument at = HasPair at.blocks

-- the position of a tree's cursor is in the blocks of a bit vector
pub record IsBlockPlace (m : Records) (at : CursorPlace) : Type 0 where
  pub stands : IsAt m at
  pub ascends : IsStrictlySortedBy nat_cmp (map (λ p. p.0) (pairs_from m at))
  pub blocks : AllByRecursion (λ p. IsBlock p.0 (m p.1)) (pairs_from m at)
  pub numbers : AllByRecursion IsDocNumber (blocks_documents m (pairs_from m at))

-- a document is in the first of these blocks
pub record IsInBlock (m : Records) (doc : ℕ) (blocks : List (ℕ × ℕ)) : Type 0 where
  pub some : 0 < length blocks
  pub block : doc / BLOCK_DOCUMENTS ≡ first_key blocks
  pub bit : in_words (m (first_value blocks)) (doc % BLOCK_DOCUMENTS) ≡ true

-- the position is in a bit vector, and the document at hand in the block that follows
pub record IsVectorPlace {bits : ℕ} (m : Records) (at : VectorCursor bits) : Type 0 where
  pub blocks : IsBlockPlace m at.blocks
  pub document : HasDocument at → IsInBlock m at.doc (pairs_from m at.blocks)

abbrev pub first_document : List ℕ → ℕ
first_document [] = 0
first_document (doc ∷ docs) = doc
