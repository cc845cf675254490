-- One block of a bit vector: found, set, or taken out.
use Rattle.std.specs.Prelude.{◌≡◌, ◌/◌, ◌%◌, ◌*◌, ◌<◌, ◌≤◌, ℕ, nat_eq, if◌then◌else◌, true, false, List, [], ◌∷◌, length}
use Rattle.std.specs.declared.cmp.Ordering.{Ordering}
use Rattle.std.specs.Ordering.{nat_cmp}
use Rattle.entry_ref.specs.Records.{Records, Among}
use Rattle.store_api.specs.Ledgers.{Ledger}
use Rattle.store_api.specs.Parts.{Part, Owns, Turns}
use Rattle.image_format.specs.Postings.{vector_documents}
use Rattle.image_format.specs.declared.TheConstants.{BLOCK_DOCUMENTS}
use Rattle.index_model.specs.Sets.{has, in_words}
use Rattle.bit_vector.specs.Changes.{vector_part}
use Rattle.bit_vector.specs.Keeps.{KeepsBlocks}
use Rattle.bit_vector.specs.Vectors.{vector_reach, IsVector}

-- compares a stored number with that of the sought block
abbrev pub beside_block : ℕ → ℕ → Ordering
beside_block k stored = nat_cmp stored k

-- some bit is 1
pub record HasBit (words : List ℕ) : Type 0 where
  pub bit : ℕ
  pub within : bit < 64 * length words
  pub set : in_words words bit ≡ true

-- the first bit from a place on that is 1, or the number of bits
pub record IsNextBit (words : List ℕ) (from bit : ℕ) : Type 0 where
  pub from_on : from ≤ bit
  pub within : bit ≤ BLOCK_DOCUMENTS
  pub before : (i : ℕ) → from ≤ i → i < bit → in_words words i ≡ false
  pub set : bit < BLOCK_DOCUMENTS → in_words words bit ≡ true

-- a bit vector was made in place of parts. In block k it has the documents of these words, elsewhere those of another
-- bit vector, and a block whose record that one had was this block of it
pub record SetsBlock {H : Type 0} (old new : Ledger H) (m n : Records) (root : ℕ) (parts : List Part) (k : ℕ) (words : List ℕ) (next : ℕ)
    : Type 0 where
  pub vector_is : IsVector n next
  pub documents : (doc : ℕ) → has (vector_documents n next) doc
      ≡ (if nat_eq (doc / BLOCK_DOCUMENTS) k then in_words words (doc % BLOCK_DOCUMENTS) else has (vector_documents m root) doc)
  pub blocks : KeepsBlocks (λ r. Among r (vector_reach m root)) m n root next
  pub owns : Owns new n (vector_part next ∷ [])
  pub turns : Turns old new m n parts (vector_part next ∷ [])
