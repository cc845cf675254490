-- The blocks of a bit vector.
use Rattle.std.specs.Prelude.{◌≡◌, ℕ, ◌≤◌, ◌/◌, ◌%◌, Bool, true, ◌&&◌, nat_eq, List}
use Rattle.std.specs.Int.{bit_at}
use Rattle.std.specs.List.{flat_map}
use Rattle.entry_ref.specs.Records.{Records}
use Rattle.image_format.specs.Postings.{block_documents, IsBlock}
use Rattle.attr_types.specs.Lawful.{IsDocNumber}
use Rattle.index_model.specs.Sets.{has}

-- a block that has only valid document numbers
pub record IsDocumentBlock (m : Records) (p : ℕ × ℕ) : Type 0 where
  pub block : IsBlock p.0 (m p.1)
  pub few : p.0 ≤ 255
  pub documents : (doc : ℕ) → has (block_documents p.0 (m p.1)) doc ≡ true → IsDocNumber doc

-- the documents of blocks
abbrev pub documents_of : Records → List (ℕ × ℕ) → List ℕ
documents_of m blocks = flat_map (λ p. block_documents p.0 (m p.1)) blocks

-- whether a document has its bit set in word `place` of a bit vector
abbrev pub in_word : ℕ → ℕ → ℕ → Bool
in_word place word doc = nat_eq (doc / 64) place && nat_eq (bit_at word (doc % 64)) 1
