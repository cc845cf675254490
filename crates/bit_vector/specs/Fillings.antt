-- Blocks made of documents, one after another.
use Rattle.std.specs.Prelude.{◌≡◌, ◌<◌, ◌+◌, ◌*◌, ◌++◌, ℕ, Bool, nat_eq, if◌then◌else◌, List, [], ◌∷◌, length, filter}
use Rattle.std.specs.List.{range_with_len, AllZip}
use Rattle.entry_ref.specs.Records.{Records}
use Rattle.store_api.specs.Ledgers.{Ledger}
use Rattle.store_api.specs.Parts.{Turns, entries}
use Rattle.image_format.specs.declared.TheConstants.{BLOCK_DOCUMENTS, BLOCK_WORDS}
use Rattle.index_model.specs.Sets.{has, in_words}
use Rattle.bit_vector.specs.Vectors.{is_block_of}
use Rattle.bit_vector.specs.declared.filling.Blocks.{Blocks}

-- the words of a block with those of the documents that are in it
pub record IsBlockOf (docs : List ℕ) (k : ℕ) (words : List ℕ) : Type 0 where
  pub size : length words ≡ BLOCK_WORDS
  pub bits : (i : ℕ) → i < BLOCK_DOCUMENTS → in_words words i ≡ has docs (BLOCK_DOCUMENTS * k + i)

-- one record, or none
abbrev pub block_most : Bool → ℕ → ℕ
block_most made width = if made then (if nat_eq width BLOCK_WORDS then 1 else 0) else 0

-- records were made: one for a block that has documents, none for another
pub record MakesBlock {H : Type 0} (old new : Ledger H) (m n : Records) (docs : List ℕ) (k : ℕ) (before after : Blocks) : Type 0 where
  pub made : List ℕ
  pub numbers : after.numbers.items ≡ before.numbers.items ++ (if is_block_of docs k then k ∷ [] else [])
  pub records : after.records.items ≡ before.records.items ++ made
  pub each : AllZip (λ number ref. IsBlockOf docs number (n ref)) (if is_block_of docs k then k ∷ [] else []) made
  pub turns : Turns old new m n [] (entries made ∷ [])

-- the blocks below a number that have documents were made
pub record MakesBlocks {H : Type 0} (old new : Ledger H) (m n : Records) (docs : List ℕ) (below : ℕ) (blocks : Blocks) : Type 0 where
  pub numbers : blocks.numbers.items ≡ filter (is_block_of docs) (range_with_len 0 below)
  pub each : AllZip (λ number ref. IsBlockOf docs number (n ref)) blocks.numbers.items blocks.records.items
  pub turns : Turns old new m n [] (entries blocks.records.items ∷ [])
