-- How a call that adds one record changes a store.
use Rattle.std.specs.Prelude.{◌≡◌, ◌≢◌, ℕ, ◌<◌, false, List, [], ◌∷◌}
use Rattle.image_format.specs.Words.{filled}
use Rattle.entry_ref.specs.References.{buffer_of}
use Rattle.entry_ref.specs.Records.{Records}
use Rattle.store_api.specs.Ledgers.{Ledger, capacity}
use Rattle.store_api.specs.Units.{MakesAtMost}
use Rattle.store_api.specs.Parts.{entry, Turns}

-- a record of these words, followed by zeros up to their class, was made at a new reference; it is owned, and nothing
-- else changes
pub record AddsRecord {H : Type 0} (bits : ℕ) (old new : Ledger H) (m n : Records) (words : List ℕ) (ref : ℕ) : Type 0 where
  pub some : 0 < ref
  pub turns : Turns old new m n [] (entry ref ∷ [])
  pub words_are : n ref ≡ filled words
  pub none : m ref ≡ []
  pub others : (q : ℕ) → q ≢ ref → n q ≡ m q
  pub unsealed : new.sealed (buffer_of bits ref) ≡ false

-- no record was made, and what is in use stays in use
pub record AddsNothing {H : Type 0} (old new : Ledger H) (m n : Records) : Type 0 where
  pub turns : Turns old new m n [] []
  pub records : n ≡ m
  pub none_made : (c w : ℕ) → MakesAtMost c 0 (old.of_width w) (new.of_width w)

-- at most one record was made, and only of this width
pub record MakesOneOf {H : Type 0} (width : ℕ) (old new : Ledger H) : Type 0 where
  pub one : MakesAtMost (capacity old.work.sizes.words width) 1 (old.of_width width) (new.of_width width)
  pub others : (c w : ℕ) → w ≢ width → MakesAtMost c 0 (old.of_width w) (new.of_width w)
