-- A root record, made in place of the one before.
use Rattle.std.specs.Prelude.{◌≡◌, ℕ, zero, suc, ◌<◌, false, List, [], ◌∷◌}
use Rattle.image_format.specs.Words.{filled}
use Rattle.entry_ref.specs.References.{buffer_of}
use Rattle.entry_ref.specs.Records.{Records}
use Rattle.store_api.specs.Ledgers.{Ledger}
use Rattle.store_api.specs.Parts.{Turns, entries}

-- the root record, if there is one
abbrev pub root_entries : ℕ → List ℕ
root_entries zero = []
root_entries (suc root) = suc root ∷ []

-- a root record with these words was made in place of another (0 if there was none); it lies in no sealed buffer
pub record MakesRootRecord {H : Type 0} (bits : ℕ) (old new : Ledger H) (m n : Records) (words : List ℕ) (before root : ℕ) : Type 0 where
  pub some : 0 < root
  pub words_are : n root ≡ filled words
  pub unsealed : new.sealed (buffer_of bits root) ≡ false
  pub turns : Turns old new m n (entries (root_entries before) ∷ []) (entries (root_entries root) ∷ [])
