-- What the keeper of a row's store knows of it.
use Rattle.std.specs.Prelude.{◌≡◌, ℕ, zero, suc, false, true, List, [], ◌∷◌, Some}
use Rattle.entry_ref.specs.References.{buffer_of}
use Rattle.entry_ref.specs.Records.{Records}
use Rattle.store_api.specs.Ledgers.{Ledger, is_this}
use Rattle.store_api.specs.Parts.{OwnsAll, entries}
use Rattle.test_kit.specs.OneNode.{IsNodeRecord}
use Rattle.test_arena.specs.declared.keeping.Keeping.{Keeping}

-- the records of a root: itself, or none if it is 0
abbrev pub root_refs : ℕ → List ℕ
root_refs zero = []
root_refs (suc r) = suc r ∷ []

-- between units: the root is a node and all that is in use, the sealed buffer is sealed, and the root does not lie in
-- the finished one
pub record IsKeeping {H : Type 0} (ledger : Ledger H) (m : Records) (k : Keeping) : Type 0 where
  pub unit : ledger.unit ≡ false
  pub owns : OwnsAll ledger m (entries (root_refs k.root) ∷ [])
  pub node : IsNodeRecord 0 m k.root
  pub sealed : (b : ℕ) → k.sealed ≡ Some b → ledger.sealed b ≡ true
  pub finished : ledger.finished ≡ k.finished
  pub apart : is_this k.finished (buffer_of 22 k.root) ≡ false
