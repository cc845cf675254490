-- The empty tree is one by tens.
use Rattle.std.proofs.Common.{◌≡◌, ℕ, zero, suc, true, arith}
use Rattle.std.specs.List.Sorted.{IsStrictlySortedBy}
use Rattle.entry_ref.specs.Records.{Records}
use Rattle.store_api.specs.Ledgers.{Ledger}
use Rattle.test_trees.specs.Tens.{HoldsTens}

pub holds-none : {H : Type 0} (ledger : Ledger H) (m : Records) (root : ℕ) → root ≡ 0 → ledger.unit ≡ true → HoldsTens ledger m root
unfolding IsStrictlySortedBy
holds-none ledger m zero none unit = record {
  unit = unit;
  keyed = record { tree = record { node = λ some. absurd (omega arith); ascends = tt }; readable = tt; apart = tt };
  owns = record { each = λ r. omega arith };
}
holds-none ledger m (suc root) none unit = absurd (omega arith)
