-- What operations make of attributes and of the store behind them.
use Rattle.std.specs.Prelude.{◌≡◌, ◌+◌, List, [], ◌∷◌}
use Rattle.attr_operations.specs.Calls.{LeavesEntries}
use Rattle.attr_operations.specs.Counts.{MakesOperation}
use Rattle.attr_types.specs.Table.{after_op}
use Rattle.attr_types.specs.declared.applied.Applied.TheVariants.{Skipped}
use Rattle.attr_types.specs.declared.op.Op.{Op}
use Rattle.attribute_kinds.specs.Calls.{applied_to, KeepsStore}
use Rattle.attribute_kinds.specs.Views.{AttributeView}
use Rattle.entry_ref.specs.Records.{Records}
use Rattle.store_api.specs.Ledgers.{Ledger}

-- all but the store, the table, its trees and the number of operations is the same: the attributes, the last commit, and
-- the compaction in progress
pub record KeepsRest {S : Type 0} (old new : AttributeView S) : Type 0 where
  pub fields : new.fields ≡ old.fields
  pub dense : new.dense ≡ old.dense
  pub root : new.root ≡ old.root
  pub committed : new.committed ≡ old.committed
  pub published : new.committed_operations ≡ old.committed_operations
  pub plan : new.plan ≡ old.plan

-- an operation was applied: it made no more than it may, and nothing where it changes nothing
pub record AppliesOp {S H : Type 0} (ledger : S → Ledger H) (old new : AttributeView S) (op : Op) : Type 0 where
  pub table : new.table ≡ after_op old.fields old.table op
  pub operations : new.operations ≡ old.operations + 1
  pub makes : MakesOperation old.dense (ledger old.store) (ledger new.store) old.fields old.table op
  pub skips : applied_to old.fields old.table op ≡ Skipped → new ≡ record old { operations = old.operations + 1 }
  pub keeps : KeepsStore (ledger old.store) (ledger new.store)
  pub rest : KeepsRest old new

-- operations were applied one after another, and nothing else was done
abbrev pub AppliesAll : {S H : Type 0} → (S → Ledger H) → AttributeView S → AttributeView S → List Op → Type 0
AppliesAll ledger old new [] = new ≡ old
AppliesAll {S} ledger old new (op ∷ ops) = (mid : AttributeView S) × AppliesOp ledger old mid op × AppliesAll ledger mid new ops

-- the same, of operations of which this holds
pub record Applies {S H : Type 0} (ledger : S → Ledger H) (which : List Op → Type 0) (old new : AttributeView S) : Type 0 where
  pub ops : List Op
  pub which_are : which ops
  pub applied : AppliesAll ledger old new ops

-- all but the store is the same, and in it each entry has its status and its record, except that one taken or given back
-- since is free
pub record LeavesAttributes {S H : Type 0} (ledger : S → Ledger H) (records : S → Records) (old new : AttributeView S) : Type 0 where
  pub left : new ≡ record old { store = new.store }
  pub keeps : KeepsStore (ledger old.store) (ledger new.store)
  pub entries : LeavesEntries (ledger old.store) (ledger new.store) (records old.store) (records new.store)
