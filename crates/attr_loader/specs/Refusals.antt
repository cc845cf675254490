-- Which call of an operation or a commit ran out of space, and in which store.
use Rattle.std.specs.Prelude.{◌≡◌, ◌⊎◌, ℕ, ◌+◌, Bool, List, slice_get, Some}
use Rattle.arena_api.specs.declared.answers.Oldest.{Oldest}
use Rattle.store_api.specs.Ledgers.{Ledger}
use Rattle.attr_types.specs.Table.{Table}
use Rattle.attr_types.specs.declared.field.Field.{Field}
use Rattle.attr_types.specs.declared.op.Op.{Op}
use Rattle.attr_operations.specs.Counts.{MakesOperation}
use Rattle.attribute_kinds.specs.Calls.{IsForRoot, KeepsStore, RefusesCommit, RefusesOperation}
use Rattle.attribute_kinds.specs.Counts.{LacksBuffers, NamesWidth, SparesOf}
use Rattle.attribute_kinds.specs.declared.answers.AttrError.{AttrError}
use Rattle.attribute_kinds.specs.declared.answers.AttrError.TheVariants.{Full}
use Rattle.attr_loader.specs.declared.loaded.NoRoom.{NoRoom}

-- a store refused an operation on this table: it was full for a width that the operation may need, and had few spare entries of
-- it
pub record IsRefusedOperation {H : Type 0} (old new : Ledger H) (dense : Bool) (fields : List Field) (table : Table) (op : Op)
    (error : AttrError) : Type 0 where
  pub refused : RefusesOperation old new error
  pub made : MakesOperation dense old new fields table op
  pub width : NamesWidth dense fields table op error
  pub spares : SparesOf dense new fields table op error
  pub room : LacksBuffers dense old fields table op error

-- a store refused a commit: it was full for the root record
pub record IsRefusedCommit {H : Type 0} (old new : Ledger H) (fields : List Field) (error : AttrError) : Type 0 where
  pub refused : RefusesCommit old new error
  pub width : IsForRoot fields error

-- the refused call was the next operation after those applied, and its number is this
pub record IsNextOperation {H : Type 0} (fields : List Field) (dense : Bool) (table : Table) (ops : List Op) (applied : ℕ)
    (old new : Ledger H) (number : ℕ) (error : AttrError) : Type 0 where
  pub number_is : number ≡ applied + 1
  pub op : Op
  pub is_next : slice_get ops applied ≡ Some op
  pub refuses : IsRefusedOperation old new dense fields table op error

-- the refused call was the commit of the operations applied, which are `last` in number; it counts as the last of them
pub record IsCommitOf {H : Type 0} (fields : List Field) (applied last : ℕ) (old new : Ledger H) (number : ℕ) (error : AttrError)
    : Type 0 where
  pub number_is : number ≡ applied
  pub is_last : applied ≡ last
  pub refuses : IsRefusedCommit old new fields error

-- the call that ran out of space left the store so, with this table after the operations applied: it was the next operation, or
-- the commit of all `last` of them; and it answered with exactly this number of buffers in use and held
pub record IsRefusedCall {H : Type 0} (fields : List Field) (dense : Bool) (table : Table) (ops : List Op) (applied last : ℕ)
    (new : Ledger H) (full : NoRoom) : Type 0 where
  pub old : Ledger H
  pub keeps : KeepsStore old new
  pub width : ℕ
  pub oldest : Oldest
  pub call : IsNextOperation fields dense table ops applied old new full.operation (Full width full.active full.held oldest)
      ⊎ IsCommitOf fields applied last old new full.operation (Full width full.active full.held oldest)
