-- How one operation changes the attributes in their store.
use Rattle.std.specs.Prelude.{◌≡◌, ℕ, List, length, Result, Ok, Err, Option, Some, None, Vec}
use Rattle.std.specs.declared.alloc.Global.{Global}
use Rattle.std.specs.List.{AllZip}
use Rattle.entry_ref.specs.Records.{Records}
use Rattle.store_api.specs.Ledgers.{Ledger}
use Rattle.store_api.specs.Parts.{Turns}
use Rattle.store_api.specs.declared.store.StoreError.{StoreError}
use Rattle.attr_field.specs.declared.roots.FieldRoots.{FieldRoots}
use Rattle.image_format.specs.Tables.{AttributeTrees}
use Rattle.attr_types.specs.Table.{step}
use Rattle.attr_types.specs.declared.field.Field.{Field}
use Rattle.attr_types.specs.declared.op.Op.{Op}
use Rattle.attr_operations.specs.Calls.{LeavesEntries, RefusesUnit}
use Rattle.attr_operations.specs.Fields.{AreFields, FlowsTrees, KeepsWords, MakesUnsealed, StillRefer, parts_of, trees_of}
use Rattle.attr_operations.specs.Views.{table_at}

-- the operation was applied: these trees replace others, own what they owned, and represent the next table
pub record StepsTo {H : Type 0} (fields : List Field) (old new : Ledger H) (m n : Records) (trees : List AttributeTrees) (op : Op)
    (next : List AttributeTrees) : Type 0 where
  pub are_fields : AreFields n fields next
  pub turns : Turns old new m n (parts_of trees) (parts_of next)
  pub refer : StillRefer old new m n trees next
  pub flows : AllZip (FlowsTrees old m n) trees next
  pub unsealed : MakesUnsealed old new
  pub words : KeepsWords old new m n
  pub step_is : step fields (table_at m trees) op ≡ Some (table_at n next)

pub record MadeStep {H : Type 0} {bits : ℕ} (fields : List Field) (old new : Ledger H) (m n : Records) (trees : List AttributeTrees)
    (op : Op) (roots : List (FieldRoots bits)) : Type 0 where
  pub sized : length roots ≡ length fields
  pub steps : StepsTo fields old new m n trees op (trees_of fields roots)

-- it was skipped: the store is the same
pub record SkippedStep (fields : List Field) (m : Records) (trees : List AttributeTrees) (op : Op) (same : Type 0) : Type 0 where
  pub step_is : step fields (table_at m trees) op ≡ None
  pub store_is : same

-- it was refused: each entry has the same status as before
pub record RefusedStep {H : Type 0} (old new : Ledger H) (m n : Records) (error : StoreError) : Type 0 where
  pub left : LeavesEntries old new m n
  pub refused : RefusesUnit old new error

abbrev pub Stepped : {H : Type 0} → {bits : ℕ} → List Field → Ledger H → Ledger H → Records → Records → List AttributeTrees → Op → Type 0
    → Result (Option (Vec (FieldRoots bits) Global)) StoreError → Type 0
Stepped fields old new m n trees op same (Ok None) = SkippedStep fields m trees op same
Stepped fields old new m n trees op same (Ok (Some roots)) = MadeStep fields old new m n trees op roots.items
Stepped fields old new m n trees op same (Err error) = RefusedStep old new m n error
