-- What holds of attributes between calls.
use Rattle.std.specs.Prelude.{◌≡◌, ℕ, ◌≤◌, Bool, List, length, Option, is_some}
use Rattle.std.specs.Option.{IfSome}
use Rattle.entry_ref.specs.Images.{words_at}
use Rattle.entry_ref.specs.Records.{Records}
use Rattle.arena_api.specs.Works.{last_image}
use Rattle.store_api.specs.Ledgers.{Ledger}
use Rattle.attr_compaction.specs.Places.{PlanView}
use Rattle.attr_field.specs.declared.roots.FieldRoots.{FieldRoots}
use Rattle.image_format.specs.Images.{IsLawfulImage, operations_at}
use Rattle.image_format.specs.Shapes.{shape_of, types_of}
use Rattle.attr_types.specs.declared.field.TheConstants.{MOST_FIELDS}
use Rattle.attr_types.specs.declared.field.Field.{Field}
use Rattle.attr_operations.specs.Fields.{HaveForms, HoldsAttributes, trees_of}
use Rattle.compaction_steps.specs.Units.{IsUnderWay}
use Rattle.compaction_steps.specs.Walks.{HasLastField}

-- the last commit: its root record, its number, and its number of operations
pub record IsLast {H : Type 0} (ledger : Ledger H) (fields : List Field) (root commit operations : ℕ) : Type 0 where
  pub root_is : (last_image ledger.work.commits).root ≡ root
  pub lawful : IsLawfulImage (shape_of (types_of fields)) (words_at (last_image ledger.work.commits)) root
  pub operations_are : operations_at (words_at (last_image ledger.work.commits)) root ≡ operations
  pub number : commit ≡ ledger.work.commits.last

pub record StandsAttribute {H : Type 0} {bits : ℕ} (ledger : Ledger H) (m : Records) (fields : List Field)
    (roots : List (FieldRoots bits)) (root commit operations : ℕ) : Type 0 where
  pub sized : length roots ≡ length fields
  pub few : length fields ≤ MOST_FIELDS
  pub shape : ledger.shape ≡ shape_of (types_of fields)
  pub holds : HoldsAttributes bits ledger m fields (trees_of fields roots) root
  pub last : IsLast ledger fields root commit operations

-- the invariant, with the flag for bit vectors, and with the compaction in progress, or the emptied buffer that waits for its commit
pub record IsAttribute {H : Type 0} {bits : ℕ} (dense : Bool) (ledger : Ledger H) (m : Records) (fields : List Field)
    (roots : List (FieldRoots bits)) (root commit operations : ℕ) (plan : Option PlanView) (waits : Bool) : Type 0 where
  pub stands : StandsAttribute ledger m fields roots root commit operations
  pub forms : HaveForms dense m (trees_of fields roots)
  pub plan_is : IfSome plan (IsUnderWay bits root ledger m (trees_of fields roots))
  pub last_is : IfSome plan HasLastField
  pub waits_is : waits ≡ is_some ledger.finished
