-- What callers see of an operation.
use Rattle.std.proofs.Common.{◌≡◌, List, Option, Some, None, Result, Ok, Err, sym, ap}
use Rattle.std.specs.Prelude.{is_none, if◌then◌else◌, unwrap_or}
use Rattle.store_api.specs.Ledgers.{Ledger}
use Rattle.store_api.specs.declared.store.StoreError.{StoreError}
use Rattle.store_api.specs.declared.store.StoreError.TheVariants.{Full, Memory}
use Rattle.attr_types.specs.declared.applied.Applied.{Applied}
use Rattle.attr_types.specs.declared.applied.Applied.TheVariants.{Changed, Skipped}
use Rattle.attr_types.specs.Table.{Table, after_op, step}
use Rattle.attr_types.specs.declared.field.Field.{Field}
use Rattle.attr_types.specs.declared.op.Op.{Op}
use Rattle.attr_operations.specs.Calls.{RefusesUnit}
use Rattle.attribute_kinds.specs.Calls.{RefusesOperation, applied_to}
use Rattle.attribute_kinds.specs.Refusals.{refusal_of_store}
use Rattle.attribute_kinds.specs.declared.answers.AttrError.{AttrError}

pub changed_not : {X : Type 0} → ◌≡◌ {A = Result Applied AttrError} (Ok Changed) (Ok Skipped) → X
changed_not e = cc

pub refused_not : {X : Type 0} (error : AttrError) → ◌≡◌ {A = Result Applied AttrError} (Err error) (Ok Skipped) → X
refused_not error e = cc

pub refuses_operation : {H : Type 0} (old new : Ledger H) (e : StoreError) → RefusesUnit old new e → RefusesOperation old new (refusal_of_store e)
refuses_operation old new (Full width active held oldest) room = room
refuses_operation old new Memory room = tt

module _ (fields : List Field) (table : Table) (op : Op) where
  pub table_made : (next : Table) → step fields table op ≡ Some next → next ≡ after_op fields table op
  table_made next is = sym (ap (λ o. unwrap_or o table) is)

  pub table_skipped : step fields table op ≡ None → table ≡ after_op fields table op
  table_skipped is = sym (ap (λ o. unwrap_or o table) is)

  pub applied_made : (next : Table) → step fields table op ≡ Some next → Changed ≡ applied_to fields table op
  applied_made next is = sym (ap (λ (o : Option Table). if is_none o then Skipped else Changed) is)

  pub applied_skipped : step fields table op ≡ None → Skipped ≡ applied_to fields table op
  applied_skipped is = sym (ap (λ (o : Option Table). if is_none o then Skipped else Changed) is)
