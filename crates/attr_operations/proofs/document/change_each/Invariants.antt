use Rattle.std.proofs.Common.{◌≡◌, true, length}
use Rattle.store_api.specs.Units.{MayDo}
use Rattle.std.specs.Option.{option_copied}
use Rattle.attr_operations.specs.Counts.{MakesDocument}
use Rattle.attr_operations.specs.Fields.{HaveForms, table_with, trees_of}
use Rattle.attr_operations.specs.Views.{table_at}
use Rattle.attr_operations.proofs.Walk.{IsPartway}
use Rattle.attr_operations.proofs.document.change_each.Given as goal

-- the attributes up to a place are changed, and the others as they were
abbrev pub invariant-loop-i : goal.invariant-loop-i
invariant-loop-i g l =
    let ledger = g.S.Store.ledger in
    let records = g.S.Frozen.records in
    let trees = trees_of l.fields l.fn.roots in
    record {
      unit : (ledger l.store).unit ≡ true;
      sized : length l.roots ≡ length l.fields;
      way : IsPartway (ledger l.fn.store) (ledger l.store) (records l.fn.store) (records l.store) l.fields trees (trees_of l.fields l.roots)
          (table_with (table_at (records l.fn.store) trees) l.doc (option_copied l.new)) l.i;
      forms : HaveForms l.dense (records l.store) (trees_of l.fields l.roots);
      counts : MakesDocument l.dense (ledger l.fn.store) (ledger l.store) l.fields (table_at (records l.fn.store) trees) l.doc (option_copied l.old) (option_copied l.new) l.i;
      may : MayDo (ledger l.fn.store) (ledger l.store);
    }
