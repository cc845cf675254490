use Rattle.std.proofs.Common.{◌≡◌, ◌++◌, drop}
use Rattle.query_eval.specs.Indexes.{HasDictionaries, dictionaries_at}
use Rattle.query_eval.proofs.image.dictionaries_of.Given as goal

-- those so far, and those that are left
abbrev pub invariant-loop-i : goal.invariant-loop-i
invariant-loop-i g l =
    let m = g.F.Frozen.records l.fn.frozen in
    record {
      same : l.frozen ≡ l.fn.frozen;
      left : HasDictionaries m l.fn.root l.i (drop l.i l.fields);
      whole : l.list.items ++ dictionaries_at g.row.OFFSET_BITS m l.fn.root l.i (drop l.i l.fields)
          ≡ dictionaries_at g.row.OFFSET_BITS m l.fn.root 0 l.fields;
    }
