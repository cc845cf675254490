use Rattle.std.proofs.Common.{sym, arith}
use Rattle.attr_types.specs.Lawful.{IsDocNumber}
use Rattle.query_results.proofs.LongLemmas.{absent}
use Rattle.query_results.proofs.longs.next_long.Goals.{then-document-lt1-via-then-document-lt1, then-document-lt1-via-else-document-lt1+then-document-gt-LAST}
use Rattle.query_results.proofs.longs.next_long.Goals as goal

pub returns-then-document-lt1-clause-long : goal.returns-then-document-lt1-clause-long
returns-then-document-lt1-clause-long g c =
    let a = c.args.attribute.now in
    let out : IsDocNumber c.args.document → ⊥ = elim c.then-document-lt1.branch [
      | then-document-lt1-via-then-document-lt1 w ↦ λ is. omega (arith, w.if-document-lt1, is.0)
      | then-document-lt1-via-else-document-lt1+then-document-gt-LAST w ↦ λ is. omega (arith, w.if-document-gt-LAST, is.1)
    ] in
    sym (absent a.kind a.value_type (g.F.Frozen.records c.args.frozen.now) c.args.document a.documents c.requires.documents out)
