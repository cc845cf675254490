use Rattle.std.proofs.Common.{subst}
use Rattle.query_results.specs.Walks.{IsBefore, IsPast}
use Rattle.query_results.proofs.walks.move_cursor.Goals as goal

pub returns-clause-before : goal.returns-clause-before
returns-clause-before g c =
    subst (λ (f : g.row.F.Denot). IsBefore (g.F.Frozen.records f) c.args.root c.args.doc c.search_root.new.cursor) c.pass_from.ensures.same c.search_root.ensures.before

pub returns-clause-past : goal.returns-clause-past
returns-clause-past g c =
    subst (λ (f : g.row.F.Denot). IsPast (g.F.Frozen.records f) c.args.doc c.search_root.new.cursor) c.pass_from.ensures.same c.search_root.ensures.past
