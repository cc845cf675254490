use Rattle.std.proofs.Common.{ℕ, subst}
use Rattle.query_results.specs.Walks.{IsBefore, IsPast}
use Rattle.query_results.proofs.walks.pass_from.Goals as goal

pub returns-clause-before : goal.returns-clause-before
returns-clause-before g c = λ is.
    subst (λ (n : ℕ). IsBefore (g.F.Frozen.records c.args.frozen.now) c.args.root n c.pass_near.new.cursor) c.number-number.ensures.number c.pass_near.ensures.before

pub returns-clause-past : goal.returns-clause-past
returns-clause-past g c = λ is.
    subst (λ (n : ℕ). IsPast (g.F.Frozen.records c.args.frozen.now) n c.pass_near.new.cursor) c.number-number.ensures.number (c.pass_near.ensures.past is)
