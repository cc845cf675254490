use Rattle.std.proofs.Common.{nat_le, sym, ap, ◌∙◌, arith}
use Rattle.posting_store.proofs.VectorLemmas.{vector_is, vector_size}
use Rattle.posting_store.proofs.cursor.vector_has_at_least.Goals as goal

pub has_at_least-requires : goal.has_at_least-requires
has_at_least-requires g c =
    (omega arith, vector_is (g.F.Frozen.records c.args.frozen.now) c.args.list c.root_of-root.result c.root_of-root.ensures c.requires.list)

pub returns-clause-least : goal.returns-clause-least
returns-clause-least g c =
    c.has_at_least.ensures.least
    ∙ ap (nat_le c.args.least) (sym (vector_size (g.F.Frozen.records c.args.frozen.now) c.args.list c.root_of-root.result c.root_of-root.ensures c.requires.list))
