use Rattle.std.proofs.Common.{arith}
use Rattle.posting_store.proofs.CursorLemmas.{vector_place, vector_postings}
use Rattle.posting_store.proofs.VectorLemmas.{vector_is}
use Rattle.posting_store.proofs.cursor.walk_vector.Goals as goal

pub first-requires : goal.first-requires
first-requires g c =
    (omega arith, (omega arith, vector_is (g.F.Frozen.records c.args.frozen.now) c.args.list c.root_of-root.result c.root_of-root.ensures c.requires.list))

pub returns-clause-place : goal.returns-clause-place
returns-clause-place g c =
    vector_place (g.F.Frozen.records c.args.frozen.now) c.args.list c.root_of-root.result c.first.result c.root_of-root.ensures c.requires.list c.first.ensures.place c.first.ensures.documents

pub returns-clause-postings : goal.returns-clause-postings
returns-clause-postings g c =
    vector_postings (g.F.Frozen.records c.args.frozen.now) c.args.list c.root_of-root.result c.first.result c.root_of-root.ensures c.first.ensures.documents
