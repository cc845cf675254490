use Rattle.std.proofs.Common.{arith, refl}
use Rattle.posting_store.proofs.CursorLemmas.{next_place, next_postings, vector_has, vector_next, vector_next_postings, vector_stands}
use Rattle.posting_store.proofs.cursor.PostingCursor.next.Goals as goal

pub returns-in-Short-clause-place : goal.returns-in-Short-clause-place
returns-in-Short-clause-place g c =
    next_place (g.F.Frozen.records c.args.frozen.now) c.args.self.now c.in-Short.list c.in-Short.count c.in-Short.at c.in-Short.is c.requires.place _ refl c.requires.posting

pub returns-in-Short-clause-postings : goal.returns-in-Short-clause-postings
returns-in-Short-clause-postings g c =
    next_postings (g.F.Frozen.records c.args.frozen.now) c.args.self.now c.in-Short.list c.in-Short.count c.in-Short.at c.in-Short.is c.requires.place

pub next-requires-in-Vector : goal.next-requires-in-Vector
next-requires-in-Vector g c = (
  omega arith,
  (
    vector_stands (g.F.Frozen.records c.args.frozen.now) c.args.self.now c.in-Vector.cursor c.in-Vector.is c.requires.place,
    vector_has (g.F.Frozen.records c.args.frozen.now) c.args.self.now c.in-Vector.cursor c.in-Vector.is c.requires.place c.requires.posting,
  ),
)

pub returns-in-Vector-clause-place : goal.returns-in-Vector-clause-place
returns-in-Vector-clause-place g c =
    vector_next (g.F.Frozen.records c.args.frozen.now) c.args.self.now c.in-Vector.cursor c.in-Vector.is c.requires.place c.next-in-Vector.new.self c.next-in-Vector.ensures.place c.next-in-Vector.ensures.documents

pub returns-in-Vector-clause-postings : goal.returns-in-Vector-clause-postings
returns-in-Vector-clause-postings g c =
    vector_next_postings (g.F.Frozen.records c.args.frozen.now) c.args.self.now c.in-Vector.cursor c.in-Vector.is c.requires.place c.next-in-Vector.new.self c.next-in-Vector.ensures.documents
