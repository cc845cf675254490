use Rattle.std.proofs.Common.{ap, ◌/◌, ◌∙◌}
use Rattle.posting_store.proofs.CursorLemmas.{this_doc, tree_doc, vector_doc}
use Rattle.posting_store.proofs.cursor.PostingCursor.doc.Goals as goal

pub new-requires-in-Tree-clause-first : goal.new-requires-in-Tree-clause-first
new-requires-in-Tree-clause-first g c =
    tree_doc (g.F.Frozen.records c.args.frozen.now) c.args.self.now c.in-Tree.cursor c.key.result c.in-Tree.is c.requires.place c.requires.posting c.key.ensures

pub returns-in-Short-clause-doc : goal.returns-in-Short-clause-doc
returns-in-Short-clause-doc g c =
    c.new.ensures ∙ ap (λ w. w / 4294967296) c.word.ensures.value
    ∙ this_doc (g.F.Frozen.records c.args.frozen.now) c.args.self.now c.in-Short.list c.in-Short.count c.in-Short.at c.in-Short.is c.requires.place c.requires.posting

pub returns-in-Vector-clause-doc : goal.returns-in-Vector-clause-doc
returns-in-Vector-clause-doc g c =
    vector_doc (g.F.Frozen.records c.args.frozen.now) c.args.self.now c.in-Vector.cursor c.in-Vector.is c.requires.place c.doc.result c.doc.ensures
