use Rattle.posting_store.proofs.moving.move_plain.Goals as goal

pub returns-else-is_tree-clause-moves : goal.returns-else-is_tree-clause-moves
returns-else-is_tree-clause-moves g c = c.move_short.ensures.moves c.args.doc
