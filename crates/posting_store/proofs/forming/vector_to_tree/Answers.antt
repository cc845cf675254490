use Rattle.std.proofs.Common.{true, false, inr, refl, arith}
use Rattle.std.proofs.lemmas.Result.{err_from_is_err_and}
use Rattle.bit_vector.specs.Changes.{IsVectorWidth}
use Rattle.store_api.proofs.May.{may_do-same, may_do-then}
use Rattle.posting_store.specs.Lists.{list_at}
use Rattle.posting_store.specs.Changes.{form_most}
use Rattle.posting_store.proofs.ChangeLemmas.{counts_then, old_owned, old_stays, replaces}
use Rattle.posting_store.proofs.RefusalLemmas.{of_one}
use Rattle.posting_store.proofs.VectorLemmas.{tree_counts, vector_as_tree, vector_is}
use Rattle.posting_store.proofs.forming.vector_to_tree.Goals as goal

pub to_tree-requires : goal.to_tree-requires
to_tree-requires g c =
    (omega arith, (c.requires.unit, vector_is (g.S.Frozen.records c.args.store.now) c.args.list c.root_of-vector.result c.root_of-vector.ensures c.requires.list))

pub drop_list-requires-clause-list : goal.drop_list-requires-clause-list
drop_list-requires-clause-list g c =
    let a = g.S.Store.ledger c.args.store.now in
    let b = g.S.Store.ledger c.to_tree.new.store in
    let m = g.S.Frozen.records c.args.store.now in
    let n = g.S.Frozen.records c.to_tree.new.store in
    let makes = vector_as_tree a b m n c.args.list c.root_of-vector.result c.root_of-vector.ensures c.requires.list c.tree-made.result c.in_ok-root.root c.tree-made.ensures.word c.tree-made.ensures.plain
    c.in_ok-root.ensures.makes in
    old_stays a b b m n n c.args.list c.tree-made.result (list_at m c.args.list) c.requires.owns makes c.requires.list

pub drop_list-requires-clause-owns : goal.drop_list-requires-clause-owns
drop_list-requires-clause-owns g c =
    let a = g.S.Store.ledger c.args.store.now in
    let b = g.S.Store.ledger c.to_tree.new.store in
    let m = g.S.Frozen.records c.args.store.now in
    let n = g.S.Frozen.records c.to_tree.new.store in
    let makes = vector_as_tree a b m n c.args.list c.root_of-vector.result c.root_of-vector.ensures c.requires.list c.tree-made.result c.in_ok-root.root c.tree-made.ensures.word c.tree-made.ensures.plain
    c.in_ok-root.ensures.makes in
    old_owned a b b m n n c.args.list c.tree-made.result (list_at m c.args.list) c.requires.owns makes

pub returns-in_err-root-clause-counts : goal.returns-in_err-root-clause-counts
returns-in_err-root-clause-counts g c =
    let a = g.S.Store.ledger c.args.store.now in
    let b = g.S.Store.ledger c.to_tree.new.store in
    let m = g.S.Frozen.records c.args.store.now in
    let n = g.S.Frozen.records c.to_tree.new.store in
    tree_counts a b m n c.args.list c.root_of-vector.result c.root_of-vector.ensures c.requires.list c.to_tree.ensures.counts

pub returns-in_err-root-clause-refuses : goal.returns-in_err-root-clause-refuses
returns-in_err-root-clause-refuses g c =
    let a = g.S.Store.ledger c.args.store.now in
    let p = err_from_is_err_and c.from_residual.result c.from_residual.ensures.1 in
    rw (p.1, p.2) (of_one IsVectorWidth a a (g.S.Store.ledger c.to_tree.new.store) 34 _ (may_do-same a) refl (inr refl) c.in_err-root.ensures.refuses)

pub returns-clause-makes : goal.returns-clause-makes
returns-clause-makes g c =
    let a = g.S.Store.ledger c.args.store.now in
    let b = g.S.Store.ledger c.to_tree.new.store in
    let u = g.S.Store.ledger c.drop_list.new.store in
    let m = g.S.Frozen.records c.args.store.now in
    let n = g.S.Frozen.records c.to_tree.new.store in
    let o = g.S.Frozen.records c.drop_list.new.store in
    let makes = vector_as_tree a b m n c.args.list c.root_of-vector.result c.root_of-vector.ensures c.requires.list c.tree-made.result c.in_ok-root.root c.tree-made.ensures.word c.tree-made.ensures.plain
    c.in_ok-root.ensures.makes in
    replaces a b u m n o c.args.list c.tree-made.result (list_at m c.args.list) c.requires.owns makes c.to_tree.ensures.may c.drop_list.ensures.turns

pub returns-clause-counts : goal.returns-clause-counts
returns-clause-counts g c =
    let a = g.S.Store.ledger c.args.store.now in
    let b = g.S.Store.ledger c.to_tree.new.store in
    let u = g.S.Store.ledger c.drop_list.new.store in
    let m = g.S.Frozen.records c.args.store.now in
    let n = g.S.Frozen.records c.to_tree.new.store in
    counts_then a b u (form_most true false (list_at m c.args.list))
    (tree_counts a b m n c.args.list c.root_of-vector.result c.root_of-vector.ensures c.requires.list c.to_tree.ensures.counts) c.drop_list.ensures.none_made

pub returns-clause-may : goal.returns-clause-may
returns-clause-may g c = may_do-then _ _ _ c.to_tree.ensures.may c.drop_list.ensures.may
