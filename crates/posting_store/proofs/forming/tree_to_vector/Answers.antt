use Rattle.std.proofs.Common.{◌≡◌, ◌+◌, ◌*◌, false, true, arith}
use Rattle.std.proofs.lemmas.Result.{err_from_is_err_and}
use Rattle.store_api.proofs.May.{may_do-then}
use Rattle.posting_store.specs.Lists.{list_at}
use Rattle.posting_store.specs.Changes.{form_most}
use Rattle.posting_store.proofs.ChangeLemmas.{counts_then, old_owned, old_stays, replaces}
use Rattle.posting_store.proofs.FormLemmas.{many_odd, tree_form}
use Rattle.posting_store.proofs.LeafLemmas.{tree_owned}
use Rattle.posting_store.proofs.VectorLemmas.{blocks_counts, tree_as_vector, tree_numbers}
use Rattle.posting_store.proofs.forming.tree_to_vector.Goals as goal

pub from_tree-requires : goal.from_tree-requires
from_tree-requires g c =
    let a = g.S.Store.ledger c.args.store.now in
    let m = g.S.Frozen.records c.args.store.now in
    let odd = many_odd m c.args.list c.requires.plain c.requires.list c.requires.many in
    let is : c.args.list ≡ 2 * c.entry.result + 1 = let e = c.entry.ensures in omega (arith, odd, e) in (
      omega arith,
      (
        c.requires.unit,
        (
          (tree_form m c.args.list c.entry.result c.requires.plain is c.requires.list).0,
          (
            tree_numbers a a m m c.args.list c.entry.result c.requires.list c.requires.plain is,
            tree_owned a a m m c.args.list c.entry.result c.requires.list c.requires.plain is c.requires.owns,
          ),
        ),
      ),
    )

pub drop_list-requires-clause-list : goal.drop_list-requires-clause-list
drop_list-requires-clause-list g c =
    let a = g.S.Store.ledger c.args.store.now in
    let b = g.S.Store.ledger c.from_tree.new.store in
    let m = g.S.Frozen.records c.args.store.now in
    let n = g.S.Frozen.records c.from_tree.new.store in
    let odd = many_odd m c.args.list c.requires.plain c.requires.list c.requires.many in
    let is : c.args.list ≡ 2 * c.entry.result + 1 = let e = c.entry.ensures in omega (arith, odd, e) in
    let makes = tree_as_vector a b m n c.args.list c.entry.result c.requires.list c.requires.plain is c.vector-next.result c.in_ok-root.root c.vector-next.ensures.word c.vector-next.ensures.vector
    c.requires.many c.requires.ones c.from_tree.ensures.may c.in_ok-root.ensures.makes in
    old_stays a b b m n n c.args.list c.vector-next.result (list_at m c.args.list) c.requires.owns makes c.requires.list

pub drop_list-requires-clause-owns : goal.drop_list-requires-clause-owns
drop_list-requires-clause-owns g c =
    let a = g.S.Store.ledger c.args.store.now in
    let b = g.S.Store.ledger c.from_tree.new.store in
    let m = g.S.Frozen.records c.args.store.now in
    let n = g.S.Frozen.records c.from_tree.new.store in
    let odd = many_odd m c.args.list c.requires.plain c.requires.list c.requires.many in
    let is : c.args.list ≡ 2 * c.entry.result + 1 = let e = c.entry.ensures in omega (arith, odd, e) in
    let makes = tree_as_vector a b m n c.args.list c.entry.result c.requires.list c.requires.plain is c.vector-next.result c.in_ok-root.root c.vector-next.ensures.word c.vector-next.ensures.vector
    c.requires.many c.requires.ones c.from_tree.ensures.may c.in_ok-root.ensures.makes in
    old_owned a b b m n n c.args.list c.vector-next.result (list_at m c.args.list) c.requires.owns makes

pub returns-in_err-root-clause-counts : goal.returns-in_err-root-clause-counts
returns-in_err-root-clause-counts g c =
    let a = g.S.Store.ledger c.args.store.now in
    let b = g.S.Store.ledger c.from_tree.new.store in
    let m = g.S.Frozen.records c.args.store.now in
    let n = g.S.Frozen.records c.from_tree.new.store in
    let odd = many_odd m c.args.list c.requires.plain c.requires.list c.requires.many in
    let is : c.args.list ≡ 2 * c.entry.result + 1 = let e = c.entry.ensures in omega (arith, odd, e) in
    blocks_counts a b m n c.args.list c.entry.result c.requires.list c.requires.plain is c.from_tree.ensures.counts

pub returns-in_err-root-clause-refuses : goal.returns-in_err-root-clause-refuses
returns-in_err-root-clause-refuses g c =
    let p = err_from_is_err_and c.from_residual.result c.from_residual.ensures.1 in
    rw (p.1, p.2) c.in_err-root.ensures.refuses

pub returns-clause-makes : goal.returns-clause-makes
returns-clause-makes g c =
    let a = g.S.Store.ledger c.args.store.now in
    let b = g.S.Store.ledger c.from_tree.new.store in
    let u = g.S.Store.ledger c.drop_list.new.store in
    let m = g.S.Frozen.records c.args.store.now in
    let n = g.S.Frozen.records c.from_tree.new.store in
    let o = g.S.Frozen.records c.drop_list.new.store in
    let odd = many_odd m c.args.list c.requires.plain c.requires.list c.requires.many in
    let is : c.args.list ≡ 2 * c.entry.result + 1 = let e = c.entry.ensures in omega (arith, odd, e) in
    let makes = tree_as_vector a b m n c.args.list c.entry.result c.requires.list c.requires.plain is c.vector-next.result c.in_ok-root.root c.vector-next.ensures.word c.vector-next.ensures.vector
    c.requires.many c.requires.ones c.from_tree.ensures.may c.in_ok-root.ensures.makes in
    replaces a b u m n o c.args.list c.vector-next.result (list_at m c.args.list) c.requires.owns makes c.from_tree.ensures.may c.drop_list.ensures.turns

pub returns-clause-counts : goal.returns-clause-counts
returns-clause-counts g c =
    let a = g.S.Store.ledger c.args.store.now in
    let b = g.S.Store.ledger c.from_tree.new.store in
    let u = g.S.Store.ledger c.drop_list.new.store in
    let m = g.S.Frozen.records c.args.store.now in
    let n = g.S.Frozen.records c.from_tree.new.store in
    let odd = many_odd m c.args.list c.requires.plain c.requires.list c.requires.many in
    let is : c.args.list ≡ 2 * c.entry.result + 1 = let e = c.entry.ensures in omega (arith, odd, e) in
    counts_then a b u (form_most false true (list_at m c.args.list))
    (blocks_counts a b m n c.args.list c.entry.result c.requires.list c.requires.plain is c.from_tree.ensures.counts) c.drop_list.ensures.none_made

pub returns-clause-may : goal.returns-clause-may
returns-clause-may g c = may_do-then _ _ _ c.from_tree.ensures.may c.drop_list.ensures.may
