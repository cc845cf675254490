use Rattle.std.proofs.Common.{ℕ, ◌/◌, ◌%◌, ◌∙◌, length, get_or, refl, arith, length-set}
use Rattle.std.specs.List.{zip}
use Rattle.std.proofs.lemmas.Result.{err_from_is_err_and}
use Rattle.list_lemmas.proofs.Each.{AllByRecursion-each}
use Rattle.store_api.proofs.May.{may_do-same}
use Rattle.posting_store.specs.Changes.{IsListWidth}
use Rattle.posting_store.proofs.RefusalLemmas.{of_one}
use Rattle.posting_store.proofs.ChangeLemmas.{counts_tree, is_tree_width}
use Rattle.posting_store.proofs.LeafLemmas.{doc_word, weight_word, taken_more, taken_all, leaf_even, leaf_fits, leaf_ascends, makes_leaf}
use Rattle.posting_store.proofs.making.make_leaf.Goals as goal

pub loop-i-init : goal.loop-i-init
loop-i-init g c = record { keys_size = refl; values_size = refl; keys_are = refl; values_are = refl }

pub loop-i-preserved : goal.loop-i-preserved
loop-i-preserved g c =
    let items = c.args.items.now in
    let i = c.loop-i.i in
    let inv = c.loop-i.invariant in
    record {
      keys_size = length-set c.loop-i.keys i (get_or items i 0 / 4294967296) ∙ inv.keys_size;
      values_size = length-set c.loop-i.values i (get_or items i 0 % 4294967296) ∙ inv.values_size;
      keys_are = taken_more doc_word c.loop-i.keys items i (omega arith) (omega arith) inv.keys_are;
      values_are = taken_more weight_word c.loop-i.values items i (omega arith) (omega arith) inv.values_are;
    }

pub build_leaf-requires : goal.build_leaf-requires
build_leaf-requires g c =
    let items = c.args.items.now in
    let inv = c.loop-i.invariant in
    let keys = taken_all doc_word c.loop-i.keys items c.loop-i.i (omega arith) (omega arith) inv.keys_are in
    let values = taken_all weight_word c.loop-i.values items c.loop-i.i (omega arith) (omega arith) inv.values_are in
    let pairs = zip c.loop-i.keys c.loop-i.values in (
      omega arith,
      (
        c.requires.unit,
        (
          leaf_even c.loop-i.keys c.loop-i.values items keys values,
          (
            leaf_fits c.loop-i.keys c.loop-i.values items keys values c.requires.nine,
            (
              leaf_ascends c.loop-i.keys c.loop-i.values items keys values c.requires.documents,
              (AllByRecursion-each (λ (p : ℕ × ℕ). Unit {0}) (λ p. tt) pairs, AllByRecursion-each (λ (p : ℕ × ℕ). Unit {0}) (λ p. tt) pairs),
            ),
          ),
        ),
      ),
    )

pub returns-in_err-root-clause-counts : goal.returns-in_err-root-clause-counts
returns-in_err-root-clause-counts g c =
    counts_tree (g.S.Store.ledger c.args.store.now) (g.S.Store.ledger c.build_leaf.new.store) 0 (length c.args.items.now) 1 (let nine = c.requires.nine in omega arith) (omega arith) c.build_leaf.ensures.counts

pub returns-clause-makes : goal.returns-clause-makes
returns-clause-makes g c =
    let items = c.args.items.now in
    let inv = c.loop-i.invariant in
    let keys = taken_all doc_word c.loop-i.keys items c.loop-i.i (omega arith) (omega arith) inv.keys_are in
    let values = taken_all weight_word c.loop-i.values items c.loop-i.i (omega arith) (omega arith) inv.values_are in
    makes_leaf c.loop-i.keys c.loop-i.values items keys values
    (g.S.Store.ledger c.args.store.now) (g.S.Store.ledger c.build_leaf.new.store) (g.S.Frozen.records c.args.store.now) (g.S.Frozen.records c.build_leaf.new.store)
    c.tree.result c.in_ok-root.root c.requires.nine c.requires.documents c.tree.ensures.word c.tree.ensures.plain
    c.in_ok-root.ensures.keyed.tree c.in_ok-root.ensures.pairs c.in_ok-root.ensures.owns c.in_ok-root.ensures.turns

pub returns-clause-counts : goal.returns-clause-counts
returns-clause-counts g c =
    counts_tree (g.S.Store.ledger c.args.store.now) (g.S.Store.ledger c.build_leaf.new.store) 0 (length c.args.items.now) 1 (let nine = c.requires.nine in omega arith) (omega arith) c.build_leaf.ensures.counts

pub returns-in_err-root-clause-refuses : goal.returns-in_err-root-clause-refuses
returns-in_err-root-clause-refuses g c =
    let a = g.S.Store.ledger c.args.store.now in
    let size = length c.args.items.now in
    let p = err_from_is_err_and c.from_residual.result c.from_residual.ensures.1 in
    rw (p.1, p.2) (of_one (IsListWidth size) a a (g.S.Store.ledger c.build_leaf.new.store) 34 _ (may_do-same a) refl
    (is_tree_width size (let nine = c.requires.nine in omega arith)) c.in_err-root.ensures.refuses)
