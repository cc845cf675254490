use Rattle.std.proofs.Common.{◌≡◌, ℕ, List, length, refl, inr, ap, subst, ◌∙◌, arith}
use Rattle.std.specs.List.{zip}
use Rattle.std.specs.Prelude.{IfOk}
use Rattle.std.proofs.lemmas.Result.{err_from_is_err_and}
use Rattle.list_lemmas.proofs.Each.{AllByRecursion-each}
use Rattle.store_api.proofs.May.{may_do-then}
use Rattle.tree_read.specs.Trees.{tree_pairs}
use Rattle.frozen_btree.specs.Builds.{nodes_of}
use Rattle.frozen_btree.specs.Makes.{CountsNodes}
use Rattle.bit_vector.specs.Changes.{IsVectorWidth}
use Rattle.bit_vector.specs.Vectors.{count_blocks}
use Rattle.bit_vector.proofs.CountLemmas.{if_one, within_both, within_wider}
use Rattle.bit_vector.proofs.FillLemmas.{keys}
use Rattle.bit_vector.proofs.GatherLemmas.{makes_vector_if, slices_ascend, slices_even, slices_pairs}
use Rattle.bit_vector.proofs.converting.from_tree.Goals as goal

pub returns-in_err-blocks-clause-counts : goal.returns-in_err-blocks-clause-counts
returns-in_err-blocks-clause-counts g c =
    let ledger = g.S.Store.ledger in
    let n = count_blocks (keys (tree_pairs (g.S.Frozen.records c.args.store.now) c.args.root)) in
    within_wider (ledger c.args.store.now) (ledger c.make_blocks.new.store) n n 0 (nodes_of n) (omega arith) (omega arith) c.make_blocks.ensures.counts

pub returns-in_err-blocks-clause-refuses : goal.returns-in_err-blocks-clause-refuses
returns-in_err-blocks-clause-refuses g c =
    let p = err_from_is_err_and c.from_residual.result c.from_residual.ensures.1 in
    rw (p.1, p.2) c.in_err-blocks.ensures.refuses

pub returns-clause-refuses : goal.returns-clause-refuses
returns-clause-refuses g c =
    let ledger = g.S.Store.ledger in
    if_one IsVectorWidth (ledger c.args.store.now) (ledger c.make_blocks.new.store) (ledger c.build.new.store) 34 c.build.result c.make_blocks.ensures.may refl (inr refl) c.build.ensures.refuses

pub returns-clause-may : goal.returns-clause-may
returns-clause-may g c = may_do-then _ _ _ c.make_blocks.ensures.may c.build.ensures.may

pub build-requires : goal.build-requires
build-requires g c =
    let ledger = g.S.Store.ledger in
    let records = g.S.Frozen.records in
    let s = c.args.store.now in
    let t = c.make_blocks.new.store in
    let ps = tree_pairs (records s) c.args.root in
    let blocks = c.in_ok-blocks.blocks in
    let makes = c.in_ok-blocks.ensures.makes in
    let up = c.requires.tree.ascends in
    let l = ledger s in
    let n = ledger t in
    let xs = c.as_slice.result.now in
    let ys = c.as_slice-2.result.now in (
      omega arith,
      (
        c.make_blocks.ensures.may.unit ∙ c.requires.unit,
        (
          slices_even l n n (records s) (records t) (records t) ps blocks up c.requires.numbers makes xs ys c.as_slice.ensures.value c.as_slice-2.ensures.value,
          (
            slices_ascend l n n (records s) (records t) (records t) ps blocks up c.requires.numbers makes xs ys c.as_slice.ensures.value c.as_slice-2.ensures.value,
            (AllByRecursion-each (λ (p : ℕ × ℕ). Unit {0}) (λ p. tt) (zip xs ys), AllByRecursion-each (λ (p : ℕ × ℕ). Unit {0}) (λ p. tt) (zip xs ys)),
          ),
        ),
      ),
    )

pub returns-clause-makes : goal.returns-clause-makes
returns-clause-makes g c =
    let ledger = g.S.Store.ledger in
    let records = g.S.Frozen.records in
    let s = c.args.store.now in
    let t = c.make_blocks.new.store in
    let u = c.build.new.store in
    let pairs = slices_pairs (ledger s) (ledger t) (ledger t) (records s) (records t) (records t) (tree_pairs (records s) c.args.root) c.in_ok-blocks.blocks c.requires.tree.ascends c.requires.numbers
    c.in_ok-blocks.ensures.makes c.as_slice.result.now c.as_slice-2.result.now c.as_slice.ensures.value c.as_slice-2.ensures.value in
    makes_vector_if (ledger s) (ledger t) (ledger u) (records s) (records t) (records u) (tree_pairs (records s) c.args.root) c.in_ok-blocks.blocks c.requires.tree.ascends c.requires.numbers
    c.in_ok-blocks.ensures.makes c.build.result c.build.ensures.keyed
    (subst (λ (qs : List (ℕ × ℕ)). IfOk c.build.result (λ r. tree_pairs (records u) r ≡ qs)) pairs c.build.ensures.pairs) c.build.ensures.turns

pub returns-clause-counts : goal.returns-clause-counts
returns-clause-counts g c =
    let ledger = g.S.Store.ledger in
    let s = c.args.store.now in
    let n = count_blocks (keys (tree_pairs (g.S.Frozen.records s) c.args.root)) in
    let size = ap length (c.as_slice.ensures.value ∙ c.in_ok-blocks.ensures.makes.numbers) in
    within_both (ledger s) (ledger c.make_blocks.new.store) (ledger c.build.new.store) n (nodes_of n) c.make_blocks.ensures.may c.make_blocks.ensures.counts
    (subst (λ (k : ℕ). CountsNodes (ledger c.make_blocks.new.store) (ledger c.build.new.store) (nodes_of k)) size c.build.ensures.counts)
