use Rattle.std.proofs.Common.{◌≡◌, ◌+◌, suc, ℕ, List, length, refl, inl, sym, ap, subst, ◌∙◌, arith}
use Rattle.std.specs.Ordering.{nat_cmp}
use Rattle.std.proofs.lemmas.Result.{err_from_is_err_and}
use Rattle.store_api.specs.Parts.{times}
use Rattle.store_api.proofs.May.{may_do-same, may_do-then}
use Rattle.store_api.specs.Units.{MakesWithin}
use Rattle.tree_read.specs.Trees.{tree_nodes, tree_pairs, by_number}
use Rattle.tree_read.specs.ProofsForTrees.{tree_pairs-same, IsTree-same}
use Rattle.bit_vector.specs.Changes.{vector_most, IsVectorWidth}
use Rattle.bit_vector.specs.Fillings.{block_most, IsBlockOf, MakesBlock, MakesBlocks}
use Rattle.bit_vector.specs.Vectors.{count_blocks, is_block_of}
use Rattle.bit_vector.proofs.CountLemmas.{of_one, within_more_blocks, within_none}
use Rattle.bit_vector.proofs.FillLemmas.{keys}
use Rattle.bit_vector.proofs.GatherLemmas.{block_counts, makes_next, next_count, number_few, owns_next, same_all, same_then, start_blocks, tree_stays, zip_even}
use Rattle.bit_vector.proofs.filling.make_blocks.Goals as goal

pub make_block-requires : goal.make_block-requires
make_block-requires g c =
    let records = g.S.Frozen.records in
    let m = records c.args.store.now in
    let n = records c.loop-number.store in
    let inv = c.loop-number.invariant in
    let docs = keys (tree_pairs m c.args.root) in (
      omega arith,
      (
        inv.unit,
        (
          IsTree-same nat_cmp by_number m n c.args.root inv.same refl c.requires.tree,
          (
            omega (arith, c.loop-number-test.true),
            (
              number_few docs c.loop-number.number c.loop-number.blocks.numbers.items inv.makes.numbers,
              sym (zip_even (λ k r. IsBlockOf docs k (n r)) c.loop-number.blocks.numbers.items c.loop-number.blocks.records.items inv.makes.each),
            ),
          ),
        ),
      ),
    )

pub loop-number-preserved : goal.loop-number-preserved
loop-number-preserved g c =
    let ledger = g.S.Store.ledger in
    let records = g.S.Frozen.records in
    let s = c.args.store.now in
    let t = c.loop-number.store in
    let u = c.make_block.new.store in
    let m = records s in
    let n = records t in
    let k = c.loop-number.number in
    let root = c.args.root in
    let inv = c.loop-number.invariant in
    let docs = keys (tree_pairs m root) in
    let before = c.loop-number.blocks in
    let next = c.make_block.new.blocks in
    let same = ap keys (tree_pairs-same m n root inv.same) in
    let more = subst (λ (ds : List ℕ). MakesBlock (ledger t) (ledger u) n (records u) ds k before next) same c.in_ok-make_block.ensures.makes in
    let counted = subst (λ (ds : List ℕ). MakesWithin (ledger t) (ledger u) (block_most (is_block_of ds k))) same c.make_block.ensures.counts in
    record {
      unit = c.make_block.ensures.may.unit ∙ inv.unit;
      same = same_then m n (records u) (tree_nodes m root) root refl inv.same (tree_stays (ledger s) (ledger t) (ledger u) m n (records u) docs root k before next inv.owns inv.makes more);
      owns = owns_next (ledger s) (ledger t) (ledger u) m n (records u) docs root k before next inv.owns inv.makes more;
      makes = subst (λ j. MakesBlocks (ledger s) (ledger u) m (records u) docs j next) (let e : suc k ≡ k + 1 = omega arith in e)
          (makes_next (ledger s) (ledger t) (ledger u) m n (records u) docs root k before next inv.owns inv.makes more);
      counts = within_more_blocks (ledger s) (ledger t) (ledger u) (length before.numbers.items) (length next.numbers.items) (is_block_of docs k)
          (next_count (ledger t) (ledger u) n (records u) docs k before next more) inv.may inv.counts counted;
      may = may_do-then (ledger s) (ledger t) (ledger u) inv.may c.make_block.ensures.may;
    }

pub returns-in_err-make_block-clause-counts : goal.returns-in_err-make_block-clause-counts
returns-in_err-make_block-clause-counts g c =
    let ledger = g.S.Store.ledger in
    let records = g.S.Frozen.records in
    let s = c.args.store.now in
    let t = c.loop-number.store in
    let u = c.make_block.new.store in
    let m = records s in
    let k = c.loop-number.number in
    let inv = c.loop-number.invariant in
    let docs = keys (tree_pairs m c.args.root) in
    let same = ap keys (tree_pairs-same m (records t) c.args.root inv.same) in
    let counted = subst (λ (ds : List ℕ). MakesWithin (ledger t) (ledger u) (block_most (is_block_of ds k))) same c.make_block.ensures.counts in
    let few = block_counts docs k 256 (omega (arith, c.loop-number-test.true)) in
    let size = ap length inv.makes.numbers in
    within_more_blocks (ledger s) (ledger t) (ledger u) (length c.loop-number.blocks.numbers.items) (count_blocks docs) (is_block_of docs k) (omega (arith, few, size)) inv.may inv.counts counted

pub returns-in_err-make_block-clause-refuses : goal.returns-in_err-make_block-clause-refuses
returns-in_err-make_block-clause-refuses g c =
    let ledger = g.S.Store.ledger in
    let inv = c.loop-number.invariant in
    let p = err_from_is_err_and c.from_residual.result c.from_residual.ensures.1 in
    rw (p.1, p.2) (of_one IsVectorWidth (ledger c.args.store.now) (ledger c.loop-number.store) (ledger c.make_block.new.store) 64 _ inv.may refl (inl refl) c.in_err-make_block.ensures.refuses)

pub returns-in_err-make_block-clause-may : goal.returns-in_err-make_block-clause-may
returns-in_err-make_block-clause-may g c = may_do-then _ _ _ c.loop-number.invariant.may c.make_block.ensures.may

pub returns-clause-makes : goal.returns-clause-makes
returns-clause-makes g c =
    let ledger = g.S.Store.ledger in
    let records = g.S.Frozen.records in
    let s = c.args.store.now in
    let t = c.loop-number.store in
    subst (λ (j : ℕ). MakesBlocks (ledger s) (ledger t) (records s) (records t) (keys (tree_pairs (records s) c.args.root)) j c.loop-number.blocks)
    (let e : c.loop-number.number ≡ 256 = omega (arith, c.loop-number-test.false, c.loop-number.auto.number-end) in e) c.loop-number.invariant.makes

pub returns-clause-counts : goal.returns-clause-counts
returns-clause-counts g c =
    let ledger = g.S.Store.ledger in
    let records = g.S.Frozen.records in
    let s = c.args.store.now in
    let t = c.loop-number.store in
    let docs = keys (tree_pairs (records s) c.args.root) in
    let end = (let e : c.loop-number.number ≡ 256 = omega (arith, c.loop-number-test.false, c.loop-number.auto.number-end) in e) in
    let makes = subst (λ (j : ℕ). MakesBlocks (ledger s) (ledger t) (records s) (records t) docs j c.loop-number.blocks) end c.loop-number.invariant.makes in
    subst (λ (k : ℕ). MakesWithin (ledger s) (ledger t) (vector_most k 0)) (ap length makes.numbers) c.loop-number.invariant.counts

pub loop-number-init : goal.loop-number-init
loop-number-init g c =
    let a = g.S.Store.ledger c.args.store.now in
    let m = g.S.Frozen.records c.args.store.now in
    record {
      unit = c.requires.unit;
      same = same_all m (tree_nodes m c.args.root);
      owns = record { each = λ r. let h = c.requires.owns.each r in let none = ap (times r) c.new-2.ensures in omega arith };
      makes = start_blocks a m (keys (tree_pairs m c.args.root)) _ c.new.ensures c.new-2.ensures;
      counts = within_none a _;
      may = may_do-same a;
    }
