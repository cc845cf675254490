use Rattle.std.proofs.Common.{ℕ, sym, subst}
use Rattle.std.proofs.lemmas.Result.{err_from_is_err_and}
use Rattle.list_lemmas.proofs.Each.{AllByRecursion-at}
use Rattle.image_format.specs.Postings.{IsBlock}
use Rattle.entry_ref.specs.Maps.{seen}
use Rattle.check_images.proofs.Walks.{refuted_by}
use Rattle.check_images.proofs.BlockLemmas.{blocks_more, forms_more}
use Rattle.check_images.proofs.blocks.read_blocks.Goals as goal

pub returns-in_err-read_block-clause-exact : goal.returns-in_err-read_block-clause-exact
returns-in_err-read_block-clause-exact c =
    let m = seen c.args.records.now in
    let pairs = c.args.pairs.now in
    let i = c.loop-pair.pair-index in
    let p = err_from_is_err_and c.from_residual.result c.from_residual.ensures.1 in
    rw (p.1, p.2)
    (refuted_by c.in_err-read_block.field-0.0
    (λ all. subst (IsBlock _) (sym c.words_at.ensures.words) (AllByRecursion-at (λ (q : ℕ × ℕ). IsBlock q.0 (m q.1)) pairs i (0, 0) c.loop-pair-test.true all))
    c.in_err-read_block.ensures.exact)

pub loop-pair-preserved : goal.loop-pair-preserved
loop-pair-preserved c =
    let m = seen c.args.records.now in
    let pairs = c.args.pairs.now in
    let i = c.loop-pair.pair-index in
    record {
      list = blocks_more m pairs i c.words_at.result.now c.loop-pair.list.items c.read_block.new.list.items c.loop-pair-test.true c.words_at.ensures.words c.loop-pair.invariant.list c.in_ok-read_block.ensures.list;
      form = forms_more m pairs i c.words_at.result.now c.loop-pair-test.true c.words_at.ensures.words c.loop-pair.invariant.form c.in_ok-read_block.ensures.form;
    }
