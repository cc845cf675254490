use Rattle.std.proofs.Common.{◌≡◌, ◌<◌, ◌+◌, ◌*◌, ◌&&◌, ◌||◌, ℕ, List, ap, subst, ◌∙◌}
use Rattle.std.proofs.lemmas.Result.{on_ok_weaker}
use Rattle.image_format.specs.Postings.{block_documents}
use Rattle.index_model.specs.Sets.{has, in_words}
use Rattle.query_eval.specs.Lists.{all_have}
use Rattle.query_eval.proofs.JoinLemmas.{kept_block, kept_number}
use Rattle.query_eval.proofs.vectors.push_common.Goals as goal

pub push_block-requires-clause-documents : goal.push_block-requires-clause-documents
push_block-requires-clause-documents g c =
    let m = g.F.Frozen.records c.args.frozen.now in
    let lists = c.args.lists.now in
    let ws = c.keep_in_all.new.words in
    let kept = subst (λ (f : g.row.F.Denot). (i : ℕ) → i < 4096 → in_words ws i ≡ (in_words c.read_block-words.result i && all_have (g.F.Frozen.records f) lists (4096 * c.args.block + i)))
    c.read_block-words.ensures.same c.keep_in_all.ensures.kept in
    let own = subst (λ (words : List ℕ). (i : ℕ) → i < 4096 → in_words ws i ≡ (in_words words i && all_have m lists (4096 * c.args.block + i)))
    c.read_block-words.ensures.words kept in
    kept_number m lists c.args.block ws (m c.args.stored) c.requires.block.documents own

pub returns-clause-docs : goal.returns-clause-docs
returns-clause-docs g c =
    let m = g.F.Frozen.records c.args.frozen.now in
    let lists = c.args.lists.now in
    let ws = c.keep_in_all.new.words in
    let kept = subst (λ (f : g.row.F.Denot). (i : ℕ) → i < 4096 → in_words ws i ≡ (in_words c.read_block-words.result i && all_have (g.F.Frozen.records f) lists (4096 * c.args.block + i)))
    c.read_block-words.ensures.same c.keep_in_all.ensures.kept in
    let own = subst (λ (words : List ℕ). (i : ℕ) → i < 4096 → in_words ws i ≡ (in_words words i && all_have m lists (4096 * c.args.block + i)))
    c.read_block-words.ensures.words kept in
    on_ok_weaker c.push_block.result
    (λ (are : (doc : ℕ) → has c.push_block.new.docs.items doc ≡ (has c.args.docs.now.items doc || has (block_documents c.args.block ws) doc)). λ doc.
    are doc ∙ ap (λ b. has c.args.docs.now.items doc || b) (kept_block m lists c.args.block ws (m c.args.stored) own doc))
    c.push_block.ensures
