use Rattle.std.proofs.Common.{◌≡◌, ◌<◌, ◌+◌, ◌*◌, ◌||◌, ℕ, ap, subst, ◌∙◌}
use Rattle.std.proofs.lemmas.Result.{on_ok_weaker}
use Rattle.image_format.specs.Postings.{block_documents}
use Rattle.index_model.specs.Sets.{has, in_words}
use Rattle.query_eval.specs.Lists.{some_has}
use Rattle.query_eval.proofs.JoinLemmas.{added_block, added_number}
use Rattle.query_eval.proofs.vectors.push_union.Goals as goal

pub push_block-requires-clause-documents : goal.push_block-requires-clause-documents
push_block-requires-clause-documents g c =
    let m = g.F.Frozen.records c.args.frozen.now in
    let ws = c.add_of_all.new.words in
    let added = subst (λ (k : ℕ). (i : ℕ) → i < 4096 → in_words ws i ≡ (in_words c.no_block-words.result i || some_has m c.args.lists.now (4096 * k + i)))
    c.from.ensures c.add_of_all.ensures.added in
    added_number m c.args.lists.now c.args.block ws c.no_block-words.result c.requires.lists c.no_block-words.ensures added

pub returns-clause-docs : goal.returns-clause-docs
returns-clause-docs g c =
    let m = g.F.Frozen.records c.args.frozen.now in
    let ws = c.add_of_all.new.words in
    let added = subst (λ (k : ℕ). (i : ℕ) → i < 4096 → in_words ws i ≡ (in_words c.no_block-words.result i || some_has m c.args.lists.now (4096 * k + i)))
    c.from.ensures c.add_of_all.ensures.added in
    on_ok_weaker c.push_block.result
    (λ (are : (doc : ℕ) → has c.push_block.new.docs.items doc ≡ (has c.args.docs.now.items doc || has (block_documents c.args.block ws) doc)). λ doc.
    are doc ∙ ap (λ b. has c.args.docs.now.items doc || b) (added_block m c.args.lists.now c.args.block ws c.no_block-words.result c.no_block-words.ensures added doc))
    c.push_block.ensures
