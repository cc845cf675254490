use Rattle.std.proofs.Common.{ℕ, arith, ◌≡◌, ◌||◌, ◌&&◌, ◌+◌, ◌*◌, nat_lt, subst}
use Rattle.image_format.specs.Postings.{block_documents}
use Rattle.index_model.specs.Sets.{has}
use Rattle.query_eval.proofs.BlockLemmas.{none_yet, one_more, all_there, word_documents}
use Rattle.query_eval.proofs.blocks.push_block.Goals as goal

pub loop-i-init : goal.loop-i-init
loop-i-init c = λ doc. none_yet c.args.block c.args.words.now doc (has c.args.docs.now.items doc)

pub push_word-requires-clause-documents : goal.push_word-requires-clause-documents
push_word-requires-clause-documents c = λ doc is.
    c.requires.documents doc (word_documents c.args.block c.args.words.now doc c.loop-i.i (omega (arith, c.loop-i-test.true)) is)

pub loop-i-preserved : goal.loop-i-preserved
loop-i-preserved c = λ doc.
    one_more c.args.block c.args.words.now doc c.loop-i.i (omega (arith, c.loop-i-test.true)) (has c.args.docs.now.items doc) (has c.loop-i.docs.items doc) _
    (c.loop-i.invariant doc) (c.in_ok-push_word.ensures doc)

pub returns : goal.returns
returns c = λ doc. all_there c.args.block c.args.words.now doc (has c.loop-i.docs.items doc) (has c.args.docs.now.items doc)
    (subst (λ (n : ℕ). has c.loop-i.docs.items doc ≡ (has c.args.docs.now.items doc || (nat_lt doc (4096 * c.args.block + 64 * n) && has (block_documents c.args.block c.args.words.now) doc)))
    (let end : c.loop-i.i ≡ 64 = omega (arith, c.loop-i-test.false, c.loop-i.auto.i-end) in end) (c.loop-i.invariant doc))
