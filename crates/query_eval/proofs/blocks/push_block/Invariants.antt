use Rattle.std.proofs.Common.{◌≡◌, ◌||◌, ◌&&◌, ◌+◌, ◌*◌, ℕ}
use Rattle.std.specs.Prelude.{nat_lt}
use Rattle.image_format.specs.Postings.{block_documents}
use Rattle.index_model.specs.Sets.{has}
use Rattle.query_eval.proofs.blocks.push_block.Given as goal

-- those of the words so far are there
abbrev pub invariant-loop-i : goal.invariant-loop-i
invariant-loop-i l =
    (doc : ℕ) → has l.docs.items doc
    ≡ (has l.fn.docs.items doc || (nat_lt doc (4096 * l.block + 64 * l.i) && has (block_documents l.block l.words) doc))
