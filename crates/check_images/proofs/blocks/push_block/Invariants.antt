use Rattle.std.proofs.Common.{◌≡◌, ◌++◌}
use Rattle.image_format.specs.declared.TheConstants.{BLOCK_DOCUMENTS}
use Rattle.check_images.proofs.BlockLemmas.{documents_below}
use Rattle.check_images.proofs.blocks.push_block.Given as goal

abbrev pub invariant-loop-i : goal.invariant-loop-i
invariant-loop-i l = l.list.items ≡ l.fn.list.items ++ documents_below BLOCK_DOCUMENTS l.number l.words l.i
