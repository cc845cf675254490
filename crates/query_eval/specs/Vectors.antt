-- A block of a bit vector in memory.
use Rattle.std.specs.Prelude.{◌≡◌, ℕ, ◌<◌, ◌+◌, ◌*◌}
use Rattle.entry_ref.specs.Records.{Records}
use Rattle.image_format.specs.declared.TheConstants.{BLOCK_DOCUMENTS}
use Rattle.index_model.specs.Sets.{in_words}
use Rattle.query_eval.specs.Lists.{list_has}
use Rattle.query_eval.specs.declared.vectors.Block.{Block}

-- the words are those of the list in this block
abbrev pub IsInHand : Records → ℕ → Block → Type 0
IsInHand m list hand = (i : ℕ) → i < BLOCK_DOCUMENTS
    → in_words hand.words i ≡ list_has m list (BLOCK_DOCUMENTS * hand.number + i)
