-- The table that a guard reads.
use Rattle.std.proofs.Common.{◌≡◌, ℕ, ap, ap₂, ◌∙◌}
use Rattle.entry_ref.specs.Images.{words_at}
use Rattle.word_arena.specs.Ruled.{seen_image}
use Rattle.image_format.specs.Images.{table_of}
use Rattle.attr_c.specs.Kept.{table_in, IsKept, KeptView}

pub guard_table : (before view : KeptView) → IsKept before.fields before.reader → before ≡ view → (root : ℕ) → root ≡ (seen_image before.reader).root
    → table_of before.reader.sizes.shape (words_at (seen_image before.reader)) root ≡ table_in view
guard_table before view kept is root same =
    ap₂ (λ (s r : ℕ). table_of s (words_at (seen_image before.reader)) r) kept.shaped same ∙ ap table_in is
