-- Lemmas that the guard cites for its invariants. They are proofs, not part of the specification.
use Rattle.std.proofs.Common.{◌≡◌, ℕ, ◌<◌, List, [], length, Option, Some, None, refl, arith}
use Rattle.std.specs.Prelude.{◌^◌, All}
use Rattle.std.specs.Option.{unwrap_or}
use Rattle.atomic_table.specs.Table.{Me}
use Rattle.atomic_table.specs.Seated.{TableId}
use Rattle.entry_ref.specs.declared.images.Image.{Image}
use Rattle.entry_ref.specs.Images.{record_at, words_at}
use Rattle.entry_ref.specs.Places.{IsEntry}
use Rattle.entry_ref.proofs.Apart.{entry-small}
use Rattle.gen_core.specs.declared.views.Sizes.{Sizes}
use Rattle.gen_core.specs.declared.views.View.{View}
use Rattle.gen_core.proofs.Lists.{all_found}
use Rattle.word_arena.specs.Ruled.{Slot, reader_in, seen_image, IsGuard}

there : (o : Option (List ℕ)) → 0 < length (unwrap_or o []) → o ≡ Some (unwrap_or o [])
there None h = absurd (omega arith)
there (Some ws) h = refl

-- a record of an image is found in it
pub in_image : (image : Image) (ref : ℕ) → 0 < length (words_at image ref) → record_at image ref ≡ Some (words_at image ref)
in_image image ref some = there (record_at image ref) some

-- a record of an image is an entry
pub image-entry : (bits : ℕ) (sizes : Sizes) (image : Image)
    → All (λ pair. IsEntry bits sizes.buffers sizes.words (length pair.1) pair.0) image.records
    → (ref : ℕ) → 0 < length (words_at image ref) → IsEntry bits sizes.buffers sizes.words (length (words_at image ref)) ref
image-entry bits sizes image all ref some =
    all_found (λ pair. IsEntry bits sizes.buffers sizes.words (length pair.1) pair.0) image.records ref (words_at image ref) all
    (in_image image ref some)

pub guard_references : {bits : ℕ} {arena : TableId} {sizes : Sizes} {hold word : ℕ} {z : TableId} {me : Me Slot View}
    → IsGuard bits arena sizes hold word z me
    → (r : ℕ) → 0 < length (words_at (seen_image (reader_in me.0)) r) → r < 2 ^ 32
guard_references {bits} {arena} {sizes} {hold} {word} {z} {me} g r some =
    entry-small (image-entry bits sizes (seen_image (reader_in me.0)) g.entries r some) g.post.limits.few_words g.post.limits.offsets
