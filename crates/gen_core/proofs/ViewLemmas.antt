-- The buffers and the commits of the writer's view.
use Rattle.std.proofs.Common.{◌≡◌, ℕ, suc, ◌<◌, List, [], ◌∷◌, ◌++◌, length, Option, Some, None, refl, sym, ap, ◌∙◌, subst, arith}
use Rattle.std.specs.Prelude.{slice_get, All, option_and_then}
use Rattle.std.proofs.lemmas.List.Elements.{All-nil, All-cons, All-weaker}
use Rattle.entry_ref.specs.Records.{Records, AllThere, pairs_of}
use Rattle.gen_core.specs.Views.{last_number, last_image, IsCommit, record_width, width_in, active_width, active_in}
use Rattle.gen_core.proofs.Lists.{at_longer}
use Rattle.gen_core.specs.declared.views.Tag.{Tag}
use Rattle.gen_core.specs.declared.views.Buffer.{Buffer}
use Rattle.entry_ref.specs.declared.images.Image.{Image}
use Rattle.gen_core.specs.declared.views.Buffer.TheVariants.{Free, Active, Held}

-- an active buffer's width is its records' width
pub active-width : (buffers : List Buffer) (b width : ℕ) → active_in buffers b ≡ Some width → width_in buffers b ≡ Some width
active-width buffers b width e = by_buffer (slice_get buffers b) e
  where
    by_buffer : (o : Option Buffer) → option_and_then active_width o ≡ Some width → option_and_then record_width o ≡ Some width
    by_buffer None h = absurd (cc)
    by_buffer (Some (Free tag)) h = absurd (cc)
    by_buffer (Some (Active n tag)) h = h
    by_buffer (Some (Held n tag)) h = absurd (cc)

-- and its state is 1
pub active-there : (buffers : List Buffer) (b width : ℕ) → active_in buffers b ≡ Some width → (tag : Option Tag) × (slice_get buffers b ≡ Some (Active width tag))
active-there buffers b width e = by_buffer (slice_get buffers b) refl e
  where
    by_buffer : (o : Option Buffer) → slice_get buffers b ≡ o → option_and_then active_width o ≡ Some width → (tag : Option Tag) × (slice_get buffers b ≡ Some (Active width tag))
    by_buffer None at h = absurd (cc)
    by_buffer (Some (Free tag)) at h = absurd (cc)
    by_buffer (Some (Active n tag)) at h = let same : n ≡ width = cc in (tag, at ∙ ap (λ m. Some (Active m tag)) same)
    by_buffer (Some (Held n tag)) at h = absurd (cc)

-- a list of commits that is not empty has its last one at its last number
pub last_at : (commits : List Image) → 0 < length commits → slice_get commits (last_number commits) ≡ Some (last_image commits)
last_at [] some = absurd (omega arith)
last_at (x ∷ []) some = refl
last_at (x ∷ y ∷ ys) some =
    let e : last_number (x ∷ y ∷ ys) ≡ suc (last_number (y ∷ ys)) = omega arith in
    let P : ℕ → Type 0 = λ n. slice_get (x ∷ y ∷ ys) n ≡ Some (last_image (y ∷ ys)) in
    subst P (sym e) (last_at (y ∷ ys) (omega arith))

pub last_image-push : (commits : List Image) (image : Image) → last_image (commits ++ image ∷ []) ≡ image
last_image-push [] image = refl
last_image-push (x ∷ []) image = refl
last_image-push (x ∷ y ∷ ys) image = last_image-push (y ∷ ys) image

pub commits-longer : (commits : List Image) (image : Image) (saw : List (ℕ × Image)) → All (IsCommit commits) saw → All (IsCommit (commits ++ image ∷ [])) saw
commits-longer commits image saw all = All-weaker (IsCommit commits) (IsCommit (commits ++ image ∷ [])) (λ seen at. at_longer commits (image ∷ []) seen.0 seen.1 at) saw all

-- what holds of each reference with its words holds of each pair of an image
pub all_pairs : (P : ℕ × List ℕ → Type 0) (refs : List ℕ) (m : Records) → AllThere refs m → ((r : ℕ) → 0 < length (m r) → P (r, m r)) → All P (pairs_of refs m)
all_pairs P [] m all each = All-nil P
all_pairs P (r ∷ rs) m all each = All-cons P (r, m r) (pairs_of rs m) (each r all.0) (all_pairs P rs m all.1 each)
