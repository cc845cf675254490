-- How the writer's calls on holds and buffers change its view, step by step.
use Rattle.std.specs.Prelude.{◌≡◌, ◌≢◌, ◌⊎◌, ℕ, ◌+◌, ◌<◌, ◌≤◌, nat_lt, if◌then◌else◌, List, ◌∷◌, map, length, drop, slice_get, option_map}
use Rattle.std.specs.Prelude.{option_and_then, Option, None, All}
use Rattle.generation_handler.specs.Queues.{IsLeastClosed}
use Rattle.gen_core.specs.declared.views.OpenHold.{OpenHold}
use Rattle.gen_core.specs.declared.views.Tag.{Tag}
use Rattle.gen_core.specs.declared.views.Buffer.{Buffer}
use Rattle.gen_core.specs.declared.views.Buffer.TheVariants.{Free, Active, Held}
use Rattle.gen_core.specs.declared.views.WriterView.{WriterView}
use Rattle.std.specs.Prelude.{Some}
use Rattle.gen_core.specs.Views.{open_holds, oldest_of, last_tag_in}
use Rattle.gen_core.specs.Events.{advanced, morphed, closed, stopped}
use Rattle.arena_api.specs.declared.answers.Advance.{Advance}
use Rattle.arena_api.specs.declared.answers.Advance.TheVariants.{To, NoHold, Spent}
use Rattle.word_arena.specs.Knows.{own_hold}

-- the newest hold was found with this count; if the count is 0, the hold takes the next generation
pub record ProbesNewest (found : ℕ) (w v : WriterView) : Type 0 where
  pub hit : found ≡ 0 → v ≡ morphed w
  pub miss : found ≢ 0 → v ≡ stopped w found
  pub alone : w.made ≡ 0 → found ≡ 0

-- the newest hold was found unused
pub record RenewsNewest (w v : WriterView) (hold : ℕ) : Type 0 where
  pub newest : hold ≡ w.queue.newest.hold
  pub is : v ≡ morphed w

-- the newest hold was found in use, and the closed hold with the lowest number was opened
pub record OpensAnother (w v : WriterView) (hold : ℕ) : Type 0 where
  pub found : ℕ
  pub in_use : found ≢ 0
  pub alone : w.made ≡ 0 → found ≡ 0
  pub closed : IsLeastClosed (map own_hold (open_holds w.queue)) hold
  pub is : v ≡ advanced (stopped w found) hold

pub record EntersGeneration (w v : WriterView) (generation hold : ℕ) : Type 0 where
  pub below : w.queue.newest.generation < w.sizes.generation_limit
  pub next : generation ≡ w.queue.newest.generation + 1
  pub ways : RenewsNewest w v hold ⊎ OpensAnother w v hold

-- the newest hold was found in use, and no hold is closed
pub record OpensNone (w v : WriterView) (holds found : ℕ) : Type 0 where
  pub below : w.queue.newest.generation < w.sizes.generation_limit
  pub all : holds ≡ 16
  pub all_open : length (map own_hold (open_holds w.queue)) ≡ 16
  pub in_use : found ≢ 0
  pub alone : w.made ≡ 0 → found ≡ 0
  pub is : v ≡ stopped w found

pub record IsAtLimit (w v : WriterView) (generation : ℕ) : Type 0 where
  pub limit : w.sizes.generation_limit ≤ w.queue.newest.generation
  pub tells : generation ≡ w.queue.newest.generation
  pub is : v ≡ w

abbrev pub AdvancesView : Advance → WriterView → WriterView → Type 0
AdvancesView (To generation hold) w v = EntersGeneration w v generation hold
AdvancesView (NoHold holds found) w v = OpensNone w v holds found
AdvancesView (Spent generation) w v = IsAtLimit w v generation

-- the oldest hold was found with this count; if the count is 0, it is closed
pub record ClosesOldest (found : ℕ) (w v : WriterView) : Type 0 where
  pub hit : found ≡ 0 → (e : OpenHold) (es : List OpenHold) → w.queue.older ≡ e ∷ es → v ≡ closed w es
  pub miss : found ≢ 0 → v ≡ stopped w found
  pub alone : w.made ≡ 0 → found ≡ 0

-- the view after this many of the oldest holds are closed
abbrev pub without_oldest : WriterView → ℕ → WriterView
without_oldest w count = closed w (drop count w.queue.older)

pub record ClosesSome (w v : WriterView) : Type 0 where
  pub count : ℕ
  pub few : count ≤ length w.queue.older
  pub is : v ≡ without_oldest w count

-- all holds but the newest were closed, or all before one that was found in use
pub record ClosesUnused (found : ℕ) (w v : WriterView) : Type 0 where
  pub count : ℕ
  pub few : count ≤ length w.queue.older
  pub all : found ≡ 0 → (count ≡ length w.queue.older) × (v ≡ without_oldest w count)
  pub stops : found ≢ 0 → (count < length w.queue.older) × (v ≡ stopped (without_oldest w count) found)
  pub alone : w.made ≡ 0 → found ≡ 0

-- a buffer on hold becomes free if its tag is below a generation
abbrev pub let_go : ℕ → Buffer → Buffer
let_go generation (Free last) = Free last
let_go generation (Active width last) = Active width last
let_go generation (Held width tag) = if nat_lt tag.generation generation then Free (Some tag) else Held width tag

-- the tag of a buffer on hold, if it is below a generation
abbrev pub held_tag_below : ℕ → Buffer → Option Tag
held_tag_below generation (Free last) = None
held_tag_below generation (Active width last) = None
held_tag_below generation (Held width tag) = if nat_lt tag.generation generation then Some tag else None

abbrev pub unused_tag_in : ℕ → List Buffer → ℕ → Option Tag
unused_tag_in generation buffers b = option_and_then (held_tag_below generation) (slice_get buffers b)

-- only the buffers changed
abbrev pub WithBuffersOf : WriterView → WriterView → Type 0
WithBuffersOf w v = v ≡ record w { buffers = v.buffers }

pub record FreesOne (oldest b : ℕ) (w v : WriterView) : Type 0 where
  pub here : slice_get v.buffers b ≡ option_map (let_go oldest) (slice_get w.buffers b)
  pub others : (a : ℕ) → a ≢ b → slice_get v.buffers a ≡ slice_get w.buffers a
  pub same : WithBuffersOf w v

-- the effect on the first n buffers
pub record FreesBelow (oldest n : ℕ) (w v : WriterView) : Type 0 where
  pub each : (a : ℕ) → a < n → slice_get v.buffers a ≡ option_map (let_go oldest) (slice_get w.buffers a)
  pub rest : (a : ℕ) → n ≤ a → slice_get v.buffers a ≡ slice_get w.buffers a
  pub same : WithBuffersOf w v

pub record FreesUnused (w v : WriterView) : Type 0 where
  pub each : (a : ℕ) → slice_get v.buffers a ≡ option_map (let_go (oldest_of w.queue).generation) (slice_get w.buffers a)
  pub same : WithBuffersOf w v

-- the last tag of the buffer is below the generation of each open hold
abbrev pub IsTaggedBelow : WriterView → ℕ → Type 0
IsTaggedBelow w b = (tag : Tag) → last_tag_in w.buffers b ≡ Some tag → All (λ e. tag.generation < e.generation) (open_holds w.queue)
