-- A word that is written leaves what is said of the other words.
use Rattle.std.proofs.Common.{length-set, ◌≡◌, ◌≢◌, ℕ, suc, ◌+◌, ◌*◌, ◌<◌, ◌≤◌, List, length, set, Option, Some, None, refl, ◌∙◌, arith, mul-le-mul_right, suc-mul}
use Rattle.std.proofs.Math.Seq.{get_or-set_other}
use Rattle.std.proofs.lemmas.Nat.{same_from_place}
use Rattle.std.specs.Prelude.{slice_get, All, option_and_then}
use Rattle.std.proofs.lemmas.Option.{slice_get_within}
use Rattle.entry_ref.specs.References.{buffer_of, offset_of}
use Rattle.entry_ref.specs.declared.images.Image.{Image}
use Rattle.entry_ref.specs.Places.{base, state_place, size_of, IsEntry}
use Rattle.entry_ref.proofs.Apart.{within}
use Rattle.gen_core.specs.declared.views.Sizes.{Sizes}
use Rattle.gen_core.specs.declared.views.OpenHold.{OpenHold}
use Rattle.gen_core.specs.declared.views.Buffer.{Buffer}
use Rattle.gen_core.specs.declared.views.ReaderView.{ReaderView}
use Rattle.gen_core.specs.Views.{active_width, active_in, kept_of}
use Rattle.gen_core.specs.Work.{place_in}
use Rattle.gen_core.specs.Good.{GoodNamedWords, GoodCounts, InActive, WordsStand, IsPlaced, State, GoodMemory, Good, GoodSizes}
use Rattle.gen_core.specs.declared.views.Queue.{Queue}
use Rattle.entry_ref.specs.Records.{Records}
use Rattle.gen_core.proofs.StoredWords.{p}

-- a place in the buffers: behind the first word of one of them
pub record IsBehind (sizes : Sizes) (p : ℕ) : Type 0 where
  pub b : ℕ
  pub x : ℕ
  pub behind : 0 < x
  pub inside : x < sizes.words
  pub is : p ≡ base sizes.buffers sizes.words b + x

pub active-behind : {sizes : Sizes} {buffers : List Buffer} {p : ℕ} → InActive sizes buffers p → IsBehind sizes p
active-behind {sizes} {buffers} {p} h = record { b = h.b; x = h.x; behind = h.behind; inside = h.inside; is = h.is }

pub entry-behind : {sizes : Sizes} {width ref : ℕ} → IsEntry sizes.offset_bits sizes.buffers sizes.words width ref → (i : ℕ) → i < width → IsBehind sizes (place_in sizes width ref i)
entry-behind {sizes} {width} {ref} e i lt =
    let h = within e i lt in
    record { b = buffer_of sizes.offset_bits ref; x = offset_of sizes.offset_bits ref * width + i; behind = h.0; inside = h.1; is = refl }

-- it is no first word of a buffer, and no named word
pub behind-base : (sizes : Sizes) (p b : ℕ) → IsBehind sizes p → p ≢ base sizes.buffers sizes.words b
behind-base sizes p b h same =
    let is = h.is in
    let inside = h.inside in
    let both = same_from_place h.b h.x b 0 sizes.words h.inside (omega arith) (omega arith) in
    omega (arith, both.1, h.behind)

pub base-same : (sizes : Sizes) (b c : ℕ) → 0 < sizes.words → base sizes.buffers sizes.words b ≡ base sizes.buffers sizes.words c → b ≡ c
base-same sizes b c some same = (same_from_place b 0 c 0 sizes.words some some (omega (arith, same))).0

pub behind-high : (sizes : Sizes) (p : ℕ) → IsBehind sizes p → 18 + sizes.buffers < p
behind-high sizes p h = let is = h.is in let o = h.behind in omega arith

-- a word that is written leaves how many there are
pub sizes-set : {sizes : Sizes} {words : List ℕ} {buffers : List Buffer} → GoodSizes sizes words buffers → (p n : ℕ) → GoodSizes sizes (set words p n) buffers
sizes-set {sizes} {words} g p n = record {
  table = length-set words p n ∙ g.table;
  count = g.count;
  some_word = g.some_word;
  commit_limit = g.commit_limit;
  generation_limit = g.generation_limit;
}

-- a word that is no named word
pub names-set : {words : List ℕ} {commits : List Image} {newest : OpenHold} {buffers : List Buffer} → GoodNamedWords words commits newest buffers
    → (p n : ℕ) → 18 + length buffers ≤ p → GoodNamedWords (set words p n) commits newest buffers
names-set {words} {commits} {newest} {buffers} g p n high = record {
  root = get_or-set_other words p 0 n 0 (λ e. omega arith) ∙ g.root;
  newest_hold = get_or-set_other words p 1 n 0 (λ e. omega arith) ∙ g.newest_hold;
  states = λ b x at. let lt : b < length buffers = slice_get_within buffers b x at in get_or-set_other words p (state_place b) n 0 (λ e. omega arith) ∙ g.states b x at;
}

-- a count's word is behind the root and the last word, and before the states
pub names-hold : {words : List ℕ} {commits : List Image} {newest : OpenHold} {buffers : List Buffer} → GoodNamedWords words commits newest buffers
    → (p n : ℕ) → 2 ≤ p → p < 18 → GoodNamedWords (set words p n) commits newest buffers
names-hold {words} g p n low high = record {
  root = get_or-set_other words p 0 n 0 (λ e. omega arith) ∙ g.root;
  newest_hold = get_or-set_other words p 1 n 0 (λ e. omega arith) ∙ g.newest_hold;
  states = λ b x at. get_or-set_other words p (state_place b) n 0 (λ e. omega arith) ∙ g.states b x at;
}

-- a word that is no count
pub counts-set : {words : List ℕ} {queue : Queue} {made : ℕ} {readers : List ReaderView} → GoodCounts words queue made readers
    → (p n : ℕ) → ((h : ℕ) → h < 16 → 2 + h ≢ p) → GoodCounts (set words p n) queue made readers
counts-set {words} {queue} {made} {readers} g p n apart = record {
  counts = λ h lt. get_or-set_other words p (2 + h) n 0 (apart h lt) ∙ g.counts h lt;
  views = g.views;
  few = g.few;
}

-- a word that is in no record of the commits
pub records-set : (sizes : Sizes) (words : List ℕ) (kept : List Image) (p n : ℕ)
    → All (λ image. All (λ pair. (i : ℕ) → i < length pair.1 → place_in sizes (length pair.1) pair.0 i ≢ p) image.records) kept
    → All (λ image. All (WordsStand sizes words) image.records) kept → All (λ image. All (WordsStand sizes (set words p n)) image.records) kept
records-set sizes words kept p n apart stand k d lt l e less i at =
    get_or-set_other words p _ n 0 (apart k d lt l e less i at) ∙ stand k d lt l e less i at

-- no record of the commits has a word that is not behind the first word of a buffer
pub records-behind : (sizes : Sizes) (buffers : List Buffer) (kept : List Image) (p : ℕ) → ((q : ℕ) → IsBehind sizes q → q ≢ p)
    → All (λ image. All (IsPlaced sizes buffers) image.records) kept
    → All (λ image. All (λ pair. (i : ℕ) → i < length pair.1 → place_in sizes (length pair.1) pair.0 i ≢ p) image.records) kept
records-behind sizes buffers kept p clear placed k d lt l e less i at = clear _ (entry-behind (placed k d lt l e less).inside i at)

-- a buffer that is there is one of the table's
pub active-inside : (buffers : List Buffer) (b width : ℕ) → active_in buffers b ≡ Some width → b < length buffers
active-inside buffers b width e = by_buffer (slice_get buffers b) refl e
  where
    by_buffer : (o : Option Buffer) → slice_get buffers b ≡ o → option_and_then active_width o ≡ Some width → b < length buffers
    by_buffer None at h = absurd (cc)
    by_buffer (Some x) at h = slice_get_within buffers b x at

-- so its words are among the table's words
pub active-below : (sizes : Sizes) (buffers : List Buffer) (p : ℕ) (words : List ℕ) → InActive sizes buffers p → length buffers ≡ sizes.buffers → length words ≡ size_of sizes.buffers sizes.words → p < length words
active-below sizes buffers p words h count table =
    let lt : h.b < length buffers = active-inside buffers h.b h.width h.active in
    let more : suc h.b * sizes.words ≤ sizes.buffers * sizes.words = mul-le-mul_right sizes.words (omega (arith, lt, count)) in
    let is = h.is in
    let inside = h.inside in
    omega (arith, suc-mul h.b sizes.words)

module _ (reaches : ℕ → Records → ℕ → List ℕ) (lawful : ℕ → Records → ℕ → Type 0) where
  -- a word before the buffers is no word of them
  pub memory-low : (s : State) → Good reaches lawful s → (p n : ℕ) → p < 18 → GoodMemory s.writer.sizes (set s.words p n) s.writer.buffers (kept_of s.writer) s.writer.work
  memory-low s g p n low = record {
    records = records-set s.writer.sizes s.words (kept_of s.writer) p n (records-behind s.writer.sizes s.writer.buffers (kept_of s.writer) p (λ q h e. let high = behind-high s.writer.sizes q h in
        omega arith) g.places.records) g.memory.records;
    stored = λ q m there. let high = behind-high s.writer.sizes q (active-behind (g.places.stored q m there).active) in get_or-set_other s.words p q n 0 (λ e. omega arith) ∙ g.memory.stored q m there;
    widths = λ b width is some. get_or-set_other s.words p (base s.writer.sizes.buffers s.writer.sizes.words b) n 0 (λ e. omega arith) ∙ g.memory.widths b width is some;
  }
