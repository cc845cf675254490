-- What the ghost field of a writer gives at a call, and how it stands after a step.
use Rattle.std.proofs.Common.{map, mul-le-mul_left, ◌≡◌, ℕ, ◌+◌, ◌*◌, ◌<◌, ◌≤◌, List, [], length, slice_index, refl, sym, ap, ◌∙◌, subst, arith}
use Rattle.std.proofs.Props.{props}
use mathlib.Core.Option.{none}
use Rattle.entry_ref.specs.References.{buffer_of, offset_of}
use Rattle.atomic_table.specs.Table.{Me, step}
use Rattle.atomic_table.specs.Seated.{TableId}
use Rattle.entry_ref.specs.Places.{base, place, size_of, IsEntry}
use Rattle.entry_ref.proofs.Apart.{within, place-below}
use Rattle.generation_handler.specs.declared.HoldEntry.{HoldEntry}
use Rattle.gen_core.specs.Views.{open_holds}
use Rattle.gen_core.specs.declared.views.Sizes.{Sizes}
use Rattle.gen_core.specs.declared.views.Pending.TheVariants.{Nothing}
use Rattle.gen_core.specs.declared.views.Buffer.{Buffer}
use Rattle.gen_core.specs.declared.views.ReaderView.{ReaderView}
use Rattle.gen_core.specs.declared.views.WriterView.{WriterView}
use Rattle.gen_core.specs.declared.views.View.{View}
use Rattle.gen_core.specs.declared.views.View.TheVariants.{Writer}
use Rattle.gen_core.specs.Views.{last_number}
use Rattle.gen_core.specs.Work.{writer_records}
use Rattle.gen_core.specs.Good.{GoodView}
use Rattle.gen_core.specs.Conditions.{IsBufferWord, MayLoadOwn}
use Rattle.gen_core.specs.Events.{with_reader, joined}
use Rattle.arena_api.specs.Calls.{IsWithinLimits}
use Rattle.word_arena.specs.Ruled.{Slot, writer_in, api_sizes, ToldLoadOwn}
use Rattle.word_arena.specs.Knows.{own_hold, StoresEntries, IsDesk}
use Rattle.gen_core.proofs.GoodViews.{records-placed}
use Rattle.word_arena.proofs.Guards.{base-inside}

pub desk-prop : (bits : ℕ) (arena : TableId) (sizes : Sizes) (buffers : List Buffer) (holds : List HoldEntry) (last made : ℕ) (z : TableId) (me : Me Slot View)
    → IsProp (IsDesk bits arena sizes buffers holds last made z me)
desk-prop bits arena sizes buffers holds last made z me = hlevel props

-- what is good of a view is good of it with another number of readers, and with more that was seen
pub good-reader : (w : WriterView) → GoodView w → GoodView (with_reader w)
good-reader w g = record { count = g.count; some_word = g.some_word; queue = g.queue; tags = g.tags; empty = g.empty; records = g.records; apart = g.apart; unstored = g.unstored }

pub good-joined : (w : WriterView) (r : ReaderView) → GoodView w → GoodView (joined w r)
good-joined w r g = record { count = g.count; some_word = g.some_word; queue = g.queue; tags = g.tags; empty = g.empty; records = g.records; apart = g.apart; unstored = g.unstored }

-- a step of the seat at z that leaves each desk over it as it was
abbrev pub Keeps : ℕ → TableId → Sizes → TableId → Me Slot View → TableId → Me Slot View → Type 0
Keeps bits arena sizes z me z' me' = (buffers : List Buffer) (holds : List HoldEntry) (last made : ℕ)
    → IsDesk bits arena sizes buffers holds last made z me → IsDesk bits arena sizes buffers holds last made z' me'

pub has_desk : {bits : ℕ} {arena : TableId} {sizes : Sizes} {z z' : TableId} {me me' : Me Slot View} → Keeps bits arena sizes z me z' me'
    → (buffers : List Buffer) × (holds : List HoldEntry) × (last : ℕ) × (made : ℕ) × IsDesk bits arena sizes buffers holds last made z me
    → (buffers : List Buffer) × (holds : List HoldEntry) × (last : ℕ) × (made : ℕ) × IsDesk bits arena sizes buffers holds last made z' me'
has_desk keeps (buffers, holds, last, made, d) = (buffers, holds, last, made, keeps buffers holds last made d)

pub keeps_both : {bits : ℕ} {arena : TableId} {sizes : Sizes} {z z' z'' : TableId} {me me' me'' : Me Slot View} → Keeps bits arena sizes z me z' me'
    → Keeps bits arena sizes z' me' z'' me'' → Keeps bits arena sizes z me z'' me''
keeps_both first then buffers holds last made d = then buffers holds last made (first buffers holds last made d)

module _ {bits : ℕ} {arena : TableId} {sizes : Sizes} {buffers : List Buffer} {holds : List HoldEntry} {last made : ℕ} {z : TableId} {me : Me Slot View} (d : IsDesk bits arena sizes buffers holds last made z me) where
  abbrev pub w : WriterView
  w = writer_in me.0

  -- the desk after a step to the view v
  pub desk_after : {z' : TableId} {me' : Me Slot View} {buffers' : List Buffer} {holds' : List HoldEntry} {last' made' : ℕ} (v : WriterView) → z' ≡ z → me' ≡ (Writer v, me.1) → v.sizes ≡ w.sizes → v.buffers ≡ buffers'
      → map own_hold (open_holds v.queue) ≡ holds'
      → last' ≡ last_number v.commits → (made' ≡ v.made) × (made' ≤ 64) → v.queue.pending ≡ Nothing → GoodView v → StoresEntries v → IsDesk bits arena sizes buffers' holds' last' made' z' me'
  desk_after {z'} {me'} {buffers'} {holds'} {last'} {made'} v same is size of queue number count calm good entries =
      let slots : me.1 ≡ [] = ap (λ (m : Me Slot View). m.1) d.is in
      let P : Me Slot View → Type 0 = λ m. IsDesk bits arena sizes buffers' holds' last' made' z' m in
      subst P (sym (is ∙ (λ k. (Writer v, slots k)))) (record {
        own = same ∙ d.own;
        is = refl;
        words = ap (λ (x : TableId). x.words) same ∙ d.words;
        same_sizes = size ∙ d.same_sizes;
        same_bits = d.same_bits;
        limits = subst (λ (x : Sizes). IsWithinLimits bits (api_sizes x)) (sym size) d.limits;
        product = subst (λ (x : Sizes). x.buffers * x.words ≤ 67108864) (sym size) d.product;
        same_buffers = of;
        same_holds = queue;
        commits = number;
        readers = count;
        calm = calm;
        good = good;
        entries = entries;
      })

  pub arena-words : arena.words ≡ size_of sizes.buffers sizes.words
  arena-words = ap (λ (x : TableId). x.words) (sym d.own) ∙ d.words

  pub desk-some : 0 < arena.words
  desk-some = let h = arena-words in omega arith

  pub few-words : sizes.words ≤ 65536
  few-words = subst (λ (x : Sizes). x.words ≤ 65536) d.same_sizes d.limits.few_words

  pub few-buffers : sizes.buffers ≤ 67108864
  few-buffers =
      let product : sizes.buffers * sizes.words ≤ 67108864 = subst (λ (x : Sizes). x.buffers * x.words ≤ 67108864) d.same_sizes d.product in
      let some : 1 ≤ sizes.words = (let long = subst (λ (x : Sizes). 8192 ≤ x.words) d.same_sizes d.limits.some_words in omega arith) in
      let more : sizes.buffers * 1 ≤ sizes.buffers * sizes.words = mul-le-mul_left sizes.buffers some in
      omega (arith, product, more)

  -- the width of references
  pub view-bits : (writer_in me.0).sizes.offset_bits ≡ bits
  view-bits = ap (λ (x : Sizes). x.offset_bits) d.same_sizes ∙ d.same_bits

  module _ (ref i : ℕ) (inside : i < length (writer_records w ref)) where
    some : 0 < length (writer_records w ref)
    some = omega (arith, inside)

    pub the_entry : IsEntry bits sizes.buffers sizes.words (length (writer_records w ref)) ref
    the_entry = subst (λ b. IsEntry b sizes.buffers sizes.words (length (writer_records w ref)) ref) d.same_bits
        (subst (λ (x : Sizes). IsEntry x.offset_bits x.buffers x.words (length (writer_records w ref)) ref) d.same_sizes (records-placed w d.good ref some).inside)

    pub base-below : (p : ℕ) → p ≡ base sizes.buffers sizes.words (buffer_of bits ref) → p < arena.words
    base-below p is = let e = the_entry in let lt = base-inside sizes.buffers sizes.words (buffer_of bits ref) e.inside (omega (arith, (within e 0 e.wide).1)) in omega (arith, lt, is, arena-words)

    pub place-inside : (p : ℕ) → p ≡ place bits sizes.buffers sizes.words (length (writer_records w ref)) ref i → p < arena.words
    place-inside p is = let lt = place-below the_entry i inside in omega (arith, lt, is, arena-words)

    -- each is a word of its buffer
    pub may_load_width : (p : ℕ) → p ≡ base sizes.buffers sizes.words (buffer_of bits ref) → MayLoadOwn w p
    may_load_width p is = record {
      calm = d.calm;
      word = subst (λ (z : Sizes). IsBufferWord z p) (sym d.same_sizes) (let e = the_entry in
          record { b = buffer_of bits ref; x = 0; buffer = e.inside; inside = omega (arith, (within e 0 e.wide).1); is = omega (arith, is) });
    }

    pub may_load_word : (p : ℕ) → p ≡ place bits sizes.buffers sizes.words (length (writer_records w ref)) ref i → MayLoadOwn w p
    may_load_word p is = record {
      calm = d.calm;
      word = subst (λ (z : Sizes). IsBufferWord z p) (sym d.same_sizes) (let e = the_entry in
          record { b = buffer_of bits ref; x = offset_of bits ref * length (writer_records w ref) + i; buffer = e.inside; inside = (within e i inside).1; is = is });
    }

    pub width_found : {slots p found : ℕ} {me' : Me Slot View} → p ≡ base sizes.buffers sizes.words (buffer_of bits ref) → ToldLoadOwn (step slots p 0 0 none) me found me' → found ≡ length (writer_records w ref)
    width_found {slots} {p} {found} {me'} is told = told.own.width ref some (is ∙ (λ k. base (sym d.same_sizes k).buffers (sym d.same_sizes k).words (buffer_of (sym view-bits k) ref)))

    pub word_found : {slots p found : ℕ} {me1 me' : Me Slot View} → me1 ≡ me → p ≡ place bits sizes.buffers sizes.words (length (writer_records w ref)) ref i
        → ToldLoadOwn (step slots p 0 0 none) me1 found me' → found ≡ slice_index (writer_records w ref) i
    word_found {slots} {p} {found} {me1} {me'} same is told =
        let here : ToldLoadOwn (step slots p 0 0 none) me found me' = subst (λ (x : Me Slot View). ToldLoadOwn (step slots p 0 0 none) x found me') same told in
        here.own.word ref i inside (is ∙ (λ k. place (sym view-bits k) (sym d.same_sizes k).buffers (sym d.same_sizes k).words (length (writer_records w ref)) ref i))
