-- The writer's events keep the invariant.
use Rattle.list_lemmas.proofs.Places.{slice_get-set_same, slice_get-set_other}
use Rattle.std.proofs.Common.{◌≡◌, ◌≢◌, ℕ, suc, ◌+◌, ◌*◌, ◌<◌, ◌≤◌, List, length, set, Option, Some, None, Bool, cond, eqb, true, false, refl, sym, ap, ◌∙◌, subst, ⊎_elim, arith, length-set, slice_index, eqb-true}
use Rattle.std.proofs.Common.{eq-eqb, true≢false, mul-le-mul_right, suc-mul}
use mathlib.Core.Logic.{dite}
use native.Mathlib.Decide.{ℕ_discrete}
use Rattle.std.proofs.Math.Seq.{get_or-set_other, get_or-set_same}
use Rattle.std.specs.Prelude.{slice_get, option_and_then}
use Rattle.std.proofs.lemmas.Option.{slice_get_within}
use Rattle.list_lemmas.proofs.Options.{same_Some}
use Rattle.entry_ref.specs.References.{buffer_of}
use Rattle.entry_ref.specs.Records.{Records}
use Rattle.entry_ref.specs.Places.{base, state_place}
use Rattle.gen_core.specs.declared.views.Sizes.{Sizes}
use Rattle.gen_core.specs.declared.views.Tag.{Tag}
use Rattle.gen_core.specs.declared.views.Buffer.{Buffer}
use Rattle.gen_core.specs.declared.views.Buffer.TheVariants.{Free, Active, Held}
use Rattle.gen_core.specs.Views.{kept_of, state_word, record_width, width_in, active_width, last_tag_in}
use Rattle.gen_core.specs.Work.{work_at}
use Rattle.gen_core.specs.Good.{State, IsWorkPlace, Good}
use Rattle.gen_core.specs.Conditions.{MayStoreWidth, MayStoreWord, MayHandOut}
use Rattle.gen_core.specs.Events.{with_buffer, stored, after_store_width, after_store_word, after_find_word, after_hand_out}
use Rattle.gen_core.proofs.OneStep.{set_back}
use Rattle.gen_core.proofs.Lists.{at_set}
use Rattle.gen_core.proofs.Frames.{IsBehind, active-behind, behind-base, base-same, behind-high, names-set, counts-set, records-set, records-behind, active-inside, active-below, sizes-set}
use Rattle.gen_core.proofs.ViewLemmas.{active-width, active-there}

module _ (reaches : ℕ → Records → ℕ → List ℕ) (lawful : ℕ → Records → ℕ → Type 0) where
  pub store_word_keeps : (s : State) (p n : ℕ) → Good reaches lawful s → MayStoreWord s.writer p → Good reaches lawful (after_store_word s p n)
  store_word_keeps s p n g may =
      let sizes : Sizes = s.writer.sizes in
      let at : IsBehind sizes p = active-behind may.active in
      let high : 18 + sizes.buffers < p = behind-high sizes p at in
      record {
        sizes = sizes-set g.sizes p n;
        queue = g.queue;
        tags = g.tags;
        commits = g.commits;
        places = record { records = g.places.records; stored = λ q m there. place q m (eqb q p) refl there };
        names = names-set g.names p n (omega (arith, g.sizes.count));
        memory = record {
          records = records-set sizes s.words (kept_of s.writer) p n (λ k d lt l e less. ((may.apart k d lt).records l e less).each) g.memory.records;
          stored = λ q m there. word q m (eqb q p) refl there;
          widths = λ b width is some. get_or-set_other s.words p (base sizes.buffers sizes.words b) n 0 (λ e. behind-base sizes p b at (sym e)) ∙ g.memory.widths b width is some;
        };
        counts = counts-set g.counts p n (λ h lt e. omega arith);
        readers = g.readers;
      }
    where
      place : (q m : ℕ) (t : Bool) → eqb q p ≡ t → cond t (Some n) (work_at s.writer.work q) ≡ Some m → IsWorkPlace s.writer.sizes s.writer.buffers (kept_of s.writer) q
      place q m true e there = subst (IsWorkPlace s.writer.sizes s.writer.buffers (kept_of s.writer)) (sym (eqb-true q p e)) (record { active = may.active; apart = may.apart })
      place q m false e there = g.places.stored q m there

      inside : p < length s.words
      inside = active-below s.writer.sizes s.writer.buffers p s.words may.active g.sizes.count g.sizes.table

      word : (q m : ℕ) (t : Bool) → eqb q p ≡ t → cond t (Some n) (work_at s.writer.work q) ≡ Some m → slice_index (set s.words p n) q ≡ m
      word q m true e there = let is : n ≡ m = cc in ap (slice_index (set s.words p n)) (eqb-true q p e) ∙ get_or-set_same s.words p n 0 inside ∙ is
      word q m false e there = get_or-set_other s.words p q n 0 (λ same. true≢false (sym (eq-eqb q p same) ∙ e)) ∙ g.memory.stored q m there

  -- a word that is found is one that is stored again
  pub find_word_keeps : (s : State) (p : ℕ) → Good reaches lawful s → MayStoreWord s.writer p → Good reaches lawful (after_find_word s p)
  find_word_keeps s p g may =
      subst (λ (l : List ℕ). Good reaches lawful (record { words = l; writer = stored s.writer p (slice_index s.words p); readers = s.readers })) (set_back s.words p)
      (store_word_keeps s p (slice_index s.words p) g may)

  -- a buffer without records gets another state or width, and one word changes that is behind no first word of a buffer
  buffer_keeps : (s : State) (b p n width : ℕ) (last : Option Tag) → Good reaches lawful s
      → ((c : ℕ) (w : ℕ) → c ≡ b → width_in s.writer.buffers c ≡ Some w → 0 < w → ⊥)
      → ((q : ℕ) → IsBehind s.writer.sizes q → q ≢ p)
      → 18 ≤ p
      → ((c : ℕ) (x : Buffer) → slice_get (set s.writer.buffers b (Active width last)) c ≡ Some x → slice_index (set s.words p n) (state_place c) ≡ state_word x)
      → ((c w : ℕ) → width_in (set s.writer.buffers b (Active width last)) c ≡ Some w → 0 < w → slice_index (set s.words p n) (base s.writer.sizes.buffers s.writer.sizes.words c) ≡ w)
      → Good reaches lawful (record { words = set s.words p n; writer = with_buffer s.writer b (Active width last); readers = s.readers })
  buffer_keeps s b p n width last g empty clear high states widths =
      let sizes : Sizes = s.writer.sizes in
      let buffers : List Buffer = s.writer.buffers in
      let x : Buffer = Active width last in
      record {
        sizes = record {
          table = length-set s.words p n ∙ g.sizes.table;
          count = length-set buffers b x ∙ g.sizes.count;
          some_word = g.sizes.some_word;
          commit_limit = g.sizes.commit_limit;
          generation_limit = g.sizes.generation_limit;
        };
        queue = g.queue;
        tags = record {
          free = λ c t at. ⊎_elim (λ (h : (c ≡ b) × (x ≡ Free (Some t))). absurd (let e = h.1 in cc)) (λ (h : (c ≢ b) × (slice_get buffers c ≡ Some (Free (Some t)))). g.tags.free c t h.1)
              (at_set buffers b c x (Free (Some t)) at);
          held = λ c w tag at. ⊎_elim (λ (h : (c ≡ b) × (x ≡ Held w tag)). absurd (let e = h.1 in cc)) (λ (h : (c ≢ b) × (slice_get buffers c ≡ Some (Held w tag))). g.tags.held c w tag h.1)
              (at_set buffers b c x (Held w tag) at);
        };
        commits = g.commits;
        places = record {
          records = λ k d lt l e less.
              let old = g.places.records k d lt l e less in
              record { inside = old.inside; width = still (buffer_of s.writer.sizes.offset_bits _) _ old.width old.inside.wide };
          stored = λ q m there.
              let old = g.places.stored q m there in
              let a = old.active in
              record {
                active = record {
                  b = a.b;
                  width = a.width;
                  x = a.x;
                  active = ap (option_and_then active_width) (slice_get-set_other buffers b a.b x (λ same. empty a.b a.width same (active-width buffers a.b a.width a.active) a.some)) ∙ a.active;
                  some = a.some;
                  behind = a.behind;
                  inside = a.inside;
                  is = a.is;
                };
                apart = old.apart;
              };
        };
        names = record { root = get_or-set_other s.words p 0 n 0 (λ e. omega arith) ∙ g.names.root; newest_hold = get_or-set_other s.words p 1 n 0 (λ e. omega arith) ∙ g.names.newest_hold; states = states };
        memory = record {
          records = records-set sizes s.words (kept_of s.writer) p n (records-behind sizes buffers (kept_of s.writer) p clear g.places.records) g.memory.records;
          stored = λ q m there. get_or-set_other s.words p q n 0 (clear q (active-behind (g.places.stored q m there).active)) ∙ g.memory.stored q m there;
          widths = widths;
        };
        counts = counts-set g.counts p n (λ h lt e. omega arith);
        readers = g.readers;
      }
    where
      still : (c w : ℕ) → width_in s.writer.buffers c ≡ Some w → 0 < w → width_in (set s.writer.buffers b (Active width last)) c ≡ Some w
      still c w is some = ap (option_and_then record_width) (slice_get-set_other s.writer.buffers b c (Active width last) (λ same. empty c w same is some)) ∙ is

  pub store_width_keeps : (s : State) (b width : ℕ) → Good reaches lawful s → MayStoreWidth s.writer b width → Good reaches lawful (after_store_width s b width)
  store_width_keeps s b width g may =
      buffer_keeps s b (base sizes.buffers sizes.words b) width width (last_tag_in buffers b) g
      (λ c w same is some. let old : w ≡ 0 = same_width c w same is in omega arith)
      (λ q h. behind-base sizes q b h)
      (omega arith)
      states
      widths
    where
      sizes : Sizes
      sizes = s.writer.sizes

      buffers : List Buffer
      buffers = s.writer.buffers

      p : ℕ
      p = base sizes.buffers sizes.words b

      within : b < sizes.buffers
      within = let lt = active-inside buffers b 0 may.none_yet in omega (arith, lt, g.sizes.count)

      same_width : (c w : ℕ) → c ≡ b → width_in buffers c ≡ Some w → w ≡ 0
      same_width c w same is = same_Some w 0 (sym is ∙ ap (width_in buffers) same ∙ active-width buffers b 0 may.none_yet)

      low : (c : ℕ) → c < sizes.buffers → state_place c ≢ p
      low c lt e = omega arith

      states : (c : ℕ) (x : Buffer) → slice_get (set buffers b (Active width (last_tag_in buffers b))) c ≡ Some x → slice_index (set s.words p width) (state_place c) ≡ state_word x
      states c x at =
          ⊎_elim
          (λ (h : (c ≡ b) × (Active width (last_tag_in buffers b) ≡ x)).
          let old = active-there buffers b 0 may.none_yet in
          ap (λ k. slice_index (set s.words p width) (state_place k)) h.0
          ∙ get_or-set_other s.words p (state_place b) width 0 (low b within)
          ∙ g.names.states b _ old.1 ∙ ap state_word h.1)
          (λ (h : (c ≢ b) × (slice_get buffers c ≡ Some x)).
          let lt : c < length buffers = slice_get_within buffers c x h.1 in
          get_or-set_other s.words p (state_place c) width 0 (low c (omega (arith, lt, g.sizes.count))) ∙ g.names.states c x h.1)
          (at_set buffers b c (Active width (last_tag_in buffers b)) x at)

      below : p < length s.words
      below =
          let more : suc b * sizes.words ≤ sizes.buffers * sizes.words = mul-le-mul_right sizes.words within in
          let some = g.sizes.some_word in
          omega (arith, suc-mul b sizes.words, g.sizes.table)

      widths : (c w : ℕ) → width_in (set buffers b (Active width (last_tag_in buffers b))) c ≡ Some w → 0 < w → slice_index (set s.words p width) (base sizes.buffers sizes.words c) ≡ w
      widths c w is some = dite (ℕ_discrete c b)
          (λ same.
          let new : width_in (set buffers b (Active width (last_tag_in buffers b))) b ≡ Some width =
          ap (option_and_then record_width) (slice_get-set_same buffers b (Active width (last_tag_in buffers b)) (omega (arith, within, g.sizes.count))) in
          let value : width ≡ w = same_Some width w (sym new ∙ ap (width_in (set buffers b (Active width (last_tag_in buffers b)))) (sym same) ∙ is) in
          ap (λ k. slice_index (set s.words p width) (base sizes.buffers sizes.words k)) same ∙ get_or-set_same s.words p width 0 below ∙ value)
          (λ other.
          get_or-set_other s.words p (base sizes.buffers sizes.words c) width 0 (λ e. other (base-same sizes c b g.sizes.some_word e))
          ∙ g.memory.widths c w (sym (ap (option_and_then record_width) (slice_get-set_other buffers b c (Active width (last_tag_in buffers b)) other)) ∙ is) some)

  pub hand_out_keeps : (s : State) (b : ℕ) → Good reaches lawful s → MayHandOut s.writer b → Good reaches lawful (after_hand_out s b)
  hand_out_keeps s b g may =
      buffer_keeps s b (state_place b) 1 0 (last_tag_in buffers b) g
      (λ c w same is some. absurd (let free : width_in buffers c ≡ None = ap (width_in buffers) same ∙ ap (option_and_then record_width) may.free in cc))
      (λ q h e. let high = behind-high sizes q h in omega (arith, within, high))
      (omega arith)
      states
      widths
    where
      sizes : Sizes
      sizes = s.writer.sizes

      buffers : List Buffer
      buffers = s.writer.buffers

      x : Buffer
      x = Active 0 (last_tag_in s.writer.buffers b)

      within : b < sizes.buffers
      within = let lt : b < length buffers = slice_get_within buffers b (Free may.tag) may.free in omega (arith, lt, g.sizes.count)

      states : (c : ℕ) (y : Buffer) → slice_get (set buffers b x) c ≡ Some y → slice_index (set s.words (state_place b) 1) (state_place c) ≡ state_word y
      states c y at =
          ⊎_elim
          (λ (h : (c ≡ b) × (x ≡ y)).
          ap (λ k. slice_index (set s.words (state_place b) 1) (state_place k)) h.0 ∙ get_or-set_same s.words (state_place b) 1 0 (omega (arith, within, g.sizes.table)) ∙ ap state_word h.1)
          (λ (h : (c ≢ b) × (slice_get buffers c ≡ Some y)).
          let other = h.0 in
          get_or-set_other s.words (state_place b) (state_place c) 1 0 (λ e. other (omega arith)) ∙ g.names.states c y h.1)
          (at_set buffers b c x y at)

      widths : (c w : ℕ) → width_in (set buffers b x) c ≡ Some w → 0 < w → slice_index (set s.words (state_place b) 1) (base sizes.buffers sizes.words c) ≡ w
      widths c w is some = dite (ℕ_discrete c b)
          (λ same.
          let new : width_in (set buffers b x) b ≡ Some 0 = ap (option_and_then record_width) (slice_get-set_same buffers b x (omega (arith, within, g.sizes.count))) in
          let value : Some 0 ≡ Some w = sym new ∙ ap (width_in (set buffers b x)) (sym same) ∙ is in
          let nought : 0 ≡ w = cc in
          absurd (omega arith))
          (λ other.
          get_or-set_other s.words (state_place b) (base sizes.buffers sizes.words c) 1 0 (λ e. omega (arith, within))
          ∙ g.memory.widths c w (sym (ap (option_and_then record_width) (slice_get-set_other buffers b c x other)) ∙ is) some)
