-- A buffer is put on hold, or given back.
use Rattle.list_lemmas.proofs.Places.{slice_get-set_same, slice_get-set_other}
use Rattle.std.proofs.Common.{◌≡◌, ◌≢◌, ℕ, ◌+◌, ◌<◌, ◌≤◌, List, length, drop, get_or, set, Some, None, sym, ap, ◌∙◌, subst, ⊎_elim, arith, length-set, length-drop, slice_index}
use mathlib.Core.Logic.{dite}
use native.Mathlib.Decide.{ℕ_discrete}
use Rattle.std.proofs.Math.Seq.{get_or-set_other, get_or-set_same}
use Rattle.std.specs.Prelude.{slice_get, All, option_and_then}
use Rattle.std.proofs.lemmas.Option.{slice_get_within, get_or_from_slice_get}
use Rattle.std.proofs.lemmas.List.{get_or-drop}
use Rattle.entry_ref.specs.References.{buffer_of}
use Rattle.entry_ref.specs.Records.{Records}
use Rattle.entry_ref.specs.Places.{base, state_place}
use Rattle.gen_core.specs.declared.views.Tag.{Tag}
use Rattle.gen_core.specs.declared.views.Buffer.{Buffer}
use Rattle.gen_core.specs.declared.views.Buffer.TheVariants.{Free, Held}
use Rattle.gen_core.specs.Views.{oldest_of, floor_of, kept_of, last_number, last_image, state_word, record_width, width_in, active_width, active_in}
use Rattle.gen_core.specs.Work.{work_at}
use Rattle.gen_core.specs.Good.{State, HasNothingIn, GoodTag, GoodTags, IsPlaced, IsWorkPlace, InActive, Good}
use Rattle.gen_core.specs.Conditions.{MayPutOnHold, MayFree}
use Rattle.gen_core.specs.Events.{with_buffer, tag_of, after_put_on_hold, after_free}
use Rattle.gen_core.proofs.Lists.{at_set, all_drop-more}
use Rattle.gen_core.proofs.Frames.{active-behind, behind-high, counts-set, records-set, records-behind, active-inside}
use Rattle.gen_core.proofs.Holds.{at_oldest, newest-most}
use Rattle.gen_core.proofs.GoodViews.{good_view, some-commit}
use Rattle.gen_core.proofs.ViewLemmas.{active-width, last_at}

module _ (reaches : ℕ → Records → ℕ → List ℕ) (lawful : ℕ → Records → ℕ → Type 0) where
  -- a buffer gets another state
  state_event : (s : State) (b : ℕ) (x : Buffer) → Good reaches lawful s → b < s.writer.sizes.buffers
      → All (λ image. All (IsPlaced s.writer.sizes (set s.writer.buffers b x)) image.records) (kept_of s.writer)
      → ((q m : ℕ) → work_at s.writer.work q ≡ Some m → IsWorkPlace s.writer.sizes (set s.writer.buffers b x) (kept_of s.writer) q)
      → GoodTags s.writer.sizes.offset_bits s.writer.queue s.writer.commits (set s.writer.buffers b x)
      → ((c w : ℕ) → width_in (set s.writer.buffers b x) c ≡ Some w → width_in s.writer.buffers c ≡ Some w)
      → Good reaches lawful (record { words = set s.words (state_place b) (state_word x); writer = with_buffer s.writer b x; readers = s.readers })
  state_event s b x g inside placed stored tags widths = record {
    sizes = record {
      table = length-set s.words (state_place b) _ ∙ g.sizes.table;
      count = length-set s.writer.buffers b x ∙ g.sizes.count;
      some_word = g.sizes.some_word;
      commit_limit = g.sizes.commit_limit;
      generation_limit = g.sizes.generation_limit;
    };
    queue = g.queue;
    tags = tags;
    commits = g.commits;
    places = record { records = placed; stored = stored };
    names = record {
      root = get_or-set_other s.words (state_place b) 0 _ 0 (λ e. omega arith) ∙ g.names.root;
      newest_hold = get_or-set_other s.words (state_place b) 1 _ 0 (λ e. omega arith) ∙ g.names.newest_hold;
      states = λ c y at. ⊎_elim
          (λ (h : (c ≡ b) × (x ≡ y)).
          ap (λ k. slice_index (set s.words (state_place b) (state_word x)) (state_place k)) h.0
          ∙ get_or-set_same s.words (state_place b) _ 0 (omega (arith, inside, g.sizes.table)) ∙ ap state_word h.1)
          (λ (h : (c ≢ b) × (slice_get s.writer.buffers c ≡ Some y)).
          let other = h.0 in get_or-set_other s.words (state_place b) (state_place c) _ 0 (λ e. other (omega arith)) ∙ g.names.states c y h.1)
          (at_set s.writer.buffers b c x y at);
    };
    memory = record {
      records = records-set s.writer.sizes s.words (kept_of s.writer) (state_place b) _
          (records-behind s.writer.sizes s.writer.buffers (kept_of s.writer) (state_place b) (λ q h e. let high = behind-high s.writer.sizes q h in omega (arith, inside)) g.places.records) g.memory.records;
      stored = λ q m there.
          let high = behind-high s.writer.sizes q (active-behind (g.places.stored q m there).active) in
          get_or-set_other s.words (state_place b) q _ 0 (λ e. omega (arith, inside, high, e)) ∙ g.memory.stored q m there;
      widths = λ c w is some. get_or-set_other s.words (state_place b) (base s.writer.sizes.buffers s.writer.sizes.words c) _ 0 (λ e. omega (arith, inside)) ∙ g.memory.widths c w (widths c w is) some;
    };
    counts = counts-set g.counts (state_place b) _ (λ h lt e. omega arith);
    readers = g.readers;
  }

  -- what was stored lies in other buffers
  stored-else : (s : State) (b : ℕ) (x : Buffer) → Good reaches lawful s → ((q m : ℕ) → work_at s.writer.work q ≡ Some m → (a : InActive s.writer.sizes s.writer.buffers q) → a.b ≢ b)
      → (q m : ℕ) → work_at s.writer.work q ≡ Some m → IsWorkPlace s.writer.sizes (set s.writer.buffers b x) (kept_of s.writer) q
  stored-else s b x g else q m there =
      let old = g.places.stored q m there in
      let a = old.active in
      record {
        active = record {
          b = a.b;
          width = a.width;
          x = a.x;
          active = ap (option_and_then active_width) (slice_get-set_other s.writer.buffers b a.b x (else q m there a)) ∙ a.active;
          some = a.some;
          behind = a.behind;
          inside = a.inside;
          is = a.is;
        };
        apart = old.apart;
      }

  pub put_on_hold_keeps : (s : State) (b width : ℕ) → Good reaches lawful s → MayPutOnHold s.writer b width → Good reaches lawful (after_put_on_hold s b width)
  put_on_hold_keeps s b width g may = state_event s b (Held width (tag_of s.writer)) g inside
      (λ k d lt l e less. let old = g.places.records k d lt l e less in record { inside = old.inside; width = same (buffer_of s.writer.sizes.offset_bits _) ∙ old.width })
      (stored-else s b (Held width (tag_of s.writer)) g (λ q m there a e. may.idle q m a.x there a.inside (a.is ∙ ap (λ c. base s.writer.sizes.buffers s.writer.sizes.words c + a.x) e)))
      (record { free = free; held = held })
      (λ c w is. sym (same c) ∙ is)
    where
      below : b < length s.writer.buffers
      below = active-inside s.writer.buffers b width may.active

      inside : b < s.writer.sizes.buffers
      inside = omega (arith, below, g.sizes.count)

      same : (c : ℕ) → width_in (set s.writer.buffers b (Held width (tag_of s.writer))) c ≡ width_in s.writer.buffers c
      same c = dite (ℕ_discrete c b)
          (λ e. ap (width_in (set s.writer.buffers b (Held width (tag_of s.writer)))) e
          ∙ ap (option_and_then record_width) (slice_get-set_same s.writer.buffers b (Held width (tag_of s.writer)) below)
          ∙ sym (ap (width_in s.writer.buffers) e ∙ active-width s.writer.buffers b width may.active))
          (λ ne. ap (option_and_then record_width) (slice_get-set_other s.writer.buffers b c (Held width (tag_of s.writer)) ne))

      free : (c : ℕ) (last : Tag) → slice_get (set s.writer.buffers b (Held width (tag_of s.writer))) c ≡ Some (Free (Some last)) → last.generation < (oldest_of s.writer.queue).generation
      free c last at = ⊎_elim
          (λ (h : (c ≡ b) × (Held width (tag_of s.writer) ≡ Free (Some last))). absurd (let e = h.1 in cc))
          (λ (h : (c ≢ b) × (slice_get s.writer.buffers c ≡ Some (Free (Some last)))). g.tags.free c last h.1)
          (at_set s.writer.buffers b c (Held width (tag_of s.writer)) (Free (Some last)) at)

      -- the last commit alone is not below the tag's
      unused : All (HasNothingIn s.writer.sizes.offset_bits b) (drop (last_number s.writer.commits) s.writer.commits)
      unused k d lt =
          let some = some-commit s.writer (good_view reaches lawful s g) in
          let first : k ≡ 0 = omega (arith, lt, length-drop (last_number s.writer.commits) s.writer.commits, some) in
          let at : last_number s.writer.commits + k ≡ last_number s.writer.commits = omega arith in
          let is : get_or (drop (last_number s.writer.commits) s.writer.commits) k d ≡ last_image s.writer.commits =
          get_or-drop (last_number s.writer.commits) s.writer.commits k d ∙ ap (λ i. get_or s.writer.commits i d) at
          ∙ get_or_from_slice_get s.writer.commits (last_number s.writer.commits) _ d (last_at s.writer.commits some) in
          subst (HasNothingIn s.writer.sizes.offset_bits b) (sym is) may.unused

      mine : GoodTag s.writer.sizes.offset_bits s.writer.queue s.writer.commits b (tag_of s.writer)
      mine = record {
        generation = omega arith;
        commit = omega arith;
        first_commits = λ k d lt more. absurd (let le = newest-most s.writer.queue.older s.writer.queue.newest g.queue.rising k d lt in omega arith);
        unused = unused;
      }

      held : (c w : ℕ) (tag : Tag) → slice_get (set s.writer.buffers b (Held width (tag_of s.writer))) c ≡ Some (Held w tag) → GoodTag s.writer.sizes.offset_bits s.writer.queue s.writer.commits c tag
      held c w tag at = ⊎_elim
          (λ (h : (c ≡ b) × (Held width (tag_of s.writer) ≡ Held w tag)).
          let e = h.1 in let is : tag_of s.writer ≡ tag = cc in
          (λ (P : GoodTag s.writer.sizes.offset_bits s.writer.queue s.writer.commits b tag). subst (λ i. GoodTag s.writer.sizes.offset_bits s.writer.queue s.writer.commits i tag) (sym h.0) P)
          (subst (GoodTag s.writer.sizes.offset_bits s.writer.queue s.writer.commits b) is mine))
          (λ (h : (c ≢ b) × (slice_get s.writer.buffers c ≡ Some (Held w tag))). g.tags.held c w tag h.1)
          (at_set s.writer.buffers b c (Held width (tag_of s.writer)) (Held w tag) at)

  pub free_keeps : (s : State) (b : ℕ) (tag : Tag) → Good reaches lawful s → MayFree s.writer b tag → Good reaches lawful (after_free s b tag)
  free_keeps s b tag g may = state_event s b (Free (Some tag)) g inside placed
      (stored-else s b (Free (Some tag)) g (λ q m there a e. let active = a.active in let none : active_in s.writer.buffers a.b ≡ None = ap (active_in s.writer.buffers) e ∙ ap (option_and_then active_width) may.held in
      absurd (cc)))
      (record { free = free; held = held })
      widths
    where
      inside : b < s.writer.sizes.buffers
      inside = let lt = slice_get_within s.writer.buffers b (Held may.width tag) may.held in omega (arith, lt, g.sizes.count)

      old : GoodTag s.writer.sizes.offset_bits s.writer.queue s.writer.commits b tag
      old = g.tags.held b may.width tag may.held

      -- no kept commit has a record there
      nothing : All (HasNothingIn s.writer.sizes.offset_bits b) (kept_of s.writer)
      nothing = all_drop-more (HasNothingIn s.writer.sizes.offset_bits b) tag.commit (floor_of s.writer) s.writer.commits
          (at_oldest (λ e. tag.generation < e.generation → tag.commit ≤ e.first_commit) s.writer.queue.older s.writer.queue.newest old.first_commits may.below) old.unused

      placed : All (λ image. All (IsPlaced s.writer.sizes (set s.writer.buffers b (Free (Some tag)))) image.records) (kept_of s.writer)
      placed k d lt l e less =
          let was = g.places.records k d lt l e less in
          record { inside = was.inside; width = ap (option_and_then record_width) (slice_get-set_other s.writer.buffers b _ (Free (Some tag)) (nothing k d lt l e less)) ∙ was.width }

      free : (c : ℕ) (last : Tag) → slice_get (set s.writer.buffers b (Free (Some tag))) c ≡ Some (Free (Some last)) → last.generation < (oldest_of s.writer.queue).generation
      free c last at = ⊎_elim
          (λ (h : (c ≡ b) × (Free (Some tag) ≡ Free (Some last))). let e = h.1 in let is : tag ≡ last = cc in subst (λ (t : Tag). t.generation < (oldest_of s.writer.queue).generation) is may.below)
          (λ (h : (c ≢ b) × (slice_get s.writer.buffers c ≡ Some (Free (Some last)))). g.tags.free c last h.1)
          (at_set s.writer.buffers b c (Free (Some tag)) (Free (Some last)) at)

      held : (c w : ℕ) (t : Tag) → slice_get (set s.writer.buffers b (Free (Some tag))) c ≡ Some (Held w t) → GoodTag s.writer.sizes.offset_bits s.writer.queue s.writer.commits c t
      held c w t at = ⊎_elim
          (λ (h : (c ≡ b) × (Free (Some tag) ≡ Held w t)). absurd (let e = h.1 in cc))
          (λ (h : (c ≢ b) × (slice_get s.writer.buffers c ≡ Some (Held w t))). g.tags.held c w t h.1)
          (at_set s.writer.buffers b c (Free (Some tag)) (Held w t) at)

      widths : (c w : ℕ) → width_in (set s.writer.buffers b (Free (Some tag))) c ≡ Some w → width_in s.writer.buffers c ≡ Some w
      widths c w is = dite (ℕ_discrete c b)
          (λ e.
          let lt = slice_get_within s.writer.buffers b (Held may.width tag) may.held in
          let none : width_in (set s.writer.buffers b (Free (Some tag))) c ≡ None =
          ap (width_in (set s.writer.buffers b (Free (Some tag)))) e ∙ ap (option_and_then record_width) (slice_get-set_same s.writer.buffers b (Free (Some tag)) lt) in
          absurd (cc))
          (λ ne. sym (ap (option_and_then record_width) (slice_get-set_other s.writer.buffers b c (Free (Some tag)) ne)) ∙ is)
