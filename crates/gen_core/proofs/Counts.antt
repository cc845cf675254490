-- The readers' events on holds keep the invariant.
use Rattle.list_lemmas.specs.Counting.{one_if}
use Rattle.std.proofs.Common.{◌≡◌, ◌≢◌, ℕ, ◌+◌, ◌-◌, ◌*◌, ◌%◌, ◌<◌, List, set, Some, Bool, true, false, cond, refl, sym, ap, ◌∙◌, subst, arith, length-set, slice_index, eq-eqb, ne_eqb, true≢false}
use mathlib.Core.Logic.{dite}
use native.Mathlib.Decide.{ℕ_discrete}
use Rattle.std.proofs.Math.Seq.{get_or-set_other, get_or-set_same}
use Rattle.std.specs.Prelude.{slice_get, count_by, nat_eq}
use Rattle.std.proofs.lemmas.List.Elements.{All-set}
use Rattle.entry_ref.specs.Records.{Records}
use Rattle.gen_core.specs.declared.views.ReaderState.{ReaderState}
use Rattle.gen_core.specs.declared.views.ReaderState.TheVariants.{Idle, Aimed, Raised, Bounced, Guarded, Spent}
use Rattle.gen_core.specs.declared.views.ReaderView.{ReaderView}
use Rattle.gen_core.specs.declared.views.WriterView.{WriterView}
use Rattle.gen_core.specs.Views.{hold_place, is_open_hold, is_counted_on}
use Rattle.gen_core.specs.Good.{State, hold_word, AimFits, BounceFits, GuardFits, GoodReaderState, GoodReader, Good, HoldFits}
use Rattle.gen_core.specs.Events.{aims, after_load_newest, found_state, found_misses, released, after_count, after_raise, bounced, after_bounce, after_release}
use Rattle.gen_core.proofs.Lists.{all_at, count_moved, count_some}
use Rattle.gen_core.proofs.Holds.{at_newest, newest-open}
use Rattle.gen_core.proofs.Frames.{names-hold, memory-low, sizes-set}

module _ (reaches : ℕ → Records → ℕ → List ℕ) (lawful : ℕ → Records → ℕ → Type 0) where
  -- one count changes by twice what one view's change counts
  pub count_event : (s : State) (h n j : ℕ) (r v : ReaderView) → Good reaches lawful s → slice_get s.readers j ≡ Some r → h < 16
      → n + 2 * one_if (is_counted_on h r.state) ≡ slice_index s.words (hold_place h) + 2 * one_if (is_counted_on h v.state)
      → ((k : ℕ) → k ≢ h → is_counted_on k r.state ≡ is_counted_on k v.state)
      → GoodReader s.writer.sizes s.writer.queue s.writer.commits v
      → Good reaches lawful (after_count s h n j v)
  count_event s h n j r v g at low moved still new = record {
    sizes = sizes-set g.sizes (hold_place h) n;
    queue = g.queue;
    tags = g.tags;
    commits = g.commits;
    places = g.places;
    names = names-hold g.names (hold_place h) n (omega arith) (omega arith);
    memory = memory-low reaches lawful s g (hold_place h) n (omega arith);
    counts = record { counts = counts; views = length-set s.readers j v ∙ g.counts.views; few = g.counts.few };
    readers = All-set (GoodReader s.writer.sizes s.writer.queue s.writer.commits) s.readers j v new g.readers;
  }
    where
      counts : (k : ℕ) → k < 16 → slice_index (set s.words (hold_place h) n) (hold_place k)
          ≡ hold_word (count_by (λ q. is_counted_on k q.state) (set s.readers j v)) (is_open_hold s.writer.queue k)
      counts k lt =
          let c = count_moved (λ (q : ReaderView). is_counted_on k q.state) s.readers j r v at in
          let old = g.counts.counts k lt in
          dite (ℕ_discrete k h)
          (λ same.
          let here = get_or-set_same s.words (hold_place h) n 0 (omega (arith, low, g.sizes.table)) in
          let m : n + 2 * one_if (is_counted_on k r.state) ≡ slice_index s.words (hold_place k) + 2 * one_if (is_counted_on k v.state) =
          subst (λ i. n + 2 * one_if (is_counted_on i r.state) ≡ slice_index s.words (hold_place i) + 2 * one_if (is_counted_on i v.state)) (sym same) moved in
          let at_k : slice_index (set s.words (hold_place h) n) (hold_place k) ≡ n = ap (λ i. slice_index (set s.words (hold_place h) n) (hold_place i)) same ∙ here in
          omega (arith, c, old, m, at_k))
          (λ other.
          let there = get_or-set_other s.words (hold_place h) (hold_place k) n 0 (λ e. other (omega arith)) in
          let same : one_if (is_counted_on k r.state) ≡ one_if (is_counted_on k v.state) = ap one_if (still k other) in
          omega (arith, c, old, there, same))

  pub load_newest_keeps : (s : State) (j : ℕ) (r : ReaderView) → Good reaches lawful s → slice_get s.readers j ≡ Some r → r.state ≡ Idle → Good reaches lawful (after_load_newest s j r)
  load_newest_keeps s j r g at idle =
      let w : WriterView = s.writer in
      let old = all_at (GoodReader w.sizes w.queue w.commits) s.readers j r g.readers at in
      let v : ReaderView = aims r w.queue.newest in
      let new : GoodReader w.sizes w.queue w.commits v = record {
        same_sizes = λ e. old.same_sizes (λ is. off (sym idle ∙ is));
        seen = old.seen;
        saw = old.saw;
        least = omega arith;
        state = record { hold = (at_newest (HoldFits w.commits) w.queue.older w.queue.newest g.queue.each).hold; aim = refl; current = λ e. refl };
      } in
      record {
        sizes = g.sizes;
        queue = g.queue;
        tags = g.tags;
        commits = g.commits;
        places = g.places;
        names = g.names;
        memory = g.memory;
        counts = record {
          counts = λ k lt. let c = count_moved (λ (q : ReaderView). is_counted_on k q.state) s.readers j r v at in let old = g.counts.counts k lt in
              let none : is_counted_on k r.state ≡ false = ap (is_counted_on k) idle in
              let nought : one_if (is_counted_on k r.state) ≡ 0 = ap one_if none in
              omega (arith, c, old, nought);
          views = length-set s.readers j v ∙ g.counts.views;
          few = g.counts.few;
        };
        readers = All-set (GoodReader w.sizes w.queue w.commits) s.readers j v new g.readers;
      }
    where
      off : Idle ≡ Spent → ⊥
      off e = cc

  -- raise: the view is raised where the count was even, and else on its way back
  pub raise_keeps : (s : State) (j : ℕ) (r : ReaderView) (generation h : ℕ) → Good reaches lawful s → slice_get s.readers j ≡ Some r → r.state ≡ Aimed generation h → Good reaches lawful (after_raise s j r h)
  raise_keeps s j r generation h g at aimed =
      let w : WriterView = s.writer in
      let old = all_at (GoodReader w.sizes w.queue w.commits) s.readers j r g.readers at in
      let aim : AimFits w.queue.newest r.least generation h = subst (GoodReaderState w.queue w.commits r) aimed old.state in
      let found : ℕ = slice_index s.words (hold_place h) in
      by_open old aim (is_open_hold w.queue h) refl
    where
      found : ℕ
      found = slice_index s.words (hold_place h)

      Fits : ReaderView → Type 0
      Fits = GoodReader s.writer.sizes s.writer.queue s.writer.commits

      off : Aimed generation h ≡ Spent → ⊥
      off e = cc

      step : (t : ReaderState) → found_state (slice_index s.words (hold_place h)) h ≡ t → ((k : ℕ) → is_counted_on k t ≡ nat_eq h k) → h < 16
          → GoodReader s.writer.sizes s.writer.queue s.writer.commits (record r { state = t; misses = found_misses (slice_index s.words (hold_place h)) r.misses }) → Good reaches lawful (after_raise s j r h)
      step t is on low new =
          subst (λ (x : ReaderState). Good reaches lawful (after_count s h (slice_index s.words (hold_place h) + 2) j (record r { state = x; misses = found_misses (slice_index s.words (hold_place h)) r.misses }))) (sym is)
          (count_event s h (slice_index s.words (hold_place h) + 2) j r (record r { state = t; misses = found_misses (slice_index s.words (hold_place h)) r.misses }) g at low
          (let a : one_if (is_counted_on h r.state) ≡ 0 = ap (λ x. one_if (is_counted_on h x)) aimed in
          let b : one_if (is_counted_on h t) ≡ 1 = ap one_if (on h ∙ eq-eqb h h refl) in omega (arith, a, b))
          (λ k other. ap (is_counted_on k) aimed ∙ sym (on k ∙ ne_eqb h k (λ e. other (sym e)))) new)

      by_open : GoodReader s.writer.sizes s.writer.queue s.writer.commits r → AimFits s.writer.queue.newest r.least generation h
          → (t : Bool) → is_open_hold s.writer.queue h ≡ t → Good reaches lawful (after_raise s j r h)
      by_open old aim true open_here =
          let low = aim.hold in
          let word : slice_index s.words (hold_place h) ≡ 2 * count_by (λ q. is_counted_on h q.state) s.readers = g.counts.counts h low ∙ ap (hold_word _) open_here ∙ (omega arith) in
          let even : slice_index s.words (hold_place h) % 2 ≡ 0 = omega (arith, word) in
          let is : found_state (slice_index s.words (hold_place h)) h ≡ Raised h = ap (λ t. cond t (Raised h) (Bounced h)) (eq-eqb _ 0 even) in
          step (Raised h) is (λ k. refl) low (record { same_sizes = λ e. old.same_sizes (λ x. off (sym aimed ∙ x)); seen = old.seen; saw = old.saw; least = old.least; state = record { hold = low; opened = open_here } })
      by_open old aim false open_here =
          let low = aim.hold in
          let word : slice_index s.words (hold_place h) ≡ 2 * count_by (λ q. is_counted_on h q.state) s.readers + 1 = g.counts.counts h low ∙ ap (hold_word _) open_here in
          let odd : slice_index s.words (hold_place h) % 2 ≢ 0 = λ e. omega (arith, word, e) in
          let is : found_state (slice_index s.words (hold_place h)) h ≡ Bounced h = ap (λ t. cond t (Raised h) (Bounced h)) (ne_eqb _ 0 odd) in
          let missed : r.least < s.writer.queue.newest.generation = dite (ℕ_discrete generation s.writer.queue.newest.generation)
          (λ same. absurd (true≢false (sym (newest-open s.writer.queue) ∙ ap (is_open_hold s.writer.queue) (sym (aim.current same)) ∙ open_here)))
          (λ other. let a = aim.aim in let le = old.least in omega (arith, le, a, other)) in
          step (Bounced h) is (λ k. refl) low (record { same_sizes = λ e. old.same_sizes (λ x. off (sym aimed ∙ x)); seen = old.seen; saw = old.saw; least = old.least; state = record { hold = low; missed = missed } })

  -- lower: a bounce back and a release
  lower : (s : State) (j : ℕ) (r v : ReaderView) (h : ℕ) → Good reaches lawful s → slice_get s.readers j ≡ Some r → h < 16
      → ((k : ℕ) → is_counted_on k r.state ≡ nat_eq h k) → ((k : ℕ) → is_counted_on k v.state ≡ false)
      → GoodReader s.writer.sizes s.writer.queue s.writer.commits v
      → Good reaches lawful (after_count s h (slice_index s.words (hold_place h) - 2) j v)
  lower s j r v h g at low on idle new =
      let here : is_counted_on h r.state ≡ true = on h ∙ eq-eqb h h refl in
      let some = count_some (λ (q : ReaderView). is_counted_on h q.state) s.readers j r at here in
      let word = g.counts.counts h low in
      count_event s h (slice_index s.words (hold_place h) - 2) j r v g at low
      (let a : one_if (is_counted_on h r.state) ≡ 1 = ap one_if here in let b : one_if (is_counted_on h v.state) ≡ 0 = ap one_if (idle h) in omega (arith, a, b, some, word))
      (λ k other. on k ∙ ne_eqb h k (λ e. other (sym e)) ∙ sym (idle k)) new

  pub bounce_keeps : (s : State) (j : ℕ) (r : ReaderView) (h : ℕ) → Good reaches lawful s → slice_get s.readers j ≡ Some r → r.state ≡ Bounced h → Good reaches lawful (after_bounce s j r h)
  bounce_keeps s j r h g at is =
      let w : WriterView = s.writer in
      let old = all_at (GoodReader w.sizes w.queue w.commits) s.readers j r g.readers at in
      let b : BounceFits w.queue.newest r.least h = subst (GoodReaderState w.queue w.commits r) is old.state in
      lower s j r (bounced r) h g at b.hold (λ k. ap (is_counted_on k) is) (λ k. refl)
      (record { same_sizes = λ e. old.same_sizes (λ x. off (sym is ∙ x)); seen = old.seen; saw = old.saw; least = (let m = b.missed in omega arith); state = tt })
    where
      off : Bounced h ≡ Spent → ⊥
      off e = cc

  pub release_keeps : (s : State) (j : ℕ) (r : ReaderView) (h c : ℕ) → Good reaches lawful s → slice_get s.readers j ≡ Some r → r.state ≡ Guarded h c → Good reaches lawful (after_release s j r h)
  release_keeps s j r h c g at is =
      let w : WriterView = s.writer in
      let old = all_at (GoodReader w.sizes w.queue w.commits) s.readers j r g.readers at in
      let b : GuardFits w.queue w.commits r.saw h c = subst (GoodReaderState w.queue w.commits r) is old.state in
      lower s j r (released r) h g at b.raised.hold (λ k. ap (is_counted_on k) is) (λ k. refl)
      (record { same_sizes = λ e. old.same_sizes (λ x. off (sym is ∙ x)); seen = old.seen; saw = old.saw; least = old.least; state = tt })
    where
      off : Guarded h c ≡ Spent → ⊥
      off e = cc
