-- The writer's events on holds keep the invariant.
use Rattle.std.proofs.Common.{◌≡◌, ℕ, ◌+◌, ◌-◌, ◌*◌, ◌<◌, ◌≤◌, List, [], ◌∷◌, ◌++◌, drop, set, Some, true, false, refl, sym, ap, ◌∙◌, subst, arith, length-append, slice_index, eq-eqb, ne_eqb, true≢false}
use mathlib.Core.Logic.{dite}
use native.Mathlib.Decide.{ℕ_discrete}
use Rattle.std.proofs.Math.Seq.{get_or-set_other, get_or-set_same}
use Rattle.std.specs.Prelude.{slice_get, count_by, nat_eq, ◌||◌}
use Rattle.std.specs.List.{list_any}
use Rattle.std.proofs.lemmas.List.Elements.{All-push, All-weaker}
use Rattle.std.proofs.lemmas.List.Quantifiers.{all_pairs_push}
use Rattle.entry_ref.specs.declared.images.Image.{Image}
use Rattle.entry_ref.specs.Records.{Records}
use Rattle.entry_ref.specs.Places.{state_place}
use Rattle.gen_core.specs.declared.views.OpenHold.{OpenHold}
use Rattle.gen_core.specs.declared.views.Pending.{Pending}
use Rattle.gen_core.specs.declared.views.Pending.TheVariants.{Nothing, Next, Probed}
use Rattle.gen_core.specs.declared.views.Buffer.{Buffer}
use Rattle.gen_core.specs.declared.views.ReaderState.{ReaderState}
use Rattle.gen_core.specs.declared.views.ReaderState.TheVariants.{Idle, Aimed, Raised, Bounced, Guarded, Spent}
use Rattle.gen_core.specs.declared.views.ReaderView.{ReaderView}
use Rattle.gen_core.specs.Views.{open_holds, oldest_of, newest_word, hold_place, is_open_hold, coming, is_counted_on, queue_of, oldest_in}
use Rattle.gen_core.specs.Good.{State, IsBefore, HoldFits, NextFits, GoodTags, GoodMemory, GoodPlaces, hold_word, RaiseFits, GoodReaderState, GoodReader, Good}
use Rattle.gen_core.specs.Conditions.{MayReopen, MayProbe}
use Rattle.gen_core.specs.Events.{after_reopen, coming_hold, after_store_newest, after_probe, count_at, after_stop}
use Rattle.gen_core.proofs.Lists.{all_at, all_from}
use Rattle.gen_core.proofs.Lists.{count_none}
use Rattle.gen_core.proofs.Frames.{names-hold, memory-low, sizes-set}
use Rattle.gen_core.proofs.Holds.{at_newest, oldest-push, newest-most, any-none, or-false, or-left, any-push}
use Rattle.gen_core.specs.declared.views.Queue.{Queue}
use Rattle.gen_core.proofs.StoredWords.{p}

-- what is said of tags does not read what is pending
tags-pending : {bits : ℕ} {queue : Queue} {commits : List Image} {buffers : List Buffer} → GoodTags bits queue commits buffers
    → (p : Pending) → GoodTags bits (queue_of queue.older queue.newest p) commits buffers
tags-pending g p = record {
  free = g.free;
  held = λ b width tag at. let t = g.held b width tag at in record { generation = t.generation; commit = t.commit; first_commits = t.first_commits; unused = t.unused };
}

module _ (reaches : ℕ → Records → ℕ → List ℕ) (lawful : ℕ → Records → ℕ → Type 0) where
  -- the count of a hold that is not in the queue is odd
  pub closed-word : (s : State) (h : ℕ) → Good reaches lawful s → MayReopen s.writer h → slice_index s.words (hold_place h) ≡ 2 * count_by (λ q. is_counted_on h q.state) s.readers + 1
  closed-word s h g may = g.counts.counts h may.hold
      ∙ ap (hold_word _) (ap (λ p. is_open_hold (queue_of s.writer.queue.older s.writer.queue.newest p) h) may.calm ∙ or-false _ ∙ any-none (open_holds s.writer.queue) h may.others)

  pub reopen_keeps : (s : State) (h : ℕ) → Good reaches lawful s → MayReopen s.writer h → Good reaches lawful (after_reopen s h)
  reopen_keeps s h g may = record {
    sizes = sizes-set g.sizes (hold_place h) _;
    queue = record {
      few = g.queue.few;
      rising = g.queue.rising;
      each = g.queue.each;
      next = λ k e. let same : h ≡ k = cc in subst (NextFits (queue_of s.writer.queue.older s.writer.queue.newest (Next h))) same (record { hold = may.hold; others = may.others; room = may.room });
      generation = may.left;
      commit = g.queue.commit;
    };
    tags = tags-pending g.tags _;
    commits = g.commits;
    places = g.places;
    names = names-hold g.names (hold_place h) _ (omega arith) (let l = may.hold in omega arith);
    memory = memory-low reaches lawful s g (hold_place h) _ (let l = may.hold in omega arith);
    counts = record { counts = counts; views = g.counts.views; few = g.counts.few };
    readers = All-weaker (GoodReader s.writer.sizes s.writer.queue s.writer.commits) (GoodReader s.writer.sizes (queue_of s.writer.queue.older s.writer.queue.newest (Next h)) s.writer.commits) reader s.readers g.readers;
  }
    where
      was : (k : ℕ) → is_open_hold s.writer.queue k ≡ list_any (λ e. nat_eq e.hold k) (open_holds s.writer.queue)
      was k = ap (λ p. is_open_hold (queue_of s.writer.queue.older s.writer.queue.newest p) k) may.calm ∙ or-false _

      closed : list_any (λ e. nat_eq e.hold h) (open_holds s.writer.queue) ≡ false
      closed = any-none (open_holds s.writer.queue) h may.others

      counts : (k : ℕ) → k < 16 → slice_index (set s.words (hold_place h) (slice_index s.words (hold_place h) - 1)) (hold_place k)
          ≡ hold_word (count_by (λ q. is_counted_on k q.state) s.readers) (is_open_hold (queue_of s.writer.queue.older s.writer.queue.newest (Next h)) k)
      counts k lt = dite (ℕ_discrete k h)
          (λ same.
          let old : slice_index s.words (hold_place k) ≡ 2 * count_by (λ q. is_counted_on k q.state) s.readers + 1 =
          g.counts.counts k lt ∙ ap (hold_word _) (was k ∙ ap (λ i. list_any (λ e. nat_eq e.hold i) (open_holds s.writer.queue)) same ∙ closed) in
          let here : slice_index (set s.words (hold_place h) (slice_index s.words (hold_place h) - 1)) (hold_place k) ≡ slice_index s.words (hold_place k) - 1 =
          ap (λ i. slice_index (set s.words (hold_place h) (slice_index s.words (hold_place h) - 1)) (hold_place i)) same
          ∙ get_or-set_same s.words (hold_place h) _ 0 (let l = may.hold in omega (arith, l, g.sizes.table)) ∙ ap (λ i. slice_index s.words (hold_place i) - 1) (sym same) in
          let new : is_open_hold (queue_of s.writer.queue.older s.writer.queue.newest (Next h)) k ≡ true =
          ap (λ i. list_any (λ e. nat_eq e.hold i) (open_holds s.writer.queue) || nat_eq h i) same ∙ ap (λ t. t || nat_eq h h) closed ∙ eq-eqb h h refl in
          let word : slice_index (set s.words (hold_place h) (slice_index s.words (hold_place h) - 1)) (hold_place k) ≡ 2 * count_by (λ q. is_counted_on k q.state) s.readers + 0 = omega (arith, old, here) in
          word ∙ sym (ap (hold_word _) new))
          (λ other.
          let new : is_open_hold s.writer.queue k ≡ is_open_hold (queue_of s.writer.queue.older s.writer.queue.newest (Next h)) k =
          was k ∙ sym (ap (λ t. list_any (λ e. nat_eq e.hold k) (open_holds s.writer.queue) || t) (ne_eqb h k (λ e. other (sym e))) ∙ or-false _) in
          get_or-set_other s.words (hold_place h) (hold_place k) _ 0 (λ e. other (omega arith)) ∙ g.counts.counts k lt ∙ ap (hold_word _) new)

      raised : (k : ℕ) → RaiseFits s.writer.queue k → RaiseFits (queue_of s.writer.queue.older s.writer.queue.newest (Next h)) k
      raised k x = record { hold = x.hold; opened = or-left _ (nat_eq h k) (sym (was k) ∙ x.opened) }

      states : (r : ReaderView) (t : ReaderState) → GoodReaderState s.writer.queue s.writer.commits r t → GoodReaderState (queue_of s.writer.queue.older s.writer.queue.newest (Next h)) s.writer.commits r t
      states r Idle x = x
      states r (Aimed generation k) x = x
      states r (Raised k) x = raised k x
      states r (Bounced k) x = x
      states r (Guarded k c) x = record {
        raised = raised k x.raised;
        commit = x.commit;
        first_commit = x.first_commit;
        next = λ e. absurd (let same : h ≡ k = cc in true≢false (sym (sym (was k) ∙ x.raised.opened) ∙ ap (λ i. list_any (λ y. nat_eq y.hold i) (open_holds s.writer.queue)) (sym same) ∙ closed));
        probed = λ e same. absurd (cc);
        image = x.image;
        seen = x.seen;
      }
      states r Spent x = x

      reader : (r : ReaderView) → GoodReader s.writer.sizes s.writer.queue s.writer.commits r → GoodReader s.writer.sizes (queue_of s.writer.queue.older s.writer.queue.newest (Next h)) s.writer.commits r
      reader r x = record { same_sizes = x.same_sizes; seen = x.seen; saw = x.saw; least = x.least; state = states r r.state x.state }

  pub store_newest_keeps : (s : State) (h : ℕ) → Good reaches lawful s → s.writer.queue.pending ≡ Next h → Good reaches lawful (after_store_newest s h)
  store_newest_keeps s h g next = record {
    sizes = sizes-set g.sizes 1 _;
    queue = record {
      few = let room = come.room in omega (arith, room, length-append s.writer.queue.older (s.writer.queue.newest ∷ []));
      rising = all_pairs_push IsBefore (open_holds s.writer.queue) (coming_hold s.writer h) g.queue.rising
          (λ k d lt. record {
            generation = (let le = newest-most s.writer.queue.older s.writer.queue.newest g.queue.rising k d lt in omega arith);
            hold = come.others k d lt;
            first_commit = (g.queue.each k d lt).first_commit;
          });
      each = All-push (HoldFits s.writer.commits) (open_holds s.writer.queue) (coming_hold s.writer h) g.queue.each (record { hold = come.hold; first_commit = omega arith });
      next = λ k e. absurd (cc);
      generation = limit;
      commit = g.queue.commit;
    };
    tags = record {
      free = λ b last at. subst (λ (e : OpenHold). last.generation < e.generation) (sym oldest) (g.tags.free b last at);
      held = λ b width tag at.
          let t = g.tags.held b width tag at in
          record {
            generation = (let le = t.generation in omega arith);
            commit = t.commit;
            first_commits = All-push (λ e. tag.generation < e.generation → tag.commit ≤ e.first_commit) (open_holds s.writer.queue) (coming_hold s.writer h) t.first_commits (λ lt. t.commit);
            unused = t.unused;
          };
    };
    commits = g.commits;
    places = subst (λ (e : OpenHold). GoodPlaces s.writer.sizes s.writer.buffers (drop e.first_commit s.writer.commits) s.writer.work) (sym oldest) g.places;
    names = record {
      root = get_or-set_other s.words 1 0 _ 0 (λ e. omega arith) ∙ g.names.root;
      newest_hold = get_or-set_same s.words 1 _ 0 (omega (arith, g.sizes.table));
      states = λ b x at. get_or-set_other s.words 1 (state_place b) _ 0 (λ e. omega arith) ∙ g.names.states b x at;
    };
    memory = subst (λ (e : OpenHold). GoodMemory s.writer.sizes (set s.words 1 (newest_word (coming_hold s.writer h))) s.writer.buffers (drop e.first_commit s.writer.commits) s.writer.work) (sym oldest)
        (memory-low reaches lawful s g 1 (newest_word (coming_hold s.writer h)) (omega arith));
    counts = record {
      counts = λ k lt. get_or-set_other s.words 1 (hold_place k) _ 0 (λ e. omega arith) ∙ g.counts.counts k lt ∙ ap (hold_word _) (opened k);
      views = g.counts.views;
      few = g.counts.few;
    };
    readers = All-weaker (GoodReader s.writer.sizes s.writer.queue s.writer.commits)
        (GoodReader s.writer.sizes (queue_of (s.writer.queue.older ++ s.writer.queue.newest ∷ []) (coming_hold s.writer h) Nothing) s.writer.commits) reader s.readers g.readers;
  }
    where
      come : NextFits s.writer.queue h
      come = g.queue.next h next

      limit : s.writer.queue.newest.generation + 1 ≤ s.writer.sizes.generation_limit
      limit = subst (λ p. coming (queue_of s.writer.queue.older s.writer.queue.newest p) ≤ s.writer.sizes.generation_limit) next g.queue.generation

      oldest : oldest_in (s.writer.queue.older ++ s.writer.queue.newest ∷ []) (coming_hold s.writer h) ≡ oldest_of s.writer.queue
      oldest = oldest-push s.writer.queue.older s.writer.queue.newest (coming_hold s.writer h)

      opened : (k : ℕ) → is_open_hold s.writer.queue k ≡ is_open_hold (queue_of (s.writer.queue.older ++ s.writer.queue.newest ∷ []) (coming_hold s.writer h) Nothing) k
      opened k = ap (λ p. is_open_hold (queue_of s.writer.queue.older s.writer.queue.newest p) k) next ∙ sym (or-false _ ∙ any-push (open_holds s.writer.queue) (coming_hold s.writer h) k)

      raised : (k : ℕ) → RaiseFits s.writer.queue k → RaiseFits (queue_of (s.writer.queue.older ++ s.writer.queue.newest ∷ []) (coming_hold s.writer h) Nothing) k
      raised k x = record { hold = x.hold; opened = sym (opened k) ∙ x.opened }

      states : (r : ReaderView) (t : ReaderState) → r.least ≤ s.writer.queue.newest.generation → GoodReaderState s.writer.queue s.writer.commits r t
          → GoodReaderState (queue_of (s.writer.queue.older ++ s.writer.queue.newest ∷ []) (coming_hold s.writer h) Nothing) s.writer.commits r t
      states r Idle le x = x
      states r (Aimed generation k) le x = record { hold = x.hold; aim = x.aim; current = λ e. absurd (let a = x.aim in omega arith) }
      states r (Raised k) le x = raised k x
      states r (Bounced k) le x = record { hold = x.hold; missed = (let m = x.missed in omega arith) }
      states r (Guarded k c) le x = record {
        raised = raised k x.raised;
        commit = x.commit;
        first_commit = All-push (λ e. e.hold ≡ k → e.first_commit ≤ c) (open_holds s.writer.queue) (coming_hold s.writer h) x.first_commit (λ same. let is = x.next (next ∙ ap Next same) in omega arith);
        next = λ e. absurd (cc);
        probed = λ e same. absurd (cc);
        image = x.image;
        seen = x.seen;
      }
      states r Spent le x = x

      reader : (r : ReaderView) → GoodReader s.writer.sizes s.writer.queue s.writer.commits r
          → GoodReader s.writer.sizes (queue_of (s.writer.queue.older ++ s.writer.queue.newest ∷ []) (coming_hold s.writer h) Nothing) s.writer.commits r
      reader r x = record { same_sizes = x.same_sizes; seen = x.seen; saw = x.saw; least = (let le = x.least in omega arith); state = states r r.state x.least x.state }

  pub probe_keeps : (s : State) → Good reaches lawful s → MayProbe s.writer → count_at s s.writer.queue.newest.hold ≡ 0 → Good reaches lawful (after_probe s)
  probe_keeps s g may unused = record {
    sizes = g.sizes;
    queue = record { few = g.queue.few; rising = g.queue.rising; each = g.queue.each; next = λ k e. absurd (cc); generation = may.left; commit = g.queue.commit };
    tags = tags-pending g.tags _;
    commits = g.commits;
    places = g.places;
    names = g.names;
    memory = g.memory;
    counts = record { counts = λ k lt. g.counts.counts k lt ∙ ap (hold_word _) (opened k); views = g.counts.views; few = g.counts.few };
    readers = all_from (GoodReader s.writer.sizes (queue_of s.writer.queue.older s.writer.queue.newest Probed) s.writer.commits) s.readers
        (λ j r at. reader j r at (all_at (GoodReader s.writer.sizes s.writer.queue s.writer.commits) s.readers j r g.readers at));
  }
    where
      opened : (k : ℕ) → is_open_hold s.writer.queue k ≡ is_open_hold (queue_of s.writer.queue.older s.writer.queue.newest Probed) k
      opened k = ap (λ p. is_open_hold (queue_of s.writer.queue.older s.writer.queue.newest p) k) may.calm

      -- no view is raised on the newest hold
      none : (j : ℕ) (r : ReaderView) → slice_get s.readers j ≡ Some r → is_counted_on s.writer.queue.newest.hold r.state ≡ false
      none j r at =
          let word = g.counts.counts s.writer.queue.newest.hold (at_newest (HoldFits s.writer.commits) s.writer.queue.older s.writer.queue.newest g.queue.each).hold in
          let zero : count_by (λ (q : ReaderView). is_counted_on s.writer.queue.newest.hold q.state) s.readers ≡ 0 = omega (arith, word, unused) in
          count_none (λ (q : ReaderView). is_counted_on s.writer.queue.newest.hold q.state) s.readers j r at zero

      raised : (k : ℕ) → RaiseFits s.writer.queue k → RaiseFits (queue_of s.writer.queue.older s.writer.queue.newest Probed) k
      raised k x = record { hold = x.hold; opened = sym (opened k) ∙ x.opened }

      states : (r : ReaderView) (t : ReaderState) → is_counted_on s.writer.queue.newest.hold t ≡ false → GoodReaderState s.writer.queue s.writer.commits r t
          → GoodReaderState (queue_of s.writer.queue.older s.writer.queue.newest Probed) s.writer.commits r t
      states r Idle off x = x
      states r (Aimed generation k) off x = x
      states r (Raised k) off x = raised k x
      states r (Bounced k) off x = x
      states r (Guarded k c) off x = record {
        raised = raised k x.raised;
        commit = x.commit;
        first_commit = x.first_commit;
        next = λ e. absurd (cc);
        probed = λ e same. absurd (true≢false (sym (eq-eqb k s.writer.queue.newest.hold (sym same)) ∙ off));
        image = x.image;
        seen = x.seen;
      }
      states r Spent off x = x

      reader : (j : ℕ) (r : ReaderView) → slice_get s.readers j ≡ Some r → GoodReader s.writer.sizes s.writer.queue s.writer.commits r
          → GoodReader s.writer.sizes (queue_of s.writer.queue.older s.writer.queue.newest Probed) s.writer.commits r
      reader j r at x = record { same_sizes = x.same_sizes; seen = x.seen; saw = x.saw; least = x.least; state = states r r.state (none j r at) x.state }

  -- that a hold was found in use is read by nothing
  pub stop_keeps : (s : State) (found : ℕ) → Good reaches lawful s → Good reaches lawful (after_stop s found)
  stop_keeps s found g = record { sizes = g.sizes; queue = g.queue; tags = g.tags; commits = g.commits; places = g.places; names = g.names; memory = g.memory; counts = g.counts; readers = g.readers }
