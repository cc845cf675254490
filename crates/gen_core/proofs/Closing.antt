-- The oldest hold is closed, or the newest becomes that of the next generation.
use Rattle.std.proofs.Common.{◌≡◌, ◌≢◌, ℕ, suc, ◌+◌, ◌<◌, ◌≤◌, List, [], ◌∷◌, ◌++◌, length, drop, get_or, set, Some, false, sym, ap, ◌∙◌, subst, arith, length-append, slice_index, eq-eqb, ne_eqb, true≢false}
use mathlib.Core.Logic.{dite}
use native.Mathlib.Decide.{ℕ_discrete}
use Rattle.std.proofs.Math.Seq.{get_or-set_other, get_or-set_same}
use Rattle.std.specs.Prelude.{slice_get, All, AllPairs, count_by, nat_eq, ◌||◌}
use Rattle.std.specs.List.{list_any}
use Rattle.std.proofs.lemmas.List.{get_or_append_left, get_or-append-add}
use Rattle.std.proofs.lemmas.List.Elements.{All-push, All-weaker}
use Rattle.std.proofs.lemmas.List.Quantifiers.{all_pairs_push}
use Rattle.entry_ref.specs.declared.images.Image.{Image}
use Rattle.entry_ref.specs.Records.{Records}
use Rattle.entry_ref.specs.Places.{state_place}
use Rattle.gen_core.specs.declared.views.Sizes.{Sizes}
use Rattle.gen_core.specs.declared.views.OpenHold.{OpenHold}
use Rattle.gen_core.specs.declared.views.Pending.TheVariants.{Nothing, Probed}
use Rattle.gen_core.specs.declared.views.Buffer.{Buffer}
use Rattle.gen_core.specs.declared.views.ReaderState.{ReaderState}
use Rattle.gen_core.specs.declared.views.ReaderState.TheVariants.{Idle, Aimed, Raised, Bounced, Guarded, Spent}
use Rattle.gen_core.specs.declared.views.ReaderView.{ReaderView}
use Rattle.gen_core.specs.Views.{open_holds, oldest_of, newest_word, hold_place, is_open_hold, is_next, coming, is_counted_on, queue_of, oldest_in}
use Rattle.gen_core.specs.Good.{State, IsBefore, HoldFits, GoodPlaces, GoodMemory, IsPlaced, WordsStand, Avoids, hold_word, RaiseFits, GoodReaderState, GoodReader, Good}
use Rattle.gen_core.specs.Conditions.{MayClose}
use Rattle.gen_core.specs.Events.{coming_hold, after_close, after_morph, count_at}
use Rattle.gen_core.proofs.Lists.{all_at, all_from, all_drop-more, all-prefix, count_none}
use Rattle.gen_core.proofs.Frames.{names-hold, memory-low, sizes-set}
use Rattle.gen_core.proofs.Holds.{at_newest, at_oldest, any-none, or-false, any-push}

-- where fewer commits are kept, less is said of them
places-less : (sizes : Sizes) (buffers : List Buffer) (work : List (ℕ × ℕ)) (commits : List Image) (m n : ℕ) → m ≤ n → GoodPlaces sizes buffers (drop m commits) work → GoodPlaces sizes buffers (drop n commits) work
places-less sizes buffers work commits m n le f = record {
  records = all_drop-more (λ image. All (IsPlaced sizes buffers) image.records) m n commits le f.records;
  stored = λ p w at. let h = f.stored p w at in record { active = h.active; apart = all_drop-more (Avoids sizes p) m n commits le h.apart };
}

memory-less : (sizes : Sizes) (words : List ℕ) (buffers : List Buffer) (work : List (ℕ × ℕ)) (commits : List Image) (m n : ℕ) → m ≤ n → GoodMemory sizes words buffers (drop m commits) work
    → GoodMemory sizes words buffers (drop n commits) work
memory-less sizes words buffers work commits m n le f = record { records = all_drop-more (λ image. All (WordsStand sizes words) image.records) m n commits le f.records; stored = f.stored; widths = f.widths }

module _ (reaches : ℕ → Records → ℕ → List ℕ) (lawful : ℕ → Records → ℕ → Type 0) where
  close_from : (s : State) (e : OpenHold) (es : List OpenHold) → Good reaches lawful
      (record { words = s.words; writer = record s.writer { queue = queue_of (e ∷ es) s.writer.queue.newest s.writer.queue.pending }; readers = s.readers })
      → s.writer.queue.pending ≡ Nothing → slice_index s.words (hold_place e.hold) ≡ 0 → Good reaches lawful (after_close s e es)
  close_from s e es g calm unused = record {
    sizes = sizes-set g.sizes (hold_place e.hold) _;
    queue = record {
      few = (let few = g.queue.few in omega arith);
      rising = λ i j d less more. g.queue.rising (suc i) (suc j) d (omega arith) (omega arith);
      each = λ k d lt. g.queue.each (suc k) d (omega arith);
      next = λ h p. absurd (let c = calm in cc);
      generation = g.queue.generation;
      commit = g.queue.commit;
    };
    tags = record {
      free = λ b last at. let low = g.tags.free b last at in let up = (at_oldest (λ x. IsBefore e x) es s.writer.queue.newest before).generation in omega arith;
      held = λ b width tag at. let t = g.tags.held b width tag at in record { generation = t.generation; commit = t.commit; first_commits = λ k d lt. t.first_commits (suc k) d (omega arith); unused = t.unused };
    };
    commits = g.commits;
    places = places-less s.writer.sizes s.writer.buffers s.writer.work s.writer.commits e.first_commit (oldest_in es s.writer.queue.newest).first_commit rises g.places;
    names = names-hold g.names (hold_place e.hold) 1 (omega arith) (omega (arith, low));
    memory = memory-less s.writer.sizes (set s.words (hold_place e.hold) 1) s.writer.buffers s.writer.work s.writer.commits e.first_commit (oldest_in es s.writer.queue.newest).first_commit rises
        (memory-low reaches lawful _ g (hold_place e.hold) 1 (omega (arith, low)));
    counts = record { counts = counts; views = g.counts.views; few = g.counts.few };
    readers = all_from (GoodReader s.writer.sizes (queue_of es s.writer.queue.newest s.writer.queue.pending) s.writer.commits) s.readers
        (λ j r at. reader j r at (all_at (GoodReader s.writer.sizes (queue_of (e ∷ es) s.writer.queue.newest s.writer.queue.pending) s.writer.commits) s.readers j r g.readers at));
  }
    where
      low : e.hold < 16
      low = (g.queue.each 0 e (omega arith)).hold

      before : All (λ x. IsBefore e x) (es ++ s.writer.queue.newest ∷ [])
      before k d lt = g.queue.rising 0 (suc k) d (omega arith) (omega arith)

      rises : e.first_commit ≤ (oldest_in es s.writer.queue.newest).first_commit
      rises = (at_oldest (λ x. IsBefore e x) es s.writer.queue.newest before).first_commit

      closed : is_open_hold (queue_of es s.writer.queue.newest s.writer.queue.pending) e.hold ≡ false
      closed = ap (λ p. is_open_hold (queue_of es s.writer.queue.newest p) e.hold) calm ∙ or-false _ ∙ any-none (es ++ s.writer.queue.newest ∷ []) e.hold (λ k d lt same. let ne = (before k d lt).hold in ne (sym same))

      opened : (k : ℕ) → k ≢ e.hold → is_open_hold (queue_of (e ∷ es) s.writer.queue.newest s.writer.queue.pending) k ≡ is_open_hold (queue_of es s.writer.queue.newest s.writer.queue.pending) k
      opened k other = ap (λ t. (t || list_any (λ x. nat_eq x.hold k) (es ++ s.writer.queue.newest ∷ [])) || is_next s.writer.queue.pending k) (ne_eqb e.hold k (λ same. other (sym same)))

      none : count_by (λ (q : ReaderView). is_counted_on e.hold q.state) s.readers ≡ 0
      none = let word = g.counts.counts e.hold low in omega (arith, word, unused)

      counts : (k : ℕ) → k < 16 → slice_index (set s.words (hold_place e.hold) 1) (hold_place k)
          ≡ hold_word (count_by (λ q. is_counted_on k q.state) s.readers) (is_open_hold (queue_of es s.writer.queue.newest s.writer.queue.pending) k)
      counts k lt = dite (ℕ_discrete k e.hold)
          (λ same.
          let here : slice_index (set s.words (hold_place e.hold) 1) (hold_place k) ≡ 1 =
          ap (λ i. slice_index (set s.words (hold_place e.hold) 1) (hold_place i)) same ∙ get_or-set_same s.words (hold_place e.hold) 1 0 (omega (arith, low, g.sizes.table)) in
          let zero : count_by (λ (q : ReaderView). is_counted_on k q.state) s.readers ≡ 0 = ap (λ i. count_by (λ (q : ReaderView). is_counted_on i q.state) s.readers) same ∙ none in
          here ∙ (λ i. hold_word (sym zero i) ((sym (ap (is_open_hold (queue_of es s.writer.queue.newest s.writer.queue.pending)) same ∙ closed)) i)))
          (λ other. get_or-set_other s.words (hold_place e.hold) (hold_place k) 1 0 (λ x. other (omega arith)) ∙ g.counts.counts k lt ∙ ap (hold_word _) (opened k other))

      raised : (k : ℕ) → nat_eq k e.hold ≡ false → RaiseFits (queue_of (e ∷ es) s.writer.queue.newest s.writer.queue.pending) k → RaiseFits (queue_of es s.writer.queue.newest s.writer.queue.pending) k
      raised k off x = record { hold = x.hold; opened = sym (opened k (λ same. true≢false (sym (eq-eqb k e.hold same) ∙ off))) ∙ x.opened }

      states : (r : ReaderView) (t : ReaderState) → is_counted_on e.hold t ≡ false → GoodReaderState (queue_of (e ∷ es) s.writer.queue.newest s.writer.queue.pending) s.writer.commits r t
          → GoodReaderState (queue_of es s.writer.queue.newest s.writer.queue.pending) s.writer.commits r t
      states r Idle off x = x
      states r (Aimed generation k) off x = x
      states r (Raised k) off x = raised k off x
      states r (Bounced k) off x = x
      states r (Guarded k c) off x = record {
        raised = raised k off x.raised;
        commit = x.commit;
        first_commit = λ i d lt. x.first_commit (suc i) d (omega arith);
        next = x.next;
        probed = x.probed;
        image = x.image;
        seen = x.seen;
      }
      states r Spent off x = x

      reader : (j : ℕ) (r : ReaderView) → slice_get s.readers j ≡ Some r → GoodReader s.writer.sizes (queue_of (e ∷ es) s.writer.queue.newest s.writer.queue.pending) s.writer.commits r
          → GoodReader s.writer.sizes (queue_of es s.writer.queue.newest s.writer.queue.pending) s.writer.commits r
      reader j r at x = record {
        same_sizes = x.same_sizes;
        seen = x.seen;
        saw = x.saw;
        least = x.least;
        state = states r r.state (count_none (λ (q : ReaderView). is_counted_on e.hold q.state) s.readers j r at none) x.state;
      }

  pub close_keeps : (s : State) (e : OpenHold) (es : List OpenHold) → Good reaches lawful s → MayClose s.writer e es → count_at s e.hold ≡ 0 → Good reaches lawful (after_close s e es)
  close_keeps s e es g may unused =
      close_from s e es (subst (λ l. Good reaches lawful (record { words = s.words; writer = record s.writer { queue = queue_of l s.writer.queue.newest s.writer.queue.pending }; readers = s.readers })) may.is g) may.calm
      unused

  pub morph_keeps : (s : State) → Good reaches lawful s → s.writer.queue.pending ≡ Probed → Good reaches lawful (after_morph s)
  morph_keeps s g probed = record {
    sizes = sizes-set g.sizes 1 _;
    queue = record {
      few = g.queue.few;
      rising = all_pairs_push IsBefore s.writer.queue.older (coming_hold s.writer s.writer.queue.newest.hold) prefix before;
      each = All-push (HoldFits s.writer.commits) s.writer.queue.older (coming_hold s.writer s.writer.queue.newest.hold)
          (all-prefix (HoldFits s.writer.commits) s.writer.queue.older (s.writer.queue.newest ∷ []) g.queue.each)
          (record { hold = (at_newest (HoldFits s.writer.commits) s.writer.queue.older s.writer.queue.newest g.queue.each).hold; first_commit = omega arith });
      next = λ k e. absurd (cc);
      generation = limit;
      commit = g.queue.commit;
    };
    tags = record {
      free = λ b last at. oldest-up s.writer.queue.older (coming_hold s.writer s.writer.queue.newest.hold) (omega arith) last.generation (g.tags.free b last at);
      held = λ b width tag at.
          let t = g.tags.held b width tag at in
          record {
            generation = (let le = t.generation in omega arith);
            commit = t.commit;
            first_commits = All-push (λ e. tag.generation < e.generation → tag.commit ≤ e.first_commit) s.writer.queue.older (coming_hold s.writer s.writer.queue.newest.hold)
                (all-prefix (λ e. tag.generation < e.generation → tag.commit ≤ e.first_commit) s.writer.queue.older (s.writer.queue.newest ∷ []) t.first_commits) (λ lt. t.commit);
            unused = t.unused;
          };
    };
    commits = g.commits;
    places = places-less s.writer.sizes s.writer.buffers s.writer.work s.writer.commits _ _ rises g.places;
    names = record {
      root = get_or-set_other s.words 1 0 _ 0 (λ e. omega arith) ∙ g.names.root;
      newest_hold = get_or-set_same s.words 1 _ 0 (omega (arith, g.sizes.table));
      states = λ b x at. get_or-set_other s.words 1 (state_place b) _ 0 (λ e. omega arith) ∙ g.names.states b x at;
    };
    memory = memory-less s.writer.sizes (set s.words 1 (newest_word (coming_hold s.writer s.writer.queue.newest.hold))) s.writer.buffers s.writer.work s.writer.commits _ _ rises
        (memory-low reaches lawful s g 1 (newest_word (coming_hold s.writer s.writer.queue.newest.hold)) (omega arith));
    counts = record {
      counts = λ k lt. get_or-set_other s.words 1 (hold_place k) _ 0 (λ e. omega arith) ∙ g.counts.counts k lt ∙ ap (hold_word _) (opened k);
      views = g.counts.views;
      few = g.counts.few;
    };
    readers = All-weaker (GoodReader s.writer.sizes s.writer.queue s.writer.commits)
        (GoodReader s.writer.sizes (queue_of s.writer.queue.older (coming_hold s.writer s.writer.queue.newest.hold) Nothing) s.writer.commits) reader s.readers g.readers;
  }
    where
      limit : s.writer.queue.newest.generation + 1 ≤ s.writer.sizes.generation_limit
      limit = subst (λ p. coming (queue_of s.writer.queue.older s.writer.queue.newest p) ≤ s.writer.sizes.generation_limit) probed g.queue.generation

      oldest-up : (older : List OpenHold) (e : OpenHold) → s.writer.queue.newest.generation < e.generation → (n : ℕ) → n < (oldest_in older s.writer.queue.newest).generation → n < (oldest_in older e).generation
      oldest-up [] e up n lt = omega arith
      oldest-up (x ∷ xs) e up n lt = lt

      first_commits-up : (older : List OpenHold) (e : OpenHold) → s.writer.queue.newest.first_commit ≤ e.first_commit → (oldest_in older s.writer.queue.newest).first_commit ≤ (oldest_in older e).first_commit
      first_commits-up [] e up = up
      first_commits-up (x ∷ xs) e up = omega arith

      rises : (oldest_of s.writer.queue).first_commit ≤ (oldest_in s.writer.queue.older (coming_hold s.writer s.writer.queue.newest.hold)).first_commit
      rises = first_commits-up s.writer.queue.older (coming_hold s.writer s.writer.queue.newest.hold) (at_newest (HoldFits s.writer.commits) s.writer.queue.older s.writer.queue.newest g.queue.each).first_commit

      long : length (open_holds s.writer.queue) ≡ length s.writer.queue.older + 1
      long = length-append s.writer.queue.older (s.writer.queue.newest ∷ [])

      prefix : AllPairs IsBefore s.writer.queue.older
      prefix i j d less more =
          subst (λ x. IsBefore x (get_or s.writer.queue.older j d)) (get_or_append_left s.writer.queue.older (s.writer.queue.newest ∷ []) d i (omega arith))
          (subst (λ x. IsBefore (get_or (open_holds s.writer.queue) i d) x) (get_or_append_left s.writer.queue.older (s.writer.queue.newest ∷ []) d j more)
          (g.queue.rising i j d less (omega (arith, more, long))))

      before : (k : ℕ) (d : OpenHold) → k < length s.writer.queue.older → IsBefore (get_or s.writer.queue.older k d) (coming_hold s.writer s.writer.queue.newest.hold)
      before k d lt =
          let at : length s.writer.queue.older + 0 ≡ length s.writer.queue.older = omega arith in
          let last : get_or (open_holds s.writer.queue) (length s.writer.queue.older) d ≡ s.writer.queue.newest =
          ap (λ i. get_or (open_holds s.writer.queue) i d) (sym at) ∙ get_or-append-add s.writer.queue.older (s.writer.queue.newest ∷ []) 0 d in
          let old : IsBefore (get_or s.writer.queue.older k d) s.writer.queue.newest =
          subst (λ x. IsBefore x s.writer.queue.newest) (get_or_append_left s.writer.queue.older (s.writer.queue.newest ∷ []) d k lt)
          (subst (λ x. IsBefore (get_or (open_holds s.writer.queue) k d) x) last (g.queue.rising k (length s.writer.queue.older) d lt (omega (arith, long)))) in
          record {
            generation = (let h = old.generation in omega arith);
            hold = old.hold;
            first_commit = (all-prefix (HoldFits s.writer.commits) s.writer.queue.older (s.writer.queue.newest ∷ []) g.queue.each k d lt).first_commit;
          }

      opened : (k : ℕ) → is_open_hold s.writer.queue k ≡ is_open_hold (queue_of s.writer.queue.older (coming_hold s.writer s.writer.queue.newest.hold) Nothing) k
      opened k = ap (λ p. is_open_hold (queue_of s.writer.queue.older s.writer.queue.newest p) k) probed
          ∙ ap (λ t. t || false) (any-push s.writer.queue.older s.writer.queue.newest k ∙ sym (any-push s.writer.queue.older (coming_hold s.writer s.writer.queue.newest.hold) k))

      raised : (k : ℕ) → RaiseFits s.writer.queue k → RaiseFits (queue_of s.writer.queue.older (coming_hold s.writer s.writer.queue.newest.hold) Nothing) k
      raised k x = record { hold = x.hold; opened = sym (opened k) ∙ x.opened }

      states : (r : ReaderView) (t : ReaderState) → r.least ≤ s.writer.queue.newest.generation → GoodReaderState s.writer.queue s.writer.commits r t
          → GoodReaderState (queue_of s.writer.queue.older (coming_hold s.writer s.writer.queue.newest.hold) Nothing) s.writer.commits r t
      states r Idle le x = x
      states r (Aimed generation k) le x = record { hold = x.hold; aim = x.aim; current = λ e. absurd (let a = x.aim in omega arith) }
      states r (Raised k) le x = raised k x
      states r (Bounced k) le x = record { hold = x.hold; missed = (let m = x.missed in omega arith) }
      states r (Guarded k c) le x = record {
        raised = raised k x.raised;
        commit = x.commit;
        first_commit = All-push (λ e. e.hold ≡ k → e.first_commit ≤ c) s.writer.queue.older (coming_hold s.writer s.writer.queue.newest.hold)
            (all-prefix (λ e. e.hold ≡ k → e.first_commit ≤ c) s.writer.queue.older (s.writer.queue.newest ∷ []) x.first_commit) (λ same. let is = x.probed probed same in omega arith);
        next = λ e. absurd (cc);
        probed = λ e same. absurd (cc);
        image = x.image;
        seen = x.seen;
      }
      states r Spent le x = x

      reader : (r : ReaderView) → GoodReader s.writer.sizes s.writer.queue s.writer.commits r
          → GoodReader s.writer.sizes (queue_of s.writer.queue.older (coming_hold s.writer s.writer.queue.newest.hold) Nothing) s.writer.commits r
      reader r x = record { same_sizes = x.same_sizes; seen = x.seen; saw = x.saw; least = (let le = x.least in omega arith); state = states r r.state x.least x.state }
