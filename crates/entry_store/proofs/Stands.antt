-- A store stands after each of its calls.
use Rattle.std.proofs.Common.{◌≡◌, ℕ, ◌<◌, ◌≤◌, Bool, true, false, cond, eqb, ltb, List, length, Option, Some, None, refl, sym, ap, subst, ◌∙◌, arith, inl, inr, option_map}
use Rattle.std.proofs.lemmas.Bool.{true≢false, false≢true, cases_eq, eq-eqb, ne_eqb, lt-ltb}
use Rattle.entry_ledger.specs.declared.state.State.{State}
use Rattle.entry_ledger.specs.declared.state.State.TheVariants.{Made}
use Rattle.entry_ledger.specs.States.{dropped, undone}
use Rattle.buffer_states.specs.declared.BufferState.{BufferState}
use Rattle.buffer_states.specs.declared.BufferState.TheVariants.{Free as FreeBuffer, Active, OnHold}
use Rattle.buffer_states.specs.Buffers.{is_state_free, is_state_active, is_on_hold}
use Rattle.entry_ref.specs.References.{buffer_of}
use Rattle.entry_ref.specs.Images.{words_at}
use Rattle.entry_ref.specs.Records.{Records, with_words}
use Rattle.arena_api.specs.Works.{WorkView, Buffer, active_width, width_of, last_image, last_tag, oldest_of, newest_of}
use Rattle.arena_api.specs.Works.{is_free as is_free_buffer}
use Rattle.arena_api.specs.Calls.{IsKept, IsInOrder, IsLowestFree, IsFresh, FitsEntry, handed_out}
use Rattle.arena_api.specs.Generations.{LetsGo, Reclaims, current, reclaimed, freed_below}
use Rattle.arena_api.specs.declared.answers.Oldest.{Oldest}
use Rattle.store_api.specs.Statuses.{Status, in_use, has_record, is_committed, free_below, with_status}
use Rattle.store_api.specs.Ledgers.{is_in, is_held}
use Rattle.entry_ledger.specs.Entries.{EntriesView, IsGood, is_settled_entry}
use Rattle.entry_ledger.specs.Calls.{CanTake, free_mark, Drops, Accepts, Undoes, Frees, made_at, opened_at, new_entries, with_state, freed}
use Rattle.entry_store.specs.Standing.{Stands, IsOver, status_by, status_of, statuses, backs, back_of, is_in_generation, is_mark_of}
use Rattle.entry_store.specs.ProofsForMarks.{mark-free, marks-opened, marks-freed, held-freed, width-freed}
use Rattle.entry_store.specs.ProofsForStore.{dropped-live, undone-left}
use Rattle.entry_store.proofs.LeftOut.{pending-left, dropped-left, accept-left, below-left}
use Rattle.entry_store.proofs.Queues.{newest-drop}
use Rattle.entry_store.proofs.Soundness.{sound-made, sound-opened, sound-reclaimed, sound-same, lets-last}
use Rattle.entry_store.specs.ProofsForStates.{IsWeaker, sound-weaker, with_state-at, in_use-used, dropped-weaker, dropped-since, undone-weaker, undone-settled, undone-since, accepted-status, accepted-settled}
use Rattle.entry_store.specs.ProofsForStates.{accepted-since, weaker-accept, open-status, freed-status, freed-undone, freed-settled, freed-since}

pub status-set : (has : Bool) (last : ℕ) (state : ℕ → Option State) (r : ℕ) (s : State) (q : ℕ) (c : Status) → (q ≡ r → status_by has last s ≡ c)
    → status_of has last (with_state state r s q) ≡ cond (eqb q r) c (status_of has last (state q))
status-set has last state r s q c is = elim (cases_eq q r) [
  | inl e ↦ subst (λ t. status_of has last (cond t (Some s) (state q)) ≡ cond t c (status_of has last (state q))) (sym (eq-eqb q r e)) (is e)
  | inr ne ↦ subst (λ t. status_of has last (cond t (Some s) (state q)) ≡ cond t c (status_of has last (state q))) (sym (ne_eqb q r ne)) refl
]

free-active : (s : BufferState) → is_state_free s ≡ true → is_state_active s ≡ true → ⊥
free-active FreeBuffer free active = false≢true active
free-active Active free active = false≢true free
free-active OnHold free active = false≢true free

active-held : (s : BufferState) → is_state_active s ≡ true → is_on_hold s ≡ false
active-held FreeBuffer active = absurd (false≢true active)
active-held Active active = refl
active-held OnHold active = absurd (false≢true active)

module _ {H : Type 0} (bits : ℕ) (work : WorkView H) (m : Records) (e : EntriesView) (unit : Bool) (st : Stands bits work m e unit) where
  abbrev has : ℕ → Bool
  has q = is_in (last_image work.commits) q

  -- the states and the counts change
  pub stands-changed : (new : EntriesView) (now : Bool) → new ≡ record e { state = new.state; of_width = new.of_width } → IsGood bits new
      → ((q : ℕ) → IsWeaker (status_of (has q) e.last (new.state q)) (statuses work.commits e q))
      → ((q : ℕ) → is_in_generation e.last e.generation (new.state q) ≡ true)
      → (now ≡ false → (q : ℕ) → is_settled_entry (new.state q) ≡ true) → (now ≡ false → (w : ℕ) → (new.of_width w).fresh ≡ 0)
      → ((q : ℕ) → status_of (has q) e.last (new.state q) ≡ Status.left → statuses work.commits e q ≡ Status.left)
      → Stands bits work m new now
  stands-changed new now same good weaker since settled fresh left = record {
    good = good;
    count = ap (λ x. x.count) same ∙ st.count;
    words = ap (λ x. x.words) same ∙ st.words;
    last = ap (λ x. x.last) same ∙ st.last;
    generation = ap (λ x. x.generation) same ∙ st.generation;
    oldest = ap (λ x. x.oldest) same ∙ st.oldest;
    marks = λ b below. subst (λ x. is_mark_of (x.mark b) (work.buffer b) ≡ true) (sym same) (st.marks b below);
    sound = sound-weaker bits work m (statuses work.commits e) (statuses work.commits new) st.sound
        (λ q. subst (λ l. IsWeaker (status_of (has q) l (new.state q)) (statuses work.commits e q)) (sym (ap (λ x. x.last) same)) (weaker q));
    since = λ q. subst (λ l. is_in_generation l new.generation (new.state q) ≡ true) (sym (ap (λ x. x.last) same))
        (subst (λ g. is_in_generation e.last g (new.state q) ≡ true) (sym (ap (λ x. x.generation) same)) (since q));
    settled = settled;
    no_fresh = fresh;
    left_out = λ q is. ap (λ x. (x.mark (buffer_of bits q)).sealed) same
        ∙ st.left_out q (left q (sym (ap (λ l. status_of (has q) l (new.state q)) (ap (λ x. x.last) same)) ∙ is));
    timely = st.timely;
    unread = st.unread;
  }

  -- a drop
  module _ (new : EntriesView) (r : ℕ) (s : State) (is : e.state r ≡ Some s) (used : in_use (status_by (has r) e.last s) ≡ true) (begun : unit ≡ true) (drops : Drops e new r s) where
    state-dropped : (P : ℕ → Option State → Type 0) (q : ℕ) → (q ≡ r → P q (Some (dropped e.last s))) → ((q ≡ r → ⊥) → P q (e.state q)) → P q (new.state q)
    state-dropped P q here other = subst (P q) (sym (ap (λ (f : ℕ → Option State). f q) drops.state)) (with_state-at (P q) e.state r (dropped e.last s) q here other)

    pub dropped-at : (q : ℕ) → IsWeaker (status_of (has q) e.last (new.state q)) (statuses work.commits e q)
    dropped-at q = state-dropped (λ q o. IsWeaker (status_of (has q) e.last o) (statuses work.commits e q)) q
        (λ same. subst (λ x. IsWeaker (status_by (has x) e.last (dropped e.last s)) (status_of (has x) e.last (e.state x))) (sym same)
        (subst (λ o. IsWeaker (status_by (has r) e.last (dropped e.last s)) (status_of (has r) e.last o)) (sym is) (dropped-weaker (has r) e.last s used)))
        (λ ne. inl refl)

    pub stands-dropped : IsGood bits new → Stands bits work m new unit
    stands-dropped good =
        stands-changed new unit drops.same good dropped-at
        (λ q. state-dropped (λ q o. is_in_generation e.last e.generation o ≡ true) q (λ same. dropped-since e.last e.generation s (in_use-used (has r) e.last s used)) (λ ne. st.since q))
        (λ ended q. absurd (true≢false (sym begun ∙ ended))) (λ ended w. absurd (true≢false (sym begun ∙ ended)))
        (λ q. state-dropped (λ q o. status_of (has q) e.last o ≡ Status.left → statuses work.commits e q ≡ Status.left) q
        (λ same left. absurd (dropped-left (has q) e.last s (in_use-used (has r) e.last s used) left)) (λ ne left. left))

  -- a unit ends
  pub stands-accepted : (new : EntriesView) → Accepts e new → IsGood bits new → Stands bits work m new false
  stands-accepted new accepts good =
      stands-changed new false accepts.same good
      (λ q. subst (λ o. IsWeaker (status_of (has q) e.last o) (statuses work.commits e q)) (sym (accepts.state q))
      (subst (λ c. IsWeaker c (statuses work.commits e q)) (sym (accepted-status (has q) e.last e.generation (e.state q))) (weaker-accept (statuses work.commits e q))))
      (λ q. subst (λ o. is_in_generation e.last e.generation o ≡ true) (sym (accepts.state q)) (accepted-since e.last e.generation (e.state q) (st.since q)))
      (λ ended q. subst (λ o. is_settled_entry o ≡ true) (sym (accepts.state q)) (accepted-settled e.last e.generation (e.state q)))
      (λ ended. accepts.fresh)
      (λ q left. accept-left (statuses work.commits e q) (sym (ap (status_of (has q) e.last) (accepts.state q) ∙ accepted-status (has q) e.last e.generation (e.state q)) ∙ left))

  undone-at : (q : ℕ) (o : Option State) → e.state q ≡ o → IsWeaker (status_of (has q) e.last (option_map (undone e.last) o)) (status_of (has q) e.last o)
  undone-at q None is = inl refl
  undone-at q (Some s) is = undone-weaker (has q) e s (st.good.up_to q s is)

  pub stands-undone : (new : EntriesView) → Undoes e new → IsGood bits new → Stands bits work m new false
  stands-undone new undoes good =
      stands-changed new false undoes.same good
      (λ q. subst (λ o. IsWeaker (status_of (has q) e.last o) (statuses work.commits e q)) (sym (undoes.state q)) (undone-at q (e.state q) refl))
      (λ q. subst (λ o. is_in_generation e.last e.generation o ≡ true) (sym (undoes.state q)) (undone-since e.last e.generation (e.state q) (st.since q)))
      (λ ended q. subst (λ o. is_settled_entry o ≡ true) (sym (undoes.state q)) (undone-settled e.last (e.state q)))
      (λ ended. undoes.fresh)
      (λ q left. undone-left (has q) e.last (e.state q) (dropped-live bits work m e unit st q) (sym (ap (status_of (has q) e.last) (undoes.state q)) ∙ left))

  -- an entry is made
  module _ (width r : ℕ) (ws : List ℕ) (can : CanTake bits e width r) (some : 0 < length ws) (begun : unit ≡ true) where
    pub status-made : (q : ℕ) → statuses work.commits (made_at e width r) q ≡ with_status (statuses work.commits e) r Status.pending q
    status-made q = status-set (has q) e.last e.state r Made q Status.pending (λ same. refl)

    pub stands-made : (stored : _) → IsGood bits (made_at e width r) → Stands bits (record work { stored = stored }) (with_words m r ws) (made_at e width r) unit
    stands-made stored good = record {
      good = good;
      count = st.count;
      words = st.words;
      last = st.last;
      generation = st.generation;
      oldest = st.oldest;
      marks = st.marks;
      sound =
          let here = sound-made bits work m (statuses work.commits e) st.sound r ws (open-status (has r) e.last (e.state r) can.is_open) some in
          sound-same bits (record work { stored = stored }) (with_words m r ws) (with_status (statuses work.commits e) r Status.pending) (statuses work.commits (made_at e width r))
          (record { there = here.there; committed = here.committed; unkept = here.unkept; out = here.out }) status-made;
      since = λ q. with_state-at (λ o. is_in_generation e.last e.generation o ≡ true) e.state r Made q (λ same. refl) (λ ne. st.since q);
      settled = λ ended q. absurd (true≢false (sym begun ∙ ended));
      no_fresh = λ ended w. absurd (true≢false (sym begun ∙ ended));
      left_out = λ q is. st.left_out q (pending-left (eqb q r) (statuses work.commits e q) (sym (status-made q) ∙ is));
      timely = st.timely;
      unread = st.unread;
    }

  -- a buffer is handed out
  module _ (b width : ℕ) (low : IsLowestFree work.buffer work.sizes.buffers b)
      (kept : (n r : ℕ) → IsKept work.commits n → 0 < length (words_at (work.commits.image n) r)
      → FitsEntry bits work.sizes (width_of (work.buffer (buffer_of bits r))) r (length (words_at (work.commits.image n) r))) where
    pub held-opened : (a : ℕ) → is_held (work.buffer a) ≡ false → is_held (cond (eqb a b) (Buffer.active width (last_tag (work.buffer b))) (work.buffer a)) ≡ false
    held-opened a h = by_test (eqb a b)
      where
        by_test : (t : Bool) → is_held (cond t (Buffer.active width (last_tag (work.buffer b))) (work.buffer a)) ≡ false
        by_test true = refl
        by_test false = h

    -- the buffer that was free is not sealed
    opened-sealed : (a : ℕ) → (e.mark a).sealed ≡ true → ((opened_at e b width).mark a).sealed ≡ true
    opened-sealed a sealed = elim (cases_eq a b) [
      | inl same ↦ absurd (free-active (e.mark b).state (mark-free (e.mark b) (work.buffer b) (st.marks b low.below) ∙ low.free) (st.good.sealed b (subst (λ n. (e.mark n).sealed ≡ true) same sealed)).active)
      | inr ne ↦ ap (λ t. (cond t (record { state = Active; width = width; generation = 0; sealed = false }) (e.mark a)).sealed) (ne_eqb a b ne) ∙ sealed
    ]

    pub stands-opened : IsGood bits (opened_at e b width) → ((w : ℕ) → ((opened_at e b width).of_width w).fresh ≡ (e.of_width w).fresh) → Stands bits (handed_out work b width) m (opened_at e b width) unit
    stands-opened good fresh =
        let here = sound-opened bits work m (statuses work.commits e) st.sound b width low.free kept in
        record {
          good = good;
          count = st.count;
          words = st.words;
          last = st.last;
          generation = st.generation;
          oldest = st.oldest;
          marks = λ a below. marks-opened e.mark work.buffer b width (last_tag (work.buffer b)) a (st.marks a below);
          sound = record { there = here.there; committed = here.committed; unkept = here.unkept; out = here.out };
          since = st.since;
          settled = st.settled;
          no_fresh = λ ended w. fresh w ∙ st.no_fresh ended w;
          left_out = λ q is. opened-sealed (buffer_of bits q) (st.left_out q is);
          timely = st.timely;
          unread = λ a below alone low. held-opened a (st.unread a below alone low);
        }

-- a reclaim
module _ {H : Type 0} (bits : ℕ) (work : WorkView H) (m : Records) (e : EntriesView) (unit : Bool) (st : IsOver bits work m e unit) (next : WorkView H) (new : EntriesView) (answer : Oldest)
    (reclaims : Reclaims answer work next) (goes : LetsGo work.commits next.commits)
    (knows : next ≡ reclaimed work next) (frees : Frees e new answer.generation) (order : IsInOrder next) where
  abbrev now-has : ℕ → Bool
  now-has q = is_in (last_image work.commits) q

  low : answer.generation ≤ e.generation → (q : ℕ) → status_of (now-has q) e.last (option_map (freed answer.generation) (e.state q)) ≡ free_below answer.generation (statuses work.commits e q)
  low below q = freed-status (now-has q) e.last e.generation answer.generation (e.state q) (st.since q) below

  has-same : (q : ℕ) → is_in (last_image next.commits) q ≡ now-has q
  has-same q = ap (λ i. is_in i q) (lets-last work.commits next.commits goes)

  pub status-freed : answer.generation ≤ e.generation → (q : ℕ) → statuses next.commits new q ≡ free_below answer.generation (statuses work.commits e q)
  status-freed below q =
      ap (λ h. status_of h new.last (new.state q)) (has-same q)
      ∙ ap (λ l. status_of (now-has q) l (new.state q)) (ap (λ x. x.last) frees.same)
      ∙ ap (status_of (now-has q) e.last) (frees.state q)
      ∙ low below q

  pub back-freed : answer.generation ≤ e.generation → (q : ℕ) → backs next.commits new q ≡ free_below answer.generation (backs work.commits e q)
  back-freed below q =
      ap (λ h. back_of h new.last (new.state q)) (has-same q)
      ∙ ap (λ l. back_of (now-has q) l (new.state q)) (ap (λ x. x.last) frees.same)
      ∙ ap (back_of (now-has q) e.last) (frees.state q)
      ∙ ap (status_of (now-has q) e.last) (freed-undone e.last answer.generation (e.state q))
      ∙ freed-status (now-has q) e.last e.generation answer.generation (option_map (undone e.last) (e.state q)) (undone-since e.last e.generation (e.state q) (st.since q)) below

  -- a sealed buffer is active, and stays
  freed-sealed : (b : ℕ) → (e.mark b).sealed ≡ true → (new.mark b).sealed ≡ true
  freed-sealed b sealed =
      ap (λ k. k.sealed) (frees.mark b)
      ∙ ap (λ t. (cond t (cond (ltb (e.mark b).generation answer.generation) free_mark (e.mark b)) (e.mark b)).sealed) (active-held (e.mark b).state (st.good.sealed b sealed).active) ∙ sealed

  newest-same : newest_of next.queue ≡ newest_of work.queue
  newest-same = ap newest_of reclaims.queue ∙ newest-drop reclaims.closed work.queue reclaims.left

  pub current-same : current next ≡ current work
  current-same = ap (λ h. h.generation) newest-same

  pub stands-reclaimed : answer.generation ≤ e.generation → IsGood bits new → current work ≤ work.commits.last
      → ((b : ℕ) → b < next.sizes.buffers → next.made ≡ 0 → current next < next.sizes.generations → is_held (next.buffer b) ≡ false) → Stands bits next m new unit
  stands-reclaimed below good timely unread = record {
    good = good;
    count = ap (λ x. x.count) frees.same ∙ st.count ∙ sym (ap (λ w. w.sizes.buffers) knows);
    words = ap (λ x. x.words) frees.same ∙ st.words ∙ sym (ap (λ w. w.sizes.words) knows);
    last = ap (λ x. x.last) frees.same ∙ st.last ∙ sym goes.last;
    generation = ap (λ x. x.generation) frees.same ∙ st.generation ∙ sym (ap (λ h. h.generation) newest-same);
    oldest = ap (λ x. x.oldest) frees.same ∙ reclaims.generation;
    marks = λ b inside.
        subst (λ f. is_mark_of (new.mark b) (f b) ≡ true) (sym reclaims.buffer)
        (subst (λ g. is_mark_of (new.mark b) (freed_below g (work.buffer b)) ≡ true) reclaims.generation
        (subst (λ k. is_mark_of k (freed_below answer.generation (work.buffer b)) ≡ true) (sym (frees.mark b))
        (marks-freed answer.generation (e.mark b) (work.buffer b) (st.marks b (subst (λ n. b < n) (ap (λ w. w.sizes.buffers) knows) inside)))));
    sound = sound-reclaimed bits work next m (statuses work.commits e) st.sound reclaims.closed reclaims.left reclaims.queue goes order
        (λ b. ap (λ f. active_width (f b)) reclaims.buffer ∙ width-freed (oldest_of next.queue).generation (work.buffer b)) (ap (λ w. w.sizes) knows)
        (statuses next.commits new) (λ q. status-freed below q ∙ ap (λ g. free_below g (statuses work.commits e q)) reclaims.generation);
    since = λ q.
        subst (λ o. is_in_generation new.last new.generation o ≡ true) (sym (frees.state q))
        (subst (λ l. is_in_generation l new.generation (option_map (freed answer.generation) (e.state q)) ≡ true) (sym (ap (λ x. x.last) frees.same))
        (subst (λ g. is_in_generation e.last g (option_map (freed answer.generation) (e.state q)) ≡ true) (sym (ap (λ x. x.generation) frees.same))
        (freed-since e.last e.generation answer.generation (e.state q) (st.since q))));
    settled = λ ended q. subst (λ o. is_settled_entry o ≡ true) (sym (frees.state q)) (freed-settled answer.generation (e.state q) (st.settled ended q));
    no_fresh = λ ended w. (frees.counts w).fresh ∙ st.no_fresh ended w;
    left_out = λ q is. freed-sealed (buffer_of bits q) (st.left_out q (below-left answer.generation (statuses work.commits e q) (sym (status-freed below q) ∙ is)));
    timely = let now = current-same in let last = goes.last in omega arith;
    unread = unread;
  }

-- without readers nothing is on hold after a reclaim either
pub unread-reclaimed : {H : Type 0} (bits : ℕ) (work : WorkView H) (m : Records) (e : EntriesView) (unit : Bool) → Stands bits work m e unit → (next : WorkView H) (answer : Oldest) → Reclaims answer work next
    → next ≡ reclaimed work next → (b : ℕ) → b < next.sizes.buffers → next.made ≡ 0 → current next < next.sizes.generations → is_held (next.buffer b) ≡ false
unread-reclaimed bits work m e unit st next answer reclaims knows b inside alone limit =
    let newest : newest_of next.queue ≡ newest_of work.queue = ap newest_of reclaims.queue ∙ newest-drop reclaims.closed work.queue reclaims.left in
    subst (λ f. is_held (f b) ≡ false) (sym reclaims.buffer) (held-freed (oldest_of next.queue).generation (work.buffer b)
    (st.unread b (subst (λ n. b < n) (ap (λ w. w.sizes.buffers) knows) inside) (sym (ap (λ w. w.made) knows) ∙ alone)
    (subst (λ h. h.generation < work.sizes.generations) newest (subst (λ z. (newest_of next.queue).generation < z.generations) (ap (λ w. w.sizes) knows) limit))))

pub over-from : {H : Type 0} (bits : ℕ) (work : WorkView H) (m : Records) (e : EntriesView) (unit : Bool) → Stands bits work m e unit → IsOver bits work m e unit
over-from bits work m e unit st = record {
  good = st.good;
  count = st.count;
  words = st.words;
  last = st.last;
  generation = st.generation;
  marks = st.marks;
  sound = st.sound;
  since = st.since;
  settled = st.settled;
  no_fresh = st.no_fresh;
  left_out = st.left_out;
}

-- a new store stands
pub stands-new : {H : Type 0} (bits : ℕ) (work : WorkView H) (m : Records) (e : EntriesView) → IsFresh work → e ≡ new_entries work.sizes.buffers work.sizes.words → IsGood bits e
    → Stands bits work m e false
stands-new bits work m e fresh new good =
    subst (λ g. Stands bits work m g false) (sym new) (record {
      good = subst (IsGood bits) new good;
      count = refl;
      words = refl;
      last = sym fresh.last;
      generation = sym (ap (λ q. (newest_of q).generation) fresh.queue);
      oldest = sym (ap (λ q. (oldest_of q).generation) fresh.queue);
      marks = λ b below. free-mark (work.buffer b) (fresh.buffers b);
      sound = record {
        there = λ r h. absurd (false≢true h);
        committed = λ r h. absurd (false≢true h);
        unkept = λ r lives below _ n kept.
            let first : n ≡ 0 = (let to = kept.to in let last = fresh.last in omega arith) in
            ap (λ k. words_at (work.commits.image k) r) first ∙ ap (λ i. words_at i r) fresh.image;
        out = λ r tag h. absurd (cc);
      };
      since = λ r. refl;
      settled = λ _ r. refl;
      no_fresh = λ _ w. refl;
      left_out = λ r is. absurd (cc);
      timely = let now = ap (λ q. (newest_of q).generation) fresh.queue in omega arith;
      unread = λ b below alone limit. free-held (work.buffer b) (fresh.buffers b);
    })
  where
    free-mark : (b : Buffer) → is_free_buffer b ≡ true → is_mark_of free_mark b ≡ true
    free-mark (Buffer.free t) h = refl
    free-mark (Buffer.active w t) h = absurd (false≢true h)
    free-mark (Buffer.held w t) h = absurd (false≢true h)

    free-held : (b : Buffer) → is_free_buffer b ≡ true → is_held b ≡ false
    free-held (Buffer.free t) h = refl
    free-held (Buffer.active w t) h = refl
    free-held (Buffer.held w t) h = absurd (false≢true h)
