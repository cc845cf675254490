-- The end of a commit: the finished buffer goes on hold, the generation is advanced, and what no reader can have is given back.
use Rattle.std.proofs.Common.{◌≡◌, ◌⊎◌, ℕ, suc, ◌<◌, ◌≤◌, Bool, true, false, cond, eqb, List, [], ◌∷◌, length, Option, Some, None, refl, sym, ap, subst, ◌∙◌, arith, inl, inr, not}
use Rattle.std.specs.Prelude.{◌&&◌}
use Rattle.std.proofs.lemmas.Bool.{true≢false, cases_eq, cases_Bool, eq-eqb, ne_eqb, eqb-true}
use Rattle.entry_ref.specs.References.{buffer_of}
use Rattle.entry_ref.specs.Records.{Records}
use Rattle.arena_api.specs.Works.{WorkView, Hold, Tag, last_image, oldest_of, newest_of}
use Rattle.arena_api.specs.Generations.{IsQueue, LetsGo, Advances, Renews, Opens, current, next_hold, with_newest, advanced, retired, tag_now}
use Rattle.arena_api.specs.declared.answers.Advance.{Advance}
use Rattle.arena_api.specs.declared.answers.Advance.TheVariants.{To, NoHold, Spent}
use Rattle.buffer_states.specs.declared.BufferState.TheVariants.{OnHold}
use Rattle.buffer_states.specs.Buffers.{is_state_active}
use Rattle.store_api.specs.Statuses.{Status}
use Rattle.store_api.specs.Ledgers.{is_in, is_this}
use Rattle.store_api.specs.Calls.{with_hold}
use Rattle.entry_ledger.specs.Entries.{EntriesView, IsGood, is_settled_entry}
use Rattle.entry_ledger.specs.Calls.{retired_at, with_mark}
use Rattle.entry_store.specs.Standing.{IsOver, statuses, status_of, is_in_generation, is_mark_of}
use Rattle.store_api.specs.Ledgers.{all_later}
use Rattle.entry_store.specs.Steps.{retired_by, generation_by}
use Rattle.entry_store.specs.ProofsForMarks.{marks-retired}
use Rattle.entry_store.proofs.Queues.{newest-with, newest-append, oldest-append, later-append, later-with, later-from}
use Rattle.entry_store.proofs.Soundness.{sound-retired, sound-advanced, sound-same, lets-last}

module _ {H : Type 0} (bits : ℕ) (work : WorkView H) (m : Records) (e : EntriesView) (st : IsOver bits work m e false) where
  -- the statuses of a buffer that goes
  pub status-retired : (finished : Option ℕ) (r : ℕ) → statuses work.commits (retired_by bits e finished) r ≡ cond (is_this finished (buffer_of bits r)) Status.unmade (statuses work.commits e r)
  status-retired None r = refl
  status-retired (Some b) r = elim (cases_Bool (eqb (buffer_of bits r) b)) [
    | inl t ↦ ap (λ u. status_of (is_in (last_image work.commits) r) e.last (cond u None (e.state r))) t
        ∙ sym (ap (λ u. cond u Status.unmade (statuses work.commits e r)) (eq-eqb b (buffer_of bits r) (sym (eqb-true (buffer_of bits r) b t))))
    | inr t ↦ ap (λ u. status_of (is_in (last_image work.commits) r) e.last (cond u None (e.state r))) t
        ∙ sym (ap (λ u. cond u Status.unmade (statuses work.commits e r)) (ne_eqb b (buffer_of bits r) (λ same. true≢false (sym (eq-eqb (buffer_of bits r) b (sym same)) ∙ t))))
  ]

  over-held : (b : ℕ) → b < work.sizes.buffers → is_state_active (e.mark b).state ≡ true → IsGood bits (retired_at bits e b) → IsOver bits (retired work b) m (retired_at bits e b) false
  over-held b below active good = record {
    good = good;
    count = st.count;
    words = st.words;
    last = st.last;
    generation = st.generation;
    marks = λ a inside.
        subst (λ g. is_mark_of (with_mark e.mark b (record { state = OnHold; width = (e.mark b).width; generation = g; sealed = false }) a) ((retired work b).buffer a) ≡ true) (sym st.generation)
        (marks-retired e.mark work.buffer b (tag_now work) a (st.marks a inside) (st.marks b below) active);
    sound = sound-retired bits work m (statuses work.commits e) st.sound b (statuses work.commits (retired_at bits e b)) (λ r. by_test (eqb (buffer_of bits r) b) r);
    since = λ r. gone-since (eqb (buffer_of bits r) b) r;
    settled = λ ended r. gone-settled (eqb (buffer_of bits r) b) r;
    no_fresh = st.no_fresh;
    left_out = λ r is. gone-left (eqb (buffer_of bits r) b) r (sym (by_test (eqb (buffer_of bits r) b) r) ∙ is);
  }
    where
      by_test : (t : Bool) (r : ℕ) → status_of (is_in (last_image work.commits) r) e.last (cond t None (e.state r)) ≡ cond t Status.unmade (statuses work.commits e r)
      by_test true r = refl
      by_test false r = refl

      gone-left : (t : Bool) (r : ℕ) → cond t Status.unmade (statuses work.commits e r) ≡ Status.left
          → (cond t (record { state = OnHold; width = (e.mark b).width; generation = e.generation; sealed = false }) (e.mark (buffer_of bits r))).sealed ≡ true
      gone-left true r is = absurd (cc)
      gone-left false r is = st.left_out r is

      gone-since : (t : Bool) (r : ℕ) → is_in_generation e.last e.generation (cond t None (e.state r)) ≡ true
      gone-since true r = refl
      gone-since false r = st.since r

      gone-settled : (t : Bool) (r : ℕ) → is_settled_entry (cond t None (e.state r)) ≡ true
      gone-settled true r = refl
      gone-settled false r = st.settled refl r

  pub over-retired : (finished : Option ℕ) → e.finished ≡ finished → IsGood bits (retired_by bits e finished) → IsOver bits (with_hold work finished) m (retired_by bits e finished) false
  over-retired None is good = st
  over-retired (Some b) is good =
      let sealed = st.good.sealed b (st.good.finished b is) in
      over-held b (subst (λ n. b < n) st.count sealed.below) sealed.active good

  pub sealed-retired : (finished : Option ℕ) → e.finished ≡ finished → (b : ℕ) → ((retired_by bits e finished).mark b).sealed ≡ ((e.mark b).sealed && not (is_this finished b))
  sealed-retired None is b = sym (and-true (e.mark b).sealed)
    where
      and-true : (t : Bool) → (t && true) ≡ t
      and-true true = refl
      and-true false = refl
  sealed-retired (Some a) is b = elim (cases_eq b a) [
    | inl t ↦ ap (λ u. (cond u (record { state = OnHold; width = (e.mark a).width; generation = e.generation; sealed = false }) (e.mark b)).sealed) (eq-eqb b a t)
        ∙ sym (ap (λ u. (e.mark b).sealed && not u) (eq-eqb a b (sym t)) ∙ and-false (e.mark b).sealed)
    | inr t ↦ ap (λ u. (cond u (record { state = OnHold; width = (e.mark a).width; generation = e.generation; sealed = false }) (e.mark b)).sealed) (ne_eqb b a t)
        ∙ sym (ap (λ u. (e.mark b).sealed && not u) (ne_eqb a b (λ same. t (sym same))) ∙ and-true (e.mark b).sealed)
  ]
    where
      and-false : (t : Bool) → (t && false) ≡ false
      and-false true = refl
      and-false false = refl

      and-true : (t : Bool) → (t && true) ≡ t
      and-true true = refl
      and-true false = refl

  pub counts-retired : (finished : Option ℕ) → (retired_by bits e finished).of_width ≡ e.of_width
  counts-retired None = refl
  counts-retired (Some b) = refl

  pub finished-retired : (finished : Option ℕ) → e.finished ≡ finished → (retired_by bits e finished).finished ≡ None
  finished-retired None is = is
  finished-retired (Some b) is = refl

-- an advance
pub current-advanced : {H : Type 0} (answer : Advance) (work next : WorkView H) → Advances answer work next → current next ≡ generation_by answer (current work)
current-advanced (To g h) work next is = by_holds is.holds
  where
    by_holds : Renews work next h ⊎ Opens work next h → current next ≡ g
    by_holds (inl renews) = ap (λ q. (newest_of q).generation) renews.queue ∙ ap (λ x. x.generation) (newest-with work.queue (next_hold work h)) ∙ sym is.next
    by_holds (inr opens) = ap (λ q. (newest_of q).generation) opens.queue ∙ ap (λ x. x.generation) (newest-append work.queue (next_hold work h)) ∙ sym is.next
current-advanced (NoHold h c) work next is = ap (λ q. (newest_of q).generation) is.queue
current-advanced (Spent g) work next is = ap current is.same

pub rises-advanced : {H : Type 0} (answer : Advance) (work next : WorkView H) → Advances answer work next → current work ≤ generation_by answer (current work)
rises-advanced (To g h) work next is = let same = is.next in omega arith
rises-advanced (NoHold h c) work next is = omega arith
rises-advanced (Spent g) work next is = omega arith

pub stops-advanced : {H : Type 0} (answer : Advance) (work next : WorkView H) → Advances answer work next → work.stops ≤ next.stops
stops-advanced (To g h) work next is = by_holds is.holds
  where
    by_holds : Renews work next h ⊎ Opens work next h → work.stops ≤ next.stops
    by_holds (inl renews) = let same = renews.stops in omega arith
    by_holds (inr opens) = let same = opens.stops in omega arith
stops-advanced (NoHold h c) work next is = let same = is.stops in omega arith
stops-advanced (Spent g) work next is = let same = ap (λ w. w.stops) is.same in omega arith

oldest-with : (queue : List Hold) (new : Hold) → (newest_of queue).generation ≤ new.generation → 0 < length queue → (oldest_of queue).generation ≤ (oldest_of (with_newest queue new)).generation
oldest-with [] new low some = absurd (omega arith)
oldest-with (h ∷ []) new low some = low
oldest-with (h ∷ g ∷ hs) new low some = omega arith

pub oldest-advanced : {H : Type 0} (answer : Advance) (work next : WorkView H) → IsQueue work → Advances answer work next → (oldest_of work.queue).generation ≤ (oldest_of next.queue).generation
oldest-advanced (To g h) work next queue is = by_holds is.holds
  where
    by_holds : Renews work next h ⊎ Opens work next h → (oldest_of work.queue).generation ≤ (oldest_of next.queue).generation
    by_holds (inl renews) = subst (λ q. (oldest_of work.queue).generation ≤ (oldest_of q).generation) (sym renews.queue) (oldest-with work.queue (next_hold work h) (omega arith) queue.some)
    by_holds (inr opens) = let same = ap (λ q. (oldest_of q).generation) opens.queue ∙ ap (λ x. x.generation) (oldest-append work.queue (next_hold work h) queue.some) in omega arith
oldest-advanced (NoHold h c) work next queue is = let same = ap (λ q. (oldest_of q).generation) is.queue in omega arith
oldest-advanced (Spent g) work next queue is = let same = ap (λ w. (oldest_of w.queue).generation) is.same in omega arith

pub later-advanced : {H : Type 0} (answer : Advance) (work next : WorkView H) → Advances answer work next → (tag : Tag) → all_later tag work.queue ≡ true → tag.commit ≤ work.commits.last → all_later tag next.queue ≡ true
later-advanced (To g h) work next is tag all low = by_holds is.holds
  where
    by_holds : Renews work next h ⊎ Opens work next h → all_later tag next.queue ≡ true
    by_holds (inl renews) = subst (λ q. all_later tag q ≡ true) (sym renews.queue) (later-with tag work.queue (next_hold work h) all (later-from tag (next_hold work h) low))
    by_holds (inr opens) = subst (λ q. all_later tag q ≡ true) (sym opens.queue) (later-append tag work.queue (next_hold work h) all (later-from tag (next_hold work h) low))
later-advanced (NoHold h c) work next is tag all low = subst (λ q. all_later tag q ≡ true) (sym is.queue) all
later-advanced (Spent g) work next is tag all low = subst (λ w. all_later tag w.queue ≡ true) (sym is.same) all

-- an advance is by one generation at most
pub late-advanced : {H : Type 0} (answer : Advance) (work next : WorkView H) → Advances answer work next → current next ≤ suc (current work)
late-advanced (To g h) work next is = let now = current-advanced (To g h) work next is in let one = is.next in omega arith
late-advanced (NoHold h c) work next is = let now = ap (λ q. (newest_of q).generation) is.queue in omega arith
late-advanced (Spent g) work next is = let now = ap current is.same in omega arith

-- without readers the generation rises where it is not the last
pub alone-advanced : {H : Type 0} (answer : Advance) (work next : WorkView H) → Advances answer work next → next.stops ≡ work.stops → current next < work.sizes.generations → current next ≡ suc (current work)
alone-advanced (To g h) work next is still low = current-advanced (To g h) work next is ∙ is.next
alone-advanced (NoHold h c) work next is still low = let more = is.stops in absurd (omega arith)
alone-advanced (Spent g) work next is still low = let limit = is.limit in let same = ap current is.same in absurd (omega arith)

module _ {H : Type 0} (bits : ℕ) (work next : WorkView H) (m : Records) (e new : EntriesView) (st : IsOver bits work m e false) (answer : Advance) (is : Advances answer work next)
    (goes : LetsGo work.commits next.commits)
    (knows : next ≡ advanced work next) (follows : new ≡ record e { generation = generation_by answer e.generation }) (good : IsGood bits new)
    (old : (r : ℕ) → is_in_generation e.last (generation_by answer e.generation) (e.state r) ≡ true) where
  pub status-advanced : (r : ℕ) → statuses next.commits new r ≡ statuses work.commits e r
  status-advanced r =
      ap (λ x. statuses next.commits x r) follows
      ∙ ap (λ i. status_of (is_in i r) e.last (e.state r)) (lets-last work.commits next.commits goes)

  pub over-advanced : IsOver bits next m new false
  over-advanced = record {
    good = good;
    count = ap (λ x. x.count) follows ∙ st.count ∙ sym (ap (λ w. w.sizes.buffers) knows);
    words = ap (λ x. x.words) follows ∙ st.words ∙ sym (ap (λ w. w.sizes.words) knows);
    last = ap (λ x. x.last) follows ∙ st.last ∙ sym goes.last;
    generation = ap (λ x. x.generation) follows ∙ ap (generation_by answer) st.generation ∙ sym (current-advanced answer work next is);
    marks = λ b inside.
        subst (λ x. is_mark_of (x.mark b) (next.buffer b) ≡ true) (sym follows)
        (subst (λ w. is_mark_of (e.mark b) (w.buffer b) ≡ true) (sym knows) (st.marks b (subst (λ n. b < n) (ap (λ w. w.sizes.buffers) knows) inside)));
    sound = sound-same bits next m (statuses work.commits e) (statuses next.commits new)
        (sound-advanced bits work next m (statuses work.commits e) st.sound goes (ap (λ w. w.buffer) knows) (ap (λ w. w.sizes) knows) (later-advanced answer work next is)) status-advanced;
    since = λ r. subst (λ x. is_in_generation x.last x.generation (x.state r) ≡ true) (sym follows) (old r);
    settled = λ ended r. subst (λ x. is_settled_entry (x.state r) ≡ true) (sym follows) (st.settled refl r);
    no_fresh = λ ended w. ap (λ x. (x.of_width w).fresh) follows ∙ st.no_fresh refl w;
    left_out = λ r is. ap (λ x. (x.mark (buffer_of bits r)).sealed) follows ∙ st.left_out r (sym (status-advanced r) ∙ is);
  }
