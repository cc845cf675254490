-- A buffer is sealed, finished, chosen; and how much of the buffers is in use.
use Rattle.std.proofs.Common.{◌≡◌, ◌≢◌, ℕ, zero, suc, ◌+◌, ◌*◌, ◌<◌, Bool, true, false, cond, eqb, Option, Some, None, refl, sym, ap, subst, ◌∙◌, arith, inl, inr, ⊎_elim}
use Rattle.std.specs.Prelude.{IfSome, IfNone}
use Rattle.std.proofs.lemmas.Bool.{true≢false, eq-eqb, ne_eqb, eqb-true}
use Rattle.entry_ledger.proofs.Marks.{this-false}
use Rattle.list_lemmas.specs.Counting.{one_if}
use Rattle.entry_ledger.specs.declared.state.State.{State}
use Rattle.entry_ledger.specs.declared.state.State.TheVariants.{Free, Returned, Made, InUse, LetGo, DroppedNow, Dropped}
use Rattle.buffer_states.specs.Buffers.{is_state_active, is_on_hold}
use Rattle.buffer_states.specs.declared.WordCounts.{WordCounts}
use Rattle.entry_ref.specs.References.{buffer_of, packed}
use Rattle.entry_ref.specs.Records.{Records}
use Rattle.arena_api.specs.Works.{WorkView, Buffer, Tag, active_width, last_image}
use Rattle.store_api.specs.Statuses.{Status, is_taken, is_dead, is_held_status}
use Rattle.store_api.specs.Ledgers.{Ledger, IsUnfilled, is_this, is_in, capacity}
use Rattle.store_api.specs.Ledgers.{is_active as is_active_buffer}
use Rattle.store_api.specs.Usages.{IsUsage, over_buffers, held_words}
use Rattle.store_api.specs.Victims.{IsCandidate, IsVictim, HasNoVictim, count_entries, used_words, dead_words}
use Rattle.entry_ledger.specs.Entries.{EntriesView, IsGood, width_of, is_settled_entry, is_taken_entry, is_dead_entry, is_held_entry, count_marks}
use Rattle.entry_ledger.specs.Entries.{count_entries as count_states, used_words as used_states, dead_words as dead_states, held_words as held_states}
use Rattle.entry_ledger.specs.Calls.{Seals, Unseals, HasWords}
use Rattle.entry_ledger.specs.Calls.{IsCandidate as IsCandidateEntry, IsVictim as IsVictimEntry}
use Rattle.entry_store.specs.Standing.{Stands, statuses, status_of, ledger_of, is_mark_of, is_in_generation, tag_at}
use Rattle.entry_store.specs.ProofsForMarks.{mark-width, mark-active, count-active, count-held}
use Rattle.entry_store.proofs.Soundness.{sound-same}

active-from : (b : Buffer) → 0 < active_width b → is_active_buffer b ≡ true
active-from (Buffer.free t) some = absurd (omega arith)
active-from (Buffer.active w t) some = refl
active-from (Buffer.held w t) some = absurd (omega arith)

this-not : (o : Option ℕ) (b : ℕ) → is_this o b ≡ false → o ≡ Some b → ⊥
this-not None b out e = absurd (cc)
this-not (Some a) b out e = true≢false (sym (ap (λ x. is_this x b) e ∙ eq-eqb b b refl) ∙ out)

-- the counts of a buffer, by statuses and by states
use-taken : (t has : Bool) → is_taken (cond t Status.pending (cond has Status.live Status.left)) ≡ true
use-taken true has = refl
use-taken false true = refl
use-taken false false = refl

held-taken : (t : Bool) (tag : Tag) → is_taken (cond t Status.dropped (Status.held tag)) ≡ true
held-taken true tag = refl
held-taken false tag = refl

taken-same : (has : Bool) (last : ℕ) (o : Option State) → is_taken (status_of has last o) ≡ is_taken_entry o
taken-same has last None = refl
taken-same has last (Some Free) = refl
taken-same has last (Some Returned) = refl
taken-same has last (Some Made) = refl
taken-same has last (Some (InUse after)) = use-taken (eqb after last) has
taken-same has last (Some LetGo) = refl
taken-same has last (Some (DroppedNow after)) = refl
taken-same has last (Some (Dropped after g)) = held-taken (eqb after last) (tag_at g after)

use-dead : (t has : Bool) → is_dead (cond t Status.pending (cond has Status.live Status.left)) ≡ false
use-dead true has = refl
use-dead false true = refl
use-dead false false = refl

held-dead : (t : Bool) (tag : Tag) → is_dead (cond t Status.dropped (Status.held tag)) ≡ true
held-dead true tag = refl
held-dead false tag = refl

dead-same : (has : Bool) (last : ℕ) (o : Option State) → is_dead (status_of has last o) ≡ is_dead_entry o
dead-same has last None = refl
dead-same has last (Some Free) = refl
dead-same has last (Some Returned) = refl
dead-same has last (Some Made) = refl
dead-same has last (Some (InUse after)) = use-dead (eqb after last) has
dead-same has last (Some LetGo) = refl
dead-same has last (Some (DroppedNow after)) = refl
dead-same has last (Some (Dropped after g)) = held-dead (eqb after last) (tag_at g after)

use-held : (t has : Bool) → is_held_status (cond t Status.pending (cond has Status.live Status.left)) ≡ false
use-held true has = refl
use-held false true = refl
use-held false false = refl

held-held : (t : Bool) (tag : Tag) → is_held_status (cond t Status.dropped (Status.held tag)) ≡ cond t false true
held-held true tag = refl
held-held false tag = refl

held-same : (has : Bool) (last : ℕ) (o : Option State) → is_held_status (status_of has last o) ≡ is_held_entry last o
held-same has last None = refl
held-same has last (Some Free) = refl
held-same has last (Some Returned) = refl
held-same has last (Some Made) = refl
held-same has last (Some (InUse after)) = use-held (eqb after last) has
held-same has last (Some LetGo) = refl
held-same has last (Some (DroppedNow after)) = refl
held-same has last (Some (Dropped after g)) = held-held (eqb after last) (tag_at g after)

over-same : (f g : ℕ → ℕ) (n : ℕ) → ((b : ℕ) → b < n → f b ≡ g b) → over_buffers f n ≡ over_buffers g n
over-same f g zero same = refl
over-same f g (suc n) same =
    let rest = over-same f g n (λ b low. same b (omega arith)) in
    let here = same n (omega arith) in
    omega arith

count-same : (bits : ℕ) (p : Status → Bool) (q : Option State → Bool) (status : ℕ → Status) (state : ℕ → Option State) (b n : ℕ) → ((r : ℕ) → p (status r) ≡ q (state r))
    → count_entries bits p status b n ≡ count_states bits q state b n
count-same bits p q status state b zero same = refl
count-same bits p q status state b (suc n) same =
    let rest = count-same bits p q status state b n same in
    let here : one_if (p (status (packed bits (suc n) b))) ≡ one_if (q (state (packed bits (suc n) b))) = ap one_if (same (packed bits (suc n) b)) in
    omega arith

module _ {H : Type 0} (bits : ℕ) (work : WorkView H) (shape : ℕ) (m : Records) (e : EntriesView) (unit : Bool) (st : Stands bits work m e unit) where
  abbrev ledger : Ledger H
  ledger = ledger_of bits work shape m e unit

  width-is : (b : ℕ) → b < work.sizes.buffers → width_of e b ≡ active_width (work.buffer b)
  width-is b below = mark-width (e.mark b) (work.buffer b) (st.marks b below)

  active-is : (b : ℕ) → b < work.sizes.buffers → is_state_active (e.mark b).state ≡ is_active_buffer (work.buffer b)
  active-is b below = mark-active (e.mark b) (work.buffer b) (st.marks b below)

  mark-wide : (b : ℕ) → b < work.sizes.buffers → is_state_active (e.mark b).state ≡ true → (e.mark b).width ≡ active_width (work.buffer b)
  mark-wide b below active = sym (ap (λ u. cond u (e.mark b).width 0) active) ∙ width-is b below

  -- what the entries ask of a seal
  pub seal-may : (b : ℕ) → IsUnfilled ledger b → (is_state_active (e.mark b).state ≡ true) × ((e.of_width (e.mark b).width).filled ≢ Some b)
  seal-may b open_still =
      let active : is_state_active (e.mark b).state ≡ true = active-is b open_still.below ∙ active-from (work.buffer b) open_still.active in
      (active, λ h. this-not (e.of_width (active_width (work.buffer b))).filled b open_still.unfilled (sym (ap (λ n. (e.of_width n).filled) (mark-wide b open_still.below active)) ∙ h))

  pub stands-sealed : (new : EntriesView) (b : ℕ) → Seals e new b → IsGood bits new → Stands bits work m new unit
  stands-sealed new b seals good = record {
    good = good;
    count = ap (λ x. x.count) seals.same ∙ st.count;
    words = ap (λ x. x.words) seals.same ∙ st.words;
    last = ap (λ x. x.last) seals.same ∙ st.last;
    generation = ap (λ x. x.generation) seals.same ∙ st.generation;
    oldest = ap (λ x. x.oldest) seals.same ∙ st.oldest;
    marks = λ a inside. subst (λ f. is_mark_of (f a) (work.buffer a) ≡ true) (sym seals.mark) (marked (eqb a b) a (λ t. eqb-true a b t) (st.marks a inside));
    sound = sound-same bits work m (statuses work.commits e) (statuses work.commits new) st.sound (λ r. ap (λ x. statuses work.commits x r) seals.same);
    since = λ r. subst (λ x. is_in_generation x.last x.generation (x.state r) ≡ true) (sym seals.same) (st.since r);
    settled = λ ended r. ap (λ x. is_settled_entry (x.state r)) seals.same ∙ st.settled ended r;
    no_fresh = λ ended w. let few = (seals.counts w).fresh in let none = st.no_fresh ended w in omega arith;
    left_out = λ r is. subst (λ f. (f (buffer_of bits r)).sealed ≡ true) (sym seals.mark)
        (sealed-still (eqb (buffer_of bits r) b) (buffer_of bits r) (st.left_out r (sym (ap (λ x. statuses work.commits x r) seals.same) ∙ is)));
    timely = st.timely;
    unread = st.unread;
  }
    where
      sealed-still : (t : Bool) (a : ℕ) → (e.mark a).sealed ≡ true → (cond t (record (e.mark b) { sealed = true }) (e.mark a)).sealed ≡ true
      sealed-still true a is = refl
      sealed-still false a is = is

      sealed-mark : (a : ℕ) (c : Buffer) → is_mark_of (e.mark a) c ≡ true → is_mark_of (record (e.mark a) { sealed = true }) c ≡ true
      sealed-mark a (Buffer.free t) is = is
      sealed-mark a (Buffer.active w t) is = is
      sealed-mark a (Buffer.held w t) is = is

      marked : (t : Bool) (a : ℕ) → (t ≡ true → a ≡ b) → is_mark_of (e.mark a) (work.buffer a) ≡ true → is_mark_of (cond t (record (e.mark b) { sealed = true }) (e.mark a)) (work.buffer a) ≡ true
      marked true a same is = subst (λ x. is_mark_of (record (e.mark x) { sealed = true }) (work.buffer a) ≡ true) (same refl) (sealed-mark a (work.buffer a) is)
      marked false a same is = is

  pub stands-unsealed : (new : EntriesView) (b : ℕ) → Unseals e new b → IsGood bits new → ((r : ℕ) → statuses work.commits e r ≡ Status.left → buffer_of bits r ≢ b)
      → Stands bits work m new unit
  stands-unsealed new b unseals good none_left = record {
    good = good;
    count = ap (λ x. x.count) unseals.same ∙ st.count;
    words = ap (λ x. x.words) unseals.same ∙ st.words;
    last = ap (λ x. x.last) unseals.same ∙ st.last;
    generation = ap (λ x. x.generation) unseals.same ∙ st.generation;
    oldest = ap (λ x. x.oldest) unseals.same ∙ st.oldest;
    marks = λ a inside. subst (λ f. is_mark_of (f a) (work.buffer a) ≡ true) (sym unseals.mark) (marked (eqb a b) a (λ t. eqb-true a b t) (st.marks a inside));
    sound = sound-same bits work m (statuses work.commits e) (statuses work.commits new) st.sound status-now;
    since = λ r. subst (λ x. is_in_generation x.last x.generation (x.state r) ≡ true) (sym unseals.same) (st.since r);
    settled = λ ended r. ap (λ x. is_settled_entry (x.state r)) unseals.same ∙ st.settled ended r;
    no_fresh = λ ended w. (unseals.counts w).fresh ∙ st.no_fresh ended w;
    left_out = λ r is.
        let was = sym (status-now r) ∙ is in
        subst (λ f. (f (buffer_of bits r)).sealed ≡ true) (sym unseals.mark)
        (ap (λ t. (cond t (record (e.mark b) { sealed = false }) (e.mark (buffer_of bits r))).sealed) (ne_eqb (buffer_of bits r) b (none_left r was)) ∙ st.left_out r was);
    timely = st.timely;
    unread = st.unread;
  }
    where
      status-now : (r : ℕ) → statuses work.commits new r ≡ statuses work.commits e r
      status-now r = ap (λ x. statuses work.commits x r) unseals.same

      unsealed-mark : (a : ℕ) (c : Buffer) → is_mark_of (e.mark a) c ≡ true → is_mark_of (record (e.mark a) { sealed = false }) c ≡ true
      unsealed-mark a (Buffer.free t) is = is
      unsealed-mark a (Buffer.active w t) is = is
      unsealed-mark a (Buffer.held w t) is = is

      marked : (t : Bool) (a : ℕ) → (t ≡ true → a ≡ b) → is_mark_of (e.mark a) (work.buffer a) ≡ true → is_mark_of (cond t (record (e.mark b) { sealed = false }) (e.mark a)) (work.buffer a) ≡ true
      marked true a same is = subst (λ x. is_mark_of (record (e.mark x) { sealed = false }) (work.buffer a) ≡ true) (same refl) (unsealed-mark a (work.buffer a) is)
      marked false a same is = is

  pub stands-finished : (new : EntriesView) (b : ℕ) → new ≡ record e { finished = Some b } → IsGood bits new → Stands bits work m new unit
  stands-finished new b is good = record {
    good = good;
    count = ap (λ x. x.count) is ∙ st.count;
    words = ap (λ x. x.words) is ∙ st.words;
    last = ap (λ x. x.last) is ∙ st.last;
    generation = ap (λ x. x.generation) is ∙ st.generation;
    oldest = ap (λ x. x.oldest) is ∙ st.oldest;
    marks = λ a inside. ap (λ x. is_mark_of (x.mark a) (work.buffer a)) is ∙ st.marks a inside;
    sound = sound-same bits work m (statuses work.commits e) (statuses work.commits new) st.sound (λ r. ap (λ x. statuses work.commits x r) is);
    since = λ r. ap (λ x. is_in_generation x.last x.generation (x.state r)) is ∙ st.since r;
    settled = λ ended r. ap (λ x. is_settled_entry (x.state r)) is ∙ st.settled ended r;
    no_fresh = λ ended w. ap (λ x. (x.of_width w).fresh) is ∙ st.no_fresh ended w;
    left_out = λ r left. ap (λ x. (x.mark (buffer_of bits r)).sealed) is ∙ st.left_out r (sym (ap (λ x. statuses work.commits x r) is) ∙ left);
    timely = st.timely;
    unread = st.unread;
  }

  -- a buffer's words
  used-same : (b : ℕ) → b < work.sizes.buffers → used_words bits ledger b ≡ used_states bits e b
  used-same b below =
      ap (λ w. w * (1 + count_entries bits is_taken (statuses work.commits e) b (capacity work.sizes.words w))) (sym (width-is b below))
      ∙ ap (λ n. width_of e b * (1 + count_entries bits is_taken (statuses work.commits e) b (capacity n (width_of e b)))) (sym st.words)
      ∙ ap (λ n. width_of e b * (1 + n)) (count-same bits is_taken is_taken_entry (statuses work.commits e) e.state b (capacity e.words (width_of e b))
      (λ r. taken-same (is_in (last_image work.commits) r) e.last (e.state r)))

  dead-words-same : (b : ℕ) → b < work.sizes.buffers → dead_words bits ledger b ≡ dead_states bits e b
  dead-words-same b below =
      ap (λ w. w * count_entries bits is_dead (statuses work.commits e) b (capacity work.sizes.words w)) (sym (width-is b below))
      ∙ ap (λ n. width_of e b * count_entries bits is_dead (statuses work.commits e) b (capacity n (width_of e b))) (sym st.words)
      ∙ ap (λ n. width_of e b * n) (count-same bits is_dead is_dead_entry (statuses work.commits e) e.state b (capacity e.words (width_of e b)) (λ r. dead-same (is_in (last_image work.commits) r) e.last (e.state r)))

  held-words-same : (b : ℕ) → b < work.sizes.buffers → held_words bits ledger b ≡ held_states bits e b
  held-words-same b below =
      ap (λ w. w * count_entries bits is_held_status (statuses work.commits e) b (capacity work.sizes.words w)) (sym (width-is b below))
      ∙ ap (λ n. width_of e b * count_entries bits is_held_status (statuses work.commits e) b (capacity n (width_of e b))) (sym st.words)
      ∙ ap (λ n. width_of e b * n) (count-same bits is_held_status (is_held_entry e.last) (statuses work.commits e) e.state b (capacity e.words (width_of e b))
      (λ r. held-same (is_in (last_image work.commits) r) e.last (e.state r)))

  -- what all buffers have, by statuses
  over-words : (states words : ℕ → ℕ) → ((b : ℕ) → b < work.sizes.buffers → words b ≡ states b) → over_buffers states e.count ≡ over_buffers words work.sizes.buffers
  over-words states words same = ap (over_buffers states) st.count ∙ over-same states words work.sizes.buffers (λ b below. sym (same b below))

  pub usage-is : (active on_hold : ℕ) (words : WordCounts) → active ≡ count_marks is_state_active e.mark e.count → on_hold ≡ count_marks is_on_hold e.mark e.count → HasWords bits e words
      → IsUsage bits ledger (record { active = active; on_hold = on_hold; used = words.used; dead = words.dead; held = words.held })
  usage-is active on_hold words few waits has = record {
    active = few ∙ ap (count_marks is_state_active e.mark) st.count ∙ count-active e.mark work.buffer work.sizes.buffers st.marks;
    on_hold = waits ∙ ap (count_marks is_on_hold e.mark) st.count ∙ count-held e.mark work.buffer work.sizes.buffers st.marks;
    used = has.used ∙ over-words (used_states bits e) (used_words bits ledger) used-same;
    dead = has.dead ∙ over-words (dead_states bits e) (dead_words bits ledger) dead-words-same;
    held = has.held ∙ over-words (held_states bits e) (held_words bits ledger) held-words-same;
  }

  candidate-to : (b : ℕ) → IsCandidate bits ledger b → IsCandidateEntry bits e b
  candidate-to b is =
      let may = seal-may b (record { below = is.below; active = is.active; unfilled = is.unfilled }) in
      let used = used-same b is.below in let dead = dead-words-same b is.below in let more = is.dead in
      record {
        below = subst (λ n. b < n) (sym st.count) is.below;
        active = may.0;
        unfilled = may.1;
        unsealed = is.unsealed;
        dead = omega arith;
      }

  candidate-from : (b : ℕ) → IsCandidateEntry bits e b → IsCandidate bits ledger b
  candidate-from b is =
      let below : b < work.sizes.buffers = subst (λ n. b < n) st.count is.below in
      let wide = mark-wide b below is.active in
      let used = used-same b below in let dead = dead-words-same b below in let more = is.dead in
      record {
        below = below;
        active = active-some (work.buffer b) (sym (active-is b below) ∙ is.active) b below is;
        unfilled = this-false (e.of_width (active_width (work.buffer b))).filled b (λ h. is.unfilled (ap (λ n. (e.of_width n).filled) wide ∙ h));
        unsealed = is.unsealed;
        dead = omega arith;
      }
    where
      active-some : (c : Buffer) → is_active_buffer c ≡ true → (b : ℕ) → b < work.sizes.buffers → IsCandidateEntry bits e b → 0 < active_width (work.buffer b)
      active-some c is b below cand = dead-some (active_width (work.buffer b)) (width-is b below) cand.dead
        where
          dead-some : (w : ℕ) → width_of e b ≡ w → used_states bits e b < dead_states bits e b * 20 → 0 < w
          dead-some zero none more = (let no_dead : dead_states bits e b ≡ 0 * count_states bits is_dead_entry e.state b (capacity e.words (width_of e b)) = ap
              (λ w. w * count_states bits is_dead_entry e.state b (capacity e.words (width_of e b))) none in absurd (omega arith))
          dead-some (suc w) some more = omega arith

  pub victim-is : (result : Option ℕ) → IfSome result (IsVictimEntry bits e) → IfSome result (IsVictim bits ledger)
  victim-is None is = tt
  victim-is (Some b) is = record {
    candidate = candidate-from b is.candidate;
    most = λ a cand.
        let below : b < work.sizes.buffers = subst (λ n. b < n) st.count is.candidate.below in
        let first = dead-words-same a cand.below in let second = dead-words-same b below in
        ⊎_elim (λ less. inl (omega arith)) (λ same. inr (omega (arith, same.0), same.1)) (is.most a (candidate-to a cand));
  }

  pub no-victim : (result : Option ℕ) → IfNone result ((b : ℕ) → IsCandidateEntry bits e b → ⊥) → IfNone result (HasNoVictim bits ledger)
  no-victim None none = record { none = λ b is. none b (candidate-to b is) }
  no-victim (Some b) none = tt
