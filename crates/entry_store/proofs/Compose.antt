-- The calls of a store by their steps.
use Rattle.std.proofs.Common.{◌≡◌, ◌≢◌, ℕ, zero, suc, nat_eq, ◌+◌, ◌*◌, ◌<◌, ◌≤◌, Bool, true, false, cond, eqb, ltb, leb, Result, Ok, Err, List, [], ◌∷◌, length, Some, refl, sym, ap, subst, ◌∙◌, arith, inl, inr}
use Rattle.std.specs.List.{IsDistinct, All}
use Rattle.std.specs.Prelude.{◌⊎◌, ◌&&◌, IfOk, IfErr, OnErr}
use Rattle.std.proofs.lemmas.Nat.{le-div}
use Rattle.std.proofs.lemmas.List.Elements.{All-from_recursion}
use Rattle.list_lemmas.specs.Counting.{one_if}
use Rattle.std.proofs.lemmas.Bool.{true≢false, cases_eq, eq-eqb, eqb-true, ne_eqb, and_parts, leb-true, ltb-true}
use Rattle.list_lemmas.proofs.Tests.{true_from_list_all}
use Rattle.entry_ref.specs.References.{buffer_of}
use Rattle.entry_ref.specs.Places.{IsEntry}
use Rattle.entry_ref.specs.Records.{Records}
use Rattle.arena_api.specs.Works.{WorkView, Buffer, Tag, active_width, last_tag, oldest_of, newest_of}
use Rattle.arena_api.specs.Calls.{IsLowestFree, handed_out}
use Rattle.arena_api.specs.Generations.{IsQueue, current}
use Rattle.arena_api.specs.declared.answers.Oldest.{Oldest}
use Rattle.store_api.specs.Statuses.{Status, in_use, is_open, is_taken, is_free_status, after_drop, free_below, with_status}
use Rattle.store_api.specs.Ledgers.{Ledger, OfWidth, IsSpare, held_count, is_held, is_width, widths, capacity, with_counts, one_more}
use Rattle.store_api.specs.Units.{MayDo, IsSameBack, KeepsCommits}
use Rattle.store_api.specs.Calls.{GivesBack, MayGiveBack, Makes, IsFull, Refuses, ComesAfter, DropsEntry, took_spare, took_buffer}
use Rattle.store_api.specs.declared.store.StoreError.{StoreError}
use Rattle.store_api.specs.declared.store.StoreError.TheVariants.{Full, Memory}
use Rattle.store_api.proofs.May.{may_do-same, keeps_commits-same}
use Rattle.store_api.proofs.Uses.{below_uses, drop_ends, with_status-same, with_status-other}
use Rattle.entry_store.specs.Steps.{TakesOne, OpensBuffer, MakesOpened, TellsOldest, FullAs}
use Rattle.entry_store.specs.ProofsForMarks.{count-all}
use Rattle.entry_store.proofs.Queues.{newest-drop, oldest-rises}

one-distinct : (r : ℕ) → IsDistinct nat_eq (r ∷ [])
unfolding IsDistinct
one-distinct r = (tt, tt)

-- what a reclaim may do within a unit
below-back : (g : ℕ) (c : Status) → IsSameBack c (free_below g c)
below-back g Status.unmade = inl refl
below-back g Status.free = inl refl
below-back g Status.pending = inl refl
below-back g Status.live = inl refl
below-back g Status.dropped = inl refl
below-back g Status.let_go = inl refl
below-back g (Status.held tag) = by_test (ltb tag.generation g)
  where
    by_test : (t : Bool) → IsSameBack (Status.held tag) (cond t Status.free (Status.held tag))
    by_test true = inr (refl, refl)
    by_test false = inl refl
below-back g Status.left = inl refl

-- what is held becomes free only below the oldest generation, and what is taken stays so
below-freed : (g : ℕ) (tag : Tag) → free_below g (Status.held tag) ≡ Status.free → tag.generation < g
below-freed g tag = by_test (ltb tag.generation g) refl
  where
    by_test : (t : Bool) → ltb tag.generation g ≡ t → cond t Status.free (Status.held tag) ≡ Status.free → tag.generation < g
    by_test true is e = ltb-true _ _ is
    by_test false is e = absurd (true≢false (sym (ap is_free_status e)))

below-taken : (g : ℕ) (c : Status) → is_taken c ≡ true → is_taken (free_below g c) ≡ true
below-taken g Status.unmade is = is
below-taken g Status.free is = is
below-taken g Status.pending is = is
below-taken g Status.live is = is
below-taken g Status.dropped is = is
below-taken g Status.let_go is = is
below-taken g (Status.held tag) is = by_test (ltb tag.generation g)
  where
    by_test : (t : Bool) → is_taken (cond t Status.free (Status.held tag)) ≡ true
    by_test true = refl
    by_test false = refl
below-taken g Status.left is = is

drop-taken : (c b : Status) → is_taken c ≡ true → is_taken (after_drop c b) ≡ true
drop-taken Status.unmade b is = is
drop-taken Status.free b is = is
drop-taken Status.pending b is = by_back b
  where
    by_back : (b : Status) → is_taken (after_drop Status.pending b) ≡ true
    by_back Status.unmade = refl
    by_back Status.free = refl
    by_back Status.pending = refl
    by_back Status.live = refl
    by_back Status.dropped = refl
    by_back Status.let_go = refl
    by_back (Status.held tag) = refl
    by_back Status.left = refl
drop-taken Status.live b is = refl
drop-taken Status.dropped b is = is
drop-taken Status.let_go b is = is
drop-taken (Status.held tag) b is = is
drop-taken Status.left b is = is

-- one status is not another, by a test that tells them apart
apart-by : (test : Status → Bool) (a b : Status) → a ≡ b → test a ≡ true → test b ≡ false → ⊥
apart-by test a b same first second = true≢false (sym first ∙ ap test same ∙ second)

pub back-may : {H : Type 0} (old new : Ledger H) → IsQueue old.work → GivesBack old new → MayDo old new
back-may old new queue back = record {
  unit = ap (λ l. l.unit) back.same;
  home = ap (λ w. w.home) back.work;
  shape = ap (λ l. l.shape) back.same;
  bits = ap (λ l. l.bits) back.same;
  sizes = ap (λ w. w.sizes) back.work;
  commits = back.commits;
  told = ap (λ w. w.told) back.work;
  readers = ap (λ w. w.made) back.work;
  stops = back.stops;
  alone = back.alone;
  newest = ap newest_of back.queue ∙ newest-drop back.closed old.work.queue back.left;
  sealed = ap (λ l. l.sealed) back.same;
  finished = ap (λ l. l.finished) back.same;
  made = λ w. let same = (back.counts w).made in omega arith;
  back = λ r. subst (IsSameBack (old.back r)) (sym (back.back r)) (below-back (oldest_of new.work.queue).generation (old.back r));
  oldest = subst (λ q. (oldest_of old.work.queue).generation ≤ (oldest_of q).generation) (sym back.queue)
      (oldest-rises back.closed old.work.queue queue.order back.left);
  held = λ r tag is free.
      below-freed (oldest_of new.work.queue).generation tag (ap (free_below (oldest_of new.work.queue).generation) (sym is) ∙ sym (back.back r) ∙ free);
  taken = λ r is free. absurd (apart-by is_free_status _ _ (sym free ∙ back.back r ∙ ap (free_below (oldest_of new.work.queue).generation) is) refl refl);
  stays = λ r is. ap is_taken (back.status r) ∙ below-taken (oldest_of new.work.queue).generation (old.status r) is;
  back_records = ap (λ l. l.back_records) back.same;
  newly = λ r used. inl (sym (below_uses (oldest_of new.work.queue).generation (old.status r)) ∙ sym (ap in_use (back.status r)) ∙ used);
  unsealed = λ r used sealed. sym (below_uses (oldest_of new.work.queue).generation (old.status r)) ∙ sym (ap in_use (back.status r)) ∙ used;
}

-- what the making of one entry may do
made-more : (made : ℕ) → made ≤ 18446744073709551615 → made ≤ one_more made
made-more made few = omega arith

pub one-may : {H : Type 0} (bits : ℕ) (old new : Ledger H) (m n : Records) (width : ℕ) (words : List ℕ) (r : ℕ) → TakesOne bits old new m n width words r
    → (old.of_width width).made ≤ 18446744073709551615 → new.bits ≡ bits → MayDo old new
one-may bits old new m n width words r one few sized = record {
  unit = ap (λ l. l.unit) one.same;
  home = ap (λ w. w.home) one.takes.work;
  shape = ap (λ l. l.shape) one.same;
  bits = ap (λ l. l.bits) one.same;
  sizes = ap (λ w. w.sizes) one.takes.work;
  commits = subst (λ w. KeepsCommits old.work.commits w.commits) (sym one.takes.work) (keeps_commits-same old.work.commits);
  told = ap (λ w. w.told) one.takes.work;
  readers = ap (λ w. w.made) one.takes.work;
  stops = let same = ap (λ w. w.stops) one.takes.work in omega arith;
  alone = λ none. ap (λ w. w.stops) one.takes.work;
  newest = ap (λ w. newest_of w.queue) one.takes.work;
  sealed = ap (λ l. l.sealed) one.same;
  finished = ap (λ l. l.finished) one.same;
  made = λ w. subst (λ f. (old.of_width w).made ≤ (f w).made) (sym one.takes.counts) (by_width w);
  back = one.back;
  oldest = let same = ap (λ w. (oldest_of w.queue).generation) one.takes.work in omega arith;
  held = λ q tag is free. elim (cases_eq q r) [
    | inl e ↦ absurd (apart-by is_open _ _ (sym (ap old.back e) ∙ is) one.back_was refl)
    | inr ne ↦ absurd (apart-by is_free_status _ _ (sym free ∙ one.back_other q ne ∙ is) refl refl)
  ];
  taken = λ q is free. elim (cases_eq q r) [
    | inl e ↦ ap is_taken (ap (λ (f : ℕ → Status). f q) one.status ∙ with_status-same old.status r q Status.pending e)
    | inr ne ↦ absurd (apart-by is_free_status _ _ (sym free ∙ one.back_other q ne ∙ is) refl refl)
  ];
  stays = λ q is. elim (cases_eq q r) [
    | inl e ↦ ap is_taken (ap (λ (f : ℕ → Status). f q) one.status ∙ with_status-same old.status r q Status.pending e)
    | inr ne ↦ ap is_taken (ap (λ (f : ℕ → Status). f q) one.status ∙ with_status-other old.status r q Status.pending ne) ∙ is
  ];
  back_records = ap (λ l. l.back_records) one.same;
  newly = λ q used. elim (cases_eq q r) [
    | inl e ↦ inr (ap (λ x. is_open (new.back x)) e ∙ one.opened)
    | inr ne ↦ inl (sym (ap in_use (ap (λ (f : ℕ → Status). f q) one.status ∙ with_status-other old.status r q Status.pending ne)) ∙ used)
  ];
  unsealed = λ q used sealed. elim (cases_eq q r) [
    | inl e ↦ absurd (true≢false (sym sealed ∙ ap (λ x. new.sealed (buffer_of new.bits x)) e ∙ ap (λ k. new.sealed (buffer_of k r)) sized ∙ one.unsealed))
    | inr ne ↦ sym (ap in_use (ap (λ (f : ℕ → Status). f q) one.status ∙ with_status-other old.status r q Status.pending ne)) ∙ used
  ];
}
  where
    by_width : (w : ℕ) → (old.of_width w).made ≤ (with_counts old.of_width width (took_spare (old.of_width width)) w).made
    by_width w = elim (cases_eq w width) [
      | inl e ↦ subst (λ t. (old.of_width w).made ≤ (cond t (took_spare (old.of_width width)) (old.of_width w)).made) (sym (eq-eqb w width e))
          (subst (λ x. (old.of_width x).made ≤ one_more (old.of_width width).made) (sym e) (made-more (old.of_width width).made few))
      | inr ne ↦ subst (λ t. (old.of_width w).made ≤ (cond t (took_spare (old.of_width width)) (old.of_width w)).made) (sym (ne_eqb w width ne)) (omega arith)
    ]

-- what handing out a buffer may do
pub opens-may : {H : Type 0} (old new : Ledger H) (width : ℕ) → OpensBuffer old new width → MayDo old new
opens-may old new width opens = record {
  unit = ap (λ l. l.unit) opens.same;
  home = ap (λ w. w.home) opens.work;
  shape = ap (λ l. l.shape) opens.same;
  bits = ap (λ l. l.bits) opens.same;
  sizes = ap (λ w. w.sizes) opens.work;
  commits = subst (λ w. KeepsCommits old.work.commits w.commits) (sym opens.work) (keeps_commits-same old.work.commits);
  told = ap (λ w. w.told) opens.work;
  readers = ap (λ w. w.made) opens.work;
  stops = let same = ap (λ w. w.stops) opens.work in omega arith;
  alone = λ none. ap (λ w. w.stops) opens.work;
  newest = ap (λ w. newest_of w.queue) opens.work;
  sealed = ap (λ l. l.sealed) opens.same;
  finished = ap (λ l. l.finished) opens.same;
  made = λ w. subst (λ f. (old.of_width w).made ≤ (f w).made) (sym opens.counts) (by_test (eqb w width) w (cases w));
  back = λ r. inl (ap (λ l. l.back r) opens.same);
  oldest = let same = ap (λ w. (oldest_of w.queue).generation) opens.work in omega arith;
  held = λ r tag is free. absurd (apart-by is_free_status _ _ (sym free ∙ ap (λ l. l.back r) opens.same ∙ is) refl refl);
  taken = λ r is free. absurd (apart-by is_free_status _ _ (sym free ∙ ap (λ l. l.back r) opens.same ∙ is) refl refl);
  stays = λ r is. ap (λ l. is_taken (l.status r)) opens.same ∙ is;
  back_records = ap (λ l. l.back_records) opens.same;
  newly = λ q used. inl (sym (ap (λ l. in_use (l.status q)) opens.same) ∙ used);
  unsealed = λ q used sealed. sym (ap (λ l. in_use (l.status q)) opens.same) ∙ used;
}
  where
    now : OfWidth
    now = record (old.of_width width) { spare = capacity old.work.sizes.words width; buffers = (old.of_width width).buffers + 1; filled = Some opens.buffer }

    cases : (w : ℕ) → eqb w width ≡ true → w ≡ width
    cases w e = eqb-true w width e

    by_test : (t : Bool) (w : ℕ) → (t ≡ true → w ≡ width) → (old.of_width w).made ≤ (cond t now (old.of_width w)).made
    by_test true w is = subst (λ x. (old.of_width x).made ≤ (old.of_width width).made) (sym (is refl)) (omega arith)
    by_test false w is = omega arith

-- an entry made of what is to spare
pub one-makes : {H : Type 0} (bits : ℕ) (old mid new : Ledger H) (m n : Records) (width : ℕ) (words : List ℕ) (r : ℕ) → MayGiveBack old mid → (mid ≡ old) ⊎ ((old.of_width width).spare ≡ 0)
    → TakesOne bits mid new m n width words r → Makes bits old new m n width words r
one-makes bits old mid new m n width words r back needed one = record {
  mid = mid;
  gives_back = back;
  needed = needed;
  was = one.was;
  free_first = one.free_first;
  place = one.place;
  of_width = one.of_width;
  unsealed = one.unsealed;
  status = one.status;
  none = one.none;
  records = one.records;
  from = inl one.takes;
}

-- or of a buffer that was handed out
module _ {H : Type 0} (bits : ℕ) (old mid opened new : Ledger H) (m n : Records) (width : ℕ) (words : List ℕ) (r : ℕ) (back : GivesBack old mid) (opens : OpensBuffer mid opened width)
    (none : (mid.of_width width).spare ≡ 0) (spares : (refs : List ℕ) → IsDistinct nat_eq refs → All (IsSpare bits mid width) refs → length refs ≤ (mid.of_width width).spare)
    (one : TakesOne bits opened new m n width words r) where
  status-same : (q : ℕ) → opened.status q ≡ mid.status q
  status-same q = ap (λ l. l.status q) opens.same

  sealed-same : (b : ℕ) → opened.sealed b ≡ mid.sealed b
  sealed-same b = ap (λ l. l.sealed b) opens.same

  work-is : new.work ≡ record (handed_out mid.work opens.buffer width) { stored = new.work.stored }
  work-is = one.takes.work ∙ ap (λ (w : WorkView H). record w { stored = new.work.stored }) opens.work

  -- the width of a buffer beside the new one
  width-other : (b : ℕ) → b ≢ opens.buffer → active_width (opened.work.buffer b) ≡ active_width (mid.work.buffer b)
  width-other b ne =
      ap (λ w. active_width (w.buffer b)) opens.work
      ∙ ap (λ t. active_width (cond t (Buffer.active width (last_tag (mid.work.buffer opens.buffer))) (mid.work.buffer b))) (ne_eqb b opens.buffer ne)

  width-opened : (b : ℕ) → active_width (mid.work.buffer b) ≡ width → active_width (opened.work.buffer b) ≡ width
  width-opened b is = ap (λ w. active_width (w.buffer b)) opens.work ∙ by_test (eqb b opens.buffer)
    where
      by_test : (t : Bool) → active_width (cond t (Buffer.active width (last_tag (mid.work.buffer opens.buffer))) (mid.work.buffer b)) ≡ width
      by_test true = refl
      by_test false = is

  sizes-new : new.work.sizes ≡ mid.work.sizes
  sizes-new = ap (λ w. w.sizes) one.takes.work ∙ ap (λ w. w.sizes) opens.work

  buffer-new : new.work.buffer ≡ opened.work.buffer
  buffer-new = ap (λ w. w.buffer) one.takes.work

  -- nothing else is to spare, so the entry lies in the new buffer
  lies-in : buffer_of bits r ≡ opens.buffer
  lies-in = elim (cases_eq (buffer_of bits r) opens.buffer) [
    | inl e ↦ e
    | inr ne ↦ (let wide : active_width (mid.work.buffer (buffer_of bits r)) ≡ width = sym (width-other (buffer_of bits r) ne) ∙ sym (ap (λ f. active_width (f (buffer_of bits r))) buffer-new) ∙ one.of_width in
        let few : 1 ≤ (mid.of_width width).spare = spares (r ∷ []) (one-distinct r) (All-from_recursion (IsSpare bits mid width) (r ∷ []) (
          record {
            entry = subst (λ k. IsEntry bits mid.work.sizes.buffers mid.work.sizes.words k r) (sym wide)
                (subst (λ z. IsEntry bits z.buffers z.words width r) sizes-new one.place);
            of_width = wide;
            opened = sym (ap is_open (status-same r)) ∙ one.was;
            unsealed = sym (sealed-same (buffer_of bits r)) ∙ sym (ap (λ l. l.sealed (buffer_of bits r)) one.same) ∙ one.unsealed;
          },
          tt,
        )) in
        absurd (omega arith))
  ]

  counts-new : new.of_width ≡ with_counts mid.of_width width (took_buffer (capacity mid.work.sizes.words width) opens.buffer (mid.of_width width))
  counts-new =
      one.takes.counts ∙ ap (λ f. with_counts f width (took_spare (f width))) opens.counts ∙ (λ k w. at w k)
    where
      now : OfWidth
      now = record (mid.of_width width) { spare = capacity mid.work.sizes.words width; buffers = (mid.of_width width).buffers + 1; filled = Some opens.buffer }

      at : (w : ℕ) → cond (eqb w width) (took_spare (cond (eqb width width) now (mid.of_width width))) (cond (eqb w width) now (mid.of_width w))
          ≡ cond (eqb w width) (took_buffer (capacity mid.work.sizes.words width) opens.buffer (mid.of_width width)) (mid.of_width w)
      at w = subst (λ t. cond (eqb w width) (took_spare (cond t now (mid.of_width width))) (cond (eqb w width) now (mid.of_width w))
          ≡ cond (eqb w width) (took_buffer (capacity mid.work.sizes.words width) opens.buffer (mid.of_width width)) (mid.of_width w)) (sym (eq-eqb width width refl)) (by_test (eqb w width))
        where
          by_test : (t : Bool) → cond t (took_spare now) (cond t now (mid.of_width w)) ≡ cond t (took_buffer (capacity mid.work.sizes.words width) opens.buffer (mid.of_width width)) (mid.of_width w)
          by_test true = refl
          by_test false = refl

  pub buffer-makes : Makes bits old new m n width words r
  buffer-makes = record {
    mid = mid;
    gives_back = inr back;
    needed = inr (let rises = (back.counts width).spare in omega arith);
    was = sym (ap is_open (status-same r)) ∙ one.was;
    free_first = λ is q wide open_still free.
        one.free_first (status-same r ∙ is) q (width-opened (buffer_of bits q) wide) (sealed-same (buffer_of bits q) ∙ open_still) (status-same q ∙ free);
    place = one.place;
    of_width = one.of_width;
    unsealed = one.unsealed;
    status = one.status ∙ ap (λ f. with_status f r Status.pending) (ap (λ l. l.status) opens.same);
    none = one.none;
    records = one.records;
    from = inr (
      back,
      record {
        none = none;
        lowest = subst (IsLowestFree mid.work.buffer mid.work.sizes.buffers) (sym lies-in) opens.lowest;
        work = work-is ∙ ap (λ (b : ℕ). record (handed_out mid.work b width) { stored = new.work.stored }) (sym lies-in);
        counts = counts-new ∙ ap (λ b. with_counts mid.of_width width (took_buffer (capacity mid.work.sizes.words width) b (mid.of_width width))) (sym lies-in);
      },
    );
  }

-- without readers nothing is on hold
held-none : (buffer : ℕ → Buffer) (n : ℕ) → ((b : ℕ) → b < n → is_held (buffer b) ≡ false) → held_count buffer n ≡ 0
held-none buffer zero none = refl
held-none buffer (suc n) none =
    let rest = held-none buffer n (λ b low. none b (omega arith)) in
    let here : one_if (is_held (buffer n)) ≡ 0 = ap one_if (none n (omega arith)) in
    omega arith

-- a store that is full
pub is-full : {H : Type 0} (old mid new : Ledger H) (width : ℕ) (oldest : Oldest) (error : StoreError) → TellsOldest old.work mid.work oldest → new ≡ mid → (mid.of_width width).spare ≡ 0
    → (mid.of_width width).buffers * capacity mid.work.sizes.words width ≤ (mid.of_width width).made + (mid.of_width width).spare
    → ((b : ℕ) → b < mid.work.sizes.buffers → mid.work.made ≡ 0 → current mid.work < mid.work.sizes.generations → is_held (mid.work.buffer b) ≡ false)
    → FullAs mid.work width oldest error → Refuses old new width error
is-full old mid new width oldest Memory tells same none enough unread full = tt
is-full old mid new width oldest (Full w active held answer) tells same none enough unread full = (
  full.0,
  subst (λ l. IsFull old l width active held answer) (sym same) (record {
    spare = none;
    made = omega (arith, enough, none);
    free = full.1;
    active_is = full.2;
    held_is = full.3;
    all = let all = count-all mid.work.buffer mid.work.sizes.buffers in let free = full.1 in let a = full.2 in let h = full.3 in omega arith;
    unread = λ alone limit. full.3 ∙ held-none mid.work.buffer mid.work.sizes.buffers (λ b low. unread b low alone limit);
    generation = ap (λ o. o.generation) full.4 ∙ tells.generation;
    hold = ap (λ o. o.hold) full.4 ∙ tells.hold;
    newest = subst (λ o. o.newest ≡ true → (length mid.work.queue ≡ 1) × (o.found ≡ 0)) (sym full.4) tells.newest;
    stopped = subst (λ o. o.newest ≡ false → (1 < length mid.work.queue) × (0 < o.found) × (old.work.stops < mid.work.stops)) (sym full.4) tells.stopped;
    found = subst (λ o. o.newest ≡ false → o.found ≡ mid.work.found) (sym full.4) tells.found;
  }),
)

-- what a drop may do
pub drop-may : {H : Type 0} (old new : Ledger H) (m n : Records) (r : ℕ) → in_use (old.status r) ≡ true → DropsEntry old new m n r → MayDo old new
drop-may old new m n r used drops = record {
  unit = ap (λ l. l.unit) drops.same;
  home = ap (λ l. l.work.home) drops.same;
  shape = ap (λ l. l.shape) drops.same;
  bits = ap (λ l. l.bits) drops.same;
  sizes = ap (λ l. l.work.sizes) drops.same;
  commits = subst (λ l. KeepsCommits old.work.commits l.work.commits) (sym drops.same) (keeps_commits-same old.work.commits);
  told = ap (λ l. l.work.told) drops.same;
  readers = ap (λ l. l.work.made) drops.same;
  stops = let same = ap (λ l. l.work.stops) drops.same in omega arith;
  alone = λ none. ap (λ l. l.work.stops) drops.same;
  newest = ap (λ l. newest_of l.work.queue) drops.same;
  sealed = ap (λ l. l.sealed) drops.same;
  finished = ap (λ l. l.finished) drops.same;
  made = λ w. let same = (drops.counts w).made in omega arith;
  back = λ q. inl (ap (λ l. l.back q) drops.same);
  oldest = let same = ap (λ l. (oldest_of l.work.queue).generation) drops.same in omega arith;
  held = λ q tag is free. absurd (apart-by is_free_status _ _ (sym free ∙ ap (λ l. l.back q) drops.same ∙ is) refl refl);
  taken = λ q is free. absurd (apart-by is_free_status _ _ (sym free ∙ ap (λ l. l.back q) drops.same ∙ is) refl refl);
  stays = λ q is. elim (cases_eq q r) [
    | inl e ↦ ap is_taken (ap (λ (f : ℕ → Status). f q) drops.status ∙ with_status-same old.status r q _ e)
        ∙ drop-taken (old.status r) (old.back r) (ap (λ x. is_taken (old.status x)) (sym e) ∙ is)
    | inr ne ↦ ap is_taken (ap (λ (f : ℕ → Status). f q) drops.status ∙ with_status-other old.status r q _ ne) ∙ is
  ];
  back_records = ap (λ l. l.back_records) drops.same;
  newly = λ q now. elim (cases_eq q r) [
    | inl e ↦ absurd (true≢false (sym now ∙ ap in_use (ap (λ (f : ℕ → Status). f q) drops.status ∙ with_status-same old.status r q _ e) ∙ drop_ends (old.status r) (old.back r) used))
    | inr ne ↦ inl (sym (ap in_use (ap (λ (f : ℕ → Status). f q) drops.status ∙ with_status-other old.status r q _ ne)) ∙ now)
  ];
  unsealed = λ q now sealed. elim (cases_eq q r) [
    | inl e ↦ absurd (true≢false (sym now ∙ ap in_use (ap (λ (f : ℕ → Status). f q) drops.status ∙ with_status-same old.status r q _ e) ∙ drop_ends (old.status r) (old.back r) used))
    | inr ne ↦ sym (ap in_use (ap (λ (f : ℕ → Status). f q) drops.status ∙ with_status-other old.status r q _ ne)) ∙ now
  ];
}

width-bounds : (w : ℕ) → is_width w ≡ true → (2 ≤ w) × (w ≤ 1024)
width-bounds w is =
    let both = and_parts _ _ (true_from_list_all (λ v. leb 2 v && leb v 1024) w widths is refl) in
    (leb-true _ _ both.0, leb-true _ _ both.1)

capacity-some : (words w : ℕ) → 8192 ≤ words → is_width w ≡ true → 0 < capacity words w
capacity-some words w some is =
    let bounds = width-bounds w is in
    let eight : 8 * w ≤ words = omega arith in
    let many = le-div 8 words w (omega arith) eight in
    omega arith

pub opened-spare : {H : Type 0} (old new : Ledger H) (width : ℕ) → OpensBuffer old new width → 8192 ≤ old.work.sizes.words → is_width width ≡ true → 0 < (new.of_width width).spare
opened-spare old new width opens long is =
    subst (λ f. 0 < (f width).spare) (sym opens.counts)
    (subst (λ t. 0 < (cond t (record (old.of_width width) { spare = capacity old.work.sizes.words width; buffers = (old.of_width width).buffers + 1; filled = Some opens.buffer }) (old.of_width width)).spare)
    (sym (eq-eqb width width refl))
    (capacity-some old.work.sizes.words width long is))

-- a make that was first refused, after a reclaim
module _ {H : Type 0} (bits : ℕ) (old mid new : Ledger H) (m k n : Records) (width : ℕ) (words : List ℕ) (back : GivesBack old mid) (none : (mid.of_width width).spare ≡ 0)
    (spares : (refs : List ℕ) → IsDistinct nat_eq refs → All (IsSpare bits mid width) refs → length refs ≤ (mid.of_width width).spare) (same : k ≡ m) where
  pub again-makes : (result : Result ℕ StoreError) → IfOk result (MakesOpened bits mid new k n width words) → IfOk result (Makes bits old new m n width words)
  again-makes (Ok r) makes =
      buffer-makes bits old mid makes.opened new m n width words r back makes.opens none spares (subst (λ (x : Records). TakesOne bits makes.opened new x n width words r) same makes.takes)
  again-makes (Err e) makes = tt

  pub again-refused : (result : Result ℕ StoreError) → OnErr result (new ≡ mid) → OnErr result (MayGiveBack old new)
  again-refused (Ok r) is = tt
  again-refused (Err e) is = inr (subst (GivesBack old) (sym is) back)

  pub again-after : (result : Result ℕ StoreError) → OnErr result (new ≡ mid) → IfErr result (ComesAfter old new width)
  again-after (Ok r) is = tt
  again-after (Err (Full w active held oldest)) is = subst (GivesBack old) (sym is) back
  again-after (Err Memory) is = inr (let rises = (back.counts width).spare in omega arith)

  pub again-left : (result : Result ℕ StoreError) → OnErr result (n ≡ k) → OnErr result (n ≡ m)
  again-left (Ok r) is = tt
  again-left (Err e) is = is ∙ same

  pub again-refuses : (oldest : Oldest) → TellsOldest old.work mid.work oldest
      → ((b : ℕ) → b < mid.work.sizes.buffers → mid.work.made ≡ 0 → current mid.work < mid.work.sizes.generations → is_held (mid.work.buffer b) ≡ false)
      → (mid.of_width width).buffers * capacity mid.work.sizes.words width ≤ (mid.of_width width).made + (mid.of_width width).spare
      → (result : Result ℕ StoreError) → OnErr result (new ≡ mid) → IfErr result (FullAs mid.work width oldest) → IfErr result (Refuses old new width)
  again-refuses oldest tells unread enough (Ok r) is full = tt
  again-refuses oldest tells unread enough (Err e) is full = is-full old mid new width oldest e tells is none enough unread full

pub takes-over : {H : Type 0} {bits : ℕ} {old new : Ledger H} {m k n : Records} {width : ℕ} {words : List ℕ} {r : ℕ} → m ≡ k → TakesOne bits old new m n width words r → TakesOne bits old new k n width words r
takes-over {H} {bits} {old} {new} {m} {k} {n} {width} {words} {r} same takes = subst (λ (x : Records). TakesOne bits old new x n width words r) same takes

pub may-same : {H : Type 0} {old new : Ledger H} → new ≡ old → MayDo old new
may-same {H} {old} {new} same = subst (λ l. MayDo old l) (sym same) (may_do-same old)
