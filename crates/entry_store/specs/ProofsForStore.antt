-- Proofs of the laws of `Store`. They are in specs/ since an implementation can cite laws only from there; they are
-- not part of the specification.
use Rattle.std.proofs.Common.{◌≡◌, ℕ, zero, suc, ◌+◌, ◌*◌, ◌/◌, ◌<◌, ◌≤◌, Bool, true, false, cond, eqb, List, [], ◌∷◌, length, Option}
use Rattle.std.proofs.Common.{Some, None, refl, sym, ap, subst, ◌∙◌, arith}
use Rattle.std.specs.List.{IsDistinct, All, AllByRecursion}
use Rattle.std.proofs.lemmas.List.Elements.{All-head, All-tail, All-from_recursion}
use Rattle.std.proofs.Common.{inl, inr, leb, option_map}
use Rattle.std.specs.Prelude.{◌&&◌, ◌↔◌}
use Rattle.std.proofs.lemmas.Bool.{false≢true, cond-true, cases_Bool, eq-eqb, ne_eqb, leb-true, lt-ltb, and_parts}
use Rattle.entry_ledger.specs.declared.state.State.{State}
use Rattle.entry_ledger.specs.declared.state.State.TheVariants.{Free, Returned, Made, InUse, LetGo, DroppedNow, Dropped}
use Rattle.entry_ledger.specs.States.{undone}
use Rattle.entry_ref.specs.References.{buffer_of}
use Rattle.entry_ref.specs.Places.{IsEntry}
use Rattle.entry_ref.specs.Records.{Records}
use Rattle.entry_ref.specs.Images.{words_at}
use Rattle.arena_api.specs.Works.{WorkView, Tag, active_width, free_count, last_image}
use Rattle.arena_api.specs.Calls.{FitsEntry, InNoCommit}
use Rattle.store_api.specs.Statuses.{Status, in_use, has_record, is_taken, is_committed, is_uncommitted}
use Rattle.store_api.specs.Ledgers.{IsSettled, IsEntryOf, IsSpare, IsHeldEntry, IsUnfilled, is_this, is_in, is_width, buffers_in, widths}
use Rattle.store_api.specs.Ledgers.{capacity}
use Rattle.store_api.proofs.Counting.{few_entries, few_nodes}
use Rattle.buffer_states.specs.declared.BufferState.{BufferState}
use Rattle.buffer_states.specs.Buffers.{is_state_free, is_state_active}
use Rattle.entry_ledger.specs.Entries.{EntriesView, is_timely, width_of, count_marks}
use Rattle.entry_ledger.specs.Entries.{IsSpare as IsSpareEntry}
use Rattle.entry_store.specs.Standing.{Stands, status_of, back_of, statuses, backs, ledger_of, tag_at}
use Rattle.entry_store.specs.ProofsForMarks.{mark-width, count-free}
use Rattle.entry_store.specs.ProofsForStates.{open-state, unmade-none, untouched}

-- a record that passes the filter by status exists
pub some_filtered : (t : Bool) (ws : List ℕ) → 0 < length (cond t ws []) → (t ≡ true) × (0 < length ws)
some_filtered true ws h = (refl, h)
some_filtered false ws h = absurd (omega arith)

committed-has : (c : Status) → is_committed c ≡ true → has_record c ≡ true
committed-has Status.unmade h = h
committed-has Status.free h = h
committed-has Status.pending h = refl
committed-has Status.live h = refl
committed-has Status.dropped h = refl
committed-has Status.let_go h = refl
committed-has (Status.held tag) h = h
committed-has Status.left h = h

-- an entry that was in use before the open unit has a record, then and now
use-has : (c : Status) → in_use c ≡ true → has_record c ≡ true
use-has Status.unmade h = h
use-has Status.free h = h
use-has Status.pending h = refl
use-has Status.live h = refl
use-has Status.dropped h = refl
use-has Status.let_go h = refl
use-has (Status.held tag) h = h
use-has Status.left h = h

back-has : (has : Bool) (last : ℕ) (o : Option State) → in_use (back_of has last o) ≡ true → has_record (status_of has last o) ≡ true
back-has has last None h = absurd (false≢true h)
back-has has last (Some State.Free) h = absurd (false≢true h)
back-has has last (Some State.Returned) h = absurd (false≢true h)
back-has has last (Some State.Made) h = absurd (false≢true h)
back-has has last (Some (State.InUse after)) h = use-has (status_of has last (Some (State.InUse after))) h
back-has has last (Some State.LetGo) h = refl
back-has has last (Some (State.DroppedNow after)) h = refl
back-has has last (Some (State.Dropped after g)) h = use-has (status_of has last (Some (State.Dropped after g))) h

use-again : (t has : Bool) → t ≡ true → cond t Status.pending (cond has Status.live Status.left) ≡ Status.left → ⊥
use-again true has is e = (cc)
use-again false has is e = false≢true is

use-live : (t has : Bool) → has ≡ true → cond t Status.pending (cond has Status.live Status.left) ≡ Status.left → ⊥
use-live true has is e = (cc)
use-live false true is e = (cc)
use-live false false is e = false≢true is

pub undone-left : (has : Bool) (last : ℕ) (o : Option State) → (status_of has last o ≡ Status.dropped → has ≡ true) → status_of has last (option_map (undone last) o) ≡ Status.left
    → status_of has last o ≡ Status.left
undone-left has last None live e = e
undone-left has last (Some Free) live e = e
undone-left has last (Some Returned) live e = e
undone-left has last (Some Made) live e = absurd (cc)
undone-left has last (Some (InUse after)) live e = e
undone-left has last (Some LetGo) live e = absurd (use-again (eqb last last) has (eq-eqb last last refl) e)
undone-left has last (Some (DroppedNow after)) live e = absurd (use-live (eqb after last) has (live refl) e)
undone-left has last (Some (Dropped after g)) live e = e

-- no unit changes what a commit left out
back-left : (has : Bool) (last : ℕ) (o : Option State) → status_of has last o ≡ Status.left → back_of has last o ≡ Status.left
back-left has last None e = e
back-left has last (Some State.Free) e = e
back-left has last (Some State.Returned) e = e
back-left has last (Some State.Made) e = absurd (cc)
back-left has last (Some (State.InUse after)) e = e
back-left has last (Some State.LetGo) e = absurd (cc)
back-left has last (Some (State.DroppedNow after)) e = absurd (cc)
back-left has last (Some (State.Dropped after g)) e = e

abbrev tag-in : Tag → Status → Tag
tag-in other (Status.held tag) = tag
tag-in other status = other

-- a held entry was dropped in its tag's generation, before its commit
use-held : (t has : Bool) (tag : Tag) → cond t Status.pending (cond has Status.live Status.left) ≡ Status.held tag → ⊥
use-held true has tag e = (cc)
use-held false true tag e = (cc)
use-held false false tag e = (cc)

held-dropped : (t : Bool) (after last g : ℕ) (tag : Tag) → eqb after last ≡ t
    → cond t Status.dropped (Status.held (tag_at g after)) ≡ Status.held tag → (eqb after last ≡ false) × (tag_at g after ≡ tag)
held-dropped true after last g tag is e = absurd (cc)
held-dropped false after last g tag is e = (is, ap (tag-in tag) e)

pub held-state : (has : Bool) (last : ℕ) (o : Option State) (tag : Tag) → status_of has last o ≡ Status.held tag
    → (after : ℕ) × (g : ℕ) × (o ≡ Some (Dropped after g)) × (eqb after last ≡ false) × (tag_at g after ≡ tag)
held-state has last None tag e = absurd (cc)
held-state has last (Some State.Free) tag e = absurd (cc)
held-state has last (Some State.Returned) tag e = absurd (cc)
held-state has last (Some State.Made) tag e = absurd (cc)
held-state has last (Some (State.InUse after)) tag e = absurd (use-held (eqb after last) has tag e)
held-state has last (Some State.LetGo) tag e = absurd (cc)
held-state has last (Some (State.DroppedNow after)) tag e = absurd (cc)
held-state has last (Some (State.Dropped after g)) tag e =
    let both = held-dropped (eqb after last) after last g tag refl e in (after, g, refl, both.0, both.1)

up-parts : (e : EntriesView) (after g : ℕ) → is_timely e (Dropped after g) ≡ true → (e.oldest ≤ g) × (g ≤ e.generation)
up-parts e after g up =
    let parts = and_parts (leb after e.last && leb e.oldest g) (leb g e.generation) up in
    let more = and_parts (leb after e.last) (leb e.oldest g) parts.0 in
    (leb-true e.oldest g more.1, leb-true g e.generation parts.1)

module _ {H : Type 0} (bits : ℕ) (work : WorkView H) (m : Records) (e : EntriesView) (unit : Bool) (st : Stands bits work m e unit) where
  abbrev status : ℕ → Status
  status r = statuses work.commits e r

  abbrev records : Records
  records r = cond (has_record (statuses work.commits e r)) (m r) []

  -- an entry of the ledger is an entry of the work
  pub entry-inside : (r : ℕ) (s : State) → e.state r ≡ Some s
      → IsEntry bits work.sizes.buffers work.sizes.words (active_width (work.buffer (buffer_of bits r))) r
  entry-inside r s is =
      let entry = st.good.entries r s is in
      let inside : buffer_of bits r < work.sizes.buffers = subst (λ n. buffer_of bits r < n) st.count entry.inside in
      subst (λ n. IsEntry bits n work.sizes.words (active_width (work.buffer (buffer_of bits r))) r) st.count
      (subst (λ n. IsEntry bits e.count n (active_width (work.buffer (buffer_of bits r))) r) st.words
      (subst (λ n. IsEntry bits e.count e.words n r)
      (mark-width (e.mark (buffer_of bits r)) (work.buffer (buffer_of bits r)) (st.marks (buffer_of bits r) inside)) entry))

  pub store_references : ((r : ℕ) → 0 < length (m r) → r < 4294967296) → (r : ℕ) → 0 < length (records r) → r < 4294967296
  store_references small r some = small r (some_filtered _ _ some).1

  pub store_recorded : (r : ℕ) → (has_record (status r) ≡ true → 0 < length (records r))
      × (0 < length (records r) → has_record (status r) ≡ true)
  store_recorded r = (
    λ h. subst (λ ws. 0 < length ws) (sym (cond-true (has_record (status r)) (m r) [] h)) (st.sound.there r h),
    λ some. (some_filtered (has_record (status r)) (m r) some).0,
  )

  pub store_placed : ((r : ℕ) → 0 < length (m r)
      → FitsEntry bits work.sizes (active_width (work.buffer (buffer_of bits r))) r (length (m r)))
      → (r : ℕ) → 0 < length (records r) → FitsEntry bits work.sizes (active_width (work.buffer (buffer_of bits r))) r (length (records r))
  store_placed fits r some =
      let both = some_filtered (has_record (status r)) (m r) some in
      subst (λ ws. FitsEntry bits work.sizes (active_width (work.buffer (buffer_of bits r))) r (length ws))
      (sym (cond-true (has_record (status r)) (m r) [] both.0)) (fits r both.1)

  pub store_taken : (r : ℕ) → is_taken (status r) ≡ true → IsEntryOf bits work r
  store_taken r taken = by_state (e.state r) refl taken
    where
      by_state : (o : Option State) → e.state r ≡ o → is_taken (status_of (is_in (last_image work.commits) r) e.last o) ≡ true
          → IsEntryOf bits work r
      by_state None is h = absurd (false≢true h)
      by_state (Some s) is h = entry-inside r s is

  -- the width of a buffer
  width-of : (b : ℕ) → b < work.sizes.buffers → width_of e b ≡ active_width (work.buffer b)
  width-of b below = mark-width (e.mark b) (work.buffer b) (st.marks b below)

  -- an entry of an active buffer of the work is an entry of the ledger
  entry-of : (r : ℕ) → IsEntryOf bits work r → IsEntry bits e.count e.words (width_of e (buffer_of bits r)) r
  entry-of r entry =
      subst (λ n. IsEntry bits n e.words (width_of e (buffer_of bits r)) r) (sym st.count)
      (subst (λ n. IsEntry bits work.sizes.buffers n (width_of e (buffer_of bits r)) r) (sym st.words)
      (subst (λ n. IsEntry bits work.sizes.buffers work.sizes.words n r) (sym (width-of (buffer_of bits r) entry.inside)) entry))

  pub store_filled : (r : ℕ) → IsEntryOf bits work r → status r ≡ Status.unmade
      → (e.of_width (active_width (work.buffer (buffer_of bits r)))).filled ≡ Some (buffer_of bits r)
  store_filled r entry none =
      subst (λ n. (e.of_width n).filled ≡ Some (buffer_of bits r)) (width-of (buffer_of bits r) entry.inside)
      (st.good.filled r (entry-of r entry) (unmade-none (is_in (last_image work.commits) r) e.last (e.state r) none))

  spare-entry : (shape width r : ℕ) → IsSpare bits (ledger_of bits work shape m e unit) width r → IsSpareEntry bits e width r
  spare-entry shape width r spare =
      let wide : width_of e (buffer_of bits r) ≡ width = width-of (buffer_of bits r) spare.entry.inside ∙ spare.of_width in
      record {
        entry = subst (λ n. IsEntry bits e.count e.words n r) wide (entry-of r spare.entry);
        of_width = wide;
        is_open = open-state (is_in (last_image work.commits) r) e.last (e.state r) spare.opened;
        unsealed = spare.unsealed;
      }

  each-spare : (shape width : ℕ) (refs : List ℕ) → All (IsSpare bits (ledger_of bits work shape m e unit) width) refs
      → AllByRecursion (IsSpareEntry bits e width) refs
  each-spare shape width [] all = tt
  each-spare shape width (r ∷ rs) all = (
    spare-entry shape width r (All-head (IsSpare bits (ledger_of bits work shape m e unit) width) r rs all),
    each-spare shape width rs (All-tail (IsSpare bits (ledger_of bits work shape m e unit) width) r rs all),
  )

  -- an active buffer has one of the widths
  width-is : (r : ℕ) (width : ℕ) → IsSpareEntry bits e width r → is_width width ≡ true
  width-is r width spare = elim (cases_Bool (is_state_active (e.mark (buffer_of bits r)).state)) [
    | inl t ↦ (let same : (e.mark (buffer_of bits r)).width ≡ width = sym (ap (λ u. cond u (e.mark (buffer_of bits r)).width 0) t)
        ∙ spare.of_width in
        ap is_width (sym same) ∙ (st.good.marks (buffer_of bits r)).width (active-busy _ t))
    | inr t ↦ (let wide = spare.entry.wide in
        let none : 0 ≡ width = sym (ap (λ u. cond u (e.mark (buffer_of bits r)).width 0) t) ∙ spare.of_width in absurd (omega arith))
  ]
    where
      active-busy : (s : BufferState) → is_state_active s ≡ true → is_state_free s ≡ false
      active-busy BufferState.Free h = absurd (false≢true h)
      active-busy BufferState.Active h = refl
      active-busy BufferState.OnHold h = absurd (false≢true h)

  pub store_spares : (shape width : ℕ) (refs : List ℕ) → IsDistinct eqb refs
      → All (IsSpare bits (ledger_of bits work shape m e unit) width) refs → length refs ≤ (e.of_width width).spare
  store_spares shape width [] distinct all = omega arith
  store_spares shape width (r ∷ rs) distinct all =
      let each = each-spare shape width (r ∷ rs) all in
      st.good.spares width (r ∷ rs) (width-is r width each.0) distinct (All-from_recursion (IsSpareEntry bits e width) (r ∷ rs) each)

  pub store_unkept : (r : ℕ) → IsEntryOf bits work r → is_uncommitted (status r) ≡ true → InNoCommit work.commits r
  store_unkept r entry h = st.sound.unkept r entry.wide entry.inside h

  pub store_held : (shape r : ℕ) (tag : Tag) → status r ≡ Status.held tag → IsHeldEntry (ledger_of bits work shape m e unit) r tag
  store_held shape r tag is =
      let from = held-state (is_in (last_image work.commits) r) e.last (e.state r) tag is in
      let up = st.good.up_to r (Dropped from.0 from.1) from.2 in
      let parts = up-parts e from.0 from.1 up in
      let low : e.oldest ≤ from.1 = parts.0 in
      let high : from.1 ≤ e.generation = parts.1 in
      let out = st.sound.out r tag is in
      let same : from.1 ≡ tag.generation = ap (λ t. t.generation) from.4 in
      record {
        unused = out.unused;
        later = out.later;
        open_still = let o = st.oldest in omega arith;
        generation = let g = st.generation in omega arith;
        commit = out.commit;
      }

  pub store_last : (r : ℕ) → is_committed (status r) ≡ true → records r ≡ words_at (last_image work.commits) r
  store_last r h = cond-true (has_record (status r)) (m r) [] (committed-has _ h) ∙ st.sound.committed r h

  pub store_steady : (r : ℕ) → in_use (backs work.commits e r) ≡ true → records r ≡ cond (has_record (backs work.commits e r)) (m r) []
  store_steady r h =
      cond-true (has_record (status r)) (m r) [] (back-has (is_in (last_image work.commits) r) e.last (e.state r) h)
      ∙ sym (cond-true (has_record (backs work.commits e r)) (m r) [] (use-has (backs work.commits e r) h))

  back-same : unit ≡ false → (r : ℕ) → backs work.commits e r ≡ statuses work.commits e r
  back-same ended r = ap (status_of (is_in (last_image work.commits) r) e.last) (untouched e.last (e.state r) (st.settled ended r))

  pub store_settled : (shape : ℕ) → unit ≡ false → IsSettled (ledger_of bits work shape m e unit) records
  store_settled shape ended = record {
    back = λ k r. back-same ended r k;
    back_records = λ k r. cond (has_record (back-same ended r k)) (m r) [];
    fresh = st.no_fresh ended;
  }

  pub store_left_out : (r : ℕ) → status r ≡ Status.left → (e.mark (buffer_of bits r)).sealed ≡ true
  store_left_out r is = st.left_out r is

  -- what is dropped is in the last commit
  pub dropped-live : (r : ℕ) → status r ≡ Status.dropped → is_in (last_image work.commits) r ≡ true
  dropped-live r is =
      let some = st.sound.there r (ap has_record is) in
      lt-ltb 0 _ (subst (λ ws. 0 < length ws) (st.sound.committed r (ap is_committed is)) some)

  pub store_left_stays : (r : ℕ) → (status r ≡ Status.left) ↔ (backs work.commits e r ≡ Status.left)
  store_left_stays r = (
    back-left (is_in (last_image work.commits) r) e.last (e.state r),
    undone-left (is_in (last_image work.commits) r) e.last (e.state r) (dropped-live r),
  )

  pub store_sealed : (shape b : ℕ) → (e.mark b).sealed ≡ true → IsUnfilled (ledger_of bits work shape m e unit) b
  store_sealed shape b is =
      let sealed = st.good.sealed b is in
      let below : b < work.sizes.buffers = subst (λ n. b < n) st.count sealed.below in
      let wide : (e.mark b).width ≡ active_width (work.buffer b) = sym (ap (λ u. cond u (e.mark b).width 0) sealed.active)
      ∙ width-of b below in
      record {
        below = below;
        active = subst (λ n. 0 < n) wide (wide-some (e.mark b).width ((st.good.marks b).width (active-busy _ sealed.active)));
        unfilled = unfilled-from (e.of_width (active_width (work.buffer b))).filled
            (λ h. sealed.unfilled (ap (λ n. (e.of_width n).filled) wide ∙ h));
      }
    where
      active-busy : (s : BufferState) → is_state_active s ≡ true → is_state_free s ≡ false
      active-busy BufferState.Free h = absurd (false≢true h)
      active-busy BufferState.Active h = refl
      active-busy BufferState.OnHold h = absurd (false≢true h)

      wide-some : (w : ℕ) → is_width w ≡ true → 0 < w
      wide-some zero h = absurd (false≢true h)
      wide-some (suc w) h = omega arith

      unfilled-from : (o : Option ℕ) → (o ≡ Some b → ⊥) → is_this o b ≡ false
      unfilled-from None none = refl
      unfilled-from (Some a) none = ne_eqb a b (λ same. none (ap (λ n. Some n) same))

  pub store_finished : (b : ℕ) → e.finished ≡ Some b → (e.mark b).sealed ≡ true
  store_finished b is = st.good.finished b is

  pub store_counted : free_count work.buffer work.sizes.buffers + buffers_in e.of_width widths ≡ work.sizes.buffers
  store_counted =
      let free : count_marks is_state_free e.mark work.sizes.buffers ≡ free_count work.buffer work.sizes.buffers =
      count-free e.mark work.buffer work.sizes.buffers st.marks in
      let whole : count_marks is_state_free e.mark work.sizes.buffers + buffers_in e.of_width widths ≡ work.sizes.buffers =
      subst (λ n. count_marks is_state_free e.mark n + buffers_in e.of_width widths ≡ n) st.count st.good.whole in
      omega arith

  pub store_few_buffers : (w : ℕ) → is_width w ≡ true → (e.of_width w).buffers ≤ 1 + (e.of_width w).made / capacity work.sizes.words w
  store_few_buffers w is = subst (λ n. (e.of_width w).buffers ≤ 1 + (e.of_width w).made / capacity n w) st.words (st.good.few w is)

  pub store_enough : (w : ℕ) → is_width w ≡ true → (e.of_width w).buffers * capacity work.sizes.words w ≤ (e.of_width w).made + (e.of_width w).spare
  store_enough w is = subst (λ n. (e.of_width w).buffers * capacity n w ≤ (e.of_width w).made + (e.of_width w).spare) st.words (st.good.enough w is)

  pub store_unfilled : (shape b : ℕ) → IsUnfilled (ledger_of bits work shape m e unit) b
      → capacity work.sizes.words (active_width (work.buffer b)) ≤ (e.of_width (active_width (work.buffer b))).made
  store_unfilled shape b is =
      let below : b < e.count = subst (λ n. b < n) (sym st.count) is.below in
      let some : 0 < cond (is_state_active (e.mark b).state) (e.mark b).width 0 = subst (λ n. 0 < n) (sym (width-of b is.below)) is.active in
      let active : is_state_active (e.mark b).state ≡ true = active-from (is_state_active (e.mark b).state) (e.mark b).width some in
      let wide : (e.mark b).width ≡ active_width (work.buffer b) = sym (ap (λ u. cond u (e.mark b).width 0) active) ∙ width-of b is.below in
      subst (λ w. capacity work.sizes.words w ≤ (e.of_width w).made) wide
      (subst (λ n. capacity n (e.mark b).width ≤ (e.of_width (e.mark b).width).made) st.words
      (st.good.unfilled b (record {
        below = below;
        active = active;
        unfilled = λ filled. this-not (e.of_width (active_width (work.buffer b))).filled is.unfilled (ap (λ n. (e.of_width n).filled) (sym wide) ∙ filled);
      })))
    where
      active-from : (t : Bool) (w : ℕ) → 0 < cond t w 0 → t ≡ true
      active-from true w some = refl
      active-from false w some = absurd (omega arith)

      this-not : (o : Option ℕ) → is_this o b ≡ false → o ≡ Some b → ⊥
      this-not o none is = absurd (false≢true (sym none ∙ ap (λ q. is_this q b) is ∙ eq-eqb b b refl))

  entries-each : ((r : ℕ) → 0 < length (m r) → FitsEntry bits work.sizes (active_width (work.buffer (buffer_of bits r))) r (length (m r)))
      → (w : ℕ) → 0 < w
      → (refs : List ℕ) → All (λ r. length (records r) ≡ w) refs → AllByRecursion (IsEntry bits work.sizes.buffers work.sizes.words w) refs
  entries-each fits w wide [] all = tt
  entries-each fits w wide (r ∷ rs) all = (one, entries-each fits w wide rs (All-tail (λ q. length (records q) ≡ w) r rs all))
    where
      long : length (records r) ≡ w
      long = All-head (λ q. length (records q) ≡ w) r rs all

      one : IsEntry bits work.sizes.buffers work.sizes.words w r
      one =
          let fit = store_placed fits r (omega (arith, long, wide)) in
          subst (λ n. IsEntry bits work.sizes.buffers work.sizes.words n r) (sym fit.whole ∙ long) fit.entry

  pub store_few_records : ((r : ℕ) → 0 < length (m r)
      → FitsEntry bits work.sizes (active_width (work.buffer (buffer_of bits r))) r (length (m r))) → (w : ℕ) (refs : List ℕ) → 0 < w
      → IsDistinct eqb refs → All (λ r. length (records r) ≡ w) refs → length refs ≤ work.sizes.buffers * capacity work.sizes.words w
  store_few_records fits w refs wide distinct all =
      few_entries bits work.sizes.buffers work.sizes.words w refs distinct (entries-each fits w wide refs all)

  pub store_few_nodes : ((r : ℕ) → 0 < length (m r)
      → FitsEntry bits work.sizes (active_width (work.buffer (buffer_of bits r))) r (length (m r)))
      → work.sizes.buffers * work.sizes.words ≤ 67108864
      → (refs : List ℕ) → IsDistinct eqb refs → All (λ r. length (records r) ≡ 34) refs → length refs ≤ 1973790
  store_few_nodes fits total refs distinct all =
      omega (arith, store_few_records fits 34 refs (omega arith) distinct all, few_nodes work.sizes.buffers work.sizes.words total)
