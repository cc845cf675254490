-- What the calls of the entries make of the ledger.
use Rattle.std.proofs.Common.{◌≡◌, ◌≢◌, ℕ, ◌+◌, ◌<◌, ◌≤◌, Bool, true, false, cond, eqb, ltb, List, [], Option, Some, None, refl, sym, ap, subst, ◌∙◌, arith, inl, inr}
use Rattle.std.proofs.lemmas.Bool.{true≢false, false≢true, cases_eq, cases_Bool, eq-eqb, ne_eqb}
use Rattle.entry_ledger.specs.declared.state.State.{State}
use Rattle.entry_ledger.specs.declared.state.State.TheVariants.{Free, Returned, Made, InUse, LetGo, DroppedNow, Dropped}
use Rattle.entry_ledger.specs.States.{is_free_state, dropped}
use Rattle.buffer_states.specs.declared.BufferState.{BufferState}
use Rattle.buffer_states.specs.declared.BufferState.TheVariants.{Free as FreeBuffer, Active, OnHold}
use Rattle.buffer_states.specs.Buffers.{is_on_hold, is_state_active}
use Rattle.entry_ref.specs.References.{buffer_of}
use Rattle.entry_ref.specs.Places.{IsEntry}
use Rattle.entry_ref.specs.Records.{Records, with_words}
use Rattle.arena_api.specs.Works.{WorkView, Commits, Tag, Stored, active_width, last_image, oldest_of}
use Rattle.arena_api.specs.Calls.{IsInOrder, IsLowestFree, handed_out, padded}
use Rattle.arena_api.specs.Generations.{LetsGo, Reclaims, reclaimed}
use Rattle.arena_api.specs.declared.answers.Oldest.{Oldest}
use Rattle.store_api.specs.Statuses.{Status, in_use, is_open, has_record, is_free_status, after_drop, after_accept, free_below, with_status}
use Rattle.store_api.specs.Ledgers.{Ledger, is_in, capacity, with_counts}
use Rattle.store_api.specs.Units.{KeepsCommits, IsSameBack}
use Rattle.store_api.specs.Calls.{GivesBack, DropsEntry}
use Rattle.store_api.specs.Calls.{Accepts as AcceptsUnit, Undoes as UndoesUnit, Seals as SealsBuffer, Unseals as UnsealsBuffer}
use Rattle.store_api.proofs.Uses.{open_no_record}
use Rattle.entry_ledger.specs.Entries.{EntriesView, is_free_entry, is_open_entry}
use Rattle.entry_ledger.specs.Calls.{CanTake, Drops, Accepts, Undoes, Frees, Seals, Unseals, made_at, opened_at, free_mark, with_mark}
use Rattle.entry_store.specs.Standing.{Stands, IsOver, status_by, status_of, statuses, backs, back_of, records_by_status, ledger_of}
use Rattle.entry_store.specs.Steps.{TakesOne, OpensBuffer, TellsOldest}
use Rattle.entry_store.specs.ProofsForMarks.{mark-width}
use Rattle.entry_store.proofs.Soundness.{lets-last}
use Rattle.entry_store.proofs.Stands.{status-freed, back-freed, status-set}
use Rattle.entry_store.specs.ProofsForStates.{with_state-at, in_use-used, dropped-status, dropped-back, accepted-status, accepted-records, open-status, open-back}

-- an offset that is free is an entry that is free
free-use : (t has : Bool) → cond t Status.pending (cond has Status.live Status.left) ≡ Status.free → ⊥
free-use true has e = (cc)
free-use false true e = (cc)
free-use false false e = (cc)

free-held : (t : Bool) (tag : Tag) → cond t Status.dropped (Status.held tag) ≡ Status.free → ⊥
free-held true tag e = (cc)
free-held false tag e = (cc)

free-entry : (has : Bool) (last : ℕ) (o : Option State) → status_of has last o ≡ Status.free → (s : State) × (o ≡ Some s) × (is_free_state s ≡ true)
free-entry has last None e = absurd (cc)
free-entry has last (Some Free) e = (Free, refl, refl)
free-entry has last (Some Returned) e = (Returned, refl, refl)
free-entry has last (Some Made) e = absurd (cc)
free-entry has last (Some (InUse after)) e = absurd (free-use (eqb after last) has e)
free-entry has last (Some LetGo) e = absurd (cc)
free-entry has last (Some (DroppedNow after)) e = absurd (cc)
free-entry has last (Some (Dropped after g)) e = absurd (free-held (eqb after last) _ e)

back-open : (has : Bool) (last : ℕ) (o : Option State) → is_open_entry o ≡ true → IsSameBack (back_of has last o) Status.free
back-open has last None h = inr (refl, refl)
back-open has last (Some Free) h = inl refl
back-open has last (Some Returned) h = inl refl
back-open has last (Some Made) h = absurd (false≢true h)
back-open has last (Some (InUse after)) h = absurd (false≢true h)
back-open has last (Some LetGo) h = absurd (false≢true h)
back-open has last (Some (DroppedNow after)) h = absurd (false≢true h)
back-open has last (Some (Dropped after g)) h = absurd (false≢true h)

below-has : (g : ℕ) (c : Status) → has_record (free_below g c) ≡ has_record c
below-has g Status.unmade = refl
below-has g Status.free = refl
below-has g Status.pending = refl
below-has g Status.live = refl
below-has g Status.dropped = refl
below-has g Status.let_go = refl
below-has g (Status.held tag) = by_test (ltb tag.generation g)
  where
    by_test : (t : Bool) → has_record (cond t Status.free (Status.held tag)) ≡ false
    by_test true = refl
    by_test false = refl
below-has g Status.left = refl

free-none : (c : Status) (ws : List ℕ) → cond (has_record c) ws [] ≡ cond (is_free_status c) [] (cond (has_record c) ws [])
free-none Status.unmade ws = refl
free-none Status.free ws = refl
free-none Status.pending ws = refl
free-none Status.live ws = refl
free-none Status.dropped ws = refl
free-none Status.let_go ws = refl
free-none (Status.held tag) ws = refl
free-none Status.left ws = refl

dropped-use-records : (t has : Bool) (last after : ℕ) (ws : List ℕ) → in_use (cond t Status.pending (cond has Status.live Status.left)) ≡ true
    → cond (has_record (status_by has last (cond t LetGo (DroppedNow after)))) ws []
    ≡ cond (is_free_status (status_by has last (cond t LetGo (DroppedNow after)))) [] (cond (has_record (cond t Status.pending (cond has Status.live Status.left))) ws [])
dropped-use-records true has last after ws h = refl
dropped-use-records false true last after ws h = refl
dropped-use-records false false last after ws h = absurd (false≢true h)

dropped-held-use : (t : Bool) (tag : Tag) → in_use (cond t Status.dropped (Status.held tag)) ≡ true → ⊥
dropped-held-use true tag h = false≢true h
dropped-held-use false tag h = false≢true h

dropped-records : (has : Bool) (last : ℕ) (s : State) (ws : List ℕ) → in_use (status_by has last s) ≡ true
    → cond (has_record (status_by has last (dropped last s))) ws [] ≡ cond (is_free_status (status_by has last (dropped last s))) [] (cond (has_record (status_by has last s)) ws [])
dropped-records has last Free ws h = absurd (false≢true h)
dropped-records has last Returned ws h = absurd (false≢true h)
dropped-records has last Made ws h = refl
dropped-records has last (InUse after) ws h = dropped-use-records (eqb after last) has last after ws h
dropped-records has last LetGo ws h = absurd (false≢true h)
dropped-records has last (DroppedNow after) ws h = absurd (false≢true h)
dropped-records has last (Dropped after g) ws h = absurd (dropped-held-use (eqb after last) _ h)

pub lets-keep : (old new : Commits) → LetsGo old new → KeepsCommits old new
lets-keep old new goes = record { last = goes.last; image = lets-last old new goes; rises = goes.rises; kept = goes.kept }

module _ {H : Type 0} (bits : ℕ) (work : WorkView H) (shape : ℕ) (m : Records) (e : EntriesView) (unit : Bool) (st : Stands bits work m e unit) where
  abbrev before : Ledger H
  before = ledger_of bits work shape m e unit

  abbrev has : ℕ → Bool
  has q = is_in (last_image work.commits) q

  abbrev records : Records
  records = records_by_status (statuses work.commits e) m

  -- a make of what is to spare
  module _ (width r : ℕ) (words : List ℕ) (can : CanTake bits e width r) (stored : Stored) (some : 0 < (e.of_width width).spare) where
    abbrev ws : List ℕ
    ws = padded words width

    abbrev after : Ledger H
    after = ledger_of bits (record work { stored = stored }) shape (with_words m r ws) (made_at e width r) unit

    place-in : IsEntry bits work.sizes.buffers work.sizes.words width r
    place-in =
        subst (λ n. IsEntry bits n work.sizes.words width r) st.count (subst (λ n. IsEntry bits e.count n width r) st.words can.entry)

    width-in : active_width (work.buffer (buffer_of bits r)) ≡ width
    width-in = sym (mark-width (e.mark (buffer_of bits r)) (work.buffer (buffer_of bits r)) (st.marks (buffer_of bits r) place-in.inside)) ∙ can.of_width

    records-made : records_by_status (statuses work.commits (made_at e width r)) (with_words m r ws) ≡ with_words records r ws
    records-made = λ k q. at q k
      where
        at : (q : ℕ) → cond (has_record (statuses work.commits (made_at e width r) q)) (cond (eqb q r) ws (m q)) [] ≡ cond (eqb q r) ws (cond (has_record (statuses work.commits e q)) (m q) [])
        at q = elim (cases_Bool (eqb q r)) [
          | inl t ↦ subst (λ u. cond (has_record (status_of (has q) e.last (cond u (Some Made) (e.state q)))) (cond u ws (m q)) [] ≡ cond u ws (cond (has_record (statuses work.commits e q)) (m q) [])) (sym t) refl
          | inr t ↦ subst (λ u. cond (has_record (status_of (has q) e.last (cond u (Some Made) (e.state q)))) (cond u ws (m q)) [] ≡ cond u ws (cond (has_record (statuses work.commits e q)) (m q) [])) (sym t) refl
        ]

    back-made : (q : ℕ) → IsSameBack (backs work.commits e q) (backs work.commits (made_at e width r) q)
    back-made q = with_state-at (λ o. IsSameBack (backs work.commits e q) (back_of (has q) e.last o)) e.state r Made q
        (λ same. subst (λ x. IsSameBack (back_of (has x) e.last (e.state x)) Status.free) (sym same) (back-open (has r) e.last (e.state r) can.is_open)) (λ ne. inl refl)

    back-records-made : records_by_status (backs work.commits (made_at e width r)) (with_words m r ws) ≡ records_by_status (backs work.commits e) m
    back-records-made = λ k q. at q k
      where
        at : (q : ℕ) → cond (has_record (backs work.commits (made_at e width r) q)) (cond (eqb q r) ws (m q)) [] ≡ cond (has_record (backs work.commits e q)) (m q) []
        at q = elim (cases_eq q r) [
          | inl t ↦ (let none : has_record (backs work.commits e q) ≡ false = ap (λ x. has_record (back_of (has x) e.last (e.state x))) t ∙ open_no_record _ (open-back (has r) e.last (e.state r) can.is_open) in
              subst (λ u. cond (has_record (back_of (has q) e.last (cond u (Some Made) (e.state q)))) (cond u ws (m q)) [] ≡ cond (has_record (backs work.commits e q)) (m q) []) (sym (eq-eqb q r t))
              (sym (ap (λ b. cond b (m q) []) none)))
          | inr t ↦ subst (λ u. cond (has_record (back_of (has q) e.last (cond u (Some Made) (e.state q)))) (cond u ws (m q)) [] ≡ cond (has_record (backs work.commits e q)) (m q) []) (sym (ne_eqb q r t)) refl
        ]

    none-free : e.state r ≡ None → (q : ℕ) → active_width (work.buffer (buffer_of bits q)) ≡ width → (e.mark (buffer_of bits q)).sealed ≡ false → statuses work.commits e q ≢ Status.free
    none-free none q wide open_still free =
        let found = free-entry (has q) e.last (e.state q) free in
        let entry = st.good.entries q found.0 found.1 in
        let inside : buffer_of bits q < work.sizes.buffers = subst (λ n. buffer_of bits q < n) st.count entry.inside in
        let same = mark-width (e.mark (buffer_of bits q)) (work.buffer (buffer_of bits q)) (st.marks (buffer_of bits q) inside) in
        true≢false (sym found.2 ∙ sym (ap is_free_entry found.1) ∙ can.free_first none q (same ∙ wide) open_still)

    unmade-entry : statuses work.commits e r ≡ Status.unmade → e.state r ≡ None
    unmade-entry is = by_state (e.state r) refl is
      where
        by_state : (o : Option State) → e.state r ≡ o → status_of (has r) e.last o ≡ Status.unmade → o ≡ None
        by_state None at h = refl
        by_state (Some s) at h = absurd (unmade-made s h)
          where
            use-made : (t h : Bool) → cond t Status.pending (cond h Status.live Status.left) ≡ Status.unmade → ⊥
            use-made true h f = (cc)
            use-made false true f = (cc)
            use-made false false f = (cc)

            held-made : (t : Bool) (tag : Tag) → cond t Status.dropped (Status.held tag) ≡ Status.unmade → ⊥
            held-made true tag f = (cc)
            held-made false tag f = (cc)

            unmade-made : (s : State) → status_by (has r) e.last s ≡ Status.unmade → ⊥
            unmade-made Free f = (cc)
            unmade-made Returned f = (cc)
            unmade-made Made f = (cc)
            unmade-made (InUse after) f = use-made (eqb after e.last) (has r) f
            unmade-made LetGo f = (cc)
            unmade-made (DroppedNow after) f = (cc)
            unmade-made (Dropped after g) f = held-made (eqb after e.last) _ f

    pub takes-one : TakesOne bits before after records (records_by_status (statuses work.commits (made_at e width r)) (with_words m r ws)) width words r
    takes-one = record {
      was = open-status (has r) e.last (e.state r) can.is_open;
      free_first = λ is q wide open_still. none-free (unmade-entry is) q wide open_still;
      place = place-in;
      of_width = width-in;
      unsealed = can.unsealed;
      status = λ k q. status-set (has q) e.last e.state r Made q Status.pending (λ same. refl) k;
      none = ap (λ b. cond b (m r) []) (open_no_record _ (open-status (has r) e.last (e.state r) can.is_open));
      records = records-made;
      takes = record { some = some; work = refl; counts = refl };
      back = back-made;
      back_was = open-back (has r) e.last (e.state r) can.is_open;
      back_other = λ q ne. with_state-at (λ o. back_of (has q) e.last o ≡ backs work.commits e q) e.state r Made q (λ same. absurd (ne same)) (λ other. refl);
      opened = with_state-at (λ o. is_open (back_of (has r) e.last o) ≡ true) e.state r Made r (λ same. refl) (λ ne. absurd (ne refl));
      same = λ k. record after { back_records = back-records-made k };
    }

  -- a free buffer is not sealed, nor is one on hold
  unsealed-from : (b : ℕ) → is_state_active (e.mark b).state ≡ false → (e.mark b).sealed ≡ false
  unsealed-from b out = elim (cases_Bool (e.mark b).sealed) [
    | inl t ↦ absurd (true≢false (sym (st.good.sealed b t).active ∙ out))
    | inr t ↦ t
  ]

  -- a buffer is handed out
  module _ (b width : ℕ) (low : IsLowestFree work.buffer work.sizes.buffers b) (out : is_state_active (e.mark b).state ≡ false) where
    sealed-opened : (a : ℕ) → (with_mark e.mark b (record { state = Active; width = width; generation = 0; sealed = false }) a).sealed ≡ (e.mark a).sealed
    sealed-opened a = elim (cases_eq a b) [
      | inl t ↦ ap (λ u. (cond u (record { state = Active; width = width; generation = 0; sealed = false }) (e.mark a)).sealed) (eq-eqb a b t) ∙ sym (ap (λ x. (e.mark x).sealed) t ∙ unsealed-from b out)
      | inr t ↦ ap (λ u. (cond u (record { state = Active; width = width; generation = 0; sealed = false }) (e.mark a)).sealed) (ne_eqb a b t)
    ]

    pub opens-buffer : OpensBuffer before (ledger_of bits (handed_out work b width) shape m (opened_at e b width) unit) width
    opens-buffer = record {
      buffer = b;
      lowest = low;
      work = refl;
      counts = ap (λ n. with_counts e.of_width width (record (e.of_width width) { spare = capacity n width; buffers = (e.of_width width).buffers + 1; filled = Some b })) st.words;
      same = λ k. record (ledger_of bits (handed_out work b width) shape m (opened_at e b width) unit) { sealed = λ a. sealed-opened a k };
    }

  -- a drop
  module _ (new : EntriesView) (r : ℕ) (s : State) (is : e.state r ≡ Some s) (used : in_use (status_by (has r) e.last s) ≡ true) (drops : Drops e new r s) where
    state-at : (P : ℕ → Option State → Type 0) (q : ℕ) → (q ≡ r → P q (Some (dropped e.last s))) → ((q ≡ r → ⊥) → P q (e.state q)) → P q (new.state q)
    state-at P q here other = subst (P q) (sym (ap (λ (f : ℕ → Option State). f q) drops.state)) (with_state-at (P q) e.state r (dropped e.last s) q here other)

    abbrev next : Status
    next = after_drop (statuses work.commits e r) (backs work.commits e r)

    next-is : status_by (has r) e.last (dropped e.last s) ≡ next
    next-is = dropped-status (has r) e.last s used ∙ ap (λ o. after_drop (status_of (has r) e.last o) (back_of (has r) e.last o)) (sym is)

    status-now : (q : ℕ) → statuses work.commits new q ≡ with_status (statuses work.commits e) r next q
    status-now q =
        ap (λ l. status_of (has q) l (new.state q)) (ap (λ x. x.last) drops.same)
        ∙ state-at (λ q o. status_of (has q) e.last o ≡ with_status (statuses work.commits e) r next q) q
        (λ t. subst (λ u. status_by (has q) e.last (dropped e.last s) ≡ cond u next (statuses work.commits e q)) (sym (eq-eqb q r t)) (ap (λ x. status_by (has x) e.last (dropped e.last s)) t ∙ next-is))
        (λ t. subst (λ u. statuses work.commits e q ≡ cond u next (statuses work.commits e q)) (sym (ne_eqb q r t)) refl)

    back-now : (q : ℕ) → backs work.commits new q ≡ backs work.commits e q
    back-now q =
        ap (λ l. back_of (has q) l (new.state q)) (ap (λ x. x.last) drops.same)
        ∙ state-at (λ q o. back_of (has q) e.last o ≡ backs work.commits e q) q
        (λ t. ap (status_by (has q) e.last) (dropped-back e.last s (in_use-used (has r) e.last s used)) ∙ sym (ap (back_of (has q) e.last) (ap e.state t ∙ is))) (λ t. refl)

    record-now : (q : ℕ) → cond (has_record (statuses work.commits new q)) (m q) [] ≡ cond (is_free_status (statuses work.commits new q)) [] (cond (has_record (statuses work.commits e q)) (m q) [])
    record-now q =
        subst (λ l. cond (has_record (status_of (has q) l (new.state q))) (m q) [] ≡ cond (is_free_status (status_of (has q) l (new.state q))) [] (cond (has_record (statuses work.commits e q)) (m q) []))
        (sym (ap (λ x. x.last) drops.same))
        (state-at (λ q o. cond (has_record (status_of (has q) e.last o)) (m q) [] ≡ cond (is_free_status (status_of (has q) e.last o)) [] (cond (has_record (statuses work.commits e q)) (m q) [])) q
        (λ t. subst (λ x. cond (has_record (status_by (has x) e.last (dropped e.last s))) (m x) []
        ≡ cond (is_free_status (status_by (has x) e.last (dropped e.last s))) [] (cond (has_record (statuses work.commits e x)) (m x) [])) (sym t)
        (subst (λ o. cond (has_record (status_by (has r) e.last (dropped e.last s))) (m r) []
        ≡ cond (is_free_status (status_by (has r) e.last (dropped e.last s))) [] (cond (has_record (status_of (has r) e.last o)) (m r) [])) (sym is)
        (dropped-records (has r) e.last s (m r) used)))
        (λ t. free-none (statuses work.commits e q) (m q)))

    pub drops-entry : DropsEntry before (ledger_of bits work shape m new unit) records (records_by_status (statuses work.commits new) m) r
    drops-entry = record {
      status = λ k q. status-now q k;
      records = λ k q. record-now q k;
      counts = drops.counts;
      same = λ k. record (ledger_of bits work shape m new unit) {
        back = λ q. back-now q k;
        back_records = λ q. cond (has_record (back-now q k)) (m q) [];
        sealed = λ b. ((drops.same k).mark b).sealed;
        finished = (drops.same k).finished;
      };
    }

  -- the ends of a unit
  pub accepts-unit : (new : EntriesView) → Accepts e new → AcceptsUnit before (ledger_of bits work shape m new false) records (records_by_status (statuses work.commits new) m)
  accepts-unit new accepts = record {
    unit = refl;
    status = status-now;
    records = λ k q. (ap (λ c. cond (has_record c) (m q) []) (status-now q) ∙ accepted-records (statuses work.commits e q) (m q) []) k;
    counts = accepts.counts;
    work = refl;
    shape = refl;
    sealed = λ k b. ((accepts.same k).mark b).sealed;
    finished = λ k. (accepts.same k).finished;
  }
    where
      status-now : (q : ℕ) → statuses work.commits new q ≡ after_accept (statuses work.commits e q)
      status-now q =
          ap (λ l. status_of (has q) l (new.state q)) (ap (λ x. x.last) accepts.same)
          ∙ ap (status_of (has q) e.last) (accepts.state q) ∙ accepted-status (has q) e.last e.generation (e.state q)

  pub undoes-unit : (new : EntriesView) → Undoes e new → UndoesUnit before (ledger_of bits work shape m new false) (records_by_status (statuses work.commits new) m)
  undoes-unit new undoes = record {
    unit = refl;
    status = λ k q. status-now q k;
    records = λ k q. cond (has_record (status-now q k)) (m q) [];
    counts = undoes.counts;
    spare = undoes.spare;
    work = refl;
    shape = refl;
    sealed = λ k b. ((undoes.same k).mark b).sealed;
    finished = λ k. (undoes.same k).finished;
  }
    where
      status-now : (q : ℕ) → statuses work.commits new q ≡ backs work.commits e q
      status-now q = ap (λ l. status_of (has q) l (new.state q)) (ap (λ x. x.last) undoes.same) ∙ ap (status_of (has q) e.last) (undoes.state q)

  -- a seal
  pub seals-buffer : (new : EntriesView) (b : ℕ) → Seals e new b → SealsBuffer before (ledger_of bits work shape m new unit) b
  seals-buffer new b seals = record {
    sealed = λ a. ap (λ f. (f a).sealed) seals.mark ∙ by_test (eqb a b) a;
    counts = seals.counts;
    same = λ k. record (ledger_of bits work shape m new unit) {
      status = λ q. (status-now q) k;
      back = λ q. (back-now q) k;
      back_records = λ q. cond (has_record (back-now q k)) (m q) [];
      finished = (seals.same k).finished;
    };
  }
    where
      by_test : (t : Bool) (a : ℕ) → (cond t (record (e.mark b) { sealed = true }) (e.mark a)).sealed ≡ cond t true (e.mark a).sealed
      by_test true a = refl
      by_test false a = refl

      status-now : (q : ℕ) → statuses work.commits new q ≡ statuses work.commits e q
      status-now q = ap (λ x. statuses work.commits x q) seals.same

      back-now : (q : ℕ) → backs work.commits new q ≡ backs work.commits e q
      back-now q = ap (λ x. backs work.commits x q) seals.same

  pub seals-records : (new : EntriesView) (b : ℕ) → Seals e new b → records_by_status (statuses work.commits new) m ≡ records
  seals-records new b seals = ap (λ x. records_by_status (statuses work.commits x) m) seals.same

  -- a seal is taken away
  pub unseals-buffer : (new : EntriesView) (b : ℕ) → Unseals e new b → UnsealsBuffer before (ledger_of bits work shape m new unit) b
  unseals-buffer new b unseals = record {
    sealed = λ a. ap (λ f. (f a).sealed) unseals.mark ∙ by_test (eqb a b) a;
    counts = unseals.counts;
    same = λ k. record (ledger_of bits work shape m new unit) {
      status = λ q. (status-now q) k;
      back = λ q. (back-now q) k;
      back_records = λ q. cond (has_record (back-now q k)) (m q) [];
      finished = (unseals.same k).finished;
    };
  }
    where
      by_test : (t : Bool) (a : ℕ) → (cond t (record (e.mark b) { sealed = false }) (e.mark a)).sealed ≡ cond t false (e.mark a).sealed
      by_test true a = refl
      by_test false a = refl

      status-now : (q : ℕ) → statuses work.commits new q ≡ statuses work.commits e q
      status-now q = ap (λ x. statuses work.commits x q) unseals.same

      back-now : (q : ℕ) → backs work.commits new q ≡ backs work.commits e q
      back-now q = ap (λ x. backs work.commits x q) unseals.same

  pub unseals-records : (new : EntriesView) (b : ℕ) → Unseals e new b → records_by_status (statuses work.commits new) m ≡ records
  unseals-records new b unseals = ap (λ x. records_by_status (statuses work.commits x) m) unseals.same

-- a reclaim
module _ {H : Type 0} (bits : ℕ) (work : WorkView H) (shape : ℕ) (m : Records) (e : EntriesView) (unit : Bool) (st : IsOver bits work m e unit) (next : WorkView H) (new : EntriesView) (answer : Oldest)
    (reclaims : Reclaims answer work next) (goes : LetsGo work.commits next.commits)
    (knows : next ≡ reclaimed work next) (alone : work.made ≡ 0 → next.stops ≡ work.stops) (frees : Frees e new answer.generation) (order : IsInOrder next) (below : answer.generation ≤ e.generation) where
  abbrev earlier : Ledger H
  earlier = ledger_of bits work shape m e unit

  abbrev freed-ledger : Ledger H
  freed-ledger = ledger_of bits next shape m new unit

  pub stops-rise : (t : Bool) → answer.newest ≡ t → work.stops ≤ next.stops
  stops-rise true is = let same = (reclaims.newest is).2 in omega arith
  stops-rise false is = let more = (reclaims.stopped is).2 in omega arith

  still-unsealed : (b : ℕ) → is_state_active (e.mark b).state ≡ false → (e.mark b).sealed ≡ false
  still-unsealed b out = elim (cases_Bool (e.mark b).sealed) [
    | inl t ↦ absurd (true≢false (sym (st.good.sealed b t).active ∙ out))
    | inr t ↦ t
  ]

  pub sealed-freed : (b : ℕ) → (new.mark b).sealed ≡ (e.mark b).sealed
  sealed-freed b = ap (λ k. k.sealed) (frees.mark b) ∙ by_hold (is_on_hold (e.mark b).state) refl
    where
      hold-active : (s : BufferState) → is_on_hold s ≡ true → is_state_active s ≡ false
      hold-active FreeBuffer h = refl
      hold-active Active h = absurd (false≢true h)
      hold-active OnHold h = refl

      by_below : (t : Bool) → (e.mark b).sealed ≡ false → (cond t free_mark (e.mark b)).sealed ≡ (e.mark b).sealed
      by_below true none = sym none
      by_below false none = refl

      by_hold : (t : Bool) → is_on_hold (e.mark b).state ≡ t → (cond t (cond (ltb (e.mark b).generation answer.generation) free_mark (e.mark b)) (e.mark b)).sealed ≡ (e.mark b).sealed
      by_hold true is = by_below (ltb (e.mark b).generation answer.generation) (still-unsealed b (hold-active (e.mark b).state is))
      by_hold false is = refl

  status-at : (q : ℕ) → statuses next.commits new q ≡ free_below (oldest_of next.queue).generation (statuses work.commits e q)
  status-at q = status-freed bits work m e unit st next new answer reclaims goes knows frees order below q ∙ ap (λ g. free_below g (statuses work.commits e q)) reclaims.generation

  back-at : (q : ℕ) → backs next.commits new q ≡ free_below (oldest_of next.queue).generation (backs work.commits e q)
  back-at q = back-freed bits work m e unit st next new answer reclaims goes knows frees order below q ∙ ap (λ g. free_below g (backs work.commits e q)) reclaims.generation

  record-at : (q : ℕ) → cond (has_record (statuses next.commits new q)) (m q) [] ≡ cond (has_record (statuses work.commits e q)) (m q) []
  record-at q = ap (λ b. cond b (m q) []) (ap has_record (status-at q) ∙ below-has _ (statuses work.commits e q))

  back-record-at : (q : ℕ) → cond (has_record (backs next.commits new q)) (m q) [] ≡ cond (has_record (backs work.commits e q)) (m q) []
  back-record-at q = ap (λ b. cond b (m q) []) (ap has_record (back-at q) ∙ below-has _ (backs work.commits e q))

  pub records-freed : records_by_status (statuses next.commits new) m ≡ records_by_status (statuses work.commits e) m
  records-freed = λ k q. record-at q k

  pub gives-back : GivesBack earlier freed-ledger
  gives-back = record {
    closed = reclaims.closed;
    left = reclaims.left;
    queue = reclaims.queue;
    buffer = reclaims.buffer;
    work = knows;
    commits = lets-keep work.commits next.commits goes;
    stops = stops-rise answer.newest refl;
    alone = alone;
    status = status-at;
    back = back-at;
    counts = frees.counts;
    same = λ k. record freed-ledger {
      back_records = λ q. back-record-at q k;
      sealed = λ b. sealed-freed b k;
      finished = (frees.same k).finished;
    };
  }

  pub tells-oldest : TellsOldest work next answer
  tells-oldest = record {
    generation = reclaims.generation;
    hold = reclaims.hold;
    newest = λ is. let all = reclaims.newest is in (all.0, all.1);
    stopped = λ is. let all = reclaims.stopped is in let more = all.2 in (all.0, all.1, omega arith);
    found = λ is. sym (reclaims.stopped is).3;
  }
