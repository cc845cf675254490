-- A store over other records and another shape, which are the same.
use Rattle.std.proofs.Common.{◌≡◌, ℕ, ◌+◌, ◌<◌, ◌≤◌, Bool, true, false, List, length, Option, None, Some, refl, sym, ap, subst, ◌∙◌, arith, inl, inr, drop, zero, suc, cond}
use Rattle.list_lemmas.specs.Counting.{one_if}
use Rattle.std.proofs.lemmas.Bool.{true≢false, cases_lt}
use Rattle.std.specs.Prelude.{IfSome, IsNone, ◌↔◌}
use Rattle.entry_ref.specs.References.{buffer_of}
use Rattle.entry_ref.specs.Images.{words_at}
use Rattle.entry_ref.specs.Records.{Records, with_words}
use Rattle.arena_api.specs.Works.{width_of, active_width, last_image}
use Rattle.arena_api.specs.Calls.{IsKept, InNoCommit, FitsEntry, padded}
use Rattle.arena_api.proofs.Padded.{length-padded}
use Rattle.store_api.specs.Ledgers.{capacity}
use Rattle.buffer_states.specs.declared.BufferState.{BufferState}
use Rattle.buffer_states.specs.Buffers.{is_state_active}
use Rattle.entry_ledger.specs.Entries.{IsGood}
use Rattle.entry_ledger.specs.Calls.{CanTake, made_at, opened_at}
use Rattle.entry_store.specs.Standing.{statuses, records_by_status, ledger_of}
use Rattle.entry_store.specs.Steps.{TakesOne, OpensBuffer}
use Rattle.entry_store.proofs.Stands.{stands-made, stands-opened}
use Rattle.entry_store.proofs.LedgerSteps.{takes-one, opens-buffer}
use Rattle.std.proofs.lemmas.Bool.{cases_eq, eq-eqb, ne_eqb}
use Rattle.arena_api.specs.Works.{WorkView, Buffer, free_count, oldest_of, newest_of}
use Rattle.arena_api.specs.Works.{is_free as is_free_buffer}
use Rattle.arena_api.specs.Calls.{IsLowestFree, handed_out}
use Rattle.arena_api.specs.Generations.{IsQueue, Reclaims, current}
use Rattle.arena_api.specs.declared.answers.Oldest.{Oldest}
use Rattle.arena_api.proofs.Free.{free_count-some}
use Rattle.entry_ledger.specs.Entries.{EntriesView}
use Rattle.buffer_states.specs.Buffers.{is_state_free}
use Rattle.entry_ledger.specs.Calls.{IsLowestFree as IsLowestMark}
use Rattle.entry_store.specs.Standing.{Stands, IsOver}
use Rattle.entry_store.specs.ProofsForMarks.{mark-free, mark-width}
use Rattle.entry_store.specs.ProofsForStates.{open-status}
use Rattle.entry_store.proofs.Soundness.{open-uncommitted}
use Rattle.store_api.specs.Ledgers.{is_in}
use Rattle.entry_ref.specs.Places.{IsEntry}
use Rattle.entry_store.proofs.Queues.{oldest-rises, oldest-below, newest-drop, order-drop}

pub along : (P : ℕ → Records → Type 0) {i j : ℕ} {x y : Records} → i ≡ j → x ≡ y → P j y → P i x
along P {i} {j} {x} {y} a b h = subst (λ k. P k x) (sym a) (subst (λ z. P j z) (sym b) h)

-- what is not 0 is more
pub some-not : {A : Type 0} (x : A) (n : ℕ) → IsNone (Some x) ↔ (n ≡ 0) → 0 < n
some-not x zero none = absurd (true≢false (none.1 refl))
some-not x (suc n) none = omega arith

-- the answer of a reclaim lies between the oldest before and the current generation
pub reclaim-rises : {H : Type 0} (work next : WorkView H) (answer : Oldest) → IsQueue work → Reclaims answer work next → (oldest_of work.queue).generation ≤ answer.generation
reclaim-rises work next answer queue reclaims =
    let rises = oldest-rises reclaims.closed work.queue queue.order reclaims.left in
    let same : answer.generation ≡ (oldest_of (drop reclaims.closed work.queue)).generation = reclaims.generation ∙ ap (λ q. (oldest_of q).generation) reclaims.queue in
    omega arith

pub reclaim-low : {H : Type 0} (work next : WorkView H) (answer : Oldest) → IsQueue work → Reclaims answer work next → answer.generation ≤ current work
reclaim-low work next answer queue reclaims =
    let low = oldest-below (drop reclaims.closed work.queue) (order-drop reclaims.closed work.queue queue.order) in
    let same : answer.generation ≡ (oldest_of (drop reclaims.closed work.queue)).generation = reclaims.generation ∙ ap (λ q. (oldest_of q).generation) reclaims.queue in
    let newest : (newest_of (drop reclaims.closed work.queue)).generation ≡ (newest_of work.queue).generation = ap (λ h. h.generation) (newest-drop reclaims.closed work.queue reclaims.left) in
    omega arith

pub reclaimed-low : {H : Type 0} (bits : ℕ) (work : WorkView H) (m : Records) (e : EntriesView) (unit : Bool) → IsOver bits work m e unit → (next : WorkView H) (answer : Oldest) → IsQueue work → Reclaims answer work next
    → answer.generation ≤ e.generation
reclaimed-low bits work m e unit st next answer queue reclaims = let low = reclaim-low work next answer queue reclaims in let same = st.generation in omega arith

-- the lowest free buffer of the entries is that of the work
module _ {H : Type 0} (bits : ℕ) (work : WorkView H) (m : Records) (e : EntriesView) (unit : Bool) (st : Stands bits work m e unit) where
  free-same : (b : ℕ) → b < work.sizes.buffers → is_state_free (e.mark b).state ≡ is_free_buffer (work.buffer b)
  free-same b below = mark-free (e.mark b) (work.buffer b) (st.marks b below)

  pub lowest-is : (b : ℕ) → IsLowestMark e b → IsLowestFree work.buffer work.sizes.buffers b
  lowest-is b low =
      let below : b < work.sizes.buffers = subst (λ n. b < n) st.count low.below in
      record {
        below = below;
        free = sym (free-same b below) ∙ low.free;
        lowest = λ a under. sym (free-same a (omega arith)) ∙ low.lowest a under;
      }

  pub handed-is : (new : WorkView H) (b width : ℕ) (result : Option ℕ) → IsLowestFree work.buffer work.sizes.buffers b → IsNone result ↔ (free_count work.buffer work.sizes.buffers ≡ 0)
      → IfSome result (IsLowestFree work.buffer work.sizes.buffers) → IfSome result (λ a. new ≡ handed_out work a width) → new ≡ handed_out work b width
  handed-is new b width None low none lowest handed = absurd (let some = free_count-some work.buffer work.sizes.buffers b low.below low.free in let zero = none.0 refl in omega arith)
  handed-is new b width (Some a) low none lowest handed = handed ∙ ap (λ x. handed_out work x width) (same-lowest a b lowest low)
    where
      same-lowest : (a b : ℕ) → IsLowestFree work.buffer work.sizes.buffers a → IsLowestFree work.buffer work.sizes.buffers b → a ≡ b
      same-lowest a b x y = elim (cases_lt a b) [
        | inl under ↦ absurd (true≢false (sym x.free ∙ y.lowest a under))
        | inr over ↦ elim (cases_lt b a) [
          | inl under ↦ absurd (true≢false (sym y.free ∙ x.lowest b under))
          | inr under ↦ omega arith
        ]
      ]

  pub none-free : ((b : ℕ) → b < e.count → is_state_free (e.mark b).state ≡ false) → free_count work.buffer work.sizes.buffers ≡ 0
  none-free none = count-none work.buffer work.sizes.buffers (λ b below. sym (free-same b below) ∙ none b (subst (λ n. b < n) (sym st.count) below))
    where
      count-none : (buffer : ℕ → Buffer) (n : ℕ) → ((b : ℕ) → b < n → is_free_buffer (buffer b) ≡ false) → free_count buffer n ≡ 0
      count-none buffer zero all = refl
      count-none buffer (suc n) all =
          let rest = count-none buffer n (λ b low. all b (omega arith)) in
          let here : one_if (is_free_buffer (buffer n)) ≡ 0 = ap one_if (all n (omega arith)) in
          omega arith

-- what the work asks of a put
pub put-may : {H : Type 0} (bits : ℕ) (work : WorkView H) (m : Records) (e : EntriesView) (unit : Bool) → Stands bits work m e unit → (width r : ℕ) → CanTake bits e width r
    → (IsEntry bits work.sizes.buffers work.sizes.words width r) × (active_width (work.buffer (buffer_of bits r)) ≡ width) × InNoCommit work.commits r
put-may bits work m e unit st width r can =
    let place = subst (λ n. IsEntry bits n work.sizes.words width r) st.count (subst (λ n. IsEntry bits e.count n width r) st.words can.entry) in
    let wide : active_width (work.buffer (buffer_of bits r)) ≡ width = sym (mark-width (e.mark (buffer_of bits r)) (work.buffer (buffer_of bits r)) (st.marks (buffer_of bits r) place.inside)) ∙ can.of_width in
    (place, wide, st.sound.unkept r (subst (λ n. 0 < n) (sym wide) place.wide) place.inside (open-uncommitted (statuses work.commits e r) (open-status (is_in (last_image work.commits) r) e.last (e.state r) can.is_open)))

-- an entry is taken, and its record is put into the work
module _ {H : Type 0} (bits : ℕ) (work : WorkView H) (shape : ℕ) (m : Records) (e : EntriesView) (unit : Bool) (st : Stands bits work m e unit) (width r : ℕ) (words : List ℕ) (can : CanTake bits e width r)
    (v : WorkView H) (i : ℕ) (n : Records) (f : EntriesView) (knows : v ≡ record work { stored = v.stored }) (shaped : i ≡ shape) (written : n ≡ with_words m r (padded words width)) (made : f ≡ made_at e width r) where
  pub takes-put : 0 < (e.of_width width).spare
      → TakesOne bits (ledger_of bits work shape m e unit) (ledger_of bits v i n f unit) (records_by_status (statuses work.commits e) m) (records_by_status (statuses v.commits f) n) width words r
  takes-put some =
      subst (λ w. TakesOne bits (ledger_of bits work shape m e unit) (ledger_of bits w i n f unit) (records_by_status (statuses work.commits e) m) (records_by_status (statuses w.commits f) n) width words r) (sym knows)
      (subst (λ k. TakesOne bits (ledger_of bits work shape m e unit) (ledger_of bits (record work { stored = v.stored }) k n f unit) (records_by_status (statuses work.commits e) m)
      (records_by_status (statuses work.commits f) n) width words r) (sym shaped)
      (subst (λ (x : Records). TakesOne bits (ledger_of bits work shape m e unit) (ledger_of bits (record work { stored = v.stored }) shape x f unit) (records_by_status (statuses work.commits e) m)
      (records_by_status (statuses work.commits f) x) width words r) (sym written)
      (subst (λ g. TakesOne bits (ledger_of bits work shape m e unit) (ledger_of bits (record work { stored = v.stored }) shape (with_words m r (padded words width)) g unit)
      (records_by_status (statuses work.commits e) m)
      (records_by_status (statuses work.commits g) (with_words m r (padded words width))) width words r) (sym made)
      (takes-one bits work shape m e unit st width r words can v.stored some))))

  pub stands-put : length words ≤ width → unit ≡ true → IsGood bits f → Stands bits v n f unit
  stands-put fits begun good =
      subst (λ w. Stands bits w n f unit) (sym knows)
      (subst (λ (x : Records). Stands bits (record work { stored = v.stored }) x f unit) (sym written)
      (subst (λ g. Stands bits (record work { stored = v.stored }) (with_words m r (padded words width)) g unit) (sym made)
      (stands-made bits work m e unit st width r (padded words width) can (let wide = can.entry.wide in omega (arith, length-padded words width fits)) begun v.stored (subst (IsGood bits) made good))))

-- a buffer is opened and handed out
module _ {H : Type 0} (bits : ℕ) (work : WorkView H) (shape : ℕ) (m : Records) (e : EntriesView) (unit : Bool) (st : Stands bits work m e unit) (b width : ℕ) (low : IsLowestMark e b)
    (v : WorkView H) (i : ℕ) (n : Records) (f : EntriesView) (knows : v ≡ handed_out work b width) (shaped : i ≡ shape) (written : n ≡ m) (opened : f ≡ opened_at e b width) where
  not-active : is_state_active (e.mark b).state ≡ false
  not-active = by_state (e.mark b).state low.free
    where
      by_state : (s : BufferState) → is_state_free s ≡ true → is_state_active s ≡ false
      by_state BufferState.Free h = refl
      by_state BufferState.Active h = absurd (true≢false (sym h))
      by_state BufferState.OnHold h = refl

  pub opens-handed : OpensBuffer (ledger_of bits work shape m e unit) (ledger_of bits v i n f unit) width
  opens-handed =
      subst (λ w. OpensBuffer (ledger_of bits work shape m e unit) (ledger_of bits w i n f unit) width) (sym knows)
      (subst (λ k. OpensBuffer (ledger_of bits work shape m e unit) (ledger_of bits (handed_out work b width) k n f unit) width) (sym shaped)
      (subst (λ (x : Records). OpensBuffer (ledger_of bits work shape m e unit) (ledger_of bits (handed_out work b width) shape x f unit) width) (sym written)
      (subst (λ g. OpensBuffer (ledger_of bits work shape m e unit) (ledger_of bits (handed_out work b width) shape m g unit) width) (sym opened)
      (opens-buffer bits work shape m e unit st b width (lowest-is bits work m e unit st b low) not-active))))

  pub records-handed : records_by_status (statuses v.commits f) n ≡ records_by_status (statuses work.commits e) m
  records-handed =
      ap (λ (w : WorkView H). records_by_status (statuses w.commits f) n) knows
      ∙ ap (λ (x : Records). records_by_status (statuses work.commits f) x) written
      ∙ ap (λ g. records_by_status (statuses work.commits g) m) opened

  fresh-opened : (w : ℕ) → ((opened_at e b width).of_width w).fresh ≡ (e.of_width w).fresh
  fresh-opened w = elim (cases_eq w width) [
    | inl t ↦ ap (λ u. (cond u (record (e.of_width width) { spare = capacity e.words width; buffers = (e.of_width width).buffers + 1; filled = Some b }) (e.of_width w)).fresh) (eq-eqb w width t)
        ∙ sym (ap (λ x. (e.of_width x).fresh) t)
    | inr t ↦ ap (λ u. (cond u (record (e.of_width width) { spare = capacity e.words width; buffers = (e.of_width width).buffers + 1; filled = Some b }) (e.of_width w)).fresh) (ne_eqb w width t)
  ]

  pub stands-handed : ((k r : ℕ) → IsKept work.commits k → 0 < length (words_at (work.commits.image k) r)
      → FitsEntry bits work.sizes (width_of (work.buffer (buffer_of bits r))) r (length (words_at (work.commits.image k) r))) → IsGood bits f → Stands bits v n f unit
  stands-handed kept good =
      subst (λ w. Stands bits w n f unit) (sym knows)
      (subst (λ (x : Records). Stands bits (handed_out work b width) x f unit) (sym written)
      (subst (λ g. Stands bits (handed_out work b width) m g unit) (sym opened)
      (stands-opened bits work m e unit st b width (lowest-is bits work m e unit st b low) kept (subst (IsGood bits) opened good) fresh-opened)))
