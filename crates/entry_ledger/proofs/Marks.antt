-- The buffers by their marks: how many of them pass a test, and where they are.
use Rattle.std.proofs.Common.{◌≡◌, ℕ, zero, suc, ◌+◌, ◌*◌, ◌<◌, ◌≤◌, Bool, true, false, cond, List, [], ◌∷◌, length, Option, None, Some, refl, sym, ap, ◌∙◌, arith, inl, inr}
use Rattle.std.specs.Option.{IfNone, IfSome}
use Rattle.std.specs.List.{count_by}
use Rattle.std.proofs.Math.Nat.{mul-le-mul_left}
use Rattle.std.proofs.lemmas.List.Sums.{sum_by-cons}
use Rattle.std.proofs.lemmas.Bool.{cases_lt, ne_eqb, eq-eqb, true≢false}
use Rattle.list_lemmas.specs.Counting.{one_if}
use Rattle.store_api.specs.Ledgers.{is_width, is_this}
use Rattle.buffer_states.specs.declared.Buffer.{Buffer}
use Rattle.buffer_states.specs.declared.BufferState.{BufferState}
use Rattle.buffer_states.specs.declared.BufferState.TheVariants.{Free, Active, OnHold}
use Rattle.buffer_states.specs.Buffers.{buffer_at, new_buffer, is_state_free, is_state_active}
use Rattle.buffer_states.specs.Buffers.{IsLowestFree as IsLowestFreeBuffer}
use Rattle.entry_ledger.specs.Shelves.{shelf_at, filled_at}
use Rattle.entry_ledger.proofs.Rows.{width-bounds}
use Rattle.hold_lists.specs.Held.{HeldEntry}
use Rattle.entry_ledger.specs.Entries.{Mark, count_marks}
use Rattle.entry_ledger.specs.Calls.{IsLowestFree}
use Rattle.entry_ledger.specs.Ledgers.{LedgerView, entries_of, mark_of, IsFlagged, AreEntries}

pub if-none : {A P Q : Type 0} (o : Option A) → (P → Q) → IfNone o P → IfNone o Q
if-none None f p = f p
if-none (Some x) f p = tt

pub if-some : {A : Type 0} {P Q : A → Type 0} (o : Option A) → ((x : A) → P x → Q x) → IfSome o P → IfSome o Q
if-some None f p = tt
if-some (Some x) f p = f x p

marks-first : (test : BufferState → Bool) (mark : ℕ → Mark) (n : ℕ) → count_marks test mark (suc n) ≡ one_if (test (mark 0).state) + count_marks test (λ b. mark (suc b)) n
marks-first test mark zero = omega arith
marks-first test mark (suc n) = (let rest = marks-first test mark n in omega (arith, rest))

-- the count of the buffers is one of their marks
pub marks-counted : (test : BufferState → Bool) (buffers : List Buffer) → count_by (λ (b : Buffer). test b.state) buffers ≡ count_marks test (λ b. mark_of (buffer_at buffers b)) (length buffers)
marks-counted test [] = refl
marks-counted test (x ∷ xs) =
    sum_by-cons (λ (b : Buffer). cond (test b.state) 1 0) x xs ∙ ap (λ n. cond (test x.state) 1 0 + n) (marks-counted test xs)
    ∙ sym (marks-first test (λ b. mark_of (buffer_at (x ∷ xs) b)) (length xs))

-- marks with the same states
pub marks-same : (test : BufferState → Bool) (new old : ℕ → Mark) → ((b : ℕ) → test (new b).state ≡ test (old b).state) → (n : ℕ) → count_marks test new n ≡ count_marks test old n
marks-same test new old same zero = refl
marks-same test new old same (suc n) = ap (λ m. m + one_if (test (new n).state)) (marks-same test new old same n) ∙ ap (λ t. count_marks test old n + one_if t) (same n)

past-last : (buffers : List Buffer) (b : ℕ) → length buffers ≤ b → buffer_at buffers b ≡ new_buffer
past-last [] b past = refl
past-last (x ∷ xs) zero past = absurd (omega (arith, past))
past-last (x ∷ xs) (suc b) past = past-last xs b (omega (arith, past))

pub active-inside : (buffers : List Buffer) (b : ℕ) → is_state_active (buffer_at buffers b).state ≡ true → b < length buffers
active-inside buffers b active = elim (cases_lt b (length buffers)) [
  | inl k ↦ k
  | inr k ↦ absurd (true≢false (sym active ∙ ap (λ (t : Buffer). is_state_active t.state) (past-last buffers b k)))
]

pub active-is : (s : BufferState) → is_state_active s ≡ true → s ≡ Active
active-is Free is = absurd (true≢false (sym is))
active-is Active is = refl
active-is OnHold is = absurd (true≢false (sym is))

pub active-used : (s : BufferState) → is_state_active s ≡ true → is_state_free s ≡ false
active-used Free is = absurd (true≢false (sym is))
active-used Active is = refl
active-used OnHold is = absurd (true≢false (sym is))

pub this-false : (o : Option ℕ) (b : ℕ) → (o ≡ Some b → ⊥) → is_this o b ≡ false
this-false None b out = refl
this-false (Some a) b out = ne_eqb a b (λ e. out (ap Some e))

-- the flag of a buffer that is not the filled one, and the other way round
pub unflagged : (filled : List (Option ℕ)) (b : ℕ) (buffer : Buffer) → IsFlagged filled b buffer → (filled_at filled buffer.width ≡ Some b → ⊥) → buffer.filled ≡ false
unflagged filled b buffer k out = k ∙ this-false (filled_at filled buffer.width) b out

pub unfilled : (filled : List (Option ℕ)) (b : ℕ) (buffer : Buffer) → IsFlagged filled b buffer → buffer.filled ≡ false → filled_at filled buffer.width ≡ Some b → ⊥
unfilled filled b buffer k out is = true≢false (sym (sym out ∙ k ∙ ap (λ o. is_this o b) is ∙ eq-eqb b b refl))

module _ (bits : ℕ) (v : LedgerView) (held : List HeldEntry) (room unheld : ℕ) (k : AreEntries bits v held room unheld) where
  pub buffers-few : length v.buffers < 4294967296
  buffers-few =
      let least : length v.buffers * 8192 ≤ length v.buffers * v.shelves.words = mul-le-mul_left (length v.buffers) k.some_words in
      omega (arith, least, k.product)

  pub count-states : (test : BufferState → Bool) → count_by (λ (b : Buffer). test b.state) v.buffers ≡ count_marks test (entries_of bits v).mark (entries_of bits v).count
  unfolding entries_of
  count-states test = marks-counted test v.buffers ∙ ap (count_marks test (λ b. mark_of (buffer_at v.buffers b))) k.count

  pub lowest-none : ((b : ℕ) → b < length v.buffers → is_state_free (buffer_at v.buffers b).state ≡ false) → (b : ℕ) → b < (entries_of bits v).count → is_state_free ((entries_of bits v).mark b).state ≡ false
  unfolding entries_of
  lowest-none none b below = none b (omega (arith, below, k.count))

  pub lowest-is : (b : ℕ) → IsLowestFreeBuffer v.buffers b → IsLowestFree (entries_of bits v) b
  unfolding entries_of
  lowest-is b low = record { below = omega (arith, low.below, k.count); free = low.free; lowest = low.lowest }

  -- an active buffer: its number, and the words of its entries
  pub active-shelf : (b : ℕ) → is_state_active (buffer_at v.buffers b).state ≡ true
      → (b < length v.shelves.shelves) × ((shelf_at v.shelves.shelves b).width ≡ (buffer_at v.buffers b).width) × (is_width (buffer_at v.buffers b).width ≡ true) × (0 < (shelf_at v.shelves.shelves b).width)
  unfolding entries_of
  active-shelf b active =
      let wide : (shelf_at v.shelves.shelves b).width ≡ (buffer_at v.buffers b).width = (k.counted b).width ∙ ap (λ t. cond t (buffer_at v.buffers b).width 0) active in
      let valid : is_width (buffer_at v.buffers b).width ≡ true = (k.sound.marks b).width (active-used (buffer_at v.buffers b).state active) in
      let some = (width-bounds (buffer_at v.buffers b).width valid).0 in
      (omega (arith, active-inside v.buffers b active, k.count), wide, valid, omega (arith, some, wide))
