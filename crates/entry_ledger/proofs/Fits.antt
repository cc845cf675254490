-- An entry that was taken: its buffer is active, and its numbers fit.
use Rattle.std.proofs.Common.{◌≡◌, ℕ, ◌+◌, ◌*◌, ◌/◌, ◌<◌, ◌≤◌, Bool, true, false, cond, List, length, set, refl, sym, ap, ◌∙◌, arith}
use Rattle.std.specs.List.{count_by}
use Rattle.std.proofs.Math.ListN.{length-set}
use Rattle.std.proofs.Math.Nat.{mul_comm, mul-le-mul_right, div-mul-le_self, div-le_self}
use Rattle.std.proofs.lemmas.List.Sums.{sum_by-set, count_by-le-length}
use Rattle.entry_ref.specs.References.{offset_limit}
use Rattle.store_api.specs.Ledgers.{capacity}
use Rattle.buffer_states.specs.Buffers.{buffer_at, is_state_active}
use Rattle.entry_ledger.specs.declared.state.State.{State}
use Rattle.entry_ledger.specs.declared.state.State.TheVariants.{Dropped}
use Rattle.entry_ledger.specs.States.{ShelfView, empty_shelf, is_dropped, state_at}
use Rattle.entry_ledger.specs.Shelves.{shelf_at}
use Rattle.hold_lists.specs.Held.{HeldEntry}
use Rattle.entry_ledger.specs.Ledgers.{LedgerView, unheld_in, AreEntries}
use Rattle.entry_ledger.proofs.Good.{room-of}
use Rattle.entry_ledger.proofs.Counted.{count-more, words-more}

module _ (bits : ℕ) (v : LedgerView) (held : List HeldEntry) (room unheld : ℕ) (k : AreEntries bits v held room unheld)
    (b x : ℕ) (there : x < length (shelf_at v.shelves.shelves b).states) where
  abbrev shelf : ShelfView
  shelf = shelf_at v.shelves.shelves b

  pub place-room : (0 < shelf.width) × (shelf.room ≡ capacity v.shelves.words shelf.width)
  place-room = (let of = (k.counted b).of in room-of v.shelves.words shelf of (omega (arith, there, of.taken)))

  pub place-active : is_state_active (buffer_at v.buffers b).state ≡ true
  place-active = by_test (is_state_active (buffer_at v.buffers b).state) refl
    where
      by_test : (a : Bool) → is_state_active (buffer_at v.buffers b).state ≡ a → a ≡ true
      by_test true is = refl
      by_test false is =
          let none : shelf.width ≡ 0 = (k.counted b).width ∙ ap (λ a. cond a (buffer_at v.buffers b).width 0) is in
          absurd (omega (arith, none, place-room.0))

  pub place-width : (buffer_at v.buffers b).width ≡ shelf.width
  place-width = sym ((k.counted b).width ∙ ap (λ a. cond a (buffer_at v.buffers b).width 0) place-active)

  -- the words of entries of which this is none, and of this
  pub words-fit : (test : State → Bool) (state : State) (n : ℕ) → test (state_at shelf.states x) ≡ false → test state ≡ true → n ≡ shelf.width * count_by test shelf.states
      → n + (buffer_at v.buffers b).width < 4294967296
  words-fit test state n out is n_is =
      let more = count-more test shelf.states x state there out is in
      let most = count_by-le-length test (set shelf.states x state) in
      let few : count_by test shelf.states + 1 ≤ v.shelves.words / shelf.width = omega (arith, more, most, length-set {A = State} shelf.states x state, (k.counted b).of.taken, place-room.1) in
      let all : (count_by test shelf.states + 1) * shelf.width ≤ v.shelves.words / shelf.width * shelf.width = mul-le-mul_right shelf.width few in
      let one : shelf.width * (count_by test shelf.states + 1) ≡ shelf.width * count_by test shelf.states + shelf.width = words-more shelf.width (count_by test shelf.states) (count_by test shelf.states + 1) refl in
      let turned : shelf.width * (count_by test shelf.states + 1) ≡ (count_by test shelf.states + 1) * shelf.width = mul_comm shelf.width (count_by test shelf.states + 1) in
      omega (arith, all, one, turned, div-mul-le_self v.shelves.words shelf.width, n_is, place-width, k.few_words)

  place-below : x + 1 ≤ v.shelves.words
  place-below = omega (arith, there, (k.counted b).of.taken, place-room.1, div-le_self v.shelves.words shelf.width)

  pub place-offset : x + 1 < offset_limit bits
  place-offset = omega (arith, there, (k.counted b).of.taken, place-room.1, div-le_self v.shelves.words shelf.width, k.offsets, k.some_words)

  pub place-small : x + 1 < 4294967296
  place-small = omega (arith, place-below, k.few_words)

  -- an entry that is not dropped is one of those not on the list
  pub place-unheld : is_dropped (state_at shelf.states x) ≡ false → b < length v.shelves.shelves → (count_by is_dropped shelf.states + 1 ≤ shelf.room) × (0 < unheld)
  place-unheld out h =
      let more = count-more is_dropped shelf.states x (Dropped 0 0) there out refl in
      let most = count_by-le-length is_dropped (set shelf.states x (Dropped 0 0)) in
      let few : count_by is_dropped shelf.states + 1 ≤ shelf.room = omega (arith, more, most, length-set {A = State} shelf.states x (Dropped 0 0), (k.counted b).of.taken) in
      (few, omega (arith, few, sum_by-set unheld_in v.shelves.shelves b empty_shelf empty_shelf h, k.unheld_is))
