-- The ledger after the seal of a buffer was taken away.
use Rattle.std.proofs.Common.{◌≡◌, ℕ, ◌+◌, ◌<◌, Bool, true, false, not, ◌&&◌, cond, eqb, List, length, set, Option, Some, refl, sym, ap, ◌∙◌, arith}
use Rattle.std.specs.List.{count_by}
use Rattle.std.proofs.lemmas.List.Elements.{All-weaker}
use Rattle.std.proofs.lemmas.List.Sums.{sum_by-set}
use Rattle.std.proofs.lemmas.Bool.{not-true, true≢false}
use Rattle.entry_ref.specs.References.{buffer_of, packed}
use Rattle.buffer_states.specs.declared.Buffer.{Buffer}
use Rattle.buffer_states.specs.Buffers.{buffer_at, is_state_active}
use Rattle.entry_ledger.specs.declared.state.State.{State}
use Rattle.entry_ledger.specs.declared.state.State.TheVariants.{Free, Returned, Made, InUse, LetGo, DroppedNow, Dropped}
use Rattle.entry_ledger.specs.States.{ShelfView, empty_shelf, spare_of, is_made, is_touched, state_at}
use Rattle.entry_ledger.specs.Shelves.{shelf_at, spare_in}
use Rattle.hold_lists.specs.Held.{HeldEntry, HoldTag}
use Rattle.entry_ledger.specs.Entries.{is_settled_entry}
use Rattle.entry_ledger.specs.Calls.{Unseals}
use Rattle.entry_ledger.specs.Ledgers.{LedgerView, entries_of, mark_of, fresh_in, unheld_in, held_fits, is_in_list, IsHeldList, AreEntries}
use Rattle.entry_ledger.proofs.States.{state_by, state-same}
use Rattle.entry_ledger.proofs.Takes.{entries_in}
use Rattle.entry_ledger.proofs.Taking.{state-at}
use Rattle.entry_ledger.proofs.Commits.{count-no}
use Rattle.entry_ledger.proofs.Marks.{active-shelf}
use Rattle.entry_ledger.proofs.Seals.{sealed-none}
use Rattle.entry_ledger.proofs.Retires.{present}
use Rattle.entry_ledger.proofs.Replaced.{mark-set, each-buffer, IsReplaced, replace-count, replace-buffers, replace-kept}

-- what no unit has changed was not made by the unit
not-made : (s : State) → is_touched s ≡ false → is_made s ≡ false
not-made Free out = refl
not-made Returned out = refl
not-made Made out = out
not-made (InUse after) out = refl
not-made LetGo out = refl
not-made (DroppedNow after) out = refl
not-made (Dropped after generation) out = refl

nothing : (t : Bool) (n : ℕ) → n ≡ 0 → cond t n 0 ≡ 0
nothing true n is = is
nothing false n is = refl

module _ (bits : ℕ) (v : LedgerView) (held : List HeldEntry) (room unheld : ℕ) (k : AreEntries bits v held room unheld)
    (b : ℕ) (sealed : (buffer_at v.buffers b).sealed ≡ true) (unfinished : v.finished ≡ Some b → ⊥) where
  abbrev buffer : Buffer
  buffer = record (buffer_at v.buffers b) { sealed = false }

  abbrev shelf : ShelfView
  shelf = record (shelf_at v.shelves.shelves b) { sealed = false }

  abbrev pub unsealed_view : LedgerView
  unsealed_view = record v {
    shelves = record v.shelves { shelves = set v.shelves.shelves b (record (shelf_at v.shelves.shelves b) { sealed = false }) };
    buffers = set v.buffers b (record (buffer_at v.buffers b) { sealed = false });
  }

  pub unseal-active : is_state_active (buffer_at v.buffers b).state ≡ true
  unfolding entries_of
  unseal-active = (k.sound.sealed b sealed).active

  pub unseal-inside : b < length v.shelves.shelves
  unseal-inside = (active-shelf bits v held room unheld k b unseal-active).0

  pub unseal-opened : 0 < (shelf_at v.shelves.shelves b).width
  unseal-opened = (active-shelf bits v held room unheld k b unseal-active).3

  pub unseal-sealed : (shelf_at v.shelves.shelves b).sealed ≡ true
  unseal-sealed = sym (k.counted b).sealed ∙ sealed

  new : IsReplaced v b buffer shelf v.finished
  unfolding entries_of
  new = record {
    counted = (let c = k.counted b in record {
      of = record { width = c.of.width; room = c.of.room; taken = c.of.taken };
      width = c.width;
      sealed = refl;
      used = c.used;
      dead = c.dead;
      held = c.held;
      dropped = c.dropped;
    });
    taken = k.filled b;
    flagged = k.flagged b;
    of_width = λ w. refl;
    free = refl;
    unmade = λ w. refl;
    width = (k.sound.marks b).width;
    from = (k.sound.marks b).from;
    to = (k.sound.marks b).to;
    sealed = λ is. absurd (true≢false (sym is));
    here = λ is. absurd (unfinished is);
    others = λ a is. is;
  }

  unseal-state : (r : ℕ) → state_by bits (set v.shelves.shelves b shelf) r ≡ state_by bits v.shelves.shelves r
  unseal-state r = state-same bits v.shelves.shelves b shelf unseal-inside refl r

  -- the list does not ask whether a buffer is sealed
  unseal-list : IsHeldList bits (entries_in bits unsealed_view) held
  unfolding entries_of
  unseal-list = record {
    each = All-weaker (λ t. is_in_list bits (entries_in bits v) t ≡ true) (λ t. is_in_list bits (entries_in bits unsealed_view) t ≡ true) each held k.list.each;
    apart = k.list.apart;
    all = λ r after g is. k.list.all r after g (sym (unseal-state r) ∙ is);
  }
    where
      same : (tag : Option HoldTag) (state : Option State) (a : ℕ)
          → held_fits v.last v.generation (mark_of (buffer_at (set v.buffers b buffer) a)) tag state ≡ held_fits v.last v.generation (mark_of (buffer_at v.buffers a)) tag state
      same tag state = each-buffer (λ a t. held_fits v.last v.generation (mark_of t) tag state ≡ held_fits v.last v.generation (mark_of (buffer_at v.buffers a)) tag state)
          v.buffers b buffer (omega (arith, unseal-inside, k.count)) (λ a ne. refl) refl

      each : (t : HeldEntry) → is_in_list bits (entries_in bits v) t ≡ true → is_in_list bits (entries_in bits unsealed_view) t ≡ true
      each t is =
          same t.tag ((entries_in bits unsealed_view).state t.entry) (buffer_of bits t.entry)
          ∙ ap (held_fits v.last v.generation (mark_of (buffer_at v.buffers (buffer_of bits t.entry))) t.tag) (unseal-state t.entry) ∙ is

  pub unseal-kept : AreEntries bits unsealed_view held room unheld
  unfolding entries_of
  unseal-kept = replace-kept bits v held room unheld k b unseal-inside buffer shelf v.finished new (λ r s is. sym (unseal-state r) ∙ is) unseal-list unheld
      (omega (arith, sum_by-set unheld_in v.shelves.shelves b shelf empty_shelf unseal-inside, k.unheld_is)) k.fits

  none-made : ((r : ℕ) → is_settled_entry ((entries_in bits v).state r) ≡ true) → count_by is_made (shelf_at v.shelves.shelves b).states ≡ 0
  none-made settled = count-no is_made (shelf_at v.shelves.shelves b).states (λ i below.
      (let states = (shelf_at v.shelves.shelves b).states in
      let is : (entries_in bits v).state (packed bits (i + 1) b) ≡ Some (state_at states i) =
      state-at bits v.shelves.shelves b i (omega (arith, unseal-inside, k.count, k.few_buffers)) ∙ present states i below in
      not-made (state_at states i) (not-true (is_touched (state_at states i)) (sym (ap is_settled_entry is) ∙ settled (packed bits (i + 1) b)))))

  -- a sealed shelf counted for no width
  had-none : (w n : ℕ) → cond (eqb (shelf_at v.shelves.shelves b).width w && not (shelf_at v.shelves.shelves b).sealed) n 0 ≡ 0
  had-none w n = ap (λ t. cond (eqb (shelf_at v.shelves.shelves b).width w && not t) n 0) unseal-sealed ∙ sealed-none (eqb (shelf_at v.shelves.shelves b).width w) n

  pub unseal-unseals : ((r : ℕ) → is_settled_entry ((entries_of bits v).state r) ≡ true) → Unseals (entries_of bits v) (entries_of bits unsealed_view) b
  unfolding entries_of
  unseal-unseals settled = record {
    mark = λ i a. mark-set v.buffers b buffer (omega (arith, unseal-inside, k.count)) a i;
    counts = λ w. record {
      made = refl;
      buffers = replace-buffers bits v held room unheld k b unseal-inside buffer shelf v.finished new w;
      filled = refl;
      spare =
          (let had : spare_in w (shelf_at v.shelves.shelves b) ≡ 0 = had-none w (spare_of (shelf_at v.shelves.shelves b)) in
          omega (arith, sum_by-set (spare_in w) v.shelves.shelves b shelf empty_shelf unseal-inside, had));
      fresh =
          (let had : fresh_in w (shelf_at v.shelves.shelves b) ≡ 0 = had-none w (count_by is_made (shelf_at v.shelves.shelves b).states) in
          let has : fresh_in w shelf ≡ 0 = nothing (eqb shelf.width w && not shelf.sealed) (count_by is_made shelf.states) (none-made settled) in
          omega (arith, sum_by-set (fresh_in w) v.shelves.shelves b shelf empty_shelf unseal-inside, had, has));
    };
    same = λ i. record {
      count = replace-count bits v held room unheld k b unseal-inside buffer shelf v.finished new i;
      words = v.shelves.words;
      last = v.last;
      generation = v.generation;
      oldest = v.oldest;
      state = λ r. unseal-state r i;
      mark = (entries_in bits unsealed_view).mark;
      of_width = (entries_in bits unsealed_view).of_width;
      finished = v.finished;
    };
  }
