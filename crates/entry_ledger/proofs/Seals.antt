-- The ledger after a buffer was sealed.
use Rattle.std.proofs.Common.{◌≡◌, ℕ, ◌<◌, Bool, true, false, not, ◌&&◌, cond, eqb, List, length, set, Option, Some, refl, sym, ap, ◌∙◌, arith}
use Rattle.std.specs.List.{count_by}
use Rattle.std.proofs.lemmas.List.Elements.{All-weaker}
use Rattle.std.proofs.lemmas.List.Sums.{sum_by-set}
use Rattle.entry_ref.specs.References.{buffer_of}
use Rattle.buffer_states.specs.declared.Buffer.{Buffer}
use Rattle.buffer_states.specs.Buffers.{buffer_at, is_state_active}
use Rattle.entry_ledger.specs.declared.state.State.{State}
use Rattle.entry_ledger.specs.States.{ShelfView, empty_shelf, spare_of, is_made}
use Rattle.entry_ledger.specs.Shelves.{shelf_at, filled_at, spare_in}
use Rattle.hold_lists.specs.Held.{HeldEntry, HoldTag}
use Rattle.entry_ledger.specs.Calls.{Seals}
use Rattle.entry_ledger.specs.Ledgers.{LedgerView, entries_of, mark_of, fresh_in, unheld_in, held_fits, is_in_list, IsHeldList, AreEntries}
use Rattle.entry_ledger.proofs.States.{state_by, state-same}
use Rattle.entry_ledger.proofs.Takes.{entries_in}
use Rattle.entry_ledger.proofs.Marks.{active-shelf}
use Rattle.entry_ledger.proofs.Replaced.{mark-set, each-buffer, IsReplaced, replace-count, replace-buffers, replace-kept}

-- a sealed shelf counts for no width
pub sealed-none : (t : Bool) (n : ℕ) → cond (t && not true) n 0 ≡ 0
sealed-none true n = refl
sealed-none false n = refl

module _ (bits : ℕ) (v : LedgerView) (held : List HeldEntry) (room unheld : ℕ) (k : AreEntries bits v held room unheld)
    (b : ℕ) (active : is_state_active (buffer_at v.buffers b).state ≡ true) (out : filled_at v.shelves.filled (buffer_at v.buffers b).width ≡ Some b → ⊥) where
  abbrev buffer : Buffer
  buffer = record (buffer_at v.buffers b) { sealed = true }

  abbrev shelf : ShelfView
  shelf = record (shelf_at v.shelves.shelves b) { sealed = true }

  abbrev pub sealed_view : LedgerView
  sealed_view = record v {
    shelves = record v.shelves { shelves = set v.shelves.shelves b (record (shelf_at v.shelves.shelves b) { sealed = true }) };
    buffers = set v.buffers b (record (buffer_at v.buffers b) { sealed = true });
  }

  h : b < length v.shelves.shelves
  h = (active-shelf bits v held room unheld k b active).0

  new : IsReplaced v b buffer shelf v.finished
  unfolding entries_of
  new = record {
    counted = (let c = k.counted b in record {
      of = record { width = c.of.width; room = c.of.room; taken = c.of.taken };
      width = c.width;
      sealed = refl;
      used = c.used;
      dead = c.dead;
      held = c.held;
      dropped = c.dropped;
    });
    taken = k.filled b;
    flagged = k.flagged b;
    of_width = λ w. refl;
    free = refl;
    unmade = λ w. refl;
    width = (k.sound.marks b).width;
    from = (k.sound.marks b).from;
    to = (k.sound.marks b).to;
    sealed = λ is. (active, out);
    here = λ is. refl;
    others = λ a is. is;
  }

  seal-state : (r : ℕ) → state_by bits (set v.shelves.shelves b shelf) r ≡ state_by bits v.shelves.shelves r
  seal-state r = state-same bits v.shelves.shelves b shelf h refl r

  -- the list does not ask whether a buffer is sealed
  seal-list : IsHeldList bits (entries_in bits sealed_view) held
  unfolding entries_of
  seal-list = record {
    each = All-weaker (λ t. is_in_list bits (entries_in bits v) t ≡ true) (λ t. is_in_list bits (entries_in bits sealed_view) t ≡ true) each held k.list.each;
    apart = k.list.apart;
    all = λ r after g is. k.list.all r after g (sym (seal-state r) ∙ is);
  }
    where
      same : (tag : Option HoldTag) (state : Option State) (a : ℕ)
          → held_fits v.last v.generation (mark_of (buffer_at (set v.buffers b buffer) a)) tag state ≡ held_fits v.last v.generation (mark_of (buffer_at v.buffers a)) tag state
      same tag state = each-buffer (λ a t. held_fits v.last v.generation (mark_of t) tag state ≡ held_fits v.last v.generation (mark_of (buffer_at v.buffers a)) tag state)
          v.buffers b buffer (omega (arith, h, k.count)) (λ a ne. refl) refl

      each : (t : HeldEntry) → is_in_list bits (entries_in bits v) t ≡ true → is_in_list bits (entries_in bits sealed_view) t ≡ true
      each t is =
          same t.tag ((entries_in bits sealed_view).state t.entry) (buffer_of bits t.entry)
          ∙ ap (held_fits v.last v.generation (mark_of (buffer_at v.buffers (buffer_of bits t.entry))) t.tag) (seal-state t.entry) ∙ is

  pub seal-kept : AreEntries bits sealed_view held room unheld
  unfolding entries_of
  seal-kept = replace-kept bits v held room unheld k b h buffer shelf v.finished new (λ r s is. sym (seal-state r) ∙ is) seal-list unheld
      (omega (arith, sum_by-set unheld_in v.shelves.shelves b shelf empty_shelf h, k.unheld_is)) k.fits

  pub seal-seals : Seals (entries_of bits v) (entries_of bits sealed_view) b
  unfolding entries_of
  seal-seals = record {
    mark = λ i a. mark-set v.buffers b buffer (omega (arith, h, k.count)) a i;
    counts = λ w. record {
      made = refl;
      buffers = replace-buffers bits v held room unheld k b h buffer shelf v.finished new w;
      filled = refl;
      spare =
          (let none : spare_in w shelf ≡ 0 = sealed-none (eqb shelf.width w) (spare_of shelf) in
          omega (arith, sum_by-set (spare_in w) v.shelves.shelves b shelf empty_shelf h, none));
      fresh =
          (let none : fresh_in w shelf ≡ 0 = sealed-none (eqb shelf.width w) (count_by is_made shelf.states) in
          omega (arith, sum_by-set (fresh_in w) v.shelves.shelves b shelf empty_shelf h, none));
    };
    same = λ i. record {
      count = replace-count bits v held room unheld k b h buffer shelf v.finished new i;
      words = v.shelves.words;
      last = v.last;
      generation = v.generation;
      oldest = v.oldest;
      state = λ r. seal-state r i;
      mark = (entries_in bits sealed_view).mark;
      of_width = (entries_in bits sealed_view).of_width;
      finished = v.finished;
    };
  }
