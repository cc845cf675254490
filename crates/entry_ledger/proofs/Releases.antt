-- What is kept where an entry of the list is free again, or lay in a buffer that went.
use Rattle.std.proofs.Common.{◌≡◌, ◌≢◌, ℕ, ◌+◌, ◌-◌, ◌*◌, ◌<◌, ◌≤◌, Bool, true, false, cond, List, length, set, None, Some, refl, sym, ap, subst, ◌∙◌, arith, inl, inr}
use Rattle.std.specs.Option.{option_map}
use Rattle.std.specs.List.{count_by, slice_get, find}
use Rattle.std.proofs.Math.ListN.{length-set}
use Rattle.std.proofs.lemmas.List.Elements.{All-get_or}
use Rattle.std.proofs.lemmas.List.Sums.{sum_by-set, count_by-le-length}
use Rattle.std.proofs.lemmas.Option.{get_or_from_slice_get}
use Rattle.std.proofs.lemmas.Bool.{cases_lt, cases_eq, eq-eqb, ne_eqb, lt-ltb}
use Rattle.list_lemmas.specs.Counting.{one_if}
use Rattle.entry_ref.specs.References.{buffer_of, offset_of, packed}
use Rattle.entry_ref.proofs.Bits.{packed-same}
use Rattle.store_api.specs.Calls.{GivesBackOf}
use Rattle.buffer_states.specs.declared.Buffer.{Buffer}
use Rattle.buffer_states.specs.Buffers.{buffer_at, is_state_active, is_on_hold}
use Rattle.entry_ledger.specs.declared.state.State.{State}
use Rattle.entry_ledger.specs.declared.state.State.TheVariants.{Free, Dropped}
use Rattle.entry_ledger.specs.States.{ShelfView, empty_shelf, is_dead, is_held, is_dropped, is_made, is_free_state, state_at, with_state_at}
use Rattle.entry_ledger.specs.Shelves.{ShelvesView, shelf_at}
use Rattle.hold_lists.specs.Held.{HeldEntry, untagged, is_below, without_first}
use Rattle.entry_ledger.specs.Entries.{EntriesView}
use Rattle.entry_ledger.specs.Calls.{with_state, freed}
use Rattle.entry_ledger.specs.Ledgers.{LedgerView, entries_of, state_in, unheld_in, is_since, tag_fits, tag_below, is_in_list, CanRelease, Releases, IsCounted, IsHeldList, AreEntries}
use Rattle.entry_ledger.proofs.Good.{at-offset, room-of, used-inside}
use Rattle.entry_ledger.proofs.Takes.{entries_in, buffers-same}
use Rattle.entry_ledger.proofs.Counted.{count-keep, count-less, words-more}
use Rattle.entry_ledger.proofs.Changing.{changed_view, change-state, change-mark, change-count, change-kept, ends-counts, frees-counts}
use Rattle.entry_ledger.proofs.Fits.{place-width}
use Rattle.entry_ledger.proofs.Plain.{list-kept}
use Rattle.entry_ledger.proofs.Opens.{unheld-few}
use Rattle.entry_ledger.proofs.Pops.{IsAt, found-at, list-without, IsPopped, popped-tag}

-- what was freed so far: freed again, it is what all is then
pub record Freeing (oldest : ℕ) (first e : EntriesView) : Type 0 where
  pub states : (q : ℕ) → option_map (freed oldest) (e.state q) ≡ option_map (freed oldest) (first.state q)
  pub counts : (w : ℕ) → GivesBackOf (first.of_width w) (e.of_width w)
  pub same : e ≡ record first { state = e.state; of_width = e.of_width }

pub freeing-start : (oldest : ℕ) (e : EntriesView) → Freeing oldest e e
freeing-start oldest e = record {
  states = λ q. refl;
  counts = λ w. record { made = refl; fresh = refl; filled = refl; spare = omega arith; buffers = omega arith };
  same = refl;
}

-- the place of an entry that has a state
pub record IsPlaceOf (s : ShelfView) (o : ℕ) (state : State) : Type 0 where
  pub first : 0 < o
  pub there : o - 1 < length s.states
  pub is : state_at s.states (o - 1) ≡ state

pub place-of : (s : ShelfView) (o : ℕ) (state : State) → state_in s o ≡ Some state → IsPlaceOf s o state
place-of s o state is =
    let at = at-offset s o state is in
    record {
      first = at.0;
      there = at.1;
      is = get_or_from_slice_get s.states (o - 1) state Free
          (sym (ap (λ t. cond t None (slice_get s.states (o - 1))) (ne_eqb o 0 (λ e. omega (arith, e, at.0)))) ∙ is);
    }

free-dropped : (after g : ℕ) → Some Free ≡ Some (Dropped after g) → ⊥
free-dropped after g e = absurd (cc)

module _ (bits : ℕ) (v : LedgerView) (held : List HeldEntry) (room unheld : ℕ) (k : AreEntries bits v held room unheld)
    (oldest : ℕ) (h : HeldEntry) (found : find (is_below oldest) held ≡ Some h) where
  abbrev b : ℕ
  b = buffer_of bits h.entry

  abbrev o : ℕ
  o = offset_of bits h.entry

  abbrev x : ℕ
  x = o - 1

  abbrev shelf : ShelfView
  shelf = shelf_at v.shelves.shelves b

  abbrev pub rest : List HeldEntry
  rest = without_first (is_below oldest) held

  at : IsAt (is_below oldest) held h
  at = found-at (is_below oldest) held h found

  list_in : IsHeldList bits (entries_in bits v) held
  unfolding entries_of
  list_in = k.list

  listed : is_in_list bits (entries_in bits v) h ≡ true
  listed = subst (λ y. is_in_list bits (entries_in bits v) y ≡ true) (at.is (untagged 0))
      (All-get_or (λ y. is_in_list bits (entries_in bits v) y ≡ true) held at.place (untagged 0) at.inside list_in.each)

  -- the buffer has no entries any more
  module _ (none : shelf.width ≡ 0) where
    untaken : (s : State) → (entries_in bits v).state h.entry ≡ Some s → ⊥
    untaken s is =
        let there = at-offset shelf o s is in
        let wide = (room-of v.shelves.words shelf (k.counted b).of (omega (arith, there.1, (k.counted b).of.taken))).0 in
        omega (arith, wide, none)

    pub gone-kept : AreEntries bits v rest (room + 1) unheld
    unfolding entries_of
    gone-kept = list-kept bits v held room unheld k rest (room + 1)
        (list-without bits (entries_in bits v) (entries_in bits v) held h (is_below oldest) list_in found refl refl (λ a. refl) (λ q ne. refl) (λ after g is. untaken (Dropped after g) is))
        (omega (arith, k.fits))

  -- it has entries
  module _ (wide : 0 < shelf.width) where
    active : is_state_active (buffer_at v.buffers b).state ≡ true
    active = by_test (is_state_active (buffer_at v.buffers b).state) refl
      where
        by_test : (a : Bool) → is_state_active (buffer_at v.buffers b).state ≡ a → a ≡ true
        by_test true is = refl
        by_test false is =
            let none : shelf.width ≡ 0 = (k.counted b).width ∙ ap (λ a. cond a (buffer_at v.buffers b).width 0) is in
            absurd (omega (arith, none, wide))

    popped : IsPopped v.last oldest (state_in shelf o)
    popped = popped-tag v.last v.generation oldest h.tag (state_in shelf o)
        (sym (ap (λ t. cond t (tag_fits v.last v.generation h.tag (state_in shelf o))
        (cond (is_on_hold (buffer_at v.buffers b).state) (tag_below (buffer_at v.buffers b).generation h.tag) false)) active) ∙ listed)
        at.passes

    place : IsPlaceOf shelf o (Dropped popped.after popped.generation)
    place = place-of shelf o (Dropped popped.after popped.generation) popped.is

    inside : b < length v.shelves.shelves
    inside = used-inside bits v held room unheld k b x place.there

    width_is : (buffer_at v.buffers b).width ≡ shelf.width
    width_is = place-width bits v held room unheld k b x place.there

    reference : packed bits (x + 1) b ≡ h.entry
    reference = (let next : x + 1 ≡ o = (let first = place.first in omega (arith, first)) in ap (λ n. packed bits n b) next ∙ packed-same bits h.entry)

    apart : popped.after ≢ v.last
    apart e = (let before = popped.before in omega (arith, e, before))

    was_held : is_held v.last (state_at shelf.states x) ≡ true
    was_held = ap (is_held v.last) place.is ∙ ap (λ t. cond t false true) (ne_eqb popped.after v.last apart)

    was_since : is_since v.last (state_at shelf.states x) ≡ false
    was_since = ap (is_since v.last) place.is ∙ ne_eqb popped.after v.last apart

    was_dropped : is_dropped (state_at shelf.states x) ≡ true
    was_dropped = ap is_dropped place.is

    held_less : shelf.width * count_by (is_held v.last) shelf.states ≡ shelf.width * count_by (is_held v.last) (set shelf.states x Free) + shelf.width
    held_less = words-more shelf.width (count_by (is_held v.last) (set shelf.states x Free)) (count_by (is_held v.last) shelf.states)
        (sym (count-less (is_held v.last) shelf.states x Free place.there was_held refl))

    abbrev buffer : Buffer
    buffer = record (buffer_at v.buffers b) { held = (buffer_at v.buffers b).held - (buffer_at v.buffers b).width }

    pub can-release : CanRelease bits v.shelves v.buffers unheld h.entry
    can-release = record {
      inside = inside;
      counted = omega (arith, inside, k.count);
      first = place.first;
      there = place.there;
      dropped = was_dropped;
      fits = omega (arith, (k.counted b).held, held_less, width_is);
      few = (let few = unheld-few bits v held room unheld k in omega (arith, few));
    }

    counted : IsCounted v.shelves.words v.last buffer (with_state_at shelf x Free)
    counted = (let c = k.counted b in record {
      of = record { width = c.of.width; room = c.of.room; taken = omega (arith, c.of.taken, length-set {A = State} shelf.states x Free) };
      width = c.width;
      sealed = c.sealed;
      used = c.used ∙ ap (λ n. shelf.width * (1 + n)) (sym (length-set {A = State} shelf.states x Free));
      dead = c.dead ∙ ap (λ n. shelf.width * n) (sym (count-keep is_dead shelf.states x Free place.there (sym (ap is_dead place.is))));
      held = omega (arith, c.held, held_less, width_is);
      dropped = c.dropped ∙ ap (λ n. shelf.width * n) (sym (count-keep (is_since v.last) shelf.states x Free place.there (sym was_since)));
    })

    abbrev after : LedgerView
    after = changed_view bits v held room unheld k b x Free inside place.there buffer refl

    state_after : (q : ℕ) → (entries_in bits after).state q ≡ with_state (entries_in bits v).state h.entry Free q
    state_after q = change-state bits v held room unheld k b x Free inside place.there buffer refl q ∙ ap (λ r. with_state (entries_in bits v).state r Free q) reference

    free-kept : AreEntries bits after rest (room + 1) (unheld + 1)
    unfolding entries_of
    free-kept = change-kept bits v held room unheld k b x Free inside place.there buffer refl refl rest (room + 1) (unheld + 1) counted refl
        (list-without bits (entries_in bits v) (entries_in bits after) held h (is_below oldest) list_in found refl refl
        (λ a. ap (λ f. f a) (change-mark bits v held room unheld k b x Free inside place.there buffer refl))
        (λ q ne. state_after q ∙ ap (λ t. cond t (Some Free) ((entries_in bits v).state q)) (ne_eqb q h.entry ne))
        (λ past g is. free-dropped past g (sym (state_after h.entry ∙ ap (λ t. cond t (Some Free) ((entries_in bits v).state h.entry)) (eq-eqb h.entry h.entry refl)) ∙ is)))
        (let less = count-less is_dropped shelf.states x Free place.there was_dropped refl in
        let most = count_by-le-length is_dropped shelf.states in
        omega (arith, sum_by-set unheld_in v.shelves.shelves b (with_state_at shelf x Free) empty_shelf inside, less, most, (k.counted b).of.taken, k.unheld_is))
        (omega (arith, k.fits))

    free-freeing : (first : EntriesView) → Freeing oldest first (entries_in bits v) → Freeing oldest first (entries_in bits after)
    free-freeing first far = record {
      states = λ q. ap (option_map (freed oldest)) (state_after q) ∙ moved q ∙ far.states q;
      counts = λ w. (let a = far.counts w in
          let kept = ends-counts v.shelves.shelves b x Free inside place.there (at_most (is_free_state (state_at shelf.states x))) w in
          let fresh = frees-counts v.shelves.shelves b x Free inside place.there (sym (ap (λ s. one_if (is_made s)) place.is)) w in
          let buffers = buffers-same v.buffers b buffer (omega (arith, inside, k.count)) refl w in record {
            made = a.made;
            fresh = fresh ∙ a.fresh;
            filled = a.filled;
            spare = omega (arith, a.spare, kept);
            buffers = omega (arith, a.buffers, buffers);
          });
      same = stepped ∙ ap (λ (t : EntriesView). record t { state = (entries_in bits after).state; of_width = (entries_in bits after).of_width }) far.same;
    }
      where
        at_most : (t : Bool) → one_if t ≤ 1
        at_most true = omega arith
        at_most false = omega arith

        stepped : entries_in bits after ≡ record (entries_in bits v) { state = (entries_in bits after).state; of_width = (entries_in bits after).of_width }
        stepped = λ i. record {
          count = change-count bits v held room unheld k b x Free inside place.there buffer refl i;
          words = v.shelves.words;
          last = v.last;
          generation = v.generation;
          oldest = v.oldest;
          state = (entries_in bits after).state;
          mark = change-mark bits v held room unheld k b x Free inside place.there buffer refl i;
          of_width = (entries_in bits after).of_width;
          finished = v.finished;
        }

        moved : (q : ℕ) → option_map (freed oldest) (with_state (entries_in bits v).state h.entry Free q) ≡ option_map (freed oldest) ((entries_in bits v).state q)
        moved q = elim (cases_eq q h.entry) [
          | inl e ↦
              ap (λ t. option_map (freed oldest) (cond t (Some Free) ((entries_in bits v).state q))) (eq-eqb q h.entry e)
              ∙ sym (ap (λ t. Some (cond t Free (Dropped popped.after popped.generation))) (lt-ltb popped.generation oldest popped.below))
              ∙ ap (option_map (freed oldest)) (sym popped.is ∙ ap (entries_in bits v).state (sym e))
          | inr ne ↦ ap (λ t. option_map (freed oldest) (cond t (Some Free) ((entries_in bits v).state q))) (ne_eqb q h.entry ne)
        ]

  -- what was written, either way
  module _ (first : EntriesView) (far : Freeing oldest first (entries_in bits v)) (new : ShelvesView) (buffers : List Buffer) (left : ℕ)
      (free : 0 < shelf.width → Releases bits h.entry v.shelves new v.buffers buffers unheld left)
      (gone : shelf.width ≡ 0 → (new ≡ v.shelves) × (buffers ≡ v.buffers) × (left ≡ unheld)) where
    abbrev pub released : LedgerView
    released = record v { shelves = new; buffers = buffers }

    free_is : (wide : 0 < shelf.width) → released ≡ after wide
    free_is wide = (let r = free wide in λ i. record v { shelves = r.shelves i; buffers = r.buffers_are i })

    gone_is : shelf.width ≡ 0 → released ≡ v
    gone_is none = (let r = gone none in λ i. record v { shelves = r.0 i; buffers = r.1 i })

    pub release-kept : AreEntries bits released rest (room + 1) left
    release-kept = elim (cases_lt 0 shelf.width) [
      | inl wide ↦
          subst (λ n. AreEntries bits released rest (room + 1) n) (sym (free wide).left_is)
          (subst (λ u. AreEntries bits u rest (room + 1) (unheld + 1)) (sym (free_is wide)) (free-kept wide))
      | inr low ↦
          (let none : shelf.width ≡ 0 = omega (arith, low) in
          subst (λ n. AreEntries bits released rest (room + 1) n) (sym (gone none).2)
          (subst (λ u. AreEntries bits u rest (room + 1) unheld) (sym (gone_is none)) (gone-kept none)))
    ]

    pub release-freeing : Freeing oldest first (entries_in bits released)
    release-freeing = elim (cases_lt 0 shelf.width) [
      | inl wide ↦ subst (λ (u : LedgerView). Freeing oldest first (entries_in bits u)) (sym (free_is wide)) (free-freeing wide first far)
      | inr low ↦
          (let none : shelf.width ≡ 0 = omega (arith, low) in
          subst (λ (u : LedgerView). Freeing oldest first (entries_in bits u)) (sym (gone_is none)) far)
    ]
