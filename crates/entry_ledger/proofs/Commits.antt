-- The ledger after a commit was counted.
use Rattle.std.proofs.Common.{◌≡◌, ℕ, zero, suc, ◌+◌, ◌*◌, ◌/◌, ◌<◌, ◌≤◌, Bool, true, false, ◌&&◌, ◌||◌, ◌⊎◌, inl, inr, cond, eqb, leb, List, [], ◌∷◌, map, length, get_or, Option, None, Some, All, refl, sym, ap, subst}
use Rattle.std.proofs.Common.{◌∙◌, arith}
use Rattle.std.specs.Prelude.{nat_lt}
use Rattle.std.specs.List.{count_by, list_any}
use Rattle.std.proofs.Math.Nat.{mul-add, mul_comm, mul-le-mul_right, div-mul-le_self}
use Rattle.std.proofs.lemmas.List.{length-map}
use Rattle.std.proofs.lemmas.List.Elements.{All-map, All-weaker, All-from_get_or}
use Rattle.std.proofs.lemmas.List.Sums.{sum_by-cons, count_by-le-length}
use Rattle.std.proofs.lemmas.Option.{slice_get-get_or}
use Rattle.std.proofs.lemmas.Bool.{cases_lt, eq-eqb, ne_eqb, eqb-true, and_parts, leb-true, le-leb, lt-ltb, ltb-true, not-true, true≢false}
use Rattle.list_lemmas.specs.Counting.{one_if}
use Rattle.entry_ref.specs.References.{buffer_of, packed, buffer_limit}
use Rattle.store_api.specs.Ledgers.{capacity}
use Rattle.buffer_states.specs.declared.Buffer.{Buffer}
use Rattle.buffer_states.specs.Buffers.{new_buffer, buffer_at, with_dropped_held, is_state_active, is_on_hold}
use Rattle.entry_ledger.specs.declared.state.State.{State}
use Rattle.entry_ledger.specs.declared.state.State.TheVariants.{Free, Returned, Made, InUse, LetGo, DroppedNow, Dropped}
use Rattle.entry_ledger.specs.States.{ShelfView, is_touched, is_held, state_at}
use Rattle.entry_ledger.specs.Shelves.{shelf_at, made_in}
use Rattle.hold_lists.specs.Held.{HeldEntry, HoldTag, tagged_by, tag_or}
use Rattle.entry_ledger.specs.Entries.{EntriesView, is_timely, is_settled_entry}
use Rattle.entry_ledger.specs.Ledgers.{LedgerView, entries_of, mark_of, is_since, is_buffer_of, tag_fits, tag_below, is_in_list, IsCounted, IsFlagged, IsHeldList, IsSound, AreEntries, unmade_of_width}
use Rattle.entry_ledger.proofs.States.{buffer-map}
use Rattle.entry_ledger.proofs.Takes.{entries_in}
use Rattle.entry_ledger.proofs.Good.{within-shelf, room-of}
use Rattle.entry_ledger.proofs.Taking.{state-at}

read-map : {X Y : Type 0} (f : X → Y) (xs : List X) (i : ℕ) (d : Y) (e : X) → i < length xs → get_or (map f xs) i d ≡ f (get_or xs i e)
read-map f [] i d e below = absurd (omega (arith, below))
read-map f (x ∷ xs) zero d e below = refl
read-map f (x ∷ xs) (suc i) d e below = read-map f xs i d e (omega (arith, below))

widths-map : (w : ℕ) (bs : List Buffer) → count_by (is_buffer_of w) (map with_dropped_held bs) ≡ count_by (is_buffer_of w) bs
widths-map w [] = refl
widths-map w (x ∷ bs) =
    sum_by-cons (λ b. cond (is_buffer_of w b) 1 0) (with_dropped_held x) (map with_dropped_held bs)
    ∙ ap (λ n. cond (is_buffer_of w x) 1 0 + n) (widths-map w bs) ∙ sym (sum_by-cons (λ b. cond (is_buffer_of w b) 1 0) x bs)

-- a count is the sum of two others where it is so for each element
count-split : (a b c : State → Bool) (xs : List State) → ((i : ℕ) → i < length xs → one_if (a (state_at xs i)) ≡ one_if (b (state_at xs i)) + one_if (c (state_at xs i)))
    → count_by a xs ≡ count_by b xs + count_by c xs
count-split a b c [] each = refl
count-split a b c (x ∷ xs) each =
    let here : one_if (a x) ≡ one_if (b x) + one_if (c x) = each 0 (omega arith) in
    let rest = count-split a b c xs (λ i below. each (suc i) (omega (arith, below))) in
    omega (arith, here, rest, sum_by-cons (λ t. cond (a t) 1 0) x xs, sum_by-cons (λ t. cond (b t) 1 0) x xs, sum_by-cons (λ t. cond (c t) 1 0) x xs)

pub count-no : (test : State → Bool) (xs : List State) → ((i : ℕ) → i < length xs → test (state_at xs i) ≡ false) → count_by test xs ≡ 0
count-no test [] each = refl
count-no test (x ∷ xs) each =
    let here : one_if (test x) ≡ 0 = ap one_if (each 0 (omega arith)) in
    let rest = count-no test xs (λ i below. each (suc i) (omega (arith, below))) in
    omega (arith, here, rest, sum_by-cons (λ t. cond (test t) 1 0) x xs)

-- a settled state that names no commit after the last: held from the next commit on if it was dropped
module _ (e : EntriesView) (number : ℕ) (next : e.last + 1 ≡ number) where
  pub holds : (s : State) → is_touched s ≡ false → is_timely e s ≡ true → one_if (is_held number s) ≡ one_if (is_held e.last s) + one_if (is_since e.last s)
  holds Free t is = refl
  holds Returned t is = absurd (true≢false t)
  holds Made t is = absurd (true≢false t)
  holds (InUse after) t is = refl
  holds LetGo t is = absurd (true≢false t)
  holds (DroppedNow after) t is = absurd (true≢false t)
  holds (Dropped after g) t is =
      let low : after ≤ e.last = leb-true after e.last (and_parts (leb after e.last) (leb e.oldest g) (and_parts (leb after e.last && leb e.oldest g) (leb g e.generation) is).0).0 in
      let now : one_if (is_held number (Dropped after g)) ≡ 1 = ap (λ u. one_if (cond u false true)) (ne_eqb after number (λ same. omega (arith, same, low, next))) in
      now ∙ by_test (eqb after e.last)
    where
      by_test : (u : Bool) → 1 ≡ one_if (cond u false true) + one_if u
      by_test true = refl
      by_test false = refl

  pub none-since : (s : State) → is_touched s ≡ false → is_timely e s ≡ true → is_since number s ≡ false
  none-since Free t is = refl
  none-since Returned t is = refl
  none-since Made t is = refl
  none-since (InUse after) t is = refl
  none-since LetGo t is = refl
  none-since (DroppedNow after) t is = absurd (true≢false t)
  none-since (Dropped after g) t is =
      let low : after ≤ e.last = leb-true after e.last (and_parts (leb after e.last) (leb e.oldest g) (and_parts (leb after e.last && leb e.oldest g) (leb g e.generation) is).0).0 in
      ne_eqb after number (λ same. omega (arith, same, low, next))

  pub up-to-next : (s : State) → is_timely e s ≡ true → is_timely (record e { last = number }) s ≡ true
  up-to-next Free is = refl
  up-to-next Returned is = refl
  up-to-next Made is = refl
  up-to-next (InUse after) is = le-leb after number (let low = leb-true after e.last is in omega (arith, low, next))
  up-to-next LetGo is = refl
  up-to-next (DroppedNow after) is = lt-ltb after number (let low = ltb-true after e.last is in omega (arith, low, next))
  up-to-next (Dropped after g) is =
      let first = (and_parts (leb after e.last) (leb e.oldest g) (and_parts (leb after e.last && leb e.oldest g) (leb g e.generation) is).0).0 in
      ap (λ u. u && leb e.oldest g && leb g e.generation) (le-leb after number (let low = leb-true after e.last first in omega (arith, low, next)))
      ∙ sym (ap (λ u. u && leb e.oldest g && leb g e.generation) first) ∙ is

  -- the tags of the list
  pub tags-next : (tag : Option HoldTag) (state : Option State) → tag_fits e.last e.generation tag state ≡ true
      → tag_fits number e.generation (tag_or (record { generation = e.generation; commit = number }) tag) state ≡ true
  tags-next None (Some (Dropped after g)) is =
      let parts = and_parts (eqb after e.last) (eqb g e.generation) is in
      let same : after ≡ e.last = eqb-true after e.last parts.0 in
      let gen : g ≡ e.generation = eqb-true g e.generation parts.1 in
      ap (λ u. u && eqb e.generation g && eqb number (suc after)) (lt-ltb after number (omega (arith, same, next)))
      ∙ ap (λ u. true && u && eqb number (suc after)) (eq-eqb e.generation g (sym gen)) ∙ ap (λ u. true && true && u) (eq-eqb number (suc after) (omega (arith, same, next)))
  tags-next (Some tag) (Some (Dropped after g)) is =
      let first = (and_parts (nat_lt after e.last) (eqb tag.generation g) (and_parts (nat_lt after e.last && eqb tag.generation g) (eqb tag.commit (suc after)) is).0).0 in
      ap (λ u. u && eqb tag.generation g && eqb tag.commit (suc after)) (lt-ltb after number (let low = ltb-true after e.last first in omega (arith, low, next)))
      ∙ sym (ap (λ u. u && eqb tag.generation g && eqb tag.commit (suc after)) first) ∙ is
  tags-next None None is = absurd (true≢false (sym is))
  tags-next None (Some Free) is = absurd (true≢false (sym is))
  tags-next None (Some Returned) is = absurd (true≢false (sym is))
  tags-next None (Some Made) is = absurd (true≢false (sym is))
  tags-next None (Some (InUse after)) is = absurd (true≢false (sym is))
  tags-next None (Some LetGo) is = absurd (true≢false (sym is))
  tags-next None (Some (DroppedNow after)) is = absurd (true≢false (sym is))
  tags-next (Some tag) None is = absurd (true≢false (sym is))
  tags-next (Some tag) (Some Free) is = absurd (true≢false (sym is))
  tags-next (Some tag) (Some Returned) is = absurd (true≢false (sym is))
  tags-next (Some tag) (Some Made) is = absurd (true≢false (sym is))
  tags-next (Some tag) (Some (InUse after)) is = absurd (true≢false (sym is))
  tags-next (Some tag) (Some LetGo) is = absurd (true≢false (sym is))
  tags-next (Some tag) (Some (DroppedNow after)) is = absurd (true≢false (sym is))

  tag-below-next : (g : ℕ) (tag : Option HoldTag) → tag_below g tag ≡ true → tag_below g (tag_or (record { generation = e.generation; commit = number }) tag) ≡ true
  tag-below-next g None is = absurd (true≢false (sym is))
  tag-below-next g (Some tag) is = is

  pub list-tagged : (bits : ℕ) (held : List HeldEntry) → IsHeldList bits e held → IsHeldList bits (record e { last = number }) (map (tagged_by e.generation number) held)
  list-tagged bits held k = record {
    each = All-map (λ h. is_in_list bits (record e { last = number }) h ≡ true) (tagged_by e.generation number) held
        (All-weaker (λ h. is_in_list bits e h ≡ true) (λ h. is_in_list bits (record e { last = number }) (tagged_by e.generation number h) ≡ true) each held k.each);
    apart = λ i j d before below.
        (let long = length-map held (tagged_by e.generation number) in
        let low : j < length held = omega (arith, below, long) in
        λ same. k.apart i j d before low
        (sym (ap (λ (h : HeldEntry). h.entry) (read-map (tagged_by e.generation number) held i d d (omega (arith, before, low)))) ∙ same
        ∙ ap (λ (h : HeldEntry). h.entry) (read-map (tagged_by e.generation number) held j d d low)));
    all = λ r after g is. any-same r held ∙ k.all r after g is;
  }
    where
      each : (h : HeldEntry) → is_in_list bits e h ≡ true → is_in_list bits (record e { last = number }) (tagged_by e.generation number h) ≡ true
      each h = by_state (is_state_active (e.mark (buffer_of bits h.entry)).state) (is_on_hold (e.mark (buffer_of bits h.entry)).state)
        where
          by_state : (a o : Bool) → cond a (tag_fits e.last e.generation h.tag (e.state h.entry)) (cond o (tag_below (e.mark (buffer_of bits h.entry)).generation h.tag) false) ≡ true
              → cond a (tag_fits number e.generation (tag_or (record { generation = e.generation; commit = number }) h.tag) (e.state h.entry))
              (cond o (tag_below (e.mark (buffer_of bits h.entry)).generation (tag_or (record { generation = e.generation; commit = number }) h.tag)) false) ≡ true
          by_state true o is = tags-next h.tag (e.state h.entry) is
          by_state false true is = tag-below-next (e.mark (buffer_of bits h.entry)).generation h.tag is
          by_state false false is = is

      any-same : (r : ℕ) (hs : List HeldEntry) → list_any (λ (h : HeldEntry). eqb h.entry r) (map (tagged_by e.generation number) hs) ≡ list_any (λ (h : HeldEntry). eqb h.entry r) hs
      any-same r [] = refl
      any-same r (h ∷ hs) = ap (λ t. eqb h.entry r || t) (any-same r hs)

-- what is sound of the entries, in the form that computes
pub sound-in : (bits : ℕ) (v : LedgerView) → IsSound (entries_of bits v) → IsSound (entries_in bits v)
unfolding entries_of
sound-in bits v sound = sound

module _ (bits : ℕ) (v : LedgerView) (held : List HeldEntry) (room unheld : ℕ) (k : AreEntries bits v held room unheld)
    (number : ℕ) (next : v.last + 1 ≡ number) (settled : (r : ℕ) → is_settled_entry ((entries_in bits v).state r) ≡ true) where
  abbrev shelf : ℕ → ShelfView
  shelf b = shelf_at v.shelves.shelves b

  -- each state of a shelf is settled and up to the last commit
  plain : (b i : ℕ) → i < length (shelf b).states → (is_touched (state_at (shelf b).states i) ≡ false) × (is_timely (entries_in bits v) (state_at (shelf b).states i) ≡ true)
  plain b i below =
      let some : 0 < (shelf b).room = omega (arith, below, (k.counted b).of.taken) in
      let low : b < buffer_limit bits = omega (arith, within-shelf v.shelves.shelves b some, k.count, k.few_buffers) in
      let is : (entries_in bits v).state (packed bits (i + 1) b) ≡ Some (state_at (shelf b).states i) = state-at bits v.shelves.shelves b i low ∙ slice_get-get_or (shelf b).states i Free below in
      (not-true (is_touched (state_at (shelf b).states i)) (sym (ap is_settled_entry is) ∙ settled (packed bits (i + 1) b)), (sound-in bits v k.sound).up_to (packed bits (i + 1) b) (state_at (shelf b).states i) is)

  sums : (b : ℕ) → count_by (is_held number) (shelf b).states ≡ count_by (is_held v.last) (shelf b).states + count_by (is_since v.last) (shelf b).states
  sums b = count-split (is_held number) (is_held v.last) (is_since v.last) (shelf b).states
      (λ i below. holds (entries_in bits v) number next (state_at (shelf b).states i) (plain b i below).0 (plain b i below).1)

  held-words : (b : ℕ) → (buffer_at v.buffers b).held + (buffer_at v.buffers b).dropped ≡ (shelf b).width * count_by (is_held number) (shelf b).states
  held-words b =
      let parts = mul-add (shelf b).width (count_by (is_held v.last) (shelf b).states) (count_by (is_since v.last) (shelf b).states) in
      let all : (shelf b).width * count_by (is_held number) (shelf b).states ≡ (shelf b).width * (count_by (is_held v.last) (shelf b).states + count_by (is_since v.last) (shelf b).states) =
      ap (λ n. (shelf b).width * n) (sums b) in
      omega (arith, parts, all, (k.counted b).held, (k.counted b).dropped)

  abbrev pub committed : LedgerView
  committed = record v { buffers = map with_dropped_held v.buffers; last = number }

  pub commit-entries : entries_in bits committed ≡ record (entries_in bits v) { last = number }
  commit-entries = λ i. record {
    count = (entries_in bits v).count;
    words = v.shelves.words;
    last = number;
    generation = v.generation;
    oldest = v.oldest;
    state = (entries_in bits v).state;
    mark = λ b. mark_of (buffer-map with_dropped_held refl v.buffers b i);
    of_width = λ w. record ((entries_in bits v).of_width w) { buffers = widths-map w v.buffers i };
    finished = v.finished;
  }

  pub commit-kept : AreEntries bits committed (map (tagged_by v.generation number) held) room unheld
  unfolding entries_of
  commit-kept = record {
    count = length-map v.buffers with_dropped_held ∙ k.count;
    few_buffers = omega (arith, k.few_buffers, length-map v.buffers with_dropped_held);
    some_words = k.some_words;
    few_words = k.few_words;
    offsets = k.offsets;
    product = subst (λ n. n * v.shelves.words ≤ 67108864) (sym (length-map v.buffers with_dropped_held)) k.product;
    made_rows = k.made_rows;
    filled_rows = k.filled_rows;
    counted = λ b. subst (λ t. IsCounted v.shelves.words number t (shelf b)) (sym (buffer-map with_dropped_held refl v.buffers b)) (record {
      of = (k.counted b).of;
      width = (k.counted b).width;
      sealed = (k.counted b).sealed;
      used = (k.counted b).used;
      dead = (k.counted b).dead;
      held = held-words b;
      dropped = (let none = count-no (is_since number) (shelf b).states (λ i below. none-since (entries_in bits v) number next (state_at (shelf b).states i) (plain b i below).0 (plain b i below).1) in
          sym (ap (λ n. (shelf b).width * n) none ∙ omega arith));
    });
    filled = k.filled;
    flagged = λ b. subst (IsFlagged v.shelves.filled b) (sym (buffer-map with_dropped_held refl v.buffers b)) (k.flagged b);
    enough = λ w is. subst (λ n. n * capacity v.shelves.words w ≤ made_in v.shelves.made w + unmade_of_width v.shelves.shelves w) (sym (widths-map w v.buffers)) (k.enough w is);
    sound = subst IsSound (sym commit-entries) (record {
      order = k.sound.order;
      up_to = λ r s is. up-to-next (entries_in bits v) number next s (k.sound.up_to r s is);
      marks = λ b. record { width = (k.sound.marks b).width; from = (k.sound.marks b).from; to = (k.sound.marks b).to };
      sealed = λ b is. record { below = (k.sound.sealed b is).below; active = (k.sound.sealed b is).active; unfilled = (k.sound.sealed b is).unfilled };
      finished = k.sound.finished;
      few_made = k.sound.few_made;
      whole = k.sound.whole;
    });
    list = subst (λ e. IsHeldList bits e (map (tagged_by v.generation number) held)) (sym commit-entries) (list-tagged (entries_in bits v) number next bits held k.list);
    unheld_is = k.unheld_is;
    fits = k.fits;
  }

  -- what was dropped and what is held fits a count
  pub held-fits : All (λ (b : Buffer). b.held + b.dropped < 4294967296) v.buffers
  held-fits = All-from_get_or (λ (b : Buffer). b.held + b.dropped < 4294967296) v.buffers new_buffer (λ b below. fits b (cases_lt 0 (shelf b).room))
    where
      fits : (b : ℕ) → (0 < (shelf b).room) ⊎ ((shelf b).room ≤ 0) → (buffer_at v.buffers b).held + (buffer_at v.buffers b).dropped < 4294967296
      fits b (inl some) =
          let rooms = room-of v.shelves.words (shelf b) (k.counted b).of some in
          let few : count_by (is_held number) (shelf b).states ≤ v.shelves.words / (shelf b).width = omega (arith, count_by-le-length (is_held number) (shelf b).states, (k.counted b).of.taken, rooms.1) in
          let all : count_by (is_held number) (shelf b).states * (shelf b).width ≤ v.shelves.words / (shelf b).width * (shelf b).width = mul-le-mul_right (shelf b).width few in
          omega (arith, all, mul_comm (shelf b).width (count_by (is_held number) (shelf b).states), held-words b, div-mul-le_self v.shelves.words (shelf b).width, k.few_words)
      fits b (inr none) =
          let zero_is : count_by (is_held number) (shelf b).states ≡ 0 = omega (arith, count_by-le-length (is_held number) (shelf b).states, (k.counted b).of.taken, none) in
          let words : (shelf b).width * count_by (is_held number) (shelf b).states ≡ 0 = ap (λ n. (shelf b).width * n) zero_is ∙ omega arith in
          omega (arith, words, held-words b)
