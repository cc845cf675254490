-- What is kept where buffers on hold are free, after the list has no entry any more that is tagged below the oldest generation.
use Rattle.std.proofs.Common.{◌≡◌, ℕ, zero, suc, ◌+◌, ◌*◌, ◌<◌, ◌≤◌, Bool, true, false, ◌&&◌, cond, eqb, leb, List, [], ◌∷◌, map, length, get_or, Option, None, Some, refl, sym, ap, subst, ◌∙◌, arith}
use Rattle.std.specs.Prelude.{nat_lt}
use Rattle.std.specs.Option.{option_map}
use Rattle.std.specs.List.{count_by, find}
use Rattle.std.proofs.Math.Nat.{mul-le-mul_right}
use Rattle.std.proofs.lemmas.List.{length-map}
use Rattle.std.proofs.lemmas.List.Elements.{All-get_or, All-from_get_or}
use Rattle.std.proofs.lemmas.List.Sums.{sum_by-cons}
use Rattle.std.proofs.lemmas.Bool.{eqb-true, leb-true, le-leb, lt-ltb, le-ltb, ltb-true, ltb-false, true≢false}
use Rattle.list_lemmas.specs.Counting.{one_if}
use Rattle.entry_ref.specs.References.{buffer_of}
use Rattle.store_api.specs.Ledgers.{is_this, capacity}
use Rattle.buffer_states.specs.declared.Buffer.{Buffer}
use Rattle.buffer_states.specs.declared.BufferState.{BufferState}
use Rattle.buffer_states.specs.declared.BufferState.TheVariants.{Free, Active, OnHold}
use Rattle.buffer_states.specs.Buffers.{new_buffer, buffer_at, freed_below, is_state_active, is_on_hold}
use Rattle.entry_ledger.specs.declared.state.State.{State}
use Rattle.entry_ledger.specs.declared.state.State.TheVariants.{Free as FreeState, Returned, Made, InUse, LetGo, DroppedNow, Dropped}
use Rattle.entry_ledger.specs.States.{is_dead, is_held}
use Rattle.entry_ledger.specs.Shelves.{shelf_at, row_of, filled_at}
use Rattle.hold_lists.specs.Held.{HeldEntry, HoldTag, untagged, is_below, is_tag_below}
use Rattle.entry_ledger.specs.Entries.{EntriesView, Mark, IsMark, IsSealed, width_of, is_timely}
use Rattle.entry_ledger.specs.Calls.{freed, freed_mark, free_mark, Frees}
use Rattle.entry_ledger.specs.Ledgers.{LedgerView, entries_of, mark_of, is_since, is_buffer_of, tag_fits, tag_below, held_fits, is_in_list, IsCounted, IsFlagged, IsHeldList, IsSound, AreEntries}
use Rattle.entry_ledger.proofs.States.{buffer-map}
use Rattle.entry_ledger.proofs.Good.{entries-are}
use Rattle.entry_ledger.proofs.Takes.{entries_in}
use Rattle.entry_ledger.proofs.Commits.{sound-in}
use Rattle.entry_ledger.proofs.Whole.{whole-of}
use Rattle.entry_ledger.proofs.Pops.{none-passes, any-at, kept-tag}
use Rattle.entry_ledger.proofs.Releases.{Freeing}

-- a buffer that is on hold below a generation is a new one then, each other is as before
each-freed : (P : Buffer → Type 0) (oldest : ℕ) (x : Buffer) → ((is_on_hold x.state ≡ true → oldest ≤ x.generation) → P x)
    → (is_on_hold x.state ≡ true → x.generation < oldest → P new_buffer) → P (freed_below oldest x)
each-freed P oldest x same new = by_tests (is_on_hold x.state) (nat_lt x.generation oldest) refl refl
  where
    by_tests : (s t : Bool) → is_on_hold x.state ≡ s → nat_lt x.generation oldest ≡ t → P (cond (s && t) new_buffer x)
    by_tests true true held low = new held (ltb-true x.generation oldest low)
    by_tests true false held high = same (λ is. ltb-false x.generation oldest high)
    by_tests false t unheld low = same (λ is. absurd (true≢false (sym is ∙ unheld)))

mark-freed : (oldest : ℕ) (x : Buffer) → mark_of (freed_below oldest x) ≡ freed_mark oldest (mark_of x)
mark-freed oldest x = by_tests (is_on_hold x.state) (nat_lt x.generation oldest)
  where
    by_tests : (s t : Bool) → mark_of (cond (s && t) new_buffer x) ≡ cond s (cond t free_mark (mark_of x)) (mark_of x)
    by_tests true true = refl
    by_tests true false = refl
    by_tests false t = refl

-- no width has more buffers then
count-freed : (oldest w : ℕ) (bs : List Buffer) → count_by (is_buffer_of w) (map (freed_below oldest) bs) ≤ count_by (is_buffer_of w) bs
count-freed oldest w [] = omega arith
count-freed oldest w (x ∷ bs) =
    let here : one_if (is_buffer_of w (freed_below oldest x)) ≤ one_if (is_buffer_of w x) = by_test (is_on_hold x.state && nat_lt x.generation oldest) in
    omega (
      arith,
      here,
      count-freed oldest w bs,
      sum_by-cons (λ b. cond (is_buffer_of w b) 1 0) (freed_below oldest x) (map (freed_below oldest) bs),
      sum_by-cons (λ b. cond (is_buffer_of w b) 1 0) x bs,
    )
  where
    by_test : (t : Bool) → one_if (is_buffer_of w (cond t new_buffer x)) ≤ one_if (is_buffer_of w x)
    by_test true = omega arith
    by_test false = omega arith

-- no buffer is filled of no width
past-rows : (fs : List (Option ℕ)) (n : ℕ) → length fs ≤ n → get_or fs n None ≡ None
past-rows [] n past = refl
past-rows (f ∷ fs) zero past = absurd (omega (arith, past))
past-rows (f ∷ fs) (suc n) past = past-rows fs n (omega (arith, past))

none-filled : (fs : List (Option ℕ)) → length fs ≡ 11 → filled_at fs 0 ≡ None
unfolding row_of
none-filled fs eleven = past-rows fs 11 (omega (arith, eleven))

hold-inactive : (s : BufferState) → is_on_hold s ≡ true → is_state_active s ≡ false
hold-inactive Free is = refl
hold-inactive Active is = absurd (true≢false (sym is))
hold-inactive OnHold is = refl

-- an entry that lay in a buffer on hold was tagged no later than the buffer
hold-tag : (last generation oldest : ℕ) (mark : Mark) (tag : Option HoldTag) (state : Option State) → is_on_hold mark.state ≡ true → mark.generation < oldest
    → held_fits last generation mark tag state ≡ true → is_tag_below oldest tag ≡ true
hold-tag last generation oldest mark tag state held low is = by_tag tag
    (sym (ap (λ t. cond t (tag_fits last generation tag state) (cond (is_on_hold mark.state) (tag_below mark.generation tag) false)) (hold-inactive mark.state held)
    ∙ ap (λ t. cond t (tag_below mark.generation tag) false) held) ∙ is)
  where
    by_tag : (t : Option HoldTag) → tag_below mark.generation t ≡ true → is_tag_below oldest t ≡ true
    by_tag None e = absurd (true≢false (sym e))
    by_tag (Some t) e = lt-ltb t.generation oldest (let under = leb-true t.generation mark.generation e in omega (arith, under, low))

module _ (bits : ℕ) (v : LedgerView) (held : List HeldEntry) (room unheld : ℕ) (k : AreEntries bits v held room unheld)
    (oldest : ℕ) (none : find (is_below oldest) held ≡ None) (current : oldest ≤ v.generation) where
  abbrev pub freed_view : LedgerView
  freed_view = record v { buffers = map (freed_below oldest) v.buffers; oldest = oldest }

  sound : IsSound (entries_in bits v)
  sound = sound-in bits v k.sound

  list_in : IsHeldList bits (entries_in bits v) held
  unfolding entries_of
  list_in = k.list

  listed : (i : ℕ) → i < length held → is_in_list bits (entries_in bits v) (get_or held i (untagged 0)) ≡ true
  listed i below = All-get_or (λ h. is_in_list bits (entries_in bits v) h ≡ true) held i (untagged 0) below list_in.each

  high : (i : ℕ) → i < length held → is_tag_below oldest (get_or held i (untagged 0)).tag ≡ false
  high i below = none-passes (is_below oldest) held none i (untagged 0) below

  -- what is dropped was dropped under the oldest generation or later
  dropped-since : (r after g : ℕ) → (entries_in bits v).state r ≡ Some (Dropped after g) → oldest ≤ g
  dropped-since r after g is = any-at (λ (h : HeldEntry). eqb h.entry r) held (list_in.all r after g is) (λ i below same.
      (let h = get_or held i (untagged 0) in
      let entry : h.entry ≡ r = eqb-true h.entry r same in
      let active : is_state_active (buffer_at v.buffers (buffer_of bits h.entry)).state ≡ true = ap (λ n. is_state_active (buffer_at v.buffers (buffer_of bits n)).state) entry ∙ active_of in
      let fits : tag_fits v.last v.generation h.tag ((entries_in bits v).state h.entry) ≡ true =
      sym (ap (λ t. cond t (tag_fits v.last v.generation h.tag ((entries_in bits v).state h.entry))
      (cond (is_on_hold (buffer_at v.buffers (buffer_of bits h.entry)).state) (tag_below (buffer_at v.buffers (buffer_of bits h.entry)).generation h.tag) false)) active) ∙ listed i below in
      kept-tag v.last v.generation oldest h.tag after g current (subst (λ s. tag_fits v.last v.generation h.tag s ≡ true) (ap (entries_in bits v).state entry ∙ is) fits) (high i below)))
    where
      active_of : is_state_active (buffer_at v.buffers (buffer_of bits r)).state ≡ true
      active_of = by_test (is_state_active (buffer_at v.buffers (buffer_of bits r)).state) refl
        where
          by_test : (t : Bool) → is_state_active (buffer_at v.buffers (buffer_of bits r)).state ≡ t → t ≡ true
          by_test true e = refl
          by_test false e =
              let zero_is : width_of (entries_in bits v) (buffer_of bits r) ≡ 0 = ap (λ t. cond t (buffer_at v.buffers (buffer_of bits r)).width 0) e in
              let wide = (entries-are bits v held room unheld k r (Dropped after g) is).wide in
              absurd (omega (arith, zero_is, wide))

  freed-same : (r : ℕ) → option_map (freed oldest) ((entries_in bits v).state r) ≡ (entries_in bits v).state r
  freed-same r = by_state ((entries_in bits v).state r) refl
    where
      by_state : (o : Option State) → (entries_in bits v).state r ≡ o → option_map (freed oldest) o ≡ o
      by_state None is = refl
      by_state (Some FreeState) is = refl
      by_state (Some Returned) is = refl
      by_state (Some Made) is = refl
      by_state (Some (InUse after)) is = refl
      by_state (Some LetGo) is = refl
      by_state (Some (DroppedNow after)) is = refl
      by_state (Some (Dropped after g)) is = ap (λ t. Some (cond t FreeState (Dropped after g))) (le-ltb g oldest (dropped-since r after g is))

  -- a buffer that is on hold is not sealed, and its shelf is empty
  hold-sealed : (b : ℕ) → is_on_hold (buffer_at v.buffers b).state ≡ true → (buffer_at v.buffers b).sealed ≡ false
  hold-sealed b held = by_test (buffer_at v.buffers b).sealed refl
    where
      by_test : (t : Bool) → (buffer_at v.buffers b).sealed ≡ t → t ≡ false
      by_test false is = refl
      by_test true is = absurd (true≢false (sym (sound.sealed b is).active ∙ hold-inactive (buffer_at v.buffers b).state held))

  hold-width : (b : ℕ) → is_on_hold (buffer_at v.buffers b).state ≡ true → (shelf_at v.shelves.shelves b).width ≡ 0
  hold-width b held = (k.counted b).width ∙ ap (λ t. cond t (buffer_at v.buffers b).width 0) (hold-inactive (buffer_at v.buffers b).state held)

  no-words : (w n : ℕ) → w ≡ 0 → 0 ≡ w * n
  no-words w n is = sym (ap (λ m. m * n) is ∙ omega arith)

  abbrev at : ℕ → Buffer
  at b = buffer_at (map (freed_below oldest) v.buffers) b

  each-at : (P : Buffer → Type 0) (b : ℕ) → ((is_on_hold (buffer_at v.buffers b).state ≡ true → oldest ≤ (buffer_at v.buffers b).generation) → P (buffer_at v.buffers b))
      → (is_on_hold (buffer_at v.buffers b).state ≡ true → (buffer_at v.buffers b).generation < oldest → P new_buffer) → P (at b)
  each-at P b same new = subst P (sym (buffer-map (freed_below oldest) refl v.buffers b)) (each-freed P oldest (buffer_at v.buffers b) same new)

  counted-freed : (b : ℕ) → IsCounted v.shelves.words v.last (at b) (shelf_at v.shelves.shelves b)
  counted-freed b = each-at (λ x. IsCounted v.shelves.words v.last x (shelf_at v.shelves.shelves b)) b (λ from. k.counted b) (λ held low.
      (let none_is = hold-width b held in record {
        of = (k.counted b).of;
        width = none_is;
        sealed = sym (sym (k.counted b).sealed ∙ hold-sealed b held);
        used = no-words (shelf_at v.shelves.shelves b).width (1 + length (shelf_at v.shelves.shelves b).states) none_is;
        dead = no-words (shelf_at v.shelves.shelves b).width (count_by is_dead (shelf_at v.shelves.shelves b).states) none_is;
        held = no-words (shelf_at v.shelves.shelves b).width (count_by (is_held v.last) (shelf_at v.shelves.shelves b).states) none_is;
        dropped = no-words (shelf_at v.shelves.shelves b).width (count_by (is_since v.last) (shelf_at v.shelves.shelves b).states) none_is;
      }))

  marks-freed : (b : ℕ) → IsMark (entries_in bits freed_view) (mark_of (at b))
  marks-freed b = each-at (λ x. IsMark (entries_in bits freed_view) (mark_of x)) b
      (λ from. (let m = sound.marks b in record { width = m.width; from = from; to = m.to }))
      (λ held low. record { width = λ f. absurd (true≢false f); from = λ f. absurd (true≢false (sym f)); to = λ f. absurd (true≢false (sym f)) })

  sealed-freed : (b : ℕ) → (at b).sealed ≡ true → IsSealed (entries_in bits freed_view) b
  sealed-freed b is =
      let all = each-at (λ x. x.sealed ≡ true → (b < length v.shelves.shelves) × (is_state_active x.state ≡ true) × (filled_at v.shelves.filled x.width ≡ Some b → ⊥)) b
      (λ from s. ((sound.sealed b s).below, (sound.sealed b s).active, (sound.sealed b s).unfilled)) (λ held low s. absurd (true≢false (sym s))) is in
      record { below = all.0; active = all.1; unfilled = all.2 }

  finished-freed : (b : ℕ) → v.finished ≡ Some b → (at b).sealed ≡ true
  finished-freed b is = each-at (λ x. x.sealed ≡ true) b (λ from. sound.finished b is) (λ held low. absurd (true≢false (sym (sound.finished b is) ∙ hold-sealed b held)))

  up-freed : (r : ℕ) (s : State) → (entries_in bits v).state r ≡ Some s → is_timely (entries_in bits freed_view) s ≡ true
  up-freed r FreeState is = refl
  up-freed r Returned is = refl
  up-freed r Made is = refl
  up-freed r (InUse after) is = sound.up_to r (InUse after) is
  up-freed r LetGo is = refl
  up-freed r (DroppedNow after) is = sound.up_to r (DroppedNow after) is
  up-freed r (Dropped after g) is = middle (leb after v.last) (leb v.oldest g) (leb oldest g) (leb g v.generation) (le-leb oldest g (dropped-since r after g is)) (sound.up_to r (Dropped after g) is)
    where
      middle : (a b c d : Bool) → c ≡ true → (a && b && d) ≡ true → (a && c && d) ≡ true
      middle true true true d c is = is
      middle true true false d c is = absurd (true≢false (sym c))
      middle true false c d high is = absurd (true≢false (sym is))
      middle false b c d high is = absurd (true≢false (sym is))

  list-freed : IsHeldList bits (entries_in bits freed_view) held
  list-freed = record {
    each = All-from_get_or (λ h. is_in_list bits (entries_in bits freed_view) h ≡ true) held (untagged 0) (λ i below.
        (let h = get_or held i (untagged 0) in
        let b = buffer_of bits h.entry in
        each-at (λ x. held_fits v.last v.generation (mark_of x) h.tag ((entries_in bits v).state h.entry) ≡ true) b (λ from. listed i below) (λ on_hold low.
        absurd (true≢false (sym (hold-tag v.last v.generation oldest (mark_of (buffer_at v.buffers b)) h.tag ((entries_in bits v).state h.entry) on_hold low (listed i below)) ∙ high i below)))));
    apart = list_in.apart;
    all = list_in.all;
  }

  pub freed-kept : AreEntries bits freed_view held room unheld
  unfolding entries_of
  freed-kept = record {
    count = length-map v.buffers (freed_below oldest) ∙ k.count;
    few_buffers = omega (arith, k.few_buffers, length-map v.buffers (freed_below oldest));
    some_words = k.some_words;
    few_words = k.few_words;
    offsets = k.offsets;
    product = subst (λ n. n * v.shelves.words ≤ 67108864) (sym (length-map v.buffers (freed_below oldest))) k.product;
    made_rows = k.made_rows;
    filled_rows = k.filled_rows;
    counted = counted-freed;
    filled = k.filled;
    flagged = λ b. each-at (IsFlagged v.shelves.filled b) b (λ from. k.flagged b) (λ held low. sym (ap (λ o. is_this o b) (none-filled v.shelves.filled k.filled_rows)));
    enough = λ w is. (let fewer : count_by (is_buffer_of w) (map (freed_below oldest) v.buffers) * capacity v.shelves.words w ≤ count_by (is_buffer_of w) v.buffers * capacity v.shelves.words w =
        mul-le-mul_right (capacity v.shelves.words w) (count-freed oldest w v.buffers) in omega (arith, fewer, k.enough w is));
    sound = record {
      order = current;
      up_to = up-freed;
      marks = marks-freed;
      sealed = sealed-freed;
      finished = finished-freed;
      few_made = k.sound.few_made;
      whole = whole-of (map (freed_below oldest) v.buffers) (entries_in bits freed_view).of_width (length v.shelves.shelves) (length-map v.buffers (freed_below oldest) ∙ k.count) (λ w. refl)
          (λ b. (marks-freed b).width);
    };
    list = list-freed;
    unheld_is = k.unheld_is;
    fits = k.fits;
  }

  pub freed-frees : (first : EntriesView) → Freeing oldest first (entries_in bits v) → Frees first (entries_in bits freed_view) oldest
  freed-frees first far = record {
    state = λ r. sym (freed-same r) ∙ far.states r;
    mark = λ b. ap mark_of (buffer-map (freed_below oldest) refl v.buffers b) ∙ mark-freed oldest (buffer_at v.buffers b) ∙ ap (λ (t : EntriesView). freed_mark oldest (t.mark b)) far.same;
    counts = λ w. (let a = far.counts w in record { made = a.made; fresh = a.fresh; filled = a.filled; spare = a.spare; buffers = (let fewer = count-freed oldest w v.buffers in omega (arith, a.buffers, fewer)) });
    same = ap (λ (t : EntriesView). record t { state = (entries_in bits v).state; mark = (entries_in bits freed_view).mark; of_width = (entries_in bits freed_view).of_width; oldest = oldest }) far.same;
  }
