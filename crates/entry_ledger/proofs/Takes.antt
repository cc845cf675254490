-- The entries after one was made.
use Rattle.std.proofs.Common.{◌≡◌, ◌≢◌, ℕ, ◌+◌, ◌-◌, ◌<◌, ◌≤◌, true, false, not, ◌&&◌, cond, eqb, List, [], ◌∷◌, ◌++◌, length, set, refl, sym, ap, subst, ◌∙◌, arith, inl, inr, get_or-set_other, get_or-set_same}
use Rattle.std.specs.List.{count_by}
use Rattle.std.proofs.lemmas.List.Sums.{sum_by_push}
use Rattle.std.proofs.lemmas.Bool.{cases_eq, eq-eqb, ne_eqb}
use Rattle.list_lemmas.specs.Counting.{one_if}
use Rattle.list_lemmas.proofs.Counts.{count_by-set}
use Rattle.entry_ref.specs.References.{packed, buffer_limit}
use Rattle.store_api.specs.Ledgers.{is_width, one_more, with_counts}
use Rattle.store_api.specs.Calls.{took_spare}
use Rattle.buffer_states.specs.declared.Buffer.{Buffer}
use Rattle.buffer_states.specs.Buffers.{new_buffer, buffer_at, is_state_free}
use Rattle.entry_ledger.specs.declared.state.State.{State}
use Rattle.entry_ledger.specs.declared.state.State.TheVariants.{Free, Returned, Made, InUse, LetGo, DroppedNow, Dropped}
use Rattle.entry_ledger.specs.States.{ShelfView, is_free_state, is_made, state_at, IsOpen, with_made}
use Rattle.entry_ledger.specs.declared.shelves.Taken.{Taken}
use Rattle.entry_ledger.specs.Shelves.{ShelvesView, shelf_at, row_of, made_in, filled_at, spare_of_width, Takes}
use Rattle.entry_ledger.proofs.Rows.{row_of-below, row_of-apart}
use Rattle.entry_ledger.proofs.Making.{made-spare}
use Rattle.entry_ledger.specs.Entries.{EntriesView, Mark}
use Rattle.entry_ledger.specs.Calls.{with_state}
use Rattle.entry_ledger.specs.Ledgers.{LedgerView, mark_of, is_buffer_of, counts_of}
use Rattle.entry_ledger.proofs.States.{state_by, state-set, changes-made}
use Rattle.entry_ledger.proofs.Counts.{fresh_of_width, spare-here, spare-other, fresh-here, fresh-other}

-- what the ledger says of all entries, in a form that computes
abbrev pub entries_in : ℕ → LedgerView → EntriesView
entries_in bits v = record {
  count = length v.shelves.shelves;
  words = v.shelves.words;
  last = v.last;
  generation = v.generation;
  oldest = v.oldest;
  state = state_by bits v.shelves.shelves;
  mark = λ b. mark_of (buffer_at v.buffers b);
  of_width = counts_of v;
  finished = v.finished;
}

free-made : (s : State) → is_free_state s ≡ true → is_made s ≡ false
free-made Free is = refl
free-made Returned is = refl
free-made Made is = absurd (cc)
free-made (InUse after) is = absurd (cc)
free-made LetGo is = absurd (cc)
free-made (DroppedNow after) is = absurd (cc)
free-made (Dropped after g) is = absurd (cc)

-- one entry more was made by the unit
made-fresh : (s : ShelfView) (x : ℕ) → IsOpen s x → count_by is_made (with_made s x).states ≡ count_by is_made s.states + 1
made-fresh s x can = elim (cases_eq x (length s.states)) [
  | inl e ↦
      ap (λ t. count_by is_made (cond t (s.states ++ Made ∷ []) (set s.states x Made))) (eq-eqb x (length s.states) e)
      ∙ sum_by_push (λ t. cond (is_made t) 1 0) s.states Made
  | inr ne ↦
      (let below : x < length s.states = omega (arith, can.within, ne) in
      let was : one_if (is_made (state_at s.states x)) ≡ 0 = ap one_if (free-made (state_at s.states x) (can.free below)) in
      let count = count_by-set is_made s.states x Made Free below in
      ap (λ t. count_by is_made (cond t (s.states ++ Made ∷ []) (set s.states x Made))) (ne_eqb x (length s.states) ne) ∙ omega (arith, count, was))
]

-- the counts of a width after its row has another number
row-made : (made : List ℕ) (width w n : ℕ) → length made ≡ 11 → is_width width ≡ true → made_in (set made (row_of width) n) w ≡ cond (eqb w width) n (made_in made w)
row-made made width w n eleven valid = elim (cases_eq w width) [
  | inl e ↦
      (let low : row_of width < length made = (let less = row_of-below width valid in omega (arith, less, eleven)) in
      ap (λ v. made_in (set made (row_of width) n) v) e ∙ get_or-set_same made (row_of width) n 0 low ∙ sym (ap (λ t. cond t n (made_in made w)) (eq-eqb w width e)))
  | inr ne ↦ get_or-set_other made (row_of width) (row_of w) n 0 (row_of-apart w width valid ne) ∙ sym (ap (λ t. cond t n (made_in made w)) (ne_eqb w width ne))
]

-- buffers with other counts are of the same widths
pub buffers-same : (buffers : List Buffer) (b : ℕ) (new : Buffer) → b < length buffers → mark_of new ≡ mark_of (buffer_at buffers b)
    → (w : ℕ) → count_by (is_buffer_of w) (set buffers b new) ≡ count_by (is_buffer_of w) buffers
buffers-same buffers b new h same w =
    let test : is_buffer_of w new ≡ is_buffer_of w (buffer_at buffers b) = ap (λ (m : Mark). not (is_state_free m.state) && eqb m.width w) same in
    let equal : one_if (is_buffer_of w new) ≡ one_if (is_buffer_of w (buffer_at buffers b)) = ap one_if test in
    omega (arith, count_by-set (is_buffer_of w) buffers b new new_buffer h, equal)

module _ (bits : ℕ) (old new : ShelvesView) (width : ℕ) (t : Taken) (takes : Takes old new width t) (valid : is_width width ≡ true) (eleven : length old.made ≡ 11) where
  abbrev shelf : ShelfView
  shelf = shelf_at old.shelves t.buffer

  shelves_is : new.shelves ≡ set old.shelves t.buffer (with_made shelf t.place)
  shelves_is = ap (λ (v : ShelvesView). v.shelves) takes.new_is

  pub takes-state : length old.shelves < buffer_limit bits → (r : ℕ)
      → state_by bits new.shelves r ≡ with_state (state_by bits old.shelves) (packed bits (t.place + 1) t.buffer) Made r
  takes-state few r =
      ap (λ xs. state_by bits xs r) shelves_is
      ∙ state-set bits old.shelves t.buffer t.place (with_made shelf t.place) Made takes.below (omega (arith, takes.below, few)) (changes-made shelf t.place takes.is_open.within) r

  spare-less : length shelf.states ≤ shelf.room → spare_of_width new.shelves width + 1 ≡ spare_of_width old.shelves width
  spare-less fits =
      let here = spare-here old.shelves t.buffer (with_made shelf t.place) takes.below refl refl takes.unsealed in
      let less = made-spare shelf t.place fits takes.is_open in
      let moved : spare_of_width (set old.shelves t.buffer (with_made shelf t.place)) shelf.width + 1 ≡ spare_of_width old.shelves shelf.width = omega (arith, here, less) in
      ap (λ xs. spare_of_width xs width + 1) shelves_is ∙ subst (λ w. spare_of_width (set old.shelves t.buffer (with_made shelf t.place)) w + 1 ≡ spare_of_width old.shelves w) takes.of_width moved

  fresh-more : fresh_of_width new.shelves width ≡ fresh_of_width old.shelves width + 1
  fresh-more =
      let here = fresh-here old.shelves t.buffer (with_made shelf t.place) takes.below refl refl takes.unsealed in
      let more = made-fresh shelf t.place takes.is_open in
      let moved : fresh_of_width (set old.shelves t.buffer (with_made shelf t.place)) shelf.width ≡ fresh_of_width old.shelves shelf.width + 1 = omega (arith, here, more) in
      ap (λ xs. fresh_of_width xs width) shelves_is ∙ subst (λ w. fresh_of_width (set old.shelves t.buffer (with_made shelf t.place)) w ≡ fresh_of_width old.shelves w + 1) takes.of_width moved

  -- of other widths nothing changes
  rest-same : (w : ℕ) → w ≢ width → (spare_of_width new.shelves w ≡ spare_of_width old.shelves w) × (fresh_of_width new.shelves w ≡ fresh_of_width old.shelves w)
  rest-same w ne =
      let apart : w ≢ shelf.width = λ e. ne (e ∙ takes.of_width) in (
        ap (λ xs. spare_of_width xs w) shelves_is ∙ spare-other old.shelves t.buffer (with_made shelf t.place) takes.below refl refl w apart,
        ap (λ xs. fresh_of_width xs w) shelves_is ∙ fresh-other old.shelves t.buffer (with_made shelf t.place) takes.below refl refl w apart,
      )

  pub takes-counts : length shelf.states ≤ shelf.room → (before after : LedgerView) → before.shelves ≡ old → after.shelves ≡ new
      → ((w : ℕ) → count_by (is_buffer_of w) after.buffers ≡ count_by (is_buffer_of w) before.buffers)
      → (w : ℕ) → counts_of after w ≡ with_counts (counts_of before) width (took_spare (counts_of before width)) w
  takes-counts fits before after before_is after_is buffers w = elim (cases_eq w width) [
    | inl e ↦ here e ∙ sym (ap (λ t. cond t (took_spare (counts_of before width)) (counts_of before w)) (eq-eqb w width e))
    | inr ne ↦ other ne ∙ sym (ap (λ t. cond t (took_spare (counts_of before width)) (counts_of before w)) (ne_eqb w width ne))
  ]
    where
      made_is : new.made ≡ set old.made (row_of width) (one_more (made_in old.made width))
      made_is = ap (λ (v : ShelvesView). v.made) takes.new_is

      filled_is : new.filled ≡ old.filled
      filled_is = ap (λ (v : ShelvesView). v.filled) takes.new_is

      new_made : (v : ℕ) → made_in new.made v ≡ cond (eqb v width) (one_more (made_in old.made width)) (made_in old.made v)
      new_made v = ap (λ ms. made_in ms v) made_is ∙ row-made old.made width v (one_more (made_in old.made width)) eleven valid

      here : w ≡ width → counts_of after w ≡ took_spare (counts_of before width)
      here e =
          let m : made_in after.shelves.made width ≡ one_more (made_in before.shelves.made width) =
          ap (λ (u : ShelvesView). made_in u.made width) after_is ∙ new_made width ∙ ap (λ t. cond t (one_more (made_in old.made width)) (made_in old.made width)) (eq-eqb width width refl)
          ∙ ap (λ (u : ShelvesView). one_more (made_in u.made width)) (sym before_is) in
          let s : spare_of_width after.shelves.shelves width ≡ spare_of_width before.shelves.shelves width - 1 =
          ap (λ (u : ShelvesView). spare_of_width u.shelves width) after_is ∙ (let less = spare-less fits in omega (arith, less)) ∙ ap (λ (u : ShelvesView). spare_of_width u.shelves width - 1) (sym before_is) in
          let f : fresh_of_width after.shelves.shelves width ≡ fresh_of_width before.shelves.shelves width + 1 =
          ap (λ (u : ShelvesView). fresh_of_width u.shelves width) after_is ∙ fresh-more ∙ ap (λ (u : ShelvesView). fresh_of_width u.shelves width + 1) (sym before_is) in
          let l : filled_at after.shelves.filled width ≡ filled_at before.shelves.filled width =
          ap (λ (u : ShelvesView). filled_at u.filled width) after_is ∙ ap (λ fs. filled_at fs width) filled_is ∙ ap (λ (u : ShelvesView). filled_at u.filled width) (sym before_is) in
          ap (counts_of after) e ∙ (λ i. record { made = m i; spare = s i; fresh = f i; buffers = buffers width i; filled = l i })

      other : w ≢ width → counts_of after w ≡ counts_of before w
      other ne =
          let m : made_in after.shelves.made w ≡ made_in before.shelves.made w =
          ap (λ (u : ShelvesView). made_in u.made w) after_is ∙ new_made w ∙ ap (λ t. cond t (one_more (made_in old.made width)) (made_in old.made w)) (ne_eqb w width ne)
          ∙ ap (λ (u : ShelvesView). made_in u.made w) (sym before_is) in
          let s : spare_of_width after.shelves.shelves w ≡ spare_of_width before.shelves.shelves w =
          ap (λ (u : ShelvesView). spare_of_width u.shelves w) after_is ∙ (rest-same w ne).0 ∙ ap (λ (u : ShelvesView). spare_of_width u.shelves w) (sym before_is) in
          let f : fresh_of_width after.shelves.shelves w ≡ fresh_of_width before.shelves.shelves w =
          ap (λ (u : ShelvesView). fresh_of_width u.shelves w) after_is ∙ (rest-same w ne).1 ∙ ap (λ (u : ShelvesView). fresh_of_width u.shelves w) (sym before_is) in
          let l : filled_at after.shelves.filled w ≡ filled_at before.shelves.filled w =
          ap (λ (u : ShelvesView). filled_at u.filled w) after_is ∙ ap (λ fs. filled_at fs w) filled_is ∙ ap (λ (u : ShelvesView). filled_at u.filled w) (sym before_is) in
          λ i. record { made = m i; spare = s i; fresh = f i; buffers = buffers w i; filled = l i }
