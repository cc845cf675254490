-- What callers see of all entries, where a free buffer was opened for entries of a width.
use Rattle.std.proofs.Common.{◌≡◌, ◌≢◌, ◌⊎◌, ℕ, zero, suc, ◌+◌, ◌<◌, Bool, true, false, cond, eqb, List, [], ◌∷◌, Option, Some, refl, sym, ap, subst, ◌∙◌, arith, inl, inr}
use Rattle.std.specs.List.{count_by}
use Rattle.std.proofs.lemmas.List.Elements.{All-weaker}
use Rattle.std.proofs.lemmas.List.Sums.{sum_by-cons}
use Rattle.std.proofs.lemmas.Bool.{cases_lt, cases_eq, eqb-true, eq-eqb, ne_eqb, true≢false}
use Rattle.list_lemmas.proofs.Options.{same_Some}
use Rattle.list_lemmas.proofs.Tests.{true_from_list_all}
use Rattle.list_lemmas.specs.Counting.{one_if}
use Rattle.entry_ref.specs.References.{buffer_of}
use Rattle.store_api.specs.Ledgers.{OfWidth, is_width, widths, capacity, buffers_in, with_counts}
use Rattle.buffer_states.specs.declared.BufferState.{BufferState}
use Rattle.buffer_states.specs.declared.BufferState.TheVariants.{Free, Active, OnHold}
use Rattle.buffer_states.specs.Buffers.{is_state_free, is_state_active, is_on_hold}
use Rattle.entry_ledger.specs.declared.state.State.{State}
use Rattle.hold_lists.specs.Held.{HeldEntry, HoldTag}
use Rattle.entry_ledger.specs.Entries.{EntriesView, Mark, IsMark, IsSealed, count_marks}
use Rattle.entry_ledger.specs.Calls.{with_mark, opened_at}
use Rattle.entry_ledger.specs.Ledgers.{tag_fits, tag_below, held_fits, is_in_list, IsHeldList, IsSound}
use Rattle.entry_ledger.proofs.Sound.{counts-keep}

pub free-inactive : (s : BufferState) → is_state_free s ≡ true → is_state_active s ≡ false
free-inactive Free is = refl
free-inactive Active is = absurd (true≢false (sym is))
free-inactive OnHold is = refl

-- a width is one of the widths, once
once : (w : ℕ) → is_width w ≡ true → count_by (λ v. eqb v w) widths ≡ 1
once w is = eqb-true (count_by (λ v. eqb v w) widths) 1 (true_from_list_all (λ u. eqb (count_by (λ v. eqb v u) widths) 1) w widths is refl)

-- a width has one buffer more
buffers-more : (f : ℕ → OfWidth) (w : ℕ) (new : OfWidth) → new.buffers ≡ (f w).buffers + 1 → (ws : List ℕ)
    → buffers_in (with_counts f w new) ws ≡ buffers_in f ws + count_by (λ v. eqb v w) ws
buffers-more f w new more [] = refl
buffers-more f w new more (v ∷ ws) = omega (arith, here (cases_eq v w), buffers-more f w new more ws, sum_by-cons (λ u. cond (eqb u w) 1 0) v ws)
  where
    here : (v ≡ w) ⊎ (v ≢ w) → (with_counts f w new v).buffers ≡ (f v).buffers + one_if (eqb v w)
    here (inl e) =
        let is : (with_counts f w new v).buffers ≡ new.buffers = ap (λ t. (cond t new (f v)).buffers) (eq-eqb v w e) in
        let same : (f v).buffers ≡ (f w).buffers = ap (λ u. (f u).buffers) e in
        let one : one_if (eqb v w) ≡ 1 = ap one_if (eq-eqb v w e) in
        omega (arith, is, more, same, one)
    here (inr ne) =
        let is : (with_counts f w new v).buffers ≡ (f v).buffers = ap (λ t. (cond t new (f v)).buffers) (ne_eqb v w ne) in
        let none : one_if (eqb v w) ≡ 0 = ap one_if (ne_eqb v w ne) in
        omega (arith, is, none)

count-same : (test : BufferState → Bool) (f g : ℕ → Mark) (n : ℕ) → ((a : ℕ) → a < n → f a ≡ g a) → count_marks test f n ≡ count_marks test g n
count-same test f g zero same = refl
count-same test f g (suc n) same =
    let here : one_if (test (f n).state) ≡ one_if (test (g n).state) = ap (λ (m : Mark). one_if (test m.state)) (same n (omega arith)) in
    omega (arith, count-same test f g n (λ a low. same a (omega (arith, low))), here)

pub mark-other : (mark : ℕ → Mark) (b : ℕ) (new : Mark) (a : ℕ) → a ≢ b → with_mark mark b new a ≡ mark a
mark-other mark b new a ne = ap (λ t. cond t new (mark a)) (ne_eqb a b ne)

pub mark-here : (mark : ℕ → Mark) (b : ℕ) (new : Mark) (a : ℕ) → a ≡ b → with_mark mark b new a ≡ new
mark-here mark b new a e = ap (λ t. cond t new (mark a)) (eq-eqb a b e)

-- one buffer is free no longer
free-less : (mark : ℕ → Mark) (b : ℕ) (new : Mark) → is_state_free (mark b).state ≡ true → is_state_free new.state ≡ false → (n : ℕ) → b < n
    → count_marks is_state_free (with_mark mark b new) n + 1 ≡ count_marks is_state_free mark n
free-less mark b new was now zero below = absurd (omega (arith, below))
free-less mark b new was now (suc n) below = elim (cases_lt b n) [
  | inl k ↦
      (let here : one_if (is_state_free (with_mark mark b new n).state) ≡ one_if (is_state_free (mark n).state) =
      ap (λ (m : Mark). one_if (is_state_free m.state)) (mark-other mark b new n (λ e. omega (arith, e, k))) in
      omega (arith, here, free-less mark b new was now n k))
  | inr k ↦
      (let last : n ≡ b = omega (arith, below, k) in
      let here : one_if (is_state_free (with_mark mark b new n).state) ≡ 0 = ap (λ (m : Mark). one_if (is_state_free m.state)) (mark-here mark b new n last) ∙ ap one_if now in
      let before : one_if (is_state_free (mark n).state) ≡ 1 = ap (λ a. one_if (is_state_free (mark a).state)) last ∙ ap one_if was in
      omega (arith, here, before, count-same is_state_free (with_mark mark b new) mark n (λ a low. mark-other mark b new a (λ e. omega (arith, e, low, last)))))
]

-- a free buffer has no entry in the list
free-none : (last generation : ℕ) (mark : Mark) (tag : Option HoldTag) (state : Option State) → is_state_free mark.state ≡ true → held_fits last generation mark tag state ≡ false
free-none last generation mark tag state free = by_state mark.state free
  where
    by_state : (s : BufferState) → is_state_free s ≡ true → cond (is_state_active s) (tag_fits last generation tag state) (cond (is_on_hold s) (tag_below mark.generation tag) false) ≡ false
    by_state Free is = refl
    by_state Active is = absurd (true≢false (sym is))
    by_state OnHold is = absurd (true≢false (sym is))

abbrev opened_mark : ℕ → Mark
opened_mark w = record { state = Active; width = w; generation = 0; sealed = false }

module _ (e : EntriesView) (b w : ℕ) (below : b < e.count) (free : is_state_free (e.mark b).state ≡ true) (valid : is_width w ≡ true) where
  abbrev counts : OfWidth
  counts = record (e.of_width w) { spare = capacity e.words w; buffers = (e.of_width w).buffers + 1; filled = Some b }

  mark-opened : (a : ℕ) → IsMark e (e.mark a) → IsMark (opened_at e b w) (with_mark e.mark b (opened_mark w) a)
  mark-opened a is = elim (cases_eq a b) [
    | inl same ↦
        subst (IsMark (opened_at e b w)) (sym (mark-here e.mark b (opened_mark w) a same))
        (record { width = λ used. valid; from = λ held. absurd (true≢false (sym held)); to = λ held. absurd (true≢false (sym held)) })
    | inr ne ↦ subst (IsMark (opened_at e b w)) (sym (mark-other e.mark b (opened_mark w) a ne)) (record { width = is.width; from = is.from; to = is.to })
  ]

  filled-opened : (a u : ℕ) → a ≢ b → ((e.of_width u).filled ≡ Some a → ⊥) → (with_counts e.of_width w counts u).filled ≡ Some a → ⊥
  filled-opened a u ne never is = elim (cases_eq u w) [
    | inl same ↦ ne (sym (same_Some b a (sym (ap (λ t. (cond t counts (e.of_width u)).filled) (eq-eqb u w same)) ∙ is)))
    | inr apart ↦ never (sym (ap (λ t. (cond t counts (e.of_width u)).filled) (ne_eqb u w apart)) ∙ is)
  ]

  sealed-opened : (a : ℕ) → ((e.mark a).sealed ≡ true → IsSealed e a) → (with_mark e.mark b (opened_mark w) a).sealed ≡ true → IsSealed (opened_at e b w) a
  sealed-opened a was is = elim (cases_eq a b) [
    | inl same ↦ absurd (true≢false (sym is ∙ ap (λ (m : Mark). m.sealed) (mark-here e.mark b (opened_mark w) a same)))
    | inr ne ↦
        (let there : with_mark e.mark b (opened_mark w) a ≡ e.mark a = mark-other e.mark b (opened_mark w) a ne in
        let s : IsSealed e a = was (sym (ap (λ (m : Mark). m.sealed) there) ∙ is) in
        record {
          below = s.below;
          active = ap (λ (m : Mark). is_state_active m.state) there ∙ s.active;
          unfilled = λ f. filled-opened a (e.mark a).width ne s.unfilled (sym (ap (λ (m : Mark). (with_counts e.of_width w counts m.width).filled) there) ∙ f);
        })
  ]

  pub sound-opened : IsSound e → IsSound (opened_at e b w)
  sound-opened k = record {
    order = k.order;
    up_to = λ r s is. k.up_to r s is;
    marks = λ a. mark-opened a (k.marks a);
    sealed = λ a is. sealed-opened a (k.sealed a) is;
    finished = λ a is. (let sealed = k.finished a is in
        let apart : a ≢ b = λ same. true≢false (sym (k.sealed a sealed).active ∙ ap (λ n. is_state_active (e.mark n).state) same ∙ free-inactive (e.mark b).state free) in
        ap (λ (m : Mark). m.sealed) (mark-other e.mark b (opened_mark w) a apart) ∙ sealed);
    few_made = λ u. (let same = counts-keep (λ c. c.made) e.of_width w counts refl u in omega (arith, same, k.few_made u));
    whole = omega (arith, k.whole, free-less e.mark b (opened_mark w) free refl e.count below, buffers-more e.of_width w counts refl widths, once w valid);
  }

  pub list-opened : (bits : ℕ) (held : List HeldEntry) → IsHeldList bits e held → IsHeldList bits (opened_at e b w) held
  list-opened bits held k = record {
    each = All-weaker (λ h. is_in_list bits e h ≡ true) (λ h. is_in_list bits (opened_at e b w) h ≡ true) each held k.each;
    apart = k.apart;
    all = λ r after g is. k.all r after g is;
  }
    where
      each : (h : HeldEntry) → is_in_list bits e h ≡ true → is_in_list bits (opened_at e b w) h ≡ true
      each h is = elim (cases_eq (buffer_of bits h.entry) b) [
        | inl same ↦
            absurd (true≢false (sym is ∙ free-none e.last e.generation (e.mark (buffer_of bits h.entry)) h.tag (e.state h.entry) (ap (λ n. is_state_free (e.mark n).state) same ∙ free)))
        | inr ne ↦ ap (λ m. held_fits e.last e.generation m h.tag (e.state h.entry)) (mark-other e.mark b (opened_mark w) (buffer_of bits h.entry) ne) ∙ is
      ]
