-- The row of a width.
use Rattle.std.proofs.Common.{◌≡◌, ◌≢◌, ℕ, suc, ◌<◌, ◌≤◌, Bool, true, false, ◌&&◌, leb, cond, eqb, List, [], ◌∷◌, length, get_or, set, refl, sym, ap, ◌∙◌, arith, inl, inr, ⊎_elim, get_or-set_other, get_or-set_same}
use Rattle.std.specs.List.{list_any}
use Rattle.std.proofs.lemmas.Bool.{cases_eq, or_cases, and_parts, eqb-true, eq-eqb, ne_eqb, leb-true, true≢false}
use Rattle.list_lemmas.proofs.Tests.{true_from_list_all}
use Rattle.store_api.specs.Ledgers.{widths, is_width}
use Rattle.entry_ledger.specs.Shelves.{place_among, row_of}

-- a number that is in the list stands at its place
place_in-is : (w : ℕ) (vs : List ℕ) → list_any (eqb w) vs ≡ true → (place_among w vs < length vs) × (get_or vs (place_among w vs) 0 ≡ w)
place_in-is w [] is = absurd (cc)
place_in-is w (v ∷ vs) is = by_test (eqb w v) refl (place_in-is w vs)
  where
    by_test : (t : Bool) → eqb w v ≡ t → (list_any (eqb w) vs ≡ true → (place_among w vs < length vs) × (get_or vs (place_among w vs) 0 ≡ w))
        → (cond t 0 (suc (place_among w vs)) < suc (length vs)) × (get_or (v ∷ vs) (cond t 0 (suc (place_among w vs))) 0 ≡ w)
    by_test true e later = (omega arith, sym (eqb-true w v e))
    by_test false e later =
        let rest : list_any (eqb w) vs ≡ true = ⊎_elim (λ (t : eqb w v ≡ true). absurd (true≢false (sym t ∙ e))) (λ t. t) (or_cases _ _ is) in
        (omega (arith, (later rest).0), (later rest).1)

place_in-out : (w : ℕ) (vs : List ℕ) → list_any (eqb w) vs ≡ false → place_among w vs ≡ length vs
place_in-out w [] out = refl
place_in-out w (v ∷ vs) out = by_test (eqb w v) refl out (place_in-out w vs)
  where
    by_test : (t : Bool) → eqb w v ≡ t → list_any (eqb w) (v ∷ vs) ≡ false → (list_any (eqb w) vs ≡ false → place_among w vs ≡ length vs)
        → cond t 0 (suc (place_among w vs)) ≡ suc (length vs)
    by_test true e out later = absurd (cc)
    by_test false e out later = ap suc (later (cc))

pub width-bounds : (w : ℕ) → is_width w ≡ true → (2 ≤ w) × (w ≤ 1024)
width-bounds w is =
    let both = and_parts _ _ (true_from_list_all (λ v. leb 2 v && leb v 1024) w widths is refl) in
    (leb-true _ _ both.0, leb-true _ _ both.1)

pub row_of-below : (w : ℕ) → is_width w ≡ true → row_of w < 11
unfolding row_of
row_of-below w is = (place_in-is w widths is).0

row_of-is : (w : ℕ) → is_width w ≡ true → get_or widths (row_of w) 0 ≡ w
unfolding row_of
row_of-is w is = (place_in-is w widths is).1

row_of-out : (w : ℕ) → is_width w ≡ false → row_of w ≡ 11
unfolding row_of
row_of-out w out = place_in-out w widths out

-- other widths have other rows
pub row_of-apart : (v w : ℕ) → is_width w ≡ true → v ≢ w → row_of v ≢ row_of w
row_of-apart v w is ne same = by_test (is_width v) refl
  where
    by_test : (t : Bool) → is_width v ≡ t → ⊥
    by_test true e = ne (sym (row_of-is v e) ∙ ap (λ i. get_or widths i 0) same ∙ row_of-is w is)
    by_test false e = (let low = row_of-below w is in let out = row_of-out v e in absurd (omega (arith, low, out, same)))

-- a list by rows where one element is another
pub row-set : {A : Type 0} (rows : List A) (new d : A) (w v : ℕ) → length rows ≡ 11 → is_width w ≡ true
    → get_or (set rows (row_of w) new) (row_of v) d ≡ cond (eqb v w) new (get_or rows (row_of v) d)
row-set rows new d w v eleven is = elim (cases_eq v w) [
  | inl e ↦ (let there : row_of w < length rows = (let low = row_of-below w is in omega (arith, low, eleven)) in
      ap (λ u. get_or (set rows (row_of w) new) (row_of u) d) e ∙ get_or-set_same rows (row_of w) new d there ∙ sym (ap (λ t. cond t new (get_or rows (row_of v) d)) (eq-eqb v w e)))
  | inr ne ↦ get_or-set_other rows (row_of w) (row_of v) new d (row_of-apart v w is ne) ∙ sym (ap (λ t. cond t new (get_or rows (row_of v) d)) (ne_eqb v w ne))
]
