-- The counts of the widths, where one shelf is another.
use Rattle.std.proofs.Common.{◌≡◌, ◌≢◌, ℕ, ◌+◌, ◌<◌, Bool, true, false, not, ◌&&◌, cond, eqb, List, length, set, refl, sym, ap, ◌∙◌, arith}
use Rattle.std.specs.List.{sum_by, count_by}
use Rattle.std.proofs.lemmas.List.Sums.{sum_by-set}
use Rattle.std.proofs.lemmas.Bool.{eq-eqb, ne_eqb}
use Rattle.entry_ledger.specs.States.{ShelfView, empty_shelf, spare_of, is_made}
use Rattle.entry_ledger.specs.Shelves.{shelf_at, spare_in, spare_of_width}
use Rattle.entry_ledger.specs.Ledgers.{fresh_in}

abbrev pub fresh_of_width : List ShelfView → ℕ → ℕ
fresh_of_width shelves w = sum_by (fresh_in w) shelves

-- a number that a shelf has where it is of this width and not sealed
abbrev of_open : ℕ → ShelfView → ℕ → ℕ
of_open w s n = cond (eqb s.width w && not s.sealed) n 0

of_open-here : (w n : ℕ) (s : ShelfView) → s.width ≡ w → s.sealed ≡ false → of_open w s n ≡ n
of_open-here w n s wide unsealed = ap (λ t. cond (t && not s.sealed) n 0) (eq-eqb s.width w wide) ∙ ap (λ t. cond (true && not t) n 0) unsealed

of_open-other : (w n : ℕ) (s : ShelfView) → s.width ≢ w → of_open w s n ≡ 0
of_open-other w n s ne = ap (λ t. cond (t && not s.sealed) n 0) (ne_eqb s.width w ne)

of_open-sealed : (w n : ℕ) (s : ShelfView) → s.sealed ≡ true → of_open w s n ≡ 0
of_open-sealed w n s sealed = ap (λ t. cond (eqb s.width w && not t) n 0) sealed ∙ by_test (eqb s.width w)
  where
    by_test : (t : Bool) → cond (t && not true) n 0 ≡ 0
    by_test true = refl
    by_test false = refl

module _ (shelves : List ShelfView) (b : ℕ) (new : ShelfView) (h : b < length shelves) (wide : new.width ≡ (shelf_at shelves b).width) (seal : new.sealed ≡ (shelf_at shelves b).sealed) where
  -- of other widths nothing changes
  pub spare-other : (w : ℕ) → w ≢ (shelf_at shelves b).width → spare_of_width (set shelves b new) w ≡ spare_of_width shelves w
  spare-other w ne =
      let was = of_open-other w (spare_of (shelf_at shelves b)) (shelf_at shelves b) (λ e. ne (sym e)) in
      let now = of_open-other w (spare_of new) new (λ e. ne (sym e ∙ wide)) in
      omega (arith, sum_by-set (spare_in w) shelves b new empty_shelf h, was, now)

  pub fresh-other : (w : ℕ) → w ≢ (shelf_at shelves b).width → fresh_of_width (set shelves b new) w ≡ fresh_of_width shelves w
  fresh-other w ne =
      let was = of_open-other w (count_by is_made (shelf_at shelves b).states) (shelf_at shelves b) (λ e. ne (sym e)) in
      let now = of_open-other w (count_by is_made new.states) new (λ e. ne (sym e ∙ wide)) in
      omega (arith, sum_by-set (fresh_in w) shelves b new empty_shelf h, was, now)

  -- of its own width what the shelf has changes
  pub spare-here : (shelf_at shelves b).sealed ≡ false
      → spare_of_width (set shelves b new) (shelf_at shelves b).width + spare_of (shelf_at shelves b) ≡ spare_of_width shelves (shelf_at shelves b).width + spare_of new
  spare-here unsealed =
      let was = of_open-here (shelf_at shelves b).width (spare_of (shelf_at shelves b)) (shelf_at shelves b) refl unsealed in
      let now = of_open-here (shelf_at shelves b).width (spare_of new) new wide (seal ∙ unsealed) in
      omega (arith, sum_by-set (spare_in (shelf_at shelves b).width) shelves b new empty_shelf h, was, now)

  pub fresh-here : (shelf_at shelves b).sealed ≡ false
      → fresh_of_width (set shelves b new) (shelf_at shelves b).width + count_by is_made (shelf_at shelves b).states
      ≡ fresh_of_width shelves (shelf_at shelves b).width + count_by is_made new.states
  fresh-here unsealed =
      let was = of_open-here (shelf_at shelves b).width (count_by is_made (shelf_at shelves b).states) (shelf_at shelves b) refl unsealed in
      let now = of_open-here (shelf_at shelves b).width (count_by is_made new.states) new wide (seal ∙ unsealed) in
      omega (arith, sum_by-set (fresh_in (shelf_at shelves b).width) shelves b new empty_shelf h, was, now)

  -- of a sealed shelf nothing counts
  pub spare-sealed : (shelf_at shelves b).sealed ≡ true → (w : ℕ) → spare_of_width (set shelves b new) w ≡ spare_of_width shelves w
  spare-sealed sealed w =
      let was = of_open-sealed w (spare_of (shelf_at shelves b)) (shelf_at shelves b) sealed in
      let now = of_open-sealed w (spare_of new) new (seal ∙ sealed) in
      omega (arith, sum_by-set (spare_in w) shelves b new empty_shelf h, was, now)

  pub fresh-sealed : (shelf_at shelves b).sealed ≡ true → (w : ℕ) → fresh_of_width (set shelves b new) w ≡ fresh_of_width shelves w
  fresh-sealed sealed w =
      let was = of_open-sealed w (count_by is_made (shelf_at shelves b).states) (shelf_at shelves b) sealed in
      let now = of_open-sealed w (count_by is_made new.states) new (seal ∙ sealed) in
      omega (arith, sum_by-set (fresh_in w) shelves b new empty_shelf h, was, now)
