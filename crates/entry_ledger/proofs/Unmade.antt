-- The entries of a width that were not taken: no more than one buffer has room for, and one less with each that is taken.
use Rattle.std.proofs.Common.{◌≡◌, ◌≢◌, ℕ, zero, suc, ◌+◌, ◌-◌, ◌*◌, ◌/◌, ◌<◌, ◌≤◌, Bool, true, false, cond, eqb, List, [], ◌∷◌, ◌++◌, length, get_or, set, Option, None, Some, refl, sym, ap, ◌∙◌, arith, inl, inr}
use Rattle.std.specs.List.{sum_by, count_by}
use Rattle.std.proofs.Math.ListN.{length-set}
use Rattle.std.proofs.Math.Nat.{mul_comm, mul-suc, mul-le-mul_right, div-le_self}
use Rattle.std.proofs.lemmas.List.{length_push}
use Rattle.std.proofs.lemmas.List.Sums.{sum_by-cons, sum_by-set, count_by-le-length}
use Rattle.std.proofs.lemmas.Nat.{le-div}
use Rattle.std.proofs.lemmas.Bool.{cases_lt, cases_eq, eq-eqb, ne_eqb}
use Rattle.list_lemmas.proofs.Options.{same_Some}
use Rattle.store_api.specs.Ledgers.{capacity, one_more}
use Rattle.buffer_states.specs.declared.Buffer.{Buffer}
use Rattle.entry_ledger.specs.declared.state.State.{State}
use Rattle.entry_ledger.specs.declared.state.State.TheVariants.{Made}
use Rattle.entry_ledger.specs.States.{ShelfView, empty_shelf, IsOpen, with_made}
use Rattle.entry_ledger.specs.Shelves.{shelf_at}
use Rattle.entry_ledger.specs.ShelvesKept.{IsOfWidth}
use Rattle.entry_ledger.specs.Ledgers.{unmade_in, unmade_of_width, is_buffer_of}

pub no-places : {A : Type 0} (f : A → ℕ) (d : A) (xs : List A) → ((i : ℕ) → f (get_or xs i d) ≡ 0) → sum_by f xs ≡ 0
no-places f d [] none = refl
no-places f d (x ∷ xs) none =
    let here : f x ≡ 0 = none 0 in
    omega (arith, here, no-places f d xs (λ i. none (suc i)), sum_by-cons f x xs)

-- a number that one place of a list alone has
one-place : {A : Type 0} (f : A → ℕ) (d : A) (most : ℕ) (xs : List A) (b : ℕ) → ((i : ℕ) → f (get_or xs i d) ≤ most) → ((i : ℕ) → i ≢ b → f (get_or xs i d) ≡ 0)
    → sum_by f xs ≤ most
one-place f d most [] b low none = omega arith
one-place f d most (x ∷ xs) zero low none =
    let here : f x ≤ most = low 0 in
    omega (arith, here, no-places f d xs (λ i. none (suc i) (λ e. omega (arith, e))), sum_by-cons f x xs)
one-place f d most (x ∷ xs) (suc b) low none =
    let here : f x ≡ 0 = none 0 (λ e. omega (arith, e)) in
    omega (arith, here, one-place f d most xs b (λ i. low (suc i)) (λ i ne. none (suc i) (λ e. ne (omega (arith, e)))), sum_by-cons f x xs)

none_some : (a : ℕ) → None ≡ Some a → ⊥
none_some a e = absurd (cc)

-- where the filled shelf alone has some left
module _ (words : ℕ) (shelves : List ShelfView) (w : ℕ) (wide : 0 < w) (of : (b : ℕ) → IsOfWidth words (shelf_at shelves b)) (filled : Option ℕ)
    (alone : (b : ℕ) → (shelf_at shelves b).width ≡ w → length (shelf_at shelves b).states < (shelf_at shelves b).room → filled ≡ Some b) where
  low : (b : ℕ) → unmade_in w (shelf_at shelves b) ≤ capacity words w
  low b = elim (cases_eq (shelf_at shelves b).width w) [
    | inl e ↦
        (let is = ap (λ t. cond t ((shelf_at shelves b).room - length (shelf_at shelves b).states) 0) (eq-eqb (shelf_at shelves b).width w e) in
        let room : (shelf_at shelves b).room ≡ capacity words w =
        (of b).room ∙ ap (λ t. cond t 0 (capacity words (shelf_at shelves b).width)) (ne_eqb (shelf_at shelves b).width 0 (λ z. omega (arith, wide, e, z))) ∙ ap (capacity words) e in
        omega (arith, is, room))
    | inr ne ↦ (let is = ap (λ t. cond t ((shelf_at shelves b).room - length (shelf_at shelves b).states) 0) (ne_eqb (shelf_at shelves b).width w ne) in omega (arith, is))
  ]

  none-but : (b : ℕ) → (filled ≡ Some b → ⊥) → unmade_in w (shelf_at shelves b) ≡ 0
  none-but b never = elim (cases_eq (shelf_at shelves b).width w) [
    | inl e ↦ elim (cases_lt (length (shelf_at shelves b).states) (shelf_at shelves b).room) [
      | inl k ↦ absurd (never (alone b e k))
      | inr k ↦ ap (λ t. cond t ((shelf_at shelves b).room - length (shelf_at shelves b).states) 0) (eq-eqb (shelf_at shelves b).width w e) ∙ omega (arith, k)
    ]
    | inr ne ↦ ap (λ t. cond t ((shelf_at shelves b).room - length (shelf_at shelves b).states) 0) (ne_eqb (shelf_at shelves b).width w ne)
  ]

  pub few-unmade : unmade_of_width shelves w ≤ capacity words w
  few-unmade = by_filled filled refl
    where
      by_filled : (f : Option ℕ) → filled ≡ f → unmade_of_width shelves w ≤ capacity words w
      by_filled None is = one-place (unmade_in w) empty_shelf (capacity words w) shelves 0 low (λ i ne. none-but i (λ same. none_some i (sym is ∙ same)))
      by_filled (Some a) is = one-place (unmade_in w) empty_shelf (capacity words w) shelves a low (λ i ne. none-but i (λ same. ne (same_Some i a (sym same ∙ is))))

-- so the buffers are at most one more than what was made fills
pub few-buffers : (n c m u : ℕ) → 0 < c → n * c ≤ m + u → u ≤ c → n ≤ 1 + m / c
few-buffers zero c m u some enough few = omega arith
few-buffers (suc n) c m u some enough few =
    let all : suc n * c ≡ n * c + c = mul_comm (suc n) c ∙ mul-suc c n ∙ ap (λ k. k + c) (mul_comm c n) in
    let rest : n * c ≤ m = omega (arith, all, enough, few) in
    omega (arith, le-div n m c some rest)

-- the entries for which the buffers of a width have room are few
pub few-entries : (buffers : List Buffer) (words w : ℕ) → length buffers * words ≤ 67108864 → count_by (is_buffer_of w) buffers * capacity words w ≤ 67108864
few-entries buffers words w product =
    let most : count_by (is_buffer_of w) buffers * capacity words w ≤ length buffers * capacity words w = mul-le-mul_right (capacity words w) (count_by-le-length (is_buffer_of w) buffers) in
    let fewer : capacity words w ≤ words = omega (arith, div-le_self words w) in
    let turned : capacity words w * length buffers ≤ words * length buffers = mul-le-mul_right (length buffers) fewer in
    omega (arith, product, most, turned, mul_comm (capacity words w) (length buffers), mul_comm words (length buffers))

-- one shelf is another of its width and room, with as many states
pub unmade-same : (shelves : List ShelfView) (b : ℕ) (new : ShelfView) → b < length shelves → new.width ≡ (shelf_at shelves b).width → new.room ≡ (shelf_at shelves b).room
    → length new.states ≡ length (shelf_at shelves b).states → (w : ℕ) → unmade_of_width (set shelves b new) w ≡ unmade_of_width shelves w
unmade-same shelves b new h width room states w =
    let same : unmade_in w new ≡ unmade_in w (shelf_at shelves b) =
    ap (λ n. cond (eqb n w) (new.room - length new.states) 0) width ∙ ap (λ n. cond (eqb (shelf_at shelves b).width w) (n - length new.states) 0) room
    ∙ ap (λ n. cond (eqb (shelf_at shelves b).width w) ((shelf_at shelves b).room - n) 0) states in
    omega (arith, sum_by-set (unmade_in w) shelves b new empty_shelf h, same)

-- a place that is taken
made-longer : (s : ShelfView) (x : ℕ) → x ≤ length s.states → length (with_made s x).states ≤ length s.states + 1
made-longer s x within = elim (cases_eq x (length s.states)) [
  | inl e ↦
      (let is : length (with_made s x).states ≡ length (s.states ++ Made ∷ []) = ap (λ t. length (cond t (s.states ++ Made ∷ []) (set s.states x Made))) (eq-eqb x (length s.states) e) in
      omega (arith, is, length_push s.states Made))
  | inr ne ↦
      (let is : length (with_made s x).states ≡ length (set s.states x Made) = ap (λ t. length (cond t (s.states ++ Made ∷ []) (set s.states x Made))) (ne_eqb x (length s.states) ne) in
      omega (arith, is, length-set {A = State} s.states x Made))
]

module _ (shelves : List ShelfView) (b x : ℕ) (h : b < length shelves) (can : IsOpen (shelf_at shelves b) x) where
  pub unmade-take : (w : ℕ) → unmade_of_width shelves w ≤ unmade_of_width (set shelves b (with_made (shelf_at shelves b) x)) w + 1
  unmade-take w =
      let less : unmade_in w (shelf_at shelves b) ≤ unmade_in w (with_made (shelf_at shelves b) x) + 1 = by_test (eqb (shelf_at shelves b).width w) in
      omega (arith, sum_by-set (unmade_in w) shelves b (with_made (shelf_at shelves b) x) empty_shelf h, less)
    where
      by_test : (t : Bool) → cond t ((shelf_at shelves b).room - length (shelf_at shelves b).states) 0
          ≤ cond t ((shelf_at shelves b).room - length (with_made (shelf_at shelves b) x).states) 0 + 1
      by_test true = omega (arith, made-longer (shelf_at shelves b) x can.within)
      by_test false = omega arith

  pub unmade-apart : (w : ℕ) → w ≢ (shelf_at shelves b).width → unmade_of_width (set shelves b (with_made (shelf_at shelves b) x)) w ≡ unmade_of_width shelves w
  unmade-apart w ne =
      let was : unmade_in w (shelf_at shelves b) ≡ 0 =
      ap (λ t. cond t ((shelf_at shelves b).room - length (shelf_at shelves b).states) 0) (ne_eqb (shelf_at shelves b).width w (λ e. ne (sym e))) in
      let now : unmade_in w (with_made (shelf_at shelves b) x) ≡ 0 =
      ap (λ t. cond t ((shelf_at shelves b).room - length (with_made (shelf_at shelves b) x).states) 0) (ne_eqb (shelf_at shelves b).width w (λ e. ne (sym e))) in
      omega (arith, sum_by-set (unmade_in w) shelves b (with_made (shelf_at shelves b) x) empty_shelf h, was, now)

-- one entry of a width is made: its number rises, or is as high as it gets
pub enough-made : (p m n u v : ℕ) → p ≤ 67108864 → m ≤ 18446744073709551615 → p ≤ m + u → u ≤ v + 1 → n ≡ one_more m → p ≤ n + v
enough-made p m n u v few low enough left is = omega (arith, few, low, enough, left, is)
