-- Sums of products of weights stay far below 128 bits, and scores ascend by document.
use Rattle.std.proofs.Common.{◌≡◌, sym, ap, refl, subst, ℕ, ◌+◌, ◌*◌, ◌^◌, ◌≤◌, ◌<◌, ℤ, pos, ◌+ℤ◌}
use Rattle.std.proofs.Common.{◌*ℤ◌, ◌≤ℤ◌, Bool, true, false, if◌then◌else◌, List, [], ◌∷◌, map, length}
use Rattle.std.proofs.Common.{arith, negsuc, neg_ℤ, to_z, of_z}
use Rattle.std.proofs.lemmas.Int.{ints, to_z-of_z, unsigned_abs-mul, fits_signed_from_abs}
use Rattle.std.proofs.lemmas.Nat.{mul-le}
use Rattle.std.proofs.lemmas.Map.Keys.{IsStrictlyIncreasing-from_sorted}
use Rattle.std.specs.Int.{w32, w128}
use Rattle.std.specs.Int.RustNames.{FitsSigned, unsigned_abs}
use Rattle.std.specs.List.{AllByRecursion}
use Rattle.std.specs.List.Sorted.{IsStrictlySortedBy}
use Rattle.std.specs.Ordering.{nat_cmp}
use Rattle.attr_types.proofs.EntryLemmas.{sorted_map-filter}
use Rattle.attr_types.specs.Query.{items_in}
use Rattle.attr_types.specs.Table.{Table}
use Rattle.attr_types.specs.declared.items.Item.{Item}
use Rattle.attr_types.specs.declared.value.Value.{Value}
use Rattle.attr_types.specs.ScoresLaws.{ScoresFit, ScoresAscend}
use Rattle.attr_types.specs.Scores.{has_value, weight_of, is_scored, score_of, scores}
use Rattle.attr_types.specs.declared.part.Part.{Part}
use Rattle.attr_types.specs.declared.score.Score.{Score}

not_below : (n : ℕ) (z : ℤ) → unsigned_abs z ≤ n → neg_ℤ (pos n) ≤ℤ z
not_below n (pos a) within = omega (arith, ints)
not_below n (negsuc a) within = omega (arith, ints)

not_above : (n : ℕ) (z : ℤ) → unsigned_abs z ≤ n → z ≤ℤ pos n
not_above n (pos a) within = omega (arith, ints)
not_above n (negsuc a) within = omega (arith, ints)

within : (n : ℕ) (z : ℤ) → neg_ℤ (pos n) ≤ℤ z → z ≤ℤ pos n → unsigned_abs z ≤ n
within n (pos a) low high = omega (arith, ints)
within n (negsuc a) low high = omega (arith, ints)

pub abs_add : (a b : ℤ) (m n : ℕ) → unsigned_abs a ≤ m → unsigned_abs b ≤ n → unsigned_abs (a +ℤ b) ≤ m + n
abs_add a b m n first second =
    let la = not_below m a first in
    let ha = not_above m a first in
    let lb = not_below n b second in
    let hb = not_above n b second in
    within (m + n) (a +ℤ b) (omega (arith, ints, la, lb)) (omega (arith, ints, ha, hb))

abs_weight : (z : ℤ) → FitsSigned w32 z → unsigned_abs z ≤ 2 ^ 31
abs_weight (pos a) fits = omega (arith, fits.sfits)
abs_weight (negsuc a) fits = omega (arith, fits.sfits)

times : (a b : ℕ) → a ≤ 2 ^ 31 → b ≤ 2 ^ 31 → a * b ≤ 2 ^ 62
times a b first second = mul-le a b (2 ^ 31) (2 ^ 31) first second

pub product_bound : (a b : ℤ) → unsigned_abs a ≤ 2 ^ 31 → unsigned_abs b ≤ 2 ^ 31 → unsigned_abs (a *ℤ b) ≤ 2 ^ 62
product_bound a b first second =
    subst (λ n. n ≤ 2 ^ 62) (sym (unsigned_abs-mul a b)) (times (unsigned_abs a) (unsigned_abs b) first second)

pub weights_bound : (a b : ℤ) → FitsSigned w32 a → FitsSigned w32 b → unsigned_abs (a *ℤ b) ≤ 2 ^ 62
weights_bound a b first second = product_bound a b (abs_weight a first) (abs_weight b second)

-- a product as the code holds it is the product
pub product_shown : (p : ℤ) → unsigned_abs p ≤ 2 ^ 62 → to_z w128 (of_z w128 p) ≡ p
product_shown p bound = to_z-of_z w128 p (fits_signed_from_abs w128 p (omega (arith, bound)))

pub product_shown-bound : (p : ℤ) → unsigned_abs p ≤ 2 ^ 62 → unsigned_abs (to_z w128 (of_z w128 p)) ≤ 2 ^ 62
product_shown-bound p bound = subst (λ (z : ℤ). unsigned_abs z ≤ 2 ^ 62) (sym (product_shown p bound)) bound

-- a sum after some of the parts, with one product more
pub sum_fits : (s p : ℤ) (done all : ℕ) → unsigned_abs s ≤ done * 2 ^ 62 → unsigned_abs p ≤ 2 ^ 62 → done < all → all < 2 ^ 64
    → FitsSigned w128 (s +ℤ p)
sum_fits s p done all so_far next below few =
    let sum = abs_add s p (done * 2 ^ 62) (2 ^ 62) so_far next in fits_signed_from_abs w128 (s +ℤ p) (omega (arith, sum))

pub sum_bound : (s p : ℤ) (done : ℕ) → unsigned_abs s ≤ done * 2 ^ 62 → unsigned_abs p ≤ 2 ^ 62
    → unsigned_abs (s +ℤ p) ≤ (done + 1) * 2 ^ 62
sum_bound s p done so_far next =
    let sum = abs_add s p (done * 2 ^ 62) (2 ^ 62) so_far next in omega (arith, sum)

pub sum_step : (s p rest left all product : ℤ) → s +ℤ left ≡ all → left ≡ product +ℤ rest → p ≡ product
    → (s +ℤ p) +ℤ rest ≡ all
sum_step s p rest left all product whole first is = omega (arith, ints)

-- ---- the laws

one_of : (n : ℕ) (b : Bool) (x y : ℤ) → unsigned_abs x ≤ n → unsigned_abs y ≤ n → unsigned_abs (if b then x else y) ≤ n
one_of n true x y first second = first
one_of n false x y first second = second

weight_bound : (value : Value) (items : List Item) → AllByRecursion (λ item. FitsSigned w32 item.weight) items
    → unsigned_abs (weight_of value items) ≤ 2 ^ 31
weight_bound value [] fit = omega arith
weight_bound value (item ∷ items) fit = one_of (2 ^ 31) (has_value value item) item.weight (weight_of value items)
    (abs_weight item.weight fit.0) (weight_bound value items fit.1)

score_bound : (parts : List Part) (items : List Item) → AllByRecursion (λ part. FitsSigned w32 part.weight) parts
    → AllByRecursion (λ item. FitsSigned w32 item.weight) items → unsigned_abs (score_of parts items) ≤ length parts * 2 ^ 62
score_bound [] items weights fit = omega arith
score_bound (part ∷ parts) items weights fit =
    let here = product_bound part.weight (weight_of part.value items) (abs_weight part.weight weights.0)
    (weight_bound part.value items fit) in
    let rest = score_bound parts items weights.1 fit in
    let sum = abs_add (part.weight *ℤ weight_of part.value items) (score_of parts items) (2 ^ 62) (length parts * 2 ^ 62) here rest in
    omega (arith, sum)

pub scores_fit : ScoresFit
scores_fit parts items few weights fit =
    let bound = score_bound parts items weights fit in fits_signed_from_abs w128 (score_of parts items) (omega (arith, bound))

docs_are : (field : ℕ) (parts : List Part) (entries : Table)
    → map (λ (score : Score). score.doc) (map (λ e. record { doc = e.0; score = score_of parts (items_in e.1 field) }) entries)
    ≡ map (λ e. e.0) entries
docs_are field parts [] = refl
docs_are field parts (entry ∷ entries) = ap (λ docs. entry.0 ∷ docs) (docs_are field parts entries)

pub scores_ascend : ScoresAscend
scores_ascend field parts table up =
    let kept = sorted_map-filter nat_cmp (λ e. e.0) (λ e. is_scored parts (items_in e.1 field)) table up in
    IsStrictlyIncreasing-from_sorted (map (λ (score : Score). score.doc) (scores field parts table))
    (subst (λ (docs : List ℕ). IsStrictlySortedBy nat_cmp docs) (sym (docs_are field parts _)) kept)
