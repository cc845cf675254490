-- Items in even groups: where groups begin and end, and how large they are.
use Rattle.std.proofs.Common.{◌≡◌, inl, inr, ℕ, suc, ◌+◌, ◌-◌, ◌*◌, ◌/◌, ◌%◌, ◌<◌, ◌≤◌, min, sym, ap, subst, ◌∙◌, arith, mod-lt, suc-mul}
use Rattle.std.proofs.Math.Nat.{div-add-mod, mul-le-mul_left, mul-le-mul_right}
use Rattle.std.proofs.lemmas.Bool.{cases_lt}
use Rattle.frozen_btree.specs.Builds.{groups, group_start}

-- q items in each of g groups, and one more in the first r
module _ (n g q r : ℕ) (all : g * q + r ≡ n) (left : r < g) where
  many : 8 * g ≤ n → 8 ≤ q
  many least = elim (cases_lt q 8) [
    | inl few ↦ (let small : g * q ≤ g * 7 = mul-le-mul_left g (omega arith) in absurd (omega arith))
    | inr some ↦ some
  ]

  few : n ≤ 16 * g → (q < 16) → (extra : ℕ) → extra ≤ 1 → q + extra ≤ 16
  few most below extra one = omega arith

  few_at : n ≤ 16 * g → (extra : ℕ) → extra ≤ 1 → (0 < extra → 0 < r) → q + extra ≤ 16
  few_at most extra one some = elim (cases_lt q 16) [
    | inl below ↦ omega arith
    | inr above ↦ elim (cases_lt 16 q) [
      | inl over ↦ (let large : g * 17 ≤ g * q = mul-le-mul_left g over in absurd (omega arith))
      | inr at ↦ elim (cases_lt 0 extra) [
        | inl there ↦ (let large : g * 16 ≤ g * q = mul-le-mul_left g above in let more = some there in absurd (omega arith))
        | inr none ↦ omega arith
      ]
    ]
  ]

pub starts-at-none : (n g : ℕ) → group_start n g 0 ≡ 0
starts-at-none n g = omega arith

module _ (n g : ℕ) (some : 0 < g) where
  whole : g * (n / g) + n % g ≡ n
  whole = div-add-mod n g

  below : n % g < g
  below = mod-lt n some

  pub starts-at-all : group_start n g g ≡ n
  starts-at-all = let all = whole in let left = below in omega arith

  next_times : (j : ℕ) → (j + 1) * (n / g) ≡ j * (n / g) + n / g
  next_times j = ap (λ k. k * (n / g)) (let e : j + 1 ≡ suc j = omega arith in e) ∙ suc-mul j (n / g)

  pub starts-within : (j : ℕ) → j ≤ g → group_start n g j ≤ n
  starts-within j low =
      let all = whole in
      let most : j * (n / g) ≤ g * (n / g) = mul-le-mul_right (n / g) low in
      omega arith

  pub starts-after : (j : ℕ) → group_start n g j ≤ group_start n g (j + 1)
  starts-after j = let next = next_times j in omega arith

  pub size-many : (j : ℕ) → 8 * g ≤ n → group_start n g j + 8 ≤ group_start n g (j + 1)
  size-many j least =
      let next = next_times j in
      let each = many n g (n / g) (n % g) whole below least in
      omega arith

  pub size-few : (j : ℕ) → n ≤ 16 * g → group_start n g (j + 1) ≤ group_start n g j + 16
  size-few j most =
      let next = next_times j in
      let extra = min (j + 1) (n % g) - min j (n % g) in
      let each : n / g + extra ≤ 16 = few_at n g (n / g) (n % g) whole below most extra (omega arith) (λ h. omega arith) in
      omega arith

-- so many groups of at most 16
pub groups-fit : (n : ℕ) → n ≤ 16 * groups n
groups-fit n = omega arith

pub groups-full : (n : ℕ) → 16 < n → 8 * groups n ≤ n
groups-full n many = omega arith

pub groups-some : (n : ℕ) → 0 < n → 0 < groups n
groups-some n some = omega arith

-- a group of n items, from one place to another
pub record IsGroup (n from to : ℕ) : Type 0 where
  pub up : from ≤ to
  pub within : to ≤ n
  pub many : from + 8 ≤ to
  pub few : to ≤ from + 16

pub group-is : (n g j from to : ℕ) → 16 < n → g ≡ groups n → j < g → from ≡ group_start n g j → to ≡ group_start n g (j + 1) → IsGroup n from to
group-is n g j from to large g_is low from_is to_is =
    let fit = groups-fit n in
    let full = groups-full n large in
    let least : 8 * g ≤ n = omega arith in
    let most : n ≤ 16 * g = omega arith in
    let some : 0 < g = omega arith in
    subst (λ k. IsGroup n from k) (sym to_is)
    (subst (λ k. IsGroup n k (group_start n g (j + 1))) (sym from_is)
    (record {
      up = starts-after n g some j;
      within = starts-within n g some (j + 1) (let next : j + 1 ≤ g = omega arith in next);
      many = size-many n g some j least;
      few = size-few n g some j most;
    }))
