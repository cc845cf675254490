-- Distinct entries of one width are no more than its offsets in all buffers.
use Rattle.std.proofs.Common.{◌≡◌, ℕ, suc, ◌+◌, ◌-◌, ◌*◌, ◌/◌, ◌%◌, ◌<◌, ◌≤◌, true, false, eqb, List, [], ◌∷◌, map, length, sym, ap, subst, ◌∙◌, arith, inl, inr, ⊎_elim, suc-mul}
use Rattle.std.specs.List.{IsDistinct, AllByRecursion, list_any}
use Rattle.std.proofs.Math.Nat.{mul-le-mul_right, mul-le-mul_left, mul_comm, mul_assoc}
use Rattle.std.proofs.lemmas.List.{length-map}
use Rattle.std.proofs.lemmas.Nat.{div-add-mod', same_from_place}
use Rattle.std.proofs.lemmas.Bool.{cases_lt, or_cases, eqb-true, eqb-false, ne_eqb}
use Rattle.std.proofs.lemmas.Map.Steps.{length-le_from_distinct_below}
use Rattle.entry_ref.specs.References.{buffer_of, offset_of}
use Rattle.entry_ref.proofs.Bits.{same-ref}
use Rattle.entry_ref.specs.Places.{IsEntry}
use Rattle.store_api.specs.Ledgers.{capacity}

-- the number of an entry among those of its width in all buffers
abbrev number_of : ℕ → ℕ → ℕ → ℕ → ℕ
number_of bits words width r = buffer_of bits r * capacity words width + (offset_of bits r - 1)

module _ (bits buffers words width : ℕ) where
  -- an offset is one of the buffer's
  offset-below : (r : ℕ) → IsEntry bits buffers words width r → offset_of bits r - 1 < capacity words width
  offset-below r e = elim (cases_lt (offset_of bits r) (words / width)) [
    | inl h ↦ (let first = e.first in omega arith)
    | inr h ↦ (let wide : (words / width) * width ≤ offset_of bits r * width = mul-le-mul_right width h in
        let last = e.last in
        let some = e.wide in
        let is : words / width * width + words % width ≡ words = div-add-mod' words width in
        let rest : words % width < width = omega arith in
        absurd (omega arith))
  ]

  number-below : (r : ℕ) → IsEntry bits buffers words width r → number_of bits words width r < buffers * capacity words width
  number-below r e =
      let low = offset-below r e in
      let more : suc (buffer_of bits r) * capacity words width ≤ buffers * capacity words width = mul-le-mul_right (capacity words width) e.inside in
      omega (arith, suc-mul (buffer_of bits r) (capacity words width), low)

  number-apart : (r q : ℕ) → IsEntry bits buffers words width r → IsEntry bits buffers words width q → number_of bits words width r ≡ number_of bits words width q → r ≡ q
  number-apart r q e f same =
      let both = same_from_place (buffer_of bits r) (offset_of bits r - 1) (buffer_of bits q) (offset_of bits q - 1) (capacity words width) (offset-below r e) (offset-below q f) same in
      let offsets : offset_of bits r ≡ offset_of bits q = (let a = e.first in let b = f.first in omega (arith, both.1)) in
      same-ref bits r q offsets both.0

  apart-map : (r : ℕ) (refs : List ℕ) → IsEntry bits buffers words width r → AllByRecursion (IsEntry bits buffers words width) refs → AllByRecursion (λ q. eqb r q ≡ false) refs
      → AllByRecursion (λ n. eqb (number_of bits words width r) n ≡ false) (map (number_of bits words width) refs)
  apart-map r [] e all ne = tt
  apart-map r (q ∷ refs) e all ne =
      (ne_eqb (number_of bits words width r) (number_of bits words width q) (λ same. eqb-false r q ne.0 (number-apart r q e all.0 same)), apart-map r refs e all.1 ne.1)

  distinct-map : (refs : List ℕ) → AllByRecursion (IsEntry bits buffers words width) refs → IsDistinct eqb refs → IsDistinct eqb (map (number_of bits words width) refs)
  unfolding IsDistinct
  distinct-map [] all distinct = tt
  distinct-map (r ∷ refs) all distinct = (apart-map r refs all.0 all.1 distinct.0, distinct-map refs all.1 distinct.1)

  below-map : (refs : List ℕ) → AllByRecursion (IsEntry bits buffers words width) refs → (n : ℕ) → list_any (eqb n) (map (number_of bits words width) refs) ≡ true → n < buffers * capacity words width
  below-map [] all n among = absurd (cc)
  below-map (r ∷ refs) all n among =
      ⊎_elim (λ (e : eqb n (number_of bits words width r) ≡ true). subst (λ m. m < buffers * capacity words width) (sym (eqb-true n (number_of bits words width r) e)) (number-below r all.0))
      (below-map refs all.1 n) (or_cases _ _ among)

  pub few_entries : (refs : List ℕ) → IsDistinct eqb refs → AllByRecursion (IsEntry bits buffers words width) refs → length refs ≤ buffers * capacity words width
  few_entries refs distinct all =
      subst (λ n. n ≤ buffers * capacity words width) (length-map refs (number_of bits words width))
      (length-le_from_distinct_below (map (number_of bits words width) refs) (buffers * capacity words width) (distinct-map refs all distinct) (below-map refs all))

-- nodes of 34 words
pub few_nodes : (buffers words : ℕ) → buffers * words ≤ 67108864 → buffers * capacity words 34 ≤ 1973790
few_nodes buffers words total =
    let one : 34 * capacity words 34 ≤ words = omega arith in
    let all : buffers * (34 * capacity words 34) ≤ buffers * words = mul-le-mul_left buffers one in
    let moved : buffers * (34 * capacity words 34) ≡ 34 * (buffers * capacity words 34) =
    sym (mul_assoc buffers 34 (capacity words 34)) ∙ ap (λ n. n * capacity words 34) (mul_comm buffers 34) ∙ mul_assoc 34 buffers (capacity words 34) in
    omega arith
