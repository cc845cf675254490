-- What the answer of a test says, of one number and of each in a list, and a choice of three.
use Rattle.std.proofs.Common.{◌≡◌, ◌<◌, ℕ, zero, suc, Bool, true, false, cond, List, [], ◌∷◌, eqb, refl, sym, ap, ◌∙◌, ⊎_elim, arith, true≢false, ne_eqb, nat_le, leb-true}
use Rattle.std.proofs.lemmas.Bool.{or_cases, and_parts, eqb-true}
use Rattle.std.specs.Prelude.{◌==◌}
use Rattle.std.specs.List.{list_any, list_all}

pub zero_from_test : (n : ℕ) (answer : Bool) → answer ≡ (n == 0) → answer ≡ true → n ≡ 0
zero_from_test zero answer is holds = refl
zero_from_test (suc n) answer is holds = absurd (true≢false (sym holds ∙ is ∙ ne_eqb (suc n) 0 (λ e. omega arith)))

pub above_zero_from_test : (n : ℕ) (answer : Bool) → answer ≡ (n == 0) → answer ≡ false → 0 < n
above_zero_from_test zero answer is fails = absurd (true≢false (sym is ∙ fails))
above_zero_from_test (suc n) answer is fails = omega arith

-- what each number of a list is, one of them is
pub true_from_list_all : (test : ℕ → Bool) (n : ℕ) (xs : List ℕ) → list_any (eqb n) xs ≡ true → list_all test xs ≡ true → test n ≡ true
true_from_list_all test n [] is all = absurd (cc)
true_from_list_all test n (x ∷ xs) is all =
    ⊎_elim (λ (t : eqb n x ≡ true). ap test (eqb-true n x t) ∙ (and_parts _ _ all).0) (λ t. true_from_list_all test n xs t (and_parts _ _ all).1) (or_cases _ _ is)

-- what holds of each of three holds of the one that is chosen
pub cond-cond : {A : Type 0} (P : A → Type 0) (s t : Bool) (x y z : A) → P x → P y → P z → P (cond s x (cond t y z))
cond-cond P true t x y z a b c = a
cond-cond P false true x y z a b c = b
cond-cond P false false x y z a b c = c

-- a number above a bound is not at most it
pub too_many : (n most : ℕ) → most < n → nat_le n most ≡ false
too_many n most more = told (nat_le n most) refl
  where
    told : (b : Bool) → nat_le n most ≡ b → b ≡ false
    told true is = absurd (let few = leb-true n most is in omega arith)
    told false is = refl
