-- Whether two lists of documents with weights are one, as their test says.
use Rattle.std.proofs.Common.{◌≡◌, ◌≢◌, ℕ, Bool, true, false, not, ◌&&◌, List, nat_eq, true≢false, refl, sym, ap, ◌∙◌, Decides}
use Rattle.std.specs.Prelude.{ℤ}
use Rattle.std.proofs.lemmas.Bool.Decides.{Decides-eqb, Decides-int_eq, Decides-and}
use Rattle.std.proofs.lemmas.Slice.Eq.{slice_eq-Decides}
use Rattle.std.specs.Cmp.Lexicographic.{pointwise}
use Rattle.std.specs.Ordering.{int_eq}

abbrev pub pair_eq : ℕ × ℤ → ℕ × ℤ → Bool
pair_eq a b = nat_eq a.0 b.0 && int_eq a.1 b.1

pair_same : (a b : ℕ × ℤ) → a.0 ≡ b.0 → a.1 ≡ b.1 → a ≡ b
pair_same a b first second =
    let make : ℕ → ℤ → ℕ × ℤ = λ n z. (n, z) in
    ap (λ n. make n a.1) first ∙ ap (make b.0) second

pub Decides-pair_eq : (a b : ℕ × ℤ) → Decides (pair_eq a b) (a ≡ b)
Decides-pair_eq a b =
    let parts = Decides-and (nat_eq a.0 b.0) (int_eq a.1 b.1) (Decides-eqb a.0 b.0) (Decides-int_eq a.1 b.1) in
    (λ is. pair_same a b (parts.0 is).0 (parts.0 is).1, λ same. parts.1 (ap (λ (e : ℕ × ℤ). e.0) same, ap (λ (e : ℕ × ℤ). e.1) same))

module _ (xs ys : List (ℕ × ℤ)) (answer : Bool) (told : answer ≡ not (pointwise pair_eq xs ys)) where
  pub same_pairs : answer ≡ false → xs ≡ ys
  same_pairs is = (slice_eq-Decides Decides-pair_eq xs ys (pointwise pair_eq xs ys) refl).0 (was_true (pointwise pair_eq xs ys) (sym told ∙ is))
    where
      was_true : (b : Bool) → not b ≡ false → b ≡ true
      was_true true e = refl
      was_true false e = absurd (true≢false e)

  pub other_pairs : answer ≡ true → xs ≢ ys
  other_pairs is same = true≢false (sym is ∙ told ∙ ap not ((slice_eq-Decides Decides-pair_eq xs ys (pointwise pair_eq xs ys) refl).1 same))
