-- The least width that holds a number of words.
use Rattle.std.proofs.Common.{◌≡◌, ◌≢◌, ℕ, ◌<◌, ◌≤◌, Bool, true, false, cond, nat_le, leb-true, List, [], ◌∷◌, refl, ap, Some, inl, inr, arith}
use Rattle.std.proofs.lemmas.Bool.{le-leb}
use Rattle.std.specs.List.{find, AllByRecursion}
use Rattle.std.specs.Option.{unwrap_or}
use Rattle.entry_ref.specs.Records.{Among}
use Rattle.image_format.specs.Words.{classes, class_of}
use Rattle.store_api.specs.Ledgers.{is_width}

abbrev found : ℕ → List ℕ → ℕ
found n ws = unwrap_or (find (nat_le n) ws) 1024

-- what holds of each width holds of the one that is found
found_is : (P : ℕ → Type 0) (n : ℕ) (ws : List ℕ) → P 1024 → AllByRecursion P ws → P (found n ws)
found_is P n [] last all = last
found_is P n (w ∷ ws) last all =
    elim (nat_le n w) as (λ b. P (unwrap_or (cond b (Some w) (find (nat_le n) ws)) 1024)) [
      | true ↦ all.0
      | false ↦ found_is P n ws last all.1
    ]

found_holds : (n : ℕ) (ws : List ℕ) → n ≤ 1024 → n ≤ found n ws
found_holds n [] few = few
found_holds n (w ∷ ws) few =
    (elim (nat_le n w) as (λ b. nat_le n w ≡ b → n ≤ unwrap_or (cond b (Some w) (find (nat_le n) ws)) 1024) [
      | true ↦ λ e. leb-true n w e
      | false ↦ λ e. found_holds n ws few
    ]) refl

-- each width is at most the next
Rises : ℕ → List ℕ → Type 0
Rises w [] = Unit {0}
Rises w (v ∷ vs) = (w ≤ v) × Rises v vs

above : (w v : ℕ) (vs : List ℕ) → Rises w vs → Among v vs → w ≤ v
unfolding Rises
above w v [] rises among = absurd among
above w v (u ∷ vs) rises (inl e) = let up = rises.0 in omega arith
above w v (u ∷ vs) rises (inr later) = let up = rises.0 in let more = above u v vs rises.1 later in omega arith

found_least : (n w v : ℕ) (ws : List ℕ) → Rises w ws → Among v ws → n ≤ v → found n ws ≤ v
unfolding Rises
found_least n w v [] rises among holds = absurd among
found_least n w v (u ∷ ws) rises (inl e) holds =
    let test : nat_le n u ≡ true = le-leb n u (omega arith) in
    let is : found n (u ∷ ws) ≡ u = ap (λ b. unwrap_or (cond b (Some u) (find (nat_le n) ws)) 1024) test in
    omega arith
found_least n w v (u ∷ ws) rises (inr later) holds =
    elim (nat_le n u) as (λ b. unwrap_or (cond b (Some u) (find (nat_le n) ws)) 1024 ≤ v) [
      | true ↦ above u v ws rises.1 later
      | false ↦ found_least n u v ws rises.1 later holds
    ]

up : Rises 0 classes
unfolding Rises
up = (omega arith, (omega arith, (omega arith, (omega arith, (omega arith, (omega arith, (omega arith, (omega arith, (omega arith, (omega arith, tt))))))))))

pub class_holds : (n : ℕ) → n ≤ 1024 → n ≤ class_of n
class_holds n few = found_holds n classes few

pub class_least : (n width : ℕ) → Among width classes → n ≤ width → class_of n ≤ width
class_least n width among holds = found_least n 0 width classes up among holds

pub class_width : (n : ℕ) → is_width (class_of n) ≡ true
class_width n =
    found_is (λ w. is_width w ≡ true) n classes refl (refl, (refl, (refl, (refl, (refl, (refl, (refl, (refl, (refl, (refl, tt))))))))))

pub class_no_node : (n : ℕ) → class_of n ≢ 34
class_no_node n =
    found_is (λ w. w ≢ 34) n classes (λ e. omega arith) (
      (λ e. omega arith),
      (
        (λ e. omega arith),
        (
          (λ e. omega arith),
          (
            (λ e. omega arith),
            (
              (λ e. omega arith),
              (
                (λ e. omega arith),
                (
                  (λ e. omega arith),
                  ((λ e. omega arith), ((λ e. omega arith), ((λ e. omega arith), tt))),
                ),
              ),
            ),
          ),
        ),
      ),
    )

pub class_two : (n : ℕ) → 2 ≤ class_of n
class_two n =
    found_is (λ w. 2 ≤ w) n classes (omega arith)
    (omega arith, (omega arith, (omega arith, (omega arith, (omega arith, (omega arith, (omega arith, (omega arith, (omega arith, (omega arith, tt))))))))))
