-- Pairs one after another, by their places in a list.
use Rattle.std.proofs.Common.{◌≡◌, ◌≢◌, ℕ, zero, suc, ◌<◌, ◌≤◌, List, [], ◌∷◌, length, take, drop, refl, ◌∙◌, arith}
use Rattle.std.specs.List.{AllByRecursion}
use Rattle.tree_read.specs.Trees.{last_key}
use Rattle.tree_read.specs.SearchPlaces.{first_key, first_value}
use Rattle.compaction_steps.specs.Sights.{IsRun}

pub drop_nil : (i : ℕ) → drop {A = ℕ × ℕ} i [] ≡ []
drop_nil zero = refl
drop_nil (suc i) = refl

all_taken : (P : ℕ × ℕ → Type 0) (i : ℕ) (ps : List (ℕ × ℕ)) → AllByRecursion P (take i ps) → drop i ps ≢ [] → P (first_key (drop i ps), first_value (drop i ps))
    → AllByRecursion P (take (suc i) ps)
all_taken P zero [] all some here = absurd (some refl)
all_taken P zero (p ∷ ps) all some here = (here, tt)
all_taken P (suc i) [] all some here = absurd (some refl)
all_taken P (suc i) (p ∷ ps) all some here = (all.0, all_taken P i ps all.1 some here)

pub last_taken : (i : ℕ) (ps : List (ℕ × ℕ)) → drop i ps ≢ [] → first_key (drop i ps) ≡ last_key (take (suc i) ps)
last_taken zero [] some = absurd (some refl)
last_taken zero (p ∷ ps) some = refl
last_taken (suc i) [] some = absurd (some refl)
last_taken (suc i) (p ∷ []) some = absurd (some (drop_nil i))
last_taken (suc i) (p ∷ q ∷ ps) some = last_taken i (q ∷ ps) some

few_taken : (i : ℕ) (ps : List (ℕ × ℕ)) → drop i ps ≢ [] → suc i ≤ length ps
few_taken zero [] some = absurd (some refl)
few_taken zero (p ∷ ps) some = omega arith
few_taken (suc i) [] some = absurd (some refl)
few_taken (suc i) (p ∷ ps) some = let few = few_taken i ps some in omega arith

-- one pair more
pub run_more : (P : ℕ × ℕ → Type 0) (ps : List (ℕ × ℕ)) (i last key : ℕ) → IsRun P ps i last → drop i ps ≢ [] → P (first_key (drop i ps), first_value (drop i ps))
    → key ≡ first_key (drop i ps) → IsRun P ps (suc i) key
run_more P ps i last key run some here is =
    record { few = few_taken i ps some; all = all_taken P i ps run.all some here; last_is = is ∙ last_taken i ps some }

pub rest_dropped : (i : ℕ) (ps : List (ℕ × ℕ)) → drop 1 (drop i ps) ≡ drop (suc i) ps
rest_dropped zero ps = refl
rest_dropped (suc i) [] = refl
rest_dropped (suc i) (p ∷ ps) = rest_dropped i ps

pub all_dropped : (P : ℕ × ℕ → Type 0) (i : ℕ) (ps : List (ℕ × ℕ)) → AllByRecursion P ps → AllByRecursion P (drop i ps)
all_dropped P zero ps all = all
all_dropped P (suc i) [] all = tt
all_dropped P (suc i) (p ∷ ps) all = all_dropped P i ps all.1

-- what holds of all keys holds of a run's last one
pub last_has : (P : ℕ → Type 0) (n : ℕ) (ps : List (ℕ × ℕ)) → AllByRecursion (λ p. P p.0) ps → 0 < n → n ≤ length ps → P (last_key (take n ps))
last_has P zero ps all some few = absurd (omega arith)
last_has P (suc n) [] all some few = absurd (omega arith)
last_has P (suc zero) (p ∷ ps) all some few = all.0
last_has P (suc (suc n)) (p ∷ []) all some few = absurd (omega arith)
last_has P (suc (suc n)) (p ∷ q ∷ ps) all some few = last_has P (suc n) (q ∷ ps) all.1 (omega arith) (omega arith)
