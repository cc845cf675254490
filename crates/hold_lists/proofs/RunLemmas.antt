-- Runs: their order and their counts, and what they are with one entry less or with one run more.
use Rattle.std.proofs.Common.{◌≡◌, ◌≢◌, ◌⊎◌, ℕ, zero, suc, ◌+◌, ◌-◌, ◌<◌, ◌≤◌, List, [], ◌∷◌, ◌++◌, length, get_or, set, take, drop, cond, Bool, true, false, nat_eq, refl, sym, ap, subst, ◌∙◌, inl, inr, arith}
use Rattle.std.proofs.Common.{length-set, get_or-set_same, get_or-set_other}
use Rattle.std.specs.Prelude.{All, remove}
use Rattle.std.proofs.lemmas.List.{get_or_default}
use Rattle.std.proofs.lemmas.List.Elements.{All-head, All-tail, All-take, All-drop, All-append, All-set}
use Rattle.std.proofs.lemmas.List.Quantifiers.{all_pairs_push, all_pairs_remove}
use Rattle.std.proofs.lemmas.List.Sums.{sum_by-cons, sum_by-remove, sum_by-set}
use Rattle.std.proofs.lemmas.Bool.{cases_eq, eqb-true, eqb-false}
use Rattle.hold_lists.specs.Runs.{nth_run, tagged_count, IsRising, shortened}
use Rattle.hold_lists.specs.declared.Run.{Run}

abbrev no_run : Run
no_run = record { generation = 0; commit = 0; count = 0 }

abbrev IsFilled : Run → Type 0
IsFilled run = 0 < run.count

-- where the first of rising runs is not below a generation, none is
pub rising-all : (runs : List Run) (oldest : ℕ) → IsRising runs → oldest ≤ (nth_run runs 0).generation → All (λ run. oldest ≤ run.generation) runs
rising-all runs oldest rising first zero d below = subst (λ (run : Run). oldest ≤ run.generation) (get_or_default runs 0 no_run d below) first
rising-all runs oldest rising first (suc k) d below =
    let up = rising.rises 0 (suc k) no_run (omega arith) below in
    let at : oldest ≤ (get_or runs (suc k) no_run).generation = omega arith in
    subst (λ (run : Run). oldest ≤ run.generation) (get_or_default runs (suc k) no_run d below) at

-- a run is not below where none is
pub at-all : (runs : List Run) (P : Run → Type 0) (i : ℕ) → i < length runs → All P runs → P (nth_run runs i)
at-all runs P i below all = all i no_run below

-- there are no more runs than tagged entries
pub runs-few : (runs : List Run) → All IsFilled runs → length runs ≤ tagged_count runs
runs-few [] filled = omega arith
runs-few (run ∷ runs) filled =
    let here = All-head IsFilled run runs filled in
    let rest = runs-few runs (All-tail IsFilled run runs filled) in
    let sum = sum_by-cons (λ (r : Run). r.count) run runs in
    omega arith

-- a run at the end of rising runs
pub rising-push : (runs : List Run) (run : Run) → IsRising runs → (0 < length runs → (nth_run runs (length runs - 1)).generation ≤ run.generation)
    → IsRising (runs ++ run ∷ [])
rising-push runs run rising last = record {
  rises = all_pairs_push (λ (older : Run) (newer : Run). older.generation ≤ newer.generation) runs run rising.rises (λ k d below.
      let top = last (omega arith) in
      let at : (get_or runs k d).generation ≡ (get_or runs k no_run).generation = ap (λ (r : Run). r.generation) (get_or_default runs k d no_run below) in
      up k d below top at (cases_eq k (length runs - 1)));
}
  where
    up : (k : ℕ) (d : Run) → k < length runs → (nth_run runs (length runs - 1)).generation ≤ run.generation
        → (get_or runs k d).generation ≡ (get_or runs k no_run).generation → (k ≡ length runs - 1) ⊎ (k ≡ length runs - 1 → ⊥) → (get_or runs k d).generation ≤ run.generation
    up k d below top at (inl same) = let e = ap (λ i. (get_or runs i no_run).generation) same in omega arith
    up k d below top at (inr other) = let rise = rising.rises k (length runs - 1) no_run (omega arith) (omega arith) in omega arith

module _ (runs : List Run) (i : ℕ) (below : i < length runs) where
  less : Run
  less = record (nth_run runs i) { count = (nth_run runs i).count - 1 }

  -- by whether the run had one entry
  by_count : (P : List Run → Type 0) → ((nth_run runs i).count ≡ 1 → P (remove runs i))
      → ((nth_run runs i).count ≢ 1 → P (set runs i (record (nth_run runs i) { count = (nth_run runs i).count - 1 }))) → P (shortened runs i)
  by_count P one more = go (nat_eq (nth_run runs i).count 1) refl
    where
      go : (b : Bool) → nat_eq (nth_run runs i).count 1 ≡ b → P (cond b (remove runs i) (set runs i (record (nth_run runs i) { count = (nth_run runs i).count - 1 })))
      go true is = one (eqb-true (nth_run runs i).count 1 is)
      go false is = more (eqb-false (nth_run runs i).count 1 is)

  pub shortened-count : 0 < (nth_run runs i).count → tagged_count (shortened runs i) + 1 ≡ tagged_count runs
  shortened-count some = by_count (λ next. tagged_count next + 1 ≡ tagged_count runs)
      (λ one. let sum = sum_by-remove (λ (r : Run). r.count) runs i no_run below in omega arith)
      (λ more. let sum = sum_by-set (λ (r : Run). r.count) runs i (record (nth_run runs i) { count = (nth_run runs i).count - 1 }) no_run below in omega arith)

  pub shortened-filled : All IsFilled runs → All IsFilled (shortened runs i)
  shortened-filled filled = by_count (All IsFilled)
      (λ one. All-append IsFilled (take i runs) (drop (suc i) runs) (All-take IsFilled i runs filled) (All-drop IsFilled (suc i) runs filled))
      (λ more. let some = filled i no_run below in All-set IsFilled runs i _ (let less : 0 < (nth_run runs i).count - 1 = omega arith in less) filled)

  generation-set : (j : ℕ) (d : Run) → j < length runs
      → (get_or (set runs i (record (nth_run runs i) { count = (nth_run runs i).count - 1 })) j d).generation ≡ (get_or runs j d).generation
  generation-set j d inside = go (cases_eq j i)
    where
      go : (j ≡ i) ⊎ (j ≡ i → ⊥) → (get_or (set runs i (record (nth_run runs i) { count = (nth_run runs i).count - 1 })) j d).generation ≡ (get_or runs j d).generation
      go (inl same) = ap (λ k. (get_or (set runs i (record (nth_run runs i) { count = (nth_run runs i).count - 1 })) k d).generation) same
          ∙ ap (λ (r : Run). r.generation) (get_or-set_same runs i (record (nth_run runs i) { count = (nth_run runs i).count - 1 }) d below)
          ∙ ap (λ (r : Run). r.generation) (get_or_default runs i no_run d below)
          ∙ ap (λ k. (get_or runs k d).generation) (sym same)
      go (inr other) = ap (λ (r : Run). r.generation) (get_or-set_other runs i j (record (nth_run runs i) { count = (nth_run runs i).count - 1 }) d other)

  pub shortened-rising : IsRising runs → IsRising (shortened runs i)
  shortened-rising rising = by_count IsRising
      (λ one. record { rises = all_pairs_remove (λ (older : Run) (newer : Run). older.generation ≤ newer.generation) runs i below rising.rises })
      (λ more. record {
        rises = λ j k d before inside.
            let size = length-set runs i (record (nth_run runs i) { count = (nth_run runs i).count - 1 }) in
            let a = generation-set j d (omega arith) in
            let b = generation-set k d (omega arith) in
            let up = rising.rises j k d before (omega arith) in
            omega arith;
      })
