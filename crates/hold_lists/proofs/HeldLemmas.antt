-- The list that entries and runs stand for, with an entry more, with all tagged, and without the first below.
use Rattle.std.proofs.Common.{◌≡◌, ℕ, zero, suc, ◌+◌, ◌-◌, ◌<◌, ◌≤◌, List, [], ◌∷◌, ◌++◌, length, map, get_or, set, take, drop, drop-cons, cond, Bool, true, false, nat_eq, None, Some, refl, sym, ap, ap₂, subst, ◌∙◌}
use Rattle.std.proofs.Common.{arith, append_assoc, append-nil, length-drop}
use Rattle.std.specs.Prelude.{All, find, remove, sum_by}
use Rattle.std.proofs.lemmas.List.{map-append, take_all, drop_all, take-append-le, drop-append-le, get_or-drop}
use Rattle.std.proofs.lemmas.List.Elements.{All-head, All-tail}
use Rattle.std.proofs.lemmas.List.Sums.{sum_by-cons, sum_by-take-drop}
use Rattle.std.proofs.lemmas.Bool.{lt-ltb, le-ltb, eq-eqb, ne_eqb}
use Rattle.hold_lists.specs.Held.{HeldEntry, untagged, tagged_by, is_below, without_first}
use Rattle.hold_lists.specs.Runs.{nth_run, under, held_of, tagged_count, shortened}
use Rattle.hold_lists.specs.declared.Run.{Run}

-- one entry more
pub held-push : (runs : List Run) (entries : List ℕ) (entry : ℕ) → tagged_count runs ≤ length entries
    → held_of runs (entries ++ entry ∷ []) ≡ held_of runs entries ++ untagged entry ∷ []
held-push [] entries entry fits = map-append untagged entries (entry ∷ [])
held-push (run ∷ runs) entries entry fits =
    let sum = sum_by-cons (λ (r : Run). r.count) run runs in
    let rest : tagged_count runs ≤ length (drop run.count entries) = omega (arith, length-drop run.count entries) in
    ap₂ (λ front back. map (under run) front ++ held_of runs back)
    (take-append-le run.count entries (entry ∷ []) (omega arith)) (drop-append-le run.count entries (entry ∷ []) (omega arith))
    ∙ ap (λ back. map (under run) (take run.count entries) ++ back) (held-push runs (drop run.count entries) entry rest)
    ∙ sym (append_assoc (map (under run) (take run.count entries)) (held_of runs (drop run.count entries)) (untagged entry ∷ []))

tagged-untagged : (run : Run) (entries : List ℕ) → map (tagged_by run.generation run.commit) (map untagged entries) ≡ map (under run) entries
tagged-untagged run [] = refl
tagged-untagged run (entry ∷ entries) = ap (λ more. under run entry ∷ more) (tagged-untagged run entries)

tagged-under : (generation commit : ℕ) (run : Run) (entries : List ℕ) → map (tagged_by generation commit) (map (under run) entries) ≡ map (under run) entries
tagged-under generation commit run [] = refl
tagged-under generation commit run (entry ∷ entries) = ap (λ more. under run entry ∷ more) (tagged-under generation commit run entries)

-- all untagged entries get the tag of a new run
pub held-tag : (runs : List Run) (entries : List ℕ) (run : Run) → tagged_count runs + run.count ≡ length entries
    → map (tagged_by run.generation run.commit) (held_of runs entries) ≡ held_of (runs ++ run ∷ []) entries
held-tag [] entries run all =
    tagged-untagged run entries
    ∙ sym (append-nil (map (under run) entries))
    ∙ ap₂ (λ front back. map (under run) front ++ map untagged back) (sym (take_all run.count entries (omega arith))) (sym (drop_all run.count entries (omega arith)))
held-tag (old ∷ runs) entries run all =
    let sum = sum_by-cons (λ (r : Run). r.count) old runs in
    let rest : tagged_count runs + run.count ≡ length (drop old.count entries) = omega (arith, length-drop old.count entries) in
    map-append (tagged_by run.generation run.commit) (map (under old) (take old.count entries)) (held_of runs (drop old.count entries))
    ∙ ap₂ (λ front back. front ++ back) (tagged-under run.generation run.commit old (take old.count entries)) (held-tag runs (drop old.count entries) run rest)

-- where nothing is untagged a tag changes nothing
pub held-tag_none : (runs : List Run) (entries : List ℕ) (generation commit : ℕ) → tagged_count runs ≡ length entries
    → map (tagged_by generation commit) (held_of runs entries) ≡ held_of runs entries
held-tag_none [] entries generation commit all = none entries (sym all)
  where
    none : (es : List ℕ) → length es ≡ 0 → map (tagged_by generation commit) (map untagged es) ≡ map untagged es
    none [] e = refl
    none (x ∷ es) e = absurd (omega arith)
held-tag_none (old ∷ runs) entries generation commit all =
    let sum = sum_by-cons (λ (r : Run). r.count) old runs in
    let rest : tagged_count runs ≡ length (drop old.count entries) = omega (arith, length-drop old.count entries) in
    map-append (tagged_by generation commit) (map (under old) (take old.count entries)) (held_of runs (drop old.count entries))
    ∙ ap₂ (λ front back. front ++ back) (tagged-under generation commit old (take old.count entries)) (held-tag_none runs (drop old.count entries) generation commit rest)

module _ (oldest : ℕ) where
  -- entries of a run that is not below are passed over
  find-past : (run : Run) → oldest ≤ run.generation → (entries : List ℕ) (rest : List HeldEntry)
      → find (is_below oldest) (map (under run) entries ++ rest) ≡ find (is_below oldest) rest
  find-past run old [] rest = refl
  find-past run old (entry ∷ entries) rest =
      ap (λ b. cond b (Some (under run entry)) (find (is_below oldest) (map (under run) entries ++ rest))) (le-ltb run.generation oldest old)
      ∙ find-past run old entries rest

  without-past : (run : Run) → oldest ≤ run.generation → (entries : List ℕ) (rest : List HeldEntry)
      → without_first (is_below oldest) (map (under run) entries ++ rest) ≡ map (under run) entries ++ without_first (is_below oldest) rest
  without-past run old [] rest = refl
  without-past run old (entry ∷ entries) rest =
      ap (λ b. cond b (map (under run) entries ++ rest) (under run entry ∷ without_first (is_below oldest) (map (under run) entries ++ rest))) (le-ltb run.generation oldest old)
      ∙ ap (λ more. under run entry ∷ more) (without-past run old entries rest)

  -- where no run is below, no entry is
  pub find-none : (runs : List Run) (entries : List ℕ) → All (λ run. oldest ≤ run.generation) runs → find (is_below oldest) (held_of runs entries) ≡ None
  find-none [] entries all = none entries
    where
      none : (es : List ℕ) → find (is_below oldest) (map untagged es) ≡ None
      none [] = refl
      none (x ∷ es) = none es
  find-none (run ∷ runs) entries all =
      find-past run (All-head (λ (r : Run). oldest ≤ r.generation) run runs all) (take run.count entries) (held_of runs (drop run.count entries))
      ∙ find-none runs (drop run.count entries) (All-tail (λ (r : Run). oldest ≤ r.generation) run runs all)

-- an element taken out behind the first n leaves these
take-remove : {A : Type 0} (n m p : ℕ) (xs : List A) → p ≡ n + m → take n (remove xs p) ≡ take n xs
take-remove zero m p xs is = refl
take-remove (suc n) m zero xs is = absurd (omega arith)
take-remove (suc n) m (suc p) [] is = refl
take-remove (suc n) m (suc p) (x ∷ xs) is = ap (λ ys. x ∷ ys) (take-remove n m p xs (omega arith))

drop-remove : {A : Type 0} (n m p : ℕ) (xs : List A) → p ≡ n + m → drop n (remove xs p) ≡ remove (drop n xs) m
drop-remove zero m p xs is = ap (remove xs) (let e : p ≡ m = omega arith in e)
drop-remove (suc n) m zero xs is = absurd (omega arith)
drop-remove (suc n) zero (suc p) [] is = refl
drop-remove (suc n) (suc m) (suc p) [] is = refl
drop-remove (suc n) m (suc p) (x ∷ xs) is = drop-remove n m p xs (omega arith)

shortened-behind : (run : Run) (runs : List Run) (i : ℕ) → shortened (run ∷ runs) (suc i) ≡ run ∷ shortened runs i
shortened-behind run runs i = go (nat_eq (nth_run runs i).count 1)
  where
    go : (b : Bool) → cond b (remove (run ∷ runs) (suc i)) (set (run ∷ runs) (suc i) (record (nth_run runs i) { count = (nth_run runs i).count - 1 }))
        ≡ run ∷ cond b (remove runs i) (set runs i (record (nth_run runs i) { count = (nth_run runs i).count - 1 }))
    go true = refl
    go false = refl

-- the entries before a run that has one, and that one, are tagged
pub place-inside : (runs : List Run) (i : ℕ) → i < length runs → 0 < (nth_run runs i).count → tagged_count (take i runs) < tagged_count runs
place-inside runs i below some =
    let count = λ (r : Run). r.count in
    let both = sum_by-take-drop count runs i in
    let back = ap (sum_by count) (drop-cons runs i (record { generation = 0; commit = 0; count = 0 }) below) in
    let sum = sum_by-cons count (nth_run runs i) (drop (suc i) runs) in
    omega arith

module _ (oldest : ℕ) where
  -- what is taken where a run is the first below, and what is left
  abbrev IsTaken : List Run → List ℕ → ℕ → ℕ → Type 0
  IsTaken runs entries i before =
      (find (is_below oldest) (held_of runs entries) ≡ Some (under (nth_run runs i) (get_or entries before 0)))
      × (without_first (is_below oldest) (held_of runs entries) ≡ held_of (shortened runs i) (remove entries before))

  taken-first : (run : Run) (runs : List Run) (entries : List ℕ) (n : ℕ) → run.count ≡ n → run.generation < oldest → 0 < n → n ≤ length entries
      → IsTaken (run ∷ runs) entries 0 0
  taken-first run runs entries zero is below some fits = absurd (omega arith)
  taken-first run runs [] (suc n) is below some fits = absurd (omega arith)
  taken-first run runs (entry ∷ entries) (suc n) is below some fits =
      let more = map (under run) (take n entries) ++ held_of runs (drop n entries) in
      let split : held_of (run ∷ runs) (entry ∷ entries) ≡ under run entry ∷ more =
      ap (λ k. map (under run) (take k (entry ∷ entries)) ++ held_of runs (drop k (entry ∷ entries))) is in
      let low = lt-ltb run.generation oldest below in (
        ap (find (is_below oldest)) split ∙ ap (λ b. cond b (Some (under run entry)) (find (is_below oldest) more)) low,
        ap (without_first (is_below oldest)) split ∙ ap (λ b. cond b more (under run entry ∷ without_first (is_below oldest) more)) low ∙ left n is,
      )
    where
      left : (m : ℕ) → run.count ≡ suc m → map (under run) (take m entries) ++ held_of runs (drop m entries) ≡ held_of (shortened (run ∷ runs) 0) entries
      left zero one = ap (λ b. held_of (cond b runs (record run { count = run.count - 1 } ∷ runs)) entries) (sym (eq-eqb run.count 1 one))
      left (suc m) many =
          ap (λ k. map (under run) (take k entries) ++ held_of runs (drop k entries)) (let e : suc m ≡ run.count - 1 = omega arith in e)
          ∙ ap (λ b. held_of (cond b runs (record run { count = run.count - 1 } ∷ runs)) entries) (sym (ne_eqb run.count 1 (λ e. omega arith)))

  pub taken : (runs : List Run) (entries : List ℕ) (i before : ℕ) → i < length runs → before ≡ tagged_count (take i runs)
      → (nth_run runs i).generation < oldest → ((k : ℕ) → k < i → oldest ≤ (nth_run runs k).generation)
      → All (λ run. 0 < run.count) runs → tagged_count runs ≤ length entries → IsTaken runs entries i before
  taken [] entries i before inside is below earlier filled fits = absurd (omega arith)
  taken (run ∷ runs) entries zero before inside is below earlier filled fits =
      let sum = sum_by-cons (λ (r : Run). r.count) run runs in
      subst (IsTaken (run ∷ runs) entries 0) (sym is)
      (taken-first run runs entries run.count refl below (All-head (λ (r : Run). 0 < r.count) run runs filled) (omega arith))
  taken (run ∷ runs) entries (suc i) before inside is below earlier filled fits =
      let count = λ (r : Run). r.count in
      let sum = sum_by-cons count run runs in
      let front = sum_by-cons count run (take i runs) in
      let old = earlier 0 (omega arith) in
      let behind = tagged_count (take i runs) in
      let place : before ≡ run.count + behind = omega arith in
      let rest = taken runs (drop run.count entries) i behind (omega arith) refl below (λ k low. earlier (suc k) (omega arith))
      (All-tail (λ (r : Run). 0 < r.count) run runs filled) (omega (arith, length-drop run.count entries)) in (
        find-past oldest run old (take run.count entries) (held_of runs (drop run.count entries))
            ∙ rest.0
            ∙ ap (λ e. Some (under (nth_run runs i) e)) (get_or-drop run.count entries behind 0)
            ∙ ap (λ p. Some (under (nth_run runs i) (get_or entries p 0))) (sym place),
        without-past oldest run old (take run.count entries) (held_of runs (drop run.count entries))
            ∙ ap (λ more. map (under run) (take run.count entries) ++ more) rest.1
            ∙ ap₂ (λ front back. map (under run) front ++ held_of (shortened runs i) back)
            (sym (take-remove run.count behind before entries place)) (sym (drop-remove run.count behind before entries place))
            ∙ ap (λ next. held_of next (remove entries before)) (sym (shortened-behind run runs i)),
      )
