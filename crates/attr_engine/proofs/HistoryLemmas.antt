-- The rounds of a run are those that its report's statement wants.
use Rattle.std.proofs.Common.{◌≡◌, ◌≤◌, ◌*◌, slice_index_or, ℕ, zero, suc, List, [], ◌∷◌, length, map, Option, inl, inr, refl, sym, ap, ap₂, subst, ◌∙◌, arith}
use Rattle.std.specs.Prelude.{Bool, true, false, IsTrue, All, Vec}
use Rattle.std.specs.Global.{Global}
use Rattle.std.specs.List.{AllByRecursion}
use Rattle.std.specs.List.Sorted.{IsNonDecreasing}
use Rattle.std.proofs.Math.Nat.{mul-le-mul_left}
use Rattle.std.proofs.lemmas.Bool.{cases_lt}
use Rattle.std.proofs.lemmas.List.{length-map, get_or-map}
use Rattle.std.proofs.lemmas.List.Elements.{All-map}
use Rattle.std.proofs.lemmas.List.Sorted.{IsNonDecreasingBy-drop}
use Rattle.attr_types.specs.Table.{IsCommitPoint}
use Rattle.attr_types.specs.declared.op.Op.{Op}
use Rattle.attr_loader.specs.Loading.{commit_point}
use Rattle.attr_rounds.specs.declared.rounds.Round.{Round}
use Rattle.attr_rounds.specs.declared.asked.Told.{Told}
use Rattle.attr_report.specs.Run.{Run}
use Rattle.attr_report.specs.History.{IsRounds, IsAfterwards}
use Rattle.attr_engine.specs.declared.run_result.RunResult.{RunResult}
use Rattle.attr_engine.specs.Rounds.{IsRoundAt, AreRoundsAt, IsRunResult, commits_of, seen_before, progress_at}
use Rattle.attr_engine.proofs.ReaderLemmas.{all_first, all_rest}

pub each_all : {X : Type 0} (P : X → Type 0) (xs : List X) → AllByRecursion P xs → All P xs
each_all P [] all k d below = absurd (omega (arith, below))
each_all P (x ∷ xs) all zero d below = all.0
each_all P (x ∷ xs) all (suc k) d below = each_all P xs all.1 k d (omega (arith, below))

pub is_point : (batch total k : ℕ) → IsCommitPoint batch total (commit_point batch total k)
is_point batch total k = elim (cases_lt (batch * k) total) [
  | inl below ↦ (omega arith, inl (k, omega (arith, below)))
  | inr above ↦ (omega arith, inr (omega (arith, above)))
]

pub points_rise : (batch total j k : ℕ) → j ≤ k → commit_point batch total j ≤ commit_point batch total k
points_rise batch total j k le = let more : batch * j ≤ batch * k = mul-le-mul_left batch le in omega (arith, more)

points_forward : (batch total : ℕ) (xs : List ℕ) → IsNonDecreasing xs → IsNonDecreasing (map (λ k. commit_point batch total k) xs)
points_forward batch total xs up i j d ij below =
    let long = length-map xs (λ k. commit_point batch total k) in
    let a = get_or-map (λ k. commit_point batch total k) xs i 0 d (omega (arith, long, below, ij)) in
    let b = get_or-map (λ k. commit_point batch total k) xs j 0 d (omega (arith, long, below)) in
    let rise = points_rise batch total (slice_index_or xs i 0) (slice_index_or xs j 0) (up i j 0 ij (omega (arith, long, below))) in
    omega (arith, a, b, rise)

module _ (run : Run) (ops : List Op) (last : ℕ) where
  abbrev operations_in : Round Told → ℕ
  operations_in round = round.operations

  points_are : (rounds : List (Round Told)) → All (IsRoundAt run ops last) rounds
      → map operations_in rounds ≡ map (λ k. commit_point run.batch (length ops) k) (commits_of rounds)
  points_are [] all = refl
  points_are (round ∷ rounds) all =
      ap₂ (λ n (ns : List ℕ). n ∷ ns) (all_first (IsRoundAt run ops last) round rounds all).point (points_are rounds (all_rest (IsRoundAt run ops last) round rounds all))

  module _ (loaded : ℕ) (point : loaded ≡ commit_point run.batch (length ops) last) (seen : ℕ) (rounds : List (Round Told)) (are : AreRoundsAt run ops seen last rounds) where
    pub counts_made : length (map operations_in rounds) ≡ run.rounds
    counts_made = length-map rounds operations_in ∙ are.made

    pub counts_committed : All (λ n. IsCommitPoint run.batch (length ops) n × (n ≤ loaded)) (map operations_in rounds)
    counts_committed = All-map (λ n. IsCommitPoint run.batch (length ops) n × (n ≤ loaded)) operations_in rounds (λ k d below.
        let at = are.each k d below in
        let is = at.point in
        let rise = points_rise run.batch (length ops) (slice_index_or rounds k d).commit last at.commit in (
          subst (IsCommitPoint run.batch (length ops)) (sym is) (is_point run.batch (length ops) (slice_index_or rounds k d).commit),
          omega (arith, is, rise, point),
        ))

    pub counts_forward : IsNonDecreasing (map operations_in rounds)
    counts_forward = subst IsNonDecreasing (sym (points_are rounds are.each))
        (points_forward run.batch (length ops) (commits_of rounds) (IsNonDecreasingBy-drop (λ x. x) 1 (seen ∷ commits_of rounds) are.forward))

    pub counts_after : seen ≡ last → All (λ n. n ≡ loaded) (map operations_in rounds)
    counts_after here = All-map (λ n. n ≡ loaded) operations_in rounds (λ k d below.
        let at = are.each k d below in
        let long = length-map rounds (λ (r : Round Told). r.commit) in
        let up = are.forward 0 (suc k) 0 (omega arith) (omega (arith, long, below)) in
        let is = get_or-map (λ (r : Round Told). r.commit) rounds k d 0 below in
        let high = at.commit in
        let same : (slice_index_or rounds k d).commit ≡ last = omega (arith, up, is, high, here) in
        at.point ∙ ap (λ n. commit_point run.batch (length ops) n) same ∙ sym point)

module _ (run : Run) (ops : List Op) (run_result : RunResult) (saved : Option ℕ) (is : IsRunResult run ops run_result) where
  abbrev At : Vec (Round Told) Global → Type 0
  At r = AreRoundsAt run ops (seen_before run.after is.last) is.last r.items

  abbrev counts : Vec (Round Told) Global → List ℕ
  counts r = map (λ (x : Round Told). x.operations) r.items

  rounds_all : All At run_result.rounds.items
  rounds_all = each_all At run_result.rounds.items is.rounds

  pub in_rounds : IsRounds run (length ops) (progress_at run_result saved)
  in_rounds = record {
    readers = length-map run_result.rounds.items counts ∙ is.readers;
    made = All-map (λ ns. length ns ≡ run.rounds) counts run_result.rounds.items (λ k d below. counts_made run ops is.last run_result.loaded.operations is.point _ _ (rounds_all k d below));
    committed = All-map (All (λ n. IsCommitPoint run.batch (length ops) n × (n ≤ run_result.loaded.operations))) counts run_result.rounds.items
        (λ k d below. counts_committed run ops is.last run_result.loaded.operations is.point _ _ (rounds_all k d below));
    forward = All-map IsNonDecreasing counts run_result.rounds.items (λ k d below. counts_forward run ops is.last run_result.loaded.operations is.point _ _ (rounds_all k d below));
  }

  seen_is : IsTrue run.after → seen_before run.after is.last ≡ is.last
  seen_is ok = told run.after ok
    where
      told : (b : Bool) → IsTrue b → seen_before b is.last ≡ is.last
      told true ok = refl
      told false ok = absurd (let e : false ≡ true = ok in cc)

  pub afterwards : IsAfterwards run (progress_at run_result saved)
  afterwards = λ ok. All-map (All (λ n. n ≡ run_result.loaded.operations)) counts run_result.rounds.items
      (λ k d below. counts_after run ops is.last run_result.loaded.operations is.point _ _ (rounds_all k d below) (seen_is ok))
