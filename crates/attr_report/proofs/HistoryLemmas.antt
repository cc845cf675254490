-- The history of a run is legal, where its rounds stand at loaded commit points and never fall.
use Rattle.std.proofs.Common.{◌≡◌, ◌≢◌, ◌∙◌, inl, inr, sym, ap, ap₂, refl, subst, ℕ, zero, suc, ◌+◌}
use Rattle.std.proofs.Common.{◌%◌, ◌≤◌, ◌<◌, ◌==◌, ◌&&◌, ◌||◌, nat_le, Bool, true, false, cond}
use Rattle.std.proofs.Common.{List, [], ◌∷◌, ◌++◌, length, filter, All, Option, Some, None, append-nil}
use Rattle.std.proofs.Common.{append_assoc, length-append, arith, eq-eqb}
use Rattle.std.proofs.Math.Nat.{mul-mod_right}
use Rattle.std.proofs.lemmas.Bool.{ne_eqb}
use Rattle.std.proofs.lemmas.Bool.Decides.{eqb_tells, nat_tests}
use Rattle.std.proofs.lemmas.Grind.{flat_map-append}
use Rattle.std.proofs.lemmas.List.Elements.{filter-append, filter_map-append, recursion_from_All}
use Rattle.std.proofs.lemmas.List.Sorted.{IsNonDecreasingBy-drop}
use Rattle.std.specs.List.{AllByRecursion, flat_map, filter_map}
use Rattle.std.specs.List.Sorted.{IsNonDecreasing}
use Rattle.list_lemmas.proofs.Each.{AllByRecursion-weaker}
use Rattle.attr_types.specs.declared.op.Op.{Op}
use Rattle.attr_types.specs.Table.{IsCommitPoint}
use Rattle.attr_report.specs.Run.{Run, answers_of}
use Rattle.attr_report.specs.History.{RunEvent, Commit, Round, AreRoundsInOrder}
use Rattle.attr_report.specs.History.{AreInPlace, numbers_to, is_commit_point, commit_points}
use Rattle.attr_report.specs.History.{rounds_of_reader, rounds_at, history, commit_in, round_in}
use Rattle.attr_report.specs.History.{numbered_from}
use Rattle.attr_report.specs.Laws.{HistoriesAreLegal}

-- a list that is there or not, before another
abbrev given : {A : Type 0} → Bool → A → List A
given b x = cond b (x ∷ []) []

given-front : {A : Type 0} (b : Bool) (x : A) (xs : List A) → given b x ++ xs ≡ cond b (x ∷ xs) xs
given-front true x xs = refl
given-front false x xs = refl

-- ---- the commits

module _ (run : Run) (ops : List Op) (point : ℕ) where
  no_commit-one : (b : Bool) (reader round n : ℕ)
      → filter_map commit_in (given b (Round reader round n (answers_of run ops n))) ≡ []
  no_commit-one true reader round n = refl
  no_commit-one false reader round n = refl

  no_commit : (reader round : ℕ) (counts : List ℕ)
      → filter_map commit_in (rounds_of_reader run ops point reader round counts) ≡ []
  no_commit reader round [] = refl
  no_commit reader round (n ∷ counts) =
      filter_map-append commit_in (given (n == point) (Round reader round n (answers_of run ops n)))
      (rounds_of_reader run ops point reader (round + 1) counts)
      ∙ ap₂ (λ (a b : List ℕ). a ++ b) (no_commit-one (n == point) reader round n) (no_commit reader (round + 1) counts)

  no_commits : (reader : ℕ) (rounds : List (List ℕ)) → filter_map commit_in (rounds_at run ops point reader rounds) ≡ []
  no_commits reader [] = refl
  no_commits reader (counts ∷ rounds) =
      filter_map-append commit_in (rounds_of_reader run ops point reader 1 counts)
      (rounds_at run ops point (reader + 1) rounds)
      ∙ ap₂ (λ (a b : List ℕ). a ++ b) (no_commit reader 1 counts) (no_commits (reader + 1) rounds)

  -- ---- the places

  in_place-reader : (readers reader round : ℕ) (counts : List ℕ) (rest : List RunEvent) → 1 ≤ reader → reader ≤ readers
      → AreInPlace run ops readers (Some point) rest
      → AreInPlace run ops readers (Some point) (rounds_of_reader run ops point reader round counts ++ rest)
  in_place-reader readers reader round [] rest least most here = here
  in_place-reader readers reader round (n ∷ counts) rest least most here =
      let others = rounds_of_reader run ops point reader (round + 1) counts in
      let more = in_place-reader readers reader (round + 1) counts rest least most here in
      elim (eqb_tells n point) [
        | inl same ↦ subst (λ (b : Bool). AreInPlace run ops readers (Some point)
            ((given b (Round reader round n (answers_of run ops n)) ++ others) ++ rest)) (sym same.0)
            (least, most, ap Some (sym same.1), refl, more)
        | inr other ↦ subst (λ (b : Bool). AreInPlace run ops readers (Some point)
            ((given b (Round reader round n (answers_of run ops n)) ++ others) ++ rest)) (sym other.0) more
      ]

  in_place-readers : (readers reader : ℕ) (rounds : List (List ℕ)) (rest : List RunEvent) → 1 ≤ reader
      → reader + length rounds ≤ readers + 1 → AreInPlace run ops readers (Some point) rest
      → AreInPlace run ops readers (Some point) (rounds_at run ops point reader rounds ++ rest)
  in_place-readers readers reader [] rest least most here = here
  in_place-readers readers reader (counts ∷ rounds) rest least most here =
      subst (AreInPlace run ops readers (Some point))
      (sym (append_assoc (rounds_of_reader run ops point reader 1 counts) (rounds_at run ops point (reader + 1) rounds) rest))
      (in_place-reader readers reader 1 counts (rounds_at run ops point (reader + 1) rounds ++ rest) least (omega arith)
      (in_place-readers readers (reader + 1) rounds rest (omega arith) (omega arith) here))

-- ---- the rounds of one reader

-- numbered counts that stand at a point
abbrev at_point : ℕ → List (ℕ × ℕ) → List (ℕ × ℕ)
at_point point = filter (λ e. e.1 == point)

module _ (run : Run) (ops : List Op) (point reader : ℕ) where
  own-one : (b : Bool) (round n : ℕ)
      → filter_map (round_in reader) (given b (Round reader round n (answers_of run ops n))) ≡ given b (round, n)
  own-one true round n = ap (λ (t : Bool). filter_map (λ (o : Option (ℕ × ℕ)). o) (cond t (Some (round, n)) None ∷ []))
      (eq-eqb reader reader refl)
  own-one false round n = refl

  own : (round : ℕ) (counts : List ℕ) → filter_map (round_in reader) (rounds_of_reader run ops point reader round counts)
      ≡ at_point point (numbered_from round counts)
  own round [] = refl
  own round (n ∷ counts) =
      filter_map-append (round_in reader) (given (n == point) (Round reader round n (answers_of run ops n)))
      (rounds_of_reader run ops point reader (round + 1) counts)
      ∙ ap₂ (λ (a b : List (ℕ × ℕ)). a ++ b) (own-one (n == point) round n) (own (round + 1) counts)
      ∙ given-front (n == point) (round, n) (at_point point (numbered_from (round + 1) counts))

  other-one : (other : ℕ) → other ≢ reader → (b : Bool) (round n : ℕ)
      → filter_map (round_in reader) (given b (Round other round n (answers_of run ops n))) ≡ []
  other-one other apart true round n = ap (λ (t : Bool). filter_map (λ (o : Option (ℕ × ℕ)). o)
      (cond t (Some (round, n)) None ∷ [])) (ne_eqb other reader apart)
  other-one other apart false round n = refl

  others : (other : ℕ) → other ≢ reader → (round : ℕ) (counts : List ℕ)
      → filter_map (round_in reader) (rounds_of_reader run ops point other round counts) ≡ []
  others other apart round [] = refl
  others other apart round (n ∷ counts) =
      filter_map-append (round_in reader) (given (n == point) (Round other round n (answers_of run ops n)))
      (rounds_of_reader run ops point other (round + 1) counts)
      ∙ ap₂ (λ (a b : List (ℕ × ℕ)). a ++ b) (other-one other apart (n == point) round n)
      (others other apart (round + 1) counts)

  above : (first : ℕ) (rounds : List (List ℕ)) → reader < first
      → filter_map (round_in reader) (rounds_at run ops point first rounds) ≡ []
  above first [] below = refl
  above first (counts ∷ rounds) below =
      filter_map-append (round_in reader) (rounds_of_reader run ops point first 1 counts)
      (rounds_at run ops point (first + 1) rounds)
      ∙ ap₂ (λ (a b : List (ℕ × ℕ)). a ++ b) (others first (λ same. omega (arith, same, below)) 1 counts)
      (above (first + 1) rounds (omega arith))

  of_reader : (first : ℕ) (front : List (List ℕ)) (counts : List ℕ) (more : List (List ℕ)) → first + length front ≡ reader
      → filter_map (round_in reader) (rounds_at run ops point first (front ++ counts ∷ more))
      ≡ at_point point (numbered_from 1 counts)
  of_reader first [] counts more is =
      let here : first ≡ reader = omega (arith, is) in
      filter_map-append (round_in reader) (rounds_of_reader run ops point first 1 counts)
      (rounds_at run ops point (first + 1) more)
      ∙ ap₂ (λ (a b : List (ℕ × ℕ)). a ++ b)
      (ap (λ (r : ℕ). filter_map (round_in reader) (rounds_of_reader run ops point r 1 counts)) here ∙ own 1 counts)
      (above (first + 1) more (omega (arith, here)))
      ∙ append-nil (at_point point (numbered_from 1 counts))
  of_reader first (before ∷ front) counts more is =
      filter_map-append (round_in reader) (rounds_of_reader run ops point first 1 before)
      (rounds_at run ops point (first + 1) (front ++ counts ∷ more))
      ∙ ap₂ (λ (a b : List (ℕ × ℕ)). a ++ b) (others first (λ same. omega (arith, same, is)) 1 before)
      (of_reader (first + 1) front counts more (omega (arith, is)))

-- ---- over all commits

abbrev events : Run → List Op → List (List ℕ) → List ℕ → List RunEvent
events run ops rounds points = flat_map (λ point. Commit point ∷ rounds_at run ops point 1 rounds) points

commits_are : (run : Run) (ops : List Op) (rounds : List (List ℕ)) (points : List ℕ)
    → filter_map commit_in (events run ops rounds points) ≡ points
commits_are run ops rounds [] = refl
commits_are run ops rounds (point ∷ points) =
    ap (λ (ps : List ℕ). point ∷ ps)
    (filter_map-append commit_in (rounds_at run ops point 1 rounds) (events run ops rounds points)
    ∙ ap₂ (λ (a b : List ℕ). a ++ b) (no_commits run ops point 1 rounds) (commits_are run ops rounds points))

places_are : (run : Run) (ops : List Op) (rounds : List (List ℕ)) (last : Option ℕ) (points : List ℕ)
    → AreInPlace run ops (length rounds) last (events run ops rounds points)
places_are run ops rounds last [] = tt
places_are run ops rounds last (point ∷ points) =
    in_place-readers run ops point (length rounds) 1 rounds (events run ops rounds points) (omega arith) (omega arith)
    (places_are run ops rounds (Some point) points)

reader_is : (run : Run) (ops : List Op) (reader : ℕ) (front : List (List ℕ)) (counts : List ℕ) (more : List (List ℕ))
    → 1 + length front ≡ reader → (points : List ℕ)
    → filter_map (round_in reader) (events run ops (front ++ counts ∷ more) points)
    ≡ flat_map (λ point. at_point point (numbered_from 1 counts)) points
reader_is run ops reader front counts more is [] = refl
reader_is run ops reader front counts more is (point ∷ points) =
    filter_map-append (round_in reader) (rounds_at run ops point 1 (front ++ counts ∷ more))
    (events run ops (front ++ counts ∷ more) points)
    ∙ ap₂ (λ (a b : List (ℕ × ℕ)). a ++ b) (of_reader run ops point reader 1 front counts more is)
    (reader_is run ops reader front counts more is points)

-- ---- counts that never fall, gathered point by point

abbrev Rises : ℕ → List (ℕ × ℕ) → Type 0
Rises least [] = Unit {0}
Rises least (x ∷ xs) = (least ≤ x.1) × Rises x.1 xs

abbrev up_to : ℕ → List (ℕ × ℕ) → List (ℕ × ℕ)
up_to n = filter (λ e. nat_le e.1 n)

Rises-lower : (least lower : ℕ) (xs : List (ℕ × ℕ)) → lower ≤ least → Rises least xs → Rises lower xs
Rises-lower least lower [] below rises = tt
Rises-lower least lower (x ∷ xs) below rises = (omega (arith, below, rises.0), rises.1)

none_up_to : (n least : ℕ) (xs : List (ℕ × ℕ)) → n < least → Rises least xs → up_to n xs ≡ []
none_up_to n least [] below rises = refl
none_up_to n least (x ∷ xs) below rises =
    let above : n < x.1 = omega (arith, below, rises.0) in
    let test : nat_le x.1 n ≡ false = grind (arith, nat_tests) in
    ap (λ (b : Bool). cond b (x ∷ up_to n xs) (up_to n xs)) test ∙ none_up_to n x.1 xs above rises.1

next_point : (n least : ℕ) (xs : List (ℕ × ℕ)) → Rises least xs → up_to n xs ++ at_point (suc n) xs ≡ up_to (suc n) xs
next_point n least [] rises = refl
next_point n least (x ∷ xs) rises =
    let more = next_point n x.1 xs rises.1 in
    elim (eqb_tells x.1 (suc n)) [
      | inl here ↦
          let is = here.1 in
          let past : nat_le x.1 n ≡ false = grind (arith, nat_tests) in
          let within : nat_le x.1 (suc n) ≡ true = grind (arith, nat_tests) in
          let none : up_to n xs ≡ [] = none_up_to n x.1 xs (omega (arith, is)) rises.1 in
          ap₂ (λ (b c : Bool). cond b (x ∷ up_to n xs) (up_to n xs) ++ cond c (x ∷ at_point (suc n) xs) (at_point (suc n) xs))
          past here.0
          ∙ ap (λ (front : List (ℕ × ℕ)). front ++ (x ∷ at_point (suc n) xs)) none
          ∙ ap (λ (back : List (ℕ × ℕ)). x ∷ back)
          (sym (ap (λ (front : List (ℕ × ℕ)). front ++ at_point (suc n) xs) none) ∙ more)
          ∙ sym (ap (λ (b : Bool). cond b (x ∷ up_to (suc n) xs) (up_to (suc n) xs)) within)
      | inr there ↦ elsewhere (nat_le x.1 n) refl there.0 there.1 more
    ]
  where
    elsewhere : (b : Bool) → nat_le x.1 n ≡ b → (x.1 == suc n) ≡ false → x.1 ≢ suc n
        → up_to n xs ++ at_point (suc n) xs ≡ up_to (suc n) xs
        → up_to n (x ∷ xs) ++ at_point (suc n) (x ∷ xs) ≡ up_to (suc n) (x ∷ xs)
    elsewhere true low test apart more =
        let within : nat_le x.1 (suc n) ≡ true = grind (arith, nat_tests) in
        ap₂ (λ (b c : Bool). cond b (x ∷ up_to n xs) (up_to n xs) ++ cond c (x ∷ at_point (suc n) xs) (at_point (suc n) xs))
        low test
        ∙ ap (λ (xs : List (ℕ × ℕ)). x ∷ xs) more
        ∙ sym (ap (λ (b : Bool). cond b (x ∷ up_to (suc n) xs) (up_to (suc n) xs)) within)
    elsewhere false high test apart more =
        let past : nat_le x.1 (suc n) ≡ false = grind (arith, nat_tests) in
        ap₂ (λ (b c : Bool). cond b (x ∷ up_to n xs) (up_to n xs) ++ cond c (x ∷ at_point (suc n) xs) (at_point (suc n) xs))
        high test
        ∙ more
        ∙ sym (ap (λ (b : Bool). cond b (x ∷ up_to (suc n) xs) (up_to (suc n) xs)) past)

-- the numbers at 0 are those up to 0
at_zero : (xs : List (ℕ × ℕ)) → at_point 0 xs ≡ up_to 0 xs
at_zero [] = refl
at_zero (x ∷ xs) =
    let same : (x.1 == 0) ≡ nat_le x.1 0 = grind (arith, nat_tests) in
    ap (λ (b : Bool). cond b (x ∷ at_point 0 xs) (at_point 0 xs)) same
    ∙ ap (λ (ys : List (ℕ × ℕ)). cond (nat_le x.1 0) (x ∷ ys) ys) (at_zero xs)

module _ (is_point : ℕ → Bool) where
  abbrev AtPoints : List (ℕ × ℕ) → Type 0
  AtPoints xs = AllByRecursion (λ e. is_point e.1 ≡ true) xs

  none_at : (point : ℕ) (xs : List (ℕ × ℕ)) → is_point point ≡ false → AtPoints xs → at_point point xs ≡ []
  none_at point [] is all = refl
  none_at point (x ∷ xs) is all = elim (eqb_tells x.1 point) [
    | inl same ↦ absurd (cc (all.0, is, same.1))
    | inr other ↦ ap (λ (b : Bool). cond b (x ∷ at_point point xs) (at_point point xs)) other.0 ∙ none_at point xs is all.1
  ]

  one_point : (b : Bool) (point : ℕ) (xs : List (ℕ × ℕ)) → is_point point ≡ b → AtPoints xs
      → flat_map (λ p. at_point p xs) (filter is_point (point ∷ [])) ≡ at_point point xs
  one_point true point xs is all =
      ap (λ (b : Bool). flat_map (λ p. at_point p xs) (cond b (point ∷ []) [])) is ∙ append-nil (at_point point xs)
  one_point false point xs is all =
      ap (λ (b : Bool). flat_map (λ p. at_point p xs) (cond b (point ∷ []) [])) is ∙ sym (none_at point xs is all)

  gathered : (n : ℕ) (xs : List (ℕ × ℕ)) → Rises 0 xs → AtPoints xs
      → flat_map (λ p. at_point p xs) (filter is_point (numbers_to n)) ≡ up_to n xs
  unfolding numbers_to
  gathered zero xs rises all = one_point (is_point 0) 0 xs refl all ∙ at_zero xs
  gathered (suc n) xs rises all =
      ap (flat_map (λ p. at_point p xs)) (filter-append is_point (numbers_to n) (suc n ∷ []))
      ∙ flat_map-append (λ p. at_point p xs) (filter is_point (numbers_to n)) (filter is_point (suc n ∷ []))
      ∙ ap₂ (λ (a b : List (ℕ × ℕ)). a ++ b) (gathered n xs rises all) (one_point (is_point (suc n)) (suc n) xs refl all)
      ∙ next_point n 0 xs rises

all_up_to : (n : ℕ) (xs : List (ℕ × ℕ)) → AllByRecursion (λ e. e.1 ≤ n) xs → up_to n xs ≡ xs
all_up_to n [] all = refl
all_up_to n (x ∷ xs) all =
    let below = all.0 in
    let test : nat_le x.1 n ≡ true = grind (arith, nat_tests) in
    ap (λ (b : Bool). cond b (x ∷ up_to n xs) (up_to n xs)) test ∙ ap (λ (ys : List (ℕ × ℕ)). x ∷ ys) (all_up_to n xs all.1)

-- ---- what `IsRounds` says of one reader's counts

is_point-true : (batch total n : ℕ) → IsCommitPoint batch total n → is_commit_point batch total n ≡ true
is_point-true batch total n (within, inl multiple) =
    let low : nat_le n total ≡ true = grind (arith, nat_tests) in
    let rest : (n % batch == 0) ≡ true =
    eq-eqb (n % batch) 0 (ap (λ (m : ℕ). m % batch) multiple.1 ∙ mul-mod_right batch multiple.0) in
    ap₂ (λ (a b : Bool). a && (b || (n == total))) low rest
is_point-true batch total n (within, inr last) =
    let low : nat_le n total ≡ true = grind (arith, nat_tests) in
    ap₂ (λ (a b : Bool). a && ((n % batch == 0) || b)) low (eq-eqb n total last) ∙ either (n % batch == 0)
  where
    either : (b : Bool) → (true && (b || true)) ≡ true
    either true = refl
    either false = refl

numbered-all : (P : ℕ → Type 0) (round : ℕ) (counts : List ℕ) → AllByRecursion P counts
    → AllByRecursion (λ e. P e.1) (numbered_from round counts)
numbered-all P round [] all = tt
numbered-all P round (n ∷ counts) all = (all.0, numbered-all P (round + 1) counts all.1)

numbered-rises : (least round : ℕ) (counts : List ℕ) → AllByRecursion (λ n. least ≤ n) counts → IsNonDecreasing counts
    → Rises least (numbered_from round counts)
numbered-rises least round [] all rises = tt
numbered-rises least round (n ∷ counts) all rises = (
  all.0,
  numbered-rises n (round + 1) counts
      (recursion_from_All (λ m. n ≤ m) counts (λ k d below. rises 0 (suc k) d (omega arith) (omega (arith, below))))
      (IsNonDecreasingBy-drop (λ m. m) 1 (n ∷ counts) rises),
)

counts_gathered : (batch total loaded : ℕ) (counts : List ℕ)
    → All (λ n. IsCommitPoint batch total n × (n ≤ loaded)) counts → IsNonDecreasing counts
    → flat_map (λ p. at_point p (numbered_from 1 counts)) (filter (is_commit_point batch total) (numbers_to loaded))
    ≡ numbered_from 1 counts
counts_gathered batch total loaded counts committed rises =
    let all = recursion_from_All (λ n. IsCommitPoint batch total n × (n ≤ loaded)) counts committed in
    gathered (is_commit_point batch total) loaded (numbered_from 1 counts)
    (numbered-rises 0 1 counts (AllByRecursion-weaker _ _ (λ n h. omega arith) counts all) rises)
    (numbered-all (λ n. is_commit_point batch total n ≡ true) 1 counts
    (AllByRecursion-weaker _ _ (λ n h. is_point-true batch total n h.0) counts all))
    ∙ all_up_to loaded (numbered_from 1 counts)
    (numbered-all (λ n. n ≤ loaded) 1 counts (AllByRecursion-weaker _ _ (λ n h. h.1) counts all))

-- ---- the whole

abbrev IsCommitted : ℕ → ℕ → ℕ → List ℕ → Type 0
IsCommitted batch total loaded counts = All (λ n. IsCommitPoint batch total n × (n ≤ loaded)) counts

orders_are : (run : Run) (ops : List Op) (loaded : ℕ) (reader : ℕ) (front rounds : List (List ℕ))
    → 1 + length front ≡ reader
    → AllByRecursion (IsCommitted run.batch (length ops) loaded) rounds → AllByRecursion IsNonDecreasing rounds
    → AreRoundsInOrder (events run ops (front ++ rounds) (commit_points run (length ops) loaded)) reader rounds
unfolding commit_points
orders_are run ops loaded reader front [] is committed rises = tt
orders_are run ops loaded reader front (counts ∷ rounds) is committed rises = (
  reader_is run ops reader front counts rounds is (commit_points run (length ops) loaded)
      ∙ counts_gathered run.batch (length ops) loaded counts committed.0 rises.0,
  subst (λ (all : List (List ℕ)). AreRoundsInOrder (events run ops all (commit_points run (length ops) loaded)) (reader + 1) rounds)
      (append_assoc front (counts ∷ []) rounds)
      (orders_are run ops loaded (reader + 1) (front ++ counts ∷ []) rounds
      (omega (arith, is, length-append front (counts ∷ []))) committed.1 rises.1),
)

pub histories_are_legal : HistoriesAreLegal
unfolding history
histories_are_legal run ops progress rounds = record {
  commits = commits_are run ops progress.rounds (commit_points run (length ops) progress.loaded);
  in_order = orders_are run ops progress.loaded 1 [] progress.rounds refl
      (recursion_from_All (IsCommitted run.batch (length ops) progress.loaded) progress.rounds rounds.committed)
      (recursion_from_All IsNonDecreasing progress.rounds rounds.forward);
  in_place = places_are run ops progress.rounds None (commit_points run (length ops) progress.loaded);
}
