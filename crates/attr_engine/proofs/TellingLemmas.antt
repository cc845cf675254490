-- A history that follows the run of the memory, step by step.
use Rattle.std.proofs.Common.{◌≡◌, ◌∙◌, inl, inr, sym, ap, refl, subst, ℕ, zero, suc, ◌+◌, ◌≤◌, ◌<◌, ◌==◌, Bool, true, false, cond, arith, eq-eqb}
use Rattle.std.proofs.lemmas.List.{map-append}
use Rattle.std.proofs.Common.{List, [], ◌∷◌, ◌++◌, map, length, Option, Some, None}
use Rattle.std.specs.Prelude.{Vec, slice_get}
use Rattle.std.specs.Global.{Global}
use Rattle.std.specs.List.{cons_option}
use Rattle.std.proofs.lemmas.Bool.{ne_eqb}
use Rattle.std.proofs.lemmas.Bool.Decides.{eqb_tells}
use Rattle.std.proofs.lemmas.List.Elements.{recursion_from_All}
use Rattle.std.specs.List.{AllByRecursion, filter_map}
use Rattle.list_lemmas.proofs.Each.{AllByRecursion-weaker}
use Rattle.entry_ref.specs.declared.images.Image.{Image}
use Rattle.gen_core.specs.declared.views.Event.{Event}
use Rattle.word_arena.specs.Ruled.{writer_of}
use Rattle.image_format.specs.Images.{attr_reaches, IsLawfulImage}
use Rattle.attr_types.specs.declared.op.Op.{Op}
use Rattle.attr_loader.specs.Loading.{commit_point}
use Rattle.attr_rounds.specs.declared.rounds.Round.{Round}
use Rattle.attr_rounds.specs.declared.asked.Told.{Told}
use Rattle.attr_report.specs.Run.{Run}
use Rattle.attr_report.specs.History.{numbers_to}
use Rattle.attr_engine.specs.declared.run_result.RunResult.{RunResult}
use Rattle.attr_engine.specs.Memory.{reads_by}
use Rattle.attr_engine.specs.Rounds.{IsRoundAt, AreRoundsAt, IsRunResult, commits_of, seen_before}
use Rattle.attr_engine.specs.Happenings.{Happening, Committed, Answered, commit_of, round_of, with_numbers, kind_of, AreInOrder, AreAtCommits, HasHistory}
use Rattle.attr_engine.proofs.OrderLemmas.{Steps, InRange, ReadsUpTo, nones, reads_in, steps_of, steps_read, steps_within, enough, first_of, rest_of, both_parts, first_count, first_within, rest_publishes, first_reads}

abbrev Rounds : Type 0
Rounds = Vec (Round Told) Global

abbrev Numbered : Type 0
Numbered = ℕ × Round Told

-- what is left of each reader's rounds
abbrev Rests : Type 0
Rests = ℕ → List Numbered

abbrev commits_in : List Numbered → List ℕ
commits_in rounds = map (λ x. x.1.commit) rounds

abbrev tail_in : {A : Type 0} → List A → List A
tail_in [] = []
tail_in (x ∷ xs) = xs

abbrev head_in : List ℕ → ℕ
head_in [] = 0
head_in (x ∷ xs) = x

abbrev answer : ℕ → List Numbered → List Happening
answer i [] = []
answer i (x ∷ xs) = Answered i x.0 x.1 ∷ []

abbrev popped : ℕ → Rests → Rests
popped i rem r = cond (i == r) (tail_in (rem r)) (rem r)

record Popped (k : ℕ) (list : List Numbered) : Type 0 where
  x : Numbered
  xs : List Numbered
  is : list ≡ x ∷ xs
  here : x.1.commit ≡ k

popped_by : (k : ℕ) (list : List Numbered) (reads : List ℕ) → commits_in list ≡ k ∷ reads → Popped k list
popped_by k [] reads is = absurd (let l = ap length is in omega (arith, l))
popped_by k (x ∷ xs) reads is = record { x = x; xs = xs; is = refl; here = ap head_in is }

tail_commits : (k : ℕ) (list : List Numbered) (reads : List ℕ) → commits_in list ≡ k ∷ reads → commits_in (tail_in list) ≡ reads
tail_commits k [] reads is = absurd (let l = ap length is in omega (arith, l))
tail_commits k (x ∷ xs) reads is = ap tail_in is

none_left : (list : List Numbered) → commits_in list ≡ [] → list ≡ []
none_left [] is = refl
none_left (x ∷ xs) is = absurd (let l = ap length is in omega (arith, l))

abbrev Fit : ℕ → ℕ → Rests → Steps → Type 0
Fit n k rem ss = (r : ℕ) → 1 ≤ r → r ≤ n → commits_in (rem r) ≡ reads_in r k ss

pop : (n k i : ℕ) (rem : Rests) (ss : Steps) → Fit n k rem (Some i ∷ ss) → InRange n (Some i) → Popped k (rem i)
pop n k i rem ss fit within =
    popped_by k (rem i) (reads_in i k ss) (fit i within.0 within.1 ∙ ap (λ (b : Bool). cond b (k ∷ reads_in i k ss) (reads_in i k ss)) (eq-eqb i i refl))

fit_on : (n k i : ℕ) (rem : Rests) (ss : Steps) → Fit n k rem (Some i ∷ ss) → Fit n k (popped i rem) ss
fit_on n k i rem ss fit r least most = by (i == r) (fit r least most)
  where
    by : (b : Bool) → commits_in (rem r) ≡ cond b (k ∷ reads_in r k ss) (reads_in r k ss) → commits_in (cond b (tail_in (rem r)) (rem r)) ≡ reads_in r k ss
    by true is = tail_commits k (rem r) (reads_in r k ss) is
    by false is = is

abbrev Keeps : (Round Told → Type 0) → ℕ → Rests → Type 0
Keeps P n rem = (r : ℕ) → 1 ≤ r → r ≤ n → AllByRecursion (λ x. P x.1) (rem r)

keeps_on : (P : Round Told → Type 0) (n i : ℕ) (rem : Rests) → Keeps P n rem → Keeps P n (popped i rem)
keeps_on P n i rem keeps r least most = by (i == r) (rem r) (keeps r least most)
  where
    by : (b : Bool) (list : List Numbered) → AllByRecursion (λ (x : Numbered). P x.1) list → AllByRecursion (λ (x : Numbered). P x.1) (cond b (tail_in list) list)
    by true [] all = tt
    by true (x ∷ xs) all = all.1
    by false list all = all

module _ (point : ℕ → ℕ) where
  -- a history of these steps
  abbrev told : ℕ → Rests → Steps → List Happening
  told k rem [] = []
  told k rem (None ∷ ss) = Committed (suc k) (point (suc k)) ∷ told (suc k) rem ss
  told k rem (Some i ∷ ss) = answer i (rem i) ++ told k (popped i rem) ss

  abbrev points_from : ℕ → ℕ → List (ℕ × ℕ)
  points_from k zero = []
  points_from k (suc m) = (suc k, point (suc k)) ∷ points_from (suc k) m

  kinds_are : (n k : ℕ) (rem : Rests) (ss : Steps) → AllByRecursion (InRange n) ss → Fit n k rem ss → map kind_of (told k rem ss) ≡ ss
  kinds_are n k rem [] within fit = refl
  kinds_are n k rem (None ∷ ss) within fit = ap (λ (list : Steps). None ∷ list) (kinds_are n (suc k) rem ss within.1 fit)
  kinds_are n k rem (Some i ∷ ss) within fit =
      let p = pop n k i rem ss fit within.0 in
      ap (λ (list : List Numbered). map kind_of (answer i list ++ told k (popped i rem) ss)) p.is
      ∙ ap (λ (list : Steps). Some i ∷ list) (kinds_are n k (popped i rem) ss within.1 (fit_on n k i rem ss fit))

  orders_are : (n k : ℕ) (rem : Rests) (ss : Steps) → AllByRecursion (InRange n) ss → Fit n k rem ss → (r : ℕ) → 1 ≤ r → r ≤ n → filter_map (round_of r) (told k rem ss) ≡ rem r
  orders_are n k rem [] within fit r least most = sym (none_left (rem r) (fit r least most))
  orders_are n k rem (None ∷ ss) within fit r least most = orders_are n (suc k) rem ss within.1 fit r least most
  orders_are n k rem (Some i ∷ ss) within fit r least most =
      let p = pop n k i rem ss fit within.0 in
      let later = told k (popped i rem) ss in
      let more = orders_are n k (popped i rem) ss within.1 (fit_on n k i rem ss fit) r least most in
      ap (λ (list : List Numbered). filter_map (round_of r) (answer i list ++ later)) p.is
      ∙ (elim (eqb_tells i r) as (λ _. filter_map (round_of r) (Answered i p.x.0 p.x.1 ∷ later) ≡ rem r) [
        | inl same ↦
            let mine : rem r ≡ p.x ∷ p.xs = ap rem (sym same.1) ∙ p.is in
            ap (λ (b : Bool). cons_option (cond b (Some (p.x.0, p.x.1)) None) (filter_map (round_of r) later)) same.0
            ∙ ap (λ (list : List Numbered). p.x ∷ list)
            (more ∙ ap (λ (b : Bool). cond b (tail_in (rem r)) (rem r)) same.0 ∙ ap tail_in mine)
            ∙ sym mine
        | inr apart ↦
            ap (λ (b : Bool). cons_option (cond b (Some (p.x.0, p.x.1)) None) (filter_map (round_of r) later)) apart.0
            ∙ more ∙ ap (λ (b : Bool). cond b (tail_in (rem r)) (rem r)) apart.0
      ])

  no_commit : (i : ℕ) (list : List Numbered) (later : List Happening) → filter_map commit_of (answer i list ++ later) ≡ filter_map commit_of later
  no_commit i [] later = refl
  no_commit i (x ∷ xs) later = refl

  commits_are : (k : ℕ) (rem : Rests) (ss : Steps) → filter_map commit_of (told k rem ss) ≡ points_from k (nones ss)
  commits_are k rem [] = refl
  commits_are k rem (None ∷ ss) = ap (λ (list : List (ℕ × ℕ)). (suc k, point (suc k)) ∷ list) (commits_are (suc k) rem ss)
  commits_are k rem (Some i ∷ ss) = no_commit i (rem i) (told k (popped i rem) ss) ∙ commits_are k (popped i rem) ss

  points_push : (k m : ℕ) → points_from k (suc m) ≡ points_from k m ++ (suc (k + m), point (suc (k + m))) ∷ []
  points_push k zero = ap (λ (j : ℕ). (suc j, point (suc j)) ∷ []) (let e : k ≡ k + 0 = omega arith in e)
  points_push k (suc m) =
      ap (λ (list : List (ℕ × ℕ)). (suc k, point (suc k)) ∷ list)
      (points_push (suc k) m ∙ ap (λ (j : ℕ). points_from (suc k) m ++ (suc j, point (suc j)) ∷ []) (let e : suc k + m ≡ k + suc m = omega arith in e))

  all_points : (n : ℕ) → map (λ (k : ℕ). (k, point k)) (numbers_to n) ≡ (0, point 0) ∷ points_from 0 n
  unfolding numbers_to
  all_points zero = refl
  all_points (suc n) =
      map-append (λ (k : ℕ). (k, point k)) (numbers_to n) (suc n ∷ [])
      ∙ ap (λ (list : List (ℕ × ℕ)). list ++ (suc n, point (suc n)) ∷ []) (all_points n)
      ∙ ap (λ (list : List (ℕ × ℕ)). (0, point 0) ∷ list)
      (ap (λ (j : ℕ). points_from 0 n ++ (suc j, point (suc j)) ∷ []) (let e : n ≡ 0 + n = omega arith in e) ∙ sym (points_push 0 n))

module _ (run : Run) (ops : List Op) (last : ℕ) where
  abbrev Point : ℕ → ℕ
  Point k = commit_point run.batch (length ops) k

  abbrev IsAt : Round Told → Type 0
  IsAt round = IsRoundAt run ops last round

  at_its : (k : ℕ) (round : Round Told) → IsAt round → round.commit ≡ k → (◌≡◌ {A = Option (ℕ × ℕ)} (Some (k, Point k)) (Some (round.commit, round.operations)))
  at_its k round is same = ap (λ j. Some (j, Point j)) (sym same) ∙ ap (λ n. Some (round.commit, n)) (sym is.point)

  places_are : (n k : ℕ) (rem : Rests) (ss : Steps) → AllByRecursion (InRange n) ss → Fit n k rem ss → Keeps IsAt n rem
      → AreAtCommits run ops n (Some (k, Point k)) (told Point k rem ss)
  places_are n k rem [] within fit keeps = tt
  places_are n k rem (None ∷ ss) within fit keeps = places_are n (suc k) rem ss within.1 fit keeps
  places_are n k rem (Some i ∷ ss) within fit keeps =
      let p = pop n k i rem ss fit within.0 in
      let at = (subst (AllByRecursion (λ (x : Numbered). IsAt x.1)) p.is (keeps i within.0.0 within.0.1)).0 in
      subst (λ (list : List Numbered). AreAtCommits run ops n (Some (k, Point k)) (answer i list ++ told Point k (popped i rem) ss)) (sym p.is)
      (within.0.0, within.0.1, at_its k p.x.1 at p.here, at.tells, places_are n k (popped i rem) ss within.1 (fit_on n k i rem ss fit) (keeps_on IsAt n i rem keeps))

-- ---- the rounds of each reader

abbrev rem_at : ℕ → List Rounds → Rests
rem_at first [] r = []
rem_at first (rounds ∷ others) r = cond (first == r) (with_numbers 1 rounds.items) (rem_at (first + 1) others r)

numbered_commits : (number : ℕ) (rounds : List (Round Told)) → commits_in (with_numbers number rounds) ≡ commits_of rounds
numbered_commits number [] = refl
numbered_commits number (round ∷ rounds) = ap (λ (list : List ℕ). round.commit ∷ list) (numbered_commits (number + 1) rounds)

abbrev head_list : List (List ℕ) → List ℕ
head_list [] = []
head_list (x ∷ xs) = x

start_fit : (events : List Event) (n first j : ℕ) (all : List Rounds) → first ≡ j + 1 → map (λ r. commits_of r.items) all ≡ reads_by events j (length all) → j + length all ≤ n
    → (r : ℕ) → first ≤ r → r ≤ j + length all → commits_in (rem_at first all r) ≡ reads_in r 0 (steps_of n events)
start_fit events n first j [] is reads few r least most = absurd (omega (arith, is, least, most))
start_fit events n first j (rounds ∷ others) is reads few r least most = elim (eqb_tells first r) [
  | inl same ↦
      let here = same.1 in
      let number : j + 1 ≡ r = omega (arith, is, here) in
      ap (λ (b : Bool). commits_in (cond b (with_numbers 1 rounds.items) (rem_at (first + 1) others r))) same.0
      ∙ numbered_commits 1 rounds.items ∙ ap head_list reads
      ∙ steps_read n j (omega (arith, few)) 0 events ∙ ap (λ (x : ℕ). reads_in x 0 (steps_of n events)) number
  | inr apart ↦
      let ne = apart.1 in
      ap (λ (b : Bool). commits_in (cond b (with_numbers 1 rounds.items) (rem_at (first + 1) others r))) apart.0
      ∙ start_fit events n (first + 1) (j + 1) others (omega (arith, is)) (ap tail_in reads) (omega (arith, few)) r (omega (arith, ne, least)) (omega (arith, most))
]

all_in_order : (events : List Happening) (first : ℕ) (all : List Rounds) → ((r : ℕ) → first ≤ r → r < first + length all → filter_map (round_of r) events ≡ rem_at first all r)
    → AreInOrder events first all
all_in_order events first [] each = tt
all_in_order events first (rounds ∷ others) each = (
  each first (omega arith) (omega arith) ∙ ap (λ (b : Bool). cond b (with_numbers 1 rounds.items) (rem_at (first + 1) others first)) (eq-eqb first first refl),
  all_in_order events (first + 1) others (λ r least most.
      each r (omega (arith, least)) (omega (arith, most))
      ∙ ap (λ (b : Bool). cond b (with_numbers 1 rounds.items) (rem_at (first + 1) others r)) (ne_eqb first r (λ same. omega (arith, same, least)))),
)

all_numbered : (P : Round Told → Type 0) (number : ℕ) (rounds : List (Round Told)) → AllByRecursion P rounds → AllByRecursion (λ (x : Numbered). P x.1) (with_numbers number rounds)
all_numbered P number [] all = tt
all_numbered P number (round ∷ rounds) all = (all.0, all_numbered P (number + 1) rounds all.1)

all_kept : (P : Round Told → Type 0) (first : ℕ) (all : List Rounds) → AllByRecursion (λ rounds. AllByRecursion P rounds.items) all → (r : ℕ) → AllByRecursion (λ (x : Numbered). P x.1) (rem_at first all r)
all_kept P first [] each r = tt
all_kept P first (rounds ∷ others) each r = by (all_kept P (first + 1) others each.1 r) (first == r)
  where
    by : AllByRecursion (λ (x : Numbered). P x.1) (rem_at (first + 1) others r) → (b : Bool) → AllByRecursion (λ (x : Numbered). P x.1) (cond b (with_numbers 1 rounds.items) (rem_at (first + 1) others r))
    by rest true = all_numbered P 1 rounds.items each.0
    by rest false = rest

all_commits : (last : ℕ) (list : List Numbered) → AllByRecursion (λ (x : Numbered). x.1.commit ≤ last) list → AllByRecursion (λ c. c ≤ last) (commits_in list)
all_commits last [] all = tt
all_commits last (x ∷ xs) all = (all.0, all_commits last xs all.1)

some_at : (xs : List Image) (k : ℕ) → k < length xs → (x : Image) × (slice_get xs k ≡ Some x)
some_at [] k low = absurd (omega (arith, low))
some_at (x ∷ xs) zero low = (x, refl)
some_at (x ∷ xs) (suc k) low = some_at xs k (omega (arith, low))

-- ---- the whole

pub has_history : (run : Run) (ops : List Op) (run_result : RunResult) → IsRunResult run ops run_result → HasHistory run ops run_result
has_history run ops run_result is =
    let all = run_result.rounds.items in
    let n = length all in
    let last = is.last in
    let memory = is.memory in
    let seen = memory.knew.seen in
    let ss = steps_of n seen in
    let long = memory.count in
    let final = some_at (writer_of memory.knew).commits last (omega (arith, long)) in
    let there = memory.named last final.0 final.1 in
    let many = enough attr_reaches IsLawfulImage n (writer_of memory.knew).sizes seen there.end last final.0 there.run there.commit in
    let rem = rem_at 1 all in
    let readers = is.readers in
    let reads : map (λ r. commits_of r.items) all ≡ reads_by seen 0 n = memory.reads ∙ ap (λ (c : ℕ). reads_by seen 0 c) (sym readers) in
    let fit : Fit n 0 rem ss = λ r least most. start_fit seen n 1 0 all refl reads (omega arith) r least (omega (arith, most)) in
    let rounds_at = AllByRecursion-weaker (λ rounds. AreRoundsAt run ops (seen_before run.after last) last rounds.items) (λ (rounds : Rounds). AllByRecursion (IsRoundAt run ops last) rounds.items)
    (λ rounds are. recursion_from_All (IsRoundAt run ops last) rounds.items are.each) all is.rounds in
    let keeps : Keeps (IsRoundAt run ops last) n rem = λ r least most. all_kept (IsRoundAt run ops last) 1 all rounds_at r in
    let up_to : ReadsUpTo n last 0 ss = λ r least most.
    subst (AllByRecursion (λ c. c ≤ last)) (fit r least most)
    (all_commits last (rem r) (AllByRecursion-weaker (λ (x : Numbered). IsRoundAt run ops last x.1) (λ (x : Numbered). x.1.commit ≤ last) (λ x at. at.commit) (rem r) (keeps r least most))) in
    let within = steps_within n seen in
    let front = first_of last ss in
    let only = rest_publishes n last last 0 ss (omega arith) within up_to in
    let fit_front : Fit n 0 rem front = λ r least most. fit r least most ∙ sym (first_reads r last 0 ss only) in
    let inside = first_within n last ss within in
    let point = λ (k : ℕ). commit_point run.batch (length ops) k in
    let events = told point 0 rem front in
    record {
      last = last;
      loaded = is.point;
      events = Committed 0 (point 0) ∷ events;
      commits = ap (λ (list : List (ℕ × ℕ)). (0, point 0) ∷ list) (commits_are point 0 rem front ∙ ap (points_from point 0) (first_count last ss many)) ∙ sym (all_points point last);
      in_order = all_in_order (Committed 0 (point 0) ∷ events) 1 all (λ r least most. orders_are point n 0 rem front inside fit_front r least (omega (arith, most)));
      in_place = places_are run ops last n 0 rem front inside fit_front keeps;
      order = record {
        knew = memory.knew;
        is = memory.is;
        beyond = rest_of last ss;
        only = only;
        order = ap (λ (list : Steps). None ∷ list)
            (ap (λ (list : Steps). list ++ rest_of last ss) (kinds_are point n 0 rem front inside fit_front) ∙ both_parts last ss);
      };
    }
