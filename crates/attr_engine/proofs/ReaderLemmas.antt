-- Readers, their rounds, and these taken in.
use Rattle.std.proofs.Common.{◌≡◌, ◌++◌, ℕ, suc, List, [], ◌∷◌, length, map, refl, sym, ap, subst, ◌∙◌, arith}
use Rattle.std.specs.Prelude.{Bool, All, Result, Ok, Err, IfOk}
use Rattle.std.specs.List.{AllByRecursion, AllZip}
use Rattle.std.specs.List.Sorted.{IsNonDecreasing}
use Rattle.std.proofs.lemmas.List.{length-append, get_or_append_left}
use Rattle.atomic_table.specs.Seated.{TableId}
use Rattle.entry_ref.specs.declared.images.Image.{Image}
use Rattle.entry_ref.specs.Records.{Records}
use Rattle.gen_core.specs.declared.views.Sizes.{Sizes}
use Rattle.gen_core.specs.declared.views.ReaderView.{ReaderView}
use Rattle.gen_core.specs.declared.views.WriterView.{WriterView}
use Rattle.gen_core.specs.Views.{last_number}
use Rattle.image_format.specs.Images.{IsLawfulImage}
use Rattle.attr_types.specs.Scores.{AskTree}
use Rattle.gen_core.specs.Events.{joined}
use Rattle.attr_rounds.specs.Rounds.{IsOfCommit, MakesRounds}
use Rattle.attr_rounds.specs.declared.rounds.Round.{Round}
use Rattle.attr_rounds.specs.declared.asked.Told.{Told}
use Rattle.attr_engine.specs.Rounds.{commits_of}
use Rattle.attr_engine.specs.Steps.{KeepsWriter, IsReader, HasRead, IsReading, IsTakenFrom, AreRoundsOf, IsLastAnswer}
use Rattle.attr_engine.specs.Rounds.{operations_of, tells_of}
use Rattle.attr_engine.proofs.MemoryLemmas.{rounds_seen}

pub all_first : {X : Type 0} (P : X → Type 0) (x : X) (xs : List X) → All P (x ∷ xs) → P x
all_first P x xs all = all 0 x (omega arith)

pub all_rest : {X : Type 0} (P : X → Type 0) (x : X) (xs : List X) → All P (x ∷ xs) → All P xs
all_rest P x xs all k d below = all (suc k) d (omega (arith, below))

-- what holds of each of the second list, by those beside it in the first
pub zip_all : {A B : Type 0} (J : A → Type 0) (G : A → B → Type 0) (Q : B → Type 0) → ((a : A) (b : B) → J a → G a b → Q b)
    → (xs : List A) (ys : List B) → All J xs → AllZip G xs ys → AllByRecursion Q ys
zip_all J G Q step [] [] all zip = tt
zip_all J G Q step [] (b ∷ ys) all zip = absurd zip
zip_all J G Q step (a ∷ xs) [] all zip = absurd zip
zip_all J G Q step (a ∷ xs) (b ∷ ys) all zip = (step a b (all_first J a xs all) zip.0, zip_all J G Q step xs ys (all_rest J a xs all) zip.1)

-- as many, and what holds of each
pub record AllOf {C : Type 0} (P : C → Type 0) (n : ℕ) (zs : List C) : Type 0 where
  pub each : AllByRecursion P zs
  pub count : length zs ≡ n

pub zip_length : {A B : Type 0} (G : A → B → Type 0) (xs : List A) (ys : List B) → AllZip G xs ys → length ys ≡ length xs
zip_length G [] [] zip = refl
zip_length G [] (b ∷ ys) zip = absurd zip
zip_length G (a ∷ xs) [] zip = absurd zip
zip_length G (a ∷ xs) (b ∷ ys) zip = ap suc (zip_length G xs ys zip.1)

pub zip_each : {A B : Type 0} (J : A → Type 0) (G : A → B → Type 0) (Q : B → Type 0) → ((a : A) (b : B) → J a → G a b → Q b)
    → (xs : List A) (ys : List B) → AllByRecursion J xs → AllZip G xs ys → AllByRecursion Q ys
zip_each J G Q step [] [] all zip = tt
zip_each J G Q step [] (b ∷ ys) all zip = absurd zip
zip_each J G Q step (a ∷ xs) [] all zip = absurd zip
zip_each J G Q step (a ∷ xs) (b ∷ ys) all zip = (step a b all.0 zip.0, zip_each J G Q step xs ys all.1 zip.1)

-- numbers that do not fall, without the last
front : (xs : List ℕ) (n : ℕ) → IsNonDecreasing (xs ++ n ∷ []) → IsNonDecreasing xs
front xs n rises i j d ij below =
    let long = length-append xs (n ∷ []) in
    let h = rises i j d ij (omega (arith, long, below)) in
    let a = get_or_append_left xs (n ∷ []) d i (omega (arith, below, ij)) in
    let b = get_or_append_left xs (n ∷ []) d j below in
    omega (arith, h, a, b)

module _ (counted : Bool) (asks : List AskTree) (w : WriterView) (home : TableId) (count : ℕ) (r : ReaderView) (table : TableId) (rounds : List (Round Told))
    (has : HasRead counted asks w home count r table rounds) where
  pub reading_of : (v : WriterView) (here : TableId) → v.sizes.shape ≡ w.sizes.shape → here ≡ home → IsReading counted asks v.sizes.shape here r table rounds
  reading_of v here shape same = record {
    shape_is = ap (λ (x : Sizes). x.shape) (has.makes.same_sizes ∙ has.is.same_sizes) ∙ sym shape;
    are_seen = has.makes.are_seen;
    all_seen = rounds_seen operations_of (tells_of counted asks) IsLawfulImage has.start r rounds has.is.nothing has.makes;
    at_home = has.same ∙ has.is.at_home ∙ sym same;
  }

  pub taken_of : (shape : ℕ) (commits : List Image) (taken : List (Round Told)) → IsTakenFrom counted asks shape commits rounds taken
      → AreRoundsOf counted asks shape (last_number w.commits) count commits taken
  taken_of shape commits taken from = record {
    made = ap length from.same ∙ has.made;
    each = from.each;
    forward = subst (λ n. IsNonDecreasing (n ∷ commits_of taken)) has.is.seen_last
        (subst (λ (list : List (Round Told)). IsNonDecreasing (has.start.seen ∷ commits_of list)) (sym from.same)
        (front (has.start.seen ∷ commits_of rounds) r.seen has.makes.forward));
    guarded = record {
      before = has.start;
      after = r;
      had_seen = has.is.seen_last;
      makes = subst (MakesRounds operations_of (tells_of counted asks) IsLawfulImage has.start r) (sym from.same) has.makes;
    };
  }

-- a reader's rounds, taken in by a writer that is still of the same commits
pub taken_in : (counted : Bool) (asks : List AskTree) (w v v' : WriterView) (home table : TableId) (r : ReaderView) (rounds taken : List (Round Told)) → KeepsWriter w v → v' ≡ joined v r
    → IsReading counted asks w.sizes.shape home r table rounds → taken ≡ rounds → All (IsOfCommit operations_of (tells_of counted asks) r.sizes.shape v'.commits) taken
    → IsTakenFrom counted asks w.sizes.shape w.commits rounds taken
taken_in counted asks w v v' home table r rounds taken keeps is reading same all =
    let stay : v'.commits ≡ w.commits = ap (λ (x : WriterView). x.commits) is ∙ ap (λ (x : WriterView). x.commits) keeps in
    record {
      same = same;
      each = subst (λ n. All (IsOfCommit operations_of (tells_of counted asks) n w.commits) taken) reading.shape_is
          (subst (λ (cs : List Image). All (IsOfCommit operations_of (tells_of counted asks) r.sizes.shape cs) taken) stay all);
    }

pub keeps_joined : (w v : WriterView) (r : ReaderView) → v ≡ joined w r → KeepsWriter w v
keeps_joined w v r is = subst (KeepsWriter w) (sym is) refl

-- a round of a reader of this writer, taken in, is of the last commit that it has
pub last_of : {A : Type 0} (operations : ℕ → Records → ℕ → ℕ) (answers : ℕ → Records → ℕ → A → Type 0) (lawful : ℕ → Records → ℕ → Type 0) (w v v' : WriterView) (home table : TableId)
    (start r : ReaderView) (rounds taken : List (Round A)) (round : Round A) → IsReader w home start table → MakesRounds operations answers lawful start r rounds
    → KeepsWriter w v → v' ≡ joined v r → taken ≡ rounds → All (IsOfCommit operations answers r.sizes.shape v'.commits) taken → taken ≡ round ∷ []
    → IsLastAnswer operations answers w round.answer
last_of {A = A} operations answers lawful w v v' home table start r rounds taken round is makes keeps joins same all one =
    let stay : v'.commits ≡ w.commits = ap (λ (x : WriterView). x.commits) joins ∙ ap (λ (x : WriterView). x.commits) keeps in
    let shape : r.sizes.shape ≡ w.sizes.shape = ap (λ (x : Sizes). x.shape) (makes.same_sizes ∙ is.same_sizes) in
    let forward = subst (λ (list : List (Round A)). IsNonDecreasing ((start.seen ∷ map (λ (x : Round A). x.commit) list) ++ r.seen ∷ [])) (sym same ∙ one) makes.forward in
    let up = forward 0 1 0 (omega arith) (omega arith) in
    let seen = is.seen_last in
    record {
      round = round;
      is = refl;
      of_commit = subst (λ n. IsOfCommit operations answers n w.commits round) shape
          (subst (λ (cs : List Image). IsOfCommit operations answers r.sizes.shape cs round) stay
          (all_first (IsOfCommit operations answers r.sizes.shape v'.commits) round []
          (subst (All (IsOfCommit operations answers r.sizes.shape v'.commits)) one all)));
      later = omega (arith, up, seen);
    }

pub one_of : {X : Type 0} (xs ys : List X) (x : X) → xs ≡ ys ++ x ∷ [] → length xs ≡ 1 → xs ≡ x ∷ []
one_of xs [] x is one = is
one_of xs (y ∷ ys) x is one = absurd (let l = ap length is in let m = length-append ys (x ∷ []) in omega (arith, l, m, one))

pub ok_always : {A E : Type 0} (r : Result A E) (P : Type 0) → P → IfOk r (λ _. P)
ok_always (Ok a) P holds = holds
ok_always (Err e) P holds = tt
