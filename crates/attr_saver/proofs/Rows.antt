-- Things in a row: what is read is what was written, and what was written is read again.
use Rattle.std.proofs.Common.{◌≡◌, ℕ, zero, suc, List, [], ◌∷◌, ◌++◌, length, Ok, refl, ap, subst, ◌∙◌, append_assoc}
use Rattle.std.specs.List.{flat_map, AllByRecursion}
use Rattle.std.proofs.lemmas.List.Concat.{flat_map-cons}
use Rattle.attr_saver.specs.Fields.{◌>>=◌, Read, read_row}
use Rattle.attr_saver.specs.Laws.{AreBytes}
use Rattle.attr_saver.proofs.FieldLemmas.{bind_ok, ok_is, Takes, Takes-then, Takes-nothing}

-- each thing fits what the one before it leaves
abbrev pub Chain : {A S : Type 0} → (A → S) → (S → A → Type 0) → S → List A → Type 0
Chain next P before [] = Unit {0}
Chain next P before (x ∷ xs) = P before x × Chain next P (next x) xs

pub chain_all : {A S : Type 0} (next : A → S) (P : S → A → Type 0) (Q : A → Type 0) → ((before : S) (x : A) → P before x → Q x)
    → (before : S) (xs : List A) → Chain next P before xs → AllByRecursion Q xs
chain_all next P Q each before [] chain = tt
chain_all next P Q each before (x ∷ xs) chain = (each before x chain.0, chain_all next P Q each (next x) xs chain.1)

module _ {A S : Type 0} (read : S → List ℕ → Read A) (next : A → S) (P : S → A → Type 0) (text : A → List ℕ) where
  abbrev pub ReadsOne : Type 0
  ReadsOne = (before : S) (bytes : List ℕ) (x : A × List ℕ) → AreBytes bytes → read before bytes ≡ Ok x → Takes bytes (text x.0) x.1 × P before x.0

  pub row_takes : ReadsOne → (count : ℕ) (before : S) (bytes : List ℕ) (x : List A × List ℕ) → AreBytes bytes → read_row read next count before bytes ≡ Ok x
      → Takes bytes (flat_map text x.0) x.1 × (length x.0 ≡ count) × Chain next P before x.0
  unfolding read_row
  row_takes each zero before bytes x fits e =
      subst (λ (y : List A × List ℕ). Takes bytes (flat_map text y.0) y.1 × (length y.0 ≡ 0) × Chain next P before y.0)
      (ok_is ([], bytes) x e) (Takes-nothing bytes fits, refl, tt)
  row_takes each (suc count) before bytes x fits e =
      let a = bind_ok (read before bytes) (λ first. read_row read next count (next first.0) first.1 >>= λ others. Ok (first.0 ∷ others.0, others.1)) x e in
      let b = bind_ok (read_row read next count (next a.0.0) a.0.1) (λ others. Ok (a.0.0 ∷ others.0, others.1)) x a.2 in
      let first = each before bytes a.0 fits a.1 in
      let second = row_takes each count (next a.0.0) a.0.1 b.0 first.0.rest_fits b.1 in
      let both = Takes-then bytes (text a.0.0) a.0.1 (flat_map text b.0.0) b.0.1 first.0 second.0 in
      let made : List A × List ℕ = (a.0.0 ∷ b.0.0, b.0.1) in
      subst (λ (y : List A × List ℕ). Takes bytes (flat_map text y.0) y.1 × (length y.0 ≡ suc count) × Chain next P before y.0)
      (ok_is made x b.2) (rw flat_map-cons both, ap suc second.1, (first.1, second.2))

  abbrev pub ReadsAgain : Type 0
  ReadsAgain = (before : S) (x : A) (rest : List ℕ) → P before x → read before (text x ++ rest) ≡ Ok (x, rest)

  pub row_again : ReadsAgain → (xs : List A) (before : S) (rest : List ℕ) → Chain next P before xs
      → read_row read next (length xs) before (flat_map text xs ++ rest) ≡ Ok (xs, rest)
  unfolding read_row
  row_again each [] before rest chain = refl
  row_again each (x ∷ xs) before rest chain =
      let regrouped : flat_map text (x ∷ xs) ++ rest ≡ text x ++ (flat_map text xs ++ rest) =
      ap (λ (bytes : List ℕ). bytes ++ rest) (flat_map-cons text x xs) ∙ append_assoc (text x) (flat_map text xs) rest in
      ap (read_row read next (suc (length xs)) before) regrouped
      ∙ rw (each before x (flat_map text xs ++ rest) chain.0, row_again each xs (next x) rest chain.1) refl
