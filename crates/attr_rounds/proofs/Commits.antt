-- What a reader saw is commits, and so its rounds are of commits.
use Rattle.std.proofs.Common.{ℕ, zero, suc, List, [], ◌∷◌, ◌++◌, length, sym, subst, ap, ◌∙◌, arith}
use Rattle.std.specs.Prelude.{take, reverse, slice_get, All}
use Rattle.std.specs.List.{AllZip}
use Rattle.std.proofs.lemmas.List.{length-append, get_or_append_left, reverse-append}
use Rattle.std.proofs.lemmas.List.Elements.{All-nil, All-push, All-take}
use Rattle.entry_ref.specs.declared.images.Image.{Image}
use Rattle.entry_ref.specs.Records.{Records}
use Rattle.gen_core.specs.declared.views.ReaderView.{ReaderView}
use Rattle.gen_core.specs.Views.{IsCommit}
use Rattle.attr_rounds.specs.declared.rounds.Round.{Round}
use Rattle.attr_rounds.specs.Rounds.{seen_last, IsOfSeen, AreSeen, IsOfCommit}

module _ {X : Type 0} (P : X → Type 0) where
  all_left : (xs ys : List X) → All P (xs ++ ys) → All P xs
  all_left xs ys all k d below =
      let long = length-append xs ys in
      subst P (get_or_append_left xs ys d k below) (all k d (omega (arith, long, below)))

  all_rest : (x : X) (xs : List X) → All P (x ∷ xs) → All P xs
  all_rest x xs all k d below = all (suc k) d (omega (arith, below))

  all_cons : (x : X) (xs : List X) → P x → All P xs → All P (x ∷ xs)
  all_cons x xs here all zero d below = here
  all_cons x xs here all (suc k) d below = all k d (omega (arith, below))

  all_reverse : (xs : List X) → All P xs → All P (reverse xs)
  all_reverse [] all = All-nil P
  all_reverse (x ∷ xs) all =
      subst (All P) (sym (reverse-append (x ∷ []) xs)) (All-push P (reverse xs) x (all_reverse xs (all_rest x xs all)) (all 0 x (omega arith)))

module _ {A : Type 0} (operations : ℕ → Records → ℕ → ℕ) (answers : ℕ → Records → ℕ → A → Type 0) (lawful : ℕ → Records → ℕ → Type 0) (shape : ℕ) (commits : List Image) where
  of_commit : (round : Round A) (seen : ℕ × Image) → IsOfSeen operations answers lawful shape round seen → IsCommit commits seen → IsOfCommit operations answers shape commits round
  of_commit round seen of commit = record { image = seen.1; there = ap (slice_get commits) of.commit ∙ commit; is = of.is }

  each_of_commit : (rounds : List (Round A)) (seen : List (ℕ × Image)) → AllZip (IsOfSeen operations answers lawful shape) rounds seen → All (IsCommit commits) seen
      → All (IsOfCommit operations answers shape commits) rounds
  each_of_commit [] [] of all = All-nil (IsOfCommit operations answers shape commits)
  each_of_commit [] (s ∷ seen) of all = absurd of
  each_of_commit (round ∷ rounds) [] of all = absurd of
  each_of_commit (round ∷ rounds) (s ∷ seen) of all =
      all_cons (IsOfCommit operations answers shape commits) round rounds (of_commit round s of.0 (all 0 s (omega arith)))
      (each_of_commit rounds seen of.1 (all_rest (IsCommit commits) s seen all))

-- where all that a reader and others saw is commits
pub rounds_of_commits : {A : Type 0} (operations : ℕ → Records → ℕ → ℕ) (answers : ℕ → Records → ℕ → A → Type 0) (lawful : ℕ → Records → ℕ
    → Type 0) (commits : List Image) (r : ReaderView) (others : List (ℕ × Image)) (rounds : List (Round A))
    → AreSeen operations answers lawful r rounds → All (IsCommit commits) (r.saw ++ others) → All (IsOfCommit operations answers r.sizes.shape commits) rounds
rounds_of_commits operations answers lawful commits r others rounds seen all =
    each_of_commit operations answers lawful r.sizes.shape commits rounds (seen_last (length rounds) r.saw) seen.each
    (all_reverse (IsCommit commits) (take (length rounds) r.saw) (All-take (IsCommit commits) (length rounds) r.saw (all_left (IsCommit commits) r.saw others all)))
