-- Rounds one after another.
use Rattle.std.proofs.Common.{slice_index_or, ◌≡◌, ℕ, suc, ◌-◌, ◌<◌, ◌≤◌, List, [], ◌∷◌, ◌++◌, length, refl, sym, ap, ◌∙◌, subst, arith}
use Rattle.std.specs.Prelude.{map, take, drop}
use Rattle.std.specs.List.{AllZip}
use Rattle.std.specs.List.Sorted.{IsNonDecreasing}
use Rattle.std.proofs.lemmas.List.{length_push, map-append, reverse-append, get_or_push, get_or_append_left}
use Rattle.std.proofs.lemmas.List.Sorted.{IsNonDecreasingBy-push}
use Rattle.list_lemmas.proofs.Pairs.{AllZip-push}
use Rattle.entry_ref.specs.declared.images.Image.{Image}
use Rattle.entry_ref.specs.Records.{Records}
use Rattle.gen_core.specs.declared.views.Sizes.{Sizes}
use Rattle.gen_core.specs.declared.views.ReaderView.{ReaderView}
use Rattle.entry_ref.specs.Images.{words_at}
use Rattle.word_arena.specs.Ruled.{seen_image, seen_number, IsLater}
use Rattle.attr_rounds.specs.declared.rounds.Round.{Round}
use Rattle.attr_rounds.specs.Rounds.{seen_last, SeesSame, IsOfSeen, MakesRounds, MakesRound}

long : {X : Type 0} (xs : List X) (x : X) → length (xs ++ x ∷ []) ≡ suc (length xs)
long xs x = let l = length_push xs x in omega (arith, l)

-- one guard more
pushed : (n : ℕ) (p : ℕ × Image) (saw : List (ℕ × Image)) → seen_last (suc n) (p ∷ saw) ≡ seen_last n saw ++ p ∷ []
pushed n p saw = reverse-append (p ∷ []) (take n saw)

-- the last of numbers that do not fall may be higher
raised : (ys : List ℕ) (s n : ℕ) → IsNonDecreasing (ys ++ s ∷ []) → s ≤ n → IsNonDecreasing (ys ++ n ∷ [])
raised ys s n rises le = IsNonDecreasingBy-push (λ x. x) ys n front last
  where
    front : IsNonDecreasing ys
    front i j d ij lt =
        let l = length_push ys s in
        let h = rises i j d ij (omega (arith, l, lt)) in
        let a = get_or_append_left ys (s ∷ []) d i (omega (arith, lt, ij)) in
        let b = get_or_append_left ys (s ∷ []) d j lt in
        omega (arith, h, a, b)

    last : (d : ℕ) → 0 < length ys → slice_index_or ys (length ys - 1) d ≤ n
    last d some =
        let l = length_push ys s in
        let h = rises (length ys - 1) (length ys) d (omega arith) (omega (arith, l)) in
        let a = get_or_append_left ys (s ∷ []) d (length ys - 1) (omega (arith, some)) in
        let b = get_or_push ys s d (length ys) refl in
        omega (arith, h, a, b, le)

module _ {A : Type 0} (operations : ℕ → Records → ℕ → ℕ) (answers : ℕ → Records → ℕ → A → Type 0) (lawful : ℕ → Records → ℕ → Type 0) where
  abbrev Makes : ReaderView → ReaderView → List (Round A) → Type 0
  Makes r r' rounds = MakesRounds operations answers lawful r r' rounds

  abbrev commit_of : Round A → ℕ
  commit_of round = round.commit

  -- the round of a guard that was given back
  pub of_guard : (reaches : ℕ → Records → ℕ → List ℕ) (r g t : ReaderView) (round : Round A) → IsLater reaches lawful r g → SeesSame g t → round.commit ≡ seen_number g
      → round.operations ≡ operations g.sizes.shape (words_at (seen_image g)) (seen_image g).root → answers g.sizes.shape (words_at (seen_image g)) (seen_image g).root round.answer
      → MakesRound operations answers lawful r t round
  of_guard reaches r g t round later same commit count answer = record {
    same_sizes = same.same_sizes ∙ later.same_sizes;
    same_number = same.same_number ∙ later.same_number;
    image = seen_image g;
    saw = same.saw ∙ later.saw ∙ ap (λ n. (n, seen_image g) ∷ r.saw) (sym commit);
    later = subst (λ n. r.seen ≤ n) (sym commit) later.later;
    seen = same.seen ∙ later.seen ∙ sym commit;
    is = subst (λ (z : Sizes). IsOfSeen operations answers lawful z.shape round (round.commit, seen_image g)) later.same_sizes
        (record { commit = refl; lawful_image = later.commit.lawful_image; is = record { count = count; answer = answer } });
  }

  -- the same, by what was asked of the guard under its root
  pub of_question : (reaches : ℕ → Records → ℕ → List ℕ) (r g t : ReaderView) (root : ℕ) (round : Round A) → root ≡ (seen_image g).root → IsLater reaches lawful r g → SeesSame g t
      → round.commit ≡ seen_number g → round.operations ≡ operations g.sizes.shape (words_at (seen_image g)) root → answers g.sizes.shape (words_at (seen_image g)) root round.answer
      → MakesRound operations answers lawful r t round
  of_question reaches r g t root round named later same commit count answer =
      of_guard reaches r g t round later same commit (count ∙ ap (operations g.sizes.shape (words_at (seen_image g))) named)
      (subst (λ n. answers g.sizes.shape (words_at (seen_image g)) n round.answer) named answer)

  pub lawful_at : (g : ReaderView) (root : ℕ) → root ≡ (seen_image g).root → lawful g.sizes.shape (words_at (seen_image g)) (seen_image g).root → lawful g.sizes.shape (words_at (seen_image g)) root
  lawful_at g root named is = subst (lawful g.sizes.shape (words_at (seen_image g))) (sym named) is

  -- the same rounds, where nothing more was seen
  pub sight_kept : (r m t : ReaderView) (rounds : List (Round A)) → Makes r m rounds → SeesSame m t → Makes r t rounds
  sight_kept r m t rounds before same = record {
    same_sizes = same.same_sizes ∙ before.same_sizes;
    same_number = same.same_number ∙ before.same_number;
    are_seen = record {
      each = subst (λ (z : Sizes). AllZip (IsOfSeen operations answers lawful z.shape) rounds (seen_last (length rounds) t.saw)) (sym same.same_sizes)
          (subst (λ saw. AllZip (IsOfSeen operations answers lawful m.sizes.shape) rounds (seen_last (length rounds) saw)) (sym same.saw) before.are_seen.each);
    };
    nothing_else = ap (drop (length rounds)) same.saw ∙ before.nothing_else;
    forward = subst (λ n. IsNonDecreasing ((r.seen ∷ map commit_of rounds) ++ n ∷ [])) (sym same.seen) before.forward;
  }

  pub no_rounds : (r : ReaderView) → Makes r r []
  no_rounds r = record {
    same_sizes = refl;
    same_number = refl;
    are_seen = record { each = tt };
    nothing_else = refl;
    forward = IsNonDecreasingBy-push (λ x. x) (r.seen ∷ []) r.seen (λ i j d ij lt. let e : i ≡ j = omega (arith, ij, lt) in
        subst (λ k. slice_index_or (r.seen ∷ []) i d ≤ slice_index_or (r.seen ∷ []) k d) e (omega arith)) (λ d some. omega arith);
  }

  module _ (r m t : ReaderView) (rounds : List (Round A)) (round : Round A) (before : Makes r m rounds) (next : MakesRound operations answers lawful m t round) where
    all_seen : AllZip (IsOfSeen operations answers lawful t.sizes.shape) (rounds ++ round ∷ []) (seen_last (length (rounds ++ round ∷ [])) t.saw)
    all_seen =
        let P : Sizes → List (ℕ × Image) → Type 0 = λ z seen. AllZip (IsOfSeen operations answers lawful z.shape) (rounds ++ round ∷ []) seen in
        let here : P m.sizes (seen_last (length rounds) m.saw ++ (round.commit, next.image) ∷ []) =
        AllZip-push (IsOfSeen operations answers lawful m.sizes.shape) rounds (seen_last (length rounds) m.saw) round (round.commit, next.image) before.are_seen.each next.is in
        subst (λ n. P t.sizes (seen_last n t.saw)) (sym (long rounds round))
        (subst (λ saw. P t.sizes (seen_last (suc (length rounds)) saw)) (sym next.saw)
        (subst (P t.sizes) (sym (pushed (length rounds) (round.commit, next.image) m.saw))
        (subst (λ z. P z (seen_last (length rounds) m.saw ++ (round.commit, next.image) ∷ [])) (sym next.same_sizes) here)))

    nothing_else : drop (length (rounds ++ round ∷ [])) t.saw ≡ r.saw
    nothing_else =
        ap (λ n. drop n t.saw) (long rounds round) ∙ ap (λ saw. drop (suc (length rounds)) saw) next.saw ∙ before.nothing_else

    forward : IsNonDecreasing ((r.seen ∷ map commit_of (rounds ++ round ∷ [])) ++ t.seen ∷ [])
    forward =
        let commits = r.seen ∷ map commit_of rounds in
        let high : IsNonDecreasing (commits ++ round.commit ∷ []) = raised commits m.seen round.commit before.forward next.later in
        let last : (d : ℕ) → 0 < length (commits ++ round.commit ∷ []) → slice_index_or (commits ++ round.commit ∷ []) (length (commits ++ round.commit ∷ []) - 1) d ≤ round.commit =
        λ d some. let e = get_or_push commits round.commit d (length (commits ++ round.commit ∷ []) - 1) (let l = length_push commits round.commit in omega (arith, l)) in omega (arith, e) in
        let twice : IsNonDecreasing ((commits ++ round.commit ∷ []) ++ round.commit ∷ []) = IsNonDecreasingBy-push (λ x. x) (commits ++ round.commit ∷ []) round.commit high last in
        subst (λ n. IsNonDecreasing ((r.seen ∷ map commit_of (rounds ++ round ∷ [])) ++ n ∷ [])) (sym next.seen)
        (subst (λ list. IsNonDecreasing ((r.seen ∷ list) ++ round.commit ∷ [])) (sym (map-append commit_of rounds (round ∷ []))) twice)

    pub one_more : Makes r t (rounds ++ round ∷ [])
    one_more = record {
      same_sizes = next.same_sizes ∙ before.same_sizes;
      same_number = next.same_number ∙ before.same_number;
      are_seen = record { each = all_seen };
      nothing_else = nothing_else;
      forward = forward;
    }
