-- What a reader's rounds imply for the commits that it saw.
use Rattle.std.specs.Prelude.{◌≡◌, ℕ, List, [], ◌∷◌, ◌++◌, ◌≤◌, map, length, take, drop, reverse, slice_get, Some}
use Rattle.std.specs.List.{AllZip}
use Rattle.std.specs.List.Sorted.{IsNonDecreasing}
use Rattle.entry_ref.specs.declared.images.Image.{Image}
use Rattle.entry_ref.specs.Records.{Records}
use Rattle.entry_ref.specs.Images.{words_at}
use Rattle.gen_core.specs.declared.views.ReaderView.{ReaderView}
use Rattle.attr_rounds.specs.declared.rounds.Round.{Round}

-- what the last guards saw, the earliest first
abbrev pub seen_last : ℕ → List (ℕ × Image) → List (ℕ × Image)
seen_last count saw = reverse (take count saw)

-- a reader has seen the same commits as before, and nothing else, whatever hold it stands on
pub record SeesSame (r r' : ReaderView) : Type 0 where
  pub same_sizes : r'.sizes ≡ r.sizes
  pub same_number : r'.number ≡ r.number
  pub seen : r'.seen ≡ r.seen
  pub saw : r'.saw ≡ r.saw

-- what is asked: the number of operations of an image, and the answers to a question at it
module _ {A : Type 0} (operations : ℕ → Records → ℕ → ℕ) (answers : ℕ → Records → ℕ → A → Type 0) where
  -- a round has these contents for an image
  pub record IsOfImage (shape : ℕ) (image : Image) (round : Round A) : Type 0 where
    pub count : round.operations ≡ operations shape (words_at image) image.root
    pub answer : answers shape (words_at image) image.root round.answer

  -- a round is at the commit with its number
  pub record IsOfCommit (shape : ℕ) (commits : List Image) (round : Round A) : Type 0 where
    pub image : Image
    pub there : slice_get commits round.commit ≡ Some image
    pub is : IsOfImage shape image round

  module _ (lawful : ℕ → Records → ℕ → Type 0) where
    -- a round is at a lawful image that was seen, with its number
    pub record IsOfSeen (shape : ℕ) (round : Round A) (seen : ℕ × Image) : Type 0 where
      pub commit : round.commit ≡ seen.0
      pub lawful_image : lawful shape (words_at seen.1) seen.1.root
      pub is : IsOfImage shape seen.1 round

    -- the rounds, in order, are at what the reader's last guards saw, one guard each
    pub record AreSeen (r : ReaderView) (rounds : List (Round A)) : Type 0 where
      pub each : AllZip (IsOfSeen r.sizes.shape) rounds (seen_last (length rounds) r.saw)

    -- the rounds lead from one view of a reader to another: it saw their commits and nothing else, and none of these
    -- is older than one that it saw before
    pub record MakesRounds (r r' : ReaderView) (rounds : List (Round A)) : Type 0 where
      pub same_sizes : r'.sizes ≡ r.sizes
      pub same_number : r'.number ≡ r.number
      pub are_seen : AreSeen r' rounds
      pub nothing_else : drop (length rounds) r'.saw ≡ r.saw
      pub forward : IsNonDecreasing ((r.seen ∷ map (λ round. round.commit) rounds) ++ r'.seen ∷ [])

    -- one round that leads from one view of a reader to another
    pub record MakesRound (r r' : ReaderView) (round : Round A) : Type 0 where
      pub same_sizes : r'.sizes ≡ r.sizes
      pub same_number : r'.number ≡ r.number
      pub image : Image
      pub saw : r'.saw ≡ (round.commit, image) ∷ r.saw
      pub later : r.seen ≤ round.commit
      pub seen : r'.seen ≡ round.commit
      pub is : IsOfSeen r.sizes.shape round (round.commit, image)
