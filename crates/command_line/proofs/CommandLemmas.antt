-- `attr` is a command of which clap says all; what it says of the words that `attr` is given.
use Rattle.std.proofs.Common.{◌≡◌, ◌⊎◌, ◌∙◌, ◌≤◌, inl, inr, true, refl, sym, ap, subst, arith, List}
use Rattle.std.proofs.Common.{[], ◌∷◌, length, Err}
use Rattle.clap.specs.Kinds.{IsAmong, Kinds}
use Rattle.clap.specs.Walk.{Row, Text}
use Rattle.clap.specs.Simple.{App, built, is_simple, matches_of}
use Rattle.clap.specs.Faults.{fault_of, is_simple_and_free}
use Rattle.clap.specs.declared.error.kind.ErrorKind.{ErrorKind}
use Rattle.clap.specs.declared.error.kind.ErrorKind.TheVariants as kinds
use Rattle.clap.proofs.OnLiterals.{clap_on_literals}
use Rattle.command_line.specs.CommandLine.{attr_app}
use Rattle.command_line.specs.Found.{error_of}
use Rattle.command_line.specs.Reading.{AreTaken, AnswersWords}
use Rattle.command_line.proofs.OneKind.{AtMostOne, one_kind}

-- clap says which faults `attr` has, and which matches
pub is_free : is_simple_and_free attr_app ≡ true
unfolding attr_app clap_on_literals
is_free = refl

pub simple : is_simple attr_app ≡ true
unfolding attr_app clap_on_literals
simple = refl

pub no_subcommands : (built attr_app).subs ≡ []
unfolding attr_app
no_subcommands = refl

is_leaf : (built attr_app).top.is_leaf ≡ true
unfolding attr_app
is_leaf = refl

-- a list of words has faults of one kind at most
pub one_kind_at_most : (line : List Text) → length (fault_of attr_app line) ≤ 1
one_kind_at_most line = (one_kind attr_app no_subcommands is_leaf line).few

-- where there is one fault at most, the kind that is among them is the only one
only : (k : ErrorKind) (faults : Kinds) → AtMostOne faults → IsAmong k faults → faults ≡ k ∷ []
only k [] one among = absurd among
only k (x ∷ []) one (inl e) = ap (λ (y : ErrorKind). y ∷ []) (sym e)
only k (x ∷ []) one (inr among) = absurd among
only k (x ∷ y ∷ ys) one among = absurd (omega (arith, one.few))

-- the one fault becomes the error that says so
refused : (k : ErrorKind) (line : List Text) → fault_of attr_app line ≡ k ∷ []
    → AnswersWords line (Err (error_of k))
refused kinds.DisplayHelp line e = e
refused kinds.OutOfMemory line e = tt
refused k line e = (k, (λ is. cc), e)

out_of_memory : (k : ErrorKind) (line : List Text) → k ≡ kinds.OutOfMemory
    → AnswersWords line (Err (error_of k))
out_of_memory k line e = rw e tt

-- ---- what a parse of a command with this shape says

module _ (a : App) (is : a ≡ attr_app) (line : List Text) where
  -- an Ok: the words are taken, and the rows are the matches
  pub taken : (is_simple_and_free a ≡ true → fault_of a line ≡ []) → AreTaken line
  taken fails =
      ap (λ (x : App). fault_of x line) (sym is) ∙ fails (ap is_simple_and_free is ∙ is_free)

  pub rows_are : {X : Type 0} (rows : List Row)
      → (is_simple a ≡ true → (rows ≡ matches_of a line) × X) → rows ≡ matches_of attr_app line
  rows_are rows matches =
      (matches (ap is_simple is ∙ simple)).0 ∙ ap (λ (x : App). matches_of x line) is

  -- an Err: its kind is want of memory, or the one fault
  pub error_is : (k : ErrorKind)
      → (is_simple_and_free a ≡ true → (k ≡ kinds.OutOfMemory) ⊎ IsAmong k (fault_of a line))
      → AnswersWords line (Err (error_of k))
  error_is k fails =
      elim (fails (ap is_simple_and_free is ∙ is_free)) [
        | inl e ↦ out_of_memory k line e
        | inr among ↦ refused k line
            (only k (fault_of attr_app line) (one_kind attr_app no_subcommands is_leaf line)
            (subst (λ (x : App). IsAmong k (fault_of x line)) is among))
      ]
