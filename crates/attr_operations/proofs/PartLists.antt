-- Parts side by side, of which one is turned into another.
use Rattle.std.proofs.Common.{◌≡◌, ◌≢◌, ℕ, zero, suc, ◌+◌, List, [], ◌∷◌, set, Some, refl, ap, subst, arith}
use Rattle.std.specs.Prelude.{slice_get}
use Rattle.list_lemmas.proofs.Options.{same_Some}
use Rattle.entry_ref.specs.Records.{Records, SameAt}
use Rattle.store_api.specs.Ledgers.{Ledger}
use Rattle.store_api.specs.Parts.{times, count_in, AllStay, Owns, Turns, After}
use Rattle.store_api.proofs.PartLemmas.{after}
use Rattle.image_format.specs.Tables.{AttributeTrees}
use Rattle.attr_operations.specs.Fields.{part_of, parts_of}
use Rattle.attr_operations.proofs.TreeLists.{rest_at}

pub count_at : (trees : List AttributeTrees) (i : ℕ) (a : AttributeTrees) (k : Records) (r : ℕ) → slice_get trees i ≡ Some a
    → count_in r k (parts_of trees) ≡ times r ((part_of a).reach k) + count_in r k (parts_of (rest_at trees i))
count_at [] i a k r at = cc
count_at (first ∷ trees) zero a k r at = ap (λ b. times r ((part_of b).reach k) + count_in r k (parts_of trees)) (same_Some first a at)
count_at (first ∷ trees) (suc i) a k r at = let rest = count_at trees i a k r at in omega arith

pub count_set : (trees : List AttributeTrees) (i : ℕ) (a b : AttributeTrees) (k : Records) (r : ℕ) → slice_get trees i ≡ Some a
    → count_in r k (parts_of (set trees i b)) ≡ times r ((part_of b).reach k) + count_in r k (parts_of (rest_at trees i))
count_set [] i a b k r at = cc
count_set (first ∷ trees) zero a b k r at = refl
count_set (first ∷ trees) (suc i) a b k r at = let rest = count_set trees i a b k r at in omega arith

pub stay_at : (trees : List AttributeTrees) (i j : ℕ) (b : AttributeTrees) (m n : Records) → AllStay (parts_of (rest_at trees i)) m n
    → slice_get trees j ≡ Some b → j ≢ i → SameAt ((part_of b).reach m) m n
stay_at [] i j b m n stay at apart = cc
stay_at (first ∷ trees) zero zero b m n stay at apart = absurd (apart refl)
stay_at (first ∷ trees) zero (suc j) b m n stay at apart = in_all trees j b stay at
  where
    in_all : (list : List AttributeTrees) (j : ℕ) (b : AttributeTrees) → AllStay (parts_of list) m n → slice_get list j ≡ Some b → SameAt ((part_of b).reach m) m n
    in_all [] j b stay at = cc
    in_all (x ∷ list) zero b stay at = subst (λ c. SameAt ((part_of c).reach m) m n) (same_Some x b at) stay.0
    in_all (x ∷ list) (suc j) b stay at = in_all list j b stay.1 at
stay_at (first ∷ trees) (suc i) zero b m n stay at apart = subst (λ c. SameAt ((part_of c).reach m) m n) (same_Some first b at) stay.0
stay_at (first ∷ trees) (suc i) (suc j) b m n stay at apart = stay_at trees i j b m n stay.1 at (λ e. apart (ap suc e))

-- one part of these is turned
pub turn_at : {H : Type 0} (old new : Ledger H) (m n : Records) (trees : List AttributeTrees) (i : ℕ) (a b : AttributeTrees)
    → Owns old m (parts_of trees) → slice_get trees i ≡ Some a → Turns old new m n (part_of a ∷ []) (part_of b ∷ [])
    → After old new m n (parts_of trees) (parts_of (set trees i b)) (parts_of (rest_at trees i))
turn_at old new m n trees i a b owns at turns =
    after old new m n (part_of a ∷ []) (part_of b ∷ []) (parts_of (rest_at trees i)) (parts_of trees) (parts_of (set trees i b)) owns turns
    (λ k r. let e = count_at trees i a k r at in omega arith)
    (λ k r. let e = count_set trees i a b k r at in omega arith)
