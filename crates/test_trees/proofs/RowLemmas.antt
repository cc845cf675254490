-- Numbers that ascend, as keys too, and a tree that is owned still where a buffer is sealed.
use Rattle.std.proofs.Common.{◌≡◌, ℕ, ◌+◌, ◌<◌, List, [], ◌∷◌, ◌++◌, map, true, cond, refl, sym, ap, ◌∙◌, arith}
use Rattle.std.proofs.lemmas.Bool.{eq-eqb}
use Rattle.std.specs.Cmp.{nat_cmp_is}
use Rattle.std.specs.List.{zip, AllByRecursion}
use Rattle.std.specs.List.Sorted.{IsStrictlySortedBy}
use Rattle.std.specs.Ordering.{nat_cmp}
use Rattle.std.specs.declared.cmp.Ordering.TheVariants.{Less}
use Rattle.entry_ref.specs.Records.{Records}
use Rattle.store_api.specs.Calls.{Seals}
use Rattle.store_api.specs.Ledgers.{Ledger}
use Rattle.store_api.specs.Parts.{Owns, times, uses}
use Rattle.number_tree.proofs.HoldLemmas.{begun_owns, begun_tree}
use Rattle.number_tree.specs.Maps.{HoldsTree}
use Rattle.tree_read.specs.Trees.{by_number, tree_nodes, IsTree}
use Rattle.frozen_btree.specs.Changes.{tree}

-- numbers that ascend, all of them below one
pub record Ascending (numbers : List ℕ) (end : ℕ) : Type 0 where
  pub sorted : IsStrictlySortedBy nat_cmp numbers
  pub below : AllByRecursion (λ y. y < end) numbers

pub ascending-none : Ascending [] 0
unfolding IsStrictlySortedBy
ascending-none = record { sorted = tt; below = tt }

less : (a b : ℕ) → a < b → nat_cmp a b ≡ Less
less a b h = sym (nat_cmp_is a b Less h)

all_before : (x end : ℕ) (ys : List ℕ) → x < end → AllByRecursion (λ y. nat_cmp x y ≡ Less) ys
    → AllByRecursion (λ y. nat_cmp x y ≡ Less) (ys ++ end ∷ [])
all_before x end [] h all = (less x end h, tt)
all_before x end (y ∷ ys) h all = (all.0, all_before x end ys h all.1)

sorted_more : (xs : List ℕ) (end : ℕ) → IsStrictlySortedBy nat_cmp xs → AllByRecursion (λ y. y < end) xs
    → IsStrictlySortedBy nat_cmp (xs ++ end ∷ [])
unfolding IsStrictlySortedBy
sorted_more [] end up below = (tt, tt)
sorted_more (x ∷ xs) end up below = (all_before x end xs below.0 up.0, sorted_more xs end up.1 below.1)

below_more : (xs : List ℕ) (end : ℕ) → AllByRecursion (λ y. y < end) xs → AllByRecursion (λ y. y < end + 1) (xs ++ end ∷ [])
below_more [] end below = (omega arith, tt)
below_more (x ∷ xs) end below = (let h = below.0 in omega arith, below_more xs end below.1)

pub ascending-more : (xs : List ℕ) (end : ℕ) → Ascending xs end → Ascending (xs ++ end ∷ []) (end + 1)
ascending-more xs end up = record { sorted = sorted_more xs end up.sorted up.below; below = below_more xs end up.below }

-- the keys of pairs of equal parts
pub keys_of_pairs : (m : Records) (ks : List ℕ) → map (λ p. by_number m p.0) (zip ks ks) ≡ ks
keys_of_pairs m [] = refl
keys_of_pairs m (k ∷ ks) = ap (λ xs. k ∷ xs) (keys_of_pairs m ks)

-- a tree that a unit begins with
module _ {H : Type 0} (old begun : Ledger H) (m n : Records) (root : ℕ) (holds : HoldsTree old m root)
    (begins : begun ≡ record old { unit = true }) (same : n ≡ m) where
  pub owns_begun : Owns begun n (tree root ∷ [])
  owns_begun = begun_owns old begun begun begun m n n root holds begins same

  pub tree_begun : IsTree nat_cmp by_number n root
  tree_begun = begun_tree old begun begun begun m n n root holds begins same

-- a buffer is sealed
module _ {H : Type 0} (old new : Ledger H) (m n : Records) (b root : ℕ) (seals : Seals old new b) (same : n ≡ m) where
  pub sealed-unit : old.unit ≡ true → new.unit ≡ true
  sealed-unit unit = ap (λ (l : Ledger H). l.unit) seals.same ∙ unit

  pub is-sealed : new.sealed b ≡ true
  is-sealed = seals.sealed b ∙ ap (λ t. cond t true (old.sealed b)) (eq-eqb b b refl)

  pub sealed-owns : Owns old m (tree root ∷ []) → Owns new n (tree root ∷ [])
  sealed-owns owns = record {
    each = λ r.
        let all = owns.each r in
        let used : uses new r ≡ uses old r = ap (λ (l : Ledger H). uses l r) seals.same in
        let nodes = ap (λ (f : Records). times r (tree_nodes f root)) same in
        omega arith;
  }
