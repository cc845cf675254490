-- A map by document, as a tree whose keys are numbers.
use Rattle.std.proofs.Common.{◌≡◌, ◌≢◌, ℕ, ◌<◌, ◌^◌, List, [], ◌∷◌, None, Some, Result, Ok, Err, refl, sym, subst, arith}
use Rattle.std.specs.Prelude.{IfOk}
use Rattle.std.proofs.lemmas.Map.Lookups.{exact_unsigned}
use Rattle.std.specs.Cmp.{nat_cmp_is}
use Rattle.std.specs.declared.cmp.Ordering.{Ordering}
use Rattle.std.specs.declared.cmp.Ordering.TheVariants.{Less, Equal, Greater}
use Rattle.std.specs.List.{AllByRecursion}
use Rattle.std.specs.List.Sorted.{IsStrictlySortedBy}
use Rattle.std.specs.Ordering.{nat_cmp}
use Rattle.list_lemmas.proofs.Options.{same_Some}
use Rattle.list_lemmas.proofs.Each.{AllByRecursion-each}
use Rattle.entry_ref.specs.Records.{Records, SameAt}
use Rattle.tree_read.specs.Keys.{IsKeyedTree}
use Rattle.tree_read.specs.Pairs.{choose, lookup}
use Rattle.store_api.specs.Ledgers.{Ledger}
use Rattle.store_api.specs.Parts.{Owns, Turns}
use Rattle.store_api.specs.declared.store.StoreError.{StoreError}
use Rattle.tree_read.specs.ProofsForTrees.{tree_pairs-same, IsTree-same}
use Rattle.tree_read.specs.Trees.{tree_nodes, tree_pairs, by_number}
use Rattle.frozen_btree.specs.Changes.{tree}
use Rattle.doc_vector.specs.Documents.{IsDocumentMap, IsDocumentPair, MakesMap}

-- a tree whose keys are numbers, as the calls of trees ask for it
abbrev pub IsNumberTree : Records → ℕ → Type 0
IsNumberTree m root = IsKeyedTree nat_cmp by_number (λ n key. Unit {0}) (λ n key. []) m root

-- a number is read from nothing
pub number_keyed : (m : Records) (root : ℕ) → IsDocumentMap m root → IsNumberTree m root
number_keyed m root is = record {
  tree = is.tree_is;
  readable = AllByRecursion-each (λ (p : ℕ × ℕ). Unit {0}) (λ p. tt) (tree_pairs m root);
  apart = AllByRecursion-each (λ (p : ℕ × ℕ). Unit {0}) (λ p. tt) (tree_pairs m root);
}

-- the empty map, and a map where the records of its nodes stay
pub map_nothing : (m : Records) → IsDocumentMap m 0
unfolding IsStrictlySortedBy
map_nothing m = record { tree_is = record { node = λ some. absurd (omega arith); ascends = tt }; pairs = tt }

pub map_stays : (m n : Records) (root : ℕ) → SameAt (tree_nodes m root) m n → IsDocumentMap m root
    → IsDocumentMap n root × (tree_pairs n root ≡ tree_pairs m root)
map_stays m n root same is =
    let pairs = tree_pairs-same m n root same in (
      record {
        tree_is = IsTree-same nat_cmp by_number m n root same refl is.tree_is;
        pairs = subst (AllByRecursion IsDocumentPair) (sym pairs) is.pairs;
      },
      pairs,
    )

-- a reference that is found fits 32 bits
pub found_fits : (c : ℕ → Ordering) (ps : List (ℕ × ℕ)) → AllByRecursion IsDocumentPair ps → (found : ℕ) → lookup c ps ≡ Some found → found < 2 ^ 32
found_fits c [] all found is = absurd (grind (arith, is))
found_fits c (p ∷ ps) all found is =
    elim (c p.0) as (λ o. choose o (lookup c ps) (Some p.1) None ≡ Some found → found < 2 ^ 32) [
      | Less ↦ λ h. found_fits c ps all.1 found h
      | Equal ↦ λ h. subst (λ n. n < 2 ^ 32) (same_Some p.1 found h) all.0.reference
      | Greater ↦ λ h. absurd (grind (arith, h))
    ] is

-- what a change of the tree says, as one
pub makes_map : {H : Type 0} (old new : Ledger H) (m n : Records) (root : ℕ) (pairs : List (ℕ × ℕ)) (answer : Result ℕ StoreError)
    → AllByRecursion IsDocumentPair pairs → IfOk answer (IsNumberTree n) → IfOk answer (λ r. Owns new n (tree r ∷ []))
    → IfOk answer (λ r. tree_pairs n r ≡ pairs) → IfOk answer (λ r. Turns old new m n (tree root ∷ []) (tree r ∷ []))
    → IfOk answer (MakesMap old new m n root pairs)
makes_map old new m n root pairs (Ok next) all keyed owns are turns = record {
  map_is = record { tree_is = keyed.tree; pairs = subst (AllByRecursion IsDocumentPair) (sym are) all };
  pairs_are = are;
  owns = owns;
  turns = turns;
}
makes_map old new m n root pairs (Err e) all keyed owns are turns = tt

-- a number beside itself, and beside another
pub same_number : (doc : ℕ) → nat_cmp doc doc ≡ Equal
same_number doc = sym (nat_cmp_is doc doc Equal refl)

pub other_number : (doc other : ℕ) → other ≢ doc → nat_cmp doc other ≢ Equal
other_number doc other apart e = apart (sym (exact_unsigned doc other e))
