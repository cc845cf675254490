-- A map by document: a tree by number whose keys are documents. Each has the reference of its items, or 0 if it has
-- none.
use Rattle.std.specs.Prelude.{◌≡◌, ℕ, ◌<◌, ◌^◌, List, [], ◌∷◌}
use Rattle.std.specs.declared.cmp.Ordering.{Ordering}
use Rattle.std.specs.List.{AllByRecursion}
use Rattle.std.specs.Ordering.{nat_cmp}
use Rattle.entry_ref.specs.Records.{Records}
use Rattle.store_api.specs.Ledgers.{Ledger}
use Rattle.store_api.specs.Parts.{Owns, Turns}
use Rattle.tree_read.specs.Trees.{tree_pairs, by_number, IsTree}
use Rattle.frozen_btree.specs.Changes.{tree}
use Rattle.attr_types.specs.Lawful.{IsDocNumber}

-- compares a stored document with the sought one
abbrev pub beside_document : ℕ → ℕ → Ordering
beside_document doc stored = nat_cmp stored doc

-- a document with a reference
pub record IsDocumentPair (p : ℕ × ℕ) : Type 0 where
  pub document : IsDocNumber p.0
  pub reference : p.1 < 2 ^ 32

-- the root of a map by document
pub record IsDocumentMap (m : Records) (root : ℕ) : Type 0 where
  pub tree_is : IsTree nat_cmp by_number m root
  pub pairs : AllByRecursion IsDocumentPair (tree_pairs m root)

-- a map by document with these pairs was made, in place of another
pub record MakesMap {H : Type 0} (old new : Ledger H) (m n : Records) (root : ℕ) (pairs : List (ℕ × ℕ)) (next : ℕ) : Type 0 where
  pub map_is : IsDocumentMap n next
  pub pairs_are : tree_pairs n next ≡ pairs
  pub owns : Owns new n (tree next ∷ [])
  pub turns : Turns old new m n (tree root ∷ []) (tree next ∷ [])
