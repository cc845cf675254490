-- How a change of a bit vector changes a store.
use Rattle.std.specs.Prelude.{◌≡◌, ◌⊎◌, ℕ, ℤ, nat_eq, if◌then◌else◌, List, [], ◌∷◌}
use Rattle.std.specs.Ordering.{nat_cmp}
use Rattle.entry_ref.specs.Records.{Records, Among}
use Rattle.store_api.specs.Ledgers.{Ledger}
use Rattle.store_api.specs.Parts.{Part, Owns, Turns}
use Rattle.tree_read.specs.Trees.{tree_pairs, by_number, IsTree}
use Rattle.tree_read.specs.declared.node_format.TheConstants.{NODE_WORDS}
use Rattle.frozen_btree.specs.Changes.{tree}
use Rattle.image_format.specs.Postings.{vector}
use Rattle.image_format.specs.ProofsForImages.{postings_reach-same}
use Rattle.image_format.specs.declared.TheConstants.{BLOCK_WORDS}
use Rattle.bit_vector.specs.Keeps.{KeepsBlocks}
use Rattle.bit_vector.specs.Vectors.{vector_at, vector_reach, IsVector}

-- a bit vector as a part: it owns its nodes and its blocks
abbrev pub vector_part : ℕ → Part
vector_part root = record { reach = λ m. vector_reach m root; stays = λ m n same. postings_reach-same m n (vector root) same }

-- a bit vector of these documents was made, in place of another. A block whose record that one had was this block of it
pub record MakesVector {H : Type 0} (old new : Ledger H) (m n : Records) (root : ℕ) (docs : List (ℕ × ℤ)) (next : ℕ) : Type 0 where
  pub vector_is : IsVector n next
  pub docs_are : vector_at n next ≡ docs
  pub blocks : KeepsBlocks (λ r. Among r (vector_reach m root)) m n root next
  pub owns : Owns new n (vector_part next ∷ [])
  pub turns : Turns old new m n (vector_part root ∷ []) (vector_part next ∷ [])

-- a tree by number with these pairs was made, beside all that is in use
pub record MakesTree {H : Type 0} (old new : Ledger H) (m n : Records) (pairs : List (ℕ × ℕ)) (next : ℕ) : Type 0 where
  pub tree_is : IsTree nat_cmp by_number n next
  pub pairs_are : tree_pairs n next ≡ pairs
  pub owns : Owns new n (tree next ∷ [])
  pub turns : Turns old new m n [] (tree next ∷ [])

-- this many blocks, and this many nodes
abbrev pub vector_most : ℕ → ℕ → ℕ → ℕ
vector_most blocks nodes width = if nat_eq width BLOCK_WORDS then blocks else if nat_eq width NODE_WORDS then nodes else 0

-- the width of blocks, or of nodes
abbrev pub IsVectorWidth : ℕ → Type 0
IsVectorWidth width = (width ≡ BLOCK_WORDS) ⊎ (width ≡ NODE_WORDS)
