-- A block of a bit vector that was moved out of a buffer, with the nodes on the way to it.
use Rattle.std.specs.Prelude.{◌≡◌, ◌≢◌, ℕ, true, false, [], ◌∷◌, Some, map}
use Rattle.entry_ref.specs.References.{buffer_of}
use Rattle.entry_ref.specs.Records.{Records}
use Rattle.store_api.specs.Ledgers.{Ledger}
use Rattle.store_api.specs.Parts.{Owns, Turns, entry}
use Rattle.store_api.specs.Statuses.{in_use}
use Rattle.tree_read.specs.Pairs.{put}
use Rattle.tree_read.specs.Trees.{tree_pairs}
use Rattle.frozen_btree.specs.Paths.{path_nodes, NoneIn}
use Rattle.image_format.specs.Postings.{vector_documents}
use Rattle.bit_vector.specs.Blocks.{beside_block}
use Rattle.bit_vector.specs.Changes.{vector_part}
use Rattle.bit_vector.specs.Keeps.{block_at, KeepsBlocks}
use Rattle.bit_vector.specs.Vectors.{IsVector}

-- neither the record of a block nor a node on the way to it lies in the buffer
pub record IsBlockApart (bits buffer k : ℕ) (m : Records) (root : ℕ) : Type 0 where
  pub way : NoneIn bits buffer (path_nodes m (beside_block k) root)
  pub block : (r : ℕ) → block_at m root k ≡ Some r → buffer_of bits r ≢ buffer

-- a bit vector of the same documents, with the same blocks, was made in place of another. Block k, if there is one, no
-- longer lies in the buffer
pub record MovesBlock {H : Type 0} (bits buffer k : ℕ) (old new : Ledger H) (m n : Records) (root next : ℕ) : Type 0 where
  pub vector_is : IsVector n next
  pub documents : vector_documents n next ≡ vector_documents m root
  pub numbers : map (λ p. p.0) (tree_pairs n next) ≡ map (λ p. p.0) (tree_pairs m root)
  pub apart : IsBlockApart bits buffer k n next
  pub blocks : KeepsBlocks (λ r. in_use (old.status r) ≡ true) m n root next
  pub owns : Owns new n (vector_part next ∷ [])
  pub turns : Turns old new m n (vector_part root ∷ []) (vector_part next ∷ [])

-- at most this many nodes are made: a bit vector has at most 3 levels of them, since it has at most 256 blocks; for a
-- change two of each level and a root, and then one of each level
abbrev pub moved_nodes : ℕ
moved_nodes = 10

-- ---- its steps
-- the record of a block was copied
pub record CopiesBlock {H : Type 0} (bits : ℕ) (old new : Ledger H) (m n : Records) (block copy : ℕ) : Type 0 where
  pub same : n copy ≡ m block
  pub unsealed : new.sealed (buffer_of bits copy) ≡ false
  pub turns : Turns old new m n [] (entry copy ∷ [])

-- a record with the words of block k, which the bit vector had, is the block now
pub record PutsBlock {H : Type 0} (old new : Ledger H) (m n : Records) (root k copy next : ℕ) : Type 0 where
  pub vector_is : IsVector n next
  pub documents : vector_documents n next ≡ vector_documents m root
  pub pairs : tree_pairs n next ≡ put (beside_block k) (k, copy) (tree_pairs m root)
  pub owns : Owns new n (vector_part next ∷ [])
  pub turns : Turns old new m n (vector_part root ∷ entry copy ∷ []) (vector_part next ∷ [])

-- no node on the way to block k lies in the buffer now; the blocks are unchanged
pub record MovesWay {H : Type 0} (bits buffer k : ℕ) (old new : Ledger H) (m n : Records) (root next : ℕ) : Type 0 where
  pub vector_is : IsVector n next
  pub documents : vector_documents n next ≡ vector_documents m root
  pub pairs : tree_pairs n next ≡ tree_pairs m root
  pub way : NoneIn bits buffer (path_nodes n (beside_block k) next)
  pub owns : Owns new n (vector_part next ∷ [])
  pub turns : Turns old new m n (vector_part root ∷ []) (vector_part next ∷ [])
