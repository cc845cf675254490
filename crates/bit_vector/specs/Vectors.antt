-- A set of documents in a store as a bit vector: a tree of blocks by number. Root 0 is the empty set.
use Rattle.std.specs.Prelude.{◌/◌, ℕ, ℤ, Bool, nat_eq, List, length, filter}
use Rattle.std.specs.List.{flat_map, list_any, range_with_len, AllByRecursion}
use Rattle.std.specs.Ordering.{nat_cmp}
use Rattle.entry_ref.specs.Records.{Records}
use Rattle.tree_read.specs.Trees.{tree_pairs, by_number, IsTree}
use Rattle.attr_types.specs.Lawful.{IsDocNumber}
use Rattle.image_format.specs.Postings.{vector, block_documents, vector_documents, postings_at, postings_reach, IsBlock}
use Rattle.image_format.specs.declared.TheConstants.{BLOCK_DOCUMENTS}
use Rattle.bit_vector.specs.declared.TheConstants.{MOST_BLOCKS}

-- the documents, each with weight 1
abbrev pub vector_at : Records → ℕ → List (ℕ × ℤ)
vector_at m root = postings_at m (vector root)

-- the references of its nodes and blocks
abbrev pub vector_reach : Records → ℕ → List ℕ
vector_reach m root = postings_reach m (vector root)

-- the documents of blocks
abbrev pub blocks_documents : Records → List (ℕ × ℕ) → List ℕ
blocks_documents m blocks = flat_map (λ p. block_documents p.0 (m p.1)) blocks

-- each block has a document, and each document a valid number
pub record IsVector (m : Records) (root : ℕ) : Type 0 where
  pub tree_is : IsTree nat_cmp by_number m root
  pub blocks : AllByRecursion (λ p. IsBlock p.0 (m p.1)) (tree_pairs m root)
  pub numbers : AllByRecursion IsDocNumber (vector_documents m root)

-- a block has a bit for one of these documents
abbrev pub is_block_of : List ℕ → ℕ → Bool
is_block_of docs k = list_any (λ doc. nat_eq (doc / BLOCK_DOCUMENTS) k) docs

-- how many blocks documents need
abbrev pub count_blocks : List ℕ → ℕ
count_blocks docs = length (filter (is_block_of docs) (range_with_len 0 MOST_BLOCKS))
