-- The dictionary: each value with the list of documents that have it.
use Rattle.std.specs.Prelude.{◌≡◌, Bool, ◌&&◌, ℕ, ℤ, pos, ◌+◌, ◌-◌, ◌*◌, ◌/◌, ◌%◌, ◌^◌, ◌<◌, nat_eq, nat_le, if◌then◌else◌}
use Rattle.std.specs.Prelude.{List, [], ◌∷◌, ◌++◌, length, map, filter}
use Rattle.std.specs.List.{flat_map, range_with_len, AllByRecursion}
use Rattle.std.specs.Ordering.{nat_cmp}
use Rattle.entry_ref.specs.Records.{Records}
use Rattle.tree_read.specs.Trees.{tree_pairs, tree_nodes, by_number, IsTree}
use Rattle.image_format.specs.declared.TheConstants.{MOST_SHORT, FIRST_VECTOR, BLOCK_WORDS, BLOCK_DOCUMENTS, LEAST_DENSE, MOST_SPREAD}
use Rattle.image_format.specs.Values.{stored_value, IsValueRecord}
use Rattle.image_format.specs.Words.{stored_items, unpacked, weight_in_bits, IsStoredList}
use Rattle.attr_types.specs.declared.kind.ValueType.{ValueType}
use Rattle.attr_types.specs.declared.value.Value.{Value}
use Rattle.index_model.specs.Sets.{in_words}

-- the form of a posting list: the record of a short one, or the root of a tree or of a bit vector
pub data ListForm : Type 0 where
  short : ℕ → ListForm
  tree : ℕ → ListForm
  vector : ℕ → ListForm

-- the value in a dictionary determines the form: from FIRST_VECTOR on it is the root of a bit vector, counted from
-- there; below, its lowest bit decides
abbrev pub list_form : ℕ → ListForm
list_form word =
    if nat_le FIRST_VECTOR word then vector (word - FIRST_VECTOR)
    else if nat_eq (word % 2) 0 then short (word / 2) else tree (word / 2)

-- the documents of block `k`: those whose bit is 1, the lowest bit of the first word first
unfoldable pub block_documents : ℕ → List ℕ → List ℕ
block_documents k ws = map (λ i. BLOCK_DOCUMENTS * k + i) (filter (in_words ws) (range_with_len 0 BLOCK_DOCUMENTS))

-- the documents of a bit vector: a tree of its blocks, by block number
abbrev pub vector_documents : Records → ℕ → List ℕ
vector_documents m root = flat_map (λ p. block_documents p.0 (m p.1)) (tree_pairs m root)

-- the documents of a list, each with its weight
abbrev pub postings_at : Records → ListForm → List (ℕ × ℤ)
postings_at m (short ref) = map unpacked (stored_items (m ref))
postings_at m (tree root) = map (λ p. (p.0, weight_in_bits p.1)) (tree_pairs m root)
postings_at m (vector root) = map (λ doc. (doc, pos 1)) (vector_documents m root)

-- a block, which has at least one bit set, and whose document numbers fit in 32 bits
pub record IsBlock (k : ℕ) (ws : List ℕ) : Type 0 where
  pub few : k < 2 ^ 20
  pub size : length ws ≡ BLOCK_WORDS
  pub some : 0 < length (block_documents k ws)

-- a short list has at most MOST_SHORT documents, a tree or a bit vector has more
abbrev pub IsPostingList : Records → ListForm → Type 0
IsPostingList m (short ref) = IsStoredList MOST_SHORT (m ref)
IsPostingList m (tree root) = IsTree nat_cmp by_number m root × (MOST_SHORT < length (tree_pairs m root))
    × AllByRecursion (λ p. p.1 < 2 ^ 32) (tree_pairs m root)
IsPostingList m (vector root) = IsTree nat_cmp by_number m root × (MOST_SHORT < length (vector_documents m root))
    × AllByRecursion (λ p. IsBlock p.0 (m p.1)) (tree_pairs m root)

-- what a list reaches
abbrev pub postings_reach : Records → ListForm → List ℕ
postings_reach m (short ref) = ref ∷ []
postings_reach m (tree root) = tree_nodes m root
postings_reach m (vector root) = tree_nodes m root ++ map (λ p. p.1) (tree_pairs m root)

-- whether a list of `n` of `m` documents, as a change leaves it, is to be a bit vector: bit vectors are wanted, and the
-- list is long and has at least one document in MOST_SPREAD
abbrev pub is_dense : Bool → ℕ → ℕ → Bool
is_dense dense n m = dense && nat_le LEAST_DENSE n && nat_le m (MOST_SPREAD * n)

-- the values of a dictionary, each with its list
abbrev pub index_of : ValueType → Records → ℕ → List (Value × List (ℕ × ℤ))
index_of type m root = map (λ p. (stored_value type m p.0, postings_at m (list_form p.1))) (tree_pairs m root)

-- the records of a pair of the dictionary are well formed
abbrev pub IsDictionaryEntry : ValueType → Records → ℕ × ℕ → Type 0
IsDictionaryEntry type m p = IsValueRecord type (m p.0) × IsPostingList m (list_form p.1)

-- what the dictionary reaches besides its nodes
abbrev pub dictionary_reach : Records → ℕ → List ℕ
dictionary_reach m root = flat_map (λ p. p.0 ∷ postings_reach m (list_form p.1)) (tree_pairs m root)
