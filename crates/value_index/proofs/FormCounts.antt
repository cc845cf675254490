-- How many records a list makes that may be a bit vector: as many as any list, and a block, a record for each block and a tree besides.
use Rattle.std.proofs.Common.{◌≡◌, ℕ, zero, suc, ℤ, ◌+◌, ◌*◌, ◌/◌, ◌<◌, ◌≤◌, Bool, true, false, ◌||◌, cond, nat_eq, nat_lt, List, [], ◌∷◌, length, refl, sym, ap, subst, arith, true≢false, eqb-true}
use Rattle.std.proofs.lemmas.Bool.{le-leb, lt-ltb, ltb-true}
use Rattle.std.specs.List.{range_with_len}
use Rattle.std.specs.Map.{keys_of}
use Rattle.std.specs.Prelude.{filter}
use Rattle.list_lemmas.proofs.Tests.{too_many}
use Rattle.frozen_btree.proofs.BuildLemmas.{nodes_above-some}
use Rattle.frozen_btree.specs.Builds.{groups, nodes_above, nodes_of}
use Rattle.image_format.specs.Postings.{is_dense}
use Rattle.image_format.specs.Words.{class_of}
use Rattle.image_format.specs.declared.TheConstants.{BLOCK_DOCUMENTS, LEAST_DENSE}
use Rattle.bit_vector.specs.Changes.{vector_most}
use Rattle.bit_vector.specs.Vectors.{count_blocks, is_block_of}
use Rattle.bit_vector.specs.declared.TheConstants.{MOST_BLOCKS}
use Rattle.posting_store.specs.Changes.{list_change_most, list_most}
use Rattle.value_index.specs.Counts.{form_records}
use Rattle.value_index.proofs.FormLemmas.{dense_long, dense_wanted}

abbrev Docs : Type 0
Docs = List (ℕ × ℤ)

-- ---- documents have at most as many blocks
filter_none : (xs : List ℕ) → length (filter (λ x. false) xs) ≤ 0
filter_none [] = omega arith
filter_none (x ∷ xs) = filter_none xs

filter_or : (p q : ℕ → Bool) (xs : List ℕ) → length (filter (λ x. p x || q x) xs) ≤ length (filter p xs) + length (filter q xs)
filter_or p q [] = omega arith
filter_or p q (x ∷ xs) = told (filter_or p q xs) (p x) (q x)
  where
    told : length (filter (λ y. p y || q y) xs) ≤ length (filter p xs) + length (filter q xs) → (s t : Bool)
        → length (cond (s || t) (x ∷ filter (λ y. p y || q y) xs) (filter (λ y. p y || q y) xs))
        ≤ length (cond s (x ∷ filter p xs) (filter p xs)) + length (cond t (x ∷ filter q xs) (filter q xs))
    told rest true true = omega (arith, rest)
    told rest true false = omega (arith, rest)
    told rest false true = omega (arith, rest)
    told rest false false = omega (arith, rest)

past_block : (k a n : ℕ) → k < a → length (filter (λ x. nat_eq k x) (range_with_len a n)) ≤ 0
past_block k a zero below = omega arith
past_block k a (suc n) below = told (past_block k (a + 1) n (omega (arith, below))) (nat_eq k a) refl
  where
    told : length (filter (λ x. nat_eq k x) (range_with_len (a + 1) n)) ≤ 0 → (t : Bool) → nat_eq k a ≡ t → length
        (cond t (a ∷ filter (λ x. nat_eq k x) (range_with_len (a + 1) n)) (filter (λ x. nat_eq k x) (range_with_len (a + 1) n))) ≤ 0
    told rest true is = absurd (let same = eqb-true k a is in omega (arith, same, below))
    told rest false is = rest

one_block : (k a n : ℕ) → length (filter (λ x. nat_eq k x) (range_with_len a n)) ≤ 1
one_block k a zero = omega arith
one_block k a (suc n) = told (one_block k (a + 1) n) (nat_eq k a) refl
  where
    told : length (filter (λ x. nat_eq k x) (range_with_len (a + 1) n)) ≤ 1 → (t : Bool) → nat_eq k a ≡ t → length
        (cond t (a ∷ filter (λ x. nat_eq k x) (range_with_len (a + 1) n)) (filter (λ x. nat_eq k x) (range_with_len (a + 1) n))) ≤ 1
    told rest true is = let none = past_block k (a + 1) n (let same = eqb-true k a is in omega (arith, same)) in omega (arith, none)
    told rest false is = rest

module _ (xs : List ℕ) (once : (k : ℕ) → length (filter (λ x. nat_eq k x) xs) ≤ 1) where
  blocks_in : (docs : List ℕ) → length (filter (is_block_of docs) xs) ≤ length docs
  blocks_in [] = filter_none xs
  blocks_in (doc ∷ docs) =
      let both = filter_or (λ k. nat_eq (doc / BLOCK_DOCUMENTS) k) (is_block_of docs) xs in
      let first = once (doc / BLOCK_DOCUMENTS) in
      let rest = blocks_in docs in
      omega (arith, both, first, rest)

pub blocks_few : (docs : List ℕ) → count_blocks docs ≤ length docs
blocks_few docs = blocks_in (range_with_len 0 MOST_BLOCKS) (λ k. one_block k 0 MOST_BLOCKS) docs

keys_length : (docs : Docs) → length (keys_of docs) ≡ length docs
keys_length [] = refl
keys_length (e ∷ es) = ap suc (keys_length es)

-- ---- a tree of more pairs has no fewer nodes
nodes_rise : (levels m n : ℕ) → m ≤ n → nodes_above levels m ≤ nodes_above levels n
nodes_rise zero m n less = omega arith
nodes_rise (suc levels) m n less = told (λ fewer. nodes_rise levels (groups m) (groups n) fewer) (nat_lt 16 m) refl
  where
    told : (groups m ≤ groups n → nodes_above levels (groups m) ≤ nodes_above levels (groups n)) → (t : Bool) → nat_lt 16 m ≡ t → cond t (groups m + nodes_above levels (groups m)) 1 ≤ nodes_above (suc levels) n
    told rise true is =
        let many = ltb-true 16 m is in
        let fewer : groups m ≤ groups n = omega (arith, less) in
        let rest = rise fewer in
        subst (λ t. groups m + nodes_above levels (groups m) ≤ cond t (groups n + nodes_above levels (groups n)) 1) (sym (lt-ltb 16 n (omega (arith, many, less)))) (omega (arith, fewer, rest))
    told rise false is = nodes_above-some (suc levels) n

-- ---- by whether the width is that of blocks, or of nodes
kept_vector : (s t : Bool) (l b n : ℕ) → cond s 1 (cond t l 0) ≤ cond t l 0 + cond s (1 + b) (cond t n 0)
kept_vector true true l b n = omega arith
kept_vector true false l b n = omega arith
kept_vector false true l b n = omega arith
kept_vector false false l b n = omega arith

new_vector : (s t : Bool) (l b k n : ℕ) → k ≤ n → cond s b (cond t (l + k) 0) ≤ cond t l 0 + cond s (1 + b) (cond t n 0)
new_vector true true l b k n few = omega arith
new_vector true false l b k n few = omega arith
new_vector false true l b k n few = omega (arith, few)
new_vector false false l b k n few = omega arith

new_tree : (s t : Bool) (l b n : ℕ) → cond s 1 (cond t (l + n) 0) ≤ cond t l 0 + cond s (1 + b) (cond t n 0)
new_tree true true l b n = omega arith
new_tree true false l b n = omega arith
new_tree false true l b n = omega arith
new_tree false false l b n = omega arith

-- ---- what is made besides, where the list is long enough
module _ (documents levels : ℕ) (had docs : Docs) (w : ℕ) where
  abbrev n : ℕ
  n = length docs

  abbrev blocks : ℕ
  blocks = count_blocks (keys_of docs)

  abbrev made : ℕ
  made = vector_most (1 + blocks) (nodes_of n) w

  besides_is : (dense : Bool) → dense ≡ true → LEAST_DENSE ≤ 1 + length had → form_records dense had docs w ≡ made
  besides_is false wanted long = absurd (true≢false (sym wanted))
  besides_is true wanted long = ap (λ t. cond t made 0) (le-leb LEAST_DENSE (1 + length had) long)

  abbrev nodes : ℕ
  nodes = cond (nat_eq w 34) (2 * levels + 1) 0

  long_list : 8 < n → list_most levels n w ≡ nodes
  long_list many = ap (λ t. cond t (cond (nat_eq w (class_of (1 + n))) 1 0) nodes) (too_many n 8 many)

  blocks_nodes : nodes_of blocks ≤ nodes_of n
  blocks_nodes =
      let few = blocks_few (keys_of docs) in
      let same = keys_length docs in
      nodes_rise 7 blocks n (omega (arith, few, same))

  module _ (dense : Bool) (few : n ≤ 1 + length had) (more : length had ≤ 1 + n) where
    pub change_forms : (was is : Bool) → is ≡ is_dense dense n documents → (was ≡ true → (dense ≡ true) × (LEAST_DENSE ≤ length had))
        → list_change_most was is levels docs w ≤ list_most levels n w + form_records dense had docs w
    change_forms false false same vector = omega arith
    change_forms true true same vector =
        let was = vector refl in
        let long = was.1 in
        let list : list_most levels n w ≡ nodes = long_list (omega (arith, long, more)) in
        let form : form_records dense had docs w ≡ made = besides_is dense was.0 (omega (arith, long)) in
        let all : list_change_most true true levels docs w ≤ nodes + made = kept_vector (nat_eq w 64) (nat_eq w 34) (2 * levels + 1) blocks (nodes_of n) in
        omega (arith, list, form, all)
    change_forms false true same vector =
        let long = dense_long dense n documents (sym same) in
        let list : list_most levels n w ≡ nodes = long_list (omega (arith, long)) in
        let form : form_records dense had docs w ≡ made = besides_is dense (dense_wanted dense n documents (sym same)) (omega (arith, long, few)) in
        let all : list_change_most false true levels docs w ≤ nodes + made = new_vector (nat_eq w 64) (nat_eq w 34) (2 * levels + 1) blocks (nodes_of blocks) (nodes_of n) blocks_nodes in
        omega (arith, list, form, all)
    change_forms true false same vector =
        let was = vector refl in
        let long = was.1 in
        let many : 8 < n = omega (arith, long, more) in
        let list : list_most levels n w ≡ nodes = long_list many in
        let form : form_records dense had docs w ≡ made = besides_is dense was.0 (omega (arith, long)) in
        let tree : list_change_most true false levels docs w ≡ vector_most 1 (2 * levels + 1 + nodes_of n) w =
        ap (λ t. cond t (list_most levels n w) (vector_most 1 (2 * levels + 1 + nodes_of n) w)) (too_many n 8 many) in
        let all : vector_most 1 (2 * levels + 1 + nodes_of n) w ≤ nodes + made = new_tree (nat_eq w 64) (nat_eq w 34) (2 * levels + 1) blocks (nodes_of n) in
        omega (arith, list, form, tree, all)

-- ---- nothing is made besides where bit vectors are not wanted, or the list is short of one by more than a document
pub no_forms : (dense : Bool) (had docs : Docs) (w : ℕ) → (dense ≡ true → 1 + length had < LEAST_DENSE) → form_records dense had docs w ≡ 0
no_forms false had docs w short = refl
no_forms true had docs w short = ap (λ t. cond t (vector_most (1 + count_blocks (keys_of docs)) (nodes_of (length docs)) w) 0) (too_many LEAST_DENSE (1 + length had) (short refl))
