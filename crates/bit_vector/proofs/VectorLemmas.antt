-- The documents of a bit vector are those of its blocks' bits, and one block determines those in it.
use Rattle.std.proofs.Common.{◌≡◌, ◌≢◌, ℕ, zero, suc, ◌+◌, ◌*◌, ◌/◌, ◌%◌, ◌<◌, ◌≤◌, Bool, true, false, ◌||◌, ◌&&◌, cond, List, [], ◌∷◌, ◌++◌, map, length, Option, None, Some, nat_eq, refl, sym, ap, ap₂, subst, ◌∙◌, arith}
use Rattle.std.specs.Cmp.{ranks}
use Rattle.std.specs.declared.cmp.Ordering.{Ordering}
use Rattle.std.specs.declared.cmp.Ordering.TheVariants.{Less, Equal, Greater}
use Rattle.std.specs.List.{AllByRecursion}
use Rattle.std.specs.List.Sorted.{IsStrictlySortedBy}
use Rattle.std.specs.Map.{keys_of}
use Rattle.std.specs.Ordering.{nat_cmp, MatchOrdering}
use Rattle.std.proofs.lemmas.Bool.{eqb-true, eqb-false, eq-eqb, ne_eqb}
use Rattle.std.proofs.lemmas.Cmp.{nat_cmp_total}
use Rattle.list_lemmas.proofs.Each.{AllByRecursion-append, AllByRecursion-weaker}
use Rattle.entry_ref.specs.Records.{Records, SameAt, AllThere}
use Rattle.tree_read.specs.Pairs.{choose, lookup, put, take_out}
use Rattle.tree_read.specs.ProofsForTrees.{SameAt-left, SameAt-right, tree_pairs-same, IsTree-same, there-both, tree_there}
use Rattle.tree_read.specs.Trees.{tree_nodes, tree_pairs, by_number, root_least, root_level}
use Rattle.tree_read.proofs.ChildLemmas.{pairs-some}
use Rattle.tree_read.proofs.PairLemmas.{lookup-put}
use Rattle.doc_vector.proofs.DocumentLemmas.{same_number, other_number}
use Rattle.doc_vector.proofs.MapLemmas.{put_others, take_out_others, take_out_gone}
use Rattle.attr_types.specs.Lawful.{IsDocNumber}
use Rattle.image_format.proofs.BlockLemmas.{block_has_bits, block_ascends}
use Rattle.image_format.specs.Postings.{vector, block_documents, vector_documents, IsBlock}
use Rattle.image_format.specs.ProofsForImages.{postings_at-same}
use Rattle.index_model.proofs.BitLemmas.{by_cases, no_bits}
use Rattle.index_model.specs.Sets.{has, in_words, IsAscending}
use Rattle.bit_vector.specs.Blocks.{beside_block}
use Rattle.bit_vector.specs.Vectors.{blocks_documents, vector_at, vector_reach, IsVector}
use Rattle.bit_vector.proofs.DocumentLemmas.{ones-keys, ones-length, or_false, sorted, all_has, has_all, has_append, ascends_append}

and_left : (a b : Bool) → (a && b) ≡ true → a ≡ true
and_left true b is = refl
and_left false b is = is

and_right : (a b : Bool) → (a && b) ≡ true → b ≡ true
and_right true b is = is
and_right false b is = absurd (grind (arith, is))

-- the documents of a block are in it
module _ (k : ℕ) (ws : List ℕ) where
  pub own_block : AllByRecursion (λ d. d / 4096 ≡ k) (block_documents k ws)
  own_block = has_all (λ d. d / 4096 ≡ k) (block_documents k ws) (λ d there.
      eqb-true (d / 4096) k (and_left (nat_eq (d / 4096) k) (in_words ws (d % 4096)) (sym (block_has_bits k d ws) ∙ there)))

  pub in_block : (d : ℕ) → d / 4096 ≡ k → has (block_documents k ws) d ≡ in_words ws (d % 4096)
  in_block d at = block_has_bits k d ws ∙ ap (λ b. b && in_words ws (d % 4096)) (eq-eqb (d / 4096) k at)

  pub out_of_block : (d : ℕ) → (d / 4096 ≡ k → ⊥) → has (block_documents k ws) d ≡ false
  out_of_block d out = block_has_bits k d ws ∙ ap (λ b. b && in_words ws (d % 4096)) (ne_eqb (d / 4096) k out)

pub less_is : (a b : ℕ) → nat_cmp a b ≡ Less → a < b
less_is a b less = told (nat_cmp a b) less (ranks a b)
  where
    told : (o : Ordering) → o ≡ Less → MatchOrdering o (a < b) (a ≡ b) (b < a) → a < b
    told Less e rank = rank
    told Equal e rank = absurd (grind (arith, e))
    told Greater e rank = absurd (grind (arith, e))

-- the documents of blocks ascend
module _ (m : Records) where
  pub later : (k : ℕ) (ps : List (ℕ × ℕ)) → AllByRecursion (λ x. nat_cmp k x ≡ Less) (map (λ p. p.0) ps)
      → AllByRecursion (λ d. k < d / 4096) (blocks_documents m ps)
  later k [] all = tt
  later k (p ∷ ps) all =
      let up = less_is k p.0 all.0 in
      AllByRecursion-append (λ d. k < d / 4096) (block_documents p.0 (m p.1)) (blocks_documents m ps)
      (AllByRecursion-weaker (λ d. d / 4096 ≡ p.0) (λ d. k < d / 4096) (λ d at. omega (arith, at, up)) (block_documents p.0 (m p.1)) (own_block p.0 (m p.1)))
      (later k ps all.1)

  pub blocks_ascend : (ps : List (ℕ × ℕ)) → IsStrictlySortedBy nat_cmp (map (λ p. p.0) ps) → IsAscending (blocks_documents m ps)
  unfolding IsStrictlySortedBy
  blocks_ascend [] up = tt
  blocks_ascend (p ∷ ps) up =
      ascends_append (block_documents p.0 (m p.1)) (blocks_documents m ps) (block_ascends p.0 (m p.1)) (blocks_ascend ps up.1)
      (AllByRecursion-weaker (λ d. d / 4096 ≡ p.0) (λ d. AllByRecursion (λ y. d < y) (blocks_documents m ps))
      (λ d at. AllByRecursion-weaker (λ y. p.0 < y / 4096) (λ y. d < y) (λ y up. omega (arith, at, up)) (blocks_documents m ps) (later p.0 ps up.0))
      (block_documents p.0 (m p.1)) (own_block p.0 (m p.1)))

-- a document is that of its block's bit
module _ (m : Records) (doc : ℕ) where
  abbrev pub bit_in : Option ℕ → Bool
  bit_in None = false
  bit_in (Some ref) = in_words (m ref) (doc % 4096)

  abbrev beside : ℕ → Ordering
  beside = beside_block (doc / 4096)

  apart_less : (k : ℕ) → nat_cmp k (doc / 4096) ≡ Less → doc / 4096 ≡ k → ⊥
  apart_less k is same = let low = less_is k (doc / 4096) is in omega (arith, low, same)

  apart_more : (k : ℕ) → nat_cmp k (doc / 4096) ≡ Greater → doc / 4096 ≡ k → ⊥
  apart_more k is same = other_number (doc / 4096) k (λ e. told (nat_cmp k (doc / 4096)) is (ranks k (doc / 4096)) e) (ap (nat_cmp (doc / 4096)) (sym same) ∙ same_number (doc / 4096))
    where
      told : (o : Ordering) → o ≡ Greater → MatchOrdering o (k < doc / 4096) (k ≡ doc / 4096) (doc / 4096 < k) → k ≡ doc / 4096 → ⊥
      told Less e rank here = omega (arith, rank, here)
      told Equal e rank here = absurd (grind (arith, e))
      told Greater e rank here = omega (arith, rank, here)

  -- none is further on
  none_behind : (k : ℕ) (ps : List (ℕ × ℕ)) → doc / 4096 ≤ k → AllByRecursion (λ x. nat_cmp k x ≡ Less) (map (λ p. p.0) ps) → has (blocks_documents m ps) doc ≡ false
  none_behind k [] low all = refl
  none_behind k (p ∷ ps) low all =
      let up = less_is k p.0 all.0 in
      has_append (block_documents p.0 (m p.1)) (blocks_documents m ps) doc
      ∙ ap₂ (λ a b. a || b) (out_of_block p.0 (m p.1) doc (λ same. omega (arith, same, up, low))) (none_behind k ps low all.1)

  pub blocks_have : (ps : List (ℕ × ℕ)) → IsStrictlySortedBy nat_cmp (map (λ p. p.0) ps) → has (blocks_documents m ps) doc ≡ bit_in (lookup (beside_block (doc / 4096)) ps)
  unfolding IsStrictlySortedBy
  blocks_have [] up = refl
  blocks_have (p ∷ ps) up =
      has_append (block_documents p.0 (m p.1)) (blocks_documents m ps) doc
      ∙ (elim (nat_cmp p.0 (doc / 4096)) as (λ o. MatchOrdering o (p.0 < doc / 4096) (p.0 ≡ doc / 4096) (doc / 4096 < p.0)
      → (has (block_documents p.0 (m p.1)) doc || has (blocks_documents m ps) doc) ≡ bit_in (choose o (lookup (beside_block (doc / 4096)) ps) (Some p.1) None)) [
        | Less ↦ λ low. ap (λ b. b || has (blocks_documents m ps) doc) (out_of_block p.0 (m p.1) doc (λ same. omega (arith, low, same))) ∙ blocks_have ps up.1
        | Equal ↦ λ same. ap₂ (λ a b. a || b) (in_block p.0 (m p.1) doc (sym same)) (none_behind p.0 ps (omega (arith, same)) up.0) ∙ or_false (in_words (m p.1) (doc % 4096))
        | Greater ↦ λ high. ap₂ (λ a b. a || b) (out_of_block p.0 (m p.1) doc (λ same. omega (arith, high, same))) (none_behind p.0 ps (omega (arith, high)) up.0)
      ]) (ranks p.0 (doc / 4096))

-- the bits of one block
module _ (m : Records) (ps : List (ℕ × ℕ)) (up : IsStrictlySortedBy nat_cmp (map (λ p. p.0) ps)) (k i : ℕ) (below : i < 4096) where
  block_bit : has (blocks_documents m ps) (4096 * k + i) ≡ bit_in m (4096 * k + i) (lookup (beside_block k) ps)
  block_bit =
      let own : (4096 * k + i) / 4096 ≡ k = omega (arith, below) in
      blocks_have m (4096 * k + i) ps up ∙ ap (λ b. bit_in m (4096 * k + i) (lookup (beside_block b) ps)) own

  pub bit_there : (ref : ℕ) → lookup (beside_block k) ps ≡ Some ref → in_words (m ref) i ≡ has (blocks_documents m ps) (4096 * k + i)
  bit_there ref found =
      let place : (4096 * k + i) % 4096 ≡ i = omega (arith, below) in
      sym (block_bit ∙ ap (bit_in m (4096 * k + i)) found ∙ ap (in_words (m ref)) place)

  pub bit_lacking : lookup (beside_block k) ps ≡ None → has (blocks_documents m ps) (4096 * k + i) ≡ false
  bit_lacking none = block_bit ∙ ap (bit_in m (4096 * k + i)) none

-- a property of all pairs is one of each that is found
pub found_all : (P : ℕ × ℕ → Type 0) (k : ℕ) (ps : List (ℕ × ℕ)) (ref : ℕ) → AllByRecursion P ps → lookup (beside_block k) ps ≡ Some ref → P (k, ref)
found_all P k [] ref all is = absurd (grind (arith, is))
found_all P k (p ∷ ps) ref all is =
    (elim (nat_cmp p.0 k) as (λ o. MatchOrdering o (p.0 < k) (p.0 ≡ k) (k < p.0) → choose o (lookup (beside_block k) ps) (Some p.1) None ≡ Some ref → P (k, ref)) [
      | Less ↦ λ low h. found_all P k ps ref all.1 h
      | Equal ↦ λ same h. subst (λ (r : ℕ). P (k, r)) (some_same p.1 ref h) (subst (λ (q : ℕ). P (q, p.1)) same all.0)
      | Greater ↦ λ high h. absurd (grind (arith, h))
    ]) (ranks p.0 k) is
  where
    some_same : (x y : ℕ) → Some x ≡ Some y → x ≡ y
    some_same x y same = cc

-- other blocks in other records
module _ (m n : Records) where
  same_found : (c : ℕ → Ordering) (rs : List (ℕ × ℕ)) (doc : ℕ) → SameAt (map (λ p. p.1) rs) m n → bit_in n doc (lookup c rs) ≡ bit_in m doc (lookup c rs)
  same_found c [] doc same = refl
  same_found c (p ∷ rs) doc same =
      elim (c p.0) as (λ o. bit_in n doc (choose o (lookup c rs) (Some p.1) None) ≡ bit_in m doc (choose o (lookup c rs) (Some p.1) None)) [
        | Less ↦ same_found c rs doc same.1
        | Equal ↦ ap (λ ws. in_words ws (doc % 4096)) same.0
        | Greater ↦ refl
      ]

  pub same_blocks : (rs : List (ℕ × ℕ)) → SameAt (map (λ p. p.1) rs) m n → AllByRecursion (λ p. IsBlock p.0 (m p.1)) rs → AllByRecursion (λ p. IsBlock p.0 (n p.1)) rs
  same_blocks [] same all = tt
  same_blocks (p ∷ rs) same all = (subst (IsBlock p.0) (sym same.0) all.0, same_blocks rs same.1 all.1)

  -- the blocks after a change of one
  module _ (k : ℕ) (ps qs : List (ℕ × ℕ)) (up : IsStrictlySortedBy nat_cmp (map (λ p. p.0) ps)) (up_next : IsStrictlySortedBy nat_cmp (map (λ p. p.0) qs))
      (same : SameAt (map (λ p. p.1) (take_out (beside_block k) ps)) m n) where
    elsewhere : (doc : ℕ) → doc / 4096 ≢ k → bit_in n doc (lookup (beside_block (doc / 4096)) ps) ≡ has (blocks_documents m ps) doc
    elsewhere doc apart =
        let others = take_out_others nat_cmp nat_cmp_total (λ x. x) k (doc / 4096) (other_number k (doc / 4096) apart) ps up in
        ap (bit_in n doc) (sym others) ∙ same_found (beside_block (doc / 4096)) (take_out (beside_block k) ps) doc same
        ∙ ap (bit_in m doc) others ∙ sym (blocks_have m doc ps up)

    pub put_documents : (ref : ℕ) → qs ≡ put (beside_block k) (k, ref) ps → (doc : ℕ)
        → has (blocks_documents n qs) doc ≡ cond (nat_eq (doc / 4096) k) (in_words (n ref) (doc % 4096)) (has (blocks_documents m ps) doc)
    put_documents ref is doc = by_cases (nat_eq (doc / 4096) k)
        (λ yes.
        let at : doc / 4096 ≡ k = eqb-true (doc / 4096) k yes in
        blocks_have n doc qs up_next
        ∙ ap (bit_in n doc) (ap (λ t. lookup (beside_block t) qs) at ∙ ap (lookup (beside_block k)) is ∙ lookup-put (beside_block k) (k, ref) ps (same_number k))
        ∙ sym (ap (λ b. cond b (in_words (n ref) (doc % 4096)) (has (blocks_documents m ps) doc)) yes))
        (λ no.
        let apart = eqb-false (doc / 4096) k no in
        blocks_have n doc qs up_next
        ∙ ap (bit_in n doc) (ap (lookup (beside_block (doc / 4096))) is
        ∙ put_others nat_cmp nat_cmp_total (λ x. x) k (doc / 4096) (other_number k (doc / 4096) apart) (k, ref) ps (same_number k))
        ∙ elsewhere doc apart
        ∙ sym (ap (λ b. cond b (in_words (n ref) (doc % 4096)) (has (blocks_documents m ps) doc)) no))

    pub out_documents : qs ≡ take_out (beside_block k) ps → (doc : ℕ)
        → has (blocks_documents n qs) doc ≡ cond (nat_eq (doc / 4096) k) (in_words [] (doc % 4096)) (has (blocks_documents m ps) doc)
    out_documents is doc = by_cases (nat_eq (doc / 4096) k)
        (λ yes.
        let at : doc / 4096 ≡ k = eqb-true (doc / 4096) k yes in
        blocks_have n doc qs up_next
        ∙ ap (bit_in n doc) (ap (λ t. lookup (beside_block t) qs) at ∙ ap (lookup (beside_block k)) is ∙ take_out_gone nat_cmp nat_cmp_total (λ x. x) k ps up)
        ∙ sym (ap (λ b. cond b (in_words [] (doc % 4096)) (has (blocks_documents m ps) doc)) yes ∙ no_bits [] (doc % 4096) refl))
        (λ no.
        let apart = eqb-false (doc / 4096) k no in
        blocks_have n doc qs up_next
        ∙ ap (bit_in n doc) (ap (lookup (beside_block (doc / 4096))) is
        ∙ take_out_others nat_cmp nat_cmp_total (λ x. x) k (doc / 4096) (other_number k (doc / 4096) apart) ps up)
        ∙ elsewhere doc apart
        ∙ sym (ap (λ b. cond b (in_words [] (doc % 4096)) (has (blocks_documents m ps) doc)) no))

-- where each document is one of a block or of a vector, the numbers are valid
pub numbers_from : (k : ℕ) (ws docs next : List ℕ) → AllByRecursion IsDocNumber (block_documents k ws) → AllByRecursion IsDocNumber docs
    → ((d : ℕ) → has next d ≡ cond (nat_eq (d / 4096) k) (in_words ws (d % 4096)) (has docs d)) → AllByRecursion IsDocNumber next
numbers_from k ws docs next block rest is = has_all IsDocNumber next (λ d there. by_cases (nat_eq (d / 4096) k)
    (λ yes.
    let bit : in_words ws (d % 4096) ≡ true = sym (ap (λ b. cond b (in_words ws (d % 4096)) (has docs d)) yes) ∙ sym (is d) ∙ there in
    all_has IsDocNumber (block_documents k ws) block d (in_block k ws d (eqb-true (d / 4096) k yes) ∙ bit))
    (λ no. all_has IsDocNumber docs rest d (sym (ap (λ b. cond b (in_words ws (d % 4096)) (has docs d)) no) ∙ sym (is d) ∙ there)))

-- laws
pub vector_ascends : (m : Records) (root : ℕ) → IsVector m root → IsAscending (vector_documents m root)
vector_ascends m root is = blocks_ascend m (tree_pairs m root) is.tree_is.ascends

pub vector_sorted : (m : Records) (root : ℕ) → IsVector m root → IsStrictlySortedBy nat_cmp (keys_of (vector_at m root))
vector_sorted m root is = subst (IsStrictlySortedBy nat_cmp) (sym (ones-keys (vector_documents m root))) (sorted (vector_documents m root) (vector_ascends m root is))

pub vector_nothing : (m : Records) → IsVector m 0
unfolding IsStrictlySortedBy
vector_nothing m = record { tree_is = record { node = λ some. absurd (omega arith); ascends = tt }; blocks = tt; numbers = tt }

module _ (m n : Records) (root : ℕ) (same : SameAt (vector_reach m root) m n) where
  nodes : SameAt (tree_nodes m root) m n
  nodes = SameAt-left m n (tree_nodes m root) (map (λ p. p.1) (tree_pairs m root)) same

  blocks : SameAt (map (λ p. p.1) (tree_pairs m root)) m n
  blocks = SameAt-right m n (tree_nodes m root) (map (λ p. p.1) (tree_pairs m root)) same

  pub vector_at-same : vector_at n root ≡ vector_at m root
  vector_at-same = postings_at-same m n (vector root) same

  pub vector_documents-same : vector_documents n root ≡ vector_documents m root
  vector_documents-same = sym (ones-keys (vector_documents n root)) ∙ ap keys_of vector_at-same ∙ ones-keys (vector_documents m root)

  pub vector_stays : IsVector m root → IsVector n root
  vector_stays is = record {
    tree_is = IsTree-same nat_cmp by_number m n root nodes refl is.tree_is;
    blocks = subst (AllByRecursion (λ (p : ℕ × ℕ). IsBlock p.0 (n p.1))) (sym (tree_pairs-same m n root nodes)) (same_blocks m n (tree_pairs m root) blocks is.blocks);
    numbers = subst (AllByRecursion IsDocNumber) (sym vector_documents-same) is.numbers;
  }

blocks_there : (m : Records) (ps : List (ℕ × ℕ)) → AllByRecursion (λ p. IsBlock p.0 (m p.1)) ps → AllThere (map (λ p. p.1) ps) m
blocks_there m [] all = tt
blocks_there m (p ∷ ps) all = (let size = all.0.size in omega (arith, size), blocks_there m ps all.1)

pub vector_there : (m : Records) (root : ℕ) → IsVector m root → AllThere (vector_reach m root) m
vector_there m root is = there-both m (tree_nodes m root) (map (λ p. p.1) (tree_pairs m root)) (tree_there m root is.tree_is.node) (blocks_there m (tree_pairs m root) is.blocks)

some_blocks : (m : Records) (ps : List (ℕ × ℕ)) → AllByRecursion (λ p. IsBlock p.0 (m p.1)) ps → 0 < length ps → 0 < length (blocks_documents m ps)
some_blocks m [] all some = absurd (omega (arith, some))
some_blocks m (p ∷ ps) all some = first (block_documents p.0 (m p.1)) all.0.some
  where
    first : (ds : List ℕ) → 0 < length ds → 0 < length (ds ++ blocks_documents m ps)
    first [] none = absurd (omega (arith, none))
    first (d ∷ ds) more = omega arith

pub root_has : (m : Records) (root : ℕ) → IsVector m root → 0 < root → 0 < length (vector_at m root)
root_has m zero is some = absurd (omega (arith, some))
root_has m (suc root) is some =
    let level = root_level m (suc root) in
    let pairs = pairs-some m (root_least level) level (suc root) (least_some level) (is.tree_is.node some) in
    let documents = some_blocks m (tree_pairs m (suc root)) is.blocks pairs in
    let size = ones-length (vector_documents m (suc root)) in
    omega (arith, documents, size)
  where
    least_some : (level : ℕ) → 0 < root_least level
    least_some zero = omega arith
    least_some (suc level) = omega arith
