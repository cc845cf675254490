-- The blocks of a bit vector by their numbers, and what a list's form tells where its records stay.
use Rattle.std.proofs.Common.{◌≡◌, ℕ, ◌*◌, ◌/◌, ◌<◌, List, [], ◌∷◌, map, length, None, Some, Less, Equal, Greater, inl, inr, refl, sym, ap, ap₂, subst, ◌∙◌, arith, nat_cmp}
use Rattle.std.proofs.lemmas.Cmp.{nat_cmp_total, tied_itself}
use Rattle.std.specs.Cmp.{ranks}
use Rattle.std.specs.List.{flat_map, AllByRecursion}
use Rattle.std.specs.List.Sorted.{IsStrictlySortedBy}
use Rattle.std.specs.Ordering.{MatchOrdering}
use Rattle.std.specs.declared.cmp.Ordering.{Ordering}
use Rattle.list_lemmas.proofs.Options.{same_Some}
use Rattle.entry_ref.specs.Records.{Records, SameAt, Among}
use Rattle.tree_read.specs.Pairs.{choose, lookup}
use Rattle.tree_read.specs.ProofsForTrees.{SameAt-left, SameAt-right, tree_pairs-same}
use Rattle.tree_read.specs.Trees.{tree_nodes, tree_pairs}
use Rattle.frozen_btree.specs.Paths.{path_nodes, NoneIn}
use Rattle.frozen_btree.proofs.TouchTreeLemmas.{path_nodes-same}
use Rattle.image_format.specs.Postings.{ListForm, short, tree, vector, dictionary_reach, list_form, postings_reach, IsBlock, IsPostingList}
use Rattle.bit_vector.specs.Keeps.{block_at}
use Rattle.posting_store.specs.Keeps.{form_block}
use Rattle.posting_store.specs.Moves.{form_docs, FormIsApart}
use Rattle.value_index.specs.Indexes.{index_reach}
use Rattle.value_index.proofs.IndexLemmas.{pair_reach}
use Rattle.compaction_moves.specs.IndexMoves.{lists_docs}
use Rattle.compaction_moves.proofs.IndexPairs.{InPairs}

-- ---- a block that is found
pub equal_is : (a b : ℕ) → nat_cmp a b ≡ Equal → a ≡ b
equal_is a b is = told (nat_cmp a b) (ranks a b) is
  where
    told : (o : Ordering) → MatchOrdering o (a < b) (a ≡ b) (b < a) → o ≡ Equal → a ≡ b
    told Less h e = absurd (grind (arith, e))
    told Equal h e = h
    told Greater h e = absurd (grind (arith, e))

-- a number that is found is one of the pairs', and so is what it leads to
module _ (k r : ℕ) where
  key_in : (ps : List (ℕ × ℕ)) → lookup (λ stored. nat_cmp stored k) ps ≡ Some r → Among k (map (λ p. p.0) ps)
  key_in [] found = absurd (grind (arith, found))
  key_in (p ∷ ps) found =
      (elim (nat_cmp p.0 k) as (λ o. nat_cmp p.0 k ≡ o → choose o (lookup (λ stored. nat_cmp stored k) ps) (Some p.1) None ≡ Some r → Among k (map (λ q. q.0) (p ∷ ps))) [
        | Less ↦ λ e h. inr (key_in ps h)
        | Equal ↦ λ e h. inl (sym (equal_is p.0 k e))
        | Greater ↦ λ e h. absurd (grind (arith, h))
      ]) refl found

  value_in : (ps : List (ℕ × ℕ)) → lookup (λ stored. nat_cmp stored k) ps ≡ Some r → Among r (map (λ p. p.1) ps)
  value_in [] found = absurd (grind (arith, found))
  value_in (p ∷ ps) found =
      (elim (nat_cmp p.0 k) as (λ o. choose o (lookup (λ stored. nat_cmp stored k) ps) (Some p.1) None ≡ Some r → Among r (map (λ q. q.1) (p ∷ ps))) [
        | Less ↦ λ h. inr (value_in ps h)
        | Equal ↦ λ h. inl (sym (same_Some p.1 r h))
        | Greater ↦ λ h. absurd (grind (arith, h))
      ]) found

pub block_key : (m : Records) (root k r : ℕ) → block_at m root k ≡ Some r → Among k (map (λ p. p.0) (tree_pairs m root))
block_key m root k r found = key_in k r (tree_pairs m root) found

pub block_value : (m : Records) (root k r : ℕ) → block_at m root k ≡ Some r → Among r (map (λ p. p.1) (tree_pairs m root))
block_value m root k r found = value_in k r (tree_pairs m root) found

-- ---- a pair is found by its number
less_in : (a : ℕ) (p : ℕ × ℕ) (ps : List (ℕ × ℕ)) → AllByRecursion (λ w. nat_cmp a w ≡ Less) (map (λ q. q.0) ps) → InPairs p ps → nat_cmp a p.0 ≡ Less
less_in a p [] all within = absurd within
less_in a p (q ∷ ps) all (inl e) = subst (λ (x : ℕ × ℕ). nat_cmp a x.0 ≡ Less) (sym e) all.0
less_in a p (q ∷ ps) all (inr later) = less_in a p ps all.1 later

pub pair_block : (p : ℕ × ℕ) (ps : List (ℕ × ℕ)) → IsStrictlySortedBy nat_cmp (map (λ q. q.0) ps) → InPairs p ps → lookup (λ stored. nat_cmp stored p.0) ps ≡ Some p.1
unfolding IsStrictlySortedBy
pair_block p [] up within = absurd within
pair_block p (q ∷ ps) up (inl e) =
    ap (λ (o : Ordering). choose o (lookup (λ stored. nat_cmp stored p.0) ps) (Some q.1) None) (ap (λ (x : ℕ × ℕ). nat_cmp x.0 p.0) (sym e) ∙ tied_itself nat_cmp_total p.0)
    ∙ ap (λ (x : ℕ × ℕ). Some x.1) (sym e)
pair_block p (q ∷ ps) up (inr later) =
    ap (λ (o : Ordering). choose o (lookup (λ stored. nat_cmp stored p.0) ps) (Some q.1) None) (less_in q.0 p ps up.0 later) ∙ pair_block p ps up.1 later

pub pair_of_value : (r : ℕ) (ps : List (ℕ × ℕ)) → Among r (map (λ p. p.1) ps) → (p : ℕ × ℕ) × InPairs p ps × (p.1 ≡ r)
pair_of_value r [] among = absurd among
pair_of_value r (p ∷ ps) (inl e) = (p, inl refl, sym e)
pair_of_value r (p ∷ ps) (inr later) = let rest = pair_of_value r ps later in (rest.0, inr rest.1, rest.2)

-- the record of a block has 64 words
pub block_size : (m : Records) (ps : List (ℕ × ℕ)) → AllByRecursion (λ p. IsBlock p.0 (m p.1)) ps → (r : ℕ) → Among r (map (λ p. p.1) ps) → length (m r) ≡ 64
block_size m [] all r among = absurd among
block_size m (p ∷ ps) all r (inl e) = ap (λ x. length (m x)) e ∙ all.0.size
block_size m (p ∷ ps) all r (inr later) = block_size m ps all.1 r later

-- ---- where blocks begin
pub start_in : (k : ℕ) (ps : List (ℕ × ℕ)) → Among k (map (λ p. p.0) ps) → Among (4096 * k) (map (λ p. 4096 * p.0) ps)
start_in k [] among = absurd among
start_in k (p ∷ ps) (inl e) = inl (ap (λ (x : ℕ). 4096 * x) e)
start_in k (p ∷ ps) (inr later) = inr (start_in k ps later)

-- ---- what stays where records do
pub nodes_of_vector : (m n : Records) (root : ℕ) → SameAt (postings_reach m (vector root)) m n → SameAt (tree_nodes m root) m n
nodes_of_vector m n root same = SameAt-left m n (tree_nodes m root) (map (λ p. p.1) (tree_pairs m root)) same

pub block_same : (m n : Records) (root k : ℕ) → SameAt (tree_nodes m root) m n → block_at n root k ≡ block_at m root k
block_same m n root k same = ap (lookup (λ stored. nat_cmp stored k)) (tree_pairs-same m n root same)

pub form_block_same : (m n : Records) (form : ListForm) (k : ℕ) → SameAt (postings_reach m form) m n → form_block n form k ≡ form_block m form k
form_block_same m n (short ref) k same = refl
form_block_same m n (tree root) k same = refl
form_block_same m n (vector root) k same = block_same m n root k (nodes_of_vector m n root same)

pub form_same : (bits buffer doc : ℕ) (m n : Records) (form : ListForm) → SameAt (postings_reach m form) m n → IsPostingList m form
    → FormIsApart bits buffer doc m form → FormIsApart bits buffer doc n form
form_same bits buffer doc m n (short ref) same is apart = apart
form_same bits buffer doc m n (tree root) same is apart =
    subst (NoneIn bits buffer) (sym (path_nodes-same m n (λ key. nat_cmp key doc) root same (λ some. is.0.node some))) apart
form_same bits buffer doc m n (vector root) same is apart =
    let nodes = nodes_of_vector m n root same in
    record {
      way = subst (NoneIn bits buffer) (sym (path_nodes-same m n (λ key. nat_cmp key (doc / 4096)) root nodes (λ some. is.0.node some))) apart.way;
      block = λ r there. apart.block r (sym (block_same m n root (doc / 4096) nodes) ∙ there);
    }

pub docs_same : (m n : Records) (form : ListForm) → SameAt (postings_reach m form) m n → form_docs n form ≡ form_docs m form
docs_same m n (short ref) same = refl
docs_same m n (tree root) same = ap (map (λ p. p.0)) (tree_pairs-same m n root same)
docs_same m n (vector root) same = ap (map (λ p. 4096 * p.0)) (tree_pairs-same m n root (nodes_of_vector m n root same))

pub docs_stay : (m n : Records) (ps : List (ℕ × ℕ)) → SameAt (flat_map (pair_reach m) ps) m n
    → AllByRecursion (λ p. form_docs n (list_form p.1) ≡ form_docs m (list_form p.1)) ps
docs_stay m n [] same = tt
docs_stay m n (p ∷ ps) same = (
  docs_same m n (list_form p.1) (SameAt-left m n (postings_reach m (list_form p.1)) (flat_map (pair_reach m) ps) same.1),
  docs_stay m n ps (SameAt-right m n (postings_reach m (list_form p.1)) (flat_map (pair_reach m) ps) same.1),
)

pub lists_same : (m n : Records) (ps : List (ℕ × ℕ)) → SameAt (flat_map (pair_reach m) ps) m n
    → map (λ p. form_docs n (list_form p.1)) ps ≡ map (λ p. form_docs m (list_form p.1)) ps
lists_same m n ps same = told ps (docs_stay m n ps same)
  where
    told : (qs : List (ℕ × ℕ)) → AllByRecursion (λ p. form_docs n (list_form p.1) ≡ form_docs m (list_form p.1)) qs
        → map (λ p. form_docs n (list_form p.1)) qs ≡ map (λ p. form_docs m (list_form p.1)) qs
    told [] all = refl
    told (q ∷ qs) all = ap₂ (λ (d : List ℕ) (ds : List (List ℕ)). d ∷ ds) all.0 (told qs all.1)

pub dictionary_docs : (m n : Records) (root : ℕ) → SameAt (index_reach m root) m n → lists_docs n root ≡ lists_docs m root
dictionary_docs m n root same =
    ap (map (λ p. form_docs n (list_form p.1))) (tree_pairs-same m n root (SameAt-left m n (tree_nodes m root) (dictionary_reach m root) same))
    ∙ lists_same m n (tree_pairs m root) (SameAt-right m n (tree_nodes m root) (dictionary_reach m root) same)
