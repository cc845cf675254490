-- What an index takes over of another: where its records stay, through several calls, and where one value's pair was set or taken out.
use Rattle.std.proofs.Common.{◌≡◌, ℕ, zero, suc, true, List, [], ◌∷◌, map, Option, inl, inr, ◌⊎◌, refl, sym, ap, subst, ◌∙◌, arith}
use Rattle.std.specs.declared.cmp.Ordering.{Ordering}
use Rattle.std.specs.declared.cmp.Ordering.TheVariants.{Less, Equal, Greater}
use Rattle.std.specs.List.{flat_map, AllByRecursion}
use Rattle.std.specs.List.Sorted.{IsStrictlySortedBy}
use Rattle.std.specs.Option.{unwrap_or}
use Rattle.entry_ref.specs.Records.{Records, SameAt, Among}
use Rattle.tree_read.specs.Pairs.{lookup, put}
use Rattle.store_api.specs.Ledgers.{Ledger}
use Rattle.store_api.specs.Statuses.{in_use}
use Rattle.store_api.specs.Units.{MayDo}
use Rattle.tree_read.specs.ProofsForTrees.{SameAt-left, SameAt-right, tree_nodes-same, tree_pairs-same}
use Rattle.tree_read.specs.Trees.{tree_nodes, tree_pairs}
use Rattle.image_format.specs.Postings.{dictionary_reach, list_form, postings_reach}
use Rattle.image_format.specs.ProofsForImages.{postings_reach-same}
use Rattle.image_format.specs.Values.{stored_value, value_of}
use Rattle.attr_types.specs.ProofsForOrder.{value_cmp_exact}
use Rattle.attr_types.specs.Value.{type_of, value_cmp}
use Rattle.attr_types.specs.declared.kind.ValueType.{ValueType}
use Rattle.attr_types.specs.declared.value.Value.{Value}
use Rattle.enum_dictionary.specs.Dictionaries.{beside_value}
use Rattle.enum_dictionary.proofs.DictionaryLemmas.{value_same}
use Rattle.posting_store.specs.Keeps.{list_block, FlowsList}
use Rattle.posting_store.specs.Lists.{list_reach}
use Rattle.posting_store.proofs.FlowLemmas.{blocks_stay, coded, flows_as, flows_fresh, flows_nothing}
use Rattle.posting_store.proofs.FlowLemmas.{flows_then as list_flows_then}
use Rattle.value_index.specs.Flows.{list_word, FlowsIndex}
use Rattle.value_index.specs.Indexes.{index_reach}
use Rattle.store_api.specs.Flows.{ComesFrom}
use Rattle.store_api.proofs.Flows.{began-then, comes-then}
use Rattle.value_index.proofs.IndexLemmas.{pair_reach}
use Rattle.value_index.proofs.OpenLemmas.{others}
use Rattle.value_index.proofs.PairLemmas.{keys}
use Rattle.value_index.proofs.WordLemmas.{found_word, out_other, out_word, put_among, put_other, put_word, taken_among, words_as}

-- the stored keys of a type beside a value
abbrev pub against : ValueType → Value → Records → ℕ → Ordering
against type value m key = value_cmp (stored_value type m key) value

list_same : (m n : Records) (word : ℕ) → SameAt (postings_reach m (list_form word)) m n → list_reach n word ≡ list_reach m word
list_same m n zero same = refl
list_same m n (suc word) same = postings_reach-same m n (list_form (suc word)) same

-- keys and lists of pairs that stay
pub words_stay : (type : ValueType) (value : Value) (m n : Records) (ps : List (ℕ × ℕ)) → SameAt (flat_map (pair_reach m) ps) m n
    → AllByRecursion (λ q. (against type value n q.0 ≡ against type value m q.0) × (list_reach n q.1 ≡ list_reach m q.1)) ps
words_stay type value m n [] same = tt
words_stay type value m n (p ∷ ps) same = (
  (
    ap (λ ws. value_cmp (value_of type ws) value) same.0,
    list_same m n p.1 (SameAt-left m n (postings_reach m (list_form p.1)) (flat_map (pair_reach m) ps) same.1),
  ),
  words_stay type value m n ps (SameAt-right m n (postings_reach m (list_form p.1)) (flat_map (pair_reach m) ps) same.1),
)

-- the first of each two
firsts : (type : ValueType) (value : Value) (m n : Records) (ps : List (ℕ × ℕ))
    → AllByRecursion (λ q. (against type value n q.0 ≡ against type value m q.0) × (list_reach n q.1 ≡ list_reach m q.1)) ps
    → AllByRecursion (λ q. against type value n q.0 ≡ against type value m q.0) ps
firsts type value m n [] all = tt
firsts type value m n (p ∷ ps) all = (all.0.0, firsts type value m n ps all.1)

-- the words and the blocks of pairs that stay
keep_words : (type : ValueType) (value : Value) (m n : Records) (ps : List (ℕ × ℕ))
    → AllByRecursion (λ q. (against type value n q.0 ≡ against type value m q.0) × (list_reach n q.1 ≡ list_reach m q.1)) ps
    → AllByRecursion (λ (q : ℕ × ℕ). (against type value n q.0 ≡ against type value m q.0) × (q.1 ∷ [] ≡ q.1 ∷ [])) ps
keep_words type value m n [] all = tt
keep_words type value m n (p ∷ ps) all = ((all.0.0, refl), keep_words type value m n ps all.1)

keep_blocks : (type : ValueType) (value : Value) (m n : Records) (k : ℕ) (ps : List (ℕ × ℕ)) → SameAt (flat_map (pair_reach m) ps) m n
    → AllByRecursion (λ (q : ℕ × ℕ). (against type value n q.0 ≡ against type value m q.0) × (coded (list_block n q.1 k) ≡ coded (list_block m q.1 k))) ps
keep_blocks type value m n k [] same = tt
keep_blocks type value m n k (p ∷ ps) same = (
  (
    ap (λ ws. value_cmp (value_of type ws) value) same.0,
    ap coded (blocks_stay m n k (list_form p.1) (SameAt-left m n (postings_reach m (list_form p.1)) (flat_map (pair_reach m) ps) same.1)),
  ),
  keep_blocks type value m n k ps (SameAt-right m n (postings_reach m (list_form p.1)) (flat_map (pair_reach m) ps) same.1),
)

-- ---- an index that stays
module _ {H : Type 0} (type : ValueType) (a : Ledger H) (m n : Records) (root : ℕ) (same : SameAt (index_reach m root) m n) where
  nodes : SameAt (tree_nodes m root) m n
  nodes = SameAt-left m n (tree_nodes m root) (dictionary_reach m root) same

  pairs : tree_pairs n root ≡ tree_pairs m root
  pairs = tree_pairs-same m n root nodes

  lists : (value : Value) → list_reach n (list_word value n root) ≡ list_reach m (list_word value m root)
  lists value =
      ap (λ ps. list_reach n (found_word (beside_value value n) ps)) pairs
      ∙ words_as (list_reach m) (list_reach n) refl (beside_value value m) (beside_value value n) (tree_pairs m root)
      (words_stay (type_of value) value m n (tree_pairs m root) (SameAt-right m n (tree_nodes m root) (dictionary_reach m root) same))

  rest_same : SameAt (flat_map (pair_reach m) (tree_pairs m root)) m n
  rest_same = SameAt-right m n (tree_nodes m root) (dictionary_reach m root) same

  words : (value : Value) → list_word value n root ∷ [] ≡ list_word value m root ∷ []
  words value =
      ap (λ ps. found_word (beside_value value n) ps ∷ []) pairs
      ∙ words_as (λ w. w ∷ []) (λ w. w ∷ []) refl (beside_value value m) (beside_value value n) (tree_pairs m root)
      (keep_words (type_of value) value m n (tree_pairs m root) (words_stay (type_of value) value m n (tree_pairs m root) rest_same))

  blocks : (value : Value) (k : ℕ) → coded (list_block n (list_word value n root) k) ≡ coded (list_block m (list_word value m root) k)
  blocks value k =
      ap (λ ps. coded (list_block n (found_word (beside_value value n) ps) k)) pairs
      ∙ words_as (λ w. coded (list_block m w k)) (λ w. coded (list_block n w k)) refl (beside_value value m) (beside_value value n) (tree_pairs m root)
      (keep_blocks (type_of value) value m n k (tree_pairs m root) rest_same)

  pub flows_stay : FlowsIndex type a m n root root
  flows_stay = record {
    keys = λ r began among. subst (λ ps. Among r (keys ps)) pairs among;
    nodes = λ r began among. subst (λ rs. Among r rs) (tree_nodes-same m n root nodes) among;
    lists = λ value typed r began among. subst (λ rs. Among r rs) (lists value) among;
    blocks = λ value typed. flows_as (λ r. in_use (a.back r) ≡ true) m n (list_word value m root) (list_word value n root) (words value) (blocks value);
  }

pub flows_same : {H : Type 0} (type : ValueType) (a : Ledger H) (m : Records) (root : ℕ) → FlowsIndex type a m m root root
flows_same type a m root = record {
  keys = λ r began among. among;
  nodes = λ r began among. among;
  lists = λ value typed r began among. among;
  blocks = λ value typed. flows_nothing (λ r. in_use (a.back r) ≡ true) m (list_word value m root);
}

-- one change after another
pub flows_then : {H : Type 0} (type : ValueType) (a b : Ledger H) (k m n : Records) (first root next : ℕ) → MayDo a b
    → FlowsIndex type a k m first root → FlowsIndex type b m n root next → FlowsIndex type a k n first next
flows_then type a b k m n first root next may one two = record {
  keys = comes-then a b (keys (tree_pairs k first)) (keys (tree_pairs m root)) (keys (tree_pairs n next)) may one.keys two.keys;
  nodes = comes-then a b (tree_nodes k first) (tree_nodes m root) (tree_nodes n next) may one.nodes two.nodes;
  lists = λ value typed. comes-then a b (list_reach k (list_word value k first)) (list_reach m (list_word value m root)) (list_reach n (list_word value n next)) may
      (one.lists value typed) (two.lists value typed);
  blocks = λ value typed.
      list_flows_then (λ r. in_use (a.back r) ≡ true) (λ r. in_use (b.back r) ≡ true) k m n (list_word value k first) (list_word value m root) (list_word value n next) (began-then a b may)
      (λ r old among. two.lists value typed r (began-then a b may r old) among) (one.blocks value typed) (two.blocks value typed);
}

-- ---- a change of one value's pair
module _ {H : Type 0} (value : Value) (a : Ledger H) (m o : Records) (root next : ℕ) (nodes : ComesFrom a (tree_nodes o next) (tree_nodes m root))
    (rest_stays : SameAt (flat_map (pair_reach m) (others value m root)) m o) where
  abbrev type : ValueType
  type = type_of value

  -- what a value's list takes over, by the pairs that are then
  abbrev TakesList : Value → Type 0
  TakesList other = ComesFrom a (list_reach o (found_word (against type other o) (tree_pairs o next)))
      (list_reach m (found_word (against type other m) (tree_pairs m root)))

  stays_at : (other : Value)
      → AllByRecursion (λ q. (against type other o q.0 ≡ against type other m q.0) × (list_reach o q.1 ≡ list_reach m q.1)) (others value m root)
  stays_at other = words_stay type other m o (others value m root) rest_stays

  -- of all values, where it is so of this one and of each other
  lists_by : TakesList value
      → ((other : Value) → (value_cmp value other ≡ Equal → ⊥)
      → list_reach o (found_word (against type other o) (tree_pairs o next)) ≡ list_reach m (found_word (against type other m) (tree_pairs m root)))
      → (other : Value) → type_of other ≡ type → ComesFrom a (list_reach o (list_word other o next)) (list_reach m (list_word other m root))
  lists_by own same other typed =
      subst (λ (t : ValueType). ComesFrom a (list_reach o (found_word (against t other o) (tree_pairs o next))) (list_reach m (found_word (against t other m) (tree_pairs m root))))
      (sym typed) (by (value_cmp value other) refl)
    where
      by : (c : Ordering) → value_cmp value other ≡ c → TakesList other
      by Less is = λ r began among. subst (λ rs. Among r rs) (same other (λ equal. grind (arith, is, equal))) among
      by Greater is = λ r began among. subst (λ rs. Among r rs) (same other (λ equal. grind (arith, is, equal))) among
      by Equal is = subst TakesList (value_cmp_exact value other is) own

  -- the same for the blocks of a list
  abbrev TakesBlocks : Value → Type 0
  TakesBlocks other = FlowsList (λ r. in_use (a.back r) ≡ true) m o (found_word (against type other m) (tree_pairs m root)) (found_word (against type other o) (tree_pairs o next))

  blocks_by : TakesBlocks value → ((other : Value) → (value_cmp value other ≡ Equal → ⊥) → TakesBlocks other)
      → (other : Value) → type_of other ≡ type → FlowsList (λ r. in_use (a.back r) ≡ true) m o (list_word other m root) (list_word other o next)
  blocks_by own same other typed =
      subst (λ (t : ValueType). FlowsList (λ r. in_use (a.back r) ≡ true) m o (found_word (against t other m) (tree_pairs m root)) (found_word (against t other o) (tree_pairs o next)))
      (sym typed) (by (value_cmp value other) refl)
    where
      by : (c : Ordering) → value_cmp value other ≡ c → TakesBlocks other
      by Less is = same other (λ equal. grind (arith, is, equal))
      by Greater is = same other (λ equal. grind (arith, is, equal))
      by Equal is = subst TakesBlocks (value_cmp_exact value other is) own

  words_at : (other : Value) → AllByRecursion (λ (q : ℕ × ℕ). (against type other o q.0 ≡ against type other m q.0) × (q.1 ∷ [] ≡ q.1 ∷ [])) (others value m root)
  words_at other = keep_words type other m o (others value m root) (stays_at other)

  blocks_at : (other : Value) (k : ℕ)
      → AllByRecursion (λ (q : ℕ × ℕ). (against type other o q.0 ≡ against type other m q.0) × (coded (list_block o q.1 k) ≡ coded (list_block m q.1 k))) (others value m root)
  blocks_at other k = keep_blocks type other m o k (others value m root) rest_stays

  -- set
  module _ (key word : ℕ) (pairs_are : tree_pairs o next ≡ put (beside_value value m) (key, word) (tree_pairs m root)) (reads : stored_value type o key ≡ value)
      (from_key : ComesFrom a (key ∷ []) (keys (tree_pairs m root))) (from_list : ComesFrom a (list_reach o word) (list_reach m (list_word value m root)))
      (from_blocks : FlowsList (λ r. in_use (a.back r) ≡ true) m o (list_word value m root) word) where
    set_own : found_word (against type value o) (tree_pairs o next) ≡ word
    set_own =
        ap (λ (x : Option ℕ). unwrap_or x 0)
        (ap (lookup (against type value o)) pairs_are
        ∙ put_word (against type value m) (against type value o) (key, word) (ap (λ (v : Value). value_cmp v value) reads ∙ value_same value) (tree_pairs m root)
        (firsts type value m o (others value m root) (stays_at value)))

    set_other : (other : Value) → (value_cmp value other ≡ Equal → ⊥)
        → list_reach o (found_word (against type other o) (tree_pairs o next)) ≡ list_reach m (found_word (against type other m) (tree_pairs m root))
    set_other other apart =
        ap (λ ps. list_reach o (found_word (against type other o) ps)) pairs_are
        ∙ put_other (list_reach m) (list_reach o) refl (stored_value type m) value other apart (against type other o) (key, word)
        (ap (λ (v : Value). value_cmp v other) reads) (tree_pairs m root) (stays_at other)

    set_flows : (other : Value) → (value_cmp value other ≡ Equal → ⊥) → TakesBlocks other
    set_flows other apart =
        flows_as (λ r. in_use (a.back r) ≡ true) m o (found_word (against type other m) (tree_pairs m root)) (found_word (against type other o) (tree_pairs o next))
        (ap (λ ps. found_word (against type other o) ps ∷ []) pairs_are
        ∙ put_other (λ w. w ∷ []) (λ w. w ∷ []) refl (stored_value type m) value other apart (against type other o) (key, word)
        (ap (λ (v : Value). value_cmp v other) reads) (tree_pairs m root) (words_at other))
        (λ k.
        ap (λ ps. coded (list_block o (found_word (against type other o) ps) k)) pairs_are
        ∙ put_other (λ w. coded (list_block m w k)) (λ w. coded (list_block o w k)) refl (stored_value type m) value other apart (against type other o) (key, word)
        (ap (λ (v : Value). value_cmp v other) reads) (tree_pairs m root) (blocks_at other k))

    pub flows_set : FlowsIndex type a m o root next
    flows_set = record {
      keys = λ r began among. was r (from_key r began) (put_among (beside_value value m) r (key, word) (tree_pairs m root) (subst (λ ps. Among r (keys ps)) pairs_are among));
      nodes = nodes;
      lists = lists_by (λ r began among. from_list r began (subst (λ (w : ℕ). Among r (list_reach o w)) set_own among)) set_other;
      blocks = blocks_by (subst (λ (w : ℕ). FlowsList (λ r. in_use (a.back r) ≡ true) m o (list_word value m root) w) (sym set_own) from_blocks) set_flows;
    }
      where
        was : (r : ℕ) → (Among r (key ∷ []) → Among r (keys (tree_pairs m root))) → (r ≡ key) ⊎ Among r (keys (tree_pairs m root)) → Among r (keys (tree_pairs m root))
        was r old (inl here) = old (inl here)
        was r old (inr there) = there

  -- taken out
  module _ (pairs_are : tree_pairs o next ≡ others value m root) (ascends : IsStrictlySortedBy value_cmp (map (λ p. stored_value type m p.0) (tree_pairs m root))) where
    out_own : found_word (against type value o) (tree_pairs o next) ≡ 0
    out_own =
        ap (λ (x : Option ℕ). unwrap_or x 0)
        (ap (lookup (against type value o)) pairs_are
        ∙ out_word (stored_value type m) value (against type value o) (tree_pairs m root) ascends (firsts type value m o (others value m root) (stays_at value)))

    out_same : (other : Value) → (value_cmp value other ≡ Equal → ⊥)
        → list_reach o (found_word (against type other o) (tree_pairs o next)) ≡ list_reach m (found_word (against type other m) (tree_pairs m root))
    out_same other apart =
        ap (λ ps. list_reach o (found_word (against type other o) ps)) pairs_are
        ∙ out_other (list_reach m) (list_reach o) refl (stored_value type m) value other apart (against type other o) (tree_pairs m root) ascends (stays_at other)

    out_flows : (other : Value) → (value_cmp value other ≡ Equal → ⊥) → TakesBlocks other
    out_flows other apart =
        flows_as (λ r. in_use (a.back r) ≡ true) m o (found_word (against type other m) (tree_pairs m root)) (found_word (against type other o) (tree_pairs o next))
        (ap (λ ps. found_word (against type other o) ps ∷ []) pairs_are
        ∙ out_other (λ w. w ∷ []) (λ w. w ∷ []) refl (stored_value type m) value other apart (against type other o) (tree_pairs m root) ascends (words_at other))
        (λ k.
        ap (λ ps. coded (list_block o (found_word (against type other o) ps) k)) pairs_are
        ∙ out_other (λ w. coded (list_block m w k)) (λ w. coded (list_block o w k)) refl (stored_value type m) value other apart (against type other o) (tree_pairs m root) ascends
        (blocks_at other k))

    -- there is no list
    out_none : TakesBlocks value
    out_none =
        subst (λ (w : ℕ). FlowsList (λ r. in_use (a.back r) ≡ true) m o (list_word value m root) w) (sym out_own)
        (flows_fresh (λ r. in_use (a.back r) ≡ true) m o (list_word value m root) 0 (λ r old among. absurd among))

    pub flows_out : FlowsIndex type a m o root next
    flows_out = record {
      keys = λ r began among. taken_among (beside_value value m) r (tree_pairs m root) (subst (λ ps. Among r (keys ps)) pairs_are among);
      nodes = nodes;
      lists = lists_by (λ r began among. absurd (subst (λ (w : ℕ). Among r (list_reach o w)) out_own among)) out_same;
      blocks = blocks_by out_none out_flows;
    }
