-- The index beside documents that are moved stays: what is cleared of it is so still.
use Rattle.std.proofs.Common.{◌≡◌, ◌≢◌, ℕ, ◌*◌, sym, subst, ◌∙◌}
use Rattle.std.specs.List.{AllByRecursion}
use Rattle.entry_ref.proofs.Among.{SameAt-among}
use Rattle.list_lemmas.proofs.Each.{AllByRecursion-and}
use Rattle.entry_ref.specs.References.{buffer_of}
use Rattle.entry_ref.specs.Records.{Records, SameAt, Among}
use Rattle.tree_read.specs.ProofsForTrees.{SameAt-left, SameAt-right, all-same, tree_pairs-same}
use Rattle.tree_read.specs.Trees.{tree_nodes, tree_pairs}
use Rattle.frozen_btree.specs.Ways.{tree_keys}
use Rattle.image_format.specs.Postings.{ListForm, short, tree, vector, dictionary_reach, list_form, postings_reach, IsDictionaryEntry, IsPostingList}
use Rattle.image_format.specs.Values.{stored_value, value_of}
use Rattle.attr_types.specs.declared.kind.ValueType.{ValueType}
use Rattle.attr_types.specs.declared.value.Value.{Value as AnyValue}
use Rattle.value_index.specs.Indexes.{index_reach, IsIndex}
use Rattle.value_index.proofs.IndexLemmas.{index_lawful, keys_same, pair_reach}
use Rattle.attr_compaction.specs.Places.{PlanPlace}
use Rattle.attr_compaction.specs.declared.plan.PlanKey.{PlanKey}
use Rattle.attr_compaction.specs.declared.plan.PlanKey.TheVariants as plan
use Rattle.attr_compaction.specs.declared.plan.TheConstants.{KEYS, LISTS, NODES}
use Rattle.compaction_moves.specs.Cleared.{BlockIsVisited, IsVisited, ListIsCleared, NodesAreCleared}
use Rattle.compaction_moves.proofs.BelowLemmas.{nodes_stay}
use Rattle.compaction_moves.proofs.BlockLemmas.{block_same, nodes_of_vector}

-- of a phase nothing more was visited at the next place
abbrev pub NoMore : PlanPlace → PlanPlace → ℕ → ℕ → Type 0
NoMore at next field phase = (k : PlanKey) → IsVisited next field phase k → IsVisited at field phase k

module _ (bits victim field : ℕ) (at next : PlanPlace) (m n : Records) (type : ValueType) (root : ℕ) (is : IsIndex type m root) (same : SameAt (index_reach m root) m n) where
  nodes : SameAt (tree_nodes m root) m n
  nodes = SameAt-left m n (tree_nodes m root) (dictionary_reach m root) same

  rest : SameAt (dictionary_reach m root) m n
  rest = SameAt-right m n (tree_nodes m root) (dictionary_reach m root) same

  pairs_are : tree_pairs n root ≡ tree_pairs m root
  pairs_are = tree_pairs-same m n root nodes

  -- ---- keys
  abbrev KeyWas : ℕ × ℕ → Type 0
  KeyWas p = IsVisited at field KEYS (plan.Value (stored_value type m p.0)) → buffer_of bits p.0 ≢ victim

  abbrev KeyIs : ℕ × ℕ → Type 0
  KeyIs p = IsVisited next field KEYS (plan.Value (stored_value type n p.0)) → buffer_of bits p.0 ≢ victim

  key_stays : NoMore at next field KEYS → (p : ℕ × ℕ) → SameAt (pair_reach m p) m n → KeyWas p → KeyIs p
  key_stays still p words was visited =
      was (subst (λ ws. IsVisited at field KEYS (plan.Value (value_of type ws))) words.0 (still (plan.Value (stored_value type n p.0)) visited))

  pub keys_stay : NoMore at next field KEYS → AllByRecursion KeyWas (tree_pairs m root) → AllByRecursion KeyIs (tree_pairs n root)
  keys_stay still all = subst (AllByRecursion KeyIs) (sym pairs_are) (all-same m n (pair_reach m) KeyWas KeyIs (key_stays still) (tree_pairs m root) rest all)

  -- ---- lists
  list_stays : NoMore at next field LISTS → (value : AnyValue) (form : ListForm) → IsPostingList m form → SameAt (postings_reach m form) m n
      → ListIsCleared bits victim at field m value form → ListIsCleared bits victim next field n value form
  list_stays still value (short ref) are words was = λ visited. was (still (plan.Pair value 0) visited)
  list_stays still value (tree list) are words was =
      nodes_stay bits victim m n list are.0.node words (λ doc. IsVisited at field LISTS (plan.Pair value doc)) (λ doc. IsVisited next field LISTS (plan.Pair value doc))
      (λ doc among visited. still (plan.Pair value doc) visited) was
  list_stays still value (vector list) are words was =
      let inner = nodes_of_vector m n list words in
      record {
        nodes = nodes_stay bits victim m n list are.0.node inner (BlockIsVisited at field value) (BlockIsVisited next field value)
            (λ k among visited. still (plan.Pair value (4096 * k)) visited) was.nodes;
        blocks = λ k r there visited. was.blocks k r (sym (block_same m n list k inner) ∙ there) (still (plan.Pair value (4096 * k)) visited);
      }

  abbrev ListWas : ℕ × ℕ → Type 0
  ListWas p = ListIsCleared bits victim at field m (stored_value type m p.0) (list_form p.1)

  abbrev ListIs : ℕ × ℕ → Type 0
  ListIs p = ListIsCleared bits victim next field n (stored_value type n p.0) (list_form p.1)

  pair_stays : NoMore at next field LISTS → (p : ℕ × ℕ) → SameAt (pair_reach m p) m n → ListWas p × IsDictionaryEntry type m p → ListIs p
  pair_stays still p words was =
      subst (λ ws. ListIsCleared bits victim next field n (value_of type ws) (list_form p.1)) (sym words.0)
      (list_stays still (stored_value type m p.0) (list_form p.1) was.1.1 words.1 was.0)

  pub lists_stay : NoMore at next field LISTS → AllByRecursion ListWas (tree_pairs m root) → AllByRecursion ListIs (tree_pairs n root)
  lists_stay still all =
      subst (AllByRecursion ListIs) (sym pairs_are) (all-same m n (pair_reach m) (λ p. ListWas p × IsDictionaryEntry type m p) ListIs (pair_stays still) (tree_pairs m root) rest
      (AllByRecursion-and ListWas (IsDictionaryEntry type m) (tree_pairs m root) all (index_lawful type m root is).entries))

  -- ---- nodes of the dictionary
  key_words : (r : ℕ) → Among r (tree_keys m root) → n r ≡ m r
  key_words r among = SameAt-among m n (tree_keys m root) (keys_same m n (tree_pairs m root) rest) r among

  pub values_stay : ((r : ℕ) → Among r (tree_keys m root) → IsVisited next field NODES (plan.Value (stored_value type m r)) → IsVisited at field NODES (plan.Value (stored_value type m r)))
      → NodesAreCleared bits victim m (λ r. IsVisited at field NODES (plan.Value (stored_value type m r))) root
      → NodesAreCleared bits victim n (λ r. IsVisited next field NODES (plan.Value (stored_value type n r))) root
  values_stay still was =
      nodes_stay bits victim m n root is.dictionary_is.tree_is.node nodes (λ r. IsVisited at field NODES (plan.Value (stored_value type m r)))
      (λ r. IsVisited next field NODES (plan.Value (stored_value type n r)))
      (λ r among visited. still r among (subst (λ ws. IsVisited next field NODES (plan.Value (value_of type ws))) (key_words r among) visited)) was
