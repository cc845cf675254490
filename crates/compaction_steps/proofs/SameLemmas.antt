-- What was cleared of attributes whose records stay.
use Rattle.std.proofs.Common.{◌≡◌, ◌≢◌, ℕ, zero, suc, List, [], ◌∷◌, Option, None, Some, Bool, true, false, true≢false, sym, ap, subst, ◌∙◌, nat_cmp}
use Rattle.std.specs.Prelude.{slice_get}
use Rattle.std.specs.declared.cmp.Ordering.{Ordering}
use Rattle.std.specs.List.{AllByRecursion}
use Rattle.entry_ref.proofs.Pairs.{same-from}
use Rattle.entry_ref.proofs.Among.{SameAt-among}
use Rattle.entry_ref.specs.References.{buffer_of}
use Rattle.entry_ref.specs.Records.{Records, Among, SameAt}
use Rattle.tree_read.specs.ProofsForTrees.{tree_nodes-same, tree_pairs-same}
use Rattle.tree_read.specs.Trees.{by_number, tree_nodes, tree_pairs, IsTree}
use Rattle.frozen_btree.specs.Ways.{tree_keys}
use Rattle.store_api.specs.Parts.{AllStay}
use Rattle.attr_compaction.specs.Places.{PlanPlace}
use Rattle.attr_compaction.specs.declared.plan.PlanKey.TheVariants as plan
use Rattle.attr_compaction.specs.declared.plan.TheConstants.{DOCUMENTS, KEYS, LISTS, NODES}
use Rattle.attr_field.proofs.DocumentsFlowLemmas.{refer_same}
use Rattle.attr_field.specs.Documents.{items_own}
use Rattle.attr_field.specs.Fields.{field_part, IsField}
use Rattle.image_format.specs.Postings.{short, tree, vector, list_form, postings_reach, IsPostingList, ListForm}
use Rattle.image_format.specs.Tables.{AttributeTrees}
use Rattle.image_format.specs.Values.{stored_value, value_of}
use Rattle.attr_operations.specs.Fields.{part_of, parts_of, IsFieldAt}
use Rattle.attr_types.specs.Value.{value_cmp}
use Rattle.attr_types.specs.declared.kind.Kind.{Kind}
use Rattle.attr_types.specs.declared.kind.ValueType.{ValueType}
use Rattle.attr_types.specs.declared.value.Value.{Value}
use Rattle.compaction_moves.specs.DocumentMoves.{AreItemsApart}
use Rattle.compaction_moves.specs.Cleared.{BlockIsVisited, IsClearedField, IsVisited, ListIsCleared, NodesAreCleared}
use Rattle.compaction_moves.proofs.BlockLemmas.{block_same, nodes_of_vector}
use Rattle.compaction_steps.specs.StepsLaws.{AllStayLeavesCleared, StayLeavesCleared}
use Rattle.compaction_steps.proofs.StepsBelow.{keys_in_tree, keys_stay}
use Rattle.compaction_steps.proofs.StepsLists.{all_in, all_pairs, IsIn}
use Rattle.compaction_steps.proofs.StepsOwned.{item_owned, key_is_owned, key_owned, list_owned, map_node_owned, value_node_owned}

module _ (bits victim : ℕ) (m n : Records) where
  nodes_clear : {V : Type 0} (order : V → V → Ordering) (read : Records → ℕ → V) (root : ℕ) → IsTree order read m root → SameAt (tree_nodes m root) m n
      → (before after : ℕ → Type 0) → ((key : ℕ) → Among key (tree_keys m root) → after key → before key)
      → NodesAreCleared bits victim m before root → NodesAreCleared bits victim n after root
  nodes_clear order read root is same before after more cleared node among lies key below visited =
      let there = subst (Among node) (tree_nodes-same m n root same) among in
      let here = subst (Among key) (keys_stay order read m n root is same node there) below in
      cleared node there lies key here (more key (keys_in_tree m order read root is node key there here) visited)

  list_clear : (at : PlanPlace) (field : ℕ) (value : Value) (form : ListForm) → IsPostingList m form → SameAt (postings_reach m form) m n
      → ListIsCleared bits victim at field m value form → ListIsCleared bits victim at field n value form
  list_clear at field value (short ref) is same cleared = cleared
  list_clear at field value (tree root) is same cleared =
      nodes_clear nat_cmp by_number root is.0 same (λ doc. IsVisited at field LISTS (plan.Pair value doc)) (λ doc. IsVisited at field LISTS (plan.Pair value doc))
      (λ doc there visited. visited) cleared
  list_clear at field value (vector root) is same cleared =
      let nodes = nodes_of_vector m n root same in
      record {
        nodes = nodes_clear nat_cmp by_number root is.0 nodes (BlockIsVisited at field value) (BlockIsVisited at field value) (λ k there visited. visited) cleared.nodes;
        blocks = λ k r there visited. cleared.blocks k r (sym (block_same m n root k nodes) ∙ there) visited;
      }

module _ (bits victim field : ℕ) (at : PlanPlace) (m n : Records) (kind : Kind) (type : ValueType) (documents dictionary : ℕ) (is : IsField kind type m documents dictionary)
    (same : SameAt ((field_part kind documents dictionary).reach m) m n) where
  abbrev trees : AttributeTrees
  trees = record { kind = kind; type = type; documents = documents; dictionary = dictionary }

  stay : (r : ℕ) → Among r ((field_part kind documents dictionary).reach m) → n r ≡ m r
  stay = SameAt-among m n ((field_part kind documents dictionary).reach m) same

  map_stays : SameAt (tree_nodes m documents) m n
  map_stays = same-from (tree_nodes m documents) m n (λ r among. stay r (map_node_owned kind m documents dictionary r among))

  values_stay : SameAt (tree_nodes m dictionary) m n
  values_stay = same-from (tree_nodes m dictionary) m n (λ r among. stay r (value_node_owned kind m documents dictionary r among))

  value_same : (key : ℕ) → Among key (tree_keys m dictionary) → stored_value type n key ≡ stored_value type m key
  value_same key among = ap (value_of type) (stay key (key_is_owned kind m documents dictionary key among))

  pair_value : (p : ℕ × ℕ) → IsIn p (tree_pairs m dictionary) → stored_value type n p.0 ≡ stored_value type m p.0
  pair_value p there = ap (value_of type) (stay p.0 (key_owned kind m documents dictionary p there))

  module _ (cleared : IsClearedField bits victim at field m trees) where
    key_clear : (p : ℕ × ℕ) → IsIn p (tree_pairs m dictionary) → IsVisited at field KEYS (plan.Value (stored_value type n p.0)) → buffer_of bits p.0 ≢ victim
    key_clear p there visited =
        all_in (λ (q : ℕ × ℕ). IsVisited at field KEYS (plan.Value (stored_value type m q.0)) → buffer_of bits q.0 ≢ victim) (tree_pairs m dictionary) cleared.keys p there
        (subst (λ v. IsVisited at field KEYS (plan.Value v)) (pair_value p there) visited)

    items_clear : (p : ℕ × ℕ) → IsIn p (tree_pairs m documents) → IsVisited at field DOCUMENTS (plan.Doc p.0) → AreItemsApart bits victim kind n p.1
    items_clear p there visited =
        let was = all_in (λ (q : ℕ × ℕ). IsVisited at field DOCUMENTS (plan.Doc q.0) → AreItemsApart bits victim kind m q.1) (tree_pairs m documents) cleared.documents p there visited in
        let own = same-from (items_own kind p.1) m n (λ r among. stay r (item_owned kind m documents dictionary p r there among)) in
        record { own = was.own; refer = subst (λ refs. AllByRecursion (λ r. buffer_of bits r ≢ victim) refs) (sym (refer_same kind m n p.1 own)) was.refer }

    posting_clear : (p : ℕ × ℕ) → IsIn p (tree_pairs m dictionary) → ListIsCleared bits victim at field n (stored_value type n p.0) (list_form p.1)
    posting_clear p there =
        let pair = all_in _ (tree_pairs m dictionary) is.index_is.pairs p there in
        let was = all_in (λ (q : ℕ × ℕ). ListIsCleared bits victim at field m (stored_value type m q.0) (list_form q.1)) (tree_pairs m dictionary) cleared.lists p there in
        subst (λ v. ListIsCleared bits victim at field n v (list_form p.1)) (sym (pair_value p there))
        (list_clear bits victim m n at field (stored_value type m p.0) (list_form p.1) (pair.list_is.form pair.some)
        (same-from (postings_reach m (list_form p.1)) m n (λ r among. stay r (list_owned kind m documents dictionary p r there among))) was)

    pub field_clear : IsClearedField bits victim at field n trees
    field_clear = record {
      keys = subst (λ ps. AllByRecursion (λ (p : ℕ × ℕ). IsVisited at field KEYS (plan.Value (stored_value type n p.0)) → buffer_of bits p.0 ≢ victim) ps)
          (sym (tree_pairs-same m n dictionary values_stay)) (all_pairs _ (tree_pairs m dictionary) key_clear);
      documents = subst (λ ps. AllByRecursion (λ (p : ℕ × ℕ). IsVisited at field DOCUMENTS (plan.Doc p.0) → AreItemsApart bits victim kind n p.1) ps)
          (sym (tree_pairs-same m n documents map_stays)) (all_pairs _ (tree_pairs m documents) items_clear);
      lists = subst (λ ps. AllByRecursion (λ (p : ℕ × ℕ). ListIsCleared bits victim at field n (stored_value type n p.0) (list_form p.1)) ps)
          (sym (tree_pairs-same m n dictionary values_stay)) (all_pairs _ (tree_pairs m dictionary) posting_clear);
      values = nodes_clear bits victim m n value_cmp (stored_value type) dictionary is.index_is.dictionary_is.tree_is values_stay
          (λ r. IsVisited at field NODES (plan.Value (stored_value type m r))) (λ r. IsVisited at field NODES (plan.Value (stored_value type n r)))
          (λ key there visited. subst (λ v. IsVisited at field NODES (plan.Value v)) (value_same key there) visited) cleared.values;
      map = nodes_clear bits victim m n nat_cmp by_number documents is.documents_are.map_is.tree_is map_stays
          (λ doc. IsVisited at field NODES (plan.Doc doc)) (λ doc. IsVisited at field NODES (plan.Doc doc)) (λ key there visited. visited) cleared.map;
    }

pub stay_clear : StayLeavesCleared
stay_clear bits victim field at m n a is same cleared = field_clear bits victim field at m n a.kind a.type a.documents a.dictionary is same cleared

-- ---- all of them, from some number on
abbrev pub some_or : AttributeTrees → Option AttributeTrees → AttributeTrees
some_or other None = other
some_or other (Some a) = a

pub none_some : (a : AttributeTrees) → None ≡ Some a → ⊥
none_some a e = true≢false (sym (ap is_some e))
  where
    is_some : Option AttributeTrees → Bool
    is_some None = false
    is_some (Some b) = true

module _ (bits victim : ℕ) (at : PlanPlace) (m n : Records) where
  pub from_stay : (number : ℕ → ℕ) (trees : List AttributeTrees) → AllByRecursion (IsFieldAt m) trees → AllStay (parts_of trees) m n
      → ((i : ℕ) (a : AttributeTrees) → slice_get trees i ≡ Some a → IsClearedField bits victim at (number i) m a)
      → (i : ℕ) (a : AttributeTrees) → slice_get trees i ≡ Some a → IsClearedField bits victim at (number i) n a
  from_stay number [] are all cleared i a there = absurd (none_some a there)
  from_stay number (first ∷ rest) are all cleared zero a there =
      let e : first ≡ a = ap (some_or first) there in
      stay_clear bits victim (number 0) at m n a (subst (IsFieldAt m) e are.0) (subst (λ (x : AttributeTrees). SameAt ((part_of x).reach m) m n) e all.0) (cleared 0 a there)
  from_stay number (first ∷ rest) are all cleared (suc i) a there = from_stay (λ j. number (suc j)) rest are.1 all.1 (λ j b at_it. cleared (suc j) b at_it) i a there

pub all_stay_clear : AllStayLeavesCleared
all_stay_clear bits victim at m n trees are stay cleared = from_stay bits victim at m n (λ i. i) trees are stay cleared
