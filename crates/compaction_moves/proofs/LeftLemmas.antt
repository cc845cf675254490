-- Past the last phase nothing that an attribute reaches lies in the victim.
use Rattle.std.proofs.Common.{◌≡◌, ◌≢◌, ℕ, zero, suc, ◌*◌, ◌≤◌, List, [], ◌∷◌, ◌++◌, map, nat_cmp, sym, subst, arith, inl, inr}
use Rattle.std.proofs.lemmas.Cmp.{nat_cmp_total}
use Rattle.std.specs.Cmp.{IsTotalOrder}
use Rattle.std.specs.List.{flat_map, AllByRecursion}
use Rattle.std.specs.declared.cmp.Ordering.{Ordering}
use Rattle.entry_ref.proofs.Among.{Among-all, Among-append}
use Rattle.list_lemmas.proofs.Each.{AllByRecursion-and}
use Rattle.entry_ref.specs.References.{buffer_of}
use Rattle.entry_ref.specs.Records.{Records, Among}
use Rattle.tree_read.specs.Trees.{by_number, tree_nodes, tree_pairs, IsTree}
use Rattle.frozen_btree.proofs.WayLemmas.{have_keys}
use Rattle.image_format.specs.Documents.{documents_reach, items_reach}
use Rattle.image_format.specs.Postings.{ListForm, short, tree, vector, dictionary_reach, list_form, postings_reach, IsDictionaryEntry, IsPostingList}
use Rattle.image_format.specs.Values.{stored_value}
use Rattle.attr_types.specs.ProofsForOrder.{value_cmp_total}
use Rattle.attr_types.specs.Value.{value_cmp}
use Rattle.attr_types.specs.declared.kind.Kind.{Kind}
use Rattle.attr_types.specs.declared.kind.Kind.TheVariants.{Single, Array, WeightedSet}
use Rattle.attr_types.specs.declared.kind.ValueType.{ValueType}
use Rattle.attr_types.specs.declared.value.Value.{Value}
use Rattle.attr_compaction.specs.Places.{PlanPlace}
use Rattle.attr_compaction.specs.declared.plan.PlanKey.TheVariants as plan
use Rattle.attr_compaction.specs.declared.plan.TheConstants.{DOCUMENTS, KEYS, LISTS, NODES, PHASES}
use Rattle.compaction_moves.specs.DocumentMoves.{AreItemsApart}
use Rattle.compaction_moves.specs.Cleared.{BlockIsVisited, IsVisited, ListIsCleared, NodesAreCleared}
use Rattle.compaction_moves.specs.Laws.{NothingIsLeft}
use Rattle.compaction_moves.proofs.BlockLemmas.{pair_block, pair_of_value}
use Rattle.compaction_moves.proofs.VisitLemmas.{all_visited}

-- what holds of all that each of a list reaches
all_reached : {X : Type 0} (Q : X → Type 0) (f : X → List ℕ) (G : ℕ → Type 0) → ((x : X) → Q x → (r : ℕ) → Among r (f x) → G r) → (xs : List X) → AllByRecursion Q xs
    → (r : ℕ) → Among r (flat_map f xs) → G r
all_reached Q f G each [] all r among = absurd among
all_reached Q f G each (x ∷ xs) all r among = elim (Among-append r (f x) (flat_map f xs) among) [
  | inl here ↦ each x all.0 r here
  | inr there ↦ all_reached Q f G each xs all.1 r there
]

-- ---- nodes
node_apart : {V : Type 0} (order : V → V → Ordering) (total : IsTotalOrder order) (read : Records → ℕ → V) (bits victim : ℕ) (m : Records) (visited : ℕ → Type 0) (root : ℕ)
    → IsTree order read m root → NodesAreCleared bits victim m visited root → ((key : ℕ) → visited key) → (node : ℕ) → Among node (tree_nodes m root) → buffer_of bits node ≢ victim
node_apart order total read bits victim m visited root is cleared all node among lies =
    let found = have_keys order total read m root node is among in
    cleared node among lies found.0 found.1 (all found.0)

-- ---- items
items_apart : (bits victim : ℕ) (kind : Kind) (m : Records) (ref r : ℕ) → AreItemsApart bits victim kind m ref → Among r (items_reach kind ref (m ref)) → buffer_of bits r ≢ victim
items_apart bits victim kind m zero r apart among = absurd among
items_apart bits victim Single m (suc ref) r apart (inl e) = subst (λ q. buffer_of bits q ≢ victim) (sym e) apart.refer.0
items_apart bits victim Single m (suc ref) r apart (inr none) = absurd none
items_apart bits victim Array m (suc ref) r apart (inl e) = subst (λ q. buffer_of bits q ≢ victim) (sym e) apart.own.0
items_apart bits victim Array m (suc ref) r apart (inr later) = Among-all (λ q. buffer_of bits q ≢ victim) _ apart.refer r later
items_apart bits victim WeightedSet m (suc ref) r apart (inl e) = subst (λ q. buffer_of bits q ≢ victim) (sym e) apart.own.0
items_apart bits victim WeightedSet m (suc ref) r apart (inr later) = Among-all (λ q. buffer_of bits q ≢ victim) _ apart.refer r later

module _ (bits victim field : ℕ) (at : PlanPlace) (m : Records) (over : at.stage.phase ≡ PHASES) (few : field ≤ at.stage.field) where
  -- ---- lists
  list_apart : (value : Value) (form : ListForm) → ListIsCleared bits victim at field m value form → IsPostingList m form → (r : ℕ) → Among r (postings_reach m form)
      → buffer_of bits r ≢ victim
  list_apart value (short ref) cleared is r (inl e) =
      subst (λ q. buffer_of bits q ≢ victim) (sym e) (cleared (all_visited at field LISTS (plan.Pair value 0) over few (omega arith)))
  list_apart value (short ref) cleared is r (inr none) = absurd none
  list_apart value (tree root) cleared is r among =
      node_apart nat_cmp nat_cmp_total by_number bits victim m (λ doc. IsVisited at field LISTS (plan.Pair value doc)) root is.0 cleared
      (λ doc. all_visited at field LISTS (plan.Pair value doc) over few (omega arith)) r among
  list_apart value (vector root) cleared is r among = elim (Among-append r (tree_nodes m root) (map (λ p. p.1) (tree_pairs m root)) among) [
    | inl node ↦ node_apart nat_cmp nat_cmp_total by_number bits victim m (BlockIsVisited at field value) root is.0 cleared.nodes
        (λ k. all_visited at field LISTS (plan.Pair value (4096 * k)) over few (omega arith)) r node
    | inr block ↦ (
        let found = pair_of_value r (tree_pairs m root) block in
        subst (λ q. buffer_of bits q ≢ victim) found.2
        (cleared.blocks found.0.0 found.0.1 (pair_block found.0 (tree_pairs m root) is.0.ascends found.1)
        (all_visited at field LISTS (plan.Pair value (4096 * found.0.0)) over few (omega arith)))
        )
  ]

  -- ---- a pair of the dictionary
  abbrev KeyIsCleared : ValueType → ℕ × ℕ → Type 0
  KeyIsCleared type p = IsVisited at field KEYS (plan.Value (stored_value type m p.0)) → buffer_of bits p.0 ≢ victim

  abbrev PairIsCleared : ValueType → ℕ × ℕ → Type 0
  PairIsCleared type p = ListIsCleared bits victim at field m (stored_value type m p.0) (list_form p.1)

  pair_apart : (type : ValueType) (p : ℕ × ℕ) → (KeyIsCleared type p × (PairIsCleared type p × IsDictionaryEntry type m p)) → (r : ℕ)
      → Among r (p.0 ∷ postings_reach m (list_form p.1)) → buffer_of bits r ≢ victim
  pair_apart type p all r (inl e) =
      subst (λ q. buffer_of bits q ≢ victim) (sym e) (all.0 (all_visited at field KEYS (plan.Value (stored_value type m p.0)) over few (omega arith)))
  pair_apart type p all r (inr later) = list_apart (stored_value type m p.0) (list_form p.1) all.1.0 all.1.1.1 r later

  -- ---- a pair of the documents
  abbrev ItemsAreCleared : Kind → ℕ × ℕ → Type 0
  ItemsAreCleared kind p = IsVisited at field DOCUMENTS (plan.Doc p.0) → AreItemsApart bits victim kind m p.1

  document_apart : (kind : Kind) (p : ℕ × ℕ) → ItemsAreCleared kind p → (r : ℕ) → Among r (items_reach kind p.1 (m p.1)) → buffer_of bits r ≢ victim
  document_apart kind p cleared r among =
      items_apart bits victim kind m p.1 r (cleared (all_visited at field DOCUMENTS (plan.Doc p.0) over few (omega arith))) among

pub nothing_left : NothingIsLeft
nothing_left bits victim field at m a over few lawful cleared r among =
    let forms = lawful.forms in
    elim (Among-append r (tree_nodes m a.documents ++ documents_reach a.kind m a.documents) (tree_nodes m a.dictionary ++ dictionary_reach m a.dictionary) among) [
      | inl documents ↦ elim (Among-append r (tree_nodes m a.documents) (documents_reach a.kind m a.documents) documents) [
        | inl node ↦ node_apart nat_cmp nat_cmp_total by_number bits victim m (λ doc. IsVisited at field NODES (plan.Doc doc)) a.documents forms.documents_tree cleared.map
            (λ doc. all_visited at field NODES (plan.Doc doc) over few (omega arith)) r node
        | inr items ↦ all_reached (ItemsAreCleared bits victim field at m over few a.kind) (λ (p : ℕ × ℕ). items_reach a.kind p.1 (m p.1)) (λ q. buffer_of bits q ≢ victim)
            (document_apart bits victim field at m over few a.kind) (tree_pairs m a.documents) cleared.documents r items
      ]
      | inr dictionary ↦ elim (Among-append r (tree_nodes m a.dictionary) (dictionary_reach m a.dictionary) dictionary) [
        | inl node ↦ node_apart value_cmp value_cmp_total (stored_value a.type) bits victim m (λ key. IsVisited at field NODES (plan.Value (stored_value a.type m key))) a.dictionary
            forms.dictionary_tree cleared.values (λ key. all_visited at field NODES (plan.Value (stored_value a.type m key)) over few (omega arith)) r node
        | inr pairs ↦ all_reached (λ (p : ℕ × ℕ). KeyIsCleared bits victim field at m over few a.type p × (PairIsCleared bits victim field at m over few a.type p × IsDictionaryEntry a.type m p))
            (λ (p : ℕ × ℕ). p.0 ∷ postings_reach m (list_form p.1)) (λ q. buffer_of bits q ≢ victim) (pair_apart bits victim field at m over few a.type) (tree_pairs m a.dictionary)
            (AllByRecursion-and (KeyIsCleared bits victim field at m over few a.type) (λ (p : ℕ × ℕ). PairIsCleared bits victim field at m over few a.type p × IsDictionaryEntry a.type m p)
            (tree_pairs m a.dictionary) cleared.keys
            (AllByRecursion-and (PairIsCleared bits victim field at m over few a.type) (IsDictionaryEntry a.type m) (tree_pairs m a.dictionary) cleared.lists forms.entries)) r pairs
      ]
    ]
