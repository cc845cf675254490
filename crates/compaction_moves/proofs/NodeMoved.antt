-- The nodes on the way to a value that were moved are cleared, and what was cleared is so still.
use Rattle.std.proofs.Common.{◌≡◌, ◌≢◌, ◌⊎◌, true, ℕ, ◌<◌, List, [], ◌∷◌, map, inl, inr, sym, ap, subst, ◌∙◌, arith}
use Rattle.std.proofs.lemmas.Cmp.{tied_itself, nat_cmp_total}
use Rattle.std.specs.declared.cmp.Ordering.{Ordering}
use Rattle.std.specs.List.Sorted.{IsStrictlySortedBy}
use Rattle.std.specs.Ordering.{nat_cmp, ordering_then}
use Rattle.entry_ref.proofs.Among.{Among-all, SameAt-among}
use Rattle.entry_ref.specs.References.{buffer_of}
use Rattle.entry_ref.specs.Records.{Records, SameAt, Among}
use Rattle.store_api.specs.Ledgers.{Ledger}
use Rattle.store_api.specs.Parts.{Owns}
use Rattle.store_api.specs.Statuses.{in_use}
use Rattle.store_api.proofs.Times.{among-times, times-among}
use Rattle.store_api.proofs.Uses.{uses-in}
use Rattle.tree_read.specs.Trees.{tree_nodes, tree_pairs, IsTree}
use Rattle.frozen_btree.specs.Paths.{path_nodes}
use Rattle.frozen_btree.proofs.WayLemmas.{stand_on_ways}
use Rattle.frozen_btree.specs.Ways.{keys_below, tree_keys}
use Rattle.compaction_moves.specs.Cleared.{IsClearedField, IsVisited, ListIsCleared, NodesAreCleared}
use Rattle.attr_compaction.specs.Places.{key_cmp, value_in, PlanPlace}
use Rattle.attr_compaction.specs.declared.plan.PlanKey.{PlanKey}
use Rattle.attr_compaction.specs.declared.plan.PlanKey.TheVariants as plan
use Rattle.attr_compaction.specs.declared.plan.TheConstants.{DOCUMENTS, KEYS, LISTS, NODES}
use Rattle.attr_field.specs.Documents.{documents_own}
use Rattle.image_format.specs.Postings.{list_form}
use Rattle.image_format.specs.Tables.{AttributeTrees}
use Rattle.image_format.specs.Values.{stored_value, value_of}
use Rattle.attr_types.specs.ProofsForOrder.{value_cmp_total}
use Rattle.attr_types.specs.Value.{type_of, value_cmp}
use Rattle.attr_types.specs.declared.kind.ValueType.{ValueType}
use Rattle.attr_types.specs.declared.value.Value.{Value}
use Rattle.enum_dictionary.specs.Dictionaries.{beside_value}
use Rattle.compaction_moves.specs.IndexMoves.{MovesNodes}
use Rattle.attr_compaction.proofs.OrderLemmas.{phase_ascends}
use Rattle.attr_compaction.specs.PhaseKeys.{document_keys, node_phase_keys, value_keys}
use Rattle.compaction_moves.proofs.PlanVisits.{all_before, next_visited}
use Rattle.value_index.specs.Indexes.{index_part, IsValuePair}
use Rattle.value_index.proofs.IndexLemmas.{keys_same, pair_reach}
use Rattle.compaction_moves.specs.IndexLaws.{NodeMoveClears}
use Rattle.compaction_moves.specs.IndexTurns.{IsTurn, LeavesBuffer}
use Rattle.compaction_moves.specs.Visits.{place_at_key}
use Rattle.compaction_moves.proofs.BelowLemmas.{nodes_moved}
use Rattle.compaction_moves.proofs.KeyMoved.{of_type}
use Rattle.compaction_moves.proofs.IndexPairs.{InPairs, at_pair, each_pair, pair_stays}
use Rattle.compaction_moves.proofs.IndexClauses.{documents_stay, list_stays, node_used, value_in_keys, key_left}

-- at a value of the last phase no document of it was visited
no_document : (at : PlanPlace) (field d : ℕ) (value : Value) → at.stage.field ≡ field → at.stage.phase ≡ NODES → IsVisited (place_at_key at (plan.Value value)) field NODES (plan.Doc d) → ⊥
no_document at field d value same phase visited = visited
    (ap (λ (f : ℕ). ordering_then (ordering_then (nat_cmp field f) (nat_cmp NODES at.stage.phase)) (key_cmp (plan.Doc d) (plan.Value value))) same
    ∙ ap (λ (p : ℕ). ordering_then (ordering_then (nat_cmp field field) (nat_cmp NODES p)) (key_cmp (plan.Doc d) (plan.Value value))) phase
    ∙ ap (λ (o : Ordering). ordering_then (ordering_then o (nat_cmp NODES NODES)) (key_cmp (plan.Doc d) (plan.Value value))) (tied_itself nat_cmp_total field))

module _ {H : Type 0} (bits victim field next : ℕ) (at : PlanPlace) (value : Value) (old new : Ledger H) (m n : Records) (a : AttributeTrees)
    (turn : IsTurn at field NODES m (of_type a (type_of value)) (plan.Value value)) (moves : MovesNodes bits victim value old new m n a.dictionary next)
    (leaves : LeavesBuffer bits victim old new m n) (owns : Owns old m (index_part a.dictionary ∷ []))
    (cleared : IsClearedField bits victim at field m (of_type a (type_of value))) where
  abbrev type : ValueType
  type = type_of value

  abbrev root : ℕ
  root = a.dictionary

  abbrev here : PlanPlace
  here = place_at_key at (plan.Value value)

  abbrev keys : List PlanKey
  keys = node_phase_keys type m a.documents root

  ascends : IsStrictlySortedBy key_cmp keys
  ascends = phase_ascends type m a.documents root NODES turn.map_is turn.index_is

  before : (phase : ℕ) (key : PlanKey) → phase < 3 → IsVisited at field phase key
  before phase key less = all_before at field phase key (inr (turn.field_is, (let is = turn.phase_is in omega arith)))

  in_old : (q : ℕ × ℕ) → InPairs q (tree_pairs n next) → InPairs q (tree_pairs m root)
  in_old q within = subst (InPairs q) moves.pairs within

  stays : (q : ℕ × ℕ) → InPairs q (tree_pairs n next) → SameAt (pair_reach m q) m n
  stays q within = pair_stays m n (pair_reach m) q (tree_pairs m root) (in_old q within) moves.stay

  key_stays : (k : ℕ) → Among k (tree_keys m root) → n k ≡ m k
  key_stays k among = SameAt-among m n (tree_keys m root) (keys_same m n (tree_pairs m root) moves.stay) k among

  -- ---- keys and lists
  abbrev KeyCleared : PlanPlace → Records → ℕ × ℕ → Type 0
  KeyCleared place o p = IsVisited place field KEYS (plan.Value (stored_value type o p.0)) → buffer_of bits p.0 ≢ victim

  abbrev ListCleared : PlanPlace → Records → ℕ × ℕ → Type 0
  ListCleared place o p = ListIsCleared bits victim place field o (stored_value type o p.0) (list_form p.1)

  each_key : (q : ℕ × ℕ) → InPairs q (tree_pairs n next) → KeyCleared here n q
  each_key q within visited =
      at_pair (KeyCleared at m) (tree_pairs m root) cleared.keys q (in_old q within) (before KEYS (plan.Value (stored_value type m q.0)) (omega arith))

  each_list : (q : ℕ × ℕ) → InPairs q (tree_pairs n next) → ListCleared here n q
  each_list q within =
      let pair : IsValuePair m q = at_pair (IsValuePair m) (tree_pairs m root) turn.index_is.pairs q (in_old q within) in
      let reads : stored_value type n q.0 ≡ stored_value type m q.0 = ap (value_of type) (stays q within).0 in
      subst (λ v. ListIsCleared bits victim here field n v (list_form q.1)) (sym reads)
      (list_stays bits victim field at here m n (stored_value type m q.0) (list_form q.1) (stays q within).1 (pair.list_is.form pair.some)
      (λ d among visited. before LISTS (plan.Pair (stored_value type m q.0) d) (omega arith)) (at_pair (ListCleared at m) (tree_pairs m root) cleared.lists q (in_old q within)))

  -- ---- nodes of the dictionary
  used_now : (x : ℕ) → Among x (tree_nodes n next) → in_use (new.status x) ≡ true
  used_now x among = node_used new n next moves.owns x among

  used_was : (x : ℕ) → Among x (tree_nodes m root) → in_use (old.status x) ≡ true
  used_was x among = node_used old m root owns x among

  came : (node : ℕ) → Among node (tree_nodes n next) → buffer_of bits node ≡ victim → Among node (tree_nodes m root)
  came node among lies =
      let now = uses-in new node (used_now node among) in
      let was = uses-in old node (leaves.unmade node lies (used_now node among)) in
      let some = among-times node (tree_nodes n next) among in
      let balance = moves.turns.balance node in
      times-among node (tree_nodes m root) (omega arith)

  -- the nodes of the new tree, as its keys read before
  abbrev read_was : Records → ℕ → Value
  read_was o k = stored_value type m k

  tree_now : IsTree value_cmp read_was n next
  tree_now = record {
    node = moves.index_is.dictionary_is.tree_is.node;
    ascends = subst (λ (ps : List (ℕ × ℕ)). IsStrictlySortedBy value_cmp (map (λ p. stored_value type m p.0) ps)) (sym moves.pairs) turn.index_is.dictionary_is.tree_is.ascends;
  }

  on_way : (node : ℕ) → Among node (tree_nodes n next) → buffer_of bits node ≡ victim → (key : ℕ) → Among key (keys_below n node) → stored_value type m key ≡ value → ⊥
  on_way node among lies key below e =
      Among-all (λ r. buffer_of bits r ≢ victim) (path_nodes n (beside_value value m) next) moves.apart node
      (subst (λ v. Among node (path_nodes n (λ k. value_cmp (stored_value type m k) v) next)) e (stand_on_ways value_cmp value_cmp_total read_was n next node key tree_now among below)) lies

  still : (node key : ℕ) → Among node (tree_nodes n next) → buffer_of bits node ≡ victim → Among key (keys_below n node) → Among key (tree_keys m root)
      → IsVisited here field NODES (plan.Value (stored_value type n key)) → IsVisited at field NODES (plan.Value (stored_value type m key))
  still node key among lies below key_was visited = told
      (next_visited at field NODES keys (plan.Value value) (plan.Value (stored_value type m key)) turn.field_is turn.phase_is turn.next ascends
      (key_left (plan.Value (stored_value type m key)) (value_keys type m root) (document_keys m a.documents) (value_in_keys type m key (tree_pairs m root) key_was))
      (subst (λ ws. IsVisited here field NODES (plan.Value (value_of type ws))) (key_stays key key_was) visited))
    where
      told : IsVisited at field NODES (plan.Value (stored_value type m key)) ⊎ (plan.Value (stored_value type m key) ≡ plan.Value value)
          → IsVisited at field NODES (plan.Value (stored_value type m key))
      told (inl was) = was
      told (inr e) = absurd (on_way node among lies key below (ap value_in e))

  nodes_cleared : NodesAreCleared bits victim n (λ r. IsVisited here field NODES (plan.Value (stored_value type n r))) next
  nodes_cleared =
      nodes_moved bits victim m n root next turn.index_is.dictionary_is.tree_is.node moves.index_is.dictionary_is.tree_is.node came
      (λ x x_was x_now. leaves.words x (used_was x x_was) (used_now x x_now))
      (λ r. IsVisited at field NODES (plan.Value (stored_value type m r))) (λ r. IsVisited here field NODES (plan.Value (stored_value type n r))) still cleared.values

  pub node_clears_at : SameAt (documents_own a.kind m a.documents) m n → IsClearedField bits victim here field n (record (of_type a type) { dictionary = next })
  node_clears_at same = record {
    keys = each_pair (KeyCleared here n) (tree_pairs n next) each_key;
    documents = documents_stay bits victim field at here a.kind m n a.documents same (λ d. before DOCUMENTS (plan.Doc d) (omega arith)) cleared.documents;
    lists = each_pair (ListCleared here n) (tree_pairs n next) each_list;
    values = nodes_cleared;
    map = λ node among lies d below visited. no_document at field d value turn.field_is turn.phase_is visited;
  }

pub node_clears : (H : Type 0) → NodeMoveClears H
node_clears H bits victim field next at value old new m n a is turn moves leaves owns same cleared =
    subst (λ (t : ValueType). IsTurn at field NODES m (of_type a t) (plan.Value value) → IsClearedField bits victim at field m (of_type a t)
    → IsClearedField bits victim (place_at_key at (plan.Value value)) field n (record (of_type a t) { dictionary = next })) is
    (λ t c. node_clears_at bits victim field next at value old new m n a t moves leaves owns c same) turn cleared
