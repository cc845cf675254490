-- The nodes on the way to a document were moved.
use Rattle.std.proofs.Common.{◌≡◌, ◌≢◌, ℕ, true, List, [], ◌∷◌, map, Some, inl, inr, sym, ap, subst, ◌∙◌, arith, nat_eq, true≢false}
use Rattle.std.proofs.lemmas.Cmp.{nat_cmp_total}
use Rattle.std.specs.List.{AllByRecursion}
use Rattle.std.specs.List.Sorted.{IsStrictlySortedBy}
use Rattle.std.specs.Ordering.{nat_cmp}
use Rattle.compaction_moves.proofs.IndexClauses.{items_stay, key_left, key_right}
use Rattle.entry_ref.proofs.Among.{Among-all}
use Rattle.entry_ref.specs.References.{buffer_of}
use Rattle.entry_ref.specs.Records.{Records, SameAt, Among}
use Rattle.store_api.specs.Ledgers.{Ledger}
use Rattle.store_api.specs.Parts.{Owns}
use Rattle.store_api.specs.Statuses.{in_use}
use Rattle.store_api.proofs.Times.{among-times, times-among, times-append}
use Rattle.store_api.proofs.Uses.{in-uses, uses-in}
use Rattle.tree_read.specs.ProofsForTrees.{all-same}
use Rattle.tree_read.specs.Trees.{by_number, tree_nodes, tree_pairs}
use Rattle.frozen_btree.specs.Paths.{path_nodes}
use Rattle.frozen_btree.proofs.WayLemmas.{stand_on_ways}
use Rattle.frozen_btree.specs.Ways.{keys_below, tree_keys}
use Rattle.doc_vector.specs.Documents.{beside_document}
use Rattle.image_format.specs.Tables.{AttributeTrees}
use Rattle.image_format.specs.Values.{stored_value}
use Rattle.attr_types.specs.declared.value.Value.{Value as AnyValue}
use Rattle.attr_field.specs.DocumentsChanges.{pairs_own}
use Rattle.attr_field.specs.Documents.{documents_part, items_own}
use Rattle.value_index.specs.Indexes.{index_reach}
use Rattle.attr_compaction.specs.Places.{doc_in, key_cmp, rank_of, PlanPlace}
use Rattle.attr_compaction.specs.declared.plan.PlanKey.{PlanKey}
use Rattle.attr_compaction.specs.declared.plan.PlanKey.TheVariants.{Value, Doc}
use Rattle.attr_compaction.specs.declared.plan.TheConstants.{DOCUMENTS, KEYS, LISTS, NODES}
use Rattle.attr_compaction.proofs.OrderLemmas.{phase_ascends}
use Rattle.attr_compaction.specs.PhaseKeys.{document_keys, key_past, node_phase_keys, phase_keys, value_keys}
use Rattle.compaction_moves.specs.DocumentMoves.{AreItemsApart, MovesDocumentNodes}
use Rattle.compaction_moves.specs.Cleared.{IsClearedField, IsVisited}
use Rattle.compaction_moves.proofs.PlanVisits.{next_visited, others_visited}
use Rattle.compaction_moves.specs.Visits.{place_at_key, IsAmongKeys}
use Rattle.compaction_moves.specs.DocumentsCleared.{with_documents, AreTrees, IsNext, KeepsRecords, MakesNoneIn, MapIsCleared}
use Rattle.compaction_moves.proofs.BelowLemmas.{nodes_moved}
use Rattle.compaction_moves.proofs.DocumentsIndex.{keys_stay, lists_stay, values_stay}

key_mapped : (f : ℕ → PlanKey) (k : ℕ) (ps : List (ℕ × ℕ)) → Among k (map (λ p. p.0) ps) → IsAmongKeys (f k) (map (λ p. f p.0) ps)
key_mapped f k [] among = absurd among
key_mapped f k (p ∷ ps) (inl e) = inl (ap f e)
key_mapped f k (p ∷ ps) (inr later) = inr (key_mapped f k ps later)

value_no_doc : (value : AnyValue) (doc : ℕ) → Value value ≡ Doc doc → ⊥
value_no_doc value doc e = true≢false (ap (λ (k : PlanKey). nat_eq (rank_of k) 1) e)

module _ {H : Type 0} (bits victim field doc next : ℕ) (at : PlanPlace) (a : AttributeTrees) (old new : Ledger H) (m n : Records) (ef : at.stage.field ≡ field)
    (ep : at.stage.phase ≡ NODES) (is_next : IsNext at m a (Doc doc)) (are : AreTrees m a) (same : SameAt (index_reach m a.dictionary) m n)
    (owns : Owns old m (documents_part a.kind a.documents ∷ [])) (makes_none : MakesNoneIn bits victim old new) (keeps : KeepsRecords old new m n)
    (moves : MovesDocumentNodes bits victim doc a.kind a.type old new m n a.documents next) (cleared : IsClearedField bits victim at field m a) where
  abbrev to : PlanPlace
  to = place_at_key at (Doc doc)

  abbrev ps : List (ℕ × ℕ)
  ps = tree_pairs m a.documents

  abbrev keys : List PlanKey
  keys = node_phase_keys a.type m a.documents a.dictionary

  found : key_past at.key keys ≡ Some (Doc doc)
  found = subst (λ (phase : ℕ). key_past at.key (phase_keys a.type m a.documents a.dictionary phase) ≡ Some (Doc doc)) ep is_next

  up : IsStrictlySortedBy key_cmp keys
  up = phase_ascends a.type m a.documents a.dictionary NODES are.documents_are.map_is are.index_is

  other : (phase : ℕ) (k : PlanKey) → NODES ≢ phase → IsVisited to field phase k → IsVisited at field phase k
  other phase k apart visited = others_visited at (Doc doc) field phase k (inr (λ e. apart (sym ep ∙ e))) visited

  -- ---- the documents' items
  abbrev Was : ℕ × ℕ → Type 0
  Was p = IsVisited at field DOCUMENTS (Doc p.0) → AreItemsApart bits victim a.kind m p.1

  abbrev Now : ℕ × ℕ → Type 0
  Now p = IsVisited to field DOCUMENTS (Doc p.0) → AreItemsApart bits victim a.kind n p.1

  item_stays : (p : ℕ × ℕ) → SameAt (items_own a.kind p.1) m n → Was p → Now p
  item_stays p words was visited = items_stay bits victim a.kind m n p.1 words (was (other DOCUMENTS (Doc p.0) (λ e. omega arith) visited))

  documents : AllByRecursion Now (tree_pairs n next)
  documents = subst (AllByRecursion Now) (sym moves.pairs) (all-same m n (λ (p : ℕ × ℕ). items_own a.kind p.1) Was Now item_stays ps moves.stay cleared.documents)

  -- ---- the values of the dictionary
  value_still : (r : ℕ) → Among r (tree_keys m a.dictionary) → IsVisited to field NODES (Value (stored_value a.type m r)) → IsVisited at field NODES (Value (stored_value a.type m r))
  value_still r among visited =
      let there : IsAmongKeys (Value (stored_value a.type m r)) keys =
      key_left (Value (stored_value a.type m r)) (value_keys a.type m a.dictionary) (document_keys m a.documents) (key_mapped (λ q. Value (stored_value a.type m q)) r (tree_pairs m a.dictionary) among) in
      elim (next_visited at field NODES keys (Doc doc) (Value (stored_value a.type m r)) ef ep found up there visited) [
        | inl before ↦ before
        | inr e ↦ absurd (value_no_doc (stored_value a.type m r) doc e)
      ]

  -- ---- the nodes of the map
  old_used : (x : ℕ) → Among x (tree_nodes m a.documents) → in_use (old.status x) ≡ true
  old_used x among =
      let some = among-times x (tree_nodes m a.documents) among in
      let whole = times-append x (tree_nodes m a.documents) (pairs_own a.kind ps) in
      let each = owns.each x in
      in-uses old x (omega arith)

  new_used : (x : ℕ) → Among x (tree_nodes n next) → in_use (new.status x) ≡ true
  new_used x among =
      let some = among-times x (tree_nodes n next) among in
      let whole = times-append x (tree_nodes n next) (pairs_own a.kind (tree_pairs n next)) in
      let each = moves.owns.each x in
      in-uses new x (omega arith)

  node_was : (node : ℕ) → Among node (tree_nodes n next) → buffer_of bits node ≡ victim → Among node (tree_nodes m a.documents)
  node_was node among lies =
      let now = new_used node among in
      let before = uses-in old node (makes_none node lies now) in
      let behind = uses-in new node now in
      let some = among-times node (tree_nodes n next) among in
      let balance = moves.turns.balance node in
      times-among node (tree_nodes m a.documents) (omega arith)

  -- no node above the document itself lies there
  not_above : (node key : ℕ) → Among node (tree_nodes n next) → buffer_of bits node ≡ victim → Among key (keys_below n node) → key ≡ doc → ⊥
  not_above node key among lies below e =
      let on_way : Among node (path_nodes n (beside_document key) next) = stand_on_ways nat_cmp nat_cmp_total by_number n next node key moves.documents_are.map_is.tree_is among below in
      Among-all (λ r. buffer_of bits r ≢ victim) (path_nodes n (beside_document doc) next) moves.apart node (subst (λ (d : ℕ). Among node (path_nodes n (beside_document d) next)) e on_way) lies

  doc_still : (node key : ℕ) → Among node (tree_nodes n next) → buffer_of bits node ≡ victim → Among key (keys_below n node) → Among key (tree_keys m a.documents)
      → IsVisited to field NODES (Doc key) → IsVisited at field NODES (Doc key)
  doc_still node key among lies below there visited =
      let key_there : IsAmongKeys (Doc key) keys = key_right (Doc key) (value_keys a.type m a.dictionary) (document_keys m a.documents) (key_mapped (λ d. Doc d) key ps there) in
      elim (next_visited at field NODES keys (Doc doc) (Doc key) ef ep found up key_there visited) [
        | inl before ↦ before
        | inr e ↦ absurd (not_above node key among lies below (ap doc_in e))
      ]

  pub map_cleared : IsClearedField bits victim to field n (with_documents a next)
  map_cleared = record {
    keys = keys_stay bits victim field at to m n a.type a.dictionary are.index_is same (λ k. other KEYS k (λ e. omega arith)) cleared.keys;
    documents = documents;
    lists = lists_stay bits victim field at to m n a.type a.dictionary are.index_is same (λ k. other LISTS k (λ e. omega arith)) cleared.lists;
    values = values_stay bits victim field at to m n a.type a.dictionary are.index_is same value_still cleared.values;
    map = nodes_moved bits victim m n a.documents next are.documents_are.map_is.tree_is.node moves.documents_are.map_is.tree_is.node node_was
        (λ x was is. keeps x (old_used x was) (new_used x is)) (λ key. IsVisited at field NODES (Doc key)) (λ key. IsVisited to field NODES (Doc key)) doc_still cleared.map;
  }

pub map_is_cleared : (H : Type 0) → MapIsCleared H
map_is_cleared H bits victim field doc next at a old new m n ef ep is_next are same owns makes_none keeps moves cleared =
    map_cleared bits victim field doc next at a old new m n ef ep is_next are same owns makes_none keeps moves cleared
