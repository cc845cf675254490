-- What was cleared, at another place that visits no more.
use Rattle.std.proofs.Common.{◌≡◌, ◌≢◌, ℕ, ◌*◌, ◌<◌, List, [], ◌∷◌, ◌++◌, map, length, None, false, inl, inr, refl, sym, ap, subst, ◌∙◌, arith, nat_cmp}
use Rattle.std.specs.Prelude.{slice_get}
use Rattle.std.specs.List.{flat_map}
use Rattle.std.proofs.lemmas.Option.{slice_get_within}
use Rattle.list_lemmas.proofs.Each.{AllByRecursion-slice_get}
use Rattle.entry_ref.specs.References.{buffer_of}
use Rattle.entry_ref.specs.Records.{Records, Among}
use Rattle.tree_read.specs.Trees.{by_number, tree_pairs}
use Rattle.frozen_btree.specs.Ways.{tree_keys}
use Rattle.attr_compaction.specs.Places.{is_start, place_after, PlanPlace}
use Rattle.attr_compaction.specs.declared.plan.PlanKey.{PlanKey}
use Rattle.attr_compaction.specs.declared.plan.PlanKey.TheVariants as plan
use Rattle.attr_compaction.specs.declared.plan.TheConstants.{DOCUMENTS, KEYS, LISTS, NODES, PHASES}
use Rattle.attr_field.specs.Fields.{IsField}
use Rattle.image_format.specs.Postings.{short, tree, vector, list_form, IsPostingList, ListForm}
use Rattle.image_format.specs.Tables.{AttributeTrees}
use Rattle.image_format.specs.Values.{stored_value}
use Rattle.attr_operations.specs.Fields.{IsFieldAt}
use Rattle.attr_types.specs.Value.{value_cmp}
use Rattle.attr_types.specs.declared.kind.Kind.{Kind}
use Rattle.attr_types.specs.declared.kind.ValueType.{ValueType}
use Rattle.attr_types.specs.declared.value.Value.{Value}
use Rattle.compaction_moves.specs.DocumentMoves.{AreItemsApart}
use Rattle.attr_compaction.specs.PhaseKeys.{document_keys, key_past, keys_of_pairs, phase_keys, value_keys}
use Rattle.posting_store.specs.Moves.{form_docs}
use Rattle.compaction_moves.proofs.PlanVisits.{end_visited, others_visited, stage_visited}
use Rattle.compaction_moves.proofs.BlockLemmas.{block_key, start_in}
use Rattle.compaction_moves.proofs.IndexClauses.{key_left, key_right}
use Rattle.compaction_moves.specs.Visits.{place_at_key, IsAmongKeys}
use Rattle.value_index.specs.Indexes.{IsValuePair}
use Rattle.compaction_moves.specs.Cleared.{IsClearedField, IsVisited, ListIsCleared}
use Rattle.compaction_steps.specs.StepsLaws.{OthersStayCleared, PhaseEndLeavesCleared}
use Rattle.compaction_steps.proofs.StepsBelow.{keys_in_tree}
use Rattle.compaction_steps.proofs.StepsLists.{all_in, all_pairs, IsIn}
use Rattle.compaction_steps.proofs.StepsOwned.{of_key}
use Rattle.compaction_steps.proofs.SameLemmas.{some_or}

-- ---- keys in lists of keys
key_of_pair : (f : ℕ × ℕ → PlanKey) (ps : List (ℕ × ℕ)) (p : ℕ × ℕ) → IsIn p ps → IsAmongKeys (f p) (map f ps)
key_of_pair f [] p there = absurd there
key_of_pair f (q ∷ ps) p (inl e) = inl (ap f e)
key_of_pair f (q ∷ ps) p (inr later) = inr (key_of_pair f ps p later)

key_of_doc : (value : Value) (docs : List ℕ) (doc : ℕ) → Among doc docs → IsAmongKeys (plan.Pair value doc) (map (λ d. plan.Pair value d) docs)
key_of_doc value [] doc among = absurd among
key_of_doc value (d ∷ docs) doc (inl e) = inl (ap (λ (x : ℕ). plan.Pair value x) e)
key_of_doc value (d ∷ docs) doc (inr later) = inr (key_of_doc value docs doc later)

key_flat : (f : ℕ × ℕ → List PlanKey) (ps : List (ℕ × ℕ)) (p : ℕ × ℕ) (k : PlanKey) → IsIn p ps → IsAmongKeys k (f p) → IsAmongKeys k (flat_map f ps)
key_flat f [] p k there member = absurd there
key_flat f (q ∷ ps) p k (inl e) member = key_left k (f q) (flat_map f ps) (subst (λ x. IsAmongKeys k (f x)) e member)
key_flat f (q ∷ ps) p k (inr later) member = key_right k (f q) (flat_map f ps) (key_flat f ps p k later member)

module _ (type : ValueType) (m : Records) (documents dictionary : ℕ) where
  value_member : (p : ℕ × ℕ) → IsIn p (tree_pairs m dictionary) → IsAmongKeys (plan.Value (stored_value type m p.0)) (value_keys type m dictionary)
  value_member p there = key_of_pair (λ (q : ℕ × ℕ). plan.Value (stored_value type m q.0)) (tree_pairs m dictionary) p there

  document_member : (p : ℕ × ℕ) → IsIn p (tree_pairs m documents) → IsAmongKeys (plan.Doc p.0) (document_keys m documents)
  document_member p there = key_of_pair (λ (q : ℕ × ℕ). plan.Doc q.0) (tree_pairs m documents) p there

  list_member : (p : ℕ × ℕ) (doc : ℕ) → IsIn p (tree_pairs m dictionary) → Among doc (form_docs m (list_form p.1))
      → IsAmongKeys (plan.Pair (stored_value type m p.0) doc) (keys_of_pairs type m (tree_pairs m dictionary))
  list_member p doc there among =
      key_flat (λ (q : ℕ × ℕ). map (λ d. plan.Pair (stored_value type m q.0) d) (form_docs m (list_form q.1))) (tree_pairs m dictionary) p (plan.Pair (stored_value type m p.0) doc) there
      (key_of_doc (stored_value type m p.0) (form_docs m (list_form p.1)) doc among)

  value_node_member : (key : ℕ) → Among key (tree_keys m dictionary) → IsAmongKeys (plan.Value (stored_value type m key)) (value_keys type m dictionary ++ document_keys m documents)
  value_node_member key among =
      let found = of_key key (tree_pairs m dictionary) among in
      key_left (plan.Value (stored_value type m key)) (value_keys type m dictionary) (document_keys m documents)
      (subst (λ k. IsAmongKeys (plan.Value (stored_value type m k)) (value_keys type m dictionary)) (sym found.is) (value_member found.pair found.there))

  document_node_member : (doc : ℕ) → Among doc (tree_keys m documents) → IsAmongKeys (plan.Doc doc) (value_keys type m dictionary ++ document_keys m documents)
  document_node_member doc among =
      let found = of_key doc (tree_pairs m documents) among in
      key_right (plan.Doc doc) (value_keys type m dictionary) (document_keys m documents)
      (subst (λ d. IsAmongKeys (plan.Doc d) (document_keys m documents)) (sym found.is) (document_member found.pair found.there))

-- ---- a place that visits no more keys of an attribute
module _ (bits victim field : ℕ) (at next : PlanPlace) (m : Records) where
  list_fewer : (value : Value) (form : ListForm) → IsPostingList m form
      → ((doc : ℕ) → Among doc (form_docs m form) → IsVisited next field LISTS (plan.Pair value doc) → IsVisited at field LISTS (plan.Pair value doc))
      → ListIsCleared bits victim at field m value form → ListIsCleared bits victim next field m value form
  list_fewer value (short ref) is fewer cleared = λ visited. cleared (fewer 0 (inl refl) visited)
  list_fewer value (tree root) is fewer cleared =
      λ node there in_victim key below visited. cleared node there in_victim key below (fewer key (keys_in_tree m nat_cmp by_number root is.0 node key there below) visited)
  list_fewer value (vector root) is fewer cleared = record {
    nodes = λ node there in_victim k below visited. cleared.nodes node there in_victim k below
        (fewer (4096 * k) (start_in k (tree_pairs m root) (keys_in_tree m nat_cmp by_number root is.0 node k there below)) visited);
    blocks = λ k r at_block visited. cleared.blocks k r at_block (fewer (4096 * k) (start_in k (tree_pairs m root) (block_key m root k r at_block)) visited);
  }

  module _ (kind : Kind) (type : ValueType) (documents dictionary : ℕ) (is : IsField kind type m documents dictionary)
      (fewer : (phase : ℕ) (k : PlanKey) → phase < PHASES → is_start k ≡ false → IsAmongKeys k (phase_keys type m documents dictionary phase)
      → IsVisited next field phase k → IsVisited at field phase k)
      (cleared : IsClearedField bits victim at field m (record { kind = kind; type = type; documents = documents; dictionary = dictionary })) where
    key_fewer : (p : ℕ × ℕ) → IsIn p (tree_pairs m dictionary) → IsVisited next field KEYS (plan.Value (stored_value type m p.0)) → buffer_of bits p.0 ≢ victim
    key_fewer p there visited =
        all_in (λ (q : ℕ × ℕ). IsVisited at field KEYS (plan.Value (stored_value type m q.0)) → buffer_of bits q.0 ≢ victim) (tree_pairs m dictionary) cleared.keys p there
        (fewer KEYS (plan.Value (stored_value type m p.0)) (omega arith) refl (value_member type m documents dictionary p there) visited)

    items_fewer : (p : ℕ × ℕ) → IsIn p (tree_pairs m documents) → IsVisited next field DOCUMENTS (plan.Doc p.0) → AreItemsApart bits victim kind m p.1
    items_fewer p there visited =
        all_in (λ (q : ℕ × ℕ). IsVisited at field DOCUMENTS (plan.Doc q.0) → AreItemsApart bits victim kind m q.1) (tree_pairs m documents) cleared.documents p there
        (fewer DOCUMENTS (plan.Doc p.0) (omega arith) refl (document_member type m documents dictionary p there) visited)

    posting_fewer : (p : ℕ × ℕ) → IsIn p (tree_pairs m dictionary) → ListIsCleared bits victim next field m (stored_value type m p.0) (list_form p.1)
    posting_fewer p there =
        let pair = all_in (IsValuePair m) (tree_pairs m dictionary) is.index_is.pairs p there in
        list_fewer (stored_value type m p.0) (list_form p.1) (pair.list_is.form pair.some)
        (λ doc among visited. fewer LISTS (plan.Pair (stored_value type m p.0) doc) (omega arith) refl (list_member type m documents dictionary p doc there among) visited)
        (all_in (λ (q : ℕ × ℕ). ListIsCleared bits victim at field m (stored_value type m q.0) (list_form q.1)) (tree_pairs m dictionary) cleared.lists p there)

    pub field_fewer : IsClearedField bits victim next field m (record { kind = kind; type = type; documents = documents; dictionary = dictionary })
    field_fewer = record {
      keys = all_pairs _ (tree_pairs m dictionary) key_fewer;
      documents = all_pairs _ (tree_pairs m documents) items_fewer;
      lists = all_pairs _ (tree_pairs m dictionary) posting_fewer;
      values = λ node there in_victim key below visited. cleared.values node there in_victim key below
          (fewer NODES (plan.Value (stored_value type m key)) (omega arith) refl
          (value_node_member type m documents dictionary key (keys_in_tree m value_cmp (stored_value type) dictionary is.index_is.dictionary_is.tree_is node key there below)) visited);
      map = λ node there in_victim key below visited. cleared.map node there in_victim key below
          (fewer NODES (plan.Doc key) (omega arith) refl
          (document_node_member type m documents dictionary key (keys_in_tree m nat_cmp by_number documents is.documents_are.map_is.tree_is node key there below)) visited);
    }

pub others_clear : OthersStayCleared
others_clear bits victim field at key m a is other cleared =
    field_fewer bits victim field at (place_at_key at key) m a.kind a.type a.documents a.dictionary is
    (λ phase k last some member visited. others_visited at key field phase k (inl other) visited) cleared

pub phase_clear : PhaseEndLeavesCleared
phase_clear bits victim at m trees a are few here none cleared i b there =
    field_fewer bits victim i at (place_after (length trees) at plan.Start) m b.kind b.type b.documents b.dictionary (AllByRecursion-slice_get (IsFieldAt m) trees i b are there)
    (λ phase k last some member visited. elim (stage_visited (length trees) at i phase k few (slice_get_within trees i b there) last some visited) [
      | inl before ↦ before
      | inr same ↦ end_visited at i phase (phase_keys b.type m b.documents b.dictionary phase) k same.0 same.1
          (subst (λ p. key_past at.key (phase_keys b.type m b.documents b.dictionary p) ≡ None) same.1
          (subst (λ (x : AttributeTrees). key_past at.key (phase_keys x.type m x.documents x.dictionary at.stage.phase) ≡ None)
          (ap (some_or a) (sym here ∙ ap (slice_get trees) same.0 ∙ there)) none)) member
    ]) (cleared i b there)
