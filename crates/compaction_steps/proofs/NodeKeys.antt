-- Keys of the last phase that are passed, by the ways to them.
use Rattle.std.proofs.Common.{◌≡◌, ◌≢◌, ℕ, zero, suc, ◌+◌, ◌-◌, ◌<◌, ◌≤◌, Bool, true, false, cond, List, [], ◌∷◌, ◌++◌, map, length, take, drop, inl, inr, refl, sym, ap, subst, ◌∙◌, arith}
use Rattle.std.proofs.lemmas.Cmp.{nat_cmp_total}
use Rattle.std.specs.Cmp.{IsTotalOrder}
use Rattle.std.specs.declared.cmp.Ordering.{Ordering}
use Rattle.std.specs.List.{AllByRecursion}
use Rattle.std.specs.List.Sorted.{IsStrictlySortedBy}
use Rattle.std.specs.Ordering.{nat_cmp}
use Rattle.entry_ref.proofs.Among.{Among-all}
use Rattle.entry_ref.specs.References.{buffer_of}
use Rattle.entry_ref.specs.Records.{Among, Records}
use Rattle.tree_read.specs.Keys.{seen_by}
use Rattle.tree_read.specs.Pairs.{seek}
use Rattle.tree_read.specs.Trees.{by_number, last_key, tree_nodes, tree_pairs}
use Rattle.frozen_btree.specs.Paths.{path_nodes, NoneIn}
use Rattle.frozen_btree.proofs.WayLemmas.{stand_on_ways}
use Rattle.frozen_btree.specs.Ways.{keys_below, tree_keys}
use Rattle.compaction_moves.specs.Cleared.{IsClearedField}
use Rattle.compaction_moves.specs.Visits.{place_at_key, IsAmongKeys}
use Rattle.compaction_moves.proofs.BelowLemmas.{keys_of_tree}
use Rattle.compaction_moves.proofs.IndexClauses.{key_right, value_in_keys, key_left}
use Rattle.compaction_moves.proofs.IndexPairs.{InPairs}
use Rattle.attr_compaction.specs.Places.{doc_in, value_in, PlanPlace}
use Rattle.attr_compaction.specs.declared.plan.PlanKey.{PlanKey}
use Rattle.attr_compaction.specs.declared.plan.PlanKey.TheVariants as plan
use Rattle.attr_compaction.specs.declared.plan.TheConstants.{NODES}
use Rattle.attr_field.specs.Documents.{IsDocuments}
use Rattle.image_format.specs.Tables.{AttributeTrees}
use Rattle.image_format.specs.Values.{stored_value}
use Rattle.attr_types.specs.ProofsForOrder.{value_cmp_total}
use Rattle.attr_types.specs.Value.{type_of, value_cmp}
use Rattle.attr_types.specs.declared.kind.ValueType.{ValueType}
use Rattle.attr_types.specs.declared.value.Value.{Value as AnyValue}
use Rattle.enum_dictionary.proofs.BehindLemmas.{behind_apart, behind_equal}
use Rattle.enum_dictionary.specs.Dictionaries.{behind, beside_value}
use Rattle.attr_compaction.specs.PhaseKeys.{document_keys, node_phase_keys, phase_keys, value_keys}
use Rattle.value_index.specs.Indexes.{IsIndex}
use Rattle.compaction_steps.specs.Passes.{CanPass, GoesThrough, Passes}
use Rattle.compaction_steps.specs.Sights.{IsRun}
use Rattle.compaction_steps.specs.Ways.{IsWay, IsWayApart}
use Rattle.compaction_steps.proofs.BehindKeys.{docs_behind, values_behind}
use Rattle.compaction_steps.proofs.Cleared.{ascends, behind_in, found_in, key_in, other_documents, other_keys, other_lists, seek_in, take_in}
use Rattle.compaction_steps.proofs.ClearPassLemmas.{run_goes, run_length}
use Rattle.compaction_steps.proofs.Through.{keys_behind, past, visited_through}

-- ---- pairs and their keys
pair_at : (k : ℕ) (ps : List (ℕ × ℕ)) → Among k (map (λ p. p.0) ps) → (q : ℕ × ℕ) × InPairs q ps × (q.0 ≡ k)
pair_at k [] among = absurd among
pair_at k (p ∷ ps) (inl e) = (p, inl refl, sym e)
pair_at k (p ∷ ps) (inr later) = let found = pair_at k ps later in (found.0, inr found.1, found.2)

-- no value's key is a document's
no_document : (f : ℕ × ℕ → AnyValue) (doc : ℕ) (run : List (ℕ × ℕ)) → IsAmongKeys (plan.Doc doc) (map (λ p. plan.Value (f p)) run) → ⊥
no_document f doc [] among = among
no_document f doc (r ∷ run) (inl e) = cc
no_document f doc (r ∷ run) (inr later) = no_document f doc run later

no_value : (value : AnyValue) (run : List (ℕ × ℕ)) → IsAmongKeys (plan.Value value) (map (λ p. plan.Doc p.0) run) → ⊥
no_value value [] among = among
no_value value (r ∷ run) (inl e) = cc
no_value value (r ∷ run) (inr later) = no_value value run later

-- ---- what is cleared
module _ (bits victim : ℕ) (at : PlanPlace) (m : Records) (a : AttributeTrees) (to : PlanKey) (documents_are : IsDocuments a.kind a.type m a.documents)
    (index_is : IsIndex a.type m a.dictionary) (cleared : IsClearedField bits victim at at.stage.field m a) (phase : at.stage.phase ≡ NODES) (passed : List PlanKey)
    (through : GoesThrough (node_phase_keys a.type m a.documents a.dictionary) at.key passed to) where
  abbrev field : ℕ
  field = at.stage.field

  abbrev here : PlanPlace
  here = place_at_key at to

  abbrev values : List (ℕ × ℕ)
  values = tree_pairs m a.dictionary

  abbrev docs : List (ℕ × ℕ)
  docs = tree_pairs m a.documents

  abbrev read : ℕ × ℕ → AnyValue
  read p = stored_value a.type m p.0

  -- no node of the two trees that lies in the victim stands above one of these keys
  pub nodes_cleared : ((node key : ℕ) → Among node (tree_nodes m a.dictionary) → buffer_of bits node ≡ victim → Among key (keys_below m node) → Among key (tree_keys m a.dictionary)
      → IsAmongKeys (plan.Value (stored_value a.type m key)) passed → ⊥)
      → ((node key : ℕ) → Among node (tree_nodes m a.documents) → buffer_of bits node ≡ victim → Among key (keys_below m node) → Among key (tree_keys m a.documents)
      → IsAmongKeys (plan.Doc key) passed → ⊥)
      → IsClearedField bits victim here field m a
  nodes_cleared no_value_node no_map_node = record {
    keys = other_keys bits victim at m a to documents_are index_is cleared (λ e. let f = sym phase ∙ e in omega arith);
    documents = other_documents bits victim at m a to documents_are index_is cleared (λ e. let f = sym phase ∙ e in omega arith);
    lists = other_lists bits victim at m a to documents_are index_is cleared (λ e. let f = sym phase ∙ e in omega arith);
    values = λ node among lies key below visited.
        let there = keys_of_tree m a.dictionary node key index_is.dictionary_is.tree_is.node among below in
        elim (visited_through at field NODES (node_phase_keys a.type m a.documents a.dictionary) passed to (plan.Value (stored_value a.type m key)) refl phase
        (ascends bits victim at m a to documents_are index_is cleared NODES) through
        (key_left (plan.Value (stored_value a.type m key)) (value_keys a.type m a.dictionary) (document_keys m a.documents) (value_in_keys a.type m key values there)) visited) [
          | inl was ↦ cleared.values node among lies key below was
          | inr one ↦ no_value_node node key among lies below there one
        ];
    map = λ node among lies key below visited.
        let there = keys_of_tree m a.documents node key documents_are.map_is.tree_is.node among below in
        let pair = pair_at key docs there in
        let is_key : IsAmongKeys (plan.Doc key) (document_keys m a.documents) =
        subst (λ (k : ℕ). IsAmongKeys (plan.Doc k) (document_keys m a.documents)) pair.2 (key_in (λ p. plan.Doc p.0) pair.0 docs pair.1) in
        elim (visited_through at field NODES (node_phase_keys a.type m a.documents a.dictionary) passed to (plan.Doc key) refl phase
        (ascends bits victim at m a to documents_are index_is cleared NODES) through
        (key_right (plan.Doc key) (value_keys a.type m a.dictionary) (document_keys m a.documents) is_key) visited) [
          | inl was ↦ cleared.map node among lies key below was
          | inr one ↦ no_map_node node key among lies below there one
        ];
  }

  pub value_nodes_cleared : (run : List (ℕ × ℕ)) → passed ≡ map (λ p. plan.Value (stored_value a.type m p.0)) run → ((r : ℕ × ℕ) → InPairs r run → InPairs r values)
      → AllByRecursion (IsWayApart bits victim value_cmp (stored_value a.type) m a.dictionary) run → IsClearedField bits victim here field m a
  value_nodes_cleared run is are apart = nodes_cleared
      (λ node key among lies below there one.
      let pair = pair_at key values there in
      let way = found_in value_cmp value_cmp_total read (IsWayApart bits victim value_cmp (stored_value a.type) m a.dictionary) (λ p. plan.Value (stored_value a.type m p.0))
      (plan.Value (stored_value a.type m key)) pair.0 values run index_is.dictionary_is.tree_is.ascends
      (λ r e. ap (λ (k : ℕ). stored_value a.type m k) pair.2 ∙ ap value_in e) pair.1 are apart (subst (IsAmongKeys (plan.Value (stored_value a.type m key))) is one) in
      Among-all (λ r. buffer_of bits r ≢ victim) (path_nodes m (seen_by (stored_value a.type) value_cmp (stored_value a.type m key) m) a.dictionary)
      (subst (λ (k : ℕ). NoneIn bits victim (path_nodes m (seen_by (stored_value a.type) value_cmp (stored_value a.type m k) m) a.dictionary)) pair.2 way) node
      (stand_on_ways value_cmp value_cmp_total (stored_value a.type) m a.dictionary node key index_is.dictionary_is.tree_is among below) lies)
      (λ node key among lies below there one. no_document read key run (subst (IsAmongKeys (plan.Doc key)) is one))

  pub map_nodes_cleared : (run : List (ℕ × ℕ)) → passed ≡ map (λ p. plan.Doc p.0) run → ((r : ℕ × ℕ) → InPairs r run → InPairs r docs)
      → AllByRecursion (IsWayApart bits victim nat_cmp by_number m a.documents) run → IsClearedField bits victim here field m a
  map_nodes_cleared run is are apart = nodes_cleared
      (λ node key among lies below there one. no_value (stored_value a.type m key) run (subst (IsAmongKeys (plan.Value (stored_value a.type m key))) is one))
      (λ node key among lies below there one.
      let pair = pair_at key docs there in
      let way = found_in nat_cmp nat_cmp_total (λ (p : ℕ × ℕ). p.0) (IsWayApart bits victim nat_cmp by_number m a.documents) (λ p. plan.Doc p.0)
      (plan.Doc key) pair.0 docs run documents_are.map_is.tree_is.ascends
      (λ r e. pair.2 ∙ ap doc_in e) pair.1 are apart (subst (IsAmongKeys (plan.Doc key)) is one) in
      Among-all (λ r. buffer_of bits r ≢ victim) (path_nodes m (seen_by by_number nat_cmp (by_number m key) m) a.documents)
      (subst (λ (k : ℕ). NoneIn bits victim (path_nodes m (seen_by by_number nat_cmp (by_number m k) m) a.documents)) pair.2 way) node
      (stand_on_ways nat_cmp nat_cmp_total by_number m a.documents node key documents_are.map_is.tree_is among below) lies)

-- ---- a run behind the key
tail_last : (x : ℕ × ℕ) (n : ℕ) (xs : List (ℕ × ℕ)) → 0 < n → n ≤ length xs → last_key (x ∷ take n xs) ≡ last_key (take n xs)
tail_last x zero xs some few = absurd (omega arith)
tail_last x (suc n) [] some few = absurd (omega arith)
tail_last x (suc n) (y ∷ ys) some few = refl

run_tail : (P : ℕ × ℕ → Type 0) (xs : List (ℕ × ℕ)) (n last : ℕ) → 0 < n → IsRun P xs (suc n) last → IsRun P (drop 1 xs) n last
run_tail P [] n last some run = absurd (let few = run.few in omega arith)
run_tail P (x ∷ xs) n last some run =
    let few : n ≤ length xs = (let more = run.few in omega arith) in
    record { few = few; all = run.all.1; last_is = run.last_is ∙ tail_last x n xs some few }

module _ {V : Type 0} (order : V → V → Ordering) (total : IsTotalOrder order) (reads : ℕ → V) (s : V) where
  pub way_behind : (P : ℕ × ℕ → Type 0) (ps : List (ℕ × ℕ)) (pairs last : ℕ) (found : Bool) (count : ℕ) → IsStrictlySortedBy order (map (λ p. reads p.0) ps)
      → IsWay P (λ k. order (reads k) s) ps pairs last found → count ≡ cond found (pairs - 1) pairs → 0 < count → IsRun P (behind (λ k. order (reads k) s) ps) count last
  way_behind P ps pairs last true count up way is some =
      let at = way.at refl in
      subst (λ qs. IsRun P qs count last) (sym (behind_equal order total reads s ps up at.1))
      (run_tail P (seek (λ k. order (reads k) s) ps) count last some (subst (λ (n : ℕ). IsRun P (seek (λ k. order (reads k) s) ps) n last) (let one = at.0 in omega arith) way.run))
  way_behind P ps pairs last false count up way is some =
      subst (λ qs. IsRun P qs count last) (sym (behind_apart (λ k. order (reads k) s) ps (way.past refl (omega arith))))
      (subst (λ (n : ℕ). IsRun P (seek (λ k. order (reads k) s) ps) n last) (sym is) way.run)

-- ---- values, and then documents
pub front_behind : (key : PlanKey) (xs ys : List PlanKey) → 0 < length (keys_behind key xs) → keys_behind key (xs ++ ys) ≡ keys_behind key xs ++ ys
front_behind key [] ys some = absurd (omega arith)
front_behind key (x ∷ xs) ys some = told (front_behind key xs ys) (past key x) some
  where
    told : (0 < length (keys_behind key xs) → keys_behind key (xs ++ ys) ≡ keys_behind key xs ++ ys) → (t : Bool) → 0 < length (cond t (x ∷ xs) (keys_behind key xs))
        → cond t (x ∷ (xs ++ ys)) (keys_behind key (xs ++ ys)) ≡ cond t (x ∷ xs) (keys_behind key xs) ++ ys
    told more true some = refl
    told more false some = more some

values_skipped : (f : ℕ × ℕ → AnyValue) (doc : ℕ) (ps : List (ℕ × ℕ)) (ys : List PlanKey) → keys_behind (plan.Doc doc) (map (λ p. plan.Value (f p)) ps ++ ys) ≡ keys_behind (plan.Doc doc) ys
values_skipped f doc [] ys = refl
values_skipped f doc (p ∷ ps) ys = values_skipped f doc ps ys

pub parts_more : (f : ℕ × ℕ → PlanKey) (n : ℕ) (ps : List (ℕ × ℕ)) (ys : List PlanKey) → map f ps ++ ys ≡ map f (take n ps) ++ (map f (drop n ps) ++ ys)
parts_more f zero ps ys = refl
parts_more f (suc n) [] ys = refl
parts_more f (suc n) (p ∷ ps) ys = ap (λ (ks : List PlanKey). f p ∷ ks) (parts_more f n ps ys)

pub mapped_some : (f : ℕ × ℕ → PlanKey) (n : ℕ) (ps : List (ℕ × ℕ)) → 0 < n → n ≤ length ps → 0 < length (map f ps)
mapped_some f n [] some few = absurd (omega arith)
mapped_some f n (p ∷ ps) some few = omega arith

module _ (bits victim : ℕ) (at : PlanPlace) (m : Records) (a : AttributeTrees) (count last : ℕ) (some : 0 < count) where
  pub value_nodes_pass : (value : AnyValue) → CanPass bits victim at m a NODES (plan.Value value)
      → IsRun (IsWayApart bits victim value_cmp (stored_value a.type) m a.dictionary) (behind (beside_value value m) (tree_pairs m a.dictionary)) count last
      → Passes bits victim at m a (plan.Value (stored_value a.type m last)) count
  value_nodes_pass value can run =
      let ps = behind (beside_value value m) (tree_pairs m a.dictionary) in
      let f : ℕ × ℕ → PlanKey = (λ p. plan.Value (stored_value a.type m p.0)) in
      let docs = document_keys m a.documents in
      let keys = node_phase_keys a.type m a.documents a.dictionary in
      let behind_values = values_behind a.type m value can.typed (tree_pairs m a.dictionary) in
      let filled : 0 < length (keys_behind (plan.Value value) (value_keys a.type m a.dictionary)) =
      subst (λ (ks : List PlanKey). 0 < length ks) (sym behind_values) (mapped_some f count ps some run.few) in
      let goes : GoesThrough keys at.key (map f (take count ps)) (plan.Value (stored_value a.type m last)) =
      run_goes bits victim at m a count last some (λ k. plan.Value (stored_value a.type m k)) ps keys run.few run.last_is (map f (drop count ps) ++ docs)
      (ascends bits victim at m a (plan.Value (stored_value a.type m last)) can.documents_are can.index_is can.cleared NODES)
      (ap (λ (k : PlanKey). keys_behind k keys) can.key_is
      ∙ front_behind (plan.Value value) (value_keys a.type m a.dictionary) docs filled
      ∙ ap (λ (ks : List PlanKey). ks ++ docs) behind_values ∙ parts_more f count ps docs) in
      record {
        some = some;
        passed = map f (take count ps);
        count_is = run_length f count ps run.few;
        through = subst (λ (p : ℕ). GoesThrough (phase_keys a.type m a.documents a.dictionary p) at.key (map f (take count ps)) (plan.Value (stored_value a.type m last))) (sym can.phase_is) goes;
        cleared = value_nodes_cleared bits victim at m a (plan.Value (stored_value a.type m last)) can.documents_are can.index_is can.cleared can.phase_is (map f (take count ps)) goes (take count ps) refl
            (λ r within. behind_in (beside_value value m) r (tree_pairs m a.dictionary) (take_in r count ps within)) run.all;
      }

  pub map_nodes_pass : (doc : ℕ) → CanPass bits victim at m a NODES (plan.Doc doc)
      → IsRun (IsWayApart bits victim nat_cmp by_number m a.documents) (seek (λ key. nat_cmp key (doc + 1)) (tree_pairs m a.documents)) count last
      → Passes bits victim at m a (plan.Doc last) count
  map_nodes_pass doc can run =
      let ps = seek (λ key. nat_cmp key (doc + 1)) (tree_pairs m a.documents) in
      let f : ℕ × ℕ → PlanKey = (λ p. plan.Doc p.0) in
      let keys = node_phase_keys a.type m a.documents a.dictionary in
      let goes : GoesThrough keys at.key (map f (take count ps)) (plan.Doc last) =
      run_goes bits victim at m a count last some (λ k. plan.Doc k) ps keys run.few run.last_is (map f (drop count ps) ++ [])
      (ascends bits victim at m a (plan.Doc last) can.documents_are can.index_is can.cleared NODES)
      (ap (λ (k : PlanKey). keys_behind k keys) can.key_is
      ∙ values_skipped (λ p. stored_value a.type m p.0) doc (tree_pairs m a.dictionary) (document_keys m a.documents)
      ∙ docs_behind doc (tree_pairs m a.documents) ∙ no_more (map f ps) ∙ parts_more f count ps []) in
      record {
        some = some;
        passed = map f (take count ps);
        count_is = run_length f count ps run.few;
        through = subst (λ (p : ℕ). GoesThrough (phase_keys a.type m a.documents a.dictionary p) at.key (map f (take count ps)) (plan.Doc last)) (sym can.phase_is) goes;
        cleared = map_nodes_cleared bits victim at m a (plan.Doc last) can.documents_are can.index_is can.cleared can.phase_is (map f (take count ps)) goes (take count ps) refl
            (λ r within. seek_in (λ key. nat_cmp key (doc + 1)) r (tree_pairs m a.documents) (take_in r count ps within)) run.all;
      }
    where
      no_more : (ks : List PlanKey) → ks ≡ ks ++ []
      no_more [] = refl
      no_more (k ∷ ks) = ap (λ (xs : List PlanKey). k ∷ xs) (no_more ks)

-- what a value's way tells of the pairs behind the value
pub value_way_behind : (bits buffer : ℕ) (m : Records) (root : ℕ) (type : ValueType) (value : AnyValue) → type_of value ≡ type
    → IsStrictlySortedBy value_cmp (map (λ p. stored_value type m p.0) (tree_pairs m root)) → (pairs last : ℕ) (found : Bool) (count : ℕ)
    → IsWay (IsWayApart bits buffer value_cmp (stored_value (type_of value)) m root) (beside_value value m) (tree_pairs m root) pairs last found
    → count ≡ cond found (pairs - 1) pairs → 0 < count
    → IsRun (IsWayApart bits buffer value_cmp (stored_value type) m root) (behind (beside_value value m) (tree_pairs m root)) count last
value_way_behind bits buffer m root type value typed up pairs last found count way is some =
    subst (λ (t : ValueType). IsRun (IsWayApart bits buffer value_cmp (stored_value t) m root) (behind (beside_value value m) (tree_pairs m root)) count last) typed
    (way_behind value_cmp value_cmp_total (stored_value (type_of value) m) value (IsWayApart bits buffer value_cmp (stored_value (type_of value)) m root) (tree_pairs m root) pairs last found count
    (subst (λ (t : ValueType). IsStrictlySortedBy value_cmp (map (λ (p : ℕ × ℕ). stored_value t m p.0) (tree_pairs m root))) (sym typed) up) way is some)
