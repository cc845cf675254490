-- What a move leaves of each clause: clauses of phases to come are void, and what stays is cleared as it was.
use Rattle.std.proofs.Common.{◌≡◌, ℕ, zero, suc, ◌*◌, ◌<◌, true, List, [], ◌∷◌, ◌++◌, map, Option, None, Some, option_map, inl, inr, refl, sym, ap, subst, ◌∙◌, arith}
use Rattle.std.specs.List.{flat_map, AllByRecursion}
use Rattle.list_lemmas.proofs.Options.{same_Some}
use Rattle.entry_ref.specs.Records.{Records, SameAt, Among}
use Rattle.tree_read.specs.Pairs.{lookup_pair}
use Rattle.store_api.specs.Ledgers.{Ledger}
use Rattle.store_api.specs.Parts.{Owns}
use Rattle.store_api.specs.Statuses.{in_use}
use Rattle.store_api.proofs.Times.{among-times}
use Rattle.store_api.proofs.Uses.{in-uses}
use Rattle.tree_read.specs.ProofsForTrees.{SameAt-left, SameAt-right, all-same, tree_pairs-same}
use Rattle.tree_read.specs.Trees.{tree_nodes, tree_pairs}
use Rattle.frozen_btree.specs.Paths.{NoneIn}
use Rattle.compaction_moves.specs.Cleared.{BlockIsVisited, IsVisited, ListIsCleared, NodesAreCleared}
use Rattle.attr_compaction.specs.Places.{PlanPlace}
use Rattle.attr_compaction.specs.declared.plan.PlanKey.{PlanKey}
use Rattle.attr_compaction.specs.declared.plan.PlanKey.TheVariants as plan
use Rattle.attr_compaction.specs.declared.plan.TheConstants.{DOCUMENTS, LISTS}
use Rattle.attr_field.specs.Documents.{documents_own, items_own, items_refer}
use Rattle.image_format.specs.Postings.{ListForm, short, tree, vector, dictionary_reach, list_form, postings_reach, IsPostingList}
use Rattle.image_format.specs.Values.{stored_value}
use Rattle.attr_types.specs.declared.kind.Kind.{Kind}
use Rattle.attr_types.specs.declared.kind.Kind.TheVariants.{Single, Array, WeightedSet}
use Rattle.attr_types.specs.declared.kind.ValueType.{ValueType}
use Rattle.attr_types.specs.declared.value.Value.{Value}
use Rattle.compaction_moves.specs.DocumentMoves.{AreItemsApart}
use Rattle.enum_dictionary.specs.Dictionaries.{beside_value}
use Rattle.value_index.specs.Indexes.{index_part, index_reach, key_at}
use Rattle.value_index.proofs.IndexLemmas.{pair_reach}
use Rattle.value_index.proofs.KeyLemmas.{among_left, among_right}
use Rattle.attr_compaction.specs.PhaseKeys.{keys_of_pairs}
use Rattle.posting_store.specs.Moves.{form_docs}
use Rattle.compaction_moves.specs.Visits.{IsAmongKeys}
use Rattle.compaction_moves.proofs.PlanVisits.{none_behind}
use Rattle.compaction_moves.proofs.BelowLemmas.{nodes_stay}
use Rattle.compaction_moves.proofs.BlockLemmas.{block_key, block_same, nodes_of_vector, start_in}
use Rattle.compaction_moves.proofs.IndexPairs.{InPairs}

-- ---- phases to come
module _ (bits victim field : ℕ) (at : PlanPlace) (m : Records) (same : at.stage.field ≡ field) where
  pub nodes_later : (phase : ℕ) (key : ℕ → PlanKey) (root : ℕ) → at.stage.phase < phase → NodesAreCleared bits victim m (λ k. IsVisited at field phase (key k)) root
  nodes_later phase key root less node among lies k below visited = none_behind at field phase (key k) (inr (same, less)) visited

  pub list_later : (value : Value) (form : ListForm) → at.stage.phase < LISTS → ListIsCleared bits victim at field m value form
  list_later value (short ref) less = λ visited. absurd (none_behind at field LISTS (plan.Pair value 0) (inr (same, less)) visited)
  list_later value (tree root) less = nodes_later LISTS (λ doc. plan.Pair value doc) root less
  list_later value (vector root) less = record {
    nodes = nodes_later LISTS (λ k. plan.Pair value (4096 * k)) root less;
    blocks = λ k r there visited. absurd (none_behind at field LISTS (plan.Pair value (4096 * k)) (inr (same, less)) visited);
  }

-- ---- what stays
pub list_stays : (bits victim field : ℕ) (at next : PlanPlace) (m n : Records) (value : Value) (form : ListForm) → SameAt (postings_reach m form) m n → IsPostingList m form
    → ((doc : ℕ) → Among doc (form_docs m form) → IsVisited next field LISTS (plan.Pair value doc) → IsVisited at field LISTS (plan.Pair value doc))
    → ListIsCleared bits victim at field m value form → ListIsCleared bits victim next field n value form
list_stays bits victim field at next m n value (short ref) same is still cleared = λ visited. cleared (still 0 (inl refl) visited)
list_stays bits victim field at next m n value (tree root) same is still cleared =
    nodes_stay bits victim m n root is.0.node same (λ doc. IsVisited at field LISTS (plan.Pair value doc)) (λ doc. IsVisited next field LISTS (plan.Pair value doc)) still cleared
list_stays bits victim field at next m n value (vector root) same is still cleared =
    let nodes = nodes_of_vector m n root same in
    record {
      nodes = nodes_stay bits victim m n root is.0.node nodes (BlockIsVisited at field value) (BlockIsVisited next field value)
          (λ k there visited. still (4096 * k) (start_in k (tree_pairs m root) there) visited) cleared.nodes;
      blocks = λ k r there visited.
          let was = sym (block_same m n root k nodes) ∙ there in
          cleared.blocks k r was (still (4096 * k) (start_in k (tree_pairs m root) (block_key m root k r was)) visited);
    }

pub items_stay : (bits victim : ℕ) (kind : Kind) (m n : Records) (ref : ℕ) → SameAt (items_own kind ref) m n → AreItemsApart bits victim kind m ref → AreItemsApart bits victim kind n ref
items_stay bits victim kind m n zero same apart = record { own = apart.own; refer = apart.refer }
items_stay bits victim Single m n (suc ref) same apart = record { own = apart.own; refer = apart.refer }
items_stay bits victim Array m n (suc ref) same apart =
    record { own = apart.own; refer = subst (λ ws. NoneIn bits victim (items_refer Array (suc ref) ws)) (sym same.0) apart.refer }
items_stay bits victim WeightedSet m n (suc ref) same apart =
    record { own = apart.own; refer = subst (λ ws. NoneIn bits victim (items_refer WeightedSet (suc ref) ws)) (sym same.0) apart.refer }

module _ (bits victim field : ℕ) (at next : PlanPlace) (kind : Kind) (m n : Records) (documents : ℕ) where
  abbrev pub DocumentIsCleared : PlanPlace → Records → ℕ × ℕ → Type 0
  DocumentIsCleared place o p = IsVisited place field DOCUMENTS (plan.Doc p.0) → AreItemsApart bits victim kind o p.1

  pub documents_stay : SameAt (documents_own kind m documents) m n → ((doc : ℕ) → IsVisited at field DOCUMENTS (plan.Doc doc))
      → AllByRecursion (DocumentIsCleared at m) (tree_pairs m documents) → AllByRecursion (DocumentIsCleared next n) (tree_pairs n documents)
  documents_stay same before all =
      let nodes = SameAt-left m n (tree_nodes m documents) (flat_map (λ (p : ℕ × ℕ). items_own kind p.1) (tree_pairs m documents)) same in
      let own = SameAt-right m n (tree_nodes m documents) (flat_map (λ (p : ℕ × ℕ). items_own kind p.1) (tree_pairs m documents)) same in
      subst (AllByRecursion (DocumentIsCleared next n)) (sym (tree_pairs-same m n documents nodes))
      (all-same m n (λ (p : ℕ × ℕ). items_own kind p.1) (DocumentIsCleared at m) (DocumentIsCleared next n)
      (λ p stays apart visited. items_stay bits victim kind m n p.1 stays (apart (before p.0))) (tree_pairs m documents) own all)

-- ---- what an index owns is in use
pair_reached : (f : ℕ × ℕ → List ℕ) (r : ℕ) (q : ℕ × ℕ) (ps : List (ℕ × ℕ)) → InPairs q ps → Among r (f q) → Among r (flat_map f ps)
pair_reached f r q [] within among = absurd within
pair_reached f r q (p ∷ ps) (inl e) among = among_left r (f p) (flat_map f ps) (subst (λ (x : ℕ × ℕ). Among r (f x)) e among)
pair_reached f r q (p ∷ ps) (inr later) among = among_right r (f p) (flat_map f ps) (pair_reached f r q ps later among)

module _ {H : Type 0} (ledger : Ledger H) (m : Records) (root : ℕ) (owns : Owns ledger m (index_part root ∷ [])) (r : ℕ) where
  owned_used : Among r (index_reach m root) → in_use (ledger.status r) ≡ true
  owned_used among =
      let each = owns.each r in
      let some = among-times r (index_reach m root) among in
      in-uses ledger r (omega arith)

  pub node_used : Among r (tree_nodes m root) → in_use (ledger.status r) ≡ true
  node_used among = owned_used (among_left r (tree_nodes m root) (dictionary_reach m root) among)

  pub list_used : (q : ℕ × ℕ) → InPairs q (tree_pairs m root) → Among r (postings_reach m (list_form q.1)) → in_use (ledger.status r) ≡ true
  list_used q within among = owned_used (among_right r (tree_nodes m root) (dictionary_reach m root) (pair_reached (pair_reach m) r q (tree_pairs m root) within (inr among)))

pub pair_of_key : (value : Value) (m : Records) (root k : ℕ) → key_at value m root ≡ Some k → (p : ℕ × ℕ) × (lookup_pair (beside_value value m) (tree_pairs m root) ≡ Some p) × (p.0 ≡ k)
pair_of_key value m root k is = told (lookup_pair (beside_value value m) (tree_pairs m root)) refl is
  where
    told : (found : Option (ℕ × ℕ)) → lookup_pair (beside_value value m) (tree_pairs m root) ≡ found → option_map (λ (p : ℕ × ℕ). p.0) found ≡ Some k
        → (p : ℕ × ℕ) × (lookup_pair (beside_value value m) (tree_pairs m root) ≡ Some p) × (p.0 ≡ k)
    told None e none = absurd (grind (arith, none))
    told (Some p) e some = (p, e, same_Some p.0 k some)

-- ---- keys of pairs
pub key_left : (k : PlanKey) (xs ys : List PlanKey) → IsAmongKeys k xs → IsAmongKeys k (xs ++ ys)
key_left k [] ys among = absurd among
key_left k (x ∷ xs) ys (inl e) = inl e
key_left k (x ∷ xs) ys (inr later) = inr (key_left k xs ys later)

pub key_right : (k : PlanKey) (xs ys : List PlanKey) → IsAmongKeys k ys → IsAmongKeys k (xs ++ ys)
key_right k [] ys among = among
key_right k (x ∷ xs) ys among = inr (key_right k xs ys among)

doc_key : (value : Value) (d : ℕ) (docs : List ℕ) → Among d docs → IsAmongKeys (plan.Pair value d) (map (λ doc. plan.Pair value doc) docs)
doc_key value d [] among = absurd among
doc_key value d (x ∷ docs) (inl e) = inl (ap (λ (y : ℕ). plan.Pair value y) e)
doc_key value d (x ∷ docs) (inr later) = inr (doc_key value d docs later)

pub pair_in : (type : ValueType) (m : Records) (q : ℕ × ℕ) (d : ℕ) (ps : List (ℕ × ℕ)) → InPairs q ps → Among d (form_docs m (list_form q.1))
    → IsAmongKeys (plan.Pair (stored_value type m q.0) d) (keys_of_pairs type m ps)
pair_in type m q d [] within among = absurd within
pair_in type m q d (p ∷ ps) (inl e) among =
    subst (λ (x : ℕ × ℕ). IsAmongKeys (plan.Pair (stored_value type m x.0) d) (keys_of_pairs type m (p ∷ ps))) (sym e)
    (key_left (plan.Pair (stored_value type m p.0) d) (map (λ doc. plan.Pair (stored_value type m p.0) doc) (form_docs m (list_form p.1))) (keys_of_pairs type m ps)
    (doc_key (stored_value type m p.0) d (form_docs m (list_form p.1)) (subst (λ (x : ℕ × ℕ). Among d (form_docs m (list_form x.1))) e among)))
pair_in type m q d (p ∷ ps) (inr later) among =
    key_right (plan.Pair (stored_value type m q.0) d) (map (λ doc. plan.Pair (stored_value type m p.0) doc) (form_docs m (list_form p.1))) (keys_of_pairs type m ps)
    (pair_in type m q d ps later among)

pub value_in_keys : (type : ValueType) (m : Records) (k : ℕ) (ps : List (ℕ × ℕ)) → Among k (map (λ p. p.0) ps) → IsAmongKeys (plan.Value (stored_value type m k)) (map (λ p. plan.Value (stored_value type m p.0)) ps)
value_in_keys type m k [] among = absurd among
value_in_keys type m k (p ∷ ps) (inl e) = inl (ap (λ (y : ℕ). plan.Value (stored_value type m y)) e)
value_in_keys type m k (p ∷ ps) (inr later) = inr (value_in_keys type m k ps later)
