-- The items of a document were moved.
use Rattle.std.proofs.Common.{◌≡◌, ◌≢◌, ℕ, suc, ◌<◌, List, [], ◌∷◌, map, Option, None, Some, Less, Equal, Greater, inl, inr, refl, sym, ap, subst, ◌∙◌, arith}
use Rattle.std.specs.Prelude.{unwrap_or}
use Rattle.std.specs.Cmp.{ranks}
use Rattle.std.specs.List.{AllByRecursion}
use Rattle.std.specs.List.Sorted.{IsStrictlySortedBy}
use Rattle.std.specs.Ordering.{nat_cmp, MatchOrdering}
use Rattle.std.specs.declared.cmp.Ordering.{Ordering}
use Rattle.compaction_moves.proofs.IndexClauses.{items_stay}
use Rattle.entry_ref.specs.Records.{Records, SameAt}
use Rattle.tree_read.specs.Pairs.{choose, lookup, take_out}
use Rattle.store_api.specs.Ledgers.{Ledger}
use Rattle.tree_read.specs.ProofsForTrees.{all-same}
use Rattle.tree_read.specs.Trees.{tree_pairs}
use Rattle.doc_vector.specs.Documents.{beside_document}
use Rattle.image_format.specs.Tables.{AttributeTrees}
use Rattle.image_format.specs.Values.{stored_value}
use Rattle.attr_field.specs.Documents.{items_own}
use Rattle.value_index.specs.Indexes.{index_reach}
use Rattle.attr_compaction.specs.Places.{doc_in, key_cmp, PlanPlace}
use Rattle.attr_compaction.specs.declared.plan.PlanKey.{PlanKey}
use Rattle.attr_compaction.specs.declared.plan.PlanKey.TheVariants.{Value, Doc}
use Rattle.attr_compaction.specs.declared.plan.TheConstants.{DOCUMENTS, KEYS, LISTS, NODES}
use Rattle.attr_compaction.proofs.OrderLemmas.{phase_ascends}
use Rattle.attr_compaction.specs.PhaseKeys.{document_keys, key_past, phase_keys}
use Rattle.compaction_moves.specs.DocumentMoves.{AreItemsApart, MovesItems}
use Rattle.compaction_moves.specs.Cleared.{IsClearedField, IsVisited}
use Rattle.compaction_moves.proofs.PlanVisits.{all_keys_of, next_visited, none_behind, others_visited}
use Rattle.compaction_moves.specs.Visits.{place_at_key, IsAmongKeys}
use Rattle.compaction_moves.specs.DocumentsCleared.{with_documents, AreTrees, IsNext, ItemsAreCleared}
use Rattle.compaction_moves.proofs.DocumentsIndex.{keys_stay, lists_stay, values_stay}

-- ---- pairs but for one document's
module _ (P : ℕ × ℕ → Type 0) (doc : ℕ) where
  above_apart : (k : ℕ) (ps : List (ℕ × ℕ)) → doc < suc k → AllByRecursion (λ x. nat_cmp k x ≡ Less) (map (λ p. p.0) ps) → AllByRecursion (λ p. p.0 ≢ doc → P p) ps
      → AllByRecursion P ps
  above_apart k [] up above all = tt
  above_apart k (p ∷ ps) up above all = (all.0 (told (nat_cmp k p.0) above.0 (ranks k p.0)), above_apart k ps up above.1 all.1)
    where
      told : (o : Ordering) → o ≡ Less → MatchOrdering o (k < p.0) (k ≡ p.0) (p.0 < k) → p.0 ≢ doc
      told Less e rank same = omega arith
      told Equal e rank same = grind (arith, e)
      told Greater e rank same = grind (arith, e)

  -- what holds of the pairs of all other documents holds of those that are left
  pub all_but : (ps : List (ℕ × ℕ)) → IsStrictlySortedBy nat_cmp (map (λ p. p.0) ps) → AllByRecursion (λ p. p.0 ≢ doc → P p) ps → AllByRecursion P (take_out (beside_document doc) ps)
  unfolding IsStrictlySortedBy
  all_but [] up all = tt
  all_but (p ∷ ps) up all = told (all_but ps up.1 all.1) (nat_cmp p.0 doc) (ranks p.0 doc)
    where
      told : AllByRecursion P (take_out (beside_document doc) ps) → (o : Ordering) → MatchOrdering o (p.0 < doc) (p.0 ≡ doc) (doc < p.0)
          → AllByRecursion P (choose o (p ∷ take_out (beside_document doc) ps) ps (p ∷ ps))
      told later Less rank = (all.0 (λ same. omega arith), later)
      told later Equal rank = above_apart p.0 ps (omega arith) up.0 all.1
      told later Greater rank = (all.0 (λ same. omega arith), above_apart p.0 ps (omega arith) up.0 all.1)

  -- and with the pair of the document itself it holds of all
  pub all_with : (ps : List (ℕ × ℕ)) → ((ref : ℕ) → lookup (beside_document doc) ps ≡ Some ref → P (doc, ref)) → AllByRecursion P (take_out (beside_document doc) ps) → AllByRecursion P ps
  all_with [] here all = tt
  all_with (p ∷ ps) here all = told (λ h rest. all_with ps h rest) (nat_cmp p.0 doc) refl (ranks p.0 doc) here all
    where
      told : (((ref : ℕ) → lookup (beside_document doc) ps ≡ Some ref → P (doc, ref)) → AllByRecursion P (take_out (beside_document doc) ps) → AllByRecursion P ps)
          → (o : Ordering) → nat_cmp p.0 doc ≡ o → MatchOrdering o (p.0 < doc) (p.0 ≡ doc) (doc < p.0)
          → ((ref : ℕ) → choose o (lookup (beside_document doc) ps) (Some p.1) None ≡ Some ref → P (doc, ref))
          → AllByRecursion P (choose o (p ∷ take_out (beside_document doc) ps) ps (p ∷ ps)) → AllByRecursion P (p ∷ ps)
      told rest Less e rank h all = (all.0, rest h all.1)
      told rest Equal e rank h all = (subst (λ (d : ℕ). P (d, p.1)) (sym rank) (h p.1 refl), all)
      told rest Greater e rank h all = all

-- what is told of each pair with its key among the keys
all_keyed : (P Q : ℕ × ℕ → Type 0) (keys : List PlanKey) → ((p : ℕ × ℕ) → IsAmongKeys (Doc p.0) keys → P p → Q p) → (ps : List (ℕ × ℕ))
    → AllByRecursion (λ p. IsAmongKeys (Doc p.0) keys) ps → AllByRecursion P ps → AllByRecursion Q ps
all_keyed P Q keys each [] among all = tt
all_keyed P Q keys each (p ∷ ps) among all = (each p among.0 all.0, all_keyed P Q keys each ps among.1 all.1)

module _ {H : Type 0} (bits victim field doc next : ℕ) (at : PlanPlace) (a : AttributeTrees) (old new : Ledger H) (m n : Records) (ef : at.stage.field ≡ field)
    (ep : at.stage.phase ≡ DOCUMENTS) (is_next : IsNext at m a (Doc doc)) (are : AreTrees m a) (same : SameAt (index_reach m a.dictionary) m n)
    (moves : MovesItems bits victim doc a.kind a.type old new m n a.documents a.dictionary next) (cleared : IsClearedField bits victim at field m a) where
  abbrev to : PlanPlace
  to = place_at_key at (Doc doc)

  abbrev ps : List (ℕ × ℕ)
  ps = tree_pairs m a.documents

  abbrev docs : List PlanKey
  docs = document_keys m a.documents

  found : key_past at.key docs ≡ Some (Doc doc)
  found = subst (λ (phase : ℕ). key_past at.key (phase_keys a.type m a.documents a.dictionary phase) ≡ Some (Doc doc)) ep is_next

  up : IsStrictlySortedBy key_cmp docs
  up = phase_ascends a.type m a.documents a.dictionary DOCUMENTS are.documents_are.map_is are.index_is

  other : (phase : ℕ) (k : PlanKey) → DOCUMENTS ≢ phase → IsVisited to field phase k → IsVisited at field phase k
  other phase k apart visited = others_visited at (Doc doc) field phase k (inr (λ e. apart (sym ep ∙ e))) visited

  -- ---- documents
  abbrev Was : ℕ × ℕ → Type 0
  Was p = IsVisited at field DOCUMENTS (Doc p.0) → AreItemsApart bits victim a.kind m p.1

  abbrev Still : ℕ × ℕ → Type 0
  Still p = IsVisited to field DOCUMENTS (Doc p.0) → AreItemsApart bits victim a.kind m p.1

  abbrev Now : ℕ × ℕ → Type 0
  Now p = IsVisited to field DOCUMENTS (Doc p.0) → AreItemsApart bits victim a.kind n p.1

  still : (p : ℕ × ℕ) → IsAmongKeys (Doc p.0) docs → Was p → p.0 ≢ doc → Still p
  still p among was apart visited = elim (next_visited at field DOCUMENTS docs (Doc doc) (Doc p.0) ef ep found up among visited) [
    | inl before ↦ was before
    | inr e ↦ absurd (apart (ap doc_in e))
  ]

  others : AllByRecursion Now (take_out (beside_document doc) ps)
  others = all-same m n (λ (p : ℕ × ℕ). items_own a.kind p.1) Still Now (λ p words h visited. items_stay bits victim a.kind m n p.1 words (h visited)) (take_out (beside_document doc) ps) moves.stay
      (all_but Still doc ps are.documents_are.map_is.tree_is.ascends
      (all_keyed Was (λ p. p.0 ≢ doc → Still p) docs still ps (all_keys_of (λ (p : ℕ × ℕ). Doc p.0) ps) cleared.documents))

  moved : (ref : ℕ) → lookup (beside_document doc) (tree_pairs n next) ≡ Some ref → Now (doc, ref)
  moved ref e visited = subst (λ (o : Option ℕ). AreItemsApart bits victim a.kind n (unwrap_or o 0)) e moves.apart

  documents : AllByRecursion Now (tree_pairs n next)
  documents = all_with Now doc (tree_pairs n next) moved (subst (AllByRecursion Now) (sym moves.others) others)

  pub items_cleared : IsClearedField bits victim to field n (with_documents a next)
  items_cleared = record {
    keys = keys_stay bits victim field at to m n a.type a.dictionary are.index_is same (λ k. other KEYS k (λ e. omega arith)) cleared.keys;
    documents = documents;
    lists = lists_stay bits victim field at to m n a.type a.dictionary are.index_is same (λ k. other LISTS k (λ e. omega arith)) cleared.lists;
    values = values_stay bits victim field at to m n a.type a.dictionary are.index_is same
        (λ r among. other NODES (Value (stored_value a.type m r)) (λ e. omega arith)) cleared.values;
    map = λ node among lies key below visited. none_behind to field NODES (Doc key) (inr (ef, (let phase = ep in omega arith))) visited;
  }

pub items_are_cleared : (H : Type 0) → ItemsAreCleared H
items_are_cleared H bits victim field doc next at a old new m n ef ep is_next are same moves cleared =
    items_cleared bits victim field doc next at a old new m n ef ep is_next are same moves cleared
