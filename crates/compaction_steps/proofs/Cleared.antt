-- What was cleared up to a place is so up to a key past it, where nothing under the keys between lies in the victim.
use Rattle.std.proofs.Common.{◌≡◌, ◌≢◌, ◌⊎◌, ℕ, zero, suc, ◌*◌, List, [], ◌∷◌, map, take, Less, Equal, Greater, is_lt, inl, inr, refl, sym, ap, subst, ◌∙◌, true≢false, arith}
use Rattle.std.proofs.lemmas.Cmp.{tied_itself, nat_cmp_total}
use Rattle.std.specs.Cmp.{IsTotalOrder}
use Rattle.std.specs.declared.cmp.Ordering.{Ordering}
use Rattle.std.specs.List.{AllByRecursion}
use Rattle.std.specs.List.Sorted.{IsStrictlySortedBy}
use Rattle.std.specs.Ordering.{nat_cmp}
use Rattle.entry_ref.specs.References.{buffer_of}
use Rattle.entry_ref.specs.Records.{Among, Records}
use Rattle.tree_read.specs.Pairs.{choose, seek}
use Rattle.tree_read.specs.Trees.{tree_pairs}
use Rattle.compaction_moves.specs.Cleared.{IsClearedField, IsVisited, ListIsCleared, NodesAreCleared}
use Rattle.compaction_moves.specs.Visits.{place_at_key, IsAmongKeys}
use Rattle.compaction_moves.proofs.BlockLemmas.{block_key, start_in}
use Rattle.compaction_moves.proofs.BelowLemmas.{keys_of_tree}
use Rattle.compaction_moves.proofs.IndexClauses.{pair_in}
use Rattle.compaction_moves.proofs.IndexPairs.{InPairs, at_pair, each_pair}
use Rattle.compaction_moves.proofs.PlanVisits.{others_visited}
use Rattle.attr_compaction.specs.Places.{doc_in, value_in, PlanPlace}
use Rattle.attr_compaction.specs.declared.plan.PlanKey.{PlanKey}
use Rattle.attr_compaction.specs.declared.plan.PlanKey.TheVariants as plan
use Rattle.attr_compaction.specs.declared.plan.TheConstants.{DOCUMENTS, KEYS, LISTS, NODES}
use Rattle.attr_field.specs.Documents.{IsDocuments}
use Rattle.image_format.specs.Postings.{ListForm, short, tree, vector, list_form, IsPostingList}
use Rattle.image_format.specs.Tables.{AttributeTrees}
use Rattle.image_format.specs.Values.{stored_value}
use Rattle.attr_types.specs.ProofsForOrder.{value_cmp_total}
use Rattle.attr_types.specs.Value.{value_cmp}
use Rattle.attr_types.specs.declared.value.Value.{Value as AnyValue}
use Rattle.compaction_moves.specs.DocumentMoves.{AreItemsApart}
use Rattle.enum_dictionary.specs.Dictionaries.{behind}
use Rattle.attr_compaction.proofs.OrderLemmas.{phase_ascends}
use Rattle.attr_compaction.specs.PhaseKeys.{document_keys, pair_keys, phase_keys, value_keys}
use Rattle.posting_store.specs.Moves.{form_docs}
use Rattle.value_index.specs.Indexes.{IsIndex, IsValuePair}
use Rattle.compaction_steps.specs.Passes.{GoesThrough}
use Rattle.compaction_steps.specs.Sights.{IsRecordApart}
use Rattle.compaction_steps.proofs.Through.{visited_through, Up}

-- ---- pairs of a list
pub take_in : (q : ℕ × ℕ) (n : ℕ) (ps : List (ℕ × ℕ)) → InPairs q (take n ps) → InPairs q ps
take_in q zero ps within = absurd within
take_in q (suc n) [] within = absurd within
take_in q (suc n) (p ∷ ps) (inl e) = inl e
take_in q (suc n) (p ∷ ps) (inr later) = inr (take_in q n ps later)

pub behind_in : (c : ℕ → Ordering) (q : ℕ × ℕ) (ps : List (ℕ × ℕ)) → InPairs q (behind c ps) → InPairs q ps
behind_in c q [] within = within
behind_in c q (p ∷ ps) within =
    (elim (c p.0) as (λ o. InPairs q (choose o (behind c ps) (behind c ps) (p ∷ ps)) → InPairs q (p ∷ ps)) [
      | Less ↦ λ h. inr (behind_in c q ps h)
      | Equal ↦ λ h. inr (behind_in c q ps h)
      | Greater ↦ λ h. h
    ]) within

pub seek_in : (c : ℕ → Ordering) (q : ℕ × ℕ) (ps : List (ℕ × ℕ)) → InPairs q (seek c ps) → InPairs q ps
seek_in c q [] within = within
seek_in c q (p ∷ ps) within =
    (elim (c p.0) as (λ o. InPairs q (choose o (seek c ps) (p ∷ ps) (p ∷ ps)) → InPairs q (p ∷ ps)) [
      | Less ↦ λ h. inr (seek_in c q ps h)
      | Equal ↦ λ h. h
      | Greater ↦ λ h. h
    ]) within

pub key_in : (f : ℕ × ℕ → PlanKey) (q : ℕ × ℕ) (ps : List (ℕ × ℕ)) → InPairs q ps → IsAmongKeys (f q) (map f ps)
key_in f q [] within = absurd within
key_in f q (p ∷ ps) (inl e) = inl (ap f e)
key_in f q (p ∷ ps) (inr later) = inr (key_in f q ps later)

-- ---- no two pairs read the same
module _ {V : Type 0} (order : V → V → Ordering) (total : IsTotalOrder order) (g : ℕ × ℕ → V) where
  apart_from : (p : ℕ × ℕ) (ps : List (ℕ × ℕ)) → AllByRecursion (λ w. order (g p) w ≡ Less) (map g ps) → (q : ℕ × ℕ) → InPairs q ps → g p ≡ g q → ⊥
  apart_from p [] all q within same = within
  apart_from p (x ∷ ps) all q (inl e) same =
      true≢false (sym (ap is_lt (subst (λ v. order (g p) v ≡ Less) (ap g (sym e) ∙ sym same) all.0)) ∙ ap is_lt (tied_itself total (g p)))
  apart_from p (x ∷ ps) all q (inr later) same = apart_from p ps all.1 q later same

  pub same_pair : (ps : List (ℕ × ℕ)) → IsStrictlySortedBy order (map g ps) → (p q : ℕ × ℕ) → InPairs p ps → InPairs q ps → g p ≡ g q → p ≡ q
  unfolding IsStrictlySortedBy
  same_pair [] up p q left right same = absurd left
  same_pair (x ∷ ps) up p q (inl e) (inl f) same = e ∙ sym f
  same_pair (x ∷ ps) up p q (inl e) (inr later) same = absurd (apart_from x ps up.0 q later (ap g (sym e) ∙ same))
  same_pair (x ∷ ps) up p q (inr later) (inl f) same = absurd (apart_from x ps up.0 p later (ap g (sym f) ∙ sym same))
  same_pair (x ∷ ps) up p q (inr left) (inr right) same = same_pair ps up.1 p q left right same

  -- a pair whose key is among those of others is one of these
  pub found_in : (P : ℕ × ℕ → Type 0) (f : ℕ × ℕ → PlanKey) (k : PlanKey) (q : ℕ × ℕ) (ps run : List (ℕ × ℕ)) → IsStrictlySortedBy order (map g ps)
      → ((r : ℕ × ℕ) → k ≡ f r → g q ≡ g r) → InPairs q ps → ((r : ℕ × ℕ) → InPairs r run → InPairs r ps) → AllByRecursion P run → IsAmongKeys k (map f run) → P q
  found_in P f k q ps [] up back within are all among = absurd among
  found_in P f k q ps (r ∷ run) up back within are all (inl e) =
      subst P (sym (same_pair ps up q r within (are r (inl refl)) (back r e))) all.0
  found_in P f k q ps (r ∷ run) up back within are all (inr later) = found_in P f k q ps run up back within (λ s h. are s (inr h)) all.1 later

-- ---- one attribute
module _ (bits victim : ℕ) (at : PlanPlace) (m : Records) (a : AttributeTrees) (to : PlanKey) (documents_are : IsDocuments a.kind a.type m a.documents)
    (index_is : IsIndex a.type m a.dictionary) (cleared : IsClearedField bits victim at at.stage.field m a) where
  abbrev pub field : ℕ
  field = at.stage.field

  abbrev pub here : PlanPlace
  here = place_at_key at to

  abbrev pub values : List (ℕ × ℕ)
  values = tree_pairs m a.dictionary

  abbrev pub docs : List (ℕ × ℕ)
  docs = tree_pairs m a.documents

  pub ascends : (phase : ℕ) → Up (phase_keys a.type m a.documents a.dictionary phase)
  ascends phase = phase_ascends a.type m a.documents a.dictionary phase documents_are.map_is index_is

  -- of another phase nothing more was visited
  other : (phase : ℕ) → at.stage.phase ≢ phase → (k : PlanKey) → IsVisited here field phase k → IsVisited at field phase k
  other phase apart k visited = others_visited at to field phase k (inr apart) visited

  abbrev pub KeyIs : PlanPlace → ℕ × ℕ → Type 0
  KeyIs place p = IsVisited place field KEYS (plan.Value (stored_value a.type m p.0)) → buffer_of bits p.0 ≢ victim

  abbrev pub DocumentIs : PlanPlace → ℕ × ℕ → Type 0
  DocumentIs place p = IsVisited place field DOCUMENTS (plan.Doc p.0) → AreItemsApart bits victim a.kind m p.1

  abbrev pub ListIs : PlanPlace → ℕ × ℕ → Type 0
  ListIs place p = ListIsCleared bits victim place field m (stored_value a.type m p.0) (list_form p.1)

  pub other_keys : at.stage.phase ≢ KEYS → AllByRecursion (KeyIs here) values
  other_keys apart = each_pair (KeyIs here) values (λ q within visited.
      at_pair (KeyIs at) values cleared.keys q within (other KEYS apart (plan.Value (stored_value a.type m q.0)) visited))

  pub other_documents : at.stage.phase ≢ DOCUMENTS → AllByRecursion (DocumentIs here) docs
  other_documents apart = each_pair (DocumentIs here) docs (λ q within visited. at_pair (DocumentIs at) docs cleared.documents q within (other DOCUMENTS apart (plan.Doc q.0) visited))

  one_list : (value : AnyValue) (form : ListForm) → at.stage.phase ≢ LISTS → ListIsCleared bits victim at field m value form → ListIsCleared bits victim here field m value form
  one_list value (short ref) apart was = λ visited. was (other LISTS apart (plan.Pair value 0) visited)
  one_list value (tree root) apart was = λ node among lies key below visited. was node among lies key below (other LISTS apart (plan.Pair value key) visited)
  one_list value (vector root) apart was = record {
    nodes = λ node among lies k below visited. was.nodes node among lies k below (other LISTS apart (plan.Pair value (4096 * k)) visited);
    blocks = λ k r there visited. was.blocks k r there (other LISTS apart (plan.Pair value (4096 * k)) visited);
  }

  pub other_lists : at.stage.phase ≢ LISTS → AllByRecursion (ListIs here) values
  other_lists apart = each_pair (ListIs here) values (λ q within. one_list (stored_value a.type m q.0) (list_form q.1) apart (at_pair (ListIs at) values cleared.lists q within))

  pub other_values : at.stage.phase ≢ NODES → NodesAreCleared bits victim m (λ r. IsVisited here field NODES (plan.Value (stored_value a.type m r))) a.dictionary
  other_values apart node among lies key below visited = cleared.values node among lies key below (other NODES apart (plan.Value (stored_value a.type m key)) visited)

  pub other_map : at.stage.phase ≢ NODES → NodesAreCleared bits victim m (λ doc. IsVisited here field NODES (plan.Doc doc)) a.documents
  other_map apart node among lies key below visited = cleared.map node among lies key below (other NODES apart (plan.Doc key) visited)

  module _ (run : List (ℕ × ℕ)) where
    -- ---- values
    module _ (phase : at.stage.phase ≡ KEYS) (are : (r : ℕ × ℕ) → InPairs r run → InPairs r values)
        (through : GoesThrough (value_keys a.type m a.dictionary) at.key (map (λ p. plan.Value (stored_value a.type m p.0)) run) to)
        (apart : AllByRecursion (λ (p : ℕ × ℕ). buffer_of bits p.0 ≢ victim) run) where
      one_key : (q : ℕ × ℕ) → InPairs q values → KeyIs here q
      one_key q within visited =
          elim (visited_through at field KEYS (value_keys a.type m a.dictionary) (map (λ p. plan.Value (stored_value a.type m p.0)) run) to (plan.Value (stored_value a.type m q.0)) refl phase
          (ascends KEYS) through (key_in (λ p. plan.Value (stored_value a.type m p.0)) q values within) visited) [
            | inl was ↦ at_pair (KeyIs at) values cleared.keys q within was
            | inr passed ↦ found_in value_cmp value_cmp_total (λ (p : ℕ × ℕ). stored_value a.type m p.0) (λ (p : ℕ × ℕ). buffer_of bits p.0 ≢ victim)
                (λ p. plan.Value (stored_value a.type m p.0)) (plan.Value (stored_value a.type m q.0)) q values run index_is.dictionary_is.tree_is.ascends
                (λ r e. ap value_in e) within are apart passed
          ]

      pub values_cleared : IsClearedField bits victim here field m a
      values_cleared = record {
        keys = each_pair (KeyIs here) values one_key;
        documents = other_documents (λ e. let f = sym phase ∙ e in omega arith);
        lists = other_lists (λ e. let f = sym phase ∙ e in omega arith);
        values = other_values (λ e. let f = sym phase ∙ e in omega arith);
        map = other_map (λ e. let f = sym phase ∙ e in omega arith);
      }

    -- ---- documents
    module _ (phase : at.stage.phase ≡ DOCUMENTS) (are : (r : ℕ × ℕ) → InPairs r run → InPairs r docs)
        (through : GoesThrough (document_keys m a.documents) at.key (map (λ p. plan.Doc p.0) run) to)
        (apart : AllByRecursion (λ (p : ℕ × ℕ). AreItemsApart bits victim a.kind m p.1) run) where
      one_document : (q : ℕ × ℕ) → InPairs q docs → DocumentIs here q
      one_document q within visited =
          elim (visited_through at field DOCUMENTS (document_keys m a.documents) (map (λ p. plan.Doc p.0) run) to (plan.Doc q.0) refl phase
          (ascends DOCUMENTS) through (key_in (λ p. plan.Doc p.0) q docs within) visited) [
            | inl was ↦ at_pair (DocumentIs at) docs cleared.documents q within was
            | inr passed ↦ found_in nat_cmp nat_cmp_total (λ (p : ℕ × ℕ). p.0) (λ (p : ℕ × ℕ). AreItemsApart bits victim a.kind m p.1)
                (λ p. plan.Doc p.0) (plan.Doc q.0) q docs run documents_are.map_is.tree_is.ascends
                (λ r e. ap doc_in e) within are apart passed
          ]

      pub documents_cleared : IsClearedField bits victim here field m a
      documents_cleared = record {
        keys = other_keys (λ e. let f = sym phase ∙ e in omega arith);
        documents = each_pair (DocumentIs here) docs one_document;
        lists = other_lists (λ e. let f = sym phase ∙ e in omega arith);
        values = other_values (λ e. let f = sym phase ∙ e in omega arith);
        map = other_map (λ e. let f = sym phase ∙ e in omega arith);
      }

    -- ---- lists
    module _ (phase : at.stage.phase ≡ LISTS) (are : (r : ℕ × ℕ) → InPairs r run → InPairs r values)
        (through : GoesThrough (pair_keys a.type m a.dictionary) at.key (map (λ p. plan.Pair (stored_value a.type m p.0) 0) run) to)
        (apart : AllByRecursion (λ (p : ℕ × ℕ). IsRecordApart bits victim (list_form p.1)) run) where
      -- a document of a list was visited before, or the list is one of those that are apart
      either : (q : ℕ × ℕ) (doc : ℕ) → InPairs q values → Among doc (form_docs m (list_form q.1)) → IsVisited here field LISTS (plan.Pair (stored_value a.type m q.0) doc)
          → IsVisited at field LISTS (plan.Pair (stored_value a.type m q.0) doc) ⊎ IsRecordApart bits victim (list_form q.1)
      either q doc within among visited =
          elim (visited_through at field LISTS (pair_keys a.type m a.dictionary) (map (λ p. plan.Pair (stored_value a.type m p.0) 0) run) to (plan.Pair (stored_value a.type m q.0) doc) refl phase
          (ascends LISTS) through (pair_in a.type m q doc values within among) visited) [
            | inl was ↦ inl was
            | inr passed ↦ inr (found_in value_cmp value_cmp_total (λ (p : ℕ × ℕ). stored_value a.type m p.0) (λ (p : ℕ × ℕ). IsRecordApart bits victim (list_form p.1))
                (λ p. plan.Pair (stored_value a.type m p.0) 0) (plan.Pair (stored_value a.type m q.0) doc) q values run index_is.dictionary_is.tree_is.ascends
                (λ r e. ap value_in e) within are apart passed)
          ]

      by_form : (value : AnyValue) (form : ListForm) → IsPostingList m form
          → ((doc : ℕ) → Among doc (form_docs m form) → IsVisited here field LISTS (plan.Pair value doc) → IsVisited at field LISTS (plan.Pair value doc) ⊎ IsRecordApart bits victim form)
          → ListIsCleared bits victim at field m value form → ListIsCleared bits victim here field m value form
      by_form value (short ref) is step was = λ visited. elim (step 0 (inl refl) visited) [
        | inl before ↦ was before
        | inr away ↦ away
      ]
      by_form value (tree root) is step was = λ node among lies key below visited. elim (step key (keys_of_tree m root node key is.0.node among below) visited) [
        | inl before ↦ was node among lies key below before
        | inr away ↦ away
      ]
      by_form value (vector root) is step was = record {
        nodes = λ node among lies k below visited. elim (step (4096 * k) (start_in k (tree_pairs m root) (keys_of_tree m root node k is.0.node among below)) visited) [
          | inl before ↦ was.nodes node among lies k below before
          | inr away ↦ absurd away
        ];
        blocks = λ k r there visited. elim (step (4096 * k) (start_in k (tree_pairs m root) (block_key m root k r there)) visited) [
          | inl before ↦ was.blocks k r there before
          | inr away ↦ absurd away
        ];
      }

      pub lists_cleared : IsClearedField bits victim here field m a
      lists_cleared = record {
        keys = other_keys (λ e. let f = sym phase ∙ e in omega arith);
        documents = other_documents (λ e. let f = sym phase ∙ e in omega arith);
        lists = each_pair (ListIs here) values (λ q within.
            let pair : IsValuePair m q = at_pair (IsValuePair m) values index_is.pairs q within in
            by_form (stored_value a.type m q.0) (list_form q.1) (pair.list_is.form pair.some) (λ doc among visited. either q doc within among visited)
            (at_pair (ListIs at) values cleared.lists q within));
        values = other_values (λ e. let f = sym phase ∙ e in omega arith);
        map = other_map (λ e. let f = sym phase ∙ e in omega arith);
      }
