-- An attribute of which the index was moved beside the documents, or the documents beside the index.
use Rattle.std.proofs.Common.{◌≡◌, ℕ, List, [], ◌∷◌, ◌++◌, map, inl, inr, ◌⊎◌, refl, sym, ap, subst, ◌∙◌, arith}
use Rattle.std.specs.List.{flat_map, AllByRecursion}
use Rattle.entry_ref.proofs.Pairs.{same-from}
use Rattle.entry_ref.proofs.Among.{SameAt-among}
use Rattle.entry_ref.specs.Records.{Records, Among, SameAt}
use Rattle.store_api.specs.Ledgers.{Ledger}
use Rattle.store_api.specs.Parts.{After, Owns, Turns, entries, times}
use Rattle.store_api.proofs.PartLemmas.{after, owns-some, turns-as}
use Rattle.store_api.proofs.Times.{times-append}
use Rattle.tree_read.specs.ProofsForTrees.{SameAt-left, SameAt-right, tree_pairs-same}
use Rattle.tree_read.specs.Trees.{tree_nodes, tree_pairs}
use Rattle.frozen_btree.specs.Changes.{tree}
use Rattle.attr_field.specs.DocumentsChanges.{pairs_own}
use Rattle.attr_field.specs.Documents.{documents_own, documents_part, documents_refer, items_own, items_refer, IsDocuments}
use Rattle.attr_field.specs.DocumentsLaws.{DocumentsStay}
use Rattle.attr_field.proofs.RecordLemmas.{weighted-on}
use Rattle.attr_field.proofs.RefLemmas.{field_count}
use Rattle.attr_field.specs.Fields.{field_part, IsField, RefersBeside}
use Rattle.image_format.specs.Documents.{column_at}
use Rattle.image_format.specs.Postings.{dictionary_reach, index_of}
use Rattle.index_model.specs.Index.{IsIndexOf}
use Rattle.attr_types.specs.declared.kind.Kind.{Kind}
use Rattle.attr_types.specs.declared.kind.ValueType.{ValueType}
use Rattle.compaction_moves.specs.IndexMoves.{IsKeyIn}
use Rattle.attr_compaction.specs.PhaseKeys.{phase_keys}
use Rattle.posting_store.specs.Lists.{IsPlain}
use Rattle.value_index.specs.Forms.{IsPlainIndex}
use Rattle.value_index.specs.Indexes.{index_part, index_reach, IsIndex, IsKey}
use Rattle.value_index.specs.Laws.{IndexStays}
use Rattle.value_index.proofs.IndexLemmas.{keys_same, pair_reach}
use Rattle.value_index.proofs.OpenLemmas.{pairs_reach-same}
use Rattle.compaction_moves.specs.FieldMoves.{MovesField}

-- the records of the keys stay where all that the pairs reach does
pub keys_stay : (m n : Records) (root r : ℕ) → SameAt (dictionary_reach m root) m n → IsKey m root r → n r ≡ m r
keys_stay m n root r same key = SameAt-among m n (map (λ p. p.0) (tree_pairs m root)) (keys_same m n (tree_pairs m root) same) r key

module _ {H : Type 0} (bits buffer : ℕ) (kind : Kind) (type : ValueType) (a b : Ledger H) (m n : Records) (documents dictionary : ℕ)
    (field : IsField kind type m documents dictionary) (owns : Owns a m (field_part kind documents dictionary ∷ []))
    (refers : RefersBeside a kind m documents dictionary (field_part kind documents dictionary ∷ [])) where
  both_owned : Owns a m (documents_part kind documents ∷ index_part dictionary ∷ [])
  both_owned = owns-some a m (field_part kind documents dictionary ∷ []) (documents_part kind documents ∷ index_part dictionary ∷ []) owns
      (λ r. let e = field_count kind documents dictionary m r in omega arith)

  pub index_owned : Owns a m (index_part dictionary ∷ [])
  index_owned = owns-some a m (documents_part kind documents ∷ index_part dictionary ∷ []) (index_part dictionary ∷ []) both_owned (λ r. omega arith)

  -- ---- the index is another
  module _ (documents_stay : DocumentsStay) (next : ℕ) (left : List ℕ) (left_in : AllByRecursion (IsKeyIn bits buffer m dictionary) left)
      (index_is : IsIndex type n next) (reads_as : index_of type n next ≡ index_of type m dictionary)
      (keys : (r : ℕ) → IsKey m dictionary r → IsKey n next r ⊎ Among r left) (stay : (r : ℕ) → IsKey m dictionary r → n r ≡ m r)
      (turns : Turns a b m n (index_part dictionary ∷ []) (index_part next ∷ entries left ∷ [])) where
    pub index_after : After a b m n (documents_part kind documents ∷ index_part dictionary ∷ []) (documents_part kind documents ∷ index_part next ∷ entries left ∷ [])
        (documents_part kind documents ∷ [])
    index_after = after a b m n (index_part dictionary ∷ []) (index_part next ∷ entries left ∷ []) (documents_part kind documents ∷ [])
        (documents_part kind documents ∷ index_part dictionary ∷ []) (documents_part kind documents ∷ index_part next ∷ entries left ∷ []) both_owned turns
        (λ k r. omega arith) (λ k r. omega arith)

    pub documents_same : SameAt (documents_own kind m documents) m n
    documents_same = index_after.stay.0

    refer_same : SameAt (documents_refer kind m documents) m n
    refer_same = same-from (documents_refer kind m documents) m n (λ r among. elim (refers.each r among) [
      | inl key ↦ stay r key
      | inr free ↦ turns.kept r (let e = field_count kind documents dictionary m r in omega arith)
    ])

    pub documents_are : IsDocuments kind type n documents × (column_at kind type n documents ≡ column_at kind type m documents)
        × (documents_refer kind n documents ≡ documents_refer kind m documents)
    documents_are = documents_stay kind type m n documents documents_same refer_same field.documents_are

    pub column_same : column_at kind type n documents ≡ column_at kind type m documents
    column_same = documents_are.1

    unfoldable pub index_moved : ((phase : ℕ) → phase_keys type n documents next phase ≡ phase_keys type m documents dictionary phase)
        → (IsPlainIndex m dictionary → IsPlainIndex n next) → MovesField bits buffer kind type a b m n documents dictionary documents next
    index_moved keys_are plain = record {
      left = left;
      left_in = left_in;
      field_is = record {
        documents_are = documents_are.0;
        index_is = index_is;
        index_of_documents = subst (λ column. IsIndexOf column (index_of type n next)) (sym documents_are.1)
            (subst (λ index. IsIndexOf (column_at kind type m documents) index) (sym reads_as) field.index_of_documents);
      };
      column_is = documents_are.1;
      keys_are = keys_are;
      plain = plain;
      refers = λ r among. let was = subst (Among r) documents_are.2 among in elim (refers.each r was) [
        | inl key ↦ elim (keys r key) [
          | inl still ↦ inl still
          | inr old ↦ inr (inl old)
        ]
        | inr free ↦ inr (inr (was, free))
      ];
      owns = owns-some b n (documents_part kind documents ∷ index_part next ∷ entries left ∷ []) (field_part kind documents next ∷ entries left ∷ []) index_after.owns
          (λ r. let e = field_count kind documents next n r in omega arith);
      turns = turns-as a b m n (documents_part kind documents ∷ index_part dictionary ∷ []) (documents_part kind documents ∷ index_part next ∷ entries left ∷ [])
          (field_part kind documents dictionary ∷ []) (field_part kind documents next ∷ entries left ∷ []) index_after.turns
          (λ r. let e = field_count kind documents dictionary m r in omega arith) (λ r. let e = field_count kind documents next n r in omega arith);
    }

  -- ---- the documents are others
  module _ (index_stays : IndexStays) (next : ℕ) (next_are : IsDocuments kind type n next) (column_is : column_at kind type n next ≡ column_at kind type m documents)
      (come : (r : ℕ) → Among r (documents_refer kind n next) → Among r (documents_refer kind m documents) ⊎ IsKey m dictionary r)
      (turns : Turns a b m n (documents_part kind documents ∷ []) (documents_part kind next ∷ [])) where
    pub documents_after : After a b m n (documents_part kind documents ∷ index_part dictionary ∷ []) (documents_part kind next ∷ index_part dictionary ∷ [])
        (index_part dictionary ∷ [])
    documents_after = after a b m n (documents_part kind documents ∷ []) (documents_part kind next ∷ []) (index_part dictionary ∷ [])
        (documents_part kind documents ∷ index_part dictionary ∷ []) (documents_part kind next ∷ index_part dictionary ∷ []) both_owned turns
        (λ k r. omega arith) (λ k r. omega arith)

    pub index_same : SameAt (index_reach m dictionary) m n
    index_same = documents_after.stay.0

    pub index_is : IsIndex type n dictionary × (index_of type n dictionary ≡ index_of type m dictionary) × ((ref : ℕ) → IsKey m dictionary ref → IsKey n dictionary ref)
    index_is = index_stays type m n dictionary index_same field.index_is

    unfoldable pub documents_moved : ((phase : ℕ) → phase_keys type n next dictionary phase ≡ phase_keys type m documents dictionary phase)
        → MovesField bits buffer kind type a b m n documents dictionary next dictionary
    documents_moved keys_are = record {
      left = [];
      left_in = tt;
      field_is = record {
        documents_are = next_are;
        index_is = index_is.0;
        index_of_documents = subst (λ column. IsIndexOf column (index_of type n dictionary)) (sym column_is)
            (subst (λ index. IsIndexOf (column_at kind type m documents) index) (sym index_is.1) field.index_of_documents);
      };
      column_is = column_is;
      keys_are = keys_are;
      plain = λ plain. subst (AllByRecursion (λ p. IsPlain p.1))
          (sym (tree_pairs-same m n dictionary (SameAt-left m n (tree_nodes m dictionary) (dictionary_reach m dictionary) index_same))) plain;
      refers = λ r among. elim (come r among) [
        | inl was ↦ elim (refers.each r was) [
          | inl key ↦ inl (index_is.2 r key)
          | inr free ↦ inr (inr (was, free))
        ]
        | inr key ↦ inl (index_is.2 r key)
      ];
      owns = owns-some b n (documents_part kind next ∷ index_part dictionary ∷ []) (field_part kind next dictionary ∷ entries [] ∷ []) documents_after.owns
          (λ r. let e = field_count kind next dictionary n r in omega arith);
      turns = turns-as a b m n (documents_part kind documents ∷ index_part dictionary ∷ []) (documents_part kind next ∷ index_part dictionary ∷ [])
          (field_part kind documents dictionary ∷ []) (field_part kind next dictionary ∷ entries [] ∷ []) documents_after.turns
          (λ r. let e = field_count kind documents dictionary m r in omega arith) (λ r. let e = field_count kind next dictionary n r in omega arith);
    }

-- ---- nodes of a tree alone were moved, whose pairs and what these reach are as they were
module _ {H : Type 0} (a b : Ledger H) (m n : Records) (root next : ℕ) (pairs : tree_pairs n next ≡ tree_pairs m root)
    (turns : Turns a b m n (tree root ∷ []) (tree next ∷ [])) where
  pub index_turns : SameAt (dictionary_reach m root) m n → Turns a b m n (index_part root ∷ []) (index_part next ∷ entries [] ∷ [])
  index_turns same =
      let reach : dictionary_reach n next ≡ dictionary_reach m root = ap (flat_map (pair_reach n)) pairs ∙ pairs_reach-same m n (tree_pairs m root) same in
      record {
        kept = λ r less. let before = times-append r (tree_nodes m root) (dictionary_reach m root) in turns.kept r (omega arith);
        balance = λ r.
            let before = times-append r (tree_nodes m root) (dictionary_reach m root) in
            let behind = times-append r (tree_nodes n next) (dictionary_reach n next) in
            let e = ap (times r) reach in
            let t = turns.balance r in
            omega arith;
      }

  module _ (kind : Kind) where
    pub documents_turns : Turns a b m n (documents_part kind root ∷ []) (documents_part kind next ∷ [])
    documents_turns =
        let own : pairs_own kind (tree_pairs n next) ≡ pairs_own kind (tree_pairs m root) = ap (pairs_own kind) pairs in
        record {
          kept = λ r less. let before = times-append r (tree_nodes m root) (pairs_own kind (tree_pairs m root)) in turns.kept r (omega arith);
          balance = λ r.
              let before = times-append r (tree_nodes m root) (pairs_own kind (tree_pairs m root)) in
              let behind = times-append r (tree_nodes n next) (pairs_own kind (tree_pairs n next)) in
              let e = ap (times r) own in
              let t = turns.balance r in
              omega arith;
        }

    refer_each : (ps : List (ℕ × ℕ)) → SameAt (pairs_own kind ps) m n → flat_map (λ p. items_refer kind p.1 (n p.1)) ps ≡ flat_map (λ p. items_refer kind p.1 (m p.1)) ps
    refer_each [] same = refl
    refer_each (p ∷ ps) same =
        ap (λ es. map (λ e. e.0) es ++ flat_map (λ q. items_refer kind q.1 (n q.1)) ps) (weighted-on kind m n p.1 (SameAt-left m n (items_own kind p.1) (pairs_own kind ps) same))
        ∙ ap (λ rs. items_refer kind p.1 (m p.1) ++ rs) (refer_each ps (SameAt-right m n (items_own kind p.1) (pairs_own kind ps) same))

    pub refer_as : SameAt (pairs_own kind (tree_pairs m root)) m n → documents_refer kind n next ≡ documents_refer kind m root
    refer_as same = ap (flat_map (λ p. items_refer kind p.1 (n p.1))) pairs ∙ refer_each (tree_pairs m root) same
