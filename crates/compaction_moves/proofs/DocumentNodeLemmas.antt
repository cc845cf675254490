-- The nodes on the way to a document moved.
use Rattle.std.proofs.Common.{◌≡◌, ℕ, List, [], ◌∷◌, Result, Ok, Err, refl, sym, ap, subst, ◌∙◌, arith}
use Rattle.std.specs.Prelude.{IfOk}
use Rattle.std.specs.List.{AllByRecursion}
use Rattle.entry_ref.specs.Records.{Records}
use Rattle.store_api.specs.Ledgers.{Ledger}
use Rattle.store_api.specs.Parts.{After, Owns, Turns, entries, times}
use Rattle.store_api.specs.declared.store.StoreError.{StoreError}
use Rattle.store_api.proofs.PartLemmas.{after, owns-some}
use Rattle.store_api.proofs.Times.{times-append}
use Rattle.tree_read.specs.Trees.{tree_nodes, tree_pairs}
use Rattle.frozen_btree.specs.Changes.{tree}
use Rattle.frozen_btree.specs.Paths.{path_nodes, NoneIn}
use Rattle.frozen_btree.proofs.TouchTreeLemmas.{none-apart}
use Rattle.doc_vector.proofs.DocumentLemmas.{IsNumberTree}
use Rattle.doc_vector.specs.Documents.{beside_document, IsDocumentPair}
use Rattle.image_format.specs.Documents.{items_at}
use Rattle.attr_types.specs.declared.kind.Kind.{Kind}
use Rattle.attr_types.specs.declared.kind.ValueType.{ValueType}
use Rattle.attr_field.specs.DocumentsChanges.{pairs_own, AreBeside}
use Rattle.attr_field.specs.Documents.{documents_part, documents_refer, AreItemsAt, IsDocuments}
use Rattle.attr_field.proofs.FrameLemmas.{beside-same}
use Rattle.attr_field.proofs.PairLemmas.{columned, columned-same}
use Rattle.attr_field.proofs.RecordLemmas.{all-on, pairs-stay, same-on}
use Rattle.compaction_moves.specs.DocumentMoves.{MovesDocumentNodes}
use Rattle.compaction_moves.proofs.DocumentSetLemmas.{same_self}

-- nothing is done in a map without nodes
pub nodes_unmoved : {H : Type 0} (bits buffer : ℕ) (kind : Kind) (type : ValueType) (a : Ledger H) (m : Records) (root doc : ℕ) → IsDocuments kind type m root
    → Owns a m (documents_part kind root ∷ []) → root ≡ 0 → MovesDocumentNodes bits buffer doc kind type a a m m root root
nodes_unmoved bits buffer kind type a m root doc is owns none = record {
  documents_are = is;
  column_is = refl;
  apart = none-apart bits buffer m (beside_document doc) root none;
  pairs = refl;
  stay = same_self m (pairs_own kind (tree_pairs m root));
  owns = owns;
  turns = record { kept = λ r h. refl; balance = λ r. refl };
}

module _ {H : Type 0} (bits buffer : ℕ) (kind : Kind) (type : ValueType) (a b : Ledger H) (m n : Records) (root doc : ℕ) (start : IsDocuments kind type m root)
    (values : AreBeside a m (documents_part kind root ∷ []) (documents_refer kind m root)) (owns : Owns a m (documents_part kind root ∷ [])) where
  abbrev ps : List (ℕ × ℕ)
  ps = tree_pairs m root

  abbrev own : List ℕ
  own = pairs_own kind ps

  split_owned : Owns a m (tree root ∷ entries own ∷ [])
  split_owned = owns-some a m (documents_part kind root ∷ []) (tree root ∷ entries own ∷ []) owns (λ r. let whole = times-append r (tree_nodes m root) own in omega arith)

  pub nodes_owned : Owns a m (tree root ∷ [])
  nodes_owned = owns-some a m (tree root ∷ entries own ∷ []) (tree root ∷ []) split_owned (λ r. omega arith)

  values_beside : AreBeside a m (tree root ∷ []) (documents_refer kind m root)
  values_beside = record { each = λ r among. let few = values.each r among in let whole = times-append r (tree_nodes m root) own in omega arith }

  nodes_moved : (next : ℕ) → IsNumberTree n next → tree_pairs n next ≡ ps → NoneIn bits buffer (path_nodes n (beside_document doc) next)
      → Turns a b m n (tree root ∷ []) (tree next ∷ []) → MovesDocumentNodes bits buffer doc kind type a b m n root next
  nodes_moved next keyed pairs apart turns =
      let step : After a b m n (tree root ∷ entries own ∷ []) (tree next ∷ entries own ∷ []) (entries own ∷ []) =
      after a b m n (tree root ∷ []) (tree next ∷ []) (entries own ∷ []) (tree root ∷ entries own ∷ []) (tree next ∷ entries own ∷ []) split_owned turns
      (λ k r. omega arith) (λ k r. omega arith) in
      let stays = pairs-stay kind type m n ps step.stay.0 (beside-same a b m n (tree root ∷ []) (tree next ∷ []) (documents_refer kind m root) turns values_beside) in
      record {
        documents_are = record {
          map_is = record { tree_is = keyed.tree; pairs = subst (AllByRecursion IsDocumentPair) (sym pairs) start.map_is.pairs };
          items = subst (AllByRecursion (λ (p : ℕ × ℕ). AreItemsAt kind type n p.1)) (sym pairs) (all-on kind type m n ps stays start.items);
        };
        column_is = ap (columned (items_at kind type n)) pairs ∙ columned-same (items_at kind type m) (items_at kind type n) ps (same-on kind type m n ps stays);
        apart = apart;
        pairs = pairs;
        stay = step.stay.0;
        owns = owns-some b n (tree next ∷ entries own ∷ []) (documents_part kind next ∷ []) step.owns (λ r.
            let whole = times-append r (tree_nodes n next) (pairs_own kind (tree_pairs n next)) in
            let e = ap (λ xs. times r (pairs_own kind xs)) pairs in
            omega arith);
        turns = turns;
      }

  pub nodes_moved_by : (answer : Result ℕ StoreError) → IfOk answer (IsNumberTree n) → IfOk answer (λ r. tree_pairs n r ≡ ps)
      → IfOk answer (λ r. NoneIn bits buffer (path_nodes n (beside_document doc) r))
      → IfOk answer (λ r. Turns a b m n (tree root ∷ []) (tree r ∷ [])) → IfOk answer (MovesDocumentNodes bits buffer doc kind type a b m n root)
  nodes_moved_by (Err e) keyed pairs apart turns = tt
  nodes_moved_by (Ok next) keyed pairs apart turns = nodes_moved next keyed pairs apart turns
