-- What the moves of documents ask for, of an attribute that stands in its store.
use Rattle.std.proofs.Common.{◌≡◌, ◌≢◌, ℕ, List, [], ◌∷◌, inr, arith}
use Rattle.std.specs.List.{AllByRecursion}
use Rattle.entry_ref.specs.References.{buffer_of}
use Rattle.entry_ref.specs.Records.{Records}
use Rattle.store_api.specs.Ledgers.{Ledger}
use Rattle.store_api.specs.Parts.{Owns}
use Rattle.tree_read.specs.Trees.{tree_pairs}
use Rattle.attr_field.specs.Documents.{documents_part}
use Rattle.attr_field.specs.DocumentsLaws.{DocumentsHaveValues}
use Rattle.image_format.specs.Postings.{index_of}
use Rattle.image_format.specs.Tables.{AttributeTrees}
use Rattle.image_format.specs.Values.{stored_value}
use Rattle.attr_compaction.specs.Places.{PlanPlace}
use Rattle.attr_compaction.specs.declared.plan.PlanKey.TheVariants.{Value}
use Rattle.attr_compaction.specs.declared.plan.TheConstants.{DOCUMENTS, KEYS}
use Rattle.compaction_moves.specs.Cleared.{IsVisited}
use Rattle.attr_field.specs.Fields.{field_part, IsField, RefersBeside}
use Rattle.attr_field.specs.Steps.{StandsField}
use Rattle.attr_field.proofs.CopyLemmas.{refers_some}
use Rattle.attr_field.proofs.RefLemmas.{field_count, field_owns, owns_documents}
use Rattle.attr_field.proofs.StepLemmas.{ended_listed, refer_beside}
use Rattle.compaction_moves.proofs.PlanVisits.{all_before}
use Rattle.value_index.proofs.KeyLemmas.{at_key}
use Rattle.value_index.specs.Indexes.{index_part}
use Rattle.value_index.specs.Laws.{KeyIsRead}
use Rattle.compaction_moves.specs.DocumentsCleared.{ItemsCanMove, NodesCanMove}

module _ (key_read : KeyIsRead) {H : Type 0} (a : AttributeTrees) (ledger : Ledger H) (m : Records) (is : IsField a.kind a.type m a.documents a.dictionary)
    (owns : Owns ledger m (field_part a.kind a.documents a.dictionary ∷ []))
    (refers : RefersBeside ledger a.kind m a.documents a.dictionary (field_part a.kind a.documents a.dictionary ∷ [])) where
  both_owned : Owns ledger m (documents_part a.kind a.documents ∷ index_part a.dictionary ∷ [])
  both_owned = field_owns ledger m a.kind a.documents a.dictionary owns

  stands : StandsField a.kind a.type ledger m a.documents a.dictionary
  stands = record {
    documents_are = is.documents_are;
    index_is = is.index_is;
    refers = refers_some a.kind ledger m a.documents a.dictionary (field_part a.kind a.documents a.dictionary ∷ []) (documents_part a.kind a.documents ∷ index_part a.dictionary ∷ []) refers
        (λ r. let e = field_count a.kind a.documents a.dictionary m r in omega arith);
    owns = both_owned;
  }

pub nodes_can : KeyIsRead → (H : Type 0) → NodesCanMove H
nodes_can key_read H a ledger m is owns refers = (
  owns_documents ledger m a.kind a.documents a.dictionary (both_owned key_read a ledger m is owns refers),
  refer_beside key_read a.kind a.type ledger m a.documents a.dictionary (stands key_read a ledger m is owns refers),
)

-- the keys of the phase before lie elsewhere
module _ (bits victim field : ℕ) (at : PlanPlace) (a : AttributeTrees) (m : Records) (ef : at.stage.field ≡ field) (ep : at.stage.phase ≡ DOCUMENTS) where
  all_apart : (ps : List (ℕ × ℕ)) → AllByRecursion (λ p. IsVisited at field KEYS (Value (stored_value a.type m p.0)) → buffer_of bits p.0 ≢ victim) ps
      → AllByRecursion (λ p. buffer_of bits p.0 ≢ victim) ps
  all_apart [] all = tt
  all_apart (p ∷ ps) all = (all.0 (all_before at field KEYS (Value (stored_value a.type m p.0)) (inr (ef, (let phase = ep in omega arith)))), all_apart ps all.1)

pub items_can : KeyIsRead → DocumentsHaveValues → (H : Type 0) → ItemsCanMove H
items_can key_read values H bits victim field at a ledger m ef ep is owns refers cleared = record {
  documents_are = is.documents_are;
  index_is = is.index_is;
  listed = ended_listed values a.kind a.type m a.documents (index_of a.type m a.dictionary) is.index_of_documents;
  keys = λ key there. at_key (λ k. buffer_of bits k ≢ victim) key (tree_pairs m a.dictionary)
      (all_apart bits victim field at a m ef ep (tree_pairs m a.dictionary) cleared.keys) there;
  beside_them = refer_beside key_read a.kind a.type ledger m a.documents a.dictionary (stands key_read a ledger m is owns refers);
  owns = both_owned key_read a ledger m is owns refers;
}
