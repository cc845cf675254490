-- The steps of a change one after another.
use Rattle.std.proofs.Common.{◌≡◌, ℕ, ℤ, List, [], ◌∷◌, Option, None, Some, nat_cmp, refl, sym, ap, subst, ◌∙◌, arith}
use Rattle.std.specs.Prelude.{unwrap_or}
use Rattle.std.specs.BTreeMap.{is_at}
use Rattle.std.specs.Map.{lookup}
use Rattle.entry_ref.specs.Records.{Records}
use Rattle.store_api.specs.Ledgers.{Ledger}
use Rattle.store_api.specs.Parts.{Owns}
use Rattle.store_api.specs.Units.{MayDo}
use Rattle.store_api.proofs.PartLemmas.{turns-same, turns-then}
use Rattle.attr_field.specs.Documents.{documents_part}
use Rattle.attr_field.specs.DocumentsLaws.{DocumentsAreLawful}
use Rattle.image_format.specs.Documents.{column_at}
use Rattle.image_format.specs.Postings.{index_of}
use Rattle.index_model.proofs.ChangeLemmas.{ends, has_items}
use Rattle.index_model.proofs.MiddleLemmas.{has_both, both_walks, between_same}
use Rattle.index_model.proofs.PartLemmas.{insert_same}
use Rattle.index_model.specs.Changes.{first_weights, first_given, IsBetween}
use Rattle.index_model.specs.Columns.{Column, items_of, with_change}
use Rattle.index_model.specs.Index.{Index, IsIndexOf, list_of, weight_in}
use Rattle.attr_types.specs.Value.{value_cmp}
use Rattle.attr_types.specs.declared.items.Item.{Item}
use Rattle.attr_types.specs.declared.kind.Kind.{Kind}
use Rattle.attr_types.specs.declared.kind.ValueType.{ValueType}
use Rattle.attr_types.specs.declared.value.Value.{Value}
use Rattle.value_index.specs.Indexes.{index_part}
use Rattle.value_index.specs.Laws.{KeyIsRead}
use Rattle.attr_field.specs.Changes.{MakesField}
use Rattle.attr_field.specs.Fields.{field_part, IsField, RefersBeside}
use Rattle.attr_field.specs.Steps.{StandsField, StepsField}
use Rattle.attr_field.proofs.CopyLemmas.{keeps_same, keeps_some, keeps_then, refers_some}
use Rattle.attr_field.proofs.FlowLemmas.{field_flows_same, field_flows_then}
use Rattle.attr_field.proofs.RefLemmas.{field_count, field_owns, field_turns}
use Rattle.attr_field.proofs.StepLemmas.{keys_owned}
use Rattle.attr_field.proofs.WeightLemmas.{weights_are}

abbrev pub weights : List (Value × ℤ) → Value → Option ℤ
weights entries value = lookup (is_at (value_cmp value)) entries

module _ {H : Type 0} (kind : Kind) (type : ValueType) (begun : Ledger H) (k : Records) (documents dictionary doc : ℕ) (is : IsField kind type k documents dictionary) where
  abbrev column : Column
  column = column_at kind type k documents

  pub field_stands : Owns begun k (field_part kind documents dictionary ∷ []) → RefersBeside begun kind k documents dictionary (field_part kind documents dictionary ∷ [])
      → StandsField kind type begun k documents dictionary
  field_stands owns refers = record {
    documents_are = is.documents_are;
    index_is = is.index_is;
    refers = refers_some kind begun k documents dictionary (field_part kind documents dictionary ∷ []) (documents_part kind documents ∷ index_part dictionary ∷ []) refers
        (λ r. let e = field_count kind documents dictionary k r in omega arith);
    owns = field_owns begun k kind documents dictionary owns;
  }

  module _ (lawful : DocumentsAreLawful) (old : List (Value × ℤ)) (before : old ≡ first_weights [] (items_of column doc)) where
    -- what the index has of the document at first
    pub has_before : (value : Value) → lookup (is_at (nat_cmp doc)) (list_of value (index_of type k dictionary)) ≡ weights old value
    has_before value = has_items column (index_of type k dictionary) doc (lawful kind type k documents is.documents_are).2.ascends is.index_of_documents value
        ∙ sym (weights_are old (items_of column doc) before value)

    -- and after the new values were added
    module _ (new : Option (List Item)) (after : List (Value × ℤ)) (are : after ≡ first_weights [] (unwrap_or new [])) (middle : Index)
        (added : IsBetween (index_of type k dictionary) doc (weights after) (λ v. None) middle) where
      pub has_middle : (value : Value) → lookup (is_at (nat_cmp doc)) (list_of value middle) ≡ first_given (weights after value) (weights old value)
      has_middle = has_both (index_of type k dictionary) doc (weights old) (weights after) middle has_before added

      pub index_ends : (index : Index) → IsBetween middle doc (weights after) (weights old) index → IsIndexOf (with_change column doc new) index
      index_ends index removed = ends column (index_of type k dictionary) doc new index (lawful kind type k documents is.documents_are).2.ascends is.index_of_documents
          (between_same (index_of type k dictionary) doc (weights after) (λ v. weight_in v (unwrap_or new [])) (weights old) (λ v. weight_in v (items_of column doc)) index
          (both_walks (index_of type k dictionary) doc (weights old) (weights after) middle index is.index_of_documents.formed added removed)
          (λ v. sym (weights_are after (unwrap_or new []) are v)) (λ v. sym (weights_are old (items_of column doc) before v)))

  -- no new values: nothing was added
  pub none_added : IsBetween (index_of type k dictionary) doc (weights []) (λ v. None) (index_of type k dictionary)
  none_added = record { formed = is.index_of_documents.formed; lists = λ value. refl }

  -- the last step makes the attribute whole
  pub step_ends : KeyIsRead → (mid new : Ledger H) (m n : Records) (next root last : ℕ) (next_column : Column) → MayDo begun mid
      → StepsField kind type begun mid k m documents dictionary next_column next root
      → StepsField kind type mid new m n next root (column_at kind type m next) next last
      → IsIndexOf (column_at kind type m next) (index_of type n last)
      → MakesField kind type begun new k n documents dictionary next_column next last
  step_ends key_read mid new m n next root last next_column may first second of = record {
    field_is = record {
      documents_are = second.stands.documents_are;
      index_is = second.stands.index_is;
      index_of_documents = subst (λ (c : Column). IsIndexOf c (index_of type n last)) (sym second.column_is) of;
    };
    column_is = second.column_is ∙ first.column_is;
    refers = keeps_some kind begun k n documents (documents_part kind documents ∷ index_part dictionary ∷ []) (field_part kind documents dictionary ∷ []) next last
        (keeps_then kind begun mid k m n documents next root next last (documents_part kind documents ∷ index_part dictionary ∷ []) (documents_part kind next ∷ index_part root ∷ [])
        (keys_owned key_read kind type mid m next root first.stands) first.refers second.refers)
        (λ r. let e = field_count kind documents dictionary k r in omega arith);
    flows = field_flows_then kind type begun mid k m n documents dictionary next root next last may first.flows second.flows;
    turns = field_turns begun new k n kind documents dictionary next last
        (turns-then begun mid new k m n (documents_part kind documents ∷ index_part dictionary ∷ []) (documents_part kind next ∷ index_part root ∷ [])
        (documents_part kind next ∷ index_part last ∷ []) first.turns second.turns);
  }

  -- two steps are one
  pub steps_then : KeyIsRead → (mid new : Ledger H) (m n : Records) (root next : ℕ) (items : Option (List Item)) → MayDo begun mid
      → StepsField kind type begun mid k m documents dictionary column documents root
      → StepsField kind type mid new m n documents root (with_change (column_at kind type m documents) doc items) next root
      → StepsField kind type begun new k n documents dictionary (with_change column doc items) next root
  steps_then key_read mid new m n root next items may first second = record {
    stands = second.stands;
    column_is = second.column_is ∙ ap (λ (c : Column). with_change c doc items) first.column_is;
    refers = keeps_then kind begun mid k m n documents documents root next root (documents_part kind documents ∷ index_part dictionary ∷ []) (documents_part kind documents ∷ index_part root ∷ [])
        (keys_owned key_read kind type mid m documents root first.stands) first.refers second.refers;
    flows = field_flows_then kind type begun mid k m n documents dictionary documents root next root may first.flows second.flows;
    turns = turns-then begun mid new k m n (documents_part kind documents ∷ index_part dictionary ∷ []) (documents_part kind documents ∷ index_part root ∷ [])
        (documents_part kind next ∷ index_part root ∷ []) first.turns second.turns;
  }

  -- a document that has the items already
  pub same_field : DocumentsAreLawful → RefersBeside begun kind k documents dictionary (field_part kind documents dictionary ∷ []) → (items : List Item) → lookup (is_at (nat_cmp doc)) column ≡ Some items
      → MakesField kind type begun begun k k documents dictionary (with_change column doc (Some items)) documents dictionary
  same_field lawful refers items there = record {
    field_is = is;
    column_is = sym (insert_same doc items column (lawful kind type k documents is.documents_are).2.ascends there);
    refers = keeps_same kind begun k documents dictionary (field_part kind documents dictionary ∷ []) refers;
    flows = field_flows_same kind type begun k documents dictionary;
    turns = turns-same begun k (field_part kind documents dictionary ∷ []);
  }
