-- The first attribute of a lawful image.
use Rattle.std.proofs.Common.{◌≡◌, ◌<◌, ◌≤◌, ◌^◌, ℕ, zero, suc, List, [], ◌∷◌, length, arith, Some}
use Rattle.std.specs.Prelude.{slice_get}
use Rattle.std.specs.List.{AllByRecursion}
use Rattle.std.specs.Map.{keys_of}
use Rattle.entry_ref.specs.Records.{Records}
use Rattle.tree_read.specs.Trees.{tree_pairs}
use Rattle.doc_vector.specs.Documents.{IsDocumentPair}
use Rattle.attr_field.specs.Documents.{IsDocuments, AreItemsAt}
use Rattle.image_format.specs.Attributes.{IsLawfulAttribute}
use Rattle.image_format.specs.Documents.{AreItemRecords}
use Rattle.image_format.specs.Images.{documents_at, IsLawfulImage}
use Rattle.image_format.specs.Shapes.{shape_of, types_of}
use Rattle.image_format.proofs.FilledLemmas.{some_list, some_value}
use Rattle.image_format.proofs.ImageLemmas.{field_is_there}
use Rattle.attr_types.specs.Change.{most_items}
use Rattle.attr_types.specs.Lawful.{IsDocNumber, IsLawfulItems}
use Rattle.attr_types.specs.declared.field.Field.{Field}
use Rattle.attr_types.specs.declared.field.TheConstants.{MOST_FIELDS}
use Rattle.attr_types.specs.declared.kind.Kind.{Kind}
use Rattle.attr_types.specs.declared.kind.Kind.TheVariants.{Single, Array, WeightedSet}
use Rattle.attr_types.specs.declared.kind.ValueType.{ValueType}
use Rattle.attr_rounds.proofs.ColumnLemmas.{read_pairs}

module _ (kind : Kind) (type : ValueType) (m : Records) (references : (r : ℕ) → 0 < length (m r) → r < 2 ^ 32) where
  small_by : (k : Kind) (r : ℕ) → AreItemRecords k type m r → r < 2 ^ 32
  small_by k zero is = omega arith
  small_by Single (suc r) is = references (suc r) (some_value type (m (suc r)) is.1.0)
  small_by Array (suc r) is = references (suc r) (some_list most_items (m (suc r)) is.0)
  small_by WeightedSet (suc r) is = references (suc r) (some_list most_items (m (suc r)) is.0)

  are_pairs : (ps : List (ℕ × ℕ)) → AllByRecursion IsDocNumber (keys_of (read_pairs kind type m ps)) → AllByRecursion (λ p. AreItemRecords kind type m p.1) ps → AllByRecursion IsDocumentPair ps
  are_pairs [] numbers records = tt
  are_pairs (p ∷ ps) numbers records = (record { document = numbers.0; reference = small_by kind p.1 records.0 }, are_pairs ps numbers.1 records.1)

  are_items : (ps : List (ℕ × ℕ)) → AllByRecursion (λ p. AreItemRecords kind type m p.1) ps → AllByRecursion (λ e. IsLawfulItems kind e.1) (read_pairs kind type m ps)
      → AllByRecursion (λ p. AreItemsAt kind type m p.1) ps
  are_items [] records lawful = tt
  are_items (p ∷ ps) records lawful = (record { records = records.0; lawful = lawful.0 }, are_items ps records.1 lawful.1)

  pub are_documents : (documents dictionary : ℕ) → IsLawfulAttribute kind type m documents dictionary → IsDocuments kind type m documents
  are_documents documents dictionary own = record {
    map_is = record { tree_is = own.forms.documents_tree; pairs = are_pairs (tree_pairs m documents) own.column.numbers own.forms.items };
    items = are_items (tree_pairs m documents) own.forms.items own.column.items;
  }

module _ (fields : List Field) (field : Field) (m : Records) (root : ℕ) (few : length fields ≤ MOST_FIELDS) (first : slice_get fields 0 ≡ Some field)
    (lawful : IsLawfulImage (shape_of (types_of fields)) m root) where
  pub first_are : ((r : ℕ) → 0 < length (m r) → r < 2 ^ 32) → IsDocuments field.kind field.value m (documents_at m root 0)
  first_are references = are_documents field.kind field.value m references _ _ (field_is_there fields m root few lawful 0 field first).attribute
