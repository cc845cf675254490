-- The hand-made images: what is lawful, and why each broken one is not.
use Rattle.std.proofs.Common.{◌≡◌, ℕ, zero, suc, ◌<◌, ◌≤◌, ℤ, negsuc, List, [], ◌∷◌, length, refl, ap, arith, pos, nat_abs, slice_index}
use Rattle.std.proofs.lemmas.Str.{IsUtf8-from_ascii}
use Rattle.std.specs.List.Sorted.{IsStrictlySortedBy}
use borrow.Author.Tests.{ltb-true, leb-true}
use Rattle.entry_ref.specs.Images.{words_at}
use Rattle.tree_read.proofs.NodeLemmas.{node_formed}
use Rattle.tree_read.specs.Trees.{pairs_below, nodes_below, IsNode}
use Rattle.image_format.specs.Examples.{one_text, broken, two_fields, OneTextIsLawful, OneTextReads, MissingRecord, WrongCount, UnlawfulTable, MissingValue, WrongWeight, TwoFieldsAreLawful, TwoFieldsRead, OtherDocument}
use Rattle.image_format.specs.Attributes.{IsLawfulAttribute}
use Rattle.image_format.specs.Shapes.{types_of_shape}
use Rattle.image_format.specs.Values.{IsValueRecord}
use Rattle.attr_types.specs.declared.kind.Kind.TheVariants.{Single, WeightedSet}
use Rattle.attr_types.specs.declared.kind.ValueType.TheVariants as types
use Rattle.attr_types.specs.declared.value.Value.TheVariants as values

te_is_ascii : (i : ℕ) → slice_index (116 ∷ 101 ∷ []) i < 128
te_is_ascii zero = ltb-true _ _ refl
te_is_ascii (suc zero) = ltb-true _ _ refl
te_is_ascii (suc (suc i)) = ltb-true _ _ refl

value_record : IsValueRecord types.Text (words_at one_text 1024)
value_record = record { words = refl; lawful = (IsUtf8-from_ascii (116 ∷ 101 ∷ []) te_is_ascii, leb-true _ _ refl) }

one_attribute : IsLawfulAttribute WeightedSet types.Text (words_at one_text) 1026 2050
unfolding pairs_below nodes_below IsNode IsStrictlySortedBy
one_attribute =
    let document = node_formed 0 1 (7 ∷ []) (3072 ∷ []) refl (leb-true _ _ refl) (ltb-true _ _ refl) in
    let entry = node_formed 0 1 (1024 ∷ []) (4096 ∷ []) refl (leb-true _ _ refl) (ltb-true _ _ refl) in
    record {
      forms = record {
        documents_tree = record { node = λ some. (document, refl); ascends = (tt, tt) };
        items = ((record { some = ltb-true _ _ refl; few = leb-true _ _ refl; words = refl }, (value_record, tt)), tt);
        dictionary_tree = record { node = λ some. (entry, refl); ascends = (tt, tt) };
        entries = ((value_record, record { some = ltb-true _ _ refl; few = leb-true _ _ refl; words = refl }), tt);
      };
      column = record { ascends = (tt, tt); numbers = ((leb-true _ _ refl, leb-true _ _ refl), tt); items = ((leb-true _ _ refl, (tt, tt)), tt) };
      values = λ value. (λ h. h, λ h. h);
      lists = (refl, tt);
    }

pub one_text_is_lawful : OneTextIsLawful
unfolding types_of_shape
one_text_is_lawful = record {
  root_record = record { size = refl; few = ltb-true _ _ refl; zeros = (refl, tt) };
  attributes = record { each = (one_attribute, tt); documents = tt };
}

pub one_text_reads : OneTextReads
unfolding pairs_below types_of_shape
one_text_reads = refl

pub missing_record : MissingRecord
unfolding pairs_below types_of_shape
missing_record lawful =
    let none : length (words_at (broken 1024 []) 1024) ≡ 2 = ap length lawful.attributes.each.0.forms.items.0.1.0.words in
    absurd (omega arith)

pub wrong_count : WrongCount
unfolding pairs_below IsNode types_of_shape
wrong_count lawful = let two : ℕ = 2 in let count : two ≡ 1 = (lawful.attributes.each.0.forms.documents_tree.node (ltb-true _ _ refl)).1 in absurd (omega arith)

pub unlawful_table : UnlawfulTable
unfolding pairs_below types_of_shape
unlawful_table lawful = let first : 1 ≤ 0 = lawful.attributes.each.0.column.numbers.0.0 in absurd (omega arith)

pub missing_value : MissingValue
unfolding pairs_below types_of_shape
missing_value lawful =
    let found = (lawful.attributes.each.0.values (values.Text (116 ∷ 101 ∷ []))).1 (0, ltb-true _ _ refl, refl) in
    let below : found.0 < 0 = found.1 in
    absurd (omega arith)

weight_first : List (ℕ × ℤ) → ℤ
weight_first [] = pos 0
weight_first (e ∷ es) = e.1

pub wrong_weight : WrongWeight
unfolding pairs_below weight_first types_of_shape
wrong_weight lawful =
    let same : negsuc 1 ≡ negsuc 2 = ap weight_first lawful.attributes.each.0.lists.0 in
    absurd (omega (arith, ap nat_abs same))

two_text : IsLawfulAttribute WeightedSet types.Text (words_at (two_fields 7)) 1026 2050
unfolding pairs_below nodes_below IsNode IsStrictlySortedBy
two_text =
    let document = node_formed 0 1 (7 ∷ []) (3072 ∷ []) refl (leb-true _ _ refl) (ltb-true _ _ refl) in
    let entry = node_formed 0 1 (1024 ∷ []) (4096 ∷ []) refl (leb-true _ _ refl) (ltb-true _ _ refl) in
    record {
      forms = record {
        documents_tree = record { node = λ some. (document, refl); ascends = (tt, tt) };
        items = ((record { some = ltb-true _ _ refl; few = leb-true _ _ refl; words = refl }, (value_record, tt)), tt);
        dictionary_tree = record { node = λ some. (entry, refl); ascends = (tt, tt) };
        entries = ((value_record, record { some = ltb-true _ _ refl; few = leb-true _ _ refl; words = refl }), tt);
      };
      column = record { ascends = (tt, tt); numbers = ((leb-true _ _ refl, leb-true _ _ refl), tt); items = ((leb-true _ _ refl, (tt, tt)), tt) };
      values = λ value. (λ h. h, λ h. h);
      lists = (refl, tt);
    }

number_record : IsValueRecord types.Long (words_at (two_fields 7) 4096)
number_record = record { words = refl; lawful = tt }

two_number : IsLawfulAttribute Single types.Long (words_at (two_fields 7)) 3074 4098
unfolding pairs_below nodes_below IsNode IsStrictlySortedBy
two_number =
    let document = node_formed 0 1 (7 ∷ []) (4096 ∷ []) refl (leb-true _ _ refl) (ltb-true _ _ refl) in
    let entry = node_formed 0 1 (4096 ∷ []) (10240 ∷ []) refl (leb-true _ _ refl) (ltb-true _ _ refl) in
    record {
      forms = record {
        documents_tree = record { node = λ some. (document, refl); ascends = (tt, tt) };
        items = ((tt, (number_record, tt)), tt);
        dictionary_tree = record { node = λ some. (entry, refl); ascends = (tt, tt) };
        entries = ((number_record, record { some = ltb-true _ _ refl; few = leb-true _ _ refl; words = refl }), tt);
      };
      column = record { ascends = (tt, tt); numbers = ((leb-true _ _ refl, leb-true _ _ refl), tt); items = ((leb-true _ _ refl, (refl, tt)), tt) };
      values = λ value. (λ h. h, λ h. h);
      lists = (refl, tt);
    }

pub two_fields_are_lawful : TwoFieldsAreLawful
unfolding pairs_below types_of_shape
two_fields_are_lawful = record {
  root_record = record { size = refl; few = ltb-true _ _ refl; zeros = (refl, (refl, (refl, tt))) };
  attributes = record { each = (two_text, (two_number, tt)); documents = (refl, tt) };
}

pub two_fields_read : TwoFieldsRead
unfolding pairs_below types_of_shape
two_fields_read = refl

first_key : List ℕ → ℕ
first_key [] = 0
first_key (k ∷ ks) = k

pub other_document : OtherDocument
unfolding pairs_below types_of_shape first_key
other_document lawful =
    let eight : ℕ = 8 in
    let same : eight ≡ 7 = ap first_key lawful.attributes.documents.0 in
    absurd (omega arith)
