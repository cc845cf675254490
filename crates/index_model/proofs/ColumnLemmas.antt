-- A column of a table: it is lawful where the table is, and an operation changes the items of its document in it.
use Rattle.std.proofs.Common.{◌≡◌, ℕ, suc, zero, Ordering, Less, Equal, Greater, Bool, true, false, List, [], ◌∷◌, Option, Some, None, option_map, nat_cmp, is_eq, refl, sym, ap, ◌∙◌, subst, cond}
use Rattle.std.proofs.lemmas.Cmp.{nat_cmp_total, tied_itself}
use Rattle.std.specs.BTreeMap.{insert_entry, is_at}
use Rattle.std.specs.List.{AllByRecursion}
use Rattle.std.specs.List.Sorted.{IsStrictlySortedBy}
use Rattle.std.specs.Map.{keys_of, remove_entry}
use Rattle.std.specs.Option.{option_and_then}
use Rattle.std.specs.Prelude.{slice_get}
use Rattle.attr_types.proofs.EntryLemmas.{lookup-remove}
use Rattle.attr_types.proofs.TableLemmas.{put_is_there}
use Rattle.attr_types.specs.Change.{changed}
use Rattle.attr_types.specs.Lawful.{IsLawfulDocument, IsLawfulItems, IsLawfulTable}
use Rattle.attr_types.specs.Query.{items_in}
use Rattle.attr_types.specs.Table.{Table, document_at, op_doc, step, both, updated, to_update, with_document, without_document}
use Rattle.attr_types.specs.Value.{Document}
use Rattle.attr_types.specs.declared.change.Change.{Change}
use Rattle.attr_types.specs.declared.field.Field.{Field}
use Rattle.attr_types.specs.declared.items.Item.{Item}
use Rattle.attr_types.specs.declared.op.Op.{Op}
use Rattle.attr_types.specs.declared.op.Op.TheVariants.{Put, Update, Remove}
use Rattle.index_model.specs.Columns.{IsLawfulColumn, column_of, with_change}

-- ---- the column is lawful
pub keys-column : (i : ℕ) (table : Table) → keys_of (column_of i table) ≡ keys_of table
keys-column i [] = refl
keys-column i (e ∷ es) = ap (λ ks. e.0 ∷ ks) (keys-column i es)

items-lawful : (fields : List Field) (document : Document) (i : ℕ) (field : Field) → IsLawfulDocument fields document
    → slice_get fields i ≡ Some field → IsLawfulItems field.kind (items_in document i)
items-lawful [] document i field lawful is = cc
items-lawful (f ∷ fields) [] i field lawful is = absurd lawful
items-lawful (f ∷ fields) (items ∷ document) zero field lawful is = (let same : f ≡ field = cc is in subst {A = Field} (λ g. IsLawfulItems g.kind items) same lawful.0)
items-lawful (f ∷ fields) (items ∷ document) (suc i) field lawful is = items-lawful fields document i field lawful.1 is

column-items : (fields : List Field) (i : ℕ) (field : Field) (table : Table) → slice_get fields i ≡ Some field
    → AllByRecursion (λ e. IsLawfulDocument fields e.1) table
    → AllByRecursion (λ e. IsLawfulItems field.kind e.1) (column_of i table)
column-items fields i field [] is all = tt
column-items fields i field (e ∷ es) is all = (items-lawful fields e.1 i field all.0 is, column-items fields i field es is all.1)

pub column_is_lawful : (fields : List Field) (table : Table) (i : ℕ) (field : Field) → IsLawfulTable fields table
    → slice_get fields i ≡ Some field → IsLawfulColumn field.kind (column_of i table)
column_is_lawful fields table i field lawful is = record {
  ascends = subst (IsStrictlySortedBy nat_cmp) (sym (keys-column i table)) lawful.ascends;
  numbers = subst (AllByRecursion _) (sym (keys-column i table)) lawful.numbers;
  items = column-items fields i field table is lawful.documents;
}

-- ---- an operation
insert_at : (i : ℕ) (e : ℕ × Document) (es : Table) (doc : ℕ) (document : Document) (o : Ordering) → nat_cmp doc e.0 ≡ o
    → column_of i (insert_entry nat_cmp es doc document) ≡ insert_entry nat_cmp (column_of i es) doc (items_in document i)
    → column_of i (insert_entry nat_cmp (e ∷ es) doc document) ≡ insert_entry nat_cmp (column_of i (e ∷ es)) doc (items_in document i)
insert_at i e es doc document Less is rest = cc
insert_at i e es doc document Equal is rest = cc
insert_at i e es doc document Greater is rest = cc

column-insert : (i : ℕ) (table : Table) (doc : ℕ) (document : Document)
    → column_of i (insert_entry nat_cmp table doc document) ≡ insert_entry nat_cmp (column_of i table) doc (items_in document i)
column-insert i [] doc document = refl
column-insert i (e ∷ es) doc document = insert_at i e es doc document (nat_cmp doc e.0) refl (column-insert i es doc document)

pub remove_at : (i : ℕ) (test : ℕ → Bool) (e : ℕ × Document) (es : Table) (b : Bool) → test e.0 ≡ b
    → column_of i (remove_entry test es) ≡ remove_entry test (column_of i es)
    → column_of i (remove_entry test (e ∷ es)) ≡ remove_entry test (column_of i (e ∷ es))
remove_at i test e es true is rest = cc
remove_at i test e es false is rest = cc

pub column-remove : (i : ℕ) (test : ℕ → Bool) (table : Table)
    → column_of i (remove_entry test table) ≡ remove_entry test (column_of i table)
column-remove i test [] = refl
column-remove i test (e ∷ es) = remove_at i test e es (test e.0) refl (column-remove i test es)

with_is : (table next : Table) (doc i : ℕ) (document : Document) → next ≡ with_document table doc document
    → column_of i next ≡ with_change (column_of i table) doc (option_map (λ d. items_in d i) (document_at next doc))
with_is table next doc i document is =
    ap (column_of i) is ∙ column-insert i table doc document
    ∙ ap (λ found. with_change (column_of i table) doc (option_map (λ d. items_in d i) found))
    (sym (ap (λ t. document_at t doc) is ∙ put_is_there table doc document))

pub operation_changes : (fields : List Field) (table next : Table) (op : Op) (i : ℕ) → IsLawfulTable fields table
    → step fields table op ≡ Some next
    → column_of i next ≡ with_change (column_of i table) (op_doc op) (option_map (λ d. items_in d i) (document_at next (op_doc op)))
operation_changes fields table next (Put doc items) i lawful is = with_is table next doc i items (cc is)
operation_changes fields table next (Update doc create changes) i lawful is =
    told (option_and_then (updated fields changes) (to_update fields create (document_at table doc))) is
  where
    told : (o : Option Document) → option_map (with_document table doc) o ≡ Some next
        → column_of i next ≡ with_change (column_of i table) doc (option_map (λ d. items_in d i) (document_at next doc))
    told None got = cc
    told (Some document) got = with_is table next doc i document (cc got)
operation_changes fields table next (Remove doc) i lawful is = told (document_at table doc) is
  where
    told : (o : Option Document) → option_map (λ _. without_document table doc) o ≡ Some next
        → column_of i next ≡ with_change (column_of i table) doc (option_map (λ d. items_in d i) (document_at next doc))
    told None got = cc
    told (Some document) got =
        let gone : next ≡ without_document table doc = cc got in
        ap (column_of i) gone ∙ column-remove i (is_at (nat_cmp doc)) table
        ∙ ap (λ found. with_change (column_of i table) doc (option_map (λ d. items_in d i) found))
        (sym (ap (λ t. document_at t doc) gone ∙ lookup-remove nat_cmp_total table doc doc lawful.ascends
        ∙ ap (λ r. cond (is_eq r) None (document_at table doc)) (tied_itself nat_cmp_total doc)))

-- ---- an update
record Joined (first : Option (List Item)) (rest : Option Document) (next : Document) : Type 0 where
  items : List Item
  document : Document
  is_first : first ≡ Some items
  is_rest : rest ≡ Some document
  is_next : next ≡ items ∷ document

joined : (first : Option (List Item)) (rest : Option Document) (next : Document) → both first rest ≡ Some next → Joined first rest next
joined (Some items) (Some document) next is = record { items = items; document = document; is_first = refl; is_rest = refl; is_next = cc is }
joined (Some items) None next is = cc
joined None rest next is = cc

pub update_changes : (fields : List Field) (changes : List Change) (document next : Document) (i : ℕ) (field : Field) (change : Change)
    → IsLawfulDocument fields document → updated fields changes document ≡ Some next
    → slice_get fields i ≡ Some field → slice_get changes i ≡ Some change
    → changed field.kind field.value change (items_in document i) ≡ Some (items_in next i)
update_changes [] changes document next i field change lawful is at act = cc
update_changes (f ∷ fields) [] document next i field change lawful is at act = cc
update_changes (f ∷ fields) (c ∷ changes) [] next i field change lawful is at act = absurd lawful
update_changes (f ∷ fields) (c ∷ changes) (items ∷ document) next zero field change lawful is at act =
    let parts = joined (changed f.kind f.value c items) (updated fields changes document) next is in
    let same : f ≡ field = cc at in
    let done : c ≡ change = cc act in
    ap (λ g. changed g.kind g.value change items) (sym same) ∙ ap (λ d. changed f.kind f.value d items) (sym done)
    ∙ parts.is_first ∙ ap (λ n. Some (items_in n 0)) (sym parts.is_next)
update_changes (f ∷ fields) (c ∷ changes) (items ∷ document) next (suc i) field change lawful is at act =
    let parts = joined (changed f.kind f.value c items) (updated fields changes document) next is in
    update_changes fields changes document parts.document i field change lawful.1 parts.is_rest at act
    ∙ ap (λ n. Some (items_in n (suc i))) (sym parts.is_next)
