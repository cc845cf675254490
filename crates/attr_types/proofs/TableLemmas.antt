-- What operations make of lawful tables.
use Rattle.std.proofs.Common.{◌≡◌, ◌≢◌, ℕ, zero, suc, Bool, true, false, cond, List, [], ◌∷◌, take, Option, Some, None}
use Rattle.std.proofs.Common.{option_map, nat_cmp, is_eq, refl, sym, ap, ◌∙◌}
use Rattle.std.proofs.lemmas.Cmp.{nat_cmp_total, tied_itself}
use Rattle.std.specs.BTreeMap.{is_at}
use Rattle.std.specs.List.{AllByRecursion}
use Rattle.std.specs.List.Sorted.{IsStrictlySortedBy}
use Rattle.std.specs.Map.{keys_of}
use Rattle.std.specs.Option.{IfSome, is_none, option_and_then, unwrap_or}
use Rattle.attr_types.proofs.DocumentLemmas.{DocumentFits, ChangesFit, document_fits, document_is_lawful}
use Rattle.attr_types.proofs.DocumentLemmas.{document_has_type, without_items_fits, updated_fits}
use Rattle.attr_types.proofs.EntryLemmas.{all-lookup, all_keys-insert, all_values-insert, sorted-insert}
use Rattle.attr_types.proofs.EntryLemmas.{all_keys-remove, all-remove, sorted-remove, lookup-insert_here}
use Rattle.attr_types.proofs.EntryLemmas.{lookup-insert_other, lookup-remove, nat_cmp_apart}
use Rattle.attr_types.specs.Lawful.{IsDocNumber, IsLawfulDocument, IsLawfulTable, DocumentHasType, DocumentsHaveType, OpFits}
use Rattle.attr_types.specs.Table.{Table, op_doc, document_at, with_document, without_document}
use Rattle.attr_types.specs.Table.{to_update, updated, step, is_skipped, after_op, after_ops, after}
use Rattle.attr_types.specs.Value.{Document}
use Rattle.attr_types.specs.declared.change.Change.{Change}
use Rattle.attr_types.specs.declared.field.Field.{Field}
use Rattle.attr_types.specs.declared.op.Op.{Op}
use Rattle.attr_types.specs.declared.op.Op.TheVariants.{Put, Update, Remove}

-- a lawful table with values of the attributes' types
abbrev pub Sound : List Field → Table → Type 0
Sound fields table = IsLawfulTable fields table × DocumentsHaveType fields table

pub sound-with : (fields : List Field) (table : Table) (doc : ℕ) (document : Document) → Sound fields table
    → IsDocNumber doc → DocumentFits fields document → Sound fields (with_document table doc document)
sound-with fields table doc document sound is_doc fits = (
  record {
    ascends = sorted-insert nat_cmp_total table doc document sound.0.ascends;
    numbers = all_keys-insert nat_cmp_total IsDocNumber table doc document sound.0.numbers is_doc;
    documents = all_values-insert nat_cmp_total (IsLawfulDocument fields) table doc document sound.0.documents (document_is_lawful fields document fits);
  },
  all_values-insert nat_cmp_total (DocumentHasType fields) table doc document sound.1 (document_has_type fields document fits),
)

pub sound-without : (fields : List Field) (table : Table) (doc : ℕ) → Sound fields table
    → Sound fields (without_document table doc)
sound-without fields table doc sound = (
  record {
    ascends = sorted-remove nat_cmp (is_at (nat_cmp doc)) table sound.0.ascends;
    numbers = all_keys-remove IsDocNumber (is_at (nat_cmp doc)) table sound.0.numbers;
    documents = all-remove (λ e. IsLawfulDocument fields e.1) (is_at (nat_cmp doc)) table sound.0.documents;
  },
  all-remove (λ e. DocumentHasType fields e.1) (is_at (nat_cmp doc)) table sound.1,
)

-- a document of a sound table fits
pub found_fits : (fields : List Field) (table : Table) (doc : ℕ) (document : Document) → Sound fields table
    → document_at table doc ≡ Some document → DocumentFits fields document
found_fits fields table doc document sound is =
    document_fits fields document
    (all-lookup (IsLawfulDocument fields) (is_at (nat_cmp doc)) table sound.0.documents document is)
    (all-lookup (DocumentHasType fields) (is_at (nat_cmp doc)) table sound.1 document is)

-- what an update starts from fits
pub start_fits : (fields : List Field) (table : Table) (doc : ℕ) (create : Bool) → Sound fields table
    → IfSome (to_update fields create (document_at table doc)) (DocumentFits fields)
start_fits fields table doc create sound = told create (document_at table doc) refl
  where
    told : (create : Bool) (found : Option Document) → document_at table doc ≡ found
        → IfSome (to_update fields create found) (DocumentFits fields)
    told create (Some document) is = found_fits fields table doc document sound is
    told true None is = without_items_fits fields
    told false None is = tt

then_updated : (fields : List Field) (changes : List Change) (start : Option Document) → ChangesFit fields changes
    → IfSome start (DocumentFits fields)
    → IfSome (option_and_then (updated fields changes) start) (DocumentFits fields)
then_updated fields changes None fit fits = tt
then_updated fields changes (Some document) fit fits = updated_fits fields changes document fit fits

sound-changed : (fields : List Field) (table : Table) (doc : ℕ) (new : Option Document) → Sound fields table
    → IsDocNumber doc → IfSome new (DocumentFits fields)
    → Sound fields (unwrap_or (option_map (with_document table doc) new) table)
sound-changed fields table doc None sound is_doc fits = sound
sound-changed fields table doc (Some document) sound is_doc fits =
    sound-with fields table doc document sound is_doc fits

sound-removed : (fields : List Field) (table : Table) (doc : ℕ) (found : Option Document) → Sound fields table
    → Sound fields (unwrap_or (option_map (λ _. without_document table doc) found) table)
sound-removed fields table doc None sound = sound
sound-removed fields table doc (Some document) sound = sound-without fields table doc sound

pub step_keeps : (fields : List Field) (table : Table) (op : Op) → OpFits fields op
    → Sound fields table → Sound fields (after_op fields table op)
step_keeps fields table (Put doc items) fits sound = sound-with fields table doc items sound fits.0 fits.1
step_keeps fields table (Update doc create changes) fits sound =
    sound-changed fields table doc
    (option_and_then (updated fields changes) (to_update fields create (document_at table doc))) sound fits.0
    (then_updated fields changes (to_update fields create (document_at table doc)) fits.1 (start_fits fields table doc create sound))
step_keeps fields table (Remove doc) fits sound = sound-removed fields table doc (document_at table doc) sound

steps_keep : (fields : List Field) (table : Table) (ops : List Op) (n : ℕ) → AllByRecursion (OpFits fields) ops
    → Sound fields table → Sound fields (after_ops fields table (take n ops))
steps_keep fields table ops zero fits sound = sound
steps_keep fields table [] (suc n) fits sound = sound
steps_keep fields table (op ∷ ops) (suc n) fits sound =
    steps_keep fields (after_op fields table op) ops n fits.1 (step_keeps fields table op fits.0 sound)

pub run_keeps : (fields : List Field) (ops : List Op) (n : ℕ) → AllByRecursion (OpFits fields) ops
    → Sound fields (after fields ops n)
unfolding IsStrictlySortedBy
run_keeps fields ops n fits =
    steps_keep fields [] ops n fits (record { ascends = tt; numbers = tt; documents = tt }, tt)

pub skipped_leaves : (fields : List Field) (table : Table) (op : Op) → is_skipped fields table op ≡ true
    → after_op fields table op ≡ table
skipped_leaves fields table op skipped = left (step fields table op) skipped
  where
    left : (next : Option Table) → is_none next ≡ true → unwrap_or next table ≡ table
    left None none = refl
    left (Some next) none = cc

other-changed : (table : Table) (doc other : ℕ) (new : Option Document) → other ≢ doc
    → document_at (unwrap_or (option_map (with_document table doc) new) table) other ≡ document_at table other
other-changed table doc other None apart = refl
other-changed table doc other (Some document) apart =
    lookup-insert_other nat_cmp_total table doc document other (nat_cmp_apart other doc apart)

other-removed : (table : Table) (doc other : ℕ) (found : Option Document)
    → IsStrictlySortedBy nat_cmp (keys_of table) → other ≢ doc
    → document_at (unwrap_or (option_map (λ _. without_document table doc) found) table) other ≡ document_at table other
other-removed table doc other None up apart = refl
other-removed table doc other (Some document) up apart =
    lookup-remove nat_cmp_total table doc other up
    ∙ ap (λ b. cond b None (document_at table other)) (nat_cmp_apart doc other (λ same. apart (sym same)))

pub others_stay : (fields : List Field) (table : Table) (op : Op) (other : ℕ) → IsLawfulTable fields table
    → other ≢ op_doc op
    → document_at (after_op fields table op) other ≡ document_at table other
others_stay fields table (Put doc items) other lawful apart = other-changed table doc other (Some items) apart
others_stay fields table (Update doc create changes) other lawful apart =
    other-changed table doc other
    (option_and_then (updated fields changes) (to_update fields create (document_at table doc))) apart
others_stay fields table (Remove doc) other lawful apart =
    other-removed table doc other (document_at table doc) lawful.ascends apart

pub put_is_there : (table : Table) (doc : ℕ) (items : Document)
    → document_at (with_document table doc items) doc ≡ Some items
put_is_there table doc items = lookup-insert_here nat_cmp_total table doc items

removed_is_gone : (table : Table) (doc : ℕ) (found : Option Document)
    → IsStrictlySortedBy nat_cmp (keys_of table)
    → document_at table doc ≡ found
    → document_at (unwrap_or (option_map (λ _. without_document table doc) found) table) doc ≡ None
removed_is_gone table doc None up is = is
removed_is_gone table doc (Some document) up is =
    lookup-remove nat_cmp_total table doc doc up
    ∙ ap (λ r. cond (is_eq r) None (document_at table doc)) (tied_itself nat_cmp_total doc)

pub remove_after_put : (fields : List Field) (table : Table) (doc : ℕ) (items : Document) → IsLawfulTable fields table
    → document_at (after_ops fields table (Put doc items ∷ Remove doc ∷ [])) doc ≡ None
remove_after_put fields table doc items lawful =
    let put : Table = with_document table doc items in
    removed_is_gone put doc (document_at put doc) (sorted-insert nat_cmp_total table doc items lawful.ascends) refl
