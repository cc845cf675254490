use Rattle.std.proofs.Common.{◌-◌, ◌+◌, ◌∷◌, length, map, take, drop, refl, sym, ap, ap₂, ◌∙◌, true≢false}
use Rattle.std.specs.List.{zip}
use Rattle.std.specs.Map.{keys_of}
use Rattle.index_model.specs.Columns.{Column}
use Rattle.attr_types.specs.Table.{Table}
use Rattle.entry_ref.specs.Maps.{seen}
use Rattle.check_images.proofs.BlockLemmas.{more_than_none}
use Rattle.check_images.proofs.TableLemmas.{taken_apart, fields_lawful, other_fields_keys, more_table}
use Rattle.check_images.proofs.image.+check_attributes.Goals as goal

pub returns-then-not-have_same_documents-clause-exact : goal.returns-then-not-have_same_documents-clause-exact
returns-then-not-have_same_documents-clause-exact t c = λ good.
    let m = seen c.args.records.now in
    let fields = c.args.fields.now in
    let field = c.field-item.result in
    let rest = take (length fields - 1) (drop 1 fields) in
    let is = taken_apart fields field c.in-len1-up.len_at_least c.field-item.is in
    let keys = other_fields_keys m c.args.words.now c.args.first (c.args.first + 1) c.word_in-documents.result c.word_in-dictionary.result field fields rest is refl c.word_in-documents.ensures
    c.word_in-dictionary.ensures
    (more_than_none _ c.if-is_empty.ensures) good in
    let same = ap keys_of (c.as_slice-2.ensures.value ∙ c.in_ok-table.ensures.table) ∙ keys ∙ sym (ap keys_of (c.as_slice.ensures.value ∙ c.in_ok-column.ensures.column)) in
    true≢false (sym (c.have_same_documents.ensures.1 same) ∙ c.if-not-have_same_documents.true)

pub returns-clause-lawful : goal.returns-clause-lawful
returns-clause-lawful t c =
    let m = seen c.args.records.now in
    let fields = c.args.fields.now in
    let field = c.field-item.result in
    let rest = take (length fields - 1) (drop 1 fields) in
    let is = taken_apart fields field c.in-len1-up.len_at_least c.field-item.is in
    let same = c.have_same_documents.ensures.0 c.if-not-have_same_documents.false in
    fields_lawful m c.args.words.now c.args.first (c.args.first + 1) c.word_in-documents.result c.word_in-dictionary.result field fields rest is refl c.word_in-documents.ensures c.word_in-dictionary.ensures
    c.in_ok-column.ensures.lawful c.in_ok-table.ensures.lawful
    (λ some. sym (ap keys_of (c.as_slice-2.ensures.value ∙ c.in_ok-table.ensures.table)) ∙ same ∙ ap keys_of (c.as_slice.ensures.value ∙ c.in_ok-column.ensures.column))

pub returns-clause-table : goal.returns-clause-table
returns-clause-table t c =
    let m = seen c.args.records.now in
    let fields = c.args.fields.now in
    let field = c.field-item.result in
    let rest = take (length fields - 1) (drop 1 fields) in
    let is = taken_apart fields field c.in-len1-up.len_at_least c.field-item.is in
    c.in_ok-put_beside.ensures
    ∙ ap₂ (λ (column : Column) (table : Table). map (λ p. (p.0.0, p.0.1 ∷ p.1.1)) (zip column table)) c.in_ok-column.ensures.column c.in_ok-table.ensures.table
    ∙ more_table m c.args.words.now c.args.first (c.args.first + 1) c.word_in-documents.result c.word_in-dictionary.result field fields rest is refl c.word_in-documents.ensures c.word_in-dictionary.ensures
    (more_than_none _ c.if-is_empty.ensures)
