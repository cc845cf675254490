use Rattle.std.proofs.Common.{◌<◌, ◌≡◌, ℕ, List, arith, true≢false, sym, subst, ◌∙◌}
use Rattle.std.specs.Prelude.{OnOk, IfOk, IfErr, Vec}
use Rattle.std.proofs.lemmas.Result.{on_ok_weaker, IfOk-weaker}
use Rattle.std.specs.declared.alloc.Global.{Global}
use Rattle.image_format.specs.Images.{attributes_from, IsRootRecord}
use Rattle.image_format.specs.Shapes.{shape_of, types_of}
use Rattle.image_format.specs.Tables.{table_of_columns, columns_at, AreLawfulAttributes}
use Rattle.attr_types.specs.Value.{Document}
use Rattle.attr_types.specs.declared.field.Field.{Field}
use Rattle.entry_ref.specs.Maps.{seen}
use Rattle.check_images.specs.Refutations.{Refutes}
use Rattle.check_images.proofs.LawfulLemmas.{lawful_image, image_record, image_attributes, image_table, refuted_then, no_table}
use Rattle.check_images.proofs.image.check_image.Goals as goal

pub returns-then-root-eq0-clause-table : goal.returns-then-root-eq0-clause-table
returns-then-root-eq0-clause-table c = no_table (shape_of (types_of c.args.fields.now)) (seen c.args.records.now) c.args.root c.new.result.items c.if-root-eq0.true c.new.ensures.items

pub returns-then-not-is_root_record-clause-exact : goal.returns-then-not-is_root_record-clause-exact
returns-then-not-is_root_record-clause-exact c = λ lawful.
    let m = seen c.args.records.now in
    let some : 0 < c.args.root = (let other = c.if-root-eq0.false in omega arith) in
    let form = image_record c.args.fields.now m c.args.root some c.requires c.words_at-words.result.now c.words_at-words.ensures.words lawful in
    true≢false (sym (c.is_root_record.ensures.1 (subst (λ n. IsRootRecord n c.words_at-words.result.now) (sym c.len.ensures) form)) ∙ c.if-not-is_root_record.true)

pub returns-clause-lawful : goal.returns-clause-lawful
returns-clause-lawful c =
    let m = seen c.args.records.now in
    let words = c.words_at-words.result.now in
    let some : 0 < c.args.root = (let other = c.if-root-eq0.false in omega arith) in
    let form = subst (λ n. IsRootRecord n words) c.len.ensures (c.is_root_record.ensures.0 c.if-not-is_root_record.false) in
    on_ok_weaker c.check_attributes.result (lawful_image c.args.fields.now m c.args.root some c.requires words c.words_at-words.ensures.words form)
    (subst (λ (fs : List Field). OnOk c.check_attributes.result (AreLawfulAttributes m (attributes_from 0 (types_of fs) words))) c.as_slice.ensures c.check_attributes.ensures.lawful)

pub returns-clause-table : goal.returns-clause-table
returns-clause-table c =
    let m = seen c.args.records.now in
    let words = c.words_at-words.result.now in
    let some : 0 < c.args.root = (let other = c.if-root-eq0.false in omega arith) in
    let whole = image_table c.args.fields.now m c.args.root some c.requires words c.words_at-words.ensures.words in
    IfOk-weaker c.check_attributes.result _ _ (λ table is. is ∙ whole)
    (subst (λ (fs : List Field). IfOk c.check_attributes.result (λ (table : Vec (ℕ × Document) Global). table.items ≡ table_of_columns (columns_at m (attributes_from 0 (types_of fs) words)))) c.as_slice.ensures
    c.check_attributes.ensures.table)

pub returns-clause-exact : goal.returns-clause-exact
returns-clause-exact c =
    let m = seen c.args.records.now in
    let words = c.words_at-words.result.now in
    let some : 0 < c.args.root = (let other = c.if-root-eq0.false in omega arith) in
    refuted_then c.check_attributes.result (image_attributes c.args.fields.now m c.args.root some c.requires words c.words_at-words.ensures.words)
    (subst (λ (fs : List Field). IfErr c.check_attributes.result (Refutes (AreLawfulAttributes m (attributes_from 0 (types_of fs) words)))) c.as_slice.ensures c.check_attributes.ensures.exact)
