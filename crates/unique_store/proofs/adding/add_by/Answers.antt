use Rattle.std.proofs.Common.{arith}
use Rattle.image_format.proofs.TextLemmas.{text_reads}
use Rattle.attr_types.specs.declared.value.Value.TheVariants as values
use Rattle.unique_store.proofs.RecordLemmas.{added_record, added_value}
use Rattle.unique_store.proofs.adding.add_by.Goals as goal

pub returns-clause-record : goal.returns-clause-record
returns-clause-record g c =
    let bytes = c.args.bytes.now in
    added_record g.row.OFFSET_BITS _ _ _ _ c.write_text.new.words (values.Text bytes) c.write_text.ensures (c.requires.utf8, c.requires.few) (text_reads bytes (λ i. omega (arith, c.type_inv.bytes i)))
    c.make_record.result c.make_record.ensures.adds

pub returns-clause-value : goal.returns-clause-value
returns-clause-value g c =
    let bytes = c.args.bytes.now in
    added_value g.row.OFFSET_BITS _ _ _ _ c.write_text.new.words (values.Text bytes) c.write_text.ensures (c.requires.utf8, c.requires.few) (text_reads bytes (λ i. omega (arith, c.type_inv.bytes i)))
    c.make_record.result c.make_record.ensures.adds
