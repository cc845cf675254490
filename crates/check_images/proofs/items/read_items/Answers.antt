use Rattle.entry_ref.specs.Maps.{seen}
use Rattle.check_images.proofs.ItemLemmas.{items_told}
use Rattle.check_images.proofs.items.read_items.Goals as goal

pub returns-in-Some : goal.returns-in-Some
returns-in-Some c =
    items_told c.args.kind c.args.value_type (seen c.args.records.now) c.args.reference c.in-Some.list c.words_at.result.now c.as_slice.result.now c.in_ok-list.field-0 c.read_values.result
    c.words_at.ensures.words c.as_slice.ensures.value c.in-Some.is c.in_ok-list.ensures c.read_values.ensures
