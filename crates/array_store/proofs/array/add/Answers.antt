use Rattle.array_store.proofs.ArrayLemmas.{added_array, added_items}
use Rattle.array_store.proofs.array.add.Goals as goal

pub returns-in-0-to-15-clause-array : goal.returns-in-0-to-15-clause-array
returns-in-0-to-15-clause-array g c = added_array g.row.OFFSET_BITS _ _ _ _ c.args.items.now c.add_by.result c.requires.few c.add_by.ensures.adds

pub returns-in-0-to-15-clause-items : goal.returns-in-0-to-15-clause-items
returns-in-0-to-15-clause-items g c = added_items g.row.OFFSET_BITS _ _ _ _ c.args.items.now c.add_by.result c.add_by.ensures.adds

pub returns-in-16-to-127-clause-array : goal.returns-in-16-to-127-clause-array
returns-in-16-to-127-clause-array g c =
    added_array g.row.OFFSET_BITS _ _ _ _ c.args.items.now c.add_by-in-16-to-127.result c.requires.few c.add_by-in-16-to-127.ensures.adds

pub returns-in-16-to-127-clause-items : goal.returns-in-16-to-127-clause-items
returns-in-16-to-127-clause-items g c = added_items g.row.OFFSET_BITS _ _ _ _ c.args.items.now c.add_by-in-16-to-127.result c.add_by-in-16-to-127.ensures.adds

pub returns-in_default-clause-array : goal.returns-in_default-clause-array
returns-in_default-clause-array g c = added_array g.row.OFFSET_BITS _ _ _ _ c.args.items.now c.add_by-in_default.result c.requires.few c.add_by-in_default.ensures.adds

pub returns-in_default-clause-items : goal.returns-in_default-clause-items
returns-in_default-clause-items g c = added_items g.row.OFFSET_BITS _ _ _ _ c.args.items.now c.add_by-in_default.result c.add_by-in_default.ensures.adds
