use Rattle.std.proofs.Common.{◌≡◌, subst, arith}
use Rattle.tree_read.specs.SearchPlaces.{first_key, first_value, pairs_from}
use Rattle.image_format.specs.Documents.{AreItemRecords}
use Rattle.attr_saver.proofs.StoredLemmas.{next_pair, document_len}
use Rattle.attr_saver.proofs.stored_documents.next_size.Goals as goal

pub items_size-requires : goal.items_size-requires
items_size-requires g c =
    let m = g.F.Frozen.records c.args.frozen.now in
    let ps = pairs_from m c.args.cursor.now in
    let next = next_pair c.args.kind c.args.value_type m ps c.requires.some c.requires.stored in
    let value = c.value.ensures m c.requires.at in
    let fits = next.reference in
    let made = c.from_raw-reference.ensures in
    (omega arith, subst (AreItemRecords c.args.kind c.args.value_type m) (let e : first_value ps ≡ c.from_raw-reference.result = omega (arith, value, fits, made) in e) next.items)

pub returns-clause-size : goal.returns-clause-size
returns-clause-size g c =
    let m = g.F.Frozen.records c.args.frozen.now in
    let ps = pairs_from m c.args.cursor.now in
    let next = next_pair c.args.kind c.args.value_type m ps c.requires.some c.requires.stored in
    let value = c.value.ensures m c.requires.at in
    let fits = next.reference in
    let made = c.from_raw-reference.ensures in
    let len = document_len c.args.kind c.args.value_type m (first_key ps) c.from_raw-reference.result (first_value ps) (omega (arith, value, fits, made)) in
    let size = c.items_size.ensures.size in
    omega (arith, len, size)
