use Rattle.std.proofs.Common.{◌≡◌, subst, arith}
use Rattle.tree_read.specs.SearchPlaces.{first_key, first_value, pairs_from}
use Rattle.image_format.specs.Documents.{AreItemRecords}
use Rattle.attr_saver.proofs.StoredLemmas.{next_pair, same_text}
use Rattle.attr_saver.proofs.WriteLemmas.{writes-as}
use Rattle.attr_saver.proofs.stored_documents.write_next.Goals as goal

pub write_document-requires : goal.write_document-requires
write_document-requires g c =
    let m = g.F.Frozen.records c.args.frozen.now in
    let ps = pairs_from m c.args.cursor.now in
    let next = next_pair c.args.kind c.args.value_type m ps c.requires.some c.requires.stored in
    let value = c.value.ensures m c.requires.at in
    let fits = next.reference in
    let made = c.from_raw-reference.ensures in
    (omega arith, subst (AreItemRecords c.args.kind c.args.value_type m) (let e : first_value ps ≡ c.from_raw-reference.result = omega (arith, value, fits, made) in e) next.items)

pub returns-clause-writes : goal.returns-clause-writes
returns-clause-writes g c =
    let m = g.F.Frozen.records c.args.frozen.now in
    let ps = pairs_from m c.args.cursor.now in
    let next = next_pair c.args.kind c.args.value_type m ps c.requires.some c.requires.stored in
    let key = c.key-doc.ensures m c.requires.at in
    let value = c.value.ensures m c.requires.at in
    let number = next.number in
    let fits = next.reference in
    let made = c.from_raw-reference.ensures in
    writes-as c.write_document.ensures.writes
    (same_text c.args.kind c.args.value_type m _ _ (first_key ps) (first_value ps) (omega (arith, key, number)) (omega (arith, value, fits, made)))
