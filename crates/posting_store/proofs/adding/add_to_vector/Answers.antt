use Rattle.std.proofs.Common.{true, pos, length, arith}
use Rattle.std.proofs.lemmas.Result.{err_from_is_err_and}
use Rattle.std.specs.BTreeMap.{insert_entry}
use Rattle.std.specs.Ordering.{nat_cmp}
use Rattle.store_api.proofs.May.{may_do-same}
use Rattle.attr_types.specs.Lawful.{IsDocNumber}
use Rattle.posting_store.specs.Lists.{list_at}
use Rattle.bit_vector.specs.Changes.{IsVectorWidth}
use Rattle.posting_store.specs.Changes.{IsListChangeWidth}
use Rattle.posting_store.proofs.RefusalLemmas.{of_more}
use Rattle.posting_store.proofs.RuleLemmas.{changed_vector}
use Rattle.posting_store.proofs.VectorLemmas.{vector_added, vector_counts, vector_is, vector_more, vector_owned}
use Rattle.posting_store.proofs.adding.add_to_vector.Goals as goal

pub insert-requires : goal.insert-requires
insert-requires g c =
    let a = g.S.Store.ledger c.args.store.now in
    let m = g.S.Frozen.records c.args.store.now in
    let root = c.root_of-vector.result in
    let is = c.root_of-vector.ensures in
    (omega arith, (c.requires.unit, (vector_is m c.args.list root is c.requires.list, vector_owned m c.args.list root is a c.requires.owns)))

pub returns-in_err-root-clause-counts : goal.returns-in_err-root-clause-counts
returns-in_err-root-clause-counts g c =
    let ledger = g.S.Store.ledger in
    let records = g.S.Frozen.records in
    let s = c.args.store.now in
    let t = c.insert.new.store in
    let docs = insert_entry nat_cmp (list_at (records s) c.args.list) c.args.doc (pos 1) in
    let root = c.root_of-vector.result in
    let is = c.root_of-vector.ensures in
    let number : IsDocNumber c.args.doc = (c.number_law.ensures.first, c.number_law.ensures.last) in
    vector_counts (ledger s) (ledger t) (records s) (records t) c.args.list root is c.requires.list docs c.insert.ensures.counts

pub returns-clause-counts : goal.returns-clause-counts
returns-clause-counts g c =
    let ledger = g.S.Store.ledger in
    let records = g.S.Frozen.records in
    let s = c.args.store.now in
    let t = c.insert.new.store in
    let docs = insert_entry nat_cmp (list_at (records s) c.args.list) c.args.doc (pos 1) in
    let root = c.root_of-vector.result in
    let is = c.root_of-vector.ensures in
    let number : IsDocNumber c.args.doc = (c.number_law.ensures.first, c.number_law.ensures.last) in
    vector_counts (ledger s) (ledger t) (records s) (records t) c.args.list root is c.requires.list docs c.insert.ensures.counts

pub returns-in_err-root-clause-refuses : goal.returns-in_err-root-clause-refuses
returns-in_err-root-clause-refuses g c =
    let ledger = g.S.Store.ledger in
    let records = g.S.Frozen.records in
    let s = c.args.store.now in
    let t = c.insert.new.store in
    let docs = insert_entry nat_cmp (list_at (records s) c.args.list) c.args.doc (pos 1) in
    let root = c.root_of-vector.result in
    let is = c.root_of-vector.ensures in
    let number : IsDocNumber c.args.doc = (c.number_law.ensures.first, c.number_law.ensures.last) in
    let p = err_from_is_err_and c.from_residual.result c.from_residual.ensures.1 in
    let many = vector_more (ledger s) (ledger t) (records s) (records t) c.args.list root is c.requires.list c.args.doc number in
    rw (p.1, p.2) (of_more IsVectorWidth (IsListChangeWidth true (length docs)) (ledger s) (ledger s) (ledger t) _ (may_do-same (ledger s)) (λ w one. changed_vector (length docs) w many one)
    c.in_err-root.ensures.refuses)

pub returns-clause-makes : goal.returns-clause-makes
returns-clause-makes g c =
    let ledger = g.S.Store.ledger in
    let records = g.S.Frozen.records in
    let s = c.args.store.now in
    let t = c.insert.new.store in
    let docs = insert_entry nat_cmp (list_at (records s) c.args.list) c.args.doc (pos 1) in
    let root = c.root_of-vector.result in
    let is = c.root_of-vector.ensures in
    let number : IsDocNumber c.args.doc = (c.number_law.ensures.first, c.number_law.ensures.last) in
    vector_added (ledger s) (ledger t) (records s) (records t) c.args.list root is c.requires.list c.args.doc number c.vector.result c.in_ok-root.root c.vector.ensures.word c.vector.ensures.vector
    c.insert.ensures.may c.in_ok-root.ensures.makes
