use Rattle.std.proofs.Common.{true, length, arith}
use Rattle.std.proofs.lemmas.Result.{err_from_is_err_and}
use Rattle.std.specs.BTreeMap.{is_at}
use Rattle.std.specs.Map.{remove_entry}
use Rattle.std.specs.Ordering.{nat_cmp}
use Rattle.store_api.proofs.May.{may_do-same}
use Rattle.posting_store.specs.Lists.{list_at}
use Rattle.bit_vector.specs.Changes.{IsVectorWidth}
use Rattle.posting_store.specs.Changes.{IsListChangeWidth}
use Rattle.posting_store.proofs.RefusalLemmas.{of_more}
use Rattle.posting_store.proofs.RuleLemmas.{changed_vector}
use Rattle.posting_store.proofs.VectorLemmas.{vector_counts, vector_is, vector_left, vector_owned, vector_removed}
use Rattle.posting_store.proofs.removing.remove_from_vector.Goals as goal

pub remove-requires : goal.remove-requires
remove-requires g c =
    let a = g.S.Store.ledger c.args.store.now in
    let m = g.S.Frozen.records c.args.store.now in
    let root = c.root_of-vector.result in
    let is = c.root_of-vector.ensures in
    (omega arith, (c.requires.unit, (vector_is m c.args.list root is c.requires.list, vector_owned m c.args.list root is a c.requires.owns)))

pub returns-in_err-root-clause-counts : goal.returns-in_err-root-clause-counts
returns-in_err-root-clause-counts g c =
    let ledger = g.S.Store.ledger in
    let records = g.S.Frozen.records in
    let s = c.args.store.now in
    let t = c.remove.new.store in
    let docs = remove_entry (is_at (nat_cmp c.args.doc)) (list_at (records s) c.args.list) in
    let root = c.root_of-vector.result in
    let is = c.root_of-vector.ensures in
    vector_counts (ledger s) (ledger t) (records s) (records t) c.args.list root is c.requires.list docs c.remove.ensures.counts

pub returns-clause-counts : goal.returns-clause-counts
returns-clause-counts g c =
    let ledger = g.S.Store.ledger in
    let records = g.S.Frozen.records in
    let s = c.args.store.now in
    let t = c.remove.new.store in
    let docs = remove_entry (is_at (nat_cmp c.args.doc)) (list_at (records s) c.args.list) in
    let root = c.root_of-vector.result in
    let is = c.root_of-vector.ensures in
    vector_counts (ledger s) (ledger t) (records s) (records t) c.args.list root is c.requires.list docs c.remove.ensures.counts

pub returns-in_err-root-clause-refuses : goal.returns-in_err-root-clause-refuses
returns-in_err-root-clause-refuses g c =
    let ledger = g.S.Store.ledger in
    let records = g.S.Frozen.records in
    let s = c.args.store.now in
    let t = c.remove.new.store in
    let docs = remove_entry (is_at (nat_cmp c.args.doc)) (list_at (records s) c.args.list) in
    let root = c.root_of-vector.result in
    let is = c.root_of-vector.ensures in
    let p = err_from_is_err_and c.from_residual.result c.from_residual.ensures.1 in
    let many = vector_left (ledger s) (ledger t) (records s) (records t) c.args.list root is c.requires.list c.args.doc c.requires.there c.requires.many in
    rw (p.1, p.2) (of_more IsVectorWidth (IsListChangeWidth true (length docs)) (ledger s) (ledger s) (ledger t) _ (may_do-same (ledger s)) (λ w one. changed_vector (length docs) w many one)
    c.in_err-root.ensures.refuses)

pub returns-clause-makes : goal.returns-clause-makes
returns-clause-makes g c =
    let ledger = g.S.Store.ledger in
    let records = g.S.Frozen.records in
    let s = c.args.store.now in
    let t = c.remove.new.store in
    let docs = remove_entry (is_at (nat_cmp c.args.doc)) (list_at (records s) c.args.list) in
    let root = c.root_of-vector.result in
    let is = c.root_of-vector.ensures in
    vector_removed (ledger s) (ledger t) (records s) (records t) c.args.list root is c.requires.list c.args.doc c.requires.there c.requires.many c.vector.result c.in_ok-root.root
    c.vector.ensures.word c.vector.ensures.vector c.remove.ensures.may c.in_ok-root.ensures.makes
