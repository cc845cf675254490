use Rattle.std.proofs.Common.{ℕ, subst, arith}
use Rattle.std.specs.Prelude.{IfOk}
use Rattle.frozen_btree.proofs.UsedLemmas.{node_used}
use Rattle.frozen_btree.proofs.MakesLemmas.{counts-none}
use Rattle.store_api.proofs.May.{may_do-same}
use Rattle.frozen_btree.specs.Changes.{levels}
use Rattle.frozen_btree.proofs.Results.{is_valid, not_valid, on_err}
use Rattle.frozen_btree.specs.Paths.{path_nodes, NoneIn}
use Rattle.doc_vector.specs.Documents.{beside_document}
use Rattle.doc_vector.proofs.DocumentLemmas.{number_keyed}
use Rattle.compaction_moves.proofs.DocumentNodeLemmas.{nodes_moved_by, nodes_owned, nodes_unmoved}
use Rattle.compaction_moves.proofs.document_nodes.move_document_nodes.Goals as goal

pub returns-then-not-valid-clause-moves : goal.returns-then-not-valid-clause-moves
returns-then-not-valid-clause-moves g c =
    let a = g.S.Store.ledger c.args.store.now in
    let m = g.S.Frozen.records c.args.store.now in
    let root = c.args.root in
    nodes_unmoved g.row.OFFSET_BITS c.args.buffer c.args.kind c.args.value_type a m root c.args.doc c.requires.documents c.requires.owns
    (not_valid c.valid.result root c.valid.ensures.1 c.if-not-valid.true)

pub returns-then-not-valid-clause-counts : goal.returns-then-not-valid-clause-counts
returns-then-not-valid-clause-counts g c = counts-none (g.S.Store.ledger c.args.store.now) (levels (g.S.Frozen.records c.args.store.now) c.args.root)

pub returns-then-not-valid-clause-may : goal.returns-then-not-valid-clause-may
returns-then-not-valid-clause-may g c = may_do-same (g.S.Store.ledger c.args.store.now)

pub touch-requires : goal.touch-requires
touch-requires g c =
    let a = g.S.Store.ledger c.args.store.now in
    let m = g.S.Frozen.records c.args.store.now in
    let owned = nodes_owned g.row.OFFSET_BITS c.args.buffer c.args.kind c.args.value_type a a m m c.args.root c.args.doc c.requires.documents c.requires.beside c.requires.owns in
    (omega arith, (c.requires.unit, (c.requires.sealed, (number_keyed m c.args.root c.requires.documents.map_is, owned))))

pub returns-clause-moves : goal.returns-clause-moves
returns-clause-moves g c =
    let ledger = g.S.Store.ledger in
    let records = g.S.Frozen.records in
    let s = c.args.store.now in
    let t = c.touch.new.store in
    let bits = g.row.OFFSET_BITS in
    let it = c.touch.ensures in
    let apart = subst (λ (doc : ℕ). IfOk c.touch.result (λ r. NoneIn bits c.args.buffer (path_nodes (records t) (beside_document doc) r))) c.number.ensures.number it.apart in
    nodes_moved_by bits c.args.buffer c.args.kind c.args.value_type (ledger s) (ledger t) (records s) (records t) c.args.root c.args.doc
    c.requires.documents c.requires.beside c.requires.owns c.touch.result it.keyed it.pairs apart it.turns

pub returns-clause-counts : goal.returns-clause-counts
returns-clause-counts g c = c.touch.ensures.counts

pub returns-clause-refuses : goal.returns-clause-refuses
returns-clause-refuses g c = c.touch.ensures.refuses

pub returns-clause-may : goal.returns-clause-may
returns-clause-may g c = c.touch.ensures.may

pub returns-clause-used : goal.returns-clause-used
returns-clause-used g c =
    let a = g.S.Store.ledger c.args.store.now in
    let m = g.S.Frozen.records c.args.store.now in
    let root = c.args.root in
    let owned = nodes_owned g.row.OFFSET_BITS c.args.buffer c.args.kind c.args.value_type a a m m root c.args.doc c.requires.documents c.requires.beside c.requires.owns in
    on_err c.touch.result (node_used a m root c.requires.documents.map_is.tree_is.node (is_valid c.valid.result root c.valid.ensures.0 c.if-not-valid.false) owned)
