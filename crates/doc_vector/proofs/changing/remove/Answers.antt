use Rattle.std.proofs.Common.{ℕ, subst}
use Rattle.std.specs.Prelude.{IfOk}
use Rattle.tree_read.specs.Trees.{tree_pairs}
use Rattle.tree_read.specs.Pairs.{take_out}
use Rattle.tree_read.proofs.PairLemmas.{All-take_out}
use Rattle.doc_vector.specs.Documents.{beside_document, IsDocumentPair, MakesMap}
use Rattle.doc_vector.proofs.DocumentLemmas.{makes_map}
use Rattle.doc_vector.proofs.changing.remove.Goals as goal

pub returns-clause-makes : goal.returns-clause-makes
returns-clause-makes g c =
    let ledger = g.S.Store.ledger in
    let records = g.S.Frozen.records in
    let s = c.args.store.now in
    let t = c.remove.new.store in
    let ps = tree_pairs (records s) c.args.root in
    let made = makes_map (ledger s) (ledger t) (records s) (records t) c.args.root (take_out (beside_document c.number.result) ps) c.remove.result
    (All-take_out IsDocumentPair (beside_document c.number.result) ps c.requires.map.pairs)
    c.remove.ensures.keyed c.remove.ensures.owns c.remove.ensures.pairs c.remove.ensures.turns in
    subst (λ (doc : ℕ). IfOk c.remove.result (MakesMap (ledger s) (ledger t) (records s) (records t) c.args.root (take_out (beside_document doc) ps))) c.number.ensures.number made
