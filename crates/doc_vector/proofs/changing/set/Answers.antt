use Rattle.std.proofs.Common.{rules, ℕ, subst}
use Rattle.std.specs.Prelude.{IfOk}
use Rattle.tree_read.specs.Trees.{tree_pairs}
use Rattle.tree_read.specs.Pairs.{put}
use Rattle.tree_read.proofs.PairLemmas.{All-put}
use Rattle.doc_vector.specs.Documents.{beside_document, IsDocumentPair, MakesMap}
use Rattle.doc_vector.proofs.DocumentLemmas.{makes_map}
use Rattle.doc_vector.proofs.changing.set.Goals as goal

pub returns-clause-makes : goal.returns-clause-makes
returns-clause-makes g c =
    let ledger = g.S.Store.ledger in
    let records = g.S.Frozen.records in
    let s = c.args.store.now in
    let t = c.insert.new.store in
    let ps = tree_pairs (records s) c.args.root in
    let number = c.number-number in
    let pair : IsDocumentPair (number.result, c.raw.result) = record { document = (number.ensures.first, number.ensures.last); reference = search rules } in
    let made = makes_map (ledger s) (ledger t) (records s) (records t) c.args.root (put (beside_document number.result) (number.result, c.raw.result) ps) c.insert.result
    (All-put IsDocumentPair (beside_document number.result) (number.result, c.raw.result) ps pair c.requires.map.pairs)
    c.insert.ensures.keyed c.insert.ensures.owns c.insert.ensures.pairs c.insert.ensures.turns in
    subst (λ (doc : ℕ). IfOk c.insert.result (MakesMap (ledger s) (ledger t) (records s) (records t) c.args.root (put (beside_document doc) (doc, c.args.items) ps))) number.ensures.number
    (subst (λ (items : ℕ). IfOk c.insert.result (MakesMap (ledger s) (ledger t) (records s) (records t) c.args.root (put (beside_document number.result) (number.result, items) ps))) c.raw.ensures made)
