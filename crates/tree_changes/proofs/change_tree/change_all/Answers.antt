use Rattle.std.proofs.Common.{ℕ, [], ◌∷◌, sym, subst, ◌+◌, ◌*◌, length, arith}
use Rattle.tree_read.specs.Trees.{tree_pairs}
use Rattle.tree_read.specs.Keys.{ReadsNoNode}
use Rattle.tree_read.proofs.OrderKeyLemmas.{others_kept}
use Rattle.store_api.specs.Parts.{Owns, entries}
use Rattle.frozen_btree.specs.Changes.{DropsEntries, tree, levels}
use Rattle.frozen_nodes.proofs.Results.{on_err}
use Rattle.tree_changes.specs.Merges.{merged, Change}
use Rattle.tree_changes.specs.Layers.{seen_changes, seen_change}
use Rattle.tree_changes.specs.declared.change_below.Change as given
use Rattle.tree_changes.proofs.EndLemmas.{gone-owned, end-turns, end-owns, end-pairs, end-others, end-may, end-keyed, merged-all, merged-ascends}
use Rattle.list_lemmas.proofs.Tests.{zero_from_test, above_zero_from_test}
use Rattle.store_api.proofs.PartLemmas.{turns-same}
use Rattle.frozen_nodes.proofs.MakesLemmas.{counts-then, counts-none}
use Rattle.tree_changes.proofs.ChangeBelowLemmas.{merged-none}
use Rattle.tree_changes.proofs.change_tree.change_all.Goals as goal

pub drop_nodes-requires-clause-owns : goal.drop_nodes-requires-clause-owns
drop_nodes-requires-clause-owns g c =
    let key = g.K.KeyOrder in
    let ledger = g.S.Store.ledger in
    let records = g.S.Frozen.records in
    let s = c.args.store.now in
    let t = c.rebuild.new.store in
    let m = records s in
    let sought : given.Change g.row.K.Denot → _ = λ change. key.sought change.key in
    let pair : given.Change g.row.K.Denot → _ = λ change. change.pair in
    let list = c.args.changes.now in
    let gone = c.rebuild.new.replaced.items in
    let pairs = merged (seen_changes key.read key.order sought pair m list) (tree_pairs m c.args.root) in
    subst (λ xs. Owns (ledger t) (records t) (entries xs ∷ [])) (sym c.deref.ensures.value)
    (gone-owned (ledger s) (ledger t) m (records t) c.args.root c.in_ok-next.next gone pairs c.requires.owns c.in_ok-next.ensures.rebuilds c.rebuild.ensures.keeps (g.met.S.Store.recorded s))

pub returns-clause-turns : goal.returns-clause-turns
returns-clause-turns g c =
    let key = g.K.KeyOrder in
    let ledger = g.S.Store.ledger in
    let records = g.S.Frozen.records in
    let s = c.args.store.now in
    let t = c.rebuild.new.store in
    let m = records s in
    let sought : given.Change g.row.K.Denot → _ = λ change. key.sought change.key in
    let pair : given.Change g.row.K.Denot → _ = λ change. change.pair in
    let list = c.args.changes.now in
    let gone = c.rebuild.new.replaced.items in
    let pairs = merged (seen_changes key.read key.order sought pair m list) (tree_pairs m c.args.root) in
    let u = c.drop_nodes.new.store in
    let drops = subst (λ xs. DropsEntries (ledger t) (ledger u) (records t) (records u) xs) c.deref.ensures.value c.drop_nodes.ensures.drops in
    end-turns (ledger s) (ledger t) m (records t) c.args.root c.in_ok-next.next gone pairs c.requires.owns c.in_ok-next.ensures.rebuilds c.rebuild.ensures.keeps (g.met.S.Store.recorded s)
    (ledger u) (records u) drops

pub returns-clause-owns : goal.returns-clause-owns
returns-clause-owns g c =
    let key = g.K.KeyOrder in
    let ledger = g.S.Store.ledger in
    let records = g.S.Frozen.records in
    let s = c.args.store.now in
    let t = c.rebuild.new.store in
    let m = records s in
    let sought : given.Change g.row.K.Denot → _ = λ change. key.sought change.key in
    let pair : given.Change g.row.K.Denot → _ = λ change. change.pair in
    let list = c.args.changes.now in
    let gone = c.rebuild.new.replaced.items in
    let pairs = merged (seen_changes key.read key.order sought pair m list) (tree_pairs m c.args.root) in
    let u = c.drop_nodes.new.store in
    let drops = subst (λ xs. DropsEntries (ledger t) (ledger u) (records t) (records u) xs) c.deref.ensures.value c.drop_nodes.ensures.drops in
    end-owns (ledger s) (ledger t) m (records t) c.args.root c.in_ok-next.next gone pairs c.requires.owns c.in_ok-next.ensures.rebuilds c.rebuild.ensures.keeps (g.met.S.Store.recorded s)
    (ledger u) (records u) drops

pub returns-clause-pairs : goal.returns-clause-pairs
returns-clause-pairs g c =
    let key = g.K.KeyOrder in
    let ledger = g.S.Store.ledger in
    let records = g.S.Frozen.records in
    let s = c.args.store.now in
    let t = c.rebuild.new.store in
    let m = records s in
    let sought : given.Change g.row.K.Denot → _ = λ change. key.sought change.key in
    let pair : given.Change g.row.K.Denot → _ = λ change. change.pair in
    let list = c.args.changes.now in
    let gone = c.rebuild.new.replaced.items in
    let pairs = merged (seen_changes key.read key.order sought pair m list) (tree_pairs m c.args.root) in
    let u = c.drop_nodes.new.store in
    let drops = subst (λ xs. DropsEntries (ledger t) (ledger u) (records t) (records u) xs) c.deref.ensures.value c.drop_nodes.ensures.drops in
    end-pairs (ledger s) (ledger t) m (records t) c.args.root c.in_ok-next.next gone pairs c.requires.owns c.in_ok-next.ensures.rebuilds c.rebuild.ensures.keeps (g.met.S.Store.recorded s)
    (ledger u) (records u) drops

pub returns-clause-others : goal.returns-clause-others
returns-clause-others g c =
    let key = g.K.KeyOrder in
    let ledger = g.S.Store.ledger in
    let records = g.S.Frozen.records in
    let s = c.args.store.now in
    let t = c.rebuild.new.store in
    let m = records s in
    let sought : given.Change g.row.K.Denot → _ = λ change. key.sought change.key in
    let pair : given.Change g.row.K.Denot → _ = λ change. change.pair in
    let list = c.args.changes.now in
    let gone = c.rebuild.new.replaced.items in
    let pairs = merged (seen_changes key.read key.order sought pair m list) (tree_pairs m c.args.root) in
    let u = c.drop_nodes.new.store in
    let drops = subst (λ xs. DropsEntries (ledger t) (ledger u) (records t) (records u) xs) c.deref.ensures.value c.drop_nodes.ensures.drops in
    end-others (ledger s) (ledger t) m (records t) c.args.root c.in_ok-next.next gone pairs c.requires.owns c.in_ok-next.ensures.rebuilds c.rebuild.ensures.keeps (g.met.S.Store.recorded s)
    (ledger u) (records u) drops

pub returns-clause-may : goal.returns-clause-may
returns-clause-may g c =
    let key = g.K.KeyOrder in
    let ledger = g.S.Store.ledger in
    let records = g.S.Frozen.records in
    let s = c.args.store.now in
    let t = c.rebuild.new.store in
    let m = records s in
    let sought : given.Change g.row.K.Denot → _ = λ change. key.sought change.key in
    let pair : given.Change g.row.K.Denot → _ = λ change. change.pair in
    let list = c.args.changes.now in
    let gone = c.rebuild.new.replaced.items in
    let pairs = merged (seen_changes key.read key.order sought pair m list) (tree_pairs m c.args.root) in
    let u = c.drop_nodes.new.store in
    let drops = subst (λ xs. DropsEntries (ledger t) (ledger u) (records t) (records u) xs) c.deref.ensures.value c.drop_nodes.ensures.drops in
    end-may (ledger s) (ledger t) m (records t) c.args.root c.in_ok-next.next gone pairs c.requires.owns c.in_ok-next.ensures.rebuilds c.rebuild.ensures.keeps (g.met.S.Store.recorded s)
    (ledger u) (records u) drops c.rebuild.ensures.may

pub returns-clause-keyed : goal.returns-clause-keyed
returns-clause-keyed g c =
    let key = g.K.KeyOrder in
    let ledger = g.S.Store.ledger in
    let records = g.S.Frozen.records in
    let s = c.args.store.now in
    let t = c.rebuild.new.store in
    let m = records s in
    let sought : given.Change g.row.K.Denot → _ = λ change. key.sought change.key in
    let pair : given.Change g.row.K.Denot → _ = λ change. change.pair in
    let list = c.args.changes.now in
    let gone = c.rebuild.new.replaced.items in
    let pairs = merged (seen_changes key.read key.order sought pair m list) (tree_pairs m c.args.root) in
    let u = c.drop_nodes.new.store in
    let drops = subst (λ xs. DropsEntries (ledger t) (ledger u) (records t) (records u) xs) c.deref.ensures.value c.drop_nodes.ensures.drops in
    let ps = tree_pairs m c.args.root in
    let keyed = c.requires.keyed in
    end-keyed (ledger s) (ledger t) m (records t) c.args.root c.in_ok-next.next gone pairs c.requires.owns c.in_ok-next.ensures.rebuilds c.rebuild.ensures.keeps (g.met.S.Store.recorded s)
    (ledger u) (records u) drops key.order key.can_read key.read key.reads_from g.met.K.KeyOrder.stays g.met.K.KeyOrder.steady
    (merged-all key.order g.met.K.KeyOrder.total key.can_read key.read key.reads_from sought pair m (λ (p : ℕ × ℕ). key.can_read m p.0) (λ k p is. is.readable) list ps c.requires.words keyed.readable)
    (merged-all key.order g.met.K.KeyOrder.total key.can_read key.read key.reads_from sought pair m (λ (p : ℕ × ℕ). ReadsNoNode key.reads_from m p.0) (λ k p is. is.apart) list ps c.requires.words keyed.apart)
    (merged-ascends key.order g.met.K.KeyOrder.total key.can_read key.read key.reads_from sought pair m list ps c.requires.sorted c.requires.words keyed.tree.ascends)

pub returns-in_err-next-clause-others : goal.returns-in_err-next-clause-others
returns-in_err-next-clause-others g c =
    let records = g.S.Frozen.records in
    others_kept (records c.args.store.now) (records c.rebuild.new.store) c.rebuild.ensures.keeps

pub returns-in_err-next-clause-left : goal.returns-in_err-next-clause-left
returns-in_err-next-clause-left g c =
    on_err c.from_residual.result c.rebuild.ensures.keeps

pub returns-in_err-next-clause-may : goal.returns-in_err-next-clause-may
returns-in_err-next-clause-may g c =
    c.rebuild.ensures.may

pub returns-then-is_empty-clause-pairs : goal.returns-then-is_empty-clause-pairs
returns-then-is_empty-clause-pairs g c =
    let key = g.K.KeyOrder in
    let m = g.S.Frozen.records c.args.store.now in
    let list = c.args.changes.now in
    let none = zero_from_test (length list) c.is_empty.result c.is_empty.ensures c.if-is_empty.true in
    let f : given.Change g.row.K.Denot → Change = λ change. seen_change key.read key.order (λ (change : given.Change g.row.K.Denot). key.sought change.key) (λ (change : given.Change g.row.K.Denot). change.pair) m change in
    sym (merged-none f list (tree_pairs m c.args.root) none)

pub returns-then-is_empty-clause-turns : goal.returns-then-is_empty-clause-turns
returns-then-is_empty-clause-turns g c = turns-same (g.S.Store.ledger c.args.store.now) (g.S.Frozen.records c.args.store.now) (tree c.args.root ∷ [])

pub returns-then-is_empty-clause-counts : goal.returns-then-is_empty-clause-counts
returns-then-is_empty-clause-counts g c = counts-none (g.S.Store.ledger c.args.store.now) _

pub returns-clause-counts : goal.returns-clause-counts
returns-clause-counts g c =
    let ledger = g.S.Store.ledger in
    let records = g.S.Frozen.records in
    let s = c.args.store.now in
    let t = c.rebuild.new.store in
    let u = c.drop_nodes.new.store in
    let some = above_zero_from_test (length c.args.changes.now) c.is_empty.result c.is_empty.ensures c.if-is_empty.false in
    let most = (2 * levels (records s) c.args.root + 1) * length c.args.changes.now in
    let drops = subst (λ xs. DropsEntries (ledger t) (ledger u) (records t) (records u) xs) c.deref.ensures.value c.drop_nodes.ensures.drops in
    counts-then (ledger s) (ledger t) (ledger u) most 0 most (omega arith) c.rebuild.ensures.may (c.rebuild.ensures.counts some)
    (record { nodes = drops.none_made _ 34; others = λ k width ne. drops.none_made k width })

pub returns-clause-none : goal.returns-clause-none
returns-clause-none g c =
    let some = above_zero_from_test (length c.args.changes.now) c.is_empty.result c.is_empty.ensures c.if-is_empty.false in
    λ none. absurd (omega arith)

pub returns-clause-same : goal.returns-clause-same
returns-clause-same g c =
    let some = above_zero_from_test (length c.args.changes.now) c.is_empty.result c.is_empty.ensures c.if-is_empty.false in
    λ none. absurd (omega arith)

pub returns-in_err-next-clause-counts : goal.returns-in_err-next-clause-counts
returns-in_err-next-clause-counts g c =
    let some = above_zero_from_test (length c.args.changes.now) c.is_empty.result c.is_empty.ensures c.if-is_empty.false in
    c.rebuild.ensures.counts some

pub returns-in_err-next-clause-none : goal.returns-in_err-next-clause-none
returns-in_err-next-clause-none g c =
    let some = above_zero_from_test (length c.args.changes.now) c.is_empty.result c.is_empty.ensures c.if-is_empty.false in
    λ none. absurd (omega arith)

pub returns-in_err-next-clause-same : goal.returns-in_err-next-clause-same
returns-in_err-next-clause-same g c =
    let some = above_zero_from_test (length c.args.changes.now) c.is_empty.result c.is_empty.ensures c.if-is_empty.false in
    λ none. absurd (omega arith)
