use Rattle.std.proofs.Common.{◌+◌, ◌*◌, ℕ, [], ◌∷◌, sym, subst}
use Rattle.tree_read.specs.Trees.{tree_pairs}
use Rattle.tree_read.specs.Keys.{seen_by, ReadsNoNode}
use Rattle.tree_read.specs.Pairs.{put}
use Rattle.tree_read.proofs.OrderKeyLemmas.{others_kept}
use Rattle.tree_read.proofs.OrderLemmas.{put-ascends}
use Rattle.tree_read.proofs.PairLemmas.{All-put}
use Rattle.store_api.specs.Parts.{Owns, entries}
use Rattle.frozen_btree.specs.Changes.{DropsEntries, levels}
use Rattle.frozen_btree.proofs.ChangeLemmas.{gone-owned, end-turns, end-owns, end-pairs, end-others, end-may, end-counts, end-keyed}
use Rattle.frozen_nodes.proofs.Results.{on_err}
use Rattle.frozen_btree.proofs.insert_tree.insert.Goals as goal

pub drop_nodes-requires-clause-owns : goal.drop_nodes-requires-clause-owns
drop_nodes-requires-clause-owns g c =
    let k = g.K.KeyOrder in
    let ledger = g.S.Store.ledger in
    let records = g.S.Frozen.records in
    let s = c.args.store.now in
    let t = c.rebuild.new.store in
    let m = records s in
    let seen = seen_by k.read k.order (k.sought c.args.key.now) m in
    let gone = c.rebuild.new.replaced.items in
    let pairs = put seen (c.args.word, c.args.value) (tree_pairs m c.args.root) in
    let most = 2 * levels m c.args.root + 1 in
    subst (λ xs. Owns (ledger t) (records t) (entries xs ∷ [])) (sym c.deref.ensures.0)
    (gone-owned (ledger s) (ledger t) m (records t) most c.args.root c.in_ok-next.next gone pairs c.requires.owns c.in_ok-next.ensures.rebuilds c.rebuild.ensures.makes (g.met.S.Store.recorded s))

pub returns-clause-keyed : goal.returns-clause-keyed
returns-clause-keyed g c =
    let k = g.K.KeyOrder in
    let ledger = g.S.Store.ledger in
    let records = g.S.Frozen.records in
    let s = c.args.store.now in
    let t = c.rebuild.new.store in
    let m = records s in
    let seen = seen_by k.read k.order (k.sought c.args.key.now) m in
    let gone = c.rebuild.new.replaced.items in
    let pairs = put seen (c.args.word, c.args.value) (tree_pairs m c.args.root) in
    let most = 2 * levels m c.args.root + 1 in
    let u = c.drop_nodes.new.store in
    let drops = subst (λ xs. DropsEntries (ledger t) (ledger u) (records t) (records u) xs) c.deref.ensures.0 c.drop_nodes.ensures.drops in
    let ps = tree_pairs m c.args.root in
    let keyed = c.requires.keyed in
    let word = c.requires.word in
    let pair : ℕ × ℕ = (c.args.word, c.args.value) in
    end-keyed (ledger s) (ledger t) m (records t) most c.args.root c.in_ok-next.next gone pairs c.requires.owns c.in_ok-next.ensures.rebuilds c.rebuild.ensures.makes (g.met.S.Store.recorded s) (ledger u)
    (records u) drops c.requires.keyed.tree.node
    k.order k.can_read k.read k.reads_from g.met.K.KeyOrder.stays g.met.K.KeyOrder.steady
    (All-put (λ (p : ℕ × ℕ). k.can_read m p.0) seen pair ps word.readable keyed.readable)
    (All-put (λ (p : ℕ × ℕ). ReadsNoNode k.reads_from m p.0) seen pair ps word.apart keyed.apart)
    (put-ascends k.order (k.read m) g.met.K.KeyOrder.total (k.sought c.args.key.now) pair ps word.equal keyed.tree.ascends)

pub returns-clause-turns : goal.returns-clause-turns
returns-clause-turns g c =
    let k = g.K.KeyOrder in
    let ledger = g.S.Store.ledger in
    let records = g.S.Frozen.records in
    let s = c.args.store.now in
    let t = c.rebuild.new.store in
    let m = records s in
    let seen = seen_by k.read k.order (k.sought c.args.key.now) m in
    let gone = c.rebuild.new.replaced.items in
    let pairs = put seen (c.args.word, c.args.value) (tree_pairs m c.args.root) in
    let most = 2 * levels m c.args.root + 1 in
    let u = c.drop_nodes.new.store in
    let drops = subst (λ xs. DropsEntries (ledger t) (ledger u) (records t) (records u) xs) c.deref.ensures.0 c.drop_nodes.ensures.drops in
    end-turns (ledger s) (ledger t) m (records t) most c.args.root c.in_ok-next.next gone pairs c.requires.owns c.in_ok-next.ensures.rebuilds c.rebuild.ensures.makes (g.met.S.Store.recorded s) (ledger u)
    (records u) drops c.requires.keyed.tree.node

pub returns-clause-owns : goal.returns-clause-owns
returns-clause-owns g c =
    let k = g.K.KeyOrder in
    let ledger = g.S.Store.ledger in
    let records = g.S.Frozen.records in
    let s = c.args.store.now in
    let t = c.rebuild.new.store in
    let m = records s in
    let seen = seen_by k.read k.order (k.sought c.args.key.now) m in
    let gone = c.rebuild.new.replaced.items in
    let pairs = put seen (c.args.word, c.args.value) (tree_pairs m c.args.root) in
    let most = 2 * levels m c.args.root + 1 in
    let u = c.drop_nodes.new.store in
    let drops = subst (λ xs. DropsEntries (ledger t) (ledger u) (records t) (records u) xs) c.deref.ensures.0 c.drop_nodes.ensures.drops in
    end-owns (ledger s) (ledger t) m (records t) most c.args.root c.in_ok-next.next gone pairs c.requires.owns c.in_ok-next.ensures.rebuilds c.rebuild.ensures.makes (g.met.S.Store.recorded s) (ledger u)
    (records u) drops c.requires.keyed.tree.node

pub returns-clause-pairs : goal.returns-clause-pairs
returns-clause-pairs g c =
    let k = g.K.KeyOrder in
    let ledger = g.S.Store.ledger in
    let records = g.S.Frozen.records in
    let s = c.args.store.now in
    let t = c.rebuild.new.store in
    let m = records s in
    let seen = seen_by k.read k.order (k.sought c.args.key.now) m in
    let gone = c.rebuild.new.replaced.items in
    let pairs = put seen (c.args.word, c.args.value) (tree_pairs m c.args.root) in
    let most = 2 * levels m c.args.root + 1 in
    let u = c.drop_nodes.new.store in
    let drops = subst (λ xs. DropsEntries (ledger t) (ledger u) (records t) (records u) xs) c.deref.ensures.0 c.drop_nodes.ensures.drops in
    end-pairs (ledger s) (ledger t) m (records t) most c.args.root c.in_ok-next.next gone pairs c.requires.owns c.in_ok-next.ensures.rebuilds c.rebuild.ensures.makes (g.met.S.Store.recorded s) (ledger u)
    (records u) drops c.requires.keyed.tree.node

pub returns-clause-others : goal.returns-clause-others
returns-clause-others g c =
    let k = g.K.KeyOrder in
    let ledger = g.S.Store.ledger in
    let records = g.S.Frozen.records in
    let s = c.args.store.now in
    let t = c.rebuild.new.store in
    let m = records s in
    let seen = seen_by k.read k.order (k.sought c.args.key.now) m in
    let gone = c.rebuild.new.replaced.items in
    let pairs = put seen (c.args.word, c.args.value) (tree_pairs m c.args.root) in
    let most = 2 * levels m c.args.root + 1 in
    let u = c.drop_nodes.new.store in
    let drops = subst (λ xs. DropsEntries (ledger t) (ledger u) (records t) (records u) xs) c.deref.ensures.0 c.drop_nodes.ensures.drops in
    end-others (ledger s) (ledger t) m (records t) most c.args.root c.in_ok-next.next gone pairs c.requires.owns c.in_ok-next.ensures.rebuilds c.rebuild.ensures.makes (g.met.S.Store.recorded s) (ledger u)
    (records u) drops c.requires.keyed.tree.node

pub returns-clause-may : goal.returns-clause-may
returns-clause-may g c =
    let k = g.K.KeyOrder in
    let ledger = g.S.Store.ledger in
    let records = g.S.Frozen.records in
    let s = c.args.store.now in
    let t = c.rebuild.new.store in
    let m = records s in
    let seen = seen_by k.read k.order (k.sought c.args.key.now) m in
    let gone = c.rebuild.new.replaced.items in
    let pairs = put seen (c.args.word, c.args.value) (tree_pairs m c.args.root) in
    let most = 2 * levels m c.args.root + 1 in
    let u = c.drop_nodes.new.store in
    let drops = subst (λ xs. DropsEntries (ledger t) (ledger u) (records t) (records u) xs) c.deref.ensures.0 c.drop_nodes.ensures.drops in
    end-may (ledger s) (ledger t) m (records t) most c.args.root c.in_ok-next.next gone pairs c.requires.owns c.in_ok-next.ensures.rebuilds c.rebuild.ensures.makes (g.met.S.Store.recorded s) (ledger u)
    (records u) drops c.requires.keyed.tree.node

pub returns-clause-counts : goal.returns-clause-counts
returns-clause-counts g c =
    let k = g.K.KeyOrder in
    let ledger = g.S.Store.ledger in
    let records = g.S.Frozen.records in
    let s = c.args.store.now in
    let t = c.rebuild.new.store in
    let m = records s in
    let seen = seen_by k.read k.order (k.sought c.args.key.now) m in
    let gone = c.rebuild.new.replaced.items in
    let pairs = put seen (c.args.word, c.args.value) (tree_pairs m c.args.root) in
    let most = 2 * levels m c.args.root + 1 in
    let u = c.drop_nodes.new.store in
    let drops = subst (λ xs. DropsEntries (ledger t) (ledger u) (records t) (records u) xs) c.deref.ensures.0 c.drop_nodes.ensures.drops in
    end-counts (ledger s) (ledger t) m (records t) most c.args.root c.in_ok-next.next gone pairs c.requires.owns c.in_ok-next.ensures.rebuilds c.rebuild.ensures.makes (g.met.S.Store.recorded s) (ledger u)
    (records u) drops c.requires.keyed.tree.node

pub returns-in_err-next-clause-others : goal.returns-in_err-next-clause-others
returns-in_err-next-clause-others g c =
    let records = g.S.Frozen.records in
    others_kept (records c.args.store.now) (records c.rebuild.new.store) c.rebuild.ensures.makes.keeps

pub returns-in_err-next-clause-left : goal.returns-in_err-next-clause-left
returns-in_err-next-clause-left g c =
    on_err c.from_residual.result c.rebuild.ensures.makes.keeps

pub returns-in_err-next-clause-may : goal.returns-in_err-next-clause-may
returns-in_err-next-clause-may g c =
    c.rebuild.ensures.makes.may

pub returns-in_err-next-clause-counts : goal.returns-in_err-next-clause-counts
returns-in_err-next-clause-counts g c =
    c.rebuild.ensures.makes.counts
