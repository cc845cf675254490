use Rattle.std.proofs.Common.{◌≡◌, [], ◌∷◌, Ok, sym, ap, subst, ◌∙◌}
use Rattle.tree_read.specs.Trees.{tree_pairs}
use Rattle.tree_read.specs.Keys.{seen_by}
use Rattle.tree_read.proofs.OrderKeyLemmas.{others_kept}
use Rattle.store_api.specs.Parts.{Owns, entries}
use Rattle.frozen_btree.specs.Changes.{DropsEntries, levels}
use Rattle.frozen_btree.proofs.ChangeLemmas.{gone-owned, end-turns, end-owns, end-pairs, end-others, end-may, end-counts, end-keyed}
use Rattle.frozen_nodes.proofs.Results.{on_err}
use Rattle.frozen_btree.proofs.Results.{one_answer, no_error}
use Rattle.frozen_btree.specs.Paths.{NoneIn}
use Rattle.frozen_btree.proofs.TouchTreeLemmas.{nodes-left, path_nodes-same}
use Rattle.frozen_btree.proofs.touch_tree.touch.Goals as goal

pub drop_nodes-requires-clause-owns : goal.drop_nodes-requires-clause-owns
drop_nodes-requires-clause-owns g c =
    let ledger = g.S.Store.ledger in
    let records = g.S.Frozen.records in
    let s = c.args.store.now in
    let t = c.make_anew.new.store in
    let m = records s in
    let gone = c.make_anew.new.replaced.items in
    let pairs = tree_pairs m c.args.root in
    let most = levels m c.args.root in
    subst (λ xs. Owns (ledger t) (records t) (entries xs ∷ [])) (sym c.deref.ensures.0)
    (gone-owned (ledger s) (ledger t) m (records t) most c.args.root c.in_ok-next.next gone pairs c.requires.owns c.in_ok-next.ensures.rebuilds c.make_anew.ensures.makes (g.met.S.Store.recorded s))

pub returns-clause-keyed : goal.returns-clause-keyed
returns-clause-keyed g c =
    let k = g.K.KeyOrder in
    let ledger = g.S.Store.ledger in
    let records = g.S.Frozen.records in
    let s = c.args.store.now in
    let t = c.make_anew.new.store in
    let m = records s in
    let gone = c.make_anew.new.replaced.items in
    let pairs = tree_pairs m c.args.root in
    let most = levels m c.args.root in
    let u = c.drop_nodes.new.store in
    let drops = subst (λ xs. DropsEntries (ledger t) (ledger u) (records t) (records u) xs) c.deref.ensures.0 c.drop_nodes.ensures.drops in
    let keyed = c.requires.keyed in
    end-keyed (ledger s) (ledger t) m (records t) most c.args.root c.in_ok-next.next gone pairs c.requires.owns c.in_ok-next.ensures.rebuilds c.make_anew.ensures.makes (g.met.S.Store.recorded s) (ledger u)
    (records u) drops c.requires.keyed.tree.node
    k.order k.can_read k.read k.reads_from g.met.K.KeyOrder.stays g.met.K.KeyOrder.steady
    keyed.readable keyed.apart keyed.tree.ascends

pub returns-clause-turns : goal.returns-clause-turns
returns-clause-turns g c =
    let ledger = g.S.Store.ledger in
    let records = g.S.Frozen.records in
    let s = c.args.store.now in
    let t = c.make_anew.new.store in
    let m = records s in
    let gone = c.make_anew.new.replaced.items in
    let pairs = tree_pairs m c.args.root in
    let most = levels m c.args.root in
    let u = c.drop_nodes.new.store in
    let drops = subst (λ xs. DropsEntries (ledger t) (ledger u) (records t) (records u) xs) c.deref.ensures.0 c.drop_nodes.ensures.drops in
    end-turns (ledger s) (ledger t) m (records t) most c.args.root c.in_ok-next.next gone pairs c.requires.owns c.in_ok-next.ensures.rebuilds c.make_anew.ensures.makes (g.met.S.Store.recorded s) (ledger u)
    (records u) drops c.requires.keyed.tree.node

pub returns-clause-owns : goal.returns-clause-owns
returns-clause-owns g c =
    let ledger = g.S.Store.ledger in
    let records = g.S.Frozen.records in
    let s = c.args.store.now in
    let t = c.make_anew.new.store in
    let m = records s in
    let gone = c.make_anew.new.replaced.items in
    let pairs = tree_pairs m c.args.root in
    let most = levels m c.args.root in
    let u = c.drop_nodes.new.store in
    let drops = subst (λ xs. DropsEntries (ledger t) (ledger u) (records t) (records u) xs) c.deref.ensures.0 c.drop_nodes.ensures.drops in
    end-owns (ledger s) (ledger t) m (records t) most c.args.root c.in_ok-next.next gone pairs c.requires.owns c.in_ok-next.ensures.rebuilds c.make_anew.ensures.makes (g.met.S.Store.recorded s) (ledger u)
    (records u) drops c.requires.keyed.tree.node

pub returns-clause-pairs : goal.returns-clause-pairs
returns-clause-pairs g c =
    let ledger = g.S.Store.ledger in
    let records = g.S.Frozen.records in
    let s = c.args.store.now in
    let t = c.make_anew.new.store in
    let m = records s in
    let gone = c.make_anew.new.replaced.items in
    let pairs = tree_pairs m c.args.root in
    let most = levels m c.args.root in
    let u = c.drop_nodes.new.store in
    let drops = subst (λ xs. DropsEntries (ledger t) (ledger u) (records t) (records u) xs) c.deref.ensures.0 c.drop_nodes.ensures.drops in
    end-pairs (ledger s) (ledger t) m (records t) most c.args.root c.in_ok-next.next gone pairs c.requires.owns c.in_ok-next.ensures.rebuilds c.make_anew.ensures.makes (g.met.S.Store.recorded s) (ledger u)
    (records u) drops c.requires.keyed.tree.node

pub returns-clause-others : goal.returns-clause-others
returns-clause-others g c =
    let ledger = g.S.Store.ledger in
    let records = g.S.Frozen.records in
    let s = c.args.store.now in
    let t = c.make_anew.new.store in
    let m = records s in
    let gone = c.make_anew.new.replaced.items in
    let pairs = tree_pairs m c.args.root in
    let most = levels m c.args.root in
    let u = c.drop_nodes.new.store in
    let drops = subst (λ xs. DropsEntries (ledger t) (ledger u) (records t) (records u) xs) c.deref.ensures.0 c.drop_nodes.ensures.drops in
    end-others (ledger s) (ledger t) m (records t) most c.args.root c.in_ok-next.next gone pairs c.requires.owns c.in_ok-next.ensures.rebuilds c.make_anew.ensures.makes (g.met.S.Store.recorded s) (ledger u)
    (records u) drops c.requires.keyed.tree.node

pub returns-clause-may : goal.returns-clause-may
returns-clause-may g c =
    let ledger = g.S.Store.ledger in
    let records = g.S.Frozen.records in
    let s = c.args.store.now in
    let t = c.make_anew.new.store in
    let m = records s in
    let gone = c.make_anew.new.replaced.items in
    let pairs = tree_pairs m c.args.root in
    let most = levels m c.args.root in
    let u = c.drop_nodes.new.store in
    let drops = subst (λ xs. DropsEntries (ledger t) (ledger u) (records t) (records u) xs) c.deref.ensures.0 c.drop_nodes.ensures.drops in
    end-may (ledger s) (ledger t) m (records t) most c.args.root c.in_ok-next.next gone pairs c.requires.owns c.in_ok-next.ensures.rebuilds c.make_anew.ensures.makes (g.met.S.Store.recorded s) (ledger u)
    (records u) drops c.requires.keyed.tree.node

pub returns-clause-counts : goal.returns-clause-counts
returns-clause-counts g c =
    let ledger = g.S.Store.ledger in
    let records = g.S.Frozen.records in
    let s = c.args.store.now in
    let t = c.make_anew.new.store in
    let m = records s in
    let gone = c.make_anew.new.replaced.items in
    let pairs = tree_pairs m c.args.root in
    let most = levels m c.args.root in
    let u = c.drop_nodes.new.store in
    let drops = subst (λ xs. DropsEntries (ledger t) (ledger u) (records t) (records u) xs) c.deref.ensures.0 c.drop_nodes.ensures.drops in
    end-counts (ledger s) (ledger t) m (records t) most c.args.root c.in_ok-next.next gone pairs c.requires.owns c.in_ok-next.ensures.rebuilds c.make_anew.ensures.makes (g.met.S.Store.recorded s) (ledger u)
    (records u) drops c.requires.keyed.tree.node

pub returns-in_err-next-clause-others : goal.returns-in_err-next-clause-others
returns-in_err-next-clause-others g c =
    let records = g.S.Frozen.records in
    others_kept (records c.args.store.now) (records c.make_anew.new.store) c.make_anew.ensures.makes.keeps

pub returns-in_err-next-clause-left : goal.returns-in_err-next-clause-left
returns-in_err-next-clause-left g c =
    on_err c.from_residual.result c.make_anew.ensures.makes.keeps

pub returns-in_err-next-clause-may : goal.returns-in_err-next-clause-may
returns-in_err-next-clause-may g c =
    c.make_anew.ensures.makes.may

pub returns-in_err-next-clause-counts : goal.returns-in_err-next-clause-counts
returns-in_err-next-clause-counts g c =
    c.make_anew.ensures.makes.counts

pub returns-clause-apart : goal.returns-clause-apart
returns-clause-apart g c =
    let k = g.K.KeyOrder in
    let ledger = g.S.Store.ledger in
    let records = g.S.Frozen.records in
    let s = c.args.store.now in
    let t = c.make_anew.new.store in
    let u = c.drop_nodes.new.store in
    let m = records s in
    let seen = seen_by k.read k.order (k.sought c.args.key.now) m in
    let gone = c.make_anew.new.replaced.items in
    let next = c.in_ok-next.next in
    let it = c.in_ok-next.ensures.rebuilds in
    let drops = subst (λ xs. DropsEntries (ledger t) (ledger u) (records t) (records u) xs) c.deref.ensures.0 c.drop_nodes.ensures.drops in
    let left = nodes-left (ledger s) (ledger t) (ledger u) m (records t) (records u) c.args.root next gone (tree_pairs m c.args.root) c.requires.owns it drops in
    subst (NoneIn g.row.OFFSET_BITS c.args.buffer) (sym (path_nodes-same (records t) (records u) seen next left it.node)) c.in_ok-next.ensures.apart

pub returns-in_err-next-clause-still : goal.returns-in_err-next-clause-still
returns-in_err-next-clause-still g c = λ none. no_error c.make_anew.result c.args.root _ (c.make_anew.ensures.still none).0 c.in_err-next.was

pub returns-clause-still : goal.returns-clause-still
returns-clause-still g c = λ none.
    let told = c.make_anew.ensures.still none in
    let next : c.in_ok-next.next ≡ c.args.root = one_answer c.make_anew.result c.in_ok-next.next c.args.root c.in_ok-next.was told.0 in
    (ap (λ r. Ok r) next, c.drop_nodes.ensures.none (c.deref.ensures.0 ∙ told.1.1) ∙ told.1.0)
