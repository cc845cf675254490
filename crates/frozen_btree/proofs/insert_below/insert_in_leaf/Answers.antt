use Rattle.std.proofs.Common.{◌≡◌, ◌≤◌, ℕ, length, sym, ap, subst, arith}
use Rattle.std.specs.List.{zip}
use Rattle.std.proofs.lemmas.Result.{IfOk-weaker}
use Rattle.tree_read.specs.Nodes.{used_of, node_keys, node_values, IsNodeForm}
use Rattle.tree_read.specs.Trees.{pairs_below, IsNode}
use Rattle.tree_read.proofs.TreeLemmas.{IsNode-form}
use Rattle.tree_read.specs.Keys.{seen_by, AllReadable}
use Rattle.tree_read.specs.Pairs.{put}
use Rattle.frozen_nodes.specs.Parts.{MakesParts}
use Rattle.frozen_btree.specs.Inserts.{put_at}
use Rattle.frozen_btree.proofs.BelowLemmas.{leaf-inserts}
use Rattle.frozen_nodes.proofs.HandLemmas.{hand-size, hand-even}
use Rattle.frozen_btree.proofs.PutLemmas.{pair-put, pair-most}
use Rattle.frozen_btree.proofs.insert_below.insert_in_leaf.Goals as goal

pub visit-spot-requires : goal.visit-spot-requires
visit-spot-requires g c =
    let m = g.S.Frozen.records c.args.store.now in
    let node = c.args.node in
    let at = (IsNode-form m 1 0 node c.requires.node).at_level in (
      omega arith,
      (
        subst (λ l. IsNode m 1 l node) (sym at) c.requires.node,
        subst (λ l. AllReadable g.K.KeyOrder.can_read m (pairs_below m l node)) (sym at) c.requires.readable,
      ),
    )

pub put_pair-requires-clause-form : goal.put_pair-requires-clause-form
put_pair-requires-clause-form g c =
    subst (IsNodeForm 0 1) (sym c.visit-spot.ensures.words) (IsNode-form (g.S.Frozen.records c.args.store.now) 1 0 c.args.node c.requires.node)

pub put_pair-requires-clause-within : goal.put_pair-requires-clause-within
put_pair-requires-clause-within g c =
    let s = c.args.store.now in
    let m = g.S.Frozen.records s in
    let node = c.args.node in
    let form = IsNode-form m 1 0 node c.requires.node in
    let spot = c.visit-spot.result in
    let is = c.visit-spot.ensures in
    let w = c.visit-spot.new.words in
    let ks = node_keys (m node) in
    let vs = node_values (m node) in
    let size : used_of (m node) ≡ length ks = hand-size 0 (m node) form in
    let at = is.slot.within in
    let now : used_of w ≡ used_of (m node) = ap used_of is.words in
    omega arith

pub put_pair-requires-clause-found : goal.put_pair-requires-clause-found
put_pair-requires-clause-found g c = λ e.
    let s = c.args.store.now in
    let m = g.S.Frozen.records s in
    let node = c.args.node in
    let form = IsNode-form m 1 0 node c.requires.node in
    let spot = c.visit-spot.result in
    let is = c.visit-spot.ensures in
    let w = c.visit-spot.new.words in
    let ks = node_keys (m node) in
    let vs = node_values (m node) in
    let size : used_of (m node) ≡ length ks = hand-size 0 (m node) form in
    let at = (is.found e).within in
    let now : used_of w ≡ used_of (m node) = ap used_of is.words in
    omega arith

pub returns-clause-inserts : goal.returns-clause-inserts
returns-clause-inserts g c =
    let s = c.args.store.now in
    let m = g.S.Frozen.records s in
    let node = c.args.node in
    let form = IsNode-form m 1 0 node c.requires.node in
    let spot = c.visit-spot.result in
    let is = c.visit-spot.ensures in
    let w = c.visit-spot.new.words in
    let ks = node_keys (m node) in
    let vs = node_values (m node) in
    let size : used_of (m node) ≡ length ks = hand-size 0 (m node) form in
    let seen = seen_by g.K.KeyOrder.read g.K.KeyOrder.order (g.K.KeyOrder.sought c.args.key.now) m in
    let pair : ℕ × ℕ = (c.args.word, c.args.value) in
    let ledger = g.S.Store.ledger in
    let t = c.put_pair.new.store in
    let even = hand-even 0 (m node) form in
    let keys = put_at spot.found spot.slot c.args.word ks in
    let values = put_at spot.found spot.slot c.args.value vs in
    let pairs : zip keys values ≡ put seen pair (zip ks vs) = pair-put m ks vs spot.slot c.args.word c.args.value even seen spot.found is.slot is.found is.lacking in
    let most : length ks ≤ length keys = pair-most m ks vs spot.slot c.args.word c.args.value even spot.found is.slot.within (λ e. (is.found e).within) in
    λ before after e.
    IfOk-weaker c.put_pair.result _ _ (λ made y.
    let y1 : MakesParts (ledger s) (ledger t) m (g.S.Frozen.records t) 0 (put_at spot.found spot.slot c.args.word (node_keys w)) (put_at spot.found spot.slot c.args.value (node_values w)) made =
    subst (λ f. MakesParts (ledger f) (ledger t) (g.S.Frozen.records f) (g.S.Frozen.records t) 0 (put_at spot.found spot.slot c.args.word (node_keys w)) (put_at spot.found spot.slot c.args.value (node_values w)) made)
    is.same y in
    let y2 : MakesParts (ledger s) (ledger t) m (g.S.Frozen.records t) 0 keys values made =
    subst (λ ws. MakesParts (ledger s) (ledger t) m (g.S.Frozen.records t) 0 (put_at spot.found spot.slot c.args.word (node_keys ws)) (put_at spot.found spot.slot c.args.value (node_values ws)) made) is.words y1 in
    leaf-inserts seen pair (ledger s) (ledger t) m (g.S.Frozen.records t) 1 node c.requires.node keys values pairs most before after made e y2) c.put_pair.ensures.parts
