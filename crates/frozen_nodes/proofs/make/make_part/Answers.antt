use Rattle.std.proofs.Common.{◌≡◌, ◌-◌, ℕ, suc, List, length, get_or, sym, ap, subst, ◌∙◌, arith, Err}
use Rattle.tree_read.specs.Nodes.{node_words}
use Rattle.tree_read.specs.Trees.{last_key}
use Rattle.store_api.specs.Calls.{Makes}
use Rattle.store_api.specs.Units.{MayDo}
use Rattle.frozen_nodes.specs.Makes.{MakesNodes, MakesNode}
use Rattle.tree_read.proofs.CountLemmas.{last_slot}
use Rattle.frozen_nodes.proofs.MadeLemmas.{makes-node, makes-any, makes-refused}
use Rattle.frozen_nodes.proofs.Results.{on_err}
use Rattle.frozen_nodes.proofs.make.make_part.Goals as goal

pub returns-clause-makes : goal.returns-clause-makes
returns-clause-makes g c =
    let s = c.args.store.now in
    let t = c.make.new.self in
    let m = g.S.Frozen.records s in
    let n = g.S.Frozen.records t in
    let slots = c.args.slots.now in
    let ks = slots.keys.items in
    let vs = slots.values.items in
    let node = c.in_ok-node.node in
    let same = c.pairs_in-count.ensures.same in
    let makes : Makes g.row.OFFSET_BITS (g.S.Store.ledger s) (g.S.Store.ledger t) m n 34 c.deref.result.now node =
    subst (λ u. Makes g.row.OFFSET_BITS (g.S.Store.ledger u) (g.S.Store.ledger t) (g.S.Frozen.records u) n 34 c.deref.result.now node) same c.in_ok-node.ensures.makes in
    let may : MayDo (g.S.Store.ledger s) (g.S.Store.ledger t) = subst (λ u. MayDo (g.S.Store.ledger u) (g.S.Store.ledger t)) same c.make.ensures.may in
    let words : c.deref.result.now ≡ node_words slots.level c.pairs_in-count.result ks vs = c.deref.ensures.0 ∙ c.words_of-words.ensures.words in
    let made : MakesNode (g.S.Store.ledger s) (g.S.Store.ledger t) m n slots.level ks vs c.raw.result =
    subst (MakesNode (g.S.Store.ledger s) (g.S.Store.ledger t) m n slots.level ks vs) (sym c.raw.ensures)
    (makes-node g.row.OFFSET_BITS (g.S.Store.ledger s) (g.S.Store.ledger t) m n c.deref.result.now node makes may slots.level c.pairs_in-count.result ks vs words c.requires.fits c.requires.hand
    c.pairs_in-count.ensures.count c.requires.few) in
    let some = c.requires.some in
    let size : c.len.result ≡ length ks = c.len.ensures.value in
    let at : suc (c.len.result - 1) ≡ length ks = omega arith in
    record {
      node = made;
      key =
          ap (λ (xs : List ℕ). get_or xs (c.len.result - 1) 0) c.deref-2.ensures.0
          ∙ last_slot m ks vs slots.level (c.len.result - 1) at c.requires.hand
          ∙ ap last_key (sym made.pairs);
    }

pub returns-clause-nodes : goal.returns-clause-nodes
returns-clause-nodes g c =
    let ledger = g.S.Store.ledger in
    let records = g.S.Frozen.records in
    let t = c.make.new.self in
    let s = c.pairs_in-count.new.frozen in
    let e = c.make.ensures in
    subst (λ u. MakesNodes (ledger u) (ledger t) (records u) (records t) 1) c.pairs_in-count.ensures.same
    (makes-any g.row.OFFSET_BITS (ledger s) (ledger t) (records s) (records t) c.deref.result.now c.make.result e.makes e.refused e.left e.may)

pub returns-in_err-node-clause-nodes : goal.returns-in_err-node-clause-nodes
returns-in_err-node-clause-nodes g c =
    let ledger = g.S.Store.ledger in
    let records = g.S.Frozen.records in
    let t = c.make.new.self in
    let s = c.pairs_in-count.new.frozen in
    let e = c.make.ensures in
    subst (λ u. MakesNodes (ledger u) (ledger t) (records u) (records t) 1) c.pairs_in-count.ensures.same
    (makes-any g.row.OFFSET_BITS (ledger s) (ledger t) (records s) (records t) c.deref.result.now c.make.result e.makes e.refused e.left e.may)

pub returns-in_err-node-clause-refused : goal.returns-in_err-node-clause-refused
returns-in_err-node-clause-refused g c =
    let ledger = g.S.Store.ledger in
    let records = g.S.Frozen.records in
    let t = c.make.new.self in
    let s = c.pairs_in-count.new.frozen in
    let e = c.in_err-node.ensures in
    on_err c.from_residual.result
    (subst (λ u. MakesNodes (ledger u) (ledger t) (records u) (records t) 0) c.pairs_in-count.ensures.same
    (makes-refused {A = ℕ} (ledger s) (ledger t) (records s) (records t) (Err c.in_err-node.field-0.0) e.refused e.left c.make.ensures.may))
