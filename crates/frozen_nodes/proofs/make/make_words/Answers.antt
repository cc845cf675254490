use Rattle.std.proofs.Common.{◌≡◌, ◌+◌, ◌-◌, ℕ, suc, length, get_or, refl, sym, ap, subst, ◌∙◌, arith, Err}
use Rattle.tree_read.specs.Trees.{last_key}
use Rattle.tree_read.specs.Slots.{slot_pairs}
use Rattle.frozen_nodes.specs.Makes.{MakesNode}
use Rattle.tree_read.proofs.CountLemmas.{last_slot}
use Rattle.frozen_nodes.proofs.MadeLemmas.{makes-node, makes-any, makes-refused}
use Rattle.frozen_nodes.proofs.Results.{on_err, if_err}
use Rattle.frozen_nodes.proofs.MakeWordLemmas.{words-last, words-used}
use Rattle.frozen_nodes.proofs.make.make_words.Goals as goal

pub returns-clause-makes : goal.returns-clause-makes
returns-clause-makes g c level ks vs are hand some few =
    let s = c.args.store.now in
    let t = c.make_near.new.self in
    let m = g.S.Frozen.records s in
    let n = g.S.Frozen.records t in
    let words = c.args.words.now in
    let count = length (slot_pairs m level ks vs) in
    let made : MakesNode (g.S.Store.ledger s) (g.S.Store.ledger t) m n level ks vs c.raw.result =
    subst (MakesNode (g.S.Store.ledger s) (g.S.Store.ledger t) m n level ks vs) (sym c.raw.ensures)
    (makes-node g.row.OFFSET_BITS (g.S.Store.ledger s) (g.S.Store.ledger t) m n words c.in_ok-node.node c.in_ok-node.ensures.makes c.make_near.ensures.may level count ks vs are.words_are are.few hand refl few) in
    let at : suc (length ks - 1) ≡ length ks = omega arith in
    record {
      node = made;
      key =
          ap (λ u. get_or words (1 + u) 0) (c.used_in.ensures ∙ words-used level count ks vs words are)
          ∙ words-last level count ks vs words are some
          ∙ last_slot m ks vs level (length ks - 1) at hand
          ∙ ap last_key (sym made.pairs);
    }

pub returns-clause-nodes : goal.returns-clause-nodes
returns-clause-nodes g c =
    let e = c.make_near.ensures in
    makes-any g.row.OFFSET_BITS (g.S.Store.ledger c.args.store.now) (g.S.Store.ledger c.make_near.new.self) (g.S.Frozen.records c.args.store.now)
    (g.S.Frozen.records c.make_near.new.self) c.args.words.now c.make_near.result e.makes e.refused e.left e.may

pub returns-in_err-node-clause-makes : goal.returns-in_err-node-clause-makes
returns-in_err-node-clause-makes g c level ks vs are hand some few = if_err _ _ c.from_residual.result c.from_residual.ensures.1

pub returns-in_err-node-clause-nodes : goal.returns-in_err-node-clause-nodes
returns-in_err-node-clause-nodes g c =
    let e = c.make_near.ensures in
    makes-any g.row.OFFSET_BITS (g.S.Store.ledger c.args.store.now) (g.S.Store.ledger c.make_near.new.self) (g.S.Frozen.records c.args.store.now)
    (g.S.Frozen.records c.make_near.new.self) c.args.words.now c.make_near.result e.makes e.refused e.left e.may

pub returns-in_err-node-clause-refused : goal.returns-in_err-node-clause-refused
returns-in_err-node-clause-refused g c =
    let e = c.in_err-node.ensures in
    on_err c.from_residual.result
    (makes-refused {A = ℕ} (g.S.Store.ledger c.args.store.now) (g.S.Store.ledger c.make_near.new.self) (g.S.Frozen.records c.args.store.now) (g.S.Frozen.records c.make_near.new.self)
    (Err c.in_err-node.field-0.0) e.refused e.left c.make_near.ensures.may)
