use Rattle.std.proofs.Common.{◌≡◌, ◌≢◌, ◌++◌, [], ◌∷◌, ap, ◌∙◌, arith}
use Rattle.std.proofs.lemmas.Result.{IfOk-weaker}
use Rattle.entry_ref.specs.References.{buffer_of}
use Rattle.tree_read.proofs.TreeLemmas.{IsNode-form}
use Rattle.frozen_btree.proofs.TouchLemmas.{leaf-stays, leaf-anew}
use Rattle.frozen_btree.proofs.touch_below.touch_leaf.Goals as goal

pub returns-then-buffer-clause-touches : goal.returns-then-buffer-clause-touches
returns-then-buffer-clause-touches g c =
    let s = c.args.store.now in
    let apart : buffer_of g.row.OFFSET_BITS c.args.node ≢ c.args.buffer =
    (λ e. let is = c.buffer.ensures.value in let other = c.if-buffer.true in absurd (omega arith)) in
    λ seen. leaf-stays g.row.OFFSET_BITS c.args.buffer seen c.args.node c.args.replaced.now.items c.requires.some (g.S.Store.ledger s) (g.S.Frozen.records s) c.requires.node apart

pub copy_of-requires : goal.copy_of-requires
copy_of-requires g c = (omega arith, (c.requires.unit, (IsNode-form (g.S.Frozen.records c.args.store.now) 1 0 c.args.node c.requires.node).size))

pub returns-clause-touches : goal.returns-clause-touches
returns-clause-touches g c =
    let ledger = g.S.Store.ledger in
    let records = g.S.Frozen.records in
    let s = c.args.store.now in
    let t = c.copy_of.new.store in
    let before = c.args.replaced.now.items in
    let after : c.push.new.self.items ≡ before ++ c.args.node ∷ [] = c.push.ensures.items ∙ ap (λ x. before ++ (x ∷ [])) c.raw.ensures in
    λ seen. IfOk-weaker c.copy_of.result _ _ (λ ref copies.
    leaf-anew g.row.OFFSET_BITS c.args.buffer seen c.args.node before c.requires.some (ledger s) (ledger t) (records s) (records t) ref c.push.new.self.items c.requires.node c.requires.sealed after copies)
    c.copy_of.ensures.copies
