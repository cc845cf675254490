use Rattle.std.proofs.Common.{◌≡◌, ℕ, ap, sym, ◌∙◌, arith}
use Rattle.std.specs.Prelude.{ℤ, Vec}
use Rattle.std.proofs.lemmas.List.{append-nil}
use Rattle.std.specs.declared.alloc.Global.{Global}
use Rattle.image_format.specs.declared.TheConstants.{BLOCK_DOCUMENTS}
use Rattle.check_images.proofs.BlockLemmas.{bit_in, bit_out, block_end}
use Rattle.check_images.proofs.blocks.push_block.Goals as goal
use Rattle.check_images.proofs.blocks.push_block.Goals.{then-has_bit+in_ok-push, else-has_bit}

pub loop-i-init : goal.loop-i-init
loop-i-init c = sym (append-nil c.args.list.now.items)

pub loop-i-preserved : goal.loop-i-preserved
loop-i-preserved c =
    let ws = c.args.words.now in
    let before = c.args.list.now.items in
    elim c.if-has_bit.branch [
      | then-has_bit+in_ok-push w ↦
          bit_in BLOCK_DOCUMENTS c.args.number ws before c.loop-i.list.items c.if-has_bit.list.items c.loop-i.i (sym c.has_bit.ensures ∙ w.if-has_bit.true) c.loop-i.invariant
          (ap (λ (v : Vec (ℕ × ℤ) Global). v.items) w.list-is ∙ w.in_ok-push.ensures.items)
      | else-has_bit w ↦
          ap (λ (v : Vec (ℕ × ℤ) Global). v.items) w.list-is
          ∙ bit_out BLOCK_DOCUMENTS c.args.number ws before c.loop-i.list.items c.loop-i.i (sym c.has_bit.ensures ∙ w.if-has_bit.false) c.loop-i.invariant
    ]

pub returns : goal.returns
returns c =
    let last = c.loop-i-test.false in
    let most = c.loop-i.auto.i-end in
    block_end c.args.number c.args.words.now c.args.list.now.items c.loop-i.list.items c.loop-i.i (let end : c.loop-i.i ≡ 4096 = omega arith in end) c.loop-i.invariant
