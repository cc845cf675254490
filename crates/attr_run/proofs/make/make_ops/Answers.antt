use Rattle.std.proofs.Common.{◌≡◌, ◌∙◌, ◌++◌, ◌∷◌, [], ◌+◌, ◌-◌, sym, ap, subst, length, List, arith, rules}
use Rattle.std.specs.List.{AllByRecursion}
use Rattle.attr_types.specs.Lawful.{OpFits}
use Rattle.attr_types.specs.declared.field.Field.{Field}
use Rattle.attr_types.specs.declared.op.Op.{Op}
use Rattle.attr_run.specs.Made.{op_by, made}
use Rattle.attr_run.proofs.MadeLemmas.{made-more, made-end, made-length}
use Rattle.attr_run.proofs.make.make_ops.Goals as goal

pub loop-preserved : goal.loop-preserved
loop-preserved c =
    let pushed : c.push.new.self ≡ c.loop.ops ++ c.in_ok-op.op ∷ [] = search rules in
    let op = c.in_ok-op.ensures ∙ ap (λ (f : List Field). op_by f c.next_draw-a.result c.next_draw-b.result c.next_draw-c.result)
    c.as_slice-attributes.ensures in
    made-more c.loop.ops c.push.new.self (c.args.count - c.loop.counter) (c.args.count - (c.loop.counter + 1)) c.loop.draw
    c.next_draw-a.result c.next_draw-b.result c.next_draw-c.result c.args.fields.now c.in_ok-op.op _ c.loop.invariant
    (omega arith) c.next_draw-a.ensures.value c.next_draw-b.ensures.value c.next_draw-c.ensures.value op pushed

pub returns-clause-made : goal.returns-clause-made
unfolding made
returns-clause-made c = made-end c.loop.ops (c.args.count - c.loop.counter) c.loop.draw c.args.fields.now _
    c.loop.invariant (omega arith)

pub returns-clause-count : goal.returns-clause-count
unfolding made
returns-clause-count c = ap (λ (ops : List Op). length ops) (returns-clause-made c)
    ∙ made-length c.args.count c.args.seed c.args.fields.now

pub returns-clause-fit : goal.returns-clause-fit
returns-clause-fit c = subst (λ (ops : List Op). AllByRecursion (OpFits c.args.fields.now) ops) (sym (returns-clause-made c))
    (c.made_law.ensures c.args.count c.args.seed c.args.fields.now)
