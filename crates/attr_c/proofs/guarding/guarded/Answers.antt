use Rattle.std.proofs.Common.{refl, ap, ◌∙◌, arith}
use Rattle.gen_core.specs.declared.views.Sizes.{Sizes}
use Rattle.word_arena.proofs.Guards.{saw_on}
use Rattle.attr_c.proofs.guarding.guarded.Goals as goal

pub loop-guard-init : goal.loop-guard-init
loop-guard-init g c = record { table = refl; seen = refl; saw = refl; same_sizes = refl; same_number = refl; rises = omega arith }

pub returns-in-Ok-clause-later : goal.returns-in-Ok-clause-later
returns-in-Ok-clause-later g c =
    let h = c.in-Ok.ensures.ok in
    let i = c.loop-guard.invariant in
    let later = h.later in
    let least = h.least in
    let seen = i.seen in
    let rises = i.rises in
    record {
      same_sizes = h.same_sizes ∙ i.same_sizes;
      same_number = h.same_number ∙ i.same_number;
      later = omega arith;
      seen = h.seen;
      saw = saw_on h.saw i.saw;
      least = omega arith;
      commit = h.commit;
    }

pub returns-in-Ok-clause-table : goal.returns-in-Ok-clause-table
returns-in-Ok-clause-table g c = c.in-Ok.ensures.table ∙ c.loop-guard.invariant.table

pub loop-guard-smaller : goal.loop-guard-smaller
loop-guard-smaller g c =
    let h = c.in-Err.ensures.again in
    let higher = h.higher in
    let limit = h.limit in
    let same = ap (λ (z : Sizes). z.generation_limit) h.same_sizes in
    omega arith

pub loop-guard-preserved : goal.loop-guard-preserved
loop-guard-preserved g c =
    let h = c.in-Err.ensures.again in
    let i = c.loop-guard.invariant in
    let higher = h.higher in
    let rises = i.rises in
    record { table = c.in-Err.ensures.back ∙ i.table; seen = h.seen ∙ i.seen; saw = h.saw ∙ i.saw; same_sizes = h.same_sizes ∙ i.same_sizes; same_number = h.same_number ∙ i.same_number; rises = omega arith }
