use Rattle.std.proofs.Common.{refl, ap, ◌∙◌, ◌≡◌, ◌-◌, ℕ, subst, arith}
use Rattle.gen_core.specs.declared.views.Sizes.{Sizes}
use Rattle.word_arena.specs.Ruled.{reader_of, Tries}
use Rattle.word_arena.proofs.Guards.{AllMissed, none_missed, try_after, missed_after, saw_on}
use Rattle.word_arena.proofs.reader.Reader.guard.Goals as goal

nothing : (n : ℕ) → 0 ≡ n - n
nothing n = omega arith

pub loop-guard-init : goal.loop-guard-init
loop-guard-init g c = record {
  table = refl;
  seen = refl;
  saw = refl;
  same_sizes = refl;
  same_number = refl;
  limit = refl;
  rises = omega arith;
  ticked = omega arith;
  missed = subst (AllMissed _ _) (nothing _) (none_missed _);
  within = omega arith;
}

pub returns-in-Ok-clause-later : goal.returns-in-Ok-clause-later
returns-in-Ok-clause-later g c =
    let h = c.in-Ok.ensures.ok in
    let later = h.later in
    let least = h.least in
    let seen = c.loop-guard.invariant.seen in
    let rises = c.loop-guard.invariant.rises in
    let i = c.loop-guard.invariant in
    record {
      same_sizes = h.same_sizes ∙ i.same_sizes;
      same_number = h.same_number ∙ i.same_number;
      later = omega arith;
      seen = h.seen;
      saw = saw_on h.saw i.saw;
      least = omega arith;
      commit = h.commit;
    }

pub returns-in-Ok-clause-some : goal.returns-in-Ok-clause-some
returns-in-Ok-clause-some g c = let ticked = c.loop-guard.invariant.ticked in let tick = c.tick.ensures in omega (arith, ticked, tick)

pub returns-in-Ok-clause-tried : goal.returns-in-Ok-clause-tried
returns-in-Ok-clause-tried g c =
    let i = c.loop-guard.invariant in
    let ticked = i.ticked in
    let tick = c.tick.ensures in
    subst (Tries (reader_of c.args.self.place.me.0) (reader_of c.in-Ok.guard.place.me.0)) (omega (arith, ticked, tick)) (try_after i.missed c.in-Ok.ensures.hit)

pub returns-in-Ok-clause-few : goal.returns-in-Ok-clause-few
returns-in-Ok-clause-few g c =
    let i = c.loop-guard.invariant in
    let t = try_after i.missed c.in-Ok.ensures.hit in
    let counted = t.counted in
    let climbs = c.in-Ok.guard.stands.climbs in
    let ticked = i.ticked in
    let tick = c.tick.ensures in
    omega (arith, counted, climbs, ticked, tick)

pub returns-in-Ok-clause-limit : goal.returns-in-Ok-clause-limit
returns-in-Ok-clause-limit g c =
    let within = c.loop-guard.invariant.within in
    let limit = c.loop-guard.invariant.limit in
    let tick = c.tick.ensures in
    omega arith

pub loop-guard-smaller : goal.loop-guard-smaller
loop-guard-smaller g c =
    let h = c.in-Err.ensures.again in
    let higher = h.higher in
    let limit = h.limit in
    let same = ap (λ (z : Sizes). z.generation_limit) h.same_sizes in
    omega arith

pub loop-guard-preserved : goal.loop-guard-preserved
loop-guard-preserved g c =
    let h = c.in-Err.ensures.again in
    let i = c.loop-guard.invariant in
    let higher = h.higher in
    let top = h.limit in
    let same = ap (λ (z : Sizes). z.generation_limit) h.same_sizes in
    let rises = i.rises in
    let ticked = i.ticked in
    let tick = c.tick.ensures in
    record {
      table = c.in-Err.ensures.back ∙ i.table;
      seen = h.seen ∙ i.seen;
      saw = h.saw ∙ i.saw;
      same_sizes = h.same_sizes ∙ i.same_sizes;
      same_number = h.same_number ∙ i.same_number;
      limit = same ∙ i.limit;
      rises = omega arith;
      ticked = omega arith;
      missed = subst (AllMissed (reader_of c.args.self.place.me.0) (reader_of c.in-Err.again.reader.place.me.0)) (omega (arith, ticked, tick)) (missed_after i.missed c.in-Err.ensures.miss);
      within = omega arith;
    }

pub returns-in-Ok-clause-table : goal.returns-in-Ok-clause-table
returns-in-Ok-clause-table g c = c.in-Ok.ensures.table ∙ c.loop-guard.invariant.table
