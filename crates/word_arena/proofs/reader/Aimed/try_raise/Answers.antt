use Rattle.std.proofs.Common.{arith, refl, subst, sym, ap, ◌∙◌, ◌≡◌}
use Rattle.atomic_table.specs.Table.{Me}
use Rattle.gen_core.specs.declared.views.View.{View}
use Rattle.gen_core.specs.Events.{bounced}
use Rattle.word_arena.specs.Ruled.{Slot, reader_of, IsHigher, reader_in}
use Rattle.word_arena.proofs.Allowed.{raise_owed, bounce_owed, load_root_owed}
use Rattle.word_arena.proofs.Guards.{low-inside, odd-state, guards, raised_post, raised-stands, raised-climbs, hit, miss, miss-found, miss-climbs, saw_on, watch_after}
use Rattle.word_arena.proofs.RunLemmas.{guards_commit}
use Rattle.word_arena.proofs.reader.Aimed.try_raise.Goals as goal

pub fetch_add-count-requires : goal.fetch_add-count-requires
fetch_add-count-requires g c =
    let a = c.args.self.stands in
    let low = a.low in
    let r = reader_of c.args.self.place.me.0 in
    rw c.deref-held.ensures (a.post.own, low-inside a.post _ (omega arith), raise_owed _ _ _ _ _ _ r r.least c.args.self.hold _ a.post.is refl a.aimed)

pub load-found-requires : goal.load-found-requires
load-found-requires g c =
    let a = c.args.self.stands in
    let b = raised_post a c.fetch_add-count.ensures.0 c.fetch_add-count.ensures.2.told in
    rw c.deref-held.ensures (b.post.own, low-inside b.post _ (omega arith), load_root_owed _ _ _ _ _ _ (reader_of c.fetch_add-count.new.seat.me.0) c.args.self.hold b.post.is (raised-stands b c.if-count-eq0.true))

pub invariant_of-result : goal.invariant_of-result
invariant_of-result g c =
    let a = c.args.self.stands in
    let b = raised_post a c.fetch_add-count.ensures.0 c.fetch_add-count.ensures.2.told in
    let h = guards c.args.self.hold b.post b.low (raised-stands b c.if-count-eq0.true) (raised-climbs b c.if-count-eq0.true) c.load-found.ensures.0 c.load-found.ensures.2.told in
    record { stands = h.0 }

pub returns-then-count-eq0-clause-ok : goal.returns-then-count-eq0-clause-ok
returns-then-count-eq0-clause-ok g c =
    let a = c.args.self.stands in
    let b = raised_post a c.fetch_add-count.ensures.0 c.fetch_add-count.ensures.2.told in
    let h = guards c.args.self.hold b.post b.low (raised-stands b c.if-count-eq0.true) (raised-climbs b c.if-count-eq0.true) c.load-found.ensures.0 c.load-found.ensures.2.told in
    let later = h.1.later in
    let seen = b.seen in
    let least = b.least in
    let more = h.1.least in
    record {
      same_sizes = h.1.same_sizes ∙ b.sizes_same;
      same_number = h.1.same_number ∙ b.number_same;
      later = omega arith;
      seen = h.1.seen;
      saw = saw_on h.1.saw b.saw;
      least = omega (arith, least, more);
      commit = h.1.commit;
    }

pub fetch_sub-requires : goal.fetch_sub-requires
fetch_sub-requires g c =
    let a = c.args.self.stands in
    let b = raised_post a c.fetch_add-count.ensures.0 c.fetch_add-count.ensures.2.told in
    let low = b.low in rw c.deref-held.ensures (
      b.post.own,
      low-inside b.post _ (omega arith),
      bounce_owed _ _ _ _ _ _ (reader_of c.fetch_add-count.new.seat.me.0) c.args.self.hold _ b.post.is refl
          (b.state ∙ odd-state c.fetch_add-count.result _ c.if-count-eq0.false),
    )

pub invariant_of-reader : goal.invariant_of-reader
invariant_of-reader g c =
    let a = c.args.self.stands in
    let b = raised_post a c.fetch_add-count.ensures.0 c.fetch_add-count.ensures.2.told in
    record {
      stands = watch_after b.post c.fetch_sub.ensures.0 (bounced (reader_of c.fetch_add-count.new.seat.me.0)) c.fetch_sub.ensures.2.told.is refl refl
          (miss-climbs b c.if-count-eq0.false (bounced (reader_of c.fetch_add-count.new.seat.me.0)) refl);
    }

pub returns-clause-again : goal.returns-clause-again
returns-clause-again g c =
    let a = c.args.self.stands in
    let b = raised_post a c.fetch_add-count.ensures.0 c.fetch_add-count.ensures.2.told in
    let told = c.fetch_sub.ensures.2.told in
    let least = b.least in
    let limit = told.limit in
    let view : reader_of c.fetch_sub.new.seat.me.0 ≡ bounced (reader_of c.fetch_add-count.new.seat.me.0) = ap (λ (m : Me Slot View). reader_in m.0) told.is in
    subst (IsHigher (reader_of c.args.self.place.me.0)) (sym view) (record { higher = omega arith; seen = b.seen; saw = b.saw; same_sizes = b.sizes_same; same_number = b.number_same; limit = limit })

pub returns-then-count-eq0-clause-even : goal.returns-then-count-eq0-clause-even
returns-then-count-eq0-clause-even g c =
    let e = c.fetch_add-count.ensures.2.event in
    (c.fetch_add-count.result, record { st = _; j = e.0; me' = _; event = e.1 }, c.if-count-eq0.true)

pub returns-clause-odd : goal.returns-clause-odd
returns-clause-odd g c =
    let e = c.fetch_add-count.ensures.2.event in
    let uneven = c.if-count-eq0.false in
    (record { st = _; j = e.0; me' = _; event = e.1 }, omega (arith, uneven))

pub returns-then-count-eq0-clause-hit : goal.returns-then-count-eq0-clause-hit
returns-then-count-eq0-clause-hit g c =
    let a = c.args.self.stands in
    let b = raised_post a c.fetch_add-count.ensures.0 c.fetch_add-count.ensures.2.told in
    let h = guards c.args.self.hold b.post b.low (raised-stands b c.if-count-eq0.true) (raised-climbs b c.if-count-eq0.true) c.load-found.ensures.0 c.load-found.ensures.2.told in
    hit b c.if-count-eq0.true (reader_of c.load-found.new.seat.me.0) _ _ h.2.is

pub returns-clause-miss : goal.returns-clause-miss
returns-clause-miss g c =
    let a = c.args.self.stands in
    let b = raised_post a c.fetch_add-count.ensures.0 c.fetch_add-count.ensures.2.told in
    miss b c.if-count-eq0.false (reader_of c.fetch_sub.new.seat.me.0) (ap (λ (m : Me Slot View). reader_in m.0) c.fetch_sub.ensures.2.told.is)

pub returns-clause-found : goal.returns-clause-found
returns-clause-found g c =
    let a = c.args.self.stands in
    let b = raised_post a c.fetch_add-count.ensures.0 c.fetch_add-count.ensures.2.told in
    miss-found b c.if-count-eq0.false (reader_of c.fetch_sub.new.seat.me.0) (ap (λ (m : Me Slot View). reader_in m.0) c.fetch_sub.ensures.2.told.is)

pub returns-then-count-eq0-clause-commit : goal.returns-then-count-eq0-clause-commit
returns-then-count-eq0-clause-commit g c = let e = c.load-found.ensures.2.event in guards_commit g.L.Layout.reaches g.L.Layout.lawful e.0 _ _ _ _ e.1
