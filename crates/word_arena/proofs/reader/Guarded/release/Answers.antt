use Rattle.std.proofs.Common.{arith, refl}
use Rattle.gen_core.specs.Events.{released}
use Rattle.word_arena.specs.Ruled.{reader_of, seen_number}
use Rattle.word_arena.proofs.Allowed.{release_owed}
use Rattle.word_arena.proofs.Guards.{low-inside, watch_after}
use Rattle.word_arena.proofs.reader.Guarded.release.Goals as goal

pub fetch_sub-requires : goal.fetch_sub-requires
fetch_sub-requires g c =
    let s = c.args.self in
    let low = s.stands.low in
    rw c.deref-held.ensures (
      s.stands.post.own,
      low-inside s.stands.post _ (omega arith),
      release_owed _ _ _ _ _ _ (reader_of s.place.me.0) s.hold (seen_number (reader_of s.place.me.0)) _ s.stands.post.is refl s.stands.guarded,
    )

pub invariant_of-result : goal.invariant_of-result
invariant_of-result g c =
    let s = c.args.self in
    let climbs = s.stands.climbs in
    record { stands = watch_after s.stands.post c.fetch_sub.ensures.0 (released (reader_of s.place.me.0)) c.fetch_sub.ensures.2.told refl refl (omega (arith, climbs)) }
