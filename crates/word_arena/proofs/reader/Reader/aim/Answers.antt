use Rattle.std.proofs.Common.{arith}
use Rattle.word_arena.specs.Ruled.{reader_of}
use Rattle.word_arena.proofs.Allowed.{load_newest_owed}
use Rattle.word_arena.proofs.Guards.{low-inside, aimed_post}
use Rattle.word_arena.proofs.reader.Reader.aim.Goals as goal

pub load-last-requires : goal.load-last-requires
load-last-requires g c =
    let s = c.args.self in
    rw c.deref-held.ensures (s.stands.post.own, low-inside s.stands.post _ (omega arith), load_newest_owed _ _ _ _ _ _ (reader_of s.place.me.0) s.stands.post.is s.stands.idle)

pub invariant_of-result : goal.invariant_of-result
invariant_of-result g c = record { stands = (aimed_post c.args.self.stands c.load-last.ensures.0 c.load-last.ensures.2.told).0 }

pub returns-clause-aims : goal.returns-clause-aims
returns-clause-aims g c = (aimed_post c.args.self.stands c.load-last.ensures.0 c.load-last.ensures.2.told).1

pub returns-clause-loads : goal.returns-clause-loads
returns-clause-loads g c = let e = c.load-last.ensures.2.event in record { st = _; found = c.load-last.result; j = e.0; event = e.1 }
