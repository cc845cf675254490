use Rattle.std.proofs.lemmas.Result.{IfOk-weaker, IfErr-weaker}
use Rattle.word_arena.proofs.Guards.{try_of}
use Rattle.word_arena.proofs.reader.Reader.try_guard.Goals as goal

pub returns-clause-hit : goal.returns-clause-hit
returns-clause-hit g c = IfOk-weaker c.try_raise.result _ _ (λ guard missed. try_of c.aim.ensures.aims missed) c.try_raise.ensures.hit

pub returns-clause-miss : goal.returns-clause-miss
returns-clause-miss g c = IfErr-weaker c.try_raise.result _ _ (λ again missed. try_of c.aim.ensures.aims missed) c.try_raise.ensures.miss

pub returns-clause-even : goal.returns-clause-even
returns-clause-even g c = IfOk-weaker c.try_raise.result _ _ (λ guard h. (h.0, record { aimed = c.aim.result.place.me; loads = c.aim.ensures.loads; raises = h.1 }, h.2)) c.try_raise.ensures.even

pub returns-clause-odd : goal.returns-clause-odd
returns-clause-odd g c = IfErr-weaker c.try_raise.result _ _ (λ again h. (record { aimed = c.aim.result.place.me; loads = c.aim.ensures.loads; raises = h.0 }, h.1)) c.try_raise.ensures.odd
