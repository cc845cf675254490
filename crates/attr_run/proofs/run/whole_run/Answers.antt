use Rattle.std.proofs.Common.{◌≡◌}
use Rattle.attr_run.specs.declared.outcome.Status.{Status}
use Rattle.attr_run.specs.declared.outcome.Status.TheVariants.{Full, Memory, WriteFault}
use Rattle.attr_run.proofs.TaskLemmas.{unfull-memory, unmade-by}
use Rattle.attr_run.proofs.run.whole_run.Goals as goal

pub returns-in-Err-clause-full : goal.returns-in-Err-clause-full
returns-in-Err-clause-full g c = unfull-memory c.args.words.now (g.S.Source.left c.args.source.now) c.out_of_memory.result c.out_of_memory.ensures.status

pub returns-in-Ok-write_all-clause-full : goal.returns-in-Ok-write_all-clause-full
returns-in-Ok-write_all-clause-full g c = c.in-Ok.ensures.full

pub returns-clause-full : goal.returns-clause-full
returns-clause-full g c = λ operation active held is. absurd (let e : WriteFault ≡ Full operation active held = is in cc)

pub returns-in-Err-clause-of_memory : goal.returns-in-Err-clause-of_memory
returns-in-Err-clause-of_memory g c = unmade-by c.args.words.now (g.S.Source.left c.args.source.now) c.out_of_memory.result Memory c.out_of_memory.ensures.status (λ full ends. ends)

pub returns-in-Ok-write_all-clause-of_memory : goal.returns-in-Ok-write_all-clause-of_memory
returns-in-Ok-write_all-clause-of_memory g c = c.in-Ok.ensures.of_memory

pub returns-clause-of_memory : goal.returns-clause-of_memory
returns-clause-of_memory g c = λ full ends. absurd ends
