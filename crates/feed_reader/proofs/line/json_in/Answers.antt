use Rattle.std.proofs.Common.{rules, ap}
use Rattle.feed_reader.specs.Answers.{or_else}
use Rattle.feed_reader.specs.declared.refusal.Refusal.TheVariants.{NotJson}
use Rattle.feed_reader.proofs.Json.{json_read-some, json_read-none}
use Rattle.feed_reader.proofs.line.json_in.Goals as goal

pub returns-in-Ok : goal.returns-in-Ok
returns-in-Ok c = ap (or_else NotJson) (json_read-some _ _ c.in-Ok.ensures.ok.0 c.in-Ok.ensures.ok.1)

pub returns-else-is_memory : goal.returns-else-is_memory
returns-else-is_memory c = ap (or_else NotJson) (json_read-none _ (c.in-Err.ensures.err (search rules)))
