use Rattle.gen_core.proofs.Law.{event_keeps}
use Rattle.gen_core.proofs.laws.event_law.Goals as goal

pub returns : goal.returns
returns g c = let l = g.L.Layout in event_keeps l.reaches l.lawful (record { empty_reaches = l.empty_reaches; empty_lawful = l.empty_lawful; present = l.present; stays = l.stays })
