use Rattle.gen_core.proofs.HeldBack.{holds_back}
use Rattle.gen_core.proofs.laws.held_law.Goals as goal

pub returns : goal.returns
returns g c = let l = g.L.Layout in holds_back l.reaches l.lawful (record { empty_reaches = l.empty_reaches; empty_lawful = l.empty_lawful; present = l.present; stays = l.stays })
