use Rattle.gen_core.proofs.NeededLemmas.{needs_active, needs_apart, needs_active_width, needs_no_width, needs_free, needs_lawful, needs_records, needs_number, needs_seat}
use Rattle.gen_core.proofs.laws.conditions_law.Goals as goal

pub returns : goal.returns
returns g c =
    let l = g.L.Layout in
    record {
      active = needs_active l.reaches l.lawful;
      apart = needs_apart l.reaches l.lawful;
      active_width = needs_active_width l.reaches l.lawful;
      no_width = needs_no_width l.reaches l.lawful;
      free = needs_free l.reaches l.lawful;
      lawful = needs_lawful l.reaches l.lawful;
      records = needs_records l.reaches l.lawful;
      number = needs_number l.reaches l.lawful;
      seat = needs_seat l.reaches l.lawful;
    }
