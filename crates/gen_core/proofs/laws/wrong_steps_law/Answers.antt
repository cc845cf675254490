use Rattle.gen_core.proofs.NeededLemmas.{root_before_raise, opens_by_zero, last_before_open, forgets_the_bounce, morph_beside_next, close_moves_no_floor, frees_at_the_oldest, tags_too_early}
use Rattle.gen_core.proofs.laws.wrong_steps_law.Goals as goal

pub returns : goal.returns
returns g c =
    let l = g.L.Layout in
    record {
      root_before_raise = root_before_raise l.reaches l.lawful;
      opens_a_hold_by_zero = opens_by_zero l.reaches l.lawful;
      last_before_the_hold_is_open = last_before_open l.reaches l.lawful;
      forgets_the_bounce = forgets_the_bounce l.reaches l.lawful;
      morph_beside_a_reopened_hold = morph_beside_next l.reaches l.lawful;
      close_moves_no_floor = close_moves_no_floor l.reaches l.lawful;
      frees_at_the_oldest = frees_at_the_oldest l.reaches l.lawful;
      tags_too_early = tags_too_early l.reaches l.lawful;
    }
