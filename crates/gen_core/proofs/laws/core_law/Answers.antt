use Rattle.gen_core.proofs.Law.{keeps_good, none_from_before}
use Rattle.gen_core.proofs.laws.core_law.Goals as goal

pub returns : goal.returns
returns g c =
    let l = g.L.Layout in
    let good = keeps_good l.reaches l.lawful (record { empty_reaches = l.empty_reaches; empty_lawful = l.empty_lawful; present = l.present; stays = l.stays }) in
    record { good = good; hand_out = λ sizes events s t b may h step. none_from_before l.reaches l.lawful s b (good sizes events s may h) step.0 }
