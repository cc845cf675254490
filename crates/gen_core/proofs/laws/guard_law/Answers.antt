use Rattle.gen_core.proofs.Law.{image_stands, kept_for}
use Rattle.gen_core.proofs.laws.guard_law.Goals as goal

pub returns : goal.returns
returns g c =
    let l = g.L.Layout in
    record {
      word = λ s j number ref i r image ws good at under there lt. ((image_stands l.reaches l.lawful s j number r image good at under ref ws there).each i lt).is;
      width = λ s j number ref r image ws good at under there. (image_stands l.reaches l.lawful s j number r image good at under ref ws there).width.is;
      kept = kept_for l.reaches l.lawful;
    }
