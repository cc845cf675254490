use Rattle.gen_core.specs.Events.{after_store_word, after_store_width}
use Rattle.gen_core.proofs.Writer.{store_word_keeps, store_width_keeps}
use Rattle.gen_core.proofs.Law.{kept_stands}
use Rattle.gen_core.proofs.laws.store_law.Goals as goal

pub returns : goal.returns
returns g c =
    let l = g.L.Layout in
    record {
      word = λ s p n good may. kept_stands l.reaches l.lawful (after_store_word s p n) (store_word_keeps l.reaches l.lawful s p n good may);
      width = λ s b width good may. kept_stands l.reaches l.lawful (after_store_width s b width) (store_width_keeps l.reaches l.lawful s b width good may);
    }
