use Rattle.std.proofs.Common.{◌∙◌}
use Rattle.test_trees.proofs.tens.put_word.Goals as goal

pub returns : goal.returns
returns g c = record {
  unit = c.insert.ensures.may.unit ∙ c.requires.unit;
  keyed = c.in_ok-next.ensures.keyed;
  owns = c.in_ok-next.ensures.owns;
}
