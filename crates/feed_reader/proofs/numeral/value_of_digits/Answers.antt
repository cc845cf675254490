use Rattle.feed_reader.proofs.Numerals.{parsed}
use Rattle.feed_reader.proofs.numeral.value_of_digits.Goals as goal

pub returns : goal.returns
returns c = rw c.ok.ensures.value (parsed c.args.text.now _ c.parse.ensures.value.0 c.requires)
