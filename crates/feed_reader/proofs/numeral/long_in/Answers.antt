use Rattle.std.proofs.Common.{◌∙◌, rules}
use Rattle.feed_reader.proofs.Numerals.{long_parsed}
use Rattle.feed_reader.proofs.numeral.long_in.Goals as goal

pub returns : goal.returns
returns c = c.ok.ensures.value ∙ long_parsed c.args.text.now _ c.parse.ensures.value.0 (search rules)
