use Rattle.feed_reader.proofs.LinesLemmas.{found_by}
use Rattle.attr_c.proofs.split.newline_in.Goals as goal

pub returns : goal.returns
returns c = found_by c.args.bytes.now _ c.memchr.ensures
