use Rattle.std.proofs.Common.{sym, ap}
use Rattle.attr_saver.proofs.StoredLemmas.{plain_bytes, weightless}
use Rattle.attr_saver.proofs.WriteLemmas.{writes-as}
use Rattle.attr_saver.proofs.stored_items.write_item.Goals as goal

pub returns-in-Single-clause-writes : goal.returns-in-Single-clause-writes
returns-in-Single-clause-writes g c =
    writes-as c.write_key.ensures.writes (sym (plain_bytes c.args.kind c.args.value_type (g.F.Frozen.records c.args.frozen.now) c.args.word (ap weightless c.in-Single.is)))

pub returns-in-Array-clause-writes : goal.returns-in-Array-clause-writes
returns-in-Array-clause-writes g c =
    writes-as c.write_key-in-Array.ensures.writes (sym (plain_bytes c.args.kind c.args.value_type (g.F.Frozen.records c.args.frozen.now) c.args.word (ap weightless c.in-Array.is)))
