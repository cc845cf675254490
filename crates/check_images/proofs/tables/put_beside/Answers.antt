use Rattle.std.proofs.Common.{rules, map-id}
use Rattle.std.proofs.lemmas.Iterator.{YieldsList-from_zip}
use Rattle.std.proofs.lemmas.Iterator.Adapters.{YieldsList-from_vec}
use Rattle.std.proofs.lemmas.Iterator.Consumers.{YieldsList-end}
use Rattle.std.specs.Iterator.Adapters.{zip_first, zip_second}
use Rattle.check_images.proofs.tables.put_beside.Goals as goal

pub returns : goal.returns
returns c =
    let column = YieldsList-from_vec {s = zip_first c.into_iter-entry-iterator.result} c.args.column.items (search rules) (search rules) in
    let table = YieldsList-from_vec {s = zip_second c.into_iter-entry-iterator.result} c.args.table.items (search rules) (search rules) in
    let end = YieldsList-end (YieldsList-from_zip {s = c.into_iter-entry-iterator.result} column table)
    c.loop-entry.yielded c.loop-entry.entry-iterator c.loop-entry.yielded_by c.next.result c.next.new.self c.in-None.is c.next.ensures.steps in
    rw (← end.0, map-id) c.loop-entry.invariant
