use Rattle.entry_ref.specs.Maps.{seen}
use Rattle.mem_work.proofs.Chosen.{map-records}
use Rattle.mem_work.proofs.memory.MemWork.records.Goals as goal

pub returns : goal.returns
returns g c =
    let s = c.args.self.now in
    map-records g.L.Layout.reaches s.shape s.cells.table.items s.cells.stamps.items g.row.OFFSET_BITS s.cells.buffers s.cells.words s.last s.root c.next_stamp.result
    c.in_ok-reached.reached.items (seen c.in_ok-standing.standing) (seen c.in_ok-map.map) (seen c.add_those.new.map)
    c.next_stamp.ensures c.in_ok-standing.ensures c.in_ok-reached.ensures c.in_ok-map.ensures c.in_ok-add_those.ensures
