use Rattle.std.proofs.Common.{◌<◌, length, ◌∙◌, arith}
use Rattle.std.proofs.lemmas.List.{length-set}
use Rattle.std.proofs.lemmas.List.Edits.{map_over_more}
use Rattle.mem_work.specs.Marks.{mark_freed}
use Rattle.mem_work.proofs.cells.Cells.free_below.Goals as goal

pub loop-i-preserved : goal.loop-i-preserved
loop-i-preserved g c =
    let s = c.loop-i.self in
    let before = c.loop-i.invariant in
    let below : c.loop-i.i < length c.args.self.now.marks.items =
    omega (arith, c.loop-i-test.true, c.loop-i.auto.i-end, c.len-i-end.ensures, before.size, s.marks.ok.0, c.args.self.now.marks.ok.0) in
    record {
      size = length-set s.marks.items c.loop-i.i c.freed-mark.result ∙ before.size;
      freed = rw c.freed-mark.ensures (map_over_more (mark_freed c.args.generation) c.args.self.now.marks.items s.marks.items c.loop-i.i c.index.result.now below before.freed c.index.ensures);
      table = before.table;
      stamps = before.stamps;
      buffers = before.buffers;
      words = before.words;
    }
