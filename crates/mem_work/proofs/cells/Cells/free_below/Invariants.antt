use Rattle.std.proofs.Common.{◌≡◌, map, take, drop, length, ◌++◌}
use Rattle.mem_work.specs.Marks.{mark_freed}
use Rattle.mem_work.proofs.cells.Cells.free_below.Given as goal

abbrev pub invariant-loop-i : goal.invariant-loop-i
invariant-loop-i g l = record {
  size : length l.self.marks.items ≡ length l.fn.self.marks.items;
  freed : l.self.marks.items ≡ map (mark_freed l.generation) (take l.i l.fn.self.marks.items) ++ drop l.i l.fn.self.marks.items;
  table : l.self.table.items ≡ l.fn.self.table.items;
  stamps : l.self.stamps.items ≡ l.fn.self.stamps.items;
  buffers : l.self.buffers ≡ l.fn.self.buffers;
  words : l.self.words ≡ l.fn.self.words;
}
