use Rattle.std.proofs.Common.{◌≡◌, ℕ}
use Rattle.entry_ref.specs.Maps.{seen}
use Rattle.entry_ref.specs.Before.{those_before}
use Rattle.mem_work.specs.Entries.{chosen}
use Rattle.mem_work.proofs.cells.Cells.entries.Given as goal

abbrev pub invariant-loop-buffer : goal.invariant-loop-buffer
invariant-loop-buffer g l =
    let s = l.fn.self in
    (q : ℕ) → seen l.map q ≡ those_before g.row.OFFSET_BITS (chosen l.since s.table.items s.stamps.items g.row.OFFSET_BITS s.buffers s.words) l.buffer 0 q
