use Rattle.std.proofs.Common.{◌∙◌, sym, ap}
use Rattle.mem_work.specs.Entries.{is_chosen}
use Rattle.mem_work.proofs.Chosen.{whole-is}
use Rattle.mem_work.proofs.cells.Cells.is_chosen.Goals as goal

pub returns-in-Some : goal.returns-in-Some
returns-in-Some g c =
    let s = c.args.self.now in
    c.all_since.ensures
    ∙ whole-is s.table.items s.stamps.items g.row.OFFSET_BITS s.buffers s.words c.in-Some.since c.args.entry c.requires
    c.entry_stamp.result c.stamps_of.result.now c.entry_stamp.ensures c.stamps_of.ensures
    ∙ ap (λ n. is_chosen n s.table.items s.stamps.items g.row.OFFSET_BITS s.buffers s.words c.args.entry) (sym c.in-Some.is)
