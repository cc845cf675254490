use Rattle.std.proofs.Common.{arith, ap, sym, subst, ◌∙◌}
use Rattle.gen_core.specs.declared.views.WriterView.{WriterView}
use Rattle.gen_core.specs.Work.{writer_records}
use Rattle.arena_api.specs.Generations.{MayRetire}
use Rattle.word_arena.specs.Ruled.{writer_of}
use Rattle.word_arena.specs.Knows.{view_of}
use Rattle.word_arena.proofs.Desks.{view-bits}
use Rattle.word_arena.proofs.Entries.{may_hold, hold-records, hold-knows}
use Rattle.word_arena.proofs.work.WriterWork.retire_buffer.Goals as goal

pub put_on_hold-requires : goal.put_on_hold-requires
put_on_hold-requires g c =
    let s = c.args.self.now in
    let w : WriterView = writer_of s.place.me.0 in
    let may = subst (λ b. MayRetire b (view_of s.place.table_id w) c.args.buffer) (sym (view-bits s.stands)) c.requires in
    (omega arith, may_hold w s.stands.good s.stands.calm s.stands.entries c.args.buffer s.place.table_id may)

pub returns-clause-knows : goal.returns-clause-knows
returns-clause-knows g c =
    let s = c.args.self.now in
    let w : WriterView = writer_of s.place.me.0 in
    let may = subst (λ b. MayRetire b (view_of s.place.table_id w) c.args.buffer) (sym (view-bits s.stands)) c.requires in
    let e = c.put_on_hold.ensures in
    (λ k. view_of (e.table k) (e.view k)) ∙ hold-knows w s.stands.good s.stands.calm s.stands.entries c.args.buffer s.place.table_id may

pub returns-clause-records : goal.returns-clause-records
returns-clause-records g c =
    let s = c.args.self.now in
    let w : WriterView = writer_of s.place.me.0 in
    let may = subst (λ b. MayRetire b (view_of s.place.table_id w) c.args.buffer) (sym (view-bits s.stands)) c.requires in
    ap writer_records c.put_on_hold.ensures.view ∙ hold-records w s.stands.good s.stands.calm s.stands.entries c.args.buffer s.place.table_id may

pub returns-clause-shape : goal.returns-clause-shape
returns-clause-shape g c = ap (λ (v : WriterView). v.sizes.shape) c.put_on_hold.ensures.view
