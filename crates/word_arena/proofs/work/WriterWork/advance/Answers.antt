use Rattle.std.proofs.Common.{subst, sym, ◌≡◌}
use Rattle.gen_core.specs.declared.views.WriterView.{WriterView}
use Rattle.arena_api.specs.Generations.{Advances, advanced}
use Rattle.word_arena.specs.Ruled.{writer_of}
use Rattle.word_arena.specs.Knows.{view_of}
use Rattle.word_arena.proofs.Advances.{advance-holds, advance-commits, advance-knows, advance-records, advance-shape, advance-alone}
use Rattle.word_arena.proofs.work.WriterWork.advance.Goals as goal

pub returns-clause-holds : goal.returns-clause-holds
returns-clause-holds g c =
    let s = c.args.self.now in
    let w : WriterView = writer_of s.place.me.0 in
    let e = c.advance_generation.ensures in
    subst (λ h. Advances c.advance_generation.result (view_of s.place.table_id w) (view_of h (writer_of c.advance_generation.new.self.place.me.0))) (sym e.table) (advance-holds w s.stands.good s.place.table_id _ _ e.view)

pub returns-clause-commits : goal.returns-clause-commits
returns-clause-commits g c =
    let s = c.args.self.now in
    advance-commits (writer_of s.place.me.0) s.stands.good s.place.table_id _ _ c.advance_generation.new.self.stands.good c.advance_generation.ensures.view

pub returns-clause-knows : goal.returns-clause-knows
returns-clause-knows g c =
    let s = c.args.self.now in
    let w : WriterView = writer_of s.place.me.0 in
    let e = c.advance_generation.ensures in
    subst (λ h. view_of h (writer_of c.advance_generation.new.self.place.me.0) ≡ advanced (view_of s.place.table_id w) (view_of h (writer_of c.advance_generation.new.self.place.me.0))) (sym e.table)
    (advance-knows w s.stands.good s.place.table_id _ _ e.view)

pub returns-clause-alone : goal.returns-clause-alone
returns-clause-alone g c = let s = c.args.self.now in advance-alone (writer_of s.place.me.0) s.stands.good s.place.table_id _ _ c.advance_generation.ensures.view

pub returns-clause-records : goal.returns-clause-records
returns-clause-records g c = let s = c.args.self.now in advance-records (writer_of s.place.me.0) s.stands.good s.place.table_id _ _ c.advance_generation.ensures.view

pub returns-clause-shape : goal.returns-clause-shape
returns-clause-shape g c = let s = c.args.self.now in advance-shape (writer_of s.place.me.0) s.stands.good s.place.table_id _ _ c.advance_generation.ensures.view
