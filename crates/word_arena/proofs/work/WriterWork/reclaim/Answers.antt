use Rattle.std.proofs.Common.{ap, subst, sym, ◌∙◌, ◌≡◌, ℕ, eqb, eqb-true, eq-eqb, true≢false}
use Rattle.generation_handler.specs.declared.HoldEntry.{HoldEntry}
use Rattle.generation_handler.specs.Queues.{oldest_of as own_oldest}
use Rattle.gen_core.specs.Views.{oldest_of}
use Rattle.gen_core.specs.declared.views.WriterView.{WriterView}
use Rattle.arena_api.specs.Generations.{Reclaims, reclaimed}
use Rattle.arena_api.specs.declared.answers.Oldest.{Oldest}
use Rattle.word_arena.specs.Ruled.{writer_of}
use Rattle.word_arena.specs.Knows.{own_hold, view_of}
use Rattle.word_arena.proofs.Reclaims.{reclaim-holds, reclaim-commits, reclaim-knows, reclaim-records, reclaim-shape, reclaim-alone}
use Rattle.word_arena.proofs.OwnHolds.{oldest-own}
use Rattle.word_arena.proofs.work.WriterWork.reclaim.Goals as goal

pub returns-clause-holds : goal.returns-clause-holds
returns-clause-holds g c =
    let s = c.args.self.now in
    let w : WriterView = writer_of s.place.me.0 in
    let u : WriterView = writer_of c.close_unused-found.new.self.place.me.0 in
    let v : WriterView = writer_of c.free_unused.new.self.place.me.0 in
    let t = c.free_unused.ensures.table ∙ c.close_unused-found.ensures.table in
    let found : ℕ = c.close_unused-found.result in
    let oldest : c.oldest-oldest.result ≡ own_hold (oldest_of u.queue) =
    c.oldest-oldest.ensures ∙ ap own_oldest (sym c.free_unused.new.self.stands.same_holds) ∙ oldest-own v.queue.older v.queue.newest
    ∙ ap (λ (x : WriterView). own_hold (oldest_of x.queue)) c.free_unused.ensures.view.same in
    let answer : Oldest = record { generation = c.oldest-oldest.result.generation; hold = c.oldest-oldest.result.hold; found = found; newest = eqb found 0 } in
    subst (λ h. Reclaims answer (view_of s.place.table_id w) (view_of h v)) (sym t)
    (reclaim-holds found w u v s.stands.good c.close_unused-found.ensures.view c.free_unused.ensures.view s.place.table_id _ _ _
    (ap (λ (h : HoldEntry). h.generation) oldest) (ap (λ (h : HoldEntry). h.hold) oldest)
    (λ yes. eqb-true found 0 yes) (λ no zero. true≢false (sym (eq-eqb found 0 zero) ∙ no)))

pub returns-clause-commits : goal.returns-clause-commits
returns-clause-commits g c =
    let s = c.args.self.now in
    reclaim-commits _ (writer_of s.place.me.0) _ _ s.stands.good c.close_unused-found.ensures.view c.free_unused.ensures.view s.place.table_id c.free_unused.new.self.stands.good

pub returns-clause-knows : goal.returns-clause-knows
returns-clause-knows g c =
    let s = c.args.self.now in
    let w : WriterView = writer_of s.place.me.0 in
    let v : WriterView = writer_of c.free_unused.new.self.place.me.0 in
    let t = c.free_unused.ensures.table ∙ c.close_unused-found.ensures.table in
    subst (λ h. view_of h v ≡ reclaimed (view_of s.place.table_id w) (view_of h v)) (sym t)
    (reclaim-knows _ w _ v s.stands.good c.close_unused-found.ensures.view c.free_unused.ensures.view s.place.table_id)

pub returns-clause-alone : goal.returns-clause-alone
returns-clause-alone g c =
    let s = c.args.self.now in
    reclaim-alone _ (writer_of s.place.me.0) _ _ s.stands.good c.close_unused-found.ensures.view c.free_unused.ensures.view s.place.table_id

pub returns-clause-records : goal.returns-clause-records
returns-clause-records g c =
    let s = c.args.self.now in
    reclaim-records _ (writer_of s.place.me.0) _ _ s.stands.good c.close_unused-found.ensures.view c.free_unused.ensures.view s.place.table_id

pub returns-clause-shape : goal.returns-clause-shape
returns-clause-shape g c =
    let s = c.args.self.now in
    reclaim-shape _ (writer_of s.place.me.0) _ _ s.stands.good c.close_unused-found.ensures.view c.free_unused.ensures.view s.place.table_id
