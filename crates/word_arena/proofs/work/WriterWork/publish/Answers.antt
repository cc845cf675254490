use Rattle.std.proofs.Common.{◌^◌, ap, sym, refl, subst, arith, ◌∙◌, ◌≡◌, ◌+◌, ◌*◌, ◌<◌, ℕ, length}
use Rattle.atomic_table.specs.Table.{Me}
use Rattle.gen_core.specs.declared.views.View.{View}
use Rattle.gen_core.specs.declared.views.WriterView.{WriterView}
use Rattle.gen_core.specs.Work.{writer_records, next_image}
use Rattle.gen_core.specs.Events.{published}
use Rattle.arena_api.specs.Calls.{AddsCommit}
use Rattle.word_arena.specs.Ruled.{Slot, writer_of, writer_in}
use Rattle.word_arena.specs.Knows.{view_of}
use Rattle.word_arena.proofs.Allowed.{publish_owed}
use Rattle.word_arena.proofs.Desks.{desk-some, desk_after}
use Rattle.word_arena.proofs.Stores.{last-more, publish-adds, publish-records}
use Rattle.word_arena.proofs.RunLemmas.{knows_commits}
use Rattle.gen_core.specs.declared.views.Event.TheVariants.{Publish}
use Rattle.word_arena.proofs.work.WriterWork.publish.Goals as goal
use Rattle.gen_core.proofs.GoodViews.{some-commit}

pub store-requires : goal.store-requires
store-requires g c =
    let s = c.args.self.now in
    let w : WriterView = writer_of s.place.me.0 in
    let number : c.from.result ≡ length w.commits = let a = c.from.ensures in let b = s.stands.commits in let h = some-commit w s.stands.good in omega arith in
    let root : c.from-2.result ≡ c.args.root = c.from-2.ensures ∙ c.raw.ensures in
    let small : c.args.root < 2 ^ 32 = let h = c.raw.type_inv in let e = c.raw.ensures in omega arith in rw c.arena-arena.ensures (
      s.stands.own,
      desk-some s.stands,
      publish_owed g.L.Layout.reaches g.L.Layout.lawful _ _ _ _ (record { empty_reaches = g.L.Layout.empty_reaches; empty_lawful = g.L.Layout.empty_lawful; present = g.L.Layout.present; stays = g.L.Layout.stays }) w
          c.args.root _ s.stands.is (λ k. number k * 2 ^ 32 + root k)
          (record { calm = s.stands.calm; lawful_root = c.requires.lawful; small = small; left = c.requires.room }),
    )

pub invariant_of-self : goal.invariant_of-self
invariant_of-self g c =
    let s = c.args.self.now in
    let w : WriterView = writer_of s.place.me.0 in
    let number : c.from.result ≡ length w.commits = let a = c.from.ensures in let b = s.stands.commits in let h = some-commit w s.stands.good in omega arith in
    let root : c.from-2.result ≡ c.args.root = c.from-2.ensures ∙ c.raw.ensures in
    let e = c.store.ensures in
    let b = e.2.told c.args.root (λ k. number k * 2 ^ 32 + root k) in
    let image = next_image g.L.Layout.reaches w c.args.root in
    record {
      stands = desk_after s.stands (published w image) e.0 b.is refl s.stands.same_buffers s.stands.same_holds
          (ap (λ (n : ℕ). n + 1) s.stands.commits ∙ sym (last-more w s.stands.good image s.place.table_id)) s.stands.readers s.stands.calm b.good (record { none = λ _ _ _ _. refl });
    }

pub returns-clause-commit : goal.returns-clause-commit
returns-clause-commit g c =
    let s = c.args.self.now in
    let w : WriterView = writer_of s.place.me.0 in
    let number : c.from.result ≡ length w.commits = let a = c.from.ensures in let b = s.stands.commits in let h = some-commit w s.stands.good in omega arith in
    let root : c.from-2.result ≡ c.args.root = c.from-2.ensures ∙ c.raw.ensures in
    let b = c.store.ensures.2.told c.args.root (λ k. number k * 2 ^ 32 + root k) in
    let image = next_image g.L.Layout.reaches w c.args.root in
    subst (λ (v : WriterView). AddsCommit (view_of s.place.table_id w).commits (view_of s.place.table_id v).commits image) (sym (ap (λ (m : Me Slot View). writer_in m.0) b.is))
    (publish-adds w s.stands.good image s.place.table_id)

pub returns-clause-records : goal.returns-clause-records
returns-clause-records g c =
    let s = c.args.self.now in
    let w : WriterView = writer_of s.place.me.0 in
    let number : c.from.result ≡ length w.commits = let a = c.from.ensures in let b = s.stands.commits in let h = some-commit w s.stands.good in omega arith in
    let root : c.from-2.result ≡ c.args.root = c.from-2.ensures ∙ c.raw.ensures in
    let b = c.store.ensures.2.told c.args.root (λ k. number k * 2 ^ 32 + root k) in
    let image = next_image g.L.Layout.reaches w c.args.root in
    ap (λ (v : WriterView). writer_records v) (ap (λ (m : Me Slot View). writer_in m.0) b.is) ∙ publish-records w s.stands.good image s.place.table_id

pub returns-clause-in_run : goal.returns-clause-in_run
returns-clause-in_run g c = let e = c.store.ensures.2.event in knows_commits g.L.Layout.reaches g.L.Layout.lawful (Publish e.0) refl _ _ _ _ e.1
