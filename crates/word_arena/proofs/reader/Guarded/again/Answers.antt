use Rattle.std.proofs.Common.{arith, ap, subst, sym, ◌∙◌, ◌≤◌, ℕ}
use Rattle.gen_core.specs.Views.{stands_on}
use Rattle.gen_core.specs.declared.views.ReaderView.{ReaderView}
use Rattle.word_arena.specs.Ruled.{reader_of, seen_number}
use Rattle.word_arena.proofs.Allowed.{load_root_owed}
use Rattle.word_arena.proofs.Guards.{low-inside, guards}
use Rattle.word_arena.proofs.RunLemmas.{guards_commit}
use Rattle.word_arena.proofs.reader.Guarded.again.Goals as goal

pub load-now-requires : goal.load-now-requires
load-now-requires g c =
    let s = c.args.self in
    rw c.deref-held.ensures (s.stands.post.own, low-inside s.stands.post _ (omega arith), load_root_owed _ _ _ _ _ _ (reader_of s.place.me.0) s.hold s.stands.post.is (ap stands_on s.stands.guarded))

pub invariant_of-result : goal.invariant_of-result
invariant_of-result g c =
    let s = c.args.self in
    let h = guards s.hold s.stands.post s.stands.low (ap stands_on s.stands.guarded) s.stands.climbs c.load-now.ensures.0 c.load-now.ensures.2.told in
    record { stands = h.0 }

pub returns-clause-later : goal.returns-clause-later
returns-clause-later g c =
    let s = c.args.self in
    let h = guards s.hold s.stands.post s.stands.low (ap stands_on s.stands.guarded) s.stands.climbs c.load-now.ensures.0 c.load-now.ensures.2.told in
    h.1

pub returns-clause-not_older : goal.returns-clause-not_older
returns-clause-not_older g c =
    let s = c.args.self in
    let h = guards s.hold s.stands.post s.stands.low (ap stands_on s.stands.guarded) s.stands.climbs c.load-now.ensures.0 c.load-now.ensures.2.told in
    subst (λ (n : ℕ). n ≤ seen_number (reader_of c.load-now.new.seat.me.0)) s.stands.seen h.1.later

pub returns-clause-view : goal.returns-clause-view
returns-clause-view g c =
    let s = c.args.self in
    let h = guards s.hold s.stands.post s.stands.low (ap stands_on s.stands.guarded) s.stands.climbs c.load-now.ensures.0 c.load-now.ensures.2.told in
    h.2.is

pub returns-clause-stays : goal.returns-clause-stays
returns-clause-stays g c =
    let s = c.args.self in
    let h = guards s.hold s.stands.post s.stands.low (ap stands_on s.stands.guarded) s.stands.climbs c.load-now.ensures.0 c.load-now.ensures.2.told in
    ap (λ (v : ReaderView). stands_on v.state) h.2.is ∙ sym (ap stands_on s.stands.guarded)

pub returns-clause-commit : goal.returns-clause-commit
returns-clause-commit g c = let e = c.load-now.ensures.2.event in guards_commit g.L.Layout.reaches g.L.Layout.lawful e.0 _ _ _ _ e.1
