-- What an advance and a reclaim make of the writer's view is what they make of a work.
use Rattle.std.proofs.Common.{◌≡◌, inl, inr, ⊎_elim, ℕ, suc, ◌+◌, ◌≤◌, List, [], ◌∷◌, ◌++◌, map, length, Bool, true, false, refl, sym, ap, subst, ◌∙◌, arith, eq-eqb, eqb-true, true≢false}
use mathlib.Core.List.{map-append}
use Rattle.std.specs.Prelude.{nat_eq, ◌||◌}
use Rattle.std.specs.List.{AllByRecursion}
use Rattle.std.proofs.lemmas.List.{length-map}
use Rattle.std.proofs.lemmas.Bool.{or_cases}
use Rattle.generation_handler.specs.Queues.{has_hold, IsLeastClosed}
use Rattle.gen_core.specs.declared.views.OpenHold.{OpenHold}
use Rattle.gen_core.specs.declared.views.WriterView.{WriterView}
use Rattle.gen_core.specs.Views.{open_holds, floor_of, last_number}
use Rattle.gen_core.specs.Work.{writer_records}
use Rattle.gen_core.specs.Good.{GoodView, HoldFits}
use Rattle.gen_core.specs.Events.{coming_hold, advanced as core_advanced, morphed}
use Rattle.gen_core.proofs.Holds.{at_newest, oldest-push, oldest-replaced}
use Rattle.gen_core.proofs.GoodViews.{floor-last}
use Rattle.arena_api.specs.Works.{Hold}
use Rattle.arena_api.specs.Generations.{current, next_hold, with_newest, IsLowestClosed, Renews, Opens, Advances, LetsGo, advanced}
use Rattle.arena_api.specs.declared.answers.Advance.{Advance}
use Rattle.arena_api.specs.declared.answers.Advance.TheVariants.{To, NoHold, Spent}
use Rattle.word_arena.specs.Knows.{own_hold, api_hold, view_of}
use Rattle.word_arena.specs.ProofsForWork.{coming-least, newest-api}
use Rattle.word_arena.specs.WriterSteps.{RenewsNewest, OpensAnother, AdvancesView}

-- the newest hold of a work with another newest one
newest-other : (older : List OpenHold) (newest e : OpenHold) → map api_hold (older ++ e ∷ []) ≡ with_newest (map api_hold (older ++ newest ∷ [])) (api_hold e)
newest-other [] newest e = refl
newest-other (x ∷ []) newest e = refl
newest-other (x ∷ y ∷ ys) newest e = ap (λ l. api_hold x ∷ l) (newest-other (y ∷ ys) newest e)

-- holds that are open in the one are in the other
open-own : (xs : List OpenHold) (h : ℕ) → has_hold (map own_hold xs) h ≡ true → AllByRecursion (λ (e : Hold). e.hold ≡ h → ⊥) (map api_hold xs) → ⊥
open-own [] h is all = absurd (true≢false (sym is))
open-own (x ∷ xs) h is all = ⊎_elim (λ here. all.0 (eqb-true x.hold h here)) (λ later. open-own xs h later all.1) (or_cases (nat_eq x.hold h) (has_hold (map own_hold xs) h) is)

closed-own : (xs : List OpenHold) (h : ℕ) → has_hold (map own_hold xs) h ≡ false → AllByRecursion (λ (e : Hold). e.hold ≡ h → ⊥) (map api_hold xs)
closed-own [] h is = tt
closed-own (x ∷ xs) h is = (
  λ same. true≢false (sym (ap (λ t. t || has_hold (map own_hold xs) h) (eq-eqb x.hold h same)) ∙ is),
  closed-own xs h (neither (nat_eq x.hold h) (has_hold (map own_hold xs) h) is),
)
  where
    neither : (a b : Bool) → (a || b) ≡ false → b ≡ false
    neither true b e = absurd (true≢false e)
    neither false b e = e

lowest-own : (xs : List OpenHold) (h : ℕ) → IsLeastClosed (map own_hold xs) h → IsLowestClosed (map api_hold xs) h
lowest-own xs h is = record { below = is.below; closed = closed-own xs h is.closed; lowest = λ k lt all. open-own xs k (is.lower k lt) all }

module _ (w : WriterView) (g : GoodView w) {H : Type 0} (home : H) where
  current-own : current (view_of home w) ≡ w.queue.newest.generation
  current-own = ap (λ (h : Hold). h.generation) (newest-api w.queue.older w.queue.newest)

  next-own : (h : ℕ) → next_hold (view_of home w) h ≡ api_hold (coming_hold w h)
  next-own h = λ k. record { generation = (ap suc current-own ∙ one w.queue.newest.generation) k; hold = h; first = last_number w.commits }
    where
      one : (n : ℕ) → suc n ≡ n + 1
      one n = omega arith

  renews : (v : WriterView) (hold : ℕ) → RenewsNewest w v hold → Renews (view_of home w) (view_of home v) hold
  renews v hold is =
      let queue : (view_of home (morphed w)).queue ≡ with_newest (view_of home w).queue (next_hold (view_of home w) w.queue.newest.hold) =
      newest-other w.queue.older w.queue.newest (coming_hold w w.queue.newest.hold)
      ∙ ap (with_newest (view_of home w).queue) (sym (next-own w.queue.newest.hold)) in
      record {
        hold = is.newest ∙ sym (ap (λ (h : Hold). h.hold) (newest-api w.queue.older w.queue.newest));
        queue = ap (λ (x : WriterView). (view_of home x).queue) is.is ∙ queue ∙ ap (λ (h : ℕ). with_newest (view_of home w).queue (next_hold (view_of home w) h)) (sym is.newest);
        stops = ap (λ (x : WriterView). x.stops.count) is.is;
        found = ap (λ (x : WriterView). x.stops.found) is.is;
      }

  opens : (v : WriterView) (hold : ℕ) → OpensAnother w v hold → Opens (view_of home w) (view_of home v) hold
  opens v hold is =
      let some = is.in_use in
      let found : v.stops.found ≡ is.found = ap (λ (x : WriterView). x.stops.found) is.is in
      let count : v.stops.count ≡ w.stops.count + 1 = ap (λ (x : WriterView). x.stops.count) is.is in
      record {
        closed = lowest-own (open_holds w.queue) hold is.closed;
        queue = ap (λ (x : WriterView). (view_of home x).queue) is.is ∙ map-append api_hold (open_holds w.queue) (coming_hold w hold ∷ [])
            ∙ ap (λ (h : Hold). (view_of home w).queue ++ h ∷ []) (sym (next-own hold));
        stops = omega (arith, count);
        found = omega (arith, found, some);
      }

  same-length : length (map own_hold (open_holds w.queue)) ≡ 16 → length (map api_hold (open_holds w.queue)) ≡ 16
  same-length is = length-map (open_holds w.queue) api_hold ∙ sym (length-map (open_holds w.queue) own_hold) ∙ is

  pub advance-holds : (answer : Advance) (v : WriterView) → AdvancesView answer w v → Advances answer (view_of home w) (view_of home v)
  advance-holds (To generation hold) v is =
      let below = is.below in
      let next = is.next in
      record {
        below = omega (arith, below, current-own);
        next = omega (arith, next, current-own);
        holds = ⊎_elim (λ (a : RenewsNewest w v hold). inl (renews v hold a)) (λ (a : OpensAnother w v hold). inr (opens v hold a)) is.ways;
      }
  advance-holds (NoHold holds found) v is =
      let below = is.below in
      let some = is.in_use in
      let count : v.stops.count ≡ w.stops.count + 1 = ap (λ (x : WriterView). x.stops.count) is.is in
      record {
        below = omega (arith, below, current-own);
        all = is.all;
        all_open = same-length is.all_open;
        in_use = omega (arith, some);
        queue = ap (λ (x : WriterView). (view_of home x).queue) is.is;
        stops = omega (arith, count);
        found = ap (λ (x : WriterView). x.stops.found) is.is;
      }
  advance-holds (Spent generation) v is =
      let limit = is.limit in
      let most = g.queue.generation in
      let least = coming-least w.queue.newest w.queue.pending in
      record {
        limit = omega (arith, limit, most, least, current-own);
        tells = is.tells ∙ sym current-own;
        same = ap (λ (x : WriterView). view_of home x) is.is;
      }

  -- a floor that rises, with the same commits
  lets-go : (v : WriterView) → GoodView v → v.commits ≡ w.commits → floor_of w ≤ floor_of v → LetsGo (view_of home w).commits (view_of home v).commits
  lets-go v good same up =
      let last : last_number v.commits ≡ last_number w.commits = ap last_number same in
      let low = floor-last v good in
      record {
        last = last;
        rises = up;
        within = low;
        kept = λ n from to. ap (λ cs. (view_of home (record w { commits = cs })).commits.image n) same;
      }

  newest-first : w.queue.newest.first_commit ≤ last_number w.commits
  newest-first = (at_newest (HoldFits w.commits) w.queue.older w.queue.newest g.queue.each).first_commit

  -- the floor after an advance
  floor-morphed : floor_of w ≤ floor_of (morphed w)
  floor-morphed = oldest-replaced w.queue.older w.queue.newest (coming_hold w w.queue.newest.hold) newest-first

  floor-advanced : (h : ℕ) → floor_of w ≤ floor_of (core_advanced w h)
  floor-advanced h = let same = ap (λ (e : OpenHold). e.first_commit) (oldest-push w.queue.older w.queue.newest (coming_hold w h)) in omega (arith, same)

  pub advance-commits : (answer : Advance) (v : WriterView) → GoodView v → AdvancesView answer w v → LetsGo (view_of home w).commits (view_of home v).commits
  advance-commits (To generation hold) v good is = ⊎_elim
      (λ (a : RenewsNewest w v hold). lets-go v good (ap (λ (x : WriterView). x.commits) a.is) (subst (λ (x : WriterView). floor_of w ≤ floor_of x) (sym a.is) floor-morphed))
      (λ (a : OpensAnother w v hold). lets-go v good (ap (λ (x : WriterView). x.commits) a.is) (subst (λ (x : WriterView). floor_of w ≤ floor_of x) (sym a.is) (floor-advanced hold)))
      is.ways
  advance-commits (NoHold holds found) v good is = lets-go v good (ap (λ (x : WriterView). x.commits) is.is) (subst (λ (x : WriterView). floor_of w ≤ floor_of x) (sym is.is) (omega arith))
  advance-commits (Spent generation) v good is = lets-go v good (ap (λ (x : WriterView). x.commits) is.is) (subst (λ (x : WriterView). floor_of w ≤ floor_of x) (sym is.is) (omega arith))

  -- nothing else is changed
  pub advance-knows : (answer : Advance) (v : WriterView) → AdvancesView answer w v → view_of home v ≡ advanced (view_of home w) (view_of home v)
  advance-knows (To generation hold) v is = ⊎_elim
      (λ (a : RenewsNewest w v hold). subst (λ (x : WriterView). view_of home x ≡ advanced (view_of home w) (view_of home x)) (sym a.is) refl)
      (λ (a : OpensAnother w v hold). subst (λ (x : WriterView). view_of home x ≡ advanced (view_of home w) (view_of home x)) (sym a.is) refl)
      is.ways
  advance-knows (NoHold holds found) v is = subst (λ (x : WriterView). view_of home x ≡ advanced (view_of home w) (view_of home x)) (sym is.is) refl
  advance-knows (Spent generation) v is = subst (λ (x : WriterView). view_of home x ≡ advanced (view_of home w) (view_of home x)) (sym is.is) refl

  pub advance-records : (answer : Advance) (v : WriterView) → AdvancesView answer w v → writer_records v ≡ writer_records w
  advance-records (To generation hold) v is = ⊎_elim
      (λ (a : RenewsNewest w v hold). subst (λ (x : WriterView). writer_records x ≡ writer_records w) (sym a.is) refl)
      (λ (a : OpensAnother w v hold). subst (λ (x : WriterView). writer_records x ≡ writer_records w) (sym a.is) refl)
      is.ways
  advance-records (NoHold holds found) v is = subst (λ (x : WriterView). writer_records x ≡ writer_records w) (sym is.is) refl
  advance-records (Spent generation) v is = ap writer_records is.is

  pub advance-shape : (answer : Advance) (v : WriterView) → AdvancesView answer w v → v.sizes.shape ≡ w.sizes.shape
  advance-shape (To generation hold) v is = ⊎_elim
      (λ (a : RenewsNewest w v hold). ap (λ (x : WriterView). x.sizes.shape) a.is)
      (λ (a : OpensAnother w v hold). ap (λ (x : WriterView). x.sizes.shape) a.is)
      is.ways
  advance-shape (NoHold holds found) v is = ap (λ (x : WriterView). x.sizes.shape) is.is
  advance-shape (Spent generation) v is = ap (λ (x : WriterView). x.sizes.shape) is.is

  pub advance-alone : (answer : Advance) (v : WriterView) → AdvancesView answer w v → w.made ≡ 0 → v.stops.count ≡ w.stops.count
  advance-alone (To generation hold) v is none = ⊎_elim
      (λ (a : RenewsNewest w v hold). ap (λ (x : WriterView). x.stops.count) a.is)
      (λ (a : OpensAnother w v hold). absurd (a.in_use (a.alone none)))
      is.ways
  advance-alone (NoHold holds found) v is none = absurd (is.in_use (is.alone none))
  advance-alone (Spent generation) v is none = ap (λ (x : WriterView). x.stops.count) is.is
