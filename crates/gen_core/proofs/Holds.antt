-- The queue of open holds, the older ones first and the newest behind them.
use Rattle.std.proofs.Common.{◌≡◌, ◌≢◌, ℕ, zero, suc, ◌<◌, ◌≤◌, List, [], ◌∷◌, ◌++◌, Bool, true, false, refl, sym, ap, ◌∙◌, arith, eq-eqb, ne_eqb, eqb-true, true≢false}
use Rattle.std.specs.Prelude.{All, AllPairs, nat_eq, IsTrue, ◌||◌}
use Rattle.std.specs.List.{list_any}
use Rattle.gen_core.specs.declared.views.OpenHold.{OpenHold}
use Rattle.gen_core.specs.declared.views.Queue.{Queue}
use Rattle.gen_core.specs.Views.{oldest_in, is_open_hold, is_next, queue_of}
use Rattle.gen_core.specs.Good.{IsBefore}
use Rattle.gen_core.specs.declared.views.Pending.{Pending}

-- what holds of each holds of the newest, and of the oldest
pub at_newest : (P : OpenHold → Type 0) (older : List OpenHold) (newest : OpenHold) → All P (older ++ newest ∷ []) → P newest
at_newest P [] newest all = all 0 newest (omega arith)
at_newest P (e ∷ es) newest all = at_newest P es newest (λ k d lt. all (suc k) d (omega arith))

pub at_oldest : (P : OpenHold → Type 0) (older : List OpenHold) (newest : OpenHold) → All P (older ++ newest ∷ []) → P (oldest_in older newest)
at_oldest P [] newest all = all 0 newest (omega arith)
at_oldest P (e ∷ es) newest all = all 0 e (omega arith)

pub oldest-push : (older : List OpenHold) (newest e : OpenHold) → oldest_in (older ++ newest ∷ []) e ≡ oldest_in older newest
oldest-push [] newest e = refl
oldest-push (x ∷ xs) newest e = refl

-- the newest generation is the highest
pub newest-most : (older : List OpenHold) (newest : OpenHold) → AllPairs IsBefore (older ++ newest ∷ []) → All (λ e. e.generation ≤ newest.generation) (older ++ newest ∷ [])
newest-most [] newest rising zero d lt = omega arith
newest-most [] newest rising (suc k) d lt = absurd (omega arith)
newest-most (e ∷ es) newest rising zero d lt =
    let less = at_newest (λ x. e.generation < x.generation) es newest (λ j d lt. (rising zero (suc j) d (omega arith) (omega arith)).generation) in
    omega arith
newest-most (e ∷ es) newest rising (suc k) d lt = newest-most es newest (λ i j d less more. rising (suc i) (suc j) d (omega arith) (omega arith)) k d (omega arith)

-- the oldest generation is the lowest, and so is its first commit
pub oldest-least : (older : List OpenHold) (newest : OpenHold) → AllPairs IsBefore (older ++ newest ∷ []) → All (λ e. (oldest_in older newest).generation ≤ e.generation) (older ++ newest ∷ [])
oldest-least [] newest rising zero d lt = omega arith
oldest-least [] newest rising (suc k) d lt = absurd (omega arith)
oldest-least (e ∷ es) newest rising zero d lt = omega arith
oldest-least (e ∷ es) newest rising (suc k) d lt = let before = (rising zero (suc k) d (omega arith) lt).generation in omega arith

pub commits-least : (older : List OpenHold) (newest : OpenHold) → AllPairs IsBefore (older ++ newest ∷ []) → All (λ e. (oldest_in older newest).first_commit ≤ e.first_commit) (older ++ newest ∷ [])
commits-least [] newest rising zero d lt = omega arith
commits-least [] newest rising (suc k) d lt = absurd (omega arith)
commits-least (e ∷ es) newest rising zero d lt = omega arith
commits-least (e ∷ es) newest rising (suc k) d lt = (rising zero (suc k) d (omega arith) lt).first_commit

-- whether some hold of a list is this one
pub any-none : (xs : List OpenHold) (h : ℕ) → All (λ e. e.hold ≢ h) xs → list_any (λ e. nat_eq e.hold h) xs ≡ false
any-none [] h all = refl
any-none (e ∷ es) h all = ap (λ t. t || list_any (λ x. nat_eq x.hold h) es) (ne_eqb e.hold h (all 0 e (omega arith))) ∙ any-none es h (λ k d lt. all (suc k) d (omega arith))

or-assoc : (a b c : Bool) → (a || (b || c)) ≡ ((a || b) || c)
or-assoc true b c = refl
or-assoc false b c = refl

pub or-false : (a : Bool) → (a || false) ≡ a
or-false true = refl
or-false false = refl

pub or-left : (a b : Bool) → IsTrue a → IsTrue (a || b)
or-left true b t = t
or-left false b t = absurd (true≢false (sym t))

pub or-right : (a b : Bool) → b ≡ true → (a || b) ≡ true
or-right true b h = refl
or-right false b h = h

pub any-push : (xs : List OpenHold) (x : OpenHold) (h : ℕ) → list_any (λ e. nat_eq e.hold h) (xs ++ x ∷ []) ≡ (list_any (λ e. nat_eq e.hold h) xs || nat_eq x.hold h)
any-push [] x h = or-false (nat_eq x.hold h)
any-push (e ∷ es) x h = ap (λ t. nat_eq e.hold h || t) (any-push es x h) ∙ or-assoc (nat_eq e.hold h) _ _

-- the newest hold is open
pub newest-open : (queue : Queue) → is_open_hold queue queue.newest.hold ≡ true
newest-open queue = ap (λ t. t || is_next queue.pending queue.newest.hold)
    (any-push queue.older queue.newest queue.newest.hold ∙ or-right _ _ (eq-eqb queue.newest.hold queue.newest.hold refl))

-- where each hold of this number has something below c, so has each that there is
pub any-first : (xs : List OpenHold) (h f c : ℕ) → All (λ e. e.hold ≡ h → e.first_commit ≤ c) xs → All (λ e. f ≤ e.first_commit) xs → IsTrue (list_any (λ e. nat_eq e.hold h) xs) → f ≤ c
any-first [] h f c each low t = absurd (true≢false (sym t))
any-first (e ∷ es) h f c each low t = by_test (any-first es h f c (λ k d lt. each (suc k) d (omega arith)) (λ k d lt. low (suc k) d (omega arith))) (nat_eq e.hold h) refl t
  where
    by_test : (IsTrue (list_any (λ x. nat_eq x.hold h) es) → f ≤ c) → (u : Bool) → nat_eq e.hold h ≡ u → IsTrue (u || list_any (λ x. nat_eq x.hold h) es) → f ≤ c
    by_test later true is o = let a = each 0 e (omega arith) (eqb-true e.hold h is) in let b = low 0 e (omega arith) in omega arith
    by_test later false is o = later o

-- the first commit of the oldest hold does not fall where the oldest is closed, or the newest begins later
pub oldest-rises : (e : OpenHold) (es : List OpenHold) (newest : OpenHold) → AllPairs IsBefore (e ∷ (es ++ newest ∷ [])) → e.first_commit ≤ (oldest_in es newest).first_commit
oldest-rises e es newest rising = (at_oldest (λ x. IsBefore e x) es newest (λ k d lt. rising 0 (suc k) d (omega arith) (omega arith))).first_commit

pub oldest-replaced : (older : List OpenHold) (newest e : OpenHold) → newest.first_commit ≤ e.first_commit → (oldest_in older newest).first_commit ≤ (oldest_in older e).first_commit
oldest-replaced [] newest e up = up
oldest-replaced (x ∷ xs) newest e up = omega arith

-- the oldest of several is open
pub first-open : (e : OpenHold) (es : List OpenHold) (newest : OpenHold) (pending : Pending) → is_open_hold (queue_of (e ∷ es) newest pending) e.hold ≡ true
first-open e es newest pending = ap (λ t. (t || list_any (λ x. nat_eq x.hold e.hold) (es ++ newest ∷ [])) || is_next pending e.hold) (eq-eqb e.hold e.hold refl)

pub oldest-open : (older : List OpenHold) (newest : OpenHold) (pending : Pending) → is_open_hold (queue_of older newest pending) (oldest_in older newest).hold ≡ true
oldest-open [] newest pending = newest-open (queue_of [] newest pending)
oldest-open (e ∷ es) newest pending = first-open e es newest pending
