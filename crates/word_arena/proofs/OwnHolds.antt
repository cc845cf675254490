-- The writer's own queue of holds, beside the queue of its view.
use Rattle.std.proofs.Common.{◌≡◌, ◌≢◌, ℕ, zero, suc, ◌+◌, ◌<◌, Bool, true, false, List, [], ◌∷◌, ◌++◌, length, map, refl, sym, ap, ◌∙◌, arith, ne_eqb, eq-eqb, true≢false, ◌||◌}
use mathlib.Core.List.{map-append}
use Rattle.std.specs.Prelude.{All, nat_eq}
use Rattle.std.proofs.lemmas.List.{length-map, length_push}
use Rattle.generation_handler.specs.Queues.{oldest_of, newest_of, renewed, has_hold}
use Rattle.generation_handler.proofs.QueueLemmas.{newest_of-append, renewed-append}
use Rattle.generation_handler.specs.declared.HoldEntry.{HoldEntry}
use Rattle.gen_core.specs.declared.views.OpenHold.{OpenHold}
use Rattle.gen_core.specs.declared.views.Queue.{Queue}
use Rattle.gen_core.specs.Views.{open_holds, oldest_in}
use Rattle.word_arena.specs.Knows.{own_hold}

-- its newest is the view's
pub own-newest : (queue : Queue) (holds : List HoldEntry) → map own_hold (open_holds queue) ≡ holds → newest_of holds ≡ own_hold queue.newest
own-newest queue holds is = ap newest_of (sym is ∙ map-append own_hold queue.older (queue.newest ∷ [])) ∙ newest_of-append (map own_hold queue.older) (own_hold queue.newest)

-- and its oldest
pub oldest-own : (older : List OpenHold) (newest : OpenHold) → oldest_of (map own_hold (older ++ newest ∷ [])) ≡ own_hold (oldest_in older newest)
oldest-own [] newest = refl
oldest-own (x ∷ xs) newest = refl

pub own-oldest : (queue : Queue) (holds : List HoldEntry) → map own_hold (open_holds queue) ≡ holds → oldest_of holds ≡ own_hold (oldest_in queue.older queue.newest)
own-oldest queue holds is = ap oldest_of (sym is) ∙ oldest-own queue.older queue.newest

-- with another generation and commit of its newest
pub own-renewed : (queue : Queue) (holds : List HoldEntry) → map own_hold (open_holds queue) ≡ holds → (g c : ℕ)
    → renewed holds g c ≡ map own_hold (queue.older ++ record { generation = g; hold = queue.newest.hold; first_commit = c } ∷ [])
own-renewed queue holds is g c =
    let e : OpenHold = record { generation = g; hold = queue.newest.hold; first_commit = c } in
    ap (λ l. renewed l g c) (sym is ∙ map-append own_hold queue.older (queue.newest ∷ []))
    ∙ renewed-append (map own_hold queue.older) (own_hold queue.newest) g c ∙ sym (map-append own_hold queue.older (e ∷ []))

-- a hold that none of the view's is is closed
pub own-closed : (xs : List OpenHold) (h : ℕ) → All (λ e. e.hold ≢ h) xs → has_hold (map own_hold xs) h ≡ false
own-closed [] h all = refl
own-closed (x ∷ xs) h all = ap (λ t. t || has_hold (map own_hold xs) h) (ne_eqb x.hold h (all 0 x (omega arith))) ∙ own-closed xs h (λ k d lt. all (suc k) d (omega arith))

-- and the other way round
pub closed-apart : (xs : List OpenHold) (h : ℕ) → has_hold (map own_hold xs) h ≡ false → All (λ e. e.hold ≢ h) xs
closed-apart [] h is k d lt same = omega arith
closed-apart (x ∷ xs) h is zero d lt same = true≢false (sym (ap (λ t. t || has_hold (map own_hold xs) h) (eq-eqb x.hold h same)) ∙ is)
closed-apart (x ∷ xs) h is (suc k) d lt same = closed-apart xs h (neither (nat_eq x.hold h) (has_hold (map own_hold xs) h) is) k d (omega arith) same
  where
    neither : (a b : Bool) → (a || b) ≡ false → b ≡ false
    neither true b e = absurd (true≢false e)
    neither false b e = e

pub own-length : (queue : Queue) (holds : List HoldEntry) → map own_hold (open_holds queue) ≡ holds → length holds ≡ length queue.older + 1
own-length queue holds is = ap length (sym is) ∙ length-map (open_holds queue) own_hold ∙ length_push queue.older queue.newest

-- an older one is there where it has two
pub own-older : (older : List OpenHold) → 0 < length older → (e : OpenHold) × (es : List OpenHold) × (older ≡ e ∷ es)
own-older [] some = absurd (omega arith)
own-older (e ∷ es) some = (e, es, refl)

-- without its oldest
pub own-popped : (e : HoldEntry) (xs ys : List HoldEntry) (d : HoldEntry) → d ∷ xs ≡ e ∷ ys → xs ≡ ys
own-popped e xs ys d same = cc
