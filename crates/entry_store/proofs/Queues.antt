-- Open holds: their generations, and which commits readers on them can have.
use Rattle.std.proofs.Common.{◌≡◌, ℕ, zero, suc, ◌<◌, ◌≤◌, Bool, true, false, List, [], ◌∷◌, ◌++◌, length, drop, refl, arith, inl, inr, not, ltb, leb}
use Rattle.std.specs.Prelude.{◌||◌}
use Rattle.std.specs.List.{AllByRecursion}
use Rattle.std.proofs.lemmas.Bool.{true≢false, false≢true, cases_Bool, ltb-true, leb-true, lt-ltb, le-leb, and_parts, and_from}
use Rattle.arena_api.specs.Works.{Hold, Tag, oldest_of, newest_of}
use Rattle.arena_api.specs.Generations.{IsBefore, AreInOrder, with_newest}
use Rattle.store_api.specs.Ledgers.{is_later, all_later}

pub newest-drop : (closed : ℕ) (queue : List Hold) → closed < length queue → newest_of (drop closed queue) ≡ newest_of queue
newest-drop zero queue left = refl
newest-drop (suc closed) [] left = absurd (omega arith)
newest-drop (suc closed) (h ∷ []) left = absurd (omega arith)
newest-drop (suc closed) (h ∷ g ∷ hs) left = newest-drop closed (g ∷ hs) (omega arith)

pub newest-with : (queue : List Hold) (new : Hold) → newest_of (with_newest queue new) ≡ new
newest-with [] new = refl
newest-with (h ∷ []) new = refl
newest-with (h ∷ g ∷ []) new = refl
newest-with (h ∷ g ∷ i ∷ hs) new = newest-with (g ∷ i ∷ hs) new

pub newest-append : (queue : List Hold) (new : Hold) → newest_of (queue ++ new ∷ []) ≡ new
newest-append [] new = refl
newest-append (h ∷ []) new = refl
newest-append (h ∷ g ∷ hs) new = newest-append (g ∷ hs) new

pub oldest-append : (queue : List Hold) (new : Hold) → 0 < length queue → oldest_of (queue ++ new ∷ []) ≡ oldest_of queue
oldest-append [] new some = absurd (omega arith)
oldest-append (h ∷ hs) new some = refl

pub only-newest : (queue : List Hold) → length queue ≡ 1 → oldest_of queue ≡ newest_of queue
only-newest [] one = absurd (omega arith)
only-newest (h ∷ []) one = refl
only-newest (h ∷ g ∷ hs) one = absurd (omega arith)

-- generations rise from the oldest to the newest
before-newest : (h : Hold) (hs : List Hold) → AllByRecursion (IsBefore h) hs → 0 < length hs → h.generation < (newest_of hs).generation
before-newest h [] all some = absurd (omega arith)
before-newest h (g ∷ []) all some = all.0.generation
before-newest h (g ∷ i ∷ hs) all some = before-newest h (i ∷ hs) all.1 (omega arith)

pub oldest-below : (queue : List Hold) → AreInOrder queue → (oldest_of queue).generation ≤ (newest_of queue).generation
oldest-below [] order = omega arith
oldest-below (h ∷ []) order = omega arith
oldest-below (h ∷ g ∷ hs) order = let more = before-newest h (g ∷ hs) order.0 (omega arith) in omega arith

pub order-drop : (closed : ℕ) (queue : List Hold) → AreInOrder queue → AreInOrder (drop closed queue)
order-drop zero queue order = order
order-drop (suc closed) [] order = tt
order-drop (suc closed) (h ∷ hs) order = order-drop closed hs order.1

oldest-among : (h : Hold) (hs : List Hold) (closed : ℕ) → AllByRecursion (IsBefore h) hs → closed < length hs → h.generation ≤ (oldest_of (drop closed hs)).generation
oldest-among h [] closed all left = absurd (omega arith)
oldest-among h (g ∷ hs) zero all left = let more = all.0.generation in omega arith
oldest-among h (g ∷ hs) (suc closed) all left = oldest-among h hs closed all.1 (omega arith)

-- closing the oldest holds lets the oldest rise
pub oldest-rises : (closed : ℕ) (queue : List Hold) → AreInOrder queue → closed < length queue → (oldest_of queue).generation ≤ (oldest_of (drop closed queue)).generation
oldest-rises zero queue order left = omega arith
oldest-rises (suc closed) [] order left = absurd (omega arith)
oldest-rises (suc closed) (h ∷ hs) order left = oldest-among h hs closed order.0 (omega arith)

-- a tag's commits
pub later-drop : (tag : Tag) (closed : ℕ) (queue : List Hold) → all_later tag queue ≡ true → all_later tag (drop closed queue) ≡ true
later-drop tag zero queue all = all
later-drop tag (suc closed) [] all = refl
later-drop tag (suc closed) (h ∷ hs) all = later-drop tag closed hs (and_parts (is_later tag h) (all_later tag hs) all).1

pub later-append : (tag : Tag) (queue : List Hold) (new : Hold) → all_later tag queue ≡ true → is_later tag new ≡ true → all_later tag (queue ++ new ∷ []) ≡ true
later-append tag [] new all here = and_from (is_later tag new) true here refl
later-append tag (h ∷ hs) new all here =
    let both = and_parts (is_later tag h) (all_later tag hs) all in
    and_from (is_later tag h) (all_later tag (hs ++ new ∷ [])) both.0 (later-append tag hs new both.1 here)

pub later-with : (tag : Tag) (queue : List Hold) (new : Hold) → all_later tag queue ≡ true → is_later tag new ≡ true → all_later tag (with_newest queue new) ≡ true
later-with tag [] new all here = and_from (is_later tag new) true here refl
later-with tag (h ∷ []) new all here = and_from (is_later tag new) true here refl
later-with tag (h ∷ g ∷ hs) new all here =
    let both = and_parts (is_later tag h) (all_later tag (g ∷ hs)) all in
    and_from (is_later tag h) (all_later tag (with_newest (g ∷ hs) new)) both.0 (later-with tag (g ∷ hs) new both.1 here)

or-from : (a b : Bool) → b ≡ true → (a || b) ≡ true
or-from true b h = refl
or-from false b h = h

or-not : (a b : Bool) → a ≡ false → (not a || b) ≡ true
or-not true b h = absurd (true≢false h)
or-not false b h = refl

pub later-from : (tag : Tag) (h : Hold) → tag.commit ≤ h.first → is_later tag h ≡ true
later-from tag h low = or-from _ _ (le-leb tag.commit h.first low)

not-below : (a b : ℕ) → b ≤ a → ltb a b ≡ false
not-below a b low = elim (cases_Bool (ltb a b)) [
  | inl e ↦ absurd (omega (arith, low, ltb-true a b e))
  | inr e ↦ e
]

-- a tag at or after all generations
pub later-now : (tag : Tag) (queue : List Hold) → AreInOrder queue → (newest_of queue).generation ≤ tag.generation → all_later tag queue ≡ true
later-now tag [] order low = refl
later-now tag (h ∷ []) order low = and_from (is_later tag h) true (or-not _ _ (not-below tag.generation h.generation low)) refl
later-now tag (h ∷ g ∷ hs) order low =
    let more = before-newest h (g ∷ hs) order.0 (omega arith) in
    and_from (is_later tag h) (all_later tag (g ∷ hs)) (or-not _ _ (not-below tag.generation h.generation (omega arith))) (later-now tag (g ∷ hs) order.1 low)

or-holds : (a b : Bool) → a ≡ true → (not a || b) ≡ true → b ≡ true
or-holds true b e h = h
or-holds false b e h = absurd (false≢true e)

-- a reader on the oldest hold, if that is of a later generation
pub later-oldest : (tag : Tag) (queue : List Hold) → 0 < length queue → all_later tag queue ≡ true → tag.generation < (oldest_of queue).generation → tag.commit ≤ (oldest_of queue).first
later-oldest tag [] some all below = absurd (omega arith)
later-oldest tag (h ∷ hs) some all below =
    leb-true tag.commit h.first (or-holds (ltb tag.generation h.generation) (leb tag.commit h.first) (lt-ltb tag.generation h.generation below) (and_parts (is_later tag h) (all_later tag hs) all).0)
