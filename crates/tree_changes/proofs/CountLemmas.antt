-- Slots that come into rows, and the budgets that they fit.
use Rattle.std.proofs.Common.{◌≡◌, ℕ, zero, suc, ◌+◌, ◌*◌, ◌<◌, ◌≤◌, List, [], ◌∷◌, ◌++◌, length, refl, sym, ap, subst, ◌∙◌, arith, drop}
use Rattle.frozen_btree.specs.Builds.{groups}
use Rattle.frozen_btree.specs.declared.rows.Row.{Row}
use Rattle.tree_changes.specs.Counts.{slots_of, slots_in, Fills, Sinks, Grows, Lengthened, Gains, FitsBudget, FitBudgets, all_of, last_of, first_slots}

pub sinks-same : (rows : List Row) → Sinks rows rows
sinks-same [] = tt
sinks-same (row ∷ rows) = (record { most = omega arith; alone = omega arith }, sinks-same rows)

pub sinks-none : (a b : List Row) → Sinks a b → slots_in a ≡ 0 → slots_in b ≡ 0
sinks-none [] [] sinks none = refl
sinks-none [] (q ∷ b) sinks none = absurd sinks
sinks-none (p ∷ a) [] sinks none = absurd sinks
sinks-none (p ∷ a) (q ∷ b) sinks none =
    let rest = sinks-none a b sinks.1 (omega arith) in
    let one = sinks.0.alone in
    omega arith

fills-then : (n above m above2 o s1 g s2 k : ℕ) → s1 ≤ g → Fills 15 n above (m + s1) g → Fills 15 m above2 (o + s2) (s1 + k) → (above ≡ 0 → above2 ≡ 0) → Fills 15 n above (o + s2) (g + k)
fills-then n zero m above2 o s1 g s2 k low x y none =
    let z = none refl in
    let a = x.most in let b = x.alone in let d = y.most in let e = y.alone in
    record { most = omega arith; alone = omega arith }
fills-then n (suc above) m above2 o s1 g s2 k low x y none =
    let a = x.most in let d = y.most in
    record { most = omega arith; alone = omega arith }

fills-twice : (n above m above2 o : ℕ) → Fills 15 n above m 0 → Fills 15 m above2 o 0 → (above ≡ 0 → above2 ≡ 0) → Fills 15 n above o 0
fills-twice n zero m above2 o x y none =
    let z = none refl in
    let a = x.most in let b = x.alone in let d = y.most in let e = y.alone in
    record { most = omega arith; alone = omega arith }
fills-twice n (suc above) m above2 o x y none =
    let a = x.most in let d = y.most in
    record { most = omega arith; alone = omega arith }

sinks-then : (a b c : List Row) → Sinks a b → Sinks b c → Sinks a c
sinks-then [] [] [] x y = tt
sinks-then [] [] (r ∷ c) x y = absurd y
sinks-then [] (q ∷ b) c x y = absurd x
sinks-then (p ∷ a) [] c x y = absurd x
sinks-then (p ∷ a) (q ∷ b) [] x y = absurd y
sinks-then (p ∷ a) (q ∷ b) (r ∷ c) x y = (fills-twice _ _ _ _ _ x.0 y.0 (sinks-none a b x.1), sinks-then a b c x.1 y.1)

pub grows-then : (s1 g s2 k : ℕ) (a b c : List Row) → s1 ≤ g → Grows s1 g a b → Grows s2 (s1 + k) b c → Grows s2 (g + k) a c
grows-then s1 g s2 k [] [] [] low x y = tt
grows-then s1 g s2 k [] [] (r ∷ c) low x y = absurd y
grows-then s1 g s2 k [] (q ∷ b) c low x y = absurd x
grows-then s1 g s2 k (p ∷ a) [] c low x y = absurd x
grows-then s1 g s2 k (p ∷ a) (q ∷ b) [] low x y = absurd y
grows-then s1 g s2 k (p ∷ a) (q ∷ b) (r ∷ c) low x y =
    (fills-then _ _ (slots_of q) _ (slots_of r) s1 g s2 k low x.0 y.0 (sinks-none a b x.1), sinks-then a b c x.1 y.1)

-- what sinks grows by nothing, or by what is left of a gain
pub sinks-grow : (spent gain : ℕ) (a b : List Row) → spent ≤ gain → Sinks a b → Grows spent gain a b
sinks-grow spent gain [] [] low x = tt
sinks-grow spent gain [] (q ∷ b) low x = absurd x
sinks-grow spent gain (p ∷ a) [] low x = absurd x
sinks-grow spent gain (p ∷ a) (q ∷ b) low x =
    let one = x.0.most in let two = x.0.alone in
    (record { most = omega arith; alone = omega arith }, x.1)

sinks-drop : (k : ℕ) (a b : List Row) → Sinks a b → Sinks (drop k a) (drop k b)
sinks-drop zero a b x = x
sinks-drop (suc k) [] [] x = tt
sinks-drop (suc k) [] (q ∷ b) x = absurd x
sinks-drop (suc k) (p ∷ a) [] x = absurd x
sinks-drop (suc k) (p ∷ a) (q ∷ b) x = sinks-drop k a b x.1

drop-next : (k : ℕ) (xs : List Row) → drop 1 (drop k xs) ≡ drop (suc k) xs
drop-next zero xs = refl
drop-next (suc k) [] = refl
drop-next (suc k) (x ∷ xs) = drop-next k xs

grows-rest : (spent gain : ℕ) (a b : List Row) → Grows spent gain a b → Sinks (drop 1 a) (drop 1 b)
grows-rest spent gain [] [] x = tt
grows-rest spent gain [] (q ∷ b) x = absurd x
grows-rest spent gain (p ∷ a) [] x = absurd x
grows-rest spent gain (p ∷ a) (q ∷ b) x = x.1

-- the rows above the one that grows
pub grows-above : (spent gain k : ℕ) (a b : List Row) → Grows spent gain (drop k a) (drop k b) → Sinks (drop (suc k) a) (drop (suc k) b)
grows-above spent gain k a b x =
    subst (λ l. Sinks l (drop (suc k) b)) (drop-next k a) (subst (λ l. Sinks (drop 1 (drop k a)) l) (drop-next k b) (grows-rest spent gain (drop k a) (drop k b) x))

-- a row that stays within its budget
fit-sunk : (below : ℕ) (budgets : List ℕ) (a b : List Row) → 0 < below → FitBudgets below budgets a → Sinks a b → FitBudgets below budgets b
fit-sunk below [] a b some fit x = tt
fit-sunk below (budget ∷ budgets) [] b some fit x = absurd fit
fit-sunk below (budget ∷ budgets) (p ∷ a) [] some fit x = absurd x
fit-sunk below (budget ∷ budgets) (p ∷ a) (q ∷ b) some fit x =
    let rises = fit.0.rises in let paid = fit.0.paid in let most = fit.0.most in let sunk = x.0.most in
    (record { rises = rises; paid = omega arith; most = omega arith }, fit-sunk budget budgets a b (omega arith) fit.1 x.1)

-- the first row became at most two nodes a change
pub first-made : (budget slots above after : ℕ) → FitsBudget 0 budget slots → Lengthened slots above after → groups after ≤ 2 * budget
first-made budget slots above after fit x =
    let paid = fit.paid in let most = x.most in let none = x.none in
    omega arith

-- the budgets of the rows above, once the first row became nodes
pub fit-gained : (budget : ℕ) (budgets : List ℕ) (a b c : List Row) (made : ℕ) → made ≤ 2 * budget → FitBudgets budget budgets a → Sinks a b → (budget ≡ 0 → b ≡ a) → Gains made b c → FitBudgets 0 budgets c
fit-gained budget [] a b c made low fit x still gains = tt
fit-gained budget (up ∷ budgets) [] b c made low fit x still gains = absurd fit
fit-gained budget (up ∷ budgets) (p ∷ a) [] c made low fit x still gains = absurd x
fit-gained budget (up ∷ budgets) (p ∷ a) (q ∷ b) [] made low fit x still gains = absurd gains
fit-gained zero (up ∷ budgets) (p ∷ a) (q ∷ b) (r ∷ c) made low fit x still gains =
    let same = still refl in
    let paid = fit.0.paid in let most = fit.0.most in let rises = fit.0.rises in
    let first : slots_of q ≡ slots_of p = ap first_slots same in
    let gained = gains.0 in
    let rest : c ≡ a = gains.1 ∙ ap (drop 1) same in
    (record { rises = omega arith; paid = omega arith; most = omega arith }, subst (FitBudgets up budgets) (sym rest) fit.1)
fit-gained (suc budget) (up ∷ budgets) (p ∷ a) (q ∷ b) (r ∷ c) made low fit x still gains =
    let paid = fit.0.paid in let most = fit.0.most in let rises = fit.0.rises in let sunk = x.0.most in let gained = gains.0 in (
      record { rises = omega arith; paid = omega arith; most = omega arith },
      subst (FitBudgets up budgets) (sym gains.1) (fit-sunk up budgets a b (omega arith) fit.1 x.1),
    )

-- what the row behind those with budgets gained
abbrev pub gained : (budget : ℕ) (budgets : List ℕ) → ℕ
gained budget [] = 2 * budget
gained budget (up ∷ budgets) = 0

pub grows-gained : (budget : ℕ) (budgets : List ℕ) (a b c : List Row) (made : ℕ) → made ≤ 2 * budget → Sinks a b → Gains made b c
    → Grows 0 (gained budget budgets) (drop (length budgets) a) (drop (length budgets) c)
grows-gained budget [] [] [] [] made low x gains = tt
grows-gained budget [] [] [] (r ∷ c) made low x gains = absurd gains
grows-gained budget [] [] (q ∷ b) c made low x gains = absurd x
grows-gained budget [] (p ∷ a) [] c made low x gains = absurd x
grows-gained budget [] (p ∷ a) (q ∷ b) [] made low x gains = absurd gains
grows-gained budget [] (p ∷ a) (q ∷ b) (r ∷ c) made low x gains =
    let most = x.0.most in let alone = x.0.alone in let one = gains.0 in
    (record { most = omega arith; alone = omega arith }, subst (Sinks a) (sym gains.1) x.1)
grows-gained budget (up ∷ budgets) [] [] [] made low x gains = tt
grows-gained budget (up ∷ budgets) [] [] (r ∷ c) made low x gains = absurd gains
grows-gained budget (up ∷ budgets) [] (q ∷ b) c made low x gains = absurd x
grows-gained budget (up ∷ budgets) (p ∷ a) [] c made low x gains = absurd x
grows-gained budget (up ∷ budgets) (p ∷ a) (q ∷ b) [] made low x gains = absurd gains
grows-gained budget (up ∷ budgets) (p ∷ a) (q ∷ b) (r ∷ c) made low x gains =
    sinks-grow 0 0 (drop (length budgets) a) (drop (length budgets) c) (omega arith)
    (subst (λ l. Sinks (drop (length budgets) a) (drop (length budgets) l)) (sym gains.1) (sinks-drop (length budgets) a b x.1))

pub gained-last : (budget : ℕ) (budgets : List ℕ) → gained budget budgets + 2 * last_of 0 budgets ≡ 2 * last_of budget budgets
gained-last budget [] = omega arith
gained-last budget (up ∷ budgets) = omega arith

-- all budgets but the last
abbrev pub front_of : List ℕ → List ℕ
front_of [] = []
front_of (budget ∷ []) = []
front_of (budget ∷ next ∷ budgets) = budget ∷ front_of (next ∷ budgets)

pub front-size : (budgets : List ℕ) → 0 < length budgets → suc (length (front_of budgets)) ≡ length budgets
front-size [] some = absurd (omega arith)
front-size (budget ∷ []) some = refl
front-size (budget ∷ next ∷ budgets) some = ap suc (front-size (next ∷ budgets) (omega arith))

pub front-all : (below : ℕ) (budgets : List ℕ) → 0 < length budgets → all_of (front_of budgets) + last_of below budgets ≡ all_of budgets
front-all below [] some = absurd (omega arith)
front-all below (budget ∷ []) some = omega arith
front-all below (budget ∷ next ∷ budgets) some = let rest = front-all budget (next ∷ budgets) (omega arith) in omega arith

pub fit-front : (below : ℕ) (budgets : List ℕ) (rows : List Row) → FitBudgets below budgets rows → FitBudgets below (front_of budgets) rows
fit-front below [] rows fit = tt
fit-front below (budget ∷ []) rows fit = tt
fit-front below (budget ∷ next ∷ budgets) [] fit = absurd fit
fit-front below (budget ∷ next ∷ budgets) (row ∷ rows) fit = (fit.0, fit-front budget (next ∷ budgets) rows fit.1)

-- the first of these rows fits a budget
abbrev pub FitsFirst : ℕ → ℕ → List Row → Type 0
FitsFirst below budget [] = ⊥
FitsFirst below budget (row ∷ rows) = FitsBudget below budget (slots_of row)

pub fit-last : (below : ℕ) (budgets : List ℕ) (rows : List Row) → 0 < length budgets → FitBudgets below budgets rows
    → FitsFirst (last_of below (front_of budgets)) (last_of below budgets) (drop (length (front_of budgets)) rows)
fit-last below [] rows some fit = absurd (omega arith)
fit-last below (budget ∷ budgets) [] some fit = absurd fit
fit-last below (budget ∷ []) (row ∷ rows) some fit = fit.0
fit-last below (budget ∷ next ∷ budgets) (row ∷ rows) some fit = fit-last budget (next ∷ budgets) rows (omega arith) fit.1

pub fit-more : (below : ℕ) (budgets : List ℕ) (last : ℕ) (rows : List Row) → FitBudgets below budgets rows → FitsFirst (last_of below budgets) last (drop (length budgets) rows)
    → FitBudgets below (budgets ++ last ∷ []) rows
fit-more below [] last [] fit one = absurd one
fit-more below [] last (row ∷ rows) fit one = (one, tt)
fit-more below (budget ∷ budgets) last [] fit one = absurd fit
fit-more below (budget ∷ budgets) last (row ∷ rows) fit one = (fit.0, fit-more budget budgets last rows fit.1 one)

pub last-more : (below : ℕ) (budgets : List ℕ) (last : ℕ) → last_of below (budgets ++ last ∷ []) ≡ last
last-more below [] last = refl
last-more below (budget ∷ budgets) last = last-more budget budgets last

pub all-more : (budgets : List ℕ) (last : ℕ) → all_of (budgets ++ last ∷ []) ≡ all_of budgets + last
all-more [] last = omega arith
all-more (budget ∷ budgets) last = let rest = all-more budgets last in omega arith
