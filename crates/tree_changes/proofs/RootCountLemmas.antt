-- The nodes of all rows, and of the whole list of changes.
use Rattle.std.proofs.Common.{set, get_or, ◌≡◌, inl, inr, ◌⊎◌, ℕ, zero, suc, ◌+◌, ◌-◌, ◌*◌, ◌<◌, ◌≤◌, List, [], ◌∷◌, cond, length, false, nat_lt, refl, sym, ap, subst, arith, drop}
use Rattle.std.proofs.lemmas.Bool.{lt-ltb}
use Rattle.store_api.specs.Ledgers.{Ledger}
use Rattle.store_api.specs.Units.{MayDo}
use Rattle.frozen_nodes.specs.Makes.{CountsNodes}
use Rattle.frozen_nodes.proofs.MakesLemmas.{counts-then}
use Rattle.entry_ref.specs.Records.{Records}
use Rattle.frozen_btree.specs.Builds.{groups, nodes_above}
use Rattle.frozen_btree.specs.Changes.{levels}
use Rattle.frozen_btree.specs.declared.rows.Row.{Row}
use Rattle.tree_read.specs.Trees.{root_level}
use Rattle.tree_changes.specs.Layers.{AreEmpty}
use Rattle.tree_changes.specs.Counts.{slots_of, slots_in, Grows, LengthensFirst, Gains, FitBudgets, all_of, last_of, first_slots, no_budgets, SpendsBelow}
use Rattle.tree_changes.proofs.CountLemmas.{sinks-none, first-made, fit-gained, grows-gained}
use Rattle.tree_changes.proofs.SpendLemmas.{empty-slots}

-- how many nodes stand above slots
few-nodes : (levels n : ℕ) → n ≤ 16 → nodes_above levels n ≤ 1
few-nodes zero n few = omega arith
few-nodes (suc levels) n few = subst (λ b. cond b (groups n + nodes_above levels (groups n)) 1 ≤ 1) (sym (not-above n few)) (omega arith)
  where
    not-above : (n : ℕ) → n ≤ 16 → nat_lt 16 n ≡ false
    not-above n few = grind arith

many-nodes : (levels n : ℕ) → 16 < n → nodes_above (suc levels) n ≡ groups n + nodes_above levels (groups n)
many-nodes levels n many = ap (λ b. cond b (groups n + nodes_above levels (groups n)) 1) (lt-ltb 16 n many)

split : (n : ℕ) → (n ≤ 16) ⊎ (16 < n)
split n = by (n - 16) refl
  where
    by : (k : ℕ) → k ≡ n - 16 → (n ≤ 16) ⊎ (16 < n)
    by zero is = inl (omega arith)
    by (suc k) is = inr (omega arith)

within-nodes : (levels n : ℕ) → nodes_above levels n ≤ n + (1 - n)
within-nodes zero n = omega arith
within-nodes (suc levels) n =
    let rest = within-nodes levels (groups n) in
    elim (split n) [
      | inl few ↦ (let one = few-nodes (suc levels) n few in omega arith)
      | inr many ↦ (let more = many-nodes levels n many in omega arith)
    ]

half-nodes : (levels n budget : ℕ) → n ≤ 2 * budget → 0 < budget → nodes_above levels n ≤ budget
half-nodes zero n budget low some = omega arith
half-nodes (suc levels) n budget low some =
    let rest = within-nodes levels (groups n) in
    elim (split n) [
      | inl few ↦ (let one = few-nodes (suc levels) n few in omega arith)
      | inr many ↦ (let more = many-nodes levels n many in omega arith)
    ]

paid-nodes : (levels n budget : ℕ) → n ≤ 32 * budget → 0 < budget → nodes_above levels n ≤ 3 * budget
paid-nodes zero n budget low some = omega arith
paid-nodes (suc levels) n budget low some =
    elim (split n) [
      | inl few ↦ (let one = few-nodes (suc levels) n few in omega arith)
      | inr many ↦ (let more = many-nodes levels n many in let rest = half-nodes levels (groups n) budget (omega arith) some in omega arith)
    ]

-- rows
last-rises : (below : ℕ) (budgets : List ℕ) (rows : List Row) → FitBudgets below budgets rows → below ≤ last_of below budgets
last-rises below [] rows fit = omega arith
last-rises below (budget ∷ budgets) [] fit = absurd fit
last-rises below (budget ∷ budgets) (row ∷ rows) fit = let one = fit.0.rises in let rest = last-rises budget budgets rows fit.1 in omega arith

grows-none : (a b : List Row) → Grows 0 0 a b → slots_in a ≡ 0 → slots_in b ≡ 0
grows-none [] [] x none = refl
grows-none [] (q ∷ b) x none = absurd x
grows-none (p ∷ a) [] x none = absurd x
grows-none (p ∷ a) (q ∷ b) x none = let rest = sinks-none a b x.1 (omega arith) in let one = x.0.alone in omega arith

slots-empty : (rows : List Row) → slots_in rows ≡ 0 → AreEmpty rows
slots-empty [] none = tt
slots-empty (row ∷ rows) none = (no-slots row.keys.items (omega arith), slots-empty rows (omega arith))
  where
    no-slots : (ks : List ℕ) → length ks ≡ 0 → ks ≡ []
    no-slots [] e = refl
    no-slots (x ∷ ks) e = absurd (omega arith)

-- the last row with slots, as a tree
pub built-counts : (levels : ℕ) (budgets : List ℕ) (rows : List Row) (row : Row) (above : List Row) → FitBudgets 0 budgets rows → 0 < last_of 0 budgets → LengthensFirst rows (row ∷ above)
    → nodes_above levels (slots_of row) ≤ 2 * all_of budgets + last_of 0 budgets
built-counts levels [] rows row above fit some x = absurd (omega arith)
built-counts levels (budget ∷ budgets) [] row above fit some x = absurd fit
built-counts levels (zero ∷ budgets) (p ∷ a) row above fit some x =
    let paid = fit.0.paid in let none = x.0.none in let one = few-nodes levels (slots_of row) (omega arith) in omega arith
built-counts levels (suc budget ∷ budgets) (p ∷ a) row above fit some x =
    let paid = fit.0.paid in let most = x.0.most in
    let nodes = paid-nodes levels (slots_of row) (suc budget) (omega arith) (omega arith) in
    let rises = last-rises (suc budget) budgets a fit.1 in
    omega arith

pub built-alone : (levels : ℕ) (rows : List Row) (row : Row) (above : List Row) → LengthensFirst rows (row ∷ above) → slots_in (drop 1 rows) ≡ 0
    → nodes_above levels (slots_of row) ≤ first_slots rows + (1 - first_slots rows)
built-alone levels [] row above x none = absurd x
built-alone levels (p ∷ a) row above x none = let nodes = within-nodes levels (slots_of row) in let alone = x.0.alone in omega arith

-- without slots above, there are none afterwards
pub alone-empty : (rows : List Row) (row : Row) (above : List Row) → LengthensFirst rows (row ∷ above) → slots_in (drop 1 rows) ≡ 0 → AreEmpty above
alone-empty [] row above x none = absurd x
alone-empty (p ∷ a) row above x none = slots-empty above (sinks-none a above x.1 none)

pub some-budget : (budgets : List ℕ) → 0 < last_of 0 budgets → 0 < length budgets
some-budget [] some = absurd (omega arith)
some-budget (budget ∷ budgets) some = omega arith

-- the pairs of the changes of no tree
pub leaf-alone : (rows : List Row) (row d : Row) (changes : ℕ) → AreEmpty rows → 0 < length rows → slots_of row ≤ slots_of (get_or rows 0 d) + changes
    → (first_slots (set rows 0 row) ≤ changes) × (slots_in (drop 1 (set rows 0 row)) ≡ 0)
leaf-alone [] row d changes empty some few = absurd (omega arith)
leaf-alone (p ∷ rows) row d changes empty some few = let none = ap length empty.0 in (omega arith, empty-slots rows empty.1)

module _ {H : Type 0} where
  -- the first row became nodes, and then the rows above became a tree
  pub raised-counts : (old mid new : Ledger H) (budgets : List ℕ) (rows : List Row) (row : Row) (above above2 : List Row) → FitBudgets 0 budgets rows
      → slots_in (drop (length budgets) rows) ≡ 0 → 0 < last_of 0 budgets → LengthensFirst rows (row ∷ above) → (first_slots rows ≡ 0 → row ∷ above ≡ rows) → (AreEmpty above → ⊥)
      → Gains (groups (slots_of row)) above above2 → CountsNodes old mid (groups (slots_of row)) → MayDo old mid
      → ((bs : List ℕ) → FitBudgets 0 bs above2 → slots_in (drop (length bs) above2) ≡ 0 → 0 < last_of 0 bs → CountsNodes mid new (2 * all_of bs + last_of 0 bs))
      → CountsNodes old new (2 * all_of budgets + last_of 0 budgets)
  raised-counts old mid new [] rows row above above2 fit none some x idle more gains counts may rest = absurd (omega arith)
  raised-counts old mid new (budget ∷ budgets) [] row above above2 fit none some x idle more gains counts may rest = absurd fit
  raised-counts old mid new (budget ∷ []) (p ∷ a) row above above2 fit none some x idle more gains counts may rest =
      absurd (more (slots-empty above (sinks-none a above x.1 none)))
  raised-counts old mid new (budget ∷ up ∷ budgets) (p ∷ a) row above above2 fit none some x idle more gains counts may rest =
      let made = groups (slots_of row) in
      let low = first-made budget (slots_of p) (slots_in a) (slots_of row) fit.0 x.0 in
      let paid = fit.0.paid in
      let still : budget ≡ 0 → above ≡ a = λ is. ap (drop 1) (idle (omega arith)) in
      let fit2 = fit-gained budget (up ∷ budgets) a above above2 made low fit.1 x.1 still gains in
      let none2 = grows-none _ _ (grows-gained budget (up ∷ budgets) a above above2 made low x.1 gains) none in
      counts-then old mid new made (2 * all_of (up ∷ budgets) + last_of 0 (up ∷ budgets)) _ (omega arith) may counts (rest (up ∷ budgets) fit2 none2 some)

pub no_budgets-size : (levels : ℕ) → length (no_budgets levels) ≡ levels
no_budgets-size zero = refl
no_budgets-size (suc levels) = ap suc (no_budgets-size levels)

pub no_budgets-all : (levels : ℕ) → all_of (no_budgets levels) ≡ 0
no_budgets-all zero = refl
no_budgets-all (suc levels) = let rest = no_budgets-all levels in omega arith

no_budgets-last : (levels : ℕ) → last_of 0 (no_budgets levels) ≡ 0
no_budgets-last zero = refl
no_budgets-last (suc levels) = no_budgets-last levels

pub no_budgets-fit : (levels : ℕ) (rows : List Row) → levels ≤ length rows → AreEmpty rows → FitBudgets 0 (no_budgets levels) rows
no_budgets-fit zero rows low empty = tt
no_budgets-fit (suc levels) [] low empty = absurd (omega arith)
no_budgets-fit (suc levels) (row ∷ rows) low empty =
    let one = ap length empty.0 in
    (record { rises = omega arith; paid = omega arith; most = omega arith }, no_budgets-fit levels rows (omega arith) empty.1)

pub levels-are : (m : Records) (root level : ℕ) → 0 < root → level ≡ root_level m root → levels m root ≡ suc level
levels-are m zero level some is = absurd (omega arith)
levels-are m (suc root) level some is = ap suc (sym is)

slots-drop : (k : ℕ) (rows : List Row) → AreEmpty rows → slots_in (drop k rows) ≡ 0
slots-drop zero rows empty = empty-slots rows empty
slots-drop (suc k) [] empty = refl
slots-drop (suc k) (row ∷ rows) empty = slots-drop k rows empty.1

-- the rows after the changes of a tree, as a tree
tree-counts : {H : Type 0} (old mid new : Ledger H) (levels changes : ℕ) (rows rows2 : List Row) → AreEmpty rows → MayDo old mid → SpendsBelow old mid changes (no_budgets levels) rows rows2
    → ((bs : List ℕ) → FitBudgets 0 bs rows2 → slots_in (drop (length bs) rows2) ≡ 0 → 0 < last_of 0 bs → CountsNodes mid new (2 * all_of bs + last_of 0 bs))
    → CountsNodes old new ((2 * levels + 1) * changes)
tree-counts old mid new levels changes rows rows2 empty may x rest =
    let size = no_budgets-size levels in
    let all = no_budgets-all levels in
    let last = no_budgets-last levels in
    let within = x.spends.within in
    let lower = x.spends.lower in
    let product : length (no_budgets levels) * changes ≡ levels * changes = ap (λ k. k * changes) size in
    let none : slots_in (drop (length x.left) rows2) ≡ 0 = subst (λ k. slots_in (drop k rows2) ≡ 0) (sym x.spends.size)
    (sinks-none (drop (length (no_budgets levels)) rows) (drop (length (no_budgets levels)) rows2) x.sinks (slots-drop (length (no_budgets levels)) rows empty)) in
    counts-then old mid new x.made (2 * all_of x.left + last_of 0 x.left) _ (omega arith) may x.spends.counts (rest x.left x.spends.fits none x.some)

pub root-counts : {H : Type 0} (old mid new : Ledger H) (m : Records) (root changes : ℕ) (rows rows2 : List Row) → 0 < changes → AreEmpty rows → MayDo old mid
    → (0 < root → 0 < changes → SpendsBelow old mid changes (no_budgets (levels m root)) rows rows2) → (root ≡ 0 → (first_slots rows2 ≤ changes) × (slots_in (drop 1 rows2) ≡ 0))
    → CountsNodes old mid (2 * (levels m root * changes))
    → ((bs : List ℕ) → FitBudgets 0 bs rows2 → slots_in (drop (length bs) rows2) ≡ 0 → 0 < last_of 0 bs → CountsNodes mid new (2 * all_of bs + last_of 0 bs))
    → (slots_in (drop 1 rows2) ≡ 0 → CountsNodes mid new (first_slots rows2 + (1 - first_slots rows2)))
    → CountsNodes old new ((2 * levels m root + 1) * changes)
root-counts old mid new m zero changes rows rows2 some empty may below none counts rest alone =
    let is = none refl in let few = is.0 in
    counts-then old mid new (2 * (0 * changes)) (first_slots rows2 + (1 - first_slots rows2)) _ (omega arith) may counts (alone is.1)
root-counts old mid new m (suc root) changes rows rows2 some empty may below none counts rest alone =
    tree-counts old mid new (levels m (suc root)) changes rows rows2 empty may (below (omega arith) some) rest
