-- How many nodes a list of changes makes. A change gives each level of the old tree a budget of 1, which pays for two
-- nodes. The budget of a row is that of the changes since the row last became nodes.
use Rattle.std.specs.Prelude.{◌≡◌, ℕ, zero, suc, ◌+◌, ◌-◌, ◌*◌, ◌<◌, ◌≤◌, List, [], ◌∷◌, length, drop, Bool, false}
use Rattle.store_api.specs.Ledgers.{Ledger}
use Rattle.frozen_nodes.specs.Makes.{CountsNodes}
use Rattle.frozen_btree.specs.declared.rows.Row.{Row}
use Rattle.tree_read.specs.declared.node_format.TheConstants.{LEAST_SLOTS, MOST_SLOTS}

abbrev pub slots_of : Row → ℕ
slots_of row = length row.keys.items

-- the slots of all rows
abbrev pub slots_in : List Row → ℕ
slots_in [] = 0
slots_in (row ∷ rows) = slots_of row + slots_in rows

-- slots that came into a row: at most `gain` were appended, and a row of fewer than `full` may have been filled up to
-- that with those of a node before it, of which there is none if the rows above are empty
pub record Fills (full slots above after gain : ℕ) : Type 0 where
  pub most : after ≤ slots + (full - slots) + gain
  pub alone : after ≤ slots + full * above + gain

-- rows from which nodes were opened: a row that was empty may have the slots of a node but one, 15
abbrev pub Sinks : List Row → List Row → Type 0
Sinks [] [] = Unit {0}
Sinks [] (next ∷ more) = ⊥
Sinks (row ∷ rows) [] = ⊥
Sinks (row ∷ rows) (next ∷ more) = Fills 15 (slots_of row) (slots_in rows) (slots_of next) 0 × Sinks rows more

-- the same, but for slots that were appended to the first row: with what may yet come from the row below (`spent`) at
-- most `gain`
abbrev pub Grows : ℕ → ℕ → List Row → List Row → Type 0
Grows spent gain [] [] = Unit {0}
Grows spent gain [] (next ∷ more) = ⊥
Grows spent gain (row ∷ rows) [] = ⊥
Grows spent gain (row ∷ rows) (next ∷ more) = Fills 15 (slots_of row) (slots_in rows) (slots_of next + spent) gain × Sinks rows more

-- the same, but for the first row, which may have all slots of a node if it was empty
abbrev pub Reaches : List Row → List Row → Type 0
Reaches [] [] = Unit {0}
Reaches [] (next ∷ more) = ⊥
Reaches (row ∷ rows) [] = ⊥
Reaches (row ∷ rows) (next ∷ more) = Fills MOST_SLOTS (slots_of row) (slots_in rows) (slots_of next) 0 × Sinks rows more

-- slots of a node were put into a row
pub record Pulled (slots above after : ℕ) : Type 0 where
  pub most : after ≤ slots + MOST_SLOTS
  pub alone : after ≤ slots + MOST_SLOTS * above

abbrev pub Pulls : List Row → List Row → Type 0
Pulls [] [] = Unit {0}
Pulls [] (next ∷ more) = ⊥
Pulls (row ∷ rows) [] = ⊥
Pulls (row ∷ rows) (next ∷ more) = Pulled (slots_of row) (slots_in rows) (slots_of next) × Sinks rows more

-- the same for a row that had slots, but fewer than a node: 7 and 16 are 23. Any other row is as it was
pub record Lengthened (slots above after : ℕ) : Type 0 where
  pub most : after ≤ slots + (23 - slots)
  pub none : after ≤ 17 * slots
  pub alone : after ≤ slots + MOST_SLOTS * above

abbrev pub LengthensFirst : List Row → List Row → Type 0
LengthensFirst [] [] = Unit {0}
LengthensFirst [] (next ∷ more) = ⊥
LengthensFirst (row ∷ rows) [] = ⊥
LengthensFirst (row ∷ rows) (next ∷ more) = Lengthened (slots_of row) (slots_in rows) (slots_of next) × Sinks rows more

abbrev pub first_slots : List Row → ℕ
first_slots [] = 0
first_slots (row ∷ rows) = slots_of row

-- the first row has slots, but fewer than a node
pub record IsShort (rows : List Row) : Type 0 where
  pub some : 0 < first_slots rows
  pub few : first_slots rows < LEAST_SLOTS

-- the first row has so many slots more
abbrev pub Gains : ℕ → List Row → List Row → Type 0
Gains gain [] [] = Unit {0}
Gains gain [] (next ∷ more) = ⊥
Gains gain (row ∷ rows) [] = ⊥
Gains gain (row ∷ rows) (next ∷ more) = (slots_of next ≡ slots_of row + gain) × (more ≡ rows)

-- the slots of a row are at most those that its budget pays for, with those that come into it when the row below,
-- which has a budget too, becomes nodes
pub record FitsBudget (below budget slots : ℕ) : Type 0 where
  pub rises : below ≤ budget
  pub paid : slots + 2 * below ≤ 32 * budget
  pub most : slots + 2 * below ≤ 17 * budget + 15

-- the first rows, one for each budget, fit their budgets
abbrev pub FitBudgets : ℕ → List ℕ → List Row → Type 0
FitBudgets below [] rows = Unit {0}
FitBudgets below (budget ∷ budgets) [] = ⊥
FitBudgets below (budget ∷ budgets) (row ∷ rows) = FitsBudget below budget (slots_of row) × FitBudgets budget budgets rows

abbrev pub all_of : List ℕ → ℕ
all_of [] = 0
all_of (budget ∷ budgets) = budget + all_of budgets

-- the last budget, or the one before
abbrev pub last_of : ℕ → List ℕ → ℕ
last_of below [] = below
last_of below (budget ∷ budgets) = last_of budget budgets

-- budgets paid for nodes, and changes added to them
pub record Spends {H : Type 0} (old new : Ledger H) (changes : ℕ) (budgets left : List ℕ) (rows_after : List Row) (made : ℕ) : Type 0 where
  pub counts : CountsNodes old new made
  pub size : length left ≡ length budgets
  pub within : made + 2 * all_of left ≤ 2 * all_of budgets + 2 * (length budgets * changes)
  pub lower : last_of 0 left ≤ last_of 0 budgets + changes
  pub fits : FitBudgets 0 left rows_after

-- slots were appended to the first row without a budget
pub record SpendsRows {H : Type 0} (old new : Ledger H) (gain changes : ℕ) (budgets : List ℕ) (rows rows_after : List Row) : Type 0 where
  pub left : List ℕ
  pub made : ℕ
  pub spends : Spends old new changes budgets left rows_after made
  pub grows : Grows (2 * last_of 0 left) (2 * last_of 0 budgets + gain) (drop (length budgets) rows) (drop (length budgets) rows_after)

-- slots were appended to rows with budgets alone
pub record SpendsBelow {H : Type 0} (old new : Ledger H) (changes : ℕ) (budgets : List ℕ) (rows rows_after : List Row) : Type 0 where
  pub left : List ℕ
  pub made : ℕ
  pub spends : Spends old new changes budgets left rows_after made
  pub some : 0 < last_of 0 left
  pub sinks : Sinks (drop (length budgets) rows) (drop (length budgets) rows_after)

-- the last row with a budget has room for the slots of a node
abbrev pub HasRoom : ℕ → List ℕ → List Row → Type 0
HasRoom below [] rows = ⊥
HasRoom below (budget ∷ budgets) [] = ⊥
HasRoom below (budget ∷ []) (row ∷ rows) = slots_of row + 2 * below < 17 * budget
HasRoom below (budget ∷ next ∷ budgets) (row ∷ rows) = HasRoom budget (next ∷ budgets) rows

-- the rows with budgets became nodes, unless all slots are fewer than a node has
pub record Settles {H : Type 0} (old new : Ledger H) (budgets : List ℕ) (rows rows_after : List Row) (settled : Bool) : Type 0 where
  pub spends : SpendsRows old new 0 0 budgets rows rows_after
  pub room : settled ≡ false → HasRoom 0 spends.left rows_after
  pub none : settled ≡ false → slots_in (drop (length budgets) rows_after) ≡ 0

-- how many slots a child brings to the row of its node: itself if it has no changes, or else two nodes for each
abbrev pub gain_of : ℕ → ℕ
gain_of zero = 1
gain_of (suc changes) = 2 * suc changes

-- the first slots of a node were appended, after so many changes: a slot without changes gains 1
pub record SpendsSlots {H : Type 0} (old new : Ledger H) (slots changes : ℕ) (budgets : List ℕ) (rows rows_after : List Row) : Type 0 where
  pub gain : ℕ
  pub least : 2 * changes ≤ gain
  pub fewer : suc gain ≤ slots + 2 * changes + (1 - changes)
  pub spends : SpendsRows old new gain changes budgets rows rows_after

-- before the changes no level has a budget
abbrev pub no_budgets : ℕ → List ℕ
no_budgets zero = []
no_budgets (suc levels) = 0 ∷ no_budgets levels
