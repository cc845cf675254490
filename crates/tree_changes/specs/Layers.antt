-- The slots of a new tree that are not yet in nodes: a row for each level, the lowest first. The pairs of a row come
-- behind those of the rows above it.
use Rattle.std.specs.Prelude.{◌≡◌, ℕ, suc, ◌+◌, ◌<◌, ◌≤◌, List, [], ◌∷◌, ◌++◌, length, Option, None, Some, map}
use Rattle.std.specs.declared.cmp.Ordering.{Ordering}
use Rattle.std.specs.List.{AllByRecursion}
use Rattle.entry_ref.specs.Records.{Records}
use Rattle.store_api.specs.Ledgers.{Ledger}
use Rattle.store_api.specs.Parts.{times, uses}
use Rattle.tree_read.specs.Keys.{seen_by, Ascends, AllReadable, NoneReadsNodes, IsKeyWord}
use Rattle.tree_read.specs.Slots.{slot_pairs, slot_nodes, IsInHand}
use Rattle.tree_read.specs.Trees.{tree_pairs, tree_nodes, IsRootNode}
use Rattle.tree_read.specs.declared.node_format.TheConstants.{LEAST_SLOTS, MOST_SLOTS, NODE_WORDS}
use Rattle.frozen_btree.specs.Builds.{groups, MakesRow}
use Rattle.tree_changes.specs.Merges.{Change}
use Rattle.frozen_btree.specs.declared.rows.Row.{Row}

-- a change as a merge sees it: by how stored keys compare with its key
abbrev pub seen_change : {V C : Type 0} → (Records → ℕ → V) → (V → V → Ordering) → (C → V) → (C → Option (ℕ × ℕ)) → Records → C → Change
seen_change read order sought pair m change = record { compare = seen_by read order (sought change) m; pair = pair change }

abbrev pub seen_changes : {V C : Type 0} → (Records → ℕ → V) → (V → V → Ordering) → (C → V) → (C → Option (ℕ × ℕ)) → Records → List C
    → List Change
seen_changes read order sought pair m changes = map (seen_change read order sought pair m) changes

-- the pair of a change has a word that reads as the sought key, and not from nodes
abbrev pub IsPairOf : {V : Type 0} → (V → V → Ordering) → (Records → ℕ → V) → (Records → ℕ → Type 0) → (Records → ℕ → List ℕ) → V → Records
    → Option (ℕ × ℕ) → Type 0
IsPairOf order read can_read reads_from sought m None = Unit {0}
IsPairOf order read can_read reads_from sought m (Some pair) = IsKeyWord order read can_read reads_from sought m pair.0

-- pairs whose keys ascend, can be read, and are read from no node
pub record AreKeyed {V : Type 0} (order : V → V → Ordering) (read : Records → ℕ → V) (can_read : Records → ℕ → Type 0)
    (reads_from : Records → ℕ → List ℕ) (m : Records) (ps : List (ℕ × ℕ)) : Type 0 where
  pub ascends : Ascends order read m ps
  pub readable : AllReadable can_read m ps
  pub apart : NoneReadsNodes reads_from m ps

-- the pairs below the slots of rows, the first of a level
abbrev pub rows_pairs : Records → ℕ → List Row → List (ℕ × ℕ)
rows_pairs m level [] = []
rows_pairs m level (row ∷ rows) = rows_pairs m (suc level) rows ++ slot_pairs m level row.keys.items row.nodes.items

-- the nodes below the slots of rows
abbrev pub rows_nodes : Records → ℕ → List Row → List ℕ
rows_nodes m level [] = []
rows_nodes m level (row ∷ rows) = rows_nodes m (suc level) rows ++ slot_nodes m level row.nodes.items

-- each row is slots in hand of its level
abbrev pub AreInHand : Records → ℕ → List Row → Type 0
AreInHand m level [] = Unit {0}
AreInHand m level (row ∷ rows) = IsInHand m level row.keys.items row.nodes.items × AreInHand m (suc level) rows

-- rows without slots
abbrev pub AreEmpty : List Row → Type 0
AreEmpty rows = AllByRecursion (λ row. row.keys.items ≡ []) rows

-- these references are nodes
abbrev pub AreNodes : Records → List ℕ → Type 0
AreNodes m refs = AllByRecursion (λ ref. length (m ref) ≡ NODE_WORDS) refs

-- the slots of a row became nodes, as slots behind those of the row above
pub record ClosesRow {H : Type 0} (old new : Ledger H) (m n : Records) (level : ℕ)
    (keys values above_keys above_nodes keys_after nodes_after : List ℕ) : Type 0 where
  pub made_keys : List ℕ
  pub made_nodes : List ℕ
  pub made : MakesRow old new m n level keys values made_keys made_nodes
  pub size : length made_keys ≡ groups (length keys)
  pub keys_are : keys_after ≡ above_keys ++ made_keys
  pub nodes_are : nodes_after ≡ above_nodes ++ made_nodes

-- the same for the first of several rows; nothing is made of no slots
pub record RaisesRow {H : Type 0} (old new : Ledger H) (m n : Records) (level : ℕ) (keys values : List ℕ) (above above_after : List Row) : Type 0 where
  pub hand : AreInHand n (suc level) above_after
  pub size : length above_after ≡ length above
  pub pairs_are : rows_pairs n (suc level) above_after ≡ rows_pairs m (suc level) above ++ slot_pairs m level keys values
  pub balance : (r : ℕ) → times r (rows_nodes n (suc level) above_after) + uses old r
      ≡ uses new r + times r (rows_nodes m (suc level) above) + times r (slot_nodes m level values)

-- the first row has slots
abbrev pub HasFirst : List Row → Type 0
HasFirst [] = ⊥
HasFirst (row ∷ rows) = 0 < length row.keys.items

-- the first row has none, or enough for a node
abbrev pub IsReady : List Row → Type 0
IsReady [] = Unit {0}
IsReady (row ∷ rows) = 0 < length row.keys.items → LEAST_SLOTS ≤ length row.keys.items

-- the first row has the slots of a node more
abbrev pub Lengthens : List Row → List Row → Type 0
Lengthens [] rows = ⊥
Lengthens (row ∷ rows) [] = ⊥
Lengthens (row ∷ rows) (next ∷ more) = LEAST_SLOTS + length row.keys.items ≤ length next.keys.items

-- the last node of a row was opened: its slots stand in front of those of the row below, and it is among the replaced
pub record OpensLast (m : Records) (level : ℕ) (keys values above_keys above_nodes keys_after values_after
    above_keys_after above_nodes_after before after : List ℕ) : Type 0 where
  pub hand : IsInHand m level keys_after values_after
  pub above : IsInHand m (suc level) above_keys_after above_nodes_after
  pub pairs_are : slot_pairs m (suc level) above_keys_after above_nodes_after ++ slot_pairs m level keys_after values_after
      ≡ slot_pairs m (suc level) above_keys above_nodes ++ slot_pairs m level keys values
  pub balance : (r : ℕ) → times r (slot_nodes m (suc level) above_nodes_after) + times r (slot_nodes m level values_after) + times r after
      ≡ times r (slot_nodes m (suc level) above_nodes) + times r (slot_nodes m level values) + times r before
  pub fewer : suc (length above_keys_after) ≡ length above_keys
  pub least : LEAST_SLOTS + length keys ≤ length keys_after
  pub most : length keys_after ≤ MOST_SLOTS + length keys
  pub nodes : AreNodes m before → AreNodes m after
  pub path : length after ≡ suc (length before)

-- nodes were opened: the pairs are the same, and what was opened is among the replaced nodes
pub record OpensRows (m : Records) (level : ℕ) (rows rows_after : List Row) (before after : List ℕ) : Type 0 where
  pub hand : AreInHand m level rows_after
  pub size : length rows_after ≡ length rows
  pub pairs_are : rows_pairs m level rows_after ≡ rows_pairs m level rows
  pub balance : (r : ℕ) → times r (rows_nodes m level rows_after) + times r after ≡ times r (rows_nodes m level rows) + times r before
  pub nodes : AreNodes m before → AreNodes m after

-- rows after these pairs were appended, which were below these nodes: nodes were made and opened
pub record TurnsRows {H : Type 0} (old new : Ledger H) (m n : Records) (level : ℕ) (rows rows_after : List Row)
    (pairs : List (ℕ × ℕ)) (nodes before after : List ℕ) : Type 0 where
  pub hand : AreInHand n level rows_after
  pub size : length rows_after ≡ length rows
  pub pairs_are : rows_pairs n level rows_after ≡ rows_pairs m level rows ++ pairs
  pub balance : (r : ℕ) → times r (rows_nodes n level rows_after) + times r after + uses old r
      ≡ uses new r + times r before + times r (rows_nodes m level rows) + times r nodes
  pub replaced : AreNodes m before → AreNodes n after

-- a tree was made of rows
pub record FinishesRows {H : Type 0} (old new : Ledger H) (m n : Records) (level : ℕ) (rows : List Row) (before after : List ℕ) (root : ℕ) : Type 0 where
  pub node : 0 < root → IsRootNode n root
  pub pairs_are : tree_pairs n root ≡ rows_pairs m level rows
  pub balance : (r : ℕ) → times r (tree_nodes n root) + times r after + uses old r ≡ uses new r + times r before + times r (rows_nodes m level rows)
  pub replaced : AreNodes m before → AreNodes n after

-- a tree with these pairs was made in place of another, whose nodes that it lacks are among the replaced. Nothing says
-- that all replaced nodes are of the old tree: a drop needs only that they are nodes, and in use
pub record RebuildsTree {H : Type 0} (old new : Ledger H) (m n : Records) (root next : ℕ) (gone : List ℕ) (pairs : List (ℕ × ℕ)) : Type 0 where
  pub node : 0 < next → IsRootNode n next
  pub pairs_are : tree_pairs n next ≡ pairs
  pub balance : (r : ℕ) → times r (tree_nodes m root) + uses new r ≡ uses old r + times r gone + times r (tree_nodes n next)
  pub gone_nodes : AreNodes n gone
