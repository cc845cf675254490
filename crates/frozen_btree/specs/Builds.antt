-- A list as a tree of even groups, and one level of it.
use Rattle.std.specs.Prelude.{◌≡◌, ℕ, zero, suc, ◌+◌, ◌*◌, ◌/◌, ◌%◌, ◌<◌, List, [], ◌∷◌, ◌++◌, min, nat_lt, if◌then◌else◌}
use Rattle.std.specs.Int.{div_ceil}
use Rattle.entry_ref.specs.Records.{Records}
use Rattle.store_api.specs.Ledgers.{Ledger}
use Rattle.store_api.specs.Parts.{times, uses}
use Rattle.tree_read.specs.Trees.{tree_pairs, tree_nodes, IsRootNode}
use Rattle.tree_read.specs.declared.node_format.TheConstants.{MOST_SLOTS}
use Rattle.tree_read.specs.Slots.{slot_pairs, slot_nodes, IsInHand}
use Rattle.frozen_nodes.specs.Makes.{MakesPart}
use Rattle.frozen_nodes.specs.declared.make.MadeNode.{MadeNode}

-- the fewest groups of at most 16 into which n items can be divided
abbrev pub groups : ℕ → ℕ
groups n = div_ceil n MOST_SLOTS

-- where a group begins, if n items are divided into `all` groups whose sizes differ by at most one
abbrev pub group_start : ℕ → ℕ → ℕ → ℕ
group_start n all group = group * (n / all) + min group (n % all)

-- the number of groups of n items, of groups of these groups, and so on up to a single one, for a bounded number of
-- levels
abbrev pub nodes_above : ℕ → ℕ → ℕ
nodes_above zero n = 1
nodes_above (suc levels) n = if nat_lt MOST_SLOTS n then groups n + nodes_above levels (groups n) else 1

-- the number of nodes of a tree with n pairs
abbrev pub nodes_of : ℕ → ℕ
nodes_of n = nodes_above 7 n

-- a node of a level was made of slots, and added after those that were made before
pub record AddsPart {H : Type 0} (old new : Ledger H) (m n : Records) (level : ℕ)
    (keys values keys_before nodes_before keys_after nodes_after : List ℕ) : Type 0 where
  pub part : MadeNode
  pub made : MakesPart old new m n level keys values part
  pub keys_are : keys_after ≡ keys_before ++ part.key ∷ []
  pub nodes_are : nodes_after ≡ nodes_before ++ part.node ∷ []

-- nodes of a level replace slots, as slots of the next level
pub record MakesRow {H : Type 0} (old new : Ledger H) (m n : Records) (level : ℕ) (keys values next_keys next_nodes : List ℕ) : Type 0 where
  pub hand : IsInHand n (suc level) next_keys next_nodes
  pub pairs_are : slot_pairs n (suc level) next_keys next_nodes ≡ slot_pairs m level keys values
  pub balance : (r : ℕ) → times r (slot_nodes n (suc level) next_nodes) + uses old r ≡ uses new r + times r (slot_nodes m level values)

-- a tree is made over slots
pub record BuildsTree {H : Type 0} (old new : Ledger H) (m n : Records) (level : ℕ) (keys values : List ℕ) (root : ℕ) : Type 0 where
  pub node : 0 < root → IsRootNode n root
  pub pairs_are : tree_pairs n root ≡ slot_pairs m level keys values
  pub balance : (r : ℕ) → times r (tree_nodes n root) + uses old r ≡ uses new r + times r (slot_nodes m level values)
