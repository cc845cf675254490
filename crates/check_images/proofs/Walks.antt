-- What a walk over the children of a node has found, and how a refusal goes up.
use Rattle.std.proofs.Common.{◌≡◌, ℕ, List, ◌++◌, map, take}
use Rattle.std.specs.List.{flat_map, AllByRecursion}
use Rattle.entry_ref.specs.Records.{Records}
use Rattle.tree_read.specs.Nodes.{node_keys, node_values}
use Rattle.tree_read.specs.Trees.{pairs_below, last_key, IsNode}
use Rattle.check_images.specs.Keys.{PairsAscend}
use Rattle.check_images.specs.Refutations.{Refutes}
use Rattle.check_images.specs.declared.fault.CheckFault.{CheckFault}
use Rattle.check_images.specs.declared.fault.CheckFault.TheVariants.{Broken, Memory}
use Rattle.check_images.specs.declared.keys.Keys.{Keys}

-- what has a refused part is refused
pub refuted_by : {P Q : Type 0} (fault : CheckFault) → (Q → P) → Refutes P fault → Refutes Q fault
refuted_by Broken part refused = λ whole. refused (part whole)
refuted_by Memory part refused = tt

-- after `i` children of this level: their pairs stand behind those before, their last keys are the node's
pub record Walked (keys : Keys) (m : Records) (level : ℕ) (ws : List ℕ) (before after : List (ℕ × ℕ)) (i : ℕ) : Type 0 where
  pub pairs : after ≡ before ++ flat_map (pairs_below m level) (take i (node_values ws))
  pub nodes : AllByRecursion (IsNode m 8 level) (take i (node_values ws))
  pub last : take i (node_keys ws) ≡ map (λ child. last_key (pairs_below m level child)) (take i (node_values ws))
  pub ascends : PairsAscend keys m after
