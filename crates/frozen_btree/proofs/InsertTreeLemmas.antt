-- The tree with the pair: what is asked on the way, and what it is at the end.
use Rattle.std.proofs.Common.{◌≡◌, ℕ, ◌*◌, ◌<◌, ◌≤◌, List, [], ◌∷◌, length, nat_eq, refl, sym, ap, subst, ◌∙◌, arith, ◌^◌}
use Rattle.std.specs.Cmp.{IsTotalOrder}
use Rattle.std.specs.declared.cmp.Ordering.{Ordering}
use Rattle.std.specs.List.{flat_map, All, IsDistinct}
use Rattle.entry_ref.specs.Records.{Records}
use Rattle.store_api.specs.Ledgers.{Ledger}
use Rattle.store_api.specs.Parts.{times}
use Rattle.tree_read.specs.Nodes.{used_of}
use Rattle.tree_read.specs.Trees.{pairs_below, root_level, root_least, tree_pairs, tree_nodes, IsTree}
use Rattle.frozen_nodes.proofs.MadeLemmas.{made-balance}
use Rattle.tree_read.proofs.RootLemmas.{tree_pairs-is, tree_nodes-is, root_node-is}
use Rattle.tree_read.specs.Keys.{seen_by}
use Rattle.tree_read.specs.Pairs.{put}
use Rattle.tree_read.proofs.PairLemmas.{length-put_most}
use Rattle.tree_read.proofs.Bounds.{children_many, tree_small}
use Rattle.frozen_btree.specs.Changes.{Rebuilds}
use Rattle.frozen_nodes.specs.Makes.{MakesNode}
use Rattle.tree_read.specs.Slots.{slot_nodes}
use Rattle.tree_read.proofs.SlotLemmas.{slot_pairs-leaf, slot_nodes-leaf}
use Rattle.frozen_btree.specs.Inserts.{Inserts, IsRootOver}
use Rattle.frozen_nodes.specs.Parts.{AreParts, part_nodes}
use Rattle.frozen_nodes.specs.declared.parts.Parts.{Parts}
use Rattle.frozen_nodes.specs.declared.parts.Parts.TheVariants.{One, Two}
use Rattle.frozen_btree.proofs.BelowLemmas.{parts-lower}
use Rattle.frozen_btree.proofs.TopLemmas.{root-pairs, root-nodes, root-used}

pub root-few : {V : Type 0} (order : V → V → Ordering) (read : Records → ℕ → V) (m : Records) (root : ℕ) → IsTree order read m root → 0 < root → (level : ℕ) → level ≡ root_level m root
    → IsTotalOrder order → ((refs : List ℕ) → IsDistinct nat_eq refs → All (λ r. length (m r) ≡ 34) refs → length refs ≤ 1973790) → length (pairs_below m level root) ≤ 31580640
root-few order read m root tree some level level_is total few =
    subst (λ ps. length ps ≤ 31580640) (root-pairs order read m root tree some level level_is) (tree_small m order total read root tree few)

-- parts of level 7 are one, since two would have too many pairs
pub one_at_top : (n : Records) (least : ℕ) (parts : Parts) (pairs : List (ℕ × ℕ)) → AreParts n least 7 parts pairs → length pairs ≤ 31580641 → length (part_nodes parts) ≡ 1
one_at_top n least (One part) pairs x few = refl
one_at_top n least (Two first second) pairs x few =
    let many : 2 * 16777216 ≤ length (flat_map (pairs_below n 7) (first.node ∷ second.node ∷ [])) = children_many n 7 (first.node ∷ second.node ∷ []) x.nodes in
    let same = ap length x.pairs_are in
    absurd (omega arith)

-- on the way to the new root
module _ {H : Type 0} {V : Type 0} (order : V → V → Ordering) (total : IsTotalOrder order) (read : Records → ℕ → V) (s : V) (m n : Records) (old mid : Ledger H) (root level : ℕ) (pair : ℕ × ℕ)
    (tree : IsTree order read m root) (some : 0 < root) (level_is : level ≡ root_level m root)
    (few : (refs : List ℕ) → IsDistinct nat_eq refs → All (λ r. length (m r) ≡ 34) refs → length refs ≤ 1973790)
    (gone : List ℕ) (parts : Parts) (x : Inserts (seen_by read order s m) pair old mid m n level root [] gone parts) where
  put-few : length (put (seen_by read order s m) pair (pairs_below m level root)) ≤ 31580641
  put-few = let small = root-few order read m root tree some level level_is total few in let most = length-put_most (seen_by read order s m) pair (pairs_below m level root) in omega arith

  pub top-few : length (flat_map (pairs_below n level) (part_nodes parts)) < 2 ^ 32
  top-few = let all = ap length x.parts_are.pairs_are in let most = put-few in omega arith

  pub top-parts : AreParts n (root_least level) level parts (flat_map (pairs_below n level) (part_nodes parts))
  top-parts =
      let lower = parts-lower n (root_least level) (used_of (m root)) level parts (put (seen_by read order s m) pair (pairs_below m level root)) (root-used order read m root tree some level level_is) x.parts_are in
      record { nodes = lower.nodes; some = lower.some; keys = lower.keys; pairs_are = refl }

  pub top-one : level ≡ 7 → length (part_nodes parts) ≡ 1
  top-one top = one_at_top n (used_of (m root)) parts (put (seen_by read order s m) pair (pairs_below m level root))
      (subst (λ l. AreParts n (used_of (m root)) l parts (put (seen_by read order s m) pair (pairs_below m level root))) top x.parts_are) put-few

  gone-few : (r : ℕ) → times r gone ≤ times r (tree_nodes m root)
  gone-few r = let gone_r = x.gone r in let same = ap (times r) (root-nodes order read m root tree some level level_is) in omega arith

  -- the new root
  pub rebuilds-over : (new : Ledger H) (o : Records) (next : ℕ) → IsRootOver mid new n o level parts next
      → Rebuilds old new m o root next gone (put (seen_by read order s m) pair (tree_pairs m root))
  rebuilds-over new o next y = record {
    node = λ there. root_node-is o (root_least y.height) y.height next y.low y.node (omega arith);
    pairs_are =
        tree_pairs-is o (root_least y.height) y.height next y.low y.some y.node
        ∙ y.pairs ∙ x.parts_are.pairs_are
        ∙ ap (put (seen_by read order s m) pair) (sym (root-pairs order read m root tree some level level_is));
    balance = λ r.
        let first = x.balance r in
        let second = y.balance r in
        let same = ap (times r) (root-nodes order read m root tree some level level_is) in
        let now = ap (times r) (tree_nodes-is o (root_least y.height) y.height next y.low y.some y.node) in
        omega arith;
    gone_of = gone-few;
  }

-- a leaf of one pair in place of no tree
pub rebuilds-one : {H : Type 0} (c : ℕ → Ordering) (m n : Records) (old new : Ledger H) (root word value next : ℕ) → root ≡ 0 → MakesNode old new m n 0 (word ∷ []) (value ∷ []) next
    → Rebuilds old new m n root next [] (put c (word, value) (tree_pairs m root))
rebuilds-one c m n old new root word value next none made =
    subst (λ r. Rebuilds old new m n r next [] (put c (word, value) (tree_pairs m r))) (sym none)
    (record {
      node = λ there. root_node-is n 1 0 next (omega arith) made.node (omega arith);
      pairs_are = tree_pairs-is n 1 0 next (omega arith) made.some made.node ∙ made.pairs ∙ slot_pairs-leaf m (word ∷ []) (value ∷ []);
      balance = λ r.
          let balance = made-balance old new m n 0 (word ∷ []) (value ∷ []) next made r in
          let none_there : times r (slot_nodes m 0 (value ∷ [])) ≡ 0 = ap (times r) (slot_nodes-leaf m (value ∷ [])) in
          let now = ap (times r) (tree_nodes-is n 1 0 next (omega arith) made.some made.node) in
          omega arith;
      gone_of = λ r. omega arith;
    })
