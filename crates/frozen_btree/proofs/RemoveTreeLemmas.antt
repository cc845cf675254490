-- The tree without the pair: its root.
use Rattle.std.proofs.Common.{◌≡◌, ℕ, ◌<◌, ◌≤◌, List, [], length, sym, ap, ◌∙◌, arith, ◌^◌}
use Rattle.std.specs.Prelude.{IsSome}
use Rattle.std.specs.declared.cmp.Ordering.{Ordering}
use Rattle.entry_ref.specs.Records.{Records}
use Rattle.tree_read.proofs.TreeLemmas.{root_least-above, IsNode-form, IsNode-count}
use Rattle.tree_read.specs.Trees.{pairs_below, IsNode, root_level, root_least, tree_pairs, IsTree}
use Rattle.tree_read.proofs.PairLemmas.{length-take_out}
use Rattle.tree_read.specs.Pairs.{lookup, take_out}
use Rattle.store_api.specs.Ledgers.{Ledger}
use Rattle.store_api.specs.Parts.{times}
use Rattle.frozen_btree.specs.Changes.{Rebuilds, MakesRoot}
use Rattle.tree_read.specs.Slots.{slot_pairs}
use Rattle.frozen_btree.proofs.TopLemmas.{root-node, root-pairs, root-nodes}
use Rattle.frozen_btree.specs.Removes.{Removes}

-- the root without the pair, in hand
module _ {V : Type 0} (order : V → V → Ordering) (read : Records → ℕ → V) (m : Records) (root : ℕ) (tree : IsTree order read m root) (some : 0 < root) (level : ℕ) (level_is : level ≡ root_level m root) where
  top-node : IsNode m (root_least level) level root
  top-node = root-node order read m root tree some level level_is

  module _ {H : Type 0} (c : ℕ → Ordering) (old mid : Ledger H) (n : Records) (gone keys values : List ℕ) (x : Removes c old mid m n level root [] gone keys values) where
    pub top-few : IsSome (lookup c (pairs_below m level root)) → length (slot_pairs n level keys values) < 2 ^ 32
    top-few there =
        let same = ap length x.pairs_are in
        let less = length-take_out c (pairs_below m level root) there in
        let count = IsNode-count m (root_least level) level root top-node in
        let few = (IsNode-form m (root_least level) level root top-node).few in
        omega arith

    pub top-room : length keys ≤ 16
    top-room =
        let filled = x.filled in let one = x.one in
        let room = (IsNode-form m (root_least level) level root top-node).room in
        omega arith

    pub top-some : 0 < level → 0 < length keys
    top-some above =
        let filled = x.filled in let one = x.one in
        let used = (IsNode-form m (root_least level) level root top-node).filled in
        let two = root_least-above level above in
        omega arith

    pub rebuilds-from : (new : Ledger H) (o : Records) (next : ℕ) → MakesRoot mid new n o level keys values next → Rebuilds old new m o root next gone (take_out c (tree_pairs m root))
    rebuilds-from new o next y = record {
      node = y.node;
      pairs_are = y.pairs_are ∙ x.pairs_are ∙ ap (take_out c) (sym (root-pairs order read m root tree some level level_is));
      balance = λ r.
          let a = x.balance r in
          let b = y.balance r in
          let same = ap (times r) (root-nodes order read m root tree some level level_is) in
          omega arith;
      gone_of = λ r. let a = x.gone r in let same = ap (times r) (root-nodes order read m root tree some level level_is) in omega arith;
    }
