-- A tree in place of another: what it turns, and that its keys can be read.
use Rattle.std.proofs.Common.{◌≡◌, ◌↔◌, ℕ, zero, suc, ◌<◌, List, [], ◌∷◌, length, true, refl, ◌∙◌, arith}
use Rattle.std.specs.declared.cmp.Ordering.{Ordering}
use Rattle.std.specs.List.{AllByRecursion}
use Rattle.entry_ref.specs.Records.{Records, SameAt}
use Rattle.tree_read.specs.Keys.{AllReadable, NoneReadsNodes, Ascends, KeepsOthers, IsKeyedTree}
use Rattle.tree_read.proofs.OrderKeyLemmas.{keyed-from}
use Rattle.store_api.specs.Statuses.{has_record}
use Rattle.store_api.specs.Ledgers.{Ledger}
use Rattle.store_api.specs.Units.{MayDo}
use Rattle.store_api.specs.Parts.{times, entries, Owns, Turns, After}
use Rattle.store_api.proofs.May.{may_do-then}
use Rattle.store_api.proofs.PartLemmas.{after, owns-then, owns-some, turns-then}
use Rattle.store_api.proofs.Times.{all_at_times}
use Rattle.store_api.proofs.Uses.{in-uses, used_has}
use Rattle.tree_read.specs.ProofsForTrees.{tree_pairs-same, IsRootNode-same}
use Rattle.tree_read.specs.Trees.{root_level, root_least, tree_pairs, tree_nodes, IsRootNode}
use Rattle.tree_read.proofs.Bounds.{nodes_wide}
use Rattle.frozen_btree.specs.Changes.{DropsEntries, Rebuilds, tree}
use Rattle.frozen_nodes.specs.Makes.{CountsNodes, MakesNodes}
use Rattle.frozen_nodes.proofs.MakesLemmas.{counts-then}

-- a tree's nodes have 34 words
pub tree-wide : (m : Records) (root : ℕ) → (0 < root → IsRootNode m root) → AllByRecursion (λ q. length (m q) ≡ 34) (tree_nodes m root)
tree-wide m zero node = tt
tree-wide m (suc ref) node = nodes_wide m (root_least (root_level m (suc ref))) (root_level m (suc ref)) (suc ref) (node (omega arith))

module _ {H : Type 0} (old mid : Ledger H) (m n : Records) (most root next : ℕ) (gone : List ℕ) (pairs : List (ℕ × ℕ))
    (owns : Owns old m (tree root ∷ [])) (it : Rebuilds old mid m n root next gone pairs) (makes : MakesNodes old mid m n most)
    (recorded : (r : ℕ) → (has_record (old.status r) ≡ true) ↔ (0 < length (m r))) where
  made-turns : Turns old mid m n (tree root ∷ []) (entries gone ∷ tree next ∷ [])
  made-turns = record {
    kept = λ r h. makes.keeps r ((recorded r).0 (used_has (old.status r) (in-uses old r (omega arith))));
    balance = λ r. let even = it.balance r in omega arith;
  }

  both-owned : Owns mid n (entries gone ∷ tree next ∷ [])
  both-owned = owns-then old mid m n (tree root ∷ []) (entries gone ∷ tree next ∷ []) owns made-turns

  -- so the nodes that are gone can be dropped
  pub gone-owned : Owns mid n (entries gone ∷ [])
  gone-owned = owns-some mid n (entries gone ∷ tree next ∷ []) (entries gone ∷ []) both-owned (λ r. omega arith)

  module _ (new : Ledger H) (o : Records) (drops : DropsEntries mid new n o gone) (tree_is : 0 < root → IsRootNode m root) where
    left : After mid new n o (entries gone ∷ tree next ∷ []) (tree next ∷ []) (tree next ∷ [])
    left = after mid new n o (entries gone ∷ []) [] (tree next ∷ []) (entries gone ∷ tree next ∷ []) (tree next ∷ []) both-owned drops.turns (λ k r. omega arith) (λ k r. omega arith)

    pub end-turns : Turns old new m o (tree root ∷ []) (tree next ∷ [])
    end-turns = turns-then old mid new m n o (tree root ∷ []) (entries gone ∷ tree next ∷ []) (tree next ∷ []) made-turns left.turns

    pub end-owns : Owns new o (tree next ∷ [])
    end-owns = left.owns

    stay : SameAt (tree_nodes n next) n o
    stay = left.stay.0

    pub end-pairs : tree_pairs o next ≡ pairs
    end-pairs = tree_pairs-same n o next stay ∙ it.pairs_are

    end-node : 0 < next → IsRootNode o next
    end-node some = IsRootNode-same n o next stay some (it.node some)

    -- every record that is no node stays
    pub end-others : KeepsOthers m o
    end-others r other =
        drops.records r (none_gone (times r gone) (λ some. let few = it.gone_of r in other.width (all_at_times (λ q. length (m q) ≡ 34) (tree_nodes m root) (tree-wide m root tree_is) r (omega arith))))
        ∙ makes.keeps r other.there
      where
        none_gone : (k : ℕ) → (0 < k → ⊥) → k ≡ 0
        none_gone zero never = refl
        none_gone (suc k) never = absurd (never (omega arith))

    pub end-may : MayDo old new
    end-may = may_do-then old mid new makes.may drops.may

    pub end-counts : CountsNodes old new most
    end-counts =
        counts-then old mid new most 0 most (omega arith) makes.may makes.counts (record { nodes = drops.none_made _ 34; others = λ c width ne. drops.none_made c width })

    pub end-keyed : {V : Type 0} (order : V → V → Ordering) (can_read : Records → ℕ → Type 0) (read : Records → ℕ → V) (reads_from : Records → ℕ → List ℕ)
        → (stays : (j k : Records) (key : ℕ) → can_read j key → SameAt (reads_from j key) j k → can_read k key × (read k key ≡ read j key))
        → (steady : (j k : Records) (key : ℕ) → can_read j key → SameAt (reads_from j key) j k → reads_from k key ≡ reads_from j key)
        → AllReadable can_read m pairs → NoneReadsNodes reads_from m pairs → Ascends order read m pairs → IsKeyedTree order read can_read reads_from o next
    end-keyed order can_read read reads_from stays steady can none up =
        keyed-from order can_read read reads_from stays steady m o end-others next pairs end-node end-pairs can none up
