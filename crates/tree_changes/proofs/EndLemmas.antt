-- The tree after changes: what is asked on the way, what it turns, and that its keys can be read.
use Rattle.std.proofs.Common.{set, get_or, ◌≡◌, ◌↔◌, ℕ, zero, suc, ◌+◌, ◌<◌, ◌≤◌, ◌^◌, List, [], ◌∷◌, ◌++◌, length, map, nat_eq, refl, sym, ap, subst, ◌∙◌, arith, true, Option, Some, None}
use Rattle.std.specs.Cmp.{IsTotalOrder}
use Rattle.std.specs.declared.cmp.Ordering.{Ordering}
use Rattle.std.specs.declared.cmp.Ordering.TheVariants.{Less, Equal, Greater}
use Rattle.std.specs.List.{zip, All, AllByRecursion, IsDistinct}
use Rattle.std.specs.List.Sorted.{IsStrictlySortedBy}
use Rattle.list_lemmas.proofs.Each.{AllByRecursion-append}
use Rattle.entry_ref.specs.Records.{Records, SameAt}
use Rattle.store_api.specs.Statuses.{has_record}
use Rattle.store_api.specs.Ledgers.{Ledger}
use Rattle.store_api.specs.Units.{MayDo}
use Rattle.store_api.specs.Parts.{times, uses, entries, Owns, Turns, After}
use Rattle.store_api.proofs.May.{may_do-then}
use Rattle.store_api.proofs.PartLemmas.{after, owns-then, owns-some, turns-then}
use Rattle.store_api.proofs.Times.{all_at_times}
use Rattle.store_api.proofs.Uses.{in-uses, used_has}
use Rattle.tree_read.specs.ProofsForTrees.{tree_pairs-same, IsRootNode-same}
use Rattle.tree_read.specs.Trees.{root_level, tree_pairs, tree_nodes, pairs_below, nodes_below, IsTree, IsRootNode, Keeps}
use Rattle.tree_read.specs.Keys.{AllReadable, NoneReadsNodes, Ascends, KeepsOthers, IsKeyedTree, IsKeyWord}
use Rattle.tree_read.specs.Pairs.{choose}
use Rattle.tree_read.specs.Slots.{IsInHand}
use Rattle.tree_read.proofs.Bounds.{tree_small}
use Rattle.tree_read.proofs.OrderKeyLemmas.{keyed-from}
use Rattle.tree_read.proofs.OrderLemmas.{put-ascends, take_out-ascends}
use Rattle.tree_read.proofs.SlotLemmas.{hand-none}
use Rattle.frozen_btree.specs.Changes.{DropsEntries, tree}
use Rattle.frozen_btree.proofs.TopLemmas.{root-pairs, root-nodes}
use Rattle.tree_changes.specs.Merges.{Change, before, behind, pair_of, merged, changed, changed_by, IsOwn, HasOwnKey}
use Rattle.tree_changes.specs.Layers.{rows_pairs, rows_nodes, seen_changes, AreEmpty, AreInHand, AreKeyed, FinishesRows, IsPairOf, RebuildsTree, TurnsRows}
use Rattle.frozen_btree.specs.declared.rows.Row.{Row}
use Rattle.tree_changes.proofs.FinishLemmas.{rows-empty-pairs, rows-empty-nodes}
use Rattle.tree_changes.proofs.MergeLemmas.{behind-all, one-by-one}
use Rattle.tree_changes.proofs.MergeLeafLemmas.{in-order}
use Rattle.tree_changes.proofs.ChangeBelowLemmas.{merged-size, row-more}
use Rattle.tree_changes.proofs.TurnLemmas.{turns-are}

-- rows without slots are in hand
pub rows-hand : (m : Records) (level : ℕ) (rows : List Row) → AreEmpty rows → AllByRecursion (λ row. row.nodes.items ≡ []) rows → AreInHand m level rows
rows-hand m level [] empty none = tt
rows-hand m level (row ∷ rows) empty none = (
  subst (λ ks. IsInHand m level ks row.nodes.items) (sym empty.0) (subst (λ vs. IsInHand m level [] vs) (sym none.0) (hand-none m level)),
  rows-hand m (suc level) rows empty.1 none.1,
)

-- the rows after the changes of a tree
pub fill-none : {H : Type 0} (ledger : Ledger H) (m : Records) (root : ℕ) (rows : List Row) (row d : Row) (changes : List Change) (before : List ℕ) → root ≡ 0 → AreInHand m 0 rows → 0 < length rows
    → length row.keys.items ≡ length row.nodes.items
    → zip row.keys.items row.nodes.items ≡ zip (get_or rows 0 d).keys.items (get_or rows 0 d).nodes.items ++ merged changes []
    → TurnsRows ledger ledger m m 0 rows (set rows 0 row) (merged changes (tree_pairs m root)) (tree_nodes m root) before before
fill-none ledger m root rows row d changes before none hand some even pairs =
    turns-are ledger ledger m m 0 rows (set rows 0 row) (merged changes []) (merged changes (tree_pairs m root)) [] (tree_nodes m root) before before
    (ap (λ r. merged changes (tree_pairs m r)) (sym none)) (ap (tree_nodes m) (sym none)) (row-more ledger m rows row d (merged changes []) before hand some even pairs)

module _ {V : Type 0} (order : V → V → Ordering) (can_read : Records → ℕ → Type 0) (read : Records → ℕ → V) (reads_from : Records → ℕ → List ℕ) (m : Records) (root : ℕ)
    (keyed : IsKeyedTree order read can_read reads_from m root) (some : 0 < root) (level : ℕ) (level_is : level ≡ root_level m root) where
  pub top-keyed : AreKeyed order read can_read reads_from m (pairs_below m level root)
  top-keyed = subst (AreKeyed order read can_read reads_from m) (root-pairs order read m root keyed.tree some level level_is)
      (record { ascends = keyed.tree.ascends; readable = keyed.readable; apart = keyed.apart })

  pub fill-below : {H : Type 0} (old new : Ledger H) (n : Records) (rows rows2 : List Row) (changes : List Change) (before after : List ℕ)
      → TurnsRows old new m n 0 rows rows2 (merged changes (pairs_below m level root)) (nodes_below m level root) before after
      → TurnsRows old new m n 0 rows rows2 (merged changes (tree_pairs m root)) (tree_nodes m root) before after
  fill-below old new n rows rows2 changes before after turns =
      turns-are old new m n 0 rows rows2 (merged changes (pairs_below m level root)) (merged changes (tree_pairs m root)) (nodes_below m level root) (tree_nodes m root) before after
      (ap (merged changes) (sym (root-pairs order read m root keyed.tree some level level_is))) (sym (root-nodes order read m root keyed.tree some level level_is)) turns

pub tree-few : {V : Type 0} (order : V → V → Ordering) → IsTotalOrder order → (read : Records → ℕ → V) (m : Records) (root : ℕ) → IsTree order read m root
    → ((refs : List ℕ) → IsDistinct nat_eq refs → All (λ r. length (m r) ≡ 34) refs → length refs ≤ 1973790) → length (tree_pairs m root) ≤ 31580640
tree-few order total read m root is few = tree_small m order total read root is few

-- from full rows to the tree
module _ {H : Type 0} (old mid : Ledger H) (m n : Records) (root : ℕ) (rows rows2 : List Row) (changes : List Change) (between : List ℕ)
    (empty : AreEmpty rows) (hand : AreInHand m 0 rows) (turns : TurnsRows old mid m n 0 rows rows2 (merged changes (tree_pairs m root)) (tree_nodes m root) [] between) where
  pub filled-few : length (tree_pairs m root) ≤ 31580640 → length changes < 2 ^ 31 → length (rows_pairs n 0 rows2) < 2 ^ 32
  filled-few small few =
      let a = ap length (turns.pairs_are ∙ ap (λ ps. ps ++ merged changes (tree_pairs m root)) (rows-empty-pairs m 0 rows hand empty)) in
      let b = merged-size changes (tree_pairs m root) in
      omega arith

  pub filled-owned : Owns old m (tree root ∷ []) → (r : ℕ) → times r (rows_nodes n 0 rows2) + times r between ≤ uses mid r
  filled-owned owns r =
      let a = turns.balance r in
      let b = owns.each r in
      let d = ap (times r) (rows-empty-nodes m 0 rows hand empty) in
      omega arith

  pub filled-rebuilds : (new : Ledger H) (o : Records) (after : List ℕ) (next : ℕ) → FinishesRows mid new n o 0 rows2 between after next
      → RebuildsTree old new m o root next after (merged changes (tree_pairs m root))
  filled-rebuilds new o after next finishes = record {
    node = finishes.node;
    pairs_are = finishes.pairs_are ∙ turns.pairs_are ∙ ap (λ ps. ps ++ merged changes (tree_pairs m root)) (rows-empty-pairs m 0 rows hand empty);
    balance = λ r.
        let a = turns.balance r in
        let b = finishes.balance r in
        let d = ap (times r) (rows-empty-nodes m 0 rows hand empty) in
        omega arith;
    gone_nodes = finishes.replaced (turns.replaced tt);
  }

-- the old tree's nodes are dropped
module _ {H : Type 0} (old mid : Ledger H) (m n : Records) (root next : ℕ) (gone : List ℕ) (pairs : List (ℕ × ℕ))
    (owns : Owns old m (tree root ∷ [])) (it : RebuildsTree old mid m n root next gone pairs) (keeps : Keeps m n)
    (recorded : (r : ℕ) → (has_record (old.status r) ≡ true) ↔ (0 < length (m r))) where
  made-turns : Turns old mid m n (tree root ∷ []) (entries gone ∷ tree next ∷ [])
  made-turns = record {
    kept = λ r h. keeps r ((recorded r).0 (used_has (old.status r) (in-uses old r (omega arith))));
    balance = λ r. let even = it.balance r in omega arith;
  }

  both-owned : Owns mid n (entries gone ∷ tree next ∷ [])
  both-owned = owns-then old mid m n (tree root ∷ []) (entries gone ∷ tree next ∷ []) owns made-turns

  pub gone-owned : Owns mid n (entries gone ∷ [])
  gone-owned = owns-some mid n (entries gone ∷ tree next ∷ []) (entries gone ∷ []) both-owned (λ r. omega arith)

  module _ (new : Ledger H) (o : Records) (drops : DropsEntries mid new n o gone) where
    left : After mid new n o (entries gone ∷ tree next ∷ []) (tree next ∷ []) (tree next ∷ [])
    left = after mid new n o (entries gone ∷ []) [] (tree next ∷ []) (entries gone ∷ tree next ∷ []) (tree next ∷ []) both-owned drops.turns (λ k r. omega arith) (λ k r. omega arith)

    pub end-turns : Turns old new m o (tree root ∷ []) (tree next ∷ [])
    end-turns = turns-then old mid new m n o (tree root ∷ []) (entries gone ∷ tree next ∷ []) (tree next ∷ []) made-turns left.turns

    pub end-owns : Owns new o (tree next ∷ [])
    end-owns = left.owns

    stay : SameAt (tree_nodes n next) n o
    stay = left.stay.0

    pub end-pairs : tree_pairs o next ≡ pairs
    end-pairs = tree_pairs-same n o next stay ∙ it.pairs_are

    end-node : 0 < next → IsRootNode o next
    end-node some = IsRootNode-same n o next stay some (it.node some)

    -- every record that is no node stays
    pub end-others : KeepsOthers m o
    end-others r other =
        drops.records r (none_gone (times r gone) (λ some. other.width (ap length (sym (keeps r other.there)) ∙ all_at_times (λ q. length (n q) ≡ 34) gone it.gone_nodes r some)))
        ∙ keeps r other.there
      where
        none_gone : (k : ℕ) → (0 < k → ⊥) → k ≡ 0
        none_gone zero never = refl
        none_gone (suc k) never = absurd (never (omega arith))

    pub end-may : MayDo old mid → MayDo old new
    end-may may = may_do-then old mid new may drops.may

    pub end-keyed : {V : Type 0} (order : V → V → Ordering) (can_read : Records → ℕ → Type 0) (read : Records → ℕ → V) (reads_from : Records → ℕ → List ℕ)
        → (stays : (j k : Records) (key : ℕ) → can_read j key → SameAt (reads_from j key) j k → can_read k key × (read k key ≡ read j key))
        → (steady : (j k : Records) (key : ℕ) → can_read j key → SameAt (reads_from j key) j k → reads_from k key ≡ reads_from j key)
        → AllReadable can_read m pairs → NoneReadsNodes reads_from m pairs → Ascends order read m pairs → IsKeyedTree order read can_read reads_from o next
    end-keyed order can_read read reads_from stays steady can none up =
        keyed-from order can_read read reads_from stays steady m o end-others next pairs end-node end-pairs can none up

-- the pairs after the changes have keys as the old ones
before-all : (P : ℕ × ℕ → Type 0) (c : ℕ → Ordering) (ps : List (ℕ × ℕ)) → AllByRecursion P ps → AllByRecursion P (before c ps)
before-all P c [] all = tt
before-all P c (p ∷ ps) all =
    elim (c p.0) as (λ o. AllByRecursion P (choose o (p ∷ before c ps) [] [])) [
      | Less ↦ (all.0, before-all P c ps all.1)
      | Equal ↦ tt
      | Greater ↦ tt
    ]

module _ {V C : Type 0} (order : V → V → Ordering) (total : IsTotalOrder order) (can_read : Records → ℕ → Type 0) (read : Records → ℕ → V) (reads_from : Records → ℕ → List ℕ)
    (sought : C → V) (pair : C → Option (ℕ × ℕ)) (m : Records) where
  abbrev seen : List C → List Change
  seen changes = seen_changes read order sought pair m changes

  abbrev words : List C → Type 0
  words changes = AllByRecursion (λ c. IsPairOf order read can_read reads_from (sought c) m (pair c)) changes

  pair-all : (P : ℕ × ℕ → Type 0) → ((s : V) (p : ℕ × ℕ) → IsKeyWord order read can_read reads_from s m p.0 → P p) → (s : V) (o : Option (ℕ × ℕ))
      → IsPairOf order read can_read reads_from s m o → AllByRecursion P (pair_of o)
  pair-all P each s None is = tt
  pair-all P each s (Some p) is = (each s p is, tt)

  pub merged-all : (P : ℕ × ℕ → Type 0) → ((s : V) (p : ℕ × ℕ) → IsKeyWord order read can_read reads_from s m p.0 → P p) → (changes : List C) (ps : List (ℕ × ℕ))
      → words changes → AllByRecursion P ps → AllByRecursion P (merged (seen changes) ps)
  merged-all P each [] ps is all = all
  merged-all P each (c ∷ changes) ps is all =
      let key : ℕ → Ordering = λ k. order (read m k) (sought c) in
      AllByRecursion-append P (before key ps) (pair_of (pair c) ++ merged (seen changes) (behind key ps)) (before-all P key ps all)
      (AllByRecursion-append P (pair_of (pair c)) (merged (seen changes) (behind key ps)) (pair-all P each (sought c) (pair c) is.0)
      (merged-all P each changes (behind key ps) is.1 (behind-all P key ps all)))

  own-key : (s : V) (o : Option (ℕ × ℕ)) → IsPairOf order read can_read reads_from s m o → IsOwn (λ k. order (read m k) s) o
  own-key s None is = tt
  own-key s (Some p) is = is.equal

  own-keys : (changes : List C) → words changes → AllByRecursion HasOwnKey (seen changes)
  own-keys [] is = tt
  own-keys (c ∷ changes) is = (own-key (sought c) (pair c) is.0, own-keys changes is.1)

  changed-ascends : (s : V) (o : Option (ℕ × ℕ)) (ps : List (ℕ × ℕ)) → IsPairOf order read can_read reads_from s m o → Ascends order read m ps
      → Ascends order read m (changed (record { compare = λ k. order (read m k) s; pair = o }) ps)
  changed-ascends s None ps is up = take_out-ascends order (read m) (λ k. order (read m k) s) ps up
  changed-ascends s (Some p) ps is up = put-ascends order (read m) total s p ps is.equal up

  changed_by-ascends : (changes : List C) (ps : List (ℕ × ℕ)) → words changes → Ascends order read m ps → Ascends order read m (changed_by (seen changes) ps)
  changed_by-ascends [] ps is up = up
  changed_by-ascends (c ∷ changes) ps is up =
      changed_by-ascends changes (changed (record { compare = λ k. order (read m k) (sought c); pair = pair c }) ps) is.1 (changed-ascends (sought c) (pair c) ps is.0 up)

  pub merged-ascends : (changes : List C) (ps : List (ℕ × ℕ)) → IsStrictlySortedBy order (map sought changes) → words changes → Ascends order read m ps
      → Ascends order read m (merged (seen changes) ps)
  merged-ascends changes ps sorted is up =
      subst (Ascends order read m) (sym (one-by-one (seen changes) ps (in-order order total read sought pair m changes sorted) (own-keys changes is)))
      (changed_by-ascends changes ps is up)
