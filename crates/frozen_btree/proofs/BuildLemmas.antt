-- A tree over a row, and a whole tree.
use Rattle.std.proofs.Common.{◌≡◌, ◌↔◌, inl, inr, ℕ, zero, suc, ◌+◌, ◌-◌, ◌<◌, ◌≤◌, ◌^◌, List, [], ◌∷◌, ◌++◌, cond, length, true, false, nat_eq, nat_lt, refl, sym, ap, subst, ◌∙◌, arith, ne_eqb}
use Rattle.std.proofs.lemmas.Bool.{cases_eq, lt-ltb}
use Rattle.std.proofs.lemmas.List.Elements.{All-from_recursion}
use Rattle.std.specs.List.{zip, flat_map, All, AllByRecursion, IsDistinct}
use Rattle.list_lemmas.proofs.Each.{AllByRecursion-weaker}
use Rattle.entry_ref.specs.Records.{Records}
use Rattle.store_api.specs.Statuses.{has_record}
use Rattle.store_api.specs.Ledgers.{Ledger}
use Rattle.store_api.specs.Parts.{times, EachOnce, Owns, Turns}
use Rattle.store_api.proofs.Times.{times-same, times-other}
use Rattle.store_api.proofs.Uses.{in-uses, used_has, uses-few}
use Rattle.tree_read.specs.Trees.{nodes_below, tree_pairs, IsNode, Keeps}
use Rattle.tree_read.specs.Nodes.{node_values}
use Rattle.tree_read.specs.Slots.{slot_pairs, IsInHand}
use Rattle.tree_read.proofs.Bounds.{few_at_top}
use Rattle.tree_read.proofs.ReadLemmas.{node-size}
use Rattle.tree_read.proofs.SlotLemmas.{child_nodes, nodes-slots, slot_nodes-inner, slot_nodes-leaf, slot_pairs-inner, slot_pairs-leaf}
use Rattle.tree_read.proofs.CountLemmas.{leaf_count}
use Rattle.frozen_btree.specs.Changes.{tree, MakesRoot}
use Rattle.frozen_btree.specs.Builds.{groups, nodes_above, MakesRow, BuildsTree}
use Rattle.frozen_btree.proofs.GroupLemmas.{groups-fit}

pub builds-root : {H : Type 0} (old new : Ledger H) (m n : Records) (level : ℕ) (keys values : List ℕ) (root : ℕ) → MakesRoot old new m n level keys values root → BuildsTree old new m n level keys values root
builds-root old new m n level keys values root made = record { node = made.node; pairs_are = made.pairs_are; balance = made.balance }

pub builds-over : {H : Type 0} (old mid new : Ledger H) (m n o : Records) (level : ℕ) (ks vs rk rv : List ℕ) (root : ℕ) → MakesRow old mid m n level ks vs rk rv
    → BuildsTree mid new n o (suc level) rk rv root → BuildsTree old new m o level ks vs root
builds-over old mid new m n o level ks vs rk rv root row builds = record {
  node = builds.node;
  pairs_are = builds.pairs_are ∙ row.pairs_are;
  balance = λ r. let a = row.balance r in let b = builds.balance r in omega arith;
}

-- how many nodes
pub nodes_above-some : (levels n : ℕ) → 1 ≤ nodes_above levels n
nodes_above-some zero n = omega arith
nodes_above-some (suc levels) n =
    let rest = nodes_above-some levels (groups n) in
    elim (nat_lt 16 n) as (λ b. 1 ≤ cond b (groups n + nodes_above levels (groups n)) 1) [
      | true ↦ omega arith
      | false ↦ omega arith
    ]

pub nodes_above-more : (level n : ℕ) → level < 7 → 16 < n → nodes_above (7 - level) n ≡ groups n + nodes_above (7 - (level + 1)) (groups n)
nodes_above-more level n low many =
    ap (λ l. nodes_above l n) (let e : 7 - level ≡ suc (7 - (level + 1)) = omega arith in e)
    ∙ ap (λ b. cond b (groups n + nodes_above (7 - (level + 1)) (groups n)) 1) (lt-ltb 16 n many)

-- references that stand once are distinct
apart-all : (q : ℕ) (qs : List ℕ) → times q qs ≡ 0 → AllByRecursion (λ y. nat_eq q y ≡ false) qs
apart-all q [] none = tt
apart-all q (y ∷ qs) none = elim (cases_eq q y) [
  | inl e ↦ (let is = times-same q y qs e in absurd (omega arith))
  | inr ne ↦ (ne_eqb q y ne, apart-all q qs (let is = times-other q y qs ne in omega arith))
]

distinct_from_once : (qs : List ℕ) → EachOnce qs → IsDistinct nat_eq qs
unfolding IsDistinct
distinct_from_once [] once = tt
distinct_from_once (q ∷ qs) once =
    (apart-all q qs (let one = once q in let is = times-same q q qs refl in omega arith), distinct_from_once qs (λ r. let one = once r in omega arith))

leaves-nodes : (m : Records) (vs : List ℕ) → flat_map (nodes_below m 0) vs ≡ vs
leaves-nodes m [] = refl
leaves-nodes m (v ∷ vs) =
    ap (λ qs. qs ++ flat_map (nodes_below m 0) vs) (nodes-slots m 0 v ∙ ap (λ qs. v ∷ qs) (slot_nodes-leaf m (node_values (m v))))
    ∙ ap (λ qs. v ∷ qs) (leaves-nodes m vs)

-- a row of leaves has few pairs, since there are few distinct records of 34 words
module _ {H : Type 0} (old mid : Ledger H) (m n : Records) (ks vs rk rv : List ℕ) (even : IsInHand m 0 ks vs) (row : MakesRow old mid m n 0 ks vs rk rv)
    (size : length rk ≡ groups (length ks)) (few : (refs : List ℕ) → IsDistinct nat_eq refs → All (λ r. length (n r) ≡ 34) refs → length refs ≤ 1973790) where
  leaves-once : EachOnce rv
  leaves-once r =
      let even_now = row.balance r in
      let here = ap (times r) (slot_nodes-inner n 0 rv ∙ leaves-nodes n rv) in
      let none = ap (times r) (slot_nodes-leaf m vs) in
      let most = uses-few mid r in
      omega arith

  leaves-few : length rv ≤ 1973790
  leaves-few =
      few rv (distinct_from_once rv leaves-once)
      (All-from_recursion (λ r. length (n r) ≡ 34) rv (AllByRecursion-weaker (IsNode n 8 0) (λ r. length (n r) ≡ 34) (λ r is. node-size n 8 0 r is) rv (child_nodes n 0 rk rv row.hand)))

  row-few : length (slot_pairs n 1 rk rv) ≤ 31580640
  row-few =
      let same = ap length row.pairs_are in
      let count = leaf_count m ks vs 0 refl even in
      let fit = groups-fit (length ks) in
      let even_row = row.hand.even in
      let most = leaves-few in
      omega arith

-- and so has each row above
pub next-few : {H : Type 0} (old mid : Ledger H) (m n : Records) (level : ℕ) (ks vs rk rv : List ℕ) → IsInHand m level ks vs → MakesRow old mid m n level ks vs rk rv → length rk ≡ groups (length ks)
    → ((refs : List ℕ) → IsDistinct nat_eq refs → All (λ r. length (n r) ≡ 34) refs → length refs ≤ 1973790) → (0 < level → length (slot_pairs m level ks vs) ≤ 31580640)
    → length (slot_pairs n (suc level) rk rv) ≤ 31580640
next-few old mid m n zero ks vs rk rv hand row size few before = row-few old mid m n ks vs rk rv hand row size few
next-few old mid m n (suc level) ks vs rk rv hand row size few before = let same = ap length row.pairs_are in let all = before (omega arith) in omega arith

-- at level 7 there are fewer than a node holds
pub low-level : (m : Records) (level : ℕ) (ks vs : List ℕ) → level ≤ 7 → IsInHand m level ks vs → 16 < length ks → (0 < level → length (slot_pairs m level ks vs) ≤ 31580640) → level < 7
low-level m level ks vs low hand many few = elim (cases_eq level 7) [
  | inl at ↦ absurd (top (subst (λ l. IsInHand m l ks vs) at hand) (subst (λ l. length (slot_pairs m l ks vs) ≤ 31580640) at (few (omega arith))))
  | inr ne ↦ omega arith
]
  where
    top : IsInHand m 7 ks vs → length (slot_pairs m 7 ks vs) ≤ 31580640 → ⊥
    top here all =
        let same = ap length (slot_pairs-inner m 6 ks vs) in
        let most = few_at_top m vs (child_nodes m 6 ks vs here) (omega arith) in
        let even = here.even in
        absurd (omega arith)

-- the whole tree
module _ {H : Type 0} (old new : Ledger H) (m n : Records) (keys values : List ℕ) (root : ℕ) (builds : BuildsTree old new m n 0 keys values root) (keeps : Keeps m n)
    (recorded : (r : ℕ) → (has_record (old.status r) ≡ true) ↔ (0 < length (m r))) where
  pub built-pairs : tree_pairs n root ≡ zip keys values
  built-pairs = builds.pairs_are ∙ slot_pairs-leaf m keys values

  pub built-turns : Turns old new m n [] (tree root ∷ [])
  built-turns = record {
    kept = λ r h. keeps r ((recorded r).0 (used_has (old.status r) (in-uses old r h)));
    balance = λ r. let even = builds.balance r in let none = ap (times r) (slot_nodes-leaf m values) in omega arith;
  }

  pub built-owns : Owns new n (tree root ∷ [])
  built-owns = record { each = λ r. let even = builds.balance r in let none = ap (times r) (slot_nodes-leaf m values) in omega arith }

-- the same slots by other names
pub as_slots : (P : ℕ → List ℕ → List ℕ → Type 0) (l l2 : ℕ) (ks ks2 vs vs2 : List ℕ) → l2 ≡ l → ks2 ≡ ks → vs2 ≡ vs → P l ks vs → P l2 ks2 vs2
as_slots P l l2 ks ks2 vs vs2 level keys values p = subst (λ x. P x ks2 vs2) (sym level) (subst (λ x. P l x vs2) (sym keys) (subst (λ x. P l ks x) (sym values) p))

pub slots_as : (P : ℕ → List ℕ → List ℕ → Type 0) (l l2 : ℕ) (ks ks2 vs vs2 : List ℕ) → l2 ≡ l → ks2 ≡ ks → vs2 ≡ vs → P l2 ks2 vs2 → P l ks vs
slots_as P l l2 ks ks2 vs vs2 level keys values p = as_slots P l2 l ks2 ks vs2 vs (sym level) (sym keys) (sym values) p

-- slots of one node have few pairs
pub small-few : (m : Records) (level : ℕ) (ks vs : List ℕ) → IsInHand m level ks vs → length ks ≤ 16 → (0 < level → length (slot_pairs m level ks vs) ≤ 31580640)
    → length (slot_pairs m level ks vs) < 2 ^ 32
small-few m zero ks vs hand small few = let count = leaf_count m ks vs 0 refl hand in omega arith
small-few m (suc level) ks vs hand small few = let all = few (omega arith) in omega arith
