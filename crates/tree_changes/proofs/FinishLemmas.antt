-- The tree of all rows.
use Rattle.std.proofs.Common.{◌≡◌, inl, inr, ◌⊎◌, ℕ, zero, suc, ◌+◌, ◌*◌, ◌<◌, ◌≤◌, List, [], ◌∷◌, ◌++◌, length, nat_eq, false, ne_eqb, refl, sym, ap, subst, ◌∙◌, arith, length-append}
use Rattle.std.proofs.lemmas.Bool.{cases_eq}
use Rattle.std.proofs.lemmas.List.Elements.{All-from_recursion}
use Rattle.std.specs.List.{flat_map, All, AllByRecursion, IsDistinct}
use Rattle.list_lemmas.proofs.Each.{AllByRecursion-flat_map}
use Rattle.entry_ref.specs.Records.{Records}
use Rattle.store_api.specs.Ledgers.{Ledger}
use Rattle.store_api.specs.Parts.{times, uses, EachOnce}
use Rattle.store_api.proofs.Times.{times-append, times-same, times-other}
use Rattle.store_api.proofs.Uses.{uses-few}
use Rattle.tree_read.specs.Trees.{pairs_below, nodes_below, IsNode, Keeps}
use Rattle.tree_read.specs.Slots.{slot_pairs, slot_nodes, IsInHand}
use Rattle.tree_read.proofs.Bounds.{pairs_fit, nodes_wide}
use Rattle.tree_read.proofs.ChildLemmas.{pairs-some}
use Rattle.tree_read.proofs.CountLemmas.{leaf_count}
use Rattle.tree_read.proofs.SlotLemmas.{child_nodes, slot_pairs-inner, slot_nodes-inner}
use Rattle.frozen_btree.specs.Builds.{BuildsTree}
use Rattle.tree_changes.specs.Layers.{rows_pairs, rows_nodes, AreInHand, AreEmpty, OpensRows, RaisesRow, FinishesRows}
use Rattle.frozen_btree.specs.declared.rows.Row.{Row}
use Rattle.tree_changes.proofs.LayerLemmas.{empty-pairs, empty-nodes, no_items, nodes-stay}

-- references that stand once are distinct
apart-all : (q : ℕ) (qs : List ℕ) → times q qs ≡ 0 → AllByRecursion (λ y. nat_eq q y ≡ false) qs
apart-all q [] none = tt
apart-all q (y ∷ qs) none = elim (cases_eq q y) [
  | inl e ↦ (let is = times-same q y qs e in absurd (omega arith))
  | inr ne ↦ (ne_eqb q y ne, apart-all q qs (let is = times-other q y qs ne in omega arith))
]

distinct_from_once : (qs : List ℕ) → EachOnce qs → IsDistinct nat_eq qs
unfolding IsDistinct
distinct_from_once [] once = tt
distinct_from_once (q ∷ qs) once =
    (apart-all q qs (let one = once q in let is = times-same q q qs refl in omega arith), distinct_from_once qs (λ r. let one = once r in omega arith))

-- rows without slots
pub row-empty-pairs : (m : Records) (level : ℕ) (keys values : List ℕ) → IsInHand m level keys values → keys ≡ [] → slot_pairs m level keys values ≡ []
row-empty-pairs m level keys values hand none =
    ap (λ k. slot_pairs m level k values) none ∙ ap (λ v. slot_pairs m level [] v) (no_items values (sym hand.even ∙ ap length none)) ∙ empty-pairs m level

row-empty-nodes : (m : Records) (level : ℕ) (keys values : List ℕ) → IsInHand m level keys values → keys ≡ [] → slot_nodes m level values ≡ []
row-empty-nodes m level keys values hand none = ap (λ v. slot_nodes m level v) (no_items values (sym hand.even ∙ ap length none)) ∙ empty-nodes m level

pub rows-empty-pairs : (m : Records) (level : ℕ) (rows : List Row) → AreInHand m level rows → AreEmpty rows → rows_pairs m level rows ≡ []
rows-empty-pairs m level [] hand empty = refl
rows-empty-pairs m level (row ∷ rows) hand empty =
    ap (λ ps. ps ++ slot_pairs m level row.keys.items row.nodes.items) (rows-empty-pairs m (suc level) rows hand.1 empty.1)
    ∙ row-empty-pairs m level row.keys.items row.nodes.items hand.0 empty.0

pub rows-empty-nodes : (m : Records) (level : ℕ) (rows : List Row) → AreInHand m level rows → AreEmpty rows → rows_nodes m level rows ≡ []
rows-empty-nodes m level [] hand empty = refl
rows-empty-nodes m level (row ∷ rows) hand empty =
    ap (λ ps. ps ++ slot_nodes m level row.nodes.items) (rows-empty-nodes m (suc level) rows hand.1 empty.1)
    ∙ row-empty-nodes m level row.keys.items row.nodes.items hand.0 empty.0

-- slots have pairs
slots-some : (m : Records) (level : ℕ) (ks vs : List ℕ) → IsInHand m level ks vs → 0 < length ks → 0 < length (slot_pairs m level ks vs)
slots-some m zero ks vs hand some = let count = leaf_count m ks vs 0 refl hand in omega arith
slots-some m (suc level) ks [] hand some = let even = hand.even in absurd (omega arith)
slots-some m (suc level) ks (v ∷ vs) hand some =
    let first = pairs-some m 8 level v (omega arith) (child_nodes m level ks (v ∷ vs) hand).0 in
    let whole = ap length (slot_pairs-inner m level ks (v ∷ vs)) in
    let parts = length-append (pairs_below m level v) (flat_map (pairs_below m level) vs) in
    omega arith

none-or-some : (ks : List ℕ) → (ks ≡ []) ⊎ (0 < length ks)
none-or-some [] = inl refl
none-or-some (k ∷ ks) = inr (omega arith)

pub some-rows : (m : Records) (level : ℕ) (rows : List Row) → AreInHand m level rows → (AreEmpty rows → ⊥) → 0 < length (rows_pairs m level rows)
some-rows m level [] hand not = absurd (not tt)
some-rows m level (row ∷ rows) hand not =
    let size = length-append (rows_pairs m (suc level) rows) (slot_pairs m level row.keys.items row.nodes.items) in
    elim (none-or-some row.keys.items) [
      | inl none ↦ (let above = some-rows m (suc level) rows hand.1 (λ empty. not (none, empty)) in omega arith)
      | inr some ↦ (let here = slots-some m level row.keys.items row.nodes.items hand.0 some in omega arith)
    ]

-- a row above the leaves has few pairs, since it is of distinct nodes
fit-all : (m : Records) (level : ℕ) (vs : List ℕ) → AllByRecursion (IsNode m 8 level) vs → length (flat_map (pairs_below m level) vs) ≤ 16 * length (flat_map (nodes_below m level) vs)
fit-all m level [] all = omega arith
fit-all m level (v ∷ vs) all =
    let here = pairs_fit m 8 level v all.0 in
    let rest = fit-all m level vs all.1 in
    let a = length-append (pairs_below m level v) (flat_map (pairs_below m level) vs) in
    let b = length-append (nodes_below m level v) (flat_map (nodes_below m level) vs) in
    omega arith

pub owned-few : {H : Type 0} (ledger : Ledger H) (m : Records) (level : ℕ) (ks vs : List ℕ) → IsInHand m level ks vs → ((r : ℕ) → times r (slot_nodes m level vs) ≤ uses ledger r)
    → ((refs : List ℕ) → IsDistinct nat_eq refs → All (λ r. length (m r) ≡ 34) refs → length refs ≤ 1973790) → 0 < level → length (slot_pairs m level ks vs) ≤ 31580640
owned-few ledger m zero ks vs hand owned few above = absurd (omega arith)
owned-few ledger m (suc level) ks vs hand owned few above =
    let nodes = flat_map (nodes_below m level) vs in
    let children = child_nodes m level ks vs hand in
    let wide = AllByRecursion-flat_map (λ r. length (m r) ≡ 34) (IsNode m 8 level) (nodes_below m level) (λ v is. nodes_wide m 8 level v is) vs children in
    let once : (r : ℕ) → times r nodes ≤ 1 = (λ r. let a = owned r in let b = uses-few ledger r in let e = ap (times r) (slot_nodes-inner m level vs) in omega arith) in
    let count = few nodes (distinct_from_once nodes once) (All-from_recursion (λ r. length (m r) ≡ 34) nodes wide) in
    let fit = fit-all m level vs children in
    let whole = ap length (slot_pairs-inner m level ks vs) in
    omega arith

-- all slots are in the first row
module _ (m : Records) (level : ℕ) (row : Row) (above : List Row) (hand : AreInHand m level (row ∷ above)) (empty : AreEmpty above) where
  only-pairs : rows_pairs m level (row ∷ above) ≡ slot_pairs m level row.keys.items row.nodes.items
  only-pairs = ap (λ ps. ps ++ slot_pairs m level row.keys.items row.nodes.items) (rows-empty-pairs m (suc level) above hand.1 empty)

  only-nodes : rows_nodes m level (row ∷ above) ≡ slot_nodes m level row.nodes.items
  only-nodes = ap (λ ps. ps ++ slot_nodes m level row.nodes.items) (rows-empty-nodes m (suc level) above hand.1 empty)

  module _ (rows : List Row) (before after : List ℕ) (opens : OpensRows m level rows (row ∷ above) before after) where
    pub last-some : (0 < level → 0 < length (rows_pairs m level rows)) → 0 < level → 0 < length row.keys.items
    last-some some high =
        elim (none-or-some row.keys.items) [
          | inl none ↦ (let a = some high in let b = ap length opens.pairs_are in let d = ap length only-pairs in
              let e = ap length (row-empty-pairs m level row.keys.items row.nodes.items hand.0 none) in absurd (omega arith))
          | inr here ↦ here
        ]

    pub last-few : {H : Type 0} (ledger : Ledger H) → ((r : ℕ) → times r (rows_nodes m level rows) + times r before ≤ uses ledger r)
        → ((refs : List ℕ) → IsDistinct nat_eq refs → All (λ r. length (m r) ≡ 34) refs → length refs ≤ 1973790) → 0 < level
        → length (slot_pairs m level row.keys.items row.nodes.items) ≤ 31580640
    last-few ledger owned few high = owned-few ledger m level row.keys.items row.nodes.items hand.0
        (λ r. let a = owned r in let b = opens.balance r in let e = ap (times r) only-nodes in omega arith) few high

    pub finish-built : {H : Type 0} (old new : Ledger H) (n : Records) (keys values : List ℕ) (root : ℕ) → Keeps m n → keys ≡ row.keys.items → values ≡ row.nodes.items
        → BuildsTree old new m n level keys values root → FinishesRows old new m n level rows before after root
    finish-built old new n keys values root keeps ks vs builds = record {
      node = builds.node;
      pairs_are = builds.pairs_are ∙ ap (λ k. slot_pairs m level k values) ks ∙ ap (λ v. slot_pairs m level row.keys.items v) vs
          ∙ sym only-pairs ∙ opens.pairs_are;
      balance = λ r.
          let a = builds.balance r in
          let b = opens.balance r in
          let e = ap (times r) only-nodes in
          let f = ap (λ v. times r (slot_nodes m level v)) vs in
          omega arith;
      replaced = λ all. nodes-stay m n keeps after (opens.nodes all);
    }

-- the first row became nodes above
module _ {H : Type 0} (old mid : Ledger H) (m n : Records) (level next : ℕ) (next_is : next ≡ suc level) (row : Row) (rows above above2 : List Row) (before between : List ℕ)
    (opens : OpensRows m level rows (row ∷ above) before between) (raises : RaisesRow old mid m n level row.keys.items row.nodes.items above above2) where
  pub next-hand : AreInHand n next above2
  next-hand = subst (λ l. AreInHand n l above2) (sym next_is) raises.hand

  pub next-pairs : rows_pairs n next above2 ≡ rows_pairs m level rows
  next-pairs = ap (λ l. rows_pairs n l above2) next_is ∙ raises.pairs_are ∙ opens.pairs_are

  pub next-owned : ((r : ℕ) → times r (rows_nodes m level rows) + times r before ≤ uses old r) → (r : ℕ) → times r (rows_nodes n next above2) + times r between ≤ uses mid r
  next-owned owned r =
      let same = ap (λ l. times r (rows_nodes n l above2)) next_is in
      let a = owned r in
      let b = opens.balance r in
      let d = raises.balance r in
      let e = times-append r (rows_nodes m (suc level) above) (slot_nodes m level row.nodes.items) in
      omega arith

  pub next-slots : (AreEmpty above → ⊥) → 0 < length (rows_pairs n next above2)
  next-slots not =
      let some = some-rows m (suc level) above opens.hand.1 not in
      let a = ap length (ap (λ l. rows_pairs n l above2) next_is ∙ raises.pairs_are) in
      let b = length-append (rows_pairs m (suc level) above) (slot_pairs m level row.keys.items row.nodes.items) in
      omega arith

  pub finish-raised : (new : Ledger H) (o : Records) (after : List ℕ) (root : ℕ) → Keeps m n → FinishesRows mid new n o next above2 between after root
      → FinishesRows old new m o level rows before after root
  finish-raised new o after root keeps last = record {
    node = last.node;
    pairs_are = last.pairs_are ∙ next-pairs;
    balance = λ r.
        let same = ap (λ l. times r (rows_nodes n l above2)) next_is in
        let a = last.balance r in
        let b = opens.balance r in
        let d = raises.balance r in
        let e = times-append r (rows_nodes m (suc level) above) (slot_nodes m level row.nodes.items) in
        omega arith;
    replaced = λ all. last.replaced (nodes-stay m n keeps between (opens.nodes all));
  }

pub above-some : (m : Records) (level : ℕ) (rows : List Row) → AreInHand m (suc level) rows → (AreEmpty rows → ⊥) → 0 < length rows
above-some m level [] hand not = absurd (not tt)
above-some m level (row ∷ rows) hand not = omega arith
