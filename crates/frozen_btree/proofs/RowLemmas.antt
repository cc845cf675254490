-- The nodes of a level, made one after another.
use Rattle.std.proofs.Common.{◌≡◌, ℕ, zero, suc, ◌+◌, ◌-◌, ◌<◌, ◌≤◌, ◌^◌, List, [], ◌∷◌, ◌++◌, length, take, drop, refl, sym, ap, subst, ◌∙◌, arith, length-take, length-drop}
use Rattle.std.proofs.Math.Seq.{take-add}
use Rattle.std.proofs.lemmas.List.{take_all}
use Rattle.entry_ref.specs.Records.{Records}
use Rattle.store_api.specs.Ledgers.{Ledger}
use Rattle.store_api.specs.Parts.{times}
use Rattle.store_api.specs.declared.store.StoreError.{StoreError}
use Rattle.store_api.specs.declared.store.StoreError.TheVariants.{Memory}
use Rattle.store_api.specs.Calls.{Refuses}
use Rattle.store_api.proofs.Times.{times-append}
use Rattle.tree_read.specs.Trees.{Keeps}
use Rattle.tree_read.specs.Slots.{slot_pairs, slot_nodes, IsInHand}
use Rattle.tree_read.proofs.ChildLemmas.{IsNode-lower}
use Rattle.tree_read.proofs.CountLemmas.{leaf_count}
use Rattle.tree_read.proofs.SlotLemmas.{slot_pairs-append, slot_nodes-append, slot_pairs-kept, slot_nodes-kept, slot_pairs-one, slot_nodes-one, slot_pairs-leaf, slot_nodes-leaf, slot_pairs-inner, slot_nodes-inner}
use Rattle.tree_read.proofs.SlotLemmas.{hand-append, hand-kept, hand-none, hand-one, hand-take, hand-drop, even-take, few-take, few-drop}
use Rattle.frozen_nodes.specs.Makes.{MakesNode}
use Rattle.frozen_btree.specs.Builds.{AddsPart, MakesRow}
use Rattle.frozen_btree.proofs.GroupLemmas.{IsGroup}

-- out of memory says nothing
pub refuses-memory : {H : Type 0} (old new : Ledger H) (width : ℕ) (e : StoreError) → e ≡ Memory → Refuses old new width e
refuses-memory old new width e is = subst (Refuses old new width) (sym is) tt

no-pairs : (m : Records) (level : ℕ) → slot_pairs m level [] [] ≡ []
no-pairs m zero = slot_pairs-leaf m [] []
no-pairs m (suc level) = slot_pairs-inner m level [] []

no-nodes : (m : Records) (level : ℕ) → slot_nodes m level [] ≡ []
no-nodes m zero = slot_nodes-leaf m []
no-nodes m (suc level) = slot_nodes-inner m level []

-- of no slot no node was made
pub row-none : {H : Type 0} (ledger : Ledger H) (m : Records) (level : ℕ) → MakesRow ledger ledger m m level [] [] [] []
row-none ledger m level = record {
  hand = hand-none m (suc level);
  pairs_are = no-pairs m (suc level) ∙ sym (no-pairs m level);
  balance = λ r. let none = ap (times r) (no-nodes m (suc level)) in let below = ap (times r) (no-nodes m level) in omega arith;
}

-- one more
module _ {H : Type 0} (old mid new : Ledger H) (m n o : Records) (level : ℕ) (ks1 vs1 ks2 vs2 rk rv rk2 rv2 : List ℕ) (even : length ks1 ≡ length vs1) (hand : IsInHand m level ks2 vs2)
    (first : Keeps m n) (row : MakesRow old mid m n level ks1 vs1 rk rv) (many : 8 ≤ length ks2) (adds : AddsPart mid new n o level ks2 vs2 rk rv rk2 rv2) where
  made : MakesNode mid new n o level ks2 vs2 adds.part.node
  made = adds.made.node

  second : Keeps n o
  second = made.makes.keeps

  one : IsInHand o (suc level) (adds.part.key ∷ []) (adds.part.node ∷ [])
  one = hand-one o level adds.part.key adds.part.node adds.made.key (IsNode-lower o (length ks2) 8 level adds.part.node many made.node)

  rest : slot_pairs o (suc level) rk rv ≡ slot_pairs m level ks1 vs1
  rest = slot_pairs-kept n o second (suc level) rk rv row.hand ∙ row.pairs_are

  last : slot_pairs o (suc level) (adds.part.key ∷ []) (adds.part.node ∷ []) ≡ slot_pairs m level ks2 vs2
  last = slot_pairs-one o level adds.part.key adds.part.node ∙ made.pairs ∙ slot_pairs-kept m n first level ks2 vs2 hand

  both : MakesRow old new m o level (ks1 ++ ks2) (vs1 ++ vs2) (rk ++ adds.part.key ∷ []) (rv ++ adds.part.node ∷ [])
  both = record {
    hand = hand-append o (suc level) rk rv (adds.part.key ∷ []) (adds.part.node ∷ []) (hand-kept n o second (suc level) rk rv row.hand) one;
    pairs_are =
        slot_pairs-append o (suc level) rk rv (adds.part.key ∷ []) (adds.part.node ∷ []) row.hand.even
        ∙ ap (λ ps. ps ++ slot_pairs o (suc level) (adds.part.key ∷ []) (adds.part.node ∷ [])) rest
        ∙ ap (λ ps. slot_pairs m level ks1 vs1 ++ ps) last
        ∙ sym (slot_pairs-append m level ks1 vs1 ks2 vs2 even);
    balance = λ r.
        let before = row.balance r in
        let used = made.used r in
        let now : times r (slot_nodes o (suc level) (rv ++ adds.part.node ∷ [])) ≡ times r (slot_nodes o (suc level) rv ++ slot_nodes o (suc level) (adds.part.node ∷ [])) =
        ap (times r) (slot_nodes-append o (suc level) rv (adds.part.node ∷ [])) in
        let a = times-append r (slot_nodes o (suc level) rv) (slot_nodes o (suc level) (adds.part.node ∷ [])) in
        let kept = ap (times r) (slot_nodes-kept n o second (suc level) rk rv row.hand) in
        let new_is : times r (slot_nodes o (suc level) (adds.part.node ∷ [])) ≡ times r ((adds.part.node ∷ []) ++ slot_nodes m level vs2) =
        ap (times r) (slot_nodes-one o level adds.part.node ∙ made.nodes ∙ ap (λ qs. adds.part.node ∷ qs) (slot_nodes-kept m n first level ks2 vs2 hand)) in
        let b = times-append r (adds.part.node ∷ []) (slot_nodes m level vs2) in
        let whole : times r (slot_nodes m level (vs1 ++ vs2)) ≡ times r (slot_nodes m level vs1 ++ slot_nodes m level vs2) = ap (times r) (slot_nodes-append m level vs1 vs2) in
        let d = times-append r (slot_nodes m level vs1) (slot_nodes m level vs2) in
        omega arith;
  }

  pub row-more : MakesRow old new m o level (ks1 ++ ks2) (vs1 ++ vs2) rk2 rv2
  row-more =
      subst (λ ks. MakesRow old new m o level (ks1 ++ ks2) (vs1 ++ vs2) ks rv2) (sym adds.keys_are)
      (subst (λ vs. MakesRow old new m o level (ks1 ++ ks2) (vs1 ++ vs2) (rk ++ adds.part.key ∷ []) vs) (sym adds.nodes_are) both)

-- a part of the slots in hand
module _ (m : Records) (level : ℕ) (ks vs : List ℕ) (hand : IsInHand m level ks vs) (from size : ℕ) where
  behind : IsInHand m level (drop from ks) (drop from vs)
  behind = hand-drop m level ks vs hand from

  pub part-hand : IsInHand m level (take size (drop from ks)) (take size (drop from vs))
  part-hand = hand-take m level (drop from ks) (drop from vs) behind size

  pub part-even : length (take from ks) ≡ length (take from vs)
  part-even = even-take m level ks vs hand from

  inner-few : length (slot_pairs m level ks vs) < 2 ^ 32 → length (slot_pairs m level (take size (drop from ks)) (take size (drop from vs))) < 2 ^ 32
  inner-few few =
      let all = few-drop m level ks vs hand from in
      let part = few-take m level (drop from ks) (drop from vs) behind size in
      omega arith

  pub part-few : length (take size (drop from ks)) ≤ 16 → (0 < level → length (slot_pairs m level ks vs) < 2 ^ 32)
      → length (slot_pairs m level (take size (drop from ks)) (take size (drop from vs))) < 2 ^ 32
  part-few = elim level as (λ l. l ≡ level → length (take size (drop from ks)) ≤ 16 → (0 < level → length (slot_pairs m level ks vs) < 2 ^ 32)
      → length (slot_pairs m level (take size (drop from ks)) (take size (drop from vs))) < 2 ^ 32) [
        | zero ↦ λ is small few. (let count = leaf_count m (take size (drop from ks)) (take size (drop from vs)) level (sym is) part-hand in omega arith)
        | suc l ↦ λ is small few. inner-few (few (omega arith))
      ] refl

-- one part more of a list
pub taken-more : (from to : ℕ) (xs : List ℕ) → from ≤ to → take to xs ≡ take from xs ++ take (to - from) (drop from xs)
taken-more from to xs up = ap (λ k. take k xs) (let e : to ≡ from + (to - from) = omega arith in e) ∙ take-add from (to - from) xs

pub part-size : (from to : ℕ) (xs : List ℕ) → IsGroup (length xs) from to → length (take (to - from) (drop from xs)) ≡ to - from
part-size from to xs is =
    let up = is.up in
    let within = is.within in
    let taken = length-take (to - from) (drop from xs) in
    let dropped = length-drop from xs in
    omega arith

-- before the first group, after one more, and after the last
pub row-begins : {H : Type 0} (ledger : Ledger H) (m : Records) (level done : ℕ) (ks vs rk rv : List ℕ) → done ≡ 0 → rk ≡ [] → rv ≡ []
    → MakesRow ledger ledger m m level (take done ks) (take done vs) rk rv
row-begins ledger m level done ks vs rk rv none no_keys no_nodes =
    subst (λ k. MakesRow ledger ledger m m level (take k ks) (take k vs) rk rv) (sym none)
    (subst (λ xs. MakesRow ledger ledger m m level [] [] xs rv) (sym no_keys)
    (subst (λ xs. MakesRow ledger ledger m m level [] [] [] xs) (sym no_nodes) (row-none ledger m level)))

pub row-step : {H : Type 0} (old mid new : Ledger H) (m n o : Records) (level : ℕ) (ks vs rk rv rk2 rv2 : List ℕ) (from to done next : ℕ)
    → IsInHand m level ks vs → Keeps m n → from ≡ done → to ≡ next → IsGroup (length ks) from to → MakesRow old mid m n level (take done ks) (take done vs) rk rv
    → AddsPart mid new n o level (take (to - from) (drop from ks)) (take (to - from) (drop from vs)) rk rv rk2 rv2 → MakesRow old new m o level (take next ks) (take next vs) rk2 rv2
row-step old mid new m n o level ks vs rk rv rk2 rv2 from to done next hand keeps from_is to_is is row adds =
    let before : MakesRow old mid m n level (take from ks) (take from vs) rk rv =
    subst (λ k. MakesRow old mid m n level (take k ks) (take k vs) rk rv) (sym from_is) row in
    let size = part-size from to ks is in
    let large = is.many in
    let part = part-hand m level ks vs hand from (to - from) in
    let more : MakesRow old new m o level (take from ks ++ take (to - from) (drop from ks)) (take from vs ++ take (to - from) (drop from vs)) rk2 rv2 =
    row-more old mid new m n o level (take from ks) (take from vs) (take (to - from) (drop from ks)) (take (to - from) (drop from vs)) rk rv rk2 rv2
    (part-even m level ks vs hand from (to - from)) part keeps before (omega arith) adds in
    let taken : MakesRow old new m o level (take to ks) (take to vs) rk2 rv2 =
    subst (λ xs. MakesRow old new m o level xs (take to vs) rk2 rv2) (sym (taken-more from to ks is.up))
    (subst (λ xs. MakesRow old new m o level (take from ks ++ take (to - from) (drop from ks)) xs rk2 rv2) (sym (taken-more from to vs is.up)) more) in
    subst (λ k. MakesRow old new m o level (take k ks) (take k vs) rk2 rv2) to_is taken

pub row-ends : {H : Type 0} (old new : Ledger H) (m n : Records) (level done : ℕ) (ks vs rk rv : List ℕ) → done ≡ length ks → length ks ≡ length vs
    → MakesRow old new m n level (take done ks) (take done vs) rk rv → MakesRow old new m n level ks vs rk rv
row-ends old new m n level done ks vs rk rv all even row =
    subst (λ xs. MakesRow old new m n level xs vs rk rv) (take_all done ks (omega arith))
    (subst (λ xs. MakesRow old new m n level (take done ks) xs rk rv) (take_all done vs (omega arith)) row)
