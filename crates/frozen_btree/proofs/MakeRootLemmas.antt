-- The root of slots in hand: none, a single child, or a node that was made.
use Rattle.std.proofs.Common.{◌≡◌, ◌≢◌, ℕ, zero, suc, ◌<◌, ◌≤◌, List, [], ◌∷◌, length, get_or, refl, sym, ap, subst, ◌∙◌, arith}
use Rattle.std.proofs.Math.Nat.{pos_of_div-pos}
use Rattle.std.proofs.lemmas.List.{nil_from_length}
use Rattle.std.specs.List.{zip, AllByRecursion}
use Rattle.entry_ref.specs.References.{buffer_limit, offset_of}
use Rattle.entry_ref.specs.Records.{Records}
use Rattle.tree_read.specs.Trees.{pairs_below, nodes_below, IsNode, root_least}
use Rattle.store_api.specs.Ledgers.{Ledger}
use Rattle.tree_read.specs.Slots.{slot_pairs, slot_nodes, IsInHand}
use Rattle.tree_read.proofs.RootLemmas.{root_least-few, root_node-is, tree_pairs-is, tree_nodes-is}
use Rattle.tree_read.proofs.SlotLemmas.{slot_pairs-leaf, slot_nodes-leaf, slot_pairs-one, slot_nodes-one, child_nodes}
use Rattle.frozen_nodes.specs.Makes.{MakesNode}
use Rattle.frozen_btree.specs.Changes.{MakesRoot}
use Rattle.store_api.specs.Parts.{times}
use Rattle.frozen_nodes.proofs.MadeLemmas.{made-balance}
use Rattle.frozen_nodes.proofs.MakesLemmas.{makes-none}

-- no slot is left
pub root-none : {H : Type 0} (ledger : Ledger H) (m : Records) (level : ℕ) (keys values : List ℕ) (root : ℕ) → root ≡ 0 → level ≡ 0 → length keys ≡ 0
    → IsInHand m level keys values → MakesRoot ledger ledger m m level keys values root
root-none ledger m level keys values root is leaf none hand =
    let no_keys : keys ≡ [] = nil_from_length keys none in
    let no_values : values ≡ [] = nil_from_length values (let even = hand.even in omega arith) in
    let pairs : slot_pairs m level keys values ≡ [] =
    ap (λ l. slot_pairs m l keys values) leaf ∙ slot_pairs-leaf m keys values ∙ ap (λ ks. zip ks values) no_keys in
    let nodes : slot_nodes m level values ≡ [] = ap (λ l. slot_nodes m l values) leaf ∙ slot_nodes-leaf m values in
    subst (MakesRoot ledger ledger m m level keys values) (sym is)
    (record {
      node = λ some. absurd (omega arith);
      pairs_are = sym pairs;
      balance = λ r. let same = ap (times r) nodes in omega arith;
      makes = makes-none ledger m 1;
    })

one_is : (xs : List ℕ) → length xs ≡ 1 → xs ≡ get_or xs 0 0 ∷ []
one_is [] one = absurd (omega arith)
one_is (x ∷ []) one = refl
one_is (x ∷ y ∷ xs) one = absurd (omega arith)

-- a single child is left
pub only-node : (m : Records) (l : ℕ) (keys values : List ℕ) → length keys ≡ 1 → IsInHand m (suc l) keys values → IsNode m 8 l (get_or values 0 0)
only-node m l keys values one hand =
    let is = one_is values (let even = hand.even in omega arith) in
    (subst (AllByRecursion (IsNode m 8 l)) is (child_nodes m l keys values hand)).0

pub root-only : {H : Type 0} (ledger : Ledger H) (m : Records) (l : ℕ) (keys values : List ℕ) (root : ℕ) → l ≤ 7 → 0 < root → root ≡ get_or values 0 0 → length keys ≡ 1
    → IsInHand m (suc l) keys values → MakesRoot ledger ledger m m (suc l) keys values root
root-only ledger m l keys values root low some at one hand =
    let values_are : values ≡ root ∷ [] = one_is values (let even = hand.even in omega arith) ∙ ap (λ v. v ∷ []) (sym at) in
    let keys_are = one_is keys one in
    let node : IsNode m 8 l root = subst (IsNode m 8 l) (sym at) (only-node m l keys values one hand) in
    let pairs : slot_pairs m (suc l) keys values ≡ pairs_below m l root =
    ap (λ ks. slot_pairs m (suc l) ks values) keys_are ∙ ap (slot_pairs m (suc l) (get_or keys 0 0 ∷ [])) values_are ∙ slot_pairs-one m l (get_or keys 0 0) root in
    let nodes : slot_nodes m (suc l) values ≡ nodes_below m l root = ap (slot_nodes m (suc l)) values_are ∙ slot_nodes-one m l root in
    record {
      node = λ here. root_node-is m 8 l root low node (root_least-few l);
      pairs_are = tree_pairs-is m 8 l root low some node ∙ sym pairs;
      balance = λ r. let a = ap (times r) nodes in let b = ap (times r) (tree_nodes-is m 8 l root low some node) in omega arith;
      makes = makes-none ledger m 1;
    }

-- the slots are made
pub root-made : {H : Type 0} (old new : Ledger H) (m n : Records) (level : ℕ) (keys values : List ℕ) (root : ℕ) → level ≤ 7 → root_least level ≤ length keys
    → MakesNode old new m n level keys values root → MakesRoot old new m n level keys values root
root-made old new m n level keys values root low more made = record {
  node = λ here. root_node-is n (length keys) level root low made.node more;
  pairs_are = tree_pairs-is n (length keys) level root low made.some made.node ∙ made.pairs;
  balance = λ r.
      let a = ap (times r) (tree_nodes-is n (length keys) level root low made.some made.node) in
      let b = made-balance old new m n level keys values root made r in
      omega arith;
  makes = made.makes;
}

pub leaf_from : (level n : ℕ) → n ≡ 0 → (0 < level → 0 < n) → level ≡ 0
leaf_from zero n none some = refl
leaf_from (suc level) n none some = absurd (let here = some (omega arith) in omega arith)

pub many_from : (level n : ℕ) → 0 < n → (0 < level → n ≢ 1) → root_least level ≤ n
many_from zero n some other = omega arith
many_from (suc level) n some other = let ne = other (omega arith) in omega arith

pub ref_some : (bits r : ℕ) → 0 < offset_of bits r → 0 < r
ref_some bits r some = pos_of_div-pos (buffer_limit bits) some
