-- What a touch makes of a node: it stays, or it is made anew.
use Rattle.std.proofs.Common.{◌≡◌, ◌≢◌, ℕ, zero, suc, ◌+◌, ◌-◌, ◌<◌, ◌≤◌, List, [], ◌∷◌, ◌++◌, length, get_or, set, replicate, true, false, true≢false, refl, sym, ap, subst, ◌∙◌, arith, length-append, Ok, Result}
use Rattle.std.proofs.Math.Nat.{pos_of_div-pos}
use Rattle.std.proofs.lemmas.List.{append-nil}
use Rattle.std.specs.declared.cmp.Ordering.{Ordering}
use Rattle.std.specs.List.{zip}
use Rattle.entry_ref.specs.References.{buffer_of, buffer_limit}
use Rattle.entry_ref.specs.Records.{Records}
use Rattle.store_api.specs.Calls.{Makes}
use Rattle.store_api.specs.Ledgers.{Ledger}
use Rattle.store_api.specs.Parts.{times}
use Rattle.store_api.specs.Units.{MayDo}
use Rattle.store_api.specs.declared.store.StoreError.{StoreError}
use Rattle.store_api.proofs.Times.{times-append}
use Rattle.store_api.proofs.UnitLemmas.{made-record, makes-turns}
use Rattle.tree_read.specs.Nodes.{used_of, count_of, node_keys, node_values, IsNodeForm}
use Rattle.tree_read.specs.Trees.{pairs_below, nodes_below, IsNode, Keeps}
use Rattle.tree_read.proofs.TreeLemmas.{IsNode-form, leaf_pairs}
use Rattle.tree_read.proofs.SlotLemmas.{pairs-kept, nodes_below-kept, node-kept, nodes-slots, slot_nodes-leaf}
use Rattle.tree_read.specs.NodePlaces.{IsPlace}
use Rattle.frozen_nodes.proofs.MadeLemmas.{makes-any}
use Rattle.frozen_nodes.proofs.MakesLemmas.{keeps-then}
use Rattle.frozen_btree.specs.Paths.{NoneIn, path_below}
use Rattle.frozen_btree.specs.Touches.{CopiesNode, Touches}
use Rattle.frozen_btree.proofs.CopyLemmas.{child-node, child-nodes, over-pairs, over-node, over-nodes, over-path}
use Rattle.frozen_btree.proofs.PathLemmas.{child-place, path-leaf, path-over, path-kept}

-- a node of these words was made
pub copies-made : {H : Type 0} (bits : ℕ) (old new : Ledger H) (m n : Records) (words : List ℕ) (ref : ℕ) → length words ≡ 34 → Makes bits old new m n 34 words ref → MayDo old new
    → CopiesNode bits old new m n words ref
copies-made bits old new m n words ref size makes may =
    let result : Result ℕ StoreError = Ok ref in
    record {
      some = pos_of_div-pos (buffer_limit bits) makes.place.first;
      words_are =
          made-record bits old new m n 34 words ref makes
          ∙ ap (λ k. words ++ replicate k 0) (let none : 34 - length words ≡ 0 = omega arith in none) ∙ append-nil words;
      used = λ r. let even = (makes-turns bits old new m n 34 words ref makes).balance r in omega arith;
      unsealed = makes.unsealed;
      makes = makes-any bits old new m n words result makes tt tt may;
    }

raise : (level least : ℕ) (ws : List ℕ) → IsNodeForm level least ws → IsNodeForm level (used_of ws) ws
raise level least ws f = record { size = f.size; at_level = f.at_level; filled = omega arith; room = f.room; no_key = f.no_key; no_value = f.no_value; few = f.few }

-- a node has as many slots used as it has
node-raise : (m : Records) (least level ref : ℕ) → IsNode m least level ref → IsNode m (used_of (m ref)) level ref
unfolding IsNode
node-raise m least zero ref node = (raise 0 least (m ref) node.0, node.1)
node-raise m least (suc level) ref node = (raise (suc level) least (m ref) node.0, node.1, node.2, node.3)

leaf-nodes : (m : Records) (ref : ℕ) → nodes_below m 0 ref ≡ ref ∷ []
leaf-nodes m ref = nodes-slots m 0 ref ∙ ap (λ qs. ref ∷ qs) (slot_nodes-leaf m (node_values (m ref)))

leaf-copied : (m n : Records) (node ref : ℕ) → IsNode m 1 0 node → n ref ≡ m node → pairs_below n 0 ref ≡ pairs_below m 0 node → IsNode n (used_of (m node)) 0 ref
unfolding IsNode
leaf-copied m n node ref is words pairs = (
  subst (IsNodeForm 0 (used_of (m node))) (sym words) (raise 0 1 (m node) is.0),
  ap count_of words ∙ is.1 ∙ sym (ap length pairs),
)

-- a made entry lies in no sealed buffer
apart-from : {H : Type 0} (bits buffer : ℕ) (old mid new : Ledger H) (ref : ℕ) → old.sealed buffer ≡ true → mid.sealed ≡ old.sealed → new.sealed ≡ mid.sealed
    → new.sealed (buffer_of bits ref) ≡ false → buffer_of bits ref ≢ buffer
apart-from bits buffer old mid new ref sealed first second unsealed e =
    absurd (true≢false (sym sealed ∙ sym (ap (λ f. f buffer) first) ∙ sym (ap (λ f. f buffer) second) ∙ sym (ap new.sealed e) ∙ unsealed))

module _ {H : Type 0} (bits buffer : ℕ) (c : ℕ → Ordering) (node : ℕ) (before : List ℕ) (some : 0 < node) where
  -- a leaf stays
  pub leaf-stays : (old : Ledger H) (m : Records) → IsNode m 1 0 node → buffer_of bits node ≢ buffer → Touches bits buffer c old old m m 0 node node before before
  leaf-stays old m node_is ne = record {
    some = some;
    node_is = node-raise m 1 0 node node_is;
    pairs_are = refl;
    path = omega arith;
    gone = λ r. omega arith;
    balance = λ r. omega arith;
    apart = subst (NoneIn bits buffer) (sym (path-leaf m c node)) (ne, tt);
  }

  -- a leaf is made anew
  pub leaf-anew : (old new : Ledger H) (m n : Records) (ref : ℕ) (after : List ℕ) → IsNode m 1 0 node → old.sealed buffer ≡ true → after ≡ before ++ node ∷ []
      → CopiesNode bits old new m n (m node) ref → Touches bits buffer c old new m n 0 node ref before after
  leaf-anew old new m n ref after node_is sealed after_is copies =
      let pairs : pairs_below n 0 ref ≡ pairs_below m 0 node =
      leaf_pairs n ref ∙ ap (λ ws. zip (node_keys ws) (node_values ws)) copies.words_are ∙ sym (leaf_pairs m node) in
      record {
        some = copies.some;
        node_is = leaf-copied m n node ref node_is copies.words_are pairs;
        pairs_are = pairs;
        path = let all = ap length after_is in let both = length-append before (node ∷ []) in omega arith;
        gone = λ r.
            let all = ap (times r) after_is in
            let both = times-append r before (node ∷ []) in
            let was = ap (times r) (leaf-nodes m node) in
            omega arith;
        balance = λ r.
            let all = ap (times r) after_is in
            let both = times-append r before (node ∷ []) in
            let was = ap (times r) (leaf-nodes m node) in
            let now = ap (times r) (leaf-nodes n ref) in
            let used = copies.used r in
            omega arith;
        apart = subst (NoneIn bits buffer) (sym (path-leaf n c ref)) (apart-from bits buffer old old new ref sealed refl copies.makes.may.sealed copies.unsealed, tt);
      }

  -- a node above the leaves, over its child on the way after a touch
  module _ (old mid : Ledger H) (m n : Records) (l i next : ℕ) (between : List ℕ) (node_is : IsNode m 1 (suc l) node)
      (even : length (node_keys (m node)) ≡ length (node_values (m node))) (place : IsPlace c (node_keys (m node)) i) (keeps : Keeps m n)
      (x : Touches bits buffer c old mid m n l (get_or (node_values (m node)) i 0) next before between) where
    low : i < length (node_values (m node))
    low = let within = place.within in omega arith

    -- it stays
    pub node-stays : next ≡ get_or (node_values (m node)) i 0 → buffer_of bits node ≢ buffer → Touches bits buffer c old mid m n (suc l) node node before between
    node-stays same ne =
        let child = child-node m 1 l node i node_is low in
        record {
          some = some;
          node_is = node-kept m n keeps (used_of (m node)) (suc l) node (node-raise m 1 (suc l) node node_is);
          pairs_are = pairs-kept m n keeps 1 (suc l) node node_is;
          path = let path = x.path in omega arith;
          gone = λ r. let gone = x.gone r in let part = child-nodes m 1 l node i node_is low r in omega arith;
          balance = λ r.
              let even_now = x.balance r in
              let kept = ap (times r) (nodes_below-kept m n keeps 1 (suc l) node node_is) in
              let below = ap (times r) (ap (nodes_below n l) same ∙ nodes_below-kept m n keeps 8 l (get_or (node_values (m node)) i 0) child) in
              omega arith;
          apart =
              subst (NoneIn bits buffer)
              (sym (path-kept m n c 1 (suc l) node (omega arith) keeps node_is ∙ path-over m c l node
              ∙ ap (λ q. node ∷ path_below m c l q) (child-place c (node_keys (m node)) (node_values (m node)) i even place)
              ∙ ap (λ qs. node ∷ qs) (sym (path-kept m n c 8 l (get_or (node_values (m node)) i 0) (omega arith) keeps child) ∙ ap (path_below n c l) (sym same))))
              (ne, x.apart);
        }

    -- it is made anew
    module _ (new : Ledger H) (o : Records) (ref : ℕ) (after : List ℕ) (sealed : old.sealed buffer ≡ true) (may : MayDo old mid)
        (after_is : after ≡ between ++ node ∷ []) (copies : CopiesNode bits mid new n o (set (m node) (18 + i) next) ref) where
      many : 8 ≤ used_of (m (get_or (node_values (m node)) i 0))
      many = (IsNode-form m 8 l (get_or (node_values (m node)) i 0) (child-node m 1 l node i node_is low)).filled

      pub node-anew : Touches bits buffer c old new m o (suc l) node ref before after
      node-anew =
          let all = keeps-then m n o keeps copies.makes.keeps in
          let few = used_of (m (get_or (node_values (m node)) i 0)) in
          record {
            some = copies.some;
            node_is = over-node m n o 1 l node i next few ref node_is low keeps all copies.makes.keeps many x.node_is x.pairs_are copies.words_are;
            pairs_are = over-pairs m n o 1 l node i next few ref node_is low keeps all copies.makes.keeps many x.node_is x.pairs_are copies.words_are;
            path = let path = x.path in let size = ap length after_is in let both = length-append between (node ∷ []) in omega arith;
            gone = λ r.
                let gone = x.gone r in
                let part = child-nodes m 1 l node i node_is low r in
                let all_gone = ap (times r) after_is in
                let both = times-append r between (node ∷ []) in
                omega arith;
            balance = λ r.
                let even_now = x.balance r in
                let used = copies.used r in
                let all_gone = ap (times r) after_is in
                let both = times-append r between (node ∷ []) in
                let nodes = over-nodes m n o 1 l node i next few ref node_is low keeps all copies.makes.keeps many x.node_is x.pairs_are copies.words_are r in
                omega arith;
            apart =
                subst (NoneIn bits buffer)
                (sym (over-path m n o 1 l node i next few ref node_is low keeps all copies.makes.keeps many x.node_is x.pairs_are copies.words_are c place))
                (apart-from bits buffer old mid new ref sealed may.sealed copies.makes.may.sealed copies.unsealed, x.apart);
          }

-- where none on the way lies in the buffer, the node does not, and none on the way from its child
pub way-apart : (bits buffer : ℕ) (m : Records) (c : ℕ → Ordering) (l node i : ℕ) → length (node_keys (m node)) ≡ length (node_values (m node)) → IsPlace c (node_keys (m node)) i
    → NoneIn bits buffer (path_below m c (suc l) node) → (buffer_of bits node ≢ buffer) × NoneIn bits buffer (path_below m c l (get_or (node_values (m node)) i 0))
way-apart bits buffer m c l node i even place none =
    subst (NoneIn bits buffer) (path-over m c l node ∙ ap (λ q. node ∷ path_below m c l q) (child-place c (node_keys (m node)) (node_values (m node)) i even place)) none
