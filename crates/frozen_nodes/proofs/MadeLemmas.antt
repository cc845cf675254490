-- A node that was made.
use Rattle.std.proofs.Common.{◌^◌, ◌≡◌, ◌≢◌, ℕ, zero, suc, ◌+◌, ◌<◌, ◌≤◌, cond, ◌-◌, List, [], ◌∷◌, ◌++◌, length, map, replicate, refl, sym, ap, subst, ◌∙◌, arith, Result, Ok, Err}
use Rattle.std.proofs.lemmas.Bool.{eq-eqb, ne_eqb}
use Rattle.std.specs.List.{zip, flat_map, AllByRecursion}
use Rattle.entry_ref.specs.Records.{Records, with_words}
use Rattle.tree_read.specs.Nodes.{count_of, node_keys, node_values, node_words, IsNodeForm}
use Rattle.tree_read.specs.Trees.{pairs_below, nodes_below, last_key, IsNode, Keeps}
use Rattle.tree_read.proofs.NodeLemmas.{node_keys-words, node_values-words, node_formed}
use Rattle.std.proofs.Math.Nat.{pos_of_div-pos}
use Rattle.std.proofs.lemmas.List.{append-nil}
use Rattle.list_lemmas.proofs.Each.{AllByRecursion-weaker}
use Rattle.entry_ref.specs.References.{buffer_limit}
use Rattle.arena_api.specs.Calls.{padded as words_padded}
use Rattle.store_api.specs.Ledgers.{Ledger}
use Rattle.store_api.specs.Units.{MayDo}
use Rattle.store_api.specs.Calls.{Makes, MayGiveBack}
use Rattle.store_api.specs.Parts.{times, uses}
use Rattle.store_api.specs.declared.store.StoreError.{StoreError}
use Rattle.frozen_nodes.proofs.MakesLemmas.{makes-more}
use Rattle.store_api.proofs.Times.{times-append}
use Rattle.store_api.proofs.UnitLemmas.{back-uses, back-counts, makes-turns, makes-here, makes-elsewhere}
use Rattle.std.specs.Prelude.{IfOk, OnErr}
use Rattle.frozen_nodes.specs.Makes.{MakesNodes, MakesNode}
use Rattle.tree_read.specs.Slots.{slot_pairs, slot_nodes, HaveChildren, IsInHand}
use Rattle.tree_read.proofs.SlotLemmas.{all_pairs-kept, all_nodes-kept, last_keys-kept, node-kept}

-- new words leave the others
pub with_words-other : (m : Records) (ref q : ℕ) (ws : List ℕ) → q ≢ ref → with_words m ref ws q ≡ m q
with_words-other m ref q ws ne = ap (λ b. cond b ws (m q)) (ne_eqb q ref ne)

pub with_words-here : (m : Records) (ref : ℕ) (ws : List ℕ) → with_words m ref ws ref ≡ ws
with_words-here m ref ws = ap (λ b. cond b ws (m ref)) (eq-eqb ref ref refl)

pub keeps-words : (m n : Records) (ref : ℕ) (ws : List ℕ) → m ref ≡ [] → n ≡ with_words m ref ws → Keeps m n
keeps-words m n ref ws none is q some =
    (λ k. is k q) ∙ with_words-other m ref q ws (λ e. let size : length (m q) ≡ 0 = ap (λ x. length (m x)) e ∙ ap length none in omega arith)

module _ (m n : Records) (keys values : List ℕ) (ref count : ℕ) (few : length keys ≤ 16) where
  pub made-pairs : (level : ℕ) → IsInHand m level keys values → Keeps m n → n ref ≡ node_words level count keys values → pairs_below n level ref ≡ slot_pairs m level keys values
  unfolding pairs_below slot_pairs HaveChildren
  made-pairs zero hand keeps is =
      ap (λ ws. zip (node_keys ws) (node_values ws)) is
      ∙ ap (λ ks. zip ks (node_values (node_words 0 count keys values))) (node_keys-words 0 count keys values hand.even few)
      ∙ ap (zip keys) (node_values-words 0 count keys values hand.even few)
  made-pairs (suc level) hand keeps is =
      ap (λ ws. flat_map (pairs_below n level) (node_values ws)) is
      ∙ ap (flat_map (pairs_below n level)) (node_values-words (suc level) count keys values hand.even few)
      ∙ all_pairs-kept m n keeps 8 level values hand.children.1

  pub made-nodes : (level : ℕ) → IsInHand m level keys values → Keeps m n → n ref ≡ node_words level count keys values → nodes_below n level ref ≡ ref ∷ slot_nodes m level values
  unfolding nodes_below slot_nodes HaveChildren
  made-nodes zero hand keeps is = refl
  made-nodes (suc level) hand keeps is =
      ap (λ qs. ref ∷ qs)
      (ap (λ ws. flat_map (nodes_below n level) (node_values ws)) is
      ∙ ap (flat_map (nodes_below n level)) (node_values-words (suc level) count keys values hand.even few)
      ∙ all_nodes-kept m n keeps 8 level values hand.children.1)

  pub made-node : (level : ℕ) → IsInHand m level keys values → Keeps m n → n ref ≡ node_words level count keys values
      → count ≡ length (slot_pairs m level keys values) → count < 2 ^ 32 → IsNode n (length keys) level ref
  unfolding IsNode HaveChildren
  made-node zero hand keeps is counted small = (
    subst (IsNodeForm 0 (length keys)) (sym is) (node_formed 0 count keys values hand.even few small),
    ap count_of is ∙ counted ∙ sym (ap length (made-pairs 0 hand keeps is)),
  )
  made-node (suc level) hand keeps is counted small = (
    subst (IsNodeForm (suc level) (length keys)) (sym is) (node_formed (suc level) count keys values hand.even few small),
    ap count_of is ∙ counted ∙ sym (ap length (made-pairs (suc level) hand keeps is)),
    ap node_keys is ∙ node_keys-words (suc level) count keys values hand.even few ∙ hand.children.0 ∙ sym (last_keys-kept m n keeps 8 level values hand.children.1)
        ∙ ap (map (λ child. last_key (pairs_below n level child))) (sym (ap node_values is ∙ node_values-words (suc level) count keys values hand.even few)),
    subst (AllByRecursion (IsNode n 8 level)) (sym (ap node_values is ∙ node_values-words (suc level) count keys values hand.even few))
        (AllByRecursion-weaker (IsNode m 8 level) (IsNode n 8 level) (node-kept m n keeps 8 level) values hand.children.1),
  )

node_words-size : (level count : ℕ) (keys values : List ℕ) → length keys ≡ length values → length keys ≤ 16 → length (node_words level count keys values) ≡ 34
node_words-size level count keys values even few = (node_formed level 0 keys values even few (omega arith)).size

module _ {H : Type 0} (bits : ℕ) (old new : Ledger H) (m n : Records) (words : List ℕ) (ref : ℕ) (makes : Makes bits old new m n 34 words ref) (may : MayDo old new) where
  used_is : (r : ℕ) → uses new r ≡ uses old r + times r (ref ∷ [])
  used_is r = let even = (makes-turns bits old new m n 34 words ref makes).balance r in omega arith

  makes_one : MakesNodes old new m n 1
  makes_one = record {
    keeps = keeps-words m n ref (words_padded words 34) makes.none makes.records;
    stays = λ r. let is = used_is r in omega arith;
    counts = record { nodes = makes-here bits old new m n 34 words ref makes; others = λ c width ne. makes-elsewhere bits old new m n 34 words ref makes c width ne };
    may = may;
  }

  record_is : length words ≡ 34 → n ref ≡ words
  record_is size =
      (λ k. makes.records k ref) ∙ with_words-here m ref (words_padded words 34)
      ∙ ap (λ k. words ++ replicate k 0) (let none : 34 - length words ≡ 0 = omega arith in none) ∙ append-nil words

  some_ref : 0 < ref
  some_ref = pos_of_div-pos (buffer_limit bits) makes.place.first

  pub makes-node : (level count : ℕ) (keys values : List ℕ) → words ≡ node_words level count keys values → length keys ≤ 16 → IsInHand m level keys values
      → count ≡ length (slot_pairs m level keys values) → length (slot_pairs m level keys values) < 2 ^ 32 → MakesNode old new m n level keys values ref
  makes-node level count keys values is few hand counted small =
      let size : length words ≡ 34 = ap length is ∙ node_words-size level count keys values hand.even few in
      let words_are = record_is size ∙ is in
      record {
        some = some_ref;
        node = made-node m n keys values ref count few level hand makes_one.keeps words_are counted (omega arith);
        pairs = made-pairs m n keys values ref count few level hand makes_one.keeps words_are;
        nodes = made-nodes m n keys values ref count few level hand makes_one.keeps words_are;
        used = used_is;
        makes = makes_one;
      }

-- a make that was refused
pub makes-refused : {H A : Type 0} (old new : Ledger H) (m n : Records) (result : Result A StoreError) → OnErr result (MayGiveBack old new) → OnErr result (n ≡ m) → MayDo old new
    → OnErr result (MakesNodes old new m n 0)
makes-refused old new m n (Ok x) back left may = tt
makes-refused old new m n (Err e) back left may = record {
  keeps = λ q some. ap (λ (f : Records). f q) left;
  stays = λ r. let same = back-uses old new back r in omega arith;
  counts = record { nodes = back-counts old new back _ 34; others = λ c width ne. back-counts old new back c width };
  may = may;
}

-- a make, answered or refused
pub makes-any : {H : Type 0} (bits : ℕ) (old new : Ledger H) (m n : Records) (words : List ℕ) (result : Result ℕ StoreError) → IfOk result (Makes bits old new m n 34 words)
    → OnErr result (MayGiveBack old new) → OnErr result (n ≡ m) → MayDo old new → MakesNodes old new m n 1
makes-any bits old new m n words (Ok ref) makes back left may = makes_one bits old new m n words ref makes may
makes-any bits old new m n words (Err e) makes back left may = makes-more old new m n 0 1 (omega arith) (makes-refused {A = ℕ} old new m n (Err e) back left may)

-- a node made: what is below it and what is newly in use
pub made-balance : {H : Type 0} (old new : Ledger H) (m n : Records) (level : ℕ) (ks vs : List ℕ) (ref : ℕ) → MakesNode old new m n level ks vs ref
    → (q : ℕ) → times q (slot_nodes m level vs) + uses new q ≡ uses old q + times q (nodes_below n level ref)
made-balance old new m n level ks vs ref made q =
    let used = made.used q in
    let all : times q (nodes_below n level ref) ≡ times q ((ref ∷ []) ++ slot_nodes m level vs) = ap (times q) made.nodes in
    let parts = times-append q (ref ∷ []) (slot_nodes m level vs) in
    omega arith
