use Rattle.std.proofs.Common.{◌≡◌, ◌-◌, ℕ, List, length, slice_index, refl, sym, ap, subst, ◌∙◌, arith}
use Rattle.std.specs.Prelude.{IsSome, slice_index_or}
use Rattle.std.proofs.lemmas.List.Edits.{length-remove}
use Rattle.std.specs.List.{zip, remove}
use Rattle.list_lemmas.proofs.Pairs.{length-zip_even}
use Rattle.tree_read.specs.Nodes.{count_of, node_keys, node_values}
use Rattle.tree_read.specs.Trees.{pairs_below, IsNode}
use Rattle.tree_read.proofs.TreeLemmas.{IsNode-form, IsNode-count}
use Rattle.tree_read.specs.Keys.{seen_by, AllReadable}
use Rattle.tree_read.specs.Pairs.{lookup, take_out}
use Rattle.tree_read.proofs.ChildLemmas.{keys-length}
use Rattle.tree_read.proofs.ReadLemmas.{node-even, leaf-pairs}
use Rattle.frozen_nodes.specs.Words.{AreWords}
use Rattle.frozen_nodes.proofs.MakeWordLemmas.{form-words, words-keys, words-values}
use Rattle.frozen_btree.proofs.StepLemmas.{leaf-out}
use Rattle.frozen_nodes.proofs.RemoveWordLemmas.{words-own}
use Rattle.frozen_btree.proofs.remove_below.remove_in_leaf.Goals as goal

pub visit-slot-requires : goal.visit-slot-requires
visit-slot-requires g c =
    let m = g.F.Frozen.records c.args.frozen.now in
    let node = c.args.node in
    let at = (IsNode-form m 1 0 node c.requires.node).at_level in (
      omega arith,
      (
        subst (λ l. IsNode m 1 l node) (sym at) c.requires.node,
        subst (λ l. AllReadable g.K.KeyOrder.can_read m (pairs_below m l node)) (sym at) c.requires.readable,
      ),
    )

pub overflow_sub-pairs : goal.overflow_sub-pairs
overflow_sub-pairs g c =
    let m = g.F.Frozen.records c.args.frozen.now in
    let node = c.args.node in
    let is = c.requires.node in
    let form = IsNode-form m 1 0 node is in
    let k = g.K.KeyOrder in
    let s = k.sought c.args.key.now in
    let seen = seen_by k.read k.order s m in
    let ks = node_keys (m node) in
    let vs = node_values (m node) in
    let even = node-even m 1 0 node is in
    let size = keys-length m 1 0 node is in
    let old = c.visit-slot.new.words in
    let words : old ≡ m node = c.visit-slot.ensures.words in
    let i = c.visit-slot.result.slot in
    let pairs = leaf-pairs m node ks vs refl refl in
    let found = leaf-out seen ks vs i even c.visit-slot.ensures.slot (subst (λ ps. IsSome (lookup seen ps)) pairs c.requires.there) in
    let low = found.0 in
    let total : count_of (m node) ≡ length ks = IsNode-count m 1 0 node is ∙ ap length pairs ∙ length-zip_even ks vs even in
    let room = form.room in
    let filled = form.filled in
    let count : slice_index_or old 1 0 ≡ count_of (m node) = ap (λ (ws : List ℕ). slice_index_or ws 1 0) words in
    omega arith

pub take_slot-requires-clause-slot : goal.take_slot-requires-clause-slot
take_slot-requires-clause-slot g c =
    let m = g.F.Frozen.records c.args.frozen.now in
    let node = c.args.node in
    let is = c.requires.node in
    let form = IsNode-form m 1 0 node is in
    let k = g.K.KeyOrder in
    let s = k.sought c.args.key.now in
    let seen = seen_by k.read k.order s m in
    let ks = node_keys (m node) in
    let vs = node_values (m node) in
    let even = node-even m 1 0 node is in
    let size = keys-length m 1 0 node is in
    let old = c.visit-slot.new.words in
    let words : old ≡ m node = c.visit-slot.ensures.words in
    let i = c.visit-slot.result.slot in
    let pairs = leaf-pairs m node ks vs refl refl in
    let found = leaf-out seen ks vs i even c.visit-slot.ensures.slot (subst (λ ps. IsSome (lookup seen ps)) pairs c.requires.there) in
    let low = found.0 in
    let total : count_of (m node) ≡ length ks = IsNode-count m 1 0 node is ∙ ap length pairs ∙ length-zip_even ks vs even in
    let room = form.room in
    let filled = form.filled in
    let count : slice_index_or old 1 0 ≡ count_of (m node) = ap (λ (ws : List ℕ). slice_index_or ws 1 0) words in
    omega arith

pub take_slot-requires-clause-head : goal.take_slot-requires-clause-head
take_slot-requires-clause-head g c =
    let m = g.F.Frozen.records c.args.frozen.now in
    let node = c.args.node in
    let is = c.requires.node in
    let form = IsNode-form m 1 0 node is in
    let k = g.K.KeyOrder in
    let s = k.sought c.args.key.now in
    let seen = seen_by k.read k.order s m in
    let ks = node_keys (m node) in
    let vs = node_values (m node) in
    let even = node-even m 1 0 node is in
    let size = keys-length m 1 0 node is in
    let old = c.visit-slot.new.words in
    let words : old ≡ m node = c.visit-slot.ensures.words in
    let i = c.visit-slot.result.slot in
    let pairs = leaf-pairs m node ks vs refl refl in
    let found = leaf-out seen ks vs i even c.visit-slot.ensures.slot (subst (λ ps. IsSome (lookup seen ps)) pairs c.requires.there) in
    let low = found.0 in
    let total : count_of (m node) ≡ length ks = IsNode-count m 1 0 node is ∙ ap length pairs ∙ length-zip_even ks vs even in
    let room = form.room in
    let filled = form.filled in
    let count : slice_index_or old 1 0 ≡ count_of (m node) = ap (λ (ws : List ℕ). slice_index_or ws 1 0) words in
    let head : slice_index old 0 ≡ slice_index (m node) 0 = ap (λ (ws : List ℕ). slice_index ws 0) words in
    omega arith

pub returns-clause-words : goal.returns-clause-words
returns-clause-words g c =
    let m = g.F.Frozen.records c.args.frozen.now in
    let node = c.args.node in
    let is = c.requires.node in
    let form = IsNode-form m 1 0 node is in
    let k = g.K.KeyOrder in
    let s = k.sought c.args.key.now in
    let seen = seen_by k.read k.order s m in
    let ks = node_keys (m node) in
    let vs = node_values (m node) in
    let even = node-even m 1 0 node is in
    let size = keys-length m 1 0 node is in
    let old = c.visit-slot.new.words in
    let words : old ≡ m node = c.visit-slot.ensures.words in
    let i = c.visit-slot.result.slot in
    let pairs = leaf-pairs m node ks vs refl refl in
    let found = leaf-out seen ks vs i even c.visit-slot.ensures.slot (subst (λ ps. IsSome (lookup seen ps)) pairs c.requires.there) in
    let low = found.0 in
    let total : count_of (m node) ≡ length ks = IsNode-count m 1 0 node is ∙ ap length pairs ∙ length-zip_even ks vs even in
    let room = form.room in
    let filled = form.filled in
    let count : slice_index_or old 1 0 ≡ count_of (m node) = ap (λ (ws : List ℕ). slice_index_or ws 1 0) words in
    let new = c.take_slot.new.words in
    let left = slice_index_or old 1 0 - 1 in
    let are : AreWords 0 left (remove ks i) (remove vs i) new =
    c.take_slot.ensures 0 (count_of (m node)) ks vs (subst (AreWords 0 (count_of (m node)) ks vs) (sym words) (form-words 0 1 (m node) form)) low in
    let keys_are : node_keys new ≡ remove ks i = words-keys 0 left (remove ks i) (remove vs i) new are in
    let values_are : node_values new ≡ remove vs i = words-values 0 left (remove ks i) (remove vs i) new are in
    let less = length-remove ks i low in
    let size_now : left ≡ length (node_keys new) = (let now = ap length keys_are in omega arith) in
    subst (λ n. AreWords 0 n (node_keys new) (node_values new) new) size_now (words-own 0 left (remove ks i) (remove vs i) new are)

pub returns-clause-pairs : goal.returns-clause-pairs
returns-clause-pairs g c =
    let m = g.F.Frozen.records c.args.frozen.now in
    let node = c.args.node in
    let is = c.requires.node in
    let form = IsNode-form m 1 0 node is in
    let k = g.K.KeyOrder in
    let s = k.sought c.args.key.now in
    let seen = seen_by k.read k.order s m in
    let ks = node_keys (m node) in
    let vs = node_values (m node) in
    let even = node-even m 1 0 node is in
    let size = keys-length m 1 0 node is in
    let old = c.visit-slot.new.words in
    let words : old ≡ m node = c.visit-slot.ensures.words in
    let i = c.visit-slot.result.slot in
    let pairs = leaf-pairs m node ks vs refl refl in
    let found = leaf-out seen ks vs i even c.visit-slot.ensures.slot (subst (λ ps. IsSome (lookup seen ps)) pairs c.requires.there) in
    let low = found.0 in
    let total : count_of (m node) ≡ length ks = IsNode-count m 1 0 node is ∙ ap length pairs ∙ length-zip_even ks vs even in
    let room = form.room in
    let filled = form.filled in
    let count : slice_index_or old 1 0 ≡ count_of (m node) = ap (λ (ws : List ℕ). slice_index_or ws 1 0) words in
    let new = c.take_slot.new.words in
    let left = slice_index_or old 1 0 - 1 in
    let are : AreWords 0 left (remove ks i) (remove vs i) new =
    c.take_slot.ensures 0 (count_of (m node)) ks vs (subst (AreWords 0 (count_of (m node)) ks vs) (sym words) (form-words 0 1 (m node) form)) low in
    let keys_are : node_keys new ≡ remove ks i = words-keys 0 left (remove ks i) (remove vs i) new are in
    let values_are : node_values new ≡ remove vs i = words-values 0 left (remove ks i) (remove vs i) new are in
    let less = length-remove ks i low in
    ap (λ (xs : List ℕ). zip xs (node_values new)) keys_are ∙ ap (zip (remove ks i)) values_are ∙ sym found.1 ∙ ap (take_out seen) (sym pairs)

pub returns-clause-size : goal.returns-clause-size
returns-clause-size g c =
    let m = g.F.Frozen.records c.args.frozen.now in
    let node = c.args.node in
    let is = c.requires.node in
    let form = IsNode-form m 1 0 node is in
    let k = g.K.KeyOrder in
    let s = k.sought c.args.key.now in
    let seen = seen_by k.read k.order s m in
    let ks = node_keys (m node) in
    let vs = node_values (m node) in
    let even = node-even m 1 0 node is in
    let size = keys-length m 1 0 node is in
    let old = c.visit-slot.new.words in
    let words : old ≡ m node = c.visit-slot.ensures.words in
    let i = c.visit-slot.result.slot in
    let pairs = leaf-pairs m node ks vs refl refl in
    let found = leaf-out seen ks vs i even c.visit-slot.ensures.slot (subst (λ ps. IsSome (lookup seen ps)) pairs c.requires.there) in
    let low = found.0 in
    let total : count_of (m node) ≡ length ks = IsNode-count m 1 0 node is ∙ ap length pairs ∙ length-zip_even ks vs even in
    let room = form.room in
    let filled = form.filled in
    let count : slice_index_or old 1 0 ≡ count_of (m node) = ap (λ (ws : List ℕ). slice_index_or ws 1 0) words in
    let new = c.take_slot.new.words in
    let left = slice_index_or old 1 0 - 1 in
    let are : AreWords 0 left (remove ks i) (remove vs i) new =
    c.take_slot.ensures 0 (count_of (m node)) ks vs (subst (AreWords 0 (count_of (m node)) ks vs) (sym words) (form-words 0 1 (m node) form)) low in
    let keys_are : node_keys new ≡ remove ks i = words-keys 0 left (remove ks i) (remove vs i) new are in
    let values_are : node_values new ≡ remove vs i = words-values 0 left (remove ks i) (remove vs i) new are in
    let less = length-remove ks i low in
    let now = ap length keys_are in
    omega arith
