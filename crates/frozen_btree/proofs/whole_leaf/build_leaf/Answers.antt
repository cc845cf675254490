use Rattle.std.proofs.Common.{◌≡◌, ◌<◌, ◌++◌, ℕ, List, length, refl, sym, ap, subst, ◌∙◌, arith}
use Rattle.std.specs.List.{zip}
use Rattle.std.proofs.lemmas.Result.{IfOk-weaker}
use Rattle.tree_read.proofs.CountLemmas.{leaf_count}
use Rattle.tree_read.proofs.SlotLemmas.{hand-leaf}
use Rattle.tree_read.proofs.OrderKeyLemmas.{keyed-from, others_kept}
use Rattle.frozen_btree.specs.Changes.{MakesRoot}
use Rattle.frozen_btree.proofs.LeafLemmas.{leaf-pairs, leaf-turns, leaf-owns}
use Rattle.frozen_btree.proofs.whole_leaf.build_leaf.Goals as goal

pub make_root-requires : goal.make_root-requires
make_root-requires g c =
    let m = g.S.Frozen.records c.args.store.now in
    let ks = c.append.new.words.items in
    let vs = c.append-2.new.words.items in
    let keys : ks ≡ c.args.keys.now = c.append.ensures ∙ ap (λ (xs : List ℕ). xs ++ c.args.keys.now) c.new.ensures in
    let values : vs ≡ c.args.values.now = c.append-2.ensures ∙ ap (λ (xs : List ℕ). xs ++ c.args.values.now) c.new-2.ensures in
    let hand = hand-leaf m ks vs (ap length keys ∙ c.requires.even ∙ sym (ap length values)) in
    let count = leaf_count m ks vs 0 refl hand in
    let size = ap length keys in
    let fits = c.requires.fits in
    let some : 0 < 0 → 0 < length ks = λ above. absurd (omega arith) in
    (omega arith, (c.requires.unit, (omega arith, (hand, (some, (omega arith, omega arith))))))

pub returns-clause-keyed : goal.returns-clause-keyed
returns-clause-keyed g c =
    let k = g.K.KeyOrder in
    let s = c.args.store.now in
    let m = g.S.Frozen.records s in
    let n = g.S.Frozen.records c.make_root.new.store in
    let old = g.S.Store.ledger s in
    let new = g.S.Store.ledger c.make_root.new.store in
    let ks = c.append.new.words.items in
    let keys : ks ≡ c.args.keys.now = c.append.ensures ∙ ap (λ (xs : List ℕ). xs ++ c.args.keys.now) c.new.ensures in
    let values : c.append-2.new.words.items ≡ c.args.values.now = c.append-2.ensures ∙ ap (λ (xs : List ℕ). xs ++ c.args.values.now) c.new-2.ensures in
    IfOk-weaker c.make_root.result _ _ (λ root made_of.
    let made : MakesRoot old new m n 0 c.args.keys.now c.args.values.now root =
    subst (λ xs. MakesRoot old new m n 0 xs c.args.values.now root) keys (subst (λ xs. MakesRoot old new m n 0 ks xs root) values made_of) in
    keyed-from k.order k.can_read k.read k.reads_from g.met.K.KeyOrder.stays g.met.K.KeyOrder.steady m n (others_kept m n c.make_root.ensures.makes.keeps) root (zip c.args.keys.now c.args.values.now) made.node
    (leaf-pairs old new m n c.args.keys.now c.args.values.now root made (g.met.S.Store.recorded s)) c.requires.readable c.requires.apart c.requires.ascends) c.make_root.ensures.root

pub returns-clause-pairs : goal.returns-clause-pairs
returns-clause-pairs g c =
    let k = g.K.KeyOrder in
    let s = c.args.store.now in
    let m = g.S.Frozen.records s in
    let n = g.S.Frozen.records c.make_root.new.store in
    let old = g.S.Store.ledger s in
    let new = g.S.Store.ledger c.make_root.new.store in
    let ks = c.append.new.words.items in
    let keys : ks ≡ c.args.keys.now = c.append.ensures ∙ ap (λ (xs : List ℕ). xs ++ c.args.keys.now) c.new.ensures in
    let values : c.append-2.new.words.items ≡ c.args.values.now = c.append-2.ensures ∙ ap (λ (xs : List ℕ). xs ++ c.args.values.now) c.new-2.ensures in
    IfOk-weaker c.make_root.result _ _ (λ root made_of.
    let made : MakesRoot old new m n 0 c.args.keys.now c.args.values.now root =
    subst (λ xs. MakesRoot old new m n 0 xs c.args.values.now root) keys (subst (λ xs. MakesRoot old new m n 0 ks xs root) values made_of) in
    leaf-pairs old new m n c.args.keys.now c.args.values.now root made (g.met.S.Store.recorded s)) c.make_root.ensures.root

pub returns-clause-owns : goal.returns-clause-owns
returns-clause-owns g c =
    let k = g.K.KeyOrder in
    let s = c.args.store.now in
    let m = g.S.Frozen.records s in
    let n = g.S.Frozen.records c.make_root.new.store in
    let old = g.S.Store.ledger s in
    let new = g.S.Store.ledger c.make_root.new.store in
    let ks = c.append.new.words.items in
    let keys : ks ≡ c.args.keys.now = c.append.ensures ∙ ap (λ (xs : List ℕ). xs ++ c.args.keys.now) c.new.ensures in
    let values : c.append-2.new.words.items ≡ c.args.values.now = c.append-2.ensures ∙ ap (λ (xs : List ℕ). xs ++ c.args.values.now) c.new-2.ensures in
    IfOk-weaker c.make_root.result _ _ (λ root made_of.
    let made : MakesRoot old new m n 0 c.args.keys.now c.args.values.now root =
    subst (λ xs. MakesRoot old new m n 0 xs c.args.values.now root) keys (subst (λ xs. MakesRoot old new m n 0 ks xs root) values made_of) in
    leaf-owns old new m n c.args.keys.now c.args.values.now root made (g.met.S.Store.recorded s)) c.make_root.ensures.root

pub returns-clause-turns : goal.returns-clause-turns
returns-clause-turns g c =
    let k = g.K.KeyOrder in
    let s = c.args.store.now in
    let m = g.S.Frozen.records s in
    let n = g.S.Frozen.records c.make_root.new.store in
    let old = g.S.Store.ledger s in
    let new = g.S.Store.ledger c.make_root.new.store in
    let ks = c.append.new.words.items in
    let keys : ks ≡ c.args.keys.now = c.append.ensures ∙ ap (λ (xs : List ℕ). xs ++ c.args.keys.now) c.new.ensures in
    let values : c.append-2.new.words.items ≡ c.args.values.now = c.append-2.ensures ∙ ap (λ (xs : List ℕ). xs ++ c.args.values.now) c.new-2.ensures in
    IfOk-weaker c.make_root.result _ _ (λ root made_of.
    let made : MakesRoot old new m n 0 c.args.keys.now c.args.values.now root =
    subst (λ xs. MakesRoot old new m n 0 xs c.args.values.now root) keys (subst (λ xs. MakesRoot old new m n 0 ks xs root) values made_of) in
    leaf-turns old new m n c.args.keys.now c.args.values.now root made (g.met.S.Store.recorded s)) c.make_root.ensures.root
