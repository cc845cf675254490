use Rattle.std.proofs.Common.{◌≡◌, ◌≢◌, ◌<◌, ◌≤◌, ◌^◌, ℕ, List, length, sym, subst, arith}
use Rattle.std.proofs.lemmas.Result.{IfOk-weaker}
use Rattle.tree_read.specs.Nodes.{level_of, used_of, node_keys, node_values}
use Rattle.tree_read.specs.Slots.{slot_pairs, IsInHand}
use Rattle.frozen_nodes.specs.Makes.{MakesPart}
use Rattle.frozen_btree.specs.Changes.{MakesRoot}
use Rattle.frozen_btree.proofs.MakeRootLemmas.{root-made, many_from}
use Rattle.frozen_nodes.proofs.MakeWordLemmas.{words-used}
use Rattle.frozen_btree.proofs.remove_tree.make_top.Goals as goal

pub slots_of-requires-clause-room : goal.slots_of-requires-clause-room
slots_of-requires-clause-room g c =
    let m = g.S.Frozen.records c.args.store.now in
    let words = c.args.words.now in
    let l = level_of words in
    let ks = node_keys words in
    let vs = node_values words in
    let are = c.requires.are in
    let used : used_of words ≡ length ks = words-used l (length (slot_pairs m l ks vs)) ks vs words are in
    let most = are.few in
    omega arith

pub make_root-requires : goal.make_root-requires
make_root-requires g c =
    let m = g.S.Frozen.records c.args.store.now in
    let words = c.args.words.now in
    let l = level_of words in
    let ks = node_keys words in
    let vs = node_values words in
    let are = c.requires.are in
    let used : used_of words ≡ length ks = words-used l (length (slot_pairs m l ks vs)) ks vs words are in
    let most = are.few in
    let slots = c.slots_of.result in
    let e = c.slots_of.ensures in
    let moved : (P : ℕ → List ℕ → List ℕ → Type 0) → P l ks vs → P slots.level slots.keys.items slots.values.items =
    λ P h. subst (λ j. P j slots.keys.items slots.values.items) (sym e.level) (subst (λ xs. P l xs slots.values.items) (sym e.keys) (subst (λ ys. P l ks ys) (sym e.values) h)) in (
      omega arith,
      (
        c.requires.unit,
        (
          moved (λ j xs ys. j ≤ 7) c.requires.low,
          (
            moved (IsInHand m) c.requires.hand,
            (
              moved (λ j xs ys. 0 < j → 0 < length xs) c.requires.some,
              (
                moved (λ j xs ys. length xs ≤ 16) most,
                moved (λ j xs ys. length (slot_pairs m j xs ys) < 2 ^ 32) c.requires.few,
              ),
            ),
          ),
        ),
      ),
    )

pub returns-then-used_in-lt2-clause-root : goal.returns-then-used_in-lt2-clause-root
returns-then-used_in-lt2-clause-root g c =
    let m = g.S.Frozen.records c.args.store.now in
    let words = c.args.words.now in
    let l = level_of words in
    let ks = node_keys words in
    let vs = node_values words in
    let are = c.requires.are in
    let used : used_of words ≡ length ks = words-used l (length (slot_pairs m l ks vs)) ks vs words are in
    let most = are.few in
    let ledger = g.S.Store.ledger in
    let records = g.S.Frozen.records in
    let old = ledger c.args.store.now in
    let new = ledger c.make_root.new.store in
    let n = records c.make_root.new.store in
    let slots = c.slots_of.result in
    let e = c.slots_of.ensures in
    IfOk-weaker c.make_root.result _ _
    (λ (next : ℕ) (made : MakesRoot old new m n slots.level slots.keys.items slots.values.items next).
    subst (λ ys. MakesRoot old new m n l ks ys next) e.values
    (subst (λ xs. MakesRoot old new m n l xs slots.values.items next) e.keys
    (subst (λ j. MakesRoot old new m n j slots.keys.items slots.values.items next) e.level made)))
    c.make_root.ensures.root

pub make_words-requires-clause-fits : goal.make_words-requires-clause-fits
make_words-requires-clause-fits g c =
    let m = g.S.Frozen.records c.args.store.now in
    let words = c.args.words.now in
    let l = level_of words in
    let ks = node_keys words in
    let vs = node_values words in
    let are = c.requires.are in
    let used : used_of words ≡ length ks = words-used l (length (slot_pairs m l ks vs)) ks vs words are in
    let most = are.few in
    omega arith

pub returns-clause-root : goal.returns-clause-root
returns-clause-root g c =
    let m = g.S.Frozen.records c.args.store.now in
    let words = c.args.words.now in
    let l = level_of words in
    let ks = node_keys words in
    let vs = node_values words in
    let are = c.requires.are in
    let used : used_of words ≡ length ks = words-used l (length (slot_pairs m l ks vs)) ks vs words are in
    let most = are.few in
    let ledger = g.S.Store.ledger in
    let records = g.S.Frozen.records in
    let old = ledger c.args.store.now in
    let new = ledger c.make_words.new.store in
    let n = records c.make_words.new.store in
    let part = c.in_ok-part.part in
    let read = c.used_in.ensures in
    let test = c.if-used_in-lt2.false in
    let some : 0 < length ks = omega arith in
    let other : 0 < l → length ks ≢ 1 = λ above e. absurd (omega arith) in
    let made : MakesPart old new m n l ks vs part = c.in_ok-part.ensures.makes l ks vs are c.requires.hand some c.requires.few in
    subst (MakesRoot old new m n l ks vs) (sym c.from_raw.ensures)
    (root-made old new m n l ks vs part.node c.requires.low (many_from l (length ks) some other) made.node)
