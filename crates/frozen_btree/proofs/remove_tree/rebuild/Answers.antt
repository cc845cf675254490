use Rattle.std.proofs.Common.{rules, ◌≡◌, ℕ, suc, ◌+◌, ◌/◌, ◌<◌, length, sym, ap, subst, ◌∙◌, arith, ◌^◌}
use Rattle.std.specs.Prelude.{IsSome}
use Rattle.std.proofs.lemmas.Result.{IfOk-weaker}
use Rattle.tree_read.specs.Trees.{pairs_below, root_level, root_least, IsNode}
use Rattle.tree_read.specs.Keys.{seen_by, Ascends, AllReadable}
use Rattle.tree_read.specs.Pairs.{lookup}
use Rattle.frozen_btree.specs.Changes.{levels, MakesRoot}
use Rattle.frozen_nodes.proofs.MakesLemmas.{makes-then, makes-more, refuses-if}
use Rattle.frozen_btree.proofs.TopLemmas.{root-size, root-level, root-low, root-node, root-pairs, root-levels}
use Rattle.frozen_nodes.specs.Makes.{MakesNodes}
use Rattle.tree_read.specs.Nodes.{level_of, node_keys, node_values}
use Rattle.frozen_nodes.specs.Words.{AreWords}
use Rattle.frozen_nodes.proofs.MakeWordLemmas.{words-level}
use Rattle.tree_read.specs.Slots.{slot_pairs, IsInHand}
use Rattle.frozen_btree.proofs.RemoveTreeLemmas.{top-few, top-some, rebuilds-from}
use Rattle.frozen_btree.specs.Removes.{Removes}
use Rattle.frozen_btree.proofs.remove_tree.rebuild.Goals as goal

pub word-level-requires : goal.word-level-requires
word-level-requires g c =
    let m = g.S.Frozen.records c.args.store.now in
    let k = g.K.KeyOrder in
    let root = c.args.root in
    let tree = c.requires.tree in
    let some = c.requires.some in
    let size = root-size k.order k.read m root tree some in
    omega arith

pub remove_below-requires : goal.remove_below-requires
remove_below-requires g c = (
  omega arith,
  (
    search rules,
    (
      (let m = g.S.Frozen.records c.args.store.now in
          let k = g.K.KeyOrder in
          let root = c.args.root in
          let tree = c.requires.tree in
          let some = c.requires.some in
          let level = c.word-level.result / 256 in
          let is : level ≡ root_level m root = ap (λ (w : ℕ). w / 256) c.word-level.ensures.value ∙ root-level k.order k.read m root tree some in
          root-low k.order k.read m root tree some level is),
      (
        (let m = g.S.Frozen.records c.args.store.now in
            let k = g.K.KeyOrder in
            let root = c.args.root in
            let tree = c.requires.tree in
            let some = c.requires.some in
            let level = c.word-level.result / 256 in
            let is : level ≡ root_level m root = ap (λ (w : ℕ). w / 256) c.word-level.ensures.value ∙ root-level k.order k.read m root tree some in
            subst (λ f. IsNode (g.S.Frozen.records f) (root_least level) level root) (sym c.word-level.ensures.same)
            (root-node k.order k.read m root tree some level is)),
        (
          (let m = g.S.Frozen.records c.args.store.now in
              let k = g.K.KeyOrder in
              let root = c.args.root in
              let tree = c.requires.tree in
              let some = c.requires.some in
              let level = c.word-level.result / 256 in
              let is : level ≡ root_level m root = ap (λ (w : ℕ). w / 256) c.word-level.ensures.value ∙ root-level k.order k.read m root tree some in
              subst (λ f. Ascends k.order k.read (g.S.Frozen.records f) (pairs_below (g.S.Frozen.records f) level root)) (sym c.word-level.ensures.same)
              (subst (Ascends k.order k.read m) (root-pairs k.order k.read m root tree some level is) tree.ascends)),
          (
            (let m = g.S.Frozen.records c.args.store.now in
                let k = g.K.KeyOrder in
                let root = c.args.root in
                let tree = c.requires.tree in
                let some = c.requires.some in
                let level = c.word-level.result / 256 in
                let is : level ≡ root_level m root = ap (λ (w : ℕ). w / 256) c.word-level.ensures.value ∙ root-level k.order k.read m root tree some in
                subst (λ f. AllReadable k.can_read (g.S.Frozen.records f) (pairs_below (g.S.Frozen.records f) level root)) (sym c.word-level.ensures.same)
                (subst (AllReadable k.can_read m) (root-pairs k.order k.read m root tree some level is) c.requires.readable)),
            (
              (let m = g.S.Frozen.records c.args.store.now in
                  let k = g.K.KeyOrder in
                  let root = c.args.root in
                  let tree = c.requires.tree in
                  let some = c.requires.some in
                  let level = c.word-level.result / 256 in
                  let is : level ≡ root_level m root = ap (λ (w : ℕ). w / 256) c.word-level.ensures.value ∙ root-level k.order k.read m root tree some in
                  subst (λ f. IsSome (lookup (seen_by k.read k.order (k.sought c.args.key.now) (g.S.Frozen.records f)) (pairs_below (g.S.Frozen.records f) level root))) (sym c.word-level.ensures.same)
                  (subst (λ ps. IsSome (lookup (seen_by k.read k.order (k.sought c.args.key.now) m) ps)) (root-pairs k.order k.read m root tree some level is) c.requires.there)),
              ((let m = g.S.Frozen.records c.args.store.now in
                  let k = g.K.KeyOrder in
                  let root = c.args.root in
                  let tree = c.requires.tree in
                  let some = c.requires.some in
                  let level = c.word-level.result / 256 in
                  let is : level ≡ root_level m root = ap (λ (w : ℕ). w / 256) c.word-level.ensures.value ∙ root-level k.order k.read m root tree some in
                  let low = root-low k.order k.read m root tree some level is in
                  let none = ap length c.requires.replaced in
                  omega arith)),
            ),
          ),
        ),
      ),
    ),
  ),
)

pub returns-in_err-remove_below-clause-makes : goal.returns-in_err-remove_below-clause-makes
returns-in_err-remove_below-clause-makes g c =
    let m = g.S.Frozen.records c.args.store.now in
    let k = g.K.KeyOrder in
    let root = c.args.root in
    let tree = c.requires.tree in
    let some = c.requires.some in
    let level = c.word-level.result / 256 in
    let is : level ≡ root_level m root = ap (λ (w : ℕ). w / 256) c.word-level.ensures.value ∙ root-level k.order k.read m root tree some in
    let ledger = g.S.Store.ledger in
    let mid = ledger c.remove_below.new.store in
    let n = g.S.Frozen.records c.remove_below.new.store in
    let more = root-levels k.order k.read m root tree some level is in
    makes-more (ledger c.args.store.now) mid m n (suc level) (levels m root + 1) (omega arith)
    (subst (λ f. MakesNodes (ledger f) mid (g.S.Frozen.records f) n (suc level)) c.word-level.ensures.same c.in_err-remove_below.ensures.refused)

pub make_top-requires : goal.make_top-requires
make_top-requires g c =
    let m = g.S.Frozen.records c.args.store.now in
    let k = g.K.KeyOrder in
    let root = c.args.root in
    let tree = c.requires.tree in
    let some = c.requires.some in
    let level = c.word-level.result / 256 in
    let is : level ≡ root_level m root = ap (λ (w : ℕ). w / 256) c.word-level.ensures.value ∙ root-level k.order k.read m root tree some in
    let seen = seen_by k.read k.order (k.sought c.args.key.now) m in
    let ledger = g.S.Store.ledger in
    let old = ledger c.args.store.now in
    let mid = ledger c.remove_below.new.store in
    let n = g.S.Frozen.records c.remove_below.new.store in
    let words = c.remove_below.new.words in
    let keys = node_keys words in
    let values = node_values words in
    let gone = c.remove_below.new.replaced.items in
    let same = c.word-level.ensures.same in
    let removes = subst (λ xs. Removes seen old mid m n level root xs gone keys values) c.requires.replaced
    (subst (λ f. Removes (seen_by k.read k.order (k.sought c.args.key.now) (g.S.Frozen.records f)) (ledger f) mid (g.S.Frozen.records f) n level root c.args.replaced.now.items gone keys values) same
    c.in_ok-remove_below.ensures.removes) in
    let are : AreWords level (length (slot_pairs n level keys values)) keys values words = c.in_ok-remove_below.ensures.words in
    let level_is : level_of words ≡ level = words-level level (length (slot_pairs n level keys values)) keys values words are in
    let low = root-low k.order k.read m root tree some level is in
    let there = subst (λ ps. IsSome (lookup seen ps)) (root-pairs k.order k.read m root tree some level is) c.requires.there in (
      omega arith,
      (
        removes.makes.may.unit ∙ c.requires.unit,
        (
          omega arith,
          (
            subst (λ j. AreWords j (length (slot_pairs n j keys values)) keys values words) (sym level_is) are,
            (
              subst (λ j. IsInHand n j keys values) (sym level_is) removes.hand,
              (
                λ above. top-some k.order k.read m root tree some level is seen old mid n gone keys values removes (omega arith),
                subst (λ j. length (slot_pairs n j keys values) < 2 ^ 32) (sym level_is) (top-few k.order k.read m root tree some level is seen old mid n gone keys values removes there),
              ),
            ),
          ),
        ),
      ),
    )

pub returns-clause-rebuilds : goal.returns-clause-rebuilds
returns-clause-rebuilds g c =
    let m = g.S.Frozen.records c.args.store.now in
    let k = g.K.KeyOrder in
    let root = c.args.root in
    let tree = c.requires.tree in
    let some = c.requires.some in
    let level = c.word-level.result / 256 in
    let is : level ≡ root_level m root = ap (λ (w : ℕ). w / 256) c.word-level.ensures.value ∙ root-level k.order k.read m root tree some in
    let seen = seen_by k.read k.order (k.sought c.args.key.now) m in
    let ledger = g.S.Store.ledger in
    let old = ledger c.args.store.now in
    let mid = ledger c.remove_below.new.store in
    let n = g.S.Frozen.records c.remove_below.new.store in
    let words = c.remove_below.new.words in
    let keys = node_keys words in
    let values = node_values words in
    let gone = c.remove_below.new.replaced.items in
    let same = c.word-level.ensures.same in
    let removes = subst (λ xs. Removes seen old mid m n level root xs gone keys values) c.requires.replaced
    (subst (λ f. Removes (seen_by k.read k.order (k.sought c.args.key.now) (g.S.Frozen.records f)) (ledger f) mid (g.S.Frozen.records f) n level root c.args.replaced.now.items gone keys values) same
    c.in_ok-remove_below.ensures.removes) in
    let are : AreWords level (length (slot_pairs n level keys values)) keys values words = c.in_ok-remove_below.ensures.words in
    let level_is : level_of words ≡ level = words-level level (length (slot_pairs n level keys values)) keys values words are in
    let new = ledger c.make_top.new.store in
    let o = g.S.Frozen.records c.make_top.new.store in
    IfOk-weaker c.make_top.result _ _
    (λ (next : ℕ) (made : MakesRoot mid new n o (level_of words) keys values next).
    rebuilds-from k.order k.read m root tree some level is seen old mid n gone keys values removes new o next (subst (λ j. MakesRoot mid new n o j keys values next) level_is made))
    c.make_top.ensures.root

pub returns-clause-makes : goal.returns-clause-makes
returns-clause-makes g c =
    let m = g.S.Frozen.records c.args.store.now in
    let k = g.K.KeyOrder in
    let root = c.args.root in
    let tree = c.requires.tree in
    let some = c.requires.some in
    let level = c.word-level.result / 256 in
    let is : level ≡ root_level m root = ap (λ (w : ℕ). w / 256) c.word-level.ensures.value ∙ root-level k.order k.read m root tree some in
    let seen = seen_by k.read k.order (k.sought c.args.key.now) m in
    let ledger = g.S.Store.ledger in
    let old = ledger c.args.store.now in
    let mid = ledger c.remove_below.new.store in
    let n = g.S.Frozen.records c.remove_below.new.store in
    let words = c.remove_below.new.words in
    let keys = node_keys words in
    let values = node_values words in
    let gone = c.remove_below.new.replaced.items in
    let same = c.word-level.ensures.same in
    let removes = subst (λ xs. Removes seen old mid m n level root xs gone keys values) c.requires.replaced
    (subst (λ f. Removes (seen_by k.read k.order (k.sought c.args.key.now) (g.S.Frozen.records f)) (ledger f) mid (g.S.Frozen.records f) n level root c.args.replaced.now.items gone keys values) same
    c.in_ok-remove_below.ensures.removes) in
    let are : AreWords level (length (slot_pairs n level keys values)) keys values words = c.in_ok-remove_below.ensures.words in
    let level_is : level_of words ≡ level = words-level level (length (slot_pairs n level keys values)) keys values words are in
    let more = root-levels k.order k.read m root tree some level is in
    let one = removes.one in
    makes-then old mid (ledger c.make_top.new.store) m n (g.S.Frozen.records c.make_top.new.store) (level + removes.extra) 1 (levels m root + 1) (omega arith) removes.makes c.make_top.ensures.makes

pub returns-clause-refuses : goal.returns-clause-refuses
returns-clause-refuses g c =
    let m = g.S.Frozen.records c.args.store.now in
    let k = g.K.KeyOrder in
    let root = c.args.root in
    let tree = c.requires.tree in
    let some = c.requires.some in
    let level = c.word-level.result / 256 in
    let is : level ≡ root_level m root = ap (λ (w : ℕ). w / 256) c.word-level.ensures.value ∙ root-level k.order k.read m root tree some in
    let seen = seen_by k.read k.order (k.sought c.args.key.now) m in
    let ledger = g.S.Store.ledger in
    let old = ledger c.args.store.now in
    let mid = ledger c.remove_below.new.store in
    let n = g.S.Frozen.records c.remove_below.new.store in
    let words = c.remove_below.new.words in
    let keys = node_keys words in
    let values = node_values words in
    let gone = c.remove_below.new.replaced.items in
    let same = c.word-level.ensures.same in
    let removes = subst (λ xs. Removes seen old mid m n level root xs gone keys values) c.requires.replaced
    (subst (λ f. Removes (seen_by k.read k.order (k.sought c.args.key.now) (g.S.Frozen.records f)) (ledger f) mid (g.S.Frozen.records f) n level root c.args.replaced.now.items gone keys values) same
    c.in_ok-remove_below.ensures.removes) in
    let are : AreWords level (length (slot_pairs n level keys values)) keys values words = c.in_ok-remove_below.ensures.words in
    let level_is : level_of words ≡ level = words-level level (length (slot_pairs n level keys values)) keys values words are in
    let more = root-levels k.order k.read m root tree some level is in
    refuses-if old mid (ledger c.make_top.new.store) 34 c.make_top.result removes.makes.may c.make_top.ensures.refuses
