use Rattle.std.proofs.Common.{rules, ◌∙◌, ◌≡◌, ◌<◌, ◌+◌, ◌*◌, ◌/◌, ℕ, suc, [], length, sym, ap, subst, arith, ◌^◌}
use Rattle.std.proofs.lemmas.Result.{IfOk-weaker}
use Rattle.tree_read.specs.Trees.{pairs_below, tree_pairs, IsNode, root_level}
use Rattle.tree_read.specs.Keys.{seen_by, Ascends, AllReadable}
use Rattle.tree_read.specs.Pairs.{put}
use Rattle.frozen_btree.specs.Changes.{Rebuilds, levels}
use Rattle.frozen_nodes.specs.Makes.{MakesNodes}
use Rattle.frozen_nodes.proofs.MakesLemmas.{makes-then, makes-more, refuses-if}
use Rattle.frozen_btree.proofs.Results.{not_valid, is_valid}
use Rattle.frozen_btree.proofs.TopLemmas.{root-size, root-level, root-low, root-one, root-pairs, root-levels}
use Rattle.frozen_btree.specs.Inserts.{Inserts}
use Rattle.frozen_btree.proofs.InsertTreeLemmas.{root-few, top-few, top-parts, top-one, rebuilds-over, rebuilds-one}
use Rattle.frozen_btree.proofs.insert_tree.rebuild.Goals as goal

pub word-level-requires : goal.word-level-requires
word-level-requires g c =
    let key = g.K.KeyOrder in
    let s = c.args.store.now in
    let m = g.S.Frozen.records s in
    let root = c.args.root in
    let tree = c.requires.tree in
    let some : 0 < root = is_valid c.valid.result root c.valid.ensures.0 c.if-not-valid.false in
    let size = root-size key.order key.read m root tree some in
    omega arith

pub insert_below-requires : goal.insert_below-requires
insert_below-requires g c = (
  omega arith,
  (
    search rules,
    (
      (let key = g.K.KeyOrder in
          let s = c.args.store.now in
          let m = g.S.Frozen.records s in
          let root = c.args.root in
          let tree = c.requires.tree in
          let some : 0 < root = is_valid c.valid.result root c.valid.ensures.0 c.if-not-valid.false in
          let level = c.word-level.result / 256 in
          let same = c.word-level.ensures.same in
          let level_is : level ≡ root_level m root = (ap (λ w. w / 256) c.word-level.ensures.value ∙ root-level key.order key.read m root tree some) in
          root-low key.order key.read m root tree some level level_is),
      (
        (let key = g.K.KeyOrder in
            let s = c.args.store.now in
            let m = g.S.Frozen.records s in
            let root = c.args.root in
            let tree = c.requires.tree in
            let some : 0 < root = is_valid c.valid.result root c.valid.ensures.0 c.if-not-valid.false in
            let level = c.word-level.result / 256 in
            let same = c.word-level.ensures.same in
            let level_is : level ≡ root_level m root = (ap (λ w. w / 256) c.word-level.ensures.value ∙ root-level key.order key.read m root tree some) in
            subst (λ f. IsNode (g.S.Frozen.records f) 1 level root) (sym same) (root-one key.order key.read m root tree some level level_is)),
        (
          (let key = g.K.KeyOrder in
              let s = c.args.store.now in
              let m = g.S.Frozen.records s in
              let root = c.args.root in
              let tree = c.requires.tree in
              let some : 0 < root = is_valid c.valid.result root c.valid.ensures.0 c.if-not-valid.false in
              let level = c.word-level.result / 256 in
              let same = c.word-level.ensures.same in
              let level_is : level ≡ root_level m root = (ap (λ w. w / 256) c.word-level.ensures.value ∙ root-level key.order key.read m root tree some) in
              subst (λ f. Ascends key.order key.read (g.S.Frozen.records f) (pairs_below (g.S.Frozen.records f) level root)) (sym same)
              (subst (Ascends key.order key.read m) (root-pairs key.order key.read m root tree some level level_is) tree.ascends)),
          (
            (let key = g.K.KeyOrder in
                let s = c.args.store.now in
                let m = g.S.Frozen.records s in
                let root = c.args.root in
                let tree = c.requires.tree in
                let some : 0 < root = is_valid c.valid.result root c.valid.ensures.0 c.if-not-valid.false in
                let level = c.word-level.result / 256 in
                let same = c.word-level.ensures.same in
                let level_is : level ≡ root_level m root = (ap (λ w. w / 256) c.word-level.ensures.value ∙ root-level key.order key.read m root tree some) in
                subst (λ f. AllReadable key.can_read (g.S.Frozen.records f) (pairs_below (g.S.Frozen.records f) level root)) (sym same)
                (subst (AllReadable key.can_read m) (root-pairs key.order key.read m root tree some level level_is) c.requires.readable)),
            (
              (let key = g.K.KeyOrder in
                  let s = c.args.store.now in
                  let m = g.S.Frozen.records s in
                  let root = c.args.root in
                  let tree = c.requires.tree in
                  let some : 0 < root = is_valid c.valid.result root c.valid.ensures.0 c.if-not-valid.false in
                  let level = c.word-level.result / 256 in
                  let same = c.word-level.ensures.same in
                  let level_is : level ≡ root_level m root = (ap (λ w. w / 256) c.word-level.ensures.value ∙ root-level key.order key.read m root tree some) in
                  let few = root-few key.order key.read m root tree some level level_is g.met.K.KeyOrder.total (g.met.S.Store.few_nodes s) in
                  subst (λ f. length (pairs_below (g.S.Frozen.records f) level root) + 1 < 2 ^ 32) (sym same) (omega arith)),
              ((let key = g.K.KeyOrder in
                  let s = c.args.store.now in
                  let m = g.S.Frozen.records s in
                  let root = c.args.root in
                  let tree = c.requires.tree in
                  let some : 0 < root = is_valid c.valid.result root c.valid.ensures.0 c.if-not-valid.false in
                  let level = c.word-level.result / 256 in
                  let same = c.word-level.ensures.same in
                  let level_is : level ≡ root_level m root = (ap (λ w. w / 256) c.word-level.ensures.value ∙ root-level key.order key.read m root tree some) in
                  let low = root-low key.order key.read m root tree some level level_is in
                  let none : length c.args.replaced.now.items ≡ 0 = ap length c.requires.replaced in
                  omega arith)),
            ),
          ),
        ),
      ),
    ),
  ),
)

pub root_over-requires : goal.root_over-requires
root_over-requires g c = (
  omega arith,
  (
    search rules,
    (
      (let key = g.K.KeyOrder in
          let s = c.args.store.now in
          let m = g.S.Frozen.records s in
          let root = c.args.root in
          let tree = c.requires.tree in
          let some : 0 < root = is_valid c.valid.result root c.valid.ensures.0 c.if-not-valid.false in
          let level = c.word-level.result / 256 in
          let same = c.word-level.ensures.same in
          let level_is : level ≡ root_level m root = (ap (λ w. w / 256) c.word-level.ensures.value ∙ root-level key.order key.read m root tree some) in
          let old = g.S.Store.ledger s in
          let t = c.insert_below.new.store in
          let n = g.S.Frozen.records t in
          let mid = g.S.Store.ledger t in
          let x_makes : MakesNodes old mid m n (2 * suc level) = subst (λ f. MakesNodes (g.S.Store.ledger f) mid (g.S.Frozen.records f) n (2 * suc level)) same c.insert_below.ensures.makes in
          let sought = key.sought c.args.key.now in
          let pair : ℕ × ℕ = (c.args.word, c.args.value) in
          let gone = c.insert_below.new.replaced.items in
          let parts = c.in_ok-parts.parts in
          let seen = seen_by key.read key.order sought m in
          let total = g.met.K.KeyOrder.total in
          let few = g.met.S.Store.few_nodes s in
          let x0 : Inserts seen pair old mid m n level root c.args.replaced.now.items gone parts =
          subst (λ f. Inserts (seen_by key.read key.order sought (g.S.Frozen.records f)) pair (g.S.Store.ledger f) mid (g.S.Frozen.records f) n level root c.args.replaced.now.items gone parts) same
          c.in_ok-parts.ensures.inserts in
          let x : Inserts seen pair old mid m n level root [] gone parts = subst (λ xs. Inserts seen pair old mid m n level root xs gone parts) c.requires.replaced x0 in
          top-parts key.order total key.read sought m n old mid root level pair tree some level_is few gone parts x),
      (
        (let key = g.K.KeyOrder in
            let s = c.args.store.now in
            let m = g.S.Frozen.records s in
            let root = c.args.root in
            let tree = c.requires.tree in
            let some : 0 < root = is_valid c.valid.result root c.valid.ensures.0 c.if-not-valid.false in
            let level = c.word-level.result / 256 in
            let same = c.word-level.ensures.same in
            let level_is : level ≡ root_level m root = (ap (λ w. w / 256) c.word-level.ensures.value ∙ root-level key.order key.read m root tree some) in
            let old = g.S.Store.ledger s in
            let t = c.insert_below.new.store in
            let n = g.S.Frozen.records t in
            let mid = g.S.Store.ledger t in
            let x_makes : MakesNodes old mid m n (2 * suc level) = subst (λ f. MakesNodes (g.S.Store.ledger f) mid (g.S.Frozen.records f) n (2 * suc level)) same c.insert_below.ensures.makes in
            let sought = key.sought c.args.key.now in
            let pair : ℕ × ℕ = (c.args.word, c.args.value) in
            let gone = c.insert_below.new.replaced.items in
            let parts = c.in_ok-parts.parts in
            let seen = seen_by key.read key.order sought m in
            let total = g.met.K.KeyOrder.total in
            let few = g.met.S.Store.few_nodes s in
            let x0 : Inserts seen pair old mid m n level root c.args.replaced.now.items gone parts =
            subst (λ f. Inserts (seen_by key.read key.order sought (g.S.Frozen.records f)) pair (g.S.Store.ledger f) mid (g.S.Frozen.records f) n level root c.args.replaced.now.items gone parts) same
            c.in_ok-parts.ensures.inserts in
            let x : Inserts seen pair old mid m n level root [] gone parts = subst (λ xs. Inserts seen pair old mid m n level root xs gone parts) c.requires.replaced x0 in
            top-few key.order total key.read sought m n old mid root level pair tree some level_is few gone parts x),
        (
          (let key = g.K.KeyOrder in
              let s = c.args.store.now in
              let m = g.S.Frozen.records s in
              let root = c.args.root in
              let tree = c.requires.tree in
              let some : 0 < root = is_valid c.valid.result root c.valid.ensures.0 c.if-not-valid.false in
              let level = c.word-level.result / 256 in
              let same = c.word-level.ensures.same in
              let level_is : level ≡ root_level m root = (ap (λ w. w / 256) c.word-level.ensures.value ∙ root-level key.order key.read m root tree some) in
              root-low key.order key.read m root tree some level level_is),
          ((let key = g.K.KeyOrder in
              let s = c.args.store.now in
              let m = g.S.Frozen.records s in
              let root = c.args.root in
              let tree = c.requires.tree in
              let some : 0 < root = is_valid c.valid.result root c.valid.ensures.0 c.if-not-valid.false in
              let level = c.word-level.result / 256 in
              let same = c.word-level.ensures.same in
              let level_is : level ≡ root_level m root = (ap (λ w. w / 256) c.word-level.ensures.value ∙ root-level key.order key.read m root tree some) in
              let old = g.S.Store.ledger s in
              let t = c.insert_below.new.store in
              let n = g.S.Frozen.records t in
              let mid = g.S.Store.ledger t in
              let x_makes : MakesNodes old mid m n (2 * suc level) = subst (λ f. MakesNodes (g.S.Store.ledger f) mid (g.S.Frozen.records f) n (2 * suc level)) same c.insert_below.ensures.makes in
              let sought = key.sought c.args.key.now in
              let pair : ℕ × ℕ = (c.args.word, c.args.value) in
              let gone = c.insert_below.new.replaced.items in
              let parts = c.in_ok-parts.parts in
              let seen = seen_by key.read key.order sought m in
              let total = g.met.K.KeyOrder.total in
              let few = g.met.S.Store.few_nodes s in
              let x0 : Inserts seen pair old mid m n level root c.args.replaced.now.items gone parts =
              subst (λ f. Inserts (seen_by key.read key.order sought (g.S.Frozen.records f)) pair (g.S.Store.ledger f) mid (g.S.Frozen.records f) n level root c.args.replaced.now.items gone parts) same
              c.in_ok-parts.ensures.inserts in
              let x : Inserts seen pair old mid m n level root [] gone parts = subst (λ xs. Inserts seen pair old mid m n level root xs gone parts) c.requires.replaced x0 in
              top-one key.order total key.read sought m n old mid root level pair tree some level_is few gone parts x)),
        ),
      ),
    ),
  ),
)

pub returns-then-not-valid-clause-rebuilds : goal.returns-then-not-valid-clause-rebuilds
returns-then-not-valid-clause-rebuilds g c =
    let key = g.K.KeyOrder in
    let s = c.args.store.now in
    let t = c.make_leaf.new.store in
    let m = g.S.Frozen.records s in
    let n = g.S.Frozen.records t in
    let old = g.S.Store.ledger s in
    let new = g.S.Store.ledger t in
    let seen = seen_by key.read key.order (key.sought c.args.key.now) m in
    let none : c.args.root ≡ 0 = not_valid c.valid.result c.args.root c.valid.ensures.1 c.if-not-valid.true in
    IfOk-weaker c.make_leaf.result _ _ (λ next made.
    subst (λ gone. Rebuilds old new m n c.args.root next gone (put seen (c.args.word, c.args.value) (tree_pairs m c.args.root))) (sym c.requires.replaced)
    (rebuilds-one seen m n old new c.args.root c.args.word c.args.value next none made)) c.make_leaf.ensures.leaf

pub returns-then-not-valid-clause-makes : goal.returns-then-not-valid-clause-makes
returns-then-not-valid-clause-makes g c =
    let s = c.args.store.now in
    let t = c.make_leaf.new.store in
    makes-more (g.S.Store.ledger s) (g.S.Store.ledger t) (g.S.Frozen.records s) (g.S.Frozen.records t) 1 (2 * levels (g.S.Frozen.records s) c.args.root + 1) (omega arith) c.make_leaf.ensures.makes

pub returns-in_err-parts-clause-makes : goal.returns-in_err-parts-clause-makes
returns-in_err-parts-clause-makes g c =
    let key = g.K.KeyOrder in
    let s = c.args.store.now in
    let m = g.S.Frozen.records s in
    let root = c.args.root in
    let tree = c.requires.tree in
    let some : 0 < root = is_valid c.valid.result root c.valid.ensures.0 c.if-not-valid.false in
    let level = c.word-level.result / 256 in
    let same = c.word-level.ensures.same in
    let level_is : level ≡ root_level m root = (ap (λ w. w / 256) c.word-level.ensures.value ∙ root-level key.order key.read m root tree some) in
    let old = g.S.Store.ledger s in
    let t = c.insert_below.new.store in
    let n = g.S.Frozen.records t in
    let mid = g.S.Store.ledger t in
    let x_makes : MakesNodes old mid m n (2 * suc level) = subst (λ f. MakesNodes (g.S.Store.ledger f) mid (g.S.Frozen.records f) n (2 * suc level)) same c.insert_below.ensures.makes in
    let up = root-levels key.order key.read m root tree some level level_is in
    makes-more old mid m n (2 * suc level) (2 * levels m root + 1) (omega arith) x_makes

pub returns-clause-rebuilds : goal.returns-clause-rebuilds
returns-clause-rebuilds g c =
    let key = g.K.KeyOrder in
    let s = c.args.store.now in
    let m = g.S.Frozen.records s in
    let root = c.args.root in
    let tree = c.requires.tree in
    let some : 0 < root = is_valid c.valid.result root c.valid.ensures.0 c.if-not-valid.false in
    let level = c.word-level.result / 256 in
    let same = c.word-level.ensures.same in
    let level_is : level ≡ root_level m root = (ap (λ w. w / 256) c.word-level.ensures.value ∙ root-level key.order key.read m root tree some) in
    let old = g.S.Store.ledger s in
    let t = c.insert_below.new.store in
    let n = g.S.Frozen.records t in
    let mid = g.S.Store.ledger t in
    let x_makes : MakesNodes old mid m n (2 * suc level) = subst (λ f. MakesNodes (g.S.Store.ledger f) mid (g.S.Frozen.records f) n (2 * suc level)) same c.insert_below.ensures.makes in
    let up = root-levels key.order key.read m root tree some level level_is in
    let sought = key.sought c.args.key.now in
    let pair : ℕ × ℕ = (c.args.word, c.args.value) in
    let gone = c.insert_below.new.replaced.items in
    let parts = c.in_ok-parts.parts in
    let seen = seen_by key.read key.order sought m in
    let total = g.met.K.KeyOrder.total in
    let few = g.met.S.Store.few_nodes s in
    let x0 : Inserts seen pair old mid m n level root c.args.replaced.now.items gone parts =
    subst (λ f. Inserts (seen_by key.read key.order sought (g.S.Frozen.records f)) pair (g.S.Store.ledger f) mid (g.S.Frozen.records f) n level root c.args.replaced.now.items gone parts) same
    c.in_ok-parts.ensures.inserts in
    let x : Inserts seen pair old mid m n level root [] gone parts = subst (λ xs. Inserts seen pair old mid m n level root xs gone parts) c.requires.replaced x0 in
    let u = c.root_over.new.store in
    let new = g.S.Store.ledger u in
    let o = g.S.Frozen.records u in
    IfOk-weaker c.root_over.result _ _ (λ next y. rebuilds-over key.order total key.read sought m n old mid root level pair tree some level_is few gone parts x new o next y) c.root_over.ensures.root

pub returns-clause-makes : goal.returns-clause-makes
returns-clause-makes g c =
    let key = g.K.KeyOrder in
    let s = c.args.store.now in
    let m = g.S.Frozen.records s in
    let root = c.args.root in
    let tree = c.requires.tree in
    let some : 0 < root = is_valid c.valid.result root c.valid.ensures.0 c.if-not-valid.false in
    let level = c.word-level.result / 256 in
    let same = c.word-level.ensures.same in
    let level_is : level ≡ root_level m root = (ap (λ w. w / 256) c.word-level.ensures.value ∙ root-level key.order key.read m root tree some) in
    let old = g.S.Store.ledger s in
    let t = c.insert_below.new.store in
    let n = g.S.Frozen.records t in
    let mid = g.S.Store.ledger t in
    let x_makes : MakesNodes old mid m n (2 * suc level) = subst (λ f. MakesNodes (g.S.Store.ledger f) mid (g.S.Frozen.records f) n (2 * suc level)) same c.insert_below.ensures.makes in
    let up = root-levels key.order key.read m root tree some level level_is in
    let u = c.root_over.new.store in
    makes-then old mid (g.S.Store.ledger u) m n (g.S.Frozen.records u) (2 * suc level) 1 (2 * levels m root + 1) (omega arith) x_makes c.root_over.ensures.makes

pub returns-clause-refuses : goal.returns-clause-refuses
returns-clause-refuses g c =
    let key = g.K.KeyOrder in
    let s = c.args.store.now in
    let m = g.S.Frozen.records s in
    let root = c.args.root in
    let tree = c.requires.tree in
    let some : 0 < root = is_valid c.valid.result root c.valid.ensures.0 c.if-not-valid.false in
    let level = c.word-level.result / 256 in
    let same = c.word-level.ensures.same in
    let level_is : level ≡ root_level m root = (ap (λ w. w / 256) c.word-level.ensures.value ∙ root-level key.order key.read m root tree some) in
    let old = g.S.Store.ledger s in
    let t = c.insert_below.new.store in
    let n = g.S.Frozen.records t in
    let mid = g.S.Store.ledger t in
    let x_makes : MakesNodes old mid m n (2 * suc level) = subst (λ f. MakesNodes (g.S.Store.ledger f) mid (g.S.Frozen.records f) n (2 * suc level)) same c.insert_below.ensures.makes in
    let up = root-levels key.order key.read m root tree some level level_is in
    refuses-if old mid (g.S.Store.ledger c.root_over.new.store) 34 c.root_over.result x_makes.may c.root_over.ensures.refuses
