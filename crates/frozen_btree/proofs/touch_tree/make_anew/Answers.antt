use Rattle.std.proofs.Common.{◌≡◌, ◌<◌, suc, [], length, true, refl, sym, ap, subst, ◌∙◌, arith}
use Rattle.std.proofs.lemmas.Result.{IfOk-weaker}
use Rattle.tree_read.specs.Trees.{pairs_below, tree_pairs, root_level, IsNode}
use Rattle.tree_read.specs.Keys.{seen_by, AllReadable}
use Rattle.frozen_btree.specs.Changes.{Rebuilds, levels}
use Rattle.frozen_nodes.specs.Makes.{MakesNodes}
use Rattle.frozen_nodes.proofs.MakesLemmas.{makes-none}
use Rattle.frozen_btree.proofs.Results.{not_valid, is_valid}
use Rattle.frozen_btree.proofs.TopLemmas.{root-size, root-level, root-low, root-one, root-pairs, root-levels}
use Rattle.frozen_btree.specs.Paths.{NoneIn, path_nodes, path_below}
use Rattle.frozen_btree.specs.Touches.{Touches}
use Rattle.frozen_btree.proofs.PathLemmas.{path_nodes-is}
use Rattle.frozen_btree.proofs.TouchTreeLemmas.{root-touched, root-apart, none-rebuilt, none-apart}
use Rattle.frozen_btree.proofs.touch_tree.make_anew.Goals as goal

pub returns-then-not-valid-clause-rebuilds : goal.returns-then-not-valid-clause-rebuilds
returns-then-not-valid-clause-rebuilds g c =
    let ledger = g.S.Store.ledger in
    let records = g.S.Frozen.records in
    let key = g.K.KeyOrder in
    let s = c.args.store.now in
    let m = records s in
    let root = c.args.root in
    let none : root ≡ 0 = not_valid c.valid.result root c.valid.ensures.1 c.if-not-valid.true in
    subst (λ xs. Rebuilds (ledger s) (ledger s) m m root root xs (tree_pairs m root)) (sym c.requires.replaced) (none-rebuilt (ledger s) m root none)

pub returns-then-not-valid-clause-apart : goal.returns-then-not-valid-clause-apart
returns-then-not-valid-clause-apart g c =
    let ledger = g.S.Store.ledger in
    let records = g.S.Frozen.records in
    let key = g.K.KeyOrder in
    let s = c.args.store.now in
    let m = records s in
    let root = c.args.root in
    let none : root ≡ 0 = not_valid c.valid.result root c.valid.ensures.1 c.if-not-valid.true in
    none-apart g.row.OFFSET_BITS c.args.buffer m (seen_by key.read key.order (key.sought c.args.key.now) m) root none

pub returns-then-not-valid-clause-makes : goal.returns-then-not-valid-clause-makes
returns-then-not-valid-clause-makes g c =
    let ledger = g.S.Store.ledger in
    let records = g.S.Frozen.records in
    let key = g.K.KeyOrder in
    let s = c.args.store.now in
    let m = records s in
    let root = c.args.root in
    makes-none (ledger s) m (levels m root)

pub read_head-level-requires : goal.read_head-level-requires
read_head-level-requires g c =
    let ledger = g.S.Store.ledger in
    let records = g.S.Frozen.records in
    let key = g.K.KeyOrder in
    let s = c.args.store.now in
    let m = records s in
    let root = c.args.root in
    let tree = c.requires.tree in
    let some : 0 < root = is_valid c.valid.result root c.valid.ensures.0 c.if-not-valid.false in
    let size = root-size key.order key.read m root tree some in
    omega arith

pub touch_below-requires : goal.touch_below-requires
touch_below-requires g c =
    let ledger = g.S.Store.ledger in
    let records = g.S.Frozen.records in
    let key = g.K.KeyOrder in
    let s = c.args.store.now in
    let m = records s in
    let root = c.args.root in
    let tree = c.requires.tree in
    let some : 0 < root = is_valid c.valid.result root c.valid.ensures.0 c.if-not-valid.false in
    let level = c.read_head-level.result.level in
    let same = c.read_head-level.ensures.same in
    let level_is : level ≡ root_level m root = c.read_head-level.ensures.level ∙ root-level key.order key.read m root tree some in
    let low = root-low key.order key.read m root tree some level level_is in
    let back = sym same in
    let none : length c.args.replaced.now.items ≡ 0 = ap length c.requires.replaced in (
      omega arith,
      (
        subst (λ f. (ledger f).unit ≡ true) back c.requires.unit,
        (
          subst (λ f. (ledger f).sealed c.args.buffer ≡ true) back c.requires.sealed,
          (
            omega arith,
            (
              subst (λ f. IsNode (records f) 1 level root) back (root-one key.order key.read m root tree some level level_is),
              (
                subst (λ f. AllReadable key.can_read (records f) (pairs_below (records f) level root)) back
                    (subst (AllReadable key.can_read m) (root-pairs key.order key.read m root tree some level level_is) c.requires.readable),
                omega arith,
              ),
            ),
          ),
        ),
      ),
    )

pub returns-clause-rebuilds : goal.returns-clause-rebuilds
returns-clause-rebuilds g c =
    let ledger = g.S.Store.ledger in
    let records = g.S.Frozen.records in
    let key = g.K.KeyOrder in
    let s = c.args.store.now in
    let m = records s in
    let root = c.args.root in
    let tree = c.requires.tree in
    let some : 0 < root = is_valid c.valid.result root c.valid.ensures.0 c.if-not-valid.false in
    let level = c.read_head-level.result.level in
    let same = c.read_head-level.ensures.same in
    let level_is : level ≡ root_level m root = c.read_head-level.ensures.level ∙ root-level key.order key.read m root tree some in
    let low = root-low key.order key.read m root tree some level level_is in
    let seen = seen_by key.read key.order (key.sought c.args.key.now) m in
    let t = c.touch_below.new.store in
    let gone = c.touch_below.new.replaced.items in
    IfOk-weaker c.touch_below.result _ _ (λ next x0.
    let x1 : Touches g.row.OFFSET_BITS c.args.buffer seen (ledger s) (ledger t) m (records t) level root next c.args.replaced.now.items gone =
    subst (λ f. Touches g.row.OFFSET_BITS c.args.buffer (seen_by key.read key.order (key.sought c.args.key.now) (records f)) (ledger f) (ledger t) (records f) (records t) level root next c.args.replaced.now.items gone)
    same x0 in
    let x : Touches g.row.OFFSET_BITS c.args.buffer seen (ledger s) (ledger t) m (records t) level root next [] gone =
    subst (λ xs. Touches g.row.OFFSET_BITS c.args.buffer seen (ledger s) (ledger t) m (records t) level root next xs gone) c.requires.replaced x1 in
    root-touched key.order key.read m (records t) (ledger s) (ledger t) g.row.OFFSET_BITS c.args.buffer seen root level tree some level_is low next gone x)
    c.touch_below.ensures.touches

pub returns-clause-apart : goal.returns-clause-apart
returns-clause-apart g c =
    let ledger = g.S.Store.ledger in
    let records = g.S.Frozen.records in
    let key = g.K.KeyOrder in
    let s = c.args.store.now in
    let m = records s in
    let root = c.args.root in
    let tree = c.requires.tree in
    let some : 0 < root = is_valid c.valid.result root c.valid.ensures.0 c.if-not-valid.false in
    let level = c.read_head-level.result.level in
    let same = c.read_head-level.ensures.same in
    let level_is : level ≡ root_level m root = c.read_head-level.ensures.level ∙ root-level key.order key.read m root tree some in
    let low = root-low key.order key.read m root tree some level level_is in
    let seen = seen_by key.read key.order (key.sought c.args.key.now) m in
    let t = c.touch_below.new.store in
    let gone = c.touch_below.new.replaced.items in
    IfOk-weaker c.touch_below.result _ _ (λ next x0.
    let x1 : Touches g.row.OFFSET_BITS c.args.buffer seen (ledger s) (ledger t) m (records t) level root next c.args.replaced.now.items gone =
    subst (λ f. Touches g.row.OFFSET_BITS c.args.buffer (seen_by key.read key.order (key.sought c.args.key.now) (records f)) (ledger f) (ledger t) (records f) (records t) level root next c.args.replaced.now.items gone)
    same x0 in
    let x : Touches g.row.OFFSET_BITS c.args.buffer seen (ledger s) (ledger t) m (records t) level root next [] gone =
    subst (λ xs. Touches g.row.OFFSET_BITS c.args.buffer seen (ledger s) (ledger t) m (records t) level root next xs gone) c.requires.replaced x1 in
    root-apart key.order key.read m (records t) (ledger s) (ledger t) g.row.OFFSET_BITS c.args.buffer seen root level tree some level_is low next gone x)
    c.touch_below.ensures.touches

pub returns-clause-makes : goal.returns-clause-makes
returns-clause-makes g c =
    let ledger = g.S.Store.ledger in
    let records = g.S.Frozen.records in
    let key = g.K.KeyOrder in
    let s = c.args.store.now in
    let m = records s in
    let root = c.args.root in
    let tree = c.requires.tree in
    let some : 0 < root = is_valid c.valid.result root c.valid.ensures.0 c.if-not-valid.false in
    let level = c.read_head-level.result.level in
    let same = c.read_head-level.ensures.same in
    let level_is : level ≡ root_level m root = c.read_head-level.ensures.level ∙ root-level key.order key.read m root tree some in
    let low = root-low key.order key.read m root tree some level level_is in
    let t = c.touch_below.new.store in
    let makes : MakesNodes (ledger s) (ledger t) m (records t) (suc level) =
    subst (λ f. MakesNodes (ledger f) (ledger t) (records f) (records t) (suc level)) same c.touch_below.ensures.makes in
    subst (MakesNodes (ledger s) (ledger t) m (records t)) (sym (root-levels key.order key.read m root tree some level level_is)) makes

pub returns-then-not-valid-clause-still : goal.returns-then-not-valid-clause-still
returns-then-not-valid-clause-still g c = λ none. (refl, (refl, c.requires.replaced))

pub returns-clause-still : goal.returns-clause-still
returns-clause-still g c =
    let records = g.S.Frozen.records in
    let key = g.K.KeyOrder in
    let s = c.args.store.now in
    let m = records s in
    let root = c.args.root in
    let tree = c.requires.tree in
    let some : 0 < root = is_valid c.valid.result root c.valid.ensures.0 c.if-not-valid.false in
    let level = c.read_head-level.result.level in
    let same = c.read_head-level.ensures.same in
    let level_is : level ≡ root_level m root = c.read_head-level.ensures.level ∙ root-level key.order key.read m root tree some in
    let low = root-low key.order key.read m root tree some level level_is in
    let seen = seen_by key.read key.order (key.sought c.args.key.now) m in
    let bits = g.row.OFFSET_BITS in
    let buffer = c.args.buffer in
    λ none.
    let way : path_nodes m seen root ≡ path_below m seen level root =
    path_nodes-is m seen 1 level root low some (root-one key.order key.read m root tree some level level_is) in
    let told = c.touch_below.ensures.still
    (subst (λ f. NoneIn bits buffer (path_below (records f) (seen_by key.read key.order (key.sought c.args.key.now) (records f)) level root)) (sym same)
    (subst (NoneIn bits buffer) way none)) in
    (told.0, (told.1.0 ∙ same, told.1.1 ∙ c.requires.replaced))
