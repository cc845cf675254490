use Rattle.std.proofs.Common.{set, ◌≡◌, ◌<◌, ◌≤◌, ◌+◌, ◌^◌, List, length, true, refl, sym, ap, subst, ◌∙◌, arith, ◌*◌, [], get_or}
use Rattle.store_api.specs.Parts.{uses}
use Rattle.store_api.specs.Units.{MayDo}
use Rattle.store_api.proofs.May.{may_do-same}
use Rattle.tree_read.specs.Trees.{tree_pairs, tree_nodes, pairs_below, nodes_below, root_level, IsNode, Keeps}
use Rattle.frozen_btree.proofs.Results.{not_valid, is_valid}
use Rattle.frozen_btree.proofs.TopLemmas.{root-size, root-level, root-low, root-one, root-pairs}
use Rattle.tree_changes.specs.Merges.{Change, merged}
use Rattle.tree_changes.specs.Layers.{rows_pairs, seen_changes, AreInHand, AreKeyed, TurnsRows}
use Rattle.tree_changes.specs.declared.change_below.Change as given
use Rattle.tree_changes.proofs.LayerLemmas.{on_ok, on_ok_both}
use Rattle.tree_changes.proofs.FinishLemmas.{rows-empty-pairs}
use Rattle.tree_changes.proofs.ChangeBelowLemmas.{first-even, merged-size, seen-size}
use Rattle.tree_changes.proofs.EndLemmas.{fill-none, top-keyed, fill-below, tree-few}
use Rattle.frozen_nodes.specs.Makes.{CountsNodes}
use Rattle.frozen_nodes.proofs.MakesLemmas.{counts-none}
use Rattle.tree_changes.specs.Counts.{SpendsBelow, all_of, no_budgets}
use Rattle.tree_changes.proofs.SpendLemmas.{leaf-slots}
use Rattle.frozen_btree.specs.Changes.{levels}
use Rattle.tree_changes.proofs.RootCountLemmas.{levels-are, no_budgets-size, no_budgets-all, no_budgets-fit, leaf-alone}
use Rattle.tree_changes.proofs.change_tree.fill_rows.Goals as goal

pub change_leaf-requires-clause-row : goal.change_leaf-requires-clause-row
change_leaf-requires-clause-row g c =
    let m = g.S.Frozen.records c.args.store.now in
    first-even m c.args.rows.now c.index-rows-0.result c.requires.hand (let size = c.requires.rows in omega arith)

pub returns-then-not-valid-clause-turns : goal.returns-then-not-valid-clause-turns
returns-then-not-valid-clause-turns g c =
    let key = g.K.KeyOrder in
    let ledger = g.S.Store.ledger in
    let records = g.S.Frozen.records in
    let s = c.args.store.now in
    let m = records s in
    let seen : _ → List Change = λ r. seen_changes key.read key.order (λ (change : given.Change g.row.K.Denot). key.sought change.key) (λ (change : given.Change g.row.K.Denot). change.pair) r c.args.changes.now in
    let u = c.change_leaf.new.frozen in
    let root = c.args.root in
    let rows = c.args.rows.now in
    let row = c.change_leaf.new.row in
    let d = c.index-rows-0.result in
    let before = c.args.replaced.now.items in
    let none : root ≡ 0 = not_valid c.valid.result root c.valid.ensures.1 c.if-not-valid.true in
    on_ok_both c.change_leaf.result
    (λ even pairs.
    subst (λ (st : g.row.S.Denot). TurnsRows (ledger s) (ledger st) m (records st) 0 rows (set rows 0 row) (merged (seen m) (tree_pairs m root)) (tree_nodes m root) before before) (sym c.change_leaf.ensures.same)
    (fill-none (ledger s) m root rows row d (seen m) before none c.requires.hand (let size = c.requires.rows in omega arith) even pairs))
    c.change_leaf.ensures.row c.change_leaf.ensures.pairs

pub returns-then-not-valid-clause-keeps : goal.returns-then-not-valid-clause-keeps
returns-then-not-valid-clause-keeps g c =
    let key = g.K.KeyOrder in
    let ledger = g.S.Store.ledger in
    let records = g.S.Frozen.records in
    let s = c.args.store.now in
    let m = records s in
    subst (λ (st : g.row.S.Denot). Keeps m (records st)) (sym c.change_leaf.ensures.same) (λ r some. refl)

pub returns-then-not-valid-clause-stays : goal.returns-then-not-valid-clause-stays
returns-then-not-valid-clause-stays g c =
    let key = g.K.KeyOrder in
    let ledger = g.S.Store.ledger in
    let records = g.S.Frozen.records in
    let s = c.args.store.now in
    let m = records s in
    λ r. subst (λ (st : g.row.S.Denot). uses (ledger s) r ≤ uses (ledger st) r) (sym c.change_leaf.ensures.same) (omega arith)

pub returns-then-not-valid-clause-may : goal.returns-then-not-valid-clause-may
returns-then-not-valid-clause-may g c =
    let key = g.K.KeyOrder in
    let ledger = g.S.Store.ledger in
    let records = g.S.Frozen.records in
    let s = c.args.store.now in
    let m = records s in
    subst (λ (st : g.row.S.Denot). MayDo (ledger s) (ledger st)) (sym c.change_leaf.ensures.same) (may_do-same (ledger s))

pub read_head-level-requires : goal.read_head-level-requires
read_head-level-requires g c =
    let key = g.K.KeyOrder in
    let ledger = g.S.Store.ledger in
    let records = g.S.Frozen.records in
    let s = c.args.store.now in
    let m = records s in
    let root = c.args.root in
    let rows = c.args.rows.now in
    let tree = c.requires.keyed.tree in
    let some : 0 < root = is_valid c.valid.result root c.valid.ensures.0 c.if-not-valid.false in
    let size = root-size key.order key.read m root tree some in
    omega arith

pub change_below-requires : goal.change_below-requires
change_below-requires g c =
    let key = g.K.KeyOrder in
    let ledger = g.S.Store.ledger in
    let records = g.S.Frozen.records in
    let s = c.args.store.now in
    let m = records s in
    let root = c.args.root in
    let rows = c.args.rows.now in
    let tree = c.requires.keyed.tree in
    let some : 0 < root = is_valid c.valid.result root c.valid.ensures.0 c.if-not-valid.false in
    let level = c.read_head-level.result.level in
    let level_is : level ≡ root_level m root = c.read_head-level.ensures.level ∙ root-level key.order key.read m root tree some in
    let same = sym c.read_head-level.ensures.same in
    let keyed = top-keyed key.order key.can_read key.read key.reads_from m root c.requires.keyed some level level_is in
    let few : length (rows_pairs m 0 rows) + length (pairs_below m level root) + length c.args.changes.now < 2 ^ 32 =
    (let a = ap length (rows-empty-pairs m 0 rows c.requires.hand c.requires.empty) in
    let b = ap length (root-pairs key.order key.read m root tree some level level_is) in
    let d = tree-few key.order g.met.K.KeyOrder.total key.read m root tree (g.met.S.Store.few_nodes s) in
    let e = c.requires.few in omega arith) in (
      omega arith,
      (
        subst (λ (st : g.row.S.Denot). (ledger st).unit ≡ true) same c.requires.unit,
        (
          root-low key.order key.read m root tree some level level_is,
          (
            c.requires.rows,
            (
              subst (λ (st : g.row.S.Denot). AreInHand (records st) 0 rows) same c.requires.hand,
              (
                subst (λ (st : g.row.S.Denot). IsNode (records st) 1 level root) same (root-one key.order key.read m root tree some level level_is),
                (
                  subst (λ (st : g.row.S.Denot). AreKeyed key.order key.read key.can_read key.reads_from (records st) (pairs_below (records st) level root)) same keyed,
                  (
                    c.requires.sorted,
                    subst (λ (st : g.row.S.Denot). length (rows_pairs (records st) 0 rows) + length (pairs_below (records st) level root) + length c.args.changes.now < 2 ^ 32) same few,
                  ),
                ),
              ),
            ),
          ),
        ),
      ),
    )

pub returns-clause-turns : goal.returns-clause-turns
returns-clause-turns g c =
    let key = g.K.KeyOrder in
    let ledger = g.S.Store.ledger in
    let records = g.S.Frozen.records in
    let s = c.args.store.now in
    let m = records s in
    let root = c.args.root in
    let rows = c.args.rows.now in
    let tree = c.requires.keyed.tree in
    let some : 0 < root = is_valid c.valid.result root c.valid.ensures.0 c.if-not-valid.false in
    let level = c.read_head-level.result.level in
    let level_is : level ≡ root_level m root = c.read_head-level.ensures.level ∙ root-level key.order key.read m root tree some in
    let seen : _ → List Change = λ r. seen_changes key.read key.order (λ (change : given.Change g.row.K.Denot). key.sought change.key) (λ (change : given.Change g.row.K.Denot). change.pair) r c.args.changes.now in
    let w = c.change_below.new.store in
    let rows2 = c.change_below.new.rows in
    let before = c.args.replaced.now.items in
    let after = c.change_below.new.replaced.items in
    on_ok c.change_below.result
    (λ turns. fill-below key.order key.can_read key.read key.reads_from m root c.requires.keyed some level level_is (ledger s) (ledger w) (records w) rows rows2 (seen m) before after
    (subst (λ (st : g.row.S.Denot). TurnsRows (ledger st) (ledger w) (records st) (records w) 0 rows rows2 (merged (seen (records st)) (pairs_below (records st) level root))
    (nodes_below (records st) level root) before after) c.read_head-level.ensures.same turns))
    c.change_below.ensures.turns

pub returns-clause-keeps : goal.returns-clause-keeps
returns-clause-keeps g c =
    let key = g.K.KeyOrder in
    let ledger = g.S.Store.ledger in
    let records = g.S.Frozen.records in
    let s = c.args.store.now in
    let m = records s in
    let w = c.change_below.new.store in
    subst (λ (st : g.row.S.Denot). Keeps (records st) (records w)) c.read_head-level.ensures.same c.change_below.ensures.keeps

pub returns-clause-stays : goal.returns-clause-stays
returns-clause-stays g c =
    let key = g.K.KeyOrder in
    let ledger = g.S.Store.ledger in
    let records = g.S.Frozen.records in
    let s = c.args.store.now in
    let m = records s in
    let w = c.change_below.new.store in
    λ r. subst (λ (st : g.row.S.Denot). uses (ledger st) r ≤ uses (ledger w) r) c.read_head-level.ensures.same (c.change_below.ensures.stays r)

pub returns-clause-may : goal.returns-clause-may
returns-clause-may g c =
    let key = g.K.KeyOrder in
    let ledger = g.S.Store.ledger in
    let records = g.S.Frozen.records in
    let s = c.args.store.now in
    let m = records s in
    let w = c.change_below.new.store in
    subst (λ (st : g.row.S.Denot). MayDo (ledger st) (ledger w)) c.read_head-level.ensures.same c.change_below.ensures.may

pub returns-then-not-valid-clause-spends : goal.returns-then-not-valid-clause-spends
returns-then-not-valid-clause-spends g c =
    let none : c.args.root ≡ 0 = not_valid c.valid.result c.args.root c.valid.ensures.1 c.if-not-valid.true in
    on_ok c.change_leaf.result (λ even some changed. absurd (omega arith)) c.change_leaf.ensures.row

pub returns-then-not-valid-clause-alone : goal.returns-then-not-valid-clause-alone
returns-then-not-valid-clause-alone g c =
    let key = g.K.KeyOrder in
    let m = g.S.Frozen.records c.args.store.now in
    let list = c.args.changes.now in
    let rows = c.args.rows.now in
    let d = c.index-rows-0.result in
    let seen : List Change = seen_changes key.read key.order (λ (change : given.Change g.row.K.Denot). key.sought change.key) (λ (change : given.Change g.row.K.Denot). change.pair) m list in
    let old_even = first-even m rows d c.requires.hand (let size = c.requires.rows in omega arith) in
    let most = merged-size seen [] in
    let count = seen-size key.read key.order (λ (change : given.Change g.row.K.Denot). key.sought change.key) (λ (change : given.Change g.row.K.Denot). change.pair) m list in
    on_ok_both c.change_leaf.result
    (λ even pairs none.
    let more = leaf-slots (get_or rows 0 d) c.change_leaf.new.row (merged seen []) old_even even pairs in
    leaf-alone rows c.change_leaf.new.row d (length list) c.requires.empty (let size = c.requires.rows in omega arith) (omega arith))
    c.change_leaf.ensures.row c.change_leaf.ensures.pairs

pub returns-then-not-valid-clause-counts : goal.returns-then-not-valid-clause-counts
returns-then-not-valid-clause-counts g c =
    let ledger = g.S.Store.ledger in
    let s = c.args.store.now in
    subst (λ (st : g.row.S.Denot). CountsNodes (ledger s) (ledger st) (2 * (levels (g.S.Frozen.records s) c.args.root * length c.args.changes.now))) (sym c.change_leaf.ensures.same) (counts-none (ledger s) _)

pub returns-clause-spends : goal.returns-clause-spends
returns-clause-spends g c =
    let key = g.K.KeyOrder in
    let ledger = g.S.Store.ledger in
    let s = c.args.store.now in
    let m = g.S.Frozen.records s in
    let root = c.args.root in
    let rows = c.args.rows.now in
    let tree = c.requires.keyed.tree in
    let some : 0 < root = is_valid c.valid.result root c.valid.ensures.0 c.if-not-valid.false in
    let level = c.read_head-level.result.level in
    let level_is : level ≡ root_level m root = c.read_head-level.ensures.level ∙ root-level key.order key.read m root tree some in
    let low = root-low key.order key.read m root tree some level level_is in
    let all = levels-are m root level some level_is in
    let fit = no_budgets-fit (levels m root) rows (let size = c.requires.rows in omega arith) c.requires.empty in
    let w = c.change_below.new.store in
    on_ok c.change_below.result
    (λ below rooted changed.
    subst (λ (st : g.row.S.Denot). SpendsBelow (ledger st) (ledger w) (length c.args.changes.now) (no_budgets (levels m root)) rows c.change_below.new.rows) c.read_head-level.ensures.same
    (below changed (no_budgets (levels m root)) (no_budgets-size (levels m root) ∙ all) fit))
    c.change_below.ensures.spends

pub returns-clause-alone : goal.returns-clause-alone
returns-clause-alone g c =
    let some : 0 < c.args.root = is_valid c.valid.result c.args.root c.valid.ensures.0 c.if-not-valid.false in
    on_ok c.change_below.result (λ turns none. absurd (omega arith)) c.change_below.ensures.turns

pub returns-clause-counts : goal.returns-clause-counts
returns-clause-counts g c =
    let key = g.K.KeyOrder in
    let ledger = g.S.Store.ledger in
    let s = c.args.store.now in
    let m = g.S.Frozen.records s in
    let root = c.args.root in
    let rows = c.args.rows.now in
    let tree = c.requires.keyed.tree in
    let some : 0 < root = is_valid c.valid.result root c.valid.ensures.0 c.if-not-valid.false in
    let level = c.read_head-level.result.level in
    let level_is : level ≡ root_level m root = c.read_head-level.ensures.level ∙ root-level key.order key.read m root tree some in
    let low = root-low key.order key.read m root tree some level level_is in
    let all = levels-are m root level some level_is in
    let fit = no_budgets-fit (levels m root) rows (let size = c.requires.rows in omega arith) c.requires.empty in
    let budgets = no_budgets (levels m root) in
    let whole : 2 * all_of budgets + 2 * (length budgets * length c.args.changes.now) ≡ 2 * (levels m root * length c.args.changes.now) =
    (let a = no_budgets-all (levels m root) in let b : length budgets * length c.args.changes.now ≡ levels m root * length c.args.changes.now = ap (λ k. k * length c.args.changes.now) (no_budgets-size (levels m root)) in omega arith) in
    let w = c.change_below.new.store in
    subst (λ k. CountsNodes (ledger s) (ledger w) k) whole
    (subst (λ (st : g.row.S.Denot). CountsNodes (ledger st) (ledger w) (2 * all_of budgets + 2 * (length budgets * length c.args.changes.now))) c.read_head-level.ensures.same
    (c.change_below.ensures.counts budgets (no_budgets-size (levels m root) ∙ all) fit))
