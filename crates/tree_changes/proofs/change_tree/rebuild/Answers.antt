use Rattle.std.proofs.Common.{◌≡◌, ◌<◌, ◌++◌, ◌^◌, List, [], length, take, sym, ap, subst, ◌∙◌, arith, ◌≤◌, drop}
use Rattle.std.specs.List.{AllByRecursion}
use Rattle.std.proofs.lemmas.List.{take_all, drop_all}
use Rattle.std.proofs.lemmas.Result.{IfOk-weaker}
use Rattle.store_api.proofs.May.{may_do-then}
use Rattle.tree_read.specs.Trees.{tree_pairs, tree_nodes}
use Rattle.frozen_nodes.proofs.MakesLemmas.{keeps-then}
use Rattle.tree_changes.specs.Merges.{merged}
use Rattle.tree_changes.specs.Layers.{seen_changes, AreEmpty, TurnsRows}
use Rattle.tree_changes.specs.declared.change_below.Change as given
use Rattle.frozen_btree.specs.declared.rows.Row.{Row}
use Rattle.tree_changes.proofs.LayerLemmas.{none_at_end}
use Rattle.tree_changes.proofs.ChangeBelowLemmas.{seen-size}
use Rattle.tree_changes.proofs.EndLemmas.{rows-hand, tree-few, filled-few, filled-owned, filled-rebuilds}
use Rattle.frozen_btree.specs.Changes.{levels}
use Rattle.tree_changes.specs.Counts.{SpendsBelow, no_budgets, first_slots, slots_in}
use Rattle.tree_changes.proofs.SpendLemmas.{counts-more}
use Rattle.tree_changes.proofs.RootCountLemmas.{root-counts}
use Rattle.tree_changes.proofs.change_tree.rebuild.Goals as goal

pub fill_rows-requires : goal.fill_rows-requires
fill_rows-requires g c =
    let key = g.K.KeyOrder in
    let ledger = g.S.Store.ledger in
    let records = g.S.Frozen.records in
    let s = c.args.store.now in
    let m = records s in
    let rows = c.deref_mut.result.now in
    let same_rows = sym c.deref_mut.ensures.value in
    let empty : AreEmpty rows = subst (λ (rs : List Row). AreEmpty rs) same_rows c.in_ok-rows.ensures.empty in
    let none : AllByRecursion (λ (row : Row). row.nodes.items ≡ []) rows = subst (λ (rs : List Row). AllByRecursion (λ (row : Row). row.nodes.items ≡ []) rs) same_rows c.in_ok-rows.ensures.none in
    let size : length rows ≡ 8 = subst (λ (rs : List Row). length rs ≡ 8) same_rows c.in_ok-rows.ensures.size in
    let hand = rows-hand m 0 rows empty none in (
      omega arith,
      (
        c.requires.unit,
        (
          c.requires.keyed,
          (
            c.requires.sorted,
            (
              c.requires.few,
              (
                size,
                (
                  empty,
                  hand,
                ),
              ),
            ),
          ),
        ),
      ),
    )

pub finish-requires : goal.finish-requires
finish-requires g c =
    let key = g.K.KeyOrder in
    let ledger = g.S.Store.ledger in
    let records = g.S.Frozen.records in
    let s = c.args.store.now in
    let m = records s in
    let rows = c.deref_mut.result.now in
    let same_rows = sym c.deref_mut.ensures.value in
    let empty : AreEmpty rows = subst (λ (rs : List Row). AreEmpty rs) same_rows c.in_ok-rows.ensures.empty in
    let none : AllByRecursion (λ (row : Row). row.nodes.items ≡ []) rows = subst (λ (rs : List Row). AllByRecursion (λ (row : Row). row.nodes.items ≡ []) rs) same_rows c.in_ok-rows.ensures.none in
    let size : length rows ≡ 8 = subst (λ (rs : List Row). length rs ≡ 8) same_rows c.in_ok-rows.ensures.size in
    let hand = rows-hand m 0 rows empty none in
    let t = c.fill_rows.new.store in
    let n = records t in
    let root = c.args.root in
    let list = seen_changes key.read key.order (λ (change : given.Change g.row.K.Denot). key.sought change.key) (λ (change : given.Change g.row.K.Denot). change.pair) m c.args.changes.now in
    let rows2 = c.deref_mut-2.result.now in
    let between = c.fill_rows.new.replaced.items in
    let filled : List Row = c.fill_rows.new.rows in
    let filled_size : length filled ≡ length rows = c.in_ok-fill_rows.ensures.turns.size in
    let rows_size = c.in_ok-rows.ensures.size in
    let rows_len = c.in_ok-rows.rows.ok.0 in
    let back : rows2 ≡ filled = c.deref_mut-2.ensures.value
    ∙ ap (λ (rs : List Row). take c.in_ok-rows.rows.len (filled ++ rs)) (drop_all (length filled) c.in_ok-rows.rows.items (omega arith))
    ∙ ap (λ (rs : List Row). take c.in_ok-rows.rows.len rs) (none_at_end filled) ∙ take_all c.in_ok-rows.rows.len filled (omega arith) in
    let turns : TurnsRows (ledger s) (ledger t) m n 0 rows rows2 (merged list (tree_pairs m root)) (tree_nodes m root) [] between =
    subst (λ (rs : List Row). TurnsRows (ledger s) (ledger t) m n 0 rows rs (merged list (tree_pairs m root)) (tree_nodes m root) [] between) (sym back)
    (subst (λ bs. TurnsRows (ledger s) (ledger t) m n 0 rows c.fill_rows.new.rows (merged list (tree_pairs m root)) (tree_nodes m root) bs between) c.requires.replaced c.in_ok-fill_rows.ensures.turns) in
    let small = tree-few key.order g.met.K.KeyOrder.total key.read m root c.requires.keyed.tree (g.met.S.Store.few_nodes s) in
    let changes_few : length list < 2 ^ 31 =
    (let a = seen-size key.read key.order (λ (change : given.Change g.row.K.Denot). key.sought change.key) (λ (change : given.Change g.row.K.Denot). change.pair) m c.args.changes.now in
    let b = c.requires.few in omega arith) in
    let size2 = turns.size in (
      omega arith,
      (
        c.fill_rows.ensures.may.unit ∙ c.requires.unit,
        (
          omega arith,
          (
            omega arith,
            (
              turns.hand,
              (
                filled-few (ledger s) (ledger t) m n root rows rows2 list between empty hand turns small changes_few,
                (
                  (λ (high : 0 < 0). absurd (omega arith)),
                  filled-owned (ledger s) (ledger t) m n root rows rows2 list between empty hand turns c.requires.owns,
                ),
              ),
            ),
          ),
        ),
      ),
    )

pub returns-clause-rebuilds : goal.returns-clause-rebuilds
returns-clause-rebuilds g c =
    let key = g.K.KeyOrder in
    let ledger = g.S.Store.ledger in
    let records = g.S.Frozen.records in
    let s = c.args.store.now in
    let m = records s in
    let rows = c.deref_mut.result.now in
    let same_rows = sym c.deref_mut.ensures.value in
    let empty : AreEmpty rows = subst (λ (rs : List Row). AreEmpty rs) same_rows c.in_ok-rows.ensures.empty in
    let none : AllByRecursion (λ (row : Row). row.nodes.items ≡ []) rows = subst (λ (rs : List Row). AllByRecursion (λ (row : Row). row.nodes.items ≡ []) rs) same_rows c.in_ok-rows.ensures.none in
    let size : length rows ≡ 8 = subst (λ (rs : List Row). length rs ≡ 8) same_rows c.in_ok-rows.ensures.size in
    let hand = rows-hand m 0 rows empty none in
    let t = c.fill_rows.new.store in
    let n = records t in
    let root = c.args.root in
    let list = seen_changes key.read key.order (λ (change : given.Change g.row.K.Denot). key.sought change.key) (λ (change : given.Change g.row.K.Denot). change.pair) m c.args.changes.now in
    let rows2 = c.deref_mut-2.result.now in
    let between = c.fill_rows.new.replaced.items in
    let filled : List Row = c.fill_rows.new.rows in
    let filled_size : length filled ≡ length rows = c.in_ok-fill_rows.ensures.turns.size in
    let rows_size = c.in_ok-rows.ensures.size in
    let rows_len = c.in_ok-rows.rows.ok.0 in
    let back : rows2 ≡ filled = c.deref_mut-2.ensures.value
    ∙ ap (λ (rs : List Row). take c.in_ok-rows.rows.len (filled ++ rs)) (drop_all (length filled) c.in_ok-rows.rows.items (omega arith))
    ∙ ap (λ (rs : List Row). take c.in_ok-rows.rows.len rs) (none_at_end filled) ∙ take_all c.in_ok-rows.rows.len filled (omega arith) in
    let turns : TurnsRows (ledger s) (ledger t) m n 0 rows rows2 (merged list (tree_pairs m root)) (tree_nodes m root) [] between =
    subst (λ (rs : List Row). TurnsRows (ledger s) (ledger t) m n 0 rows rs (merged list (tree_pairs m root)) (tree_nodes m root) [] between) (sym back)
    (subst (λ bs. TurnsRows (ledger s) (ledger t) m n 0 rows c.fill_rows.new.rows (merged list (tree_pairs m root)) (tree_nodes m root) bs between) c.requires.replaced c.in_ok-fill_rows.ensures.turns) in
    let w = c.finish.new.store in
    IfOk-weaker c.finish.result _ _ (λ next finishes.
    filled-rebuilds (ledger s) (ledger t) m n root rows rows2 list between empty hand turns (ledger w) (records w) c.finish.new.replaced.items next finishes)
    c.finish.ensures.finishes

pub returns-clause-keeps : goal.returns-clause-keeps
returns-clause-keeps g c =
    let ledger = g.S.Store.ledger in
    let records = g.S.Frozen.records in
    let s = c.args.store.now in
    let t = c.fill_rows.new.store in
    let w = c.finish.new.store in
    keeps-then (records s) (records t) (records w) c.fill_rows.ensures.keeps c.finish.ensures.keeps

pub returns-clause-stays : goal.returns-clause-stays
returns-clause-stays g c =
    let ledger = g.S.Store.ledger in
    let records = g.S.Frozen.records in
    let s = c.args.store.now in
    let t = c.fill_rows.new.store in
    let w = c.finish.new.store in
    λ r. let a = c.fill_rows.ensures.stays r in let b = c.finish.ensures.stays r in omega arith

pub returns-clause-may : goal.returns-clause-may
returns-clause-may g c =
    let ledger = g.S.Store.ledger in
    let records = g.S.Frozen.records in
    let s = c.args.store.now in
    let t = c.fill_rows.new.store in
    let w = c.finish.new.store in
    may_do-then (ledger s) (ledger t) (ledger w) c.fill_rows.ensures.may c.finish.ensures.may

pub returns-in_err-fill_rows-clause-counts : goal.returns-in_err-fill_rows-clause-counts
returns-in_err-fill_rows-clause-counts g c =
    let ledger = g.S.Store.ledger in
    λ some. counts-more (ledger c.args.store.now) (ledger c.fill_rows.new.store) _ _ (omega arith) c.fill_rows.ensures.counts

pub returns-clause-counts : goal.returns-clause-counts
returns-clause-counts g c =
    let ledger = g.S.Store.ledger in
    let s = c.args.store.now in
    let m = g.S.Frozen.records s in
    let rows = c.deref_mut.result.now in
    let empty : AreEmpty rows = subst (λ (rs : List Row). AreEmpty rs) (sym c.deref_mut.ensures.value) c.in_ok-rows.ensures.empty in
    let size : length rows ≡ 8 = subst (λ (rs : List Row). length rs ≡ 8) (sym c.deref_mut.ensures.value) c.in_ok-rows.ensures.size in
    let t = c.fill_rows.new.store in
    let rows2 = c.deref_mut-2.result.now in
    let filled : List Row = c.fill_rows.new.rows in
    let filled_size : length filled ≡ length rows = c.in_ok-fill_rows.ensures.turns.size in
    let rows_size = c.in_ok-rows.ensures.size in
    let rows_len = c.in_ok-rows.rows.ok.0 in
    let back : rows2 ≡ filled = c.deref_mut-2.ensures.value
    ∙ ap (λ (rs : List Row). take c.in_ok-rows.rows.len (filled ++ rs)) (drop_all (length filled) c.in_ok-rows.rows.items (omega arith))
    ∙ ap (λ (rs : List Row). take c.in_ok-rows.rows.len rs) (none_at_end filled) ∙ take_all c.in_ok-rows.rows.len filled (omega arith) in
    let changes = length c.args.changes.now in
    let root = c.args.root in
    let spends = subst (λ (rs : List Row). 0 < root → 0 < changes → SpendsBelow (ledger s) (ledger t) changes (no_budgets (levels m root)) rows rs) (sym back) c.in_ok-fill_rows.ensures.spends in
    let alone = subst (λ (rs : List Row). root ≡ 0 → (first_slots rs ≤ changes) × (slots_in (drop 1 rs) ≡ 0)) (sym back) c.in_ok-fill_rows.ensures.alone in
    λ some.
    root-counts (ledger s) (ledger t) (ledger c.finish.new.store) m root changes rows rows2 some empty c.fill_rows.ensures.may spends alone c.fill_rows.ensures.counts
    c.finish.ensures.counts c.finish.ensures.alone
