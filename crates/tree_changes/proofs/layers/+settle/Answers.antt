use Rattle.std.proofs.Common.{◌≡◌, ◌<◌, ◌+◌, ◌∷◌, suc, arith, subst, List, ◌*◌, false, length, sym}
use Rattle.store_api.proofs.May.{may_do-then}
use Rattle.store_api.specs.Units.{MayDo}
use Rattle.tree_read.specs.Trees.{Keeps}
use Rattle.tree_changes.specs.Layers.{OpensRows, RaisesRow}
use Rattle.frozen_btree.specs.declared.rows.Row.{Row}
use Rattle.tree_changes.proofs.LayerLemmas.{on_ok, turns-raised, settled-more}
use Rattle.std.proofs.lemmas.Result.{IfOk-weaker}
use Rattle.frozen_nodes.specs.Makes.{CountsNodes}
use Rattle.frozen_btree.specs.Builds.{groups}
use Rattle.tree_changes.specs.Counts.{LengthensFirst, Settles, all_of, first_slots}
use Rattle.tree_changes.proofs.SpendLemmas.{settles-none, settles-short, settles-more, settles-counts, first-counts, counts-more, empty-slots}
use Rattle.tree_changes.proofs.layers.+settle.Goals as goal

pub returns-clause-turns : goal.returns-clause-turns
returns-clause-turns g t c =
    let ledger = g.S.Store.ledger in
    let records = g.S.Frozen.records in
    let s = c.args.store.now in
    let mid = c.raise.new.store in
    let last = c.settle.new.store in
    let row = c.in-Some.row.now in
    let above = c.in-Some.above.now in
    let row2 = c.raise.new.row in
    let above2 = c.raise.new.above in
    let before = c.args.replaced.now.items in
    let between = c.lengthen.new.replaced.items in
    let opens : OpensRows (records s) c.args.level c.args.rows.now (row ∷ above) before between =
    subst (λ (rows : List Row). OpensRows (records s) c.args.level c.args.rows.now rows before between) c.in-Some.ensures.cases.0 c.in_ok-lengthen.ensures.opens in
    let raises : RaisesRow (ledger s) (ledger mid) (records s) (records mid) c.args.level row.keys.items row.nodes.items above above2 =
    subst (λ (st : g.row.S.Denot). RaisesRow (ledger st) (ledger mid) (records st) (records mid) c.args.level row.keys.items row.nodes.items above above2) c.lengthen.ensures.same c.in_ok-raise.ensures.raises in
    let keeps : Keeps (records s) (records mid) = subst (λ (st : g.row.S.Denot). Keeps (records st) (records mid)) c.lengthen.ensures.same c.raise.ensures.makes.keeps in
    let next : c.args.level + 1 ≡ suc c.args.level = omega arith in
    on_ok c.settle.result
    (turns-raised (ledger s) (ledger mid) (ledger last) (records s) (records mid) (records last) c.args.level (c.args.level + 1) next row row2 c.args.rows.now above above2 c.settle.new.rows
    before between c.settle.new.replaced.items opens raises c.in_ok-raise.ensures.keys c.in_ok-raise.ensures.nodes keeps)
    c.settle.ensures.turns

pub returns-clause-settled : goal.returns-clause-settled
returns-clause-settled g t c =
    let some : 0 < c.args.count = (let no = c.if-count-eq0.false in omega arith) in
    settled-more c.settle.result c.args.count c.raise.new.row c.settle.new.rows some c.in_ok-raise.ensures.keys c.settle.ensures.settled

pub returns-clause-may : goal.returns-clause-may
returns-clause-may g t c =
    let ledger = g.S.Store.ledger in
    let first : MayDo (ledger c.args.store.now) (ledger c.raise.new.store) =
    subst (λ (st : g.row.S.Denot). MayDo (ledger st) (ledger c.raise.new.store)) c.lengthen.ensures.same c.raise.ensures.makes.may in
    may_do-then (ledger c.args.store.now) (ledger c.raise.new.store) (ledger c.settle.new.store) first c.settle.ensures.may

pub returns-then-count-eq0-clause-spends : goal.returns-then-count-eq0-clause-spends
returns-then-count-eq0-clause-spends g t c = λ budgets size fit. settles-none (g.S.Store.ledger c.args.store.now) budgets c.args.rows.now fit

pub returns-then-not-branch-clause-spends : goal.returns-then-not-branch-clause-spends
returns-then-not-branch-clause-spends g t c =
    let ledger = g.S.Store.ledger in
    let s = c.args.store.now in
    let rows = c.args.rows.now in
    let some : 0 < c.args.count = (let no = c.if-count-eq0.false in omega arith) in
    let is = c.if-not-branch.true in
    let same = sym c.lengthen.ensures.same in
    λ budgets size fit.
    subst (λ (st : g.row.S.Denot). Settles (ledger s) (ledger st) budgets rows c.lengthen.new.rows false) same
    (subst (λ (l : List Row). Settles (ledger s) (ledger s) budgets rows l false) (sym (c.in_ok-lengthen.ensures.still is))
    (settles-short (ledger s) budgets rows (omega arith) fit (c.in_ok-lengthen.ensures.short is) (empty-slots _ (c.in_ok-lengthen.ensures.none is))))

pub returns-in_err-raise-clause-counts : goal.returns-in_err-raise-clause-counts
returns-in_err-raise-clause-counts g t c =
    let ledger = g.S.Store.ledger in
    let s = c.args.store.now in
    let mid = c.raise.new.store in
    let row = c.in-Some.row.now in
    let above = c.in-Some.above.now in
    let some : 0 < c.args.count = (let no = c.if-count-eq0.false in omega arith) in
    let made = groups (length row.keys.items) in
    let counts : CountsNodes (ledger s) (ledger mid) made = subst (λ (st : g.row.S.Denot). CountsNodes (ledger st) (ledger mid) made) c.lengthen.ensures.same c.raise.ensures.makes.counts in
    let lengthens : LengthensFirst c.args.rows.now (row ∷ above) = subst (λ (l : List Row). LengthensFirst c.args.rows.now l) c.in-Some.ensures.cases.0 c.in_ok-lengthen.ensures.lengthens in
    λ budgets size fit. counts-more (ledger s) (ledger mid) made (2 * all_of budgets) (first-counts budgets c.args.rows.now row above (omega arith) fit lengthens) counts

pub returns-clause-spends : goal.returns-clause-spends
returns-clause-spends g t c =
    let ledger = g.S.Store.ledger in
    let s = c.args.store.now in
    let mid = c.raise.new.store in
    let last = c.settle.new.store in
    let row = c.in-Some.row.now in
    let above = c.in-Some.above.now in
    let some : 0 < c.args.count = (let no = c.if-count-eq0.false in omega arith) in
    let made = groups (length row.keys.items) in
    let counts : CountsNodes (ledger s) (ledger mid) made = subst (λ (st : g.row.S.Denot). CountsNodes (ledger st) (ledger mid) made) c.lengthen.ensures.same c.raise.ensures.makes.counts in
    let may : MayDo (ledger s) (ledger mid) = subst (λ (st : g.row.S.Denot). MayDo (ledger st) (ledger mid)) c.lengthen.ensures.same c.raise.ensures.makes.may in
    let lengthens : LengthensFirst c.args.rows.now (row ∷ above) = subst (λ (l : List Row). LengthensFirst c.args.rows.now l) c.in-Some.ensures.cases.0 c.in_ok-lengthen.ensures.lengthens in
    let idle : first_slots c.args.rows.now ≡ 0 → row ∷ above ≡ c.args.rows.now = λ none. subst (λ (l : List Row). l ≡ c.args.rows.now) c.in-Some.ensures.cases.0 (c.in_ok-lengthen.ensures.idle none) in
    IfOk-weaker c.settle.result _ _ (λ settled rest budgets size fit.
    settles-more (ledger s) (ledger mid) (ledger last) settled budgets c.args.rows.now row c.raise.new.row above c.raise.new.above c.settle.new.rows c.args.count size some fit lengthens idle
    c.in_ok-raise.ensures.gains counts may c.in_ok-raise.ensures.keys rest)
    c.settle.ensures.spends

pub returns-clause-counts : goal.returns-clause-counts
returns-clause-counts g t c =
    let ledger = g.S.Store.ledger in
    let s = c.args.store.now in
    let mid = c.raise.new.store in
    let last = c.settle.new.store in
    let row = c.in-Some.row.now in
    let above = c.in-Some.above.now in
    let some : 0 < c.args.count = (let no = c.if-count-eq0.false in omega arith) in
    let made = groups (length row.keys.items) in
    let counts : CountsNodes (ledger s) (ledger mid) made = subst (λ (st : g.row.S.Denot). CountsNodes (ledger st) (ledger mid) made) c.lengthen.ensures.same c.raise.ensures.makes.counts in
    let may : MayDo (ledger s) (ledger mid) = subst (λ (st : g.row.S.Denot). MayDo (ledger st) (ledger mid)) c.lengthen.ensures.same c.raise.ensures.makes.may in
    let lengthens : LengthensFirst c.args.rows.now (row ∷ above) = subst (λ (l : List Row). LengthensFirst c.args.rows.now l) c.in-Some.ensures.cases.0 c.in_ok-lengthen.ensures.lengthens in
    let idle : first_slots c.args.rows.now ≡ 0 → row ∷ above ≡ c.args.rows.now = λ none. subst (λ (l : List Row). l ≡ c.args.rows.now) c.in-Some.ensures.cases.0 (c.in_ok-lengthen.ensures.idle none) in
    λ budgets size fit.
    settles-counts (ledger s) (ledger mid) (ledger last) budgets c.args.rows.now row above c.raise.new.above c.args.count size some fit lengthens idle
    c.in_ok-raise.ensures.gains counts may c.settle.ensures.counts
