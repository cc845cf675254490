use Rattle.std.proofs.Common.{rules, ℕ, ◌≡◌, ◌<◌, ◌≤◌, ◌+◌, ◌∷◌, ◌^◌, suc, length, arith, sym, subst, ◌∙◌, List, true, ◌*◌, ◌-◌}
use Rattle.std.proofs.lemmas.Result.{IfOk-weaker}
use Rattle.store_api.proofs.May.{may_do-then}
use Rattle.store_api.specs.Units.{MayDo}
use Rattle.tree_read.specs.Trees.{Keeps}
use Rattle.tree_read.specs.Slots.{slot_pairs, IsInHand}
use Rattle.frozen_btree.specs.Builds.{BuildsTree, groups, nodes_above}
use Rattle.tree_changes.specs.Layers.{OpensRows, RaisesRow}
use Rattle.frozen_btree.specs.declared.rows.Row.{Row}
use Rattle.tree_changes.proofs.FinishLemmas.{last-some, last-few, finish-built, finish-raised, next-hand, next-pairs, next-owned, next-slots, above-some}
use Rattle.frozen_nodes.specs.Makes.{CountsNodes}
use Rattle.tree_changes.specs.Counts.{LengthensFirst, all_of, last_of, first_slots}
use Rattle.tree_changes.proofs.SpendLemmas.{counts-more, first-counts}
use Rattle.tree_changes.proofs.RootCountLemmas.{raised-counts, alone-empty, built-alone, built-counts, some-budget}
use Rattle.tree_changes.proofs.change_tree.+finish.Goals as goal

pub build_over-requires : goal.build_over-requires
build_over-requires g t c =
    let ledger = g.S.Store.ledger in
    let records = g.S.Frozen.records in
    let s = c.args.store.now in
    let m = records s in
    let level = c.args.level in
    let row = c.in-Some.row.now in
    let above = c.in-Some.above.now in
    let before = c.args.replaced.now.items in
    let between = c.lengthen.new.replaced.items in
    let all = c.in-Some.ensures.cases.0 in
    let opens : OpensRows m level c.args.rows.now (row ∷ above) before between =
    subst (λ (rows : List Row). OpensRows m level c.args.rows.now rows before between) all c.in_ok-lengthen.ensures.opens in
    let empty = c.are_empty.ensures.empty c.if-are_empty.true in
    let keys : row.keys.items ≡ c.deref.result.now = sym c.deref.ensures.value in
    let values : row.nodes.items ≡ c.deref-then-are_empty.result.now = sym c.deref-then-are_empty.ensures.value in
    let same = sym c.lengthen.ensures.same in
    let some = last-some m level row above opens.hand empty c.args.rows.now before between opens c.requires.slots in
    let few = last-few m level row above opens.hand empty c.args.rows.now before between opens (ledger s) c.requires.owned (g.met.S.Store.few_nodes s) in (
      omega arith,
      (
        subst (λ (st : g.row.S.Denot). (ledger st).unit ≡ true) same c.requires.unit,
        (
          (let size = c.requires.rows in let least = c.requires.some in omega arith),
          (
            subst (λ (st : g.row.S.Denot). IsInHand (records st) level c.deref.result.now c.deref-then-are_empty.result.now) same
                (subst (λ ks. IsInHand m level ks c.deref-then-are_empty.result.now) keys (subst (λ vs. IsInHand m level row.keys.items vs) values opens.hand.0)),
            (
              subst (λ (ks : List ℕ). 0 < level → 0 < length ks) keys some,
              subst (λ (st : g.row.S.Denot). 0 < level → length (slot_pairs (records st) level c.deref.result.now c.deref-then-are_empty.result.now) ≤ 31580640) same
                  (subst (λ ks. 0 < level → length (slot_pairs m level ks c.deref-then-are_empty.result.now) ≤ 31580640) keys
                  (subst (λ vs. 0 < level → length (slot_pairs m level row.keys.items vs) ≤ 31580640) values few)),
            ),
          ),
        ),
      ),
    )

pub returns-then-are_empty-clause-finishes : goal.returns-then-are_empty-clause-finishes
returns-then-are_empty-clause-finishes g t c =
    let ledger = g.S.Store.ledger in
    let records = g.S.Frozen.records in
    let s = c.args.store.now in
    let u = c.build_over.new.store in
    let m = records s in
    let level = c.args.level in
    let row = c.in-Some.row.now in
    let above = c.in-Some.above.now in
    let before = c.args.replaced.now.items in
    let between = c.lengthen.new.replaced.items in
    let all = c.in-Some.ensures.cases.0 in
    let opens : OpensRows m level c.args.rows.now (row ∷ above) before between =
    subst (λ (rows : List Row). OpensRows m level c.args.rows.now rows before between) all c.in_ok-lengthen.ensures.opens in
    let empty = c.are_empty.ensures.empty c.if-are_empty.true in
    let keeps : Keeps m (records u) = subst (λ (st : g.row.S.Denot). Keeps (records st) (records u)) c.lengthen.ensures.same c.build_over.ensures.makes.keeps in
    IfOk-weaker c.build_over.result _ _ (λ root builds.
    finish-built m level row above opens.hand empty c.args.rows.now before between opens (ledger s) (ledger u) (records u) c.deref.result.now c.deref-then-are_empty.result.now root keeps
    c.deref.ensures.value c.deref-then-are_empty.ensures.value
    (subst (λ (st : g.row.S.Denot). BuildsTree (ledger st) (ledger u) (records st) (records u) level c.deref.result.now c.deref-then-are_empty.result.now root) c.lengthen.ensures.same builds))
    c.build_over.ensures.builds

pub finish-requires : goal.finish-requires
finish-requires g t c =
    let ledger = g.S.Store.ledger in
    let records = g.S.Frozen.records in
    let s = c.args.store.now in
    let u = c.raise.new.store in
    let m = records s in
    let level = c.args.level in
    let row = c.in-Some.row.now in
    let above = c.in-Some.above.now in
    let above2 = c.raise.new.above in
    let before = c.args.replaced.now.items in
    let between = c.lengthen.new.replaced.items in
    let all = c.in-Some.ensures.cases.0 in
    let opens : OpensRows m level c.args.rows.now (row ∷ above) before between =
    subst (λ (rows : List Row). OpensRows m level c.args.rows.now rows before between) all c.in_ok-lengthen.ensures.opens in
    let raises : RaisesRow (ledger s) (ledger u) m (records u) level row.keys.items row.nodes.items above above2 =
    subst (λ (st : g.row.S.Denot). RaisesRow (ledger st) (ledger u) (records st) (records u) level row.keys.items row.nodes.items above above2) c.lengthen.ensures.same c.in_ok-raise.ensures.raises in
    let may : MayDo (ledger s) (ledger u) = subst (λ (st : g.row.S.Denot). MayDo (ledger st) (ledger u)) c.lengthen.ensures.same c.raise.ensures.makes.may in
    let next : level + 1 ≡ suc level = omega arith in
    let pairs = next-pairs (ledger s) (ledger u) m (records u) level (level + 1) next row c.args.rows.now above above2 before between opens raises in
    let size = opens.size in
    let same_size = raises.size in
    let whole = c.requires.rows in
    let some_above = next-slots (ledger s) (ledger u) m (records u) level (level + 1) next row c.args.rows.now above above2 before between opens raises (c.are_empty.ensures.some c.if-are_empty.false) in
    let all_size : suc (length above) ≡ length c.args.rows.now = size in
    let not_none : 0 < length above = above-some m level above opens.hand.1 (c.are_empty.ensures.some c.if-are_empty.false) in
    λ κs h. (
      omega arith,
      (
        search rules,
        (
          h.0,
          (
            h.1.0,
            (
              h.1.1,
              (
                omega arith,
                (
                  may.unit ∙ c.requires.unit,
                  (
                    omega arith,
                    (
                      omega arith,
                      (
                        next-hand (ledger s) (ledger u) m (records u) level (level + 1) next row c.args.rows.now above above2 before between opens raises,
                        (
                          subst (λ (ps : List (ℕ × ℕ)). length ps < 2 ^ 32) (sym pairs) c.requires.few,
                          (
                            (λ high. some_above),
                            next-owned (ledger s) (ledger u) m (records u) level (level + 1) next row c.args.rows.now above above2 before between opens raises c.requires.owned,
                          ),
                        ),
                      ),
                    ),
                  ),
                ),
              ),
            ),
          ),
        ),
      ),
    )

pub returns-clause-finishes : goal.returns-clause-finishes
returns-clause-finishes g t c =
    let ledger = g.S.Store.ledger in
    let records = g.S.Frozen.records in
    let s = c.args.store.now in
    let u = c.raise.new.store in
    let w = c.finish.new.store in
    let m = records s in
    let level = c.args.level in
    let row = c.in-Some.row.now in
    let above = c.in-Some.above.now in
    let above2 = c.raise.new.above in
    let before = c.args.replaced.now.items in
    let between = c.lengthen.new.replaced.items in
    let all = c.in-Some.ensures.cases.0 in
    let opens : OpensRows m level c.args.rows.now (row ∷ above) before between =
    subst (λ (rows : List Row). OpensRows m level c.args.rows.now rows before between) all c.in_ok-lengthen.ensures.opens in
    let raises : RaisesRow (ledger s) (ledger u) m (records u) level row.keys.items row.nodes.items above above2 =
    subst (λ (st : g.row.S.Denot). RaisesRow (ledger st) (ledger u) (records st) (records u) level row.keys.items row.nodes.items above above2) c.lengthen.ensures.same c.in_ok-raise.ensures.raises in
    let keeps : Keeps m (records u) = subst (λ (st : g.row.S.Denot). Keeps (records st) (records u)) c.lengthen.ensures.same c.raise.ensures.makes.keeps in
    let next : level + 1 ≡ suc level = omega arith in
    IfOk-weaker c.finish.result _ _ (λ root last.
    finish-raised (ledger s) (ledger u) m (records u) level (level + 1) next row c.args.rows.now above above2 before between opens raises (ledger w) (records w) c.finish.new.replaced.items root keeps last)
    c.finish.ensures.finishes

pub returns-clause-may : goal.returns-clause-may
returns-clause-may g t c =
    let ledger = g.S.Store.ledger in
    let u = c.raise.new.store in
    may_do-then (ledger c.args.store.now) (ledger u) (ledger c.finish.new.store)
    (subst (λ (st : g.row.S.Denot). MayDo (ledger st) (ledger u)) c.lengthen.ensures.same c.raise.ensures.makes.may) c.finish.ensures.may

pub returns-then-are_empty-clause-counts : goal.returns-then-are_empty-clause-counts
returns-then-are_empty-clause-counts g t c =
    let ledger = g.S.Store.ledger in
    let s = c.args.store.now in
    let u = c.build_over.new.store in
    let row = c.in-Some.row.now in
    let above = c.in-Some.above.now in
    let levels = 7 - c.args.level in
    let lengthens : LengthensFirst c.args.rows.now (row ∷ above) = subst (λ (l : List Row). LengthensFirst c.args.rows.now l) c.in-Some.ensures.cases.0 c.in_ok-lengthen.ensures.lengthens in
    let counts : CountsNodes (ledger s) (ledger u) (nodes_above levels (length row.keys.items)) =
    subst (λ (st : g.row.S.Denot). CountsNodes (ledger st) (ledger u) (nodes_above levels (length row.keys.items))) c.lengthen.ensures.same
    (subst (λ (ks : List ℕ). CountsNodes (ledger c.lengthen.new.frozen) (ledger u) (nodes_above levels (length ks))) c.deref.ensures.value c.build_over.ensures.makes.counts) in
    λ budgets fit none some. counts-more (ledger s) (ledger u) _ _ (built-counts levels budgets c.args.rows.now row above fit some lengthens) counts

pub returns-then-are_empty-clause-alone : goal.returns-then-are_empty-clause-alone
returns-then-are_empty-clause-alone g t c =
    let ledger = g.S.Store.ledger in
    let s = c.args.store.now in
    let u = c.build_over.new.store in
    let row = c.in-Some.row.now in
    let above = c.in-Some.above.now in
    let levels = 7 - c.args.level in
    let lengthens : LengthensFirst c.args.rows.now (row ∷ above) = subst (λ (l : List Row). LengthensFirst c.args.rows.now l) c.in-Some.ensures.cases.0 c.in_ok-lengthen.ensures.lengthens in
    let counts : CountsNodes (ledger s) (ledger u) (nodes_above levels (length row.keys.items)) =
    subst (λ (st : g.row.S.Denot). CountsNodes (ledger st) (ledger u) (nodes_above levels (length row.keys.items))) c.lengthen.ensures.same
    (subst (λ (ks : List ℕ). CountsNodes (ledger c.lengthen.new.frozen) (ledger u) (nodes_above levels (length ks))) c.deref.ensures.value c.build_over.ensures.makes.counts) in
    λ none. counts-more (ledger s) (ledger u) _ _ (built-alone levels c.args.rows.now row above lengthens none) counts

pub returns-clause-counts : goal.returns-clause-counts
returns-clause-counts g t c =
    let ledger = g.S.Store.ledger in
    let s = c.args.store.now in
    let u = c.raise.new.store in
    let row = c.in-Some.row.now in
    let above = c.in-Some.above.now in
    let made = groups (length row.keys.items) in
    let counts : CountsNodes (ledger s) (ledger u) made = subst (λ (st : g.row.S.Denot). CountsNodes (ledger st) (ledger u) made) c.lengthen.ensures.same c.raise.ensures.makes.counts in
    let may : MayDo (ledger s) (ledger u) = subst (λ (st : g.row.S.Denot). MayDo (ledger st) (ledger u)) c.lengthen.ensures.same c.raise.ensures.makes.may in
    let lengthens : LengthensFirst c.args.rows.now (row ∷ above) = subst (λ (l : List Row). LengthensFirst c.args.rows.now l) c.in-Some.ensures.cases.0 c.in_ok-lengthen.ensures.lengthens in
    let idle : first_slots c.args.rows.now ≡ 0 → row ∷ above ≡ c.args.rows.now = λ none. subst (λ (l : List Row). l ≡ c.args.rows.now) c.in-Some.ensures.cases.0 (c.in_ok-lengthen.ensures.idle none) in
    λ budgets fit none some.
    raised-counts (ledger s) (ledger u) (ledger c.finish.new.store) budgets c.args.rows.now row above c.raise.new.above fit none some lengthens idle (c.are_empty.ensures.some c.if-are_empty.false)
    c.in_ok-raise.ensures.gains counts may c.finish.ensures.counts

pub returns-clause-alone : goal.returns-clause-alone
returns-clause-alone g t c =
    let row = c.in-Some.row.now in
    let above = c.in-Some.above.now in
    let lengthens : LengthensFirst c.args.rows.now (row ∷ above) = subst (λ (l : List Row). LengthensFirst c.args.rows.now l) c.in-Some.ensures.cases.0 c.in_ok-lengthen.ensures.lengthens in
    λ none. absurd (c.are_empty.ensures.some c.if-are_empty.false (alone-empty c.args.rows.now row above lengthens none))

pub returns-in_err-raise-clause-counts : goal.returns-in_err-raise-clause-counts
returns-in_err-raise-clause-counts g t c =
    let ledger = g.S.Store.ledger in
    let s = c.args.store.now in
    let u = c.raise.new.store in
    let row = c.in-Some.row.now in
    let above = c.in-Some.above.now in
    let made = groups (length row.keys.items) in
    let counts : CountsNodes (ledger s) (ledger u) made = subst (λ (st : g.row.S.Denot). CountsNodes (ledger st) (ledger u) made) c.lengthen.ensures.same c.raise.ensures.makes.counts in
    let lengthens : LengthensFirst c.args.rows.now (row ∷ above) = subst (λ (l : List Row). LengthensFirst c.args.rows.now l) c.in-Some.ensures.cases.0 c.in_ok-lengthen.ensures.lengthens in
    λ budgets fit none some.
    let low = first-counts budgets c.args.rows.now row above (some-budget budgets some) fit lengthens in
    counts-more (ledger s) (ledger u) made (2 * all_of budgets + last_of 0 budgets) (omega arith) counts

pub returns-in_err-raise-clause-alone : goal.returns-in_err-raise-clause-alone
returns-in_err-raise-clause-alone g t c =
    let row = c.in-Some.row.now in
    let above = c.in-Some.above.now in
    let lengthens : LengthensFirst c.args.rows.now (row ∷ above) = subst (λ (l : List Row). LengthensFirst c.args.rows.now l) c.in-Some.ensures.cases.0 c.in_ok-lengthen.ensures.lengthens in
    λ none. absurd (c.are_empty.ensures.some c.if-are_empty.false (alone-empty c.args.rows.now row above lengthens none))
