use Rattle.std.proofs.Common.{◌≡◌, length, true≢false, sym, ◌∙◌, arith}
use Rattle.std.proofs.lemmas.Bool.{eqb-true, eq-eqb}
use Rattle.check_images.proofs.TableLemmas.{keys_go_on, rows_end, keys_differ, all_same, rows_left, no_more}
use Rattle.check_images.proofs.tables.have_same_documents.Goals as goal

pub returns-in_default : goal.returns-in_default
returns-in_default c = (
  λ is. absurd (true≢false (sym is)),
  λ same. absurd (rows_end c.args.table.now c.loop-entry.rows.now c.args.column.now c.loop-entry.entry-index c.loop-entry.invariant c.entry-item.result c.in_default.len_below c.loop-entry-test.true c.entry-item.is same),
)

pub returns-then-row-entry : goal.returns-then-row-entry
returns-then-row-entry c = (
  λ is. absurd (true≢false (sym is)),
  λ same. absurd (keys_differ c.args.table.now c.loop-entry.rows.now c.args.column.now c.loop-entry.entry-index c.loop-entry.invariant c.row-item.result c.entry-item.result c.in-len1-up.len_at_least c.row-item.is
      c.if-row-entry.true c.loop-entry-test.true c.entry-item.is same),
)

pub loop-entry-preserved : goal.loop-entry-preserved
loop-entry-preserved c =
    keys_go_on c.args.table.now c.loop-entry.rows.now c.args.column.now c.loop-entry.entry-index c.loop-entry.invariant c.row-item.result c.entry-item.result c.in-len1-up.len_at_least c.row-item.is c.if-row-entry.false
    c.loop-entry-test.true c.entry-item.is

pub returns : goal.returns
returns c =
    let T = c.args.table.now in
    let R = c.loop-entry.rows.now in
    let C = c.args.column.now in
    let i = c.loop-entry.entry-index in
    let last = c.loop-entry-test.false in
    let most = c.loop-entry.auto.entry-index-end in
    let end : i ≡ length C = omega arith in (
      λ is. all_same T R C i c.loop-entry.invariant end (eqb-true (length R) 0 (sym c.is_empty.ensures ∙ is)),
      λ same. c.is_empty.ensures ∙ eq-eqb (length R) 0 (no_more (length R) (λ some. rows_left T R C i c.loop-entry.invariant end some same)),
    )
