use Rattle.std.proofs.Common.{◌≡◌, subst, sym, rules, Ok, Some, None}
use Rattle.attr_c.specs.Feeding.{AreOpsOf, IsOpOf, SaysLine}
use Rattle.attr_c.proofs.EndLemmas.{line_or, stops_wider}
use Rattle.attr_c.proofs.FeedLemmas.{fed_stopped}
use Rattle.attr_c.proofs.ApplyingLemmas.{applies_none}
use Rattle.attr_c.proofs.feeding.feed_line.Goals as goal

pub returns-in-Ok-Some-clause-fed : goal.returns-in-Ok-Some-clause-fed
returns-in-Ok-Some-clause-fed g c =
    let was = c.args.inner.now.attribute in
    let is = c.apply.new.inner.attribute in
    let left = c.in-Err-apply.ensures.left in
    fed_stopped c.args.inner.now.fields c.args.line.now was.table is.table was.operations is.operations c.in-Err-apply.stop c.in-Err-apply.ensures.kind
    (record { table = left.0; operations = left.1 })

pub returns-in-Ok-Some-clause-why : goal.returns-in-Ok-Some-clause-why
returns-in-Ok-Some-clause-why g c =
    let was = c.args.inner.now.attribute in
    let now = c.apply.new.inner.attribute in
    let fields = c.args.inner.now.fields in
    let line = c.args.line.now in
    let is : c.operation_in.result ≡ Ok (Some c.in-Ok-Some.op) = search rules in
    let said = subst (SaysLine fields line) is c.operation_in.ensures in
    let one : IsOpOf fields line c.in-Ok-Some.op = record { some = said.0; says = said.1 } in
    line_or g.S.Store.ledger g.S.Frozen.records _ (IsOpOf fields line) was now _ c.in-Err-apply.stop
    (stops_wider g.S.Store.ledger g.S.Frozen.records _ (λ next. next ≡ c.in-Ok-Some.op) was now (IsOpOf fields line) (λ op same. subst (IsOpOf fields line) (sym same) one) c.in-Err-apply.stop
    c.in-Err-apply.ensures.why)

pub returns-in-Ok-None-clause-done : goal.returns-in-Ok-None-clause-done
returns-in-Ok-None-clause-done g c =
    let fields = c.args.inner.now.fields in
    let line = c.args.line.now in
    let is : c.operation_in.result ≡ Ok None = search rules in
    let said = subst (SaysLine fields line) is c.operation_in.ensures in
    applies_none g.S.Store.ledger (AreOpsOf fields line) c.args.inner.now.attribute said
