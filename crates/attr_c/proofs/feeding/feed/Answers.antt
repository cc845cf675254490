use Rattle.std.proofs.Common.{◌≡◌, ◌+◌, ◌-◌, ◌++◌, [], ◌∷◌, ℕ, List, length, drop, ap, refl, sym, subst, rules, ◌∙◌, arith, append-nil, Ok, Err}
use Rattle.attr_types.specs.declared.field.Field.{Field}
use Rattle.feed_reader.specs.Lines.{lines_of}
use Rattle.attr_c.specs.declared.told.Told.{Told}
use Rattle.attr_types.specs.declared.op.Op.{Op}
use Rattle.attr_c.specs.Feeding.{AreOpsOf, FedLine, FedTo, IfLine, IsFirstOp, IsOpOf, IsSaidBefore, RefusesLine}
use Rattle.attr_operations.proofs.StepLemmas.{keeps_same}
use Rattle.compaction_steps.proofs.WalkLemmas.{keeps_then}
use Rattle.attr_c.proofs.ApplyingLemmas.{applies_none, applies_then, applies_wider}
use Rattle.attr_c.proofs.EndLemmas.{line_since}
use Rattle.attr_c.proofs.FeedLemmas.{drop_none, drop_on, fed_none, fed_on, fed_refused, fed_small, fed_still, fed_whole, said_more, said_none, said_whole}
use Rattle.attr_c.proofs.feeding.feed.Goals as goal

pub loop-rest-init : goal.loop-rest-init
loop-rest-init g c = record {
  fed = fed_none c.args.inner.now.fields c.args.bytes.now c.args.inner.now.attribute.table c.args.inner.now.attribute.operations;
  told = refl;
  pool = refl;
  counts = refl;
  fields = refl;
  dense = refl;
  keeps = keeps_same (g.S.Store.ledger c.args.inner.now.attribute.store);
  plan = refl;
  done = applies_none g.S.Store.ledger (IsSaidBefore c.args.inner.now.fields c.args.bytes.now c.args.bytes.now) c.args.inner.now.attribute (said_none c.args.inner.now.fields c.args.bytes.now);
  commit = record { table = refl; operations = refl };
  at = drop_none c.args.bytes.now;
  small = omega arith;
  few = omega arith;
}

pub overflow_add-told : goal.overflow_add-told
overflow_add-told g c =
    let was = c.args.inner.now in
    let mid = c.loop-rest.inner.attribute in
    let now = c.feed_line.new.inner.attribute in
    let i = c.loop-rest.invariant in
    let line = c.split_line.result.0.now in
    let fed = subst (λ (fs : List Field). FedLine fs line mid.table now.table mid.operations now.operations (Ok c.in-Ok.applied)) i.fields c.in-Ok.ensures.fed in
    let is = c.skips_of.ensures in
    let small = fed_small was.fields c.args.bytes.now (c.loop-rest.passed + 1) c.loop-rest.rest.now line was.attribute.table mid.table now.table was.attribute.operations mid.operations now.operations
    c.loop-rest.told.skipped c.in-Ok.applied i.fed fed c.in-Ok.ensures.few i.small in
    record { fits = omega (arith, small, is) }

pub loop-rest-preserved : goal.loop-rest-preserved
loop-rest-preserved g c =
    let ledger = g.S.Store.ledger in
    let was = c.args.inner.now in
    let mid = c.loop-rest.inner.attribute in
    let now = c.feed_line.new.inner.attribute in
    let i = c.loop-rest.invariant in
    let skipped = c.loop-rest.told.skipped in
    let rest = c.loop-rest.rest.now in
    let line = c.split_line.result.0.now in
    let after = c.split_line.result.1.now in
    let fed = subst (λ (fs : List Field). FedLine fs line mid.table now.table mid.operations now.operations (Ok c.in-Ok.applied)) i.fields c.in-Ok.ensures.fed in
    let shorter = c.split_line.ensures.shorter in
    let few = i.few in
    let is = c.skips_of.ensures in
    let small = fed_small was.fields c.args.bytes.now (c.loop-rest.passed + 1) rest line was.attribute.table mid.table now.table was.attribute.operations mid.operations now.operations skipped
    c.in-Ok.applied i.fed fed c.in-Ok.ensures.few i.small in
    record {
      fed = subst (λ (n : ℕ). FedTo was.fields c.args.bytes.now (c.loop-rest.passed + 1 + 1) after was.attribute.table now.table was.attribute.operations now.operations (skipped + n))
          (sym c.skips_of.ensures)
          (fed_on was.fields c.args.bytes.now was.attribute.table mid.table now.table was.attribute.operations mid.operations now.operations skipped (c.loop-rest.passed + 1) rest line after
          c.split_line.ensures.lines i.fed c.in-Ok.applied fed);
      told = ap (λ (t : Told). record t { skipped = skipped + c.skips_of.result }) i.told;
      pool = c.in-Ok.ensures.pool ∙ i.pool;
      counts = c.in-Ok.ensures.counts ∙ i.counts;
      fields = c.in-Ok.ensures.fields ∙ i.fields;
      dense = c.in-Ok.ensures.dense ∙ i.dense;
      keeps = keeps_then (ledger was.attribute.store) (ledger mid.store) (ledger now.store) i.keeps c.in-Ok.ensures.keeps;
      plan = c.in-Ok.ensures.plan ∙ i.plan;
      done = applies_then ledger (IsSaidBefore was.fields c.args.bytes.now rest) (AreOpsOf c.loop-rest.inner.fields line) (IsSaidBefore was.fields c.args.bytes.now after) was.attribute mid now
          (λ xs ys before of_line. said_more was.fields c.args.bytes.now rest line after c.split_line.ensures.lines xs before ys (subst (λ (fs : List Field). AreOpsOf fs line ys) i.fields of_line)) i.done
          c.in-Ok.ensures.done;
      commit = record { table = c.in-Ok.ensures.commit.table ∙ i.commit.table; operations = c.in-Ok.ensures.commit.operations ∙ i.commit.operations };
      at = drop_on c.args.bytes.now rest after i.at c.split_line.ensures.rest (omega (arith, shorter)) (omega (arith, few));
      small = omega (arith, small, is);
      few = omega (arith, few, shorter);
    }

pub returns-in-Err-clause-front : goal.returns-in-Err-clause-front
returns-in-Err-clause-front g c =
    let was = c.args.inner.now in
    let mid = c.loop-rest.inner.attribute in
    let now = c.feed_line.new.inner.attribute in
    let i = c.loop-rest.invariant in
    let skipped = c.loop-rest.told.skipped in
    let line = c.split_line.result.0.now in
    let fed = subst (λ (fs : List Field). FedLine fs line mid.table now.table mid.operations now.operations (Err c.in-Err.stop)) i.fields c.in-Err.ensures.fed in
    subst (λ (rest : List ℕ). FedTo was.fields c.args.bytes.now (c.loop-rest.passed + 1) rest was.attribute.table now.table was.attribute.operations now.operations skipped) i.at
    (fed_still was.fields c.args.bytes.now was.attribute.table mid.table now.table was.attribute.operations mid.operations now.operations skipped (c.loop-rest.passed + 1) c.loop-rest.rest.now line
    c.split_line.result.1.now c.split_line.ensures.lines i.fed c.in-Err.stop fed)

pub returns-in-Err-clause-refused : goal.returns-in-Err-clause-refused
returns-in-Err-clause-refused g c =
    let was = c.args.inner.now in
    let mid = c.loop-rest.inner.attribute in
    let now = c.feed_line.new.inner.attribute in
    let i = c.loop-rest.invariant in
    let line = c.split_line.result.0.now in
    let fed = subst (λ (fs : List Field). FedLine fs line mid.table now.table mid.operations now.operations (Err c.in-Err.stop)) i.fields c.in-Err.ensures.fed in
    subst (λ (rest : List ℕ). IfLine (RefusesLine was.fields c.args.bytes.now (c.loop-rest.passed + 1) rest) c.in-Err.stop) i.at
    (fed_refused was.fields c.args.bytes.now was.attribute.table mid.table now.table was.attribute.operations mid.operations now.operations c.loop-rest.told.skipped (c.loop-rest.passed + 1)
    c.loop-rest.rest.now line c.split_line.result.1.now c.split_line.ensures.lines i.fed c.in-Err.stop c.split_line.ensures.alone fed)

pub returns-in-Err-clause-why : goal.returns-in-Err-clause-why
returns-in-Err-clause-why g c =
    let was = c.args.inner.now in
    let mid = c.loop-rest.inner in
    let now = c.feed_line.new.inner.attribute in
    let bytes = c.args.bytes.now in
    let i = c.loop-rest.invariant in
    let rest = c.loop-rest.rest.now in
    let line = c.split_line.result.0.now in
    let place = length bytes - length rest in
    let none : List Op → Type 0 = λ ops. ops ≡ [] in
    line_since g.S.Store.ledger g.S.Frozen.records (IsSaidBefore was.fields bytes rest) none (IsSaidBefore was.fields bytes (drop place bytes)) (IsOpOf mid.fields line)
    (IsFirstOp was.fields (drop place bytes)) was.attribute mid.attribute now
    (λ xs ys before no. subst (λ (r : List ℕ). IsSaidBefore was.fields bytes r (xs ++ ys)) i.at
    (subst (IsSaidBefore was.fields bytes rest) (sym (ap (λ (os : List Op). xs ++ os) no ∙ append-nil xs)) before))
    (λ op is. record {
      line = line;
      lines = lines_of c.split_line.result.1.now;
      first = ap lines_of (sym i.at) ∙ c.split_line.ensures.lines;
      is = subst (λ (fs : List Field). IsOpOf fs line op) i.fields is;
    })
    i.done c.in-Err.stop c.in-Err.ensures.why

pub returns-in-Err-clause-next : goal.returns-in-Err-clause-next
returns-in-Err-clause-next g c =
    let bytes = c.args.bytes.now in
    let i = c.loop-rest.invariant in
    let rest = c.loop-rest.rest.now in
    let line = c.split_line.result.0.now in
    let after = c.split_line.result.1.now in
    let shorter = c.split_line.ensures.shorter in
    let few = i.few in
    let behind = drop_on bytes rest after i.at c.split_line.ensures.rest (omega (arith, shorter)) (omega (arith, few)) in
    record { line = line; lines = ap lines_of (sym i.at) ∙ c.split_line.ensures.lines ∙ ap (λ (xs : List ℕ). line ∷ lines_of xs) behind; within = omega arith }

pub returns-in-Err-clause-keeps : goal.returns-in-Err-clause-keeps
returns-in-Err-clause-keeps g c =
    let ledger = g.S.Store.ledger in
    keeps_then (ledger c.args.inner.now.attribute.store) (ledger c.loop-rest.inner.attribute.store) (ledger c.feed_line.new.inner.attribute.store) c.loop-rest.invariant.keeps c.in-Err.ensures.keeps

pub returns-in-Err-clause-dense : goal.returns-in-Err-clause-dense
returns-in-Err-clause-dense g c = c.in-Err.ensures.dense ∙ c.loop-rest.invariant.dense

pub returns-clause-whole : goal.returns-clause-whole
returns-clause-whole g c =
    let was = c.args.inner.now in
    let mid = c.loop-rest.inner.attribute in
    fed_whole was.fields c.args.bytes.now was.attribute.table mid.table was.attribute.operations mid.operations c.loop-rest.told.skipped (c.loop-rest.passed + 1)
    c.loop-rest.rest.now (search rules) c.loop-rest.invariant.fed

pub returns-in-Err-clause-plan : goal.returns-in-Err-clause-plan
returns-in-Err-clause-plan g c = c.in-Err.ensures.plan ∙ c.loop-rest.invariant.plan

pub returns-clause-done : goal.returns-clause-done
returns-clause-done g c =
    let was = c.args.inner.now in
    let i = c.loop-rest.invariant in
    applies_wider g.S.Store.ledger (IsSaidBefore was.fields c.args.bytes.now c.loop-rest.rest.now) _ was.attribute c.loop-rest.inner.attribute
    (λ ops. said_whole was.fields c.args.bytes.now c.loop-rest.rest.now ops (search rules)) i.done
