use Rattle.std.proofs.Common.{◌≡◌, ◌+◌, suc, length, take, refl, sym, ap, subst, ◌∙◌, arith, rules, true≢false}
use Rattle.std.proofs.lemmas.Option.{slice_get_read}
use Rattle.attr_field.proofs.CompareLemmas.{same_on, same_all, read_same}
use Rattle.attr_field.proofs.comparing.same_items.Goals as goal

pub returns-then-a-b : goal.returns-then-a-b
returns-then-a-b c = (λ no. absurd (true≢false (sym no)), λ same. absurd (c.if-a-b.true (ap length same)))

pub loop-i-init : goal.loop-i-init
loop-i-init c = record { same = refl; sizes = c.if-a-b.false }

pub offset_bounds-a-i : goal.offset_bounds-a-i
offset_bounds-a-i c = search rules

pub bounds-a-i : goal.bounds-a-i
bounds-a-i c = c.loop-i-test.true

pub offset_bounds-b-i : goal.offset_bounds-b-i
offset_bounds-b-i c = search rules

pub bounds-b-i : goal.bounds-b-i
bounds-b-i c = let sizes = c.loop-i.invariant.sizes in let below = c.loop-i-test.true in omega arith

pub returns-then-not-same_item : goal.returns-then-not-same_item
returns-then-not-same_item c = (
  λ no. absurd (true≢false (sym no)),
  λ same. absurd (true≢false (sym (c.same_item.ensures.1 (read_same c.args.a.now c.args.b.now c.loop-i.i c.index-a-i.result c.index-b-i.result
      (slice_get_read c.args.a.now (length c.args.a.now) c.loop-i.i c.index-a-i.result refl c.loop-i-test.true c.index-a-i.is)
      (slice_get_read c.args.b.now (length c.args.a.now) c.loop-i.i c.index-b-i.result c.loop-i.invariant.sizes c.loop-i-test.true c.index-b-i.is) same)) ∙ c.if-not-same_item.true)),
)

pub loop-i-preserved : goal.loop-i-preserved
loop-i-preserved c =
    let next : suc c.loop-i.i ≡ c.loop-i.i + 1 = omega arith in
    record {
      same = subst (λ j. take j c.args.a.now ≡ take j c.args.b.now) next
          (same_on c.args.a.now c.args.b.now c.loop-i.i c.index-a-i.result c.index-b-i.result c.loop-i.invariant.same
          (slice_get_read c.args.a.now (length c.args.a.now) c.loop-i.i c.index-a-i.result refl c.loop-i-test.true c.index-a-i.is)
          (slice_get_read c.args.b.now (length c.args.a.now) c.loop-i.i c.index-b-i.result c.loop-i.invariant.sizes c.loop-i-test.true c.index-b-i.is)
          (c.same_item.ensures.0 c.if-not-same_item.false));
      sizes = c.loop-i.invariant.sizes;
    }

pub returns : goal.returns
returns c =
    let last : length c.args.a.now ≡ c.loop-i.i = (let no = c.loop-i-test.false in let most = c.loop-i.auto.i-end in omega arith) in
    (λ yes. same_all c.args.a.now c.args.b.now c.loop-i.i c.loop-i.invariant.same c.loop-i.invariant.sizes last, λ same. refl)
