use Rattle.std.proofs.Common.{◌≡◌, ◌<◌, ◌+◌, ◌∙◌, ℕ, ℤ, pos, Option, length, take, get_or, slice_set, rules, arith, ap, subst, w64}
use Rattle.std.proofs.lemmas.Int.{to_z-of_z}
use Rattle.std.specs.Option.{unwrap_or}
use Rattle.query_results.specs.Attributes.{number_in}
use Rattle.query_results.specs.Longs.{presence}
use Rattle.query_results.specs.Walks.{IsWalk}
use Rattle.query_results.proofs.LongLemmas.{count_fits, counted_more, written_more}
use Rattle.query_results.proofs.longs.longs_along.Goals as goal

pub loop-i-preserved : goal.loop-i-preserved
loop-i-preserved g c =
    let records = g.F.Frozen.records in
    let m = records c.args.frozen.now in
    let bits = g.row.OFFSET_BITS in
    let a = c.args.attribute.now in
    let docs = c.args.documents.now in
    let i = c.loop-i.i in
    let before = c.loop-i.invariant in
    let below : i < length docs = omega (arith, c.loop-i-test.true) in
    let read : c.next_long-number.result ≡ number_in bits m a (get_or docs i 0) =
    c.next_long-number.ensures.long ∙ ap (λ (f : g.row.F.Denot). number_in bits (records f) a (get_or docs i 0)) before.same in
    let here : c.presence-one.result ≡ presence (number_in bits m a (get_or docs i 0)) = c.presence-one.ensures ∙ ap presence read in
    let value : c.unwrap_or.result ≡ unwrap_or (number_in bits m a (get_or docs i 0)) (pos 0) =
    c.unwrap_or.ensures ∙ ap (λ (o : Option ℤ). unwrap_or o (pos 0)) read in
    record {
      same = c.next_long-number.ensures.same ∙ before.same;
      walk = subst (λ (f : g.row.F.Denot). IsWalk (records f) a.documents c.next_long-number.new.walk) before.same c.next_long-number.ensures.walk;
      numbers = ap (λ (z : ℤ). take (i + 1) (slice_set c.loop-i.numbers i z)) (to_z-of_z w64 c.unwrap_or.result (record { sfits = c.unwrap_or.type_inv }))
          ∙ written_more (λ n. unwrap_or (number_in bits m a n) (pos 0)) docs c.loop-i.numbers i 0 c.unwrap_or.result below (omega (arith, below, before.numbers_fit)) value before.numbers;
      present = written_more (λ n. presence (number_in bits m a n)) docs c.loop-i.present i 0 c.presence-one.result below (omega (arith, below, before.present_fit)) here before.present;
      numbers_fit = search rules;
      present_fit = search rules;
      few = count_fits (number_in bits m a (get_or docs i 0)) c.loop-i.found c.presence-one.result i here before.few;
      whole = counted_more (number_in bits m a) docs i 0 c.loop-i.found (c.loop-i.found + c.presence-one.result) _ below (ap (λ (n : ℕ). c.loop-i.found + n) here) before.whole;
    }
