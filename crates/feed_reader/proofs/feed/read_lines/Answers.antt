use Rattle.std.proofs.Common.{◌≡◌, ◌∙◌, sym, ap, rules, arith, true, false, length, length-append, [], ◌∷◌}
use Rattle.feed_reader.specs.Feed.{ops_of_lines, with_front}
use Rattle.feed_reader.specs.Lines.{is_blank}
use Rattle.feed_reader.proofs.LawLemmas.{feed_fits}
use Rattle.feed_reader.proofs.FeedLemmas.{lines_blank, lines_more, lines_error, lines_end, lines_start}
use Rattle.feed_reader.proofs.feed.read_lines.Goals as goal
use Rattle.feed_reader.proofs.feed.read_lines.Goals.{then-not-is_blank_line+in-Ok+in_ok-push-in-Ok, else-not-is_blank_line}

pub loop-rest-init : goal.loop-rest-init
loop-rest-init c = record {
  said = rw c.new-ops.ensures (lines_start c.args.fields.now c.args.bytes.now);
  small_read = omega arith;
  few = rw c.new-ops.ensures (omega arith);
}

pub returns-in-Err-clause-feed : goal.returns-in-Err-clause-feed
returns-in-Err-clause-feed c =
    let blank : is_blank c.split_line.result.0.now ≡ false = search rules in
    let said = sym (ap (λ ls. with_front c.loop-rest.ops (ops_of_lines c.args.fields.now c.loop-rest.number ls)) c.split_line.ensures.lines) ∙ c.loop-rest.invariant.said in
    rw c.numbered.ensures (lines_error c.args.fields.now c.args.bytes.now c.loop-rest.ops _ c.loop-rest.number c.split_line.result.0.now _ blank c.in-Err.ensures said)

pub loop-rest-preserved : goal.loop-rest-preserved
loop-rest-preserved c =
    let said = sym (ap (λ ls. with_front c.loop-rest.ops (ops_of_lines c.args.fields.now c.loop-rest.number ls)) c.split_line.ensures.lines) ∙ c.loop-rest.invariant.said in
    elim c.if-not-is_blank_line.branch [
      | then-not-is_blank_line+in-Ok+in_ok-push-in-Ok w ↦
          let blank : is_blank c.split_line.result.0.now ≡ false = search rules in
          record {
            said = rw (w.ops-is, w.in_ok-push-in-Ok.ensures.ok) (sym (lines_more c.args.fields.now c.loop-rest.ops _ c.loop-rest.number c.split_line.result.0.now _ blank w.in-Ok.ensures) ∙ said);
            small_read = omega (arith, c.split_line.ensures.shorter);
            few = omega (arith, c.split_line.ensures.shorter, c.loop-rest.invariant.few, ap length w.ops-is, ap length w.in_ok-push-in-Ok.ensures.ok, length-append c.loop-rest.ops (w.in-Ok.op ∷ []));
          }
      | else-not-is_blank_line w ↦
          let blank : is_blank c.split_line.result.0.now ≡ true = search rules in
          record {
            said = rw w.ops-is (ap (with_front c.loop-rest.ops) (sym (lines_blank c.args.fields.now c.loop-rest.number c.split_line.result.0.now _ blank)) ∙ said);
            small_read = omega (arith, c.split_line.ensures.shorter);
            few = omega (arith, c.split_line.ensures.shorter, c.loop-rest.invariant.few, ap length w.ops-is);
          }
    ]

pub returns-clause-feed : goal.returns-clause-feed
returns-clause-feed c = sym c.loop-rest.invariant.said ∙ lines_end c.args.fields.now c.loop-rest.ops c.loop-rest.number c.loop-rest.rest.now (search rules)

pub returns-clause-fits : goal.returns-clause-fits
returns-clause-fits c = feed_fits c.args.fields.now c.args.bytes.now c.loop-rest.ops (returns-clause-feed c)
