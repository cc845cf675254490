use Rattle.std.proofs.Common.{◌≡◌, ◌+◌, ◌∙◌, sym, ap, string_bytes, ◌++◌, arith, drop, append-nil, length, ◌<◌, List}
use Rattle.std.proofs.Math.Seq.{drop-length}
use Rattle.list_lemmas.proofs.Places.{drop-read}
use Rattle.attr_rounds.specs.declared.rounds.Round.{Round}
use Rattle.attr_rounds.specs.declared.asked.Told.{Told}
use Rattle.attr_engine.specs.Writing.{rounds_text}
use Rattle.attr_engine.proofs.WritingLemmas.{rounds_text-next}
use Rattle.attr_engine.proofs.writing.push_rounds.Goals as goal

pub loop-round-preserved : goal.loop-round-preserved
loop-round-preserved c =
    let below : c.loop-round.round-index < length c.args.rounds.now = omega arith in
    let rest = drop-read c.args.rounds.now c.loop-round.round-index c.round-item.result c.round-item.result below c.round-item.is in
    let left = drop (c.loop-round.round-index + 1) c.args.rounds.now in
    record {
      written = rounds_text-next (string_bytes c.loop-round.text) c.args.reader c.loop-round.number c.round-item.result left _ c.in_ok-push_round.ensures
          ∙ ap (λ (rounds : List (Round Told)). string_bytes c.loop-round.text ++ rounds_text c.args.reader c.loop-round.number rounds) (sym rest)
          ∙ c.loop-round.invariant.written;
      counted = omega arith;
    }

pub returns : goal.returns
returns c =
    let at_end : c.loop-round.round-index ≡ length c.args.rounds.now = omega arith in
    let none = ap (λ n. drop n c.args.rounds.now) at_end ∙ drop-length c.args.rounds.now in
    sym (append-nil (string_bytes c.loop-round.text))
    ∙ ap (λ (rounds : List (Round Told)). string_bytes c.loop-round.text ++ rounds_text c.args.reader c.loop-round.number rounds) (sym none)
    ∙ c.loop-round.invariant.written
