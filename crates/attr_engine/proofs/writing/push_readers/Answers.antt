use Rattle.std.proofs.Common.{◌≡◌, ◌+◌, ◌∙◌, sym, ap, string_bytes, ◌++◌, arith, drop, append-nil, length, ◌<◌, List}
use Rattle.std.specs.Prelude.{Vec}
use Rattle.std.specs.Global.{Global}
use Rattle.std.proofs.Math.Seq.{drop-length}
use Rattle.list_lemmas.proofs.Places.{drop-read}
use Rattle.attr_rounds.specs.declared.rounds.Round.{Round}
use Rattle.attr_rounds.specs.declared.asked.Told.{Told}
use Rattle.attr_engine.specs.Writing.{rounds_text, readers_text}
use Rattle.attr_engine.proofs.WritingLemmas.{readers_text-next}
use Rattle.attr_engine.proofs.writing.push_readers.Goals as goal

pub loop-made-preserved : goal.loop-made-preserved
loop-made-preserved c =
    let below : c.loop-made.made-index < length c.args.rounds.now = omega arith in
    let rest = drop-read c.args.rounds.now c.loop-made.made-index c.made-item.result c.made-item.result below c.made-item.is in
    let left = drop (c.loop-made.made-index + 1) c.args.rounds.now in
    record {
      written = readers_text-next (string_bytes c.loop-made.text) c.loop-made.reader c.made-item.result left _
          (c.in_ok-push_rounds.ensures
          ∙ ap (λ (rounds : List (Round Told)). string_bytes c.loop-made.text ++ rounds_text c.loop-made.reader 1 rounds) c.as_slice.ensures.value)
          ∙ ap (λ (all_rounds : List (Vec (Round Told) Global)). string_bytes c.loop-made.text ++ readers_text c.loop-made.reader all_rounds) (sym rest)
          ∙ c.loop-made.invariant.written;
      counted = omega arith;
    }

pub returns : goal.returns
returns c =
    let at_end : c.loop-made.made-index ≡ length c.args.rounds.now = omega arith in
    let none = ap (λ n. drop n c.args.rounds.now) at_end ∙ drop-length c.args.rounds.now in
    sym (append-nil (string_bytes c.loop-made.text))
    ∙ ap (λ (all_rounds : List (Vec (Round Told) Global)). string_bytes c.loop-made.text ++ readers_text c.loop-made.reader all_rounds) (sym none)
    ∙ c.loop-made.invariant.written
