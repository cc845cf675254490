use Rattle.std.proofs.Common.{List, ap, sym, ◌∙◌}
use Rattle.attr_types.specs.Scores.{ask_tree}
use Rattle.attr_types.specs.declared.field.Field.{Field}
use Rattle.query_text.specs.Asks.{ask_of}
use Rattle.attr_c.proofs.SeatLemmas.{answers_text}
use Rattle.attr_c.proofs.asking.answer_of.Goals as goal

pub returns-in-Ok-clause-answers : goal.returns-in-Ok-clause-answers
returns-in-Ok-clause-answers g c =
    let text = c.args.text.now in
    let e = c.answer_to.ensures in
    answers_text c.args.kept.now text c.answer_to.new.told (ask_tree c.in-Ok.ask) c.answer_to.result
    (ap (λ (fields : List Field). ask_of fields text) (sym c.fields.ensures.fields) ∙ c.in-Ok.ensures.asks) e.answers e.count e.tells
