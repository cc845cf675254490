use Rattle.std.proofs.Common.{ap, ◌%◌, ◌∙◌, arith}
use Rattle.image_format.specs.Words.{weight_in_bits}
use Rattle.posting_store.proofs.CursorLemmas.{this_weight, vector_weight, weight_again}
use Rattle.posting_store.proofs.cursor.PostingCursor.weight.Goals as goal

pub returns-in-Short-clause-weight : goal.returns-in-Short-clause-weight
returns-in-Short-clause-weight g c =
    weight_again (c.word.result % 4294967296) c.cast_signed.result c.cast_signed.ensures (omega arith)
    ∙ c.cast_signed.ensures ∙ ap (λ w. weight_in_bits (w % 4294967296)) c.word.ensures.value
    ∙ this_weight (g.F.Frozen.records c.args.frozen.now) c.args.self.now c.in-Short.list c.in-Short.count c.in-Short.at c.in-Short.is c.requires.place c.requires.posting

pub returns-in-Vector-clause-weight : goal.returns-in-Vector-clause-weight
returns-in-Vector-clause-weight g c =
    vector_weight (g.F.Frozen.records c.args.frozen.now) c.args.self.now c.in-Vector.field-0 c.in-Vector.is c.requires.place c.requires.posting
