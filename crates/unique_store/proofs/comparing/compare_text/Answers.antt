use Rattle.std.proofs.Common.{◌∙◌, sym, arith}
use Rattle.image_format.specs.Values.{stored_text}
use Rattle.attr_types.specs.declared.kind.ValueType.TheVariants as types
use Rattle.unique_store.proofs.ByteLemmas.{small_text}
use Rattle.unique_store.proofs.OrderLemmas.{first_differs}
use Rattle.unique_store.proofs.RecordLemmas.{text_first, value_there}
use Rattle.unique_store.proofs.comparing.compare_text.Goals as goal

pub word-requires : goal.word-requires
word-requires g c = (omega arith, value_there types.Text _ c.requires.record)

pub returns-then-is_ne-clause-answer : goal.returns-then-is_ne-clause-answer
returns-then-is_ne-clause-answer g c =
    let ws = g.F.Frozen.records c.args.frozen.now c.args.stored in
    first_differs (stored_text ws) c.args.bytes.now (small_text _ _) (λ k. omega (arith, c.type_inv.bytes k)) c.word.result c.first_word.result
    (c.word.ensures.value ∙ text_first ws c.requires.record) c.first_word.ensures c.cmp-order.result c.cmp-order.ensures (sym c.is_ne.ensures ∙ c.if-is_ne.true)
