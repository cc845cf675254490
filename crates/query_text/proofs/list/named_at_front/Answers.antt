use Rattle.std.proofs.Common.{◌∙◌, ap}
use Rattle.std.specs.Option.{unwrap_or}
use Rattle.attr_types.specs.Names.{field_named}
use Rattle.query_text.proofs.list.named_at_front.Goals as goal

pub returns-clause-value : goal.returns-clause-value
returns-clause-value c =
    c.unwrap_or.ensures
    ∙ ap (λ o. unwrap_or o 0) (c.field_named.ensures.value ∙ ap (field_named c.args.fields.now) c.name_at_front.ensures)
