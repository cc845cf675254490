use Rattle.std.proofs.Common.{◌≡◌, ◌∙◌, [], Ok, ap, sym, map, rules}
use Rattle.attr_c.specs.Attributes.{fields_from, parts_of}
use Rattle.attr_c.proofs.AttributesLemmas.{none_empty, parts_some}
use Rattle.attr_c.proofs.attributes.fields_in.Goals as goal

pub returns-then-is_empty-clause-says : goal.returns-then-is_empty-clause-says
returns-then-is_empty-clause-says c =
    let texts = ap (map (λ t. t.now)) c.as_slice.ensures.value ∙ c.in_ok-texts.ensures in
    let empty : c.in_ok-fields.fields ≡ [] = search rules in
    absurd (none_empty (parts_of 44 c.args.text.now) (parts_some 44 c.args.text.now)
    (ap (fields_from []) (sym texts) ∙ c.in_ok-fields.ensures.says ∙ ap Ok empty))
