use Rattle.std.proofs.Common.{◌≡◌, ℕ, pos, List, None, replicate, sym, ap, ◌∙◌}
use Rattle.std.specs.Option.{option_and_then}
use Rattle.image_format.specs.Images.{table_of}
use Rattle.result_model.specs.Totals.{long_of, number_of}
use Rattle.result_model.specs.Values.{first_value}
use Rattle.query_results.proofs.LongLemmas.{no_number, no_numbers, none_counted, none_present}
use Rattle.query_results.proofs.longs.write_longs.Goals as goal

pub returns-in-Text-clause-numbers : goal.returns-in-Text-clause-numbers
returns-in-Text-clause-numbers g c =
    let frozen = c.args.frozen.now in
    let m = g.F.Frozen.records frozen in
    let a = c.attribute_of-attribute.result in
    let number = number_of c.args.field (table_of (g.F.Frozen.shape frozen) m c.args.root) in
    let none : (doc : ℕ) → number doc ≡ None = λ doc.
    ap (λ items. option_and_then long_of (first_value items)) (sym (c.attribute_of-attribute.ensures.attribute.items doc))
    ∙ no_number a.kind m a.value_type c.in-Text.is a.documents doc in
    c.no_longs.ensures.numbers ∙ ap (λ (n : ℕ). replicate n (pos 0)) c.requires.numbers ∙ sym (no_numbers number none c.args.documents.now)

pub returns-in-Text-clause-present : goal.returns-in-Text-clause-present
returns-in-Text-clause-present g c =
    let frozen = c.args.frozen.now in
    let m = g.F.Frozen.records frozen in
    let a = c.attribute_of-attribute.result in
    let number = number_of c.args.field (table_of (g.F.Frozen.shape frozen) m c.args.root) in
    let none : (doc : ℕ) → number doc ≡ None = λ doc.
    ap (λ items. option_and_then long_of (first_value items)) (sym (c.attribute_of-attribute.ensures.attribute.items doc))
    ∙ no_number a.kind m a.value_type c.in-Text.is a.documents doc in
    let zeros : ℕ → List ℕ = λ n. replicate n 0 in
    c.no_longs.ensures.present ∙ ap zeros c.requires.present ∙ sym (none_present number none c.args.documents.now)

pub returns-in-Text-clause-count : goal.returns-in-Text-clause-count
returns-in-Text-clause-count g c =
    let frozen = c.args.frozen.now in
    let m = g.F.Frozen.records frozen in
    let a = c.attribute_of-attribute.result in
    let number = number_of c.args.field (table_of (g.F.Frozen.shape frozen) m c.args.root) in
    let none : (doc : ℕ) → number doc ≡ None = λ doc.
    ap (λ items. option_and_then long_of (first_value items)) (sym (c.attribute_of-attribute.ensures.attribute.items doc))
    ∙ no_number a.kind m a.value_type c.in-Text.is a.documents doc in
    c.no_longs.ensures.count ∙ sym (none_counted number none c.args.documents.now)
