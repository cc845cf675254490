use Rattle.std.proofs.Common.{ap, subst, ◌∙◌}
use Rattle.std.specs.Prelude.{IfSome}
use Rattle.image_format.specs.Images.{table_of}
use Rattle.image_format.specs.Postings.{index_of}
use Rattle.index_model.specs.Sets.{in_words}
use Rattle.query_results.specs.Dictionaries.{groups_in, index_in, IsSetOf}
use Rattle.query_results.proofs.DictionaryLemmas.{groups_are_in}
use Rattle.query_results.proofs.dictionary_groups.groups_by_dictionary.Goals as goal

pub returns-clause-groups : goal.returns-clause-groups
returns-clause-groups g c =
    let records = g.F.Frozen.records in
    let frozen = c.args.frozen.now in
    let m = records frozen in
    let bits = g.row.OFFSET_BITS in
    let d = c.dictionary_of-dictionary.result in
    let of = c.dictionary_of-dictionary.ensures.dictionary in
    let set = subst (IsSetOf c.in-Some.set) c.as_slice-2.ensures
    (subst (λ s. IfSome s (λ words. IsSetOf words c.as_slice-2.result.now)) c.in-Some.is c.in_ok-set.ensures) in
    c.in_ok-groups_in_set.ensures.groups
    ∙ ap (λ (f : g.row.F.Denot). groups_in (in_words c.in-Some.set) (index_of d.value_type (records f) d.root)) c.dictionary_of-dictionary.ensures.same
    ∙ groups_are_in c.args.field (table_of (g.F.Frozen.shape frozen) m c.args.root) (index_in bits m d) of.ascends of.index c.in-Some.set c.args.docs.now set
