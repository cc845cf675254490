use Rattle.std.proofs.Common.{◌≡◌, ◌++◌, ℕ, List, filter, take, drop, ap, subst, ◌∙◌}
use Rattle.std.proofs.lemmas.Result.{IfOk-weaker}
use Rattle.std.specs.List.{AllByRecursion}
use Rattle.std.specs.Prelude.{IfSome}
use Rattle.attr_types.specs.Lawful.{IsLawfulItems}
use Rattle.attr_types.specs.declared.kind.Kind.{Kind}
use Rattle.image_format.specs.Images.{table_of}
use Rattle.image_format.specs.Postings.{index_of}
use Rattle.index_model.specs.Columns.{column_of}
use Rattle.index_model.specs.Leaves.{listed}
use Rattle.index_model.specs.Sets.{in_words}
use Rattle.query_results.specs.Dictionaries.{index_in, IsSetOf}
use Rattle.query_results.proofs.DictionaryOrderLemmas.{part_is}
use Rattle.query_results.proofs.TakeLemmas.{if_some}
use Rattle.query_results.proofs.dictionary_order.sorted_by_dictionary.Goals as goal

pub returns-clause-sorted : goal.returns-clause-sorted
returns-clause-sorted g c =
    let records = g.F.Frozen.records in
    let frozen = c.args.frozen.now in
    let m = records frozen in
    let bits = g.row.OFFSET_BITS in
    let d = c.dictionary_of-dictionary.result in
    let of = c.dictionary_of-dictionary.ensures.dictionary in
    let table = table_of (g.F.Frozen.shape frozen) m c.args.root in
    let set = subst (IsSetOf c.in-Some.set) c.as_slice-2.ensures
    (subst (λ s. IfSome s (λ words. IsSetOf words c.as_slice-2.result.now)) c.in-Some.is c.in_ok-set.ensures) in
    let single = subst (λ (k : Kind). AllByRecursion (λ e. IsLawfulItems k e.1) (column_of c.args.field table)) (c.is_single.ensures c.if-not-is_single.false) of.items in
    IfOk-weaker c.part_by_value.result _ _
    (λ found is.
    if_some (λ (part : List ℕ). (others : List ℕ)
    → part ≡ take c.args.count (drop c.args.from (filter (in_words c.in-Some.set) (listed (index_of d.value_type (records c.dictionary_of-dictionary.new.frozen) d.root)) ++ others)))
    _ found
    (λ part all.
    part_is c.args.field table (index_in bits m d) of.ascends of.index single c.in-Some.set c.args.docs.now set part c.args.from c.args.count
    (λ others. all others
    ∙ ap (λ (f : g.row.F.Denot). take c.args.count (drop c.args.from (filter (in_words c.in-Some.set) (listed (index_of d.value_type (records f) d.root)) ++ others)))
    c.dictionary_of-dictionary.ensures.same))
    is)
    c.part_by_value.ensures.part
