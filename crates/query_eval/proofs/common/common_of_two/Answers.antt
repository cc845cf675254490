use Rattle.std.proofs.Common.{◌≡◌, ◌&&◌, Bool, arith, ap, ap₂, subst, ◌∙◌}
use Rattle.std.specs.Map.{keys_of}
use Rattle.image_format.specs.Postings.{list_form, postings_at}
use Rattle.index_model.specs.Found.{found}
use Rattle.index_model.specs.Sets.{has}
use Rattle.attr_types.specs.Query.{tree_of}
use Rattle.query_eval.proofs.QueryLemmas.{two_found}
use Rattle.query_eval.specs.Indexes.{indexes_in}
use Rattle.query_eval.proofs.common.common_of_two.Goals as goal

pub returns-clause-docs : goal.returns-clause-docs
returns-clause-docs g c = λ doc.
    let bits = g.row.OFFSET_BITS in
    let ds = c.args.dictionaries.now in
    let one = c.one-item.result in
    let other = c.other-item.result in
    let first = c.in-Some.first in
    let second = c.in-Some-word_of_member.second in
    let once = c.word_of_member.ensures.same in
    let twice = c.word_of_member-2.ensures.same ∙ once in
    let others : has (keys_of (postings_at (g.F.Frozen.records c.args.frozen.now) (list_form second))) doc
    ≡ found (tree_of other) (indexes_in bits (g.F.Frozen.records c.args.frozen.now) ds) doc =
    subst (λ (f : g.row.F.Denot). has (keys_of (postings_at (g.F.Frozen.records f) (list_form second))) doc
    ≡ found (tree_of other) (indexes_in bits (g.F.Frozen.records f) ds) doc) once (c.in-Some-word_of_member.ensures.docs doc) in
    c.in_ok-common.ensures.common doc
    ∙ ap (λ (f : g.row.F.Denot). has (keys_of (postings_at (g.F.Frozen.records f) (list_form first))) doc
    && has (keys_of (postings_at (g.F.Frozen.records f) (list_form second))) doc) twice
    ∙ ap₂ (λ (a b : Bool). a && b) (c.in-Some.ensures.docs doc) others
    ∙ two_found (indexes_in bits (g.F.Frozen.records c.args.frozen.now) ds) doc c.args.queries.now one other
    (omega (arith, c.in-len2.len_at_least)) (omega (arith, c.in-len2.len_below)) c.one-item.is c.other-item.is
