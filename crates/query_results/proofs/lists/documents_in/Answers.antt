use Rattle.std.proofs.Common.{◌-◌, ◌++◌, ℕ, List, arith, sym, ap, subst, ◌∙◌}
use Rattle.std.proofs.lemmas.Result.{IfOk-weaker}
use Rattle.bit_vector.specs.Vectors.{IsVector}
use Rattle.image_format.specs.Postings.{vector_documents}
use Rattle.query_eval.proofs.LeafListLemmas.{vector_root}
use Rattle.query_results.proofs.ListFormLemmas.{is_vector_at, vector_keys_at}
use Rattle.query_results.proofs.lists.documents_in.Goals as goal

pub overflow_cast-list : goal.overflow_cast-list
overflow_cast-list g c =
    let m = g.F.Frozen.records c.args.frozen.now in
    let below = g.met.F.Frozen.references c.args.frozen.now (c.args.list - 8589934592) (vector_root m c.args.list c.if-list-ge-FIRST_VECTOR.true c.requires.form) in
    omega arith

pub with_vector-requires : goal.with_vector-requires
with_vector-requires g c =
    let m = g.F.Frozen.records c.args.frozen.now in
    (omega arith, subst (IsVector m) (sym c.from_raw.ensures) (is_vector_at m c.args.list c.if-list-ge-FIRST_VECTOR.true c.requires.form c.requires.documents))

pub returns-then-list-ge-FIRST_VECTOR-clause-docs : goal.returns-then-list-ge-FIRST_VECTOR-clause-docs
returns-then-list-ge-FIRST_VECTOR-clause-docs g c =
    let m = g.F.Frozen.records c.args.frozen.now in
    IfOk-weaker c.with_vector.result _ _
    (λ docs is.
    is ∙ ap (λ (ds : List ℕ). ds ++ vector_documents m c.from_raw.result) c.clear.ensures.items
    ∙ ap (vector_documents m) c.from_raw.ensures
    ∙ sym (vector_keys_at m c.args.list c.if-list-ge-FIRST_VECTOR.true))
    c.with_vector.ensures.docs
