use Rattle.std.proofs.Common.{◌≡◌, sym, subst, ◌∙◌, arith}
use Rattle.std.proofs.lemmas.Result.{err_from_is_err_and}
use Rattle.doc_vector.specs.Documents.{IsDocumentMap}
use Rattle.attr_compaction.specs.PhaseKeys.{document_keys, key_past, value_keys}
use Rattle.attr_compaction.proofs.ListLemmas.{node_later, node_now}
use Rattle.attr_compaction.proofs.next.node_after.Goals as goal

pub value_after-requires : goal.value_after-requires
value_after-requires g c = (omega arith, (c.requires.index.dictionary_is, c.requires.typed))

pub returns-in_err-next-clause-next : goal.returns-in_err-next-clause-next
returns-in_err-next-clause-next g c = let p = err_from_is_err_and c.from_residual.result c.from_residual.ensures.1 in rw p.1 tt

pub returns-in_err-next-clause-same : goal.returns-in_err-next-clause-same
returns-in_err-next-clause-same g c = c.value_after.ensures.same

pub returns-in-Some-clause-next : goal.returns-in-Some-clause-next
returns-in-Some-clause-next g c =
    let m = g.F.Frozen.records c.args.frozen.now in
    node_now c.args.key.now c.in-Some.value c.args.value_type m (value_keys c.args.value_type m c.args.dictionary) (document_keys m c.args.documents)
    (sym c.in-Some.is ∙ c.in_ok-next.ensures.next)

pub returns-in-Some-clause-same : goal.returns-in-Some-clause-same
returns-in-Some-clause-same g c = c.value_after.ensures.same

pub document_after-requires : goal.document_after-requires
document_after-requires g c =
    (omega arith, subst (λ f. IsDocumentMap (g.F.Frozen.records f) c.args.documents) (sym c.value_after.ensures.same) c.requires.documents)

pub returns-in-None-clause-next : goal.returns-in-None-clause-next
returns-in-None-clause-next g c =
    let m = g.F.Frozen.records c.args.frozen.now in
    subst (λ f. c.document_after.result ≡ key_past c.args.key.now (document_keys (g.F.Frozen.records f) c.args.documents)) c.value_after.ensures.same c.document_after.ensures.next
    ∙ node_later c.args.key.now c.args.value_type m (value_keys c.args.value_type m c.args.dictionary) (document_keys m c.args.documents)
    (sym c.in-None.is ∙ c.in_ok-next.ensures.next)

pub returns-in-None-clause-same : goal.returns-in-None-clause-same
returns-in-None-clause-same g c = c.document_after.ensures.same ∙ c.value_after.ensures.same
