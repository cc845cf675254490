use Rattle.std.proofs.Common.{◌≡◌, None, refl, sym, subst, ◌∙◌, arith}
use Rattle.tree_read.specs.Trees.{tree_pairs}
use Rattle.attr_compaction.specs.declared.plan.PlanKey.{PlanKey}
use Rattle.attr_compaction.specs.PhaseKeys.{document_keys, key_past}
use Rattle.attr_compaction.proofs.NextLemmas.{documents_number, first_number_is, no_doc_past_pair, number_past_is, number_past_value}
use Rattle.attr_compaction.proofs.documents.document_after.Goals as goal

pub first_number-requires : goal.first_number-requires
first_number-requires g c =
    (omega arith, (c.requires.tree_is, documents_number (tree_pairs (g.F.Frozen.records c.args.frozen.now) c.args.root) c.requires.pairs))

pub returns-in-Start-clause-next : goal.returns-in-Start-clause-next
returns-in-Start-clause-next g c =
    let m = g.F.Frozen.records c.args.frozen.now in
    subst (λ (k : PlanKey). c.document_key.result ≡ key_past k (document_keys m c.args.root)) (sym c.in-Start.is)
    (c.document_key.ensures ∙ first_number_is m c.args.root c.first_number.result c.first_number.ensures.number)

pub returns-in-Start-clause-same : goal.returns-in-Start-clause-same
returns-in-Start-clause-same g c = c.first_number.ensures.same

pub first_number-requires-in-Value : goal.first_number-requires-in-Value
first_number-requires-in-Value g c =
    (omega arith, (c.requires.tree_is, documents_number (tree_pairs (g.F.Frozen.records c.args.frozen.now) c.args.root) c.requires.pairs))

pub returns-in-Value-clause-next : goal.returns-in-Value-clause-next
returns-in-Value-clause-next g c =
    let m = g.F.Frozen.records c.args.frozen.now in
    subst (λ (k : PlanKey). c.document_key-in-Value.result ≡ key_past k (document_keys m c.args.root)) (sym c.in-Value.is)
    (c.document_key-in-Value.ensures ∙ number_past_value m c.args.root _ c.first_number-in-Value.result c.first_number-in-Value.ensures.number)

pub returns-in-Value-clause-same : goal.returns-in-Value-clause-same
returns-in-Value-clause-same g c = c.first_number-in-Value.ensures.same

pub number_past-requires : goal.number_past-requires
number_past-requires g c =
    (omega arith, (c.requires.tree_is, documents_number (tree_pairs (g.F.Frozen.records c.args.frozen.now) c.args.root) c.requires.pairs))

pub returns-in-Doc-clause-next : goal.returns-in-Doc-clause-next
returns-in-Doc-clause-next g c =
    let m = g.F.Frozen.records c.args.frozen.now in
    subst (λ (k : PlanKey). c.document_key-in-Doc.result ≡ key_past k (document_keys m c.args.root)) (sym c.in-Doc.is)
    (c.document_key-in-Doc.ensures ∙ number_past_is m c.args.root _ c.number_past.result c.number_past.ensures.number)

pub returns-in-Doc-clause-same : goal.returns-in-Doc-clause-same
returns-in-Doc-clause-same g c = c.number_past.ensures.same

pub returns-in-Pair-clause-next : goal.returns-in-Pair-clause-next
returns-in-Pair-clause-next g c =
    let m = g.F.Frozen.records c.args.frozen.now in
    subst (λ (k : PlanKey). None ≡ key_past k (document_keys m c.args.root)) (sym c.in-Pair.is) (no_doc_past_pair m c.args.root _ _)

pub returns-in-Pair-clause-same : goal.returns-in-Pair-clause-same
returns-in-Pair-clause-same g c = refl
