use Rattle.std.proofs.Common.{◌≡◌, ℕ, sym, subst, arith}
use Rattle.std.specs.Prelude.{IfOk}
use Rattle.attr_compaction.specs.PhaseKeys.{key_past, phase_keys}
use Rattle.attr_compaction.proofs.next.next_key.Goals as goal

pub value_after-requires : goal.value_after-requires
value_after-requires g c = (omega arith, (c.requires.index.dictionary_is, c.requires.typed))

pub returns-then-phase-eq-KEYS-clause-next : goal.returns-then-phase-eq-KEYS-clause-next
returns-then-phase-eq-KEYS-clause-next g c =
    let m = g.F.Frozen.records c.args.frozen.now in
    subst (λ (p : ℕ). IfOk c.value_after.result (λ found. found ≡ key_past c.args.key.now (phase_keys c.args.value_type m c.args.documents c.args.dictionary p)))
    (sym c.if-phase-eq-KEYS.true) c.value_after.ensures.next

pub returns-then-phase-eq-KEYS-clause-same : goal.returns-then-phase-eq-KEYS-clause-same
returns-then-phase-eq-KEYS-clause-same g c = c.value_after.ensures.same

pub document_after-requires : goal.document_after-requires
document_after-requires g c = (omega arith, c.requires.documents)

pub returns-then-phase-eq-DOCUMENTS-clause-next : goal.returns-then-phase-eq-DOCUMENTS-clause-next
returns-then-phase-eq-DOCUMENTS-clause-next g c =
    let m = g.F.Frozen.records c.args.frozen.now in
    subst (λ (p : ℕ). c.document_after.result ≡ key_past c.args.key.now (phase_keys c.args.value_type m c.args.documents c.args.dictionary p))
    (sym c.if-phase-eq-DOCUMENTS.true) c.document_after.ensures.next

pub returns-then-phase-eq-DOCUMENTS-clause-same : goal.returns-then-phase-eq-DOCUMENTS-clause-same
returns-then-phase-eq-DOCUMENTS-clause-same g c = c.document_after.ensures.same

pub pair_after-requires : goal.pair_after-requires
pair_after-requires g c = (omega arith, (c.requires.index, c.requires.typed))

pub returns-then-phase-eq-LISTS-clause-next : goal.returns-then-phase-eq-LISTS-clause-next
returns-then-phase-eq-LISTS-clause-next g c =
    let m = g.F.Frozen.records c.args.frozen.now in
    subst (λ (p : ℕ). IfOk c.pair_after.result (λ found. found ≡ key_past c.args.key.now (phase_keys c.args.value_type m c.args.documents c.args.dictionary p)))
    (sym c.if-phase-eq-LISTS.true) c.pair_after.ensures.next

pub returns-then-phase-eq-LISTS-clause-same : goal.returns-then-phase-eq-LISTS-clause-same
returns-then-phase-eq-LISTS-clause-same g c = c.pair_after.ensures.same

pub node_after-requires : goal.node_after-requires
node_after-requires g c = (omega arith, (c.requires.documents, (c.requires.index, c.requires.typed)))

pub returns-clause-next : goal.returns-clause-next
returns-clause-next g c =
    let m = g.F.Frozen.records c.args.frozen.now in
    let last : c.args.phase ≡ 3 =
    (let low = c.requires.phase in let no_keys = c.if-phase-eq-KEYS.false in let no_documents = c.if-phase-eq-DOCUMENTS.false in let no_lists = c.if-phase-eq-LISTS.false in omega arith) in
    subst (λ (p : ℕ). IfOk c.node_after.result (λ found. found ≡ key_past c.args.key.now (phase_keys c.args.value_type m c.args.documents c.args.dictionary p)))
    (sym last) c.node_after.ensures.next

pub returns-clause-same : goal.returns-clause-same
returns-clause-same g c = c.node_after.ensures.same
