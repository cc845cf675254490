use Rattle.std.proofs.Common.{List, [], refl, sym, ap, subst, ◌∙◌, arith}
use Rattle.std.proofs.lemmas.Result.{err_from_is_err_and}
use Rattle.buffer_states.specs.declared.Buffer.{Buffer}
use Rattle.entry_ledger.specs.Shelves.{ShelvesView}
use Rattle.hold_lists.specs.Held.{HeldList}
use Rattle.entry_ledger.specs.Entries.{IsGood}
use Rattle.entry_ledger.specs.Ledgers.{entries_of, AreEntries}
use Rattle.entry_ledger.proofs.Good.{good}
use Rattle.entry_ledger.proofs.Creates.{created, created-entries, created-kept}
use Rattle.entry_ledger.proofs.ledger.EntryLedger.create.Goals as goal

pub returns-in_err-shelves-clause-new : goal.returns-in_err-shelves-clause-new
returns-in_err-shelves-clause-new g c =
    let p = err_from_is_err_and c.from_residual.result c.from_residual.ensures.1 in
    rw p.1 tt

pub returns-in_err-shelves-clause-good : goal.returns-in_err-shelves-clause-good
returns-in_err-shelves-clause-good g c =
    let p = err_from_is_err_and c.from_residual.result c.from_residual.ensures.1 in
    rw p.1 tt

pub returns-in_err-buffers-clause-new : goal.returns-in_err-buffers-clause-new
returns-in_err-buffers-clause-new g c =
    let p = err_from_is_err_and c.from_residual-in_err-buffers.result c.from_residual-in_err-buffers.ensures.1 in
    rw p.1 tt

pub returns-in_err-buffers-clause-good : goal.returns-in_err-buffers-clause-good
returns-in_err-buffers-clause-good g c =
    let p = err_from_is_err_and c.from_residual-in_err-buffers.result c.from_residual-in_err-buffers.ensures.1 in
    rw p.1 tt

pub create-requires-3 : goal.create-requires-3
create-requires-3 g c =
    omega arith

pub returns-in_err-held-clause-new : goal.returns-in_err-held-clause-new
returns-in_err-held-clause-new g c =
    let p = err_from_is_err_and c.from_residual-in_err-held.result c.from_residual-in_err-held.ensures.1 in
    rw p.1 tt

pub returns-in_err-held-clause-good : goal.returns-in_err-held-clause-good
returns-in_err-held-clause-good g c =
    let p = err_from_is_err_and c.from_residual-in_err-held.result c.from_residual-in_err-held.ensures.1 in
    rw p.1 tt

pub same-shelves : goal.same-shelves
same-shelves g c =
    refl

pub same-buffers : goal.same-buffers
same-buffers g c =
    refl

pub invariant_of-result : goal.invariant_of-result
invariant_of-result g c =
    let new = created c.args.buffers c.args.words in
    let kept : AreEntries g.row.OFFSET_BITS new [] 0 0 =
    created-kept g.row.OFFSET_BITS c.args.buffers c.args.words c.requires.few_buffers c.requires.some_words c.requires.few_words c.requires.offsets c.requires.product in
    subst (λ (h : HeldList). AreEntries g.row.OFFSET_BITS (record new { shelves = c.in_ok-shelves.shelves; buffers = c.in_ok-buffers.buffers }) h.held h.room 0) (sym c.in_ok-held.ensures)
    (subst (λ (bs : List Buffer). AreEntries g.row.OFFSET_BITS (record new { shelves = c.in_ok-shelves.shelves; buffers = bs }) [] 0 0) (sym c.in_ok-buffers.ensures)
    (subst (λ (u : ShelvesView). AreEntries g.row.OFFSET_BITS (record new { shelves = u }) [] 0 0) (sym c.in_ok-shelves.ensures) kept))

pub returns-clause-new : goal.returns-clause-new
unfolding entries_of
returns-clause-new g c =
    let new = created c.args.buffers c.args.words in
    ap (λ (bs : List Buffer). entries_of g.row.OFFSET_BITS (record new { shelves = c.in_ok-shelves.shelves; buffers = bs })) c.in_ok-buffers.ensures
    ∙ ap (λ (u : ShelvesView). entries_of g.row.OFFSET_BITS (record new { shelves = u })) c.in_ok-shelves.ensures
    ∙ created-entries g.row.OFFSET_BITS c.args.buffers c.args.words

pub returns-clause-good : goal.returns-clause-good
returns-clause-good g c =
    let new = created c.args.buffers c.args.words in
    let kept : AreEntries g.row.OFFSET_BITS new [] 0 0 =
    created-kept g.row.OFFSET_BITS c.args.buffers c.args.words c.requires.few_buffers c.requires.some_words c.requires.few_words c.requires.offsets c.requires.product in
    subst (λ (bs : List Buffer). IsGood g.row.OFFSET_BITS (entries_of g.row.OFFSET_BITS (record new { shelves = c.in_ok-shelves.shelves; buffers = bs }))) (sym c.in_ok-buffers.ensures)
    (subst (λ (u : ShelvesView). IsGood g.row.OFFSET_BITS (entries_of g.row.OFFSET_BITS (record new { shelves = u }))) (sym c.in_ok-shelves.ensures)
    (good g.row.OFFSET_BITS new [] 0 0 kept))
