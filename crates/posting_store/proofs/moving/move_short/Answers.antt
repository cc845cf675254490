use Rattle.std.proofs.Common.{◌≡◌, ◌+◌, length, ◌∙◌, arith}
use Rattle.std.proofs.lemmas.Result.{err_from_is_err_and}
use Rattle.entry_ref.specs.References.{buffer_of}
use Rattle.array_store.proofs.ClassLemmas.{class_width}
use Rattle.image_format.specs.Words.{stored_items}
use Rattle.posting_store.specs.Lists.{is_vector, list_at, list_levels}
use Rattle.posting_store.proofs.RefusalLemmas.{of_one}
use Rattle.store_api.specs.Calls.{IsUsedWidth}
use Rattle.store_api.proofs.May.{may_do-same, may_do-then}
use Rattle.posting_store.proofs.ChangeLemmas.{counts_none, counts_then}
use Rattle.posting_store.specs.Moves.{word_most}
use Rattle.posting_store.proofs.MoveLemmas.{old_record, short_apart, short_counts, short_moved, short_stored, short_used, word_kept}
use Rattle.posting_store.proofs.moving.move_short.Goals as goal

pub returns-then-buffer-clause-moves : goal.returns-then-buffer-clause-moves
returns-then-buffer-clause-moves g c =
    let ref = c.entry-record.result in
    let m = g.S.Frozen.records c.args.store.now in
    let apart : buffer_of g.row.OFFSET_BITS ref ≡ c.args.buffer → ⊥ = (λ e. let is = c.buffer.ensures.value in let other = c.if-buffer.true in absurd (omega arith)) in
    λ doc. word_kept g.row.OFFSET_BITS c.args.buffer doc (g.S.Store.ledger c.args.store.now) m c.args.list c.requires.list c.requires.owns
    (short_apart m c.args.list ref c.requires.list c.requires.plain c.requires.some c.requires.short c.entry-record.ensures g.row.OFFSET_BITS c.args.buffer doc apart)

pub returns-then-buffer-clause-counts : goal.returns-then-buffer-clause-counts
returns-then-buffer-clause-counts g c =
    let m = g.S.Frozen.records c.args.store.now in
    counts_none (g.S.Store.ledger c.args.store.now) (word_most (is_vector c.args.list) (list_levels m c.args.list) (length (list_at m c.args.list)))

pub copy_record-requires : goal.copy_record-requires
copy_record-requires g c = (
  omega arith,
  (
    c.requires.unit,
    short_stored (g.S.Frozen.records c.args.store.now) c.args.list c.entry-record.result c.requires.list c.requires.plain c.requires.some c.requires.short c.entry-record.ensures,
  ),
)

pub returns-in_err-copy-clause-counts : goal.returns-in_err-copy-clause-counts
returns-in_err-copy-clause-counts g c =
    short_counts (g.S.Frozen.records c.args.store.now) c.args.list c.entry-record.result c.requires.list c.requires.plain c.requires.some c.requires.short c.entry-record.ensures
    (g.S.Store.ledger c.args.store.now) (g.S.Store.ledger c.copy_record.new.store) c.copy_record.ensures.counts

pub returns-in_err-copy-clause-refuses : goal.returns-in_err-copy-clause-refuses
returns-in_err-copy-clause-refuses g c =
    let ledger = g.S.Store.ledger in
    let a = ledger c.args.store.now in
    let m = g.S.Frozen.records c.args.store.now in
    let ref = c.entry-record.result in
    let used = short_used a m c.args.list ref c.requires.list c.requires.plain c.requires.some c.requires.short c.entry-record.ensures c.requires.owns in
    let p = err_from_is_err_and c.from_residual.result c.from_residual.ensures.1 in
    rw (p.1, p.2) (of_one (IsUsedWidth a m) a a (ledger c.copy_record.new.store) _ _ (may_do-same a) (class_width (1 + length (stored_items (m ref)))) used c.in_err-copy.ensures.refuses)

pub drop_one-requires : goal.drop_one-requires
drop_one-requires g c =
    let ledger = g.S.Store.ledger in
    let records = g.S.Frozen.records in
    let s = c.args.store.now in
    let t = c.copy_record.new.store in (
      omega arith,
      (
        c.copy_record.ensures.may.unit ∙ c.requires.unit,
        old_record (records s) c.args.list c.entry-record.result c.requires.list c.requires.plain c.requires.some c.requires.short c.entry-record.ensures
            g.row.OFFSET_BITS (ledger s) (ledger t) (records t) c.in_ok-copy.copy c.requires.owns c.in_ok-copy.ensures.adds c.in_ok-copy.ensures.items,
      ),
    )

pub returns-clause-moves : goal.returns-clause-moves
returns-clause-moves g c =
    let ledger = g.S.Store.ledger in
    let records = g.S.Frozen.records in
    let s = c.args.store.now in
    let t = c.copy_record.new.store in
    let u = c.drop_one.new.store in
    λ doc. short_moved (records s) c.args.list c.entry-record.result c.requires.list c.requires.plain c.requires.some c.requires.short c.entry-record.ensures
    g.row.OFFSET_BITS (ledger s) (ledger t) (records t) c.in_ok-copy.copy c.requires.owns c.in_ok-copy.ensures.adds c.in_ok-copy.ensures.items
    (ledger u) (records u) c.drop_one.ensures.turns c.args.buffer doc c.short.result c.short.ensures.word c.short.ensures.plain
    c.copy_record.ensures.may c.requires.sealed

pub returns-clause-counts : goal.returns-clause-counts
returns-clause-counts g c =
    let ledger = g.S.Store.ledger in
    let m = g.S.Frozen.records c.args.store.now in
    let a = ledger c.args.store.now in
    let b = ledger c.copy_record.new.store in
    counts_then a b (ledger c.drop_one.new.store) (word_most (is_vector c.args.list) (list_levels m c.args.list) (length (list_at m c.args.list)))
    (short_counts m c.args.list c.entry-record.result c.requires.list c.requires.plain c.requires.some c.requires.short c.entry-record.ensures
    a b c.copy_record.ensures.counts) c.drop_one.ensures.none_made

pub returns-clause-may : goal.returns-clause-may
returns-clause-may g c =
    let ledger = g.S.Store.ledger in
    may_do-then (ledger c.args.store.now) (ledger c.copy_record.new.store) (ledger c.drop_one.new.store) c.copy_record.ensures.may c.drop_one.ensures.may
