use Rattle.std.proofs.Common.{ℕ, Bool, refl, ap, ◌∙◌, ◌+◌, ◌*◌, arith}
use Rattle.std.proofs.lemmas.Result.{err_from_is_err_and}
use Rattle.store_api.specs.Calls.{IsUsedWidth}
use Rattle.store_api.proofs.May.{may_do-same, may_do-then}
use Rattle.tree_read.specs.Trees.{tree_pairs}
use Rattle.frozen_btree.specs.Changes.{levels}
use Rattle.image_format.specs.Postings.{IsBlock}
use Rattle.bit_vector.proofs.CountLemmas.{if_one, of_one, within_both, within_wider}
use Rattle.bit_vector.proofs.MoveLemmas.{block_used, copied_has, copied_owns, copied_same, copied_vector, found_moves_by, moved_within, root_some, vector_low, way_used}
use Rattle.bit_vector.proofs.VectorLemmas.{found_all}
use Rattle.bit_vector.proofs.moving.move_found.Goals as goal

pub copy_block-requires : goal.copy_block-requires
copy_block-requires g c =
    let m = g.S.Frozen.records c.args.store.now in
    (omega arith, (c.requires.unit, (found_all (λ p. IsBlock p.0 (m p.1)) c.args.number (tree_pairs m c.args.root) c.args.block c.requires.vector.blocks c.requires.has).size))

pub put_copy-requires : goal.put_copy-requires
put_copy-requires g c =
    let ledger = g.S.Store.ledger in
    let records = g.S.Frozen.records in
    let s = c.args.store.now in
    let t = c.copy_block.new.store in
    let bits = g.row.OFFSET_BITS in
    let copies = c.in_ok-copy.ensures.copies in (
      omega arith,
      (
        c.copy_block.ensures.may.unit ∙ c.requires.unit,
        (
          copied_vector bits (ledger s) (ledger t) (records s) (records t) c.args.root c.args.number c.in_ok-copy.copy c.args.block c.requires.vector c.requires.owns c.requires.has copies,
          (
            copied_has bits (ledger s) (ledger t) (records s) (records t) c.args.root c.args.number c.in_ok-copy.copy c.args.block c.requires.vector c.requires.owns c.requires.has copies,
            (
              copied_same bits (ledger s) (ledger t) (records s) (records t) c.args.root c.args.number c.in_ok-copy.copy c.args.block c.requires.vector c.requires.owns c.requires.has copies,
              copied_owns bits (ledger s) (ledger t) (records s) (records t) c.args.root c.args.number c.in_ok-copy.copy c.args.block c.requires.vector c.requires.owns c.requires.has copies,
            ),
          ),
        ),
      ),
    )

pub move_way-requires : goal.move_way-requires
move_way-requires g c = (
  omega arith,
  (
    c.put_copy.ensures.may.unit ∙ c.copy_block.ensures.may.unit ∙ c.requires.unit,
    (
      ap (λ (s : ℕ → Bool). s c.args.buffer) (c.put_copy.ensures.may.sealed ∙ c.copy_block.ensures.may.sealed) ∙ c.requires.sealed,
      (c.in_ok-next.ensures.puts.vector_is, c.in_ok-next.ensures.puts.owns),
    ),
  ),
)

pub returns-in_err-copy-clause-moves : goal.returns-in_err-copy-clause-moves
returns-in_err-copy-clause-moves g c = let p = err_from_is_err_and c.from_residual.result c.from_residual.ensures.1 in rw p.1 tt

pub returns-in_err-copy-clause-counts : goal.returns-in_err-copy-clause-counts
returns-in_err-copy-clause-counts g c =
    let ledger = g.S.Store.ledger in
    within_wider (ledger c.args.store.now) (ledger c.copy_block.new.store) 1 1 0 10 (omega arith) (omega arith) c.copy_block.ensures.counts

pub returns-in_err-copy-clause-refuses : goal.returns-in_err-copy-clause-refuses
returns-in_err-copy-clause-refuses g c =
    let a = g.S.Store.ledger c.args.store.now in
    let m = g.S.Frozen.records c.args.store.now in
    let used = block_used a m c.args.root c.args.number c.args.block c.requires.vector c.requires.owns c.requires.has in
    let p = err_from_is_err_and c.from_residual.result c.from_residual.ensures.1 in
    rw (p.1, p.2) (of_one (IsUsedWidth a m) a a (g.S.Store.ledger c.copy_block.new.store) 64 _ (may_do-same a) refl used c.in_err-copy.ensures.refuses)

pub returns-in_err-copy-clause-may : goal.returns-in_err-copy-clause-may
returns-in_err-copy-clause-may g c = c.copy_block.ensures.may

pub returns-in_err-next-clause-moves : goal.returns-in_err-next-clause-moves
returns-in_err-next-clause-moves g c = let p = err_from_is_err_and c.from_residual-in_err-next.result c.from_residual-in_err-next.ensures.1 in rw p.1 tt

pub returns-in_err-next-clause-counts : goal.returns-in_err-next-clause-counts
returns-in_err-next-clause-counts g c =
    let ledger = g.S.Store.ledger in
    let records = g.S.Frozen.records in
    let s = c.args.store.now in
    let t = c.copy_block.new.store in
    let u = c.put_copy.new.store in
    let low = vector_low (records t) c.args.root (copied_vector g.row.OFFSET_BITS (ledger s) (ledger t) (records s) (records t) c.args.root c.args.number c.in_ok-copy.copy c.args.block
    c.requires.vector c.requires.owns c.requires.has c.in_ok-copy.ensures.copies) in
    within_wider (ledger s) (ledger u) 1 1 (2 * levels (records t) c.args.root + 1) 10 (omega arith) (omega (arith, low))
    (within_both (ledger s) (ledger t) (ledger u) 1 (2 * levels (records t) c.args.root + 1) c.copy_block.ensures.may c.copy_block.ensures.counts c.put_copy.ensures.counts)

pub returns-in_err-next-clause-refuses : goal.returns-in_err-next-clause-refuses
returns-in_err-next-clause-refuses g c =
    let a = g.S.Store.ledger c.args.store.now in
    let m = g.S.Frozen.records c.args.store.now in
    let used = way_used a m c.args.root c.requires.vector c.requires.owns (root_some m c.args.root c.args.number c.args.block c.requires.has) in
    let p = err_from_is_err_and c.from_residual-in_err-next.result c.from_residual-in_err-next.ensures.1 in
    rw (p.1, p.2) (of_one (IsUsedWidth a m) a (g.S.Store.ledger c.copy_block.new.store) (g.S.Store.ledger c.put_copy.new.store) 34 _ c.copy_block.ensures.may refl used c.in_err-next.ensures.refuses)

pub returns-in_err-next-clause-may : goal.returns-in_err-next-clause-may
returns-in_err-next-clause-may g c = may_do-then _ _ _ c.copy_block.ensures.may c.put_copy.ensures.may

pub returns-clause-moves : goal.returns-clause-moves
returns-clause-moves g c =
    let ledger = g.S.Store.ledger in
    let records = g.S.Frozen.records in
    let s = c.args.store.now in
    let t = c.copy_block.new.store in
    let u = c.put_copy.new.store in
    let v = c.move_way.new.store in
    found_moves_by g.row.OFFSET_BITS c.args.buffer c.args.number (ledger s) (ledger t) (ledger u) (ledger v) (records s) (records t) (records u) (records v) c.args.root
    c.in_ok-copy.copy c.in_ok-next.next c.requires.vector c.requires.owns c.args.block c.requires.has c.in_ok-copy.ensures.copies
    (ap (λ (f : ℕ → Bool). f c.args.buffer) c.copy_block.ensures.may.sealed ∙ c.requires.sealed) c.in_ok-next.ensures.puts c.move_way.result c.move_way.ensures.moves

pub returns-clause-counts : goal.returns-clause-counts
returns-clause-counts g c =
    let ledger = g.S.Store.ledger in
    let records = g.S.Frozen.records in
    let s = c.args.store.now in
    let t = c.copy_block.new.store in
    let u = c.put_copy.new.store in
    let v = c.move_way.new.store in
    let first = vector_low (records t) c.args.root (copied_vector g.row.OFFSET_BITS (ledger s) (ledger t) (records s) (records t) c.args.root c.args.number c.in_ok-copy.copy c.args.block
    c.requires.vector c.requires.owns c.requires.has c.in_ok-copy.ensures.copies) in
    let second = vector_low (records u) c.in_ok-next.next c.in_ok-next.ensures.puts.vector_is in
    moved_within (ledger s) (ledger t) (ledger u) (ledger v) (levels (records t) c.args.root) (levels (records u) c.in_ok-next.next) first second c.copy_block.ensures.may
    (may_do-then _ _ _ c.copy_block.ensures.may c.put_copy.ensures.may) c.copy_block.ensures.counts c.put_copy.ensures.counts c.move_way.ensures.counts

pub returns-clause-refuses : goal.returns-clause-refuses
returns-clause-refuses g c =
    let ledger = g.S.Store.ledger in
    let a = ledger c.args.store.now in
    let m = g.S.Frozen.records c.args.store.now in
    let used = way_used a m c.args.root c.requires.vector c.requires.owns (root_some m c.args.root c.args.number c.args.block c.requires.has) in
    if_one (IsUsedWidth a m) a (ledger c.put_copy.new.store) (ledger c.move_way.new.store) 34 c.move_way.result (may_do-then _ _ _ c.copy_block.ensures.may c.put_copy.ensures.may) refl used
    c.move_way.ensures.refuses

pub returns-clause-may : goal.returns-clause-may
returns-clause-may g c = may_do-then _ _ _ (may_do-then _ _ _ c.copy_block.ensures.may c.put_copy.ensures.may) c.move_way.ensures.may
