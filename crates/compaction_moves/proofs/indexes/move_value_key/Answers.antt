use Rattle.std.proofs.Common.{◌≡◌, true, sym, subst, arith}
use Rattle.std.proofs.lemmas.Result.{err_from_is_err_and}
use Rattle.compaction_moves.specs.Cleared.{trees_of_roots}
use Rattle.attr_compaction.specs.declared.plan.PlanKey.TheVariants.{Value}
use Rattle.compaction_moves.specs.IndexMoves.{MovesKey}
use Rattle.compaction_moves.proofs.MakeLemmas.{makes_key}
use Rattle.compaction_moves.proofs.MoveLemmas.{key_done, owned_index, typed_value, value_index}
use Rattle.compaction_moves.proofs.indexes.move_value_key.Goals as goal

pub move_key-requires : goal.move_key-requires
move_key-requires g c =
    let bits = g.row.OFFSET_BITS in
    let plan = c.args.plan.now in
    let a = trees_of_roots c.args.field.now c.args.roots in
    let value = c.args.value.now in
    let old = g.S.Store.ledger c.args.store.now in
    let m = g.S.Frozen.records c.args.store.now in
    let can = c.requires.can in (
      omega arith,
      (
        can.unit,
        (
          subst (λ v. old.sealed v ≡ true) (sym c.victim.ensures) can.sealed,
          (value_index bits plan a old m 0 (Value value) value can (typed_value bits plan a old m 0 value (omega arith) can), owned_index bits plan a old m 0 (Value value) can),
        ),
      ),
    )

pub returns-in_err-dictionary-clause-moved : goal.returns-in_err-dictionary-clause-moved
returns-in_err-dictionary-clause-moved g c = let p = err_from_is_err_and c.from_residual.result c.from_residual.ensures.1 in rw p.1 tt

pub returns-in_err-dictionary-clause-counts : goal.returns-in_err-dictionary-clause-counts
returns-in_err-dictionary-clause-counts g c =
    let a = trees_of_roots c.args.field.now c.args.roots in
    let old = g.S.Store.ledger c.args.store.now in
    let m = g.S.Frozen.records c.args.store.now in
    let typed = typed_value g.row.OFFSET_BITS c.args.plan.now a old m 0 c.args.value.now (omega arith) c.requires.can in
    makes_key old (g.S.Store.ledger c.move_key.new.store) m a.kind a.type a.documents a.dictionary c.requires.can.field c.args.value.now typed c.move_key.ensures.counts

pub returns-in_err-dictionary-clause-refuses : goal.returns-in_err-dictionary-clause-refuses
returns-in_err-dictionary-clause-refuses g c =
    let p = err_from_is_err_and c.from_residual.result c.from_residual.ensures.1 in rw (p.1, p.2) c.in_err-dictionary.ensures.refuses

pub returns-in_err-dictionary-clause-may : goal.returns-in_err-dictionary-clause-may
returns-in_err-dictionary-clause-may g c = c.move_key.ensures.may

pub returns-clause-moved : goal.returns-clause-moved
returns-clause-moved g c =
    let bits = g.row.OFFSET_BITS in
    let plan = c.args.plan.now in
    let a = trees_of_roots c.args.field.now c.args.roots in
    let value = c.args.value.now in
    let old = g.S.Store.ledger c.args.store.now in
    let new = g.S.Store.ledger c.move_key.new.store in
    let m = g.S.Frozen.records c.args.store.now in
    let n = g.S.Frozen.records c.move_key.new.store in
    let next = c.in_ok-dictionary.dictionary in
    key_done bits plan a old m new n next c.documents_law.ensures.stays c.keys_law.ensures c.moved_law.ensures.key value c.requires.can
    (subst (λ v. MovesKey bits v value old new m n a.dictionary next) c.victim.ensures c.in_ok-dictionary.ensures.moves)

pub returns-clause-counts : goal.returns-clause-counts
returns-clause-counts g c =
    let a = trees_of_roots c.args.field.now c.args.roots in
    let old = g.S.Store.ledger c.args.store.now in
    let m = g.S.Frozen.records c.args.store.now in
    let typed = typed_value g.row.OFFSET_BITS c.args.plan.now a old m 0 c.args.value.now (omega arith) c.requires.can in
    makes_key old (g.S.Store.ledger c.move_key.new.store) m a.kind a.type a.documents a.dictionary c.requires.can.field c.args.value.now typed c.move_key.ensures.counts

pub returns-clause-may : goal.returns-clause-may
returns-clause-may g c = c.move_key.ensures.may
