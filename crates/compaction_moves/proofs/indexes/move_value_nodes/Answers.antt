use Rattle.std.proofs.Common.{◌≡◌, true, refl, sym, subst, arith}
use Rattle.std.proofs.lemmas.Result.{err_from_is_err_and}
use Rattle.compaction_moves.specs.Cleared.{trees_of_roots}
use Rattle.attr_compaction.specs.declared.plan.PlanKey.TheVariants.{Value}
use Rattle.store_api.specs.Calls.{IsUsedWidth}
use Rattle.store_api.proofs.May.{may_do-same}
use Rattle.compaction_moves.specs.IndexMoves.{MovesNodes}
use Rattle.posting_store.proofs.RefusalLemmas.{of_one}
use Rattle.compaction_moves.proofs.MakeLemmas.{makes_nodes}
use Rattle.compaction_moves.proofs.MoveLemmas.{value_nodes_done, owned_index, typed_value, value_index}
use Rattle.compaction_moves.proofs.indexes.move_value_nodes.Goals as goal

pub move_nodes-requires : goal.move_nodes-requires
move_nodes-requires g c =
    let bits = g.row.OFFSET_BITS in
    let plan = c.args.plan.now in
    let a = trees_of_roots c.args.field.now c.args.roots in
    let value = c.args.value.now in
    let old = g.S.Store.ledger c.args.store.now in
    let m = g.S.Frozen.records c.args.store.now in
    let can = c.requires.can in (
      omega arith,
      (
        can.unit,
        (
          subst (λ v. old.sealed v ≡ true) (sym c.victim.ensures) can.sealed,
          (
            value_index bits plan a old m 3 (Value value) value can (typed_value bits plan a old m 3 value (omega arith) can),
            owned_index bits plan a old m 3 (Value value) can,
          ),
        ),
      ),
    )

pub returns-in_err-dictionary-clause-moved : goal.returns-in_err-dictionary-clause-moved
returns-in_err-dictionary-clause-moved g c = let p = err_from_is_err_and c.from_residual.result c.from_residual.ensures.1 in rw p.1 tt

pub returns-in_err-dictionary-clause-counts : goal.returns-in_err-dictionary-clause-counts
returns-in_err-dictionary-clause-counts g c =
    let a = trees_of_roots c.args.field.now c.args.roots in
    let old = g.S.Store.ledger c.args.store.now in
    let m = g.S.Frozen.records c.args.store.now in
    makes_nodes old (g.S.Store.ledger c.move_nodes.new.store) m a.kind a.type a.documents a.dictionary c.requires.can.field c.move_nodes.ensures.counts

pub returns-in_err-dictionary-clause-refuses : goal.returns-in_err-dictionary-clause-refuses
returns-in_err-dictionary-clause-refuses g c =
    let a = g.S.Store.ledger c.args.store.now in
    let m = g.S.Frozen.records c.args.store.now in
    let p = err_from_is_err_and c.from_residual.result c.from_residual.ensures.1 in
    rw (p.1, p.2) (of_one (IsUsedWidth a m) a a (g.S.Store.ledger c.move_nodes.new.store) 34 _ (may_do-same a) refl c.in_err-dictionary.ensures.used c.in_err-dictionary.ensures.refuses)

pub returns-in_err-dictionary-clause-may : goal.returns-in_err-dictionary-clause-may
returns-in_err-dictionary-clause-may g c = c.move_nodes.ensures.may

pub returns-clause-moved : goal.returns-clause-moved
returns-clause-moved g c =
    let bits = g.row.OFFSET_BITS in
    let plan = c.args.plan.now in
    let a = trees_of_roots c.args.field.now c.args.roots in
    let value = c.args.value.now in
    let old = g.S.Store.ledger c.args.store.now in
    let m = g.S.Frozen.records c.args.store.now in
    let new = g.S.Store.ledger c.move_nodes.new.store in
    let n = g.S.Frozen.records c.move_nodes.new.store in
    let next = c.in_ok-dictionary.dictionary in
    let can = c.requires.can in
    let leaves = c.leaves_law.ensures plan.victim c.args.store.now c.move_nodes.new.store can.sealed can.begun.each c.move_nodes.ensures.may in
    value_nodes_done bits plan a old m new n next c.documents_law.ensures.stays c.keys_law.ensures c.moved_law.ensures.nodes leaves value can
    (subst (λ v. MovesNodes bits v value old new m n a.dictionary next) c.victim.ensures c.in_ok-dictionary.ensures.moves)

pub returns-clause-counts : goal.returns-clause-counts
returns-clause-counts g c =
    let a = trees_of_roots c.args.field.now c.args.roots in
    let old = g.S.Store.ledger c.args.store.now in
    let m = g.S.Frozen.records c.args.store.now in
    makes_nodes old (g.S.Store.ledger c.move_nodes.new.store) m a.kind a.type a.documents a.dictionary c.requires.can.field c.move_nodes.ensures.counts

pub returns-clause-may : goal.returns-clause-may
returns-clause-may g c = c.move_nodes.ensures.may
