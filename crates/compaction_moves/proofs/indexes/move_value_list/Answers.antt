use Rattle.std.proofs.Common.{◌≡◌, length, true, sym, subst, arith}
use Rattle.std.proofs.lemmas.Result.{err_from_is_err_and}
use Rattle.compaction_moves.specs.Cleared.{trees_of_roots}
use Rattle.attr_compaction.specs.declared.plan.PlanKey.TheVariants.{Pair}
use Rattle.compaction_moves.specs.IndexMoves.{MovesList}
use Rattle.image_format.specs.Postings.{index_of}
use Rattle.index_model.specs.Index.{list_of}
use Rattle.attr_types.specs.Value.{type_of}
use Rattle.compaction_moves.proofs.MakeLemmas.{makes_list}
use Rattle.compaction_moves.proofs.MoveLemmas.{list_done, owned_index, typed_pair, value_index}
use Rattle.compaction_moves.proofs.indexes.move_value_list.Goals as goal

pub move_list-requires : goal.move_list-requires
move_list-requires g c =
    let bits = g.row.OFFSET_BITS in
    let plan = c.args.plan.now in
    let a = trees_of_roots c.args.field.now c.args.roots in
    let value = c.args.value.now in
    let old = g.S.Store.ledger c.args.store.now in
    let m = g.S.Frozen.records c.args.store.now in
    let can = c.requires.can in (
      omega arith,
      (
        can.unit,
        (
          subst (λ v. old.sealed v ≡ true) (sym c.victim.ensures) can.sealed,
          (
            value_index bits plan a old m 2 (Pair value c.args.doc) value can (typed_pair bits plan a old m 2 value c.args.doc (omega arith) can),
            owned_index bits plan a old m 2 (Pair value c.args.doc) can,
          ),
        ),
      ),
    )

pub returns-in_err-dictionary-clause-moved : goal.returns-in_err-dictionary-clause-moved
returns-in_err-dictionary-clause-moved g c = let p = err_from_is_err_and c.from_residual.result c.from_residual.ensures.1 in rw p.1 tt

pub returns-in_err-dictionary-clause-counts : goal.returns-in_err-dictionary-clause-counts
returns-in_err-dictionary-clause-counts g c =
    let a = trees_of_roots c.args.field.now c.args.roots in
    let old = g.S.Store.ledger c.args.store.now in
    let m = g.S.Frozen.records c.args.store.now in
    let typed = typed_pair g.row.OFFSET_BITS c.args.plan.now a old m 2 c.args.value.now c.args.doc (omega arith) c.requires.can in
    makes_list old (g.S.Store.ledger c.move_list.new.store) m a.kind a.type a.documents a.dictionary c.requires.can.field c.args.value.now
    (length (list_of c.args.value.now (index_of (type_of c.args.value.now) m c.args.roots.dictionary))) typed c.move_list.ensures.counts

pub returns-in_err-dictionary-clause-refuses : goal.returns-in_err-dictionary-clause-refuses
returns-in_err-dictionary-clause-refuses g c =
    let p = err_from_is_err_and c.from_residual.result c.from_residual.ensures.1 in rw (p.1, p.2) c.in_err-dictionary.ensures.refuses

pub returns-in_err-dictionary-clause-may : goal.returns-in_err-dictionary-clause-may
returns-in_err-dictionary-clause-may g c = c.move_list.ensures.may

pub returns-clause-moved : goal.returns-clause-moved
returns-clause-moved g c =
    let bits = g.row.OFFSET_BITS in
    let plan = c.args.plan.now in
    let a = trees_of_roots c.args.field.now c.args.roots in
    let value = c.args.value.now in
    let old = g.S.Store.ledger c.args.store.now in
    let m = g.S.Frozen.records c.args.store.now in
    let new = g.S.Store.ledger c.move_list.new.store in
    let n = g.S.Frozen.records c.move_list.new.store in
    let next = c.in_ok-dictionary.dictionary in
    let can = c.requires.can in
    let leaves = c.leaves_law.ensures plan.victim c.args.store.now c.move_list.new.store can.sealed can.begun.each c.move_list.ensures.may in
    list_done bits plan a old m new n next c.documents_law.ensures.stays c.keys_law.ensures c.moved_law.ensures.list leaves value c.args.doc can
    (subst (λ v. MovesList bits v c.args.doc value old new m n a.dictionary next) c.victim.ensures c.in_ok-dictionary.ensures.moves)

pub returns-clause-counts : goal.returns-clause-counts
returns-clause-counts g c =
    let a = trees_of_roots c.args.field.now c.args.roots in
    let old = g.S.Store.ledger c.args.store.now in
    let m = g.S.Frozen.records c.args.store.now in
    let typed = typed_pair g.row.OFFSET_BITS c.args.plan.now a old m 2 c.args.value.now c.args.doc (omega arith) c.requires.can in
    makes_list old (g.S.Store.ledger c.move_list.new.store) m a.kind a.type a.documents a.dictionary c.requires.can.field c.args.value.now
    (length (list_of c.args.value.now (index_of (type_of c.args.value.now) m c.args.roots.dictionary))) typed c.move_list.ensures.counts

pub returns-clause-may : goal.returns-clause-may
returns-clause-may g c = c.move_list.ensures.may
