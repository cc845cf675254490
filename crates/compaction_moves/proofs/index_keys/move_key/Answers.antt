use Rattle.std.proofs.Common.{◌≡◌, ◌∷◌, [], Some, true, refl, sym, subst, ◌∙◌, arith}
use Rattle.std.specs.Prelude.{IfOk, IfErr}
use Rattle.tree_read.specs.Pairs.{lookup_pair}
use Rattle.store_api.specs.Calls.{IsUsedWidth, RefusesOf}
use Rattle.store_api.specs.Parts.{Owns}
use Rattle.store_api.specs.Units.{MayDo, MakesWithin}
use Rattle.store_api.proofs.May.{may_do-same}
use Rattle.tree_read.specs.Trees.{tree_pairs}
use Rattle.attr_types.specs.Value.{type_of}
use Rattle.enum_dictionary.specs.Dictionaries.{beside_value}
use Rattle.value_index.specs.Indexes.{index_part, IsIndex}
use Rattle.value_index.proofs.CountLemmas.{within_none}
use Rattle.value_index.proofs.StepLemmas.{entry_found, entry_none}
use Rattle.compaction_moves.specs.IndexMoves.{key_most, MovesKey}
use Rattle.compaction_moves.proofs.IndexKeyLemmas.{key_unmoved, none_apart}
use Rattle.compaction_moves.proofs.index_keys.move_key.Goals as goal

pub find-requires : goal.find-requires
find-requires g c = (omega arith, (omega arith, c.requires.index.dictionary_is))

pub move_found-requires : goal.move_found-requires
move_found-requires g c =
    let ledger = g.S.Store.ledger in
    let records = g.S.Frozen.records in
    let value = c.args.value.now in
    let root = c.args.root in
    let found = entry_found g.row.OFFSET_BITS (lookup_pair (beside_value value (records c.args.store.now)) (tree_pairs (records c.args.store.now) root)) c.in-Some.entry c.in-Some.entry.posting
    (sym c.in-Some.is ∙ c.find.ensures.entry) refl in
    let back = sym c.find.ensures.same in (
      omega arith,
      (
        subst (λ s. (ledger s).unit ≡ true) back c.requires.unit,
        (
          subst (λ s. (ledger s).sealed c.args.buffer ≡ true) back c.requires.sealed,
          (
            subst (λ s. IsIndex (type_of value) (records s) root) back c.requires.index,
            (
              subst (λ s. Owns (ledger s) (records s) (index_part root ∷ [])) back c.requires.owns,
              subst (λ s. lookup_pair (beside_value value (records s)) (tree_pairs (records s) root) ≡ Some (c.in-Some.entry.key, c.in-Some.entry.posting)) back found,
            ),
          ),
        ),
      ),
    )

pub returns-in-Some-clause-moves : goal.returns-in-Some-clause-moves
returns-in-Some-clause-moves g c =
    let ledger = g.S.Store.ledger in
    let records = g.S.Frozen.records in
    let t = c.move_found.new.store in
    subst (λ s. IfOk c.move_found.result (MovesKey g.row.OFFSET_BITS c.args.buffer c.args.value.now (ledger s) (ledger t) (records s) (records t) c.args.root))
    c.find.ensures.same c.move_found.ensures.moves

pub returns-in-Some-clause-counts : goal.returns-in-Some-clause-counts
returns-in-Some-clause-counts g c =
    let ledger = g.S.Store.ledger in
    subst (λ s. MakesWithin (ledger s) (ledger c.move_found.new.store) (key_most c.args.value.now (g.S.Frozen.records s) c.args.root))
    c.find.ensures.same c.move_found.ensures.counts

pub returns-in-Some-clause-refuses : goal.returns-in-Some-clause-refuses
returns-in-Some-clause-refuses g c =
    let ledger = g.S.Store.ledger in
    subst (λ s. IfErr c.move_found.result (RefusesOf (IsUsedWidth (ledger s) (g.S.Frozen.records s)) (ledger s) (ledger c.move_found.new.store))) c.find.ensures.same c.move_found.ensures.refuses

pub returns-in-Some-clause-may : goal.returns-in-Some-clause-may
returns-in-Some-clause-may g c = subst (λ s. MayDo (g.S.Store.ledger s) (g.S.Store.ledger c.move_found.new.store)) c.find.ensures.same c.move_found.ensures.may

pub returns-in-None-clause-moves : goal.returns-in-None-clause-moves
returns-in-None-clause-moves g c =
    let ledger = g.S.Store.ledger in
    let records = g.S.Frozen.records in
    let value = c.args.value.now in
    let root = c.args.root in
    let bits = g.row.OFFSET_BITS in
    let m = records c.args.store.now in
    let none = entry_none bits (lookup_pair (beside_value value m) (tree_pairs m root)) (sym c.in-None.is ∙ c.find.ensures.entry) in
    subst (λ s. MovesKey bits c.args.buffer value (ledger c.args.store.now) (ledger s) m (records s) root root) (sym c.find.ensures.same)
    (key_unmoved bits c.args.buffer value (ledger c.args.store.now) m root c.requires.index c.requires.owns (none_apart bits c.args.buffer value m root none))

pub returns-in-None-clause-counts : goal.returns-in-None-clause-counts
returns-in-None-clause-counts g c =
    let a = g.S.Store.ledger c.args.store.now in
    let most = key_most c.args.value.now (g.S.Frozen.records c.args.store.now) c.args.root in
    subst (λ s. MakesWithin a (g.S.Store.ledger s) most) (sym c.find.ensures.same) (within_none a most)

pub returns-in-None-clause-may : goal.returns-in-None-clause-may
returns-in-None-clause-may g c =
    let a = g.S.Store.ledger c.args.store.now in
    subst (λ s. MayDo a (g.S.Store.ledger s)) (sym c.find.ensures.same) (may_do-same a)
