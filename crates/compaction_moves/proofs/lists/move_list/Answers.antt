use Rattle.std.proofs.Common.{◌≡◌, ◌∷◌, [], Some, true, refl, sym, subst, ◌∙◌, arith}
use Rattle.std.specs.Prelude.{length, IfOk, IfErr}
use Rattle.tree_read.specs.Pairs.{lookup_pair}
use Rattle.store_api.specs.Calls.{IsUsedWidth, RefusesOf}
use Rattle.store_api.specs.Parts.{Owns}
use Rattle.store_api.specs.Units.{MayDo, MakesWithin}
use Rattle.store_api.proofs.May.{may_do-same}
use Rattle.tree_read.specs.Trees.{tree_pairs}
use Rattle.attr_types.specs.Value.{type_of}
use Rattle.enum_dictionary.specs.Dictionaries.{beside_value}
use Rattle.image_format.specs.Postings.{index_of}
use Rattle.index_model.specs.Index.{list_of}
use Rattle.value_index.specs.Indexes.{index_part, IsIndex}
use Rattle.value_index.proofs.CountLemmas.{within_none}
use Rattle.value_index.proofs.StepLemmas.{entry_found, entry_none}
use Rattle.compaction_moves.specs.IndexMoves.{move_most, MovesList}
use Rattle.compaction_moves.proofs.ListLemmas.{list_unmoved}
use Rattle.compaction_moves.proofs.lists.move_list.Goals as goal

pub find-requires : goal.find-requires
find-requires g c = (omega arith, (omega arith, c.requires.index.dictionary_is))

pub move_found-requires : goal.move_found-requires
move_found-requires g c =
    let ledger = g.S.Store.ledger in
    let records = g.S.Frozen.records in
    let value = c.args.value.now in
    let root = c.args.root in
    let found = entry_found g.row.OFFSET_BITS (lookup_pair (beside_value value (records c.args.store.now)) (tree_pairs (records c.args.store.now) root)) c.in-Some.entry c.in-Some.entry.posting
    (sym c.in-Some.is ∙ c.find.ensures.entry) refl in
    let back = sym c.find.ensures.same in (
      omega arith,
      (
        subst (λ s. (ledger s).unit ≡ true) back c.requires.unit,
        (
          subst (λ s. (ledger s).sealed c.args.buffer ≡ true) back c.requires.sealed,
          (
            subst (λ s. IsIndex (type_of value) (records s) root) back c.requires.index,
            (
              subst (λ s. Owns (ledger s) (records s) (index_part root ∷ [])) back c.requires.owns,
              subst (λ s. lookup_pair (beside_value value (records s)) (tree_pairs (records s) root) ≡ Some (c.in-Some.entry.key, c.in-Some.entry.posting)) back found,
            ),
          ),
        ),
      ),
    )

pub returns-in-Some-clause-moves : goal.returns-in-Some-clause-moves
returns-in-Some-clause-moves g c =
    let ledger = g.S.Store.ledger in
    let records = g.S.Frozen.records in
    let t = c.move_found.new.store in
    subst (λ s. IfOk c.move_found.result (MovesList g.row.OFFSET_BITS c.args.buffer c.args.doc c.args.value.now (ledger s) (ledger t) (records s) (records t) c.args.root))
    c.find.ensures.same c.move_found.ensures.moves

pub returns-in-Some-clause-counts : goal.returns-in-Some-clause-counts
returns-in-Some-clause-counts g c =
    let ledger = g.S.Store.ledger in
    subst (λ s. MakesWithin (ledger s) (ledger c.move_found.new.store) (move_most c.args.value.now (g.S.Frozen.records s) c.args.root
    (length (list_of c.args.value.now (index_of (type_of c.args.value.now) (g.S.Frozen.records s) c.args.root)))))
    c.find.ensures.same c.move_found.ensures.counts

pub returns-in-Some-clause-refuses : goal.returns-in-Some-clause-refuses
returns-in-Some-clause-refuses g c =
    let ledger = g.S.Store.ledger in
    subst (λ s. IfErr c.move_found.result (RefusesOf (IsUsedWidth (ledger s) (g.S.Frozen.records s)) (ledger s) (ledger c.move_found.new.store))) c.find.ensures.same c.move_found.ensures.refuses

pub returns-in-Some-clause-may : goal.returns-in-Some-clause-may
returns-in-Some-clause-may g c = subst (λ s. MayDo (g.S.Store.ledger s) (g.S.Store.ledger c.move_found.new.store)) c.find.ensures.same c.move_found.ensures.may

pub returns-in-None-clause-moves : goal.returns-in-None-clause-moves
returns-in-None-clause-moves g c =
    let ledger = g.S.Store.ledger in
    let records = g.S.Frozen.records in
    let value = c.args.value.now in
    let root = c.args.root in
    let bits = g.row.OFFSET_BITS in
    let m = records c.args.store.now in
    let none = entry_none bits (lookup_pair (beside_value value m) (tree_pairs m root)) (sym c.in-None.is ∙ c.find.ensures.entry) in
    subst (λ s. MovesList bits c.args.buffer c.args.doc value (ledger c.args.store.now) (ledger s) m (records s) root root) (sym c.find.ensures.same)
    (list_unmoved bits c.args.buffer c.args.doc value (ledger c.args.store.now) m root c.requires.index c.requires.owns none)

pub returns-in-None-clause-counts : goal.returns-in-None-clause-counts
returns-in-None-clause-counts g c =
    let a = g.S.Store.ledger c.args.store.now in
    let m = g.S.Frozen.records c.args.store.now in
    let value = c.args.value.now in
    let most = move_most value m c.args.root (length (list_of value (index_of (type_of value) m c.args.root))) in
    subst (λ s. MakesWithin a (g.S.Store.ledger s) most) (sym c.find.ensures.same) (within_none a most)

pub returns-in-None-clause-may : goal.returns-in-None-clause-may
returns-in-None-clause-may g c =
    let a = g.S.Store.ledger c.args.store.now in
    subst (λ s. MayDo a (g.S.Store.ledger s)) (sym c.find.ensures.same) (may_do-same a)
