use Rattle.std.proofs.Common.{[], length, sym, ap, subst, refl, arith}
use Rattle.std.proofs.lemmas.Option.{slice_get_read}
use Rattle.std.proofs.lemmas.List.{nil_from_length}
use Rattle.list_lemmas.proofs.Tests.{zero_from_test, above_zero_from_test}
use Rattle.store_api.proofs.PartLemmas.{turns-same}
use Rattle.attr_types.specs.Lawful.{IsLawfulItems}
use Rattle.attr_field.specs.Items.{entries_by_key, has_list, MakesItems}
use Rattle.attr_field.proofs.DocumentsCountLemmas.{items-none, items-one}
use Rattle.attr_field.proofs.KeyLemmas.{makes_none, makes_single, weights_of, few_of}
use Rattle.attr_field.proofs.making.make_items.Goals as goal

pub returns-then-is_empty-clause-makes : goal.returns-then-is_empty-clause-makes
returns-then-is_empty-clause-makes g c =
    let ledger = g.S.Store.ledger c.args.store.now in
    let m = g.S.Frozen.records c.args.store.now in
    let keys = c.args.keys.now in
    makes_none ledger ledger m m c.args.kind keys c.args.items.now c.from_raw.result (nil_from_length keys (zero_from_test (length keys) c.is_empty.result c.is_empty.ensures c.if-is_empty.true)) c.from_raw.ensures
    (turns-same ledger m [])

pub make_list-requires : goal.make_list-requires
make_list-requires g c =
    let has = ap has_list c.in-Array.is in
    let some = above_zero_from_test (length c.args.keys.now) c.is_empty.result c.is_empty.ensures c.if-is_empty.false in
    let same = c.requires.sized in
    (omega arith, (c.requires.unit, (has, (c.requires.sized, (omega arith, (few_of c.args.kind c.args.items.now has c.requires.lawful, weights_of c.args.kind c.args.items.now c.requires.lawful))))))

pub make_list-requires-in-WeightedSet : goal.make_list-requires-in-WeightedSet
make_list-requires-in-WeightedSet g c =
    let has = ap has_list c.in-WeightedSet.is in
    let some = above_zero_from_test (length c.args.keys.now) c.is_empty.result c.is_empty.ensures c.if-is_empty.false in
    let same = c.requires.sized in
    (omega arith, (c.requires.unit, (has, (c.requires.sized, (omega arith, (few_of c.args.kind c.args.items.now has c.requires.lawful, weights_of c.args.kind c.args.items.now c.requires.lawful))))))

pub returns-in-Single-clause-makes : goal.returns-in-Single-clause-makes
returns-in-Single-clause-makes g c =
    let ledger = g.S.Store.ledger c.args.store.now in
    let m = g.S.Frozen.records c.args.store.now in
    let keys = c.args.keys.now in
    let items = c.args.items.now in
    let some = above_zero_from_test (length keys) c.is_empty.result c.is_empty.ensures c.if-is_empty.false in
    let at = slice_get_read keys (length keys) 0 c.index-keys-0.result refl some c.index-keys-0.is in
    subst (λ k. MakesItems k ledger ledger m m (entries_by_key keys items) c.index-keys-0.result) (sym c.in-Single.is)
    (makes_single ledger ledger m m keys items c.index-keys-0.result at c.requires.sized c.requires.there (subst (λ k. IsLawfulItems k items) c.in-Single.is c.requires.lawful) (turns-same ledger m []))

pub returns-then-is_empty-clause-counts : goal.returns-then-is_empty-clause-counts
returns-then-is_empty-clause-counts g c = items-none (g.S.Store.ledger c.args.store.now) c.args.kind (length c.args.items.now)

pub returns-in-Single-clause-counts : goal.returns-in-Single-clause-counts
returns-in-Single-clause-counts g c = items-none (g.S.Store.ledger c.args.store.now) c.args.kind (length c.args.items.now)

pub returns-in-Array-clause-counts : goal.returns-in-Array-clause-counts
returns-in-Array-clause-counts g c =
    let ledger = g.S.Store.ledger in
    let some = above_zero_from_test (length c.args.keys.now) c.is_empty.result c.is_empty.ensures c.if-is_empty.false in
    let same = c.requires.sized in
    items-one (ledger c.args.store.now) (ledger c.make_list.new.store) c.args.kind (length c.args.items.now) (ap has_list c.in-Array.is) (omega arith) c.make_list.ensures.counts

pub returns-in-WeightedSet-clause-counts : goal.returns-in-WeightedSet-clause-counts
returns-in-WeightedSet-clause-counts g c =
    let ledger = g.S.Store.ledger in
    let some = above_zero_from_test (length c.args.keys.now) c.is_empty.result c.is_empty.ensures c.if-is_empty.false in
    let same = c.requires.sized in
    items-one (ledger c.args.store.now) (ledger c.make_list-in-WeightedSet.new.store) c.args.kind (length c.args.items.now) (ap has_list c.in-WeightedSet.is) (omega arith)
    c.make_list-in-WeightedSet.ensures.counts
