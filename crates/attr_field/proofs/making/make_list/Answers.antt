use Rattle.std.proofs.Common.{ℕ, ◌+◌, subst, length, map, ap, ◌∙◌, arith}
use Rattle.attr_field.specs.Items.{entries_by_key, word_entry, IsItemsWidth}
use Rattle.array_store.specs.Adding.{MakesOneOf}
use Rattle.image_format.specs.Words.{class_of}
use Rattle.attr_field.proofs.DocumentsCountLemmas.{one-none}
use Rattle.attr_field.proofs.KeyLemmas.{words_length, made_list}
use Rattle.posting_store.proofs.RefusalLemmas.{if_one}
use Rattle.array_store.proofs.ClassLemmas.{class_width}
use Rattle.store_api.proofs.May.{may_do-same}
use Rattle.attr_field.proofs.making.make_list.Goals as goal

pub returns-in_default-clause-refuses : goal.returns-in_default-clause-refuses
returns-in_default-clause-refuses g c = tt

pub add-requires : goal.add-requires
add-requires g c =
    let are = ap (map (word_entry c.args.kind)) c.deref.ensures.value ∙ c.in-Ok.ensures in
    let size = words_length c.args.kind c.deref.result.now c.args.keys.now c.args.items.now are c.requires.sized in
    let few = c.requires.few in
    (omega arith, (c.requires.unit, omega arith))

pub returns-clause-makes : goal.returns-clause-makes
returns-clause-makes g c =
    let ledger = g.S.Store.ledger in
    let records = g.S.Frozen.records in
    let s = c.args.store.now in
    let t = c.add.new.store in
    let are = ap (map (word_entry c.args.kind)) c.deref.ensures.value ∙ c.in-Ok.ensures in
    let size = words_length c.args.kind c.deref.result.now c.args.keys.now c.args.items.now are c.requires.sized in
    let few = c.requires.few in
    let some = c.requires.some in
    made_list (ledger s) (ledger t) (records s) (records t) g.row.OFFSET_BITS c.deref.result.now (entries_by_key c.args.keys.now c.args.items.now) c.args.kind c.add.result
    (omega arith) (omega arith) c.requires.list are c.add.ensures.items c.add.ensures.adds

pub returns-in_default-clause-counts : goal.returns-in_default-clause-counts
returns-in_default-clause-counts g c = one-none (g.S.Store.ledger c.args.store.now) (class_of (1 + length c.args.items.now))

pub returns-clause-counts : goal.returns-clause-counts
returns-clause-counts g c =
    let ledger = g.S.Store.ledger in
    let are = ap (map (word_entry c.args.kind)) c.deref.ensures.value ∙ c.in-Ok.ensures in
    subst (λ (k : ℕ). MakesOneOf (class_of (1 + k)) (ledger c.args.store.now) (ledger c.add.new.store))
    (words_length c.args.kind c.deref.result.now c.args.keys.now c.args.items.now are c.requires.sized) c.add.ensures.counts

pub returns-clause-refuses : goal.returns-clause-refuses
returns-clause-refuses g c =
    let a = g.S.Store.ledger c.args.store.now in
    let kind = c.args.kind in
    let size = length c.args.items.now in
    let are = ap (map (word_entry kind)) c.deref.ensures.value ∙ c.in-Ok.ensures in
    let same = words_length kind c.deref.result.now c.args.keys.now c.args.items.now are c.requires.sized in
    if_one (IsItemsWidth kind size) a a (g.S.Store.ledger c.add.new.store) (class_of (1 + length c.deref.result.now)) c.add.result (may_do-same a) (class_width (1 + length c.deref.result.now))
    (record { list = c.requires.list; some = c.requires.some; width_is = ap (λ (k : ℕ). class_of (1 + k)) same }) c.add.ensures.refuses
