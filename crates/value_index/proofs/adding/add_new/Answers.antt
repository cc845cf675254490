use Rattle.std.proofs.Common.{[], ℤ, pos, w32, refl, sym, ap, subst, ◌∙◌, arith, ◌≡◌, ◌+◌, ◌*◌, ◌||◌, ℕ}
use Rattle.std.proofs.lemmas.Int.{to_z-of_z}
use Rattle.std.proofs.lemmas.Result.{err_from_is_err_and}
use Rattle.std.specs.Prelude.{length}
use Rattle.std.specs.BTreeMap.{insert_entry}
use Rattle.std.specs.Ordering.{nat_cmp}
use Rattle.array_store.proofs.ClassLemmas.{class_width}
use Rattle.image_format.specs.Postings.{index_of}
use Rattle.image_format.specs.Values.{value_words}
use Rattle.image_format.specs.Words.{class_of}
use Rattle.index_model.specs.Index.{list_of}
use Rattle.attr_types.specs.Value.{type_of}
use Rattle.frozen_btree.specs.Changes.{levels}
use Rattle.image_format.specs.Postings.{is_dense}
use Rattle.posting_store.specs.Changes.{IsListChangeWidth, MakesByRule}
use Rattle.posting_store.specs.Lists.{is_vector}
use Rattle.posting_store.proofs.ListLemmas.{nothing_is}
use Rattle.posting_store.proofs.RefusalLemmas.{if_one, of_more, of_one}
use Rattle.store_api.proofs.May.{may_do-same, may_do-then}
use Rattle.store_api.specs.Units.{MakesWithin}
use Rattle.value_index.proofs.ChangeLemmas.{open_dictionary, open_owns}
use Rattle.value_index.specs.Changes.{add_most, new_most, nodes_most, IsChangeWidth}
use Rattle.value_index.proofs.CountLemmas.{add_none, within_more, within_new, within_then, within_tree, word_most}
use Rattle.value_index.proofs.FormLemmas.{form_wanted, made_long, made_plain}
use Rattle.value_index.proofs.KeyLemmas.{list_none}
use Rattle.value_index.proofs.OpenFlows.{flows_new}
use Rattle.value_index.proofs.ShownLemmas.{Docs}
use Rattle.value_index.proofs.StepLemmas.{inserted_some, list_change, node_change, open_new, record_change, set_index, set_plain}
use Rattle.value_index.specs.declared.adding.Added.{Added}
use Rattle.value_index.proofs.adding.add_new.Goals as goal

pub add-requires : goal.add-requires
add-requires g c = (omega arith, c.requires.unit)

pub returns-in_err-key-clause-makes : goal.returns-in_err-key-clause-makes
returns-in_err-key-clause-makes g c = let p = err_from_is_err_and c.from_residual.result c.from_residual.ensures.1 in rw p.1 tt

pub returns-in_err-key-clause-refuses : goal.returns-in_err-key-clause-refuses
returns-in_err-key-clause-refuses g c =
    let ledger = g.S.Store.ledger in
    let value = c.args.value.now in
    let root = c.args.root in
    let m = g.S.Frozen.records c.args.store.now in
    let count : ℕ = length (insert_entry nat_cmp (list_of value (index_of (type_of value) m root)) c.args.doc c.args.weight) in
    let a = ledger c.args.store.now in
    let p = err_from_is_err_and c.from_residual.result c.from_residual.ensures.1 in
    rw (p.1, p.2) (of_one (IsChangeWidth c.args.dense value count) a a (ledger c.add.new.store) (class_of (length (value_words value))) _ (may_do-same a) (class_width (length (value_words value)))
    (record_change c.args.dense value count (inserted_some (list_of value (index_of (type_of value) m root)) c.args.doc c.args.weight) c.add.ensures.short) c.in_err-key.ensures.refuses)

pub returns-in_err-key-clause-may : goal.returns-in_err-key-clause-may
returns-in_err-key-clause-may g c = c.add.ensures.may

pub add-requires-2-clause-unit : goal.add-requires-2-clause-unit
add-requires-2-clause-unit g c = c.add.ensures.may.unit ∙ c.requires.unit

pub add-requires-2-clause-list : goal.add-requires-2-clause-list
add-requires-2-clause-list g c = nothing_is (g.S.Frozen.records c.add.new.store)

pub add-requires-2-clause-plain : goal.add-requires-2-clause-plain
add-requires-2-clause-plain g c = λ off. omega arith

pub add-requires-2-clause-ones : goal.add-requires-2-clause-ones
add-requires-2-clause-ones g c = λ wanted. (tt, subst (λ (w : ℤ). w ≡ pos 1) (sym (to_z-of_z w32 c.args.weight c.ranges.weight)) (c.requires.one wanted))

pub add-requires-2-clause-owns : goal.add-requires-2-clause-owns
add-requires-2-clause-owns g c = record { each = λ r. omega arith }

pub returns-in_err-list-clause-makes : goal.returns-in_err-list-clause-makes
returns-in_err-list-clause-makes g c = let p = err_from_is_err_and c.from_residual-in_err-list.result c.from_residual-in_err-list.ensures.1 in rw p.1 tt

pub returns-in_err-list-clause-refuses : goal.returns-in_err-list-clause-refuses
returns-in_err-list-clause-refuses g c =
    let ledger = g.S.Store.ledger in
    let value = c.args.value.now in
    let root = c.args.root in
    let m = g.S.Frozen.records c.args.store.now in
    let count : ℕ = length (insert_entry nat_cmp (list_of value (index_of (type_of value) m root)) c.args.doc c.args.weight) in
    let size : count ≡ 1 = ap (λ (ds : Docs). length (insert_entry nat_cmp ds c.args.doc c.args.weight)) (list_none value m root c.requires.index c.requires.new) in
    let p = err_from_is_err_and c.from_residual-in_err-list.result c.from_residual-in_err-list.ensures.1 in
    let vector = is_vector 0 || is_dense c.args.dense 1 c.args.documents in
    rw (p.1, p.2) (of_more (IsListChangeWidth vector 1) (IsChangeWidth c.args.dense value count) (ledger c.args.store.now) (ledger c.add.new.store) (ledger c.add-2.new.store) _ c.add.ensures.may
    (λ w is. subst (λ k. IsChangeWidth c.args.dense value k w) (sym size)
    (list_change c.args.dense vector value 1 w (form_wanted c.args.dense 0 1 c.args.documents (λ off. omega arith)) is)) c.in_err-list.ensures.refuses)

pub returns-in_err-list-clause-may : goal.returns-in_err-list-clause-may
returns-in_err-list-clause-may g c =
    let ledger = g.S.Store.ledger in
    may_do-then (ledger c.args.store.now) (ledger c.add.new.store) (ledger c.add-2.new.store) c.add.ensures.may c.add-2.ensures.may

pub set_pair-requires : goal.set_pair-requires
set_pair-requires g c =
    let ledger = g.S.Store.ledger in
    let records = g.S.Frozen.records in
    let value = c.args.value.now in
    let root = c.args.root in
    let a = ledger c.args.store.now in
    let b = ledger c.add.new.store in
    let d = ledger c.add-2.new.store in
    let m = records c.args.store.now in
    let n = records c.add.new.store in
    let o = records c.add-2.new.store in
    let key = c.in_ok-key.key in
    let list = c.in_ok-list.list in
    let docs = insert_entry nat_cmp [] c.args.doc c.args.weight in
    let makes = subst (λ (w : ℤ). MakesByRule c.args.dense c.args.documents b d n o 0 (insert_entry nat_cmp [] c.args.doc w) list) (to_z-of_z w32 c.args.weight c.ranges.weight) c.in_ok-list.ensures.makes in
    let form = is_dense c.args.dense (length docs) c.args.documents in
    let is = open_new value g.row.OFFSET_BITS a b d m n o root key list docs form c.requires.index c.requires.owns c.requires.new
    c.in_ok-key.ensures.adds c.in_ok-key.ensures.record c.in_ok-key.ensures.value makes (made_long c.args.dense (length docs) c.args.documents list makes.form) in (
      omega arith,
      (
        omega arith,
        (
          c.add-2.ensures.may.unit ∙ c.add.ensures.may.unit ∙ c.requires.unit,
          (
            open_dictionary value a d m o root key list c.requires.index is,
            (is.record_is, (is.reads, open_owns value a d m o root key list c.requires.index is)),
          ),
        ),
      ),
    )

pub returns-clause-makes : goal.returns-clause-makes
returns-clause-makes g c =
    let ledger = g.S.Store.ledger in
    let records = g.S.Frozen.records in
    let value = c.args.value.now in
    let root = c.args.root in
    let a = ledger c.args.store.now in
    let b = ledger c.add.new.store in
    let d = ledger c.add-2.new.store in
    let m = records c.args.store.now in
    let n = records c.add.new.store in
    let o = records c.add-2.new.store in
    let key = c.in_ok-key.key in
    let list = c.in_ok-list.list in
    let docs = insert_entry nat_cmp [] c.args.doc c.args.weight in
    let makes = subst (λ (w : ℤ). MakesByRule c.args.dense c.args.documents b d n o 0 (insert_entry nat_cmp [] c.args.doc w) list) (to_z-of_z w32 c.args.weight c.ranges.weight) c.in_ok-list.ensures.makes in
    let form = is_dense c.args.dense (length docs) c.args.documents in
    let is = open_new value g.row.OFFSET_BITS a b d m n o root key list docs form c.requires.index c.requires.owns c.requires.new
    c.in_ok-key.ensures.adds c.in_ok-key.ensures.record c.in_ok-key.ensures.value makes (made_long c.args.dense (length docs) c.args.documents list makes.form) in
    let was = list_none value m root c.requires.index c.requires.new in
    let taken = flows_new value g.row.OFFSET_BITS a b d m n o root key list (value_words value) docs form c.add.ensures.may c.in_ok-key.ensures.adds c.add-2.ensures.may makes in
    set_index value a d (ledger c.set_pair.new.store) m o (records c.set_pair.new.store) root key list c.requires.index is taken c.set_pair.ensures.may
    (insert_entry nat_cmp (list_of value (index_of (type_of value) m root)) c.args.doc c.args.weight)
    (makes.docs_are ∙ ap (λ (ds : Docs). insert_entry nat_cmp ds c.args.doc c.args.weight) (sym was))
    (λ (added : Added g.row.OFFSET_BITS). added.root) c.set_pair.result c.word.result c.word.ensures (inserted_some (list_of value (index_of (type_of value) m root)) c.args.doc c.args.weight)
    c.set_pair.ensures.makes

pub returns-in_err-key-clause-plain : goal.returns-in_err-key-clause-plain
returns-in_err-key-clause-plain g c = let p = err_from_is_err_and c.from_residual.result c.from_residual.ensures.1 in rw p.1 tt

pub returns-in_err-list-clause-plain : goal.returns-in_err-list-clause-plain
returns-in_err-list-clause-plain g c = let p = err_from_is_err_and c.from_residual-in_err-list.result c.from_residual-in_err-list.ensures.1 in rw p.1 tt

pub returns-clause-plain : goal.returns-clause-plain
returns-clause-plain g c =
    let ledger = g.S.Store.ledger in
    let records = g.S.Frozen.records in
    let value = c.args.value.now in
    let root = c.args.root in
    let a = ledger c.args.store.now in
    let b = ledger c.add.new.store in
    let d = ledger c.add-2.new.store in
    let m = records c.args.store.now in
    let n = records c.add.new.store in
    let o = records c.add-2.new.store in
    let key = c.in_ok-key.key in
    let list = c.in_ok-list.list in
    let docs = insert_entry nat_cmp [] c.args.doc c.args.weight in
    let makes = subst (λ (w : ℤ). MakesByRule c.args.dense c.args.documents b d n o 0 (insert_entry nat_cmp [] c.args.doc w) list) (to_z-of_z w32 c.args.weight c.ranges.weight) c.in_ok-list.ensures.makes in
    let form = is_dense c.args.dense (length docs) c.args.documents in
    let is = open_new value g.row.OFFSET_BITS a b d m n o root key list docs form c.requires.index c.requires.owns c.requires.new
    c.in_ok-key.ensures.adds c.in_ok-key.ensures.record c.in_ok-key.ensures.value makes (made_long c.args.dense (length docs) c.args.documents list makes.form) in
    let was = list_none value m root c.requires.index c.requires.new in
    let taken = flows_new value g.row.OFFSET_BITS a b d m n o root key list (value_words value) docs form c.add.ensures.may c.in_ok-key.ensures.adds c.add-2.ensures.may makes in
    set_plain value a d (ledger c.set_pair.new.store) m o (records c.set_pair.new.store) root key list c.requires.index is taken c.set_pair.ensures.may
    (insert_entry nat_cmp (list_of value (index_of (type_of value) m root)) c.args.doc c.args.weight)
    (makes.docs_are ∙ ap (λ (ds : Docs). insert_entry nat_cmp ds c.args.doc c.args.weight) (sym was)) c.args.dense
    (λ (added : Added g.row.OFFSET_BITS). added.root) c.set_pair.result c.word.result c.word.ensures (inserted_some (list_of value (index_of (type_of value) m root)) c.args.doc c.args.weight)
    (made_plain c.args.dense (length docs) c.args.documents list makes.form) c.requires.plain c.set_pair.ensures.makes

pub returns-clause-refuses : goal.returns-clause-refuses
returns-clause-refuses g c =
    let ledger = g.S.Store.ledger in
    let value = c.args.value.now in
    let root = c.args.root in
    let m = g.S.Frozen.records c.args.store.now in
    let count : ℕ = length (insert_entry nat_cmp (list_of value (index_of (type_of value) m root)) c.args.doc c.args.weight) in
    if_one (IsChangeWidth c.args.dense value count) (ledger c.args.store.now) (ledger c.add-2.new.store) (ledger c.set_pair.new.store) 34 c.set_pair.result
    (may_do-then (ledger c.args.store.now) (ledger c.add.new.store) (ledger c.add-2.new.store) c.add.ensures.may c.add-2.ensures.may) refl (node_change c.args.dense value count) c.set_pair.ensures.refuses

pub returns-clause-may : goal.returns-clause-may
returns-clause-may g c =
    let ledger = g.S.Store.ledger in
    may_do-then (ledger c.args.store.now) (ledger c.add-2.new.store) (ledger c.set_pair.new.store)
    (may_do-then (ledger c.args.store.now) (ledger c.add.new.store) (ledger c.add-2.new.store) c.add.ensures.may c.add-2.ensures.may) c.set_pair.ensures.may

pub returns-in_err-key-clause-counts : goal.returns-in_err-key-clause-counts
returns-in_err-key-clause-counts g c =
    let ledger = g.S.Store.ledger in
    let value = c.args.value.now in
    let m = g.S.Frozen.records c.args.store.now in
    let a = ledger c.args.store.now in
    let b = ledger c.add.new.store in
    let docs = insert_entry nat_cmp (list_of value (index_of (type_of value) m c.args.root)) c.args.doc c.args.weight in
    within_more a b (new_most value) (add_most value m c.args.root c.args.dense c.args.documents docs)
    (λ w. let e = add_none value m c.args.root c.args.dense c.args.documents docs w c.requires.new in omega arith)
    (within_new a b value c.add.ensures.short c.add.ensures.counts)

pub returns-in_err-list-clause-counts : goal.returns-in_err-list-clause-counts
returns-in_err-list-clause-counts g c =
    let ledger = g.S.Store.ledger in
    let value = c.args.value.now in
    let m = g.S.Frozen.records c.args.store.now in
    let a = ledger c.args.store.now in
    let b = ledger c.add.new.store in
    let d = ledger c.add-2.new.store in
    let none = list_none value m c.args.root c.requires.index c.requires.new in
    let docs = insert_entry nat_cmp [] c.args.doc c.args.weight in
    let most = word_most m c.args.dense c.args.documents 0 in
    let list = subst (λ (w : ℤ). MakesWithin b d (most (insert_entry nat_cmp [] c.args.doc w))) (to_z-of_z w32 c.args.weight c.ranges.weight) c.add-2.ensures.counts in
    subst {A = Docs} (λ ds. MakesWithin a d (add_most value m c.args.root c.args.dense c.args.documents (insert_entry nat_cmp ds c.args.doc c.args.weight))) (sym none)
    (within_more a d (λ w. new_most value w + most docs w) (add_most value m c.args.root c.args.dense c.args.documents docs)
    (λ w. let e = add_none value m c.args.root c.args.dense c.args.documents docs w c.requires.new in omega arith)
    (within_then a b d (new_most value) (most docs) c.add.ensures.may (within_new a b value c.add.ensures.short c.add.ensures.counts) list))

pub returns-clause-counts : goal.returns-clause-counts
returns-clause-counts g c =
    let ledger = g.S.Store.ledger in
    let records = g.S.Frozen.records in
    let value = c.args.value.now in
    let root = c.args.root in
    let a = ledger c.args.store.now in
    let b = ledger c.add.new.store in
    let d = ledger c.add-2.new.store in
    let f = ledger c.set_pair.new.store in
    let m = records c.args.store.now in
    let n = records c.add.new.store in
    let o = records c.add-2.new.store in
    let key = c.in_ok-key.key in
    let list = c.in_ok-list.list in
    let docs = insert_entry nat_cmp [] c.args.doc c.args.weight in
    let makes = subst (λ (w : ℤ). MakesByRule c.args.dense c.args.documents b d n o 0 (insert_entry nat_cmp [] c.args.doc w) list) (to_z-of_z w32 c.args.weight c.ranges.weight) c.in_ok-list.ensures.makes in
    let form = is_dense c.args.dense (length docs) c.args.documents in
    let is = open_new value g.row.OFFSET_BITS a b d m n o root key list docs form c.requires.index c.requires.owns c.requires.new
    c.in_ok-key.ensures.adds c.in_ok-key.ensures.record c.in_ok-key.ensures.value makes (made_long c.args.dense (length docs) c.args.documents list makes.form) in
    let none = list_none value m root c.requires.index c.requires.new in
    let most = word_most m c.args.dense c.args.documents 0 in
    let list_made = subst (λ (w : ℤ). MakesWithin b d (most (insert_entry nat_cmp [] c.args.doc w))) (to_z-of_z w32 c.args.weight c.ranges.weight) c.add-2.ensures.counts in
    let may = may_do-then a b d c.add.ensures.may c.add-2.ensures.may in
    let made = within_then a b d (new_most value) (most docs) c.add.ensures.may (within_new a b value c.add.ensures.short c.add.ensures.counts) list_made in
    let nodes = within_tree d f m o root (2 * levels o root + 1) is.nodes (omega arith) c.set_pair.ensures.counts in
    subst {A = Docs} (λ ds. MakesWithin a f (add_most value m root c.args.dense c.args.documents (insert_entry nat_cmp ds c.args.doc c.args.weight))) (sym none)
    (within_more a f (λ w. new_most value w + most docs w + nodes_most (levels m root) w) (add_most value m root c.args.dense c.args.documents docs)
    (λ w. let e = add_none value m root c.args.dense c.args.documents docs w c.requires.new in omega arith)
    (within_then a d f (λ w. new_most value w + most docs w) (nodes_most (levels m root)) may made nodes))

pub returns-in_err-key-clause-key : goal.returns-in_err-key-clause-key
returns-in_err-key-clause-key g c = let p = err_from_is_err_and c.from_residual.result c.from_residual.ensures.1 in rw p.1 tt

pub returns-in_err-list-clause-key : goal.returns-in_err-list-clause-key
returns-in_err-list-clause-key g c = let p = err_from_is_err_and c.from_residual-in_err-list.result c.from_residual-in_err-list.ensures.1 in rw p.1 tt

pub returns-clause-key : goal.returns-clause-key
returns-clause-key g c = c.set_pair.ensures.key
