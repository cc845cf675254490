use Rattle.std.proofs.Common.{ℤ, pos, w32, to_z, of_z, refl, sym, ap, subst, ◌∙◌, arith, ◌≡◌, ◌+◌, ◌*◌, ◌||◌, ℕ, false, length}
use Rattle.std.proofs.lemmas.Int.{to_z-of_z}
use Rattle.std.proofs.lemmas.Result.{err_from_is_err_and}
use Rattle.std.specs.BTreeMap.{insert_entry}
use Rattle.std.specs.Ordering.{nat_cmp}
use Rattle.image_format.specs.Postings.{index_of}
use Rattle.index_model.specs.Index.{list_of}
use Rattle.attr_types.specs.Value.{type_of}
use Rattle.frozen_btree.specs.Changes.{levels}
use Rattle.image_format.specs.Postings.{is_dense}
use Rattle.posting_store.specs.Changes.{IsListChangeWidth, MakesByRule}
use Rattle.posting_store.specs.Lists.{list_at, is_vector, AreOnes}
use Rattle.posting_store.proofs.RefusalLemmas.{if_one, of_more}
use Rattle.store_api.proofs.May.{may_do-same, may_do-then}
use Rattle.store_api.specs.Units.{MakesWithin}
use Rattle.value_index.proofs.ChangeLemmas.{open_dictionary, open_owns}
use Rattle.value_index.specs.Changes.{add_most, nodes_most, IsChangeWidth}
use Rattle.value_index.proofs.CountLemmas.{add_found, within_more, within_then, within_tree, word_most}
use Rattle.value_index.proofs.FormLemmas.{form_wanted, made_long, made_plain, plain_found}
use Rattle.value_index.proofs.KeyLemmas.{pair_found}
use Rattle.value_index.proofs.OpenFlows.{flows_found}
use Rattle.value_index.proofs.ShownLemmas.{Docs}
use Rattle.value_index.proofs.StepLemmas.{inserted_some, list_change, list_is, list_owned, node_change, open_next, set_index, set_plain}
use Rattle.value_index.specs.declared.adding.Added.{Added}
use Rattle.value_index.proofs.adding.add_more.Goals as goal

pub add-requires-clause-unit : goal.add-requires-clause-unit
add-requires-clause-unit g c = c.requires.unit

pub add-requires-clause-list : goal.add-requires-clause-list
add-requires-clause-list g c =
    (pair_found c.args.value.now (g.S.Frozen.records c.args.store.now) c.args.root c.requires.index (c.args.key, c.args.list) c.requires.found).list_is

pub add-requires-clause-plain : goal.add-requires-clause-plain
add-requires-clause-plain g c =
    λ off. plain_found c.args.value.now (g.S.Frozen.records c.args.store.now) c.args.root (c.args.key, c.args.list) c.requires.found (c.requires.plain off)

pub add-requires-clause-ones : goal.add-requires-clause-ones
add-requires-clause-ones g c =
    let was = list_is c.args.value.now (g.S.Frozen.records c.args.store.now) c.args.root c.requires.index c.args.key c.args.list c.requires.found in
    λ wanted. (
      subst {A = Docs} AreOnes (sym was) (c.requires.ones wanted),
      subst (λ (w : ℤ). w ≡ pos 1) (sym (to_z-of_z w32 c.args.weight c.ranges.weight)) (c.requires.one wanted),
    )

pub add-requires-clause-owns : goal.add-requires-clause-owns
add-requires-clause-owns g c =
    list_owned c.args.value.now (g.S.Frozen.records c.args.store.now) c.args.root c.requires.index c.args.key c.args.list c.requires.found
    (g.S.Store.ledger c.args.store.now) c.requires.owns

pub returns-in_err-next-clause-makes : goal.returns-in_err-next-clause-makes
returns-in_err-next-clause-makes g c = let p = err_from_is_err_and c.from_residual.result c.from_residual.ensures.1 in rw p.1 tt

pub returns-in_err-next-clause-refuses : goal.returns-in_err-next-clause-refuses
returns-in_err-next-clause-refuses g c =
    let ledger = g.S.Store.ledger in
    let value = c.args.value.now in
    let root = c.args.root in
    let m = g.S.Frozen.records c.args.store.now in
    let list = c.args.list in
    let a = ledger c.args.store.now in
    let count : ℕ = length (insert_entry nat_cmp (list_of value (index_of (type_of value) m root)) c.args.doc c.args.weight) in
    let was = list_is value m root c.requires.index c.args.key list c.requires.found in
    let size : length (insert_entry nat_cmp (list_at m list) c.args.doc (to_z w32 (of_z w32 c.args.weight))) ≡ count =
    ap (λ (w : ℤ). length (insert_entry nat_cmp (list_at m list) c.args.doc w)) (to_z-of_z w32 c.args.weight c.ranges.weight)
    ∙ ap (λ (ds : Docs). length (insert_entry nat_cmp ds c.args.doc c.args.weight)) was in
    let p = err_from_is_err_and c.from_residual.result c.from_residual.ensures.1 in
    let made : ℕ = length (insert_entry nat_cmp (list_at m list) c.args.doc (to_z w32 (of_z w32 c.args.weight))) in
    let plain = λ (off : c.args.dense ≡ false). plain_found value m root (c.args.key, list) c.requires.found (c.requires.plain off) in
    let vector = is_vector list || is_dense c.args.dense made c.args.documents in
    rw (p.1, p.2) (of_more (IsListChangeWidth vector made) (IsChangeWidth c.args.dense value count) a a (ledger c.add.new.store) _ (may_do-same a)
    (λ w is. list_change c.args.dense vector value count w (form_wanted c.args.dense list made c.args.documents plain) (subst (λ k. IsListChangeWidth vector k w) size is)) c.in_err-next.ensures.refuses)

pub returns-in_err-next-clause-may : goal.returns-in_err-next-clause-may
returns-in_err-next-clause-may g c = c.add.ensures.may

pub set_pair-requires : goal.set_pair-requires
set_pair-requires g c =
    let ledger = g.S.Store.ledger in
    let records = g.S.Frozen.records in
    let value = c.args.value.now in
    let root = c.args.root in
    let key = c.args.key in
    let next = c.in_ok-next.next in
    let a = ledger c.args.store.now in
    let b = ledger c.add.new.store in
    let m = records c.args.store.now in
    let n = records c.add.new.store in
    let docs = insert_entry nat_cmp (list_at m c.args.list) c.args.doc (to_z w32 (of_z w32 c.args.weight)) in
    let makes = c.in_ok-next.ensures.makes in
    let is = open_next value m root c.requires.index key c.args.list c.requires.found a b n next
    docs (is_dense c.args.dense (length docs) c.args.documents) c.requires.owns makes (made_long c.args.dense (length docs) c.args.documents next makes.form) in (
      omega arith,
      (
        omega arith,
        (
          c.add.ensures.may.unit ∙ c.requires.unit,
          (
            open_dictionary value a b m n root key next c.requires.index is,
            (is.record_is, (is.reads, open_owns value a b m n root key next c.requires.index is)),
          ),
        ),
      ),
    )

pub returns-clause-makes : goal.returns-clause-makes
returns-clause-makes g c =
    let ledger = g.S.Store.ledger in
    let records = g.S.Frozen.records in
    let value = c.args.value.now in
    let root = c.args.root in
    let key = c.args.key in
    let list = c.args.list in
    let next = c.in_ok-next.next in
    let a = ledger c.args.store.now in
    let b = ledger c.add.new.store in
    let m = records c.args.store.now in
    let n = records c.add.new.store in
    let docs = insert_entry nat_cmp (list_at m list) c.args.doc c.args.weight in
    let makes = subst (λ (w : ℤ). MakesByRule c.args.dense c.args.documents a b m n list (insert_entry nat_cmp (list_at m list) c.args.doc w) next)
    (to_z-of_z w32 c.args.weight c.ranges.weight) c.in_ok-next.ensures.makes in
    let form = is_dense c.args.dense (length docs) c.args.documents in
    let is = open_next value m root c.requires.index key list c.requires.found a b n next docs form c.requires.owns makes (made_long c.args.dense (length docs) c.args.documents next makes.form) in
    let was = list_is value m root c.requires.index key list c.requires.found in
    let taken = flows_found value a b m n root key list next docs form c.requires.found c.add.ensures.may makes in
    set_index value a b (ledger c.set_pair.new.store) m n (records c.set_pair.new.store) root key next c.requires.index is taken c.set_pair.ensures.may
    (insert_entry nat_cmp (list_of value (index_of (type_of value) m root)) c.args.doc c.args.weight)
    (makes.docs_are ∙ ap (λ (ds : Docs). insert_entry nat_cmp ds c.args.doc c.args.weight) was)
    (λ (added : Added g.row.OFFSET_BITS). added.root) c.set_pair.result c.word.result c.word.ensures (inserted_some (list_of value (index_of (type_of value) m root)) c.args.doc c.args.weight)
    c.set_pair.ensures.makes

pub returns-in_err-next-clause-plain : goal.returns-in_err-next-clause-plain
returns-in_err-next-clause-plain g c = let p = err_from_is_err_and c.from_residual.result c.from_residual.ensures.1 in rw p.1 tt

pub returns-clause-plain : goal.returns-clause-plain
returns-clause-plain g c =
    let ledger = g.S.Store.ledger in
    let records = g.S.Frozen.records in
    let value = c.args.value.now in
    let root = c.args.root in
    let key = c.args.key in
    let list = c.args.list in
    let next = c.in_ok-next.next in
    let a = ledger c.args.store.now in
    let b = ledger c.add.new.store in
    let m = records c.args.store.now in
    let n = records c.add.new.store in
    let docs = insert_entry nat_cmp (list_at m list) c.args.doc c.args.weight in
    let makes = subst (λ (w : ℤ). MakesByRule c.args.dense c.args.documents a b m n list (insert_entry nat_cmp (list_at m list) c.args.doc w) next)
    (to_z-of_z w32 c.args.weight c.ranges.weight) c.in_ok-next.ensures.makes in
    let form = is_dense c.args.dense (length docs) c.args.documents in
    let is = open_next value m root c.requires.index key list c.requires.found a b n next docs form c.requires.owns makes (made_long c.args.dense (length docs) c.args.documents next makes.form) in
    let was = list_is value m root c.requires.index key list c.requires.found in
    let taken = flows_found value a b m n root key list next docs form c.requires.found c.add.ensures.may makes in
    set_plain value a b (ledger c.set_pair.new.store) m n (records c.set_pair.new.store) root key next c.requires.index is taken c.set_pair.ensures.may
    (insert_entry nat_cmp (list_of value (index_of (type_of value) m root)) c.args.doc c.args.weight)
    (makes.docs_are ∙ ap (λ (ds : Docs). insert_entry nat_cmp ds c.args.doc c.args.weight) was) c.args.dense
    (λ (added : Added g.row.OFFSET_BITS). added.root) c.set_pair.result c.word.result c.word.ensures (inserted_some (list_of value (index_of (type_of value) m root)) c.args.doc c.args.weight)
    (made_plain c.args.dense (length docs) c.args.documents next makes.form) c.requires.plain c.set_pair.ensures.makes

pub returns-clause-refuses : goal.returns-clause-refuses
returns-clause-refuses g c =
    let ledger = g.S.Store.ledger in
    let value = c.args.value.now in
    let root = c.args.root in
    let m = g.S.Frozen.records c.args.store.now in
    let count : ℕ = length (insert_entry nat_cmp (list_of value (index_of (type_of value) m root)) c.args.doc c.args.weight) in
    if_one (IsChangeWidth c.args.dense value count) (ledger c.args.store.now) (ledger c.add.new.store) (ledger c.set_pair.new.store) 34 c.set_pair.result c.add.ensures.may refl
    (node_change c.args.dense value count) c.set_pair.ensures.refuses

pub returns-clause-may : goal.returns-clause-may
returns-clause-may g c =
    let ledger = g.S.Store.ledger in
    may_do-then (ledger c.args.store.now) (ledger c.add.new.store) (ledger c.set_pair.new.store) c.add.ensures.may c.set_pair.ensures.may

pub returns-in_err-next-clause-counts : goal.returns-in_err-next-clause-counts
returns-in_err-next-clause-counts g c =
    let ledger = g.S.Store.ledger in
    let value = c.args.value.now in
    let root = c.args.root in
    let list = c.args.list in
    let m = g.S.Frozen.records c.args.store.now in
    let a = ledger c.args.store.now in
    let b = ledger c.add.new.store in
    let had = list_of value (index_of (type_of value) m root) in
    let docs = insert_entry nat_cmp had c.args.doc c.args.weight in
    let was = list_is value m root c.requires.index c.args.key list c.requires.found in
    let most = word_most m c.args.dense c.args.documents list in
    let made = subst {A = Docs} (λ ds. MakesWithin a b (most (insert_entry nat_cmp ds c.args.doc c.args.weight))) was
    (subst (λ (w : ℤ). MakesWithin a b (most (insert_entry nat_cmp (list_at m list) c.args.doc w))) (to_z-of_z w32 c.args.weight c.ranges.weight) c.add.ensures.counts) in
    within_more a b (most docs) (add_most value m root c.args.dense c.args.documents docs)
    (λ w. let e = add_found value m root c.args.dense c.args.documents docs c.args.key list w c.requires.found in omega arith) made

pub returns-clause-counts : goal.returns-clause-counts
returns-clause-counts g c =
    let ledger = g.S.Store.ledger in
    let records = g.S.Frozen.records in
    let value = c.args.value.now in
    let root = c.args.root in
    let list = c.args.list in
    let next = c.in_ok-next.next in
    let a = ledger c.args.store.now in
    let b = ledger c.add.new.store in
    let d = ledger c.set_pair.new.store in
    let m = records c.args.store.now in
    let n = records c.add.new.store in
    let was = list_is value m root c.requires.index c.args.key list c.requires.found in
    let had = list_of value (index_of (type_of value) m root) in
    let docs = insert_entry nat_cmp had c.args.doc c.args.weight in
    let most = word_most m c.args.dense c.args.documents list in
    let made = subst {A = Docs} (λ ds. MakesWithin a b (most (insert_entry nat_cmp ds c.args.doc c.args.weight))) was
    (subst (λ (w : ℤ). MakesWithin a b (most (insert_entry nat_cmp (list_at m list) c.args.doc w))) (to_z-of_z w32 c.args.weight c.ranges.weight) c.add.ensures.counts) in
    let given = insert_entry nat_cmp (list_at m list) c.args.doc (to_z w32 (of_z w32 c.args.weight)) in
    let makes = c.in_ok-next.ensures.makes in
    let is = open_next value m root c.requires.index c.args.key list c.requires.found a b n next
    given (is_dense c.args.dense (length given) c.args.documents) c.requires.owns makes (made_long c.args.dense (length given) c.args.documents next makes.form) in
    let nodes = within_tree b d m n root (2 * levels n root + 1) is.nodes (omega arith) c.set_pair.ensures.counts in
    within_more a d (λ w. most docs w + nodes_most (levels m root) w) (add_most value m root c.args.dense c.args.documents docs)
    (λ w. add_found value m root c.args.dense c.args.documents docs c.args.key list w c.requires.found)
    (within_then a b d (most docs) (nodes_most (levels m root)) c.add.ensures.may made nodes)

pub returns-in_err-next-clause-key : goal.returns-in_err-next-clause-key
returns-in_err-next-clause-key g c = let p = err_from_is_err_and c.from_residual.result c.from_residual.ensures.1 in rw p.1 tt

pub returns-clause-key : goal.returns-clause-key
returns-clause-key g c = c.set_pair.ensures.key
