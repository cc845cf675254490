use Rattle.std.proofs.Common.{subst, ◌≡◌, ◌<◌, refl, sym, ap, ◌∙◌, arith, ◌+◌, ◌*◌, ◌||◌, ℕ, false, length}
use Rattle.std.proofs.lemmas.Result.{err_from_is_err_and}
use Rattle.std.specs.BTreeMap.{is_at}
use Rattle.std.specs.Map.{remove_entry}
use Rattle.std.specs.Ordering.{nat_cmp}
use Rattle.image_format.specs.Postings.{index_of}
use Rattle.index_model.specs.Index.{list_of}
use Rattle.attr_types.specs.Value.{type_of}
use Rattle.frozen_btree.specs.Changes.{levels}
use Rattle.image_format.specs.Postings.{is_dense}
use Rattle.posting_store.specs.Changes.{IsListChangeWidth}
use Rattle.posting_store.specs.Lists.{list_at, is_vector, AreOnes}
use Rattle.posting_store.proofs.RefusalLemmas.{if_one, of_more, of_one}
use Rattle.store_api.proofs.May.{may_do-same, may_do-then}
use Rattle.store_api.specs.Units.{MakesWithin}
use Rattle.value_index.proofs.ChangeLemmas.{drop_owns, open_dictionary, open_owns, open_there}
use Rattle.value_index.specs.Changes.{change_most, nodes_most, IsChangeWidth}
use Rattle.value_index.proofs.CountLemmas.{change_found, within_dropped, within_more, within_then, within_tree, word_most}
use Rattle.value_index.proofs.FormLemmas.{form_wanted, made_long, made_plain, plain_found}
use Rattle.value_index.proofs.KeyLemmas.{pair_found}
use Rattle.value_index.proofs.OpenFlows.{flows_found}
use Rattle.value_index.proofs.ShownLemmas.{Docs}
use Rattle.value_index.proofs.StepLemmas.{filled_list, list_change, list_is, list_owned, list_there, node_change, open_next, out_index, out_plain, set_index, set_plain}
use Rattle.value_index.proofs.removing.remove_from.Goals as goal

pub remove-requires-clause-unit : goal.remove-requires-clause-unit
remove-requires-clause-unit g c = c.requires.unit

pub remove-requires-clause-list : goal.remove-requires-clause-list
remove-requires-clause-list g c =
    (pair_found c.args.value.now (g.S.Frozen.records c.args.store.now) c.args.root c.requires.index (c.args.key, c.args.list) c.requires.found).list_is

pub remove-requires-clause-plain : goal.remove-requires-clause-plain
remove-requires-clause-plain g c =
    λ off. plain_found c.args.value.now (g.S.Frozen.records c.args.store.now) c.args.root (c.args.key, c.args.list) c.requires.found (c.requires.plain off)

pub remove-requires-clause-ones : goal.remove-requires-clause-ones
remove-requires-clause-ones g c =
    let was = list_is c.args.value.now (g.S.Frozen.records c.args.store.now) c.args.root c.requires.index c.args.key c.args.list c.requires.found in
    λ wanted. subst {A = Docs} AreOnes (sym was) (c.requires.ones wanted)

pub remove-requires-clause-there : goal.remove-requires-clause-there
remove-requires-clause-there g c =
    list_there c.args.value.now (g.S.Frozen.records c.args.store.now) c.args.root c.requires.index c.args.key c.args.list c.requires.found
    c.args.doc c.requires.there

pub remove-requires-clause-owns : goal.remove-requires-clause-owns
remove-requires-clause-owns g c =
    list_owned c.args.value.now (g.S.Frozen.records c.args.store.now) c.args.root c.requires.index c.args.key c.args.list c.requires.found
    (g.S.Store.ledger c.args.store.now) c.requires.owns

pub returns-in_err-next-clause-makes : goal.returns-in_err-next-clause-makes
returns-in_err-next-clause-makes g c = let p = err_from_is_err_and c.from_residual.result c.from_residual.ensures.1 in rw p.1 tt

pub returns-in_err-next-clause-refuses : goal.returns-in_err-next-clause-refuses
returns-in_err-next-clause-refuses g c =
    let ledger = g.S.Store.ledger in
    let value = c.args.value.now in
    let root = c.args.root in
    let m = g.S.Frozen.records c.args.store.now in
    let list = c.args.list in
    let a = ledger c.args.store.now in
    let count : ℕ = length (remove_entry (is_at (nat_cmp c.args.doc)) (list_of value (index_of (type_of value) m root))) in
    let was = list_is value m root c.requires.index c.args.key list c.requires.found in
    let size : length (remove_entry (is_at (nat_cmp c.args.doc)) (list_at m list)) ≡ count =
    ap (λ (ds : Docs). length (remove_entry (is_at (nat_cmp c.args.doc)) ds)) was in
    let p = err_from_is_err_and c.from_residual.result c.from_residual.ensures.1 in
    let made : ℕ = length (remove_entry (is_at (nat_cmp c.args.doc)) (list_at m list)) in
    let plain = λ (off : c.args.dense ≡ false). plain_found value m root (c.args.key, list) c.requires.found (c.requires.plain off) in
    let vector = is_vector list || is_dense c.args.dense made c.args.documents in
    rw (p.1, p.2) (of_more (IsListChangeWidth vector made) (IsChangeWidth c.args.dense value count) a a (ledger c.remove.new.store) _ (may_do-same a)
    (λ w is. list_change c.args.dense vector value count w (form_wanted c.args.dense list made c.args.documents plain) (subst (λ k. IsListChangeWidth vector k w) size is)) c.in_err-next.ensures.refuses)

pub returns-in_err-next-clause-may : goal.returns-in_err-next-clause-may
returns-in_err-next-clause-may g c = c.remove.ensures.may

pub set-requires : goal.set-requires
set-requires g c =
    let ledger = g.S.Store.ledger in
    let records = g.S.Frozen.records in
    let value = c.args.value.now in
    let root = c.args.root in
    let key = c.args.key in
    let next = c.in_ok-next.next in
    let a = ledger c.args.store.now in
    let b = ledger c.remove.new.store in
    let m = records c.args.store.now in
    let n = records c.remove.new.store in
    let docs = remove_entry (is_at (nat_cmp c.args.doc)) (list_at m c.args.list) in
    let makes = c.in_ok-next.ensures.makes in
    let is = open_next value m root c.requires.index key c.args.list c.requires.found a b n next docs (is_dense c.args.dense (length docs) c.args.documents) c.requires.owns makes
    (made_long c.args.dense (length docs) c.args.documents next makes.form) in (
      omega arith,
      (
        c.remove.ensures.may.unit ∙ c.requires.unit,
        (
          open_dictionary value a b m n root key next c.requires.index is,
          (is.record_is, (is.reads, open_owns value a b m n root key next c.requires.index is)),
        ),
      ),
    )

pub returns-then-word-ne0-clause-makes : goal.returns-then-word-ne0-clause-makes
returns-then-word-ne0-clause-makes g c =
    let ledger = g.S.Store.ledger in
    let records = g.S.Frozen.records in
    let value = c.args.value.now in
    let root = c.args.root in
    let key = c.args.key in
    let list = c.args.list in
    let next = c.in_ok-next.next in
    let a = ledger c.args.store.now in
    let b = ledger c.remove.new.store in
    let m = records c.args.store.now in
    let n = records c.remove.new.store in
    let makes = c.in_ok-next.ensures.makes in
    let left = remove_entry (is_at (nat_cmp c.args.doc)) (list_at m list) in
    let form = is_dense c.args.dense (length left) c.args.documents in
    let is = open_next value m root c.requires.index key list c.requires.found a b n next left form c.requires.owns makes (made_long c.args.dense (length left) c.args.documents next makes.form) in
    let was = list_is value m root c.requires.index key list c.requires.found in
    let docs = remove_entry (is_at (nat_cmp c.args.doc)) (list_of value (index_of (type_of value) m root)) in
    let reads = makes.docs_are ∙ ap (λ (ds : Docs). remove_entry (is_at (nat_cmp c.args.doc)) ds) was in
    let some : 0 < next = let w = c.word.ensures in let more = c.if-word-ne0.true in omega arith in
    let taken = flows_found value a b m n root key list next left form c.requires.found c.remove.ensures.may makes in
    set_index value a b (ledger c.set.new.store) m n (records c.set.new.store) root key next c.requires.index is taken c.set.ensures.may docs reads
    (λ (next : ℕ). next) c.set.result c.word-then-word-ne0.result c.word-then-word-ne0.ensures (filled_list n next docs is.list_is reads some) c.set.ensures.makes

pub returns-in_err-next-clause-plain : goal.returns-in_err-next-clause-plain
returns-in_err-next-clause-plain g c = let p = err_from_is_err_and c.from_residual.result c.from_residual.ensures.1 in rw p.1 tt

pub returns-then-word-ne0-clause-plain : goal.returns-then-word-ne0-clause-plain
returns-then-word-ne0-clause-plain g c =
    let ledger = g.S.Store.ledger in
    let records = g.S.Frozen.records in
    let value = c.args.value.now in
    let root = c.args.root in
    let key = c.args.key in
    let list = c.args.list in
    let next = c.in_ok-next.next in
    let a = ledger c.args.store.now in
    let b = ledger c.remove.new.store in
    let m = records c.args.store.now in
    let n = records c.remove.new.store in
    let makes = c.in_ok-next.ensures.makes in
    let left = remove_entry (is_at (nat_cmp c.args.doc)) (list_at m list) in
    let form = is_dense c.args.dense (length left) c.args.documents in
    let is = open_next value m root c.requires.index key list c.requires.found a b n next left form c.requires.owns makes (made_long c.args.dense (length left) c.args.documents next makes.form) in
    let was = list_is value m root c.requires.index key list c.requires.found in
    let docs = remove_entry (is_at (nat_cmp c.args.doc)) (list_of value (index_of (type_of value) m root)) in
    let reads = makes.docs_are ∙ ap (λ (ds : Docs). remove_entry (is_at (nat_cmp c.args.doc)) ds) was in
    let some : 0 < next = let w = c.word.ensures in let more = c.if-word-ne0.true in omega arith in
    let taken = flows_found value a b m n root key list next left form c.requires.found c.remove.ensures.may makes in
    set_plain value a b (ledger c.set.new.store) m n (records c.set.new.store) root key next c.requires.index is taken c.set.ensures.may docs reads c.args.dense
    (λ (next : ℕ). next) c.set.result c.word-then-word-ne0.result c.word-then-word-ne0.ensures (filled_list n next docs is.list_is reads some)
    (made_plain c.args.dense (length left) c.args.documents next makes.form) c.requires.plain c.set.ensures.makes

pub returns-in_err-left-clause-plain : goal.returns-in_err-left-clause-plain
returns-in_err-left-clause-plain g c =
    let p = err_from_is_err_and c.from_residual-in_err-left.result c.from_residual-in_err-left.ensures.1 in rw p.1 tt

pub returns-then-word-ne0-clause-refuses : goal.returns-then-word-ne0-clause-refuses
returns-then-word-ne0-clause-refuses g c =
    let ledger = g.S.Store.ledger in
    let value = c.args.value.now in
    let root = c.args.root in
    let m = g.S.Frozen.records c.args.store.now in
    let count : ℕ = length (remove_entry (is_at (nat_cmp c.args.doc)) (list_of value (index_of (type_of value) m root))) in
    if_one (IsChangeWidth c.args.dense value count) (ledger c.args.store.now) (ledger c.remove.new.store) (ledger c.set.new.store) 34 c.set.result c.remove.ensures.may refl
    (node_change c.args.dense value count) c.set.ensures.refuses

pub returns-then-word-ne0-clause-may : goal.returns-then-word-ne0-clause-may
returns-then-word-ne0-clause-may g c =
    let ledger = g.S.Store.ledger in
    may_do-then (ledger c.args.store.now) (ledger c.remove.new.store) (ledger c.set.new.store) c.remove.ensures.may c.set.ensures.may

pub remove-requires-2 : goal.remove-requires-2
remove-requires-2 g c =
    let ledger = g.S.Store.ledger in
    let records = g.S.Frozen.records in
    let value = c.args.value.now in
    let root = c.args.root in
    let key = c.args.key in
    let next = c.in_ok-next.next in
    let a = ledger c.args.store.now in
    let b = ledger c.remove.new.store in
    let m = records c.args.store.now in
    let n = records c.remove.new.store in
    let docs = remove_entry (is_at (nat_cmp c.args.doc)) (list_at m c.args.list) in
    let makes = c.in_ok-next.ensures.makes in
    let is = open_next value m root c.requires.index key c.args.list c.requires.found a b n next docs (is_dense c.args.dense (length docs) c.args.documents) c.requires.owns makes
    (made_long c.args.dense (length docs) c.args.documents next makes.form) in (
      omega arith,
      (
        c.remove.ensures.may.unit ∙ c.requires.unit,
        (
          open_dictionary value a b m n root key next c.requires.index is,
          (
            open_there value a b m n root key next c.requires.index is c.args.list c.requires.found,
            open_owns value a b m n root key next c.requires.index is,
          ),
        ),
      ),
    )

pub returns-in_err-left-clause-makes : goal.returns-in_err-left-clause-makes
returns-in_err-left-clause-makes g c =
    let p = err_from_is_err_and c.from_residual-in_err-left.result c.from_residual-in_err-left.ensures.1 in rw p.1 tt

pub returns-in_err-left-clause-refuses : goal.returns-in_err-left-clause-refuses
returns-in_err-left-clause-refuses g c =
    let ledger = g.S.Store.ledger in
    let value = c.args.value.now in
    let root = c.args.root in
    let m = g.S.Frozen.records c.args.store.now in
    let count : ℕ = length (remove_entry (is_at (nat_cmp c.args.doc)) (list_of value (index_of (type_of value) m root))) in
    let p = err_from_is_err_and c.from_residual-in_err-left.result c.from_residual-in_err-left.ensures.1 in
    rw (p.1, p.2) (of_one (IsChangeWidth c.args.dense value count) (ledger c.args.store.now) (ledger c.remove.new.store) (ledger c.remove-2.new.store) 34 _ c.remove.ensures.may refl
    (node_change c.args.dense value count) c.in_err-left.ensures.refuses)

pub returns-in_err-left-clause-may : goal.returns-in_err-left-clause-may
returns-in_err-left-clause-may g c =
    let ledger = g.S.Store.ledger in
    may_do-then (ledger c.args.store.now) (ledger c.remove.new.store) (ledger c.remove-2.new.store) c.remove.ensures.may c.remove-2.ensures.may

pub drop_one-requires : goal.drop_one-requires
drop_one-requires g c =
    let ledger = g.S.Store.ledger in
    let records = g.S.Frozen.records in
    let value = c.args.value.now in
    let root = c.args.root in
    let key = c.args.key in
    let next = c.in_ok-next.next in
    let a = ledger c.args.store.now in
    let b = ledger c.remove.new.store in
    let m = records c.args.store.now in
    let n = records c.remove.new.store in
    let docs = remove_entry (is_at (nat_cmp c.args.doc)) (list_at m c.args.list) in
    let makes = c.in_ok-next.ensures.makes in
    let is = open_next value m root c.requires.index key c.args.list c.requires.found a b n next docs (is_dense c.args.dense (length docs) c.args.documents) c.requires.owns makes
    (made_long c.args.dense (length docs) c.args.documents next makes.form) in
    let empty : next ≡ 0 = let w = c.word.ensures in let none = c.if-word-ne0.false in omega arith in (
      omega arith,
      (
        c.remove-2.ensures.may.unit ∙ c.remove.ensures.may.unit ∙ c.requires.unit,
        drop_owns value a b m n root key next c.requires.index is (ledger c.remove-2.new.store) (records c.remove-2.new.store) c.in_ok-left.left _
            c.in_ok-left.ensures.makes empty refl,
      ),
    )

pub returns-clause-makes : goal.returns-clause-makes
returns-clause-makes g c =
    let ledger = g.S.Store.ledger in
    let records = g.S.Frozen.records in
    let value = c.args.value.now in
    let root = c.args.root in
    let key = c.args.key in
    let list = c.args.list in
    let next = c.in_ok-next.next in
    let a = ledger c.args.store.now in
    let b = ledger c.remove.new.store in
    let m = records c.args.store.now in
    let n = records c.remove.new.store in
    let makes = c.in_ok-next.ensures.makes in
    let left = remove_entry (is_at (nat_cmp c.args.doc)) (list_at m list) in
    let form = is_dense c.args.dense (length left) c.args.documents in
    let is = open_next value m root c.requires.index key list c.requires.found a b n next left form c.requires.owns makes (made_long c.args.dense (length left) c.args.documents next makes.form) in
    let was = list_is value m root c.requires.index key list c.requires.found in
    let docs = remove_entry (is_at (nat_cmp c.args.doc)) (list_of value (index_of (type_of value) m root)) in
    let reads = makes.docs_are ∙ ap (λ (ds : Docs). remove_entry (is_at (nat_cmp c.args.doc)) ds) was in
    let empty : next ≡ 0 = let w = c.word.ensures in let none = c.if-word-ne0.false in omega arith in
    let taken = flows_found value a b m n root key list next left form c.requires.found c.remove.ensures.may makes in
    out_index value a b (ledger c.remove-2.new.store) m n (records c.remove-2.new.store) root key next c.requires.index is taken c.remove-2.ensures.may docs reads
    c.in_ok-left.left (ledger c.drop_one.new.store) (records c.drop_one.new.store) empty c.in_ok-left.ensures.makes c.drop_one.ensures.turns

pub returns-clause-plain : goal.returns-clause-plain
returns-clause-plain g c =
    let ledger = g.S.Store.ledger in
    let records = g.S.Frozen.records in
    let value = c.args.value.now in
    let root = c.args.root in
    let key = c.args.key in
    let list = c.args.list in
    let next = c.in_ok-next.next in
    let a = ledger c.args.store.now in
    let b = ledger c.remove.new.store in
    let m = records c.args.store.now in
    let n = records c.remove.new.store in
    let makes = c.in_ok-next.ensures.makes in
    let left = remove_entry (is_at (nat_cmp c.args.doc)) (list_at m list) in
    let form = is_dense c.args.dense (length left) c.args.documents in
    let is = open_next value m root c.requires.index key list c.requires.found a b n next left form c.requires.owns makes (made_long c.args.dense (length left) c.args.documents next makes.form) in
    let was = list_is value m root c.requires.index key list c.requires.found in
    let docs = remove_entry (is_at (nat_cmp c.args.doc)) (list_of value (index_of (type_of value) m root)) in
    let reads = makes.docs_are ∙ ap (λ (ds : Docs). remove_entry (is_at (nat_cmp c.args.doc)) ds) was in
    let empty : next ≡ 0 = let w = c.word.ensures in let none = c.if-word-ne0.false in omega arith in
    let taken = flows_found value a b m n root key list next left form c.requires.found c.remove.ensures.may makes in
    out_plain value a b (ledger c.remove-2.new.store) m n (records c.remove-2.new.store) root key next c.requires.index is taken c.remove-2.ensures.may docs reads c.args.dense
    c.in_ok-left.left (ledger c.drop_one.new.store) (records c.drop_one.new.store) empty c.requires.plain c.in_ok-left.ensures.makes c.drop_one.ensures.turns

pub returns-clause-may : goal.returns-clause-may
returns-clause-may g c =
    let ledger = g.S.Store.ledger in
    may_do-then (ledger c.args.store.now) (ledger c.remove-2.new.store) (ledger c.drop_one.new.store)
    (may_do-then (ledger c.args.store.now) (ledger c.remove.new.store) (ledger c.remove-2.new.store) c.remove.ensures.may c.remove-2.ensures.may) c.drop_one.ensures.may

pub returns-in_err-next-clause-counts : goal.returns-in_err-next-clause-counts
returns-in_err-next-clause-counts g c =
    let ledger = g.S.Store.ledger in
    let records = g.S.Frozen.records in
    let value = c.args.value.now in
    let root = c.args.root in
    let list = c.args.list in
    let a = ledger c.args.store.now in
    let b = ledger c.remove.new.store in
    let m = records c.args.store.now in
    let n = records c.remove.new.store in
    let was = list_is value m root c.requires.index c.args.key list c.requires.found in
    let docs = remove_entry (is_at (nat_cmp c.args.doc)) (list_of value (index_of (type_of value) m root)) in
    let most = word_most m c.args.dense c.args.documents list in
    let made = subst {A = Docs} (λ ds. MakesWithin a b (most (remove_entry (is_at (nat_cmp c.args.doc)) ds))) was c.remove.ensures.counts in
    within_more a b (most docs) (change_most value m root c.args.dense c.args.documents docs)
    (λ w. let e = change_found value m root c.args.dense c.args.documents docs c.args.key list w c.requires.found in omega arith) made

pub returns-then-word-ne0-clause-counts : goal.returns-then-word-ne0-clause-counts
returns-then-word-ne0-clause-counts g c =
    let ledger = g.S.Store.ledger in
    let records = g.S.Frozen.records in
    let value = c.args.value.now in
    let root = c.args.root in
    let list = c.args.list in
    let a = ledger c.args.store.now in
    let b = ledger c.remove.new.store in
    let m = records c.args.store.now in
    let n = records c.remove.new.store in
    let was = list_is value m root c.requires.index c.args.key list c.requires.found in
    let docs = remove_entry (is_at (nat_cmp c.args.doc)) (list_of value (index_of (type_of value) m root)) in
    let most = word_most m c.args.dense c.args.documents list in
    let made = subst {A = Docs} (λ ds. MakesWithin a b (most (remove_entry (is_at (nat_cmp c.args.doc)) ds))) was c.remove.ensures.counts in
    let next = c.in_ok-next.next in
    let left = remove_entry (is_at (nat_cmp c.args.doc)) (list_at m list) in
    let makes = c.in_ok-next.ensures.makes in
    let is = open_next value m root c.requires.index c.args.key list c.requires.found a b n next left (is_dense c.args.dense (length left) c.args.documents) c.requires.owns makes
    (made_long c.args.dense (length left) c.args.documents next makes.form) in
    let d = ledger c.set.new.store in
    let nodes = within_tree b d m n root (2 * levels n root + 1) is.nodes (omega arith) c.set.ensures.counts in
    within_more a d (λ w. most docs w + nodes_most (levels m root) w) (change_most value m root c.args.dense c.args.documents docs)
    (λ w. change_found value m root c.args.dense c.args.documents docs c.args.key list w c.requires.found)
    (within_then a b d (most docs) (nodes_most (levels m root)) c.remove.ensures.may made nodes)

pub returns-in_err-left-clause-counts : goal.returns-in_err-left-clause-counts
returns-in_err-left-clause-counts g c =
    let ledger = g.S.Store.ledger in
    let records = g.S.Frozen.records in
    let value = c.args.value.now in
    let root = c.args.root in
    let list = c.args.list in
    let a = ledger c.args.store.now in
    let b = ledger c.remove.new.store in
    let m = records c.args.store.now in
    let n = records c.remove.new.store in
    let was = list_is value m root c.requires.index c.args.key list c.requires.found in
    let docs = remove_entry (is_at (nat_cmp c.args.doc)) (list_of value (index_of (type_of value) m root)) in
    let most = word_most m c.args.dense c.args.documents list in
    let made = subst {A = Docs} (λ ds. MakesWithin a b (most (remove_entry (is_at (nat_cmp c.args.doc)) ds))) was c.remove.ensures.counts in
    let next = c.in_ok-next.next in
    let left = remove_entry (is_at (nat_cmp c.args.doc)) (list_at m list) in
    let makes = c.in_ok-next.ensures.makes in
    let is = open_next value m root c.requires.index c.args.key list c.requires.found a b n next left (is_dense c.args.dense (length left) c.args.documents) c.requires.owns makes
    (made_long c.args.dense (length left) c.args.documents next makes.form) in
    let d = ledger c.remove-2.new.store in
    let nodes = within_tree b d m n root (levels n root + 1) is.nodes (omega arith) c.remove-2.ensures.counts in
    within_more a d (λ w. most docs w + nodes_most (levels m root) w) (change_most value m root c.args.dense c.args.documents docs)
    (λ w. change_found value m root c.args.dense c.args.documents docs c.args.key list w c.requires.found)
    (within_then a b d (most docs) (nodes_most (levels m root)) c.remove.ensures.may made nodes)

pub returns-clause-counts : goal.returns-clause-counts
returns-clause-counts g c =
    let ledger = g.S.Store.ledger in
    let records = g.S.Frozen.records in
    let value = c.args.value.now in
    let root = c.args.root in
    let list = c.args.list in
    let a = ledger c.args.store.now in
    let b = ledger c.remove.new.store in
    let m = records c.args.store.now in
    let n = records c.remove.new.store in
    let was = list_is value m root c.requires.index c.args.key list c.requires.found in
    let docs = remove_entry (is_at (nat_cmp c.args.doc)) (list_of value (index_of (type_of value) m root)) in
    let most = word_most m c.args.dense c.args.documents list in
    let made = subst {A = Docs} (λ ds. MakesWithin a b (most (remove_entry (is_at (nat_cmp c.args.doc)) ds))) was c.remove.ensures.counts in
    let next = c.in_ok-next.next in
    let left = remove_entry (is_at (nat_cmp c.args.doc)) (list_at m list) in
    let makes = c.in_ok-next.ensures.makes in
    let is = open_next value m root c.requires.index c.args.key list c.requires.found a b n next left (is_dense c.args.dense (length left) c.args.documents) c.requires.owns makes
    (made_long c.args.dense (length left) c.args.documents next makes.form) in
    let d = ledger c.remove-2.new.store in
    let nodes = within_tree b d m n root (levels n root + 1) is.nodes (omega arith) c.remove-2.ensures.counts in
    let f = ledger c.drop_one.new.store in
    let may = may_do-then a b d c.remove.ensures.may c.remove-2.ensures.may in
    within_dropped a d f (change_most value m root c.args.dense c.args.documents docs) may
    (within_more a d (λ w. most docs w + nodes_most (levels m root) w) (change_most value m root c.args.dense c.args.documents docs)
    (λ w. change_found value m root c.args.dense c.args.documents docs c.args.key list w c.requires.found)
    (within_then a b d (most docs) (nodes_most (levels m root)) c.remove.ensures.may made nodes)) c.drop_one.ensures.none_made
