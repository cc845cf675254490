use Rattle.std.proofs.Common.{◌≡◌, ◌+◌, ◌*◌, refl, ◌∙◌, arith, ◌∷◌, []}
use Rattle.std.proofs.lemmas.Result.{err_from_is_err_and}
use Rattle.std.specs.Prelude.{length}
use Rattle.array_store.proofs.ClassLemmas.{class_width}
use Rattle.image_format.specs.Values.{value_words}
use Rattle.image_format.specs.Words.{class_of}
use Rattle.entry_ref.specs.References.{buffer_of}
use Rattle.store_api.specs.Calls.{IsUsedWidth}
use Rattle.store_api.specs.Parts.{entry}
use Rattle.store_api.proofs.May.{may_do-same, may_do-then}
use Rattle.frozen_btree.specs.Changes.{levels}
use Rattle.posting_store.proofs.RefusalLemmas.{if_one, of_one}
use Rattle.value_index.specs.Changes.{nodes_most, record_most}
use Rattle.value_index.proofs.CountLemmas.{within_more, within_none, within_record, within_then, within_tree}
use Rattle.value_index.proofs.KeyLemmas.{reads_found}
use Rattle.tree_read.specs.Trees.{tree_pairs}
use Rattle.compaction_moves.specs.IndexMoves.{key_most}
use Rattle.compaction_moves.proofs.IndexKeyLemmas.{found_apart, key_moved, key_ready, key_unmoved}
use Rattle.compaction_moves.proofs.IndexSetLemmas.{ready_dictionary, ready_owns}
use Rattle.compaction_moves.proofs.IndexUsedLemmas.{dictionary_used, key_used}
use Rattle.compaction_moves.proofs.index_keys.move_found.Goals as goal

pub buffer-requires : goal.buffer-requires
buffer-requires g c = omega arith

pub returns-then-buffer-clause-moves : goal.returns-then-buffer-clause-moves
returns-then-buffer-clause-moves g c =
    let a = g.S.Store.ledger c.args.store.now in
    let m = g.S.Frozen.records c.args.store.now in
    let bits = g.row.OFFSET_BITS in
    let value = c.args.value.now in
    let apart : buffer_of bits c.args.key ≡ c.args.buffer → ⊥ = (λ e. let is = c.buffer.ensures.value in let other = c.if-buffer.true in absurd (omega arith)) in
    key_unmoved bits c.args.buffer value a m c.args.root c.requires.index c.requires.owns
    (found_apart bits c.args.buffer value m c.args.root c.args.key c.args.list c.requires.found apart)

pub returns-then-buffer-clause-counts : goal.returns-then-buffer-clause-counts
returns-then-buffer-clause-counts g c =
    within_none (g.S.Store.ledger c.args.store.now) (key_most c.args.value.now (g.S.Frozen.records c.args.store.now) c.args.root)

pub returns-then-buffer-clause-may : goal.returns-then-buffer-clause-may
returns-then-buffer-clause-may g c = may_do-same (g.S.Store.ledger c.args.store.now)

pub add-requires : goal.add-requires
add-requires g c = (omega arith, c.requires.unit)

pub returns-in_err-copy-clause-moves : goal.returns-in_err-copy-clause-moves
returns-in_err-copy-clause-moves g c = let p = err_from_is_err_and c.from_residual.result c.from_residual.ensures.1 in rw p.1 tt

pub returns-in_err-copy-clause-refuses : goal.returns-in_err-copy-clause-refuses
returns-in_err-copy-clause-refuses g c =
    let ledger = g.S.Store.ledger in
    let a = ledger c.args.store.now in
    let m = g.S.Frozen.records c.args.store.now in
    let used = key_used c.args.value.now a m c.args.root c.args.key c.args.list c.requires.index c.requires.owns c.requires.found in
    let p = err_from_is_err_and c.from_residual.result c.from_residual.ensures.1 in
    rw (p.1, p.2) (of_one (IsUsedWidth a m) a a (ledger c.add.new.store) _ _ (may_do-same a) (class_width (length (value_words c.args.value.now))) used c.in_err-copy.ensures.refuses)

pub returns-in_err-copy-clause-may : goal.returns-in_err-copy-clause-may
returns-in_err-copy-clause-may g c = c.add.ensures.may

pub returns-in_err-copy-clause-counts : goal.returns-in_err-copy-clause-counts
returns-in_err-copy-clause-counts g c =
    let ledger = g.S.Store.ledger in
    let value = c.args.value.now in
    let m = g.S.Frozen.records c.args.store.now in
    let a = ledger c.args.store.now in
    let b = ledger c.add.new.store in
    within_more a b (record_most value) (key_most value m c.args.root) (λ w. omega arith)
    (within_record a b (class_of (length (value_words value))) c.add.ensures.counts)

pub set-requires : goal.set-requires
set-requires g c =
    let ledger = g.S.Store.ledger in
    let records = g.S.Frozen.records in
    let value = c.args.value.now in
    let root = c.args.root in
    let a = ledger c.args.store.now in
    let b = ledger c.add.new.store in
    let m = records c.args.store.now in
    let n = records c.add.new.store in
    let key = c.args.key in
    let word = c.args.list in
    let copy = c.in_ok-copy.copy in
    let ready = key_ready g.row.OFFSET_BITS c.args.buffer value a b m n root key word copy c.requires.index c.requires.owns c.requires.found
    c.in_ok-copy.ensures.adds c.in_ok-copy.ensures.record c.in_ok-copy.ensures.value in
    let was = reads_found value m (key, word) (tree_pairs m root) c.requires.found in (
      omega arith,
      (
        c.add.ensures.may.unit ∙ c.requires.unit,
        (
          ready_dictionary value b m n root key word copy word (entry key ∷ []) c.requires.index c.requires.found was ready,
          (ready.record_is, (ready.reads, ready_owns value b m n root key word copy word (entry key ∷ []) c.requires.index c.requires.found was ready)),
        ),
      ),
    )

pub returns-clause-moves : goal.returns-clause-moves
returns-clause-moves g c =
    let ledger = g.S.Store.ledger in
    let records = g.S.Frozen.records in
    let value = c.args.value.now in
    let root = c.args.root in
    let a = ledger c.args.store.now in
    let b = ledger c.add.new.store in
    let m = records c.args.store.now in
    let n = records c.add.new.store in
    let key = c.args.key in
    let word = c.args.list in
    let copy = c.in_ok-copy.copy in
    let lies : buffer_of g.row.OFFSET_BITS key ≡ c.args.buffer = (let is = c.buffer.ensures.value in let same = c.if-buffer.false in omega arith) in
    key_moved g.row.OFFSET_BITS c.args.buffer value a b m n root key word copy c.requires.index c.requires.owns c.requires.found
    c.in_ok-copy.ensures.adds c.in_ok-copy.ensures.record c.in_ok-copy.ensures.value c.add.ensures.may c.requires.sealed lies
    (ledger c.set.new.store) (records c.set.new.store) c.set.result c.set.ensures.makes

pub returns-clause-refuses : goal.returns-clause-refuses
returns-clause-refuses g c =
    let ledger = g.S.Store.ledger in
    let a = ledger c.args.store.now in
    let m = g.S.Frozen.records c.args.store.now in
    let used = dictionary_used c.args.value.now a m c.args.root c.args.key c.args.list c.requires.index c.requires.owns c.requires.found in
    if_one (IsUsedWidth a m) a (ledger c.add.new.store) (ledger c.set.new.store) 34 c.set.result c.add.ensures.may refl used c.set.ensures.refuses

pub returns-clause-may : goal.returns-clause-may
returns-clause-may g c =
    let ledger = g.S.Store.ledger in
    may_do-then (ledger c.args.store.now) (ledger c.add.new.store) (ledger c.set.new.store) c.add.ensures.may c.set.ensures.may

pub returns-clause-counts : goal.returns-clause-counts
returns-clause-counts g c =
    let ledger = g.S.Store.ledger in
    let records = g.S.Frozen.records in
    let value = c.args.value.now in
    let root = c.args.root in
    let a = ledger c.args.store.now in
    let b = ledger c.add.new.store in
    let d = ledger c.set.new.store in
    let m = records c.args.store.now in
    let n = records c.add.new.store in
    let ready = key_ready g.row.OFFSET_BITS c.args.buffer value a b m n root c.args.key c.args.list c.in_ok-copy.copy c.requires.index c.requires.owns c.requires.found
    c.in_ok-copy.ensures.adds c.in_ok-copy.ensures.record c.in_ok-copy.ensures.value in
    let nodes = within_tree b d m n root (2 * levels n root + 1) ready.nodes (omega arith) c.set.ensures.counts in
    within_then a b d (record_most value) (nodes_most (levels m root)) c.add.ensures.may
    (within_record a b (class_of (length (value_words value))) c.add.ensures.counts) nodes
