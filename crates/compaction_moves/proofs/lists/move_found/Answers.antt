use Rattle.std.proofs.Common.{◌+◌, ◌*◌, ◌<◌, ℕ, [], ◌∷◌, length, refl, sym, ap, subst, ◌∙◌, arith}
use Rattle.std.proofs.lemmas.Result.{err_from_is_err_and}
use Rattle.image_format.specs.Postings.{index_of}
use Rattle.index_model.specs.Index.{list_of}
use Rattle.attr_types.specs.Value.{type_of}
use Rattle.posting_store.specs.Changes.{list_part}
use Rattle.posting_store.specs.Lists.{is_vector, list_levels, IsList}
use Rattle.posting_store.specs.Moves.{word_most}
use Rattle.posting_store.proofs.RefusalLemmas.{if_one}
use Rattle.store_api.specs.Calls.{IsUsedWidth}
use Rattle.store_api.specs.Parts.{Owns}
use Rattle.store_api.proofs.May.{may_do-then}
use Rattle.tree_read.specs.Trees.{tree_pairs}
use Rattle.frozen_btree.specs.Changes.{levels}
use Rattle.value_index.specs.Changes.{nodes_most}
use Rattle.value_index.proofs.CountLemmas.{within_more, within_then, within_tree}
use Rattle.value_index.proofs.KeyLemmas.{pair_found, reads_found}
use Rattle.value_index.proofs.ShownLemmas.{Docs}
use Rattle.value_index.proofs.StepLemmas.{list_is, list_owned}
use Rattle.compaction_moves.specs.IndexMoves.{move_most}
use Rattle.compaction_moves.proofs.ListLemmas.{counts_as, dictionary_same, list_dictionary, list_ready, list_set, list_set_by, most_found, moves_as}
use Rattle.compaction_moves.proofs.IndexSetLemmas.{ready_owns}
use Rattle.compaction_moves.proofs.IndexUsedLemmas.{dictionary_used}
use Rattle.compaction_moves.proofs.lists.move_found.Goals as goal

pub move_posting-requires-clause-list : goal.move_posting-requires-clause-list
move_posting-requires-clause-list g c =
    subst (λ w. IsList (g.S.Frozen.records c.args.store.now) w) (sym c.from_word.ensures)
    (pair_found c.args.value.now (g.S.Frozen.records c.args.store.now) c.args.root c.requires.index (c.args.key, c.args.list) c.requires.found).list_is

pub move_posting-requires-clause-some : goal.move_posting-requires-clause-some
move_posting-requires-clause-some g c =
    subst (λ (w : ℕ). 0 < w) (sym c.from_word.ensures)
    (pair_found c.args.value.now (g.S.Frozen.records c.args.store.now) c.args.root c.requires.index (c.args.key, c.args.list) c.requires.found).some

pub move_posting-requires-clause-owns : goal.move_posting-requires-clause-owns
move_posting-requires-clause-owns g c =
    subst (λ w. Owns (g.S.Store.ledger c.args.store.now) (g.S.Frozen.records c.args.store.now) (list_part w ∷ [])) (sym c.from_word.ensures)
    (list_owned c.args.value.now (g.S.Frozen.records c.args.store.now) c.args.root c.requires.index c.args.key c.args.list c.requires.found
    (g.S.Store.ledger c.args.store.now) c.requires.owns)

pub returns-in_err-next-clause-moves : goal.returns-in_err-next-clause-moves
returns-in_err-next-clause-moves g c = let p = err_from_is_err_and c.from_residual.result c.from_residual.ensures.1 in rw p.1 tt

pub returns-in_err-next-clause-refuses : goal.returns-in_err-next-clause-refuses
returns-in_err-next-clause-refuses g c =
    let p = err_from_is_err_and c.from_residual.result c.from_residual.ensures.1 in rw (p.1, p.2) c.in_err-next.ensures.refuses

pub returns-in_err-next-clause-may : goal.returns-in_err-next-clause-may
returns-in_err-next-clause-may g c = c.move_posting.ensures.may

pub returns-in_err-next-clause-counts : goal.returns-in_err-next-clause-counts
returns-in_err-next-clause-counts g c =
    let value = c.args.value.now in
    let root = c.args.root in
    let list = c.args.list in
    let m = g.S.Frozen.records c.args.store.now in
    let a = g.S.Store.ledger c.args.store.now in
    let b = g.S.Store.ledger c.move_posting.new.store in
    let count : ℕ = length (list_of value (index_of (type_of value) m root)) in
    let made = counts_as a b m c.from_word.result list count c.from_word.ensures
    (ap (λ (ds : Docs). length ds) (list_is value m root c.requires.index c.args.key list c.requires.found)) c.move_posting.ensures.counts in
    within_more a b (word_most (is_vector list) (list_levels m list) count) (move_most value m root count)
    (λ w. let e = most_found value m root c.args.key list count w c.requires.found in omega arith) made

pub returns-then-word-list-clause-moves : goal.returns-then-word-list-clause-moves
returns-then-word-list-clause-moves g c =
    let ledger = g.S.Store.ledger in
    let records = g.S.Frozen.records in
    let value = c.args.value.now in
    let a = ledger c.args.store.now in
    let b = ledger c.move_posting.new.store in
    let m = records c.args.store.now in
    let n = records c.move_posting.new.store in
    let next = c.word-word.result in
    let moves = moves_as g.row.OFFSET_BITS c.args.buffer c.args.doc a b m n c.from_word.result c.args.list c.in_ok-next.next next c.from_word.ensures c.word-word.ensures
    c.in_ok-next.ensures.moves in
    list_set g.row.OFFSET_BITS c.args.buffer c.args.doc value a b m n c.args.root c.args.key c.args.list next c.requires.index c.requires.owns c.requires.found
    moves b n c.args.root
    (dictionary_same g.row.OFFSET_BITS c.args.buffer c.args.doc value a b m n c.args.root c.args.key c.args.list next c.requires.index c.requires.owns c.requires.found
    moves c.if-word-list.true)

pub returns-then-word-list-clause-counts : goal.returns-then-word-list-clause-counts
returns-then-word-list-clause-counts g c =
    let value = c.args.value.now in
    let root = c.args.root in
    let list = c.args.list in
    let m = g.S.Frozen.records c.args.store.now in
    let a = g.S.Store.ledger c.args.store.now in
    let b = g.S.Store.ledger c.move_posting.new.store in
    let count : ℕ = length (list_of value (index_of (type_of value) m root)) in
    let made = counts_as a b m c.from_word.result list count c.from_word.ensures
    (ap (λ (ds : Docs). length ds) (list_is value m root c.requires.index c.args.key list c.requires.found)) c.move_posting.ensures.counts in
    within_more a b (word_most (is_vector list) (list_levels m list) count) (move_most value m root count)
    (λ w. let e = most_found value m root c.args.key list count w c.requires.found in omega arith) made

pub set-requires : goal.set-requires
set-requires g c =
    let ledger = g.S.Store.ledger in
    let records = g.S.Frozen.records in
    let value = c.args.value.now in
    let root = c.args.root in
    let key = c.args.key in
    let list = c.args.list in
    let a = ledger c.args.store.now in
    let b = ledger c.move_posting.new.store in
    let m = records c.args.store.now in
    let n = records c.move_posting.new.store in
    let next = c.word-word.result in
    let moves = moves_as g.row.OFFSET_BITS c.args.buffer c.args.doc a b m n c.from_word.result c.args.list c.in_ok-next.next next c.from_word.ensures c.word-word.ensures
    c.in_ok-next.ensures.moves in
    let ready = list_ready g.row.OFFSET_BITS c.args.buffer c.args.doc value a b m n root key list next c.requires.index c.requires.owns c.requires.found moves in (
      omega arith,
      (
        c.move_posting.ensures.may.unit ∙ c.requires.unit,
        (
          list_dictionary g.row.OFFSET_BITS c.args.buffer c.args.doc value a b m n root key list next c.requires.index c.requires.owns c.requires.found moves,
          (
            ready.record_is,
            (
              ready.reads,
              ready_owns value b m n root key list key next [] c.requires.index c.requires.found (reads_found value m (key, list) (tree_pairs m root) c.requires.found) ready,
            ),
          ),
        ),
      ),
    )

pub returns-clause-moves : goal.returns-clause-moves
returns-clause-moves g c =
    let ledger = g.S.Store.ledger in
    let records = g.S.Frozen.records in
    let value = c.args.value.now in
    let a = ledger c.args.store.now in
    let b = ledger c.move_posting.new.store in
    let m = records c.args.store.now in
    let n = records c.move_posting.new.store in
    let next = c.word-word.result in
    let moves = moves_as g.row.OFFSET_BITS c.args.buffer c.args.doc a b m n c.from_word.result c.args.list c.in_ok-next.next next c.from_word.ensures c.word-word.ensures
    c.in_ok-next.ensures.moves in
    list_set_by g.row.OFFSET_BITS c.args.buffer c.args.doc value a b m n c.args.root c.args.key c.args.list next c.requires.index c.requires.owns c.requires.found
    moves (ledger c.set.new.store) (records c.set.new.store) c.set.result c.set.ensures.makes

pub returns-clause-refuses : goal.returns-clause-refuses
returns-clause-refuses g c =
    let ledger = g.S.Store.ledger in
    let a = ledger c.args.store.now in
    let m = g.S.Frozen.records c.args.store.now in
    let used = dictionary_used c.args.value.now a m c.args.root c.args.key c.args.list c.requires.index c.requires.owns c.requires.found in
    if_one (IsUsedWidth a m) a (ledger c.move_posting.new.store) (ledger c.set.new.store) 34 c.set.result c.move_posting.ensures.may refl used c.set.ensures.refuses

pub returns-clause-may : goal.returns-clause-may
returns-clause-may g c =
    let ledger = g.S.Store.ledger in
    may_do-then (ledger c.args.store.now) (ledger c.move_posting.new.store) (ledger c.set.new.store) c.move_posting.ensures.may c.set.ensures.may

pub returns-clause-counts : goal.returns-clause-counts
returns-clause-counts g c =
    let ledger = g.S.Store.ledger in
    let records = g.S.Frozen.records in
    let value = c.args.value.now in
    let root = c.args.root in
    let key = c.args.key in
    let list = c.args.list in
    let a = ledger c.args.store.now in
    let b = ledger c.move_posting.new.store in
    let d = ledger c.set.new.store in
    let m = records c.args.store.now in
    let n = records c.move_posting.new.store in
    let next = c.word-word.result in
    let moves = moves_as g.row.OFFSET_BITS c.args.buffer c.args.doc a b m n c.from_word.result c.args.list c.in_ok-next.next next c.from_word.ensures c.word-word.ensures
    c.in_ok-next.ensures.moves in
    let count : ℕ = length (list_of value (index_of (type_of value) m root)) in
    let made = counts_as a b m c.from_word.result list count c.from_word.ensures
    (ap (λ (ds : Docs). length ds) (list_is value m root c.requires.index key list c.requires.found)) c.move_posting.ensures.counts in
    let ready = list_ready g.row.OFFSET_BITS c.args.buffer c.args.doc value a b m n root key list next c.requires.index c.requires.owns c.requires.found moves in
    let nodes = within_tree b d m n root (2 * levels n root + 1) ready.nodes (omega arith) c.set.ensures.counts in
    within_more a d (λ w. word_most (is_vector list) (list_levels m list) count w + nodes_most (levels m root) w) (move_most value m root count)
    (λ w. let e = most_found value m root key list count w c.requires.found in omega arith)
    (within_then a b d (word_most (is_vector list) (list_levels m list) count) (nodes_most (levels m root)) c.move_posting.ensures.may made nodes)
