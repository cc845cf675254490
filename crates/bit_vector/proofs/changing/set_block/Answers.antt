use Rattle.std.proofs.Common.{ℕ, List, sym, subst, arith, refl, inl, inr, ◌∙◌, ◌+◌, ◌*◌}
use Rattle.std.specs.List.{AllByRecursion}
use Rattle.std.proofs.lemmas.Result.{err_from_is_err_and}
use Rattle.store_api.proofs.May.{may_do-same, may_do-then}
use Rattle.frozen_btree.specs.Changes.{levels}
use Rattle.frozen_btree.specs.Makes.{CountsNodes}
use Rattle.frozen_btree.proofs.TopLemmas.{levels-same}
use Rattle.attr_types.specs.Lawful.{IsDocNumber}
use Rattle.image_format.specs.Postings.{block_documents, IsBlock}
use Rattle.bit_vector.specs.Changes.{IsVectorWidth}
use Rattle.bit_vector.proofs.CountLemmas.{if_one, of_one, within_blocks, within_both, within_wider}
use Rattle.bit_vector.proofs.TurnLemmas.{made_nodes, made_owns, made_vector, padded_same, sets_if}
use Rattle.bit_vector.proofs.changing.set_block.Goals as goal

pub put_block-requires : goal.put_block-requires
put_block-requires g c =
    let ledger = g.S.Store.ledger in
    let records = g.S.Frozen.records in
    let s = c.args.store.now in
    let t = c.make_entry.new.store in
    let k = c.args.number in
    let ws = c.args.words.now in
    let ref = c.in_ok-block.block in
    let turns = c.in_ok-block.ensures.turns in
    let words = c.in_ok-block.ensures.words ∙ padded_same ws c.requires.form.size in (
      omega arith,
      (
        c.make_entry.ensures.may.unit ∙ c.requires.unit,
        (
          made_vector (ledger s) (ledger t) (records s) (records t) c.args.root ref c.requires.owns turns c.requires.vector,
          (
            subst (IsBlock k) (sym words) c.requires.form,
            (
              subst (λ (xs : List ℕ). AllByRecursion IsDocNumber (block_documents k xs)) (sym words) c.requires.numbers,
              made_owns (ledger s) (ledger t) (records s) (records t) c.args.root ref c.requires.owns turns,
            ),
          ),
        ),
      ),
    )

pub returns-clause-sets : goal.returns-clause-sets
returns-clause-sets g c =
    let ledger = g.S.Store.ledger in
    let records = g.S.Frozen.records in
    let s = c.args.store.now in
    let t = c.make_entry.new.store in
    let u = c.put_block.new.store in
    sets_if (ledger s) (ledger t) (ledger u) (records s) (records t) (records u) c.args.root c.in_ok-block.block c.args.number c.args.words.now c.requires.owns c.in_ok-block.ensures.turns
    (c.in_ok-block.ensures.words ∙ padded_same c.args.words.now c.requires.form.size) c.put_block.result c.put_block.ensures.sets

pub returns-in_err-block-clause-counts : goal.returns-in_err-block-clause-counts
returns-in_err-block-clause-counts g c =
    let a = g.S.Store.ledger c.args.store.now in
    let b = g.S.Store.ledger c.make_entry.new.store in
    within_wider a b 1 1 0 (2 * levels (g.S.Frozen.records c.args.store.now) c.args.root + 1) (omega arith) (omega arith)
    (within_blocks a b 1 c.make_entry.ensures.one c.make_entry.ensures.others)

pub returns-clause-counts : goal.returns-clause-counts
returns-clause-counts g c =
    let ledger = g.S.Store.ledger in
    let records = g.S.Frozen.records in
    let s = c.args.store.now in
    let t = c.make_entry.new.store in
    let u = c.put_block.new.store in
    let nodes = made_nodes (ledger s) (ledger t) (records s) (records t) c.args.root c.in_ok-block.block c.requires.owns c.in_ok-block.ensures.turns in
    within_both (ledger s) (ledger t) (ledger u) 1 (2 * levels (records s) c.args.root + 1) c.make_entry.ensures.may
    (within_blocks (ledger s) (ledger t) 1 c.make_entry.ensures.one c.make_entry.ensures.others)
    (subst (λ (h : ℕ). CountsNodes (ledger t) (ledger u) (2 * h + 1)) (levels-same (records s) (records t) c.args.root nodes) c.put_block.ensures.counts)

pub returns-in_err-block-clause-refuses : goal.returns-in_err-block-clause-refuses
returns-in_err-block-clause-refuses g c =
    let a = g.S.Store.ledger c.args.store.now in
    let p = err_from_is_err_and c.from_residual.result c.from_residual.ensures.1 in
    rw (p.1, p.2) (of_one IsVectorWidth a a (g.S.Store.ledger c.make_entry.new.store) 64 _ (may_do-same a) refl (inl refl) c.in_err-block.ensures.refuses)

pub returns-clause-refuses : goal.returns-clause-refuses
returns-clause-refuses g c =
    let ledger = g.S.Store.ledger in
    if_one IsVectorWidth (ledger c.args.store.now) (ledger c.make_entry.new.store) (ledger c.put_block.new.store) 34 c.put_block.result c.make_entry.ensures.may refl (inr refl)
    c.put_block.ensures.refuses

pub returns-clause-may : goal.returns-clause-may
returns-clause-may g c = may_do-then _ _ _ c.make_entry.ensures.may c.put_block.ensures.may
