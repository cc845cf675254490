use Rattle.std.proofs.Common.{◌≡◌, ◌+◌, ◌*◌, ◌/◌, ◌∷◌, [], ℕ, pos, true, length, rules, refl, sym, subst, ◌∙◌, arith}
use Rattle.std.specs.BTreeMap.{insert_entry}
use Rattle.std.specs.Ordering.{nat_cmp}
use Rattle.std.specs.Prelude.{IfOk, IfErr}
use Rattle.store_api.specs.Calls.{RefusesOf}
use Rattle.store_api.specs.Parts.{Owns}
use Rattle.store_api.specs.Units.{MayDo, MakesWithin}
use Rattle.store_api.proofs.May.{may_do-same}
use Rattle.frozen_btree.specs.Changes.{levels}
use Rattle.image_format.specs.Postings.{vector_documents}
use Rattle.index_model.specs.Sets.{has}
use Rattle.attr_types.specs.Lawful.{IsDocNumber}
use Rattle.bit_vector.specs.Blocks.{SetsBlock}
use Rattle.bit_vector.specs.Changes.{vector_most, vector_part, IsVectorWidth, MakesVector}
use Rattle.bit_vector.specs.Vectors.{vector_at, IsVector}
use Rattle.bit_vector.proofs.CountLemmas.{within_none}
use Rattle.bit_vector.proofs.SetLemmas.{are_set, denied, inserts_if, inserts_none, was_set}
use Rattle.bit_vector.proofs.changing.insert.Goals as goal

pub set_block-requires : goal.set_block-requires
set_block-requires g c =
    let ledger = g.S.Store.ledger in
    let records = g.S.Frozen.records in
    let same = sym c.block_words-words.ensures.same in
    let place = c.number-place.result in
    let number : IsDocNumber place = (c.number-place.ensures.first, c.number-place.ensures.last) in
    let own : length c.block_words-words.result ≡ 64 = search rules in
    let are = are_set (records c.args.store.now) c.args.root c.args.doc place c.block_words-words.result c.set_bit.new.words c.requires.vector c.number-place.ensures.number number
    (c.set_bit.ensures.size ∙ own) c.block_words-words.ensures.bits c.set_bit.ensures.bits in (
      omega arith,
      (
        subst (λ f. (ledger f).unit ≡ true) same c.requires.unit,
        (
          subst (λ f. IsVector (records f) c.args.root) same c.requires.vector,
          (are.form, (are.numbers, subst (λ f. Owns (ledger f) (records f) (vector_part c.args.root ∷ [])) same c.requires.owns)),
        ),
      ),
    )

pub returns-then-has_bit-clause-makes : goal.returns-then-has_bit-clause-makes
returns-then-has_bit-clause-makes g c =
    let ledger = g.S.Store.ledger in
    let records = g.S.Frozen.records in
    let s = c.args.store.now in
    let m = records s in
    let there = was_set m c.args.root c.args.doc c.number-place.result c.block_words-words.result true c.number-place.ensures.number c.block_words-words.ensures.bits c.if-has_bit.ensures in
    subst (λ (f : g.row.S.Denot). MakesVector (ledger s) (ledger f) m (records f) c.args.root (insert_entry nat_cmp (vector_at m c.args.root) c.args.doc (pos 1)) c.args.root)
    (sym c.block_words-words.ensures.same) (inserts_none (ledger s) m c.args.root c.args.doc c.requires.vector c.requires.owns (sym there))

pub returns-then-has_bit-clause-still : goal.returns-then-has_bit-clause-still
returns-then-has_bit-clause-still g c = λ there. c.block_words-words.ensures.same

pub returns-then-has_bit-clause-stays : goal.returns-then-has_bit-clause-stays
returns-then-has_bit-clause-stays g c = λ there. refl

pub returns-then-has_bit-clause-counts : goal.returns-then-has_bit-clause-counts
returns-then-has_bit-clause-counts g c =
    let ledger = g.S.Store.ledger in
    let s = c.args.store.now in
    let most = vector_most 1 (2 * levels (g.S.Frozen.records s) c.args.root + 1) in
    subst (λ (f : g.row.S.Denot). MakesWithin (ledger s) (ledger f) most) (sym c.block_words-words.ensures.same) (within_none (ledger s) most)

pub returns-then-has_bit-clause-may : goal.returns-then-has_bit-clause-may
returns-then-has_bit-clause-may g c =
    let ledger = g.S.Store.ledger in
    let s = c.args.store.now in
    subst (λ (f : g.row.S.Denot). MayDo (ledger s) (ledger f)) (sym c.block_words-words.ensures.same) (may_do-same (ledger s))

pub returns-clause-makes : goal.returns-clause-makes
returns-clause-makes g c =
    let ledger = g.S.Store.ledger in
    let records = g.S.Frozen.records in
    let s = c.args.store.now in
    let t = c.set_block.new.store in
    let place = c.number-place.result in
    let number : IsDocNumber place = (c.number-place.ensures.first, c.number-place.ensures.last) in
    let own : length c.block_words-words.result ≡ 64 = search rules in
    let are = are_set (records s) c.args.root c.args.doc place c.block_words-words.result c.set_bit.new.words c.requires.vector c.number-place.ensures.number number
    (c.set_bit.ensures.size ∙ own) c.block_words-words.ensures.bits c.set_bit.ensures.bits in
    inserts_if (ledger s) (ledger t) (records s) (records t) c.args.root c.args.doc c.requires.vector c.set_bit.new.words are.bits c.set_block.result
    (subst (λ (k : ℕ). IfOk c.set_block.result (SetsBlock (ledger s) (ledger t) (records s) (records t) c.args.root (vector_part c.args.root ∷ []) k c.set_bit.new.words)) are.block
    (subst (λ (f : g.row.S.Denot). IfOk c.set_block.result (SetsBlock (ledger f) (ledger t) (records f) (records t) c.args.root (vector_part c.args.root ∷ []) (place / 4096) c.set_bit.new.words))
    c.block_words-words.ensures.same c.set_block.ensures.sets))

pub returns-clause-still : goal.returns-clause-still
returns-clause-still g c = λ there.
    denied (has (vector_documents (g.S.Frozen.records c.args.store.now) c.args.root) c.args.doc)
    (was_set (g.S.Frozen.records c.args.store.now) c.args.root c.args.doc c.number-place.result c.block_words-words.result _ c.number-place.ensures.number c.block_words-words.ensures.bits
    c.if-has_bit.ensures) there

pub returns-clause-stays : goal.returns-clause-stays
returns-clause-stays g c = λ there.
    denied (has (vector_documents (g.S.Frozen.records c.args.store.now) c.args.root) c.args.doc)
    (was_set (g.S.Frozen.records c.args.store.now) c.args.root c.args.doc c.number-place.result c.block_words-words.result _ c.number-place.ensures.number c.block_words-words.ensures.bits
    c.if-has_bit.ensures) there

pub returns-clause-counts : goal.returns-clause-counts
returns-clause-counts g c =
    let ledger = g.S.Store.ledger in
    subst (λ (f : g.row.S.Denot). MakesWithin (ledger f) (ledger c.set_block.new.store) (vector_most 1 (2 * levels (g.S.Frozen.records f) c.args.root + 1))) c.block_words-words.ensures.same
    c.set_block.ensures.counts

pub returns-clause-refuses : goal.returns-clause-refuses
returns-clause-refuses g c =
    let ledger = g.S.Store.ledger in
    subst (λ (f : g.row.S.Denot). IfErr c.set_block.result (RefusesOf IsVectorWidth (ledger f) (ledger c.set_block.new.store))) c.block_words-words.ensures.same c.set_block.ensures.refuses

pub returns-clause-may : goal.returns-clause-may
returns-clause-may g c =
    let ledger = g.S.Store.ledger in
    subst (λ (f : g.row.S.Denot). MayDo (ledger f) (ledger c.set_block.new.store)) c.block_words-words.ensures.same c.set_block.ensures.may
