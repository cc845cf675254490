use Rattle.std.proofs.Common.{◌≡◌, ◌+◌, ◌*◌, ◌/◌, ◌∷◌, [], ℕ, true, length, rules, refl, sym, ap, subst, ◌∙◌, arith}
use Rattle.std.specs.Prelude.{IfOk, IfErr}
use Rattle.store_api.specs.Calls.{RefusesOf}
use Rattle.store_api.specs.Parts.{Owns}
use Rattle.store_api.specs.Units.{MayDo, MakesWithin}
use Rattle.frozen_btree.specs.Changes.{levels}
use Rattle.attr_types.specs.Lawful.{IsDocNumber}
use Rattle.bit_vector.specs.Blocks.{SetsBlock}
use Rattle.bit_vector.specs.Changes.{vector_most, vector_part, IsVectorWidth}
use Rattle.bit_vector.specs.Vectors.{IsVector}
use Rattle.bit_vector.proofs.SetLemmas.{are_left, cleared_bits, none_left, removes_if}
use Rattle.bit_vector.proofs.changing.remove.Goals as goal

pub clear_block-requires : goal.clear_block-requires
clear_block-requires g c =
    let ledger = g.S.Store.ledger in
    let records = g.S.Frozen.records in
    let same = sym c.block_words-words.ensures.same in (
      omega arith,
      (
        subst (λ f. (ledger f).unit ≡ true) same c.requires.unit,
        (subst (λ f. IsVector (records f) c.args.root) same c.requires.vector, subst (λ f. Owns (ledger f) (records f) (vector_part c.args.root ∷ [])) same c.requires.owns),
      ),
    )

pub set_block-requires : goal.set_block-requires
set_block-requires g c =
    let ledger = g.S.Store.ledger in
    let records = g.S.Frozen.records in
    let same = sym c.block_words-words.ensures.same in
    let place = c.number-place.result in
    let number : IsDocNumber place = (c.number-place.ensures.first, c.number-place.ensures.last) in
    let own : length c.block_words-words.result ≡ 64 = search rules in
    let bits = cleared_bits (records c.args.store.now) c.args.root c.args.doc place c.block_words-words.result c.clear_bit.new.words c.number-place.ensures.number c.block_words-words.ensures.bits
    c.clear_bit.ensures.bits in
    let are = are_left (records c.args.store.now) c.args.root c.args.doc place c.clear_bit.new.words c.requires.vector c.number-place.ensures.number number (c.clear_bit.ensures.size ∙ own)
    (c.if-is_empty.ensures.some refl) bits in (
      omega arith,
      (
        subst (λ f. (ledger f).unit ≡ true) same c.requires.unit,
        (
          subst (λ f. IsVector (records f) c.args.root) same c.requires.vector,
          (are.form, (are.numbers, subst (λ f. Owns (ledger f) (records f) (vector_part c.args.root ∷ [])) same c.requires.owns)),
        ),
      ),
    )

pub returns-then-is_empty-clause-makes : goal.returns-then-is_empty-clause-makes
returns-then-is_empty-clause-makes g c =
    let ledger = g.S.Store.ledger in
    let records = g.S.Frozen.records in
    let s = c.args.store.now in
    let t = c.clear_block.new.store in
    let place = c.number-place.result in
    let bits = cleared_bits (records s) c.args.root c.args.doc place c.block_words-words.result c.clear_bit.new.words c.number-place.ensures.number c.block_words-words.ensures.bits
    c.clear_bit.ensures.bits in
    removes_if (ledger s) (ledger t) (records s) (records t) c.args.root c.args.doc c.requires.vector []
    (none_left (records s) c.args.root c.args.doc c.clear_bit.new.words (c.if-is_empty.ensures.none refl) bits) c.clear_block.result
    (subst (λ (k : ℕ). IfOk c.clear_block.result (SetsBlock (ledger s) (ledger t) (records s) (records t) c.args.root (vector_part c.args.root ∷ []) k []))
    (ap (λ (n : ℕ). n / 4096) c.number-place.ensures.number)
    (subst (λ (f : g.row.S.Denot). IfOk c.clear_block.result (SetsBlock (ledger f) (ledger t) (records f) (records t) c.args.root (vector_part c.args.root ∷ []) (place / 4096) []))
    c.block_words-words.ensures.same c.clear_block.ensures.sets))

pub returns-then-is_empty-clause-counts : goal.returns-then-is_empty-clause-counts
returns-then-is_empty-clause-counts g c =
    let ledger = g.S.Store.ledger in
    subst (λ (f : g.row.S.Denot). MakesWithin (ledger f) (ledger c.clear_block.new.store) (vector_most 1 (2 * levels (g.S.Frozen.records f) c.args.root + 1))) c.block_words-words.ensures.same
    c.clear_block.ensures.counts

pub returns-then-is_empty-clause-refuses : goal.returns-then-is_empty-clause-refuses
returns-then-is_empty-clause-refuses g c =
    let ledger = g.S.Store.ledger in
    subst (λ (f : g.row.S.Denot). IfErr c.clear_block.result (RefusesOf IsVectorWidth (ledger f) (ledger c.clear_block.new.store))) c.block_words-words.ensures.same c.clear_block.ensures.refuses

pub returns-then-is_empty-clause-may : goal.returns-then-is_empty-clause-may
returns-then-is_empty-clause-may g c =
    let ledger = g.S.Store.ledger in
    subst (λ (f : g.row.S.Denot). MayDo (ledger f) (ledger c.clear_block.new.store)) c.block_words-words.ensures.same c.clear_block.ensures.may

pub returns-else-is_empty-clause-makes : goal.returns-else-is_empty-clause-makes
returns-else-is_empty-clause-makes g c =
    let ledger = g.S.Store.ledger in
    let records = g.S.Frozen.records in
    let s = c.args.store.now in
    let t = c.set_block.new.store in
    let place = c.number-place.result in
    let bits = cleared_bits (records s) c.args.root c.args.doc place c.block_words-words.result c.clear_bit.new.words c.number-place.ensures.number c.block_words-words.ensures.bits
    c.clear_bit.ensures.bits in
    removes_if (ledger s) (ledger t) (records s) (records t) c.args.root c.args.doc c.requires.vector c.clear_bit.new.words bits c.set_block.result
    (subst (λ (k : ℕ). IfOk c.set_block.result (SetsBlock (ledger s) (ledger t) (records s) (records t) c.args.root (vector_part c.args.root ∷ []) k c.clear_bit.new.words))
    (ap (λ (n : ℕ). n / 4096) c.number-place.ensures.number)
    (subst (λ (f : g.row.S.Denot). IfOk c.set_block.result (SetsBlock (ledger f) (ledger t) (records f) (records t) c.args.root (vector_part c.args.root ∷ []) (place / 4096) c.clear_bit.new.words))
    c.block_words-words.ensures.same c.set_block.ensures.sets))

pub returns-else-is_empty-clause-counts : goal.returns-else-is_empty-clause-counts
returns-else-is_empty-clause-counts g c =
    let ledger = g.S.Store.ledger in
    subst (λ (f : g.row.S.Denot). MakesWithin (ledger f) (ledger c.set_block.new.store) (vector_most 1 (2 * levels (g.S.Frozen.records f) c.args.root + 1))) c.block_words-words.ensures.same
    c.set_block.ensures.counts

pub returns-else-is_empty-clause-refuses : goal.returns-else-is_empty-clause-refuses
returns-else-is_empty-clause-refuses g c =
    let ledger = g.S.Store.ledger in
    subst (λ (f : g.row.S.Denot). IfErr c.set_block.result (RefusesOf IsVectorWidth (ledger f) (ledger c.set_block.new.store))) c.block_words-words.ensures.same c.set_block.ensures.refuses

pub returns-else-is_empty-clause-may : goal.returns-else-is_empty-clause-may
returns-else-is_empty-clause-may g c =
    let ledger = g.S.Store.ledger in
    subst (λ (f : g.row.S.Denot). MayDo (ledger f) (ledger c.set_block.new.store)) c.block_words-words.ensures.same c.set_block.ensures.may
