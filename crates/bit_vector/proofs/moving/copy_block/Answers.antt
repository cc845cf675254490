use Rattle.std.proofs.Common.{◌≡◌, length, true, rules, refl, sym, ap, subst, ◌∙◌, arith}
use Rattle.std.specs.Prelude.{IfOk, IfErr}
use Rattle.store_api.specs.Calls.{Refuses}
use Rattle.store_api.specs.Units.{MayDo, MakesWithin}
use Rattle.bit_vector.specs.Changes.{vector_most}
use Rattle.bit_vector.specs.Moves.{CopiesBlock}
use Rattle.bit_vector.proofs.CountLemmas.{within_blocks}
use Rattle.bit_vector.proofs.MoveLemmas.{copies_if}
use Rattle.bit_vector.proofs.moving.copy_block.Goals as goal

pub read_block-words-requires : goal.read_block-words-requires
read_block-words-requires g c = (omega arith, c.requires.size)

pub make_entry-requires : goal.make_entry-requires
make_entry-requires g c =
    let own : length c.read_block-words.result ≡ 64 = search rules in
    (omega arith, (subst (λ f. (g.S.Store.ledger f).unit ≡ true) (sym c.read_block-words.ensures.same) c.requires.unit, (refl, omega (arith, own))))

pub returns-clause-copies : goal.returns-clause-copies
returns-clause-copies g c =
    let ledger = g.S.Store.ledger in
    let records = g.S.Frozen.records in
    let m = records c.args.store.now in
    let t = c.make_entry.new.store in
    let words = c.read_block-words.ensures.words in
    subst (λ (f : g.row.S.Denot). IfOk c.make_entry.result (CopiesBlock g.row.OFFSET_BITS (ledger f) (ledger t) (records f) (records t) c.args.block)) c.read_block-words.ensures.same
    (copies_if g.row.OFFSET_BITS (ledger c.read_block-words.new.frozen) (ledger t) (records c.read_block-words.new.frozen) (records t) c.args.block c.read_block-words.result
    (words ∙ sym (ap (λ (f : g.row.S.Denot). records f c.args.block) c.read_block-words.ensures.same))
    (ap (λ (f : g.row.S.Denot). length (records f c.args.block)) c.read_block-words.ensures.same ∙ c.requires.size)
    c.make_entry.result c.make_entry.ensures.turns c.make_entry.ensures.words c.make_entry.ensures.unsealed)

pub returns-clause-counts : goal.returns-clause-counts
returns-clause-counts g c =
    let ledger = g.S.Store.ledger in
    let t = c.make_entry.new.store in
    subst (λ (f : g.row.S.Denot). MakesWithin (ledger f) (ledger t) (vector_most 1 0)) c.read_block-words.ensures.same
    (within_blocks (ledger c.read_block-words.new.frozen) (ledger t) 1 c.make_entry.ensures.one c.make_entry.ensures.others)

pub returns-clause-refuses : goal.returns-clause-refuses
returns-clause-refuses g c =
    let ledger = g.S.Store.ledger in
    subst (λ (f : g.row.S.Denot). IfErr c.make_entry.result (Refuses (ledger f) (ledger c.make_entry.new.store) 64)) c.read_block-words.ensures.same c.make_entry.ensures.refuses

pub returns-clause-may : goal.returns-clause-may
returns-clause-may g c =
    let ledger = g.S.Store.ledger in
    subst (λ (f : g.row.S.Denot). MayDo (ledger f) (ledger c.make_entry.new.store)) c.read_block-words.ensures.same c.make_entry.ensures.may
