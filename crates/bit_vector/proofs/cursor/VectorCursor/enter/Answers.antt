use Rattle.std.proofs.Common.{◌+◌, ◌*◌, ◌≤◌, ℕ, List, filter, length, nat_le, false, refl, sym, ap, ◌∙◌, arith}
use Rattle.tree_read.specs.SearchPlaces.{pairs_from}
use Rattle.image_format.specs.Postings.{IsBlock}
use Rattle.bit_vector.specs.Vectors.{blocks_documents}
use Rattle.bit_vector.specs.Walks.{IsBlockPlace}
use Rattle.bit_vector.proofs.DropLemmas.{blocks_small, first_all, not_end}
use Rattle.bit_vector.proofs.WalkLemmas.{enter_documents, enter_number, enter_place}
use Rattle.bit_vector.proofs.cursor.VectorCursor.enter.Goals as goal

pub returns-then-at_end-clause-place : goal.returns-then-at_end-clause-place
returns-then-at_end-clause-place g c = record { blocks = c.requires; document = λ there. absurd (c.if-at_end.ensures.pair.0 refl there) }

pub returns-then-at_end-clause-documents : goal.returns-then-at_end-clause-documents
returns-then-at_end-clause-documents g c =
    let m = g.F.Frozen.records c.args.frozen.now in
    let none = (c.if-at_end.ensures.pairs m c.requires.stands).0 refl in
    ap (λ (ps : List (ℕ × ℕ)). filter (nat_le c.args.self.now.doc) (blocks_documents m ps)) none ∙ sym (ap (λ (ps : List (ℕ × ℕ)). blocks_documents m ps) none)

pub overflow_cast-value : goal.overflow_cast-value
overflow_cast-value g c =
    let m = g.F.Frozen.records c.args.frozen.now in
    let at : IsBlockPlace m c.args.self.now.blocks = c.requires in
    let ps = pairs_from m c.args.self.now.blocks in
    let some = not_end ps false (c.if-at_end.ensures.pairs m at.stands).1 refl in
    let block = first_all (λ p. IsBlock p.0 (m p.1)) ps some at.blocks in
    let size = ap (λ (r : ℕ). length (m r)) (c.value.ensures m at.stands) ∙ block.size in
    let below = g.met.F.Frozen.references c.args.frozen.now c.value.result (omega (arith, size)) in
    omega arith

pub next_bit-bit-requires : goal.next_bit-bit-requires
next_bit-bit-requires g c =
    let m = g.F.Frozen.records c.args.frozen.now in
    let at : IsBlockPlace m c.args.self.now.blocks = c.requires in
    let ps = pairs_from m c.args.self.now.blocks in
    let some = not_end ps false (c.if-at_end.ensures.pairs m at.stands).1 refl in
    let block = first_all (λ p. IsBlock p.0 (m p.1)) ps some at.blocks in
    (omega arith, (ap (λ (r : ℕ). length (m r)) (c.from_raw-block.ensures ∙ c.value.ensures m at.stands) ∙ block.size, omega arith))

pub overflow_cast-key : goal.overflow_cast-key
overflow_cast-key g c =
    let m = g.F.Frozen.records c.args.frozen.now in
    let at : IsBlockPlace m c.args.self.now.blocks = c.requires in
    let ps = pairs_from m c.args.self.now.blocks in
    let some = not_end ps false (c.if-at_end.ensures.pairs m at.stands).1 refl in
    let small = first_all (λ p. p.0 ≤ 255) ps some (blocks_small m ps at.blocks at.numbers) in
    let key_is = c.key.ensures m at.stands in
    omega (arith, small, key_is)

pub overflow_mul-key : goal.overflow_mul-key
overflow_mul-key g c =
    let m = g.F.Frozen.records c.args.frozen.now in
    let at : IsBlockPlace m c.args.self.now.blocks = c.requires in
    let ps = pairs_from m c.args.self.now.blocks in
    let some = not_end ps false (c.if-at_end.ensures.pairs m at.stands).1 refl in
    let small = first_all (λ p. p.0 ≤ 255) ps some (blocks_small m ps at.blocks at.numbers) in
    let key_is = c.key.ensures m at.stands in
    omega (arith, small, key_is)

pub overflow_add-key : goal.overflow_add-key
overflow_add-key g c =
    let m = g.F.Frozen.records c.args.frozen.now in
    let at : IsBlockPlace m c.args.self.now.blocks = c.requires in
    let ps = pairs_from m c.args.self.now.blocks in
    let some = not_end ps false (c.if-at_end.ensures.pairs m at.stands).1 refl in
    let small = first_all (λ p. p.0 ≤ 255) ps some (blocks_small m ps at.blocks at.numbers) in
    let key_is = c.key.ensures m at.stands in
    let within = c.next_bit-bit.ensures.next.within in
    omega (arith, small, key_is, within)

pub new-self-requires-clause-first : goal.new-self-requires-clause-first
new-self-requires-clause-first g c =
    let m = g.F.Frozen.records c.args.frozen.now in
    let at : IsBlockPlace m c.args.self.now.blocks = c.requires in
    let ps = pairs_from m c.args.self.now.blocks in
    let some = not_end ps false (c.if-at_end.ensures.pairs m at.stands).1 refl in
    let value_is = c.from_raw-block.ensures ∙ c.value.ensures m at.stands in
    let place = enter_place m ps c.key.result c.from_raw-block.result c.next_bit-bit.result some (c.key.ensures m at.stands) value_is at.blocks c.next_bit-bit.ensures.next
    (c.key.result * 4096 + c.next_bit-bit.result) (omega arith) in
    (enter_number m ps (c.key.result * 4096 + c.next_bit-bit.result) place at.numbers).0

pub new-self-requires-clause-last : goal.new-self-requires-clause-last
new-self-requires-clause-last g c =
    let m = g.F.Frozen.records c.args.frozen.now in
    let at : IsBlockPlace m c.args.self.now.blocks = c.requires in
    let ps = pairs_from m c.args.self.now.blocks in
    let some = not_end ps false (c.if-at_end.ensures.pairs m at.stands).1 refl in
    let value_is = c.from_raw-block.ensures ∙ c.value.ensures m at.stands in
    let place = enter_place m ps c.key.result c.from_raw-block.result c.next_bit-bit.result some (c.key.ensures m at.stands) value_is at.blocks c.next_bit-bit.ensures.next
    (c.key.result * 4096 + c.next_bit-bit.result) (omega arith) in
    (enter_number m ps (c.key.result * 4096 + c.next_bit-bit.result) place at.numbers).1

pub returns-clause-place : goal.returns-clause-place
returns-clause-place g c =
    let m = g.F.Frozen.records c.args.frozen.now in
    let at : IsBlockPlace m c.args.self.now.blocks = c.requires in
    let ps = pairs_from m c.args.self.now.blocks in
    let some = not_end ps false (c.if-at_end.ensures.pairs m at.stands).1 refl in
    let value_is = c.from_raw-block.ensures ∙ c.value.ensures m at.stands in
    let doc_is = c.new-self.ensures in
    record {
      blocks = at;
      document = λ there. enter_place m ps c.key.result c.from_raw-block.result c.next_bit-bit.result some (c.key.ensures m at.stands) value_is at.blocks c.next_bit-bit.ensures.next
          c.new-self.result (omega (arith, doc_is));
    }

pub returns-clause-documents : goal.returns-clause-documents
returns-clause-documents g c =
    let m = g.F.Frozen.records c.args.frozen.now in
    let at : IsBlockPlace m c.args.self.now.blocks = c.requires in
    let ps = pairs_from m c.args.self.now.blocks in
    let some = not_end ps false (c.if-at_end.ensures.pairs m at.stands).1 refl in
    let value_is = c.from_raw-block.ensures ∙ c.value.ensures m at.stands in
    let doc_is = c.new-self.ensures in
    enter_documents m ps c.key.result c.from_raw-block.result c.next_bit-bit.result some (c.key.ensures m at.stands) value_is at.blocks c.next_bit-bit.ensures.next c.new-self.result
    (omega (arith, doc_is)) at.ascends
