use Rattle.std.proofs.Common.{◌≡◌, ◌+◌, ◌*◌, ◌/◌, ℕ, filter, drop, length, nat_le, sym, ap, subst, ◌∙◌, arith}
use Rattle.tree_read.specs.SearchPlaces.{IsAt, pairs_from}
use Rattle.image_format.specs.Postings.{IsBlock}
use Rattle.bit_vector.specs.Vectors.{blocks_documents}
use Rattle.bit_vector.specs.Walks.{documents_from, IsBlockPlace, IsInBlock, IsVectorPlace}
use Rattle.bit_vector.proofs.DropLemmas.{first_all, not_none}
use Rattle.bit_vector.proofs.WalkLemmas.{enter_number, last_documents, next_blocks, next_documents, next_place}
use Rattle.bit_vector.proofs.cursor.VectorCursor.next.Goals as goal

pub overflow_cast-value : goal.overflow_cast-value
overflow_cast-value g c =
    let m = g.F.Frozen.records c.args.frozen.now in
    let at = c.requires.place.blocks in
    let here = c.requires.place.document c.requires.document in
    let ps = pairs_from m c.args.self.now.blocks in
    let block = first_all (λ p. IsBlock p.0 (m p.1)) ps (not_none ps here.some) at.blocks in
    let size = ap (λ (r : ℕ). length (m r)) (c.value.ensures m at.stands) ∙ block.size in
    let below = g.met.F.Frozen.references c.args.frozen.now c.value.result (omega (arith, size)) in
    omega arith

pub next_bit-bit-requires : goal.next_bit-bit-requires
next_bit-bit-requires g c =
    let m = g.F.Frozen.records c.args.frozen.now in
    let at = c.requires.place.blocks in
    let here = c.requires.place.document c.requires.document in
    let ps = pairs_from m c.args.self.now.blocks in
    let block = first_all (λ p. IsBlock p.0 (m p.1)) ps (not_none ps here.some) at.blocks in
    (omega arith, (ap (λ (r : ℕ). length (m r)) (c.from_raw-block.ensures ∙ c.value.ensures m at.stands) ∙ block.size, omega arith))

pub returns-then-bit-lt-BLOCK_SIZE-clause-place : goal.returns-then-bit-lt-BLOCK_SIZE-clause-place
returns-then-bit-lt-BLOCK_SIZE-clause-place g c =
    let m = g.F.Frozen.records c.args.frozen.now in
    let at = c.requires.place.blocks in
    let here = c.requires.place.document c.requires.document in
    let ps = pairs_from m c.args.self.now.blocks in
    let value_is = c.from_raw-block.ensures ∙ c.value.ensures m at.stands in
    let number = c.number-number.ensures.number in
    let is = subst (λ (d : ℕ). IsInBlock m d ps) (sym number) here in
    record {
      blocks = at;
      document = λ there. next_place m ps c.number-number.result c.from_raw-block.result c.next_bit-bit.result at.ascends is value_is c.next_bit-bit.ensures.next c.new-self.result
          c.if-bit-lt-BLOCK_SIZE.true c.new-self.ensures;
    }

pub returns-then-bit-lt-BLOCK_SIZE-clause-documents : goal.returns-then-bit-lt-BLOCK_SIZE-clause-documents
returns-then-bit-lt-BLOCK_SIZE-clause-documents g c =
    let m = g.F.Frozen.records c.args.frozen.now in
    let at = c.requires.place.blocks in
    let here = c.requires.place.document c.requires.document in
    let ps = pairs_from m c.args.self.now.blocks in
    let value_is = c.from_raw-block.ensures ∙ c.value.ensures m at.stands in
    let number = c.number-number.ensures.number in
    let is = subst (λ (d : ℕ). IsInBlock m d ps) (sym number) here in
    next_documents m ps c.number-number.result c.from_raw-block.result c.next_bit-bit.result at.ascends is value_is c.next_bit-bit.ensures.next c.new-self.result
    c.if-bit-lt-BLOCK_SIZE.true c.new-self.ensures
    ∙ ap (λ (d : ℕ). drop 1 (filter (nat_le d) (blocks_documents m ps))) number

pub new-self-requires-clause-first : goal.new-self-requires-clause-first
new-self-requires-clause-first g c =
    let m = g.F.Frozen.records c.args.frozen.now in
    let at = c.requires.place.blocks in
    let here = c.requires.place.document c.requires.document in
    let ps = pairs_from m c.args.self.now.blocks in
    let value_is = c.from_raw-block.ensures ∙ c.value.ensures m at.stands in
    let is = subst (λ (d : ℕ). IsInBlock m d ps) (sym c.number-number.ensures.number) here in
    let doc = c.number-number.result / 4096 * 4096 + c.next_bit-bit.result in
    let place = next_place m ps c.number-number.result c.from_raw-block.result c.next_bit-bit.result at.ascends is value_is c.next_bit-bit.ensures.next doc c.if-bit-lt-BLOCK_SIZE.true (omega arith) in
    (enter_number m ps doc place at.numbers).0

pub new-self-requires-clause-last : goal.new-self-requires-clause-last
new-self-requires-clause-last g c =
    let m = g.F.Frozen.records c.args.frozen.now in
    let at = c.requires.place.blocks in
    let here = c.requires.place.document c.requires.document in
    let ps = pairs_from m c.args.self.now.blocks in
    let value_is = c.from_raw-block.ensures ∙ c.value.ensures m at.stands in
    let is = subst (λ (d : ℕ). IsInBlock m d ps) (sym c.number-number.ensures.number) here in
    let doc = c.number-number.result / 4096 * 4096 + c.next_bit-bit.result in
    let place = next_place m ps c.number-number.result c.from_raw-block.result c.next_bit-bit.result at.ascends is value_is c.next_bit-bit.ensures.next doc c.if-bit-lt-BLOCK_SIZE.true (omega arith) in
    (enter_number m ps doc place at.numbers).1

pub next-requires : goal.next-requires
next-requires g c =
    let same = sym c.next_bit-bit.ensures.same in
    (omega arith, (subst (λ f. IsAt (g.F.Frozen.records f) c.args.self.now.blocks) same c.requires.place.blocks.stands, c.requires.document))

pub enter-requires : goal.enter-requires
enter-requires g c =
    let records = g.F.Frozen.records in
    let m = records c.args.frozen.now in
    let same = c.next_bit-bit.ensures.same in
    let stands = subst (λ f. IsAt (records f) c.next.new.self) same c.next.ensures.at in
    let rest = subst (λ (f : g.row.F.Denot). pairs_from (records f) c.next.new.self ≡ drop 1 (pairs_from (records f) c.args.self.now.blocks)) same c.next.ensures.pairs in
    (omega arith, subst (λ f. IsBlockPlace (records f) c.next.new.self) (sym (c.next.ensures.same ∙ same)) (next_blocks m c.args.self.now.blocks c.next.new.self c.requires.place.blocks stands rest))

pub returns-else-bit-lt-BLOCK_SIZE-clause-place : goal.returns-else-bit-lt-BLOCK_SIZE-clause-place
returns-else-bit-lt-BLOCK_SIZE-clause-place g c =
    subst (λ f. IsVectorPlace (g.F.Frozen.records f) c.enter.new.self) (c.next.ensures.same ∙ c.next_bit-bit.ensures.same) c.enter.ensures.place

pub returns-else-bit-lt-BLOCK_SIZE-clause-documents : goal.returns-else-bit-lt-BLOCK_SIZE-clause-documents
returns-else-bit-lt-BLOCK_SIZE-clause-documents g c =
    let records = g.F.Frozen.records in
    let m = records c.args.frozen.now in
    let at = c.requires.place.blocks in
    let here = c.requires.place.document c.requires.document in
    let ps = pairs_from m c.args.self.now.blocks in
    let same = c.next_bit-bit.ensures.same in
    let value_is = c.from_raw-block.ensures ∙ c.value.ensures m at.stands in
    let number = c.number-number.ensures.number in
    let is = subst (λ (d : ℕ). IsInBlock m d ps) (sym number) here in
    let rest = subst (λ (f : g.row.F.Denot). pairs_from (records f) c.next.new.self ≡ drop 1 (pairs_from (records f) c.args.self.now.blocks)) same c.next.ensures.pairs in
    let end = c.if-bit-lt-BLOCK_SIZE.false in
    subst (λ (f : g.row.F.Denot). documents_from (records f) c.enter.new.self ≡ blocks_documents (records f) (pairs_from (records f) c.next.new.self)) (c.next.ensures.same ∙ same) c.enter.ensures.documents
    ∙ last_documents m ps c.number-number.result c.from_raw-block.result c.next_bit-bit.result at.ascends is value_is c.next_bit-bit.ensures.next (pairs_from m c.next.new.self) (omega (arith, end)) rest
    ∙ ap (λ (d : ℕ). drop 1 (filter (nat_le d) (blocks_documents m ps))) number

pub returns-else-bit-lt-BLOCK_SIZE-clause-same : goal.returns-else-bit-lt-BLOCK_SIZE-clause-same
returns-else-bit-lt-BLOCK_SIZE-clause-same g c = c.enter.ensures.same ∙ c.next.ensures.same ∙ c.next_bit-bit.ensures.same
