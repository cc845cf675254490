use Rattle.std.proofs.Common.{◌≡◌, ◌/◌, ◌%◌, ℕ, pos, Some, None, nat_eq, cond, arith, rules, sym, ap, subst, ◌∙◌}
use Rattle.std.proofs.lemmas.Int.{to_z-of_z}
use Rattle.std.specs.Int.{w32, bit_at}
use Rattle.std.specs.Int.RustNames.{FitsSigned}
use Rattle.entry_ref.specs.Records.{HasWord, word_at}
use Rattle.tree_read.specs.Trees.{tree_pairs}
use Rattle.tree_read.specs.Pairs.{lookup_pair}
use Rattle.std.specs.Ordering.{nat_cmp}
use Rattle.image_format.specs.Postings.{IsBlock}
use Rattle.query_eval.proofs.LookupLemmas.{pair_among}
use Rattle.query_eval.proofs.WeightLemmas.{vector_weight}
use Rattle.query_eval.proofs.weights.weight_in_vector.Goals as goal

pub overflow_cast-block : goal.overflow_cast-block
overflow_cast-block g c =
    let frozen = c.args.frozen.now in
    let m = g.F.Frozen.records frozen in
    let block = pair_among (λ p. IsBlock p.0 (m p.1)) _ (tree_pairs m c.args.root) (c.in-Some.field-0-0, c.in-Some.block) c.requires.form.2 (sym c.in-Some.ensures.pair) in
    let size = block.size in
    let below = g.met.F.Frozen.references frozen c.in-Some.block (omega (arith, size)) in
    omega arith

pub word-word-requires : goal.word-word-requires
word-word-requires g c =
    let m = g.F.Frozen.records c.args.frozen.now in
    let block = pair_among (λ p. IsBlock p.0 (m p.1)) _ (tree_pairs m c.args.root) (c.in-Some.field-0-0, c.in-Some.block) c.requires.form.2 (sym c.in-Some.ensures.pair) in
    let size = block.size in
    let there : HasWord m c.in-Some.block (c.args.doc % 4096 / 64) = omega (arith, size) in (
      omega arith,
      subst (λ (f : g.row.F.Denot). HasWord (g.F.Frozen.records f) c.from_raw.result (c.args.doc % 4096 / 64)) (sym c.in-Some.ensures.same)
          (subst (λ (r : ℕ). HasWord m r (c.args.doc % 4096 / 64)) (sym c.from_raw.ensures) there),
    )

pub returns-in-Some-clause-weight : goal.returns-in-Some-clause-weight
returns-in-Some-clause-weight g c =
    let m = g.F.Frozen.records c.args.frozen.now in
    let place = c.args.doc % 4096 in
    let fits : FitsSigned w32 c.weight_of_bit.result = search rules in
    let word : c.word-word.result ≡ word_at m c.in-Some.block (place / 64) =
    c.word-word.ensures.value ∙ ap (λ (f : g.row.F.Denot). word_at (g.F.Frozen.records f) c.from_raw.result (place / 64)) c.in-Some.ensures.same
    ∙ ap (λ (r : ℕ). word_at m r (place / 64)) c.from_raw.ensures in
    to_z-of_z w32 c.weight_of_bit.result fits ∙ c.weight_of_bit.ensures
    ∙ ap (λ (w : ℕ). cond (nat_eq (bit_at w (place % 64)) 1) (pos 1) (pos 0)) word
    ∙ vector_weight m c.args.root c.args.doc c.requires.form.0 (Some (c.in-Some.field-0-0, c.in-Some.block))
    (c.in-Some.ensures.pair ∙ ap (λ (k : ℕ). lookup_pair (λ s. nat_cmp s k) (tree_pairs m c.args.root)) c.from.ensures)

pub returns-in-None-clause-weight : goal.returns-in-None-clause-weight
returns-in-None-clause-weight g c =
    let m = g.F.Frozen.records c.args.frozen.now in
    vector_weight m c.args.root c.args.doc c.requires.form.0 None
    (c.in-None.ensures.pair ∙ ap (λ (k : ℕ). lookup_pair (λ s. nat_cmp s k) (tree_pairs m c.args.root)) c.from.ensures)
