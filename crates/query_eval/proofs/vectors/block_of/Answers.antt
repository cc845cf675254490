use Rattle.std.proofs.Common.{◌≡◌, ℕ, List, Some, None, length, sym, ap, subst, ◌∙◌}
use Rattle.std.specs.Ordering.{nat_cmp}
use Rattle.tree_read.specs.Pairs.{lookup_pair}
use Rattle.tree_read.specs.Trees.{tree_pairs}
use Rattle.image_format.specs.Postings.{IsBlock}
use Rattle.index_model.specs.Sets.{in_words}
use Rattle.query_eval.proofs.ListLemmas.{vector_form, bit_there, bit_lacking}
use Rattle.query_eval.proofs.LookupLemmas.{pair_among}
use Rattle.query_eval.proofs.vectors.block_of.Goals as goal

pub read_block-requires : goal.read_block-requires
read_block-requires g c =
    let m = g.F.Frozen.records c.args.frozen.now in
    let root = c.root_of-root.result in
    let form = vector_form m c.args.list root c.requires c.root_of-root.ensures.root in
    let found = subst (λ (f : g.row.F.Denot). Some (c.in-Some.field-0-0, c.in-Some.stored) ≡ lookup_pair (λ k. nat_cmp k c.args.block) (tree_pairs (g.F.Frozen.records f) root))
    c.root_of-root.ensures.same c.in-Some.ensures.pair in
    let block = pair_among (λ p. IsBlock p.0 (m p.1)) _ (tree_pairs m root) (c.in-Some.field-0-0, c.in-Some.stored) form.2 (sym found) in
    record { size = ap (λ (f : g.row.F.Denot). length (g.F.Frozen.records f c.in-Some.stored)) (c.in-Some.ensures.same ∙ c.root_of-root.ensures.same) ∙ block.size }

pub returns-in-Some-clause-bits : goal.returns-in-Some-clause-bits
returns-in-Some-clause-bits g c = λ i below.
    let m = g.F.Frozen.records c.args.frozen.now in
    let root = c.root_of-root.result in
    let found = subst (λ (f : g.row.F.Denot). Some (c.in-Some.field-0-0, c.in-Some.stored) ≡ lookup_pair (λ k. nat_cmp k c.args.block) (tree_pairs (g.F.Frozen.records f) root))
    c.root_of-root.ensures.same c.in-Some.ensures.pair in
    let words = c.read_block.ensures.words ∙ ap (λ (f : g.row.F.Denot). g.F.Frozen.records f c.in-Some.stored) (c.in-Some.ensures.same ∙ c.root_of-root.ensures.same) in
    ap (λ (ws : List ℕ). in_words ws i) words
    ∙ bit_there m c.args.list root c.requires c.root_of-root.ensures.root c.args.block i below (c.in-Some.field-0-0, c.in-Some.stored) found

pub returns-in-None-clause-bits : goal.returns-in-None-clause-bits
returns-in-None-clause-bits g c = λ i below.
    let m = g.F.Frozen.records c.args.frozen.now in
    let root = c.root_of-root.result in
    let found = subst (λ (f : g.row.F.Denot). None ≡ lookup_pair (λ k. nat_cmp k c.args.block) (tree_pairs (g.F.Frozen.records f) root))
    c.root_of-root.ensures.same c.in-None.ensures.pair in
    c.no_block.ensures i ∙ bit_lacking m c.args.list root c.requires c.root_of-root.ensures.root c.args.block i below found
