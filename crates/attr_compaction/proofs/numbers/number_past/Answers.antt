use Rattle.std.proofs.Common.{◌≡◌, ◌<◌, ◌^◌, ◌+◌, ℕ, nat_cmp, sym, ap, subst, ◌∙◌, arith}
use Rattle.std.specs.List.{AllByRecursion}
use Rattle.std.specs.Option.{option_map}
use Rattle.tree_read.specs.Trees.{tree_pairs}
use Rattle.tree_read.specs.SearchPlaces.{pairs_from, IsAt}
use Rattle.enum_dictionary.proofs.BehindLemmas.{All-seek}
use Rattle.attr_compaction.specs.PhaseKeys.{first_item}
use Rattle.attr_compaction.proofs.NextLemmas.{unit_all}
use Rattle.attr_compaction.proofs.numbers.number_past.Goals as goal

pub seek-cursor-requires : goal.seek-cursor-requires
seek-cursor-requires g c = (omega arith, (omega arith, (c.requires.tree, unit_all (tree_pairs (g.F.Frozen.records c.args.frozen.now) c.args.root))))

pub number_at-requires : goal.number_at-requires
number_at-requires g c =
    let records = g.F.Frozen.records in
    let cursor = c.seek-cursor.result in
    let back = sym c.seek-cursor.ensures.same in (
      omega arith,
      (
        subst (λ f. IsAt (records f) cursor) back c.seek-cursor.ensures.at,
        subst (λ f. AllByRecursion (λ p. p.0 < 2 ^ 32) (pairs_from (records f) cursor)) back (subst (AllByRecursion (λ p. p.0 < 2 ^ 32)) (sym c.seek-cursor.ensures.pairs)
            (All-seek (λ p. p.0 < 2 ^ 32) (λ key. nat_cmp key (c.args.after + 1)) (tree_pairs (records c.args.frozen.now) c.args.root) c.requires.few)),
      ),
    )

pub returns-clause-number : goal.returns-clause-number
returns-clause-number g c =
    let records = g.F.Frozen.records in
    let cursor = c.seek-cursor.result in
    subst (λ f. c.number_at.result ≡ option_map (λ (p : ℕ × ℕ). p.0) (first_item (pairs_from (records f) cursor))) c.seek-cursor.ensures.same c.number_at.ensures.number
    ∙ ap (λ ps. option_map (λ (p : ℕ × ℕ). p.0) (first_item ps)) c.seek-cursor.ensures.pairs
