use Rattle.std.proofs.Common.{◌≡◌, ◌<◌, ◌^◌, ℕ, sym, ap, subst, ◌∙◌, arith}
use Rattle.std.specs.List.{AllByRecursion}
use Rattle.std.specs.Option.{option_map}
use Rattle.tree_read.specs.SearchPlaces.{pairs_from, IsAt}
use Rattle.attr_compaction.specs.PhaseKeys.{first_item}
use Rattle.attr_compaction.proofs.numbers.first_number.Goals as goal

pub first-cursor-requires : goal.first-cursor-requires
first-cursor-requires g c = (omega arith, (omega arith, c.requires.tree.node))

pub number_at-requires : goal.number_at-requires
number_at-requires g c =
    let records = g.F.Frozen.records in
    let cursor = c.first-cursor.result in
    let back = sym c.first-cursor.ensures.same in (
      omega arith,
      (
        subst (λ f. IsAt (records f) cursor) back c.first-cursor.ensures.at,
        subst (λ f. AllByRecursion (λ p. p.0 < 2 ^ 32) (pairs_from (records f) cursor)) back
            (subst (AllByRecursion (λ p. p.0 < 2 ^ 32)) (sym c.first-cursor.ensures.pairs) c.requires.few),
      ),
    )

pub returns-clause-number : goal.returns-clause-number
returns-clause-number g c =
    let records = g.F.Frozen.records in
    let cursor = c.first-cursor.result in
    subst (λ f. c.number_at.result ≡ option_map (λ (p : ℕ × ℕ). p.0) (first_item (pairs_from (records f) cursor))) c.first-cursor.ensures.same c.number_at.ensures.number
    ∙ ap (λ ps. option_map (λ (p : ℕ × ℕ). p.0) (first_item ps)) c.first-cursor.ensures.pairs
