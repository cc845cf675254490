use Rattle.std.proofs.Common.{◌≡◌, ◌<◌, ◌^◌, ◌≢◌, ℕ, [], true≢false, Some, Option, option_map, sym, ap, ◌∙◌, arith}
use Rattle.tree_read.proofs.PlaceLemmas.{first_pair}
use Rattle.tree_read.specs.SearchPlaces.{pairs_from}
use Rattle.attr_compaction.proofs.NextLemmas.{pair_first, pair_none}
use Rattle.attr_compaction.proofs.numbers.number_at.Goals as goal

pub returns-then-at_end-clause-number : goal.returns-then-at_end-clause-number
returns-then-at_end-clause-number g c =
    let m = g.F.Frozen.records c.args.frozen.now in
    let ps = pairs_from m c.args.cursor.now in
    let none : ps ≡ [] = (c.at_end.ensures.pairs m c.requires.at).0 c.if-at_end.true in
    sym (ap (λ (o : Option (ℕ × ℕ)). option_map (λ (p : ℕ × ℕ). p.0) o) (pair_none ps none))

pub overflow_cast-number : goal.overflow_cast-number
overflow_cast-number g c =
    let m = g.F.Frozen.records c.args.frozen.now in
    let ps = pairs_from m c.args.cursor.now in
    let some : ps ≢ [] = λ none. true≢false (sym ((c.at_end.ensures.pairs m c.requires.at).1 none) ∙ c.if-at_end.false) in
    let few = first_pair (λ p. p.0 < 2 ^ 32) ps some c.requires.few in
    let at = c.key-number.ensures m c.requires.at in
    omega arith

pub returns-clause-number : goal.returns-clause-number
returns-clause-number g c =
    let m = g.F.Frozen.records c.args.frozen.now in
    let ps = pairs_from m c.args.cursor.now in
    let some : ps ≢ [] = λ none. true≢false (sym ((c.at_end.ensures.pairs m c.requires.at).1 none) ∙ c.if-at_end.false) in
    ap (λ (k : ℕ). Some k) (c.key-number.ensures m c.requires.at)
    ∙ sym (ap (λ (o : Option (ℕ × ℕ)). option_map (λ (p : ℕ × ℕ). p.0) o) (pair_first ps some))
