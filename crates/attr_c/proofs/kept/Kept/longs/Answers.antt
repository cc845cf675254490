use Rattle.std.proofs.Common.{ℕ, pos, length, map, ap, ◌∙◌}
use Rattle.std.specs.List.{filter_map}
use Rattle.std.specs.Option.{unwrap_or}
use Rattle.attr_types.specs.Table.{Table}
use Rattle.query_results.specs.Longs.{presence}
use Rattle.result_model.specs.Totals.{number_of}
use Rattle.attr_c.proofs.GuardLemmas.{guard_table}
use Rattle.attr_c.proofs.kept.Kept.longs.Goals as goal

pub returns-clause-numbers : goal.returns-clause-numbers
returns-clause-numbers g c =
    let same = guard_table _ c.args.self.now c.self.invariant c.self.view_is c.root-root.result c.root-root.ensures in
    c.write_longs.ensures.numbers ∙ ap (λ (t : Table). map (λ (document : ℕ). unwrap_or (number_of c.args.field t document) (pos 0)) c.args.documents.now) same

pub returns-clause-present : goal.returns-clause-present
returns-clause-present g c =
    let same = guard_table _ c.args.self.now c.self.invariant c.self.view_is c.root-root.result c.root-root.ensures in
    c.write_longs.ensures.present ∙ ap (λ (t : Table). map (λ (document : ℕ). presence (number_of c.args.field t document)) c.args.documents.now) same

pub returns-clause-count : goal.returns-clause-count
returns-clause-count g c =
    let same = guard_table _ c.args.self.now c.self.invariant c.self.view_is c.root-root.result c.root-root.ensures in
    c.write_longs.ensures.count ∙ ap (λ (t : Table). length (filter_map (number_of c.args.field t) c.args.documents.now)) same
