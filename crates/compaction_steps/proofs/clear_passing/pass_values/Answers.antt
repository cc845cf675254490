use Rattle.std.proofs.Common.{ℕ, sym, ap, subst, ◌∙◌, arith}
use Rattle.std.specs.List.{AllByRecursion}
use Rattle.tree_read.specs.Trees.{tree_pairs}
use Rattle.compaction_moves.specs.Cleared.{trees_of_roots}
use Rattle.tree_read.specs.SearchPlaces.{pairs_from, IsAt}
use Rattle.attr_compaction.specs.declared.plan.PlanKey.TheVariants.{Value}
use Rattle.image_format.specs.Values.{stored_value, IsValueRecord}
use Rattle.attr_types.specs.declared.kind.ValueType.{ValueType}
use Rattle.enum_dictionary.specs.Dictionaries.{behind, beside_value, IsDictionary}
use Rattle.attr_compaction.proofs.NextLemmas.{all_behind}
use Rattle.compaction_steps.specs.Passes.{Passes}
use Rattle.compaction_steps.specs.Sights.{StandsApart, IsRun}
use Rattle.compaction_steps.specs.declared.sights.Sight.TheVariants as sights
use Rattle.compaction_steps.proofs.ClearPassLemmas.{values_pass}
use Rattle.compaction_steps.proofs.RunLemmas.{last_has}
use Rattle.compaction_steps.proofs.clear_passing.pass_values.Goals as goal

pub upper-cursor-requires : goal.upper-cursor-requires
upper-cursor-requires g c =
    (omega arith, (omega arith, subst (λ (t : ValueType). IsDictionary t (g.F.Frozen.records c.args.frozen.now) c.args.roots.dictionary) (sym c.requires.typed) c.requires.index_is.dictionary_is))

pub run_from-run-requires : goal.run_from-run-requires
run_from-run-requires g c =
    let records = g.F.Frozen.records in
    let type = c.args.field.now.value in
    let m = records c.args.frozen.now in
    let cursor = c.upper-cursor.result in
    let back = sym c.upper-cursor.ensures.same in (
      omega arith,
      (
        subst (λ (f : g.row.F.Denot). IsAt (records f) cursor) back c.upper-cursor.ensures.at,
        subst (λ (f : g.row.F.Denot). AllByRecursion (λ p. IsValueRecord type (records f p.0)) (pairs_from (records f) cursor)) back
            (subst (AllByRecursion (λ p. IsValueRecord type (m p.0))) (sym c.upper-cursor.ensures.pairs)
            (all_behind (λ p. IsValueRecord type (m p.0)) (beside_value c.args.value.now m) (tree_pairs m c.args.roots.dictionary) c.requires.index_is.dictionary_is.keys)),
      ),
    )

pub returns-then-run-eq0-clause-same : goal.returns-then-run-eq0-clause-same
returns-then-run-eq0-clause-same g c = c.run_from-run.ensures.same ∙ c.upper-cursor.ensures.same

pub value_at-requires : goal.value_at-requires
value_at-requires g c =
    let records = g.F.Frozen.records in
    let type = c.args.field.now.value in
    let m = records c.args.frozen.now in
    let ps = behind (beside_value c.args.value.now m) (tree_pairs m c.args.roots.dictionary) in
    let run = subst (λ qs. IsRun (StandsApart g.row.OFFSET_BITS c.victim.result c.args.field.now.kind m sights.Key) qs c.run_from-run.result.pairs c.run_from-run.result.last) c.upper-cursor.ensures.pairs
    (subst (λ (f : g.row.F.Denot). IsRun (StandsApart g.row.OFFSET_BITS c.victim.result c.args.field.now.kind (records f) sights.Key) (pairs_from (records f) c.upper-cursor.result)
    c.run_from-run.result.pairs c.run_from-run.result.last) c.upper-cursor.ensures.same c.run_from-run.ensures.run) in
    let last = last_has (λ (k : ℕ). IsValueRecord type (m k)) c.run_from-run.result.pairs ps
    (all_behind (λ p. IsValueRecord type (m p.0)) (beside_value c.args.value.now m) (tree_pairs m c.args.roots.dictionary) c.requires.index_is.dictionary_is.keys)
    (let some = c.if-run-eq0.false in omega arith) run.few in
    subst (λ (f : g.row.F.Denot). IsValueRecord type (records f c.run_from-run.result.last)) (sym (c.run_from-run.ensures.same ∙ c.upper-cursor.ensures.same))
    (subst (λ (k : ℕ). IsValueRecord type (m k)) (sym run.last_is) last)

pub returns-in-Some-clause-passes : goal.returns-in-Some-clause-passes
returns-in-Some-clause-passes g c =
    let records = g.F.Frozen.records in
    let bits = g.row.OFFSET_BITS in
    let type = c.args.field.now.value in
    let kind = c.args.field.now.kind in
    let m = records c.args.frozen.now in
    let a = trees_of_roots c.args.field.now c.args.roots in
    let at = c.args.plan.now.place in
    let count = c.run_from-run.result.pairs in
    let last = c.run_from-run.result.last in
    let run = subst (λ (v : ℕ). IsRun (StandsApart bits v kind m sights.Key) (behind (beside_value c.args.value.now m) (tree_pairs m c.args.roots.dictionary)) count last) c.victim.ensures
    (subst (λ qs. IsRun (StandsApart bits c.victim.result kind m sights.Key) qs count last) c.upper-cursor.ensures.pairs
    (subst (λ (f : g.row.F.Denot). IsRun (StandsApart bits c.victim.result kind (records f) sights.Key)
    (pairs_from (records f) c.upper-cursor.result) count last) c.upper-cursor.ensures.same c.run_from-run.ensures.run)) in
    let read = c.in-Some.ensures.value ∙ ap (λ (f : g.row.F.Denot). stored_value type (records f) last) (c.run_from-run.ensures.same ∙ c.upper-cursor.ensures.same) in
    subst (λ v. Passes bits c.args.plan.now.victim at m a (Value v) count) (sym read)
    (values_pass bits c.args.plan.now.victim at m a count last (let some = c.if-run-eq0.false in omega arith) c.args.value.now c.requires run)

pub returns-in-Some-clause-few : goal.returns-in-Some-clause-few
returns-in-Some-clause-few g c = c.run_from-run.ensures.few

pub returns-in-Some-clause-same : goal.returns-in-Some-clause-same
returns-in-Some-clause-same g c = c.in-Some.ensures.same ∙ c.run_from-run.ensures.same ∙ c.upper-cursor.ensures.same

pub returns-in-None-clause-same : goal.returns-in-None-clause-same
returns-in-None-clause-same g c = c.in-None.ensures.same ∙ c.run_from-run.ensures.same ∙ c.upper-cursor.ensures.same
