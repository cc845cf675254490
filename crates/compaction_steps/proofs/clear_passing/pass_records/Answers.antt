use Rattle.std.proofs.Common.{◌≡◌, ◌%◌, ℕ, sym, ap, subst, ◌∙◌, arith}
use Rattle.tree_read.specs.Trees.{tree_pairs}
use Rattle.compaction_moves.specs.Cleared.{trees_of_roots}
use Rattle.tree_read.specs.SearchPlaces.{pairs_from, IsAt}
use Rattle.attr_compaction.specs.declared.plan.PlanKey.TheVariants.{Pair}
use Rattle.image_format.specs.Values.{stored_value, IsValueRecord}
use Rattle.attr_types.specs.declared.kind.ValueType.{ValueType}
use Rattle.enum_dictionary.specs.Dictionaries.{behind, beside_value, IsDictionary}
use Rattle.attr_compaction.proofs.NextLemmas.{all_behind, unit_all}
use Rattle.posting_store.specs.Lists.{IsPlain}
use Rattle.compaction_steps.specs.Passes.{Passes}
use Rattle.compaction_steps.specs.Sights.{StandsApart, IsRun}
use Rattle.compaction_steps.specs.declared.sights.Sight.TheVariants as sights
use Rattle.compaction_steps.proofs.ClearPassLemmas.{lists_pass}
use Rattle.compaction_steps.proofs.RunLemmas.{last_has}
use Rattle.compaction_steps.proofs.TreeKeys.{word_found}
use Rattle.compaction_steps.proofs.clear_passing.pass_records.Goals as goal

pub upper-cursor-requires : goal.upper-cursor-requires
upper-cursor-requires g c = (
  omega arith,
  (
    omega arith,
    subst (λ (t : ValueType). IsDictionary t (g.F.Frozen.records c.args.frozen.now) c.args.roots.dictionary) (sym c.requires.can.typed) c.requires.can.index_is.dictionary_is,
  ),
)

pub run_from-run-requires : goal.run_from-run-requires
run_from-run-requires g c =
    let records = g.F.Frozen.records in
    let cursor = c.upper-cursor.result in (
      omega arith,
      (
        subst (λ (f : g.row.F.Denot). IsAt (records f) cursor) (sym c.upper-cursor.ensures.same) c.upper-cursor.ensures.at,
        unit_all (pairs_from (records c.upper-cursor.new.frozen) cursor),
      ),
    )

pub returns-then-run-eq0-clause-same : goal.returns-then-run-eq0-clause-same
returns-then-run-eq0-clause-same g c = c.run_from-run.ensures.same ∙ c.upper-cursor.ensures.same

pub value_at-requires : goal.value_at-requires
value_at-requires g c =
    let records = g.F.Frozen.records in
    let type = c.args.field.now.value in
    let kind = c.args.field.now.kind in
    let m = records c.args.frozen.now in
    let count = c.run_from-run.result.pairs in
    let last = c.run_from-run.result.last in
    let same = c.upper-cursor.ensures.same in
    let pairs = c.upper-cursor.ensures.pairs in
    let ps = behind (beside_value c.args.value.now m) (tree_pairs m c.args.roots.dictionary) in
    let run = subst (λ qs. IsRun (StandsApart g.row.OFFSET_BITS c.victim.result kind m sights.List) qs count last) pairs
    (subst (λ (f : g.row.F.Denot). IsRun (StandsApart g.row.OFFSET_BITS c.victim.result kind (records f) sights.List) (pairs_from (records f) c.upper-cursor.result) count last) same c.run_from-run.ensures.run) in
    let one = last_has (λ (k : ℕ). IsValueRecord type (m k)) count ps
    (all_behind (λ p. IsValueRecord type (m p.0)) (beside_value c.args.value.now m) (tree_pairs m c.args.roots.dictionary) c.requires.can.index_is.dictionary_is.keys)
    (let some = c.if-run-eq0.false in omega arith) run.few in
    subst (λ (f : g.row.F.Denot). IsValueRecord type (records f last)) (sym (c.run_from-run.ensures.same ∙ same))
    (subst (λ (k : ℕ). IsValueRecord type (m k)) (sym run.last_is) one)

pub returns-in-Some-clause-passes : goal.returns-in-Some-clause-passes
returns-in-Some-clause-passes g c =
    let records = g.F.Frozen.records in
    let bits = g.row.OFFSET_BITS in
    let type = c.args.field.now.value in
    let kind = c.args.field.now.kind in
    let m = records c.args.frozen.now in
    let a = trees_of_roots c.args.field.now c.args.roots in
    let at = c.args.plan.now.place in
    let count = c.run_from-run.result.pairs in
    let last = c.run_from-run.result.last in
    let same = c.upper-cursor.ensures.same in
    let pairs = c.upper-cursor.ensures.pairs in
    let run = subst (λ (v : ℕ). IsRun (StandsApart bits v kind m sights.List) (behind (beside_value c.args.value.now m) (tree_pairs m c.args.roots.dictionary)) count last) c.victim.ensures
    (subst (λ qs. IsRun (StandsApart bits c.victim.result kind m sights.List) qs count last) pairs
    (subst (λ (f : g.row.F.Denot). IsRun (StandsApart bits c.victim.result kind (records f) sights.List) (pairs_from (records f) c.upper-cursor.result) count last) same c.run_from-run.ensures.run)) in
    let read = c.in-Some.ensures.value ∙ ap (λ (f : g.row.F.Denot). stored_value type (records f) last) (c.run_from-run.ensures.same ∙ same) in
    subst (λ v. Passes bits c.args.plan.now.victim at m a (Pair v 0) count) (sym read)
    (lists_pass bits c.args.plan.now.victim at m a count last (let some = c.if-run-eq0.false in omega arith) c.args.value.now c.args.doc c.requires.can
    (λ p found. subst IsPlain (word_found c.args.value.now m c.args.roots.dictionary p found) c.requires.plain)
    (λ p found. subst (λ (w : ℕ). w % 2 ≡ 0) (word_found c.args.value.now m c.args.roots.dictionary p found) c.requires.even) run)

pub returns-in-Some-clause-few : goal.returns-in-Some-clause-few
returns-in-Some-clause-few g c = c.run_from-run.ensures.few

pub returns-in-Some-clause-same : goal.returns-in-Some-clause-same
returns-in-Some-clause-same g c = c.in-Some.ensures.same ∙ c.run_from-run.ensures.same ∙ c.upper-cursor.ensures.same

pub returns-in-None-clause-same : goal.returns-in-None-clause-same
returns-in-None-clause-same g c = c.in-None.ensures.same ∙ c.run_from-run.ensures.same ∙ c.upper-cursor.ensures.same
