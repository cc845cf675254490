use Rattle.std.proofs.Common.{◌≡◌, ◌<◌, ◌≤◌, ◌-◌, ℕ, Bool, true, false, cond, refl, sym, ap, subst, ◌∙◌, arith}
use Rattle.tree_read.specs.Trees.{tree_pairs}
use Rattle.compaction_moves.specs.Cleared.{trees_of_roots}
use Rattle.attr_compaction.specs.declared.plan.PlanKey.TheVariants.{Value}
use Rattle.image_format.specs.Values.{stored_value, IsValueRecord}
use Rattle.attr_types.specs.Value.{value_cmp}
use Rattle.attr_types.specs.declared.kind.ValueType.{ValueType}
use Rattle.enum_dictionary.specs.Dictionaries.{behind, beside_value, IsDictionary}
use Rattle.attr_compaction.proofs.NextLemmas.{all_behind}
use Rattle.compaction_steps.specs.Passes.{Passes}
use Rattle.compaction_steps.specs.Sights.{IsRun}
use Rattle.compaction_steps.specs.Ways.{IsWayApart}
use Rattle.compaction_steps.proofs.NodeKeys.{value_nodes_pass, value_way_behind}
use Rattle.compaction_steps.proofs.RunLemmas.{last_has}
use Rattle.compaction_steps.proofs.nodes.pass_value_nodes.Goals as goal

pub returns-then-most-eq0-clause-same : goal.returns-then-most-eq0-clause-same
returns-then-most-eq0-clause-same g c = refl

pub value_way-way-requires : goal.value_way-way-requires
value_way-way-requires g c = (
  omega arith,
  (
    subst (λ (t : ValueType). IsDictionary t (g.F.Frozen.records c.args.frozen.now) c.args.roots.dictionary) (sym c.requires.typed) c.requires.index_is.dictionary_is,
    (let some = c.if-most-eq0.false in omega arith),
  ),
)

pub past_in-keys-requires : goal.past_in-keys-requires
past_in-keys-requires g c = λ e. (c.value_way-way.ensures.way.at e).0

pub returns-then-keys-eq0-clause-same : goal.returns-then-keys-eq0-clause-same
returns-then-keys-eq0-clause-same g c = c.value_way-way.ensures.same

pub value_at-requires : goal.value_at-requires
value_at-requires g c =
    let records = g.F.Frozen.records in
    let type = c.args.field.now.value in
    let m = records c.args.frozen.now in
    let ps = behind (beside_value c.args.value.now m) (tree_pairs m c.args.roots.dictionary) in
    let run = value_way_behind g.row.OFFSET_BITS c.victim.result m c.args.roots.dictionary type c.args.value.now c.requires.typed c.requires.index_is.dictionary_is.tree_is.ascends
    c.value_way-way.result.pairs c.value_way-way.result.last c.value_way-way.result.found c.past_in-keys.result c.value_way-way.ensures.way c.past_in-keys.ensures (let some = c.if-keys-eq0.false in omega arith) in
    let one = last_has (λ (k : ℕ). IsValueRecord type (m k)) c.past_in-keys.result ps
    (all_behind (λ p. IsValueRecord type (m p.0)) (beside_value c.args.value.now m) (tree_pairs m c.args.roots.dictionary) c.requires.index_is.dictionary_is.keys)
    (let some = c.if-keys-eq0.false in omega arith) run.few in
    subst (λ (f : g.row.F.Denot). IsValueRecord type (records f c.value_way-way.result.last)) (sym c.value_way-way.ensures.same)
    (subst (λ (k : ℕ). IsValueRecord type (m k)) (sym run.last_is) one)

pub returns-in-Some-clause-passes : goal.returns-in-Some-clause-passes
returns-in-Some-clause-passes g c =
    let records = g.F.Frozen.records in
    let bits = g.row.OFFSET_BITS in
    let type = c.args.field.now.value in
    let m = records c.args.frozen.now in
    let a = trees_of_roots c.args.field.now c.args.roots in
    let at = c.args.plan.now.place in
    let count = c.past_in-keys.result in
    let last = c.value_way-way.result.last in
    let some : 0 < count = (let test = c.if-keys-eq0.false in omega arith) in
    let run = subst (λ (v : ℕ). IsRun (IsWayApart bits v value_cmp (stored_value type) m c.args.roots.dictionary) (behind (beside_value c.args.value.now m) (tree_pairs m c.args.roots.dictionary)) count last)
    c.victim.ensures
    (value_way_behind bits c.victim.result m c.args.roots.dictionary type c.args.value.now c.requires.typed c.requires.index_is.dictionary_is.tree_is.ascends
    c.value_way-way.result.pairs last c.value_way-way.result.found count c.value_way-way.ensures.way c.past_in-keys.ensures some) in
    let read = c.in-Some.ensures.value ∙ ap (λ (f : g.row.F.Denot). stored_value type (records f) last) c.value_way-way.ensures.same in
    subst (λ v. Passes bits c.args.plan.now.victim at m a (Value v) count) (sym read)
    (value_nodes_pass bits c.args.plan.now.victim at m a count last some c.args.value.now c.requires run)

pub returns-in-Some-clause-few : goal.returns-in-Some-clause-few
returns-in-Some-clause-few g c = few c.value_way-way.result.found c.past_in-keys.ensures c.value_way-way.ensures.few
  where
    few : {pairs count most : ℕ} (found : Bool) → count ≡ cond found (pairs - 1) pairs → pairs ≤ most → count ≤ most
    few true is less = omega arith
    few false is less = omega arith

pub returns-in-Some-clause-same : goal.returns-in-Some-clause-same
returns-in-Some-clause-same g c = c.in-Some.ensures.same ∙ c.value_way-way.ensures.same

pub returns-in-None-clause-same : goal.returns-in-None-clause-same
returns-in-None-clause-same g c = c.in-None.ensures.same ∙ c.value_way-way.ensures.same
