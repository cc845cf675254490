use Rattle.std.proofs.Common.{◌≡◌, Bool, ◌||◌, cond, Less, sym, ap, subst, ◌∙◌}
use Rattle.attr_compaction.specs.Places.{is_start, next_stage, place_after, place_cmp, PlanPlace, PlanView}
use Rattle.attr_compaction.specs.declared.plan.Stage.{Stage}
use Rattle.attr_compaction.proofs.PlaceLemmas.{next_above}
use Rattle.attr_compaction.proofs.plan.Plan.next.Goals as goal

pub returns-clause-victim : goal.returns-clause-victim
returns-clause-victim c = ap (λ (v : PlanView). v.victim) c.self.view_is

pub returns-clause-fields : goal.returns-clause-fields
returns-clause-fields c = ap (λ (v : PlanView). v.fields) c.self.view_is

pub returns-clause-place : goal.returns-clause-place
returns-clause-place c =
    let fields = c.self.inside.fields in
    let stage = c.self.inside.stage in
    let done = c.args.done in
    let made : Stage = c.stage_after-stage.result in
    let stage_is : made ≡ cond (is_start done) (next_stage fields stage) stage =
    c.stage_after-stage.ensures ∙ ap (λ (over : Bool). cond over (next_stage fields stage) stage) c.is_start.ensures in
    ap {B = PlanPlace} (λ (s : Stage). record { stage = s; key = done }) stage_is
    ∙ ap (λ (v : PlanView). place_after v.fields v.place done) c.self.view_is

pub returns-clause-rises : goal.returns-clause-rises
returns-clause-rises c =
    let fields = c.self.inside.fields in
    let stage = c.self.inside.stage in
    let done = c.args.done in
    let made : Stage = c.stage_after-stage.result in
    let stage_is : made ≡ cond (is_start done) (next_stage fields stage) stage =
    c.stage_after-stage.ensures ∙ ap (λ (over : Bool). cond over (next_stage fields stage) stage) c.is_start.ensures in
    let old = c.args.self.now.place in
    let is = ap {B = PlanPlace} (λ (s : Stage). record { stage = s; key = done }) stage_is
    ∙ ap (λ (v : PlanView). place_after v.fields v.place done) c.self.view_is in
    subst (λ (p : PlanPlace). place_cmp old p ≡ Less) (sym is) (next_above c.args.self.now.fields old done c.requires.phase c.requires.done)

pub returns-clause-copied : goal.returns-clause-copied
returns-clause-copied c = ap (λ (v : PlanView). c.args.copies || v.copied) c.self.view_is
