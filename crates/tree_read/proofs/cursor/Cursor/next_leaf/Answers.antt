use Rattle.std.proofs.Common.{◌≡◌, ◌+◌, ◌<◌, ◌≤◌, ◌++◌, ◌∷◌, suc, sym, ap, subst, ◌∙◌, arith}
use Rattle.entry_ref.specs.Records.{word_at}
use Rattle.tree_read.specs.Nodes.{level_of, used_of}
use Rattle.tree_read.specs.Trees.{pairs_below}
use Rattle.tree_read.specs.Steps.{PathStep}
use Rattle.tree_read.specs.SearchPlaces.{CursorPlace, Leads, pairs_behind, pairs_from}
use Rattle.tree_read.proofs.PlaceLemmas.{Climbs, climbs-leads, climbs-above, climbs-child, climbs-on, leads-length, leads-child, step-size, step-room, step-child}
use Rattle.tree_read.proofs.cursor.Cursor.next_leaf.Goals as goal

pub push-requires : goal.push-requires
push-requires g c =
    let records = g.F.Frozen.records in
    let m = records c.args.frozen.now in
    let rest = pairs_behind m 0 c.args.self.now.path in
    let root = c.self.inside.root in
    let path = c.pop.new.self in
    let step : PathStep = record { node = c.step.inside.node; slot = c.step.inside.slot } in
    let it : Climbs m root (step ∷ path) rest =
    subst (λ p. Climbs m root p rest) (c.in-Some.ensures.some ∙ ap (λ (s : PathStep). s ∷ path) (sym c.step.view_is)) (subst (λ (p : CursorPlace). Climbs m p.root p.path rest) (sym c.self.view_is) c.loop-step.invariant.climbs) in
    let leads = climbs-leads m root step path rest it in
    let most = leads-length m root path step.node leads in
    omega arith

pub child_at-child-requires : goal.child_at-child-requires
child_at-child-requires g c = (
  omega arith,
  (
    (let records = g.F.Frozen.records in
        let m = records c.args.frozen.now in
        let rest = pairs_behind m 0 c.args.self.now.path in
        let root = c.self.inside.root in
        let path = c.pop.new.self in
        let step : PathStep = record { node = c.step.inside.node; slot = c.step.inside.slot } in
        let it : Climbs m root (step ∷ path) rest =
        subst (λ p. Climbs m root p rest) (c.in-Some.ensures.some ∙ ap (λ (s : PathStep). s ∷ path) (sym c.step.view_is))
        (subst (λ (p : CursorPlace). Climbs m p.root p.path rest) (sym c.self.view_is) c.loop-step.invariant.climbs) in
        let leads = climbs-leads m root step path rest it in
        let used : c.read_head.result.used ≡ used_of (m step.node) =
        c.read_head.ensures.used ∙ ap (λ (f : g.row.F.Denot). used_of (records f step.node)) c.loop-step.invariant.same in
        let low : step.slot + 1 < used_of (m step.node) = (let test = c.if-next-read_head.true in omega arith) in
        let most = step-room m root path step.node leads in
        omega arith),
    (
      (let records = g.F.Frozen.records in
          let m = records c.args.frozen.now in
          let rest = pairs_behind m 0 c.args.self.now.path in
          let root = c.self.inside.root in
          let path = c.pop.new.self in
          let step : PathStep = record { node = c.step.inside.node; slot = c.step.inside.slot } in
          let it : Climbs m root (step ∷ path) rest =
          subst (λ p. Climbs m root p rest) (c.in-Some.ensures.some ∙ ap (λ (s : PathStep). s ∷ path) (sym c.step.view_is))
          (subst (λ (p : CursorPlace). Climbs m p.root p.path rest) (sym c.self.view_is) c.loop-step.invariant.climbs) in
          let leads = climbs-leads m root step path rest it in
          let same = c.read_head.ensures.same ∙ c.loop-step.invariant.same in
          rw same (step-size m root path step.node leads)),
      (let records = g.F.Frozen.records in
          let m = records c.args.frozen.now in
          let rest = pairs_behind m 0 c.args.self.now.path in
          let root = c.self.inside.root in
          let path = c.pop.new.self in
          let step : PathStep = record { node = c.step.inside.node; slot = c.step.inside.slot } in
          let it : Climbs m root (step ∷ path) rest =
          subst (λ p. Climbs m root p rest) (c.in-Some.ensures.some ∙ ap (λ (s : PathStep). s ∷ path) (sym c.step.view_is))
          (subst (λ (p : CursorPlace). Climbs m p.root p.path rest) (sym c.self.view_is) c.loop-step.invariant.climbs) in
          let leads = climbs-leads m root step path rest it in
          let same = c.read_head.ensures.same ∙ c.loop-step.invariant.same in
          let used : c.read_head.result.used ≡ used_of (m step.node) =
          c.read_head.ensures.used ∙ ap (λ (f : g.row.F.Denot). used_of (records f step.node)) c.loop-step.invariant.same in
          let low : step.slot + 1 < used_of (m step.node) = (let test = c.if-next-read_head.true in omega arith) in
          let above = climbs-above m root step path rest it in
          rw same (step-child m root path step.node (step.slot + 1) leads above low)),
    ),
  ),
)

pub enter-requires : goal.enter-requires
enter-requires g c =
    let records = g.F.Frozen.records in
    let m = records c.args.frozen.now in
    let rest = pairs_behind m 0 c.args.self.now.path in
    let root = c.self.inside.root in
    let path = c.pop.new.self in
    let step : PathStep = record { node = c.step.inside.node; slot = c.step.inside.slot } in
    let it : Climbs m root (step ∷ path) rest =
    subst (λ p. Climbs m root p rest) (c.in-Some.ensures.some ∙ ap (λ (s : PathStep). s ∷ path) (sym c.step.view_is)) (subst (λ (p : CursorPlace). Climbs m p.root p.path rest) (sym c.self.view_is) c.loop-step.invariant.climbs) in
    let leads = climbs-leads m root step path rest it in
    let same = c.read_head.ensures.same ∙ c.loop-step.invariant.same in
    let used : c.read_head.result.used ≡ used_of (m step.node) =
    c.read_head.ensures.used ∙ ap (λ (f : g.row.F.Denot). used_of (records f step.node)) c.loop-step.invariant.same in
    let low : step.slot + 1 < used_of (m step.node) = (let test = c.if-next-read_head.true in omega arith) in
    let above = climbs-above m root step path rest it in
    let child : c.child_at-child.result ≡ word_at m step.node (18 + (step.slot + 1)) =
    c.child_at-child.ensures.child ∙ ap (λ (f : g.row.F.Denot). word_at (records f) step.node (18 + (step.slot + 1))) same in
    let read = c.child_at-child.ensures.same ∙ same in (
      omega arith,
      (
        omega arith,
        subst (λ (f : g.row.F.Denot). Leads (records f) root c.push.new.self c.child_at-child.result) (sym read)
            (subst (λ p. Leads m root p c.child_at-child.result) (sym c.push.ensures) (leads-child m root path step.node (step.slot + 1) c.child_at-child.result leads above low child)),
      ),
    )

pub returns-then-next-read_head-clause-pairs : goal.returns-then-next-read_head-clause-pairs
returns-then-next-read_head-clause-pairs g c =
    let records = g.F.Frozen.records in
    let m = records c.args.frozen.now in
    let rest = pairs_behind m 0 c.args.self.now.path in
    let root = c.self.inside.root in
    let path = c.pop.new.self in
    let step : PathStep = record { node = c.step.inside.node; slot = c.step.inside.slot } in
    let it : Climbs m root (step ∷ path) rest =
    subst (λ p. Climbs m root p rest) (c.in-Some.ensures.some ∙ ap (λ (s : PathStep). s ∷ path) (sym c.step.view_is)) (subst (λ (p : CursorPlace). Climbs m p.root p.path rest) (sym c.self.view_is) c.loop-step.invariant.climbs) in
    let leads = climbs-leads m root step path rest it in
    let same = c.read_head.ensures.same ∙ c.loop-step.invariant.same in
    let used : c.read_head.result.used ≡ used_of (m step.node) =
    c.read_head.ensures.used ∙ ap (λ (f : g.row.F.Denot). used_of (records f step.node)) c.loop-step.invariant.same in
    let low : step.slot + 1 < used_of (m step.node) = (let test = c.if-next-read_head.true in omega arith) in
    let above = climbs-above m root step path rest it in
    let child : c.child_at-child.result ≡ word_at m step.node (18 + (step.slot + 1)) =
    c.child_at-child.ensures.child ∙ ap (λ (f : g.row.F.Denot). word_at (records f) step.node (18 + (step.slot + 1))) same in
    let read = c.child_at-child.ensures.same ∙ same in
    let q = c.child_at-child.result in
    ap (λ (f : g.row.F.Denot). pairs_from (records f) c.enter.new.self) (sym read)
    ∙ c.enter.ensures.pairs
    ∙ ap (λ (f : g.row.F.Denot). pairs_below (records f) (level_of (records f q)) q ++ pairs_behind (records f) (level_of (records f q)) c.push.new.self) read
    ∙ ap (λ p. pairs_below m (level_of (m q)) q ++ pairs_behind m (level_of (m q)) p) c.push.ensures
    ∙ climbs-child m root step path rest it (step.slot + 1) q (omega arith) low child

pub loop-step-preserved : goal.loop-step-preserved
loop-step-preserved g c =
    let records = g.F.Frozen.records in
    let m = records c.args.frozen.now in
    let rest = pairs_behind m 0 c.args.self.now.path in
    let root = c.self.inside.root in
    let path = c.pop.new.self in
    let step : PathStep = record { node = c.step.inside.node; slot = c.step.inside.slot } in
    let it : Climbs m root (step ∷ path) rest =
    subst (λ p. Climbs m root p rest) (c.in-Some.ensures.some ∙ ap (λ (s : PathStep). s ∷ path) (sym c.step.view_is)) (subst (λ (p : CursorPlace). Climbs m p.root p.path rest) (sym c.self.view_is) c.loop-step.invariant.climbs) in
    let leads = climbs-leads m root step path rest it in
    let same = c.read_head.ensures.same ∙ c.loop-step.invariant.same in
    let used : c.read_head.result.used ≡ used_of (m step.node) =
    c.read_head.ensures.used ∙ ap (λ (f : g.row.F.Denot). used_of (records f step.node)) c.loop-step.invariant.same in
    let past : used_of (m step.node) ≤ suc step.slot = (let test = c.if-next-read_head.false in omega arith) in
    record {
      same = same;
      root = ap (λ (p : CursorPlace). p.root) c.self.view_is ∙ c.loop-step.invariant.root;
      climbs = climbs-on m root step path rest it past;
    }
