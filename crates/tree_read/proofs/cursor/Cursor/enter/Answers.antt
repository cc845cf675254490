use Rattle.std.proofs.Common.{rules, ◌≡◌, ◌-◌, ◌<◌, ◌++◌, length, sym, ap, subst, ◌∙◌, arith}
use Rattle.entry_ref.specs.Records.{HasWord, word_at}
use Rattle.tree_read.specs.Nodes.{level_of, used_of}
use Rattle.tree_read.specs.Trees.{pairs_below}
use Rattle.tree_read.specs.SearchPlaces.{Leads, pairs_behind}
use Rattle.tree_read.proofs.PlaceLemmas.{leads-length, step-room, leads-child, child-level, from-first, first-low, step-size, step-child, at-first}
use Rattle.tree_read.proofs.cursor.Cursor.enter.Goals as goal

pub read_head-head-requires : goal.read_head-head-requires
read_head-head-requires g c =
    let m = g.F.Frozen.records c.args.frozen.now in
    let size = step-size m c.args.self.now.root c.args.self.now.path c.args.below c.requires.leads in
    omega arith

pub push-requires : goal.push-requires
push-requires g c =
    let m = g.F.Frozen.records c.args.frozen.now in
    let it = c.loop-head.invariant in
    let most = leads-length m c.loop-head.self-inside.root c.loop-head.self-inside.path c.loop-head.node it.leads in
    omega arith

pub child_at-node-requires : goal.child_at-node-requires
child_at-node-requires g c = (
  omega arith,
  (
    search rules,
    (
      (let m = g.F.Frozen.records c.args.frozen.now in
          let it = c.loop-head.invariant in
          rw it.same (step-size m c.loop-head.self-inside.root c.loop-head.self-inside.path c.loop-head.node it.leads)),
      (let m = g.F.Frozen.records c.args.frozen.now in
          let it = c.loop-head.invariant in
          let root = c.loop-head.self-inside.root in
          let path = c.loop-head.self-inside.path in
          let node = c.loop-head.node in
          let above : 0 < level_of (m node) = (let test = c.loop-head-test.true in let is = it.level in omega arith) in
          rw it.same (step-child m root path node 0 it.leads above (first-low m root path node it.leads))),
    ),
  ),
)

pub read_head-head-requires-in-loop-head : goal.read_head-head-requires-in-loop-head
read_head-head-requires-in-loop-head g c =
    let records = g.F.Frozen.records in
    let m = records c.args.frozen.now in
    let it = c.loop-head.invariant in
    let root = c.loop-head.self-inside.root in
    let path = c.loop-head.self-inside.path in
    let node = c.loop-head.node in
    let above : 0 < level_of (m node) = (let test = c.loop-head-test.true in let is = it.level in omega arith) in
    let child : c.child_at-node.result ≡ word_at m node 18 = c.child_at-node.ensures.child ∙ ap (λ (f : g.row.F.Denot). word_at (records f) node 18) it.same in
    let same = c.child_at-node.ensures.same ∙ it.same in (
      omega arith,
      subst (λ (f : g.row.F.Denot). HasWord (records f) c.child_at-node.result 0) (sym same)
          (subst (λ q. 0 < length (m q)) (sym child) (step-child m root path node 0 it.leads above (first-low m root path node it.leads))),
    )

pub loop-head-smaller : goal.loop-head-smaller
loop-head-smaller g c =
    let records = g.F.Frozen.records in
    let m = records c.args.frozen.now in
    let it = c.loop-head.invariant in
    let root = c.loop-head.self-inside.root in
    let path = c.loop-head.self-inside.path in
    let node = c.loop-head.node in
    let above : 0 < level_of (m node) = (let test = c.loop-head-test.true in let is = it.level in omega arith) in
    let child : c.child_at-node.result ≡ word_at m node 18 = c.child_at-node.ensures.child ∙ ap (λ (f : g.row.F.Denot). word_at (records f) node 18) it.same in
    let same = c.child_at-node.ensures.same ∙ it.same in
    let below : level_of (m c.child_at-node.result) ≡ level_of (m node) - 1 =
    child-level m root path node 0 c.child_at-node.result it.leads above (first-low m root path node it.leads) child in
    let read : c.read_head-head-in-loop-head.result.level ≡ level_of (m c.child_at-node.result) =
    c.read_head-head-in-loop-head.ensures.level ∙ ap (λ (f : g.row.F.Denot). level_of (records f c.child_at-node.result)) same in
    let less : c.read_head-head-in-loop-head.result.level < c.loop-head.head.level = (let was = it.level in omega arith) in
    less

pub loop-head-preserved : goal.loop-head-preserved
loop-head-preserved g c =
    let records = g.F.Frozen.records in
    let m = records c.args.frozen.now in
    let it = c.loop-head.invariant in
    let root = c.loop-head.self-inside.root in
    let path = c.loop-head.self-inside.path in
    let node = c.loop-head.node in
    let above : 0 < level_of (m node) = (let test = c.loop-head-test.true in let is = it.level in omega arith) in
    let child : c.child_at-node.result ≡ word_at m node 18 = c.child_at-node.ensures.child ∙ ap (λ (f : g.row.F.Denot). word_at (records f) node 18) it.same in
    let same = c.child_at-node.ensures.same ∙ it.same in
    let head = c.read_head-head-in-loop-head in
    let leads = leads-child m root path node 0 c.child_at-node.result it.leads above (first-low m root path node it.leads) child in
    record {
      same = head.ensures.same ∙ same;
      root = it.root;
      leads = subst (λ p. Leads m root p c.child_at-node.result) (sym c.push.ensures) leads;
      level = head.ensures.level ∙ ap (λ (f : g.row.F.Denot). level_of (records f c.child_at-node.result)) same;
      used = head.ensures.used ∙ ap (λ (f : g.row.F.Denot). used_of (records f c.child_at-node.result)) same;
      pairs = ap (λ p. pairs_below m (level_of (m c.child_at-node.result)) c.child_at-node.result ++ pairs_behind m (level_of (m c.child_at-node.result)) p) c.push.ensures
          ∙ from-first m root path node c.child_at-node.result it.leads above child ∙ it.pairs;
    }

pub returns-clause-pairs : goal.returns-clause-pairs
returns-clause-pairs g c =
    let m = g.F.Frozen.records c.args.frozen.now in
    let it = c.loop-head.invariant in
    let low : level_of (m c.loop-head.node) ≡ 0 = (let test = c.loop-head-test.false in let is = it.level in omega arith) in
    at-first m c.loop-head.self-inside.root c.loop-head.self-inside.path c.loop-head.node c.loop-head.head.used c.read_words.new.into it.leads low it.used ∙ it.pairs

pub read_words-requires : goal.read_words-requires
read_words-requires g c =
    let m = g.F.Frozen.records c.args.frozen.now in
    let it = c.loop-head.invariant in
    (omega arith, rw it.same (step-size m c.loop-head.self-inside.root c.loop-head.self-inside.path c.loop-head.node it.leads))

pub invariant_of-self : goal.invariant_of-self
invariant_of-self g c =
    let m = g.F.Frozen.records c.args.frozen.now in
    let it = c.loop-head.invariant in
    let most = step-room m c.loop-head.self-inside.root c.loop-head.self-inside.path c.loop-head.node it.leads in
    let used = it.used in
    omega arith

pub returns-clause-at : goal.returns-clause-at
returns-clause-at g c pair =
    let records = g.F.Frozen.records in
    let m = records c.args.frozen.now in
    let it = c.loop-head.invariant in
    let low : level_of (m c.loop-head.node) ≡ 0 = (let test = c.loop-head-test.false in let is = it.level in omega arith) in
    record { leads = it.leads; leaf = low; used = it.used; words = c.read_words.ensures.words ∙ ap (λ (f : g.row.F.Denot). records f c.loop-head.node) it.same }
