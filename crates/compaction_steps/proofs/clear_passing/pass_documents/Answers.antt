use Rattle.std.proofs.Common.{◌+◌, ◌<◌, ◌^◌, ℕ, nat_cmp, sym, subst, ◌∙◌, arith}
use Rattle.std.specs.List.{AllByRecursion}
use Rattle.compaction_moves.specs.Cleared.{trees_of_roots}
use Rattle.tree_read.specs.Pairs.{seek}
use Rattle.tree_read.specs.Trees.{tree_pairs}
use Rattle.tree_read.specs.SearchPlaces.{pairs_from, IsAt}
use Rattle.enum_dictionary.proofs.BehindLemmas.{All-seek}
use Rattle.attr_compaction.proofs.NextLemmas.{unit_all}
use Rattle.compaction_steps.specs.Sights.{HasItemRecords, StandsApart, IsRun}
use Rattle.compaction_steps.specs.declared.sights.Sight.TheVariants as sights
use Rattle.compaction_steps.proofs.PairLemmas.{all_items, all_numbers}
use Rattle.compaction_steps.proofs.ClearPassLemmas.{documents_pass}
use Rattle.compaction_steps.proofs.RunLemmas.{last_has}
use Rattle.compaction_steps.proofs.clear_passing.pass_documents.Goals as goal

pub overflow_add-doc : goal.overflow_add-doc
overflow_add-doc g c = omega (arith, c.ranges.doc.fits)

pub seek-cursor-requires : goal.seek-cursor-requires
seek-cursor-requires g c =
    (omega arith, (omega arith, (c.requires.documents_are.map_is.tree_is, unit_all (tree_pairs (g.F.Frozen.records c.args.frozen.now) c.args.roots.documents))))

pub run_from-run-requires : goal.run_from-run-requires
run_from-run-requires g c =
    let records = g.F.Frozen.records in
    let type = c.args.field.now.value in
    let kind = c.args.field.now.kind in
    let m = records c.args.frozen.now in
    let cursor = c.seek-cursor.result in
    let back = sym c.seek-cursor.ensures.same in (
      omega arith,
      (
        subst (λ (f : g.row.F.Denot). IsAt (records f) cursor) back c.seek-cursor.ensures.at,
        subst (λ (f : g.row.F.Denot). AllByRecursion (HasItemRecords kind type (records f)) (pairs_from (records f) cursor)) back
            (subst (AllByRecursion (HasItemRecords kind type m)) (sym c.seek-cursor.ensures.pairs)
            (All-seek (HasItemRecords kind type m) (λ key. nat_cmp key (c.args.doc + 1)) (tree_pairs m c.args.roots.documents) (all_items kind type m c.args.roots.documents c.requires.documents_are))),
      ),
    )

pub returns-then-run-eq0-clause-same : goal.returns-then-run-eq0-clause-same
returns-then-run-eq0-clause-same g c = c.run_from-run.ensures.same ∙ c.seek-cursor.ensures.same

pub overflow_cast-result : goal.overflow_cast-result
overflow_cast-result g c =
    let records = g.F.Frozen.records in
    let kind = c.args.field.now.kind in
    let m = records c.args.frozen.now in
    let count = c.run_from-run.result.pairs in
    let last = c.run_from-run.result.last in
    let ps = seek (λ key. nat_cmp key (c.args.doc + 1)) (tree_pairs m c.args.roots.documents) in
    let run = subst (λ qs. IsRun (StandsApart g.row.OFFSET_BITS c.victim.result kind m sights.Items) qs count last) c.seek-cursor.ensures.pairs
    (subst (λ (f : g.row.F.Denot). IsRun (StandsApart g.row.OFFSET_BITS c.victim.result kind (records f) sights.Items) (pairs_from (records f) c.seek-cursor.result) count last)
    c.seek-cursor.ensures.same c.run_from-run.ensures.run) in
    let one = last_has (λ (k : ℕ). k < 2 ^ 32) count ps
    (All-seek (λ p. p.0 < 2 ^ 32) (λ key. nat_cmp key (c.args.doc + 1)) (tree_pairs m c.args.roots.documents)
    (all_numbers (tree_pairs m c.args.roots.documents) c.requires.documents_are.map_is.pairs))
    (let some = c.if-run-eq0.false in omega arith) run.few in
    let below : last < 2 ^ 32 = subst (λ (k : ℕ). k < 2 ^ 32) (sym run.last_is) one in
    omega arith

pub returns-clause-passes : goal.returns-clause-passes
returns-clause-passes g c =
    let records = g.F.Frozen.records in
    let bits = g.row.OFFSET_BITS in
    let kind = c.args.field.now.kind in
    let m = records c.args.frozen.now in
    let a = trees_of_roots c.args.field.now c.args.roots in
    let at = c.args.plan.now.place in
    let count = c.run_from-run.result.pairs in
    let last = c.run_from-run.result.last in
    let run = subst (λ (v : ℕ). IsRun (StandsApart bits v kind m sights.Items) (seek (λ key. nat_cmp key (c.args.doc + 1)) (tree_pairs m c.args.roots.documents)) count last) c.victim.ensures
    (subst (λ qs. IsRun (StandsApart bits c.victim.result kind m sights.Items) qs count last) c.seek-cursor.ensures.pairs
    (subst (λ (f : g.row.F.Denot). IsRun (StandsApart bits c.victim.result kind (records f) sights.Items) (pairs_from (records f) c.seek-cursor.result) count last)
    c.seek-cursor.ensures.same c.run_from-run.ensures.run)) in
    documents_pass bits c.args.plan.now.victim at m a count last (let some = c.if-run-eq0.false in omega arith) c.args.doc c.requires run

pub returns-clause-few : goal.returns-clause-few
returns-clause-few g c = c.run_from-run.ensures.few

pub returns-clause-same : goal.returns-clause-same
returns-clause-same g c = c.run_from-run.ensures.same ∙ c.seek-cursor.ensures.same
