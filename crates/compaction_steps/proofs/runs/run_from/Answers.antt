use Rattle.std.proofs.Common.{◌≡◌, ◌≢◌, ◌+◌, ℕ, suc, [], drop, refl, sym, ap, subst, ◌∙◌, arith}
use Rattle.std.specs.List.{AllByRecursion}
use Rattle.tree_read.specs.SearchPlaces.{first_key, first_value, pairs_from, IsAt}
use Rattle.compaction_steps.specs.Sights.{StandsApart, IsPairOf, IsRun}
use Rattle.compaction_steps.proofs.RunLemmas.{all_dropped, rest_dropped, run_more}
use Rattle.compaction_steps.proofs.runs.run_from.Goals as goal

pub loop-pairs-init : goal.loop-pairs-init
loop-pairs-init g c = record { same = refl; at = c.requires.at; rest = refl; run = record { few = omega arith; all = tt; last_is = refl } }

pub next_is_apart-requires : goal.next_is_apart-requires
next_is_apart-requires g c =
    let records = g.F.Frozen.records in
    let m = records c.args.frozen.now in
    let cursor = c.loop-pairs.cursor in
    let ps = pairs_from m c.args.cursor.now in
    let kind = c.args.kind in
    let type = c.args.value_type in
    let sight = c.args.sight in
    let back = sym c.loop-pairs.invariant.same in (
      omega arith,
      (
        subst (λ (f : g.row.F.Denot). IsAt (records f) cursor) back c.loop-pairs.invariant.at,
        subst (λ (f : g.row.F.Denot). AllByRecursion (IsPairOf kind type (records f) sight) (pairs_from (records f) cursor)) back
            (subst (AllByRecursion (IsPairOf kind type m sight)) (sym c.loop-pairs.invariant.rest) (all_dropped (IsPairOf kind type m sight) c.loop-pairs.pairs ps c.requires.pairs)),
      ),
    )

pub returns-then-not-next_is_apart-clause-run : goal.returns-then-not-next_is_apart-clause-run
returns-then-not-next_is_apart-clause-run g c = c.loop-pairs.invariant.run

pub returns-then-not-next_is_apart-clause-few : goal.returns-then-not-next_is_apart-clause-few
returns-then-not-next_is_apart-clause-few g c = let below = c.loop-pairs-test.true in omega arith

pub returns-then-not-next_is_apart-clause-same : goal.returns-then-not-next_is_apart-clause-same
returns-then-not-next_is_apart-clause-same g c = c.next_is_apart.ensures.same ∙ c.loop-pairs.invariant.same

pub key-last-requires : goal.key-last-requires
key-last-requires g c = (omega arith, c.next_is_apart.ensures.some c.if-not-next_is_apart.false)

pub next-requires : goal.next-requires
next-requires g c =
    let records = g.F.Frozen.records in
    let same = c.next_is_apart.ensures.same ∙ c.loop-pairs.invariant.same in
    (omega arith, (subst (λ (f : g.row.F.Denot). IsAt (records f) c.loop-pairs.cursor) (sym same) c.loop-pairs.invariant.at, c.next_is_apart.ensures.some c.if-not-next_is_apart.false))

pub loop-pairs-preserved : goal.loop-pairs-preserved
loop-pairs-preserved g c =
    let records = g.F.Frozen.records in
    let bits = g.row.OFFSET_BITS in
    let m = records c.args.frozen.now in
    let cursor = c.loop-pairs.cursor in
    let ps = pairs_from m c.args.cursor.now in
    let i = c.loop-pairs.pairs in
    let before = c.loop-pairs.invariant in
    let told = c.if-not-next_is_apart.false in
    let same = c.next_is_apart.ensures.same ∙ before.same in
    let next : suc i ≡ i + 1 = omega arith in
    let some : drop i ps ≢ [] =
    subst (λ qs. qs ≢ []) before.rest (subst (λ (f : g.row.F.Denot). pairs_from (records f) cursor ≢ []) before.same (c.next_is_apart.ensures.pairs told)) in
    let here : StandsApart bits c.args.buffer c.args.kind m c.args.sight (first_key (drop i ps), first_value (drop i ps)) =
    subst (λ qs. StandsApart bits c.args.buffer c.args.kind m c.args.sight (first_key qs, first_value qs)) before.rest
    (subst (λ (f : g.row.F.Denot). StandsApart bits c.args.buffer c.args.kind (records f) c.args.sight (first_key (pairs_from (records f) cursor), first_value (pairs_from (records f) cursor))) before.same
    (c.next_is_apart.ensures.apart told)) in
    let rest = subst (λ (f : g.row.F.Denot). pairs_from (records f) c.next.new.self ≡ drop 1 (pairs_from (records f) cursor)) same c.next.ensures.pairs in
    record {
      same = c.next.ensures.same ∙ same;
      at = subst (λ (f : g.row.F.Denot). IsAt (records f) c.next.new.self) same c.next.ensures.at;
      rest = rest ∙ ap (drop 1) before.rest ∙ rest_dropped i ps ∙ ap (λ (n : ℕ). drop n ps) next;
      run = subst (λ (n : ℕ). IsRun (StandsApart bits c.args.buffer c.args.kind m c.args.sight) ps n c.key-last.result) next
          (run_more (StandsApart bits c.args.buffer c.args.kind m c.args.sight) ps i c.loop-pairs.last c.key-last.result before.run some here (c.key-last.ensures m before.at ∙ ap first_key before.rest));
    }

pub returns-clause-run : goal.returns-clause-run
returns-clause-run g c =
    let m = g.F.Frozen.records c.args.frozen.now in
    let whole : c.loop-pairs.pairs ≡ c.args.most = (let end = c.loop-pairs.auto.pairs-end in let over = c.loop-pairs-test.false in omega arith) in
    subst (λ (n : ℕ). IsRun (StandsApart g.row.OFFSET_BITS c.args.buffer c.args.kind m c.args.sight) (pairs_from m c.args.cursor.now) n c.loop-pairs.last) whole c.loop-pairs.invariant.run

pub returns-clause-few : goal.returns-clause-few
returns-clause-few g c = omega arith

pub returns-clause-same : goal.returns-clause-same
returns-clause-same g c = c.loop-pairs.invariant.same
