use Rattle.std.proofs.Common.{◌≡◌, ℕ, ◌+◌, ◌-◌, ◌<◌, List, length, map, ◌&&◌, ap, ap₂, sym, subst, ◌∙◌, arith}
use Rattle.std.proofs.lemmas.Bool.{and_parts}
use Rattle.std.proofs.lemmas.List.Elements.{All-push}
use Rattle.std.proofs.lemmas.List.Sums.{sum_by_push}
use Rattle.std.specs.VecDeque.{deque_capacity}
use Rattle.hold_lists.proofs.HeldLemmas.{held-tag, held-tag_none}
use Rattle.hold_lists.proofs.RunLemmas.{runs-few, rising-push}
use Rattle.hold_lists.specs.Held.{HeldEntry, HeldList, tagged_by}
use Rattle.hold_lists.specs.Runs.{held_of, tagged_count, IsHoldList}
use Rattle.hold_lists.specs.declared.Run.{Run}
use Rattle.hold_lists.proofs.HoldList.tag.Goals as goal

-- nothing is untagged
pub returns-then-count-eq0 : goal.returns-then-count-eq0
returns-then-count-eq0 g c =
    let kept = c.self.invariant in
    let tag = map (tagged_by c.args.generation c.args.commit) in
    let is = ap (λ (list : HeldList). list.held) c.self.view_is in
    let same = ap tag (sym is)
    ∙ held-tag_none c.self.inside.runs.items c.self.inside.entries.items c.args.generation c.args.commit
    (omega (arith, kept.counted, kept.within, c.if-count-eq0.true, c.len.ensures, c.self.inside.entries.ok.0))
    ∙ is in
    ap (λ held. record c.args.self.now { held = held }) (sym same)

pub push_back_reserved-requires : goal.push_back_reserved-requires
push_back_reserved-requires g c =
    let kept = c.self.invariant in
    omega (arith, runs-few c.self.inside.runs.items kept.filled, kept.counted, kept.within, kept.room, kept.run_room, c.if-count-eq0.false, c.len.ensures, c.self.inside.entries.ok.0, c.self.inside.runs.ok.0)

pub invariant_of-self : goal.invariant_of-self
invariant_of-self g c =
    let kept = c.self.invariant in
    let runs = c.self.inside.runs.items in
    let entries = c.self.inside.entries.items in
    let count = c.len.result - c.self.inside.tagged in
    let run : Run = record { generation = c.args.generation; commit = c.args.commit; count = count } in
    let sum = sum_by_push (λ (r : Run). r.count) runs run in
    let size : c.len.result ≡ length entries = c.len.ensures ∙ c.self.inside.entries.ok.0 in
    subst (λ items. IsHoldList items entries (c.self.inside.tagged + count) c.self.inside.most (c.self.inside.rises && c.follows.result) (deque_capacity c.self.inside.entries)
    (deque_capacity c.push_back_reserved.new.self))
    (sym {A = List Run} c.push_back_reserved.ensures.items)
    (record {
      counted = let counted = kept.counted in omega arith;
      within = let within = kept.within in omega arith;
      filled = All-push (λ (r : Run). 0 < r.count) runs run kept.filled (omega (arith, c.if-count-eq0.false));
      room = kept.room;
      entry_room = kept.entry_room;
      run_room = omega (arith, kept.run_room, c.push_back_reserved.ensures.capacity);
      rising = λ both. let parts = and_parts c.self.inside.rises c.follows.result both in rising-push runs run (kept.rising parts.0) (c.follows.ensures parts.1);
    })

pub returns : goal.returns
returns g c =
    let make : List HeldEntry → ℕ → HeldList = λ held room. record { held = held; room = room } in
    let kept = c.self.invariant in
    let runs = c.self.inside.runs.items in
    let entries = c.self.inside.entries.items in
    let run : Run = record { generation = c.args.generation; commit = c.args.commit; count = c.len.result - c.self.inside.tagged } in
    let all : tagged_count runs + run.count ≡ length entries = omega (arith, kept.counted, kept.within, c.len.ensures, c.self.inside.entries.ok.0) in
    ap₂ make
    (ap (λ items. held_of items entries) c.push_back_reserved.ensures.items
    ∙ sym (held-tag runs entries run all)
    ∙ ap (λ (list : HeldList). map (tagged_by c.args.generation c.args.commit) list.held) c.self.view_is)
    (ap (λ (list : HeldList). list.room) c.self.view_is)
