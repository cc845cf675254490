use Rattle.std.proofs.Common.{◌≡◌, ℕ, ◌+◌, ◌-◌, ◌<◌, ◌≤◌, List, length, get_or, Option, Some, OnSome, ap, ap₂, sym, subst, ◌∙◌, arith}
use Rattle.std.specs.Option.{option_map}
use Rattle.std.specs.Prelude.{All, find, remove}
use Rattle.std.proofs.lemmas.List.Edits.{length-remove}
use Rattle.hold_lists.proofs.HeldLemmas.{find-none, place-inside, taken}
use Rattle.hold_lists.proofs.RunLemmas.{at-all, shortened-count, shortened-filled, shortened-rising}
use Rattle.hold_lists.specs.Held.{HeldEntry, HeldList, is_below, without_first}
use Rattle.hold_lists.specs.Runs.{nth_run, held_of, tagged_count, under, shortened, IsRunBelow, IsRising}
use Rattle.hold_lists.specs.declared.Run.{Run}
use Rattle.hold_lists.specs.declared.RunPlace.{RunPlace}
use Rattle.hold_lists.proofs.HoldList.pop_below.Given.{Over}
use Rattle.hold_lists.proofs.HoldList.pop_below.Goals.{After-remove}
use Rattle.hold_lists.proofs.HoldList.pop_below.Goals as goal

pub returns-in-None-clause-first : goal.returns-in-None-clause-first
returns-in-None-clause-first g c =
    let entry = option_map (λ (held : HeldEntry). held.entry) in
    sym (ap (λ (list : HeldList). entry (find (is_below c.args.oldest) list.held)) (sym c.self.view_is)
    ∙ ap entry (find-none c.args.oldest c.self.inside.runs.items c.self.inside.entries.items c.in-None.ensures.none))

-- what the list was, what was taken from it, and what is left
record Met (runs : List Run) (entries : List ℕ) (now : HeldList) (oldest : ℕ) (place : RunPlace) (answer : Option ℕ) (next : List ℕ) : Type 0 where
  pub is : held_of runs entries ≡ now.held
  pub inside : place.before < length entries
  pub some : 0 < (nth_run runs place.run).count
  pub result : answer ≡ Some (get_or entries place.before 0)
  pub items : next ≡ remove entries place.before
  pub taken : (find (is_below oldest) (held_of runs entries) ≡ Some (under (nth_run runs place.run) (get_or entries place.before 0)))
      × (without_first (is_below oldest) (held_of runs entries) ≡ held_of (shortened runs place.run) (remove entries place.before))

on_some : {A P : Type 0} (option : Option A) (x : A) → option ≡ Some x → OnSome option P → P
on_some {A} {P} option x is fact = let Fact : Option A → Type 0 = λ o. OnSome o P in subst Fact is fact

met : (g : Over) (c : After-remove g) → Met c.self.inside.runs.items c.self.inside.entries.items c.args.self.now c.args.oldest c.in-Some.place c.remove.result c.remove.new.self.items
met g c =
    let kept = c.self.invariant in
    let runs = c.self.inside.runs.items in
    let entries = c.self.inside.entries.items in
    let place = c.in-Some.place in
    let at : IsRunBelow runs c.args.oldest place = c.in-Some.ensures.some in
    let some = at-all runs (λ run. 0 < run.count) place.run at.inside kept.filled in
    let fits : tagged_count runs ≤ length entries = omega (arith, kept.counted, kept.within) in
    let inside : place.before < length entries = omega (arith, place-inside runs place.run at.inside some, at.before, fits) in
    let result = c.remove.ensures.succeeds 0 (omega (arith, inside, c.self.inside.entries.ok.0)) in
    record {
      is = ap (λ (list : HeldList). list.held) c.self.view_is;
      inside = inside;
      some = some;
      result = result;
      items = on_some c.remove.result (get_or entries place.before 0) result c.remove.ensures.items;
      taken = taken c.args.oldest runs entries place.run place.before at.inside at.before at.below at.earlier kept.filled fits;
    }

pub invariant_of-self : goal.invariant_of-self
invariant_of-self g c =
    let kept = c.self.invariant in
    let runs = c.self.inside.runs.items in
    let at : IsRunBelow runs c.args.oldest c.in-Some.place = c.in-Some.ensures.some in
    let m = met g c in
    let count = shortened-count runs c.in-Some.place.run at.inside m.some in
    let size = length-remove c.self.inside.entries.items c.in-Some.place.before m.inside in
    let next = ap length m.items in
    let capacity = c.remove.ensures.capacity in
    let run_capacity = c.shorten.ensures.capacity in
    record {
      counted = let counted = kept.counted in ap tagged_count c.shorten.ensures.runs ∙ (let less : tagged_count (shortened runs c.in-Some.place.run) ≡ c.self.inside.tagged - 1 = omega arith in less);
      within = let within = kept.within in omega arith;
      filled = subst (All (λ run. 0 < run.count)) (sym c.shorten.ensures.runs) (shortened-filled runs c.in-Some.place.run at.inside kept.filled);
      room = let room = kept.room in omega arith;
      entry_room = let room = kept.entry_room in omega arith;
      run_room = let room = kept.run_room in omega arith;
      rising = λ rises. subst IsRising (sym c.shorten.ensures.runs) (shortened-rising runs c.in-Some.place.run at.inside (kept.rising rises));
    }

pub returns-in-Some-clause-first : goal.returns-in-Some-clause-first
returns-in-Some-clause-first g c =
    let m = met g c in
    let entry = option_map (λ (held : HeldEntry). held.entry) in
    m.result ∙ sym (ap (λ held. entry (find (is_below c.args.oldest) held)) (sym m.is) ∙ ap entry m.taken.0)

pub returns-in-Some-clause-left : goal.returns-in-Some-clause-left
returns-in-Some-clause-left g c = rw (met g c).result tt

pub returns-in-Some-clause-rest : goal.returns-in-Some-clause-rest
returns-in-Some-clause-rest g c =
    let make : List HeldEntry → ℕ → HeldList = λ held room. record { held = held; room = room } in
    let m = met g c in
    let kept = c.self.invariant in
    let size = length-remove c.self.inside.entries.items c.in-Some.place.before m.inside in
    let next = ap length m.items in
    let was = ap (λ (list : HeldList). list.room) c.self.view_is in
    let room : c.self.inside.most - length c.remove.new.self.items ≡ c.args.self.now.room + 1 = let room = kept.room in omega arith in
    rw m.result (ap₂ make
    (ap₂ held_of c.shorten.ensures.runs m.items ∙ sym m.taken.1 ∙ ap (without_first (is_below c.args.oldest)) m.is)
    room)
