use Rattle.std.proofs.Common.{◌≡◌, false, length, refl, sym, ap, subst, ◌∙◌, arith}
use Rattle.std.proofs.Math.ListN.{length-set}
use Rattle.std.proofs.lemmas.List.{get_or_read, length_push, nil_from_length}
use Rattle.std.proofs.lemmas.Bool.{not-true}
use Rattle.entry_ledger.specs.declared.state.State.{State}
use Rattle.entry_ledger.specs.declared.state.State.TheVariants.{Free, Made}
use Rattle.entry_ledger.specs.States.{is_free_state, is_touched, state_at}
use Rattle.entry_ledger.specs.Stacks.{IsStack}
use Rattle.entry_ledger.proofs.StackSteps.{stack-room, stack-enter, stack-pop, stack-top, stack-none, stack-some}
use Rattle.entry_ledger.proofs.shelf.Shelf.take.Goals as goal

pub is_returned-requires : goal.is_returned-requires
is_returned-requires c =
    let s = c.self.inside in
    let k = c.self.invariant in
    let top = stack-top Free is_free_state s.states.items c.pop.new.self.items c.in-Some.entry
    (subst (IsStack Free is_free_state s.states.items) c.in-Some.ensures.items k.free_is) in
    let state = get_or_read s.states.items c.in-Some.entry _ top.0 c.index-state.ensures Free in
    ap is_free_state state ∙ top.1

pub enter-requires : goal.enter-requires
enter-requires c e =
    let s = c.self.inside in
    let k = c.self.invariant in
    let top = stack-top Free is_free_state s.states.items c.pop.new.self.items c.in-Some.entry
    (subst (IsStack Free is_free_state s.states.items) c.in-Some.ensures.items k.free_is) in
    let state = get_or_read s.states.items c.in-Some.entry _ top.0 c.index-state.ensures Free in
    let was : is_touched (state_at s.states.items c.in-Some.entry) ≡ false = ap is_touched (sym state) ∙ sym c.is_returned.ensures ∙ not-true _ e in
    let less = stack-room Free is_touched s.states.items s.touched.items k.touched_is c.in-Some.entry Made top.0 was refl in
    omega (arith, less, s.touched.ok.0, k.taken, k.room3)

pub invariant_of-self : goal.invariant_of-self
invariant_of-self c =
    let s = c.self.inside in
    let k = c.self.invariant in
    let free = subst (IsStack Free is_free_state s.states.items) c.in-Some.ensures.items k.free_is in
    let top = stack-top Free is_free_state s.states.items c.pop.new.self.items c.in-Some.entry free in
    let state = get_or_read s.states.items c.in-Some.entry _ top.0 c.index-state.ensures Free in
    let touched = stack-enter Free is_touched s.states.items s.touched.items k.touched_is c.in-Some.entry Made top.0 refl c.is_returned.result (c.is_returned.ensures ∙ ap is_touched state) in
    let long = length-set {A = State} s.states.items c.in-Some.entry Made in
    record {
      taken = omega (arith, long, k.taken);
      fits = k.fits;
      free_is = stack-pop Free is_free_state s.states.items c.pop.new.self.items c.in-Some.entry free Made refl;
      touched_is = rw c.enter.ensures.stack touched;
      room1 = k.room1;
      room2 = omega (arith, k.room2, c.pop.ensures.capacity);
      room3 = omega (arith, k.room3, c.enter.ensures.capacity);
    }

pub invariant_of-self-2 : goal.invariant_of-self-2
invariant_of-self-2 c =
    let s = c.self.inside in
    let k = c.self.invariant in
    let none = c.in_default.ensures.cases in
    let left : c.pop.new.self.items ≡ s.free.items =
    nil_from_length _ (omega (arith, none.1, c.pop.new.self.ok.0)) ∙ sym (nil_from_length s.free.items (omega (arith, none.0, s.free.ok.0))) in
    let entry : c.len-entry.result ≡ length s.states.items = c.len-entry.ensures ∙ s.states.ok.0 in
    let free = stack-none Free is_free_state s.states.items s.free.items k.free_is Made refl in
    let touched = stack-some Free is_touched s.states.items s.touched.items k.touched_is Made refl in
    let long = ap length c.put.ensures.items ∙ length_push s.states.items Made in
    record {
      taken = omega (arith, long, entry, k.taken, c.if-entry-self.false);
      fits = k.fits;
      free_is = rw (c.put.ensures.items, left) free;
      touched_is = rw (c.put.ensures.items, c.put-2.ensures.items, entry) touched;
      room1 = omega (arith, k.room1, c.put.ensures.capacity);
      room2 = omega (arith, k.room2, c.pop.ensures.capacity);
      room3 = omega (arith, k.room3, c.put-2.ensures.capacity);
    }
