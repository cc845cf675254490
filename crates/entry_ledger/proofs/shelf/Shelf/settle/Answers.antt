use Rattle.std.proofs.Common.{◌≡◌, ◌<◌, true, not, ◌&&◌, cond, [], ◌∷◌, ◌++◌, length, set, refl, sym, ap, subst, ◌∙◌, arith}
use Rattle.std.proofs.Math.ListN.{length-set}
use Rattle.std.proofs.lemmas.List.{get_or_read}
use Rattle.std.proofs.lemmas.Bool.{and_parts, not-true}
use Rattle.entry_ledger.specs.declared.state.State.{State}
use Rattle.entry_ledger.specs.declared.state.State.TheVariants.{Free}
use Rattle.entry_ledger.specs.States.{ShelfView, is_free_state, is_touched, is_freed, state_at, settled_state, with_state_at}
use Rattle.entry_ledger.specs.Stacks.{IsStack}
use Rattle.entry_ledger.proofs.StackSteps.{stack-room, stack-settle, stack-pop, stack-top}
use Rattle.entry_ledger.proofs.Settling.{settled-touched, settled-free, freed-is}
use Rattle.entry_ledger.proofs.shelf.Shelf.settle.Goals as goal

pub enter_free-requires : goal.enter_free-requires
enter_free-requires c e =
    let s = c.self.inside in
    let k = c.self.invariant in
    let place = c.in_ok-place.place in
    let top = stack-top Free is_touched s.states.items c.pop.new.self.items place (subst (IsStack Free is_touched s.states.items) c.in_ok-place.ensures.items k.touched_is) in
    let state = get_or_read s.states.items place _ top.0 c.index-was.ensures Free in
    let now : State = settled_state c.args.accepts c.args.last c.args.generation (state_at s.states.items place) in
    let freed : (is_free_state now && not (is_free_state (state_at s.states.items place))) ≡ true =
    sym (freed-is c.args.accepts c.args.last c.args.generation (state_at s.states.items place)) ∙ sym (c.is_freed.ensures ∙ ap (is_freed c.args.accepts) state) ∙ e in
    let parts = and_parts _ _ freed in
    let less = stack-room Free is_free_state s.states.items s.free.items k.free_is place now top.0 (not-true _ parts.1) parts.0 in
    omega (arith, less, s.free.ok.0, k.taken, k.room2)

pub invariant_of-self-2 : goal.invariant_of-self-2
invariant_of-self-2 c =
    let s = c.self.inside in
    let k = c.self.invariant in
    let place = c.in_ok-place.place in
    let touched = subst (IsStack Free is_touched s.states.items) c.in_ok-place.ensures.items k.touched_is in
    let top = stack-top Free is_touched s.states.items c.pop.new.self.items place touched in
    let state = get_or_read s.states.items place _ top.0 c.index-was.ensures Free in
    let was : State = state_at s.states.items place in
    let now : State = c.settled-now.result in
    let after : now ≡ settled_state c.args.accepts c.args.last c.args.generation was = c.settled-now.ensures ∙ ap (settled_state c.args.accepts c.args.last c.args.generation) state in
    let freed : c.is_freed.result ≡ (is_free_state now && not (is_free_state was)) =
    c.is_freed.ensures ∙ ap (is_freed c.args.accepts) state ∙ freed-is c.args.accepts c.args.last c.args.generation was
    ∙ ap (λ t. is_free_state t && not (is_free_state was)) (sym after) in
    let free = stack-settle Free is_free_state s.states.items s.free.items k.free_is place now top.0 (is_free_state now) (is_free_state was) refl refl
    (λ e. ap is_free_state after ∙ settled-free c.args.accepts c.args.last c.args.generation was e) in
    let long = length-set {A = State} s.states.items place now in
    record {
      taken = omega (arith, long, k.taken);
      fits = k.fits;
      free_is = rw c.enter_free.ensures.stack (subst (λ t. IsStack Free is_free_state (set s.states.items place now) (cond t (s.free.items ++ place ∷ []) s.free.items)) (sym freed) free);
      touched_is = stack-pop Free is_touched s.states.items c.pop.new.self.items place touched now
          (ap is_touched after ∙ settled-touched c.args.accepts c.args.last c.args.generation was);
      room1 = k.room1;
      room2 = omega (arith, k.room2, c.enter_free.ensures.capacity);
      room3 = omega (arith, k.room3, c.pop.ensures.capacity);
    }

pub returns-clause-settled : goal.returns-clause-settled
returns-clause-settled c =
    let s = c.self.inside in
    let k = c.self.invariant in
    let place = c.in_ok-place.place in
    let top = stack-top Free is_touched s.states.items c.pop.new.self.items place (subst (IsStack Free is_touched s.states.items) c.in_ok-place.ensures.items k.touched_is) in
    let state = get_or_read s.states.items place _ top.0 c.index-was.ensures Free in
    record {
      below = subst (λ (v : ShelfView). place < length v.states) c.self.view_is top.0;
      was = subst (λ (v : ShelfView). c.index-was.result.now ≡ state_at v.states place) c.self.view_is state;
      touched = ap is_touched state ∙ top.1;
      now = c.settled-now.ensures;
      same = ap (λ (v : ShelfView). with_state_at v place c.settled-now.result) c.self.view_is;
    }
