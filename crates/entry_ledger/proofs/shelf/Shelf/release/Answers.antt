use Rattle.std.proofs.Common.{◌≡◌, ◌<◌, true, length, refl, sym, subst, arith}
use Rattle.std.proofs.Math.ListN.{length-set}
use Rattle.entry_ledger.specs.declared.state.State.{State}
use Rattle.entry_ledger.specs.declared.state.State.TheVariants.{Free}
use Rattle.entry_ledger.specs.States.{is_free_state, is_touched, is_dropped, state_at, ShelfView}
use Rattle.entry_ledger.proofs.StackSteps.{stack-room, stack-push, stack-keep}
use Rattle.entry_ledger.proofs.Settling.{dropped-kept}
use Rattle.entry_ledger.proofs.shelf.Shelf.release.Goals as goal

pub put_free-requires : goal.put_free-requires
put_free-requires c =
    let s = c.self.inside in
    let k = c.self.invariant in
    let there : c.args.entry < length s.states.items = subst (λ (v : ShelfView). c.args.entry < length v.states) (sym c.self.view_is) c.requires.there in
    let was : is_dropped (state_at s.states.items c.args.entry) ≡ true = subst (λ (v : ShelfView). is_dropped (state_at v.states c.args.entry) ≡ true) (sym c.self.view_is) c.requires.dropped in
    let less = stack-room Free is_free_state s.states.items s.free.items k.free_is c.args.entry Free there (dropped-kept _ was).0 refl in
    omega (arith, less, s.free.ok.0, k.taken, k.room2)

pub invariant_of-self : goal.invariant_of-self
invariant_of-self c =
    let s = c.self.inside in
    let k = c.self.invariant in
    let there : c.args.entry < length s.states.items = subst (λ (v : ShelfView). c.args.entry < length v.states) (sym c.self.view_is) c.requires.there in
    let was : is_dropped (state_at s.states.items c.args.entry) ≡ true = subst (λ (v : ShelfView). is_dropped (state_at v.states c.args.entry) ≡ true) (sym c.self.view_is) c.requires.dropped in
    let kept = dropped-kept _ was in
    let long = length-set {A = State} s.states.items c.args.entry Free in
    record {
      taken = omega (arith, long, k.taken);
      fits = k.fits;
      free_is = rw c.put_free.ensures.items (stack-push Free is_free_state s.states.items s.free.items k.free_is c.args.entry Free there kept.0 refl);
      touched_is = stack-keep Free is_touched s.states.items s.touched.items k.touched_is c.args.entry Free there (sym kept.1);
      room1 = k.room1;
      room2 = omega (arith, k.room2, c.put_free.ensures.capacity);
      room3 = k.room3;
    }
