use Rattle.std.proofs.Common.{◌≡◌, ◌<◌, true, false, length, refl, sym, ap, subst, ◌∙◌, arith}
use Rattle.std.proofs.Math.ListN.{length-set}
use Rattle.std.proofs.lemmas.List.{get_or_read}
use Rattle.entry_ledger.specs.declared.state.State.{State}
use Rattle.entry_ledger.specs.declared.state.State.TheVariants.{Free, Returned}
use Rattle.entry_ledger.specs.States.{is_free_state, is_touched, is_used, state_at, dropped, ShelfView}
use Rattle.entry_ledger.proofs.StackSteps.{stack-room, stack-free, stack-enter, stack-keep}
use Rattle.entry_ledger.proofs.Settling.{used-free, dropped-touched, made-free}
use Rattle.entry_ledger.proofs.shelf.Shelf.drop_entry.Goals as goal

pub is_made-requires : goal.is_made-requires
is_made-requires c =
    let s = c.self.inside in
    let there : c.args.entry < length s.states.items = subst (λ (v : ShelfView). c.args.entry < length v.states) (sym c.self.view_is) c.requires.there in
    let used : is_used (state_at s.states.items c.args.entry) ≡ true = subst (λ (v : ShelfView). is_used (state_at v.states c.args.entry) ≡ true) (sym c.self.view_is) c.requires.used in
    let state = get_or_read s.states.items c.args.entry _ there c.index-state.ensures Free in
    ap is_used state ∙ used

pub dropped-after-requires : goal.dropped-after-requires
dropped-after-requires c =
    let s = c.self.inside in
    let there : c.args.entry < length s.states.items = subst (λ (v : ShelfView). c.args.entry < length v.states) (sym c.self.view_is) c.requires.there in
    let used : is_used (state_at s.states.items c.args.entry) ≡ true = subst (λ (v : ShelfView). is_used (state_at v.states c.args.entry) ≡ true) (sym c.self.view_is) c.requires.used in
    let state = get_or_read s.states.items c.args.entry _ there c.index-state.ensures Free in
    ap is_used state ∙ used

pub put_free-requires : goal.put_free-requires
put_free-requires c =
    let k = c.self.invariant in
    let s = c.self.inside in
    let there : c.args.entry < length s.states.items = subst (λ (v : ShelfView). c.args.entry < length v.states) (sym c.self.view_is) c.requires.there in
    let used : is_used (state_at s.states.items c.args.entry) ≡ true = subst (λ (v : ShelfView). is_used (state_at v.states c.args.entry) ≡ true) (sym c.self.view_is) c.requires.used in
    let state = get_or_read s.states.items c.args.entry _ there c.index-state.ensures Free in
    let less = stack-room Free is_free_state s.states.items s.free.items k.free_is c.args.entry Returned there (used-free _ used) refl in
    omega (arith, less, s.free.ok.0, k.taken, k.room2)

pub put-requires : goal.put-requires
put-requires c =
    let k = c.self.invariant in
    let s = c.self.inside in
    let there : c.args.entry < length s.states.items = subst (λ (v : ShelfView). c.args.entry < length v.states) (sym c.self.view_is) c.requires.there in
    let used : is_used (state_at s.states.items c.args.entry) ≡ true = subst (λ (v : ShelfView). is_used (state_at v.states c.args.entry) ≡ true) (sym c.self.view_is) c.requires.used in
    let state = get_or_read s.states.items c.args.entry _ there c.index-state.ensures Free in
    let was : is_touched (state_at s.states.items c.args.entry) ≡ false = ap is_touched (sym state) ∙ sym c.is_made.ensures ∙ c.if-is_made.false in
    let now : is_touched (dropped c.args.last (state_at s.states.items c.args.entry)) ≡ true = dropped-touched c.args.last _ used in
    let less = stack-room Free is_touched s.states.items s.touched.items k.touched_is c.args.entry
    (dropped c.args.last (state_at s.states.items c.args.entry)) there was now in
    omega (arith, less, s.touched.ok.0, k.taken, k.room3)

pub invariant_of-self : goal.invariant_of-self
invariant_of-self c =
    let k = c.self.invariant in
    let s = c.self.inside in
    let there : c.args.entry < length s.states.items = subst (λ (v : ShelfView). c.args.entry < length v.states) (sym c.self.view_is) c.requires.there in
    let used : is_used (state_at s.states.items c.args.entry) ≡ true = subst (λ (v : ShelfView). is_used (state_at v.states c.args.entry) ≡ true) (sym c.self.view_is) c.requires.used in
    let state = get_or_read s.states.items c.args.entry _ there c.index-state.ensures Free in
    let made : is_touched (state_at s.states.items c.args.entry) ≡ true = ap is_touched (sym state) ∙ sym c.is_made.ensures ∙ c.if-is_made.true in
    let free = stack-free Free is_free_state s.states.items s.free.items k.free_is c.args.entry Returned there (used-free _ used) true refl in
    let long = length-set {A = State} s.states.items c.args.entry Returned in
    record {
      taken = omega (arith, long, k.taken);
      fits = k.fits;
      free_is = rw c.put_free.ensures.items free;
      touched_is = stack-keep Free is_touched s.states.items s.touched.items k.touched_is c.args.entry Returned there (sym made);
      room1 = k.room1;
      room2 = omega (arith, k.room2, c.put_free.ensures.capacity);
      room3 = k.room3;
    }

pub invariant_of-self-2 : goal.invariant_of-self-2
invariant_of-self-2 c =
    let k = c.self.invariant in
    let s = c.self.inside in
    let there : c.args.entry < length s.states.items = subst (λ (v : ShelfView). c.args.entry < length v.states) (sym c.self.view_is) c.requires.there in
    let used : is_used (state_at s.states.items c.args.entry) ≡ true = subst (λ (v : ShelfView). is_used (state_at v.states c.args.entry) ≡ true) (sym c.self.view_is) c.requires.used in
    let state = get_or_read s.states.items c.args.entry _ there c.index-state.ensures Free in
    let was : is_touched (state_at s.states.items c.args.entry) ≡ false = ap is_touched (sym state) ∙ sym c.is_made.ensures ∙ c.if-is_made.false in
    let after : c.dropped-after.result ≡ dropped c.args.last (state_at s.states.items c.args.entry) = c.dropped-after.ensures ∙ ap (dropped c.args.last) state in
    let now : is_touched c.dropped-after.result ≡ true = ap is_touched after ∙ dropped-touched c.args.last _ used in
    let held : is_free_state c.dropped-after.result ≡ false = ap is_free_state after ∙ sym (made-free c.args.last _ used) ∙ was in
    let touched = stack-enter Free is_touched s.states.items s.touched.items k.touched_is c.args.entry c.dropped-after.result there now false (sym was) in
    let long = length-set {A = State} s.states.items c.args.entry c.dropped-after.result in
    record {
      taken = omega (arith, long, k.taken);
      fits = k.fits;
      free_is = stack-keep Free is_free_state s.states.items s.free.items k.free_is c.args.entry c.dropped-after.result there (held ∙ sym (used-free _ used));
      touched_is = rw c.put.ensures.items touched;
      room1 = k.room1;
      room2 = k.room2;
      room3 = omega (arith, k.room3, c.put.ensures.capacity);
    }
