use Rattle.std.proofs.Common.{◌-◌, length, sym, subst, arith, inl, inr}
use Rattle.std.proofs.lemmas.Bool.{cases_lt}
use Rattle.entry_ledger.specs.declared.state.State.TheVariants.{Free}
use Rattle.entry_ledger.specs.States.{is_free_state}
use Rattle.entry_ledger.specs.Stacks.{IsStack}
use Rattle.entry_ledger.proofs.StackSwaps.{stack-swapped}
use Rattle.entry_ledger.proofs.shelf.Shelf.call_next.Goals as goal

pub invariant_of-self : goal.invariant_of-self
invariant_of-self c =
    let s = c.self.inside in
    let k = c.self.invariant in
    let place = c.if-self-len.place in
    let later = c.put_last.new.free.items in
    let free : IsStack Free is_free_state s.states.items later = elim (cases_lt place (length s.free.items)) [
      | inl below ↦
          (let moved = c.put_last.ensures.swapped below in
          stack-swapped Free is_free_state s.states.items s.free.items later k.free_is c.put_last.ensures.length place (length s.free.items - 1) below (omega arith)
          (moved.0 0) (moved.1 0) (λ n a b. moved.2 n 0 a b))
      | inr over ↦ subst (IsStack Free is_free_state s.states.items) (sym (c.put_last.ensures.stays over)) k.free_is
    ] in
    record {
      taken = k.taken;
      fits = k.fits;
      free_is = free;
      touched_is = k.touched_is;
      room1 = k.room1;
      room2 = omega (arith, k.room2, c.put_last.ensures.capacity);
      room3 = k.room3;
    }
