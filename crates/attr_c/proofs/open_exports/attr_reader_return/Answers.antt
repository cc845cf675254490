use Rattle.std.proofs.Common.{◌≡◌, ap, subst, sym, ◌∙◌, w32}
use Rattle.std.proofs.lemmas.Int.{to_z-of_z}
use Rattle.attr_c.specs.Engines.{KeepsWaiting}
use Rattle.attr_c.specs.Seats.{place_bits, IsForeign, TakesReader}
use Rattle.attr_c.specs.Stores.{open_bits}
use Rattle.attr_c.specs.declared.seat.SeatState.TheVariants.{Free}
use Rattle.attr_c.specs.declared.state.AnyOpen.{AnyOpen}
use Rattle.attr_c.specs.declared.state.Engine.{Engine}
use Rattle.attr_c.proofs.SeatLemmas.{foreign_seat, own_seat}
use Rattle.attr_c.proofs.open_exports.attr_reader_return.Goals as goal

pub returns-in-Some-clause-returned : goal.returns-in-Some-clause-returned
returns-in-Some-clause-returned c = λ is.
    let back = to_z-of_z w32 c.put_back.result (record { sfits = c.put_back.type_inv }) in
    let was = ap (λ (e : Engine). e.inner) c.get_mut-engine.ensures.value in
    record {
      reader = c.in-Some.reader;
      is = c.in-Some.ensures.some;
      last = subst (λ (o : AnyOpen). TakesReader c.put_back.new.inner o c.in-Some.reader) was (c.put_back.ensures.returned (sym back ∙ is));
    }

pub returns-in-Some-clause-lost : goal.returns-in-Some-clause-lost
returns-in-Some-clause-lost c = λ is.
    let back = to_z-of_z w32 c.put_back.result (record { sfits = c.put_back.type_inv }) in
    let was = ap (λ (e : Engine). e.inner) c.get_mut-engine.ensures.value in
    foreign_seat c.args.at.now.value.inner c.args.seat.value.place c.in-Some.reader c.in-Some.ensures.some
    (subst (λ (o : AnyOpen). IsForeign o (Free c.in-Some.reader)) was (c.put_back.ensures.lost (sym back ∙ is)))

pub returns-in-Some-clause-others : goal.returns-in-Some-clause-others
returns-in-Some-clause-others c = λ not_ok not_lost.
    let back = to_z-of_z w32 c.put_back.result (record { sfits = c.put_back.type_inv }) in
    back ∙ c.put_back.ensures.others (λ is. not_ok (back ∙ is)) (λ is. not_lost (back ∙ is))

pub returns-in-Some-clause-left : goal.returns-in-Some-clause-left
returns-in-Some-clause-left c = λ not_ok.
    let back = to_z-of_z w32 c.put_back.result (record { sfits = c.put_back.type_inv }) in
    let was = ap (λ (e : Engine). e.inner) c.get_mut-engine.ensures.value in
    subst (λ (o : AnyOpen). KeepsWaiting o c.put_back.new.inner) was (c.put_back.ensures.left (λ is. not_ok (back ∙ is)))

pub returns-in-Some-clause-own : goal.returns-in-Some-clause-own
returns-in-Some-clause-own c = λ not_lost.
    let back = to_z-of_z w32 c.put_back.result (record { sfits = c.put_back.type_inv }) in
    let was = ap (λ (e : Engine). e.inner) c.get_mut-engine.ensures.value in
    own_seat c.args.at.now.value.inner c.args.seat.value.place c.in-Some.reader c.in-Some.ensures.some
    (subst (λ (o : AnyOpen). place_bits (Free c.in-Some.reader) ≡ open_bits o) was (c.put_back.ensures.own (λ is. not_lost (back ∙ is))))
