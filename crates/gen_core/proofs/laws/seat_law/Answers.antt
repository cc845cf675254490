use Rattle.gen_core.proofs.GoodViews.{some-commit, floor-last, last-in, records-last, records-placed, records-active, kept-placed, unkept-avoids}
use Rattle.gen_core.proofs.laws.seat_law.Goals as goal

pub returns : goal.returns
returns c = record {
  last = λ w good. record { some = some-commit w good; kept = floor-last w good; is = last-in w good };
  records = λ w ref ws good at. records-last w good ref ws at;
  active = λ w ref good some. record { entry = (records-placed w good ref some).inside; active = records-active w good ref some };
  placed = λ w n ref image ws good from is at. kept-placed w good n image from is ref ws at;
  unkept = λ w ref i width good lies lt unkept. unkept-avoids w good ref i width lies.active lies.entry lt unkept;
}
