-- Bounds on the entries made in one width.
use Rattle.std.proofs.Common.{◌≡◌, ℕ, ◌+◌, ◌*◌, ◌≤◌, ◌<◌, suc, ap, arith, suc-mul}
use Rattle.std.specs.Prelude.{min}
use Rattle.std.proofs.Math.Nat.{mul-le-mul_right}
use Rattle.store_api.specs.Ledgers.{OfWidth}
use Rattle.store_api.specs.Units.{MakesAtMost}
use Rattle.store_api.specs.Calls.{GivesBackOf, DropsOf, took_spare, took_buffer}

pub at_most-none : (capacity : ℕ) (c : OfWidth) → MakesAtMost capacity 0 c c
at_most-none capacity c = record { made = omega arith; fresh = omega arith; buffers = omega arith; room = omega arith }

pub at_most-then : (capacity first second : ℕ) (a b c : OfWidth) → MakesAtMost capacity first a b → MakesAtMost capacity second b c → MakesAtMost capacity (first + second) a c
at_most-then capacity first second a b c x y = record {
  made = omega (arith, x.made, y.made);
  fresh = omega (arith, x.fresh, y.fresh);
  buffers = omega (arith, x.buffers, y.buffers);
  room = omega (arith, x.room, y.room);
}

pub at_most-more : (capacity few most : ℕ) (a b : OfWidth) → few ≤ most → MakesAtMost capacity few a b → MakesAtMost capacity most a b
at_most-more capacity few most a b room x = record {
  made = omega (arith, x.made, room);
  fresh = omega (arith, x.fresh, room);
  buffers = omega (arith, x.buffers, room);
  room = omega (arith, x.room, room);
}

-- more to spare is no less room
min-more : (a b c : ℕ) → a ≤ b → min a c ≤ min b c
min-more a b c less = omega arith

pub at_most-back : (capacity : ℕ) (a b : OfWidth) → GivesBackOf a b → MakesAtMost capacity 0 a b
at_most-back capacity a b x = record {
  made = omega (arith, x.made);
  fresh = omega (arith, x.fresh);
  buffers = omega (arith, x.buffers);
  room = let fewer : b.buffers * capacity ≤ a.buffers * capacity = mul-le-mul_right capacity x.buffers in omega (arith, fewer, min-more a.spare b.spare capacity x.spare);
}

pub at_most-drop : (capacity : ℕ) (a b : OfWidth) → DropsOf a b → MakesAtMost capacity 0 a b
at_most-drop capacity a b x = record {
  made = omega (arith, x.made);
  fresh = omega (arith, x.even, x.spare);
  buffers = omega (arith, x.buffers);
  room = let fewer : b.buffers * capacity ≡ a.buffers * capacity = ap (λ n. n * capacity) x.buffers in omega (arith, fewer, min-more a.spare b.spare capacity x.spare);
}

pub at_most-spare : (capacity : ℕ) (a : OfWidth) → 0 < a.spare → MakesAtMost capacity 1 a (took_spare a)
at_most-spare capacity a some = record {
  made = omega arith;
  fresh = omega arith;
  buffers = omega arith;
  room = omega arith;
}

pub at_most-buffer : (capacity b : ℕ) (a : OfWidth) → a.spare ≡ 0 → MakesAtMost capacity 1 a (took_buffer capacity b a)
at_most-buffer capacity b a none = record {
  made = omega arith;
  fresh = omega arith;
  buffers = omega arith;
  room = let more : suc a.buffers * capacity ≡ a.buffers * capacity + capacity = suc-mul a.buffers capacity in
      let same : (a.buffers + 1) * capacity ≡ suc a.buffers * capacity = ap (λ n. n * capacity) (omega arith) in
      omega (arith, more, same, none);
}
