-- The best candidate among the first buffers.
use Rattle.std.proofs.Common.{◌≡◌, ℕ, ◌+◌, ◌*◌, ◌<◌, ◌≤◌, Bool, true, false, not, ◌&&◌, cond, List, length, Option, None, Some, refl, sym, ap, subst, arith, inl, inr, IfSome}
use Rattle.std.specs.Prelude.{nat_lt}
use Rattle.std.proofs.lemmas.Bool.{cases_lt, ltb-true}
use Rattle.buffer_states.specs.declared.Buffer.{Buffer}
use Rattle.buffer_states.specs.Buffers.{buffer_at, is_state_active, is_candidate, gain_of, IsVictim}

pub record IsBest (buffers : List Buffer) (i : ℕ) (victim : Option ℕ) (most : ℕ) : Type 0 where
  pub each : (a : ℕ) → a < i → gain_of (buffer_at buffers a) ≤ most
  pub none : victim ≡ None → most ≡ 0
  pub below : (v : ℕ) → victim ≡ Some v → v < i
  pub is : (v : ℕ) → victim ≡ Some v → gain_of (buffer_at buffers v) ≡ most
  pub some : (v : ℕ) → victim ≡ Some v → 0 < most
  pub first : (v : ℕ) → victim ≡ Some v → (a : ℕ) → a < v → gain_of (buffer_at buffers a) < most

some_same : (a b : ℕ) → Some a ≡ Some b → a ≡ b
some_same a b e = cc

pub best-start : (buffers : List Buffer) → IsBest buffers 0 None 0
best-start buffers = record {
  each = λ a below. absurd (omega (arith, below));
  none = λ e. refl;
  below = λ v e. absurd (cc);
  is = λ v e. absurd (cc);
  some = λ v e. absurd (cc);
  first = λ v e. absurd (cc);
}

-- one more that is no better
pub best-keep : (buffers : List Buffer) (i : ℕ) (victim : Option ℕ) (most : ℕ) → IsBest buffers i victim most → gain_of (buffer_at buffers i) ≤ most → IsBest buffers (i + 1) victim most
best-keep buffers i victim most best low = record {
  each = λ a below. elim (cases_lt a i) [
    | inl k ↦ best.each a k
    | inr k ↦ (let same : i ≡ a = omega (arith, below, k) in subst (λ n. gain_of (buffer_at buffers n) ≤ most) same low)
  ];
  none = best.none;
  below = λ v e. omega (arith, best.below v e);
  is = best.is;
  some = best.some;
  first = best.first;
}

-- one more that is better
pub best-take : (buffers : List Buffer) (i : ℕ) (victim : Option ℕ) (most gain : ℕ) → IsBest buffers i victim most → gain ≡ gain_of (buffer_at buffers i) → most < gain → IsBest buffers (i + 1) (Some i) gain
best-take buffers i victim most gain best is high = record {
  each = λ a below. elim (cases_lt a i) [
    | inl k ↦ omega (arith, best.each a k, high)
    | inr k ↦ (let same : i ≡ a = omega (arith, below, k) in subst (λ n. gain_of (buffer_at buffers n) ≤ gain) same (omega (arith, is)))
  ];
  none = λ e. absurd (cc);
  below = λ v e. (let same = some_same i v e in omega (arith, same));
  is = λ v e. subst (λ n. gain_of (buffer_at buffers n) ≡ gain) (some_same i v e) (sym is);
  some = λ v e. omega (arith, high);
  first = λ v e a k. (let same = some_same i v e in omega (arith, best.each a (omega (arith, same, k)), high));
}

gain-cases : (t : Bool) (dead : ℕ) → 0 < cond t dead 0 → t ≡ true
gain-cases true dead some = refl
gain-cases false dead some = absurd (omega (arith, some))

candidate-gain : (b : Buffer) → is_candidate b ≡ true → gain_of b ≡ b.dead
candidate-gain b is = ap (λ t. cond t b.dead 0) is

last_part : (a b c d : Bool) → (a && b && c && d) ≡ true → d ≡ true
last_part a b c true e = refl
last_part true true true false e = e
last_part true true false false e = e
last_part true false true false e = e
last_part true false false false e = e
last_part false true true false e = e
last_part false true false false e = e
last_part false false true false e = e
last_part false false false false e = e

candidate-dead : (b : Buffer) → is_candidate b ≡ true → 0 < b.dead
candidate-dead b is = omega (arith, ltb-true b.used (b.dead * 20) (last_part (is_state_active b.state) (not b.filled) (not b.sealed) (nat_lt b.used (b.dead * 20)) is))

pub best-victim : (buffers : List Buffer) (v most : ℕ) → IsBest buffers (length buffers) (Some v) most → IsVictim buffers v
best-victim buffers v most best =
    let is = best.is v refl in
    let candidate = gain-cases (is_candidate (buffer_at buffers v)) (buffer_at buffers v).dead (omega (arith, is, best.some v refl)) in
    let gain = candidate-gain (buffer_at buffers v) candidate in
    record {
      below = best.below v refl;
      candidate = candidate;
      most = λ a below c. omega (arith, best.each a below, candidate-gain (buffer_at buffers a) c, is, gain);
      first = λ a below c. omega (arith, best.first v refl a below, candidate-gain (buffer_at buffers a) c, is, gain);
    }

pub best-none : (buffers : List Buffer) (most : ℕ) → IsBest buffers (length buffers) None most → (b : ℕ) → b < length buffers → is_candidate (buffer_at buffers b) ≡ false
best-none buffers most best b below = by_test (is_candidate (buffer_at buffers b)) refl
  where
    by_test : (t : Bool) → is_candidate (buffer_at buffers b) ≡ t → t ≡ false
    by_test false e = refl
    by_test true e = absurd (omega (arith, best.each b below, best.none refl, candidate-gain (buffer_at buffers b) e, candidate-dead (buffer_at buffers b) e))

pub best-answer : (buffers : List Buffer) (i : ℕ) (victim : Option ℕ) (most : ℕ) → IsBest buffers i victim most → i ≡ length buffers → IfSome victim (IsVictim buffers)
best-answer buffers i None most best all = tt
best-answer buffers i (Some v) most best all = best-victim buffers v most (subst (λ n. IsBest buffers n (Some v) most) all best)
