-- Powers of two: an offset and a buffer share 32 bits.
use Rattle.std.proofs.Common.{◌≡◌, ℕ, ◌+◌, ◌-◌, ◌*◌, ◌^◌, ◌<◌, ◌≤◌, sym, ap, subst, ◌∙◌, inl, inr, arith}
use Rattle.std.proofs.Math.Nat.{pow-le-pow_right}
use Rattle.std.proofs.lemmas.Bool.{cases_lt}
use Rattle.std.proofs.lemmas.Nat.{pow_pos, pow-add, div_below, mul-add-lt, mod_below, div-add-mod', mod-mul-add, div-mul-add}
use Rattle.entry_ref.specs.References.{offset_limit, buffer_limit, packed, offset_of, buffer_of}

-- all offsets and buffers together name each number of 32 bits
pub whole : (bits : ℕ) → 2 ^ 32 ≤ offset_limit bits * buffer_limit bits
whole bits = subst (λ n. 2 ^ 32 ≤ n) (pow-add 2 bits (32 - bits)) (let some : 0 < 2 = omega arith in let most : 32 ≤ bits + (32 - bits) = omega arith in pow-le-pow_right some most)

-- and where the offset has no more than 32 bits, no others
pub only : (bits : ℕ) → bits ≤ 32 → buffer_limit bits * offset_limit bits ≡ 2 ^ 32
only bits few = sym (pow-add 2 (32 - bits) bits) ∙ ap (λ n. 2 ^ n) (let same : (32 - bits) + bits ≡ 32 = omega arith in same)

pub offset-small : (bits r : ℕ) → r < 2 ^ 32 → offset_of bits r < offset_limit bits
offset-small bits r small = div_below r (buffer_limit bits) (offset_limit bits) (pow_pos (32 - bits)) (omega (arith, whole bits))

-- the reference of an offset of 32 bits and a buffer fits 32 bits
pub packed-small : (bits o b : ℕ) → o < 2 ^ 32 → o < offset_limit bits → b < buffer_limit bits → packed bits o b < 2 ^ 32
packed-small bits o b fits low inside = elim (cases_lt 32 bits) [
  | inl more ↦
      let none : buffer_limit bits ≡ 1 = ap (λ n. 2 ^ n) (let zero : 32 - bits ≡ 0 = omega arith in zero) in
      let is : packed bits o b ≡ o * 1 + b = ap (λ n. o * n + b) none in
      omega (arith, none, is)
  | inr few ↦ subst (λ n. packed bits o b < n) (only bits few) (mul-add-lt o (buffer_limit bits) b (offset_limit bits) low inside)
]

-- a reference whose offset is below the limit fits 32 bits
pub ref-small : (bits r : ℕ) → offset_of bits r < 2 ^ 32 → offset_of bits r < offset_limit bits → r < 2 ^ 32
ref-small bits r fits low =
    subst (λ n. n < 2 ^ 32) (div-add-mod' r (buffer_limit bits))
    (packed-small bits (offset_of bits r) (buffer_of bits r) fits low (mod_below r (buffer_limit bits) (pow_pos (32 - bits))))

-- packing and unpacking
pub packed-buffer : (bits o b : ℕ) → b < buffer_limit bits → buffer_of bits (packed bits o b) ≡ b
packed-buffer bits o b low = mod-mul-add o (buffer_limit bits) b low

pub packed-offset : (bits o b : ℕ) → b < buffer_limit bits → offset_of bits (packed bits o b) ≡ o
packed-offset bits o b low = div-mul-add o (buffer_limit bits) b low

pub packed-same : (bits r : ℕ) → packed bits (offset_of bits r) (buffer_of bits r) ≡ r
packed-same bits r = div-add-mod' r (buffer_limit bits)

-- two references of one offset and one buffer are one
pub same-ref : (bits r q : ℕ) → offset_of bits r ≡ offset_of bits q → buffer_of bits r ≡ buffer_of bits q → r ≡ q
same-ref bits r q o b = sym (packed-same bits r) ∙ ap (λ n. packed bits n (buffer_of bits r)) o ∙ ap (packed bits (offset_of bits q)) b ∙ packed-same bits q
