-- Two entries share no word.
use Rattle.std.proofs.Common.{◌≡◌, ◌≢◌, ℕ, ◌+◌, ◌*◌, ◌^◌, ◌<◌, ◌≤◌, sym, ap, ◌∙◌, arith, mul-le-mul_right, mul-le-mul_left, suc, suc-mul}
use Rattle.std.proofs.lemmas.Nat.{same_from_place}
use Rattle.entry_ref.specs.References.{buffer_of, offset_of, offset_limit}
use Rattle.entry_ref.proofs.Bits.{same-ref, ref-small}
use Rattle.entry_ref.specs.Places.{base, place, IsEntry}

-- an entry's word lies in its buffer and is not its first
pub within : {bits buffers words width ref : ℕ} → IsEntry bits buffers words width ref → (i : ℕ) → i < width → (0 < offset_of bits ref * width + i) × (offset_of bits ref * width + i < words)
within {bits} {buffers} {words} {width} {ref} e i lt =
    let some : 1 * width ≤ offset_of bits ref * width = mul-le-mul_right width e.first in
    let last = e.last in
    let wide = e.wide in
    (omega arith, omega arith)

-- no word of an entry is the first word of a buffer
pub place-base : (bits buffers words width ref i b : ℕ) → IsEntry bits buffers words width ref → i < width → place bits buffers words width ref i ≢ base buffers words b
place-base bits buffers words width ref i b e lt same =
    let inside = within e i lt in
    let some : 0 < words = omega (arith, inside.1) in
    let both = same_from_place (buffer_of bits ref) (offset_of bits ref * width + i) b 0 words inside.1 some (omega (arith, same)) in
    omega (arith, both.1, inside.0)

-- two words at one place are one word of one entry
pub one_place : (bits buffers words v w r q i j : ℕ) → IsEntry bits buffers words v r → IsEntry bits buffers words w q → (buffer_of bits r ≡ buffer_of bits q → v ≡ w) → i < v → j < w
    → place bits buffers words v r i ≡ place bits buffers words w q j → (r ≡ q) × (i ≡ j)
one_place bits buffers words v w r q i j e f widths h k same =
    let first = within e i h in
    let second = within f j k in
    let both = same_from_place (buffer_of bits r) (offset_of bits r * v + i) (buffer_of bits q) (offset_of bits q * w + j) words first.1 second.1 (omega (arith, same)) in
    let wide : v ≡ w = widths both.0 in
    let inner : offset_of bits r * v + i ≡ offset_of bits q * v + j = both.1 ∙ ap (λ n. offset_of bits q * n + j) (sym wide) in
    let less : j < v = omega (arith, k, wide) in
    let parts = same_from_place (offset_of bits r) i (offset_of bits q) j v h less inner in
    (same-ref bits r q parts.0 both.0, parts.1)

-- a place behind the named words, in the last buffer at most
pub place-below : {bits buffers words width ref : ℕ} → IsEntry bits buffers words width ref → (i : ℕ) → i < width → place bits buffers words width ref i < 18 + buffers + buffers * words
place-below {bits} {buffers} {words} {width} {ref} e i lt =
    let inside = within e i lt in
    let more : suc (buffer_of bits ref) * words ≤ buffers * words = mul-le-mul_right words e.inside in
    let less = inside.1 in
    omega (arith, suc-mul (buffer_of bits ref) words)

-- the reference of an entry fits 32 bits
pub entry-small : {bits buffers words width ref : ℕ} → IsEntry bits buffers words width ref → words ≤ 65536 → words ≤ offset_limit bits → ref < 2 ^ 32
entry-small {bits} {buffers} {words} {width} {ref} e few limit =
    let long : offset_of bits ref * 1 ≤ offset_of bits ref * width = mul-le-mul_left (offset_of bits ref) e.wide in
    let last = e.last in
    ref-small bits ref (omega arith) (omega (arith, limit))
