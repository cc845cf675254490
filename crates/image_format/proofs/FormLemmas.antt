-- The least length of a dense list.
use Rattle.std.proofs.Common.{◌≡◌, ℕ, ◌+◌, ◌*◌, ◌/◌, ◌%◌, Bool, true, false, ◌&&◌, nat_le, min, max, refl, sym, ap₂, arith}
use Rattle.std.proofs.lemmas.Bool.{and_parts, leb-true, le-leb}
use Rattle.std.proofs.lemmas.Grind.{div_ceil_times}
use Rattle.image_format.specs.Postings.{is_dense}

same_answer : (a b : Bool) → (a ≡ true → b ≡ true) → (b ≡ true → a ≡ true) → a ≡ b
same_answer true true there back = refl
same_answer true false there back = sym (there refl)
same_answer false true there back = back refl
same_answer false false there back = refl

pub least_is : (documents least count : ℕ) → least ≡ max (documents / 32 + min 1 (documents % 32)) 128 → nat_le least count ≡ is_dense true count documents
least_is documents least count is =
    let ceil = div_ceil_times documents 32 (omega arith) in
    same_answer (nat_le least count) (is_dense true count documents)
    (λ enough. let le = leb-true least count enough in
    ap₂ (λ (a b : Bool). true && a && b) (le-leb 128 count (omega (arith, le, is))) (le-leb documents (32 * count) (let above = ceil.0 in omega (arith, le, is, above))))
    (λ dense.
    let both = and_parts (true && nat_le 128 count) (nat_le documents (32 * count)) dense in
    let long = leb-true 128 count (and_parts true (nat_le 128 count) both.0).1 in
    let many = leb-true documents (32 * count) both.1 in
    let below = ceil.1 in
    le-leb least count (omega (arith, is, long, many, below)))
