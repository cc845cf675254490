-- What a shape tells.
use Rattle.std.proofs.Common.{◌≡◌, ℕ, zero, suc, ◌+◌, ◌-◌, ◌*◌, ◌/◌, ◌%◌, ◌^◌, ◌<◌, ◌≤◌, List, [], ◌∷◌, length, take, drop, length-take, refl, ap, ◌∙◌, arith}
use Rattle.std.specs.Prelude.{nat_eq}
use Rattle.std.proofs.Math.Nat.{pow-le-pow_right}
use Rattle.std.proofs.lemmas.Bool.{cond-false, ne_eqb}
use Rattle.image_format.specs.Shapes.{digit_of, type_of_digit, shape_of, types_below, types_of_shape}
use Rattle.attr_types.specs.declared.field.TheConstants.{MOST_FIELDS}
use Rattle.attr_types.specs.declared.field.Field.{Field}
use Rattle.attr_types.specs.declared.kind.Kind.{Kind}
use Rattle.attr_types.specs.declared.kind.Kind.TheVariants.{Single, Array, WeightedSet}
use Rattle.attr_types.specs.declared.kind.ValueType.{ValueType}
use Rattle.attr_types.specs.declared.kind.ValueType.TheVariants as types

digit_tells : (kind : Kind) (type : ValueType) → type_of_digit (digit_of (kind, type)) ≡ (kind, type)
digit_tells Single types.Long = refl
digit_tells Single types.Text = refl
digit_tells Array types.Long = refl
digit_tells Array types.Text = refl
digit_tells WeightedSet types.Long = refl
digit_tells WeightedSet types.Text = refl

pub digit_small : (kind : Kind) (type : ValueType) → digit_of (kind, type) ≤ 6
digit_small Single types.Long = omega arith
digit_small Single types.Text = omega arith
digit_small Array types.Long = omega arith
digit_small Array types.Text = omega arith
digit_small WeightedSet types.Long = omega arith
digit_small WeightedSet types.Text = omega arith

digit_some : (kind : Kind) (type : ValueType) → 0 < digit_of (kind, type)
digit_some Single types.Long = omega arith
digit_some Single types.Text = omega arith
digit_some Array types.Long = omega arith
digit_some Array types.Text = omega arith
digit_some WeightedSet types.Long = omega arith
digit_some WeightedSet types.Text = omega arith

lowest : (digit rest : ℕ) → digit ≤ 6 → (digit + 8 * rest) % 8 ≡ digit
lowest digit rest small = omega arith

others : (digit rest : ℕ) → digit ≤ 6 → (digit + 8 * rest) / 8 ≡ rest
others digit rest small = omega arith

types_tell : (n : ℕ) (ts : List (Kind × ValueType)) → length ts ≤ n → types_below n (shape_of ts) ≡ ts
types_tell zero [] few = refl
types_tell zero (t ∷ ts) few = absurd (omega arith)
types_tell (suc n) [] few = refl
types_tell (suc n) (t ∷ ts) few =
    let digit = digit_of t in
    let shape : ℕ = digit + 8 * shape_of ts in
    let some : 0 < shape = let first = digit_some t.0 t.1 in omega arith in
    cond-false (nat_eq shape 0) [] (type_of_digit (shape % 8) ∷ types_below n (shape / 8)) (ne_eqb shape 0 (λ none. absurd (omega arith)))
    ∙ ap (λ d. type_of_digit d ∷ types_below n (shape / 8)) (lowest digit (shape_of ts) (digit_small t.0 t.1))
    ∙ ap (λ one. one ∷ types_below n (shape / 8)) (digit_tells t.0 t.1)
    ∙ ap (λ rest. t ∷ types_below n rest) (others digit (shape_of ts) (digit_small t.0 t.1))
    ∙ ap (λ rest. t ∷ rest) (types_tell n ts (omega arith))

pub shape_tells : (ts : List (Kind × ValueType)) → length ts ≤ MOST_FIELDS → types_of_shape (shape_of ts) ≡ ts
unfolding types_of_shape
shape_tells ts few = types_tell MOST_FIELDS ts few

-- the digits of the fields behind the first are few
pub digits_small : (fields : List Field) (digits : ℕ) → digits < 8 ^ length (take (length fields - 1) (drop 1 fields)) → length fields ≤ MOST_FIELDS → digits < 2097152
digits_small fields digits below few =
    let long : length (take (length fields - 1) (drop 1 fields)) ≤ 7 =
    (let size = length-take (length fields - 1) (drop 1 fields) in let less : length fields ≤ 8 = few in omega arith) in
    let most : 8 ^ length (take (length fields - 1) (drop 1 fields)) ≤ 2097152 = pow-le-pow_right (omega arith) long in
    omega arith
