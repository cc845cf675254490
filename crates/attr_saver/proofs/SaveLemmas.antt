-- A save that is read is the save that was written, and what was written is read again.
use Rattle.std.proofs.Common.{◌≡◌, ℕ, ◌^◌, ◌≤◌, true, List, ◌++◌, length, Option, Ok, ℤ, pos, FitsSigned, refl, sym, ap}
use Rattle.std.proofs.Common.{subst, ◌∙◌, append_assoc, arith}
use Rattle.std.specs.Int.{w16, w32, to_be_bytes, cast_signed, cast_unsigned}
use Rattle.std.proofs.Math.Facts.{sfits_to_z, Fits-of_lt, Fits-of_z}
use Rattle.std.proofs.lemmas.Int.{of_z-to_z, to_z-of_z}
use Rattle.attr_types.specs.Value.{type_of}
use Rattle.attr_types.specs.declared.items.Item.{Item}
use Rattle.attr_types.specs.declared.kind.Kind.{Kind}
use Rattle.attr_types.specs.declared.kind.Kind.TheVariants.{Single, Array, WeightedSet}
use Rattle.attr_types.specs.declared.kind.ValueType.{ValueType}
use Rattle.attr_types.specs.declared.kind.ValueType.TheVariants as types
use Rattle.attr_types.specs.declared.value.Value.{Value}
use Rattle.attr_types.specs.declared.value.Value.TheVariants as values
use Rattle.attr_saver.specs.Bytes.{text_bytes, value_bytes, weight_bytes, item_bytes}
use Rattle.attr_saver.specs.Fields.{◌>>=◌, read_number, may_follow, following, read_long, read_text_len, read_text, read_value, read_weight, read_item}
use Rattle.attr_saver.specs.Laws.{AreBytes}
use Rattle.attr_saver.specs.Lawful.{IsStorableValue, IsStorableText}
use Rattle.attr_saver.proofs.FieldLemmas.{bind_ok, ok_is, where_ok, Takes, Takes-then, Takes-nothing, wide32, number_takes, number_again}
use Rattle.attr_saver.proofs.FieldLemmas.{long_takes, long_again, text_len_takes, text_len_again, text_takes, text_again}

-- ---- values

pub record ValueFits (kind : Kind) (type : ValueType) (before : Option Value) (value : Value) : Type 0 where
  pub stored : IsStorableValue value
  pub typed : type_of value ≡ type
  pub follows : may_follow kind before value ≡ true

-- a value with the bytes after it, as the last steps of its reading give it
abbrev TakesValue : Kind → ValueType → Option Value → List ℕ → (Value × List ℕ) → Type 0
TakesValue kind type before bytes x = Takes bytes (value_bytes x.0) x.1 × ValueFits kind type before x.0

value_followed : (kind : Kind) (type : ValueType) (before : Option Value) (left : ℕ) (bytes : List ℕ) (read x : Value × List ℕ)
    → (following kind before left read.0 >>= λ value. Ok (value, read.1)) ≡ Ok x
    → Takes bytes (value_bytes read.0) read.1 → IsStorableValue read.0 → type_of read.0 ≡ type → TakesValue kind type before bytes x
value_followed kind type before left bytes read x e takes stored typed =
    let b = bind_ok (following kind before left read.0) (λ value. Ok (value, read.1)) x e in
    let g = where_ok (may_follow kind before read.0) left read.0 b.0 b.1 in
    let is : read ≡ x = ap (λ (v : Value). (v, read.1)) g.1 ∙ ok_is (b.0, read.1) x b.2 in
    subst (TakesValue kind type before bytes) is (takes, record { stored = stored; typed = typed; follows = g.0 })

pub value_takes : (kind : Kind) (type : ValueType) (before : Option Value) (bytes : List ℕ) (x : Value × List ℕ) → AreBytes bytes
    → read_value kind type before bytes ≡ Ok x → TakesValue kind type before bytes x
unfolding read_value
value_takes kind types.Long before bytes x fits e =
    let a = bind_ok (read_long bytes) (λ read. following kind before (length bytes) read.0 >>= λ value. Ok (value, read.1)) x e in
    let t = long_takes bytes a.0 fits a.1 in
    value_followed kind types.Long before (length bytes) bytes a.0 x a.2 t.0 t.1 t.2
value_takes kind types.Text before bytes x fits e =
    let l = bind_ok (read_text_len bytes) (λ len. read_text len.0 len.1 >>= λ read. following kind before (length len.1) read.0 >>= λ value. Ok (value, read.1)) x e in
    let a = bind_ok (read_text l.0.0 l.0.1) (λ read. following kind before (length l.0.1) read.0 >>= λ value. Ok (value, read.1)) x l.2 in
    let len = text_len_takes bytes l.0 fits l.1 in
    let text = text_takes l.0.0 l.0.1 a.0 len.0.rest_fits a.1 in
    let both = Takes-then bytes (to_be_bytes w16 l.0.0) l.0.1 text.text a.0.1 len.0 text.takes in
    let whole : Takes bytes (text_bytes text.text) a.0.1 = subst (λ (n : ℕ). Takes bytes (to_be_bytes w16 n ++ text.text) a.0.1) (sym text.len_is) both in
    let short : length text.text ≤ 1024 = omega (arith, text.len_is, len.1) in
    let stored : IsStorableText text.text = record { utf8 = text.utf8; short = short } in
    value_followed kind types.Text before (length l.0.1) bytes a.0 x a.2
    (subst (λ (v : Value). Takes bytes (value_bytes v) a.0.1) text.is whole)
    (subst IsStorableValue text.is stored)
    (ap type_of (sym text.is))

pub value_again : (kind : Kind) (type : ValueType) (before : Option Value) (value : Value) (rest : List ℕ) → ValueFits kind type before value
    → read_value kind type before (value_bytes value ++ rest) ≡ Ok (value, rest)
unfolding read_value
value_again kind types.Long before (values.Long number) rest fits = rw (long_again number rest fits.stored, fits.follows) refl
value_again kind types.Text before (values.Text text) rest fits =
    let regrouped : text_bytes text ++ rest ≡ to_be_bytes w16 (length text) ++ (text ++ rest) = append_assoc (to_be_bytes w16 (length text)) text rest in
    ap (read_value kind types.Text before) regrouped
    ∙ rw (text_len_again (length text) (text ++ rest) fits.stored.short, text_again text rest fits.stored.utf8, fits.follows) refl
value_again kind types.Long before (values.Text text) rest fits = absurd cc
value_again kind types.Text before (values.Long number) rest fits = absurd cc

-- ---- items

abbrev pub WeightFits : Kind → ℤ → Type 0
WeightFits Single weight = weight ≡ pos 1
WeightFits Array weight = weight ≡ pos 1
WeightFits WeightedSet weight = Unit {0}

one_fits : FitsSigned w32 (pos 1)
one_fits = sfits_to_z {w = w32} {n = 1} (Fits-of_lt {w = w32} {n = 1} (omega arith))

abbrev TakesWeight : Kind → List ℕ → (ℤ × List ℕ) → Type 0
TakesWeight kind bytes x = Takes bytes (weight_bytes kind x.0) x.1 × FitsSigned w32 x.0 × WeightFits kind x.0

pub weight_takes : (kind : Kind) (bytes : List ℕ) (x : ℤ × List ℕ) → AreBytes bytes → read_weight kind bytes ≡ Ok x → TakesWeight kind bytes x
unfolding read_weight
weight_takes Single bytes x fits e = subst (TakesWeight Single bytes) (ok_is (pos 1, bytes) x e) (Takes-nothing bytes fits, one_fits, refl)
weight_takes Array bytes x fits e = subst (TakesWeight Array bytes) (ok_is (pos 1, bytes) x e) (Takes-nothing bytes fits, one_fits, refl)
weight_takes WeightedSet bytes x fits e =
    let a = bind_ok (read_number w32 bytes) (λ weight. Ok (cast_signed w32 weight.0, weight.1)) x e in
    let t = number_takes w32 (2 ^ 32) wide32 bytes a.0 fits a.1 in
    let made : ℤ × List ℕ = (cast_signed w32 a.0.0, a.0.1) in
    let whole : Takes bytes (to_be_bytes w32 (cast_unsigned w32 (cast_signed w32 a.0.0))) a.0.1 =
    subst (λ (n : ℕ). Takes bytes (to_be_bytes w32 n) a.0.1) (sym (of_z-to_z w32 a.0.0 t.1)) t.0 in
    subst (TakesWeight WeightedSet bytes) (ok_is made x a.2) (whole, sfits_to_z {w = w32} {n = a.0.0} (Fits-of_lt {w = w32} {n = a.0.0} t.1), tt)

pub weight_again : (kind : Kind) (weight : ℤ) (rest : List ℕ) → FitsSigned w32 weight → WeightFits kind weight
    → read_weight kind (weight_bytes kind weight ++ rest) ≡ Ok (weight, rest)
unfolding read_weight
weight_again Single weight rest fits one = ap (λ (w : ℤ). Ok (w, rest)) (sym one)
weight_again Array weight rest fits one = ap (λ (w : ℤ). Ok (w, rest)) (sym one)
weight_again WeightedSet weight rest fits one =
    rw (number_again w32 (2 ^ 32) wide32 (cast_unsigned w32 weight) rest (Fits-of_z {w = w32} {z = weight} fits).fits, to_z-of_z w32 weight fits) refl

pub record ItemFits (kind : Kind) (type : ValueType) (before : Option Value) (item : Item) : Type 0 where
  pub value : ValueFits kind type before item.value
  pub signed : FitsSigned w32 item.weight
  pub weight : WeightFits kind item.weight

pub item_takes : (kind : Kind) (type : ValueType) (before : Option Value) (bytes : List ℕ) (x : Item × List ℕ) → AreBytes bytes
    → read_item kind type before bytes ≡ Ok x → Takes bytes (item_bytes kind x.0) x.1 × ItemFits kind type before x.0
unfolding read_item
item_takes kind type before bytes x fits e =
    let a = bind_ok (read_value kind type before bytes) (λ value. read_weight kind value.1 >>= λ weight. Ok (record { value = value.0; weight = weight.0 }, weight.1)) x e in
    let b = bind_ok (read_weight kind a.0.1) (λ weight. Ok (record { value = a.0.0; weight = weight.0 }, weight.1)) x a.2 in
    let value = value_takes kind type before bytes a.0 fits a.1 in
    let weight = weight_takes kind a.0.1 b.0 value.0.rest_fits b.1 in
    let both = Takes-then bytes (value_bytes a.0.0) a.0.1 (weight_bytes kind b.0.0) b.0.1 value.0 weight.0 in
    let made : Item × List ℕ = (record { value = a.0.0; weight = b.0.0 }, b.0.1) in
    subst (λ (y : Item × List ℕ). Takes bytes (item_bytes kind y.0) y.1 × ItemFits kind type before y.0) (ok_is made x b.2)
    (both, record { value = value.1; signed = weight.1; weight = weight.2 })

pub item_again : (kind : Kind) (type : ValueType) (before : Option Value) (item : Item) (rest : List ℕ) → ItemFits kind type before item
    → read_item kind type before (item_bytes kind item ++ rest) ≡ Ok (item, rest)
unfolding read_item
item_again kind type before item rest fits =
    let regrouped : item_bytes kind item ++ rest ≡ value_bytes item.value ++ (weight_bytes kind item.weight ++ rest) =
    append_assoc (value_bytes item.value) (weight_bytes kind item.weight) rest in
    ap (read_item kind type before) regrouped
    ∙ rw (value_again kind type before item.value (weight_bytes kind item.weight ++ rest) fits.value, weight_again kind item.weight rest fits.signed fits.weight) refl
