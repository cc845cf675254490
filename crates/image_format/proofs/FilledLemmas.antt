-- Records of values and of lists have words.
use Rattle.std.proofs.Common.{◌<◌, ℕ, List, ◌∷◌, length, sym, subst, arith}
use Rattle.image_format.specs.Values.{value_of, value_words, IsValueRecord}
use Rattle.image_format.specs.Words.{filled, stored_items, IsStoredList}
use Rattle.attr_types.specs.declared.kind.ValueType.{ValueType}
use Rattle.attr_types.specs.declared.value.Value.{Value}
use Rattle.attr_types.specs.declared.value.Value.TheVariants as values

value_filled : (v : Value) → 0 < length (filled (value_words v))
value_filled (values.Long number) = omega arith
value_filled (values.Text bytes) = omega arith

pub some_value : (type : ValueType) (ws : List ℕ) → IsValueRecord type ws → 0 < length ws
some_value type ws is = subst (λ (x : List ℕ). 0 < length x) (sym is.words) (value_filled (value_of type ws))

list_filled : (k : ℕ) (xs : List ℕ) → 0 < length (filled (k ∷ xs))
list_filled k xs = omega arith

pub some_list : (most : ℕ) (ws : List ℕ) → IsStoredList most ws → 0 < length ws
some_list most ws is = subst (λ (x : List ℕ). 0 < length x) (sym is.words) (list_filled (length (stored_items ws)) (stored_items ws))
