-- Proofs of the laws of keys by value. They are in specs/ since an impl takes its laws only from there; they are not
-- part of the specification.
use Rattle.std.proofs.Common.{◌≡◌, ℕ, [], ◌∷◌, refl, sym, ap, subst}
use Rattle.std.specs.Cmp.{IsTotalOrder}
use Rattle.entry_ref.specs.Records.{Records, SameAt}
use Rattle.image_format.specs.Values.{value_of, stored_value, IsValueRecord}
use Rattle.attr_types.specs.ProofsForOrder.{value_cmp_total}
use Rattle.attr_types.specs.Value.{value_cmp}
use Rattle.attr_types.specs.declared.kind.ValueType.{ValueType}

pub value_total : IsTotalOrder value_cmp
value_total = value_cmp_total

-- a value is read only from its own record
pub value_stays : (type : ValueType) (m n : Records) (key : ℕ) → IsValueRecord type (m key) → SameAt (key ∷ []) m n
    → IsValueRecord type (n key) × (stored_value type n key ≡ stored_value type m key)
value_stays type m n key is same = (subst (IsValueRecord type) (sym same.0) is, ap (value_of type) same.0)

pub value_steady : (type : ValueType) (m n : Records) (key : ℕ) → IsValueRecord type (m key) → SameAt (key ∷ []) m n → key ∷ [] ≡ key ∷ []
value_steady type m n key is same = refl
