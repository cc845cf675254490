-- Proofs that the `impl`s of comparison cite. They are not part of the specification; `order_law` has the result as
-- its contract: the order of values is total, and a value is equal only to itself.
use Rattle.std.proofs.Common.{◌≡◌, Less, Equal, is_lt, is_eq, true≢false, refl, sym, ap}
use Rattle.std.proofs.lemmas.Cmp.{int_cmp_total, nat_list_cmp_total}
use Rattle.std.proofs.lemmas.Map.Lookups.{exact_bytes, exact_signed}
use Rattle.std.specs.Cmp.{IsTotalOrder}
use Rattle.std.specs.Ordering.{ordering_reverse}
use Rattle.attr_types.specs.Value.{value_cmp}
use Rattle.attr_types.specs.declared.value.Value.{Value}
use Rattle.attr_types.specs.declared.value.Value.TheVariants as values

antisymm : (x y : Value) → value_cmp x y ≡ ordering_reverse (value_cmp y x)
antisymm (values.Long a) (values.Long b) = int_cmp_total.antisymm a b
antisymm (values.Text a) (values.Text b) = nat_list_cmp_total.antisymm a b
antisymm (values.Long a) (values.Text b) = refl
antisymm (values.Text a) (values.Long b) = refl

trans : (x y z : Value) → value_cmp x y ≡ Less → value_cmp y z ≡ Less → value_cmp x z ≡ Less
trans (values.Long a) (values.Long b) (values.Long c) below above = int_cmp_total.trans a b c below above
trans (values.Text a) (values.Text b) (values.Text c) below above = nat_list_cmp_total.trans a b c below above
trans (values.Long a) y (values.Text c) below above = refl
trans (values.Long a) (values.Text b) (values.Long c) below above = absurd (true≢false (sym (ap is_lt above)))
trans (values.Text a) (values.Long b) z below above = absurd (true≢false (sym (ap is_lt below)))
trans (values.Text a) (values.Text b) (values.Long c) below above = absurd (true≢false (sym (ap is_lt above)))

congr : (x y z : Value) → value_cmp x y ≡ Equal → value_cmp x z ≡ value_cmp y z
congr (values.Long a) (values.Long b) (values.Long c) same = int_cmp_total.congr a b c same
congr (values.Text a) (values.Text b) (values.Text c) same = nat_list_cmp_total.congr a b c same
congr (values.Long a) (values.Long b) (values.Text c) same = refl
congr (values.Text a) (values.Text b) (values.Long c) same = refl
congr (values.Long a) (values.Text b) z same = absurd (true≢false (sym (ap is_eq same)))
congr (values.Text a) (values.Long b) z same = absurd (true≢false (sym (ap is_eq same)))

pub value_cmp_total : IsTotalOrder value_cmp
value_cmp_total = record { antisymm = antisymm; trans = trans; congr = congr }

pub value_cmp_exact : (a b : Value) → value_cmp a b ≡ Equal → a ≡ b
value_cmp_exact (values.Long a) (values.Long b) same = ap values.Long (exact_signed a b same)
value_cmp_exact (values.Text a) (values.Text b) same = ap values.Text (exact_bytes a b same)
value_cmp_exact (values.Long a) (values.Text b) same = absurd (true≢false (sym (ap is_eq same)))
value_cmp_exact (values.Text a) (values.Long b) same = absurd (true≢false (sym (ap is_eq same)))
