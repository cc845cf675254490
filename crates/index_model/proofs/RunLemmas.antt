-- The values that meet a leaf are one run of the ascending values.
use Rattle.std.proofs.Common.{subst, Option, ◌≡◌, ℕ, Bool, true, false, not, ◌&&◌, List, [], ◌∷◌, Some, None, nat_eq, nat_cmp}
use Rattle.std.proofs.Common.{Ordering, Less, Equal, Greater, is_lt, is_eq, refl, sym, ap, ◌∙◌, cond, eq-eqb}
use Rattle.std.specs.Ordering.{is_le, ordering_reverse, ordering_then}
use Rattle.std.specs.Cmp.Lexicographic.{slice_cmp}
use Rattle.std.proofs.lemmas.Cmp.{alike_right, tied_itself, nat_cmp_total}
use Rattle.std.proofs.lemmas.Bool.{eqb-true, and_parts}
use Rattle.std.proofs.lemmas.Map.Lookups.{exact_unsigned}
use Rattle.std.specs.Bool.{if◌then◌else◌}
use Rattle.std.specs.List.{AllByRecursion, starts_with}
use Rattle.std.specs.List.Sorted.{IsStrictlySortedBy}
use Rattle.std.specs.Map.{keys_of}
use Rattle.attr_types.specs.Query.{meets}
use Rattle.attr_types.specs.Value.{value_cmp}
use Rattle.attr_types.specs.ProofsForOrder.{value_cmp_total}
use Rattle.attr_types.specs.declared.query.Leaf.{Leaf}
use Rattle.attr_types.specs.declared.query.Leaf.TheVariants.{Is, Prefix, Range, Below, Above}
use Rattle.attr_types.specs.declared.value.Value.{Value}
use Rattle.attr_types.specs.declared.value.Value.TheVariants as values
use Rattle.index_model.proofs.BitLemmas.{by_cases}
use Rattle.index_model.specs.Index.{Index}
use Rattle.index_model.specs.Leaves.{stands_before, stands_beyond, meeting, from, run, sought, from_value, from_sought}

-- ---- the order
lt_up : (a b w : Value) → is_lt (value_cmp a w) ≡ false → value_cmp a b ≡ Less → is_lt (value_cmp b w) ≡ false
lt_up a b w off below = told (value_cmp b w) refl
  where
    told : (r : Ordering) → value_cmp b w ≡ r → is_lt r ≡ false
    told Less is =
        let lost : true ≡ false = sym (ap is_lt (value_cmp_total.trans a b w below is)) ∙ off in cc
    told Equal is = refl
    told Greater is = refl

le_up : (a b w : Value) → is_le (value_cmp a w) ≡ false → value_cmp a b ≡ Less → is_le (value_cmp b w) ≡ false
le_up a b w off below = told (value_cmp b w) refl
  where
    told : (r : Ordering) → value_cmp b w ≡ r → is_le r ≡ false
    told Less is =
        let lost : true ≡ false = sym (ap is_le (value_cmp_total.trans a b w below is)) ∙ off in cc
    told Equal is =
        let lost : true ≡ false = sym (ap is_le (sym (alike_right value_cmp_total b w a is) ∙ below)) ∙ off in cc
    told Greater is = refl

lt_on : (w a b : Value) → is_lt (value_cmp w a) ≡ true → value_cmp a b ≡ Less → is_lt (value_cmp w b) ≡ true
lt_on w a b on below = told (value_cmp w a) refl on
  where
    told : (r : Ordering) → value_cmp w a ≡ r → is_lt r ≡ true → is_lt (value_cmp w b) ≡ true
    told Less is on = ap is_lt (value_cmp_total.trans w a b is below)
    told Equal is on = cc
    told Greater is on = cc

le_on : (w a b : Value) → is_le (value_cmp w a) ≡ true → value_cmp a b ≡ Less → is_le (value_cmp w b) ≡ true
le_on w a b on below = told (value_cmp w a) refl on
  where
    told : (r : Ordering) → value_cmp w a ≡ r → is_le r ≡ true → is_le (value_cmp w b) ≡ true
    told Less is on = ap is_le (value_cmp_total.trans w a b is below)
    told Equal is on = ap is_le (value_cmp_total.congr w a b is ∙ below)
    told Greater is on = cc

both_true : (a b : Bool) → a ≡ true → b ≡ true → (a && b) ≡ true
both_true true b on is = is
both_true false b on is = cc

-- ---- texts that begin with bytes
-- what stands from the bytes on and begins with them is not below them
starts_not_below : (bytes text : List ℕ) → starts_with nat_eq text bytes ≡ true → is_lt (slice_cmp nat_cmp text bytes) ≡ false
starts_not_below [] [] is = refl
starts_not_below [] (y ∷ text) is = refl
starts_not_below (x ∷ bytes) [] is = cc
starts_not_below (x ∷ bytes) (y ∷ text) is =
    let parts = and_parts (nat_eq x y) (starts_with nat_eq text bytes) is in
    let tied : nat_cmp y x ≡ Equal = ap (nat_cmp y) (eqb-true x y parts.0) ∙ tied_itself nat_cmp_total y in
    ap (λ r. is_lt (ordering_then r (slice_cmp nat_cmp text bytes))) tied ∙ starts_not_below bytes text parts.1

first_tied : (x y : ℕ) (s t : Ordering) (r : Ordering) → nat_cmp y x ≡ r → is_lt (ordering_then r s) ≡ false
    → ordering_then r t ≡ Less
    → (nat_eq x y ≡ true) × (is_lt s ≡ false) × (t ≡ Less)
first_tied x y s t Less is from below = cc
first_tied x y s t Equal is from below = (eq-eqb x y (sym (exact_unsigned y x is)), from, below)
first_tied x y s t Greater is from below = cc

-- between the bytes and a text that begins with them there are only texts that begin with them
starts_between : (bytes a b : List ℕ) → is_lt (slice_cmp nat_cmp a bytes) ≡ false → slice_cmp nat_cmp a b ≡ Less
    → starts_with nat_eq b bytes ≡ true → starts_with nat_eq a bytes ≡ true
starts_between [] a b from below is = refl
starts_between (x ∷ bytes) [] b from below is = cc
starts_between (x ∷ bytes) (y ∷ a) [] from below is = cc
starts_between (x ∷ bytes) (y ∷ a) (z ∷ b) from below is =
    let parts = and_parts (nat_eq x z) (starts_with nat_eq b bytes) is in
    let next : ordering_then (nat_cmp y x) (slice_cmp nat_cmp a b) ≡ Less =
    ap (λ v. ordering_then (nat_cmp y v) (slice_cmp nat_cmp a b)) (eqb-true x z parts.0) ∙ below in
    let here = first_tied x y (slice_cmp nat_cmp a bytes) (slice_cmp nat_cmp a b) (nat_cmp y x) refl from next in
    both_true (nat_eq x y) (starts_with nat_eq a bytes) here.0 (starts_between bytes a b here.1 here.2 parts.1)

-- ---- leaves
opposite : (a b : Value) (f g : Ordering → Bool) → ((r : Ordering) → f r ≡ g (ordering_reverse r)) → f (value_cmp a b) ≡ g (value_cmp b a)
opposite a b f g same = same (value_cmp a b) ∙ ap g (sym (value_cmp_total.antisymm b a))

not_after : (r : Ordering) → is_le r ≡ not (is_lt (ordering_reverse r))
not_after Less = refl
not_after Equal = refl
not_after Greater = refl

not_upto : (r : Ordering) → is_lt r ≡ not (is_le (ordering_reverse r))
not_upto Less = refl
not_upto Equal = refl
not_upto Greater = refl

only : (r : Ordering) → is_eq r ≡ (not (is_lt (ordering_reverse r)) && not (is_lt r))
only Less = refl
only Equal = refl
only Greater = refl

and_true : (b : Bool) → b ≡ (b && true)
and_true true = refl
and_true false = refl

and_same : (a b : Bool) → (b ≡ true → a ≡ false) → b ≡ (not a && not (not b))
and_same true true apart = apart refl
and_same true false apart = refl
and_same false true apart = refl
and_same false false apart = refl

both_ap : (a b c d : Bool) → a ≡ b → c ≡ d → (a && c) ≡ (b && d)
both_ap a b c d first second = cc

meets_is : (leaf : Leaf) (v : Value) → meets leaf v ≡ (not (stands_before leaf v) && not (stands_beyond leaf v))
meets_is (Is w) v = opposite w v is_eq (λ r. not (is_lt r) && not (is_lt (ordering_reverse r))) only_back
    ∙ ap (λ r. not (is_lt (value_cmp v w)) && not (is_lt r)) (sym (value_cmp_total.antisymm w v))
  where
    only_back : (r : Ordering) → is_eq r ≡ (not (is_lt (ordering_reverse r)) && not (is_lt (ordering_reverse (ordering_reverse r))))
    only_back Less = refl
    only_back Equal = refl
    only_back Greater = refl
meets_is (Prefix bytes) (values.Text text) =
    and_same (is_lt (slice_cmp nat_cmp text bytes)) (starts_with nat_eq text bytes) (starts_not_below bytes text)
meets_is (Prefix bytes) (values.Long number) = refl
meets_is (Range None None) v = refl
meets_is (Range None (Some high)) v = opposite v high is_le (λ r. not (is_lt r)) not_after
meets_is (Range (Some low) None) v =
    sym (and_true (is_le (value_cmp low v))) ∙ opposite low v is_le (λ r. not (is_lt r)) not_after ∙ and_true (not (is_lt (value_cmp v low)))
meets_is (Range (Some low) (Some high)) v =
    both_ap _ _ _ _ (opposite low v is_le (λ r. not (is_lt r)) not_after) (opposite v high is_le (λ r. not (is_lt r)) not_after)
meets_is (Below high) v = opposite v high is_lt (λ r. not (is_le r)) not_upto
meets_is (Above low) v = opposite low v is_lt (λ r. not (is_le r)) not_upto ∙ and_true (not (is_le (value_cmp v low)))

-- what is above a value that is not before is not before
before_up : (leaf : Leaf) (a b : Value) → stands_before leaf a ≡ false → value_cmp a b ≡ Less → stands_before leaf b ≡ false
before_up (Is w) a b off below = lt_up a b w off below
before_up (Prefix bytes) a b off below = lt_up a b (values.Text bytes) off below
before_up (Range None high) a b off below = refl
before_up (Range (Some low) high) a b off below = lt_up a b low off below
before_up (Below high) a b off below = refl
before_up (Above low) a b off below = le_up a b low off below

-- what is above a value that is beyond is beyond
beyond_up : (leaf : Leaf) (a b : Value) → stands_before leaf a ≡ false → stands_beyond leaf a ≡ true → value_cmp a b ≡ Less
    → stands_beyond leaf b ≡ true
beyond_up (Is w) a b off on below = lt_on w a b on below
beyond_up (Prefix bytes) (values.Text a) (values.Text b) off on below =
    by_cases (starts_with nat_eq b bytes)
    (λ is. let lost : true ≡ false = sym on ∙ ap not (starts_between bytes a b off below is) in cc)
    (λ is. ap not is)
beyond_up (Prefix bytes) (values.Text a) (values.Long b) off on below = refl
beyond_up (Prefix bytes) (values.Long a) b off on below = cc
beyond_up (Range low None) a b off on below = on
beyond_up (Range low (Some high)) a b off on below = lt_on high a b on below
beyond_up (Below high) a b off on below = le_on high a b on below
beyond_up (Above low) a b off on below = on

-- ---- lists
all_up : (P : Value → Type 0) (a : Value) → ((b : Value) → value_cmp a b ≡ Less → P b) → (es : Index)
    → AllByRecursion (λ b. value_cmp a b ≡ Less) (keys_of es)
    → AllByRecursion (λ e. P e.0) es
all_up P a up [] all = tt
all_up P a up (e ∷ es) all = (up e.0 all.0, all_up P a up es all.1)

and_off : (b : Bool) → (b && false) ≡ false
and_off true = refl
and_off false = refl

off_beyond : (leaf : Leaf) (v : Value) → stands_beyond leaf v ≡ true → meets leaf v ≡ false
off_beyond leaf v on =
    meets_is leaf v ∙ ap (λ b. not (stands_before leaf v) && not b) on ∙ and_off (not (stands_before leaf v))

off_before : (leaf : Leaf) (v : Value) → stands_before leaf v ≡ true → meets leaf v ≡ false
off_before leaf v on = meets_is leaf v ∙ ap (λ b. not b && not (stands_beyond leaf v)) on

on_between : (leaf : Leaf) (v : Value) → stands_before leaf v ≡ false → stands_beyond leaf v ≡ false → meets leaf v ≡ true
on_between leaf v first last =
    meets_is leaf v ∙ ap (λ b. not b && not (stands_beyond leaf v)) first ∙ ap not last

none_meet : (leaf : Leaf) (es : Index) → AllByRecursion (λ e. stands_beyond leaf e.0 ≡ true) es → [] ≡ meeting leaf es
none_meet leaf [] all = refl
none_meet leaf (e ∷ es) all =
    none_meet leaf es all.1 ∙ sym (ap (λ b. cond b (e ∷ meeting leaf es) (meeting leaf es)) (off_beyond leaf e.0 all.0))

run_all : (leaf : Leaf) (es : Index) → AllByRecursion (λ e. stands_before leaf e.0 ≡ false) es
    → IsStrictlySortedBy value_cmp (keys_of es) → run leaf es ≡ meeting leaf es
unfolding IsStrictlySortedBy
run_all leaf [] all up = refl
run_all leaf (e ∷ es) all up = by_cases (stands_beyond leaf e.0)
    (λ on. ap (λ b. if b then [] else (e ∷ run leaf es)) on
    ∙ none_meet leaf (e ∷ es)
    (on, all_up (λ v. stands_beyond leaf v ≡ true) e.0 (λ b below. beyond_up leaf e.0 b all.0 on below) es up.0))
    (λ off. ap (λ b. if b then [] else (e ∷ run leaf es)) off
    ∙ ap (λ xs. e ∷ xs) (run_all leaf es all.1 up.1)
    ∙ sym (ap (λ b. cond b (e ∷ meeting leaf es) (meeting leaf es)) (on_between leaf e.0 all.0 off)))

pub run_is_filter : (es : Index) (leaf : Leaf) → IsStrictlySortedBy value_cmp (keys_of es)
    → run leaf (from leaf es) ≡ meeting leaf es
unfolding IsStrictlySortedBy
run_is_filter [] leaf up = refl
run_is_filter (e ∷ es) leaf up = by_cases (stands_before leaf e.0)
    (λ on. ap (λ b. run leaf (if b then from leaf es else (e ∷ es))) on
    ∙ run_is_filter es leaf up.1
    ∙ sym (ap (λ b. cond b (e ∷ meeting leaf es) (meeting leaf es)) (off_before leaf e.0 on)))
    (λ off. ap (λ b. run leaf (if b then from leaf es else (e ∷ es))) off
    ∙ run_all leaf (e ∷ es)
    (off, all_up (λ v. stands_before leaf v ≡ false) e.0 (λ b below. before_up leaf e.0 b off below) es up.0) up)

-- ---- a walk that begins at the value sought
lt_le : (r : Ordering) → is_lt r ≡ true → is_le r ≡ true
lt_le Less is = refl
lt_le Equal is = cc
lt_le Greater is = cc

sought_before : (leaf : Leaf) (low v : Value) → sought leaf ≡ Some low → is_lt (value_cmp v low) ≡ true → stands_before leaf v ≡ true
sought_before (Is w) low v is below = let same : w ≡ low = cc in subst (λ x. is_lt (value_cmp v x) ≡ true) (sym same) below
sought_before (Prefix bytes) low v is below =
    let same : values.Text bytes ≡ low = cc in subst (λ x. is_lt (value_cmp v x) ≡ true) (sym same) below
sought_before (Range None high) low v is below = cc
sought_before (Range (Some w) high) low v is below =
    let same : w ≡ low = cc in subst (λ x. is_lt (value_cmp v x) ≡ true) (sym same) below
sought_before (Below high) low v is below = cc
sought_before (Above w) low v is below =
    let same : w ≡ low = cc in
    subst (λ x. is_le (value_cmp v x) ≡ true) (sym same) (lt_le (value_cmp v low) below)

from_seek : (leaf : Leaf) (low : Value) → sought leaf ≡ Some low → (es : Index) → from leaf (from_value low es) ≡ from leaf es
from_seek leaf low is [] = refl
from_seek leaf low is (e ∷ es) = by_cases (is_lt (value_cmp e.0 low))
    (λ on. ap (λ b. from leaf (if b then from_value low es else (e ∷ es))) on ∙ from_seek leaf low is es
    ∙ sym (ap (λ b. if b then from leaf es else (e ∷ es)) (sought_before leaf low e.0 is on)))
    (λ off. ap (λ b. from leaf (if b then from_value low es else (e ∷ es))) off)

from_option : (leaf : Leaf) (o : Option Value) → sought leaf ≡ o → (es : Index) → from leaf (from_sought o es) ≡ from leaf es
from_option leaf None is es = refl
from_option leaf (Some low) is es = from_seek leaf low is es

-- to seek the leaf's bound first, then to skip what is before, then to stop at what is beyond, gives what meets it
pub sought_is_filter : (es : Index) (leaf : Leaf) → IsStrictlySortedBy value_cmp (keys_of es)
    → run leaf (from leaf (from_sought (sought leaf) es)) ≡ meeting leaf es
sought_is_filter es leaf up = ap (run leaf) (from_option leaf (sought leaf) refl es) ∙ run_is_filter es leaf up
