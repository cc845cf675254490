-- Made operations, one after another, and that they fit.
use Rattle.std.proofs.Common.{◌≡◌, ◌∙◌, sym, ap, refl, ℕ, zero, suc, ◌+◌, ◌/◌, ◌==◌, ◌≤◌, ◌<◌, Bool, true, false}
use Rattle.std.proofs.Common.{if◌then◌else◌, List, [], ◌∷◌, ◌++◌, map, length, arith, append_assoc, append-nil, codes, ◌^◌}
use Rattle.std.proofs.lemmas.Fmt.{length-decimal-le}
use Rattle.std.specs.Fmt.{decimal}
use Rattle.std.specs.List.{AllByRecursion, AllZip}
use Rattle.std.specs.List.Sorted.{IsStrictlySortedBy}
use Rattle.attr_types.proofs.DocumentLemmas.{without_items_fits}
use Rattle.attr_types.specs.Lawful.{ItemsFit, ChangeFits, OpFits, IsDocNumber}
use Rattle.attr_types.specs.Value.{type_of}
use Rattle.attr_types.specs.declared.change.Change.TheVariants.{Keep}
use Rattle.attr_types.specs.declared.field.Field.{Field}
use Rattle.attr_types.specs.declared.kind.Kind.{Kind}
use Rattle.attr_types.specs.declared.kind.Kind.TheVariants.{Single, Array, WeightedSet}
use Rattle.attr_types.specs.declared.kind.ValueType.{ValueType}
use Rattle.attr_types.specs.declared.kind.ValueType.TheVariants as types
use Rattle.attr_types.specs.declared.op.Op.{Op}
use Rattle.attr_run.specs.Laws.{MadeOpsFit}
use Rattle.attr_run.specs.Made.{next_draw, second_draw, third_draw, value_by, items_by, change_of_kind, put_items}
use Rattle.attr_run.specs.Made.{update_changes, op_by, made_from, made}

-- a text with a number of 32 bits is short
pub short_text : (bytes : List ℕ) (n : ℕ) → bytes ≡ codes "t" ++ decimal n → n < 2 ^ 32 → length bytes ≤ 1024
short_text bytes n is small =
    let digits = length-decimal-le 10 n (omega arith) (omega arith) (omega arith) in
    let all = ap length is in omega (arith, digits, all)

-- ---- one after another

made_from-next : (left : ℕ) (n : ℕ) (x : ℕ) (fields : List Field) → n ≡ left + 1
    → made_from n x fields ≡ op_by fields (next_draw x) (second_draw x) (third_draw x) ∷ made_from left (third_draw x) fields
made_from-next left n x fields is = rw is (rw one_more refl)
  where
    one_more : left + 1 ≡ suc left
    one_more = omega arith

-- an operation more
pub made-more : (ops pushed : List Op) (n left x a b c : ℕ) (fields : List Field) (op : Op) (all : List Op)
    → ops ++ made_from n x fields ≡ all → n ≡ left + 1 → a ≡ next_draw x → b ≡ next_draw a → c ≡ next_draw b
    → op ≡ op_by fields a b c → pushed ≡ ops ++ op ∷ [] → pushed ++ made_from left c fields ≡ all
made-more ops pushed n left x a b c fields op all whole is first second third made_op push =
    let same_b = second ∙ ap next_draw first in
    let same_c = third ∙ ap next_draw same_b in
    ap (λ (o : List Op). o ++ made_from left c fields) push
    ∙ append_assoc ops (op ∷ []) (made_from left c fields)
    ∙ ap (λ (o : Op). ops ++ o ∷ made_from left c fields) made_op
    ∙ ap (λ d. ops ++ op_by fields d b c ∷ made_from left c fields) first
    ∙ ap (λ d. ops ++ op_by fields (next_draw x) d c ∷ made_from left c fields) same_b
    ∙ ap (λ d. ops ++ op_by fields (next_draw x) (second_draw x) d ∷ made_from left d fields) same_c
    ∙ ap (λ (o : List Op). ops ++ o) (sym (made_from-next left n x fields is))
    ∙ whole

pub made-end : (ops : List Op) (n x : ℕ) (fields : List Field) (all : List Op) → ops ++ made_from n x fields ≡ all → n ≡ 0
    → ops ≡ all
made-end ops n x fields all whole is =
    sym (append-nil ops) ∙ sym (ap (λ k. ops ++ made_from k x fields) is) ∙ whole

pub made-length : (count x : ℕ) (fields : List Field) → length (made_from count x fields) ≡ count
made-length zero x fields = refl
made-length (suc count) x fields = omega (arith, made-length count (third_draw x) fields)

-- ---- they fit

typed : (type : ValueType) (n : ℕ) → type_of (value_by type n) ≡ type
typed types.Long n = refl
typed types.Text n = refl

items_fit : (kind : Kind) (type : ValueType) (a b : ℕ) → ItemsFit kind type (items_by kind type a b)
unfolding IsStrictlySortedBy
items_fit Single type a b = ((omega arith, (refl, tt)), (typed type (b / 64), tt))
items_fit Array type a b = ((omega arith, (refl, (refl, tt))), (typed type (b / 64), (typed type (b / 64 + 1), tt)))
items_fit WeightedSet type a b = ((omega arith, (tt, tt)), (typed type (b / 64), tt))

put_fits : (fields : List Field) (a b : ℕ)
    → AllZip (λ field own. ItemsFit field.kind field.value own) fields (put_items fields a b)
put_fits [] a b = tt
put_fits (field ∷ fields) a b = (items_fit field.kind field.value a b, without_items_fits fields)

change_fits : (kind : Kind) (type : ValueType) (a b : ℕ) → ChangeFits kind type (change_of_kind kind (items_by kind type a b))
change_fits Single type a b = items_fit Single type a b
change_fits Array type a b = items_fit Array type a b
change_fits WeightedSet type a b = items_fit WeightedSet type a b

keeps_fit : (fields : List Field)
    → AllZip (λ field change. ChangeFits field.kind field.value change) fields (map (λ _. Keep) fields)
keeps_fit [] = tt
keeps_fit (field ∷ fields) = (tt, keeps_fit fields)

update_fits : (fields : List Field) (a b : ℕ)
    → AllZip (λ field change. ChangeFits field.kind field.value change) fields (update_changes fields a b)
update_fits [] a b = tt
update_fits (field ∷ fields) a b = (change_fits field.kind field.value a b, keeps_fit fields)

one_of_three : (P : Op → Type 0) (first second : Bool) (x y z : Op) → P x → P y → P z
    → P (if first then x else (if second then y else z))
one_of_three P true second x y z px py pz = px
one_of_three P false true x y z px py pz = py
one_of_three P false false x y z px py pz = pz

number_fits : (x : ℕ) → IsDocNumber (next_draw x / 16 + 1)
number_fits x = (omega arith, omega arith)

op_fits : (fields : List Field) (x b c : ℕ) → OpFits fields (op_by fields (next_draw x) b c)
op_fits fields x b c = one_of_three (OpFits fields) (c / 8192 == 0) (c / 8192 == 1) _ _ _
    (number_fits x) (number_fits x, update_fits fields (next_draw x) b) (number_fits x, put_fits fields (next_draw x) b)

all_fit : (count x : ℕ) (fields : List Field) → AllByRecursion (OpFits fields) (made_from count x fields)
all_fit zero x fields = tt
all_fit (suc count) x fields = (op_fits fields x (second_draw x) (third_draw x), all_fit count (third_draw x) fields)

pub made_ops_fit : MadeOpsFit
unfolding made
made_ops_fit count seed fields = all_fit count seed fields
