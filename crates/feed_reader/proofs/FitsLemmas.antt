-- What a line says fits the attribute: its items are lawful, and its values are of the type.
use Rattle.std.proofs.Common.{◌≡◌, ℕ, ℤ, suc, ◌+◌, ◌≤◌, Bool, true, false, cond, List, [], ◌∷◌, length, map, Option, Some, None, option_map, option_and_then, is_some, Result, Ok, Err, Less, Equal, Greater, refl, sym}
use Rattle.std.proofs.Common.{ap, subst, arith, nat_le}
use Rattle.serde_json.specs.Data.{Data, null, boolean, number, string, array, object, Items, no_items, item, Members, no_members, member}
use Rattle.serde_json.specs.Events.{items_len, members_len}
use Rattle.serde_json.specs.Find.{as_null, as_str, as_array, as_object}
use Rattle.std.specs.List.Sorted.{IsStrictlySortedBy}
use Rattle.std.proofs.lemmas.Option.{cond_some}
use Rattle.std.specs.Ordering.{match_ordering}
use Rattle.attr_types.specs.Value.{value_cmp, values_of, type_of, AreOfType}
use Rattle.attr_types.specs.Change.{with_item}
use Rattle.attr_types.specs.Lawful.{HaveWeightOne, AscendByValue, ItemsFit}
use Rattle.attr_types.proofs.ItemLemmas.{ascend-with_item, all-with_items}
use Rattle.attr_types.specs.declared.value.Value.{Value}
use Rattle.attr_types.specs.declared.value.Value.TheVariants as values
use Rattle.attr_types.specs.declared.items.Item.{Item}
use Rattle.attr_types.specs.declared.kind.Kind.{Kind}
use Rattle.attr_types.specs.declared.kind.Kind.TheVariants.{Single, Array, WeightedSet}
use Rattle.attr_types.specs.declared.kind.ValueType.{ValueType}
use Rattle.attr_types.specs.declared.kind.ValueType.TheVariants as types
use Rattle.feed_reader.specs.declared.refusal.Refusal.{Refusal}
use Rattle.feed_reader.specs.declared.refusal.Refusal.TheVariants.{BadValue}
use Rattle.feed_reader.specs.Answers.{◌>>=◌, or_else}
use Rattle.feed_reader.specs.Numerals.{long_written}
use Rattle.feed_reader.specs.Values.{text_read, long_read, value_read, name_read, weight_read}
use Rattle.feed_reader.specs.Items.{values_read, names_read, weighted_after, set_read, plain_item, list_read, one_read, some_items_read, items_read, taken_read, member_count}

-- ---- checks that passed

pub bind_ok : {A B : Type 0} (r : Result A Refusal) (f : A → Result B Refusal) (y : B) → (r >>= f) ≡ Ok y → (x : A) × (r ≡ Ok x) × (f x ≡ Ok y)
bind_ok (Ok x) f y e = (x, refl, e)
bind_ok (Err refusal) f y e = cc

pub or_else_ok : {A : Type 0} (refusal : Refusal) (o : Option A) (x : A) → or_else refusal o ≡ Ok x → o ≡ Some x
or_else_ok refusal None x e = cc
or_else_ok refusal (Some y) x e = cc

-- ---- values

long_type : (o : Option ℤ) (v : Value) → option_map values.Long o ≡ Some v → type_of v ≡ types.Long
long_type None v e = cc
long_type (Some z) v e = let is : values.Long z ≡ v = cc in sym (ap type_of is)

text_type : (s : List ℕ) (v : Value) → text_read s ≡ Some v → type_of v ≡ types.Text
text_type s v e = sym (ap type_of (cond_some (nat_le (length s) 1024) (values.Text s) v e).1)

some_text_type : (o : Option (List ℕ)) (v : Value) → option_and_then text_read o ≡ Some v → type_of v ≡ types.Text
some_text_type None v e = cc
some_text_type (Some s) v e = text_type s v e

pub value_of_type : (t : ValueType) (d : Data) (v : Value) → value_read t d ≡ Ok v → type_of v ≡ t
value_of_type types.Long d v e = long_type (long_read d) v (or_else_ok BadValue (option_map values.Long (long_read d)) v e)
value_of_type types.Text d v e = some_text_type (as_str d) v (or_else_ok BadValue (option_and_then text_read (as_str d)) v e)

pub value_named_type : (t : ValueType) (name : List ℕ) (v : Value) → name_read t name ≡ Ok v → type_of v ≡ t
value_named_type types.Long name v e = long_type (long_written name) v (or_else_ok BadValue (option_map values.Long (long_written name)) v e)
value_named_type types.Text name v e = text_type name v (or_else_ok BadValue (text_read name) v e)

-- ---- lists and objects

listed : (t : ValueType) (ds : Items) (vs : List Value) → values_read t ds ≡ Ok vs → AreOfType t vs × (length vs ≡ items_len ds)
unfolding values_read
listed t no_items vs e =
    let is : [] ≡ vs = cc in
    subst (λ (vs : List Value). AreOfType t vs × (length vs ≡ 0)) is (tt, refl)
listed t (item d ds) vs e =
    let first = bind_ok (value_read t d) (λ v. values_read t ds >>= λ ws. Ok (v ∷ ws)) vs e in
    let rest = bind_ok (values_read t ds) (λ ws. Ok (first.0 ∷ ws)) vs first.2 in
    let is : first.0 ∷ rest.0 ≡ vs = cc in
    let more = listed t ds rest.0 rest.1 in
    subst (λ (vs : List Value). AreOfType t vs × (length vs ≡ suc (items_len ds))) is ((value_of_type t d first.0 first.1, more.0), ap suc more.1)

named : (t : ValueType) (ms : Members) (vs : List Value) → names_read t ms ≡ Ok vs → AreOfType t vs
unfolding names_read
named t no_members vs e =
    let is : [] ≡ vs = cc in
    subst (λ (vs : List Value). AreOfType t vs) is tt
named t (member name d ms) vs e =
    let first = bind_ok (name_read t name) (λ v. names_read t ms >>= λ ws. Ok (v ∷ ws)) vs e in
    let rest = bind_ok (names_read t ms) (λ ws. Ok (first.0 ∷ ws)) vs first.2 in
    let is : first.0 ∷ rest.0 ≡ vs = cc in
    subst (λ (vs : List Value). AreOfType t vs) is (value_named_type t name first.0 first.1, named t ms rest.0 rest.1)

pub taken_fit : (t : ValueType) (d : Data) (vs : List Value) → taken_read t d ≡ Ok vs → AreOfType t vs
unfolding taken_read
taken_fit t (array ds) vs e = (listed t ds vs e).0
taken_fit t (object ms) vs e = named t ms vs e
taken_fit t null vs e = cc
taken_fit t (boolean b) vs e = cc
taken_fit t (number n) vs e = cc
taken_fit t (string s) vs e = cc

length-with_item : (items : List Item) (new : Item) → length (with_item items new) ≤ length items + 1
length-with_item [] new = omega arith
length-with_item (first ∷ items) new = elim (value_cmp new.value first.value) as (λ r.
    length (match_ordering r (new ∷ first ∷ items) (record first { weight = new.weight } ∷ items) (first ∷ with_item items new)) ≤ suc (length items) + 1)
    [ Less ↦ omega arith | Equal ↦ omega arith | Greater ↦ omega (arith, length-with_item items new) ]

none_ascend : AscendByValue []
unfolding IsStrictlySortedBy
none_ascend = tt

-- items by value ascending, of the type, and no more than so many
record Set (t : ValueType) (most : ℕ) (items : List Item) : Type 0 where
  ascend : AscendByValue items
  typed : AreOfType t (values_of items)
  few : length items ≤ most

with_item_set : (t : ValueType) (most : ℕ) (items : List Item) (new : Item) → type_of new.value ≡ t → Set t most items → Set t (most + 1) (with_item items new)
with_item_set t most items new is set = record {
  ascend = ascend-with_item items new set.ascend;
  typed = all-with_items (λ v. type_of v ≡ t) items (new ∷ []) set.typed (is, tt);
  few = omega (arith, length-with_item items new, set.few);
}

weighted_set : (t : ValueType) (most : ℕ) (ms : Members) (items out : List Item) → weighted_after t items ms ≡ Ok out → Set t most items → Set t (most + members_len ms) out
unfolding weighted_after
weighted_set t most no_members items out e set =
    let is : items ≡ out = cc in
    let P : List Item → Type 0 = λ its. Set t (most + 0) its in
    let more : most ≡ most + 0 = omega arith in
    subst P is (subst (λ (n : ℕ). Set t n items) more set)
weighted_set t most (member name d ms) items out e set =
    let first = bind_ok (name_read t name) (λ v. weight_read d >>= λ w. weighted_after t (with_item items (record { value = v; weight = w })) ms) out e in
    let weight = bind_ok (weight_read d) (λ w. weighted_after t (with_item items (record { value = first.0; weight = w })) ms) out first.2 in
    let new : Item = record { value = first.0; weight = weight.0 } in
    let all = weighted_set t (most + 1) ms (with_item items new) out weight.2 (with_item_set t most items new (value_named_type t name first.0 first.1) set) in
    let sum : most + 1 + members_len ms ≡ most + suc (members_len ms) = omega arith in
    subst (λ (n : ℕ). Set t n out) sum all

-- ---- items

plain_weights : (vs : List Value) → HaveWeightOne (map plain_item vs)
plain_weights [] = tt
plain_weights (v ∷ vs) = (refl, plain_weights vs)

plain_values : (vs : List Value) → values_of (map plain_item vs) ≡ vs
plain_values [] = refl
plain_values (v ∷ vs) = ap (λ ws. v ∷ ws) (plain_values vs)

plain_length : (vs : List Value) → length (map plain_item vs) ≡ length vs
plain_length [] = refl
plain_length (v ∷ vs) = ap suc (plain_length vs)

pub list_fits : (t : ValueType) (d : Data) (items : List Item) → member_count d ≤ 1023 → list_read t d ≡ Ok items → ItemsFit Array t items
list_fits t d items few e = at d items few (bind_ok (or_else BadValue (as_array d)) (λ ds. values_read t ds >>= λ vs. Ok (map plain_item vs)) items e) where
  at : (d : Data) (items : List Item) → member_count d ≤ 1023 → (ds : Items) × (or_else BadValue (as_array d) ≡ Ok ds) × ((values_read t ds >>= λ vs. Ok (map plain_item vs)) ≡ Ok items) → ItemsFit Array t items
  at (array ds) items few (es, is, e) =
      let same : es ≡ ds = cc in
      let all = bind_ok (values_read t es) (λ vs. Ok (map plain_item vs)) items e in
      let out : map plain_item all.0 ≡ items = cc in
      let fit = listed t es all.0 all.1 in
      let len : length (map plain_item all.0) ≤ 1023 = omega (arith, plain_length all.0, fit.1, ap items_len same, few) in
      subst (λ (items : List Item). ItemsFit Array t items) out ((len, plain_weights all.0), subst (AreOfType t) (sym (plain_values all.0)) fit.0)
  at null items few (es, is, e) = cc
  at (boolean b) items few (es, is, e) = cc
  at (number n) items few (es, is, e) = cc
  at (string s) items few (es, is, e) = cc
  at (object ms) items few (es, is, e) = cc

pub weighted_fits : (t : ValueType) (d : Data) (items : List Item) → member_count d ≤ 1023 → set_read t d ≡ Ok items → ItemsFit WeightedSet t items
weighted_fits t d items few e = at d items few (bind_ok (or_else BadValue (as_object d)) (weighted_after t []) items e) where
  at : (d : Data) (items : List Item) → member_count d ≤ 1023 → (ms : Members) × (or_else BadValue (as_object d) ≡ Ok ms) × (weighted_after t [] ms ≡ Ok items) → ItemsFit WeightedSet t items
  at (object ms) items few (ns, is, e) =
      let same : ns ≡ ms = cc in
      let set = weighted_set t 0 ns [] items e (record { ascend = none_ascend; typed = tt; few = omega arith }) in
      ((omega (arith, set.few, ap members_len same, few), set.ascend), set.typed)
  at null items few (ns, is, e) = cc
  at (boolean b) items few (ns, is, e) = cc
  at (number n) items few (ns, is, e) = cc
  at (string s) items few (ns, is, e) = cc
  at (array ds) items few (ns, is, e) = cc

one_fits : (t : ValueType) (d : Data) (items : List Item) → one_read t d ≡ Ok items → ItemsFit Single t items
one_fits t d items e =
    let one = bind_ok (value_read t d) (λ v. Ok (plain_item v ∷ [])) items e in
    let out : plain_item one.0 ∷ [] ≡ items = cc in
    subst (λ (items : List Item). ItemsFit Single t items) out ((omega arith, (refl, tt)), (value_of_type t d one.0 one.1, tt))

pub none_fit : (kind : Kind) (t : ValueType) → ItemsFit kind t []
none_fit Single t = ((omega arith, tt), tt)
none_fit Array t = ((omega arith, tt), tt)
none_fit WeightedSet t = ((omega arith, none_ascend), tt)

some_items_fit : (kind : Kind) (t : ValueType) (d : Data) (items : List Item) → member_count d ≤ 1023 → some_items_read kind t d ≡ Ok items → ItemsFit kind t items
some_items_fit Single t d items few e = one_fits t d items e
some_items_fit Array t d items few e = list_fits t d items few e
some_items_fit WeightedSet t d items few e = weighted_fits t d items few e

pub items_fit : (kind : Kind) (t : ValueType) (d : Data) (items : List Item) → member_count d ≤ 1023 → items_read kind t d ≡ Ok items → ItemsFit kind t items
unfolding items_read
items_fit kind t d items few e = by (is_some (as_null d)) e where
  by : (b : Bool) → cond b (Ok []) (some_items_read kind t d) ≡ Ok items → ItemsFit kind t items
  by true e = let out : [] ≡ items = cc in subst (λ (items : List Item). ItemsFit kind t items) out (none_fit kind t)
  by false e = some_items_fit kind t d items few e
