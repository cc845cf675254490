-- What is read of a value is read exactly where the value has its form, and else it is BadValue.
use Rattle.std.proofs.Common.{◌≡◌, ℕ, ℤ, pos, ◌<◌, ◌≤◌, ◌^◌, Bool, true, false, cond, ◌&&◌, List, [], ◌∷◌, length, map, Option, Some, None, option_map, option_and_then, Result, Ok, Err, refl, arith, nat_lt, nat_le}
use Rattle.std.specs.Prelude.{IfSome, IsSomeAnd, IsTrue}
use Rattle.std.specs.List.{AllByRecursion}
use Rattle.std.specs.Str.Parse.{signed_digits_value}
use Rattle.std.proofs.lemmas.Bool.{ltb-true, ltb-false, leb-true, leb-false}
use Rattle.serde_json.specs.Data.{unsigned, negative, float, Data, null, boolean, number, string, array, object, Items, no_items, item, Members, no_members, member}
use Rattle.serde_json.specs.Find.{get}
use Rattle.attr_types.specs.Change.{with_item}
use Rattle.attr_types.specs.declared.change.Change.{Change}
use Rattle.attr_types.specs.declared.change.Change.TheVariants as changes
use Rattle.attr_types.specs.declared.field.Field.{Field}
use Rattle.attr_types.specs.declared.items.Item.{Item}
use Rattle.attr_types.specs.declared.kind.Kind.{Kind}
use Rattle.attr_types.specs.declared.kind.Kind.TheVariants.{Single, Array, WeightedSet}
use Rattle.attr_types.specs.declared.kind.ValueType.{ValueType}
use Rattle.attr_types.specs.declared.kind.ValueType.TheVariants as types
use Rattle.attr_types.specs.declared.value.Value.{Value}
use Rattle.attr_types.specs.declared.value.Value.TheVariants as values
use Rattle.feed_reader.specs.declared.refusal.Refusal.{Refusal}
use Rattle.feed_reader.specs.declared.refusal.Refusal.TheVariants.{BadValue}
use Rattle.attr_types.specs.declared.change.Act.TheVariants as acts
use Rattle.attr_types.specs.declared.change.WeightAct.TheVariants as weight_acts
use Rattle.feed_reader.specs.declared.operator.Form.{Form}
use Rattle.feed_reader.specs.declared.operator.Form.TheVariants as forms
use Rattle.feed_reader.specs.declared.operator.ItemForm.{ItemForm}
use Rattle.feed_reader.specs.declared.operator.ItemForm.TheVariants.{New, Amount}
use Rattle.feed_reader.specs.declared.operator.Way.{Way}
use Rattle.feed_reader.specs.Answers.{◌>>=◌, or_else}
use Rattle.feed_reader.specs.Numerals.{is_whole_numeral, is_long_number, long_written}
use Rattle.feed_reader.specs.Values.{text_read, long_read, value_read, name_read, is_weight_number, small_read, weight_read}
use Rattle.feed_reader.specs.Items.{values_read, names_read, weighted_after, set_read, plain_item, list_read, some_items_read, items_read, taken_read}
use Rattle.feed_reader.specs.Operators.{operator_named, operator_form, value_form, weight_form}
use Rattle.feed_reader.specs.Elements.{by_way, amount_read, place_of_number, place_read, element_read, match_parts, act_read, weight_act_read, at_read, of_read}
use Rattle.feed_reader.specs.Grammar.{each_field, put_read, change_read, operator_read, update_read}
use Rattle.feed_reader.specs.Forms.{IsLong, IsValue, IsName, IsWeight, AreValues, AreWeights, AreNames, HasListForm, HasWeightsForm, HasNamesForm, HasKindForm, HasItemsForm, IsArrayPlace, IsElement, HasValueForm}
use Rattle.feed_reader.specs.Forms.{IsMatch}
use Rattle.feed_reader.specs.Forms.{IsChangeAt, IsChangeOf, HasForm, IsUpdate}

-- ---- what an answer tells

abbrev pub Tells : {X : Type 0} → Type 0 → Result X Refusal → Type 0
Tells P (Ok x) = P
Tells P (Err refusal) = (refusal ≡ BadValue) × ¬ P

abbrev pub TellsSome : {X : Type 0} → Type 0 → Option X → Type 0
TellsSome P (Some x) = P
TellsSome P None = ¬ P

abbrev pub TellsBool : Type 0 → Bool → Type 0
TellsBool P true = P
TellsBool P false = ¬ P

pub never : ¬ ⊥
never nothing = nothing

pub tells_same : {X : Type 0} (P Q : Type 0) (r : Result X Refusal) → (P → Q) → (Q → P) → Tells P r → Tells Q r
tells_same P Q (Ok x) to from t = to t
tells_same P Q (Err refusal) to from t = (t.0, λ q. t.1 (from q))

also : {B : Type 0} (P Q : Type 0) (r : Result B Refusal) → P → Tells Q r → Tells (P × Q) r
also P Q (Ok y) p t = (p, t)
also P Q (Err refusal) p t = (t.0, λ both. t.1 both.1)

pub tells_and : {A B : Type 0} (P Q : Type 0) (r : Result A Refusal) (f : A → Result B Refusal) → Tells P r → ((x : A) → r ≡ Ok x → Tells Q (f x)) → Tells (P × Q) (r >>= f)
tells_and P Q (Ok x) f t more = also P Q (f x) t (more x refl)
tells_and P Q (Err refusal) f t more = (t.0, λ both. t.1 both.0)

pub tells_then : {A B : Type 0} (P : Type 0) (r : Result A Refusal) (f : A → B) → Tells P r → Tells P (r >>= λ x. Ok (f x))
tells_then P (Ok x) f t = t
tells_then P (Err refusal) f t = t

pub tells_option : {A : Type 0} (P : Type 0) (o : Option A) → TellsSome P o → Tells P (or_else BadValue o)
tells_option P None t = (refl, t)
tells_option P (Some x) t = t

tells_map : {A B : Type 0} (P : Type 0) (o : Option A) (f : A → B) → TellsSome P o → TellsSome P (option_map f o)
tells_map P None f t = t
tells_map P (Some x) f t = t

tells_if : {A : Type 0} (P : Type 0) (b : Bool) (x : A) → TellsBool P b → TellsSome P (cond b (Some x) None)
tells_if P true x t = t
tells_if P false x t = t

pub tells_true : (b : Bool) → TellsBool (IsTrue b) b
tells_true true = refl
tells_true false = λ e. cc

pub tells_lt : (a b : ℕ) → TellsBool (a < b) (nat_lt a b)
tells_lt a b = at (nat_lt a b) refl where
  at : (c : Bool) → nat_lt a b ≡ c → TellsBool (a < b) c
  at true e = ltb-true a b e
  at false e = λ below. let above = ltb-false a b e in absurd (omega arith)

tells_le : (a b : ℕ) → TellsBool (a ≤ b) (nat_le a b)
tells_le a b = at (nat_le a b) refl where
  at : (c : Bool) → nat_le a b ≡ c → TellsBool (a ≤ b) c
  at true e = leb-true a b e
  at false e = λ below. let above = leb-false a b e in absurd (omega arith)

-- ---- values

long_tells : (d : Data) → TellsSome (IsLong d) (long_read d)
long_tells (number (unsigned n)) = tells_if (n < 2 ^ 63) (nat_lt n (2 ^ 63)) (pos n) (tells_lt n (2 ^ 63))
long_tells (number (negative z)) = tt
long_tells (number (float x)) = never
long_tells null = never
long_tells (boolean b) = never
long_tells (string s) = never
long_tells (array ds) = never
long_tells (object ms) = never

text_tells : (s : List ℕ) → TellsSome (length s ≤ 1024) (text_read s)
text_tells s = tells_if (length s ≤ 1024) (nat_le (length s) 1024) (values.Text s) (tells_le (length s) 1024)

value_tells : (t : ValueType) (d : Data) → Tells (IsValue t d) (value_read t d)
value_tells types.Long d = tells_option (IsLong d) (option_map values.Long (long_read d)) (tells_map (IsLong d) (long_read d) values.Long (long_tells d))
value_tells types.Text (string s) = tells_option (length s ≤ 1024) (text_read s) (text_tells s)
value_tells types.Text null = (refl, never)
value_tells types.Text (boolean b) = (refl, never)
value_tells types.Text (number n) = (refl, never)
value_tells types.Text (array ds) = (refl, never)
value_tells types.Text (object ms) = (refl, never)

written_tells : (name : List ℕ) → TellsSome (IsTrue (is_whole_numeral name && is_long_number (signed_digits_value 10 name))) (long_written name)
unfolding long_written
written_tells name =
    let whole = is_whole_numeral name && is_long_number (signed_digits_value 10 name) in
    tells_if (IsTrue whole) whole (signed_digits_value 10 name) (tells_true whole)

name_tells : (t : ValueType) (name : List ℕ) → Tells (IsName t name) (name_read t name)
name_tells types.Long name =
    let P = IsTrue (is_whole_numeral name && is_long_number (signed_digits_value 10 name)) in
    tells_option P (option_map values.Long (long_written name)) (tells_map P (long_written name) values.Long (written_tells name))
name_tells types.Text name = tells_option (length name ≤ 1024) (text_read name) (text_tells name)

small_tells : (z : ℤ) → TellsSome (IsTrue (is_weight_number z)) (small_read z)
small_tells z = tells_if (IsTrue (is_weight_number z)) (is_weight_number z) z (tells_true (is_weight_number z))

small_below : (n : ℕ) → IsTrue (is_weight_number (pos n)) → n ≤ 2147483647
small_below n small = leb-true n 2147483647 small

unsigned_tells : (n : ℕ) → TellsSome (IsTrue (is_weight_number (pos n))) (option_and_then small_read (cond (nat_lt n (2 ^ 63)) (Some (pos n)) None))
unsigned_tells n = at (nat_lt n (2 ^ 63)) refl where
  at : (b : Bool) → nat_lt n (2 ^ 63) ≡ b → TellsSome (IsTrue (is_weight_number (pos n))) (option_and_then small_read (cond b (Some (pos n)) None))
  at true e = small_tells (pos n)
  at false e = λ small. let above = ltb-false n (2 ^ 63) e in let below = small_below n small in absurd (omega arith)

weight_tells : (d : Data) → Tells (IsWeight d) (weight_read d)
weight_tells (number (unsigned n)) = tells_option (IsTrue (is_weight_number (pos n))) (option_and_then small_read (cond (nat_lt n (2 ^ 63)) (Some (pos n)) None)) (unsigned_tells n)
weight_tells (number (negative z)) = tells_option (IsTrue (is_weight_number z)) (small_read z) (small_tells z)
weight_tells (number (float x)) = (refl, never)
weight_tells null = (refl, never)
weight_tells (boolean b) = (refl, never)
weight_tells (string s) = (refl, never)
weight_tells (array ds) = (refl, never)
weight_tells (object ms) = (refl, never)

-- ---- items

values_tell : (t : ValueType) (ds : Items) → Tells (AreValues t ds) (values_read t ds)
unfolding values_read
values_tell t no_items = tt
values_tell t (item d ds) =
    tells_and (IsValue t d) (AreValues t ds) (value_read t d) (λ (v : Value). values_read t ds >>= λ (vs : List Value). Ok (v ∷ vs)) (value_tells t d)
    (λ v is. tells_then (AreValues t ds) (values_read t ds) (λ (vs : List Value). v ∷ vs) (values_tell t ds))

names_tell : (t : ValueType) (ms : Members) → Tells (AreNames t ms) (names_read t ms)
unfolding names_read
names_tell t no_members = tt
names_tell t (member name d ms) =
    tells_and (IsName t name) (AreNames t ms) (name_read t name) (λ (v : Value). names_read t ms >>= λ (vs : List Value). Ok (v ∷ vs)) (name_tells t name)
    (λ v is. tells_then (AreNames t ms) (names_read t ms) (λ (vs : List Value). v ∷ vs) (names_tell t ms))

weights_tell : (t : ValueType) (ms : Members) (items : List Item) → Tells (AreWeights t ms) (weighted_after t items ms)
unfolding weighted_after
weights_tell t no_members items = tt
weights_tell t (member name d ms) items =
    let with = λ (v : Value) (w : ℤ). weighted_after t (with_item items (record { value = v; weight = w })) ms in
    tells_and (IsName t name) (IsWeight d × AreWeights t ms) (name_read t name) (λ (v : Value). weight_read d >>= with v) (name_tells t name)
    (λ v named. tells_and (IsWeight d) (AreWeights t ms) (weight_read d) (with v) (weight_tells d) (λ w weighed. weights_tell t ms (with_item items (record { value = v; weight = w }))))

list_tells : (t : ValueType) (d : Data) → Tells (HasListForm t d) (list_read t d)
list_tells t (array ds) = tells_then (AreValues t ds) (values_read t ds) (map plain_item) (values_tell t ds)
list_tells t null = (refl, never)
list_tells t (boolean b) = (refl, never)
list_tells t (number n) = (refl, never)
list_tells t (string s) = (refl, never)
list_tells t (object ms) = (refl, never)

weighted_tells : (t : ValueType) (d : Data) → Tells (HasWeightsForm t d) (set_read t d)
weighted_tells t (object ms) = weights_tell t ms []
weighted_tells t null = (refl, never)
weighted_tells t (boolean b) = (refl, never)
weighted_tells t (number n) = (refl, never)
weighted_tells t (string s) = (refl, never)
weighted_tells t (array ds) = (refl, never)

taken_tells : (t : ValueType) (d : Data) → Tells (HasNamesForm t d) (taken_read t d)
unfolding taken_read
taken_tells t (array ds) = values_tell t ds
taken_tells t (object ms) = names_tell t ms
taken_tells t null = (refl, never)
taken_tells t (boolean b) = (refl, never)
taken_tells t (number n) = (refl, never)
taken_tells t (string s) = (refl, never)

some_items_tell : (kind : Kind) (t : ValueType) (d : Data) → Tells (HasKindForm kind t d) (some_items_read kind t d)
some_items_tell Single t d = tells_then (IsValue t d) (value_read t d) (λ (v : Value). plain_item v ∷ []) (value_tells t d)
some_items_tell Array t d = list_tells t d
some_items_tell WeightedSet t d = weighted_tells t d

items_tell : (kind : Kind) (t : ValueType) (d : Data) → Tells (HasItemsForm kind t d) (items_read kind t d)
unfolding items_read
items_tell kind t null = tt
items_tell kind t (boolean b) = some_items_tell kind t (boolean b)
items_tell kind t (number n) = some_items_tell kind t (number n)
items_tell kind t (string s) = some_items_tell kind t (string s)
items_tell kind t (array ds) = some_items_tell kind t (array ds)
items_tell kind t (object ms) = some_items_tell kind t (object ms)

-- ---- a put's field

pub put_tells : (field : Field) (value : Option Data) → Tells (IfSome value (HasItemsForm field.kind field.value)) (put_read field value)
put_tells field None = tt
put_tells field (Some d) = items_tell field.kind field.value d

-- ---- one item, in `match`

amount_tells : (way : Way) (d : Data) → Tells (IsWeight d) (amount_read way d)
amount_tells way d = tells_then (IsWeight d) (weight_read d) (by_way way) (weight_tells d)

place_tells : (d : Data) → Tells (IsArrayPlace d) (place_read d)
place_tells (number (unsigned n)) =
    tells_option (n ≤ 4294967295) (place_of_number n) (tells_if (n ≤ 4294967295) (nat_le n 4294967295) n (tells_le n 4294967295))
place_tells (number (negative z)) = (refl, never)
place_tells (number (float x)) = (refl, never)
place_tells null = (refl, never)
place_tells (boolean b) = (refl, never)
place_tells (string s) = (refl, never)
place_tells (array ds) = (refl, never)
place_tells (object ms) = (refl, never)

element_tells : (t : ValueType) (d : Data) → Tells (IsElement t d) (element_read t d)
element_tells t (string s) = name_tells t s
element_tells t null = value_tells t null
element_tells t (boolean b) = value_tells t (boolean b)
element_tells t (number n) = value_tells t (number n)
element_tells t (array ds) = value_tells t (array ds)
element_tells t (object ms) = value_tells t (object ms)

act_tells : (t : ValueType) (form : Option ItemForm) (d : Data) → Tells (IfSome form (λ form. HasValueForm t form d)) (act_read t form d)
act_tells t None d = tt
act_tells t (Some New) d = tells_then (IsValue t d) (value_read t d) (λ (v : Value). Some (acts.Set v)) (value_tells t d)
act_tells t (Some (Amount way)) d = tells_then (IsWeight d) (amount_read way d) (λ (n : ℤ). Some (acts.Shift n)) (amount_tells way d)

weight_act_tells : (form : Option ItemForm) (d : Data) → Tells (IfSome form (λ form. IsWeight d)) (weight_act_read form d)
weight_act_tells None d = tt
weight_act_tells (Some New) d = tells_then (IsWeight d) (weight_read d) (λ (w : ℤ). Some (weight_acts.Set w)) (weight_tells d)
weight_act_tells (Some (Amount way)) d = tells_then (IsWeight d) (amount_read way d) (λ (n : ℤ). Some (weight_acts.Shift n)) (amount_tells way d)

-- the parts of a `match`, one after the other
parts_tell : {A B : Type 0} (P : Data → Type 0) (Q : List ℕ → Data → Type 0) (first : Data → Result A Refusal) (second : List ℕ → Data → Result (Option B) Refusal) (make : A → B → Change)
    → ((d : Data) → Tells (P d) (first d)) → ((name : List ℕ) (d : Data) → Tells (Q name d) (second name d)) → (o : Option (Data × List ℕ × Data))
    → Tells (IsSomeAnd o (λ parts. P parts.0 × Q parts.1 parts.2)) (or_else BadValue o >>= λ parts. first parts.0 >>= λ x. second parts.1 parts.2 >>= λ y. Ok (option_map (make x) y))
parts_tell P Q first second make one two None = (refl, never)
parts_tell {A} {B} P Q first second make one two (Some (element, name, d)) =
    tells_and (P element) (Q name d) (first element) (λ (x : A). second name d >>= λ (y : Option B). Ok (option_map (make x) y)) (one element)
    (λ x is. tells_then (Q name d) (second name d) (λ (y : Option B). option_map (make x) y) (two name d))

at_tells : (t : ValueType) (d : Data) → Tells (IsMatch (IsChangeAt t) d) (at_read t d)
at_tells t (object ms) =
    parts_tell IsArrayPlace (λ (name : List ℕ) (d : Data). IfSome (value_form (operator_named name) t) (λ (form : ItemForm). HasValueForm t form d)) place_read
    (λ (name : List ℕ). act_read t (value_form (operator_named name) t)) changes.At place_tells (λ name. act_tells t (value_form (operator_named name) t)) (match_parts ms)
at_tells t null = (refl, never)
at_tells t (boolean b) = (refl, never)
at_tells t (number n) = (refl, never)
at_tells t (string s) = (refl, never)
at_tells t (array ds) = (refl, never)

of_tells : (t : ValueType) (d : Data) → Tells (IsMatch (IsChangeOf t) d) (of_read t d)
of_tells t (object ms) =
    parts_tell (IsElement t) (λ (name : List ℕ) (d : Data). IfSome (weight_form (operator_named name)) (λ (form : ItemForm). IsWeight d)) (element_read t)
    (λ (name : List ℕ). weight_act_read (weight_form (operator_named name))) changes.Of (element_tells t) (λ name. weight_act_tells (weight_form (operator_named name))) (match_parts ms)
of_tells t null = (refl, never)
of_tells t (boolean b) = (refl, never)
of_tells t (number n) = (refl, never)
of_tells t (string s) = (refl, never)
of_tells t (array ds) = (refl, never)

-- ---- one field

change_tells : (field : Field) (form : Form) (d : Data) → Tells (HasForm form field.kind field.value d) (change_read field form d)
change_tells field forms.Items d = tells_then (HasItemsForm field.kind field.value d) (items_read field.kind field.value d) (λ (items : List Item). Some (changes.Assign items)) (items_tell field.kind field.value d)
change_tells field forms.List d = tells_then (HasListForm field.value d) (list_read field.value d) (λ (items : List Item). Some (changes.Add items)) (list_tells field.value d)
change_tells field forms.Weights d = tells_then (HasWeightsForm field.value d) (set_read field.value d) (λ (items : List Item). Some (changes.Add items)) (weighted_tells field.value d)
change_tells field forms.Names d = tells_then (HasNamesForm field.value d) (taken_read field.value d) (λ (names : List Value). Some (changes.Take names)) (taken_tells field.value d)
change_tells field (forms.Amount way) d = tells_then (IsWeight d) (amount_read way d) (λ (n : ℤ). Some (changes.Shift n)) (amount_tells way d)
change_tells field forms.AtPlace d = at_tells field.value d
change_tells field forms.OfValue d = of_tells field.value d

operator_tells : (field : Field) (form : Option Form) (d : Data) → Tells (IfSome form (λ form. HasForm form field.kind field.value d)) (operator_read field form d)
operator_tells field None d = tt
operator_tells field (Some form) d = change_tells field form d

pub update_tells : (field : Field) (value : Option Data) → Tells (IfSome value (IsUpdate field)) (update_read field value)
update_tells field None = tt
update_tells field (Some null) = (refl, never)
update_tells field (Some (boolean b)) = (refl, never)
update_tells field (Some (number n)) = (refl, never)
update_tells field (Some (string s)) = (refl, never)
update_tells field (Some (array ds)) = (refl, never)
update_tells field (Some (object no_members)) = (refl, never)
update_tells field (Some (object (member name d no_members))) = operator_tells field (operator_form (operator_named name) field.kind field.value) d
update_tells field (Some (object (member name d (member other e ms)))) = (refl, never)

-- ---- each field

pub each_tells : {X : Type 0} (read_of : Field → Option Data → Result X Refusal) (P : Field → Option Data → Type 0) (d : Data)
    → ((field : Field) (value : Option Data) → Tells (P field value) (read_of field value))
    → (fields : List Field) → Tells (AllByRecursion (λ field. P field (get field.name d)) fields) (each_field read_of fields d)
unfolding each_field
each_tells read_of P d one [] = tt
each_tells {X} read_of P d one (field ∷ fields) =
    let all = AllByRecursion (λ (field : Field). P field (get field.name d)) fields in
    tells_and (P field (get field.name d)) all (read_of field (get field.name d)) (λ (x : X). each_field read_of fields d >>= λ (xs : List X). Ok (x ∷ xs)) (one field (get field.name d))
    (λ x is. tells_then all (each_field read_of fields d) (λ (xs : List X). x ∷ xs) (each_tells read_of P d one fields))
