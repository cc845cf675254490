-- The operations that a feed says fit the attributes.
use Rattle.std.proofs.Common.{◌≡◌, ℕ, ℤ, ◌+◌, ◌≤◌, Bool, true, false, cond, ◌||◌, List, [], ◌∷◌, Option, Some, None, option_and_then, option_map, unwrap_or, Result, Ok, Err, refl, subst, ap}
use Rattle.std.specs.List.{AllByRecursion, AllZip, list_any}
use Rattle.std.proofs.lemmas.Bool.{ltb-false}
use Rattle.serde_json.specs.Data.{Data}
use Rattle.serde_json.specs.Find.{get, as_str, as_object}
use Rattle.attr_types.specs.Change.{most_items}
use Rattle.attr_types.specs.Lawful.{IsDocNumber, ItemsFit, ActFits, ChangeFits, OpFits}
use Rattle.attr_types.specs.declared.change.Change.{Change}
use Rattle.attr_types.specs.declared.change.Change.TheVariants as changes
use Rattle.attr_types.specs.declared.field.Field.{Field}
use Rattle.attr_types.specs.declared.items.Item.{Item}
use Rattle.attr_types.specs.declared.kind.Kind.{Kind}
use Rattle.attr_types.specs.declared.kind.Kind.TheVariants.{Single, Array, WeightedSet}
use Rattle.attr_types.specs.declared.kind.ValueType.{ValueType}
use Rattle.attr_types.specs.declared.kind.ValueType.TheVariants.{Long, Text}
use Rattle.attr_types.specs.declared.change.Act.{Act}
use Rattle.attr_types.specs.declared.change.Act.TheVariants as acts
use Rattle.attr_types.specs.declared.value.Value.{Value}
use Rattle.attr_types.specs.Value.{type_of}
use Rattle.attr_types.specs.declared.op.Op.{Op}
use Rattle.attr_types.specs.declared.op.Op.TheVariants as ops
use Rattle.feed_reader.specs.declared.refusal.Refusal.{Refusal}
use Rattle.feed_reader.specs.declared.refusal.Refusal.TheVariants.{NotJson, NoOperation, BadId, BadValue, Unsupported, TooManyItems}
use Rattle.feed_reader.specs.declared.operation.OpName.{OpName}
use Rattle.feed_reader.specs.declared.operation.OpName.TheVariants as operations
use Rattle.feed_reader.specs.declared.operator.Operator.{Operator}
use Rattle.feed_reader.specs.declared.operator.Operator.TheVariants as operators
use Rattle.feed_reader.specs.declared.operator.Way.TheVariants.{Up, Down}
use Rattle.feed_reader.specs.declared.operation.Asked.{Asked}
use Rattle.feed_reader.specs.declared.operation.Asked.TheVariants as asks
use Rattle.feed_reader.specs.Answers.{◌>>=◌, or_else}
use Rattle.feed_reader.specs.Id.{id_read}
use Rattle.feed_reader.specs.Items.{items_read, list_read, set_read, taken_read, member_count}
use Rattle.feed_reader.specs.Lines.{is_blank, lines_of}
use Rattle.feed_reader.specs.Operators.{operator_named, operator_form, value_form, weight_form}
use Rattle.feed_reader.specs.Elements.{amount_read, place_read, element_by, element_read, match_parts, act_read, weight_act_read, at_read, of_read}
use Rattle.feed_reader.specs.Values.{value_read}
use Rattle.feed_reader.specs.Grammar.{json_read, op_name_of, id_of, fields_of, each_field, put_read, only_member, operator_read, update_read, all_some, create_of, asked_of, has_other_member, op_asked, supported}
use Rattle.feed_reader.specs.Grammar.{members_given, is_over, gives_too_many, op_of_value, op_of_line}
use Rattle.feed_reader.specs.Feed.{Fault, with_op, ops_of_lines, feed_of}
use Rattle.feed_reader.proofs.FitsLemmas.{bind_ok, or_else_ok, value_of_type, value_named_type, none_fit, taken_fit, list_fits, weighted_fits, items_fit}
use Rattle.feed_reader.proofs.IdLemmas.{named_document}

id_document : (o : Option (List ℕ)) (doc : ℕ) → option_and_then id_read o ≡ Some doc → IsDocNumber doc
id_document None doc e = cc
id_document (Some text) doc e = named_document text doc e

-- ---- what is read of one field

put_fits : (field : Field) (value : Option Data) (items : List Item) → members_given operations.Put value ≤ most_items → put_read field value ≡ Ok items → ItemsFit field.kind field.value items
put_fits field None items few e = let is : [] ≡ items = cc in subst (ItemsFit field.kind field.value) is (none_fit field.kind field.value)
put_fits field (Some d) items few e = items_fit field.kind field.value d items few e

-- a change that is there fits
abbrev ReadFits : Kind → ValueType → Option Change → Type 0
ReadFits kind t None = Unit {0}
ReadFits kind t (Some change) = ChangeFits kind t change

-- a change of a form, out of what was read
by_form : {A : Type 0} (kind : Kind) (t : ValueType) (make : A → Change) (said : Result A Refusal) (change : Option Change) → ((x : A) → said ≡ Ok x → ChangeFits kind t (make x))
    → (said >>= λ x. Ok (Some (make x))) ≡ Ok change → ReadFits kind t change
by_form kind t make (Ok x) change fits e = let is : Some (make x) ≡ change = cc in subst (ReadFits kind t) is (fits x refl)
by_form kind t make (Err refusal) change fits e = cc

unknown_fits : (kind : Kind) (t : ValueType) (change : Option Change) → (let none : Result (Option Change) Refusal = Ok None in none ≡ Ok change) → ReadFits kind t change
unknown_fits kind t change e = let is : None ≡ change = cc in subst (ReadFits kind t) is tt

assign_fits : (kind : Kind) (t : ValueType) (d : Data) (items : List Item) → member_count d ≤ most_items → items_read kind t d ≡ Ok items → ChangeFits kind t (changes.Assign items)
assign_fits kind t d items few e = items_fit kind t d items few e

-- ---- one item, in `match`

-- the parts of a `match`, out of what was read
by_parts : {A B : Type 0} (kind : Kind) (t : ValueType) (o : Option (Data × List ℕ × Data)) (first : Data → Result A Refusal) (second : List ℕ → Data → Result (Option B) Refusal) (make : A → B
    → Change) (change : Option Change)
    → ((d : Data) (x : A) (name : List ℕ) (value : Data) (y : B) → first d ≡ Ok x → second name value ≡ Ok (Some y) → ChangeFits kind t (make x y))
    → (or_else BadValue o >>= λ parts. first parts.0 >>= λ x. second parts.1 parts.2 >>= λ y. Ok (option_map (make x) y)) ≡ Ok change → ReadFits kind t change
by_parts kind t None first second make change fits e = cc
by_parts {A} {B} kind t (Some (element, name, value)) first second make change fits e =
    let one = bind_ok (first element) (λ (x : A). second name value >>= λ (y : Option B). Ok (option_map (make x) y)) change e in
    let two = bind_ok (second name value) (λ (y : Option B). Ok (option_map (make one.0) y)) change one.2 in
    let is : option_map (make one.0) two.0 ≡ change = cc in
    subst (ReadFits kind t) is (at one.0 one.1 two.0 two.1) where
      at : (x : A) → first element ≡ Ok x → (y : Option B) → second name value ≡ Ok y → ReadFits kind t (option_map (make x) y)
      at x placed None e = tt
      at x placed (Some y) e = fits element x name value y placed e

act_fits : (t : ValueType) (operator : Operator) (d : Data) (act : Act) → act_read t (value_form operator t) d ≡ Ok (Some act) → ActFits t act
act_fits t operators.Assign d act e =
    let one = bind_ok (value_read t d) (λ (v : Value). Ok (Some (acts.Set v))) (Some act) e in
    let is : acts.Set one.0 ≡ act = cc in
    subst (ActFits t) is (value_of_type t d one.0 one.1)
act_fits Long operators.Increment d act e =
    let one = bind_ok (amount_read Up d) (λ (n : ℤ). Ok (Some (acts.Shift n))) (Some act) e in
    let is : acts.Shift one.0 ≡ act = cc in
    subst (ActFits Long) is tt
act_fits Long operators.Decrement d act e =
    let one = bind_ok (amount_read Down d) (λ (n : ℤ). Ok (Some (acts.Shift n))) (Some act) e in
    let is : acts.Shift one.0 ≡ act = cc in
    subst (ActFits Long) is tt
act_fits Text operators.Increment d act e = cc
act_fits Text operators.Decrement d act e = cc
act_fits t operators.Add d act e = cc
act_fits t operators.Remove d act e = cc
act_fits t operators.Match d act e = cc
act_fits t operators.Other d act e = cc

at_fits : (t : ValueType) (d : Data) (change : Option Change) → at_read t d ≡ Ok change → ReadFits Array t change
at_fits t d change e =
    by_parts Array t (option_and_then match_parts (as_object d)) place_read (λ (name : List ℕ). act_read t (value_form (operator_named name) t)) changes.At change
    (λ element place name value act placed read. act_fits t (operator_named name) value act read) e

element_type : (t : ValueType) (d : Data) (o : Option (List ℕ)) (v : Value) → element_by t d o ≡ Ok v → type_of v ≡ t
element_type t d None v e = value_of_type t d v e
element_type t d (Some name) v e = value_named_type t name v e

of_fits : (t : ValueType) (d : Data) (change : Option Change) → of_read t d ≡ Ok change → ReadFits WeightedSet t change
of_fits t d change e =
    by_parts WeightedSet t (option_and_then match_parts (as_object d)) (element_read t) (λ (name : List ℕ). weight_act_read (weight_form (operator_named name))) changes.Of change
    (λ element v name value act named read. element_type t element (as_str element) v named) e

operator_fits : (name : List ℕ) (kind : Kind) (t : ValueType) (operator : Operator) (d : Data) (change : Option Change) → member_count d ≤ most_items
    → operator_read (record { name = name; kind = kind; value = t }) (operator_form operator kind t) d ≡ Ok change → ReadFits kind t change
operator_fits name kind t operators.Assign d change few e = by_form kind t changes.Assign (items_read kind t d) change (λ x is. assign_fits kind t d x few is) e
operator_fits name Single t operators.Add d change few e = unknown_fits Single t change e
operator_fits name Array t operators.Add d change few e = by_form Array t changes.Add (list_read t d) change (λ x is. list_fits t d x few is) e
operator_fits name WeightedSet t operators.Add d change few e = by_form WeightedSet t changes.Add (set_read t d) change (λ x is. weighted_fits t d x few is) e
operator_fits name Single t operators.Remove d change few e = unknown_fits Single t change e
operator_fits name Array t operators.Remove d change few e = unknown_fits Array t change e
operator_fits name WeightedSet t operators.Remove d change few e = by_form WeightedSet t changes.Take (taken_read t d) change (λ x is. taken_fit t d x is) e
operator_fits name Single Long operators.Increment d change few e = by_form Single Long changes.Shift (amount_read Up d) change (λ x is. tt) e
operator_fits name Single Text operators.Increment d change few e = unknown_fits Single Text change e
operator_fits name Array t operators.Increment d change few e = unknown_fits Array t change e
operator_fits name WeightedSet t operators.Increment d change few e = unknown_fits WeightedSet t change e
operator_fits name Single Long operators.Decrement d change few e = by_form Single Long changes.Shift (amount_read Down d) change (λ x is. tt) e
operator_fits name Single Text operators.Decrement d change few e = unknown_fits Single Text change e
operator_fits name Array t operators.Decrement d change few e = unknown_fits Array t change e
operator_fits name WeightedSet t operators.Decrement d change few e = unknown_fits WeightedSet t change e
operator_fits name Single t operators.Match d change few e = unknown_fits Single t change e
operator_fits name Array t operators.Match d change few e = at_fits t d change e
operator_fits name WeightedSet t operators.Match d change few e = of_fits t d change e
operator_fits name kind t operators.Other d change few e = unknown_fits kind t change e

update_fits : (field : Field) (value : Option Data) (change : Option Change) → members_given operations.Update value ≤ most_items → update_read field value ≡ Ok change → ReadFits field.kind field.value change
update_fits field None change few e = let is : Some changes.Keep ≡ change = cc in subst (ReadFits field.kind field.value) is tt
update_fits field (Some d) change few e =
    let rest = λ (operator : List ℕ × Data). operator_read field (operator_form (operator_named operator.0) field.kind field.value) operator.1 in
    let one = bind_ok (or_else BadValue (option_and_then only_member (as_object d))) rest change e in
    let given = ap (λ (o : Option (List ℕ × Data)). unwrap_or (option_map member_count (option_map (λ operator. operator.1) o)) 0) (or_else_ok BadValue (option_and_then only_member (as_object d)) one.0 one.1) in
    operator_fits field.name field.kind field.value (operator_named one.0.0) one.0.1 change (subst (λ (n : ℕ). n ≤ most_items) given few) one.2

-- ---- the fields

or_false : (a b : Bool) → (a || b) ≡ false → (a ≡ false) × (b ≡ false)
or_false true b e = cc
or_false false b e = (refl, e)

each_fits : {X : Type 0} (read_of : Field → Option Data → Result X Refusal) (P : Field → X → Type 0) (test : Field → Bool) (d : Data)
    → ((field : Field) (x : X) → test field ≡ false → read_of field (get field.name d) ≡ Ok x → P field x)
    → (fields : List Field) (xs : List X) → list_any test fields ≡ false → each_field read_of fields d ≡ Ok xs → AllZip P fields xs
unfolding each_field
each_fits read_of P test d one [] xs few e = let is : [] ≡ xs = cc in subst (AllZip P []) is tt
each_fits {X} read_of P test d one (field ∷ fields) xs few e =
    let first = bind_ok (read_of field (get field.name d)) (λ (x : X). each_field read_of fields d >>= λ (more : List X). Ok (x ∷ more)) xs e in
    let rest = bind_ok (each_field read_of fields d) (λ (more : List X). Ok (first.0 ∷ more)) xs first.2 in
    let is : first.0 ∷ rest.0 ≡ xs = cc in
    let parts = or_false (test field) (list_any test fields) few in
    subst (AllZip P (field ∷ fields)) is (one field first.0 parts.0 first.1, each_fits read_of P test d one fields rest.0 parts.1 rest.1)

first_fits : (field : Field) (fields : List Field) (change : Change) (o : Option (List Change)) (all : List Change) → ChangeFits field.kind field.value change
    → ((more : List Change) → o ≡ Some more → AllZip (λ field change. ChangeFits field.kind field.value change) fields more)
    → option_map (λ more. change ∷ more) o ≡ Some all → AllZip (λ field change. ChangeFits field.kind field.value change) (field ∷ fields) all
first_fits field fields change None all fit rest e = cc
first_fits field fields change (Some more) all fit rest e =
    let whole : change ∷ more ≡ all = cc in
    subst (AllZip (λ (field : Field) (change : Change). ChangeFits field.kind field.value change) (field ∷ fields)) whole (fit, rest more refl)

some_fit : (fields : List Field) (found : List (Option Change)) (all : List Change) → AllZip (λ field change. ReadFits field.kind field.value change) fields found → all_some found ≡ Some all
    → AllZip (λ field change. ChangeFits field.kind field.value change) fields all
some_fit [] [] all fit e = let is : [] ≡ all = cc in subst (AllZip (λ (field : Field) (change : Change). ChangeFits field.kind field.value change) []) is tt
some_fit [] (change ∷ found) all fit e = absurd fit
some_fit (field ∷ fields) [] all fit e = absurd fit
some_fit (field ∷ fields) (None ∷ found) all fit e = cc
some_fit (field ∷ fields) (Some change ∷ found) all fit e = first_fits field fields change (all_some found) all fit.0 (λ more is. some_fit fields found more fit.1 is) e

-- what a line asks for fits the attributes
abbrev AskedFits : List Field → Asked → Type 0
AskedFits fields (asks.Put document) = AllZip (λ field own. ItemsFit field.kind field.value own) fields document
AskedFits fields (asks.Update create None) = Unit {0}
AskedFits fields (asks.Update create (Some all)) = AllZip (λ field change. ChangeFits field.kind field.value change) fields all
AskedFits fields asks.Remove = Unit {0}

changes_fit : (fields : List Field) (create : Bool) (found : List (Option Change)) → AllZip (λ field change. ReadFits field.kind field.value change) fields found → AskedFits fields (asks.Update create (all_some found))
changes_fit fields create found fit = at (all_some found) refl where
  at : (o : Option (List Change)) → all_some found ≡ o → AskedFits fields (asks.Update create o)
  at None is = tt
  at (Some all) is = some_fit fields found all fit is

asked_fits : (fields : List Field) (operation : OpName) (create : Option Bool) (members : Option Data) (asked : Asked) → gives_too_many fields operation members ≡ false
    → asked_of fields operation create members ≡ Ok asked → AskedFits fields asked
unfolding asked_of
asked_fits fields operations.Put None members asked few e = cc
asked_fits fields operations.Put (Some create) None asked few e = cc
asked_fits fields operations.Put (Some create) (Some d) asked few e =
    let all = bind_ok (each_field put_read fields d) (λ (document : List (List Item)). Ok (asks.Put document)) asked e in
    let is : asks.Put all.0 ≡ asked = cc in
    let test = is_over operations.Put d in
    let one = λ (field : Field) (items : List Item) (small : test field ≡ false) (read : put_read field (get field.name d) ≡ Ok items). put_fits field (get field.name d) items
    (ltb-false most_items (members_given operations.Put (get field.name d)) small) read in
    subst (AskedFits fields) is (each_fits put_read (λ (field : Field) (own : List Item). ItemsFit field.kind field.value own) test d one fields all.0 few all.1)
asked_fits fields operations.Update None members asked few e = cc
asked_fits fields operations.Update (Some create) None asked few e = cc
asked_fits fields operations.Update (Some create) (Some d) asked few e =
    let all = bind_ok (each_field update_read fields d) (λ (found : List (Option Change)). Ok (asks.Update create (all_some found))) asked e in
    let is : asks.Update create (all_some all.0) ≡ asked = cc in
    let test = is_over operations.Update d in
    let one = λ (field : Field) (change : Option Change) (small : test field ≡ false) (read : update_read field (get field.name d) ≡ Ok change). update_fits field (get field.name d) change
    (ltb-false most_items (members_given operations.Update (get field.name d)) small) read in
    subst (AskedFits fields) is (changes_fit fields create all.0 (each_fits update_read (λ (field : Field) (change : Option Change). ReadFits field.kind field.value change) test d one fields all.0 few all.1))
asked_fits fields operations.Remove create members asked few e =
    let is : asks.Remove ≡ asked = cc in
    subst (AskedFits fields) is tt

-- ---- the lines

op_fits : (fields : List Field) (doc : ℕ) (asked : Asked) (op : Op) → IsDocNumber doc → AskedFits fields asked → op_asked doc asked ≡ Some op → OpFits fields op
op_fits fields doc (asks.Put document) op number fits e = let is : ops.Put doc document ≡ op = cc in subst (OpFits fields) is (number, fits)
op_fits fields doc (asks.Update create (Some all)) op number fits e = let is : ops.Update doc create all ≡ op = cc in subst (OpFits fields) is (number, fits)
op_fits fields doc (asks.Update create None) op number fits e = cc
op_fits fields doc asks.Remove op number fits e = let is : ops.Remove doc ≡ op = cc in subst (OpFits fields) is number

unless_some : {A : Type 0} (b : Bool) (o : Option A) (x : A) → cond b None o ≡ Some x → o ≡ Some x
unless_some true o x e = cc
unless_some false o x e = e

unless_err : {A : Type 0} (b : Bool) (refusal : Refusal) (x y : A) → cond b (Err refusal) (Ok x) ≡ Ok y → (b ≡ false) × (x ≡ y)
unless_err true refusal x y e = cc
unless_err false refusal x y e = (refl, cc)

value_fits : (fields : List Field) (d : Data) (op : Op) → op_of_value fields d ≡ Ok op → OpFits fields op
unfolding op_of_value
value_fits fields d op e =
    let finish = λ (operation : OpName) (op : Op). cond (gives_too_many fields operation (fields_of d)) (Err TooManyItems) (Ok op) in
    let with_asked = λ (operation : OpName) (doc : ℕ) (asked : Asked). or_else Unsupported (supported operation d doc asked) >>= finish operation in
    let with_doc = λ (operation : OpName) (doc : ℕ). asked_of fields operation (create_of d) (fields_of d) >>= with_asked operation doc in
    let with_operation = λ (operation : OpName × Data). or_else BadId (id_of operation.1) >>= with_doc operation.0 in
    let operation = bind_ok (or_else NoOperation (op_name_of d)) with_operation op e in
    let doc = bind_ok (or_else BadId (id_of operation.0.1)) (with_doc operation.0.0) op operation.2 in
    let asked = bind_ok (asked_of fields operation.0.0 (create_of d) (fields_of d)) (with_asked operation.0.0 doc.0) op doc.2 in
    let named = bind_ok (or_else Unsupported (supported operation.0.0 d doc.0 asked.0)) (finish operation.0.0) op asked.2 in
    let last = unless_err (gives_too_many fields operation.0.0 (fields_of d)) TooManyItems named.0 op named.2 in
    let number = id_document (as_str operation.0.1) doc.0 (or_else_ok BadId (id_of operation.0.1) doc.0 doc.1) in
    let made = unless_some (has_other_member operation.0.0 d) (op_asked doc.0 asked.0) named.0 (or_else_ok Unsupported (supported operation.0.0 d doc.0 asked.0) named.0 named.1) in
    subst (OpFits fields) last.1 (op_fits fields doc.0 asked.0 named.0 number (asked_fits fields operation.0.0 (create_of d) (fields_of d) asked.0 last.0 asked.1) made)

line_fits : (fields : List Field) (line : List ℕ) (op : Op) → op_of_line fields line ≡ Ok op → OpFits fields op
unfolding op_of_line
line_fits fields line op e =
    let json = bind_ok (or_else NotJson (json_read line)) (op_of_value fields) op e in
    value_fits fields json.0 op json.2

with_op_ok : (n : ℕ) (line : Result Op Refusal) (more : Result (List Op) Fault) (ops : List Op) → with_op n line more ≡ Ok ops
    → (op : Op) × (rest : List Op) × (line ≡ Ok op) × (more ≡ Ok rest) × (op ∷ rest ≡ ops)
with_op_ok n (Err refusal) more ops e = cc
with_op_ok n (Ok op) (Err fault) ops e = cc
with_op_ok n (Ok op) (Ok rest) ops e = (op, rest, refl, refl, cc)

by_line : (fields : List Field) (blank : Bool) (n : ℕ) (said : Result Op Refusal) (more : Result (List Op) Fault) (ops : List Op)
    → ((op : Op) → said ≡ Ok op → OpFits fields op) → ((rest : List Op) → more ≡ Ok rest → AllByRecursion (OpFits fields) rest)
    → cond blank more (with_op n said more) ≡ Ok ops → AllByRecursion (OpFits fields) ops
by_line fields true n said more ops here later e = later ops e
by_line fields false n said more ops here later e =
    let all = with_op_ok n said more ops e in
    subst (λ (ops : List Op). AllByRecursion (OpFits fields) ops) all.4 (here all.0 all.2, later all.1 all.3)

lines_fit : (fields : List Field) (n : ℕ) (lines : List (List ℕ)) (ops : List Op) → ops_of_lines fields n lines ≡ Ok ops → AllByRecursion (OpFits fields) ops
unfolding ops_of_lines
lines_fit fields n [] ops e = let is : [] ≡ ops = cc in subst (λ (ops : List Op). AllByRecursion (OpFits fields) ops) is tt
lines_fit fields n (line ∷ lines) ops e =
    by_line fields (is_blank line) n (op_of_line fields line) (ops_of_lines fields (n + 1) lines) ops (line_fits fields line) (lines_fit fields (n + 1) lines) e

pub feed_fits : (fields : List Field) (bytes : List ℕ) (ops : List Op) → feed_of fields bytes ≡ Ok ops → AllByRecursion (OpFits fields) ops
unfolding feed_of
feed_fits fields bytes ops e = lines_fit fields 1 (lines_of bytes) ops e
