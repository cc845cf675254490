-- The answer of a line is the first row that holds.
use Rattle.std.proofs.Common.{◌≡◌, ℕ, ℤ, suc, zero, ◌+◌, ◌<◌, Bool, true, false, cond, ◌||◌, List, [], ◌∷◌, length, Option, Some, None, is_some, option_and_then, option_map, Result, Ok, Err, refl, sym, ◌∙◌, ap, subst}
use Rattle.std.proofs.Common.{arith, inl, inr, nat_lt}
use Rattle.std.specs.Prelude.{◌≢◌, ◌⊎◌, IsSome, IfSome, IsSomeAnd, IsOk, is_none, codes}
use Rattle.std.specs.List.{AllByRecursion, list_any}
use Rattle.std.proofs.lemmas.Bool.{cases_order}
use Rattle.serde_json.specs.Data.{Data, null, boolean, number, string, array, object, no_members, member}
use Rattle.serde_json.specs.Find.{get, as_bool}
use Rattle.attr_types.specs.Change.{most_items}
use Rattle.attr_types.specs.declared.change.Change.{Change}
use Rattle.attr_types.specs.declared.change.Change.TheVariants as changes
use Rattle.attr_types.specs.declared.change.Act.{Act}
use Rattle.attr_types.specs.declared.change.Act.TheVariants as acts
use Rattle.attr_types.specs.declared.change.WeightAct.{WeightAct}
use Rattle.attr_types.specs.declared.change.WeightAct.TheVariants as weight_acts
use Rattle.attr_types.specs.declared.field.Field.{Field}
use Rattle.attr_types.specs.declared.kind.ValueType.{ValueType}
use Rattle.attr_types.specs.declared.value.Value.{Value}
use Rattle.attr_types.specs.declared.items.Item.{Item}
use Rattle.attr_types.specs.declared.op.Op.{Op}
use Rattle.feed_reader.specs.declared.operation.OpName.{OpName}
use Rattle.feed_reader.specs.declared.operation.OpName.TheVariants.{Put, Update, Remove}
use Rattle.feed_reader.specs.declared.operator.Form.{Form}
use Rattle.feed_reader.specs.declared.operator.Form.TheVariants as forms
use Rattle.feed_reader.specs.declared.operator.ItemForm.{ItemForm}
use Rattle.feed_reader.specs.declared.operator.ItemForm.TheVariants.{New, Amount}
use Rattle.feed_reader.specs.declared.operation.Asked.{Asked}
use Rattle.feed_reader.specs.declared.operation.Asked.TheVariants as asks
use Rattle.feed_reader.specs.declared.refusal.Refusal.{Refusal}
use Rattle.feed_reader.specs.declared.refusal.Refusal.TheVariants.{NotJson, NoOperation, BadId, BadValue, Unsupported, TooManyItems}
use Rattle.feed_reader.specs.Answers.{◌>>=◌, or_else}
use Rattle.feed_reader.specs.Forms.{HasItemsForm, IsUpdate}
use Rattle.feed_reader.specs.Operators.{operator_named, operator_form, value_form, weight_form}
use Rattle.feed_reader.specs.Elements.{amount_read, place_read, element_read, match_parts, act_read, weight_act_read, at_read, of_read}
use Rattle.feed_reader.specs.Values.{value_read, weight_read}
use Rattle.feed_reader.specs.Grammar.{json_read, only_one, op_name_of, id_of, if_object, fields_of, each_field, put_read, operator_read, update_read, all_some, created, create_of, asked_of, has_other_member, op_asked}
use Rattle.feed_reader.specs.Grammar.{supported, members_given, is_over, gives_too_many, op_of_value, op_of_line}
use Rattle.feed_reader.specs.Items.{items_read, list_read, set_read, taken_read, member_count}
use Rattle.feed_reader.specs.Rows.{IsJson, name_of, HasNoOperation, IsId, HasBadId, IsBoolean, IsObject, HasFields, EachHas, HasForms, HasBadValue, SomeField, IsOther, HasOtherOperator, AsksForOther, RemovesAndCreates}
use Rattle.feed_reader.specs.Rows.{IsUnsupported, GivesTooMany, HasTooMany, row_number, HasRow, IsFirstRow, RefusedByFirstRow, TakenWithoutRow}
use Rattle.feed_reader.proofs.FitsLemmas.{bind_ok, or_else_ok}
use Rattle.feed_reader.proofs.FormLemmas.{Tells, TellsSome, TellsBool, never, tells_same, tells_and, tells_then, tells_option, tells_lt, put_tells, update_tells, each_tells}
use Rattle.feed_reader.proofs.IdLemmas.{form_of_id, id_of_form}
use Rattle.feed_reader.proofs.Json.{json_there, json_none}

-- ---- 2. the operation

-- the value of an operation's member, out of the three
abbrev pick : OpName → Option Data → Option Data → Option Data → Option Data
pick Put a b c = a
pick Update a b c = b
pick Remove a b c = c

abbrev count : Option Data → Option Data → Option Data → ℕ
count a b c = length (cond (is_some a) (Put ∷ cond (is_some b) (Update ∷ cond (is_some c) (Remove ∷ []) []) (cond (is_some c) (Remove ∷ []) []))
    (cond (is_some b) (Update ∷ cond (is_some c) (Remove ∷ []) []) (cond (is_some c) (Remove ∷ []) [])))

no_one : (a b c : Option Data) → only_one a b c ≡ None → count a b c ≢ 1
no_one (Some x) (Some y) (Some z) e = λ is. absurd (omega arith)
no_one (Some x) (Some y) None e = λ is. absurd (omega arith)
no_one (Some x) None (Some z) e = λ is. absurd (omega arith)
no_one None (Some y) (Some z) e = λ is. absurd (omega arith)
no_one None None None e = λ is. absurd (omega arith)
no_one (Some x) None None e = cc
no_one None (Some y) None e = cc
no_one None None (Some z) e = cc

just_one : (a b c : Option Data) (p : OpName × Data) → only_one a b c ≡ Some p → count a b c ≡ 1
just_one (Some x) (Some y) (Some z) p e = cc
just_one (Some x) (Some y) None p e = cc
just_one (Some x) None (Some z) p e = cc
just_one None (Some y) (Some z) p e = cc
just_one None None None p e = cc
just_one (Some x) None None p e = refl
just_one None (Some y) None p e = refl
just_one None None (Some z) p e = refl

picked : (a b c : Option Data) (p : OpName × Data) → only_one a b c ≡ Some p → pick p.0 a b c ≡ Some p.1
picked (Some x) (Some y) (Some z) p e = cc
picked (Some x) (Some y) None p e = cc
picked (Some x) None (Some z) p e = cc
picked None (Some y) (Some z) p e = cc
picked None None None p e = cc
picked (Some x) None None p e = let is : (Put, x) ≡ p = cc in subst (λ (p : OpName × Data). pick p.0 (Some x) None None ≡ Some p.1) is refl
picked None (Some y) None p e = let is : (Update, y) ≡ p = cc in subst (λ (p : OpName × Data). pick p.0 None (Some y) None ≡ Some p.1) is refl
picked None None (Some z) p e = let is : (Remove, z) ≡ p = cc in subst (λ (p : OpName × Data). pick p.0 None None (Some z) ≡ Some p.1) is refl

alone : (a b c : Option Data) (p : OpName × Data) (other : OpName) → only_one a b c ≡ Some p → is_some (pick other a b c) ≡ true → other ≡ p.0
alone (Some x) (Some y) (Some z) p other e h = cc
alone (Some x) (Some y) None p other e h = cc
alone (Some x) None (Some z) p other e h = cc
alone None (Some y) (Some z) p other e h = cc
alone None None None p other e h = cc
alone (Some x) None None p Put e h = let is : (Put, x) ≡ p = cc in ap (λ (p : OpName × Data). p.0) is
alone (Some x) None None p Update e h = cc
alone (Some x) None None p Remove e h = cc
alone None (Some y) None p Put e h = cc
alone None (Some y) None p Update e h = let is : (Update, y) ≡ p = cc in ap (λ (p : OpName × Data). p.0) is
alone None (Some y) None p Remove e h = cc
alone None None (Some z) p Put e h = cc
alone None None (Some z) p Update e h = cc
alone None None (Some z) p Remove e h = let is : (Remove, z) ≡ p = cc in ap (λ (p : OpName × Data). p.0) is

got : (operation : OpName) (d : Data) → get (name_of operation) d ≡ pick operation (get (codes "put") d) (get (codes "update") d) (get (codes "remove") d)
got Put d = refl
got Update d = refl
got Remove d = refl

op_there : (d : Data) (p : OpName × Data) → op_name_of d ≡ Some p → get (name_of p.0) d ≡ Some p.1
op_there d p e = got p.0 d ∙ picked (get (codes "put") d) (get (codes "update") d) (get (codes "remove") d) p e

op_alone : (d : Data) (p : OpName × Data) (other : OpName) → op_name_of d ≡ Some p → IsSome (get (name_of other) d) → other ≡ p.0
op_alone d p other e h = alone (get (codes "put") d) (get (codes "update") d) (get (codes "remove") d) p other e (sym (ap is_some (got other d)) ∙ h)

-- ---- 3. the id

bad_id : (id : Data) (doc : ℕ) → id_of id ≡ None → ¬ IsId id doc
bad_id (string text) doc e is = let read = id_of_form text doc is in cc
bad_id null doc e is = is
bad_id (boolean b) doc e is = is
bad_id (number n) doc e is = is
bad_id (array ds) doc e is = is
bad_id (object ms) doc e is = is

good_id : (id : Data) (doc : ℕ) → id_of id ≡ Some doc → IsId id doc
good_id (string text) doc e = form_of_id text doc e
good_id null doc e = cc
good_id (boolean b) doc e = cc
good_id (number n) doc e = cc
good_id (array ds) doc e = cc
good_id (object ms) doc e = cc

same_id : (d : Data) (p : OpName × Data) (doc : ℕ) → op_name_of d ≡ Some p → id_of p.1 ≡ Some doc → ¬ HasBadId d
same_id d p doc e read (other, id, at, none) =
    let is = op_alone d p other e (ap is_some at) in
    let here : get (name_of p.0) d ≡ Some id = subst (λ (o : OpName). get (name_of o) d ≡ Some id) is at in
    let one = op_there d p e in
    let same : p.1 ≡ id = cc in
    none doc (subst (λ (i : Data). IsId i doc) same (good_id p.1 doc read))

-- ---- 4. the forms

object_there : (o : Option Data) (members : Data) → option_and_then if_object o ≡ Some members → (o ≡ Some members) × IsObject members
object_there None members e = cc
object_there (Some null) members e = cc
object_there (Some (boolean b)) members e = cc
object_there (Some (number n)) members e = cc
object_there (Some (string s)) members e = cc
object_there (Some (array ds)) members e = cc
object_there (Some (object ms)) members e = let is : object ms ≡ members = cc in subst (λ (m : Data). (Some (object ms) ≡ Some m) × IsObject m) is (refl, tt)

object_kept : (members : Data) → IsObject members → if_object members ≡ Some members
object_kept (object ms) is = refl
object_kept null is = absurd is
object_kept (boolean b) is = absurd is
object_kept (number n) is = absurd is
object_kept (string s) is = absurd is
object_kept (array ds) is = absurd is

fields_there : (d members : Data) → HasFields d members → fields_of d ≡ Some members
fields_there d members has = ap (option_and_then if_object) has.0 ∙ object_kept members has.1

-- `fields` as it is read, and what is read of each field in it
with_fields : {A : Type 0} (P : Data → Type 0) (d : Data) (read_of : Data → Result A Refusal) → ((members : Data) → Tells (P members) (read_of members))
    → Tells ((members : Data) × HasFields d members × P members) (or_else BadValue (fields_of d) >>= read_of)
with_fields {A} P d read_of one = at (fields_of d) refl where
  at : (o : Option Data) → fields_of d ≡ o → Tells ((members : Data) × HasFields d members × P members) (or_else BadValue o >>= read_of)
  at None e = (refl, λ all. let there = fields_there d all.0 all.1 in cc)
  at (Some members) e =
      let has = object_there (get (codes "fields") d) members e in
      tells_same (P members) ((members : Data) × HasFields d members × P members) (read_of members) (λ p. (members, has, p))
      (λ all. let there = fields_there d all.0 all.1 in let same : all.0 ≡ members = cc in subst P same all.2) (one members)

boolean_tells : (d : Data) → TellsSome (IsBoolean d) (as_bool d)
boolean_tells (boolean b) = tt
boolean_tells null = never
boolean_tells (number n) = never
boolean_tells (string s) = never
boolean_tells (array ds) = never
boolean_tells (object ms) = never

create_tells : (o : Option Data) → TellsSome (IfSome o IsBoolean) (created o)
create_tells None = tt
create_tells (Some d) = boolean_tells d

-- what is read of each field, after `create`
each_has : {X : Type 0} (fields : List Field) (d : Data) (read_of : Field → Option Data → Result X Refusal) (make : Bool → List X → Asked) (P : Field → Data → Type 0)
    → ((field : Field) (value : Option Data) → Tells (IfSome value (P field)) (read_of field value))
    → Tells (IfSome (get (codes "create") d) IsBoolean × EachHas P fields d)
    (or_else BadValue (create_of d) >>= λ create. or_else BadValue (fields_of d) >>= λ members. each_field read_of fields members >>= λ xs. Ok (make create xs))
each_has {X} fields d read_of make P one =
    tells_and (IfSome (get (codes "create") d) IsBoolean) (EachHas P fields d) (or_else BadValue (create_of d))
    (λ (create : Bool). or_else BadValue (fields_of d) >>= λ (members : Data). each_field read_of fields members >>= λ (xs : List X). Ok (make create xs))
    (tells_option (IfSome (get (codes "create") d) IsBoolean) (create_of d) (create_tells (get (codes "create") d)))
    (λ create is.
    with_fields (λ (members : Data). AllByRecursion (λ (field : Field). IfSome (get field.name members) (P field)) fields) d
    (λ (members : Data). each_field read_of fields members >>= λ (xs : List X). Ok (make create xs))
    (λ members. tells_then (AllByRecursion (λ (field : Field). IfSome (get field.name members) (P field)) fields) (each_field read_of fields members) (make create)
    (each_tells read_of (λ (field : Field) (value : Option Data). IfSome value (P field)) members one fields)))

forms_tell : (fields : List Field) (operation : OpName) (d : Data) → Tells (HasForms fields operation d) (asked_of fields operation (create_of d) (fields_of d))
unfolding asked_of
forms_tell fields Put d = each_has fields d put_read (λ (create : Bool) (document : List (List Item)). asks.Put document) (λ (field : Field). HasItemsForm field.kind field.value) put_tells
forms_tell fields Update d = each_has fields d update_read (λ (create : Bool) (found : List (Option Change)). asks.Update create (all_some found)) IsUpdate update_tells
forms_tell fields Remove d = tt

-- ---- 5. what is supported

made_known : {A : Type 0} (make : A → Change) (said : Result A Refusal) (change : Option Change) → (said >>= λ x. Ok (Some (make x))) ≡ Ok change → TellsBool ⊥ (is_none change)
made_known make (Ok x) change e = let is : Some (make x) ≡ change = cc in subst (λ (c : Option Change). TellsBool ⊥ (is_none c)) is never
made_known make (Err refusal) change e = cc

act_known : (t : ValueType) (form : Option ItemForm) (d : Data) (act : Option Act) → act_read t form d ≡ Ok act → TellsBool (form ≡ None) (is_none act)
act_known t None d act e = let is : None ≡ act = cc in subst (λ (a : Option Act). TellsBool (let form : Option ItemForm = None in form ≡ None) (is_none a)) is refl
act_known t (Some New) d act e =
    let one = bind_ok (value_read t d) (λ (v : Value). Ok (Some (acts.Set v))) act e in
    let is : Some (acts.Set one.0) ≡ act = cc in
    subst (λ (a : Option Act). TellsBool (Some New ≡ None) (is_none a)) is (λ nothing. cc)
act_known t (Some (Amount way)) d act e =
    let one = bind_ok (amount_read way d) (λ (n : ℤ). Ok (Some (acts.Shift n))) act e in
    let is : Some (acts.Shift one.0) ≡ act = cc in
    subst (λ (a : Option Act). TellsBool (Some (Amount way) ≡ None) (is_none a)) is (λ nothing. cc)

weight_act_known : (form : Option ItemForm) (d : Data) (act : Option WeightAct) → weight_act_read form d ≡ Ok act → TellsBool (form ≡ None) (is_none act)
weight_act_known None d act e = let is : None ≡ act = cc in subst (λ (a : Option WeightAct). TellsBool (let form : Option ItemForm = None in form ≡ None) (is_none a)) is refl
weight_act_known (Some New) d act e =
    let one = bind_ok (weight_read d) (λ (w : ℤ). Ok (Some (weight_acts.Set w))) act e in
    let is : Some (weight_acts.Set one.0) ≡ act = cc in
    subst (λ (a : Option WeightAct). TellsBool (Some New ≡ None) (is_none a)) is (λ nothing. cc)
weight_act_known (Some (Amount way)) d act e =
    let one = bind_ok (amount_read way d) (λ (n : ℤ). Ok (Some (weight_acts.Shift n))) act e in
    let is : Some (weight_acts.Shift one.0) ≡ act = cc in
    subst (λ (a : Option WeightAct). TellsBool (Some (Amount way) ≡ None) (is_none a)) is (λ nothing. cc)

-- the operator in `match` makes no change exactly where it is none
parts_known : {A B : Type 0} (o : Option (Data × List ℕ × Data)) (first : Data → Result A Refusal) (second : List ℕ → Data → Result (Option B) Refusal) (make : A → B → Change) (Q : List ℕ
    → Type 0) (change : Option Change)
    → ((name : List ℕ) (d : Data) (y : Option B) → second name d ≡ Ok y → TellsBool (Q name) (is_none y))
    → (or_else BadValue o >>= λ parts. first parts.0 >>= λ x. second parts.1 parts.2 >>= λ y. Ok (option_map (make x) y)) ≡ Ok change
    → TellsBool (IsSomeAnd o (λ parts. Q parts.1)) (is_none change)
parts_known None first second make Q change known e = cc
parts_known {A} {B} (Some (element, name, d)) first second make Q change known e =
    let one = bind_ok (first element) (λ (x : A). second name d >>= λ (y : Option B). Ok (option_map (make x) y)) change e in
    let two = bind_ok (second name d) (λ (y : Option B). Ok (option_map (make one.0) y)) change one.2 in
    let is : option_map (make one.0) two.0 ≡ change = cc in
    subst (λ (c : Option Change). TellsBool (Q name) (is_none c)) is (at one.0 two.0 (known name d two.0 two.1)) where
      at : (x : A) (y : Option B) → TellsBool (Q name) (is_none y) → TellsBool (Q name) (is_none (option_map (make x) y))
      at x None t = t
      at x (Some y) t = t

form_tells : (field : Field) (form : Option Form) (d : Data) (change : Option Change) → operator_read field form d ≡ Ok change → TellsBool (IsOther field.value form d) (is_none change)
form_tells field None d change e = let is : None ≡ change = cc in subst (λ (c : Option Change). TellsBool (Unit {0}) (is_none c)) is tt
form_tells field (Some forms.Items) d change e = made_known changes.Assign (items_read field.kind field.value d) change e
form_tells field (Some forms.List) d change e = made_known changes.Add (list_read field.value d) change e
form_tells field (Some forms.Weights) d change e = made_known changes.Add (set_read field.value d) change e
form_tells field (Some forms.Names) d change e = made_known changes.Take (taken_read field.value d) change e
form_tells field (Some (forms.Amount way)) d change e = made_known changes.Shift (amount_read way d) change e
form_tells field (Some forms.AtPlace) d change e = at d e where
  at : (d : Data) → at_read field.value d ≡ Ok change → TellsBool (IsOther field.value (Some forms.AtPlace) d) (is_none change)
  at (object ms) e =
      parts_known (match_parts ms) place_read (λ (name : List ℕ). act_read field.value (value_form (operator_named name) field.value)) changes.At
      (λ (name : List ℕ). value_form (operator_named name) field.value ≡ None) change (λ name. act_known field.value (value_form (operator_named name) field.value)) e
  at null e = cc
  at (boolean b) e = cc
  at (number n) e = cc
  at (string s) e = cc
  at (array ds) e = cc
form_tells field (Some forms.OfValue) d change e = at d e where
  at : (d : Data) → of_read field.value d ≡ Ok change → TellsBool (IsOther field.value (Some forms.OfValue) d) (is_none change)
  at (object ms) e =
      parts_known (match_parts ms) (element_read field.value) (λ (name : List ℕ). weight_act_read (weight_form (operator_named name))) changes.Of
      (λ (name : List ℕ). weight_form (operator_named name) ≡ None) change (λ name. weight_act_known (weight_form (operator_named name))) e
  at null e = cc
  at (boolean b) e = cc
  at (number n) e = cc
  at (string s) e = cc
  at (array ds) e = cc

update_known : (field : Field) (value : Option Data) (change : Option Change) → update_read field value ≡ Ok change → TellsBool (IsSomeAnd value (HasOtherOperator field)) (is_none change)
update_known field None change e = let is : Some changes.Keep ≡ change = cc in subst (λ (c : Option Change). TellsBool ⊥ (is_none c)) is never
update_known field (Some (object (member name d no_members))) change e = form_tells field (operator_form (operator_named name) field.kind field.value) d change e
update_known field (Some (object no_members)) change e = cc
update_known field (Some (object (member name d (member other b ms)))) change e = cc
update_known field (Some null) change e = cc
update_known field (Some (boolean b)) change e = cc
update_known field (Some (number n)) change e = cc
update_known field (Some (string s)) change e = cc
update_known field (Some (array ds)) change e = cc

neither : {P Q : Type 0} → ¬ P → ¬ Q → ¬ (P ⊎ Q)
neither p q (inl is) = p is
neither p q (inr is) = q is

first_known : (P Q : Type 0) (change : Option Change) (found : List (Option Change)) → TellsBool P (is_none change) → TellsBool Q (is_none (all_some found)) → TellsBool (P ⊎ Q) (is_none (all_some (change ∷ found)))
first_known P Q None found p q = inl p
first_known P Q (Some change) found p q = at (all_some found) q where
  at : (o : Option (List Change)) → TellsBool Q (is_none o) → TellsBool (P ⊎ Q) (is_none (option_map (λ more. change ∷ more) o))
  at None q = inr q
  at (Some more) q = neither p q

each_known : (fields : List Field) (members : Data) (found : List (Option Change)) → each_field update_read fields members ≡ Ok found → TellsBool (SomeField HasOtherOperator fields members) (is_none (all_some found))
unfolding each_field
each_known [] members found e = let is : [] ≡ found = cc in subst (λ (f : List (Option Change)). TellsBool ⊥ (is_none (all_some f))) is never
each_known (field ∷ fields) members found e =
    let first = bind_ok (update_read field (get field.name members)) (λ (c : Option Change). each_field update_read fields members >>= λ (more : List (Option Change)). Ok (c ∷ more)) found e in
    let rest = bind_ok (each_field update_read fields members) (λ (more : List (Option Change)). Ok (first.0 ∷ more)) found first.2 in
    let is : first.0 ∷ rest.0 ≡ found = cc in
    subst (λ (f : List (Option Change)). TellsBool (SomeField HasOtherOperator (field ∷ fields) members) (is_none (all_some f))) is
    (first_known (IsSomeAnd (get field.name members) (HasOtherOperator field)) (SomeField HasOtherOperator fields members) first.0 rest.0
    (update_known field (get field.name members) first.0 first.1) (each_known fields members rest.0 rest.1))

same_bool : {P Q : Type 0} (b : Bool) → (P → Q) → (Q → P) → TellsBool P b → TellsBool Q b
same_bool true to from t = to t
same_bool false to from t = λ q. t (from q)

no_update : (fields : List Field) (d : Data) (p : OpName × Data) → op_name_of d ≡ Some p → (Update ≡ p.0 → ⊥) → ¬ AsksForOther fields d
no_update fields d p e not asks = not (op_alone d p Update e asks.0)

with_members : (fields : List Field) (d members : Data) → IsSome (get (codes "update") d) → HasFields d members → SomeField HasOtherOperator fields members → AsksForOther fields d
with_members fields d members some has found = (some, (members, has, found))

of_members : (fields : List Field) (d members : Data) → fields_of d ≡ Some members → AsksForOther fields d → SomeField HasOtherOperator fields members
of_members fields d members there asked =
    let again = fields_there d asked.1.0 asked.1.1 in
    let same : asked.1.0 ≡ members = cc in
    subst (SomeField HasOtherOperator fields) same asked.1.2

by_changes : (fields : List Field) (d : Data) (doc : ℕ) (create : Bool) (all : Option (List Change)) → TellsBool (AsksForOther fields d) (is_none all)
    → TellsBool (AsksForOther fields d) (is_none (op_asked doc (asks.Update create all)))
by_changes fields d doc create None told = told
by_changes fields d doc create (Some all) told = told

asked_known : (fields : List Field) (d : Data) (p : OpName × Data) (doc : ℕ) (asked : Asked) → op_name_of d ≡ Some p → asked_of fields p.0 (create_of d) (fields_of d) ≡ Ok asked
    → TellsBool (AsksForOther fields d) (is_none (op_asked doc asked))
unfolding asked_of
asked_known fields d (Put, id) doc asked e read =
    let made = bind_ok (or_else BadValue (create_of d)) (λ (create : Bool). or_else BadValue (fields_of d) >>= λ (members : Data). each_field put_read fields members
    >>= λ (document : List (List Item)). Ok (asks.Put document)) asked read in
    let at = bind_ok (or_else BadValue (fields_of d)) (λ (members : Data). each_field put_read fields members >>= λ (document : List (List Item)). Ok (asks.Put document)) asked made.2 in
    let all = bind_ok (each_field put_read fields at.0) (λ (document : List (List Item)). Ok (asks.Put document)) asked at.2 in
    let is : asks.Put all.0 ≡ asked = cc in
    subst (λ (a : Asked). TellsBool (AsksForOther fields d) (is_none (op_asked doc a))) is (no_update fields d (Put, id) e (λ same. cc))
asked_known fields d (Remove, id) doc asked e read =
    let is : asks.Remove ≡ asked = cc in
    subst (λ (a : Asked). TellsBool (AsksForOther fields d) (is_none (op_asked doc a))) is (no_update fields d (Remove, id) e (λ same. cc))
asked_known fields d (Update, id) doc asked e read =
    let made = bind_ok (or_else BadValue (create_of d)) (λ (create : Bool). or_else BadValue (fields_of d) >>= λ (members : Data). each_field update_read fields members
    >>= λ (found : List (Option Change)). Ok (asks.Update create (all_some found))) asked read in
    let at = bind_ok (or_else BadValue (fields_of d)) (λ (members : Data). each_field update_read fields members >>= λ (found : List (Option Change)). Ok (asks.Update made.0 (all_some found))) asked made.2 in
    let all = bind_ok (each_field update_read fields at.0) (λ (found : List (Option Change)). Ok (asks.Update made.0 (all_some found))) asked at.2 in
    let is : asks.Update made.0 (all_some all.0) ≡ asked = cc in
    let there = or_else_ok BadValue (fields_of d) at.0 at.1 in
    let has = object_there (get (codes "fields") d) at.0 there in
    let some = ap is_some (op_there d (Update, id) e) in
    let to = λ (s : SomeField HasOtherOperator fields at.0). with_members fields d at.0 some has s in
    let from = λ (asks : AsksForOther fields d). of_members fields d at.0 there asks in
    subst (λ (a : Asked). TellsBool (AsksForOther fields d) (is_none (op_asked doc a))) is
    (by_changes fields d doc made.0 (all_some all.0) (same_bool (is_none (all_some all.0)) to from (each_known fields at.0 all.0 all.1)))

is_some_tells : {A : Type 0} (o : Option A) → TellsBool (IsSome o) (is_some o)
is_some_tells None = λ e. cc
is_some_tells (Some x) = refl

or_tells : (P Q : Type 0) (a b : Bool) → TellsBool P a → TellsBool Q b → TellsBool (P ⊎ Q) (a || b)
or_tells P Q true b p q = inl p
or_tells P Q false true p q = inr q
or_tells P Q false false p q = neither p q

left_tells : (P Q : Type 0) (b : Bool) → ¬ Q → TellsBool P b → TellsBool (P ⊎ Q) b
left_tells P Q true none p = inl p
left_tells P Q false none p = neither p none

-- a member that the operation has not
member_tells : (d : Data) (p : OpName × Data) → op_name_of d ≡ Some p → TellsBool (IsSome (get (codes "condition") d) ⊎ RemovesAndCreates d) (has_other_member p.0 d)
member_tells d (Put, id) e =
    left_tells (IsSome (get (codes "condition") d)) (RemovesAndCreates d) (is_some (get (codes "condition") d)) (λ both. let same = op_alone d (Put, id) Remove e both.0 in cc) (is_some_tells (get (codes "condition") d))
member_tells d (Update, id) e =
    left_tells (IsSome (get (codes "condition") d)) (RemovesAndCreates d) (is_some (get (codes "condition") d)) (λ both. let same = op_alone d (Update, id) Remove e both.0 in
    cc) (is_some_tells (get (codes "condition") d))
member_tells d (Remove, id) e =
    let removes = ap is_some (op_there d (Remove, id) e) in
    or_tells (IsSome (get (codes "condition") d)) (RemovesAndCreates d) (is_some (get (codes "condition") d)) (is_some (get (codes "create") d)) (is_some_tells (get (codes "condition") d))
    (same_bool (is_some (get (codes "create") d)) (λ creates. (removes, creates)) (λ both. both.1) (is_some_tells (get (codes "create") d)))

either_none : (P Q R : Type 0) (b : Bool) (o : Option Op) → TellsBool (P ⊎ Q) b → TellsBool R (is_none o) → TellsBool (P ⊎ (Q ⊎ R)) (is_none (cond b None o))
either_none P Q R true o (inl p) r = inl p
either_none P Q R true o (inr q) r = inr (inl q)
either_none P Q R false None pq r = inr (inr r)
either_none P Q R false (Some op) pq r = neither (λ p. pq (inl p)) (neither (λ q. pq (inr q)) r)

supported_tells : (fields : List Field) (d : Data) (p : OpName × Data) (doc : ℕ) (asked : Asked) → op_name_of d ≡ Some p → asked_of fields p.0 (create_of d) (fields_of d) ≡ Ok asked
    → TellsBool (IsUnsupported fields d) (is_none (supported p.0 d doc asked))
supported_tells fields d p doc asked e read =
    either_none (IsSome (get (codes "condition") d)) (RemovesAndCreates d) (AsksForOther fields d) (has_other_member p.0 d) (op_asked doc asked) (member_tells d p e) (asked_known fields d p doc asked e read)

-- ---- 6. the members

over_tells : (operation : OpName) (field : Field) (value : Option Data) → TellsBool (IsSomeAnd value (GivesTooMany operation field)) (nat_lt most_items (members_given operation value))
over_tells Put field None = never
over_tells Put field (Some d) = tells_lt most_items (member_count d)
over_tells Update field None = never
over_tells Update field (Some (object (member name d no_members))) = tells_lt most_items (member_count d)
over_tells Update field (Some (object no_members)) = never
over_tells Update field (Some (object (member name d (member other b ms)))) = never
over_tells Update field (Some null) = never
over_tells Update field (Some (boolean b)) = never
over_tells Update field (Some (number n)) = never
over_tells Update field (Some (string s)) = never
over_tells Update field (Some (array ds)) = never
over_tells Remove field None = never
over_tells Remove field (Some d) = never

any_tells : (operation : OpName) (members : Data) (fields : List Field) → TellsBool (SomeField (GivesTooMany operation) fields members) (list_any (is_over operation members) fields)
any_tells operation members [] = never
any_tells operation members (field ∷ fields) =
    or_tells (IsSomeAnd (get field.name members) (GivesTooMany operation field)) (SomeField (GivesTooMany operation) fields members) (is_over operation members field) (list_any (is_over operation members) fields)
    (over_tells operation field (get field.name members)) (any_tells operation members fields)

-- of the line's own operation, and the `fields` that were read
many_of : (fields : List Field) (d members : Data) (p : OpName × Data) → op_name_of d ≡ Some p → fields_of d ≡ Some members → HasTooMany fields d → SomeField (GivesTooMany p.0) fields members
many_of fields d members p e there (other, some, (others, has, many)) =
    let is = op_alone d p other e some in
    let again = fields_there d others has in
    let same : others ≡ members = cc in
    subst (λ (o : OpName). SomeField (GivesTooMany o) fields members) is (subst (SomeField (GivesTooMany other) fields) same many)

many_tells : (fields : List Field) (d : Data) (p : OpName × Data) → op_name_of d ≡ Some p → TellsBool (HasTooMany fields d) (gives_too_many fields p.0 (fields_of d))
many_tells fields d p e = at (fields_of d) refl where
  at : (o : Option Data) → fields_of d ≡ o → TellsBool (HasTooMany fields d) (gives_too_many fields p.0 o)
  at None there = λ many. let again = fields_there d many.2.0 many.2.1 in cc
  at (Some members) there =
      let has = object_there (get (codes "fields") d) members there in
      let some = ap is_some (op_there d p e) in
      same_bool (list_any (is_over p.0 members) fields) (λ many. (p.0, some, (members, has, many))) (many_of fields d members p e there) (any_tells p.0 members fields)

-- ---- the rows of a value, in their order

abbrev ValueRow : List Field → Data → Refusal → Type 0
ValueRow fields d NotJson = ⊥
ValueRow fields d NoOperation = HasNoOperation d
ValueRow fields d BadId = HasBadId d
ValueRow fields d BadValue = HasBadValue fields d
ValueRow fields d Unsupported = IsUnsupported fields d
ValueRow fields d TooManyItems = HasTooMany fields d

abbrev NoneBefore : List Field → Data → ℕ → Type 0
NoneBefore fields d n = (before : Refusal) → row_number before < n → ¬ ValueRow fields d before

abbrev RowOf : List Field → Data → Result Op Refusal → Type 0
RowOf fields d (Ok op) = (row : Refusal) → ¬ ValueRow fields d row
RowOf fields d (Err row) = ValueRow fields d row × NoneBefore fields d (row_number row)

abbrev row_of : ℕ → Refusal
row_of zero = NotJson
row_of (suc zero) = NotJson
row_of (suc (suc zero)) = NoOperation
row_of (suc (suc (suc zero))) = BadId
row_of (suc (suc (suc (suc zero)))) = BadValue
row_of (suc (suc (suc (suc (suc zero))))) = Unsupported
row_of (suc (suc (suc (suc (suc (suc n)))))) = TooManyItems

row_there : (row : Refusal) → row_of (row_number row) ≡ row
row_there NotJson = refl
row_there NoOperation = refl
row_there BadId = refl
row_there BadValue = refl
row_there Unsupported = refl
row_there TooManyItems = refl

same_row : (a b : Refusal) → row_number a ≡ row_number b → a ≡ b
same_row a b e = sym (row_there a) ∙ ap row_of e ∙ row_there b

none_next : (fields : List Field) (d : Data) (row : Refusal) → NoneBefore fields d (row_number row) → ¬ ValueRow fields d row → NoneBefore fields d (row_number row + 1)
none_next fields d row none not_here before below holds = at (cases_order (row_number before) (row_number row)) where
  at : (row_number before ≡ row_number row) ⊎ ((row_number before < row_number row) ⊎ (row_number row < row_number before)) → ⊥
  at (inl e) = not_here (subst (ValueRow fields d) (same_row before row e) holds)
  at (inr (inl less)) = none before less holds
  at (inr (inr more)) = absurd (omega arith)

abbrev Decides : {A : Type 0} → List Field → Data → Refusal → Result A Refusal → Type 0
Decides fields d row (Ok x) = ¬ ValueRow fields d row
Decides fields d row (Err refusal) = (refusal ≡ row) × ValueRow fields d row

-- one check, before those after it
check : {A : Type 0} (fields : List Field) (d : Data) (row : Refusal) (r : Result A Refusal) (f : A → Result Op Refusal) → Decides fields d row r → NoneBefore fields d (row_number row)
    → ((x : A) → r ≡ Ok x → NoneBefore fields d (row_number row + 1) → RowOf fields d (f x)) → RowOf fields d (r >>= f)
check fields d row (Ok x) f not_here none more = more x refl (none_next fields d row none not_here)
check fields d row (Err refusal) f found none more = subst (λ (r : Refusal). RowOf fields d (Err r)) (sym found.0) (found.1, none)

by_option : {A : Type 0} (fields : List Field) (d : Data) (row : Refusal) (o : Option A) → (o ≡ None → ValueRow fields d row) → ((x : A) → o ≡ Some x → ¬ ValueRow fields d row) → Decides fields d row (or_else row o)
by_option fields d row None none some = (refl, none refl)
by_option fields d row (Some x) none some = some x refl

by_forms : (fields : List Field) (d : Data) (p : OpName × Data) (r : Result Asked Refusal) → op_name_of d ≡ Some p → Tells (HasForms fields p.0 d) r → Decides fields d BadValue r
by_forms fields d p (Ok asked) e forms = λ bad. bad.2 (subst (λ (o : OpName). HasForms fields o d) (sym (op_alone d p bad.0 e bad.1)) forms)
by_forms fields d p (Err refusal) e told = (told.0, (p.0, ap is_some (op_there d p e), told.1))

by_none : {A : Type 0} (fields : List Field) (d : Data) (row : Refusal) (o : Option A) → TellsBool (ValueRow fields d row) (is_none o) → Decides fields d row (or_else row o)
by_none fields d row None told = (refl, told)
by_none fields d row (Some x) told = told

none_first : (fields : List Field) (d : Data) → NoneBefore fields d 2
none_first fields d NotJson below = never
none_first fields d NoOperation below = absurd (omega arith)
none_first fields d BadId below = absurd (omega arith)
none_first fields d BadValue below = absurd (omega arith)
none_first fields d Unsupported below = absurd (omega arith)
none_first fields d TooManyItems below = absurd (omega arith)

below_all : (row : Refusal) → row_number row < 7
below_all NotJson = omega arith
below_all NoOperation = omega arith
below_all BadId = omega arith
below_all BadValue = omega arith
below_all Unsupported = omega arith
below_all TooManyItems = omega arith

last_check : (fields : List Field) (d : Data) (b : Bool) (op : Op) → TellsBool (HasTooMany fields d) b → NoneBefore fields d 6 → RowOf fields d (cond b (Err TooManyItems) (Ok op))
last_check fields d true op many none = (many, none)
last_check fields d false op few none = λ row. none_next fields d TooManyItems none few row (below_all row)

value_row : (fields : List Field) (d : Data) → RowOf fields d (op_of_value fields d)
unfolding op_of_value
value_row fields d =
    let finish = λ (operation : OpName) (op : Op). cond (gives_too_many fields operation (fields_of d)) (Err TooManyItems) (Ok op) in
    let with_asked = λ (operation : OpName) (doc : ℕ) (asked : Asked). or_else Unsupported (supported operation d doc asked) >>= finish operation in
    let with_doc = λ (operation : OpName) (doc : ℕ). asked_of fields operation (create_of d) (fields_of d) >>= with_asked operation doc in
    let with_operation = λ (operation : OpName × Data). or_else BadId (id_of operation.1) >>= with_doc operation.0 in
    check fields d NoOperation (or_else NoOperation (op_name_of d)) with_operation
    (by_option fields d NoOperation (op_name_of d) (no_one (get (codes "put") d) (get (codes "update") d) (get (codes "remove") d))
    (λ p e none. none (just_one (get (codes "put") d) (get (codes "update") d) (get (codes "remove") d) p e)))
    (none_first fields d)
    (λ p op_is none2.
    let e = or_else_ok NoOperation (op_name_of d) p op_is in
    check fields d BadId (or_else BadId (id_of p.1)) (with_doc p.0)
    (by_option fields d BadId (id_of p.1) (λ none. (p.0, p.1, op_there d p e, λ doc. bad_id p.1 doc none)) (λ doc read. same_id d p doc e read))
    none2
    (λ doc doc_is none3.
    check fields d BadValue (asked_of fields p.0 (create_of d) (fields_of d)) (with_asked p.0 doc)
    (by_forms fields d p (asked_of fields p.0 (create_of d) (fields_of d)) e (forms_tell fields p.0 d))
    none3
    (λ asked asked_is none4.
    check fields d Unsupported (or_else Unsupported (supported p.0 d doc asked)) (finish p.0)
    (by_none fields d Unsupported (supported p.0 d doc asked) (supported_tells fields d p doc asked e asked_is))
    none4
    (λ op made none5. last_check fields d (gives_too_many fields p.0 (fields_of d)) op (many_tells fields d p e) none5))))

-- ---- the rows of a line

abbrev LineRow : List Field → List ℕ → Result Op Refusal → Type 0
LineRow fields line (Ok op) = (row : Refusal) → ¬ HasRow fields line row
LineRow fields line (Err row) = IsFirstRow fields line row

same_json : (line : List ℕ) (d other : Data) → IsJson line d → IsJson line other → other ≡ d
same_json line d other here there = let a = here.1 in let b = there.1 in cc

to_line : (fields : List Field) (line : List ℕ) (d : Data) (row : Refusal) → IsJson line d → ValueRow fields d row → HasRow fields line row
to_line fields line d NotJson json holds = absurd holds
to_line fields line d NoOperation json holds = (d, json, holds)
to_line fields line d BadId json holds = (d, json, holds)
to_line fields line d BadValue json holds = (d, json, holds)
to_line fields line d Unsupported json holds = (d, json, holds)
to_line fields line d TooManyItems json holds = (d, json, holds)

to_value : (fields : List Field) (line : List ℕ) (d : Data) (row : Refusal) → IsJson line d → HasRow fields line row → ValueRow fields d row
to_value fields line d NotJson json holds = holds d json
to_value fields line d NoOperation json holds = subst HasNoOperation (same_json line d holds.0 json holds.1) holds.2
to_value fields line d BadId json holds = subst HasBadId (same_json line d holds.0 json holds.1) holds.2
to_value fields line d BadValue json holds = subst (HasBadValue fields) (same_json line d holds.0 json holds.1) holds.2
to_value fields line d Unsupported json holds = subst (IsUnsupported fields) (same_json line d holds.0 json holds.1) holds.2
to_value fields line d TooManyItems json holds = subst (HasTooMany fields) (same_json line d holds.0 json holds.1) holds.2

of_value : (fields : List Field) (line : List ℕ) (d : Data) (r : Result Op Refusal) → IsJson line d → RowOf fields d r → LineRow fields line r
of_value fields line d (Ok op) json none = λ row holds. none row (to_value fields line d row json holds)
of_value fields line d (Err row) json found = (to_line fields line d row json found.0, λ before below holds. found.1 before below (to_value fields line d before json holds))

none_above : (fields : List Field) (line : List ℕ) (before : Refusal) → row_number before < 1 → ¬ HasRow fields line before
none_above fields line NotJson below = absurd (omega arith)
none_above fields line NoOperation below = absurd (omega arith)
none_above fields line BadId below = absurd (omega arith)
none_above fields line BadValue below = absurd (omega arith)
none_above fields line Unsupported below = absurd (omega arith)
none_above fields line TooManyItems below = absurd (omega arith)

line_row : (fields : List Field) (line : List ℕ) → LineRow fields line (op_of_line fields line)
unfolding op_of_line
line_row fields line = at (json_read line) refl where
  at : (o : Option Data) → json_read line ≡ o → LineRow fields line (or_else NotJson o >>= op_of_value fields)
  at None e = (json_none line e, none_above fields line)
  at (Some d) e = of_value fields line d (op_of_value fields d) (json_there line d e) (value_row fields d)

-- the first row is one
one_first : (fields : List Field) (line : List ℕ) (a b : Refusal) → IsFirstRow fields line a → IsFirstRow fields line b → a ≡ b
one_first fields line a b first other = at (cases_order (row_number a) (row_number b)) where
  at : (row_number a ≡ row_number b) ⊎ ((row_number a < row_number b) ⊎ (row_number b < row_number a)) → a ≡ b
  at (inl e) = same_row a b e
  at (inr (inl less)) = absurd (other.1 a less first.0)
  at (inr (inr more)) = absurd (first.1 b more other.0)

row_back : (fields : List Field) (line : List ℕ) (said : Result Op Refusal) (row : Refusal) → LineRow fields line said → IsFirstRow fields line row → said ≡ Err row
row_back fields line (Ok op) row none first = absurd (none row first.0)
row_back fields line (Err refusal) row found first = ap Err (one_first fields line refusal row found first)

pub refused_by_first : RefusedByFirstRow
refused_by_first fields line row =
    (λ e. subst (LineRow fields line) e (line_row fields line), row_back fields line (op_of_line fields line) row (line_row fields line))

taken_back : (fields : List Field) (line : List ℕ) (said : Result Op Refusal) → LineRow fields line said → ((row : Refusal) → ¬ HasRow fields line row) → IsOk said
taken_back fields line (Ok op) found none = refl
taken_back fields line (Err row) found none = absurd (none row found.0)

taken_there : (fields : List Field) (line : List ℕ) (said : Result Op Refusal) → LineRow fields line said → IsOk said → (row : Refusal) → ¬ HasRow fields line row
taken_there fields line (Ok op) none is = none
taken_there fields line (Err row) found is = cc

pub taken_without : TakenWithoutRow
taken_without fields line = (taken_there fields line (op_of_line fields line) (line_row fields line), taken_back fields line (op_of_line fields line) (line_row fields line))
