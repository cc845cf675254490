-- One value of a list, or one member of an object, after another.
use Rattle.std.proofs.Common.{◌≡◌, ℕ, ◌+◌, ◌<◌, Option, List, [], ◌∷◌, ◌++◌, length, drop, get_or, Result, Ok, Err, refl, sym, ◌∙◌, ap, add-one, append_assoc, append-nil, String, string_bytes}
use Rattle.std.specs.declared.alloc.Global.{Global}
use Rattle.std.proofs.Math.Seq.{drop-cons}
use Rattle.serde_json.specs.Data.{Data, item}
use Rattle.serde_json.specs.View.{view, items_view, members_view}
use Rattle.serde_json.specs.declared.value.Value.{Value as Json}
use Rattle.attr_types.specs.declared.kind.ValueType.{ValueType}
use Rattle.attr_types.specs.declared.value.Value.{Value}
use Rattle.feed_reader.specs.declared.refusal.Refusal.{Refusal}
use Rattle.feed_reader.specs.declared.refusal.LineError.{LineError}
use Rattle.feed_reader.specs.declared.refusal.LineError.TheVariants as errors
use Rattle.feed_reader.specs.Answers.{◌>>=◌, ReadFails}
use Rattle.feed_reader.specs.Values.{value_read, name_read}
use Rattle.attr_types.specs.declared.field.Field.{Field}
use Rattle.feed_reader.specs.Items.{values_read, names_read}
use Rattle.feed_reader.specs.Grammar.{each_field}
use Rattle.serde_json.specs.Find.{get}

-- values that are read already, before what is said of the rest
abbrev pub behind : {X : Type 0} → List X → Result (List X) Refusal → Result (List X) Refusal
behind front said = said >>= λ xs. Ok (front ++ xs)

-- the first of a list before the rest
abbrev first_of_all : {X : Type 0} → Result X Refusal → Result (List X) Refusal → Result (List X) Refusal
first_of_all first more = first >>= λ x. more >>= λ xs. Ok (x ∷ xs)

behind_first : {X : Type 0} (front : List X) (x : X) (more : Result (List X) Refusal) → behind front (first_of_all (Ok x) more) ≡ behind (front ++ x ∷ []) more
behind_first front x (Ok xs) = ap Ok (sym (append_assoc front (x ∷ []) xs))
behind_first front x (Err refusal) = refl

behind_fault : {X : Type 0} (front : List X) (e : LineError) (first : Result X Refusal) (more said : Result (List X) Refusal)
    → ReadFails e first → behind front (first_of_all first more) ≡ said → ReadFails e said
behind_fault front errors.Memory first more said f s = tt
behind_fault front (errors.Refused refusal) first more said f s = sym s ∙ ap (λ r. behind front (first_of_all r more)) f

at_item : (xs : List Json) (i : ℕ) (v : Json) → i < length xs → v ≡ get_or xs i v → items_view (drop i xs) ≡ item (view v) (items_view (drop (i + 1) xs))
at_item xs i v h is = rw add-one (ap items_view (drop-cons xs i v h)) ∙ ap (λ w. item (view w) (items_view (drop (i + 1) xs))) (sym is)

-- a list's next value
pub values_more : (value_type : ValueType) (found : List Value) (xs : List Json) (i : ℕ) (v : Json) (x : Value) → i < length xs → v ≡ get_or xs i v → value_read value_type (view v) ≡ Ok x
    → behind (found ++ x ∷ []) (values_read value_type (items_view (drop (i + 1) xs))) ≡ behind found (values_read value_type (items_view (drop i xs)))
unfolding values_read
values_more value_type found xs i v x h is e =
    let more = values_read value_type (items_view (drop (i + 1) xs)) in
    sym (ap (λ ds. behind found (values_read value_type ds)) (at_item xs i v h is) ∙ ap (λ r. behind found (first_of_all r more)) e ∙ behind_first found x more)

-- a list's next value is faulty
pub values_fault : (value_type : ValueType) (found : List Value) (xs : List Json) (i : ℕ) (v : Json) (e : LineError) (said : Result (List Value) Refusal) → i < length xs → v ≡ get_or xs i v
    → ReadFails e (value_read value_type (view v)) → behind found (values_read value_type (items_view (drop i xs))) ≡ said → ReadFails e said
unfolding values_read
values_fault value_type found xs i v e said h is f s =
    behind_fault found e _ (values_read value_type (items_view (drop (i + 1) xs))) said f (sym (ap (λ ds. behind found (values_read value_type ds)) (at_item xs i v h is)) ∙ s)

pub values_end : (value_type : ValueType) (found : List Value) (said : Result (List Value) Refusal) → behind found (values_read value_type (items_view [])) ≡ said → said ≡ Ok found
unfolding values_read
values_end value_type found said s = sym s ∙ ap Ok (append-nil found)

-- the names of an object go likewise
pub names_more : (value_type : ValueType) (found : List Value) (name : String Global) (v : Json) (x : Value) (s t : List (String Global × Json)) → s ≡ (name, v) ∷ t
    → name_read value_type (string_bytes name) ≡ Ok x
    → behind (found ++ x ∷ []) (names_read value_type (members_view t)) ≡ behind found (names_read value_type (members_view s))
unfolding names_read
names_more value_type found name v x s t is e =
    let more = names_read value_type (members_view t) in
    sym (ap (λ ms. behind found (names_read value_type (members_view ms))) is ∙ ap (λ r. behind found (first_of_all r more)) e ∙ behind_first found x more)

pub names_fault : (value_type : ValueType) (found : List Value) (name : String Global) (v : Json) (e : LineError) (s t : List (String Global × Json)) (said : Result (List Value) Refusal) → s ≡ (name, v) ∷ t
    → ReadFails e (name_read value_type (string_bytes name)) → behind found (names_read value_type (members_view s)) ≡ said → ReadFails e said
unfolding names_read
names_fault value_type found name v e s t said is f a =
    behind_fault found e _ (names_read value_type (members_view t)) said f (sym (ap (λ ms. behind found (names_read value_type (members_view ms))) is) ∙ a)

pub names_end : (value_type : ValueType) (found : List Value) (s : List (String Global × Json)) (said : Result (List Value) Refusal) → s ≡ [] → behind found (names_read value_type (members_view s)) ≡ said
    → said ≡ Ok found
unfolding names_read
names_end value_type found s said is a = sym a ∙ ap (λ ms. behind found (names_read value_type (members_view ms))) is ∙ ap Ok (append-nil found)

pub behind_nothing : {X : Type 0} (said : Result (List X) Refusal) → behind [] said ≡ said
behind_nothing (Ok xs) = refl
behind_nothing (Err refusal) = refl

-- ---- the fields go likewise

at_field : {X : Type 0} (read_of : Field → Option Data → Result X Refusal) (fields : List Field) (i : ℕ) (field : Field) (d : Data) → i < length fields → field ≡ get_or fields i field
    → each_field read_of (drop i fields) d ≡ first_of_all (read_of field (get field.name d)) (each_field read_of (drop (i + 1) fields) d)
unfolding each_field
at_field read_of fields i field d h is =
    rw add-one (ap (λ fs. each_field read_of fs d) (drop-cons fields i field h))
    ∙ ap (λ f. first_of_all (read_of f (get f.name d)) (each_field read_of (drop (i + 1) fields) d)) (sym is)

-- the next field
pub fields_more : {X : Type 0} (read_of : Field → Option Data → Result X Refusal) (found : List X) (fields : List Field) (i : ℕ) (field : Field) (d : Data) (x : X) → i < length fields → field ≡ get_or fields i field
    → read_of field (get field.name d) ≡ Ok x
    → behind (found ++ x ∷ []) (each_field read_of (drop (i + 1) fields) d) ≡ behind found (each_field read_of (drop i fields) d)
fields_more read_of found fields i field d x h is e =
    let more = each_field read_of (drop (i + 1) fields) d in
    sym (ap (behind found) (at_field read_of fields i field d h is) ∙ ap (λ r. behind found (first_of_all r more)) e ∙ behind_first found x more)

-- the next field is faulty
pub fields_fault : {X : Type 0} (read_of : Field → Option Data → Result X Refusal) (found : List X) (fields : List Field) (i : ℕ) (field : Field) (d : Data) (e : LineError) (said : Result (List X) Refusal)
    → i < length fields → field ≡ get_or fields i field
    → ReadFails e (read_of field (get field.name d)) → behind found (each_field read_of (drop i fields) d) ≡ said → ReadFails e said
fields_fault read_of found fields i field d e said h is f s =
    behind_fault found e (read_of field (get field.name d)) (each_field read_of (drop (i + 1) fields) d) said f (sym (ap (behind found) (at_field read_of fields i field d h is)) ∙ s)

pub fields_end : {X : Type 0} (read_of : Field → Option Data → Result X Refusal) (found : List X) (d : Data) (said : Result (List X) Refusal) → behind found (each_field read_of [] d) ≡ said → said ≡ Ok found
unfolding each_field
fields_end read_of found d said s = sym s ∙ ap Ok (append-nil found)
