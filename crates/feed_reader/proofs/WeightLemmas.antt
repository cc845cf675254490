-- One weighted value of an object after another.
use Rattle.std.proofs.Common.{◌≡◌, ℤ, List, [], ◌∷◌, Result, Ok, Less, Equal, Greater, refl, sym, ◌∙◌, ap, map, String, string_bytes}
use Rattle.std.specs.declared.alloc.Global.{Global}
use Rattle.std.specs.Ordering.{match_ordering}
use Rattle.std.specs.BTreeMap.{insert_entry}
use Rattle.serde_json.specs.View.{view, members_view}
use Rattle.serde_json.specs.declared.value.Value.{Value as Json}
use Rattle.attr_types.specs.Value.{value_cmp}
use Rattle.attr_types.specs.Change.{with_item}
use Rattle.attr_types.specs.declared.kind.ValueType.{ValueType}
use Rattle.attr_types.specs.declared.items.Item.{Item}
use Rattle.attr_types.specs.declared.value.Value.{Value}
use Rattle.feed_reader.specs.declared.refusal.Refusal.{Refusal}
use Rattle.feed_reader.specs.declared.refusal.LineError.{LineError}
use Rattle.feed_reader.specs.declared.refusal.LineError.TheVariants as errors
use Rattle.feed_reader.specs.Answers.{◌>>=◌, ReadFails}
use Rattle.feed_reader.specs.Values.{name_read, weight_read}
use Rattle.feed_reader.specs.Items.{weighted_after}
use Rattle.feed_reader.specs.Weights.{entry_item}

-- what a map's insertion makes of its items
items_with_item : (es : List (Value × ℤ)) (value : Value) (weight : ℤ) → map entry_item (insert_entry value_cmp es value weight) ≡ with_item (map entry_item es) (entry_item (value, weight))
items_with_item [] value weight = refl
items_with_item (e ∷ es) value weight =
    elim (value_cmp value e.0) as (λ r.
    map entry_item (match_ordering r ((value, weight) ∷ e ∷ es) ((e.0, weight) ∷ es) (e ∷ insert_entry value_cmp es value weight))
    ≡ match_ordering r (entry_item (value, weight) ∷ entry_item e ∷ map entry_item es) (entry_item (e.0, weight) ∷ map entry_item es) (entry_item e ∷ with_item (map entry_item es) (entry_item (value, weight))))
    [ Less ↦ refl | Equal ↦ refl | Greater ↦ ap (λ items. entry_item e ∷ items) (items_with_item es value weight) ]

-- an object's next member
pub weights_more : (value_type : ValueType) (es fs : List (Value × ℤ)) (name : String Global) (v : Json) (x : Value) (weight : ℤ) (s t : List (String Global × Json)) → s ≡ (name, v) ∷ t
    → name_read value_type (string_bytes name) ≡ Ok x → weight_read (view v) ≡ Ok weight → fs ≡ insert_entry value_cmp es x weight
    → weighted_after value_type (map entry_item fs) (members_view t) ≡ weighted_after value_type (map entry_item es) (members_view s)
unfolding weighted_after
weights_more value_type es fs name v x weight s t is n w put =
    let with = λ (value : Value) (weight : ℤ). weighted_after value_type (with_item (map entry_item es) (record { value = value; weight = weight })) (members_view t) in
    sym (ap (λ ms. weighted_after value_type (map entry_item es) (members_view ms)) is
    ∙ ap (λ r. r >>= λ value. weight_read (view v) >>= λ weight. with value weight) n
    ∙ ap (λ r. r >>= λ weight. with x weight) w
    ∙ ap (λ items. weighted_after value_type items (members_view t)) (sym (ap (map entry_item) put ∙ items_with_item es x weight)))

-- its name is faulty
pub weights_name_fault : (value_type : ValueType) (es : List (Value × ℤ)) (name : String Global) (v : Json) (e : LineError) (s t : List (String Global × Json)) (said : Result (List Item) Refusal) → s ≡ (name, v) ∷ t
    → ReadFails e (name_read value_type (string_bytes name)) → weighted_after value_type (map entry_item es) (members_view s) ≡ said → ReadFails e said
unfolding weighted_after
weights_name_fault value_type es name v errors.Memory s t said is f a = tt
weights_name_fault value_type es name v (errors.Refused refusal) s t said is f a =
    let with = λ (value : Value) (weight : ℤ). weighted_after value_type (with_item (map entry_item es) (record { value = value; weight = weight })) (members_view t) in
    sym a
    ∙ ap (λ ms. weighted_after value_type (map entry_item es) (members_view ms)) is
    ∙ ap (λ r. r >>= λ value. weight_read (view v) >>= λ weight. with value weight) f

-- its weight is faulty
pub weights_weight_fault : (value_type : ValueType) (es : List (Value × ℤ)) (name : String Global) (v : Json) (value : Value) (e : LineError) (s t : List (String Global × Json)) (said : Result (List Item) Refusal)
    → s ≡ (name, v) ∷ t
    → name_read value_type (string_bytes name) ≡ Ok value → ReadFails e (weight_read (view v)) → weighted_after value_type (map entry_item es) (members_view s) ≡ said → ReadFails e said
unfolding weighted_after
weights_weight_fault value_type es name v value errors.Memory s t said is n f a = tt
weights_weight_fault value_type es name v value (errors.Refused refusal) s t said is n f a =
    let with = λ (value : Value) (weight : ℤ). weighted_after value_type (with_item (map entry_item es) (record { value = value; weight = weight })) (members_view t) in
    sym a
    ∙ ap (λ ms. weighted_after value_type (map entry_item es) (members_view ms)) is
    ∙ ap (λ r. r >>= λ value. weight_read (view v) >>= λ weight. with value weight) n
    ∙ ap (λ r. r >>= λ weight. with value weight) f

pub weights_end : (value_type : ValueType) (items : List Item) (s : List (String Global × Json)) (said : Result (List Item) Refusal) → s ≡ [] → weighted_after value_type items (members_view s) ≡ said → said ≡ Ok items
unfolding weighted_after
weights_end value_type items s said is a = sym a ∙ ap (λ ms. weighted_after value_type items (members_view ms)) is
