-- The keys of the phases of a compaction, from the trees of an attribute. Each phase has them in order.
use Rattle.std.specs.Prelude.{◌≡◌, ℕ, List, [], ◌∷◌, map, ◌++◌, Option, None, Some, nat_eq, nat_lt, if◌then◌else◌}
use Rattle.std.specs.List.{find, flat_map}
use Rattle.std.specs.Option.{option_map}
use Rattle.std.specs.Ordering.{is_lt}
use Rattle.entry_ref.specs.Records.{Records}
use Rattle.tree_read.specs.Trees.{tree_pairs}
use Rattle.image_format.specs.Postings.{list_form}
use Rattle.image_format.specs.Values.{stored_value, IsValueRecord}
use Rattle.attr_types.specs.Value.{type_of}
use Rattle.attr_types.specs.declared.kind.ValueType.{ValueType}
use Rattle.posting_store.specs.Moves.{form_docs}
use Rattle.value_index.specs.Indexes.{IsValuePair}
use Rattle.attr_compaction.specs.Places.{key_cmp}
use Rattle.attr_compaction.specs.declared.plan.TheConstants.{DOCUMENTS, KEYS, LISTS}
use Rattle.attr_compaction.specs.declared.plan.PlanKey.{PlanKey}
use Rattle.attr_compaction.specs.declared.plan.PlanKey.TheVariants.{Start, Value, Doc, Pair}

-- the values of a dictionary
abbrev pub value_keys : ValueType → Records → ℕ → List PlanKey
value_keys type m root = map (λ p. Value (stored_value type m p.0)) (tree_pairs m root)

-- the documents of a tree by document
abbrev pub document_keys : Records → ℕ → List PlanKey
document_keys m root = map (λ p. Doc p.0) (tree_pairs m root)

-- the documents in the lists of the values
abbrev pub keys_of_pairs : ValueType → Records → List (ℕ × ℕ) → List PlanKey
keys_of_pairs type m ps = flat_map (λ p. map (λ doc. Pair (stored_value type m p.0) doc) (form_docs m (list_form p.1))) ps

abbrev pub pair_keys : ValueType → Records → ℕ → List PlanKey
pair_keys type m root = keys_of_pairs type m (tree_pairs m root)

-- the values, and then the documents
abbrev pub node_phase_keys : ValueType → Records → ℕ → ℕ → List PlanKey
node_phase_keys type m documents dictionary = value_keys type m dictionary ++ document_keys m documents

-- the keys of a phase, for an attribute with these trees
abbrev pub phase_keys : ValueType → Records → ℕ → ℕ → ℕ → List PlanKey
phase_keys type m documents dictionary phase =
    if nat_eq phase KEYS then value_keys type m dictionary
    else if nat_eq phase DOCUMENTS then document_keys m documents
    else if nat_eq phase LISTS then pair_keys type m dictionary
    else node_phase_keys type m documents dictionary

-- a value's record, and its posting list
pub record IsListPair (type : ValueType) (m : Records) (p : ℕ × ℕ) : Type 0 where
  pub record_is : IsValueRecord type (m p.0)
  pub pair_is : IsValuePair m p

-- the next key in the list of a pair, if there is one
abbrev pub next_in_list : ValueType → Records → ℕ → Option (ℕ × ℕ) → Option PlanKey
next_in_list type m doc None = None
next_in_list type m doc (Some p) = option_map (λ next. Pair (stored_value type m p.0) next)
    (find (nat_lt doc) (form_docs m (list_form p.1)))

-- the first key after another
abbrev pub key_past : PlanKey → List PlanKey → Option PlanKey
key_past key keys = find (λ next. is_lt (key_cmp key next)) keys

-- the first item of a list, if there is one
abbrev pub first_item : {A : Type 0} → List A → Option A
first_item [] = None
first_item (x ∷ xs) = Some x

-- if a key names a value, the value has this type
abbrev pub HasType : ValueType → PlanKey → Type 0
HasType type Start = Unit {0}
HasType type (Value value) = type_of value ≡ type
HasType type (Doc doc) = Unit {0}
HasType type (Pair value doc) = type_of value ≡ type
