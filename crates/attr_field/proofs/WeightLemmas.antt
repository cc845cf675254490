-- Maps of first weights.
use Rattle.std.proofs.Common.{◌≡◌, ℕ, ℤ, pos, ◌*◌, ◌<◌, Bool, true, false, true≢false, cond, List, [], ◌∷◌, length, Option, None, Some, option_map, nat_cmp, is_eq, refl, sym, ap, subst, ◌∙◌}
use Rattle.std.proofs.lemmas.Cmp.{tied_itself}
use Rattle.std.specs.Prelude.{IsSome}
use Rattle.std.specs.BTreeMap.{insert_entry, is_at}
use Rattle.std.specs.List.{AllByRecursion, find}
use Rattle.std.specs.Ordering.{match_ordering}
use Rattle.std.specs.declared.cmp.Ordering.TheVariants.{Less, Equal, Greater}
use Rattle.std.specs.Map.{keys_of, lookup}
use Rattle.std.specs.Option.{is_some}
use Rattle.list_lemmas.proofs.Each.{AllByRecursion-weaker}
use Rattle.image_format.proofs.ImageLemmas.{value_typed}
use Rattle.image_format.specs.Documents.{column_at, items_at, weighted}
use Rattle.image_format.specs.Values.{stored_value}
use Rattle.index_model.proofs.MapLemmas.{lookup-first_weights}
use Rattle.index_model.specs.Changes.{first_weights, settled, IsBetween}
use Rattle.index_model.specs.Columns.{items_of}
use Rattle.index_model.specs.Index.{Index, list_of, weight_in}
use Rattle.attr_types.proofs.EntryLemmas.{all_keys-insert, all-lookup}
use Rattle.attr_types.specs.ProofsForOrder.{value_cmp_total}
use Rattle.attr_types.specs.Value.{value_cmp, values_of, type_of, AreOfType}
use Rattle.attr_types.specs.declared.items.Item.{Item}
use Rattle.attr_types.specs.Lawful.{HaveWeightOne, IsLawfulItems}
use Rattle.attr_types.specs.declared.kind.Kind.{Kind}
use Rattle.attr_types.specs.declared.kind.Kind.TheVariants as kinds
use Rattle.store_api.specs.Ledgers.{Ledger}
use Rattle.store_api.specs.Units.{MakesWithin}
use Rattle.value_index.specs.Counts.{added_count, added_forms, added_records, besides, by_width, gone_count, gone_forms, gone_records}
use Rattle.value_index.specs.Forms.{WeighOnes}
use Rattle.attr_field.specs.Counts.{entry_weight}
use Rattle.attr_field.specs.Forms.{wants}
use Rattle.attr_types.specs.declared.kind.ValueType.{ValueType}
use Rattle.attr_types.specs.declared.value.Value.{Value}
use Rattle.entry_ref.specs.Records.{Records}
use Rattle.tree_read.specs.Trees.{tree_pairs}

-- a map of first weights has the weights of its items
pub weights_are : (entries : List (Value × ℤ)) (items : List Item) → entries ≡ first_weights [] items → (value : Value)
    → lookup (is_at (value_cmp value)) entries ≡ weight_in value items
weights_are entries items is value = ap (lookup (is_at (value_cmp value))) is ∙ lookup-first_weights value [] items

-- and values of their type
typed_first : (type : ValueType) (es : List (Value × ℤ)) (item : Item) (b : Bool) → AreOfType type (keys_of es) → type_of item.value ≡ type
    → AreOfType type (keys_of (cond b es (insert_entry value_cmp es item.value item.weight)))
typed_first type es item true typed here = typed
typed_first type es item false typed here = all_keys-insert value_cmp_total (λ value. type_of value ≡ type) es item.value item.weight typed here

typed_from : (type : ValueType) (es : List (Value × ℤ)) (items : List Item) → AreOfType type (keys_of es) → AreOfType type (values_of items)
    → AreOfType type (keys_of (first_weights es items))
typed_from type es [] typed all = typed
typed_from type es (item ∷ items) typed all =
    typed_from type (cond (is_some (lookup (is_at (value_cmp item.value)) es)) es (insert_entry value_cmp es item.value item.weight)) items
    (typed_first type es item (is_some (lookup (is_at (value_cmp item.value)) es)) typed all.0) all.1

pub weights_typed : (type : ValueType) (entries : List (Value × ℤ)) (items : List Item) → entries ≡ first_weights [] items → AreOfType type (values_of items)
    → AreOfType type (keys_of entries)
weights_typed type entries items is typed = subst (λ (es : List (Value × ℤ)). AreOfType type (keys_of es)) (sym is) (typed_from type [] items tt typed)

entries_typed : (type : ValueType) (m : Records) (es : List (ℕ × ℤ))
    → AreOfType type (values_of (Rattle.std.proofs.Common.map (λ (e : ℕ × ℤ). let item : Item = record { value = stored_value type m e.0; weight = e.1 } in item) es))
entries_typed type m [] = tt
entries_typed type m (e ∷ es) = (value_typed type (m e.0), entries_typed type m es)

column_typed : (kind : Kind) (type : ValueType) (m : Records) (ps : List (ℕ × ℕ))
    → AllByRecursion (λ (e : ℕ × List Item). AreOfType type (values_of e.1)) (Rattle.std.proofs.Common.map (λ (p : ℕ × ℕ). (p.0, items_at kind type m p.1)) ps)
column_typed kind type m [] = tt
column_typed kind type m (p ∷ ps) = (entries_typed type m (weighted kind p.1 (m p.1)), column_typed kind type m ps)

pub items_typed : (kind : Kind) (type : ValueType) (m : Records) (documents doc : ℕ) → AreOfType type (values_of (items_of (column_at kind type m documents) doc))
items_typed kind type m documents doc = told (lookup (is_at (nat_cmp doc)) (column_at kind type m documents)) refl
  where
    told : (o : Option (List Item)) → lookup (is_at (nat_cmp doc)) (column_at kind type m documents) ≡ o
        → AreOfType type (values_of (Rattle.std.specs.Prelude.unwrap_or o []))
    told None is = tt
    told (Some items) is = all-lookup (λ items. AreOfType type (values_of items)) (is_at (nat_cmp doc)) (column_at kind type m documents) (column_typed kind type m (tree_pairs m documents)) items is

-- weights of 1, where bit vectors are wanted
ones_put : (es : List (Value × ℤ)) (value : Value) (weight : ℤ) → weight ≡ pos 1 → AllByRecursion (λ e. e.1 ≡ pos 1) es → AllByRecursion (λ e. e.1 ≡ pos 1) (insert_entry value_cmp es value weight)
ones_put [] value weight one ones = (one, tt)
ones_put (e ∷ es) value weight one ones =
    let rest = ones_put es value weight one ones.1 in
    elim (value_cmp value e.0) as (λ o. AllByRecursion (λ (x : Value × ℤ). x.1 ≡ pos 1) (match_ordering o ((value, weight) ∷ e ∷ es) ((e.0, weight) ∷ es) (e ∷ insert_entry value_cmp es value weight))) [
      | Less ↦ (one, ones)
      | Equal ↦ (one, ones.1)
      | Greater ↦ (ones.0, rest)
    ]

ones_first : (es : List (Value × ℤ)) (items : List Item) → AllByRecursion (λ e. e.1 ≡ pos 1) es → HaveWeightOne items → AllByRecursion (λ e. e.1 ≡ pos 1) (first_weights es items)
ones_first es [] ones all = ones
ones_first es (item ∷ items) ones all =
    ones_first (cond (is_some (lookup (is_at (value_cmp item.value)) es)) es (insert_entry value_cmp es item.value item.weight)) items
    (told (is_some (lookup (is_at (value_cmp item.value)) es))) all.1
  where
    told : (t : Bool) → AllByRecursion (λ (x : Value × ℤ). x.1 ≡ pos 1) (cond t es (insert_entry value_cmp es item.value item.weight))
    told true = ones
    told false = ones_put es item.value item.weight all.0 ones

pub weigh_ones : (dense : Bool) (kind : Kind) (items : List Item) (entries : List (Value × ℤ)) → IsLawfulItems kind items → entries ≡ first_weights [] items → WeighOnes (wants dense kind) entries
weigh_ones dense kinds.Single items entries fits is wanted = subst (AllByRecursion (λ (x : Value × ℤ). x.1 ≡ pos 1)) (sym is) (ones_first [] items tt fits.1)
weigh_ones dense kinds.Array items entries fits is wanted = subst (AllByRecursion (λ (x : Value × ℤ). x.1 ≡ pos 1)) (sym is) (ones_first [] items tt fits.1)
weigh_ones dense kinds.WeightedSet items entries fits is wanted = absurd (true≢false (sym wanted))

-- each item has a weight among the items
weight_at : (value : Value) (item : Item) (items : List Item) (b : Bool) → is_eq (value_cmp value item.value) ≡ b → IsSome (weight_in value items)
    → IsSome (weight_in value (item ∷ items))
weight_at value item items true is some = ap (λ c. is_some (option_map (λ (x : Item). x.weight) (cond c (Some item) (find (λ (x : Item). is_eq (value_cmp value x.value)) items)))) is
weight_at value item items false is some =
    ap (λ c. is_some (option_map (λ (x : Item). x.weight) (cond c (Some item) (find (λ (x : Item). is_eq (value_cmp value x.value)) items)))) is ∙ some

weight_first : (item : Item) (items : List Item) → IsSome (weight_in item.value (item ∷ items))
weight_first item items =
    ap (λ r. is_some (option_map (λ (x : Item). x.weight) (cond (is_eq r) (Some item) (find (λ (x : Item). is_eq (value_cmp item.value x.value)) items))))
    (tied_itself value_cmp_total item.value)

all_weighed : (items : List Item) → AllByRecursion (λ (item : Item). IsSome (weight_in item.value items)) items
all_weighed [] = tt
all_weighed (item ∷ items) = (
  weight_first item items,
  AllByRecursion-weaker (λ (x : Item). IsSome (weight_in x.value items)) (λ (x : Item). IsSome (weight_in x.value (item ∷ items))) (λ x some. weight_at x.value item items (is_eq (value_cmp x.value item.value)) refl some)
      items (all_weighed items),
)

-- the values that were added have documents
insert_some : (o : Option ℤ) (doc : ℕ) (docs : List (ℕ × ℤ)) → IsSome o → 0 < length (settled o None doc docs)
insert_some None doc docs some = cc
insert_some (Some weight) doc docs some = Rattle.value_index.proofs.WalksKeyLemmas.insert_long doc weight docs

pub items_listed : (start index : Index) (doc : ℕ) (added : Value → Option ℤ) (items : List Item) → ((value : Value) → added value ≡ weight_in value items)
    → IsBetween start doc added (λ v. None) index → AllByRecursion (λ (item : Item). 0 < length (list_of item.value index)) items
items_listed start index doc added items are between =
    AllByRecursion-weaker (λ (item : Item). IsSome (weight_in item.value items)) (λ (item : Item). 0 < length (list_of item.value index)) (λ item some. subst (λ docs. 0 < length docs) (sym (between.lists item.value))
    (insert_some (added item.value) doc (list_of item.value start) (ap is_some (are item.value) ∙ some)))
    items
    (all_weighed items)

-- what is made for maps of weights is what is made for their items
module _ {H : Type 0} (a b : Ledger H) (per : ℕ) (lists : Value → List (ℕ × ℤ)) (doc : ℕ) (dense : Bool) (before after : List (Value × ℤ)) (old new : List Item)
    (before_are : before ≡ first_weights [] old) (after_are : after ≡ first_weights [] new) where
  abbrev most_added : List (Value × ℤ) → List (Value × ℤ) → ℕ → ℕ
  most_added had has = besides (by_width (per * added_count (entry_weight had) has) (added_records lists doc (entry_weight had) has)) (added_forms dense lists doc (entry_weight had) has)

  pub counts_given_added : MakesWithin a b (most_added before after) → MakesWithin a b (most_added (first_weights [] old) (first_weights [] new))
  counts_given_added made =
      subst (λ (es : List (Value × ℤ)). MakesWithin a b (most_added (first_weights [] old) es)) after_are
      (subst (λ (es : List (Value × ℤ)). MakesWithin a b (most_added es after)) before_are made)

  abbrev most_gone : List (Value × ℤ) → List (Value × ℤ) → ℕ → ℕ
  most_gone had has = besides (by_width (per * gone_count (entry_weight has) had) (gone_records lists doc (entry_weight has) had)) (gone_forms dense lists doc (entry_weight has) had)

  pub counts_given_gone : MakesWithin a b (most_gone before after) → MakesWithin a b (most_gone (first_weights [] old) (first_weights [] new))
  counts_given_gone made =
      subst (λ (es : List (Value × ℤ)). MakesWithin a b (most_gone (first_weights [] old) es)) after_are
      (subst (λ (es : List (Value × ℤ)). MakesWithin a b (most_gone es after)) before_are made)
