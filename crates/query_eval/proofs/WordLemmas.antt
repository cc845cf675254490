-- The list of a value, by the pair that a dictionary has for it.
use Rattle.std.proofs.Common.{◌≡◌, ℕ, pos, true, false, List, [], ◌∷◌, map, Option, Some, None, refl, sym, ap, ◌∙◌, cond, arith}
use Rattle.std.specs.BTreeMap.{is_at}
use Rattle.std.specs.List.{find}
use Rattle.std.specs.Map.{lookup}
use Rattle.std.specs.Option.{option_map, unwrap_or}
use Rattle.std.specs.Ordering.{is_eq}
use Rattle.entry_ref.specs.Records.{Records}
use Rattle.tree_read.specs.Trees.{tree_pairs}
use Rattle.tree_read.specs.Pairs.{lookup_pair}
use Rattle.image_format.specs.Postings.{list_form, postings_at, index_of}
use Rattle.image_format.specs.Values.{stored_value}
use Rattle.index_model.specs.Changes.{HasItems}
use Rattle.index_model.specs.Index.{Index, list_of, weight_in}
use Rattle.attr_types.specs.Scores.{weight_of}
use Rattle.attr_types.specs.Fitting.{is_of_type}
use Rattle.attr_types.specs.ProofsForOrder.{value_cmp_total}
use Rattle.attr_types.specs.Value.{type_of, value_cmp}
use Rattle.attr_types.specs.declared.items.Item.{Item}
use Rattle.attr_types.specs.declared.kind.ValueType.{ValueType}
use Rattle.attr_types.specs.declared.kind.ValueType.TheVariants as types
use Rattle.attr_types.specs.declared.value.Value.{Value}
use Rattle.attr_types.specs.declared.value.Value.TheVariants as values
use Rattle.enum_dictionary.specs.Dictionaries.{beside_value, entry_of}
use Rattle.enum_dictionary.specs.declared.finding.DictEntry.{DictEntry}
use Rattle.query_eval.specs.Parts.{IsIndexPair, IsIndexed}
use Rattle.query_eval.specs.Weights.{weight_in_list, IsListWord}
use Rattle.query_eval.proofs.LookupLemmas.{pair_lookup, pair_among}

-- a value of another type is not there
other_type : (type : ValueType) (m : Records) (value : Value) → is_of_type type value ≡ false → (ps : List (ℕ × ℕ))
    → lookup (is_at (value_cmp value)) (map (λ p. (stored_value type m p.0, postings_at m (list_form p.1))) ps) ≡ None
other_type type m value off [] = refl
other_type types.Long m (values.Long a) off (p ∷ ps) = cc
other_type types.Text m (values.Text a) off (p ∷ ps) = cc
other_type types.Long m (values.Text a) off (p ∷ ps) = other_type types.Long m (values.Text a) off ps
other_type types.Text m (values.Long a) off (p ∷ ps) = other_type types.Text m (values.Long a) off ps

pub not_there : (type : ValueType) (m : Records) (root : ℕ) (value : Value) → is_of_type type value ≡ false → [] ≡ list_of value (index_of type m root)
not_there type m root value off = ap (λ o. unwrap_or o []) (sym (other_type type m value off (tree_pairs m root)))

module _ (type : ValueType) (m : Records) (root : ℕ) (is : IsIndexed type m root) (value : Value) (typed : type_of value ≡ type) where
  found : lookup (is_at (value_cmp value)) (index_of type m root)
      ≡ option_map (λ (p : ℕ × ℕ). postings_at m (list_form p.1)) (lookup_pair (beside_value value m) (tree_pairs m root))
  found =
      pair_lookup value_cmp value_cmp_total (stored_value type m) (λ w. postings_at m (list_form w)) value (tree_pairs m root) is.tree_is.ascends
      ∙ ap (λ (t : ValueType). option_map (λ (p : ℕ × ℕ). postings_at m (list_form p.1)) (lookup_pair (λ k. value_cmp (stored_value t m k) value) (tree_pairs m root))) (sym typed)

  pub none_there : None ≡ lookup_pair (beside_value value m) (tree_pairs m root) → [] ≡ list_of value (index_of type m root)
  none_there none =
      ap (λ (o : Option (ℕ × ℕ)). unwrap_or (option_map (λ (p : ℕ × ℕ). postings_at m (list_form p.1)) o) []) none
      ∙ ap (λ o. unwrap_or o []) (sym found)

  pub is_there : (p : ℕ × ℕ) → Some p ≡ lookup_pair (beside_value value m) (tree_pairs m root)
      → postings_at m (list_form p.1) ≡ list_of value (index_of type m root)
  is_there p some =
      ap (λ (o : Option (ℕ × ℕ)). unwrap_or (option_map (λ (q : ℕ × ℕ). postings_at m (list_form q.1)) o) []) some
      ∙ ap (λ o. unwrap_or o []) (sym found)

  pub is_word : (p : ℕ × ℕ) → Some p ≡ lookup_pair (beside_value value m) (tree_pairs m root) → IsListWord m (Some p.1)
  is_word p some =
      let pair = pair_among (IsIndexPair type m) (beside_value value m) (tree_pairs m root) p is.pairs (sym some) in
      (pair.entry.1, pair.documents)

-- the pair of an entry
pub pair_of_entry : (bits : ℕ) (o : Option (ℕ × ℕ)) (entry : DictEntry bits) → Some entry ≡ option_map (entry_of bits) o → (p : ℕ × ℕ) × (Some p ≡ o) × (entry.posting ≡ p.1)
pair_of_entry bits None entry some = absurd (grind (arith, some))
pair_of_entry bits (Some p) entry some = (p, refl, posting_same entry (entry_of bits p) some)
  where
    posting_same : (a b : DictEntry bits) → Some a ≡ Some b → a.posting ≡ b.posting
    posting_same a b e = let same : a ≡ b = cc in ap (λ (d : DictEntry bits). d.posting) same

pub none_of_entry : (bits : ℕ) (o : Option (ℕ × ℕ)) → None ≡ option_map (entry_of bits) o → None ≡ o
none_of_entry bits None none = refl
none_of_entry bits (Some p) none = absurd (grind (arith, none))

-- the weight of a value's item
weight_is : (value : Value) (items : List Item) → weight_of value items ≡ unwrap_or (weight_in value items) (pos 0)
weight_is value [] = refl
weight_is value (item ∷ items) =
    elim (is_eq (value_cmp value item.value)) as (λ b. cond b item.weight (weight_of value items)
    ≡ unwrap_or (option_map (λ (i : Item). i.weight) (cond b (Some item) (find (λ (i : Item). is_eq (value_cmp value i.value)) items))) (pos 0))
    [ true ↦ refl | false ↦ weight_is value items ]

pub weight_by_list : (index : Index) (doc : ℕ) (value : Value) (items : List Item) → HasItems index doc items
    → weight_in_list doc (list_of value index) ≡ weight_of value items
weight_by_list index doc value items has = ap (λ o. unwrap_or o (pos 0)) (has value) ∙ sym (weight_is value items)
