-- The state between the walks, as the start of the second.
use Rattle.std.proofs.Common.{◌≡◌, ℕ, ℤ, true, false, List, [], ◌∷◌, Option, Some, None, cond}
use Rattle.std.proofs.Common.{option_map, map, nat_cmp, is_eq, refl, sym, ap, ◌∙◌}
use Rattle.std.proofs.lemmas.Cmp.{nat_cmp_total}
use Rattle.std.specs.BTreeMap.{insert_entry, is_at}
use Rattle.std.specs.List.{find}
use Rattle.std.specs.Map.{lookup}
use Rattle.attr_types.proofs.EntryLemmas.{lookup-insert_here, sorted-insert}
use Rattle.attr_types.specs.Value.{value_cmp}
use Rattle.attr_types.specs.declared.items.Item.{Item}
use Rattle.attr_types.specs.declared.value.Value.{Value}
use Rattle.index_model.proofs.ListLemmas.{list_of-sorted}
use Rattle.index_model.proofs.PartLemmas.{insert_same}
use Rattle.index_model.specs.Index.{Index, IsFormed, list_of, weight_in}
use Rattle.index_model.specs.Changes.{first_given, settled, IsBetween}

module _ (start : Index) (doc : ℕ) (old new : Value → Option ℤ) where
  -- after the first walk
  pub has_both : (middle : Index) → ((value : Value) → lookup (is_at (nat_cmp doc)) (list_of value start) ≡ old value) → IsBetween start doc new (λ value. None) middle
      → ((value : Value) → lookup (is_at (nat_cmp doc)) (list_of value middle) ≡ first_given (new value) (old value))
  has_both middle has p value =
      ap (lookup (is_at (nat_cmp doc))) (p.lists value) ∙ told (new value)
    where
      told : (o : Option ℤ) → lookup (is_at (nat_cmp doc)) (settled o None doc (list_of value start)) ≡ first_given o (old value)
      told (Some weight) = lookup-insert_here nat_cmp_total (list_of value start) doc weight
      told None = has value

  -- before the second
  pub begins_again : IsFormed start → ((value : Value) → lookup (is_at (nat_cmp doc)) (list_of value start) ≡ first_given (new value) (old value)) → IsBetween start doc new (λ value. None) start
  begins_again formed has = record { formed = formed; lists = λ value. told value (new value) (has value) }
    where
      told : (value : Value) (o : Option ℤ) → lookup (is_at (nat_cmp doc)) (list_of value start) ≡ first_given o (old value)
          → list_of value start ≡ settled o None doc (list_of value start)
      told value (Some weight) there = sym (insert_same doc weight (list_of value start) (list_of-sorted value start formed) there)
      told value None there = refl

  -- both
  pub both_walks : (middle index : Index) → IsFormed start → IsBetween start doc new (λ value. None) middle → IsBetween middle doc new old index
      → IsBetween start doc new old index
  both_walks middle index formed first second = record {
    formed = second.formed;
    lists = λ value. second.lists value ∙ ap (settled (new value) (old value) doc) (first.lists value)
        ∙ told value (new value) (old value);
  }
    where
      told : (value : Value) (o r : Option ℤ) → settled o r doc (settled o None doc (list_of value start)) ≡ settled o r doc (list_of value start)
      told value (Some weight) r =
          insert_same doc weight (insert_entry nat_cmp (list_of value start) doc weight)
          (sorted-insert nat_cmp_total (list_of value start) doc weight (list_of-sorted value start formed))
          (lookup-insert_here nat_cmp_total (list_of value start) doc weight)
      told value None r = refl

-- only the weights of values count, in whatever form they stand
pub between_same : (start : Index) (doc : ℕ) (a b r s : Value → Option ℤ) (index : Index) → IsBetween start doc a r index
    → ((value : Value) → b value ≡ a value) → ((value : Value) → s value ≡ r value) → IsBetween start doc b s index
between_same start doc a b r s index p same alike = record {
  formed = p.formed;
  lists = λ value. p.lists value
      ∙ ap (λ o. settled o (r value) doc (list_of value start)) (sym (same value))
      ∙ ap (λ o. settled (b value) o doc (list_of value start)) (sym (alike value));
}

-- a map's entries as items
pub weight_in-entries : (value : Value) (entries : List (Value × ℤ))
    → weight_in value (map (λ (e : Value × ℤ). let item : Item = record { value = e.0; weight = e.1 } in item) entries) ≡ lookup (is_at (value_cmp value)) entries
weight_in-entries value [] = refl
weight_in-entries value (e ∷ entries) =
    elim (is_eq (value_cmp value e.0)) as (λ b. option_map (λ (x : Item). x.weight) (cond b (Some (let item : Item = record { value = e.0; weight = e.1 } in item))
    (find (λ (x : Item). is_eq (value_cmp value x.value)) (map (λ (e : Value × ℤ). let item : Item = record { value = e.0; weight = e.1 } in item) entries)))
    ≡ cond b (Some e.1) (lookup (is_at (value_cmp value)) entries))
    [ true ↦ refl | false ↦ weight_in-entries value entries ]
