-- Groups in the order of their keys.
use Rattle.std.proofs.Common.{◌≡◌, ℕ, List, [], ◌∷◌, map, take, Equal, Ordering, refl, sym, ap, ap₂, ◌∙◌}
use Rattle.std.proofs.lemmas.List.{take-map}
use Rattle.std.proofs.lemmas.Map.Lookups.{exact_unsigned}
use Rattle.std.specs.Ordering.{nat_cmp}
use Rattle.attr_types.specs.ProofsForOrder.{value_cmp_exact}
use Rattle.attr_types.specs.Value.{value_cmp}
use Rattle.attr_types.specs.declared.value.Value.{Value}
use Rattle.result_model.specs.Groups.{by_count}
use Rattle.result_model.specs.Orders.{in_order}
use Rattle.result_model.specs.declared.group.Group.{Group}
use Rattle.query_results.specs.Runs.{as_group, as_group_key}
use Rattle.query_results.specs.contracts.group_keys.GroupKeyOrd.TheImpl as key_ord
use Rattle.query_results.specs.declared.group_keys.GroupKey.{GroupKey}
use Rattle.query_results.proofs.OrderLemmas.{both_equal, in_order_mapped}

abbrev key_cmp : GroupKey → GroupKey → Ordering
key_cmp = (key_ord.ghosts).cmp

pub key_exact : (a b : GroupKey) → key_cmp a b ≡ Equal → a ≡ b
key_exact a b is =
    let both = both_equal (nat_cmp b.count.0 a.count.0) (value_cmp a.value b.value) is in
    ap₂ (λ (count : ℕ) (value : Value). record { count = record { 0 = count }; value = value }) (sym (exact_unsigned b.count.0 a.count.0 both.0)) (value_cmp_exact a.value b.value both.1)

groups_back : (groups : List Group) → map as_group (map as_group_key groups) ≡ groups
groups_back [] = refl
groups_back (group ∷ groups) = ap (λ (list : List Group). group ∷ list) (groups_back groups)

-- the first keys in order, as groups
pub largest_part : (groups : List Group) (keys : List GroupKey) (count : ℕ) → keys ≡ map as_group_key groups
    → map as_group (take count (in_order key_cmp keys)) ≡ take count (in_order by_count groups)
largest_part groups keys count is =
    sym (take-map as_group count (in_order key_cmp keys))
    ∙ ap (take count)
    (ap (map as_group) (ap (in_order key_cmp) is ∙ in_order_mapped by_count key_cmp as_group_key (λ a b. refl) groups)
    ∙ groups_back (in_order by_count groups))
