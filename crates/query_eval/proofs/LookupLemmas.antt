-- A pair that is found is what the list of what the pairs read as has.
use Rattle.std.proofs.Common.{◌≡◌, ℕ, pos, ◌||◌, List, [], ◌∷◌, map, Some, None, nat_eq, refl, sym, ap, subst, ◌∙◌, cond, arith}
use Rattle.std.specs.BTreeMap.{is_at}
use Rattle.std.specs.Cmp.{IsTotalOrder}
use Rattle.std.specs.List.{AllByRecursion}
use Rattle.std.specs.List.Sorted.{IsStrictlySortedBy}
use Rattle.std.specs.Map.{lookup}
use Rattle.std.specs.Option.{option_map, unwrap_or}
use Rattle.std.specs.Ordering.{is_eq, nat_cmp, ordering_reverse}
use Rattle.std.specs.declared.cmp.Ordering.{Ordering}
use Rattle.std.specs.declared.cmp.Ordering.TheVariants.{Less, Equal, Greater}
use Rattle.std.proofs.lemmas.Bool.{eqb-true, eqb-false}
use Rattle.std.proofs.lemmas.Cmp.{tied_itself, nat_cmp_total}
use Rattle.list_lemmas.proofs.Options.{same_Some}
use Rattle.tree_read.specs.Pairs.{choose, lookup_pair}
use Rattle.attr_types.proofs.EntryLemmas.{nat_cmp_apart}
use Rattle.index_model.proofs.BitLemmas.{by_cases}
use Rattle.index_model.specs.Sets.{has}
use Rattle.query_eval.specs.Weights.{weight_in_list}

module _ {V X : Type 0} (order : V → V → Ordering) (total : IsTotalOrder order) (reads : ℕ → V) (g : ℕ → X) (s : V) where
  abbrev shown : List (ℕ × ℕ) → List (V × X)
  shown ps = map (λ p. (reads p.0, g p.1)) ps

  abbrev beside : ℕ → Ordering
  beside k = order (reads k) s

  -- behind a key above the one sought are others above it
  none_above : (a : V) (ps : List (ℕ × ℕ)) → order s a ≡ Less → AllByRecursion (λ v. order a v ≡ Less) (map (λ p. reads p.0) ps)
      → lookup (is_at (order s)) (shown ps) ≡ None
  none_above a [] above all = refl
  none_above a (p ∷ ps) above all =
      ap (λ r. cond (is_eq r) (Some (g p.1)) (lookup (is_at (order s)) (shown ps))) (total.trans s a (reads p.0) above all.0)
      ∙ none_above a ps above all.1

  pub pair_lookup : (ps : List (ℕ × ℕ)) → IsStrictlySortedBy order (map (λ p. reads p.0) ps)
      → lookup (is_at (order s)) (shown ps) ≡ option_map (λ (p : ℕ × ℕ). g p.1) (lookup_pair beside ps)
  unfolding IsStrictlySortedBy
  pair_lookup [] up = refl
  pair_lookup (p ∷ ps) up =
      ap (λ r. cond (is_eq r) (Some (g p.1)) (lookup (is_at (order s)) (shown ps))) (total.antisymm s (reads p.0))
      ∙ (elim (beside p.0) as (λ r. beside p.0 ≡ r
      → cond (is_eq (ordering_reverse r)) (Some (g p.1)) (lookup (is_at (order s)) (shown ps))
      ≡ option_map (λ (q : ℕ × ℕ). g q.1) (choose r (lookup_pair beside ps) (Some p) None)) [
        | Less ↦ λ is. pair_lookup ps up.1
        | Equal ↦ λ is. refl
        | Greater ↦ λ is. none_above (reads p.0) ps (total.antisymm s (reads p.0) ∙ ap ordering_reverse is) up.0
      ]) refl

-- each pair that is found is one of the list
pub pair_among : (P : ℕ × ℕ → Type 0) (c : ℕ → Ordering) (ps : List (ℕ × ℕ)) (p : ℕ × ℕ) → AllByRecursion P ps → lookup_pair c ps ≡ Some p → P p
pair_among P c [] p all is = absurd (grind (arith, is))
pair_among P c (q ∷ ps) p all is =
    elim (c q.0) as (λ r. choose r (lookup_pair c ps) (Some q) None ≡ Some p → P p) [
      | Less ↦ λ h. pair_among P c ps p all.1 h
      | Equal ↦ λ h. subst P (same_Some q p h) all.0
      | Greater ↦ λ h. absurd (grind (arith, h))
    ] is

-- in a list of documents of weight 1 the weight is 1 where the document is there
pub ones : (doc : ℕ) (docs : List ℕ) → weight_in_list doc (map (λ d. (d, pos 1)) docs) ≡ cond (has docs doc) (pos 1) (pos 0)
ones doc [] = refl
ones doc (d ∷ docs) = by_cases (nat_eq doc d)
    (λ yes.
    ap (λ r. unwrap_or (cond (is_eq r) (Some (pos 1)) (lookup (is_at (nat_cmp doc)) (map (λ d. (d, pos 1)) docs))) (pos 0))
    (ap (nat_cmp doc) (sym (eqb-true doc d yes)) ∙ tied_itself nat_cmp_total doc)
    ∙ sym (ap (λ b. cond (b || has docs doc) (pos 1) (pos 0)) yes))
    (λ no.
    ap (λ b. unwrap_or (cond b (Some (pos 1)) (lookup (is_at (nat_cmp doc)) (map (λ d. (d, pos 1)) docs))) (pos 0)) (nat_cmp_apart doc d (eqb-false doc d no))
    ∙ ones doc docs
    ∙ sym (ap (λ b. cond (b || has docs doc) (pos 1) (pos 0)) no))
