-- Documents in the order of their keys.
use Rattle.std.proofs.Common.{◌≡◌, ℕ, List, [], ◌∷◌, map, take, drop, Option, Some, None, Equal, Ordering, true≢false, refl, sym, ap, ap₂, ◌∙◌}
use Rattle.std.proofs.lemmas.List.{take-map, drop-map}
use Rattle.std.proofs.lemmas.Map.Lookups.{exact_unsigned}
use Rattle.std.specs.Ordering.{is_eq, nat_cmp, ordering_then}
use Rattle.attr_types.specs.ProofsForOrder.{value_cmp_exact, value_cmp_total}
use Rattle.attr_types.specs.declared.value.Value.{Value}
use Rattle.result_model.specs.Orders.{by_value_then_document, in_order}
use Rattle.result_model.specs.declared.direction.Direction.{Direction}
use Rattle.result_model.specs.declared.direction.Direction.TheVariants.{Ascending, Descending}
use Rattle.query_results.specs.Ranks.{ranked}
use Rattle.query_results.specs.contracts.ranks.PlaceOrd.TheImpl as place_ord
use Rattle.query_results.specs.contracts.ranks.RankedOrd.TheImpl as ranked_ord
use Rattle.query_results.specs.declared.ranks.Place.{Place}
use Rattle.query_results.specs.declared.ranks.Place.TheVariants as places
use Rattle.query_results.specs.declared.ranks.Ranked.{Ranked}
use Rattle.query_results.proofs.OrderLemmas.{both_equal, in_order_mapped}

abbrev pub ranked_cmp : Ranked → Ranked → Ordering
ranked_cmp = (ranked_ord.ghosts).cmp

abbrev place_cmp : Place → Place → Ordering
place_cmp = (place_ord.ghosts).cmp

-- ---- the order of keys

-- it is that of the model
pub keeps : (direction : Direction) (a b : Option Value × ℕ) → ranked_cmp (ranked direction a) (ranked direction b) ≡ by_value_then_document direction a b
keeps Ascending (Some x, m) (Some y, n) = refl
keeps Ascending (Some x, m) (None, n) = refl
keeps Ascending (None, m) (Some y, n) = refl
keeps Ascending (None, m) (None, n) = refl
keeps Descending (Some x, m) (Some y, n) = ap (λ o. ordering_then o (nat_cmp m n)) (value_cmp_total.antisymm y x)
keeps Descending (Some x, m) (None, n) = refl
keeps Descending (None, m) (Some y, n) = refl
keeps Descending (None, m) (None, n) = refl

same_place : (p q : Place) → place_cmp p q ≡ Equal → p ≡ q
same_place (places.Up a) (places.Up b) is = ap places.Up (value_cmp_exact a b is)
same_place (places.Up a) (places.Down b) is = absurd (true≢false (sym (ap is_eq is)))
same_place (places.Up a) places.Last is = absurd (true≢false (sym (ap is_eq is)))
same_place (places.Down a) (places.Up b) is = absurd (true≢false (sym (ap is_eq is)))
same_place (places.Down a) (places.Down b) is = ap (λ (v : Value). places.Down (record { 0 = v })) (sym (value_cmp_exact b.0 a.0 is))
same_place (places.Down a) places.Last is = absurd (true≢false (sym (ap is_eq is)))
same_place places.Last (places.Up b) is = absurd (true≢false (sym (ap is_eq is)))
same_place places.Last (places.Down b) is = absurd (true≢false (sym (ap is_eq is)))
same_place places.Last places.Last is = refl

-- it tells all keys apart
pub ranked_exact : (a b : Ranked) → ranked_cmp a b ≡ Equal → a ≡ b
ranked_exact a b is =
    let both = both_equal (place_cmp a.place b.place) (nat_cmp a.doc b.doc) is in
    ap₂ (λ (place : Place) (doc : ℕ). record { place = place; doc = doc }) (same_place a.place b.place both.0) (exact_unsigned a.doc b.doc both.1)

-- ---- documents of keys in order

documents_of : (direction : Direction) (keys : List (Option Value × ℕ)) → map (λ key. key.doc) (map (ranked direction) keys) ≡ map (λ k. k.1) keys
documents_of direction [] = refl
documents_of direction (k ∷ keys) = ap (λ (docs : List ℕ). k.1 ∷ docs) (documents_of direction keys)

-- a part of the documents of keys in order
pub ranked_part : (direction : Direction) (list : List Ranked) (keys : List (Option Value × ℕ)) (from count : ℕ) → list ≡ map (ranked direction) keys
    → map (λ key. key.doc) (take count (drop from (in_order ranked_cmp list)))
    ≡ take count (drop from (map (λ k. k.1) (in_order (by_value_then_document direction) keys)))
ranked_part direction list keys from count is =
    let rows = in_order ranked_cmp list in
    sym (take-map (λ (key : Ranked). key.doc) count (drop from rows))
    ∙ ap (take count) (sym (drop-map (λ (key : Ranked). key.doc) from rows))
    ∙ ap (λ (docs : List ℕ). take count (drop from docs))
    (ap (map (λ (key : Ranked). key.doc)) (ap (in_order ranked_cmp) is ∙ in_order_mapped (by_value_then_document direction) ranked_cmp (ranked direction) (keeps direction) keys)
    ∙ documents_of direction (in_order (by_value_then_document direction) keys))

-- the keys of documents, as the model has them
pub same_ranks : (direction : Direction) (f g : ℕ → Option Value) → ((n : ℕ) → f n ≡ g n) → (docs : List ℕ)
    → map (λ (n : ℕ). ranked direction (f n, n)) docs ≡ map (ranked direction) (map (λ (n : ℕ). (g n, n)) docs)
same_ranks direction f g same [] = refl
same_ranks direction f g same (doc ∷ docs) =
    ap₂ (λ (o : Option Value) (keys : List Ranked). ranked direction (o, doc) ∷ keys) (same doc) (same_ranks direction f g same docs)
