-- Scores in the order of their keys.
use Rattle.std.proofs.Common.{◌≡◌, ℕ, ℤ, List, [], ◌∷◌, map, take, Equal, Ordering, refl, sym, ap, ap₂, ◌∙◌}
use Rattle.std.proofs.lemmas.List.{take-map}
use Rattle.std.proofs.lemmas.Map.Lookups.{exact_signed, exact_unsigned}
use Rattle.std.specs.Ordering.{int_cmp, nat_cmp}
use Rattle.attr_types.specs.declared.score.Score.{Score}
use Rattle.result_model.specs.Orders.{by_score, in_order}
use Rattle.query_results.specs.Ranks.{as_key, as_score}
use Rattle.query_results.specs.contracts.score_keys.ScoreKeyOrd.TheImpl as key_ord
use Rattle.query_results.specs.declared.score_keys.ScoreKey.{ScoreKey}
use Rattle.query_results.proofs.OrderLemmas.{both_equal, in_order_mapped}

abbrev key_cmp : ScoreKey → ScoreKey → Ordering
key_cmp = (key_ord.ghosts).cmp

pub key_exact : (a b : ScoreKey) → key_cmp a b ≡ Equal → a ≡ b
key_exact a b is =
    let both = both_equal (int_cmp b.score.0 a.score.0) (nat_cmp a.doc b.doc) is in
    ap₂ (λ (score : ℤ) (doc : ℕ). record { score = record { 0 = score }; doc = doc }) (sym (exact_signed b.score.0 a.score.0 both.0)) (exact_unsigned a.doc b.doc both.1)

scores_back : (scores : List Score) → map as_score (map as_key scores) ≡ scores
scores_back [] = refl
scores_back (score ∷ scores) = ap (λ (list : List Score). score ∷ list) (scores_back scores)

-- the first keys in order, as scores
pub best_part : (scores : List Score) (keys : List ScoreKey) (count : ℕ) → keys ≡ map as_key scores
    → map as_score (take count (in_order key_cmp keys)) ≡ take count (in_order by_score scores)
best_part scores keys count is =
    sym (take-map as_score count (in_order key_cmp keys))
    ∙ ap (take count)
    (ap (map as_score) (ap (in_order key_cmp) is ∙ in_order_mapped by_score key_cmp as_key (λ a b. refl) scores)
    ∙ scores_back (in_order by_score scores))
