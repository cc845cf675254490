-- A walk, pair by pair.
use Rattle.std.proofs.Common.{◌≡◌, ◌≢◌, ℕ, List, [], ◌∷◌, ◌++◌, drop, append_assoc, refl, ap, ◌∙◌}
use Rattle.tree_read.specs.SearchPlaces.{first_key, first_value}

-- the next of the pairs that follow is one of those walked
pub walk_step : (done ps : List (ℕ × ℕ)) (key value : ℕ) → ps ≢ [] → key ≡ first_key ps → value ≡ first_value ps
    → (done ++ (key, value) ∷ []) ++ drop 1 ps ≡ done ++ ps
walk_step done [] key value some k v = absurd (some refl)
walk_step done (p ∷ ps) key value some k v =
    append_assoc done ((key, value) ∷ []) ps ∙ ap (λ n. done ++ (n, value) ∷ ps) k ∙ ap (λ n. done ++ (p.0, n) ∷ ps) v
