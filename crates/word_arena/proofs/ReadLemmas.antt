-- A word read behind those that were read before it.
use Rattle.std.proofs.Common.{◌≡◌, ℕ, ◌+◌, ◌<◌, List, [], ◌∷◌, ◌++◌, length, take, drop, set, slice_index, sym, ap, ◌∙◌}
use Rattle.std.proofs.Math.Seq.{take-add}
use Rattle.std.proofs.lemmas.List.{take_more_set, drop-drop}
use Rattle.list_lemmas.proofs.Places.{drop-read}

pub read_more : (into ws : List ℕ) (first i x : ℕ) → i < length into → first + i < length ws → x ≡ slice_index ws (first + i) → take i into ≡ take i (drop first ws)
    → take (i + 1) (set into i x) ≡ take (i + 1) (drop first ws)
read_more into ws first i x lt inside is before =
    let one : take 1 (drop i (drop first ws)) ≡ x ∷ [] = ap (take 1) (drop-drop i first ws ∙ drop-read ws (first + i) x 0 inside is) in
    take_more_set into i x lt ∙ (λ k. before k ++ x ∷ []) ∙ ap (λ l. take i (drop first ws) ++ l) (sym one) ∙ sym (take-add i 1 (drop first ws))
