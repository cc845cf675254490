-- One score more.
use Rattle.std.proofs.Common.{◌≡◌, ◌<◌, ◌+◌, ◌++◌, ℕ, List, [], ◌∷◌, length, map, drop, get_or, sym, ap, ◌∙◌}
use Rattle.std.proofs.lemmas.List.{at_drop_more, append_assoc}
use Rattle.attr_types.specs.declared.score.Score.{Score}

pub score_more : (f : ℕ → Score) (docs : List ℕ) (k doc : ℕ) (list new whole : List Score) (item : Score) → k < length docs → doc ≡ get_or docs k doc
    → new ≡ list ++ item ∷ [] → item ≡ f doc → list ++ map f (drop k docs) ≡ whole → new ++ map f (drop (k + 1) docs) ≡ whole
score_more f docs k doc list new whole item below here pushed is before =
    ap (λ (xs : List Score). xs ++ map f (drop (k + 1) docs)) pushed
    ∙ append_assoc list (item ∷ []) (map f (drop (k + 1) docs))
    ∙ ap (λ (s : Score). list ++ s ∷ map f (drop (k + 1) docs)) (is ∙ ap f here)
    ∙ sym (at_drop_more (λ (ds : List ℕ). list ++ map f ds) docs k doc below)
    ∙ before
