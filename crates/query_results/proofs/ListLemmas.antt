-- Lists that a loop makes of given documents.
use Rattle.std.proofs.Common.{◌≡◌, ◌<◌, ◌+◌, ◌++◌, ℕ, List, [], ◌∷◌, length, map, drop, get_or, ℤ, Option, None, Some, refl, sym, ap, ap₂, ◌∙◌}
use Rattle.std.proofs.lemmas.List.{at_drop_more, append_assoc}
use Rattle.std.specs.List.{cons_option, filter_map, flat_map}
use Rattle.result_model.specs.Totals.{with_numbers}
use Rattle.result_model.specs.declared.totals.Totals.{Totals}
use Rattle.query_results.specs.Attributes.{after}

pub one_more : {A : Type 0} (f : ℕ → A) (docs : List ℕ) (k doc : ℕ) (list new whole : List A) (item : A) → k < length docs → doc ≡ get_or docs k doc
    → new ≡ list ++ item ∷ [] → item ≡ f doc → list ++ map f (drop k docs) ≡ whole → new ++ map f (drop (k + 1) docs) ≡ whole
one_more {A} f docs k doc list new whole item below here pushed is before =
    ap (λ (xs : List A). xs ++ map f (drop (k + 1) docs)) pushed
    ∙ append_assoc list (item ∷ []) (map f (drop (k + 1) docs))
    ∙ ap (λ (x : A). list ++ x ∷ map f (drop (k + 1) docs)) (is ∙ ap f here)
    ∙ sym (at_drop_more (λ (ds : List ℕ). list ++ map f ds) docs k doc below)
    ∙ before

pub same_map : {A : Type 0} (f g : ℕ → A) → ((n : ℕ) → f n ≡ g n) → (docs : List ℕ) → map f docs ≡ map g docs
same_map f g same [] = refl
same_map {A} f g same (doc ∷ docs) = ap₂ (λ (x : A) (xs : List A). x ∷ xs) (same doc) (same_map f g same docs)

pub same_filter_map : {A : Type 0} (f g : ℕ → Option A) → ((n : ℕ) → f n ≡ g n) → (docs : List ℕ) → filter_map f docs ≡ filter_map g docs
same_filter_map f g same [] = refl
same_filter_map {A} f g same (doc ∷ docs) =
    ap₂ (λ (o : Option A) (xs : List A). cons_option o xs) (same doc) (same_filter_map f g same docs)

after_one : (totals : Totals) (o : Option ℤ) (rest : List ℤ) → with_numbers (after totals o) rest ≡ with_numbers totals (cons_option o rest)
after_one totals None rest = refl
after_one totals (Some number) rest = refl

pub one_number : (f : ℕ → Option ℤ) (docs : List ℕ) (k doc : ℕ) (totals new whole : Totals) (o : Option ℤ) → k < length docs → doc ≡ get_or docs k doc
    → o ≡ f doc → new ≡ after totals o → with_numbers totals (filter_map f (drop k docs)) ≡ whole → with_numbers new (filter_map f (drop (k + 1) docs)) ≡ whole
one_number f docs k doc totals new whole o below here read is before =
    let rest = filter_map f (drop (k + 1) docs) in
    ap (λ (t : Totals). with_numbers t rest) is
    ∙ after_one totals o rest
    ∙ ap (λ (x : Option ℤ). with_numbers totals (cons_option x rest)) (read ∙ ap f here)
    ∙ sym (at_drop_more (λ (ds : List ℕ). with_numbers totals (filter_map f ds)) docs k doc below)
    ∙ before

pub some_more : {A : Type 0} (f : ℕ → List A) (docs : List ℕ) (k doc : ℕ) (list new whole items : List A) → k < length docs → doc ≡ get_or docs k doc
    → new ≡ list ++ items → items ≡ f doc → list ++ flat_map f (drop k docs) ≡ whole → new ++ flat_map f (drop (k + 1) docs) ≡ whole
some_more {A} f docs k doc list new whole items below here appended is before =
    ap (λ (xs : List A). xs ++ flat_map f (drop (k + 1) docs)) appended
    ∙ append_assoc list items (flat_map f (drop (k + 1) docs))
    ∙ ap (λ (xs : List A). list ++ (xs ++ flat_map f (drop (k + 1) docs))) (is ∙ ap f here)
    ∙ sym (at_drop_more (λ (ds : List ℕ). list ++ flat_map f ds) docs k doc below)
    ∙ before

pub same_flat_map : {A : Type 0} (f g : ℕ → List A) → ((n : ℕ) → f n ≡ g n) → (docs : List ℕ) → flat_map f docs ≡ flat_map g docs
same_flat_map f g same [] = refl
same_flat_map {A} f g same (doc ∷ docs) = ap₂ (λ (xs ys : List A). xs ++ ys) (same doc) (same_flat_map f g same docs)
