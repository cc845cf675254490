-- A list of documents with weights, read one by one.
use Rattle.std.specs.Prelude.{ℕ, ℤ, List, [], ◌∷◌}
use Rattle.std.specs.List.{AllByRecursion}
use Rattle.attr_types.specs.Lawful.{IsDocNumber}

-- the first document
abbrev pub first_doc : List (ℕ × ℤ) → ℕ
first_doc [] = 0
first_doc (p ∷ ps) = p.0

abbrev pub HaveDocNumbers : List (ℕ × ℤ) → Type 0
HaveDocNumbers list = AllByRecursion (λ p. IsDocNumber p.0) list
