-- Lemmas on documents that are appended in parts, for the laws of a receiver of keys. They are proofs, not part of the
-- specification.
use Rattle.std.proofs.Common.{◌≡◌, ℕ, List, [], ◌++◌, sym, ap, ◌∙◌}
use Rattle.std.proofs.lemmas.List.{append-nil, append_assoc}

pub appends_none : (docs : List ℕ) → docs ≡ docs ++ []
appends_none docs = sym (append-nil docs)

pub appends_joined : (a b c xs ys : List ℕ) → b ≡ a ++ xs → c ≡ b ++ ys → c ≡ a ++ (xs ++ ys)
appends_joined a b c xs ys first second = second ∙ ap (λ (docs : List ℕ). docs ++ ys) first ∙ append_assoc a xs ys
