-- Pairs of a document tree that a walk passes or finds.
use Rattle.std.proofs.Common.{◌≡◌, ◌≢◌, ◌≤◌, ◌<◌, ℕ, List, [], ◌∷◌, Some, None, drop, refl, sym, ap, ◌∙◌, arith, Less, Equal, Greater}
use Rattle.std.specs.Cmp.{nat_cmp_is, ranks}
use Rattle.std.specs.Ordering.{nat_cmp, MatchOrdering}
use Rattle.tree_read.specs.Pairs.{choose, lookup, seek}
use Rattle.tree_read.specs.SearchPlaces.{first_key, first_value}
use Rattle.doc_vector.specs.Documents.{beside_document}

-- a document below the sought one is passed
pub passed : (ps : List (ℕ × ℕ)) (doc : ℕ) → ps ≢ [] → first_key ps < doc → (later : ℕ) → doc ≤ later
    → lookup (beside_document later) (drop 1 ps) ≡ lookup (beside_document later) ps
passed [] doc some lt later le = absurd (some refl)
passed (p ∷ ps) doc some lt later le =
    sym (ap (λ o. choose o (lookup (beside_document later) ps) (Some p.1) None) (sym (nat_cmp_is p.0 later Less (omega (arith, lt, le)))))

-- and so are all that a search passes
pub sought : (ps : List (ℕ × ℕ)) (doc later : ℕ) → doc ≤ later → lookup (beside_document later) (seek (beside_document doc) ps) ≡ lookup (beside_document later) ps
sought [] doc later le = refl
sought (p ∷ ps) doc later le =
    elim (nat_cmp p.0 doc) as (λ o. MatchOrdering o (p.0 < doc) (p.0 ≡ doc) (doc < p.0)
    → lookup (beside_document later) (choose o (seek (beside_document doc) ps) (p ∷ ps) (p ∷ ps)) ≡ lookup (beside_document later) (p ∷ ps)) [
      | Less ↦ λ rank. sought ps doc later le ∙ passed (p ∷ ps) doc (λ none. cc) rank later le
      | Equal ↦ λ rank. refl
      | Greater ↦ λ rank. refl
    ] (ranks p.0 doc)

-- a search stops at a document that is not below the sought one
pub stops : (ps : List (ℕ × ℕ)) (doc : ℕ) → seek (beside_document doc) ps ≢ [] → doc ≤ first_key (seek (beside_document doc) ps)
stops [] doc = λ some. absurd (some refl)
stops (p ∷ ps) doc =
    elim (nat_cmp p.0 doc) as (λ o. MatchOrdering o (p.0 < doc) (p.0 ≡ doc) (doc < p.0)
    → choose o (seek (beside_document doc) ps) (p ∷ ps) (p ∷ ps) ≢ [] → doc ≤ first_key (choose o (seek (beside_document doc) ps) (p ∷ ps) (p ∷ ps))) [
      | Less ↦ λ rank. stops ps doc
      | Equal ↦ λ rank some. omega (arith, rank)
      | Greater ↦ λ rank some. omega (arith, rank)
    ] (ranks p.0 doc)

-- at a document above the sought one, it is nowhere; at its own document it is found
pub absent : (ps : List (ℕ × ℕ)) (doc : ℕ) → (ps ≢ [] → doc < first_key ps) → None ≡ lookup (beside_document doc) ps
absent [] doc above = refl
absent (p ∷ ps) doc above =
    sym (ap (λ o. choose o (lookup (beside_document doc) ps) (Some p.1) None) (sym (nat_cmp_is p.0 doc Greater (above (λ none. cc)))))

pub present : (ps : List (ℕ × ℕ)) (doc : ℕ) → ps ≢ [] → first_key ps ≡ doc → Some (first_value ps) ≡ lookup (beside_document doc) ps
present [] doc some is = absurd (some refl)
present (p ∷ ps) doc some is =
    sym (ap (λ o. choose o (lookup (beside_document doc) ps) (Some p.1) None) (sym (nat_cmp_is p.0 doc Equal is)))
