-- Pairs of a dictionary as entries of an index: one put among them, one taken out, one found.
use Rattle.std.proofs.Common.{◌≡◌, ℕ, ℤ, ◌<◌, false, cond, List, [], ◌∷◌, map, length, None, Some, option_map, is_eq, refl, sym, ap, ◌∙◌, arith}
use Rattle.std.specs.BTreeMap.{insert_entry, is_at}
use Rattle.std.specs.declared.cmp.Ordering.{Ordering}
use Rattle.std.specs.declared.cmp.Ordering.TheVariants.{Less, Equal, Greater}
use Rattle.std.specs.List.{AllByRecursion}
use Rattle.std.specs.List.Sorted.{IsStrictlySortedBy}
use Rattle.std.specs.Map.{keys_of, lookup, remove_entry}
use Rattle.std.specs.Ordering.{match_ordering, ordering_reverse}
use Rattle.tree_read.specs.Pairs.{choose, lookup_pair, put, take_out}
use Rattle.index_model.specs.Index.{Index, with_list}
use Rattle.attr_types.specs.ProofsForOrder.{value_cmp_total, value_cmp_exact}
use Rattle.attr_types.specs.Value.{value_cmp}
use Rattle.attr_types.specs.declared.value.Value.{Value}

abbrev pub Docs : Type 0
Docs = List (ℕ × ℤ)

-- with a list that has a document the value is put in
pub with_some : (value : Value) (docs : Docs) (index : Index) → 0 < length docs → with_list value docs index ≡ insert_entry value_cmp index value docs
with_some value [] index some = absurd (omega arith)
with_some value (first ∷ rest) index some = refl

module _ (v : ℕ → Value) (l : ℕ → Docs) where
  abbrev pub shown : ℕ × ℕ → Value × Docs
  shown p = (v p.0, l p.1)

  pub shown_keys : (ps : List (ℕ × ℕ)) → keys_of (map shown ps) ≡ map (λ p. v p.0) ps
  shown_keys [] = refl
  shown_keys (p ∷ ps) = ap (λ ks. v p.0 ∷ ks) (shown_keys ps)

module _ (v w : ℕ → Value) (l k : ℕ → Docs) where
  pub shown_same : (ps : List (ℕ × ℕ)) → AllByRecursion (λ q. shown w k q ≡ shown v l q) ps → map (shown w k) ps ≡ map (shown v l) ps
  shown_same [] all = refl
  shown_same (p ∷ ps) all = ap (λ e. e ∷ map (shown w k) ps) all.0 ∙ ap (λ es. shown v l p ∷ es) (shown_same ps all.1)

module _ (value : Value) (v : ℕ → Value) (l : ℕ → Docs) where
  abbrev against : ℕ → Ordering
  against key = value_cmp (v key) value

  -- behind a key above the one sought are others above it
  none_at : (a : Value) (ps : List (ℕ × ℕ)) → value_cmp value a ≡ Less → AllByRecursion (λ x. value_cmp a x ≡ Less) (map (λ p. v p.0) ps)
      → AllByRecursion (λ p. is_eq (value_cmp value (v p.0)) ≡ false) ps
  none_at a [] above all = tt
  none_at a (p ∷ ps) above all = (ap is_eq (value_cmp_total.trans value a (v p.0) above all.0), none_at a ps above all.1)

  none_found : (ps : List (ℕ × ℕ)) → AllByRecursion (λ p. is_eq (value_cmp value (v p.0)) ≡ false) ps
      → lookup (is_at (value_cmp value)) (map (shown v l) ps) ≡ None
  none_found [] all = refl
  none_found (p ∷ ps) all =
      ap (λ b. cond b (Some (l p.1)) (lookup (is_at (value_cmp value)) (map (shown v l) ps))) all.0 ∙ none_found ps all.1

  none_gone : (ps : List (ℕ × ℕ)) → AllByRecursion (λ p. is_eq (value_cmp value (v p.0)) ≡ false) ps
      → remove_entry (is_at (value_cmp value)) (map (shown v l) ps) ≡ map (shown v l) ps
  none_gone [] all = refl
  none_gone (p ∷ ps) all =
      ap (λ b. cond b (map (shown v l) ps) (shown v l p ∷ remove_entry (is_at (value_cmp value)) (map (shown v l) ps))) all.0
      ∙ ap (λ es. shown v l p ∷ es) (none_gone ps all.1)

  -- the pair of a value is found by the value
  pub shown_found : (ps : List (ℕ × ℕ)) → IsStrictlySortedBy value_cmp (map (λ p. v p.0) ps)
      → lookup (is_at (value_cmp value)) (map (shown v l) ps) ≡ option_map (λ (p : ℕ × ℕ). l p.1) (lookup_pair against ps)
  unfolding IsStrictlySortedBy
  shown_found [] up = refl
  shown_found (p ∷ ps) up =
      ap (λ o. cond (is_eq o) (Some (l p.1)) (lookup (is_at (value_cmp value)) (map (shown v l) ps))) (value_cmp_total.antisymm value (v p.0))
      ∙ (elim (against p.0) as (λ o. against p.0 ≡ o
      → cond (is_eq (ordering_reverse o)) (Some (l p.1)) (lookup (is_at (value_cmp value)) (map (shown v l) ps))
      ≡ option_map (λ (q : ℕ × ℕ). l q.1) (choose o (lookup_pair against ps) (Some p) None)) [
        | Less ↦ λ is. shown_found ps up.1
        | Equal ↦ λ is. refl
        | Greater ↦ λ is. none_found ps (none_at (v p.0) ps (value_cmp_total.antisymm value (v p.0) ∙ ap ordering_reverse is) up.0)
      ]) refl

  -- a change of one value's pair, where all others read as they did
  module _ (w : ℕ → Value) (k : ℕ → Docs) where
    abbrev pub OthersSame : List (ℕ × ℕ) → Type 0
    OthersSame ps = AllByRecursion (λ q. shown w k q ≡ shown v l q) (take_out against ps)

    pub shown_put : (p : ℕ × ℕ) (docs : Docs) → shown w k p ≡ (value, docs) → (ps : List (ℕ × ℕ)) → OthersSame ps
        → map (shown w k) (put against p ps) ≡ insert_entry value_cmp (map (shown v l) ps) value docs
    shown_put p docs at [] same = ap (λ e. e ∷ []) at
    shown_put p docs at (q ∷ ps) same =
        (elim (against q.0) as (λ o. against q.0 ≡ o → AllByRecursion (λ x. shown w k x ≡ shown v l x) (choose o (q ∷ take_out against ps) ps (q ∷ ps))
        → map (shown w k) (choose o (q ∷ put against p ps) (p ∷ ps) (p ∷ q ∷ ps))
        ≡ match_ordering (ordering_reverse o) ((value, docs) ∷ map (shown v l) (q ∷ ps)) ((v q.0, docs) ∷ map (shown v l) ps) (shown v l q ∷ insert_entry value_cmp (map (shown v l) ps) value docs)) [
          | Less ↦ λ is h.
              ap (λ e. e ∷ map (shown w k) (put against p ps)) h.0 ∙ ap (λ es. shown v l q ∷ es) (shown_put p docs at ps h.1)
          | Equal ↦ λ is h.
              ap (λ e. e ∷ map (shown w k) ps) at ∙ ap (λ (x : Value). (x, docs) ∷ map (shown w k) ps) (sym (value_cmp_exact (v q.0) value is))
              ∙ ap (λ es. (v q.0, docs) ∷ es) (shown_same v w l k ps h)
          | Greater ↦ λ is h.
              ap (λ e. e ∷ map (shown w k) (q ∷ ps)) at ∙ ap (λ es. (value, docs) ∷ es) (shown_same v w l k (q ∷ ps) h)
        ]) refl same
        ∙ ap (λ o. match_ordering o ((value, docs) ∷ map (shown v l) (q ∷ ps)) ((v q.0, docs) ∷ map (shown v l) ps) (shown v l q ∷ insert_entry value_cmp (map (shown v l) ps) value docs))
        (sym (value_cmp_total.antisymm value (v q.0)))

    pub shown_out : (ps : List (ℕ × ℕ)) → IsStrictlySortedBy value_cmp (map (λ p. v p.0) ps) → OthersSame ps
        → map (shown w k) (take_out against ps) ≡ remove_entry (is_at (value_cmp value)) (map (shown v l) ps)
    unfolding IsStrictlySortedBy
    shown_out [] up same = refl
    shown_out (q ∷ ps) up same =
        (elim (against q.0) as (λ o. against q.0 ≡ o → AllByRecursion (λ x. shown w k x ≡ shown v l x) (choose o (q ∷ take_out against ps) ps (q ∷ ps))
        → map (shown w k) (choose o (q ∷ take_out against ps) ps (q ∷ ps))
        ≡ cond (is_eq (ordering_reverse o)) (map (shown v l) ps) (shown v l q ∷ remove_entry (is_at (value_cmp value)) (map (shown v l) ps))) [
          | Less ↦ λ is h.
              ap (λ e. e ∷ map (shown w k) (take_out against ps)) h.0 ∙ ap (λ es. shown v l q ∷ es) (shown_out ps up.1 h.1)
          | Equal ↦ λ is h. shown_same v w l k ps h
          | Greater ↦ λ is h.
              shown_same v w l k (q ∷ ps) h
              ∙ ap (λ es. shown v l q ∷ es) (sym (none_gone ps (none_at (v q.0) ps (value_cmp_total.antisymm value (v q.0) ∙ ap ordering_reverse is) up.0)))
        ]) refl same
        ∙ ap (λ o. cond (is_eq o) (map (shown v l) ps) (shown v l q ∷ remove_entry (is_at (value_cmp value)) (map (shown v l) ps))) (sym (value_cmp_total.antisymm value (v q.0)))
