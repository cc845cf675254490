-- A document of a bit vector is that of its block's bit.
use Rattle.std.proofs.Common.{◌≡◌, ◌≢◌, ◌/◌, ◌%◌, ℕ, Bool, true, false, ◌&&◌, ◌||◌, List, [], ◌∷◌, ◌++◌, map, Option, Some, None, nat_eq, refl, sym, ap, ap₂, ◌∙◌, arith}
use Rattle.std.specs.List.{AllByRecursion}
use Rattle.std.specs.List.Sorted.{IsStrictlySortedBy}
use Rattle.std.specs.Ordering.{nat_cmp, ordering_reverse}
use Rattle.std.specs.declared.cmp.Ordering.{Ordering}
use Rattle.std.specs.declared.cmp.Ordering.TheVariants.{Less, Equal, Greater}
use Rattle.std.proofs.lemmas.Bool.{ne_eqb, eq-eqb}
use Rattle.std.proofs.lemmas.Cmp.{tied_itself, nat_cmp_total}
use Rattle.std.proofs.lemmas.Map.Lookups.{exact_unsigned}
use Rattle.entry_ref.specs.Records.{Records}
use Rattle.tree_read.specs.Pairs.{choose, lookup_pair}
use Rattle.image_format.proofs.BlockLemmas.{block_has_bits}
use Rattle.image_format.specs.Postings.{block_documents}
use Rattle.index_model.specs.Sets.{has, in_words}
use Rattle.query_eval.specs.Blocks.{documents_of}

equal_not : (o : Ordering) → o ≡ Equal → o ≢ Greater
equal_not o e g = absurd (grind (arith, e, g))

less_not : (o : Ordering) → o ≡ Less → o ≢ Greater
less_not o e g = absurd (grind (arith, e, g))

pub has_append : (xs ys : List ℕ) (doc : ℕ) → has (xs ++ ys) doc ≡ (has xs doc || has ys doc)
has_append [] ys doc = refl
has_append (x ∷ xs) ys doc = ap (λ b. nat_eq doc x || b) (has_append xs ys doc) ∙ or_assoc (nat_eq doc x) _ _
  where
    or_assoc : (a b c : Bool) → (a || (b || c)) ≡ ((a || b) || c)
    or_assoc true b c = refl
    or_assoc false b c = refl

module _ (m : Records) (doc : ℕ) where
  abbrev pub bit_in : Option (ℕ × ℕ) → Bool
  bit_in None = false
  bit_in (Some p) = in_words (m p.1) (doc % 4096)

  abbrev beside : ℕ → Ordering
  beside k = nat_cmp k (doc / 4096)

  in_block : (p : ℕ × ℕ) → beside p.0 ≡ Equal → has (block_documents p.0 (m p.1)) doc ≡ in_words (m p.1) (doc % 4096)
  in_block p is = block_has_bits p.0 doc (m p.1) ∙ ap (λ b. b && in_words (m p.1) (doc % 4096)) (eq-eqb (doc / 4096) p.0 (sym (exact_unsigned p.0 (doc / 4096) is)))

  out_of_block : (p : ℕ × ℕ) → (doc / 4096 ≡ p.0 → ⊥) → has (block_documents p.0 (m p.1)) doc ≡ false
  out_of_block p out = block_has_bits p.0 doc (m p.1) ∙ ap (λ b. b && in_words (m p.1) (doc % 4096)) (ne_eqb (doc / 4096) p.0 out)

  apart_less : (k : ℕ) → beside k ≡ Less → doc / 4096 ≡ k → ⊥
  apart_less k is same = let e : Equal ≡ Less = sym (tied_itself nat_cmp_total (doc / 4096)) ∙ ap (λ n. nat_cmp n (doc / 4096)) same ∙ is in absurd (grind (arith, e))

  apart_more : (k : ℕ) → beside k ≡ Greater → doc / 4096 ≡ k → ⊥
  apart_more k is same = let e : Equal ≡ Greater = sym (tied_itself nat_cmp_total (doc / 4096)) ∙ ap (λ n. nat_cmp n (doc / 4096)) same ∙ is in absurd (grind (arith, e))

  -- behind a block that is not below are none of the document
  none_behind : (a : ℕ) (ps : List (ℕ × ℕ)) → nat_cmp (doc / 4096) a ≢ Greater → AllByRecursion (λ k. nat_cmp a k ≡ Less) (map (λ p. p.0) ps)
      → has (documents_of m ps) doc ≡ false
  none_behind a [] low all = refl
  none_behind a (p ∷ ps) low all =
      has_append (block_documents p.0 (m p.1)) (documents_of m ps) doc
      ∙ ap₂ (λ b c. b || c) (out_of_block p (above (nat_cmp (doc / 4096) a) refl)) (none_behind a ps low all.1)
    where
      above : (r : Ordering) → nat_cmp (doc / 4096) a ≡ r → doc / 4096 ≡ p.0 → ⊥
      above Less is same = let e : Equal ≡ Less = sym (tied_itself nat_cmp_total (doc / 4096)) ∙ ap (nat_cmp (doc / 4096)) same ∙ nat_cmp_total.trans (doc / 4096) a p.0 is all.0 in absurd (grind (arith, e))
      above Equal is same = let e : Equal ≡ Less = sym (tied_itself nat_cmp_total (doc / 4096)) ∙ ap (nat_cmp (doc / 4096)) same ∙ nat_cmp_total.congr (doc / 4096) a p.0 is ∙ all.0 in absurd (grind (arith, e))
      above Greater is same = absurd (low is)

  or_false : (b : Bool) → (b || false) ≡ b
  or_false true = refl
  or_false false = refl

  pub vector_has : (ps : List (ℕ × ℕ)) → IsStrictlySortedBy nat_cmp (map (λ p. p.0) ps) → has (documents_of m ps) doc ≡ bit_in (lookup_pair beside ps)
  unfolding IsStrictlySortedBy
  vector_has [] up = refl
  vector_has (p ∷ ps) up =
      has_append (block_documents p.0 (m p.1)) (documents_of m ps) doc
      ∙ (elim (beside p.0) as (λ r. beside p.0 ≡ r
      → (has (block_documents p.0 (m p.1)) doc || has (documents_of m ps) doc) ≡ bit_in (choose r (lookup_pair beside ps) (Some p) None)) [
        | Less ↦ λ is. ap (λ b. b || has (documents_of m ps) doc) (out_of_block p (apart_less p.0 is)) ∙ vector_has ps up.1
        | Equal ↦ λ is. ap₂ (λ b c. b || c) (in_block p is) (none_behind p.0 ps (equal_not (nat_cmp (doc / 4096) p.0) (nat_cmp_total.antisymm (doc / 4096) p.0 ∙ ap ordering_reverse is)) up.0) ∙ or_false _
        | Greater ↦ λ is. ap₂ (λ b c. b || c) (out_of_block p (apart_more p.0 is)) (none_behind p.0 ps (less_not (nat_cmp (doc / 4096) p.0) (nat_cmp_total.antisymm (doc / 4096) p.0 ∙ ap ordering_reverse is)) up.0)
      ]) refl
