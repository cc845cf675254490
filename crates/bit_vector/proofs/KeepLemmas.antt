-- A change of a block leaves the other blocks.
use Rattle.std.proofs.Common.{◌≡◌, ℕ, List, [], ◌∷◌, ◌++◌, map, None, Some, inl, inr, sym, ap, subst, ◌∙◌, arith}
use Rattle.std.proofs.lemmas.Bool.{cases_eq}
use Rattle.std.proofs.lemmas.Cmp.{nat_cmp_total}
use Rattle.std.specs.declared.cmp.Ordering.TheVariants.{Less, Equal, Greater}
use Rattle.std.specs.Ordering.{nat_cmp}
use Rattle.entry_ref.specs.Records.{Records, Among}
use Rattle.tree_read.specs.Pairs.{choose, lookup, put, take_out}
use Rattle.tree_read.specs.Trees.{tree_nodes, tree_pairs}
use Rattle.tree_read.proofs.PairLemmas.{lookup-put}
use Rattle.doc_vector.proofs.DocumentLemmas.{same_number, other_number}
use Rattle.doc_vector.proofs.MapLemmas.{put_others, take_out_gone, take_out_others}
use Rattle.bit_vector.specs.Blocks.{beside_block}
use Rattle.bit_vector.specs.Keeps.{block_at, KeepsBlocks}
use Rattle.bit_vector.specs.Vectors.{vector_reach, IsVector}

pub some_is : (x y : ℕ) → Some x ≡ Some y → y ≡ x
some_is x y e = cc

-- a bit vector has the records of its blocks
pub block_among : (m : Records) (root k block : ℕ) → block_at m root k ≡ Some block → Among block (vector_reach m root)
block_among m root k block found = right (tree_nodes m root) (map (λ p. p.1) (tree_pairs m root)) (among (tree_pairs m root) found)
  where
    right : (xs ys : List ℕ) → Among block ys → Among block (xs ++ ys)
    right [] ys h = h
    right (x ∷ xs) ys h = inr (right xs ys h)

    among : (qs : List (ℕ × ℕ)) → lookup (beside_block k) qs ≡ Some block → Among block (map (λ p. p.1) qs)
    among [] h = absurd (grind (arith, h))
    among (q ∷ qs) h =
        (elim (nat_cmp q.0 k) as (λ o. choose o (lookup (beside_block k) qs) (Some q.1) None ≡ Some block → Among block (map (λ p. p.1) (q ∷ qs))) [
          | Less ↦ λ e. inr (among qs e)
          | Equal ↦ λ e. inl (some_is q.1 block e)
          | Greater ↦ λ e. absurd (grind (arith, e))
        ]) h

-- a block whose record the other has
abbrev pub KeepsOwn : Records → Records → ℕ → ℕ → Type 0
KeepsOwn m o root next = KeepsBlocks (λ r. Among r (vector_reach m root)) m o root next

module _ (m o : Records) (root next k : ℕ) where
  -- put in
  pub put_keeps : (ref : ℕ) → tree_pairs o next ≡ put (beside_block k) (k, ref) (tree_pairs m root) → (Among ref (vector_reach m root) → ⊥) → KeepsOwn m o root next
  put_keeps ref pairs apart = record { each = keeps }
    where
      here : block_at o next k ≡ Some ref
      here = ap (lookup (beside_block k)) pairs ∙ lookup-put (beside_block k) (k, ref) (tree_pairs m root) (same_number k)

      ref_is : (r : ℕ) → block_at o next k ≡ Some r → r ≡ ref
      ref_is r there = some_is ref r (sym here ∙ there)

      keeps : (j r : ℕ) → block_at o next j ≡ Some r → Among r (vector_reach m root) → block_at m root j ≡ Some r
      keeps j r there old = elim (cases_eq j k) [
        | inl e ↦ absurd (apart (subst (λ (x : ℕ). Among x (vector_reach m root)) (ref_is r (subst (λ (i : ℕ). block_at o next i ≡ Some r) e there)) old))
        | inr other ↦
            sym (ap (lookup (beside_block j)) pairs
            ∙ put_others nat_cmp nat_cmp_total (λ x. x) k j (other_number k j other) (k, ref) (tree_pairs m root) (same_number k)) ∙ there
      ]

  -- taken out
  pub out_keeps : IsVector m root → tree_pairs o next ≡ take_out (beside_block k) (tree_pairs m root) → KeepsOwn m o root next
  out_keeps is pairs = record { each = keeps }
    where
      gone : block_at o next k ≡ None
      gone = ap (lookup (beside_block k)) pairs ∙ take_out_gone nat_cmp nat_cmp_total (λ x. x) k (tree_pairs m root) is.tree_is.ascends

      none : (r : ℕ) → block_at o next k ≡ Some r → ⊥
      none r there = let e = sym gone ∙ there in grind (arith, e)

      keeps : (j r : ℕ) → block_at o next j ≡ Some r → Among r (vector_reach m root) → block_at m root j ≡ Some r
      keeps j r there old = elim (cases_eq j k) [
        | inl e ↦ absurd (none r (subst (λ (i : ℕ). block_at o next i ≡ Some r) e there))
        | inr other ↦
            sym (ap (lookup (beside_block j)) pairs
            ∙ take_out_others nat_cmp nat_cmp_total (λ x. x) k j (other_number k j other) (tree_pairs m root) is.tree_is.ascends) ∙ there
      ]
