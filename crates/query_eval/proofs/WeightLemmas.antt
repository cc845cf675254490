-- The weight of a document in a list, by the pair that is found.
use Rattle.std.proofs.Common.{◌≡◌, ◌/◌, ℕ, pos, Option, sym, ap, ◌∙◌, cond}
use Rattle.std.specs.Option.{option_map, unwrap_or}
use Rattle.std.specs.Ordering.{nat_cmp}
use Rattle.std.proofs.lemmas.Cmp.{nat_cmp_total}
use Rattle.entry_ref.specs.Records.{Records}
use Rattle.tree_read.specs.Trees.{tree_pairs, by_number, IsTree}
use Rattle.tree_read.specs.Pairs.{lookup_pair}
use Rattle.image_format.specs.Postings.{postings_at, tree, vector, vector_documents}
use Rattle.image_format.specs.Words.{weight_in_bits}
use Rattle.query_eval.specs.Weights.{weight_in_list}
use Rattle.query_eval.proofs.LookupLemmas.{pair_lookup, ones}
use Rattle.query_eval.proofs.VectorLemmas.{bit_in, vector_has}

module _ (m : Records) (root doc : ℕ) (is : IsTree nat_cmp by_number m root) (found : Option (ℕ × ℕ)) where
  pub tree_weight : found ≡ lookup_pair (λ k. nat_cmp k doc) (tree_pairs m root)
      → unwrap_or (option_map (λ (p : ℕ × ℕ). weight_in_bits p.1) found) (pos 0) ≡ weight_in_list doc (postings_at m (tree root))
  tree_weight at =
      ap (λ o. unwrap_or (option_map (λ (p : ℕ × ℕ). weight_in_bits p.1) o) (pos 0)) at
      ∙ ap (λ o. unwrap_or o (pos 0)) (sym (pair_lookup nat_cmp nat_cmp_total (λ k. k) weight_in_bits doc (tree_pairs m root) is.ascends))

  pub vector_weight : found ≡ lookup_pair (λ k. nat_cmp k (doc / 4096)) (tree_pairs m root)
      → cond (bit_in m doc found) (pos 1) (pos 0) ≡ weight_in_list doc (postings_at m (vector root))
  vector_weight at =
      ap (λ b. cond b (pos 1) (pos 0)) (ap (bit_in m doc) at ∙ sym (vector_has m doc (tree_pairs m root) is.ascends))
      ∙ sym (ones doc (vector_documents m root))
