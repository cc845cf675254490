-- Lists that are bit vectors, by the words of their blocks.
use Rattle.std.proofs.Common.{◌≡◌, ℕ, zero, suc, ◌+◌, ◌-◌, ◌*◌, ◌/◌, ◌%◌, ◌<◌, false, List, get_or, replicate, Some, None, refl, sym, ap, subst, ◌∙◌, arith, nat_le}
use Rattle.std.specs.List.{AllByRecursion}
use Rattle.std.specs.Map.{keys_of}
use Rattle.std.specs.Ordering.{nat_cmp}
use Rattle.std.proofs.lemmas.Bool.{cond-true, le-leb}
use Rattle.entry_ref.specs.Records.{Records}
use Rattle.tree_read.specs.Pairs.{lookup_pair}
use Rattle.tree_read.specs.Trees.{tree_pairs}
use Rattle.image_format.specs.Postings.{vector, list_form, postings_at, vector_documents, IsPostingList}
use Rattle.image_format.specs.declared.TheConstants.{FIRST_VECTOR}
use Rattle.attr_types.specs.Lawful.{IsDocNumber}
use Rattle.index_model.proofs.BitLemmas.{no_bits}
use Rattle.index_model.specs.Postings.{HaveDocNumbers}
use Rattle.index_model.specs.Sets.{has, in_words}
use Rattle.query_eval.specs.Blocks.{IsDocumentBlock}
use Rattle.query_eval.specs.Lists.{list_has, IsVectorWord}
use Rattle.query_eval.proofs.LeafListLemmas.{blocks_are, vector_numbers, vector_keys}
use Rattle.query_eval.proofs.VectorLemmas.{bit_in, vector_has}

-- words of zeros have no document
abbrev zeros : ℕ → List ℕ
zeros n = replicate n 0

zero_at : (n i : ℕ) → get_or (zeros n) i 0 ≡ 0
zero_at zero i = refl
zero_at (suc n) zero = refl
zero_at (suc n) (suc i) = zero_at n i

pub zero_bits : (n i : ℕ) → in_words (zeros n) i ≡ false
zero_bits n i = no_bits (zeros n) i (zero_at n (i / 64))

module _ (m : Records) (list root : ℕ) (is : IsVectorWord m list) (at : root + FIRST_VECTOR ≡ list) where
  form : list_form list ≡ vector root
  form =
      cond-true (nat_le FIRST_VECTOR list) (vector (list - FIRST_VECTOR)) _ (le-leb FIRST_VECTOR list is.vector)
      ∙ ap vector (let same : list - FIRST_VECTOR ≡ root = omega (arith, at) in same)

  pub vector_form : IsPostingList m (vector root)
  vector_form = subst (IsPostingList m) form is.word.0

  numbers : AllByRecursion IsDocNumber (vector_documents m root)
  numbers = vector_numbers (vector_documents m root) (subst (λ f. HaveDocNumbers (postings_at m f)) form is.word.1)

  pub vector_blocks : AllByRecursion (IsDocumentBlock m) (tree_pairs m root)
  vector_blocks = blocks_are m (tree_pairs m root) vector_form.2 numbers

  pub has_vector : (doc : ℕ) → list_has m list doc ≡ has (vector_documents m root) doc
  has_vector doc =
      ap (λ f. has (keys_of (postings_at m f)) doc) form ∙ ap (λ (ds : List ℕ). has ds doc) (sym (vector_keys (vector_documents m root)))

  module _ (block i : ℕ) (below : i < 4096) where
    found_bit : list_has m list (4096 * block + i) ≡ bit_in m (4096 * block + i) (lookup_pair (λ k. nat_cmp k block) (tree_pairs m root))
    found_bit =
        let own : (4096 * block + i) / 4096 ≡ block = omega (arith, below) in
        has_vector (4096 * block + i) ∙ vector_has m (4096 * block + i) (tree_pairs m root) vector_form.0.ascends
        ∙ ap (λ b. bit_in m (4096 * block + i) (lookup_pair (λ k. nat_cmp k b) (tree_pairs m root))) own

    pub bit_there : (p : ℕ × ℕ) → Some p ≡ lookup_pair (λ k. nat_cmp k block) (tree_pairs m root)
        → in_words (m p.1) i ≡ list_has m list (4096 * block + i)
    bit_there p found =
        let place : (4096 * block + i) % 4096 ≡ i = omega (arith, below) in
        sym (found_bit ∙ ap (bit_in m (4096 * block + i)) (sym found) ∙ ap (in_words (m p.1)) place)

    pub bit_lacking : None ≡ lookup_pair (λ k. nat_cmp k block) (tree_pairs m root) → false ≡ list_has m list (4096 * block + i)
    bit_lacking none = sym (found_bit ∙ ap (bit_in m (4096 * block + i)) (sym none))
