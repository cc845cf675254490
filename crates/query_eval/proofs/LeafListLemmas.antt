-- The documents of a list, by its form.
use Rattle.std.proofs.Common.{◌≡◌, ℕ, pos, zero, suc, ◌-◌, ◌<◌, ◌≤◌, List, [], ◌∷◌, length, map, refl, ap, subst, arith, nat_le}
use Rattle.std.specs.List.{AllByRecursion}
use Rattle.std.specs.Map.{keys_of}
use Rattle.std.proofs.lemmas.Bool.{cond-true, le-leb}
use Rattle.list_lemmas.proofs.Each.{AllByRecursion-left, AllByRecursion-right}
use Rattle.entry_ref.specs.Records.{Records}
use Rattle.tree_read.specs.Trees.{tree_pairs, root_level, root_least, IsRootNode}
use Rattle.image_format.proofs.ImageLemmas.{node_there}
use Rattle.image_format.specs.Postings.{vector, list_form, block_documents, IsBlock, IsPostingList}
use Rattle.image_format.specs.Words.{weight_in_bits}
use Rattle.image_format.specs.declared.TheConstants.{FIRST_VECTOR}
use Rattle.attr_types.specs.Lawful.{IsDocNumber}
use Rattle.index_model.specs.Postings.{HaveDocNumbers}
use Rattle.query_eval.specs.Blocks.{IsDocumentBlock, documents_of}
use Rattle.query_eval.proofs.BlockLemmas.{block_small, all_has}

pub tree_documents : (ps : List (ℕ × ℕ)) → HaveDocNumbers (map (λ p. (p.0, weight_in_bits p.1)) ps) → AllByRecursion (λ p. IsDocNumber p.0) ps
tree_documents [] all = tt
tree_documents (p ∷ ps) all = (all.0, tree_documents ps all.1)

pub tree_keys : (ps : List (ℕ × ℕ)) → keys_of ps ≡ keys_of (map (λ p. (p.0, weight_in_bits p.1)) ps)
tree_keys [] = refl
tree_keys (p ∷ ps) = ap (λ ks. p.0 ∷ ks) (tree_keys ps)

pub vector_numbers : (docs : List ℕ) → HaveDocNumbers (map (λ doc. (doc, pos 1)) docs) → AllByRecursion IsDocNumber docs
vector_numbers [] all = tt
vector_numbers (doc ∷ docs) all = (all.0, vector_numbers docs all.1)

pub vector_keys : (docs : List ℕ) → docs ≡ keys_of (map (λ doc. (doc, pos 1)) docs)
vector_keys [] = refl
vector_keys (doc ∷ docs) = ap (λ ks. doc ∷ ks) (vector_keys docs)

pub blocks_are : (m : Records) (ps : List (ℕ × ℕ)) → AllByRecursion (λ p. IsBlock p.0 (m p.1)) ps
    → AllByRecursion IsDocNumber (documents_of m ps) → AllByRecursion (IsDocumentBlock m) ps
blocks_are m [] blocks numbers = tt
blocks_are m (p ∷ ps) blocks numbers =
    let own = AllByRecursion-left IsDocNumber (block_documents p.0 (m p.1)) (documents_of m ps) numbers in (
      record {
        block = blocks.0;
        few = block_small p.0 (m p.1) blocks.0.some own;
        documents = all_has IsDocNumber (block_documents p.0 (m p.1)) own;
      },
      blocks_are m ps blocks.1 (AllByRecursion-right IsDocNumber (block_documents p.0 (m p.1)) (documents_of m ps) numbers),
    )

root_of_some : (m : Records) (root : ℕ) → (0 < root → IsRootNode m root) → 0 < length (tree_pairs m root) → 0 < length (m root)
root_of_some m zero node some = absurd (omega (arith, some))
root_of_some m (suc root) node some =
    node_there m (root_least (root_level m (suc root))) (root_level m (suc root)) (suc root) (node (omega arith))

-- a bit vector with documents has blocks
some_blocks : (m : Records) (ps : List (ℕ × ℕ)) → 0 < length (documents_of m ps) → 0 < length ps
some_blocks m [] some = absurd (omega (arith, some))
some_blocks m (p ∷ ps) some = omega arith

pub vector_root : (m : Records) (word : ℕ) → FIRST_VECTOR ≤ word → IsPostingList m (list_form word) → 0 < length (m (word - FIRST_VECTOR))
vector_root m word high list =
    let form : list_form word ≡ vector (word - FIRST_VECTOR) = cond-true (nat_le FIRST_VECTOR word) (vector (word - FIRST_VECTOR)) _ (le-leb FIRST_VECTOR word high) in
    let is = subst (IsPostingList m) form list in
    let many = is.1 in
    root_of_some m (word - FIRST_VECTOR) is.0.node (some_blocks m (tree_pairs m (word - FIRST_VECTOR)) (omega (arith, many)))
