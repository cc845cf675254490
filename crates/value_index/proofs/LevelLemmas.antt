-- No tree of a low index has more levels than it says.
use Rattle.std.proofs.Common.{◌≡◌, ℕ, ℤ, zero, suc, pos, ◌+◌, ◌*◌, ◌^◌, ◌<◌, ◌≤◌, List, [], ◌∷◌, length, Option, Some, None, option_map, inl, inr, refl, sym, subst, arith}
use Rattle.std.proofs.Math.Nat.{pow-le-pow_right}
use Rattle.std.proofs.lemmas.Bool.{cases_lt}
use Rattle.std.proofs.lemmas.List.{length-append, length-map}
use Rattle.std.specs.List.{flat_map, AllByRecursion}
use Rattle.std.specs.Option.{unwrap_or}
use Rattle.entry_ref.specs.Records.{Records}
use Rattle.tree_read.specs.Pairs.{lookup_pair}
use Rattle.tree_read.proofs.PairLemmas.{lookup-of_pair}
use Rattle.tree_read.specs.Nodes.{level_of}
use Rattle.tree_read.specs.Trees.{tree_pairs, IsRootNode}
use Rattle.tree_read.proofs.TreeLemmas.{many_pairs}
use Rattle.frozen_btree.specs.Changes.{levels}
use Rattle.image_format.specs.Postings.{ListForm, short, tree, vector, block_documents, vector_documents, index_of, list_form, postings_at, IsBlock, IsPostingList}
use Rattle.image_format.specs.Values.{stored_value}
use Rattle.image_format.specs.Words.{weight_in_bits}
use Rattle.attr_types.specs.Value.{type_of}
use Rattle.attr_types.specs.declared.kind.ValueType.{ValueType}
use Rattle.attr_types.specs.declared.value.Value.{Value}
use Rattle.enum_dictionary.specs.Dictionaries.{beside_value}
use Rattle.posting_store.specs.Lists.{form_levels, list_levels}
use Rattle.value_index.specs.Changes.{value_levels}
use Rattle.value_index.specs.Indexes.{IsIndex}
use Rattle.value_index.proofs.KeyLemmas.{list_found, pair_found}
use Rattle.value_index.specs.Counts.{IsLow}

-- a tree of more levels has more pairs
pub levels_low : (m : Records) (root most : ℕ) → (0 < root → IsRootNode m root) → 0 < most → length (tree_pairs m root) < 2 * 8 ^ most → levels m root ≤ most
levels_low m zero most node some few = omega arith
levels_low m (suc ref) most node some few = elim (cases_lt most (levels m (suc ref))) [
  | inl over ↦ absurd (
      let above : 0 < level_of (m (suc ref)) = omega arith in
      let high : most ≤ level_of (m (suc ref)) = omega arith in
      let many = many_pairs m (suc ref) (omega arith) (node (omega arith)) above in
      let more : 8 ^ most ≤ 8 ^ level_of (m (suc ref)) = pow-le-pow_right (omega arith) high in
      omega (arith, many, more, few))
  | inr low ↦ low
]

-- a bit vector has no more blocks than documents
blocks_few : (m : Records) (ps : List (ℕ × ℕ)) → AllByRecursion (λ p. IsBlock p.0 (m p.1)) ps → length ps ≤ length (flat_map (λ p. block_documents p.0 (m p.1)) ps)
blocks_few m [] blocks = omega arith
blocks_few m (p ∷ ps) blocks =
    let rest = blocks_few m ps blocks.1 in
    let some = blocks.0.some in
    let all : length (flat_map (λ (q : ℕ × ℕ). block_documents q.0 (m q.1)) (p ∷ ps)) ≡ length (block_documents p.0 (m p.1)) + length (flat_map (λ (q : ℕ × ℕ). block_documents q.0 (m q.1)) ps) =
    length-append (block_documents p.0 (m p.1)) (flat_map (λ (q : ℕ × ℕ). block_documents q.0 (m q.1)) ps) in
    omega (arith, rest, some, all)

form_low : (m : Records) (form : ListForm) (most : ℕ) → IsPostingList m form → 0 < most → length (postings_at m form) < 2 * 8 ^ most
    → form_levels m form ≤ most
form_low m (short ref) most list some few = omega arith
form_low m (tree root) most list some few =
    levels_low m root most list.0.node some (subst (λ n. n < 2 * 8 ^ most) (length-map (tree_pairs m root) (λ (p : ℕ × ℕ). (p.0, weight_in_bits p.1))) few)
form_low m (vector root) most list some few =
    let documents : length (vector_documents m root) < 2 * 8 ^ most = subst (λ n. n < 2 * 8 ^ most) (length-map (vector_documents m root) (λ (doc : ℕ). (doc, pos 1))) few in
    let blocks = blocks_few m (tree_pairs m root) list.2 in
    levels_low m root most list.0.node some (omega (arith, documents, blocks))

pub dictionary_low : (type : ValueType) (m : Records) (root most : ℕ) → IsIndex type m root → IsLow most (index_of type m root) → levels m root ≤ most
dictionary_low type m root most is low =
    levels_low m root most is.dictionary_is.tree_is.node low.some
    (subst (λ n. n < 2 * 8 ^ most) (length-map (tree_pairs m root) (λ (p : ℕ × ℕ). (stored_value type m p.0, postings_at m (list_form p.1)))) low.values)

module _ (value : Value) (m : Records) (root most : ℕ) (is : IsIndex (type_of value) m root) (low : IsLow most (index_of (type_of value) m root)) where
  of_pair : (o : Option (ℕ × ℕ)) → lookup_pair (beside_value value m) (tree_pairs m root) ≡ o → list_levels m (unwrap_or (option_map (λ (p : ℕ × ℕ). p.1) o) 0) ≤ most
  of_pair None none = omega arith
  of_pair (Some p) found =
      let pair = pair_found value m root is p found in
      form_low m (list_form p.1) most (pair.list_is.form pair.some) low.some
      (subst (λ (docs : List (ℕ × ℤ)). length docs < 2 * 8 ^ most) (list_found value m root is p found) (low.lists value))

  pub list_low : value_levels value m root ≤ most
  list_low = subst (λ (o : Option ℕ). list_levels m (unwrap_or o 0) ≤ most) (sym (lookup-of_pair (beside_value value m) (tree_pairs m root))) (of_pair (lookup_pair (beside_value value m) (tree_pairs m root)) refl)
