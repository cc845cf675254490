-- How many documents an image has.
use Rattle.std.proofs.Common.{◌≡◌, ◌<◌, ◌+◌, ◌*◌, ◌^◌, ℕ, Bool, true, false, zero, suc, List, [], ◌∷◌, length, drop, refl, sym, ap, subst, ◌∙◌, Some, arith, cond, nat_le}
use Rattle.std.specs.Prelude.{slice_index}
use Rattle.std.specs.List.{AllByRecursion, find}
use Rattle.std.specs.Option.{unwrap_or}
use Rattle.std.proofs.lemmas.List.{length-map}
use Rattle.entry_ref.specs.Records.{Records}
use Rattle.tree_read.specs.Trees.{tree_pairs, IsRootNode}
use Rattle.attr_types.specs.declared.kind.Kind.{Kind}
use Rattle.attr_types.specs.declared.kind.ValueType.{ValueType}
use Rattle.index_model.specs.Columns.{Column}
use Rattle.image_format.specs.Documents.{column_at, items_at}
use Rattle.image_format.specs.Images.{root_words, table_of, attributes_from, IsRootRecord, IsLawfulImage}
use Rattle.image_format.specs.Shapes.{types_of_shape}
use Rattle.image_format.specs.Tables.{columns_at, table_of_columns, AreLawfulAttributes, HaveSameDocuments}
use Rattle.image_format.specs.Words.{classes, class_of}
use Rattle.image_format.proofs.ImageLemmas.{attributes_lawful, roots_there}
use Rattle.image_format.proofs.TableLemmas.{table_keys}

found_in : (p : ℕ → Bool) (xs : List ℕ) → AllByRecursion (λ x. 1 < x) xs → 1 < unwrap_or (find p xs) 1024
found_in p [] all = omega arith
found_in p (x ∷ xs) all = elim (p x) as (λ b. 1 < unwrap_or (cond b (Some x) (find p xs)) 1024) [ true ↦ all.0 | false ↦ found_in p xs all.1 ]

wide : (n : ℕ) → 1 < class_of n
wide n = found_in (nat_le n) classes
    (omega arith, (omega arith, (omega arith, (omega arith, (omega arith, (omega arith, (omega arith, (omega arith, (omega arith, (omega arith, tt))))))))))

-- the word of the first document tree
pub record HasDocuments (shape : ℕ) (m : Records) (root : ℕ) : Type 0 where
  pub words : 0 < root → 1 < length (m root)
  pub small : slice_index (root_words m root) 1 < 2 ^ 32
  pub node : 0 < slice_index (root_words m root) 1 → IsRootNode m (slice_index (root_words m root) 1)
  pub count : length (tree_pairs m (slice_index (root_words m root) 1)) ≡ length (table_of shape m root)

same_length : (column : Column) (rest : List Column) → HaveSameDocuments (column ∷ rest) → length column ≡ length (table_of_columns (column ∷ rest))
same_length column rest same =
    sym (length-map column (λ e. e.0)) ∙ sym (ap length (table_keys column rest same)) ∙ length-map (table_of_columns (column ∷ rest)) (λ e. e.0)

module _ (m : Records) (references : (r : ℕ) → 0 < length (m r) → r < 2 ^ 32) (ws : List ℕ) where
  fits : (r : ℕ) → (0 < r → 0 < length (m r)) → r < 2 ^ 32
  fits zero there = omega arith
  fits (suc r) there = references (suc r) (there (omega arith))

  first_tree : (ts : List (Kind × ValueType)) → AreLawfulAttributes m (attributes_from 0 ts ws) → (ts ≡ [] → slice_index ws 1 ≡ 0)
      → (slice_index ws 1 < 2 ^ 32) × (0 < slice_index ws 1 → IsRootNode m (slice_index ws 1))
      × (length (tree_pairs m (slice_index ws 1)) ≡ length (table_of_columns (columns_at m (attributes_from 0 ts ws))))
  first_tree [] all none =
      let zero_word = none refl in (
        omega (arith, zero_word),
        λ some. absurd (omega (arith, some, zero_word)),
        ap (λ r. length (tree_pairs m r)) zero_word,
      )
  first_tree (t ∷ ts) all none =
      let documents = slice_index ws 1 in
      let own = all.each.0 in (
        fits documents (roots_there t.0 t.1 m documents (slice_index ws 2) own).0,
        own.forms.documents_tree.node,
        sym (length-map (tree_pairs m documents) (λ p. (p.0, items_at t.0 t.1 m p.1)))
            ∙ same_length (column_at t.0 t.1 m documents) (columns_at m (attributes_from 1 ts ws)) all.documents,
      )

  zero_word : (n : ℕ) → IsRootRecord n ws → n ≡ 0 → slice_index ws 1 ≡ 0
  zero_word n is none = told ws (is.size ∙ ap (λ k. class_of (1 + 2 * k)) none) (subst (λ k. AllByRecursion (λ w. w ≡ 0) (drop (1 + 2 * k) ws)) none is.zeros)
    where
      told : (ws : List ℕ) → length ws ≡ 2 → AllByRecursion (λ w. w ≡ 0) (drop 1 ws) → slice_index ws 1 ≡ 0
      told [] size zeros = refl
      told (a ∷ []) size zeros = refl
      told (a ∷ b ∷ rest) size zeros = zeros.0

pub has_documents : (shape : ℕ) (m : Records) (root : ℕ) → ((r : ℕ) → 0 < length (m r) → r < 2 ^ 32) → IsLawfulImage shape m root → HasDocuments shape m root
has_documents shape m zero references lawful =
    let tree = first_tree m references [] (types_of_shape shape) (attributes_lawful shape m zero lawful) (λ none. refl) in
    record { words = λ some. absurd (omega arith); small = tree.0; node = tree.1; count = tree.2 }
has_documents shape m (suc root) references lawful =
    let size = lawful.root_record.size in
    let enough = wide (1 + 2 * length (types_of_shape shape)) in
    let tree = first_tree m references (m (suc root)) (types_of_shape shape) (attributes_lawful shape m (suc root) lawful)
    (λ none. zero_word m references (m (suc root)) (length (types_of_shape shape)) lawful.root_record (ap length none)) in
    record { words = λ some. omega (arith, size, enough); small = tree.0; node = tree.1; count = tree.2 }
