-- The items of a document, as the words of its record.
use Rattle.std.proofs.Common.{◌≡◌, ℕ, zero, suc, ◌<◌, ℤ, true, List, [], ◌∷◌, ◌++◌, get_or, length, map, take, Option, None, Some, option_map, refl, sym, ap, subst, ◌∙◌, arith}
use Rattle.std.specs.BTreeMap.{is_at}
use Rattle.std.specs.declared.cmp.Ordering.{Ordering}
use Rattle.std.specs.declared.cmp.Ordering.TheVariants.{Less, Equal, Greater}
use Rattle.std.specs.Map.{lookup as lookup_in}
use Rattle.std.specs.Ordering.{nat_cmp}
use Rattle.tree_read.specs.Trees.{tree_pairs}
use Rattle.tree_read.specs.Pairs.{choose, lookup}
use Rattle.doc_vector.specs.Documents.{beside_document}
use Rattle.std.specs.List.{AllByRecursion}
use Rattle.list_lemmas.proofs.Options.{same_Some}
use Rattle.entry_ref.specs.Records.{Records}
use Rattle.array_store.proofs.ArrayLemmas.{list_array}
use Rattle.array_store.specs.Arrays.{IsArray}
use Rattle.image_format.specs.Documents.{weighted, items_at, column_at, AreItemRecords}
use Rattle.image_format.specs.Values.{IsValueRecord}
use Rattle.image_format.specs.Words.{stored_items}
use Rattle.attr_types.specs.Change.{most_items}
use Rattle.attr_types.specs.declared.kind.Kind.{Kind}
use Rattle.attr_types.specs.declared.kind.Kind.TheVariants.{Single, Array, WeightedSet}
use Rattle.attr_types.specs.declared.kind.ValueType.{ValueType}
use Rattle.attr_field.specs.Documents.{AreItemsAt, IsDocuments}
use Rattle.attr_field.proofs.PairLemmas.{columned-found}
use Rattle.attr_field.specs.Items.{has_list, item_of, word_entry}

-- one word more
pub map_more : {B : Type 0} (f : ℕ → B) (ws : List ℕ) (i : ℕ) → i < length ws → map f (take (suc i) ws) ≡ map f (take i ws) ++ f (get_or ws i 0) ∷ []
map_more f [] i below = absurd (omega arith)
map_more f (w ∷ ws) zero below = refl
map_more f (w ∷ ws) (suc i) below = ap (λ xs. f w ∷ xs) (map_more f ws i (omega arith))

all_mapped : {A B : Type 0} (P : B → Type 0) (f : A → B) (xs : List A) → AllByRecursion P (map f xs) → AllByRecursion (λ x. P (f x)) xs
all_mapped P f [] all = tt
all_mapped P f (x ∷ xs) all = (all.0, all_mapped P f xs all.1)

pub mapped_twice : {A B C : Type 0} (h : B → C) (f : A → B) (xs : List A) → map (λ x. h (f x)) xs ≡ map h (map f xs)
mapped_twice h f [] = refl
mapped_twice h f (x ∷ xs) = ap (λ ys. h (f x) ∷ ys) (mapped_twice h f xs)

module _ (kind : Kind) (type : ValueType) (m : Records) where
  pub array_at : (ref : ℕ) → has_list kind ≡ true → 0 < ref → AreItemRecords kind type m ref → IsArray (m ref)
  array_at ref has some are = told kind ref has some are
    where
      told : (k : Kind) (q : ℕ) → has_list k ≡ true → 0 < q → AreItemRecords k type m q → IsArray (m q)
      told k zero has some are = absurd (omega arith)
      told Single (suc q) has some are = cc
      told Array (suc q) has some are = list_array most_items (m (suc q)) (omega arith) are.0
      told WeightedSet (suc q) has some are = list_array most_items (m (suc q)) (omega arith) are.0

  pub words_are : (ref : ℕ) → has_list kind ≡ true → 0 < ref → weighted kind ref (m ref) ≡ map (word_entry kind) (stored_items (m ref))
  words_are ref has some = told kind ref has some
    where
      told : (k : Kind) (q : ℕ) → has_list k ≡ true → 0 < q → weighted k q (m q) ≡ map (word_entry k) (stored_items (m q))
      told k zero has some = absurd (omega arith)
      told Single (suc q) has some = cc
      told Array (suc q) has some = refl
      told WeightedSet (suc q) has some = refl

  pub values_at : (ref : ℕ) → has_list kind ≡ true → 0 < ref → AreItemRecords kind type m ref → AllByRecursion (λ word. IsValueRecord type (m (word_entry kind word).0)) (stored_items (m ref))
  values_at ref has some are =
      all_mapped (λ (e : ℕ × ℤ). IsValueRecord type (m e.0)) (word_entry kind) (stored_items (m ref))
      (subst (AllByRecursion (λ (e : ℕ × ℤ). IsValueRecord type (m e.0))) (words_are ref has some) are.1)

  pub items_are : (ref : ℕ) → has_list kind ≡ true → 0 < ref → map (λ word. item_of type m (word_entry kind word)) (stored_items (m ref)) ≡ items_at kind type m ref
  items_are ref has some =
      mapped_twice (item_of type m) (word_entry kind) (stored_items (m ref)) ∙ ap (map (item_of type m)) (sym (words_are ref has some))

-- a document that is found in the map
all_found : (P : ℕ → Type 0) (c : ℕ → Ordering) (ps : List (ℕ × ℕ)) → AllByRecursion (λ p. P p.1) ps → (ref : ℕ) → lookup c ps ≡ Some ref → P ref
all_found P c [] all ref is = absurd (grind (arith, is))
all_found P c (p ∷ ps) all ref is =
    elim (c p.0) as (λ o. choose o (lookup c ps) (Some p.1) None ≡ Some ref → P ref) [
      | Less ↦ λ h. all_found P c ps all.1 ref h
      | Equal ↦ λ h. subst P (same_Some p.1 ref h) all.0
      | Greater ↦ λ h. absurd (grind (arith, h))
    ] is

module _ (kind : Kind) (type : ValueType) (m : Records) (root doc : ℕ) (is : IsDocuments kind type m root) where
  pub found_records : (ref : ℕ) → lookup (beside_document doc) (tree_pairs m root) ≡ Some ref → AreItemRecords kind type m ref
  found_records ref found = (all_found (AreItemsAt kind type m) (beside_document doc) (tree_pairs m root) is.items ref found).records

  pub found_items : (o : Option ℕ) → lookup (beside_document doc) (tree_pairs m root) ≡ o → option_map (items_at kind type m) o ≡ lookup_in (is_at (nat_cmp doc)) (column_at kind type m root)
  found_items o found = ap (option_map (items_at kind type m)) (sym found) ∙ columned-found (items_at kind type m) doc (tree_pairs m root) is.map_is.tree_is.ascends
