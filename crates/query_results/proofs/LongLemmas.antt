-- The whole numbers of documents, and documents without one.
use Rattle.std.proofs.Common.{◌≡◌, ◌<◌, ◌≤◌, ◌+◌, ℕ, ℤ, pos, true, false, List, [], ◌∷◌, length, map, take, drop, replicate, get_or, slice_set, Option, None, Some, refl, sym, ap, ap₂, subst, ◌∙◌, cond, arith, ◌++◌}
use Rattle.std.proofs.lemmas.List.{at_drop_more, get_or-map, length-map, take_all, take_more, take_more_set}
use Rattle.std.proofs.lemmas.Map.Lookups.{exact_unsigned}
use Rattle.std.specs.BTreeMap.{is_at}
use Rattle.std.specs.List.{cons_option, filter_map, AllByRecursion}
use Rattle.std.specs.Map.{lookup}
use Rattle.std.specs.Option.{option_and_then, unwrap_or}
use Rattle.std.specs.Ordering.{is_eq, nat_cmp}
use Rattle.std.specs.declared.cmp.Ordering.{Ordering}
use Rattle.std.specs.declared.cmp.Ordering.TheVariants.{Less, Equal, Greater}
use Rattle.entry_ref.specs.Records.{Records}
use Rattle.tree_read.specs.Trees.{tree_pairs}
use Rattle.attr_types.specs.Lawful.{IsDocNumber}
use Rattle.attr_types.specs.declared.kind.Kind.{Kind}
use Rattle.attr_types.specs.declared.kind.ValueType.{ValueType}
use Rattle.attr_types.specs.declared.kind.ValueType.TheVariants.{Text}
use Rattle.image_format.specs.Documents.{column_at, items_at, weighted}
use Rattle.index_model.specs.Columns.{items_of}
use Rattle.doc_vector.specs.Documents.{IsDocumentPair}
use Rattle.attr_field.specs.Documents.{IsDocuments}
use Rattle.attr_field.specs.Items.{item_of}
use Rattle.result_model.specs.Totals.{long_of}
use Rattle.result_model.specs.Values.{first_value}
use Rattle.query_results.specs.Longs.{presence}

-- ---- a number that is none of a document

equal_of : (r : Ordering) → is_eq r ≡ true → r ≡ Equal
equal_of Less is = cc
equal_of Equal is = refl
equal_of Greater is = cc

module _ (kind : Kind) (type : ValueType) (m : Records) (doc : ℕ) where
  absent_in : (ps : List (ℕ × ℕ)) → (IsDocNumber doc → ⊥) → AllByRecursion IsDocumentPair ps → items_of (map (λ p. (p.0, items_at kind type m p.1)) ps) doc ≡ []
  absent_in [] out all = refl
  absent_in (p ∷ ps) out all =
      (elim (is_eq (nat_cmp doc p.0)) as (λ b. is_eq (nat_cmp doc p.0) ≡ b
      → unwrap_or (cond b (Some (items_at kind type m p.1)) (lookup (is_at (nat_cmp doc)) (map (λ q. (q.0, items_at kind type m q.1)) ps))) [] ≡ []) [
        | true ↦ λ is. absurd (out (subst IsDocNumber (sym (exact_unsigned doc p.0 (equal_of (nat_cmp doc p.0) is))) all.0.document))
        | false ↦ λ is. absent_in ps out all.1
      ]) refl

  pub absent : (documents : ℕ) → IsDocuments kind type m documents → (IsDocNumber doc → ⊥) → option_and_then long_of (first_value (items_of (column_at kind type m documents) doc)) ≡ None
  absent documents is out = ap (λ items. option_and_then long_of (first_value items)) (absent_in (tree_pairs m documents) out is.map_is.pairs)

-- ---- texts are no numbers

module _ (kind : Kind) (m : Records) where
  first_text : (es : List (ℕ × ℤ)) → option_and_then long_of (first_value (map (item_of Text m) es)) ≡ None
  first_text [] = refl
  first_text (e ∷ es) = refl

  text_in : (ps : List (ℕ × ℕ)) (doc : ℕ) → option_and_then long_of (first_value (items_of (map (λ p. (p.0, items_at kind Text m p.1)) ps) doc)) ≡ None
  text_in [] doc = refl
  text_in (p ∷ ps) doc =
      elim (is_eq (nat_cmp doc p.0)) as (λ b. option_and_then long_of (first_value
      (unwrap_or (cond b (Some (items_at kind Text m p.1)) (lookup (is_at (nat_cmp doc)) (map (λ q. (q.0, items_at kind Text m q.1)) ps))) [])) ≡ None)
      [ true ↦ first_text (weighted kind p.1 (m p.1)) | false ↦ text_in ps doc ]

  pub no_number : (type : ValueType) → type ≡ Text → (documents doc : ℕ) → option_and_then long_of (first_value (items_of (column_at kind type m documents) doc)) ≡ None
  no_number type is documents doc =
      subst (λ (t : ValueType). option_and_then long_of (first_value (items_of (column_at kind t m documents) doc)) ≡ None) (sym is) (text_in (tree_pairs m documents) doc)

module _ (f : ℕ → Option ℤ) (none : (n : ℕ) → f n ≡ None) where
  pub no_numbers : (docs : List ℕ) → map (λ n. unwrap_or (f n) (pos 0)) docs ≡ replicate (length docs) (pos 0)
  no_numbers [] = refl
  no_numbers (doc ∷ docs) = ap₂ (λ (x : ℤ) (xs : List ℤ). x ∷ xs) (ap (λ (o : Option ℤ). unwrap_or o (pos 0)) (none doc)) (no_numbers docs)

  pub none_present : (docs : List ℕ) → map (λ n. presence (f n)) docs ≡ replicate (length docs) 0
  none_present [] = refl
  none_present (doc ∷ docs) = ap₂ (λ (x : ℕ) (xs : List ℕ). x ∷ xs) (ap presence (none doc)) (none_present docs)

  pub none_counted : (docs : List ℕ) → length (filter_map f docs) ≡ 0
  none_counted [] = refl
  none_counted (doc ∷ docs) = ap (λ (o : Option ℤ). length (cons_option o (filter_map f docs))) (none doc) ∙ none_counted docs

-- ---- lists that a loop writes

-- one more item of a mapped list is written
pub written_more : {B : Type 0} (f : ℕ → B) (docs : List ℕ) (into : List B) (i d : ℕ) (item : B) → i < length docs → i < length into → item ≡ f (get_or docs i d)
    → take i into ≡ take i (map f docs) → take (i + 1) (slice_set into i item) ≡ take (i + 1) (map f docs)
written_more {B} f docs into i d item below within is same =
    let long = length-map docs f in
    take_more_set into i item within
    ∙ ap (λ (xs : List B). xs ++ item ∷ []) same
    ∙ ap (λ (x : B). take i (map f docs) ++ x ∷ []) (is ∙ sym (get_or-map f docs i d item below))
    ∙ sym (take_more (map f docs) i item (omega (arith, long, below)))

-- all of it is written
pub written_all : {B : Type 0} (xs ys : List B) (i : ℕ) → length xs ≤ i → length ys ≤ i → take i xs ≡ take i ys → xs ≡ ys
written_all xs ys i x y same = sym (take_all i xs x) ∙ same ∙ take_all i ys y

counted : (o : Option ℤ) (rest : List ℤ) (found : ℕ) → found + presence o + length rest ≡ found + length (cons_option o rest)
counted None rest found = omega arith
counted (Some number) rest found = omega arith

-- one more document is counted if it has a number
pub counted_more : (f : ℕ → Option ℤ) (docs : List ℕ) (i d found new whole : ℕ) → i < length docs → new ≡ found + presence (f (get_or docs i d))
    → found + length (filter_map f (drop i docs)) ≡ whole → new + length (filter_map f (drop (i + 1) docs)) ≡ whole
counted_more f docs i d found new whole below is before =
    let rest = filter_map f (drop (i + 1) docs) in
    ap (λ (n : ℕ). n + length rest) is
    ∙ counted (f (get_or docs i d)) rest found
    ∙ sym (at_drop_more (λ (ds : List ℕ). found + length (filter_map f ds)) docs i d below)
    ∙ before

pub count_fits : (o : Option ℤ) (found one i : ℕ) → one ≡ presence o → found ≤ i → found + one ≤ i + 1
count_fits None found one i is few = omega arith
count_fits (Some number) found one i is few = omega arith
