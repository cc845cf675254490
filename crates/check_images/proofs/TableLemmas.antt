-- The attributes that a root record names, one after another.
use Rattle.std.proofs.Common.{◌≡◌, ◌≢◌, ℕ, zero, suc, ◌+◌, ◌*◌, ◌<◌, ◌≤◌, ◌-◌, List, [], ◌∷◌, ◌++◌, length, map, take, drop, refl, sym, ap, ap₂, subst, ◌∙◌, arith}
use Rattle.std.specs.Prelude.{slice_index, slice_index_or}
use Rattle.std.specs.List.{zip, AllByRecursion}
use Rattle.std.proofs.Math.Seq.{take-length}
use Rattle.std.proofs.lemmas.List.{take_rest, append_assoc, append-nil, nil_from_length}
use Rattle.std.specs.Map.{keys_of}
use Rattle.entry_ref.specs.Records.{Records}
use Rattle.image_format.proofs.TableLemmas.{same_rest, table_keys}
use Rattle.image_format.specs.Attributes.{IsLawfulAttribute}
use Rattle.image_format.specs.Documents.{column_at}
use Rattle.image_format.specs.Images.{attributes_from}
use Rattle.image_format.specs.Shapes.{types_of}
use Rattle.image_format.specs.Tables.{AttributeTrees, table_of_columns, columns_at, AreLawfulAttributes}
use Rattle.index_model.specs.Columns.{Column, table_of_column}
use Rattle.attr_types.specs.declared.field.Field.{Field}

-- a slice that is taken apart
pub taken_apart : {X : Type 0} (xs : List X) (x : X) → 1 ≤ length xs → x ≡ slice_index_or xs 0 x → xs ≡ x ∷ take (length xs - 1) (drop 1 xs)
taken_apart [] x some is = absurd (omega arith)
taken_apart (y ∷ xs) x some is = ap (λ z. z ∷ xs) (sym is) ∙ ap (λ zs. x ∷ zs) (sym (take_rest (y ∷ xs) 1))

-- ---- attributes with one more in front
module _ (m : Records) (a : AttributeTrees) where
  front_lawful : (others : List AttributeTrees) → IsLawfulAttribute a.kind a.type m a.documents a.dictionary → AreLawfulAttributes m others
      → (0 < length others → keys_of (table_of_columns (columns_at m others)) ≡ keys_of (column_at a.kind a.type m a.documents)) → AreLawfulAttributes m (a ∷ others)
  front_lawful [] lawful good same = record { each = (lawful, tt); documents = tt }
  front_lawful (b ∷ others) lawful good same =
      let second : Column = column_at b.kind b.type m b.documents in
      let keys : keys_of second ≡ keys_of (column_at a.kind a.type m a.documents) = sym (table_keys second (columns_at m others) good.documents) ∙ same (omega arith) in
      record { each = (lawful, good.each); documents = (keys, all (columns_at m others) keys good.documents) }
    where
      all : (rest : List Column) → keys_of (column_at b.kind b.type m b.documents) ≡ keys_of (column_at a.kind a.type m a.documents)
          → AllByRecursion (λ (other : Column). keys_of other ≡ keys_of (column_at b.kind b.type m b.documents)) rest
          → AllByRecursion (λ (other : Column). keys_of other ≡ keys_of (column_at a.kind a.type m a.documents)) rest
      all [] keys each = tt
      all (other ∷ rest) keys each = (each.0 ∙ keys, all rest keys each.1)

  rest_lawful : (others : List AttributeTrees) → AreLawfulAttributes m (a ∷ others) → AreLawfulAttributes m others
  rest_lawful [] good = record { each = tt; documents = tt }
  rest_lawful (b ∷ others) good = record {
    each = good.each.1;
    documents = same_rest (column_at a.kind a.type m a.documents) (column_at b.kind b.type m b.documents) (columns_at m others) good.documents;
  }

  rest_keys : (others : List AttributeTrees) → 0 < length others → AreLawfulAttributes m (a ∷ others)
      → keys_of (table_of_columns (columns_at m others)) ≡ keys_of (column_at a.kind a.type m a.documents)
  rest_keys [] some good = absurd (omega arith)
  rest_keys (b ∷ others) some good =
      table_keys (column_at b.kind b.type m b.documents) (columns_at m others)
      (same_rest (column_at a.kind a.type m a.documents) (column_at b.kind b.type m b.documents) (columns_at m others) good.documents)
      ∙ good.documents.0

  front_table : (others : List AttributeTrees) → 0 < length others
      → table_of_columns (columns_at m (a ∷ others)) ≡ map (λ p. (p.0.0, p.0.1 ∷ p.1.1)) (zip (column_at a.kind a.type m a.documents) (table_of_columns (columns_at m others)))
  front_table [] some = absurd (omega arith)
  front_table (b ∷ others) some = refl

-- ---- the first field, and those behind it
module _ (m : Records) (words : List ℕ) (first next documents dictionary : ℕ) (field : Field) (fields rest : List Field) (is : fields ≡ field ∷ rest) (after : next ≡ first + 1)
    (d : documents ≡ slice_index words (1 + 2 * first)) (k : dictionary ≡ slice_index words (2 + 2 * first)) where
  whole : attributes_from first (types_of fields) words
      ≡ record { kind = field.kind; type = field.value; documents = documents; dictionary = dictionary } ∷ attributes_from next (types_of rest) words
  whole =
      ap (λ fs. attributes_from first (types_of fs) words) is
      ∙ ap₂ (λ n l. record { kind = field.kind; type = field.value; documents = n; dictionary = l } ∷ attributes_from (suc first) (types_of rest) words) (sym d) (sym k)
      ∙ ap (λ n. record { kind = field.kind; type = field.value; documents = documents; dictionary = dictionary } ∷ attributes_from n (types_of rest) words)
      (let same : suc first ≡ next = omega arith in same)

  size_from : (i : ℕ) (fs : List Field) → length (attributes_from i (types_of fs) words) ≡ length fs
  size_from i [] = refl
  size_from i (f ∷ fs) = ap suc (size_from (suc i) fs)

  pub none_behind : rest ≡ [] → AreLawfulAttributes m (attributes_from next (types_of rest) words)
  none_behind none = subst (λ fs. AreLawfulAttributes m (attributes_from next (types_of fs) words)) (sym none) (record { each = tt; documents = tt })

  pub fields_lawful : IsLawfulAttribute field.kind field.value m documents dictionary → AreLawfulAttributes m (attributes_from next (types_of rest) words)
      → (0 < length rest → keys_of (table_of_columns (columns_at m (attributes_from next (types_of rest) words))) ≡ keys_of (column_at field.kind field.value m documents))
      → AreLawfulAttributes m (attributes_from first (types_of fields) words)
  fields_lawful lawful good same =
      subst (AreLawfulAttributes m) (sym whole)
      (front_lawful m (record { kind = field.kind; type = field.value; documents = documents; dictionary = dictionary }) (attributes_from next (types_of rest) words) lawful good
      (λ some. same (subst (λ n. 0 < n) (size_from next rest) some)))

  pub first_field_lawful : AreLawfulAttributes m (attributes_from first (types_of fields) words) → IsLawfulAttribute field.kind field.value m documents dictionary
  first_field_lawful good = (subst (AreLawfulAttributes m) whole good).each.0

  pub other_fields_lawful : AreLawfulAttributes m (attributes_from first (types_of fields) words) → AreLawfulAttributes m (attributes_from next (types_of rest) words)
  other_fields_lawful good = rest_lawful m (record { kind = field.kind; type = field.value; documents = documents; dictionary = dictionary }) (attributes_from next (types_of rest) words)
      (subst (AreLawfulAttributes m) whole good)

  pub other_fields_keys : 0 < length rest → AreLawfulAttributes m (attributes_from first (types_of fields) words)
      → keys_of (table_of_columns (columns_at m (attributes_from next (types_of rest) words))) ≡ keys_of (column_at field.kind field.value m documents)
  other_fields_keys some good = rest_keys m (record { kind = field.kind; type = field.value; documents = documents; dictionary = dictionary }) (attributes_from next (types_of rest) words)
      (subst (λ n. 0 < n) (sym (size_from next rest)) some) (subst (AreLawfulAttributes m) whole good)

  pub one_table : rest ≡ [] → table_of_column (column_at field.kind field.value m documents) ≡ table_of_columns (columns_at m (attributes_from first (types_of fields) words))
  one_table none = sym (ap (λ list. table_of_columns (columns_at m list)) (whole
      ∙ ap (λ fs. record { kind = field.kind; type = field.value; documents = documents; dictionary = dictionary } ∷ attributes_from next (types_of fs) words) none))

  pub more_table : 0 < length rest → map (λ p. (p.0.0, p.0.1 ∷ p.1.1)) (zip (column_at field.kind field.value m documents) (table_of_columns (columns_at m (attributes_from next (types_of rest) words))))
      ≡ table_of_columns (columns_at m (attributes_from first (types_of fields) words))
  more_table some = sym (ap (λ list. table_of_columns (columns_at m list)) whole
      ∙ front_table m (record { kind = field.kind; type = field.value; documents = documents; dictionary = dictionary }) (attributes_from next (types_of rest) words) (subst (λ n. 0 < n) (sym (size_from next rest)) some))

-- ---- which documents there are, as a column and a table are gone through
take_keys : {B : Type 0} (column : List (ℕ × B)) (i : ℕ) (e : ℕ × B) → i < length column → e ≡ slice_index_or column i e
    → keys_of (take (suc i) column) ≡ keys_of (take i column) ++ e.0 ∷ []
take_keys [] i e below is = absurd (omega arith)
take_keys (x ∷ column) zero e below is = ap (λ k. k ∷ []) (ap (λ y. y.0) (sym is))
take_keys (x ∷ column) (suc i) e below is = ap (λ ks. x.0 ∷ ks) (take_keys column i e (omega arith) is)

split_keys : {B : Type 0} (column : List (ℕ × B)) (i : ℕ) (e : ℕ × B) → i < length column → e ≡ slice_index_or column i e
    → keys_of column ≡ keys_of (take i column) ++ e.0 ∷ keys_of (drop (suc i) column)
split_keys [] i e below is = absurd (omega arith)
split_keys (x ∷ column) zero e below is = ap (λ k. k ∷ keys_of column) (ap (λ y. y.0) (sym is))
split_keys (x ∷ column) (suc i) e below is = ap (λ ks. x.0 ∷ ks) (split_keys column i e (omega arith) is)

same_tails : (ks xs ys : List ℕ) → ks ++ xs ≡ ks ++ ys → xs ≡ ys
same_tails [] xs ys same = same
same_tails (k ∷ ks) xs ys same = same_tails ks xs ys (ap (drop 1) same)

first_row : {A : Type 0} (rows : List (ℕ × A)) (row : ℕ × A) → 1 ≤ length rows → row ≡ slice_index_or rows 0 row
    → keys_of rows ≡ row.0 ∷ keys_of (take (length rows - 1) (drop 1 rows))
first_row rows row some is = ap keys_of (taken_apart rows row some is)

module _ {A B : Type 0} (table rows : List (ℕ × A)) (column : List (ℕ × B)) (i : ℕ) (so_far : keys_of (take i column) ++ keys_of rows ≡ keys_of table) where
  pub keys_go_on : (row : ℕ × A) (entry : ℕ × B) → 1 ≤ length rows → row ≡ slice_index_or rows 0 row → row.0 ≡ entry.0
      → i < length column → entry ≡ slice_index_or column i entry
      → keys_of (take (i + 1) column) ++ keys_of (take (length rows - 1) (drop 1 rows)) ≡ keys_of table
  keys_go_on row entry some are same below is =
      let rest = take (length rows - 1) (drop 1 rows) in
      ap (λ n. keys_of (take n column) ++ keys_of rest) (let next : i + 1 ≡ suc i = omega arith in next)
      ∙ ap (λ ks. ks ++ keys_of rest) (take_keys column i entry below is)
      ∙ append_assoc (keys_of (take i column)) (entry.0 ∷ []) (keys_of rest)
      ∙ ap (λ k. keys_of (take i column) ++ k ∷ keys_of rest) (sym same)
      ∙ ap (λ ks. keys_of (take i column) ++ ks) (sym (first_row rows row some are))
      ∙ so_far

  behind : (entry : ℕ × B) → i < length column → entry ≡ slice_index_or column i entry → keys_of table ≡ keys_of column
      → keys_of rows ≡ entry.0 ∷ keys_of (drop (suc i) column)
  behind entry below is same =
      same_tails (keys_of (take i column)) (keys_of rows) (entry.0 ∷ keys_of (drop (suc i) column)) (so_far ∙ same ∙ split_keys column i entry below is)

  pub rows_end : (entry : ℕ × B) → length rows < 1 → i < length column → entry ≡ slice_index_or column i entry → keys_of table ≢ keys_of column
  rows_end entry none below is same = no_keys rows none (entry.0) (keys_of (drop (suc i) column)) (behind entry below is same)
    where
      no_keys : (es : List (ℕ × A)) → length es < 1 → (k : ℕ) (ks : List ℕ) → keys_of es ≡ k ∷ ks → ⊥
      no_keys [] none k ks are = let size : 0 ≡ suc (length ks) = ap length are in absurd (omega arith)
      no_keys (e ∷ es) none k ks are = absurd (omega arith)

  pub keys_differ : (row : ℕ × A) (entry : ℕ × B) → 1 ≤ length rows → row ≡ slice_index_or rows 0 row → (row.0 ≡ entry.0 → ⊥)
      → i < length column → entry ≡ slice_index_or column i entry → keys_of table ≢ keys_of column
  keys_differ row entry some are other below is same =
      other (ap (λ (ks : List ℕ). slice_index ks 0) (sym (first_row rows row some are) ∙ behind entry below is same))

  pub all_same : i ≡ length column → length rows ≡ 0 → keys_of table ≡ keys_of column
  all_same end none =
      sym so_far
      ∙ ap (λ es. keys_of (take i column) ++ keys_of es) (nil_from_length rows none)
      ∙ append-nil (keys_of (take i column))
      ∙ ap (λ n. keys_of (take n column)) end
      ∙ ap keys_of (take-length column)

  pub rows_left : i ≡ length column → 0 < length rows → keys_of table ≢ keys_of column
  rows_left end some same =
      let whole : take i column ≡ column = ap (λ n. take n column) end ∙ take-length column in
      let behind : keys_of rows ≡ [] =
      same_tails (keys_of column) (keys_of rows) [] (ap (λ es. keys_of es ++ keys_of rows) (sym whole) ∙ so_far ∙ same ∙ sym (append-nil (keys_of column))) in
      none_left rows behind some
    where
      none_left : (es : List (ℕ × A)) → keys_of es ≡ [] → 0 < length es → ⊥
      none_left [] none some = absurd (omega arith)
      none_left (e ∷ es) none some = absurd (let size : suc (length (keys_of es)) ≡ 0 = ap length none in omega arith)

pub no_more : (n : ℕ) → (0 < n → ⊥) → n ≡ 0
no_more zero none = refl
no_more (suc n) none = absurd (none (omega arith))
