-- Attributes without documents, over a store of which nothing was made.
use Rattle.std.proofs.Common.{◌≡◌, Bool, ℕ, zero, suc, ◌<◌, ◌≤◌, List, [], ◌∷◌, length, replicate, refl, sym, ap, subst, ◌∙◌, arith}
use Rattle.std.specs.List.{AllByRecursion}
use Rattle.std.specs.Map.{keys_of}
use Rattle.entry_ref.specs.References.{buffer_of}
use Rattle.entry_ref.specs.Images.{no_image}
use Rattle.entry_ref.specs.Records.{Records}
use Rattle.entry_ref.specs.declared.images.Image.{Image}
use Rattle.arena_api.specs.Calls.{IsFresh}
use Rattle.arena_api.specs.Works.{WorkView, last_image}
use Rattle.store_api.specs.Ledgers.{Ledger, IsNew, is_this}
use Rattle.store_api.specs.Parts.{Part, count_in, entries, times}
use Rattle.store_api.specs.Statuses.{in_use}
use Rattle.store_api.proofs.Uses.{uses-out}
use Rattle.attr_field.specs.Forms.{wants}
use Rattle.attr_field.specs.Laws.{NothingIsField}
use Rattle.attr_field.specs.declared.roots.FieldRoots.{FieldRoots}
use Rattle.image_format.specs.Shapes.{shape_of, types_of}
use Rattle.image_format.specs.Tables.{HaveSameDocuments, columns_at, table_of_columns}
use Rattle.index_model.specs.Columns.{Column}
use Rattle.attr_types.specs.declared.field.TheConstants.{MOST_FIELDS}
use Rattle.attr_types.specs.declared.field.Field.{Field}
use Rattle.value_index.specs.Laws.{NothingIsOfForm}
use Rattle.attr_operations.specs.Fields.{AllReferBeside, AreFields, HaveForms, IsFieldAt, no_roots, parts_of, trees_of}
use Rattle.attribute_kinds.specs.Standing.{StandsAttribute}
use Rattle.attr_operations.specs.Views.{table_at}
use Rattle.attr_operations.proofs.TreeLists.{trees_length}

module _ (laws : NothingIsField) (bits : ℕ) (m : Records) where
  abbrev none : ℕ → List (FieldRoots bits)
  none n = replicate n no_roots

  each_empty : (fields : List Field) → AllByRecursion (IsFieldAt m) (trees_of fields (none (length fields)))
  each_empty [] = tt
  each_empty (field ∷ fields) = ((laws field.kind field.value m).0, each_empty fields)

  empty_columns : (fields : List Field) → AllByRecursion (λ (column : Column). column ≡ []) (columns_at m (trees_of fields (none (length fields))))
  empty_columns [] = tt
  empty_columns (field ∷ fields) = ((laws field.kind field.value m).1, empty_columns fields)

  owns_none : (fields : List Field) (r : ℕ) → count_in r m (parts_of (trees_of fields (none (length fields)))) ≡ 0
  owns_none [] r = refl
  owns_none (field ∷ fields) r = let here = ap (times r) (laws field.kind field.value m).2 in let rest = owns_none fields r in omega arith

  refers_none : {H : Type 0} (ledger : Ledger H) (p : List Part) (fields : List Field) → AllReferBeside ledger m (trees_of fields (none (length fields))) p
  refers_none ledger p [] = tt
  refers_none ledger p (field ∷ fields) = (record { each = λ r among. absurd among }, refers_none ledger p fields)

  same_empty : (columns : List Column) → AllByRecursion (λ (column : Column). column ≡ []) columns → HaveSameDocuments columns
  same_empty [] all = tt
  same_empty (column ∷ columns) all = each columns all.1
    where
      each : (others : List Column) → AllByRecursion (λ (other : Column). other ≡ []) others → AllByRecursion (λ (other : Column). keys_of other ≡ keys_of column) others
      each [] empty = tt
      each (other ∷ others) empty = (ap keys_of empty.0 ∙ sym (ap keys_of all.0), each others empty.1)

  empty_table : (columns : List Column) → AllByRecursion (λ (column : Column). column ≡ []) columns → table_of_columns columns ≡ []
  empty_table [] all = refl
  empty_table (column ∷ []) all = ap (λ c. table_of_columns (c ∷ [])) all.0
  empty_table (column ∷ next ∷ rest) all = ap (λ c. table_of_columns (c ∷ next ∷ rest)) all.0

  pub table_opened : (fields : List Field) → table_at m (trees_of fields (none (length fields))) ≡ []
  table_opened fields = empty_table (columns_at m (trees_of fields (none (length fields)))) (empty_columns fields)

  none_length : (n : ℕ) → length (none n) ≡ n
  none_length zero = refl
  none_length (suc n) = ap suc (none_length n)

  fields_opened : (fields : List Field) → 0 < length fields → AreFields m fields (trees_of fields (none (length fields)))
  fields_opened fields some = record {
    some = some;
    sized = trees_length fields (none (length fields)) (none_length (length fields));
    each = each_empty fields;
    documents = same_empty (columns_at m (trees_of fields (none (length fields)))) (empty_columns fields);
  }

  pub stands_opened : {H : Type 0} (ledger : Ledger H) (work : WorkView H) (fields : List Field) → 0 < length fields → length fields ≤ MOST_FIELDS
      → ledger.shape ≡ shape_of (types_of fields) → IsNew ledger → ledger.work ≡ work → IsFresh work
      → StandsAttribute ledger m fields (none (length fields)) 0 0 0
  stands_opened ledger work fields some few shape new same fresh =
      let last : ledger.work.commits.last ≡ 0 = ap (λ (w : WorkView _). w.commits.last) same ∙ fresh.last in
      let image : last_image ledger.work.commits ≡ no_image =
      ap (λ (w : WorkView _). last_image w.commits) same ∙ ap work.commits.image fresh.last ∙ fresh.image in
      record {
        sized = none_length (length fields);
        few = few;
        shape = shape;
        holds = record {
          are_fields = fields_opened fields some;
          owns = record {
            each = λ r. let unused = uses-out ledger r (ap in_use (new.status r)) in let owned = owns_none fields r in omega arith;
            all = λ r unsealed. let unused = uses-out ledger r (ap in_use (new.status r)) in omega arith;
          };
          refer = refers_none ledger (entries [] ∷ parts_of (trees_of fields (none (length fields)))) fields;
          unit = new.unit;
          apart = λ r among. ap (λ f. is_this f (buffer_of bits r)) new.finished;
        };
        last = record {
          root_is = ap (λ (i : Image). i.root) image;
          lawful = tt;
          operations_are = refl;
          number = sym last;
        };
      }

  -- the same of roots that were made
  pub table_made : (fields : List Field) (roots : List (FieldRoots bits)) (count : ℕ) → roots ≡ replicate count no_roots → count ≡ length fields
      → table_at m (trees_of fields roots) ≡ []
  table_made fields roots count are size = ap (λ rs. table_at m (trees_of fields rs)) (are ∙ ap none size) ∙ table_opened fields

  pub stands_made : {H : Type 0} (ledger : Ledger H) (work : WorkView H) (fields : List Field) (roots : List (FieldRoots bits)) (count root : ℕ)
      → roots ≡ replicate count no_roots → count ≡ length fields → root ≡ 0 → 0 < length fields → length fields ≤ MOST_FIELDS
      → ledger.shape ≡ shape_of (types_of fields) → IsNew ledger → ledger.work ≡ work → IsFresh work → StandsAttribute ledger m fields roots root 0 0
  stands_made ledger work fields roots count root are size no_root some few shape new same fresh =
      subst (λ rs. StandsAttribute ledger m fields rs root 0 0) (sym (are ∙ ap none size))
      (subst (λ r. StandsAttribute ledger m fields (none (length fields)) r 0 0) (sym no_root) (stands_opened ledger work fields some few shape new same fresh))

-- and no list is there
module _ (nothing : NothingIsOfForm) (bits : ℕ) (m : Records) (dense : Bool) where
  forms_opened : (fields : List Field) → HaveForms dense m (trees_of {bits = bits} fields (replicate (length fields) no_roots))
  forms_opened [] = tt
  forms_opened (field ∷ fields) = (nothing (wants dense field.kind) field.value m, forms_opened fields)

  pub forms_made : (fields : List Field) (roots : List (FieldRoots bits)) (count : ℕ) → roots ≡ replicate count no_roots → count ≡ length fields → HaveForms dense m (trees_of fields roots)
  forms_made fields roots count are size =
      subst (λ (rs : List (FieldRoots bits)). HaveForms dense m (trees_of fields rs)) (sym (are ∙ ap (λ (n : ℕ). replicate n no_roots) size)) (forms_opened fields)
