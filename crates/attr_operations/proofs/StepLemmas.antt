-- What the change of a document is to the operation that asked for it.
use Rattle.std.proofs.Common.{◌≡◌, ℕ, Bool, List, length, nat_cmp, Option, Some, None, option_map, refl, sym, ap, subst, ◌∙◌, arith, inl}
use Rattle.std.specs.Prelude.{IsSome}
use Rattle.std.specs.BTreeMap.{is_at}
use Rattle.std.specs.Option.{IfSome, option_and_then, unwrap_or}
use Rattle.entry_ref.specs.Records.{Records}
use Rattle.store_api.specs.Ledgers.{Ledger}
use Rattle.attr_field.specs.declared.roots.FieldRoots.{FieldRoots}
use Rattle.image_format.specs.Tables.{AttributeTrees}
use Rattle.attr_types.proofs.DocumentLemmas.{DocumentFits, document_is_lawful, document_has_type}
use Rattle.attr_types.proofs.EntryLemmas.{all-lookup}
use Rattle.attr_types.proofs.TableLemmas.{Sound, found_fits, put_is_there, step_keeps}
use Rattle.attr_types.specs.Lawful.{IsLawfulDocument, OpFits}
use Rattle.attr_types.specs.Table.{Table, document_at, step, to_update, updated, with_document, without_document}
use Rattle.attr_types.specs.Value.{Document}
use Rattle.attr_types.specs.declared.change.Change.{Change}
use Rattle.attr_types.specs.declared.field.Field.{Field}
use Rattle.attr_types.specs.declared.op.Op.{Op}
use Rattle.attr_types.specs.declared.op.Op.TheVariants.{Update, Remove}
use Rattle.attr_operations.specs.Calls.{KeepsStore, LeavesEntries}
use Rattle.attr_operations.specs.Fields.{ChangesFields, FitsFields, table_with, trees_of}
use Rattle.attr_operations.specs.Steps.{MadeStep}
use Rattle.attr_operations.specs.Views.{table_at}

pub document_fits_fields : (fields : List Field) (document : Document) → DocumentFits fields document → FitsFields fields document
document_fits_fields fields document fits = record { lawful = document_is_lawful fields document fits; typed = document_has_type fields document fits }

pub found_lawful : (fields : List Field) (table : Table) (doc : ℕ) (o : Option Document) → Sound fields table → o ≡ document_at table doc → IfSome o (IsLawfulDocument fields)
found_lawful fields table doc None sound is = tt
found_lawful fields table doc (Some d) sound is = all-lookup (IsLawfulDocument fields) (is_at (nat_cmp doc)) table sound.0.documents d (sym is)

-- what an update makes of a document that fits
pub update_made : (fields : List Field) (table : Table) (doc : ℕ) (create : Bool) (changes : List Change) (old : Option Document) (document : Document)
    → Sound fields table → OpFits fields (Update doc create changes) → old ≡ document_at table doc
    → Some document ≡ option_and_then (updated fields changes) (to_update fields create old)
    → FitsFields fields document × (step fields table (Update doc create changes) ≡ Some (with_document table doc document))
update_made fields table doc create changes old document sound fits there is =
    let made = ap (λ o. option_and_then (updated fields changes) (to_update fields create o)) (sym there) ∙ sym is in
    let next = ap (λ o. unwrap_or (option_map (with_document table doc) o) table) made in (
      document_fits_fields fields document (found_fits fields (with_document table doc document) doc document
          (subst (Sound fields) next (step_keeps fields table (Update doc create changes) fits sound)) (put_is_there table doc document)),
      ap (option_map (with_document table doc)) made,
    )

pub update_skipped : (fields : List Field) (table : Table) (doc : ℕ) (create : Bool) (changes : List Change) (old : Option Document) → old ≡ document_at table doc
    → None ≡ option_and_then (updated fields changes) (to_update fields create old) → step fields table (Update doc create changes) ≡ None
update_skipped fields table doc create changes old there is =
    ap (option_map (with_document table doc)) (ap (λ o. option_and_then (updated fields changes) (to_update fields create o)) (sym there) ∙ sym is)

pub remove_made : (fields : List Field) (table : Table) (doc : ℕ) (old : Option Document) → old ≡ document_at table doc → IsSome old
    → step fields table (Remove doc) ≡ Some (without_document table doc)
remove_made fields table doc None there some = cc
remove_made fields table doc (Some d) there some = ap (option_map (λ _. without_document table doc)) (sym there)

pub remove_skipped : (fields : List Field) (table : Table) (doc : ℕ) (old : Option Document) → old ≡ document_at table doc → old ≡ None → step fields table (Remove doc) ≡ None
remove_skipped fields table doc old there none = ap (option_map (λ _. without_document table doc)) (sym there ∙ none)

-- an operation that asks for this change of a document was made
pub made_step : {H : Type 0} {bits : ℕ} (fields : List Field) (old new : Ledger H) (m n : Records) (trees : List AttributeTrees) (op : Op) (doc : ℕ) (document : Option Document)
    (next : List (FieldRoots bits)) → length next ≡ length fields → ChangesFields fields old new m n trees doc document (trees_of fields next)
    → step fields (table_at m trees) op ≡ Some (table_with (table_at m trees) doc document)
    → MadeStep fields old new m n trees op next
made_step fields old new m n trees op doc document next sized changes is = record {
  sized = sized;
  steps = record {
    are_fields = changes.are_fields;
    turns = changes.turns;
    refer = changes.refer;
    flows = changes.flows;
    unsealed = changes.unsealed;
    words = changes.words;
    step_is = is
        ∙ ap Some (sym changes.table_is);
  };
}

-- nothing was done
pub keeps_same : {H : Type 0} (ledger : Ledger H) → KeepsStore ledger ledger
keeps_same ledger = record {
  unit = refl;
  home = refl;
  shape = refl;
  sizes = refl;
  commits = record { last = refl; image = refl; rises = omega arith; kept = λ n from to. refl };
  told = refl;
  readers = refl;
  stops = omega arith;
  alone = λ none. refl;
  sealed = refl;
  finished = refl;
  left = λ r is. is;
}

pub leaves_same : {H : Type 0} (ledger : Ledger H) (m : Records) → LeavesEntries ledger ledger m m
leaves_same ledger m = record { status = λ r. inl refl; records = refl }
