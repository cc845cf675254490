-- The attributes in their store, side by side: each has a part of it, and all have the same documents.
use Rattle.std.specs.Prelude.{◌≡◌, Bool, ℕ, true, false, ◌<◌, ◌≤◌, List, [], ◌∷◌, length, map, Option, None, Some}
use Rattle.std.specs.List.{AllByRecursion, AllZip}
use Rattle.entry_ref.specs.References.{buffer_of}
use Rattle.entry_ref.specs.Records.{Records, Among}
use Rattle.store_api.specs.Ledgers.{Ledger, is_this}
use Rattle.store_api.specs.Parts.{Part, Owns, Turns, count_in, entries, uses}
use Rattle.store_api.specs.Statuses.{in_use}
use Rattle.array_store.specs.Roots.{root_entries}
use Rattle.attr_field.specs.Fields.{field_part, IsField, RefersBeside}
use Rattle.attr_field.specs.Flows.{FlowsField}
use Rattle.attr_field.specs.Forms.{wants}
use Rattle.attr_field.specs.declared.roots.FieldRoots.{FieldRoots}
use Rattle.image_format.specs.Documents.{column_at}
use Rattle.image_format.specs.Tables.{AttributeTrees, HaveSameDocuments, attributes_reach, columns_at}
use Rattle.index_model.specs.Columns.{Column}
use Rattle.attr_types.specs.Lawful.{IsLawfulDocument, DocumentHasType}
use Rattle.attr_types.specs.Table.{Table, with_document, without_document}
use Rattle.attr_types.specs.Value.{Document}
use Rattle.attr_types.specs.declared.field.Field.{Field}
use Rattle.value_index.specs.Forms.{IsOfForm}
use Rattle.attr_operations.specs.Views.{table_at}

-- an attribute's trees, from its field and its roots
abbrev pub trees_of_field : {bits : ℕ} → Field → FieldRoots bits → AttributeTrees
trees_of_field field roots =
    record { kind = field.kind; type = field.value; documents = roots.documents; dictionary = roots.dictionary }

abbrev pub trees_of : {bits : ℕ} → List Field → List (FieldRoots bits) → List AttributeTrees
trees_of [] roots = []
trees_of (field ∷ fields) [] = []
trees_of (field ∷ fields) (first ∷ roots) = trees_of_field field first ∷ trees_of fields roots

-- the roots of an attribute without documents
abbrev pub no_roots : {bits : ℕ} → FieldRoots bits
no_roots = record { documents = 0; dictionary = 0 }

-- what an attribute owns in the store, and its column
abbrev pub part_of : AttributeTrees → Part
part_of a = field_part a.kind a.documents a.dictionary

abbrev pub parts_of : List AttributeTrees → List Part
parts_of trees = map part_of trees

abbrev pub column_in : Records → AttributeTrees → Column
column_in m a = column_at a.kind a.type m a.documents

abbrev pub IsFieldAt : Records → AttributeTrees → Type 0
IsFieldAt m a = IsField a.kind a.type m a.documents a.dictionary

-- what the flag for bit vectors says of each attribute
abbrev pub IsOfFormAt : Bool → Records → AttributeTrees → Type 0
IsOfFormAt dense m a = IsOfForm (wants dense a.kind) a.type m a.dictionary

abbrev pub HaveForms : Bool → Records → List AttributeTrees → Type 0
HaveForms dense m trees = AllByRecursion (IsOfFormAt dense m) trees

-- they have the same forms in other records, with other trees
abbrev pub KeepForms : Records → Records → List AttributeTrees → List AttributeTrees → Type 0
KeepForms m n trees next = (dense : Bool) → HaveForms dense m trees → HaveForms dense n next

-- one or more attributes with the same documents, in the records
pub record AreFields (m : Records) (fields : List Field) (trees : List AttributeTrees) : Type 0 where
  pub some : 0 < length fields
  pub sized : length trees ≡ length fields
  pub each : AllByRecursion (IsFieldAt m) trees
  pub documents : HaveSameDocuments (columns_at m trees)

-- what the documents of each attribute refer to is a key of its index, or an old copy of one, which none of these
-- parts owns
abbrev pub AllReferBeside : {H : Type 0} → Ledger H → Records → List AttributeTrees → List Part → Type 0
AllReferBeside ledger m trees parts = AllByRecursion (λ a. RefersBeside ledger a.kind m a.documents a.dictionary parts) trees

-- what the attributes own is in use, and so is what their documents refer to
pub record OwnsFields {H : Type 0} (ledger : Ledger H) (m : Records) (trees : List AttributeTrees) : Type 0 where
  pub owns : Owns ledger m (parts_of trees)
  pub refer : AllReferBeside ledger m trees (parts_of trees)

-- the new documents refer to keys and old copies as the old ones did, whatever records are owned beside them
abbrev pub StillRefer : {H : Type 0} → Ledger H → Ledger H → Records → Records → List AttributeTrees → List AttributeTrees → Type 0
StillRefer old new m n trees next = (others : List ℕ) → AllReferBeside old m trees (entries others ∷ parts_of trees)
    → AllReferBeside new n next (entries others ∷ parts_of next)

-- an attribute replaces another of the same kind and type: what it keeps of the entries that were in use when the
-- unit began
pub record FlowsTrees {H : Type 0} (old : Ledger H) (m n : Records) (a b : AttributeTrees) : Type 0 where
  pub kind : b.kind ≡ a.kind
  pub type : b.type ≡ a.type
  pub flows : FlowsField a.kind a.type old m n a.documents a.dictionary b.documents b.dictionary

-- what is in use in a sealed buffer was in use before
pub record MakesUnsealed {H : Type 0} (old new : Ledger H) : Type 0 where
  pub each : (r : ℕ) → in_use (new.status r) ≡ true → old.sealed (buffer_of old.bits r) ≡ true → in_use (old.status r) ≡ true

-- what was in use when the unit began, and still is, has the same words
pub record KeepsWords {H : Type 0} (old new : Ledger H) (m n : Records) : Type 0 where
  pub each : (r : ℕ) → in_use (old.back r) ≡ true → in_use (new.status r) ≡ true → n r ≡ m r

-- a document that may be in a table of these fields
pub record FitsFields (fields : List Field) (document : Document) : Type 0 where
  pub lawful : IsLawfulDocument fields document
  pub typed : DocumentHasType fields document

-- a table after the items of a document change, or without the document
abbrev pub table_with : Table → ℕ → Option Document → Table
table_with table doc None = without_document table doc
table_with table doc (Some document) = with_document table doc document

-- a document of all attributes was changed: these trees replace others, and own what they owned
pub record ChangesFields {H : Type 0} (fields : List Field) (old new : Ledger H) (m n : Records) (trees : List AttributeTrees) (doc : ℕ)
    (document : Option Document) (next : List AttributeTrees) : Type 0 where
  pub are_fields : AreFields n fields next
  pub table_is : table_at n next ≡ table_with (table_at m trees) doc document
  pub turns : Turns old new m n (parts_of trees) (parts_of next)
  pub owns : Owns new n (parts_of next)
  pub refer : StillRefer old new m n trees next
  pub flows : AllZip (FlowsTrees old m n) trees next
  pub unsealed : MakesUnsealed old new
  pub words : KeepsWords old new m n

-- what the parts own is in use, and outside sealed buffers nothing else is
pub record OwnsOutside {H : Type 0} (bits : ℕ) (ledger : Ledger H) (m : Records) (parts : List Part) : Type 0 where
  pub each : (r : ℕ) → count_in r m parts ≤ uses ledger r
  pub all : (r : ℕ) → ledger.sealed (buffer_of bits r) ≡ false → uses ledger r ≤ count_in r m parts

-- the attributes and the root record of the last commit are, except for old copies in sealed buffers, exactly what is
-- in use; no unit is open, and nothing that the attributes reach lies in the buffer that goes on hold
pub record HoldsAttributes {H : Type 0} (bits : ℕ) (ledger : Ledger H) (m : Records) (fields : List Field) (trees : List AttributeTrees)
    (root : ℕ) : Type 0 where
  pub are_fields : AreFields m fields trees
  pub owns : OwnsOutside bits ledger m (entries (root_entries root) ∷ parts_of trees)
  pub refer : AllReferBeside ledger m trees (entries (root_entries root) ∷ parts_of trees)
  pub unit : ledger.unit ≡ false
  pub apart : (r : ℕ) → Among r (attributes_reach m trees) → is_this ledger.finished (buffer_of bits r) ≡ false
