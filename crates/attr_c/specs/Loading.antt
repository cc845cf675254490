-- What a save makes of attributes.
use Rattle.std.specs.Prelude.{◌≡◌, ℕ, ◌+◌, List, [], ◌∷◌, length, map, take, slice_get, Some, Ok, Err}
use Rattle.attr_saver.specs.Fields.{read_of}
use Rattle.attr_saver.specs.declared.saved.Saved.{Saved}
use Rattle.attr_saver.specs.declared.saved.SavedDocument.{SavedDocument}
use Rattle.attr_types.specs.Table.{Table, after_ops}
use Rattle.attr_types.specs.declared.field.Field.{Field}
use Rattle.attr_types.specs.declared.op.Op.{Op}
use Rattle.attr_types.specs.declared.op.Op.TheVariants.{Put}
use Rattle.attr_c.specs.declared.stop.Stop.{Stop}
use Rattle.attr_c.specs.declared.stop.Stop.TheVariants as stops
use Rattle.attr_c.specs.declared.told.Told.{Told}

-- the operations that put documents in
abbrev pub put_of : SavedDocument → Op
put_of document = Put document.doc (document.items ∷ [])

abbrev pub puts_of : List SavedDocument → List Op
puts_of documents = map put_of documents

-- documents were put in, one after another
pub record PutsIn (fields : List Field) (documents : List SavedDocument) (old new : Table) (before after : ℕ) : Type 0 where
  pub table : new ≡ after_ops fields old (puts_of documents)
  pub operations : after ≡ before + length documents

-- a save is of the one attribute that there is
pub record IsSaveOf (fields : List Field) (saved : Saved) : Type 0 where
  pub field : Field
  pub sole : fields ≡ field ∷ []
  pub kind : saved.kind ≡ field.kind
  pub value : saved.value ≡ field.value

-- all documents of a save were put in
pub record LoadsSave (fields : List Field) (bytes : List ℕ) (old new : Table) (before after : ℕ) : Type 0 where
  pub saved : Saved
  pub reads : read_of bytes ≡ Ok saved
  pub is_of : IsSaveOf fields saved
  pub puts : PutsIn fields saved.table old new before after

-- some of these documents were put in, the first ones
pub record PutsFront (fields : List Field) (all : List SavedDocument) (old new : Table) (before after : ℕ) : Type 0 where
  pub documents : List SavedDocument
  pub puts : PutsIn fields documents old new before after
  pub front : documents ≡ take (length documents) all

-- a save of another kind or value type, or there are several attributes
pub record IsOfOther (fields : List Field) (bytes : List ℕ) : Type 0 where
  pub saved : Saved
  pub reads : read_of bytes ≡ Ok saved
  pub other : IsSaveOf fields saved → ⊥

-- the first documents of a save; none where the bytes are no save, or one of another attribute
pub record AreFirstOf (fields : List Field) (bytes : List ℕ) (documents : List SavedDocument) : Type 0 where
  pub front : (saved : Saved) → read_of bytes ≡ Ok saved → documents ≡ take (length documents) saved.table
  pub broken : (place : ℕ) → read_of bytes ≡ Err place → documents ≡ []
  pub other : IsOfOther fields bytes → documents ≡ []

-- such documents were put in
pub record LoadsFront (fields : List Field) (bytes : List ℕ) (old new : Table) (before after : ℕ) : Type 0 where
  pub documents : List SavedDocument
  pub puts : PutsIn fields documents old new before after
  pub first : AreFirstOf fields bytes documents

-- all documents of a save
pub record AreAllOf (bytes : List ℕ) (documents : List SavedDocument) : Type 0 where
  pub saved : Saved
  pub reads : read_of bytes ≡ Ok saved
  pub all : documents ≡ saved.table

-- operations that put in such documents
pub record ArePuts (which : List SavedDocument → Type 0) (ops : List Op) : Type 0 where
  pub documents : List SavedDocument
  pub which_are : which documents
  pub ops_are : ops ≡ puts_of documents

-- the operation that puts in the document after those that made so many operations of so many before
pub record IsNextPut (documents : List SavedDocument) (before after : ℕ) (op : Op) : Type 0 where
  pub done : ℕ
  pub so_far : after ≡ before + done
  pub document : SavedDocument
  pub at : slice_get documents done ≡ Some document
  pub puts : op ≡ put_of document

-- the same for the documents of a save
pub record IsNextLoaded (bytes : List ℕ) (before after : ℕ) (op : Op) : Type 0 where
  pub saved : Saved
  pub reads : read_of bytes ≡ Ok saved
  pub is_next : IsNextPut saved.table before after op

-- what was read is no save, with the offset of the first wrong field, or memory ran out
abbrev pub RefusesSave : List ℕ → ℕ → Stop → Type 0
RefusesSave bytes place stops.Save = read_of bytes ≡ Err place
RefusesSave bytes place stops.Memory = Unit {0}
RefusesSave bytes place stop = ⊥

-- why loading stopped: the bytes are no save, with the offset of the first wrong field; the save is of another attribute;
-- or a document was not put in
abbrev pub StopsLoad : List Field → List ℕ → ℕ → Type 0 → (Stop → Type 0) → Stop → Type 0
StopsLoad fields bytes place applied why stops.Save = (read_of bytes ≡ Err place) × applied
StopsLoad fields bytes place applied why stops.Other = IsOfOther fields bytes × applied
StopsLoad fields bytes place applied why stop = why stop

-- a place is told only of bytes that are no save
abbrev pub TellsPlaceOf : Told → Told → Stop → Type 0
TellsPlaceOf old new stops.Save = Unit {0}
TellsPlaceOf old new stop = new.place ≡ old.place
