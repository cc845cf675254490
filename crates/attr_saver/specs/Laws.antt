-- How the bytes of a save and their grammar are related.
use Rattle.std.specs.Prelude.{ℕ, ◌≡◌, ◌<◌, List, ◌∷◌, Ok, slice_index}
use Rattle.attr_types.specs.Lawful.{IsLawfulTable, DocumentsHaveType}
use Rattle.attr_types.specs.Table.{Table}
use Rattle.attr_types.specs.declared.field.Field.{Field}
use Rattle.attr_saver.specs.Bytes.{saved_bytes}
use Rattle.attr_saver.specs.Fields.{read_of}
use Rattle.attr_saver.specs.Lawful.{AreLawfulDocuments, IsLawfulSaved, first_column}
use Rattle.attr_saver.specs.declared.saved.Saved.{Saved}

-- what was saved can be read again
abbrev pub ReadAgain : Type 0
ReadAgain = (saved : Saved) → IsLawfulSaved saved → read_of (saved_bytes saved) ≡ Ok saved

abbrev pub AreBytes : List ℕ → Type 0
AreBytes bytes = (i : ℕ) → slice_index bytes i < 256

-- what is read is lawful, and the bytes are those of its save
abbrev pub ReadsSaves : Type 0
ReadsSaves = (bytes : List ℕ) (saved : Saved) → AreBytes bytes → read_of bytes ≡ Ok saved
    → IsLawfulSaved saved × (bytes ≡ saved_bytes saved)

-- two saves with the same bytes are equal
abbrev pub SavesDiffer : Type 0
SavesDiffer = (one other : Saved) → IsLawfulSaved one → IsLawfulSaved other
    → saved_bytes one ≡ saved_bytes other → one ≡ other

-- the first attribute of a lawful table whose values have the types of its attributes may be saved
abbrev pub FirstColumnIsLawful : Type 0
FirstColumnIsLawful = (field : Field) (fields : List Field) (table : Table)
    → IsLawfulTable (field ∷ fields) table → DocumentsHaveType (field ∷ fields) table
    → AreLawfulDocuments field.kind field.value (first_column table)
