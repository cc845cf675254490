-- Why an ask, or a read of items, is refused.
use Rattle.std.specs.Prelude.{◌≡◌, ◌≢◌, ◌<◌, ℕ, ℤ, List, length, None}
use Rattle.attr_types.specs.Lawful.{IsDocNumber}
use Rattle.attr_types.specs.declared.error.QueryError.{QueryError}
use Rattle.attr_types.specs.declared.error.QueryError.TheVariants as errors
use Rattle.attr_types.specs.declared.field.Field.{Field}
use Rattle.query_text.specs.Asks.{ask_of, RefusesBy}
use Rattle.attr_c.specs.Kept.{KeptView, table_in}
use Rattle.attr_c.specs.Said.{items_of}
use Rattle.attr_c.specs.Seats.{TellsCommit}
use Rattle.attr_c.specs.declared.codes.TheConstants.{BOUNDS, MEMORY, NO_DOCUMENT}
use Rattle.attr_c.specs.declared.codes.TheConstants.{NO_FIELD, OUT_OF_RANGE, SYNTAX, TOO_DEEP, WRONG_TYPE}
use Rattle.attr_c.specs.declared.told.Answered.{Answered}

abbrev pub query_code : QueryError → ℤ
query_code (errors.Syntax place) = SYNTAX
query_code (errors.NoField place) = NO_FIELD
query_code errors.WrongType = WRONG_TYPE
query_code errors.OutOfRange = OUT_OF_RANGE
query_code errors.TooDeep = TOO_DEEP
query_code errors.Memory = MEMORY

-- an error that has a place tells it
abbrev pub TellsPlace : QueryError → Answered → Type 0
TellsPlace (errors.Syntax place) told = told.place ≡ place
TellsPlace (errors.NoField place) told = told.place ≡ place
TellsPlace errors.WrongType told = Unit {0}
TellsPlace errors.OutOfRange told = Unit {0}
TellsPlace errors.TooDeep told = Unit {0}
TellsPlace errors.Memory told = Unit {0}

-- why a text is not answered: it is read as this error, or memory ran out
pub record RefusesText (fields : List Field) (text : List ℕ) (told : Answered) (code : ℤ) : Type 0 where
  pub error : QueryError
  pub reads : RefusesBy error (ask_of fields text)
  pub code_is : code ≡ query_code error
  pub place : TellsPlace error told

-- the number of an attribute, and that of a document, which need not exist
pub record IsInBounds (fields : List Field) (document field : ℕ) : Type 0 where
  pub attribute : field < length fields
  pub number : IsDocNumber document

-- why no items are read: a number is out of bounds, the document is not there at the commit that is told, or memory ran out
pub record RefusesItems (guard : KeptView) (document field : ℕ) (told : Answered) (code : ℤ) : Type 0 where
  pub bounds : code ≡ BOUNDS → IsInBounds guard.fields document field → ⊥
  pub within : code ≢ BOUNDS → IsInBounds guard.fields document field
  pub none : code ≡ NO_DOCUMENT → items_of field document (table_in guard) ≡ None
  pub commit : code ≡ NO_DOCUMENT → TellsCommit guard told
  pub others : code ≢ BOUNDS → code ≢ NO_DOCUMENT → code ≡ MEMORY
