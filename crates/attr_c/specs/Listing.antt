-- The documents of a commit.
use Rattle.std.specs.Prelude.{ℕ, List, length}
use Rattle.result_model.specs.Values.{documents_from}
use Rattle.attr_c.specs.Copies.{Copies}
use Rattle.attr_c.specs.Kept.{KeptView, table_in}
use Rattle.attr_c.specs.Seats.{TellsCommit}
use Rattle.attr_c.specs.declared.told.Answered.{Answered}

-- the documents of a guard's commit that are not below a number were copied, as many as there was room for
pub record CopiesDocuments (guard : KeptView) (first : ℕ) (told : Answered) (old new : List ℕ) : Type 0 where
  pub copies : Copies (documents_from first (length old) (table_in guard)) 0 old new told.count
  pub tells : TellsCommit guard told
