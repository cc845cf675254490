-- What a call says that sorts an answer, totals it, or reads numbers in bulk.
use Rattle.std.specs.Prelude.{◌≡◌, ◌≢◌, ◌<◌, ◌≤◌, ◌^◌, ◌==◌, ◌*ℤ◌, ◌+ℤ◌, ℕ, ℤ, pos, Bool, true, false, List, [], length, map, unwrap_or, Ok}
use Rattle.std.specs.List.{filter_map}
use Rattle.attr_types.specs.Scores.{AskTree, hits_of, dot_of}
use Rattle.attr_types.specs.Table.{Table}
use Rattle.attr_types.specs.declared.field.Field.{Field}
use Rattle.attr_types.specs.declared.score.Score.{Score}
use Rattle.query_results.specs.Longs.{presence}
use Rattle.query_text.specs.Asks.{ask_of}
use Rattle.result_model.specs.Orders.{best, sorted}
use Rattle.result_model.specs.Totals.{number_of, totals}
use Rattle.result_model.specs.declared.direction.Direction.{Direction}
use Rattle.result_model.specs.declared.direction.Direction.TheVariants.{Ascending, Descending}
use Rattle.result_model.specs.declared.totals.Totals.{Totals}
use Rattle.attr_c.specs.Copies.{score_told, Copies}
use Rattle.attr_c.specs.Kept.{KeptView, table_in}
use Rattle.attr_c.specs.Seats.{TellsCommit}
use Rattle.attr_c.specs.declared.codes.TheConstants.{BOUNDS, MEMORY}
use Rattle.attr_c.specs.declared.told.Answered.{Answered}
use Rattle.attr_c.specs.declared.told.Scored.{Scored}
use Rattle.attr_c.specs.declared.told.TotalsTold.{TotalsTold}

-- ---- sorted documents

-- the direction of an order that descends or not
abbrev pub direction_by : Bool → Direction
direction_by false = Ascending
direction_by true = Descending

-- the number of an attribute, and 0 or 1 for the direction
pub record IsSorting (fields : List Field) (field descending : ℕ) : Type 0 where
  pub attribute : field < length fields
  pub direction : descending ≤ 1

-- documents by their values in the table of a guard's commit, from a place on, are copied, as many as there are and has room
pub record SortsAnswer (guard : KeptView) (documents : List ℕ) (field descending first : ℕ) (old new : List ℕ) (told : Answered) : Type 0 where
  pub within : IsSorting guard.fields field descending
  pub copies : Copies (sorted field (direction_by (descending == 1)) documents first (length old) (table_in guard)) 0 old new told.count
  pub tells : TellsCommit guard told

-- why nothing is sorted: a number is out of bounds, or memory ran out
pub record RefusesSort (fields : List Field) (field descending : ℕ) (code : ℤ) : Type 0 where
  pub bounds : code ≡ BOUNDS → IsSorting fields field descending → ⊥
  pub others : code ≢ BOUNDS → code ≡ MEMORY
  pub within : code ≢ BOUNDS → IsSorting fields field descending

-- ---- totals

-- the totals of no numbers, as C is told them
abbrev pub no_totals_told : TotalsTold
no_totals_told = record { count = 0; low = 0; high = pos 0; least = pos 0; greatest = pos 0 }

-- totals, as C is told them: the sum in two words, and 0 for the least and the greatest of no numbers
pub record TellsTotals (found : Totals) (told : TotalsTold) : Type 0 where
  pub count : told.count ≡ found.count
  pub sum : told.high *ℤ pos (2 ^ 64) +ℤ pos told.low ≡ found.sum
  pub least : told.least ≡ unwrap_or found.least (pos 0)
  pub greatest : told.greatest ≡ unwrap_or found.greatest (pos 0)

-- the totals of documents in the table of a guard's commit
pub record TotalsAnswer (guard : KeptView) (documents : List ℕ) (field : ℕ) (totals_told : TotalsTold) (told : Answered) : Type 0 where
  pub within : field < length guard.fields
  pub totals_are : TellsTotals (totals field documents (table_in guard)) totals_told
  pub tells : TellsCommit guard told
  pub count : told.count ≡ totals_told.count

-- why there are no totals: there is no such attribute, or memory ran out
pub record RefusesField (fields : List Field) (field : ℕ) (code : ℤ) : Type 0 where
  pub bounds : code ≡ BOUNDS → field < length fields → ⊥
  pub others : code ≢ BOUNDS → code ≡ MEMORY
  pub within : code ≢ BOUNDS → field < length fields

-- ---- best scores

-- the best scores that an ask has; a query has none
abbrev pub best_on : AskTree → ℕ → Table → List Score
best_on (hits_of query) count table = []
best_on (dot_of field parts) count table = best field parts count table

-- the best scores of the table of a guard's commit are copied, as many as there are and has room
pub record BestOfAsk (guard : KeptView) (ask : AskTree) (old new : List Scored) (told : Answered) : Type 0 where
  pub copies : Copies (map score_told (best_on ask (length old) (table_in guard))) 0 old new told.count
  pub tells : TellsCommit guard told

-- those of what a text asks for
pub record BestOfText (guard : KeptView) (text : List ℕ) (old new : List Scored) (told : Answered) : Type 0 where
  pub ask : AskTree
  pub reads : ask_of guard.fields text ≡ Ok ask
  pub best_are : BestOfAsk guard ask old new told

-- ---- numbers in bulk

-- the number of an attribute, and as many places as documents
pub record IsBulk (fields : List Field) (field : ℕ) (documents : List ℕ) (numbers : List ℤ) (present : List ℕ) : Type 0 where
  pub attribute : field < length fields
  pub numbers_fit : length numbers ≡ length documents
  pub present_fit : length present ≡ length documents

-- for each document its number in the table of a guard's commit, or 0, and whether it has one
pub record LongsOf (guard : KeptView) (documents : List ℕ) (field : ℕ) (numbers : List ℤ) (present : List ℕ) (told : Answered) : Type 0 where
  pub numbers_are : numbers ≡ map (λ document. unwrap_or (number_of field (table_in guard) document) (pos 0)) documents
  pub present_are : present ≡ map (λ document. presence (number_of field (table_in guard) document)) documents
  pub tells : TellsCommit guard told
  pub count : told.count ≡ length (filter_map (number_of field (table_in guard)) documents)

-- why no numbers are written: there is no such attribute, or lengths differ
pub record RefusesLongs (fields : List Field) (field : ℕ) (documents : List ℕ) (numbers : List ℤ) (present : List ℕ) (code : ℤ) : Type 0 where
  pub bounds : code ≡ BOUNDS
  pub not : IsBulk fields field documents numbers present → ⊥
