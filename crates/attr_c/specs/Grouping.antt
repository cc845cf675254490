-- The groups that a reader keeps: the documents of its answer by their values.
use Rattle.std.specs.Prelude.{◌≡◌, ◌≢◌, ◌<◌, ◌≤◌, ◌==◌, ℕ, Bool, true, false, ℤ, pos, List, [], length, Option, Some, None}
use Rattle.attr_types.specs.Table.{Table}
use Rattle.attr_types.specs.declared.field.Field.{Field}
use Rattle.attr_types.specs.declared.value.Value.{Value}
use Rattle.attr_types.specs.declared.value.Value.TheVariants.{Long, Text}
use Rattle.result_model.specs.Groups.{groups, largest_groups}
use Rattle.result_model.specs.declared.group.Group.{Group}
use Rattle.attr_c.specs.Copies.{value_text}
use Rattle.attr_c.specs.Kept.{KeptView, table_in}
use Rattle.attr_c.specs.Seats.{TellsCommit}
use Rattle.attr_c.specs.declared.codes.TheConstants.{BOUNDS, MEMORY}
use Rattle.attr_c.specs.declared.told.Answered.{Answered}
use Rattle.attr_c.specs.declared.told.GroupTold.{GroupTold}

-- the first groups of documents, those with the most documents first or by value
abbrev pub groups_by : Bool → ℕ → List ℕ → ℕ → Table → List Group
groups_by true field documents most table = largest_groups field documents most table
groups_by false field documents most table = groups field documents most table

-- the number of an attribute, and 0 or 1 for the order
pub record IsGrouping (fields : List Field) (field by_count : ℕ) : Type 0 where
  pub attribute : field < length fields
  pub order : by_count ≤ 1

-- the groups of documents in the table of a guard's commit
pub record GroupsDocuments (guard : KeptView) (documents : List ℕ) (field by_count most : ℕ) (told : Answered) (groups : List Group) : Type 0 where
  pub groups_are : groups ≡ groups_by (by_count == 1) field documents most (table_in guard)
  pub tells : TellsCommit guard told
  pub count : told.count ≡ length groups

-- why no groups are made: a number is out of bounds, or memory ran out
pub record RefusesGroups (fields : List Field) (field by_count : ℕ) (code : ℤ) : Type 0 where
  pub bounds : code ≡ BOUNDS → IsGrouping fields field by_count → ⊥
  pub within : code ≢ BOUNDS → IsGrouping fields field by_count
  pub others : code ≢ BOUNDS → code ≡ MEMORY

-- a group, as C is told it
abbrev pub counted_told : ℕ → Value → GroupTold
counted_told documents (Long number) = record { number = number; length = 0; documents = documents; is_text = 0; zero = 0 }
counted_told documents (Text text) = record { number = pos 0; length = length text; documents = documents; is_text = 1; zero = 0 }

abbrev pub group_told : Group → GroupTold
group_told group = counted_told group.count group.value

-- what C is told where there is no group
abbrev pub no_group : GroupTold
no_group = record { number = pos 0; length = 0; documents = 0; is_text = 0; zero = 0 }

-- the text of a group's value; none where there is no such text
abbrev pub group_text : Option Group → List ℕ
group_text None = []
group_text (Some group) = value_text group.value
