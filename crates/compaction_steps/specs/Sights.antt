-- Pairs of which nothing lies in a buffer.
use Rattle.std.specs.Prelude.{◌≡◌, ◌≢◌, ℕ, ◌<◌, ◌≤◌, ◌^◌, List, length, take}
use Rattle.std.specs.List.{AllByRecursion}
use Rattle.entry_ref.specs.References.{buffer_of}
use Rattle.entry_ref.specs.Records.{Records}
use Rattle.tree_read.specs.Trees.{last_key}
use Rattle.image_format.specs.Documents.{AreItemRecords}
use Rattle.image_format.specs.Postings.{ListForm, short, tree, vector, list_form}
use Rattle.image_format.specs.Values.{IsValueRecord}
use Rattle.attr_types.specs.declared.kind.Kind.{Kind}
use Rattle.attr_types.specs.declared.kind.ValueType.{ValueType}
use Rattle.compaction_moves.specs.DocumentMoves.{AreItemsApart}
use Rattle.compaction_steps.specs.declared.sights.Sight.{Sight}
use Rattle.compaction_steps.specs.declared.sights.Sight.TheVariants as sights

-- a list that is a single record lies outside the buffer; other lists are not covered
abbrev pub IsRecordApart : ℕ → ℕ → ListForm → Type 0
IsRecordApart bits buffer (short ref) = buffer_of bits ref ≢ buffer
IsRecordApart bits buffer (tree root) = ⊥
IsRecordApart bits buffer (vector root) = ⊥

-- what belongs to a pair's key lies outside the buffer: the value's record, the document's items, or the value's list
abbrev pub StandsApart : ℕ → ℕ → Kind → Records → Sight → ℕ × ℕ → Type 0
StandsApart bits buffer kind m sights.Key p = buffer_of bits p.0 ≢ buffer
StandsApart bits buffer kind m sights.Items p = AreItemsApart bits buffer kind m p.1
StandsApart bits buffer kind m sights.List p = IsRecordApart bits buffer (list_form p.1)

-- the conditions on a pair
pub record HasItemRecords (kind : Kind) (type : ValueType) (m : Records) (p : ℕ × ℕ) : Type 0 where
  pub few : p.1 < 2 ^ 32
  pub records : AreItemRecords kind type m p.1

abbrev pub IsPairOf : Kind → ValueType → Records → Sight → ℕ × ℕ → Type 0
IsPairOf kind type m sights.Key p = IsValueRecord type (m p.0)
IsPairOf kind type m sights.Items p = HasItemRecords kind type m p
IsPairOf kind type m sights.List p = Unit {0}

-- the first `count` pairs have the property, and the last of them has this key
pub record IsRun (P : ℕ × ℕ → Type 0) (pairs : List (ℕ × ℕ)) (count last : ℕ) : Type 0 where
  pub few : count ≤ length pairs
  pub all : AllByRecursion P (take count pairs)
  pub last_is : last ≡ last_key (take count pairs)
