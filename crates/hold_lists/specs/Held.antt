-- The list of dropped entries as callers see it.
use Rattle.std.specs.Prelude.{ℕ, List, [], ◌∷◌, Option, None, Some, Bool, false, nat_lt, if◌then◌else◌}

-- the generation and the commit of a tag
pub record HoldTag : Type 0 where
  pub generation : ℕ
  pub commit : ℕ

-- a dropped entry, by its reference, and its tag if it has one
pub record HeldEntry : Type 0 where
  pub entry : ℕ
  pub tag : Option HoldTag

-- the entries in order, and how many more fit in the reserved space
pub record HeldList : Type 0 where
  pub held : List HeldEntry
  pub room : ℕ

abbrev pub untagged : ℕ → HeldEntry
untagged entry = record { entry = entry; tag = None }

-- an untagged entry gets the tag, and any other entry keeps its own
abbrev pub tag_or : HoldTag → Option HoldTag → Option HoldTag
tag_or new None = Some new
tag_or new (Some old) = Some old

abbrev pub tagged_by : ℕ → ℕ → HeldEntry → HeldEntry
tagged_by generation commit held = record held { tag = tag_or (record { generation = generation; commit = commit }) held.tag }

-- the tag has a generation below this one
abbrev pub is_tag_below : ℕ → Option HoldTag → Bool
is_tag_below oldest None = false
is_tag_below oldest (Some tag) = nat_lt tag.generation oldest

abbrev pub is_below : ℕ → HeldEntry → Bool
is_below oldest held = is_tag_below oldest held.tag

-- the list without the first entry that passes the test
abbrev pub without_first : (HeldEntry → Bool) → List HeldEntry → List HeldEntry
without_first passes [] = []
without_first passes (held ∷ more) = if passes held then more else (held ∷ without_first passes more)
