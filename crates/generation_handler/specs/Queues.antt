-- The queue of open holds, from the oldest to the newest.
use Rattle.std.specs.Prelude.{◌≡◌, ◌≢◌, ℕ, ◌-◌, ◌<◌, List, [], ◌∷◌, ◌++◌, length, take, slice_index_or, Bool, true, false, nat_eq, All}
use Rattle.std.specs.Prelude.{AllPairs}
use Rattle.std.specs.List.{list_any}
use Rattle.generation_handler.specs.declared.HoldEntry.{HoldEntry}
use Rattle.generation_handler.specs.declared.TheConstants.{HOLDS}

-- generation 0 on hold 0, with first commit 0
abbrev pub first_entry : HoldEntry
first_entry = record { generation = 0; hold = 0; first_commit = 0 }

abbrev pub oldest_of : List HoldEntry → HoldEntry
oldest_of queue = slice_index_or queue 0 first_entry

abbrev pub newest_of : List HoldEntry → HoldEntry
newest_of queue = slice_index_or queue (length queue - 1) first_entry

-- the queue after its newest hold takes another generation and first commit
abbrev pub renewed : List HoldEntry → ℕ → ℕ → List HoldEntry
renewed queue generation first_commit =
    take (length queue - 1) queue ++ record (newest_of queue) { generation = generation; first_commit = first_commit } ∷ []

-- whether the hold is open
abbrev pub has_hold : List HoldEntry → ℕ → Bool
has_hold queue hold = list_any (λ entry. nat_eq entry.hold hold) queue

-- at least one hold is open, each number is below 16, and none occurs twice
pub record IsQueue (queue : List HoldEntry) : Type 0 where
  pub some : 0 < length queue
  pub below : All (λ entry. entry.hold < HOLDS) queue
  pub apart : AllPairs (λ older newer. older.hold ≢ newer.hold) queue

-- the closed hold with the lowest number
pub record IsLeastClosed (queue : List HoldEntry) (hold : ℕ) : Type 0 where
  pub below : hold < HOLDS
  pub closed : has_hold queue hold ≡ false
  pub lower : (k : ℕ) → k < hold → has_hold queue k ≡ true
