-- How the list is stored: the entries, and the runs of entries with the same tag. Callers need only specs/Held.
use Rattle.std.specs.Prelude.{◌≡◌, ℕ, ◌-◌, ◌<◌, ◌≤◌, List, [], ◌∷◌, ◌++◌, length, map, take, drop, remove, slice_set, slice_index_or}
use Rattle.std.specs.Prelude.{sum_by, All, AllPairs, Some, Bool, true, nat_eq, if◌then◌else◌}
use Rattle.hold_lists.specs.Held.{HeldEntry, untagged}
use Rattle.hold_lists.specs.declared.Run.{Run}
use Rattle.hold_lists.specs.declared.RunPlace.{RunPlace}

abbrev pub nth_run : List Run → ℕ → Run
nth_run runs i = slice_index_or runs i (record { generation = 0; commit = 0; count = 0 })

-- an entry of a run
abbrev pub under : Run → ℕ → HeldEntry
under run entry = record { entry = entry; tag = Some (record { generation = run.generation; commit = run.commit }) }

-- the entries of the runs in order, followed by the untagged ones
abbrev pub held_of : List Run → List ℕ → List HeldEntry
held_of [] entries = map untagged entries
held_of (run ∷ runs) entries = map (under run) (take run.count entries) ++ held_of runs (drop run.count entries)

-- the number of tagged entries
abbrev pub tagged_count : List Run → ℕ
tagged_count runs = sum_by (λ run. run.count) runs

-- no run has a lower generation than a run before it
pub record IsRising (runs : List Run) : Type 0 where
  pub rises : AllPairs (λ older newer. older.generation ≤ newer.generation) runs

-- the runs after one of them loses an entry; a run without entries is removed
abbrev pub shortened : List Run → ℕ → List Run
shortened runs i =
    if nat_eq (nth_run runs i).count 1 then remove runs i else
    slice_set runs i (record (nth_run runs i) { count = (nth_run runs i).count - 1 })

-- the first run below a generation, with the number of entries before it
pub record IsRunBelow (runs : List Run) (oldest : ℕ) (place : RunPlace) : Type 0 where
  pub inside : place.run < length runs
  pub before : place.before ≡ tagged_count (take place.run runs)
  pub below : (nth_run runs place.run).generation < oldest
  pub earlier : (k : ℕ) → k < place.run → oldest ≤ (nth_run runs k).generation

-- the invariant of a list
pub record IsHoldList (runs : List Run) (entries : List ℕ) (tagged most : ℕ) (rises : Bool) (entry_capacity run_capacity : ℕ) : Type 0 where
  pub counted : tagged_count runs ≡ tagged
  pub within : tagged ≤ length entries
  pub filled : All (λ run. 0 < run.count) runs
  pub room : length entries ≤ most
  pub entry_room : most ≤ entry_capacity
  pub run_room : most ≤ run_capacity
  pub rising : rises ≡ true → IsRising runs
