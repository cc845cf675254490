-- The entries of a memory: all, or those that were stored whole since a stamp.
use Rattle.std.specs.Prelude.{ℕ, Bool, true, nat_eq, if◌then◌else◌, List, [], ◌∷◌, Option, Some, None}
use Rattle.entry_ref.specs.Records.{Records}
use Rattle.mem_work.specs.Cells.{standing, is_whole}

-- whether each word of an entry was stored since this stamp, if one is given
abbrev pub is_chosen : Option ℕ → List ℕ → List ℕ → ℕ → ℕ → ℕ → ℕ → Bool
is_chosen None table stamps bits buffers words r = true
is_chosen (Some since) table stamps bits buffers words r = is_whole table stamps bits buffers words since r

-- the requested entries with their words
abbrev pub chosen : Option ℕ → List ℕ → List ℕ → ℕ → ℕ → ℕ → Records
chosen since table stamps bits buffers words r =
    if is_chosen since table stamps bits buffers words r then standing table bits buffers words r else []

-- the records after those with these references are replaced
abbrev pub with_those : List ℕ → Records → Records → Records
with_those [] m n q = n q
with_those (r ∷ rs) m n q = if nat_eq q r then m r else with_those rs m n q
