-- The statuses of entries. Each offset of an active buffer has one.
use Rattle.std.specs.Prelude.{ℕ, Bool, true, false, nat_eq, nat_lt, if◌then◌else◌}
use Rattle.arena_api.specs.Works.{Tag}

pub data Status : Type 0 where
  -- not taken; also every entry of a buffer that is not active
  unmade : Status
  -- taken, with none of the statuses below
  free : Status
  -- made since the last commit
  pending : Status
  -- in the last commit, and not dropped since
  live : Status
  -- in the last commit, and dropped since
  dropped : Status
  -- pending before the open unit, which dropped it
  let_go : Status
  -- dropped before the last commit, with the tag of the commit that followed
  held : Tag → Status
  -- in use in a sealed buffer when a commit left it out; it disappears with the buffer
  left : Status

-- pending or live
abbrev pub in_use : Status → Bool
in_use Status.pending = true
in_use Status.live = true
in_use status = false

-- in the last commit, pending or let go
abbrev pub has_record : Status → Bool
has_record Status.pending = true
has_record Status.live = true
has_record Status.dropped = true
has_record Status.let_go = true
has_record status = false

-- in the last commit
abbrev pub is_committed : Status → Bool
is_committed Status.live = true
is_committed Status.dropped = true
is_committed status = false

-- in no kept commit
abbrev pub is_uncommitted : Status → Bool
is_uncommitted Status.unmade = true
is_uncommitted Status.free = true
is_uncommitted Status.pending = true
is_uncommitted Status.let_go = true
is_uncommitted status = false

-- free or unmade: a make can take it
abbrev pub is_open : Status → Bool
is_open Status.unmade = true
is_open Status.free = true
is_open status = false

abbrev pub is_free_status : Status → Bool
is_free_status Status.free = true
is_free_status status = false

abbrev pub is_held_status : Status → Bool
is_held_status (Status.held tag) = true
is_held_status status = false

abbrev pub is_let_go : Status → Bool
is_let_go Status.let_go = true
is_let_go status = false

-- taken, and free, dropped or held
abbrev pub is_dead : Status → Bool
is_dead Status.free = true
is_dead Status.dropped = true
is_dead (Status.held tag) = true
is_dead status = false

abbrev pub is_taken : Status → Bool
is_taken Status.unmade = false
is_taken status = true

-- what can become free: an unmade offset that is taken, or a held entry
abbrev pub can_become_free : Status → Bool
can_become_free Status.unmade = true
can_become_free (Status.held tag) = true
can_become_free status = false

-- the status of an entry after a drop, by its status and the one that an undo would restore
abbrev pub after_drop : Status → Status → Status
after_drop Status.live back = Status.dropped
after_drop Status.pending Status.pending = Status.let_go
after_drop Status.pending back = Status.free
after_drop status back = status

-- when a unit is accepted, what it let go becomes free
abbrev pub after_accept : Status → Status
after_accept Status.let_go = Status.free
after_accept status = status

-- the status after a commit with this tag, by whether the commit has the entry
abbrev pub after_commit : Tag → Bool → Status → Status
after_commit tag has Status.pending = if has then Status.live else Status.left
after_commit tag has Status.live = if has then Status.live else Status.left
after_commit tag has Status.dropped = Status.held tag
after_commit tag has status = status

-- what is held with a tag below a generation becomes free
abbrev pub free_below : ℕ → Status → Status
free_below generation (Status.held tag) = if nat_lt tag.generation generation then Status.free else Status.held tag
free_below generation status = status

-- one entry has another status
abbrev pub with_status : (ℕ → Status) → ℕ → Status → ℕ → Status
with_status statuses r new q = if nat_eq q r then new else statuses q
