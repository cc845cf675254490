-- Records before a given buffer and offset.
use Rattle.std.specs.Prelude.{ℕ, Bool, nat_eq, nat_lt, if◌then◌else◌, [], ◌&&◌, ◌||◌}
use Rattle.entry_ref.specs.References.{buffer_of, offset_of}
use Rattle.entry_ref.specs.Records.{Records}

-- the records of all buffers before this one, and those of this buffer before the offset
abbrev pub is_before : ℕ → ℕ → ℕ → ℕ → Bool
is_before bits buffer offset r = nat_lt (buffer_of bits r) buffer || (nat_eq (buffer_of bits r) buffer && nat_lt (offset_of bits r) offset)

abbrev pub those_before : ℕ → Records → ℕ → ℕ → Records
those_before bits m buffer offset r = if is_before bits buffer offset r then m r else []
