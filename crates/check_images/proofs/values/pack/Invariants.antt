use Rattle.std.proofs.Common.{◌≡◌, ◌+◌, ◌-◌, ◌/◌, ◌++◌, length}
use Rattle.image_format.specs.Values.{packed_bytes}
use Rattle.check_images.proofs.values.pack.Given as goal

-- the words so far and those of the bytes that are left
abbrev pub invariant-loop-i : goal.invariant-loop-i
invariant-loop-i l = l.words.items ++ packed_bytes ((length l.bytes + 7) / 8 - l.i) l.rest ≡ packed_bytes ((length l.bytes + 7) / 8) l.bytes
