use Rattle.std.proofs.Common.{◌≡◌, ◌+◌, ◌-◌, ◌/◌, ◌++◌, length, take}
use Rattle.image_format.specs.Values.{packed_bytes}
use Rattle.unique_store.proofs.bytes.pack.Given as goal

-- the words so far and those of the bytes that are left
abbrev pub invariant-loop-i : goal.invariant-loop-i
invariant-loop-i l = record {
  size : length l.words ≡ (length l.bytes + 7) / 8;
  so_far : take l.i l.words ++ packed_bytes ((length l.bytes + 7) / 8 - l.i) l.rest ≡ packed_bytes ((length l.bytes + 7) / 8) l.bytes;
}
