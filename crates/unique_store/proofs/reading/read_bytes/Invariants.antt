use Rattle.std.proofs.Common.{◌≡◌, take, drop}
use Rattle.std.specs.Int.{to_be_bytes, w64}
use Rattle.std.specs.List.{flat_map}
use Rattle.unique_store.proofs.reading.read_bytes.Given as goal

-- the bytes of the words so far
abbrev pub invariant-loop-i : goal.invariant-loop-i
invariant-loop-i g l = record {
  same : l.frozen ≡ l.fn.frozen;
  so_far : l.bytes.items ≡ flat_map (to_be_bytes w64) (take l.i (drop 1 (g.F.Frozen.records l.fn.frozen l.stored)));
}
