use Rattle.std.proofs.Common.{◌≡◌, take}
use Rattle.std.specs.Int.{to_be_bytes, w64}
use Rattle.std.specs.List.{flat_map}
use Rattle.check_images.proofs.keys.stored_text.Given as goal

abbrev pub invariant-loop-word : goal.invariant-loop-word
invariant-loop-word l = l.bytes.items ≡ flat_map (to_be_bytes w64) (take l.word-index l.rest)
