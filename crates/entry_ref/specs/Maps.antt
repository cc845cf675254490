-- A map from numbers of 32 bits to words, seen as records.
use Rattle.std.specs.Prelude.{ℕ, List, [], if◌then◌else◌, ◌^◌, nat_lt, Option, Some, None, Vec}
use Rattle.std.specs.BTreeMap.{BTreeMap, get}
use Rattle.std.specs.Ordering.{nat_cmp}
use Rattle.std.specs.declared.alloc.Global.{Global}
use Rattle.entry_ref.specs.Records.{Records}

-- the words in a map's answer, or none
abbrev pub words_of : Option (Vec ℕ Global) → List ℕ
words_of None = []
words_of (Some words) = words.items

-- the words at each reference; a number of more than 32 bits is not in the map
abbrev pub seen : BTreeMap ℕ (Vec ℕ Global) → Records
seen map ref = if nat_lt ref (2 ^ 32) then words_of (get nat_cmp map ref) else []
