-- What reads take from the known bytes of a source, and what writes add to those of a sink. With `None` the bytes are
-- unknown, and nothing is claimed about them.
use Rattle.std.specs.Prelude.{◌≡◌, ℕ, ◌+◌, ◌<◌, ◌≤◌, List, ◌++◌, length, take, flat_map, All, Result, IfOk, IfSome}
use Rattle.std.specs.declared.option.Option.{Option}
use Rattle.std.specs.Io.KnownBytes.{Appends, Consumes}

-- a write takes at least one byte of the piece, and at most all
abbrev pub TakesSome : {E : Type 0} → Result ℕ E → List ℕ → Type 0
TakesSome result piece = IfOk result (λ n. (0 < n) × (n ≤ length piece))

-- known bytes grow by a front of the text, but not by all of it
abbrev pub AppendsFront : Option (List ℕ) → Option (List ℕ) → List ℕ → Type 0
AppendsFront old new text = (n : ℕ) × (n < length text) × Appends old new (take n text)

-- the number of bytes that one read asks for
abbrev pub piece_bytes : ℕ
piece_bytes = 65536

-- pieces, one after another
abbrev pub joined : List (List ℕ) → List ℕ
joined pieces = flat_map (λ got. got) pieces

-- Known bytes lose their front to reads, piece by piece. Each read but the last took at least one byte: `pieces` are
-- their results, which are together within the limit. So at most `limit` bytes were read before the last read. Its
-- result is `last`, of at most one piece. The number of reads is bounded in the same way, whether the bytes are known
-- or not.
pub record ReadsPieces (limit piece : ℕ) (old new : Option (List ℕ)) (reads_old reads_new : ℕ) : Type 0 where
  pub pieces : List (List ℕ)
  pub last : List ℕ
  pub taken : Consumes old new (joined pieces ++ last)
  pub some : All (λ got. 0 < length got) pieces
  pub within : length (joined pieces) ≤ limit
  pub short : length last ≤ piece
  pub count : reads_new ≤ reads_old + length pieces + 1

-- the property holds of some bytes; if the source knows its bytes, of these
abbrev pub OfBytes : Option (List ℕ) → (List ℕ → Type 0) → Type 0
OfBytes left P = (bytes : List ℕ) × IfSome left (λ told. told ≡ bytes) × P bytes

-- there are more bytes than this number
abbrev pub HasMoreThan : ℕ → Option (List ℕ) → Type 0
HasMoreThan most left = OfBytes left (λ bytes. most < length bytes)
