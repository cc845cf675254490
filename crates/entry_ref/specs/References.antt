-- References: the offset of an entry in its buffer and the number of that buffer, packed into one number.
use Rattle.std.specs.Prelude.{ℕ, ◌+◌, ◌-◌, ◌*◌, ◌/◌, ◌%◌, ◌^◌}

-- offsets are below this, if `bits` of the 32 bits of a reference hold the offset
abbrev pub offset_limit : ℕ → ℕ
offset_limit bits = 2 ^ bits

-- numbers of buffers are below this; they take the remaining bits
abbrev pub buffer_limit : ℕ → ℕ
buffer_limit bits = 2 ^ (32 - bits)

-- the reference of an offset in a buffer
abbrev pub packed : ℕ → ℕ → ℕ → ℕ
packed bits offset buffer = offset * buffer_limit bits + buffer

-- the offset that a reference names
abbrev pub offset_of : ℕ → ℕ → ℕ
offset_of bits ref = ref / buffer_limit bits

-- the buffer that a reference names
abbrev pub buffer_of : ℕ → ℕ → ℕ
buffer_of bits ref = ref % buffer_limit bits
