-- The buffers of a store by number, and how each call changes them.
use Rattle.std.specs.Prelude.{◌≡◌, ℕ, ◌+◌, ◌-◌, ◌*◌, ◌<◌, ◌≤◌, ◌&&◌, Bool, true, false, nat_eq, nat_lt, not, if◌then◌else◌, List, map}
use Rattle.std.specs.Prelude.{length, slice_set, slice_index_or, sum_by}
use Rattle.buffer_states.specs.declared.BufferState.{BufferState}
use Rattle.buffer_states.specs.declared.BufferState.TheVariants.{Free, Active, OnHold}
use Rattle.buffer_states.specs.declared.Buffer.{Buffer}
use Rattle.buffer_states.specs.declared.WordCounts.{WordCounts}

-- a free buffer with all numbers 0
abbrev pub new_buffer : Buffer
new_buffer = record {
  state = Free;
  width = 0;
  used = 0;
  dead = 0;
  dropped = 0;
  held = 0;
  generation = 0;
  filled = false;
  sealed = false;
}

-- buffer b
abbrev pub buffer_at : List Buffer → ℕ → Buffer
buffer_at buffers b = slice_index_or buffers b new_buffer

abbrev pub is_state_free : BufferState → Bool
is_state_free Free = true
is_state_free Active = false
is_state_free OnHold = false

abbrev pub is_state_active : BufferState → Bool
is_state_active Free = false
is_state_active Active = true
is_state_active OnHold = false

abbrev pub is_on_hold : BufferState → Bool
is_on_hold Free = false
is_on_hold Active = false
is_on_hold OnHold = true

-- a buffer of this width is no longer being filled
abbrev pub end_filling : ℕ → Buffer → Buffer
end_filling width buffer = record buffer { filled = buffer.filled && not (nat_eq buffer.width width) }

-- an active buffer of this width that is being filled; its first entry is reserved
abbrev pub filled_buffer : ℕ → Buffer
filled_buffer width = record new_buffer { state = Active; width = width; used = width; filled = true }

-- buffer b becomes active, as the one of its width that is being filled
abbrev pub activated : List Buffer → ℕ → ℕ → List Buffer
activated buffers b width = slice_set (map (end_filling width) buffers) b (filled_buffer width)

-- the buffers after the counts of one change
abbrev pub with_counts : List Buffer → ℕ → ℕ → ℕ → ℕ → List Buffer
with_counts buffers b used dead held =
    slice_set buffers b (record (buffer_at buffers b) { used = used; dead = dead; dropped = 0; held = held })

-- the next offset of a buffer is taken
abbrev pub with_next : List Buffer → ℕ → List Buffer
with_next buffers b =
    let buffer = buffer_at buffers b in slice_set buffers b (record buffer { used = buffer.used + buffer.width })

-- a free entry is taken, or an entry becomes free
abbrev pub with_taken : List Buffer → ℕ → List Buffer
with_taken buffers b =
    let buffer = buffer_at buffers b in slice_set buffers b (record buffer { dead = buffer.dead - buffer.width })

abbrev pub with_given : List Buffer → ℕ → List Buffer
with_given buffers b =
    let buffer = buffer_at buffers b in slice_set buffers b (record buffer { dead = buffer.dead + buffer.width })

-- an entry of the last commit is dropped, or its drop is undone
abbrev pub with_dropped : List Buffer → ℕ → List Buffer
with_dropped buffers b =
    let buffer = buffer_at buffers b in
    slice_set buffers b (record buffer { dead = buffer.dead + buffer.width; dropped = buffer.dropped + buffer.width })

abbrev pub with_kept : List Buffer → ℕ → List Buffer
with_kept buffers b =
    let buffer = buffer_at buffers b in
    slice_set buffers b (record buffer { dead = buffer.dead - buffer.width; dropped = buffer.dropped - buffer.width })

-- dropped entries become held
abbrev pub with_dropped_held : Buffer → Buffer
with_dropped_held buffer = record buffer { held = buffer.held + buffer.dropped; dropped = 0 }

-- a held entry becomes free
abbrev pub with_released : List Buffer → ℕ → List Buffer
with_released buffers b =
    let buffer = buffer_at buffers b in slice_set buffers b (record buffer { held = buffer.held - buffer.width })

abbrev pub sealed_at : List Buffer → ℕ → List Buffer
sealed_at buffers b = slice_set buffers b (record (buffer_at buffers b) { sealed = true })

abbrev pub unsealed_at : List Buffer → ℕ → List Buffer
unsealed_at buffers b = slice_set buffers b (record (buffer_at buffers b) { sealed = false })

-- buffer b goes on hold with this generation, and has no entries any more
abbrev pub on_hold_at : List Buffer → ℕ → ℕ → List Buffer
on_hold_at buffers b generation =
    slice_set buffers b (record new_buffer { state = OnHold; width = (buffer_at buffers b).width; generation = generation })

abbrev pub freed_at : List Buffer → ℕ → List Buffer
freed_at buffers b = slice_set buffers b new_buffer

-- a buffer on hold below this generation becomes free
abbrev pub freed_below : ℕ → Buffer → Buffer
freed_below oldest buffer = if is_on_hold buffer.state && nat_lt buffer.generation oldest then new_buffer else buffer

-- the words of all buffers together
abbrev pub words_of : List Buffer → WordCounts
words_of buffers = record {
  used = sum_by (λ (buffer : Buffer). buffer.used) buffers;
  dead = sum_by (λ (buffer : Buffer). buffer.dead) buffers;
  held = sum_by (λ (buffer : Buffer). buffer.held) buffers;
}

-- an active buffer that is neither being filled nor sealed, and of whose used words more than one in twenty is dead
abbrev pub is_candidate : Buffer → Bool
is_candidate buffer = is_state_active buffer.state && not buffer.filled && not buffer.sealed && nat_lt buffer.used (buffer.dead * 20)

-- the dead words of a candidate
abbrev pub gain_of : Buffer → ℕ
gain_of buffer = if is_candidate buffer then buffer.dead else 0

-- the candidate with the most dead words, and the first among equals
pub record IsVictim (buffers : List Buffer) (b : ℕ) : Type 0 where
  pub below : b < length buffers
  pub candidate : is_candidate (buffer_at buffers b) ≡ true
  pub most : (a : ℕ) → a < length buffers → is_candidate (buffer_at buffers a) ≡ true
      → (buffer_at buffers a).dead ≤ (buffer_at buffers b).dead
  pub first : (a : ℕ) → a < b → is_candidate (buffer_at buffers a) ≡ true → (buffer_at buffers a).dead < (buffer_at buffers b).dead

-- the free buffer with the lowest number
pub record IsLowestFree (buffers : List Buffer) (b : ℕ) : Type 0 where
  pub below : b < length buffers
  pub free : is_state_free (buffer_at buffers b).state ≡ true
  pub lowest : (a : ℕ) → a < b → is_state_free (buffer_at buffers a).state ≡ false
