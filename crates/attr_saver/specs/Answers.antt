-- The results of calls, compared with the grammar.
use Rattle.std.specs.Prelude.{ℕ, ◌≡◌, Result, Ok, Err}
use Rattle.attr_io.specs.declared.reading.ReadError.{ReadError}
use Rattle.attr_io.specs.declared.reading.ReadError.TheVariants as reading
use Rattle.attr_saver.specs.declared.error.Broken.{Broken}
use Rattle.attr_saver.specs.declared.error.Broken.TheVariants as broken
use Rattle.attr_saver.specs.declared.error.LoadError.{LoadError}
use Rattle.attr_saver.specs.declared.error.LoadError.TheVariants as loading
use Rattle.attr_saver.specs.declared.saved.Saved.{Saved}

-- a refusal is that of the grammar, unless memory was exhausted
abbrev pub Fails : {A : Type 0} → Broken → Result A ℕ → Type 0
Fails (broken.Field left) wanted = wanted ≡ Err left
Fails broken.Memory wanted = Unit {0}

-- the result, seen by `view`, is what the grammar says, unless memory was exhausted
abbrev pub Gives : {A B : Type 0} → (A → B) → Result A Broken → Result B ℕ → Type 0
Gives view (Ok a) wanted = wanted ≡ Ok (view a)
Gives view (Err error) wanted = Fails error wanted

-- a save that was read, or the place of a bad field, is what the grammar says; after a fault or exhausted memory
-- nothing is claimed
abbrev pub ReadsAs : Result Saved LoadError → Result Saved ℕ → Type 0
ReadsAs (Ok saved) wanted = wanted ≡ Ok saved
ReadsAs (Err (loading.BadForm place)) wanted = wanted ≡ Err place
ReadsAs (Err loading.ReadFault) wanted = Unit {0}
ReadsAs (Err loading.Memory) wanted = Unit {0}

-- more bytes than the machine can hold count as exhausted memory
abbrev pub load_error_of : ReadError → LoadError
load_error_of reading.Fault = loading.ReadFault
load_error_of reading.TooLong = loading.Memory
load_error_of reading.Memory = loading.Memory
