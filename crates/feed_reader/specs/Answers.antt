-- Checks one after another, and the results of the code beside them.
use Rattle.std.specs.Prelude.{◌≡◌, Option, Some, None, Result, Ok, Err}
use Rattle.feed_reader.specs.declared.refusal.Refusal.{Refusal}
use Rattle.feed_reader.specs.declared.refusal.LineError.{LineError}
use Rattle.feed_reader.specs.declared.refusal.LineError.TheVariants.{Refused, Memory}

-- the next check uses the result of the one before; the first that refuses decides
infixl 10 ◌>>=◌
abbrev pub ◌>>=◌ : {A B : Type 0} → Result A Refusal → (A → Result B Refusal) → Result B Refusal
(Ok x) >>= f = f x
(Err refusal) >>= f = Err refusal

-- what was found, otherwise the refusal
abbrev pub or_else : {A : Type 0} → Refusal → Option A → Result A Refusal
or_else refusal None = Err refusal
or_else refusal (Some x) = Ok x

-- an error is the specified refusal, unless memory was exhausted
abbrev pub ReadFails : {Y : Type 0} → LineError → Result Y Refusal → Type 0
ReadFails Memory said = Unit {0}
ReadFails (Refused refusal) said = said ≡ Err refusal

-- the result of a function, seen by `view`, is the specified one, unless memory was exhausted
abbrev pub ReadsAs : {X Y : Type 0} → (X → Y) → Result X LineError → Result Y Refusal → Type 0
ReadsAs view (Ok x) said = said ≡ Ok (view x)
ReadsAs view (Err e) said = ReadFails e said
