-- The attributes of further fields, one after another.
use Rattle.std.proofs.Common.{◌≡◌, List, [], ◌∷◌, ◌++◌, Result, Ok, Err, ap, refl}
use Rattle.attr_types.specs.declared.field.Field.{Field}
use Rattle.command_line.specs.Also.{◌>>=◌, Piece, next_field, fields_from}
use Rattle.command_line.specs.Settings.{Says}
use Rattle.command_line.specs.declared.reading.WordsError.{WordsError}
use Rattle.command_line.specs.declared.reading.WordsError.TheVariants as errors

-- where a step is refused, so is the chain that begins with it
pub stopped : {A B C D : Type 0} (f : A → B) (g : C → D) (error : WordsError) (r : Result B WordsError)
    (next : B → Result D WordsError) → Says f (Err error) r → Says g (Err error) (r >>= next)
stopped f g errors.Help r next e = ap (λ s. s >>= next) e
stopped f g errors.Refused r next e = ap (λ s. s >>= next) e
stopped f g errors.Kind r next e = ap (λ s. s >>= next) e
stopped f g errors.Value r next e = ap (λ s. s >>= next) e
stopped f g (errors.Size buffers words) r next e = ap (λ s. s >>= next) e
stopped f g (errors.Also place) r next e = ap (λ s. s >>= next) e
stopped f g errors.Memory r next e = tt

pub fields_stopped : (error : WordsError) (before : List Field) (piece : Piece) (more : List Piece)
    → Says (λ (field : Field). field) (Err error) (next_field before piece)
    → Says (λ (fields : List Field). fields) (Err error) (fields_from before (piece ∷ more))
unfolding fields_from
fields_stopped error before piece more e =
    stopped (λ (field : Field). field) (λ (fields : List Field). fields) error (next_field before piece)
    (λ field. fields_from (before ++ field ∷ []) more) e

pub fields_next : (before : List Field) (piece : Piece) (more : List Piece) (field : Field)
    → next_field before piece ≡ Ok field → fields_from before (piece ∷ more) ≡ fields_from (before ++ field ∷ []) more
unfolding fields_from
fields_next before piece more field e = ap (λ r. r >>= λ field. fields_from (before ++ field ∷ []) more) e

pub fields_end : (before : List Field) → fields_from before [] ≡ Ok before
unfolding fields_from
fields_end before = refl
