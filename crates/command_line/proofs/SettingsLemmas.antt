-- The settings of words, where the command takes them and where it does not.
use Rattle.std.proofs.Common.{◌≡◌, ◌∙◌, List, [], ◌∷◌, Result, Ok, Err, IfOk, ap, sym, subst, refl}
use Rattle.clap.specs.Walk.{Row, Text}
use Rattle.clap.specs.Simple.{matches_of}
use Rattle.clap.specs.declared.error.kind.ErrorKind.{ErrorKind}
use Rattle.clap.specs.declared.error.kind.ErrorKind.TheVariants as kinds
use Rattle.command_line.specs.CommandLine.{attr_app}
use Rattle.command_line.specs.Also.{◌>>=◌}
use Rattle.command_line.specs.Reading.{options_said, AnswersWords}
use Rattle.command_line.specs.Settings.{Says, settings_by, said_in, settings_in, said_or_refused, given_by, IsLawful, SettingsAreLawful}
use Rattle.command_line.specs.declared.options.Options.{Options}
use Rattle.command_line.specs.declared.settings.Settings.{Settings}
use Rattle.command_line.specs.declared.reading.WordsError.{WordsError}
use Rattle.command_line.specs.declared.reading.WordsError.TheVariants as errors

pub settings_taken : (line : List Text) (options : Options) (result : Result Settings WordsError)
    → AnswersWords line (Ok options) → Says given_by result (settings_by (options_said options))
    → Says given_by result (settings_in line)
unfolding settings_in said_in
settings_taken line options result (taken, said) says =
    subst (Says given_by result)
    (ap settings_by said ∙ sym (ap (λ faults. said_or_refused faults (matches_of attr_app line) >>= settings_by) taken)) says

refused_kind : (kind : ErrorKind) (rows : List Row) → (kind ≡ kinds.DisplayHelp → ⊥)
    → (said_or_refused (kind ∷ []) rows >>= settings_by) ≡ Err errors.Refused
refused_kind kinds.DisplayHelp rows other = absurd (other refl)
refused_kind kind rows other = refl

pub settings_refused : (line : List Text) (error : WordsError) → AnswersWords line (Err error)
    → Says given_by (Err error) (settings_in line)
unfolding settings_in said_in
settings_refused line errors.Help help = ap (λ faults. said_or_refused faults (matches_of attr_app line) >>= settings_by) help
settings_refused line errors.Refused (kind, other, refused) =
    ap (λ faults. said_or_refused faults (matches_of attr_app line) >>= settings_by) refused
    ∙ refused_kind kind (matches_of attr_app line) other
settings_refused line errors.Kind never = absurd never
settings_refused line errors.Value never = absurd never
settings_refused line (errors.Size buffers words) never = absurd never
settings_refused line (errors.Also place) never = absurd never
settings_refused line errors.Memory said = tt

pub lawful_by : (line : List Text) (result : Result Settings WordsError) → SettingsAreLawful
    → Says given_by result (settings_in line) → IfOk result (λ s. IsLawful (given_by s))
lawful_by line (Ok settings) law says = law line (given_by settings) says
lawful_by line (Err error) law says = tt
