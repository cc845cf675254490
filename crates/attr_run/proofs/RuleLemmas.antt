-- Each refusal of the words comes exactly where its own rule says so.
use Rattle.std.proofs.Common.{◌≡◌, ◌⊎◌, inl, inr, ◌∙◌, sym, ap, refl, subst, ℕ, Bool, true, false, List, [], ◌∷◌, if◌then◌else◌}
use Rattle.std.proofs.Common.{Option, Some, None, IsSome, Result, Ok, Err, IfErr}
use Rattle.clap.specs.Walk.{Row, Text}
use Rattle.clap.specs.Simple.{matches_of}
use Rattle.clap.specs.Kinds.{Kinds}
use Rattle.clap.specs.Faults.{fault_of}
use Rattle.clap.specs.declared.error.kind.ErrorKind.TheVariants as kinds
use Rattle.std.specs.List.{AllByRecursion}
use Rattle.std.specs.Str.{IsUtf8}
use Rattle.attr_types.specs.declared.error.QueryError.{QueryError}
use Rattle.attr_types.specs.declared.field.Field.{Field}
use Rattle.attr_types.specs.declared.kind.Kind.{Kind}
use Rattle.attr_types.specs.declared.kind.ValueType.{ValueType}
use Rattle.attr_types.specs.Names.{kind_named, value_named}
use Rattle.command_line.specs.CommandLine.{attr_app}
use Rattle.command_line.specs.Reading.{Said, said_by, AreTaken}
use Rattle.command_line.specs.Also.{◌>>=◌, named_fields}
use Rattle.command_line.specs.Settings.{Given, or_refused, if_room, are_too_many, settings_by, said_or_refused, said_in, settings_in}
use Rattle.command_line.specs.declared.reading.WordsError.{WordsError}
use Rattle.command_line.specs.declared.reading.WordsError.TheVariants as words
use Rattle.attr_report.specs.Run.{Run}
use Rattle.attr_run.specs.Run.{refusal_of, given_or_refused, asked}
use Rattle.attr_run.specs.Settings.{QueriesAreRefused}
use Rattle.attr_run.specs.Refusals.{said_of, NamesNoKind, NamesNoValue, AsksTooMuch, NamesBadField, AsksBadQuery}
use Rattle.attr_run.specs.Steps.{Says, IsUnfed, IsRuledStop}
use Rattle.attr_run.specs.declared.outcome.Status.TheVariants.{Done, Help, Usage, BadFeed, ReadFault, WriteFault, Full, Memory}
use Rattle.attr_run.specs.declared.outcome.UsageCause.TheVariants as usage
use Rattle.attr_run.specs.declared.stop.Stop.{Stop}
use Rattle.attr_run.specs.declared.stop.Stop.TheVariants as stops
use Rattle.attr_run.proofs.HelpLemmas.{IsLate, IsAlso, only_also}
use Rattle.attr_run.proofs.AskedLemmas.{early-asked}

-- ---- one step

next_err : {A B : Type 0} (r : Result A WordsError) (next : A → Result B WordsError) (e : WordsError) → (r >>= next) ≡ Err e
    → (r ≡ Err e) ⊎ ((a : A) × (r ≡ Ok a) × (next a ≡ Err e))
next_err (Ok a) next e is = inr (a, refl, is)
next_err (Err other) next e is = inl cc

none_of : {A : Type 0} (error e : WordsError) (o : Option A) → or_refused error o ≡ Err e → (o ≡ None) × (error ≡ e)
none_of error e (Some a) is = absurd cc
none_of error e None is = (refl, cc)

same_ok : {A : Type 0} (a b : A) → (◌≡◌ {A = Result A WordsError} (Ok a) (Ok b)) → a ≡ b
same_ok a b is = cc

some_of : {A : Type 0} (error : WordsError) (o : Option A) (a : A) → or_refused error o ≡ Ok a → o ≡ Some a
some_of error (Some b) a is = ap (λ x. Some x) (same_ok b a is)
some_of error None a is = absurd cc

is_some_of : {A : Type 0} (o : Option A) (a : A) → o ≡ Some a → IsSome o
is_some_of o a is = subst IsSome (sym is) refl

some_is : {A : Type 0} (o : Option A) → IsSome o → (a : A) × (o ≡ Some a)
some_is (Some a) some = (a, refl)
some_is None some = absurd cc

too_many : (b : Bool) → (◌≡◌ {A = Option (Unit {0})} (if b then None else Some tt) None) → b ≡ true
too_many true is = refl
too_many false is = absurd cc

fits : (b : Bool) (x : Unit {0}) → (◌≡◌ {A = Option (Unit {0})} (if b then None else Some tt) (Some x)) → b ≡ false
fits true x is = absurd cc
fits false x is = refl

-- ---- the settings

abbrev first_of_said : Said → Kind → ValueType → Field
first_of_said said kind value = record { name = said.field; kind = kind; value = value }

-- at which step settings were refused
abbrev IsAtAlso : Said → WordsError → Kind → ValueType → Type 0
IsAtAlso said e kind value =
    ((are_too_many said.wide said.buffers said.words ≡ true) × (words.Size said.buffers said.words ≡ e))
    ⊎ ((are_too_many said.wide said.buffers said.words ≡ false) × (named_fields (first_of_said said kind value) said.also ≡ Err e))

abbrev IsAtValue : Said → WordsError → Kind → Type 0
IsAtValue said e kind =
    ((value_named said.value ≡ None) × (words.Value ≡ e))
    ⊎ ((value : ValueType) × (value_named said.value ≡ Some value) × IsAtAlso said e kind value)

abbrev IsAtKind : Said → WordsError → Type 0
IsAtKind said e =
    ((kind_named said.kind ≡ None) × (words.Kind ≡ e))
    ⊎ ((kind : Kind) × (kind_named said.kind ≡ Some kind) × IsAtValue said e kind)

at_fields : (said : Said) (e : WordsError) (r : Result (List Field) WordsError) (f : List Field → Given) → (r >>= (λ fields. Ok (f fields))) ≡ Err e → r ≡ Err e
at_fields said e (Ok fields) f is = absurd cc
at_fields said e (Err other) f is = cc

settings_err : (said : Said) (e : WordsError) → settings_by said ≡ Err e → IsAtKind said e
unfolding settings_by
settings_err said e is =
    (elim (next_err (or_refused words.Kind (kind_named said.kind)) _ e is) as (λ _. IsAtKind said e) [
      | inl none ↦ inl (none_of words.Kind e (kind_named said.kind) none)
      | inr kind ↦ inr (
        kind.0,
        some_of words.Kind (kind_named said.kind) kind.0 kind.1,
        (elim (next_err (or_refused words.Value (value_named said.value)) _ e kind.2) as (λ _. IsAtValue said e kind.0) [
          | inl none ↦ inl (none_of words.Value e (value_named said.value) none)
          | inr value ↦ inr (
            value.0,
            some_of words.Value (value_named said.value) value.0 value.1,
            (elim (next_err (or_refused (words.Size said.buffers said.words) (if_room said.wide said.buffers said.words)) _ e value.2) as (λ _. IsAtAlso said e kind.0 value.0) [
              | inl none ↦ inl (let at = none_of (words.Size said.buffers said.words) e (if_room said.wide said.buffers said.words) none in
                  (too_many (are_too_many said.wide said.buffers said.words) at.0, at.1))
              | inr room ↦ inr (
                fits (are_too_many said.wide said.buffers said.words) room.0 (some_of _ (if_room said.wide said.buffers said.words) room.0 room.1),
                at_fields said e (named_fields (first_of_said said kind.0 value.0) said.also) _ room.2,
              )
            ]),
          )
        ]),
      )
    ])

also_said : (first : Field) (also : Option Text) (e : WordsError) → named_fields first also ≡ Err e → IsAlso e
also_said first also e is = subst (λ (r : Result (List Field) WordsError). IfErr r IsAlso) is (only_also first also)

from_said : (faults : Kinds) (rows : List Row) (e : WordsError) → IsLate e → (said_or_refused faults rows >>= settings_by) ≡ Err e
    → (faults ≡ []) × (settings_by (said_by rows) ≡ Err e)
from_said [] rows e late is = (refl, is)
from_said (kinds.DisplayHelp ∷ more) rows e late is = let same : words.Help ≡ e = cc in absurd (subst IsLate (sym same) late)
from_said (kind ∷ more) rows e late is = let same : words.Refused ≡ e = cc in absurd (subst IsLate (sym same) late)

-- what was refused where words ask for no run
refused_at : (line : List Text) (e : WordsError) → IsLate e → settings_in line ≡ Err e → AreTaken line × IsAtKind (said_of line) e
unfolding settings_in said_in
refused_at line e late is =
    let at = from_said (fault_of attr_app line) (matches_of attr_app line) e late is in
    (at.0, settings_err (said_of line) e at.1)

-- ---- from what words ask for

kind_at : (line : List Text) → AreTaken line × IsAtKind (said_of line) words.Kind → NamesNoKind line
kind_at line (taken, inl at) = record { taken = taken; kind = at.0 }
kind_at line (taken, inr (kind, named, inl at)) = let same = at.1 in absurd cc
kind_at line (taken, inr (kind, named, inr (value, typed, inl at))) = let same = at.1 in absurd cc
kind_at line (taken, inr (kind, named, inr (value, typed, inr at))) = absurd (also_said _ _ _ at.1)

value_at : (line : List Text) → AreTaken line × IsAtKind (said_of line) words.Value → NamesNoValue line
value_at line (taken, inl at) = let same = at.1 in absurd cc
value_at line (taken, inr (kind, named, inl at)) = record { taken = taken; kind = is_some_of _ kind named; value = at.0 }
value_at line (taken, inr (kind, named, inr (value, typed, inl at))) = let same = at.1 in absurd cc
value_at line (taken, inr (kind, named, inr (value, typed, inr at))) = absurd (also_said _ _ _ at.1)

abbrev buffers_in : WordsError → ℕ
buffers_in (words.Size buffers each) = buffers
buffers_in _ = 0

abbrev words_in : WordsError → ℕ
words_in (words.Size buffers each) = each
words_in _ = 0

size_at : (line : List Text) (buffers each : ℕ) → AreTaken line × IsAtKind (said_of line) (words.Size buffers each) → AsksTooMuch line buffers each
size_at line buffers each (taken, inl at) = let same = at.1 in absurd cc
size_at line buffers each (taken, inr (kind, named, inl at)) = let same = at.1 in absurd cc
size_at line buffers each (taken, inr (kind, named, inr (value, typed, inl at))) =
    let b : (said_of line).buffers ≡ buffers = ap buffers_in at.1 in
    let w : (said_of line).words ≡ each = ap words_in at.1 in
    record {
      taken = taken;
      kind = is_some_of _ kind named;
      value = is_some_of _ value typed;
      buffers_are = sym b;
      words_are = sym w;
      many = sym (ap (λ n. are_too_many (said_of line).wide n (said_of line).words) b ∙ ap (λ n. are_too_many (said_of line).wide buffers n) w) ∙ at.0;
    }
size_at line buffers each (taken, inr (kind, named, inr (value, typed, inr at))) = absurd (also_said _ _ _ at.1)

also_at : (line : List Text) (place : ℕ) → AreTaken line × IsAtKind (said_of line) (words.Also place) → NamesBadField line place
also_at line place (taken, inl at) = let same = at.1 in absurd cc
also_at line place (taken, inr (kind, named, inl at)) = let same = at.1 in absurd cc
also_at line place (taken, inr (kind, named, inr (value, typed, inl at))) = let same = at.1 in absurd cc
also_at line place (taken, inr (kind, named, inr (value, typed, inr at))) = record {
  taken = taken;
  first = first_of_said (said_of line) kind value;
  name = refl;
  kind = named;
  value = typed;
  room = at.0;
  broken = at.1;
}

settings_at : (line : List Text) (e : WordsError) → IsLate e → asked line ≡ Err (refusal_of e) → AreTaken line × IsAtKind (said_of line) e
settings_at line e late is = refused_at line e late (early-asked line e late is)

pub kind-asked : (line : List Text) → asked line ≡ Err (Usage usage.KindName) → NamesNoKind line
kind-asked line is = kind_at line (settings_at line words.Kind tt is)

pub value-asked : (line : List Text) → asked line ≡ Err (Usage usage.ValueName) → NamesNoValue line
value-asked line is = value_at line (settings_at line words.Value tt is)

pub size-asked : (line : List Text) (buffers each : ℕ) → asked line ≡ Err (Usage (usage.Size buffers each)) → AsksTooMuch line buffers each
size-asked line buffers each is = size_at line buffers each (settings_at line (words.Size buffers each) tt is)

pub also-asked : (line : List Text) (place : ℕ) → asked line ≡ Err (Usage (usage.Also place)) → NamesBadField line place
also-asked line place is = also_at line place (settings_at line (words.Also place) tt is)

-- ---- to what words ask for

settings_of : (line : List Text) (r : Result Given WordsError) → AreTaken line → settings_by (said_of line) ≡ r → settings_in line ≡ r
unfolding settings_in said_in
settings_of line r taken is = ap (λ faults. said_or_refused faults (matches_of attr_app line) >>= settings_by) taken ∙ is

asked_refused : (line : List Text) (e : WordsError) → settings_in line ≡ Err e → asked line ≡ Err (refusal_of e)
unfolding asked
asked_refused line e is = rw (ap given_or_refused is) refl

no_kind : (said : Said) → kind_named said.kind ≡ None → settings_by said ≡ Err words.Kind
unfolding settings_by
no_kind said none = rw none refl

no_value : (said : Said) (kind : Kind) → kind_named said.kind ≡ Some kind → value_named said.value ≡ None → settings_by said ≡ Err words.Value
unfolding settings_by
no_value said kind named none = rw (named, none) refl

no_room : (said : Said) (kind : Kind) (value : ValueType) → kind_named said.kind ≡ Some kind → value_named said.value ≡ Some value
    → are_too_many said.wide said.buffers said.words ≡ true → settings_by said ≡ Err (words.Size said.buffers said.words)
unfolding settings_by
no_room said kind value named typed many = rw (named, typed, many) refl

no_field : (said : Said) (kind : Kind) (value : ValueType) (place : ℕ) → kind_named said.kind ≡ Some kind → value_named said.value ≡ Some value
    → are_too_many said.wide said.buffers said.words ≡ false → named_fields (first_of_said said kind value) said.also ≡ Err (words.Also place)
    → settings_by said ≡ Err (words.Also place)
unfolding settings_by
no_field said kind value place named typed room broken = rw (named, typed, room, broken) refl

pub asked-kind : (line : List Text) → NamesNoKind line → asked line ≡ Err (Usage usage.KindName)
asked-kind line is = asked_refused line words.Kind (settings_of line (Err words.Kind) is.taken (no_kind (said_of line) is.kind))

pub asked-value : (line : List Text) → NamesNoValue line → asked line ≡ Err (Usage usage.ValueName)
asked-value line is =
    let kind = some_is (kind_named (said_of line).kind) is.kind in
    asked_refused line words.Value (settings_of line (Err words.Value) is.taken (no_value (said_of line) kind.0 kind.1 is.value))

pub asked-size : (line : List Text) (buffers each : ℕ) → AsksTooMuch line buffers each → asked line ≡ Err (Usage (usage.Size buffers each))
asked-size line buffers each is =
    let kind = some_is (kind_named (said_of line).kind) is.kind in
    let value = some_is (value_named (said_of line).value) is.value in
    let b = sym is.buffers_are in
    let w = sym is.words_are in
    let many = ap (λ n. are_too_many (said_of line).wide n (said_of line).words) b ∙ ap (λ n. are_too_many (said_of line).wide buffers n) w ∙ is.many in
    asked_refused line (words.Size buffers each) (settings_of line (Err (words.Size buffers each)) is.taken
    (no_room (said_of line) kind.0 value.0 kind.1 value.1 many ∙ ap (λ n. Err (words.Size n (said_of line).words)) b ∙ ap (λ n. Err (words.Size buffers n)) w))

pub asked-also : (line : List Text) (place : ℕ) → NamesBadField line place → asked line ≡ Err (Usage (usage.Also place))
asked-also line place is =
    let broken = ap (λ name. named_fields (record { name = name; kind = is.first.kind; value = is.first.value }) (said_of line).also) (sym is.name) ∙ is.broken in
    asked_refused line (words.Also place) (settings_of line (Err (words.Also place)) is.taken
    (no_field (said_of line) is.first.kind is.first.value place is.kind is.value is.room broken))

pub asked-query : QueriesAreRefused → (line : List Text) (number : ℕ) (error : QueryError) → AsksBadQuery line number error
    → asked line ≡ Err (Usage (usage.Query number error))
asked-query law line number error is = (law line is.given number error is.is).always is.first

-- ---- a refused query

not_query : (e : WordsError) (number : ℕ) (error : QueryError) → refusal_of e ≡ Usage (usage.Query number error) → ⊥
not_query words.Help number error is = cc
not_query words.Refused number error is = cc
not_query words.Kind number error is = cc
not_query words.Value number error is = cc
not_query (words.Size buffers each) number error is = cc
not_query (words.Also place) number error is = cc
not_query words.Memory number error is = cc

never_query : (said : Result Given WordsError) (number : ℕ) (error : QueryError) → given_or_refused said ≡ Err (Usage (usage.Query number error)) → ⊥
never_query (Ok given) number error is = cc
never_query (Err e) number error is = let same : refusal_of e ≡ Usage (usage.Query number error) = cc in not_query e number error same

-- words that give no settings are refused by no query
pub ruled-settings : {A : Type 0} (shown : A → Given) (line : List Text) (stop : Stop) → Says shown (Err stop) (given_or_refused (settings_in line)) → IsRuledStop line stop
ruled-settings shown line (stops.Answer (Usage (usage.Query number error))) says = absurd (never_query (settings_in line) number error says)
ruled-settings shown line (stops.Answer (Usage usage.Words)) says = tt
ruled-settings shown line (stops.Answer (Usage usage.KindName)) says = tt
ruled-settings shown line (stops.Answer (Usage usage.ValueName)) says = tt
ruled-settings shown line (stops.Answer (Usage (usage.Size buffers each))) says = tt
ruled-settings shown line (stops.Answer (Usage (usage.Also place))) says = tt
ruled-settings shown line (stops.Answer Done) says = tt
ruled-settings shown line (stops.Answer Help) says = tt
ruled-settings shown line (stops.Answer (BadFeed fault)) says = tt
ruled-settings shown line (stops.Answer ReadFault) says = tt
ruled-settings shown line (stops.Answer WriteFault) says = tt
ruled-settings shown line (stops.Answer (Full operation active held)) says = tt
ruled-settings shown line (stops.Answer Memory) says = tt
ruled-settings shown line stops.Memory says = tt

-- and with settings by the first that the grammar refuses
pub ruled-query : {A : Type 0} (shown : A → Run) → QueriesAreRefused → (line : List Text) (given : Given) → settings_in line ≡ Ok given → AllByRecursion IsUtf8 given.queries
    → (stop : Stop) → Says shown (Err stop) (asked line) → IsRuledStop line stop
ruled-query shown law line given is utf8 (stops.Answer (Usage (usage.Query number error))) says =
    record { given = given; is = is; first = (law line given number error is).only utf8 says }
ruled-query shown law line given is utf8 (stops.Answer (Usage usage.Words)) says = tt
ruled-query shown law line given is utf8 (stops.Answer (Usage usage.KindName)) says = tt
ruled-query shown law line given is utf8 (stops.Answer (Usage usage.ValueName)) says = tt
ruled-query shown law line given is utf8 (stops.Answer (Usage (usage.Size buffers each))) says = tt
ruled-query shown law line given is utf8 (stops.Answer (Usage (usage.Also place))) says = tt
ruled-query shown law line given is utf8 (stops.Answer Done) says = tt
ruled-query shown law line given is utf8 (stops.Answer Help) says = tt
ruled-query shown law line given is utf8 (stops.Answer (BadFeed fault)) says = tt
ruled-query shown law line given is utf8 (stops.Answer ReadFault) says = tt
ruled-query shown law line given is utf8 (stops.Answer WriteFault) says = tt
ruled-query shown law line given is utf8 (stops.Answer (Full operation active held)) says = tt
ruled-query shown law line given is utf8 (stops.Answer Memory) says = tt
ruled-query shown law line given is utf8 stops.Memory says = tt

-- a feed's refusal is none of the words
pub ruled-unfed : (line : List Text) (run : Run) (left : Option (List ℕ)) (before now : ℕ) (stop : Stop) → IsUnfed run left before now stop → IsRuledStop line stop
ruled-unfed line run left before now (stops.Answer (BadFeed fault)) is = tt
ruled-unfed line run left before now (stops.Answer ReadFault) is = tt
ruled-unfed line run left before now (stops.Answer Done) is = absurd is
ruled-unfed line run left before now (stops.Answer Help) is = absurd is
ruled-unfed line run left before now (stops.Answer (Usage cause)) is = absurd is
ruled-unfed line run left before now (stops.Answer WriteFault) is = absurd is
ruled-unfed line run left before now (stops.Answer (Full operation active held)) is = absurd is
ruled-unfed line run left before now (stops.Answer Memory) is = absurd is
ruled-unfed line run left before now stops.Memory is = tt
