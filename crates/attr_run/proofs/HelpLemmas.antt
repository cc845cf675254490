-- Words that ask for help, or that the command refuses, by what is read of them.
use Rattle.std.proofs.Common.{◌≡◌, ◌≢◌, ◌≤◌, ◌∙◌, ap, refl, Bool, true, false, cond, List, [], ◌∷◌, ◌++◌, length, nat_lt}
use Rattle.std.proofs.Common.{Option, Some, None, Result, Ok, Err, IfErr, subst, arith, slice_get}
use Rattle.clap.specs.Walk.{Row, Text}
use Rattle.clap.specs.Simple.{matches_of}
use Rattle.clap.specs.Faults.{fault_of}
use Rattle.clap.specs.Kinds.{Kinds}
use Rattle.clap.specs.declared.error.kind.ErrorKind.{ErrorKind}
use Rattle.clap.specs.declared.error.kind.ErrorKind.TheVariants as kinds
use Rattle.attr_types.specs.declared.field.Field.{Field}
use Rattle.attr_types.specs.Names.{kind_named, value_named}
use Rattle.command_line.specs.CommandLine.{attr_app}
use Rattle.command_line.specs.Reading.{Said, said_by, AskForHelp, AreRefused}
use Rattle.command_line.specs.Also.{◌>>=◌, Piece, pieces, part_at, new_name, or_broken, or_surplus, field_of_parts}
use Rattle.command_line.specs.Also.{field_in, next_field, fields_from, named_fields}
use Rattle.command_line.specs.Settings.{Given, or_refused, if_room, settings_by, said_or_refused, said_in, settings_in}
use Rattle.command_line.specs.declared.reading.WordsError.{WordsError}
use Rattle.command_line.specs.declared.reading.WordsError.TheVariants as words

-- a refusal of what the options say
abbrev pub IsLate : WordsError → Type 0
IsLate words.Help = ⊥
IsLate words.Refused = ⊥
IsLate _ = Unit {0}

-- a refusal of the text of `--also`
abbrev pub IsAlso : WordsError → Type 0
IsAlso (words.Also place) = Unit {0}
IsAlso _ = ⊥

err_next : {A B : Type 0} (P : WordsError → Type 0) (r : Result A WordsError) (next : A → Result B WordsError) → IfErr r P
    → ((a : A) → IfErr (next a) P) → IfErr (r >>= next) P
err_next P (Ok a) next here after = after a
err_next P (Err error) next here after = here

also_part : {A : Type 0} (part : Piece) (o : Option A) → IfErr (or_broken part o) IsAlso
also_part part (Some a) = tt
also_part part None = tt

also_surplus : (o : Option Piece) (field : Field) → IfErr (or_surplus o field) IsAlso
also_surplus None field = tt
also_surplus (Some part) field = tt

also_parts : (before : List Field) (whole : Piece) (parts : List Piece) → IfErr (field_of_parts before whole parts) IsAlso
also_parts before whole parts =
    err_next IsAlso _ _ (also_part (part_at whole parts 0) (new_name before (part_at whole parts 0).text)) (λ name.
    err_next IsAlso _ _ (also_part (part_at whole parts 1) (kind_named (part_at whole parts 1).text)) (λ kind.
    err_next IsAlso _ _ (also_part (part_at whole parts 2) (value_named (part_at whole parts 2).text)) (λ value.
    also_surplus (slice_get parts 3) (record { name = name; kind = kind; value = value }))))

also_if : (b : Bool) (before : List Field) (piece : Piece)
    → IfErr (cond b (field_of_parts before piece (pieces 58 piece)) (Err (words.Also piece.place))) IsAlso
also_if true before piece = also_parts before piece (pieces 58 piece)
also_if false before piece = tt

also_field : (before : List Field) (piece : Piece) → IfErr (next_field before piece) IsAlso
unfolding next_field field_in
also_field before piece = also_if (nat_lt (length before) 8) before piece

also_fields : (before : List Field) (list : List Piece) → IfErr (fields_from before list) IsAlso
unfolding fields_from
also_fields before [] = tt
also_fields before (piece ∷ more) = err_next IsAlso _ _ (also_field before piece) (λ field. also_fields (before ++ field ∷ []) more)

pub only_also : (first : Field) (also : Option Text) → IfErr (named_fields first also) IsAlso
unfolding named_fields
only_also first None = tt
only_also first (Some text) = also_fields (first ∷ []) (pieces 44 (record { place = 0; text = text }))

also_is_late : (error : WordsError) → IsAlso error → IsLate error
also_is_late (words.Also place) is = tt
also_is_late words.Help is = is
also_is_late words.Refused is = is
also_is_late words.Kind is = tt
also_is_late words.Value is = tt
also_is_late (words.Size buffers each) is = tt
also_is_late words.Memory is = tt

late_fields : (r : Result (List Field) WordsError) → IfErr r IsAlso → IfErr r IsLate
late_fields (Ok fields) is = tt
late_fields (Err error) is = also_is_late error is

late_option : {A : Type 0} (error : WordsError) (o : Option A) → IsLate error → IfErr (or_refused error o) IsLate
late_option error (Some a) late = tt
late_option error None late = late

late_settings : (said : Said) → IfErr (settings_by said) IsLate
unfolding settings_by
late_settings said =
    err_next IsLate _ _ (late_option words.Kind (kind_named said.kind) tt) (λ kind.
    err_next IsLate _ _ (late_option words.Value (value_named said.value) tt) (λ value.
    err_next IsLate _ _ (late_option (words.Size said.buffers said.words) (if_room said.wide said.buffers said.words) tt) (λ room.
    err_next IsLate _ _ (late_fields _ (only_also (record { name = said.field; kind = kind; value = value }) said.also)) (λ fields. tt))))

-- ---- from what is read

from_help : (faults : Kinds) (rows : List Row) (rest : Said → Result Given WordsError)
    → ((said : Said) → IfErr (rest said) IsLate)
    → (said_or_refused faults rows >>= rest) ≡ Err words.Help → length faults ≤ 1 → faults ≡ kinds.DisplayHelp ∷ []
from_help [] rows rest late is one =
    absurd (subst (λ (r : Result Given WordsError). IfErr r IsLate) is (late (said_by rows)))
from_help (kinds.DisplayHelp ∷ []) rows rest late is one = refl
from_help (kinds.DisplayHelp ∷ other ∷ more) rows rest late is one = absurd (omega arith)
from_help (kind ∷ more) rows rest late is one = cc

from_refusal : (faults : Kinds) (rows : List Row) (rest : Said → Result Given WordsError)
    → ((said : Said) → IfErr (rest said) IsLate)
    → (said_or_refused faults rows >>= rest) ≡ Err words.Refused → length faults ≤ 1
    → (kind : ErrorKind) × (kind ≢ kinds.DisplayHelp) × (faults ≡ kind ∷ [])
from_refusal [] rows rest late is one =
    absurd (subst (λ (r : Result Given WordsError). IfErr r IsLate) is (late (said_by rows)))
from_refusal (kinds.DisplayHelp ∷ more) rows rest late is one = cc
from_refusal (kind ∷ []) rows rest late is one = (kind, (λ same. cc), refl)
from_refusal (kind ∷ other ∷ more) rows rest late is one = absurd (omega arith)

pub help-found : (line : List Text) → length (fault_of attr_app line) ≤ 1 → settings_in line ≡ Err words.Help → AskForHelp line
unfolding settings_in said_in
help-found line one is = from_help (fault_of attr_app line) (matches_of attr_app line) settings_by late_settings is one

pub refusal-found : (line : List Text) → length (fault_of attr_app line) ≤ 1 → settings_in line ≡ Err words.Refused
    → AreRefused line
unfolding settings_in said_in
refusal-found line one is = from_refusal (fault_of attr_app line) (matches_of attr_app line) settings_by late_settings is one

-- ---- to what is read

refused_by : (kind : ErrorKind) (rows : List Row) → kind ≢ kinds.DisplayHelp
    → said_or_refused (kind ∷ []) rows ≡ Err words.Refused
refused_by kinds.DisplayHelp rows other = absurd (other refl)
refused_by kind rows other = refl

pub found-help : (line : List Text) → AskForHelp line → settings_in line ≡ Err words.Help
unfolding settings_in said_in
found-help line help = ap (λ faults. said_or_refused faults (matches_of attr_app line) >>= settings_by) help

pub found-refusal : (line : List Text) → AreRefused line → settings_in line ≡ Err words.Refused
unfolding settings_in said_in
found-refusal line refused =
    ap (λ faults. said_or_refused faults (matches_of attr_app line) >>= settings_by) refused.2
    ∙ ap (λ said. said >>= settings_by) (refused_by refused.0 (matches_of attr_app line) refused.1)
