-- The settings of words are lawful.
use Rattle.std.proofs.Common.{◌≡◌, ◌≤◌, ◌<◌, ◌+◌, ℕ, Bool, true, false, List, [], ◌∷◌, ◌++◌, length, subst, refl, arith}
use Rattle.std.proofs.Common.{Option, Some, None, Result, Ok, Err, cond, nat_lt}
use Rattle.std.proofs.lemmas.List.{length-append}
use Rattle.std.proofs.lemmas.Bool.Decides.{nat_tests}
use Rattle.clap.specs.Kinds.{Kinds}
use Rattle.clap.specs.Walk.{Row, Text}
use Rattle.clap.specs.Simple.{matches_of}
use Rattle.clap.specs.Faults.{fault_of}
use Rattle.clap.specs.declared.error.kind.ErrorKind.TheVariants as kinds
use Rattle.attr_types.specs.declared.field.Field.{Field}
use Rattle.attr_types.specs.Names.{kind_named, value_named}
use Rattle.command_line.specs.CommandLine.{attr_app}
use Rattle.command_line.specs.Reading.{Said, said_by, IsInRange}
use Rattle.command_line.specs.Also.{◌>>=◌, Piece, field_in, next_field, fields_from, named_fields}
use Rattle.command_line.specs.Settings.{Given, given_with, or_refused, are_too_many, if_room, settings_by, said_or_refused}
use Rattle.command_line.specs.Settings.{said_in, settings_in, IsLawful, SettingsAreLawful}
use Rattle.command_line.specs.declared.reading.WordsError.{WordsError}
use Rattle.command_line.specs.declared.reading.WordsError.TheVariants as errors
use Rattle.command_line.proofs.TextLemmas.{in_range}

-- a chain that came to its end came through each step
next_ok : {A B : Type 0} (r : Result A WordsError) (next : A → Result B WordsError) (b : B) → (r >>= next) ≡ Ok b
    → (a : A) × (r ≡ Ok a) × (next a ≡ Ok b)
next_ok (Ok a) next b e = (a, refl, e)
next_ok (Err error) next b e = cc

taken_of : (faults : Kinds) (rows : List Row) (said : Said) → said_or_refused faults rows ≡ Ok said
    → (faults ≡ []) × (said_by rows ≡ said)
taken_of [] rows said e = let same : said_by rows ≡ said = cc in (refl, same)
taken_of (kinds.DisplayHelp ∷ faults) rows said e = cc
taken_of (kind ∷ faults) rows said e = cc

has_room : (error : WordsError) (wide : Bool) (buffers words : ℕ) (room : Unit {0})
    → or_refused error (if_room wide buffers words) ≡ Ok room → are_too_many wide buffers words ≡ false
has_room error wide buffers words room e = go (are_too_many wide buffers words) e
  where
    go : (b : Bool) → or_refused error (cond b None (Some tt)) ≡ Ok room → b ≡ false
    go true e = cc
    go false e = refl

pub record IsFew (fields : List Field) : Type 0 where
  pub some : 1 ≤ length fields
  pub few : length fields ≤ 8

room_for : (before : List Field) (piece : Piece) (field : Field) → next_field before piece ≡ Ok field → length before < 8
unfolding next_field
room_for before piece field e = go (nat_lt (length before) 8) refl e
  where
    go : (b : Bool) → nat_lt (length before) 8 ≡ b → cond b (field_in before piece) (Err (errors.Also piece.place)) ≡ Ok field
        → length before < 8
    go true is e = grind (arith, nat_tests)
    go false is e = cc

from_few : (before : List Field) (list : List Piece) (fields : List Field) → IsFew before
    → fields_from before list ≡ Ok fields → IsFew fields
unfolding fields_from
from_few before [] fields few e = let same : before ≡ fields = cc in subst IsFew same few
from_few before (piece ∷ list) fields few e =
    let next = next_ok (next_field before piece) _ fields e in
    let room = room_for before piece next.0 next.1 in
    let more : length (before ++ next.0 ∷ []) ≡ length before + 1 = length-append before (next.0 ∷ []) in
    from_few (before ++ next.0 ∷ []) list fields
    (record { some = omega (arith, more); few = omega (arith, more, room) }) next.2

of_few : (first : Field) (also : Option Text) (fields : List Field) → named_fields first also ≡ Ok fields → IsFew fields
unfolding named_fields
of_few first None fields e =
    let same : first ∷ [] ≡ fields = cc in
    subst IsFew same (record { some = omega arith; few = omega arith })
of_few first (Some text) fields e =
    from_few (first ∷ []) _ fields (record { some = omega arith; few = omega arith }) e

lawful : (said : Said) (given : Given) → IsInRange said → settings_by said ≡ Ok given → IsLawful given
unfolding settings_by
lawful said given range e =
    let kind = next_ok (or_refused errors.Kind (kind_named said.kind)) _ given e in
    let value = next_ok (or_refused errors.Value (value_named said.value)) _ given kind.2 in
    let room = next_ok (or_refused (errors.Size said.buffers said.words) (if_room said.wide said.buffers said.words)) _
    given value.2 in
    let fields = next_ok (named_fields (record { name = said.field; kind = kind.0; value = value.0 }) said.also) _ given
    room.2 in
    let few = of_few _ said.also fields.0 fields.1 in
    let is : given_with said fields.0 ≡ given = cc in
    subst IsLawful is (record {
      in_batch = range.in_batch;
      in_readers = range.in_readers;
      in_rounds = range.in_rounds;
      in_buffers = range.in_buffers;
      in_words = range.in_words;
      in_make = range.in_make;
      in_seed = range.in_seed;
      room = has_room _ said.wide said.buffers said.words room.0 room.1;
      some = few.some;
      few = few.few;
    })

pub settings_lawful : SettingsAreLawful
unfolding settings_in said_in
settings_lawful line given e =
    let said = next_ok (said_or_refused (fault_of attr_app line) (matches_of attr_app line)) settings_by given e in
    let taken = taken_of (fault_of attr_app line) (matches_of attr_app line) said.0 said.1 in
    lawful said.0 given (subst IsInRange taken.1 (in_range line taken.0)) said.2
