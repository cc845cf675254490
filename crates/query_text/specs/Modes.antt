-- What may follow in the text of a query: the mode after each byte, by the mode before it.
use Rattle.std.specs.Prelude.{ℕ, ◌+◌, ◌-◌, ◌*◌, ◌^◌, ◌==◌, Bool, true, false, ◌&&◌, ◌||◌, not, nat_le, min, if◌then◌else◌, Option, Some}
use Rattle.std.specs.Prelude.{None}
use Rattle.attr_types.specs.Names.{begins_name, continues_name}
use Rattle.query_text.specs.declared.mode.Role.{Role}
use Rattle.query_text.specs.declared.mode.Role.TheVariants as roles
use Rattle.query_text.specs.declared.mode.Spell.{Spell}
use Rattle.query_text.specs.declared.mode.Spell.TheVariants as spells
use Rattle.query_text.specs.declared.mode.Mode.{Mode}
use Rattle.query_text.specs.declared.mode.Mode.TheVariants.{Start, Opened, Name, Named, Bound, Low, High, HighNumber, HighText}
use Rattle.query_text.specs.declared.mode.Mode.TheVariants.{Minus, Number, Text, Escape, Quoted, Ended, Closed}

abbrev pub is_digit : ℕ → Bool
is_digit byte = nat_le 48 byte && nat_le byte 57

-- a 64-bit counter that stops at its greatest value
abbrev pub capped : ℕ → ℕ
capped n = min n (2 ^ 64 - 1)

-- the first byte of a value
abbrev pub number_begun : Role → ℕ → Option Mode
number_begun role byte = if byte == 45 then Some (Minus role)
    else (if is_digit byte then Some (Number role false (byte - 48)) else None)

abbrev pub text_begun : Role → ℕ → Option Mode
text_begun role byte = if byte == 34 then Some (Text role 0) else None

abbrev pub value_begun : Role → ℕ → Option Mode
value_begun role byte = if byte == 34 then Some (Text role 0) else number_begun role byte

-- what the letters are so far
abbrev pub spell_begun : ℕ → Spell
spell_begun byte = if byte == 97 then spells.A
    else (if byte == 111 then spells.O
    else (if byte == 100 then spells.D else spells.Other))

abbrev pub spell_next : Spell → ℕ → Spell
spell_next spells.A byte = if byte == 110 then spells.An else spells.Other
spell_next spells.An byte = if byte == 100 then spells.And else spells.Other
spell_next spells.O byte = if byte == 114 then spells.Or else spells.Other
spell_next spells.D byte = if byte == 111 then spells.Do else spells.Other
spell_next spells.Do byte = if byte == 116 then spells.Dot else spells.Other
spell_next spells.And byte = spells.Other
spell_next spells.Or byte = spells.Other
spell_next spells.Dot byte = spells.Other
spell_next spells.Other byte = spells.Other

-- `and` and `or` open lists
abbrev pub opens_list : Spell → Bool
opens_list spells.And = true
opens_list spells.Or = true
opens_list _ = false

-- the first byte of a leaf
abbrev pub leaf_begun : ℕ → Option Mode
leaf_begun byte = if byte == 91 then Some Low
    else (if (byte == 60) || (byte == 62) then Some Bound else value_begun roles.Alone byte)

-- the first byte of a query
abbrev pub query_begun : ℕ → Option Mode
query_begun byte = if begins_name byte then Some (Name (spell_begun byte)) else leaf_begun byte

-- the byte after a letter of a name or of a list's keyword
abbrev pub name_next : Spell → ℕ → Option Mode
name_next spell byte = if continues_name byte then Some (Name (spell_next spell byte))
    else (if byte == 58 then Some Named
    else (if opens_list spell && (byte == 40) then Some Opened else None))

-- the byte after a query; `nested` says that a bracket is open
abbrev pub query_ended : Bool → ℕ → Option Mode
query_ended nested byte = if nested && (byte == 44) then Some Start
    else (if nested && (byte == 41) then Some Closed else None)

-- the byte after a value, by its role in the leaf
abbrev pub number_ended : Bool → Role → ℕ → Option Mode
number_ended nested roles.Alone byte = query_ended nested byte
number_ended nested roles.Bound byte = query_ended nested byte
number_ended nested roles.Low byte = if byte == 59 then Some HighNumber else None
number_ended nested roles.High byte = if byte == 93 then Some Ended else None

abbrev pub quoted_next : Bool → Role → ℕ → Option Mode
quoted_next nested roles.Alone byte = if byte == 42 then Some Ended else query_ended nested byte
quoted_next nested roles.Bound byte = query_ended nested byte
quoted_next nested roles.Low byte = if byte == 59 then Some HighText else None
quoted_next nested roles.High byte = if byte == 93 then Some Ended else None

-- a number without leading zeros
abbrev pub minus_next : Role → ℕ → Option Mode
minus_next role byte = if nat_le 49 byte && nat_le byte 57 then Some (Number role true (byte - 48)) else None

abbrev pub number_next : Bool → Role → Bool → ℕ → ℕ → Option Mode
number_next nested role negative size byte = if is_digit byte && not (size == 0)
    then Some (Number role negative (capped (capped (size * 10) + (byte - 48))))
    else number_ended nested role byte

abbrev pub text_next : Role → ℕ → ℕ → Mode
text_next role len byte = if byte == 34 then Quoted role
    else (if byte == 92 then Escape role len else Text role (capped (len + 1)))

abbrev pub escape_next : Role → ℕ → ℕ → Option Mode
escape_next role len byte = if (byte == 34) || (byte == 92) then Some (Text role (capped (len + 1))) else None

abbrev pub low_next : ℕ → Option Mode
low_next byte = if byte == 59 then Some High else value_begun roles.Low byte

abbrev pub high_next : ℕ → Option Mode
high_next byte = if byte == 93 then Some Ended else value_begun roles.High byte

abbrev pub high_number_next : ℕ → Option Mode
high_number_next byte = if byte == 93 then Some Ended else number_begun roles.High byte

abbrev pub high_text_next : ℕ → Option Mode
high_text_next byte = if byte == 93 then Some Ended else text_begun roles.High byte

abbrev pub letter_next : ℕ → Mode → ℕ → Option Mode
letter_next letter mode byte = if byte == letter then Some mode else None

unfoldable pub next_mode : Bool → Mode → ℕ → Option Mode
next_mode nested Start byte = query_begun byte
next_mode nested Opened byte = query_begun byte
next_mode nested (Name spell) byte = name_next spell byte
next_mode nested Named byte = leaf_begun byte
next_mode nested Bound byte = value_begun roles.Bound byte
next_mode nested Low byte = low_next byte
next_mode nested High byte = high_next byte
next_mode nested HighNumber byte = high_number_next byte
next_mode nested HighText byte = high_text_next byte
next_mode nested (Minus role) byte = minus_next role byte
next_mode nested (Number role negative size) byte = number_next nested role negative size byte
next_mode nested (Text role len) byte = Some (text_next role len byte)
next_mode nested (Escape role len) byte = escape_next role len byte
next_mode nested (Quoted role) byte = quoted_next nested role byte
next_mode nested Ended byte = query_ended nested byte
next_mode nested Closed byte = query_ended nested byte
