-- Whole numbers in decimal digits, each in exactly one form.
use Rattle.std.specs.Prelude.{ℕ, ℤ, pos, negsuc, Bool, ◌&&◌, ◌||◌, ◌==◌}
use Rattle.std.specs.Prelude.{List, drop, slice_index, nat_lt, nat_le, int_le, if◌then◌else◌, codes, Option, Some, None}
use Rattle.std.specs.List.{list_all}
use Rattle.std.specs.Str.{bytes_eq}
use Rattle.std.specs.Str.Parse.{digits_value, signed_digits_value}

abbrev pub is_digit : ℕ → Bool
is_digit b = nat_le 48 b && nat_le b 57

-- digits, the first of which is not 0
abbrev pub is_positive_numeral : List ℕ → Bool
is_positive_numeral text = list_all is_digit text && nat_lt 48 (slice_index text 0)

-- a whole number's own digits: no leading zero, a `-` before them if it is negative, no `+`, no `-0`
abbrev pub is_whole_numeral : List ℕ → Bool
is_whole_numeral text = bytes_eq text (codes "0")
    || is_positive_numeral (if slice_index text 0 == 45 then drop 1 text else text)

-- the number fits in 64 signed bits
abbrev pub is_long_number : ℤ → Bool
is_long_number z = int_le (negsuc 9223372036854775807) z && int_le z (pos 9223372036854775807)

-- the whole number of 64 signed bits in a text of its own digits
unfoldable pub long_written : List ℕ → Option ℤ
long_written text = let z = signed_digits_value 10 text in
    if is_whole_numeral text && is_long_number z then Some z else None

-- a document's number, from 1 to 1,048,575, in its own digits
unfoldable pub document_written : List ℕ → Option ℕ
document_written text = let n = digits_value 10 text in
    if is_positive_numeral text && (nat_le 1 n && nat_le n 1048575) then Some n else None
