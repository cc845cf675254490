-- What `from_slice` says of a line.
use Rattle.std.proofs.Common.{◌≡◌, ℕ, Bool, true, false, List, Option, None, Some, cond, refl}
use Rattle.std.specs.Str.{IsUtf8, is_utf8}
use Rattle.std.proofs.lemmas.Str.{IsUtf8-from_is_utf8, is_utf8-from_IsUtf8}
use Rattle.serde_json.specs.Data.{Data}
use Rattle.serde_json.specs.Read.{read}
use Rattle.feed_reader.specs.Grammar.{json_read}
use Rattle.feed_reader.specs.Rows.{IsJson, IsNotJson}

pub json_read-some : (line : List ℕ) (d : Option Data) → IsUtf8 line → read line ≡ d → json_read line ≡ d
unfolding json_read
json_read-some line d u r = rw (is_utf8-from_IsUtf8 line u) r

none_by : (line : List ℕ) (b : Bool) → is_utf8 line ≡ b → (IsUtf8 line → read line ≡ None) → json_read line ≡ None
unfolding json_read
none_by line true e h = rw e (h (IsUtf8-from_is_utf8 line e))
none_by line false e h = rw e refl

pub json_read-none : (line : List ℕ) → (IsUtf8 line → read line ≡ None) → json_read line ≡ None
json_read-none line h = none_by line (is_utf8 line) refl h

pub json_there : (line : List ℕ) (d : Data) → json_read line ≡ Some d → IsJson line d
unfolding json_read
json_there line d e = at (is_utf8 line) refl e where
  at : (b : Bool) → is_utf8 line ≡ b → cond b (read line) None ≡ Some d → IsJson line d
  at true utf8 e = (IsUtf8-from_is_utf8 line utf8, e)
  at false utf8 e = cc

pub json_is : (line : List ℕ) (d : Data) → IsJson line d → json_read line ≡ Some d
json_is line d json = json_read-some line (Some d) json.0 json.1

pub json_none : (line : List ℕ) → json_read line ≡ None → IsNotJson line
json_none line none d json = let is = json_is line d json in cc
