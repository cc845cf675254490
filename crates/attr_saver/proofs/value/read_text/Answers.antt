use Rattle.std.proofs.Common.{◌≡◌, ℕ, Bool, true, false, List, length, Ok, Err, refl, sym, ◌∙◌, ap}
use Rattle.std.specs.Str.{IsUtf8, is_utf8}
use Rattle.std.proofs.lemmas.Str.{is_utf8-from_IsUtf8, IsUtf8-from_is_utf8}
use Rattle.attr_types.specs.declared.value.Value.TheVariants as values
use Rattle.attr_saver.specs.Fields.{read_bytes, read_text}
use Rattle.attr_saver.proofs.value.read_text.Goals as goal

text_good : (len : ℕ) (bytes front rest text : List ℕ) → read_bytes len bytes ≡ Ok (front, rest) → IsUtf8 front → text ≡ front → read_text len bytes ≡ Ok (values.Text text, rest)
unfolding read_text
text_good len bytes front rest text there utf8 same = rw (there, is_utf8-from_IsUtf8 front utf8, same) refl

told : (front : List ℕ) (b : Bool) → is_utf8 front ≡ b → ¬ (IsUtf8 front) → is_utf8 front ≡ false
told front true is no_utf8 = absurd (no_utf8 (IsUtf8-from_is_utf8 front is))
told front false is no_utf8 = is

text_bad : (len : ℕ) (bytes front rest : List ℕ) → read_bytes len bytes ≡ Ok (front, rest) → ¬ (IsUtf8 front) → read_text len bytes ≡ Err (length bytes)
unfolding read_text
text_bad len bytes front rest there no_utf8 = rw (there, told front (is_utf8 front) refl no_utf8) refl

pub returns-in_ok-from_str-in-Ok : goal.returns-in_ok-from_str-in-Ok
returns-in_ok-from_str-in-Ok c =
    text_good c.args.len c.args.reader.now c.in_ok-bytes.bytes.now _ _ c.in_ok-bytes.ensures c.in-Ok.ensures.cases.1
    (c.in_ok-from_str-in-Ok.ensures ∙ c.in-Ok.ensures.cases.0)

pub returns-in-Err : goal.returns-in-Err
returns-in-Err c =
    text_bad c.args.len c.args.reader.now c.in_ok-bytes.bytes.now _ c.in_ok-bytes.ensures c.in-Err.ensures.cases.0 ∙ ap Err (sym c.left-left.ensures)
