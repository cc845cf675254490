-- One line of a feed after another.
use Rattle.std.proofs.Common.{◌≡◌, ℕ, ◌+◌, true, false, List, [], ◌∷◌, ◌++◌, length, Result, Ok, Err, refl, sym, ◌∙◌, ap, arith, append_assoc, append-nil}
use Rattle.attr_types.specs.declared.field.Field.{Field}
use Rattle.attr_types.specs.declared.op.Op.{Op}
use Rattle.feed_reader.specs.declared.refusal.Refusal.{Refusal}
use Rattle.feed_reader.specs.declared.refusal.LineError.{LineError}
use Rattle.feed_reader.specs.declared.refusal.LineError.TheVariants as line_errors
use Rattle.feed_reader.specs.Answers.{ReadFails}
use Rattle.feed_reader.specs.Lines.{lines_of, is_blank}
use Rattle.feed_reader.specs.Grammar.{op_of_line}
use Rattle.feed_reader.specs.Feed.{Fault, with_op, with_front, ops_of_lines, feed_of, LinesFailBy, numbered_error}

pub lines_blank : (fields : List Field) (n : ℕ) (line : List ℕ) (lines : List (List ℕ)) → is_blank line ≡ true
    → ops_of_lines fields n (line ∷ lines) ≡ ops_of_lines fields (n + 1) lines
unfolding ops_of_lines
lines_blank fields n line lines e = rw e refl

front_op : (front : List Op) (op : Op) (n : ℕ) (more : Result (List Op) Fault) → with_front front (with_op n (Ok op) more) ≡ with_front (front ++ op ∷ []) more
front_op front op n (Ok ops) = ap Ok (sym (append_assoc front (op ∷ []) ops))
front_op front op n (Err fault) = refl

pub lines_more : (fields : List Field) (front : List Op) (op : Op) (n : ℕ) (line : List ℕ) (lines : List (List ℕ)) → is_blank line ≡ false → op_of_line fields line ≡ Ok op
    → with_front front (ops_of_lines fields n (line ∷ lines)) ≡ with_front (front ++ op ∷ []) (ops_of_lines fields (n + 1) lines)
unfolding ops_of_lines
lines_more fields front op n line lines e o = rw (e, o) (front_op front op n (ops_of_lines fields (n + 1) lines))

lines_fault : (fields : List Field) (front : List Op) (refusal : Refusal) (n : ℕ) (line : List ℕ) (lines : List (List ℕ)) → is_blank line ≡ false → op_of_line fields line ≡ Err refusal
    → with_front front (ops_of_lines fields n (line ∷ lines)) ≡ Err (n, refusal)
unfolding ops_of_lines
lines_fault fields front refusal n line lines e o = rw (e, o) refl

pub lines_end : (fields : List Field) (front : List Op) (n : ℕ) (rest : List ℕ) → length rest ≡ 0
    → with_front front (ops_of_lines fields n (lines_of rest)) ≡ Ok front
unfolding ops_of_lines lines_of
lines_end fields front n [] e = ap Ok (append-nil front)
lines_end fields front n (b ∷ rest) e = absurd (omega arith)

pub lines_start : (fields : List Field) (bytes : List ℕ) → with_front [] (ops_of_lines fields 1 (lines_of bytes)) ≡ feed_of fields bytes
unfolding feed_of
lines_start fields bytes = same (ops_of_lines fields 1 (lines_of bytes)) where
  same : (r : Result (List Op) Fault) → with_front [] r ≡ r
  same (Ok ops) = refl
  same (Err fault) = refl

-- a line that is not read
pub lines_error : (fields : List Field) (bytes : List ℕ) (front : List Op) (e : LineError) (n : ℕ) (line : List ℕ) (lines : List (List ℕ)) → is_blank line ≡ false → ReadFails e (op_of_line fields line)
    → with_front front (ops_of_lines fields n (line ∷ lines)) ≡ feed_of fields bytes → LinesFailBy (numbered_error n e) (feed_of fields bytes)
lines_error fields bytes front line_errors.Memory n line lines blank e said = tt
lines_error fields bytes front (line_errors.Refused refusal) n line lines blank e said = sym said ∙ lines_fault fields front refusal n line lines blank e
