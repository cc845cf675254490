-- What one line says, and what lines say one after another.
use Rattle.std.proofs.Common.{if◌then◌else◌, Bool, ◌≡◌, ℕ, ◌+◌, ◌-◌, ◌^◌, ◌<◌, ◌≤◌, drop, slice_index_or, true, false, List, []}
use Rattle.std.proofs.Common.{◌∷◌, ◌++◌, length, Result, Ok, Err, Option, Some, None, refl, sym, ◌∙◌, ap, subst, arith, append_assoc, append-nil, length-append}
use Rattle.std.specs.List.{AllByRecursion}
use Rattle.std.specs.Prelude.{IfSome}
use Rattle.std.proofs.lemmas.List.{drop-drop}
use Rattle.attr_types.specs.Lawful.{OpFits}
use Rattle.attr_types.specs.declared.field.Field.{Field}
use Rattle.attr_types.specs.declared.op.Op.{Op}
use Rattle.feed_reader.specs.declared.refusal.Refusal.{Refusal}
use Rattle.feed_reader.specs.declared.error.FeedError.{FeedError}
use Rattle.feed_reader.specs.declared.error.FeedError.TheVariants as errors
use Rattle.feed_reader.specs.declared.refusal.Refusal.TheVariants as refusals
use Rattle.feed_reader.specs.declared.refusal.LineError.TheVariants as line_errors
use Rattle.feed_reader.specs.Feed.{feed_of, most_bytes, ops_of_lines, with_op, with_front, Fault, FeedFailsBy}
use Rattle.feed_reader.specs.Grammar.{op_of_line}
use Rattle.feed_reader.specs.Lines.{lines_of, is_blank}
use Rattle.feed_reader.proofs.FeedLemmas.{lines_blank, lines_more, lines_end, lines_error}
use Rattle.attr_types.specs.Table.{Table, after_op, after_ops, is_skipped, skipped_ops}
use Rattle.attr_types.specs.declared.applied.Applied.{Applied}
use Rattle.attr_types.specs.declared.applied.Applied.TheVariants.{Changed, Skipped}
use Rattle.attribute_kinds.specs.Calls.{applied_to}
use Rattle.attr_c.specs.Feeding.{skips_of, AppliesLine, AreOpsOf, Stays, SaysLine, FailsLine, FedLine, FedTo, Feeds, IfLine, IsOfNoLine, IsOpOf, IsSaidBefore, RefusesLine}
use Rattle.attr_c.specs.declared.stop.Stop.{Stop}
use Rattle.attr_c.specs.declared.stop.Stop.TheVariants as stops

pub record IsOneOp (fields : List Field) (line : List ℕ) (ops : List Op) : Type 0 where
  pub op : Op
  pub ops_are : ops ≡ op ∷ []
  pub says : op_of_line fields line ≡ Ok op
  pub fits : OpFits fields op

one_op : (fields : List Field) (line : List ℕ) (ops : List Op) (r : Result Op Refusal) → op_of_line fields line ≡ r → with_op 1 r (Ok []) ≡ Ok ops
    → AllByRecursion (OpFits fields) ops → IsOneOp fields line ops
one_op fields line [] (Ok op) is e fit = cc
one_op fields line (other ∷ []) (Ok op) is e fit =
    let same : op ∷ [] ≡ other ∷ [] = cc in
    record { op = other; ops_are = refl; says = is ∙ ap Ok (cc); fits = fit.0 }
one_op fields line (other ∷ another ∷ ops) (Ok op) is e fit = cc
one_op fields line ops (Err refusal) is e fit = cc

-- a line that is not blank, read as a feed of its own
alone_says : (fields : List Field) (line : List ℕ) → lines_of line ≡ line ∷ [] → is_blank line ≡ false → feed_of fields line ≡ with_op 1 (op_of_line fields line) (Ok [])
unfolding feed_of ops_of_lines
alone_says fields line alone blank = ap (ops_of_lines fields 1) alone ∙ rw blank refl

pub says_one : (fields : List Field) (line : List ℕ) (ops : List Op) → lines_of line ≡ line ∷ [] → is_blank line ≡ false → feed_of fields line ≡ Ok ops → AllByRecursion (OpFits fields) ops
    → IsOneOp fields line ops
says_one fields line ops alone blank says fit =
    one_op fields line ops (op_of_line fields line) refl (sym (alone_says fields line alone blank) ∙ says) fit

one_row : (r : Result Op Refusal) (n : ℕ) (row : Refusal) → with_op 1 r (Ok []) ≡ Err (n, row) → r ≡ Err row
one_row (Ok op) n row e = cc
one_row (Err refusal) n row e =
    let pair : (1, refusal) ≡ (n, row) = cc in
    ap (λ (p : ℕ × Refusal). Err p.1) pair

row_said : (fields : List Field) (line : List ℕ) (n : ℕ) (row : Refusal) → lines_of line ≡ line ∷ [] → is_blank line ≡ false → feed_of fields line ≡ Err (n, row) → op_of_line fields line ≡ Err row
row_said fields line n row alone blank e = one_row (op_of_line fields line) n row (sym (alone_says fields line alone blank) ∙ e)

-- a line that is refused by itself is so among the others
pub refused_line : (fields : List Field) (bytes rest : List ℕ) (front : List Op) (number : ℕ) (line : List ℕ) (lines : List (List ℕ)) (error : FeedError) → lines_of rest ≡ line ∷ lines
    → lines_of line ≡ line ∷ [] → is_blank line ≡ false → FailsLine fields line error → with_front front (ops_of_lines fields number (line ∷ lines)) ≡ feed_of fields bytes
    → RefusesLine fields bytes number rest error
refused_line fields bytes rest front number line lines error first alone blank fails said = by_row error fails
  where
    at : (row : Refusal) (n : ℕ) → feed_of fields line ≡ Err (n, row) → feed_of fields bytes ≡ Err (number, row)
    at row n e = lines_error fields bytes front (line_errors.Refused row) number line lines blank (row_said fields line n row alone blank e) said

    by_row : (error : FeedError) → FailsLine fields line error → RefusesLine fields bytes number rest error
    by_row (errors.NotJson n) e = at refusals.NotJson n e
    by_row (errors.NoOperation n) e = at refusals.NoOperation n e
    by_row (errors.BadId n) e = at refusals.BadId n e
    by_row (errors.BadValue n) e = at refusals.BadValue n e
    by_row (errors.Unsupported n) e = at refusals.Unsupported n e
    by_row (errors.TooManyItems n) e = at refusals.TooManyItems n e
    by_row errors.FeedTooLong e = record { line = line; lines = lines; first = first; long = e }
    by_row errors.ReadFault e = absurd e
    by_row errors.Memory e = tt

-- a line that is not blank has a byte
pub filled : (line : List ℕ) → is_blank line ≡ false → 0 < length line
filled [] blank = cc
filled (b ∷ line) blank = omega arith

-- what a feed of one line says of its error
pub fails_line : (fields : List Field) (line : List ℕ) (error : FeedError) → FeedFailsBy error (feed_of fields line) → (error ≡ errors.FeedTooLong → most_bytes < length line)
    → (error ≡ errors.ReadFault → ⊥) → FailsLine fields line error
fails_line fields line (errors.NotJson n) says long fault = says
fails_line fields line (errors.NoOperation n) says long fault = says
fails_line fields line (errors.BadId n) says long fault = says
fails_line fields line (errors.BadValue n) says long fault = says
fails_line fields line (errors.Unsupported n) says long fault = says
fails_line fields line (errors.TooManyItems n) says long fault = says
fails_line fields line errors.FeedTooLong says long fault = long refl
fails_line fields line errors.ReadFault says long fault = fault refl
fails_line fields line errors.Memory says long fault = tt

-- what was read of a line is its one operation
pub says_popped : (fields : List Field) (line : List ℕ) (ops items : List Op) (len : ℕ) (result : Option Op) → IsOneOp fields line ops → items ≡ ops → len ≡ length items
    → ((d : Op) → 0 < len → result ≡ Some (slice_index_or items (len - 1) d)) → is_blank line ≡ false → SaysLine fields line (Ok result)
says_popped fields line ops items len result one same long value blank =
    let is : items ≡ one.op ∷ [] = same ∙ one.ops_are in
    let count : len ≡ 1 = long ∙ ap length is in
    let last : result ≡ Some (slice_index_or items (len - 1) one.op) = value one.op (omega (arith, count)) in
    let at : slice_index_or items (len - 1) one.op ≡ slice_index_or (one.op ∷ []) 0 one.op =
    ap (λ (xs : List Op). slice_index_or xs (len - 1) one.op) is ∙ ap (λ (n : ℕ). slice_index_or (one.op ∷ []) (n - 1) one.op) count in
    let found : result ≡ Some one.op = last ∙ ap Some at in
    subst (λ (r : Option Op). SaysLine fields line (Ok r)) (sym found) (blank, one.says, one.fits)

-- a stop that is of no line left all as it was
pub fed_stopped : (fields : List Field) (line : List ℕ) (old new : Table) (before after : ℕ) (stop : Stop) → IsOfNoLine stop → Stays old new before after → FedLine fields line old new before after (Err stop)
fed_stopped fields line old new before after (stops.Line error) none stays = absurd none
fed_stopped fields line old new before after (stops.Store error) none stays = stays
fed_stopped fields line old new before after stops.Spent none stays = stays
fed_stopped fields line old new before after stops.Save none stays = stays
fed_stopped fields line old new before after stops.Other none stays = stays
fed_stopped fields line old new before after stops.Memory none stays = stays

-- ---- places

pub drop_none : (bytes : List ℕ) → bytes ≡ drop (length bytes - length bytes) bytes
drop_none bytes = let none : length bytes - length bytes ≡ 0 = omega arith in ap (λ (n : ℕ). drop n bytes) (sym none)

pub drop_on : (bytes rest after : List ℕ) → rest ≡ drop (length bytes - length rest) bytes → after ≡ drop (length rest - length after) rest → length after ≤ length rest → length rest ≤ length bytes
    → after ≡ drop (length bytes - length after) bytes
drop_on bytes rest after at_rest at_after one two =
    let count : (length bytes - length rest) + (length rest - length after) ≡ length bytes - length after = omega (arith, one, two) in
    at_after ∙ ap (λ (xs : List ℕ). drop (length rest - length after) xs) at_rest ∙ drop-drop (length rest - length after) (length bytes - length rest) bytes
    ∙ ap (λ (n : ℕ). drop n bytes) count

-- ---- one line after another

after_one_more : (fields : List Field) (ops : List Op) (op : Op) (table : Table) → after_ops fields table (ops ++ op ∷ []) ≡ after_op fields (after_ops fields table ops) op
after_one_more fields [] op table = refl
after_one_more fields (first ∷ ops) op table = after_one_more fields ops op (after_op fields table first)

skipped_one_more : (fields : List Field) (ops : List Op) (op : Op) (table : Table)
    → skipped_ops fields table (ops ++ op ∷ []) ≡ skipped_ops fields table ops + (if is_skipped fields (after_ops fields table ops) op then 1 else 0)
skipped_one_more fields [] op table = omega arith
skipped_one_more fields (first ∷ ops) op table = let more = skipped_one_more fields ops op (after_op fields table first) in omega (arith, more)

skipped_few : (fields : List Field) (ops : List Op) (table : Table) → skipped_ops fields table ops ≤ length ops
skipped_few fields [] table = omega arith
skipped_few fields (op ∷ ops) table =
    let few = skipped_few fields ops (after_op fields table op) in
    let one = at_most_one (is_skipped fields table op) in
    omega (arith, few, one)
  where
    at_most_one : (b : Bool) → (if b then 1 else 0) ≤ 1
    at_most_one true = omega arith
    at_most_one false = omega arith

skips_one : (fields : List Field) (table : Table) (op : Op) (applied : Applied) → applied ≡ applied_to fields table op
    → skips_of (Some applied) ≡ (if is_skipped fields table op then 1 else 0)
skips_one fields table op applied is = ap (λ (a : Applied). skips_of (Some a)) is ∙ by (is_skipped fields table op)
  where
    by : (b : Bool) → skips_of (Some (if b then Skipped else Changed)) ≡ (if b then 1 else 0)
    by true = refl
    by false = refl

-- ---- lines before others

front_none : (r : Result (List Op) Fault) → with_front [] r ≡ r
front_none (Ok ops) = refl
front_none (Err fault) = refl

front_of : (op : Op) (front : List Op) (r : Result (List Op) Fault) → with_front (op ∷ []) (with_front front r) ≡ with_front (op ∷ front) r
front_of op front (Ok ops) = refl
front_of op front (Err fault) = refl

no_ops : (fields : List Field) (n : ℕ) → ops_of_lines fields n [] ≡ Ok []
unfolding ops_of_lines
no_ops fields n = refl

fault_at : (fields : List Field) (n : ℕ) (line : List ℕ) (lines : List (List ℕ)) (refusal : Refusal) → is_blank line ≡ false → op_of_line fields line ≡ Err refusal
    → ops_of_lines fields n (line ∷ lines) ≡ Err (n, refusal)
unfolding ops_of_lines
fault_at fields n line lines refusal e o = rw (e, o) refl

-- one line more
module _ (fields : List Field) (more : List (List ℕ)) (n : ℕ) (line : List ℕ) (lines : List (List ℕ)) (ops : List Op) (is : ops_of_lines fields n (line ∷ lines) ≡ Ok ops)
    (behind : (os : List Op) → ops_of_lines fields (n + 1) lines ≡ Ok os → ops_of_lines fields (n + 1) (lines ++ more) ≡ with_front os (ops_of_lines fields ((n + 1) + length lines) more)) where
  abbrev rest : ℕ → Result (List Op) Fault
  rest k = ops_of_lines fields k more

  on : (n + 1) + length lines ≡ n + length (line ∷ lines)
  on = omega arith

  by_rest : (op : Op) → is_blank line ≡ false → op_of_line fields line ≡ Ok op → (r : Result (List Op) Fault) → ops_of_lines fields (n + 1) lines ≡ r → with_front (op ∷ []) r ≡ Ok ops
      → ops_of_lines fields n (line ∷ (lines ++ more)) ≡ with_front ops (rest (n + length (line ∷ lines)))
  by_rest op blank says (Ok others) here whole =
      let all : op ∷ others ≡ ops = cc in
      sym (front_none (ops_of_lines fields n (line ∷ (lines ++ more)))) ∙ lines_more fields [] op n line (lines ++ more) blank says
      ∙ ap (with_front (op ∷ [])) (behind others here) ∙ front_of op others (rest ((n + 1) + length lines))
      ∙ ap (λ (k : ℕ). with_front (op ∷ others) (rest k)) on ∙ ap (λ (os : List Op). with_front os (rest (n + length (line ∷ lines)))) all
  by_rest op blank says (Err fault) here whole = cc

  by_op : (r : Result Op Refusal) → is_blank line ≡ false → op_of_line fields line ≡ r → ops_of_lines fields n (line ∷ (lines ++ more)) ≡ with_front ops (rest (n + length (line ∷ lines)))
  by_op (Ok op) blank says =
      by_rest op blank says (ops_of_lines fields (n + 1) lines) refl (sym (lines_more fields [] op n line lines blank says) ∙ front_none (ops_of_lines fields n (line ∷ lines)) ∙ is)
  by_op (Err refusal) blank says = (let two : ◌≡◌ {A = Result (List Op) Fault} (Err (n, refusal)) (Ok ops) = sym (fault_at fields n line lines refusal blank says) ∙ is in cc)

  before_by : (b : Bool) → is_blank line ≡ b → ops_of_lines fields n (line ∷ (lines ++ more)) ≡ with_front ops (rest (n + length (line ∷ lines)))
  before_by true blank =
      lines_blank fields n line (lines ++ more) blank ∙ behind ops (sym (lines_blank fields n line lines blank) ∙ is) ∙ ap (λ (k : ℕ). with_front ops (rest k)) on
  before_by false blank = by_op (op_of_line fields line) blank refl

-- the operations of lines come before those of the lines behind them
ops_before : (fields : List Field) (more : List (List ℕ)) (n : ℕ) (lines : List (List ℕ)) (ops : List Op) → ops_of_lines fields n lines ≡ Ok ops
    → ops_of_lines fields n (lines ++ more) ≡ with_front ops (ops_of_lines fields (n + length lines) more)
ops_before fields more n [] ops is =
    let none : [] ≡ ops = (let two : ◌≡◌ {A = Result (List Op) Fault} (Ok []) (Ok ops) = sym (no_ops fields n) ∙ is in cc) in
    let here : n ≡ n + 0 = omega arith in
    ap (λ (k : ℕ). ops_of_lines fields k more) here ∙ sym (front_none (ops_of_lines fields (n + 0) more)) ∙ ap (λ (os : List Op). with_front os (ops_of_lines fields (n + 0) more)) none
ops_before fields more n (line ∷ lines) ops is = before_by fields more n line lines ops is (ops_before fields more (n + 1) lines) (is_blank line) refl

-- ---- a feed up to one of its lines
module _ (fields : List Field) (bytes : List ℕ) where
  -- the feed is these operations and those of the rest
  said_all : (rest : List ℕ) (ops : List Op) (front : IsSaidBefore fields bytes rest ops) → with_front ops (ops_of_lines fields (1 + length front.lines) (lines_of rest)) ≡ feed_of fields bytes
  unfolding feed_of
  said_all rest ops front = sym (ap (ops_of_lines fields 1) front.split ∙ ops_before fields (lines_of rest) 1 front.lines ops front.said)

  said_before : (number : ℕ) (rest : List ℕ) (old new : Table) (before after skipped : ℕ) (fed : FedTo fields bytes number rest old new before after skipped)
      → with_front fed.ops (ops_of_lines fields number (lines_of rest)) ≡ feed_of fields bytes
  said_before number rest old new before after skipped fed =
      let is : number ≡ 1 + length fed.front.lines = (let n = fed.number_is in omega (arith, n)) in
      ap (λ (n : ℕ). with_front fed.ops (ops_of_lines fields n (lines_of rest))) is ∙ said_all rest fed.ops fed.front

  -- nothing is before the whole
  pub said_none : IsSaidBefore fields bytes bytes []
  said_none = record { lines = []; split = refl; said = no_ops fields 1 }

  -- no line is left
  pub said_whole : (rest : List ℕ) (ops : List Op) → length rest ≡ 0 → IsSaidBefore fields bytes rest ops → feed_of fields bytes ≡ Ok ops
  said_whole rest ops none front = sym (said_all rest ops front) ∙ lines_end fields ops (1 + length front.lines) rest none

  pub fed_none : (old : Table) (before : ℕ) → FedTo fields bytes 1 bytes old old before before 0
  unfolding said_none
  fed_none old before = record { ops = []; front = said_none; number_is = refl; table = refl; operations = omega arith; skips = refl }

  -- no more operations changed nothing than were applied
  pub fed_few : (number : ℕ) (rest : List ℕ) (old new : Table) (before after skipped : ℕ) → FedTo fields bytes number rest old new before after skipped → skipped + before ≤ after
  fed_few number rest old new before after skipped fed =
      let few = skipped_few fields fed.ops old in
      let skips = fed.skips in
      let operations = fed.operations in
      omega (arith, few, skips, operations)

  -- the operations are few, so that those that changed nothing can be counted
  pub fed_small : (number : ℕ) (rest line : List ℕ) (old mid new : Table) (before between after skipped : ℕ) (applied : Option Applied)
      → FedTo fields bytes number rest old mid before between skipped → FedLine fields line mid new between after (Ok applied) → IfSome applied (λ _. after < 2 ^ 32) → skipped < 2 ^ 32
      → skipped + skips_of applied < 2 ^ 32
  fed_small number rest line old mid new before between after skipped None fed line_is few small = omega (arith, small)
  fed_small number rest line old mid new before between after skipped (Some applied) fed line_is few small =
      let one = at_most_one applied in
      let count = fed_few number rest old mid before between skipped fed in
      let more = line_is.operations in
      omega (arith, one, count, more, few)
    where
      at_most_one : (applied : Applied) → skips_of (Some applied) ≤ 1
      at_most_one Changed = omega arith
      at_most_one Skipped = omega arith

  pub fed_whole : (old new : Table) (before after skipped number : ℕ) (rest : List ℕ) → length rest ≡ 0 → FedTo fields bytes number rest old new before after skipped
      → Feeds fields bytes old new before after skipped
  fed_whole old new before after skipped number rest none fed =
      record { ops = fed.ops; said = said_whole rest fed.ops none fed.front; table = fed.table; operations = fed.operations; skips = fed.skips }

  -- a line more is before the rest
  module _ (rest line left : List ℕ) (lines : lines_of rest ≡ line ∷ lines_of left) (ops : List Op) (front : IsSaidBefore fields bytes rest ops) where
    split_on : lines_of bytes ≡ (front.lines ++ line ∷ []) ++ lines_of left
    split_on = front.split ∙ ap (λ (ls : List (List ℕ)). front.lines ++ ls) lines ∙ sym (append_assoc front.lines (line ∷ []) (lines_of left))

    said_on : ops_of_lines fields 1 (front.lines ++ line ∷ []) ≡ with_front ops (ops_of_lines fields (1 + length front.lines) (line ∷ []))
    said_on = ops_before fields (line ∷ []) 1 front.lines ops front.said

    end_on : (os : List Op) (n : ℕ) → with_front os (ops_of_lines fields n []) ≡ Ok os
    end_on os n = ap (with_front os) (no_ops fields n) ∙ ap Ok (append-nil os)

    pub said_blank : is_blank line ≡ true → IsSaidBefore fields bytes left ops
    said_blank blank = record {
      lines = front.lines ++ line ∷ [];
      split = split_on;
      said = said_on ∙ ap (with_front ops) (lines_blank fields (1 + length front.lines) line [] blank) ∙ end_on ops (1 + length front.lines + 1);
    }

    pub said_one : (op : Op) → IsOpOf fields line op → IsSaidBefore fields bytes left (ops ++ op ∷ [])
    said_one op is = record {
      lines = front.lines ++ line ∷ [];
      split = split_on;
      said = said_on ∙ lines_more fields ops op (1 + length front.lines) line [] is.some is.says ∙ end_on (ops ++ op ∷ []) (1 + length front.lines + 1);
    }

    pub said_more : (more : List Op) → AreOpsOf fields line more → IsSaidBefore fields bytes left (ops ++ more)
    said_more [] is = subst (IsSaidBefore fields bytes left) (sym (append-nil ops)) (said_blank is)
    said_more (op ∷ []) is = said_one op is
    said_more (op ∷ another ∷ more) is = absurd is

  module _ (old mid new : Table) (before between after skipped : ℕ) (number : ℕ) (rest line left : List ℕ) (lines : lines_of rest ≡ line ∷ lines_of left)
      (fed : FedTo fields bytes number rest old mid before between skipped) where
    said_line : with_front fed.ops (ops_of_lines fields number (line ∷ lines_of left)) ≡ feed_of fields bytes
    said_line = ap (λ (ls : List (List ℕ)). with_front fed.ops (ops_of_lines fields number ls)) (sym lines) ∙ said_before number rest old mid before between skipped fed

    number_on : number + 1 ≡ length (fed.front.lines ++ line ∷ []) + 1
    number_on = let long = length-append fed.front.lines (line ∷ []) in let is = fed.number_is in omega (arith, long, is)

    pub fed_blank : is_blank line ≡ true → Stays mid new between after → FedTo fields bytes (number + 1) left old new before after (skipped + 0)
    unfolding said_blank
    fed_blank blank stays = record {
      ops = fed.ops;
      front = said_blank rest line left lines fed.ops fed.front blank;
      number_is = number_on;
      table = stays.table ∙ fed.table;
      operations = stays.operations ∙ fed.operations;
      skips = (let none : skipped + 0 ≡ skipped = omega arith in none) ∙ fed.skips;
    }

    pub fed_more : (applied : Applied) → AppliesLine fields line mid new between after applied → FedTo fields bytes (number + 1) left old new before after (skipped + skips_of (Some applied))
    unfolding said_one
    fed_more applied one =
        let skips = fed.skips in
        let more = skipped_one_more fields fed.ops one.op old in
        let this = skips_one fields mid one.op applied one.applied_is ∙ ap (λ (t : Table). if is_skipped fields t one.op then 1 else 0) fed.table in
        let was = fed.operations in
        let is = one.operations in
        let long = length-append fed.ops (one.op ∷ []) in
        record {
          ops = fed.ops ++ one.op ∷ [];
          front = said_one rest line left lines fed.ops fed.front one.op (record { some = one.some; says = one.says });
          number_is = number_on;
          table = one.table ∙ ap (λ (t : Table). after_op fields t one.op) fed.table ∙ sym (after_one_more fields fed.ops one.op old);
          operations = omega (arith, was, is, long);
          skips = omega (arith, skips, more, this);
        }

    pub fed_on : (applied : Option Applied) → FedLine fields line mid new between after (Ok applied) → FedTo fields bytes (number + 1) left old new before after (skipped + skips_of applied)
    fed_on None line_is = fed_blank line_is.0 line_is.1
    fed_on (Some applied) line_is = fed_more applied line_is

    -- what was refused left all as it was
    pub fed_still : (stop : Stop) → FedLine fields line mid new between after (Err stop) → FedTo fields bytes number rest old new before after skipped
    fed_still stop line_is =
        let stays = stays_at stop line_is in
        record { ops = fed.ops; front = fed.front; number_is = fed.number_is; table = stays.table ∙ fed.table; operations = stays.operations ∙ fed.operations; skips = fed.skips }
      where
        stays_at : (stop : Stop) → FedLine fields line mid new between after (Err stop) → Stays mid new between after
        stays_at (stops.Line error) line_is = line_is.2
        stays_at (stops.Store error) line_is = line_is
        stays_at stops.Spent line_is = line_is
        stays_at stops.Save line_is = line_is
        stays_at stops.Other line_is = line_is
        stays_at stops.Memory line_is = line_is

    pub fed_refused : (stop : Stop) → (0 < length line → lines_of line ≡ line ∷ []) → FedLine fields line mid new between after (Err stop) → IfLine (RefusesLine fields bytes number rest) stop
    fed_refused (stops.Line error) alone line_is =
        refused_line fields bytes rest fed.ops number line (lines_of left) error lines (alone (filled line line_is.0)) line_is.0 line_is.1 said_line
    fed_refused (stops.Store error) alone line_is = tt
    fed_refused stops.Spent alone line_is = tt
    fed_refused stops.Save alone line_is = tt
    fed_refused stops.Other alone line_is = tt
    fed_refused stops.Memory alone line_is = tt
