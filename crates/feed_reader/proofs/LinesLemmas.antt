-- The first line of a feed.
use Rattle.std.proofs.Common.{◌≡◌, ℕ, ◌+◌, ◌<◌, ◌≤◌, Bool, true, false, cond, List, [], ◌∷◌, length, take, drop, Option, Some, None, refl, sym, ◌∙◌, ap, arith, nat_lt, nat_eq}
use Rattle.std.proofs.lemmas.Bool.Decides.{nat_tests}
use Rattle.std.specs.List.{slice_split, position, position_or_len, before_first, after_first}
use Rattle.std.proofs.lemmas.List.Splits.{slice_split_first, slice_split_none, length-slice_split}
use Rattle.std.proofs.lemmas.Bool.{cond-true, cond-false, false_from_ne_true, lt-ltb, le-ltb}
use Rattle.std.proofs.lemmas.List.Sums.{fails_before_first, position_or_len_is}
use Rattle.std.proofs.lemmas.Option.{cond_some}
use Rattle.memchr.specs.Find.{IsFirstByte, is_byte}
use Rattle.feed_reader.specs.Lines.{is_newline, without_empty_end, lines_of}
use borrow.Author.Tests.{ltb-true, ltb-false}

-- what `memchr` answers
pub found_by : (xs : List ℕ) (r : Option ℕ) → IsFirstByte (is_byte 10) xs r → r ≡ position is_newline xs
found_by xs None none =
    let at : position_or_len is_newline xs ≡ length xs = position_or_len_is is_newline xs (length xs) 0 (omega arith)
    (λ k below. false_from_ne_true _ (none k (omega arith) below)) (λ below. absurd (omega arith)) in
    sym (ap (λ (n : ℕ). cond (nat_lt n (length xs)) (Some n) None) at ∙ cond-false (nat_lt (length xs) (length xs)) (Some (length xs)) None (le-ltb (length xs) (length xs) (omega arith)))
found_by xs (Some k) (first, passes) =
    let at : position_or_len is_newline xs ≡ k = position_or_len_is is_newline xs k 0 (omega (arith, first.high))
    (λ j below. false_from_ne_true _ (first.before j (omega arith) below)) (λ below. passes) in
    sym (ap (λ (n : ℕ). cond (nat_lt n (length xs)) (Some n) None) at ∙ cond-true (nat_lt k (length xs)) (Some k) None (lt-ltb k (length xs) first.high))

-- the lines behind a whole line
cons_lines : (x : List ℕ) (pieces : List (List ℕ)) → 0 < length pieces → without_empty_end (x ∷ pieces) ≡ x ∷ without_empty_end pieces
cons_lines x [] h = absurd (omega arith)
cons_lines x (y ∷ more) h = refl

none_is_past : (b : Bool) (n : ℕ) → None ≡ cond b (Some n) None → b ≡ false
none_is_past true n e = cc
none_is_past false n e = refl

nat_eq_zero_false : (x : List ℕ) → 0 < length x → nat_eq (length x) 0 ≡ false
nat_eq_zero_false x h = grind (arith, nat_tests)

-- a line that ends with a line feed
pub first_line : (xs : List ℕ) (n : ℕ) → Some n ≡ position is_newline xs → lines_of xs ≡ take n xs ∷ lines_of (drop (n + 1) xs)
unfolding lines_of
first_line xs n e =
    let p = cond_some (nat_lt (position_or_len is_newline xs) (length xs)) (position_or_len is_newline xs) n (sym e) in
    let within = ltb-true _ _ p.0 in
    let pieces : 0 < length (slice_split is_newline (after_first is_newline xs)) = omega (arith, length-slice_split is_newline (after_first is_newline xs)) in
    let whole = ap without_empty_end (slice_split_first is_newline xs 0 within) ∙ cons_lines (before_first is_newline xs) (slice_split is_newline (after_first is_newline xs)) pieces in
    rw p.1 at whole

lone : (x : List ℕ) → 0 < length x → without_empty_end (x ∷ []) ≡ x ∷ []
lone x h = rw (nat_eq_zero_false x h) refl

-- the last line, with no line feed
pub last_line : (xs : List ℕ) → None ≡ position is_newline xs → 0 < length xs → lines_of xs ≡ xs ∷ lines_of []
unfolding lines_of
last_line xs e h =
    let past : length xs ≤ position_or_len is_newline xs = ltb-false _ _ (none_is_past _ _ e) in
    ap without_empty_end (slice_split_none is_newline xs (λ k d l. fails_before_first is_newline xs k d (omega arith))) ∙ lone xs h
