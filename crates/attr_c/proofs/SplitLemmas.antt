-- The first line of a text is one line by itself.
use Rattle.std.proofs.Common.{◌≡◌, ℕ, ◌<◌, false, List, [], ◌∷◌, length, take, Some, refl, sym, ◌∙◌, ap, subst, arith, nat_lt, nat_eq, get_or}
use Rattle.std.proofs.lemmas.Bool.Decides.{nat_tests}
use Rattle.std.specs.List.{position, position_or_len}
use Rattle.std.proofs.lemmas.List.{get_or-take, length-take-le}
use Rattle.std.proofs.lemmas.List.Splits.{slice_split_none}
use Rattle.std.proofs.lemmas.List.Sums.{fails_before_first}
use Rattle.std.proofs.lemmas.Option.{cond_some}
use Rattle.feed_reader.specs.Lines.{is_newline, without_empty_end, lines_of}
use borrow.Author.Tests.{ltb-true}

nat_eq_zero_false : (x : List ℕ) → 0 < length x → nat_eq (length x) 0 ≡ false
nat_eq_zero_false x h = grind (arith, nat_tests)

lone : (x : List ℕ) → 0 < length x → without_empty_end (x ∷ []) ≡ x ∷ []
lone x h = rw (nat_eq_zero_false x h) refl

pub alone_line : (xs : List ℕ) (n : ℕ) → Some n ≡ position is_newline xs → 0 < length (take n xs) → lines_of (take n xs) ≡ take n xs ∷ []
unfolding lines_of
alone_line xs n e h =
    let p = cond_some (nat_lt (position_or_len is_newline xs) (length xs)) (position_or_len is_newline xs) n (sym e) in
    let within = ltb-true _ _ p.0 in
    let at : position_or_len is_newline xs ≡ n = p.1 in
    let long : length (take n xs) ≡ n = length-take-le n xs (omega (arith, within, at)) in
    let fails : (k d : ℕ) → k < length (take n xs) → is_newline (get_or (take n xs) k d) ≡ false =
    λ k d below. subst (λ (x : ℕ). is_newline x ≡ false) (sym (get_or-take n xs k d (omega (arith, below, long)))) (fails_before_first is_newline xs k d (omega (arith, below, long, at))) in
    ap without_empty_end (slice_split_none is_newline (take n xs) fails) ∙ lone (take n xs) h

pub no_lines : lines_of [] ≡ []
unfolding lines_of
no_lines = refl
