-- Each buffer is free or one of a width.
use Rattle.std.proofs.Common.{◌≡◌, ℕ, suc, ◌+◌, Bool, true, false, not, ◌&&◌, cond, eqb, List, [], ◌∷◌, length, refl, sym, ap, ◌∙◌, arith}
use Rattle.std.specs.List.{count_by}
use Rattle.std.proofs.lemmas.List.Sums.{sum_by-cons}
use Rattle.std.proofs.lemmas.Bool.{eqb-true}
use Rattle.list_lemmas.proofs.Tests.{true_from_list_all}
use Rattle.list_lemmas.specs.Counting.{one_if}
use Rattle.store_api.specs.Ledgers.{OfWidth, is_width, widths, no_counts, buffers_in}
use Rattle.buffer_states.specs.declared.Buffer.{Buffer}
use Rattle.buffer_states.specs.Buffers.{buffer_at, is_state_free}
use Rattle.entry_ledger.specs.Entries.{count_marks}
use Rattle.entry_ledger.specs.Ledgers.{mark_of, is_buffer_of}
use Rattle.entry_ledger.proofs.Marks.{marks-counted}
use Rattle.entry_ledger.proofs.Sound.{buffers-in-same}

-- a buffer for the width that it has
abbrev of_one : Buffer → ℕ → OfWidth
of_one x w = record no_counts { buffers = one_if (is_buffer_of w x) }

abbrev of_list : List Buffer → ℕ → OfWidth
of_list bs w = record no_counts { buffers = count_by (is_buffer_of w) bs }

free-or-of : (x : Buffer) → (is_state_free x.state ≡ false → is_width x.width ≡ true) → one_if (is_state_free x.state) + buffers_in (of_one x) widths ≡ 1
free-or-of x valid = by_test (is_state_free x.state) refl
  where
    by_test : (t : Bool) → is_state_free x.state ≡ t → one_if t + buffers_in (λ w. record no_counts { buffers = one_if (not t && eqb x.width w) }) widths ≡ 1
    by_test true e = refl
    by_test false e =
        let one = eqb-true (buffers_in (λ w. record no_counts { buffers = one_if (eqb x.width w) }) widths) 1
        (true_from_list_all (λ u. eqb (buffers_in (λ w. record no_counts { buffers = one_if (eqb u w) }) widths) 1) x.width widths (valid e) refl) in
        omega (arith, one)

sum-in : (f g h : ℕ → OfWidth) → ((w : ℕ) → (f w).buffers ≡ (g w).buffers + (h w).buffers) → (ws : List ℕ) → buffers_in f ws ≡ buffers_in g ws + buffers_in h ws
sum-in f g h same [] = refl
sum-in f g h same (w ∷ ws) = omega (arith, same w, sum-in f g h same ws)

none-in : (ws : List ℕ) → buffers_in (of_list []) ws ≡ 0
none-in [] = refl
none-in (w ∷ ws) = omega (arith, none-in ws)

all-in : (ws : List ℕ) (bs : List Buffer) → ((b : ℕ) → one_if (is_state_free (buffer_at bs b).state) + buffers_in (of_one (buffer_at bs b)) ws ≡ 1)
    → count_by (λ (b : Buffer). is_state_free b.state) bs + buffers_in (of_list bs) ws ≡ length bs
all-in ws [] each = omega (arith, none-in ws)
all-in ws (x ∷ bs) each =
    let here : one_if (is_state_free x.state) + buffers_in (of_one x) ws ≡ 1 = each 0 in
    let rest = all-in ws bs (λ b. each (suc b)) in
    let sum = sum-in (of_list (x ∷ bs)) (of_one x) (of_list bs) (λ w. sum_by-cons (λ b. cond (is_buffer_of w b) 1 0) x bs) ws in
    omega (arith, here, rest, sum, sum_by-cons (λ (b : Buffer). cond (is_state_free b.state) 1 0) x bs)

-- so the counts of the widths and the free ones are all buffers
pub whole-of : (bs : List Buffer) (counts : ℕ → OfWidth) (n : ℕ) → length bs ≡ n → ((w : ℕ) → (counts w).buffers ≡ count_by (is_buffer_of w) bs)
    → ((b : ℕ) → is_state_free (buffer_at bs b).state ≡ false → is_width (buffer_at bs b).width ≡ true)
    → count_marks is_state_free (λ b. mark_of (buffer_at bs b)) n + buffers_in counts widths ≡ n
whole-of bs counts n long same valid =
    let all = all-in widths bs (λ b. free-or-of (buffer_at bs b) (valid b)) in
    ap (λ m. count_marks is_state_free (λ b. mark_of (buffer_at bs b)) m + buffers_in counts widths) (sym long)
    ∙ ap (λ m. m + buffers_in counts widths) (sym (marks-counted is_state_free bs))
    ∙ ap (λ m. count_by (λ (b : Buffer). is_state_free b.state) bs + m) (buffers-in-same counts (of_list bs) same widths) ∙ all ∙ long
