-- The words of a node in hand with a slot taken out, and written anew.
use Rattle.std.proofs.Common.{◌≡◌, ℕ, zero, suc, ◌+◌, ◌*◌, ◌-◌, ◌<◌, ◌≤◌, List, [], ◌∷◌, ◌++◌, length, take, drop, replicate, slice_index, refl, sym, ap, subst, ◌∙◌, arith, length-drop}
use Rattle.std.specs.Prelude.{slice_set}
use Rattle.std.proofs.lemmas.List.Edits.{length-remove}
use Rattle.std.specs.List.{remove}
use borrow.Rule.Slice.PartMut.{mid_of, put_mid}
use Rattle.std.proofs.lemmas.List.{length-take-le, take-append-le, take_all, take_at, drop_at, drop-append-le, append_assoc, set-append_right, drop_all, append-nil}
use Rattle.tree_read.proofs.NodeLemmas.{length-slot_words}
use Rattle.tree_read.specs.Nodes.{node_keys, node_values, slot_words}
use Rattle.frozen_nodes.specs.Words.{AreWords}
use Rattle.frozen_nodes.proofs.MakeWordLemmas.{words-head, words-keys, words-values}

-- the last of 16 words set to 0 once those behind a slot were moved down by one
pub words-moved : (xs ys : List ℕ) (slot next : ℕ) → next ≡ suc slot → length xs ≡ 16 → slot < 16
    → ys ≡ take slot xs ++ (take (16 - next) (drop next xs) ++ drop (slot + (16 - next)) xs)
    → slice_set ys 15 0 ≡ take slot xs ++ (drop (suc slot) xs ++ (0 ∷ []))
words-moved xs ys slot next up size low is =
    let behind = length-drop (suc slot) xs in
    let front : length (take slot xs) ≡ slot = length-take-le slot xs (omega arith) in
    let same : take (16 - suc slot) (drop (suc slot) xs) ≡ drop (suc slot) xs = take_all (16 - suc slot) (drop (suc slot) xs) (omega arith) in
    let at : slot + (16 - suc slot) ≡ 15 = omega arith in
    let last_size : length (drop 15 xs) ≡ 1 = (let d = length-drop 15 xs in omega arith) in
    let whole : ys ≡ take slot xs ++ (drop (suc slot) xs ++ drop 15 xs) =
    is ∙ ap (λ n. take slot xs ++ (take (16 - n) (drop n xs) ++ drop (slot + (16 - n)) xs)) up
    ∙ ap (λ zs. take slot xs ++ (zs ++ drop (slot + (16 - suc slot)) xs)) same ∙ ap (λ n. take slot xs ++ (drop (suc slot) xs ++ drop n xs)) at in
    let inner : slice_set (drop (suc slot) xs ++ drop 15 xs) (15 - slot) 0 ≡ drop (suc slot) xs ++ slice_set (drop 15 xs) (15 - slot - (15 - slot)) 0 =
    set-append_right (drop (suc slot) xs) (drop 15 xs) (15 - slot) (15 - slot) 0 (omega arith) (omega arith) in
    ap (λ zs. slice_set zs 15 0) whole
    ∙ set-append_right (take slot xs) (drop (suc slot) xs ++ drop 15 xs) slot 15 0 front (omega arith)
    ∙ ap (λ zs. take slot xs ++ zs) (inner ∙ ap (λ n. drop (suc slot) xs ++ slice_set (drop 15 xs) n 0) (let e : 15 - slot - (15 - slot) ≡ 0 = omega arith in e)
    ∙ ap (λ zs. drop (suc slot) xs ++ zs) (set-one (drop 15 xs) last_size))
  where
    set-one : (zs : List ℕ) → length zs ≡ 1 → slice_set zs 0 0 ≡ 0 ∷ []
    set-one [] one = absurd (omega arith)
    set-one (z ∷ []) one = refl
    set-one (z ∷ y ∷ zs) one = absurd (omega arith)

zero-behind : (n : ℕ) → replicate {A = ℕ} n 0 ++ (0 ∷ []) ≡ replicate (suc n) 0
zero-behind zero = refl
zero-behind (suc n) = ap (λ zs. 0 ∷ zs) (zero-behind n)

-- one slot less
slot-take : (slots : List ℕ) (i : ℕ) → i < length slots → length slots ≤ 16
    → take i (slot_words slots) ++ (drop (suc i) (slot_words slots) ++ (0 ∷ [])) ≡ slot_words (remove slots i)
slot-take slots i low few =
    let zeros : List ℕ = replicate (16 - length slots) 0 in
    let size = length-remove slots i low in
    ap (λ xs. xs ++ (drop (suc i) (slots ++ zeros) ++ (0 ∷ []))) (take-append-le i slots zeros (omega arith))
    ∙ ap (λ xs. take i slots ++ (xs ++ (0 ∷ []))) (drop-append-le (suc i) slots zeros (omega arith))
    ∙ ap (λ xs. take i slots ++ xs) (append_assoc (drop (suc i) slots) zeros (0 ∷ []) ∙ ap (λ xs. drop (suc i) slots ++ xs) (zero-behind (16 - length slots)))
    ∙ sym (append_assoc (take i slots) (drop (suc i) slots) (replicate (suc (16 - length slots)) 0))
    ∙ ap (λ n. remove slots i ++ replicate n 0) (let e : suc (16 - length slots) ≡ 16 - length (remove slots i) = omega arith in e)

-- one of 16 words taken out, with a zero at the end
abbrev pub taken : ℕ → List ℕ → List ℕ
taken i xs = take i xs ++ (drop (suc i) xs ++ (0 ∷ []))

pub words-taken : (level count pairs : ℕ) (keys values words new : List ℕ) (i : ℕ) → AreWords level count keys values words → i < length keys
    → new ≡ (slice_index words 0 - 1) ∷ pairs ∷ (taken i (take 16 (drop 2 words)) ++ taken i (drop 16 (drop 2 words)))
    → AreWords level pairs (remove keys i) (remove values i) new
words-taken level count pairs keys values words new i are low is =
    let even = are.even in
    let few = are.few in
    let size = length-slot_words keys are.few in
    let head = words-head level count keys values words are in
    let ks : take 16 (drop 2 words) ≡ slot_words keys = ap (λ ws. take 16 (drop 2 ws)) are.words_are ∙ take_at (slot_words keys) (slot_words values) 16 size in
    let vs : drop 16 (drop 2 words) ≡ slot_words values = ap (λ ws. drop 16 (drop 2 ws)) are.words_are ∙ drop_at (slot_words keys) (slot_words values) 16 size in
    let now = length-remove keys i low in
    let other = length-remove values i (omega arith) in
    record {
      words_are =
          is
          ∙ ap (λ xs. (slice_index words 0 - 1) ∷ pairs ∷ (taken i xs ++ taken i (drop 16 (drop 2 words)))) ks
          ∙ ap (λ xs. (slice_index words 0 - 1) ∷ pairs ∷ (taken i (slot_words keys) ++ taken i xs)) vs
          ∙ ap (λ xs. (slice_index words 0 - 1) ∷ pairs ∷ (xs ++ taken i (slot_words values))) (slot-take keys i low few)
          ∙ ap (λ xs. (slice_index words 0 - 1) ∷ pairs ∷ (slot_words (remove keys i) ++ xs)) (slot-take values i (omega arith) (omega arith))
          ∙ ap (λ n. n ∷ pairs ∷ (slot_words (remove keys i) ++ slot_words (remove values i))) (let e : slice_index words 0 - 1 ≡ level * 256 + length (remove keys i) = omega arith in e);
      even = omega arith;
      few = omega arith;
    }

-- two words, and 32 written over those behind them
pub words-rest : (words : List ℕ) (head pairs : ℕ) (ys : List ℕ) → length words ≡ 34
    → put_mid 2 32 (slice_set (slice_set words 0 head) 1 pairs) ys ≡ head ∷ pairs ∷ ys
words-rest [] head pairs ys size = absurd (omega arith)
words-rest (a ∷ []) head pairs ys size = absurd (omega arith)
words-rest (a ∷ b ∷ ws) head pairs ys size =
    let none : drop 32 ws ≡ [] = drop_all 32 ws (omega arith) in
    ap (λ xs. head ∷ pairs ∷ xs) (ap (λ zs. ys ++ zs) none ∙ append-nil ys)

pub words-mid : (words : List ℕ) (head pairs : ℕ) → length words ≡ 34 → mid_of 2 32 (slice_set (slice_set words 0 head) 1 pairs) ≡ drop 2 words
words-mid [] head pairs size = absurd (omega arith)
words-mid (a ∷ []) head pairs size = absurd (omega arith)
words-mid (a ∷ b ∷ ws) head pairs size = take_all 32 ws (omega arith)

pub words-written : (level pairs : ℕ) (keys values new : List ℕ) → length keys ≡ length values → length keys ≤ 16
    → new ≡ (level * 256 + length keys) ∷ pairs ∷ (slot_words keys ++ slot_words values) → AreWords level pairs keys values new
words-written level pairs keys values new even few is = record { words_are = is; even = even; few = few }

-- the slots are those that the words say
pub words-own : (level count : ℕ) (keys values words : List ℕ) → AreWords level count keys values words → AreWords level count (node_keys words) (node_values words) words
words-own level count keys values words are =
    subst (λ ks. AreWords level count ks (node_values words) words) (sym (words-keys level count keys values words are))
    (subst (λ vs. AreWords level count keys vs words) (sym (words-values level count keys values words are)) are)
