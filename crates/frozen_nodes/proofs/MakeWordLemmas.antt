-- The words of a node in hand, read and edited in place.
use Rattle.std.proofs.Common.{◌≡◌, ℕ, zero, suc, ◌+◌, ◌*◌, ◌-◌, ◌/◌, ◌%◌, ◌<◌, ◌≤◌, List, [], ◌∷◌, ◌++◌, length, take, drop, insert, replicate, slice_index, refl, sym, ap, subst, ◌∙◌, ◌^◌, arith, inl, inr}
use Rattle.std.proofs.Common.{length-append, length-drop}
use Rattle.std.specs.Prelude.{slice_set, slice_index_or}
use borrow.Rule.Slice.PartMut.{mid_of, put_mid}
use Rattle.std.proofs.lemmas.Bool.{cases_lt}
use Rattle.std.proofs.lemmas.List.{ext_get_or, get_or-take, get_or-append_right, get_or_append_left, get_or-replicate, get_or-drop, length-replicate, length-take-le, length-set, take-append-le, take_all, take_at}
use Rattle.std.proofs.lemmas.List.{take-replicate, drop_at, drop-append-le, append_assoc, take-take, drop-drop, set-append_left, set-append_right, set_split, take-append-drop, drop_all, append-nil}
use Rattle.tree_read.specs.Nodes.{level_of, used_of, count_of, node_keys, node_values, slot_words, node_words, IsNodeForm}
use Rattle.tree_read.proofs.NodeLemmas.{node_keys-words, node_values-words, node_formed, length-slot_words}
use Rattle.frozen_nodes.specs.Words.{AreWords}

-- what is 0 from a place on is what is before, and zeros
past-zeros : (xs : List ℕ) (used size : ℕ) → length xs ≡ size → used ≤ size → ((i : ℕ) → used ≤ i → i < size → slice_index xs i ≡ 0)
    → xs ≡ take used xs ++ replicate (size - used) 0
past-zeros xs used size all_size few none =
    let front : length (take used xs) ≡ used = length-take-le used xs (omega arith) in
    let rest : length (replicate {A = ℕ} (size - used) 0) ≡ size - used = length-replicate (size - used) 0 in
    let both = length-append (take used xs) (replicate (size - used) 0) in
    ext_get_or 0 xs (take used xs ++ replicate (size - used) 0) (omega arith) (λ i h. elim (cases_lt i used) [
      | inl low ↦ sym (get_or_append_left (take used xs) (replicate (size - used) 0) 0 i (omega arith) ∙ get_or-take used xs i 0 low)
      | inr past ↦ none i past (omega arith)
          ∙ sym (get_or-append_right (take used xs) (replicate (size - used) 0) used i 0 front past ∙ get_or-replicate (size - used) (i - used) 0 0 (omega arith))
    ])

two-and-rest : (ws : List ℕ) → 2 ≤ length ws → ws ≡ slice_index ws 0 ∷ slice_index ws 1 ∷ drop 2 ws
two-and-rest [] h = absurd (omega arith)
two-and-rest (a ∷ []) h = absurd (omega arith)
two-and-rest (a ∷ b ∷ ws) h = refl

head-split : (n : ℕ) → n ≡ n / 256 * 256 + n % 256
head-split n = omega arith

-- the words of a node of its form are those of its slots
module _ (level least : ℕ) (ws : List ℕ) (form : IsNodeForm level least ws) where
  keys-size : length (node_keys ws) ≡ used_of ws
  keys-size = let size = form.size in let room = form.room in let behind = length-drop 2 ws in length-take-le (used_of ws) (drop 2 ws) (omega arith)

  values-size : length (node_values ws) ≡ used_of ws
  values-size = let size = form.size in let room = form.room in let behind = length-drop 18 ws in length-take-le (used_of ws) (drop 18 ws) (omega arith)

  key-words : take 16 (drop 2 ws) ≡ slot_words (node_keys ws)
  key-words =
      let size = form.size in let room = form.room in let behind = length-drop 2 ws in
      let sixteen : length (take 16 (drop 2 ws)) ≡ 16 = length-take-le 16 (drop 2 ws) (omega arith) in
      past-zeros (take 16 (drop 2 ws)) (used_of ws) 16 sixteen room
      (λ i past low. get_or-take 16 (drop 2 ws) i 0 low ∙ get_or-drop 2 ws i 0 ∙ form.no_key i past low)
      ∙ ap (λ ks. ks ++ replicate (16 - used_of ws) 0) (take-take (used_of ws) 16 (drop 2 ws) room)
      ∙ ap (λ n. node_keys ws ++ replicate (16 - n) 0) (sym keys-size)

  value-words : drop 18 ws ≡ slot_words (node_values ws)
  value-words =
      let size = form.size in let room = form.room in let behind = length-drop 18 ws in
      past-zeros (drop 18 ws) (used_of ws) 16 (omega arith) room (λ i past low. get_or-drop 18 ws i 0 ∙ form.no_value i past low)
      ∙ ap (λ n. node_values ws ++ replicate (16 - n) 0) (sym values-size)

  pub form-words : AreWords level (count_of ws) (node_keys ws) (node_values ws) ws
  form-words =
      let size = form.size in
      let whole : ws ≡ slice_index ws 0 ∷ slice_index ws 1 ∷ (slot_words (node_keys ws) ++ slot_words (node_values ws)) =
      two-and-rest ws (omega arith)
      ∙ ap (λ xs. slice_index ws 0 ∷ slice_index ws 1 ∷ xs)
      (sym (take-append-drop 16 (drop 2 ws)) ∙ ap (λ xs. xs ++ drop 16 (drop 2 ws)) key-words
      ∙ ap (λ xs. slot_words (node_keys ws) ++ xs) (drop-drop 16 2 ws ∙ value-words)) in
      let head : slice_index ws 0 ≡ level * 256 + length (node_keys ws) =
      head-split (slice_index ws 0) ∙ ap (λ n. n * 256 + used_of ws) form.at_level ∙ ap (λ n. level * 256 + n) (sym keys-size) in
      record {
        words_are = whole ∙ ap (λ n. n ∷ slice_index ws 1 ∷ (slot_words (node_keys ws) ++ slot_words (node_values ws))) head;
        even = keys-size ∙ sym values-size;
        few = let room = form.room in let k = keys-size in omega arith;
      }

-- what words say
module _ (level count : ℕ) (keys values words : List ℕ) (are : AreWords level count keys values words) where
  pub words-keys : node_keys words ≡ keys
  words-keys = ap node_keys are.words_are ∙ node_keys-words level count keys values are.even are.few

  pub words-values : node_values words ≡ values
  words-values = ap node_values are.words_are ∙ node_values-words level count keys values are.even are.few

  pub words-count : count_of words ≡ count
  words-count = ap count_of are.words_are

  pub words-head : slice_index words 0 ≡ level * 256 + length keys
  words-head = ap (λ ws. slice_index ws 0) are.words_are

  pub words-used : used_of words ≡ length keys
  words-used = let head = words-head in let few = are.few in omega arith

  pub words-level : level_of words ≡ level
  words-level = let head = words-head in let few = are.few in omega arith

  pub words-size : length words ≡ 34
  words-size =
      let a : length words ≡ suc (suc (length (slot_words keys ++ slot_words values))) = ap length are.words_are in
      let b = length-append (slot_words keys) (slot_words values) in
      let c = length-slot_words keys are.few in
      let few = are.few in let even = are.even in
      let d = length-slot_words values (omega arith) in
      omega arith

-- the last key of slots
pub words-last : (level count : ℕ) (keys values words : List ℕ) → AreWords level count keys values words → 0 < length keys
    → slice_index words (1 + length keys) ≡ slice_index keys (length keys - 1)
words-last level count keys values words are some =
    let at : 1 + length keys ≡ suc (suc (length keys - 1)) = omega arith in
    let size = length-slot_words keys are.few in
    let few = are.few in
    ap (slice_index words) at
    ∙ ap (λ ws. slice_index ws (suc (suc (length keys - 1)))) are.words_are
    ∙ get_or_append_left (slot_words keys) (slot_words values) 0 (length keys - 1) (omega arith)
    ∙ get_or_append_left keys (replicate (16 - length keys) 0) 0 (length keys - 1) (omega arith)

-- one slot set
slot-set : (slots : List ℕ) (i word : ℕ) → i < length slots → slice_set (slot_words slots) i word ≡ slot_words (take i slots ++ (word ∷ drop (suc i) slots))
slot-set slots i word low =
    let same : slice_set slots i word ≡ take i slots ++ (word ∷ drop (suc i) slots) = set_split slots i word low in
    let size = length-set slots i word in
    set-append_left slots (replicate (16 - length slots) 0) i word low
    ∙ ap (λ n. slice_set slots i word ++ replicate (16 - n) 0) (sym size)
    ∙ ap slot_words same

pub cut-size : (slots : List ℕ) (i word : ℕ) → i < length slots → length (take i slots ++ (word ∷ drop (suc i) slots)) ≡ length slots
cut-size slots i word low = ap length (sym (set_split slots i word low)) ∙ length-set slots i word

pub words-set : (level count pairs : ℕ) (keys values words : List ℕ) (i key value : ℕ) → AreWords level count keys values words → i < length keys
    → AreWords level pairs (take i keys ++ (key ∷ drop (suc i) keys)) (take i values ++ (value ∷ drop (suc i) values))
    (slice_set (slice_set (slice_set words 1 pairs) (2 + i) key) (18 + i) value)
words-set level count pairs keys values words i key value are low =
    let head = level * 256 + length keys in
    let key_place : 2 + i ≡ suc (suc i) = omega arith in
    let value_place : 18 + i ≡ suc (suc (16 + i)) = omega arith in
    let even = are.even in
    let few = are.few in
    let size = length-slot_words keys few in
    let kept : slice_set (slot_words keys ++ slot_words values) i key ≡ slot_words (take i keys ++ (key ∷ drop (suc i) keys)) ++ slot_words values =
    set-append_left (slot_words keys) (slot_words values) i key (omega arith) ∙ ap (λ ks. ks ++ slot_words values) (slot-set keys i key low) in
    let ks = take i keys ++ (key ∷ drop (suc i) keys) in
    let now : length ks ≡ length keys = cut-size keys i key low in
    let now_size = length-slot_words ks (omega arith) in
    let both : slice_set (slot_words ks ++ slot_words values) (16 + i) value ≡ slot_words ks ++ slot_words (take i values ++ (value ∷ drop (suc i) values)) =
    set-append_right (slot_words ks) (slot_words values) 16 (16 + i) value now_size (omega arith)
    ∙ ap (λ n. slot_words ks ++ slice_set (slot_words values) n value) (let e : 16 + i - 16 ≡ i = omega arith in e)
    ∙ ap (λ vs. slot_words ks ++ vs) (slot-set values i value (omega arith)) in
    record {
      words_are =
          ap (λ ws. slice_set (slice_set (slice_set ws 1 pairs) (2 + i) key) (18 + i) value) are.words_are
          ∙ ap (λ n. slice_set (slice_set (slice_set (node_words level count keys values) 1 pairs) n key) (18 + i) value) key_place
          ∙ ap (λ n. slice_set (head ∷ pairs ∷ slice_set (slot_words keys ++ slot_words values) i key) n value) value_place
          ∙ ap (λ xs. head ∷ pairs ∷ slice_set xs (16 + i) value) kept
          ∙ ap (λ xs. head ∷ pairs ∷ xs) both
          ∙ ap (λ n. (level * 256 + n) ∷ pairs ∷ (slot_words ks ++ slot_words (take i values ++ (value ∷ drop (suc i) values)))) (sym now);
      even = let v = cut-size values i value (omega arith) in omega arith;
      few = omega arith;
    }

-- one slot more
slot-put : (slots : List ℕ) (i word : ℕ) → i ≤ length slots → length slots < 16
    → take i (slot_words slots) ++ (word ∷ take (15 - i) (drop i (slot_words slots))) ≡ slot_words (take i slots ++ (word ∷ drop i slots))
slot-put slots i word low room =
    let zeros : List ℕ = replicate (16 - length slots) 0 in
    let fewer : List ℕ = replicate (15 - length slots) 0 in
    let behind = length-drop i slots in
    let before : length (take i slots) ≡ i = length-take-le i slots low in
    let more = length-append (take i slots) (word ∷ drop i slots) in
    let rest : take (15 - i) (drop i slots ++ zeros) ≡ drop i slots ++ fewer =
    take-behind (drop i slots) zeros (15 - i) (15 - length slots) (omega arith)
    ∙ ap (λ xs. drop i slots ++ xs) (take-replicate (15 - length slots) (16 - length slots) 0 (omega arith)) in
    ap (λ xs. xs ++ (word ∷ take (15 - i) (drop i (slots ++ zeros)))) (take-append-le i slots zeros low)
    ∙ ap (λ xs. take i slots ++ (word ∷ take (15 - i) xs)) (drop-append-le i slots zeros low)
    ∙ ap (λ xs. take i slots ++ (word ∷ xs)) rest
    ∙ sym (append_assoc (take i slots) (word ∷ drop i slots) fewer)
    ∙ ap (λ n. (take i slots ++ (word ∷ drop i slots)) ++ replicate n 0) (let e : 15 - length slots ≡ 16 - length (take i slots ++ (word ∷ drop i slots)) = omega arith in e)
  where
    take-behind : (xs ys : List ℕ) (n m : ℕ) → n ≡ length xs + m → take n (xs ++ ys) ≡ xs ++ take m ys
    take-behind [] ys n m e = let same : n ≡ m = omega arith in ap (λ k. take k ys) same
    take-behind (x ∷ xs) ys zero m e = absurd (omega arith)
    take-behind (x ∷ xs) ys (suc n) m e = ap (λ zs. x ∷ zs) (take-behind xs ys n m (omega arith))

pub put-size : (slots : List ℕ) (i word : ℕ) → i ≤ length slots → length (take i slots ++ (word ∷ drop i slots)) ≡ suc (length slots)
put-size slots i word low =
    let a = length-append (take i slots) (word ∷ drop i slots) in let b : length (take i slots) ≡ i = length-take-le i slots low in let c = length-drop i slots in omega arith

pub words-put : (level count pairs : ℕ) (keys values words new : List ℕ) (i key value : ℕ) → AreWords level count keys values words → i ≤ length keys → length keys < 16
    → new ≡ (slice_index words 0 + 1) ∷ pairs ∷ ((take i (take 16 (drop 2 words)) ++ (key ∷ take (15 - i) (drop i (take 16 (drop 2 words)))))
    ++ (take i (drop 16 (drop 2 words)) ++ (value ∷ take (15 - i) (drop i (drop 16 (drop 2 words))))))
    → AreWords level pairs (insert keys i key) (insert values i value) new
words-put level count pairs keys values words new i key value are low room is =
    let even = are.even in
    let size = length-slot_words keys are.few in
    let head = words-head level count keys values words are in
    let ks : take 16 (drop 2 words) ≡ slot_words keys = ap (λ ws. take 16 (drop 2 ws)) are.words_are ∙ take_at (slot_words keys) (slot_words values) 16 size in
    let vs : drop 16 (drop 2 words) ≡ slot_words values = ap (λ ws. drop 16 (drop 2 ws)) are.words_are ∙ drop_at (slot_words keys) (slot_words values) 16 size in
    let now = put-size keys i key low in
    let k = slot-put keys i key low room in
    let v = slot-put values i value (omega arith) (omega arith) in
    record {
      words_are =
          is
          ∙ ap (λ xs. (slice_index words 0 + 1) ∷ pairs ∷ ((take i xs ++ (key ∷ take (15 - i) (drop i xs))) ++ (take i (drop 16 (drop 2 words)) ++ (value ∷ take (15 - i) (drop i (drop 16 (drop 2 words))))))) ks
          ∙ ap (λ xs. (slice_index words 0 + 1) ∷ pairs ∷ ((take i (slot_words keys) ++ (key ∷ take (15 - i) (drop i (slot_words keys)))) ++ (take i xs ++ (value ∷ take (15 - i) (drop i xs))))) vs
          ∙ ap (λ xs. (slice_index words 0 + 1) ∷ pairs ∷ (xs ++ (take i (slot_words values) ++ (value ∷ take (15 - i) (drop i (slot_words values)))))) k
          ∙ ap (λ xs. (slice_index words 0 + 1) ∷ pairs ∷ (slot_words (take i keys ++ (key ∷ drop i keys)) ++ xs)) v
          ∙ ap (λ n. n ∷ pairs ∷ (slot_words (take i keys ++ (key ∷ drop i keys)) ++ slot_words (take i values ++ (value ∷ drop i values))))
          (let e : slice_index words 0 + 1 ≡ level * 256 + length (take i keys ++ (key ∷ drop i keys)) = omega arith in e);
      even = let other = put-size values i value (omega arith) in omega arith;
      few = omega arith;
    }

-- 32 words written over those behind the first two
abbrev with-both : ℕ → ℕ → ℕ → List ℕ → List ℕ
with-both i key value ws =
    (take i (take 16 ws) ++ (key ∷ take (15 - i) (drop i (take 16 ws)))) ++ (take i (drop 16 ws) ++ (value ∷ take (15 - i) (drop i (drop 16 ws))))

pub words-over : (words : List ℕ) (pairs i key value : ℕ) (ys : List ℕ) → length words ≡ 34
    → ys ≡ with-both i key value (mid_of 2 32 (slice_set (slice_set words 0 (slice_index_or words 0 0 + 1)) 1 pairs))
    → put_mid 2 32 (slice_set (slice_set words 0 (slice_index_or words 0 0 + 1)) 1 pairs) ys
    ≡ (slice_index words 0 + 1) ∷ pairs ∷ with-both i key value (drop 2 words)
words-over [] pairs i key value ys size is = absurd (omega arith)
words-over (a ∷ []) pairs i key value ys size is = absurd (omega arith)
words-over (a ∷ b ∷ ws) pairs i key value ys size is =
    let same : take 32 ws ≡ ws = take_all 32 ws (omega arith) in
    let none : drop 32 ws ≡ [] = drop_all 32 ws (omega arith) in
    ap (λ xs. (a + 1) ∷ pairs ∷ xs) (ap (λ zs. ys ++ zs) none ∙ append-nil ys ∙ is ∙ ap (with-both i key value) same)

-- words in hand have the form of a node
pub words-form : (level count : ℕ) (keys values words : List ℕ) → AreWords level count keys values words → 0 < length keys → count < 2 ^ 32 → IsNodeForm (level_of words) 1 words
words-form level count keys values words are some small =
    let f = node_formed level count keys values are.even are.few small in
    subst (λ l. IsNodeForm l 1 words) (sym (words-level level count keys values words are))
    (subst (IsNodeForm level 1) (sym are.words_are)
    record { size = f.size; at_level = f.at_level; filled = let u = f.filled in omega arith; room = f.room; no_key = f.no_key; no_value = f.no_value; few = f.few })
