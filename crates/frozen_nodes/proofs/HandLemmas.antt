-- The words of a node in hand, with parts in place of a slot.
use Rattle.std.proofs.Common.{◌≡◌, ℕ, zero, suc, ◌+◌, ◌<◌, List, [], ◌∷◌, ◌++◌, length, take, drop, insert, refl, sym, ap, ◌∙◌, arith}
use Rattle.tree_read.specs.Nodes.{level_of, used_of, count_of, node_keys, node_values, IsNodeForm}
use Rattle.frozen_nodes.specs.Words.{AreWords}
use Rattle.frozen_nodes.proofs.MakeWordLemmas.{form-words, words-keys, words-values, words-level, words-used, cut-size}

-- a word behind one that was put
pub insert-behind : (xs : List ℕ) (i v w : ℕ) → i < length xs → insert (take i xs ++ (v ∷ drop (suc i) xs)) (i + 1) w ≡ take i xs ++ (v ∷ w ∷ drop (suc i) xs)
insert-behind xs i v w low = ap (λ n. insert (take i xs ++ (v ∷ drop (suc i) xs)) n w) (let e : i + 1 ≡ suc i = omega arith in e) ∙ go xs i low
  where
    go : (ys : List ℕ) (j : ℕ) → j < length ys → insert (take j ys ++ (v ∷ drop (suc j) ys)) (suc j) w ≡ take j ys ++ (v ∷ w ∷ drop (suc j) ys)
    go [] j h = absurd (omega arith)
    go (y ∷ ys) zero h = refl
    go (y ∷ ys) (suc j) h = ap (λ zs. y ∷ zs) (go ys j (omega arith))

-- as many keys as the head says
pub hand-size : (level : ℕ) (words : List ℕ) → IsNodeForm level 1 words → used_of words ≡ length (node_keys words)
hand-size level words form = words-used level (count_of words) (node_keys words) (node_values words) words (form-words level 1 words form)

pub hand-even : (level : ℕ) (words : List ℕ) → IsNodeForm level 1 words → length (node_keys words) ≡ length (node_values words)
hand-even level words form = (form-words level 1 words form).even

-- a slot set, and one put behind it
module _ (words new : List ℕ) (pairs place k1 n1 k2 n2 : ℕ) (form : IsNodeForm (level_of words) 1 words) (low : place < used_of words)
    (are : AreWords (level_of words) pairs (take place (node_keys words) ++ (k1 ∷ drop (suc place) (node_keys words))) (take place (node_values words) ++ (n1 ∷ drop (suc place) (node_values words))) new) where
  abbrev keys : List ℕ
  keys = node_keys words

  abbrev values : List ℕ
  values = node_values words

  pub level-set : level_of new ≡ level_of words
  level-set = words-level (level_of words) pairs _ _ new are

  pub used-set : used_of new ≡ used_of words
  used-set =
      words-used (level_of words) pairs _ _ new are
      ∙ cut-size keys place k1 (let size = hand-size (level_of words) words form in omega arith)
      ∙ sym (hand-size (level_of words) words form)

  pub keys-set : insert (node_keys new) (place + 1) k2 ≡ take place keys ++ (k1 ∷ k2 ∷ drop (suc place) keys)
  keys-set =
      ap (λ ks. insert ks (place + 1) k2) (words-keys (level_of words) pairs _ _ new are)
      ∙ insert-behind keys place k1 k2 (let size = hand-size (level_of words) words form in omega arith)

  pub values-set : insert (node_values new) (place + 1) n2 ≡ take place values ++ (n1 ∷ n2 ∷ drop (suc place) values)
  values-set =
      ap (λ vs. insert vs (place + 1) n2) (words-values (level_of words) pairs _ _ new are)
      ∙ insert-behind values place n1 n2 (let size = hand-size (level_of words) words form in let even = hand-even (level_of words) words form in omega arith)
