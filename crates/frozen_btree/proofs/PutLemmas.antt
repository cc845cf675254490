-- A pair put among the slots of a leaf.
use Rattle.std.proofs.Common.{◌≡◌, ℕ, zero, suc, ◌<◌, ◌≤◌, Bool, true, false, List, [], ◌∷◌, ◌++◌, length, get_or, take, drop, insert, refl, sym, ap, ◌∙◌, arith, if◌then◌else◌}
use Rattle.std.specs.declared.cmp.Ordering.{Ordering}
use Rattle.std.specs.declared.cmp.Ordering.TheVariants.{Less, Equal, Greater}
use Rattle.std.specs.List.{zip}
use Rattle.entry_ref.specs.Records.{Records}
use Rattle.tree_read.specs.Pairs.{choose, put}
use Rattle.tree_read.specs.NodePlaces.{IsSlot, IsFound, IsLacking}
use Rattle.tree_read.specs.Slots.{slot_pairs, IsInHand}
use Rattle.tree_read.proofs.CountLemmas.{leaf_count}
use Rattle.tree_read.proofs.SlotLemmas.{hand-leaf}
use Rattle.frozen_nodes.proofs.MakeWordLemmas.{cut-size, put-size}
use Rattle.frozen_btree.specs.Inserts.{put_at}

module _ (c : ℕ → Ordering) (word value : ℕ) where
  pub leaf_found : (ks vs : List ℕ) (i : ℕ) → length ks ≡ length vs → i < length ks → ((j : ℕ) → j < i → c (get_or ks j 0) ≡ Less) → c (get_or ks i 0) ≡ Equal
      → zip (take i ks ++ (word ∷ drop (suc i) ks)) (take i vs ++ (value ∷ drop (suc i) vs)) ≡ put c (word, value) (zip ks vs)
  leaf_found [] vs i e low before at = absurd (omega arith)
  leaf_found (k ∷ ks) [] i e low before at = absurd (omega arith)
  leaf_found (k ∷ ks) (v ∷ vs) zero e low before at = ap (λ o. choose o ((k, v) ∷ put c (word, value) (zip ks vs)) ((word, value) ∷ zip ks vs) ((word, value) ∷ (k, v) ∷ zip ks vs)) (sym at)
  leaf_found (k ∷ ks) (v ∷ vs) (suc i) e low before at =
      ap (λ ps. (k, v) ∷ ps) (leaf_found ks vs i (omega arith) (omega arith) (λ j l. before (suc j) (omega arith)) at)
      ∙ ap (λ o. choose o ((k, v) ∷ put c (word, value) (zip ks vs)) ((word, value) ∷ zip ks vs) ((word, value) ∷ (k, v) ∷ zip ks vs)) (sym (before 0 (omega arith)))

  pub leaf_lacking : (ks vs : List ℕ) (i : ℕ) → length ks ≡ length vs → i ≤ length ks → ((j : ℕ) → j < i → c (get_or ks j 0) ≡ Less) → (i < length ks → c (get_or ks i 0) ≡ Greater)
      → zip (insert ks i word) (insert vs i value) ≡ put c (word, value) (zip ks vs)
  leaf_lacking [] [] zero e low before at = refl
  leaf_lacking [] [] (suc i) e low before at = absurd (omega arith)
  leaf_lacking [] (v ∷ vs) i e low before at = absurd (omega arith)
  leaf_lacking (k ∷ ks) [] i e low before at = absurd (omega arith)
  leaf_lacking (k ∷ ks) (v ∷ vs) zero e low before at = ap (λ o. choose o ((k, v) ∷ put c (word, value) (zip ks vs)) ((word, value) ∷ zip ks vs) ((word, value) ∷ (k, v) ∷ zip ks vs)) (sym (at (omega arith)))
  leaf_lacking (k ∷ ks) (v ∷ vs) (suc i) e low before at =
      ap (λ ps. (k, v) ∷ ps) (leaf_lacking ks vs i (omega arith) (omega arith) (λ j l. before (suc j) (omega arith)) (λ l. at (omega arith)))
      ∙ ap (λ o. choose o ((k, v) ∷ put c (word, value) (zip ks vs)) ((word, value) ∷ zip ks vs) ((word, value) ∷ (k, v) ∷ zip ks vs)) (sym (before 0 (omega arith)))

-- the slots of a leaf in hand, with a pair put among them
module _ (m : Records) (ks vs : List ℕ) (i word value : ℕ) (even : length ks ≡ length vs) where
  put_at-size : (found : Bool) (xs : List ℕ) (w : ℕ) → i ≤ length xs → (found ≡ true → i < length xs) → length (put_at found i w xs) ≡ (if found then length xs else suc (length xs))
  put_at-size true xs w low below = cut-size xs i w (below refl)
  put_at-size false xs w low below = put-size xs i w low

  module _ (found : Bool) (low : i ≤ length ks) (below : found ≡ true → i < length ks) where
    pub pair-even : length (put_at found i word ks) ≡ length (put_at found i value vs)
    pair-even =
        put_at-size found ks word low below ∙ ap (λ n. if found then n else suc n) even
        ∙ sym (put_at-size found vs value (omega arith) (λ e. let b = below e in omega arith))

    pub pair-hand : IsInHand m 0 (put_at found i word ks) (put_at found i value vs)
    pair-hand = hand-leaf m (put_at found i word ks) (put_at found i value vs) pair-even

    pub pair-count : length (slot_pairs m 0 (put_at found i word ks) (put_at found i value vs)) ≡ (if found then length ks else suc (length ks))
    pair-count = sym (leaf_count m (put_at found i word ks) (put_at found i value vs) 0 refl pair-hand) ∙ put_at-size found ks word low below

  pub pair-put : (c : ℕ → Ordering) (found : Bool) → IsSlot c ks i → (found ≡ true → IsFound c ks i) → (found ≡ false → IsLacking c ks i)
      → zip (put_at found i word ks) (put_at found i value vs) ≡ put c (word, value) (zip ks vs)
  pair-put c true slot is lacks = let it = is refl in leaf_found c word value ks vs i even it.within slot.before it.equal
  pair-put c false slot is lacks = let it = lacks refl in leaf_lacking c word value ks vs i even slot.within slot.before it.above

  pub pair-most : (found : Bool) → i ≤ length ks → (found ≡ true → i < length ks) → length ks ≤ length (put_at found i word ks)
  pair-most true low below = let size = cut-size ks i word (below refl) in omega arith
  pair-most false low below = let size = put-size ks i word low in omega arith
