-- The slots of made nodes in their parent.
use Rattle.std.proofs.Common.{◌≡◌, ℕ, zero, suc, ◌+◌, ◌<◌, ◌≤◌, List, [], ◌∷◌, ◌++◌, length, take, drop, set, refl, sym, ap, subst, ◌∙◌, arith, inl, inr, length-append}
use Rattle.std.proofs.lemmas.Bool.{cases_lt}
use Rattle.std.specs.List.{remove}
use Rattle.std.proofs.lemmas.List.{set_split}
use Rattle.entry_ref.specs.Records.{Records}
use Rattle.tree_read.specs.Trees.{pairs_below, last_key, Keeps}
use Rattle.store_api.specs.Ledgers.{Ledger}
use Rattle.tree_read.proofs.SlotLemmas.{slot_pairs-append, slot_nodes-append, hand-right, slot_pairs-kept, slot_nodes-kept}
use Rattle.frozen_nodes.specs.Makes.{MakesNode, MakesPart}
use Rattle.tree_read.specs.Slots.{slot_pairs, slot_nodes, IsInHand}
use Rattle.frozen_nodes.specs.declared.make.MadeNode.{MadeNode}
use Rattle.frozen_btree.proofs.StandLemmas.{stands-one, stands-two}
use Rattle.frozen_btree.specs.Settles.{MakesSlots, SettlesSlots}

edit_one : (i a : ℕ) (xs : List ℕ) → suc i < length xs → set (remove xs (suc i)) i a ≡ take i xs ++ (a ∷ drop (suc (suc i)) xs)
edit_one i a [] low = absurd (omega arith)
edit_one zero a (x ∷ []) low = absurd (omega arith)
edit_one zero a (x ∷ y ∷ xs) low = refl
edit_one (suc i) a (x ∷ xs) low = ap (λ l. x ∷ l) (edit_one i a xs (omega arith))

edit_two : (i a b : ℕ) (xs : List ℕ) → suc i < length xs → set (set xs i a) (suc i) b ≡ take i xs ++ (a ∷ b ∷ drop (suc (suc i)) xs)
edit_two i a b [] low = absurd (omega arith)
edit_two zero a b (x ∷ []) low = absurd (omega arith)
edit_two zero a b (x ∷ y ∷ xs) low = refl
edit_two (suc i) a b (x ∷ xs) low = ap (λ l. x ∷ l) (edit_two i a b xs (omega arith))

-- one slot in place of two
pub one-for-two : (i a : ℕ) (xs : List ℕ) → suc i < length xs → set (remove xs (i + 1)) i a ≡ take i xs ++ ((a ∷ []) ++ drop (i + 2) xs)
one-for-two i a xs low =
    let up : i + 1 ≡ suc i = omega arith in
    let two : suc (suc i) ≡ i + 2 = omega arith in
    ap (λ k. set (remove xs k) i a) up ∙ edit_one i a xs low ∙ ap (λ k. take i xs ++ (a ∷ drop k xs)) two

-- two slots in place of two
pub two-for-two : (i a b : ℕ) (xs : List ℕ) → suc i < length xs → set (set xs i a) (i + 1) b ≡ take i xs ++ (((a ∷ []) ++ (b ∷ [])) ++ drop (i + 2) xs)
two-for-two i a b xs low =
    let up : i + 1 ≡ suc i = omega arith in
    let two : suc (suc i) ≡ i + 2 = omega arith in
    ap (λ k. set (set xs i a) k b) up ∙ edit_two i a b xs low ∙ ap (λ k. take i xs ++ (a ∷ b ∷ drop k xs)) two

pub one-for-one : (i a : ℕ) (xs : List ℕ) → i < length xs → set xs i a ≡ take i xs ++ ((a ∷ []) ++ drop (i + 1) xs)
one-for-one i a xs low = let up : suc i ≡ i + 1 = omega arith in set_split xs i a low ∙ ap (λ k. take i xs ++ (a ∷ drop k xs)) up

module _ {H : Type 0} (old new : Ledger H) (m n : Records) (level : ℕ) (keys values : List ℕ) (key ref : ℕ)
    (makes : MakesNode old new m n level keys values ref) (last : key ≡ last_key (pairs_below n level ref)) (many : 8 ≤ length keys)
    (first : ℕ) (parent_keys parent_values keys_after values_after : List ℕ) (even : length parent_keys ≡ length parent_values) where
  pub settles-merged : suc first < length parent_keys
      → keys_after ≡ set (remove parent_keys (first + 1)) first key → values_after ≡ set (remove parent_values (first + 1)) first ref
      → SettlesSlots old new m n level (slot_pairs m level keys values) (slot_nodes m level values) first 2 parent_keys parent_values keys_after values_after
  settles-merged low keys_are values_are = record {
    made_keys = key ∷ [];
    made_values = ref ∷ [];
    stands = stands-one old new m n level keys values ref makes key last many;
    some = omega arith;
    few = omega arith;
    keys_are = keys_are ∙ one-for-two first key parent_keys low;
    values_are = values_are ∙ one-for-two first ref parent_values (omega arith);
  }

  pub settles-alone : first < length parent_keys → keys_after ≡ set parent_keys first key → values_after ≡ set parent_values first ref
      → SettlesSlots old new m n level (slot_pairs m level keys values) (slot_nodes m level values) first 1 parent_keys parent_values keys_after values_after
  settles-alone low keys_are values_are = record {
    made_keys = key ∷ [];
    made_values = ref ∷ [];
    stands = stands-one old new m n level keys values ref makes key last many;
    some = omega arith;
    few = omega arith;
    keys_are = keys_are ∙ one-for-one first key parent_keys low;
    values_are = values_are ∙ one-for-one first ref parent_values (omega arith);
  }

module _ {H : Type 0} (a b d : Ledger H) (m n o : Records) (level : ℕ) (k1 v1 k2 v2 : List ℕ) (key1 ref1 key2 ref2 : ℕ)
    (even : length k1 ≡ length v1) (hand : IsInHand m level (k1 ++ k2) (v1 ++ v2))
    (first_makes : MakesNode a b m n level k1 v1 ref1) (first_last : key1 ≡ last_key (pairs_below n level ref1)) (first_many : 8 ≤ length k1)
    (second_makes : MakesNode b d n o level k2 v2 ref2) (second_last : key2 ≡ last_key (pairs_below o level ref2)) (second_many : 8 ≤ length k2) where
  right_hand : IsInHand m level k2 v2
  right_hand = hand-right m level k1 v1 k2 v2 even hand

  both_pairs : slot_pairs m level k1 v1 ++ slot_pairs n level k2 v2 ≡ slot_pairs m level (k1 ++ k2) (v1 ++ v2)
  both_pairs =
      ap (λ ps. slot_pairs m level k1 v1 ++ ps) (slot_pairs-kept m n first_makes.makes.keeps level k2 v2 right_hand)
      ∙ sym (slot_pairs-append m level k1 v1 k2 v2 even)

  both_nodes : slot_nodes m level v1 ++ slot_nodes n level v2 ≡ slot_nodes m level (v1 ++ v2)
  both_nodes =
      ap (λ qs. slot_nodes m level v1 ++ qs) (slot_nodes-kept m n first_makes.makes.keeps level k2 v2 right_hand)
      ∙ sym (slot_nodes-append m level v1 v2)

  both_stand : MakesSlots a d m o level (slot_pairs m level (k1 ++ k2) (v1 ++ v2)) (slot_nodes m level (v1 ++ v2)) ((key1 ∷ []) ++ (key2 ∷ [])) ((ref1 ∷ []) ++ (ref2 ∷ []))
  both_stand =
      subst (λ ps. MakesSlots a d m o level ps (slot_nodes m level (v1 ++ v2)) ((key1 ∷ []) ++ (key2 ∷ [])) ((ref1 ∷ []) ++ (ref2 ∷ []))) both_pairs
      (subst (λ qs. MakesSlots a d m o level (slot_pairs m level k1 v1 ++ slot_pairs n level k2 v2) qs ((key1 ∷ []) ++ (key2 ∷ [])) ((ref1 ∷ []) ++ (ref2 ∷ []))) both_nodes
      (stands-two a b d m n o level (slot_pairs m level k1 v1) (slot_pairs n level k2 v2) (slot_nodes m level v1) (slot_nodes n level v2) (key1 ∷ []) (ref1 ∷ []) (key2 ∷ []) (ref2 ∷ [])
      (stands-one a b m n level k1 v1 ref1 first_makes key1 first_last first_many)
      (stands-one b d n o level k2 v2 ref2 second_makes key2 second_last second_many)))

  pub settles-shared : (keys values : List ℕ) → k1 ++ k2 ≡ keys → v1 ++ v2 ≡ values
      → (first : ℕ) (parent_keys parent_values keys_after values_after : List ℕ) → length parent_keys ≡ length parent_values → suc first < length parent_keys
      → keys_after ≡ set (set parent_keys first key1) (first + 1) key2 → values_after ≡ set (set parent_values first ref1) (first + 1) ref2
      → SettlesSlots a d m o level (slot_pairs m level keys values) (slot_nodes m level values) first 2 parent_keys parent_values keys_after values_after
  settles-shared keys values same_keys same_values first parent_keys parent_values keys_after values_after same low keys_are values_are =
      subst (λ ks. SettlesSlots a d m o level (slot_pairs m level ks values) (slot_nodes m level values) first 2 parent_keys parent_values keys_after values_after) same_keys
      (subst (λ vs. SettlesSlots a d m o level (slot_pairs m level (k1 ++ k2) vs) (slot_nodes m level vs) first 2 parent_keys parent_values keys_after values_after) same_values
      (record {
        made_keys = (key1 ∷ []) ++ (key2 ∷ []);
        made_values = (ref1 ∷ []) ++ (ref2 ∷ []);
        stands = both_stand;
        some = omega arith;
        few = omega arith;
        keys_are = keys_are ∙ two-for-two first key1 key2 parent_keys low;
        values_are = values_are ∙ two-for-two first ref1 ref2 parent_values (omega arith);
      }))

-- slots in hand that are these
pub hand-at : (m : Records) (level : ℕ) (keys keys_are values values_are : List ℕ) → keys ≡ keys_are → values ≡ values_are → IsInHand m level keys_are values_are → IsInHand m level keys values
hand-at m level keys keys_are values values_are e f hand =
    subst (λ ks. IsInHand m level ks values) (sym e) (subst (λ vs. IsInHand m level keys_are vs) (sym f) hand)

-- each of two parts has no more pairs than both
module _ (m : Records) (level : ℕ) (k1 v1 k2 v2 : List ℕ) (even : length k1 ≡ length v1) where
  both-few : (keys values : List ℕ) → k1 ++ k2 ≡ keys → v1 ++ v2 ≡ values
      → length (slot_pairs m level keys values) ≡ length (slot_pairs m level k1 v1) + length (slot_pairs m level k2 v2)
  both-few keys values e f =
      sym (ap (λ ks. length (slot_pairs m level ks values)) e)
      ∙ sym (ap (λ vs. length (slot_pairs m level (k1 ++ k2) vs)) f)
      ∙ ap length (slot_pairs-append m level k1 v1 k2 v2 even)
      ∙ length-append (slot_pairs m level k1 v1) (slot_pairs m level k2 v2)

  pub few-left : (keys values : List ℕ) → k1 ++ k2 ≡ keys → v1 ++ v2 ≡ values → (most : ℕ) → length (slot_pairs m level keys values) < most
      → length (slot_pairs m level k1 v1) < most
  few-left keys values e f most few = let both = both-few keys values e f in omega arith

  pub few-behind : (keys values : List ℕ) → k1 ++ k2 ≡ keys → v1 ++ v2 ≡ values → (most : ℕ) → length (slot_pairs m level keys values) < most
      → length (slot_pairs m level k2 v2) < most
  few-behind keys values e f most few = let both = both-few keys values e f in omega arith

pub few-right : (m n : Records) → Keeps m n → (level : ℕ) (k1 v1 k2 v2 : List ℕ) → length k1 ≡ length v1 → IsInHand m level (k1 ++ k2) (v1 ++ v2)
    → (keys values : List ℕ) → k1 ++ k2 ≡ keys → v1 ++ v2 ≡ values → (most : ℕ) → length (slot_pairs m level keys values) < most
    → length (slot_pairs n level k2 v2) < most
few-right m n keeps level k1 v1 k2 v2 even hand keys values e f most few =
    let same = ap length (slot_pairs-kept m n keeps level k2 v2 (hand-right m level k1 v1 k2 v2 even hand)) in
    let less = few-behind m level k1 v1 k2 v2 even keys values e f most few in
    omega arith

-- a part of slots that are these
pub part-at : {H : Type 0} (old new : Ledger H) (m n : Records) (level : ℕ) (keys values : List ℕ) (part : MadeNode) (level_is : ℕ) (keys_are values_are : List ℕ)
    → level ≡ level_is → keys ≡ keys_are → values ≡ values_are → MakesPart old new m n level keys values part → MakesPart old new m n level_is keys_are values_are part
part-at old new m n level keys values part level_is keys_are values_are e f g makes =
    subst (λ l. MakesPart old new m n l keys_are values_are part) e
    (subst (λ ks. MakesPart old new m n level ks values_are part) f (subst (λ vs. MakesPart old new m n level keys vs part) g makes))

-- two neighbours, one of 7 slots and the other of more than 8, have 8 each after one slot is moved
pub shifted-sizes : (l r a b : ℕ) → a + b ≡ l + r → 16 ≤ l + r → 7 ≤ l → (8 ≤ l → r ≡ 7) → (r ≤ l → a + 1 ≡ l) → (l < r → a ≡ l + 1) → (8 ≤ a) × (8 ≤ b)
shifted-sizes l r a b sum many least short longer shorter = elim (cases_lt l r) [
  | inl less ↦ (let is = shorter less in
      let low : l < 8 = elim (cases_lt l 8) [ inl h ↦ h | inr h ↦ (let e = short h in absurd (omega arith)) ] in
      (omega arith, omega arith))
  | inr more ↦ (let is = longer more in let e = short (omega arith) in (omega arith, omega arith))
]
