-- The pairs of a leaf and changes, pair by pair.
use Rattle.std.proofs.Common.{◌≡◌, ◌≢◌, ℕ, zero, suc, ◌-◌, ◌<◌, ◌≤◌, List, [], ◌∷◌, ◌++◌, length, refl, sym, ap, ◌∙◌, arith, Option, Some, get_or, take, drop, map, append_assoc, length-drop}
use Rattle.std.proofs.Math.Seq.{take-suc}
use Rattle.std.proofs.lemmas.Grind.{flat_map-append}
use Rattle.std.specs.Cmp.{IsTotalOrder}
use Rattle.std.specs.List.Sorted.{IsStrictlySortedBy}
use Rattle.entry_ref.specs.Records.{Records}
use Rattle.std.specs.declared.cmp.Ordering.{Ordering}
use Rattle.std.specs.declared.cmp.Ordering.TheVariants.{Less, Equal, Greater}
use Rattle.std.specs.List.{zip, flat_map, slice_get}
use Rattle.tree_changes.specs.Merges.{Change, pair_of, merged, AreInOrder}
use Rattle.tree_changes.specs.Layers.{seen_changes}
use Rattle.tree_changes.proofs.MergeLemmas.{step-both, step-pair}

pub leaf-both : (changes rest : List Change) (a : Change) (p : ℕ × ℕ) (ps zs zs2 whole : List (ℕ × ℕ)) → changes ≡ a ∷ rest → a.compare p.0 ≡ Equal
    → zs2 ≡ zs ++ pair_of a.pair → zs ++ merged changes (p ∷ ps) ≡ whole → zs2 ++ merged rest ps ≡ whole
leaf-both changes rest a p ps zs zs2 whole at_is equal zs_is done =
    ap (λ z. z ++ merged rest ps) zs_is
    ∙ append_assoc zs (pair_of a.pair) (merged rest ps)
    ∙ ap (λ z. zs ++ z) (sym (step-both a rest p ps equal))
    ∙ ap (λ cs. zs ++ merged cs (p ∷ ps)) (sym at_is)
    ∙ done

-- the first change, if there is one, has a key above
abbrev pub IsAboveFirst : List Change → ℕ → Type 0
IsAboveFirst [] key = Unit {0}
IsAboveFirst (a ∷ changes) key = a.compare key ≡ Less

merged-pair : (changes : List Change) (p : ℕ × ℕ) (ps : List (ℕ × ℕ)) → IsAboveFirst changes p.0 → merged changes (p ∷ ps) ≡ p ∷ merged changes ps
merged-pair [] p ps above = refl
merged-pair (a ∷ changes) p ps above = step-pair a changes p ps above

pub leaf-pair : (changes : List Change) (p : ℕ × ℕ) (ps zs zs2 whole : List (ℕ × ℕ)) → IsAboveFirst changes p.0
    → zs2 ≡ zs ++ p ∷ [] → zs ++ merged changes (p ∷ ps) ≡ whole → zs2 ++ merged changes ps ≡ whole
leaf-pair changes p ps zs zs2 whole above zs_is done =
    ap (λ z. z ++ merged changes ps) zs_is
    ∙ append_assoc zs (p ∷ []) (merged changes ps)
    ∙ ap (λ z. zs ++ z) (sym (merged-pair changes p ps above))
    ∙ done

is-less : (o : Ordering) → o ≢ Greater → o ≢ Equal → o ≡ Less
is-less Less a b = refl
is-less Equal a b = absurd (b refl)
is-less Greater a b = absurd (a refl)

pub above-first : {C : Type 0} (f : C → Change) (changes : List C) (at key : ℕ)
    → ((change : C) → slice_get changes at ≡ Some change → (f change).compare key ≢ Greater)
    → ((change : C) → slice_get changes at ≡ Some change → (f change).compare key ≢ Equal) → IsAboveFirst (drop at (map f changes)) key
above-first f [] zero key past other = tt
above-first f [] (suc at) key past other = tt
above-first f (c ∷ changes) zero key past other = is-less ((f c).compare key) (past c refl) (other c refl)
above-first f (c ∷ changes) (suc at) key past other = above-first f changes at key past other

-- the changes that are left
pub merged-rest : {C : Type 0} (f : C → Change) (pair : C → Option (ℕ × ℕ)) → ((c : C) → (f c).pair ≡ pair c) → (changes : List C)
    → merged (map f changes) [] ≡ flat_map (λ c. pair_of (pair c)) changes
merged-rest f pair same [] = refl
merged-rest f pair same (c ∷ changes) = ap (λ o. pair_of o ++ merged (map f changes) []) (same c) ∙ ap (λ zs. pair_of (pair c) ++ zs) (merged-rest f pair same changes)

pub map-drop : {C : Type 0} (f : C → Change) (changes : List C) (at : ℕ) → drop at (map f changes) ≡ map f (drop at changes)
map-drop f changes zero = refl
map-drop f [] (suc at) = refl
map-drop f (c ∷ changes) (suc at) = map-drop f changes at

pub zip-at : (keys values : List ℕ) (i : ℕ) → i < length keys → length keys ≡ length values
    → drop i (zip keys values) ≡ (get_or keys i 0, get_or values i 0) ∷ drop (suc i) (zip keys values)
zip-at [] values i low even = absurd (omega arith)
zip-at (k ∷ keys) [] i low even = absurd (omega arith)
zip-at (k ∷ keys) (v ∷ values) zero low even = refl
zip-at (k ∷ keys) (v ∷ values) (suc i) low even = zip-at keys values i (omega arith) (omega arith)

pub zip-past : (keys values : List ℕ) (i : ℕ) → length keys ≤ i → drop i (zip keys values) ≡ []
zip-past [] values zero past = refl
zip-past [] values (suc i) past = refl
zip-past (k ∷ keys) values zero past = absurd (omega arith)
zip-past (k ∷ keys) [] (suc i) past = refl
zip-past (k ∷ keys) (v ∷ values) (suc i) past = zip-past keys values i (omega arith)

pub flat-more : {C : Type 0} (f : C → List (ℕ × ℕ)) (changes : List C) (i next : ℕ) (d : C) (zs zs2 start : List (ℕ × ℕ)) → i < length changes → next ≡ suc i
    → zs2 ≡ zs ++ f (get_or changes i d) → zs ≡ start ++ flat_map f (take i changes) → zs2 ≡ start ++ flat_map f (take next changes)
flat-more f changes i next d zs zs2 start low next_is zs_is done =
    zs_is ∙ ap (λ z. z ++ f (get_or changes i d)) done
    ∙ append_assoc start (flat_map f (take i changes)) (f (get_or changes i d))
    ∙ ap (λ z. start ++ z) (
    ap (λ z. flat_map f (take i changes) ++ z) (sym (last (f (get_or changes i d))))
    ∙ sym (flat_map-append f (take i changes) (get_or changes i d ∷ []))
    ∙ ap (flat_map f) (sym (take-suc changes i d low))
    ∙ ap (λ k. flat_map f (take k changes)) (sym next_is)
    )
  where
    last : (xs : List (ℕ × ℕ)) → xs ++ [] ≡ xs
    last [] = refl
    last (x ∷ xs) = ap (λ l. x ∷ l) (last xs)

pub slice_get-in : {C : Type 0} (changes : List C) (at : ℕ) (d : C) → at < length changes → slice_get changes at ≡ Some (get_or changes at d)
slice_get-in [] at d low = absurd (omega arith)
slice_get-in (c ∷ changes) zero d low = refl
slice_get-in (c ∷ changes) (suc at) d low = slice_get-in changes at d (omega arith)

-- a step over a pair of a leaf, and its end
pub leaf-step : (changes rest : List Change) (pairs : List (ℕ × ℕ)) (slot next : ℕ) (p : ℕ × ℕ) (zs zs2 whole : List (ℕ × ℕ)) → next ≡ suc slot
    → drop slot pairs ≡ p ∷ drop (suc slot) pairs
    → zs2 ++ merged rest (drop (suc slot) pairs) ≡ zs ++ merged changes (p ∷ drop (suc slot) pairs)
    → zs ++ merged changes (drop slot pairs) ≡ whole → zs2 ++ merged rest (drop next pairs) ≡ whole
leaf-step changes rest pairs slot next p zs zs2 whole next_is here step done =
    ap (λ k. zs2 ++ merged rest (drop k pairs)) next_is ∙ step ∙ ap (λ ps. zs ++ merged changes ps) (sym here) ∙ done

pub leaf-end : {C : Type 0} (f : C → Change) (pair : C → Option (ℕ × ℕ)) → ((c : C) → (f c).pair ≡ pair c) → (changes : List C) (at : ℕ) (left zs zs2 whole : List (ℕ × ℕ))
    → left ≡ [] → zs2 ≡ zs ++ flat_map (λ c. pair_of (pair c)) (drop at changes)
    → zs ++ merged (drop at (map f changes)) left ≡ whole → zs2 ≡ whole
leaf-end f pair same changes at left zs zs2 whole none zs_is done =
    zs_is
    ∙ ap (λ z. zs ++ z) (sym (merged-rest f pair same (drop at changes)))
    ∙ ap (λ cs. zs ++ merged cs []) (sym (map-drop f changes at))
    ∙ ap (λ ps. zs ++ merged (drop at (map f changes)) ps) (sym none)
    ∙ done

take-past : {C : Type 0} (xs : List C) (n : ℕ) → length xs ≤ n → take n xs ≡ xs
take-past [] zero past = refl
take-past [] (suc n) past = refl
take-past (x ∷ xs) zero past = absurd (omega arith)
take-past (x ∷ xs) (suc n) past = ap (λ l. x ∷ l) (take-past xs n (omega arith))

-- the slice from a place on
pub rest-is : {C : Type 0} (xs : List C) (at : ℕ) → take (length xs - at) (drop at xs) ≡ drop at xs
rest-is xs at = let size = length-drop at xs in take-past (drop at xs) (length xs - at) (omega arith)

-- changes whose sought keys ascend are in order
follows : {V : Type 0} (order : V → V → Ordering) → IsTotalOrder order → (key a b : V) → order a b ≡ Less → order key a ≢ Greater → order key b ≡ Less
follows order total key a b up not =
    (elim (order key a) as (λ o. order key a ≡ o → o ≢ Greater → order key b ≡ Less) [
      | Less ↦ λ e n. total.trans key a b e up
      | Equal ↦ λ e n. total.congr key a b e ∙ up
      | Greater ↦ λ e n. absurd (n refl)
    ]) refl not

pub in-order : {V C : Type 0} (order : V → V → Ordering) → IsTotalOrder order → (read : Records → ℕ → V) (sought : C → V) (pair : C → Option (ℕ × ℕ)) (m : Records) (changes : List C)
    → IsStrictlySortedBy order (map sought changes) → AreInOrder (seen_changes read order sought pair m changes)
unfolding IsStrictlySortedBy
in-order order total read sought pair m [] up = tt
in-order order total read sought pair m (a ∷ []) up = tt
in-order order total read sought pair m (a ∷ b ∷ changes) up =
    ((λ key not. follows order total (read m key) (sought a) (sought b) up.0.0 not), in-order order total read sought pair m (b ∷ changes) up.1)
