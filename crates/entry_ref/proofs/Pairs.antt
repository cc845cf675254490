-- A list of references, each with its words, read again as records, and the image that it makes.
use Rattle.std.proofs.Common.{◌≡◌, ℕ, ◌<◌, List, [], ◌∷◌, length, Some, Bool, cond, eqb, true, false, nat_eq, refl, sym, ap, ◌∙◌, subst, ⊎_elim, inl, inr, eqb-true, eq-eqb, true≢false, ◌⊎◌, arith}
use Rattle.std.specs.Option.{unwrap_or}
use Rattle.std.specs.Map.{lookup}
use Rattle.entry_ref.specs.Records.{Records, SameAt, AllThere, pairs_of, references_of, records_of, Among}
use Rattle.entry_ref.specs.Images.{image_of, words_at}

-- the references of pairs are those that they were made of
pub references-pairs : (refs : List ℕ) (m : Records) → references_of (pairs_of refs m) ≡ refs
references-pairs [] m = refl
references-pairs (r ∷ rs) m = ap (λ l. r ∷ l) (references-pairs rs m)

-- each reference of the list is found with its words
pub pairs-there : (refs : List ℕ) (m : Records) (r : ℕ) → Among r refs → lookup (nat_eq r) (pairs_of refs m) ≡ Some (m r)
pairs-there [] m r among = absurd among
pairs-there (q ∷ qs) m r among = by_test (eqb r q) refl (λ h. pairs-there qs m r h)
  where
    by_test : (t : Bool) → eqb r q ≡ t → (Among r qs → lookup (nat_eq r) (pairs_of qs m) ≡ Some (m r)) → cond t (Some (m q)) (lookup (nat_eq r) (pairs_of qs m)) ≡ Some (m r)
    by_test true e later = ap (λ x. Some (m x)) (sym (eqb-true r q e))
    by_test false e later = later (⊎_elim (λ (same : r ≡ q). absurd (true≢false (sym (eq-eqb r q same) ∙ e))) (λ h. h) among)

-- and what is found has its words, and is there if all are
pub pairs-found : (refs : List ℕ) (m : Records) (r : ℕ) (ws : List ℕ) → AllThere refs m → lookup (nat_eq r) (pairs_of refs m) ≡ Some ws → (m r ≡ ws) × (0 < length (m r))
pairs-found [] m r ws all found = absurd (cc)
pairs-found (q ∷ qs) m r ws all found = by_test (eqb r q) refl (pairs-found qs m r ws all.1) found
  where
    by_test : (t : Bool) → eqb r q ≡ t → (lookup (nat_eq r) (pairs_of qs m) ≡ Some ws → (m r ≡ ws) × (0 < length (m r)))
        → cond t (Some (m q)) (lookup (nat_eq r) (pairs_of qs m)) ≡ Some ws → (m r ≡ ws) × (0 < length (m r))
    by_test true e later is =
        let same : r ≡ q = eqb-true r q e in
        let words : m q ≡ ws = cc in
        (ap m same ∙ words, subst (λ x. 0 < length (m x)) (sym same) all.0)
    by_test false e later is = later is

-- the pairs of a list agree with the records that they were made of, at each reference of the list
same_among : (refs all : List ℕ) (m : Records) → ((r : ℕ) → Among r refs → Among r all) → SameAt refs m (records_of (pairs_of all m))
same_among [] all m sub = tt
same_among (q ∷ qs) all m sub = (ap (λ o. unwrap_or o []) (pairs-there all m q (sub q (inl refl))), same_among qs all m (λ r h. sub r (inr h)))

pub pairs-same : (refs : List ℕ) (m : Records) → SameAt refs m (records_of (pairs_of refs m))
pairs-same refs m = same_among refs refs m (λ r h. h)

-- an image has the words that it was made of, or none
pub words-image : (refs : List ℕ) (m : Records) (root r : ℕ) → (words_at (image_of refs m root) r ≡ m r) ⊎ (words_at (image_of refs m root) r ≡ [])
words-image [] m root r = inr refl
words-image (q ∷ qs) m root r = by_test (eqb r q) refl (words-image qs m root r)
  where
    by_test : (t : Bool) → eqb r q ≡ t → (words_at (image_of qs m root) r ≡ m r) ⊎ (words_at (image_of qs m root) r ≡ [])
        → (unwrap_or (cond t (Some (m q)) (lookup (nat_eq r) (pairs_of qs m))) [] ≡ m r) ⊎ (unwrap_or (cond t (Some (m q)) (lookup (nat_eq r) (pairs_of qs m))) [] ≡ [])
    by_test true e later = inl (ap m (sym (eqb-true r q e)))
    by_test false e later = later

pub words-found : (refs : List ℕ) (m : Records) (root r : ℕ) → 0 < length (words_at (image_of refs m root) r) → m r ≡ words_at (image_of refs m root) r
words-found refs m root r some = ⊎_elim (λ e. sym e) (λ e. absurd (omega (arith, ap length e))) (words-image refs m root r)

pub words-among : (refs : List ℕ) (m : Records) (root r : ℕ) → Among r refs → words_at (image_of refs m root) r ≡ m r
words-among refs m root r among = ap (λ o. unwrap_or o []) (pairs-there refs m r among)

-- what is there at each reference of a list is there at one
pub there-among : (refs : List ℕ) (m : Records) (r : ℕ) → AllThere refs m → Among r refs → 0 < length (m r)
there-among [] m r all among = absurd among
there-among (q ∷ qs) m r all among = ⊎_elim (λ (e : r ≡ q). subst (λ x. 0 < length (m x)) (sym e) all.0) (there-among qs m r all.1) among

-- where the words of each reference of a list are the same
pub same-from : (refs : List ℕ) (m n : Records) → ((q : ℕ) → Among q refs → n q ≡ m q) → SameAt refs m n
same-from [] m n same = tt
same-from (q ∷ qs) m n same = (same q (inl refl), same-from qs m n (λ r h. same r (inr h)))

pub pairs-same_at : (refs : List ℕ) (m n : Records) → SameAt refs m n → pairs_of refs n ≡ pairs_of refs m
pairs-same_at [] m n same = refl
pairs-same_at (r ∷ rs) m n same = ap (λ ws. (r, ws) ∷ pairs_of rs n) same.0 ∙ ap (λ ps. (r, m r) ∷ ps) (pairs-same_at rs m n same.1)
