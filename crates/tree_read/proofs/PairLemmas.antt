-- What is done to a list of two parts is done in one of them.
use Rattle.std.proofs.Common.{◌≡◌, ◌≢◌, ℕ, zero, suc, ◌<◌, ◌≤◌, List, [], ◌∷◌, ◌++◌, length, get_or, take, drop, refl, sym, ap, ◌∙◌, arith, None, Some, IsSome}
use Rattle.std.specs.declared.cmp.Ordering.{Ordering}
use Rattle.std.specs.declared.cmp.Ordering.TheVariants.{Less, Equal, Greater}
use Rattle.std.specs.List.{flat_map, AllByRecursion}
use Rattle.std.specs.Option.{option_map}
use Rattle.list_lemmas.proofs.Each.{AllByRecursion-left, AllByRecursion-right}
use Rattle.tree_read.specs.Trees.{last_key}
use Rattle.tree_read.specs.Keys.{AllBelow}
use Rattle.tree_read.specs.Pairs.{choose, lookup, lookup_pair, put, take_out, seek}

pub All-child : {A : Type 0} (P : A → Type 0) (f : ℕ → List A) (cs : List ℕ) (i : ℕ) → i < length cs → AllByRecursion P (flat_map f cs) → AllByRecursion P (f (get_or cs i 0))
All-child P f [] i h all = absurd (omega arith)
All-child P f (c ∷ cs) zero h all = AllByRecursion-left P (f c) (flat_map f cs) all
All-child P f (c ∷ cs) (suc i) h all = All-child P f cs i (omega arith) (AllByRecursion-right P (f c) (flat_map f cs) all)

-- the lists of all children, cut at one
pub children-cut : {A : Type 0} (f : ℕ → List A) (cs : List ℕ) (i : ℕ) → i < length cs
    → flat_map f cs ≡ flat_map f (take i cs) ++ (f (get_or cs i 0) ++ flat_map f (drop (suc i) cs))
children-cut f [] i h = absurd (omega arith)
children-cut f (c ∷ cs) zero h = refl
children-cut f (c ∷ cs) (suc i) h =
    ap (λ zs. f c ++ zs) (children-cut f cs i (omega arith))
    ∙ sym (again (f c) (flat_map f (take i cs)) (f (get_or cs i 0) ++ flat_map f (drop (suc i) cs)))
  where
    again : {B : Type 0} (xs ys zs : List B) → (xs ++ ys) ++ zs ≡ xs ++ (ys ++ zs)
    again [] ys zs = refl
    again (x ∷ xs) ys zs = ap (λ l. x ∷ l) (again xs ys zs)

-- all below: the operation goes on behind
pub lookup-skip : (c : ℕ → Ordering) (xs ys : List (ℕ × ℕ)) → AllBelow c xs → lookup c (xs ++ ys) ≡ lookup c ys
lookup-skip c [] ys h = refl
lookup-skip c (x ∷ xs) ys h = ap (λ o. choose o (lookup c (xs ++ ys)) (Some x.1) None) h.0 ∙ lookup-skip c xs ys h.1

pub lookup_pair-skip : (c : ℕ → Ordering) (xs ys : List (ℕ × ℕ)) → AllBelow c xs → lookup_pair c (xs ++ ys) ≡ lookup_pair c ys
lookup_pair-skip c [] ys h = refl
lookup_pair-skip c (x ∷ xs) ys h = ap (λ o. choose o (lookup_pair c (xs ++ ys)) (Some x) None) h.0 ∙ lookup_pair-skip c xs ys h.1

pub put-skip : (c : ℕ → Ordering) (pair : ℕ × ℕ) (xs ys : List (ℕ × ℕ)) → AllBelow c xs → put c pair (xs ++ ys) ≡ xs ++ put c pair ys
put-skip c pair [] ys h = refl
put-skip c pair (x ∷ xs) ys h =
    ap (λ o. choose o (x ∷ put c pair (xs ++ ys)) (pair ∷ (xs ++ ys)) (pair ∷ x ∷ (xs ++ ys))) h.0
    ∙ ap (λ zs. x ∷ zs) (put-skip c pair xs ys h.1)

pub take_out-skip : (c : ℕ → Ordering) (xs ys : List (ℕ × ℕ)) → AllBelow c xs → take_out c (xs ++ ys) ≡ xs ++ take_out c ys
take_out-skip c [] ys h = refl
take_out-skip c (x ∷ xs) ys h =
    ap (λ o. choose o (x ∷ take_out c (xs ++ ys)) (xs ++ ys) (x ∷ (xs ++ ys))) h.0
    ∙ ap (λ zs. x ∷ zs) (take_out-skip c xs ys h.1)

pub seek-skip : (c : ℕ → Ordering) (xs ys : List (ℕ × ℕ)) → AllBelow c xs → seek c (xs ++ ys) ≡ seek c ys
seek-skip c [] ys h = refl
seek-skip c (x ∷ xs) ys h = ap (λ o. choose o (seek c (xs ++ ys)) (x ∷ (xs ++ ys)) (x ∷ (xs ++ ys))) h.0 ∙ seek-skip c xs ys h.1

-- a list that is all below
pub lookup-below : (c : ℕ → Ordering) (xs : List (ℕ × ℕ)) → AllBelow c xs → lookup c xs ≡ None
lookup-below c [] h = refl
lookup-below c (x ∷ xs) h = ap (λ o. choose o (lookup c xs) (Some x.1) None) h.0 ∙ lookup-below c xs h.1

pub lookup_pair-below : (c : ℕ → Ordering) (xs : List (ℕ × ℕ)) → AllBelow c xs → lookup_pair c xs ≡ None
lookup_pair-below c [] h = refl
lookup_pair-below c (x ∷ xs) h = ap (λ o. choose o (lookup_pair c xs) (Some x) None) h.0 ∙ lookup_pair-below c xs h.1

pub put-below : (c : ℕ → Ordering) (pair : ℕ × ℕ) (xs : List (ℕ × ℕ)) → AllBelow c xs → put c pair xs ≡ xs ++ (pair ∷ [])
put-below c pair [] h = refl
put-below c pair (x ∷ xs) h =
    ap (λ o. choose o (x ∷ put c pair xs) (pair ∷ xs) (pair ∷ x ∷ xs)) h.0 ∙ ap (λ zs. x ∷ zs) (put-below c pair xs h.1)

pub take_out-below : (c : ℕ → Ordering) (xs : List (ℕ × ℕ)) → AllBelow c xs → take_out c xs ≡ xs
take_out-below c [] h = refl
take_out-below c (x ∷ xs) h = ap (λ o. choose o (x ∷ take_out c xs) xs (x ∷ xs)) h.0 ∙ ap (λ zs. x ∷ zs) (take_out-below c xs h.1)

pub seek-below : (c : ℕ → Ordering) (xs : List (ℕ × ℕ)) → AllBelow c xs → seek c xs ≡ []
seek-below c [] h = refl
seek-below c (x ∷ xs) h = ap (λ o. choose o (seek c xs) (x ∷ xs) (x ∷ xs)) h.0 ∙ seek-below c xs h.1

-- the last key is not below: the operation is done in front
pub lookup-stop : (c : ℕ → Ordering) (xs ys : List (ℕ × ℕ)) → 0 < length xs → c (last_key xs) ≢ Less → lookup c (xs ++ ys) ≡ lookup c xs
lookup-stop c [] ys some h = absurd (omega arith)
lookup-stop c (x ∷ []) ys some h =
    elim (c x.0) as (λ o. o ≢ Less → choose o (lookup c ys) (Some x.1) None ≡ choose o None (Some x.1) None) [
      | Less ↦ λ n. absurd (n refl)
      | Equal ↦ λ n. refl
      | Greater ↦ λ n. refl
    ] h
lookup-stop c (x ∷ y ∷ xs) ys some h =
    let rest = lookup-stop c (y ∷ xs) ys (omega arith) h in
    ap (λ o. choose (c x.0) o (Some x.1) None) rest

pub lookup_pair-stop : (c : ℕ → Ordering) (xs ys : List (ℕ × ℕ)) → 0 < length xs → c (last_key xs) ≢ Less → lookup_pair c (xs ++ ys) ≡ lookup_pair c xs
lookup_pair-stop c [] ys some h = absurd (omega arith)
lookup_pair-stop c (x ∷ []) ys some h =
    elim (c x.0) as (λ o. o ≢ Less → choose o (lookup_pair c ys) (Some x) None ≡ choose o None (Some x) None) [
      | Less ↦ λ n. absurd (n refl)
      | Equal ↦ λ n. refl
      | Greater ↦ λ n. refl
    ] h
lookup_pair-stop c (x ∷ y ∷ xs) ys some h =
    let rest = lookup_pair-stop c (y ∷ xs) ys (omega arith) h in
    ap (λ o. choose (c x.0) o (Some x) None) rest

pub put-stop : (c : ℕ → Ordering) (pair : ℕ × ℕ) (xs ys : List (ℕ × ℕ)) → 0 < length xs → c (last_key xs) ≢ Less → put c pair (xs ++ ys) ≡ put c pair xs ++ ys
put-stop c pair [] ys some h = absurd (omega arith)
put-stop c pair (x ∷ []) ys some h =
    elim (c x.0) as (λ o. o ≢ Less → choose o (x ∷ put c pair ys) (pair ∷ ys) (pair ∷ x ∷ ys) ≡ choose o (x ∷ pair ∷ []) (pair ∷ []) (pair ∷ x ∷ []) ++ ys) [
      | Less ↦ λ n. absurd (n refl)
      | Equal ↦ λ n. refl
      | Greater ↦ λ n. refl
    ] h
put-stop c pair (x ∷ y ∷ xs) ys some h =
    let rest = put-stop c pair (y ∷ xs) ys (omega arith) h in
    let tail = y ∷ (xs ++ ys) in
    ap (λ zs. choose (c x.0) (x ∷ zs) (pair ∷ tail) (pair ∷ x ∷ tail)) rest
    ∙ elim (c x.0) as (λ o. choose o (x ∷ (put c pair (y ∷ xs) ++ ys)) (pair ∷ tail) (pair ∷ x ∷ tail) ≡ choose o (x ∷ put c pair (y ∷ xs)) (pair ∷ y ∷ xs) (pair ∷ x ∷ y ∷ xs) ++ ys) [
      | Less ↦ refl
      | Equal ↦ refl
      | Greater ↦ refl
    ]

pub take_out-stop : (c : ℕ → Ordering) (xs ys : List (ℕ × ℕ)) → 0 < length xs → c (last_key xs) ≢ Less → take_out c (xs ++ ys) ≡ take_out c xs ++ ys
take_out-stop c [] ys some h = absurd (omega arith)
take_out-stop c (x ∷ []) ys some h =
    elim (c x.0) as (λ o. o ≢ Less → choose o (x ∷ take_out c ys) ys (x ∷ ys) ≡ choose o (x ∷ []) [] (x ∷ []) ++ ys) [
      | Less ↦ λ n. absurd (n refl)
      | Equal ↦ λ n. refl
      | Greater ↦ λ n. refl
    ] h
take_out-stop c (x ∷ y ∷ xs) ys some h =
    let rest = take_out-stop c (y ∷ xs) ys (omega arith) h in
    let tail = y ∷ (xs ++ ys) in
    ap (λ zs. choose (c x.0) (x ∷ zs) tail (x ∷ tail)) rest
    ∙ elim (c x.0) as (λ o. choose o (x ∷ (take_out c (y ∷ xs) ++ ys)) tail (x ∷ tail) ≡ choose o (x ∷ take_out c (y ∷ xs)) (y ∷ xs) (x ∷ y ∷ xs) ++ ys) [
      | Less ↦ refl
      | Equal ↦ refl
      | Greater ↦ refl
    ]

pub seek-stop : (c : ℕ → Ordering) (xs ys : List (ℕ × ℕ)) → 0 < length xs → c (last_key xs) ≢ Less → seek c (xs ++ ys) ≡ seek c xs ++ ys
seek-stop c [] ys some h = absurd (omega arith)
seek-stop c (x ∷ []) ys some h =
    elim (c x.0) as (λ o. o ≢ Less → choose o (seek c ys) (x ∷ ys) (x ∷ ys) ≡ choose o [] (x ∷ []) (x ∷ []) ++ ys) [
      | Less ↦ λ n. absurd (n refl)
      | Equal ↦ λ n. refl
      | Greater ↦ λ n. refl
    ] h
seek-stop c (x ∷ y ∷ xs) ys some h =
    let rest = seek-stop c (y ∷ xs) ys (omega arith) h in
    let tail = y ∷ (xs ++ ys) in
    ap (λ zs. choose (c x.0) zs (x ∷ tail) (x ∷ tail)) rest
    ∙ elim (c x.0) as (λ o. choose o (seek c (y ∷ xs) ++ ys) (x ∷ tail) (x ∷ tail) ≡ choose o (seek c (y ∷ xs)) (x ∷ y ∷ xs) (x ∷ y ∷ xs) ++ ys) [
      | Less ↦ refl
      | Equal ↦ refl
      | Greater ↦ refl
    ]

-- what holds of a list and of a pair holds of the list with it put in
pub All-put : (P : ℕ × ℕ → Type 0) (c : ℕ → Ordering) (pair : ℕ × ℕ) (ps : List (ℕ × ℕ)) → P pair → AllByRecursion P ps → AllByRecursion P (put c pair ps)
All-put P c pair [] new all = (new, tt)
All-put P c pair (p ∷ ps) new all =
    elim (c p.0) as (λ o. AllByRecursion P (choose o (p ∷ put c pair ps) (pair ∷ ps) (pair ∷ p ∷ ps))) [
      | Less ↦ (all.0, All-put P c pair ps new all.1)
      | Equal ↦ (new, all.1)
      | Greater ↦ (new, all)
    ]

pub All-take_out : (P : ℕ × ℕ → Type 0) (c : ℕ → Ordering) (ps : List (ℕ × ℕ)) → AllByRecursion P ps → AllByRecursion P (take_out c ps)
All-take_out P c [] all = tt
All-take_out P c (p ∷ ps) all =
    elim (c p.0) as (λ o. AllByRecursion P (choose o (p ∷ take_out c ps) ps (p ∷ ps))) [
      | Less ↦ (all.0, All-take_out P c ps all.1)
      | Equal ↦ all.1
      | Greater ↦ all
    ]

-- lengths
pub length-put_most : (c : ℕ → Ordering) (pair : ℕ × ℕ) (ps : List (ℕ × ℕ)) → length (put c pair ps) ≤ suc (length ps)
length-put_most c pair [] = omega arith
length-put_most c pair (p ∷ ps) =
    let rest = length-put_most c pair ps in
    elim (c p.0) as (λ o. length (choose o (p ∷ put c pair ps) (pair ∷ ps) (pair ∷ p ∷ ps)) ≤ suc (suc (length ps))) [
      | Less ↦ omega arith
      | Equal ↦ omega arith
      | Greater ↦ omega arith
    ]

pub length-put_least : (c : ℕ → Ordering) (pair : ℕ × ℕ) (ps : List (ℕ × ℕ)) → length ps ≤ length (put c pair ps)
length-put_least c pair [] = omega arith
length-put_least c pair (p ∷ ps) =
    let rest = length-put_least c pair ps in
    elim (c p.0) as (λ o. suc (length ps) ≤ length (choose o (p ∷ put c pair ps) (pair ∷ ps) (pair ∷ p ∷ ps))) [
      | Less ↦ omega arith
      | Equal ↦ omega arith
      | Greater ↦ omega arith
    ]

pub put-some : (c : ℕ → Ordering) (pair : ℕ × ℕ) (ps : List (ℕ × ℕ)) → 0 < length (put c pair ps)
put-some c pair [] = omega arith
put-some c pair (p ∷ ps) = let least = length-put_least c pair (p ∷ ps) in omega arith

pub length-take_out : (c : ℕ → Ordering) (ps : List (ℕ × ℕ)) → IsSome (lookup c ps) → suc (length (take_out c ps)) ≡ length ps
length-take_out c [] there = absurd (nothing there)
  where
    nothing : IsSome (lookup c []) → ⊥
    nothing h = grind (arith, h)
length-take_out c (p ∷ ps) there =
    elim (c p.0) as (λ o. IsSome (choose o (lookup c ps) (Some p.1) None) → suc (length (choose o (p ∷ take_out c ps) ps (p ∷ ps))) ≡ suc (length ps)) [
      | Less ↦ λ h. ap suc (length-take_out c ps h)
      | Equal ↦ λ h. refl
      | Greater ↦ λ h. absurd (grind (arith, h))
    ] there

-- a key that is not there is not taken out
pub take_out-none : (c : ℕ → Ordering) (ps : List (ℕ × ℕ)) → lookup c ps ≡ None → take_out c ps ≡ ps
take_out-none c [] h = refl
take_out-none c (p ∷ ps) h =
    elim (c p.0) as (λ o. choose o (lookup c ps) (Some p.1) None ≡ None → choose o (p ∷ take_out c ps) ps (p ∷ ps) ≡ p ∷ ps) [
      | Less ↦ λ h. ap (λ zs. p ∷ zs) (take_out-none c ps h)
      | Equal ↦ λ h. absurd (grind (arith, h))
      | Greater ↦ λ h. refl
    ] h

-- what was put is found
pub lookup-put : (c : ℕ → Ordering) (pair : ℕ × ℕ) (ps : List (ℕ × ℕ)) → c pair.0 ≡ Equal → lookup c (put c pair ps) ≡ Some pair.1
lookup-put c pair [] e = ap (λ o. choose o None (Some pair.1) None) e
lookup-put c pair (p ∷ ps) e =
    (elim (c p.0) as (λ o. c p.0 ≡ o → lookup c (choose o (p ∷ put c pair ps) (pair ∷ ps) (pair ∷ p ∷ ps)) ≡ Some pair.1) [
      | Less ↦ λ h. ap (λ o. choose o (lookup c (put c pair ps)) (Some p.1) None) h ∙ lookup-put c pair ps e
      | Equal ↦ λ h. ap (λ o. choose o (lookup c ps) (Some pair.1) None) e
      | Greater ↦ λ h. ap (λ o. choose o (lookup c (p ∷ ps)) (Some pair.1) None) e
    ]) refl

-- the value at a key is that of the pair at it
pub lookup-of_pair : (c : ℕ → Ordering) (ps : List (ℕ × ℕ)) → lookup c ps ≡ option_map (λ p. p.1) (lookup_pair c ps)
lookup-of_pair c [] = refl
lookup-of_pair c (p ∷ ps) =
    elim (c p.0) as (λ o. choose o (lookup c ps) (Some p.1) None ≡ option_map (λ (q : ℕ × ℕ). q.1) (choose o (lookup_pair c ps) (Some p) None)) [
      | Less ↦ lookup-of_pair c ps
      | Equal ↦ refl
      | Greater ↦ refl
    ]
