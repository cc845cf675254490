-- Changes in order: one by one they give the merge, and the merge of two parts of a list is the merges of its parts.
use Rattle.std.proofs.Common.{◌≡◌, ◌≢◌, ℕ, zero, suc, ◌<◌, List, [], ◌∷◌, ◌++◌, length, refl, sym, ap, subst, ◌∙◌, arith, Option, None, Some, get_or, drop, map}
use Rattle.std.specs.declared.cmp.Ordering.{Ordering}
use Rattle.std.specs.declared.cmp.Ordering.TheVariants.{Less, Equal, Greater}
use Rattle.std.specs.List.{AllByRecursion}
use Rattle.tree_read.specs.Trees.{last_key}
use Rattle.tree_read.specs.Keys.{AllBelow}
use Rattle.tree_read.specs.Pairs.{choose, put, take_out}
use Rattle.tree_changes.specs.Merges.{Change, before, behind, pair_of, merged, changed, changed_to, changed_by, Follows, AreInOrder, HasOwnKey, IsOwn, MergesOneByOne, AllBelowFirst, MergesInParts}

again : {A : Type 0} (xs ys zs : List A) → (xs ++ ys) ++ zs ≡ xs ++ (ys ++ zs)
again [] ys zs = refl
again (x ∷ xs) ys zs = ap (λ l. x ∷ l) (again xs ys zs)

-- one change
put-parts : (c : ℕ → Ordering) (pair : ℕ × ℕ) (ps : List (ℕ × ℕ)) → put c pair ps ≡ before c ps ++ (pair ∷ behind c ps)
put-parts c pair [] = refl
put-parts c pair (p ∷ ps) =
    elim (c p.0) as (λ o. choose o (p ∷ put c pair ps) (pair ∷ ps) (pair ∷ p ∷ ps)
    ≡ choose o (p ∷ before c ps) [] [] ++ (pair ∷ choose o (behind c ps) ps (p ∷ ps))) [
      | Less ↦ ap (λ zs. p ∷ zs) (put-parts c pair ps)
      | Equal ↦ refl
      | Greater ↦ refl
    ]

take_out-parts : (c : ℕ → Ordering) (ps : List (ℕ × ℕ)) → take_out c ps ≡ before c ps ++ behind c ps
take_out-parts c [] = refl
take_out-parts c (p ∷ ps) =
    elim (c p.0) as (λ o. choose o (p ∷ take_out c ps) ps (p ∷ ps) ≡ choose o (p ∷ before c ps) [] [] ++ choose o (behind c ps) ps (p ∷ ps)) [
      | Less ↦ ap (λ zs. p ∷ zs) (take_out-parts c ps)
      | Equal ↦ refl
      | Greater ↦ refl
    ]

to-parts : (c : ℕ → Ordering) (pair : Option (ℕ × ℕ)) (ps : List (ℕ × ℕ)) → changed_to c pair ps ≡ before c ps ++ (pair_of pair ++ behind c ps)
to-parts c None ps = take_out-parts c ps
to-parts c (Some pair) ps = put-parts c pair ps

pub changed-parts : (change : Change) (ps : List (ℕ × ℕ)) → changed change ps ≡ before change.compare ps ++ (pair_of change.pair ++ behind change.compare ps)
changed-parts change ps = to-parts change.compare change.pair ps

-- what is below a key
pub before-skip : (c : ℕ → Ordering) (xs ys : List (ℕ × ℕ)) → AllBelow c xs → before c (xs ++ ys) ≡ xs ++ before c ys
before-skip c [] ys h = refl
before-skip c (x ∷ xs) ys h = ap (λ o. choose o (x ∷ before c (xs ++ ys)) [] []) h.0 ∙ ap (λ zs. x ∷ zs) (before-skip c xs ys h.1)

pub behind-skip : (c : ℕ → Ordering) (xs ys : List (ℕ × ℕ)) → AllBelow c xs → behind c (xs ++ ys) ≡ behind c ys
behind-skip c [] ys h = refl
behind-skip c (x ∷ xs) ys h = ap (λ o. choose o (behind c (xs ++ ys)) (xs ++ ys) (x ∷ (xs ++ ys))) h.0 ∙ behind-skip c xs ys h.1

pub before-below : (c : ℕ → Ordering) (ps : List (ℕ × ℕ)) → AllBelow c (before c ps)
before-below c [] = tt
before-below c (p ∷ ps) =
    (elim (c p.0) as (λ o. c p.0 ≡ o → AllBelow c (choose o (p ∷ before c ps) [] [])) [
      | Less ↦ λ h. (h, before-below c ps)
      | Equal ↦ λ h. tt
      | Greater ↦ λ h. tt
    ]) refl

-- the last key is not below
pub before-stop : (c : ℕ → Ordering) (xs ys : List (ℕ × ℕ)) → 0 < length xs → c (last_key xs) ≢ Less → before c (xs ++ ys) ≡ before c xs
before-stop c [] ys some h = absurd (omega arith)
before-stop c (x ∷ []) ys some h =
    elim (c x.0) as (λ o. o ≢ Less → choose o (x ∷ before c ys) [] [] ≡ choose o (x ∷ []) [] []) [
      | Less ↦ λ n. absurd (n refl)
      | Equal ↦ λ n. refl
      | Greater ↦ λ n. refl
    ] h
before-stop c (x ∷ y ∷ xs) ys some h =
    let rest = before-stop c (y ∷ xs) ys (omega arith) h in
    ap (λ zs. choose (c x.0) (x ∷ zs) [] []) rest

pub behind-stop : (c : ℕ → Ordering) (xs ys : List (ℕ × ℕ)) → 0 < length xs → c (last_key xs) ≢ Less → behind c (xs ++ ys) ≡ behind c xs ++ ys
behind-stop c [] ys some h = absurd (omega arith)
behind-stop c (x ∷ []) ys some h =
    elim (c x.0) as (λ o. o ≢ Less → choose o (behind c ys) ys (x ∷ ys) ≡ choose o [] [] (x ∷ []) ++ ys) [
      | Less ↦ λ n. absurd (n refl)
      | Equal ↦ λ n. refl
      | Greater ↦ λ n. refl
    ] h
behind-stop c (x ∷ y ∷ xs) ys some h =
    let rest = behind-stop c (y ∷ xs) ys (omega arith) h in
    let tail = y ∷ (xs ++ ys) in
    ap (λ zs. choose (c x.0) zs tail (x ∷ tail)) rest
    ∙ elim (c x.0) as (λ o. choose o (behind c (y ∷ xs) ++ ys) tail (x ∷ tail) ≡ choose o (behind c (y ∷ xs)) (y ∷ xs) (x ∷ y ∷ xs) ++ ys) [
      | Less ↦ refl
      | Equal ↦ refl
      | Greater ↦ refl
    ]

-- behind a key whose change is followed by others: either the last key is the same, or it was the key of the change
abbrev EndsAlike : (ℕ → Ordering) → List (ℕ × ℕ) → List (ℕ × ℕ) → Type 0
EndsAlike c xs [] = c (last_key xs) ≡ Equal
EndsAlike c xs (r ∷ rest) = last_key (r ∷ rest) ≡ last_key xs

behind-last : (c : ℕ → Ordering) (xs : List (ℕ × ℕ)) → 0 < length xs → c (last_key xs) ≢ Less → EndsAlike c xs (behind c xs)
behind-last c [] some h = absurd (omega arith)
behind-last c (x ∷ []) some h =
    (elim (c x.0) as (λ o. c x.0 ≡ o → o ≢ Less → EndsAlike c (x ∷ []) (choose o [] [] (x ∷ []))) [
      | Less ↦ λ e n. absurd (n refl)
      | Equal ↦ λ e n. e
      | Greater ↦ λ e n. refl
    ]) refl h
behind-last c (x ∷ y ∷ xs) some h =
    let rest = behind-last c (y ∷ xs) (omega arith) h in
    elim (c x.0) as (λ o. EndsAlike c (x ∷ y ∷ xs) (choose o (behind c (y ∷ xs)) (y ∷ xs) (x ∷ y ∷ xs))) [
      | Less ↦ longer (behind c (y ∷ xs)) rest
      | Equal ↦ refl
      | Greater ↦ refl
    ]
  where
    longer : (zs : List (ℕ × ℕ)) → EndsAlike c (y ∷ xs) zs → EndsAlike c (x ∷ y ∷ xs) zs
    longer [] e = e
    longer (z ∷ zs) e = e

-- no later change comes before what is below an earlier one
order-rest : (a : Change) (changes : List Change) → AreInOrder (a ∷ changes) → AreInOrder changes
order-rest a [] order = tt
order-rest a (b ∷ changes) order = order.1

less-is : (o : Ordering) → o ≡ Less → o ≢ Greater
less-is o e g = absurd (apart (sym e ∙ g))
  where
    apart : Less ≡ Greater → ⊥
    apart h = grind (arith, h)

equal-is : (o : Ordering) → o ≡ Equal → o ≢ Greater
equal-is o e g = absurd (apart (sym e ∙ g))
  where
    apart : Equal ≡ Greater → ⊥
    apart h = grind (arith, h)

less-no-equal : (o : Ordering) → o ≡ Less → o ≢ Equal
less-no-equal o e g = absurd (apart (sym e ∙ g))
  where
    apart : Less ≡ Equal → ⊥
    apart h = grind (arith, h)

below-next : (a b : Change) → Follows a b → (zs : List (ℕ × ℕ)) → AllBelow a.compare zs → AllBelow b.compare zs
below-next a b follows [] h = tt
below-next a b follows (z ∷ zs) h = (follows z.0 (less-is (a.compare z.0) h.0), below-next a b follows zs h.1)

-- pairs below the key of the first change stay in front of what the changes give
pub merged-skip : (changes : List Change) (xs ys : List (ℕ × ℕ)) → AllBelowFirst changes xs → merged changes (xs ++ ys) ≡ xs ++ merged changes ys
merged-skip [] xs ys h = refl
merged-skip (a ∷ changes) xs ys h =
    ap (λ zs. zs ++ (pair_of a.pair ++ merged changes (behind a.compare (xs ++ ys)))) (before-skip a.compare xs ys h)
    ∙ ap (λ zs. (xs ++ before a.compare ys) ++ (pair_of a.pair ++ merged changes zs)) (behind-skip a.compare xs ys h)
    ∙ again xs (before a.compare ys) (pair_of a.pair ++ merged changes (behind a.compare ys))

changed-skip : (a : Change) (xs ys : List (ℕ × ℕ)) → AllBelow a.compare xs → changed a (xs ++ ys) ≡ xs ++ changed a ys
changed-skip a xs ys h =
    changed-parts a (xs ++ ys)
    ∙ ap (λ zs. zs ++ (pair_of a.pair ++ behind a.compare (xs ++ ys))) (before-skip a.compare xs ys h)
    ∙ ap (λ zs. (xs ++ before a.compare ys) ++ (pair_of a.pair ++ zs)) (behind-skip a.compare xs ys h)
    ∙ again xs (before a.compare ys) (pair_of a.pair ++ behind a.compare ys)
    ∙ ap (λ zs. xs ++ zs) (sym (changed-parts a ys))

changed_by-skip : (changes : List Change) (xs ys : List (ℕ × ℕ)) → AreInOrder changes → AllBelowFirst changes xs
    → changed_by changes (xs ++ ys) ≡ xs ++ changed_by changes ys
changed_by-skip [] xs ys order h = refl
changed_by-skip (a ∷ []) xs ys order h = changed-skip a xs ys h
changed_by-skip (a ∷ b ∷ changes) xs ys order h =
    ap (λ zs. changed_by (b ∷ changes) zs) (changed-skip a xs ys h)
    ∙ changed_by-skip (b ∷ changes) xs (changed a ys) order.1 (below-next a b order.0 xs h)

-- the pair of a change is below the next
own-below : (a : Change) (changes : List Change) → AreInOrder (a ∷ changes) → HasOwnKey a → AllBelowFirst changes (pair_of a.pair)
own-below a [] order own = tt
own-below a (b ∷ changes) order own = one a.pair own
  where
    one : (pair : Option (ℕ × ℕ)) → IsOwn a.compare pair → AllBelow b.compare (pair_of pair)
    one None own = tt
    one (Some pair) own = (order.0 pair.0 (equal-is (a.compare pair.0) own), tt)

front-below : (a : Change) (changes : List Change) (ps : List (ℕ × ℕ)) → AreInOrder (a ∷ changes) → AllBelowFirst changes (before a.compare ps)
front-below a [] ps order = tt
front-below a (b ∷ changes) ps order = below-next a b order.0 (before a.compare ps) (before-below a.compare ps)

pub one-by-one : MergesOneByOne
one-by-one [] ps order own = refl
one-by-one (a ∷ changes) ps order own =
    let rest = order-rest a changes order in
    let last = behind a.compare ps in
    sym (
    ap (changed_by changes) (changed-parts a ps)
    ∙ changed_by-skip changes (before a.compare ps) (pair_of a.pair ++ last) rest (front-below a changes ps order)
    ∙ ap (λ zs. before a.compare ps ++ zs) (changed_by-skip changes (pair_of a.pair) last rest (own-below a changes order own.0))
    ∙ ap (λ zs. before a.compare ps ++ (pair_of a.pair ++ zs)) (sym (one-by-one changes last rest own.1))
    )

-- what holds of all pairs holds of those behind
pub behind-all : (P : ℕ × ℕ → Type 0) (c : ℕ → Ordering) (ps : List (ℕ × ℕ)) → AllByRecursion P ps → AllByRecursion P (behind c ps)
behind-all P c [] all = tt
behind-all P c (p ∷ ps) all =
    elim (c p.0) as (λ o. AllByRecursion P (choose o (behind c ps) ps (p ∷ ps))) [
      | Less ↦ behind-all P c ps all.1
      | Equal ↦ all.1
      | Greater ↦ all
    ]

first-behind : (rest : List Change) (c : ℕ → Ordering) (xs : List (ℕ × ℕ)) → AllBelowFirst rest xs → AllBelowFirst rest (behind c xs)
first-behind [] c xs h = tt
first-behind (b ∷ rest) c xs h = behind-all (λ p. b.compare p.0 ≡ Less) c xs h

append-none : {A : Type 0} (xs : List A) → xs ++ [] ≡ xs
append-none [] = refl
append-none (x ∷ xs) = ap (λ l. x ∷ l) (append-none xs)

-- after the first change of the first part
in-parts-left : (a : Change) (first rest : List Change) (xs ys zs : List (ℕ × ℕ))
    → ((zs : List (ℕ × ℕ)) → 0 < length zs → AllByRecursion (λ change. change.compare (last_key zs) ≢ Less) first → AllBelowFirst rest zs
    → merged (first ++ rest) (zs ++ ys) ≡ merged first zs ++ merged rest ys)
    → EndsAlike a.compare xs zs → AllBelowFirst rest zs → AreInOrder (a ∷ (first ++ rest))
    → AllByRecursion (λ change. change.compare (last_key xs) ≢ Less) first → merged (first ++ rest) (zs ++ ys) ≡ merged first zs ++ merged rest ys
in-parts-left a [] rest xs ys [] each ends below order not_below = refl
in-parts-left a (b ∷ first) rest xs ys [] each ends below order not_below =
    absurd (not_below.0 (order.0 (last_key xs) (equal-is (a.compare (last_key xs)) ends)))
in-parts-left a first rest xs ys (z ∷ zs) each ends below order not_below =
    each (z ∷ zs) (omega arith) (subst (λ k. AllByRecursion (λ change. change.compare k ≢ Less) first) (sym ends) not_below) below

pub in-parts : MergesInParts
in-parts [] rest xs ys order some not_below below = merged-skip rest xs ys below
in-parts (a ∷ first) rest xs ys order some not_below below =
    let left = in-parts-left a first rest xs ys (behind a.compare xs)
    (λ zs some not_below below. in-parts first rest zs ys (order-rest a (first ++ rest) order) some not_below below)
    (behind-last a.compare xs some not_below.0) (first-behind rest a.compare xs below) order not_below.1 in
    ap (λ zs. zs ++ (pair_of a.pair ++ merged (first ++ rest) (behind a.compare (xs ++ ys)))) (before-stop a.compare xs ys some not_below.0)
    ∙ ap (λ zs. before a.compare xs ++ (pair_of a.pair ++ merged (first ++ rest) zs)) (behind-stop a.compare xs ys some not_below.0)
    ∙ ap (λ zs. before a.compare xs ++ (pair_of a.pair ++ zs)) left
    ∙ sym (
    again (before a.compare xs) (pair_of a.pair ++ merged first (behind a.compare xs)) (merged rest ys)
    ∙ ap (λ zs. before a.compare xs ++ zs) (again (pair_of a.pair) (merged first (behind a.compare xs)) (merged rest ys))
    )

-- a step over a pair and the first change
pub step-pair : (a : Change) (changes : List Change) (p : ℕ × ℕ) (ps : List (ℕ × ℕ)) → a.compare p.0 ≡ Less
    → merged (a ∷ changes) (p ∷ ps) ≡ p ∷ merged (a ∷ changes) ps
step-pair a changes p ps h =
    ap (λ o. choose o (p ∷ before a.compare ps) [] [] ++ (pair_of a.pair ++ merged changes (choose o (behind a.compare ps) ps (p ∷ ps)))) h

pub step-both : (a : Change) (changes : List Change) (p : ℕ × ℕ) (ps : List (ℕ × ℕ)) → a.compare p.0 ≡ Equal
    → merged (a ∷ changes) (p ∷ ps) ≡ pair_of a.pair ++ merged changes ps
step-both a changes p ps h =
    ap (λ o. choose o (p ∷ before a.compare ps) [] [] ++ (pair_of a.pair ++ merged changes (choose o (behind a.compare ps) ps (p ∷ ps)))) h

pub step-change : (a : Change) (changes : List Change) (p : ℕ × ℕ) (ps : List (ℕ × ℕ)) → a.compare p.0 ≡ Greater
    → merged (a ∷ changes) (p ∷ ps) ≡ pair_of a.pair ++ merged changes (p ∷ ps)
step-change a changes p ps h =
    ap (λ o. choose o (p ∷ before a.compare ps) [] [] ++ (pair_of a.pair ++ merged changes (choose o (behind a.compare ps) ps (p ∷ ps)))) h

-- the change at a place, as a merge sees it
pub change-at : {C : Type 0} (f : C → Change) (changes : List C) (at : ℕ) (d : C) → at < length changes → drop at (map f changes) ≡ f (get_or changes at d) ∷ drop (suc at) (map f changes)
change-at f [] at d low = absurd (omega arith)
change-at f (c ∷ changes) zero d low = refl
change-at f (c ∷ changes) (suc at) d low = change-at f changes at d (omega arith)

-- one more change whose key is below a stored one
pub below-step : (changes rest : List Change) (a : Change) (p : ℕ × ℕ) (ps zs zs2 whole : List (ℕ × ℕ)) → changes ≡ a ∷ rest → a.compare p.0 ≡ Greater
    → zs2 ≡ zs ++ pair_of a.pair → zs ++ merged changes (p ∷ ps) ≡ whole → zs2 ++ merged rest (p ∷ ps) ≡ whole
below-step changes rest a p ps zs zs2 whole at_is greater zs_is done =
    ap (λ z. z ++ merged rest (p ∷ ps)) zs_is
    ∙ again zs (pair_of a.pair) (merged rest (p ∷ ps))
    ∙ ap (λ z. zs ++ z) (sym (step-change a rest p ps greater))
    ∙ ap (λ cs. zs ++ merged cs (p ∷ ps)) (sym at_is)
    ∙ done

pub none-no-some : {A P : Type 0} (x : A) → None ≡ Some x → P
none-no-some x h = absurd (grind (arith, h))
