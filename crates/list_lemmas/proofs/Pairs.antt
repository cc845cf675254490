-- Two lists of one length, side by side.
use Rattle.std.proofs.Common.{◌≡◌, List, [], ◌∷◌, ◌++◌, length, suc, refl, ap, arith}
use Rattle.std.specs.List.{zip, AllZip}

pub length-zip_even : {A B : Type 0} (xs : List A) (ys : List B) → length xs ≡ length ys → length (zip xs ys) ≡ length xs
length-zip_even [] ys even = refl
length-zip_even (x ∷ xs) [] even = absurd (omega arith)
length-zip_even (x ∷ xs) (y ∷ ys) even = ap suc (length-zip_even xs ys (omega arith))

pub zip-append : {A B : Type 0} (xs : List A) (ys : List B) (more : List A) (others : List B) → length xs ≡ length ys
    → zip (xs ++ more) (ys ++ others) ≡ zip xs ys ++ zip more others
zip-append [] [] more others even = refl
zip-append [] (y ∷ ys) more others even = absurd (omega arith)
zip-append (x ∷ xs) [] more others even = absurd (omega arith)
zip-append (x ∷ xs) (y ∷ ys) more others even = ap (λ ps. (x, y) ∷ ps) (zip-append xs ys more others (omega arith))

-- one more on both sides; the lemma of this name in std is for two lists of one type
pub AllZip-push : {A B : Type 0} (R : A → B → Type 0) (xs : List A) (ys : List B) (x : A) (y : B) → AllZip R xs ys → R x y
    → AllZip R (xs ++ x ∷ []) (ys ++ y ∷ [])
AllZip-push R [] [] x y all r = (r, tt)
AllZip-push R [] (b ∷ ys) x y all r = absurd all
AllZip-push R (a ∷ xs) [] x y all r = absurd all
AllZip-push R (a ∷ xs) (b ∷ ys) x y all r = (all.0, AllZip-push R xs ys x y all.1 r)
