-- What is copied from a place on.
use Rattle.std.proofs.Common.{◌≡◌, ℕ, zero, suc, ◌+◌, ◌-◌, ◌<◌, List, [], ◌∷◌, ◌++◌, length, map, min, take, drop, get_or, slice_set, sym, ◌∙◌, ap, arith}
use Rattle.std.proofs.lemmas.List.{drop-drop, drop-map, drop-set, get_or-map, length-map, take_more, take_more_set, take_rest}
use Rattle.attr_c.specs.Copies.{Copies}

module _ {X : Type 0} where
  pub drop_min : (n : ℕ) (xs : List X) → drop (min n (length xs)) xs ≡ drop n xs
  drop_min zero xs = let none : min 0 (length xs) ≡ 0 = omega arith in ap (λ (k : ℕ). drop k xs) none
  drop_min (suc n) [] = let none : min (suc n) 0 ≡ 0 = omega arith in let empty : List X = [] in ap (λ (k : ℕ). drop k empty) none
  drop_min (suc n) (x ∷ xs) = let one : min (suc n) (suc (length xs)) ≡ suc (min n (length xs)) = omega arith in ap (λ (k : ℕ). drop k (x ∷ xs)) one ∙ drop_min n xs

  -- the front of a list that is another one from a place on
  pub copies_at : (list part : List X) (first : ℕ) (old new : List X) (count : ℕ) → part ≡ drop first list → Copies part 0 old new count → Copies list first old new count
  copies_at list part first old new count same is =
      record { count_is = is.count_is ∙ ap (λ (xs : List X). min (length old) (length xs)) same; front = is.front ∙ ap (λ (xs : List X). take count xs) same; rest = is.rest }

pub drop_mapped : {X Y : Type 0} (f : X → Y) (n : ℕ) (xs : List X) → map f (drop (min n (length xs)) xs) ≡ drop n (map f xs)
drop_mapped f n xs = ap (map f) (drop_min n xs) ∙ sym (drop-map f n xs)

-- one more item of a mapped list is written
pub mapped_more : {X Y : Type 0} (f : X → Y) (list : List X) (into : List Y) (i : ℕ) (x : X) → i < length list → i < length into → x ≡ get_or list i x → take i into ≡ take i (map f list)
    → take (i + 1) (slice_set into i (f x)) ≡ take (i + 1) (map f list)
mapped_more {X} {Y} f list into i x in_list in_into is same =
    let long = length-map list f in
    take_more_set into i (f x) in_into
    ∙ ap (λ (ys : List Y). ys ++ f x ∷ []) same
    ∙ ap (λ (y : Y). take i (map f list) ++ y ∷ []) (ap f is ∙ sym (get_or-map f list i x (f x) in_list))
    ∙ sym (take_more (map f list) i (f x) (omega (arith, long, in_list)))

-- what is behind it stays
pub rest_kept : {Y : Type 0} (into old : List Y) (i : ℕ) (y : Y) → i < length into → drop i into ≡ drop i old → drop (i + 1) (slice_set into i y) ≡ drop (i + 1) old
rest_kept {Y} into old i y within same =
    let one = λ (ys : List Y). drop 1 ys in
    sym (drop-drop 1 i (slice_set into i y)) ∙ ap one (drop-set into i y within) ∙ sym (drop-drop 1 i into) ∙ ap one same ∙ drop-drop 1 i old

-- a mapped list from a place on
pub mapped_part : {X Y : Type 0} (f : X → Y) (list slice : List X) (first m : ℕ) → slice ≡ list → m ≡ min first (length slice) → map f (take (length slice - m) (drop m slice)) ≡ drop first (map f list)
mapped_part {X} f list slice first m same least =
    ap (map f) (take_rest slice m) ∙ ap (λ (k : ℕ). map f (drop k slice)) least ∙ drop_mapped f first slice ∙ ap (λ (xs : List X). drop first (map f xs)) same
