-- Items of a short list: a document put in, and one taken out.
use Rattle.std.proofs.Common.{◌≡◌, ◌≢◌, ℕ, zero, suc, ◌+◌, ◌<◌, ◌≤◌, ◌/◌, ◌^◌, Bool, false, cond, ℤ, List, [], ◌∷◌, ◌++◌, map, length, take, drop, insert, remove, get_or, refl, sym, ap, subst, ◌∙◌, arith, IsTrue}
use Rattle.std.proofs.Common.{true≢false, length-append}
use Rattle.std.specs.BTreeMap.{insert_entry, is_at}
use Rattle.std.specs.Cmp.{ranks}
use Rattle.std.specs.declared.cmp.Ordering.{Ordering}
use Rattle.std.specs.declared.cmp.Ordering.TheVariants.{Less, Equal, Greater}
use Rattle.std.specs.List.{AllByRecursion}
use Rattle.std.specs.Map.{remove_entry}
use Rattle.std.specs.Ordering.{nat_cmp, match_ordering, is_eq, MatchOrdering}
use Rattle.image_format.specs.Words.{unpacked}
use Rattle.posting_store.specs.Walks.{first_doc, first_weight}

-- numbers as an order sees them
pub cmp_below : (x y : ℕ) → x < y → nat_cmp x y ≡ Less
cmp_below x y h = told (nat_cmp x y) refl (ranks x y)
  where
    told : (o : Ordering) → nat_cmp x y ≡ o → MatchOrdering o (x < y) (x ≡ y) (y < x) → nat_cmp x y ≡ Less
    told Less is rank = is
    told Equal is rank = absurd (omega arith)
    told Greater is rank = absurd (omega arith)

pub cmp_above : (x y : ℕ) → y < x → nat_cmp x y ≡ Greater
cmp_above x y h = told (nat_cmp x y) refl (ranks x y)
  where
    told : (o : Ordering) → nat_cmp x y ≡ o → MatchOrdering o (x < y) (x ≡ y) (y < x) → nat_cmp x y ≡ Greater
    told Less is rank = absurd (omega arith)
    told Equal is rank = absurd (omega arith)
    told Greater is rank = is

pub cmp_same : (x y : ℕ) → y ≡ x → nat_cmp x y ≡ Equal
cmp_same x y h = told (nat_cmp x y) refl (ranks x y)
  where
    told : (o : Ordering) → nat_cmp x y ≡ o → MatchOrdering o (x < y) (x ≡ y) (y < x) → nat_cmp x y ≡ Equal
    told Less is rank = absurd (omega arith)
    told Equal is rank = is
    told Greater is rank = absurd (omega arith)

pub cmp_apart : (x y : ℕ) → y ≢ x → is_eq (nat_cmp x y) ≡ false
cmp_apart x y apart = told (nat_cmp x y) refl (ranks x y)
  where
    told : (o : Ordering) → nat_cmp x y ≡ o → MatchOrdering o (x < y) (x ≡ y) (y < x) → is_eq (nat_cmp x y) ≡ false
    told Less is rank = ap is_eq is
    told Equal is rank = absurd (apart (sym rank))
    told Greater is rank = ap is_eq is

abbrev pub DocBelow : ℕ → ℕ → Type 0
DocBelow doc item = item / 2 ^ 32 < doc

abbrev pub DocApart : ℕ → ℕ → Type 0
DocApart doc item = item / 2 ^ 32 ≢ doc

-- one item more is looked at
pub all_take : (P : ℕ → Type 0) (xs : List ℕ) (i : ℕ) → i < length xs → AllByRecursion P (take i xs) → P (get_or xs i 0) → AllByRecursion P (take (i + 1) xs)
all_take P xs i low all here = subst (λ n. AllByRecursion P (take n xs)) (let e : suc i ≡ i + 1 = omega arith in e) (more xs i low all here)
  where
    more : (xs : List ℕ) (i : ℕ) → i < length xs → AllByRecursion P (take i xs) → P (get_or xs i 0) → AllByRecursion P (take (suc i) xs)
    more [] i low all here = absurd (omega arith)
    more (x ∷ xs) zero low all here = (here, tt)
    more (x ∷ xs) (suc i) low all here = (all.0, more xs i (omega arith) all.1 here)

-- what is below is passed over
module _ (doc : ℕ) (weight : ℤ) (item : ℕ) (is : unpacked item ≡ (doc, weight)) where
  pub put_same : (xs : List ℕ) (i : ℕ) → i < length xs → AllByRecursion (DocBelow doc) (take i xs) → get_or xs i 0 / 2 ^ 32 ≡ doc
      → map unpacked (insert (remove xs i) i item) ≡ insert_entry nat_cmp (map unpacked xs) doc weight
  put_same [] i low all here = absurd (omega arith)
  put_same (x ∷ xs) zero low all here =
      ap (λ e. e ∷ map unpacked xs) (is ∙ ap (λ d. (d, weight)) (sym here))
      ∙ ap (λ o. match_ordering o ((doc, weight) ∷ unpacked x ∷ map unpacked xs) ((x / 2 ^ 32, weight) ∷ map unpacked xs) (unpacked x ∷ insert_entry nat_cmp (map unpacked xs) doc weight))
      (sym (cmp_same doc (x / 2 ^ 32) here))
  put_same (x ∷ xs) (suc i) low all here =
      ap (λ es. unpacked x ∷ es) (put_same xs i (omega arith) all.1 here)
      ∙ ap (λ o. match_ordering o ((doc, weight) ∷ unpacked x ∷ map unpacked xs) ((x / 2 ^ 32, weight) ∷ map unpacked xs) (unpacked x ∷ insert_entry nat_cmp (map unpacked xs) doc weight))
      (sym (cmp_above doc (x / 2 ^ 32) all.0))

  pub put_before : (xs : List ℕ) (i : ℕ) → i < length xs → AllByRecursion (DocBelow doc) (take i xs) → doc < get_or xs i 0 / 2 ^ 32
      → map unpacked (take i xs ++ (item ∷ drop i xs)) ≡ insert_entry nat_cmp (map unpacked xs) doc weight
  put_before [] i low all here = absurd (omega arith)
  put_before (x ∷ xs) zero low all here =
      ap (λ e. e ∷ map unpacked (x ∷ xs)) is
      ∙ ap (λ o. match_ordering o ((doc, weight) ∷ unpacked x ∷ map unpacked xs) ((x / 2 ^ 32, weight) ∷ map unpacked xs) (unpacked x ∷ insert_entry nat_cmp (map unpacked xs) doc weight))
      (sym (cmp_below doc (x / 2 ^ 32) here))
  put_before (x ∷ xs) (suc i) low all here =
      ap (λ es. unpacked x ∷ es) (put_before xs i (omega arith) all.1 here)
      ∙ ap (λ o. match_ordering o ((doc, weight) ∷ unpacked x ∷ map unpacked xs) ((x / 2 ^ 32, weight) ∷ map unpacked xs) (unpacked x ∷ insert_entry nat_cmp (map unpacked xs) doc weight))
      (sym (cmp_above doc (x / 2 ^ 32) all.0))

  pub put_last : (xs : List ℕ) → AllByRecursion (DocBelow doc) xs → map unpacked (xs ++ item ∷ []) ≡ insert_entry nat_cmp (map unpacked xs) doc weight
  put_last [] all = ap (λ e. e ∷ []) is
  put_last (x ∷ xs) all =
      ap (λ es. unpacked x ∷ es) (put_last xs all.1)
      ∙ ap (λ o. match_ordering o ((doc, weight) ∷ unpacked x ∷ map unpacked xs) ((x / 2 ^ 32, weight) ∷ map unpacked xs) (unpacked x ∷ insert_entry nat_cmp (map unpacked xs) doc weight))
      (sym (cmp_above doc (x / 2 ^ 32) all.0))

module _ (doc : ℕ) where
  pub take_here : (xs : List ℕ) (i : ℕ) → i < length xs → AllByRecursion (DocApart doc) (take i xs) → get_or xs i 0 / 2 ^ 32 ≡ doc
      → map unpacked (take i xs ++ drop (suc i) xs) ≡ remove_entry (is_at (nat_cmp doc)) (map unpacked xs)
  take_here [] i low all here = absurd (omega arith)
  take_here (x ∷ xs) zero low all here =
      ap (λ o. cond (is_eq o) (map unpacked xs) (unpacked x ∷ remove_entry (is_at (nat_cmp doc)) (map unpacked xs))) (sym (cmp_same doc (x / 2 ^ 32) here))
  take_here (x ∷ xs) (suc i) low all here =
      ap (λ es. unpacked x ∷ es) (take_here xs i (omega arith) all.1 here)
      ∙ ap (λ b. cond b (map unpacked xs) (unpacked x ∷ remove_entry (is_at (nat_cmp doc)) (map unpacked xs))) (sym (cmp_apart doc (x / 2 ^ 32) all.0))

  pub take_none : (xs : List ℕ) → AllByRecursion (DocApart doc) xs → map unpacked xs ≡ remove_entry (is_at (nat_cmp doc)) (map unpacked xs)
  take_none [] all = refl
  take_none (x ∷ xs) all =
      ap (λ es. unpacked x ∷ es) (take_none xs all.1)
      ∙ ap (λ b. cond b (map unpacked xs) (unpacked x ∷ remove_entry (is_at (nat_cmp doc)) (map unpacked xs))) (sym (cmp_apart doc (x / 2 ^ 32) all.0))

pub take_all : (P : ℕ → Type 0) (xs : List ℕ) (i : ℕ) → length xs ≤ i → AllByRecursion P (take i xs) → AllByRecursion P xs
take_all P [] i past all = tt
take_all P (x ∷ xs) zero past all = absurd (omega arith)
take_all P (x ∷ xs) (suc i) past all = (all.0, take_all P xs i (omega arith) all.1)

-- what is not at an end is the first and the rest
pub first_of : (es : List (ℕ × ℤ)) (b : Bool) → b ≡ false → (es ≡ [] → IsTrue b) → es ≡ (first_doc es, first_weight es) ∷ drop 1 es
first_of [] b is none = absurd (true≢false (sym (none refl) ∙ is))
first_of (e ∷ es) b is none = refl

pub fewer : (items next : List ℕ) (item : ℕ) (rest left : List (ℕ × ℤ)) (e : ℕ × ℤ) → next ≡ items ++ item ∷ [] → left ≡ drop 1 rest → rest ≡ e ∷ drop 1 rest
    → length items + length rest ≤ 9 → length next + length left ≤ 9
fewer items next item rest left e is behind first few =
    let longer = ap length is in
    let one = length-append items (item ∷ []) in
    let less = ap length behind in
    let whole = ap length first in
    omega arith

-- an item more of a walk
pub walked_more : (items next : List ℕ) (item : ℕ) (rest left whole : List (ℕ × ℤ)) → next ≡ items ++ item ∷ [] → left ≡ drop 1 rest → (e : ℕ × ℤ) → unpacked item ≡ e
    → rest ≡ e ∷ drop 1 rest → map unpacked items ++ rest ≡ whole → map unpacked next ++ left ≡ whole
walked_more items next item rest left whole is behind e item_is first done =
    ap (λ xs. map unpacked xs ++ left) is ∙ ap (λ es. map unpacked (items ++ item ∷ []) ++ es) behind
    ∙ shift items (drop 1 rest) ∙ ap (λ e. map unpacked items ++ (e ∷ drop 1 rest)) item_is
    ∙ ap (λ es. map unpacked items ++ es) (sym first) ∙ done
  where
    shift : (xs : List ℕ) (es : List (ℕ × ℤ)) → map unpacked (xs ++ item ∷ []) ++ es ≡ map unpacked xs ++ (unpacked item ∷ es)
    shift [] es = refl
    shift (x ∷ xs) es = ap (λ rest. unpacked x ∷ rest) (shift xs es)
