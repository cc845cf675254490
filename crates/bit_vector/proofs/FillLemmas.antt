-- Blocks made of the keys of a tree.
use Rattle.std.proofs.Common.{◌≡◌, ◌≢◌, ℕ, ◌+◌, ◌*◌, ◌/◌, ◌%◌, ◌<◌, ◌≤◌, Bool, true, false, ◌||◌, List, [], ◌∷◌, map, length, drop, nat_eq, refl, sym, ap, subst, ◌∙◌, arith}
use Rattle.std.specs.Cmp.{ranks}
use Rattle.std.specs.declared.cmp.Ordering.{Ordering}
use Rattle.std.specs.declared.cmp.Ordering.TheVariants.{Less, Equal, Greater}
use Rattle.std.specs.List.{AllByRecursion}
use Rattle.std.specs.List.Sorted.{IsStrictlySortedBy}
use Rattle.std.specs.Ordering.{nat_cmp, MatchOrdering}
use Rattle.std.proofs.lemmas.Bool.{eqb-true, eqb-false, eq-eqb, ne_eqb}
use Rattle.tree_read.specs.Pairs.{choose, seek}
use Rattle.tree_read.specs.SearchPlaces.{first_key}
use Rattle.index_model.proofs.BitLemmas.{by_cases}
use Rattle.index_model.specs.Sets.{has, in_words}
use Rattle.bit_vector.specs.Blocks.{HasBit}
use Rattle.bit_vector.specs.Vectors.{is_block_of}
use Rattle.bit_vector.proofs.DocumentLemmas.{absent, or_false}
use Rattle.bit_vector.proofs.VectorLemmas.{less_is}

abbrev pub keys : List (ℕ × ℕ) → List ℕ
keys ps = map (λ p. p.0) ps

-- the keys from a number on
pub seek_has : (s x : ℕ) (ps : List (ℕ × ℕ)) → s ≤ x → has (keys (seek (λ k. nat_cmp k s) ps)) x ≡ has (keys ps) x
seek_has s x [] low = refl
seek_has s x (p ∷ ps) low =
    (elim (nat_cmp p.0 s) as (λ o. MatchOrdering o (p.0 < s) (p.0 ≡ s) (s < p.0) → has (keys (choose o (seek (λ k. nat_cmp k s) ps) (p ∷ ps) (p ∷ ps))) x ≡ has (keys (p ∷ ps)) x) [
      | Less ↦ λ less. seek_has s x ps low ∙ sym (ap (λ b. b || has (keys ps) x) (ne_eqb x p.0 (λ same. omega (arith, same, low, less))))
      | Equal ↦ λ same. refl
      | Greater ↦ λ more. refl
    ]) (ranks p.0 s)

least_all : (s k : ℕ) (xs : List ℕ) → s ≤ k → AllByRecursion (λ x. nat_cmp k x ≡ Less) xs → AllByRecursion (λ x. s ≤ x) xs
least_all s k [] low all = tt
least_all s k (x ∷ xs) low all = (let up = less_is k x all.0 in omega (arith, up, low), least_all s k xs low all.1)

pub seek_least : (s : ℕ) (ps : List (ℕ × ℕ)) → IsStrictlySortedBy nat_cmp (keys ps) → AllByRecursion (λ x. s ≤ x) (keys (seek (λ k. nat_cmp k s) ps))
unfolding IsStrictlySortedBy
seek_least s [] up = tt
seek_least s (p ∷ ps) up =
    (elim (nat_cmp p.0 s) as (λ o. MatchOrdering o (p.0 < s) (p.0 ≡ s) (s < p.0) → AllByRecursion (λ x. s ≤ x) (keys (choose o (seek (λ k. nat_cmp k s) ps) (p ∷ ps) (p ∷ ps)))) [
      | Less ↦ λ less. seek_least s ps up.1
      | Equal ↦ λ same. (omega (arith, same), least_all s p.0 (keys ps) (omega (arith, same)) up.0)
      | Greater ↦ λ more. (omega (arith, more), least_all s p.0 (keys ps) (omega (arith, more)) up.0)
    ]) (ranks p.0 s)

pub seek_sorted : (c : ℕ → Ordering) (ps : List (ℕ × ℕ)) → IsStrictlySortedBy nat_cmp (keys ps) → IsStrictlySortedBy nat_cmp (keys (seek c ps))
unfolding IsStrictlySortedBy
seek_sorted c [] up = tt
seek_sorted c (p ∷ ps) up =
    elim (c p.0) as (λ o. IsStrictlySortedBy nat_cmp (keys (choose o (seek c ps) (p ∷ ps) (p ∷ ps)))) [
      | Less ↦ seek_sorted c ps up.1
      | Equal ↦ up
      | Greater ↦ up
    ]

-- the words so far, and the keys to come
pub record IsFilling (k : ℕ) (words : List ℕ) (rest : List (ℕ × ℕ)) (all : List ℕ) : Type 0 where
  pub size : length words ≡ 64
  pub sorted : IsStrictlySortedBy nat_cmp (keys rest)
  pub least : AllByRecursion (λ x. 4096 * k ≤ x) (keys rest)
  pub whole : (i : ℕ) → i < 4096 → (in_words words i || has (keys rest) (4096 * k + i)) ≡ has all (4096 * k + i)

pub fills_first : (k s : ℕ) (words : List ℕ) (ps rest : List (ℕ × ℕ)) → s ≡ 4096 * k → length words ≡ 64 → ((i : ℕ) → in_words words i ≡ false) → IsStrictlySortedBy nat_cmp (keys ps)
    → rest ≡ seek (λ x. nat_cmp x s) ps → IsFilling k words rest (keys ps)
fills_first k s words ps rest start size none up is = record {
  size = size;
  sorted = subst (λ (qs : List (ℕ × ℕ)). IsStrictlySortedBy nat_cmp (keys qs)) (sym is) (seek_sorted (λ x. nat_cmp x s) ps up);
  least = subst (λ (qs : List (ℕ × ℕ)). AllByRecursion (λ x. 4096 * k ≤ x) (keys qs)) (sym is) (subst (λ n. AllByRecursion (λ x. n ≤ x) (keys (seek (λ x. nat_cmp x s) ps))) start (seek_least s ps up));
  whole = λ i low.
      ap (λ b. b || has (keys rest) (4096 * k + i)) (none i)
      ∙ ap (λ (qs : List (ℕ × ℕ)). has (keys qs) (4096 * k + i)) is
      ∙ seek_has s (4096 * k + i) ps (omega (arith, start));
}

same_place : (k x i : ℕ) → x / 4096 ≡ k → i < 4096 → nat_eq (4096 * k + i) x ≡ nat_eq i (x % 4096)
same_place k x i at low = by_cases (nat_eq i (x % 4096))
    (λ yes. let e = eqb-true i (x % 4096) yes in eq-eqb (4096 * k + i) x (omega (arith, e, at)) ∙ sym yes)
    (λ no. ne_eqb (4096 * k + i) x (λ same. eqb-false i (x % 4096) no (omega (arith, same, low))) ∙ sym no)

or_moved : (a b c : Bool) → ((a || b) || c) ≡ (a || (b || c))
or_moved true b c = refl
or_moved false b c = refl

-- one key more
pub fills_more : (k : ℕ) (words more : List ℕ) (rest next : List (ℕ × ℕ)) (all : List ℕ) (key : ℕ) → IsFilling k words rest all → (rest ≡ [] → ⊥) → key ≡ first_key rest
    → next ≡ drop 1 rest → key / 4096 ≡ k → length more ≡ length words → ((j : ℕ) → in_words more j ≡ (in_words words j || nat_eq j (key % 4096)))
    → IsFilling k more next all
unfolding IsStrictlySortedBy
fills_more k words more [] next all key is some first then at size bits = absurd (some refl)
fills_more k words more (p ∷ ps) next all key is some first then at size bits =
    let sorted = is.sorted in
    let least = is.least in
    record {
      size = size ∙ is.size;
      sorted = subst (λ (qs : List (ℕ × ℕ)). IsStrictlySortedBy nat_cmp (keys qs)) (sym then) sorted.1;
      least = subst (λ (qs : List (ℕ × ℕ)). AllByRecursion (λ x. 4096 * k ≤ x) (keys qs)) (sym then) least.1;
      whole = λ i low.
          ap (λ (qs : List (ℕ × ℕ)). in_words more i || has (keys qs) (4096 * k + i)) then
          ∙ ap (λ b. b || has (keys ps) (4096 * k + i)) (bits i)
          ∙ or_moved (in_words words i) (nat_eq i (key % 4096)) (has (keys ps) (4096 * k + i))
          ∙ ap (λ b. in_words words i || (b || has (keys ps) (4096 * k + i)))
          (sym (same_place k key i at low) ∙ ap (nat_eq (4096 * k + i)) first)
          ∙ is.whole i low;
    }

-- no key of the block is left
pub fills_end : (k : ℕ) (words : List ℕ) (rest : List (ℕ × ℕ)) (all : List ℕ) → IsFilling k words rest all → rest ≡ [] → (i : ℕ) → i < 4096 → in_words words i ≡ has all (4096 * k + i)
fills_end k words rest all is none i low =
    sym (or_false (in_words words i)) ∙ ap (λ (qs : List (ℕ × ℕ)). in_words words i || has (keys qs) (4096 * k + i)) (sym none) ∙ is.whole i low

pub fills_past : (k : ℕ) (words : List ℕ) (rest : List (ℕ × ℕ)) (all : List ℕ) (key : ℕ) → IsFilling k words rest all → (rest ≡ [] → ⊥) → key ≡ first_key rest → key / 4096 ≢ k
    → (i : ℕ) → i < 4096 → in_words words i ≡ has all (4096 * k + i)
unfolding IsStrictlySortedBy
fills_past k words [] all key is some first apart i low = absurd (some refl)
fills_past k words (p ∷ ps) all key is some first apart i low =
    let sorted = is.sorted in
    let least : 4096 * k ≤ p.0 = is.least.0 in
    let high : 4096 * k + i < p.0 = omega (arith, least, first, apart, low) in
    let none = absent (4096 * k + i) (keys (p ∷ ps)) (high, rises (keys ps) high sorted.0) in
    sym (or_false (in_words words i)) ∙ ap (λ b. in_words words i || b) (sym none) ∙ is.whole i low
  where
    rises : (xs : List ℕ) → 4096 * k + i < p.0 → AllByRecursion (λ x. nat_cmp p.0 x ≡ Less) xs → AllByRecursion (λ x. 4096 * k + i < x) xs
    rises [] high all = tt
    rises (x ∷ xs) high all = (let up = less_is p.0 x all.0 in omega (arith, up, high), rises xs high all.1)

-- whether a block has documents
pub block_of : (docs : List ℕ) (k d : ℕ) → has docs d ≡ true → d / 4096 ≡ k → is_block_of docs k ≡ true
block_of [] k d there at = absurd (grind (arith, there))
block_of (x ∷ docs) k d there at = by_cases (nat_eq d x)
    (λ yes. let same = eqb-true d x yes in ap (λ b. b || is_block_of docs k) (eq-eqb (x / 4096) k (ap (λ n. n / 4096) (sym same) ∙ at)))
    (λ no. ap (λ b. nat_eq (x / 4096) k || b) (block_of docs k d (sym (ap (λ b. b || has docs d) no) ∙ there) at) ∙ or_true (nat_eq (x / 4096) k))
  where
    or_true : (a : Bool) → (a || true) ≡ true
    or_true true = refl
    or_true false = refl

pub no_block_of : (docs : List ℕ) (k : ℕ) → ((i : ℕ) → i < 4096 → has docs (4096 * k + i) ≡ false) → is_block_of docs k ≡ false
no_block_of docs k none = by_cases (is_block_of docs k)
    (λ yes. some docs yes (λ d there at. let e : 4096 * k + d % 4096 ≡ d = omega (arith, at) in
    let lost : true ≡ false = sym there ∙ ap (has docs) (sym e) ∙ none (d % 4096) (omega arith) in absurd (grind (arith, lost))))
    (λ no. no)
  where
    some : {G : Type 0} (ds : List ℕ) → is_block_of ds k ≡ true → ((d : ℕ) → has ds d ≡ true → d / 4096 ≡ k → G) → G
    some [] is found = absurd (grind (arith, is))
    some (x ∷ ds) is found = by_cases (nat_eq (x / 4096) k)
        (λ yes. found x (ap (λ b. b || has ds x) (eq-eqb x x refl)) (eqb-true (x / 4096) k yes))
        (λ no. some ds (sym (ap (λ b. b || is_block_of ds k) no) ∙ is) (λ d there at. found d (ap (λ b. nat_eq d x || b) there ∙ or_yes (nat_eq d x)) at))
      where
        or_yes : (a : Bool) → (a || true) ≡ true
        or_yes true = refl
        or_yes false = refl

pub some_block_of : (docs : List ℕ) (k : ℕ) (words : List ℕ) → length words ≡ 64 → HasBit words → ((i : ℕ) → i < 4096 → in_words words i ≡ has docs (4096 * k + i)) → is_block_of docs k ≡ true
some_block_of docs k words size some bits =
    let within = some.within in
    let below : some.bit < 4096 = omega (arith, within, size) in
    block_of docs k (4096 * k + some.bit) (sym (bits some.bit below) ∙ some.set) (omega (arith, below))
