-- Documents that ascend, each with weight 1, and a document put in or taken out.
use Rattle.std.proofs.Common.{◌≡◌, ◌≢◌, ℕ, suc, pos, ℤ, ◌<◌, Bool, true, false, ◌||◌, ◌&&◌, not, cond, List, [], ◌∷◌, ◌++◌, map, length, nat_eq, refl, sym, ap, ap₂, subst, ◌∙◌, arith}
use Rattle.std.specs.BTreeMap.{insert_entry, is_at}
use Rattle.std.specs.Cmp.{ranks, nat_cmp_is}
use Rattle.std.specs.declared.cmp.Ordering.TheVariants.{Less, Equal, Greater}
use Rattle.std.specs.List.{AllByRecursion}
use Rattle.std.specs.List.Sorted.{IsStrictlySortedBy}
use Rattle.std.specs.Map.{keys_of, remove_entry}
use Rattle.std.specs.Ordering.{nat_cmp, match_ordering, is_eq, MatchOrdering}
use Rattle.std.proofs.lemmas.Bool.{eqb-true, eq-eqb, ne_eqb}
use Rattle.index_model.proofs.BitLemmas.{by_cases}
use Rattle.index_model.proofs.DocLemmas.{same_ascending}
use Rattle.index_model.specs.Sets.{has, IsAscending}

-- documents, each with weight 1
abbrev pub ones : List ℕ → List (ℕ × ℤ)
ones docs = map (λ doc. (doc, pos 1)) docs

pub ones-keys : (docs : List ℕ) → keys_of (ones docs) ≡ docs
ones-keys [] = refl
ones-keys (doc ∷ docs) = ap (λ ks. doc ∷ ks) (ones-keys docs)

pub ones-length : (docs : List ℕ) → length (ones docs) ≡ length docs
ones-length [] = refl
ones-length (doc ∷ docs) = ap suc (ones-length docs)

-- a document in its place
abbrev pub with_doc : ℕ → List ℕ → List ℕ
with_doc doc [] = doc ∷ []
with_doc doc (d ∷ ds) = match_ordering (nat_cmp doc d) (doc ∷ d ∷ ds) (d ∷ ds) (d ∷ with_doc doc ds)

abbrev pub without_doc : ℕ → List ℕ → List ℕ
without_doc doc [] = []
without_doc doc (d ∷ ds) = cond (is_eq (nat_cmp doc d)) ds (d ∷ without_doc doc ds)

ones-with : (doc : ℕ) (ds : List ℕ) → insert_entry nat_cmp (ones ds) doc (pos 1) ≡ ones (with_doc doc ds)
ones-with doc [] = refl
ones-with doc (d ∷ ds) =
    elim (nat_cmp doc d) as (λ o. match_ordering o ((doc, pos 1) ∷ ones (d ∷ ds)) ((d, pos 1) ∷ ones ds) ((d, pos 1) ∷ insert_entry nat_cmp (ones ds) doc (pos 1))
    ≡ ones (match_ordering o (doc ∷ d ∷ ds) (d ∷ ds) (d ∷ with_doc doc ds))) [
      | Less ↦ refl
      | Equal ↦ refl
      | Greater ↦ ap (λ es. (d, pos 1) ∷ es) (ones-with doc ds)
    ]

ones-without : (doc : ℕ) (ds : List ℕ) → remove_entry (is_at (nat_cmp doc)) (ones ds) ≡ ones (without_doc doc ds)
ones-without doc [] = refl
ones-without doc (d ∷ ds) =
    elim (is_eq (nat_cmp doc d)) as (λ b. cond b (ones ds) ((d, pos 1) ∷ remove_entry (is_at (nat_cmp doc)) (ones ds)) ≡ ones (cond b ds (d ∷ without_doc doc ds))) [
      | true ↦ refl
      | false ↦ ap (λ es. (d, pos 1) ∷ es) (ones-without doc ds)
    ]

-- Booleans
pub or_false : (a : Bool) → (a || false) ≡ a
or_false true = refl
or_false false = refl

or_true : (a : Bool) → (a || true) ≡ true
or_true true = refl
or_true false = refl

or_swap : (a b : Bool) → (a || b) ≡ (b || a)
or_swap true true = refl
or_swap true false = refl
or_swap false true = refl
or_swap false false = refl

or_again : (a b : Bool) → (a || b) ≡ ((a || b) || a)
or_again true b = refl
or_again false true = refl
or_again false false = refl

or_assoc : (a b c : Bool) → (a || (b || c)) ≡ ((a || b) || c)
or_assoc true b c = refl
or_assoc false b c = refl

and_true : (a : Bool) → (a && true) ≡ a
and_true true = refl
and_true false = refl

pub and_false : (a : Bool) → (a && false) ≡ false
and_false true = refl
and_false false = refl

-- bounds of documents
pub above_all : (a b : ℕ) → a < b → (ds : List ℕ) → AllByRecursion (λ y. b < y) ds → AllByRecursion (λ y. a < y) ds
above_all a b low [] all = tt
above_all a b low (d ∷ ds) all = let up : b < d = all.0 in (omega (arith, low, up), above_all a b low ds all.1)

pub absent : (x : ℕ) (ds : List ℕ) → AllByRecursion (λ y. x < y) ds → has ds x ≡ false
absent x [] all = refl
absent x (d ∷ ds) all = let up : x < d = all.0 in ap₂ (λ a b. a || b) (ne_eqb x d (λ same. omega (arith, same, up))) (absent x ds all.1)

all_with : (a doc : ℕ) → a < doc → (ds : List ℕ) → AllByRecursion (λ y. a < y) ds → AllByRecursion (λ y. a < y) (with_doc doc ds)
all_with a doc low [] all = (low, tt)
all_with a doc low (d ∷ ds) all =
    elim (nat_cmp doc d) as (λ o. AllByRecursion (λ y. a < y) (match_ordering o (doc ∷ d ∷ ds) (d ∷ ds) (d ∷ with_doc doc ds))) [
      | Less ↦ (low, all)
      | Equal ↦ all
      | Greater ↦ (all.0, all_with a doc low ds all.1)
    ]

ascends_with : (doc : ℕ) (ds : List ℕ) → IsAscending ds → IsAscending (with_doc doc ds)
ascends_with doc [] up = (tt, tt)
ascends_with doc (d ∷ ds) up =
    (elim (nat_cmp doc d) as (λ o. MatchOrdering o (doc < d) (doc ≡ d) (d < doc) → IsAscending (match_ordering o (doc ∷ d ∷ ds) (d ∷ ds) (d ∷ with_doc doc ds))) [
      | Less ↦ λ low. ((low, above_all doc d low ds up.0), up)
      | Equal ↦ λ same. up
      | Greater ↦ λ high. (all_with d doc high ds up.0, ascends_with doc ds up.1)
    ]) (ranks doc d)

has-with : (doc x : ℕ) (ds : List ℕ) → has (with_doc doc ds) x ≡ (has ds x || nat_eq x doc)
has-with doc x [] = or_false (nat_eq x doc)
has-with doc x (d ∷ ds) =
    (elim (nat_cmp doc d) as (λ o. MatchOrdering o (doc < d) (doc ≡ d) (d < doc) → has (match_ordering o (doc ∷ d ∷ ds) (d ∷ ds) (d ∷ with_doc doc ds)) x ≡ (has (d ∷ ds) x || nat_eq x doc)) [
      | Less ↦ λ low. or_swap (nat_eq x doc) (has (d ∷ ds) x)
      | Equal ↦ λ same. or_again (nat_eq x d) (has ds x) ∙ ap (λ n. has (d ∷ ds) x || nat_eq x n) (sym same)
      | Greater ↦ λ high. ap (λ b. nat_eq x d || b) (has-with doc x ds) ∙ or_assoc (nat_eq x d) (has ds x) (nat_eq x doc)
    ]) (ranks doc d)

all_without : (P : ℕ → Type 0) (doc : ℕ) (ds : List ℕ) → AllByRecursion P ds → AllByRecursion P (without_doc doc ds)
all_without P doc [] all = tt
all_without P doc (d ∷ ds) all =
    elim (is_eq (nat_cmp doc d)) as (λ b. AllByRecursion P (cond b ds (d ∷ without_doc doc ds))) [
      | true ↦ all.1
      | false ↦ (all.0, all_without P doc ds all.1)
    ]

ascends_without : (doc : ℕ) (ds : List ℕ) → IsAscending ds → IsAscending (without_doc doc ds)
ascends_without doc [] up = tt
ascends_without doc (d ∷ ds) up =
    elim (is_eq (nat_cmp doc d)) as (λ b. IsAscending (cond b ds (d ∷ without_doc doc ds))) [
      | true ↦ up.1
      | false ↦ (all_without (λ y. d < y) doc ds up.0, ascends_without doc ds up.1)
    ]

-- a document that is the one taken out, or another
gone : (doc x d : ℕ) (ds : List ℕ) → doc ≡ d → AllByRecursion (λ y. d < y) ds → has ds x ≡ (has (d ∷ ds) x && not (nat_eq x doc))
gone doc x d ds same up = by_cases (nat_eq x doc)
    (λ yes.
    let here : x ≡ d = eqb-true x doc yes ∙ same in
    ap (has ds) here ∙ absent d ds up ∙ sym (ap (λ b. has (d ∷ ds) x && not b) yes ∙ and_false (has (d ∷ ds) x)))
    (λ no.
    let apart : nat_eq x d ≡ false = ap (nat_eq x) (sym same) ∙ no in
    sym (ap₂ (λ a b. (a || has ds x) && not b) apart no ∙ and_true (has ds x)))

stays : (doc x d : ℕ) (r : Bool) → doc ≢ d → (nat_eq x d || (r && not (nat_eq x doc))) ≡ ((nat_eq x d || r) && not (nat_eq x doc))
stays doc x d r apart = by_cases (nat_eq x d)
    (λ yes.
    let other : nat_eq x doc ≡ false = ne_eqb x doc (λ same. apart (sym same ∙ eqb-true x d yes)) in
    ap₂ (λ a b. a || (r && not b)) yes other ∙ sym (ap₂ (λ a b. (a || r) && not b) yes other))
    (λ no. ap (λ a. a || (r && not (nat_eq x doc))) no ∙ sym (ap (λ a. (a || r) && not (nat_eq x doc)) no))

has-without : (doc x : ℕ) (ds : List ℕ) → IsAscending ds → has (without_doc doc ds) x ≡ (has ds x && not (nat_eq x doc))
has-without doc x [] up = refl
has-without doc x (d ∷ ds) up =
    (elim (nat_cmp doc d) as (λ o. MatchOrdering o (doc < d) (doc ≡ d) (d < doc) → has (cond (is_eq o) ds (d ∷ without_doc doc ds)) x ≡ (has (d ∷ ds) x && not (nat_eq x doc))) [
      | Less ↦ λ low. ap (λ b. nat_eq x d || b) (has-without doc x ds up.1) ∙ stays doc x d (has ds x) (λ same. omega (arith, low, same))
      | Equal ↦ λ same. gone doc x d ds same up.0
      | Greater ↦ λ high. ap (λ b. nat_eq x d || b) (has-without doc x ds up.1) ∙ stays doc x d (has ds x) (λ same. omega (arith, high, same))
    ]) (ranks doc d)

-- the sets of documents determine the lists
module _ (docs next : List ℕ) (doc : ℕ) (up : IsAscending docs) (up_next : IsAscending next) where
  pub inserted : ((x : ℕ) → has next x ≡ (has docs x || nat_eq x doc)) → ones next ≡ insert_entry nat_cmp (ones docs) doc (pos 1)
  inserted is =
      ap ones (same_ascending next (with_doc doc docs) up_next (ascends_with doc docs up) (λ x. is x ∙ sym (has-with doc x docs)))
      ∙ sym (ones-with doc docs)

  pub removed : ((x : ℕ) → has next x ≡ (has docs x && not (nat_eq x doc))) → ones next ≡ remove_entry (is_at (nat_cmp doc)) (ones docs)
  removed is =
      ap ones (same_ascending next (without_doc doc docs) up_next (ascends_without doc docs up) (λ x. is x ∙ sym (has-without doc x docs up)))
      ∙ sym (ones-without doc docs)

-- a document that is there already
pub unchanged : (docs : List ℕ) (doc : ℕ) → IsAscending docs → has docs doc ≡ true → ones docs ≡ insert_entry nat_cmp (ones docs) doc (pos 1)
unchanged docs doc up there = inserted docs docs doc up up (λ x. by_cases (nat_eq x doc)
    (λ yes.
    let here : has docs x ≡ true = ap (has docs) (eqb-true x doc yes) ∙ there in
    here ∙ sym (ap₂ (λ a b. a || b) here yes))
    (λ no. sym (ap (λ b. has docs x || b) no ∙ or_false (has docs x))))

-- documents that ascend are sorted
less_all : (d : ℕ) (ds : List ℕ) → AllByRecursion (λ y. d < y) ds → AllByRecursion (λ y. nat_cmp d y ≡ Less) ds
less_all d [] all = tt
less_all d (x ∷ ds) all = (sym (nat_cmp_is d x Less all.0), less_all d ds all.1)

pub sorted : (ds : List ℕ) → IsAscending ds → IsStrictlySortedBy nat_cmp ds
unfolding IsStrictlySortedBy
sorted [] up = tt
sorted (d ∷ ds) up = (less_all d ds up.0, sorted ds up.1)

-- a property of all is one of each that is there
pub all_has : (P : ℕ → Type 0) (docs : List ℕ) → AllByRecursion P docs → (d : ℕ) → has docs d ≡ true → P d
all_has P [] all d is = absurd (grind (arith, is))
all_has P (x ∷ docs) all d is = by_cases (nat_eq d x)
    (λ yes. subst P (sym (eqb-true d x yes)) all.0)
    (λ no. all_has P docs all.1 d (sym (ap (λ b. b || has docs d) no) ∙ is))

pub has_all : (P : ℕ → Type 0) (docs : List ℕ) → ((d : ℕ) → has docs d ≡ true → P d) → AllByRecursion P docs
has_all P [] each = tt
has_all P (x ∷ docs) each = (
  each x (ap (λ b. b || has docs x) (eq-eqb x x refl)),
  has_all P docs (λ d there. each d (ap (λ b. nat_eq d x || b) there ∙ or_true (nat_eq d x))),
)

pub has_append : (xs ys : List ℕ) (doc : ℕ) → has (xs ++ ys) doc ≡ (has xs doc || has ys doc)
has_append [] ys doc = refl
has_append (x ∷ xs) ys doc = ap (λ b. nat_eq doc x || b) (has_append xs ys doc) ∙ or_assoc (nat_eq doc x) _ _

pub ascends_append : (xs ys : List ℕ) → IsAscending xs → IsAscending ys → AllByRecursion (λ x. AllByRecursion (λ y. x < y) ys) xs → IsAscending (xs ++ ys)
ascends_append [] ys up_x up_y apart = up_y
ascends_append (x ∷ xs) ys up_x up_y apart = (below xs up_x.0, ascends_append xs ys up_x.1 up_y apart.1)
  where
    below : (zs : List ℕ) → AllByRecursion (λ y. x < y) zs → AllByRecursion (λ y. x < y) (zs ++ ys)
    below [] all = apart.0
    below (z ∷ zs) all = (all.0, below zs all.1)
