-- Pairs of a tree by document, and the postings that they are.
use Rattle.std.proofs.Common.{◌≡◌, ℕ, suc, ℤ, pos, ◌<◌, ◌≤◌, ◌/◌, ◌%◌, Bool, true, false, cond, List, [], ◌∷◌, map, length, Option, None, Some, refl, sym, ap, subst, ◌∙◌, arith}
use Rattle.std.specs.Prelude.{IsSome}
use Rattle.std.specs.BTreeMap.{insert_entry, is_at}
use Rattle.std.specs.Cmp.{ranks}
use Rattle.std.specs.declared.cmp.Ordering.{Ordering}
use Rattle.std.specs.declared.cmp.Ordering.TheVariants.{Less, Equal, Greater}
use Rattle.std.specs.List.{zip, AllByRecursion}
use Rattle.std.specs.List.Sorted.{IsStrictlySortedBy}
use Rattle.std.specs.Map.{keys_of, remove_entry}
use Rattle.std.specs.Map.{lookup as lookup_in}
use Rattle.std.specs.Ordering.{nat_cmp, match_ordering, is_eq, MatchOrdering}
use Rattle.tree_read.specs.Pairs.{choose, lookup, put, take_out}
use Rattle.image_format.specs.Words.{unpacked, weight_in_bits}
use Rattle.attr_types.specs.Lawful.{IsDocNumber}
use Rattle.posting_store.specs.Lists.{AreDocuments, AreOnes}
use Rattle.posting_store.proofs.ItemLemmas.{cmp_below, cmp_above, cmp_same, cmp_apart}

-- a pair of a tree as a posting
abbrev pub weighed : List (ℕ × ℕ) → List (ℕ × ℤ)
weighed ps = map (λ p. (p.0, weight_in_bits p.1)) ps

abbrev pub against : ℕ → ℕ → Ordering
against doc key = nat_cmp key doc

pub weighed-keys : (ps : List (ℕ × ℕ)) → keys_of (weighed ps) ≡ map (λ p. p.0) ps
weighed-keys [] = refl
weighed-keys (p ∷ ps) = ap (λ ks. p.0 ∷ ks) (weighed-keys ps)

pub weighed-length : (ps : List (ℕ × ℕ)) → length (weighed ps) ≡ length ps
weighed-length [] = refl
weighed-length (p ∷ ps) = ap suc (weighed-length ps)

-- a pair put among pairs
pub weighed-put : (doc bits : ℕ) (weight : ℤ) → weight_in_bits bits ≡ weight → (ps : List (ℕ × ℕ))
    → weighed (put (against doc) (doc, bits) ps) ≡ insert_entry nat_cmp (weighed ps) doc weight
weighed-put doc bits weight is [] = ap (λ w. (doc, w) ∷ []) is
weighed-put doc bits weight is (p ∷ ps) = told (weighed-put doc bits weight is ps) (nat_cmp p.0 doc) refl (ranks p.0 doc)
  where
    told : weighed (put (against doc) (doc, bits) ps) ≡ insert_entry nat_cmp (weighed ps) doc weight → (o : Ordering) → nat_cmp p.0 doc ≡ o
        → MatchOrdering o (p.0 < doc) (p.0 ≡ doc) (doc < p.0) → weighed (put (against doc) (doc, bits) (p ∷ ps)) ≡ insert_entry nat_cmp (weighed (p ∷ ps)) doc weight
    told rest Less e rank =
        ap (λ o. weighed (choose o (p ∷ put (against doc) (doc, bits) ps) ((doc, bits) ∷ ps) ((doc, bits) ∷ p ∷ ps))) e
        ∙ ap (λ es. (p.0, weight_in_bits p.1) ∷ es) rest
        ∙ ap (λ o. match_ordering o ((doc, weight) ∷ weighed (p ∷ ps)) ((p.0, weight) ∷ weighed ps) ((p.0, weight_in_bits p.1) ∷ insert_entry nat_cmp (weighed ps) doc weight)) (sym (cmp_above doc p.0 rank))
    told rest Equal e rank =
        ap (λ o. weighed (choose o (p ∷ put (against doc) (doc, bits) ps) ((doc, bits) ∷ ps) ((doc, bits) ∷ p ∷ ps))) e
        ∙ ap (λ (k : ℕ). (k, weight_in_bits bits) ∷ weighed ps) (sym rank) ∙ ap (λ (w : ℤ). (p.0, w) ∷ weighed ps) is
        ∙ ap (λ o. match_ordering o ((doc, weight) ∷ weighed (p ∷ ps)) ((p.0, weight) ∷ weighed ps) ((p.0, weight_in_bits p.1) ∷ insert_entry nat_cmp (weighed ps) doc weight)) (sym (cmp_same doc p.0 rank))
    told rest Greater e rank =
        ap (λ o. weighed (choose o (p ∷ put (against doc) (doc, bits) ps) ((doc, bits) ∷ ps) ((doc, bits) ∷ p ∷ ps))) e
        ∙ ap (λ (w : ℤ). (doc, w) ∷ weighed (p ∷ ps)) is
        ∙ ap (λ o. match_ordering o ((doc, weight) ∷ weighed (p ∷ ps)) ((p.0, weight) ∷ weighed ps) ((p.0, weight_in_bits p.1) ∷ insert_entry nat_cmp (weighed ps) doc weight)) (sym (cmp_below doc p.0 rank))

-- above a document that is not there it is not further on
pub above_apart : (doc k x : ℕ) → doc < k → nat_cmp k x ≡ Less → is_eq (nat_cmp doc x) ≡ false
above_apart doc k x up less = told (nat_cmp k x) less (ranks k x)
  where
    told : (o : Ordering) → o ≡ Less → MatchOrdering o (k < x) (k ≡ x) (x < k) → is_eq (nat_cmp doc x) ≡ false
    told Less e rank = cmp_apart doc x (λ same. absurd (omega arith))
    told Equal e rank = absurd (grind (arith, e))
    told Greater e rank = absurd (grind (arith, e))

none_out : (doc k : ℕ) (ps : List (ℕ × ℕ)) → doc < k → AllByRecursion (λ x. nat_cmp k x ≡ Less) (map (λ p. p.0) ps)
    → weighed ps ≡ remove_entry (is_at (nat_cmp doc)) (weighed ps)
none_out doc k [] up all = refl
none_out doc k (p ∷ ps) up all =
    ap (λ es. (p.0, weight_in_bits p.1) ∷ es) (none_out doc k ps up all.1)
    ∙ ap (λ b. cond b (weighed ps) ((p.0, weight_in_bits p.1) ∷ remove_entry (is_at (nat_cmp doc)) (weighed ps))) (sym (above_apart doc k p.0 up all.0))

none_found : (doc k : ℕ) (ps : List (ℕ × ℕ)) → doc < k → AllByRecursion (λ x. nat_cmp k x ≡ Less) (map (λ p. p.0) ps)
    → lookup_in (is_at (nat_cmp doc)) (weighed ps) ≡ None
none_found doc k [] up all = refl
none_found doc k (p ∷ ps) up all =
    ap (λ b. cond b (Some (weight_in_bits p.1)) (lookup_in (is_at (nat_cmp doc)) (weighed ps))) (above_apart doc k p.0 up all.0)
    ∙ none_found doc k ps up all.1

-- a pair taken out of pairs that ascend
pub weighed-take_out : (doc : ℕ) (ps : List (ℕ × ℕ)) → IsStrictlySortedBy nat_cmp (map (λ p. p.0) ps)
    → weighed (take_out (against doc) ps) ≡ remove_entry (is_at (nat_cmp doc)) (weighed ps)
unfolding IsStrictlySortedBy
weighed-take_out doc [] up = refl
weighed-take_out doc (p ∷ ps) up = told (weighed-take_out doc ps up.1) (nat_cmp p.0 doc) refl (ranks p.0 doc)
  where
    told : weighed (take_out (against doc) ps) ≡ remove_entry (is_at (nat_cmp doc)) (weighed ps) → (o : Ordering) → nat_cmp p.0 doc ≡ o
        → MatchOrdering o (p.0 < doc) (p.0 ≡ doc) (doc < p.0) → weighed (take_out (against doc) (p ∷ ps)) ≡ remove_entry (is_at (nat_cmp doc)) (weighed (p ∷ ps))
    told rest Less e rank =
        ap (λ o. weighed (choose o (p ∷ take_out (against doc) ps) ps (p ∷ ps))) e
        ∙ ap (λ es. (p.0, weight_in_bits p.1) ∷ es) rest
        ∙ ap (λ b. cond b (weighed ps) ((p.0, weight_in_bits p.1) ∷ remove_entry (is_at (nat_cmp doc)) (weighed ps))) (sym (cmp_apart doc p.0 (λ same. absurd (omega arith))))
    told rest Equal e rank =
        ap (λ o. weighed (choose o (p ∷ take_out (against doc) ps) ps (p ∷ ps))) e
        ∙ ap (λ o. cond (is_eq o) (weighed ps) ((p.0, weight_in_bits p.1) ∷ remove_entry (is_at (nat_cmp doc)) (weighed ps))) (sym (cmp_same doc p.0 rank))
    told rest Greater e rank =
        ap (λ o. weighed (choose o (p ∷ take_out (against doc) ps) ps (p ∷ ps))) e
        ∙ ap (λ es. (p.0, weight_in_bits p.1) ∷ es) (none_out doc p.0 ps rank up.0)
        ∙ ap (λ b. cond b (weighed ps) ((p.0, weight_in_bits p.1) ∷ remove_entry (is_at (nat_cmp doc)) (weighed ps))) (sym (cmp_apart doc p.0 (λ same. absurd (omega arith))))

-- a document that is there is found by its pair
some_none : (o : Option ℤ) → IsSome o → o ≡ None → ⊥
some_none o some is = grind (arith, some, is)

passed : (doc : ℕ) (p : ℕ × ℕ) (ps : List (ℕ × ℕ)) → is_eq (nat_cmp doc p.0) ≡ false → IsSome (lookup_in (is_at (nat_cmp doc)) (weighed (p ∷ ps)))
    → IsSome (lookup_in (is_at (nat_cmp doc)) (weighed ps))
passed doc p ps e there = subst (λ b. IsSome (cond b (Some (weight_in_bits p.1)) (lookup_in (is_at (nat_cmp doc)) (weighed ps)))) e there

pub weighed-there : (doc : ℕ) (ps : List (ℕ × ℕ)) → IsStrictlySortedBy nat_cmp (map (λ p. p.0) ps)
    → IsSome (lookup_in (is_at (nat_cmp doc)) (weighed ps)) → IsSome (lookup (against doc) ps)
unfolding IsStrictlySortedBy
weighed-there doc [] up there = grind (arith, there)
weighed-there doc (p ∷ ps) up there = told (weighed-there doc ps up.1) (nat_cmp p.0 doc) refl (ranks p.0 doc)
  where
    told : (IsSome (lookup_in (is_at (nat_cmp doc)) (weighed ps)) → IsSome (lookup (against doc) ps)) → (o : Ordering) → nat_cmp p.0 doc ≡ o
        → MatchOrdering o (p.0 < doc) (p.0 ≡ doc) (doc < p.0) → IsSome (lookup (against doc) (p ∷ ps))
    told rest Less e rank =
        subst (λ o. IsSome (choose o (lookup (against doc) ps) (Some p.1) None)) (sym e)
        (rest (passed doc p ps (cmp_apart doc p.0 (λ same. absurd (omega arith))) there))
    told rest Equal e rank = subst (λ o. IsSome (choose o (lookup (against doc) ps) (Some p.1) None)) (sym e) refl
    told rest Greater e rank =
        absurd (some_none (lookup_in (is_at (nat_cmp doc)) (weighed ps)) (passed doc p ps (cmp_apart doc p.0 (λ same. absurd (omega arith))) there) (none_found doc p.0 ps rank up.0))

-- keys after a change
all_in : (P : ℕ → Type 0) (doc : ℕ) (weight : ℤ) → P doc → (es : List (ℕ × ℤ)) → AllByRecursion P (keys_of es) → AllByRecursion P (keys_of (insert_entry nat_cmp es doc weight))
all_in P doc weight here [] all = (here, tt)
all_in P doc weight here (e ∷ es) all =
    elim (nat_cmp doc e.0) as (λ o. AllByRecursion P (keys_of (match_ordering o ((doc, weight) ∷ e ∷ es) ((e.0, weight) ∷ es) (e ∷ insert_entry nat_cmp es doc weight)))) [
      | Less ↦ (here, all)
      | Equal ↦ all
      | Greater ↦ (all.0, all_in P doc weight here es all.1)
    ]

less_then : (a b c : ℕ) → a < b → nat_cmp b c ≡ Less → nat_cmp a c ≡ Less
less_then a b c low less = told (nat_cmp b c) less (ranks b c)
  where
    told : (o : Ordering) → o ≡ Less → MatchOrdering o (b < c) (b ≡ c) (c < b) → nat_cmp a c ≡ Less
    told Less e rank = cmp_below a c (omega arith)
    told Equal e rank = absurd (grind (arith, e))
    told Greater e rank = absurd (grind (arith, e))

all_less : (a b : ℕ) → a < b → (ks : List ℕ) → AllByRecursion (λ x. nat_cmp b x ≡ Less) ks → AllByRecursion (λ x. nat_cmp a x ≡ Less) ks
all_less a b low [] all = tt
all_less a b low (k ∷ ks) all = (less_then a b k low all.0, all_less a b low ks all.1)

sorted_in : (doc : ℕ) (weight : ℤ) (es : List (ℕ × ℤ)) → IsStrictlySortedBy nat_cmp (keys_of es) → IsStrictlySortedBy nat_cmp (keys_of (insert_entry nat_cmp es doc weight))
unfolding IsStrictlySortedBy
sorted_in doc weight [] up = (tt, tt)
sorted_in doc weight (e ∷ es) up = told (sorted_in doc weight es up.1) (nat_cmp doc e.0) refl (ranks doc e.0)
  where
    told : IsStrictlySortedBy nat_cmp (keys_of (insert_entry nat_cmp es doc weight)) → (o : Ordering) → nat_cmp doc e.0 ≡ o → MatchOrdering o (doc < e.0) (doc ≡ e.0) (e.0 < doc)
        → IsStrictlySortedBy nat_cmp (keys_of (insert_entry nat_cmp (e ∷ es) doc weight))
    told rest Less is rank =
        subst (λ o. IsStrictlySortedBy nat_cmp (keys_of (match_ordering o ((doc, weight) ∷ e ∷ es) ((e.0, weight) ∷ es) (e ∷ insert_entry nat_cmp es doc weight)))) (sym is)
        ((is, all_less doc e.0 rank (keys_of es) up.0), up)
    told rest Equal is rank =
        subst (λ o. IsStrictlySortedBy nat_cmp (keys_of (match_ordering o ((doc, weight) ∷ e ∷ es) ((e.0, weight) ∷ es) (e ∷ insert_entry nat_cmp es doc weight)))) (sym is) up
    told rest Greater is rank =
        subst (λ o. IsStrictlySortedBy nat_cmp (keys_of (match_ordering o ((doc, weight) ∷ e ∷ es) ((e.0, weight) ∷ es) (e ∷ insert_entry nat_cmp es doc weight)))) (sym is)
        (all_in (λ x. nat_cmp e.0 x ≡ Less) doc weight (cmp_below e.0 doc rank) es up.0, rest)

pub documents_in : (doc : ℕ) (weight : ℤ) (es : List (ℕ × ℤ)) → IsDocNumber doc → AreDocuments es → AreDocuments (insert_entry nat_cmp es doc weight)
documents_in doc weight es number are = record {
  ascends = sorted_in doc weight es are.ascends;
  numbers = all_in IsDocNumber doc weight number es are.numbers;
}

all_out : (P : ℕ → Type 0) (test : ℕ → Bool) (es : List (ℕ × ℤ)) → AllByRecursion P (keys_of es) → AllByRecursion P (keys_of (remove_entry test es))
all_out P test [] all = tt
all_out P test (e ∷ es) all =
    elim (test e.0) as (λ b. AllByRecursion P (keys_of (cond b es (e ∷ remove_entry test es)))) [
      | true ↦ all.1
      | false ↦ (all.0, all_out P test es all.1)
    ]

sorted_out : (test : ℕ → Bool) (es : List (ℕ × ℤ)) → IsStrictlySortedBy nat_cmp (keys_of es) → IsStrictlySortedBy nat_cmp (keys_of (remove_entry test es))
unfolding IsStrictlySortedBy
sorted_out test [] up = tt
sorted_out test (e ∷ es) up =
    elim (test e.0) as (λ b. IsStrictlySortedBy nat_cmp (keys_of (cond b es (e ∷ remove_entry test es)))) [
      | true ↦ up.1
      | false ↦ (all_out (λ x. nat_cmp e.0 x ≡ Less) test es up.0, sorted_out test es up.1)
    ]

pub documents_out : (test : ℕ → Bool) (es : List (ℕ × ℤ)) → AreDocuments es → AreDocuments (remove_entry test es)
documents_out test es are = record { ascends = sorted_out test es are.ascends; numbers = all_out IsDocNumber test es are.numbers }

-- weights of 1 stay so
pub ones_in : (doc : ℕ) (weight : ℤ) (es : List (ℕ × ℤ)) → weight ≡ pos 1 → AreOnes es → AreOnes (insert_entry nat_cmp es doc weight)
ones_in doc weight [] is all = (is, tt)
ones_in doc weight (e ∷ es) is all =
    elim (nat_cmp doc e.0) as (λ o. AreOnes (match_ordering o ((doc, weight) ∷ e ∷ es) ((e.0, weight) ∷ es) (e ∷ insert_entry nat_cmp es doc weight))) [
      | Less ↦ (is, all)
      | Equal ↦ (is, all.1)
      | Greater ↦ (all.0, ones_in doc weight es is all.1)
    ]

pub ones_out : (test : ℕ → Bool) (es : List (ℕ × ℤ)) → AreOnes es → AreOnes (remove_entry test es)
ones_out test [] all = tt
ones_out test (e ∷ es) all =
    elim (test e.0) as (λ b. AreOnes (cond b es (e ∷ remove_entry test es))) [
      | true ↦ all.1
      | false ↦ (all.0, ones_out test es all.1)
    ]

-- one document more at most, and one less
pub length_in : (doc : ℕ) (weight : ℤ) (es : List (ℕ × ℤ)) → length (insert_entry nat_cmp es doc weight) ≤ suc (length es)
length_in doc weight [] = omega arith
length_in doc weight (e ∷ es) =
    elim (nat_cmp doc e.0) as (λ o. length (match_ordering o ((doc, weight) ∷ e ∷ es) ((e.0, weight) ∷ es) (e ∷ insert_entry nat_cmp es doc weight)) ≤ suc (length (e ∷ es))) [
      | Less ↦ omega arith
      | Equal ↦ omega arith
      | Greater ↦ let more = length_in doc weight es in omega arith
    ]

pub length_out_some : (test : ℕ → Bool) (es : List (ℕ × ℤ)) → IsSome (lookup_in test es) → suc (length (remove_entry test es)) ≡ length es
length_out_some test [] some = absurd (grind (arith, some))
length_out_some test (e ∷ es) some =
    (elim (test e.0) as (λ b. IsSome (cond b (Some e.1) (lookup_in test es)) → suc (length (cond b es (e ∷ remove_entry test es))) ≡ length (e ∷ es)) [
      | true ↦ λ h. refl
      | false ↦ λ h. ap suc (length_out_some test es h)
    ]) some

-- items of a leaf
pub zipped : (items : List ℕ) → weighed (zip (map (λ x. x / 4294967296) items) (map (λ x. x % 4294967296) items)) ≡ map unpacked items
zipped [] = refl
zipped (x ∷ xs) = ap (λ es. unpacked x ∷ es) (zipped xs)

pub zipped_small : (items : List ℕ) → AllByRecursion (λ p. p.1 < 4294967296) (zip (map (λ x. x / 4294967296) items) (map (λ x. x % 4294967296) items))
zipped_small [] = tt
zipped_small (x ∷ xs) = (omega arith, zipped_small xs)
