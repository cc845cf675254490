-- Pairs by document, and the column that they are when each reference is read.
use Rattle.std.proofs.Common.{◌≡◌, ℕ, ◌+◌, ◌<◌, cond, List, [], ◌∷◌, ◌++◌, map, Option, None, Some, option_map, refl, sym, ap, subst, ◌∙◌, arith}
use Rattle.std.specs.Prelude.{IsSome, unwrap_or}
use Rattle.std.specs.BTreeMap.{insert_entry, is_at}
use Rattle.std.specs.Cmp.{ranks}
use Rattle.std.specs.declared.cmp.Ordering.{Ordering}
use Rattle.std.specs.declared.cmp.Ordering.TheVariants.{Less, Equal, Greater}
use Rattle.std.specs.List.{flat_map, AllByRecursion}
use Rattle.std.specs.List.Sorted.{IsStrictlySortedBy}
use Rattle.std.specs.Map.{keys_of, remove_entry}
use Rattle.std.specs.Map.{lookup as lookup_in}
use Rattle.std.specs.Ordering.{nat_cmp, match_ordering, is_eq, MatchOrdering}
use Rattle.store_api.specs.Parts.{times}
use Rattle.store_api.proofs.Times.{times-append}
use Rattle.tree_read.specs.Pairs.{choose, lookup, put, take_out}
use Rattle.doc_vector.specs.Documents.{beside_document}
use Rattle.posting_store.proofs.ItemLemmas.{cmp_below, cmp_above, cmp_same, cmp_apart}
use Rattle.posting_store.proofs.PairLemmas.{above_apart}

-- what is gathered of the reference found
abbrev pub found : (ℕ → List ℕ) → Option ℕ → List ℕ
found g None = []
found g (Some ref) = g ref

pub found-or : (g : ℕ → List ℕ) (o : Option ℕ) → g 0 ≡ [] → found g o ≡ g (unwrap_or o 0)
found-or g None none = sym none
found-or g (Some ref) none = refl

module _ (r : ℕ) (g : ℕ → List ℕ) (c : ℕ → Ordering) where
  pub times-out : (ps : List (ℕ × ℕ)) → times r (flat_map (λ p. g p.1) ps) ≡ times r (found g (lookup c ps)) + times r (flat_map (λ p. g p.1) (take_out c ps))
  times-out [] = refl
  times-out (p ∷ ps) =
      let rest = times-out ps in
      let here = times-append r (g p.1) (flat_map (λ q. g q.1) ps) in
      elim (c p.0) as (λ o. times r (g p.1 ++ flat_map (λ q. g q.1) ps) ≡ times r (found g (choose o (lookup c ps) (Some p.1) None)) + times r (flat_map (λ q. g q.1) (choose o (p ∷ take_out c ps) ps (p ∷ ps)))) [
        | Less ↦ let there = times-append r (g p.1) (flat_map (λ q. g q.1) (take_out c ps)) in omega arith
        | Equal ↦ here
        | Greater ↦ omega arith
      ]

  pub times-put : (pair : ℕ × ℕ) (ps : List (ℕ × ℕ)) → times r (flat_map (λ p. g p.1) (put c pair ps)) ≡ times r (g pair.1) + times r (flat_map (λ p. g p.1) (take_out c ps))
  times-put pair [] = times-append r (g pair.1) []
  times-put pair (p ∷ ps) =
      let rest = times-put pair ps in
      elim (c p.0) as (λ o. times r (flat_map (λ q. g q.1) (choose o (p ∷ put c pair ps) (pair ∷ ps) (pair ∷ p ∷ ps))) ≡ times r (g pair.1) + times r (flat_map (λ q. g q.1) (choose o (p ∷ take_out c ps) ps (p ∷ ps)))) [
        | Less ↦ let here = times-append r (g p.1) (flat_map (λ q. g q.1) (put c pair ps)) in let there = times-append r (g p.1) (flat_map (λ q. g q.1) (take_out c ps)) in omega arith
        | Equal ↦ times-append r (g pair.1) (flat_map (λ q. g q.1) ps)
        | Greater ↦ times-append r (g pair.1) (flat_map (λ q. g q.1) (p ∷ ps))
      ]

-- what holds of a pair and of all others holds where it was put in
pub all-put : (P : ℕ × ℕ → Type 0) (c : ℕ → Ordering) (pair : ℕ × ℕ) → P pair → (ps : List (ℕ × ℕ)) → AllByRecursion P (take_out c ps) → AllByRecursion P (put c pair ps)
all-put P c pair here [] all = (here, tt)
all-put P c pair here (p ∷ ps) all =
    (elim (c p.0) as (λ o. AllByRecursion P (choose o (p ∷ take_out c ps) ps (p ∷ ps)) → AllByRecursion P (choose o (p ∷ put c pair ps) (pair ∷ ps) (pair ∷ p ∷ ps))) [
      | Less ↦ λ h. (h.0, all-put P c pair here ps h.1)
      | Equal ↦ λ h. (here, h)
      | Greater ↦ λ h. (here, h)
    ]) all

-- each document with what its reference reads as
abbrev pub columned : {B : Type 0} → (ℕ → B) → List (ℕ × ℕ) → List (ℕ × B)
columned h ps = map (λ p. (p.0, h p.1)) ps

pub columned-keys : {B : Type 0} (h : ℕ → B) (ps : List (ℕ × ℕ)) → keys_of (columned h ps) ≡ map (λ p. p.0) ps
columned-keys h [] = refl
columned-keys h (p ∷ ps) = ap (λ ks. p.0 ∷ ks) (columned-keys h ps)

pub columned-same : {B : Type 0} (h k : ℕ → B) (ps : List (ℕ × ℕ)) → AllByRecursion (λ p. k p.1 ≡ h p.1) ps → columned k ps ≡ columned h ps
columned-same h k [] all = refl
columned-same h k (p ∷ ps) all = ap (λ b. (p.0, b) ∷ columned k ps) all.0 ∙ ap (λ es. (p.0, h p.1) ∷ es) (columned-same h k ps all.1)

-- a document's reference set
module _ {B : Type 0} (h k : ℕ → B) (doc ref : ℕ) (x : B) (is : k ref ≡ x) where
  abbrev Same : ℕ × ℕ → Type 0
  Same p = k p.1 ≡ h p.1

  pub columned-put : (ps : List (ℕ × ℕ)) → AllByRecursion Same (take_out (beside_document doc) ps) → columned k (put (beside_document doc) (doc, ref) ps) ≡ insert_entry nat_cmp (columned h ps) doc x
  columned-put [] all = ap (λ b. (doc, b) ∷ []) is
  columned-put (p ∷ ps) all = told (columned-put ps) (nat_cmp p.0 doc) refl (ranks p.0 doc)
    where
      told : (AllByRecursion Same (take_out (beside_document doc) ps) → columned k (put (beside_document doc) (doc, ref) ps) ≡ insert_entry nat_cmp (columned h ps) doc x) → (o : Ordering) → nat_cmp p.0 doc ≡ o
          → MatchOrdering o (p.0 < doc) (p.0 ≡ doc) (doc < p.0) → columned k (put (beside_document doc) (doc, ref) (p ∷ ps)) ≡ insert_entry nat_cmp (columned h (p ∷ ps)) doc x
      told rest Less e rank =
          let split : AllByRecursion Same (p ∷ take_out (beside_document doc) ps) = subst (λ o. AllByRecursion Same (choose o (p ∷ take_out (beside_document doc) ps) ps (p ∷ ps))) e all in
          ap (λ o. columned k (choose o (p ∷ put (beside_document doc) (doc, ref) ps) ((doc, ref) ∷ ps) ((doc, ref) ∷ p ∷ ps))) e
          ∙ ap (λ b. (p.0, b) ∷ columned k (put (beside_document doc) (doc, ref) ps)) split.0
          ∙ ap (λ es. (p.0, h p.1) ∷ es) (rest split.1)
          ∙ ap (λ o. match_ordering o ((doc, x) ∷ columned h (p ∷ ps)) ((p.0, x) ∷ columned h ps) ((p.0, h p.1) ∷ insert_entry nat_cmp (columned h ps) doc x)) (sym (cmp_above doc p.0 rank))
      told rest Equal e rank =
          let split : AllByRecursion Same ps = subst (λ o. AllByRecursion Same (choose o (p ∷ take_out (beside_document doc) ps) ps (p ∷ ps))) e all in
          ap (λ o. columned k (choose o (p ∷ put (beside_document doc) (doc, ref) ps) ((doc, ref) ∷ ps) ((doc, ref) ∷ p ∷ ps))) e
          ∙ ap (λ b. (doc, b) ∷ columned k ps) is
          ∙ ap (λ es. (doc, x) ∷ es) (columned-same h k ps split)
          ∙ ap (λ (d : ℕ). (d, x) ∷ columned h ps) (sym rank)
          ∙ ap (λ o. match_ordering o ((doc, x) ∷ columned h (p ∷ ps)) ((p.0, x) ∷ columned h ps) ((p.0, h p.1) ∷ insert_entry nat_cmp (columned h ps) doc x)) (sym (cmp_same doc p.0 rank))
      told rest Greater e rank =
          let split : AllByRecursion Same (p ∷ ps) = subst (λ o. AllByRecursion Same (choose o (p ∷ take_out (beside_document doc) ps) ps (p ∷ ps))) e all in
          ap (λ o. columned k (choose o (p ∷ put (beside_document doc) (doc, ref) ps) ((doc, ref) ∷ ps) ((doc, ref) ∷ p ∷ ps))) e
          ∙ ap (λ b. (doc, b) ∷ columned k (p ∷ ps)) is
          ∙ ap (λ es. (doc, x) ∷ es) (columned-same h k (p ∷ ps) split)
          ∙ ap (λ o. match_ordering o ((doc, x) ∷ columned h (p ∷ ps)) ((p.0, x) ∷ columned h ps) ((p.0, h p.1) ∷ insert_entry nat_cmp (columned h ps) doc x)) (sym (cmp_below doc p.0 rank))

module _ {B : Type 0} (h : ℕ → B) (doc : ℕ) where
  none_out : (k : ℕ) (ps : List (ℕ × ℕ)) → doc < k → AllByRecursion (λ x. nat_cmp k x ≡ Less) (map (λ p. p.0) ps)
      → columned h ps ≡ remove_entry (is_at (nat_cmp doc)) (columned h ps)
  none_out k [] up all = refl
  none_out k (p ∷ ps) up all =
      ap (λ es. (p.0, h p.1) ∷ es) (none_out k ps up all.1)
      ∙ ap (λ b. cond b (columned h ps) ((p.0, h p.1) ∷ remove_entry (is_at (nat_cmp doc)) (columned h ps))) (sym (above_apart doc k p.0 up all.0))

  none_found : (k : ℕ) (ps : List (ℕ × ℕ)) → doc < k → AllByRecursion (λ x. nat_cmp k x ≡ Less) (map (λ p. p.0) ps)
      → lookup_in (is_at (nat_cmp doc)) (columned h ps) ≡ None
  none_found k [] up all = refl
  none_found k (p ∷ ps) up all =
      ap (λ b. cond b (Some (h p.1)) (lookup_in (is_at (nat_cmp doc)) (columned h ps))) (above_apart doc k p.0 up all.0)
      ∙ none_found k ps up all.1

  -- a document taken out
  pub columned-out : (ps : List (ℕ × ℕ)) → IsStrictlySortedBy nat_cmp (map (λ p. p.0) ps)
      → columned h (take_out (beside_document doc) ps) ≡ remove_entry (is_at (nat_cmp doc)) (columned h ps)
  unfolding IsStrictlySortedBy
  columned-out [] up = refl
  columned-out (p ∷ ps) up = told (columned-out ps up.1) (nat_cmp p.0 doc) refl (ranks p.0 doc)
    where
      told : columned h (take_out (beside_document doc) ps) ≡ remove_entry (is_at (nat_cmp doc)) (columned h ps) → (o : Ordering) → nat_cmp p.0 doc ≡ o
          → MatchOrdering o (p.0 < doc) (p.0 ≡ doc) (doc < p.0) → columned h (take_out (beside_document doc) (p ∷ ps)) ≡ remove_entry (is_at (nat_cmp doc)) (columned h (p ∷ ps))
      told rest Less e rank =
          ap (λ o. columned h (choose o (p ∷ take_out (beside_document doc) ps) ps (p ∷ ps))) e
          ∙ ap (λ es. (p.0, h p.1) ∷ es) rest
          ∙ ap (λ b. cond b (columned h ps) ((p.0, h p.1) ∷ remove_entry (is_at (nat_cmp doc)) (columned h ps))) (sym (cmp_apart doc p.0 (λ same. absurd (omega arith))))
      told rest Equal e rank =
          ap (λ o. columned h (choose o (p ∷ take_out (beside_document doc) ps) ps (p ∷ ps))) e
          ∙ ap (λ o. cond (is_eq o) (columned h ps) ((p.0, h p.1) ∷ remove_entry (is_at (nat_cmp doc)) (columned h ps))) (sym (cmp_same doc p.0 rank))
      told rest Greater e rank =
          ap (λ o. columned h (choose o (p ∷ take_out (beside_document doc) ps) ps (p ∷ ps))) e
          ∙ ap (λ es. (p.0, h p.1) ∷ es) (none_out p.0 ps rank up.0)
          ∙ ap (λ b. cond b (columned h ps) ((p.0, h p.1) ∷ remove_entry (is_at (nat_cmp doc)) (columned h ps))) (sym (cmp_apart doc p.0 (λ same. absurd (omega arith))))

  -- a document found
  pub columned-found : (ps : List (ℕ × ℕ)) → IsStrictlySortedBy nat_cmp (map (λ p. p.0) ps)
      → option_map h (lookup (beside_document doc) ps) ≡ lookup_in (is_at (nat_cmp doc)) (columned h ps)
  unfolding IsStrictlySortedBy
  columned-found [] up = refl
  columned-found (p ∷ ps) up = told (columned-found ps up.1) (nat_cmp p.0 doc) refl (ranks p.0 doc)
    where
      told : option_map h (lookup (beside_document doc) ps) ≡ lookup_in (is_at (nat_cmp doc)) (columned h ps) → (o : Ordering) → nat_cmp p.0 doc ≡ o
          → MatchOrdering o (p.0 < doc) (p.0 ≡ doc) (doc < p.0) → option_map h (lookup (beside_document doc) (p ∷ ps)) ≡ lookup_in (is_at (nat_cmp doc)) (columned h (p ∷ ps))
      told rest Less e rank =
          ap (λ o. option_map h (choose o (lookup (beside_document doc) ps) (Some p.1) None)) e
          ∙ rest
          ∙ ap (λ b. cond b (Some (h p.1)) (lookup_in (is_at (nat_cmp doc)) (columned h ps))) (sym (cmp_apart doc p.0 (λ same. absurd (omega arith))))
      told rest Equal e rank =
          ap (λ o. option_map h (choose o (lookup (beside_document doc) ps) (Some p.1) None)) e
          ∙ ap (λ o. cond (is_eq o) (Some (h p.1)) (lookup_in (is_at (nat_cmp doc)) (columned h ps))) (sym (cmp_same doc p.0 rank))
      told rest Greater e rank =
          ap (λ o. option_map h (choose o (lookup (beside_document doc) ps) (Some p.1) None)) e
          ∙ sym (none_found p.0 ps rank up.0)
          ∙ ap (λ b. cond b (Some (h p.1)) (lookup_in (is_at (nat_cmp doc)) (columned h ps))) (sym (cmp_apart doc p.0 (λ same. absurd (omega arith))))

pub there-mapped : {A B : Type 0} (h : A → B) (o : Option A) → IsSome (option_map h o) → IsSome o
there-mapped h None some = some
there-mapped h (Some a) some = refl

-- what holds of each pair
pub all-columned : {B : Type 0} (P : ℕ × B → Type 0) (h : ℕ → B) (ps : List (ℕ × ℕ)) → AllByRecursion (λ p. P (p.0, h p.1)) ps → AllByRecursion P (columned h ps)
all-columned P h [] all = tt
all-columned P h (p ∷ ps) all = (all.0, all-columned P h ps all.1)

pub all-keys : (P : ℕ → Type 0) (ps : List (ℕ × ℕ)) → AllByRecursion (λ p. P p.0) ps → AllByRecursion P (map (λ p. p.0) ps)
all-keys P [] all = tt
all-keys P (p ∷ ps) all = (all.0, all-keys P ps all.1)
