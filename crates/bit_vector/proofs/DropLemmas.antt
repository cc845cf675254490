-- A bit vector dropped, and the tree of its documents.
use Rattle.std.proofs.Common.{◌≡◌, ℕ, zero, suc, ◌+◌, ◌/◌, ◌<◌, ◌≤◌, List, [], ◌∷◌, ◌++◌, map, length, length-append, drop, replicate, Bool, true, false, Result, Ok, Err, refl, sym, ap, subst, ◌∙◌, arith}
use Rattle.std.specs.Prelude.{IfOk}
use Rattle.std.proofs.lemmas.List.{length-replicate}
use Rattle.std.specs.List.{zip, AllByRecursion}
use Rattle.std.specs.List.Sorted.{IsStrictlySortedBy}
use Rattle.std.specs.Ordering.{nat_cmp}
use Rattle.std.specs.declared.cmp.Ordering.TheVariants.{Less}
use Rattle.list_lemmas.proofs.Each.{AllByRecursion-left, AllByRecursion-right}
use Rattle.entry_ref.specs.Records.{Records}
use Rattle.store_api.specs.Ledgers.{Ledger}
use Rattle.store_api.specs.Parts.{Part, After, Owns, Turns, count_in, entries, times}
use Rattle.store_api.specs.declared.store.StoreError.{StoreError}
use Rattle.store_api.proofs.PartLemmas.{after, owns-some, turns-as, turns-then}
use Rattle.store_api.proofs.Times.{times-append}
use Rattle.tree_read.specs.SearchPlaces.{first_key, first_value}
use Rattle.tree_read.specs.Trees.{tree_nodes, tree_pairs}
use Rattle.frozen_btree.specs.Changes.{tree}
use Rattle.attr_types.specs.Lawful.{IsDocNumber}
use Rattle.image_format.specs.Postings.{block_documents, IsBlock}
use Rattle.bit_vector.specs.Changes.{vector_part, MakesTree}
use Rattle.bit_vector.specs.Vectors.{blocks_documents}
use Rattle.index_model.proofs.BoundLemmas.{documents_few}
use Rattle.index_model.specs.Sets.{IsAscending}
use Rattle.bit_vector.proofs.DocumentLemmas.{sorted}
use Rattle.bit_vector.proofs.TurnLemmas.{IsNumberTree}
use Rattle.bit_vector.proofs.VectorLemmas.{less_is, own_block}

-- a vector has at most 256 blocks
first_small : (k : ℕ) (ds : List ℕ) → 0 < length ds → AllByRecursion (λ d. d / 4096 ≡ k) ds → AllByRecursion IsDocNumber ds → k ≤ 255
first_small k [] some own all = absurd (omega (arith, some))
first_small k (d ∷ ds) some own all = let at : d / 4096 ≡ k = own.0 in let last : d ≤ 1048575 = all.0.1 in omega (arith, at, last)

pub blocks_small : (m : Records) (ps : List (ℕ × ℕ)) → AllByRecursion (λ p. IsBlock p.0 (m p.1)) ps → AllByRecursion IsDocNumber (blocks_documents m ps) → AllByRecursion (λ p. p.0 ≤ 255) ps
blocks_small m [] all numbers = tt
blocks_small m (p ∷ ps) all numbers = (
  first_small p.0 (block_documents p.0 (m p.1)) all.0.some (own_block p.0 (m p.1)) (AllByRecursion-left IsDocNumber (block_documents p.0 (m p.1)) (blocks_documents m ps) numbers),
  blocks_small m ps all.1 (AllByRecursion-right IsDocNumber (block_documents p.0 (m p.1)) (blocks_documents m ps) numbers),
)

few_from : (a : ℕ) (ps : List (ℕ × ℕ)) → IsStrictlySortedBy nat_cmp (map (λ p. p.0) ps) → AllByRecursion (λ p. p.0 ≤ 255) ps → AllByRecursion (λ p. a ≤ p.0) ps → a ≤ 256 → a + length ps ≤ 256
unfolding IsStrictlySortedBy
few_from a [] up small low within = omega (arith, within)
few_from a (p ∷ ps) up small low within =
    let here : a ≤ p.0 = low.0 in
    let last : p.0 ≤ 255 = small.0 in
    let rest = few_from (suc p.0) ps up.1 small.1 (rises ps up.0) (omega (arith, last)) in
    omega (arith, here, rest)
  where
    rises : (qs : List (ℕ × ℕ)) → AllByRecursion (λ x. nat_cmp p.0 x ≡ Less) (map (λ q. q.0) qs) → AllByRecursion (λ q. suc p.0 ≤ q.0) qs
    rises [] all = tt
    rises (q ∷ qs) all = (let up = less_is p.0 q.0 all.0 in omega (arith, up), rises qs all.1)

pub blocks_few : (ps : List (ℕ × ℕ)) → IsStrictlySortedBy nat_cmp (map (λ p. p.0) ps) → AllByRecursion (λ p. p.0 ≤ 255) ps → length ps ≤ 256
blocks_few ps up small = let few = few_from 0 ps up small (least ps) (omega arith) in omega (arith, few)
  where
    least : (qs : List (ℕ × ℕ)) → AllByRecursion (λ q. 0 ≤ q.0) qs
    least [] = tt
    least (q ∷ qs) = (omega arith, least qs)

-- the nodes are dropped, and then the blocks
module _ {H : Type 0} (a b c : Ledger H) (m n o : Records) (root : ℕ) (refs : List ℕ) (was : refs ≡ map (λ p. p.1) (tree_pairs m root)) (owns : Owns a m (vector_part root ∷ [])) where
  abbrev both : List Part
  both = tree root ∷ entries refs ∷ []

  count_both : (r : ℕ) → count_in r m both ≡ count_in r m (vector_part root ∷ [])
  count_both r =
      let whole = times-append r (tree_nodes m root) (map (λ p. p.1) (tree_pairs m root)) in
      let same = ap (times r) was in
      omega arith

  owns_both : Owns a m both
  owns_both = owns-some a m (vector_part root ∷ []) both owns (λ r. let e = count_both r in omega arith)

  pub drop_owns_tree : Owns a m (tree root ∷ [])
  drop_owns_tree = owns-some a m both (tree root ∷ []) owns_both (λ r. omega arith)

  module _ (first : Turns a b m n (tree root ∷ []) []) where
    nodes_gone : After a b m n both (entries refs ∷ []) (entries refs ∷ [])
    nodes_gone = after a b m n (tree root ∷ []) [] (entries refs ∷ []) both (entries refs ∷ []) owns_both first (λ h r. omega arith) (λ h r. omega arith)

    pub drop_owns_blocks : Owns b n (entries refs ∷ [])
    drop_owns_blocks = nodes_gone.owns

    pub drops_vector : Turns b c n o (entries refs ∷ []) [] → Turns a c m o (vector_part root ∷ []) []
    drops_vector second = turns-as a c m o both [] (vector_part root ∷ []) []
        (turns-then a b c m n o both (entries refs ∷ []) [] nodes_gone.turns second)
        (λ r. sym (count_both r)) (λ r. refl)

-- documents with the value 1
abbrev pub units : ℕ → List ℕ
units n = replicate n 1

pub ones_zip : (n : ℕ) (docs : List ℕ) → n ≡ length docs → zip docs (units n) ≡ map (λ (doc : ℕ). (doc, 1)) docs
ones_zip zero [] same = refl
ones_zip zero (d ∷ ds) same = absurd (omega (arith, same))
ones_zip (suc n) [] same = absurd (omega (arith, same))
ones_zip (suc n) (d ∷ ds) same = ap (λ (ps : List (ℕ × ℕ)). (d, 1) ∷ ps) (ones_zip n ds (omega (arith, same)))

pub ones_sorted : (docs : List ℕ) → IsStrictlySortedBy nat_cmp docs → IsStrictlySortedBy nat_cmp (map (λ (p : ℕ × ℕ). p.0) (map (λ (doc : ℕ). (doc, 1)) docs))
ones_sorted docs up = subst (IsStrictlySortedBy nat_cmp) (sym (back docs)) up
  where
    back : (ds : List ℕ) → map (λ (p : ℕ × ℕ). p.0) (map (λ (doc : ℕ). (doc, 1)) ds) ≡ ds
    back [] = refl
    back (d ∷ ds) = ap (λ ks. d ∷ ks) (back ds)

-- slices of documents and of ones
module _ (docs ones xs ys : List ℕ) (n : ℕ) (are : xs ≡ docs) (values : ys ≡ ones) (all : ones ≡ units n) (size : n ≡ length docs) where
  pub ones_pairs : zip xs ys ≡ map (λ (doc : ℕ). (doc, 1)) docs
  ones_pairs = ap (λ (ks : List ℕ). zip ks ys) are ∙ ap (zip docs) (values ∙ all) ∙ ones_zip n docs size

  pub ones_even : length xs ≡ length ys
  ones_even = ap length are ∙ sym size ∙ sym (length-replicate n 1) ∙ sym (ap length (values ∙ all))

  pub ones_ascend : IsStrictlySortedBy nat_cmp docs → IsStrictlySortedBy nat_cmp (map (λ (p : ℕ × ℕ). p.0) (zip xs ys))
  ones_ascend up = subst (λ (ps : List (ℕ × ℕ)). IsStrictlySortedBy nat_cmp (map (λ (p : ℕ × ℕ). p.0) ps)) (sym ones_pairs) (ones_sorted docs up)

-- a walk over the pairs
pub walked : (done next : List ℕ) (rest left : List (ℕ × ℕ)) (whole : List ℕ) (value : ℕ) → (rest ≡ [] → ⊥) → value ≡ first_value rest → left ≡ drop 1 rest → next ≡ done ++ value ∷ []
    → done ++ map (λ p. p.1) rest ≡ whole → next ++ map (λ p. p.1) left ≡ whole
walked done next [] left whole value some first is new was = absurd (some refl)
walked done next (p ∷ ps) left whole value some first is new was =
    ap (λ (xs : List ℕ). xs ++ map (λ p. p.1) left) new ∙ ap (λ (qs : List (ℕ × ℕ)). (done ++ value ∷ []) ++ map (λ p. p.1) qs) is
    ∙ joins done ∙ ap (λ (v : ℕ). done ++ (v ∷ map (λ p. p.1) ps)) first ∙ was
  where
    joins : (xs : List ℕ) → (xs ++ value ∷ []) ++ map (λ p. p.1) ps ≡ xs ++ (value ∷ map (λ p. p.1) ps)
    joins [] = refl
    joins (x ∷ xs) = ap (λ ys. x ∷ ys) (joins xs)

-- what is not at an end is not empty
pub not_end : {A : Type 0} (xs : List A) (b : Bool) → (xs ≡ [] → b ≡ true) → b ≡ false → xs ≡ [] → ⊥
not_end xs b tells is none = let lost : true ≡ false = sym (tells none) ∙ is in absurd (grind (arith, lost))

-- the first of the pairs that are left
pub first_all : (P : ℕ × ℕ → Type 0) (ps : List (ℕ × ℕ)) → (ps ≡ [] → ⊥) → AllByRecursion P ps → P (first_key ps, first_value ps)
first_all P [] some all = absurd (some refl)
first_all P (p ∷ ps) some all = all.0

pub rest_all : (P : ℕ × ℕ → Type 0) (ps : List (ℕ × ℕ)) → AllByRecursion P ps → AllByRecursion P (drop 1 ps)
rest_all P [] all = tt
rest_all P (p ∷ ps) all = all.1

pub shorter : (ps qs : List (ℕ × ℕ)) → (ps ≡ [] → ⊥) → qs ≡ drop 1 ps → length qs < length ps
shorter [] qs some is = absurd (some refl)
shorter (p ∷ ps) qs some is = let e = ap length is in omega (arith, e)

pub fewer : (items next : List ℕ) (value : ℕ) (ps qs : List (ℕ × ℕ)) → (ps ≡ [] → ⊥) → qs ≡ drop 1 ps → next ≡ items ++ value ∷ [] → length items + length ps ≤ 256 → length next + length qs ≤ 256
fewer items next value [] qs some is new few = absurd (some refl)
fewer items next value (p ∷ ps) qs some is new few =
    let e = ap length is in
    let f = ap length new in
    let g = length-append items (value ∷ []) in
    omega (arith, e, f, g, few)

-- the documents of the first block, and of the others
pub first_count : (m : Records) (ps qs : List (ℕ × ℕ)) (count total value n : ℕ) → (ps ≡ [] → ⊥) → qs ≡ drop 1 ps → value ≡ first_value ps → ((k : ℕ) → n ≡ length (block_documents k (m value)))
    → count + length (blocks_documents m ps) ≡ total → count + n + length (blocks_documents m qs) ≡ total
first_count m [] qs count total value n some is first size whole = absurd (some refl)
first_count m (p ∷ ps) qs count total value n some is first size whole =
    let own = size p.0 ∙ ap (λ (r : ℕ). length (block_documents p.0 (m r))) first in
    let both = length-append (block_documents p.0 (m p.1)) (blocks_documents m ps) in
    let rest = ap (λ (xs : List (ℕ × ℕ)). length (blocks_documents m xs)) is in
    omega (arith, own, both, rest, whole)

pub count_few : (docs : List ℕ) → IsAscending docs → AllByRecursion IsDocNumber docs → length docs ≤ 1048575
count_few docs up all = documents_few docs (sorted docs up) all

-- the tree of documents, where a call went on unchanged
pub makes_tree_if : {H : Type 0} (a b : Ledger H) (m n : Records) (pairs : List (ℕ × ℕ)) (answer : Result ℕ StoreError) → IfOk answer (IsNumberTree n) → IfOk answer (λ r. tree_pairs n r ≡ pairs)
    → IfOk answer (λ r. Owns b n (tree r ∷ [])) → IfOk answer (λ r. Turns a b m n [] (tree r ∷ [])) → IfOk answer (MakesTree a b m n pairs)
makes_tree_if a b m n pairs (Ok next) keyed are owns turns = record { tree_is = keyed.tree; pairs_are = are; owns = owns; turns = turns }
makes_tree_if a b m n pairs (Err e) keyed are owns turns = tt

pub not_none : {A : Type 0} (xs : List A) → 0 < length xs → xs ≡ [] → ⊥
not_none xs some none = let e = ap length none in omega (arith, some, e)
