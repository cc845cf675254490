-- How many records a change of a bit vector makes, and for which width it is refused.
use Rattle.std.proofs.Common.{◌≡◌, ◌≢◌, ℕ, ◌+◌, ◌≤◌, Bool, true, false, cond, nat_eq, Result, Ok, Err, refl, sym, subst, arith}
use Rattle.std.specs.Prelude.{IfErr}
use Rattle.std.proofs.lemmas.Bool.{eqb-true, eqb-false}
use Rattle.store_api.specs.Calls.{Refuses, RefusesOf, IsFull}
use Rattle.store_api.specs.Ledgers.{Ledger, capacity, is_width}
use Rattle.store_api.specs.Units.{MakesAtMost, MayDo, MakesWithin}
use Rattle.store_api.specs.declared.store.StoreError.{StoreError}
use Rattle.store_api.specs.declared.store.StoreError.TheVariants.{Full, Memory}
use Rattle.store_api.proofs.Counts.{at_most-none, at_most-then, at_most-more}
use Rattle.frozen_btree.specs.Makes.{CountsNodes}
use Rattle.bit_vector.specs.Changes.{vector_most}
use Rattle.bit_vector.specs.Fillings.{block_most}

-- nothing
pub within_none : {H : Type 0} (a : Ledger H) (most : ℕ → ℕ) → MakesWithin a a most
within_none a most = record {
  each = λ w. at_most-more (capacity a.work.sizes.words w) 0 (most w) (a.of_width w) (a.of_width w) (omega arith) (at_most-none (capacity a.work.sizes.words w) (a.of_width w));
}

pub within_more : {H : Type 0} (a b : Ledger H) (few most : ℕ → ℕ) → ((w : ℕ) → few w ≤ most w) → MakesWithin a b few → MakesWithin a b most
within_more a b few most le made = record {
  each = λ w. at_most-more (capacity a.work.sizes.words w) (few w) (most w) (a.of_width w) (b.of_width w) (le w) (made.each w);
}

pub within_then : {H : Type 0} (a b c : Ledger H) (first second : ℕ → ℕ) → MayDo a b → MakesWithin a b first → MakesWithin b c second → MakesWithin a c (λ w. first w + second w)
within_then a b c first second may x y = record {
  each = λ w. at_most-then (capacity a.work.sizes.words w) (first w) (second w) (a.of_width w) (b.of_width w) (c.of_width w) (x.each w)
      (subst (λ s. MakesAtMost (capacity s.words w) (second w) (b.of_width w) (c.of_width w)) may.sizes (y.each w));
}

-- blocks alone, or nodes alone
pub within_blocks : {H : Type 0} (a b : Ledger H) (blocks : ℕ) → MakesAtMost (capacity a.work.sizes.words 64) blocks (a.of_width 64) (b.of_width 64)
    → ((c w : ℕ) → w ≢ 64 → MakesAtMost c 0 (a.of_width w) (b.of_width w)) → MakesWithin a b (vector_most blocks 0)
within_blocks a b blocks here others = record { each = λ w. told w (nat_eq w 64) refl }
  where
    none : (t : Bool) → cond {A = ℕ} t 0 0 ≡ 0
    none true = refl
    none false = refl

    told : (w : ℕ) (t : Bool) → nat_eq w 64 ≡ t → MakesAtMost (capacity a.work.sizes.words w) (cond t blocks (cond (nat_eq w 34) 0 0)) (a.of_width w) (b.of_width w)
    told w true is = subst (λ v. MakesAtMost (capacity a.work.sizes.words v) blocks (a.of_width v) (b.of_width v)) (sym (eqb-true w 64 is)) here
    told w false is = subst (λ k. MakesAtMost (capacity a.work.sizes.words w) k (a.of_width w) (b.of_width w)) (sym (none (nat_eq w 34)))
        (others (capacity a.work.sizes.words w) w (eqb-false w 64 is))

pub within_nodes : {H : Type 0} (a b : Ledger H) (nodes : ℕ) → CountsNodes a b nodes → MakesWithin a b (vector_most 0 nodes)
within_nodes a b nodes counts = record { each = λ w. told w (nat_eq w 64) refl (nat_eq w 34) refl }
  where
    told : (w : ℕ) (t : Bool) → nat_eq w 64 ≡ t → (u : Bool) → nat_eq w 34 ≡ u → MakesAtMost (capacity a.work.sizes.words w) (cond t 0 (cond u nodes 0)) (a.of_width w) (b.of_width w)
    told w true is u at = counts.others (capacity a.work.sizes.words w) w (λ same. let e = eqb-true w 64 is in omega (arith, e, same))
    told w false is true at = subst (λ v. MakesAtMost (capacity a.work.sizes.words v) nodes (a.of_width v) (b.of_width v)) (sym (eqb-true w 34 at)) counts.nodes
    told w false is false at = counts.others (capacity a.work.sizes.words w) w (eqb-false w 34 at)

-- more blocks and more nodes
pub most_more : (few blocks least nodes w : ℕ) → few ≤ blocks → least ≤ nodes → vector_most few least w ≤ vector_most blocks nodes w
most_more few blocks least nodes w fewer less =
    elim (nat_eq w 64) as (λ t. cond t few (cond (nat_eq w 34) least 0) ≤ cond t blocks (cond (nat_eq w 34) nodes 0)) [
      | true ↦ fewer
      | false ↦ elim (nat_eq w 34) as (λ u. cond u least 0 ≤ cond u nodes 0) [ true ↦ less | false ↦ omega arith ]
    ]

most_sum : (blocks nodes w : ℕ) → vector_most blocks 0 w + vector_most 0 nodes w ≤ vector_most blocks nodes w
most_sum blocks nodes w =
    elim (nat_eq w 64) as (λ t. cond t blocks (cond (nat_eq w 34) 0 0) + cond t 0 (cond (nat_eq w 34) nodes 0) ≤ cond t blocks (cond (nat_eq w 34) nodes 0)) [
      | true ↦ omega arith
      | false ↦ elim (nat_eq w 34) as (λ u. cond u 0 0 + cond u nodes 0 ≤ cond u nodes 0) [ true ↦ omega arith | false ↦ omega arith ]
    ]

-- blocks first, and then nodes
pub within_both : {H : Type 0} (a b c : Ledger H) (blocks nodes : ℕ) → MayDo a b → MakesWithin a b (vector_most blocks 0) → CountsNodes b c nodes
    → MakesWithin a c (vector_most blocks nodes)
within_both a b c blocks nodes may made counts =
    within_more a c (λ w. vector_most blocks 0 w + vector_most 0 nodes w) (vector_most blocks nodes) (most_sum blocks nodes)
    (within_then a b c (vector_most blocks 0) (vector_most 0 nodes) may made (within_nodes b c nodes counts))

pub within_wider : {H : Type 0} (a b : Ledger H) (few blocks least nodes : ℕ) → few ≤ blocks → least ≤ nodes → MakesWithin a b (vector_most few least) → MakesWithin a b (vector_most blocks nodes)
within_wider a b few blocks least nodes fewer less made = within_more a b (vector_most few least) (vector_most blocks nodes) (λ w. most_more few blocks least nodes w fewer less) made

-- a drop makes nothing more
pub nodes_then : {H : Type 0} (a b c : Ledger H) (most : ℕ) → CountsNodes a b most → ((k w : ℕ) → MakesAtMost k 0 (b.of_width w) (c.of_width w)) → CountsNodes a c most
nodes_then a b c most made none = record {
  nodes = subst (λ k. MakesAtMost (capacity a.work.sizes.words 34) k (a.of_width 34) (c.of_width 34)) (let e : most + 0 ≡ most = omega arith in e)
      (at_most-then (capacity a.work.sizes.words 34) most 0 (a.of_width 34) (b.of_width 34) (c.of_width 34) made.nodes (none (capacity a.work.sizes.words 34) 34));
  others = λ k w ne. at_most-then k 0 0 (a.of_width w) (b.of_width w) (c.of_width w) (made.others k w ne) (none k w);
}

pub nodes_more : {H : Type 0} (a b : Ledger H) (few most : ℕ) → few ≤ most → CountsNodes a b few → CountsNodes a b most
nodes_more a b few most le counts = record {
  nodes = at_most-more (capacity a.work.sizes.words 34) few most (a.of_width 34) (b.of_width 34) le counts.nodes;
  others = counts.others;
}

-- a refusal of one call of a unit
pub of_one : {H : Type 0} (among : ℕ → Type 0) (a b c : Ledger H) (width : ℕ) (e : StoreError) → MayDo a b → is_width width ≡ true → among width → Refuses b c width e
    → RefusesOf among a c e
of_one among a b c width (Full w active held oldest) may is one refuses = record {
  one = subst among (sym refuses.0) one;
  is = subst (λ v. is_width v ≡ true) (sym refuses.0) is;
  full = let full = subst (λ v. IsFull b c v active held oldest) (sym refuses.0) refuses.1 in record {
    spare = full.spare;
    made = full.made;
    free = full.free;
    active_is = full.active_is;
    held_is = full.held_is;
    all = full.all;
    unread = full.unread;
    generation = full.generation;
    hold = full.hold;
    newest = full.newest;
    stopped = λ old. let s = full.stopped old in let rises = may.stops in (s.0, s.1, omega arith);
    found = full.found;
  };
}
of_one among a b c width Memory may is one refuses = tt

pub if_one : {A H : Type 0} (among : ℕ → Type 0) (a b c : Ledger H) (width : ℕ) (answer : Result A StoreError) → MayDo a b → is_width width ≡ true → among width
    → IfErr answer (Refuses b c width) → IfErr answer (RefusesOf among a c)
if_one among a b c width (Ok x) may is one refuses = tt
if_one among a b c width (Err e) may is one refuses = of_one among a b c width e may is one refuses

-- one block, or none
one_block : (w : ℕ) → vector_most 1 0 w ≤ block_most true w
one_block w = elim (nat_eq w 64) as (λ t. cond t 1 (cond (nat_eq w 34) 0 0) ≤ cond t 1 0) [
  | true ↦ omega arith
  | false ↦ elim (nat_eq w 34) as (λ u. cond {A = ℕ} u 0 0 ≤ 0) [ true ↦ omega arith | false ↦ omega arith ]
]

pub within_one : {H : Type 0} (a b : Ledger H) (t : Bool) → t ≡ true → MakesAtMost (capacity a.work.sizes.words 64) 1 (a.of_width 64) (b.of_width 64)
    → ((c w : ℕ) → w ≢ 64 → MakesAtMost c 0 (a.of_width w) (b.of_width w)) → MakesWithin a b (block_most t)
within_one a b t is here others = subst (λ u. MakesWithin a b (block_most u)) (sym is) (within_more a b (vector_most 1 0) (block_most true) one_block (within_blocks a b 1 here others))

sum_one : (n most w : ℕ) (t : Bool) → n + cond t 1 0 ≤ most → vector_most n 0 w + block_most t w ≤ vector_most most 0 w
sum_one n most w true le = elim (nat_eq w 64) as (λ u. cond u n (cond (nat_eq w 34) 0 0) + cond u 1 0 ≤ cond u most (cond (nat_eq w 34) 0 0)) [ true ↦ omega (arith, le) | false ↦ omega arith ]
sum_one n most w false le = elim (nat_eq w 64) as (λ u. cond u n (cond (nat_eq w 34) 0 0) + 0 ≤ cond u most (cond (nat_eq w 34) 0 0)) [ true ↦ omega (arith, le) | false ↦ omega arith ]

pub within_more_blocks : {H : Type 0} (a b c : Ledger H) (n most : ℕ) (t : Bool) → n + cond t 1 0 ≤ most → MayDo a b → MakesWithin a b (vector_most n 0) → MakesWithin b c (block_most t)
    → MakesWithin a c (vector_most most 0)
within_more_blocks a b c n most t le may first second =
    within_more a c (λ w. vector_most n 0 w + block_most t w) (vector_most most 0) (λ w. sum_one n most w t le) (within_then a b c (vector_most n 0) (block_most t) may first second)

pub counts_none : {H : Type 0} (a : Ledger H) (most : ℕ) → CountsNodes a a most
counts_none a most = record {
  nodes = at_most-more (capacity a.work.sizes.words 34) 0 most (a.of_width 34) (a.of_width 34) (omega arith) (at_most-none (capacity a.work.sizes.words 34) (a.of_width 34));
  others = λ k w ne. at_most-none k (a.of_width w);
}
