-- How many records a change makes.
use Rattle.std.proofs.Common.{◌≡◌, ◌≢◌, ℕ, zero, suc, ◌+◌, ◌<◌, ◌≤◌, Bool, true, false, cond, nat_eq, refl, sym, subst, arith}
use Rattle.std.proofs.lemmas.Bool.{eqb-true, eqb-false}
use Rattle.store_api.specs.Ledgers.{Ledger, capacity}
use Rattle.store_api.specs.Units.{MakesAtMost, MayDo, MakesWithin}
use Rattle.store_api.proofs.Counts.{at_most-none, at_most-then, at_most-more}
use Rattle.frozen_btree.specs.Makes.{CountsNodes}
use Rattle.array_store.specs.Adding.{MakesOneOf}
use Rattle.image_format.specs.Words.{class_of}
use Rattle.attr_field.specs.DocumentsChanges.{documents_most}
use Rattle.attr_field.specs.Items.{has_list, items_record}
use Rattle.attr_types.specs.declared.kind.Kind.{Kind}
use Rattle.array_store.proofs.ClassLemmas.{class_no_node}
use Rattle.value_index.proofs.CountLemmas.{within_more, within_none, within_then}
use Rattle.value_index.proofs.WalksCountLemmas.{no_node}

-- as many of one width, and none of another
of_one : {H : Type 0} (old new : Ledger H) (one width most : ℕ) → MakesAtMost (capacity old.work.sizes.words one) most (old.of_width one) (new.of_width one)
    → ((c w : ℕ) → w ≢ one → MakesAtMost c 0 (old.of_width w) (new.of_width w))
    → MakesAtMost (capacity old.work.sizes.words width) (cond (nat_eq width one) most 0) (old.of_width width) (new.of_width width)
of_one old new one width most here others = told (nat_eq width one) refl
  where
    told : (b : Bool) → nat_eq width one ≡ b → MakesAtMost (capacity old.work.sizes.words width) (cond b most 0) (old.of_width width) (new.of_width width)
    told true is = subst (λ w. MakesAtMost (capacity old.work.sizes.words w) most (old.of_width w) (new.of_width w)) (sym (eqb-true width one is)) here
    told false is = others (capacity old.work.sizes.words width) width (eqb-false width one is)

-- nothing made is at most one
pub one-none : {H : Type 0} (ledger : Ledger H) (width : ℕ) → MakesOneOf width ledger ledger
one-none ledger width = record {
  one = at_most-more (capacity ledger.work.sizes.words width) 0 1 (ledger.of_width width) (ledger.of_width width) (omega arith) (at_most-none (capacity ledger.work.sizes.words width) (ledger.of_width width));
  others = λ c w ne. at_most-none c (ledger.of_width w);
}

-- a drop makes nothing more
pub nodes-then : {H : Type 0} (a b c : Ledger H) (most : ℕ) → CountsNodes a b most → ((k w : ℕ) → MakesAtMost k 0 (b.of_width w) (c.of_width w)) → CountsNodes a c most
nodes-then a b c most made none = record {
  nodes = subst (λ k. MakesAtMost (capacity a.work.sizes.words 34) k (a.of_width 34) (c.of_width 34)) (let e : most + 0 ≡ most = omega arith in e)
      (at_most-then (capacity a.work.sizes.words 34) most 0 (a.of_width 34) (b.of_width 34) (c.of_width 34) made.nodes (none (capacity a.work.sizes.words 34) 34));
  others = λ k w ne. at_most-then k 0 0 (a.of_width w) (b.of_width w) (c.of_width w) (made.others k w ne) (none k w);
}

-- the record of so many items, or none
pub items-none : {H : Type 0} (ledger : Ledger H) (kind : Kind) (count : ℕ) → MakesWithin ledger ledger (items_record kind count)
items-none ledger kind count = within_none ledger (items_record kind count)

pub items-one : {H : Type 0} (a b : Ledger H) (kind : Kind) (count : ℕ) → has_list kind ≡ true → 0 < count → MakesOneOf (class_of (1 + count)) a b → MakesWithin a b (items_record kind count)
items-one a b kind zero has some one = absurd (omega arith)
items-one a b kind (suc count) has some one = record {
  each = λ w. subst (λ t. MakesAtMost (capacity a.work.sizes.words w) (cond t (cond (nat_eq w (class_of (1 + suc count))) 1 0) 0) (a.of_width w) (b.of_width w)) (sym has)
      (of_one a b (class_of (1 + suc count)) w 1 one.one one.others);
}

-- that record is no node
one-node : (t : Bool) (k : ℕ) → (k ≡ 34 → ⊥) → cond {A = ℕ} t (cond (nat_eq 34 k) 1 0) 0 ≡ 0
one-node true k none = no_node k none
one-node false k none = refl

items-node : (kind : Kind) (count : ℕ) → items_record kind count 34 ≡ 0
items-node kind zero = refl
items-node kind (suc count) = one-node (has_list kind) (class_of (1 + suc count)) (class_no_node (1 + suc count))

-- it and then nodes
items-nodes : (kind : Kind) (count nodes w : ℕ) → items_record kind count w + cond (nat_eq w 34) nodes 0 ≤ documents_most kind count nodes w
items-nodes kind count nodes w = told (nat_eq w 34) refl
  where
    told : (t : Bool) → nat_eq w 34 ≡ t → items_record kind count w + cond t nodes 0 ≤ cond t nodes (items_record kind count w)
    told true is =
        let none : items_record kind count w ≡ 0 =
        subst (λ x. items_record kind count x ≡ 0) (sym (eqb-true w 34 is)) (items-node kind count) in
        omega (arith, none)
    told false is = omega arith

pub counts-one : {H : Type 0} (a b : Ledger H) (kind : Kind) (count nodes : ℕ) → MakesWithin a b (items_record kind count) → MakesWithin a b (documents_most kind count nodes)
counts-one a b kind count nodes made =
    within_more a b (items_record kind count) (documents_most kind count nodes) (λ w. let few = items-nodes kind count nodes w in omega (arith, few)) made

pub counts-both : {H : Type 0} (a b c : Ledger H) (kind : Kind) (count nodes : ℕ) → MayDo a b → MakesWithin a b (items_record kind count) → CountsNodes b c nodes → MakesWithin a c (documents_most kind count nodes)
counts-both a b c kind count nodes may one made =
    within_more a c (λ w. items_record kind count w + cond (nat_eq w 34) nodes 0) (documents_most kind count nodes) (items-nodes kind count nodes)
    (within_then a b c (items_record kind count) (λ w. cond (nat_eq w 34) nodes 0) may one (record { each = λ w. of_one b c 34 w nodes made.nodes made.others }))
