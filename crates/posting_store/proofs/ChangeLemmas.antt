-- A list made in place of another.
use Rattle.std.proofs.Common.{◌≡◌, ◌≢◌, ℕ, ℤ, ◌+◌, ◌*◌, ◌<◌, ◌≤◌, Bool, true, false, cond, nat_eq, nat_le, List, [], ◌∷◌, map, length, refl, sym, ap, subst, ◌∙◌, arith}
use Rattle.std.proofs.lemmas.Bool.{le-leb, eqb-true, eqb-false}
use Rattle.std.specs.List.{AllByRecursion}
use Rattle.std.specs.List.Sorted.{IsStrictlySortedBy}
use Rattle.std.specs.Map.{keys_of}
use Rattle.std.specs.Ordering.{nat_cmp}
use Rattle.list_lemmas.proofs.Tests.{too_many}
use Rattle.array_store.specs.Adding.{AddsRecord, MakesOneOf}
use Rattle.image_format.specs.Postings.{tree, list_form, IsPostingList}
use Rattle.image_format.specs.Words.{class_of, filled, stored_items, unpacked, IsStoredList}
use Rattle.attr_types.specs.Lawful.{IsDocNumber}
use Rattle.entry_ref.specs.Records.{Records, Among}
use Rattle.store_api.specs.Ledgers.{Ledger, capacity}
use Rattle.store_api.specs.Parts.{Part, count_in, times, entry, Owns, Turns, AllStay}
use Rattle.store_api.specs.Statuses.{in_use}
use Rattle.store_api.specs.Units.{MakesAtMost, MayDo, MakesWithin}
use Rattle.store_api.proofs.Flows.{flow_part}
use Rattle.store_api.proofs.Counts.{at_most-none, at_most-then, at_most-more}
use Rattle.store_api.proofs.PartLemmas.{after, turns-as, turns-then, owns-some}
use Rattle.tree_read.specs.Trees.{tree_pairs, by_number, IsTree}
use Rattle.frozen_btree.specs.Changes.{tree as tree_part}
use Rattle.frozen_btree.specs.Makes.{CountsNodes}
use Rattle.posting_store.specs.Lists.{list_at, IsList, IsPlain, AreDocuments}
use Rattle.posting_store.specs.ProofsForLists.{IsList-same, list_at-same}
use Rattle.posting_store.specs.Changes.{list_part, list_most, IsListWidth, MakesList}
use Rattle.posting_store.proofs.FlowLemmas.{flows_fresh, flows_plain}
use Rattle.posting_store.proofs.FormLemmas.{form_short, form_tree, no_vector, short_at, short_reach, tree_at, tree_reach}
use Rattle.posting_store.proofs.PairLemmas.{weighed, weighed-length}

nothing_ascends : IsStrictlySortedBy nat_cmp []
unfolding IsStrictlySortedBy
nothing_ascends = tt

-- a list in a form that reads as documents
pub is_list : (n : Records) (word : ℕ) (docs : List (ℕ × ℤ)) → (0 < word → IsPostingList n (list_form word)) → list_at n word ≡ docs → AreDocuments docs → IsList n word
is_list n word docs form is are = record {
  form = form;
  ascends = subst (λ (es : List (ℕ × ℤ)). IsStrictlySortedBy nat_cmp (keys_of es)) (sym is) are.ascends;
  numbers = subst (λ (es : List (ℕ × ℤ)). AllByRecursion IsDocNumber (keys_of es)) (sym is) are.numbers;
}

module _ {H : Type 0} (old new : Ledger H) (m n : Records) where
  -- nothing is made of no documents
  pub makes_nothing : (next : ℕ) (items : List ℕ) → next ≡ 0 → old ≡ new → length items ≡ 0 → Turns old new m n [] [] → MakesList old new m n 0 (map unpacked items) false next
  makes_nothing next [] is same none turns = subst (MakesList old new m n 0 [] false) (sym is) (
      record {
        list_is = is_list n 0 [] (λ some. absurd (omega arith)) refl (record { ascends = nothing_ascends; numbers = tt });
        form = refl;
        docs_are = refl;
        flows = flows_plain (λ r. in_use (old.back r) ≡ true) m n 0 0 (omega arith) (omega arith);
        owns = record { each = λ r. omega arith };
        turns = turns-as old new m n [] [] (list_part 0 ∷ []) (list_part 0 ∷ []) turns (λ r. refl) (λ r. refl);
      }
      )
  makes_nothing next (x ∷ items) is same none turns = absurd (omega arith)

  -- the record of a short list
  pub makes_short : (bits next ref : ℕ) (items : List ℕ) → next ≡ 2 * ref → IsPlain next → 0 < length items → length items ≤ 8 → AreDocuments (map unpacked items)
      → stored_items (n ref) ≡ items → AddsRecord bits old new m n (length items ∷ items) ref → MakesList old new m n 0 (map unpacked items) false next
  makes_short bits next ref items is plain some few are reads adds =
      let form = form_short next ref plain is in
      let docs = short_at n next ref plain is adds.some ∙ ap (map unpacked) reads in
      let reach = short_reach n next ref plain is adds.some in
      let stored : IsStoredList 8 (n ref) = record {
        some = let size = ap length reads in omega arith;
        few = let size = ap length reads in omega arith;
        words = adds.words_are ∙ ap (λ xs. filled (length xs ∷ xs)) (sym reads);
      } in
      let turns = adds.turns in
      let counted : (r : ℕ) → count_in r n (list_part next ∷ []) ≡ count_in r n (entry ref ∷ []) = λ r. ap (λ rs. times r rs + 0) reach in
      record {
        list_is = is_list n next (map unpacked items) (λ more. subst (IsPostingList n) (sym form) stored) docs are;
        form = no_vector next plain;
        docs_are = docs;
        flows = flows_plain (λ r. in_use (old.back r) ≡ true) m n 0 next (omega arith) plain;
        owns = record { each = λ r. let b = turns.balance r in let e = counted r in omega arith };
        turns = turns-as old new m n [] (entry ref ∷ []) (list_part 0 ∷ []) (list_part next ∷ []) turns (λ r. refl) counted;
      }

  -- a tree in place of other parts
  pub makes_tree : (word next root : ℕ) (docs : List (ℕ × ℤ)) (parts : List Part) → next ≡ 2 * root + 1 → IsPlain next → IsPlain word
      → IsTree nat_cmp by_number n root → AllByRecursion (λ p. p.1 < 4294967296) (tree_pairs n root) → 8 < length docs → weighed (tree_pairs n root) ≡ docs → AreDocuments docs
      → Owns new n (tree_part root ∷ []) → Turns old new m n parts (tree_part root ∷ []) → ((r : ℕ) → count_in r m (list_part word ∷ []) ≡ count_in r m parts)
      → MakesList old new m n word docs false next
  makes_tree word next root docs parts is plain was_plain tree_is small many reads are owns turns before =
      let form = form_tree next root plain is in
      let at = tree_at n next root plain is ∙ reads in
      let reach = tree_reach n next root plain is in
      let size = weighed-length (tree_pairs n root) in
      let same = ap length reads in
      let posting : IsPostingList n (tree root) = (tree_is, omega arith, small) in
      let counted : (r : ℕ) → count_in r n (list_part next ∷ []) ≡ count_in r n (tree_part root ∷ []) = λ r. ap (λ rs. times r rs + 0) reach in
      record {
        list_is = is_list n next docs (λ more. subst (IsPostingList n) (sym form) posting) at are;
        form = no_vector next plain;
        docs_are = at;
        flows = flows_plain (λ r. in_use (old.back r) ≡ true) m n word next was_plain plain;
        owns = record { each = λ r. let o = owns.each r in let e = counted r in omega arith };
        turns = turns-as old new m n parts (tree_part root ∷ []) (list_part word ∷ []) (list_part next ∷ []) turns before counted;
      }

-- a new list, then the old one dropped
module _ {H : Type 0} (a b c : Ledger H) (m n o : Records) (word next : ℕ) (docs : List (ℕ × ℤ)) {dense : Bool} (owns : Owns a m (list_part word ∷ [])) (makes : MakesList a b m n 0 docs dense next) where
  made : Turns a b m n (list_part 0 ∷ []) (list_part next ∷ [])
  made = makes.turns

  first_stay : AllStay (list_part word ∷ []) m n
  first_stay = (after a b m n (list_part 0 ∷ []) (list_part next ∷ []) (list_part word ∷ []) (list_part word ∷ []) (list_part next ∷ list_part word ∷ []) owns made (λ k r. omega arith) (λ k r. omega arith)).stay

  pub old_stays : IsList m word → IsList n word
  old_stays list = IsList-same m n word first_stay.0 list

  first_owns : Owns b n (list_part next ∷ list_part word ∷ [])
  first_owns = (after a b m n (list_part 0 ∷ []) (list_part next ∷ []) (list_part word ∷ []) (list_part word ∷ []) (list_part next ∷ list_part word ∷ []) owns made (λ k r. omega arith) (λ k r. omega arith)).owns

  pub old_owned : Owns b n (list_part word ∷ [])
  old_owned = owns-some b n (list_part next ∷ list_part word ∷ []) (list_part word ∷ []) first_owns (λ r. omega arith)

  pub replaces : MayDo a b → Turns b c n o (list_part word ∷ []) [] → MakesList a c m o word docs dense next
  replaces may dropped =
      let first = after a b m n (list_part 0 ∷ []) (list_part next ∷ []) (list_part word ∷ []) (list_part word ∷ []) (list_part next ∷ list_part word ∷ []) owns made (λ k r. omega arith) (λ k r. omega arith) in
      let second = after b c n o (list_part word ∷ []) [] (list_part next ∷ []) (list_part next ∷ list_part word ∷ []) (list_part next ∷ []) first.owns dropped (λ k r. omega arith) (λ k r. omega arith) in
      record {
        list_is = IsList-same n o next second.stay.0 makes.list_is;
        form = makes.form;
        docs_are = list_at-same n o next second.stay.0 ∙ makes.docs_are;
        flows = flows_fresh (λ r. in_use (a.back r) ≡ true) m o word next (λ r old among.
            absurd (flow_part a b m n (list_part 0) (list_part next) may made r old (subst (λ (rs : List ℕ). Among r rs) ((list_part next).stays n o second.stay.0) among)));
        owns = second.owns;
        turns = turns-then a b c m n o (list_part word ∷ []) (list_part next ∷ list_part word ∷ []) (list_part next ∷ []) first.turns second.turns;
      }

-- counts
pub short_most : (levels count width : ℕ) → count ≤ 8 → list_most levels count width ≡ cond (nat_eq width (class_of (1 + count))) 1 0
short_most levels count width few = ap (λ b. cond b (cond (nat_eq width (class_of (1 + count))) 1 0) (cond (nat_eq width 34) (2 * levels + 1) 0)) (le-leb count 8 few)

pub tree_most : (levels count width : ℕ) → 8 < count → list_most levels count width ≡ cond (nat_eq width 34) (2 * levels + 1) 0
tree_most levels count width many = ap (λ b. cond b (cond (nat_eq width (class_of (1 + count))) 1 0) (cond (nat_eq width 34) (2 * levels + 1) 0)) (too_many count 8 many)

module _ {H : Type 0} (old new : Ledger H) where
  made_at : ℕ → ℕ → Type 0
  made_at width most = MakesAtMost (capacity old.work.sizes.words width) most (old.of_width width) (new.of_width width)

  -- as many of one width, and none of another
  of_one : (one width most : ℕ) → MakesAtMost (capacity old.work.sizes.words one) most (old.of_width one) (new.of_width one)
      → ((c w : ℕ) → w ≢ one → MakesAtMost c 0 (old.of_width w) (new.of_width w))
      → MakesAtMost (capacity old.work.sizes.words width) (cond (nat_eq width one) most 0) (old.of_width width) (new.of_width width)
  of_one one width most here others = told (nat_eq width one) refl
    where
      told : (b : Bool) → nat_eq width one ≡ b → MakesAtMost (capacity old.work.sizes.words width) (cond b most 0) (old.of_width width) (new.of_width width)
      told true is = subst (λ w. MakesAtMost (capacity old.work.sizes.words w) most (old.of_width w) (new.of_width w)) (sym (eqb-true width one is)) here
      told false is = others (capacity old.work.sizes.words width) width (eqb-false width one is)

  pub counts_short : (count : ℕ) → count ≤ 8 → MakesOneOf (class_of (1 + count)) old new → MakesWithin old new (list_most 0 count)
  counts_short count few one = record {
    each = λ width. subst (λ most. MakesAtMost (capacity old.work.sizes.words width) most (old.of_width width) (new.of_width width)) (sym (short_most 0 count width few))
        (of_one (class_of (1 + count)) width 1 one.one one.others);
  }

  pub counts_tree : (levels count nodes : ℕ) → 8 < count → nodes ≤ 2 * levels + 1 → CountsNodes old new nodes → MakesWithin old new (list_most levels count)
  counts_tree levels count nodes many few made = record {
    each = λ width. subst (λ most. MakesAtMost (capacity old.work.sizes.words width) most (old.of_width width) (new.of_width width)) (sym (tree_most levels count width many))
        (of_one 34 width (2 * levels + 1) (at_most-more (capacity old.work.sizes.words 34) nodes (2 * levels + 1) (old.of_width 34) (new.of_width 34) few made.nodes) made.others);
  }

  -- of more levels no fewer
  pub counts_more : (levels count : ℕ) → MakesWithin old new (list_most 0 count) → MakesWithin old new (list_most levels count)
  counts_more levels count made = record {
    each = λ width. at_most-more (capacity old.work.sizes.words width) (list_most 0 count width) (list_most levels count width) (old.of_width width) (new.of_width width) (more width) (made.each width);
  }
    where
      more : (width : ℕ) → list_most 0 count width ≤ list_most levels count width
      more width =
          elim (nat_le count 8) as (λ b. cond b (cond (nat_eq width (class_of (1 + count))) 1 0) (cond (nat_eq width 34) (2 * 0 + 1) 0)
          ≤ cond b (cond (nat_eq width (class_of (1 + count))) 1 0) (cond (nat_eq width 34) (2 * levels + 1) 0)) [
            | true ↦ omega arith
            | false ↦ elim (nat_eq width 34) as (λ b. cond b (2 * 0 + 1) 0 ≤ cond b (2 * levels + 1) 0) [
              | true ↦ omega arith
              | false ↦ omega arith
            ]
          ]

  -- a drop makes nothing more
  pub counts_then : (end : Ledger H) (most : ℕ → ℕ) → MakesWithin old new most → ((c w : ℕ) → MakesAtMost c 0 (new.of_width w) (end.of_width w)) → MakesWithin old end most
  counts_then end most made none = record {
    each = λ width. subst (λ k. MakesAtMost (capacity old.work.sizes.words width) k (old.of_width width) (end.of_width width)) (let e : most width + 0 ≡ most width = omega arith in e)
        (at_most-then (capacity old.work.sizes.words width) (most width) 0 (old.of_width width) (new.of_width width) (end.of_width width) (made.each width) (none (capacity old.work.sizes.words width) width));
  }

-- a larger bound, and two changes in a row
pub counts_weaker : {H : Type 0} (a b : Ledger H) (f g : ℕ → ℕ) → ((w : ℕ) → f w ≤ g w) → MakesWithin a b f → MakesWithin a b g
counts_weaker a b f g more made = record {
  each = λ w. at_most-more (capacity a.work.sizes.words w) (f w) (g w) (a.of_width w) (b.of_width w) (more w) (made.each w);
}

pub counts_both : {H : Type 0} (a b c : Ledger H) (f g : ℕ → ℕ) → MayDo a b → MakesWithin a b f → MakesWithin b c g → MakesWithin a c (λ w. f w + g w)
counts_both a b c f g may first second = record {
  each = λ w. at_most-then (capacity a.work.sizes.words w) (f w) (g w) (a.of_width w) (b.of_width w) (c.of_width w) (first.each w)
      (subst (λ sizes. MakesAtMost (capacity sizes.words w) (g w) (b.of_width w) (c.of_width w)) may.sizes (second.each w));
}

pub counts_none : {H : Type 0} (ledger : Ledger H) (most : ℕ → ℕ) → MakesWithin ledger ledger most
counts_none ledger most = record {
  each = λ width. at_most-more (capacity ledger.work.sizes.words width) 0 (most width) (ledger.of_width width) (ledger.of_width width) (omega arith)
      (at_most-none (capacity ledger.work.sizes.words width) (ledger.of_width width));
}

-- widths
pub is_short_width : (count : ℕ) → 0 < count → count ≤ 8 → IsListWidth count (class_of (1 + count))
is_short_width count some few = record { some = some; width_is = sym (ap (λ b. cond b (class_of (1 + count)) 34) (le-leb count 8 few)) }

pub is_tree_width : (count : ℕ) → 8 < count → IsListWidth count 34
is_tree_width count many = record { some = omega arith; width_is = sym (ap (λ b. cond b (class_of (1 + count)) 34) (too_many count 8 many)) }
