-- How many records a change makes of each width.
use Rattle.std.proofs.Common.{◌≡◌, ◌≢◌, ℕ, ℤ, List, ◌+◌, ◌*◌, ◌≤◌, Bool, true, false, cond, inl, inr, length, nat_eq, nat_le, Option, None, Some, option_map, refl, sym, ap, subst, arith}
use Rattle.std.proofs.lemmas.Bool.{eqb-true, eqb-false, leb-false}
use Rattle.std.specs.Option.{is_some}
use Rattle.frozen_btree.proofs.TopLemmas.{levels-same}
use Rattle.entry_ref.specs.Records.{Records, SameAt}
use Rattle.tree_read.specs.Pairs.{lookup_pair}
use Rattle.store_api.specs.Ledgers.{Ledger, capacity}
use Rattle.store_api.specs.Units.{MayDo, MakesAtMost, MakesWithin}
use Rattle.store_api.proofs.Counts.{at_most-more, at_most-none, at_most-then}
use Rattle.tree_read.specs.Trees.{tree_nodes, tree_pairs}
use Rattle.frozen_btree.specs.Changes.{levels}
use Rattle.frozen_btree.specs.Makes.{CountsNodes}
use Rattle.array_store.proofs.ClassLemmas.{class_least}
use Rattle.array_store.specs.Adding.{MakesOneOf}
use Rattle.image_format.specs.Values.{value_words}
use Rattle.image_format.specs.Words.{class_of}
use Rattle.attr_types.specs.declared.value.Value.{Value}
use Rattle.enum_dictionary.specs.Dictionaries.{beside_value}
use Rattle.image_format.specs.Postings.{is_dense}
use Rattle.posting_store.specs.Changes.{list_change_most}
use Rattle.posting_store.specs.Lists.{is_vector, list_levels}
use Rattle.value_index.specs.Flows.{list_word}
use Rattle.value_index.proofs.FormLemmas.{word_found, word_none}
use Rattle.value_index.specs.Changes.{add_most, change_most, new_most, nodes_most, record_most}

pub within_more : {H : Type 0} (a b : Ledger H) (f g : ℕ → ℕ) → ((w : ℕ) → f w ≤ g w) → MakesWithin a b f → MakesWithin a b g
within_more a b f g more made = record {
  each = λ w. at_most-more (capacity a.work.sizes.words w) (f w) (g w) (a.of_width w) (b.of_width w) (more w) (made.each w);
}

pub within_then : {H : Type 0} (a b c : Ledger H) (f g : ℕ → ℕ) → MayDo a b → MakesWithin a b f → MakesWithin b c g → MakesWithin a c (λ w. f w + g w)
within_then a b c f g may first second = record {
  each = λ w. at_most-then (capacity a.work.sizes.words w) (f w) (g w) (a.of_width w) (b.of_width w) (c.of_width w) (first.each w)
      (subst (λ sizes. MakesAtMost (capacity sizes.words w) (g w) (b.of_width w) (c.of_width w)) may.sizes (second.each w));
}

pub within_none : {H : Type 0} (a : Ledger H) (f : ℕ → ℕ) → MakesWithin a a f
within_none a f = record {
  each = λ w. at_most-more (capacity a.work.sizes.words w) 0 (f w) (a.of_width w) (a.of_width w) (omega arith) (at_most-none (capacity a.work.sizes.words w) (a.of_width w));
}

-- records of one width alone
one_width : {H : Type 0} (a b : Ledger H) (width most : ℕ) → MakesAtMost (capacity a.work.sizes.words width) most (a.of_width width) (b.of_width width)
    → ((c w : ℕ) → w ≢ width → MakesAtMost c 0 (a.of_width w) (b.of_width w)) → MakesWithin a b (λ w. cond (nat_eq w width) most 0)
one_width a b width most here others = record { each = λ w. told w (nat_eq w width) refl }
  where
    told : (w : ℕ) (t : Bool) → nat_eq w width ≡ t → MakesAtMost (capacity a.work.sizes.words w) (cond t most 0) (a.of_width w) (b.of_width w)
    told w true is = subst (λ x. MakesAtMost (capacity a.work.sizes.words x) most (a.of_width x) (b.of_width x)) (sym (eqb-true w width is)) here
    told w false is = others (capacity a.work.sizes.words w) w (eqb-false w width is)

pub within_nodes : {H : Type 0} (a b : Ledger H) (h most : ℕ) → most ≤ 2 * h + 1 → CountsNodes a b most → MakesWithin a b (nodes_most h)
within_nodes a b h most few counts =
    one_width a b 34 (2 * h + 1) (at_most-more (capacity a.work.sizes.words 34) most (2 * h + 1) (a.of_width 34) (b.of_width 34) few counts.nodes) counts.others

pub within_record : {H : Type 0} (a b : Ledger H) (width : ℕ) → MakesOneOf width a b → MakesWithin a b (λ w. cond (nat_eq w width) 1 0)
within_record a b width made = one_width a b width 1 made.one made.others

-- the record of a value in a store is not wide
pub new_all : (value : Value) → length (value_words value) ≤ 129 → (w : ℕ) → record_most value w ≤ new_most value w
new_all value short w = told (nat_le w 256) refl
  where
    far : (t : Bool) → nat_eq w (class_of (length (value_words value))) ≡ t → nat_le w 256 ≡ false → cond {A = ℕ} t 1 0 ≤ 0
    far true is past = absurd (
        let wide = leb-false w 256 past in
        let same = eqb-true w (class_of (length (value_words value))) is in
        let few = class_least (length (value_words value)) 256 (inr (inr (inr (inr (inr (inr (inr (inl refl)))))))) (omega (arith, short)) in
        omega (arith, wide, same, few))
    far false is past = omega arith

    told : (t : Bool) → nat_le w 256 ≡ t → record_most value w ≤ cond t (record_most value w) 0
    told true is = omega arith
    told false is = far (nat_eq w (class_of (length (value_words value)))) refl is

pub within_new : {H : Type 0} (a b : Ledger H) (value : Value) → length (value_words value) ≤ 129 → MakesOneOf (class_of (length (value_words value))) a b → MakesWithin a b (new_most value)
within_new a b value short made = within_more a b (record_most value) (new_most value) (new_all value short) (within_record a b (class_of (length (value_words value))) made)

pub within_dropped : {H : Type 0} (a b c : Ledger H) (f : ℕ → ℕ) → MayDo a b → MakesWithin a b f → ((k w : ℕ) → MakesAtMost k 0 (b.of_width w) (c.of_width w)) → MakesWithin a c f
within_dropped a b c f may made none =
    within_more a c (λ w. f w + 0) f (λ w. omega arith) (within_then a b c f (λ w. 0) may made (record { each = λ w. none (capacity b.work.sizes.words w) w }))

-- nodes of a dictionary that is as it was at the start
pub within_tree : {H : Type 0} (a b : Ledger H) (m n : Records) (root most : ℕ) → SameAt (tree_nodes m root) m n → most ≤ 2 * levels n root + 1
    → CountsNodes a b most → MakesWithin a b (nodes_most (levels m root))
within_tree a b m n root most same few counts =
    subst (λ h. MakesWithin a b (nodes_most h)) (levels-same m n root same) (within_nodes a b (levels n root) most few counts)

-- ---- what a change makes, by what is found
-- what a list makes that then has these documents, by the word that it had
abbrev pub word_most : Records → Bool → ℕ → ℕ → List (ℕ × ℤ) → ℕ → ℕ
word_most m dense documents word docs = list_change_most (is_vector word) (is_dense dense (length docs) documents) (list_levels m word) docs

module _ (value : Value) (m : Records) (root : ℕ) (dense : Bool) (documents : ℕ) (docs : List (ℕ × ℤ)) where
  change_by : (word w : ℕ) → list_word value m root ≡ word
      → change_most value m root dense documents docs w ≡ word_most m dense documents word docs w + nodes_most (levels m root) w
  change_by word w is = ap (λ x. word_most m dense documents x docs w + nodes_most (levels m root) w) is

  pub change_found : (key word w : ℕ) → lookup_pair (beside_value value m) (tree_pairs m root) ≡ Some (key, word)
      → word_most m dense documents word docs w + nodes_most (levels m root) w ≤ change_most value m root dense documents docs w
  change_found key word w found = let same = change_by word w (word_found value m root (key, word) found) in omega arith

  pub add_found : (key word w : ℕ) → lookup_pair (beside_value value m) (tree_pairs m root) ≡ Some (key, word)
      → word_most m dense documents word docs w + nodes_most (levels m root) w ≤ add_most value m root dense documents docs w
  add_found key word w found = let few = change_found key word w found in omega arith

  pub add_none : (w : ℕ) → lookup_pair (beside_value value m) (tree_pairs m root) ≡ None
      → new_most value w + (word_most m dense documents 0 docs w + nodes_most (levels m root) w) ≤ add_most value m root dense documents docs w
  add_none w none =
      let same = change_by 0 w (word_none value m root none) in
      let fresh : cond (is_some (option_map (λ (p : ℕ × ℕ). p.0) (lookup_pair (beside_value value m) (tree_pairs m root)))) 0 (new_most value w) ≡ new_most value w =
      ap (λ (o : Option (ℕ × ℕ)). cond (is_some (option_map (λ (p : ℕ × ℕ). p.0) o)) 0 (new_most value w)) none in
      omega arith
