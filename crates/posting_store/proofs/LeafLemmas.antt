-- The leaf of a list of nine documents, and a tree with a pair more or less.
use Rattle.std.proofs.Common.{◌≡◌, ℕ, false, zero, suc, ℤ, ◌+◌, ◌*◌, ◌/◌, ◌%◌, ◌<◌, ◌≤◌, List, [], ◌∷◌, map, length, take, drop, get_or, set, refl, sym, ap, subst, ◌∙◌, arith}
use Rattle.std.specs.Prelude.{IsSome}
use Rattle.std.proofs.lemmas.List.{length-map, take_all}
use Rattle.std.specs.BTreeMap.{insert_entry, is_at}
use Rattle.std.specs.declared.cmp.Ordering.TheVariants.{Less, Equal, Greater}
use Rattle.std.specs.List.{zip, AllByRecursion}
use Rattle.std.specs.List.Sorted.{IsStrictlySortedBy}
use Rattle.std.specs.Map.{keys_of, remove_entry}
use Rattle.std.specs.Map.{lookup as lookup_in}
use Rattle.std.specs.Ordering.{nat_cmp, match_ordering}
use Rattle.list_lemmas.proofs.Each.{AllByRecursion-each}
use Rattle.entry_ref.specs.Records.{Records}
use Rattle.tree_read.specs.Keys.{IsKeyedTree}
use Rattle.tree_read.specs.Pairs.{lookup, put, take_out}
use Rattle.tree_read.proofs.PairLemmas.{All-put, All-take_out}
use Rattle.store_api.specs.Ledgers.{Ledger}
use Rattle.store_api.specs.Parts.{count_in, times, Owns, Turns}
use Rattle.store_api.specs.Units.{MakesWithin}
use Rattle.tree_read.specs.Trees.{tree_pairs, by_number, IsTree}
use Rattle.frozen_btree.specs.Changes.{levels, tree}
use Rattle.frozen_btree.specs.Makes.{CountsNodes}
use Rattle.image_format.specs.Words.{unpacked, weight_in_bits}
use Rattle.attr_types.specs.Lawful.{IsDocNumber}
use Rattle.posting_store.specs.Lists.{list_at, list_levels, IsList, IsPlain, AreDocuments}
use Rattle.posting_store.specs.Changes.{list_part, list_most, IsListWidth, MakesList}
use Rattle.posting_store.proofs.ChangeLemmas.{makes_tree, counts_tree, is_tree_width}
use Rattle.posting_store.proofs.FormLemmas.{tree_at, tree_reach, tree_levels, tree_form}
use Rattle.posting_store.proofs.PairLemmas.{weighed, weighed-length, against, weighed-put, weighed-take_out, weighed-there, documents_in, documents_out, length_out_some, zipped, zipped_small}

abbrev pub doc_word : ℕ → ℕ
doc_word x = x / 4294967296

abbrev pub weight_word : ℕ → ℕ
weight_word x = x % 4294967296

-- one word more of each item is written
pub taken_more : (f : ℕ → ℕ) (keys items : List ℕ) (i : ℕ) → i < length keys → i < length items → take i keys ≡ map f (take i items)
    → take (i + 1) (set keys i (f (get_or items i 0))) ≡ map f (take (i + 1) items)
taken_more f keys items i low few is =
    subst (λ n. take n (set keys i (f (get_or items i 0))) ≡ map f (take n items)) (let e : suc i ≡ i + 1 = omega arith in e) (more keys items i low few is)
  where
    more : (keys items : List ℕ) (i : ℕ) → i < length keys → i < length items → take i keys ≡ map f (take i items)
        → take (suc i) (set keys i (f (get_or items i 0))) ≡ map f (take (suc i) items)
    more [] items i low few is = absurd (omega arith)
    more (k ∷ keys) [] i low few is = absurd (omega arith)
    more (k ∷ keys) (x ∷ items) zero low few is = refl
    more (k ∷ keys) (x ∷ items) (suc i) low few is =
        ap (λ h. h ∷ take (suc i) (set keys i (f (get_or items i 0)))) (ap (λ ys. get_or ys 0 0) is)
        ∙ ap (λ ys. f x ∷ ys) (more keys items i (omega arith) (omega arith) (ap (drop 1) is))

pub taken_all : (f : ℕ → ℕ) (keys items : List ℕ) (i : ℕ) → length keys ≤ i → length items ≤ i → take i keys ≡ map f (take i items) → keys ≡ map f items
taken_all f keys items i all whole is = sym (take_all i keys all) ∙ is ∙ ap (map f) (take_all i items whole)

pub zipped_keys : (items : List ℕ) → map (λ p. p.0) (zip (map doc_word items) (map weight_word items)) ≡ keys_of (map unpacked items)
zipped_keys [] = refl
zipped_keys (x ∷ xs) = ap (λ ks. x / 4294967296 ∷ ks) (zipped_keys xs)

-- the keys and values of a leaf
module _ (keys values items : List ℕ) (keys_are : keys ≡ map doc_word items) (values_are : values ≡ map weight_word items) where
  pub leaf_pairs : zip keys values ≡ zip (map doc_word items) (map weight_word items)
  leaf_pairs = ap (λ ks. zip ks values) keys_are ∙ ap (zip (map doc_word items)) values_are

  pub leaf_even : length keys ≡ length values
  leaf_even = ap length keys_are ∙ length-map items doc_word ∙ sym (ap length values_are ∙ length-map items weight_word)

  pub leaf_fits : length items ≡ 9 → length keys ≤ 16
  leaf_fits nine = let size = ap length keys_are ∙ length-map items doc_word in omega arith

  pub leaf_ascends : AreDocuments (map unpacked items) → IsStrictlySortedBy nat_cmp (map (λ p. p.0) (zip keys values))
  leaf_ascends are = subst (IsStrictlySortedBy nat_cmp) (sym (ap (map (λ p. p.0)) leaf_pairs ∙ zipped_keys items)) are.ascends

  pub makes_leaf : {H : Type 0} (old new : Ledger H) (m n : Records) (next root : ℕ) → length items ≡ 9 → AreDocuments (map unpacked items) → next ≡ 2 * root + 1 → IsPlain next
      → IsTree nat_cmp by_number n root → tree_pairs n root ≡ zip keys values → Owns new n (tree root ∷ []) → Turns old new m n [] (tree root ∷ []) → MakesList old new m n 0 (map unpacked items) false next
  makes_leaf old new m n next root nine are is plain tree_is pairs owns turns =
      let whole = pairs ∙ leaf_pairs in
      makes_tree old new m n 0 next root (map unpacked items) [] is plain (omega arith) tree_is (subst (AllByRecursion (λ p. p.1 < 4294967296)) (sym whole) (zipped_small items))
      (let size = length-map items unpacked in omega arith) (ap weighed whole ∙ zipped items) are owns turns (λ r. refl)

pub length_in_least : (doc : ℕ) (weight : ℤ) (es : List (ℕ × ℤ)) → length es ≤ length (insert_entry nat_cmp es doc weight)
length_in_least doc weight [] = omega arith
length_in_least doc weight (e ∷ es) =
    elim (nat_cmp doc e.0) as (λ o. length (e ∷ es) ≤ length (match_ordering o ((doc, weight) ∷ e ∷ es) ((e.0, weight) ∷ es) (e ∷ insert_entry nat_cmp es doc weight))) [
      | Less ↦ omega arith
      | Equal ↦ omega arith
      | Greater ↦ let more = length_in_least doc weight es in omega arith
    ]

-- a list that is a tree
module _ {H : Type 0} (old new : Ledger H) (m n : Records) (word root : ℕ) (list : IsList m word) (plain : IsPlain word) (is : word ≡ 2 * root + 1) where
  pub tree_keyed : IsKeyedTree nat_cmp by_number (λ n key. Unit {0}) (λ n key. []) m root
  tree_keyed = record {
    tree = (tree_form m word root plain is list).0;
    readable = AllByRecursion-each (λ (p : ℕ × ℕ). Unit {0}) (λ p. tt) (tree_pairs m root);
    apart = AllByRecursion-each (λ (p : ℕ × ℕ). Unit {0}) (λ p. tt) (tree_pairs m root);
  }

  counted : (r : ℕ) → count_in r m (list_part word ∷ []) ≡ count_in r m (tree root ∷ [])
  counted r = ap (λ rs. times r rs + 0) (tree_reach m word root plain is)

  pub tree_owned : Owns old m (list_part word ∷ []) → Owns old m (tree root ∷ [])
  tree_owned owns = record { each = λ r. let o = owns.each r in let e = counted r in omega arith }

  documents : AreDocuments (list_at m word)
  documents = record { ascends = list.ascends; numbers = list.numbers }

  many : 8 < length (list_at m word)
  many =
      let more = (tree_form m word root plain is list).1 in
      let size = weighed-length (tree_pairs m root) in
      let whole = ap length (tree_at m word root plain is) in
      omega arith

  module _ (doc bits : ℕ) (weight : ℤ) (number : IsDocNumber doc) (small : bits < 4294967296) (reads : weight_in_bits bits ≡ weight) where
    pub tree_added : (next top : ℕ) → next ≡ 2 * top + 1 → IsPlain next → IsTree nat_cmp by_number n top → tree_pairs n top ≡ put (against doc) (doc, bits) (tree_pairs m root)
        → Owns new n (tree top ∷ []) → Turns old new m n (tree root ∷ []) (tree top ∷ []) → MakesList old new m n word (insert_entry nat_cmp (list_at m word) doc weight) false next
    tree_added next top made next_plain tree_is pairs owns turns =
        makes_tree old new m n word next top (insert_entry nat_cmp (list_at m word) doc weight) (tree root ∷ []) made next_plain plain tree_is
        (subst (AllByRecursion (λ p. p.1 < 4294967296)) (sym pairs) (All-put (λ p. p.1 < 4294967296) (against doc) (doc, bits) (tree_pairs m root) small (tree_form m word root plain is list).2))
        (let least = length_in_least doc weight (list_at m word) in let before = many in omega arith)
        (ap weighed pairs ∙ weighed-put doc bits weight reads (tree_pairs m root) ∙ ap (λ es. insert_entry nat_cmp es doc weight) (sym (tree_at m word root plain is)))
        (documents_in doc weight (list_at m word) number documents) owns turns counted

  pub counts_added : (doc : ℕ) (weight : ℤ) → CountsNodes old new (2 * levels m root + 1) → MakesWithin old new (list_most (list_levels m word) (length (insert_entry nat_cmp (list_at m word) doc weight)))
  counts_added doc weight made =
      subst (λ h. MakesWithin old new (list_most h (length (insert_entry nat_cmp (list_at m word) doc weight)))) (sym (tree_levels m word root plain is))
      (counts_tree old new (levels m root) (length (insert_entry nat_cmp (list_at m word) doc weight)) (2 * levels m root + 1)
      (let least = length_in_least doc weight (list_at m word) in let before = many in omega arith) (omega arith) made)

  pub width_added : (doc : ℕ) (weight : ℤ) → IsListWidth (length (insert_entry nat_cmp (list_at m word) doc weight)) 34
  width_added doc weight =
      is_tree_width (length (insert_entry nat_cmp (list_at m word) doc weight)) (let least = length_in_least doc weight (list_at m word) in let before = many in omega arith)

  module _ (doc : ℕ) (there : IsSome (lookup_in (is_at (nat_cmp doc)) (list_at m word))) (still : 9 < length (list_at m word)) where
    up : IsStrictlySortedBy nat_cmp (map (λ p. p.0) (tree_pairs m root))
    up = (tree_form m word root plain is list).0.ascends

    left : 8 < length (remove_entry (is_at (nat_cmp doc)) (list_at m word))
    left = let less = length_out_some (is_at (nat_cmp doc)) (list_at m word) there in omega arith

    pub pair_there : IsSome (lookup (against doc) (tree_pairs m root))
    pair_there = weighed-there doc (tree_pairs m root) up (subst (λ es. IsSome (lookup_in (is_at (nat_cmp doc)) es)) (tree_at m word root plain is) there)

    pub tree_removed : (next top : ℕ) → next ≡ 2 * top + 1 → IsPlain next → IsTree nat_cmp by_number n top → tree_pairs n top ≡ take_out (against doc) (tree_pairs m root)
        → Owns new n (tree top ∷ []) → Turns old new m n (tree root ∷ []) (tree top ∷ []) → MakesList old new m n word (remove_entry (is_at (nat_cmp doc)) (list_at m word)) false next
    tree_removed next top made next_plain tree_is pairs owns turns =
        makes_tree old new m n word next top (remove_entry (is_at (nat_cmp doc)) (list_at m word)) (tree root ∷ []) made next_plain plain tree_is
        (subst (AllByRecursion (λ p. p.1 < 4294967296)) (sym pairs) (All-take_out (λ p. p.1 < 4294967296) (against doc) (tree_pairs m root) (tree_form m word root plain is list).2))
        left
        (ap weighed pairs ∙ weighed-take_out doc (tree_pairs m root) up ∙ ap (λ es. remove_entry (is_at (nat_cmp doc)) es) (sym (tree_at m word root plain is)))
        (documents_out (is_at (nat_cmp doc)) (list_at m word) documents) owns turns counted

    pub counts_removed : CountsNodes old new (levels m root + 1) → MakesWithin old new (list_most (list_levels m word) (length (remove_entry (is_at (nat_cmp doc)) (list_at m word))))
    counts_removed made =
        subst (λ h. MakesWithin old new (list_most h (length (remove_entry (is_at (nat_cmp doc)) (list_at m word))))) (sym (tree_levels m word root plain is))
        (counts_tree old new (levels m root) (length (remove_entry (is_at (nat_cmp doc)) (list_at m word))) (levels m root + 1) left (omega arith) made)

    pub width_removed : IsListWidth (length (remove_entry (is_at (nat_cmp doc)) (list_at m word))) 34
    width_removed = is_tree_width (length (remove_entry (is_at (nat_cmp doc)) (list_at m word))) left

-- items that read as a changed list
pub same_size : (items : List ℕ) (docs : List (ℕ × ℤ)) → map unpacked items ≡ docs → length items ≡ length docs
same_size items docs is = sym (length-map items unpacked) ∙ ap length is
