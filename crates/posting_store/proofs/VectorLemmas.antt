-- A list that is a bit vector.
use Rattle.std.proofs.Common.{◌≡◌, ℕ, zero, suc, ℤ, pos, ◌+◌, ◌-◌, ◌*◌, ◌<◌, Bool, true, false, cond, nat_eq, List, [], ◌∷◌, map, length, refl, sym, ap, subst, ◌∙◌, arith}
use Rattle.std.specs.Prelude.{IsSome}
use Rattle.std.proofs.lemmas.Bool.{eqb-true, eqb-false}
use Rattle.std.specs.BTreeMap.{insert_entry, is_at}
use Rattle.std.specs.List.{flat_map, AllByRecursion}
use Rattle.std.specs.Map.{keys_of, remove_entry}
use Rattle.std.specs.Map.{lookup as lookup_in}
use Rattle.std.specs.Ordering.{nat_cmp}
use Rattle.entry_ref.specs.Records.{Records}
use Rattle.tree_read.specs.Trees.{tree_pairs, root_level, root_least, IsRootNode}
use Rattle.store_api.specs.Ledgers.{Ledger, capacity}
use Rattle.store_api.specs.Parts.{count_in, times, Owns, Turns}
use Rattle.store_api.specs.Statuses.{in_use}
use Rattle.store_api.specs.Units.{MakesAtMost, MayDo, MakesWithin}
use Rattle.store_api.proofs.PartLemmas.{turns-as}
use Rattle.frozen_btree.specs.Builds.{nodes_of}
use Rattle.frozen_btree.specs.Changes.{levels}
use Rattle.frozen_btree.specs.Makes.{CountsNodes}
use Rattle.image_format.proofs.ImageLemmas.{node_there}
use Rattle.image_format.specs.Postings.{vector, block_documents, vector_documents, postings_at, postings_reach, IsPostingList}
use Rattle.attr_types.specs.Lawful.{IsDocNumber}
use Rattle.bit_vector.specs.Changes.{vector_most, vector_part, MakesTree, MakesVector}
use Rattle.bit_vector.specs.Vectors.{count_blocks, vector_at, vector_reach, IsVector}
use Rattle.posting_store.specs.Lists.{list_at, list_levels, list_reach, form_levels, is_vector, AreDocuments, AreOnes, IsList, IsPlain}
use Rattle.posting_store.specs.Changes.{list_part, list_change_most, form_most, MakesList}
use Rattle.posting_store.specs.Keeps.{FlowsList}
use Rattle.posting_store.proofs.FlowLemmas.{flows_made, flows_vector}
use Rattle.posting_store.proofs.ChangeLemmas.{is_list, makes_tree}
use Rattle.posting_store.proofs.FormLemmas.{at_form, reach_form, form_vector, tree_at, vector_high}
use Rattle.posting_store.proofs.LeafLemmas.{length_in_least}
use Rattle.posting_store.proofs.PairLemmas.{weighed, weighed-keys, documents_in, documents_out, length_out_some}

-- documents as a bit vector has them, each with weight 1
abbrev pub with_ones : List ℕ → List (ℕ × ℤ)
with_ones docs = map (λ doc. (doc, pos 1)) docs

pub ones-keys : (docs : List ℕ) → keys_of (with_ones docs) ≡ docs
ones-keys [] = refl
ones-keys (doc ∷ docs) = ap (λ ks. doc ∷ ks) (ones-keys docs)

pub ones-length : (docs : List ℕ) → length (with_ones docs) ≡ length docs
ones-length [] = refl
ones-length (doc ∷ docs) = ap suc (ones-length docs)

-- the pairs of a tree whose weights are 1
pub ones_of_pairs : (ps : List (ℕ × ℕ)) → AreOnes (weighed ps) → map {B = ℕ × ℤ} (λ p. (p.0, pos 1)) ps ≡ weighed ps
ones_of_pairs [] all = refl
ones_of_pairs (p ∷ ps) all =
    ap (λ es. (p.0, pos 1) ∷ es) (ones_of_pairs ps all.1) ∙ ap (λ (w : ℤ). (p.0, w) ∷ weighed ps) (sym all.0)

-- and the pairs that a tree has for them
abbrev pub paired : List ℕ → List (ℕ × ℕ)
paired docs = map (λ doc. (doc, 1)) docs

pub pairs_of_ones : (docs : List ℕ) → weighed (paired docs) ≡ with_ones docs
pairs_of_ones [] = refl
pairs_of_ones (doc ∷ docs) = ap (λ es. (doc, pos 1) ∷ es) (pairs_of_ones docs)

pub paired_small : (docs : List ℕ) → AllByRecursion (λ p. p.1 < 4294967296) (paired docs)
paired_small [] = tt
paired_small (doc ∷ docs) = (omega arith, paired_small docs)

-- a bit vector with documents has a root
root_of_some : (m : Records) (root : ℕ) → (0 < root → IsRootNode m root) → 0 < length (tree_pairs m root) → 0 < length (m root)
root_of_some m zero node some = absurd (omega (arith, some))
root_of_some m (suc root) node some =
    node_there m (root_least (root_level m (suc root))) (root_level m (suc root)) (suc root) (node (omega arith))

some_blocks : (m : Records) (ps : List (ℕ × ℕ)) → 0 < length (flat_map (λ p. block_documents p.0 (m p.1)) ps) → 0 < length ps
some_blocks m [] some = absurd (omega (arith, some))
some_blocks m (p ∷ ps) some = omega arith

module _ (m : Records) (word root : ℕ) (is : word ≡ 8589934592 + root) where
  pub vector_list_at : list_at m word ≡ with_ones (vector_documents m root)
  vector_list_at = at_form m word (omega arith) ∙ ap (postings_at m) (form_vector word root is)

  pub vector_list_reach : list_reach m word ≡ vector_reach m root
  vector_list_reach = reach_form m word (omega arith) ∙ ap (postings_reach m) (form_vector word root is)

  pub vector_levels : list_levels m word ≡ levels m root
  vector_levels = ap (form_levels m) (form_vector word root is)

  pub vector_counted : (r : ℕ) → count_in r m (list_part word ∷ []) ≡ count_in r m (vector_part root ∷ [])
  vector_counted r = ap (λ rs. times r rs + 0) vector_list_reach

  pub vector_owned : {H : Type 0} (a : Ledger H) → Owns a m (list_part word ∷ []) → Owns a m (vector_part root ∷ [])
  vector_owned a owns = record { each = λ r. let o = owns.each r in let e = vector_counted r in omega arith }

  module _ (list : IsList m word) where
    pub vector_form : IsPostingList m (vector root)
    vector_form = subst (IsPostingList m) (form_vector word root is) (list.form (omega arith))

    pub vector_is : IsVector m root
    vector_is = record {
      tree_is = vector_form.0;
      blocks = vector_form.2;
      numbers = subst (AllByRecursion IsDocNumber) (ap keys_of vector_list_at ∙ ones-keys (vector_documents m root)) list.numbers;
    }

    pub vector_root_there : 0 < length (m root)
    vector_root_there = root_of_some m root vector_form.0.node (some_blocks m (tree_pairs m root) (let many = vector_form.1 in omega (arith, many)))

    pub vector_size : length (list_at m word) ≡ length (vector_documents m root)
    vector_size = ap length vector_list_at ∙ ones-length (vector_documents m root)

    pub vector_long : 8 < length (list_at m word)
    vector_long = let many = vector_form.1 in let size = vector_size in omega (arith, many, size)

-- what its word tells
pub counted_from : (word : ℕ) → is_vector word ≡ true → word ≡ 8589934592 + (word - 8589934592)
counted_from word dense = let high = vector_high word dense in omega (arith, high)

pub vector_there : (m : Records) (word : ℕ) → is_vector word ≡ true → IsList m word → 0 < length (m (word - 8589934592))
vector_there m word dense list = vector_root_there m word (word - 8589934592) (counted_from word dense) list

pub vector_many : (m : Records) (word : ℕ) → is_vector word ≡ true → IsList m word → 8 < length (list_at m word)
vector_many m word dense list = vector_long m word (word - 8589934592) (counted_from word dense) list

-- a bit vector in place of another list
module _ {H : Type 0} (old new : Ledger H) (m n : Records) where
  pub makes_vector : (word next was root : ℕ) (docs : List (ℕ × ℤ)) → next ≡ 8589934592 + root → is_vector next ≡ true
      → MakesVector old new m n was docs root → FlowsList (λ r. in_use (old.back r) ≡ true) m n word next → 8 < length docs → AreDocuments docs
      → ((r : ℕ) → count_in r m (list_part word ∷ []) ≡ count_in r m (vector_part was ∷ [])) → MakesList old new m n word docs true next
  makes_vector word next was root docs is dense makes flows many are before =
      let at = vector_list_at n next root is ∙ makes.docs_are in
      let counted = vector_counted n next root is in
      let size : length (with_ones (vector_documents n root)) ≡ length docs = ap length makes.docs_are in
      let each = ones-length (vector_documents n root) in
      let posting : IsPostingList n (vector root) = (makes.vector_is.tree_is, omega (arith, many, size, each), makes.vector_is.blocks) in
      record {
        list_is = is_list n next docs (λ more. subst (IsPostingList n) (sym (form_vector next root is)) posting) at are;
        form = dense;
        docs_are = at;
        flows = flows;
        owns = record { each = λ r. let o = makes.owns.each r in let e = counted r in omega arith };
        turns = turns-as old new m n (vector_part was ∷ []) (vector_part root ∷ []) (list_part word ∷ []) (list_part next ∷ []) makes.turns before counted;
      }

  -- this many nodes, and no blocks
  pub counts_nodes : (nodes : ℕ) → CountsNodes old new nodes → MakesWithin old new (vector_most 0 nodes)
  counts_nodes nodes made = record { each = λ width. told width (nat_eq width 34) refl }
    where
      none : (width : ℕ) → MakesAtMost (capacity old.work.sizes.words width) 0 (old.of_width width) (new.of_width width)
          → MakesAtMost (capacity old.work.sizes.words width) (cond (nat_eq width 64) 0 0) (old.of_width width) (new.of_width width)
      none width made = elim (nat_eq width 64) as (λ b. MakesAtMost (capacity old.work.sizes.words width) (cond b 0 0) (old.of_width width) (new.of_width width)) [
        | true ↦ made
        | false ↦ made
      ]

      told : (width : ℕ) (b : Bool) → nat_eq width 34 ≡ b
          → MakesAtMost (capacity old.work.sizes.words width) (cond (nat_eq width 64) 0 (cond b nodes 0)) (old.of_width width) (new.of_width width)
      told width true is =
          subst (λ w. MakesAtMost (capacity old.work.sizes.words w) (cond (nat_eq w 64) 0 nodes) (old.of_width w) (new.of_width w)) (sym (eqb-true width 34 is)) made.nodes
      told width false is = none width (made.others (capacity old.work.sizes.words width) width (eqb-false width 34 is))

-- a bit vector with a document more or less
module _ {H : Type 0} (old new : Ledger H) (m n : Records) (word root : ℕ) (is : word ≡ 8589934592 + root) (list : IsList m word) where
  vector_documents_are : AreDocuments (list_at m word)
  vector_documents_are = record { ascends = list.ascends; numbers = list.numbers }

  vector_turns : (next top : ℕ) → next ≡ 8589934592 + top → Turns old new m n (vector_part root ∷ []) (vector_part top ∷ []) → Turns old new m n (list_part word ∷ []) (list_part next ∷ [])
  vector_turns next top made turns =
      turns-as old new m n (vector_part root ∷ []) (vector_part top ∷ []) (list_part word ∷ []) (list_part next ∷ []) turns (vector_counted m word root is) (vector_counted n next top made)

  module _ (doc : ℕ) (number : IsDocNumber doc) where
    pub vector_more : 8 < length (insert_entry nat_cmp (list_at m word) doc (pos 1))
    vector_more = let least = length_in_least doc (pos 1) (list_at m word) in let before = vector_long m word root is list in omega (arith, least, before)

    pub vector_added : (next top : ℕ) → next ≡ 8589934592 + top → is_vector next ≡ true
        → MayDo old new → MakesVector old new m n root (insert_entry nat_cmp (vector_at m root) doc (pos 1)) top
        → MakesList old new m n word (insert_entry nat_cmp (list_at m word) doc (pos 1)) true next
    vector_added next top made dense may makes =
        makes_vector old new m n word next root top (insert_entry nat_cmp (list_at m word) doc (pos 1)) made dense
        (subst (λ (es : List (ℕ × ℤ)). MakesVector old new m n root (insert_entry nat_cmp es doc (pos 1)) top) (sym (vector_list_at m word root is)) makes)
        (flows_vector old new m n word next root top is made may (vector_turns next top made makes.turns) makes.blocks)
        vector_more (documents_in doc (pos 1) (list_at m word) number vector_documents_are) (vector_counted m word root is)

  module _ (doc : ℕ) (there : IsSome (lookup_in (is_at (nat_cmp doc)) (list_at m word))) (still : 9 < length (list_at m word)) where
    pub vector_left : 8 < length (remove_entry (is_at (nat_cmp doc)) (list_at m word))
    vector_left = let less = length_out_some (is_at (nat_cmp doc)) (list_at m word) there in omega (arith, less, still)

    pub vector_removed : (next top : ℕ) → next ≡ 8589934592 + top → is_vector next ≡ true
        → MayDo old new → MakesVector old new m n root (remove_entry (is_at (nat_cmp doc)) (vector_at m root)) top
        → MakesList old new m n word (remove_entry (is_at (nat_cmp doc)) (list_at m word)) true next
    vector_removed next top made dense may makes =
        makes_vector old new m n word next root top (remove_entry (is_at (nat_cmp doc)) (list_at m word)) made dense
        (subst (λ (es : List (ℕ × ℤ)). MakesVector old new m n root (remove_entry (is_at (nat_cmp doc)) es) top) (sym (vector_list_at m word root is)) makes)
        (flows_vector old new m n word next root top is made may (vector_turns next top made makes.turns) makes.blocks)
        vector_left (documents_out (is_at (nat_cmp doc)) (list_at m word) vector_documents_are) (vector_counted m word root is)

  pub vector_counts : (docs : List (ℕ × ℤ)) → MakesWithin old new (vector_most 1 (2 * levels m root + 1)) → MakesWithin old new (list_change_most true true (list_levels m word) docs)
  vector_counts docs made = subst (λ h. MakesWithin old new (vector_most 1 (2 * h + 1))) (sym (vector_levels m word root is)) made

  -- a tree of the same documents
  pub vector_as_tree : (next top : ℕ) → next ≡ 2 * top + 1 → IsPlain next → MakesTree old new m n (paired (vector_documents m root)) top
      → MakesList old new m n 0 (list_at m word) false next
  vector_as_tree next top made plain makes =
      makes_tree old new m n 0 next top (list_at m word) [] made plain (omega arith) makes.tree_is
      (subst (AllByRecursion (λ p. p.1 < 4294967296)) (sym makes.pairs_are) (paired_small (vector_documents m root)))
      (vector_long m word root is list)
      (ap weighed makes.pairs_are ∙ pairs_of_ones (vector_documents m root) ∙ sym (vector_list_at m word root is))
      vector_documents_are makes.owns makes.turns (λ r. refl)

  pub tree_counts : CountsNodes old new (nodes_of (length (vector_documents m root))) → MakesWithin old new (form_most true false (list_at m word))
  tree_counts made =
      subst (λ k. MakesWithin old new (vector_most 0 (nodes_of k))) (sym (vector_size m word root is list))
      (counts_nodes old new m n (nodes_of (length (vector_documents m root))) made)

-- a tree as a bit vector
module _ {H : Type 0} (old new : Ledger H) (m n : Records) (word root : ℕ) (list : IsList m word) (plain : IsPlain word) (is : word ≡ 2 * root + 1) where
  tree_keys_are : keys_of (list_at m word) ≡ map (λ p. p.0) (tree_pairs m root)
  tree_keys_are = ap keys_of (tree_at m word root plain is) ∙ weighed-keys (tree_pairs m root)

  pub tree_numbers : AllByRecursion IsDocNumber (map (λ p. p.0) (tree_pairs m root))
  tree_numbers = subst (AllByRecursion IsDocNumber) tree_keys_are list.numbers

  pub tree_as_vector : (next top : ℕ) → next ≡ 8589934592 + top → is_vector next ≡ true → 8 < length (list_at m word) → AreOnes (list_at m word)
      → MayDo old new → MakesVector old new m n 0 (map (λ p. (p.0, pos 1)) (tree_pairs m root)) top → MakesList old new m n 0 (list_at m word) true next
  tree_as_vector next top made dense many all may makes =
      let same : map {B = ℕ × ℤ} (λ p. (p.0, pos 1)) (tree_pairs m root) ≡ list_at m word
      = ones_of_pairs (tree_pairs m root) (subst AreOnes (tree_at m word root plain is) all) ∙ sym (tree_at m word root plain is) in
      makes_vector old new m n 0 next 0 top (list_at m word) made dense (subst (λ (es : List (ℕ × ℤ)). MakesVector old new m n 0 es top) same makes)
      (flows_made old new m n 0 next may (turns-as old new m n (vector_part 0 ∷ []) (vector_part top ∷ []) (list_part 0 ∷ []) (list_part next ∷ []) makes.turns (λ r. refl) (vector_counted n next top made)))
      many (record { ascends = list.ascends; numbers = list.numbers }) (λ r. refl)

  pub blocks_counts : MakesWithin old new (vector_most (count_blocks (map (λ p. p.0) (tree_pairs m root))) (nodes_of (count_blocks (map (λ p. p.0) (tree_pairs m root)))))
      → MakesWithin old new (form_most false true (list_at m word))
  blocks_counts made = subst (λ ks. MakesWithin old new (vector_most (count_blocks ks) (nodes_of (count_blocks ks)))) (sym tree_keys_are) made
