-- A block of a bit vector moved out of a buffer.
use Rattle.std.proofs.Common.{◌≡◌, ◌≢◌, ℕ, zero, suc, ◌+◌, ◌*◌, ◌/◌, ◌%◌, ◌^◌, ◌<◌, ◌≤◌, Bool, true, false, true≢false, cond, nat_eq, List, [], ◌∷◌, ◌++◌, map, length, None, Some, Result, Ok, Err, inl, inr}
use Rattle.std.proofs.Common.{refl, sym, ap, ap₂, subst, ◌∙◌, arith}
use Rattle.std.proofs.Math.Nat.{pow-le-pow_right}
use Rattle.std.proofs.lemmas.Bool.{cases_eq, cases_lt, eqb-true}
use Rattle.std.proofs.lemmas.Cmp.{nat_cmp_total}
use Rattle.std.specs.Prelude.{IfOk}
use Rattle.std.specs.declared.cmp.Ordering.{Ordering}
use Rattle.std.specs.declared.cmp.Ordering.TheVariants.{Less, Equal, Greater}
use Rattle.std.specs.List.{AllByRecursion}
use Rattle.std.specs.Ordering.{nat_cmp, MatchOrdering}
use Rattle.std.specs.Cmp.{ranks}
use Rattle.entry_ref.proofs.Among.{SameAt-among}
use Rattle.entry_ref.specs.References.{buffer_of}
use Rattle.entry_ref.specs.Records.{Records, SameAt}
use Rattle.arena_api.specs.Calls.{padded}
use Rattle.list_lemmas.proofs.Each.{AllByRecursion-left, AllByRecursion-right}
use Rattle.store_api.specs.Calls.{IsUsedWidth}
use Rattle.store_api.specs.Ledgers.{Ledger}
use Rattle.store_api.specs.Parts.{Part, After, Owns, Turns, count_in, entry, entries, times}
use Rattle.store_api.specs.Statuses.{in_use}
use Rattle.store_api.specs.Units.{MayDo, MakesWithin}
use Rattle.store_api.specs.declared.store.StoreError.{StoreError}
use Rattle.store_api.proofs.PartLemmas.{after, owns-some, turns-as, turns-then}
use Rattle.store_api.proofs.Times.{times-append, times-same}
use Rattle.store_api.proofs.Uses.{uses-few, uses-in}
use Rattle.tree_read.proofs.PairLemmas.{lookup-put}
use Rattle.tree_read.proofs.TreeLemmas.{many_pairs}
use Rattle.tree_read.specs.Nodes.{level_of}
use Rattle.tree_read.specs.Pairs.{choose, lookup, put}
use Rattle.tree_read.specs.ProofsForTrees.{tree_pairs-same}
use Rattle.tree_read.specs.Trees.{tree_nodes, tree_pairs, IsRootNode}
use Rattle.frozen_btree.specs.Changes.{levels, tree}
use Rattle.frozen_btree.specs.Makes.{CountsNodes}
use Rattle.frozen_btree.specs.Paths.{path_nodes, NoneIn}
use Rattle.frozen_btree.proofs.TouchTreeLemmas.{none-apart}
use Rattle.frozen_btree.proofs.UsedLemmas.{node_used, used_at}
use Rattle.doc_vector.proofs.DocumentLemmas.{same_number, other_number}
use Rattle.doc_vector.proofs.MapLemmas.{put_others}
use Rattle.index_model.proofs.DocLemmas.{same_ascending}
use Rattle.index_model.specs.Sets.{has, in_words}
use Rattle.attr_types.specs.Lawful.{IsDocNumber}
use Rattle.image_format.specs.Postings.{block_documents, vector_documents, IsBlock}
use Rattle.bit_vector.specs.Blocks.{beside_block, SetsBlock}
use Rattle.bit_vector.specs.Changes.{vector_most, vector_part}
use Rattle.bit_vector.specs.Keeps.{block_at}
use Rattle.bit_vector.specs.Moves.{CopiesBlock, MovesBlock, MovesWay, PutsBlock}
use Rattle.bit_vector.specs.Vectors.{blocks_documents, IsVector}
use Rattle.bit_vector.proofs.CountLemmas.{within_both, within_more, within_nodes, within_then, within_wider}
use Rattle.bit_vector.proofs.DropLemmas.{blocks_few, blocks_small}
use Rattle.bit_vector.proofs.KeepLemmas.{some_is, block_among}
use Rattle.bit_vector.proofs.TurnLemmas.{refs, IsNumberTree, made_after, made_nodes, made_owns, made_vector, padded_same}
use Rattle.bit_vector.proofs.VectorLemmas.{bit_there, found_all, same_blocks, vector_ascends, vector_documents-same}

-- ---- a bit vector has at most 3 levels of nodes
levels_low : (m : Records) (root : ℕ) → (0 < root → IsRootNode m root) → length (tree_pairs m root) ≤ 256 → levels m root ≤ 3
levels_low m zero node few = omega arith
levels_low m (suc ref) node few = elim (cases_lt 3 (levels m (suc ref))) [
  | inl over ↦ absurd (
      let above : 0 < level_of (m (suc ref)) = omega arith in
      let high : 3 ≤ level_of (m (suc ref)) = omega arith in
      let many = many_pairs m (suc ref) (omega arith) (node (omega arith)) above in
      let more : 8 ^ 3 ≤ 8 ^ level_of (m (suc ref)) = pow-le-pow_right (omega arith) high in
      omega (arith, many, more, few))
  | inr low ↦ low
]

pub vector_low : (m : Records) (root : ℕ) → IsVector m root → levels m root ≤ 3
vector_low m root is = levels_low m root is.tree_is.node (blocks_few (tree_pairs m root) is.tree_is.ascends (blocks_small m (tree_pairs m root) is.blocks is.numbers))

-- ---- the way to a block
same_documents : (m n : Records) (ps : List (ℕ × ℕ)) → SameAt (refs ps) m n → blocks_documents n ps ≡ blocks_documents m ps
same_documents m n [] same = refl
same_documents m n (p ∷ ps) same = ap₂ (λ (xs ys : List ℕ). xs ++ ys) (ap (block_documents p.0) same.0) (same_documents m n ps same.1)

module _ {H : Type 0} (bits buffer k : ℕ) (a b : Ledger H) (m n : Records) (root : ℕ) (is : IsVector m root) (owns : Owns a m (vector_part root ∷ [])) where
  abbrev ps : List (ℕ × ℕ)
  ps = tree_pairs m root

  abbrev split : List Part
  split = tree root ∷ entries (refs ps) ∷ []

  counts_split : (r : ℕ) → count_in r m split ≡ count_in r m (vector_part root ∷ [])
  counts_split r = let whole = times-append r (tree_nodes m root) (refs ps) in omega arith

  owns_split : Owns a m split
  owns_split = owns-some a m (vector_part root ∷ []) split owns (λ r. let e = counts_split r in omega arith)

  pub way_owned : Owns a m (tree root ∷ [])
  way_owned = owns-some a m split (tree root ∷ []) owns_split (λ r. omega arith)

  module _ (next : ℕ) (keyed : IsNumberTree n next) (pairs : tree_pairs n next ≡ ps) (apart : NoneIn bits buffer (path_nodes n (beside_block k) next))
      (turns : Turns a b m n (tree root ∷ []) (tree next ∷ [])) where
    abbrev left : List Part
    left = tree next ∷ entries (refs ps) ∷ []

    step : After a b m n split left (entries (refs ps) ∷ [])
    step = after a b m n (tree root ∷ []) (tree next ∷ []) (entries (refs ps) ∷ []) split left owns_split turns (λ h r. omega arith) (λ h r. omega arith)

    documents_are : vector_documents n next ≡ vector_documents m root
    documents_are = ap (blocks_documents n) pairs ∙ same_documents m n ps step.stay.0

    counts_left : (r : ℕ) → count_in r n left ≡ count_in r n (vector_part next ∷ [])
    counts_left r =
        let whole = times-append r (tree_nodes n next) (refs (tree_pairs n next)) in
        let here = ap (λ xs. times r (refs xs)) pairs in
        omega arith

    way_made : MovesWay bits buffer k a b m n root next
    way_made = record {
      vector_is = record {
        tree_is = keyed.tree;
        blocks = subst (AllByRecursion (λ (p : ℕ × ℕ). IsBlock p.0 (n p.1))) (sym pairs) (same_blocks m n ps step.stay.0 is.blocks);
        numbers = subst (AllByRecursion IsDocNumber) (sym documents_are) is.numbers;
      };
      documents = documents_are;
      pairs = pairs;
      way = apart;
      owns = owns-some b n left (vector_part next ∷ []) step.owns (λ r. let e = counts_left r in omega arith);
      turns = turns-as a b m n split left (vector_part root ∷ []) (vector_part next ∷ []) step.turns (λ r. sym (counts_split r)) (λ r. sym (counts_left r));
    }

  pub way_if : (answer : Result ℕ StoreError) → IfOk answer (IsNumberTree n) → IfOk answer (λ r. tree_pairs n r ≡ ps)
      → IfOk answer (λ r. NoneIn bits buffer (path_nodes n (beside_block k) r)) → IfOk answer (λ r. Turns a b m n (tree root ∷ []) (tree r ∷ []))
      → IfOk answer (MovesWay bits buffer k a b m n root)
  way_if (Err e) keyed pairs apart turns = tt
  way_if (Ok next) keyed pairs apart turns = way_made next keyed pairs apart turns

-- ---- a block whose record does not lie in the buffer
pub way_moves : {H : Type 0} (bits buffer k : ℕ) (a b : Ledger H) (m n : Records) (root : ℕ) → ((r : ℕ) → block_at m root k ≡ Some r → buffer_of bits r ≢ buffer)
    → (answer : Result ℕ StoreError) → IfOk answer (MovesWay bits buffer k a b m n root) → IfOk answer (MovesBlock bits buffer k a b m n root)
way_moves bits buffer k a b m n root apart (Err e) way = tt
way_moves bits buffer k a b m n root apart (Ok next) way = record {
  vector_is = way.vector_is;
  documents = way.documents;
  numbers = ap (map (λ p. p.0)) way.pairs;
  apart = record { way = way.way; block = λ r there. apart r (sym (ap (lookup (beside_block k)) way.pairs) ∙ there) };
  blocks = record { each = λ j r there used. sym (ap (lookup (beside_block j)) way.pairs) ∙ there };
  owns = way.owns;
  turns = way.turns;
}

-- ---- a copy in place of a block's record
number_is : (j k : ℕ) → nat_cmp j k ≡ Equal → j ≡ k
number_is j k e = told (nat_cmp j k) e (ranks j k)
  where
    told : (o : Ordering) → o ≡ Equal → MatchOrdering o (j < k) (j ≡ k) (k < j) → j ≡ k
    told Less is rank = absurd (grind (arith, is))
    told Equal is rank = rank
    told Greater is rank = absurd (grind (arith, is))

put_numbers : (k x old : ℕ) (ps : List (ℕ × ℕ)) → lookup (beside_block k) ps ≡ Some old → map (λ p. p.0) (put (beside_block k) (k, x) ps) ≡ map (λ p. p.0) ps
put_numbers k x old [] found = absurd (grind (arith, found))
put_numbers k x old (p ∷ ps) found =
    (elim (nat_cmp p.0 k) as (λ o. nat_cmp p.0 k ≡ o → choose o (lookup (beside_block k) ps) (Some p.1) None ≡ Some old
    → map (λ q. q.0) (choose o (p ∷ put (beside_block k) (k, x) ps) ((k, x) ∷ ps) ((k, x) ∷ p ∷ ps)) ≡ map (λ q. q.0) (p ∷ ps)) [
      | Less ↦ λ e h. ap (λ (ns : List ℕ). p.0 ∷ ns) (put_numbers k x old ps h)
      | Equal ↦ λ e h. ap (λ (j : ℕ). j ∷ map (λ q. q.0) ps) (sym (number_is p.0 k e))
      | Greater ↦ λ e h. absurd (grind (arith, h))
    ]) refl found

-- the documents are the same, since the words are
pub put_copies : {H : Type 0} (a c : Ledger H) (m o : Records) (root next k copy block : ℕ) → IsVector m root → block_at m root k ≡ Some block → m copy ≡ m block
    → tree_pairs o next ≡ put (beside_block k) (k, copy) (tree_pairs m root) → SetsBlock a c m o root (vector_part root ∷ entry copy ∷ []) k (m copy) next
    → PutsBlock a c m o root k copy next
put_copies a c m o root next k copy block is has_block same pairs sets = record {
  vector_is = sets.vector_is;
  documents = same_ascending (vector_documents o next) (vector_documents m root) (vector_ascends o next sets.vector_is) (vector_ascends m root is)
      (λ doc. sets.documents doc ∙ told doc (nat_eq (doc / 4096) k) refl);
  pairs = pairs;
  owns = sets.owns;
  turns = sets.turns;
}
  where
    told : (doc : ℕ) (t : Bool) → nat_eq (doc / 4096) k ≡ t → cond t (in_words (m copy) (doc % 4096)) (has (vector_documents m root) doc) ≡ has (vector_documents m root) doc
    told doc true here =
        let at : doc / 4096 ≡ k = eqb-true (doc / 4096) k here in
        let whole : 4096 * k + doc % 4096 ≡ doc = omega (arith, at) in
        ap (λ ws. in_words ws (doc % 4096)) same
        ∙ bit_there m (tree_pairs m root) is.tree_is.ascends k (doc % 4096) (omega arith) block has_block
        ∙ ap (has (vector_documents m root)) whole
    told doc false apart = refl

-- the record copied, put in, and the way to it moved
module _ {H : Type 0} (bits buffer k : ℕ) (a b c d : Ledger H) (m n o p : Records) (root copy next : ℕ) (is : IsVector m root) (owns : Owns a m (vector_part root ∷ []))
    (block : ℕ) (has_block : block_at m root k ≡ Some block) (copies : CopiesBlock bits a b m n block copy) (sealed : b.sealed buffer ≡ true)
    (puts : PutsBlock b c n o root k copy next) where
  nodes_stay : SameAt (tree_nodes m root) m n
  nodes_stay = made_nodes a b m n root copy owns copies.turns

  pairs_stay : tree_pairs n root ≡ tree_pairs m root
  pairs_stay = tree_pairs-same m n root nodes_stay

  not_old : in_use (a.status copy) ≡ true → ⊥
  not_old used =
      let t = copies.turns.balance copy in
      let own = times-same copy copy [] refl in
      let was = uses-in a copy used in
      let few = uses-few b copy in
      omega arith

  elsewhere : buffer_of bits copy ≢ buffer
  elsewhere here = true≢false (sym sealed ∙ sym (ap b.sealed here) ∙ copies.unsealed)

  module _ (final : ℕ) (way : MovesWay bits buffer k c d o p next final) where
    pairs_are : tree_pairs p final ≡ put (beside_block k) (k, copy) (tree_pairs m root)
    pairs_are = way.pairs ∙ puts.pairs ∙ ap (put (beside_block k) (k, copy)) pairs_stay

    here : block_at p final k ≡ Some copy
    here = ap (lookup (beside_block k)) pairs_are ∙ lookup-put (beside_block k) (k, copy) (tree_pairs m root) (same_number k)

    copy_is : (r : ℕ) → block_at p final k ≡ Some r → copy ≡ r
    copy_is r there = same (sym here ∙ there)
      where
        same : Some copy ≡ Some r → copy ≡ r
        same e = cc

    block_was : (j r : ℕ) → block_at p final j ≡ Some r → in_use (a.status r) ≡ true → block_at m root j ≡ Some r
    block_was j r there used = elim (cases_eq j k) [
      | inl e ↦ absurd (not_old (subst (λ (x : ℕ). in_use (a.status x) ≡ true) (sym (copy_is r (subst (λ (i : ℕ). block_at p final i ≡ Some r) e there))) used))
      | inr apart ↦
          sym (ap (lookup (beside_block j)) pairs_are
          ∙ put_others nat_cmp nat_cmp_total (λ x. x) k j (other_number k j apart) (k, copy) (tree_pairs m root) (same_number k)) ∙ there
    ]

    pub found_moves : MovesBlock bits buffer k a d m p root final
    found_moves = record {
      vector_is = way.vector_is;
      documents = way.documents ∙ puts.documents ∙ vector_documents-same m n root (made_after a b m n root copy owns copies.turns).stay.0;
      numbers = ap (map (λ q. q.0)) pairs_are ∙ put_numbers k copy block (tree_pairs m root) has_block;
      apart = record { way = way.way; block = λ r there lies. elsewhere (ap (buffer_of bits) (copy_is r there) ∙ lies) };
      blocks = record { each = block_was };
      owns = way.owns;
      turns = turns-then a c d m o p (vector_part root ∷ []) (vector_part next ∷ []) (vector_part final ∷ [])
          (turns-then a b c m n o (vector_part root ∷ []) (vector_part root ∷ entry copy ∷ []) (vector_part next ∷ [])
          (made_after a b m n root copy owns copies.turns).turns puts.turns) way.turns;
    }

  pub found_moves_by : (answer : Result ℕ StoreError) → IfOk answer (MovesWay bits buffer k c d o p next) → IfOk answer (MovesBlock bits buffer k a d m p root)
  found_moves_by (Err e) way = tt
  found_moves_by (Ok final) way = found_moves final way

-- ---- counts
sum_most : (l h w : ℕ) → l ≤ 3 → h ≤ 3 → vector_most 1 (2 * l + 1) w + vector_most 0 h w ≤ vector_most 1 10 w
sum_most l h w low high =
    elim (nat_eq w 64) as (λ t. cond t 1 (cond (nat_eq w 34) (2 * l + 1) 0) + cond t 0 (cond (nat_eq w 34) h 0) ≤ cond t 1 (cond (nat_eq w 34) 10 0)) [
      | true ↦ omega arith
      | false ↦ elim (nat_eq w 34) as (λ u. cond u (2 * l + 1) 0 + cond u h 0 ≤ cond u 10 0) [ true ↦ omega arith | false ↦ omega arith ]
    ]

pub moved_within : {H : Type 0} (a b c d : Ledger H) (l h : ℕ) → l ≤ 3 → h ≤ 3 → MayDo a b → MayDo a c → MakesWithin a b (vector_most 1 0) → CountsNodes b c (2 * l + 1) → CountsNodes c d h
    → MakesWithin a d (vector_most 1 10)
moved_within a b c d l h low high first both copy put way =
    within_more a d (λ w. vector_most 1 (2 * l + 1) w + vector_most 0 h w) (vector_most 1 10) (λ w. sum_most l h w low high)
    (within_then a c d (vector_most 1 (2 * l + 1)) (vector_most 0 h) both (within_both a b c 1 (2 * l + 1) first copy put) (within_nodes c d h way))

-- ---- widths
pub block_used : {H : Type 0} (a : Ledger H) (m : Records) (root k block : ℕ) → IsVector m root → Owns a m (vector_part root ∷ []) → block_at m root k ≡ Some block → IsUsedWidth a m 64
block_used a m root k block is owns found =
    used_at a m (vector_part root) block 64 owns (block_among m root k block found)
    (found_all (λ p. IsBlock p.0 (m p.1)) k (tree_pairs m root) block is.blocks found).size

pub way_used : {H : Type 0} (a : Ledger H) (m : Records) (root : ℕ) → IsVector m root → Owns a m (vector_part root ∷ []) → 0 < root → IsUsedWidth a m 34
way_used a m root is owns some = node_used a m root is.tree_is.node some (way_owned 0 0 0 a a m m root is owns)

pub root_some : (m : Records) (root k block : ℕ) → block_at m root k ≡ Some block → 0 < root
root_some m zero k block found = absurd (grind (arith, found))
root_some m (suc ref) k block found = omega arith

-- ---- a copy of a block
pub copy_form : (m : Records) (root k copy block : ℕ) → IsVector m root → block_at m root k ≡ Some block → m copy ≡ m block → IsBlock k (m copy)
copy_form m root k copy block is found same = subst (IsBlock k) (sym same) (found_all (λ p. IsBlock p.0 (m p.1)) k (tree_pairs m root) block is.blocks found)

numbers_in : (m : Records) (qs : List (ℕ × ℕ)) → AllByRecursion IsDocNumber (blocks_documents m qs) → AllByRecursion (λ p. AllByRecursion IsDocNumber (block_documents p.0 (m p.1))) qs
numbers_in m [] all = tt
numbers_in m (q ∷ qs) all = (
  AllByRecursion-left IsDocNumber (block_documents q.0 (m q.1)) (blocks_documents m qs) all,
  numbers_in m qs (AllByRecursion-right IsDocNumber (block_documents q.0 (m q.1)) (blocks_documents m qs) all),
)

pub copy_numbers : (m : Records) (root k copy block : ℕ) → IsVector m root → block_at m root k ≡ Some block → m copy ≡ m block
    → AllByRecursion IsDocNumber (block_documents k (m copy))
copy_numbers m root k copy block is found same = subst (λ (ws : List ℕ). AllByRecursion IsDocNumber (block_documents k ws)) (sym same)
    (found_all (λ p. AllByRecursion IsDocNumber (block_documents p.0 (m p.1))) k (tree_pairs m root) block (numbers_in m (tree_pairs m root) is.numbers) found)

pub copies_if : {H : Type 0} (bits : ℕ) (a b : Ledger H) (m n : Records) (block : ℕ) (words : List ℕ) → words ≡ m block → length (m block) ≡ 64 → (answer : Result ℕ StoreError)
    → IfOk answer (λ r. Turns a b m n [] (entry r ∷ [])) → IfOk answer (λ r. n r ≡ padded words 64) → IfOk answer (λ r. b.sealed (buffer_of bits r) ≡ false)
    → IfOk answer (CopiesBlock bits a b m n block)
copies_if bits a b m n block words are size (Err e) turns is unsealed = tt
copies_if bits a b m n block words are size (Ok copy) turns is unsealed = record {
  same = is ∙ padded_same words (ap (λ (ws : List ℕ). length ws) are ∙ size) ∙ are;
  unsealed = unsealed;
  turns = turns;
}

-- what put_copy asks for, once the copy was made
module _ {H : Type 0} (bits : ℕ) (a b : Ledger H) (m n : Records) (root k copy block : ℕ) (is : IsVector m root) (owns : Owns a m (vector_part root ∷ []))
    (found : block_at m root k ≡ Some block) (copies : CopiesBlock bits a b m n block copy) where
  pub copied_vector : IsVector n root
  copied_vector = made_vector a b m n root copy owns copies.turns is

  pub copied_owns : Owns b n (vector_part root ∷ entry copy ∷ [])
  copied_owns = made_owns a b m n root copy owns copies.turns

  pub copied_has : block_at n root k ≡ Some block
  copied_has = ap (lookup (beside_block k)) (tree_pairs-same m n root (made_nodes a b m n root copy owns copies.turns)) ∙ found

  pub copied_same : n copy ≡ n block
  copied_same = copies.same ∙ sym (SameAt-among m n ((vector_part root).reach m) (made_after a b m n root copy owns copies.turns).stay.0 block (block_among m root k block found))

-- nothing is done in a tree without nodes
pub nothing_moves : {H : Type 0} (bits buffer k : ℕ) (a : Ledger H) (m : Records) (root : ℕ) → IsVector m root → Owns a m (vector_part root ∷ []) → block_at m root k ≡ None → root ≡ 0
    → MovesBlock bits buffer k a a m m root root
nothing_moves bits buffer k a m root is owns lacks none = record {
  vector_is = is;
  documents = refl;
  numbers = refl;
  apart = record { way = none-apart bits buffer m (beside_block k) root none; block = λ r there. absurd (no_some r (sym lacks ∙ there)) };
  blocks = record { each = λ j r there used. there };
  owns = owns;
  turns = record { kept = λ r h. refl; balance = λ r. refl };
}
  where
    no_some : (r : ℕ) → None ≡ Some r → ⊥
    no_some r e = grind (arith, e)

pub none_found : (bits buffer k : ℕ) (m : Records) (root : ℕ) → block_at m root k ≡ None → (r : ℕ) → block_at m root k ≡ Some r → buffer_of bits r ≢ buffer
none_found bits buffer k m root lacks r there = absurd (no_some (sym lacks ∙ there))
  where
    no_some : None ≡ Some r → ⊥
    no_some e = grind (arith, e)

pub one_found : (bits buffer k : ℕ) (m : Records) (root block : ℕ) → block_at m root k ≡ Some block → buffer_of bits block ≢ buffer
    → (r : ℕ) → block_at m root k ≡ Some r → buffer_of bits r ≢ buffer
one_found bits buffer k m root block found apart r there = subst (λ x. buffer_of bits x ≢ buffer) (sym (some_is block r (sym found ∙ there))) apart

-- what the way makes, as a move
pub way_within : {H : Type 0} (a b : Ledger H) (h : ℕ) → h ≤ 3 → CountsNodes a b h → MakesWithin a b (vector_most 1 10)
way_within a b h low made = within_wider a b 0 1 h 10 (omega arith) (omega (arith, low)) (within_nodes a b h made)
