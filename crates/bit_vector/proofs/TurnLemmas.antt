-- One block of a bit vector put in or taken out, in a store.
use Rattle.std.proofs.Common.{◌≡◌, ℕ, ◌+◌, ◌/◌, ◌%◌, cond, nat_eq, replicate, ◌-◌, List, [], ◌∷◌, ◌++◌, map, length, Option, None, Some, Result, Ok, Err, refl, sym, ap, ap₂, subst, ◌∙◌, arith}
use Rattle.std.specs.Prelude.{IfOk}
use Rattle.std.specs.declared.cmp.Ordering.{Ordering}
use Rattle.std.specs.declared.cmp.Ordering.TheVariants.{Less, Equal, Greater}
use Rattle.std.specs.List.{AllByRecursion}
use Rattle.std.specs.Ordering.{nat_cmp}
use Rattle.std.proofs.lemmas.List.{append-nil}
use Rattle.list_lemmas.proofs.Each.{AllByRecursion-each}
use Rattle.entry_ref.specs.Records.{Records, SameAt, Among}
use Rattle.arena_api.specs.Calls.{padded}
use Rattle.store_api.specs.Ledgers.{Ledger}
use Rattle.store_api.specs.Parts.{Part, After, AllStay, Owns, Turns, count_in, entry, entries, times}
use Rattle.store_api.specs.declared.store.StoreError.{StoreError}
use Rattle.store_api.proofs.PartLemmas.{after, owns-some, owns-then, turns-as, turns-then}
use Rattle.store_api.proofs.Times.{among-times, times-append, times-same}
use Rattle.store_api.proofs.Uses.{uses-few}
use Rattle.tree_read.specs.Keys.{IsKeyedTree}
use Rattle.tree_read.specs.Pairs.{choose, lookup, put, take_out}
use Rattle.tree_read.specs.ProofsForTrees.{tree_pairs-same, IsTree-same}
use Rattle.tree_read.specs.Trees.{tree_nodes, tree_pairs, by_number, IsTree}
use Rattle.tree_read.proofs.PairLemmas.{All-take_out}
use Rattle.frozen_btree.specs.Changes.{tree}
use Rattle.attr_types.specs.Lawful.{IsDocNumber}
use Rattle.image_format.specs.Postings.{block_documents, vector_documents, IsBlock}
use Rattle.index_model.specs.Sets.{has, in_words}
use Rattle.bit_vector.specs.Blocks.{beside_block, SetsBlock}
use Rattle.bit_vector.specs.Changes.{vector_part}
use Rattle.bit_vector.specs.Vectors.{vector_reach, IsVector}
use Rattle.bit_vector.proofs.KeepLemmas.{out_keeps, put_keeps}
use Rattle.bit_vector.proofs.VectorLemmas.{numbers_from, out_documents, put_documents, same_blocks, vector_stays, vector_documents-same}

-- a tree whose keys are numbers, as the calls of trees ask for it
abbrev pub IsNumberTree : Records → ℕ → Type 0
IsNumberTree m root = IsKeyedTree nat_cmp by_number (λ n key. Unit {0}) (λ n key. []) m root

pub number_keyed : (m : Records) (root : ℕ) → IsTree nat_cmp by_number m root → IsNumberTree m root
number_keyed m root is = record {
  tree = is;
  readable = AllByRecursion-each (λ (p : ℕ × ℕ). Unit {0}) (λ p. tt) (tree_pairs m root);
  apart = AllByRecursion-each (λ (p : ℕ × ℕ). Unit {0}) (λ p. tt) (tree_pairs m root);
}

-- the reference found, as a list
abbrev pub listed : Option ℕ → List ℕ
listed None = []
listed (Some ref) = ref ∷ []

abbrev pub refs : List (ℕ × ℕ) → List ℕ
refs ps = map (λ p. p.1) ps

module _ (r : ℕ) (c : ℕ → Ordering) where
  refs-out : (ps : List (ℕ × ℕ)) → times r (refs ps) ≡ times r (listed (lookup c ps)) + times r (refs (take_out c ps))
  refs-out [] = refl
  refs-out (p ∷ ps) =
      let rest = refs-out ps in
      elim (c p.0) as (λ o. times r (p.1 ∷ refs ps) ≡ times r (listed (choose o (lookup c ps) (Some p.1) None)) + times r (refs (choose o (p ∷ take_out c ps) ps (p ∷ ps)))) [
        | Less ↦ omega arith
        | Equal ↦ omega arith
        | Greater ↦ omega arith
      ]

  refs-put : (pair : ℕ × ℕ) (ps : List (ℕ × ℕ)) → times r (refs (put c pair ps)) ≡ times r (pair.1 ∷ []) + times r (refs (take_out c ps))
  refs-put pair [] = omega arith
  refs-put pair (p ∷ ps) =
      let rest = refs-put pair ps in
      elim (c p.0) as (λ o. times r (refs (choose o (p ∷ put c pair ps) (pair ∷ ps) (pair ∷ p ∷ ps))) ≡ times r (pair.1 ∷ []) + times r (refs (choose o (p ∷ take_out c ps) ps (p ∷ ps)))) [
        | Less ↦ omega arith
        | Equal ↦ omega arith
        | Greater ↦ omega arith
      ]

-- what holds of a pair and of all others holds where it was put in
all_put : (P : ℕ × ℕ → Type 0) (c : ℕ → Ordering) (pair : ℕ × ℕ) → P pair → (ps : List (ℕ × ℕ)) → AllByRecursion P (take_out c ps) → AllByRecursion P (put c pair ps)
all_put P c pair here [] all = (here, tt)
all_put P c pair here (p ∷ ps) all =
    (elim (c p.0) as (λ o. AllByRecursion P (choose o (p ∷ take_out c ps) ps (p ∷ ps)) → AllByRecursion P (choose o (p ∷ put c pair ps) (pair ∷ ps) (pair ∷ p ∷ ps))) [
      | Less ↦ λ h. (h.0, all_put P c pair here ps h.1)
      | Equal ↦ λ h. (here, h)
      | Greater ↦ λ h. (here, h)
    ]) all

-- nothing is dropped
pub drops_none : {H : Type 0} (b : Ledger H) (n : Records) → Turns b b n n (entries [] ∷ []) []
drops_none b n = record { kept = λ r h. refl; balance = λ r. omega arith }

-- the tree is changed, and then the old block is dropped
module _ {H : Type 0} (a b c : Ledger H) (m n o : Records) (root next k : ℕ) (old : List ℕ) (extra : List Part) (is : IsVector m root)
    (owns : Owns a m (vector_part root ∷ extra)) (was : listed (lookup (beside_block k) (tree_pairs m root)) ≡ old) where
  abbrev ps : List (ℕ × ℕ)
  ps = tree_pairs m root

  abbrev rest : List (ℕ × ℕ)
  rest = take_out (beside_block k) ps

  abbrev split : List Part
  split = tree root ∷ entries old ∷ entries (refs rest) ∷ extra

  counts_split : (r : ℕ) → count_in r m split ≡ count_in r m (vector_part root ∷ extra)
  counts_split r =
      let whole = times-append r (tree_nodes m root) (refs ps) in
      let parts = refs-out r (beside_block k) ps in
      let here = ap (times r) was in
      omega arith

  owns_split : Owns a m split
  owns_split = owns-some a m (vector_part root ∷ extra) split owns (λ r. let e = counts_split r in omega arith)

  pub owns_tree : Owns a m (tree root ∷ [])
  owns_tree = owns-some a m split (tree root ∷ []) owns_split (λ r. omega arith)

  module _ (changes : Turns a b m n (tree root ∷ []) (tree next ∷ [])) where
    abbrev between : List Part
    between = tree next ∷ entries old ∷ entries (refs rest) ∷ extra

    first : After a b m n split between (entries old ∷ entries (refs rest) ∷ extra)
    first = after a b m n (tree root ∷ []) (tree next ∷ []) (entries old ∷ entries (refs rest) ∷ extra) split between owns_split changes
        (λ h r. omega arith) (λ h r. omega arith)

    pub owns_old : Owns b n (entries old ∷ [])
    owns_old = owns-some b n between (entries old ∷ []) first.owns (λ r. omega arith)

    module _ (dropped : Turns b c n o (entries old ∷ []) []) where
      abbrev left : List Part
      left = tree next ∷ entries (refs rest) ∷ extra

      second : After b c n o between left left
      second = after b c n o (entries old ∷ []) [] left between left first.owns dropped (λ h r. omega arith) (λ h r. omega arith)

      both : Turns a c m o split left
      both = turns-then a b c m n o split between left first.turns second.turns

      rest_same : SameAt (refs rest) m o
      rest_same = then_same (refs rest) first.stay.1.0 second.stay.1.0
        where
          then_same : (rs : List ℕ) → SameAt rs m n → SameAt rs n o → SameAt rs m o
          then_same [] x y = tt
          then_same (r ∷ rs) x y = (y.0 ∙ x.0, then_same rs x.1 y.1)

      pub extra_stay : AllStay extra m n × AllStay extra n o
      extra_stay = (first.stay.1.1, second.stay.1.1)

      tree_same : SameAt (tree_nodes n next) n o
      tree_same = second.stay.0

      rest_blocks : AllByRecursion (λ p. IsBlock p.0 (o p.1)) rest
      rest_blocks = same_blocks m o rest rest_same (All-take_out (λ p. IsBlock p.0 (m p.1)) (beside_block k) ps is.blocks)

      module _ (tree_is : IsTree nat_cmp by_number n next) where
        tree_then : IsTree nat_cmp by_number o next
        tree_then = IsTree-same nat_cmp by_number n o next tree_same refl tree_is

        -- taken out
        module _ (pairs : tree_pairs n next ≡ take_out (beside_block k) ps) (none : (r : ℕ) → count_in r m extra ≡ 0) (none_then : (r : ℕ) → count_in r o extra ≡ 0) where
          out_pairs : tree_pairs o next ≡ take_out (beside_block k) ps
          out_pairs = tree_pairs-same n o next tree_same ∙ pairs

          out_have : (d : ℕ) → has (vector_documents o next) d ≡ cond (nat_eq (d / 4096) k) (in_words [] (d % 4096)) (has (vector_documents m root) d)
          out_have = out_documents m o k ps (tree_pairs o next) is.tree_is.ascends tree_then.ascends rest_same out_pairs

          out_turns : Turns a c m o (vector_part root ∷ []) (vector_part next ∷ [])
          out_turns = turns-as a c m o split left (vector_part root ∷ []) (vector_part next ∷ []) both
              (λ r. let e = counts_split r in let z = none r in omega arith)
              (λ r.
              let whole = times-append r (tree_nodes o next) (refs (tree_pairs o next)) in
              let here = ap (λ xs. times r (refs xs)) out_pairs in
              let z = none_then r in
              omega arith)

          pub takes_block : AllByRecursion IsDocNumber (block_documents k []) → Owns a m (vector_part root ∷ []) → SetsBlock a c m o root (vector_part root ∷ []) k [] next
          takes_block few alone = record {
            vector_is = record {
              tree_is = tree_then;
              blocks = subst (AllByRecursion (λ (p : ℕ × ℕ). IsBlock p.0 (o p.1))) (sym out_pairs) rest_blocks;
              numbers = numbers_from k [] (vector_documents m root) (vector_documents o next) few is.numbers out_have;
            };
            documents = out_have;
            blocks = out_keeps m o root next k is out_pairs;
            owns = owns-then a c m o (vector_part root ∷ []) (vector_part next ∷ []) alone out_turns;
            turns = out_turns;
          }

-- the record of a block put in
module _ {H : Type 0} (a b c : Ledger H) (m n o : Records) (root next k ref : ℕ) (old : List ℕ) (is : IsVector m root) (form : IsBlock k (m ref))
    (numbers : AllByRecursion IsDocNumber (block_documents k (m ref))) (owns : Owns a m (vector_part root ∷ entry ref ∷ []))
    (was : listed (lookup (beside_block k) (tree_pairs m root)) ≡ old) (changes : Turns a b m n (tree root ∷ []) (tree next ∷ []))
    (dropped : Turns b c n o (entries old ∷ []) []) (tree_is : IsTree nat_cmp by_number n next)
    (pairs : tree_pairs n next ≡ put (beside_block k) (k, ref) (tree_pairs m root)) where
  pub put_pairs : tree_pairs o next ≡ put (beside_block k) (k, ref) (tree_pairs m root)
  put_pairs = tree_pairs-same n o next (tree_same a b c m n o root next k old (entry ref ∷ []) is owns was changes dropped) ∙ pairs

  put_tree : IsTree nat_cmp by_number o next
  put_tree = tree_then a b c m n o root next k old (entry ref ∷ []) is owns was changes dropped tree_is

  words_same : o ref ≡ m ref
  words_same = let e = extra_stay a b c m n o root next k old (entry ref ∷ []) is owns was changes dropped in e.1.0.0 ∙ e.0.0.0

  put_have : (d : ℕ) → has (vector_documents o next) d ≡ cond (nat_eq (d / 4096) k) (in_words (m ref) (d % 4096)) (has (vector_documents m root) d)
  put_have d =
      put_documents m o k (tree_pairs m root) (tree_pairs o next) is.tree_is.ascends put_tree.ascends
      (rest_same a b c m n o root next k old (entry ref ∷ []) is owns was changes dropped) ref put_pairs d
      ∙ ap (λ ws. cond (nat_eq (d / 4096) k) (in_words ws (d % 4096)) (has (vector_documents m root) d)) words_same

  put_turns : Turns a c m o (vector_part root ∷ entry ref ∷ []) (vector_part next ∷ [])
  put_turns =
      let extra : List Part = entry ref ∷ [] in
      turns-as a c m o (split a b c m n o root next k old extra is owns was) (left a b c m n o root next k old extra is owns was changes dropped)
      (vector_part root ∷ entry ref ∷ []) (vector_part next ∷ []) (both a b c m n o root next k old extra is owns was changes dropped)
      (λ r. sym (counts_split a b c m n o root next k old extra is owns was r))
      (λ r.
      let whole = times-append r (tree_nodes o next) (refs (tree_pairs o next)) in
      let here = ap (λ xs. times r (refs xs)) put_pairs in
      let more = refs-put r (beside_block k) (k, ref) (tree_pairs m root) in
      omega arith)

  apart : Among ref (vector_reach m root) → ⊥
  apart there =
      let all = owns.each ref in
      let own = times-same ref ref [] refl in
      let other = among-times ref (vector_reach m root) there in
      let few = uses-few a ref in
      omega arith

  pub puts_block : SetsBlock a c m o root (vector_part root ∷ entry ref ∷ []) k (m ref) next
  puts_block = record {
    vector_is = record {
      tree_is = put_tree;
      blocks = subst (AllByRecursion (λ (p : ℕ × ℕ). IsBlock p.0 (o p.1))) (sym put_pairs)
          (all_put (λ p. IsBlock p.0 (o p.1)) (beside_block k) (k, ref) (subst (IsBlock k) (sym words_same) form) (tree_pairs m root)
          (rest_blocks a b c m n o root next k old (entry ref ∷ []) is owns was changes dropped));
      numbers = numbers_from k (m ref) (vector_documents m root) (vector_documents o next) numbers is.numbers put_have;
    };
    documents = put_have;
    blocks = put_keeps m o root next k ref put_pairs apart;
    owns = owns-then a c m o (vector_part root ∷ entry ref ∷ []) (vector_part next ∷ []) owns put_turns;
    turns = put_turns;
  }

-- the record of a block made, beside a bit vector
module _ {H : Type 0} (a b : Ledger H) (m n : Records) (root ref : ℕ) (owns : Owns a m (vector_part root ∷ [])) (made : Turns a b m n [] (entry ref ∷ [])) where
  pub made_after : After a b m n (vector_part root ∷ []) (vector_part root ∷ entry ref ∷ []) (vector_part root ∷ [])
  made_after = after a b m n [] (entry ref ∷ []) (vector_part root ∷ []) (vector_part root ∷ []) (vector_part root ∷ entry ref ∷ []) owns made
      (λ h r. omega arith) (λ h r. omega arith)

  pub made_owns : Owns b n (vector_part root ∷ entry ref ∷ [])
  made_owns = made_after.owns

  pub made_nodes : SameAt (tree_nodes m root) m n
  made_nodes = left_same (tree_nodes m root) (refs (tree_pairs m root)) made_after.stay.0
    where
      left_same : (xs ys : List ℕ) → SameAt (xs ++ ys) m n → SameAt xs m n
      left_same [] ys h = tt
      left_same (x ∷ xs) ys h = (h.0, left_same xs ys h.1)

  pub made_vector : IsVector m root → IsVector n root
  made_vector is = vector_stays m n root made_after.stay.0 is

  -- then put in
  pub sets_then : (c : Ledger H) (o : Records) (k next : ℕ) (words : List ℕ) → n ref ≡ words
      → SetsBlock b c n o root (vector_part root ∷ entry ref ∷ []) k (n ref) next → SetsBlock a c m o root (vector_part root ∷ []) k words next
  sets_then c o k next words is sets = record {
    vector_is = sets.vector_is;
    documents = λ d.
        sets.documents d
        ∙ ap₂ (λ (ws ds : List ℕ). cond (nat_eq (d / 4096) k) (in_words ws (d % 4096)) (has ds d)) is (vector_documents-same m n root made_after.stay.0);
    blocks = record {
      each = λ j r there old. ap (lookup (beside_block j)) (sym (tree_pairs-same m n root made_nodes))
          ∙ sets.blocks.each j r there (subst (Among r) (sym ((vector_part root).stays m n made_after.stay.0)) old);
    };
    owns = sets.owns;
    turns = turns-then a b c m n o (vector_part root ∷ []) (vector_part root ∷ entry ref ∷ []) (vector_part next ∷ []) made_after.turns sets.turns;
  }

pub sets_if : {H : Type 0} (a b c : Ledger H) (m n o : Records) (root ref k : ℕ) (words : List ℕ) → Owns a m (vector_part root ∷ []) → Turns a b m n [] (entry ref ∷ [])
    → n ref ≡ words → (answer : Result ℕ StoreError) → IfOk answer (SetsBlock b c n o root (vector_part root ∷ entry ref ∷ []) k (n ref))
    → IfOk answer (SetsBlock a c m o root (vector_part root ∷ []) k words)
sets_if a b c m n o root ref k words owns made is (Ok next) sets = sets_then a b m n root ref owns made c o k next words is sets
sets_if a b c m n o root ref k words owns made is (Err e) sets = tt

-- words of a block's size are stored as they are
pub padded_same : (words : List ℕ) → length words ≡ 64 → padded words 64 ≡ words
padded_same words size = ap (λ n. words ++ replicate (64 - n) 0) size ∙ append-nil words

-- where nothing has to be changed
pub sets_none : {H : Type 0} (a : Ledger H) (m : Records) (root k : ℕ) → IsVector m root → Owns a m (vector_part root ∷ [])
    → ((d : ℕ) → has (vector_documents m root) d ≡ cond (nat_eq (d / 4096) k) (in_words [] (d % 4096)) (has (vector_documents m root) d))
    → SetsBlock a a m m root (vector_part root ∷ []) k [] root
sets_none a m root k is owns same = record { vector_is = is; documents = same; blocks = record { each = λ j r there old. there }; owns = owns; turns = record { kept = λ r h. refl; balance = λ r. refl } }

-- what the calls of the tree say, as one
pub adds_block : {H : Type 0} (a b : Ledger H) (m n : Records) (root k ref value : ℕ) → IsVector m root → IsBlock k (m ref) → AllByRecursion IsDocNumber (block_documents k (m ref))
    → Owns a m (vector_part root ∷ entry ref ∷ []) → lookup (beside_block k) (tree_pairs m root) ≡ None → value ≡ ref → (answer : Result ℕ StoreError)
    → IfOk answer (IsNumberTree n) → IfOk answer (λ r. tree_pairs n r ≡ put (beside_block k) (k, value) (tree_pairs m root))
    → IfOk answer (λ r. Turns a b m n (tree root ∷ []) (tree r ∷ [])) → IfOk answer (SetsBlock a b m n root (vector_part root ∷ entry ref ∷ []) k (m ref))
adds_block a b m n root k ref value is form numbers owns lacks same (Ok next) keyed pairs turns =
    puts_block a b b m n n root next k ref [] is form numbers owns (ap listed lacks) turns (drops_none b n) keyed.tree
    (subst (λ v. tree_pairs n next ≡ put (beside_block k) (k, v) (tree_pairs m root)) same pairs)
adds_block a b m n root k ref value is form numbers owns lacks same (Err e) keyed pairs turns = tt
