-- Bit vectors joined block by block.
use Rattle.std.proofs.Common.{◌≡◌, ◌≢◌, ℕ, ◌+◌, ◌*◌, ◌/◌, ◌%◌, ◌<◌, ◌≤◌, Bool, true, false, ◌&&◌, ◌||◌, List, [], ◌∷◌, ℤ, length, map, drop, get_or, nat_eq, nat_lt, Option, Some, None, refl, sym, ap, ap₂, subst, ◌∙◌, arith}
use mathlib.Core.Bool.{and-true}
use Rattle.std.specs.List.{AllByRecursion}
use Rattle.std.specs.Map.{keys_of}
use Rattle.std.specs.Prelude.{IfSome}
use Rattle.std.proofs.lemmas.Bool.{eqb-true, eqb-false, lt-ltb, le-ltb, ltb-true, ltb-false, false≢true}
use Rattle.std.proofs.lemmas.List.{drop_all, drop_more, at_drop_more}
use Rattle.entry_ref.specs.Records.{Records}
use Rattle.image_format.proofs.BlockLemmas.{block_has_bits}
use Rattle.image_format.specs.Postings.{block_documents}
use Rattle.image_format.specs.declared.TheConstants.{FIRST_VECTOR}
use Rattle.attr_types.specs.Lawful.{IsDocNumber}
use Rattle.attr_types.specs.Query.{and, or, tree_of, query_trees}
use Rattle.attr_types.specs.declared.query.Query.{Query}
use Rattle.index_model.proofs.BitLemmas.{by_cases}
use Rattle.index_model.specs.Found.{found, found_all, found_some}
use Rattle.index_model.specs.Index.{Index}
use Rattle.index_model.specs.Postings.{HaveDocNumbers}
use Rattle.index_model.specs.Sets.{has, in_words}
use Rattle.query_eval.specs.Lists.{list_has, all_have, some_has, AreListWords, AreListsOf, AreVectorWords}
use Rattle.query_eval.proofs.BlockLemmas.{all_has}

and_left : (a b : Bool) → (a && b) ≡ true → a ≡ true
and_left true b is = refl
and_left false b is = is

and_right : (a b : Bool) → (a && b) ≡ true → b ≡ true
and_right true b is = is
and_right false b is = absurd (false≢true is)

and_apart : (a b c : Bool) → ((a && b) && c) ≡ (a && (b && c))
and_apart true b c = refl
and_apart false b c = refl

or_apart : (a b c : Bool) → ((a || b) || c) ≡ (a || (b || c))
or_apart true b c = refl
or_apart false b c = refl

or_false : (b : Bool) → b ≡ (b || false)
or_false true = refl
or_false false = refl

and_false : (b : Bool) → (b && false) ≡ false
and_false true = refl
and_false false = refl

-- what holds of the rest holds of the rest behind one
pub all_after : (P : ℕ → Type 0) (lists : List ℕ) (n : ℕ) → n < length lists → AllByRecursion P (drop n lists) → AllByRecursion P (drop (n + 1) lists)
all_after P lists n within all = (subst (AllByRecursion P) (drop_more lists n 0 within) all).1

first_same : (a b : Bool) (xs ys : List Bool) → ◌≡◌ {A = List Bool} (a ∷ xs) (b ∷ ys) → a ≡ b
first_same a b xs ys same = cc

rest_same : (a b : Bool) (xs ys : List Bool) → ◌≡◌ {A = List Bool} (a ∷ xs) (b ∷ ys) → xs ≡ ys
rest_same a b xs ys same = cc

-- one list more
module _ (m : Records) (doc : ℕ) (lists : List ℕ) (n : ℕ) where
  pub all_more : (list : ℕ) (bits next own whole : Bool) → n < length lists → list ≡ get_or lists n 0 → next ≡ (bits && own)
      → own ≡ list_has m list doc → (bits && all_have m (drop n lists) doc) ≡ whole → (next && all_have m (drop (n + 1) lists) doc) ≡ whole
  all_more list bits next own whole within item narrows is before =
      ap (λ b. b && all_have m (drop (n + 1) lists) doc) narrows
      ∙ ap (λ b. (bits && b) && all_have m (drop (n + 1) lists) doc) is
      ∙ and_apart bits (list_has m list doc) (all_have m (drop (n + 1) lists) doc)
      ∙ ap (λ l. bits && (list_has m l doc && all_have m (drop (n + 1) lists) doc)) item
      ∙ sym (at_drop_more (λ (ls : List ℕ). bits && all_have m ls doc) lists n 0 within)
      ∙ before

  pub some_more : (list : ℕ) (bits next own whole : Bool) → n < length lists → list ≡ get_or lists n 0 → next ≡ (bits || own)
      → own ≡ list_has m list doc → (bits || some_has m (drop n lists) doc) ≡ whole → (next || some_has m (drop (n + 1) lists) doc) ≡ whole
  some_more list bits next own whole within item narrows is before =
      ap (λ b. b || some_has m (drop (n + 1) lists) doc) narrows
      ∙ ap (λ b. (bits || b) || some_has m (drop (n + 1) lists) doc) is
      ∙ or_apart bits (list_has m list doc) (some_has m (drop (n + 1) lists) doc)
      ∙ ap (λ l. bits || (list_has m l doc || some_has m (drop (n + 1) lists) doc)) item
      ∙ sym (at_drop_more (λ (ls : List ℕ). bits || some_has m ls doc) lists n 0 within)
      ∙ before

  pub all_ends : (bits whole : Bool) → length lists ≤ n → (bits && all_have m (drop n lists) doc) ≡ whole → bits ≡ whole
  all_ends bits whole past before = sym (and-true bits) ∙ ap (λ (ls : List ℕ). bits && all_have m ls doc) (sym (drop_all n lists past)) ∙ before

  pub some_ends : (bits whole : Bool) → length lists ≤ n → (bits || some_has m (drop n lists) doc) ≡ whole → bits ≡ whole
  some_ends bits whole past before = or_false bits ∙ ap (λ (ls : List ℕ). bits || some_has m ls doc) (sym (drop_all n lists past)) ∙ before

-- the documents of a block whose bits are told by a test of its documents
block_is : (block : ℕ) (ws : List ℕ) (test : ℕ → Bool) → ((i : ℕ) → i < 4096 → in_words ws i ≡ test (4096 * block + i)) → (doc : ℕ)
    → has (block_documents block ws) doc ≡ (nat_eq (doc / 4096) block && test doc)
block_is block ws test is doc = block_has_bits block doc ws ∙ by_cases (nat_eq (doc / 4096) block)
    (λ here.
    let own : doc / 4096 ≡ block = eqb-true (doc / 4096) block here in
    let whole : 4096 * block + doc % 4096 ≡ doc = omega (arith, own) in
    ap (λ b. nat_eq (doc / 4096) block && b) (is (doc % 4096) (omega arith) ∙ ap test whole))
    (λ off. ap (λ b. b && in_words ws (doc % 4096)) off ∙ sym (ap (λ b. b && test doc) off))

module _ (m : Records) (lists : List ℕ) (block : ℕ) (ws : List ℕ) where
  -- what all lists have of a block
  pub kept_block : (words : List ℕ) → ((i : ℕ) → i < 4096 → in_words ws i ≡ (in_words words i && all_have m lists (4096 * block + i))) → (doc : ℕ)
      → has (block_documents block ws) doc ≡ (has (block_documents block words) doc && all_have m lists doc)
  kept_block words are doc =
      block_is block ws (λ d. in_words words (d % 4096) && all_have m lists d)
      (λ i below.
      let place : (4096 * block + i) % 4096 ≡ i = omega (arith, below) in
      are i below ∙ ap (λ p. in_words words p && all_have m lists (4096 * block + i)) (sym place)) doc
      ∙ sym (and_apart (nat_eq (doc / 4096) block) (in_words words (doc % 4096)) (all_have m lists doc))
      ∙ ap (λ b. b && all_have m lists doc) (sym (block_has_bits block doc words))

  pub kept_number : (words : List ℕ) → ((doc : ℕ) → has (block_documents block words) doc ≡ true → IsDocNumber doc)
      → ((i : ℕ) → i < 4096 → in_words ws i ≡ (in_words words i && all_have m lists (4096 * block + i)))
      → (doc : ℕ) → has (block_documents block ws) doc ≡ true → IsDocNumber doc
  kept_number words numbers are doc is =
      numbers doc (and_left (has (block_documents block words) doc) (all_have m lists doc) (sym (kept_block words are doc) ∙ is))

  -- what some list has of it
  pub added_block : (words : List ℕ) → ((i : ℕ) → in_words words i ≡ false)
      → ((i : ℕ) → i < 4096 → in_words ws i ≡ (in_words words i || some_has m lists (4096 * block + i))) → (doc : ℕ)
      → has (block_documents block ws) doc ≡ (nat_eq (doc / 4096) block && some_has m lists doc)
  added_block words none are = block_is block ws (some_has m lists)
      (λ i below. are i below ∙ ap (λ b. b || some_has m lists (4096 * block + i)) (none i))

key_numbers : (list : List (ℕ × ℤ)) → HaveDocNumbers list → AllByRecursion IsDocNumber (keys_of list)
key_numbers [] all = tt
key_numbers (p ∷ ps) all = (all.0, key_numbers ps all.1)

pub some_number : (m : Records) (lists : List ℕ) (doc : ℕ) → AreVectorWords m lists → some_has m lists doc ≡ true → IsDocNumber doc
some_number m [] doc are is = absurd (false≢true is)
some_number m (list ∷ lists) doc are is = by_cases (list_has m list doc)
    (λ here. all_has IsDocNumber _ (key_numbers _ are.0.word.1) doc here)
    (λ off. some_number m lists doc are.1 (sym (ap (λ b. b || some_has m lists doc) off) ∙ is))

pub added_number : (m : Records) (lists : List ℕ) (block : ℕ) (ws words : List ℕ) → AreVectorWords m lists → ((i : ℕ) → in_words words i ≡ false)
    → ((i : ℕ) → i < 4096 → in_words ws i ≡ (in_words words i || some_has m lists (4096 * block + i)))
    → (doc : ℕ) → has (block_documents block ws) doc ≡ true → IsDocNumber doc
added_number m lists block ws words lawful none are doc is =
    some_number m lists doc lawful (and_right (nat_eq (doc / 4096) block) (some_has m lists doc) (sym (added_block m lists block ws words none are doc) ∙ is))

-- one block more
pub blocks_more : (block doc : ℕ) (some now next : Bool) → now ≡ (nat_lt doc (4096 * block) && some)
    → next ≡ (now || (nat_eq (doc / 4096) block && some)) → next ≡ (nat_lt doc (4096 * (block + 1)) && some)
blocks_more block doc some now next before is = by_cases (nat_eq (doc / 4096) block)
    (λ here.
    let own : doc / 4096 ≡ block = eqb-true (doc / 4096) block here in
    is ∙ ap₂ (λ a b. a || (b && some)) (before ∙ ap (λ b. b && some) (le-ltb doc (4096 * block) (omega (arith, own)))) here
    ∙ ap (λ b. b && some) (sym (lt-ltb doc (4096 * (block + 1)) (omega (arith, own)))))
    (λ off.
    let apart : doc / 4096 ≢ block = eqb-false (doc / 4096) block off in
    is ∙ ap (λ b. now || (b && some)) off ∙ sym (or_false now) ∙ before ∙ ap (λ b. b && some) (by_cases (nat_lt doc (4096 * block))
    (λ yes. yes ∙ sym (lt-ltb doc (4096 * (block + 1)) (let less = ltb-true doc (4096 * block) yes in omega (arith, less))))
    (λ no. no ∙ sym (le-ltb doc (4096 * (block + 1)) (by_cases (nat_lt doc (4096 * (block + 1)))
    (λ less.
    let low = ltb-false doc (4096 * block) no in
    let high = ltb-true doc (4096 * (block + 1)) less in
    absurd (apart (omega (arith, low, high))))
    (λ more. ltb-false doc (4096 * (block + 1)) more))))))

-- all blocks
pub blocks_all : (m : Records) (lists : List ℕ) (doc : ℕ) → AreVectorWords m lists → (nat_lt doc 1048576 && some_has m lists doc) ≡ some_has m lists doc
blocks_all m lists doc are = by_cases (some_has m lists doc)
    (λ here. let number = some_number m lists doc are here in ap (λ b. b && some_has m lists doc) (lt-ltb doc 1048576 (let high = number.1 in omega (arith, high))))
    (λ off. ap (λ b. nat_lt doc 1048576 && b) off ∙ and_false (nat_lt doc 1048576) ∙ sym off)

-- lists that are bit vectors
pub vectors_are : (m : Records) (lists : List ℕ) → AllByRecursion (λ list. FIRST_VECTOR ≤ list) lists → AreListWords m lists → AreVectorWords m lists
vectors_are m [] high words = tt
vectors_are m (list ∷ lists) high words = (record { vector = high.0; word = words.0 }, vectors_are m lists high.1 words.1)

-- the lists of members
pub members_all : (m : Records) (lists : List ℕ) (queries : List Query) (indexes : List Index) (doc : ℕ) → AreListsOf m lists queries indexes
    → all_have m lists doc ≡ found_all (query_trees queries) indexes doc
members_all m lists queries indexes doc are = by lists queries (are.documents doc)
  where
    by : (ls : List ℕ) (qs : List Query) → map (λ list. list_has m list doc) ls ≡ map (λ query. found (tree_of query) indexes doc) qs
        → all_have m ls doc ≡ found_all (query_trees qs) indexes doc
    by [] [] same = refl
    by [] (q ∷ qs) same = absurd (grind (arith, same))
    by (l ∷ ls) [] same = absurd (grind (arith, same))
    by (l ∷ ls) (q ∷ qs) same = ap₂ (λ a b. a && b) (first_same _ _ _ _ same) (by ls qs (rest_same _ _ _ _ same))

pub members_some : (m : Records) (lists : List ℕ) (queries : List Query) (indexes : List Index) (doc : ℕ) → AreListsOf m lists queries indexes
    → some_has m lists doc ≡ found (or (query_trees queries)) indexes doc
members_some m lists queries indexes doc are = by lists queries (are.documents doc)
  where
    by : (ls : List ℕ) (qs : List Query) → map (λ list. list_has m list doc) ls ≡ map (λ query. found (tree_of query) indexes doc) qs
        → some_has m ls doc ≡ found_some (query_trees qs) indexes doc
    by [] [] same = refl
    by [] (q ∷ qs) same = absurd (grind (arith, same))
    by (l ∷ ls) [] same = absurd (grind (arith, same))
    by (l ∷ ls) (q ∷ qs) same = ap₂ (λ a b. a || b) (first_same _ _ _ _ same) (by ls qs (rest_same _ _ _ _ same))

pub members_and : (m : Records) (lists : List ℕ) (queries : List Query) (indexes : List Index) (doc : ℕ) → AreListsOf m lists queries indexes
    → 0 < length lists → all_have m lists doc ≡ found (and (query_trees queries)) indexes doc
members_and m lists [] indexes doc are some = absurd (none lists (are.documents doc) some)
  where
    none : (ls : List ℕ) → map (λ list. list_has m list doc) ls ≡ [] → 0 < length ls → ⊥
    none [] same some = absurd (omega (arith, some))
    none (l ∷ ls) same some = absurd (grind (arith, same))
members_and m lists (q ∷ qs) indexes doc are some = members_all m lists (q ∷ qs) indexes doc are

-- the first of some lists, and the others
pub all_split : (m : Records) (lists : List ℕ) (doc : ℕ) → 0 < length lists
    → (list_has m (get_or lists 0 0) doc && all_have m (drop 1 lists) doc) ≡ all_have m lists doc
all_split m [] doc some = absurd (omega (arith, some))
all_split m (l ∷ ls) doc some = refl

-- a document in a list that may be there
pub some_weaker : (P Q : List ℕ → Type 0) → ((docs : List ℕ) → P docs → Q docs) → (o : Option (List ℕ)) → IfSome o P → IfSome o Q
some_weaker P Q f None is = tt
some_weaker P Q f (Some docs) is = f docs is
