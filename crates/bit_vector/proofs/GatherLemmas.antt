-- A bit vector made of blocks that were made of documents.
use Rattle.std.proofs.Common.{◌≡◌, ℕ, ℤ, pos, zero, suc, ◌+◌, ◌-◌, ◌*◌, ◌/◌, ◌%◌, ◌<◌, ◌≤◌, Bool, true, false, ◌||◌, ◌&&◌, cond, List, [], ◌∷◌, ◌++◌, map, filter, length, length-append, nat_eq, Result, Ok, Err, refl, sym, ap, ap₂, subst, ◌∙◌, arith}
use Rattle.std.specs.Prelude.{IfOk}
use Rattle.std.specs.List.{zip, range_with_len, AllZip, AllByRecursion}
use Rattle.std.specs.List.Sorted.{IsStrictlySortedBy}
use Rattle.std.specs.Ordering.{nat_cmp}
use Rattle.std.proofs.lemmas.Bool.{eqb-true, eqb-false, eq-eqb}
use Rattle.std.proofs.lemmas.List.{append-nil}
use Rattle.entry_ref.specs.Records.{Records, SameAt}
use Rattle.store_api.specs.Ledgers.{Ledger}
use Rattle.store_api.specs.Parts.{After, Owns, Turns, entry, entries, times}
use Rattle.store_api.specs.declared.store.StoreError.{StoreError}
use Rattle.store_api.proofs.PartLemmas.{after, owns-some, owns-then, turns-as, turns-then}
use Rattle.store_api.proofs.Times.{times-append}
use Rattle.tree_read.specs.ProofsForTrees.{tree_nodes-same}
use Rattle.tree_read.specs.Trees.{tree_nodes, tree_pairs}
use Rattle.frozen_btree.specs.Changes.{tree}
use Rattle.attr_types.specs.Lawful.{IsDocNumber}
use Rattle.image_format.proofs.BlockLemmas.{block_has_bits}
use Rattle.image_format.specs.Postings.{block_documents, vector_documents, IsBlock}
use Rattle.index_model.proofs.BitLemmas.{by_cases}
use Rattle.index_model.proofs.DocLemmas.{kept_has, same_ascending, ascends_from_sorted}
use Rattle.index_model.specs.Sets.{has, in_words, IsAscending}
use Rattle.bit_vector.specs.Changes.{vector_part, MakesVector}
use Rattle.bit_vector.specs.Fillings.{IsBlockOf, MakesBlock, MakesBlocks}
use Rattle.bit_vector.specs.Vectors.{blocks_documents, is_block_of}
use Rattle.bit_vector.specs.declared.filling.Blocks.{Blocks}
use Rattle.bit_vector.proofs.DocumentLemmas.{and_false, all_has, has_append, ones, sorted}
use Rattle.bit_vector.proofs.FillLemmas.{block_of, keys}
use Rattle.bit_vector.proofs.OnesLemmas.{passing, passing_few, passing_one, passing_split}
use Rattle.bit_vector.proofs.SetLemmas.{block_is}
use Rattle.bit_vector.proofs.TurnLemmas.{IsNumberTree}
use Rattle.bit_vector.proofs.VectorLemmas.{blocks_ascend}

-- numbers in order
range_above : (a s n : ℕ) → a < s → AllByRecursion (λ y. a < y) (range_with_len s n)
range_above a s zero low = tt
range_above a s (suc n) low = (low, range_above a (s + 1) n (omega (arith, low)))

above_filter : (a : ℕ) (t : ℕ → Bool) (ds : List ℕ) → AllByRecursion (λ y. a < y) ds → AllByRecursion (λ y. a < y) (filter t ds)
above_filter a t [] all = tt
above_filter a t (d ∷ ds) all = elim (t d) as (λ b. AllByRecursion (λ y. a < y) (cond b (d ∷ filter t ds) (filter t ds))) [
  | true ↦ (all.0, above_filter a t ds all.1)
  | false ↦ above_filter a t ds all.1
]

filter_ascends : (t : ℕ → Bool) (s n : ℕ) → IsAscending (filter t (range_with_len s n))
filter_ascends t s zero = tt
filter_ascends t s (suc n) = elim (t s) as (λ b. IsAscending (cond b (s ∷ filter t (range_with_len (s + 1) n)) (filter t (range_with_len (s + 1) n)))) [
  | true ↦ (above_filter s t (range_with_len (s + 1) n) (range_above s (s + 1) n (omega arith)), filter_ascends t (s + 1) n)
  | false ↦ filter_ascends t (s + 1) n
]

in_range : (s n x : ℕ) → s ≤ x → x < s + n → has (range_with_len s n) x ≡ true
in_range s zero x low high = absurd (omega (arith, low, high))
in_range s (suc n) x low high = by_cases (nat_eq x s)
    (λ yes. ap (λ b. b || has (range_with_len (s + 1) n) x) yes)
    (λ no. let apart = eqb-false x s no in ap (λ b. b || has (range_with_len (s + 1) n) x) no ∙ in_range (s + 1) n x (omega (arith, low, apart)) (omega (arith, high)))

filter_more : (t : ℕ → Bool) (s n : ℕ) → filter t (range_with_len s (suc n)) ≡ filter t (range_with_len s n) ++ cond (t (s + n)) ((s + n) ∷ []) []
filter_more t s zero = ap (λ x. cond (t x) (x ∷ []) []) (let e : s ≡ s + 0 = omega arith in e)
filter_more t s (suc n) =
    let rest : filter t (range_with_len (s + 1) (suc n)) ≡ filter t (range_with_len (s + 1) n) ++ cond (t (s + suc n)) ((s + suc n) ∷ []) [] =
    filter_more t (s + 1) n ∙ ap (λ x. filter t (range_with_len (s + 1) n) ++ cond (t x) (x ∷ []) []) (let e : s + 1 + n ≡ s + suc n = omega arith in e) in
    elim (t s) as (λ b. cond b (s ∷ filter t (range_with_len (s + 1) (suc n))) (filter t (range_with_len (s + 1) (suc n)))
    ≡ cond b (s ∷ filter t (range_with_len (s + 1) n)) (filter t (range_with_len (s + 1) n)) ++ cond (t (s + suc n)) ((s + suc n) ∷ []) []) [
      | true ↦ ap (λ xs. s ∷ xs) rest
      | false ↦ rest
    ]

filter_next : (t : ℕ → Bool) (n : ℕ) → filter t (range_with_len 0 (suc n)) ≡ filter t (range_with_len 0 n) ++ cond (t n) (n ∷ []) []
filter_next t n = filter_more t 0 n ∙ ap (λ x. filter t (range_with_len 0 n) ++ cond (t x) (x ∷ []) []) (let e : 0 + n ≡ n = omega arith in e)

-- pairs of blocks
zip_keys : (P : ℕ → ℕ → Type 0) (ks rs : List ℕ) → AllZip P ks rs → map (λ p. p.0) (zip ks rs) ≡ ks
zip_keys P [] [] all = refl
zip_keys P [] (r ∷ rs) all = refl
zip_keys P (k ∷ ks) [] all = absurd all
zip_keys P (k ∷ ks) (r ∷ rs) all = ap (λ xs. k ∷ xs) (zip_keys P ks rs all.1)

zip_values : (P : ℕ → ℕ → Type 0) (ks rs : List ℕ) → AllZip P ks rs → map (λ p. p.1) (zip ks rs) ≡ rs
zip_values P [] [] all = refl
zip_values P [] (r ∷ rs) all = absurd all
zip_values P (k ∷ ks) [] all = absurd all
zip_values P (k ∷ ks) (r ∷ rs) all = ap (λ xs. r ∷ xs) (zip_values P ks rs all.1)

pub zip_even : (P : ℕ → ℕ → Type 0) (ks rs : List ℕ) → AllZip P ks rs → length ks ≡ length rs
zip_even P [] [] all = refl
zip_even P [] (r ∷ rs) all = absurd all
zip_even P (k ∷ ks) [] all = absurd all
zip_even P (k ∷ ks) (r ∷ rs) all = ap suc (zip_even P ks rs all.1)

zip_weaker : (P Q : ℕ → ℕ → Type 0) → ((k r : ℕ) → P k r → Q k r) → (ks rs : List ℕ) → AllZip P ks rs → AllZip Q ks rs
zip_weaker P Q f [] [] all = tt
zip_weaker P Q f [] (r ∷ rs) all = absurd all
zip_weaker P Q f (k ∷ ks) [] all = absurd all
zip_weaker P Q f (k ∷ ks) (r ∷ rs) all = (f k r all.0, zip_weaker P Q f ks rs all.1)

zip_both : (P : ℕ → ℕ → Type 0) (ks rs xs ys : List ℕ) → AllZip P ks rs → AllZip P xs ys → AllZip P (ks ++ xs) (rs ++ ys)
zip_both P [] [] xs ys first second = second
zip_both P [] (r ∷ rs) xs ys first second = absurd first
zip_both P (k ∷ ks) [] xs ys first second = absurd first
zip_both P (k ∷ ks) (r ∷ rs) xs ys first second = (first.0, zip_both P ks rs xs ys first.1 second)

zip_same : (m n : Records) (docs ks rs : List ℕ) → SameAt rs m n → AllZip (λ k r. IsBlockOf docs k (m r)) ks rs → AllZip (λ k r. IsBlockOf docs k (n r)) ks rs
zip_same m n docs [] [] same all = tt
zip_same m n docs [] (r ∷ rs) same all = absurd all
zip_same m n docs (k ∷ ks) [] same all = absurd all
zip_same m n docs (k ∷ ks) (r ∷ rs) same all = (subst (IsBlockOf docs k) (sym same.0) all.0, zip_same m n docs ks rs same.1 all.1)

-- one block more
module _ {H : Type 0} (a b c : Ledger H) (m n o : Records) (docs : List ℕ) (root k : ℕ) (before next : Blocks) (owns : Owns b n (tree root ∷ entries before.records.items ∷ []))
    (makes : MakesBlocks a b m n docs k before) (more : MakesBlock b c n o docs k before next) where
  abbrev old : List ℕ
  old = before.records.items

  abbrev new : List ℕ
  new = more.made

  step : After b c n o (tree root ∷ entries old ∷ []) (tree root ∷ entries old ∷ entries new ∷ []) (tree root ∷ entries old ∷ [])
  step = after b c n o [] (entries new ∷ []) (tree root ∷ entries old ∷ []) (tree root ∷ entries old ∷ []) (tree root ∷ entries old ∷ entries new ∷ []) owns more.turns
      (λ h r. omega arith) (λ h r. omega arith)

  pub tree_stays : SameAt (tree_nodes n root) n o
  tree_stays = step.stay.0

  old_stay : SameAt old n o
  old_stay = step.stay.1.0

  counts_next : (r : ℕ) → times r next.records.items ≡ times r old + times r new
  counts_next r = ap (times r) more.records ∙ times-append r old new

  pub owns_next : Owns c o (tree root ∷ entries next.records.items ∷ [])
  owns_next = owns-some c o (tree root ∷ entries old ∷ entries new ∷ []) (tree root ∷ entries next.records.items ∷ []) step.owns (λ r. let e = counts_next r in omega arith)

  alone : After b c n o (entries old ∷ []) (entries old ∷ entries new ∷ []) (entries old ∷ [])
  alone = after b c n o [] (entries new ∷ []) (entries old ∷ []) (entries old ∷ []) (entries old ∷ entries new ∷ [])
      (owns-some b n (tree root ∷ entries old ∷ []) (entries old ∷ []) owns (λ r. omega arith)) more.turns (λ h r. omega arith) (λ h r. omega arith)

  pub makes_next : MakesBlocks a c m o docs (suc k) next
  makes_next = record {
    numbers = more.numbers ∙ ap (λ (xs : List ℕ). xs ++ cond (is_block_of docs k) (k ∷ []) []) makes.numbers ∙ sym (filter_next (is_block_of docs) k);
    each = subst (λ (xs : List ℕ). AllZip (λ number ref. IsBlockOf docs number (o ref)) xs next.records.items) (sym more.numbers)
        (subst (λ (ys : List ℕ). AllZip (λ number ref. IsBlockOf docs number (o ref)) (before.numbers.items ++ cond (is_block_of docs k) (k ∷ []) []) ys) (sym more.records)
        (zip_both (λ number ref. IsBlockOf docs number (o ref)) before.numbers.items old (cond (is_block_of docs k) (k ∷ []) []) new (zip_same n o docs before.numbers.items old old_stay makes.each) more.each));
    turns = turns-as a c m o [] (entries old ∷ entries new ∷ []) [] (entries next.records.items ∷ [])
        (turns-then a b c m n o [] (entries old ∷ []) (entries old ∷ entries new ∷ []) makes.turns alone.turns)
        (λ r. refl) (λ r. let e = counts_next r in omega arith);
  }

-- the documents of blocks that were made of documents
module _ (o : Records) (docs : List ℕ) where
  of_block : (k : ℕ) (ws : List ℕ) (d : ℕ) → IsBlockOf docs k ws → has (block_documents k ws) d ≡ (nat_eq (d / 4096) k && has docs d)
  of_block k ws d is = block_has_bits k d ws ∙ by_cases (nat_eq (d / 4096) k)
      (λ yes.
      let at = eqb-true (d / 4096) k yes in
      ap (λ b. nat_eq (d / 4096) k && b) (is.bits (d % 4096) (omega arith) ∙ ap (has docs) (let e : 4096 * k + d % 4096 ≡ d = omega (arith, at) in e)))
      (λ no. ap (λ b. b && in_words ws (d % 4096)) no ∙ sym (ap (λ b. b && has docs d) no))

  or_and : (x y z : Bool) → ((x && z) || (y && z)) ≡ ((x || y) && z)
  or_and true y true = refl
  or_and true y false = and_false y
  or_and false y z = refl

  blocks_of : (d : ℕ) (ks rs : List ℕ) → AllZip (λ k r. IsBlockOf docs k (o r)) ks rs → has (blocks_documents o (zip ks rs)) d ≡ (has ks (d / 4096) && has docs d)
  blocks_of d [] [] all = refl
  blocks_of d [] (r ∷ rs) all = refl
  blocks_of d (k ∷ ks) [] all = absurd all
  blocks_of d (k ∷ ks) (r ∷ rs) all =
      has_append (block_documents k (o r)) (blocks_documents o (zip ks rs)) d
      ∙ ap₂ (λ x y. x || y) (of_block k (o r) d all.0) (blocks_of d ks rs all.1)
      ∙ or_and (nat_eq (d / 4096) k) (has ks (d / 4096)) (has docs d)

  are_blocks : (ks rs : List ℕ) → AllByRecursion (λ k. (k ≤ 255) × (is_block_of docs k ≡ true)) ks → AllZip (λ k r. IsBlockOf docs k (o r)) ks rs → AllByRecursion (λ p. IsBlock p.0 (o p.1)) (zip ks rs)
  are_blocks [] [] some all = tt
  are_blocks [] (r ∷ rs) some all = tt
  are_blocks (k ∷ ks) [] some all = absurd all
  are_blocks (k ∷ ks) (r ∷ rs) some all = (
    one docs some.0.1 (λ d there at.
        let place : 4096 * k + d % 4096 ≡ d = omega (arith, at) in
        block_is k (o r) (d % 4096) (let few : k ≤ 255 = some.0.0 in omega (arith, few)) all.0.size (omega arith)
        (all.0.bits (d % 4096) (omega arith) ∙ ap (has docs) place ∙ there)),
    are_blocks ks rs some.1 all.1,
  )
    where
      or_yes : (x : Bool) → (x || true) ≡ true
      or_yes true = refl
      or_yes false = refl

      one : {G : Type 0} (ds : List ℕ) → is_block_of ds k ≡ true → ((d : ℕ) → has ds d ≡ true → d / 4096 ≡ k → G) → G
      one [] is found = absurd (grind (arith, is))
      one (x ∷ ds) is found = by_cases (nat_eq (x / 4096) k)
          (λ yes. found x (ap (λ b. b || has ds x) (eq-eqb x x refl)) (eqb-true (x / 4096) k yes))
          (λ no. one ds (sym (ap (λ b. b || is_block_of ds k) no) ∙ is) (λ d there at. found d (ap (λ b. nat_eq d x || b) there ∙ or_yes (nat_eq d x)) at))

passing_all : (t : ℕ → Bool) (s n : ℕ) → s + n ≤ 256 → AllByRecursion (λ k. (k ≤ 255) × (t k ≡ true)) (filter t (range_with_len s n))
passing_all t s zero few = tt
passing_all t s (suc n) few = by_cases (t s)
    (λ yes. subst (λ b. AllByRecursion (λ k. (k ≤ 255) × (t k ≡ true)) (cond b (s ∷ filter t (range_with_len (s + 1) n)) (filter t (range_with_len (s + 1) n)))) (sym yes)
    ((omega (arith, few), yes), passing_all t (s + 1) n (omega (arith, few))))
    (λ no. subst (λ b. AllByRecursion (λ k. (k ≤ 255) × (t k ≡ true)) (cond b (s ∷ filter t (range_with_len (s + 1) n)) (filter t (range_with_len (s + 1) n)))) (sym no)
    (passing_all t (s + 1) n (omega (arith, few))))

ones_keys : (ps : List (ℕ × ℕ)) → ones (keys ps) ≡ map (λ p. (p.0, pos 1)) ps
ones_keys [] = refl
ones_keys (p ∷ ps) = ap (λ (es : List (ℕ × ℤ)). (p.0, pos 1) ∷ es) (ones_keys ps)

-- the tree of all blocks
module _ {H : Type 0} (a b c : Ledger H) (m n o : Records) (ps : List (ℕ × ℕ)) (blocks : Blocks) (up : IsStrictlySortedBy nat_cmp (keys ps)) (lawful : AllByRecursion IsDocNumber (keys ps))
    (makes : MakesBlocks a b m n (keys ps) 256 blocks) where
  abbrev ks : List ℕ
  ks = blocks.numbers.items

  abbrev rs : List ℕ
  rs = blocks.records.items

  even : length ks ≡ length rs
  even = zip_even (λ k r. IsBlockOf (keys ps) k (n r)) ks rs makes.each

  numbers_ascend : IsStrictlySortedBy nat_cmp (map (λ p. p.0) (zip ks rs))
  numbers_ascend = subst (IsStrictlySortedBy nat_cmp) (sym (zip_keys (λ k r. IsBlockOf (keys ps) k (n r)) ks rs makes.each))
      (subst (IsStrictlySortedBy nat_cmp) (sym makes.numbers) (sorted (filter (is_block_of (keys ps)) (range_with_len 0 256)) (filter_ascends (is_block_of (keys ps)) 0 256)))

  -- slices of both
  module _ (xs ys : List ℕ) (are : xs ≡ ks) (values : ys ≡ rs) where
    pub slices_even : length xs ≡ length ys
    slices_even = ap length are ∙ even ∙ sym (ap length values)

    pub slices_pairs : zip xs ys ≡ zip ks rs
    slices_pairs = ap (λ (qs : List ℕ). zip qs ys) are ∙ ap (zip ks) values

    pub slices_ascend : IsStrictlySortedBy nat_cmp (map (λ p. p.0) (zip xs ys))
    slices_ascend = subst (λ (qs : List (ℕ × ℕ)). IsStrictlySortedBy nat_cmp (map (λ p. p.0) qs)) (sym slices_pairs) numbers_ascend

  module _ (next : ℕ) (keyed : IsNumberTree o next) (pairs : tree_pairs o next ≡ zip ks rs) (turns : Turns b c n o [] (tree next ∷ [])) where
    owns_blocks : Owns b n (entries rs ∷ [])
    owns_blocks = owns-then a b m n [] (entries rs ∷ []) (record { each = λ r. omega arith }) makes.turns

    built : After b c n o (entries rs ∷ []) (tree next ∷ entries rs ∷ []) (entries rs ∷ [])
    built = after b c n o [] (tree next ∷ []) (entries rs ∷ []) (entries rs ∷ []) (tree next ∷ entries rs ∷ []) owns_blocks turns (λ h r. omega arith) (λ h r. omega arith)

    each_then : AllZip (λ k r. IsBlockOf (keys ps) k (o r)) ks rs
    each_then = zip_same n o (keys ps) ks rs built.stay.0 makes.each

    have : (d : ℕ) → has (vector_documents o next) d ≡ has (keys ps) d
    have d =
        ap (λ (qs : List (ℕ × ℕ)). has (blocks_documents o qs) d) pairs
        ∙ blocks_of o (keys ps) d ks rs each_then
        ∙ by_cases (has (keys ps) d)
        (λ yes.
        let number = all_has IsDocNumber (keys ps) lawful d yes in
        let last : d ≤ 1048575 = number.1 in
        ap (λ b. has ks (d / 4096) && b) yes
        ∙ ap (λ b. b && true) (ap (λ (xs : List ℕ). has xs (d / 4096)) makes.numbers
        ∙ kept_has (is_block_of (keys ps)) (range_with_len 0 256) (d / 4096)
        ∙ ap₂ (λ x y. x && y) (in_range 0 256 (d / 4096) (omega arith) (omega (arith, last))) (block_of (keys ps) (d / 4096) d yes refl))
        ∙ sym yes)
        (λ no. ap (λ b. has ks (d / 4096) && b) no ∙ and_false (has ks (d / 4096)) ∙ sym no)

    documents_are : vector_documents o next ≡ keys ps
    documents_are = same_ascending (vector_documents o next) (keys ps) (blocks_ascend o (tree_pairs o next) keyed.tree.ascends) (ascends_from_sorted (keys ps) up) have

    vector_turns : Turns a c m o (vector_part 0 ∷ []) (vector_part next ∷ [])
    vector_turns = turns-as a c m o [] (tree next ∷ entries rs ∷ []) (vector_part 0 ∷ []) (vector_part next ∷ [])
        (turns-then a b c m n o [] (entries rs ∷ []) (tree next ∷ entries rs ∷ []) makes.turns built.turns)
        (λ r. refl)
        (λ r.
        let whole = times-append r (tree_nodes o next) (map (λ p. p.1) (tree_pairs o next)) in
        let here = ap (λ (qs : List (ℕ × ℕ)). times r (map (λ p. p.1) qs)) pairs ∙ ap (times r) (zip_values (λ k q. IsBlockOf (keys ps) k (n q)) ks rs makes.each) in
        omega arith)

    pub makes_vector : MakesVector a c m o 0 (map (λ p. (p.0, pos 1)) ps) next
    makes_vector = record {
      vector_is = record {
        tree_is = keyed.tree;
        blocks = subst (AllByRecursion (λ (p : ℕ × ℕ). IsBlock p.0 (o p.1))) (sym pairs)
            (are_blocks o (keys ps) ks rs
            (subst (AllByRecursion (λ k. (k ≤ 255) × (is_block_of (keys ps) k ≡ true))) (sym makes.numbers) (passing_all (is_block_of (keys ps)) 0 256 (omega arith))) each_then);
        numbers = subst (AllByRecursion IsDocNumber) (sym documents_are) lawful;
      };
      docs_are = ap ones documents_are ∙ ones_keys ps;
      blocks = record { each = λ k r there old. absurd old };
      owns = owns-then a c m o (vector_part 0 ∷ []) (vector_part next ∷ []) (record { each = λ r. omega arith }) vector_turns;
      turns = vector_turns;
    }

pub makes_vector_if : {H : Type 0} (a b c : Ledger H) (m n o : Records) (ps : List (ℕ × ℕ)) (blocks : Blocks) → IsStrictlySortedBy nat_cmp (keys ps) → AllByRecursion IsDocNumber (keys ps)
    → MakesBlocks a b m n (keys ps) 256 blocks → (answer : Result ℕ StoreError) → IfOk answer (IsNumberTree o) → IfOk answer (λ r. tree_pairs o r ≡ zip blocks.numbers.items blocks.records.items)
    → IfOk answer (λ r. Turns b c n o [] (tree r ∷ [])) → IfOk answer (MakesVector a c m o 0 (map (λ p. (p.0, pos 1)) ps))
makes_vector_if a b c m n o ps blocks up lawful makes (Ok next) keyed pairs turns = makes_vector a b c m n o ps blocks up lawful makes next keyed pairs turns
makes_vector_if a b c m n o ps blocks up lawful makes (Err e) keyed pairs turns = tt

-- one block, or none
pub makes_no_block : {H : Type 0} (a : Ledger H) (m : Records) (docs : List ℕ) (k : ℕ) (blocks : Blocks) → is_block_of docs k ≡ false → MakesBlock a a m m docs k blocks blocks
makes_no_block a m docs k blocks none = record {
  made = [];
  numbers = sym (append-nil blocks.numbers.items) ∙ ap (λ b. blocks.numbers.items ++ cond b (k ∷ []) []) (sym none);
  records = sym (append-nil blocks.records.items);
  each = subst (λ b. AllZip (λ number ref. IsBlockOf docs number (m ref)) (cond b (k ∷ []) []) []) (sym none) tt;
  turns = record { kept = λ r h. refl; balance = λ r. omega arith };
}

pub makes_one_block : {H : Type 0} (a b : Ledger H) (m n : Records) (docs : List ℕ) (k ref : ℕ) (before next : Blocks) → is_block_of docs k ≡ true → IsBlockOf docs k (n ref)
    → Turns a b m n [] (entry ref ∷ []) → next.numbers.items ≡ before.numbers.items ++ k ∷ [] → next.records.items ≡ before.records.items ++ ref ∷ [] → MakesBlock a b m n docs k before next
makes_one_block a b m n docs k ref before next some is turns numbers records = record {
  made = ref ∷ [];
  numbers = numbers ∙ ap (λ b. before.numbers.items ++ cond b (k ∷ []) []) (sym some);
  records = records;
  each = subst (λ b. AllZip (λ number q. IsBlockOf docs number (n q)) (cond b (k ∷ []) []) (ref ∷ [])) (sym some) (is, tt);
  turns = turns;
}

-- how many blocks are made
pub block_counts : (docs : List ℕ) (k below : ℕ) → k < below → length (filter (is_block_of docs) (range_with_len 0 k)) + cond (is_block_of docs k) 1 0
    ≤ length (filter (is_block_of docs) (range_with_len 0 below))
block_counts docs k below low =
    let t : ℕ → Bool = is_block_of docs in
    let first = passing_split (is_block_of docs) 0 k 1 in
    let one = passing_one (is_block_of docs) (0 + k) in
    let rest = passing_split (is_block_of docs) 0 (k + 1) (below - (k + 1)) in
    let whole = ap (passing (is_block_of docs) 0) (let e : k + 1 + (below - (k + 1)) ≡ below = omega (arith, low) in e) in
    let here = ap (λ x. cond (is_block_of docs x) (suc zero) zero) (let e : 0 + k ≡ k = omega arith in e) in
    omega (arith, first, one, rest, whole, here)

-- before the first block
pub same_all : (m : Records) (refs : List ℕ) → SameAt refs m m
same_all m [] = tt
same_all m (r ∷ rs) = (refl, same_all m rs)

pub same_then : (m n o : Records) (refs : List ℕ) (root : ℕ) → refs ≡ tree_nodes m root → SameAt refs m n → SameAt (tree_nodes n root) n o → SameAt refs m o
same_then m n o refs root are first second =
    both refs first (subst (λ rs. SameAt rs n o) (tree_nodes-same m n root (subst (λ rs. SameAt rs m n) are first) ∙ sym are) second)
  where
    both : (rs : List ℕ) → SameAt rs m n → SameAt rs n o → SameAt rs m o
    both [] x y = tt
    both (r ∷ rs) x y = (y.0 ∙ x.0, both rs x.1 y.1)

pub start_blocks : {H : Type 0} (a : Ledger H) (m : Records) (docs : List ℕ) (blocks : Blocks) → blocks.numbers.items ≡ [] → blocks.records.items ≡ [] → MakesBlocks a a m m docs 0 blocks
start_blocks a m docs blocks numbers records = record {
  numbers = numbers;
  each = subst (λ (xs : List ℕ). AllZip (λ number ref. IsBlockOf docs number (m ref)) xs blocks.records.items) (sym numbers)
      (subst (λ (ys : List ℕ). AllZip (λ number ref. IsBlockOf docs number (m ref)) [] ys) (sym records) tt);
  turns = record { kept = λ r h. refl; balance = λ r. let none = ap (times r) records in omega arith };
}

pub number_few : (docs : List ℕ) (k : ℕ) (numbers : List ℕ) → numbers ≡ filter (is_block_of docs) (range_with_len 0 k) → length numbers ≤ k
number_few docs k numbers are = let size = ap length are in let few = passing_few (is_block_of docs) 0 k in omega (arith, size, few)

pub next_count : {H : Type 0} (b c : Ledger H) (n o : Records) (docs : List ℕ) (k : ℕ) (before next : Blocks) → MakesBlock b c n o docs k before next
    → length before.numbers.items + cond (is_block_of docs k) 1 0 ≤ length next.numbers.items
next_count b c n o docs k before next more =
    let size = ap length more.numbers in
    let both = length-append before.numbers.items (cond (is_block_of docs k) (k ∷ []) []) in
    let one : length (cond (is_block_of docs k) (k ∷ []) []) ≡ cond (is_block_of docs k) 1 0 = elim (is_block_of docs k) as (λ t. length (cond t (k ∷ []) []) ≡ cond t 1 0) [ true ↦ refl | false ↦ refl ] in
    omega (arith, size, both, one)
