-- One document of a bit vector put in or taken out, by the words of its block.
use Rattle.std.proofs.Common.{◌≡◌, ◌≢◌, ℕ, pos, ◌+◌, ◌*◌, ◌/◌, ◌%◌, ◌<◌, ◌≤◌, Bool, true, false, ◌||◌, ◌&&◌, not, cond, List, [], ◌∷◌, length, nat_eq, None, Result, Ok, Err, refl, sym, ap, ap₂, subst, ◌∙◌, arith}
use Rattle.std.specs.Prelude.{IfOk}
use Rattle.std.specs.BTreeMap.{insert_entry, is_at}
use Rattle.std.specs.List.{AllByRecursion}
use Rattle.std.specs.Map.{remove_entry}
use Rattle.std.specs.Ordering.{nat_cmp}
use Rattle.std.proofs.lemmas.Bool.{eqb-true, eqb-false, eq-eqb, ne_eqb}
use Rattle.entry_ref.specs.Records.{Records}
use Rattle.store_api.specs.Ledgers.{Ledger}
use Rattle.store_api.specs.Parts.{Owns}
use Rattle.store_api.specs.declared.store.StoreError.{StoreError}
use Rattle.tree_read.specs.Pairs.{lookup}
use Rattle.tree_read.specs.Trees.{tree_pairs}
use Rattle.attr_types.specs.Lawful.{IsDocNumber}
use Rattle.image_format.specs.Postings.{block_documents, vector_documents, IsBlock}
use Rattle.index_model.proofs.BitLemmas.{by_cases, no_bits}
use Rattle.index_model.specs.Sets.{has, in_words}
use Rattle.bit_vector.specs.Blocks.{beside_block, HasBit, SetsBlock}
use Rattle.bit_vector.specs.Changes.{vector_part, MakesVector}
use Rattle.bit_vector.specs.Vectors.{vector_at, IsVector}
use Rattle.bit_vector.proofs.DocumentLemmas.{all_has, has_all, inserted, or_false, removed, unchanged}
use Rattle.bit_vector.proofs.VectorLemmas.{bit_lacking, in_block, own_block, vector_ascends}

and_true : (a : Bool) → a ≡ (a && true)
and_true true = refl
and_true false = refl

-- in one block a document is its bit
same_bit : (x doc : ℕ) → x / 4096 ≡ doc / 4096 → nat_eq (x % 4096) (doc % 4096) ≡ nat_eq x doc
same_bit x doc at = by_cases (nat_eq (x % 4096) (doc % 4096))
    (λ yes. yes ∙ sym (eq-eqb x doc (let same = eqb-true (x % 4096) (doc % 4096) yes in omega (arith, at, same))))
    (λ no. no ∙ sym (ne_eqb x doc (λ e. eqb-false (x % 4096) (doc % 4096) no (ap (λ n. n % 4096) e))))

module _ {H : Type 0} (a b : Ledger H) (m n : Records) (root doc : ℕ) (is : IsVector m root) where
  abbrev docs : List ℕ
  docs = vector_documents m root

  -- where a block is set, the others are as before
  module _ (next : ℕ) (words : List ℕ) (sets : SetsBlock a b m n root (vector_part root ∷ []) (doc / 4096) words next) where
    inside : (x : ℕ) → x / 4096 ≡ doc / 4096 → has (vector_documents n next) x ≡ in_words words (x % 4096)
    inside x at = sets.documents x ∙ ap (λ t. cond t (in_words words (x % 4096)) (has docs x)) (eq-eqb (x / 4096) (doc / 4096) at)

    outside : (x : ℕ) → x / 4096 ≢ doc / 4096 → has (vector_documents n next) x ≡ has docs x
    outside x apart = sets.documents x ∙ ap (λ t. cond t (in_words words (x % 4096)) (has docs x)) (ne_eqb (x / 4096) (doc / 4096) apart)

    pub inserts : ((i : ℕ) → i < 4096 → in_words words i ≡ (has docs (4096 * (doc / 4096) + i) || nat_eq i (doc % 4096)))
        → MakesVector a b m n root (insert_entry nat_cmp (vector_at m root) doc (pos 1)) next
    inserts bits = record {
      vector_is = sets.vector_is;
      docs_are = inserted docs (vector_documents n next) doc (vector_ascends m root is) (vector_ascends n next sets.vector_is) (λ x. by_cases (nat_eq (x / 4096) (doc / 4096))
          (λ yes.
          let at = eqb-true (x / 4096) (doc / 4096) yes in
          inside x at ∙ bits (x % 4096) (omega arith)
          ∙ ap₂ (λ d t. has docs d || t) (let e : 4096 * (doc / 4096) + x % 4096 ≡ x = omega (arith, at) in e) (same_bit x doc at))
          (λ no.
          let apart = eqb-false (x / 4096) (doc / 4096) no in
          outside x apart ∙ sym (or_false (has docs x)) ∙ ap (λ t. has docs x || t) (sym (ne_eqb x doc (λ e. apart (ap (λ d. d / 4096) e))))));
      blocks = sets.blocks;
      owns = sets.owns;
      turns = sets.turns;
    }

    pub removes : ((i : ℕ) → i < 4096 → in_words words i ≡ (has docs (4096 * (doc / 4096) + i) && not (nat_eq i (doc % 4096))))
        → MakesVector a b m n root (remove_entry (is_at (nat_cmp doc)) (vector_at m root)) next
    removes bits = record {
      vector_is = sets.vector_is;
      docs_are = removed docs (vector_documents n next) doc (vector_ascends m root is) (vector_ascends n next sets.vector_is) (λ x. by_cases (nat_eq (x / 4096) (doc / 4096))
          (λ yes.
          let at = eqb-true (x / 4096) (doc / 4096) yes in
          inside x at ∙ bits (x % 4096) (omega arith)
          ∙ ap₂ (λ d t. has docs d && not t) (let e : 4096 * (doc / 4096) + x % 4096 ≡ x = omega (arith, at) in e) (same_bit x doc at))
          (λ no.
          let apart = eqb-false (x / 4096) (doc / 4096) no in
          outside x apart ∙ and_true (has docs x) ∙ ap (λ t. has docs x && not t) (sym (ne_eqb x doc (λ e. apart (ap (λ d. d / 4096) e))))));
      blocks = sets.blocks;
      owns = sets.owns;
      turns = sets.turns;
    }

-- where a call went on unchanged
pub inserts_if : {H : Type 0} (a b : Ledger H) (m n : Records) (root doc : ℕ) (is : IsVector m root) (words : List ℕ)
    → ((i : ℕ) → i < 4096 → in_words words i ≡ (has (vector_documents m root) (4096 * (doc / 4096) + i) || nat_eq i (doc % 4096)))
    → (answer : Result ℕ StoreError) → IfOk answer (SetsBlock a b m n root (vector_part root ∷ []) (doc / 4096) words)
    → IfOk answer (MakesVector a b m n root (insert_entry nat_cmp (vector_at m root) doc (pos 1)))
inserts_if a b m n root doc is words bits (Ok next) sets = inserts a b m n root doc is next words sets bits
inserts_if a b m n root doc is words bits (Err e) sets = tt

pub removes_if : {H : Type 0} (a b : Ledger H) (m n : Records) (root doc : ℕ) (is : IsVector m root) (words : List ℕ)
    → ((i : ℕ) → i < 4096 → in_words words i ≡ (has (vector_documents m root) (4096 * (doc / 4096) + i) && not (nat_eq i (doc % 4096))))
    → (answer : Result ℕ StoreError) → IfOk answer (SetsBlock a b m n root (vector_part root ∷ []) (doc / 4096) words)
    → IfOk answer (MakesVector a b m n root (remove_entry (is_at (nat_cmp doc)) (vector_at m root)))
removes_if a b m n root doc is words bits (Ok next) sets = removes a b m n root doc is next words sets bits
removes_if a b m n root doc is words bits (Err e) sets = tt

-- the document is there already
pub inserts_none : {H : Type 0} (a : Ledger H) (m : Records) (root doc : ℕ) → IsVector m root → Owns a m (vector_part root ∷ []) → has (vector_documents m root) doc ≡ true
    → MakesVector a a m m root (insert_entry nat_cmp (vector_at m root) doc (pos 1)) root
inserts_none a m root doc is owns there = record {
  vector_is = is;
  docs_are = unchanged (vector_documents m root) doc (vector_ascends m root is) there;
  blocks = record { each = λ k r at used. at };
  owns = owns;
  turns = record { kept = λ r h. refl; balance = λ r. refl };
}

-- the words of a block that is to be made
has_some : (ds : List ℕ) (d : ℕ) → has ds d ≡ true → 0 < length ds
has_some [] d there = absurd (grind (arith, there))
has_some (x ∷ ds) d there = omega arith

pub block_is : (k : ℕ) (words : List ℕ) (i : ℕ) → k < 1048576 → length words ≡ 64 → i < 4096 → in_words words i ≡ true → IsBlock k words
block_is k words i few size below set = record {
  few = few;
  size = size;
  some = has_some (block_documents k words) (4096 * k + i) (in_block k words (4096 * k + i) (omega (arith, below))
      ∙ ap (in_words words) (let e : (4096 * k + i) % 4096 ≡ i = omega (arith, below) in e) ∙ set);
}

pub block_numbers : (k : ℕ) (words docs : List ℕ) (doc : ℕ) → AllByRecursion IsDocNumber docs → IsDocNumber doc → k ≡ doc / 4096
    → ((i : ℕ) → i < 4096 → in_words words i ≡ true → (has docs (4096 * k + i) || nat_eq i (doc % 4096)) ≡ true)
    → AllByRecursion IsDocNumber (block_documents k words)
block_numbers k words docs doc all own at bits = has_all IsDocNumber (block_documents k words) (λ d there.
    let block : d / 4096 ≡ k = all_has (λ x. x / 4096 ≡ k) (block_documents k words) (own_block k words) d there in
    let set : in_words words (d % 4096) ≡ true = sym (in_block k words d block) ∙ there in
    let place : 4096 * k + d % 4096 ≡ d = omega (arith, block) in
    let either : (has docs d || nat_eq (d % 4096) (doc % 4096)) ≡ true = ap (λ x. has docs x || nat_eq (d % 4096) (doc % 4096)) (sym place) ∙ bits (d % 4096) (omega arith) set in
    by_cases (has docs d)
    (λ yes. all_has IsDocNumber docs all d yes)
    (λ no.
    let bit : nat_eq (d % 4096) (doc % 4096) ≡ true = sym (ap (λ t. t || nat_eq (d % 4096) (doc % 4096)) no) ∙ either in
    let same = eqb-true (d % 4096) (doc % 4096) bit in
    subst IsDocNumber (let e : doc ≡ d = omega (arith, same, block, at) in e) own))

-- a bit that was cleared was one before
pub still_set : (x y : Bool) → (x && not y) ≡ true → (z : Bool) → (x || z) ≡ true
still_set true y is z = refl
still_set false y is z = absurd (grind (arith, is))

-- a vector that lacks a block has none of its documents
pub lacks : (m : Records) (root k : ℕ) → IsVector m root → lookup (beside_block k) (tree_pairs m root) ≡ None
    → (d : ℕ) → has (vector_documents m root) d ≡ cond (nat_eq (d / 4096) k) (in_words [] (d % 4096)) (has (vector_documents m root) d)
lacks m root k is none d = by_cases (nat_eq (d / 4096) k)
    (λ yes.
    let at = eqb-true (d / 4096) k yes in
    let place : 4096 * k + d % 4096 ≡ d = omega (arith, at) in
    ap (has (vector_documents m root)) (sym place)
    ∙ bit_lacking m (tree_pairs m root) is.tree_is.ascends k (d % 4096) (omega arith) none
    ∙ sym (ap (λ t. cond t (in_words [] (d % 4096)) (has (vector_documents m root) d)) yes ∙ no_bits [] (d % 4096) refl))
    (λ no. sym (ap (λ t. cond t (in_words [] (d % 4096)) (has (vector_documents m root) d)) no))

-- no words have no documents
pub no_numbers : (k : ℕ) → AllByRecursion IsDocNumber (block_documents k [])
no_numbers k = has_all IsDocNumber (block_documents k []) (λ d there.
    let block : d / 4096 ≡ k = all_has (λ x. x / 4096 ≡ k) (block_documents k []) (own_block k []) d there in
    let lost : true ≡ false = sym there ∙ in_block k [] d block ∙ no_bits [] (d % 4096) refl in
    absurd (grind (arith, lost)))

or_yes : (x : Bool) → (x || true) ≡ true
or_yes true = refl
or_yes false = refl

-- the words of a block after its bit was set
pub record AreSet (m : Records) (root doc k : ℕ) (words : List ℕ) : Type 0 where
  pub form : IsBlock k words
  pub numbers : AllByRecursion IsDocNumber (block_documents k words)
  pub block : k ≡ doc / 4096
  pub bits : (i : ℕ) → i < 4096 → in_words words i ≡ (has (vector_documents m root) (4096 * (doc / 4096) + i) || nat_eq i (doc % 4096))

pub are_set : (m : Records) (root doc place : ℕ) (old words : List ℕ) → IsVector m root → place ≡ doc → IsDocNumber place → length words ≡ 64
    → ((i : ℕ) → i < 4096 → in_words old i ≡ has (vector_documents m root) (4096 * (place / 4096) + i))
    → ((j : ℕ) → in_words words j ≡ (in_words old j || nat_eq j (place % 4096))) → AreSet m root doc (place / 4096) words
are_set m root doc place old words is same number size before set =
    let docs = vector_documents m root in
    let last : place ≤ 1048575 = number.1 in
    let bits : (i : ℕ) → i < 4096 → in_words words i ≡ (has docs (4096 * (place / 4096) + i) || nat_eq i (place % 4096)) =
    λ i low. set i ∙ ap (λ b. b || nat_eq i (place % 4096)) (before i low) in
    record {
      form = block_is (place / 4096) words (place % 4096) (omega (arith, last)) size (omega arith)
          (set (place % 4096) ∙ ap (λ b. in_words old (place % 4096) || b) (eq-eqb (place % 4096) (place % 4096) refl) ∙ or_yes (in_words old (place % 4096)));
      numbers = block_numbers (place / 4096) words docs place is.numbers number refl (λ i low there. sym (bits i low) ∙ there);
      block = ap (λ n. n / 4096) same;
      bits = λ i low. bits i low ∙ ap (λ n. has docs (4096 * (n / 4096) + i) || nat_eq i (n % 4096)) same;
    }

-- the words of a block after its bit was cleared
pub cleared_bits : (m : Records) (root doc place : ℕ) (old words : List ℕ) → place ≡ doc
    → ((i : ℕ) → i < 4096 → in_words old i ≡ has (vector_documents m root) (4096 * (place / 4096) + i))
    → ((j : ℕ) → in_words words j ≡ (in_words old j && not (nat_eq j (place % 4096))))
    → (i : ℕ) → i < 4096 → in_words words i ≡ (has (vector_documents m root) (4096 * (doc / 4096) + i) && not (nat_eq i (doc % 4096)))
cleared_bits m root doc place old words same before set i low =
    set i ∙ ap (λ b. b && not (nat_eq i (place % 4096))) (before i low)
    ∙ ap (λ n. has (vector_documents m root) (4096 * (n / 4096) + i) && not (nat_eq i (n % 4096))) same

pub none_left : (m : Records) (root doc : ℕ) (words : List ℕ) → ((i : ℕ) → in_words words i ≡ false)
    → ((i : ℕ) → i < 4096 → in_words words i ≡ (has (vector_documents m root) (4096 * (doc / 4096) + i) && not (nat_eq i (doc % 4096))))
    → (i : ℕ) → i < 4096 → in_words [] i ≡ (has (vector_documents m root) (4096 * (doc / 4096) + i) && not (nat_eq i (doc % 4096)))
none_left m root doc words none bits i low = no_bits [] i refl ∙ sym (none i) ∙ bits i low

pub record AreLeft (k : ℕ) (words : List ℕ) : Type 0 where
  pub form : IsBlock k words
  pub numbers : AllByRecursion IsDocNumber (block_documents k words)

pub are_left : (m : Records) (root doc place : ℕ) (words : List ℕ) → IsVector m root → place ≡ doc → IsDocNumber place → length words ≡ 64 → HasBit words
    → ((i : ℕ) → i < 4096 → in_words words i ≡ (has (vector_documents m root) (4096 * (doc / 4096) + i) && not (nat_eq i (doc % 4096))))
    → AreLeft (place / 4096) words
are_left m root doc place words is same number size some bits =
    let last : place ≤ 1048575 = number.1 in
    let within = some.within in
    record {
      form = block_is (place / 4096) words some.bit (omega (arith, last)) size (omega (arith, within, size)) some.set;
      numbers = block_numbers (place / 4096) words (vector_documents m root) place is.numbers number refl (λ i low there.
          still_set (has (vector_documents m root) (4096 * (place / 4096) + i)) (nat_eq i (doc % 4096))
          (ap (λ n. has (vector_documents m root) (4096 * (n / 4096) + i) && not (nat_eq i (doc % 4096))) same ∙ sym (bits i low) ∙ there) (nat_eq i (place % 4096)));
    }

-- whether the bit was set before
pub was_set : (m : Records) (root doc place : ℕ) (old : List ℕ) (b : Bool) → place ≡ doc
    → ((i : ℕ) → i < 4096 → in_words old i ≡ has (vector_documents m root) (4096 * (place / 4096) + i)) → b ≡ in_words old (place % 4096)
    → b ≡ has (vector_documents m root) doc
was_set m root doc place old b same before is =
    is ∙ before (place % 4096) (omega arith)
    ∙ ap (has (vector_documents m root)) ((let e : 4096 * (place / 4096) + place % 4096 ≡ place = omega arith in e) ∙ same)

pub denied : {A : Type 0} (b : Bool) → false ≡ b → b ≡ true → A
denied b is there = let lost : false ≡ true = is ∙ there in absurd (grind (arith, lost))
