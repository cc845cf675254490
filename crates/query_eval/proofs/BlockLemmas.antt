-- The documents of a block, word by word.
use Rattle.std.proofs.Common.{◌≡◌, ℕ, ◌+◌, ◌*◌, ◌/◌, ◌%◌, ◌<◌, ◌≤◌, Bool, true, false, ◌&&◌, ◌||◌, List, [], ◌∷◌, length, get_or, refl, sym, ap, ap₂, subst, ◌∙◌, arith, nat_eq, nat_lt}
use Rattle.std.proofs.lemmas.Bool.{ne_eqb, eq-eqb, eqb-true, eqb-false, lt-ltb, le-ltb, ltb-true, ltb-false, false≢true}
use Rattle.std.specs.Int.{bit_at}
use Rattle.std.specs.List.{AllByRecursion}
use Rattle.image_format.specs.Postings.{block_documents}
use Rattle.image_format.proofs.BlockLemmas.{block_has_bits}
use Rattle.attr_types.specs.Lawful.{IsDocNumber}
use Rattle.index_model.proofs.BitLemmas.{by_cases}
use Rattle.index_model.specs.Sets.{has, in_words}
use Rattle.query_eval.specs.Blocks.{in_word}

-- no document of a block is outside
pub outside : (k doc : ℕ) (ws : List ℕ) → (doc / 4096 ≡ k → ⊥) → has (block_documents k ws) doc ≡ false
outside k doc ws out = block_has_bits k doc ws ∙ ap (λ b. b && in_words ws (doc % 4096)) (ne_eqb (doc / 4096) k out)

same_test : (doc k i : ℕ) → (doc / 64 ≡ k * 64 + i → ⊥) → nat_lt doc (4096 * k + 64 * i) ≡ nat_lt doc (4096 * k + 64 * (i + 1))
same_test doc k i apart = by_cases (nat_lt doc (4096 * k + 64 * i))
    (λ yes. yes ∙ sym (lt-ltb doc (4096 * k + 64 * (i + 1)) (let less = ltb-true doc (4096 * k + 64 * i) yes in omega (arith, less))))
    (λ no. no ∙ sym (le-ltb doc (4096 * k + 64 * (i + 1)) (by_cases (nat_lt doc (4096 * k + 64 * (i + 1)))
    (λ less.
    let low = ltb-false doc (4096 * k + 64 * i) no in
    let high = ltb-true doc (4096 * k + 64 * (i + 1)) less in
    absurd (apart (omega (arith, low, high))))
    (λ more. ltb-false doc (4096 * k + 64 * (i + 1)) more))))

and_left : (a b : Bool) → (a && b) ≡ true → a ≡ true
and_left true b is = refl
and_left false b is = is

module _ (k : ℕ) (ws : List ℕ) (doc : ℕ) where
  and_false : (b : Bool) → (b && false) ≡ false
  and_false true = refl
  and_false false = refl

  or_false : (b : Bool) → b ≡ (b || false)
  or_false true = refl
  or_false false = refl

  -- the documents of a block in one of its words
  word_is : (i : ℕ) → i < 64 → nat_eq (doc / 64) (k * 64 + i) ≡ true → in_word (k * 64 + i) (get_or ws i 0) doc ≡ has (block_documents k ws) doc
  word_is i below at =
      let here : doc / 64 ≡ k * 64 + i = eqb-true (doc / 64) (k * 64 + i) at in
      let block : doc / 4096 ≡ k = omega (arith, here, below) in
      let place : (doc % 4096) / 64 ≡ i = omega (arith, here, below) in
      let bit : (doc % 4096) % 64 ≡ doc % 64 = omega arith in
      ap (λ b. b && nat_eq (bit_at (get_or ws i 0) (doc % 64)) 1) at
      ∙ sym (block_has_bits k doc ws ∙ ap (λ b. b && in_words ws (doc % 4096)) (eq-eqb (doc / 4096) k block)
      ∙ ap₂ (λ a b. nat_eq (bit_at (get_or ws a 0) b) 1) place bit)

  pub word_documents : (i : ℕ) → i < 64 → in_word (k * 64 + i) (get_or ws i 0) doc ≡ true → has (block_documents k ws) doc ≡ true
  word_documents i below is =
      sym (word_is i below (and_left (nat_eq (doc / 64) (k * 64 + i)) (nat_eq (bit_at (get_or ws i 0) (doc % 64)) 1) is)) ∙ is

  pub none_yet : (start : Bool) → start ≡ (start || (nat_lt doc (4096 * k + 64 * 0) && has (block_documents k ws) doc))
  none_yet start = or_false start ∙ ap (λ b. start || b) (sym (by_cases (nat_lt doc (4096 * k + 64 * 0))
      (λ yes. ap (λ b. nat_lt doc (4096 * k + 64 * 0) && b) (outside k doc ws (λ is. let less = ltb-true doc (4096 * k + 64 * 0) yes in omega (arith, is, less))) ∙ and_false (nat_lt doc (4096 * k + 64 * 0)))
      (λ no. ap (λ b. b && has (block_documents k ws) doc) no)))

  pub all_there : (now start : Bool) → now ≡ (start || (nat_lt doc (4096 * k + 64 * 64) && has (block_documents k ws) doc)) → now ≡ (start || has (block_documents k ws) doc)
  all_there now start is = is ∙ ap (λ b. start || b) (by_cases (nat_lt doc (4096 * k + 64 * 64))
      (λ yes. ap (λ b. b && has (block_documents k ws) doc) yes)
      (λ no. ap (λ b. b && has (block_documents k ws) doc) no ∙ sym (outside k doc ws (λ is. let more = ltb-false doc (4096 * k + 64 * 64) no in omega (arith, is, more)))))

  pub one_more : (i : ℕ) → i < 64 → (start now new : Bool) → now ≡ (start || (nat_lt doc (4096 * k + 64 * i) && has (block_documents k ws) doc))
      → new ≡ (now || in_word (k * 64 + i) (get_or ws i 0) doc)
      → new ≡ (start || (nat_lt doc (4096 * k + 64 * (i + 1)) && has (block_documents k ws) doc))
  one_more i below start now new before is = by_cases (nat_eq (doc / 64) (k * 64 + i))
      (λ yes.
      let here : doc / 64 ≡ k * 64 + i = eqb-true (doc / 64) (k * 64 + i) yes in
      is
      ∙ ap₂ (λ a b. a || b)
      (before ∙ ap (λ b. start || (b && has (block_documents k ws) doc)) (le-ltb doc (4096 * k + 64 * i) (omega (arith, here))) ∙ sym (or_false start))
      (word_is i below yes)
      ∙ ap (λ b. start || (b && has (block_documents k ws) doc)) (sym (lt-ltb doc (4096 * k + 64 * (i + 1)) (omega (arith, here)))))
      (λ no.
      is ∙ ap (λ b. now || (b && nat_eq (bit_at (get_or ws i 0) (doc % 64)) 1)) no ∙ sym (or_false now) ∙ before
      ∙ ap (λ b. start || (b && has (block_documents k ws) doc)) (same_test doc k i (eqb-false (doc / 64) (k * 64 + i) no)))

-- the number of a block of documents is small
first_number : (k : ℕ) (docs : List ℕ) (P : ℕ → Type 0) → 0 < length docs → AllByRecursion P docs → (d : ℕ) × P d × (has docs d ≡ true)
first_number k [] P some all = absurd (omega (arith, some))
first_number k (d ∷ docs) P some all = (d, all.0, ap (λ b. b || has docs d) (eq-eqb d d refl))

pub block_small : (k : ℕ) (ws : List ℕ) → 0 < length (block_documents k ws) → AllByRecursion IsDocNumber (block_documents k ws) → k ≤ 255
block_small k ws some all =
    let first = first_number k (block_documents k ws) IsDocNumber some all in
    let doc = first.0 in
    let bound = first.1.1 in
    by_cases (nat_eq (doc / 4096) k)
    (λ yes. let same = eqb-true (doc / 4096) k yes in omega (arith, same, bound))
    (λ no. absurd (false≢true (sym (outside k doc ws (eqb-false (doc / 4096) k no)) ∙ first.2)))

pub all_has : (P : ℕ → Type 0) (docs : List ℕ) → AllByRecursion P docs → (d : ℕ) → has docs d ≡ true → P d
all_has P [] all d is = absurd (false≢true is)
all_has P (x ∷ docs) all d is = by_cases (nat_eq d x)
    (λ yes. subst P (sym (eqb-true d x yes)) all.0)
    (λ no. all_has P docs all.1 d (sym (ap (λ b. b || has docs d) no) ∙ is))
