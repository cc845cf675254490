-- A walk through the documents of a bit vector.
use Rattle.std.proofs.Common.{◌≡◌, ◌⊎◌, inl, inr, ℕ, suc, ◌+◌, ◌*◌, ◌/◌, ◌%◌, ◌<◌, ◌≤◌, Bool, true, false, ◌||◌, cond, List, [], ◌∷◌, ◌++◌, map, filter, drop, length, nat_eq, nat_le, refl, sym, ap, ap₂, subst, ◌∙◌, arith}
use Rattle.std.specs.Prelude.{◌↔◌}
use Rattle.std.specs.List.{AllByRecursion}
use Rattle.std.specs.List.Sorted.{IsStrictlySortedBy}
use Rattle.std.specs.Ordering.{nat_cmp}
use Rattle.std.proofs.lemmas.Bool.{eqb-true, eq-eqb, le-leb, cases_lt}
use Rattle.std.proofs.lemmas.List.Elements.{filter-append}
use Rattle.list_lemmas.proofs.Each.{AllByRecursion-right}
use Rattle.list_lemmas.proofs.Tests.{too_many}
use Rattle.entry_ref.specs.Records.{Records}
use Rattle.tree_read.specs.SearchPlaces.{CursorPlace, IsAt, pairs_from, first_key, first_value}
use Rattle.tree_read.specs.Trees.{tree_pairs}
use Rattle.attr_types.specs.Lawful.{IsDocNumber}
use Rattle.image_format.specs.Postings.{block_documents, IsBlock}
use Rattle.index_model.proofs.BitLemmas.{by_cases}
use Rattle.index_model.specs.Sets.{has, in_words, IsAscending}
use Rattle.bit_vector.specs.Blocks.{IsNextBit}
use Rattle.bit_vector.specs.Vectors.{blocks_documents, IsVector}
use Rattle.bit_vector.specs.Walks.{documents_from, first_document, HasDocument, IsBlockPlace, IsInBlock, IsVectorPlace}
use Rattle.bit_vector.specs.declared.cursor.VectorCursor.{VectorCursor}
use Rattle.bit_vector.proofs.DocumentLemmas.{all_has, has_all, has_append}
use Rattle.bit_vector.proofs.VectorLemmas.{blocks_ascend, in_block, later, own_block}

-- filters of documents
keeps : (test : ℕ → Bool) (ds : List ℕ) → AllByRecursion (λ d. test d ≡ true) ds → filter test ds ≡ ds
keeps test [] all = refl
keeps test (d ∷ ds) all = ap (λ b. cond b (d ∷ filter test ds) (filter test ds)) all.0 ∙ ap (λ xs. d ∷ xs) (keeps test ds all.1)

loses : (test : ℕ → Bool) (ds : List ℕ) → AllByRecursion (λ d. test d ≡ false) ds → filter test ds ≡ []
loses test [] all = refl
loses test (d ∷ ds) all = ap (λ b. cond b (d ∷ filter test ds) (filter test ds)) all.0 ∙ loses test ds all.1

alike : (test other : ℕ → Bool) (ds : List ℕ) → AllByRecursion (λ d. test d ≡ other d) ds → filter test ds ≡ filter other ds
alike test other [] all = refl
alike test other (d ∷ ds) all =
    ap (λ b. cond b (d ∷ filter test ds) (filter test ds)) all.0 ∙ ap (λ xs. cond (other d) (d ∷ xs) xs) (alike test other ds all.1)

le_true : (a b : ℕ) → a ≤ b → nat_le a b ≡ true
le_true a b le = le-leb a b le

le_false : (a b : ℕ) → b < a → nat_le a b ≡ false
le_false a b low = too_many a b low

above : (x : ℕ) (ds : List ℕ) → AllByRecursion (λ y. x < y) ds → AllByRecursion (λ y. nat_le (suc x) y ≡ true) ds
above x [] all = tt
above x (d ∷ ds) all = let up : x < d = all.0 in (le_true (suc x) d (omega (arith, up)), above x ds all.1)

above_too : (x : ℕ) (ds : List ℕ) → AllByRecursion (λ y. x < y) ds → AllByRecursion (λ y. nat_le x y ≡ true) ds
above_too x [] all = tt
above_too x (d ∷ ds) all = let up : x < d = all.0 in (le_true x d (omega (arith, up)), above_too x ds all.1)

-- a document that is there comes first of those from it on
pub from_first : (doc : ℕ) (ds : List ℕ) → IsAscending ds → has ds doc ≡ true → filter (nat_le doc) ds ≡ doc ∷ filter (nat_le (suc doc)) ds
from_first doc [] up there = absurd (grind (arith, there))
from_first doc (d ∷ ds) up there = by_cases (nat_eq doc d)
    (λ yes.
    let same : doc ≡ d = eqb-true doc d yes in
    let high : AllByRecursion (λ y. doc < y) ds = subst (λ x. AllByRecursion (λ y. x < y) ds) (sym same) up.0 in
    ap (λ b. cond b (d ∷ filter (nat_le doc) ds) (filter (nat_le doc) ds)) (le_true doc d (omega (arith, same)))
    ∙ ap (λ xs. d ∷ xs) (keeps (nat_le doc) ds (above_too doc ds high) ∙ sym (keeps (nat_le (suc doc)) ds (above doc ds high)))
    ∙ ap (λ x. x ∷ filter (nat_le (suc doc)) ds) (sym same)
    ∙ ap (λ xs. doc ∷ xs) (sym (ap (λ b. cond b (d ∷ filter (nat_le (suc doc)) ds) (filter (nat_le (suc doc)) ds)) (le_false (suc doc) d (omega (arith, same))))))
    (λ no.
    let rest : has ds doc ≡ true = sym (ap (λ b. b || has ds doc) no) ∙ there in
    let low : d < doc = all_has (λ x. d < x) ds up.0 doc rest in
    ap (λ b. cond b (d ∷ filter (nat_le doc) ds) (filter (nat_le doc) ds)) (le_false doc d low)
    ∙ from_first doc ds up.1 rest
    ∙ ap (λ xs. doc ∷ xs) (sym (ap (λ b. cond b (d ∷ filter (nat_le (suc doc)) ds) (filter (nat_le (suc doc)) ds)) (le_false (suc doc) d (omega (arith, low))))))

pub first_of_from : (doc : ℕ) (ds : List ℕ) → IsAscending ds → has ds doc ≡ true → doc ≡ first_document (filter (nat_le doc) ds)
first_of_from doc ds up there = sym (ap first_document (from_first doc ds up there))

some_first : (x : ℕ) (xs ys : List ℕ) → ys ≡ x ∷ xs → ys ≡ [] → ⊥
some_first x xs ys is none = absurd (grind (arith, is, none))

pub some_from : (doc : ℕ) (ds : List ℕ) → IsAscending ds → has ds doc ≡ true → filter (nat_le doc) ds ≡ [] → ⊥
some_from doc ds up there none = some_first doc (filter (nat_le (suc doc)) ds) (filter (nat_le doc) ds) (from_first doc ds up there) none

module _ (m : Records) where
  -- a bit of the first block
  pub first_has : (doc : ℕ) (ps : List (ℕ × ℕ)) → IsInBlock m doc ps → has (blocks_documents m ps) doc ≡ true
  first_has doc [] is = let some = is.some in absurd (omega (arith, some))
  first_has doc (p ∷ ps) is =
      has_append (block_documents p.0 (m p.1)) (blocks_documents m ps) doc
      ∙ ap (λ b. b || has (blocks_documents m ps) doc) (in_block p.0 (m p.1) doc is.block ∙ is.bit)

  -- from the first document of the first block on, nothing is passed
  pub from_start : (p : ℕ × ℕ) (ps : List (ℕ × ℕ)) (bit doc : ℕ) → IsStrictlySortedBy nat_cmp (map (λ q. q.0) (p ∷ ps)) → IsNextBit (m p.1) 0 bit → bit < 4096 → doc ≡ 4096 * p.0 + bit
      → filter (nat_le doc) (blocks_documents m (p ∷ ps)) ≡ blocks_documents m (p ∷ ps)
  unfolding IsStrictlySortedBy
  from_start p ps bit doc up found below is =
      keeps (nat_le doc) (blocks_documents m (p ∷ ps)) (has_all (λ d. nat_le doc d ≡ true) (blocks_documents m (p ∷ ps)) (λ d there. by_cases (has (block_documents p.0 (m p.1)) d)
      (λ yes.
      let at : d / 4096 ≡ p.0 = all_has (λ x. x / 4096 ≡ p.0) (block_documents p.0 (m p.1)) (own_block p.0 (m p.1)) d yes in
      let set : in_words (m p.1) (d % 4096) ≡ true = sym (in_block p.0 (m p.1) d at) ∙ yes in
      le_true doc d (least (d % 4096) set (cases_lt (d % 4096) bit) (λ high. omega (arith, at, is, high))))
      (λ no.
      let rest : has (blocks_documents m ps) d ≡ true = sym (ap (λ b. b || has (blocks_documents m ps) d) no) ∙ sym (has_append (block_documents p.0 (m p.1)) (blocks_documents m ps) d) ∙ there in
      let high : p.0 < d / 4096 = all_has (λ x. p.0 < x / 4096) (blocks_documents m ps) (later m p.0 ps up.0) d rest in
      le_true doc d (omega (arith, high, is, below)))))
    where
      least : {G : Type 0} (i : ℕ) → in_words (m p.1) i ≡ true → (i < bit) ⊎ (bit ≤ i) → (bit ≤ i → G) → G
      least i set (inl low) then_high = let lost : true ≡ false = sym set ∙ found.before i (omega arith) low in absurd (grind (arith, lost))
      least i set (inr high) then_high = then_high high

  -- the next document is in the same block
  pub from_next : (p : ℕ × ℕ) (ps : List (ℕ × ℕ)) (doc bit after : ℕ) → IsStrictlySortedBy nat_cmp (map (λ q. q.0) (p ∷ ps)) → IsInBlock m doc (p ∷ ps)
      → IsNextBit (m p.1) (doc % 4096 + 1) bit → bit < 4096 → after ≡ 4096 * (doc / 4096) + bit
      → filter (nat_le after) (blocks_documents m (p ∷ ps)) ≡ drop 1 (filter (nat_le doc) (blocks_documents m (p ∷ ps)))
  unfolding IsStrictlySortedBy
  from_next p ps doc bit after up is found below at_next =
      alike (nat_le after) (nat_le (suc doc)) (blocks_documents m (p ∷ ps)) (has_all (λ d. nat_le after d ≡ nat_le (suc doc) d) (blocks_documents m (p ∷ ps)) (λ d there. by_cases (has (block_documents p.0 (m p.1)) d)
      (λ yes.
      let at : d / 4096 ≡ p.0 = all_has (λ x. x / 4096 ≡ p.0) (block_documents p.0 (m p.1)) (own_block p.0 (m p.1)) d yes in
      let set : in_words (m p.1) (d % 4096) ≡ true = sym (in_block p.0 (m p.1) d at) ∙ yes in
      told d at set (cases_lt (d % 4096) bit))
      (λ no.
      let rest : has (blocks_documents m ps) d ≡ true = sym (ap (λ b. b || has (blocks_documents m ps) d) no) ∙ sym (has_append (block_documents p.0 (m p.1)) (blocks_documents m ps) d) ∙ there in
      let high : p.0 < d / 4096 = all_has (λ x. p.0 < x / 4096) (blocks_documents m ps) (later m p.0 ps up.0) d rest in
      let block : doc / 4096 ≡ p.0 = is.block in
      le_true after d (omega (arith, high, at_next, below, block)) ∙ sym (le_true (suc doc) d (omega (arith, high, block))))))
      ∙ sym (ap (drop 1) (from_first doc (blocks_documents m (p ∷ ps)) (blocks_ascend m (p ∷ ps) up) (first_has doc (p ∷ ps) is)))
    where
      told : (d : ℕ) → d / 4096 ≡ p.0 → in_words (m p.1) (d % 4096) ≡ true → (d % 4096 < bit) ⊎ (bit ≤ d % 4096) → nat_le after d ≡ nat_le (suc doc) d
      told d at set (inr high) =
          let block : doc / 4096 ≡ p.0 = is.block in let up = found.from_on in
          le_true after d (omega (arith, at, high, at_next, block)) ∙ sym (le_true (suc doc) d (omega (arith, at, high, up, block)))
      told d at set (inl low) = by (cases_lt (d % 4096) (doc % 4096 + 1))
        where
          by : (d % 4096 < doc % 4096 + 1) ⊎ (doc % 4096 + 1 ≤ d % 4096) → nat_le after d ≡ nat_le (suc doc) d
          by (inl less) = let block : doc / 4096 ≡ p.0 = is.block in
              le_false after d (omega (arith, at, low, at_next, block)) ∙ sym (le_false (suc doc) d (omega (arith, at, less, block)))
          by (inr more) = let lost : true ≡ false = sym set ∙ found.before (d % 4096) more low in absurd (grind (arith, lost))

  -- the block has no more documents
  pub from_last : (p : ℕ × ℕ) (ps : List (ℕ × ℕ)) (doc bit : ℕ) → IsStrictlySortedBy nat_cmp (map (λ q. q.0) (p ∷ ps)) → IsInBlock m doc (p ∷ ps)
      → IsNextBit (m p.1) (doc % 4096 + 1) bit → 4096 ≤ bit → blocks_documents m ps ≡ drop 1 (filter (nat_le doc) (blocks_documents m (p ∷ ps)))
  unfolding IsStrictlySortedBy
  from_last p ps doc bit up is found end =
      sym (ap (drop 1) (from_first doc (blocks_documents m (p ∷ ps)) (blocks_ascend m (p ∷ ps) up) (first_has doc (p ∷ ps) is))
      ∙ filter-append (nat_le (suc doc)) (block_documents p.0 (m p.1)) (blocks_documents m ps)
      ∙ ap₂ (λ xs ys. xs ++ ys)
      (loses (nat_le (suc doc)) (block_documents p.0 (m p.1)) (has_all (λ d. nat_le (suc doc) d ≡ false) (block_documents p.0 (m p.1)) (λ d yes.
      let at : d / 4096 ≡ p.0 = all_has (λ x. x / 4096 ≡ p.0) (block_documents p.0 (m p.1)) (own_block p.0 (m p.1)) d yes in
      let set : in_words (m p.1) (d % 4096) ≡ true = sym (in_block p.0 (m p.1) d at) ∙ yes in
      told d at set (cases_lt (d % 4096) (doc % 4096 + 1)))))
      (keeps (nat_le (suc doc)) (blocks_documents m ps) (has_all (λ d. nat_le (suc doc) d ≡ true) (blocks_documents m ps) (λ d rest.
      let high : p.0 < d / 4096 = all_has (λ x. p.0 < x / 4096) (blocks_documents m ps) (later m p.0 ps up.0) d rest in
      let block : doc / 4096 ≡ p.0 = is.block in
      le_true (suc doc) d (omega (arith, high, block))))))
    where
      told : (d : ℕ) → d / 4096 ≡ p.0 → in_words (m p.1) (d % 4096) ≡ true → (d % 4096 < doc % 4096 + 1) ⊎ (doc % 4096 + 1 ≤ d % 4096) → nat_le (suc doc) d ≡ false
      told d at set (inl less) = let block : doc / 4096 ≡ p.0 = is.block in le_false (suc doc) d (omega (arith, at, less, block))
      told d at set (inr more) = let lost : true ≡ false = sym set ∙ found.before (d % 4096) more (omega (arith, end)) in absurd (grind (arith, lost))

  -- a block has a first document
  first_below : (k : ℕ) (ws : List ℕ) (bit : ℕ) → IsBlock k ws → IsNextBit ws 0 bit → bit < 4096
  first_below k ws bit block found = told (block_documents k ws) block.some (λ d there. there) (cases_lt bit 4096)
    where
      told : (ds : List ℕ) → 0 < length ds → ((d : ℕ) → has ds d ≡ true → has (block_documents k ws) d ≡ true) → (bit < 4096) ⊎ (4096 ≤ bit) → bit < 4096
      told ds some among (inl low) = low
      told [] some among (inr high) = absurd (omega (arith, some))
      told (d ∷ ds) some among (inr high) =
          let there = among d (ap (λ b. b || has ds d) (eq-eqb d d refl)) in
          let at : d / 4096 ≡ k = all_has (λ x. x / 4096 ≡ k) (block_documents k ws) (own_block k ws) d there in
          let lost : true ≡ false = sym there ∙ in_block k ws d at ∙ found.before (d % 4096) (omega arith) (omega (arith, high)) in
          absurd (grind (arith, lost))

  module _ (ps : List (ℕ × ℕ)) (key value bit : ℕ) (some : ps ≡ [] → ⊥) (key_is : key ≡ first_key ps) (value_is : value ≡ first_value ps)
      (all : AllByRecursion (λ p. IsBlock p.0 (m p.1)) ps) (found : IsNextBit (m value) 0 bit) where
    pub enter_below : bit < 4096
    enter_below = below ps some all value_is
      where
        below : (qs : List (ℕ × ℕ)) → (qs ≡ [] → ⊥) → AllByRecursion (λ p. IsBlock p.0 (m p.1)) qs → value ≡ first_value qs → bit < 4096
        below [] some all is = absurd (some refl)
        below (q ∷ qs) some all is = first_below q.0 (m q.1) bit all.0 (subst (λ v. IsNextBit (m v) 0 bit) is found)

    pub enter_place : (doc : ℕ) → doc ≡ 4096 * key + bit → IsInBlock m doc ps
    enter_place doc is =
        let low = enter_below in
        record {
          some = filled ps some;
          block = (let e : doc / 4096 ≡ key = omega (arith, is, low) in e) ∙ key_is;
          bit = ap (λ v. in_words (m v) (doc % 4096)) (sym value_is) ∙ ap (in_words (m value)) (let e : doc % 4096 ≡ bit = omega (arith, is, low) in e) ∙ found.set low;
        }
      where
        filled : (qs : List (ℕ × ℕ)) → (qs ≡ [] → ⊥) → 0 < length qs
        filled [] some = absurd (some refl)
        filled (q ∷ qs) some = omega arith

    pub enter_documents : (doc : ℕ) → doc ≡ 4096 * key + bit → IsStrictlySortedBy nat_cmp (map (λ q. q.0) ps) → filter (nat_le doc) (blocks_documents m ps) ≡ blocks_documents m ps
    enter_documents doc is up = told ps some key_is value_is up
      where
        told : (qs : List (ℕ × ℕ)) → (qs ≡ [] → ⊥) → key ≡ first_key qs → value ≡ first_value qs → IsStrictlySortedBy nat_cmp (map (λ q. q.0) qs)
            → filter (nat_le doc) (blocks_documents m qs) ≡ blocks_documents m qs
        told [] none k v up = absurd (none refl)
        told (q ∷ qs) none k v up = from_start q qs bit doc up (subst (λ r. IsNextBit (m r) 0 bit) v found) enter_below (is ∙ ap (λ n. 4096 * n + bit) k)

  -- the next document, in the same block or in another
  module _ (ps : List (ℕ × ℕ)) (doc value bit : ℕ) (up : IsStrictlySortedBy nat_cmp (map (λ q. q.0) ps)) (is : IsInBlock m doc ps) (value_is : value ≡ first_value ps)
      (found : IsNextBit (m value) (doc % 4096 + 1) bit) where
    pub next_place : (later_doc : ℕ) → bit < 4096 → later_doc ≡ doc / 4096 * 4096 + bit → IsInBlock m later_doc ps
    next_place later_doc low at = record {
      some = is.some;
      block = (let e : later_doc / 4096 ≡ doc / 4096 = omega (arith, at, low) in e) ∙ is.block;
      bit = ap (λ v. in_words (m v) (later_doc % 4096)) (sym value_is) ∙ ap (in_words (m value)) (let e : later_doc % 4096 ≡ bit = omega (arith, at, low) in e) ∙ found.set low;
    }

    pub next_documents : (later_doc : ℕ) → bit < 4096 → later_doc ≡ doc / 4096 * 4096 + bit
        → filter (nat_le later_doc) (blocks_documents m ps) ≡ drop 1 (filter (nat_le doc) (blocks_documents m ps))
    next_documents later_doc low at = told ps up is value_is
      where
        told : (qs : List (ℕ × ℕ)) → IsStrictlySortedBy nat_cmp (map (λ q. q.0) qs) → IsInBlock m doc qs → value ≡ first_value qs
            → filter (nat_le later_doc) (blocks_documents m qs) ≡ drop 1 (filter (nat_le doc) (blocks_documents m qs))
        told [] up is v = let some = is.some in absurd (omega (arith, some))
        told (q ∷ qs) up is v = from_next q qs doc bit later_doc up is (subst (λ r. IsNextBit (m r) (doc % 4096 + 1) bit) v found) low (omega (arith, at))

    pub last_documents : (qs : List (ℕ × ℕ)) → 4096 ≤ bit → qs ≡ drop 1 ps → blocks_documents m qs ≡ drop 1 (filter (nat_le doc) (blocks_documents m ps))
    last_documents qs high rest = ap (blocks_documents m) rest ∙ told ps up is value_is
      where
        told : (xs : List (ℕ × ℕ)) → IsStrictlySortedBy nat_cmp (map (λ q. q.0) xs) → IsInBlock m doc xs → value ≡ first_value xs
            → blocks_documents m (drop 1 xs) ≡ drop 1 (filter (nat_le doc) (blocks_documents m xs))
        told [] up is v = let some = is.some in absurd (omega (arith, some))
        told (x ∷ xs) up is v = from_last x xs doc bit up is (subst (λ r. IsNextBit (m r) (doc % 4096 + 1) bit) v found) high

-- the position after the first block
drop_sorted : (ps : List (ℕ × ℕ)) → IsStrictlySortedBy nat_cmp (map (λ p. p.0) ps) → IsStrictlySortedBy nat_cmp (map (λ p. p.0) (drop 1 ps))
unfolding IsStrictlySortedBy
drop_sorted [] up = tt
drop_sorted (p ∷ ps) up = up.1

drop_numbers : (m : Records) (ps : List (ℕ × ℕ)) → AllByRecursion IsDocNumber (blocks_documents m ps) → AllByRecursion IsDocNumber (blocks_documents m (drop 1 ps))
drop_numbers m [] all = tt
drop_numbers m (p ∷ ps) all = AllByRecursion-right IsDocNumber (block_documents p.0 (m p.1)) (blocks_documents m ps) all

drop_blocks : (m : Records) (ps : List (ℕ × ℕ)) → AllByRecursion (λ p. IsBlock p.0 (m p.1)) ps → AllByRecursion (λ p. IsBlock p.0 (m p.1)) (drop 1 ps)
drop_blocks m [] all = tt
drop_blocks m (p ∷ ps) all = all.1

pub next_blocks : (m : Records) (at then_at : CursorPlace) → IsBlockPlace m at → IsAt m then_at → pairs_from m then_at ≡ drop 1 (pairs_from m at) → IsBlockPlace m then_at
next_blocks m at then_at is stands rest = record {
  stands = stands;
  ascends = subst (λ (ps : List (ℕ × ℕ)). IsStrictlySortedBy nat_cmp (map (λ p. p.0) ps)) (sym rest) (drop_sorted (pairs_from m at) is.ascends);
  blocks = subst (AllByRecursion (λ (p : ℕ × ℕ). IsBlock p.0 (m p.1))) (sym rest) (drop_blocks m (pairs_from m at) is.blocks);
  numbers = subst (λ (ps : List (ℕ × ℕ)). AllByRecursion IsDocNumber (blocks_documents m ps)) (sym rest) (drop_numbers m (pairs_from m at) is.numbers);
}

pub first_blocks : (m : Records) (root : ℕ) (at : CursorPlace) → IsVector m root → IsAt m at → pairs_from m at ≡ tree_pairs m root → IsBlockPlace m at
first_blocks m root at is stands pairs = record {
  stands = stands;
  ascends = subst (λ (ps : List (ℕ × ℕ)). IsStrictlySortedBy nat_cmp (map (λ p. p.0) ps)) (sym pairs) is.tree_is.ascends;
  blocks = subst (AllByRecursion (λ (p : ℕ × ℕ). IsBlock p.0 (m p.1))) (sym pairs) is.blocks;
  numbers = subst (λ (ps : List (ℕ × ℕ)). AllByRecursion IsDocNumber (blocks_documents m ps)) (sym pairs) is.numbers;
}

-- a position at the end
module _ {bits : ℕ} (m : Records) (at : VectorCursor bits) (place : IsVectorPlace m at) where
  pub has_first : HasDocument at → has (blocks_documents m (pairs_from m at.blocks)) at.doc ≡ true
  has_first has_it = first_has m at.doc (pairs_from m at.blocks) (place.document has_it)

  pub doc_is : HasDocument at → at.doc ≡ first_document (documents_from m at)
  doc_is has_it = first_of_from at.doc (blocks_documents m (pairs_from m at.blocks)) (blocks_ascend m (pairs_from m at.blocks) place.blocks.ascends) (has_first has_it)

  pub number_is : HasDocument at → IsDocNumber at.doc
  number_is has_it = all_has IsDocNumber (blocks_documents m (pairs_from m at.blocks)) place.blocks.numbers at.doc (has_first has_it)

  pub end_tells : (b : Bool) → (b ≡ true → pairs_from m at.blocks ≡ []) → (b ≡ false → HasDocument at) → (b ≡ true) ↔ (documents_from m at ≡ [])
  end_tells b tells follows = (
    λ yes. ap (λ (ps : List (ℕ × ℕ)). filter (nat_le at.doc) (blocks_documents m ps)) (tells yes),
    λ none. by_cases b (λ yes. yes) (λ no. absurd (some_from at.doc (blocks_documents m (pairs_from m at.blocks)) (blocks_ascend m (pairs_from m at.blocks) place.blocks.ascends) (has_first (follows no)) none)),
  )

pub follows_if : (slot used : ℕ) (b : Bool) → (b ≡ true) ↔ (slot < used → ⊥) → b ≡ false → slot < used
follows_if slot used b tells is = told (cases_lt slot used)
  where
    told : (slot < used) ⊎ (used ≤ slot) → slot < used
    told (inl low) = low
    told (inr high) = let lost : true ≡ false = sym (tells.1 (λ low. omega (arith, low, high))) ∙ is in absurd (grind (arith, lost))

-- the first document of the first block has a valid number
pub enter_number : (m : Records) (ps : List (ℕ × ℕ)) (doc : ℕ) → IsInBlock m doc ps → AllByRecursion IsDocNumber (blocks_documents m ps) → IsDocNumber doc
enter_number m ps doc is all = all_has IsDocNumber (blocks_documents m ps) all doc (first_has m doc ps is)

-- a walk that gathers the documents
pub fewer_documents : (rest behind : List ℕ) → (rest ≡ [] → ⊥) → behind ≡ drop 1 rest → length behind < length rest
fewer_documents [] behind some is = absurd (some refl)
fewer_documents (d ∷ ds) behind some is = let e = ap length is in omega (arith, e)

pub more_documents : (done more rest behind whole : List ℕ) (doc : ℕ) → (rest ≡ [] → ⊥) → doc ≡ first_document rest → behind ≡ drop 1 rest → more ≡ done ++ doc ∷ []
    → done ++ rest ≡ whole → more ++ behind ≡ whole
more_documents done more [] behind whole doc some first is new was = absurd (some refl)
more_documents done more (d ∷ ds) behind whole doc some first is new was =
    ap₂ (λ (xs ys : List ℕ). xs ++ ys) new is ∙ joins done ∙ ap (λ (x : ℕ). done ++ (x ∷ ds)) first ∙ was
  where
    joins : (xs : List ℕ) → (xs ++ doc ∷ []) ++ ds ≡ xs ++ (doc ∷ ds)
    joins [] = refl
    joins (x ∷ xs) = ap (λ ys. x ∷ ys) (joins xs)
