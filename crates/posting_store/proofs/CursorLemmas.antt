-- Places in a list.
use Rattle.std.proofs.Common.{◌≡◌, ℕ, zero, suc, ◌+◌, ◌<◌, ◌≤◌, ◌/◌, ◌%◌, ◌^◌, ℤ, pos, Bool, true, false, cond, nat_eq, nat_le, ◌&&◌, ◌||◌, true≢false, List, [], ◌∷◌}
use Rattle.std.proofs.Common.{◌++◌, map, filter, take, drop, length, refl, sym, ap, subst, ◌∙◌, arith}
use Rattle.std.proofs.lemmas.Bool.{eq-eqb, eqb-true, le-leb}
use Rattle.std.specs.Prelude.{slice_index}
use Rattle.std.proofs.lemmas.List.{drop-map}
use Rattle.std.specs.List.{flat_map, AllByRecursion}
use Rattle.std.specs.Map.{keys_of}
use Rattle.entry_ref.specs.Records.{Records}
use Rattle.std.proofs.lemmas.Int.{of_z-to_z}
use Rattle.std.specs.Int.{cast_signed, cast_unsigned, w32}
use Rattle.list_lemmas.proofs.Places.{drop-read}
use Rattle.tree_read.specs.SearchPlaces.{CursorPlace, IsAt, pairs_from, first_key}
use Rattle.tree_read.proofs.PlaceLemmas.{pair-first}
use Rattle.array_store.specs.Arrays.{IsArray}
use Rattle.array_store.proofs.ArrayLemmas.{count_read, item_read}
use Rattle.attr_types.specs.Lawful.{IsDocNumber}
use Rattle.image_format.proofs.BlockLemmas.{block_has_bits}
use Rattle.image_format.specs.Postings.{block_documents, vector_documents}
use Rattle.image_format.specs.Words.{unpacked, weight_in_bits, stored_items}
use Rattle.bit_vector.specs.declared.cursor.VectorCursor.{VectorCursor}
use Rattle.index_model.specs.Sets.{has, in_words}
use Rattle.bit_vector.specs.Walks.{documents_from, first_document, HasDocument, IsInBlock, IsVectorPlace}
use Rattle.posting_store.specs.Lists.{list_at, IsList}
use Rattle.posting_store.specs.declared.cursor.PostingCursor.{PostingCursor}
use Rattle.posting_store.specs.declared.cursor.PostingCursor.TheVariants.{Short, Tree, Vector}
use Rattle.posting_store.specs.Walks.{postings_from, first_doc, first_weight, HasPosting, StandsInList, IsListPlace}
use Rattle.posting_store.proofs.VectorLemmas.{with_ones, vector_list_at}

-- the first document of some is one
pub first_is_doc : (es rest : List (ℕ × ℤ)) (e : ℕ × ℤ) → es ≡ e ∷ rest → AllByRecursion IsDocNumber (keys_of es) → IsDocNumber (first_doc es)
first_is_doc es rest e is all = subst (λ (es : List (ℕ × ℤ)). AllByRecursion IsDocNumber (keys_of es) → IsDocNumber (first_doc es)) (sym is) (λ all. all.0) all

-- the items left at a place of a record
module _ (ws : List ℕ) (count at : ℕ) (low : at < count) (array : IsArray ws) (is : count ≡ slice_index ws 0) where
  pub items_left : drop at (take count (drop 1 ws)) ≡ slice_index ws (1 + at) ∷ drop (at + 1) (take count (drop 1 ws))
  items_left =
      subst (λ n. drop at (take n (drop 1 ws)) ≡ slice_index ws (1 + at) ∷ drop (at + 1) (take n (drop 1 ws))) (sym is)
      (let size = count_read ws array in
      drop-read (stored_items ws) at (slice_index ws (1 + at)) 0 (omega arith) (item_read ws at (omega arith)))

  pub short_doc : slice_index ws (1 + at) / 4294967296 ≡ first_doc (map unpacked (drop at (take count (drop 1 ws))))
  short_doc = ap (λ items. first_doc (map unpacked items)) (sym items_left)

  pub short_weight : weight_in_bits (slice_index ws (1 + at) % 4294967296) ≡ first_weight (map unpacked (drop at (take count (drop 1 ws))))
  short_weight = ap (λ items. first_weight (map unpacked items)) (sym items_left)

-- behind one item
drop_suc : {A : Type 0} (at : ℕ) (xs : List A) → drop (suc at) xs ≡ drop 1 (drop at xs)
drop_suc zero xs = refl
drop_suc (suc at) [] = refl
drop_suc (suc at) (x ∷ xs) = drop_suc at xs

drop_one_more : {A : Type 0} (at : ℕ) (xs : List A) → drop (at + 1) xs ≡ drop 1 (drop at xs)
drop_one_more at xs = ap (λ n. drop n xs) (let e : at + 1 ≡ suc at = omega arith in e) ∙ drop_suc at xs

pub short_next : (at : ℕ) (items : List ℕ) → map unpacked (drop (at + 1) items) ≡ drop 1 (map unpacked (drop at items))
short_next at items = ap (map unpacked) (drop_one_more at items) ∙ sym (drop-map unpacked 1 (drop at items))

-- what holds of the keys left holds behind one
pub numbers_next : (es next : List (ℕ × ℤ)) → next ≡ drop 1 es → AllByRecursion IsDocNumber (keys_of es) → AllByRecursion IsDocNumber (keys_of next)
numbers_next es next is all = subst (λ (es : List (ℕ × ℤ)). AllByRecursion IsDocNumber (keys_of es)) (sym is) (behind es all)
  where
    behind : (es : List (ℕ × ℤ)) → AllByRecursion IsDocNumber (keys_of es) → AllByRecursion IsDocNumber (keys_of (drop 1 es))
    behind [] all = tt
    behind (e ∷ es) all = all.1

-- a place in a record that is seen as one of a list
module _ {bits : ℕ} (m : Records) (self : PostingCursor bits) (list count at : ℕ) (is : self ≡ Short list count at) (place : IsListPlace m self) where
  pub next_place : (next : PostingCursor bits) → next ≡ Short list count (at + 1) → HasPosting self → IsListPlace m next
  next_place next step some = subst (IsListPlace m) (sym step) (
      record {
        stands = λ low. subst (StandsInList m) is place.stands (omega arith);
        numbers = numbers_next (map unpacked (drop at (take count (drop 1 (m list))))) (map unpacked (drop (at + 1) (take count (drop 1 (m list)))))
            (short_next at (take count (drop 1 (m list))))
            (subst (λ (s : PostingCursor bits). AllByRecursion IsDocNumber (keys_of (postings_from m s))) is place.numbers);
      }
      )

  pub next_postings : map unpacked (drop (at + 1) (take count (drop 1 (m list)))) ≡ drop 1 (postings_from m self)
  next_postings = short_next at (take count (drop 1 (m list))) ∙ ap (λ (s : PostingCursor bits). drop 1 (postings_from m s)) (sym is)

  module _ (some : HasPosting self) where
    low : at < count
    low = subst HasPosting is some

    stands : IsArray (m list) × (count ≡ slice_index (m list) 0)
    stands = subst (StandsInList m) is place.stands low

    pub this_doc : slice_index (m list) (1 + at) / 4294967296 ≡ first_doc (postings_from m self)
    this_doc = short_doc (m list) count at low stands.0 stands.1 ∙ ap (λ (s : PostingCursor bits). first_doc (postings_from m s)) (sym is)

    pub this_weight : weight_in_bits (slice_index (m list) (1 + at) % 4294967296) ≡ first_weight (postings_from m self)
    this_weight = short_weight (m list) count at low stands.0 stands.1 ∙ ap (λ (s : PostingCursor bits). first_weight (postings_from m s)) (sym is)

-- a place in a tree
pub tree_doc : {bits : ℕ} (m : Records) (self : PostingCursor bits) (at : CursorPlace) (key : ℕ) → self ≡ Tree at → IsListPlace m self → HasPosting self
    → ((m : Records) → IsAt m at → key ≡ first_key (pairs_from m at)) → 1 ≤ key
tree_doc {bits} m self at key is place some reads =
    let place_is : PostingCursor bits = Tree at in
    let stands : StandsInList m place_is = subst (StandsInList m) is place.stands in
    let numbers : AllByRecursion IsDocNumber (keys_of (postings_from m place_is)) = subst (λ (s : PostingCursor bits). AllByRecursion IsDocNumber (keys_of (postings_from m s))) is place.numbers in
    let first = pair-first m at stands.0 (subst HasPosting is some) in
    let e : key ≡ first_key (pairs_from m at) = reads m stands.0 in
    subst (λ k. 1 ≤ k) (sym e) (above (pairs_from m at) _ _ first numbers)
  where
    above : (ps rest : List (ℕ × ℕ)) (p : ℕ × ℕ) → ps ≡ p ∷ rest → AllByRecursion IsDocNumber (keys_of (map {B = ℕ × ℤ} (λ p. (p.0, weight_in_bits p.1)) ps)) → 1 ≤ first_key ps
    above ps rest p is all = subst (λ (ps : List (ℕ × ℕ)). AllByRecursion IsDocNumber (keys_of (map {B = ℕ × ℤ} (λ p. (p.0, weight_in_bits p.1)) ps)) → 1 ≤ first_key ps) (sym is) (λ all. all.0.0) all

-- a place in a bit vector
pub vector_place : {bits : ℕ} (m : Records) (word root : ℕ) (at : VectorCursor bits) → word ≡ 8589934592 + root → IsList m word → IsVectorPlace m at
    → documents_from m at ≡ vector_documents m root → IsListPlace m (Vector at)
vector_place m word root at is list place documents = record {
  stands = place;
  numbers = subst (λ (es : List (ℕ × ℤ)). AllByRecursion IsDocNumber (keys_of es)) (vector_list_at m word root is ∙ sym (ap with_ones documents)) list.numbers;
}

pub vector_postings : {bits : ℕ} (m : Records) (word root : ℕ) (at : VectorCursor bits) → word ≡ 8589934592 + root → documents_from m at ≡ vector_documents m root
    → with_ones (documents_from m at) ≡ list_at m word
vector_postings m word root at is documents = ap with_ones documents ∙ sym (vector_list_at m word root is)

first_one : (docs : List ℕ) → first_document docs ≡ first_doc (with_ones docs)
first_one [] = refl
first_one (doc ∷ docs) = refl

-- a document that is among some is among those of them from it on
some_left : (t : ℕ → Bool) (d : ℕ) → t d ≡ true → (xs : List ℕ) → has xs d ≡ true → 0 < length (filter t xs)
some_left t d pass [] is = absurd (true≢false (sym is))
some_left t d pass (x ∷ xs) is = told (some_left t d pass xs) (nat_eq d x) refl is
  where
    told : (has xs d ≡ true → 0 < length (filter t xs)) → (b : Bool) → nat_eq d x ≡ b → (b || has xs d) ≡ true → 0 < length (cond (t x) (x ∷ filter t xs) (filter t xs))
    told rest true same is = subst (λ k. 0 < length (cond k (x ∷ filter t xs) (filter t xs))) (sym (ap t (sym (eqb-true d x same)) ∙ pass)) (omega arith)
    told rest false apart is = let some = rest is in elim (t x) as (λ k. 0 < length (cond k (x ∷ filter t xs) (filter t xs))) [
      | true ↦ omega arith
      | false ↦ some
    ]

has_in_first : (xs ys : List ℕ) (d : ℕ) → has xs d ≡ true → has (xs ++ ys) d ≡ true
has_in_first [] ys d is = absurd (true≢false (sym is))
has_in_first (x ∷ xs) ys d is = told (has_in_first xs ys d) (nat_eq d x) is
  where
    told : (has xs d ≡ true → has (xs ++ ys) d ≡ true) → (b : Bool) → (b || has xs d) ≡ true → (b || has (xs ++ ys) d) ≡ true
    told rest true is = refl
    told rest false is = rest is

document_follows : {bits : ℕ} (m : Records) (at : VectorCursor bits) → IsVectorPlace m at → HasDocument at → 0 < length (documents_from m at)
document_follows m at place some = by (pairs_from m at.blocks) _ _ (pair-first m at.blocks place.blocks.stands some) (place.document some)
  where
    by : (ps rest : List (ℕ × ℕ)) (p : ℕ × ℕ) → ps ≡ p ∷ rest → IsInBlock m at.doc ps
        → 0 < length (filter (nat_le at.doc) (flat_map (λ q. block_documents q.0 (m q.1)) ps))
    by ps rest p is inside =
        let here : IsInBlock m at.doc (p ∷ rest) = subst (IsInBlock m at.doc) is inside in
        let has_it = block_has_bits p.0 at.doc (m p.1) ∙ ap (λ b. b && in_words (m p.1) (at.doc % 4096)) (eq-eqb (at.doc / 4096) p.0 here.block) ∙ here.bit in
        subst (λ qs. 0 < length (filter (nat_le at.doc) (flat_map (λ q. block_documents q.0 (m q.1)) qs))) (sym is)
        (some_left (nat_le at.doc) at.doc (le-leb at.doc at.doc (omega arith)) (block_documents p.0 (m p.1) ++ flat_map (λ q. block_documents q.0 (m q.1)) rest)
        (has_in_first (block_documents p.0 (m p.1)) (flat_map (λ q. block_documents q.0 (m q.1)) rest) at.doc has_it))

first_is_one : (docs : List ℕ) → 0 < length docs → pos 1 ≡ first_weight (with_ones docs)
first_is_one [] some = absurd (omega (arith, some))
first_is_one (doc ∷ docs) some = refl

-- a place in a bit vector that is seen as one of a list
module _ {bits : ℕ} (m : Records) (self : PostingCursor bits) (at : VectorCursor bits) (is : self ≡ Vector at) (place : IsListPlace m self) where
  here : PostingCursor bits
  here = Vector at

  pub vector_stands : IsVectorPlace m at
  vector_stands = subst (StandsInList m) is place.stands

  pub vector_has : HasPosting self → HasDocument at
  vector_has some = subst HasPosting is some

  pub vector_doc : (doc : ℕ) → ((m : Records) → IsVectorPlace m at → doc ≡ first_document (documents_from m at)) → doc ≡ first_doc (postings_from m self)
  vector_doc doc reads = reads m vector_stands ∙ first_one (documents_from m at) ∙ ap (λ (s : PostingCursor bits). first_doc (postings_from m s)) (sym is)

  pub vector_weight : HasPosting self → pos 1 ≡ first_weight (postings_from m self)
  vector_weight some =
      first_is_one (documents_from m at) (document_follows m at vector_stands (vector_has some))
      ∙ ap (λ (s : PostingCursor bits). first_weight (postings_from m s)) (sym is)

  pub vector_next_postings : (next : VectorCursor bits) → documents_from m next ≡ drop 1 (documents_from m at) → with_ones (documents_from m next) ≡ drop 1 (postings_from m self)
  vector_next_postings next behind =
      ap with_ones behind ∙ sym (drop-map (λ doc. (doc, pos 1)) 1 (documents_from m at)) ∙ ap (λ (s : PostingCursor bits). drop 1 (postings_from m s)) (sym is)

  pub vector_next : (next : VectorCursor bits) → IsVectorPlace m next → documents_from m next ≡ drop 1 (documents_from m at) → IsListPlace m (Vector next)
  vector_next next stands behind = record {
    stands = stands;
    numbers = numbers_next (postings_from m self) (with_ones (documents_from m next)) (vector_next_postings next behind) place.numbers;
  }

-- 32 bits read as a weight, written and read again
pub weight_again : (bits : ℕ) (weight : ℤ) → weight ≡ weight_in_bits bits → bits < 2 ^ 32 → cast_signed w32 (cast_unsigned w32 weight) ≡ weight
weight_again bits weight is low = ap (λ z. cast_signed w32 (cast_unsigned w32 z)) is ∙ ap (cast_signed w32) (of_z-to_z w32 bits low) ∙ sym is
