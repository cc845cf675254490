-- Values and items, as their records read.
use Rattle.std.proofs.Common.{◌≡◌, ◌≢◌, ℕ, zero, suc, ◌+◌, ◌-◌, ◌*◌, ◌/◌, ◌%◌, ◌^◌, ◌<◌, ◌≤◌, min, List, [], ◌∷◌, ◌++◌, length, map, take, drop, get_or, pos, ℤ, Bool, true, false, true≢false, refl, sym, ap, subst}
use Rattle.std.proofs.Common.{◌∙◌, append-nil, arith}
use Rattle.std.specs.Int.{w16, w32, w64, to_be_bytes, cast_signed, cast_unsigned}
use Rattle.std.specs.List.{flat_map, AllByRecursion}
use Rattle.std.proofs.lemmas.Int.{of_z-to_z}
use Rattle.list_lemmas.proofs.Places.{drop-read}
use Rattle.entry_ref.specs.Records.{Records}
use Rattle.tree_read.specs.SearchPlaces.{first_key, first_value}
use Rattle.array_store.proofs.ArrayLemmas.{list_array}
use Rattle.array_store.specs.Arrays.{IsArray}
use Rattle.image_format.specs.Documents.{weighted, items_at, AreItemRecords}
use Rattle.image_format.specs.Values.{stored_text, stored_value, IsValueRecord}
use Rattle.image_format.specs.Words.{stored_items, unpacked}
use Rattle.attr_types.specs.Change.{most_items}
use Rattle.attr_types.specs.declared.items.Item.{Item}
use Rattle.attr_types.specs.declared.kind.Kind.{Kind}
use Rattle.attr_types.specs.declared.kind.Kind.TheVariants.{Single, Array, WeightedSet}
use Rattle.attr_types.specs.declared.kind.ValueType.{ValueType}
use Rattle.attr_types.specs.declared.kind.ValueType.TheVariants as types
use Rattle.unique_store.proofs.RecordLemmas.{text_count}
use Rattle.attr_saver.specs.Bytes.{value_bytes, item_bytes, document_bytes}
use Rattle.attr_saver.specs.Stored.{entry_in, item_in, document_of, documents_of, IsStoredPair}

-- ---- the bytes of a text, by words of eight

-- what is left of a text after so many words
abbrev pub text_rest : ℕ → ℕ → List ℕ → List ℕ
text_rest count i words = take (count - 8 * i) (flat_map (to_be_bytes w64) (drop i words))

-- eight bytes, cut where fewer are left, before the rest
eight : {A : Type 0} (n : ℕ) (a b c d e f g h : A) (more : List A)
    → take n (a ∷ b ∷ c ∷ d ∷ e ∷ f ∷ g ∷ h ∷ more) ≡ take (min n 8) (a ∷ b ∷ c ∷ d ∷ e ∷ f ∷ g ∷ h ∷ []) ++ take (n - 8) more
eight zero a b c d e f g h more = refl
eight (suc zero) a b c d e f g h more = refl
eight (suc (suc zero)) a b c d e f g h more = refl
eight (suc (suc (suc zero))) a b c d e f g h more = refl
eight (suc (suc (suc (suc zero)))) a b c d e f g h more = refl
eight (suc (suc (suc (suc (suc zero))))) a b c d e f g h more = refl
eight (suc (suc (suc (suc (suc (suc zero)))))) a b c d e f g h more = refl
eight (suc (suc (suc (suc (suc (suc (suc zero))))))) a b c d e f g h more = refl
eight (suc (suc (suc (suc (suc (suc (suc (suc n)))))))) a b c d e f g h more =
    let all : min (suc (suc (suc (suc (suc (suc (suc (suc n)))))))) 8 ≡ 8 = omega arith in
    let left : suc (suc (suc (suc (suc (suc (suc (suc n))))))) - 8 ≡ n = omega arith in
    ap (λ k. take k (a ∷ b ∷ c ∷ d ∷ e ∷ f ∷ g ∷ h ∷ []) ++ take n more) (sym all)
    ∙ ap (λ k. take (min (suc (suc (suc (suc (suc (suc (suc (suc n)))))))) 8) (a ∷ b ∷ c ∷ d ∷ e ∷ f ∷ g ∷ h ∷ []) ++ take k more) (sym left)

eight_bytes : (n word : ℕ) (more : List ℕ) → take n (to_be_bytes w64 word ++ more) ≡ take (min n 8) (to_be_bytes w64 word) ++ take (n - 8) more
eight_bytes n word more = eight n _ _ _ _ _ _ _ _ more

pub text_split : (count i word : ℕ) (words : List ℕ) → i < length words → word ≡ get_or words i 0
    → text_rest count i words ≡ take (min (count - 8 * i) 8) (to_be_bytes w64 word) ++ text_rest count (i + 1) words
text_split count i word words below is =
    let more = flat_map (to_be_bytes w64) (drop (i + 1) words) in
    ap (λ ws. take (count - 8 * i) (flat_map (to_be_bytes w64) ws)) (drop-read words i word 0 below is)
    ∙ eight_bytes (count - 8 * i) word more
    ∙ ap (λ k. take (min (count - 8 * i) 8) (to_be_bytes w64 word) ++ take k more) (let e : count - 8 * i - 8 ≡ count - 8 * (i + 1) = omega arith in e)

pub text_over : (count i : ℕ) (words : List ℕ) → count ≤ 8 * i → text_rest count i words ≡ []
text_over count i words past = ap (λ k. take k (flat_map (to_be_bytes w64) (drop i words))) (let none : count - 8 * i ≡ 0 = omega arith in none)

-- at the start all of it is left
pub text_start : (count : ℕ) (ws : List ℕ) → IsValueRecord types.Text ws → count ≡ length (stored_text ws) → text_rest count 0 (drop 1 ws) ≡ stored_text ws
text_start count ws is len =
    ap (λ k. take k (flat_map (to_be_bytes w64) (drop 1 ws)))
    (let e : count - 8 * 0 ≡ count = omega arith in e ∙ len ∙ sym (text_count ws is))

-- ---- numbers in two's complement

pub long_bits : (word : ℕ) → word < 2 ^ 64 → to_be_bytes w64 (cast_unsigned w64 (cast_signed w64 word)) ≡ to_be_bytes w64 word
long_bits word fits = ap (to_be_bytes w64) (of_z-to_z w64 word fits)

pub weight_bits : (word : ℕ) → to_be_bytes w32 (cast_unsigned w32 (cast_signed w32 (word % 2 ^ 32))) ≡ to_be_bytes w32 (word % 2 ^ 32)
weight_bits word = ap (to_be_bytes w32) (of_z-to_z w32 (word % 2 ^ 32) (omega arith))

-- ---- the items of a document

abbrev pub word_bytes : Kind → ValueType → Records → ℕ → List ℕ
word_bytes kind type m word = item_bytes kind (item_in kind type m word)

abbrev pub has_list : Kind → Bool
has_list Single = false
has_list Array = true
has_list WeightedSet = true

all_mapped : {A B : Type 0} (P : B → Type 0) (f : A → B) (xs : List A) → AllByRecursion P (map f xs) → AllByRecursion (λ x. P (f x)) xs
all_mapped P f [] all = tt
all_mapped P f (x ∷ xs) all = (all.0, all_mapped P f xs all.1)

mapped : {A B : Type 0} (g : B → List ℕ) (f : A → B) (xs : List A) → flat_map (λ x. g (f x)) xs ≡ flat_map g (map f xs)
mapped g f [] = refl
mapped g f (x ∷ xs) = ap (λ ys. g (f x) ++ ys) (mapped g f xs)

length_mapped : {A B : Type 0} (f : A → B) (xs : List A) → length (map f xs) ≡ length xs
length_mapped f [] = refl
length_mapped f (x ∷ xs) = ap suc (length_mapped f xs)

module _ (kind : Kind) (type : ValueType) (m : Records) where
  pub array_at : (ref : ℕ) → has_list kind ≡ true → 0 < ref → AreItemRecords kind type m ref → IsArray (m ref)
  array_at ref has some are = told kind ref has some are
    where
      told : (k : Kind) (q : ℕ) → has_list k ≡ true → 0 < q → AreItemRecords k type m q → IsArray (m q)
      told k zero has some are = absurd (omega arith)
      told Single (suc q) has some are = cc
      told Array (suc q) has some are = list_array most_items (m (suc q)) (omega arith) are.0
      told WeightedSet (suc q) has some are = list_array most_items (m (suc q)) (omega arith) are.0

  words_are : (ref : ℕ) → has_list kind ≡ true → 0 < ref → weighted kind ref (m ref) ≡ map (entry_in kind) (stored_items (m ref))
  words_are ref has some = told kind ref has some
    where
      told : (k : Kind) (q : ℕ) → has_list k ≡ true → 0 < q → weighted k q (m q) ≡ map (entry_in k) (stored_items (m q))
      told k zero has some = absurd (omega arith)
      told Single (suc q) has some = cc
      told Array (suc q) has some = refl
      told WeightedSet (suc q) has some = refl

  pub values_at : (ref : ℕ) → has_list kind ≡ true → 0 < ref → AreItemRecords kind type m ref → AllByRecursion (λ word. IsValueRecord type (m (entry_in kind word).0)) (stored_items (m ref))
  values_at ref has some are =
      all_mapped (λ (e : ℕ × ℤ). IsValueRecord type (m e.0)) (entry_in kind) (stored_items (m ref))
      (subst (AllByRecursion (λ (e : ℕ × ℤ). IsValueRecord type (m e.0))) (words_are ref has some) are.1)

  items_are : (ref : ℕ) → has_list kind ≡ true → 0 < ref → items_at kind type m ref ≡ map (item_in kind type m) (stored_items (m ref))
  items_are ref has some = told kind ref has some
    where
      told : (k : Kind) (q : ℕ) → has_list k ≡ true → 0 < q → items_at k type m q ≡ map (item_in k type m) (stored_items (m q))
      told k zero has some = absurd (omega arith)
      told Single (suc q) has some = cc
      told Array (suc q) has some = each (stored_items (m (suc q)))
        where
          each : (ws : List ℕ) → map (λ (e : ℕ × ℤ). let item : Item = record { value = stored_value type m e.0; weight = e.1 } in item) (map (λ value. (value, pos 1)) ws) ≡ map (item_in Array type m) ws
          each [] = refl
          each (w ∷ ws) = ap (λ xs. item_in Array type m w ∷ xs) (each ws)
      told WeightedSet (suc q) has some = each (stored_items (m (suc q)))
        where
          each : (ws : List ℕ) → map (λ (e : ℕ × ℤ). let item : Item = record { value = stored_value type m e.0; weight = e.1 } in item) (map unpacked ws) ≡ map (item_in WeightedSet type m) ws
          each [] = refl
          each (w ∷ ws) = ap (λ xs. item_in WeightedSet type m w ∷ xs) (each ws)

  pub items_bytes : (ref : ℕ) → has_list kind ≡ true → 0 < ref → flat_map (word_bytes kind type m) (stored_items (m ref)) ≡ flat_map (item_bytes kind) (items_at kind type m ref)
  items_bytes ref has some = mapped (item_bytes kind) (item_in kind type m) (stored_items (m ref)) ∙ ap (flat_map (item_bytes kind)) (sym (items_are ref has some))

  pub items_count : (ref : ℕ) → has_list kind ≡ true → 0 < ref → length (stored_items (m ref)) ≡ length (items_at kind type m ref)
  items_count ref has some = sym (length_mapped (item_in kind type m) (stored_items (m ref))) ∙ ap length (sym (items_are ref has some))

-- ---- a list of words, one after another

-- what is left of a list's items
abbrev pub words_rest : Kind → ValueType → Records → ℕ → List ℕ → List ℕ
words_rest kind type m i ws = flat_map (word_bytes kind type m) (drop i ws)

pub words_split : (kind : Kind) (type : ValueType) (m : Records) (i word : ℕ) (ws : List ℕ) → i < length ws → word ≡ get_or ws i 0
    → words_rest kind type m i ws ≡ word_bytes kind type m word ++ words_rest kind type m (i + 1) ws
words_split kind type m i word ws below is = ap (flat_map (word_bytes kind type m)) (drop-read ws i word 0 below is)

pub words_over : (kind : Kind) (type : ValueType) (m : Records) (i : ℕ) (ws : List ℕ) → length ws ≤ i → words_rest kind type m i ws ≡ []
words_over kind type m i ws past = ap (flat_map (word_bytes kind type m)) (drop_all i ws past)
  where
    drop_all : (i : ℕ) (ws : List ℕ) → length ws ≤ i → drop i ws ≡ []
    drop_all zero [] past = refl
    drop_all zero (w ∷ ws) past = absurd (omega arith)
    drop_all (suc i) [] past = refl
    drop_all (suc i) (w ∷ ws) past = drop_all i ws (omega arith)

-- ---- the bytes of one item

-- only a weighted set has weights
abbrev pub weightless : Kind → Bool
weightless Single = true
weightless Array = true
weightless WeightedSet = false

pub plain_bytes : (kind : Kind) (type : ValueType) (m : Records) (word : ℕ) → weightless kind ≡ true → word_bytes kind type m word ≡ value_bytes (stored_value type m word)
plain_bytes Single type m word is = append-nil (value_bytes (stored_value type m word))
plain_bytes Array type m word is = append-nil (value_bytes (stored_value type m word))
plain_bytes WeightedSet type m word is = cc

pub weighted_bytes : (type : ValueType) (m : Records) (word : ℕ)
    → word_bytes WeightedSet type m word ≡ value_bytes (stored_value type m (word / 2 ^ 32)) ++ to_be_bytes w32 (word % 2 ^ 32)
weighted_bytes type m word = ap (λ bits. value_bytes (stored_value type m (word / 2 ^ 32)) ++ bits) (weight_bits word)

-- ---- the items of a document, with their number in front

abbrev pub items_text : Kind → ValueType → Records → ℕ → List ℕ
items_text kind type m ref = to_be_bytes w16 (length (items_at kind type m ref)) ++ flat_map (item_bytes kind) (items_at kind type m ref)

pub none_text : (kind : Kind) (type : ValueType) (m : Records) (ref : ℕ) → ref ≡ 0 → items_text kind type m ref ≡ to_be_bytes w16 0
none_text kind type m ref none = ap (items_text kind type m) none

pub none_bytes : (kind : Kind) (type : ValueType) (m : Records) (ref : ℕ) → ref ≡ 0 → length (flat_map (item_bytes kind) (items_at kind type m ref)) ≡ 0
none_bytes kind type m ref none = ap (λ r. length (flat_map (item_bytes kind) (items_at kind type m r))) none

abbrev is_single : Kind → Bool
is_single Single = true
is_single Array = false
is_single WeightedSet = false

pub one_bytes : (kind : Kind) (type : ValueType) (m : Records) (ref : ℕ) → kind ≡ Single → 0 < ref
    → flat_map (item_bytes kind) (items_at kind type m ref) ≡ word_bytes kind type m ref
one_bytes kind type m ref is some = told kind ref (ap is_single is) some
  where
    told : (k : Kind) (q : ℕ) → is_single k ≡ true → 0 < q → flat_map (item_bytes k) (items_at k type m q) ≡ word_bytes k type m q
    told k zero single some = absurd (omega arith)
    told Single (suc q) single some = append-nil (word_bytes Single type m (suc q))
    told Array (suc q) single some = absurd (true≢false (sym single))
    told WeightedSet (suc q) single some = absurd (true≢false (sym single))

pub one_text : (kind : Kind) (type : ValueType) (m : Records) (ref : ℕ) → kind ≡ Single → 0 < ref → items_text kind type m ref ≡ to_be_bytes w16 1 ++ word_bytes kind type m ref
one_text kind type m ref is some =
    ap (λ n. to_be_bytes w16 n ++ flat_map (item_bytes kind) (items_at kind type m ref)) (told kind ref (ap is_single is) some)
    ∙ ap (λ bytes. to_be_bytes w16 1 ++ bytes) (one_bytes kind type m ref is some)
  where
    told : (k : Kind) (q : ℕ) → is_single k ≡ true → 0 < q → length (items_at k type m q) ≡ 1
    told k zero single some = absurd (omega arith)
    told Single (suc q) single some = refl
    told Array (suc q) single some = absurd (true≢false (sym single))
    told WeightedSet (suc q) single some = absurd (true≢false (sym single))

pub one_value : (kind : Kind) (type : ValueType) (m : Records) (ref : ℕ) → kind ≡ Single → 0 < ref → AreItemRecords kind type m ref → IsValueRecord type (m (entry_in kind ref).0)
one_value kind type m ref is some are = told kind ref (ap is_single is) some are
  where
    told : (k : Kind) (q : ℕ) → is_single k ≡ true → 0 < q → AreItemRecords k type m q → IsValueRecord type (m (entry_in k q).0)
    told k zero single some are = absurd (omega arith)
    told Single (suc q) single some are = are.1.0
    told Array (suc q) single some are = absurd (true≢false (sym single))
    told WeightedSet (suc q) single some are = absurd (true≢false (sym single))

pub list_text : (kind : Kind) (type : ValueType) (m : Records) (ref : ℕ) → has_list kind ≡ true → 0 < ref
    → items_text kind type m ref ≡ to_be_bytes w16 (length (stored_items (m ref))) ++ words_rest kind type m 0 (stored_items (m ref))
list_text kind type m ref has some =
    ap (λ n. to_be_bytes w16 n ++ flat_map (item_bytes kind) (items_at kind type m ref)) (sym (items_count kind type m ref has some))
    ∙ ap (λ bytes. to_be_bytes w16 (length (stored_items (m ref))) ++ bytes) (sym (items_bytes kind type m ref has some))

-- ---- documents

pub next_pair : (kind : Kind) (type : ValueType) (m : Records) (ps : List (ℕ × ℕ)) → ps ≢ [] → AllByRecursion (IsStoredPair kind type m) ps
    → IsStoredPair kind type m (first_key ps, first_value ps)
next_pair kind type m [] some all = absurd (some refl)
next_pair kind type m (p ∷ ps) some all = all.0

pub next_pairs : (kind : Kind) (type : ValueType) (m : Records) (ps : List (ℕ × ℕ)) → AllByRecursion (IsStoredPair kind type m) ps → AllByRecursion (IsStoredPair kind type m) (drop 1 ps)
next_pairs kind type m [] all = tt
next_pairs kind type m (p ∷ ps) all = all.1

abbrev pub pairs_text : Kind → ValueType → Records → List (ℕ × ℕ) → List ℕ
pairs_text kind type m ps = flat_map (document_bytes kind) (documents_of kind type m ps)

abbrev pub next_text : Kind → ValueType → Records → List (ℕ × ℕ) → List ℕ
next_text kind type m ps = document_bytes kind (document_of kind type m (first_key ps, first_value ps))

pub pairs_split : (kind : Kind) (type : ValueType) (m : Records) (ps : List (ℕ × ℕ)) → ps ≢ [] → pairs_text kind type m ps ≡ next_text kind type m ps ++ pairs_text kind type m (drop 1 ps)
pairs_split kind type m [] some = absurd (some refl)
pairs_split kind type m (p ∷ ps) some = refl

pub pairs_over : (kind : Kind) (type : ValueType) (m : Records) (ps : List (ℕ × ℕ)) → ps ≡ [] → pairs_text kind type m ps ≡ []
pairs_over kind type m ps none = ap (pairs_text kind type m) none

pub one_less : (ps : List (ℕ × ℕ)) → ps ≢ [] → length ps ≡ 1 + length (drop 1 ps)
one_less [] some = absurd (some refl)
one_less (p ∷ ps) some = let e : suc (length ps) ≡ 1 + length ps = omega arith in e

-- a document by its number and its reference, each told otherwise
pub same_text : (kind : Kind) (type : ValueType) (m : Records) (doc ref first value : ℕ) → doc ≡ first → ref ≡ value
    → document_bytes kind (document_of kind type m (doc, ref)) ≡ document_bytes kind (document_of kind type m (first, value))
same_text kind type m doc ref first value a b =
    ap (λ d. document_bytes kind (document_of kind type m (d, ref))) a ∙ ap (λ r. document_bytes kind (document_of kind type m (first, r))) b

pub document_len : (kind : Kind) (type : ValueType) (m : Records) (doc ref value : ℕ) → ref ≡ value
    → 6 + length (flat_map (item_bytes kind) (items_at kind type m ref)) ≡ length (document_bytes kind (document_of kind type m (doc, value)))
document_len kind type m doc ref value same = ap (λ r. 6 + length (flat_map (item_bytes kind) (items_at kind type m r))) same ∙ counted (flat_map (item_bytes kind) (items_at kind type m value))
  where
    counted : (bytes : List ℕ) → 6 + length bytes ≡ length (to_be_bytes w32 doc ++ (to_be_bytes w16 (length (items_at kind type m value)) ++ bytes))
    counted bytes = omega arith
