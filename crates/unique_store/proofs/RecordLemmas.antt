-- The record of a value, read.
use Rattle.std.proofs.Common.{◌≡◌, ◌≢◌, ℕ, suc, ◌+◌, ◌-◌, ◌*◌, ◌/◌, ◌<◌, ◌≤◌, List, [], ◌∷◌, ◌++◌, length, get_or, take, drop, replicate, refl, sym, ap, subst, ◌∙◌, arith, length-append}
use Rattle.std.proofs.Common.{length-take, length-drop, Result, Ok, Err, inl, inr}
use Rattle.std.proofs.lemmas.Bool.{cases_lt}
use Rattle.std.proofs.lemmas.List.{nil_from_length, take-append-drop, take-append-le, take_more, append-nil, get_or-drop}
use Rattle.std.proofs.lemmas.Grind.{flat_map-append}
use Rattle.std.specs.Int.{from_be_bytes, to_be_bytes, w64}
use Rattle.std.specs.List.{flat_map}
use Rattle.std.specs.Prelude.{slice_index, IfOk}
use Rattle.image_format.proofs.RootLemmas.{length-filled}
use Rattle.entry_ref.specs.Records.{Records}
use Rattle.image_format.specs.Values.{stored_text, stored_value, value_of, value_words, IsLawfulValue, IsValueRecord}
use Rattle.image_format.specs.Words.{class_of, filled}
use Rattle.attr_types.specs.Value.{type_of}
use Rattle.attr_types.specs.declared.kind.ValueType.{ValueType}
use Rattle.attr_types.specs.declared.kind.ValueType.TheVariants as types
use Rattle.attr_types.specs.declared.value.Value.{Value}
use Rattle.attr_types.specs.declared.value.Value.TheVariants as values
use Rattle.store_api.specs.Ledgers.{Ledger}
use Rattle.array_store.specs.Adding.{AddsRecord}
use Rattle.array_store.proofs.ClassLemmas.{class_no_node, class_two}
use Rattle.unique_store.proofs.ByteLemmas.{packed_at, packed_size, bytes_size}

pub words_few : (v : Value) → IsLawfulValue v → length (value_words v) ≤ 129
words_few (values.Long number) lawful = omega arith
words_few (values.Text bytes) lawful = let size = packed_size ((length bytes + 7) / 8) bytes in let few = lawful.1 in omega arith

pub text_few : (bytes : List ℕ) → length bytes ≤ 1024 → length (value_words (values.Text bytes)) ≤ 129
text_few bytes few = let size = packed_size ((length bytes + 7) / 8) bytes in omega arith

pub value_there : (type : ValueType) (ws : List ℕ) → IsValueRecord type ws → 1 < length ws
value_there type ws record_of =
    let words = value_words (value_of type ws) in
    let few = words_few (value_of type ws) record_of.lawful in
    let size = length-filled words (omega arith) in
    let two = class_two (length words) in
    subst (λ xs. 1 < length xs) (sym record_of.words) (omega arith)

pub value_no_node : (type : ValueType) (ws : List ℕ) → IsValueRecord type ws → length ws ≢ 34
value_no_node type ws record_of e =
    let few = words_few (value_of type ws) record_of.lawful in
    let size = length-filled (value_words (value_of type ws)) (omega arith) in
    class_no_node (length (value_words (value_of type ws))) (sym size ∙ sym (ap length record_of.words) ∙ e)

-- a text
module _ (ws : List ℕ) (record_of : IsValueRecord types.Text ws) where
  abbrev pub count : ℕ
  count = (length (stored_text ws) + 7) / 8

  pub text_count : slice_index ws 0 ≡ length (stored_text ws)
  text_count = ap (λ xs. slice_index xs 0) record_of.words

  pub text_size : 1 + count ≤ length ws
  text_size =
      let words = value_words (values.Text (stored_text ws)) in
      let size = length-append words (replicate (class_of (length words) - length words) 0) in
      let packed = packed_size count (stored_text ws) in
      subst (λ xs. 1 + count ≤ length xs) (sym record_of.words) (omega arith)

  pub text_word : (i : ℕ) → i < count → slice_index ws (1 + i) ≡ from_be_bytes w64 (take 8 (drop (8 * i) (stored_text ws) ++ replicate 8 0))
  text_word i low =
      let words = value_words (values.Text (stored_text ws)) in
      ap (λ xs. slice_index xs (1 + i)) record_of.words
      ∙ ap (λ j. slice_index (filled words) j) (let e : 1 + i ≡ suc i = omega arith in e)
      ∙ packed_at count i (stored_text ws) (replicate (class_of (length words) - length words) 0) low

  -- the first word, which is 0 in the record of an empty text
  pub text_first : slice_index ws 1 ≡ from_be_bytes w64 (take 8 (stored_text ws ++ replicate 8 0))
  text_first = elim (cases_lt 0 (length (stored_text ws))) [
    | inl some ↦ text_word 0 (omega arith)
    | inr none ↦
        ap (λ xs. slice_index xs 1) record_of.words
        ∙ subst (λ text. slice_index (filled (value_words (values.Text text))) 1 ≡ from_be_bytes w64 (take 8 (text ++ replicate 8 0)))
        (sym (nil_from_length (stored_text ws) (omega arith))) refl
  ]

-- the words that hold a text's bytes are enough to read it
pub text_read : (ws : List ℕ) (count n : ℕ) → count ≤ 8 * n → 1 + n ≤ length ws → slice_index ws 0 ≡ count
    → take count (flat_map (to_be_bytes w64) (take n (drop 1 ws))) ≡ stored_text ws
text_read ws count n enough there is =
    let front = take n (drop 1 ws) in
    let behind = drop n (drop 1 ws) in
    let size = bytes_size front in
    let taken = length-take n (drop 1 ws) in
    let rest = length-drop 1 ws in
    sym (take-append-le count (flat_map (to_be_bytes w64) front) (flat_map (to_be_bytes w64) behind) (omega arith))
    ∙ ap (take count) (sym (flat_map-append (to_be_bytes w64) front behind) ∙ ap (flat_map (to_be_bytes w64)) (take-append-drop n (drop 1 ws)))
    ∙ ap (λ k. take k (flat_map (to_be_bytes w64) (drop 1 ws))) (sym is)

-- the record that was added, of these words
module _ {H E : Type 0} (bits : ℕ) (old new : Ledger H) (m n : Records) (words : List ℕ) (v : Value) (is : words ≡ value_words v) (lawful : IsLawfulValue v)
    (reads : value_of (type_of v) (filled (value_words v)) ≡ v) where
  pub added_record : (result : Result ℕ E) → IfOk result (AddsRecord bits old new m n words) → IfOk result (λ r. IsValueRecord (type_of v) (n r))
  added_record (Ok r) adds =
      subst (IsValueRecord (type_of v)) (sym (adds.words_are ∙ ap filled is))
      (record { words = ap (λ x. filled (value_words x)) (sym reads); lawful = subst IsLawfulValue (sym reads) lawful })
  added_record (Err e) adds = tt

  pub added_value : (result : Result ℕ E) → IfOk result (AddsRecord bits old new m n words) → IfOk result (λ r. stored_value (type_of v) n r ≡ v)
  added_value (Ok r) adds = ap (value_of (type_of v)) (adds.words_are ∙ ap filled is) ∙ reads
  added_value (Err e) adds = tt

-- one word more
pub bytes_more : (ws old now : List ℕ) (i word : ℕ) → 1 + i < length ws → word ≡ slice_index ws (1 + i)
    → old ≡ flat_map (to_be_bytes w64) (take i (drop 1 ws)) → now ≡ old ++ to_be_bytes w64 word → now ≡ flat_map (to_be_bytes w64) (take (i + 1) (drop 1 ws))
bytes_more ws old now i word low word_is so_far put =
    let f = to_be_bytes w64 in
    let xs = drop 1 ws in
    let size = length-drop 1 ws in
    let x = get_or xs i 0 in
    put
    ∙ ap (λ zs. zs ++ f word) so_far
    ∙ ap (λ w. flat_map f (take i xs) ++ f w) (word_is ∙ sym (get_or-drop 1 ws i 0))
    ∙ ap (λ zs. flat_map f (take i xs) ++ zs) (sym (append-nil (f x)))
    ∙ sym (flat_map-append f (take i xs) (x ∷ []))
    ∙ ap (flat_map f) (sym (take_more xs i 0 (omega arith)))
