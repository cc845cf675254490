-- A node made of slots has its form, and reads as these slots.
use Rattle.std.proofs.Common.{◌≡◌, ℕ, ◌+◌, ◌^◌, ◌-◌, ◌<◌, ◌≤◌, List, ◌++◌, length, slice_index, take, drop, replicate, refl, sym, ap, ◌∙◌, arith, length-append}
use Rattle.std.proofs.lemmas.List.{get_or-drop, get_or-append_right, get_or_append_left, length-replicate, take-append-le, take_at, drop_at}
use Rattle.std.proofs.lemmas.Nat.{div-mul-add, mod-mul-add}
use Rattle.list_lemmas.proofs.Places.{slice_index-zeros}
use Rattle.tree_read.specs.Nodes.{level_of, used_of, node_keys, node_values, slot_words, node_words, IsNodeForm}

pub length-slot_words : (slots : List ℕ) → length slots ≤ 16 → length (slot_words slots) ≡ 16
length-slot_words slots few =
    let both = length-append slots (replicate (16 - length slots) 0) in
    let rest : length (replicate {A = ℕ} (16 - length slots) 0) ≡ 16 - length slots = length-replicate (16 - length slots) 0 in
    omega arith

-- past the slots there are zeros
pub slot_words_past : (slots : List ℕ) (i : ℕ) → length slots ≤ i → slice_index (slot_words slots) i ≡ 0
slot_words_past slots i past =
    get_or-append_right slots (replicate (16 - length slots) 0) (length slots) i 0 refl past
    ∙ slice_index-zeros (16 - length slots) (i - length slots)

module _ (level count : ℕ) (keys values : List ℕ) (same : length keys ≡ length values) (few : length keys ≤ 16) where
  used-words : used_of (node_words level count keys values) ≡ length keys
  used-words = mod-mul-add level 256 (length keys) (omega arith)

  level-words : level_of (node_words level count keys values) ≡ level
  level-words = div-mul-add level 256 (length keys) (omega arith)

  values-behind : drop 18 (node_words level count keys values) ≡ slot_words values
  values-behind = drop_at (slot_words keys) (slot_words values) 16 (length-slot_words keys few)

  pub node_keys-words : node_keys (node_words level count keys values) ≡ keys
  node_keys-words =
      ap (λ n. take n (slot_words keys ++ slot_words values)) used-words
      ∙ take-append-le (length keys) (slot_words keys) (slot_words values) (let size = length-slot_words keys few in omega arith)
      ∙ take_at keys (replicate (16 - length keys) 0) (length keys) refl

  pub node_values-words : node_values (node_words level count keys values) ≡ values
  node_values-words =
      ap (λ n. take n (drop 18 (node_words level count keys values))) (used-words ∙ same)
      ∙ ap (take (length values)) values-behind
      ∙ take_at values (replicate (16 - length values) 0) (length values) refl

  no_key_past : (i : ℕ) → length keys ≤ i → i < 16 → slice_index (node_words level count keys values) (2 + i) ≡ 0
  no_key_past i past below =
      sym (get_or-drop 2 (node_words level count keys values) i 0)
      ∙ get_or_append_left (slot_words keys) (slot_words values) 0 i (let size = length-slot_words keys few in omega arith)
      ∙ slot_words_past keys i past

  no_value_past : (i : ℕ) → length keys ≤ i → i < 16 → slice_index (node_words level count keys values) (18 + i) ≡ 0
  no_value_past i past below =
      sym (get_or-drop 18 (node_words level count keys values) i 0)
      ∙ ap (λ ws. slice_index ws i) values-behind
      ∙ slot_words_past values i (omega arith)

  pub node_formed : count < 2 ^ 32 → IsNodeForm level (length keys) (node_words level count keys values)
  node_formed small = record {
    size = let both = length-append (slot_words keys) (slot_words values) in let first = length-slot_words keys few in let second = length-slot_words values (omega arith) in omega arith;
    at_level = level-words;
    filled = let used = used-words in omega arith;
    room = let used = used-words in omega arith;
    no_key = λ i past below. no_key_past i (let used = used-words in omega arith) below;
    no_value = λ i past below. no_value_past i (let used = used-words in omega arith) below;
    few = small;
  }
