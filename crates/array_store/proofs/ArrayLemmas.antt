-- Arrays, read back.
use Rattle.std.proofs.Common.{◌≡◌, ℕ, ◌+◌, ◌-◌, ◌<◌, ◌≤◌, List, ◌∷◌, length, drop, replicate, refl, sym, ap, subst, ◌∙◌, arith, length-take, length-drop, Result, Ok, Err}
use Rattle.std.specs.Prelude.{slice_index, IfOk}
use Rattle.std.proofs.lemmas.List.{take_at, get_or-take, get_or-drop}
use Rattle.image_format.specs.Words.{class_of, filled, stored_items, IsStoredList}
use Rattle.entry_ref.specs.Records.{Records}
use Rattle.store_api.specs.Ledgers.{Ledger}
use Rattle.array_store.specs.Adding.{AddsRecord}
use Rattle.array_store.specs.Arrays.{IsArray}

pub items_read : (items : List ℕ) → stored_items (filled (length items ∷ items)) ≡ items
items_read items = take_at items (replicate (class_of (length (length items ∷ items)) - length (length items ∷ items)) 0) (length items) refl

pub array_made : (items : List ℕ) → length items ≤ 1023 → IsArray (filled (length items ∷ items))
array_made items few = record {
  few = let same = ap length (items_read items) in omega arith;
  words = ap (λ xs. filled (length xs ∷ xs)) (sym (items_read items));
}

pub list_array : (most : ℕ) (ws : List ℕ) → most ≤ 1023 → IsStoredList most ws → IsArray ws
list_array most ws small list = record { few = let few = list.few in omega arith; words = list.words }

pub array_list : (ws : List ℕ) → IsArray ws → 0 < length (stored_items ws) → IsStoredList (length (stored_items ws)) ws
array_list ws array some = record { some = some; few = omega arith; words = array.words }

-- the first word is the count
pub count_read : (ws : List ℕ) → IsArray ws → slice_index ws 0 ≡ length (stored_items ws)
count_read ws array = ap (λ xs. slice_index xs 0) array.words

pub there : (ws : List ℕ) → IsArray ws → 0 < length ws
there ws array = subst (λ xs. 0 < length xs) (sym array.words) (omega arith)

-- an item stands behind the count
pub item_there : (ws : List ℕ) (i : ℕ) → i < length (stored_items ws) → 1 + i < length ws
item_there ws i low =
    let taken = length-take (slice_index ws 0) (drop 1 ws) in
    let behind = length-drop 1 ws in
    omega arith

pub item_read : (ws : List ℕ) (i : ℕ) → i < length (stored_items ws) → slice_index ws (1 + i) ≡ slice_index (stored_items ws) i
item_read ws i low =
    let taken = length-take (slice_index ws 0) (drop 1 ws) in
    let within : i < slice_index ws 0 = omega arith in
    sym (get_or-take (slice_index ws 0) (drop 1 ws) i 0 within ∙ get_or-drop 1 ws i 0)

-- the record that was added
module _ {H E : Type 0} (bits : ℕ) (old new : Ledger H) (m n : Records) (items : List ℕ) where
  pub added_array : (result : Result ℕ E) → length items ≤ 1023 → IfOk result (AddsRecord bits old new m n (length items ∷ items)) → IfOk result (λ r. IsArray (n r))
  added_array (Ok r) few adds = subst IsArray (sym adds.words_are) (array_made items few)
  added_array (Err e) few adds = tt

  pub added_items : (result : Result ℕ E) → IfOk result (AddsRecord bits old new m n (length items ∷ items)) → IfOk result (λ r. stored_items (n r) ≡ items)
  added_items (Ok r) adds = ap stored_items adds.words_are ∙ items_read items
  added_items (Err e) adds = tt
