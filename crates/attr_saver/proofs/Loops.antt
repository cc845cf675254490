-- Things that are read one after another, as a loop does.
use Rattle.std.proofs.Common.{◌≡◌, ℕ, suc, ◌-◌, ◌+◌, ◌≤◌, ◌<◌, List, [], ◌∷◌, ◌++◌, length, Some, Ok, Err, refl, sym, ap, ◌∙◌, append_assoc, arith, length-append}
use Rattle.std.specs.Prelude.{slice_get}
use Rattle.std.proofs.Math.Seq.{get_or-append_seam}
use Rattle.std.proofs.lemmas.List.{append-nil}
use Rattle.std.proofs.lemmas.Option.{slice_get-get_or}
use Rattle.attr_types.specs.declared.items.Item.{Item}
use Rattle.attr_saver.specs.Answers.{Fails}
use Rattle.attr_saver.specs.Fields.{◌>>=◌, Read, read_row, last_value}
use Rattle.attr_saver.specs.declared.error.Broken.{Broken}
use Rattle.attr_saver.specs.declared.error.Broken.TheVariants as broken

-- what was read before, and what is still read
abbrev pub with_front : {A : Type 0} → List A → Read (List A) → Read (List A)
with_front front read = read >>= λ x. Ok (front ++ x.0, x.1)

regroup : {A : Type 0} (front : List A) (one : A) (read : Read (List A)) → with_front front (read >>= λ x. Ok (one ∷ x.0, x.1)) ≡ with_front (front ++ one ∷ []) read
regroup {A} front one (Ok x) = ap (λ (all : List A). Ok (all, x.1)) (sym (append_assoc front (one ∷ []) x.0))
regroup front one (Err left) = refl

module _ {A S : Type 0} (read : S → List ℕ → Read A) (next : A → S) (count i : ℕ) (front : List A) (before : S) (bytes : List ℕ) (total : Read (List A)) where
  pub goes_on : (one : A) (then_before : S) (after : List ℕ) → i < count → read before bytes ≡ Ok (one, after) → next one ≡ then_before
      → with_front front (read_row read next (count - i) before bytes) ≡ total → with_front (front ++ one ∷ []) (read_row read next (count - (i + 1)) then_before after) ≡ total
  unfolding read_row
  goes_on one then_before after lt one_is next_is so_far =
      let k : count - i ≡ suc (count - (i + 1)) = omega arith in
      let step : with_front front (read_row read next (count - i) before bytes) ≡ with_front (front ++ one ∷ []) (read_row read next (count - (i + 1)) (next one) after) =
      rw (k, one_is) (regroup front one (read_row read next (count - (i + 1)) (next one) after)) in
      ap (λ (s : S). with_front (front ++ one ∷ []) (read_row read next (count - (i + 1)) s after)) (sym next_is) ∙ (sym step ∙ so_far)

  pub ends : (e : Broken) → i < count → Fails e (read before bytes)
      → with_front front (read_row read next (count - i) before bytes) ≡ total → Fails e total
  unfolding read_row
  ends broken.Memory lt fails so_far = tt
  ends (broken.Field left) lt fails so_far =
      let k : count - i ≡ suc (count - (i + 1)) = omega arith in
      let step : with_front front (read_row read next (count - i) before bytes) ≡ Err left = rw (k, fails) refl in
      sym so_far ∙ step

  pub is_done : count ≤ i → with_front front (read_row read next (count - i) before bytes) ≡ total → total ≡ Ok (front, bytes)
  unfolding read_row
  is_done le so_far =
      let k : count - i ≡ 0 = omega arith in
      let step : with_front front (read_row read next (count - i) before bytes) ≡ Ok (front, bytes) = rw k (ap (λ (all : List A). Ok (all, bytes)) (append-nil front)) in
      sym so_far ∙ step

pub last_value-push : (front : List Item) (item : Item) → Some item.value ≡ last_value (front ++ item ∷ [])
last_value-push front item =
    let len : length (front ++ item ∷ []) - 1 ≡ length front = omega (arith, length-append front (item ∷ [])) in
    let inside : length front < length (front ++ item ∷ []) = omega (arith, length-append front (item ∷ [])) in
    let there : slice_get (front ++ item ∷ []) (length front) ≡ Some item =
    slice_get-get_or (front ++ item ∷ []) (length front) item inside ∙ ap (λ (x : Item). Some x) (get_or-append_seam front item [] item) in
    rw len (rw there refl)
