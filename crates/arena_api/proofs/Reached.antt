-- What a root reaches stays where its words stay.
use Rattle.std.proofs.Common.{◌≡◌, ℕ, ◌<◌, List, [], ◌∷◌, length, sym, ap, subst, ◌∙◌}
use Rattle.std.proofs.Math.Logic.{∥∥₁_elim, ∥∥₁_map}
use Rattle.std.specs.Coded.{×_prop, Unit-prop, le_prop, Coded-set, coded_list, coded_ℕ}
use Rattle.entry_ref.specs.Images.{image_of, words_at}
use Rattle.entry_ref.specs.Records.{Records, SameAt, AllThere}
use Rattle.entry_ref.proofs.Pairs.{words-among, there-among, same-from, pairs-same_at}
use Rattle.arena_api.specs.Calls.{next_image}

pub AllThere-prop : (refs : List ℕ) (m : Records) → IsProp (AllThere refs m)
AllThere-prop [] m = Unit-prop
AllThere-prop (r ∷ rs) m = ×_prop le_prop (AllThere-prop rs m)

-- a layout's reach and lawful, with its laws
module _ (reaches : ℕ → Records → ℕ → List ℕ) (lawful : ℕ → Records → ℕ → Type 0)
    (present : (shape : ℕ) (m : Records) (root : ℕ) → lawful shape m root → AllThere (reaches shape m root) m)
    (stays : (shape : ℕ) (m n : Records) (root : ℕ) → SameAt (reaches shape m root) m n → lawful shape m root → lawful shape n root × (reaches shape n root ≡ reaches shape m root)) where
  -- where all that is reached has the same words, the root is lawful there with the same image
  pub image-same : (shape : ℕ) (m n : Records) (root : ℕ) → SameAt (reaches shape m root) m n → lawful shape m root
      → lawful shape n root × (next_image reaches shape n root ≡ next_image reaches shape m root)
  image-same shape m n root same law =
      let both = stays shape m n root same law in
      (both.0, ap (λ refs. image_of refs n root) both.1 ∙ ap (λ ps. record { root = root; records = ps }) (pairs-same_at _ m n same))

  -- so it is where all records of the image stay
  pub image-kept : (shape : ℕ) (m n : Records) (root : ℕ) → ((q : ℕ) → 0 < length (words_at (next_image reaches shape m root) q) → n q ≡ m q) → lawful shape m root
      → lawful shape n root × (next_image reaches shape n root ≡ next_image reaches shape m root)
  image-kept shape m n root kept law =
      image-same shape m n root
      (same-from _ m n (λ q among. kept q (subst (λ ws. 0 < length ws) (sym (words-among _ m root q among)) (there-among _ m q (present shape m root law) among)))) law

  -- the same where it is only known that the root is lawful
  pub lawful-kept : (shape : ℕ) (m n : Records) (root : ℕ) → ∥ lawful shape m root ∥₁ → ((q : ℕ) → 0 < length (words_at (next_image reaches shape m root) q) → n q ≡ m q)
      → ∥ lawful shape n root ∥₁
  lawful-kept shape m n root law kept = ∥∥₁_map law (λ l. (image-kept shape m n root kept l).0)

  pub next_image-kept : (shape : ℕ) (m n : Records) (root : ℕ) → ∥ lawful shape m root ∥₁ → ((q : ℕ) → 0 < length (words_at (next_image reaches shape m root) q) → n q ≡ m q)
      → next_image reaches shape n root ≡ next_image reaches shape m root
  next_image-kept shape m n root law kept =
      let all : AllThere (reaches shape m root) m = ∥∥₁_elim law (AllThere-prop _ m) (present shape m root) in
      let same : SameAt (reaches shape m root) m n =
      same-from _ m n (λ q among. kept q (subst (λ ws. 0 < length ws) (sym (words-among _ m root q among)) (there-among _ m q all among))) in
      let reach : reaches shape n root ≡ reaches shape m root = ∥∥₁_elim law (Coded-set (coded_list coded_ℕ) _ _) (λ l. (stays shape m n root same l).1) in
      ap (λ refs. image_of refs n root) reach ∙ ap (λ ps. record { root = root; records = ps }) (pairs-same_at _ m n same)
