-- Items and lists of items that are the same.
use Rattle.std.proofs.Common.{◌≡◌, ℕ, suc, true, false, List, [], ◌∷◌, ◌++◌, length, take, is_eq, Option, Some, None, sym, ap, ap₂, ◌∙◌, true≢false, arith}
use Rattle.std.proofs.lemmas.Bool.Decides.{Decides-int_eq}
use Rattle.std.proofs.lemmas.Cmp.{tied_itself}
use Rattle.std.specs.Ordering.{int_eq}
use Rattle.std.specs.Prelude.{ℤ, is_some, nat_eq, slice_get, unwrap_or}
use Rattle.std.proofs.lemmas.List.{take_all}
use Rattle.list_lemmas.proofs.Options.{same_Some}
use Rattle.list_lemmas.proofs.Places.{take-read}
use Rattle.index_model.proofs.ListLemmas.{same_value}
use Rattle.attr_types.specs.ProofsForOrder.{value_cmp_total}
use Rattle.attr_types.specs.Value.{value_cmp}
use Rattle.attr_types.specs.declared.items.Item.{Item}
use Rattle.attr_types.specs.declared.value.Value.{Value}

-- an item by its two parts
abbrev item_of : Value → ℤ → Item
item_of value weight = record { value = value; weight = weight }

pub parts_same : (a b : Item) → is_eq (value_cmp a.value b.value) ≡ true → int_eq a.weight b.weight ≡ true → a ≡ b
parts_same a b value weight = ap₂ item_of (same_value a.value b.value value) ((Decides-int_eq a.weight b.weight).0 weight)

pub value_apart : (a b : Item) → is_eq (value_cmp a.value b.value) ≡ false → a ≡ b → ⊥
value_apart a b apart same =
    true≢false (sym (ap is_eq (tied_itself value_cmp_total a.value)) ∙ ap (λ (x : Item). is_eq (value_cmp a.value x.value)) same ∙ apart)

pub weight_same : (a b : Item) → a ≡ b → int_eq a.weight b.weight ≡ true
weight_same a b same = (Decides-int_eq a.weight b.weight).1 (ap (λ (x : Item). x.weight) same)

pub same_on : (a b : List Item) (i : ℕ) (x y : Item) → take i a ≡ take i b → slice_get a i ≡ Some x → slice_get b i ≡ Some y → x ≡ y → take (suc i) a ≡ take (suc i) b
same_on a b i x y before at there same =
    sym (take-read a i x at) ∙ ap (λ items. items ++ x ∷ []) before ∙ ap (λ z. take i b ++ z ∷ []) same ∙ take-read b i y there

pub same_all : (a b : List Item) (i : ℕ) → take i a ≡ take i b → length a ≡ length b → length a ≡ i → a ≡ b
same_all a b i same sizes at =
    sym (take_all (length a) a (omega arith)) ∙ ap (λ j. take j a) at ∙ same ∙ ap (λ j. take j b) (sym at ∙ sizes) ∙ take_all (length b) b (omega arith)

pub read_same : (a b : List Item) (i : ℕ) (x y : Item) → slice_get a i ≡ Some x → slice_get b i ≡ Some y → a ≡ b → x ≡ y
read_same a b i x y at there same = same_Some x y (sym at ∙ ap (λ items. slice_get items i) same ∙ there)

-- a document that has items is there
there_with : (o : Option (List Item)) (items : List Item) → items ≡ unwrap_or o [] → (items ≡ [] → ⊥) → o ≡ Some items
there_with None items is some = absurd (some is)
there_with (Some found) items is some = ap Some (sym is)

there_as : (o : Option (List Item)) (items : List Item) → items ≡ unwrap_or o [] → is_some o ≡ true → o ≡ Some items
there_as None items is some = cc
there_as (Some found) items is some = ap Some (sym is)

pub there_again : (o : Option (List Item)) (old new : List Item) → old ≡ unwrap_or o [] → old ≡ new → is_some o ≡ true → o ≡ Some new
there_again o old new is same some = there_as o old is some ∙ ap Some same

pub there_full : (o : Option (List Item)) (old new : List Item) → old ≡ unwrap_or o [] → old ≡ new → nat_eq (length old) 0 ≡ false → o ≡ Some new
there_full o old new is same full =
    there_with o old is (λ none. true≢false (sym (ap (λ (items : List Item). nat_eq (length items) 0) none) ∙ full)) ∙ ap Some same
