-- Weighted sets as entries from value to weight.
use Rattle.std.proofs.Common.{◌≡◌, ℤ, List, [], ◌∷◌, ◌++◌, map, Less, Greater, append_assoc, append-nil, refl}
use Rattle.std.proofs.Common.{sym, ap, ◌∙◌, subst}
use Rattle.std.specs.BTreeMap.{insert_entry}
use Rattle.std.specs.List.{AllByRecursion}
use Rattle.std.specs.List.Sorted.{IsStrictlySortedBy}
use Rattle.std.specs.Ordering.{ordering_reverse}
use Rattle.attr_types.proofs.ItemLemmas.{entries_of-with_item}
use Rattle.attr_types.specs.Lawful.{AscendByValue}
use Rattle.attr_types.specs.Change.{with_item, with_items}
use Rattle.attr_types.specs.Value.{value_cmp, values_of}
use Rattle.attr_types.specs.ProofsForOrder.{value_cmp_total}
use Rattle.attr_types.specs.declared.items.Item.{Item}
use Rattle.attr_types.specs.declared.value.Value.{Value}
use Rattle.attr_types.specs.Weights.{weights_of, put_weights}

abbrev item_of : Value × ℤ → Item
item_of weight = record { value = weight.0; weight = weight.1 }

items_from-weights_of : (items : List Item) → map item_of (weights_of items) ≡ items
items_from-weights_of [] = refl
items_from-weights_of (item ∷ items) = ap (λ xs. item ∷ xs) (items_from-weights_of items)

-- items are told apart by their values and weights
pub same_items : (xs ys : List Item) → weights_of xs ≡ weights_of ys → xs ≡ ys
same_items xs ys same = sym (items_from-weights_of xs) ∙ ap (map item_of) same ∙ items_from-weights_of ys

pub put_weights-more : (items more : List Item)
    → put_weights (weights_of items) more ≡ weights_of (with_items items more)
put_weights-more items [] = refl
put_weights-more items (item ∷ more) =
    ap (λ weights. put_weights weights more) (sym (entries_of-with_item items item))
    ∙ put_weights-more (with_item items item) more

below_middle : (value : Value) (done : List Item) (item : Item) (rest : List Item)
    → AllByRecursion (λ y. value_cmp value y ≡ Less) (values_of (done ++ item ∷ rest))
    → value_cmp value item.value ≡ Less
below_middle value [] item rest all = all.0
below_middle value (first ∷ done) item rest all = below_middle value done item rest all.1

insert_last : (done : List Item) (item : Item) (rest : List Item) → AscendByValue (done ++ item ∷ rest)
    → insert_entry value_cmp (weights_of done) item.value item.weight ≡ weights_of (done ++ item ∷ [])
unfolding IsStrictlySortedBy
insert_last [] item rest up = refl
insert_last (first ∷ done) item rest up =
    let above : value_cmp item.value first.value ≡ Greater =
    value_cmp_total.antisymm item.value first.value
    ∙ ap ordering_reverse (below_middle first.value done item rest up.0) in
    rw above (ap (λ weights. (first.value, first.weight) ∷ weights) (insert_last done item rest up.1))

put_weights-after : (done rest : List Item) → AscendByValue (done ++ rest)
    → put_weights (weights_of done) rest ≡ weights_of (done ++ rest)
put_weights-after done [] up = ap weights_of (sym (append-nil done))
put_weights-after done (item ∷ rest) up =
    let shift : (done ++ item ∷ []) ++ rest ≡ done ++ item ∷ rest = append_assoc done (item ∷ []) rest in
    ap (λ weights. put_weights weights rest) (insert_last done item rest up)
    ∙ put_weights-after (done ++ item ∷ []) rest (subst AscendByValue (sym shift) up)
    ∙ ap weights_of shift

-- items that ascend are their own weights
pub put_weights-nil : (items : List Item) → AscendByValue items → put_weights [] items ≡ weights_of items
put_weights-nil items up = put_weights-after [] items up
