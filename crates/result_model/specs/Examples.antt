-- Rows worked by hand: five documents with a price, tags and popularity.
use Rattle.std.specs.Prelude.{◌≡◌, ℕ, ℤ, pos, negsuc, List, [], ◌∷◌, Some, None}
use Rattle.attr_types.specs.Table.{Table}
use Rattle.attr_types.specs.declared.items.Item.{Item}
use Rattle.attr_types.specs.declared.part.Part.{Part}
use Rattle.attr_types.specs.declared.query.Leaf.TheVariants.{Range}
use Rattle.attr_types.specs.declared.value.Value.{Value}
use Rattle.attr_types.specs.declared.value.Value.TheVariants as values
use Rattle.result_model.specs.Groups.{groups, largest_groups, terms}
use Rattle.result_model.specs.Orders.{best, sorted}
use Rattle.result_model.specs.Totals.{no_totals, totals}
use Rattle.result_model.specs.Values.{documents_from, values as values_in}
use Rattle.result_model.specs.declared.direction.Direction.TheVariants.{Ascending, Descending}

abbrev price : ℤ → Item
price number = record { value = values.Long number; weight = pos 1 }

-- a text of one letter: a is 97
abbrev letter : ℕ → Value
letter code = values.Text (code ∷ [])

abbrev tag : ℕ → Item
tag code = record { value = letter code; weight = pos 1 }

abbrev liked : ℕ → ℤ → Item
liked code weight = record { value = letter code; weight = weight }

-- prices 7, 5, none, 5 and -2; tags "b", "a" "a", "c" "b", none, "b"; popularity of "x" 3, 9, none, 9, and of "y" 1
abbrev pub catalogue : Table
catalogue =
    (1, (price (pos 7) ∷ []) ∷ (tag 98 ∷ []) ∷ (liked 120 (pos 3) ∷ []) ∷ [])
    ∷ (2, (price (pos 5) ∷ []) ∷ (tag 97 ∷ tag 97 ∷ []) ∷ (liked 120 (pos 9) ∷ []) ∷ [])
    ∷ (4, [] ∷ (tag 99 ∷ tag 98 ∷ []) ∷ [] ∷ [])
    ∷ (6, (price (pos 5) ∷ []) ∷ [] ∷ (liked 120 (pos 9) ∷ []) ∷ [])
    ∷ (9, (price (negsuc 1) ∷ []) ∷ (tag 98 ∷ []) ∷ (liked 121 (pos 1) ∷ []) ∷ []) ∷ []

-- all documents of the catalogue, and 3, which does not exist
abbrev pub everything : List ℕ
everything = 1 ∷ 2 ∷ 3 ∷ 4 ∷ 6 ∷ 9 ∷ []

-- documents 2 and 6 have the same price; 3 and 4 have none
abbrev pub Cheapest : Type 0
Cheapest = sorted 0 Ascending everything 0 10 catalogue ≡ 9 ∷ 2 ∷ 6 ∷ 1 ∷ 3 ∷ 4 ∷ []

abbrev pub Dearest : Type 0
Dearest = sorted 0 Descending everything 0 10 catalogue ≡ 1 ∷ 2 ∷ 6 ∷ 9 ∷ 3 ∷ 4 ∷ []

-- the second and the third
abbrev pub SecondAndThird : Type 0
SecondAndThird = sorted 0 Descending everything 1 2 catalogue ≡ 2 ∷ 6 ∷ []

-- document 2 has "a" twice and counts once
abbrev pub GroupedByTag : Type 0
GroupedByTag = groups 1 everything 10 catalogue
    ≡ record { value = letter 97; count = 1 } ∷ record { value = letter 98; count = 3 } ∷ record { value = letter 99; count = 1 } ∷ []

abbrev pub GroupedByCount : Type 0
GroupedByCount = largest_groups 1 everything 2 catalogue
    ≡ record { value = letter 98; count = 3 } ∷ record { value = letter 97; count = 1 } ∷ []

abbrev pub TagsFromB : Type 0
TagsFromB = terms 1 (Range (Some (letter 98)) None) 1 catalogue ≡ record { value = letter 98; count = 3 } ∷ []

abbrev pub TotalOfPrices : Type 0
TotalOfPrices = totals 0 everything catalogue
    ≡ record { count = 4; sum = pos 15; least = Some (negsuc 1); greatest = Some (pos 7) }

-- texts are no numbers
abbrev pub TotalOfNone : Type 0
TotalOfNone = totals 1 everything catalogue ≡ no_totals

abbrev pub PricesInBulk : Type 0
PricesInBulk = values_in 0 (9 ∷ 3 ∷ 1 ∷ []) catalogue ≡ (price (negsuc 1) ∷ []) ∷ [] ∷ (price (pos 7) ∷ []) ∷ []

-- popularity of "x": two documents have 9, and one has 3
abbrev pub BestOfThree : Type 0
BestOfThree = best 2 (record { value = letter 120; weight = pos 2 } ∷ []) 2 catalogue
    ≡ record { doc = 2; score = pos 18 } ∷ record { doc = 6; score = pos 18 } ∷ []

-- there is no document 3
abbrev pub TwoFromThree : Type 0
TwoFromThree = documents_from 3 2 catalogue ≡ 4 ∷ 6 ∷ []
