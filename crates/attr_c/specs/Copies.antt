-- What is copied out of what a reader keeps.
use Rattle.std.specs.Prelude.{◌≡◌, ℕ, ◌-◌, ◌^◌, ℤ, pos, neg_ℤ, int_lt, if◌then◌else◌, List, [], length, map, min, take, drop, Option, Some, None}
use Rattle.attr_types.specs.Change.{if_signed}
use Rattle.attr_types.specs.declared.items.Item.{Item}
use Rattle.attr_types.specs.declared.score.Score.{Score}
use Rattle.attr_types.specs.declared.value.Value.{Value}
use Rattle.attr_types.specs.declared.value.Value.TheVariants.{Long, Text}
use Rattle.attr_c.specs.declared.answer.Answer.{Answer}
use Rattle.attr_c.specs.declared.answer.Answer.TheVariants.{Hits, Scores}
use Rattle.attr_c.specs.declared.told.ItemTold.{ItemTold}
use Rattle.attr_c.specs.declared.told.Scored.{Scored}

-- the list from a place on was copied, as much as there is and has room; behind it nothing was written
pub record Copies {X : Type 0} (list : List X) (first : ℕ) (old new : List X) (count : ℕ) : Type 0 where
  pub count_is : count ≡ min (length old) (length (drop first list))
  pub front : take count new ≡ take count (drop first list)
  pub rest : drop count new ≡ drop count old

-- the documents of an answer, ascending
abbrev pub documents_of : Answer → List ℕ
documents_of (Hits docs) = docs
documents_of (Scores list) = map (λ s. s.doc) list

-- the smallest or the greatest number of 64 signed bits
abbrev pub nearest_end : ℤ → ℤ
nearest_end score = if int_lt score (pos 0) then neg_ℤ (pos (2 ^ 63)) else pos (2 ^ 63 - 1)

-- a score of a document, as C is told it: the number if it has 64 signed bits, otherwise the end that is nearest to it
abbrev pub score_as : ℕ → ℤ → Option ℤ → Scored
score_as doc score (Some number) = record { score = number; doc = doc; exact = 1 }
score_as doc score None = record { score = nearest_end score; doc = doc; exact = 0 }

abbrev pub score_told : Score → Scored
score_told s = score_as s.doc s.score (if_signed 63 s.score)

-- the scores of an answer, ascending by document; the answer to a query has none
abbrev pub scores_told : Answer → List Scored
scores_told (Hits docs) = []
scores_told (Scores list) = map score_told list

-- an item, as C is told it
abbrev pub value_told : ℤ → Value → ItemTold
value_told weight (Long number) = record { number = number; length = 0; weight = weight; is_text = 0 }
value_told weight (Text text) = record { number = pos 0; length = length text; weight = weight; is_text = 1 }

abbrev pub item_told : Item → ItemTold
item_told item = value_told item.weight item.value

-- what C is told where there is no item
abbrev pub no_item : ItemTold
no_item = record { number = pos 0; length = 0; weight = pos 0; is_text = 0 }

-- the text of a value, and of the item of a number; none where there is no such text
abbrev pub value_text : Value → List ℕ
value_text (Long number) = []
value_text (Text text) = text

abbrev pub text_in : Option Item → List ℕ
text_in None = []
text_in (Some item) = value_text item.value
