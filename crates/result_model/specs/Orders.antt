-- Documents in the order of their values, and the best of some scores.
use Rattle.std.specs.Prelude.{ℕ, List, [], ◌∷◌, map, take, drop, Option, Some, None}
use Rattle.std.specs.BTreeSet.{insert_key}
use Rattle.std.specs.declared.cmp.Ordering.{Ordering}
use Rattle.std.specs.declared.cmp.Ordering.TheVariants.{Less, Equal, Greater}
use Rattle.std.specs.Ordering.{nat_cmp, int_cmp, ordering_reverse, ordering_then}
use Rattle.attr_types.specs.Scores.{scores}
use Rattle.attr_types.specs.Table.{Table}
use Rattle.attr_types.specs.Value.{value_cmp}
use Rattle.attr_types.specs.declared.part.Part.{Part}
use Rattle.attr_types.specs.declared.score.Score.{Score}
use Rattle.attr_types.specs.declared.value.Value.{Value}
use Rattle.result_model.specs.Values.{value_of}
use Rattle.result_model.specs.declared.direction.Direction.{Direction}
use Rattle.result_model.specs.declared.direction.Direction.TheVariants.{Ascending, Descending}

-- some keys in order with these put in their places; of equal keys one stays
abbrev pub with_keys : {K : Type 0} → (K → K → Ordering) → List K → List K → List K
with_keys cmp keys [] = keys
with_keys cmp keys (k ∷ ks) = with_keys cmp (insert_key cmp keys k) ks

-- keys in an order, equal ones once
abbrev pub in_order : {K : Type 0} → (K → K → Ordering) → List K → List K
in_order cmp ks = with_keys cmp [] ks

-- ---- sorted documents

abbrev pub directed : Direction → Ordering → Ordering
directed Ascending order = order
directed Descending order = ordering_reverse order

-- values in a direction; in both directions no value comes after every value
abbrev pub by_value : Direction → Option Value → Option Value → Ordering
by_value direction (Some a) (Some b) = directed direction (value_cmp a b)
by_value direction (Some a) None = Less
by_value direction None (Some b) = Greater
by_value direction None None = Equal

-- by value, and then by document, which always ascends
abbrev pub by_value_then_document : Direction → Option Value × ℕ → Option Value × ℕ → Ordering
by_value_then_document direction a b = ordering_then (by_value direction a.0 b.0) (nat_cmp a.1 b.1)

-- a document with its value in an attribute
abbrev pub with_value : ℕ → Table → ℕ → Option Value × ℕ
with_value field table doc = (value_of field table doc, doc)

-- these documents by their values in an attribute: `count` of them after the first `from`
abbrev pub sorted : ℕ → Direction → List ℕ → ℕ → ℕ → Table → List ℕ
sorted field direction docs from count table =
    take count (drop from (map (λ k. k.1) (in_order (by_value_then_document direction) (map (with_value field table) docs))))

-- ---- best scores

-- the greatest score first; equal scores ascend by document
abbrev pub by_score : Score → Score → Ordering
by_score a b = ordering_then (int_cmp b.score a.score) (nat_cmp a.doc b.doc)

-- the `count` best scores of a dot product
abbrev pub best : ℕ → List Part → ℕ → Table → List Score
best field parts count table = take count (in_order by_score (scores field parts table))
