-- Totals of the whole numbers of documents.
use Rattle.std.specs.Prelude.{ℕ, ◌+◌, ℤ, pos, ◌+ℤ◌, List, [], ◌∷◌, Option, Some, None}
use Rattle.std.specs.Int.{int_min, int_max}
use Rattle.std.specs.List.{filter_map}
use Rattle.std.specs.Option.{option_and_then}
use Rattle.attr_types.specs.Table.{Table}
use Rattle.attr_types.specs.declared.value.Value.{Value}
use Rattle.attr_types.specs.declared.value.Value.TheVariants as values
use Rattle.result_model.specs.Values.{value_of}
use Rattle.result_model.specs.declared.totals.Totals.{Totals}

abbrev pub long_of : Value → Option ℤ
long_of (values.Long number) = Some number
long_of (values.Text text) = None

-- the number of a document in a single attribute, if it has one
abbrev pub number_of : ℕ → Table → ℕ → Option ℤ
number_of field table doc = option_and_then long_of (value_of field table doc)

-- the totals of no numbers
abbrev pub no_totals : Totals
no_totals = record { count = 0; sum = pos 0; least = None; greatest = None }

-- a number beside one of others, if there are others
abbrev pub beside : (ℤ → ℤ → ℤ) → Option ℤ → ℤ → ℤ
beside choose None number = number
beside choose (Some other) number = choose other number

-- the totals with one more number
abbrev pub with_number : Totals → ℤ → Totals
with_number totals number = record {
  count = totals.count + 1;
  sum = totals.sum +ℤ number;
  least = Some (beside int_min totals.least number);
  greatest = Some (beside int_max totals.greatest number);
}

abbrev pub with_numbers : Totals → List ℤ → Totals
with_numbers totals [] = totals
with_numbers totals (number ∷ numbers) = with_numbers (with_number totals number) numbers

-- the totals of the numbers that these documents have
abbrev pub totals : ℕ → List ℕ → Table → Totals
totals field docs table = with_numbers no_totals (filter_map (number_of field table) docs)
