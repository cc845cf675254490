-- The command `attr` as `clap` sees it, with its options, their ranges and defaults.
use Rattle.std.specs.Prelude.{ℕ, true, List, [], ◌∷◌, codes, Some}
use Rattle.clap.specs.Walk.{Rule, Text}
use Rattle.clap.specs.Simple.{App, new_app, new_rule, with_rule, on_top}
use Rattle.clap.specs.declared.builder.action.ArgAction.TheVariants.{Append, SetTrue}
use Rattle.clap.specs.declared.builder.value_parser.ValueParser.TheVariants as parsers

-- an option with a number: the least and the greatest that it takes, and its default, if any
pub record NumberOption : Type 0 where
  pub name : Text
  pub least : ℕ
  pub most : ℕ
  pub default : List Text

-- the options with a number
abbrev pub batch : NumberOption
batch = record { name = codes "batch"; least = 1; most = 1000000; default = codes "100" ∷ [] }

abbrev pub readers : NumberOption
readers = record { name = codes "readers"; least = 0; most = 8; default = codes "2" ∷ [] }

abbrev pub rounds : NumberOption
rounds = record { name = codes "rounds"; least = 1; most = 1000; default = codes "4" ∷ [] }

abbrev pub buffers : NumberOption
buffers = record { name = codes "buffers"; least = 8; most = 8191; default = codes "64" ∷ [] }

abbrev pub words : NumberOption
words = record { name = codes "words"; least = 8192; most = 65536; default = codes "16384" ∷ [] }

abbrev pub make : NumberOption
make = record { name = codes "make"; least = 1; most = 1000000; default = [] }

abbrev pub seed : NumberOption
seed = record { name = codes "seed"; least = 0; most = 65535; default = codes "1" ∷ [] }

-- `--name TEXT`, which must be given
abbrev pub required_rule : Text → Rule
required_rule name = record (new_rule name) { long = Some name; required = true }

-- `--name TEXT`
abbrev pub text_rule : Text → List Text → Rule
text_rule name default = record (new_rule name) { long = Some name; defaults = default }

-- `--name NUMBER`
abbrev pub number_rule : NumberOption → Rule
number_rule o = record (new_rule o.name) {
  long = Some o.name;
  parser = Some (parsers.Unsigned o.least o.most);
  defaults = o.default;
}

-- `--name`
abbrev pub flag_rule : Text → Rule
flag_rule name = record (new_rule name) { long = Some name; action = Some SetTrue }

-- any number of words that belong to no option
abbrev pub words_rule : Text → Rule
words_rule name = record (new_rule name) { action = Some Append }

-- `attr`, whose words do not begin with the program's name
abbrev pub bare : App
bare = on_top (λ s. record s { no_binary_name = true }) (new_app (codes "attr"))

-- --kind K --value V [--field F] [--also A]
abbrev pub with_fields : App → App
with_fields a = with_rule (with_rule (with_rule (with_rule a (required_rule (codes "kind")))
    (required_rule (codes "value"))) (text_rule (codes "field") (codes "f" ∷ []))) (text_rule (codes "also") [])

-- [--batch B] [--readers R] [--rounds N] [--buffers U] [--words W] [--make N] [--seed S]
abbrev pub with_numbers : App → App
with_numbers a = with_rule (with_rule (with_rule (with_rule (with_rule (with_rule (with_rule a (number_rule batch))
    (number_rule readers)) (number_rule rounds)) (number_rule buffers)) (number_rule words)) (number_rule make)) (number_rule seed)

-- [--after] [--wide] [--dense] [--save]
abbrev pub with_flags : App → App
with_flags a = with_rule (with_rule (with_rule (with_rule a (flag_rule (codes "after"))) (flag_rule (codes "wide")))
    (flag_rule (codes "dense"))) (flag_rule (codes "save"))

-- `attr` with these and [QUERY..]
unfoldable pub attr_app : App
attr_app = with_rule (with_flags (with_numbers (with_fields bare))) (words_rule (codes "query"))
