-- The grammar of query words: the one text of each word, which words have a text, and what each asks for.
use Rattle.std.specs.Prelude.{◌≡◌, ◌<◌, ◌≤◌, ℕ, ℤ, pos, negsuc, ◌+◌, ◌^◌, ◌==◌, Bool, true, false, ◌&&◌, ◌||◌, nat_lt}
use Rattle.std.specs.Prelude.{nat_le, max, List, [], ◌∷◌, ◌++◌, map, length, take, codes, slice_get, if◌then◌else◌, Option, Some, None}
use Rattle.std.specs.Prelude.{option_to_list, unwrap_or, Result, Ok, Err}
use Rattle.std.specs.List.{flat_map, list_all}
use Rattle.std.specs.Int.Digits.{digits_of}
use Rattle.attr_types.specs.declared.kind.Kind.{Kind}
use Rattle.attr_types.specs.declared.kind.Kind.TheVariants.{Single, Array, WeightedSet}
use Rattle.attr_types.specs.declared.kind.ValueType.{ValueType}
use Rattle.attr_types.specs.declared.kind.ValueType.TheVariants as types
use Rattle.attr_types.specs.declared.field.Field.{Field}
use Rattle.attr_types.specs.declared.error.QueryError.{QueryError}
use Rattle.attr_types.specs.declared.error.QueryError.TheVariants.{Syntax, NoField, WrongType, OutOfRange, TooDeep, Memory}
use Rattle.attr_types.specs.declared.query.Query.{Query}
use Rattle.attr_types.specs.Query as trees
use Rattle.attr_types.specs.Fitting.{is_of_type}
use Rattle.attr_types.specs.Value.{type_of}
use Rattle.attr_types.specs.declared.value.Value.{Value}
use Rattle.attr_types.specs.declared.value.Value.TheVariants.{Long, Text}
use Rattle.attr_types.specs.declared.query.Leaf.{Leaf}
use Rattle.attr_types.specs.declared.query.Leaf.TheVariants.{Is, Prefix, Range, Below, Above}
use Rattle.attr_types.specs.Names.{is_name, field_named}
use Rattle.attr_types.specs.Scores.{AskTree, hits_of, dot_of, ask_tree}
use Rattle.attr_types.specs.declared.ask.Ask.{Ask}
use Rattle.attr_types.specs.declared.part.Part.{Part}

-- ---- words

-- a query as written: a leaf may have a name before it
mutual
  pub data NamedTree : Type 0 where
    one : Option (List ℕ) → Leaf → NamedTree
    and : NamedTrees → NamedTree
    or : NamedTrees → NamedTree

  pub data NamedTrees : Type 0 where
    no_trees : NamedTrees
    tree : NamedTree → NamedTrees → NamedTrees

-- a query word: a query, or a dot product that may have a name before it
pub data Word : Type 0 where
  whole_query : NamedTree → Word
  dot_product : Option (List ℕ) → List Part → Word

-- ---- texts of words

-- the decimal digits of a number, without leading zeros
unfoldable pub numeral : ℕ → List ℕ
numeral n = if n == 0 then codes "0" else map (λ digit. 48 + digit) (digits_of 10 n)

-- a whole number of any size
abbrev pub number_text : ℤ → List ℕ
number_text (pos n) = numeral n
number_text (negsuc n) = codes "-" ++ numeral (n + 1)

-- a byte inside a text; `"` and `\` follow a `\`
abbrev pub escaped : ℕ → List ℕ
escaped byte = if (byte == 34) || (byte == 92) then 92 ∷ byte ∷ [] else byte ∷ []

-- a text of any length
abbrev pub quoted : List ℕ → List ℕ
quoted bytes = 34 ∷ flat_map escaped bytes ++ 34 ∷ []

abbrev pub value_text : Value → List ℕ
value_text (Long number) = number_text number
value_text (Text bytes) = quoted bytes

abbrev pub option_text : Option Value → List ℕ
option_text None = []
option_text (Some value) = value_text value

abbrev pub leaf_text : Leaf → List ℕ
leaf_text (Is value) = value_text value
leaf_text (Prefix bytes) = quoted bytes ++ codes "*"
leaf_text (Range low high) = codes "[" ++ option_text low ++ codes ";" ++ option_text high ++ codes "]"
leaf_text (Below value) = codes "<" ++ value_text value
leaf_text (Above value) = codes ">" ++ value_text value

-- the name before a leaf or a dot product, if any
abbrev pub name_text : Option (List ℕ) → List ℕ
name_text None = []
name_text (Some name) = name ++ codes ":"

-- the members of a list are separated by commas
abbrev mutual
  pub tree_text : NamedTree → List ℕ
  tree_text (one name leaf) = name_text name ++ leaf_text leaf
  tree_text (and list) = codes "and(" ++ list_text list ++ codes ")"
  tree_text (or list) = codes "or(" ++ list_text list ++ codes ")"

  pub list_text : NamedTrees → List ℕ
  list_text no_trees = []
  list_text (tree first others) = tree_text first ++ others_text others

  pub others_text : NamedTrees → List ℕ
  others_text no_trees = []
  others_text (tree first others) = codes "," ++ tree_text first ++ others_text others

abbrev pub part_text : Part → List ℕ
part_text part = value_text part.value ++ codes ":" ++ number_text part.weight

-- the parts of a dot product are separated in the same way
abbrev pub parts_text : List Part → List ℕ
parts_text [] = []
parts_text (part ∷ []) = part_text part
parts_text (part ∷ second ∷ parts) = part_text part ++ codes "," ++ parts_text (second ∷ parts)

abbrev pub word_text : Word → List ℕ
word_text (whole_query query) = tree_text query
word_text (dot_product name parts) = name_text name ++ codes "dot(" ++ parts_text parts ++ codes ")"

-- ---- words that have a text

abbrev pub IsFormedName : Option (List ℕ) → Type 0
IsFormedName None = Unit {0}
IsFormedName (Some name) = is_name name ≡ true

-- the ends of a range have the same type
abbrev pub HaveOneType : Option Value → Option Value → Type 0
HaveOneType None high = Unit {0}
HaveOneType (Some low) None = Unit {0}
HaveOneType (Some low) (Some high) = type_of low ≡ type_of high

abbrev pub IsFormedLeaf : Leaf → Type 0
IsFormedLeaf (Is value) = Unit {0}
IsFormedLeaf (Prefix bytes) = Unit {0}
IsFormedLeaf (Range low high) = HaveOneType low high
IsFormedLeaf (Below value) = Unit {0}
IsFormedLeaf (Above value) = Unit {0}

-- no list is empty
abbrev mutual
  pub IsFormed : NamedTree → Type 0
  IsFormed (one name leaf) = IsFormedName name × IsFormedLeaf leaf
  IsFormed (and list) = IsFormedList list
  IsFormed (or list) = IsFormedList list

  pub IsFormedList : NamedTrees → Type 0
  IsFormedList no_trees = ⊥
  IsFormedList (tree first others) = IsFormed first × AreFormed others

  pub AreFormed : NamedTrees → Type 0
  AreFormed no_trees = Unit {0}
  AreFormed (tree first others) = IsFormed first × AreFormed others

abbrev pub IsFormedWord : Word → Type 0
IsFormedWord (whole_query query) = IsFormed query
IsFormedWord (dot_product name parts) = IsFormedName name × (0 < length parts)

-- the words that a parser reads: all, or only queries
pub data AskForms : Type 0 where
  any_word : AskForms
  queries : AskForms

abbrev pub IsAmong : AskForms → Word → Type 0
IsAmong any_word word = Unit {0}
IsAmong queries (whole_query query) = Unit {0}
IsAmong queries (dot_product name parts) = ⊥

-- the text is this word, which may have any depth, and numbers and texts of any size
pub record IsWordText (words : AskForms) (text : List ℕ) (word : Word) : Type 0 where
  pub among : IsAmong words word
  pub formed : IsFormedWord word
  pub written : text ≡ word_text word

-- ---- names

-- the number of the attribute with the name; without a name it is attribute 0
abbrev pub field_of : List Field → Option (List ℕ) → Option ℕ
field_of fields None = Some 0
field_of fields (Some name) = field_named fields name

abbrev pub field_number : List Field → Option (List ℕ) → ℕ
field_number fields name = unwrap_or (field_of fields name) 0

-- the type of an attribute; a missing attribute has none
abbrev pub type_of_field : Option Field → ValueType
type_of_field (Some field) = field.value
type_of_field None = types.Long

abbrev pub type_at : List Field → ℕ → ValueType
type_at fields number = type_of_field (slice_get fields number)

abbrev pub is_weighted_kind : Kind → Bool
is_weighted_kind WeightedSet = true
is_weighted_kind Array = false
is_weighted_kind Single = false

-- the attribute exists and is a weighted set
abbrev pub is_weighted : Option Field → Bool
is_weighted (Some field) = is_weighted_kind field.kind
is_weighted None = false

-- the query over the numbers of the attributes
abbrev mutual
  pub resolved : List Field → NamedTree → trees.QueryTree
  resolved fields (one name leaf) = trees.one (field_number fields name) leaf
  resolved fields (and list) = trees.and (resolved_list fields list)
  resolved fields (or list) = trees.or (resolved_list fields list)

  pub resolved_list : List Field → NamedTrees → trees.QueryTrees
  resolved_list fields no_trees = trees.no_trees
  resolved_list fields (tree first others) = trees.tree (resolved fields first) (resolved_list fields others)

abbrev pub asked_by : List Field → Word → AskTree
asked_by fields (whole_query query) = hits_of (resolved fields query)
asked_by fields (dot_product name parts) = dot_of (field_number fields name) parts

-- ---- the checks

-- the place of the first of two, if any
abbrev pub first_found : Option ℕ → Option ℕ → Option ℕ
first_found (Some first) second = Some first
first_found None second = second

-- the place where a name begins, if it is not the name of an attribute
abbrev pub unknown_if : ℕ → Option ℕ → Option ℕ
unknown_if place (Some number) = None
unknown_if place None = Some place

abbrev pub unknown_name : List Field → ℕ → Option (List ℕ) → Option ℕ
unknown_name fields place name = unknown_if place (field_of fields name)

-- where the first such name begins, in the text of a query or of a list that begins at this place
abbrev mutual
  pub unknown_in : List Field → ℕ → NamedTree → Option ℕ
  unknown_in fields place (one name leaf) = unknown_name fields place name
  unknown_in fields place (and list) = unknown_list fields (place + 4) list
  unknown_in fields place (or list) = unknown_list fields (place + 3) list

  pub unknown_list : List Field → ℕ → NamedTrees → Option ℕ
  unknown_list fields place no_trees = None
  unknown_list fields place (tree first others) =
      first_found (unknown_in fields place first) (unknown_others fields (place + length (tree_text first)) others)

  pub unknown_others : List Field → ℕ → NamedTrees → Option ℕ
  unknown_others fields place no_trees = None
  unknown_others fields place (tree first others) =
      first_found (unknown_in fields (place + 1) first) (unknown_others fields ((place + 1) + length (tree_text first)) others)

abbrev pub unknown_at : List Field → Word → Option ℕ
unknown_at fields (whole_query query) = unknown_in fields 0 query
unknown_at fields (dot_product name parts) = unknown_name fields 0 name

-- the values in a leaf
abbrev pub leaf_values : Leaf → List Value
leaf_values (Is value) = value ∷ []
leaf_values (Prefix bytes) = Text bytes ∷ []
leaf_values (Range low high) = option_to_list low ++ option_to_list high
leaf_values (Below value) = value ∷ []
leaf_values (Above value) = value ∷ []

-- the values have the types of their attributes
abbrev mutual
  pub tree_has_types : List Field → NamedTree → Bool
  tree_has_types fields (one name leaf) = list_all (is_of_type (type_at fields (field_number fields name))) (leaf_values leaf)
  tree_has_types fields (and list) = list_has_types fields list
  tree_has_types fields (or list) = list_has_types fields list

  pub list_has_types : List Field → NamedTrees → Bool
  list_has_types fields no_trees = true
  list_has_types fields (tree first others) = tree_has_types fields first && list_has_types fields others

abbrev pub parts_have_type : ValueType → List Part → Bool
parts_have_type wanted parts = list_all (λ part. is_of_type wanted part.value) parts

-- a dot product refers to a weighted set
abbrev pub has_types : List Field → Word → Bool
has_types fields (whole_query query) = tree_has_types fields query
has_types fields (dot_product name parts) =
    is_weighted (slice_get fields (field_number fields name)) && parts_have_type (type_at fields (field_number fields name)) parts

-- the number fits in 64 signed bits, or the text has at most 1,024 bytes
abbrev pub is_in_range : Value → Bool
is_in_range (Long (pos n)) = nat_lt n (2 ^ 63)
is_in_range (Long (negsuc n)) = nat_lt n (2 ^ 63)
is_in_range (Text bytes) = nat_le (length bytes) 1024

-- the number fits in 32 signed bits
abbrev pub fits_weight : ℤ → Bool
fits_weight (pos n) = nat_lt n (2 ^ 31)
fits_weight (negsuc n) = nat_lt n (2 ^ 31)

abbrev mutual
  pub tree_in_range : NamedTree → Bool
  tree_in_range (one name leaf) = list_all is_in_range (leaf_values leaf)
  tree_in_range (and list) = list_in_range list
  tree_in_range (or list) = list_in_range list

  pub list_in_range : NamedTrees → Bool
  list_in_range no_trees = true
  list_in_range (tree first others) = tree_in_range first && list_in_range others

abbrev pub parts_in_range : List Part → Bool
parts_in_range parts = list_all (λ part. is_in_range part.value && fits_weight part.weight) parts

abbrev pub has_range : Word → Bool
has_range (whole_query query) = tree_in_range query
has_range (dot_product name parts) = parts_in_range parts

-- a leaf has one level, a list one more than its deepest member
abbrev mutual
  pub levels_of : NamedTree → ℕ
  levels_of (one name leaf) = 1
  levels_of (and list) = list_levels list + 1
  levels_of (or list) = list_levels list + 1

  pub list_levels : NamedTrees → ℕ
  list_levels no_trees = 0
  list_levels (tree first others) = max (levels_of first) (list_levels others)

abbrev pub word_levels : Word → ℕ
word_levels (whole_query query) = levels_of query
word_levels (dot_product name parts) = 1

-- a refusal has precedence over later checks
abbrev pub unless_unknown : Option ℕ → Result AskTree QueryError → Result AskTree QueryError
unless_unknown (Some place) answer = Err (NoField place)
unless_unknown None answer = answer

abbrev pub checked_by : Bool → Bool → Bool → AskTree → Result AskTree QueryError
checked_by types range deep ask = if types
    then (if range then (if deep then Err TooDeep else Ok ask) else Err OutOfRange)
    else Err WrongType

-- what a word asks of these attributes, or the first of its refusals
abbrev pub judged : List Field → Word → Result AskTree QueryError
judged fields word = unless_unknown (unknown_at fields word)
    (checked_by (has_types fields word) (has_range word) (nat_lt 32 (word_levels word)) (asked_by fields word))

-- ---- the answers of the grammar

-- some word begins with this text
abbrev pub Continues : AskForms → List ℕ → Type 0
Continues words front = (word : Word) × (rest : List ℕ) × IsWordText words (front ++ rest) word

-- the text is not a word; `place` is the first byte with which no word continues, or the text's length
pub record BreaksAt (words : AskForms) (text : List ℕ) (place : ℕ) : Type 0 where
  pub within : place ≤ length text
  pub continues : Continues words (take place text)
  pub stops : place < length text → ¬ (Continues words (take (place + 1) text))
  pub unfinished : place ≡ length text → (word : Word) → ¬ (IsWordText words text word)

-- the answer to a text: that of its word, or the place from which on it is not a word
pub data Answers (words : AskForms) (fields : List Field) (text : List ℕ) (answer : Result AskTree QueryError) : Type 0 where
  by_word : (word : Word) → IsWordText words text word → judged fields word ≡ answer → Answers words fields text answer
  by_place : (place : ℕ) → BreaksAt words text place → Err (Syntax place) ≡ answer → Answers words fields text answer

-- the refusal of a parser is that of the grammar, unless memory was exhausted
abbrev pub RefusesAs : AskForms → List Field → List ℕ → QueryError → Type 0
RefusesAs words fields text (Syntax place) = Answers words fields text (Err (Syntax place))
RefusesAs words fields text (NoField place) = Answers words fields text (Err (NoField place))
RefusesAs words fields text WrongType = Answers words fields text (Err WrongType)
RefusesAs words fields text OutOfRange = Answers words fields text (Err OutOfRange)
RefusesAs words fields text TooDeep = Answers words fields text (Err TooDeep)
RefusesAs words fields text Memory = Unit {0}

-- the results of a parser of words, and of a parser of queries
abbrev pub AnswersAs : List Field → List ℕ → Result Ask QueryError → Type 0
AnswersAs fields text (Ok ask) = Answers any_word fields text (Ok (ask_tree ask))
AnswersAs fields text (Err error) = RefusesAs any_word fields text error

abbrev pub AnswersQuery : List Field → List ℕ → Result Query QueryError → Type 0
AnswersQuery fields text (Ok query) = Answers queries fields text (Ok (hits_of (trees.tree_of query)))
AnswersQuery fields text (Err error) = RefusesAs queries fields text error
