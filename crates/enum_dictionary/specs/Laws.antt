-- Dictionaries, as laws.
use Rattle.std.specs.Prelude.{◌≡◌, ◌≢◌, ℕ, map, None, Some}
use Rattle.entry_ref.specs.Records.{Records, SameAt}
use Rattle.tree_read.specs.Trees.{tree_nodes, tree_pairs}
use Rattle.tree_read.specs.Keys.{KeepsOthers}
use Rattle.tree_read.specs.Pairs.{lookup_pair, put, take_out}
use Rattle.image_format.specs.Values.{stored_value, IsValueRecord}
use Rattle.attr_types.specs.Value.{type_of}
use Rattle.attr_types.specs.declared.kind.ValueType.{ValueType}
use Rattle.attr_types.specs.declared.value.Value.{Value}
use Rattle.enum_dictionary.specs.Dictionaries.{beside_value, IsDictionary}

-- the empty dictionary
abbrev pub NothingIsDictionary : Type 0
NothingIsDictionary = (type : ValueType) (m : Records) → IsDictionary type m 0

-- a dictionary stays the same, with its pairs, while the records of its nodes and keys stay the same
abbrev pub DictionaryStays : Type 0
DictionaryStays = (type : ValueType) (m n : Records) (root : ℕ) → SameAt (tree_nodes m root) m n
    → SameAt (map (λ p. p.0) (tree_pairs m root)) m n → IsDictionary type m root
    → IsDictionary type n root × (tree_pairs n root ≡ tree_pairs m root)

-- what is found at each value of the type after a set: the new pair at the value, and at every other value the same
-- as before
pub record FindsSet (m n : Records) (root next : ℕ) (value : Value) (pair : ℕ × ℕ) : Type 0 where
  pub found : lookup_pair (beside_value value n) (tree_pairs n next) ≡ Some pair
  pub others : (other : Value) → type_of other ≡ type_of value → other ≢ value
      → lookup_pair (beside_value other n) (tree_pairs n next) ≡ lookup_pair (beside_value other m) (tree_pairs m root)

-- after a remove, nothing is found at the value, and at every other value the same as before
pub record FindsRest (m n : Records) (root next : ℕ) (value : Value) : Type 0 where
  pub gone : lookup_pair (beside_value value n) (tree_pairs n next) ≡ None
  pub others : (other : Value) → type_of other ≡ type_of value → other ≢ value
      → lookup_pair (beside_value other n) (tree_pairs n next) ≡ lookup_pair (beside_value other m) (tree_pairs m root)

-- this holds after `set`, by its clauses `makes` and `others`
abbrev pub SetIsFound : Type 0
SetIsFound = (m n : Records) (root next : ℕ) (value : Value) (pair : ℕ × ℕ) → IsDictionary (type_of value) m root
    → IsValueRecord (type_of value) (m pair.0) → stored_value (type_of value) m pair.0 ≡ value → KeepsOthers m n
    → tree_pairs n next ≡ put (beside_value value m) pair (tree_pairs m root) → FindsSet m n root next value pair

-- this holds after `remove`
abbrev pub RemovedIsGone : Type 0
RemovedIsGone = (m n : Records) (root next : ℕ) (value : Value) → IsDictionary (type_of value) m root → KeepsOthers m n
    → tree_pairs n next ≡ take_out (beside_value value m) (tree_pairs m root) → FindsRest m n root next value
