-- An index in a store: a dictionary by value. Each value has a record of its own, its key, and a list of documents.
use Rattle.std.specs.Prelude.{◌≡◌, ℕ, ◌<◌, ◌≤◌, true, List, ◌++◌, map, length, Option}
use Rattle.std.specs.List.{AllByRecursion}
use Rattle.std.specs.Option.{option_map}
use Rattle.entry_ref.specs.Records.{Records, Among}
use Rattle.store_api.specs.Parts.{Part}
use Rattle.tree_read.specs.Trees.{tree_pairs, tree_nodes}
use Rattle.tree_read.specs.Pairs.{lookup_pair}
use Rattle.image_format.specs.Postings.{dictionary_reach}
use Rattle.image_format.specs.declared.TheConstants.{LEAST_DENSE}
use Rattle.attr_types.specs.declared.kind.ValueType.{ValueType}
use Rattle.attr_types.specs.declared.value.Value.{Value}
use Rattle.enum_dictionary.specs.Dictionaries.{IsDictionary, beside_value}
use Rattle.posting_store.specs.Lists.{list_at, is_vector, IsList}
use Rattle.value_index.specs.ProofsForIndexes.{index_reach-same}

-- a key with its list, which is not empty; a bit vector is long
pub record IsValuePair (m : Records) (p : ℕ × ℕ) : Type 0 where
  pub key : 0 < p.0
  pub some : 0 < p.1
  pub list_is : IsList m p.1
  pub long : is_vector p.1 ≡ true → LEAST_DENSE ≤ length (list_at m p.1)

-- the root of an index whose values have this type; its contents are `index_of` of image_format
pub record IsIndex (type : ValueType) (m : Records) (root : ℕ) : Type 0 where
  pub dictionary_is : IsDictionary type m root
  pub pairs : AllByRecursion (IsValuePair m) (tree_pairs m root)

-- the references that it owns: its nodes, and the key and the list of each value
abbrev pub index_reach : Records → ℕ → List ℕ
index_reach m root = tree_nodes m root ++ dictionary_reach m root

abbrev pub index_part : ℕ → Part
index_part root = record { reach = λ m. index_reach m root; stays = λ m n same. index_reach-same m n root same }

-- the key of a value
abbrev pub key_at : Value → Records → ℕ → Option ℕ
key_at value m root = option_map (λ p. p.0) (lookup_pair (beside_value value m) (tree_pairs m root))

-- a reference is a key
abbrev pub IsKey : Records → ℕ → ℕ → Type 0
IsKey m root ref = Among ref (map (λ p. p.0) (tree_pairs m root))
