-- A dictionary: a tree by value, whose keys are the records of its values. Each pair has the word of the value's
-- posting list.
use Rattle.std.specs.Prelude.{◌≡◌, ℕ, List, [], ◌∷◌}
use Rattle.std.specs.declared.cmp.Ordering.{Ordering}
use Rattle.std.specs.List.{AllByRecursion}
use Rattle.entry_ref.specs.Records.{Records}
use Rattle.store_api.specs.Ledgers.{Ledger}
use Rattle.store_api.specs.Parts.{Owns, Turns}
use Rattle.tree_read.specs.Trees.{tree_pairs, IsTree}
use Rattle.tree_read.specs.Pairs.{choose}
use Rattle.frozen_btree.specs.Changes.{tree}
use Rattle.image_format.specs.Values.{stored_value, IsValueRecord}
use Rattle.attr_types.specs.Value.{type_of, value_cmp}
use Rattle.attr_types.specs.declared.kind.ValueType.{ValueType}
use Rattle.attr_types.specs.declared.value.Value.{Value}
use Rattle.enum_dictionary.specs.declared.finding.DictEntry.{DictEntry}

-- compares a stored key with the sought value
abbrev pub beside_value : Value → Records → ℕ → Ordering
beside_value value m key = value_cmp (stored_value (type_of value) m key) value

-- the root of a dictionary whose values have this type
pub record IsDictionary (type : ValueType) (m : Records) (root : ℕ) : Type 0 where
  pub tree_is : IsTree value_cmp (stored_value type) m root
  pub keys : AllByRecursion (λ p. IsValueRecord type (m p.0)) (tree_pairs m root)

-- a pair as an entry
abbrev pub entry_of : (bits : ℕ) → ℕ × ℕ → DictEntry bits
entry_of bits p = record { key = p.0; posting = p.1 }

-- the pairs from the first whose key is above the sought one
abbrev pub behind : (ℕ → Ordering) → List (ℕ × ℕ) → List (ℕ × ℕ)
behind c [] = []
behind c (p ∷ ps) = choose (c p.0) (behind c ps) (behind c ps) (p ∷ ps)

-- a dictionary with these pairs was made, in place of another
pub record MakesDictionary {H : Type 0} (type : ValueType) (old new : Ledger H) (m n : Records) (root : ℕ) (pairs : List (ℕ × ℕ))
    (next : ℕ) : Type 0 where
  pub dictionary_is : IsDictionary type n next
  pub pairs_are : tree_pairs n next ≡ pairs
  pub owns : Owns new n (tree next ∷ [])
  pub turns : Turns old new m n (tree root ∷ []) (tree next ∷ [])
