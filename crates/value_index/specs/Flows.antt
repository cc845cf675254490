-- What a change keeps of an index: a reference that was in use when the unit began has only roles in the new index
-- that it had in the old one.
use Rattle.std.specs.Prelude.{◌≡◌, ℕ, true, map}
use Rattle.std.specs.Option.{unwrap_or}
use Rattle.entry_ref.specs.Records.{Records}
use Rattle.store_api.specs.Ledgers.{Ledger}
use Rattle.store_api.specs.Flows.{ComesFrom}
use Rattle.store_api.specs.Statuses.{in_use}
use Rattle.tree_read.specs.Pairs.{lookup}
use Rattle.tree_read.specs.Trees.{tree_nodes, tree_pairs}
use Rattle.attr_types.specs.Value.{type_of}
use Rattle.attr_types.specs.declared.kind.ValueType.{ValueType}
use Rattle.attr_types.specs.declared.value.Value.{Value}
use Rattle.enum_dictionary.specs.Dictionaries.{beside_value}
use Rattle.posting_store.specs.Keeps.{FlowsList}
use Rattle.posting_store.specs.Lists.{list_reach}

-- the word of a value's list, or 0 if no document has the value
abbrev pub list_word : Value → Records → ℕ → ℕ
list_word value m root = unwrap_or (lookup (beside_value value m) (tree_pairs m root)) 0

-- keys come from keys, nodes from nodes, and the records of a value's list from those of its list: a block from the same
-- block
pub record FlowsIndex {H : Type 0} (type : ValueType) (old : Ledger H) (m n : Records) (root next : ℕ) : Type 0 where
  pub keys : ComesFrom old (map (λ p. p.0) (tree_pairs n next)) (map (λ p. p.0) (tree_pairs m root))
  pub nodes : ComesFrom old (tree_nodes n next) (tree_nodes m root)
  pub lists : (value : Value) → type_of value ≡ type
      → ComesFrom old (list_reach n (list_word value n next)) (list_reach m (list_word value m root))
  pub blocks : (value : Value) → type_of value ≡ type
      → FlowsList (λ r. in_use (old.back r) ≡ true) m n (list_word value m root) (list_word value n next)
