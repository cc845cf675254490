-- What a change of one attribute keeps of the entries that were in use when the unit began.
use Rattle.std.specs.Prelude.{◌≡◌, ◌⊎◌, ℕ, true}
use Rattle.entry_ref.specs.Records.{Records, Among}
use Rattle.store_api.specs.Ledgers.{Ledger}
use Rattle.store_api.specs.Statuses.{in_use}
use Rattle.tree_read.specs.Trees.{tree_nodes}
use Rattle.attr_field.specs.DocumentsFlows.{own_at, refer_at}
use Rattle.store_api.specs.Flows.{ComesFrom}
use Rattle.attr_types.specs.declared.kind.Kind.{Kind}
use Rattle.attr_types.specs.declared.kind.ValueType.{ValueType}
use Rattle.value_index.specs.Flows.{FlowsIndex}
use Rattle.value_index.specs.Indexes.{IsKey}

-- no role changes in the index; nodes of documents come from nodes of documents; the record that a document owns was
-- its own before; and a document refers to what it referred to before, or to keys of the index
pub record FlowsField {H : Type 0} (kind : Kind) (type : ValueType) (old : Ledger H) (m n : Records) (documents dictionary : ℕ)
    (next_documents next_dictionary : ℕ) : Type 0 where
  pub index : FlowsIndex type old m n dictionary next_dictionary
  pub nodes : ComesFrom old (tree_nodes n next_documents) (tree_nodes m documents)
  pub own : (doc : ℕ) → ComesFrom old (own_at kind n next_documents doc) (own_at kind m documents doc)
  pub refer : (doc r : ℕ) → in_use (old.back r) ≡ true → Among r (refer_at kind n next_documents doc)
      → Among r (refer_at kind m documents doc) ⊎ IsKey m dictionary r
