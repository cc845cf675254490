-- What a change keeps of documents: a reference that was in use when the unit began has only roles in the new ones
-- that it had in the old ones.
use Rattle.std.specs.Prelude.{◌⊎◌, ℕ, List, unwrap_or}
use Rattle.entry_ref.specs.Records.{Records, Among}
use Rattle.store_api.specs.Ledgers.{Ledger}
use Rattle.store_api.specs.Flows.{ComesFrom}
use Rattle.tree_read.specs.Pairs.{lookup}
use Rattle.tree_read.specs.Trees.{tree_nodes, tree_pairs}
use Rattle.doc_vector.specs.Documents.{beside_document}
use Rattle.attr_types.specs.declared.kind.Kind.{Kind}
use Rattle.attr_field.specs.Documents.{items_own, items_refer}

-- the reference of a document's items, or 0 if it has none
abbrev pub reference_at : Records → ℕ → ℕ → ℕ
reference_at m root doc = unwrap_or (lookup (beside_document doc) (tree_pairs m root)) 0

-- the record that a document owns, and those of its values
abbrev pub own_at : Kind → Records → ℕ → ℕ → List ℕ
own_at kind m root doc = items_own kind (reference_at m root doc)

abbrev pub refer_at : Kind → Records → ℕ → ℕ → List ℕ
refer_at kind m root doc = items_refer kind (reference_at m root doc) (m (reference_at m root doc))

-- nodes come from nodes; the record that a document owns was its own before; and it refers only to what it referred
-- to before, and to these keys
pub record FlowsDocuments {H : Type 0} (kind : Kind) (old : Ledger H) (m n : Records) (root : ℕ) (keys : List ℕ) (next : ℕ) : Type 0 where
  pub nodes : ComesFrom old (tree_nodes n next) (tree_nodes m root)
  pub own : (doc : ℕ) → ComesFrom old (own_at kind n next doc) (own_at kind m root doc)
  pub refer : (doc r : ℕ) → Among r (refer_at kind n next doc) → Among r (refer_at kind m root doc) ⊎ Among r keys
