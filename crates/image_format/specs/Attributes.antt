-- An attribute: its document tree and its dictionary, and when the two are lawful.
use Rattle.std.specs.Prelude.{ℕ, List, ◌++◌}
use Rattle.std.specs.List.{AllByRecursion}
use Rattle.std.specs.Ordering.{nat_cmp}
use Rattle.entry_ref.specs.Records.{Records}
use Rattle.tree_read.specs.Trees.{tree_pairs, tree_nodes, by_number, IsTree}
use Rattle.index_model.specs.Columns.{IsLawfulColumn}
use Rattle.index_model.specs.Index.{HasValues, HasLists}
use Rattle.image_format.specs.Documents.{column_at, documents_reach, AreItemRecords}
use Rattle.image_format.specs.Postings.{index_of, dictionary_reach, IsDictionaryEntry}
use Rattle.image_format.specs.Values.{stored_value}
use Rattle.attr_types.specs.Value.{value_cmp}
use Rattle.attr_types.specs.declared.kind.Kind.{Kind}
use Rattle.attr_types.specs.declared.kind.ValueType.{ValueType}

-- what an attribute with these two trees reaches
abbrev pub trees_reach : Kind → Records → ℕ → ℕ → List ℕ
trees_reach kind m documents dictionary =
    (tree_nodes m documents ++ documents_reach kind m documents) ++ (tree_nodes m dictionary ++ dictionary_reach m dictionary)

-- each record is well formed: nodes with ascending keys, items, values and posting lists
pub record AreFormed (kind : Kind) (type : ValueType) (m : Records) (documents dictionary : ℕ) : Type 0 where
  pub documents_tree : IsTree nat_cmp by_number m documents
  pub items : AllByRecursion (λ p. AreItemRecords kind type m p.1) (tree_pairs m documents)
  pub dictionary_tree : IsTree value_cmp (stored_value type) m dictionary
  pub entries : AllByRecursion (IsDictionaryEntry type m) (tree_pairs m dictionary)

-- the records are well formed, the documents have lawful items, and the dictionary has exactly their values and lists
pub record IsLawfulAttribute (kind : Kind) (type : ValueType) (m : Records) (documents dictionary : ℕ) : Type 0 where
  pub forms : AreFormed kind type m documents dictionary
  pub column : IsLawfulColumn kind (column_at kind type m documents)
  pub values : HasValues (column_at kind type m documents) (index_of type m dictionary)
  pub lists : HasLists (column_at kind type m documents) (index_of type m dictionary)
