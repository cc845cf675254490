-- A dictionary and its posting lists, as the index that they represent.
use Rattle.std.specs.Prelude.{ℕ, List, map}
use Rattle.std.specs.List.{AllByRecursion}
use Rattle.entry_ref.specs.Records.{Records}
use Rattle.tree_read.specs.Trees.{tree_pairs, IsTree}
use Rattle.image_format.specs.Postings.{list_form, postings_at, IsDictionaryEntry}
use Rattle.image_format.specs.Values.{stored_value}
use Rattle.index_model.specs.Index.{Index}
use Rattle.attr_types.specs.Value.{value_cmp}
use Rattle.attr_types.specs.declared.kind.ValueType.{ValueType}
use Rattle.index_model.specs.Postings.{HaveDocNumbers}

-- the values of pairs of a dictionary, each with its list
abbrev pub index_of_pairs : ValueType → Records → List (ℕ × ℕ) → Index
index_of_pairs type m pairs = map (λ p. (stored_value type m p.0, postings_at m (list_form p.1))) pairs

-- the records of a pair are well formed, and its list has valid document numbers
pub record IsIndexPair (type : ValueType) (m : Records) (p : ℕ × ℕ) : Type 0 where
  pub entry : IsDictionaryEntry type m p
  pub documents : HaveDocNumbers (postings_at m (list_form p.1))

abbrev pub AreIndexPairs : ValueType → Records → List (ℕ × ℕ) → Type 0
AreIndexPairs type m pairs = AllByRecursion (IsIndexPair type m) pairs

-- the root of a dictionary whose values ascend, with its lists
pub record IsIndexed (type : ValueType) (m : Records) (root : ℕ) : Type 0 where
  pub tree_is : IsTree value_cmp (stored_value type) m root
  pub pairs : AreIndexPairs type m (tree_pairs m root)
