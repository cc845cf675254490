-- What the flag for bit vectors says of an index.
use Rattle.std.specs.Prelude.{◌≡◌, ℕ, ℤ, pos, Bool, true, false, List}
use Rattle.std.specs.List.{AllByRecursion}
use Rattle.entry_ref.specs.Records.{Records}
use Rattle.tree_read.specs.Trees.{tree_pairs}
use Rattle.image_format.specs.Postings.{index_of}
use Rattle.index_model.specs.Index.{Index, list_of}
use Rattle.attr_types.specs.declared.kind.ValueType.{ValueType}
use Rattle.attr_types.specs.declared.value.Value.{Value}
use Rattle.posting_store.specs.Lists.{AreOnes, IsPlain}

-- no list is a bit vector
abbrev pub IsPlainIndex : Records → ℕ → Type 0
IsPlainIndex m root = AllByRecursion (λ p. IsPlain p.1) (tree_pairs m root)

-- each weight is 1
abbrev pub HasOnes : Index → Type 0
HasOnes index = (value : Value) → AreOnes (list_of value index)

-- bit vectors are wanted, and then each weight is 1; or they are not, and then no list is one
pub record IsOfForm (dense : Bool) (type : ValueType) (m : Records) (root : ℕ) : Type 0 where
  pub ones : dense ≡ true → HasOnes (index_of type m root)
  pub plain : dense ≡ false → IsPlainIndex m root

-- it stays so in other records
abbrev pub KeepsForm : ValueType → Records → Records → ℕ → Type 0
KeepsForm type m n root = (dense : Bool) → IsOfForm dense type m root → IsOfForm dense type n root

-- each of these values has weight 1, if bit vectors are wanted
abbrev pub WeighOnes : Bool → List (Value × ℤ) → Type 0
WeighOnes dense entries = dense ≡ true → AllByRecursion (λ e. e.1 ≡ pos 1) entries
