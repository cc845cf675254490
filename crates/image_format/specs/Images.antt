-- Images: a root record that names the two trees of each attribute; what an image represents, and when it is lawful.
use Rattle.std.specs.Prelude.{◌≡◌, ℕ, zero, suc, ◌+◌, ◌*◌, ◌<◌, ◌^◌, List, [], ◌∷◌, length, slice_index, drop}
use Rattle.std.specs.List.{flat_map, AllByRecursion}
use Rattle.entry_ref.specs.Records.{Records}
use Rattle.image_format.specs.Shapes.{types_of_shape}
use Rattle.image_format.specs.Tables.{AttributeTrees, table_of_columns, columns_at, attributes_reach, AreLawfulAttributes}
use Rattle.image_format.specs.Words.{class_of, filled}
use Rattle.attr_types.specs.Table.{Table}
use Rattle.attr_types.specs.declared.kind.Kind.{Kind}
use Rattle.attr_types.specs.declared.kind.ValueType.{ValueType}

-- the words of the root record; root 0 is the empty image, where each word reads as 0
abbrev pub root_words : Records → ℕ → List ℕ
root_words m zero = []
root_words m (suc root) = m (suc root)

-- word 0: the number of operations committed
abbrev pub operations_at : Records → ℕ → ℕ
operations_at m root = slice_index (root_words m root) 0

-- then two words for each attribute, in the order of their numbers: the roots of its document tree and of its
-- dictionary
abbrev pub documents_at : Records → ℕ → ℕ → ℕ
documents_at m root i = slice_index (root_words m root) (1 + 2 * i)

abbrev pub dictionary_at : Records → ℕ → ℕ → ℕ
dictionary_at m root i = slice_index (root_words m root) (2 + 2 * i)

-- the attributes in the words, from number `i` on
abbrev pub attributes_from : ℕ → List (Kind × ValueType) → List ℕ → List AttributeTrees
attributes_from i [] ws = []
attributes_from i (t ∷ ts) ws =
    record { kind = t.0; type = t.1; documents = slice_index ws (1 + 2 * i); dictionary = slice_index ws (2 + 2 * i) }
    ∷ attributes_from (suc i) ts ws

-- the attributes of an image
abbrev pub attributes_of : ℕ → Records → ℕ → List AttributeTrees
attributes_of shape m root = attributes_from 0 (types_of_shape shape) (root_words m root)

-- the root record of these attributes
abbrev pub root_record : ℕ → List AttributeTrees → List ℕ
root_record operations attributes = filled (operations ∷ flat_map (λ a. a.documents ∷ a.dictionary ∷ []) attributes)

-- the form of a root record of `n` attributes
pub record IsRootRecord (n : ℕ) (ws : List ℕ) : Type 0 where
  pub size : length ws ≡ class_of (1 + 2 * n)
  pub few : slice_index ws 0 < 2 ^ 32
  pub zeros : AllByRecursion (λ w. w ≡ 0) (drop (1 + 2 * n) ws)

-- the table of an image
abbrev pub table_of : ℕ → Records → ℕ → Table
table_of shape m root = table_of_columns (columns_at m (attributes_of shape m root))

-- what the root reaches
abbrev pub attr_reaches : ℕ → Records → ℕ → List ℕ
attr_reaches shape m zero = []
attr_reaches shape m (suc root) = suc root ∷ attributes_reach m (attributes_of shape m (suc root))

-- the root record names lawful attributes
pub record IsLawfulAt (shape : ℕ) (m : Records) (root : ℕ) : Type 0 where
  pub root_record : IsRootRecord (length (types_of_shape shape)) (m root)
  pub attributes : AreLawfulAttributes m (attributes_of shape m root)

abbrev pub IsLawfulImage : ℕ → Records → ℕ → Type 0
IsLawfulImage shape m zero = Unit {0}
IsLawfulImage shape m (suc root) = IsLawfulAt shape m (suc root)
