-- Bounds on the records that the walks make, by what they are and by width.
use Rattle.std.specs.Prelude.{◌≡◌, ℕ, ℤ, ◌+◌, ◌*◌, ◌^◌, ◌<◌, Bool, not, ◌&&◌, nat_eq, nat_le, if◌then◌else◌, List, [], ◌∷◌, ◌++◌, length}
use Rattle.std.specs.Prelude.{Option, None, is_some}
use Rattle.std.specs.BTreeMap.{insert_entry, is_at}
use Rattle.std.specs.List.{count_by, sum_by}
use Rattle.std.specs.Map.{keys_of, lookup, remove_entry}
use Rattle.std.specs.Ordering.{nat_cmp}
use Rattle.tree_read.specs.declared.node_format.TheConstants.{NODE_WORDS}
use Rattle.frozen_btree.specs.Builds.{nodes_of}
use Rattle.image_format.specs.Words.{class_of}
use Rattle.image_format.specs.declared.TheConstants.{LEAST_DENSE, MOST_SHORT}
use Rattle.bit_vector.specs.Changes.{vector_most}
use Rattle.bit_vector.specs.Vectors.{count_blocks}
use Rattle.index_model.specs.Changes.{is_weight, IsBetween}
use Rattle.index_model.specs.Index.{Index, list_of}
use Rattle.attr_types.specs.Value.{value_cmp}
use Rattle.attr_types.specs.declared.value.Value.{Value}
use Rattle.value_index.specs.Changes.{new_most}

-- the entries that the other weights lack, or have with another weight
abbrev pub is_added : (Value → Option ℤ) → Value × ℤ → Bool
is_added old entry = not (is_weight entry.1 (old entry.0))

abbrev pub added_count : (Value → Option ℤ) → List (Value × ℤ) → ℕ
added_count old entries = count_by (is_added old) entries

-- the entries whose values the other weights lack
abbrev pub is_gone : (Value → Option ℤ) → Value × ℤ → Bool
is_gone new entry = not (is_some (new entry.0))

abbrev pub gone_count : (Value → Option ℤ) → List (Value × ℤ) → ℕ
gone_count new entries = count_by (is_gone new) entries

-- ---- by width: the number of nodes, and the number of records of each other width
abbrev pub by_width : ℕ → (ℕ → ℕ) → ℕ → ℕ
by_width nodes records width = if nat_eq width NODE_WORDS then nodes else records width

-- the record of a value that no document had
abbrev pub new_record : List (ℕ × ℤ) → Value → ℕ → ℕ
new_record [] value width = new_most value width
new_record (first ∷ more) value width = 0

-- the record of a list that then has this many documents, if it is short
abbrev pub short_record : ℕ → ℕ → ℕ
short_record count width = if nat_le count MOST_SHORT then (if nat_eq width (class_of (1 + count)) then 1 else 0) else 0

-- the records for a value that the document gets, by the documents that values had: its own record if it is new, and
-- that of its list
abbrev pub put_records : (Value → List (ℕ × ℤ)) → ℕ → Value × ℤ → ℕ → ℕ
put_records lists doc entry width =
    new_record (lists entry.0) entry.0 width + short_record (length (insert_entry nat_cmp (lists entry.0) doc entry.1)) width

-- the record for a value that the document loses: that of its list
abbrev pub taken_records : (Value → List (ℕ × ℤ)) → ℕ → Value × ℤ → ℕ → ℕ
taken_records lists doc entry width = short_record (length (remove_entry (is_at (nat_cmp doc)) (lists entry.0))) width

-- the sum over the values that a walk changes
abbrev pub walk_records : (Value × ℤ → Bool) → (Value × ℤ → ℕ → ℕ) → List (Value × ℤ) → ℕ → ℕ
walk_records changes each entries width = sum_by (λ entry. if changes entry then each entry width else 0) entries

abbrev pub added_records : (Value → List (ℕ × ℤ)) → ℕ → (Value → Option ℤ) → List (Value × ℤ) → ℕ → ℕ
added_records lists doc old entries = walk_records (is_added old) (put_records lists doc) entries

abbrev pub gone_records : (Value → List (ℕ × ℤ)) → ℕ → (Value → Option ℤ) → List (Value × ℤ) → ℕ → ℕ
gone_records lists doc new entries = walk_records (is_gone new) (taken_records lists doc) entries

-- ---- with bit vectors
-- what a list may need besides that had and has these documents, if it may be a bit vector before or then: a block, and
-- for a change of form at most one record for each block, and one tree
abbrev pub form_records : Bool → List (ℕ × ℤ) → List (ℕ × ℤ) → ℕ → ℕ
form_records dense had docs width =
    if dense && nat_le LEAST_DENSE (1 + length had) then vector_most (1 + count_blocks (keys_of docs)) (nodes_of (length docs)) width else 0

-- for a value that the document gets, and for one that it loses
abbrev pub put_forms : Bool → (Value → List (ℕ × ℤ)) → ℕ → Value × ℤ → ℕ → ℕ
put_forms dense lists doc entry = form_records dense (lists entry.0) (insert_entry nat_cmp (lists entry.0) doc entry.1)

abbrev pub taken_forms : Bool → (Value → List (ℕ × ℤ)) → ℕ → Value × ℤ → ℕ → ℕ
taken_forms dense lists doc entry = form_records dense (lists entry.0) (remove_entry (is_at (nat_cmp doc)) (lists entry.0))

abbrev pub added_forms : Bool → (Value → List (ℕ × ℤ)) → ℕ → (Value → Option ℤ) → List (Value × ℤ) → ℕ → ℕ
added_forms dense lists doc old entries = walk_records (is_added old) (put_forms dense lists doc) entries

abbrev pub gone_forms : Bool → (Value → List (ℕ × ℤ)) → ℕ → (Value → Option ℤ) → List (Value × ℤ) → ℕ → ℕ
gone_forms dense lists doc new entries = walk_records (is_gone new) (taken_forms dense lists doc) entries

-- so many of each width, and these besides
abbrev pub besides : (ℕ → ℕ) → (ℕ → ℕ) → ℕ → ℕ
besides most more width = most width + more width

-- what a walk makes at most that adds these values, given the weights before: so many nodes for each, and the other records
abbrev pub added_most : Bool → Index → ℕ → (Value → Option ℤ) → List (Value × ℤ) → ℕ → ℕ → ℕ
added_most dense index doc old entries nodes =
    besides (by_width (nodes * added_count old entries) (added_records (λ value. list_of value index) doc old entries))
    (added_forms dense (λ value. list_of value index) doc old entries)

-- what a walk makes at most that removes these values, unless the weights after have them
abbrev pub gone_most : Bool → Index → ℕ → (Value → Option ℤ) → List (Value × ℤ) → ℕ → ℕ → ℕ
gone_most dense index doc new entries nodes =
    besides (by_width (nodes * gone_count new entries) (gone_records (λ value. list_of value index) doc new entries))
    (gone_forms dense (λ value. list_of value index) doc new entries)

-- ---- by their sum, for a change that makes a record of some width
-- the sum over all widths but that of nodes
abbrev pub record_sum : (ℕ → ℕ) → ℕ
record_sum most = most 2 + most 4 + most 8 + most 16 + most 32 + most 64 + most 128 + most 256 + most 512 + most 1024

-- a bound on the nodes that a change of one value makes, if no tree has more levels: in its list and in the
-- dictionary, two for each level, and a root
abbrev pub value_nodes : ℕ → ℕ
value_nodes levels = 2 * (2 * levels + 1)

-- no tree of the index has more levels, by the number of its values and the number of documents of each
pub record IsLow (levels : ℕ) (index : Index) : Type 0 where
  pub some : 0 < levels
  pub values : length index < 2 * 8 ^ levels
  pub lists : (value : Value) → length (list_of value index) < 2 * 8 ^ levels

-- the same holds for each index during the walks: after the first of the new weights are added, or the first of the
-- old ones removed
abbrev pub AddsLow : ℕ → Index → ℕ → List (Value × ℤ) → Type 0
AddsLow levels start doc new = (done rest : List (Value × ℤ)) (index : Index) → done ++ rest ≡ new
    → IsBetween start doc (λ value. lookup (is_at (value_cmp value)) done) (λ value. None) index → IsLow levels index

abbrev pub RemovesLow : ℕ → Index → ℕ → (Value → Option ℤ) → List (Value × ℤ) → Type 0
RemovesLow levels start doc added old = (done rest : List (Value × ℤ)) (index : Index) → done ++ rest ≡ old
    → IsBetween start doc added (λ value. lookup (is_at (value_cmp value)) done) index → IsLow levels index
