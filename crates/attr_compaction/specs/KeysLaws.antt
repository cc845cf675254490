-- The keys of a phase, as a law.
use Rattle.std.specs.Prelude.{ℕ}
use Rattle.std.specs.List.Sorted.{IsStrictlySortedBy}
use Rattle.entry_ref.specs.Records.{Records}
use Rattle.attr_types.specs.declared.kind.ValueType.{ValueType}
use Rattle.attr_compaction.specs.Places.{key_cmp}
use Rattle.doc_vector.specs.Documents.{IsDocumentMap}
use Rattle.value_index.specs.Indexes.{IsIndex}
use Rattle.attr_compaction.specs.PhaseKeys.{phase_keys}

-- they ascend
abbrev pub PhaseKeysAscend : Type 0
PhaseKeysAscend = (type : ValueType) (m : Records) (documents dictionary phase : ℕ) → IsDocumentMap m documents → IsIndex type m dictionary
    → IsStrictlySortedBy key_cmp (phase_keys type m documents dictionary phase)
