-- What is asked of the pairs of an attribute's two trees.
use Rattle.std.proofs.Common.{◌<◌, ◌^◌, ℕ, List, [], ◌∷◌, arith}
use Rattle.std.specs.List.{AllByRecursion}
use Rattle.entry_ref.specs.Records.{Records}
use Rattle.tree_read.specs.Trees.{tree_pairs}
use Rattle.attr_field.specs.Documents.{AreItemsAt, IsDocuments}
use Rattle.attr_types.specs.declared.kind.Kind.{Kind}
use Rattle.attr_types.specs.declared.kind.ValueType.{ValueType}
use Rattle.doc_vector.specs.Documents.{IsDocumentPair}
use Rattle.compaction_steps.specs.Sights.{HasItemRecords}

pub all_items : (kind : Kind) (type : ValueType) (m : Records) (root : ℕ) → IsDocuments kind type m root → AllByRecursion (HasItemRecords kind type m) (tree_pairs m root)
all_items kind type m root are = each (tree_pairs m root) are.map_is.pairs are.items
  where
    each : (ps : List (ℕ × ℕ)) → AllByRecursion IsDocumentPair ps → AllByRecursion (λ p. AreItemsAt kind type m p.1) ps → AllByRecursion (HasItemRecords kind type m) ps
    each [] pairs items = tt
    each (p ∷ ps) pairs items = (record { few = pairs.0.reference; records = items.0.records }, each ps pairs.1 items.1)

pub all_numbers : (ps : List (ℕ × ℕ)) → AllByRecursion IsDocumentPair ps → AllByRecursion (λ p. p.0 < 2 ^ 32) ps
all_numbers [] pairs = tt
all_numbers (p ∷ ps) pairs = ((let most = pairs.0.document.1 in omega arith), all_numbers ps pairs.1)
