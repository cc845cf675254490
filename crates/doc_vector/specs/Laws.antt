-- Maps by document, as laws over their pairs.
use Rattle.std.specs.Prelude.{◌≡◌, ◌≢◌, ℕ, List, Some, None}
use Rattle.std.specs.Ordering.{nat_cmp}
use Rattle.entry_ref.specs.Records.{Records, SameAt}
use Rattle.tree_read.specs.Trees.{tree_nodes, tree_pairs, by_number}
use Rattle.tree_read.specs.Keys.{Ascends}
use Rattle.tree_read.specs.Pairs.{lookup, put, take_out}
use Rattle.doc_vector.specs.Documents.{beside_document, IsDocumentMap}

-- the empty map
abbrev pub NothingIsMap : Type 0
NothingIsMap = (m : Records) → IsDocumentMap m 0

-- a map stays the same, with its pairs, while the records of its nodes stay the same
abbrev pub MapStays : Type 0
MapStays = (m n : Records) (root : ℕ) → SameAt (tree_nodes m root) m n → IsDocumentMap m root
    → IsDocumentMap n root × (tree_pairs n root ≡ tree_pairs m root)

-- after a set, the document has its items, and every other document the same as before
abbrev pub SetIsFound : Type 0
SetIsFound = (doc items : ℕ) (ps : List (ℕ × ℕ)) → lookup (beside_document doc) (put (beside_document doc) (doc, items) ps) ≡ Some items

abbrev pub SetKeepsOthers : Type 0
SetKeepsOthers = (doc items other : ℕ) (ps : List (ℕ × ℕ)) → other ≢ doc
    → lookup (beside_document other) (put (beside_document doc) (doc, items) ps) ≡ lookup (beside_document other) ps

-- after a remove, the document does not exist, and every other document has the same as before
abbrev pub RemovedIsGone : Type 0
RemovedIsGone = (m : Records) (doc : ℕ) (ps : List (ℕ × ℕ)) → Ascends nat_cmp by_number m ps
    → lookup (beside_document doc) (take_out (beside_document doc) ps) ≡ None

abbrev pub RemoveKeepsOthers : Type 0
RemoveKeepsOthers = (m : Records) (doc other : ℕ) (ps : List (ℕ × ℕ)) → Ascends nat_cmp by_number m ps → other ≢ doc
    → lookup (beside_document other) (take_out (beside_document doc) ps) ≡ lookup (beside_document other) ps
