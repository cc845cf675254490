-- Proof that what an attribute owns stays the same while these records do. It is in specs/ since a part cites it, and
-- is not part of the specification.
use Rattle.std.proofs.Common.{◌≡◌, ℕ, ◌++◌, ap, ◌∙◌}
use Rattle.entry_ref.specs.Records.{Records, SameAt}
use Rattle.tree_read.specs.ProofsForTrees.{SameAt-left, SameAt-right}
use Rattle.attr_field.specs.Documents.{documents_own, documents_part}
use Rattle.attr_types.specs.declared.kind.Kind.{Kind}
use Rattle.value_index.specs.Indexes.{index_part, index_reach}

pub field_own-same : (kind : Kind) (m n : Records) (documents dictionary : ℕ)
    → SameAt (documents_own kind m documents ++ index_reach m dictionary) m n
    → documents_own kind n documents ++ index_reach n dictionary ≡ documents_own kind m documents ++ index_reach m dictionary
field_own-same kind m n documents dictionary same =
    let own = documents_own kind m documents in
    let reach = index_reach m dictionary in
    ap (λ refs. refs ++ index_reach n dictionary) ((documents_part kind documents).stays m n (SameAt-left m n own reach same))
    ∙ ap (λ refs. own ++ refs) ((index_part dictionary).stays m n (SameAt-right m n own reach same))
