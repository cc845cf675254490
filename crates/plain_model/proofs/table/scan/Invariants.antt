use Rattle.std.proofs.Common.{◌≡◌, ◌++◌}
use Rattle.attr_types.specs.Query.{tree_of}
use Rattle.attr_types.specs.Table.{hits as hits_of}
use Rattle.plain_model.proofs.table.scan.Given as goal

-- the hits so far, and those of the documents that are left
abbrev pub invariant-loop-doc : goal.invariant-loop-doc
invariant-loop-doc l =
    l.hits ++ hits_of (tree_of l.query) l.doc-iterator ≡ hits_of (tree_of l.query) l.documents.entries
