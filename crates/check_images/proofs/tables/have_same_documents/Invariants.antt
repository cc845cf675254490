use Rattle.std.proofs.Common.{◌≡◌, ◌++◌, take}
use Rattle.std.specs.Map.{keys_of}
use Rattle.check_images.proofs.tables.have_same_documents.Given as goal

-- the documents that were compared, before those that are left, are all
abbrev pub invariant-loop-entry : goal.invariant-loop-entry
invariant-loop-entry l = keys_of (take l.entry-index l.column) ++ keys_of l.rows ≡ keys_of l.table
