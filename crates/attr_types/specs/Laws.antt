-- The meaning of the definitions of the plain table, as laws.
use Rattle.std.specs.Prelude.{ℕ, ◌≡◌, ◌≢◌, ◌↔◌, IsTrue, IsSomeAnd, Contains, List, [], ◌∷◌, Some, None}
use Rattle.std.specs.List.{AllByRecursion}
use Rattle.std.specs.List.Sorted.{IsStrictlyIncreasing}
use Rattle.attr_types.specs.Lawful.{IsLawfulTable, DocumentsHaveType, OpFits}
use Rattle.attr_types.specs.Query.{QueryTree, Matches}
use Rattle.attr_types.specs.Table.{Table, op_doc, document_at, is_skipped, after_op, after_ops, after, hits}
use Rattle.attr_types.specs.Value.{Document}
use Rattle.attr_types.specs.declared.field.Field.{Field}
use Rattle.attr_types.specs.declared.op.Op.{Op}
use Rattle.attr_types.specs.declared.op.Op.TheVariants.{Put, Remove}

-- hits ascend strictly, so each document occurs once
abbrev pub HitsAscend : Type 0
HitsAscend = (query : QueryTree) (fields : List Field) (table : Table) → IsLawfulTable fields table
    → IsStrictlyIncreasing (hits query table)

-- a document is a hit if and only if it exists and matches
abbrev pub HitsAreMatches : Type 0
HitsAreMatches = (query : QueryTree) (fields : List Field) (table : Table) (doc : ℕ) → IsLawfulTable fields table
    → Contains (hits query table) doc ↔ IsSomeAnd (document_at table doc) (Matches query)

-- a skipped operation does not change the table
abbrev pub SkippedLeaves : Type 0
SkippedLeaves = (fields : List Field) (table : Table) (op : Op) → IsTrue (is_skipped fields table op)
    → after_op fields table op ≡ table

-- an operation that fits keeps a table lawful, with values of the types of the attributes
abbrev pub StepKeeps : Type 0
StepKeeps = (fields : List Field) (table : Table) (op : Op) → OpFits fields op
    → IsLawfulTable fields table × DocumentsHaveType fields table
    → IsLawfulTable fields (after_op fields table op) × DocumentsHaveType fields (after_op fields table op)

-- so the table after the first n operations of a feed is lawful
abbrev pub RunKeeps : Type 0
RunKeeps = (fields : List Field) (ops : List Op) (n : ℕ) → AllByRecursion (OpFits fields) ops
    → IsLawfulTable fields (after fields ops n) × DocumentsHaveType fields (after fields ops n)

-- an operation changes only its own document
abbrev pub OthersStay : Type 0
OthersStay = (fields : List Field) (table : Table) (op : Op) (other : ℕ) → IsLawfulTable fields table
    → other ≢ op_doc op
    → document_at (after_op fields table op) other ≡ document_at table other

-- after a put the document exists with its items
abbrev pub PutIsThere : Type 0
PutIsThere = (fields : List Field) (table : Table) (doc : ℕ) (items : Document)
    → document_at (after_op fields table (Put doc items)) doc ≡ Some items

-- after a put and then a remove the document does not exist
abbrev pub RemoveAfterPut : Type 0
RemoveAfterPut = (fields : List Field) (table : Table) (doc : ℕ) (items : Document) → IsLawfulTable fields table
    → document_at (after_ops fields table (Put doc items ∷ Remove doc ∷ [])) doc ≡ None
