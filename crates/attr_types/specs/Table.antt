-- The plain table, how an operation changes it, and which documents a query hits.
use Rattle.std.specs.Prelude.{ℕ, ◌+◌, ◌*◌, ◌≡◌, ◌≤◌, ◌⊎◌, Bool, true, false, List, [], ◌∷◌, map, filter, take}
use Rattle.std.specs.Prelude.{Option, Some, None, is_none, option_map, option_and_then, unwrap_or, if◌then◌else◌}
use Rattle.std.specs.BTreeMap.{insert_entry, is_at}
use Rattle.std.specs.Map.{lookup, remove_entry}
use Rattle.std.specs.Ordering.{nat_cmp}
use Rattle.attr_types.specs.Change.{changed}
use Rattle.attr_types.specs.Query.{QueryTree, matches}
use Rattle.attr_types.specs.Value.{Document}
use Rattle.attr_types.specs.declared.change.Change.{Change}
use Rattle.attr_types.specs.declared.field.Field.{Field}
use Rattle.attr_types.specs.declared.items.Item.{Item}
use Rattle.attr_types.specs.declared.op.Op.{Op}
use Rattle.attr_types.specs.declared.op.Op.TheVariants.{Put, Update, Remove}

-- the existing documents, ascending, each with its items in each attribute
abbrev pub Table : Type 0
Table = List (ℕ × Document)

-- a document, if it exists
abbrev pub document_at : Table → ℕ → Option Document
document_at table doc = lookup (is_at (nat_cmp doc)) table

abbrev pub with_document : Table → ℕ → Document → Table
with_document table doc document = insert_entry nat_cmp table doc document

abbrev pub without_document : Table → ℕ → Table
without_document table doc = remove_entry (is_at (nat_cmp doc)) table

-- a document without items
abbrev pub without_items : List Field → Document
without_items fields = map (λ _. []) fields

-- the document that an update changes, if any: the existing one, or, with `create`, one without items
abbrev pub to_update : List Field → Bool → Option Document → Option Document
to_update fields create (Some document) = Some document
to_update fields true None = Some (without_items fields)
to_update fields false None = None

-- both results, or none
abbrev pub both : Option (List Item) → Option Document → Option Document
both (Some items) (Some document) = Some (items ∷ document)
both (Some items) None = None
both None document = None

-- a document after an update: one change of the items in each attribute; none if one of them is skipped
abbrev pub updated : List Field → List Change → Document → Option Document
updated [] changes document = Some []
updated (field ∷ fields) [] document = Some []
updated (field ∷ fields) (change ∷ changes) [] = Some []
updated (field ∷ fields) (change ∷ changes) (items ∷ document) =
    both (changed field.kind field.value change items) (updated fields changes document)

-- the document that an operation changes
abbrev pub op_doc : Op → ℕ
op_doc (Put doc items) = doc
op_doc (Update doc create changes) = doc
op_doc (Remove doc) = doc

-- the table after an operation; none if the operation is skipped
abbrev pub step : List Field → Table → Op → Option Table
step fields table (Put doc items) = Some (with_document table doc items)
step fields table (Update doc create changes) =
    option_map (with_document table doc)
    (option_and_then (updated fields changes) (to_update fields create (document_at table doc)))
step fields table (Remove doc) = option_map (λ _. without_document table doc) (document_at table doc)

abbrev pub is_skipped : List Field → Table → Op → Bool
is_skipped fields table op = is_none (step fields table op)

-- a skipped operation does not change the table
abbrev pub after_op : List Field → Table → Op → Table
after_op fields table op = unwrap_or (step fields table op) table

abbrev pub after_ops : List Field → Table → List Op → Table
after_ops fields table [] = table
after_ops fields table (op ∷ ops) = after_ops fields (after_op fields table op) ops

abbrev pub skipped_ops : List Field → Table → List Op → ℕ
skipped_ops fields table [] = 0
skipped_ops fields table (op ∷ ops) =
    (if is_skipped fields table op then 1 else 0) + skipped_ops fields (after_op fields table op) ops

-- the table after the first n operations of a feed
abbrev pub after : List Field → List Op → ℕ → Table
after fields ops n = after_ops fields [] (take n ops)

-- the number of skipped operations among the first n of a feed
abbrev pub skipped : List Field → List Op → ℕ → ℕ
skipped fields ops n = skipped_ops fields [] (take n ops)

-- a run commits after each batch of operations and after the last operation; at the start, 0 operations are committed
abbrev pub IsCommitPoint : ℕ → ℕ → ℕ → Type 0
IsCommitPoint batch total n = (n ≤ total) × (((k : ℕ) × (n ≡ batch * k)) ⊎ (n ≡ total))

-- the documents that a query matches, ascending
abbrev pub hits : QueryTree → Table → List ℕ
hits query table = map (λ e. e.0) (filter (λ e. matches query e.1) table)
