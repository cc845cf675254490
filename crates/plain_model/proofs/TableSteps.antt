-- A table after an operation, at what the program finds.
use Rattle.std.proofs.Common.{◌≡◌, ℕ, Bool, List, Option, Some, None, option_map, sym, ap, subst}
use Rattle.std.specs.BTreeMap.{is_at}
use Rattle.std.specs.Ordering.{nat_cmp}
use Rattle.std.specs.Option.{IfSome}
use Rattle.attr_types.proofs.EntryLemmas.{all-lookup}
use Rattle.std.specs.Option.{option_and_then, unwrap_or}
use Rattle.attr_types.proofs.TableLemmas.{step_keeps}
use Rattle.attr_types.specs.Lawful.{IsLawfulDocument, IsLawfulTable, DocumentsHaveType, OpFits}
use Rattle.attr_types.specs.Table.{Table, document_at, with_document, to_update, updated, after_op}
use Rattle.attr_types.specs.Value.{Document}
use Rattle.attr_types.specs.declared.change.Change.{Change}
use Rattle.attr_types.specs.declared.field.Field.{Field}
use Rattle.attr_types.specs.declared.op.Op.{Op}
use Rattle.attr_types.specs.declared.op.Op.TheVariants.{Update}
use Rattle.plain_model.specs.Plain.{Plain}

-- an update that has an answer
pub after_update : (fields : List Field) (table : Table) (doc : ℕ) (create : Bool) (changes : List Change) (new : Document)
    → option_and_then (updated fields changes) (to_update fields create (document_at table doc)) ≡ Some new
    → after_op fields table (Update doc create changes) ≡ with_document table doc new
after_update fields table doc create changes new is =
    ap (λ o. unwrap_or (option_map (with_document table doc) o) table) is

-- the fields of a plain table meet what is asked of the whole
pub fits_within : (whole inside : Plain) (op : Op) → inside ≡ whole → OpFits whole.fields op → OpFits inside.fields op
fits_within whole inside op is fits = subst (λ (p : Plain). OpFits p.fields op) (sym is) fits

-- what an operation makes of a lawful table is lawful
pub after_keeps : (fields : List Field) (table new : Table) (op : Op) → OpFits fields op
    → IsLawfulTable fields table × DocumentsHaveType fields table
    → new ≡ after_op fields table op → IsLawfulTable fields new × DocumentsHaveType fields new
after_keeps fields table new op fits sound is =
    subst (λ t. IsLawfulTable fields t × DocumentsHaveType fields t) (sym is) (step_keeps fields table op fits sound)

-- a document of a lawful table is lawful
pub found_lawful : (fields : List Field) (table : Table) (doc : ℕ) (document : Option Document) → IsLawfulTable fields table
    → document ≡ document_at table doc → IfSome document (IsLawfulDocument fields)
found_lawful fields table doc None lawful is = tt
found_lawful fields table doc (Some document) lawful is =
    all-lookup (IsLawfulDocument fields) (is_at (nat_cmp doc)) table lawful.documents document (sym is)
