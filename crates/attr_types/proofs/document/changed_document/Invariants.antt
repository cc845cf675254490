use Rattle.std.proofs.Common.{◌≡◌, ◌++◌, drop, option_map}
use Rattle.attr_types.specs.Lawful.{IsLawfulDocument}
use Rattle.attr_types.specs.Table.{updated}
use Rattle.attr_types.proofs.document.changed_document.Given as goal

-- what is done, before what the rest gives, is what all give
abbrev pub invariant-loop-change : goal.invariant-loop-change
invariant-loop-change l = record {
  whole : option_map (λ rest. l.new.items ++ rest) (updated l.fields_left (drop l.change-index l.changes) l.document_left)
      ≡ updated l.fields l.changes l.document;
  lawful : IsLawfulDocument l.fields_left l.document_left;
}
