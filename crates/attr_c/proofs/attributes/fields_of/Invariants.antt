use Rattle.std.proofs.Common.{◌≡◌, ◌≤◌, [], length, map, drop}
use Rattle.attr_types.specs.declared.field.TheConstants.{MOST_FIELDS}
use Rattle.attr_c.specs.Attributes.{fields_from}
use Rattle.attr_c.proofs.attributes.fields_of.Given as goal

-- the attributes so far, with those of the other texts, are all
abbrev pub invariant-loop-text : goal.invariant-loop-text
invariant-loop-text l = record {
  few : length l.fields ≤ MOST_FIELDS;
  read : fields_from l.fields (map (λ t. t.now) (drop l.text-index l.texts)) ≡ fields_from [] (map (λ t. t.now) l.texts);
}
