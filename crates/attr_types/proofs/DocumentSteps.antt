-- A document after an update, at what the program finds.
use Rattle.std.proofs.Common.{◌≡◌, List, [], ◌∷◌, Some, refl}
use Rattle.attr_types.specs.Table.{updated}
use Rattle.attr_types.specs.Value.{Document}
use Rattle.attr_types.specs.declared.field.Field.{Field}

-- without changes nothing is left to do
pub no_changes : (fields : List Field) (document : Document) → updated fields [] document ≡ Some []
no_changes [] document = refl
no_changes (field ∷ fields) document = refl
