-- What holds of attributes between calls: through an operation, and where one was refused.
use Rattle.std.proofs.Common.{◌≡◌, ℕ, List, length, sym, ap, subst, ◌∙◌}
use Rattle.entry_ref.specs.Images.{words_at}
use Rattle.entry_ref.specs.Records.{Records}
use Rattle.entry_ref.specs.declared.images.Image.{Image}
use Rattle.arena_api.specs.Works.{last_image}
use Rattle.store_api.specs.Ledgers.{Ledger}
use Rattle.store_api.specs.Parts.{Turns}
use Rattle.image_format.specs.Images.{IsLawfulImage, operations_at}
use Rattle.image_format.specs.Shapes.{shape_of, types_of}
use Rattle.attr_field.specs.Laws.{FieldReaches}
use Rattle.attr_field.specs.declared.roots.FieldRoots.{FieldRoots}
use Rattle.attr_types.specs.declared.field.Field.{Field}
use Rattle.attr_operations.specs.Calls.{KeepsStore, LeavesEntries}
use Rattle.attr_operations.specs.Fields.{AreFields, MakesUnsealed, StillRefer, parts_of, trees_of}
use Rattle.attribute_kinds.specs.Standing.{StandsAttribute, IsLast}
use Rattle.attr_operations.proofs.Columns.{FieldLaws}
use Rattle.attr_operations.proofs.Holding.{IsSealedFinished, holds_turned, holds_left}

-- the last commit stays
pub last_stays : {H : Type 0} (old new : Ledger H) (fields : List Field) (root commit operations : ℕ) → IsLast old fields root commit operations → KeepsStore old new
    → IsLast new fields root commit operations
last_stays old new fields root commit operations last keeps =
    let same : last_image new.work.commits ≡ last_image old.work.commits = keeps.commits.image in
    record {
      root_is = ap (λ (i : Image). i.root) same ∙ last.root_is;
      lawful = subst (λ (i : Image). IsLawfulImage (shape_of (types_of fields)) (words_at i) root) (sym same) last.lawful;
      operations_are = ap (λ (i : Image). operations_at (words_at i) root) same ∙ last.operations_are;
      number = last.number ∙ sym keeps.commits.last;
    }

module _ {bits : ℕ} {H : Type 0} (old new : Ledger H) (m n : Records) (fields : List Field) (roots next : List (FieldRoots bits)) (root commit operations : ℕ)
    (stands : StandsAttribute old m fields roots root commit operations) (keeps : KeepsStore old new) where
  pub stands_turned : length next ≡ length fields → AreFields n fields (trees_of fields next)
      → Turns old new m n (parts_of (trees_of fields roots)) (parts_of (trees_of fields next))
      → StillRefer old new m n (trees_of fields roots) (trees_of fields next) → MakesUnsealed old new → FieldLaws → FieldReaches → IsSealedFinished bits old
      → StandsAttribute new n fields next root commit operations
  stands_turned sized are turns refer unsealed laws reaches finished = record {
    sized = sized;
    few = stands.few;
    shape = keeps.shape ∙ stands.shape;
    holds = holds_turned bits old new m n fields (trees_of fields roots) (trees_of fields next) root laws reaches finished stands.holds are turns refer unsealed keeps;
    last = last_stays old new fields root commit operations stands.last keeps;
  }

  pub stands_left : LeavesEntries old new m n → StandsAttribute new n fields roots root commit operations
  stands_left left = record {
    sized = stands.sized;
    few = stands.few;
    shape = keeps.shape ∙ stands.shape;
    holds = holds_left bits old new m n fields (trees_of fields roots) root stands.holds left keeps;
    last = last_stays old new fields root commit operations stands.last keeps;
  }
