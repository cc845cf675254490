-- What callers see of a commit.
use Rattle.std.proofs.Common.{◌≡◌, ℕ, ◌+◌, ◌*◌, ◌<◌, List, length, Result, Err, sym, ap, ◌∙◌}
use Rattle.entry_ref.specs.Images.{words_at}
use Rattle.entry_ref.specs.Records.{Records}
use Rattle.arena_api.specs.Works.{last_image}
use Rattle.store_api.specs.Ledgers.{Ledger}
use Rattle.store_api.specs.declared.store.Stored.{Stored}
use Rattle.store_api.specs.declared.store.StoreError.{StoreError}
use Rattle.store_api.specs.declared.store.StoreError.TheVariants.{Full, Memory}
use Rattle.attr_field.specs.declared.roots.FieldRoots.{FieldRoots}
use Rattle.image_format.specs.Images.{table_of}
use Rattle.image_format.specs.Shapes.{shape_of, types_of}
use Rattle.image_format.specs.Words.{class_of}
use Rattle.attr_types.specs.declared.field.Field.{Field}
use Rattle.attribute_kinds.specs.Calls.{CommitsImage, IsForRoot, RefusesCommit}
use Rattle.attr_operations.specs.Commits.{CommitsAttributes, IsForWidth, RefusesRoot}
use Rattle.attr_operations.specs.Fields.{trees_of}
use Rattle.attribute_kinds.specs.Refusals.{refusal_of_store}
use Rattle.attribute_kinds.specs.Standing.{StandsAttribute}
use Rattle.attr_operations.specs.Views.{table_at}
use Rattle.attribute_kinds.specs.declared.answers.AttrError.{AttrError}
use Rattle.attribute_kinds.specs.declared.answers.AttrError.TheVariants.{CommitsSpent}
use Rattle.attribute_kinds.specs.declared.answers.CommitInfo.{CommitInfo}

pub spent_same : (a b : ℕ) → a ≡ b → ◌≡◌ {A = Result CommitInfo AttrError} (Err (CommitsSpent a)) (Err (CommitsSpent b))
spent_same a b e = ap (λ n. Err (CommitsSpent n)) e

pub refuses_commit : {H : Type 0} (old new : Ledger H) (e : StoreError) → old.work.commits.last < old.work.sizes.commits → RefusesRoot old new e → RefusesCommit old new (refusal_of_store e)
refuses_commit old new (Full width active held oldest) left refuses = record { left = left; room = refuses.0; spare = refuses.1; before = refuses.2 }
refuses_commit old new Memory left refuses = tt

pub for_root : (fields : List Field) (e : StoreError) → IsForWidth (class_of (1 + 2 * length fields)) e → IsForRoot fields (refusal_of_store e)
for_root fields (Full width active held oldest) is = is
for_root fields Memory is = tt

module _ {H : Type 0} {bits : ℕ} (old new : Ledger H) (m n : Records) (fields : List Field) (roots : List (FieldRoots bits)) (operations before commit published root : ℕ) (answer : Stored)
    (stands : StandsAttribute old m fields roots before commit published) (commits : CommitsAttributes bits fields (trees_of fields roots) operations old new m n root answer) where
  pub stands_committed : StandsAttribute new n fields roots root answer.commit operations
  stands_committed = record {
    sized = stands.sized;
    few = stands.few;
    shape = commits.stores.shape ∙ commits.prepares.shape ∙ stands.shape;
    holds = commits.holds;
    last = record {
      root_is = commits.root_is;
      lawful = commits.image.lawful;
      operations_are = commits.image.applied;
      number = commits.number ∙ sym commits.last;
    };
  }

  pub table_committed : table_of (shape_of (types_of fields)) (words_at (last_image new.work.commits)) root ≡ table_at m (trees_of fields roots)
  table_committed = commits.image.table ∙ ap (λ (f : Records). table_at f (trees_of fields roots)) (sym commits.records) ∙ commits.same

  pub image_committed : CommitsImage bits old new (last_image new.work.commits) (record { commit = answer.commit; operations = operations; advance = answer.advance; oldest = answer.oldest })
  image_committed = record { mid = commits.mid; prepares = commits.prepares; stores = commits.stores }
