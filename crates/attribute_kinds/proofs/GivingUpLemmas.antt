-- A compaction is given up, or stays: the invariant after it, and what callers see of it.
use Rattle.std.proofs.Common.{◌≡◌, ℕ, Bool, true, false, not, List, Option, None, Some, true≢false, inl, inr, sym, ap, subst, ◌∙◌}
use Rattle.std.specs.Prelude.{is_some}
use Rattle.std.specs.Option.{IfSome}
use Rattle.entry_ref.specs.Images.{words_at}
use Rattle.entry_ref.specs.Records.{Records}
use Rattle.arena_api.specs.Works.{last_image}
use Rattle.store_api.specs.Ledgers.{Ledger}
use Rattle.attr_compaction.specs.Places.{PlanView}
use Rattle.attr_field.specs.declared.roots.FieldRoots.{FieldRoots}
use Rattle.attr_types.specs.declared.field.Field.{Field}
use Rattle.image_format.specs.Images.{table_of}
use Rattle.image_format.specs.Shapes.{shape_of, types_of}
use Rattle.image_format.specs.Tables.{AttributeTrees}
use Rattle.attr_operations.specs.Fields.{HaveForms, HoldsAttributes, trees_of}
use Rattle.attr_operations.specs.Views.{table_at}
use Rattle.compaction_steps.specs.GivenUp.{EndsPlan}
use Rattle.compaction_steps.specs.Units.{IsUnderWay}
use Rattle.compaction_steps.specs.Walks.{HasLastField}
use Rattle.attribute_kinds.specs.GivingUp.{GivesUp, KeepsPlan}
use Rattle.attribute_kinds.specs.Standing.{IsAttribute, IsLast}
use Rattle.attribute_kinds.specs.Views.{AttributeView}
use Rattle.attribute_kinds.proofs.CompactLemmas.{seen}

module _ {S H : Type 0} (bits : ℕ) (ledger : S → Ledger H) (records : S → Records) (fields : List Field) (dense : Bool) (operations root published : ℕ) where
  abbrev view : S → List AttributeTrees → Option PlanView → AttributeView S
  view s trees plan = seen bits ledger records fields dense operations root published s trees plan

  -- none was in progress
  pub keeps_none : (old : S) (trees : List AttributeTrees) (was after : Option PlanView) → was ≡ None → after ≡ None → KeepsPlan ledger (view old trees was) (view old trees after)
  keeps_none old trees was after none gone = record {
    same = λ i. view old trees ((gone ∙ sym none) i);
    why = subst (λ (o : Option PlanView). IfSome o (λ (p : PlanView). p.copied ≡ true)) (sym none) tt;
  }

  module _ (old new : S) (plan : PlanView) (was after : Option PlanView) (was_is : was ≡ Some plan) (ends : EndsPlan (ledger old) (ledger new) plan after (new ≡ old)) where
    pub gives_told : (trees : List AttributeTrees) (gone : Bool) → is_some after ≡ not gone → gone ≡ true → GivesUp ledger (view old trees was) (view new trees after)
    gives_told trees gone some is = elim ends [
      | inl stays ↦ absurd (true≢false (sym (ap is_some stays.plan_is) ∙ some ∙ ap not is))
      | inr gives ↦ record { plan = plan; was = was_is; uncopied = gives.uncopied; gone = gives.gone; unseals = gives.unseals }
    ]

    pub keeps_told : (trees : List AttributeTrees) (gone : Bool) → is_some after ≡ not gone → gone ≡ false → KeepsPlan ledger (view old trees was) (view new trees after)
    keeps_told trees gone some is = elim ends [
      | inl stays ↦ record {
        same = λ i. view (stays.store_is i) trees ((stays.plan_is ∙ sym was_is) i);
        why = subst (λ (o : Option PlanView). IfSome o (λ (p : PlanView). p.copied ≡ true)) (sym was_is) stays.copied;
      }
      | inr gives ↦ absurd (true≢false (sym (some ∙ ap not is) ∙ ap is_some gives.gone))
    ]

    same_work : (ledger new).work ≡ (ledger old).work
    same_work = elim ends [
      | inl stays ↦ ap (λ (s : S). (ledger s).work) stays.store_is
      | inr gives ↦ ap (λ (l : Ledger H). l.work) gives.unseals.same
    ]

    -- all but the store and the plan stays
    pub left_told : (trees : List AttributeTrees) → records new ≡ records old → view new trees after ≡ record (view old trees was) { store = new; plan = after }
    left_told trees same = λ i. record {
      store = new;
      fields = fields;
      dense = dense;
      trees = trees;
      table = table_at (same i) trees;
      operations = operations;
      root = root;
      committed = table_of (shape_of (types_of fields)) (words_at (last_image (same_work i).commits)) root;
      committed_operations = published;
      plan = after;
    }

    pub attribute_ends : (roots : List (FieldRoots bits)) (commit : ℕ) (waits : Bool) → records new ≡ records old
        → HoldsAttributes bits (ledger new) (records new) fields (trees_of fields roots) root
        → IsAttribute dense (ledger old) (records old) fields roots root commit published was waits
        → IsAttribute dense (ledger new) (records new) fields roots root commit published after waits
    attribute_ends roots commit waits same holds is = elim ends [
      | inl stays ↦ subst (λ (o : Option PlanView). IsAttribute dense (ledger new) (records new) fields roots root commit published o waits) (was_is ∙ sym stays.plan_is)
          (subst (λ (s : S). IsAttribute dense (ledger s) (records s) fields roots root commit published was waits) (sym stays.store_is) is)
      | inr gives ↦ (let ledger_is = gives.unseals.same in record {
        stands = record {
          sized = is.stands.sized;
          few = is.stands.few;
          shape = ap (λ (l : Ledger H). l.shape) ledger_is ∙ is.stands.shape;
          holds = holds;
          last = subst (λ (l : Ledger H). IsLast l fields root commit published) (sym ledger_is) (record {
            root_is = is.stands.last.root_is;
            lawful = is.stands.last.lawful;
            operations_are = is.stands.last.operations_are;
            number = is.stands.last.number;
          });
        };
        forms = subst (λ (f : Records). HaveForms dense f (trees_of fields roots)) (sym same) is.forms;
        plan_is = subst (λ (o : Option PlanView). IfSome o (IsUnderWay bits root (ledger new) (records new) (trees_of fields roots))) (sym gives.gone) tt;
        last_is = subst (λ (o : Option PlanView). IfSome o HasLastField) (sym gives.gone) tt;
        waits_is = is.waits_is ∙ ap is_some (sym (ap (λ (l : Ledger H). l.finished) ledger_is));
      })
    ]
