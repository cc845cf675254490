-- Operations were applied to attributes, one after another.
use Rattle.std.proofs.Common.{◌≡◌, ◌+◌, List, [], ◌∷◌, ◌++◌, refl, subst}
use Rattle.attr_operations.specs.Calls.{LeavesEntries}
use Rattle.attr_operations.specs.Counts.{MakesOperation}
use Rattle.attr_types.specs.Table.{after_op}
use Rattle.attr_types.specs.declared.applied.Applied.TheVariants.{Skipped}
use Rattle.attr_types.specs.declared.op.Op.{Op}
use Rattle.attribute_kinds.specs.Calls.{applied_to, KeepsStore}
use Rattle.attribute_kinds.specs.Views.{AttributeView}
use Rattle.attr_c.specs.Applying.{Applies, AppliesAll, AppliesOp}
use Rattle.store_api.specs.Ledgers.{Ledger}

module _ {S H : Type 0} (ledger : S → Ledger H) where
  all_then : (a b c : AttributeView S) (xs ys : List Op) → AppliesAll ledger a b xs → AppliesAll ledger b c ys → AppliesAll ledger a c (xs ++ ys)
  all_then a b c [] ys first second = subst (λ (v : AttributeView S). AppliesAll ledger v c ys) first second
  all_then a b c (op ∷ xs) ys first second = (first.0, first.1, all_then first.0 b c xs ys first.2 second)

  pub applies_none : (which : List Op → Type 0) (a : AttributeView S) → which [] → Applies ledger which a a
  applies_none which a is = record { ops = []; which_are = is; applied = refl }

  pub applies_one : (which : List Op → Type 0) (a b : AttributeView S) (op : Op) → which (op ∷ []) → AppliesOp ledger a b op → Applies ledger which a b
  applies_one which a b op is one = record { ops = op ∷ []; which_are = is; applied = (b, one, refl) }

  pub applies_wider : (which other : List Op → Type 0) (a b : AttributeView S) → ((ops : List Op) → which ops → other ops) → Applies ledger which a b → Applies ledger other a b
  applies_wider which other a b wider done = record { ops = done.ops; which_are = wider done.ops done.which_are; applied = done.applied }

  pub applies_then : (first second whole : List Op → Type 0) (a b c : AttributeView S) → ((xs ys : List Op) → first xs → second ys → whole (xs ++ ys)) → Applies ledger first a b
      → Applies ledger second b c → Applies ledger whole a c
  applies_then first second whole a b c joined one two = record {
    ops = one.ops ++ two.ops;
    which_are = joined one.ops two.ops one.which_are two.which_are;
    applied = all_then a b c one.ops two.ops one.applied two.applied;
  }
