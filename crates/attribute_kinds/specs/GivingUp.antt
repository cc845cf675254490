-- What giving up a compaction leaves of attributes.
use Rattle.std.specs.Prelude.{◌≡◌, true, false, None, Some}
use Rattle.std.specs.Option.{IfSome}
use Rattle.store_api.specs.Calls.{Unseals}
use Rattle.store_api.specs.Ledgers.{Ledger}
use Rattle.attr_compaction.specs.Places.{PlanView}
use Rattle.attribute_kinds.specs.Views.{AttributeView}

module _ {S H : Type 0} (ledger : S → Ledger H) (old new : AttributeView S) where
  -- the compaction in progress had copied no value's record, and none is in progress now. Of the store only the seal of the
  -- victim is gone
  pub record GivesUp : Type 0 where
    pub plan : PlanView
    pub was : old.plan ≡ Some plan
    pub uncopied : plan.copied ≡ false
    pub gone : new.plan ≡ None
    pub unseals : Unseals (ledger old.store) (ledger new.store) plan.victim

  -- nothing changed: no compaction is in progress, or it has copied a value's record
  pub record KeepsPlan : Type 0 where
    pub same : new ≡ old
    pub why : IfSome old.plan (λ plan. plan.copied ≡ true)
