-- What giving up a compaction leaves.
use Rattle.std.specs.Prelude.{◌≡◌, ◌⊎◌, true, false, Option, None, Some}
use Rattle.store_api.specs.Calls.{Unseals}
use Rattle.store_api.specs.Ledgers.{Ledger}
use Rattle.attr_compaction.specs.Places.{PlanView}

-- it stays: an old copy of a value's record may be in use in the victim
pub record StaysPlan (plan : PlanView) (after : Option PlanView) (same : Type 0) : Type 0 where
  pub plan_is : after ≡ Some plan
  pub copied : plan.copied ≡ true
  pub store_is : same

-- it was given up: of the store only the seal of the victim is gone
pub record GivesUp {H : Type 0} (old new : Ledger H) (plan : PlanView) (after : Option PlanView) : Type 0 where
  pub gone : after ≡ None
  pub uncopied : plan.copied ≡ false
  pub unseals : Unseals old new plan.victim

-- it stays if and only if it copied a value's record
abbrev pub EndsPlan : {H : Type 0} → Ledger H → Ledger H → PlanView → Option PlanView → Type 0 → Type 0
EndsPlan old new plan after same = StaysPlan plan after same ⊎ GivesUp old new plan after
