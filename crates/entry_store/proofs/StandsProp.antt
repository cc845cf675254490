-- That a store stands has one proof at most.
use Rattle.std.proofs.Common.{ℕ, Bool}
use Rattle.std.proofs.Props.{props}
use Rattle.entry_ref.specs.Records.{Records}
use Rattle.arena_api.specs.Works.{WorkView}
use Rattle.entry_ledger.specs.Entries.{EntriesView}
use Rattle.entry_store.specs.Standing.{Stands}

pub stands-prop : {H : Type 0} (bits : ℕ) (work : WorkView H) (m : Records) (e : EntriesView) (unit : Bool) → IsProp (Stands bits work m e unit)
stands-prop bits work m e unit = hlevel props
