-- Where references come from, among those that were in use when the unit began.
use Rattle.std.specs.Prelude.{◌≡◌, ℕ, true, List}
use Rattle.entry_ref.specs.Records.{Among}
use Rattle.store_api.specs.Ledgers.{Ledger}
use Rattle.store_api.specs.Statuses.{in_use}

-- each of the references `refs` that was in use when the unit began is among `those`
abbrev pub ComesFrom : {H : Type 0} → Ledger H → List ℕ → List ℕ → Type 0
ComesFrom ledger refs those = (r : ℕ) → in_use (ledger.back r) ≡ true → Among r refs → Among r those
