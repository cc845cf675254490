-- Which buffer a compaction empties: the one with the most dead words.
use Rattle.std.specs.Prelude.{◌≡◌, ◌⊎◌, ℕ, zero, suc, ◌+◌, ◌*◌, ◌<◌, ◌≤◌, Bool, false, if◌then◌else◌}
use Rattle.entry_ref.specs.References.{packed}
use Rattle.arena_api.specs.Works.{active_width}
use Rattle.store_api.specs.Statuses.{Status, is_taken, is_dead}
use Rattle.store_api.specs.Ledgers.{Ledger, capacity, is_filled}

-- the number of entries, among the first n of a buffer, whose status passes
abbrev pub count_entries : ℕ → (Status → Bool) → (ℕ → Status) → ℕ → ℕ → ℕ
count_entries bits passes status b zero = 0
count_entries bits passes status b (suc n) =
    count_entries bits passes status b n + (if passes (status (packed bits (suc n) b)) then 1 else 0)

abbrev pub entries_with : {H : Type 0} → ℕ → Ledger H → ℕ → (Status → Bool) → ℕ
entries_with bits ledger b passes =
    count_entries bits passes ledger.status b (capacity ledger.work.sizes.words (active_width (ledger.work.buffer b)))

-- the words of all offsets taken so far, offset 0 included; and the words of the entries that are free, dropped or
-- held
abbrev pub used_words : {H : Type 0} → ℕ → Ledger H → ℕ → ℕ
used_words bits ledger b = active_width (ledger.work.buffer b) * (1 + entries_with bits ledger b is_taken)

abbrev pub dead_words : {H : Type 0} → ℕ → Ledger H → ℕ → ℕ
dead_words bits ledger b = active_width (ledger.work.buffer b) * entries_with bits ledger b is_dead

-- an active buffer that is neither being filled nor sealed, and of whose used words more than a twentieth is dead
pub record IsCandidate {H : Type 0} (bits : ℕ) (ledger : Ledger H) (b : ℕ) : Type 0 where
  pub below : b < ledger.work.sizes.buffers
  pub active : 0 < active_width (ledger.work.buffer b)
  pub unfilled : is_filled ledger b ≡ false
  pub unsealed : ledger.sealed b ≡ false
  pub dead : used_words bits ledger b < dead_words bits ledger b * 20

-- the candidate with the most dead words, and the first among equals
pub record IsVictim {H : Type 0} (bits : ℕ) (ledger : Ledger H) (b : ℕ) : Type 0 where
  pub candidate : IsCandidate bits ledger b
  pub most : (a : ℕ) → IsCandidate bits ledger a
      → (dead_words bits ledger a < dead_words bits ledger b) ⊎ ((dead_words bits ledger a ≡ dead_words bits ledger b) × (b ≤ a))

pub record HasNoVictim {H : Type 0} (bits : ℕ) (ledger : Ledger H) : Type 0 where
  pub none : (b : ℕ) → ¬ IsCandidate bits ledger b
