-- How much of a store is in use: its buffers, and the words of the active ones.
use Rattle.std.specs.Prelude.{◌≡◌, ℕ, zero, suc, ◌+◌, ◌*◌}
use Rattle.arena_api.specs.Works.{active_width}
use Rattle.store_api.specs.Statuses.{is_held_status}
use Rattle.store_api.specs.Ledgers.{Ledger, active_count, held_count}
use Rattle.store_api.specs.Victims.{entries_with, used_words, dead_words}
use Rattle.store_api.specs.declared.store.Usage.{Usage}

-- what the first n buffers have together
abbrev pub over_buffers : (ℕ → ℕ) → ℕ → ℕ
over_buffers words zero = 0
over_buffers words (suc n) = over_buffers words n + words n

-- the words of a buffer's held entries
abbrev pub held_words : {H : Type 0} → ℕ → Ledger H → ℕ → ℕ
held_words bits ledger b = active_width (ledger.work.buffer b) * entries_with bits ledger b is_held_status

-- a buffer that is not active has no words
pub record IsUsage {H : Type 0} (bits : ℕ) (ledger : Ledger H) (usage : Usage) : Type 0 where
  pub active : usage.active ≡ active_count ledger.work.buffer ledger.work.sizes.buffers
  pub on_hold : usage.on_hold ≡ held_count ledger.work.buffer ledger.work.sizes.buffers
  pub used : usage.used ≡ over_buffers (used_words bits ledger) ledger.work.sizes.buffers
  pub dead : usage.dead ≡ over_buffers (dead_words bits ledger) ledger.work.sizes.buffers
  pub held : usage.held ≡ over_buffers (held_words bits ledger) ledger.work.sizes.buffers
