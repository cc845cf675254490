-- What a unit that has just begun leaves of a sealed buffer.
use Rattle.std.proofs.Common.{◌≡◌, ℕ, Bool, true, sym, ap, ◌∙◌}
use Rattle.entry_ref.specs.References.{buffer_of}
use Rattle.entry_ref.specs.Records.{Records}
use Rattle.store_api.specs.Ledgers.{Ledger}
use Rattle.store_api.specs.Statuses.{in_use}
use Rattle.store_api.specs.Units.{MayDo}
use Rattle.store_api.proofs.Flows.{began-then}
use Rattle.compaction_moves.specs.IndexTurns.{LeavesBuffer}

pub leaves_buffer : {H : Type 0} (bits victim : ℕ) (old new : Ledger H) (m n : Records) → new.bits ≡ bits → old.sealed victim ≡ true
    → ((r : ℕ) → in_use (old.status r) ≡ true → in_use (old.back r) ≡ true) → MayDo old new
    → ((r : ℕ) → in_use (old.back r) ≡ true → m r ≡ old.back_records r) → ((r : ℕ) → in_use (new.back r) ≡ true → n r ≡ new.back_records r)
    → LeavesBuffer bits victim old new m n
leaves_buffer bits victim old new m n sized sealed begun may before after = record {
  unmade = λ r lies used. may.unsealed r used
      (ap (λ (s : ℕ → Bool). s (buffer_of new.bits r)) may.sealed ∙ ap (λ b. old.sealed (buffer_of b r)) sized ∙ ap old.sealed lies ∙ sealed);
  words = λ r was used. after r (began-then old new may r (begun r was)) ∙ ap (λ (f : Records). f r) may.back_records ∙ sym (before r (begun r was));
}
