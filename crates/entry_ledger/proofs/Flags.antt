-- The flags of the filled buffers, where one buffer is another.
use Rattle.std.proofs.Common.{◌≡◌, ℕ, ◌<◌, List, length, set, Option, sym, ap, subst, ◌∙◌, inl, inr, get_or-set_other, get_or-set_same}
use Rattle.std.proofs.lemmas.Bool.{cases_eq}
use Rattle.store_api.specs.Ledgers.{is_this}
use Rattle.buffer_states.specs.declared.Buffer.{Buffer}
use Rattle.buffer_states.specs.Buffers.{new_buffer, buffer_at}
use Rattle.entry_ledger.specs.Shelves.{filled_at}
use Rattle.entry_ledger.specs.Entries.{Mark}
use Rattle.entry_ledger.specs.Ledgers.{mark_of, IsFlagged}

-- a buffer with the same mark and the same flag
pub flag-same : (filled : List (Option ℕ)) (b : ℕ) (old new : Buffer) → mark_of new ≡ mark_of old → new.filled ≡ old.filled → IsFlagged filled b old → IsFlagged filled b new
flag-same filled b old new marked flag k = flag ∙ k ∙ ap (λ w. is_this (filled_at filled w) b) (sym (ap (λ (m : Mark). m.width) marked))

pub flags-set : (filled : List (Option ℕ)) (buffers : List Buffer) (b : ℕ) (new : Buffer) → b < length buffers → ((a : ℕ) → IsFlagged filled a (buffer_at buffers a))
    → IsFlagged filled b new → (a : ℕ) → IsFlagged filled a (buffer_at (set buffers b new) a)
flags-set filled buffers b new h k flag a = elim (cases_eq a b) [
  | inl e ↦ subst (λ n. IsFlagged filled n (buffer_at (set buffers b new) n)) (sym e) (subst (IsFlagged filled b) (sym (get_or-set_same buffers b new new_buffer h)) flag)
  | inr ne ↦ subst (IsFlagged filled a) (sym (get_or-set_other buffers b a new new_buffer ne)) (k a)
]
