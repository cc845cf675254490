-- Records beside the parts that a call turns, and records that are the same.
use Rattle.std.proofs.Common.{◌≡◌, ℕ, ◌<◌, List, [], ◌∷◌, arith}
use Rattle.entry_ref.specs.Records.{Records, SameAt}
use Rattle.store_api.specs.Ledgers.{Ledger}
use Rattle.store_api.specs.Parts.{Part, Turns, times}
use Rattle.store_api.proofs.PartLemmas.{reads-stay, same_at}
use Rattle.store_api.proofs.Times.{all_at_times, all_from_times, times-among}
use Rattle.store_api.proofs.Uses.{uses-few}
use Rattle.attr_field.specs.DocumentsChanges.{AreBeside}

module _ {H : Type 0} (a b : Ledger H) (m n : Records) (p q : List Part) (refs : List ℕ) (turns : Turns a b m n p q) (beside : AreBeside a m p refs) where
  pub beside-same : SameAt refs m n
  beside-same = reads-stay a b m n p q refs turns (λ r some. beside.each r (times-among r refs some))

  pub beside-on : AreBeside b n q refs
  beside-on = record { each = λ r among. let t = turns.balance r in let e = beside.each r among in let f = uses-few a r in let g = uses-few b r in omega arith }

  pub beside-stays : SameAt refs m n × AreBeside b n q refs
  beside-stays = (beside-same, beside-on)

all_same : (m n : Records) (refs : List ℕ) → SameAt refs m n → Rattle.std.specs.List.AllByRecursion (λ r. n r ≡ m r) refs
all_same m n [] same = tt
all_same m n (r ∷ refs) same = (same.0, all_same m n refs same.1)

-- fewer of them
pub same-some : (m n : Records) (refs some : List ℕ) → SameAt refs m n → ((r : ℕ) → 0 < times r some → 0 < times r refs) → SameAt some m n
same-some m n refs some same among =
    same_at m n some (all_from_times (λ r. n r ≡ m r) some (λ r more. all_at_times (λ r. n r ≡ m r) refs (all_same m n refs same) r (among r more)))
