-- How calls compose by the parts that they turn, and what stays beside these parts.
use Rattle.std.proofs.Common.{◌≡◌, ℕ, ◌+◌, ◌<◌, ◌≤◌, List, [], ◌∷◌, true, refl, ap, ◌∙◌, arith}
use Rattle.std.specs.Prelude.{◌↔◌}
use Rattle.std.specs.List.{AllByRecursion}
use Rattle.entry_ref.specs.Records.{Records, SameAt, Among}
use Rattle.store_api.specs.Statuses.{in_use}
use Rattle.store_api.specs.Ledgers.{Ledger}
use Rattle.store_api.specs.Parts.{Part, EachOnce, times, uses, count_in, AllStay, Owns, OwnsAll, Turns, After}
use Rattle.store_api.proofs.Times.{all_from_times, among-times, times-among}
use Rattle.store_api.proofs.Uses.{uses-in, in-uses, uses-few}

pub same_at : (m n : Records) (qs : List ℕ) → AllByRecursion (λ q. n q ≡ m q) qs → SameAt qs m n
same_at m n [] all = tt
same_at m n (q ∷ qs) all = (all.0, same_at m n qs all.1)

-- what is owned less often than it is used stays
pub reads-stay : {H : Type 0} (a b : Ledger H) (m n : Records) (p q : List Part) (reads : List ℕ) → Turns a b m n p q
    → ((r : ℕ) → 0 < times r reads → count_in r m p < uses a r) → SameAt reads m n
reads-stay a b m n p q reads turns beside = same_at m n reads (all_from_times (λ r. n r ≡ m r) reads (λ r some. turns.kept r (beside r some)))

pub count-stays : (ps : List Part) (m n : Records) (r : ℕ) → AllStay ps m n → count_in r n ps ≡ count_in r m ps
count-stays [] m n r stay = refl
count-stays (p ∷ ps) m n r stay = let here = ap (times r) (p.stays m n stay.0) in let rest = count-stays ps m n r stay.1 in omega arith

all-stay : {H : Type 0} (a b : Ledger H) (m n : Records) (p q rest : List Part) → Turns a b m n p q
    → ((r : ℕ) → count_in r m p + count_in r m rest ≤ uses a r) → AllStay rest m n
all-stay a b m n p q [] turns few = tt
all-stay a b m n p q (x ∷ rest) turns few = (
  reads-stay a b m n p q (x.reach m) turns (λ r some. let h = few r in omega arith),
  all-stay a b m n p q rest turns (λ r. let h = few r in omega arith),
)

-- a call on some of the parts that are owned: the rest stays
pub after : {H : Type 0} (a b : Ledger H) (m n : Records) (p q rest u v : List Part) → Owns a m u → Turns a b m n p q
    → ((k : Records) (r : ℕ) → count_in r k u ≡ count_in r k p + count_in r k rest)
    → ((k : Records) (r : ℕ) → count_in r k v ≡ count_in r k q + count_in r k rest)
    → After a b m n u v rest
after a b m n p q rest u v owns turns before behind =
    let stay = all-stay a b m n p q rest turns (λ r. let h = owns.each r in let e = before m r in omega arith) in
    record {
      owns = record { each = λ r. let h = owns.each r in let e = before m r in let f = behind n r in let g = count-stays rest m n r stay in let t = turns.balance r in omega arith };
      turns = record {
        kept = λ r h. let e = before m r in turns.kept r (omega arith);
        balance = λ r. let e = before m r in let f = behind n r in let g = count-stays rest m n r stay in let t = turns.balance r in omega arith;
      };
      stay = stay;
    }

pub turns-same : {H : Type 0} (a : Ledger H) (m : Records) (u : List Part) → Turns a a m m u u
turns-same a m u = record { kept = λ r h. refl; balance = λ r. refl }

pub turns-then : {H : Type 0} (a b c : Ledger H) (m n o : Records) (u v w : List Part) → Turns a b m n u v → Turns b c n o v w → Turns a c m o u w
turns-then a b c m n o u v w first second = record {
  kept = λ r h. let x = first.balance r in second.kept r (omega arith) ∙ first.kept r h;
  balance = λ r. let x = first.balance r in let y = second.balance r in omega arith;
}

-- the same parts by other lists
pub turns-as : {H : Type 0} (a b : Ledger H) (m n : Records) (p q u v : List Part) → Turns a b m n p q
    → ((r : ℕ) → count_in r m u ≡ count_in r m p) → ((r : ℕ) → count_in r n v ≡ count_in r n q) → Turns a b m n u v
turns-as a b m n p q u v turns before behind = record {
  kept = λ r h. let e = before r in turns.kept r (omega arith);
  balance = λ r. let t = turns.balance r in let e = before r in let f = behind r in omega arith;
}

pub owns-then : {H : Type 0} (a b : Ledger H) (m n : Records) (u v : List Part) → Owns a m u → Turns a b m n u v → Owns b n v
owns-then a b m n u v owns turns = record { each = λ r. let h = owns.each r in let t = turns.balance r in omega arith }

-- fewer parts, or the same in another order
pub owns-some : {H : Type 0} (a : Ledger H) (m : Records) (u v : List Part) → Owns a m u → ((r : ℕ) → count_in r m v ≤ count_in r m u) → Owns a m v
owns-some a m u v owns some = record { each = λ r. let h = owns.each r in let e = some r in omega arith }

pub all-then : {H : Type 0} (a b : Ledger H) (m n : Records) (u v : List Part) → OwnsAll a m u → Turns a b m n u v → OwnsAll b n v
all-then a b m n u v all turns = record { each = λ r. let h = all.each r in let t = turns.balance r in omega arith }

pub all-owns : {H : Type 0} (a : Ledger H) (m : Records) (u : List Part) → OwnsAll a m u → Owns a m u
all-owns a m u all = record { each = λ r. let h = all.each r in omega arith }

-- what is owned is owned once, and in use
pub owns-once : {H : Type 0} (a : Ledger H) (m : Records) (part : Part) → Owns a m (part ∷ []) → EachOnce (part.reach m)
owns-once a m part owns r = let x = owns.each r in let y = uses-few a r in omega arith

pub owns-used : {H : Type 0} (a : Ledger H) (m : Records) (part : Part) (parts : List Part) → Owns a m parts
    → ((r : ℕ) → times r (part.reach m) ≤ count_in r m parts) → AllByRecursion (λ r. in_use (a.status r) ≡ true) (part.reach m)
owns-used a m part parts owns among =
    all_from_times (λ r. in_use (a.status r) ≡ true) (part.reach m) (λ r some. let x = owns.each r in let y = among r in in-uses a r (omega arith))

-- one part that is all that is in use reaches exactly that
pub all-exact : {H : Type 0} (a : Ledger H) (m : Records) (part : Part) → OwnsAll a m (part ∷ [])
    → (r : ℕ) → Among r (part.reach m) ↔ (in_use (a.status r) ≡ true)
all-exact a m part all r = (
  λ h. let some = among-times r (part.reach m) h in let e = all.each r in in-uses a r (omega arith),
  λ used. let is = uses-in a r used in let e = all.each r in times-among r (part.reach m) (omega arith),
)
