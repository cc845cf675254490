-- Proofs of the laws of `Layout`. They are in specs/ since an implementation can cite laws only from there; they are
-- not part of the specification.
use Rattle.std.specs.Prelude.{◌≡◌, ℕ, zero, suc, ◌<◌, length}
use Rattle.std.proofs.Common.{refl, sym, subst}
use Rattle.entry_ref.specs.Records.{Records, SameAt, AllThere}
use Rattle.mem_work.specs.OneRecord.{one_reaches, IsOneRecord}

pub one_present : (shape : ℕ) (m : Records) (root : ℕ) → IsOneRecord shape m root → AllThere (one_reaches shape m root) m
one_present shape m zero lawful = tt
one_present shape m (suc r) lawful = (lawful, tt)

pub one_stays : (shape : ℕ) (m n : Records) (root : ℕ) → SameAt (one_reaches shape m root) m n → IsOneRecord shape m root
    → IsOneRecord shape n root × (one_reaches shape n root ≡ one_reaches shape m root)
one_stays shape m n zero same lawful = (tt, refl)
one_stays shape m n (suc r) same lawful = (subst (λ ws. 0 < length ws) (sym same.0) lawful, refl)
