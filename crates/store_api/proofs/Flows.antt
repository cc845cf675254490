-- What was in use when a unit began, through its calls: of what a call makes of parts, that was of these parts.
use Rattle.std.proofs.Common.{◌≡◌, ℕ, zero, suc, ◌<◌, List, [], ◌∷◌, true, true≢false, ⊎_elim, refl, sym, ◌∙◌, arith}
use Rattle.entry_ref.specs.Records.{Records, Among}
use Rattle.store_api.specs.Ledgers.{Ledger}
use Rattle.store_api.specs.Parts.{Part, Turns, count_in, uses}
use Rattle.store_api.specs.Statuses.{in_use}
use Rattle.store_api.specs.Units.{MayDo}
use Rattle.store_api.proofs.Times.{among-times, times-among}
use Rattle.store_api.proofs.Uses.{back_uses, in-uses, open_unused, uses-few, uses-in}
use Rattle.store_api.specs.Flows.{ComesFrom}

-- what was in use when the unit began was so throughout the unit
pub began-then : {H : Type 0} (a b : Ledger H) → MayDo a b → (r : ℕ) → in_use (a.back r) ≡ true → in_use (b.back r) ≡ true
began-then a b may r began = back_uses (a.back r) (b.back r) (may.back r) ∙ began

-- what a call's parts have of what was in use when the unit began, the parts that they stand for had
pub flow_from_turns : {H : Type 0} (a b : Ledger H) (m n : Records) (ps qs : List Part) → MayDo a b → Turns a b m n ps qs
    → (r : ℕ) → in_use (a.back r) ≡ true → 0 < count_in r n qs → 0 < count_in r m ps
flow_from_turns a b m n ps qs may turns r began some = by (count_in r m ps) refl
  where
    by : (k : ℕ) → count_in r m ps ≡ k → 0 < count_in r m ps
    by zero none =
        let balance = turns.balance r in
        let few = uses-few b r in
        let now : in_use (b.status r) ≡ true = in-uses b r (omega arith) in
        ⊎_elim (λ was. let one = uses-in a r was in absurd (omega arith))
        (λ opened. absurd (true≢false (sym (began-then a b may r began) ∙ open_unused (b.back r) opened))) (may.newly r now)
    by (suc k) is = omega arith

-- one part in place of another
pub flow_part : {H : Type 0} (a b : Ledger H) (m n : Records) (p q : Part) → MayDo a b → Turns a b m n (p ∷ []) (q ∷ [])
    → ComesFrom a (q.reach n) (p.reach m)
flow_part a b m n p q may turns r began among =
    let here = among-times r (q.reach n) among in
    let some = flow_from_turns a b m n (p ∷ []) (q ∷ []) may turns r began (omega arith) in
    times-among r (p.reach m) (omega arith)

-- a part that was made has nothing of it
pub flow_made : {H : Type 0} (a b : Ledger H) (m n : Records) (q : Part) → MayDo a b → Turns a b m n [] (q ∷ []) → ComesFrom a (q.reach n) []
flow_made a b m n q may turns r began among =
    let here = among-times r (q.reach n) among in
    let some = flow_from_turns a b m n [] (q ∷ []) may turns r began (omega arith) in
    absurd (omega arith)

-- a part that was made was not in use
pub made_fresh : {H : Type 0} (a b : Ledger H) (m n : Records) (q : Part) → Turns a b m n [] (q ∷ []) → (r : ℕ) → Among r (q.reach n) → uses a r ≡ 0
made_fresh a b m n q turns r among =
    let here = among-times r (q.reach n) among in
    let balance = turns.balance r in
    let few = uses-few b r in
    omega arith

-- one call after another
pub comes-then : {H : Type 0} (a b : Ledger H) (first next last : List ℕ) → MayDo a b → ComesFrom a next first → ComesFrom b last next
    → ComesFrom a last first
comes-then a b first next last may one two r began among = one r began (two r (began-then a b may r began) among)
