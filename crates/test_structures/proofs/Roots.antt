-- One record in use: made, replaced, committed.
use Rattle.std.proofs.Common.{◌≡◌, ◌⊎◌, ℕ, zero, suc, ◌+◌, ◌<◌, List, [], ◌∷◌, length, Bool, true, false, Option, Some, None, refl, sym, ap, subst, ◌∙◌, arith, inl, inr, ne_eqb, true≢false}
use Rattle.std.specs.Prelude.{◌↔◌}
use Rattle.std.proofs.Math.Nat.{pos_of_div-pos}
use Rattle.entry_ref.specs.References.{buffer_of, buffer_limit}
use Rattle.entry_ref.specs.Images.{image_of}
use Rattle.entry_ref.specs.Records.{Records, Among}
use Rattle.arena_api.specs.Works.{active_width}
use Rattle.arena_api.specs.Calls.{FitsEntry}
use Rattle.mem_work.specs.OneRecord.{one_reaches, IsOneRecord}
use Rattle.store_api.specs.Statuses.{Status, in_use, has_record}
use Rattle.store_api.specs.Ledgers.{Ledger, IsNew, is_this}
use Rattle.store_api.specs.Calls.{IsWhole, StoresCommit}
use Rattle.store_api.specs.declared.store.Stored.{Stored}
use Rattle.store_api.specs.Parts.{Part, Owns, OwnsAll, Turns, entry, times}
use Rattle.store_api.proofs.Times.{times-same}
use Rattle.store_api.proofs.Uses.{uses-out, uses-same, in-uses, used_has}
use Rattle.store_api.proofs.CommitLemmas.{whole-from, commit-owns}

pub none-new : {H : Type 0} (a : Ledger H) (m : Records) → IsNew a → OwnsAll a m []
none-new a m new = record { each = λ r. sym (uses-out a r (ap in_use (new.status r))) }

pub begun-all : {H : Type 0} (a b : Ledger H) (m n : Records) (parts : List Part) → b ≡ record a { unit = true } → n ≡ m → OwnsAll a m parts → OwnsAll b n parts
begun-all a b m n parts begins records all =
    subst (λ l. OwnsAll l n parts) (sym begins) (subst (λ (x : Records). OwnsAll (record a { unit = true }) x parts) (sym records) (record { each = all.each }))

pub quiet-none : {H : Type 0} (a b : Ledger H) (m n : Records) → b.status ≡ a.status → OwnsAll a m [] → OwnsAll b n []
quiet-none a b m n same all = record { each = λ r. all.each r ∙ sym (uses-same a b r (ap (λ (f : ℕ → Status). in_use (f r)) same)) }

module _ {H : Type 0} (a b c : Ledger H) (m n o : Records) (root q : ℕ) where
  pub more-all : OwnsAll a m (entry root ∷ []) → Turns a b m n [] (entry q ∷ []) → OwnsAll b n (entry q ∷ entry root ∷ [])
  more-all all turns = record { each = λ r. let h = all.each r in let t = turns.balance r in omega arith }

  pub rest-owns : OwnsAll b n (entry q ∷ entry root ∷ []) → Owns b n (entry root ∷ [])
  rest-owns all = record { each = λ r. let h = all.each r in omega arith }

  pub less-all : OwnsAll b n (entry q ∷ entry root ∷ []) → Turns b c n o (entry root ∷ []) [] → OwnsAll c o (entry q ∷ [])
  less-all all turns = record { each = λ r. let h = all.each r in let t = turns.balance r in omega arith }

pub same-all : {H : Type 0} (a b : Ledger H) (m n : Records) (q : ℕ) → OwnsAll a m (entry q ∷ []) → Turns a b m n [] [] → OwnsAll b n (entry q ∷ [])
same-all a b m n q all turns = record { each = λ r. let h = all.each r in let t = turns.balance r in omega arith }

reaches-one : (shape : ℕ) (m : Records) (r : ℕ) → 0 < r → one_reaches shape m r ≡ r ∷ []
reaches-one shape m zero some = absurd (omega arith)
reaches-one shape m (suc r) some = refl

pub one-there : (shape : ℕ) (m : Records) (r : ℕ) → 0 < length (m r) → IsOneRecord shape m r
one-there shape m zero there = tt
one-there shape m (suc r) there = there

module _ {H : Type 0} (bits shape : ℕ) (a : Ledger H) (m : Records) (root : ℕ) (all : OwnsAll a m (entry root ∷ []))
    (recorded : (has_record (a.status root) ≡ true) ↔ (0 < length (m root)))
    (placed : 0 < length (m root) → FitsEntry bits a.work.sizes (active_width (a.work.buffer (buffer_of bits root))) root (length (m root))) where
  used : in_use (a.status root) ≡ true
  used = in-uses a root (let h = all.each root in let t = times-same root root [] refl in omega arith)

  pub there : 0 < length (m root)
  there = recorded.0 (used_has (a.status root) used)

  reach : one_reaches shape m root ≡ root ∷ []
  reach = reaches-one shape m root (pos_of_div-pos (buffer_limit bits) (placed there).entry.first)

  module _ (apart : is_this a.finished (buffer_of bits root) ≡ false) where
    among-apart : (r : ℕ) → Among r (root ∷ []) → is_this a.finished (buffer_of bits r) ≡ false
    among-apart r (inl e) = subst (λ x. is_this a.finished (buffer_of bits x) ≡ false) (sym e) apart
    among-apart r (inr none) = absurd none

    whole-one : IsWhole bits a (root ∷ [])
    whole-one = whole-from bits a m (entry root) [] all (λ r h. absurd (omega arith)) among-apart

    pub whole : IsWhole bits a (one_reaches shape m root)
    whole = subst (IsWhole bits a) (sym reach) whole-one

    pub committed : (b : Ledger H) (n : Records) (answer : Stored) → StoresCommit bits a b (image_of (one_reaches shape m root) m root) answer → OwnsAll b n (entry root ∷ [])
    committed b n answer stores =
        let after = commit-owns bits a b m (entry root) [] root answer all whole-one (there, tt)
        (subst (λ refs. StoresCommit bits a b (image_of refs m root) answer) reach stores) in
        record { each = after.each }
