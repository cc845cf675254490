-- Entries dropped one after another.
use Rattle.std.proofs.Common.{◌≡◌, ◌≢◌, ℕ, ◌+◌, ◌<◌, List, [], ◌∷◌, ◌++◌, length, take, get_or, true, cond, true≢false, refl, sym, ap, ◌∙◌, arith}
use Rattle.entry_ref.specs.Records.{Records}
use Rattle.store_api.specs.Statuses.{Status, has_record, is_free_status, in_use}
use Rattle.store_api.specs.Ledgers.{Ledger}
use Rattle.store_api.specs.Units.{MayDo}
use Rattle.store_api.specs.Calls.{DropsEntry}
use Rattle.store_api.specs.Parts.{times, entries, Owns}
use Rattle.store_api.proofs.Counts.{at_most-none, at_most-then}
use Rattle.store_api.proofs.May.{may_do-same, may_do-then}
use Rattle.store_api.proofs.Times.{times-same, times-append, times-take, times-take-le}
use Rattle.store_api.proofs.UnitLemmas.{drops-turns, drops-counts}
use Rattle.store_api.proofs.Uses.{in-uses, with_status-other}
use Rattle.frozen_btree.specs.Changes.{DropsEntries}

-- a free entry has no record anyway
without-same : (status : Status) (ws : List ℕ) → (0 < length ws → has_record status ≡ true) → cond (is_free_status status) [] ws ≡ ws
without-same Status.unmade ws some = refl
without-same Status.free [] some = refl
without-same Status.free (w ∷ ws) some = absurd (true≢false (sym (some (omega arith))))
without-same Status.pending ws some = refl
without-same Status.live ws some = refl
without-same Status.dropped ws some = refl
without-same Status.let_go ws some = refl
without-same (Status.held tag) ws some = refl
without-same Status.left ws some = refl

pub drops-none : {H : Type 0} (ledger : Ledger H) (m : Records) → DropsEntries ledger ledger m m []
drops-none ledger m = record {
  turns = record { kept = λ r h. refl; balance = λ r. refl };
  records = λ r none. refl;
  none_made = λ c width. at_most-none c _;
  may = may_do-same ledger;
}

-- one more
module _ {H : Type 0} (old ledger new : Ledger H) (m n o : Records) (refs : List ℕ) (q : ℕ)
    (before : DropsEntries old ledger m n refs) (used : in_use (ledger.status q) ≡ true)
    (recorded : (r : ℕ) → 0 < length (n r) → has_record (ledger.status r) ≡ true)
    (drops : DropsEntry ledger new n o q) (may : MayDo ledger new) where
  record_other : (r : ℕ) → r ≢ q → o r ≡ n r
  record_other r ne =
      ap (λ (f : Records). f r) drops.records
      ∙ without-same (new.status r) (n r) (λ some. ap has_record (ap (λ (f : ℕ → Status). f r) drops.status ∙ with_status-other ledger.status q r _ ne) ∙ recorded r some)

  apart_from : (r : ℕ) → times r (refs ++ q ∷ []) ≡ 0 → r ≢ q
  apart_from r none e = let both = times-append r refs (q ∷ []) in let here = times-same r q [] e in absurd (omega arith)

  pub drops-more : DropsEntries old new m o (refs ++ q ∷ [])
  drops-more =
      let last = drops-turns ledger new n o q used drops in
      record {
        turns = record {
          kept = λ r h. let both = times-append r refs (q ∷ []) in let even = before.turns.balance r in last.kept r (omega arith) ∙ before.turns.kept r (omega arith);
          balance = λ r. let both = times-append r refs (q ∷ []) in let even = before.turns.balance r in let more = last.balance r in omega arith;
        };
        records = λ r none. let both = times-append r refs (q ∷ []) in record_other r (apart_from r none) ∙ before.records r (omega arith);
        none_made = λ c width. at_most-then c 0 0 _ _ _ (before.none_made c width) (drops-counts ledger new n o q used drops c width);
        may = may_do-then old ledger new before.may may;
      }

-- the next of a list that is owned is in use still
pub next_used : {H : Type 0} (old ledger : Ledger H) (m n : Records) (refs : List ℕ) (i q : ℕ) → Owns old m (entries refs ∷ [])
    → i < length refs → q ≡ get_or refs i 0 → DropsEntries old ledger m n (take i refs) → in_use (ledger.status q) ≡ true
next_used old ledger m n refs i q owns below at before =
    in-uses ledger q
    (let more = times-take q refs i below in
    let few = times-take-le q refs (i + 1) in
    let one = times-same q (get_or refs i 0) [] at in
    let all = owns.each q in
    let even = before.turns.balance q in
    omega arith)
