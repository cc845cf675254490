-- Statuses by cases: which are in use, and what the calls make of them.
use Rattle.std.proofs.Common.{◌≡◌, ◌≢◌, ℕ, ◌<◌, ◌≤◌, Bool, true, false, cond, refl, sym, ap, ◌∙◌, arith, inl, inr, nat_lt, ne_eqb, true≢false}
use Rattle.std.proofs.lemmas.Bool.{cases_Bool, eq-eqb}
use Rattle.list_lemmas.specs.Counting.{one_if}
use Rattle.arena_api.specs.Works.{Tag}
use Rattle.store_api.specs.Statuses.{Status, in_use, has_record, is_open, is_taken, is_let_go, is_free_status, can_become_free, after_drop, after_accept, after_commit, free_below, with_status}
use Rattle.store_api.specs.Ledgers.{Ledger}
use Rattle.store_api.specs.Units.{IsSameBack}
use Rattle.store_api.specs.Parts.{uses}

pub uses-in : {H : Type 0} (ledger : Ledger H) (r : ℕ) → in_use (ledger.status r) ≡ true → uses ledger r ≡ 1
uses-in ledger r e = ap one_if e

pub uses-out : {H : Type 0} (ledger : Ledger H) (r : ℕ) → in_use (ledger.status r) ≡ false → uses ledger r ≡ 0
uses-out ledger r e = ap one_if e

pub in-uses : {H : Type 0} (ledger : Ledger H) (r : ℕ) → 0 < uses ledger r → in_use (ledger.status r) ≡ true
in-uses ledger r some = elim (cases_Bool (in_use (ledger.status r))) [
  | inl e ↦ e
  | inr e ↦ (let none = uses-out ledger r e in absurd (omega arith))
]

pub uses-few : {H : Type 0} (ledger : Ledger H) (r : ℕ) → uses ledger r ≤ 1
uses-few ledger r = elim (cases_Bool (in_use (ledger.status r))) [
  | inl e ↦ (let is = uses-in ledger r e in omega arith)
  | inr e ↦ (let is = uses-out ledger r e in omega arith)
]

-- two entries of equal use
pub uses-same : {H : Type 0} (old new : Ledger H) (r : ℕ) → in_use (new.status r) ≡ in_use (old.status r) → uses new r ≡ uses old r
uses-same old new r e = ap one_if e

pub open_unused : (status : Status) → is_open status ≡ true → in_use status ≡ false
open_unused Status.unmade e = refl
open_unused Status.free e = refl
open_unused Status.pending e = absurd (true≢false (sym e))
open_unused Status.live e = absurd (true≢false (sym e))
open_unused Status.dropped e = absurd (true≢false (sym e))
open_unused Status.let_go e = absurd (true≢false (sym e))
open_unused (Status.held tag) e = absurd (true≢false (sym e))
open_unused Status.left e = absurd (true≢false (sym e))

pub open_no_record : (status : Status) → is_open status ≡ true → has_record status ≡ false
open_no_record Status.unmade e = refl
open_no_record Status.free e = refl
open_no_record Status.pending e = absurd (true≢false (sym e))
open_no_record Status.live e = absurd (true≢false (sym e))
open_no_record Status.dropped e = absurd (true≢false (sym e))
open_no_record Status.let_go e = absurd (true≢false (sym e))
open_no_record (Status.held tag) e = absurd (true≢false (sym e))
open_no_record Status.left e = absurd (true≢false (sym e))

pub used_has : (status : Status) → in_use status ≡ true → has_record status ≡ true
used_has Status.unmade h = absurd (true≢false (sym h))
used_has Status.free h = absurd (true≢false (sym h))
used_has Status.pending h = refl
used_has Status.live h = refl
used_has Status.dropped h = refl
used_has Status.let_go h = refl
used_has (Status.held tag) h = absurd (true≢false (sym h))
used_has Status.left h = absurd (true≢false (sym h))

pub used_taken : (status : Status) → in_use status ≡ true → is_taken status ≡ true
used_taken Status.unmade h = absurd (true≢false (sym h))
used_taken Status.free h = refl
used_taken Status.pending h = refl
used_taken Status.live h = refl
used_taken Status.dropped h = refl
used_taken Status.let_go h = refl
used_taken (Status.held tag) h = refl
used_taken Status.left h = refl

-- what is in use is not let go, and not free
pub used_stays : (status : Status) → in_use status ≡ true → is_let_go status ≡ false
used_stays Status.unmade h = refl
used_stays Status.free h = refl
used_stays Status.pending h = refl
used_stays Status.live h = refl
used_stays Status.dropped h = refl
used_stays Status.let_go h = absurd (true≢false (sym h))
used_stays (Status.held tag) h = refl
used_stays Status.left h = refl

pub used_not_free : (status : Status) → in_use status ≡ true → is_free_status status ≡ false
used_not_free Status.unmade h = refl
used_not_free Status.free h = absurd (true≢false (sym h))
used_not_free Status.pending h = refl
used_not_free Status.live h = refl
used_not_free Status.dropped h = refl
used_not_free Status.let_go h = refl
used_not_free (Status.held tag) h = refl
used_not_free Status.left h = refl

pub accept_uses : (status : Status) → in_use (after_accept status) ≡ in_use status
accept_uses Status.unmade = refl
accept_uses Status.free = refl
accept_uses Status.pending = refl
accept_uses Status.live = refl
accept_uses Status.dropped = refl
accept_uses Status.let_go = refl
accept_uses (Status.held tag) = refl
accept_uses Status.left = refl

by_has : (has : Bool) → in_use (cond has Status.live Status.left) ≡ has
by_has true = refl
by_has false = refl

-- in use after a commit is what was, as far as the commit has it
pub commit_uses : (tag : Tag) (has : Bool) (status : Status) → in_use status ≡ true → in_use (after_commit tag has status) ≡ has
commit_uses tag has Status.unmade h = absurd (true≢false (sym h))
commit_uses tag has Status.free h = absurd (true≢false (sym h))
commit_uses tag has Status.pending h = by_has has
commit_uses tag has Status.live h = by_has has
commit_uses tag has Status.dropped h = absurd (true≢false (sym h))
commit_uses tag has Status.let_go h = absurd (true≢false (sym h))
commit_uses tag has (Status.held t) h = absurd (true≢false (sym h))
commit_uses tag has Status.left h = absurd (true≢false (sym h))

pub commit_unused : (tag : Tag) (has : Bool) (status : Status) → in_use status ≡ false → in_use (after_commit tag has status) ≡ false
commit_unused tag has Status.unmade h = refl
commit_unused tag has Status.free h = refl
commit_unused tag has Status.pending h = absurd (true≢false h)
commit_unused tag has Status.live h = absurd (true≢false h)
commit_unused tag has Status.dropped h = refl
commit_unused tag has Status.let_go h = refl
commit_unused tag has (Status.held t) h = refl
commit_unused tag has Status.left h = refl

-- a reclaim takes nothing out of use, and brings nothing into use
free_or_held : (test : Bool) (tag : Tag) → in_use (cond test Status.free (Status.held tag)) ≡ false
free_or_held true tag = refl
free_or_held false tag = refl

pub below_uses : (generation : ℕ) (status : Status) → in_use (free_below generation status) ≡ in_use status
below_uses generation Status.unmade = refl
below_uses generation Status.free = refl
below_uses generation Status.pending = refl
below_uses generation Status.live = refl
below_uses generation Status.dropped = refl
below_uses generation Status.let_go = refl
below_uses generation (Status.held tag) = free_or_held (nat_lt tag.generation generation) tag
below_uses generation Status.left = refl

-- an entry in use that is dropped is not in use
pub drop_ends : (status back : Status) → in_use status ≡ true → in_use (after_drop status back) ≡ false
drop_ends Status.unmade back used = absurd (true≢false (sym used))
drop_ends Status.free back used = absurd (true≢false (sym used))
drop_ends Status.pending Status.unmade used = refl
drop_ends Status.pending Status.free used = refl
drop_ends Status.pending Status.pending used = refl
drop_ends Status.pending Status.live used = refl
drop_ends Status.pending Status.dropped used = refl
drop_ends Status.pending Status.let_go used = refl
drop_ends Status.pending (Status.held tag) used = refl
drop_ends Status.pending Status.left used = refl
drop_ends Status.live back used = refl
drop_ends Status.dropped back used = absurd (true≢false (sym used))
drop_ends Status.let_go back used = absurd (true≢false (sym used))
drop_ends (Status.held tag) back used = absurd (true≢false (sym used))
drop_ends Status.left back used = absurd (true≢false (sym used))

-- what is free later is not in use
pub later_unused : (status : Status) → can_become_free status ≡ true → in_use status ≡ false
later_unused Status.unmade h = refl
later_unused Status.free h = refl
later_unused Status.pending h = absurd (true≢false (sym h))
later_unused Status.live h = absurd (true≢false (sym h))
later_unused Status.dropped h = refl
later_unused Status.let_go h = refl
later_unused (Status.held tag) h = refl
later_unused Status.left h = refl

pub back_uses : (old new : Status) → IsSameBack old new → in_use new ≡ in_use old
back_uses old new (inl e) = ap in_use e
back_uses old new (inr e) = ap in_use e.1 ∙ sym (later_unused old e.0)

pub with_status-same : (statuses : ℕ → Status) (r q : ℕ) (new : Status) → q ≡ r → with_status statuses r new q ≡ new
with_status-same statuses r q new e = ap (λ b. cond b new (statuses q)) (eq-eqb q r e)

pub with_status-other : (statuses : ℕ → Status) (r q : ℕ) (new : Status) → q ≢ r → with_status statuses r new q ≡ statuses q
with_status-other statuses r q new ne = ap (λ b. cond b new (statuses q)) (ne_eqb q r ne)
