-- An entry that a commit left out: which calls leave it as it is.
use Rattle.std.proofs.Common.{◌≡◌, ℕ, Bool, true, false, cond, eqb, ltb, Option, Some, None, refl, sym, ap, subst, ◌∙◌, option_map}
use Rattle.std.proofs.lemmas.Bool.{false≢true}
use Rattle.entry_ledger.specs.declared.state.State.{State}
use Rattle.entry_ledger.specs.declared.state.State.TheVariants.{Free, Returned, Made, InUse, LetGo, DroppedNow, Dropped}
use Rattle.entry_ledger.specs.States.{is_used, dropped}
use Rattle.arena_api.specs.Works.{Tag}
use Rattle.store_api.specs.Statuses.{Status, in_use, after_accept, after_commit, free_below}
use Rattle.entry_store.specs.Standing.{status_by, status_of, tag_at}

-- what a unit makes or drops was not left out, and does not become it
pub pending-left : (t : Bool) (c : Status) → cond t Status.pending c ≡ Status.left → c ≡ Status.left
pending-left true c e = absurd (cc)
pending-left false c e = e

drop-use : (t : Bool) (has : Bool) (last after : ℕ) → status_by has last (cond t LetGo (DroppedNow after)) ≡ Status.left → ⊥
drop-use true has last after e = (cc)
drop-use false has last after e = (cc)

pub dropped-left : (has : Bool) (last : ℕ) (s : State) → is_used s ≡ true → status_by has last (dropped last s) ≡ Status.left → ⊥
dropped-left has last Free used e = false≢true used
dropped-left has last Returned used e = false≢true used
dropped-left has last Made used e = (cc)
dropped-left has last (InUse after) used e = drop-use (eqb after last) has last after e
dropped-left has last LetGo used e = false≢true used
dropped-left has last (DroppedNow after) used e = false≢true used
dropped-left has last (Dropped after g) used e = false≢true used

pub accept-left : (c : Status) → after_accept c ≡ Status.left → c ≡ Status.left
accept-left Status.unmade e = e
accept-left Status.free e = e
accept-left Status.pending e = e
accept-left Status.live e = e
accept-left Status.dropped e = e
accept-left Status.let_go e = absurd (cc)
accept-left (Status.held tag) e = e
accept-left Status.left e = e

below-held : (t : Bool) (tag : Tag) → cond t Status.free (Status.held tag) ≡ Status.left → ⊥
below-held true tag e = (cc)
below-held false tag e = (cc)

pub below-left : (generation : ℕ) (c : Status) → free_below generation c ≡ Status.left → c ≡ Status.left
below-left generation Status.unmade e = e
below-left generation Status.free e = e
below-left generation Status.pending e = e
below-left generation Status.live e = e
below-left generation Status.dropped e = e
below-left generation Status.let_go e = e
below-left generation (Status.held tag) e = absurd (below-held (ltb tag.generation generation) tag e)
below-left generation Status.left e = e

-- a commit leaves out what it does not have
pub commit-left : {P : Type 0} (tag : Tag) (has : Bool) (c : Status) → after_commit tag has c ≡ Status.left → (c ≡ Status.left → P) → (in_use c ≡ true → has ≡ false → P) → P
commit-left tag has Status.unmade e was now = absurd (cc)
commit-left tag has Status.free e was now = absurd (cc)
commit-left tag true Status.pending e was now = absurd (cc)
commit-left tag false Status.pending e was now = now refl refl
commit-left tag true Status.live e was now = absurd (cc)
commit-left tag false Status.live e was now = now refl refl
commit-left tag has Status.dropped e was now = absurd (cc)
commit-left tag has Status.let_go e was now = absurd (cc)
commit-left tag has (Status.held t) e was now = absurd (cc)
commit-left tag has Status.left e was now = was refl
