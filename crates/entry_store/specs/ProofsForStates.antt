-- Lemmas that the proofs of the laws of `Store` cite. They are proofs, not part of the specification.
-- How statuses change when the states of entries change.
use Rattle.std.proofs.Common.{◌≡◌, ◌⊎◌, ℕ, ◌≤◌, ◌+◌, Bool, true, false, cond, eqb, ltb, Option, Some, None, refl, sym, ap, subst, ◌∙◌}
use Rattle.std.proofs.Common.{arith, inl, inr, not, option_map}
use Rattle.std.specs.Prelude.{◌||◌}
use Rattle.std.proofs.lemmas.Bool.{true≢false, false≢true, cond-true, cond-false, cases_eq, cases_Bool, eq-eqb, ne_eqb, eqb-true, ltb-true}
use Rattle.entry_ledger.specs.declared.state.State.{State}
use Rattle.entry_ledger.specs.declared.state.State.TheVariants.{Free, Returned, Made, InUse, LetGo, DroppedNow, Dropped}
use Rattle.entry_ledger.specs.States.{is_used, dropped, accepted, undone}
use Rattle.entry_ref.specs.Records.{Records}
use Rattle.arena_api.specs.Works.{WorkView, Tag}
use Rattle.store_api.specs.Statuses.{Status, in_use, has_record, is_committed, is_uncommitted, is_open, is_let_go, after_drop}
use Rattle.store_api.specs.Statuses.{after_accept, free_below}
use Rattle.entry_ledger.specs.Entries.{EntriesView, is_timely, is_open_entry, is_settled_entry}
use Rattle.entry_ledger.specs.Calls.{with_state, freed}
use Rattle.entry_store.specs.Standing.{status_by, status_of, back_of, is_in_generation, AreSoundStatuses}

-- the first implies the second: the conditions on a new status were conditions on the old one
abbrev pub implies : Bool → Bool → Bool
implies true b = b
implies false b = true

pub implied : (a b : Bool) → implies a b ≡ true → a ≡ true → b ≡ true
implied true b h e = h
implied false b h e = absurd (false≢true e)

abbrev pub is_held_status : Status → Bool
is_held_status (Status.held tag) = true
is_held_status status = false

pub record IsLess (new old : Status) : Type 0 where
  pub has : implies (has_record new) (has_record old) ≡ true
  pub uncommitted : implies (is_uncommitted new) (is_uncommitted old) ≡ true
  pub committed : implies (is_committed new) (is_committed old) ≡ true
  pub unheld : is_held_status new ≡ false

abbrev pub IsWeaker : Status → Status → Type 0
IsWeaker new old = (new ≡ old) ⊎ IsLess new old

less : {new old : Status} → implies (has_record new) (has_record old) ≡ true → implies (is_uncommitted new) (is_uncommitted old) ≡ true
    → implies (is_committed new) (is_committed old) ≡ true
    → is_held_status new ≡ false → IsWeaker new old
less a b c d = inr (record { has = a; uncommitted = b; committed = c; unheld = d })

-- what holds of weaker statuses
pub sound-weaker : {H : Type 0} (bits : ℕ) (work : WorkView H) (m : Records) (s t : ℕ → Status) → AreSoundStatuses bits work m s
    → ((q : ℕ) → IsWeaker (t q) (s q)) → AreSoundStatuses bits work m t
sound-weaker bits work m s t sound weaker = record {
  there = λ r h. sound.there r (elim (weaker r) [
    | inl e ↦ sym (ap has_record e) ∙ h
    | inr l ↦ implied _ _ l.has h
  ]);
  committed = λ r h. sound.committed r (elim (weaker r) [
    | inl e ↦ sym (ap is_committed e) ∙ h
    | inr l ↦ implied _ _ l.committed h
  ]);
  unkept = λ r lives below h. sound.unkept r lives below (elim (weaker r) [
    | inl e ↦ sym (ap is_uncommitted e) ∙ h
    | inr l ↦ implied _ _ l.uncommitted h
  ]);
  out = λ r tag h. elim (weaker r) [
    | inl e ↦ sound.out r tag (sym e ∙ h)
    | inr l ↦ absurd (true≢false (sym (ap is_held_status h) ∙ l.unheld))
  ];
}

-- a state that is set at one entry
pub with_state-at : (P : Option State → Type 0) (state : ℕ → Option State) (r : ℕ) (s : State) (q : ℕ) → (q ≡ r → P (Some s))
    → ((q ≡ r → ⊥) → P (state q)) → P (with_state state r s q)
with_state-at P state r s q here other = elim (cases_eq q r) [
  | inl e ↦ subst P (sym (cond-true (eqb q r) (Some s) (state q) (eq-eqb q r e))) (here e)
  | inr ne ↦ subst P (sym (cond-false (eqb q r) (Some s) (state q) (ne_eqb q r ne))) (other ne)
]

-- an entry in use
in-use-used-held : (t : Bool) (tag : Tag) → in_use (cond t Status.dropped (Status.held tag)) ≡ true → false ≡ true
in-use-used-held true tag f = f
in-use-used-held false tag f = f

pub in_use-used : (has : Bool) (last : ℕ) (s : State) → in_use (status_by has last s) ≡ true → is_used s ≡ true
in_use-used has last Free h = h
in_use-used has last Returned h = h
in_use-used has last Made h = refl
in_use-used has last (InUse after) h = refl
in_use-used has last LetGo h = h
in_use-used has last (DroppedNow after) h = h
in_use-used has last (Dropped after g) h = in-use-used-held (eqb after last) _ h

pub used-some : (has : Bool) (last : ℕ) (o : Option State) → in_use (status_of has last o) ≡ true
    → (s : State) × (o ≡ Some s) × (in_use (status_by has last s) ≡ true)
used-some has last None h = absurd (false≢true h)
used-some has last (Some s) h = (s, refl, h)

-- a drop
dropped-use : (t has : Bool) (last after : ℕ) → in_use (cond t Status.pending (cond has Status.live Status.left)) ≡ true
    → IsWeaker (status_by has last (cond t LetGo (DroppedNow after))) (cond t Status.pending (cond has Status.live Status.left))
dropped-use true has last after h = less refl refl refl refl
dropped-use false true last after h = less refl refl refl refl
dropped-use false false last after h = absurd (false≢true h)

pub dropped-weaker : (has : Bool) (last : ℕ) (s : State) → in_use (status_by has last s) ≡ true
    → IsWeaker (status_by has last (dropped last s)) (status_by has last s)
dropped-weaker has last Free h = absurd (false≢true h)
dropped-weaker has last Returned h = absurd (false≢true h)
dropped-weaker has last Made h = less refl refl refl refl
dropped-weaker has last (InUse after) h = dropped-use (eqb after last) has last after h
dropped-weaker has last LetGo h = absurd (false≢true h)
dropped-weaker has last (DroppedNow after) h = absurd (false≢true h)
dropped-weaker has last (Dropped after g) h = absurd (false≢true (in-use-used-held (eqb after last) _ h))

dropped-use-status : (t has : Bool) (last after : ℕ) → in_use (cond t Status.pending (cond has Status.live Status.left)) ≡ true
    → status_by has last (cond t LetGo (DroppedNow after)) ≡ after_drop (cond t Status.pending (cond has Status.live Status.left))
    (cond t Status.pending (cond has Status.live Status.left))
dropped-use-status true has last after h = refl
dropped-use-status false true last after h = refl
dropped-use-status false false last after h = absurd (false≢true h)

pub dropped-status : (has : Bool) (last : ℕ) (s : State) → in_use (status_by has last s) ≡ true
    → status_by has last (dropped last s) ≡ after_drop (status_by has last s) (status_by has last (undone last s))
dropped-status has last Free h = absurd (false≢true h)
dropped-status has last Returned h = absurd (false≢true h)
dropped-status has last Made h = refl
dropped-status has last (InUse after) h = dropped-use-status (eqb after last) has last after h
dropped-status has last LetGo h = absurd (false≢true h)
dropped-status has last (DroppedNow after) h = absurd (false≢true h)
dropped-status has last (Dropped after g) h = absurd (false≢true (in-use-used-held (eqb after last) _ h))

-- an undo restores the same state after a drop as before it
pub dropped-back : (last : ℕ) (s : State) → is_used s ≡ true → undone last (dropped last s) ≡ undone last s
dropped-back last Free used = refl
dropped-back last Returned used = refl
dropped-back last Made used = refl
dropped-back last (InUse after) used = elim (cases_eq after last) [
  | inl e ↦ subst (λ t. undone last (cond t LetGo (DroppedNow after)) ≡ InUse after) (sym (eq-eqb after last e)) (ap (λ n. InUse n) (sym e))
  | inr ne ↦ subst (λ t. undone last (cond t LetGo (DroppedNow after)) ≡ InUse after) (sym (ne_eqb after last ne)) refl
]
dropped-back last LetGo used = absurd (false≢true used)
dropped-back last (DroppedNow after) used = absurd (false≢true used)
dropped-back last (Dropped after g) used = absurd (false≢true used)

dropped-use-since : (t : Bool) (last generation after : ℕ)
    → is_in_generation last generation (Some (cond t LetGo (DroppedNow after))) ≡ true
dropped-use-since true last generation after = refl
dropped-use-since false last generation after = refl

pub dropped-since : (last generation : ℕ) (s : State) → is_used s ≡ true → is_in_generation last generation (Some (dropped last s)) ≡ true
dropped-since last generation Free used = refl
dropped-since last generation Returned used = refl
dropped-since last generation Made used = refl
dropped-since last generation (InUse after) used = dropped-use-since (eqb after last) last generation after
dropped-since last generation LetGo used = refl
dropped-since last generation (DroppedNow after) used = refl
dropped-since last generation (Dropped after g) used = absurd (false≢true used)

-- an undo
undone-held : (t has : Bool) (tag : Tag) → IsWeaker (cond t Status.dropped (Status.held tag)) (cond t Status.dropped (Status.held tag))
undone-held t has tag = inl refl

less-than-dropped : (has : Bool) → IsWeaker (cond has Status.live Status.left) Status.dropped
less-than-dropped true = less refl refl refl refl
less-than-dropped false = less refl refl refl refl

pub undone-weaker : (has : Bool) (e : EntriesView) (s : State) → is_timely e s ≡ true
    → IsWeaker (status_by has e.last (undone e.last s)) (status_by has e.last s)
undone-weaker has e Free up = inl refl
undone-weaker has e Returned up = inl refl
undone-weaker has e Made up = less refl refl refl refl
undone-weaker has e (InUse after) up = inl refl
undone-weaker has e LetGo up =
    subst (λ t. IsWeaker (cond t Status.pending (cond has Status.live Status.left)) Status.let_go) (sym (eq-eqb e.last e.last refl))
    (less refl refl refl refl)
undone-weaker has e (DroppedNow after) up =
    subst (λ t. IsWeaker (cond t Status.pending (cond has Status.live Status.left)) Status.dropped)
    (sym (ne_eqb after e.last (λ same. omega (arith, same, ltb-true after e.last up)))) (less-than-dropped has)
undone-weaker has e (Dropped after g) up = inl refl

pub undone-settled : (last : ℕ) (o : Option State) → is_settled_entry (option_map (undone last) o) ≡ true
undone-settled last None = refl
undone-settled last (Some Free) = refl
undone-settled last (Some Returned) = refl
undone-settled last (Some Made) = refl
undone-settled last (Some (InUse after)) = refl
undone-settled last (Some LetGo) = refl
undone-settled last (Some (DroppedNow after)) = refl
undone-settled last (Some (Dropped after g)) = refl

pub undone-since : (last generation : ℕ) (o : Option State) → is_in_generation last generation o ≡ true
    → is_in_generation last generation (option_map (undone last) o) ≡ true
undone-since last generation None h = refl
undone-since last generation (Some Free) h = refl
undone-since last generation (Some Returned) h = refl
undone-since last generation (Some Made) h = refl
undone-since last generation (Some (InUse after)) h = refl
undone-since last generation (Some LetGo) h = refl
undone-since last generation (Some (DroppedNow after)) h = refl
undone-since last generation (Some (Dropped after g)) h = h

-- an undo does not change what the unit has not changed
pub untouched : (last : ℕ) (o : Option State) → is_settled_entry o ≡ true → option_map (undone last) o ≡ o
untouched last None h = refl
untouched last (Some Free) h = refl
untouched last (Some Returned) h = absurd (false≢true h)
untouched last (Some Made) h = absurd (false≢true h)
untouched last (Some (InUse after)) h = refl
untouched last (Some LetGo) h = absurd (false≢true h)
untouched last (Some (DroppedNow after)) h = absurd (false≢true h)
untouched last (Some (Dropped after g)) h = refl

-- an accept
accepted-use : (t has : Bool) → cond t Status.pending (cond has Status.live Status.left)
    ≡ after_accept (cond t Status.pending (cond has Status.live Status.left))
accepted-use true has = refl
accepted-use false true = refl
accepted-use false false = refl

accepted-held : (t : Bool) (tag : Tag) → cond t Status.dropped (Status.held tag) ≡ after_accept (cond t Status.dropped (Status.held tag))
accepted-held true tag = refl
accepted-held false tag = refl

pub accepted-status : (has : Bool) (last generation : ℕ) (o : Option State)
    → status_of has last (option_map (accepted last generation) o) ≡ after_accept (status_of has last o)
accepted-status has last generation None = refl
accepted-status has last generation (Some Free) = refl
accepted-status has last generation (Some Returned) = refl
accepted-status has last generation (Some Made) = cond-true (eqb last last) Status.pending _ (eq-eqb last last refl)
accepted-status has last generation (Some (InUse after)) = accepted-use (eqb after last) has
accepted-status has last generation (Some LetGo) = refl
accepted-status has last generation (Some (DroppedNow after)) = cond-true (eqb last last) Status.dropped _ (eq-eqb last last refl)
accepted-status has last generation (Some (Dropped after g)) = accepted-held (eqb after last) _

pub accepted-settled : (last generation : ℕ) (o : Option State) → is_settled_entry (option_map (accepted last generation) o) ≡ true
accepted-settled last generation None = refl
accepted-settled last generation (Some Free) = refl
accepted-settled last generation (Some Returned) = refl
accepted-settled last generation (Some Made) = refl
accepted-settled last generation (Some (InUse after)) = refl
accepted-settled last generation (Some LetGo) = refl
accepted-settled last generation (Some (DroppedNow after)) = refl
accepted-settled last generation (Some (Dropped after g)) = refl

or-right : (a b : Bool) → b ≡ true → (a || b) ≡ true
or-right true b h = refl
or-right false b h = h

pub accepted-since : (last generation : ℕ) (o : Option State) → is_in_generation last generation o ≡ true
    → is_in_generation last generation (option_map (accepted last generation) o) ≡ true
accepted-since last generation None h = refl
accepted-since last generation (Some Free) h = refl
accepted-since last generation (Some Returned) h = refl
accepted-since last generation (Some Made) h = refl
accepted-since last generation (Some (InUse after)) h = refl
accepted-since last generation (Some LetGo) h = refl
accepted-since last generation (Some (DroppedNow after)) h = or-right _ _ (eq-eqb generation generation refl)
accepted-since last generation (Some (Dropped after g)) h = h

pub weaker-accept : (c : Status) → IsWeaker (after_accept c) c
weaker-accept Status.unmade = inl refl
weaker-accept Status.free = inl refl
weaker-accept Status.pending = inl refl
weaker-accept Status.live = inl refl
weaker-accept Status.dropped = inl refl
weaker-accept Status.let_go = less refl refl refl refl
weaker-accept (Status.held tag) = inl refl
weaker-accept Status.left = inl refl

pub accepted-records : {A : Type 0} (c : Status) (ws none : A)
    → cond (has_record (after_accept c)) ws none ≡ cond (is_let_go c) none (cond (has_record c) ws none)
accepted-records Status.unmade ws none = refl
accepted-records Status.free ws none = refl
accepted-records Status.pending ws none = refl
accepted-records Status.live ws none = refl
accepted-records Status.dropped ws none = refl
accepted-records Status.let_go ws none = refl
accepted-records (Status.held tag) ws none = refl
accepted-records Status.left ws none = refl

-- an entry that a make can take
pub open-status : (has : Bool) (last : ℕ) (o : Option State) → is_open_entry o ≡ true → is_open (status_of has last o) ≡ true
open-status has last None h = refl
open-status has last (Some Free) h = refl
open-status has last (Some Returned) h = refl
open-status has last (Some Made) h = absurd (false≢true h)
open-status has last (Some (InUse after)) h = absurd (false≢true h)
open-status has last (Some LetGo) h = absurd (false≢true h)
open-status has last (Some (DroppedNow after)) h = absurd (false≢true h)
open-status has last (Some (Dropped after g)) h = absurd (false≢true h)

open-use : (t has : Bool) → is_open (cond t Status.pending (cond has Status.live Status.left)) ≡ true → false ≡ true
open-use true has f = f
open-use false true f = f
open-use false false f = f

open-held : (t : Bool) (tag : Tag) → is_open (cond t Status.dropped (Status.held tag)) ≡ true → false ≡ true
open-held true tag f = f
open-held false tag f = f

pub open-state : (has : Bool) (last : ℕ) (o : Option State) → is_open (status_of has last o) ≡ true → is_open_entry o ≡ true
open-state has last None h = refl
open-state has last (Some Free) h = refl
open-state has last (Some Returned) h = refl
open-state has last (Some Made) h = h
open-state has last (Some (InUse after)) h = open-use (eqb after last) has h
open-state has last (Some LetGo) h = h
open-state has last (Some (DroppedNow after)) h = h
open-state has last (Some (Dropped after g)) h = open-held (eqb after last) _ h

pub open-back : (has : Bool) (last : ℕ) (o : Option State) → is_open_entry o ≡ true → is_open (back_of has last o) ≡ true
open-back has last None h = refl
open-back has last (Some Free) h = refl
open-back has last (Some Returned) h = refl
open-back has last (Some Made) h = absurd (false≢true h)
open-back has last (Some (InUse after)) h = absurd (false≢true h)
open-back has last (Some LetGo) h = absurd (false≢true h)
open-back has last (Some (DroppedNow after)) h = absurd (false≢true h)
open-back has last (Some (Dropped after g)) h = absurd (false≢true h)

-- only an entry that was not taken is unmade
use-made : (t has : Bool) → cond t Status.pending (cond has Status.live Status.left) ≡ Status.unmade → ⊥
use-made true has e = (cc)
use-made false true e = (cc)
use-made false false e = (cc)

held-made : (t : Bool) (tag : Tag) → cond t Status.dropped (Status.held tag) ≡ Status.unmade → ⊥
held-made true tag e = (cc)
held-made false tag e = (cc)

pub unmade-none : (has : Bool) (last : ℕ) (o : Option State) → status_of has last o ≡ Status.unmade → o ≡ None
unmade-none has last None e = refl
unmade-none has last (Some Free) e = absurd (cc)
unmade-none has last (Some Returned) e = absurd (cc)
unmade-none has last (Some Made) e = absurd (cc)
unmade-none has last (Some (InUse after)) e = absurd (use-made (eqb after last) has e)
unmade-none has last (Some LetGo) e = absurd (cc)
unmade-none has last (Some (DroppedNow after)) e = absurd (cc)
unmade-none has last (Some (Dropped after g)) e = absurd (held-made (eqb after last) _ e)

-- a reclaim
freed-dropped : (t below : Bool) (has : Bool) (last after g generation : ℕ) → eqb after last ≡ t → (t ≡ true → below ≡ false)
    → status_by has last (cond below Free (Dropped after g)) ≡ cond below (cond t Status.dropped Status.free)
    (cond t Status.dropped (Status.held (record { generation = g; commit = after + 1 })))
freed-dropped true true has last after g generation e h = absurd (true≢false (h refl))
freed-dropped false true has last after g generation e h = refl
freed-dropped true false has last after g generation e h =
    ap (λ t. cond t Status.dropped (Status.held (record { generation = g; commit = after + 1 }))) e
freed-dropped false false has last after g generation e h =
    ap (λ t. cond t Status.dropped (Status.held (record { generation = g; commit = after + 1 }))) e

below-dropped : (t below : Bool) (g after generation : ℕ) → (t ≡ true → below ≡ false) → ltb g generation ≡ below
    → free_below generation (cond t Status.dropped (Status.held (record { generation = g; commit = after + 1 })))
    ≡ cond below (cond t Status.dropped Status.free) (cond t Status.dropped (Status.held (record { generation = g; commit = after + 1 })))
below-dropped true true g after generation h e = absurd (true≢false (h refl))
below-dropped true false g after generation h e = refl
below-dropped false true g after generation h e =
    ap (λ b. cond b Status.free (Status.held (record { generation = g; commit = after + 1 }))) e
below-dropped false false g after generation h e =
    ap (λ b. cond b Status.free (Status.held (record { generation = g; commit = after + 1 }))) e

free-use : (t has : Bool) (generation : ℕ)
    → cond t Status.pending (cond has Status.live Status.left)
    ≡ free_below generation (cond t Status.pending (cond has Status.live Status.left))
free-use true has generation = refl
free-use false true generation = refl
free-use false false generation = refl

-- what was dropped since the last commit is tagged with the current generation, and so is not freed
since-above : (last current after g generation : ℕ) → is_in_generation last current (Some (Dropped after g)) ≡ true → generation ≤ current
    → eqb after last ≡ true → ltb g generation ≡ false
since-above last current after g generation h low e = elim (cases_Bool (ltb g generation)) [
  | inl b ↦ absurd (omega (arith, low, ltb-true g generation b, eqb-true g current (or-left (eqb after last) (eqb g current) e h)))
  | inr b ↦ b
]
  where
    or-left : (a b : Bool) → a ≡ true → (not a || b) ≡ true → b ≡ true
    or-left true b e f = f
    or-left false b e f = absurd (false≢true e)

pub freed-status : (has : Bool) (last current generation : ℕ) (o : Option State) → is_in_generation last current o ≡ true
    → generation ≤ current
    → status_of has last (option_map (freed generation) o) ≡ free_below generation (status_of has last o)
freed-status has last current generation None since low = refl
freed-status has last current generation (Some Free) since low = refl
freed-status has last current generation (Some Returned) since low = refl
freed-status has last current generation (Some Made) since low = refl
freed-status has last current generation (Some (InUse after)) since low = free-use (eqb after last) has generation
freed-status has last current generation (Some LetGo) since low = refl
freed-status has last current generation (Some (DroppedNow after)) since low = refl
freed-status has last current generation (Some (Dropped after g)) since low =
    freed-dropped (eqb after last) (ltb g generation) has last after g generation refl
    (since-above last current after g generation since low)
    ∙ sym (below-dropped (eqb after last) (ltb g generation) g after generation
    (since-above last current after g generation since low) refl)

-- the same holds for what an undo restores
freed-undone-dropped : (below : Bool) (last after g : ℕ)
    → option_map (undone last) (Some (cond below Free (Dropped after g))) ≡ Some (cond below Free (Dropped after g))
freed-undone-dropped true last after g = refl
freed-undone-dropped false last after g = refl

pub freed-undone : (last generation : ℕ) (o : Option State)
    → option_map (undone last) (option_map (freed generation) o) ≡ option_map (freed generation) (option_map (undone last) o)
freed-undone last generation None = refl
freed-undone last generation (Some Free) = refl
freed-undone last generation (Some Returned) = refl
freed-undone last generation (Some Made) = refl
freed-undone last generation (Some (InUse after)) = refl
freed-undone last generation (Some LetGo) = refl
freed-undone last generation (Some (DroppedNow after)) = refl
freed-undone last generation (Some (Dropped after g)) = freed-undone-dropped (ltb g generation) last after g

settled-dropped : (below : Bool) (after g : ℕ) → is_settled_entry (Some (cond below Free (Dropped after g))) ≡ true
settled-dropped true after g = refl
settled-dropped false after g = refl

pub freed-settled : (generation : ℕ) (o : Option State) → is_settled_entry o ≡ true
    → is_settled_entry (option_map (freed generation) o) ≡ true
freed-settled generation None h = refl
freed-settled generation (Some Free) h = h
freed-settled generation (Some Returned) h = h
freed-settled generation (Some Made) h = h
freed-settled generation (Some (InUse after)) h = h
freed-settled generation (Some LetGo) h = h
freed-settled generation (Some (DroppedNow after)) h = h
freed-settled generation (Some (Dropped after g)) h = settled-dropped (ltb g generation) after g

since-dropped : (below : Bool) (last current after g : ℕ) → is_in_generation last current (Some (Dropped after g)) ≡ true
    → is_in_generation last current (Some (cond below Free (Dropped after g))) ≡ true
since-dropped true last current after g h = refl
since-dropped false last current after g h = h

pub freed-since : (last current generation : ℕ) (o : Option State) → is_in_generation last current o ≡ true
    → is_in_generation last current (option_map (freed generation) o) ≡ true
freed-since last current generation None h = refl
freed-since last current generation (Some Free) h = refl
freed-since last current generation (Some Returned) h = refl
freed-since last current generation (Some Made) h = refl
freed-since last current generation (Some (InUse after)) h = refl
freed-since last current generation (Some LetGo) h = refl
freed-since last current generation (Some (DroppedNow after)) h = refl
freed-since last current generation (Some (Dropped after g)) h = since-dropped (ltb g generation) last current after g h
