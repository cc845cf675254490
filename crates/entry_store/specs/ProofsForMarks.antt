-- Lemmas that the proofs of the laws of `Store` cite. They are proofs, not part of the specification.
-- The buffers of the entries are those of the work.
use Rattle.std.proofs.Common.{◌≡◌, ℕ, zero, suc, ◌+◌, ◌<◌, Bool, true, false, cond, eqb, ltb, Option, Some, refl, sym, ap, subst, ◌∙◌}
use Rattle.std.proofs.Common.{arith}
use Rattle.std.proofs.lemmas.Bool.{true≢false, false≢true, eq-eqb, eqb-true, and_parts, and_from}
use Rattle.list_lemmas.specs.Counting.{one_if}
use Rattle.buffer_states.specs.declared.BufferState.{BufferState}
use Rattle.buffer_states.specs.declared.BufferState.TheVariants.{Free, Active, OnHold}
use Rattle.buffer_states.specs.Buffers.{is_state_free, is_state_active, is_on_hold}
use Rattle.arena_api.specs.Works.{Buffer, Tag, active_width, free_count}
use Rattle.arena_api.specs.Works.{is_free as is_free_buffer}
use Rattle.arena_api.specs.Calls.{with_buffer}
use Rattle.arena_api.specs.Generations.{freed_below}
use Rattle.store_api.specs.Ledgers.{is_held, active_count, held_count}
use Rattle.store_api.specs.Ledgers.{is_active as is_active_buffer}
use Rattle.entry_ledger.specs.Entries.{Mark, count_marks}
use Rattle.entry_ledger.specs.Calls.{with_mark, free_mark, freed_mark}
use Rattle.entry_store.specs.Standing.{is_mark_of}

-- a state is one of three
state-free : (s : BufferState) → is_state_free s ≡ true → s ≡ Free
state-free Free e = refl
state-free Active e = absurd (false≢true e)
state-free OnHold e = absurd (false≢true e)

state-active : (s : BufferState) → is_state_active s ≡ true → s ≡ Active
state-active Free e = absurd (false≢true e)
state-active Active e = refl
state-active OnHold e = absurd (false≢true e)

state-held : (s : BufferState) → is_on_hold s ≡ true → s ≡ OnHold
state-held Free e = absurd (false≢true e)
state-held Active e = absurd (false≢true e)
state-held OnHold e = refl

abbrev width_in : Mark → ℕ
width_in mark = cond (is_state_active mark.state) mark.width 0

pub mark-width : (mark : Mark) (b : Buffer) → is_mark_of mark b ≡ true → width_in mark ≡ active_width b
mark-width mark (Buffer.free t) is = ap (λ s. cond (is_state_active s) mark.width 0) (state-free mark.state is)
mark-width mark (Buffer.active w t) is =
    let both = and_parts (is_state_active mark.state) (eqb mark.width w) is in
    ap (λ s. cond (is_state_active s) mark.width 0) (state-active mark.state both.0) ∙ eqb-true mark.width w both.1
mark-width mark (Buffer.held w t) is = ap (λ s. cond (is_state_active s) mark.width 0)
    (state-held mark.state (and_parts (is_on_hold mark.state) _ is).0)

pub mark-free : (mark : Mark) (b : Buffer) → is_mark_of mark b ≡ true → is_state_free mark.state ≡ is_free_buffer b
mark-free mark (Buffer.free t) is = ap is_state_free (state-free mark.state is)
mark-free mark (Buffer.active w t) is = ap is_state_free
    (state-active mark.state (and_parts (is_state_active mark.state) (eqb mark.width w) is).0)
mark-free mark (Buffer.held w t) is = ap is_state_free (state-held mark.state (and_parts (is_on_hold mark.state) _ is).0)

pub mark-active : (mark : Mark) (b : Buffer) → is_mark_of mark b ≡ true → is_state_active mark.state ≡ is_active_buffer b
mark-active mark (Buffer.free t) is = ap is_state_active (state-free mark.state is)
mark-active mark (Buffer.active w t) is = ap is_state_active
    (state-active mark.state (and_parts (is_state_active mark.state) (eqb mark.width w) is).0)
mark-active mark (Buffer.held w t) is = ap is_state_active (state-held mark.state (and_parts (is_on_hold mark.state) _ is).0)

pub mark-held : (mark : Mark) (b : Buffer) → is_mark_of mark b ≡ true → is_on_hold mark.state ≡ is_held b
mark-held mark (Buffer.free t) is = ap is_on_hold (state-free mark.state is)
mark-held mark (Buffer.active w t) is = ap is_on_hold
    (state-active mark.state (and_parts (is_state_active mark.state) (eqb mark.width w) is).0)
mark-held mark (Buffer.held w t) is = ap is_on_hold (state-held mark.state (and_parts (is_on_hold mark.state) _ is).0)

-- counts of marks agree with those of the buffers
pub count-free : (mark : ℕ → Mark) (buffer : ℕ → Buffer) (n : ℕ) → ((b : ℕ) → b < n → is_mark_of (mark b) (buffer b) ≡ true)
    → count_marks is_state_free mark n ≡ free_count buffer n
count-free mark buffer zero all = refl
count-free mark buffer (suc n) all =
    let rest = count-free mark buffer n (λ b low. all b (omega arith)) in
    let here : one_if (is_state_free (mark n).state) ≡ one_if (is_free_buffer (buffer n)) =
    ap one_if (mark-free (mark n) (buffer n) (all n (omega arith))) in
    omega arith

pub count-active : (mark : ℕ → Mark) (buffer : ℕ → Buffer) (n : ℕ) → ((b : ℕ) → b < n → is_mark_of (mark b) (buffer b) ≡ true)
    → count_marks is_state_active mark n ≡ active_count buffer n
count-active mark buffer zero all = refl
count-active mark buffer (suc n) all =
    let rest = count-active mark buffer n (λ b low. all b (omega arith)) in
    let here : one_if (is_state_active (mark n).state) ≡ one_if (is_active_buffer (buffer n)) =
    ap one_if (mark-active (mark n) (buffer n) (all n (omega arith))) in
    omega arith

pub count-held : (mark : ℕ → Mark) (buffer : ℕ → Buffer) (n : ℕ) → ((b : ℕ) → b < n → is_mark_of (mark b) (buffer b) ≡ true)
    → count_marks is_on_hold mark n ≡ held_count buffer n
count-held mark buffer zero all = refl
count-held mark buffer (suc n) all =
    let rest = count-held mark buffer n (λ b low. all b (omega arith)) in
    let here : one_if (is_on_hold (mark n).state) ≡ one_if (is_held (buffer n)) =
    ap one_if (mark-held (mark n) (buffer n) (all n (omega arith))) in
    omega arith

-- each buffer is free, active or on hold
one-of : (b : Buffer) → one_if (is_free_buffer b) + one_if (is_active_buffer b) + one_if (is_held b) ≡ 1
one-of (Buffer.free t) = refl
one-of (Buffer.active w t) = refl
one-of (Buffer.held w t) = refl

pub count-all : (buffer : ℕ → Buffer) (n : ℕ) → free_count buffer n + active_count buffer n + held_count buffer n ≡ n
count-all buffer zero = refl
count-all buffer (suc n) = let rest = count-all buffer n in let here = one-of (buffer n) in omega arith

-- a buffer is opened
pub marks-opened : (mark : ℕ → Mark) (buffer : ℕ → Buffer) (b width : ℕ) (t : Option Tag) (a : ℕ) → is_mark_of (mark a) (buffer a) ≡ true
    → is_mark_of (with_mark mark b (record { state = Active; width = width; generation = 0; sealed = false }) a)
    (with_buffer buffer b (Buffer.active width t) a) ≡ true
marks-opened mark buffer b width t a is = by_test (eqb a b)
  where
    by_test : (u : Bool) → is_mark_of (cond u (record { state = Active; width = width; generation = 0; sealed = false }) (mark a))
        (cond u (Buffer.active width t) (buffer a)) ≡ true
    by_test true = eq-eqb width width refl
    by_test false = is

-- a buffer is retired
pub marks-retired : (mark : ℕ → Mark) (buffer : ℕ → Buffer) (b : ℕ) (tag : Tag) (a : ℕ) → is_mark_of (mark a) (buffer a) ≡ true
    → is_mark_of (mark b) (buffer b) ≡ true → is_state_active (mark b).state ≡ true
    → is_mark_of (with_mark mark b (record { state = OnHold; width = (mark b).width; generation = tag.generation; sealed = false }) a)
    (with_buffer buffer b (Buffer.held (active_width (buffer b)) tag) a) ≡ true
marks-retired mark buffer b tag a is here active = by_test (eqb a b)
  where
    width : (mark b).width ≡ active_width (buffer b)
    width = sym (ap (λ t. cond t (mark b).width 0) active) ∙ mark-width (mark b) (buffer b) here

    by_test : (u : Bool) → is_mark_of (cond u
        (record { state = OnHold; width = (mark b).width; generation = tag.generation; sealed = false }) (mark a))
        (cond u (Buffer.held (active_width (buffer b)) tag) (buffer a)) ≡ true
    by_test true = and_from (eqb (mark b).width (active_width (buffer b))) (eqb tag.generation tag.generation) (eq-eqb _ _ width)
        (eq-eqb tag.generation tag.generation refl)
    by_test false = is

-- what is tagged below a generation becomes free
freed-below : (below : Bool) (mark : Mark) (w : ℕ) (t : Tag) → is_mark_of mark (Buffer.held w t) ≡ true
    → is_mark_of (cond below free_mark mark) (cond below (Buffer.free (Some t)) (Buffer.held w t)) ≡ true
freed-below true mark w t is = refl
freed-below false mark w t is = is

pub marks-freed : (oldest : ℕ) (mark : Mark) (b : Buffer) → is_mark_of mark b ≡ true
    → is_mark_of (freed_mark oldest mark) (freed_below oldest b) ≡ true
marks-freed oldest mark (Buffer.free t) is =
    subst (λ s. is_state_free (cond (is_on_hold s) (cond (ltb mark.generation oldest) free_mark mark) mark).state ≡ true)
    (sym (state-free mark.state is)) is
marks-freed oldest mark (Buffer.active w t) is =
    let both = and_parts (is_state_active mark.state) (eqb mark.width w) is in
    subst (λ s. is_mark_of (cond (is_on_hold s) (cond (ltb mark.generation oldest) free_mark mark) mark) (Buffer.active w t) ≡ true)
    (sym (state-active mark.state both.0)) is
marks-freed oldest mark (Buffer.held w t) is =
    let both = and_parts (is_on_hold mark.state) _ is in
    let same : mark.generation ≡ t.generation =
    eqb-true mark.generation t.generation (and_parts (eqb mark.width w) (eqb mark.generation t.generation) both.1).1 in
    subst (λ s. is_mark_of (cond (is_on_hold s) (cond (ltb mark.generation oldest) free_mark mark) mark)
    (cond (ltb t.generation oldest) (Buffer.free (Some t)) (Buffer.held w t)) ≡ true) (sym (state-held mark.state both.0))
    (subst (λ g. is_mark_of (cond (ltb g oldest) free_mark mark) (cond (ltb t.generation oldest) (Buffer.free (Some t)) (Buffer.held w t))
    ≡ true) (sym same)
    (freed-below (ltb t.generation oldest) mark w t is))

-- a reclaim puts no buffer on hold
pub held-freed : (oldest : ℕ) (b : Buffer) → is_held b ≡ false → is_held (freed_below oldest b) ≡ false
held-freed oldest (Buffer.free t) h = refl
held-freed oldest (Buffer.active w t) h = refl
held-freed oldest (Buffer.held w t) h = absurd (true≢false h)

width-held : (below : Bool) (w : ℕ) (t : Tag) → active_width (cond below (Buffer.free (Some t)) (Buffer.held w t)) ≡ 0
width-held true w t = refl
width-held false w t = refl

pub width-freed : (oldest : ℕ) (b : Buffer) → active_width (freed_below oldest b) ≡ active_width b
width-freed oldest (Buffer.free t) = refl
width-freed oldest (Buffer.active w t) = refl
width-freed oldest (Buffer.held w t) = width-held (ltb t.generation oldest) w t
