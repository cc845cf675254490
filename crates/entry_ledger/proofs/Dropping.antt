-- What is kept where an entry in use is dropped.
use Rattle.std.proofs.Common.{◌≡◌, ℕ, ◌+◌, ◌*◌, ◌<◌, Bool, true, false, cond, eqb, length, set, refl, sym, ap, ◌∙◌, arith, inl, inr}
use Rattle.std.specs.List.{count_by}
use Rattle.std.proofs.Math.ListN.{length-set}
use Rattle.std.proofs.lemmas.Bool.{cases_eq, eq-eqb, ne_eqb, leb-true, lt-ltb}
use Rattle.list_lemmas.specs.Counting.{one_if}
use Rattle.buffer_states.specs.declared.Buffer.{Buffer}
use Rattle.entry_ledger.specs.declared.state.State.{State}
use Rattle.entry_ledger.specs.declared.state.State.TheVariants.{Free, Returned, Made, InUse, LetGo, DroppedNow, Dropped}
use Rattle.entry_ledger.specs.States.{ShelfView, is_free_state, is_made, is_used, is_dead, is_held, is_dropped, state_at, dropped, with_state_at}
use Rattle.entry_ledger.specs.Entries.{EntriesView, is_timely}
use Rattle.entry_ledger.specs.Ledgers.{is_since, dropped_buffer, IsCounted}
use Rattle.entry_ledger.proofs.Counted.{count-keep, count-more, words-more}

-- what a drop makes of an entry in use: its counts, and that it is not in the list
pub record IsDrop (last : ℕ) (was state : State) : Type 0 where
  pub used : one_if (is_free_state was) ≡ 0
  pub even : one_if (is_free_state state) + one_if (is_made state) ≡ one_if (is_made was)
  pub before : ((after g : ℕ) → was ≡ Dropped after g → ⊥)
  pub after : ((after g : ℕ) → state ≡ Dropped after g → ⊥)
  pub held : is_held last state ≡ is_held last was
  pub dropped_is : is_dropped state ≡ is_dropped was

pub is-drop : (last : ℕ) (was : State) → is_used was ≡ true → IsDrop last was (dropped last was)
is-drop last Free used = absurd (cc)
is-drop last Returned used = absurd (cc)
is-drop last Made used = record { used = refl; even = refl; before = λ a g e. absurd (cc); after = λ a g e. absurd (cc); held = refl; dropped_is = refl }
is-drop last (InUse since) used = by_test (eqb since last)
  where
    by_test : (t : Bool) → IsDrop last (InUse since) (cond t LetGo (DroppedNow since))
    by_test true = record { used = refl; even = refl; before = λ a g e. absurd (cc); after = λ a g e. absurd (cc); held = refl; dropped_is = refl }
    by_test false = record { used = refl; even = refl; before = λ a g e. absurd (cc); after = λ a g e. absurd (cc); held = refl; dropped_is = refl }
is-drop last LetGo used = absurd (cc)
is-drop last (DroppedNow since) used = absurd (cc)
is-drop last (Dropped since g) used = absurd (cc)

pub drop-up-to : (e : EntriesView) (was : State) → is_used was ≡ true → is_timely e was ≡ true → is_timely e (dropped e.last was) ≡ true
drop-up-to e Free used up_to = absurd (cc)
drop-up-to e Returned used up_to = absurd (cc)
drop-up-to e Made used up_to = refl
drop-up-to e (InUse since) used up_to = elim (cases_eq since e.last) [
  | inl same ↦ ap (λ t. is_timely e (cond t LetGo (DroppedNow since))) (eq-eqb since e.last same)
  | inr ne ↦ ap (λ t. is_timely e (cond t LetGo (DroppedNow since))) (ne_eqb since e.last ne) ∙ lt-ltb since e.last (let low = leb-true since e.last up_to in omega (arith, low, ne))
]
drop-up-to e LetGo used up_to = absurd (cc)
drop-up-to e (DroppedNow since) used up_to = absurd (cc)
drop-up-to e (Dropped since g) used up_to = absurd (cc)

-- the counts of its buffer
module _ (words last : ℕ) (buffer : Buffer) (s : ShelfView) (k : IsCounted words last buffer s) (x : ℕ) (there : x < length s.states) (wide : buffer.width ≡ s.width) where
  -- other counts of dead and dropped entries
  pub with-counts : (state : State) (dead dropped_words : ℕ) → is_held last state ≡ is_held last (state_at s.states x)
      → dead ≡ s.width * count_by is_dead (set s.states x state) → dropped_words ≡ s.width * count_by (is_since last) (set s.states x state)
      → IsCounted words last (record buffer { dead = dead; dropped = dropped_words }) (with_state_at s x state)
  with-counts state dead dropped_words held dead_is dropped_is = record {
    of = record { width = k.of.width; room = k.of.room; taken = omega (arith, k.of.taken, length-set {A = State} s.states x state) };
    width = k.width;
    sealed = k.sealed;
    used = k.used ∙ ap (λ n. s.width * (1 + n)) (sym (length-set {A = State} s.states x state));
    dead = dead_is;
    held = k.held ∙ ap (λ n. s.width * n) (sym (count-keep (is_held last) s.states x state there held));
    dropped = dropped_is;
  }

  pub counted-drop : is_used (state_at s.states x) ≡ true
      → IsCounted words last (dropped_buffer (dropped last (state_at s.states x)) buffer) (with_state_at s x (dropped last (state_at s.states x)))
  counted-drop used = by_state (state_at s.states x) refl used
    where
      by_state : (was : State) → state_at s.states x ≡ was → is_used was ≡ true → IsCounted words last (dropped_buffer (dropped last was) buffer) (with_state_at s x (dropped last was))
      by_state Free is used = absurd (cc)
      by_state Returned is used = absurd (cc)
      by_state Made is used = with-counts Returned (buffer.dead + buffer.width) buffer.dropped (sym (ap (is_held last) is))
          (omega (arith, k.dead, wide, words-more s.width (count_by is_dead s.states) (count_by is_dead (set s.states x Returned)) (count-more is_dead s.states x Returned there (ap is_dead is) refl)))
          (k.dropped ∙ ap (λ n. s.width * n) (sym (count-keep (is_since last) s.states x Returned there (sym (ap (is_since last) is)))))
      by_state (InUse since) is used = by_test (eqb since last)
        where
          by_test : (t : Bool) → IsCounted words last (dropped_buffer (cond t LetGo (DroppedNow since)) buffer) (with_state_at s x (cond t LetGo (DroppedNow since)))
          by_test true = with-counts LetGo buffer.dead buffer.dropped (sym (ap (is_held last) is))
              (k.dead ∙ ap (λ n. s.width * n) (sym (count-keep is_dead s.states x LetGo there (sym (ap is_dead is)))))
              (k.dropped ∙ ap (λ n. s.width * n) (sym (count-keep (is_since last) s.states x LetGo there (sym (ap (is_since last) is)))))
          by_test false = with-counts (DroppedNow since) (buffer.dead + buffer.width) (buffer.dropped + buffer.width) (sym (ap (is_held last) is))
              (omega (
                arith,
                k.dead,
                wide,
                words-more s.width (count_by is_dead s.states) (count_by is_dead (set s.states x (DroppedNow since)))
                    (count-more is_dead s.states x (DroppedNow since) there (ap is_dead is) refl),
              ))
              (omega (
                arith,
                k.dropped,
                wide,
                words-more s.width (count_by (is_since last) s.states) (count_by (is_since last) (set s.states x (DroppedNow since)))
                    (count-more (is_since last) s.states x (DroppedNow since) there (ap (is_since last) is) refl),
              ))
      by_state LetGo is used = absurd (cc)
      by_state (DroppedNow since) is used = absurd (cc)
      by_state (Dropped since g) is used = absurd (cc)
