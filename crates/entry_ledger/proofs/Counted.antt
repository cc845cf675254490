-- The counts of one buffer, where an entry of its shelf has another state.
use Rattle.std.proofs.Common.{◌≡◌, ℕ, suc, ◌+◌, ◌-◌, ◌*◌, ◌<◌, ◌≤◌, Bool, true, false, cond, List, [], ◌∷◌, ◌++◌, length, set, refl, sym, ap, ◌∙◌, arith, inl, inr}
use Rattle.std.specs.List.{count_by}
use Rattle.std.proofs.Math.ListN.{length-set}
use Rattle.std.proofs.Math.Nat.{mul-suc}
use Rattle.std.proofs.lemmas.List.{length_push}
use Rattle.std.proofs.lemmas.List.Sums.{sum_by_push}
use Rattle.std.proofs.lemmas.Bool.{cases_eq, eq-eqb, ne_eqb}
use Rattle.list_lemmas.specs.Counting.{one_if}
use Rattle.list_lemmas.proofs.Counts.{count_by-set}
use Rattle.buffer_states.specs.declared.Buffer.{Buffer}
use Rattle.entry_ledger.specs.declared.state.State.{State}
use Rattle.entry_ledger.specs.declared.state.State.TheVariants.{Free, Returned, Made, InUse, LetGo, DroppedNow, Dropped}
use Rattle.entry_ledger.specs.States.{ShelfView, is_free_state, is_dead, is_held, is_dropped, state_at, IsOpen, with_made}
use Rattle.entry_ledger.specs.ShelvesKept.{IsOfWidth}
use Rattle.entry_ledger.proofs.Making.{made-taken}
use Rattle.entry_ledger.specs.Ledgers.{is_since, unheld_in, IsCounted}

-- what a free state is not
pub record IsIdle (last : ℕ) (s : State) : Type 0 where
  pub dead : is_dead s ≡ true
  pub held : is_held last s ≡ false
  pub since : is_since last s ≡ false
  pub dropped : is_dropped s ≡ false

pub idle : (last : ℕ) (s : State) → is_free_state s ≡ true → IsIdle last s
idle last Free is = record { dead = refl; held = refl; since = refl; dropped = refl }
idle last Returned is = record { dead = refl; held = refl; since = refl; dropped = refl }
idle last Made is = absurd (cc)
idle last (InUse after) is = absurd (cc)
idle last LetGo is = absurd (cc)
idle last (DroppedNow after) is = absurd (cc)
idle last (Dropped after g) is = absurd (cc)

-- a count of which the new state and the old one are the same
pub count-keep : (test : State → Bool) (states : List State) (x : ℕ) (state : State) → x < length states → test state ≡ test (state_at states x)
    → count_by test (set states x state) ≡ count_by test states
count-keep test states x state below same =
    let equal : one_if (test state) ≡ one_if (test (state_at states x)) = ap one_if same in
    omega (arith, count_by-set test states x state Free below, equal)

pub count-more : (test : State → Bool) (states : List State) (x : ℕ) (state : State) → x < length states → test (state_at states x) ≡ false → test state ≡ true
    → count_by test (set states x state) ≡ count_by test states + 1
count-more test states x state below was now =
    let before : one_if (test (state_at states x)) ≡ 0 = ap one_if was in
    let after : one_if (test state) ≡ 1 = ap one_if now in
    omega (arith, count_by-set test states x state Free below, before, after)

pub count-less : (test : State → Bool) (states : List State) (x : ℕ) (state : State) → x < length states → test (state_at states x) ≡ true → test state ≡ false
    → count_by test (set states x state) + 1 ≡ count_by test states
count-less test states x state below was now =
    let before : one_if (test (state_at states x)) ≡ 1 = ap one_if was in
    let after : one_if (test state) ≡ 0 = ap one_if now in
    omega (arith, count_by-set test states x state Free below, before, after)

-- the words of one more or of one less
pub words-more : (w n m : ℕ) → m ≡ n + 1 → w * m ≡ w * n + w
words-more w n m is = (let next : m ≡ suc n = omega (arith, is) in ap (λ k. w * k) next ∙ mul-suc w n)

-- a place that is taken again
again-states : (s : ShelfView) (x : ℕ) → x < length s.states → (with_made s x).states ≡ set s.states x Made
again-states s x below = ap (λ t. cond t (s.states ++ Made ∷ []) (set s.states x Made)) (ne_eqb x (length s.states) (λ e. omega (arith, e, below)))

next-states : (s : ShelfView) (x : ℕ) → x ≡ length s.states → (with_made s x).states ≡ s.states ++ Made ∷ []
next-states s x is = ap (λ t. cond t (s.states ++ Made ∷ []) (set s.states x Made)) (eq-eqb x (length s.states) is)

module _ (words last : ℕ) (buffer : Buffer) (s : ShelfView) (k : IsCounted words last buffer s) (x : ℕ) (can : IsOpen s x) where
  of-made : IsOfWidth words (with_made s x)
  of-made = record { width = k.of.width; room = k.of.room; taken = made-taken s x k.of.taken can }

  -- the words of a free entry are dead
  pub again-dead : x < length s.states → s.width ≤ buffer.dead
  again-dead below =
      let less = count-less is_dead s.states x Made below (idle last (state_at s.states x) (can.free below)).dead refl in
      omega (arith, k.dead, words-more s.width (count_by is_dead (set s.states x Made)) (count_by is_dead s.states) (sym less))

  pub counted-again : x < length s.states → (width : ℕ) → width ≡ s.width → IsCounted words last (record buffer { dead = buffer.dead - width }) (with_made s x)
  counted-again below width wide =
      let is = again-states s x below in
      let free = idle last (state_at s.states x) (can.free below) in
      let less = count-less is_dead s.states x Made below free.dead refl in
      record {
        of = of-made;
        width = k.width;
        sealed = k.sealed;
        used = k.used ∙ ap (λ n. s.width * (1 + n)) (sym (ap length is ∙ length-set {A = State} s.states x Made));
        dead =
            (let moved : buffer.dead - width ≡ s.width * count_by is_dead (set s.states x Made) =
            omega (arith, k.dead, wide, words-more s.width (count_by is_dead (set s.states x Made)) (count_by is_dead s.states) (sym less)) in
            moved ∙ ap (λ t. s.width * count_by is_dead t) (sym is));
        held = k.held ∙ ap (λ n. s.width * n) (sym (ap (count_by (is_held last)) is ∙ count-keep (is_held last) s.states x Made below (sym free.held)));
        dropped = k.dropped ∙ ap (λ n. s.width * n) (sym (ap (count_by (is_since last)) is ∙ count-keep (is_since last) s.states x Made below (sym free.since)));
      }

  pub counted-next : x ≡ length s.states → (width : ℕ) → width ≡ s.width → IsCounted words last (record buffer { used = buffer.used + width }) (with_made s x)
  counted-next next width wide =
      let is = next-states s x next in
      record {
        of = of-made;
        width = k.width;
        sealed = k.sealed;
        used =
            (let moved : buffer.used + width ≡ s.width * (1 + length (s.states ++ Made ∷ [])) =
            omega (arith, k.used, wide, words-more s.width (1 + length s.states) (1 + length (s.states ++ Made ∷ [])) (omega (arith, length_push s.states Made))) in
            moved ∙ ap (λ t. s.width * (1 + length t)) (sym is));
        dead = k.dead ∙ ap (λ n. s.width * n) (sym (ap (count_by is_dead) is ∙ pushed is_dead refl));
        held = k.held ∙ ap (λ n. s.width * n) (sym (ap (count_by (is_held last)) is ∙ pushed (is_held last) refl));
        dropped = k.dropped ∙ ap (λ n. s.width * n) (sym (ap (count_by (is_since last)) is ∙ pushed (is_since last) refl));
      }
    where
      pushed : (test : State → Bool) → test Made ≡ false → count_by test (s.states ++ Made ∷ []) ≡ count_by test s.states
      pushed test out =
          let none : one_if (test Made) ≡ 0 = ap one_if out in
          omega (arith, sum_by_push (λ t. cond (test t) 1 0) s.states Made, none)

  -- none of it is dropped
  pub unheld-made : unheld_in (with_made s x) ≡ unheld_in s
  unheld-made = ap (λ n. s.room - n) (elim (cases_eq x (length s.states)) [
    | inl e ↦
        (let none : one_if (is_dropped Made) ≡ 0 = refl in
        ap (count_by is_dropped) (next-states s x e) ∙ omega (arith, sum_by_push (λ t. cond (is_dropped t) 1 0) s.states Made, none))
    | inr ne ↦
        (let below : x < length s.states = omega (arith, can.within, ne) in
        ap (count_by is_dropped) (again-states s x below) ∙ count-keep is_dropped s.states x Made below (sym (idle last (state_at s.states x) (can.free below)).dropped))
  ])
