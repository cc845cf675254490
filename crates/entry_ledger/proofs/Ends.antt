-- A unit's end, entry by entry.
use Rattle.std.proofs.Common.{◌≡◌, ℕ, ◌+◌, Bool, true, false, cond, Option, None, Some, refl, sym, ap, ◌∙◌, arith, inl, inr}
use Rattle.std.specs.Option.{option_map}
use Rattle.std.proofs.lemmas.Bool.{cases_eq, eq-eqb, ne_eqb, not-true}
use Rattle.store_api.specs.Calls.{EndsOf}
use Rattle.entry_ledger.specs.declared.state.State.{State}
use Rattle.entry_ledger.specs.States.{is_touched, settled_state}
use Rattle.entry_ledger.proofs.Settling.{settled-same, settled-again}
use Rattle.entry_ledger.specs.Entries.{EntriesView, is_settled_entry}
use Rattle.entry_ledger.specs.Calls.{StepsEnd, IsEnded, Accepts, Undoes, with_state}

-- what a unit's end has made of the entries so far
pub record Ending (accepts : Bool) (first e : EntriesView) : Type 0 where
  pub states : (q : ℕ) → option_map (settled_state accepts first.last first.generation) (e.state q) ≡ option_map (settled_state accepts first.last first.generation) (first.state q)
  pub counts : (w : ℕ) → EndsOf (first.of_width w) (e.of_width w)
  pub even : accepts ≡ false → (w : ℕ) → (e.of_width w).spare + (e.of_width w).fresh ≡ (first.of_width w).spare + (first.of_width w).fresh
  pub same : e ≡ record first { state = e.state; of_width = e.of_width }

pub ending-start : (accepts : Bool) (e : EntriesView) → Ending accepts e e
ending-start accepts e = record {
  states = λ q. refl;
  counts = λ w. record { made = refl; buffers = refl; filled = refl; spare = omega arith };
  even = λ u w. refl;
  same = refl;
}

pub ending-step : (accepts : Bool) (first e new : EntriesView) → Ending accepts first e → StepsEnd accepts e new → Ending accepts first new
ending-step accepts first e new k step = record {
  states = λ q. ap (option_map (settled_state accepts first.last first.generation)) (step.state q) ∙ moved q ∙ k.states q;
  counts = λ w. (let a = k.counts w in let b = step.counts w in record {
    made = b.made ∙ a.made;
    buffers = b.buffers ∙ a.buffers;
    filled = b.filled ∙ a.filled;
    spare = omega (arith, a.spare, b.spare);
  });
  even = λ u w. step.even u w ∙ k.even u w;
  same = step.same ∙ ap (λ (t : EntriesView). record t { state = new.state; of_width = new.of_width }) k.same;
}
  where
    last : e.last ≡ first.last
    last = ap (λ (t : EntriesView). t.last) k.same

    generation : e.generation ≡ first.generation
    generation = ap (λ (t : EntriesView). t.generation) k.same

    -- settled twice is settled once
    moved : (q : ℕ) → option_map (settled_state accepts first.last first.generation) (with_state e.state step.entry (settled_state accepts e.last e.generation step.was) q)
        ≡ option_map (settled_state accepts first.last first.generation) (e.state q)
    moved q = elim (cases_eq q step.entry) [
      | inl same ↦
          ap (λ t. option_map (settled_state accepts first.last first.generation) (cond t (Some (settled_state accepts e.last e.generation step.was)) (e.state q))) (eq-eqb q step.entry same)
          ∙ ap (λ l. Some (settled_state accepts first.last first.generation (settled_state accepts l e.generation step.was))) last
          ∙ ap (λ g. Some (settled_state accepts first.last first.generation (settled_state accepts first.last g step.was))) generation
          ∙ ap Some (settled-again accepts first.last first.generation step.was)
          ∙ ap (option_map (settled_state accepts first.last first.generation)) (sym step.is ∙ ap e.state (sym same))
      | inr ne ↦ ap (λ t. option_map (settled_state accepts first.last first.generation) (cond t (Some (settled_state accepts e.last e.generation step.was)) (e.state q))) (ne_eqb q step.entry ne)
    ]

kept : (accepts : Bool) (last generation : ℕ) (o : Option State) → is_settled_entry o ≡ true → option_map (settled_state accepts last generation) o ≡ o
kept accepts last generation None is = refl
kept accepts last generation (Some s) is = ap Some (settled-same accepts last generation s (not-true (is_touched s) is))

pub ending-accepts : (first e : EntriesView) → Ending true first e → IsEnded e → Accepts first e
ending-accepts first e k ended = record {
  state = λ r. sym (kept true first.last first.generation (e.state r) (ended.settled r)) ∙ k.states r;
  counts = k.counts;
  fresh = ended.fresh;
  same = k.same;
}

pub ending-undoes : (first e : EntriesView) → Ending false first e → IsEnded e → Undoes first e
ending-undoes first e k ended = record {
  state = λ r. sym (kept false first.last first.generation (e.state r) (ended.settled r)) ∙ k.states r;
  counts = k.counts;
  spare = λ w. omega (arith, k.even refl w, ended.fresh w);
  fresh = ended.fresh;
  same = k.same;
}
