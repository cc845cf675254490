-- What holds of states, buffers and counts, and of the list, after a call.
use Rattle.std.proofs.Common.{◌≡◌, ℕ, ◌+◌, ◌≤◌, true, false, cond, List, [], ◌∷◌, Option, None, Some, refl, sym, ap, ◌∙◌, arith, inl, inr}
use Rattle.std.proofs.lemmas.List.Elements.{All-weaker}
use Rattle.std.proofs.lemmas.Bool.{cases_eq, eq-eqb, ne_eqb, true≢false}
use Rattle.list_lemmas.proofs.Options.{same_Some}
use Rattle.entry_ref.specs.References.{buffer_of}
use Rattle.store_api.specs.Ledgers.{OfWidth, widths, buffers_in, one_more, with_counts}
use Rattle.store_api.specs.Calls.{took_spare}
use Rattle.buffer_states.specs.Buffers.{is_state_free, is_state_active, is_on_hold}
use Rattle.entry_ledger.specs.declared.state.State.{State}
use Rattle.entry_ledger.specs.declared.state.State.TheVariants.{Free, Returned, Made, InUse, LetGo, DroppedNow, Dropped}
use Rattle.hold_lists.specs.Held.{HeldEntry, HoldTag}
use Rattle.entry_ledger.specs.Entries.{EntriesView, is_timely, count_marks}
use Rattle.entry_ledger.specs.Calls.{with_state, made_at}
use Rattle.entry_ledger.specs.Ledgers.{tag_fits, tag_below, held_fits, is_in_list, IsHeldList, IsSound}

-- the buffers of widths, where each width has as many
pub buffers-in-same : (f g : ℕ → OfWidth) → ((w : ℕ) → (f w).buffers ≡ (g w).buffers) → (ws : List ℕ) → buffers_in f ws ≡ buffers_in g ws
buffers-in-same f g same [] = refl
buffers-in-same f g same (w ∷ ws) = omega (arith, same w, buffers-in-same f g same ws)

-- a field of the counts that stays
pub counts-keep : {A : Type 0} (field : OfWidth → A) (counts : ℕ → OfWidth) (width : ℕ) (new : OfWidth) → field new ≡ field (counts width)
    → (w : ℕ) → field (with_counts counts width new w) ≡ field (counts w)
counts-keep field counts width new same w = elim (cases_eq w width) [
  | inl e ↦ ap (λ t. field (cond t new (counts w))) (eq-eqb w width e) ∙ same ∙ ap (λ v. field (counts v)) (sym e)
  | inr ne ↦ ap (λ t. field (cond t new (counts w))) (ne_eqb w width ne)
]

one-more-le : (n : ℕ) → n ≤ 18446744073709551615 → (n ≤ one_more n) × (one_more n ≤ 18446744073709551615)
one-more-le n low = (omega (arith, low), omega arith)

-- a state after one entry has another
pub state-cases : {P : Type 0} (states : ℕ → Option State) (r : ℕ) (new : State) (q : ℕ) (s : State) → with_state states r new q ≡ Some s
    → (q ≡ r → new ≡ s → P) → (states q ≡ Some s → P) → P
state-cases states r new q s is here other = elim (cases_eq q r) [
  | inl e ↦ here e (same_Some new s (sym (ap (λ t. cond t (Some new) (states q)) (eq-eqb q r e)) ∙ is))
  | inr ne ↦ other (sym (ap (λ t. cond t (Some new) (states q)) (ne_eqb q r ne)) ∙ is)
]

pub sound-made : (e : EntriesView) (width r : ℕ) → IsSound e → IsSound (made_at e width r)
sound-made e width r k = record {
  order = k.order;
  up_to = λ q s is. state-cases e.state r Made q s is (λ same new. ap (is_timely e) (sym new)) (λ was. k.up_to q s was);
  marks = λ b. record { width = (k.marks b).width; from = (k.marks b).from; to = (k.marks b).to };
  sealed = λ b is. record {
    below = (k.sealed b is).below;
    active = (k.sealed b is).active;
    unfilled = λ f. (k.sealed b is).unfilled (sym (counts-keep (λ c. c.filled) e.of_width width (took_spare (e.of_width width)) refl (e.mark b).width) ∙ f);
  };
  finished = k.finished;
  few_made = made-few;
  whole = ap (λ n. count_marks is_state_free e.mark e.count + n)
      (buffers-in-same (with_counts e.of_width width (took_spare (e.of_width width))) e.of_width (counts-keep (λ c. c.buffers) e.of_width width (took_spare (e.of_width width)) refl) widths)
      ∙ k.whole;
}
  where
    made-few : (w : ℕ) → (with_counts e.of_width width (took_spare (e.of_width width)) w).made ≤ 18446744073709551615
    made-few w = elim (cases_eq w width) [
      | inl same ↦
          (let is : (with_counts e.of_width width (took_spare (e.of_width width)) w).made ≡ one_more (e.of_width width).made =
          ap (λ t. (cond t (took_spare (e.of_width width)) (e.of_width w)).made) (eq-eqb w width same) in
          omega (arith, is, (one-more-le (e.of_width width).made (k.few_made width)).1))
      | inr ne ↦ (let is = ap (λ t. (cond t (took_spare (e.of_width width)) (e.of_width w)).made) (ne_eqb w width ne) in omega (arith, is, k.few_made w))
    ]

-- an entry that is not dropped has no tag
pub not-tagged : (last generation : ℕ) (tag : Option HoldTag) (state : Option State) → ((after g : ℕ) → state ≡ Some (Dropped after g) → ⊥) → tag_fits last generation tag state ≡ false
not-tagged last generation None None never = refl
not-tagged last generation None (Some Free) never = refl
not-tagged last generation None (Some Returned) never = refl
not-tagged last generation None (Some Made) never = refl
not-tagged last generation None (Some (InUse after)) never = refl
not-tagged last generation None (Some LetGo) never = refl
not-tagged last generation None (Some (DroppedNow after)) never = refl
not-tagged last generation None (Some (Dropped after g)) never = absurd (never after g refl)
not-tagged last generation (Some tag) None never = refl
not-tagged last generation (Some tag) (Some Free) never = refl
not-tagged last generation (Some tag) (Some Returned) never = refl
not-tagged last generation (Some tag) (Some Made) never = refl
not-tagged last generation (Some tag) (Some (InUse after)) never = refl
not-tagged last generation (Some tag) (Some LetGo) never = refl
not-tagged last generation (Some tag) (Some (DroppedNow after)) never = refl
not-tagged last generation (Some tag) (Some (Dropped after g)) never = absurd (never after g refl)

-- the list stays where an entry of an active buffer that is not dropped gets a state that is not either
pub list-keep : (bits : ℕ) (e new : EntriesView) (held : List HeldEntry) (r : ℕ) (state : State) → IsHeldList bits e held
    → new.last ≡ e.last → new.generation ≡ e.generation → ((b : ℕ) → new.mark b ≡ e.mark b) → ((q : ℕ) → new.state q ≡ with_state e.state r state q)
    → is_state_active (e.mark (buffer_of bits r)).state ≡ true → ((after g : ℕ) → e.state r ≡ Some (Dropped after g) → ⊥) → ((after g : ℕ) → state ≡ Dropped after g → ⊥)
    → IsHeldList bits new held
list-keep bits e new held r state k last generation marks states active was now = record {
  each = All-weaker (λ h. is_in_list bits e h ≡ true) (λ h. is_in_list bits new h ≡ true) each held k.each;
  apart = k.apart;
  all = λ q after g is. state-cases e.state r state q (Dropped after g) (sym (states q) ∙ is) (λ same e. absurd (now after g e)) (λ before. k.all q after g before);
}
  where
    moved : (h : HeldEntry) (s : Option State) → e.state h.entry ≡ s → new.state h.entry ≡ s → is_in_list bits new h ≡ is_in_list bits e h
    moved h s is next =
        ap (λ n. held_fits n new.generation (new.mark (buffer_of bits h.entry)) h.tag (new.state h.entry)) last
        ∙ ap (λ n. held_fits e.last n (new.mark (buffer_of bits h.entry)) h.tag (new.state h.entry)) generation
        ∙ ap (λ m. held_fits e.last e.generation m h.tag (new.state h.entry)) (marks (buffer_of bits h.entry))
        ∙ ap (λ t. held_fits e.last e.generation (e.mark (buffer_of bits h.entry)) h.tag t) (next ∙ sym is)

    each : (h : HeldEntry) → is_in_list bits e h ≡ true → is_in_list bits new h ≡ true
    each h is = elim (cases_eq h.entry r) [
      | inl same ↦
          (let here : is_state_active (e.mark (buffer_of bits h.entry)).state ≡ true = ap (λ q. is_state_active (e.mark (buffer_of bits q)).state) same ∙ active in
          let fits : tag_fits e.last e.generation h.tag (e.state h.entry) ≡ true =
          sym (ap (λ t. cond t (tag_fits e.last e.generation h.tag (e.state h.entry)) (cond (is_on_hold (e.mark (buffer_of bits h.entry)).state) (tag_below (e.mark (buffer_of bits h.entry)).generation h.tag) false))
          here) ∙ is in
          absurd (true≢false (sym fits ∙ not-tagged e.last e.generation h.tag (e.state h.entry) (λ after g d. was after g (ap e.state (sym same) ∙ d)))))
      | inr ne ↦ moved h (e.state h.entry) refl (states h.entry ∙ ap (λ t. cond t (Some state) (e.state h.entry)) (ne_eqb h.entry r ne)) ∙ is
    ]
