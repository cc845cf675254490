-- What the writer's steps on holds owe.
use Rattle.std.proofs.Common.{◌≡◌, ℕ, ◌+◌, ◌-◌, ◌%◌, ◌^◌, ◌<◌, ◌≤◌, List, [], ◌∷◌, length, true, set, slice_index, Some, eqb, refl, sym, ap, ◌∙◌, subst, arith}
use prog.Atomic.{either}
use mathlib.Core.Logic.{dite}
use native.Mathlib.Decide.{ℕ_discrete}
use mathlib.Core.Option.{none}
use Rattle.std.specs.Prelude.{slice_get, count_by}
use Rattle.list_lemmas.proofs.Options.{same_Some}
use Rattle.atomic_table.specs.Table.{Me, step, Allows}
use Rattle.atomic_table.proofs.Lists.{exchanged}
use Rattle.entry_ref.specs.Records.{Records}
use Rattle.entry_ref.specs.Places.{state_place}
use Rattle.gen_core.specs.declared.views.Sizes.{Sizes}
use Rattle.gen_core.specs.declared.views.OpenHold.{OpenHold}
use Rattle.gen_core.specs.declared.views.Tag.{Tag}
use Rattle.gen_core.specs.declared.views.Pending.TheVariants.{Nothing, Next, Probed}
use Rattle.gen_core.specs.declared.views.Buffer.TheVariants.{Held}
use Rattle.gen_core.specs.declared.views.View.TheVariants.{Writer}
use Rattle.gen_core.specs.declared.views.WriterView.{WriterView}
use Rattle.gen_core.specs.declared.views.ReaderView.{ReaderView}
use Rattle.gen_core.specs.declared.views.Event.TheVariants.{PutOnHold, FreeBuffer, Reopen, StoreNewest, Close, StopAtOldest, Probe, StopAtNewest, Morph}
use Rattle.gen_core.specs.Views.{hold_place, newest_word, active_in, is_open_hold, is_counted_on, oldest_in, queue_of}
use Rattle.gen_core.specs.Good.{State as CoreState, HoldFits, Good, hold_word}
use Rattle.gen_core.proofs.Holds.{at_newest, at_oldest, newest-open, first-open}
use Rattle.gen_core.specs.declared.views.Pending.{Pending}
use Rattle.gen_core.specs.Steps.{next_hold}
use Rattle.gen_core.specs.Conditions.{MayReopen, MayPutOnHold, MayFree}
use Rattle.gen_core.specs.Events.{probed, coming_hold, advanced, morphed, put_aside, freed, reopened, closed, stopped, Happens}
use Rattle.gen_core.proofs.Advancing.{closed-word, reopen_keeps, store_newest_keeps, probe_keeps, stop_keeps}
use Rattle.gen_core.proofs.Closing.{close_keeps, morph_keeps}
use Rattle.gen_core.proofs.Buffers.{put_on_hold_keeps, free_keeps}
use Rattle.word_arena.specs.declared.rule.Watched.{Watched}
use Rattle.word_arena.specs.Watched.{OneRun}
use Rattle.word_arena.specs.Ruled.{Slot, bare, Becomes}
use Rattle.word_arena.specs.WriterHolds.{told_reopen, told_store_newest, told_morph, told_probe, told_close, told_hold, told_free}
use Rattle.word_arena.specs.PlayEvents.{plays_reopen, plays_store_newest, plays_morph, plays_probe, plays_close, plays_hold, plays_free}
use Rattle.word_arena.proofs.Allowed.{core, told_at, WriterDoes, writer_step}
use Rattle.gen_core.proofs.GoodViews.{good_view}
use Rattle.gen_core.proofs.OneStep.{set_back}

-- where no reader was made, an open hold is unused
alone-unused : (reaches : ℕ → Records → ℕ → List ℕ) (lawful : ℕ → Records → ℕ → Type 0) (s : CoreState) → Good reaches lawful s → (h : ℕ) → h < 16 → is_open_hold s.writer.queue h ≡ true
    → s.writer.made ≡ 0 → slice_index s.words (hold_place h) ≡ 0
alone-unused reaches lawful s g h low opened made =
    g.counts.counts h low ∙ (λ k. hold_word (count_by (λ r. is_counted_on h r.state) (no-readers s.readers (g.counts.views ∙ made) k)) (opened k))
  where
    no-readers : (rs : List ReaderView) → length rs ≡ 0 → rs ≡ []
    no-readers [] e = refl
    no-readers (r ∷ rs) e = absurd (omega (arith, e))

module _ (reaches : ℕ → Records → ℕ → List ℕ) (lawful : ℕ → Records → ℕ → Type 0) (sizes : Sizes) where
  one_next : (a b : ℕ) → Next a ≡ Next b → a ≡ b
  one_next a b e = cc

  pub store_newest_owed : (slots id : ℕ) (me : Me Slot Watched) (w : WriterView) (h n : ℕ) → bare me ≡ (Writer w, []) → n ≡ newest_word (coming_hold w h) → w.queue.pending ≡ Next h
      → Allows (OneRun reaches lawful sizes) slots id me 1 (λ _. n) (λ _. plays_store_newest reaches lawful (step slots 1 n 0 none) me n)
  store_newest_owed slots id me w h n is at next =
      subst (λ (m : ℕ). Allows (OneRun reaches lawful sizes) slots id me 1 (λ _. m) (λ _. plays_store_newest reaches lawful (step slots 1 m 0 none) me m)) (sym at)
      (writer_step reaches lawful sizes slots id me w 1 (λ _. newest_word (coming_hold w h)) (λ _. newest_word (coming_hold w h)) (step slots 1 (newest_word (coming_hold w h)) 0 none)
      (plays_store_newest reaches lawful (step slots 1 (newest_word (coming_hold w h)) 0 none) me) is (λ words readers good small.
      let more = store_newest_keeps reaches lawful (core words w readers) h good next in
      record {
        v = advanced w h;
        e = StoreNewest;
        seat = refl;
        noted = λ k. refl;
        same = refl;
        happens = (h, next, refl);
        good = more;
        word = refl;
        operands = ap (λ (p : Pending). newest_word (coming_hold w (next_hold p))) (sym next);
        found_is = ap (λ (p : Pending). newest_word (coming_hold w (next_hold p))) (sym next);
        tells = λ me' now event. record {
          told = told_at me me' (λ m m'. told_store_newest (step slots 1 (newest_word (coming_hold w h)) 0 none) m (newest_word (coming_hold w h)) m') is now (λ other is'.
              let e : h ≡ other = one_next h other (sym next ∙ is') in
              subst (λ (c : ℕ). Becomes (Writer w, []) (advanced w c) (Writer (advanced w h), [])) e
              (record { is = refl; good = good_view reaches lawful (core (set words 1 (newest_word (coming_hold w h))) (advanced w h) readers) more }));
          event = event;
        };
      }))

  pub morph_owed : (slots id : ℕ) (me : Me Slot Watched) (w : WriterView) (n : ℕ) → bare me ≡ (Writer w, []) → n ≡ newest_word (coming_hold w w.queue.newest.hold) → w.queue.pending ≡ Probed
      → Allows (OneRun reaches lawful sizes) slots id me 1 (λ _. n) (λ _. plays_morph reaches lawful (step slots 1 n 0 none) me n)
  morph_owed slots id me w n is at found =
      subst (λ (m : ℕ). Allows (OneRun reaches lawful sizes) slots id me 1 (λ _. m) (λ _. plays_morph reaches lawful (step slots 1 m 0 none) me m)) (sym at)
      (writer_step reaches lawful sizes slots id me w 1 (λ _. newest_word (coming_hold w w.queue.newest.hold)) (λ _. newest_word (coming_hold w w.queue.newest.hold)) (step slots 1 (newest_word (coming_hold w w.queue.newest.hold)) 0 none)
      (plays_morph reaches lawful (step slots 1 (newest_word (coming_hold w w.queue.newest.hold)) 0 none) me) is (λ words readers good small.
      let more = morph_keeps reaches lawful (core words w readers) good found in
      record {
        v = morphed w;
        e = Morph;
        seat = refl;
        noted = λ k. refl;
        same = refl;
        happens = (found, refl);
        good = more;
        word = refl;
        operands = refl;
        found_is = refl;
        tells = λ me' now event. record {
          told = told_at me me' (λ m m'. told_morph (step slots 1 (newest_word (coming_hold w w.queue.newest.hold)) 0 none) m (newest_word (coming_hold w w.queue.newest.hold)) m') is now
              (λ _. record { is = refl; good = good_view reaches lawful (core (set words 1 (newest_word (coming_hold w w.queue.newest.hold))) (morphed w) readers) more });
          event = event;
        };
      }))

  closed-some : (s : CoreState) → Good reaches lawful s → (h : ℕ) → MayReopen s.writer h → 0 < slice_index s.words (hold_place h)
  closed-some s g h may = let word = closed-word reaches lawful s h g may in omega (arith, word)

  -- a count that is closed is odd, so one less is no wrap
  pub reopen_owed : (slots id : ℕ) (me : Me Slot Watched) (w : WriterView) (h p : ℕ) → bare me ≡ (Writer w, []) → p ≡ hold_place h → MayReopen w h
      → Allows (OneRun reaches lawful sizes) slots id me p (λ n. (n + (2 ^ 64 - 1)) % 2 ^ 64) (plays_reopen reaches lawful (step slots p 1 0 none) me)
  reopen_owed slots id me w h p is at may =
      subst (λ (q : ℕ). Allows (OneRun reaches lawful sizes) slots id me q (λ n. (n + (2 ^ 64 - 1)) % 2 ^ 64) (plays_reopen reaches lawful (step slots q 1 0 none) me)) (sym at)
      (writer_step reaches lawful sizes slots id me w (hold_place h) (λ n. (n + (2 ^ 64 - 1)) % 2 ^ 64) (λ n. n) (step slots (hold_place h) 1 0 none) (plays_reopen reaches lawful (step slots (hold_place h) 1 0 none) me) is (λ words readers good small.
      let found : ℕ = slice_index words (hold_place h) in
      let one : 0 < found = closed-some (core words w readers) good h may in
      let less : found - 1 ≡ (found + (2 ^ 64 - 1)) % 2 ^ 64 = omega (arith, one, small) in
      let more = reopen_keeps reaches lawful (core words w readers) h good may in
      let both : Happens reaches lawful (core words w readers) (Reopen h) (core (set words (hold_place h) ((found + (2 ^ 64 - 1)) % 2 ^ 64)) (reopened w h) readers)
      × Good reaches lawful (core (set words (hold_place h) ((found + (2 ^ 64 - 1)) % 2 ^ 64)) (reopened w h) readers) =
      subst (λ (n : ℕ). Happens reaches lawful (core words w readers) (Reopen h) (core (set words (hold_place h) n) (reopened w h) readers) × Good reaches lawful (core (set words (hold_place h) n) (reopened w h) readers)) less ((may, refl), more) in
      record {
        v = reopened w h;
        e = Reopen h;
        seat = refl;
        noted = λ k. refl;
        same = refl;
        happens = both.0;
        good = both.1;
        word = refl;
        operands = refl;
        found_is = refl;
        tells = λ me' now event. record {
          told = told_at me me' (λ m m'. told_reopen (step slots (hold_place h) 1 0 none) m found m') is now (λ other same.
              let e : h ≡ other = omega arith in
              subst (λ (c : ℕ). Becomes (Writer w, []) (reopened w c) (Writer (reopened w h), [])) e
              (record { is = refl; good = good_view reaches lawful (core (set words (hold_place h) (found - 1)) (reopened w h) readers) more }));
          event = (h, event);
        };
      }))

  pub hold_owed : (slots id : ℕ) (me : Me Slot Watched) (w : WriterView) (b width p : ℕ) → bare me ≡ (Writer w, []) → p ≡ state_place b → MayPutOnHold w b width
      → Allows (OneRun reaches lawful sizes) slots id me p (λ _. 2) (λ _. plays_hold reaches lawful (step slots p 2 0 none) me 2)
  hold_owed slots id me w b width p is at may =
      subst (λ (q : ℕ). Allows (OneRun reaches lawful sizes) slots id me q (λ _. 2) (λ _. plays_hold reaches lawful (step slots q 2 0 none) me 2)) (sym at)
      (writer_step reaches lawful sizes slots id me w (state_place b) (λ _. 2) (λ _. 2) (step slots (state_place b) 2 0 none) (plays_hold reaches lawful (step slots (state_place b) 2 0 none) me) is (λ words readers good small.
      let v : WriterView = put_aside w b width in
      let more = put_on_hold_keeps reaches lawful (core words w readers) b width good may in
      record {
        v = v;
        e = PutOnHold b;
        seat = refl;
        noted = λ k. refl;
        same = refl;
        happens = (width, may, refl);
        good = more;
        word = refl;
        operands = refl;
        found_is = refl;
        tells = λ me' now event. record {
          told = told_at me me' (λ m m'. told_hold (step slots (state_place b) 2 0 none) m 2 m') is now (λ other width' same active.
              let e : b ≡ other = omega arith in
              let f : width ≡ width' = same_Some width width' (sym may.active ∙ ap (active_in w.buffers) e ∙ active) in
              let P : ℕ × ℕ → Type 0 = λ x. Becomes (Writer w, []) (put_aside w x.0 x.1) (Writer v, []) in
              subst P (λ i. (e i, f i)) (record { is = refl; good = good_view reaches lawful (core (set words (state_place b) 2) v readers) more }));
          event = (b, event);
        };
      }))

  one_tag : (m n : ℕ) (s t : Tag) → Some (Held m s) ≡ Some (Held n t) → s ≡ t
  one_tag m n s t h = cc

  pub free_owed : (slots id : ℕ) (me : Me Slot Watched) (w : WriterView) (b : ℕ) (tag : Tag) (p : ℕ) → bare me ≡ (Writer w, []) → p ≡ state_place b → MayFree w b tag
      → Allows (OneRun reaches lawful sizes) slots id me p (λ _. 0) (λ _. plays_free reaches lawful (step slots p 0 0 none) me 0)
  free_owed slots id me w b tag p is at may =
      subst (λ (q : ℕ). Allows (OneRun reaches lawful sizes) slots id me q (λ _. 0) (λ _. plays_free reaches lawful (step slots q 0 0 none) me 0)) (sym at)
      (writer_step reaches lawful sizes slots id me w (state_place b) (λ _. 0) (λ _. 0) (step slots (state_place b) 0 0 none) (plays_free reaches lawful (step slots (state_place b) 0 0 none) me) is (λ words readers good small.
      let v : WriterView = freed w b tag in
      let more = free_keeps reaches lawful (core words w readers) b tag good may in
      record {
        v = v;
        e = FreeBuffer b;
        seat = refl;
        noted = λ k. refl;
        same = refl;
        happens = (tag, may, refl);
        good = more;
        word = refl;
        operands = refl;
        found_is = refl;
        tells = λ me' now event. record {
          told = told_at me me' (λ m m'. told_free (step slots (state_place b) 0 0 none) m 0 m') is now (λ other width tag' same held.
              let e : b ≡ other = omega arith in
              let f : tag ≡ tag' = one_tag may.width width tag tag' (sym may.held ∙ ap (slice_get w.buffers) e ∙ held) in
              let P : ℕ × Tag → Type 0 = λ x. Becomes (Writer w, []) (freed w x.0 x.1) (Writer v, []) in
              subst P (λ i. (e i, f i)) (record { is = refl; good = good_view reaches lawful (core (set words (state_place b) 0) v readers) more }));
          event = (b, event);
        };
      }))

  one_tail : (a b : OpenHold) (xs ys : List OpenHold) → a ∷ xs ≡ b ∷ ys → xs ≡ ys
  one_tail a b xs ys h = cc

  pub close_owed : (slots id : ℕ) (me : Me Slot Watched) (w : WriterView) (e : OpenHold) (es : List OpenHold) (p : ℕ) → bare me ≡ (Writer w, []) → p ≡ hold_place e.hold → w.queue.pending ≡ Nothing → w.queue.older ≡ e ∷ es
      → Allows (OneRun reaches lawful sizes) slots id me p (λ n. either (eqb n 0) 1 n) (plays_close reaches lawful (step slots p 0 1 none) me)
  close_owed slots id me w e es p is at calm older =
      subst (λ (q : ℕ). Allows (OneRun reaches lawful sizes) slots id me q (λ n. either (eqb n 0) 1 n) (plays_close reaches lawful (step slots q 0 1 none) me)) (sym at)
      (writer_step reaches lawful sizes slots id me w (hold_place e.hold) (λ n. either (eqb n 0) 1 n) (λ n. n) (step slots (hold_place e.hold) 0 1 none) (plays_close reaches lawful (step slots (hold_place e.hold) 0 1 none) me) is (λ words readers good small.
      let found : ℕ = slice_index words (hold_place e.hold) in
      let F : ℕ → Type 0 = λ n. WriterDoes reaches lawful sizes me w words readers (hold_place e.hold) n (step slots (hold_place e.hold) 0 1 none) found (plays_close reaches lawful (step slots (hold_place e.hold) 0 1 none) me found) in
      exchanged found 0 1 F
      (λ zero.
      let more = close_keeps reaches lawful (core words w readers) e es good (record { calm = calm; is = older }) zero in
      record {
        v = closed w es;
        e = Close;
        seat = refl;
        noted = λ k. refl;
        same = refl;
        happens = (e, es, record { calm = calm; is = older }, zero, refl);
        good = more;
        word = ap (λ (o : List OpenHold). hold_place (oldest_in o w.queue.newest).hold) (sym older);
        operands = (refl, refl);
        found_is = refl;
        tells = λ me' now event. record {
          told = told_at me me' (λ m m'. told_close (step slots (hold_place e.hold) 0 1 none) m found m') is now (record {
            alone = λ _. zero;
            hit = λ _ d ds is'.
                let same : es ≡ ds = one_tail e d es ds (sym older ∙ is') in
                subst (λ (l : List OpenHold). Becomes (Writer w, []) (closed w l) (Writer (closed w es), [])) same
                (record { is = refl; good = good_view reaches lawful (core (set words (hold_place e.hold) 1) (closed w es) readers) more });
            miss = λ ne. absurd (ne zero);
          });
          event = record { hit = λ _. event; miss = λ ne. absurd (ne zero) };
        };
      })
      (λ ne.
      let more = stop_keeps reaches lawful (core words w readers) found good in
      let both : Happens reaches lawful (core words w readers) StopAtOldest (core (set words (hold_place e.hold) found) (stopped w found) readers) × Good reaches lawful (core (set words (hold_place e.hold) found) (stopped w found) readers) =
      subst (λ (l : List ℕ). Happens reaches lawful (core words w readers) StopAtOldest (core l (stopped w found) readers) × Good reaches lawful (core l (stopped w found) readers)) (sym (set_back words (hold_place e.hold)))
      ((e, es, record { calm = calm; is = older }, ne, refl), more) in
      record {
        v = stopped w found;
        e = StopAtOldest;
        seat = refl;
        noted = λ k. refl;
        same = refl;
        happens = both.0;
        good = both.1;
        word = ap (λ (o : List OpenHold). hold_place (oldest_in o w.queue.newest).hold) (sym older);
        operands = (refl, refl);
        found_is = refl;
        tells = λ me' now event. record {
          told = told_at me me' (λ m m'. told_close (step slots (hold_place e.hold) 0 1 none) m found m') is now (record {
            hit = λ zero. absurd (ne zero);
            miss = λ _. record { is = refl; good = good_view reaches lawful (core words (stopped w found) readers) more };
            alone = λ made.
                let low : e.hold < 16 = subst (λ (x : OpenHold). x.hold < 16) (ap (λ (o : List OpenHold). oldest_in o w.queue.newest) older)
                (at_oldest (HoldFits w.commits) w.queue.older w.queue.newest good.queue.each).hold in
                let opened : is_open_hold w.queue e.hold ≡ true =
                ap (λ (o : List OpenHold). is_open_hold (queue_of o w.queue.newest w.queue.pending) e.hold) older ∙ first-open e es w.queue.newest w.queue.pending in
                alone-unused reaches lawful (core words w readers) good e.hold low opened made;
          });
          event = record { hit = λ zero. absurd (ne zero); miss = λ _. event };
        };
      })))

  pub probe_owed : (slots id : ℕ) (me : Me Slot Watched) (w : WriterView) (p : ℕ) → bare me ≡ (Writer w, []) → p ≡ hold_place w.queue.newest.hold → w.queue.pending ≡ Nothing → w.queue.newest.generation + 1 ≤ w.sizes.generation_limit
      → Allows (OneRun reaches lawful sizes) slots id me p (λ n. n) (plays_probe reaches lawful (step slots p 0 0 none) me)
  probe_owed slots id me w p is at calm left =
      subst (λ (q : ℕ). Allows (OneRun reaches lawful sizes) slots id me q (λ n. n) (plays_probe reaches lawful (step slots q 0 0 none) me)) (sym at)
      (writer_step reaches lawful sizes slots id me w (hold_place w.queue.newest.hold) (λ n. n) (λ n. n) (step slots (hold_place w.queue.newest.hold) 0 0 none) (plays_probe reaches lawful (step slots (hold_place w.queue.newest.hold) 0 0 none) me) is (λ words readers good small.
      let found : ℕ = slice_index words (hold_place w.queue.newest.hold) in
      dite (ℕ_discrete found 0)
      (λ zero.
      let more = probe_keeps reaches lawful (core words w readers) good (record { calm = calm; left = left }) zero in
      let both : Happens reaches lawful (core words w readers) Probe (core (set words (hold_place w.queue.newest.hold) found) (probed w) readers) × Good reaches lawful (core (set words (hold_place w.queue.newest.hold) found) (probed w) readers) =
      subst (λ (l : List ℕ). Happens reaches lawful (core words w readers) Probe (core l (probed w) readers) × Good reaches lawful (core l (probed w) readers)) (sym (set_back words (hold_place w.queue.newest.hold)))
      ((record { calm = calm; left = left }, zero, refl), more) in
      record {
        v = probed w;
        e = Probe;
        seat = refl;
        noted = λ k. refl;
        same = refl;
        happens = both.0;
        good = both.1;
        word = refl;
        operands = tt;
        found_is = refl;
        tells = λ me' now event. record {
          told = told_at me me' (λ m m'. told_probe (step slots (hold_place w.queue.newest.hold) 0 0 none) m found m') is now
              (record { hit = λ _. record { is = refl; good = good_view reaches lawful (core words (probed w) readers) more }; miss = λ ne. absurd (ne zero); alone = λ _. zero });
          event = record { hit = λ _. event; miss = λ ne. absurd (ne zero) };
        };
      })
      (λ ne.
      let more = stop_keeps reaches lawful (core words w readers) found good in
      let both : Happens reaches lawful (core words w readers) StopAtNewest (core (set words (hold_place w.queue.newest.hold) found) (stopped w found) readers) × Good reaches lawful (core (set words (hold_place w.queue.newest.hold) found) (stopped w found) readers) =
      subst (λ (l : List ℕ). Happens reaches lawful (core words w readers) StopAtNewest (core l (stopped w found) readers) × Good reaches lawful (core l (stopped w found) readers)) (sym (set_back words (hold_place w.queue.newest.hold)))
      ((record { calm = calm; left = left }, ne, refl), more) in
      record {
        v = stopped w found;
        e = StopAtNewest;
        seat = refl;
        noted = λ k. refl;
        same = refl;
        happens = both.0;
        good = both.1;
        word = refl;
        operands = tt;
        found_is = refl;
        tells = λ me' now event. record {
          told = told_at me me' (λ m m'. told_probe (step slots (hold_place w.queue.newest.hold) 0 0 none) m found m') is now (record {
            hit = λ zero. absurd (ne zero);
            miss = λ _. record { is = refl; good = good_view reaches lawful (core words (stopped w found) readers) more };
            alone = alone-unused reaches lawful (core words w readers) good w.queue.newest.hold (at_newest (HoldFits w.commits) w.queue.older w.queue.newest good.queue.each).hold (newest-open w.queue);
          });
          event = record { hit = λ zero. absurd (ne zero); miss = λ _. event };
        };
      })))
