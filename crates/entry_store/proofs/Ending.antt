-- A commit's end: what stands after it, and what it made of the ledger.
use Rattle.std.proofs.Common.{◌≡◌, ℕ, ◌<◌, ◌≤◌, Bool, true, false, cond, eqb, ltb, [], length, Option, Some, None, refl, sym, ap, subst, ◌∙◌, arith}
use Rattle.std.specs.Prelude.{◌&&◌}
use Rattle.std.proofs.lemmas.Bool.{eqb-true, lt-ltb, and_parts}
use Rattle.entry_ref.specs.References.{buffer_of}
use Rattle.entry_ref.specs.Images.{words_at}
use Rattle.entry_ref.specs.Records.{Records}
use Rattle.arena_api.specs.Works.{WorkView, Buffer, last_image, oldest_of, newest_of}
use Rattle.arena_api.specs.Calls.{IsInOrder}
use Rattle.arena_api.specs.Generations.{IsQueue, LetsGo, Reclaims, Advances, current, advanced, reclaimed, freed_below}
use Rattle.arena_api.specs.declared.answers.Advance.{Advance}
use Rattle.arena_api.specs.declared.answers.Oldest.{Oldest}
use Rattle.buffer_states.specs.Buffers.{is_on_hold}
use Rattle.store_api.specs.Statuses.{Status, has_record, free_below}
use Rattle.store_api.specs.Ledgers.{is_this, is_held}
use Rattle.store_api.specs.Calls.{GivesBackOf, with_hold}
use Rattle.entry_ledger.specs.Entries.{EntriesView, Mark, IsGood, is_dropped_since}
use Rattle.entry_ledger.specs.Calls.{Frees}
use Rattle.entry_store.specs.Standing.{Stands, IsOver, statuses, records_by_status, ledger_of, is_mark_of}
use Rattle.entry_store.specs.Steps.{EndsCommit, retired_by, generation_by}
use Rattle.entry_store.proofs.Queues.{newest-drop, only-newest}
use Rattle.entry_store.proofs.Stands.{stands-reclaimed, over-from, status-freed}
use Rattle.entry_store.proofs.LedgerSteps.{sealed-freed}
use Rattle.entry_store.proofs.Along.{reclaim-rises, reclaimed-low}
use Rattle.entry_store.proofs.PublishSteps.{since-before}
use Rattle.entry_store.proofs.EndSteps.{status-retired, over-retired, sealed-retired, counts-retired, finished-retired, rises-advanced, stops-advanced, oldest-advanced, alone-advanced, late-advanced, status-advanced, over-advanced}

-- what a hold leaves of the work
hold-commits : {H : Type 0} (work : WorkView H) (finished : Option ℕ) → (with_hold work finished).commits ≡ work.commits
hold-commits work None = refl
hold-commits work (Some b) = refl

hold-queue : {H : Type 0} (work : WorkView H) (finished : Option ℕ) → (with_hold work finished).queue ≡ work.queue
hold-queue work None = refl
hold-queue work (Some b) = refl

hold-stops : {H : Type 0} (work : WorkView H) (finished : Option ℕ) → (with_hold work finished).stops ≡ work.stops
hold-stops work None = refl
hold-stops work (Some b) = refl

hold-made : {H : Type 0} (work : WorkView H) (finished : Option ℕ) → (with_hold work finished).made ≡ work.made
hold-made work None = refl
hold-made work (Some b) = refl

-- and of the entries
retired-last : (bits : ℕ) (e : EntriesView) (finished : Option ℕ) → (retired_by bits e finished).last ≡ e.last
retired-last bits e None = refl
retired-last bits e (Some b) = refl

retired-oldest : (bits : ℕ) (e : EntriesView) (finished : Option ℕ) → (retired_by bits e finished).oldest ≡ e.oldest
retired-oldest bits e None = refl
retired-oldest bits e (Some b) = refl

retired-tagged : (bits : ℕ) (e : EntriesView) (finished : Option ℕ) → ((r : ℕ) → is_dropped_since e.last (e.state r) ≡ false) → (r : ℕ)
    → is_dropped_since (retired_by bits e finished).last ((retired_by bits e finished).state r) ≡ false
retired-tagged bits e None tagged r = tagged r
retired-tagged bits e (Some b) tagged r = by_test (eqb (buffer_of bits r) b)
  where
    by_test : (t : Bool) → is_dropped_since e.last (cond t None (e.state r)) ≡ false
    by_test true = refl
    by_test false = tagged r

-- what is on hold under an older generation is free
unread-freed : (g : ℕ) (mark : Mark) (c : Buffer) → is_mark_of mark c ≡ true → (is_on_hold mark.state ≡ true → mark.generation < g) → is_held (freed_below g c) ≡ false
unread-freed g mark (Buffer.free t) is low = refl
unread-freed g mark (Buffer.active w t) is low = refl
unread-freed g mark (Buffer.held w t) is low =
    let both = and_parts (is_on_hold mark.state) (eqb mark.width w && eqb mark.generation t.generation) is in
    let same : mark.generation ≡ t.generation = eqb-true mark.generation t.generation (and_parts (eqb mark.width w) (eqb mark.generation t.generation) both.1).1 in
    let below = low both.0 in
    let under : t.generation < g = omega arith in
    ap (λ u. is_held (cond u (Buffer.free (Some t)) (Buffer.held w t))) (lt-ltb t.generation g under)

module _ {H : Type 0} (bits : ℕ) (work : WorkView H) (m : Records) (e : EntriesView) (st : Stands bits work m e false) (tagged : (r : ℕ) → is_dropped_since e.last (e.state r) ≡ false)
    (held : WorkView H) (held_is : held ≡ with_hold work e.finished) (e1 : EntriesView) (e1_is : e1 ≡ retired_by bits e e.finished) (good1 : IsGood bits e1) where
  pub over-1 : IsOver bits held m e1 false
  over-1 =
      subst (λ w. IsOver bits w m e1 false) (sym held_is)
      (subst (λ x. IsOver bits (with_hold work e.finished) m x false) (sym e1_is)
      (over-retired bits work m e (over-from bits work m e false st) e.finished refl (subst (IsGood bits) e1_is good1)))

  pub tagged-1 : (r : ℕ) → is_dropped_since e1.last (e1.state r) ≡ false
  tagged-1 r = subst (λ x. is_dropped_since x.last (x.state r) ≡ false) (sym e1_is) (retired-tagged bits e e.finished tagged r)

  pub rises-1 : (advance : Advance) (next : WorkView H) → Advances advance held next → e1.generation ≤ generation_by advance e1.generation
  rises-1 advance next advances = subst (λ n. n ≤ generation_by advance n) (sym over-1.generation) (rises-advanced advance held next advances)

  oldest-1 : e1.oldest ≡ (oldest_of held.queue).generation
  oldest-1 = ap (λ x. x.oldest) e1_is ∙ retired-oldest bits e e.finished ∙ st.oldest ∙ ap (λ q. (oldest_of q).generation) (sym (ap (λ w. w.queue) held_is ∙ hold-queue work e.finished))

  module _ (advance : Advance) (next : WorkView H) (advances : Advances advance held next) (goes : LetsGo held.commits next.commits) (next_is : next ≡ advanced held next)
      (e2 : EntriesView) (e2_is : e2 ≡ record e1 { generation = generation_by advance e1.generation }) (good2 : IsGood bits e2) where
    pub over-2 : IsOver bits next m e2 false
    over-2 = over-advanced bits held next m e1 e2 over-1 advance advances goes next_is e2_is good2 (λ r. since-before e1.last (generation_by advance e1.generation) (e1.state r) (tagged-1 r))

    module _ (v : WorkView H) (oldest : Oldest) (reclaims : Reclaims oldest next v) (goes2 : LetsGo next.commits v.commits) (v_is : v ≡ reclaimed next v) (queue : IsQueue held) (queue2 : IsQueue next) where
      pub low-2 : oldest.generation ≤ e2.generation
      low-2 = reclaimed-low bits next m e2 false over-2 v oldest queue2 reclaims

      pub rises-2 : e2.oldest ≤ oldest.generation
      rises-2 =
          let same : e2.oldest ≡ (oldest_of held.queue).generation = ap (λ x. x.oldest) e2_is ∙ oldest-1 in
          let more = oldest-advanced advance held next queue advances in
          let last = reclaim-rises next v oldest queue2 reclaims in
          omega arith

      module _ (alone : held.made ≡ 0 → next.stops ≡ held.stops) (alone2 : next.made ≡ 0
          → v.stops ≡ next.stops) (e3 : EntriesView) (frees : Frees e2 e3 oldest.generation) (good3 : IsGood bits e3) (order : IsInOrder v) where
        made-next : next.made ≡ held.made
        made-next = ap (λ w. w.made) next_is

        made-v : v.made ≡ next.made
        made-v = ap (λ w. w.made) v_is

        sizes-next : next.sizes ≡ held.sizes
        sizes-next = ap (λ w. w.sizes) next_is

        sizes-v : v.sizes ≡ next.sizes
        sizes-v = ap (λ w. w.sizes) v_is

        buffer-next : next.buffer ≡ held.buffer
        buffer-next = ap (λ w. w.buffer) next_is

        current-v : current v ≡ current next
        current-v = ap (λ q. (newest_of q).generation) reclaims.queue ∙ ap (λ h. h.generation) (newest-drop reclaims.closed next.queue reclaims.left)

        one-left : (t : Bool) → oldest.newest ≡ t → v.stops ≡ next.stops → length v.queue ≡ 1
        one-left true is still = (reclaims.newest is).0
        one-left false is still = let more = (reclaims.stopped is).2 in absurd (omega arith)

        unread-3 : (b : ℕ) → b < v.sizes.buffers → v.made ≡ 0 → current v < v.sizes.generations → is_held (v.buffer b) ≡ false
        unread-3 b inside none limit =
            let none2 : next.made ≡ 0 = sym made-v ∙ none in
            let still = alone2 none2 in
            let still1 = alone (sym made-next ∙ none2) in
            let one = one-left oldest.newest refl still in
            let low : current next < held.sizes.generations = subst (λ n. n < held.sizes.generations) current-v (subst (λ z. current v < z.generations) (sizes-v ∙ sizes-next) limit) in
            let rises = alone-advanced advance held next advances still1 low in
            let same : (oldest_of v.queue).generation ≡ current v = ap (λ h. h.generation) (only-newest v.queue one) in
            let below : b < held.sizes.buffers = subst (λ z. b < z.buffers) (sizes-v ∙ sizes-next) inside in
            subst (λ f. is_held (f b) ≡ false) (sym reclaims.buffer)
            (subst (λ f. is_held (freed_below (oldest_of v.queue).generation (f b)) ≡ false) (sym buffer-next)
            (unread-freed (oldest_of v.queue).generation (e1.mark b) (held.buffer b) (over-1.marks b below)
            (λ hold. let to = (good1.marks b).to hold in let now = over-1.generation in let cv = current-v in omega arith)))

        timely-3 : current work < work.commits.last → current next ≤ next.commits.last
        timely-3 early =
            let late = late-advanced advance held next advances in
            let before : current held ≡ current work = ap current held_is ∙ ap (λ q. (newest_of q).generation) (hold-queue work e.finished) in
            let last : held.commits.last ≡ work.commits.last = ap (λ c. c.last) (ap (λ w. w.commits) held_is ∙ hold-commits work e.finished) in
            let kept = goes.last in
            omega arith

        pub stands-3 : current work < work.commits.last → Stands bits v m e3 false
        stands-3 early = stands-reclaimed bits next m e2 false over-2 v e3 oldest reclaims goes2 v_is frees order low-2 good3 (timely-3 early) unread-3

        stops-2 : (t : Bool) → oldest.newest ≡ t → next.stops ≤ v.stops
        stops-2 true is = let same = (reclaims.newest is).2 in omega arith
        stops-2 false is = let more = (reclaims.stopped is).2 in omega arith

        status-3 : (r : ℕ) → statuses v.commits e3 r ≡ free_below (oldest_of v.queue).generation (cond (is_this e.finished (buffer_of bits r)) Status.unmade (statuses work.commits e r))
        status-3 r =
            status-freed bits next m e2 false over-2 v e3 oldest reclaims goes2 v_is frees order low-2 r
            ∙ ap (λ g. free_below g (statuses next.commits e2 r)) reclaims.generation
            ∙ ap (free_below (oldest_of v.queue).generation) (status-2 r)
          where
            status-2 : (r : ℕ) → statuses next.commits e2 r ≡ cond (is_this e.finished (buffer_of bits r)) Status.unmade (statuses work.commits e r)
            status-2 r =
                status-advanced bits held next m e1 e2 over-1 advance advances goes next_is e2_is good2 (λ q. since-before e1.last (generation_by advance e1.generation) (e1.state q) (tagged-1 q)) r
                ∙ ap (λ c. statuses c e1 r) (ap (λ w. w.commits) held_is ∙ hold-commits work e.finished)
                ∙ ap (λ x. statuses work.commits x r) e1_is
                ∙ status-retired bits work m e (over-from bits work m e false st) e.finished r

        counts-2 : e2.of_width ≡ e.of_width
        counts-2 = ap (λ x. x.of_width) e2_is ∙ ap (λ x. x.of_width) e1_is ∙ counts-retired bits work m e (over-from bits work m e false st) e.finished

        pub ends : (shape formed number : ℕ) (n : Records) → formed ≡ shape → n ≡ m
            → EndsCommit bits (ledger_of bits work shape m e false) (ledger_of bits v formed n e3 false) (record { commit = number; advance = advance; oldest = oldest })
        ends shape formed number n same written = record {
          next = next;
          advances = subst (λ w. Advances advance w next) held_is advances;
          advance_keeps = subst (λ c. LetsGo c next.commits) (ap (λ w. w.commits) held_is ∙ hold-commits work e.finished) goes;
          next_is = next_is ∙ ap (λ w. advanced w next) held_is;
          reclaims = reclaims;
          reclaim_keeps = goes2;
          work = v_is;
          stops =
              let first = stops-advanced advance held next advances in
              let second = stops-2 oldest.newest refl in
              let before : held.stops ≡ work.stops = ap (λ w. w.stops) held_is ∙ hold-stops work e.finished in
              omega arith;
          alone = λ none.
              let before : held.made ≡ 0 = ap (λ w. w.made) held_is ∙ hold-made work e.finished ∙ none in
              alone2 (made-next ∙ before) ∙ alone before ∙ ap (λ w. w.stops) held_is ∙ hold-stops work e.finished;
          status = status-3;
          counts = λ w. subst (λ f. GivesBackOf (f w) (e3.of_width w)) counts-2 (frees.counts w);
          unit = refl;
          shape = same;
          sealed = λ b.
              sealed-freed bits next shape m e2 false over-2 v e3 oldest reclaims goes2 v_is alone2 frees order low-2 b
              ∙ ap (λ x. (x.mark b).sealed) e2_is ∙ ap (λ x. (x.mark b).sealed) e1_is
              ∙ sealed-retired bits work m e (over-from bits work m e false st) e.finished refl b;
          finished = ap (λ x. x.finished) frees.same ∙ ap (λ x. x.finished) e2_is ∙ ap (λ x. x.finished) e1_is
              ∙ finished-retired bits work m e (over-from bits work m e false st) e.finished refl;
        }

        -- the records: those of the last commit, which has nothing in the buffer that went on hold
        pub records-3 : (n : Records) → n ≡ m → records_by_status (statuses work.commits e) m ≡ words_at (last_image work.commits)
            → ((r : ℕ) → is_this e.finished (buffer_of bits r) ≡ true → words_at (last_image work.commits) r ≡ []) → records_by_status (statuses v.commits e3) n ≡ records_by_status (statuses work.commits e) m
        records-3 n written same apart = ap (λ (x : Records). records_by_status (statuses v.commits e3) x) written ∙ (λ k r. at r k)
          where
            below-has : (g : ℕ) (c : Status) → has_record (free_below g c) ≡ has_record c
            below-has g Status.unmade = refl
            below-has g Status.free = refl
            below-has g Status.pending = refl
            below-has g Status.live = refl
            below-has g Status.dropped = refl
            below-has g Status.let_go = refl
            below-has g (Status.held tag) = none (ltb tag.generation g)
              where
                none : (t : Bool) → has_record (cond t Status.free (Status.held tag)) ≡ false
                none true = refl
                none false = refl
            below-has g Status.left = refl

            gone : (t : Bool) (r : ℕ) → is_this e.finished (buffer_of bits r) ≡ t
                → cond (has_record (cond t Status.unmade (statuses work.commits e r))) (m r) [] ≡ cond (has_record (statuses work.commits e r)) (m r) []
            gone true r is = sym (ap (λ (x : Records). x r) same ∙ apart r is)
            gone false r is = refl

            at : (r : ℕ) → cond (has_record (statuses v.commits e3 r)) (m r) [] ≡ cond (has_record (statuses work.commits e r)) (m r) []
            at r =
                ap (λ b. cond b (m r) []) (ap has_record (status-3 r) ∙ below-has (oldest_of v.queue).generation (cond (is_this e.finished (buffer_of bits r)) Status.unmade (statuses work.commits e r)))
                ∙ gone (is_this e.finished (buffer_of bits r)) r refl
