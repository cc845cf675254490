-- The readers' events, and those of the writer and a reader, keep the invariant.
use Rattle.std.proofs.Common.{◌≡◌, ℕ, ◌+◌, List, [], ◌∷◌, set, Some, None, refl, sym, ap, ◌∙◌, subst, arith, length-set, length-append}
use Rattle.std.specs.Prelude.{slice_get, nat_eq}
use Rattle.std.proofs.lemmas.List.Elements.{All-nil, All-cons, All-push, All-append, All-set}
use Rattle.entry_ref.specs.Records.{Records}
use Rattle.entry_ref.specs.declared.images.Image.{Image}
use Rattle.gen_core.specs.declared.views.Queue.{Queue}
use Rattle.gen_core.specs.declared.views.ReaderState.{ReaderState}
use Rattle.gen_core.specs.declared.views.ReaderState.TheVariants.{Idle, Aimed, Raised, Bounced, Guarded, Spent}
use Rattle.gen_core.specs.declared.views.ReaderView.{ReaderView}
use Rattle.gen_core.specs.declared.views.WriterView.{WriterView}
use Rattle.gen_core.specs.Views.{last_number, last_image, IsCommit, is_open_hold, is_counted_on, stands_on, spent}
use Rattle.gen_core.specs.Good.{State, hold_word, GoodCounts, GoodReaderState, GoodReader, RaiseFits, Good}
use Rattle.gen_core.specs.Conditions.{MaySplit, MayJoin}
use Rattle.gen_core.specs.Events.{newcomer, sees, after_load_root, after_split, after_join}
use Rattle.gen_core.proofs.Lists.{all_at, count_kept, count_by-push}
use Rattle.gen_core.proofs.GoodViews.{good_view, some-commit}
use Rattle.gen_core.proofs.ViewLemmas.{last_at}

-- a view that stands on a hold keeps it open, and counts on it alone
pub stands_fit : (queue : Queue) (commits : List Image) (r : ReaderView) (h : ℕ) (t : ReaderState) → GoodReaderState queue commits r t → stands_on t ≡ Some h → RaiseFits queue h
stands_fit queue commits r h Idle k e = absurd (cc)
stands_fit queue commits r h (Aimed generation hold) k e = absurd (cc)
stands_fit queue commits r h (Raised hold) k e = let same : hold ≡ h = cc in subst (RaiseFits queue) same k
stands_fit queue commits r h (Bounced hold) k e = absurd (cc)
stands_fit queue commits r h (Guarded hold c) k e = let same : hold ≡ h = cc in subst (RaiseFits queue) same k.raised
stands_fit queue commits r h Spent k e = absurd (cc)

stands_counted : (k h : ℕ) (t : ReaderState) → stands_on t ≡ Some h → is_counted_on k t ≡ nat_eq h k
stands_counted k h Idle e = absurd (cc)
stands_counted k h (Aimed generation hold) e = absurd (cc)
stands_counted k h (Raised hold) e = let same : hold ≡ h = cc in ap (λ n. nat_eq n k) same
stands_counted k h (Bounced hold) e = absurd (cc)
stands_counted k h (Guarded hold c) e = let same : hold ≡ h = cc in ap (λ n. nat_eq n k) same
stands_counted k h Spent e = absurd (cc)

abbrev ReaderFits : State → ReaderView → Type 0
ReaderFits s = GoodReader s.writer.sizes s.writer.queue s.writer.commits

module _ (reaches : ℕ → Records → ℕ → List ℕ) (lawful : ℕ → Records → ℕ → Type 0) where
  -- a reader's view changes, and counts for no hold before or after
  counts_view : (s : State) (j : ℕ) (r v : ReaderView) → Good reaches lawful s → slice_get s.readers j ≡ Some r → ((h : ℕ) → is_counted_on h r.state ≡ is_counted_on h v.state)
      → GoodCounts s.words s.writer.queue s.writer.made (set s.readers j v)
  counts_view s j r v g at same = record {
    counts = λ h lt. g.counts.counts h lt ∙ ap (λ n. hold_word n (is_open_hold s.writer.queue h)) (sym (count_kept (λ q. is_counted_on h q.state) s.readers j r v at (same h)));
    views = length-set s.readers j v ∙ g.counts.views;
    few = g.counts.few;
  }

  pub load_root_keeps : (s : State) (j : ℕ) (r : ReaderView) (h : ℕ) → Good reaches lawful s → slice_get s.readers j ≡ Some r → stands_on r.state ≡ Some h → Good reaches lawful (after_load_root s j r h)
  load_root_keeps s j r h g at may =
      let w : WriterView = s.writer in
      let old = all_at (ReaderFits s) s.readers j r g.readers at in
      let v : ReaderView = sees r h (last_number w.commits) (last_image w.commits) in
      let raised : RaiseFits w.queue h = stands_fit w.queue w.commits r h r.state old.state may in
      let new : GoodReader w.sizes w.queue w.commits v = record {
        same_sizes = λ e. old.same_sizes (λ is. off (sym may ∙ ap stands_on is));
        seen = omega arith;
        saw = All-cons (IsCommit w.commits) (last_number w.commits, last_image w.commits) r.saw (last_at w.commits (some-commit s.writer (good_view reaches lawful s g))) old.saw;
        least = old.least;
        state = record {
          raised = raised;
          commit = omega arith;
          first_commit = λ k d lt same. (g.queue.each k d lt).first_commit;
          next = λ e. refl;
          probed = λ e same. refl;
          image = last_image w.commits;
          seen = refl;
        };
      } in
      record {
        sizes = g.sizes;
        queue = g.queue;
        tags = g.tags;
        commits = g.commits;
        places = g.places;
        names = g.names;
        memory = g.memory;
        counts = counts_view s j r v g at (λ k. stands_counted k h r.state may);
        readers = All-set (ReaderFits s) s.readers j v new g.readers;
      }
    where
      off : Some h ≡ None → ⊥
      off e = cc

  pub split_keeps : (s : State) → Good reaches lawful s → MaySplit s.writer → Good reaches lawful (after_split s)
  split_keeps s g may =
      let w : WriterView = s.writer in
      let v : ReaderView = newcomer w in
      let new : GoodReader w.sizes w.queue w.commits v = record {
        same_sizes = λ _. refl;
        seen = omega arith;
        saw = All-nil (IsCommit w.commits);
        least = omega arith;
        state = tt;
      } in
      record {
        sizes = g.sizes;
        queue = g.queue;
        tags = g.tags;
        commits = g.commits;
        places = g.places;
        names = g.names;
        memory = g.memory;
        counts = record {
          counts = λ h lt. g.counts.counts h lt ∙ ap (λ n. hold_word n (is_open_hold w.queue h)) (sym (count_by-push (λ q. is_counted_on h q.state) s.readers v refl));
          views = length-append s.readers (v ∷ []) ∙ ap (λ n. n + 1) g.counts.views;
          few = let lt = may.few in omega arith;
        };
        readers = All-push (ReaderFits s) s.readers v g.readers new;
      }

  pub join_keeps : (s : State) (j : ℕ) (r : ReaderView) → Good reaches lawful s → slice_get s.readers j ≡ Some r → MayJoin s.writer r → Good reaches lawful (after_join s j r)
  join_keeps s j r g at may =
      let w : WriterView = s.writer in
      let old = all_at (ReaderFits s) s.readers j r g.readers at in
      let new : GoodReader w.sizes w.queue w.commits spent = record {
        same_sizes = λ h. absurd (h refl);
        seen = omega arith;
        saw = All-nil (IsCommit w.commits);
        least = omega arith;
        state = refl;
      } in
      record {
        sizes = g.sizes;
        queue = g.queue;
        tags = g.tags;
        commits = record { empty = g.commits.empty; each = g.commits.each; seen = All-append (IsCommit w.commits) r.saw w.saw old.saw g.commits.seen };
        places = g.places;
        names = g.names;
        memory = g.memory;
        counts = counts_view s j r spent g at (λ h. ap (is_counted_on h) may.idle);
        readers = All-set (ReaderFits s) s.readers j spent new g.readers;
      }
