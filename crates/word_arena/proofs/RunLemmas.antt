-- What steps tell of commits and of reads, and what two seats have in common.
use Rattle.std.proofs.Common.{◌≡◌, ◌≢◌, ℕ, List, ◌++◌, Some, None, sym, ap, ◌∙◌, subst}
use mathlib.Core.Option.{some}
use lib.ListN.{get_elem?}
use Rattle.std.specs.Prelude.{slice_get, All, option_map}
use Rattle.std.proofs.lemmas.Option.{slice_get_within}
use Rattle.list_lemmas.proofs.Places.{slice_get-set_same}
use Rattle.list_lemmas.proofs.Options.{same_Some}
use Rattle.atomic_table.specs.Table.{State, Me, Step}
use Rattle.entry_ref.specs.declared.images.Image.{Image}
use Rattle.entry_ref.specs.Records.{Records}
use Rattle.gen_core.specs.declared.views.Sizes.{Sizes}
use Rattle.gen_core.specs.declared.views.Event.{Event}
use Rattle.gen_core.specs.declared.views.Event.TheVariants.{MeetLoad, LoadRoot}
use Rattle.gen_core.specs.declared.views.ReaderState.{ReaderState}
use Rattle.gen_core.specs.declared.views.ReaderState.TheVariants.{Spent}
use Rattle.gen_core.specs.declared.views.ReaderView.{ReaderView}
use Rattle.gen_core.specs.declared.views.WriterView.{WriterView}
use Rattle.gen_core.specs.declared.views.View.TheVariants.{Writer, Reader}
use Rattle.gen_core.specs.Views.{last_number, last_image, stands_on}
use Rattle.gen_core.specs.Good.{State as CoreState, GoodReader}
use Rattle.gen_core.specs.Steps.{seat_of, view_at}
use Rattle.gen_core.specs.Events.{Happen, opening, sees}
use Rattle.gen_core.specs.Reads.{reads_of, commits_seen}
use Rattle.gen_core.specs.Runs.{IsCommitIn}
use Rattle.gen_core.proofs.Lists.{all_at}
use Rattle.gen_core.proofs.GoodViews.{good_view, some-commit}
use Rattle.gen_core.proofs.ViewLemmas.{last_at}
use Rattle.gen_core.proofs.ReadLemmas.{sees_its_reads}
use Rattle.gen_core.proofs.RunLemmas.{commit-later}
use Rattle.word_arena.specs.declared.rule.Watched.{Watched}
use Rattle.word_arena.specs.Ruled.{Slot, writer_in, reader_in, writer_of, reader_of, seen_number, seen_image}
use Rattle.word_arena.specs.Watched.{OneRun}
use Rattle.word_arena.specs.PlayEvents.{IsStep}
use Rattle.word_arena.specs.Runs.{LoadsRootOnce, TookReads, KnowsCommits, GuardsCommit}
use Rattle.word_arena.proofs.Allowed.{happen-push}

none-some : {A : Type 0} (x : A) → None ≡ Some x → ⊥
none-some x e = cc

stands-off : (t : ReaderState) (h : ℕ) → stands_on t ≡ Some h → t ≢ Spent
stands-off t h stands e = none-some h (sym (ap stands_on e) ∙ stands)

pub loads_root : {reaches : ℕ → Records → ℕ → List ℕ} {lawful : ℕ → Records → ℕ → Type 0} {st : Step Slot} {me me' : Me Slot Watched} {found : ℕ} → IsStep reaches lawful MeetLoad st me found me' → LoadsRootOnce me.0 me'.0
loads_root k = record { between = k.is.between; seen = k.seen; mine = k.mine }

module _ (reaches : ℕ → Records → ℕ → List ℕ) (lawful : ℕ → Records → ℕ → Type 0) where
  -- the run behind a step
  run_on : (e : Event) (st : Step Slot) (me me' : Me Slot Watched) (found : ℕ) (k : IsStep reaches lawful e st me found me') → Happen reaches lawful (opening k.is.before.writer.sizes) me'.0.seen k.is.after
  run_on e st me me' found k =
      let z : Sizes = k.is.before.writer.sizes in
      subst (λ (l : List Event). Happen reaches lawful (opening z) l k.is.after) (sym k.seen)
      (happen-push reaches lawful z (opening z) (me.0.seen ++ k.is.between) k.is.before e k.is.after k.is.reached.run k.is.happens)

  -- the writer's view before and after
  writer-before : (e : Event) → seat_of e ≡ 0 → (st : Step Slot) (me me' : Me Slot Watched) (found : ℕ) (k : IsStep reaches lawful e st me found me') → k.is.before.writer ≡ writer_of me.0
  writer-before e seat st me me' found k = ap writer_in (same_Some (Writer k.is.before.writer) me.0.view (ap (view_at k.is.before) (sym seat) ∙ k.is.sees))

  writer-after : (e : Event) → seat_of e ≡ 0 → (st : Step Slot) (me me' : Me Slot Watched) (found : ℕ) (k : IsStep reaches lawful e st me found me') → k.is.after.writer ≡ writer_of me'.0
  writer-after e seat st me me' found k = ap writer_in (same_Some (Writer k.is.after.writer) me'.0.view (ap (view_at k.is.after) (sym seat) ∙ k.is.then_sees))

  -- after a step of the writer its commits are those of the run
  pub knows_commits : (e : Event) → seat_of e ≡ 0 → (st : Step Slot) (me me' : Me Slot Watched) (found : ℕ) → IsStep reaches lawful e st me found me' → KnowsCommits reaches lawful (writer_of me.0).sizes me'.0
  knows_commits e seat st me me' found k number image there = record {
    end = k.is.after;
    run = subst (λ (z : Sizes). Happen reaches lawful (opening z) me'.0.seen k.is.after) (ap (λ (w : WriterView). w.sizes) (writer-before e seat st me me' found k)) (run_on e st me me' found k);
    commit = ap (λ (w : WriterView). slice_get w.commits number) (writer-after e seat st me me' found k) ∙ there;
  }

  -- and the readers that it took in saw what they read
  pub took_reads : (e : Event) → seat_of e ≡ 0 → (st : Step Slot) (me me' : Me Slot Watched) (found : ℕ) → IsStep reaches lawful e st me found me' → TookReads me'.0
  took_reads e seat st me me' found k =
      subst (λ (w : WriterView). All (λ r. commits_seen r ≡ reads_of r.number me'.0.seen) w.taken) (writer-after e seat st me me' found k)
      (sees_its_reads reaches lawful k.is.before.writer.sizes me'.0.seen k.is.after (run_on e st me me' found k)).taken

  -- a reader that loads the root sees the last commit of the run
  pub guards_commit : (j : ℕ) (st : Step Slot) (me me' : Me Slot Watched) (found : ℕ) → IsStep reaches lawful (LoadRoot j) st me found me' → GuardsCommit reaches lawful me'.0
  guards_commit j st me me' found k =
      let s : CoreState = k.is.before in
      let w : WriterView = s.writer in
      let x = k.is.happens in
      let r : ReaderView = x.0 in
      let v : ReaderView = sees r x.2 (last_number w.commits) (last_image w.commits) in
      let there : slice_get k.is.after.readers j ≡ Some v = ap (λ (t : CoreState). slice_get t.readers j) x.4 ∙ slice_get-set_same s.readers j v (slice_get_within s.readers j r x.1) in
      let view : Reader v ≡ me'.0.view = same_Some (Reader v) me'.0.view (ap (option_map Reader) (sym there) ∙ k.is.then_sees) in
      let is : v ≡ reader_of me'.0 = ap reader_in view in
      let same : r.sizes ≡ w.sizes = (all_at (GoodReader w.sizes w.queue w.commits) s.readers j r k.is.reached.good.readers x.1).same_sizes (stands-off r.state x.2 x.3) in
      subst (λ (y : ReaderView). IsCommitIn reaches lawful y.sizes me'.0.seen (seen_number y) (seen_image y)) is (record {
        end = k.is.after;
        run = subst (λ (z : Sizes). Happen reaches lawful (opening z) me'.0.seen k.is.after) (sym same) (run_on (LoadRoot j) st me me' found k);
        commit = ap (λ (t : CoreState). slice_get t.writer.commits (last_number w.commits)) x.4 ∙ last_at w.commits (some-commit w (good_view reaches lawful s k.is.reached.good));
      })

  pub seats_agree : (sizes : Sizes) (t : State Slot Watched) (i j : ℕ) (x y : Watched) (number : ℕ) (image other : Image) → OneRun reaches lawful sizes t → get_elem? t.views i ≡ some x → get_elem? t.views j ≡ some y
      → IsCommitIn reaches lawful sizes x.seen number image → IsCommitIn reaches lawful sizes y.seen number other → image ≡ other
  seats_agree sizes t i j x y number image other rule at there a b =
      let end : CoreState = record { words = t.words; writer = rule.writer; readers = rule.readers } in
      let first = rule.watched.each i x at in
      let second = rule.watched.each j y there in
      let one = commit-later reaches lawful sizes x.seen first.later number image end a (subst (λ (l : List Event). Happen reaches lawful (opening sizes) l end) first.begins rule.reached.run) in
      let two = commit-later reaches lawful sizes y.seen second.later number other end b (subst (λ (l : List Event). Happen reaches lawful (opening sizes) l end) second.begins rule.reached.run) in
      same_Some image other (sym one ∙ two)
