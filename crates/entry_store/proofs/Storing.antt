-- A commit by its two halves.
use Rattle.std.proofs.Common.{◌≡◌, ℕ, cond, ap, subst, ◌∙◌, arith, not}
use Rattle.std.specs.Prelude.{◌&&◌}
use Rattle.entry_ref.specs.References.{buffer_of}
use Rattle.entry_ref.specs.declared.images.Image.{Image}
use Rattle.arena_api.specs.Works.{Commits, Tag, oldest_of}
use Rattle.arena_api.specs.Calls.{AddsCommit, published}
use Rattle.arena_api.specs.Generations.{LetsGo, Advances, advanced, tag_now}
use Rattle.store_api.specs.Statuses.{Status, after_commit, free_below}
use Rattle.store_api.specs.Ledgers.{Ledger, is_in, is_this}
use Rattle.store_api.specs.Calls.{StoresCommit, GivesBackOf, with_hold, committed_status}
use Rattle.store_api.specs.declared.store.Stored.{Stored}
use Rattle.entry_store.specs.Steps.{Publishes, EndsCommit}

pub adds-lets : (a b c : Commits) (image : Image) → AddsCommit a b image → LetsGo b c → AddsCommit a c image
adds-lets a b c image adds goes = record {
  last = goes.last ∙ adds.last;
  image_is = goes.kept c.last goes.within (let last = goes.last in omega arith) ∙ ap b.image goes.last ∙ adds.image_is;
  rises = omega (arith, adds.rises, goes.rises);
  within = goes.within;
  kept = λ n from to. goes.kept n from (let last = adds.last in omega arith) ∙ adds.kept n (omega (arith, from, goes.rises)) to;
}

module _ {H : Type 0} (bits : ℕ) (old mid new : Ledger H) (image : Image) (number : ℕ) (answer : Stored) (publishes : Publishes old mid image number) (ends : EndsCommit bits mid new answer) where
  commit-adds : AddsCommit old.work.commits new.work.commits image
  commit-adds = adds-lets _ _ _ image (adds-lets _ _ _ image publishes.adds ends.advance_keeps) ends.reclaim_keeps

  pub adds-all : AddsCommit old.work.commits new.work.commits image
  adds-all = commit-adds

  hold-is : with_hold mid.work mid.finished ≡ with_hold (published old.work mid.work.commits image) old.finished
  hold-is = ap (λ w. with_hold w mid.finished) publishes.work ∙ ap (with_hold (published old.work mid.work.commits image)) (ap (λ l. l.finished) publishes.same)

  status-all : (r : ℕ) → new.status r ≡ free_below (oldest_of new.work.queue).generation (committed_status bits old (tag_now (published old.work mid.work.commits image)) image r)
  status-all r =
      ends.status r
      ∙ ap (free_below (oldest_of new.work.queue).generation)
      (ap (λ o. cond (is_this o (buffer_of bits r)) Status.unmade (mid.status r)) (ap (λ l. l.finished) publishes.same)
      ∙ ap (cond (is_this old.finished (buffer_of bits r)) Status.unmade) (publishes.status r)
      ∙ ap (λ (t : Tag). cond (is_this old.finished (buffer_of bits r)) Status.unmade (after_commit t (is_in image r) (old.status r))) (ap tag_now publishes.work))

  pub stores-commit : answer.commit ≡ number → StoresCommit bits old new image answer
  stores-commit same = record {
    number = same ∙ publishes.number_is;
    commits = mid.work.commits;
    adds = publishes.adds;
    next = ends.next;
    advances = subst (λ w. Advances answer.advance w ends.next) hold-is ends.advances;
    advance_keeps = ends.advance_keeps;
    next_is = ends.next_is ∙ ap (λ w. advanced w ends.next) hold-is;
    reclaims = ends.reclaims;
    reclaim_keeps = ends.reclaim_keeps;
    work = ends.work;
    stops = let before = ap (λ w. w.stops) publishes.work in let after = ends.stops in omega arith;
    alone = λ none. ends.alone (ap (λ w. w.made) publishes.work ∙ none) ∙ ap (λ w. w.stops) publishes.work;
    status = status-all;
    counts = λ w. subst (λ f. GivesBackOf (f w) (new.of_width w)) (ap (λ l. l.of_width) publishes.same) (ends.counts w);
    unit = ends.unit;
    shape = ends.shape ∙ ap (λ l. l.shape) publishes.same;
    sealed = λ b. ends.sealed b ∙ ap (λ l. l.sealed b && not (is_this l.finished b)) publishes.same;
    finished = ends.finished;
  }
