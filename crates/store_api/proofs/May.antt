-- What a unit may do: nothing, and one thing after another.
use Rattle.std.proofs.Common.{◌≡◌, true, true≢false, refl, sym, ap, ◌∙◌, arith, inl, inr, ⊎_elim}
use Rattle.entry_ref.specs.References.{buffer_of}
use Rattle.arena_api.specs.Works.{Commits, Tag}
use Rattle.store_api.specs.Statuses.{Status, is_open, is_free_status, can_become_free}
use Rattle.store_api.specs.Ledgers.{Ledger}
use Rattle.store_api.specs.Units.{MayDo, IsSameBack, KeepsCommits}

pub keeps_commits-same : (commits : Commits) → KeepsCommits commits commits
keeps_commits-same commits = record { last = refl; image = refl; rises = omega arith; kept = λ n from to. refl }

pub keeps_commits-then : (a b c : Commits) → KeepsCommits a b → KeepsCommits b c → KeepsCommits a c
keeps_commits-then a b c x y = record {
  last = y.last ∙ x.last;
  image = y.image ∙ x.image;
  rises = omega (arith, x.rises, y.rises);
  kept = λ n from to. y.kept n from (omega (arith, to, x.last)) ∙ x.kept n (omega (arith, from, y.rises)) to;
}

held-free : (tag : Tag) → Status.held tag ≡ Status.free → ⊥
held-free tag e = true≢false (sym (ap is_free_status e))

unmade-free : Status.unmade ≡ Status.free → ⊥
unmade-free e = true≢false (sym (ap is_free_status e))

pub may_do-same : {H : Type 0} (ledger : Ledger H) → MayDo ledger ledger
may_do-same ledger = record {
  unit = refl;
  home = refl;
  shape = refl;
  bits = refl;
  sizes = refl;
  commits = keeps_commits-same ledger.work.commits;
  told = refl;
  readers = refl;
  stops = omega arith;
  alone = λ none. refl;
  newest = refl;
  sealed = refl;
  finished = refl;
  made = λ width. omega arith;
  back = λ r. inl refl;
  oldest = omega arith;
  held = λ r tag is free. absurd (held-free tag (sym is ∙ free));
  taken = λ r is free. absurd (unmade-free (sym is ∙ free));
  stays = λ r is. is;
  back_records = refl;
  newly = λ r used. inl used;
  unsealed = λ r used sealed. used;
}

free-stays : (c : Status) → can_become_free Status.free ≡ true → ⊥
free-stays c h = true≢false (sym h)

pub back-then : (a b c : Status) → IsSameBack a b → IsSameBack b c → IsSameBack a c
back-then a b c (inl e) (inl f) = inl (f ∙ e)
back-then a b c (inl e) (inr f) = inr (ap can_become_free (sym e) ∙ f.0, f.1)
back-then a b c (inr e) (inl f) = inr (e.0, f ∙ e.1)
back-then a b c (inr e) (inr f) = inr (e.0, f.1)

open-then : (b c : Status) → IsSameBack b c → is_open b ≡ true → is_open c ≡ true
open-then b c (inl e) h = ap is_open e ∙ h
open-then b c (inr e) h = ap is_open e.1

pub may_do-then : {H : Type 0} (a b c : Ledger H) → MayDo a b → MayDo b c → MayDo a c
may_do-then a b c m n = record {
  unit = n.unit ∙ m.unit;
  home = n.home ∙ m.home;
  shape = n.shape ∙ m.shape;
  bits = n.bits ∙ m.bits;
  sizes = n.sizes ∙ m.sizes;
  commits = keeps_commits-then _ _ _ m.commits n.commits;
  told = n.told ∙ m.told;
  readers = n.readers ∙ m.readers;
  stops = omega (arith, m.stops, n.stops);
  alone = λ none. n.alone (m.readers ∙ none) ∙ m.alone none;
  newest = n.newest ∙ m.newest;
  sealed = n.sealed ∙ m.sealed;
  finished = n.finished ∙ m.finished;
  made = λ width. omega (arith, m.made width, n.made width);
  back = λ r. back-then (a.back r) (b.back r) (c.back r) (m.back r) (n.back r);
  oldest = omega (arith, m.oldest, n.oldest);
  held = λ r tag is free. ⊎_elim (λ same. n.held r tag (same ∙ is) free)
      (λ freed. let below = m.held r tag is freed.1 in let rises = n.oldest in omega arith) (m.back r);
  taken = λ r is free. ⊎_elim (λ same. n.taken r (same ∙ is) free) (λ freed. n.stays r (m.taken r is freed.1)) (m.back r);
  stays = λ r is. n.stays r (m.stays r is);
  back_records = n.back_records ∙ m.back_records;
  newly = λ r used. ⊎_elim (λ before. ⊎_elim inl (λ opened. inr (open-then (b.back r) (c.back r) (n.back r) opened)) (m.newly r before)) inr (n.newly r used);
  unsealed = λ r used sealed. m.unsealed r (n.unsealed r used sealed) (ap (λ k. b.sealed (buffer_of k r)) (sym n.bits) ∙ sym (ap (λ f. f (buffer_of c.bits r)) n.sealed) ∙ sealed);
}
