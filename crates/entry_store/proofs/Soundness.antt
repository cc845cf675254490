-- What the statuses say stays true where records, buffers, holds and commits change.
use Rattle.std.proofs.Common.{◌≡◌, ◌⊎◌, ℕ, zero, suc, ◌+◌, ◌<◌, ◌≤◌, Bool, true, false, cond, eqb, ltb, List, [], ◌∷◌, length, drop, refl, sym, ap, subst, ◌∙◌, arith, inl, inr}
use Rattle.std.proofs.lemmas.Bool.{true≢false, false≢true, cond-false, cases_eq, cases_lt, cases_Bool, eq-eqb, ne_eqb, ltb-true, lt-ltb}
use Rattle.entry_ref.specs.References.{buffer_of}
use Rattle.entry_ref.specs.declared.images.Image.{Image}
use Rattle.entry_ref.specs.Images.{words_at}
use Rattle.entry_ref.specs.Records.{Records, with_words}
use Rattle.arena_api.specs.Works.{WorkView, Commits, Hold, Buffer, Tag, active_width, width_of, last_image, oldest_of, newest_of, last_tag}
use Rattle.arena_api.specs.Works.{is_free as is_free_buffer}
use Rattle.arena_api.specs.Calls.{IsKept, InNoCommit, IsInOrder, AddsCommit, FitsEntry, handed_out, published}
use Rattle.arena_api.specs.Generations.{AreInOrder, LetsGo, retired, tag_now}
use Rattle.store_api.specs.Statuses.{Status, in_use, has_record, is_committed, is_uncommitted, is_open, is_let_go, after_commit, free_below, with_status}
use Rattle.store_api.specs.Ledgers.{all_later, is_in}
use Rattle.entry_store.specs.Standing.{AreSoundStatuses, IsOut}
use Rattle.entry_store.proofs.Queues.{later-drop, later-now, later-oldest}

-- statuses that are the same everywhere
pub sound-same : {H : Type 0} (bits : ℕ) (work : WorkView H) (m : Records) (s t : ℕ → Status) → AreSoundStatuses bits work m s → ((q : ℕ) → t q ≡ s q) → AreSoundStatuses bits work m t
sound-same bits work m s t sound same = record {
  there = λ r h. sound.there r (sym (ap has_record (same r)) ∙ h);
  committed = λ r h. sound.committed r (sym (ap is_committed (same r)) ∙ h);
  unkept = λ r lives below h. sound.unkept r lives below (sym (ap is_uncommitted (same r)) ∙ h);
  out = λ r tag h. sound.out r tag (sym (same r) ∙ h);
}

pub open-uncommitted : (c : Status) → is_open c ≡ true → is_uncommitted c ≡ true
open-uncommitted Status.unmade h = refl
open-uncommitted Status.free h = refl
open-uncommitted Status.pending h = absurd (false≢true h)
open-uncommitted Status.live h = absurd (false≢true h)
open-uncommitted Status.dropped h = absurd (false≢true h)
open-uncommitted Status.let_go h = absurd (false≢true h)
open-uncommitted (Status.held tag) h = absurd (false≢true h)
open-uncommitted Status.left h = absurd (false≢true h)

-- an open entry is pending, with a record
module _ {H : Type 0} (bits : ℕ) (work : WorkView H) (m : Records) (s : ℕ → Status) (sound : AreSoundStatuses bits work m s) (r : ℕ) (ws : List ℕ)
    (opened : is_open (s r) ≡ true) (some : 0 < length ws) where
  here-or : (P : ℕ → Status → List ℕ → Type 0) (q : ℕ) → (q ≡ r → P q Status.pending ws) → ((q ≡ r → ⊥) → P q (s q) (m q)) → P q (with_status s r Status.pending q) (with_words m r ws q)
  here-or P q here other = elim (cases_eq q r) [
    | inl e ↦ subst (λ t. P q (cond t Status.pending (s q)) (cond t ws (m q))) (sym (eq-eqb q r e)) (here e)
    | inr ne ↦ subst (λ t. P q (cond t Status.pending (s q)) (cond t ws (m q))) (sym (ne_eqb q r ne)) (other ne)
  ]

  pub sound-made : AreSoundStatuses bits work (with_words m r ws) (with_status s r Status.pending)
  sound-made = record {
    there = λ q. here-or (λ q c xs. has_record c ≡ true → 0 < length xs) q (λ e h. some) (λ ne h. sound.there q h);
    committed = λ q. here-or (λ q c xs. is_committed c ≡ true → xs ≡ words_at (last_image work.commits) q) q (λ e h. absurd (false≢true h)) (λ ne h. sound.committed q h);
    unkept = λ q lives below. here-or (λ q c xs. is_uncommitted c ≡ true → InNoCommit work.commits q) q
        (λ e h. sound.unkept q lives below (subst (λ x. is_uncommitted (s x) ≡ true) (sym e) (open-uncommitted (s r) opened))) (λ ne h. sound.unkept q lives below h);
    out = λ q tag. here-or (λ q c xs. c ≡ Status.held tag → IsOut work.commits work.queue tag q) q (λ e h. absurd (cc)) (λ ne h. sound.out q tag h);
  }

-- a free buffer is handed out
module _ {H : Type 0} (bits : ℕ) (work : WorkView H) (m : Records) (s : ℕ → Status) (sound : AreSoundStatuses bits work m s) (b width : ℕ)
    (free : is_free_buffer (work.buffer b) ≡ true)
    (kept : (n r : ℕ) → IsKept work.commits n → 0 < length (words_at (work.commits.image n) r)
    → FitsEntry bits work.sizes (width_of (work.buffer (buffer_of bits r))) r (length (words_at (work.commits.image n) r))) where
  free-width : (c : Buffer) → is_free_buffer c ≡ true → width_of c ≡ 0
  free-width (Buffer.free t) e = refl
  free-width (Buffer.active w t) e = absurd (false≢true e)
  free-width (Buffer.held w t) e = absurd (false≢true e)

  nothing-in : (xs : List ℕ) → (0 < length xs → ⊥) → xs ≡ []
  nothing-in [] none = refl
  nothing-in (x ∷ xs) none = absurd (none (omega arith))

  unkept-opened : (r : ℕ) → buffer_of bits r ≡ b → InNoCommit work.commits r
  unkept-opened r e n is = nothing-in _ (λ some.
      let fit = (kept n r is some).entry in
      let wide = fit.wide in
      let none : width_of (work.buffer (buffer_of bits r)) ≡ 0 = free-width (work.buffer (buffer_of bits r)) (ap (λ a. is_free_buffer (work.buffer a)) e ∙ free) in
      omega arith)

  pub sound-opened : AreSoundStatuses bits (handed_out work b width) m s
  sound-opened = record {
    there = sound.there;
    committed = sound.committed;
    unkept = λ r lives below h. elim (cases_eq (buffer_of bits r) b) [
      | inl e ↦ unkept-opened r e
      | inr ne ↦ sound.unkept r (subst (λ c. 0 < active_width c) (cond-false (eqb (buffer_of bits r) b) (Buffer.active width (last_tag (work.buffer b))) (work.buffer (buffer_of bits r)) (ne_eqb _ _ ne)) lives) below h
    ];
    out = sound.out;
  }

-- commits that only let go of old ones
pub lets-kept : (old new : Commits) → LetsGo old new → (n : ℕ) → IsKept new n → IsKept old n × (new.image n ≡ old.image n)
lets-kept old new goes n is =
    let low = is.from in let high = is.to in let rises = goes.rises in let last = goes.last in
    (record { from = omega arith; to = omega arith }, goes.kept n is.from (omega arith))

pub lets-last : (old new : Commits) → LetsGo old new → last_image new ≡ last_image old
lets-last old new goes = goes.kept new.last goes.within (let last = goes.last in omega arith) ∙ ap old.image goes.last

-- a reclaim
abbrev tag-in : Tag → Status → Tag
tag-in other (Status.held x) = x
tag-in other c = other

module _ {H : Type 0} (bits : ℕ) (work new : WorkView H) (m : Records) (s : ℕ → Status) (sound : AreSoundStatuses bits work m s) (closed : ℕ)
    (left : closed < length work.queue) (queue : new.queue ≡ drop closed work.queue) (goes : LetsGo work.commits new.commits)
    (order : IsInOrder new) (widths : (b : ℕ) → active_width (new.buffer b) ≡ active_width (work.buffer b)) (sizes : new.sizes ≡ work.sizes) where
  out-still : (r : ℕ) (tag : Tag) → IsOut work.commits work.queue tag r → IsOut new.commits new.queue tag r
  out-still r tag out = record {
    unused = λ n is from. let kept = lets-kept work.commits new.commits goes n is in ap (λ i. words_at i r) kept.1 ∙ out.unused n kept.0 from;
    later = subst (λ q. all_later tag q ≡ true) (sym queue) (later-drop tag closed work.queue out.later);
    commit = let low = out.commit in let last = goes.last in omega arith;
  }

  some-left : 0 < length new.queue
  some-left = subst (λ q. 0 < length q) (sym queue) (dropped-some closed work.queue left)
    where
      dropped-some : (n : ℕ) (q : List Hold) → n < length q → 0 < length (drop n q)
      dropped-some zero q low = low
      dropped-some (suc n) [] low = absurd (omega arith)
      dropped-some (suc n) (h ∷ hs) low = dropped-some n hs (omega arith)

  -- no commit that is kept has what is held under a generation below the oldest
  freed-unkept : (r : ℕ) (tag : Tag) → IsOut work.commits work.queue tag r → tag.generation < (oldest_of new.queue).generation → InNoCommit new.commits r
  freed-unkept r tag out below n is =
      let still = out-still r tag out in
      let first = later-oldest tag new.queue some-left still.later below in
      let floor = order.oldest in
      let from = is.from in
      still.unused n is (omega arith)

  uncommitted-below : (r : ℕ) (c : Status) → s r ≡ c → (InNoCommit work.commits r → InNoCommit new.commits r) → (is_uncommitted c ≡ true → InNoCommit work.commits r)
      → is_uncommitted (free_below (oldest_of new.queue).generation c) ≡ true → InNoCommit new.commits r
  uncommitted-below r Status.unmade is still before h = still (before h)
  uncommitted-below r Status.free is still before h = still (before h)
  uncommitted-below r Status.pending is still before h = still (before h)
  uncommitted-below r Status.live is still before h = absurd (false≢true h)
  uncommitted-below r Status.dropped is still before h = absurd (false≢true h)
  uncommitted-below r Status.let_go is still before h = still (before h)
  uncommitted-below r Status.left is still before h = absurd (false≢true h)
  uncommitted-below r (Status.held tag) is still before h = elim (cases_Bool (ltb tag.generation (oldest_of new.queue).generation)) [
    | inl e ↦ freed-unkept r tag (sound.out r tag is) (ltb-true _ _ e)
    | inr e ↦ absurd (false≢true (subst (λ t. is_uncommitted (cond t Status.free (Status.held tag)) ≡ true) e h))
  ]

  has-below : (g : ℕ) (c : Status) → has_record (free_below g c) ≡ true → has_record c ≡ true
  has-below g Status.unmade h = h
  has-below g Status.free h = h
  has-below g Status.pending h = h
  has-below g Status.live h = h
  has-below g Status.dropped h = h
  has-below g Status.let_go h = h
  has-below g Status.left h = h
  has-below g (Status.held tag) h = none (ltb tag.generation g) h
    where
      none : (t : Bool) → has_record (cond t Status.free (Status.held tag)) ≡ true → false ≡ true
      none true f = f
      none false f = f

  committed-below : (g : ℕ) (c : Status) → is_committed (free_below g c) ≡ true → is_committed c ≡ true
  committed-below g Status.unmade h = h
  committed-below g Status.free h = h
  committed-below g Status.pending h = h
  committed-below g Status.live h = h
  committed-below g Status.dropped h = h
  committed-below g Status.let_go h = h
  committed-below g Status.left h = h
  committed-below g (Status.held tag) h = none (ltb tag.generation g) h
    where
      none : (t : Bool) → is_committed (cond t Status.free (Status.held tag)) ≡ true → false ≡ true
      none true f = f
      none false f = f

  held-below : (g : ℕ) (c : Status) (tag : Tag) → free_below g c ≡ Status.held tag → c ≡ Status.held tag
  held-below g Status.unmade tag e = absurd (cc)
  held-below g Status.free tag e = absurd (cc)
  held-below g Status.pending tag e = absurd (cc)
  held-below g Status.live tag e = absurd (cc)
  held-below g Status.dropped tag e = absurd (cc)
  held-below g Status.let_go tag e = absurd (cc)
  held-below g Status.left tag e = absurd (cc)
  held-below g (Status.held t) tag e = by_test (ltb t.generation g) e
    where
      by_test : (u : Bool) → cond u Status.free (Status.held t) ≡ Status.held tag → Status.held t ≡ Status.held tag
      by_test true f = absurd (cc)
      by_test false f = f

  pub sound-reclaimed : (t : ℕ → Status) → ((r : ℕ) → t r ≡ free_below (oldest_of new.queue).generation (s r)) → AreSoundStatuses bits new m t
  sound-reclaimed t is = record {
    there = λ r h. sound.there r (has-below _ (s r) (sym (ap has_record (is r)) ∙ h));
    committed = λ r h. sound.committed r (committed-below _ (s r) (sym (ap is_committed (is r)) ∙ h)) ∙ ap (λ i. words_at i r) (sym (lets-last work.commits new.commits goes));
    unkept = λ r lives below h. uncommitted-below r (s r) refl (λ none n kept. let both = lets-kept work.commits new.commits goes n kept in ap (λ i. words_at i r) both.1 ∙ none n both.0)
        (λ before. sound.unkept r (subst (λ w. 0 < w) (widths (buffer_of bits r)) lives) (subst (λ z. buffer_of bits r < z.buffers) sizes below) before) (sym (ap is_uncommitted (is r)) ∙ h);
    out = λ r tag h. out-still r tag (sound.out r tag (held-below _ (s r) tag (sym (is r) ∙ h)));
  }

-- an advance
module _ {H : Type 0} (bits : ℕ) (work new : WorkView H) (m : Records) (s : ℕ → Status) (sound : AreSoundStatuses bits work m s)
    (goes : LetsGo work.commits new.commits) (buffer : new.buffer ≡ work.buffer) (sizes : new.sizes ≡ work.sizes)
    (later : (tag : Tag) → all_later tag work.queue ≡ true → tag.commit ≤ work.commits.last → all_later tag new.queue ≡ true) where
  pub sound-advanced : AreSoundStatuses bits new m s
  sound-advanced = record {
    there = sound.there;
    committed = λ r h. sound.committed r h ∙ ap (λ i. words_at i r) (sym (lets-last work.commits new.commits goes));
    unkept = λ r lives below h n is.
        let both = lets-kept work.commits new.commits goes n is in
        ap (λ i. words_at i r) both.1 ∙ sound.unkept r (subst (λ f. 0 < active_width (f (buffer_of bits r))) buffer lives) (subst (λ z. buffer_of bits r < z.buffers) sizes below) h n both.0;
    out = λ r tag h.
        let out = sound.out r tag h in
        record {
          unused = λ n is from. let both = lets-kept work.commits new.commits goes n is in ap (λ i. words_at i r) both.1 ∙ out.unused n both.0 from;
          later = later tag out.later out.commit;
          commit = let low = out.commit in let last = goes.last in omega arith;
        };
  }

-- a buffer goes on hold, and its entries are none any more
module _ {H : Type 0} (bits : ℕ) (work : WorkView H) (m : Records) (s : ℕ → Status) (sound : AreSoundStatuses bits work m s) (b : ℕ) where
  pub sound-retired : (t : ℕ → Status) → ((r : ℕ) → t r ≡ cond (eqb (buffer_of bits r) b) Status.unmade (s r)) → AreSoundStatuses bits (retired work b) m t
  sound-retired t is = record {
    there = λ r h. elim (cases_Bool (eqb (buffer_of bits r) b)) [
      | inl e ↦ absurd (false≢true (sym (ap has_record (is r ∙ ap (λ u. cond u Status.unmade (s r)) e)) ∙ h))
      | inr e ↦ sound.there r (sym (ap has_record (is r ∙ ap (λ u. cond u Status.unmade (s r)) e)) ∙ h)
    ];
    committed = λ r h. elim (cases_Bool (eqb (buffer_of bits r) b)) [
      | inl e ↦ absurd (false≢true (sym (ap is_committed (is r ∙ ap (λ u. cond u Status.unmade (s r)) e)) ∙ h))
      | inr e ↦ sound.committed r (sym (ap is_committed (is r ∙ ap (λ u. cond u Status.unmade (s r)) e)) ∙ h)
    ];
    unkept = λ r lives below h. elim (cases_Bool (eqb (buffer_of bits r) b)) [
      | inl e ↦ absurd (let none : 0 < 0 = subst (λ u. 0 < active_width (cond u (Buffer.held (active_width (work.buffer b)) (tag_now work)) (work.buffer (buffer_of bits r)))) e lives in omega arith)
      | inr e ↦ sound.unkept r (subst (λ u. 0 < active_width (cond u (Buffer.held (active_width (work.buffer b)) (tag_now work)) (work.buffer (buffer_of bits r)))) e lives) below
          (sym (ap is_uncommitted (is r ∙ ap (λ u. cond u Status.unmade (s r)) e)) ∙ h)
    ];
    out = λ r tag h. elim (cases_Bool (eqb (buffer_of bits r) b)) [
      | inl e ↦ absurd (let none : Status.unmade ≡ Status.held tag = sym (is r ∙ ap (λ u. cond u Status.unmade (s r)) e) ∙ h in cc)
      | inr e ↦ sound.out r tag (sym (is r ∙ ap (λ u. cond u Status.unmade (s r)) e) ∙ h)
    ];
  }

-- a commit is published
module _ {H : Type 0} (bits : ℕ) (work : WorkView H) (m : Records) (s : ℕ → Status) (sound : AreSoundStatuses bits work m s) (commits : Commits) (image : Image)
    (adds : AddsCommit work.commits commits image) (order : AreInOrder work.queue)
    (used : (r : ℕ) → is_in image r ≡ true → in_use (s r) ≡ true) (ended : (r : ℕ) → is_let_go (s r) ≡ false) where
  abbrev tag : Tag
  tag = record { generation = (newest_of work.queue).generation; commit = work.commits.last + 1 }

  unused-words : (r : ℕ) → in_use (s r) ≡ false → words_at image r ≡ []
  unused-words r out = none-in (words_at image r) (λ some. true≢false (sym (used r (lt-ltb 0 _ some)) ∙ out))
    where
      none-in : (xs : List ℕ) → (0 < length xs → ⊥) → xs ≡ []
      none-in [] none = refl
      none-in (x ∷ xs) none = absurd (none (omega arith))

  -- a commit that is kept was kept, or is the new one
  kept-or : (n : ℕ) → IsKept commits n → (IsKept work.commits n × (commits.image n ≡ work.commits.image n)) ⊎ (commits.image n ≡ image)
  kept-or n is = elim (cases_lt work.commits.last n) [
    | inl after ↦ inr (let to = is.to in let last = adds.last in
        let same : n ≡ commits.last = omega arith in ap commits.image same ∙ adds.image_is)
    | inr before ↦ inl (let from = is.from in let rises = adds.rises in (record { from = omega arith; to = before }, adds.kept n is.from before))
  ]

  has-committed : (has : Bool) (c : Status) → is_let_go c ≡ false → has_record (after_commit tag has c) ≡ true → has ≡ true
  has-committed true c kept h = refl
  has-committed false Status.unmade kept h = h
  has-committed false Status.free kept h = h
  has-committed false Status.pending kept h = h
  has-committed false Status.live kept h = h
  has-committed false Status.dropped kept h = h
  has-committed false Status.let_go kept h = absurd (true≢false kept)
  has-committed false (Status.held t) kept h = h
  has-committed false Status.left kept h = h

  by_has : (has : Bool) → is_uncommitted (cond has Status.live Status.left) ≡ true → false ≡ true
  by_has true h = h
  by_has false h = h

  uncommitted-before : (has : Bool) (c : Status) → is_uncommitted (after_commit tag has c) ≡ true → (is_uncommitted c ≡ true) × (in_use c ≡ false)
  uncommitted-before has Status.unmade h = (refl, refl)
  uncommitted-before has Status.free h = (refl, refl)
  uncommitted-before has Status.pending h = absurd (false≢true (by_has has h))
  uncommitted-before has Status.live h = absurd (false≢true (by_has has h))
  uncommitted-before has Status.dropped h = absurd (false≢true h)
  uncommitted-before has Status.let_go h = (refl, refl)
  uncommitted-before has (Status.held t) h = absurd (false≢true h)
  uncommitted-before has Status.left h = absurd (false≢true h)

  live-held : (has : Bool) (t : Tag) → cond has Status.live Status.left ≡ Status.held t → ⊥
  live-held true t e = (cc)
  live-held false t e = (cc)

  held-before : (has : Bool) (c : Status) (t : Tag) → after_commit tag has c ≡ Status.held t → (c ≡ Status.held t) ⊎ ((c ≡ Status.dropped) × (t ≡ tag))
  held-before has Status.unmade t e = absurd (cc)
  held-before has Status.free t e = absurd (cc)
  held-before has Status.pending t e = absurd (live-held has t e)
  held-before has Status.live t e = absurd (live-held has t e)
  held-before has Status.dropped t e = inr (refl, sym (ap (tag-in tag) e))
  held-before has Status.let_go t e = absurd (cc)
  held-before has (Status.held u) t e = inl e
  held-before has Status.left t e = absurd (cc)

  out-after : (r : ℕ) (t : Tag) → (s r ≡ Status.held t) ⊎ ((s r ≡ Status.dropped) × (t ≡ tag)) → IsOut commits work.queue t r
  out-after r t (inl is) =
      let out = sound.out r t is in
      record {
        unused = λ n kept from. elim (kept-or n kept) [
          | inl old ↦ ap (λ i. words_at i r) old.1 ∙ out.unused n old.0 from
          | inr last ↦ ap (λ i. words_at i r) last ∙ unused-words r (ap in_use is)
        ];
        later = out.later;
        commit = let low = out.commit in let last = adds.last in omega arith;
      }
  out-after r t (inr is) = subst (λ x. IsOut commits work.queue x r) (sym is.1) (record {
    unused = λ n kept from. elim (kept-or n kept) [
      | inl old ↦ (let to = old.0.to in absurd (omega arith))
      | inr last ↦ ap (λ i. words_at i r) last ∙ unused-words r (ap in_use is.0)
    ];
    later = later-now tag work.queue order (omega arith);
    commit = let last = adds.last in omega arith;
  })

  pub sound-published : (t : ℕ → Status) → ((r : ℕ) → t r ≡ after_commit tag (is_in image r) (s r)) → AreSoundStatuses bits (published work commits image) (words_at image) t
  sound-published t is = record {
    there = λ r h. ltb-true 0 _ (has-committed (is_in image r) (s r) (ended r) (sym (ap has_record (is r)) ∙ h));
    committed = λ r h. ap (λ i. words_at i r) (sym adds.image_is);
    unkept = λ r lives below h n kept.
        let before = uncommitted-before (is_in image r) (s r) (sym (ap is_uncommitted (is r)) ∙ h) in
        elim (kept-or n kept) [
          | inl old ↦ ap (λ i. words_at i r) old.1 ∙ sound.unkept r lives below before.0 n old.0
          | inr last ↦ ap (λ i. words_at i r) last ∙ unused-words r before.1
        ];
    out = λ r u h. out-after r u (held-before (is_in image r) (s r) u (sym (is r) ∙ h));
  }
