-- A commit is published, and counted.
use Rattle.std.proofs.Common.{◌≡◌, ℕ, ◌+◌, ◌<◌, ◌≤◌, Bool, true, false, cond, eqb, leb, List, [], ◌∷◌, length, Option, Some, None, refl, sym, ap, subst, ◌∙◌, arith, not, inl, inr}
use Rattle.std.specs.Prelude.{◌&&◌, ◌||◌}
use Rattle.std.proofs.lemmas.Bool.{true≢false, false≢true, cond-true, eqb-true, ne_eqb, leb-true, lt-ltb, and_parts, cases_Bool}
use Rattle.entry_ledger.specs.declared.state.State.{State}
use Rattle.entry_ledger.specs.declared.state.State.TheVariants.{Free, Returned, Made, InUse, LetGo, DroppedNow, Dropped}
use Rattle.entry_ref.specs.References.{buffer_of}
use Rattle.entry_ref.specs.Records.{Records, SameAt, AllThere}
use Rattle.entry_ref.specs.declared.images.Image.{Image}
use Rattle.entry_ref.specs.Images.{words_at}
use Rattle.entry_ref.proofs.Pairs.{same-from, there-among}
use Rattle.arena_api.specs.Works.{WorkView, Tag, last_image, oldest_of}
use Rattle.arena_api.specs.Calls.{AddsCommit, next_image, published}
use Rattle.arena_api.specs.Generations.{IsQueue, current, tag_now}
use Rattle.arena_api.proofs.Reached.{image-same}
use Rattle.store_api.specs.Statuses.{Status, in_use, has_record, is_let_go, after_commit}
use Rattle.store_api.specs.Ledgers.{is_in, is_this, is_held}
use Rattle.store_api.specs.Calls.{IsWhole}
use Rattle.store_api.proofs.CommitLemmas.{in-among, among-in}
use Rattle.entry_ledger.specs.Entries.{EntriesView, IsGood, is_timely, is_settled_entry, is_dropped_since}
use Rattle.entry_store.specs.Standing.{Stands, status_by, status_of, statuses, records_by_status, ledger_of, is_in_generation, is_mark_of, AreSoundStatuses, tag_at}
use Rattle.entry_store.specs.Steps.{Publishes}
use Rattle.entry_store.specs.ProofsForStore.{some_filtered}
use Rattle.entry_store.proofs.LeftOut.{commit-left}
use Rattle.entry_store.proofs.Soundness.{sound-published}

-- what the commit makes of a status, by states that the commit leaves
use-committed : (t has now : Bool) (tag : Tag) → (now ≡ true → in_use (cond t Status.pending (cond has Status.live Status.left)) ≡ true)
    → cond now Status.live Status.left ≡ after_commit tag now (cond t Status.pending (cond has Status.live Status.left))
use-committed true has now tag used = refl
use-committed false true now tag used = refl
use-committed false false true tag used = absurd (false≢true (used refl))
use-committed false false false tag used = refl

dropped-committed : (t now : Bool) (after last g generation : ℕ) → eqb after last ≡ t → (t ≡ true → g ≡ generation)
    → Status.held (tag_at g after) ≡ after_commit (tag_at generation last) now (cond t Status.dropped (Status.held (tag_at g after)))
dropped-committed true now after last g generation is since = ap (λ x. Status.held (tag_at x after)) (since refl) ∙ ap (λ x. Status.held (tag_at generation x)) (eqb-true after last is)
dropped-committed false now after last g generation is since = refl

since-holds : (a b : Bool) → (not a || b) ≡ true → a ≡ true → b ≡ true
since-holds true b h e = h
since-holds false b h e = absurd (false≢true e)

later-eqb : (after last : ℕ) → after ≤ last → eqb after (last + 1) ≡ false
later-eqb after last low = ne_eqb after (last + 1) (λ e. omega arith)

up-use : (e : EntriesView) (after : ℕ) → is_timely e (InUse after) ≡ true → after ≤ e.last
up-use e after up = leb-true after e.last up

up-dropped : (e : EntriesView) (after g : ℕ) → is_timely e (Dropped after g) ≡ true → after ≤ e.last
up-dropped e after g up = leb-true after e.last (and_parts (leb after e.last) (leb e.oldest g) (and_parts (leb after e.last && leb e.oldest g) (leb g e.generation) up).0).0

committed-state : (has now : Bool) (e : EntriesView) (s : State) → is_timely e s ≡ true → is_settled_entry (Some s) ≡ true → is_in_generation e.last e.generation (Some s) ≡ true
    → (now ≡ true → in_use (status_by has e.last s) ≡ true) → status_by now (e.last + 1) s ≡ after_commit (tag_at e.generation e.last) now (status_by has e.last s)
committed-state has now e Free up still since used = refl
committed-state has now e Returned up still since used = absurd (false≢true still)
committed-state has now e Made up still since used = absurd (false≢true still)
committed-state has now e (InUse after) up still since used =
    ap (λ t. cond t Status.pending (cond now Status.live Status.left)) (later-eqb after e.last (up-use e after up)) ∙ use-committed (eqb after e.last) has now (tag_at e.generation e.last) used
committed-state has now e LetGo up still since used = absurd (false≢true still)
committed-state has now e (DroppedNow after) up still since used = absurd (false≢true still)
committed-state has now e (Dropped after g) up still since used =
    ap (λ t. cond t Status.dropped (Status.held (tag_at g after))) (later-eqb after e.last (up-dropped e after g up))
    ∙ dropped-committed (eqb after e.last) now after e.last g e.generation refl (λ t. eqb-true g e.generation (since-holds (eqb after e.last) (eqb g e.generation) since t))

kept-use : (t has : Bool) → is_let_go (cond t Status.pending (cond has Status.live Status.left)) ≡ false
kept-use true has = refl
kept-use false true = refl
kept-use false false = refl

kept-dropped : (t : Bool) (tag : Tag) → is_let_go (cond t Status.dropped (Status.held tag)) ≡ false
kept-dropped true tag = refl
kept-dropped false tag = refl

still-kept : (has : Bool) (last : ℕ) (o : Option State) → is_settled_entry o ≡ true → is_let_go (status_of has last o) ≡ false
still-kept has last None still = refl
still-kept has last (Some Free) still = refl
still-kept has last (Some Returned) still = absurd (false≢true still)
still-kept has last (Some Made) still = absurd (false≢true still)
still-kept has last (Some (InUse after)) still = kept-use (eqb after last) has
still-kept has last (Some LetGo) still = absurd (false≢true still)
still-kept has last (Some (DroppedNow after)) still = absurd (false≢true still)
still-kept has last (Some (Dropped after g)) still = kept-dropped (eqb after last) (tag_at g after)

-- a state that the commit leaves was not dropped since it
dropped-before : (e : EntriesView) (o : Option State) → ((s : State) → o ≡ Some s → is_timely e s ≡ true) → is_dropped_since (e.last + 1) o ≡ false
dropped-before e None up = refl
dropped-before e (Some Free) up = refl
dropped-before e (Some Returned) up = refl
dropped-before e (Some Made) up = refl
dropped-before e (Some (InUse after)) up = refl
dropped-before e (Some LetGo) up = refl
dropped-before e (Some (DroppedNow after)) up = refl
dropped-before e (Some (Dropped after g)) up = later-eqb after e.last (up-dropped e after g (up (Dropped after g) refl))

or-false : (a b : Bool) → a ≡ false → (not a || b) ≡ true
or-false true b h = absurd (true≢false h)
or-false false b h = refl

pub since-before : (last generation : ℕ) (o : Option State) → is_dropped_since last o ≡ false → is_in_generation last generation o ≡ true
since-before last generation None h = refl
since-before last generation (Some Free) h = refl
since-before last generation (Some Returned) h = refl
since-before last generation (Some Made) h = refl
since-before last generation (Some (InUse after)) h = refl
since-before last generation (Some LetGo) h = refl
since-before last generation (Some (DroppedNow after)) h = refl
since-before last generation (Some (Dropped after g)) h = or-false (eqb after last) (eqb g generation) h

-- a layout with its laws, and a store with a root to commit
module _ (bits : ℕ) (reaches : ℕ → Records → ℕ → List ℕ) (lawful : ℕ → Records → ℕ → Type 0)
    (present : (shape : ℕ) (m : Records) (root : ℕ) → lawful shape m root → AllThere (reaches shape m root) m)
    (stays : (shape : ℕ) (m n : Records) (root : ℕ) → SameAt (reaches shape m root) m n → lawful shape m root → lawful shape n root × (reaches shape n root ≡ reaches shape m root))
    {H : Type 0} (work : WorkView H) (m : Records) (e : EntriesView) (unit : Bool) (st : Stands bits work m e unit) (ended : unit ≡ false) (shape root : ℕ)
    (law : lawful shape (records_by_status (statuses work.commits e) m) root) where
  abbrev records : Records
  records = records_by_status (statuses work.commits e) m

  abbrev image : Image
  image = next_image reaches shape records root

  -- what is reached has the same words in the work
  pub read-work : lawful shape m root × (next_image reaches shape m root ≡ image)
  read-work =
      image-same reaches lawful present stays shape records m root
      (same-from (reaches shape records root) records m (λ q among.
      let some = there-among (reaches shape records root) records q (present shape records root law) among in
      sym (cond-true (has_record (statuses work.commits e q)) (m q) [] (some_filtered (has_record (statuses work.commits e q)) (m q) some).0))) law

  module _ (whole : IsWhole bits (ledger_of bits work shape m e unit) (reaches shape records root)) where
    used-in : (r : ℕ) → is_in image r ≡ true → in_use (statuses work.commits e r) ≡ true
    used-in r h = whole.used r (in-among (reaches shape records root) records root r h)

    -- what is in use and not reached lies in a sealed buffer
    out-sealed : (r : ℕ) → in_use (statuses work.commits e r) ≡ true → is_in image r ≡ false → (e.mark (buffer_of bits r)).sealed ≡ true
    out-sealed r used out = elim (cases_Bool (e.mark (buffer_of bits r)).sealed) [
      | inl t ↦ t
      | inr t ↦ absurd (true≢false (sym (among-in (reaches shape records root) records root r (present shape records root law) (whole.all r used t)) ∙ out))
    ]

    pub words-apart : (r : ℕ) → is_this e.finished (buffer_of bits r) ≡ true → words_at image r ≡ []
    words-apart r is = none-in (words_at image r) (λ some. true≢false (sym is ∙ whole.apart r (in-among (reaches shape records root) records root r (lt-ltb 0 _ some))))
      where
        none-in : (xs : List ℕ) → (0 < length xs → ⊥) → xs ≡ []
        none-in [] none = refl
        none-in (x ∷ xs) none = absurd (none (omega arith))

    -- what the work published
    module _ (new : WorkView H) (n : Records) (number : ℕ) (after : EntriesView) (number_is : number ≡ work.commits.last + 1) (adds_read : AddsCommit work.commits new.commits (next_image reaches shape m root))
        (knows_read : new ≡ published work new.commits (next_image reaches shape m root)) (written_read : n ≡ words_at (next_image reaches shape m root)) (counts : after ≡ record e { last = number }) where
      pub adds : AddsCommit work.commits new.commits image
      adds = subst (AddsCommit work.commits new.commits) read-work.1 adds_read

      knows : new ≡ published work new.commits image
      knows = knows_read ∙ ap (published work new.commits) read-work.1

      pub written : n ≡ words_at (last_image new.commits)
      written = written_read ∙ ap words_at read-work.1 ∙ ap words_at (sym adds.image_is)

      next : number ≡ e.last + 1
      next = number_is ∙ ap (λ k. k + 1) (sym st.last)

      abbrev tag : Tag
      tag = record { generation = current work; commit = work.commits.last + 1 }

      tag-is : tag_at e.generation e.last ≡ tag
      tag-is = ap (λ g. tag_at g e.last) st.generation ∙ ap (tag_at (current work)) st.last

      after-is : after ≡ record e { last = e.last + 1 }
      after-is = counts ∙ ap (λ k. record e { last = k }) next

      status-now : (r : ℕ) → statuses new.commits after r ≡ after_commit tag (is_in image r) (statuses work.commits e r)
      status-now r =
          ap (λ x. statuses new.commits x r) after-is
          ∙ ap (λ i. status_of (is_in i r) (e.last + 1) (e.state r)) adds.image_is
          ∙ by_state (e.state r) refl
          ∙ ap (λ t. after_commit t (is_in image r) (statuses work.commits e r)) tag-is
        where
          by_state : (o : Option State) → e.state r ≡ o → status_of (is_in image r) (e.last + 1) (e.state r) ≡ after_commit (tag_at e.generation e.last) (is_in image r) (statuses work.commits e r)
          by_state None is = ap (status_of (is_in image r) (e.last + 1)) is ∙ sym (ap (λ o. after_commit (tag_at e.generation e.last) (is_in image r) (status_of (is_in (last_image work.commits) r) e.last o)) is)
          by_state (Some s) is =
              ap (status_of (is_in image r) (e.last + 1)) is
              ∙ committed-state (is_in (last_image work.commits) r) (is_in image r) e s (st.good.up_to r s is) (subst (λ o. is_settled_entry o ≡ true) is (st.settled ended r))
              (subst (λ o. is_in_generation e.last e.generation o ≡ true) is (st.since r))
              (λ h. subst (λ o. in_use (status_of (is_in (last_image work.commits) r) e.last o) ≡ true) is (used-in r h))
              ∙ sym (ap (λ o. after_commit (tag_at e.generation e.last) (is_in image r) (status_of (is_in (last_image work.commits) r) e.last o)) is)

      -- its tag is that of the work now
      tag-now : tag_now new ≡ tag
      tag-now = ap (λ w. record { generation = current w; commit = new.commits.last }) knows ∙ ap (λ k. record { generation = current work; commit = k }) adds.last

      pub publishes : (formed : ℕ) → formed ≡ shape → Publishes (ledger_of bits work shape m e unit) (ledger_of bits new formed n after unit) image number
      publishes formed same = record {
        number_is = number_is;
        adds = adds;
        work = knows;
        status = λ r. status-now r ∙ ap (λ t. after_commit t (is_in image r) (statuses work.commits e r)) (sym tag-now);
        same = λ k. record (ledger_of bits new formed n after unit) {
          shape = same k;
          of_width = (counts k).of_width;
          sealed = λ b. ((counts k).mark b).sealed;
          finished = (counts k).finished;
        };
      }

      pub tagged : (r : ℕ) → is_dropped_since after.last (after.state r) ≡ false
      tagged r = subst (λ x. is_dropped_since x.last (x.state r) ≡ false) (sym after-is) (dropped-before e (e.state r) (λ s is. st.good.up_to r s is))

      pub apart : (r : ℕ) → is_this after.finished (buffer_of bits r) ≡ true → words_at (last_image new.commits) r ≡ []
      apart r is = ap (λ i. words_at i r) adds.image_is ∙ words-apart r (subst (λ x. is_this x.finished (buffer_of bits r) ≡ true) counts is)

      pub records-now : records_by_status (statuses new.commits after) n ≡ words_at (last_image new.commits)
      records-now = λ k r. at r k
        where
          by_has : (t : Bool) (ws : List ℕ) → (0 < length ws → t ≡ true) → cond t ws [] ≡ ws
          by_has true ws h = refl
          by_has false [] h = refl
          by_has false (w ∷ ws) h = absurd (false≢true (h (omega arith)))

          has-live : (has : Bool) (c : Status) → (has ≡ true → in_use c ≡ true) → has ≡ true → has_record (after_commit tag has c) ≡ true
          has-live false c used h = absurd (false≢true h)
          has-live true Status.unmade used h = used refl
          has-live true Status.free used h = used refl
          has-live true Status.pending used h = refl
          has-live true Status.live used h = refl
          has-live true Status.dropped used h = absurd (false≢true (used refl))
          has-live true Status.let_go used h = absurd (false≢true (used refl))
          has-live true (Status.held u) used h = absurd (false≢true (used refl))
          has-live true Status.left used h = absurd (false≢true (used refl))

          at : (r : ℕ) → cond (has_record (statuses new.commits after r)) (n r) [] ≡ words_at (last_image new.commits) r
          at r =
              ap (λ (x : Records). cond (has_record (statuses new.commits after r)) (x r) []) written
              ∙ by_has (has_record (statuses new.commits after r)) (words_at (last_image new.commits) r)
              (λ some. ap has_record (status-now r) ∙ has-live (is_in image r) (statuses work.commits e r) (used-in r) (lt-ltb 0 _ (subst (λ i. 0 < length (words_at i r)) adds.image_is some)))

      pub stands-published : IsQueue work → IsGood bits after → Stands bits new n after unit
      stands-published queue good =
          let here = sound-published bits work m (statuses work.commits e) st.sound new.commits image adds queue.order used-in
          (λ r. still-kept (is_in (last_image work.commits) r) e.last (e.state r) (st.settled ended r)) (statuses new.commits after) status-now in
          record {
            good = good;
            count = ap (λ x. x.count) counts ∙ st.count ∙ sym (ap (λ w. w.sizes.buffers) knows);
            words = ap (λ x. x.words) counts ∙ st.words ∙ sym (ap (λ w. w.sizes.words) knows);
            last = ap (λ x. x.last) counts ∙ number_is ∙ sym adds.last;
            generation = ap (λ x. x.generation) counts ∙ st.generation ∙ sym (ap current knows);
            oldest = ap (λ x. x.oldest) counts ∙ st.oldest ∙ sym (ap (λ w. (oldest_of w.queue).generation) knows);
            marks = λ b inside.
                subst (λ x. is_mark_of (x.mark b) (new.buffer b) ≡ true) (sym counts)
                (subst (λ w. is_mark_of (e.mark b) (w.buffer b) ≡ true) (sym knows) (st.marks b (subst (λ k. b < k) (ap (λ w. w.sizes.buffers) knows) inside)));
            sound = subst (λ w. AreSoundStatuses bits w n (statuses new.commits after)) (sym knows)
                (subst (λ (x : Records). AreSoundStatuses bits (published work new.commits image) x (statuses new.commits after)) (sym (written_read ∙ ap words_at read-work.1)) here);
            since = λ r. since-before after.last after.generation (after.state r) (tagged r);
            settled = λ ended r. subst (λ x. is_settled_entry (x.state r) ≡ true) (sym counts) (st.settled ended r);
            no_fresh = λ ended w. ap (λ x. (x.of_width w).fresh) counts ∙ st.no_fresh ended w;
            left_out = λ r is. ap (λ x. (x.mark (buffer_of bits r)).sealed) counts
                ∙ commit-left tag (is_in image r) (statuses work.commits e r) (sym (status-now r) ∙ is) (st.left_out r) (out-sealed r);
            timely = let now = ap current knows in let last = adds.last in let early = st.timely in omega arith;
            unread = λ b inside alone limit.
                subst (λ w. is_held (w.buffer b) ≡ false) (sym knows) (st.unread b (subst (λ k. b < k) (ap (λ w. w.sizes.buffers) knows) inside) (sym (ap (λ w. w.made) knows) ∙ alone)
                (subst (λ w. current w < w.sizes.generations) knows limit));
          }
