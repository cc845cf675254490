-- Each event is one step of one seat on one word.
use Rattle.list_lemmas.proofs.Places.{slice_get-set_other}
use Rattle.std.proofs.Common.{◌≡◌, ◌≢◌, ℕ, zero, suc, List, [], ◌∷◌, ◌++◌, length, set, Some, cond, refl, sym, ap, ◌∙◌, subst, slice_index, eq-eqb, ne_eqb}
use Rattle.std.specs.Prelude.{slice_get, option_map}
use Rattle.std.specs.Option.{unwrap_or}
use Rattle.gen_core.specs.Views.{oldest_in, oldest_of, last_number, last_image, newest_word, hold_place, spent}
use Rattle.gen_core.specs.Good.{State}
use Rattle.gen_core.specs.Steps.{left_by, hold_of, hold_in, next_hold, view_at, IsOneStep, add, subtract, exchange}
use Rattle.gen_core.specs.declared.views.Event.{Event}
use Rattle.gen_core.specs.declared.views.Event.TheVariants.{StoreWidth, StoreWord, FindWord, HandOut, Publish, PutOnHold, FreeBuffer, Reopen}
use Rattle.gen_core.specs.Events.{coming_hold, newcomer, meets, released, aims, bounced, sees, count_at, Happens}
use Rattle.gen_core.specs.declared.views.Event.TheVariants.{StoreNewest, Close, StopAtOldest, Probe, StopAtNewest, Morph, Split, Join, MeetLoad, LoadOwn, LoadNewest, Raise, Bounce, LoadRoot, LoadWord, Release}
use Rattle.gen_core.specs.declared.views.OpenHold.{OpenHold}
use Rattle.gen_core.specs.declared.views.ReaderView.{ReaderView}
use Rattle.entry_ref.specs.Records.{Records}
use Rattle.gen_core.specs.declared.views.View.TheVariants.{Writer, Reader}

-- a word that is written with what stands there
pub set_back : (ns : List ℕ) (i : ℕ) → set ns i (slice_index ns i) ≡ ns
set_back [] i = refl
set_back (n ∷ ns) zero = refl
set_back (n ∷ ns) (suc i) = λ j. n ∷ set_back ns i j

-- one element more leaves the others
at_before : {A : Type 0} (l : List A) (x : A) (i : ℕ) → i ≢ length l → slice_get (l ++ x ∷ []) i ≡ slice_get l i
at_before [] x zero ne = absurd (ne refl)
at_before [] x (suc i) ne = refl
at_before (y ∷ ys) x zero ne = refl
at_before (y ∷ ys) x (suc i) ne = at_before ys x i (λ e. ne (ap suc e))

-- the writer's step leaves the readers' views
writer-alone : (s t : State) → t.readers ≡ s.readers → (k : ℕ) → k ≢ 0 → view_at t k ≡ view_at s k
writer-alone s t e zero off = absurd (off refl)
writer-alone s t e (suc j) off = ap (λ l. option_map Reader (slice_get l j)) e

-- a reader's step leaves all others
reader-alone : (s t : State) (j : ℕ) (v : ReaderView) → t.writer ≡ s.writer → t.readers ≡ set s.readers j v → (k : ℕ) → k ≢ suc j → view_at t k ≡ view_at s k
reader-alone s t j v w e zero off = ap (λ x. Some (Writer x)) w
reader-alone s t j v w e (suc i) off = ap (λ l. option_map Reader (slice_get l i)) e ∙ ap (option_map Reader) (slice_get-set_other s.readers j i v (λ same. off (ap suc same)))

-- a split leaves the readers that were there, and a join all but the one that it takes
split-views : (s t : State) (v : ReaderView) → t.readers ≡ s.readers ++ v ∷ [] → (k : ℕ) → k ≢ 0 → k ≢ suc (length s.readers) → view_at t k ≡ view_at s k
split-views s t v e zero off far = absurd (off refl)
split-views s t v e (suc i) off far = ap (λ l. option_map Reader (slice_get l i)) e ∙ ap (option_map Reader) (at_before s.readers v i (λ same. far (ap suc same)))

join-views : (s t : State) (j : ℕ) (v : ReaderView) → t.readers ≡ set s.readers j v → (k : ℕ) → k ≢ 0 → k ≢ suc j → view_at t k ≡ view_at s k
join-views s t j v e zero off far = absurd (off refl)
join-views s t j v e (suc i) off far = ap (λ l. option_map Reader (slice_get l i)) e ∙ ap (option_map Reader) (slice_get-set_other s.readers j i v (λ same. far (ap suc same)))

-- a load leaves the words
loaded : (s t : State) (p : ℕ) → t.words ≡ s.words → t.words ≡ set s.words p (slice_index s.words p)
loaded s t p e = e ∙ sym (set_back s.words p)

-- the hold that a reader's view names
named : (s : State) (j h : ℕ) (r : ReaderView) → slice_get s.readers j ≡ Some r → hold_of r.state ≡ h → hold_in s j ≡ h
named s j h r at is = ap (λ o. hold_of (unwrap_or o spent).state) at ∙ is

-- a step on the count of the hold that a reader's view names
on-count : (s t : State) (j h : ℕ) (r : ReaderView) (f : ℕ → ℕ) → slice_get s.readers j ≡ Some r → hold_of r.state ≡ h → t.words ≡ set s.words (hold_place h) (f (count_at s h))
    → t.words ≡ set s.words (hold_place (hold_in s j)) (f (slice_index s.words (hold_place (hold_in s j))))
on-count s t j h r f at is e = subst (λ i. t.words ≡ set s.words (hold_place i) (f (count_at s i))) (sym (named s j h r at is)) e

-- a step on the count of the oldest hold
on-oldest : (s t : State) (e : OpenHold) (es : List OpenHold) (f : ℕ → ℕ) → s.writer.queue.older ≡ e ∷ es → t.words ≡ set s.words (hold_place e.hold) (f (count_at s e.hold))
    → t.words ≡ set s.words (hold_place (oldest_of s.writer.queue).hold) (f (slice_index s.words (hold_place (oldest_of s.writer.queue).hold)))
on-oldest s t e es f older is =
    let oldest : (oldest_of s.writer.queue).hold ≡ e.hold = ap (λ l. (oldest_in l s.writer.queue.newest).hold) older in
    subst (λ i. t.words ≡ set s.words (hold_place i) (f (count_at s i))) (sym oldest) is

module _ (reaches : ℕ → Records → ℕ → List ℕ) (lawful : ℕ → Records → ℕ → Type 0) where
  pub one_step : (s t : State) (e : Event) → Happens reaches lawful s e t → IsOneStep s e t
  one_step s t (StoreWidth b width) h = record { words = ap (λ (x : State). x.words) h.1; views = λ k off far. writer-alone s t (ap (λ (x : State). x.readers) h.1) k off }
  one_step s t (StoreWord p n) h = record { words = ap (λ (x : State). x.words) h.1; views = λ k off far. writer-alone s t (ap (λ (x : State). x.readers) h.1) k off }
  one_step s t (FindWord p) h = record { words = loaded s t p (ap (λ (x : State). x.words) h.1); views = λ k off far. writer-alone s t (ap (λ (x : State). x.readers) h.1) k off }
  one_step s t (HandOut b) h = record { words = ap (λ (x : State). x.words) h.1; views = λ k off far. writer-alone s t (ap (λ (x : State). x.readers) h.1) k off }
  one_step s t (Publish root) h = record { words = ap (λ (x : State). x.words) h.1; views = λ k off far. writer-alone s t (ap (λ (x : State). x.readers) h.1) k off }
  one_step s t (PutOnHold b) h = record { words = ap (λ (x : State). x.words) h.2; views = λ k off far. writer-alone s t (ap (λ (x : State). x.readers) h.2) k off }
  one_step s t (FreeBuffer b) h = record { words = ap (λ (x : State). x.words) h.2; views = λ k off far. writer-alone s t (ap (λ (x : State). x.readers) h.2) k off }
  one_step s t (Reopen n) h = record { words = ap (λ (x : State). x.words) h.1; views = λ k off far. writer-alone s t (ap (λ (x : State). x.readers) h.1) k off }
  one_step s t StoreNewest h = record {
    words = subst (λ n. t.words ≡ set s.words 1 (newest_word (coming_hold s.writer n))) (sym (ap next_hold h.1)) (ap (λ (x : State). x.words) h.2);
    views = λ k off far. writer-alone s t (ap (λ (x : State). x.readers) h.2) k off;
  }
  one_step s t Close h = record {
    words = on-oldest s t h.0 h.1 (left_by (exchange 0 1)) h.2.is
        (ap (λ (x : State). x.words) h.4 ∙ ap (set s.words (hold_place h.0.hold)) (sym (ap (λ b. cond b 1 (count_at s h.0.hold)) (eq-eqb (count_at s h.0.hold) 0 h.3))));
    views = λ k off far. writer-alone s t (ap (λ (x : State). x.readers) h.4) k off;
  }
  one_step s t StopAtOldest h = record {
    words = on-oldest s t h.0 h.1 (left_by (exchange 0 1)) h.2.is
        (loaded s t (hold_place h.0.hold) (ap (λ (x : State). x.words) h.4) ∙ ap (set s.words (hold_place h.0.hold)) (sym (ap (λ b. cond b 1 (count_at s h.0.hold)) (ne_eqb (count_at s h.0.hold) 0 h.3))));
    views = λ k off far. writer-alone s t (ap (λ (x : State). x.readers) h.4) k off;
  }
  one_step s t Probe h = record { words = loaded s t _ (ap (λ (x : State). x.words) h.2); views = λ k off far. writer-alone s t (ap (λ (x : State). x.readers) h.2) k off }
  one_step s t StopAtNewest h = record { words = loaded s t _ (ap (λ (x : State). x.words) h.2); views = λ k off far. writer-alone s t (ap (λ (x : State). x.readers) h.2) k off }
  one_step s t Morph h = record { words = ap (λ (x : State). x.words) h.1; views = λ k off far. writer-alone s t (ap (λ (x : State). x.readers) h.1) k off }
  one_step s t Split h = record { words = loaded s t 0 (ap (λ (x : State). x.words) h.1); views = λ k off far. split-views s t (newcomer s.writer) (ap (λ (x : State). x.readers) h.1) k off far }
  one_step s t (Join j) h = record { words = loaded s t 0 (ap (λ (x : State). x.words) h.3); views = λ k off far. join-views s t j spent (ap (λ (x : State). x.readers) h.3) k off far }
  one_step s t MeetLoad h = record { words = loaded s t 0 (ap (λ (x : State). x.words) h.1); views = λ k off far. ap (λ x. view_at x k) h.1 }
  one_step s t (LoadOwn p) h = record { words = loaded s t p (ap (λ (x : State). x.words) h.1); views = λ k off far. ap (λ x. view_at x k) h.1 }
  one_step s t (LoadNewest j) h = record {
    words = loaded s t 1 (ap (λ (x : State). x.words) h.3);
    views = λ k off far. reader-alone s t j (aims h.0 s.writer.queue.newest) (ap (λ (x : State). x.writer) h.3) (ap (λ (x : State). x.readers) h.3) k off;
  }
  one_step s t (Raise j) h = record {
    words = on-count s t j h.3 h.0 (left_by (add 2)) h.1 (ap hold_of h.4) (ap (λ (x : State). x.words) h.5);
    views = λ k off far. reader-alone s t j (meets h.0 (count_at s h.3) h.3) (ap (λ (x : State). x.writer) h.5) (ap (λ (x : State). x.readers) h.5) k off;
  }
  one_step s t (Bounce j) h = record {
    words = on-count s t j h.2 h.0 (left_by (subtract 2)) h.1 (ap hold_of h.3) (ap (λ (x : State). x.words) h.4);
    views = λ k off far. reader-alone s t j (bounced h.0) (ap (λ (x : State). x.writer) h.4) (ap (λ (x : State). x.readers) h.4) k off;
  }
  one_step s t (LoadRoot j) h = record {
    words = loaded s t 0 (ap (λ (x : State). x.words) h.4);
    views = λ k off far. reader-alone s t j (sees h.0 h.2 (last_number s.writer.commits) (last_image s.writer.commits)) (ap (λ (x : State). x.writer) h.4) (ap (λ (x : State). x.readers) h.4) k off;
  }
  one_step s t (LoadWord j p) h = record { words = loaded s t p (ap (λ (x : State). x.words) h.3); views = λ k off far. ap (λ x. view_at x k) h.3 }
  one_step s t (Release j) h = record {
    words = on-count s t j h.2 h.0 (left_by (subtract 2)) h.1 (ap hold_of h.4) (ap (λ (x : State). x.words) h.5);
    views = λ k off far. reader-alone s t j (released h.0) (ap (λ (x : State). x.writer) h.5) (ap (λ (x : State). x.readers) h.5) k off;
  }
