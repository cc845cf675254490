-- What the counts and the queue bound: counts, misses, closes, the floor.
use Rattle.std.proofs.Common.{◌++◌, AllPairs, unwrap_or, eq-eqb, ◌≡◌, ◌≢◌, ℕ, ◌+◌, ◌*◌, ◌%◌, ◌<◌, ◌≤◌, List, [], ◌∷◌, length, Some, Bool, true, false, refl, sym, ap, ◌∙◌, subst, arith, slice_index}
use Rattle.std.specs.Prelude.{slice_get, count_by}
use Rattle.std.proofs.lemmas.List.Sums.{count_by-le-length}
use Rattle.gen_core.specs.Good.{hold_word, State, IsBefore, HoldFits, AimFits, BounceFits, GuardFits, GoodReaderState, GoodReader, Good}
use Rattle.gen_core.specs.Views.{queue_of, oldest_in, oldest_of, floor_of, hold_place, is_open_hold, is_counted_on, spent}
use Rattle.gen_core.specs.Conditions.{MayClose, MayProbe}
use Rattle.gen_core.specs.Laws.{IsInUse, IsPassed}
use Rattle.gen_core.specs.Steps.{hold_of, hold_in, word_of, operation_of, subtract}
use Rattle.gen_core.specs.declared.views.Event.{Event}
use Rattle.gen_core.specs.declared.views.Event.TheVariants.{StoreWidth, StoreWord, FindWord, HandOut, Publish, PutOnHold, FreeBuffer, Reopen, StoreNewest, Close, StopAtOldest, Probe, StopAtNewest, Morph}
use Rattle.gen_core.specs.Events.{coming_hold, count_at, Happens}
use Rattle.gen_core.specs.declared.views.Event.TheVariants.{Split, Join, MeetLoad, LoadOwn, LoadNewest, Raise, Bounce, LoadRoot, LoadWord, Release}
use Rattle.gen_core.proofs.Holds.{at_newest, at_oldest, oldest-push, newest-open, oldest-rises, oldest-replaced, first-open}
use Rattle.gen_core.proofs.Lists.{all_at, count_some}
use Rattle.gen_core.proofs.Advancing.{closed-word}
use Rattle.gen_core.specs.declared.views.OpenHold.{OpenHold}
use Rattle.gen_core.specs.declared.views.WriterView.{WriterView}
use Rattle.gen_core.specs.declared.views.ReaderView.{ReaderView}
use Rattle.entry_ref.specs.Records.{Records}
use Rattle.gen_core.specs.declared.views.ReaderState.TheVariants.{Aimed, Bounced, Guarded}

-- twice a number, and one more where it is closed
even-word : (n : ℕ) (o : Bool) → o ≡ true → hold_word n o ≡ 2 * n
even-word n o is = ap (hold_word n) is ∙ (let e : 2 * n + 0 ≡ 2 * n = omega arith in e)

module _ (reaches : ℕ → Records → ℕ → List ℕ) (lawful : ℕ → Records → ℕ → Type 0) where
  pub count-small : (s : State) (h : ℕ) → Good reaches lawful s → h < 16 → count_at s h ≤ 129
  count-small s h g low =
      let word = g.counts.counts h low in
      let most = count_by-le-length (λ (q : ReaderView). is_counted_on h q.state) s.readers in
      let few = g.counts.few in
      let views = g.counts.views in
      by_open (is_open_hold s.writer.queue h) word most few views
    where
      by_open : (o : Bool) → slice_index s.words (hold_place h) ≡ hold_word (count_by (λ (q : ReaderView). is_counted_on h q.state) s.readers) o
          → count_by (λ (q : ReaderView). is_counted_on h q.state) s.readers ≤ length s.readers → s.writer.made ≤ 64 → length s.readers ≡ s.writer.made → count_at s h ≤ 129
      by_open true word most few views = omega arith
      by_open false word most few views = omega arith

  -- the count of an open hold is even
  open-even : (s : State) (h : ℕ) → Good reaches lawful s → h < 16 → is_open_hold s.writer.queue h ≡ true → count_at s h ≢ 0 → IsInUse (count_at s h)
  open-even s h g low opened some =
      let n : ℕ = count_by (λ (q : ReaderView). is_counted_on h q.state) s.readers in
      let word : count_at s h ≡ 2 * n = g.counts.counts h low ∙ even-word n _ opened in
      record { even = omega (arith, word); some = omega (arith, some) }

  pub close-finds : (s : State) (e : OpenHold) (es : List OpenHold) → Good reaches lawful s → MayClose s.writer e es → count_at s e.hold ≢ 0 → IsInUse (count_at s e.hold)
  close-finds s e es g may some = open-even s e.hold g low opened some
    where
      oldest : oldest_of s.writer.queue ≡ e
      oldest = ap (λ l. oldest_in l s.writer.queue.newest) may.is

      low : e.hold < 16
      low = subst (λ (x : OpenHold). x.hold < 16) oldest (at_oldest (HoldFits s.writer.commits) s.writer.queue.older s.writer.queue.newest g.queue.each).hold

      opened : is_open_hold s.writer.queue e.hold ≡ true
      opened = ap (λ l. is_open_hold (queue_of l s.writer.queue.newest s.writer.queue.pending) e.hold) may.is ∙ first-open e es s.writer.queue.newest s.writer.queue.pending

  pub probe-finds : (s : State) → Good reaches lawful s → MayProbe s.writer → count_at s s.writer.queue.newest.hold ≢ 0 → IsInUse (count_at s s.writer.queue.newest.hold)
  probe-finds s g may some =
      open-even s s.writer.queue.newest.hold g (at_newest (HoldFits s.writer.commits) s.writer.queue.older s.writer.queue.newest g.queue.each).hold (newest-open s.writer.queue) some

  -- a view that aims at a hold that is closed aims below the current generation
  pub odd-passed : (s : State) (j generation h : ℕ) (r : ReaderView) → Good reaches lawful s → slice_get s.readers j ≡ Some r → r.state ≡ Aimed generation h → count_at s h % 2 ≡ 1 → IsPassed s r generation
  odd-passed s j generation h r g at aimed odd =
      let w : WriterView = s.writer in
      let old = all_at (GoodReader w.sizes w.queue w.commits) s.readers j r g.readers at in
      let aim : AimFits w.queue.newest r.least generation h = subst (GoodReaderState w.queue w.commits r) aimed old.state in
      let other : generation ≢ w.queue.newest.generation = λ same. not-newest (aim.current same) in
      let is = aim.aim in
      let le = old.least in
      record { newer = omega (arith, is, le, other); higher = omega (arith, is, le, other) }
    where
      not-newest : h ≡ s.writer.queue.newest.hold → ⊥
      not-newest same =
          let low = (at_newest (HoldFits s.writer.commits) s.writer.queue.older s.writer.queue.newest g.queue.each).hold in
          let n : ℕ = count_by (λ (q : ReaderView). is_counted_on s.writer.queue.newest.hold q.state) s.readers in
          let word : count_at s s.writer.queue.newest.hold ≡ 2 * n = g.counts.counts s.writer.queue.newest.hold low ∙ even-word n _ (newest-open s.writer.queue) in
          let here : count_at s s.writer.queue.newest.hold % 2 ≡ 1 = ap (λ i. count_at s i % 2) (sym same) ∙ odd in
          omega (arith, word, here)

  pub least-below : (s : State) (j : ℕ) (r : ReaderView) → Good reaches lawful s → slice_get s.readers j ≡ Some r → r.least ≤ s.writer.queue.newest.generation
  least-below s j r g at = (all_at (GoodReader s.writer.sizes s.writer.queue s.writer.commits) s.readers j r g.readers at).least

  -- a view that is counted on a hold has raised its count
  pub counted-two : (s : State) (j h : ℕ) (r : ReaderView) → Good reaches lawful s → slice_get s.readers j ≡ Some r → h < 16 → is_counted_on h r.state ≡ true → 2 ≤ count_at s h
  counted-two s j h r g at low on =
      let some = count_some (λ (q : ReaderView). is_counted_on h q.state) s.readers j r at on in
      let word = g.counts.counts h low in
      omega (arith, some, word)

  -- a commit's number that is not lower
  stays : (s t : State) → floor_of t.writer ≡ floor_of s.writer → floor_of s.writer ≤ floor_of t.writer
  stays s t e = omega (arith, e)

  close-rises : (s : State) (e : OpenHold) (es : List OpenHold) → Good reaches lawful s → s.writer.queue.older ≡ e ∷ es → floor_of s.writer ≤ (oldest_in es s.writer.queue.newest).first_commit
  close-rises s e es g is =
      subst (λ l. (oldest_in l s.writer.queue.newest).first_commit ≤ (oldest_in es s.writer.queue.newest).first_commit) (sym is)
      (oldest-rises e es s.writer.queue.newest (subst (λ l. AllPairs IsBefore (l ++ s.writer.queue.newest ∷ [])) is g.queue.rising))

  pub floor-stays : (s t : State) (e : Event) → Good reaches lawful s → Happens reaches lawful s e t → floor_of s.writer ≤ floor_of t.writer
  floor-stays s t (StoreWidth b width) g h = stays s t (ap (λ (x : State). floor_of x.writer) h.1)
  floor-stays s t (StoreWord p n) g h = stays s t (ap (λ (x : State). floor_of x.writer) h.1)
  floor-stays s t (FindWord p) g h = stays s t (ap (λ (x : State). floor_of x.writer) h.1)
  floor-stays s t (HandOut b) g h = stays s t (ap (λ (x : State). floor_of x.writer) h.1)
  floor-stays s t (Publish root) g h = stays s t (ap (λ (x : State). floor_of x.writer) h.1)
  floor-stays s t (PutOnHold b) g h = stays s t (ap (λ (x : State). floor_of x.writer) h.2)
  floor-stays s t (FreeBuffer b) g h = stays s t (ap (λ (x : State). floor_of x.writer) h.2)
  floor-stays s t (Reopen k) g h = stays s t (ap (λ (x : State). floor_of x.writer) h.1)
  floor-stays s t StoreNewest g h = stays s t (ap (λ (x : State). floor_of x.writer) h.2
      ∙ ap (λ (e : OpenHold). e.first_commit) (oldest-push s.writer.queue.older s.writer.queue.newest (coming_hold s.writer h.0)))
  floor-stays s t Close g h = subst (λ (x : State). floor_of s.writer ≤ floor_of x.writer) (sym h.4) (close-rises s h.0 h.1 g h.2.is)
  floor-stays s t StopAtOldest g h = stays s t (ap (λ (x : State). floor_of x.writer) h.4)
  floor-stays s t Probe g h = stays s t (ap (λ (x : State). floor_of x.writer) h.2)
  floor-stays s t StopAtNewest g h = stays s t (ap (λ (x : State). floor_of x.writer) h.2)
  floor-stays s t Morph g h = subst (λ (x : State). floor_of s.writer ≤ floor_of x.writer) (sym h.1)
      (oldest-replaced s.writer.queue.older s.writer.queue.newest (coming_hold s.writer s.writer.queue.newest.hold)
      (at_newest (HoldFits s.writer.commits) s.writer.queue.older s.writer.queue.newest g.queue.each).first_commit)
  floor-stays s t Split g h = stays s t (ap (λ (x : State). floor_of x.writer) h.1)
  floor-stays s t (Join j) g h = stays s t (ap (λ (x : State). floor_of x.writer) h.3)
  floor-stays s t MeetLoad g h = stays s t (ap (λ (x : State). floor_of x.writer) h.1)
  floor-stays s t (LoadOwn p) g h = stays s t (ap (λ (x : State). floor_of x.writer) h.1)
  floor-stays s t (LoadNewest j) g h = stays s t (ap (λ (x : State). floor_of x.writer) h.3)
  floor-stays s t (Raise j) g h = stays s t (ap (λ (x : State). floor_of x.writer) h.5)
  floor-stays s t (Bounce j) g h = stays s t (ap (λ (x : State). floor_of x.writer) h.4)
  floor-stays s t (LoadRoot j) g h = stays s t (ap (λ (x : State). floor_of x.writer) h.4)
  floor-stays s t (LoadWord j p) g h = stays s t (ap (λ (x : State). floor_of x.writer) h.3)
  floor-stays s t (Release j) g h = stays s t (ap (λ (x : State). floor_of x.writer) h.5)

  taken : (a b : ℕ) → subtract a ≡ subtract b → a ≡ b
  taken a b e = cc

  -- the hold of a view that is counted on it
  two-below : (s : State) (j h : ℕ) (r : ReaderView) (n : ℕ) → Good reaches lawful s → slice_get s.readers j ≡ Some r → hold_of r.state ≡ h → is_counted_on h r.state ≡ true → h < 16 → 2 ≡ n
      → n ≤ slice_index s.words (hold_place (hold_in s j))
  two-below s j h r n g at is on low two =
      let named : hold_in s j ≡ h = ap (λ o. hold_of (unwrap_or o spent).state) at ∙ is in
      let most = counted-two s j h r g at low on in
      subst (λ i. n ≤ count_at s i) (sym named) (omega (arith, most, two))

  bounced-low : (s : State) (j : ℕ) (r : ReaderView) (h : ℕ) → Good reaches lawful s → slice_get s.readers j ≡ Some r → r.state ≡ Bounced h → h < 16
  bounced-low s j r h g at is =
      let fits : BounceFits s.writer.queue.newest r.least h = subst (GoodReaderState s.writer.queue s.writer.commits r) is
      (all_at (GoodReader s.writer.sizes s.writer.queue s.writer.commits) s.readers j r g.readers at).state in
      fits.hold

  guarded-low : (s : State) (j : ℕ) (r : ReaderView) (h c : ℕ) → Good reaches lawful s → slice_get s.readers j ≡ Some r → r.state ≡ Guarded h c → h < 16
  guarded-low s j r h c g at is =
      let fits : GuardFits s.writer.queue s.writer.commits r.saw h c =
      subst (GoodReaderState s.writer.queue s.writer.commits r) is (all_at (GoodReader s.writer.sizes s.writer.queue s.writer.commits) s.readers j r g.readers at).state in
      fits.raised.hold

  -- only three events take from a count
  pub none-below : (s t : State) (e : Event) (n : ℕ) → Good reaches lawful s → Happens reaches lawful s e t → operation_of s e ≡ subtract n → n ≤ slice_index s.words (word_of s e)
  none-below s t (StoreWidth b width) n g h is = absurd (cc)
  none-below s t (StoreWord p m) n g h is = absurd (cc)
  none-below s t (FindWord p) n g h is = absurd (cc)
  none-below s t (HandOut b) n g h is = absurd (cc)
  none-below s t (Publish root) n g h is = absurd (cc)
  none-below s t (PutOnHold b) n g h is = absurd (cc)
  none-below s t (FreeBuffer b) n g h is = absurd (cc)
  none-below s t (Reopen k) n g h is = let one = taken 1 n is in let word = closed-word reaches lawful s k g h.0 in omega (arith, one, word)
  none-below s t StoreNewest n g h is = absurd (cc)
  none-below s t Close n g h is = absurd (cc)
  none-below s t StopAtOldest n g h is = absurd (cc)
  none-below s t Probe n g h is = absurd (cc)
  none-below s t StopAtNewest n g h is = absurd (cc)
  none-below s t Morph n g h is = absurd (cc)
  none-below s t Split n g h is = absurd (cc)
  none-below s t (Join j) n g h is = absurd (cc)
  none-below s t MeetLoad n g h is = absurd (cc)
  none-below s t (LoadOwn p) n g h is = absurd (cc)
  none-below s t (LoadNewest j) n g h is = absurd (cc)
  none-below s t (Raise j) n g h is = absurd (cc)
  none-below s t (Bounce j) n g h is = two-below s j h.2 h.0 n g h.1 (ap hold_of h.3) (ap (is_counted_on h.2) h.3 ∙ eq-eqb h.2 h.2 refl) (bounced-low s j h.0 h.2 g h.1 h.3) (taken 2 n is)
  none-below s t (LoadRoot j) n g h is = absurd (cc)
  none-below s t (LoadWord j p) n g h is = absurd (cc)
  none-below s t (Release j) n g h is = two-below s j h.2 h.0 n g h.1 (ap hold_of h.4) (ap (is_counted_on h.2) h.4 ∙ eq-eqb h.2 h.2 refl) (guarded-low s j h.0 h.2 h.3 g h.1 h.4) (taken 2 n is)
