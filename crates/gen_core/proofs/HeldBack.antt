-- While a view stands on a hold, a buffer that is put on hold stays on hold.
use Rattle.list_lemmas.proofs.Places.{slice_get-set_same, slice_get-set_other}
use Rattle.list_lemmas.proofs.Options.{same_Some}
use Rattle.std.proofs.Common.{◌≡◌, ◌≢◌, ◌⊎◌, inl, inr, ℕ, suc, ◌<◌, ◌≤◌, List, [], ◌∷◌, ◌++◌, set, Option, Some, None, Bool, true, false, refl, sym, ap, ◌∙◌, subst, arith, eq-eqb, eqb-true, true≢false}
use mathlib.Core.Logic.{dite}
use native.Mathlib.Decide.{ℕ_discrete}
use Rattle.std.specs.Prelude.{slice_get, All, nat_eq, IsTrue, ◌||◌, option_and_then}
use Rattle.std.specs.List.{list_any}
use Rattle.std.proofs.lemmas.Option.{slice_get_within}
use Rattle.entry_ref.specs.Records.{Records}
use Rattle.gen_core.specs.declared.views.OpenHold.{OpenHold}
use Rattle.gen_core.specs.declared.views.Queue.{Queue}
use Rattle.gen_core.specs.declared.views.Pending.{Pending}
use Rattle.gen_core.specs.declared.views.Pending.TheVariants.{Nothing, Next, Probed}
use Rattle.gen_core.specs.declared.views.Tag.{Tag}
use Rattle.gen_core.specs.declared.views.Buffer.{Buffer}
use Rattle.gen_core.specs.declared.views.Buffer.TheVariants.{Free, Held}
use Rattle.gen_core.specs.declared.views.ReaderState.{ReaderState}
use Rattle.gen_core.specs.declared.views.ReaderState.TheVariants.{Idle, Aimed, Raised, Bounced, Guarded, Spent}
use Rattle.gen_core.specs.declared.views.ReaderView.{ReaderView}
use Rattle.gen_core.specs.declared.views.Sizes.{Sizes}
use Rattle.gen_core.specs.Views.{queue_of, open_holds, oldest_of, last_number, last_image, active_width, active_in, is_open_hold, is_counted_on, stands_on, spent}
use Rattle.gen_core.specs.Good.{State, RaiseFits, GoodReaderState, GoodReader, Good}
use Rattle.gen_core.specs.declared.views.Event.{Event}
use Rattle.gen_core.specs.declared.views.Event.TheVariants.{StoreWidth, StoreWord, FindWord, HandOut, Publish, PutOnHold, FreeBuffer, Reopen}
use Rattle.gen_core.specs.Events.{coming_hold, tag_of, newcomer, meets, released, aims, bounced, sees, count_at, Happens, Happen}
use Rattle.gen_core.specs.declared.views.Event.TheVariants.{StoreNewest, Close, StopAtOldest, Probe, StopAtNewest, Morph, Split, Join, MeetLoad, LoadOwn, LoadNewest, Raise, Bounce, LoadRoot, LoadWord, Release}
use Rattle.gen_core.specs.Events.{MayOpen, opening}
use Rattle.gen_core.proofs.Lists.{all_at, at_longer}
use Rattle.gen_core.proofs.Holds.{newest-most, oldest-least}
use Rattle.gen_core.proofs.ViewLemmas.{active-there}
use Rattle.gen_core.proofs.Bounds.{counted-two}
use Rattle.gen_core.proofs.Law.{event_keeps, keeps_good}
use Rattle.gen_core.proofs.Layouts.{IsLayout}

-- the list has this hold, under a generation that is not above this one
abbrev pub HasOld : ℕ → ℕ → List OpenHold → Type 0
HasOld h g [] = ⊥
HasOld h g (e ∷ es) = ((e.hold ≡ h) × (e.generation ≤ g)) ⊎ HasOld h g es

old-more : (h g : ℕ) (es : List OpenHold) (x : OpenHold) → HasOld h g es → HasOld h g (es ++ x ∷ [])
old-more h g [] x p = absurd p
old-more h g (e ∷ es) x (inl a) = inl a
old-more h g (e ∷ es) x (inr p) = inr (old-more h g es x p)

old-front : (h g : ℕ) (es : List OpenHold) (x : OpenHold) → x.hold ≢ h → HasOld h g (es ++ x ∷ []) → HasOld h g es
old-front h g [] x ne (inl a) = absurd (ne a.0)
old-front h g [] x ne (inr p) = p
old-front h g (e ∷ es) x ne (inl a) = inl a
old-front h g (e ∷ es) x ne (inr p) = inr (old-front h g es x ne p)

old-tail : (h g : ℕ) (e : OpenHold) (es : List OpenHold) → e.hold ≢ h → HasOld h g (e ∷ es) → HasOld h g es
old-tail h g e es ne (inl a) = absurd (ne a.0)
old-tail h g e es ne (inr p) = p

old-least : (h g f : ℕ) (es : List OpenHold) → All (λ e. f ≤ e.generation) es → HasOld h g es → f ≤ g
old-least h g f [] all p = absurd p
old-least h g f (e ∷ es) all (inl a) = let low = all 0 e (omega arith) in let le = a.1 in omega (arith, low, le)
old-least h g f (e ∷ es) all (inr p) = old-least h g f es (λ k d lt. all (suc k) d (omega arith)) p

old-from : (h g : ℕ) (es : List OpenHold) → All (λ e. e.generation ≤ g) es → IsTrue (list_any (λ e. nat_eq e.hold h) es) → HasOld h g es
old-from h g [] all t = absurd (true≢false (sym t))
old-from h g (e ∷ es) all t = by_test (old-from h g es (λ k d lt. all (suc k) d (omega arith))) (nat_eq e.hold h) refl t
  where
    by_test : (IsTrue (list_any (λ x. nat_eq x.hold h) es) → HasOld h g es) → (u : Bool) → nat_eq e.hold h ≡ u → IsTrue (u || list_any (λ x. nat_eq x.hold h) es) → HasOld h g (e ∷ es)
    by_test later true is o = inl (eqb-true e.hold h is, all 0 e (omega arith))
    by_test later false is o = inr (later o)

-- the reader j stands on the hold h
record Stands (readers : List ReaderView) (j h : ℕ) : Type 0 where
  r : ReaderView
  there : slice_get readers j ≡ Some r
  stands : stands_on r.state ≡ Some h

-- the buffer b is on hold under a tag that is not below the generation of an open hold h, which no probe found unused
record IsBack (queue : Queue) (buffers : List Buffer) (h b : ℕ) : Type 0 where
  width : ℕ
  tag : Tag
  held : slice_get buffers b ≡ Some (Held width tag)
  old : HasOld h tag.generation (open_holds queue)
  probed : queue.pending ≡ Probed → queue.newest.hold ≢ h

abbrev Kept : ℕ → ℕ → ℕ → State → Type 0
Kept j h b s = Stands s.readers j h × IsBack s.writer.queue s.writer.buffers h b

stands-set : (readers : List ReaderView) (j h i : ℕ) (q v : ReaderView) → slice_get readers i ≡ Some q → (i ≡ j → stands_on q.state ≡ Some h → stands_on v.state ≡ Some h) → Stands readers j h
    → Stands (set readers i v) j h
stands-set readers j h i q v at then k = dite (ℕ_discrete j i)
    (λ same.
    let mine : slice_get readers j ≡ Some q = ap (slice_get readers) same ∙ at in
    let one : k.r ≡ q = same_Some k.r q (sym k.there ∙ mine) in
    record {
      r = v;
      there = ap (slice_get (set readers i v)) same ∙ slice_get-set_same readers i v (slice_get_within readers i q at);
      stands = then (sym same) (ap (λ (x : ReaderView). stands_on x.state) (sym one) ∙ k.stands);
    })
    (λ ne. record { r = k.r; there = slice_get-set_other readers i j v ne ∙ k.there; stands = k.stands })

-- where the reader of the step stands on nothing
stands-other : (readers : List ReaderView) (j h i : ℕ) (q v : ReaderView) → slice_get readers i ≡ Some q → stands_on q.state ≡ None → Stands readers j h → Stands (set readers i v) j h
stands-other readers j h i q v at none k = stands-set readers j h i q v at (λ same on. absurd (none-some (sym none ∙ on))) k
  where
    none-some : None ≡ Some h → ⊥
    none-some e = cc

stands-more : (readers : List ReaderView) (j h : ℕ) (v : ReaderView) → Stands readers j h → Stands (readers ++ v ∷ []) j h
stands-more readers j h v k = record { r = k.r; there = at_longer readers (v ∷ []) j k.r k.there; stands = k.stands }

-- another buffer changes
back-set : (queue : Queue) (buffers : List Buffer) (h b c : ℕ) (x : Buffer) → b ≢ c → IsBack queue buffers h b → IsBack queue (set buffers c x) h b
back-set queue buffers h b c x ne k = record { width = k.width; tag = k.tag; held = slice_get-set_other buffers c b x ne ∙ k.held; old = k.old; probed = k.probed }

-- an active buffer is another one, and so is a free one
not-active : (buffers : List Buffer) (b c n width : ℕ) (tag : Tag) → slice_get buffers b ≡ Some (Held width tag) → active_in buffers c ≡ Some n → b ≢ c
not-active buffers b c n width tag held at same = wrong (sym (ap (option_and_then active_width) held) ∙ ap (active_in buffers) same ∙ at)
  where
    wrong : None ≡ Some n → ⊥
    wrong e = cc

not-free : (buffers : List Buffer) (b c width : ℕ) (tag : Tag) (last : Option Tag) → slice_get buffers b ≡ Some (Held width tag) → slice_get buffers c ≡ Some (Free last) → b ≢ c
not-free buffers b c width tag last held at same = wrong (sym held ∙ ap (slice_get buffers) same ∙ at)
  where
    wrong : Some (Held width tag) ≡ Some (Free last) → ⊥
    wrong e = cc

module _ (reaches : ℕ → Records → ℕ → List ℕ) (lawful : ℕ → Records → ℕ → Type 0) where
  fits : (s : State) (j h : ℕ) → Good reaches lawful s → (k : Stands s.readers j h) → RaiseFits s.writer.queue h
  fits s j h g k = raised_by k.r.state (all_at (GoodReader s.writer.sizes s.writer.queue s.writer.commits) s.readers j k.r g.readers k.there).state k.stands
    where
      raised_by : (t : ReaderState) → GoodReaderState s.writer.queue s.writer.commits k.r t → stands_on t ≡ Some h → RaiseFits s.writer.queue h
      raised_by Idle f e = absurd (cc)
      raised_by (Aimed generation hold) f e = absurd (cc)
      raised_by (Raised hold) f e = let same : hold ≡ h = cc in subst (RaiseFits s.writer.queue) same f
      raised_by (Bounced hold) f e = absurd (cc)
      raised_by (Guarded hold c) f e = let same : hold ≡ h = cc in subst (RaiseFits s.writer.queue) same f.raised
      raised_by Spent f e = absurd (cc)

  -- its count is not 0
  counted : (s : State) (j h i : ℕ) → Good reaches lawful s → Stands s.readers j h → count_at s i ≡ 0 → i ≢ h
  counted s j h i g k unused same =
      let two = counted-two reaches lawful s j h k.r g k.there (fits s j h g k).hold (on k.r.state k.stands) in
      let none : count_at s h ≡ 0 = ap (count_at s) (sym same) ∙ unused in
      omega (arith, two, none)
    where
      on : (t : ReaderState) → stands_on t ≡ Some h → is_counted_on h t ≡ true
      on Idle e = absurd (cc)
      on (Aimed generation hold) e = absurd (cc)
      on (Raised hold) e = let is : hold ≡ h = cc in eq-eqb hold h is
      on (Bounced hold) e = absurd (cc)
      on (Guarded hold c) e = let is : hold ≡ h = cc in eq-eqb hold h is
      on Spent e = absurd (cc)

  -- a free buffer's tag is below every generation
  not-freed : (s : State) (h b c : ℕ) (width : ℕ) (tag : Tag) → Good reaches lawful s → IsBack s.writer.queue s.writer.buffers h b → slice_get s.writer.buffers c ≡ Some (Held width tag)
      → tag.generation < (oldest_of s.writer.queue).generation → b ≢ c
  not-freed s h b c width tag g k held below same =
      let one : k.tag ≡ tag = one_tag k.width width k.tag tag (sym k.held ∙ ap (slice_get s.writer.buffers) same ∙ held) in
      let low = old-least h k.tag.generation (oldest_of s.writer.queue).generation (open_holds s.writer.queue) (oldest-least s.writer.queue.older s.writer.queue.newest g.queue.rising) k.old in
      omega (arith, low, below, ap (λ (x : Tag). x.generation) one)
    where
      one_tag : (m n : ℕ) (x y : Tag) → Some (Held m x) ≡ Some (Held n y) → x ≡ y
      one_tag m n x y e = cc

  kept : (s t : State) (e : Event) (j h b : ℕ) → Good reaches lawful s → Happens reaches lawful s e t → e ≢ Release j → Kept j h b s → Kept j h b t
  kept s t (StoreWidth c width) j h b g x off k = subst (Kept j h b) (sym x.1) (k.0, back-set _ _ h b c _ (not-active _ b c 0 k.1.width k.1.tag k.1.held x.0.none_yet) k.1)
  kept s t (StoreWord p n) j h b g x off k = subst (Kept j h b) (sym x.1) k
  kept s t (FindWord p) j h b g x off k = subst (Kept j h b) (sym x.1) k
  kept s t (HandOut c) j h b g x off k = subst (Kept j h b) (sym x.1) (k.0, back-set _ _ h b c _ (not-free _ b c k.1.width k.1.tag x.0.tag k.1.held x.0.free) k.1)
  kept s t (Publish root) j h b g x off k = subst (Kept j h b) (sym x.1) k
  kept s t (PutOnHold c) j h b g x off k = subst (Kept j h b) (sym x.2) (k.0, back-set _ _ h b c _ (not-active _ b c x.0 k.1.width k.1.tag k.1.held x.1.active) k.1)
  kept s t (FreeBuffer c) j h b g x off k = subst (Kept j h b) (sym x.2) (k.0, back-set _ _ h b c _ (not-freed s h b c x.1.width x.0 g k.1 x.1.held x.1.below) k.1)
  kept s t (Reopen n) j h b g x off k = subst (Kept j h b) (sym x.1) (k.0, record { width = k.1.width; tag = k.1.tag; held = k.1.held; old = k.1.old; probed = λ e. absurd (cc) })
  kept s t StoreNewest j h b g x off k = subst (Kept j h b) (sym x.2)
      (k.0, record { width = k.1.width; tag = k.1.tag; held = k.1.held; old = old-more h k.1.tag.generation (open_holds s.writer.queue) (coming_hold s.writer x.0) k.1.old; probed = λ e. absurd (cc) })
  kept s t Close j h b g x off k =
      let all : HasOld h k.1.tag.generation (x.0 ∷ (x.1 ++ s.writer.queue.newest ∷ [])) =
      subst (λ (l : List OpenHold). HasOld h k.1.tag.generation (l ++ s.writer.queue.newest ∷ [])) x.2.is k.1.old in
      subst (Kept j h b) (sym x.4)
      (k.0, record { width = k.1.width; tag = k.1.tag; held = k.1.held; old = old-tail h k.1.tag.generation x.0 _ (counted s j h x.0.hold g k.0 x.3) all; probed = k.1.probed })
  kept s t StopAtOldest j h b g x off k = subst (Kept j h b) (sym x.4) k
  kept s t Probe j h b g x off k = subst (Kept j h b) (sym x.2)
      (k.0, record { width = k.1.width; tag = k.1.tag; held = k.1.held; old = k.1.old; probed = λ e. counted s j h s.writer.queue.newest.hold g k.0 x.1 })
  kept s t StopAtNewest j h b g x off k = subst (Kept j h b) (sym x.2) k
  kept s t Morph j h b g x off k = subst (Kept j h b) (sym x.1) (
    k.0,
    record {
      width = k.1.width;
      tag = k.1.tag;
      held = k.1.held;
      old = old-more h k.1.tag.generation s.writer.queue.older (coming_hold s.writer s.writer.queue.newest.hold)
          (old-front h k.1.tag.generation s.writer.queue.older s.writer.queue.newest (k.1.probed x.0) k.1.old);
      probed = λ e. absurd (cc);
    },
  )
  kept s t Split j h b g x off k = subst (Kept j h b) (sym x.1) (stands-more s.readers j h (newcomer s.writer) k.0, k.1)
  kept s t (Join i) j h b g x off k = subst (Kept j h b) (sym x.3) (stands-other s.readers j h i x.0 spent x.1 (ap stands_on x.2.idle) k.0, k.1)
  kept s t MeetLoad j h b g x off k = subst (Kept j h b) (sym x.1) k
  kept s t (LoadOwn p) j h b g x off k = subst (Kept j h b) (sym x.1) k
  kept s t (LoadNewest i) j h b g x off k = subst (Kept j h b) (sym x.3) (stands-other s.readers j h i x.0 (aims x.0 s.writer.queue.newest) x.1 (ap stands_on x.2) k.0, k.1)
  kept s t (Raise i) j h b g x off k = subst (Kept j h b) (sym x.5) (stands-other s.readers j h i x.0 (meets x.0 (count_at s x.3) x.3) x.1 (ap stands_on x.4) k.0, k.1)
  kept s t (Bounce i) j h b g x off k = subst (Kept j h b) (sym x.4) (stands-other s.readers j h i x.0 (bounced x.0) x.1 (ap stands_on x.3) k.0, k.1)
  kept s t (LoadRoot i) j h b g x off k = subst (Kept j h b) (sym x.4) (
    stands-set s.readers j h i x.0 (sees x.0 x.2 (last_number s.writer.commits) (last_image s.writer.commits)) x.1 (λ same on. sym x.3 ∙ on) k.0,
    k.1,
  )
  kept s t (LoadWord i p) j h b g x off k = subst (Kept j h b) (sym x.3) k
  kept s t (Release i) j h b g x off k = subst (Kept j h b) (sym x.5) (stands-set s.readers j h i x.0 (released x.0) x.1 (λ same on. absurd (off (ap Release same))) k.0, k.1)

  kept_on : IsLayout reaches lawful → (events : List Event) (s t : State) (j h b : ℕ) → Good reaches lawful s → Happen reaches lawful s events t → All (λ e. e ≢ Release j) events → Kept j h b s → Kept j h b t
  kept_on l [] s t j h b g x none k = subst (Kept j h b) (sym x) k
  kept_on l (e ∷ events) s t j h b g x none k =
      kept_on l events x.0 t j h b (event_keeps reaches lawful l s x.0 e g x.1) x.2 (λ i d lt. none (suc i) d (omega arith)) (kept s x.0 e j h b g x.1 (none 0 e (omega arith)) k)

  -- where a buffer is put on hold while a view stands on a hold
  begins : (s m : State) (j h b : ℕ) → Good reaches lawful s → Stands s.readers j h → Happens reaches lawful s (PutOnHold b) m → Kept j h b m
  begins s m j h b g k x = subst (Kept j h b) (sym x.2) (
    k,
    record {
      width = x.0;
      tag = tag_of s.writer;
      held = slice_get-set_same s.writer.buffers b (Held x.0 (tag_of s.writer)) (let at = active-there s.writer.buffers b x.0 x.1.active in slice_get_within s.writer.buffers b _ at.1);
      old = old-from h s.writer.queue.newest.generation (open_holds s.writer.queue) (newest-most s.writer.queue.older s.writer.queue.newest g.queue.rising)
          (in_queue s.writer.queue.pending x.1.calm (fits s j h g k).opened);
      probed = λ e. absurd (calm-off (sym x.1.calm ∙ e));
    },
  )
    where
      calm-off : Nothing ≡ Probed → ⊥
      calm-off e = cc

      by_test : (t : Bool) → IsTrue (t || false) → IsTrue t
      by_test true k = k
      by_test false k = k

      in_queue : (pending : Pending) → pending ≡ Nothing → IsTrue (is_open_hold (queue_of s.writer.queue.older s.writer.queue.newest pending) h) → IsTrue (list_any (λ e. nat_eq e.hold h) (open_holds s.writer.queue))
      in_queue Nothing e k = by_test (list_any (λ e. nat_eq e.hold h) (open_holds s.writer.queue)) k
      in_queue (Next n) e k = absurd (cc)
      in_queue Probed e k = absurd (cc)

  pub holds_back : IsLayout reaches lawful → (sizes : Sizes) (before between : List Event) (s m t u : State) (j h b : ℕ) (r : ReaderView) → MayOpen sizes → Happen reaches lawful (opening sizes) before s
      → slice_get s.readers j ≡ Some r → stands_on r.state ≡ Some h → Happens reaches lawful s (PutOnHold b) m → Happen reaches lawful m between t → All (λ e. e ≢ Release j) between
      → Happens reaches lawful t (HandOut b) u → ⊥
  holds_back l sizes before between s m t u j h b r may x at on puts y none out =
      let good = keeps_good reaches lawful l sizes before s may x in
      let k = kept_on l between m t j h b (event_keeps reaches lawful l s m (PutOnHold b) good puts) y none
      (begins s m j h b good (record { r = r; there = at; stands = on }) puts) in
      not-free t.writer.buffers b b k.1.width k.1.tag out.0.tag k.1.held out.0.free refl
