-- The events of a run determine its states, and no commit of it changes.
use Rattle.list_lemmas.proofs.Options.{same_Some}
use Rattle.std.proofs.Common.{◌≡◌, ℕ, List, [], ◌∷◌, ◌++◌, Some, refl, sym, ap, ◌∙◌, subst}
use Rattle.std.specs.Prelude.{slice_get}
use Rattle.entry_ref.specs.declared.images.Image.{Image}
use Rattle.entry_ref.specs.Records.{Records}
use Rattle.gen_core.specs.declared.views.Sizes.{Sizes}
use Rattle.gen_core.specs.declared.views.OpenHold.{OpenHold}
use Rattle.gen_core.specs.declared.views.Pending.TheVariants.{Next}
use Rattle.gen_core.specs.declared.views.Tag.{Tag}
use Rattle.gen_core.specs.declared.views.Buffer.TheVariants.{Held}
use Rattle.gen_core.specs.declared.views.ReaderState.TheVariants.{Aimed, Bounced, Guarded}
use Rattle.gen_core.specs.declared.views.ReaderView.{ReaderView}
use Rattle.gen_core.specs.declared.views.Event.{Event}
use Rattle.gen_core.specs.declared.views.Event.TheVariants.{StoreWidth, StoreWord, FindWord, HandOut, Publish, PutOnHold, FreeBuffer, Reopen}
use Rattle.gen_core.specs.declared.views.Event.TheVariants.{StoreNewest, Close, StopAtOldest, Probe, StopAtNewest, Morph, Split, Join, MeetLoad, LoadOwn, LoadNewest, Raise, Bounce, LoadRoot, LoadWord, Release}
use Rattle.gen_core.specs.Views.{stands_on}
use Rattle.gen_core.specs.Good.{State}
use Rattle.gen_core.specs.Events.{Happens, Happen, opening, count_at, after_put_on_hold, after_free, after_store_newest, after_close, after_stop, after_join, after_load_newest, after_raise, after_bounce, after_load_root, after_release}
use Rattle.gen_core.specs.Runs.{IsCommitIn}
use Rattle.gen_core.proofs.Lists.{at_longer}

one-tag : (m n : ℕ) (x y : Tag) → Some (Held m x) ≡ Some (Held n y) → x ≡ y
one-tag m n x y e = cc

one-next : (h k : ℕ) → Next h ≡ Next k → h ≡ k
one-next h k e = cc

one-head : (x y : OpenHold) (xs ys : List OpenHold) → x ∷ xs ≡ y ∷ ys → x ≡ y
one-head x y xs ys e = cc

one-rest : (x y : OpenHold) (xs ys : List OpenHold) → x ∷ xs ≡ y ∷ ys → xs ≡ ys
one-rest x y xs ys e = cc

one-aim : (g i h k : ℕ) → Aimed g h ≡ Aimed i k → h ≡ k
one-aim g i h k e = cc

one-bounce : (h k : ℕ) → Bounced h ≡ Bounced k → h ≡ k
one-bounce h k e = cc

one-guard : (h k c d : ℕ) → Guarded h c ≡ Guarded k d → h ≡ k
one-guard h k c d e = cc

-- two readers at one place
same-reader : (readers : List ReaderView) (j : ℕ) (r q : ReaderView) → slice_get readers j ≡ Some r → slice_get readers j ≡ Some q → r ≡ q
same-reader readers j r q at here = same_Some r q (sym at ∙ here)

module _ (reaches : ℕ → Records → ℕ → List ℕ) (lawful : ℕ → Records → ℕ → Type 0) where
  -- an event has one outcome
  one-end : (s t u : State) (e : Event) → Happens reaches lawful s e t → Happens reaches lawful s e u → t ≡ u
  one-end s t u (StoreWidth b width) x y = x.1 ∙ sym y.1
  one-end s t u (StoreWord p n) x y = x.1 ∙ sym y.1
  one-end s t u (FindWord p) x y = x.1 ∙ sym y.1
  one-end s t u (HandOut b) x y = x.1 ∙ sym y.1
  one-end s t u (Publish root) x y = x.1 ∙ sym y.1
  one-end s t u (PutOnHold b) x y = x.2 ∙ ap (after_put_on_hold s b) (same_Some x.0 y.0 (sym x.1.active ∙ y.1.active)) ∙ sym y.2
  one-end s t u (FreeBuffer b) x y = x.2 ∙ ap (after_free s b) (one-tag x.1.width y.1.width x.0 y.0 (sym x.1.held ∙ y.1.held)) ∙ sym y.2
  one-end s t u (Reopen h) x y = x.1 ∙ sym y.1
  one-end s t u StoreNewest x y = x.2 ∙ ap (after_store_newest s) (one-next x.0 y.0 (sym x.1 ∙ y.1)) ∙ sym y.2
  one-end s t u Close x y =
      let same = sym x.2.is ∙ y.2.is in
      x.4 ∙ (λ i. after_close s (one-head x.0 y.0 x.1 y.1 same i) (one-rest x.0 y.0 x.1 y.1 same i)) ∙ sym y.4
  one-end s t u StopAtOldest x y = x.4 ∙ ap (λ (e : OpenHold). after_stop s (count_at s e.hold)) (one-head x.0 y.0 x.1 y.1 (sym x.2.is ∙ y.2.is)) ∙ sym y.4
  one-end s t u Probe x y = x.2 ∙ sym y.2
  one-end s t u StopAtNewest x y = x.2 ∙ sym y.2
  one-end s t u Morph x y = x.1 ∙ sym y.1
  one-end s t u Split x y = x.1 ∙ sym y.1
  one-end s t u (Join j) x y = x.3 ∙ ap (after_join s j) (same-reader s.readers j x.0 y.0 x.1 y.1) ∙ sym y.3
  one-end s t u MeetLoad x y = x.1 ∙ sym y.1
  one-end s t u (LoadOwn p) x y = x.1 ∙ sym y.1
  one-end s t u (LoadNewest j) x y = x.3 ∙ ap (after_load_newest s j) (same-reader s.readers j x.0 y.0 x.1 y.1) ∙ sym y.3
  one-end s t u (Raise j) x y =
      let r = same-reader s.readers j x.0 y.0 x.1 y.1 in
      let h = one-aim x.2 y.2 x.3 y.3 (sym x.4 ∙ ap (λ (v : ReaderView). v.state) r ∙ y.4) in
      x.5 ∙ (λ i. after_raise s j (r i) (h i)) ∙ sym y.5
  one-end s t u (Bounce j) x y =
      let r = same-reader s.readers j x.0 y.0 x.1 y.1 in
      let h = one-bounce x.2 y.2 (sym x.3 ∙ ap (λ (v : ReaderView). v.state) r ∙ y.3) in
      x.4 ∙ (λ i. after_bounce s j (r i) (h i)) ∙ sym y.4
  one-end s t u (LoadRoot j) x y =
      let r = same-reader s.readers j x.0 y.0 x.1 y.1 in
      let h = same_Some x.2 y.2 (sym x.3 ∙ ap (λ (v : ReaderView). stands_on v.state) r ∙ y.3) in
      x.4 ∙ (λ i. after_load_root s j (r i) (h i)) ∙ sym y.4
  one-end s t u (LoadWord j p) x y = x.3 ∙ sym y.3
  one-end s t u (Release j) x y =
      let r = same-reader s.readers j x.0 y.0 x.1 y.1 in
      let h = one-guard x.2 y.2 x.3 y.3 (sym x.4 ∙ ap (λ (v : ReaderView). v.state) r ∙ y.4) in
      x.5 ∙ (λ i. after_release s j (r i) (h i)) ∙ sym y.5

  pub same-end : (events : List Event) (s t u : State) → Happen reaches lawful s events t → Happen reaches lawful s events u → t ≡ u
  same-end [] s t u h k = h ∙ sym k
  same-end (e ∷ events) s t u h k =
      same-end events h.0 t u h.2 (subst (λ (x : State). Happen reaches lawful x events u) (one-end s k.0 h.0 e k.1 h.1) k.2)

  -- the commit n has this image
  abbrev Has : ℕ → Image → State → Type 0
  Has n image s = slice_get s.writer.commits n ≡ Some image

  commit-on : (n : ℕ) (image : Image) (s t : State) (e : Event) → Happens reaches lawful s e t → Has n image s → Has n image t
  commit-on n image s t (StoreWidth b width) x k = subst (Has n image) (sym x.1) k
  commit-on n image s t (StoreWord p m) x k = subst (Has n image) (sym x.1) k
  commit-on n image s t (FindWord p) x k = subst (Has n image) (sym x.1) k
  commit-on n image s t (HandOut b) x k = subst (Has n image) (sym x.1) k
  commit-on n image s t (Publish root) x k = subst (Has n image) (sym x.1) (at_longer s.writer.commits (_ ∷ []) n image k)
  commit-on n image s t (PutOnHold b) x k = subst (Has n image) (sym x.2) k
  commit-on n image s t (FreeBuffer b) x k = subst (Has n image) (sym x.2) k
  commit-on n image s t (Reopen h) x k = subst (Has n image) (sym x.1) k
  commit-on n image s t StoreNewest x k = subst (Has n image) (sym x.2) k
  commit-on n image s t Close x k = subst (Has n image) (sym x.4) k
  commit-on n image s t StopAtOldest x k = subst (Has n image) (sym x.4) k
  commit-on n image s t Probe x k = subst (Has n image) (sym x.2) k
  commit-on n image s t StopAtNewest x k = subst (Has n image) (sym x.2) k
  commit-on n image s t Morph x k = subst (Has n image) (sym x.1) k
  commit-on n image s t Split x k = subst (Has n image) (sym x.1) k
  commit-on n image s t (Join j) x k = subst (Has n image) (sym x.3) k
  commit-on n image s t MeetLoad x k = subst (Has n image) (sym x.1) k
  commit-on n image s t (LoadOwn p) x k = subst (Has n image) (sym x.1) k
  commit-on n image s t (LoadNewest j) x k = subst (Has n image) (sym x.3) k
  commit-on n image s t (Raise j) x k = subst (Has n image) (sym x.5) k
  commit-on n image s t (Bounce j) x k = subst (Has n image) (sym x.4) k
  commit-on n image s t (LoadRoot j) x k = subst (Has n image) (sym x.4) k
  commit-on n image s t (LoadWord j p) x k = subst (Has n image) (sym x.3) k
  commit-on n image s t (Release j) x k = subst (Has n image) (sym x.5) k

  commits-on : (events : List Event) (n : ℕ) (image : Image) (s t : State) → Happen reaches lawful s events t → Has n image s → Has n image t
  commits-on [] n image s t h k = subst (Has n image) (sym h) k
  commits-on (e ∷ events) n image s t h k = commits-on events n image h.0 t h.2 (commit-on n image s h.0 e h.1 k)

  -- a run cut in two
  pub run-split : (s : State) (xs ys : List Event) (t : State) → Happen reaches lawful s (xs ++ ys) t → (m : State) × Happen reaches lawful s xs m × Happen reaches lawful m ys t
  run-split s [] ys t h = (s, refl, h)
  run-split s (x ∷ xs) ys t h = let rest = run-split h.0 xs ys t h.2 in (rest.0, (h.0, h.1, rest.1), rest.2)

  -- a commit of a run is one of each longer run
  pub commit-later : (sizes : Sizes) (events later : List Event) (number : ℕ) (image : Image) (t : State) → IsCommitIn reaches lawful sizes events number image → Happen reaches lawful (opening sizes) (events ++ later) t
      → slice_get t.writer.commits number ≡ Some image
  commit-later sizes events later number image t a run =
      let cut = run-split (opening sizes) events later t run in
      let same : a.end ≡ cut.0 = same-end events (opening sizes) a.end cut.0 a.run cut.1 in
      commits-on later number image cut.0 t cut.2 (subst (Has number image) same a.commit)

  pub commits_agree : (sizes : Sizes) (events later : List Event) (number : ℕ) (image other : Image) → IsCommitIn reaches lawful sizes events number image
      → IsCommitIn reaches lawful sizes (events ++ later) number other → image ≡ other
  commits_agree sizes events later number image other a b = same_Some image other (sym (commit-later sizes events later number image b.end a b.run) ∙ b.commit)
