-- What readers saw is what they read.
use Rattle.list_lemmas.proofs.Places.{slice_get-set_same, slice_get-set_other}
use Rattle.list_lemmas.proofs.Options.{same_Some}
use Rattle.std.proofs.Common.{◌≡◌, ◌≢◌, ◌⊎◌, inl, inr, ℕ, zero, suc, ◌+◌, ◌-◌, List, [], ◌∷◌, ◌++◌, map, length, set, Some, None, Bool, true, false, refl, sym, ap, ◌∙◌, subst, arith, eq-eqb, ne_eqb, length-append, length-set}
use mathlib.Core.Logic.{dite}
use native.Mathlib.Decide.{ℕ_discrete}
use Rattle.std.specs.Prelude.{slice_get, All, if◌then◌else◌}
use Rattle.std.proofs.lemmas.Option.{slice_get_within}
use Rattle.std.proofs.lemmas.List.{reverse-append}
use Rattle.std.proofs.lemmas.List.Elements.{All-nil, All-cons, All-head, All-tail}
use Rattle.entry_ref.specs.Records.{Records}
use Rattle.entry_ref.specs.declared.images.Image.{Image}
use Rattle.gen_core.specs.declared.views.Sizes.{Sizes}
use Rattle.gen_core.specs.declared.views.ReaderState.{ReaderState}
use Rattle.gen_core.specs.declared.views.ReaderState.TheVariants.{Idle, Aimed, Bounced, Guarded, Spent}
use Rattle.gen_core.specs.declared.views.ReaderView.{ReaderView}
use Rattle.gen_core.specs.declared.views.Event.{Event}
use Rattle.gen_core.specs.declared.views.Event.TheVariants.{StoreWidth, StoreWord, FindWord, HandOut, Publish, PutOnHold, FreeBuffer, Reopen}
use Rattle.gen_core.specs.declared.views.Event.TheVariants.{StoreNewest, Close, StopAtOldest, Probe, StopAtNewest, Morph, Split, Join, MeetLoad, LoadOwn, LoadNewest, Raise, Bounce, LoadRoot, LoadWord, Release}
use Rattle.gen_core.specs.Views.{last_number, last_image, stands_on, spent}
use Rattle.gen_core.specs.Good.{State}
use Rattle.gen_core.specs.Events.{newcomer, meets, released, aims, bounced, sees, count_at, Happens, Happen, opening}
use Rattle.gen_core.specs.Reads.{last_after, is_read_by, reads_from, reads_of, commits_seen, SawItsReads}
use Rattle.gen_core.proofs.Lists.{at_set, at_longer}

-- a joined reader: its place is spent, and it saw what was read there
record IsTaken (seen : ℕ → List ℕ) (readers : List ReaderView) (r : ReaderView) : Type 0 where
  place : slice_get readers r.number ≡ Some spent
  saw : commits_seen r ≡ seen r.number

-- the readers of a run in which `seen` was read so far
record Tells (seen : ℕ → List ℕ) (made : ℕ) (taken readers : List ReaderView) : Type 0 where
  count : length readers ≡ made
  each : (j : ℕ) (r : ReaderView) → slice_get readers j ≡ Some r → r.state ≢ Spent → (r.number ≡ j) × (commits_seen r ≡ seen j)
  none : (j : ℕ) → slice_get readers j ≡ None → seen j ≡ []
  gone : All (IsTaken seen readers) taken

-- with the number of the last commit
abbrev TellsAt : ℕ → (ℕ → List ℕ) → State → Type 0
TellsAt last seen s = (length s.writer.commits ≡ suc last) × Tells seen s.writer.made s.writer.taken s.readers

-- what was read after one event more
abbrev read_on : ℕ → (ℕ → List ℕ) → Event → ℕ → List ℕ
read_on last seen e j = if is_read_by j e then seen j ++ last ∷ [] else seen j

all_map : {A : Type 0} (P Q : A → Type 0) (xs : List A) → ((x : A) → P x → Q x) → All P xs → All Q xs
all_map P Q [] f all = All-nil Q
all_map P Q (x ∷ xs) f all = All-cons Q x xs (f x (All-head P x xs all)) (all_map P Q xs f (All-tail P x xs all))

none-some : {A : Type 0} (x : A) → None ≡ Some x → ⊥
none-some x e = cc

-- one reader changes, and what it read with it
set-reader : (seen seen' : ℕ → List ℕ) (made i : ℕ) (taken readers : List ReaderView) (r v : ReaderView) → slice_get readers i ≡ Some r → r.state ≢ Spent → v.number ≡ r.number
    → (commits_seen r ≡ seen i → commits_seen v ≡ seen' i) → ((j : ℕ) → i ≢ j → seen' j ≡ seen j) → Tells seen made taken readers → Tells seen' made taken (set readers i v)
set-reader seen seen' made i taken readers r v at live number saw others k =
    let mine = k.each i r at live in
    record {
      count = length-set readers i v ∙ k.count;
      each = λ j x there off. by_place j x off (at_set readers i j v x there);
      none = λ j nothing. by_other j nothing;
      gone = all_map (IsTaken seen readers) (IsTaken seen' (set readers i v)) taken taken_on k.gone;
    }
  where
    by_place : (j : ℕ) (x : ReaderView) → x.state ≢ Spent → ((j ≡ i) × (v ≡ x)) ⊎ ((j ≢ i) × (slice_get readers j ≡ Some x)) → (x.number ≡ j) × (commits_seen x ≡ seen' j)
    by_place j x off (inl same) =
        let mine = k.each i r at live in
        subst (λ (y : ℕ × ReaderView). (y.1.number ≡ y.0) × (commits_seen y.1 ≡ seen' y.0)) (λ t. (sym same.0 t, same.1 t)) (number ∙ mine.0, saw mine.1)
    by_place j x off (inr other) = let old = k.each j x other.1 off in (old.0, old.1 ∙ sym (others j (λ e. other.0 (sym e))))

    by_other : (j : ℕ) → slice_get (set readers i v) j ≡ None → seen' j ≡ []
    by_other j nothing = dite (ℕ_discrete j i)
        (λ same. absurd (none-some v (sym nothing ∙ ap (slice_get (set readers i v)) same ∙ slice_get-set_same readers i v (slice_get_within readers i r at))))
        (λ ne. others j (λ e. ne (sym e)) ∙ k.none j (sym (slice_get-set_other readers i j v ne) ∙ nothing))

    taken_on : (x : ReaderView) → IsTaken seen readers x → IsTaken seen' (set readers i v) x
    taken_on x t =
        let ne : x.number ≢ i = λ same. live (ap (λ (y : ReaderView). y.state) (same_Some r spent (sym at ∙ ap (slice_get readers) (sym same) ∙ t.place))) in
        record { place = slice_get-set_other readers i x.number v ne ∙ t.place; saw = t.saw ∙ sym (others x.number (λ e. ne (sym e))) }

-- a reader that reads nothing
set-same : (seen : ℕ → List ℕ) (made i : ℕ) (taken readers : List ReaderView) (r v : ReaderView) → slice_get readers i ≡ Some r → r.state ≢ Spent → v.number ≡ r.number → commits_seen v ≡ commits_seen r
    → Tells seen made taken readers → Tells seen made taken (set readers i v)
set-same seen made i taken readers r v at live number same k = set-reader seen seen made i taken readers r v at live number (λ old. same ∙ old) (λ j ne. refl) k

-- one more reader
at-last : {A : Type 0} (xs : List A) (y x : A) (j : ℕ) → slice_get (xs ++ y ∷ []) j ≡ Some x → (slice_get xs j ≡ Some x) ⊎ ((j ≡ length xs) × (y ≡ x))
at-last [] y x zero at = inr (refl, same_Some y x at)
at-last [] y x (suc j) at = absurd (none-some x at)
at-last (z ∷ xs) y x zero at = inl at
at-last (z ∷ xs) y x (suc j) at = elim (at-last xs y x j at) [
  | inl at ↦ inl at
  | inr is ↦ inr (ap suc is.0, is.1)
]

none-before : {A : Type 0} (xs : List A) (y : A) (j : ℕ) → slice_get (xs ++ y ∷ []) j ≡ None → slice_get xs j ≡ None
none-before [] y j nothing = refl
none-before (z ∷ xs) y zero nothing = absurd (none-some z (sym nothing))
none-before (z ∷ xs) y (suc j) nothing = none-before xs y j nothing

none-at-end : {A : Type 0} (xs : List A) → slice_get xs (length xs) ≡ None
none-at-end [] = refl
none-at-end (x ∷ xs) = none-at-end xs

more-readers : (seen : ℕ → List ℕ) (made : ℕ) (taken readers : List ReaderView) (v : ReaderView) → v.number ≡ made → commits_seen v ≡ [] → Tells seen made taken readers → Tells seen (made + 1) taken (readers ++ v ∷ [])
more-readers seen made taken readers v number saw k =
    let count = k.count in
    record {
      count = length-append readers (v ∷ []) ∙ ap (λ (n : ℕ). n + 1) count;
      each = λ j x there off. by_place j x off (at-last readers v x j there);
      none = λ j nothing. k.none j (none-before readers v j nothing);
      gone = all_map (IsTaken seen readers) (IsTaken seen (readers ++ v ∷ [])) taken (λ x t. record { place = at_longer readers (v ∷ []) x.number spent t.place; saw = t.saw }) k.gone;
    }
  where
    by_place : (j : ℕ) (x : ReaderView) → x.state ≢ Spent → (slice_get readers j ≡ Some x) ⊎ ((j ≡ length readers) × (v ≡ x)) → (x.number ≡ j) × (commits_seen x ≡ seen j)
    by_place j x off (inl at) = k.each j x at off
    by_place j x off (inr new) =
        subst (λ (y : ℕ × ReaderView). (y.1.number ≡ y.0) × (commits_seen y.1 ≡ seen y.0)) (λ t. (sym new.0 t, new.1 t))
        (number ∙ sym k.count, saw ∙ sym (k.none (length readers) (none-at-end readers)))

-- a reader is joined
joined-reader : (seen : ℕ → List ℕ) (made i : ℕ) (taken readers : List ReaderView) (r : ReaderView) → slice_get readers i ≡ Some r → r.state ≡ Idle → Tells seen made taken readers
    → Tells seen made (r ∷ taken) (set readers i spent)
joined-reader seen made i taken readers r at idle k =
    let mine = k.each i r at (λ e. idle-spent (sym idle ∙ e)) in
    record {
      count = length-set readers i spent ∙ k.count;
      each = λ j x there off. by_place j x off (at_set readers i j spent x there);
      none = λ j nothing. by_other j nothing;
      gone = All-cons (IsTaken seen (set readers i spent)) r taken
          (record { place = ap (slice_get (set readers i spent)) mine.0 ∙ slice_get-set_same readers i spent (slice_get_within readers i r at); saw = mine.1 ∙ ap seen (sym mine.0) })
          (all_map (IsTaken seen readers) (IsTaken seen (set readers i spent)) taken taken_on k.gone);
    }
  where
    idle-spent : Idle ≡ Spent → ⊥
    idle-spent e = cc

    by_place : (j : ℕ) (x : ReaderView) → x.state ≢ Spent → ((j ≡ i) × (spent ≡ x)) ⊎ ((j ≢ i) × (slice_get readers j ≡ Some x)) → (x.number ≡ j) × (commits_seen x ≡ seen j)
    by_place j x off (inl same) = absurd (off (ap (λ (y : ReaderView). y.state) (sym same.1)))
    by_place j x off (inr other) = k.each j x other.1 off

    by_other : (j : ℕ) → slice_get (set readers i spent) j ≡ None → seen j ≡ []
    by_other j nothing = dite (ℕ_discrete j i)
        (λ same. absurd (none-some spent (sym nothing ∙ ap (slice_get (set readers i spent)) same ∙ slice_get-set_same readers i spent (slice_get_within readers i r at))))
        (λ ne. k.none j (sym (slice_get-set_other readers i j spent ne) ∙ nothing))

    taken_on : (x : ReaderView) → IsTaken seen readers x → IsTaken seen (set readers i spent) x
    taken_on x t = dite (ℕ_discrete x.number i)
        (λ same. record { place = ap (slice_get (set readers i spent)) same ∙ slice_get-set_same readers i spent (slice_get_within readers i r at); saw = t.saw })
        (λ ne. record { place = slice_get-set_other readers i x.number spent ne ∙ t.place; saw = t.saw })

-- the same told of reads that are the same for each reader
tells-same : (seen seen' : ℕ → List ℕ) (made : ℕ) (taken readers : List ReaderView) → ((j : ℕ) → seen' j ≡ seen j) → Tells seen made taken readers → Tells seen' made taken readers
tells-same seen seen' made taken readers same k = record {
  count = k.count;
  each = λ j r at off. let old = k.each j r at off in (old.0, old.1 ∙ sym (same j));
  none = λ j nothing. same j ∙ k.none j nothing;
  gone = all_map (IsTaken seen readers) (IsTaken seen' readers) taken (λ x t. record { place = t.place; saw = t.saw ∙ sym (same x.number) }) k.gone;
}

nothing-more : {A : Type 0} (xs : List A) → xs ++ [] ≡ xs
nothing-more [] = refl
nothing-more (x ∷ xs) = ap (λ l. x ∷ l) (nothing-more xs)

assoc : {A : Type 0} (xs ys zs : List A) → (xs ++ ys) ++ zs ≡ xs ++ (ys ++ zs)
assoc [] ys zs = refl
assoc (x ∷ xs) ys zs = ap (λ l. x ∷ l) (assoc xs ys zs)

-- a step of this state leaves a reader that is not spent
off-spent : (r : ReaderView) (t : ReaderState) → r.state ≡ t → t ≢ Spent → r.state ≢ Spent
off-spent r t is off e = off (sym is ∙ e)

stands-off : (t : ReaderState) (h : ℕ) → stands_on t ≡ Some h → t ≢ Spent
stands-off t h stands e = none-some h (sym (ap stands_on e) ∙ stands)

-- the reader i reads this commit
read-mine : (seen : ℕ → List ℕ) (last i : ℕ) → read_on last seen (LoadRoot i) i ≡ seen i ++ last ∷ []
read-mine seen last i = ap (λ (t : Bool). if t then seen i ++ last ∷ [] else seen i) (eq-eqb i i refl)

read-other : (seen : ℕ → List ℕ) (last i j : ℕ) → i ≢ j → read_on last seen (LoadRoot i) j ≡ seen j
read-other seen last i j ne = ap (λ (t : Bool). if t then seen j ++ last ∷ [] else seen j) (ne_eqb i j ne)

module _ (reaches : ℕ → Records → ℕ → List ℕ) (lawful : ℕ → Records → ℕ → Type 0) where
  tells_on : (last : ℕ) (seen : ℕ → List ℕ) (s t : State) (e : Event) → Happens reaches lawful s e t → TellsAt last seen s → TellsAt (last_after last e) (read_on last seen e) t
  tells_on last seen s t (StoreWidth c width) x k = subst (TellsAt last seen) (sym x.1) k
  tells_on last seen s t (StoreWord p n) x k = subst (TellsAt last seen) (sym x.1) k
  tells_on last seen s t (FindWord p) x k = subst (TellsAt last seen) (sym x.1) k
  tells_on last seen s t (HandOut c) x k = subst (TellsAt last seen) (sym x.1) k
  tells_on last seen s t (Publish root) x k =
      let count = k.0 in
      subst (TellsAt (suc last) seen) (sym x.1) (length-append s.writer.commits (_ ∷ []) ∙ (let more = count in omega (arith, more)), k.1)
  tells_on last seen s t (PutOnHold c) x k = subst (TellsAt last seen) (sym x.2) k
  tells_on last seen s t (FreeBuffer c) x k = subst (TellsAt last seen) (sym x.2) k
  tells_on last seen s t (Reopen n) x k = subst (TellsAt last seen) (sym x.1) k
  tells_on last seen s t StoreNewest x k = subst (TellsAt last seen) (sym x.2) k
  tells_on last seen s t Close x k = subst (TellsAt last seen) (sym x.4) k
  tells_on last seen s t StopAtOldest x k = subst (TellsAt last seen) (sym x.4) k
  tells_on last seen s t Probe x k = subst (TellsAt last seen) (sym x.2) k
  tells_on last seen s t StopAtNewest x k = subst (TellsAt last seen) (sym x.2) k
  tells_on last seen s t Morph x k = subst (TellsAt last seen) (sym x.1) k
  tells_on last seen s t Split x k = subst (TellsAt last seen) (sym x.1) (k.0, more-readers seen s.writer.made s.writer.taken s.readers (newcomer s.writer) refl refl k.1)
  tells_on last seen s t (Join i) x k = subst (TellsAt last seen) (sym x.3) (k.0, joined-reader seen s.writer.made i s.writer.taken s.readers x.0 x.1 x.2.idle k.1)
  tells_on last seen s t MeetLoad x k = subst (TellsAt last seen) (sym x.1) k
  tells_on last seen s t (LoadOwn p) x k = subst (TellsAt last seen) (sym x.1) k
  tells_on last seen s t (LoadNewest i) x k = subst (TellsAt last seen) (sym x.3)
      (k.0, set-same seen s.writer.made i s.writer.taken s.readers x.0 (aims x.0 s.writer.queue.newest) x.1 (off-spent x.0 Idle x.2 (λ e. cc)) refl refl k.1)
  tells_on last seen s t (Raise i) x k = subst (TellsAt last seen) (sym x.5)
      (k.0, set-same seen s.writer.made i s.writer.taken s.readers x.0 (meets x.0 (count_at s x.3) x.3) x.1 (off-spent x.0 (Aimed x.2 x.3) x.4 (λ e. cc)) refl refl k.1)
  tells_on last seen s t (Bounce i) x k = subst (TellsAt last seen) (sym x.4)
      (k.0, set-same seen s.writer.made i s.writer.taken s.readers x.0 (bounced x.0) x.1 (off-spent x.0 (Bounced x.2) x.3 (λ e. cc)) refl refl k.1)
  tells_on last seen s t (LoadRoot i) x k =
      let v : ReaderView = sees x.0 x.2 (last_number s.writer.commits) (last_image s.writer.commits) in
      let here : last_number s.writer.commits ≡ last = (let count = k.0 in omega (arith, count)) in
      subst (TellsAt last (read_on last seen (LoadRoot i))) (sym x.4) (
        k.0,
        set-reader seen (read_on last seen (LoadRoot i)) s.writer.made i s.writer.taken s.readers x.0 v x.1 (stands-off x.0.state x.2 x.3) refl
            (λ old. reverse-append (last_number s.writer.commits ∷ []) (map (λ (c : ℕ × Image). c.0) x.0.saw) ∙ (λ t. old t ++ here t ∷ []) ∙ sym (read-mine seen last i)) (λ j ne. read-other seen last i j ne) k.1,
      )
  tells_on last seen s t (LoadWord i p) x k = subst (TellsAt last seen) (sym x.3) k
  tells_on last seen s t (Release i) x k = subst (TellsAt last seen) (sym x.5)
      (k.0, set-same seen s.writer.made i s.writer.taken s.readers x.0 (released x.0) x.1 (off-spent x.0 (Guarded x.2 x.3) x.4 (λ e. cc)) refl refl k.1)

  -- through a list of events
  tells_through : (events : List Event) (last : ℕ) (seen : ℕ → List ℕ) (s t : State) → Happen reaches lawful s events t → TellsAt last seen s → Tells (λ j. seen j ++ reads_from j last events) t.writer.made t.writer.taken t.readers
  tells_through [] last seen s t h k =
      subst (λ (x : State). Tells (λ j. seen j ++ []) x.writer.made x.writer.taken x.readers) (sym h)
      (tells-same seen (λ j. seen j ++ []) s.writer.made s.writer.taken s.readers (λ j. nothing-more (seen j)) k.1)
  tells_through (e ∷ events) last seen s t h k =
      tells-same (λ j. read_on last seen e j ++ reads_from j (last_after last e) events) (λ j. seen j ++ reads_from j last (e ∷ events)) t.writer.made t.writer.taken t.readers
      (λ j. by_test (seen j) (reads_from j (last_after last e) events) (is_read_by j e))
      (tells_through events (last_after last e) (read_on last seen e) h.0 t h.2 (tells_on last seen s h.0 e h.1 k))
    where
      by_test : (xs ys : List ℕ) (t : Bool) → xs ++ (if t then last ∷ ys else ys) ≡ (if t then xs ++ last ∷ [] else xs) ++ ys
      by_test xs ys true = sym (assoc xs (last ∷ []) ys)
      by_test xs ys false = refl

  opening-tells : (sizes : Sizes) → TellsAt 0 (λ j. []) (opening sizes)
  opening-tells sizes = (
    refl,
    record { count = refl; each = λ j r at off. absurd (none-some r at); none = λ j nothing. refl; gone = All-nil (IsTaken (λ j. []) []) },
  )

  pub sees_its_reads : (sizes : Sizes) (events : List Event) (s : State) → Happen reaches lawful (opening sizes) events s → SawItsReads events s
  sees_its_reads sizes events s h =
      let k = tells_through events 0 (λ j. []) (opening sizes) s h (opening-tells sizes) in
      record {
        readers = λ j r at off. k.each j r at off;
        taken = all_map (IsTaken (λ j. reads_of j events) s.readers) (λ r. commits_seen r ≡ reads_of r.number events) s.writer.taken (λ r t. t.saw) k.gone;
      }
