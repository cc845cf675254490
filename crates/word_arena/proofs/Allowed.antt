-- What each step on the table owes follows from the core's lemma of its event.
use Rattle.std.proofs.Common.{◌%◌, ◌^◌, eq-eqb, ◌≡◌, ◌≢◌, ℕ, zero, suc, ◌+◌, ◌-◌, ◌*◌, ◌<◌, List, [], ◌∷◌, ◌++◌, map, length, set, slice_index, Some, None, false, refl, sym, ap, ◌∙◌, subst, arith}
use mathlib.Core.Option.{some, none, some-ne-none, some-injective}
use mathlib.Core.List.{map-append}
use lib.ListN.{get_elem?}
use lib.Seq.{map-set}
use Rattle.std.specs.Prelude.{slice_get, All, option_map, Option, nat_eq}
use Rattle.std.specs.Option.{unwrap_or}
use Rattle.std.proofs.lemmas.Option.{slice_get_within}
use Rattle.list_lemmas.proofs.Places.{slice_get-set_same}
use Rattle.gen_core.proofs.Counts.{load_newest_keeps, raise_keeps, bounce_keeps, release_keeps}
use Rattle.atomic_table.specs.Table.{State, Me, Step, step, keeps, Allows, Splits, Joins}
use Rattle.entry_ref.specs.Records.{Records}
use Rattle.entry_ref.specs.Places.{base, state_place, IsEntry}
use Rattle.gen_core.specs.declared.views.Sizes.{Sizes}
use Rattle.gen_core.specs.declared.views.WriterView.{WriterView}
use Rattle.gen_core.specs.declared.views.ReaderView.{ReaderView}
use Rattle.gen_core.specs.declared.views.ReaderState.TheVariants.{Idle, Aimed, Bounced, Guarded, Spent}
use Rattle.gen_core.specs.declared.views.View.{View}
use Rattle.gen_core.specs.declared.views.View.TheVariants.{Writer, Reader}
use Rattle.gen_core.specs.declared.views.Event.{Event}
use Rattle.gen_core.specs.declared.views.Event.TheVariants.{StoreWidth, StoreWord, FindWord, HandOut, Publish, Split, Join, MeetLoad, LoadOwn, LoadNewest, Raise, Bounce, LoadRoot, LoadWord, Release}
use Rattle.gen_core.specs.Views.{hold_place, is_counted_on, stands_on, last_number, last_image, spent}
use Rattle.gen_core.specs.Work.{next_image}
use Rattle.gen_core.specs.Steps.{hold_of, hold_in, seat_of, word_of, operation_of, view_at}
use Rattle.gen_core.specs.Good.{State as CoreState, HoldFits, AimFits, BounceFits, GuardFits, GoodReaderState, IsPlaced, IsLawfulCommit, GoodReader, Good}
use Rattle.gen_core.specs.Conditions.{MayStoreWidth, MayStoreWord, MayHandOut, MayPublish, MaySplit, MayJoin, MayLoadOwn, MayLoadWord}
use Rattle.gen_core.specs.declared.views.Pending.TheVariants.{Nothing}
use Rattle.gen_core.specs.declared.views.ReaderState.{ReaderState}
use Rattle.gen_core.specs.Events.{stored, aims, meets, bounced, released, MayOpen, opening_words, opening_view, handed_out, widened, published, sees, with_reader, newcomer, joined, Happens, Happen, opening}
use Rattle.gen_core.proofs.Lists.{all_at}
use Rattle.gen_core.proofs.Frames.{base-same}
use Rattle.gen_core.proofs.Writer.{store_word_keeps, find_word_keeps, store_width_keeps, hand_out_keeps}
use Rattle.gen_core.proofs.Publish.{publish_keeps, records-stands}
use Rattle.gen_core.proofs.Readers.{load_root_keeps, split_keeps, join_keeps}
use Rattle.gen_core.proofs.Opening.{opening_good}
use Rattle.gen_core.proofs.Law.{image_stands}
use Rattle.word_arena.specs.declared.rule.Watched.{Watched}
use Rattle.word_arena.specs.Ruled.{Slot, bare, views_of, Becomes, writer_in, reader_in, writer_of, cut_left, cut_right, glued, gone, told_hand_out, told_width, told_store, told_find, told_publish, told_load_root, told_load_newest, told_raise, told_bounce, told_release, told_load_word, told_load_own, told_meet_load}
use Rattle.word_arena.specs.Watched.{is_noted_by, noted_by, Fits, IsReached, OneRun}
use Rattle.word_arena.specs.PlayEvents.{HasOperands, told_found, IsStep, plays_hand_out, plays_width, plays_store, plays_find, plays_publish, plays_load_root, plays_load_newest, plays_raise, plays_bounce, plays_release, plays_load_word, plays_load_own, plays_meet}
use Rattle.word_arena.specs.ProofsForWork.{coming-least}
use Rattle.word_arena.proofs.Views.{get_some}
use Rattle.word_arena.proofs.SeatLemmas.{set-other, set-got, get-map, watched_after, watch-step, watch-quiet, watch-set, watch-more}
use Rattle.gen_core.proofs.Holds.{at_newest}
use Rattle.gen_core.proofs.GoodViews.{good_view, some-commit, last-kept, records-placed}
use Rattle.gen_core.proofs.ViewLemmas.{last_at}
use Rattle.gen_core.proofs.OneStep.{set_back}
use Rattle.gen_core.proofs.Layouts.{IsLayout}
use Rattle.gen_core.proofs.Bounds.{count-small, counted-two}

-- the writer's seat is the first, and each other one is a reader's
pub writer_at : (w0 : WriterView) (readers : List ReaderView) (id : ℕ) (w : WriterView) → get_elem? (views_of w0 readers) id ≡ some (Writer w) → (id ≡ 0) × (w0 ≡ w)
writer_at w0 readers zero w e = (refl, ap writer_in (some-injective _ _ e))
writer_at w0 readers (suc j) w e = absurd (no_writer readers j e)
  where
    no_writer : (rs : List ReaderView) (j : ℕ) → get_elem? (map Reader rs) j ≡ some (Writer w) → ⊥
    no_writer [] j e = some-ne-none _ (sym e)
    no_writer (r ∷ rs) zero e = cc
    no_writer (r ∷ rs) (suc j) e = no_writer rs j e

pub reader_at : (w0 : WriterView) (readers : List ReaderView) (id : ℕ) (r : ReaderView) → get_elem? (views_of w0 readers) id ≡ some (Reader r) → (j : ℕ) × (id ≡ suc j) × (slice_get readers j ≡ Some r)
reader_at w0 readers zero r e = absurd (cc)
reader_at w0 readers (suc j) r e = (j, refl, get_some readers j r (mine readers j e))
  where
    mine : (rs : List ReaderView) (j : ℕ) → get_elem? (map Reader rs) j ≡ some (Reader r) → get_elem? rs j ≡ some r
    mine [] j e = absurd (some-ne-none _ (sym e))
    mine (x ∷ rs) zero e = ap (λ v. some (reader_in v)) (some-injective _ _ e)
    mine (x ∷ rs) (suc j) e = mine rs j e

-- the core's state of a table
abbrev pub core : List ℕ → WriterView → List ReaderView → CoreState
core words w readers = record { words = words; writer = w; readers = readers }

-- the word of a reader's hold
held_word : (s : CoreState) (j h : ℕ) (r : ReaderView) (state : ReaderState) → slice_get s.readers j ≡ Some r → r.state ≡ state → hold_of state ≡ h → hold_place h ≡ hold_place (hold_in s j)
held_word s j h r state there is names = sym (ap (λ (o : Option ReaderView). hold_place (hold_of (unwrap_or o spent).state)) there ∙ ap (λ (x : ReaderState). hold_place (hold_of x)) is ∙ ap hold_place names)

-- the view of a reader after a step
then_at : (readers : List ReaderView) (j : ℕ) (r v : ReaderView) → slice_get readers j ≡ Some r → option_map Reader (slice_get (set readers j v) j) ≡ Some (Reader v)
then_at readers j r v there = ap (option_map Reader) (slice_get-set_same readers j v (slice_get_within readers j r there))

no_reader : (w : WriterView) → Writer w ≡ Reader spent → ⊥
no_reader w e = cc

not_spent : (r : ReaderView) → r.state ≢ Spent → Reader r ≡ Reader spent → ⊥
not_spent r off e = off (ap (λ (u : View). (reader_in u).state) e)

-- what is told of views is told of seats with these views
pub told_at : (me me' : Me Slot Watched) {m m' : Me Slot View} (T : Me Slot View → Me Slot View → Type 0) → bare me ≡ m → bare me' ≡ m' → T m m' → T (bare me) (bare me')
told_at me me' T is now t = subst (λ (y : Me Slot View × Me Slot View). T y.0 y.1) (λ i. (sym is i, sym now i)) t

module _ (reaches : ℕ → Records → ℕ → List ℕ) (lawful : ℕ → Records → ℕ → Type 0) (sizes : Sizes) where
  -- one event more
  pub happen-push : (s : CoreState) (events : List Event) (m : CoreState) (e : Event) (t : CoreState) → Happen reaches lawful s events m → Happens reaches lawful m e t
      → Happen reaches lawful s (events ++ e ∷ []) t
  happen-push s [] m e t h step = (t, subst (λ (x : CoreState). Happens reaches lawful x e t) h step, refl)
  happen-push s (x ∷ xs) m e t h step = (h.0, h.1, happen-push h.0 xs m e t h.2 step)

  goes_on : {events : List Event} {s t : CoreState} (e : Event) → IsReached reaches lawful sizes events s → Happens reaches lawful s e t → Good reaches lawful t → IsReached reaches lawful sizes (events ++ e ∷ []) t
  goes_on {events} {s} {t} e r step good = record { run = happen-push (opening sizes) events s e t r.run step; good = good }

  -- a good state of the one run, in which the seat id is the writer's, with the view w
  record Writing (t : State Slot Watched) (events : List Event) (id : ℕ) (w : WriterView) : Type 0 where
    place : id ≡ 0
    readers : List ReaderView
    same_sizes : w.sizes ≡ sizes
    reached : IsReached reaches lawful sizes events (core t.words w readers)
    own : IsReached reaches lawful w.sizes events (core t.words w readers)
    set_view : (u : Watched) (v : WriterView) → u.view ≡ Writer v → map (λ (y : Watched). y.view) (set t.views id u) ≡ views_of v readers

  view-there : (t : State Slot Watched) (rule : OneRun reaches lawful sizes t) (id : ℕ) (x : Watched) (u : View) → x.view ≡ u → get_elem? t.views id ≡ some x → get_elem? (views_of rule.writer rule.readers) id ≡ some u
  view-there t rule id x u is at = ap (λ (l : List View). get_elem? l id) (sym rule.views) ∙ get-map (λ (y : Watched). y.view) t.views id x at ∙ ap some is

  writing : (t : State Slot Watched) (rule : OneRun reaches lawful sizes t) (id : ℕ) (x : Watched) (w : WriterView) → x.view ≡ Writer w → get_elem? t.views id ≡ some x → Writing t rule.events id w
  writing t rule id x w is at =
      let mine = writer_at rule.writer rule.readers id w (view-there t rule id x (Writer w) is at) in
      let same : w.sizes ≡ sizes = sym (ap (λ (v : WriterView). v.sizes) mine.1) ∙ rule.same_sizes in
      let reached : IsReached reaches lawful sizes rule.events (core t.words w rule.readers) =
      subst (λ (v : WriterView). IsReached reaches lawful sizes rule.events (core t.words v rule.readers)) mine.1 rule.reached in
      record {
        place = mine.0;
        readers = rule.readers;
        same_sizes = same;
        reached = reached;
        own = subst (λ (z : Sizes). IsReached reaches lawful z rule.events (core t.words w rule.readers)) (sym same) reached;
        set_view = λ u v there. map-set (λ (y : Watched). y.view) t.views id u ∙ (λ i. set (rule.views i) (mine.0 i) (there i));
      }

  -- the same of the reader j, with the view r
  record Reading (t : State Slot Watched) (events : List Event) (id : ℕ) (r : ReaderView) : Type 0 where
    j : ℕ
    place : id ≡ suc j
    writer : WriterView
    readers : List ReaderView
    there : slice_get readers j ≡ Some r
    same_sizes : writer.sizes ≡ sizes
    reached : IsReached reaches lawful sizes events (core t.words writer readers)
    own : IsReached reaches lawful writer.sizes events (core t.words writer readers)
    set_view : (u : Watched) (v : ReaderView) → u.view ≡ Reader v → map (λ (y : Watched). y.view) (set t.views id u) ≡ views_of writer (set readers j v)

  reading : (t : State Slot Watched) (rule : OneRun reaches lawful sizes t) (id : ℕ) (x : Watched) (r : ReaderView) → x.view ≡ Reader r → get_elem? t.views id ≡ some x → Reading t rule.events id r
  reading t rule id x r is at =
      let mine = reader_at rule.writer rule.readers id r (view-there t rule id x (Reader r) is at) in
      record {
        j = mine.0;
        place = mine.1;
        writer = rule.writer;
        readers = rule.readers;
        there = mine.2;
        same_sizes = rule.same_sizes;
        reached = rule.reached;
        own = subst (λ (z : Sizes). IsReached reaches lawful z rule.events (core t.words rule.writer rule.readers)) (sym rule.same_sizes) rule.reached;
        set_view = λ u v there. map-set (λ (y : Watched). y.view) t.views id u ∙ (λ i. set (rule.views i) (mine.1 i) (there i)) ∙ ap (λ (l : List View). Writer rule.writer ∷ l) (sym (map-set Reader rule.readers mine.0 v));
      }

  -- what the core says of a step of the writer: an event, to this view
  pub record WriterDoes (me : Me Slot Watched) (w : WriterView) (words : List ℕ) (readers : List ReaderView) (p n : ℕ) (st : Step Slot) (said : ℕ) (P : Me Slot Watched → Type 0) : Type 0 where
    pub v : WriterView
    pub e : Event
    pub seat : seat_of e ≡ 0
    pub noted : (k : ℕ) → is_noted_by k e ≡ nat_eq 0 k
    pub same : v.sizes ≡ w.sizes
    pub happens : Happens reaches lawful (core words w readers) e (core (set words p n) v readers)
    pub good : Good reaches lawful (core (set words p n) v readers)
    pub word : st.word ≡ word_of (core words w readers) e
    pub operands : HasOperands (operation_of (core words w readers) e) st
    pub found_is : said ≡ told_found (operation_of (core words w readers) e) (slice_index words st.word)
    pub tells : (me' : Me Slot Watched) → bare me' ≡ (Writer v, []) → IsStep reaches lawful e st me said me' → P me'

  pub writer_step : (slots id : ℕ) (me : Me Slot Watched) (w : WriterView) (p : ℕ) (f say : ℕ → ℕ) (st : Step Slot) (P : ℕ → Me Slot Watched → Type 0) → bare me ≡ (Writer w, [])
      → ((words : List ℕ) (readers : List ReaderView) → Good reaches lawful (core words w readers) → slice_index words p < 18446744073709551616
      → WriterDoes me w words readers p (f (slice_index words p)) st (say (slice_index words p)) (P (say (slice_index words p))))
      → Allows (OneRun reaches lawful sizes) slots id me p f (λ found. P (say found))
  writer_step slots id me w p f say st P is does t rule homes at small =
      let x : Watched = me.0 in
      let view : x.view ≡ Writer w = ap (λ (m : Me Slot View). m.0) is in
      let empty : me.1 ≡ [] = ap (λ (m : Me Slot View). m.1) is in
      let k = writing t rule id x w view at in
      let d = does t.words k.readers k.reached.good small in
      let fits = rule.watched.each id x at in
      let off : x.view ≢ Reader spent = λ same. no_reader w (sym view ∙ same) in
      let u : Watched = watched_after rule.events d.e x (Writer d.v) in (
        u,
        keeps,
        tt,
        record {
          writer = d.v;
          readers = k.readers;
          views = k.set_view u d.v refl;
          same_sizes = d.same ∙ k.same_sizes;
          events = rule.events ++ d.e ∷ [];
          reached = goes_on d.e k.reached d.happens d.good;
          watched = watch-step rule.events t.views id d.e x (Writer d.v) at (λ i. d.noted i ∙ ap (λ (m : ℕ). nat_eq m i) (sym k.place)) off rule.watched;
        },
        d.tells (u, me.1) (λ i. (Writer d.v, empty i)) (record {
          is = record {
            between = fits.later;
            own = (λ i. noted_by ((d.seat ∙ sym k.place) i) (sym fits.begins i)) ∙ fits.own off;
            before = core t.words w k.readers;
            after = core (set t.words p (f (slice_index t.words p))) d.v k.readers;
            reached = subst (λ (l : List Event). IsReached reaches lawful w.sizes l (core t.words w k.readers)) fits.begins k.own;
            happens = d.happens;
            word = d.word;
            operands = d.operands;
            found_is = d.found_is;
            sees = ap (view_at (core t.words w k.readers)) d.seat ∙ ap Some (sym view);
            then_sees = ap (view_at (core (set t.words p (f (slice_index t.words p))) d.v k.readers)) d.seat;
          };
          seen = ap (λ (l : List Event). l ++ d.e ∷ []) fits.begins;
          mine = refl;
        }),
      )

  -- and of one of a reader
  pub record ReaderDoes (me : Me Slot Watched) (r : ReaderView) (words : List ℕ) (w : WriterView) (readers : List ReaderView) (j p n : ℕ) (st : Step Slot) (said : ℕ) (P : Me Slot Watched → Type 0) : Type 0 where
    pub v : ReaderView
    pub e : Event
    pub seat : seat_of e ≡ suc j
    pub noted : (k : ℕ) → is_noted_by k e ≡ nat_eq (suc j) k
    pub happens : Happens reaches lawful (core words w readers) e (core (set words p n) w (set readers j v))
    pub good : Good reaches lawful (core (set words p n) w (set readers j v))
    pub word : st.word ≡ word_of (core words w readers) e
    pub operands : HasOperands (operation_of (core words w readers) e) st
    pub found_is : said ≡ told_found (operation_of (core words w readers) e) (slice_index words st.word)
    pub tells : (me' : Me Slot Watched) → bare me' ≡ (Reader v, []) → IsStep reaches lawful e st me said me' → P me'

  pub reader_step : (slots id : ℕ) (me : Me Slot Watched) (r : ReaderView) (p : ℕ) (f : ℕ → ℕ) (st : Step Slot) (P : ℕ → Me Slot Watched → Type 0) → bare me ≡ (Reader r, []) → r.state ≢ Spent
      → ((words : List ℕ) (w : WriterView) (readers : List ReaderView) (j : ℕ) → Good reaches lawful (core words w readers) → slice_get readers j ≡ Some r → slice_index words p < 18446744073709551616
      → ReaderDoes me r words w readers j p (f (slice_index words p)) st (slice_index words p) (P (slice_index words p)))
      → Allows (OneRun reaches lawful sizes) slots id me p f P
  reader_step slots id me r p f st P is stays does t rule homes at small =
      let x : Watched = me.0 in
      let view : x.view ≡ Reader r = ap (λ (m : Me Slot View). m.0) is in
      let empty : me.1 ≡ [] = ap (λ (m : Me Slot View). m.1) is in
      let k = reading t rule id x r view at in
      let d = does t.words k.writer k.readers k.j k.reached.good k.there small in
      let fits = rule.watched.each id x at in
      let off : x.view ≢ Reader spent = λ same. not_spent r stays (sym view ∙ same) in
      let u : Watched = watched_after rule.events d.e x (Reader d.v) in (
        u,
        keeps,
        tt,
        record {
          writer = k.writer;
          readers = set k.readers k.j d.v;
          views = k.set_view u d.v refl;
          same_sizes = k.same_sizes;
          events = rule.events ++ d.e ∷ [];
          reached = goes_on d.e k.reached d.happens d.good;
          watched = watch-step rule.events t.views id d.e x (Reader d.v) at (λ i. d.noted i ∙ ap (λ (m : ℕ). nat_eq m i) (sym k.place)) off rule.watched;
        },
        d.tells (u, me.1) (λ i. (Reader d.v, empty i)) (record {
          is = record {
            between = fits.later;
            own = (λ i. noted_by ((d.seat ∙ sym k.place) i) (sym fits.begins i)) ∙ fits.own off;
            before = core t.words k.writer k.readers;
            after = core (set t.words p (f (slice_index t.words p))) k.writer (set k.readers k.j d.v);
            reached = subst (λ (l : List Event). IsReached reaches lawful k.writer.sizes l (core t.words k.writer k.readers)) fits.begins k.own;
            happens = d.happens;
            word = d.word;
            operands = d.operands;
            found_is = d.found_is;
            sees = ap (view_at (core t.words k.writer k.readers)) d.seat ∙ ap (option_map Reader) k.there ∙ ap Some (sym view);
            then_sees = ap (view_at (core (set t.words p (f (slice_index t.words p))) k.writer (set k.readers k.j d.v))) d.seat ∙ then_at k.readers k.j r d.v k.there;
          };
          seen = ap (λ (l : List Event). l ++ d.e ∷ []) fits.begins;
          mine = refl;
        }),
      )

  -- an event that changes nothing, after a load
  loaded : (t : State Slot Watched) (rule : OneRun reaches lawful sizes t) (id : ℕ) (x : Watched) (p : ℕ) (e : Event) → get_elem? t.views id ≡ some x → ((k : ℕ) → is_noted_by k e ≡ false)
      → Happens reaches lawful (core t.words rule.writer rule.readers) e (core t.words rule.writer rule.readers)
      → OneRun reaches lawful sizes (record { words = set t.words p (slice_index t.words p); homes = t.homes; views = set t.views id x })
  loaded t rule id x p e at quiet happens =
      let more : OneRun reaches lawful sizes (record { words = t.words; homes = t.homes; views = t.views }) = record {
        writer = rule.writer;
        readers = rule.readers;
        views = rule.views;
        same_sizes = rule.same_sizes;
        events = rule.events ++ e ∷ [];
        reached = goes_on e rule.reached happens rule.reached.good;
        watched = watch-quiet rule.events t.views e quiet rule.watched;
      } in
      subst (λ (y : List ℕ × List Watched). OneRun reaches lawful sizes (record { words = y.0; homes = t.homes; views = y.1 })) (λ i. (sym (set_back t.words p) i, sym (set-got t.views id x at) i)) more

  pub width_owed : (slots id : ℕ) (me : Me Slot Watched) (w : WriterView) (b width p : ℕ) → bare me ≡ (Writer w, []) → p ≡ base w.sizes.buffers w.sizes.words b → MayStoreWidth w b width
      → Allows (OneRun reaches lawful sizes) slots id me p (λ _. width) (λ _. plays_width reaches lawful (step slots p width 0 none) me width)
  width_owed slots id me w b width p is at may =
      subst (λ (q : ℕ). Allows (OneRun reaches lawful sizes) slots id me q (λ _. width) (λ _. plays_width reaches lawful (step slots q width 0 none) me width)) (sym at)
      (writer_step slots id me w (base w.sizes.buffers w.sizes.words b) (λ _. width) (λ _. width) (step slots (base w.sizes.buffers w.sizes.words b) width 0 none)
      (plays_width reaches lawful (step slots (base w.sizes.buffers w.sizes.words b) width 0 none) me) is (λ words readers good small.
      let next = store_width_keeps reaches lawful (core words w readers) b width good may in
      record {
        v = widened w b width;
        e = StoreWidth b width;
        seat = refl;
        noted = λ k. refl;
        same = refl;
        happens = (may, refl);
        good = next;
        word = refl;
        operands = refl;
        found_is = refl;
        tells = λ me' now event. record {
          told = told_at me me' (λ m m'. told_width (step slots (base w.sizes.buffers w.sizes.words b) width 0 none) m width m') is now (λ other same.
              let e : b ≡ other = base-same w.sizes b other good.sizes.some_word same in
              subst (λ (c : ℕ). Becomes (Writer w, []) (widened w c width) (Writer (widened w b width), [])) e (record { is = refl; good = good_view reaches lawful (core (set words (base w.sizes.buffers w.sizes.words b) width) (widened w b width) readers) next }));
          event = (b, event);
        };
      }))

  pub hand_out_owed : (slots id : ℕ) (me : Me Slot Watched) (w : WriterView) (b p : ℕ) → bare me ≡ (Writer w, []) → p ≡ state_place b → MayHandOut w b
      → Allows (OneRun reaches lawful sizes) slots id me p (λ _. 1) (λ _. plays_hand_out reaches lawful (step slots p 1 0 none) me 1)
  hand_out_owed slots id me w b p is at may =
      subst (λ (q : ℕ). Allows (OneRun reaches lawful sizes) slots id me q (λ _. 1) (λ _. plays_hand_out reaches lawful (step slots q 1 0 none) me 1)) (sym at)
      (writer_step slots id me w (state_place b) (λ _. 1) (λ _. 1) (step slots (state_place b) 1 0 none) (plays_hand_out reaches lawful (step slots (state_place b) 1 0 none) me) is (λ words readers good small.
      let next = hand_out_keeps reaches lawful (core words w readers) b good may in
      record {
        v = handed_out w b;
        e = HandOut b;
        seat = refl;
        noted = λ k. refl;
        same = refl;
        happens = (may, refl);
        good = next;
        word = refl;
        operands = refl;
        found_is = refl;
        tells = λ me' now event. record {
          told = told_at me me' (λ m m'. told_hand_out (step slots (state_place b) 1 0 none) m 1 m') is now (λ other same.
              let e : b ≡ other = omega arith in
              subst (λ (c : ℕ). Becomes (Writer w, []) (handed_out w c) (Writer (handed_out w b), [])) e (record { is = refl; good = good_view reaches lawful (core (set words (state_place b) 1) (handed_out w b) readers) next }));
          event = (b, event);
        };
      }))

  pub store_owed : (slots id : ℕ) (me : Me Slot Watched) (w : WriterView) (p n : ℕ) → bare me ≡ (Writer w, []) → MayStoreWord w p
      → Allows (OneRun reaches lawful sizes) slots id me p (λ _. n) (λ _. plays_store reaches lawful (step slots p n 0 none) me n)
  store_owed slots id me w p n is may =
      writer_step slots id me w p (λ _. n) (λ _. n) (step slots p n 0 none) (plays_store reaches lawful (step slots p n 0 none) me) is (λ words readers good small.
      let next = store_word_keeps reaches lawful (core words w readers) p n good may in
      record {
        v = stored w p n;
        e = StoreWord p n;
        seat = refl;
        noted = λ k. refl;
        same = refl;
        happens = (may, refl);
        good = next;
        word = refl;
        operands = refl;
        found_is = refl;
        tells = λ me' now event. record {
          told = told_at me me' (λ m m'. told_store (step slots p n 0 none) m n m') is now (record { is = refl; good = good_view reaches lawful (core (set words p n) (stored w p n) readers) next });
          event = event;
        };
      })

  pub find_owed : (slots id : ℕ) (me : Me Slot Watched) (w : WriterView) (p : ℕ) → bare me ≡ (Writer w, []) → MayStoreWord w p
      → Allows (OneRun reaches lawful sizes) slots id me p (λ n. n) (plays_find reaches lawful (step slots p 0 0 none) me)
  find_owed slots id me w p is may =
      writer_step slots id me w p (λ n. n) (λ n. n) (step slots p 0 0 none) (plays_find reaches lawful (step slots p 0 0 none) me) is (λ words readers good small.
      let n : ℕ = slice_index words p in
      let next = find_word_keeps reaches lawful (core words w readers) p good may in
      let both : Happens reaches lawful (core words w readers) (FindWord p) (core (set words p n) (stored w p n) readers) × Good reaches lawful (core (set words p n) (stored w p n) readers) =
      subst (λ (l : List ℕ). Happens reaches lawful (core words w readers) (FindWord p) (core l (stored w p n) readers) × Good reaches lawful (core l (stored w p n) readers)) (sym (set_back words p)) ((may, refl), next) in
      record {
        v = stored w p n;
        e = FindWord p;
        seat = refl;
        noted = λ k. refl;
        same = refl;
        happens = both.0;
        good = both.1;
        word = refl;
        operands = tt;
        found_is = refl;
        tells = λ me' now event. record {
          told = told_at me me' (λ m m'. told_find (step slots p 0 0 none) m n m') is now (record { is = refl; good = good_view reaches lawful (core words (stored w p n) readers) next });
          event = event;
        };
      })

  pub publish_owed : (slots id : ℕ) (me : Me Slot Watched) → IsLayout reaches lawful → (w : WriterView) (root word : ℕ) → bare me ≡ (Writer w, []) → word ≡ length w.commits * 2 ^ 32 + root → MayPublish lawful w root
      → Allows (OneRun reaches lawful sizes) slots id me 0 (λ _. word) (λ _. plays_publish reaches lawful (step slots 0 word 0 none) me word)
  publish_owed slots id me l w root word is what may =
      subst (λ (n : ℕ). Allows (OneRun reaches lawful sizes) slots id me 0 (λ _. n) (λ _. plays_publish reaches lawful (step slots 0 n 0 none) me n)) (sym what)
      (writer_step slots id me w 0 (λ _. length w.commits * 2 ^ 32 + root) (λ _. length w.commits * 2 ^ 32 + root) (step slots 0 (length w.commits * 2 ^ 32 + root) 0 none)
      (plays_publish reaches lawful (step slots 0 (length w.commits * 2 ^ 32 + root) 0 none) me) is (λ words readers good small.
      let v : WriterView = published w (next_image reaches w root) in
      let next = publish_keeps reaches lawful l (core words w readers) root good may in
      record {
        v = v;
        e = Publish root;
        seat = refl;
        noted = λ k. refl;
        same = refl;
        happens = (may, refl);
        good = next;
        word = refl;
        operands = refl;
        found_is = refl;
        tells = λ me' now event. record {
          told = told_at me me' (λ m m'. told_publish reaches lawful (step slots 0 (length w.commits * 2 ^ 32 + root) 0 none) m (length w.commits * 2 ^ 32 + root) m') is now (λ other same.
              let e : root ≡ other = omega arith in
              subst (λ (c : ℕ). Becomes (Writer w, []) (published w (next_image reaches w c)) (Writer v, [])) e (record { is = refl; good = good_view reaches lawful (core (set words 0 (length w.commits * 2 ^ 32 + root)) v readers) next }));
          event = (root, event);
        };
      }))

  pub meet_owed : (slots id : ℕ) (me : Me Slot Watched) (w : WriterView) → bare me ≡ (Writer w, []) → w.queue.pending ≡ Nothing
      → Allows (OneRun reaches lawful sizes) slots id me 0 (λ n. n) (plays_meet reaches lawful (step slots 0 0 0 none) me)
  meet_owed slots id me w is calm =
      writer_step slots id me w 0 (λ n. n) (λ n. n) (step slots 0 0 0 none) (plays_meet reaches lawful (step slots 0 0 0 none) me) is (λ words readers good small.
      let both : Happens reaches lawful (core words w readers) MeetLoad (core (set words 0 (slice_index words 0)) w readers) × Good reaches lawful (core (set words 0 (slice_index words 0)) w readers) =
      subst (λ (l : List ℕ). Happens reaches lawful (core words w readers) MeetLoad (core l w readers) × Good reaches lawful (core l w readers)) (sym (set_back words 0)) ((calm, refl), good) in
      record {
        v = w;
        e = MeetLoad;
        seat = refl;
        noted = λ k. refl;
        same = refl;
        happens = both.0;
        good = both.1;
        word = refl;
        operands = tt;
        found_is = refl;
        tells = λ me' now event. record {
          told = told_at me me' (λ m m'. told_meet_load (step slots 0 0 0 none) m (slice_index words 0) m') is now (record { same = refl; seen = good.commits.seen });
          event = event;
        };
      })

  pub load_own_owed : (slots id : ℕ) (me : Me Slot Watched) (w : WriterView) (p : ℕ) → bare me ≡ (Writer w, []) → MayLoadOwn w p
      → Allows (OneRun reaches lawful sizes) slots id me p (λ n. n) (plays_load_own reaches lawful (step slots p 0 0 none) me)
  load_own_owed slots id me w p is may t rule homes at small =
      let x : Watched = me.0 in
      let view : x.view ≡ Writer w = ap (λ (m : Me Slot View). m.0) is in
      let mine = writer_at rule.writer rule.readers id w (view-there t rule id x (Writer w) view at) in
      let k = writing t rule id x w view at in
      let fits = rule.watched.each id x at in
      let off : x.view ≢ Reader spent = λ same. no_reader w (sym view ∙ same) in (
        x,
        keeps,
        tt,
        loaded t rule id x p (LoadOwn p) at (λ i. refl) (subst (λ (v : WriterView). MayLoadOwn v p) (sym mine.1) may, refl),
        record {
          told = told_at me me (λ m m'. told_load_own (step slots p 0 0 none) m (slice_index t.words p) m') is is (record {
            same = refl;
            own = record {
              word = λ ref i lt at'. ap (slice_index t.words) at' ∙ records-stands reaches lawful (core t.words w k.readers) k.reached.good ref (omega (arith, lt)) i lt;
              width = λ ref some at'. ap (slice_index t.words) at'
                  ∙ (let placed = records-placed w (good_view reaches lawful (core t.words w k.readers) k.reached.good) ref some in k.reached.good.memory.widths _ _ placed.width some);
            };
          });
          event = record {
            is = record {
              between = fits.later;
              own = (λ i. noted_by (sym k.place i) (sym fits.begins i)) ∙ fits.own off;
              before = core t.words w k.readers;
              after = core t.words w k.readers;
              reached = subst (λ (l : List Event). IsReached reaches lawful w.sizes l (core t.words w k.readers)) fits.begins k.own;
              happens = (may, refl);
              word = refl;
              operands = tt;
              found_is = refl;
              sees = ap Some (sym view);
              then_sees = ap Some (sym view);
            };
            same = refl;
          };
        },
      )

  idle-off : Idle ≡ Spent → ⊥
  idle-off e = cc

  pub load_newest_owed : (slots id : ℕ) (me : Me Slot Watched) (r : ReaderView) → bare me ≡ (Reader r, []) → r.state ≡ Idle
      → Allows (OneRun reaches lawful sizes) slots id me 1 (λ n. n) (plays_load_newest reaches lawful (step slots 1 0 0 none) me)
  load_newest_owed slots id me r is idle =
      reader_step slots id me r 1 (λ n. n) (step slots 1 0 0 none) (plays_load_newest reaches lawful (step slots 1 0 0 none) me) is (λ e. idle-off (sym idle ∙ e)) (λ words w readers j good there small.
      let v : ReaderView = aims r w.queue.newest in
      let next = load_newest_keeps reaches lawful (core words w readers) j r good there idle in
      let both : Happens reaches lawful (core words w readers) (LoadNewest j) (core (set words 1 (slice_index words 1)) w (set readers j v)) × Good reaches lawful (core (set words 1 (slice_index words 1)) w (set readers j v)) =
      subst (λ (l : List ℕ). Happens reaches lawful (core words w readers) (LoadNewest j) (core l w (set readers j v)) × Good reaches lawful (core l w (set readers j v))) (sym (set_back words 1)) ((r, there, idle, refl), next) in
      record {
        v = v;
        e = LoadNewest j;
        seat = refl;
        noted = λ k. refl;
        happens = both.0;
        good = both.1;
        word = refl;
        operands = tt;
        found_is = refl;
        tells = λ me' now event. record {
          told = told_at me me' (λ m m'. told_load_newest (step slots 1 0 0 none) m (slice_index words 1) m') is now (record {
            entry = w.queue.newest;
            is = refl;
            found_last = good.names.newest_hold;
            low = (at_newest (HoldFits w.commits) w.queue.older w.queue.newest good.queue.each).hold;
            least = (all_at (GoodReader w.sizes w.queue w.commits) readers j r good.readers there).least;
          });
          event = (j, event);
        };
      })

  aimed-off : (generation h : ℕ) → Aimed generation h ≡ Spent → ⊥
  aimed-off generation h e = cc

  pub raise_owed : (slots id : ℕ) (me : Me Slot Watched) (r : ReaderView) (generation h p : ℕ) → bare me ≡ (Reader r, []) → p ≡ hold_place h → r.state ≡ Aimed generation h
      → Allows (OneRun reaches lawful sizes) slots id me p (λ n. (n + 2) % 2 ^ 64) (plays_raise reaches lawful (step slots p 2 0 none) me)
  raise_owed slots id me r generation h p is at aimed =
      subst (λ (q : ℕ). Allows (OneRun reaches lawful sizes) slots id me q (λ n. (n + 2) % 2 ^ 64) (plays_raise reaches lawful (step slots q 2 0 none) me)) (sym at)
      (reader_step slots id me r (hold_place h) (λ n. (n + 2) % 2 ^ 64) (step slots (hold_place h) 2 0 none) (plays_raise reaches lawful (step slots (hold_place h) 2 0 none) me) is (λ e. aimed-off generation h (sym aimed ∙ e)) (λ words w readers j good there small.
      let found : ℕ = slice_index words (hold_place h) in
      let mine = all_at (GoodReader w.sizes w.queue w.commits) readers j r good.readers there in
      let aim : AimFits w.queue.newest r.least generation h = subst (GoodReaderState w.queue w.commits r) aimed mine.state in
      let few = count-small reaches lawful (core words w readers) h good aim.hold in
      let sum : found + 2 ≡ (found + 2) % 2 ^ 64 = omega (arith, few) in
      let v : ReaderView = meets r found h in
      let next = raise_keeps reaches lawful (core words w readers) j r generation h good there aimed in
      let both : Happens reaches lawful (core words w readers) (Raise j) (core (set words (hold_place h) ((found + 2) % 2 ^ 64)) w (set readers j v)) × Good reaches lawful (core (set words (hold_place h) ((found + 2) % 2 ^ 64)) w (set readers j v)) =
      subst (λ (n : ℕ). Happens reaches lawful (core words w readers) (Raise j) (core (set words (hold_place h) n) w (set readers j v)) × Good reaches lawful (core (set words (hold_place h) n) w (set readers j v))) sum ((r, there, generation, h, aimed, refl), next) in
      record {
        v = v;
        e = Raise j;
        seat = refl;
        noted = λ k. refl;
        happens = both.0;
        good = both.1;
        word = held_word (core words w readers) j h r (Aimed generation h) there aimed refl;
        operands = refl;
        found_is = refl;
        tells = λ me' now event. record {
          told = told_at me me' (λ m m'. told_raise (step slots (hold_place h) 2 0 none) m found m') is now (λ other same. let e : h ≡ other = omega arith in ap (λ (i : ℕ). (Reader (meets r found i), [])) e);
          event = (j, event);
        };
      }))

  bounce-off : (h : ℕ) → Bounced h ≡ Spent → ⊥
  bounce-off h e = cc

  pub bounce_owed : (slots id : ℕ) (me : Me Slot Watched) (r : ReaderView) (h p : ℕ) → bare me ≡ (Reader r, []) → p ≡ hold_place h → r.state ≡ Bounced h
      → Allows (OneRun reaches lawful sizes) slots id me p (λ n. (n + (2 ^ 64 - 2)) % 2 ^ 64) (plays_bounce reaches lawful (step slots p 2 0 none) me)
  bounce_owed slots id me r h p is at b =
      subst (λ (q : ℕ). Allows (OneRun reaches lawful sizes) slots id me q (λ n. (n + (2 ^ 64 - 2)) % 2 ^ 64) (plays_bounce reaches lawful (step slots q 2 0 none) me)) (sym at)
      (reader_step slots id me r (hold_place h) (λ n. (n + (2 ^ 64 - 2)) % 2 ^ 64) (step slots (hold_place h) 2 0 none) (plays_bounce reaches lawful (step slots (hold_place h) 2 0 none) me) is (λ e. bounce-off h (sym b ∙ e)) (λ words w readers j good there small.
      let found : ℕ = slice_index words (hold_place h) in
      let mine = all_at (GoodReader w.sizes w.queue w.commits) readers j r good.readers there in
      let fits : BounceFits w.queue.newest r.least h = subst (GoodReaderState w.queue w.commits r) b mine.state in
      let two = counted-two reaches lawful (core words w readers) j h r good there fits.hold (ap (is_counted_on h) b ∙ eq-eqb h h refl) in
      let less : found - 2 ≡ (found + (2 ^ 64 - 2)) % 2 ^ 64 = omega (arith, two, small) in
      let v : ReaderView = bounced r in
      let next = bounce_keeps reaches lawful (core words w readers) j r h good there b in
      let both : Happens reaches lawful (core words w readers) (Bounce j) (core (set words (hold_place h) ((found + (2 ^ 64 - 2)) % 2 ^ 64)) w (set readers j v)) × Good reaches lawful (core (set words (hold_place h) ((found + (2 ^ 64 - 2)) % 2 ^ 64)) w (set readers j v)) =
      subst (λ (n : ℕ). Happens reaches lawful (core words w readers) (Bounce j) (core (set words (hold_place h) n) w (set readers j v)) × Good reaches lawful (core (set words (hold_place h) n) w (set readers j v))) less ((r, there, h, b, refl), next) in
      record {
        v = v;
        e = Bounce j;
        seat = refl;
        noted = λ k. refl;
        happens = both.0;
        good = both.1;
        word = held_word (core words w readers) j h r (Bounced h) there b refl;
        operands = refl;
        found_is = refl;
        tells = λ me' now event. record {
          told = told_at me me' (λ m m'. told_bounce (step slots (hold_place h) 2 0 none) m found m') is now (record {
            is = refl;
            limit = (let m = fits.missed in let same : r.sizes ≡ w.sizes = mine.same_sizes (λ e. bounce-off h (sym b ∙ e)) in
                let up = coming-least w.queue.newest w.queue.pending in let g = good.queue.generation in omega (arith, m, up, g, ap (λ (z : Sizes). z.generation_limit) same));
          });
          event = (j, event);
        };
      }))

  guarded-off : (h c : ℕ) → Guarded h c ≡ Spent → ⊥
  guarded-off h c e = cc

  pub release_owed : (slots id : ℕ) (me : Me Slot Watched) (r : ReaderView) (h c p : ℕ) → bare me ≡ (Reader r, []) → p ≡ hold_place h → r.state ≡ Guarded h c
      → Allows (OneRun reaches lawful sizes) slots id me p (λ n. (n + (2 ^ 64 - 2)) % 2 ^ 64) (plays_release reaches lawful (step slots p 2 0 none) me)
  release_owed slots id me r h c p is at b =
      subst (λ (q : ℕ). Allows (OneRun reaches lawful sizes) slots id me q (λ n. (n + (2 ^ 64 - 2)) % 2 ^ 64) (plays_release reaches lawful (step slots q 2 0 none) me)) (sym at)
      (reader_step slots id me r (hold_place h) (λ n. (n + (2 ^ 64 - 2)) % 2 ^ 64) (step slots (hold_place h) 2 0 none) (plays_release reaches lawful (step slots (hold_place h) 2 0 none) me) is (λ e. guarded-off h c (sym b ∙ e)) (λ words w readers j good there small.
      let found : ℕ = slice_index words (hold_place h) in
      let mine = all_at (GoodReader w.sizes w.queue w.commits) readers j r good.readers there in
      let fits : GuardFits w.queue w.commits r.saw h c = subst (GoodReaderState w.queue w.commits r) b mine.state in
      let two = counted-two reaches lawful (core words w readers) j h r good there fits.raised.hold (ap (is_counted_on h) b ∙ eq-eqb h h refl) in
      let less : found - 2 ≡ (found + (2 ^ 64 - 2)) % 2 ^ 64 = omega (arith, two, small) in
      let v : ReaderView = released r in
      let next = release_keeps reaches lawful (core words w readers) j r h c good there b in
      let both : Happens reaches lawful (core words w readers) (Release j) (core (set words (hold_place h) ((found + (2 ^ 64 - 2)) % 2 ^ 64)) w (set readers j v)) × Good reaches lawful (core (set words (hold_place h) ((found + (2 ^ 64 - 2)) % 2 ^ 64)) w (set readers j v)) =
      subst (λ (n : ℕ). Happens reaches lawful (core words w readers) (Release j) (core (set words (hold_place h) n) w (set readers j v)) × Good reaches lawful (core (set words (hold_place h) n) w (set readers j v))) less ((r, there, h, c, b, refl), next) in
      record {
        v = v;
        e = Release j;
        seat = refl;
        noted = λ k. refl;
        happens = both.0;
        good = both.1;
        word = held_word (core words w readers) j h r (Guarded h c) there b refl;
        operands = refl;
        found_is = refl;
        tells = λ me' now event. record {
          told = told_at me me' (λ m m'. told_release (step slots (hold_place h) 2 0 none) m found m') is now refl;
          event = (j, event);
        };
      }))

  off : (h : ℕ) → Some h ≡ None → ⊥
  off h e = cc

  pub load_root_owed : (slots id : ℕ) (me : Me Slot Watched) (r : ReaderView) (h : ℕ) → bare me ≡ (Reader r, []) → stands_on r.state ≡ Some h
      → Allows (OneRun reaches lawful sizes) slots id me 0 (λ n. n) (plays_load_root reaches lawful (step slots 0 0 0 none) me)
  load_root_owed slots id me r h is stands =
      reader_step slots id me r 0 (λ n. n) (step slots 0 0 0 none) (plays_load_root reaches lawful (step slots 0 0 0 none) me) is (λ e. off h (sym stands ∙ ap stands_on e)) (λ words w readers j good there small.
      let v : ReaderView = sees r h (last_number w.commits) (last_image w.commits) in
      let mine = all_at (GoodReader w.sizes w.queue w.commits) readers j r good.readers there in
      let same : r.sizes ≡ w.sizes = mine.same_sizes (λ e. off h (sym stands ∙ ap stands_on e)) in
      let commit = all_at (IsLawfulCommit reaches lawful w.sizes.shape) w.commits (last_number w.commits) (last_image w.commits) good.commits.each
      (last_at w.commits (some-commit w (good_view reaches lawful (core words w readers) good))) in
      let placed : All (IsPlaced w.sizes w.buffers) (last_image w.commits).records =
      last-kept w (good_view reaches lawful (core words w readers) good) (λ image. All (IsPlaced w.sizes w.buffers) image.records) good.places.records in
      let next = load_root_keeps reaches lawful (core words w readers) j r h good there stands in
      let both : Happens reaches lawful (core words w readers) (LoadRoot j) (core (set words 0 (slice_index words 0)) w (set readers j v)) × Good reaches lawful (core (set words 0 (slice_index words 0)) w (set readers j v)) =
      subst (λ (l : List ℕ). Happens reaches lawful (core words w readers) (LoadRoot j) (core l w (set readers j v)) × Good reaches lawful (core l w (set readers j v))) (sym (set_back words 0)) ((r, there, h, stands, refl), next) in
      record {
        v = v;
        e = LoadRoot j;
        seat = refl;
        noted = λ k. refl;
        happens = both.0;
        good = both.1;
        word = refl;
        operands = tt;
        found_is = refl;
        tells = λ me' now event. record {
          told = told_at me me' (λ m m'. told_load_root reaches lawful (step slots 0 0 0 none) m (slice_index words 0) m') is now (record {
            reader = v;
            is = refl;
            sees_commit = record {
              hold = h;
              stands = stands;
              number = last_number w.commits;
              image = last_image w.commits;
              is = refl;
              found_root = good.names.root;
              commit = subst (λ (z : Sizes). IsLawfulCommit reaches lawful z.shape (last_image w.commits)) (sym same) commit;
              later = mine.seen;
              small_number = let a = good.queue.commit in let b = good.sizes.commit_limit in omega arith;
              entries = subst (λ (z : Sizes). All (λ pair. IsEntry z.offset_bits z.buffers z.words (length pair.1) pair.0) (last_image w.commits).records) (sym same) (λ l e less. (placed l e less).inside);
            };
          });
          event = (j, event);
        };
      })

  under-off : (r : ReaderView) (p : ℕ) → MayLoadWord r p → r.state ≢ Spent
  under-off r p may e = guarded-off may.under.hold may.number (sym may.under.guarded ∙ e)

  pub load_word_owed : (slots id : ℕ) (me : Me Slot Watched) (r : ReaderView) (p : ℕ) → bare me ≡ (Reader r, []) → MayLoadWord r p
      → Allows (OneRun reaches lawful sizes) slots id me p (λ n. n) (plays_load_word reaches lawful (step slots p 0 0 none) me)
  load_word_owed slots id me r p is may t rule homes at small =
      let x : Watched = me.0 in
      let view : x.view ≡ Reader r = ap (λ (m : Me Slot View). m.0) is in
      let mine = reader_at rule.writer rule.readers id r (view-there t rule id x (Reader r) view at) in
      let good = rule.reached.good in
      let fits = rule.watched.each id x at in
      let stays : x.view ≢ Reader spent = λ same. not_spent r (under-off r p may) (sym view ∙ same) in
      let sees_it = ap (option_map Reader) mine.2 ∙ ap Some (sym view) in (
        x,
        keeps,
        tt,
        loaded t rule id x p (LoadWord mine.0 p) at (λ i. refl) (r, mine.2, may, refl),
        record {
          told = told_at me me (λ m m'. told_load_word (step slots p 0 0 none) m (slice_index t.words p) m') is is (record {
            same = refl;
            word = λ c image saw.
                let stands = image_stands reaches lawful (core t.words rule.writer rule.readers) mine.0 c r image good mine.2 saw in
                record {
                  word = λ ref ws i there lt at'. ap (slice_index t.words) at' ∙ ((stands ref ws there).each i lt).is;
                  width = λ ref ws there at'. ap (slice_index t.words) at' ∙ (stands ref ws there).width.is;
                };
          });
          event = (
            mine.0,
            record {
              is = record {
                between = fits.later;
                own = (λ i. noted_by (sym mine.1 i) (sym fits.begins i)) ∙ fits.own stays;
                before = core t.words rule.writer rule.readers;
                after = core t.words rule.writer rule.readers;
                reached = subst (λ (l : List Event). IsReached reaches lawful rule.writer.sizes l (core t.words rule.writer rule.readers)) fits.begins
                    (subst (λ (z : Sizes). IsReached reaches lawful z rule.events (core t.words rule.writer rule.readers)) (sym rule.same_sizes) rule.reached);
                happens = (r, mine.2, may, refl);
                word = refl;
                operands = tt;
                found_is = refl;
                sees = sees_it;
                then_sees = sees_it;
              };
              same = refl;
            },
          );
        },
      )

  -- a new seat begins with what the writer's has seen
  pub split_owed : (slots id : ℕ) (me : Me Slot Watched) (w : WriterView) → bare me ≡ (Writer w, []) → MaySplit w → Splits (OneRun reaches lawful sizes) id me.0 (cut_left me.0) (cut_right me.0)
  split_owed slots id me w is may t rule at =
      let x : Watched = me.0 in
      let view : x.view ≡ Writer w = ap (λ (m : Me Slot View). m.0) is in
      let k = writing t rule id x w view at in
      let here : writer_of x ≡ w = ap writer_in view in
      let quiet = watch-quiet rule.events t.views Split (λ i. refl) rule.watched in
      let old = quiet.each id x at in
      let off : x.view ≢ Reader spent = λ same. no_reader w (sym view ∙ same) in
      let first = watch-set (rule.events ++ Split ∷ []) t.views id x (cut_left x) at (record { later = old.later; begins = old.begins; own = λ open_seat. old.own off }) quiet in
      record {
        writer = with_reader w;
        readers = k.readers ++ newcomer w ∷ [];
        views = map-append (λ (y : Watched). y.view) (set t.views id (cut_left x)) (cut_right x ∷ [])
            ∙ (λ i. k.set_view (cut_left x) (with_reader w) (ap (λ (v : WriterView). Writer (with_reader v)) here) i ++ Reader (newcomer (here i)) ∷ [])
            ∙ ap (λ (l : List View). Writer (with_reader w) ∷ l) (sym (map-append Reader k.readers (newcomer w ∷ [])));
        same_sizes = k.same_sizes;
        events = rule.events ++ Split ∷ [];
        reached = goes_on Split k.reached (may, refl) (split_keeps reaches lawful (core t.words w k.readers) k.reached.good may);
        watched = watch-more (rule.events ++ Split ∷ []) (set t.views id (cut_left x)) (cut_right x)
            (record { later = old.later; begins = old.begins; own = λ open_seat. first.none (length (set t.views id (cut_left x))) (omega arith) }) first;
      }

  -- a reader's seat is taken in
  pub join_owed : (slots id : ℕ) (me : Me Slot Watched) (w : WriterView) (other : ℕ) (it : Me Slot Watched) (r : ReaderView) → bare me ≡ (Writer w, []) → bare it ≡ (Reader r, []) → MayJoin w r
      → Joins (OneRun reaches lawful sizes) id me.0 other it.0 (glued me.0 it.0) gone
  join_owed slots id me w other it r is that may t rule at apart there =
      let x : Watched = me.0 in
      let y : Watched = it.0 in
      let view : x.view ≡ Writer w = ap (λ (m : Me Slot View). m.0) is in
      let seen : y.view ≡ Reader r = ap (λ (m : Me Slot View). m.0) that in
      let k = writing t rule id x w view at in
      let left : Watched = glued x y in
      let here : get_elem? t.views other ≡ some y = sym (set-other t.views id other left apart) ∙ there in
      let written = k.set_view left (joined w r) (λ i. Writer (joined (writer_in (view i)) (reader_in (seen i)))) in
      let reader = reader_at (joined w r) k.readers other r (ap (λ (l : List View). get_elem? l other) (sym written) ∙ get-map (λ (z : Watched). z.view) (set t.views id left) other y there ∙ ap some seen) in
      let e : Event = Join reader.0 in
      let quiet = watch-quiet rule.events t.views e (λ i. refl) rule.watched in
      let old = quiet.each id x at in
      let off : x.view ≢ Reader spent = λ same. no_reader w (sym view ∙ same) in
      let first = watch-set (rule.events ++ e ∷ []) t.views id x left at (record { later = old.later; begins = old.begins; own = λ open_seat. old.own off }) quiet in
      record {
        writer = joined w r;
        readers = set k.readers reader.0 spent;
        views = map-set (λ (z : Watched). z.view) (set t.views id left) other gone
            ∙ ap (λ (l : List View). set l other (Reader spent)) written
            ∙ ap (λ (i : ℕ). set (views_of (joined w r) k.readers) i (Reader spent)) reader.1
            ∙ ap (λ (l : List View). Writer (joined w r) ∷ l) (sym (map-set Reader k.readers reader.0 spent));
        same_sizes = k.same_sizes;
        events = rule.events ++ e ∷ [];
        reached = goes_on e k.reached (r, reader.2, may, refl) (join_keeps reaches lawful (core t.words w k.readers) reader.0 r k.reached.good reader.2 may);
        watched = watch-set (rule.events ++ e ∷ []) (set t.views id left) other y gone (set-other t.views id other left apart ∙ here)
            (record { later = rule.events ++ e ∷ []; begins = refl; own = λ open_seat. absurd (open_seat refl) }) first;
      }

  pub opens : IsLayout reaches lawful → MayOpen sizes
      → OneRun reaches lawful sizes (record { words = opening_words sizes; homes = []; views = record { view = Writer (opening_view sizes); seen = []; mine = [] } ∷ [] })
  opens l may = record {
    writer = opening_view sizes;
    readers = [];
    views = refl;
    same_sizes = refl;
    events = [];
    reached = record { run = refl; good = opening_good reaches lawful l sizes may };
    watched = record { each = λ k v is. first k v is; none = λ k above. refl };
  }
    where
      first : (k : ℕ) (v : Watched) → get_elem? (record { view = Writer (opening_view sizes); seen = []; mine = [] } ∷ []) k ≡ some v → Fits [] k v
      first zero v is = subst (Fits [] 0) (some-injective _ v is) (record { later = []; begins = refl; own = λ open_seat. refl })
      first (suc k) v is = absurd (some-ne-none v (sym is))
