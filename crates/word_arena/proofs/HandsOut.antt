-- The law over runs holds of the one run.
use Rattle.std.proofs.Common.{◌≡◌, ℕ, List, [], ◌∷◌, ◌++◌, Some, refl, sym, ap, ◌∙◌, subst}
use Rattle.entry_ref.specs.Records.{Records}
use Rattle.atomic_table.specs.Table.{Me, Step}
use Rattle.gen_core.specs.declared.views.Sizes.{Sizes}
use Rattle.gen_core.specs.declared.views.View.{View}
use Rattle.gen_core.specs.declared.views.View.TheVariants.{Writer}
use Rattle.gen_core.specs.declared.views.Event.{Event}
use Rattle.gen_core.specs.declared.views.Event.TheVariants.{HandOut, PutOnHold, MeetLoad}
use Rattle.gen_core.specs.Good.{State, Good}
use Rattle.gen_core.specs.Steps.{view_at}
use Rattle.gen_core.specs.Events.{Happens, Happen, MayOpen, opening}
use Rattle.gen_core.proofs.HeldBack.{holds_back}
use Rattle.gen_core.proofs.Layouts.{IsLayout}
use Rattle.list_lemmas.proofs.Options.{same_Some}
use Rattle.word_arena.specs.declared.rule.Watched.{Watched}
use Rattle.word_arena.specs.Ruled.{Slot, writer_in, writer_of}
use Rattle.word_arena.specs.PlayEvents.{IsEvent, IsStep}
use Rattle.word_arena.proofs.Allowed.{happen-push}
use Rattle.word_arena.specs.Released.{IsReleased, HandsOut, IsWholeRun}

pub appends : (xs ys zs : List Event) → (xs ++ ys) ++ zs ≡ xs ++ (ys ++ zs)
appends [] ys zs = refl
appends (x ∷ xs) ys zs = ap (λ l. x ∷ l) (appends xs ys zs)

module _ (reaches : ℕ → Records → ℕ → List ℕ) (lawful : ℕ → Records → ℕ → Type 0) where
  -- a run cut in two
  happen-split : (s : State) (xs ys : List Event) (t : State) → Happen reaches lawful s (xs ++ ys) t → (m : State) × Happen reaches lawful s xs m × Happen reaches lawful m ys t
  happen-split s [] ys t h = (s, refl, h)
  happen-split s (x ∷ xs) ys t h = let rest = happen-split h.0 xs ys t h.2 in (rest.0, (h.0, h.1, rest.1), rest.2)

  released : IsLayout reaches lawful → (sizes : Sizes) → MayOpen sizes → (events : List Event) (t u : State) (b : ℕ) → Happen reaches lawful (opening sizes) events t → Happens reaches lawful t (HandOut b) u
      → IsReleased reaches lawful sizes events b
  released l sizes may events t u b run out early between is =
      let cut = happen-split (opening sizes) early (PutOnHold b ∷ between) t (subst (λ (xs : List Event). Happen reaches lawful (opening sizes) xs t) is run) in
      (cut.0, cut.1, λ j h r there stands none. holds_back reaches lawful l sizes early between cut.0 cut.2.0 t u j h b r may cut.1 there stands cut.2.1 cut.2.2 none out)

  may-open : (s : State) → Good reaches lawful s → MayOpen s.writer.sizes
  may-open s g = record { some_word = g.sizes.some_word; commit_limit = g.sizes.commit_limit; generation_limit = g.sizes.generation_limit }

  -- the sizes of the run are those of the writer's view
  same-sizes : {event : Event} {st : Step Slot} {me me' : Me Slot Watched} {found : ℕ} (k : IsEvent reaches lawful event st me found me') → view_at k.before 0 ≡ Some me.0.view → k.before.writer.sizes ≡ (writer_of me.0).sizes
  same-sizes {event} {st} {me} {me'} {found} k sees = ap (λ (v : View). (writer_in v).sizes) (same_Some (Writer k.before.writer) me.0.view sees)

  -- a step of the writer's that hands a buffer out
  pub hands_out : IsLayout reaches lawful → (b : ℕ) (st : Step Slot) (me me' : Me Slot Watched) (found : ℕ) (k : IsStep reaches lawful (HandOut b) st me found me')
      → HandsOut reaches lawful (writer_of me.0).sizes me.0.seen me'.0.seen b
  hands_out l b st me me' found k =
      let same = same-sizes k.is k.is.sees in
      record {
        between = k.is.between;
        later = [];
        seen = k.seen;
        released = subst (λ (z : Sizes). IsReleased reaches lawful z (me.0.seen ++ k.is.between) b) same
            (released l k.is.before.writer.sizes (may-open k.is.before k.is.reached.good) (me.0.seen ++ k.is.between) k.is.before k.is.after b k.is.reached.run k.is.happens);
      }

  -- and another step behind it
  pub hands_on : {sizes : Sizes} {b : ℕ} {old : List Event} {event : Event} {st : Step Slot} {me me' : Me Slot Watched} {found : ℕ} → HandsOut reaches lawful sizes old me.0.seen b → IsStep reaches lawful event st me found me'
      → HandsOut reaches lawful sizes old me'.0.seen b
  hands_on {sizes} {b} {old} {event} {st} {me} {me'} {found} h k = record {
    between = h.between;
    later = (h.later ++ k.is.between) ++ event ∷ [];
    seen = k.seen ∙ ap (λ (l : List Event). (l ++ k.is.between) ++ event ∷ []) h.seen
        ∙ ap (λ (l : List Event). l ++ event ∷ []) (appends (old ++ h.between) (HandOut b ∷ h.later) k.is.between)
        ∙ appends (old ++ h.between) (HandOut b ∷ (h.later ++ k.is.between)) (event ∷ []);
    released = h.released;
  }

  -- after the writer has met all that its readers did
  pub whole_run : IsLayout reaches lawful → (st : Step Slot) (me me' : Me Slot Watched) (found : ℕ) (k : IsStep reaches lawful MeetLoad st me found me')
      → IsWholeRun reaches lawful (writer_of me.0).sizes me'.0.seen
  whole_run l st me me' found k =
      let z : Sizes = k.is.before.writer.sizes in
      let may = may-open k.is.before k.is.reached.good in
      let events : List Event = (me.0.seen ++ k.is.between) ++ MeetLoad ∷ [] in
      let run : Happen reaches lawful (opening z) events k.is.after =
      happen-push reaches lawful z (opening z) (me.0.seen ++ k.is.between) k.is.before MeetLoad k.is.after k.is.reached.run k.is.happens in
      subst (λ (y : Sizes × List Event). IsWholeRun reaches lawful y.0 y.1) (λ i. (same-sizes k.is k.is.sees i, sym k.seen i)) (record {
        end = k.is.after;
        run = run;
        released = λ early later b is.
            let cut = happen-split (opening z) early (HandOut b ∷ later) k.is.after (subst (λ (xs : List Event). Happen reaches lawful (opening z) xs k.is.after) is run) in
            released l z may early cut.0 cut.2.0 b cut.1 cut.2.1;
      })
