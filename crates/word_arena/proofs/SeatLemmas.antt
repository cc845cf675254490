-- What seats have seen of one list of events, as it grows.
use Rattle.std.proofs.Common.{◌≡◌, ◌≢◌, ◌⊎◌, inl, inr, ℕ, zero, suc, ◌≤◌, List, [], ◌∷◌, ◌++◌, length, set, Bool, true, false, refl, sym, ap, ◌∙◌, subst, arith, eq-eqb, ne_eqb, length-set}
use mathlib.Core.Logic.{dite}
use native.Mathlib.Decide.{ℕ_discrete}
use mathlib.Core.Option.{some, some-ne-none, some-injective}
use lib.ListN.{get_elem?}
use Rattle.std.specs.Prelude.{map, nat_eq, if◌then◌else◌}
use Rattle.gen_core.specs.declared.views.View.{View}
use Rattle.gen_core.specs.declared.views.View.TheVariants.{Reader}
use Rattle.gen_core.specs.declared.views.Event.{Event}
use Rattle.gen_core.specs.Views.{spent}
use Rattle.word_arena.specs.declared.rule.Watched.{Watched}
use Rattle.word_arena.specs.Watched.{is_noted_by, noted_by, Fits, Watches}

pub set-other : {A : Type 0} (l : List A) (i j : ℕ) (a : A) → j ≢ i → get_elem? (set l i a) j ≡ get_elem? l j
set-other [] i j a ne = refl
set-other (x ∷ xs) zero zero a ne = absurd (ne refl)
set-other (x ∷ xs) zero (suc j) a ne = refl
set-other (x ∷ xs) (suc i) zero a ne = refl
set-other (x ∷ xs) (suc i) (suc j) a ne = set-other xs i j a (λ e. ne (ap suc e))

set-same : {A : Type 0} (l : List A) (i : ℕ) (a x : A) → get_elem? l i ≡ some x → get_elem? (set l i a) i ≡ some a
set-same [] i a x e = absurd (some-ne-none x (sym e))
set-same (y ∷ ys) zero a x e = refl
set-same (y ∷ ys) (suc i) a x e = set-same ys i a x e

-- a place that is written with what stands there
pub set-got : {A : Type 0} (l : List A) (i : ℕ) (x : A) → get_elem? l i ≡ some x → set l i x ≡ l
set-got [] i x e = refl
set-got (y ∷ ys) zero x e = ap (λ z. z ∷ ys) (some-injective x y (sym e))
set-got (y ∷ ys) (suc i) x e = ap (λ l. y ∷ l) (set-got ys i x e)

within : {A : Type 0} (l : List A) (i : ℕ) (x : A) → get_elem? l i ≡ some x → suc i ≤ length l
within [] i x e = absurd (some-ne-none x (sym e))
within (y ∷ ys) zero x e = omega arith
within (y ∷ ys) (suc i) x e = let below = within ys i x e in omega (arith, below)

pub get-map : {A B : Type 0} (f : A → B) (l : List A) (i : ℕ) (a : A) → get_elem? l i ≡ some a → get_elem? (map f l) i ≡ some (f a)
get-map f [] i a e = absurd (some-ne-none a (sym e))
get-map f (x ∷ xs) zero a e = ap (λ y. some (f y)) (some-injective x a e)
get-map f (x ∷ xs) (suc i) a e = get-map f xs i a e

assoc : (xs ys zs : List Event) → (xs ++ ys) ++ zs ≡ xs ++ (ys ++ zs)
assoc [] ys zs = refl
assoc (x ∷ xs) ys zs = ap (λ l. x ∷ l) (assoc xs ys zs)

nothing-more : (l : List Event) → l ++ [] ≡ l
nothing-more [] = refl
nothing-more (x ∷ xs) = ap (λ l. x ∷ l) (nothing-more xs)

by-push : (k : ℕ) (events : List Event) (e : Event) → noted_by k (events ++ e ∷ []) ≡ noted_by k events ++ noted_by k (e ∷ [])
by-push k [] e = refl
by-push k (x ∷ xs) e = by_test (by-push k xs e) (is_noted_by k x)
  where
    by_test : noted_by k (xs ++ e ∷ []) ≡ noted_by k xs ++ noted_by k (e ∷ []) → (t : Bool)
        → (if t then x ∷ noted_by k (xs ++ e ∷ []) else noted_by k (xs ++ e ∷ [])) ≡ (if t then x ∷ noted_by k xs else noted_by k xs) ++ noted_by k (e ∷ [])
    by_test rest true = ap (λ l. x ∷ l) rest
    by_test rest false = rest

by-own : (k : ℕ) (events : List Event) (e : Event) → is_noted_by k e ≡ true → noted_by k (events ++ e ∷ []) ≡ noted_by k events ++ e ∷ []
by-own k events e is = by-push k events e ∙ ap (λ (t : Bool). noted_by k events ++ (if t then e ∷ [] else [])) is

by-other : (k : ℕ) (events : List Event) (e : Event) → is_noted_by k e ≡ false → noted_by k (events ++ e ∷ []) ≡ noted_by k events
by-other k events e off = by-push k events e ∙ ap (λ (t : Bool). noted_by k events ++ (if t then e ∷ [] else [])) off ∙ nothing-more (noted_by k events)

-- the seat after a step that it notes
abbrev pub watched_after : List Event → Event → Watched → View → Watched
watched_after events e x u = record { view = u; seen = events ++ e ∷ []; mine = x.mine ++ e ∷ [] }

-- one event of the seat id, which was not joined away
pub watch-step : (events : List Event) (seats : List Watched) (id : ℕ) (e : Event) (x : Watched) (u : View) → get_elem? seats id ≡ some x → ((k : ℕ) → is_noted_by k e ≡ nat_eq id k) → x.view ≢ Reader spent
    → Watches events seats → Watches (events ++ e ∷ []) (set seats id (watched_after events e x u))
watch-step events seats id e x u at seat there k = record {
  each = λ j v is. dite (ℕ_discrete j id)
      (λ same.
      let mine : v ≡ watched_after events e x u = some-injective v (watched_after events e x u) (sym is ∙ ap (get_elem? (set seats id (watched_after events e x u))) same ∙ set-same seats id (watched_after events e x u) x at) in
      subst (Fits (events ++ e ∷ []) j) (sym mine) (record {
        later = [];
        begins = sym (nothing-more (events ++ e ∷ []));
        own = λ open_seat. by-own j events e (seat j ∙ eq-eqb id j (sym same)) ∙ ap (λ (l : List Event). l ++ e ∷ []) (ap (λ (i : ℕ). noted_by i events) same ∙ (k.each id x at).own there);
      }))
      (λ ne.
      let old = k.each j v (sym (set-other seats id j (watched_after events e x u) ne) ∙ is) in
      record {
        later = old.later ++ e ∷ [];
        begins = ap (λ (l : List Event). l ++ e ∷ []) old.begins ∙ assoc v.seen old.later (e ∷ []);
        own = λ open_seat. by-other j events e (seat j ∙ ne_eqb id j (λ s. ne (sym s))) ∙ old.own open_seat;
      });
  none = λ j above.
      let long = length-set seats id (watched_after events e x u) in
      let below = within seats id x at in
      by-other j events e (seat j ∙ ne_eqb id j (λ far. absurd (omega (arith, above, long, below, far)))) ∙ k.none j (omega (arith, above, long));
}

-- an event that no seat notes leaves what each has
pub watch-quiet : (events : List Event) (seats : List Watched) (e : Event) → ((k : ℕ) → is_noted_by k e ≡ false) → Watches events seats → Watches (events ++ e ∷ []) seats
watch-quiet events seats e quiet k = record {
  each = λ j v is.
      let old = k.each j v is in
      record {
        later = old.later ++ e ∷ [];
        begins = ap (λ (l : List Event). l ++ e ∷ []) old.begins ∙ assoc v.seen old.later (e ∷ []);
        own = λ open_seat. by-other j events e (quiet j) ∙ old.own open_seat;
      };
  none = λ j above. by-other j events e (quiet j) ∙ k.none j above;
}

-- a seat becomes another one that fits, and there is a new seat
pub watch-set : (events : List Event) (seats : List Watched) (id : ℕ) (x y : Watched) → get_elem? seats id ≡ some x → Fits events id y → Watches events seats → Watches events (set seats id y)
watch-set events seats id x y at fits k = record {
  each = λ j v is. dite (ℕ_discrete j id)
      (λ same.
      let mine : y ≡ v = some-injective y v (sym (set-same seats id y x at) ∙ ap (get_elem? (set seats id y)) (sym same) ∙ is) in
      subst (λ (i : ℕ). Fits events i v) (sym same) (subst (Fits events id) mine fits))
      (λ ne. k.each j v (sym (set-other seats id j y ne) ∙ is));
  none = λ j above. let long = length-set seats id y in k.none j (omega (arith, above, long));
}

at-last : {A : Type 0} (l : List A) (y : A) (j : ℕ) (v : A) → get_elem? (l ++ y ∷ []) j ≡ some v → (get_elem? l j ≡ some v) ⊎ ((j ≡ length l) × (y ≡ v))
at-last [] y zero v e = inr (refl, some-injective y v e)
at-last [] y (suc j) v e = absurd (some-ne-none v (sym e))
at-last (x ∷ xs) y zero v e = inl e
at-last (x ∷ xs) y (suc j) v e = elim (at-last xs y j v e) [
  | inl at ↦ inl at
  | inr is ↦ inr (ap suc is.0, is.1)
]

length-more : {A : Type 0} (l : List A) (y : A) → length (l ++ y ∷ []) ≡ suc (length l)
length-more [] y = refl
length-more (x ∷ xs) y = ap suc (length-more xs y)

pub watch-more : (events : List Event) (seats : List Watched) (y : Watched) → Fits events (length seats) y → Watches events seats → Watches events (seats ++ y ∷ [])
watch-more events seats y fits k = record {
  each = λ j v is. elim (at-last seats y j v is) [
    | inl at ↦ k.each j v at
    | inr new ↦ subst (λ (i : ℕ). Fits events i v) (sym new.0) (subst (Fits events (length seats)) new.1 fits)
  ];
  none = λ j above. let long = length-more seats y in k.none j (omega (arith, above, long));
}
