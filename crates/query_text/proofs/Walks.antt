-- Where a machine comes to over a text, and where it stops.
use Rattle.std.proofs.Common.{◌≡◌, ◌<◌, ◌≤◌, ◌+◌, ℕ, suc, zero, List, [], ◌∷◌, ◌++◌, length, take, drop, Bool, true, false, cond, Option, Some, None, Ok, Err, refl, sym, ap, subst, ◌∙◌, add-one, append_assoc, arith}
use Rattle.std.specs.Option.{option_and_then, option_map}
use Rattle.std.proofs.Math.Seq.{take-length}
use Rattle.std.proofs.lemmas.List.{take-append-drop}
use Rattle.query_text.specs.Machine.{run_from, on_next}

-- the state after these bytes, where the machine goes on so; a step may look at its place
unfoldable pub through : {S : Type 0} → (S → ℕ → ℕ → Option S) → S → ℕ → List ℕ → Option S
through after state place [] = Some state
through after state place (byte ∷ rest) = option_and_then (λ next. through after next (place + 1) rest) (after state place byte)

-- the same of a machine whose steps look at no place
unfoldable pub walk : {F : Type 0} → (F → ℕ → Option F) → F → List ℕ → Option F
walk next form [] = Some form
walk next form (byte ∷ rest) = option_and_then (λ more. walk next more rest) (next form byte)

pub walk-append : {F : Type 0} (next : F → ℕ → Option F) (form : F) (xs ys : List ℕ)
    → walk next form (xs ++ ys) ≡ option_and_then (λ more. walk next more ys) (walk next form xs)
unfolding walk
walk-append next form [] ys = refl
walk-append next form (x ∷ xs) ys =
    elim (next form x) as (λ o. option_and_then (λ more. walk next more (xs ++ ys)) o
    ≡ option_and_then (λ more. walk next more ys) (option_and_then (λ more. walk next more xs) o))
    [ None ↦ refl | Some more ↦ walk-append next more xs ys ]

pub through-append : {S : Type 0} (after : S → ℕ → ℕ → Option S) (state : S) (place : ℕ) (xs ys : List ℕ)
    → through after state place (xs ++ ys) ≡ option_and_then (λ next. through after next (place + length xs) ys) (through after state place xs)
unfolding through
through-append after state place [] ys =
    let same : place ≡ place + 0 = omega arith in ap (λ p. through after state p ys) same
through-append after state place (x ∷ xs) ys =
    let same : (place + 1) + length xs ≡ place + suc (length xs) = omega arith in
    elim (after state place x) as (λ o. option_and_then (λ next. through after next (place + 1) (xs ++ ys)) o
    ≡ option_and_then (λ next. through after next (place + suc (length xs)) ys) (option_and_then (λ next. through after next (place + 1) xs) o)) [
      | None ↦ refl
      | Some next ↦ through-append after next (place + 1) xs ys
          ∙ ap (λ p. option_and_then (λ next. through after next p ys) (through after next (place + 1) xs)) same
    ]

-- a machine that stops
pub record Stopped {F : Type 0} (next : F → ℕ → Option F) (is_end : F → Bool) (form : F) (text : List ℕ) (n : ℕ) : Type 0 where
  pub within : n ≤ length text
  pub last : F
  pub reached : walk next form (take n text) ≡ Some last
  pub stops : n < length text → walk next form (take (suc n) text) ≡ None
  pub unfinished : n ≡ length text → is_end last ≡ false

-- a machine that is seen without its notes
pub record Shows {S F : Type 0} (after : S → ℕ → ℕ → Option S) (ends : S → Bool) (next : F → ℕ → Option F) (is_end : F → Bool) (form : S → F) : Type 0 where
  pub same : (s : S) (place byte : ℕ) → option_map form (after s place byte) ≡ next (form s) byte
  pub ended : (s : S) → ends s ≡ is_end (form s)

module _ {S F : Type 0} (after : S → ℕ → ℕ → Option S) (ends : S → Bool) (next : F → ℕ → Option F) (is_end : F → Bool) (form : S → F)
    (shows : Shows after ends next is_end form) where
  step_seen : (s : S) (place byte : ℕ) (rest : List ℕ) (o : Option S) → after s place byte ≡ o
      → walk next (form s) (byte ∷ rest) ≡ option_and_then (λ more. walk next more rest) (option_map form o)
  unfolding walk
  step_seen s place byte rest o is =
      ap (option_and_then (λ more. walk next more rest)) (sym (shows.same s place byte) ∙ ap (option_map form) is)

  pub accepted : (s last : S) (place : ℕ) (text : List ℕ) → run_from after ends s place text ≡ Ok last
      → (walk next (form s) text ≡ Some (form last)) × (is_end (form last) ≡ true)
  unfolding run_from walk
  accepted s last place [] e =
      (elim (ends s) as (λ b. ends s ≡ b → cond b (Ok s) (Err place) ≡ Ok last → (◌≡◌ {A = Option F} (Some (form s)) (Some (form last))) × (is_end (form last) ≡ true)) [
        | true ↦ λ w f. let same : s ≡ last = cc in (ap (λ x. Some (form x)) same, ap (λ x. is_end (form x)) (sym same) ∙ sym (shows.ended s) ∙ w)
        | false ↦ λ w f. absurd cc
      ]) refl e
  accepted s last place (byte ∷ rest) e =
      (elim (after s place byte) as (λ o. after s place byte ≡ o → on_next o (λ more. run_from after ends more (place + 1) rest) place ≡ Ok last
      → (walk next (form s) (byte ∷ rest) ≡ Some (form last)) × (is_end (form last) ≡ true)) [
        | None ↦ λ w f. absurd cc
        | Some more ↦ λ w f.
            let then : (walk next (form more) rest ≡ Some (form last)) × (is_end (form last) ≡ true) = accepted more last (place + 1) rest f in
            (step_seen s place byte rest (Some more) w ∙ then.0, then.1)
      ]) refl e

  pub refused : (s : S) (place stop : ℕ) (text : List ℕ) → run_from after ends s place text ≡ Err stop
      → (n : ℕ) × (stop ≡ place + n) × Stopped next is_end (form s) text n
  unfolding run_from walk
  refused s place stop [] e =
      (elim (ends s) as (λ b. ends s ≡ b → cond b (Ok s) (Err place) ≡ Err stop → (n : ℕ) × (stop ≡ place + n) × Stopped next is_end (form s) [] n) [
        | true ↦ λ w f. absurd cc
        | false ↦ λ w f.
            let same : place ≡ stop = cc in
            (0, omega arith, record { within = omega arith; last = form s; reached = refl; stops = λ h. absurd (omega arith); unfinished = λ _. sym (shows.ended s) ∙ w })
      ]) refl e
  refused s place stop (byte ∷ rest) e =
      (elim (after s place byte) as (λ o. after s place byte ≡ o → on_next o (λ more. run_from after ends more (place + 1) rest) place ≡ Err stop
      → (n : ℕ) × (stop ≡ place + n) × Stopped next is_end (form s) (byte ∷ rest) n) [
        | None ↦ λ w f.
            let same : place ≡ stop = cc in (
              0,
              omega arith,
              record {
                within = omega arith;
                last = form s;
                reached = refl;
                stops = λ h. step_seen s place byte [] None w;
                unfinished = λ h. absurd (omega arith);
              },
            )
        | Some more ↦ λ w f.
            let found : (n : ℕ) × (stop ≡ (place + 1) + n) × Stopped next is_end (form more) rest n = refused more (place + 1) stop rest f in
            let n = found.0 in
            let then = found.2 in (
              suc n,
              omega (arith, found.1),
              record {
                within = omega (arith, then.within);
                last = then.last;
                reached = step_seen s place byte (take n rest) (Some more) w ∙ then.reached;
                stops = λ h. step_seen s place byte (take (suc n) rest) (Some more) w ∙ then.stops (omega arith);
                unfinished = λ h. then.unfinished (omega arith);
              },
            )
      ]) refl e

  pub run_whole : (s last : S) (place : ℕ) (text : List ℕ) → through after s place text ≡ Some last → ends last ≡ true
      → run_from after ends s place text ≡ Ok last
  unfolding run_from through
  run_whole s last place [] e whole =
      let same : s ≡ last = cc in
      ap (λ x. cond (ends x) (Ok x) (Err place)) same ∙ ap (λ b. cond b (Ok last) (Err place)) whole
  run_whole s last place (byte ∷ rest) e whole =
      (elim (after s place byte) as (λ o. option_and_then (λ more. through after more (place + 1) rest) o ≡ Some last
      → on_next o (λ more. run_from after ends more (place + 1) rest) place ≡ Ok last) [
        | None ↦ λ f. absurd cc
        | Some more ↦ λ f. run_whole more last (place + 1) rest f whole
      ]) e

  pub walked : (s last : S) (place : ℕ) (text : List ℕ) → through after s place text ≡ Some last → walk next (form s) text ≡ Some (form last)
  unfolding through walk
  walked s last place [] e = let same : s ≡ last = cc in ap (λ x. Some (form x)) same
  walked s last place (byte ∷ rest) e =
      (elim (after s place byte) as (λ o. after s place byte ≡ o → option_and_then (λ more. through after more (place + 1) rest) o ≡ Some last
      → walk next (form s) (byte ∷ rest) ≡ Some (form last)) [
        | None ↦ λ w f. absurd cc
        | Some more ↦ λ w f. step_seen s place byte rest (Some more) w ∙ walked more last (place + 1) rest f
      ]) refl e

-- ---- texts of a language

-- the text is none of a language, and this is the first place where none goes on
pub record StopsIn (L : List ℕ → Type 0) (text : List ℕ) (place : ℕ) : Type 0 where
  pub within : place ≤ length text
  pub rest : List ℕ
  pub continues : L (take place text ++ rest)
  pub stops : place < length text → (rest : List ℕ) → L (take (place + 1) text ++ rest) → ⊥
  pub unfinished : place ≡ length text → L text → ⊥

-- a machine reads a language
pub record Reads {F : Type 0} (next : F → ℕ → Option F) (is_end : F → Bool) (form : F) (L : List ℕ → Type 0) : Type 0 where
  pub whole : (text : List ℕ) → L text → (last : F) × (walk next form text ≡ Some last) × (is_end last ≡ true)
  pub front : (text : List ℕ) (last : F) → walk next form text ≡ Some last → (rest : List ℕ) × L (text ++ rest)

some_same : {A : Type 0} (o : Option A) (a b : A) → o ≡ Some a → o ≡ Some b → a ≡ b
some_same {A = A} o a b first second =
    let same : ◌≡◌ {A = Option A} (Some a) (Some b) = sym first ∙ second in cc

no_front : {F : Type 0} (next : F → ℕ → Option F) (form last : F) (front rest : List ℕ) → walk next form front ≡ None
    → walk next form (front ++ rest) ≡ Some last → ⊥
no_front {F = F} next form last front rest none whole =
    let lost : ◌≡◌ {A = Option F} None (Some last) =
    sym (ap (option_and_then (λ more. walk next more rest)) none) ∙ sym (walk-append next form front rest) ∙ whole in
    cc

pub stops_in : {F : Type 0} (next : F → ℕ → Option F) (is_end : F → Bool) (form : F) (L : List ℕ → Type 0) (reads : Reads next is_end form L)
    (text : List ℕ) (n : ℕ) → Stopped next is_end form text n → StopsIn L text n
stops_in next is_end form L reads text n stopped =
    let goes : (rest : List ℕ) × L (take n text ++ rest) = reads.front (take n text) stopped.last stopped.reached in
    record {
      within = stopped.within;
      rest = goes.0;
      continues = goes.1;
      stops = λ inside rest is.
          let read = reads.whole (take (n + 1) text ++ rest) is in
          no_front next form read.0 (take (n + 1) text) rest (ap (λ k. walk next form (take k text)) (add-one n) ∙ stopped.stops inside) read.1;
      unfinished = λ all is.
          let read = reads.whole text is in
          let past : take n text ≡ text = ap (λ k. take k text) all ∙ take-length text in
          let same : stopped.last ≡ read.0 = some_same (walk next form text) stopped.last read.0 (ap (walk next form) (sym past) ∙ stopped.reached) read.1 in
          let whole : false ≡ true = sym (stopped.unfinished all) ∙ ap is_end same ∙ read.2 in
          cc;
    }

pub take_take : (m n : ℕ) (xs : List ℕ) → m ≤ n → take m (take n xs) ≡ take m xs
take_take zero n xs h = refl
take_take (suc m) zero xs h = absurd (omega arith)
take_take (suc m) (suc n) [] h = refl
take_take (suc m) (suc n) (x ∷ xs) h = ap (λ t. x ∷ t) (take_take m n xs (omega arith))

-- a shorter front of a text
pub shorter : (text : List ℕ) (m n : ℕ) (rest : List ℕ) → m ≤ n → take m text ++ (drop m (take n text) ++ rest) ≡ take n text ++ rest
shorter text m n rest short =
    ap (λ t. t ++ (drop m (take n text) ++ rest)) (sym (take_take m n text short))
    ∙ sym (append_assoc (take m (take n text)) (drop m (take n text)) rest)
    ∙ ap (λ t. t ++ rest) (take-append-drop m (take n text))

-- nothing of the language goes on past the place
pub none_past : (L : List ℕ → Type 0) (text : List ℕ) (place k : ℕ) (rest : List ℕ) → StopsIn L text place → place < k → place < length text
    → L (take k text ++ rest) → ⊥
none_past L text place k rest stop past inside is =
    stop.stops inside (drop (place + 1) (take k text) ++ rest) (subst L (sym (shorter text (place + 1) k rest (omega (arith, past)))) is)

pub none_whole : (L : List ℕ → Type 0) (text : List ℕ) (place : ℕ) → StopsIn L text place → place < length text → L text → ⊥
none_whole L text place stop inside is =
    stop.stops inside (drop (place + 1) text) (subst L (sym (take-append-drop (place + 1) text)) is)
