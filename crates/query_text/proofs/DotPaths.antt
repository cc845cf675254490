-- Where the survey of a dot product comes to over its text.
use Rattle.std.proofs.Common.{◌≡◌, ◌<◌, ◌+◌, ◌-◌, ◌*◌, ◌==◌, ◌&&◌, ◌||◌, ℕ, ℤ, pos, negsuc, List, [], ◌∷◌, ◌++◌, length, take, Bool, true, false, cond, eqb, not, nat_lt, nat_le, Option, Some, None, refl, sym, ap, ap₂}
use Rattle.std.proofs.Common.{subst, ◌∙◌, append_assoc, append-nil, codes, arith}
use Rattle.std.specs.Option.{option_and_then, option_map}
use Rattle.std.specs.List.{list_all}
use Rattle.std.proofs.Math.Bool.{and_assoc}
use Rattle.std.proofs.Math.Seq.{take-append_seam}
use Rattle.std.proofs.lemmas.Bool.{and_parts}
use Rattle.std.proofs.lemmas.Bool.Decides.{nat_tests}
use Rattle.attr_types.specs.declared.field.Field.{Field}
use Rattle.attr_types.specs.declared.kind.ValueType.{ValueType}
use Rattle.attr_types.specs.declared.kind.ValueType.TheVariants as types
use Rattle.attr_types.specs.declared.value.Value.{Value}
use Rattle.attr_types.specs.declared.value.Value.TheVariants as values
use Rattle.attr_types.specs.Fitting.{is_of_type}
use Rattle.attr_types.specs.declared.part.Part.{Part}
use Rattle.attr_types.specs.Names.{begins_name, continues_name, is_name, field_named}
use Rattle.query_text.specs.declared.mode.Role.{Role}
use Rattle.query_text.specs.declared.mode.Role.TheVariants as roles
use Rattle.query_text.specs.declared.mode.Spell.{Spell}
use Rattle.query_text.specs.declared.mode.Mode.{Mode}
use Rattle.query_text.specs.declared.mode.Mode.TheVariants as modes
use Rattle.query_text.specs.declared.dot.survey.DotMode.{DotMode}
use Rattle.query_text.specs.declared.dot.survey.DotMode.TheVariants as dots
use Rattle.query_text.specs.declared.dot.survey.DotSurvey.{DotSurvey}
use Rattle.query_text.specs.Grammar.{dot_product, number_text, value_text, name_text, part_text, parts_text, word_text, IsFormedName, field_of, is_in_range, fits_weight, parts_have_type, parts_in_range}
use Rattle.query_text.specs.Modes.{next_mode, is_digit, capped, leaf_begun, number_begun, value_begun, number_ended, quoted_next, spell_begun, spell_next}
use Rattle.query_text.specs.Survey.{is_right, is_in_size, ends_value}
use Rattle.query_text.specs.Dot.{dot_next, is_weight_size, dot_start, wanted_by, dot_entered, dot_after}
use Rattle.query_text.specs.Reading.{after_byte}
use Rattle.query_text.proofs.ReadBack.{value_first, number_first}
use Rattle.query_text.proofs.Walks.{through, through-append, walk}
use Rattle.query_text.proofs.Paths.{is_plain, Pace, pace_at, pace_to, pace_next, at_front, number_mode, value_mode, number_path, value_path, spell_over, spell_of, name_parts}
use Rattle.query_text.proofs.TreePaths.{named_taken}
use Rattle.query_text.proofs.DotFronts.{InNumber, InValue}

abbrev at : DotMode → Option ℕ → Bool → Bool → DotSurvey
at mode found right small = record { mode = mode; found = found; right = right; small = small }

abbrev run : List Field → List ℕ → DotSurvey → ℕ → List ℕ → Option DotSurvey
run fields text = through (dot_after fields text)

on : (fields : List Field) (text : List ℕ) (survey next : DotSurvey) (place : ℕ) (xs ys : List ℕ) (o : Option DotSurvey)
    → run fields text survey place xs ≡ Some next → run fields text next (place + length xs) ys ≡ o → run fields text survey place (xs ++ ys) ≡ o
on fields text survey next place xs ys o p q =
    through-append (dot_after fields text) survey place xs ys
    ∙ ap (option_and_then (λ next. run fields text next (place + length xs) ys)) p ∙ q

byte_through : (fields : List Field) (text : List ℕ) (survey : DotSurvey) (place byte : ℕ) (mode : DotMode) → dot_next survey.mode byte ≡ Some mode
    → run fields text survey place (byte ∷ []) ≡ Some (dot_entered fields text survey place mode)
unfolding through
byte_through fields text survey place byte mode next =
    ap (λ o. option_and_then (λ next. run fields text next (place + 1) []) (option_map (dot_entered fields text survey place) o)) next

-- ---- a name and `dot(`

letter_next : (spell : Spell) (c : ℕ) → continues_name c ≡ true → dot_next (dots.Name spell) c ≡ Some (dots.Name (spell_next spell c))
unfolding dot_next
letter_next spell c goes = rw goes refl

letters_through : (fields : List Field) (text : List ℕ) (spell : Spell) (cs : List ℕ) (place : ℕ) → list_all continues_name cs ≡ true
    → run fields text (at (dots.Name spell) (Some 0) true true) place cs ≡ Some (at (dots.Name (spell_over spell cs)) (Some 0) true true)
unfolding through
letters_through fields text spell [] place all = refl
letters_through fields text spell (c ∷ cs) place all =
    let parts = and_parts (continues_name c) (list_all continues_name cs) all in
    ap (λ o. option_and_then (λ next. run fields text next (place + 1) cs) (option_map (dot_entered fields text (at (dots.Name spell) (Some 0) true true) place) o))
    (letter_next spell c parts.0)
    ∙ letters_through fields text (spell_next spell c) cs (place + 1) parts.1

first_next : (c : ℕ) → begins_name c ≡ true → dot_next dots.Front c ≡ Some (dots.Name (spell_begun c))
unfolding dot_next
first_next c begins = rw begins refl

name_through : (fields : List Field) (text name : List ℕ) → is_name name ≡ true
    → run fields text dot_start 0 name ≡ Some (at (dots.Name (spell_of name)) (Some 0) true true)
unfolding through
name_through fields text [] is = absurd cc
name_through fields text (c ∷ cs) is =
    let parts = name_parts c cs is in
    ap (λ o. option_and_then (λ next. run fields text next (0 + 1) cs) (option_map (dot_entered fields text dot_start 0) o)) (first_next c parts.0)
    ∙ letters_through fields text (spell_begun c) cs (0 + 1) parts.1

colon_next : (spell : Spell) → dot_next (dots.Name spell) 58 ≡ Some dots.Named
unfolding dot_next
colon_next spell = refl

dot_letters : (fields : List Field) (text : List ℕ) (found : Option ℕ) (place : ℕ)
    → run fields text (at dots.Named found true true) place (codes "dot(") ≡ Some (at dots.Part found true true)
unfolding through dot_next
dot_letters fields text found place = refl

plain_letters : (fields : List Field) (text : List ℕ) → run fields text dot_start 0 (codes "dot(") ≡ Some (at dots.Part (Some 0) true true)
unfolding through dot_next
plain_letters fields text = refl

head_through : (fields : List Field) (name : Option (List ℕ)) (rest : List ℕ) → IsFormedName name
    → run fields ((name_text name ++ codes "dot(") ++ rest) dot_start 0 (name_text name ++ codes "dot(") ≡ Some (at dots.Part (field_of fields name) true true)
head_through fields None rest formed = plain_letters fields (codes "dot(" ++ rest)
head_through fields (Some name) rest formed =
    let text = ((name ++ codes ":") ++ codes "dot(") ++ rest in
    let place : 0 + length name ≡ length name = omega arith in
    let whole : text ≡ name ++ (codes ":" ++ (codes "dot(" ++ rest)) = simp append_assoc in
    let before : take (0 + length name) text ≡ name =
    ap₂ (λ n t. take n t) place whole ∙ take-append_seam name (codes ":" ++ (codes "dot(" ++ rest)) in
    on fields text dot_start (at dots.Named (field_named fields name) true true) 0 (name ++ codes ":") (codes "dot(") _
    (on fields text dot_start (at (dots.Name (spell_of name)) (Some 0) true true) 0 name (codes ":") _ (name_through fields text name formed)
    (byte_through fields text (at (dots.Name (spell_of name)) (Some 0) true true) (0 + length name) 58 dots.Named (colon_next (spell_of name))
    ∙ (λ i. Some (at dots.Named (field_named fields (before i)) true true))))
    (dot_letters fields text (field_named fields name) (0 + length (name ++ codes ":")))

-- ---- a value and a weight, lifted from the paths of the machine of queries

is_over : Mode → Bool
is_over modes.Ended = true
is_over _ = false

and_one : (b : Bool) → (b && true) ≡ b
and_one true = refl
and_one false = refl

-- where a mode of a value or a number stands in the machine of dot products
record Stands (fields : List Field) (text : List ℕ) (wanted : ValueType) (In : Mode → Type 0) (state : Mode → Bool → Bool → DotSurvey) : Type 0 where
  kept : (mode : Mode) (byte : ℕ) (to : Mode) → In mode → next_mode false mode byte ≡ Some to
      → ((to ≡ modes.Ended) → ⊥) → In to × (dot_next (state mode true true).mode byte ≡ Some (state to true true).mode)
  same : (mode to : Mode) (right small : Bool) (place : ℕ) → In mode → In to
      → dot_entered fields text (state mode right small) place (state to true true).mode
      ≡ state to (right && is_right wanted to) (small && is_in_size to)
  mode_same : (mode : Mode) (right small : Bool) → (state mode right small).mode ≡ (state mode true true).mode
  not_over : In modes.Ended → ⊥

over_ends : (wanted : ValueType) (r s : Bool) (bytes : List ℕ) (last : Pace) → walk (pace_next wanted false) (pace_at modes.Ended r s) bytes ≡ Some last → last.mode ≡ modes.Ended
unfolding walk next_mode
over_ends wanted r s [] last e = let same : pace_at modes.Ended r s ≡ last = cc in sym (ap (λ (p : Pace). p.mode) same)
over_ends wanted r s (byte ∷ bytes) last e = absurd cc

ended_or : (mode : Mode) (test : Bool) → is_over mode ≡ test → (test ≡ false → (mode ≡ modes.Ended) → ⊥)
unfolding is_over
ended_or mode test is past same = let both : true ≡ false = sym (ap is_over same) ∙ is ∙ past in cc

over_is : (mode : Mode) → is_over mode ≡ true → mode ≡ modes.Ended
unfolding is_over
over_is modes.Ended h = refl
over_is modes.Start h = absurd cc
over_is modes.Opened h = absurd cc
over_is (modes.Name spell) h = absurd cc
over_is modes.Named h = absurd cc
over_is modes.Bound h = absurd cc
over_is modes.Low h = absurd cc
over_is modes.High h = absurd cc
over_is modes.HighNumber h = absurd cc
over_is modes.HighText h = absurd cc
over_is (modes.Minus role) h = absurd cc
over_is (modes.Number role negative size) h = absurd cc
over_is (modes.Text role len) h = absurd cc
over_is (modes.Escape role len) h = absurd cc
over_is (modes.Quoted role) h = absurd cc
over_is modes.Closed h = absurd cc

lifted : (fields : List Field) (text : List ℕ) (wanted : ValueType) (In : Mode → Type 0) (state : Mode → Bool → Bool → DotSurvey)
    → Stands fields text wanted In state → (bytes : List ℕ) (mode : Mode) (r s : Bool) (place : ℕ) (last : Pace) → In mode → In last.mode
    → walk (pace_next wanted false) (pace_at mode r s) bytes ≡ Some last
    → run fields text (state mode r s) place bytes ≡ Some (state last.mode last.right last.small)
unfolding walk through
lifted fields text wanted In state stands [] mode r s place last inside ends e =
    let same : pace_at mode r s ≡ last = cc in ap (λ (p : Pace). Some (state p.mode p.right p.small)) same
lifted fields text wanted In state stands (byte ∷ bytes) mode r s place last inside ends e =
    (elim (next_mode false mode byte) as (λ o. next_mode false mode byte ≡ o
    → option_and_then (λ more. walk (pace_next wanted false) more bytes) (option_and_then (pace_to wanted (pace_at mode r s)) o) ≡ Some last
    → option_and_then (λ next. run fields text next (place + 1) bytes)
    (option_map (dot_entered fields text (state mode r s) place) (dot_next (state mode r s).mode byte)) ≡ Some (state last.mode last.right last.small)) [
      | None ↦ λ n f. absurd cc
      | Some to ↦ λ n f. decided to n f (λ into g. lifted fields text wanted In state stands bytes to (r && is_right wanted to) (s && is_in_size to) (place + 1) last into ends g)
          (is_plain to) refl (is_over to) refl
    ]) refl e
  where
    decided : (to : Mode) → next_mode false mode byte ≡ Some to
        → option_and_then (λ more. walk (pace_next wanted false) more bytes)
        (cond (is_plain to) (Some (pace_at to (r && is_right wanted to) (s && is_in_size to))) None) ≡ Some last
        → (In to → walk (pace_next wanted false) (pace_at to (r && is_right wanted to) (s && is_in_size to)) bytes ≡ Some last
        → run fields text (state to (r && is_right wanted to) (s && is_in_size to)) (place + 1) bytes ≡ Some (state last.mode last.right last.small))
        → (plain : Bool) → is_plain to ≡ plain → (over : Bool) → is_over to ≡ over
        → option_and_then (λ next. run fields text next (place + 1) bytes)
        (option_map (dot_entered fields text (state mode r s) place) (dot_next (state mode r s).mode byte)) ≡ Some (state last.mode last.right last.small)
    decided to n f again false is over is' =
        let none : option_and_then (λ more. walk (pace_next wanted false) more bytes) None ≡ Some last =
        sym (ap (λ b. option_and_then (λ more. walk (pace_next wanted false) more bytes)
        (cond b (Some (pace_at to (r && is_right wanted to) (s && is_in_size to))) None)) is) ∙ f in
        absurd cc
    decided to n f again true is over is' =
        let here : walk (pace_next wanted false) (pace_at to (r && is_right wanted to) (s && is_in_size to)) bytes ≡ Some last =
        sym (ap (λ b. option_and_then (λ more. walk (pace_next wanted false) more bytes)
        (cond b (Some (pace_at to (r && is_right wanted to) (s && is_in_size to))) None)) is) ∙ f in
        goes over is' here
      where
        goes : (over : Bool) → is_over to ≡ over → walk (pace_next wanted false) (pace_at to (r && is_right wanted to) (s && is_in_size to)) bytes ≡ Some last
            → option_and_then (λ next. run fields text next (place + 1) bytes)
            (option_map (dot_entered fields text (state mode r s) place) (dot_next (state mode r s).mode byte)) ≡ Some (state last.mode last.right last.small)
        goes true is'' here =
            let ended : last.mode ≡ modes.Ended =
            over_ends wanted (r && is_right wanted to) (s && is_in_size to) bytes last
            (subst (λ m. walk (pace_next wanted false) (pace_at m (r && is_right wanted to) (s && is_in_size to)) bytes ≡ Some last) (over_is to is'') here) in
            absurd (stands.not_over (subst In ended ends))
        goes false is'' here =
            let kept = stands.kept mode byte to inside n (ended_or to false is'' refl) in
            ap (λ m. option_and_then (λ next. run fields text next (place + 1) bytes) (option_map (dot_entered fields text (state mode r s) place) (dot_next m byte)))
            (stands.mode_same mode r s)
            ∙ ap (λ o. option_and_then (λ next. run fields text next (place + 1) bytes) (option_map (dot_entered fields text (state mode r s) place) o)) kept.1
            ∙ ap (λ x. run fields text x (place + 1) bytes) (stands.same mode to r s place inside kept.0)
            ∙ again kept.0 here

-- a mode that a value or a number goes on to
minus_kept : (P : Mode → Type 0) (role : Role) (byte : ℕ) (to : Mode) → ((n : ℕ) → P (modes.Number role true n)) → next_mode false (modes.Minus role) byte ≡ Some to → P to
unfolding next_mode
minus_kept P role byte to number e =
    (elim (nat_le 49 byte && nat_le byte 57) as (λ b. cond b (Some (modes.Number role true (byte - 48))) None ≡ Some to → P to) [
      | true ↦ λ f. let same : modes.Number role true (byte - 48) ≡ to = cc in subst P same (number (byte - 48))
      | false ↦ λ f. absurd cc
    ]) e

digit_kept : (P : Mode → Type 0) (role : Role) (negative : Bool) (size byte : ℕ) (to : Mode) → role ≡ roles.Alone → ((n : ℕ) → P (modes.Number role negative n))
    → next_mode false (modes.Number role negative size) byte ≡ Some to → P to × (is_digit byte ≡ true)
unfolding next_mode
digit_kept P role negative size byte to by_itself number e =
    (elim (is_digit byte) as (λ d. (◌≡◌ {A = Option Mode} (cond (d && not (size == 0)) (Some (modes.Number role negative (capped (capped (size * 10) + (byte - 48))))) (number_ended false role byte)) (Some to))
    → P to × (d ≡ true)) [
      | true ↦ λ f. (sized (not (size == 0)) f, refl)
      | false ↦ λ f. absurd (let lost : None ≡ Some to = ap (λ r. number_ended false r byte) (sym by_itself) ∙ f in cc)
    ]) e
  where
    sized : (b : Bool) → (◌≡◌ {A = Option Mode} (cond b (Some (modes.Number role negative (capped (capped (size * 10) + (byte - 48))))) (number_ended false role byte)) (Some to)) → P to
    sized true f = let same : modes.Number role negative (capped (capped (size * 10) + (byte - 48))) ≡ to = cc in subst P same (number _)
    sized false f = absurd (let lost : None ≡ Some to = ap (λ r. number_ended false r byte) (sym by_itself) ∙ f in cc)

and_no : (a : Bool) → (a && false) ≡ false
and_no true = refl
and_no false = refl

no_byte : (byte wanted : ℕ) → is_digit byte ≡ true → nat_lt 57 wanted ≡ true → eqb byte wanted ≡ false
no_byte byte wanted digit above = grind (arith, nat_tests)

no_low_byte : (byte wanted : ℕ) → is_digit byte ≡ true → nat_lt wanted 48 ≡ true → eqb byte wanted ≡ false
no_low_byte byte wanted digit below = grind (arith, nat_tests)

text_kept : (role : Role) (len next : ℕ) (a b : Bool) → role ≡ roles.Alone → InValue (cond a (modes.Quoted role) (cond b (modes.Escape role len) (modes.Text role next)))
text_kept role len next true b by_itself = by_itself
text_kept role len next false true by_itself = by_itself
text_kept role len next false false by_itself = by_itself

some_of : {A : Type 0} (a b : A) → (◌≡◌ {A = Option A} (Some a) (Some b)) → a ≡ b
some_of a b e = cc

value_kept : (mode : Mode) (byte : ℕ) (to : Mode) → InValue mode → next_mode false mode byte ≡ Some to → ((to ≡ modes.Ended) → ⊥)
    → InValue to × (dot_next (dots.Value mode) byte ≡ Some (dots.Value to))
unfolding next_mode dot_next
value_kept (modes.Minus role) byte to inside e on = (minus_kept InValue role byte to (λ n. inside) e, ap (option_map dots.Value) e)
value_kept (modes.Number role negative size) byte to inside e on =
    let kept = digit_kept InValue role negative size byte to inside (λ n. inside) e in (
      kept.0,
      ap (λ b. cond (ends_value role && b) (Some dots.Colon) (option_map dots.Value (next_mode false (modes.Number role negative size) byte))) (no_byte byte 58 kept.1 refl)
          ∙ ap (λ b. cond b (Some dots.Colon) (option_map dots.Value (next_mode false (modes.Number role negative size) byte))) (and_no (ends_value role))
          ∙ ap (option_map dots.Value) e,
    )
value_kept (modes.Text role len) byte to inside e on = (
  subst InValue (some_of _ to e) (text_kept role len (capped (len + 1)) (byte == 34) (byte == 92) inside),
  ap (option_map dots.Value) e,
)
value_kept (modes.Escape role len) byte to inside e on = (escaped ((byte == 34) || (byte == 92)) e, ap (option_map dots.Value) e)
  where
    escaped : (b : Bool) → (◌≡◌ {A = Option Mode} (cond b (Some (modes.Text role (capped (len + 1)))) None) (Some to)) → InValue to
    escaped true f = subst InValue (some_of _ to f) inside
    escaped false f = absurd cc
value_kept (modes.Quoted role) byte to inside e on =
    absurd (over (byte == 42) (ap (λ r. quoted_next false r byte) (sym inside) ∙ e))
  where
    over : (b : Bool) → (◌≡◌ {A = Option Mode} (cond b (Some modes.Ended) None) (Some to)) → ⊥
    over true f = on (sym (some_of _ to f))
    over false f = cc
value_kept modes.Start byte to inside e on = absurd inside
value_kept modes.Opened byte to inside e on = absurd inside
value_kept (modes.Name spell) byte to inside e on = absurd inside
value_kept modes.Named byte to inside e on = absurd inside
value_kept modes.Bound byte to inside e on = absurd inside
value_kept modes.Low byte to inside e on = absurd inside
value_kept modes.High byte to inside e on = absurd inside
value_kept modes.HighNumber byte to inside e on = absurd inside
value_kept modes.HighText byte to inside e on = absurd inside
value_kept modes.Ended byte to inside e on = absurd inside
value_kept modes.Closed byte to inside e on = absurd inside

number_kept : (mode : Mode) (byte : ℕ) (to : Mode) → InNumber mode → next_mode false mode byte ≡ Some to
    → InNumber to × (dot_next (dots.Weight mode) byte ≡ Some (dots.Weight to))
unfolding next_mode dot_next
number_kept (modes.Minus role) byte to inside e = (minus_kept InNumber role byte to (λ n. inside) e, ap (option_map dots.Weight) e)
number_kept (modes.Number role negative size) byte to inside e =
    let kept = digit_kept InNumber role negative size byte to inside (λ n. inside) e in
    let more = option_map dots.Weight (next_mode false (modes.Number role negative size) byte) in (
      kept.0,
      ap₂ (λ b c. cond (ends_value role && b) (Some dots.Part) (cond (ends_value role && c) (Some dots.Ended) more)) (no_low_byte byte 44 kept.1 refl) (no_low_byte byte 41 kept.1 refl)
          ∙ ap (λ b. cond b (Some dots.Part) (cond b (Some dots.Ended) more)) (and_no (ends_value role))
          ∙ ap (option_map dots.Weight) e,
    )
number_kept (modes.Text role len) byte to inside e = absurd inside
number_kept (modes.Escape role len) byte to inside e = absurd inside
number_kept (modes.Quoted role) byte to inside e = absurd inside
number_kept modes.Start byte to inside e = absurd inside
number_kept modes.Opened byte to inside e = absurd inside
number_kept (modes.Name spell) byte to inside e = absurd inside
number_kept modes.Named byte to inside e = absurd inside
number_kept modes.Bound byte to inside e = absurd inside
number_kept modes.Low byte to inside e = absurd inside
number_kept modes.High byte to inside e = absurd inside
number_kept modes.HighNumber byte to inside e = absurd inside
number_kept modes.HighText byte to inside e = absurd inside
number_kept modes.Ended byte to inside e = absurd inside
number_kept modes.Closed byte to inside e = absurd inside

abbrev value_state : Option ℕ → Mode → Bool → Bool → DotSurvey
value_state found mode right small = at (dots.Value mode) found right small

-- a weight leaves what was right and small so far
abbrev weight_state : Option ℕ → Bool → Bool → Mode → Bool → Bool → DotSurvey
weight_state found right small mode r s = at (dots.Weight mode) found right small

value_stands : (fields : List Field) (text : List ℕ) (found : Option ℕ) → Stands fields text (wanted_by fields found) InValue (value_state found)
value_stands fields text found = record {
  kept = value_kept;
  same = λ mode to right small place inside into. λ i. at (dots.Value to) found (right && is_right (wanted_by fields found) to) (small && and_one (is_in_size to) i);
  mode_same = λ mode right small. refl;
  not_over = λ inside. inside;
}

weight_stands : (fields : List Field) (text : List ℕ) (found : Option ℕ) (wanted : ValueType) (right small : Bool)
    → Stands fields text wanted InNumber (weight_state found right small)
weight_stands fields text found wanted right small = record {
  kept = λ mode byte to inside e on. number_kept mode byte to inside e;
  same = λ mode to r s place inside into. λ i. at (dots.Weight to) found (and_one right i) (and_one small i);
  mode_same = λ mode r s. refl;
  not_over = λ inside. inside;
}

-- the first byte
record Enters (fields : List Field) (text : List ℕ) (wanted : ValueType) (In : Mode → Type 0) (state : Mode → Bool → Bool → DotSurvey)
    (begin : DotSurvey) (byte : ℕ) (r s : Bool) (place : ℕ) (to : Mode) : Type 0 where
  into : In to
  next : dot_next begin.mode byte ≡ Some (state to true true).mode
  same : dot_entered fields text begin place (state to true true).mode ≡ state to (r && is_right wanted to) (s && is_in_size to)
  plain : is_plain to ≡ true

first_lifted : (fields : List Field) (text : List ℕ) (wanted : ValueType) (In : Mode → Type 0) (state : Mode → Bool → Bool → DotSurvey)
    → Stands fields text wanted In state → (begin : DotSurvey) (byte : ℕ) (rest : List ℕ) (r s : Bool) (place : ℕ) (last : Pace)
    → ((to : Mode) → leaf_begun byte ≡ Some to → Enters fields text wanted In state begin byte r s place to) → In last.mode
    → walk (pace_next wanted false) (pace_at modes.Named r s) (byte ∷ rest) ≡ Some last
    → run fields text begin place (byte ∷ rest) ≡ Some (state last.mode last.right last.small)
unfolding walk through next_mode
first_lifted fields text wanted In state stands begin byte rest r s place last enters ends e =
    (elim (leaf_begun byte) as (λ o. leaf_begun byte ≡ o
    → option_and_then (λ more. walk (pace_next wanted false) more rest) (option_and_then (pace_to wanted (pace_at modes.Named r s)) o) ≡ Some last
    → option_and_then (λ next. run fields text next (place + 1) rest)
    (option_map (dot_entered fields text begin place) (dot_next begin.mode byte)) ≡ Some (state last.mode last.right last.small)) [
      | None ↦ λ n f. absurd cc
      | Some to ↦ λ n f.
          let here = enters to n in
          ap (λ o. option_and_then (λ next. run fields text next (place + 1) rest) (option_map (dot_entered fields text begin place) o)) here.next
          ∙ ap (λ x. run fields text x (place + 1) rest) here.same
          ∙ lifted fields text wanted In state stands rest to (r && is_right wanted to) (s && is_in_size to) (place + 1) last here.into ends
          (sym (ap (λ b. option_and_then (λ more. walk (pace_next wanted false) more rest)
          (cond b (Some (pace_at to (r && is_right wanted to) (s && is_in_size to))) None)) here.plain) ∙ f)
    ]) refl e

not_first : (wanted byte : ℕ) (rest : List ℕ) → after_byte wanted (byte ∷ rest) ≡ None → eqb byte wanted ≡ false
not_first wanted byte rest none =
    (elim (eqb byte wanted) as (λ b. (◌≡◌ {A = Option (List ℕ)} (cond b (Some rest) None) None) → b ≡ false) [ true ↦ λ f. absurd cc | false ↦ λ f. refl ]) none

number_begun_in : (P : Mode → Type 0) → P (modes.Minus roles.Alone) → ((n : ℕ) → P (modes.Number roles.Alone false n)) → (byte : ℕ) (to : Mode)
    → number_begun roles.Alone byte ≡ Some to → P to × (is_plain to ≡ true)
number_begun_in P minus number byte to e = begun (byte == 45) (is_digit byte) e
  where
    begun : (a b : Bool) → (◌≡◌ {A = Option Mode} (cond a (Some (modes.Minus roles.Alone)) (cond b (Some (modes.Number roles.Alone false (byte - 48))) None)) (Some to))
        → P to × (is_plain to ≡ true)
    begun true b f = (subst P (some_of _ to f) minus, ap is_plain (sym (some_of _ to f)))
    begun false true f = (subst P (some_of _ to f) (number (byte - 48)), ap is_plain (sym (some_of _ to f)))
    begun false false f = absurd cc

value_begun_in : (byte : ℕ) (to : Mode) → value_begun roles.Alone byte ≡ Some to → InValue to × (is_plain to ≡ true)
value_begun_in byte to e = begun (byte == 34) e
  where
    begun : (a : Bool) → (◌≡◌ {A = Option Mode} (cond a (Some (modes.Text roles.Alone 0)) (number_begun roles.Alone byte)) (Some to)) → InValue to × (is_plain to ≡ true)
    begun true f = (subst InValue (some_of _ to f) refl, ap is_plain (sym (some_of _ to f)))
    begun false f = number_begun_in InValue refl (λ n. refl) byte to f

leaf_value : (byte : ℕ) → eqb byte 91 ≡ false → eqb byte 60 ≡ false → eqb byte 62 ≡ false → leaf_begun byte ≡ value_begun roles.Alone byte
leaf_value byte a b c =
    ap (λ x. cond x (Some modes.Low) (cond ((byte == 60) || (byte == 62)) (Some modes.Bound) (value_begun roles.Alone byte))) a
    ∙ ap₂ (λ x y. cond (x || y) (Some modes.Bound) (value_begun roles.Alone byte)) b c

value_first_next : (byte : ℕ) (to : Mode) → value_begun roles.Alone byte ≡ Some to → dot_next dots.Part byte ≡ Some (dots.Value to)
unfolding dot_next
value_first_next byte to e = ap (option_map dots.Value) e

weight_first_next : (byte : ℕ) (to : Mode) → number_begun roles.Alone byte ≡ Some to → dot_next dots.Colon byte ≡ Some (dots.Weight to)
unfolding dot_next
weight_first_next byte to e = ap (option_map dots.Weight) e

value_in : (v : Value) → InValue (value_mode roles.Alone v)
value_in (values.Long (pos n)) = refl
value_in (values.Long (negsuc n)) = refl
value_in (values.Text bytes) = refl

number_in : (z : ℤ) → InNumber (number_mode roles.Alone z)
number_in (pos n) = refl
number_in (negsuc n) = refl

value_through : (fields : List Field) (text : List ℕ) (found : Option ℕ) (r s : Bool) (place : ℕ) (v : Value)
    → run fields text (at dots.Part found r s) place (value_text v)
    ≡ Some (at (dots.Value (value_mode roles.Alone v)) found (r && is_of_type (wanted_by fields found) v) (s && is_in_range v))
unfolding walk
value_through fields text found r s place v =
    here (value_text v) (not_here 91 refl refl refl) (not_here 60 refl refl refl) (not_here 62 refl refl refl)
    (value_path (wanted_by fields found) modes.Named roles.Alone v (at_front modes.Named named_taken v) false r s)
  where
    not_here : (wanted : ℕ) → is_digit wanted ≡ false → eqb 45 wanted ≡ false → eqb 34 wanted ≡ false → after_byte wanted (value_text v) ≡ None
    not_here wanted a b c = ap (after_byte wanted) (sym (append-nil (value_text v))) ∙ value_first wanted v [] a b c

    here : (bytes : List ℕ) → after_byte 91 bytes ≡ None → after_byte 60 bytes ≡ None → after_byte 62 bytes ≡ None
        → walk (pace_next (wanted_by fields found) false) (pace_at modes.Named r s) bytes
        ≡ Some (pace_at (value_mode roles.Alone v) (r && is_of_type (wanted_by fields found) v) (s && is_in_range v))
        → run fields text (at dots.Part found r s) place bytes
        ≡ Some (at (dots.Value (value_mode roles.Alone v)) found (r && is_of_type (wanted_by fields found) v) (s && is_in_range v))
    here [] a b c e =
        absurd (subst InValue (ap (λ (p : Pace). p.mode) (sym (some_of _ _ e))) (value_in v))
    here (byte ∷ rest) a b c e =
        first_lifted fields text (wanted_by fields found) InValue (value_state found) (value_stands fields text found) (at dots.Part found r s) byte rest r s place
        (pace_at (value_mode roles.Alone v) (r && is_of_type (wanted_by fields found) v) (s && is_in_range v))
        (λ to n.
        let begun = sym (leaf_value byte (not_first 91 byte rest a) (not_first 60 byte rest b) (not_first 62 byte rest c)) ∙ n in
        let in_value = value_begun_in byte to begun in
        record {
          into = in_value.0;
          next = value_first_next byte to begun;
          same = λ i. at (dots.Value to) found (r && is_right (wanted_by fields found) to) (s && and_one (is_in_size to) i);
          plain = in_value.1;
        }) (value_in v) e

weight_through : (fields : List Field) (text : List ℕ) (found : Option ℕ) (right small : Bool) (place : ℕ) (z : ℤ)
    → run fields text (at dots.Colon found right small) place (number_text z) ≡ Some (at (dots.Weight (number_mode roles.Alone z)) found right small)
unfolding walk
weight_through fields text found right small place z =
    here (number_text z) (not_here 91 refl refl refl) (not_here 60 refl refl refl) (not_here 62 refl refl refl) quote
    (number_path types.Long modes.Named roles.Alone (at_front modes.Named named_taken (values.Long z)) z false true true)
  where
    not_here : (wanted : ℕ) → is_digit wanted ≡ false → eqb 45 wanted ≡ false → eqb 34 wanted ≡ false → after_byte wanted (number_text z) ≡ None
    not_here wanted a b c = ap (after_byte wanted) (sym (append-nil (number_text z))) ∙ value_first wanted (values.Long z) [] a b c

    quote : after_byte 34 (number_text z) ≡ None
    quote = ap (after_byte 34) (sym (append-nil (number_text z))) ∙ number_first z []

    here : (bytes : List ℕ) → after_byte 91 bytes ≡ None → after_byte 60 bytes ≡ None → after_byte 62 bytes ≡ None → after_byte 34 bytes ≡ None
        → walk (pace_next types.Long false) (pace_at modes.Named true true) bytes
        ≡ Some (pace_at (number_mode roles.Alone z) (true && is_of_type types.Long (values.Long z)) (true && is_in_range (values.Long z)))
        → run fields text (at dots.Colon found right small) place bytes ≡ Some (at (dots.Weight (number_mode roles.Alone z)) found right small)
    here [] a b c d e =
        absurd (subst InNumber (ap (λ (p : Pace). p.mode) (sym (some_of _ _ e))) (number_in z))
    here (byte ∷ rest) a b c d e =
        first_lifted fields text types.Long InNumber (weight_state found right small) (weight_stands fields text found types.Long right small)
        (at dots.Colon found right small) byte rest true true place
        (pace_at (number_mode roles.Alone z) (true && is_of_type types.Long (values.Long z)) (true && is_in_range (values.Long z)))
        (λ to n.
        let begun = ap (λ x. cond x (Some (modes.Text roles.Alone 0)) (number_begun roles.Alone byte)) (sym (not_first 34 byte rest d))
        ∙ sym (leaf_value byte (not_first 91 byte rest a) (not_first 60 byte rest b) (not_first 62 byte rest c)) ∙ n in
        let in_number = number_begun_in InNumber refl (λ n. refl) byte to begun in
        record {
          into = in_number.0;
          next = weight_first_next byte to begun;
          same = λ i. at (dots.Weight to) found (and_one right i) (and_one small i);
          plain = in_number.1;
        }) (number_in z) e

-- ---- parts

value_colon : (v : Value) → dot_next (dots.Value (value_mode roles.Alone v)) 58 ≡ Some dots.Colon
unfolding dot_next
value_colon (values.Long (pos n)) = refl
value_colon (values.Long (negsuc n)) = refl
value_colon (values.Text bytes) = refl

weight_comma : (z : ℤ) → dot_next (dots.Weight (number_mode roles.Alone z)) 44 ≡ Some dots.Part
unfolding dot_next
weight_comma (pos n) = refl
weight_comma (negsuc n) = refl

weight_bracket : (z : ℤ) → dot_next (dots.Weight (number_mode roles.Alone z)) 41 ≡ Some dots.Ended
unfolding dot_next
weight_bracket (pos n) = refl
weight_bracket (negsuc n) = refl

weight_size : (z : ℤ) → is_weight_size (number_mode roles.Alone z) ≡ fits_weight z
weight_size (pos n) = grind (arith, nat_tests)
weight_size (negsuc n) = grind (arith, nat_tests)

part_through : (fields : List Field) (text : List ℕ) (found : Option ℕ) (r s : Bool) (place : ℕ) (part : Part)
    → run fields text (at dots.Part found r s) place (part_text part)
    ≡ Some (at (dots.Weight (number_mode roles.Alone part.weight)) found (r && is_of_type (wanted_by fields found) part.value) (s && is_in_range part.value))
part_through fields text found r s place part =
    let right = r && is_of_type (wanted_by fields found) part.value in
    let small = s && is_in_range part.value in
    on fields text (at dots.Part found r s) (at dots.Colon found right small) place (value_text part.value ++ codes ":") (number_text part.weight) _
    (on fields text (at dots.Part found r s) (at (dots.Value (value_mode roles.Alone part.value)) found right small) place (value_text part.value) (codes ":") _
    (value_through fields text found r s place part.value)
    (byte_through fields text (at (dots.Value (value_mode roles.Alone part.value)) found right small) (place + length (value_text part.value)) 58 dots.Colon (value_colon part.value)
    ∙ (λ i. Some (at dots.Colon found (and_one right i) (and_one small i)))))
    (weight_through fields text found right small (place + length (value_text part.value ++ codes ":")) part.weight)

abbrev part_right : ValueType → Part → Bool
part_right wanted part = is_of_type wanted part.value

abbrev part_small : Part → Bool
part_small part = is_in_range part.value && fits_weight part.weight

comma_through : (fields : List Field) (text : List ℕ) (found : Option ℕ) (r s : Bool) (place : ℕ) (part : Part)
    → run fields text (at dots.Part found r s) place (part_text part ++ codes ",")
    ≡ Some (at dots.Part found (r && part_right (wanted_by fields found) part) (s && part_small part))
comma_through fields text found r s place part =
    let right = r && is_of_type (wanted_by fields found) part.value in
    let small = s && is_in_range part.value in
    on fields text (at dots.Part found r s) (at (dots.Weight (number_mode roles.Alone part.weight)) found right small) place (part_text part) (codes ",") _
    (part_through fields text found r s place part)
    (byte_through fields text (at (dots.Weight (number_mode roles.Alone part.weight)) found right small) (place + length (part_text part)) 44 dots.Part (weight_comma part.weight)
    ∙ (λ i. Some (at dots.Part found (and_one right i) (small && weight_size part.weight i)))
    ∙ (λ i. Some (at dots.Part found right (and_assoc s (is_in_range part.value) (fits_weight part.weight) i))))

bracket_through : (fields : List Field) (text : List ℕ) (found : Option ℕ) (r s : Bool) (place : ℕ) (part : Part)
    → run fields text (at dots.Part found r s) place (part_text part ++ codes ")")
    ≡ Some (at dots.Ended found (r && part_right (wanted_by fields found) part) (s && part_small part))
bracket_through fields text found r s place part =
    let right = r && is_of_type (wanted_by fields found) part.value in
    let small = s && is_in_range part.value in
    on fields text (at dots.Part found r s) (at (dots.Weight (number_mode roles.Alone part.weight)) found right small) place (part_text part) (codes ")") _
    (part_through fields text found r s place part)
    (byte_through fields text (at (dots.Weight (number_mode roles.Alone part.weight)) found right small) (place + length (part_text part)) 41 dots.Ended (weight_bracket part.weight)
    ∙ (λ i. Some (at dots.Ended found (and_one right i) (small && weight_size part.weight i)))
    ∙ (λ i. Some (at dots.Ended found right (and_assoc s (is_in_range part.value) (fits_weight part.weight) i))))

parts_through : (fields : List Field) (text : List ℕ) (found : Option ℕ) (parts : List Part) (r s : Bool) (place : ℕ) → 0 < length parts
    → run fields text (at dots.Part found r s) place (parts_text parts ++ codes ")")
    ≡ Some (at dots.Ended found (r && parts_have_type (wanted_by fields found) parts) (s && parts_in_range parts))
parts_through fields text found [] r s place some = absurd (omega arith)
parts_through fields text found (part ∷ []) r s place some =
    bracket_through fields text found r s place part
    ∙ (λ i. Some (at dots.Ended found (r && sym (and_one (part_right (wanted_by fields found) part)) i) (s && sym (and_one (part_small part)) i)))
parts_through fields text found (part ∷ second ∷ parts) r s place some =
    ap (run fields text (at dots.Part found r s) place) (append_assoc (part_text part ++ codes ",") (parts_text (second ∷ parts)) (codes ")"))
    ∙ on fields text (at dots.Part found r s) (at dots.Part found (r && part_right (wanted_by fields found) part) (s && part_small part)) place
    (part_text part ++ codes ",") (parts_text (second ∷ parts) ++ codes ")") _
    (comma_through fields text found r s place part)
    (parts_through fields text found (second ∷ parts) (r && part_right (wanted_by fields found) part) (s && part_small part)
    (place + length (part_text part ++ codes ",")) (omega arith))
    ∙ (λ i. Some (at dots.Ended found
    (and_assoc r (part_right (wanted_by fields found) part) (parts_have_type (wanted_by fields found) (second ∷ parts)) i)
    (and_assoc s (part_small part) (parts_in_range (second ∷ parts)) i)))

-- the survey of a dot product's text
abbrev pub dot_reached : List Field → Option (List ℕ) → List Part → DotSurvey
dot_reached fields name parts =
    at dots.Ended (field_of fields name) (parts_have_type (wanted_by fields (field_of fields name)) parts) (parts_in_range parts)

pub dot_through : (fields : List Field) (name : Option (List ℕ)) (parts : List Part) → IsFormedName name → 0 < length parts
    → through (dot_after fields (word_text (dot_product name parts))) dot_start 0 (word_text (dot_product name parts)) ≡ Some (dot_reached fields name parts)
dot_through fields name parts formed some =
    let head = name_text name ++ codes "dot(" in
    let behind = parts_text parts ++ codes ")" in
    let text : word_text (dot_product name parts) ≡ head ++ behind = append_assoc head (parts_text parts) (codes ")") in
    ap (λ t. run fields t dot_start 0 t) text
    ∙ on fields (head ++ behind) dot_start (at dots.Part (field_of fields name) true true) 0 head behind _
    (head_through fields name behind formed)
    (parts_through fields (head ++ behind) (field_of fields name) parts true true (0 + length head) some)
