-- What the mode of a dot product's machine tells of the text before it, and how that text goes on.
use Rattle.std.proofs.Common.{◌≡◌, ◌<◌, ◌+◌, ◌-◌, ◌*◌, ◌==◌, ◌&&◌, ◌||◌, not, ℕ, ℤ, pos, negsuc, List, [], ◌∷◌, ◌++◌, length, Bool, true, false, cond, eqb, nat_le, Option, Some, None, IfSome, refl, sym, ap, ap₂, subst}
use Rattle.std.proofs.Common.{◌∙◌, inl, inr, append_assoc, append-nil, codes, arith}
use Rattle.std.specs.Option.{option_and_then, option_map}
use Rattle.std.specs.List.{flat_map}
use Rattle.std.proofs.lemmas.Grind.{flat_map-append}
use Rattle.std.proofs.lemmas.Bool.{and_parts}
use Rattle.std.proofs.lemmas.Bool.Decides.{nat_tests, eqb_tells}
use Rattle.std.proofs.lemmas.List.{length-append}
use Rattle.query_text.proofs.ListLemmas.{append-middle}
use Rattle.attr_types.specs.declared.kind.ValueType.{ValueType}
use Rattle.attr_types.specs.declared.value.Value.{Value}
use Rattle.attr_types.specs.declared.value.Value.TheVariants as values
use Rattle.attr_types.specs.declared.part.Part.{Part}
use Rattle.attr_types.specs.Names.{begins_name, continues_name, is_name}
use Rattle.query_text.specs.declared.mode.Role.{Role}
use Rattle.query_text.specs.declared.mode.Role.TheVariants as roles
use Rattle.query_text.specs.declared.mode.Spell.{Spell}
use Rattle.query_text.specs.declared.mode.Spell.TheVariants as spells
use Rattle.query_text.specs.declared.mode.Mode.{Mode}
use Rattle.query_text.specs.declared.mode.Mode.TheVariants as modes
use Rattle.query_text.specs.declared.dot.survey.DotMode.{DotMode}
use Rattle.query_text.specs.declared.dot.survey.DotMode.TheVariants as dots
use Rattle.query_text.specs.Grammar.{dot_product, numeral, number_text, escaped, quoted, value_text, name_text, part_text, parts_text, word_text, IsFormedName}
use Rattle.query_text.specs.Modes.{next_mode, is_digit, capped, number_begun, value_begun, number_ended, spell_begun}
use Rattle.query_text.specs.Survey.{ends_value, ends_query}
use Rattle.query_text.specs.Dot.{is_dot, dot_next, value_more, has_ended}
use Rattle.query_text.proofs.Fronts.{Spelled, Lead, alone, below, above, low, high, high_number, high_text, lead_text, Partial, numeral_digit}
use Rattle.query_text.proofs.Steps.{spelled_first, spelled_next, pushed_minus, pushed_digit, pushed_quote, pushed_slash, pushed_byte, pushed_escaped, added}
use Rattle.query_text.proofs.Walks.{walk}

-- a text is a dot product
abbrev pub IsDot : List ℕ → Type 0
IsDot text = (name : Option (List ℕ)) × (parts : List Part) × IsFormedName name × (0 < length parts) × (text ≡ word_text (dot_product name parts))

abbrev pub head_text : Option (List ℕ) → List ℕ
head_text name = name_text name ++ codes "dot("

abbrev with_comma : Part → List ℕ
with_comma part = part_text part ++ codes ","

-- up to its next part
pub record Began (front : List ℕ) : Type 0 where
  pub name : Option (List ℕ)
  pub formed : IsFormedName name
  pub parts : List Part
  pub is : front ≡ head_text name ++ flat_map with_comma parts

-- a value or a number that is read by itself
abbrev pub InNumber : Mode → Type 0
InNumber (modes.Minus role) = role ≡ roles.Alone
InNumber (modes.Number role negative size) = role ≡ roles.Alone
InNumber _ = ⊥

abbrev pub InValue : Mode → Type 0
InValue (modes.Minus role) = role ≡ roles.Alone
InValue (modes.Number role negative size) = role ≡ roles.Alone
InValue (modes.Text role len) = role ≡ roles.Alone
InValue (modes.Escape role len) = role ≡ roles.Alone
InValue (modes.Quoted role) = role ≡ roles.Alone
InValue _ = ⊥

-- what was read of a dot product where this mode was reached
abbrev DotFront : DotMode → List ℕ → Type 0
DotFront dots.Front text = text ≡ []
DotFront (dots.Name spell) text = Spelled spell text
DotFront dots.Named text = (name : List ℕ) × (is_name name ≡ true) × (text ≡ name ++ codes ":")
DotFront dots.D text = (name : List ℕ) × (is_name name ≡ true) × (text ≡ (name ++ codes ":") ++ codes "d")
DotFront dots.Do text = (name : List ℕ) × (is_name name ≡ true) × (text ≡ (name ++ codes ":") ++ codes "do")
DotFront dots.Dot text = (name : List ℕ) × (is_name name ≡ true) × (text ≡ (name ++ codes ":") ++ codes "dot")
DotFront dots.Part text = Began text
DotFront (dots.Value mode) text = (front : List ℕ) × Began front × (part : List ℕ) × InValue mode × Partial None mode part × (text ≡ front ++ part)
DotFront dots.Colon text = (front : List ℕ) × Began front × (value : Value) × (text ≡ front ++ (value_text value ++ codes ":"))
DotFront (dots.Weight mode) text = (front : List ℕ) × Began front × (value : Value) × (part : List ℕ) × InNumber mode × Partial None mode part
    × (text ≡ front ++ ((value_text value ++ codes ":") ++ part))
DotFront dots.Ended text = IsDot text

-- ---- one byte more

abbrev Goes : List ℕ → ℕ → Option DotMode → Type 0
Goes text byte next = IfSome next (λ mode. DotFront mode (text ++ byte ∷ []))

choose_byte : (P : Option DotMode → Type 0) (byte wanted : ℕ) (x y : Option DotMode) → (byte ≡ wanted → P x) → ((byte ≡ wanted → ⊥) → P y)
    → P (cond (eqb byte wanted) x y)
choose_byte P byte wanted x y f g =
    elim (eqb_tells byte wanted) [
      | inl e ↦ subst (λ b. P (cond b x y)) (sym e.0) (f e.1)
      | inr e ↦ subst (λ b. P (cond b x y)) (sym e.0) (g e.1)
    ]

choose_test : (P : Option DotMode → Type 0) (test : Bool) (x y : Option DotMode) → (test ≡ true → P x) → (test ≡ false → P y) → P (cond test x y)
choose_test P true x y f g = f refl
choose_test P false x y f g = g refl

if_mapped : (wrap : Mode → DotMode) (text : List ℕ) (o : Option Mode) → IfSome o (λ mode. DotFront (wrap mode) text) → IfSome (option_map wrap o) (λ mode. DotFront mode text)
if_mapped wrap text None h = tt
if_mapped wrap text (Some mode) h = h

-- the bytes of a value and of a number
abbrev MoreIn : (Mode → Type 0) → List ℕ → ℕ → Option Mode → Type 0
MoreIn P part byte next = IfSome next (λ mode. P mode × Partial None mode (part ++ byte ∷ []))

digit_text : (byte : ℕ) → is_digit byte ≡ true → (byte ∷ [] ≡ numeral (byte - 48)) × (byte - 48 ≡ capped (byte - 48))
digit_text byte h = (ap (λ b. b ∷ []) back ∙ numeral_digit (byte - 48) small, small_enough)
  where
    back : byte ≡ 48 + (byte - 48)
    back = grind (arith, nat_tests)

    small : byte - 48 < 10
    small = grind (arith, nat_tests)

    small_enough : byte - 48 ≡ capped (byte - 48)
    small_enough = grind (arith, nat_tests)

number_first : (P : Mode → Type 0) → P (modes.Minus roles.Alone) → ((n : ℕ) → P (modes.Number roles.Alone false n)) → (byte : ℕ)
    → MoreIn P [] byte (number_begun roles.Alone byte)
number_first P minus number byte = elim (eqb_tells byte 45) [
  | inl e ↦ subst (λ b. MoreIn P [] byte (cond b (Some (modes.Minus roles.Alone)) (cond (is_digit byte) (Some (modes.Number roles.Alone false (byte - 48))) None)))
      (sym e.0) (minus, (alone, ap (λ b. b ∷ []) e.1))
  | inr e ↦ subst (λ b. MoreIn P [] byte (cond b (Some (modes.Minus roles.Alone)) (cond (is_digit byte) (Some (modes.Number roles.Alone false (byte - 48))) None)))
      (sym e.0) (digit (is_digit byte) refl)
]
  where
    digit : (test : Bool) → is_digit byte ≡ test → MoreIn P [] byte (cond test (Some (modes.Number roles.Alone false (byte - 48))) None)
    digit true h = (number (byte - 48), (alone, byte - 48, (digit_text byte h).0, (digit_text byte h).1))
    digit false h = tt

value_first : (byte : ℕ) → MoreIn InValue [] byte (value_begun roles.Alone byte)
value_first byte = elim (eqb_tells byte 34) [
  | inl e ↦ subst (λ b. MoreIn InValue [] byte (cond b (Some (modes.Text roles.Alone 0)) (number_begun roles.Alone byte))) (sym e.0)
      (refl, (alone, [], ap (λ b. b ∷ []) e.1))
  | inr e ↦ subst (λ b. MoreIn InValue [] byte (cond b (Some (modes.Text roles.Alone 0)) (number_begun roles.Alone byte))) (sym e.0)
      (number_first InValue refl (λ n. refl) byte)
]

minus_more : (P : Mode → Type 0) (role : Role) (part : List ℕ) (byte : ℕ) → ((n : ℕ) → P (modes.Number role true n)) → Partial None (modes.Minus role) part
    → MoreIn P part byte (next_mode false (modes.Minus role) byte)
unfolding next_mode
minus_more P role part byte number is = test (nat_le 49 byte && nat_le byte 57) refl
  where
    test : (b : Bool) → (nat_le 49 byte && nat_le byte 57) ≡ b → MoreIn P part byte (cond b (Some (modes.Number role true (byte - 48))) None)
    test true h = (number (byte - 48), pushed_minus None role part byte is h)
    test false h = tt

digit_more : (P : Mode → Type 0) (role : Role) (negative : Bool) (size : ℕ) (part : List ℕ) (byte : ℕ) → role ≡ roles.Alone
    → ((n : ℕ) → P (modes.Number role negative n)) → Partial None (modes.Number role negative size) part
    → MoreIn P part byte (next_mode false (modes.Number role negative size) byte)
unfolding next_mode
digit_more P role negative size part byte by_itself number is = test (is_digit byte && not (size == 0)) refl
  where
    test : (b : Bool) → (is_digit byte && not (size == 0)) ≡ b
        → MoreIn P part byte (cond b (Some (modes.Number role negative (capped (capped (size * 10) + (byte - 48))))) (number_ended false role byte))
    test true h = (number _, pushed_digit None role negative size part byte is h)
    test false h = subst (λ r. MoreIn P part byte (number_ended false r byte)) (sym by_itself) tt

text_more : (role : Role) (len : ℕ) (part : List ℕ) (byte : ℕ) → role ≡ roles.Alone → Partial None (modes.Text role len) part
    → MoreIn InValue part byte (next_mode false (modes.Text role len) byte)
unfolding next_mode
text_more role len part byte by_itself is = elim (eqb_tells byte 34) [
  | inl e ↦ subst (λ b. MoreIn InValue part byte (Some (cond b (modes.Quoted role) (cond (eqb byte 92) (modes.Escape role len) (modes.Text role (capped (len + 1))))))) (sym e.0)
      (by_itself, pushed_quote None role len part byte is e.1)
  | inr no_quote ↦ subst (λ b. MoreIn InValue part byte (Some (cond b (modes.Quoted role) (cond (eqb byte 92) (modes.Escape role len) (modes.Text role (capped (len + 1))))))) (sym no_quote.0)
      (elim (eqb_tells byte 92) [
        | inl e ↦ subst (λ b. MoreIn InValue part byte (Some (cond b (modes.Escape role len) (modes.Text role (capped (len + 1)))))) (sym e.0)
            (by_itself, pushed_slash None role len part byte is e.1)
        | inr no_escape ↦ subst (λ b. MoreIn InValue part byte (Some (cond b (modes.Escape role len) (modes.Text role (capped (len + 1)))))) (sym no_escape.0)
            (by_itself, pushed_byte None role len (capped (len + 1)) part byte is no_quote.1 no_escape.1)
      ])
]

escape_more : (role : Role) (len : ℕ) (part : List ℕ) (byte : ℕ) → role ≡ roles.Alone → Partial None (modes.Escape role len) part
    → MoreIn InValue part byte (next_mode false (modes.Escape role len) byte)
unfolding next_mode
escape_more role len part byte by_itself is = test ((byte == 34) || (byte == 92)) refl
  where
    test : (b : Bool) → ((byte == 34) || (byte == 92)) ≡ b → MoreIn InValue part byte (cond b (Some (modes.Text role (capped (len + 1)))) None)
    test true h = (by_itself, pushed_escaped None role len (capped (len + 1)) part byte is h)
    test false h = tt

value_goes : (mode : Mode) (part : List ℕ) (byte : ℕ) → InValue mode → Partial None mode part → MoreIn InValue part byte (value_more mode byte)
value_goes (modes.Minus role) part byte inside is = minus_more InValue role part byte (λ n. inside) is
value_goes (modes.Number role negative size) part byte inside is = digit_more InValue role negative size part byte inside (λ n. inside) is
value_goes (modes.Text role len) part byte inside is = text_more role len part byte inside is
value_goes (modes.Escape role len) part byte inside is = escape_more role len part byte inside is
value_goes (modes.Quoted role) part byte inside is = tt
value_goes modes.Start part byte inside is = absurd inside
value_goes modes.Opened part byte inside is = absurd inside
value_goes (modes.Name spell) part byte inside is = absurd inside
value_goes modes.Named part byte inside is = absurd inside
value_goes modes.Bound part byte inside is = absurd inside
value_goes modes.Low part byte inside is = absurd inside
value_goes modes.High part byte inside is = absurd inside
value_goes modes.HighNumber part byte inside is = absurd inside
value_goes modes.HighText part byte inside is = absurd inside
value_goes modes.Ended part byte inside is = absurd inside
value_goes modes.Closed part byte inside is = absurd inside

number_goes : (mode : Mode) (part : List ℕ) (byte : ℕ) → InNumber mode → Partial None mode part → MoreIn InNumber part byte (value_more mode byte)
number_goes (modes.Minus role) part byte inside is = minus_more InNumber role part byte (λ n. inside) is
number_goes (modes.Number role negative size) part byte inside is = digit_more InNumber role negative size part byte inside (λ n. inside) is
number_goes (modes.Text role len) part byte inside is = absurd inside
number_goes (modes.Escape role len) part byte inside is = absurd inside
number_goes (modes.Quoted role) part byte inside is = absurd inside
number_goes modes.Start part byte inside is = absurd inside
number_goes modes.Opened part byte inside is = absurd inside
number_goes (modes.Name spell) part byte inside is = absurd inside
number_goes modes.Named part byte inside is = absurd inside
number_goes modes.Bound part byte inside is = absurd inside
number_goes modes.Low part byte inside is = absurd inside
number_goes modes.High part byte inside is = absurd inside
number_goes modes.HighNumber part byte inside is = absurd inside
number_goes modes.HighText part byte inside is = absurd inside
number_goes modes.Ended part byte inside is = absurd inside
number_goes modes.Closed part byte inside is = absurd inside

-- a value by itself has nothing before it
lead_alone : {type : ValueType} {role : Role} (lead : Lead type role) → role ≡ roles.Alone → lead_text lead ≡ []
lead_alone alone e = refl
lead_alone below e = absurd cc
lead_alone above e = absurd cc
lead_alone low e = absurd cc
lead_alone high e = absurd cc
lead_alone (high_number z) e = absurd cc
lead_alone (high_text bytes) e = absurd cc

number_done : (mode : Mode) (part : List ℕ) → InNumber mode → Partial None mode part → ends_query mode ≡ true → (z : ℤ) × (part ≡ number_text z)
number_done (modes.Number role false size) part inside (lead, n, is, sized) h = (pos n, is ∙ ap (λ t. t ++ numeral n) (lead_alone lead inside))
number_done (modes.Number role true size) part inside (lead, n, is, sized, some) h =
    let counted : n ≡ (n - 1) + 1 = omega arith in
    (negsuc (n - 1), is ∙ ap (λ t. t ++ (45 ∷ numeral n)) (lead_alone lead inside) ∙ ap (λ k. 45 ∷ numeral k) counted)
number_done (modes.Minus role) part inside is h = absurd cc
number_done (modes.Text role len) part inside is h = absurd inside
number_done (modes.Escape role len) part inside is h = absurd inside
number_done (modes.Quoted role) part inside is h = absurd inside
number_done modes.Start part inside is h = absurd inside
number_done modes.Opened part inside is h = absurd inside
number_done (modes.Name spell) part inside is h = absurd inside
number_done modes.Named part inside is h = absurd inside
number_done modes.Bound part inside is h = absurd inside
number_done modes.Low part inside is h = absurd inside
number_done modes.High part inside is h = absurd inside
number_done modes.HighNumber part inside is h = absurd inside
number_done modes.HighText part inside is h = absurd inside
number_done modes.Ended part inside is h = absurd inside
number_done modes.Closed part inside is h = absurd inside

value_done : (mode : Mode) (part : List ℕ) → InValue mode → Partial None mode part → ends_query mode ≡ true → (value : Value) × (part ≡ value_text value)
value_done (modes.Number role negative size) part inside is h =
    let done = number_done (modes.Number role negative size) part inside is h in (values.Long done.0, done.1)
value_done (modes.Quoted role) part inside (lead, bytes, is) h = (values.Text bytes, is ∙ ap (λ t. t ++ quoted bytes) (lead_alone lead inside))
value_done (modes.Minus role) part inside is h = absurd cc
value_done (modes.Text role len) part inside is h = absurd cc
value_done (modes.Escape role len) part inside is h = absurd cc
value_done modes.Start part inside is h = absurd inside
value_done modes.Opened part inside is h = absurd inside
value_done (modes.Name spell) part inside is h = absurd inside
value_done modes.Named part inside is h = absurd inside
value_done modes.Bound part inside is h = absurd inside
value_done modes.Low part inside is h = absurd inside
value_done modes.High part inside is h = absurd inside
value_done modes.HighNumber part inside is h = absurd inside
value_done modes.HighText part inside is h = absurd inside
value_done modes.Ended part inside is h = absurd inside
value_done modes.Closed part inside is h = absurd inside

-- one part more
parts_before : (part second : Part) (parts : List Part) → parts_text (part ∷ (parts ++ second ∷ [])) ≡ with_comma part ++ parts_text (parts ++ second ∷ [])
parts_before part second [] = refl
parts_before part second (third ∷ parts) = refl

pub parts_pushed : (parts : List Part) (last : Part) → parts_text (parts ++ last ∷ []) ≡ flat_map with_comma parts ++ part_text last
parts_pushed [] last = refl
parts_pushed (part ∷ parts) last =
    parts_before part last parts ∙ ap (λ t. with_comma part ++ t) (parts_pushed parts last)
    ∙ sym (append_assoc (with_comma part) (flat_map with_comma parts) (part_text last))

comma_text : (head parts part : List ℕ) → ((head ++ parts) ++ part) ++ 44 ∷ [] ≡ head ++ (parts ++ ((part ++ 44 ∷ []) ++ []))
comma_text head parts part = simp (append_assoc, append-nil)

end_text : (head parts part : List ℕ) → ((head ++ parts) ++ part) ++ 41 ∷ [] ≡ (head ++ (parts ++ part)) ++ 41 ∷ []
end_text head parts part = simp append_assoc

part_began : (front : List ℕ) (part : Part) (text : List ℕ) (byte : ℕ) → Began front → text ≡ front ++ part_text part → byte ≡ 44 → Began (text ++ byte ∷ [])
part_began front part text byte began is e = record {
  name = began.name;
  formed = began.formed;
  parts = began.parts ++ part ∷ [];
  is = ap₂ (λ t b. t ++ b ∷ []) (is ∙ ap (λ f. f ++ part_text part) began.is) e
      ∙ comma_text (head_text began.name) (flat_map with_comma began.parts) (part_text part)
      ∙ sym (ap (λ t. head_text began.name ++ t) (flat_map-append with_comma began.parts (part ∷ [])));
}

pub part_ended : (front : List ℕ) (part : Part) (text : List ℕ) (byte : ℕ) → Began front → text ≡ front ++ part_text part → byte ≡ 41 → IsDot (text ++ byte ∷ [])
part_ended front part text byte began is e = (
  began.name,
  began.parts ++ part ∷ [],
  began.formed,
  omega (arith, length-append began.parts (part ∷ [])),
  ap₂ (λ t b. t ++ b ∷ []) (is ∙ ap (λ f. f ++ part_text part) began.is) e
      ∙ end_text (head_text began.name) (flat_map with_comma began.parts) (part_text part)
      ∙ sym (ap (λ t. (head_text began.name ++ t) ++ 41 ∷ []) (parts_pushed began.parts part)),
)

abbrev part_of : Value → ℤ → Part
part_of value weight = record { value = value; weight = weight }

-- the letters of `dot` behind a name
letter_goes : (text front : List ℕ) (byte wanted : ℕ) (mode : DotMode) → text ≡ front → DotFront mode (front ++ wanted ∷ [])
    → Goes text byte (cond (eqb byte wanted) (Some mode) None)
letter_goes text front byte wanted mode is then =
    choose_byte (Goes text byte) byte wanted (Some mode) None (λ e. subst (DotFront mode) (sym (added text front byte wanted is e)) then) (λ _. tt)

dot_spelled : (spell : Spell) (text : List ℕ) → Spelled spell text → is_dot spell ≡ true → text ≡ codes "dot"
dot_spelled spells.Dot text spelled h = spelled.1
dot_spelled spells.A text spelled h = absurd cc
dot_spelled spells.An text spelled h = absurd cc
dot_spelled spells.And text spelled h = absurd cc
dot_spelled spells.O text spelled h = absurd cc
dot_spelled spells.Or text spelled h = absurd cc
dot_spelled spells.D text spelled h = absurd cc
dot_spelled spells.Do text spelled h = absurd cc
dot_spelled spells.Other text spelled h = absurd cc

byte_is : (a : Bool) (byte wanted : ℕ) → (a && (byte == wanted)) ≡ true → (a ≡ true) × (byte ≡ wanted)
byte_is a byte wanted h =
    let parts = and_parts a (byte == wanted) h in
    (parts.0, elim (eqb_tells byte wanted) [ inl e ↦ e.1 | inr e ↦ absurd (let both : false ≡ true = sym e.0 ∙ parts.1 in cc) ])

byte_text : (front middle part : List ℕ) (byte : ℕ) → (front ++ (middle ++ part)) ++ byte ∷ [] ≡ front ++ (middle ++ (part ++ byte ∷ []))
byte_text front middle part byte = simp append_assoc

dot_step : (mode : DotMode) (text : List ℕ) (byte : ℕ) → DotFront mode text → Goes text byte (dot_next mode byte)
unfolding dot_next
dot_step dots.Front text byte is =
    choose_test (Goes text byte) (begins_name byte) _ _
    (λ begins. subst (Spelled (spell_begun byte)) (sym (ap (λ t. t ++ byte ∷ []) is)) (spelled_first byte begins)) (λ _. tt)
dot_step (dots.Name spell) text byte spelled =
    choose_test (Goes text byte) (continues_name byte) _ _ (λ goes. spelled_next spell text byte spelled goes)
    (λ _. choose_byte (Goes text byte) byte 58 _ _ (λ e. (text, spelled.0, ap (λ b. text ++ b ∷ []) e))
    (λ _. choose_test (Goes text byte) (is_dot spell && (byte == 40)) _ _
    (λ test.
    let here = byte_is (is_dot spell) byte 40 test in
    record { name = None; formed = tt; parts = []; is = ap₂ (λ t b. t ++ b ∷ []) (dot_spelled spell text spelled here.0) here.1 })
    (λ _. tt)))
dot_step dots.Named text byte (name, is_named, is) = letter_goes text (name ++ codes ":") byte 100 dots.D is (name, is_named, refl)
dot_step dots.D text byte (name, is_named, is) =
    letter_goes text ((name ++ codes ":") ++ codes "d") byte 111 dots.Do is (name, is_named, append_assoc (name ++ codes ":") (codes "d") (codes "o"))
dot_step dots.Do text byte (name, is_named, is) =
    letter_goes text ((name ++ codes ":") ++ codes "do") byte 116 dots.Dot is (name, is_named, append_assoc (name ++ codes ":") (codes "do") (codes "t"))
dot_step dots.Dot text byte (name, is_named, is) =
    letter_goes text ((name ++ codes ":") ++ codes "dot") byte 40 dots.Part is (record {
      name = Some name;
      formed = is_named;
      parts = [];
      is = append_assoc (name ++ codes ":") (codes "dot") (codes "(") ∙ sym (append-nil ((name ++ codes ":") ++ codes "dot("));
    })
dot_step dots.Part text byte began =
    if_mapped dots.Value (text ++ byte ∷ []) (value_begun roles.Alone byte) (value_in (value_begun roles.Alone byte) (value_first byte))
  where
    value_in : (o : Option Mode) → MoreIn InValue [] byte o → IfSome o (λ mode. DotFront (dots.Value mode) (text ++ byte ∷ []))
    value_in None h = tt
    value_in (Some mode) h = (text, began, byte ∷ [], h.0, h.1, refl)
dot_step (dots.Value mode) text byte (front, began, part, inside, partial, is) =
    choose_test (Goes text byte) (ends_query mode && (byte == 58)) _ _
    (λ test.
    let here = byte_is (ends_query mode) byte 58 test in
    let done = value_done mode part inside partial here.0 in
    (front, began, done.0, ap₂ (λ t b. t ++ b ∷ []) (is ∙ ap (λ p. front ++ p) done.1) here.1 ∙ append_assoc front (value_text done.0) (codes ":")))
    (λ _. if_mapped dots.Value (text ++ byte ∷ []) (value_more mode byte) (value_in (value_more mode byte) (value_goes mode part byte inside partial)))
  where
    value_in : (o : Option Mode) → MoreIn InValue part byte o → IfSome o (λ mode. DotFront (dots.Value mode) (text ++ byte ∷ []))
    value_in None h = tt
    value_in (Some mode) h = (front, began, part ++ byte ∷ [], h.0, h.1, ap (λ t. t ++ byte ∷ []) is ∙ append_assoc front part (byte ∷ []))
dot_step dots.Colon text byte (front, began, value, is) =
    if_mapped dots.Weight (text ++ byte ∷ []) (number_begun roles.Alone byte)
    (weight_in (number_begun roles.Alone byte) (number_first InNumber refl (λ n. refl) byte))
  where
    weight_in : (o : Option Mode) → MoreIn InNumber [] byte o → IfSome o (λ mode. DotFront (dots.Weight mode) (text ++ byte ∷ []))
    weight_in None h = tt
    weight_in (Some mode) h =
        (front, began, value, byte ∷ [], h.0, h.1, ap (λ t. t ++ byte ∷ []) is ∙ append_assoc front (value_text value ++ codes ":") (byte ∷ []))
dot_step (dots.Weight mode) text byte (front, began, value, part, inside, partial, is) =
    choose_test (Goes text byte) (ends_query mode && (byte == 44)) _ _
    (λ test.
    let here = byte_is (ends_query mode) byte 44 test in
    let done = number_done mode part inside partial here.0 in
    part_began front (part_of value done.0) text byte began (is ∙ ap (λ p. front ++ ((value_text value ++ codes ":") ++ p)) done.1) here.1)
    (λ _. choose_test (Goes text byte) (ends_query mode && (byte == 41)) _ _
    (λ test.
    let here = byte_is (ends_query mode) byte 41 test in
    let done = number_done mode part inside partial here.0 in
    part_ended front (part_of value done.0) text byte began (is ∙ ap (λ p. front ++ ((value_text value ++ codes ":") ++ p)) done.1) here.1)
    (λ _. if_mapped dots.Weight (text ++ byte ∷ []) (value_more mode byte) (weight_in (value_more mode byte) (number_goes mode part byte inside partial))))
  where
    weight_in : (o : Option Mode) → MoreIn InNumber part byte o → IfSome o (λ mode. DotFront (dots.Weight mode) (text ++ byte ∷ []))
    weight_in None h = tt
    weight_in (Some mode) h = (
      front,
      began,
      value,
      part ++ byte ∷ [],
      h.0,
      h.1,
      ap (λ t. t ++ byte ∷ []) is ∙ byte_text front (value_text value ++ codes ":") part byte,
    )
dot_step dots.Ended text byte is = tt

dot_through : (mode last : DotMode) (text bytes : List ℕ) → DotFront mode text → walk dot_next mode bytes ≡ Some last → DotFront last (text ++ bytes)
unfolding walk
dot_through mode last text [] front e =
    let same : mode ≡ last = cc in subst (λ m. DotFront m (text ++ [])) same (subst (DotFront mode) (sym (append-nil text)) front)
dot_through mode last text (byte ∷ bytes) front e =
    (elim (dot_next mode byte) as (λ o. Goes text byte o → option_and_then (λ more. walk dot_next more bytes) o ≡ Some last → DotFront last (text ++ (byte ∷ bytes))) [
      | None ↦ λ f e. absurd cc
      | Some more ↦ λ f e. subst (DotFront last) (append_assoc text (byte ∷ []) bytes) (dot_through more last (text ++ byte ∷ []) bytes f e)
    ]) (dot_step mode text byte front) e

-- ---- how it goes on

abbrev Completes : List ℕ → Type 0
Completes text = (rest : List ℕ) × IsDot (text ++ rest)

part_completes : (front : List ℕ) (value : Value) (weight : ℤ) (text rest : List ℕ) → Began front → text ++ rest ≡ front ++ part_text (part_of value weight)
    → Completes text
part_completes front value weight text rest began is = (
  rest ++ 41 ∷ [],
  subst IsDot (append_assoc text rest (41 ∷ [])) (part_ended front (part_of value weight) (text ++ rest) 41 began is refl),
)

head_completes : (text rest : List ℕ) (name : Option (List ℕ)) → IsFormedName name → text ++ rest ≡ head_text name → Completes text
unfolding numeral
head_completes text rest name formed is =
    part_completes (head_text name) (values.Long (pos 0)) (pos 0) text (rest ++ codes "0:0")
    (record { name = name; formed = formed; parts = []; is = sym (append-nil (head_text name)) })
    (sym (append_assoc text rest (codes "0:0")) ∙ ap (λ t. t ++ codes "0:0") is)

number_completes : (mode : Mode) (part : List ℕ) → InNumber mode → Partial None mode part → (rest : List ℕ) × (z : ℤ) × (part ++ rest ≡ number_text z)
unfolding numeral
number_completes (modes.Minus role) part inside (lead, is) =
    (codes "1", negsuc 0, ap (λ p. p ++ codes "1") (is ∙ ap (λ t. t ++ codes "-") (lead_alone lead inside)))
number_completes (modes.Number role false size) part inside is =
    let done = number_done (modes.Number role false size) part inside is (ap ends_value inside) in ([], done.0, append-nil part ∙ done.1)
number_completes (modes.Number role true size) part inside is =
    let done = number_done (modes.Number role true size) part inside is (ap ends_value inside) in ([], done.0, append-nil part ∙ done.1)
number_completes (modes.Text role len) part inside is = absurd inside
number_completes (modes.Escape role len) part inside is = absurd inside
number_completes (modes.Quoted role) part inside is = absurd inside
number_completes modes.Start part inside is = absurd inside
number_completes modes.Opened part inside is = absurd inside
number_completes (modes.Name spell) part inside is = absurd inside
number_completes modes.Named part inside is = absurd inside
number_completes modes.Bound part inside is = absurd inside
number_completes modes.Low part inside is = absurd inside
number_completes modes.High part inside is = absurd inside
number_completes modes.HighNumber part inside is = absurd inside
number_completes modes.HighText part inside is = absurd inside
number_completes modes.Ended part inside is = absurd inside
number_completes modes.Closed part inside is = absurd inside

value_completes : (mode : Mode) (part : List ℕ) → InValue mode → Partial None mode part → (rest : List ℕ) × (value : Value) × (part ++ rest ≡ value_text value)
value_completes (modes.Minus role) part inside is =
    let done = number_completes (modes.Minus role) part inside is in (done.0, values.Long done.1, done.2)
value_completes (modes.Number role negative size) part inside is =
    let done = number_completes (modes.Number role negative size) part inside is in (done.0, values.Long done.1, done.2)
value_completes (modes.Text role len) part inside (lead, bytes, is) =
    (34 ∷ [], values.Text bytes, ap (λ p. p ++ 34 ∷ []) (is ∙ ap (λ t. t ++ (34 ∷ flat_map escaped bytes)) (lead_alone lead inside)))
value_completes (modes.Escape role len) part inside (lead, bytes, is) = (
  34 ∷ 34 ∷ [],
  values.Text (bytes ++ 34 ∷ []),
  ap (λ p. p ++ 34 ∷ 34 ∷ []) (is ∙ ap (λ t. t ++ ((34 ∷ flat_map escaped bytes) ++ 92 ∷ [])) (lead_alone lead inside))
      ∙ text (flat_map escaped bytes)
      ∙ ap (λ t. 34 ∷ (t ++ 34 ∷ [])) (sym (flat_map-append escaped bytes (34 ∷ []))),
)
  where
    text : (bytes : List ℕ) → ((34 ∷ bytes) ++ 92 ∷ []) ++ (34 ∷ 34 ∷ []) ≡ 34 ∷ ((bytes ++ (92 ∷ 34 ∷ [])) ++ 34 ∷ [])
    text bytes = simp append_assoc
value_completes (modes.Quoted role) part inside (lead, bytes, is) =
    ([], values.Text bytes, append-nil part ∙ is ∙ ap (λ t. t ++ quoted bytes) (lead_alone lead inside))
value_completes modes.Start part inside is = absurd inside
value_completes modes.Opened part inside is = absurd inside
value_completes (modes.Name spell) part inside is = absurd inside
value_completes modes.Named part inside is = absurd inside
value_completes modes.Bound part inside is = absurd inside
value_completes modes.Low part inside is = absurd inside
value_completes modes.High part inside is = absurd inside
value_completes modes.HighNumber part inside is = absurd inside
value_completes modes.HighText part inside is = absurd inside
value_completes modes.Ended part inside is = absurd inside
value_completes modes.Closed part inside is = absurd inside

colon_text : (front value more : List ℕ) → (front ++ (value ++ codes ":")) ++ more ≡ front ++ ((value ++ codes ":") ++ more)
colon_text front value more = append_assoc front (value ++ codes ":") more

weight_text : (front value part rest : List ℕ) → (front ++ ((value ++ codes ":") ++ part)) ++ rest ≡ front ++ ((value ++ codes ":") ++ (part ++ rest))
weight_text front value part rest = simp append_assoc

completed : (mode : DotMode) (text : List ℕ) → DotFront mode text → Completes text
unfolding numeral
completed dots.Front text is = head_completes text (codes "dot(") None tt (ap (λ t. t ++ codes "dot(") is)
completed (dots.Name spell) text spelled = head_completes text (codes ":dot(") (Some text) spelled.0 (sym (append_assoc text (codes ":") (codes "dot(")))
completed dots.Named text (name, is_named, is) = head_completes text (codes "dot(") (Some name) is_named (ap (λ t. t ++ codes "dot(") is)
completed dots.D text (name, is_named, is) =
    head_completes text (codes "ot(") (Some name) is_named (ap (λ t. t ++ codes "ot(") is ∙ append_assoc (name ++ codes ":") (codes "d") (codes "ot("))
completed dots.Do text (name, is_named, is) =
    head_completes text (codes "t(") (Some name) is_named (ap (λ t. t ++ codes "t(") is ∙ append_assoc (name ++ codes ":") (codes "do") (codes "t("))
completed dots.Dot text (name, is_named, is) =
    head_completes text (codes "(") (Some name) is_named (ap (λ t. t ++ codes "(") is ∙ append_assoc (name ++ codes ":") (codes "dot") (codes "("))
completed dots.Part text began = part_completes text (values.Long (pos 0)) (pos 0) text (codes "0:0") began refl
completed (dots.Value mode) text (front, began, part, inside, partial, is) =
    let done = value_completes mode part inside partial in
    part_completes front done.1 (pos 0) text (done.0 ++ codes ":0") began
    (ap (λ t. t ++ (done.0 ++ codes ":0")) is ∙ append-middle front part done.0 (codes ":0")
    ∙ ap (λ t. front ++ (t ++ codes ":0")) done.2 ∙ sym (ap (λ t. front ++ t) (append_assoc (value_text done.1) (codes ":") (codes "0"))))
completed dots.Colon text (front, began, value, is) =
    part_completes front value (pos 0) text (codes "0") began (ap (λ t. t ++ codes "0") is ∙ colon_text front (value_text value) (codes "0"))
completed (dots.Weight mode) text (front, began, value, part, inside, partial, is) =
    let done = number_completes mode part inside partial in
    part_completes front value done.1 text done.0 began
    (ap (λ t. t ++ done.0) is ∙ weight_text front (value_text value) part done.0 ∙ ap (λ t. front ++ ((value_text value ++ codes ":") ++ t)) done.2)
completed dots.Ended text is = ([], subst IsDot (sym (append-nil text)) is)

pub dot_continues : (text : List ℕ) (last : DotMode) → walk dot_next dots.Front text ≡ Some last → (rest : List ℕ) × IsDot (text ++ rest)
dot_continues text last e = completed last text (dot_through dots.Front last [] text refl e)

ended_is : (mode : DotMode) (text : List ℕ) → DotFront mode text → has_ended mode ≡ true → IsDot text
ended_is dots.Ended text is h = is
ended_is dots.Front text is h = absurd cc
ended_is (dots.Name spell) text is h = absurd cc
ended_is dots.Named text is h = absurd cc
ended_is dots.D text is h = absurd cc
ended_is dots.Do text is h = absurd cc
ended_is dots.Dot text is h = absurd cc
ended_is dots.Part text is h = absurd cc
ended_is (dots.Value mode) text is h = absurd cc
ended_is dots.Colon text is h = absurd cc
ended_is (dots.Weight mode) text is h = absurd cc

pub dot_whole : (text : List ℕ) (last : DotMode) → walk dot_next dots.Front text ≡ Some last → has_ended last ≡ true → IsDot text
dot_whole text last e h = ended_is last text (dot_through dots.Front last [] text refl e) h
