-- One byte more: what was read before a mode, with the byte, is what was read before the next mode.
use Rattle.std.proofs.Common.{◌≡◌, ◌<◌, ◌≤◌, ◌+◌, ◌-◌, ◌*◌, ℕ, ℤ, pos, negsuc, List, [], ◌∷◌, ◌++◌, Bool, true, false, ◌&&◌, ◌||◌, ◌==◌, not, cond, eqb, nat_lt, nat_le, Option, Some, None, IfSome, refl, sym, ap, ap₂}
use Rattle.std.proofs.Common.{subst, ◌∙◌, inl, inr, append_assoc, append-nil, codes, arith}
use Rattle.std.specs.List.{flat_map, list_all, AllByRecursion}
use Rattle.std.proofs.lemmas.Bool.{and_parts}
use Rattle.std.proofs.lemmas.List.Folds.{list_all-append}
use Rattle.std.proofs.lemmas.Bool.Decides.{nat_tests, eqb_tells}
use Rattle.std.proofs.lemmas.Grind.{flat_map-append}
use Rattle.attr_types.specs.declared.kind.ValueType.TheVariants as types
use Rattle.attr_types.specs.declared.value.Value.TheVariants as values
use Rattle.attr_types.specs.declared.query.Leaf.TheVariants as leaves
use Rattle.attr_types.specs.declared.query.Leaf.{Leaf}
use Rattle.attr_types.specs.Names.{begins_name, continues_name, is_name}
use Rattle.query_text.specs.declared.mode.Role.{Role}
use Rattle.query_text.specs.declared.mode.Role.TheVariants as roles
use Rattle.query_text.specs.declared.mode.Spell.{Spell}
use Rattle.query_text.specs.declared.mode.Spell.TheVariants as spells
use Rattle.query_text.specs.declared.mode.Mode.{Mode}
use Rattle.query_text.specs.declared.mode.Mode.TheVariants as modes
use Rattle.query_text.specs.Grammar.{NamedTree, NamedTrees, one, and, or, no_trees, tree, numeral, number_text, escaped, quoted, name_text, leaf_text, tree_text, list_text, others_text}
use Rattle.query_text.specs.Grammar.{IsFormedLeaf, IsFormed, IsFormedList, AreFormed}
use Rattle.query_text.specs.Modes.{next_mode, is_digit, capped, number_begun, value_begun, leaf_begun, query_begun, query_ended, number_ended, quoted_next}
use Rattle.query_text.specs.Modes.{spell_begun, spell_next, opens_list, name_next}
use Rattle.query_text.specs.Survey.{depth_after}
use Rattle.query_text.proofs.Fronts.{bottom, frame, word, with_comma, stack_text, stack_depth, Base, base_text, base_depth, BaseFormed, Spells, Spelled}
use Rattle.query_text.proofs.Fronts.{Lead, alone, below, above, low, high, high_number, high_text, lead_text, Partial, Front, numeral_pushed, numeral_digit}

-- with the byte, the next mode is reached
abbrev Goes : Base → List ℕ → ℕ → Option Mode → Type 0
Goes base part byte next = IfSome next (λ mode. Front (base_text base ++ (part ++ byte ∷ [])) (depth_after (base_depth base) mode) mode)

in_leaf : (base : Base) → BaseFormed base → (part : List ℕ) (mode : Mode) → ((depth : ℕ) → depth_after depth mode ≡ depth) → Partial base.1 mode part
    → Front (base_text base ++ part) (depth_after (base_depth base) mode) mode
in_leaf base formed part mode same partial =
    record { base = base; formed = formed; deep = sym (same (base_depth base)); part = part; partial = partial; whole = refl }

choose_byte : (base : Base) (part : List ℕ) (byte wanted : ℕ) (x y : Option Mode) → (byte ≡ wanted → Goes base part byte x)
    → ((byte ≡ wanted → ⊥) → Goes base part byte y) → Goes base part byte (cond (eqb byte wanted) x y)
choose_byte base part byte wanted x y f g =
    elim (eqb_tells byte wanted) [
      | inl e ↦ subst (λ b. Goes base part byte (cond b x y)) (sym e.0) (f e.1)
      | inr e ↦ subst (λ b. Goes base part byte (cond b x y)) (sym e.0) (g e.1)
    ]

choose_test : (base : Base) (part : List ℕ) (byte : ℕ) (test : Bool) (x y : Option Mode) → (test ≡ true → Goes base part byte x)
    → (test ≡ false → Goes base part byte y) → Goes base part byte (cond test x y)
choose_test base part byte true x y f g = f refl
choose_test base part byte false x y f g = g refl

in_some : (base : Base) (part : List ℕ) (byte : ℕ) (test : Bool) (x y : Mode) → Goes base part byte (cond test (Some x) (Some y))
    → Goes base part byte (Some (cond test x y))
in_some base part byte true x y goes = goes
in_some base part byte false x y goes = goes

pub added : (part front : List ℕ) (byte wanted : ℕ) → part ≡ front → byte ≡ wanted → part ++ byte ∷ [] ≡ front ++ wanted ∷ []
added part front byte wanted is e = ap₂ (λ p b. p ++ b ∷ []) is e

-- a value begins
digit_range : (byte : ℕ) → is_digit byte ≡ true → (48 ≤ byte) × (byte ≤ 57)
digit_range byte h = grind (arith, nat_tests)

digit_text : (byte : ℕ) → is_digit byte ≡ true → byte ∷ [] ≡ (48 + (byte - 48)) ∷ []
digit_text byte h = let range = digit_range byte h in ap (λ b. b ∷ []) (omega arith)

number_begins : (base : Base) → BaseFormed base → (role : Role) (lead : Lead types.Long role) (part : List ℕ) (byte : ℕ) → part ≡ lead_text lead
    → Goes base part byte (number_begun role byte)
number_begins base formed role lead part byte is =
    choose_byte base part byte 45 _ _
    (λ e. in_leaf base formed _ (modes.Minus role) (λ _. refl) (lead, added part (lead_text lead) byte 45 is e))
    (λ _. choose_test base part byte (is_digit byte) _ _
    (λ digit.
    let range = digit_range byte digit in
    in_leaf base formed _ (modes.Number role false (byte - 48)) (λ _. refl)
    (lead, byte - 48, ap₂ (λ p d. p ++ d) is (digit_text byte digit ∙ numeral_digit (byte - 48) (omega arith)), omega arith))
    (λ _. tt))

text_begins : (base : Base) → BaseFormed base → (role : Role) (lead : Lead types.Text role) (part : List ℕ) (byte : ℕ) (y : Option Mode)
    → part ≡ lead_text lead → ((byte ≡ 34 → ⊥) → Goes base part byte y) → Goes base part byte (cond (eqb byte 34) (Some (modes.Text role 0)) y)
text_begins base formed role lead part byte y is other =
    choose_byte base part byte 34 _ y
    (λ e. in_leaf base formed _ (modes.Text role 0) (λ _. refl) (lead, [], added part (lead_text lead) byte 34 is e)) other

value_begins : (base : Base) → BaseFormed base → (role : Role) (number : Lead types.Long role) (text : Lead types.Text role) (part : List ℕ) (byte : ℕ)
    → part ≡ lead_text number → part ≡ lead_text text → Goes base part byte (value_begun role byte)
value_begins base formed role number text part byte is is' =
    text_begins base formed role text part byte _ is' (λ _. number_begins base formed role number part byte is)

-- a leaf begins
leaf_begins : (base : Base) → BaseFormed base → (part : List ℕ) (byte : ℕ) → part ≡ [] → Goes base part byte (leaf_begun byte)
leaf_begins base formed part byte is =
    choose_byte base part byte 91 _ _ (λ e. in_leaf base formed _ modes.Low (λ _. refl) (added part [] byte 91 is e)) (λ _.
    choose_test base part byte ((byte == 60) || (byte == 62)) _ _
    (λ bound. elim (eqb_tells byte 60) [
      | inl e ↦ in_leaf base formed _ modes.Bound (λ _. refl) (false, added part [] byte 60 is e.1)
      | inr e ↦
          let other : byte ≡ 62 = grind (arith, nat_tests) in
          in_leaf base formed _ modes.Bound (λ _. refl) (true, added part [] byte 62 is other)
    ])
    (λ _. value_begins base formed roles.Alone alone alone part byte is is))

-- the letters of a name
choose_spell : (part : List ℕ) (byte wanted : ℕ) (x y : Spell) → (byte ≡ wanted → Spells x part) → Spells y part
    → Spells (cond (eqb byte wanted) x y) part
choose_spell part byte wanted x y f g =
    elim (eqb_tells byte wanted) [
      | inl e ↦ subst (λ b. Spells (cond b x y) part) (sym e.0) (f e.1)
      | inr e ↦ subst (λ b. Spells (cond b x y) part) (sym e.0) g
    ]

pub spelled_first : (byte : ℕ) → begins_name byte ≡ true → Spelled (spell_begun byte) (byte ∷ [])
spelled_first byte begins = (
  ap (λ b. b && ((b || (nat_le 48 byte && nat_le byte 57)) && true)) begins,
  choose_spell (byte ∷ []) byte 97 _ _ (λ e. ap (λ b. b ∷ []) e)
      (choose_spell (byte ∷ []) byte 111 _ _ (λ e. ap (λ b. b ∷ []) e) (choose_spell (byte ∷ []) byte 100 _ _ (λ e. ap (λ b. b ∷ []) e) tt)),
)

name_pushed : (part : List ℕ) (byte : ℕ) → is_name part ≡ true → continues_name byte ≡ true → is_name (part ++ byte ∷ []) ≡ true
name_pushed [] byte is goes = absurd cc
name_pushed (c ∷ cs) byte is goes =
    let parts = and_parts (begins_name c) (list_all continues_name (c ∷ cs)) is in
    ap₂ (λ a b. a && b) parts.0
    (list_all-append continues_name (c ∷ cs) (byte ∷ []) ∙ ap₂ (λ a b. a && (b && true)) parts.1 goes)

spells_next : (spell : Spell) (part : List ℕ) (byte : ℕ) → Spells spell part → Spells (spell_next spell byte) (part ++ byte ∷ [])
spells_next spells.A part byte is = choose_spell _ byte 110 _ _ (λ e. added part (codes "a") byte 110 is e) tt
spells_next spells.An part byte is = choose_spell _ byte 100 _ _ (λ e. added part (codes "an") byte 100 is e) tt
spells_next spells.And part byte is = tt
spells_next spells.O part byte is = choose_spell _ byte 114 _ _ (λ e. added part (codes "o") byte 114 is e) tt
spells_next spells.Or part byte is = tt
spells_next spells.D part byte is = choose_spell _ byte 111 _ _ (λ e. added part (codes "d") byte 111 is e) tt
spells_next spells.Do part byte is = choose_spell _ byte 116 _ _ (λ e. added part (codes "do") byte 116 is e) tt
spells_next spells.Dot part byte is = tt
spells_next spells.Other part byte is = tt

pub spelled_next : (spell : Spell) (part : List ℕ) (byte : ℕ) → Spelled spell part → continues_name byte ≡ true
    → Spelled (spell_next spell byte) (part ++ byte ∷ [])
spelled_next spell part byte spelled goes = (name_pushed part byte spelled.0 goes, spells_next spell part byte spelled.1)

-- a query begins
query_begins : (base : Base) → BaseFormed base → (part : List ℕ) (byte : ℕ) → base.1 ≡ None → part ≡ [] → Goes base part byte (query_begun byte)
query_begins base formed part byte none is =
    choose_test base part byte (begins_name byte) _ _
    (λ begins. in_leaf base formed _ (modes.Name (spell_begun byte)) (λ _. refl)
    (none, subst (Spelled (spell_begun byte)) (sym (ap (λ p. p ++ byte ∷ []) is)) (spelled_first byte begins)))
    (λ _. leaf_begins base formed part byte is)

word_opens : (spell : Spell) (part : List ℕ) → Spells spell part → opens_list spell ≡ true → (kind : Bool) × (part ≡ word kind)
word_opens spells.And part is h = (true, is)
word_opens spells.Or part is h = (false, is)
word_opens spells.A part is h = absurd cc
word_opens spells.An part is h = absurd cc
word_opens spells.O part is h = absurd cc
word_opens spells.D part is h = absurd cc
word_opens spells.Do part is h = absurd cc
word_opens spells.Dot part is h = absurd cc
word_opens spells.Other part is h = absurd cc

opened_frame : (front kind : List ℕ) → (front ++ []) ++ (kind ++ 40 ∷ []) ≡ ((front ++ (kind ++ (codes "(" ++ []))) ++ []) ++ []
opened_frame front kind = simp (append_assoc, append-nil)

named_text : (front part : List ℕ) → (front ++ []) ++ (part ++ 58 ∷ []) ≡ (front ++ (part ++ codes ":")) ++ []
named_text front part = simp (append_assoc, append-nil)

-- a name goes on, or ends
name_steps : (base : Base) → BaseFormed base → base.1 ≡ None → (spell : Spell) (part : List ℕ) (byte : ℕ) → Spelled spell part
    → Goes base part byte (name_next spell byte)
name_steps (stack, Some name) formed none spell part byte spelled = absurd cc
name_steps (stack, None) formed none spell part byte spelled =
    choose_test (stack, None) part byte (continues_name byte) _ _
    (λ goes. in_leaf (stack, None) formed _ (modes.Name (spell_next spell byte)) (λ _. refl) (refl, spelled_next spell part byte spelled goes))
    (λ _. choose_byte (stack, None) part byte 58 _ _
    (λ e. record {
      base = (stack, Some part);
      formed = (formed.0, spelled.0);
      deep = refl;
      part = [];
      partial = refl;
      whole = ap (λ b. (stack_text stack ++ []) ++ (part ++ b ∷ [])) e ∙ named_text (stack_text stack) part;
    })
    (λ _. choose_test (stack, None) part byte (opens_list spell && (byte == 40)) _ _
    (λ test.
    let tests = and_parts (opens_list spell) (byte == 40) test in
    let bracket : byte ≡ 40 = grind (arith, nat_tests) in
    let kind = word_opens spell part spelled.1 tests.0 in
    record {
      base = (frame stack kind.0 [], None);
      formed = ((formed.0, tt), tt);
      deep = refl;
      part = [];
      partial = (refl, refl);
      whole = ap₂ (λ p b. (stack_text stack ++ []) ++ (p ++ b ∷ [])) kind.1 bracket ∙ opened_frame (stack_text stack) (word kind.0);
    })
    (λ _. tt)))

-- a query ends
abbrev pub trees : List NamedTree → NamedTrees
trees [] = no_trees
trees (first ∷ others) = tree first (trees others)

all_pushed : (members : List NamedTree) (query : NamedTree) → AllByRecursion IsFormed members → IsFormed query → AllByRecursion IsFormed (members ++ query ∷ [])
all_pushed [] query all formed = (formed, tt)
all_pushed (first ∷ members) query all formed = (all.0, all_pushed members query all.1 formed)

pub others_formed : (members : List NamedTree) → AllByRecursion IsFormed members → AreFormed (trees members)
others_formed [] all = tt
others_formed (first ∷ members) all = (all.0, others_formed members all.1)

pub list_formed : (members : List NamedTree) (query : NamedTree) → AllByRecursion IsFormed members → IsFormed query → IsFormedList (trees (members ++ query ∷ []))
list_formed [] query all formed = (formed, tt)
list_formed (first ∷ members) query all formed = (all.0, others_formed (members ++ query ∷ []) (all_pushed members query all.1 formed))

others_members : (members : List NamedTree) (query : NamedTree) → others_text (trees (members ++ query ∷ [])) ≡ codes "," ++ list_text (trees (members ++ query ∷ []))
others_members [] query = refl
others_members (first ∷ members) query = refl

pub members_text : (members : List NamedTree) (query : NamedTree) → list_text (trees (members ++ query ∷ [])) ≡ flat_map with_comma members ++ tree_text query
members_text [] query = append-nil (tree_text query)
members_text (first ∷ members) query =
    ap (λ rest. tree_text first ++ rest) (others_members members query ∙ ap (λ rest. codes "," ++ rest) (members_text members query))
    ∙ simp append_assoc

abbrev pub joined_tree : Bool → NamedTrees → NamedTree
joined_tree true list = and list
joined_tree false list = or list

pub joined_text : (kind : Bool) (list : NamedTrees) → tree_text (joined_tree kind list) ≡ word kind ++ (codes "(" ++ (list_text list ++ codes ")"))
joined_text true list = refl
joined_text false list = refl

pub joined_formed : (kind : Bool) (list : NamedTrees) → IsFormedList list → IsFormed (joined_tree kind list)
joined_formed true list formed = formed
joined_formed false list formed = formed

comma_text : (front kind bracket members query : List ℕ) → (front ++ (kind ++ (bracket ++ members))) ++ (query ++ 44 ∷ [])
    ≡ ((front ++ (kind ++ (bracket ++ (members ++ ((query ++ 44 ∷ []) ++ []))))) ++ []) ++ []
comma_text front kind bracket members query = simp (append_assoc, append-nil)

bracket_text : (front kind bracket members query : List ℕ) → (front ++ (kind ++ (bracket ++ members))) ++ (query ++ 41 ∷ [])
    ≡ (front ++ []) ++ (kind ++ (bracket ++ ((members ++ query) ++ 41 ∷ [])))
bracket_text front kind bracket members query = simp (append_assoc, append-nil)

member_text : (front name part query : List ℕ) (byte wanted : ℕ) → name ++ part ≡ query → byte ≡ wanted
    → (front ++ name) ++ (part ++ byte ∷ []) ≡ front ++ (query ++ wanted ∷ [])
member_text front name part query byte wanted is e =
    ap (λ b. (front ++ name) ++ (part ++ b ∷ [])) e ∙ here ∙ ap (λ q. front ++ (q ++ wanted ∷ [])) is
  where
    here : (front ++ name) ++ (part ++ wanted ∷ []) ≡ front ++ ((name ++ part) ++ wanted ∷ [])
    here = simp append_assoc

query_ends : (base : Base) → BaseFormed base → (query : NamedTree) → IsFormed query → (part : List ℕ) (byte : ℕ) → name_text base.1 ++ part ≡ tree_text query
    → Goes base part byte (query_ended (nat_lt 0 (base_depth base)) byte)
query_ends (bottom, name) formed query good part byte is = tt
query_ends (frame under kind members, name) formed query good part byte is =
    let nested : nat_lt 0 (stack_depth under + 1) ≡ true = grind (arith, nat_tests) in
    let base : Base = (frame under kind members, name) in
    subst (λ b. Goes base part byte (query_ended b byte)) (sym nested)
    (choose_byte base part byte 44 _ _
    (λ e. record {
      base = (frame under kind (members ++ query ∷ []), None);
      formed = ((formed.0.0, all_pushed members query formed.0.1 good), tt);
      deep = refl;
      part = [];
      partial = (refl, refl);
      whole = member_text (stack_text (frame under kind members)) (name_text name) part (tree_text query) byte 44 is e
          ∙ comma_text (stack_text under) (word kind) (codes "(") (flat_map with_comma members) (tree_text query)
          ∙ sym (ap (λ m. ((stack_text under ++ (word kind ++ (codes "(" ++ m))) ++ []) ++ []) (flat_map-append with_comma members (query ∷ [])));
    })
    (λ _. choose_byte base part byte 41 _ _
    (λ e. record {
      base = (under, None);
      formed = (formed.0.0, tt);
      deep = omega arith;
      part = tree_text (joined_tree kind (trees (members ++ query ∷ [])));
      partial = (refl, joined_tree kind (trees (members ++ query ∷ [])), joined_formed kind _ (list_formed members query formed.0.1 good), refl);
      whole = member_text (stack_text (frame under kind members)) (name_text name) part (tree_text query) byte 41 is e
          ∙ bracket_text (stack_text under) (word kind) (codes "(") (flat_map with_comma members) (tree_text query)
          ∙ sym (ap (λ t. (stack_text under ++ []) ++ t) (joined_text kind (trees (members ++ query ∷ []))
          ∙ ap (λ m. word kind ++ (codes "(" ++ (m ++ codes ")"))) (members_text members query)));
    })
    (λ _. tt)))

leaf_ends : (base : Base) → BaseFormed base → (leaf : Leaf) → IsFormedLeaf leaf → (part : List ℕ) (byte : ℕ) → part ≡ leaf_text leaf
    → Goes base part byte (query_ended (nat_lt 0 (base_depth base)) byte)
leaf_ends base formed leaf good part byte is =
    query_ends base formed (one base.1 leaf) (formed.1, good) part byte (ap (λ t. name_text base.1 ++ t) is)

-- a value ends
number_ends : (base : Base) → BaseFormed base → (role : Role) (lead : Lead types.Long role) (z : ℤ) (part : List ℕ) (byte : ℕ)
    → part ≡ lead_text lead ++ number_text z → Goes base part byte (number_ended (nat_lt 0 (base_depth base)) role byte)
number_ends base formed roles.Alone alone z part byte is = leaf_ends base formed (leaves.Is (values.Long z)) tt part byte is
number_ends base formed roles.Bound below z part byte is = leaf_ends base formed (leaves.Below (values.Long z)) tt part byte is
number_ends base formed roles.Bound above z part byte is = leaf_ends base formed (leaves.Above (values.Long z)) tt part byte is
number_ends base formed roles.Low low z part byte is =
    choose_byte base part byte 59 _ _
    (λ e. in_leaf base formed _ modes.HighNumber (λ _. refl) (z, added part _ byte 59 is e ∙ append_assoc (codes "[") (number_text z) (59 ∷ [])))
    (λ _. tt)
number_ends base formed roles.High high z part byte is =
    choose_byte base part byte 93 _ _
    (λ e. in_leaf base formed _ modes.Ended (λ _. refl) (leaves.Range None (Some (values.Long z)), tt, added part _ byte 93 is e))
    (λ _. tt)
number_ends base formed roles.High (high_number y) z part byte is =
    choose_byte base part byte 93 _ _
    (λ e. in_leaf base formed _ modes.Ended (λ _. refl)
    (leaves.Range (Some (values.Long y)) (Some (values.Long z)), refl, added part _ byte 93 is e ∙ simp append_assoc))
    (λ _. tt)

quoted_ends : (base : Base) → BaseFormed base → (role : Role) (lead : Lead types.Text role) (bytes part : List ℕ) (byte : ℕ)
    → part ≡ lead_text lead ++ quoted bytes → Goes base part byte (quoted_next (nat_lt 0 (base_depth base)) role byte)
quoted_ends base formed roles.Alone alone bytes part byte is =
    choose_byte base part byte 42 _ _
    (λ e. in_leaf base formed _ modes.Ended (λ _. refl) (leaves.Prefix bytes, tt, added part _ byte 42 is e))
    (λ _. leaf_ends base formed (leaves.Is (values.Text bytes)) tt part byte is)
quoted_ends base formed roles.Bound below bytes part byte is = leaf_ends base formed (leaves.Below (values.Text bytes)) tt part byte is
quoted_ends base formed roles.Bound above bytes part byte is = leaf_ends base formed (leaves.Above (values.Text bytes)) tt part byte is
quoted_ends base formed roles.Low low bytes part byte is =
    choose_byte base part byte 59 _ _
    (λ e. in_leaf base formed _ modes.HighText (λ _. refl) (bytes, added part _ byte 59 is e ∙ append_assoc (codes "[") (quoted bytes) (59 ∷ [])))
    (λ _. tt)
quoted_ends base formed roles.High high bytes part byte is =
    choose_byte base part byte 93 _ _
    (λ e. in_leaf base formed _ modes.Ended (λ _. refl) (leaves.Range None (Some (values.Text bytes)), tt, added part _ byte 93 is e))
    (λ _. tt)
quoted_ends base formed roles.High (high_text text) bytes part byte is =
    choose_byte base part byte 93 _ _
    (λ e. in_leaf base formed _ modes.Ended (λ _. refl)
    (leaves.Range (Some (values.Text text)) (Some (values.Text bytes)), refl, added part _ byte 93 is e ∙ simp append_assoc))
    (λ _. tt)

-- the text of a value goes on
pushed : (front bytes : List ℕ) (byte : ℕ) (new : List ℕ) → new ≡ escaped byte
    → (front ++ (34 ∷ flat_map escaped bytes)) ++ new ≡ front ++ (34 ∷ flat_map escaped (bytes ++ byte ∷ []))
pushed front bytes byte new e =
    append_assoc front (34 ∷ flat_map escaped bytes) new
    ∙ ap (λ new. front ++ (34 ∷ (flat_map escaped bytes ++ new))) (e ∙ sym (append-nil (escaped byte)))
    ∙ sym (ap (λ text. front ++ (34 ∷ text)) (flat_map-append escaped bytes (byte ∷ [])))

plain_byte : (byte : ℕ) → (byte ≡ 34 → ⊥) → (byte ≡ 92 → ⊥) → byte ∷ [] ≡ escaped byte
plain_byte byte no_quote no_escape =
    let test : ((byte == 34) || (byte == 92)) ≡ false = grind (arith, nat_tests) in
    sym (ap (λ b. cond b (92 ∷ byte ∷ []) (byte ∷ [])) test)

special_byte : (byte : ℕ) → ((byte == 34) || (byte == 92)) ≡ true → 92 ∷ byte ∷ [] ≡ escaped byte
special_byte byte test = sym (ap (λ b. cond b (92 ∷ byte ∷ []) (byte ∷ [])) test)

escape_text : (front text : List ℕ) (byte : ℕ) → (front ++ (text ++ 92 ∷ [])) ++ byte ∷ [] ≡ (front ++ text) ++ (92 ∷ byte ∷ [])
escape_text front text byte = simp append_assoc

minus_digit : (byte : ℕ) → (nat_le 49 byte && nat_le byte 57) ≡ true → (49 ≤ byte) × (byte ≤ 57)
minus_digit byte h = grind (arith, nat_tests)

grows : (byte size n : ℕ) → size ≡ capped n → (is_digit byte && not (size == 0)) ≡ true → (48 ≤ byte) × (byte ≤ 57) × (0 < n)
grows byte size n e h = grind (arith, nat_tests)

-- a value goes on inside its leaf
pub pushed_minus : (name : Option (List ℕ)) (role : Role) (part : List ℕ) (byte : ℕ) → Partial name (modes.Minus role) part → (nat_le 49 byte && nat_le byte 57) ≡ true
    → Partial name (modes.Number role true (byte - 48)) (part ++ byte ∷ [])
pushed_minus name role part byte (lead, is) digit =
    let range = minus_digit byte digit in (
      lead,
      byte - 48,
      ap (λ p. p ++ byte ∷ []) is ∙ append_assoc (lead_text lead) (codes "-") (byte ∷ [])
          ∙ ap (λ d. lead_text lead ++ (45 ∷ d)) (ap (λ b. b ∷ []) (omega arith) ∙ numeral_digit (byte - 48) (omega arith)),
      omega arith,
      omega arith,
    )

pub pushed_digit : (name : Option (List ℕ)) (role : Role) (negative : Bool) (size : ℕ) (part : List ℕ) (byte : ℕ)
    → Partial name (modes.Number role negative size) part → (is_digit byte && not (size == 0)) ≡ true
    → Partial name (modes.Number role negative (capped (capped (size * 10) + (byte - 48)))) (part ++ byte ∷ [])
pushed_digit name role false size part byte (lead, n, is, sized) digit =
    let range = grows byte size n sized digit in (
      lead,
      n * 10 + (byte - 48),
      ap (λ p. p ++ byte ∷ []) is ∙ append_assoc (lead_text lead) (numeral n) (byte ∷ [])
          ∙ ap (λ d. lead_text lead ++ d) (ap (λ b. numeral n ++ b ∷ []) (omega arith) ∙ numeral_pushed n (byte - 48) (omega arith) (omega arith)),
      omega arith,
    )
pushed_digit name role true size part byte (lead, n, is, sized, some) digit =
    let range = grows byte size n sized digit in (
      lead,
      n * 10 + (byte - 48),
      ap (λ p. p ++ byte ∷ []) is ∙ append_assoc (lead_text lead) (45 ∷ numeral n) (byte ∷ [])
          ∙ ap (λ d. lead_text lead ++ (45 ∷ d)) (ap (λ b. numeral n ++ b ∷ []) (omega arith) ∙ numeral_pushed n (byte - 48) (omega arith) (omega arith)),
      omega arith,
      omega arith,
    )

pub pushed_quote : (name : Option (List ℕ)) (role : Role) (len : ℕ) (part : List ℕ) (byte : ℕ) → Partial name (modes.Text role len) part → byte ≡ 34
    → Partial name (modes.Quoted role) (part ++ byte ∷ [])
pushed_quote name role len part byte (lead, bytes, is) e =
    (lead, bytes, added part _ byte 34 is e ∙ append_assoc (lead_text lead) (34 ∷ flat_map escaped bytes) (34 ∷ []))

pub pushed_slash : (name : Option (List ℕ)) (role : Role) (len : ℕ) (part : List ℕ) (byte : ℕ) → Partial name (modes.Text role len) part → byte ≡ 92
    → Partial name (modes.Escape role len) (part ++ byte ∷ [])
pushed_slash name role len part byte (lead, bytes, is) e =
    (lead, bytes, added part _ byte 92 is e ∙ append_assoc (lead_text lead) (34 ∷ flat_map escaped bytes) (92 ∷ []))

pub pushed_byte : (name : Option (List ℕ)) (role : Role) (len next : ℕ) (part : List ℕ) (byte : ℕ) → Partial name (modes.Text role len) part
    → (byte ≡ 34 → ⊥) → (byte ≡ 92 → ⊥) → Partial name (modes.Text role next) (part ++ byte ∷ [])
pushed_byte name role len next part byte (lead, bytes, is) no_quote no_escape =
    (lead, bytes ++ byte ∷ [], ap (λ p. p ++ byte ∷ []) is ∙ pushed (lead_text lead) bytes byte (byte ∷ []) (plain_byte byte no_quote no_escape))

pub pushed_escaped : (name : Option (List ℕ)) (role : Role) (len next : ℕ) (part : List ℕ) (byte : ℕ) → Partial name (modes.Escape role len) part
    → ((byte == 34) || (byte == 92)) ≡ true → Partial name (modes.Text role next) (part ++ byte ∷ [])
pushed_escaped name role len next part byte (lead, bytes, is) test = (
  lead,
  bytes ++ byte ∷ [],
  ap (λ p. p ++ byte ∷ []) is ∙ escape_text (lead_text lead) (34 ∷ flat_map escaped bytes) byte
      ∙ pushed (lead_text lead) bytes byte (92 ∷ byte ∷ []) (special_byte byte test),
)

pub step : (base : Base) → BaseFormed base → (mode : Mode) (part : List ℕ) (byte : ℕ) → Partial base.1 mode part
    → Goes base part byte (next_mode (nat_lt 0 (base_depth base)) mode byte)
unfolding next_mode
step base formed modes.Start part byte (none, is) = query_begins base formed part byte none is
step base formed modes.Opened part byte (none, is) = query_begins base formed part byte none is
step base formed (modes.Name spell) part byte (none, spelled) = name_steps base formed none spell part byte spelled
step base formed modes.Named part byte is = leaf_begins base formed part byte is
step base formed modes.Bound part byte (true, is) = value_begins base formed roles.Bound above above part byte is is
step base formed modes.Bound part byte (false, is) = value_begins base formed roles.Bound below below part byte is is
step base formed modes.Low part byte is =
    choose_byte base part byte 59 _ _
    (λ e. in_leaf base formed _ modes.High (λ _. refl) (added part _ byte 59 is e))
    (λ _. value_begins base formed roles.Low low low part byte is is)
step base formed modes.High part byte is =
    choose_byte base part byte 93 _ _
    (λ e. in_leaf base formed _ modes.Ended (λ _. refl) (leaves.Range None None, tt, added part _ byte 93 is e))
    (λ _. value_begins base formed roles.High high high part byte is is)
step base formed modes.HighNumber part byte (z, is) =
    choose_byte base part byte 93 _ _
    (λ e. in_leaf base formed _ modes.Ended (λ _. refl)
    (leaves.Range (Some (values.Long z)) None, tt, added part _ byte 93 is e ∙ simp append_assoc))
    (λ _. number_begins base formed roles.High (high_number z) part byte is)
step base formed modes.HighText part byte (text, is) =
    choose_byte base part byte 93 _ _
    (λ e. in_leaf base formed _ modes.Ended (λ _. refl)
    (leaves.Range (Some (values.Text text)) None, tt, added part _ byte 93 is e ∙ simp append_assoc))
    (λ _. text_begins base formed roles.High (high_text text) part byte None is (λ _. tt))
step base formed (modes.Minus role) part byte is =
    choose_test base part byte (nat_le 49 byte && nat_le byte 57) _ _
    (λ digit. in_leaf base formed _ (modes.Number role true (byte - 48)) (λ _. refl) (pushed_minus base.1 role part byte is digit))
    (λ _. tt)
step base formed (modes.Number role false size) part byte (lead, n, is, sized) =
    choose_test base part byte (is_digit byte && not (size == 0)) _ _
    (λ digit. in_leaf base formed _ (modes.Number role false (capped (capped (size * 10) + (byte - 48)))) (λ _. refl)
    (pushed_digit base.1 role false size part byte (lead, n, is, sized) digit))
    (λ _. number_ends base formed role lead (pos n) part byte is)
step base formed (modes.Number role true size) part byte (lead, n, is, sized, some) =
    choose_test base part byte (is_digit byte && not (size == 0)) _ _
    (λ digit. in_leaf base formed _ (modes.Number role true (capped (capped (size * 10) + (byte - 48)))) (λ _. refl)
    (pushed_digit base.1 role true size part byte (lead, n, is, sized, some) digit))
    (λ _. number_ends base formed role lead (negsuc (n - 1)) part byte (is ∙ ap (λ n. lead_text lead ++ (45 ∷ numeral n)) (omega arith)))
step base formed (modes.Text role len) part byte is =
    in_some base part byte (byte == 34) _ _ (choose_byte base part byte 34 _ _
    (λ e. in_leaf base formed _ (modes.Quoted role) (λ _. refl) (pushed_quote base.1 role len part byte is e))
    (λ no_quote. in_some base part byte (byte == 92) _ _ (choose_byte base part byte 92 _ _
    (λ e. in_leaf base formed _ (modes.Escape role len) (λ _. refl) (pushed_slash base.1 role len part byte is e))
    (λ no_escape. in_leaf base formed _ (modes.Text role (capped (len + 1))) (λ _. refl)
    (pushed_byte base.1 role len (capped (len + 1)) part byte is no_quote no_escape)))))
step base formed (modes.Escape role len) part byte is =
    choose_test base part byte ((byte == 34) || (byte == 92)) _ _
    (λ test. in_leaf base formed _ (modes.Text role (capped (len + 1))) (λ _. refl) (pushed_escaped base.1 role len (capped (len + 1)) part byte is test))
    (λ _. tt)
step base formed (modes.Quoted role) part byte (lead, bytes, is) = quoted_ends base formed role lead bytes part byte is
step base formed modes.Ended part byte (leaf, good, is) = leaf_ends base formed leaf good part byte is
step base formed modes.Closed part byte (none, query, good, is) =
    query_ends base formed query good part byte (ap (λ n. name_text n ++ part) none ∙ is)
