-- Where the survey of a text comes to over the text of a query that stands in it.
use Rattle.std.proofs.Common.{◌≡◌, ◌<◌, ◌≤◌, ◌+◌, ◌-◌, ℕ, zero, suc, pos, negsuc, List, [], ◌∷◌, ◌++◌, length, take, drop, Bool, true, false, ◌&&◌, cond, nat_lt, max, Option, Some, None, refl, sym, ap, subst, ◌∙◌}
use Rattle.std.proofs.Common.{append_assoc, arith, codes}
use Rattle.std.specs.Option.{option_and_then, option_map}
use Rattle.std.specs.List.{list_all}
use Rattle.std.proofs.Math.Bool.{and_assoc}
use Rattle.std.proofs.Math.Nat.{max-eq_left}
use Rattle.std.proofs.Math.Seq.{take-append_seam, drop-append_seam, drop-nil}
use Rattle.std.proofs.lemmas.Bool.Decides.{nat_tests}
use Rattle.std.proofs.lemmas.List.{length-append}
use Rattle.attr_types.specs.declared.kind.ValueType.{ValueType}
use Rattle.attr_types.specs.declared.field.Field.{Field}
use Rattle.attr_types.specs.declared.value.Value.TheVariants as values
use Rattle.attr_types.specs.declared.query.Leaf.{Leaf}
use Rattle.attr_types.specs.declared.query.Leaf.TheVariants.{Is, Prefix, Range, Below, Above}
use Rattle.attr_types.specs.Fitting.{is_of_type}
use Rattle.attr_types.specs.Names.{is_name, field_named}
use Rattle.query_text.specs.declared.mode.Mode.{Mode}
use Rattle.query_text.specs.declared.mode.Mode.TheVariants as modes
use Rattle.query_text.specs.declared.mode.Spell.{Spell}
use Rattle.query_text.specs.declared.mode.Spell.TheVariants as spells
use Rattle.query_text.specs.declared.survey.Survey.{Survey}
use Rattle.query_text.specs.Grammar.{NamedTree, NamedTrees, one, and, or, no_trees, tree, leaf_text, tree_text, list_text, others_text, leaf_values}
use Rattle.query_text.specs.Grammar.{IsFormed, IsFormedLeaf, IsFormedList, AreFormed, field_number, type_at, first_found, unknown_if, unknown_in, unknown_list, unknown_others}
use Rattle.query_text.specs.Grammar.{tree_has_types, list_has_types, is_in_range, tree_in_range, list_in_range, levels_of, list_levels}
use Rattle.query_text.specs.Modes.{next_mode}
use Rattle.query_text.specs.Survey.{is_right, is_in_size, entered, surveyed_after, ends_query, name_before}
use Rattle.query_text.proofs.Walks.{through, through-append, walk}
use Rattle.query_text.proofs.Paths.{is_plain, Pace, pace_at, pace_to, pace_next, Path, TakesLeaf, Begins, leaf_taken, spell_of, name_path}
use Rattle.query_text.proofs.LeafPaths.{leaf_path, leaf_mode}

abbrev pub tree_mode : NamedTree → Mode
tree_mode (one name leaf) = leaf_mode leaf
tree_mode (and list) = modes.Closed
tree_mode (or list) = modes.Closed

abbrev pub others_mode : Mode → NamedTrees → Mode
others_mode mode no_trees = mode
others_mode mode (tree first others) = others_mode (tree_mode first) others

abbrev pub list_mode : NamedTrees → Mode
list_mode no_trees = modes.Start
list_mode (tree first others) = others_mode (tree_mode first) others

-- a query may end in this mode
pub record Ends (mode : Mode) : Type 0 where
  pub comma : next_mode true mode 44 ≡ Some modes.Start
  pub bracket : next_mode true mode 41 ≡ Some modes.Closed
  pub whole : ends_query mode ≡ true

ends_leaf : (leaf : Leaf) → Ends (leaf_mode leaf)
unfolding next_mode
ends_leaf (Is (values.Long (pos n))) = record { comma = refl; bracket = refl; whole = refl }
ends_leaf (Is (values.Long (negsuc n))) = record { comma = refl; bracket = refl; whole = refl }
ends_leaf (Is (values.Text bytes)) = record { comma = refl; bracket = refl; whole = refl }
ends_leaf (Prefix bytes) = record { comma = refl; bracket = refl; whole = refl }
ends_leaf (Range low high) = record { comma = refl; bracket = refl; whole = refl }
ends_leaf (Below (values.Long (pos n))) = record { comma = refl; bracket = refl; whole = refl }
ends_leaf (Below (values.Long (negsuc n))) = record { comma = refl; bracket = refl; whole = refl }
ends_leaf (Below (values.Text bytes)) = record { comma = refl; bracket = refl; whole = refl }
ends_leaf (Above (values.Long (pos n))) = record { comma = refl; bracket = refl; whole = refl }
ends_leaf (Above (values.Long (negsuc n))) = record { comma = refl; bracket = refl; whole = refl }
ends_leaf (Above (values.Text bytes)) = record { comma = refl; bracket = refl; whole = refl }

pub ends_tree : (query : NamedTree) → Ends (tree_mode query)
unfolding next_mode
ends_tree (one name leaf) = ends_leaf leaf
ends_tree (and list) = record { comma = refl; bracket = refl; whole = refl }
ends_tree (or list) = record { comma = refl; bracket = refl; whole = refl }

ends_others : (mode : Mode) (list : NamedTrees) → Ends mode → Ends (others_mode mode list)
ends_others mode no_trees ends = ends
ends_others mode (tree first others) ends = ends_others (tree_mode first) others (ends_tree first)

ends_list : (list : NamedTrees) → IsFormedList list → Ends (list_mode list)
ends_list no_trees formed = absurd formed
ends_list (tree first others) formed = ends_others (tree_mode first) others (ends_tree first)

pub begins_start : Begins modes.Start
unfolding next_mode
begins_start nested byte = refl

begins_opened : Begins modes.Opened
unfolding next_mode
begins_opened nested byte = refl

pub named_taken : TakesLeaf modes.Named
unfolding next_mode
named_taken nested byte plain = refl

level_at_least : (list : NamedTrees) → IsFormedList list → 1 ≤ list_levels list
level_at_least no_trees formed = absurd formed
level_at_least (tree (one name leaf) others) formed = omega arith
level_at_least (tree (and list) others) formed = omega arith
level_at_least (tree (or list) others) formed = omega arith

-- ---- a survey inside a leaf or a name

abbrev pub survey_with : Survey → Pace → Survey
survey_with survey pace = record {
  mode = pace.mode;
  depth = survey.depth;
  levels = survey.levels;
  begins = survey.begins;
  wanted = survey.wanted;
  unknown = survey.unknown;
  right = pace.right;
  small = pace.small;
}

unknown_kept : (unknown : Option ℕ) → first_found unknown None ≡ unknown
unknown_kept None = refl
unknown_kept (Some place) = refl

kept : (survey : Survey) (mode : Mode) → survey.depth < survey.levels
    → (◌≡◌ {A = Survey} (record {
      mode = mode;
      depth = survey.depth;
      levels = max survey.levels (survey.depth + 1);
      begins = survey.begins;
      wanted = survey.wanted;
      unknown = first_found survey.unknown None;
      right = survey.right && is_right survey.wanted mode;
      small = survey.small && is_in_size mode;
    }) (survey_with survey (pace_at mode (survey.right && is_right survey.wanted mode) (survey.small && is_in_size mode))))
kept survey mode below =
    let levels : max survey.levels (survey.depth + 1) ≡ survey.levels = max-eq_left (omega arith) in
    λ i. record {
      mode = mode;
      depth = survey.depth;
      levels = levels i;
      begins = survey.begins;
      wanted = survey.wanted;
      unknown = unknown_kept survey.unknown i;
      right = survey.right && is_right survey.wanted mode;
      small = survey.small && is_in_size mode;
    }

plain_entered : (fields : List Field) (text : List ℕ) (survey : Survey) (place : ℕ) (mode : Mode) → is_plain mode ≡ true → survey.depth < survey.levels
    → entered fields text survey place mode
    ≡ survey_with survey (pace_at mode (survey.right && is_right survey.wanted mode) (survey.small && is_in_size mode))
plain_entered fields text survey place modes.Start plain below = absurd cc
plain_entered fields text survey place modes.Opened plain below = absurd cc
plain_entered fields text survey place (modes.Name spell) plain below = kept survey (modes.Name spell) below
plain_entered fields text survey place modes.Named plain below = absurd cc
plain_entered fields text survey place modes.Bound plain below = kept survey modes.Bound below
plain_entered fields text survey place modes.Low plain below = kept survey modes.Low below
plain_entered fields text survey place modes.High plain below = kept survey modes.High below
plain_entered fields text survey place modes.HighNumber plain below = kept survey modes.HighNumber below
plain_entered fields text survey place modes.HighText plain below = kept survey modes.HighText below
plain_entered fields text survey place (modes.Minus role) plain below = kept survey (modes.Minus role) below
plain_entered fields text survey place (modes.Number role negative size) plain below = kept survey (modes.Number role negative size) below
plain_entered fields text survey place (modes.Text role len) plain below = kept survey (modes.Text role len) below
plain_entered fields text survey place (modes.Escape role len) plain below = kept survey (modes.Escape role len) below
plain_entered fields text survey place (modes.Quoted role) plain below = kept survey (modes.Quoted role) below
plain_entered fields text survey place modes.Ended plain below = kept survey modes.Ended below
plain_entered fields text survey place modes.Closed plain below = absurd cc

lifted : (fields : List Field) (text : List ℕ) (survey : Survey) (place : ℕ) (bytes : List ℕ) (pace last : Pace) → survey.depth < survey.levels
    → walk (pace_next survey.wanted (nat_lt 0 survey.depth)) pace bytes ≡ Some last
    → through (surveyed_after fields text) (survey_with survey pace) place bytes ≡ Some (survey_with survey last)
unfolding walk through
lifted fields text survey place [] pace last below e =
    let same : pace ≡ last = cc in ap (λ p. Some (survey_with survey p)) same
lifted fields text survey place (byte ∷ bytes) pace last below e =
    (elim (next_mode (nat_lt 0 survey.depth) pace.mode byte) as (λ o.
    option_and_then (λ more. walk (pace_next survey.wanted (nat_lt 0 survey.depth)) more bytes) (option_and_then (pace_to survey.wanted pace) o) ≡ Some last
    → option_and_then (λ next. through (surveyed_after fields text) next (place + 1) bytes)
    (option_map (entered fields text (survey_with survey pace) place) o) ≡ Some (survey_with survey last)) [
      | None ↦ λ f. absurd cc
      | Some mode ↦ λ f. plainly mode (λ more g. lifted fields text survey (place + 1) bytes more last below g) (is_plain mode) refl f
    ]) e
  where
    plainly : (mode : Mode) → ((more : Pace) → walk (pace_next survey.wanted (nat_lt 0 survey.depth)) more bytes ≡ Some last
        → through (surveyed_after fields text) (survey_with survey more) (place + 1) bytes ≡ Some (survey_with survey last))
        → (plain : Bool) → is_plain mode ≡ plain
        → option_and_then (λ more. walk (pace_next survey.wanted (nat_lt 0 survey.depth)) more bytes)
        (cond (is_plain mode) (Some (pace_at mode (pace.right && is_right survey.wanted mode) (pace.small && is_in_size mode))) None) ≡ Some last
        → through (surveyed_after fields text) (entered fields text (survey_with survey pace) place mode) (place + 1) bytes ≡ Some (survey_with survey last)
    plainly mode again true is f =
        ap (λ s. through (surveyed_after fields text) s (place + 1) bytes) (plain_entered fields text (survey_with survey pace) place mode is below)
        ∙ again (pace_at mode (pace.right && is_right survey.wanted mode) (pace.small && is_in_size mode))
        (sym (ap (λ b. option_and_then (λ more. walk (pace_next survey.wanted (nat_lt 0 survey.depth)) more bytes)
        (cond b (Some (pace_at mode (pace.right && is_right survey.wanted mode) (pace.small && is_in_size mode))) None)) is) ∙ f)
    plainly mode again false is f =
        let none : option_and_then (λ more. walk (pace_next survey.wanted (nat_lt 0 survey.depth)) more bytes) None ≡ Some last =
        sym (ap (λ b. option_and_then (λ more. walk (pace_next survey.wanted (nat_lt 0 survey.depth)) more bytes)
        (cond b (Some (pace_at mode (pace.right && is_right survey.wanted mode) (pace.small && is_in_size mode))) None)) is) ∙ f in
        absurd cc

path_through : (fields : List Field) (text : List ℕ) (survey : Survey) (place : ℕ) (value : ValueType) (bytes : List ℕ) (to : Mode) (right small : Bool)
    → survey.wanted ≡ value → survey.depth < survey.levels → Path value survey.mode bytes to right small
    → through (surveyed_after fields text) survey place bytes ≡ Some (survey_with survey (pace_at to (survey.right && right) (survey.small && small)))
path_through fields text survey place value bytes to right small wanted below path =
    lifted fields text survey place bytes (pace_at survey.mode survey.right survey.small) _ below
    (subst (λ v. Path v survey.mode bytes to right small) (sym wanted) path (nat_lt 0 survey.depth) survey.right survey.small)

-- ---- bytes that stand in the text

abbrev pub Stands : List ℕ → ℕ → List ℕ → Type 0
Stands text place bytes = (rest : List ℕ) × (drop place text ≡ bytes ++ rest)

pub stands_left : (text : List ℕ) (place : ℕ) (xs ys : List ℕ) → Stands text place (xs ++ ys) → Stands text place xs
stands_left text place xs ys (rest, e) = (ys ++ rest, e ∙ append_assoc xs ys rest)

drop_more : (m n : ℕ) (xs : List ℕ) → drop (m + n) xs ≡ drop n (drop m xs)
drop_more zero n xs = let none : 0 + n ≡ n = omega arith in ap (λ k. drop k xs) none
drop_more (suc m) n [] = drop-nil (suc m + n) ∙ sym (drop-nil n)
drop_more (suc m) n (x ∷ xs) =
    let one : suc m + n ≡ suc (m + n) = omega arith in ap (λ k. drop k (x ∷ xs)) one ∙ drop_more m n xs

pub stands_right : (text : List ℕ) (place : ℕ) (xs ys : List ℕ) → Stands text place (xs ++ ys) → Stands text (place + length xs) ys
stands_right text place xs ys (rest, e) = (
  rest,
  drop_more place (length xs) text ∙ ap (drop (length xs)) (e ∙ append_assoc xs ys rest) ∙ drop-append_seam xs (ys ++ rest),
)

stood : (text : List ℕ) (begins place : ℕ) (name : List ℕ) → begins ≡ place → Stands text place name → name_before text begins (place + length name) ≡ name
stood text begins place name same (rest, e) =
    let here : (place + length name) - place ≡ length name = omega arith in
    ap (λ b. name_before text b (place + length name)) same
    ∙ ap (λ k. take k (drop place text)) here
    ∙ ap (take (length name)) e ∙ take-append_seam name rest

-- ---- a survey over a query

-- a query is read next
pub record Ready (fields : List Field) (survey : Survey) (place : ℕ) : Type 0 where
  pub begun : survey.begins ≡ place
  pub wanted : survey.wanted ≡ type_at fields 0
  pub mode : Begins survey.mode
  pub below : survey.depth < survey.levels

-- where the survey comes to, seen without what the last leaf left
pub record Reaches (fields : List Field) (text : List ℕ) (survey : Survey) (place : ℕ) (bytes : List ℕ) (mode : Mode) (levels : ℕ) (unknown : Option ℕ)
    (right small : Bool) : Type 0 where
  pub next : Survey
  pub is : through (surveyed_after fields text) survey place bytes ≡ Some next
  pub mode_is : next.mode ≡ mode
  pub depth_is : next.depth ≡ survey.depth
  pub levels_is : next.levels ≡ max survey.levels (survey.depth + levels)
  pub unknown_is : next.unknown ≡ first_found survey.unknown unknown
  pub right_is : next.right ≡ (survey.right && right)
  pub small_is : next.small ≡ (survey.small && small)

-- one part after another
on : (fields : List Field) (text : List ℕ) (survey next : Survey) (place : ℕ) (xs ys : List ℕ) (o : Option Survey)
    → through (surveyed_after fields text) survey place xs ≡ Some next → through (surveyed_after fields text) next (place + length xs) ys ≡ o
    → through (surveyed_after fields text) survey place (xs ++ ys) ≡ o
on fields text survey next place xs ys o p q =
    through-append (surveyed_after fields text) survey place xs ys
    ∙ ap (option_and_then (λ next. through (surveyed_after fields text) next (place + length xs) ys)) p ∙ q

byte_through : (fields : List Field) (text : List ℕ) (survey : Survey) (place byte : ℕ) (mode : Mode)
    → next_mode (nat_lt 0 survey.depth) survey.mode byte ≡ Some mode
    → through (surveyed_after fields text) survey place (byte ∷ []) ≡ Some (entered fields text survey place mode)
unfolding through
byte_through fields text survey place byte mode next =
    ap (λ o. option_and_then (λ next. through (surveyed_after fields text) next (place + 1) []) (option_map (entered fields text survey place) o)) next

-- a leaf
leaf_reaches : (fields : List Field) (text : List ℕ) (survey : Survey) (place number : ℕ) (leaf : Leaf) → survey.wanted ≡ type_at fields number
    → survey.depth < survey.levels → TakesLeaf survey.mode → IsFormedLeaf leaf
    → Reaches fields text survey place (leaf_text leaf) (leaf_mode leaf) 1 None
    (list_all (is_of_type (type_at fields number)) (leaf_values leaf)) (list_all is_in_range (leaf_values leaf))
leaf_reaches fields text survey place number leaf wanted below takes formed = record {
  next = survey_with survey (pace_at (leaf_mode leaf) (survey.right && list_all (is_of_type (type_at fields number)) (leaf_values leaf))
      (survey.small && list_all is_in_range (leaf_values leaf)));
  is = path_through fields text survey place (type_at fields number) (leaf_text leaf) (leaf_mode leaf) _ _ wanted below
      (leaf_path (type_at fields number) survey.mode takes leaf formed);
  mode_is = refl;
  depth_is = refl;
  levels_is = omega arith;
  unknown_is = sym (unknown_kept survey.unknown);
  right_is = refl;
  small_is = refl;
}

and_past : (b c : Bool) → (((b && true) && true) && c) ≡ (b && c)
and_past true c = refl
and_past false c = refl

first_past : (a b : Option ℕ) → first_found (first_found a b) None ≡ first_found a b
first_past None None = refl
first_past None (Some b) = refl
first_past (Some a) b = refl

named_text : (name colon leaf : List ℕ) → (name ++ colon) ++ leaf ≡ name ++ (colon ++ leaf)
named_text name colon leaf = append_assoc name colon leaf

colon_next : (spell : Spell) (nested : Bool) → next_mode nested (modes.Name spell) 58 ≡ Some modes.Named
unfolding next_mode
colon_next spell nested = refl

-- the survey after a name and its `:`
pub name_through : (fields : List Field) (text : List ℕ) (survey : Survey) (place : ℕ) (name rest : List ℕ) → Ready fields survey place → is_name name ≡ true
    → Stands text place ((name ++ codes ":") ++ rest)
    → through (surveyed_after fields text) survey place (name ++ codes ":") ≡ Some (record {
      mode = modes.Named;
      depth = survey.depth;
      levels = max survey.levels (survey.depth + 1);
      begins = survey.begins;
      wanted = type_at fields (field_number fields (Some name));
      unknown = first_found survey.unknown (unknown_if place (field_named fields name));
      right = (survey.right && true) && true;
      small = (survey.small && true) && true;
    })
name_through fields text survey place name rest ready is stands =
    let inside : Survey = survey_with survey (pace_at (modes.Name (spell_of name)) (survey.right && true) (survey.small && true)) in
    on fields text survey inside place name (codes ":") _
    (path_through fields text survey place survey.wanted name (modes.Name (spell_of name)) true true refl ready.below
    (name_path survey.wanted survey.mode ready.mode name is))
    (byte_through fields text inside (place + length name) 58 modes.Named (colon_next (spell_of name) (nat_lt 0 survey.depth))
    ∙ (let found : name_before text survey.begins (place + length name) ≡ name =
    stood text survey.begins place name ready.begun
    (stands_left text place name (codes ":") (stands_left text place (name ++ codes ":") rest stands)) in
    λ i. Some (record {
      mode = modes.Named;
      depth = survey.depth;
      levels = max survey.levels (survey.depth + 1);
      begins = survey.begins;
      wanted = type_at fields (field_number fields (Some (found i)));
      unknown = first_found survey.unknown (unknown_if (ready.begun i) (field_named fields (found i)));
      right = (survey.right && true) && true;
      small = (survey.small && true) && true;
    })))

pub one_through : (fields : List Field) (text : List ℕ) (survey : Survey) (place : ℕ) (name : Option (List ℕ)) (leaf : Leaf) → Ready fields survey place
    → IsFormed (one name leaf) → Stands text place (tree_text (one name leaf))
    → Reaches fields text survey place (tree_text (one name leaf)) (leaf_mode leaf) 1 (unknown_in fields place (one name leaf))
    (tree_has_types fields (one name leaf)) (tree_in_range (one name leaf))
one_through fields text survey place None leaf ready formed stands =
    leaf_reaches fields text survey place 0 leaf ready.wanted ready.below (leaf_taken survey.mode ready.mode) formed.1
one_through fields text survey place (Some name) leaf ready formed stands =
    let named = name_through fields text survey place name (leaf_text leaf) ready formed.0 stands in
    let then = leaf_reaches fields text (record {
      mode = modes.Named;
      depth = survey.depth;
      levels = max survey.levels (survey.depth + 1);
      begins = survey.begins;
      wanted = type_at fields (field_number fields (Some name));
      unknown = first_found survey.unknown (unknown_if place (field_named fields name));
      right = (survey.right && true) && true;
      small = (survey.small && true) && true;
    }) (place + length (name ++ codes ":")) (field_number fields (Some name)) leaf refl (omega (arith, ready.below)) named_taken formed.1 in
    record {
      next = then.next;
      is = on fields text survey _ place (name ++ codes ":") (leaf_text leaf) _ named then.is;
      mode_is = then.mode_is;
      depth_is = then.depth_is;
      levels_is = then.levels_is ∙ omega arith;
      unknown_is = then.unknown_is ∙ first_past survey.unknown (unknown_if place (field_named fields name));
      right_is = then.right_is ∙ and_past survey.right _;
      small_is = then.small_is ∙ and_past survey.small _;
    }

-- ---- lists

-- the survey after the opening bracket
abbrev opened : List Field → Survey → ℕ → Survey
opened fields survey place = record {
  mode = modes.Opened;
  depth = survey.depth + 1;
  levels = max survey.levels ((survey.depth + 1) + 1);
  begins = place;
  wanted = type_at fields 0;
  unknown = first_found survey.unknown None;
  right = (survey.right && true) && true;
  small = (survey.small && true) && true;
}

open_through : (fields : List Field) (text : List ℕ) (survey : Survey) (place : ℕ) (word : List ℕ) → Ready fields survey place → is_name word ≡ true
    → ((nested : Bool) → next_mode nested (modes.Name (spell_of word)) 40 ≡ Some modes.Opened)
    → through (surveyed_after fields text) survey place (word ++ codes "(") ≡ Some (opened fields survey ((place + length word) + 1))
open_through fields text survey place word ready is next =
    let inside : Survey = survey_with survey (pace_at (modes.Name (spell_of word)) (survey.right && true) (survey.small && true)) in
    on fields text survey inside place word (codes "(") _
    (path_through fields text survey place survey.wanted word (modes.Name (spell_of word)) true true refl ready.below
    (name_path survey.wanted survey.mode ready.mode word is))
    (byte_through fields text inside (place + length word) 40 modes.Opened (next (nat_lt 0 survey.depth)))

opened_ready : (fields : List Field) (survey : Survey) (place : ℕ) → Ready fields (opened fields survey place) place
opened_ready fields survey place = record { begun = refl; wanted = refl; mode = begins_opened; below = omega arith }

and_end : (a b c : Bool) → a ≡ ((b && true) && true) → ((a && c) && true) ≡ (b && c)
and_end a true c e = (λ i. (e i && c) && true) ∙ sym_and c
  where
    sym_and : (c : Bool) → (c && true) ≡ c
    sym_and true = refl
    sym_and false = refl
and_end a false c e = λ i. (e i && c) && true

first_same : (a b : Option ℕ) → first_found (first_found (first_found a None) b) None ≡ first_found a b
first_same None None = refl
first_same None (Some b) = refl
first_same (Some a) b = refl

-- a list that was opened, and its closing bracket
closed : (fields : List Field) (text : List ℕ) (survey : Survey) (place at : ℕ) (front : List ℕ) (list : NamedTrees) → IsFormedList list
    → through (surveyed_after fields text) survey place front ≡ Some (opened fields survey at)
    → Reaches fields text (opened fields survey at) (place + length front) (list_text list) (list_mode list) (list_levels list)
    (unknown_list fields at list) (list_has_types fields list) (list_in_range list)
    → Reaches fields text survey place ((front ++ list_text list) ++ codes ")") modes.Closed (list_levels list + 1)
    (unknown_list fields at list) (list_has_types fields list) (list_in_range list)
closed fields text survey place at front list formed begun inside =
    let nested : nat_lt 0 (survey.depth + 1) ≡ true = grind (arith, nat_tests) in
    let some : 1 ≤ list_levels list = level_at_least list formed in
    let bracket : next_mode (nat_lt 0 inside.next.depth) inside.next.mode 41 ≡ Some modes.Closed =
    ap (λ d. next_mode (nat_lt 0 d) inside.next.mode 41) inside.depth_is
    ∙ ap (λ b. next_mode b inside.next.mode 41) nested
    ∙ ap (λ m. next_mode true m 41) inside.mode_is ∙ (ends_list list formed).bracket in
    let end = place + length (front ++ list_text list) in
    record {
      next = entered fields text inside.next end modes.Closed;
      is = on fields text survey inside.next place (front ++ list_text list) (codes ")") _
          (on fields text survey (opened fields survey at) place front (list_text list) _ begun inside.is)
          (byte_through fields text inside.next end 41 modes.Closed bracket);
      mode_is = refl;
      depth_is = omega (arith, inside.depth_is);
      levels_is = omega (arith, inside.levels_is, inside.depth_is);
      unknown_is = ap (λ u. first_found u None) inside.unknown_is ∙ first_same survey.unknown (unknown_list fields at list);
      right_is = ap (λ r. r && true) inside.right_is ∙ and_end _ survey.right _ refl;
      small_is = ap (λ r. r && true) inside.small_is ∙ and_end _ survey.small _ refl;
    }

first_assoc : (a b c : Option ℕ) → first_found (first_found a b) c ≡ first_found a (first_found b c)
first_assoc None b c = refl
first_assoc (Some a) b c = refl

nothing_reaches : (fields : List Field) (text : List ℕ) (survey : Survey) (place : ℕ) (mode : Mode) → survey.mode ≡ mode → survey.depth < survey.levels
    → Reaches fields text survey place [] mode 0 None true true
unfolding through
nothing_reaches fields text survey place mode same below = record {
  next = survey;
  is = refl;
  mode_is = same;
  depth_is = refl;
  levels_is = omega arith;
  unknown_is = sym (unknown_kept survey.unknown);
  right_is = and_one survey.right;
  small_is = and_one survey.small;
}
  where
    and_one : (b : Bool) → b ≡ (b && true)
    and_one true = refl
    and_one false = refl

-- one member, and then the others
both : (fields : List Field) (text : List ℕ) (survey : Survey) (place : ℕ) (xs ys : List ℕ) (mode mode' : Mode) (levels levels' : ℕ)
    (unknown unknown' : Option ℕ) (right right' small small' : Bool)
    → (first : Reaches fields text survey place xs mode levels unknown right small)
    → Reaches fields text first.next (place + length xs) ys mode' levels' unknown' right' small'
    → Reaches fields text survey place (xs ++ ys) mode' (max levels levels') (first_found unknown unknown') (right && right') (small && small')
both fields text survey place xs ys mode mode' levels levels' unknown unknown' right right' small small' first second = record {
  next = second.next;
  is = on fields text survey first.next place xs ys _ first.is second.is;
  mode_is = second.mode_is;
  depth_is = second.depth_is ∙ first.depth_is;
  levels_is = omega (arith, second.levels_is, first.levels_is, first.depth_is);
  unknown_is = second.unknown_is ∙ ap (λ u. first_found u unknown') first.unknown_is ∙ first_assoc survey.unknown unknown unknown';
  right_is = second.right_is ∙ ap (λ b. b && right') first.right_is ∙ and_assoc survey.right right right';
  small_is = second.small_is ∙ ap (λ b. b && small') first.small_is ∙ and_assoc survey.small small small';
}

-- the survey after a comma
abbrev comma_after : List Field → Survey → ℕ → Survey
comma_after fields survey place = record {
  mode = modes.Start;
  depth = survey.depth;
  levels = max survey.levels (survey.depth + 1);
  begins = place + 1;
  wanted = type_at fields 0;
  unknown = first_found survey.unknown None;
  right = survey.right && true;
  small = survey.small && true;
}

and_of : (b : Bool) → b ≡ (b && true)
and_of true = refl
and_of false = refl

comma_next : (survey : Survey) → Ends survey.mode → 0 < survey.depth → next_mode (nat_lt 0 survey.depth) survey.mode 44 ≡ Some modes.Start
comma_next survey ends nested =
    let inside : nat_lt 0 survey.depth ≡ true = grind (arith, nat_tests) in
    ap (λ b. next_mode b survey.mode 44) inside ∙ ends.comma

comma_reaches : (fields : List Field) (text : List ℕ) (survey : Survey) (place : ℕ) → Ends survey.mode → 0 < survey.depth → survey.depth < survey.levels
    → (reached : Reaches fields text survey place (codes ",") modes.Start 0 None true true) × Ready fields reached.next (place + 1)
comma_reaches fields text survey place ends nested below = (
  record {
    next = comma_after fields survey place;
    is = byte_through fields text survey place 44 modes.Start (comma_next survey ends nested);
    mode_is = refl;
    depth_is = refl;
    levels_is = omega arith;
    unknown_is = refl;
    right_is = refl;
    small_is = refl;
  },
  record { begun = refl; wanted = refl; mode = begins_start; below = omega arith },
)

reaches_so : (fields : List Field) (text : List ℕ) (survey : Survey) (place : ℕ) (bytes : List ℕ) (mode : Mode) (levels levels' : ℕ) (unknown unknown' : Option ℕ)
    (right right' small small' : Bool) → levels ≡ levels' → unknown ≡ unknown' → right ≡ right' → small ≡ small'
    → Reaches fields text survey place bytes mode levels unknown right small → Reaches fields text survey place bytes mode levels' unknown' right' small'
reaches_so fields text survey place bytes mode levels levels' unknown unknown' right right' small small' l u r s reaches = record {
  next = reaches.next;
  is = reaches.is;
  mode_is = reaches.mode_is;
  depth_is = reaches.depth_is;
  levels_is = reaches.levels_is ∙ ap (λ k. max survey.levels (survey.depth + k)) l;
  unknown_is = reaches.unknown_is ∙ ap (first_found survey.unknown) u;
  right_is = reaches.right_is ∙ ap (λ b. survey.right && b) r;
  small_is = reaches.small_is ∙ ap (λ b. survey.small && b) s;
}

bracket_opens : (nested : Bool) → next_mode nested (modes.Name spells.And) 40 ≡ Some modes.Opened
unfolding next_mode
bracket_opens nested = refl

bracket_opens_or : (nested : Bool) → next_mode nested (modes.Name spells.Or) 40 ≡ Some modes.Opened
unfolding next_mode
bracket_opens_or nested = refl

mutual
  pub tree_through : (fields : List Field) (text : List ℕ) (query : NamedTree) (survey : Survey) (place : ℕ) → Ready fields survey place → IsFormed query
      → Stands text place (tree_text query)
      → Reaches fields text survey place (tree_text query) (tree_mode query) (levels_of query) (unknown_in fields place query)
      (tree_has_types fields query) (tree_in_range query)
  tree_through fields text (one name leaf) survey place ready formed stands = one_through fields text survey place name leaf ready formed stands
  tree_through fields text (and list) survey place ready formed stands =
      let at : (place + 3) + 1 ≡ place + 4 = omega arith in
      closed fields text survey place (place + 4) (codes "and(") list formed
      (subst (λ p. through (surveyed_after fields text) survey place (codes "and(") ≡ Some (opened fields survey p)) at
      (open_through fields text survey place (codes "and") ready refl bracket_opens))
      (list_through fields text list (opened fields survey (place + 4)) (place + 4) (opened_ready fields survey (place + 4)) formed (omega arith)
      (stands_right text place (codes "and(") (list_text list) (stands_left text place (codes "and(" ++ list_text list) (codes ")") stands)))
  tree_through fields text (or list) survey place ready formed stands =
      let at : (place + 2) + 1 ≡ place + 3 = omega arith in
      closed fields text survey place (place + 3) (codes "or(") list formed
      (subst (λ p. through (surveyed_after fields text) survey place (codes "or(") ≡ Some (opened fields survey p)) at
      (open_through fields text survey place (codes "or") ready refl bracket_opens_or))
      (list_through fields text list (opened fields survey (place + 3)) (place + 3) (opened_ready fields survey (place + 3)) formed (omega arith)
      (stands_right text place (codes "or(") (list_text list) (stands_left text place (codes "or(" ++ list_text list) (codes ")") stands)))

  list_through : (fields : List Field) (text : List ℕ) (list : NamedTrees) (survey : Survey) (place : ℕ) → Ready fields survey place → IsFormedList list
      → 0 < survey.depth → Stands text place (list_text list)
      → Reaches fields text survey place (list_text list) (list_mode list) (list_levels list) (unknown_list fields place list)
      (list_has_types fields list) (list_in_range list)
  list_through fields text no_trees survey place ready formed nested stands = absurd formed
  list_through fields text (tree first others) survey place ready formed nested stands =
      let here = tree_through fields text first survey place ready formed.0 (stands_left text place (tree_text first) (others_text others) stands) in
      both fields text survey place (tree_text first) (others_text others) _ _ _ _ _ _ _ _ _ _ here
      (others_through fields text others here.next (tree_mode first) (place + length (tree_text first)) formed.1 here.mode_is (ends_tree first)
      (omega (arith, here.depth_is)) (omega (arith, here.depth_is, here.levels_is, ready.below))
      (stands_right text place (tree_text first) (others_text others) stands))

  others_through : (fields : List Field) (text : List ℕ) (list : NamedTrees) (survey : Survey) (mode : Mode) (place : ℕ) → AreFormed list
      → survey.mode ≡ mode → Ends mode → 0 < survey.depth → survey.depth < survey.levels → Stands text place (others_text list)
      → Reaches fields text survey place (others_text list) (others_mode mode list) (list_levels list) (unknown_others fields place list)
      (list_has_types fields list) (list_in_range list)
  others_through fields text no_trees survey mode place formed same ends nested below stands = nothing_reaches fields text survey place mode same below
  others_through fields text (tree first others) survey mode place formed same ends nested below stands =
      let started = comma_reaches fields text survey place (subst Ends (sym same) ends) nested below in
      let comma = started.0 in
      let front = stands_left text place (codes "," ++ tree_text first) (others_text others) stands in
      let here = tree_through fields text first comma.next (place + 1) started.1 formed.0
      (stands_right text place (codes ",") (tree_text first) front) in
      let member = both fields text survey place (codes ",") (tree_text first) _ _ _ _ _ _ _ _ _ _ comma here in
      let past : place + length (codes "," ++ tree_text first) ≡ (place + 1) + length (tree_text first) = omega (arith, length-append (codes ",") (tree_text first)) in
      let deep : max (max 0 (levels_of first)) (list_levels others) ≡ max (levels_of first) (list_levels others) = omega arith in
      reaches_so fields text survey place (others_text (tree first others)) _ _ _ _ _ _ _ _ _ deep
      (ap (λ p. first_found (unknown_in fields (place + 1) first) (unknown_others fields p others)) past) refl refl
      (both fields text survey place (codes "," ++ tree_text first) (others_text others) _ _ _ _ _ _ _ _ _ _ member
      (others_through fields text others member.next (tree_mode first) (place + length (codes "," ++ tree_text first)) formed.1 member.mode_is (ends_tree first)
      (omega (arith, member.depth_is)) (omega (arith, member.depth_is, member.levels_is))
      (stands_right text place (codes "," ++ tree_text first) (others_text others) stands)))
