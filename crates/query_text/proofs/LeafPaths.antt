-- Where a machine comes to over the text of a leaf.
use Rattle.std.proofs.Common.{◌≡◌, pos, negsuc, [], ◌∷◌, ◌++◌, Bool, true, Option, Some, None, refl, sym, append_assoc, arith}
use Rattle.std.specs.List.{list_all}
use Rattle.std.proofs.lemmas.Bool.Decides.{nat_tests}
use Rattle.attr_types.specs.declared.kind.ValueType.{ValueType}
use Rattle.attr_types.specs.declared.value.Value.{Value}
use Rattle.attr_types.specs.declared.value.Value.TheVariants as values
use Rattle.attr_types.specs.declared.query.Leaf.{Leaf}
use Rattle.attr_types.specs.declared.query.Leaf.TheVariants.{Is, Prefix, Range, Below, Above}
use Rattle.attr_types.specs.Fitting.{is_of_type}
use Rattle.query_text.specs.declared.mode.Role.TheVariants as roles
use Rattle.query_text.specs.declared.mode.Mode.{Mode}
use Rattle.query_text.specs.declared.mode.Mode.TheVariants as modes
use Rattle.query_text.specs.Grammar.{value_text, option_text, leaf_text, quoted, IsFormedLeaf, leaf_values, is_in_range}
use Rattle.query_text.specs.Modes.{next_mode}
use Rattle.query_text.proofs.Paths.{Path, one_byte, joined, judged_so, and_true, value_mode, Takes, value_path, quoted_path, at_bound, at_low, at_high, at_front, TakesLeaf}

-- the mode after a leaf
abbrev pub leaf_mode : Leaf → Mode
leaf_mode (Is v) = value_mode roles.Alone v
leaf_mode (Prefix bytes) = modes.Ended
leaf_mode (Range low high) = modes.Ended
leaf_mode (Below v) = value_mode roles.Bound v
leaf_mode (Above v) = value_mode roles.Bound v

-- the mode after the `;` that follows the lower end
abbrev high_mode : Value → Mode
high_mode (values.Long z) = modes.HighNumber
high_mode (values.Text bytes) = modes.HighText

semicolon : (v : Value) (nested : Bool) → next_mode nested (value_mode roles.Low v) 59 ≡ Some (high_mode v)
unfolding next_mode
semicolon (values.Long (pos n)) nested = refl
semicolon (values.Long (negsuc n)) nested = refl
semicolon (values.Text bytes) nested = refl

bracket : (v : Value) (nested : Bool) → next_mode nested (value_mode roles.High v) 93 ≡ Some modes.Ended
unfolding next_mode
bracket (values.Long (pos n)) nested = refl
bracket (values.Long (negsuc n)) nested = refl
bracket (values.Text bytes) nested = refl

bracket_after : (v : Value) (nested : Bool) → next_mode nested (high_mode v) 93 ≡ Some modes.Ended
unfolding next_mode
bracket_after (values.Long z) nested = refl
bracket_after (values.Text bytes) nested = refl

semicolon_path : (value : ValueType) (v : Value) → Path value (value_mode roles.Low v) (59 ∷ []) (high_mode v) true true
semicolon_path value (values.Long z) = one_byte value _ modes.HighNumber 59 (semicolon (values.Long z)) refl
semicolon_path value (values.Text bytes) = one_byte value _ modes.HighText 59 (semicolon (values.Text bytes)) refl

-- an upper end of the lower end's type
after_low : (v w : Value) → IsFormedLeaf (Range (Some v) (Some w)) → Takes (high_mode v) roles.High w
unfolding next_mode
after_low (values.Long y) (values.Long z) same = record { minus = λ _. refl; digit = λ nested d h. grind (arith, nat_tests) }
after_low (values.Text xs) (values.Text ys) same = λ _. refl
after_low (values.Long y) (values.Text ys) same = absurd cc
after_low (values.Text xs) (values.Long z) same = absurd cc

range_path : (value : ValueType) (low high : Option Value) → IsFormedLeaf (Range low high)
    → Path value modes.Low (option_text low ++ (59 ∷ [] ++ (option_text high ++ 93 ∷ []))) modes.Ended
    (list_all (is_of_type value) (leaf_values (Range low high))) (list_all is_in_range (leaf_values (Range low high)))
unfolding next_mode
range_path value None None formed =
    joined value modes.Low modes.High modes.Ended (59 ∷ []) (93 ∷ []) _ _ _ _
    (one_byte value modes.Low modes.High 59 (λ _. refl) refl)
    (one_byte value modes.High modes.Ended 93 (λ _. refl) refl)
range_path value None (Some w) formed =
    joined value modes.Low modes.High modes.Ended (59 ∷ []) _ _ _ _ _
    (one_byte value modes.Low modes.High 59 (λ _. refl) refl)
    (joined value modes.High (value_mode roles.High w) modes.Ended (value_text w) (93 ∷ []) _ _ _ _
    (value_path value modes.High roles.High w (at_high w))
    (one_byte value _ modes.Ended 93 (bracket w) refl))
range_path value (Some v) None formed =
    joined value modes.Low (value_mode roles.Low v) modes.Ended (value_text v) _ _ _ _ _
    (value_path value modes.Low roles.Low v (at_low v))
    (joined value _ (high_mode v) modes.Ended (59 ∷ []) (93 ∷ []) _ _ _ _
    (semicolon_path value v)
    (one_byte value _ modes.Ended 93 (bracket_after v) refl))
range_path value (Some v) (Some w) formed =
    joined value modes.Low (value_mode roles.Low v) modes.Ended (value_text v) _ _ _ _ _
    (value_path value modes.Low roles.Low v (at_low v))
    (joined value _ (high_mode v) modes.Ended (59 ∷ []) _ _ _ _ _
    (semicolon_path value v)
    (joined value (high_mode v) (value_mode roles.High w) modes.Ended (value_text w) (93 ∷ []) _ _ _ _
    (value_path value (high_mode v) roles.High w (after_low v w formed))
    (one_byte value _ modes.Ended 93 (bracket w) refl)))

pub leaf_path : (value : ValueType) (from : Mode) → TakesLeaf from → (leaf : Leaf) → IsFormedLeaf leaf
    → Path value from (leaf_text leaf) (leaf_mode leaf) (list_all (is_of_type value) (leaf_values leaf)) (list_all is_in_range (leaf_values leaf))
unfolding next_mode
leaf_path value from takes (Is v) formed =
    judged_so value from _ _ _ _ _ _ _ _ refl refl (sym (and_true _)) (sym (and_true _)) (value_path value from roles.Alone v (at_front from takes v))
leaf_path value from takes (Prefix bytes) formed =
    joined value from (modes.Quoted roles.Alone) modes.Ended (quoted bytes) (42 ∷ []) _ _ _ _
    (quoted_path value from roles.Alone (at_front from takes (values.Text bytes)) bytes)
    (one_byte value _ modes.Ended 42 (λ _. refl) refl)
leaf_path value from takes (Range low high) formed =
    judged_so value from _ _ _ _ _ _ _ _ (simp append_assoc) refl refl refl
    (joined value from modes.Low modes.Ended (91 ∷ []) _ _ _ _ _
    (one_byte value from modes.Low 91 (λ nested. takes nested 91 refl) refl)
    (range_path value low high formed))
leaf_path value from takes (Below v) formed =
    judged_so value from _ _ _ _ _ _ _ _ refl refl (sym (and_true _)) (sym (and_true _))
    (joined value from modes.Bound _ (60 ∷ []) (value_text v) _ _ _ _
    (one_byte value from modes.Bound 60 (λ nested. takes nested 60 refl) refl)
    (value_path value modes.Bound roles.Bound v (at_bound v)))
leaf_path value from takes (Above v) formed =
    judged_so value from _ _ _ _ _ _ _ _ refl refl (sym (and_true _)) (sym (and_true _))
    (joined value from modes.Bound _ (62 ∷ []) (value_text v) _ _ _ _
    (one_byte value from modes.Bound 62 (λ nested. takes nested 62 refl) refl)
    (value_path value modes.Bound roles.Bound v (at_bound v)))
