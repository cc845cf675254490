-- A list of words has faults of one kind at most, at a command with no subcommand.
use Rattle.std.proofs.Common.{◌≡◌, ◌≤◌, ℕ, Bool, true, false, zero, suc, refl, subst, sym, arith}
use Rattle.std.proofs.Common.{List, [], ◌∷◌, length, Option, Some, None, cond, ◌+◌, ◌&&◌, ◌||◌, min}
use Rattle.std.proofs.Common.{drop, is_some, ◌==◌, nat_lt}
use Rattle.std.specs.Option.{option_map_or}
use Rattle.std.specs.Str.{bytes_eq, chars}
use Rattle.std.specs.Prelude.{encode_utf8, slice_get}
use Rattle.clap.specs.ValueTests.{accepts}
use Rattle.clap.specs.Matches.{count_text}
use Rattle.clap.specs.Kinds.{Kinds, check_kinds, or_else, range_kinds, request_kinds, value_kinds}
use Rattle.clap.specs.Kinds.{values_kinds}
use Rattle.clap.specs.Facts.{parser_of_value, unwrap_or_range}
use Rattle.clap.specs.Walk.{Held, Row, Rule, Step, Text, Waiting, Walk, action_of, arg_by_id}
use Rattle.clap.specs.Walk.{arg_by_index, arg_by_long, arg_by_short, count_of, idle, option}
use Rattle.clap.specs.Walk.{positional, value, attached_value, has_row, is_empty, is_pending}
use Rattle.clap.specs.Walk.{most_values, nothing_held, reacted, settled, subcommand_met}
use Rattle.clap.specs.Walk.{takes_several, takes_values, values_or_missing, walk, walk_from, walked}
use Rattle.clap.specs.Walk.{with_default, word_met}
use Rattle.clap.specs.Lexer.{long_of, short_of}
use Rattle.clap.specs.Simple.{App, Shape, argument_words, built}
use Rattle.clap.specs.Faults.{count_fault, set_fault, action_fault, use_fault, settle_fault}
use Rattle.clap.specs.Faults.{react_fault, option_fault, long_fault, short_fault, bundle_step_fault}
use Rattle.clap.specs.Faults.{flags_fault, flag_word_fault, other_fault, word_fault, stray_fault}
use Rattle.clap.specs.Faults.{step_fault, turn_fault, walk_fault, default_fault, defaults_fault}
use Rattle.clap.specs.Faults.{level_fault, fault_of}
use Rattle.clap.proofs.FaultLemmas.{leaf_fault}
use Rattle.clap.specs.declared.builder.action.ArgAction.{ArgAction}
use Rattle.clap.specs.declared.builder.action.ArgAction.TheVariants.{Set, Append, SetTrue, SetFalse}
use Rattle.clap.specs.declared.builder.action.ArgAction.TheVariants.{Count, Help, HelpShort}
use Rattle.clap.specs.declared.builder.action.ArgAction.TheVariants.{HelpLong, Version}
use Rattle.clap.specs.declared.builder.value_parser.ValueParser.{ValueParser}
use Rattle.clap.specs.declared.error.kind.ErrorKind.{ErrorKind}

-- the faults are of one kind at most
pub record AtMostOne (ks : Kinds) : Type 0 where
  pub few : length ks ≤ 1

none : AtMostOne []
none = record { few = omega arith }

single : (k : ErrorKind) → AtMostOne (k ∷ [])
single k = record { few = omega arith }

-- ---- how lists of kinds are joined

one_or_else : (a b : Kinds) → AtMostOne a → AtMostOne b → AtMostOne (or_else a b)
one_or_else [] b one_a one_b = one_b
one_or_else (k ∷ ks) b one_a one_b = one_a

one_if : (test : Bool) (a b : Kinds) → AtMostOne a → AtMostOne b → AtMostOne (cond test a b)
one_if true a b one_a one_b = one_a
one_if false a b one_a one_b = one_b

one_of_some : {X : Type 0} (f : X → Kinds) (o : Option X) (other : Kinds)
    → ((x : X) → AtMostOne (f x))
    → AtMostOne other → AtMostOne (option_map_or f o other)
one_of_some f None other one one_other = one_other
one_of_some f (Some x) other one one_other = one x

-- ---- one use of an argument

one_value : (i : Bool) (p : ValueParser) (text : Text) → AtMostOne (value_kinds i p text)
one_value i p text = one_if (accepts i p text) _ _ none (single _)

one_values : (i : Bool) (p : ValueParser) (texts : List Text) → AtMostOne (values_kinds i p texts)
one_values i p [] = none
one_values i p (v ∷ vs) = one_or_else _ _ (one_value i p v) (one_values i p vs)

one_range : (least most n : ℕ) → AtMostOne (range_kinds least most n)
one_range least most n =
    one_if (nat_lt 0 least && n == 0) _ _ (single _)
    (one_if (least == most) _ _ (one_if (least == n) _ _ none (single _))
    (one_if (nat_lt n least) _ _ (single _) (one_if (nat_lt most n) _ _ (single _) none)))

one_request : (action : ArgAction) → AtMostOne (request_kinds action)
one_request Help = single _
one_request HelpShort = single _
one_request HelpLong = single _
one_request Version = single _
one_request _ = none

one_count : (a : Rule) (values : List Text) (rows : List Row)
    → AtMostOne (count_fault a values rows)
one_count a [] rows = one_value a.ignore_case (parser_of_value a.parser)
    (count_text (min (count_of a.id rows + 1) 255))
one_count a (v ∷ vs) rows = one_values a.ignore_case (parser_of_value a.parser) (v ∷ vs)

one_set : (again : Bool) (a : Rule) (values : List Text) (rows : List Row)
    → AtMostOne (set_fault again a values rows)
one_set again a values rows = one_or_else _ _ (one_if _ _ _ (single _) none)
    (one_values a.ignore_case (parser_of_value a.parser) values)

one_action : (action : ArgAction) (again : Bool) (a : Rule) (values : List Text) (rows : List Row)
    → AtMostOne (action_fault action again a values rows)
one_action Set again a values rows = one_set again a values rows
one_action SetTrue again a values rows = one_set again a values rows
one_action SetFalse again a values rows = one_set again a values rows
one_action Append again a values rows = one_values a.ignore_case (parser_of_value a.parser) values
one_action Count again a values rows = one_count a values rows
one_action other again a values rows = one_request other

one_use : (again : Bool) (a : Rule) (values : List Text) (rows : List Row)
    → AtMostOne (use_fault again a values rows)
one_use again a values rows =
    one_or_else _ _
    (one_range (unwrap_or_range a.range).start_inclusive (most_values a) (length values))
    (one_action (action_of a) again a (values_or_missing a values) rows)

-- ---- the walk over the words

one_settle : (c : List Rule) (again : Bool) (h : Held) → AtMostOne (settle_fault c again h)
one_settle c again h =
    one_of_some _ h.pending []
    (λ p. one_of_some _ (arg_by_id c p.0) [] (λ a. one_use again a p.1 h.rows) none) none

one_react : (c : List Rule) (again : Bool) (a : Rule) (values : List Text) (h : Held)
    → AtMostOne (react_fault c again a values h)
one_react c again a values h = one_or_else _ _ (one_settle c again h)
    (one_use again a values (settled c h).rows)

one_option : (c : List Rule) (again : Bool) (a : Rule) (v : Option Text) (h : Held)
    → AtMostOne (option_fault c again a v h)
one_option c again a (Some v) h = one_react c again a (v ∷ []) h
one_option c again a None h = one_settle c again h

one_long : (c : List Rule) (again : Bool) (found : Option Rule) (v : Option Text) (h : Held)
    → AtMostOne (long_fault c again found v h)
one_long c again None v h = single _
one_long c again (Some a) v h = one_if (takes_values a) _ _ (one_option c again a v h)
    (one_if (is_some v) _ _ (single _) (one_react c again a [] h))

one_short : (c : List Rule) (again : Bool) (found : Option Rule) (rest : Text) (h : Held)
    (then : Held → Kinds)
    → ((g : Held) → AtMostOne (then g)) → AtMostOne (short_fault c again found rest h then)
one_short c again None rest h then one = single _
one_short c again (Some a) rest h then one =
    one_if (takes_values a) _ _ (one_option c again a (attached_value rest) h)
    (one_or_else _ _ (one_react c again a [] h) (one (reacted c a [] h)))

one_bundle_step : (c : List Rule) (again : Bool) (x : Option ℕ) (flags : Text) (skip : ℕ)
    (h : Held) (then : Text → ℕ → Held → Kinds)
    → ((t : Text) (k : ℕ) (g : Held) → AtMostOne (then t k g))
    → AtMostOne (bundle_step_fault c again x flags skip h then)
one_bundle_step c again None flags skip h then one = none
one_bundle_step c again (Some x) flags zero h then one =
    let rest = drop (length (encode_utf8 x)) flags in
    one_short c again (arg_by_short c x) rest h (then rest 0) (λ g. one rest 0 g)
one_bundle_step c again (Some x) flags (suc skip) h then one = one
    (drop (length (encode_utf8 x)) flags) skip h

one_flags : (c : List Rule) (again : Bool) (k : ℕ) (flags : Text) (skip : ℕ) (h : Held)
    → AtMostOne (flags_fault c again k flags skip h)
unfolding flags_fault
one_flags c again zero flags skip h = none
one_flags c again (suc k) flags skip h =
    one_bundle_step c again (slice_get (chars flags) 0) flags skip h (flags_fault c again k)
    (λ t j g. one_flags c again k t j g)

one_flag_word : (c : List Rule) (again : Bool) (long : Option (Text × Option Text)) (word : Text)
    (h : Held) → AtMostOne (flag_word_fault c again long word h)
one_flag_word c again (Some p) word h = one_long c again (arg_by_long c p.0) p.1 h
one_flag_word c again None word h =
    one_of_some _ (short_of word) []
    (λ flags. one_flags c again (length flags) flags h.skip (record h { skip = 0 })) none

-- without subcommands no word names one
pub no_subcommand : (waiting : Waiting) (word : Text) → subcommand_met [] waiting word ≡ None
no_subcommand idle word = refl
no_subcommand (option id) word = refl
no_subcommand positional word = refl

one_plain_word : (s : Shape) (word : Text) (h : Held) → AtMostOne (other_fault s None word h)
one_plain_word s word h = one_if (bytes_eq word (45 ∷ 45 ∷ [])) _ _ none
    (one_flag_word s.rules s.args_override_self (long_of word) word h)

one_word : (s : Shape) (is_trailing : Bool) (waiting : Waiting) (word : Text) (h : Held)
    → AtMostOne (word_fault s [] is_trailing waiting word h)
one_word s is_trailing waiting word h =
    one_if is_trailing _ _ none
    (subst (λ (o : Option Text). AtMostOne (other_fault s o word h))
    (sym (no_subcommand waiting word))
    (one_plain_word s word h))

one_stray : (s : Shape) → s.is_leaf ≡ true → AtMostOne (stray_fault s)
one_stray s leaf = rw leaf (single _)

one_step : (s : Shape) → s.is_leaf ≡ true → (position : ℕ) (h : Held) (step : Step)
    → AtMostOne (step_fault s position h step)
one_step s leaf position h value =
    one_of_some _ (arg_by_index s.rules position) _
    (λ a. one_if (is_pending a h.pending && takes_several a) _ _ none
    (one_settle s.rules s.args_override_self h)) (one_stray s leaf)
one_step s leaf position h _ = none

one_turn : (s : Shape) → s.is_leaf ≡ true → (w : Walk) (word : Text)
    → AtMostOne (turn_fault s [] w word)
one_turn s leaf w word =
    let met = word_met s.rules [] w.is_trailing w.waiting w.position word w.held in
    one_if (is_some w.stopped) _ _ none
    (one_or_else _ _ (one_word s w.is_trailing w.waiting word w.held)
    (one_step s leaf w.position met.0 met.1))

one_walk : (s : Shape) → s.is_leaf ≡ true → (w : Walk) (words : List Text)
    → AtMostOne (walk_fault s [] w words)
unfolding walk_fault
one_walk s leaf w [] = none
one_walk s leaf w (word ∷ rest) = one_or_else _ _ (one_turn s leaf w word)
    (one_walk s leaf (walked s.rules [] w word) rest)

-- ---- after the walk

one_default : (rows : List Row) (a : Rule) → AtMostOne (default_fault rows a)
one_default rows a =
    one_if (has_row a.id rows || is_empty a.defaults) _ _ none
    (one_or_else _ _ (one_request (action_of a))
    (one_values a.ignore_case (parser_of_value a.parser) a.defaults))

one_defaults : (rows : List Row) (rules : List Rule) → AtMostOne (defaults_fault rows rules)
unfolding defaults_fault
one_defaults rows [] = none
one_defaults rows (a ∷ rest) = one_or_else _ _ (one_default rows a)
    (one_defaults (with_default rows a) rest)

one_check : (help sub argument : Bool) → AtMostOne (check_kinds help sub argument)
one_check help sub argument = one_if help _ _ (single _)
    (one_if sub _ _ (single _) (one_if argument _ _ (single _) none))

one_level : (s : Shape) → s.is_leaf ≡ true → (words : List Text)
    → AtMostOne (level_fault s [] nothing_held words false [])
one_level s leaf words =
    let end = (walk s.rules [] nothing_held words).held in
    one_or_else _ _ (one_walk s leaf (walk_from nothing_held) words)
    (one_or_else _ _ (one_settle s.rules s.args_override_self end)
    (one_or_else _ _ (one_defaults (settled s.rules end).rows s.rules) (one_check _ _ _)))

-- the words of a command with no subcommand have faults of one kind at most
pub one_kind : (a : App) → (built a).subs ≡ [] → (built a).top.is_leaf ≡ true → (words : List Text)
    → AtMostOne (fault_of a words)
one_kind a empty leaf words =
    subst AtMostOne (sym (leaf_fault (built a) nothing_held (argument_words a words) empty))
    (one_level (built a).top leaf (argument_words a words))
