-- The walk over the words keeps the rows of one id good, where it finds no fault.
use Rattle.std.proofs.Common.{◌≡◌, ◌&&◌, ℕ, Bool, true, false, zero, suc, subst, sym, List, [], ◌∷◌}
use Rattle.std.proofs.Common.{length, drop, Option, Some, None, cond, fold, is_some}
use Rattle.std.specs.Option.{option_map_or}
use Rattle.std.specs.Str.{bytes_eq, chars}
use Rattle.std.specs.Prelude.{encode_utf8, slice_get}
use Rattle.clap.specs.Lexer.{long_of, short_of}
use Rattle.clap.specs.Kinds.{Kinds, or_else}
use Rattle.clap.specs.Walk.{Held, Outcome, Row, Rule, Step, Text, Waiting, Walk, after_flag}
use Rattle.clap.specs.Walk.{after_step, arg_by_id, arg_by_index, arg_by_long, arg_by_short}
use Rattle.clap.specs.Walk.{attached_value, bundle, bundle_met, bundle_step, done, plain, refused}
use Rattle.clap.specs.Walk.{waits, flag_met, idle, is_pending, long_met, long_or_other, next}
use Rattle.clap.specs.Walk.{nothing_held, option, option_met, option_word, plain_word, positional}
use Rattle.clap.specs.Walk.{pushed, reacted, rows_after, settled, settled_rows, short_met}
use Rattle.clap.specs.Walk.{short_or_plain, subcommand, subcommand_or_other, takes_several}
use Rattle.clap.specs.Walk.{takes_values, to_positional, trailing, used_by_id, value, walk}
use Rattle.clap.specs.Walk.{walk_from, walked, walked_from, word_met}
use Rattle.clap.specs.Simple.{Shape}
use Rattle.clap.specs.Faults.{bundle_fault, bundle_step_fault, check_fault, defaults_fault}
use Rattle.clap.specs.Faults.{flag_word_fault, flags_fault, level_fault, long_fault, option_fault}
use Rattle.clap.specs.Faults.{other_fault, positional_fault, react_fault, settle_fault, short_fault}
use Rattle.clap.specs.Faults.{step_fault, stray_fault, turn_fault, use_fault, walk_fault}
use Rattle.clap.specs.Faults.{word_fault}
use Rattle.clap.specs.declared.builder.value_parser.ValueParser.{ValueParser}
use Rattle.clap.specs.declared.error.kind.ErrorKind.{ErrorKind}
use Rattle.command_line.proofs.RowLemmas.{AllFit, AllHold, Fits, FitsIf, both_empty, defaults_hold}
use Rattle.command_line.proofs.RowLemmas.{found_fits, used_holds}
use Rattle.command_line.proofs.OneKind.{no_subcommand}

module _ (id : Text) (parser : ValueParser) (rules : List Rule) (again : Bool)
    (fit : AllFit id parser rules) where
  -- the rows that are held are good
  abbrev Good : Held → Type 0
  Good h = AllHold id parser h.rows

  -- ---- what is pending, and one option

  used_if : (found : Option Rule) (values : List Text) (rows : List Row) → FitsIf id parser found
      → option_map_or (λ a. use_fault again a values rows) found [] ≡ [] → AllHold id parser rows
      → AllHold id parser (used_by_id found values rows)
  used_if None values rows fits none all = all
  used_if (Some a) values rows fits none all =
      used_holds id parser again a values rows fits none all

  settled_from : (pending : Option (Text × List Text)) (rows : List Row)
      → settle_fault rules again (record { rows = rows; pending = pending; skip = 0 }) ≡ []
      → AllHold id parser rows → AllHold id parser (settled_rows rules pending rows)
  settled_from None rows none all = all
  settled_from (Some p) rows none all =
      used_if (arg_by_id rules p.0) p.1 rows
      (found_fits id parser (λ a. bytes_eq a.id p.0) rules fit) none all

  good_settled : (h : Held) → settle_fault rules again h ≡ [] → Good h → Good (settled rules h)
  good_settled h none all = settled_from h.pending h.rows none all

  good_reacted : (a : Rule) (values : List Text) (h : Held) → Fits id parser a
      → react_fault rules again a values h ≡ [] → Good h → Good (reacted rules a values h)
  good_reacted a values h fits none all =
      let parts = both_empty (settle_fault rules again h)
      (use_fault again a values (settled rules h).rows) none in
      used_holds id parser again a values (settled rules h).rows fits parts.1
      (good_settled h parts.0 all)

  good_option : (a : Rule) (v : Option Text) (h : Held) → Fits id parser a
      → option_fault rules again a v h ≡ [] → Good h → Good (option_met rules a v h).0
  good_option a (Some v) h fits none all = good_reacted a (v ∷ []) h fits none all
  good_option a None h fits none all = good_settled h none all

  good_long : (found : Option Rule) (v : Option Text) (h : Held) → FitsIf id parser found
      → long_fault rules again found v h ≡ [] → Good h
      → Good (long_met rules found v h).0
  good_long None v h fits none all = all
  good_long (Some a) v h fits none all = go (takes_values a) v none
    where
      go : (takes : Bool) (v : Option Text)
          → cond takes (option_fault rules again a v h)
          (cond (is_some v) (ErrorKind.TooManyValues ∷ [])
          (react_fault rules again a [] h)) ≡ []
          → Good (cond takes (option_met rules a v h) (flag_met rules a v h)).0
      go true v e = good_option a v h fits e all
      go false (Some v) e = all
      go false None e = good_reacted a [] h fits e all

  -- ---- a bundle of short flags

  good_short : (found : Option Rule) (rest : Text) (h : Held)
      (met : Held → Held × Outcome) (fault : Held → Kinds) → FitsIf id parser found
      → ((g : Held) → fault g ≡ [] → Good g → Good (met g).0)
      → short_fault rules again found rest h fault ≡ [] → Good h
      → Good (short_met rules found rest h met).0
  good_short None rest h met fault fits good none all = all
  good_short (Some a) rest h met fault fits good none all = go (takes_values a) none
    where
      go : (takes : Bool)
          → cond takes (option_fault rules again a (attached_value rest) h)
          (or_else (react_fault rules again a [] h) (fault (reacted rules a [] h))) ≡ []
          → Good (cond takes (option_met rules a (attached_value rest) h)
          (met (reacted rules a [] h))).0
      go true e = good_option a (attached_value rest) h fits e all
      go false e =
          let parts = both_empty (react_fault rules again a [] h)
          (fault (reacted rules a [] h)) e in
          good (reacted rules a [] h) parts.1 (good_reacted a [] h fits parts.0 all)

  good_bundle_step : (x : Option ℕ) (flags : Text) (skip : ℕ) (so_far : Outcome) (h : Held)
      (met : Text → ℕ → Outcome → Held → Held × Outcome) (fault : Text → ℕ → Held → Kinds)
      → ((t : Text) (k : ℕ) (o : Outcome) (g : Held)
      → fault t k g ≡ [] → Good g → Good (met t k o g).0)
      → bundle_step_fault rules again x flags skip h fault ≡ [] → Good h
      → Good (bundle_step rules x flags skip so_far h met).0
  good_bundle_step None flags skip so_far h met fault good none all = all
  good_bundle_step (Some x) flags zero so_far h met fault good none all =
      let rest = drop (length (encode_utf8 x)) flags in
      good_short (arg_by_short rules x) rest h (met rest 0 done) (fault rest 0)
      (found_fits id parser _ rules fit) (λ g. good rest 0 done g) none all
  good_bundle_step (Some x) flags (suc skip) so_far h met fault good none all =
      good (drop (length (encode_utf8 x)) flags) skip so_far h none all

  good_bundle : (k : ℕ) (flags : Text) (skip : ℕ) (so_far : Outcome) (h : Held)
      → flags_fault rules again k flags skip h ≡ [] → Good h
      → Good (bundle_met rules k flags skip so_far h).0
  unfolding flags_fault bundle_met
  good_bundle zero flags skip so_far h none all = all
  good_bundle (suc k) flags skip so_far h none all =
      good_bundle_step (slice_get (chars flags) 0) flags skip so_far h (bundle_met rules k)
      (flags_fault rules again k) (λ t j o g. good_bundle k t j o g) none all

  -- ---- a word

  good_plain : (waiting : Waiting) (word : Text) (h : Held) → Good h
      → Good (plain_word rules waiting word h).0
  good_plain idle word h all = all
  good_plain (option name) word h all = go (arg_by_id rules name)
    where
      go : (found : Option Rule) → Good (option_word found name word h).0
      go None = all
      go (Some a) = all
  good_plain positional word h all = all

  good_after : (waiting : Waiting) (word : Text) (h : Held) (outcome : Outcome) → Good h
      → Good (after_flag rules waiting word h outcome).0
  good_after waiting word h done all = all
  good_after waiting word h (waits name) all = all
  good_after waiting word h plain all = good_plain waiting word h all
  good_after waiting word h refused all = good_plain waiting word h all

  good_short_word : (waiting : Waiting) (word : Text) (short : Option Text) (h : Held)
      → option_map_or (λ flags. bundle_fault rules again flags h) short [] ≡ [] → Good h
      → Good (short_or_plain rules waiting word short h).0
  good_short_word waiting word None h none all = good_plain waiting word h all
  good_short_word waiting word (Some flags) h none all =
      good_after waiting word (bundle rules flags h).0 (bundle rules flags h).1
      (good_bundle (length flags) flags h.skip plain (record h { skip = 0 }) none all)

  good_flag_word : (waiting : Waiting) (word : Text) (long : Option (Text × Option Text))
      (h : Held) → flag_word_fault rules again long word h ≡ [] → Good h
      → Good (long_or_other rules waiting word long h).0
  good_flag_word waiting word (Some p) h none all =
      let found = arg_by_long rules p.0 in
      good_after waiting word (long_met rules found p.1 h).0 (long_met rules found p.1 h).1
      (good_long found p.1 h (found_fits id parser _ rules fit) none all)
  good_flag_word waiting word None h none all = good_short_word waiting word
      (short_of word) h none all

  good_other : (waiting : Waiting) (position : ℕ) (word : Text) (h : Held)
      → cond (bytes_eq word (45 ∷ 45 ∷ [])) []
      (flag_word_fault rules again (long_of word) word h) ≡ [] → Good h
      → Good (subcommand_or_other rules None waiting position word h).0
  good_other waiting position word h none all = go (bytes_eq word (45 ∷ 45 ∷ [])) none
    where
      go : (b : Bool) → cond b [] (flag_word_fault rules again (long_of word) word h) ≡ []
          → Good (cond b (h, trailing position)
          (long_or_other rules waiting word (long_of word) h)).0
      go true e = all
      go false e = good_flag_word waiting word (long_of word) h e all

module _ (id : Text) (parser : ValueParser) (s : Shape) (fit : AllFit id parser s.rules) where
  abbrev IsFine : Held → Type 0
  IsFine h = AllHold id parser h.rows

  good_word : (is_trailing : Bool) (waiting : Waiting) (position : ℕ) (word : Text) (h : Held)
      → word_fault s [] is_trailing waiting word h ≡ [] → IsFine h
      → IsFine (word_met s.rules [] is_trailing waiting position word h).0
  good_word true waiting position word h none all = all
  good_word false waiting position word h none all =
      subst (λ (o : Option Text). IsFine (subcommand_or_other s.rules o waiting position word h).0)
      (sym (no_subcommand waiting word))
      (good_other id parser s.rules s.args_override_self fit waiting position word h
      (subst (λ (o : Option Text). other_fault s o word h ≡ [])
      (no_subcommand waiting word) none) all)

  good_positional : (found : Option Rule) (word : Text) (w : Walk) (h : Held)
      → option_map_or (λ a. positional_fault s.rules s.args_override_self a h) found
      (stray_fault s) ≡ [] → IsFine h
      → IsFine (to_positional s.rules found word w h).held
  good_positional None word w h none all = all
  good_positional (Some a) word w h none all = go (is_pending a h.pending && takes_several a) none
    where
      go : (b : Bool) → cond b [] (settle_fault s.rules s.args_override_self h) ≡ []
          → IsFine (pushed a.id word (cond b h (settled s.rules h)))
      go true e = all
      go false e = good_settled id parser s.rules s.args_override_self fit h e all

  good_step : (word : Text) (w : Walk) (h : Held) (step : Step)
      → step_fault s w.position h step ≡ [] → IsFine h
      → IsFine (after_step s.rules word w h step).held
  good_step word w h value none all = good_positional
      (arg_by_index s.rules w.position) word w h none all
  good_step word w h (next waiting) none all = all
  good_step word w h (trailing position) none all = all
  good_step word w h (subcommand name) none all = all

  good_turn : (w : Walk) (word : Text) → turn_fault s [] w word ≡ [] → IsFine w.held
      → IsFine (walked s.rules [] w word).held
  unfolding walked
  good_turn w word none all = go w.stopped none
    where
      go : (stop : Option (Text × List Text))
          → cond (is_some stop) [] (or_else (word_fault s [] w.is_trailing w.waiting word w.held)
          (step_fault s w.position
          (word_met s.rules [] w.is_trailing w.waiting w.position word w.held).0
          (word_met s.rules [] w.is_trailing w.waiting w.position word w.held).1)) ≡ []
          → IsFine (walked_from s.rules [] stop w word).held
      go (Some p) e = all
      go None e =
          let parts = both_empty _ _ e in
          good_step word w _ _ parts.1
          (good_word w.is_trailing w.waiting w.position word w.held parts.0 all)

  good_walk : (w : Walk) (words : List Text) → walk_fault s [] w words ≡ [] → IsFine w.held
      → IsFine (fold (walked s.rules []) w words).held
  unfolding walk_fault
  good_walk w [] none all = all
  good_walk w (word ∷ rest) none all =
      let parts = both_empty (turn_fault s [] w word)
      (walk_fault s [] (walked s.rules [] w word) rest) none in
      good_walk (walked s.rules [] w word) rest parts.1 (good_turn w word parts.0 all)

  -- where a level with no subcommand takes the words, the rows of the id are good
  pub good_level : (words : List Text) → level_fault s [] nothing_held words false [] ≡ []
      → AllHold id parser (rows_after s.rules [] words)
  good_level words none =
      let end = (walk s.rules [] nothing_held words).held in
      let walks = both_empty (walk_fault s [] (walk_from nothing_held) words) _ none in
      let settles = both_empty (settle_fault s.rules s.args_override_self end) _ walks.1 in
      let fills = both_empty (defaults_fault (settled s.rules end).rows s.rules) _ settles.1 in
      defaults_hold id parser (settled s.rules end).rows s.rules fit fills.0
      (good_settled id parser s.rules s.args_override_self fit end settles.0
      (good_walk (walk_from nothing_held) words walks.0 tt))

-- where a level with no subcommand takes the words, its last check passes
pub level_check : (s : Shape) (words : List Text)
    → level_fault s [] nothing_held words false [] ≡ []
    → check_fault s (rows_after s.rules [] words) false ≡ []
level_check s words none =
    let end = (walk s.rules [] nothing_held words).held in
    let walks = both_empty (walk_fault s [] (walk_from nothing_held) words) _ none in
    let settles = both_empty (settle_fault s.rules s.args_override_self end) _ walks.1 in
    (both_empty (defaults_fault (settled s.rules end).rows s.rules) _ settles.1).1
