use Rattle.std.proofs.Common.{◌≡◌, ◌+◌, ◌∙◌, sym, ap, map, string_bytes, ◌∷◌, [], ◌++◌, Err, rules}
use Rattle.std.proofs.Common.{arith, drop, length, ◌<◌, List, ℕ, String, Global, Vec}
use Rattle.std.proofs.Math.Seq.{drop-length}
use Rattle.std.proofs.lemmas.List.{map-append}
use Rattle.std.proofs.lemmas.Result.{err_from_is_err_and}
use Rattle.list_lemmas.proofs.Places.{drop-read}
use Rattle.attr_types.specs.Scores.{AskTree, ask_tree}
use Rattle.attr_types.specs.declared.ask.Ask.{Ask}
use Rattle.attr_run.specs.Run.{asks_from}
use Rattle.attr_run.proofs.AsksLemmas.{after_front, after_front-next, after_front-end}
use Rattle.attr_run.proofs.AsksLemmas.{says-stopped}
use Rattle.attr_run.proofs.request.asks_in.Goals as goal

abbrev bytes_of : List (String Global) → List (List ℕ)
bytes_of texts = map (λ t. string_bytes t) texts

pub returns-in_err-ask-clause-says : goal.returns-in_err-ask-clause-says
returns-in_err-ask-clause-says c =
    let p = err_from_is_err_and c.from_residual.result c.from_residual.ensures.1 in
    let below : c.loop-text.text-index < length c.args.texts.now = omega arith in
    let rest = ap bytes_of
    (drop-read c.args.texts.now c.loop-text.text-index c.text-item.result c.text-item.result below c.text-item.is) in
    let front = map ask_tree c.loop-text.asks.items in
    let is = ap (λ ts. after_front front (asks_from c.args.fields.now c.loop-text.number ts)) (sym rest)
    ∙ c.loop-text.invariant.read in
    rw (p.1 ∙ ap Err p.2) (says-stopped (λ
    (asks : Vec Ask Global). map ask_tree asks.items) ask_tree c.in_err-ask.field-0.0 front c.args.fields.now c.loop-text.number
    (string_bytes c.text-item.result)
    (bytes_of (drop (c.loop-text.text-index + 1) c.args.texts.now)) _ is
    (rw c.as_str.ensures.value at c.in_err-ask.ensures.says))

pub loop-text-preserved : goal.loop-text-preserved
loop-text-preserved c =
    let below : c.loop-text.text-index < length c.args.texts.now = omega arith in
    let rest = ap bytes_of
    (drop-read c.args.texts.now c.loop-text.text-index c.text-item.result c.text-item.result below c.text-item.is) in
    let left = bytes_of (drop (c.loop-text.text-index + 1) c.args.texts.now) in
    let front = map ask_tree c.loop-text.asks.items in
    let pushed : c.push.new.self.items ≡ c.loop-text.asks.items ++ c.in_ok-ask.ask ∷ [] = search rules in
    let read = rw c.as_str.ensures.value at c.in_ok-ask.ensures.says in
    record {
      read = ap (λ (made : List Ask). after_front (map ask_tree made) (asks_from c.args.fields.now
          (c.loop-text.number + 1) left)) pushed
          ∙ ap (λ (made : List AskTree). after_front made (asks_from c.args.fields.now (c.loop-text.number + 1) left))
          (map-append ask_tree c.loop-text.asks.items (c.in_ok-ask.ask ∷ []))
          ∙ sym (after_front-next front c.args.fields.now c.loop-text.number (string_bytes c.text-item.result) left
          (ask_tree c.in_ok-ask.ask) read)
          ∙ ap (λ ts. after_front front (asks_from c.args.fields.now c.loop-text.number ts)) (sym rest)
          ∙ c.loop-text.invariant.read;
      counted = omega arith;
    }

pub returns-clause-says : goal.returns-clause-says
returns-clause-says c =
    let at_end : c.loop-text.text-index ≡ length c.args.texts.now = omega arith in
    let none = ap (λ n. drop n c.args.texts.now) at_end ∙ drop-length c.args.texts.now in
    let front = map ask_tree c.loop-text.asks.items in
    sym c.loop-text.invariant.read
    ∙ ap (λ ts. after_front front (asks_from c.args.fields.now c.loop-text.number (bytes_of ts))) none
    ∙ after_front-end front c.args.fields.now c.loop-text.number
