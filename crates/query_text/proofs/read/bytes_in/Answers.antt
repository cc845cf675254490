use Rattle.std.proofs.Common.{◌≡◌, ◌∙◌, ◌<◌, ◌≤◌, ◌+◌, false, Some, length, drop, get_or, [], ◌∷◌, ◌++◌, sym, ap, ap₂, refl, rules, append-nil}
use Rattle.std.proofs.lemmas.List.{take_rest}
use Rattle.query_text.specs.Reading.{bytes_front}
use Rattle.query_text.proofs.ReadingLemmas.{after_front, after_front-byte, bytes_front-quote, bytes_front-escape, bytes_front-byte, bytes_front-escaped, bytes_front-end}
use Rattle.query_text.proofs.read.bytes_in.Goals as goal
use Rattle.query_text.proofs.read.bytes_in.Goals.{then-escaped+in_ok-push, else-escaped+else-byte-eq34+then-byte-eq92, else-escaped+else-byte-eq34+else-byte-eq92+in_ok-push-2}

pub returns-then-byte-eq34 : goal.returns-then-byte-eq34
returns-then-byte-eq34 c =
    let bytes = c.args.bytes.now in
    let i = c.loop-i.i in
    let inside : i < length bytes = search rules in
    let read : bytes_front c.loop-i.escaped (drop i bytes) ≡ Some ([], drop (i + 1) bytes) =
    ap (λ e. bytes_front e (drop i bytes)) c.if-escaped.false ∙ bytes_front-quote bytes i _ inside refl c.if-byte-eq34.true in
    sym c.loop-i.invariant ∙ ap (after_front c.loop-i.found.items) read
    ∙ ap₂ (λ found rest. Some (found, rest)) (append-nil _) (sym (take_rest bytes (i + 1)))

pub loop-i-preserved : goal.loop-i-preserved
loop-i-preserved c =
    let bytes = c.args.bytes.now in
    let i = c.loop-i.i in
    let inside : i < length bytes = search rules in
    let byte = get_or bytes i 0 in
    let found = c.loop-i.found.items in
    elim c.if-escaped.branch [
      | then-escaped+in_ok-push w ↦
          let pushed : c.if-escaped.found.items ≡ found ++ byte ∷ [] = ap (λ v. v.items) w.found-is ∙ (w.in_ok-push.ensures).items in
          ap₂ (λ front e. after_front front (bytes_front e (drop (i + 1) bytes))) pushed w.escaped-is
          ∙ sym (after_front-byte found byte (bytes_front false (drop (i + 1) bytes)))
          ∙ sym (ap (after_front found) (ap (λ e. bytes_front e (drop i bytes)) w.if-escaped.true ∙ bytes_front-escaped bytes i byte inside refl))
          ∙ c.loop-i.invariant
      | else-escaped+else-byte-eq34+then-byte-eq92 w ↦
          ap₂ (λ v e. after_front v (bytes_front e (drop (i + 1) bytes))) (ap (λ v. v.items) w.found-is) w.escaped-is
          ∙ sym (ap (after_front found) (ap (λ e. bytes_front e (drop i bytes)) w.if-escaped.false
          ∙ bytes_front-escape bytes i byte inside refl w.if-byte-eq34.false w.if-byte-eq92.true))
          ∙ c.loop-i.invariant
      | else-escaped+else-byte-eq34+else-byte-eq92+in_ok-push-2 w ↦
          let pushed : c.if-escaped.found.items ≡ found ++ byte ∷ [] = ap (λ v. v.items) w.found-is ∙ (w.in_ok-push-2.ensures).items in
          ap₂ (λ front e. after_front front (bytes_front e (drop (i + 1) bytes))) pushed (w.escaped-is ∙ w.if-escaped.false)
          ∙ sym (after_front-byte found byte (bytes_front false (drop (i + 1) bytes)))
          ∙ sym (ap (after_front found) (ap (λ e. bytes_front e (drop i bytes)) w.if-escaped.false
          ∙ bytes_front-byte bytes i byte inside refl w.if-byte-eq34.false w.if-byte-eq92.false))
          ∙ c.loop-i.invariant
    ]

pub returns : goal.returns
returns c =
    let bytes = c.args.bytes.now in
    let past : length bytes ≤ c.loop-i.i = search rules in
    sym c.loop-i.invariant ∙ ap (after_front c.loop-i.found.items) (bytes_front-end c.loop-i.escaped bytes c.loop-i.i past)
