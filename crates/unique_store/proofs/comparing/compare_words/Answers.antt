use Rattle.std.proofs.Common.{◌≡◌, ◌+◌, ◌*◌, ◌<◌, ◌∙◌, ℕ, List, length, take, drop, replicate, ◌++◌, refl, sym, ap, subst, arith}
use Rattle.std.proofs.lemmas.List.{drop-drop}
use Rattle.std.specs.Cmp.Lexicographic.{slice_cmp}
use Rattle.std.specs.Ordering.{nat_cmp}
use Rattle.std.specs.Int.{from_be_bytes, w64}
use Rattle.entry_ref.specs.Records.{HasWord, word_at}
use Rattle.image_format.specs.Values.{stored_text}
use Rattle.unique_store.proofs.ByteLemmas.{small_text}
use Rattle.unique_store.proofs.OrderLemmas.{order, by_length, order_begins, differs, goes_on, ends, past}
use Rattle.unique_store.proofs.RecordLemmas.{text_count, text_size, text_word}
use Rattle.unique_store.proofs.comparing.compare_words.Goals as goal

pub loop-i-init : goal.loop-i-init
loop-i-init g c =
    let text = stored_text (g.F.Frozen.records c.args.frozen.now c.args.stored) in
    record { same = c.word.ensures.same; rest = refl; so_far = order_begins text c.args.bytes.now }

pub word-requires-in-loop-i : goal.word-requires-in-loop-i
word-requires-in-loop-i g c =
    let ws = g.F.Frozen.records c.args.frozen.now c.args.stored in
    let count = text_count ws c.requires.record in
    let value = c.word.ensures.value in
    let size = text_size ws c.requires.record in
    (omega arith, subst (λ (f : g.row.F.Denot). HasWord (g.F.Frozen.records f) c.args.stored (1 + c.loop-i.i)) (sym c.loop-i.invariant.same) (omega arith))

pub returns-then-is_ne-clause-answer : goal.returns-then-is_ne-clause-answer
returns-then-is_ne-clause-answer g c =
    let ws = g.F.Frozen.records c.args.frozen.now c.args.stored in
    let text = stored_text ws in
    let bytes = c.args.bytes.now in
    let count = text_count ws c.requires.record in
    let value = c.word.ensures.value in
    let i = c.loop-i.i in
    let inv = c.loop-i.invariant in
    let low : 8 * i < length text = omega arith in
    let under : 8 * i < length bytes = omega arith in
    let word = c.word-in-loop-i.ensures.value ∙ ap (λ (f : g.row.F.Denot). word_at (g.F.Frozen.records f) c.args.stored (1 + i)) inv.same ∙ text_word ws c.requires.record i (omega arith) in
    let other = c.first_word.ensures ∙ ap (λ (xs : List ℕ). from_be_bytes w64 (take 8 (xs ++ replicate 8 0))) inv.rest in
    differs text bytes (small_text _ _) (λ k. omega (arith, c.type_inv.bytes k)) (8 * i) c.word-in-loop-i.result c.first_word.result word other low under inv.so_far
    c.cmp-order.result c.cmp-order.ensures (sym c.is_ne.ensures ∙ c.if-is_ne.true)

pub loop-i-preserved : goal.loop-i-preserved
loop-i-preserved g c =
    let ws = g.F.Frozen.records c.args.frozen.now c.args.stored in
    let text = stored_text ws in
    let bytes = c.args.bytes.now in
    let count = text_count ws c.requires.record in
    let value = c.word.ensures.value in
    let i = c.loop-i.i in
    let inv = c.loop-i.invariant in
    let low : 8 * i < length text = omega arith in
    let under : 8 * i < length bytes = omega arith in
    let word = c.word-in-loop-i.ensures.value ∙ ap (λ (f : g.row.F.Denot). word_at (g.F.Frozen.records f) c.args.stored (1 + i)) inv.same ∙ text_word ws c.requires.record i (omega arith) in
    let other = c.first_word.ensures ∙ ap (λ (xs : List ℕ). from_be_bytes w64 (take 8 (xs ++ replicate 8 0))) inv.rest in
    let next : 8 * i + 8 ≡ 8 * (i + 1) = omega arith in
    record {
      same = c.word-in-loop-i.ensures.same ∙ inv.same;
      rest = c.behind_eight-rest.ensures ∙ ap (drop 8) inv.rest ∙ drop-drop 8 (8 * i) bytes ∙ ap (λ k. drop k bytes) next;
      so_far = subst (λ k. order (drop k text) (drop k bytes) (by_length text bytes) ≡ slice_cmp nat_cmp text bytes) next
          (goes_on text bytes (small_text _ _) (λ k. omega (arith, c.type_inv.bytes k)) (8 * i) c.word-in-loop-i.result c.first_word.result word other low under inv.so_far
          c.cmp-order.result c.cmp-order.ensures (sym c.is_ne.ensures ∙ c.if-is_ne.false));
    }

pub returns-clause-answer : goal.returns-clause-answer
returns-clause-answer g c =
    let ws = g.F.Frozen.records c.args.frozen.now c.args.stored in
    let text = stored_text ws in
    let bytes = c.args.bytes.now in
    let count : c.word.result ≡ length text = c.word.ensures.value ∙ text_count ws c.requires.record in
    let i = c.loop-i.i in
    c.cmp.ensures ∙ ap (λ k. nat_cmp k (length bytes)) count
    ∙ ends text bytes (small_text _ _) (λ k. omega (arith, c.type_inv.bytes k)) (8 * i) (past (length text) (length bytes) i (omega arith)) c.loop-i.invariant.so_far
