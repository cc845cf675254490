use Rattle.std.proofs.Common.{◌+◌, ◌-◌, ◌∙◌, drop, sym, ap, subst, arith, length-drop}
use Rattle.std.specs.Int.{to_be_bytes}
use Rattle.std.proofs.lemmas.List.{get_or-drop}
use Rattle.std.proofs.lemmas.Result.{err_from_is_err_and}
use Rattle.entry_ref.specs.Records.{HasWord, word_at}
use Rattle.unique_store.proofs.RecordLemmas.{text_size}
use Rattle.attr_saver.proofs.StoredLemmas.{text_split}
use Rattle.attr_saver.proofs.WriteLemmas.{front-on, front-cut}
use Rattle.attr_saver.proofs.stored_values.write_words.Goals as goal

pub word-word-requires : goal.word-word-requires
word-word-requires g c =
    let ws = g.F.Frozen.records c.args.frozen.now c.args.stored in
    let size = text_size ws c.requires.record in
    let len = c.requires.count in
    (omega arith, subst (λ (f : g.row.F.Denot). HasWord (g.F.Frozen.records f) c.args.stored (1 + c.loop-i.i)) (sym c.loop-i.invariant.same) (omega arith))

pub returns-in_err-put-clause-writes : goal.returns-in_err-put-clause-writes
returns-in_err-put-clause-writes g c =
    let ws = g.F.Frozen.records c.args.frozen.now c.args.stored in
    let size = text_size ws c.requires.record in
    let len = c.requires.count in
    let i = c.loop-i.i in
    let inv = c.loop-i.invariant in
    let word = c.word-word.ensures.value ∙ ap (λ (f : g.row.F.Denot). word_at (g.F.Frozen.records f) c.args.stored (1 + i)) inv.same ∙ sym (get_or-drop 1 ws i 0) in
    let split = text_split c.args.count i c.word-word.result (drop 1 ws) (omega (arith, length-drop 1 ws)) word in
    let put = rw (c.to_be_bytes.ensures, c.min-left.ensures) at c.in_err-put.ensures in
    let p = err_from_is_err_and c.from_residual.result c.from_residual.ensures.1 in
    rw (p.1, p.2) (front-cut _ _ _ _ _ _ inv.so_far _ _ _ _ c.in_err-put.field-0.0 split put)

pub loop-i-preserved : goal.loop-i-preserved
loop-i-preserved g c =
    let ws = g.F.Frozen.records c.args.frozen.now c.args.stored in
    let size = text_size ws c.requires.record in
    let len = c.requires.count in
    let i = c.loop-i.i in
    let inv = c.loop-i.invariant in
    let word = c.word-word.ensures.value ∙ ap (λ (f : g.row.F.Denot). word_at (g.F.Frozen.records f) c.args.stored (1 + i)) inv.same ∙ sym (get_or-drop 1 ws i 0) in
    let split = text_split c.args.count i c.word-word.result (drop 1 ws) (omega (arith, length-drop 1 ws)) word in
    let put = rw (c.to_be_bytes.ensures, c.min-left.ensures) at c.in_ok-put.ensures in
    record {
      same = c.word-word.ensures.same ∙ inv.same;
      so_far = front-on _ _ _ _ _ _ inv.so_far _ _ _ _ c.in_ok-put.field-0 split put;
    }
