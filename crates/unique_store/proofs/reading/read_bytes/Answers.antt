use Rattle.std.proofs.Common.{◌+◌, ◌<◌, ◌∙◌, length, take, sym, ap, subst, arith}
use Rattle.entry_ref.specs.Records.{HasWord, word_at}
use Rattle.unique_store.proofs.RecordLemmas.{text_count, text_size, text_read, bytes_more}
use Rattle.unique_store.proofs.reading.read_bytes.Goals as goal

pub word-word-requires : goal.word-word-requires
word-word-requires g c =
    let ws = g.F.Frozen.records c.args.frozen.now c.args.stored in
    let count = text_count ws c.requires in
    let value = c.word-count.ensures.value in
    let size = text_size ws c.requires in
    (omega arith, subst (λ (f : g.row.F.Denot). HasWord (g.F.Frozen.records f) c.args.stored (1 + c.loop-i.i)) (sym c.loop-i.invariant.same) (omega arith))

pub loop-i-preserved : goal.loop-i-preserved
loop-i-preserved g c =
    let ws = g.F.Frozen.records c.args.frozen.now c.args.stored in
    let count = text_count ws c.requires in
    let value = c.word-count.ensures.value in
    let size = text_size ws c.requires in
    let i = c.loop-i.i in
    let inv = c.loop-i.invariant in
    let low : 1 + i < length ws = omega arith in
    let word = c.word-word.ensures.value ∙ ap (λ (f : g.row.F.Denot). word_at (g.F.Frozen.records f) c.args.stored (1 + i)) inv.same in
    record {
      same = c.word-word.ensures.same ∙ inv.same;
      so_far = bytes_more ws c.loop-i.bytes.items c.push_word.new.bytes.items i c.word-word.result low word inv.so_far c.in_ok-push_word.ensures;
    }

pub returns-clause-bytes : goal.returns-clause-bytes
returns-clause-bytes g c =
    let ws = g.F.Frozen.records c.args.frozen.now c.args.stored in
    let count = text_count ws c.requires in
    let value = c.word-count.ensures.value in
    let size = text_size ws c.requires in
    let i = c.loop-i.i in
    c.truncate.ensures.items ∙ ap (take c.word-count.result) c.loop-i.invariant.so_far
    ∙ text_read ws c.word-count.result i (omega arith) (omega arith) (sym value)
