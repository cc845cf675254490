use Rattle.std.proofs.Common.{◌+◌, ◌-◌, ◌/◌, ◌<◌, ◌++◌, ◌∙◌, ℕ, List, length, take, ap, arith}
use Rattle.std.proofs.lemmas.List.{length-set, take_more_set}
use Rattle.std.specs.Prelude.{slice_set}
use Rattle.image_format.specs.Values.{packed_bytes}
use Rattle.unique_store.proofs.ByteLemmas.{pack_step}
use Rattle.unique_store.proofs.bytes.pack.Goals as goal

pub loop-i-preserved : goal.loop-i-preserved
loop-i-preserved c =
    let n = (length c.args.bytes.now + 7) / 8 in
    let words = c.loop-i.words in
    let rest = c.loop-i.rest.now in
    let i = c.loop-i.i in
    let word = c.first_word.result in
    let inv = c.loop-i.invariant in
    let size = inv.size in
    let low : i < length words = omega arith in
    record {
      size = length-set words i word ∙ size;
      so_far =
          ap (λ (r : List ℕ). take (i + 1) (slice_set words i word) ++ packed_bytes (n - (i + 1)) r) c.behind_eight-rest.ensures
          ∙ pack_step words (slice_set words i word) rest (packed_bytes n c.args.bytes.now) n i word size (omega arith) c.first_word.ensures (take_more_set words i word low) inv.so_far;
    }
