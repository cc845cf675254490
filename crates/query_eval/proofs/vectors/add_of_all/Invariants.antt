use Rattle.std.proofs.Common.{◌≡◌, ◌||◌, ◌+◌, ◌*◌, ◌<◌, ℕ, length, drop}
use Rattle.index_model.specs.Sets.{in_words}
use Rattle.query_eval.specs.Lists.{some_has, AreVectorWords}
use Rattle.query_eval.proofs.vectors.add_of_all.Given as goal

-- the bits that are there, and the lists that are left
abbrev pub invariant-loop-list : goal.invariant-loop-list
invariant-loop-list g l =
    let m = g.F.Frozen.records l.fn.frozen in
    record {
      same : l.frozen ≡ l.fn.frozen;
      size : length l.words ≡ 64;
      left : AreVectorWords m (drop l.list-index l.lists);
      whole : (i : ℕ) → i < 4096 → (in_words l.words i || some_has m (drop l.list-index l.lists) (4096 * l.block + i))
          ≡ (in_words l.fn.words i || some_has m l.lists (4096 * l.block + i));
    }
