use Rattle.std.proofs.Common.{◌≡◌, ◌∷◌, [], length, true}
use Rattle.entry_ref.specs.Records.{SameAt}
use Rattle.store_api.specs.Parts.{Owns, entries}
use Rattle.store_api.specs.Units.{MayDo, MakesWithin}
use Rattle.tree_read.specs.Trees.{tree_nodes, tree_pairs}
use Rattle.frozen_btree.specs.Changes.{tree}
use Rattle.bit_vector.specs.Changes.{vector_most}
use Rattle.bit_vector.specs.Fillings.{MakesBlocks}
use Rattle.bit_vector.proofs.FillLemmas.{keys}
use Rattle.bit_vector.proofs.filling.make_blocks.Given as goal

abbrev pub invariant-loop-number : goal.invariant-loop-number
invariant-loop-number g l =
    let a = g.S.Store.ledger l.fn.store in
    let b = g.S.Store.ledger l.store in
    let m = g.S.Frozen.records l.fn.store in
    let n = g.S.Frozen.records l.store in
    record {
      unit : b.unit ≡ true;
      same : SameAt (tree_nodes m l.fn.root) m n;
      owns : Owns b n (tree l.fn.root ∷ entries l.blocks.records.items ∷ []);
      makes : MakesBlocks a b m n (keys (tree_pairs m l.fn.root)) l.number l.blocks;
      counts : MakesWithin a b (vector_most (length l.blocks.numbers.items) 0);
      may : MayDo a b;
    }
