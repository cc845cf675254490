use Rattle.std.proofs.Common.{◌∷◌, [], ap, arith}
use Rattle.store_api.specs.Parts.{entry}
use Rattle.doc_vector.proofs.DocumentLemmas.{same_number}
use Rattle.bit_vector.proofs.TurnLemmas.{adds_block, listed, number_keyed, owns_tree}
use Rattle.bit_vector.proofs.changing.add_block.Goals as goal

pub insert-requires : goal.insert-requires
insert-requires g c =
    let a = g.S.Store.ledger c.args.store.now in
    let m = g.S.Frozen.records c.args.store.now in (
      omega arith,
      (
        c.requires.unit,
        (
          number_keyed m c.args.root c.requires.vector.tree_is,
          (
            record { readable = tt; apart = tt; equal = same_number c.args.number },
            owns_tree a a a m m m c.args.root 0 c.args.number [] (entry c.args.block ∷ []) c.requires.vector c.requires.owns (ap listed c.requires.lacks),
          ),
        ),
      ),
    )

pub returns-clause-sets : goal.returns-clause-sets
returns-clause-sets g c =
    let s = c.args.store.now in
    let t = c.insert.new.store in
    adds_block (g.S.Store.ledger s) (g.S.Store.ledger t) (g.S.Frozen.records s) (g.S.Frozen.records t) c.args.root c.args.number c.args.block c.raw.result c.requires.vector c.requires.form
    c.requires.numbers c.requires.owns c.requires.lacks c.raw.ensures c.insert.result c.insert.ensures.keyed c.insert.ensures.pairs c.insert.ensures.turns
