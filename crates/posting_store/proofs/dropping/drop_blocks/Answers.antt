use Rattle.std.proofs.Common.{◌∷◌, [], refl, arith}
use Rattle.bit_vector.specs.Changes.{vector_part}
use Rattle.store_api.proofs.PartLemmas.{turns-as}
use Rattle.posting_store.specs.Changes.{list_part}
use Rattle.posting_store.proofs.VectorLemmas.{vector_counted, vector_is, vector_owned}
use Rattle.posting_store.proofs.dropping.drop_blocks.Goals as goal

pub drop_vector-requires : goal.drop_vector-requires
drop_vector-requires g c =
    let a = g.S.Store.ledger c.args.store.now in
    let m = g.S.Frozen.records c.args.store.now in
    let root = c.root_of-root.result in
    let is = c.root_of-root.ensures in
    (omega arith, (c.requires.unit, (vector_is m c.args.list root is c.requires.list, vector_owned m c.args.list root is a c.requires.owns)))

pub returns-clause-turns : goal.returns-clause-turns
returns-clause-turns g c =
    let ledger = g.S.Store.ledger in
    let records = g.S.Frozen.records in
    let s = c.args.store.now in
    let t = c.drop_vector.new.store in
    turns-as (ledger s) (ledger t) (records s) (records t) (vector_part c.root_of-root.result ∷ []) [] (list_part c.args.list ∷ []) [] c.drop_vector.ensures.turns
    (vector_counted (records s) c.args.list c.root_of-root.result c.root_of-root.ensures) (λ r. refl)
