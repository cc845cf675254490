use Rattle.std.proofs.Common.{◌≡◌, ◌∷◌, [], None, Some, true, sym, subst, ◌∙◌, arith}
use Rattle.std.specs.Prelude.{IfOk, IfErr}
use Rattle.store_api.specs.Calls.{IsUsedWidth, RefusesOf}
use Rattle.store_api.specs.Parts.{Owns}
use Rattle.store_api.specs.Units.{MayDo, MakesWithin}
use Rattle.bit_vector.specs.Changes.{vector_most, vector_part}
use Rattle.bit_vector.specs.Keeps.{block_at}
use Rattle.bit_vector.specs.Moves.{moved_nodes, MovesBlock}
use Rattle.bit_vector.specs.Vectors.{IsVector}
use Rattle.bit_vector.proofs.moving.move_block.Goals as goal

pub find_block-requires : goal.find_block-requires
find_block-requires g c = (omega arith, c.requires.vector)

pub move_there-requires : goal.move_there-requires
move_there-requires g c =
    let ledger = g.S.Store.ledger in
    let records = g.S.Frozen.records in
    let back = sym c.find_block.ensures.same in (
      omega arith,
      (
        subst (λ (f : g.row.S.Denot). (ledger f).unit ≡ true) back c.requires.unit,
        (
          subst (λ (f : g.row.S.Denot). (ledger f).sealed c.args.buffer ≡ true) back c.requires.sealed,
          (
            subst (λ (f : g.row.S.Denot). IsVector (records f) c.args.root) back c.requires.vector,
            (
              subst (λ (f : g.row.S.Denot). block_at (records f) c.args.root c.args.number ≡ Some c.in-Some.block) back (sym c.find_block.ensures.found ∙ c.in-Some.is),
              subst (λ (f : g.row.S.Denot). Owns (ledger f) (records f) (vector_part c.args.root ∷ [])) back c.requires.owns,
            ),
          ),
        ),
      ),
    )

pub returns-in-Some-clause-moves : goal.returns-in-Some-clause-moves
returns-in-Some-clause-moves g c =
    let ledger = g.S.Store.ledger in
    let records = g.S.Frozen.records in
    let t = c.move_there.new.store in
    subst (λ (f : g.row.S.Denot). IfOk c.move_there.result (MovesBlock g.row.OFFSET_BITS c.args.buffer c.args.number (ledger f) (ledger t) (records f) (records t) c.args.root))
    c.find_block.ensures.same c.move_there.ensures.moves

pub returns-in-Some-clause-counts : goal.returns-in-Some-clause-counts
returns-in-Some-clause-counts g c =
    let ledger = g.S.Store.ledger in
    subst (λ (f : g.row.S.Denot). MakesWithin (ledger f) (ledger c.move_there.new.store) (vector_most 1 moved_nodes)) c.find_block.ensures.same c.move_there.ensures.counts

pub returns-in-Some-clause-refuses : goal.returns-in-Some-clause-refuses
returns-in-Some-clause-refuses g c =
    let ledger = g.S.Store.ledger in
    subst (λ (f : g.row.S.Denot). IfErr c.move_there.result (RefusesOf (IsUsedWidth (ledger f) (g.S.Frozen.records f)) (ledger f) (ledger c.move_there.new.store))) c.find_block.ensures.same c.move_there.ensures.refuses

pub returns-in-Some-clause-may : goal.returns-in-Some-clause-may
returns-in-Some-clause-may g c =
    let ledger = g.S.Store.ledger in
    subst (λ (f : g.row.S.Denot). MayDo (ledger f) (ledger c.move_there.new.store)) c.find_block.ensures.same c.move_there.ensures.may

pub move_missing-requires : goal.move_missing-requires
move_missing-requires g c =
    let ledger = g.S.Store.ledger in
    let records = g.S.Frozen.records in
    let back = sym c.find_block.ensures.same in (
      omega arith,
      (
        subst (λ (f : g.row.S.Denot). (ledger f).unit ≡ true) back c.requires.unit,
        (
          subst (λ (f : g.row.S.Denot). (ledger f).sealed c.args.buffer ≡ true) back c.requires.sealed,
          (
            subst (λ (f : g.row.S.Denot). IsVector (records f) c.args.root) back c.requires.vector,
            (
              subst (λ (f : g.row.S.Denot). block_at (records f) c.args.root c.args.number ≡ None) back (sym c.find_block.ensures.found ∙ c.in-None.is),
              subst (λ (f : g.row.S.Denot). Owns (ledger f) (records f) (vector_part c.args.root ∷ [])) back c.requires.owns,
            ),
          ),
        ),
      ),
    )

pub returns-in-None-clause-moves : goal.returns-in-None-clause-moves
returns-in-None-clause-moves g c =
    let ledger = g.S.Store.ledger in
    let records = g.S.Frozen.records in
    let t = c.move_missing.new.store in
    subst (λ (f : g.row.S.Denot). IfOk c.move_missing.result (MovesBlock g.row.OFFSET_BITS c.args.buffer c.args.number (ledger f) (ledger t) (records f) (records t) c.args.root))
    c.find_block.ensures.same c.move_missing.ensures.moves

pub returns-in-None-clause-counts : goal.returns-in-None-clause-counts
returns-in-None-clause-counts g c =
    let ledger = g.S.Store.ledger in
    subst (λ (f : g.row.S.Denot). MakesWithin (ledger f) (ledger c.move_missing.new.store) (vector_most 1 moved_nodes)) c.find_block.ensures.same c.move_missing.ensures.counts

pub returns-in-None-clause-refuses : goal.returns-in-None-clause-refuses
returns-in-None-clause-refuses g c =
    let ledger = g.S.Store.ledger in
    subst (λ (f : g.row.S.Denot). IfErr c.move_missing.result (RefusesOf (IsUsedWidth (ledger f) (g.S.Frozen.records f)) (ledger f) (ledger c.move_missing.new.store)))
    c.find_block.ensures.same c.move_missing.ensures.refuses

pub returns-in-None-clause-may : goal.returns-in-None-clause-may
returns-in-None-clause-may g c =
    let ledger = g.S.Store.ledger in
    subst (λ (f : g.row.S.Denot). MayDo (ledger f) (ledger c.move_missing.new.store)) c.find_block.ensures.same c.move_missing.ensures.may
