use Rattle.std.proofs.Common.{◌≡◌, ◌∙◌, arith}
use Rattle.store_api.proofs.May.{may_do-same, may_do-then}
use Rattle.test_structures.proofs.stores.fill.Goals as goal

pub loop-count-init : goal.loop-count-init
loop-count-init g c = may_do-same (g.S.Store.ledger c.args.store.now)

pub make-requires : goal.make-requires
make-requires g c = (omega arith, (c.loop-count.invariant.unit ∙ c.requires.unit, (c.requires.width, omega arith)))

pub raw-last-requires : goal.raw-last-requires
raw-last-requires g c = omega arith

pub returns-in-Err : goal.returns-in-Err
returns-in-Err g c = record { may = may_do-then _ _ _ c.loop-count.invariant c.make.ensures.may }

pub loop-count-preserved : goal.loop-count-preserved
loop-count-preserved g c = may_do-then _ _ _ c.loop-count.invariant c.make.ensures.may

pub returns : goal.returns
returns g c = record { may = c.loop-count.invariant }
