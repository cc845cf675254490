use Rattle.std.proofs.Common.{length, refl, arith}
use Rattle.attr_operations.specs.Fields.{trees_of}
use Rattle.compaction_steps.proofs.OpenLemmas.{opens_begun}
use Rattle.compaction_steps.proofs.opening.begin_plan.Goals as goal

pub returns-in_err-victim-clause-opens : goal.returns-in_err-victim-clause-opens
returns-in_err-victim-clause-opens g c = rw c.from_residual.ensures tt

pub returns-in_err-victim-clause-none : goal.returns-in_err-victim-clause-none
returns-in_err-victim-clause-none g c = rw c.from_residual.ensures (record { none = refl; why = c.in_err-victim.ensures.none; store_is = refl })

pub seal-requires : goal.seal-requires
seal-requires g c =
    let is = c.in_ok-victim.ensures.some.candidate in
    record { below = is.below; active = is.active; unfilled = is.unfilled }

pub overflow_cast-fields : goal.overflow_cast-fields
overflow_cast-fields g c = omega (arith, c.requires.few)

pub start-requires : goal.start-requires
start-requires g c = c.requires.holds.are_fields.some

pub returns-clause-opens : goal.returns-clause-opens
returns-clause-opens g c =
    let ledger = g.S.Store.ledger in
    let records = g.S.Frozen.records in
    let old = c.args.store.now in
    let new = c.seal.new.self in
    let fields = c.args.fields.now in
    opens_begun g.row.OFFSET_BITS c.args.root (ledger old) (records old) fields (trees_of fields c.args.roots.now) c.requires.holds c.stage_law.ensures.first (ledger new) c.in_ok-victim.victim (length fields)
    c.seal.ensures.seals c.in_ok-victim.ensures.some c.requires.unfinished refl (g.met.S.Store.left_out old) (records new) c.start.result c.seal.ensures.records c.start.ensures.victim c.start.ensures.fields c.start.ensures.place c.start.ensures.copied
