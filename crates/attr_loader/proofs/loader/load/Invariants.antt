use Rattle.std.proofs.Common.{◌≡◌, ◌<◌, ◌≤◌, length, None}
use Rattle.std.specs.Prelude.{drop}
use Rattle.attr_loader.specs.Runs.{IsSmall}
use Rattle.attr_loader.specs.Room.{load_of, HasMadeNothing}
use Rattle.attr_loader.proofs.RoomRuns.{Runs}
use Rattle.attr_loader.proofs.SmallRuns.{QuietRuns}
use Rattle.attr_loader.proofs.Stands.{Stands}
use Rattle.attr_loader.proofs.loader.load.Given as goal

abbrev pub invariant-loop-rest : goal.invariant-loop-rest
invariant-loop-rest g l = record {
  rest : l.rest ≡ drop l.operations l.fn.ops;
  within : l.operations ≤ length l.fn.ops;
  room : length l.fn.attribute.fields ≡ 1 → HasMadeNothing (g.S.Store.ledger l.fn.attribute.store) → Runs g.S.Store.ledger l.fn.batch l.fn.ops l.fn.attribute l.attribute l.operations;
  small : length l.fn.attribute.fields ≡ 1 → HasMadeNothing (g.S.Store.ledger l.fn.attribute.store) → l.fn.attribute.plan ≡ None
      → IsSmall (load_of (g.S.Store.ledger l.fn.attribute.store).work.sizes.buffers (g.S.Store.ledger l.fn.attribute.store).work.sizes.words l.fn.attribute.fields l.fn.batch l.fn.ops)
      → l.operations < length l.fn.ops → QuietRuns g.S.Store.ledger l.fn.batch l.fn.ops l.fn.attribute l.attribute l.operations;
  stands : Stands g.S.Store.ledger l.fn.batch l.fn.ops l.fn.attribute l.attribute l.operations l.skipped;
}

abbrev pub decreases-loop-rest : goal.decreases-loop-rest
decreases-loop-rest g l = length l.rest
