use Rattle.std.proofs.Common.{◌≡◌, ◌+◌, ◌-◌, ◌^◌, ◌<◌, ◌≤◌, length, drop}
use Rattle.attribute_kinds.specs.Calls.{KeepsStore}
use Rattle.attr_c.specs.Applying.{Applies}
use Rattle.attr_c.specs.Feeding.{FedTo, IsSaidBefore, Stays}
use Rattle.attr_c.proofs.feeding.feed.Given as goal

-- what was applied is what the feed says before the lines that are left
abbrev pub invariant-loop-rest : goal.invariant-loop-rest
invariant-loop-rest g l = record {
  fed : FedTo l.fn.inner.fields l.fn.bytes (l.passed + 1) l.rest l.fn.inner.attribute.table l.inner.attribute.table l.fn.inner.attribute.operations l.inner.attribute.operations
      l.told.skipped;
  told : l.told ≡ record l.fn.told { skipped = l.told.skipped };
  pool : l.inner.pool ≡ l.fn.inner.pool;
  counts : l.inner.counts ≡ l.fn.inner.counts;
  fields : l.inner.fields ≡ l.fn.inner.fields;
  dense : l.inner.attribute.dense ≡ l.fn.inner.attribute.dense;
  keeps : KeepsStore (g.S.Store.ledger l.fn.inner.attribute.store) (g.S.Store.ledger l.inner.attribute.store);
  plan : l.inner.attribute.plan ≡ l.fn.inner.attribute.plan;
  done : Applies g.S.Store.ledger (IsSaidBefore l.fn.inner.fields l.fn.bytes l.rest) l.fn.inner.attribute l.inner.attribute;
  at : l.rest ≡ drop (length l.fn.bytes - length l.rest) l.fn.bytes;
  commit : Stays l.fn.inner.attribute.committed l.inner.attribute.committed l.fn.inner.attribute.committed_operations l.inner.attribute.committed_operations;
  small : l.told.skipped < 2 ^ 32;
  few : l.passed + length l.rest ≤ length l.fn.bytes;
}

abbrev pub decreases-loop-rest : goal.decreases-loop-rest
decreases-loop-rest g l = length l.rest
