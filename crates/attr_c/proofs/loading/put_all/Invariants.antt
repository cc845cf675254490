use Rattle.std.proofs.Common.{◌≡◌, ◌++◌}
use Rattle.std.specs.Vec.Iter.{into_iter_items}
use Rattle.attribute_kinds.specs.Calls.{KeepsStore}
use Rattle.attr_c.specs.Feeding.{Stays}
use Rattle.attr_c.specs.Applying.{Applies}
use Rattle.attr_c.specs.Loading.{puts_of, PutsIn}
use Rattle.attr_c.proofs.loading.put_all.Given as goal

-- the documents so far were put in
abbrev pub invariant-loop-document : goal.invariant-loop-document
invariant-loop-document g l = record {
  puts : PutsIn l.fn.inner.fields l.yielded l.fn.inner.attribute.table l.inner.attribute.table l.fn.inner.attribute.operations l.inner.attribute.operations;
  pool : l.inner.pool ≡ l.fn.inner.pool;
  counts : l.inner.counts ≡ l.fn.inner.counts;
  fields : l.inner.fields ≡ l.fn.inner.fields;
  dense : l.inner.attribute.dense ≡ l.fn.inner.attribute.dense;
  keeps : KeepsStore (g.S.Store.ledger l.fn.inner.attribute.store) (g.S.Store.ledger l.inner.attribute.store);
  plan : l.inner.attribute.plan ≡ l.fn.inner.attribute.plan;
  done : Applies g.S.Store.ledger (λ ops. ops ≡ puts_of l.yielded) l.fn.inner.attribute l.inner.attribute;
  commit : Stays l.fn.inner.attribute.committed l.inner.attribute.committed l.fn.inner.attribute.committed_operations l.inner.attribute.committed_operations;
  all : l.yielded ++ into_iter_items l.document-iterator ≡ l.fn.documents.items;
}
