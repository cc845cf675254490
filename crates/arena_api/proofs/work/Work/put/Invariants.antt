use Rattle.std.proofs.Common.{◌≡◌, ◌≢◌, ℕ, ◌<◌, Some, slice_index}
use Rattle.arena_api.proofs.work.Work.put.Given as goal

abbrev pub invariant-loop-i : goal.invariant-loop-i
invariant-loop-i g l =
    let records = g.Self.Frozen.records in
    let work = g.Self.Work in
    record {
      knows : work.knows l.self ≡ record (work.knows l.fn.self) { stored = (work.knows l.self).stored };
      filled : (j : ℕ) → j < l.i → (work.knows l.self).stored l.entry j ≡ Some (slice_index l.words j);
      apart : (q j : ℕ) → q ≢ l.entry → (work.knows l.self).stored q j ≡ (work.knows l.fn.self).stored q j;
      others : (q : ℕ) → q ≢ l.entry → records l.self q ≡ records l.fn.self q;
      shape : g.Self.Frozen.shape l.self ≡ g.Self.Frozen.shape l.fn.self;
    }
