use Rattle.std.proofs.Common.{◌∙◌, ap}
use Rattle.atomic_table.specs.Seated.{TableId}
use Rattle.arena_api.specs.Works.{is_free, WorkView}
use Rattle.attr_c.proofs.OpenLemmas.{nothing_yet}
use Rattle.attr_c.proofs.opening.running.Goals as goal

pub returns-in-Ok-clause-nothing : goal.returns-in-Ok-clause-nothing
returns-in-Ok-clause-nothing g c =
    let made = c.in-Ok.ensures in
    nothing_yet _ _ _ _ _ _ _ _ c.operations.ensures.commit made.root made.table made.operations made.plan

pub returns-in-Ok-clause-store : goal.returns-in-Ok-clause-store
returns-in-Ok-clause-store g c =
    let made = c.in-Ok.ensures in
    let fresh = c.requires.fresh in
    record {
      no_commit = ap (λ (w : WorkView TableId). w.commits.last) made.work ∙ fresh.last;
      no_entry = made.counts;
      no_buffer = λ b. ap (λ (w : WorkView TableId). is_free (w.buffer b)) made.work ∙ fresh.buffers b;
    }
