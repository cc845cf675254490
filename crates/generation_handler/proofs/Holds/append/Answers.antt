use Rattle.std.proofs.Common.{ap, sym, subst, ◌∙◌, lit<}
use Rattle.generation_handler.specs.Queues.{has_hold, IsQueue}
use Rattle.generation_handler.proofs.QueueLemmas.{closed-room, queue-append}
use Rattle.generation_handler.proofs.Holds.append.Goals as goal

pub push-requires : goal.push-requires
push-requires c =
    let closed = ap (λ queue. has_hold queue c.args.hold) c.self.view_is ∙ c.requires.closed in
    (lit< tt, closed-room c.self.inside.queue.items c.args.hold c.self.invariant c.requires.hold closed)

pub invariant_of-self : goal.invariant_of-self
invariant_of-self c =
    let closed = ap (λ queue. has_hold queue c.args.hold) c.self.view_is ∙ c.requires.closed in
    subst IsQueue (sym c.push.ensures.items) (queue-append c.self.inside.queue.items _ c.self.invariant c.requires.hold closed)
