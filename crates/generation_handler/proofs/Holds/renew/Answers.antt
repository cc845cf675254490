use Rattle.std.proofs.Common.{◌≤◌, ◌∷◌, [], length, length-append, ap, sym, subst, refl, lit<, arith}
use Rattle.generation_handler.specs.Queues.{IsQueue}
use Rattle.generation_handler.proofs.QueueLemmas.{few-holds, queue-renewed}
use Rattle.generation_handler.proofs.Holds.renew.Goals as goal

pub push-requires : goal.push-requires
push-requires c =
    let few : length c.self.inside.queue.items ≤ 16 = few-holds c.self.inside.queue.items c.self.invariant in
    (lit< tt, omega (arith, few, ap length c.in-Some.ensures.items, length-append c.pop.new.self.items (c.in-Some.newest ∷ [])))

pub invariant_of-self : goal.invariant_of-self
invariant_of-self c =
    subst IsQueue (sym c.push.ensures.items)
    (queue-renewed c.pop.new.self.items c.in-Some.newest _ refl (subst IsQueue c.in-Some.ensures.items c.self.invariant))
