use Rattle.std.proofs.Common.{◌≡◌, ◌<◌, ◌≤◌, length, false, ap, sym, ◌∙◌, refl, true≢false, arith}
use Rattle.generation_handler.specs.Queues.{has_hold}
use Rattle.generation_handler.proofs.QueueLemmas.{few-holds, closed-room, all-open}
use Rattle.generation_handler.proofs.Holds.open_next.Goals as goal

pub returns-then-not-is_open-clause-none : goal.returns-then-not-is_open-clause-none
returns-then-not-is_open-clause-none c =
    let queue = c.self.inside.queue.items in
    let closed : has_hold queue c.loop-hold.hold ≡ false =
    ap (λ q. has_hold q c.loop-hold.hold) (sym c.deref.ensures.0) ∙ sym c.is_open.ensures ∙ c.if-not-is_open.true in
    let room : length queue < 16 = closed-room queue c.loop-hold.hold c.self.invariant c.loop-hold-test.true closed in
    let size : length queue ≡ length c.args.self.now = ap length c.self.view_is in
    (λ no. absurd (true≢false no), λ full. absurd (omega (arith, room, size, full)))

pub returns-clause-none : goal.returns-clause-none
returns-clause-none c =
    let queue = c.self.inside.queue.items in
    let many : 16 ≤ length queue = all-open queue (λ k low. c.loop-hold.invariant k (omega (arith, c.loop-hold-test.false, low))) in
    let few : length queue ≤ 16 = few-holds queue c.self.invariant in
    let size : length queue ≡ length c.args.self.now = ap length c.self.view_is in
    (λ _. omega (arith, many, few, size), λ _. refl)
