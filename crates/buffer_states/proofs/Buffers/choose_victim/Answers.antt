use Rattle.std.proofs.Common.{◌≡◌, ◌<◌, ◌≤◌, IfSome, length, ap, subst, ◌∙◌, arith}
use Rattle.std.proofs.lemmas.List.{get_or_read}
use Rattle.buffer_states.specs.Buffers.{new_buffer, buffer_at, gain_of, IsVictim}
use Rattle.buffer_states.proofs.Victims.{best-keep, best-take, best-answer}
use Rattle.buffer_states.proofs.Buffers.choose_victim.Goals as goal
use Rattle.buffer_states.proofs.Buffers.choose_victim.Goals.{then-gain-most, else-gain-most}

pub loop-number-preserved : goal.loop-number-preserved
loop-number-preserved c =
    let xs = c.self.inside.buffers.items in
    let i = c.loop-number.number in
    let below : i < length xs = omega (arith, c.loop-number-test.true, c.len-number-end.ensures, c.self.inside.buffers.ok.0) in
    let gain : c.gain-gain.result ≡ gain_of (buffer_at xs i) = c.gain-gain.ensures ∙ ap gain_of (get_or_read xs i _ below c.index.ensures new_buffer) in
    elim c.if-gain-most.branch [
      | then-gain-most w ↦ rw (w.victim-is, w.most-is) (best-take xs i c.loop-number.victim c.loop-number.most c.gain-gain.result c.loop-number.invariant gain
          (let high : c.loop-number.most < c.gain-gain.result = omega (arith, w.if-gain-most) in high))
      | else-gain-most w ↦ rw (w.victim-is, w.most-is) (best-keep xs i c.loop-number.victim c.loop-number.most c.loop-number.invariant
          (let low : gain_of (buffer_at xs i) ≤ c.loop-number.most = omega (arith, w.if-gain-most, gain) in low))
    ]

pub returns-clause-victim : goal.returns-clause-victim
returns-clause-victim c =
    let xs = c.self.inside.buffers.items in
    let all : c.loop-number.number ≡ length xs =
    omega (arith, c.loop-number-test.false, c.loop-number.auto.number-end, c.len-number-end.ensures, c.self.inside.buffers.ok.0) in
    subst (λ buffers. IfSome c.loop-number.victim (IsVictim buffers)) c.self.view_is (best-answer xs c.loop-number.number c.loop-number.victim c.loop-number.most c.loop-number.invariant all)
