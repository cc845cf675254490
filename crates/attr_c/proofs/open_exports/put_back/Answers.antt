use Rattle.std.proofs.Common.{◌≡◌, ◌∙◌, rules, w32, to_z}
use Rattle.attr_c.proofs.open_exports.put_back.Goals as goal
use Rattle.attr_c.proofs.open_exports.put_back.Goals.{in-Narrow-Narrow, in-Narrow-Wide, in-Wide-Wide, in-Wide-Narrow}

pub returns-clause-others : goal.returns-clause-others
returns-clause-others c =
    elim c.match-inner.branch [
      | in-Narrow-Narrow w ↦ (let is : to_z w32 c.match-inner.result-bits ≡ w.put_last.result = search rules in λ not_ok not_lost. is ∙ w.put_last.ensures.code (λ ok. not_ok (is ∙ ok)))
      | in-Narrow-Wide w ↦
          (let is : to_z w32 c.match-inner.result-bits ≡ w.lost.result = search rules in λ not_ok not_lost. absurd (not_lost (is ∙ w.lost.ensures.code)))
      | in-Wide-Wide w ↦
          (let is : to_z w32 c.match-inner.result-bits ≡ w.put_last-in-Wide-Wide.result = search rules in
          λ not_ok not_lost. is ∙ w.put_last-in-Wide-Wide.ensures.code (λ ok. not_ok (is ∙ ok)))
      | in-Wide-Narrow w ↦
          (let is : to_z w32 c.match-inner.result-bits ≡ w.lost-in-Wide-Narrow.result = search rules in
          λ not_ok not_lost. absurd (not_lost (is ∙ w.lost-in-Wide-Narrow.ensures.code)))
    ]

pub returns-clause-left : goal.returns-clause-left
returns-clause-left c =
    elim c.match-inner.branch [
      | in-Narrow-Narrow w ↦
          (let is : to_z w32 c.match-inner.result-bits ≡ w.put_last.result = search rules in
          λ not_ok. rw w.inner-is (let same = w.put_last.ensures.left (λ ok. not_ok (is ∙ ok)) in search (rules, same)))
      | in-Narrow-Wide w ↦ λ not_ok. search rules
      | in-Wide-Wide w ↦
          (let is : to_z w32 c.match-inner.result-bits ≡ w.put_last-in-Wide-Wide.result = search rules in
          λ not_ok. rw w.inner-is (let same = w.put_last-in-Wide-Wide.ensures.left (λ ok. not_ok (is ∙ ok)) in search (rules, same)))
      | in-Wide-Narrow w ↦ λ not_ok. search rules
    ]
