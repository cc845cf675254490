use Rattle.std.proofs.Common.{◌≡◌, ◌<◌, ◌≤◌, ◌+◌, ◌∙◌, ap, arith, drop, length, length-drop, length-take, sym}
use Rattle.std.proofs.lemmas.List.{drop_all, take_rest}
use Rattle.attr_io.specs.FakeSource.{FakeSourceState}
use Rattle.attr_io.proofs.ReadLemmas.{drop-read}
use Rattle.attr_io.proofs.fake.FakeSourceSource.read.Goals as goal

-- the bytes given are the first of those left, and there are none only at the end
pub returns-clause-bytes : goal.returns-clause-bytes
returns-clause-bytes c =
    let bytes = c.self.inside.bytes.items in
    let at = c.self.inside.at in
    let most = c.min-most.result in
    let n = c.copy_front-count.result in
    let offered = rw c.deref.ensures.value at c.copy_front-count.ensures.front in
    let most_is = rw (c.deref.ensures.value, take_rest) at c.min-most.ensures in
    let n_is = rw (c.deref.ensures.value, take_rest) at c.copy_front-count.ensures.count in
    let part_len = length-take most (drop at bytes) in
    let rest_len = length-drop at bytes in
    let can_step = c.self.invariant.1 in
    let few : n ≤ most = omega (arith, n_is, part_len) in
    let left_is = ap (λ (s : FakeSourceState). s.left) (sym c.self.view_is) in
    let all_given = λ (none : n ≡ 0) (some : 0 < length c.copy_front-count.new.into).
    let all : length bytes ≤ at + n = omega (arith, c.copy_front-count.auto.into) in
    drop_all (at + n) bytes all in
    (left_is ∙ drop-read bytes c.copy_front-count.new.into at most n few offered, all_given)
