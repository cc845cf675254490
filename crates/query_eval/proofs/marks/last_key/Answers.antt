use Rattle.std.proofs.Common.{◌≡◌, ◌≤◌, ℕ, length, arith, sym, ap, subst, ◌∙◌}
use Rattle.query_eval.proofs.TreeLemmas.{root_form}
use Rattle.query_eval.proofs.marks.last_key.Goals as goal

pub read_head-used-requires : goal.read_head-used-requires
read_head-used-requires g c =
    let form = root_form (g.F.Frozen.records c.args.frozen.now) c.args.root c.requires.form in
    let size = form.0 in
    (omega arith, omega (arith, size))

pub word-requires : goal.word-requires
word-requires g c =
    let form = root_form (g.F.Frozen.records c.args.frozen.now) c.args.root c.requires.form in
    let size : length (g.F.Frozen.records c.read_head-used.new.frozen c.args.root) ≡ 34 =
    ap (λ (f : g.row.F.Denot). length (g.F.Frozen.records f c.args.root)) c.read_head-used.ensures.same ∙ form.0 in
    let used : c.read_head-used.result.used ≤ 16 = subst (λ (n : ℕ). n ≤ 16) (sym c.read_head-used.ensures.used) form.1 in
    (omega arith, omega (arith, size, used))
