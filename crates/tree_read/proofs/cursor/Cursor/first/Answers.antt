use Rattle.std.proofs.Common.{◌<◌, ◌++◌, ap, sym, subst, ◌∙◌, arith}
use Rattle.std.proofs.lemmas.List.{append-nil}
use Rattle.tree_read.specs.Nodes.{level_of}
use Rattle.tree_read.specs.Trees.{pairs_below}
use Rattle.tree_read.specs.SearchPlaces.{CursorPlace, Leads, pairs_behind}
use Rattle.tree_read.proofs.PlaceLemmas.{leads-root, root_pairs}
use Rattle.tree_read.proofs.cursor.Cursor.first.Goals as goal

pub enter-requires : goal.enter-requires
enter-requires g c =
    let m = g.F.Frozen.records c.args.frozen.now in
    let root = c.args.root in
    let some : 0 < root = omega arith in
    (omega arith, (omega arith, subst (λ (p : CursorPlace). Leads m p.root p.path root) (sym c.at_end_of-cursor.ensures) (leads-root m root some (c.requires.tree some))))

pub returns-then-valid-clause-pairs : goal.returns-then-valid-clause-pairs
returns-then-valid-clause-pairs g c =
    let m = g.F.Frozen.records c.args.frozen.now in
    let root = c.args.root in
    let some : 0 < root = omega arith in
    c.enter.ensures.pairs
    ∙ ap (λ (p : CursorPlace). pairs_below m (level_of (m root)) root ++ pairs_behind m (level_of (m root)) p.path) c.at_end_of-cursor.ensures
    ∙ append-nil (pairs_below m (level_of (m root)) root)
    ∙ sym (root_pairs m root some (c.requires.tree some))
