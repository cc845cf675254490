use Rattle.std.proofs.Common.{sym, ap, ◌∙◌, arith}
use Rattle.attr_compaction.specs.PhaseKeys.{first_item}
use Rattle.attr_compaction.proofs.ListLemmas.{first_tree, short_docs, tree_form_is, tree_numbers}
use Rattle.attr_compaction.proofs.lists.first_plain.Goals as goal

pub returns-then-is_short-clause-first : goal.returns-then-is_short-clause-first
returns-then-is_short-clause-first g c =
    sym (ap first_item (short_docs (g.F.Frozen.records c.args.frozen.now) c.args.list c.requires.plain (c.is_short.ensures.even c.if-is_short.true)))

pub first_number-requires : goal.first_number-requires
first_number-requires g c =
    let m = g.F.Frozen.records c.args.frozen.now in
    let odd = c.is_short.ensures.odd c.if-is_short.false in (
      omega arith,
      (
        (tree_form_is m c.args.list c.root_of.result c.requires.list c.requires.plain odd c.root_of.ensures).0,
        tree_numbers m c.args.list c.root_of.result c.requires.list c.requires.plain odd c.root_of.ensures,
      ),
    )

pub returns-clause-first : goal.returns-clause-first
returns-clause-first g c =
    let odd = c.is_short.ensures.odd c.if-is_short.false in
    c.first_number.ensures.number ∙ first_tree (g.F.Frozen.records c.args.frozen.now) c.args.list c.root_of.result c.requires.list c.requires.plain odd c.root_of.ensures
