use Rattle.std.proofs.Common.{◌∙◌, arith}
use Rattle.attr_compaction.proofs.ListLemmas.{past_tree, short_past, tree_form_is, tree_numbers}
use Rattle.attr_compaction.proofs.lists.past_plain.Goals as goal

pub returns-then-is_short-clause-next : goal.returns-then-is_short-clause-next
returns-then-is_short-clause-next g c =
    short_past (g.F.Frozen.records c.args.frozen.now) c.args.list c.args.doc c.requires.plain (c.is_short.ensures.even c.if-is_short.true)

pub number_past-requires : goal.number_past-requires
number_past-requires g c =
    let m = g.F.Frozen.records c.args.frozen.now in
    let odd = c.is_short.ensures.odd c.if-is_short.false in (
      omega arith,
      (
        (tree_form_is m c.args.list c.root_of.result c.requires.list c.requires.plain odd c.root_of.ensures).0,
        tree_numbers m c.args.list c.root_of.result c.requires.list c.requires.plain odd c.root_of.ensures,
      ),
    )

pub returns-clause-next : goal.returns-clause-next
returns-clause-next g c =
    let odd = c.is_short.ensures.odd c.if-is_short.false in
    c.number_past.ensures.number ∙ past_tree (g.F.Frozen.records c.args.frozen.now) c.args.list c.root_of.result c.requires.list c.requires.plain odd c.root_of.ensures c.args.doc
