use Rattle.std.proofs.Common.{◌≡◌, ◌+◌, ◌++◌, drop, map, string_bytes}
use Rattle.attr_rounds.specs.Lines.{lines_from}
use Rattle.image_format.specs.Images.{table_of}
use Rattle.attr_types.specs.Scores.{ask_tree}
use Rattle.attr_rounds.proofs.lines.push_lines.Given as goal

-- what is written, before the lines of what is left
abbrev pub invariant-loop-ask : goal.invariant-loop-ask
invariant-loop-ask g l =
    let table = table_of (g.F.Frozen.shape l.fn.frozen) (g.F.Frozen.records l.fn.frozen) l.fn.root in
    record {
      same : l.frozen ≡ l.fn.frozen;
      number : l.number ≡ l.ask-index + 1;
      lines : string_bytes l.text ++ lines_from l.counted l.number (map ask_tree (drop l.ask-index l.asks)) table
          ≡ string_bytes l.fn.text ++ lines_from l.counted 1 (map ask_tree l.asks) table;
    }
