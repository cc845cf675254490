use Rattle.std.proofs.Common.{◌≡◌, map, drop}
use Rattle.image_format.specs.Words.{unpacked}
use Rattle.query_eval.specs.Weights.{weight_in_list}
use Rattle.query_eval.proofs.weights.weight_among.Given as goal

abbrev pub invariant-loop-word : goal.invariant-loop-word
invariant-loop-word l = weight_in_list l.doc (map unpacked (drop l.word-index l.words)) ≡ weight_in_list l.doc (map unpacked l.words)
