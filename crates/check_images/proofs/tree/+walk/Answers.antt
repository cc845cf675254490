use Rattle.std.proofs.Common.{◌≡◌, ℕ, ◌+◌, ◌%◌, ◌<◌, List, ◌++◌, length, get_or, slice_index_or, sym, ap, subst, ◌∙◌, arith}
use Rattle.std.proofs.lemmas.Result.{err_from_is_err_and}
use Rattle.std.specs.List.{zip}
use Rattle.entry_ref.specs.Maps.{seen}
use Rattle.tree_read.proofs.TreeLemmas.{IsNode-form}
use Rattle.tree_read.specs.Nodes.{used_of, node_keys, node_values}
use Rattle.tree_read.specs.Trees.{last_key}
use Rattle.check_images.proofs.NodeSteps.{count-is, leaf-is, leaf-stands, leaf-ascends, step, next-child, next-key, whole-pairs, whole-node, difference}
use Rattle.check_images.proofs.Walks.{refuted_by}
use Rattle.check_images.specs.Keys.{PairsAscend}
use Rattle.check_images.specs.Refutations.{Refutes}
use Rattle.check_images.proofs.tree.+walk.Goals as goal

pub returns-in_err-words-clause-exact : goal.returns-in_err-words-clause-exact
returns-in_err-words-clause-exact t c =
    let m = seen c.args.records.now in
    let p = err_from_is_err_and c.from_residual.result c.from_residual.ensures.1 in
    rw (p.1, p.2) (refuted_by c.in_err-words.field-0.0 (λ whole. IsNode-form m c.args.least c.args.level c.args.reference whole.0) c.in_err-words.ensures.exact)

pub returns-in_err-add_leaf-clause-exact : goal.returns-in_err-add_leaf-clause-exact
returns-in_err-add_leaf-clause-exact t c =
    let m = seen c.args.records.now in
    let ref = c.args.reference in
    let before = c.args.pairs.now.items in
    let words = c.in_ok-words.ensures.words in
    let p = err_from_is_err_and c.from_residual-in_err-add_leaf.result c.from_residual-in_err-add_leaf.ensures.1 in
    let fault = c.in_err-add_leaf.field-0.0 in
    let here = subst (λ (ws : List ℕ). Refutes (PairsAscend c.args.keys m (before ++ zip (node_keys ws) (node_values ws))) fault) words c.in_err-add_leaf.ensures.exact in
    rw (p.1, p.2) (refuted_by fault (λ whole. leaf-ascends c.args.keys m before c.args.level ref c.if-level-eq0.true whole.1) here)

pub returns-then-words-len-clause-exact : goal.returns-then-words-len-clause-exact
returns-then-words-len-clause-exact t c = λ whole.
    let m = seen c.args.records.now in
    let ref = c.args.reference in
    let before = c.args.pairs.now.items in
    let words = c.in_ok-words.ensures.words in
    let count = ap (λ (ws : List ℕ). get_or ws 1 0) words in
    let is = subst (λ (ws : List ℕ). c.add_leaf.new.pairs.items ≡ before ++ zip (node_keys ws) (node_values ws)) words c.in_ok-add_leaf.ensures.pairs in
    let sizes = difference c.len.result c.len-begin.result (length c.add_leaf.new.pairs.items) (length before) (c.len.ensures ∙ c.add_leaf.new.pairs.ok.0) (c.len-begin.ensures ∙ c.args.pairs.now.ok.0) in
    c.if-words-len.true (count-is m before c.add_leaf.new.pairs.items c.args.least c.args.level ref (get_or c.in_ok-words.words.now 1 0) count
    (leaf-is m before c.add_leaf.new.pairs.items c.args.least c.args.level ref c.if-level-eq0.true is) whole.0 ∙ sym sizes)

pub returns-then-level-eq0-clause-node : goal.returns-then-level-eq0-clause-node
returns-then-level-eq0-clause-node t c =
    let m = seen c.args.records.now in
    let ref = c.args.reference in
    let before = c.args.pairs.now.items in
    let words = c.in_ok-words.ensures.words in
    let count = ap (λ (ws : List ℕ). get_or ws 1 0) words in
    let is = subst (λ (ws : List ℕ). c.add_leaf.new.pairs.items ≡ before ++ zip (node_keys ws) (node_values ws)) words c.in_ok-add_leaf.ensures.pairs in
    let sizes = difference c.len.result c.len-begin.result (length c.add_leaf.new.pairs.items) (length before) (c.len.ensures ∙ c.add_leaf.new.pairs.ok.0) (c.len-begin.ensures ∙ c.args.pairs.now.ok.0) in
    leaf-stands m before c.add_leaf.new.pairs.items c.args.least c.args.level ref c.if-level-eq0.true c.in_ok-words.ensures.form (get_or c.in_ok-words.words.now 1 0) count is (c.if-words-len.false ∙ sizes)

pub returns-then-level-eq0-clause-pairs : goal.returns-then-level-eq0-clause-pairs
returns-then-level-eq0-clause-pairs t c =
    let m = seen c.args.records.now in
    let before = c.args.pairs.now.items in
    let is = subst (λ (ws : List ℕ). c.add_leaf.new.pairs.items ≡ before ++ zip (node_keys ws) (node_values ws)) c.in_ok-words.ensures.words c.in_ok-add_leaf.ensures.pairs in
    leaf-is m before c.add_leaf.new.pairs.items c.args.least c.args.level c.args.reference c.if-level-eq0.true is

pub returns-in_err-walk-clause-exact : goal.returns-in_err-walk-clause-exact
returns-in_err-walk-clause-exact t c =
    let m = seen c.args.records.now in
    let words = c.in_ok-words.ensures.words in
    let it = c.loop-i.invariant in
    let low : c.loop-i.i < used_of (m c.args.reference) = subst (λ n. c.loop-i.i < n) it.used c.loop-i-test.true in
    let child = ap (λ (ws : List ℕ). get_or ws (18 + c.loop-i.i) 0) words in
    let p = err_from_is_err_and c.from_residual-in_err-walk.result c.from_residual-in_err-walk.ensures.1 in
    rw (p.1, p.2)
    (refuted_by c.in_err-walk.field-0.0
    (next-child c.args.keys m c.args.least c.args.level c.args.reference it.form it.above c.args.pairs.now.items c.loop-i.pairs.items c.loop-i.i it.walked low (get_or c.in_ok-words.words.now (18 + c.loop-i.i) 0) child)
    c.in_err-walk.ensures.exact)

pub returns-then-words-i-clause-exact : goal.returns-then-words-i-clause-exact
returns-then-words-i-clause-exact t c = λ whole.
    let m = seen c.args.records.now in
    let words = c.in_ok-words.ensures.words in
    let it = c.loop-i.invariant in
    let low : c.loop-i.i < used_of (m c.args.reference) = subst (λ n. c.loop-i.i < n) it.used c.loop-i-test.true in
    let child = ap (λ (ws : List ℕ). get_or ws (18 + c.loop-i.i) 0) words in
    let key = ap (λ (ws : List ℕ). get_or ws (2 + c.loop-i.i) 0) words in
    let last = c.last_of.ensures.last ∙ ap last_key c.deref.ensures.value in
    c.if-words-i.true
    (next-key c.args.keys m c.args.least c.args.level c.args.reference it.form it.above c.args.pairs.now.items c.loop-i.pairs.items c.loop-i.i it.walked low (get_or c.in_ok-words.words.now (18 + c.loop-i.i) 0)
    (get_or c.in_ok-words.words.now (2 + c.loop-i.i) 0) child key c.walk.new.pairs.items c.in_ok-walk.ensures.node c.in_ok-walk.ensures.pairs whole.0
    ∙ sym last)

pub loop-i-preserved : goal.loop-i-preserved
loop-i-preserved t c =
    let m = seen c.args.records.now in
    let ref = c.args.reference in
    let before = c.args.pairs.now.items in
    let words = c.in_ok-words.ensures.words in
    let it = c.loop-i.invariant in
    let low : c.loop-i.i < used_of (m ref) = subst (λ n. c.loop-i.i < n) it.used c.loop-i-test.true in
    let child = ap (λ (ws : List ℕ). get_or ws (18 + c.loop-i.i) 0) words in
    let key = ap (λ (ws : List ℕ). get_or ws (2 + c.loop-i.i) 0) words in
    let last = c.last_of.ensures.last ∙ ap last_key c.deref.ensures.value in
    record {
      words = it.words;
      size = it.size;
      room = it.room;
      form = it.form;
      above = it.above;
      used = it.used;
      begin = it.begin;
      walked = step c.args.keys m c.args.least c.args.level ref it.form it.above before c.loop-i.pairs.items c.loop-i.i it.walked low (get_or c.in_ok-words.words.now (18 + c.loop-i.i) 0)
          (get_or c.in_ok-words.words.now (2 + c.loop-i.i) 0) child key c.walk.new.pairs.items c.in_ok-walk.ensures.node c.in_ok-walk.ensures.pairs c.in_ok-walk.ensures.ascends (c.if-words-i.false ∙ last);
    }

pub returns-then-words-len-2-clause-exact : goal.returns-then-words-len-2-clause-exact
returns-then-words-len-2-clause-exact t c = λ whole.
    let m = seen c.args.records.now in
    let ref = c.args.reference in
    let before = c.args.pairs.now.items in
    let it = c.loop-i.invariant in
    let all : c.loop-i.i ≡ used_of (m ref) = (let here : c.loop-i.i ≡ slice_index_or c.in_ok-words.words.now 0 0 % 256 = omega arith in here ∙ it.used) in
    let count = ap (λ (ws : List ℕ). get_or ws 1 0) c.in_ok-words.ensures.words in
    let sizes = difference c.len-2.result c.len-begin.result (length c.loop-i.pairs.items) (length before) (c.len-2.ensures ∙ c.loop-i.pairs.ok.0) (c.len-begin.ensures ∙ c.args.pairs.now.ok.0) in
    c.if-words-len-2.true
    (count-is m before c.loop-i.pairs.items c.args.least c.args.level ref (get_or c.in_ok-words.words.now 1 0) count
    (whole-pairs c.args.keys m c.args.least c.args.level ref it.form it.above before c.loop-i.pairs.items c.loop-i.i it.walked all) whole.0
    ∙ sym sizes)

pub returns-clause-node : goal.returns-clause-node
returns-clause-node t c =
    let m = seen c.args.records.now in
    let ref = c.args.reference in
    let before = c.args.pairs.now.items in
    let it = c.loop-i.invariant in
    let all : c.loop-i.i ≡ used_of (m ref) = (let here : c.loop-i.i ≡ slice_index_or c.in_ok-words.words.now 0 0 % 256 = omega arith in here ∙ it.used) in
    let count = ap (λ (ws : List ℕ). get_or ws 1 0) c.in_ok-words.ensures.words in
    let sizes = difference c.len-2.result c.len-begin.result (length c.loop-i.pairs.items) (length before) (c.len-2.ensures ∙ c.loop-i.pairs.ok.0) (c.len-begin.ensures ∙ c.args.pairs.now.ok.0) in
    whole-node c.args.keys m c.args.least c.args.level ref it.form it.above before c.loop-i.pairs.items c.loop-i.i it.walked all (get_or c.in_ok-words.words.now 1 0) count (c.if-words-len-2.false ∙ sizes)

pub returns-clause-pairs : goal.returns-clause-pairs
returns-clause-pairs t c =
    let m = seen c.args.records.now in
    let ref = c.args.reference in
    let it = c.loop-i.invariant in
    let all : c.loop-i.i ≡ used_of (m ref) = (let here : c.loop-i.i ≡ slice_index_or c.in_ok-words.words.now 0 0 % 256 = omega arith in here ∙ it.used) in
    whole-pairs c.args.keys m c.args.least c.args.level ref it.form it.above c.args.pairs.now.items c.loop-i.pairs.items c.loop-i.i it.walked all
