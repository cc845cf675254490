use Rattle.std.proofs.Common.{ℕ, ◌/◌, ◌<◌, List, get_or, sym, ap, subst, ◌∙◌, arith}
use Rattle.std.proofs.lemmas.Result.{err_from_is_err_and}
use Rattle.entry_ref.specs.Maps.{seen}
use Rattle.check_images.proofs.KeyLemmas.{ascends-none}
use Rattle.check_images.proofs.RootLemmas.{empty_tree, root-low, found-pairs, found-tree, found-whole}
use Rattle.check_images.proofs.Walks.{refuted_by}
use Rattle.check_images.specs.Keys.{PairsAscend}
use Rattle.check_images.proofs.tree.check_tree.Goals as goal

pub returns-then-root-eq0-clause-tree : goal.returns-then-root-eq0-clause-tree
returns-then-root-eq0-clause-tree c = empty_tree c.args.keys (seen c.args.records.now) c.args.root c.if-root-eq0.true

pub walk-requires : goal.walk-requires
walk-requires c = subst (PairsAscend c.args.keys (seen c.args.records.now)) (sym c.new-pairs.ensures.items) (ascends-none c.args.keys (seen c.args.records.now))

pub returns-then-level-gt7-clause-exact : goal.returns-then-level-gt7-clause-exact
returns-then-level-gt7-clause-exact c = λ tree.
    let m = seen c.args.records.now in
    let some : 0 < c.args.root = (let other = c.if-root-eq0.false in omega arith) in
    let low = root-low c.args.keys m c.args.root some tree in
    let of = c.word_in-level.ensures ∙ ap (λ (ws : List ℕ). get_or ws 0 0) c.words_at.ensures.words in
    absurd (omega arith)

pub returns-in_err-walk-clause-exact : goal.returns-in_err-walk-clause-exact
returns-in_err-walk-clause-exact c =
    let m = seen c.args.records.now in
    let some : 0 < c.args.root = (let other = c.if-root-eq0.false in omega arith) in
    let level = c.word_in-level.result / 256 in
    let of = ap (λ (n : ℕ). n / 256) (c.word_in-level.ensures ∙ ap (λ (ws : List ℕ). get_or ws 0 0) c.words_at.ensures.words) in
    let p = err_from_is_err_and c.from_residual.result c.from_residual.ensures.1 in
    rw (p.1, p.2)
    (refuted_by c.in_err-walk.field-0.0
    (found-whole c.args.keys m c.args.root level some of c.if-level-gt7.false c.least_of.result c.new-pairs.result.items c.new-pairs.ensures.items c.least_of.ensures)
    c.in_err-walk.ensures.exact)

pub returns-clause-tree : goal.returns-clause-tree
returns-clause-tree c =
    let m = seen c.args.records.now in
    let some : 0 < c.args.root = (let other = c.if-root-eq0.false in omega arith) in
    let level = c.word_in-level.result / 256 in
    let of = ap (λ (n : ℕ). n / 256) (c.word_in-level.ensures ∙ ap (λ (ws : List ℕ). get_or ws 0 0) c.words_at.ensures.words) in
    found-tree c.args.keys m c.args.root level some of c.if-level-gt7.false c.least_of.result c.new-pairs.result.items c.new-pairs.ensures.items c.least_of.ensures c.walk.new.pairs.items c.in_ok-walk.ensures.node
    c.in_ok-walk.ensures.pairs c.in_ok-walk.ensures.ascends

pub returns-clause-pairs : goal.returns-clause-pairs
returns-clause-pairs c =
    let m = seen c.args.records.now in
    let some : 0 < c.args.root = (let other = c.if-root-eq0.false in omega arith) in
    let level = c.word_in-level.result / 256 in
    let of = ap (λ (n : ℕ). n / 256) (c.word_in-level.ensures ∙ ap (λ (ws : List ℕ). get_or ws 0 0) c.words_at.ensures.words) in
    found-pairs c.args.keys m c.args.root level some of c.if-level-gt7.false c.least_of.result c.new-pairs.result.items c.new-pairs.ensures.items c.least_of.ensures c.walk.new.pairs.items c.in_ok-walk.ensures.pairs
