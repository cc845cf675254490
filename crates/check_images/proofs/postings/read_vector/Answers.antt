use Rattle.std.proofs.Common.{ℕ, ◌<◌, length, map, sym, ap, subst, ◌∙◌, arith}
use Rattle.std.proofs.lemmas.Result.{err_from_is_err_and}
use Rattle.std.specs.List.{flat_map, AllByRecursion}
use Rattle.image_format.specs.Postings.{block_documents, vector_documents, IsBlock}
use Rattle.image_format.specs.declared.TheConstants.{MOST_SHORT}
use Rattle.entry_ref.specs.Maps.{seen}
use Rattle.check_images.proofs.BlockLemmas.{weighed, many_documents}
use Rattle.check_images.proofs.Walks.{refuted_by}
use Rattle.check_images.proofs.postings.read_vector.Goals as goal

pub returns-in_err-pairs-clause-exact : goal.returns-in_err-pairs-clause-exact
returns-in_err-pairs-clause-exact c =
    let p = err_from_is_err_and c.from_residual.result c.from_residual.ensures.1 in
    rw (p.1, p.2) (refuted_by c.in_err-pairs.field-0.0 (λ list. list.0) c.in_err-pairs.ensures.exact)

pub returns-in_err-list-clause-exact : goal.returns-in_err-list-clause-exact
returns-in_err-list-clause-exact c =
    let m = seen c.args.records.now in
    let pairs = c.as_slice.ensures.value ∙ c.in_ok-pairs.ensures.pairs in
    let p = err_from_is_err_and c.from_residual-in_err-list.result c.from_residual-in_err-list.ensures.1 in
    rw (p.1, p.2)
    (refuted_by c.in_err-list.field-0.0 (λ list. subst (AllByRecursion (λ (q : ℕ × ℕ). IsBlock q.0 (m q.1))) (sym pairs) list.2) c.in_err-list.ensures.exact)

pub returns-then-len-le-MOST_SHORT-clause-exact : goal.returns-then-len-le-MOST_SHORT-clause-exact
returns-then-len-le-MOST_SHORT-clause-exact c = λ list.
    let m = seen c.args.records.now in
    let pairs = c.as_slice.ensures.value ∙ c.in_ok-pairs.ensures.pairs in
    let size = many_documents m c.args.root c.as_slice.result.now _ pairs c.in_ok-list.ensures.list in
    let len = c.len.ensures ∙ c.in_ok-list.list.ok.0 in
    let few = c.if-len-le-MOST_SHORT.true in
    let more = list.1 in
    omega (arith, size, len, few, more)

pub returns-clause-form : goal.returns-clause-form
returns-clause-form c =
    let m = seen c.args.records.now in
    let pairs = c.as_slice.ensures.value ∙ c.in_ok-pairs.ensures.pairs in
    let size = many_documents m c.args.root c.as_slice.result.now _ pairs c.in_ok-list.ensures.list in
    let len = c.len.ensures ∙ c.in_ok-list.list.ok.0 in
    let more = c.if-len-le-MOST_SHORT.false in
    let many : MOST_SHORT < length (vector_documents m c.args.root) = omega (arith, size, len, more) in
    (c.in_ok-pairs.ensures.tree, many, subst (AllByRecursion (λ (q : ℕ × ℕ). IsBlock q.0 (m q.1))) pairs c.in_ok-list.ensures.form)

pub returns-clause-list : goal.returns-clause-list
returns-clause-list c =
    let m = seen c.args.records.now in
    let pairs = c.as_slice.ensures.value ∙ c.in_ok-pairs.ensures.pairs in
    c.in_ok-list.ensures.list ∙ ap (λ ps. map weighed (flat_map (λ (p : ℕ × ℕ). block_documents p.0 (m p.1)) ps)) pairs
