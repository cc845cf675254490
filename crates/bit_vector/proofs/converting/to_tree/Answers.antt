use Rattle.std.proofs.Common.{◌≡◌, ℕ, List, true, length, map, sym, ap, subst, ◌∙◌, arith}
use Rattle.std.specs.Prelude.{IfOk, IfErr}
use Rattle.std.specs.List.{zip}
use Rattle.std.specs.List.Sorted.{IsStrictlySortedBy}
use Rattle.std.specs.Ordering.{nat_cmp}
use Rattle.list_lemmas.proofs.Each.{AllByRecursion-each}
use Rattle.store_api.specs.Calls.{Refuses}
use Rattle.store_api.specs.Units.{MayDo}
use Rattle.store_api.proofs.May.{may_do-same}
use Rattle.tree_read.specs.Trees.{tree_pairs}
use Rattle.frozen_btree.specs.Builds.{nodes_of}
use Rattle.frozen_btree.specs.Makes.{CountsNodes}
use Rattle.image_format.specs.Postings.{vector_documents}
use Rattle.bit_vector.specs.Changes.{MakesTree}
use Rattle.bit_vector.proofs.CountLemmas.{counts_none}
use Rattle.bit_vector.proofs.DocumentLemmas.{sorted}
use Rattle.bit_vector.proofs.DropLemmas.{makes_tree_if, ones_ascend, ones_even, ones_pairs}
use Rattle.bit_vector.proofs.VectorLemmas.{vector_ascends}
use Rattle.bit_vector.proofs.converting.to_tree.Goals as goal

pub build-requires : goal.build-requires
build-requires g c =
    let m = g.S.Frozen.records c.args.store.now in
    let docs = c.in-Ok.docs.items in
    let ones = c.in-Ok-ones.values.items in
    let xs = c.as_slice.result.now in
    let ys = c.as_slice-2.result.now in
    let size : c.len.result ≡ length docs = c.len.ensures ∙ c.in-Ok.docs.ok.0 in
    let up = subst (IsStrictlySortedBy nat_cmp) (sym c.in-Ok.ensures.documents) (sorted (vector_documents m c.args.root) (vector_ascends m c.args.root c.requires.vector)) in (
      omega arith,
      (
        subst (λ f. (g.S.Store.ledger f).unit ≡ true) (sym c.documents_of.ensures.same) c.requires.unit,
        (
          ones_even docs ones xs ys c.len.result c.as_slice.ensures.value c.as_slice-2.ensures.value c.in-Ok-ones.ensures size,
          (
            ones_ascend docs ones xs ys c.len.result c.as_slice.ensures.value c.as_slice-2.ensures.value c.in-Ok-ones.ensures size up,
            (AllByRecursion-each (λ (p : ℕ × ℕ). Unit {0}) (λ p. tt) (zip xs ys), AllByRecursion-each (λ (p : ℕ × ℕ). Unit {0}) (λ p. tt) (zip xs ys)),
          ),
        ),
      ),
    )

pub returns-clause-makes : goal.returns-clause-makes
returns-clause-makes g c =
    let ledger = g.S.Store.ledger in
    let records = g.S.Frozen.records in
    let s = c.args.store.now in
    let t = c.documents_of.new.frozen in
    let u = c.build.new.store in
    let root = c.args.root in
    let docs = c.in-Ok.docs.items in
    let size : c.len.result ≡ length docs = c.len.ensures ∙ c.in-Ok.docs.ok.0 in
    let pairs = ones_pairs docs c.in-Ok-ones.values.items c.as_slice.result.now c.as_slice-2.result.now c.len.result c.as_slice.ensures.value c.as_slice-2.ensures.value c.in-Ok-ones.ensures size
    ∙ ap (map (λ (doc : ℕ). (doc, 1))) c.in-Ok.ensures.documents in
    let ps = map (λ (doc : ℕ). (doc, 1)) (vector_documents (records s) root) in
    subst (λ (f : g.row.S.Denot). IfOk c.build.result (MakesTree (ledger f) (ledger u) (records f) (records u) ps)) c.documents_of.ensures.same
    (makes_tree_if (ledger t) (ledger u) (records t) (records u) ps c.build.result c.build.ensures.keyed
    (subst (λ (qs : List (ℕ × ℕ)). IfOk c.build.result (λ r. tree_pairs (records u) r ≡ qs)) pairs c.build.ensures.pairs) c.build.ensures.owns c.build.ensures.turns)

pub returns-clause-counts : goal.returns-clause-counts
returns-clause-counts g c =
    let ledger = g.S.Store.ledger in
    let u = c.build.new.store in
    let n = nodes_of (length (vector_documents (g.S.Frozen.records c.args.store.now) c.args.root)) in
    subst (λ (f : g.row.S.Denot). CountsNodes (ledger f) (ledger u) n) c.documents_of.ensures.same
    (subst (λ (xs : List ℕ). CountsNodes (ledger c.documents_of.new.frozen) (ledger u) (nodes_of (length xs))) (c.as_slice.ensures.value ∙ c.in-Ok.ensures.documents) c.build.ensures.counts)

pub returns-clause-refuses : goal.returns-clause-refuses
returns-clause-refuses g c =
    let ledger = g.S.Store.ledger in
    subst (λ (f : g.row.S.Denot). IfErr c.build.result (Refuses (ledger f) (ledger c.build.new.store) 34)) c.documents_of.ensures.same c.build.ensures.refuses

pub returns-clause-may : goal.returns-clause-may
returns-clause-may g c =
    let ledger = g.S.Store.ledger in
    subst (λ (f : g.row.S.Denot). MayDo (ledger f) (ledger c.build.new.store)) c.documents_of.ensures.same c.build.ensures.may

pub returns-in_default-clause-counts : goal.returns-in_default-clause-counts
returns-in_default-clause-counts g c =
    let ledger = g.S.Store.ledger in
    let s = c.args.store.now in
    let n = nodes_of (length (vector_documents (g.S.Frozen.records s) c.args.root)) in
    subst (λ (f : g.row.S.Denot). CountsNodes (ledger s) (ledger f) n) (sym c.documents_of.ensures.same) (counts_none (ledger s) n)

pub returns-in_default-clause-may : goal.returns-in_default-clause-may
returns-in_default-clause-may g c =
    let ledger = g.S.Store.ledger in
    let s = c.args.store.now in
    subst (λ (f : g.row.S.Denot). MayDo (ledger s) (ledger f)) (sym c.documents_of.ensures.same) (may_do-same (ledger s))

pub returns-in_default-ones-clause-counts : goal.returns-in_default-ones-clause-counts
returns-in_default-ones-clause-counts g c =
    let ledger = g.S.Store.ledger in
    let s = c.args.store.now in
    let n = nodes_of (length (vector_documents (g.S.Frozen.records s) c.args.root)) in
    subst (λ (f : g.row.S.Denot). CountsNodes (ledger s) (ledger f) n) (sym c.documents_of.ensures.same) (counts_none (ledger s) n)

pub returns-in_default-ones-clause-may : goal.returns-in_default-ones-clause-may
returns-in_default-ones-clause-may g c =
    let ledger = g.S.Store.ledger in
    let s = c.args.store.now in
    subst (λ (f : g.row.S.Denot). MayDo (ledger s) (ledger f)) (sym c.documents_of.ensures.same) (may_do-same (ledger s))
