use Rattle.std.proofs.Common.{◌≡◌, ◌∷◌, [], ℕ, List, true, map, sym, subst, ◌∙◌, arith}
use Rattle.store_api.specs.Parts.{Owns, Turns, entries}
use Rattle.store_api.specs.Units.{MayDo, MakesAtMost}
use Rattle.store_api.proofs.Counts.{at_most-then}
use Rattle.store_api.proofs.May.{may_do-then}
use Rattle.tree_read.specs.Trees.{tree_pairs}
use Rattle.frozen_btree.specs.Changes.{tree}
use Rattle.bit_vector.specs.Changes.{vector_part}
use Rattle.bit_vector.specs.Vectors.{IsVector}
use Rattle.bit_vector.proofs.DropLemmas.{drop_owns_blocks, drop_owns_tree, drops_vector}
use Rattle.bit_vector.proofs.dropping.drop_vector.Goals as goal

pub drop_tree-requires : goal.drop_tree-requires
drop_tree-requires g c =
    let ledger = g.S.Store.ledger in
    let records = g.S.Frozen.records in
    let same = sym c.records_of-records.ensures.same in
    let s = c.args.store.now in
    let owned = drop_owns_tree (ledger s) (ledger s) (ledger s) (records s) (records s) (records s) c.args.root c.records_of-records.result.items c.records_of-records.ensures.records c.requires.owns in (
      omega arith,
      (
        subst (λ f. (ledger f).unit ≡ true) same c.requires.unit,
        (
          (subst (λ f. IsVector (records f) c.args.root) same c.requires.vector).tree_is.node,
          subst (λ f. Owns (ledger f) (records f) (tree c.args.root ∷ [])) same owned,
        ),
      ),
    )

pub drop_nodes-requires : goal.drop_nodes-requires
drop_nodes-requires g c =
    let ledger = g.S.Store.ledger in
    let records = g.S.Frozen.records in
    let same = sym c.records_of-records.ensures.same in
    let s = c.records_of-records.new.frozen in
    let t = c.drop_tree.new.store in
    let owns = subst (λ f. Owns (ledger f) (records f) (vector_part c.args.root ∷ [])) same c.requires.owns in
    let was = subst (λ (f : g.row.S.Denot). c.records_of-records.result.items ≡ map (λ p. p.1) (tree_pairs (records f) c.args.root)) same c.records_of-records.ensures.records in
    let blocks = drop_owns_blocks (ledger s) (ledger t) (ledger t) (records s) (records t) (records t) c.args.root c.records_of-records.result.items was owns c.drop_tree.ensures.turns in record {
      unit = c.drop_tree.ensures.may.unit ∙ subst (λ f. (ledger f).unit ≡ true) same c.requires.unit;
      owns = subst (λ (rs : List ℕ). Owns (ledger t) (records t) (entries rs ∷ [])) (sym c.as_slice.ensures.value) blocks;
    }

pub returns-clause-turns : goal.returns-clause-turns
returns-clause-turns g c =
    let ledger = g.S.Store.ledger in
    let records = g.S.Frozen.records in
    let same = sym c.records_of-records.ensures.same in
    let s = c.records_of-records.new.frozen in
    let t = c.drop_tree.new.store in
    let u = c.drop_nodes.new.store in
    let owns = subst (λ f. Owns (ledger f) (records f) (vector_part c.args.root ∷ [])) same c.requires.owns in
    let was = subst (λ (f : g.row.S.Denot). c.records_of-records.result.items ≡ map (λ p. p.1) (tree_pairs (records f) c.args.root)) same c.records_of-records.ensures.records in
    subst (λ (f : g.row.S.Denot). Turns (ledger f) (ledger u) (records f) (records u) (vector_part c.args.root ∷ []) []) c.records_of-records.ensures.same
    (drops_vector (ledger s) (ledger t) (ledger u) (records s) (records t) (records u) c.args.root c.records_of-records.result.items was owns c.drop_tree.ensures.turns
    (subst (λ (rs : List ℕ). Turns (ledger t) (ledger u) (records t) (records u) (entries rs ∷ []) []) c.as_slice.ensures.value c.drop_nodes.ensures.drops.turns))

pub returns-clause-none_made : goal.returns-clause-none_made
returns-clause-none_made g c = λ k w.
    let ledger = g.S.Store.ledger in
    let u = c.drop_nodes.new.store in
    subst (λ (f : g.row.S.Denot). MakesAtMost k 0 ((ledger f).of_width w) ((ledger u).of_width w)) c.records_of-records.ensures.same
    (at_most-then k 0 0 ((ledger c.records_of-records.new.frozen).of_width w) ((ledger c.drop_tree.new.store).of_width w) ((ledger u).of_width w) (c.drop_tree.ensures.none_made k w)
    (c.drop_nodes.ensures.drops.none_made k w))

pub returns-clause-may : goal.returns-clause-may
returns-clause-may g c =
    let ledger = g.S.Store.ledger in
    subst (λ (f : g.row.S.Denot). MayDo (ledger f) (ledger c.drop_nodes.new.store)) c.records_of-records.ensures.same
    (may_do-then _ _ _ c.drop_tree.ensures.may c.drop_nodes.ensures.drops.may)
