use Rattle.std.proofs.Common.{◌≡◌, ◌∷◌, [], Some, true, sym, subst, arith, refl, inr, ◌∙◌, ◌+◌, ◌*◌}
use Rattle.std.specs.Prelude.{IfOk, IfErr}
use Rattle.store_api.specs.Calls.{RefusesOf}
use Rattle.store_api.specs.Parts.{Owns}
use Rattle.store_api.specs.Units.{MayDo, MakesWithin}
use Rattle.store_api.proofs.May.{may_do-same}
use Rattle.tree_read.specs.Pairs.{lookup}
use Rattle.tree_read.specs.Trees.{tree_pairs}
use Rattle.frozen_btree.specs.Changes.{levels}
use Rattle.bit_vector.specs.Blocks.{beside_block, SetsBlock}
use Rattle.bit_vector.specs.Changes.{vector_most, vector_part, IsVectorWidth}
use Rattle.bit_vector.specs.Vectors.{IsVector}
use Rattle.bit_vector.proofs.CountLemmas.{if_one, within_nodes, within_none, within_wider}
use Rattle.bit_vector.proofs.SetLemmas.{lacks}
use Rattle.bit_vector.proofs.TurnLemmas.{sets_none}
use Rattle.bit_vector.proofs.changing.clear_block.Goals as goal

pub take_block-requires : goal.take_block-requires
take_block-requires g c =
    let ledger = g.S.Store.ledger in
    let records = g.S.Frozen.records in
    let same = sym c.find_block.ensures.same in
    let k = c.args.number in
    let root = c.args.root in (
      omega arith,
      (
        subst (λ f. (ledger f).unit ≡ true) same c.requires.unit,
        (
          subst (λ f. IsVector (records f) root) same c.requires.vector,
          (
            subst (λ (f : g.row.S.Denot). lookup (beside_block k) (tree_pairs (records f) root) ≡ Some c.in-Some.old) same (sym c.find_block.ensures.found ∙ c.in-Some.is),
            subst (λ f. Owns (ledger f) (records f) (vector_part root ∷ [])) same c.requires.owns,
          ),
        ),
      ),
    )

pub returns-in-Some-clause-sets : goal.returns-in-Some-clause-sets
returns-in-Some-clause-sets g c =
    let ledger = g.S.Store.ledger in
    let records = g.S.Frozen.records in
    let t = c.take_block.new.store in
    subst (λ (f : g.row.S.Denot). IfOk c.take_block.result (SetsBlock (ledger f) (ledger t) (records f) (records t) c.args.root (vector_part c.args.root ∷ []) c.args.number []))
    c.find_block.ensures.same c.take_block.ensures.sets

pub returns-in-Some-clause-counts : goal.returns-in-Some-clause-counts
returns-in-Some-clause-counts g c =
    let ledger = g.S.Store.ledger in
    let s = c.find_block.new.frozen in
    let t = c.take_block.new.store in
    let nodes = 2 * levels (g.S.Frozen.records s) c.args.root + 1 in
    subst (λ (f : g.row.S.Denot). MakesWithin (ledger f) (ledger t) (vector_most 1 (2 * levels (g.S.Frozen.records f) c.args.root + 1))) c.find_block.ensures.same
    (within_wider (ledger s) (ledger t) 0 1 nodes nodes (omega arith) (omega arith) (within_nodes (ledger s) (ledger t) nodes c.take_block.ensures.counts))

pub returns-in-Some-clause-refuses : goal.returns-in-Some-clause-refuses
returns-in-Some-clause-refuses g c =
    let ledger = g.S.Store.ledger in
    let s = c.find_block.new.frozen in
    let t = c.take_block.new.store in
    subst (λ (f : g.row.S.Denot). IfErr c.take_block.result (RefusesOf IsVectorWidth (ledger f) (ledger t))) c.find_block.ensures.same
    (if_one IsVectorWidth (ledger s) (ledger s) (ledger t) 34 c.take_block.result (may_do-same (ledger s)) refl (inr refl) c.take_block.ensures.refuses)

pub returns-in-Some-clause-may : goal.returns-in-Some-clause-may
returns-in-Some-clause-may g c =
    subst (λ (f : g.row.S.Denot). MayDo (g.S.Store.ledger f) (g.S.Store.ledger c.take_block.new.store)) c.find_block.ensures.same c.take_block.ensures.may

pub returns-in-None-clause-sets : goal.returns-in-None-clause-sets
returns-in-None-clause-sets g c =
    let ledger = g.S.Store.ledger in
    let records = g.S.Frozen.records in
    let s = c.args.store.now in
    let root = c.args.root in
    let k = c.args.number in
    let none = sym c.find_block.ensures.found ∙ c.in-None.is in
    subst (λ (f : g.row.S.Denot). SetsBlock (ledger s) (ledger f) (records s) (records f) root (vector_part root ∷ []) k [] root) (sym c.find_block.ensures.same)
    (sets_none (ledger s) (records s) root k c.requires.vector c.requires.owns (lacks (records s) root k c.requires.vector none))

pub returns-in-None-clause-counts : goal.returns-in-None-clause-counts
returns-in-None-clause-counts g c =
    let ledger = g.S.Store.ledger in
    let s = c.args.store.now in
    let most = vector_most 1 (2 * levels (g.S.Frozen.records s) c.args.root + 1) in
    subst (λ (f : g.row.S.Denot). MakesWithin (ledger s) (ledger f) most) (sym c.find_block.ensures.same) (within_none (ledger s) most)

pub returns-in-None-clause-may : goal.returns-in-None-clause-may
returns-in-None-clause-may g c =
    let ledger = g.S.Store.ledger in
    let s = c.args.store.now in
    subst (λ (f : g.row.S.Denot). MayDo (ledger s) (ledger f)) (sym c.find_block.ensures.same) (may_do-same (ledger s))
