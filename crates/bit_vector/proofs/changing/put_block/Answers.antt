use Rattle.std.proofs.Common.{◌≡◌, ◌∷◌, [], None, Some, true, sym, subst, arith, ◌∙◌, ◌+◌, ◌*◌}
use Rattle.std.specs.List.{AllByRecursion}
use Rattle.std.specs.Prelude.{IfOk, IfErr}
use Rattle.store_api.specs.Calls.{Refuses}
use Rattle.store_api.specs.Parts.{Owns, entry}
use Rattle.store_api.specs.Units.{MayDo}
use Rattle.tree_read.specs.Pairs.{lookup}
use Rattle.tree_read.specs.Trees.{tree_pairs}
use Rattle.frozen_btree.specs.Changes.{levels}
use Rattle.frozen_btree.specs.Makes.{CountsNodes}
use Rattle.attr_types.specs.Lawful.{IsDocNumber}
use Rattle.image_format.specs.Postings.{block_documents, IsBlock}
use Rattle.bit_vector.specs.Blocks.{beside_block, SetsBlock}
use Rattle.bit_vector.specs.Changes.{vector_part}
use Rattle.bit_vector.specs.Vectors.{IsVector}
use Rattle.bit_vector.proofs.changing.put_block.Goals as goal

pub replace_block-requires : goal.replace_block-requires
replace_block-requires g c =
    let ledger = g.S.Store.ledger in
    let records = g.S.Frozen.records in
    let same = sym c.find_block.ensures.same in
    let k = c.args.number in
    let block = c.args.block in
    let root = c.args.root in (
      omega arith,
      (
        subst (λ f. (ledger f).unit ≡ true) same c.requires.unit,
        (
          subst (λ f. IsVector (records f) root) same c.requires.vector,
          (
            subst (λ (f : g.row.S.Denot). lookup (beside_block k) (tree_pairs (records f) root) ≡ Some c.in-Some.old) same (sym c.find_block.ensures.found ∙ c.in-Some.is),
            (
              subst (λ f. IsBlock k (records f block)) same c.requires.form,
              (
                subst (λ f. AllByRecursion IsDocNumber (block_documents k (records f block))) same c.requires.numbers,
                subst (λ f. Owns (ledger f) (records f) (vector_part root ∷ entry block ∷ [])) same c.requires.owns,
              ),
            ),
          ),
        ),
      ),
    )

pub add_block-requires : goal.add_block-requires
add_block-requires g c =
    let ledger = g.S.Store.ledger in
    let records = g.S.Frozen.records in
    let same = sym c.find_block.ensures.same in
    let k = c.args.number in
    let block = c.args.block in
    let root = c.args.root in (
      omega arith,
      (
        subst (λ f. (ledger f).unit ≡ true) same c.requires.unit,
        (
          subst (λ f. IsVector (records f) root) same c.requires.vector,
          (
            subst (λ (f : g.row.S.Denot). lookup (beside_block k) (tree_pairs (records f) root) ≡ None) same (sym c.find_block.ensures.found ∙ c.in-None.is),
            (
              subst (λ f. IsBlock k (records f block)) same c.requires.form,
              (
                subst (λ f. AllByRecursion IsDocNumber (block_documents k (records f block))) same c.requires.numbers,
                subst (λ f. Owns (ledger f) (records f) (vector_part root ∷ entry block ∷ [])) same c.requires.owns,
              ),
            ),
          ),
        ),
      ),
    )

pub returns-in-Some-clause-sets : goal.returns-in-Some-clause-sets
returns-in-Some-clause-sets g c =
    let ledger = g.S.Store.ledger in
    let records = g.S.Frozen.records in
    let t = c.replace_block.new.store in
    subst (λ (f : g.row.S.Denot). IfOk c.replace_block.result (SetsBlock (ledger f) (ledger t) (records f) (records t) c.args.root (vector_part c.args.root ∷ entry c.args.block ∷ []) c.args.number
    (records f c.args.block))) c.find_block.ensures.same c.replace_block.ensures.sets

pub returns-in-Some-clause-counts : goal.returns-in-Some-clause-counts
returns-in-Some-clause-counts g c =
    subst (λ (f : g.row.S.Denot). CountsNodes (g.S.Store.ledger f) (g.S.Store.ledger c.replace_block.new.store) (2 * levels (g.S.Frozen.records f) c.args.root + 1)) c.find_block.ensures.same
    c.replace_block.ensures.counts

pub returns-in-Some-clause-refuses : goal.returns-in-Some-clause-refuses
returns-in-Some-clause-refuses g c =
    subst (λ (f : g.row.S.Denot). IfErr c.replace_block.result (Refuses (g.S.Store.ledger f) (g.S.Store.ledger c.replace_block.new.store) 34)) c.find_block.ensures.same c.replace_block.ensures.refuses

pub returns-in-Some-clause-may : goal.returns-in-Some-clause-may
returns-in-Some-clause-may g c =
    subst (λ (f : g.row.S.Denot). MayDo (g.S.Store.ledger f) (g.S.Store.ledger c.replace_block.new.store)) c.find_block.ensures.same c.replace_block.ensures.may

pub returns-in-None-clause-sets : goal.returns-in-None-clause-sets
returns-in-None-clause-sets g c =
    let ledger = g.S.Store.ledger in
    let records = g.S.Frozen.records in
    let t = c.add_block.new.store in
    subst (λ (f : g.row.S.Denot). IfOk c.add_block.result (SetsBlock (ledger f) (ledger t) (records f) (records t) c.args.root (vector_part c.args.root ∷ entry c.args.block ∷ []) c.args.number
    (records f c.args.block))) c.find_block.ensures.same c.add_block.ensures.sets

pub returns-in-None-clause-counts : goal.returns-in-None-clause-counts
returns-in-None-clause-counts g c =
    subst (λ (f : g.row.S.Denot). CountsNodes (g.S.Store.ledger f) (g.S.Store.ledger c.add_block.new.store) (2 * levels (g.S.Frozen.records f) c.args.root + 1)) c.find_block.ensures.same
    c.add_block.ensures.counts

pub returns-in-None-clause-refuses : goal.returns-in-None-clause-refuses
returns-in-None-clause-refuses g c =
    subst (λ (f : g.row.S.Denot). IfErr c.add_block.result (Refuses (g.S.Store.ledger f) (g.S.Store.ledger c.add_block.new.store) 34)) c.find_block.ensures.same c.add_block.ensures.refuses

pub returns-in-None-clause-may : goal.returns-in-None-clause-may
returns-in-None-clause-may g c =
    subst (λ (f : g.row.S.Denot). MayDo (g.S.Store.ledger f) (g.S.Store.ledger c.add_block.new.store)) c.find_block.ensures.same c.add_block.ensures.may
