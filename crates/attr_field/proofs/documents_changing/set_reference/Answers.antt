use Rattle.std.proofs.Common.{◌+◌, ◌*◌, rules, ◌≡◌, ◌∷◌, [], true, sym, subst, ap, ◌∙◌, arith}
use Rattle.std.specs.Prelude.{unwrap_or}
use Rattle.tree_read.specs.Trees.{tree_pairs}
use Rattle.tree_read.specs.Pairs.{lookup as found}
use Rattle.tree_read.specs.Pairs.{put, take_out}
use Rattle.store_api.specs.Parts.{Owns}
use Rattle.store_api.specs.Units.{MayDo}
use Rattle.doc_vector.specs.Documents.{beside_document, IsDocumentMap}
use Rattle.attr_field.specs.DocumentsChanges.{ChangesPair}
use Rattle.attr_field.specs.Documents.{documents_part}
use Rattle.frozen_btree.specs.Changes.{levels}
use Rattle.frozen_btree.specs.Makes.{CountsNodes}
use Rattle.attr_field.proofs.DocumentsCountLemmas.{nodes-then}
use Rattle.attr_field.proofs.DocumentsChangeLemmas.{owns_tree, owns_old, changes_pair}
use Rattle.store_api.proofs.May.{may_do-then}
use Rattle.attr_field.proofs.documents_changing.set_reference.Goals as goal

pub set-requires : goal.set-requires
set-requires g c =
    let ledger = g.S.Store.ledger in
    let records = g.S.Frozen.records in
    let same = sym c.reference_of-old.ensures.same in
    let t = c.reference_of-old.new.frozen in
    let owns = subst (λ f. Owns (ledger f) (records f) (documents_part c.args.kind c.args.root ∷ [])) same c.requires.owns in
    let was = c.reference_of-old.ensures.reference ∙ ap (λ (f : g.row.S.Denot). unwrap_or (found (beside_document c.args.doc) (tree_pairs (records f) c.args.root)) 0) same in (
      omega arith,
      (
        subst (λ f. (ledger f).unit ≡ true) same c.requires.unit,
        (
          subst (λ f. IsDocumentMap (records f) c.args.root) same c.requires.map,
          owns_tree c.args.kind (ledger t) (ledger t) (ledger t) (records t) (records t) (records t) c.args.root c.args.doc c.reference_of-old.result 0 owns was,
        ),
      ),
    )

pub drop_items-requires : goal.drop_items-requires
drop_items-requires g c =
    let ledger = g.S.Store.ledger in
    let records = g.S.Frozen.records in
    let same = sym c.reference_of-old.ensures.same in
    let s = c.reference_of-old.new.frozen in
    let t = c.set.new.store in
    let owns = subst (λ f. Owns (ledger f) (records f) (documents_part c.args.kind c.args.root ∷ [])) same c.requires.owns in
    let was = c.reference_of-old.ensures.reference ∙ ap (λ (f : g.row.S.Denot). unwrap_or (found (beside_document c.args.doc) (tree_pairs (records f) c.args.root)) 0) same in (
      omega arith,
      (
        search rules,
        owns_old c.args.kind (ledger s) (ledger t) (ledger t) (records s) (records t) (records t) c.args.root c.args.doc c.reference_of-old.result c.in_ok-next.next owns was
            (put (beside_document c.args.doc) (c.args.doc, c.args.reference) (tree_pairs (records s) c.args.root)) c.in_ok-next.ensures.makes,
      ),
    )

pub returns-clause-changes : goal.returns-clause-changes
returns-clause-changes g c =
    let ledger = g.S.Store.ledger in
    let records = g.S.Frozen.records in
    let same = sym c.reference_of-old.ensures.same in
    let s = c.reference_of-old.new.frozen in
    let t = c.set.new.store in
    let u = c.drop_items.new.store in
    let owns = subst (λ f. Owns (ledger f) (records f) (documents_part c.args.kind c.args.root ∷ [])) same c.requires.owns in
    let was = c.reference_of-old.ensures.reference ∙ ap (λ (f : g.row.S.Denot). unwrap_or (found (beside_document c.args.doc) (tree_pairs (records f) c.args.root)) 0) same in
    subst (λ (f : g.row.S.Denot). ChangesPair c.args.kind (ledger f) (ledger u) (records f) (records u) c.args.root (take_out (beside_document c.args.doc) (tree_pairs (records f) c.args.root))
    (put (beside_document c.args.doc) (c.args.doc, c.args.reference) (tree_pairs (records f) c.args.root)) c.in_ok-next.next) c.reference_of-old.ensures.same
    (changes_pair c.args.kind (ledger s) (ledger t) (ledger u) (records s) (records t) (records u) c.args.root c.args.doc c.reference_of-old.result c.in_ok-next.next owns was
    (put (beside_document c.args.doc) (c.args.doc, c.args.reference) (tree_pairs (records s) c.args.root)) c.in_ok-next.ensures.makes c.set.ensures.may c.drop_items.ensures.turns)

pub returns-in_err-next-clause-counts : goal.returns-in_err-next-clause-counts
returns-in_err-next-clause-counts g c =
    let ledger = g.S.Store.ledger in
    let records = g.S.Frozen.records in
    subst (λ (f : g.row.S.Denot). CountsNodes (ledger f) (ledger c.set.new.store) (2 * levels (records f) c.args.root + 1)) c.reference_of-old.ensures.same c.set.ensures.counts

pub returns-clause-counts : goal.returns-clause-counts
returns-clause-counts g c =
    let ledger = g.S.Store.ledger in
    let records = g.S.Frozen.records in
    let s = c.reference_of-old.new.frozen in
    subst (λ (f : g.row.S.Denot). CountsNodes (ledger f) (ledger c.drop_items.new.store) (2 * levels (records f) c.args.root + 1)) c.reference_of-old.ensures.same
    (nodes-then (ledger s) (ledger c.set.new.store) (ledger c.drop_items.new.store) (2 * levels (records s) c.args.root + 1) c.set.ensures.counts c.drop_items.ensures.none_made)

pub returns-clause-may : goal.returns-clause-may
returns-clause-may g c =
    subst (λ (f : g.row.S.Denot). MayDo (g.S.Store.ledger f) (g.S.Store.ledger c.drop_items.new.store)) c.reference_of-old.ensures.same
    (may_do-then _ _ _ c.set.ensures.may c.drop_items.ensures.may)
