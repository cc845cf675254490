use Rattle.std.proofs.Common.{◌+◌, rules, ◌≡◌, ◌∷◌, [], true, None, sym, subst, ap, ◌∙◌, arith}
use Rattle.std.specs.Prelude.{IsSome, unwrap_or}
use Rattle.tree_read.specs.Trees.{tree_pairs}
use Rattle.tree_read.specs.Pairs.{lookup as found}
use Rattle.tree_read.specs.Pairs.{take_out}
use Rattle.store_api.specs.Parts.{Owns}
use Rattle.store_api.specs.Units.{MayDo}
use Rattle.doc_vector.specs.Documents.{beside_document, IsDocumentMap}
use Rattle.image_format.specs.Documents.{column_at}
use Rattle.index_model.specs.Columns.{with_change}
use Rattle.attr_field.specs.DocumentsChanges.{AreBeside, MakesDocuments}
use Rattle.attr_field.specs.Documents.{documents_part, documents_refer, IsDocuments}
use Rattle.frozen_btree.specs.Changes.{levels}
use Rattle.frozen_btree.specs.Makes.{CountsNodes}
use Rattle.attr_field.proofs.DocumentsCountLemmas.{nodes-then}
use Rattle.attr_field.proofs.DocumentsChangeLemmas.{owns_tree, owns_old, changes_pair, makes_out, there_in_map}
use Rattle.store_api.proofs.May.{may_do-then}
use Rattle.attr_field.proofs.documents_changing.remove_document.Goals as goal

pub remove-requires : goal.remove-requires
remove-requires g c =
    let ledger = g.S.Store.ledger in
    let records = g.S.Frozen.records in
    let same = sym c.reference_of-old.ensures.same in
    let s = c.args.store.now in
    let t = c.reference_of-old.new.frozen in
    let owns = subst (λ f. Owns (ledger f) (records f) (documents_part c.args.kind c.args.root ∷ [])) same c.requires.owns in
    let was = c.reference_of-old.ensures.reference ∙ ap (λ (f : g.row.S.Denot). unwrap_or (found (beside_document c.args.doc) (tree_pairs (records f) c.args.root)) 0) same in (
      omega arith,
      (
        subst (λ f. (ledger f).unit ≡ true) same c.requires.unit,
        (
          subst (λ f. IsDocumentMap (records f) c.args.root) same c.requires.documents.map_is,
          (
            subst (λ (f : g.row.S.Denot). IsSome (found (beside_document c.args.doc) (tree_pairs (records f) c.args.root))) same
                (there_in_map c.args.kind c.args.value_type (ledger s) (ledger s) (records s) (records s) c.args.root c.args.doc c.requires.documents c.requires.owns c.requires.beside c.requires.there),
            owns_tree c.args.kind (ledger t) (ledger t) (ledger t) (records t) (records t) (records t) c.args.root c.args.doc c.reference_of-old.result 0 owns was,
          ),
        ),
      ),
    )

pub drop_items-requires : goal.drop_items-requires
drop_items-requires g c =
    let ledger = g.S.Store.ledger in
    let records = g.S.Frozen.records in
    let same = sym c.reference_of-old.ensures.same in
    let s = c.reference_of-old.new.frozen in
    let t = c.remove.new.store in
    let owns = subst (λ f. Owns (ledger f) (records f) (documents_part c.args.kind c.args.root ∷ [])) same c.requires.owns in
    let was = c.reference_of-old.ensures.reference ∙ ap (λ (f : g.row.S.Denot). unwrap_or (found (beside_document c.args.doc) (tree_pairs (records f) c.args.root)) 0) same in (
      omega arith,
      (
        search rules,
        owns_old c.args.kind (ledger s) (ledger t) (ledger t) (records s) (records t) (records t) c.args.root c.args.doc c.reference_of-old.result c.in_ok-next.next owns was
            (take_out (beside_document c.args.doc) (tree_pairs (records s) c.args.root)) c.in_ok-next.ensures.makes,
      ),
    )

pub returns-clause-makes : goal.returns-clause-makes
returns-clause-makes g c =
    let ledger = g.S.Store.ledger in
    let records = g.S.Frozen.records in
    let same = sym c.reference_of-old.ensures.same in
    let s = c.reference_of-old.new.frozen in
    let t = c.remove.new.store in
    let u = c.drop_items.new.store in
    let kind = c.args.kind in
    let type = c.args.value_type in
    let owns = subst (λ f. Owns (ledger f) (records f) (documents_part kind c.args.root ∷ [])) same c.requires.owns in
    let is = subst (λ f. IsDocuments kind type (records f) c.args.root) same c.requires.documents in
    let values = subst (λ (f : g.row.S.Denot). AreBeside (ledger f) (records f) (documents_part kind c.args.root ∷ []) (documents_refer kind (records f) c.args.root)) same c.requires.beside in
    let was = c.reference_of-old.ensures.reference ∙ ap (λ (f : g.row.S.Denot). unwrap_or (found (beside_document c.args.doc) (tree_pairs (records f) c.args.root)) 0) same in
    subst (λ (f : g.row.S.Denot). MakesDocuments kind type (ledger f) (ledger u) (records f) (records u) c.args.root []
    (with_change (column_at kind type (records f) c.args.root) c.args.doc None) c.in_ok-next.next) c.reference_of-old.ensures.same
    (makes_out kind type (ledger s) (ledger u) (records s) (records u) c.args.root c.args.doc is owns values c.in_ok-next.next
    (changes_pair kind (ledger s) (ledger t) (ledger u) (records s) (records t) (records u) c.args.root c.args.doc c.reference_of-old.result c.in_ok-next.next owns was
    (take_out (beside_document c.args.doc) (tree_pairs (records s) c.args.root)) c.in_ok-next.ensures.makes c.remove.ensures.may c.drop_items.ensures.turns))

pub returns-in_err-next-clause-counts : goal.returns-in_err-next-clause-counts
returns-in_err-next-clause-counts g c =
    let ledger = g.S.Store.ledger in
    let records = g.S.Frozen.records in
    subst (λ (f : g.row.S.Denot). CountsNodes (ledger f) (ledger c.remove.new.store) (levels (records f) c.args.root + 1)) c.reference_of-old.ensures.same c.remove.ensures.counts

pub returns-clause-counts : goal.returns-clause-counts
returns-clause-counts g c =
    let ledger = g.S.Store.ledger in
    let records = g.S.Frozen.records in
    let s = c.reference_of-old.new.frozen in
    subst (λ (f : g.row.S.Denot). CountsNodes (ledger f) (ledger c.drop_items.new.store) (levels (records f) c.args.root + 1)) c.reference_of-old.ensures.same
    (nodes-then (ledger s) (ledger c.remove.new.store) (ledger c.drop_items.new.store) (levels (records s) c.args.root + 1) c.remove.ensures.counts c.drop_items.ensures.none_made)

pub returns-clause-may : goal.returns-clause-may
returns-clause-may g c =
    subst (λ (f : g.row.S.Denot). MayDo (g.S.Store.ledger f) (g.S.Store.ledger c.drop_items.new.store)) c.reference_of-old.ensures.same
    (may_do-then _ _ _ c.remove.ensures.may c.drop_items.ensures.may)
