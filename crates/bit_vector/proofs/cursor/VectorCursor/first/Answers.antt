use Rattle.std.proofs.Common.{◌≡◌, ℕ, List, sym, ap, subst, ◌∙◌, arith}
use Rattle.tree_read.specs.SearchPlaces.{pairs_from}
use Rattle.bit_vector.specs.Vectors.{blocks_documents}
use Rattle.bit_vector.specs.Walks.{documents_from, IsBlockPlace, IsVectorPlace}
use Rattle.bit_vector.proofs.WalkLemmas.{first_blocks}
use Rattle.bit_vector.proofs.cursor.VectorCursor.first.Goals as goal

pub enter-requires : goal.enter-requires
enter-requires g c =
    let records = g.F.Frozen.records in
    let m = records c.args.frozen.now in
    let at = first_blocks m c.args.root c.first.result c.requires.vector c.first.ensures.at c.first.ensures.pairs in
    (omega arith, subst (λ f. IsBlockPlace (records f) c.first.result) (sym c.first.ensures.same) at)

pub returns-clause-place : goal.returns-clause-place
returns-clause-place g c = subst (λ f. IsVectorPlace (g.F.Frozen.records f) c.enter.new.self) c.first.ensures.same c.enter.ensures.place

pub returns-clause-documents : goal.returns-clause-documents
returns-clause-documents g c =
    let records = g.F.Frozen.records in
    let m = records c.args.frozen.now in
    subst (λ (f : g.row.F.Denot). documents_from (records f) c.enter.new.self ≡ blocks_documents (records f) (pairs_from (records f) c.first.result)) c.first.ensures.same c.enter.ensures.documents
    ∙ ap (λ (ps : List (ℕ × ℕ)). blocks_documents m ps) c.first.ensures.pairs

pub returns-clause-same : goal.returns-clause-same
returns-clause-same g c = c.enter.ensures.same ∙ c.first.ensures.same
