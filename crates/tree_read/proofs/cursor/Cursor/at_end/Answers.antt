use Rattle.std.proofs.Common.{◌≡◌, [], IsTrue, leb, subst}
use Rattle.tree_read.specs.SearchPlaces.{CursorPlace, IsAt, pairs_from}
use Rattle.tree_read.proofs.PlaceLemmas.{end-pairs}
use Rattle.tree_read.proofs.cursor.Cursor.at_end.Goals as goal

pub returns-clause-pairs : goal.returns-clause-pairs
returns-clause-pairs g c m =
    let inside = c.self.inside in
    let past = leb inside.used inside.slot in
    subst (λ (p : CursorPlace). IsAt m p → (IsTrue past → pairs_from m p ≡ []) × (pairs_from m p ≡ [] → IsTrue past)) c.self.view_is
    (end-pairs m (record { root = inside.root; path = inside.path; leaf = inside.leaf; slot = inside.slot; used = inside.used; words = inside.words }))
