-- A walk along the documents of an attribute.
use Rattle.std.specs.Prelude.{◌≡◌, ◌≢◌, ℕ, ◌≤◌, []}
use Rattle.entry_ref.specs.Records.{Records}
use Rattle.tree_read.specs.Pairs.{lookup}
use Rattle.tree_read.specs.SearchPlaces.{CursorPlace, first_key, pairs_from, IsAt}
use Rattle.tree_read.specs.Trees.{tree_pairs}
use Rattle.doc_vector.specs.Documents.{beside_document}

-- a position from which this document and every later one is found as in the whole map
pub record IsBefore (m : Records) (root doc : ℕ) (at : CursorPlace) : Type 0 where
  pub at_is : IsAt m at
  pub rest : (later : ℕ) → doc ≤ later → lookup (beside_document later) (pairs_from m at) ≡ lookup (beside_document later) (tree_pairs m root)

-- the document that follows, if there is one, is not below this one
abbrev pub IsPast : Records → ℕ → CursorPlace → Type 0
IsPast m doc at = pairs_from m at ≢ [] → doc ≤ first_key (pairs_from m at)

-- a walk: its position, and the first document that is sought from there
pub record WalkView : Type 0 where
  pub cursor : CursorPlace
  pub from : ℕ

abbrev pub IsWalk : Records → ℕ → WalkView → Type 0
IsWalk m root walk = IsBefore m root walk.from walk.cursor
