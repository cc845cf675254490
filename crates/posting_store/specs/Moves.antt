-- A list that was moved out of a buffer, as far as the way to one document.
use Rattle.std.specs.Prelude.{◌≡◌, ◌≢◌, ℕ, ◌+◌, ◌*◌, ◌/◌, Bool, true, false, nat_eq, nat_le, if◌then◌else◌, List, [], ◌∷◌, map}
use Rattle.std.specs.Ordering.{nat_cmp}
use Rattle.entry_ref.specs.References.{buffer_of}
use Rattle.entry_ref.specs.Records.{Records}
use Rattle.store_api.specs.Ledgers.{Ledger}
use Rattle.store_api.specs.Statuses.{in_use}
use Rattle.tree_read.specs.Trees.{tree_pairs}
use Rattle.tree_read.specs.declared.node_format.TheConstants.{NODE_WORDS}
use Rattle.frozen_btree.specs.Paths.{path_nodes, NoneIn}
use Rattle.image_format.specs.Postings.{ListForm, short, tree, vector, list_form}
use Rattle.image_format.specs.Words.{class_of}
use Rattle.image_format.specs.declared.TheConstants.{BLOCK_DOCUMENTS, MOST_SHORT}
use Rattle.bit_vector.specs.Changes.{vector_most}
use Rattle.bit_vector.specs.Moves.{moved_nodes, IsBlockApart}
use Rattle.posting_store.specs.Changes.{MakesList}
use Rattle.posting_store.specs.Keeps.{KeepsListBlocks}
use Rattle.posting_store.specs.Lists.{is_vector, list_at}

-- the documents of a list in the form of keys: a list that is a single record is one key, and a block of a bit vector is
-- the number with which its documents begin
abbrev pub form_docs : Records → ListForm → List ℕ
form_docs m (short ref) = 0 ∷ []
form_docs m (tree root) = map (λ p. p.0) (tree_pairs m root)
form_docs m (vector root) = map (λ p. BLOCK_DOCUMENTS * p.0) (tree_pairs m root)

-- nothing of a list on the way to a document lies in the buffer: neither its single record, nor the nodes of its tree, nor
-- the block of the document with the nodes on the way to it
abbrev pub FormIsApart : ℕ → ℕ → ℕ → Records → ListForm → Type 0
FormIsApart bits buffer doc m (short ref) = buffer_of bits ref ≢ buffer
FormIsApart bits buffer doc m (tree root) = NoneIn bits buffer (path_nodes m (λ key. nat_cmp key doc) root)
FormIsApart bits buffer doc m (vector root) = IsBlockApart bits buffer (doc / BLOCK_DOCUMENTS) m root

-- a list of the same form and the same documents, moved out of the buffer as far as the way to a document, was made in
-- place of another
pub record MovesWord {H : Type 0} (bits buffer doc : ℕ) (old new : Ledger H) (m n : Records) (word next : ℕ) : Type 0 where
  pub makes : MakesList old new m n word (list_at m word) (is_vector word) next
  pub apart : FormIsApart bits buffer doc n (list_form next)
  pub docs : form_docs n (list_form next) ≡ form_docs m (list_form word)
  pub blocks : KeepsListBlocks (λ r. in_use (old.status r) ≡ true) m n word next

-- for a list with this many levels of nodes and this many documents, whether it is a bit vector: one record if it is
-- short, a block and nodes if it is a bit vector, otherwise a node of each level
abbrev pub word_most : Bool → ℕ → ℕ → ℕ → ℕ
word_most true levels count width = vector_most 1 moved_nodes width
word_most false levels count width =
    if nat_le count MOST_SHORT then (if nat_eq width (class_of (1 + count)) then 1 else 0)
    else if nat_eq width NODE_WORDS then levels else 0
